use Rattle.std.proofs.Common.{◌≡◌, length, ◌∷◌, sym, ap, ◌∙◌, arith}
use Rattle.text_model.specs.declared.slots.Kind.{Kind}
use Rattle.text_model.specs.Slots.{places}
use Rattle.text_model.specs.Aim.{reach_of, reach_or}
use Rattle.text_code.proofs.Steps.{first_sound, rest_sound}
use Rattle.text_code.proofs.Targets.{target_sound, reach_behind}
use Rattle.text_code.proofs.aiming.+reach_of.Goals as goal

pub reach_of-requires : goal.reach_of-requires
reach_of-requires t c =
    let l : length c.args.slots.now ≡ length (c.in-Some.slot.now ∷ c.in-Some.more.now) = ap length c.in-Some.ensures.cases.0 in
    (omega (arith, l), rest_sound c.args.slots.now c.in-Some.more.now c.in-Some.slot.now c.in-Some.ensures.cases.0 c.requires)

pub returns-in-Target-clause-told : goal.returns-in-Target-clause-told
returns-in-Target-clause-told t c =
    sym (ap reach_of c.in-Some.ensures.cases.0 ∙ ap (λ (k : Kind). reach_or k (places c.in-Some.slot.now.codec.parts) (reach_of c.in-Some.more.now)) c.in-Target.is)

pub returns-in-Target-clause-sound : goal.returns-in-Target-clause-sound
returns-in-Target-clause-sound t c =
    target_sound c.in-Some.slot.now c.in-Target.by c.in-Target.page c.in-Target.is (first_sound c.args.slots.now c.in-Some.more.now c.in-Some.slot.now c.in-Some.ensures.cases.0 c.requires)

pub returns-in_default : goal.returns-in_default
returns-in_default t c =
    let k : Kind = c.in-Some.slot.now.codec.kind in
    let ps = places c.in-Some.slot.now.codec.parts in
    record {
      told = c.reach_of.ensures.told ∙ reach_behind k ps (reach_of c.in-Some.more.now) c.in_default.not-Target ∙ sym (ap reach_of c.in-Some.ensures.cases.0);
      sound = c.reach_of.ensures.sound;
    }
