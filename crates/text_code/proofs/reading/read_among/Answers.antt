use Rattle.std.proofs.Common.{◌≡◌, true, Ok, Err, List, [], ◌∷◌, sym, ap, ◌∙◌, subst}
use Rattle.text_model.specs.declared.slots.Refusal.{Refusal}
use Rattle.text_model.specs.Reading.{Pattern, Operands, best}
use Rattle.text_code.specs.declared.patterns.Spot.{Spot}
use Rattle.text_code.specs.Reads.{at_spot, at_spots, are_spots, all_sound, answer_named, reads_named, read_of}
use Rattle.text_code.proofs.Steps.{none_left}
use Rattle.text_code.proofs.Whole.{first_spot, more_spots, one_sound, more_sound, then_refused, then_read, last_refusal}
use Rattle.text_code.proofs.reading.read_among.Goals as goal

pub pattern_at-requires : goal.pattern_at-requires
pattern_at-requires g c =
    let pss = g.T.Table.lines c.args.table.now in
    first_spot pss c.in-Some.spot.now c.in-Some.more.now (sym (ap (are_spots pss) c.in-Some.ensures.cases.0) ∙ c.loop-spot.invariant.1)

pub read_by-requires : goal.read_by-requires
read_by-requires g c =
    let pss = g.T.Table.lines c.args.table.now in
    let s = c.in-Some.spot.now in
    let h : all_sound (at_spots pss (s ∷ c.in-Some.more.now)) ≡ true = sym (ap (λ (ss : List Spot). all_sound (at_spots pss ss)) c.in-Some.ensures.cases.0) ∙ c.loop-spot.invariant.2 in
    subst (λ (p : Pattern). all_sound (p ∷ []) ≡ true) (sym c.pattern_at.ensures) (one_sound (at_spot pss s) (at_spots pss c.in-Some.more.now) h)

pub returns-in-Ok : goal.returns-in-Ok
returns-in-Ok g c =
    let t = g.T.Table.in_table c.args.table.now in
    let pss = g.T.Table.lines c.args.table.now in
    let o : Operands = record { items = c.args.items.now; untargeted = c.args.untargeted.now } in
    let refusal = c.loop-spot.refusal in
    let told : read_of (Ok c.in-Ok.read) ≡ answer_named t (at_spot pss c.in-Some.spot.now) o = ap read_of (sym c.in-Ok.is) ∙ c.read_by.ensures ∙ ap (λ (p : Pattern). answer_named t p o) c.pattern_at.ensures in
    sym (c.loop-spot.invariant.0 ∙ ap (λ (ss : List Spot). best (Err refusal) (reads_named t (at_spots pss ss) o)) c.in-Some.ensures.cases.0
    ∙ then_read t (at_spot pss c.in-Some.spot.now) (at_spots pss c.in-Some.more.now) o refusal (record { word = c.in-Ok.read.0; aimed = c.in-Ok.read.1 }) told)

pub loop-spot-preserved : goal.loop-spot-preserved
loop-spot-preserved g c =
    let t = g.T.Table.in_table c.args.table.now in
    let pss = g.T.Table.lines c.args.table.now in
    let o : Operands = record { items = c.args.items.now; untargeted = c.args.untargeted.now } in
    let s = c.in-Some.spot.now in
    let more = c.in-Some.more.now in
    let refusal = c.loop-spot.refusal in
    let cases = c.in-Some.ensures.cases.0 in
    let told : Err c.in-Err.refused ≡ answer_named t (at_spot pss c.in-Some.spot.now) o = ap read_of (sym c.in-Err.is) ∙ c.read_by.ensures ∙ ap (λ (p : Pattern). answer_named t p o) c.pattern_at.ensures in (
      c.loop-spot.invariant.0 ∙ ap (λ (ss : List Spot). best (Err refusal) (reads_named t (at_spots pss ss) o)) cases
          ∙ then_refused t (at_spot pss s) (at_spots pss more) o refusal c.in-Err.refused told
          ∙ ap (λ (r : Refusal). best (Err r) (reads_named t (at_spots pss more) o)) (sym c.later-refusal.ensures),
      more_spots pss s more (sym (ap (are_spots pss) cases) ∙ c.loop-spot.invariant.1),
      more_sound (at_spot pss s) (at_spots pss more) (sym (ap (λ (ss : List Spot). all_sound (at_spots pss ss)) cases) ∙ c.loop-spot.invariant.2),
    )

pub returns : goal.returns
returns g c =
    let t = g.T.Table.in_table c.args.table.now in
    let pss = g.T.Table.lines c.args.table.now in
    let o : Operands = record { items = c.args.items.now; untargeted = c.args.untargeted.now } in
    let refusal = c.loop-spot.refusal in
    sym (c.loop-spot.invariant.0 ∙ ap (λ (ss : List Spot). best (Err refusal) (reads_named t (at_spots pss ss) o)) (none_left c.loop-spot.left.now c.in_default.ensures.cases) ∙ last_refusal refusal)
