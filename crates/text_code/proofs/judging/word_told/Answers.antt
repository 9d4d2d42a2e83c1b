use Rattle.std.proofs.Common.{ap}
use Rattle.text_model.specs.Told.{Built, built}
use Rattle.text_code.specs.Tables.{built_of}
use Rattle.text_code.proofs.Steps.{first_sound, rest_sound}
use Rattle.text_code.proofs.Judged.{told_on, told_out, told_all}
use Rattle.text_code.proofs.judging.word_told.Goals as goal

pub loop-slot-preserved : goal.loop-slot-preserved
loop-slot-preserved c =
    let l = c.in-Some.ensures.cases.0 in (
      told_on c.loop-slot.left.now c.in-Some.more.now c.loop-slot.next.now c.in-Some-split_first.rest.now c.in-Some.slot.now c.in-Some-split_first.item.now l
          (built_of c.loop-slot.built) (built_of c.told_by-built.result) (built (record { mask = 0; word = c.args.base }) c.args.slots.now c.args.items.now)
          c.in-Some-split_first.ensures.cases.0 c.loop-slot.invariant.0 c.told_by-built.ensures,
      rest_sound c.loop-slot.left.now c.in-Some.more.now c.in-Some.slot.now l c.loop-slot.invariant.1,
    )

pub returns-in_default-split_first : goal.returns-in_default-split_first
returns-in_default-split_first c =
    ap (λ (b : Built). b.word) (told_out c.loop-slot.left.now c.in-Some.more.now c.loop-slot.next.now c.in-Some.slot.now (built_of c.loop-slot.built)
    (built (record { mask = 0; word = c.args.base }) c.args.slots.now c.args.items.now) c.in-Some.ensures.cases.0 c.in_default-split_first.ensures.cases c.loop-slot.invariant.0)

pub told_by-built-requires : goal.told_by-built-requires
told_by-built-requires c = first_sound c.loop-slot.left.now c.in-Some.more.now c.in-Some.slot.now c.in-Some.ensures.cases.0 c.loop-slot.invariant.1

pub returns : goal.returns
returns c =
    ap (λ (b : Built). b.word) (told_all c.loop-slot.left.now c.loop-slot.next.now (built_of c.loop-slot.built)
    (built (record { mask = 0; word = c.args.base }) c.args.slots.now c.args.items.now) c.in_default.ensures.cases c.loop-slot.invariant.0)
