use Rattle.std.proofs.Common.{◌≡◌, ◌+◌, ◌-◌, ◌++◌, [], suc, drop, is_none, refl, sym, ap, ◌∙◌, arith}
use Rattle.emu_model.specs.State.{Parts}
use Rattle.emu_run.specs.Step.{accesses, step_from}
use Rattle.io_gate.specs.Lent.{Lent}
use Rattle.emu_report.proofs.Puts.{put_both, put_equal}
use Rattle.trace_lines.proofs.Putting.{put_none}
use Rattle.trace_options.specs.Windows.{first_stage, is_over}
use Rattle.step_traces.specs.Traces.{told_lines}
use Rattle.step_traces.proofs.Walking.{ended_over, goes, goes_whole, going_of, going_on, going_over, last_all, last_ended, left_all, left_before, left_ended, not_ended, over_other, told_all, told_next, told_nothing, told_over}
use Rattle.step_traces.proofs.walk.trace.Goals as goal

pub walk-init : goal.walk-init
walk-init g c = record {
  failed = goes_whole c.args.machine.now c.requires.going;
  failed_ahead = goes_whole c.args.ahead.now c.requires.whole;
  going = goes c.args.machine.now c.requires.going;
  same = c.requires.same;
  rest = ap (λ (l : Lent). drop l.place l.bytes) c.new-source_ahead.ensures ∙ sym (ap (λ (l : Lent). drop l.place l.bytes) c.new-source.ensures);
  text = [];
  put = put_none _;
  told = told_nothing c.args.shown.now c.args.window.now (first_stage c.args.window.now) c.args.machine.now.parts c.args.input.now (drop c.new-source.result.place c.new-source.result.bytes) (c.args.budget - c.args.machine.now.parts.steps)
      (ap (λ (l : Lent). drop l.place l.bytes) c.new-source.ensures);
  kept = refl;
}

pub take_both-requires-clause-going : goal.take_both-requires-clause-going
take_both-requires-clause-going g c = not_ended c.walk.machine c.walk.invariant.going c.walk.invariant.failed

pub take_both-requires-clause-whole : goal.take_both-requires-clause-whole
take_both-requires-clause-whole g c = not_ended c.walk.ahead (ap (λ (m : Parts). is_none m.ended) c.walk.invariant.same ∙ c.walk.invariant.going) c.walk.invariant.failed_ahead

pub take_both-requires-clause-room : goal.take_both-requires-clause-room
take_both-requires-clause-room g c = let now = c.steps.ensures in let test = c.walk-test.true in omega (arith, now, test)

pub walk-preserved : goal.walk-preserved
walk-preserved g c =
    let w = c.args.window.now in
    let m = c.walk.machine.parts in
    let rest = drop c.walk.source.place c.walk.source.bytes in
    let goes_on_here = going_on w c.walk.stage m c.walk.invariant.going (ap is_over (sym c.stage_before-stage.ensures) ∙ sym c.is_over.ensures ∙ c.if-is_over.false) in
    let told_here = told_lines c.args.shown.now w c.stage_before-stage.result m (step_from m rest).parts (accesses m) in
    let now = c.steps.ensures in
    let test = c.walk-test.true in
    let one : c.take_both.new.machine.parts.steps ≡ m.steps + 1 = c.in_ok-end.ensures.counted c.in-Going.is in
    let more : c.args.budget - m.steps ≡ suc (c.args.budget - c.take_both.new.machine.parts.steps) = omega (arith, now, test, one) in
    record {
      failed = c.in_ok-end.ensures.failed;
      failed_ahead = c.in_ok-end.ensures.failed_ahead;
      going = going_of c.take_both.new.machine.parts.ended c.in_ok-end.end c.in-Going.is c.in_ok-end.ensures.end;
      same = c.in_ok-end.ensures.same;
      rest = c.in_ok-end.ensures.rest;
      text = c.walk.invariant.text ++ told_here;
      put = put_both _ _ _ c.walk.invariant.text told_here c.walk.invariant.put c.in_ok-end.ensures.bytes;
      told = told_next _ _ _ _ _ _ _ _ _ _ _ c.walk.invariant.told c.stage_before-stage.result c.behind-stage.result (c.args.budget - c.take_both.new.machine.parts.steps)
          c.stage_before-stage.ensures c.behind-stage.ensures more goes_on_here c.take_both.new.machine.parts (drop c.take_both.new.source.place c.take_both.new.source.bytes) c.in_ok-end.ensures.parts c.in_ok-end.ensures.input;
      kept = c.in_ok-end.ensures.cause.kept ∙ c.walk.invariant.kept;
    }

-- the window was left

pub returns-then-is_over-clause-bytes : goal.returns-then-is_over-clause-bytes
returns-then-is_over-clause-bytes g c =
    let over = going_over c.args.window.now c.walk.stage c.walk.machine.parts c.walk.invariant.going (ap is_over (sym c.stage_before-stage.ensures) ∙ sym c.is_over.ensures ∙ c.if-is_over.true) in
    put_equal _ _ _ _ (sym (told_over _ _ _ _ _ _ _ _ _ _ _ c.walk.invariant.told over)) c.walk.invariant.put

pub returns-then-is_over-clause-left : goal.returns-then-is_over-clause-left
returns-then-is_over-clause-left g c =
    let m = c.walk.machine.parts in
    let over = going_over c.args.window.now c.walk.stage m c.walk.invariant.going (ap is_over (sym c.stage_before-stage.ensures) ∙ sym c.is_over.ensures ∙ c.if-is_over.true) in
    let now = c.steps.ensures in
    let test = c.walk-test.true in
    left_before _ _ _ _ _ _ _ _ _ _ _ c.walk.invariant.told (c.args.budget - m.steps - 1) (omega (arith, now, test)) c.walk.invariant.going over

pub returns-then-is_over-clause-parts : goal.returns-then-is_over-clause-parts
returns-then-is_over-clause-parts g c =
    let over = going_over c.args.window.now c.walk.stage c.walk.machine.parts c.walk.invariant.going (ap is_over (sym c.stage_before-stage.ensures) ∙ sym c.is_over.ensures ∙ c.if-is_over.true) in
    last_ended _ _ _ _ _ _ _ _ _ _ _ c.walk.invariant.told over

-- the budget is spent

pub returns-clause-bytes : goal.returns-clause-bytes
returns-clause-bytes g c =
    let now = c.steps.ensures in
    let test = c.walk-test.false in
    put_equal _ _ _ _ (sym (told_all _ _ _ _ _ _ _ _ _ _ _ c.walk.invariant.told (omega (arith, now, test)))) c.walk.invariant.put

pub returns-clause-left : goal.returns-clause-left
returns-clause-left g c =
    let now = c.steps.ensures in
    let test = c.walk-test.false in
    left_all _ _ _ _ _ _ _ _ _ _ _ c.walk.invariant.told (omega (arith, now, test))

pub returns-clause-parts : goal.returns-clause-parts
returns-clause-parts g c =
    let now = c.steps.ensures in
    let test = c.walk-test.false in
    last_all _ _ _ _ _ _ _ _ _ _ _ c.walk.invariant.told (omega (arith, now, test))

-- the machine has ended

pub returns-in_default-clause-bytes : goal.returns-in_default-clause-bytes
returns-in_default-clause-bytes g c =
    let w = c.args.window.now in
    let m = c.walk.machine.parts in
    let rest = drop c.walk.source.place c.walk.source.bytes in
    let q = c.take_both.new.machine.parts in
    let goes_on_here = going_on w c.walk.stage m c.walk.invariant.going (ap is_over (sym c.stage_before-stage.ensures) ∙ sym c.is_over.ensures ∙ c.if-is_over.false) in
    let told_here = told_lines c.args.shown.now w c.stage_before-stage.result m (step_from m rest).parts (accesses m) in
    let now = c.steps.ensures in
    let test = c.walk-test.true in
    let has = told_next _ _ _ _ _ _ _ _ _ _ _ c.walk.invariant.told c.stage_before-stage.result c.behind-stage.result (c.args.budget - m.steps - 1)
    c.stage_before-stage.ensures c.behind-stage.ensures (omega (arith, now, test)) goes_on_here q (drop c.take_both.new.source.place c.take_both.new.source.bytes) c.in_ok-end.ensures.parts c.in_ok-end.ensures.input in
    let over = over_other q.ended c.in_ok-end.end c.in_default.not-Going c.in_ok-end.ensures.end in
    put_equal _ _ _ _ (sym (told_over _ _ _ _ _ _ _ _ _ _ _ has (ended_over w c.behind-stage.result q over))) (put_both _ _ _ c.walk.invariant.text told_here c.walk.invariant.put c.in_ok-end.ensures.bytes)

pub returns-in_default-clause-left : goal.returns-in_default-clause-left
returns-in_default-clause-left g c =
    let w = c.args.window.now in
    let m = c.walk.machine.parts in
    let q = c.take_both.new.machine.parts in
    let goes_on_here = going_on w c.walk.stage m c.walk.invariant.going (ap is_over (sym c.stage_before-stage.ensures) ∙ sym c.is_over.ensures ∙ c.if-is_over.false) in
    let now = c.steps.ensures in
    let test = c.walk-test.true in
    let has = told_next _ _ _ _ _ _ _ _ _ _ _ c.walk.invariant.told c.stage_before-stage.result c.behind-stage.result (c.args.budget - m.steps - 1)
    c.stage_before-stage.ensures c.behind-stage.ensures (omega (arith, now, test)) goes_on_here q (drop c.take_both.new.source.place c.take_both.new.source.bytes) c.in_ok-end.ensures.parts c.in_ok-end.ensures.input in
    left_ended _ _ _ _ _ _ _ _ _ _ _ has (over_other q.ended c.in_ok-end.end c.in_default.not-Going c.in_ok-end.ensures.end)

pub returns-in_default-clause-parts : goal.returns-in_default-clause-parts
returns-in_default-clause-parts g c =
    let w = c.args.window.now in
    let m = c.walk.machine.parts in
    let q = c.take_both.new.machine.parts in
    let goes_on_here = going_on w c.walk.stage m c.walk.invariant.going (ap is_over (sym c.stage_before-stage.ensures) ∙ sym c.is_over.ensures ∙ c.if-is_over.false) in
    let now = c.steps.ensures in
    let test = c.walk-test.true in
    let has = told_next _ _ _ _ _ _ _ _ _ _ _ c.walk.invariant.told c.stage_before-stage.result c.behind-stage.result (c.args.budget - m.steps - 1)
    c.stage_before-stage.ensures c.behind-stage.ensures (omega (arith, now, test)) goes_on_here q (drop c.take_both.new.source.place c.take_both.new.source.bytes) c.in_ok-end.ensures.parts c.in_ok-end.ensures.input in
    last_ended _ _ _ _ _ _ _ _ _ _ _ has (ended_over w c.behind-stage.result q (over_other q.ended c.in_ok-end.end c.in_default.not-Going c.in_ok-end.ensures.end))

pub returns-in_default-clause-cause : goal.returns-in_default-clause-cause
returns-in_default-clause-cause g c =
    let same : g.S.Sink.faults c.take_both.new.sink ≡ g.S.Sink.faults c.args.sink.now = c.in_ok-end.ensures.cause.kept ∙ c.walk.invariant.kept in
    record { later = omega (arith, same); failed = tt; kept = same }
