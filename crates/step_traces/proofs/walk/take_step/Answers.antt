use Rattle.std.proofs.Common.{◌≡◌, false, ◌∙◌}
use Rattle.emu_machine.specs.Ends.{is_undone}
use Rattle.step_traces.proofs.Walking.{not_undone, some_is}
use Rattle.step_traces.proofs.walk.take_step.Goals as goal

pub returns : goal.returns
returns c =
    let fine : is_undone c.step.result ≡ false = not_undone c.step.result c.step.ensures.read_cause.rose c.step.ensures.write_cause.rose c.step.ensures.errors_cause.rose in
    record {
      parts = (c.step.ensures.state fine).0;
      input = some_is _ _ (c.step.ensures.state fine).1;
      end = c.step.ensures.end fine;
      counted = c.step.ensures.counted;
      failed = c.step.ensures.failed ∙ fine;
      accesses = c.step.ensures.accesses;
    }
