use Rattle.std.proofs.Common.{arith, ◌∙◌}
use Rattle.emu_machine.proofs.Written.{copied}
use Rattle.emu_machine.proofs.load.copy.Goals as goal

pub loop-at-preserved : goal.loop-at-preserved
loop-at-preserved c =
    let end = c.min-end.ensures in
    record {
      within = omega (arith, end);
      rest = copied c.loop-at.pages.memory c.write.new.self.memory c.args.bytes.now c.args.address c.loop-at.at c.min-end.result (omega (arith, end)) (omega (arith, end)) c.write.ensures.bytes ∙ c.loop-at.invariant.rest;
      marks = c.write.ensures.marks ∙ c.loop-at.invariant.marks;
    }
