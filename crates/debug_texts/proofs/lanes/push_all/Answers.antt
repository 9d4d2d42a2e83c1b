use Rattle.emu_bits.specs.Flags.{size_of}
use Rattle.emu_report.proofs.Lines.{lines_appended}
use Rattle.debug_texts.specs.Lanes.{lane_line}
use Rattle.debug_texts.proofs.lanes.push_all.Goals as goal

pub lanes-preserved : goal.lanes-preserved
lanes-preserved c = lines_appended _ _ _ (lane_line c.args.before.now c.args.now.now (size_of c.args.size) c.args.things.now) c.lanes.i c.lanes.invariant (let h = c.in_ok-push_line.ensures in h)
