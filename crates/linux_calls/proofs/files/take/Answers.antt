use Rattle.std.proofs.Common.{◌≡◌}
use Rattle.linux_calls.proofs.Actions.{taken_whole}
use Rattle.linux_calls.proofs.files.take.Goals as goal

pub returns-clause-replied : goal.returns-clause-replied
returns-clause-replied g c = taken_whole c.args.ranges.now c.args.mem.now.memory c.take_ranges.new.mem.memory c.in_ok-count.count _ _ (c.take_ranges.new.source ≡ c.args.input.now) c.in_ok-count.ensures.took c.in_ok-count.ensures.all
