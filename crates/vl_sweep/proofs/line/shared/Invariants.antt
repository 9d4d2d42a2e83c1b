use Rattle.std.proofs.Common.{◌≡◌, ◌+◌, drop, nat_eq}
use Rattle.std.specs.List.{common_prefix_len}
use Rattle.vl_sweep.proofs.line.shared.Given as goal

abbrev pub invariant-bytes : goal.invariant-bytes
invariant-bytes l = common_prefix_len nat_eq l.first l.output ≡ l.at + common_prefix_len nat_eq (drop l.at l.first) (drop l.at l.output)
