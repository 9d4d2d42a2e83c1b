use Rattle.std.proofs.Common.{◌≡◌, ◌++◌, nat_eq, take, drop}
use Rattle.std.specs.Simd.Lanes.{zip2}
use Rattle.library_tests.proofs.counted.each_equal.Given as goal

abbrev pub invariant-loop-k : goal.invariant-loop-k
invariant-loop-k l = take l.k l.out ++ zip2 nat_eq (drop l.k l.a) (drop l.k l.b) ≡ zip2 nat_eq l.a l.b
