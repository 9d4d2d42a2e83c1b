use Rattle.std.proofs.Common.{◌+◌, ◌%◌, ◌^◌}
use Rattle.library_tests.proofs.Zips.{nested}
use Rattle.library_tests.proofs.counted.CountedOp3U8.chunk.Goals as goal

pub returns : goal.returns
returns g c = nested (λ x y. (x + y) % 2 ^ 8) (λ x y. (x + y) % 2 ^ 8) c.args.a c.args.b c.args.c
