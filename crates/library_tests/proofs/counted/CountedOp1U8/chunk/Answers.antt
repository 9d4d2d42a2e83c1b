use Rattle.std.proofs.lemmas.Simd.{zip2_splat}
use Rattle.library_tests.proofs.counted.CountedOp1U8.chunk.Goals as goal

pub returns : goal.returns
returns g c = zip2_splat _ c.args.a g.row.W 1 c.fits-a.0
