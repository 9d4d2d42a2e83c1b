use Rattle.std.proofs.Common.{refl, arith}
use Rattle.lane_pack.proofs.Places.{zero_words}
use Rattle.lane_pack.proofs.packed_words.pack.Goals as goal

pub loop-i-init : goal.loop-i-init
loop-i-init g c = record { count = refl; done = λ k h. absurd (omega arith); rest = λ k h. zero_words 32 k }
