use Rattle.std.proofs.Common.{◌≡◌, ◌<◌, ◌+◌, ◌-◌, ◌*◌, ◌/◌, ◌%◌, ◌^◌, ℕ}
use Rattle.active_lanes.specs.Kept.{kept}
use Rattle.active_lanes.proofs.kept_words.masked.Given as goal

abbrev pub invariant-loop-t : goal.invariant-loop-t
invariant-loop-t l = record {
  bytes : (i : ℕ) → i < 8 - l.t → l.so_far / 2 ^ (8 * i) % 256 ≡ kept (l.w) l.field l.word (l.t + i);
  small : l.so_far < 2 ^ ((8 - l.t) * 8);
}
