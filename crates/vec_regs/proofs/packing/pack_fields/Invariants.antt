use Rattle.std.proofs.Common.{◌≡◌, ◌<◌, ◌≤◌, ◌*◌, ◌/◌, ℕ, false, get_or, length}
use Rattle.emu_model.specs.Lanes.{field_bit}
use Rattle.vec_regs.specs.Words.{bit_of}
use Rattle.vec_regs.proofs.packing.pack_fields.Given as goal

abbrev pub invariant-loop-k : goal.invariant-loop-k
invariant-loop-k l = record {
  count : length l.words ≡ 4;
  done : (i : ℕ) → i < l.k * (l.e / 8) → bit_of l.words i ≡ field_bit (l.e / 8) (λ k. get_or l.flags k false) i;
  rest : (i : ℕ) → l.k * (l.e / 8) ≤ i → bit_of l.words i ≡ false;
}
