use Rattle.std.proofs.Common.{◌≡◌, ◌/◌, ℕ, List, length, replicate, refl, subst, arith}
use Rattle.emu_model.specs.SoundState.{IsVectorLength}
use Rattle.std.proofs.lemmas.List.Elements.{All-replicate}
use Rattle.vec_regs.specs.Words.{AreZeroFrom, AreClearFrom}
use Rattle.vec_regs.proofs.Views.{zero_shown, zero_word, zero_bit}
use Rattle.vec_regs.proofs.VecRegs.new.Goals as goal

pub invariant_of-result : goal.invariant_of-result
invariant_of-result c = record {
  most = subst IsVectorLength c.bits-bits.ensures.value c.bits-bits.ensures.length;
  length = subst IsVectorLength c.bits-bits.ensures.value c.bits-bits.ensures.length;
  within = omega arith;
  z_count = refl;
  z_width = All-replicate (λ (ws : List ℕ). length ws ≡ 32) 32 (replicate 32 0) refl;
  z = All-replicate (AreZeroFrom (c.args.l / 64)) 32 (replicate 32 0) (λ k h. zero_word 32 k);
  p_count = refl;
  p_width = All-replicate (λ (ws : List ℕ). length ws ≡ 4) 16 (replicate 4 0) refl;
  p = All-replicate (AreClearFrom (c.args.l / 8)) 16 (replicate 4 0) (λ j h. zero_bit 4 j);
  ffr = λ j h. zero_bit 4 j;
}

pub returns : goal.returns
returns c = zero_shown c.args.l
