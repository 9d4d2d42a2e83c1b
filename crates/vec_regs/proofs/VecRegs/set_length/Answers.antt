use Rattle.std.proofs.Common.{◌≡◌, ◌≤◌, ◌/◌, ◌∙◌, ℕ, List, length, map, get_or, replicate, refl, sym, subst, arith}
use Rattle.std.specs.List.{All}
use Rattle.std.proofs.lemmas.List.{length-map}
use Rattle.std.proofs.lemmas.List.Elements.{All-map, All-replicate}
use Rattle.emu_model.specs.SoundState.{IsVectorLength}
use Rattle.emu_model.specs.State.{Vectors}
use Rattle.vec_regs.specs.Packed.{low_words}
use Rattle.vec_regs.specs.Words.{AreZeroFrom, AreClearFrom}
use Rattle.vec_regs.proofs.Low.{cleared_shown, low_above}
use Rattle.vec_regs.proofs.Views.{zero_bit}
use Rattle.vec_regs.proofs.VecRegs.set_length.Goals as goal

pub invariant_of-self : goal.invariant_of-self
invariant_of-self c =
    let lawful : IsVectorLength c.args.l = subst IsVectorLength c.bits-bits.ensures.value c.bits-bits.ensures.length in
    let two : 2 ≤ c.args.l / 64 = omega (arith, lawful.least) in
    let width : All (λ (ws : List ℕ). length ws ≡ 32) (map low_words c.self.inside.z) = All-map (λ (ws : List ℕ). length ws ≡ 32) low_words c.self.inside.z (λ k d h. refl) in
    let zero : All (AreZeroFrom (c.args.l / 64)) (map low_words c.self.inside.z) = All-map (AreZeroFrom (c.args.l / 64)) low_words c.self.inside.z (λ k d h. low_above (c.args.l / 64) (get_or c.self.inside.z k d) two) in
    record {
      most = c.self.invariant.most;
      length = lawful;
      within = subst (λ (v : Vectors). c.args.l ≤ v.most) (sym c.self.view_is) c.requires;
      z_count = subst (λ (z : List (List ℕ)). length z ≡ 32) (sym c.keep_low.ensures) (length-map c.self.inside.z low_words ∙ c.self.invariant.z_count);
      z_width = subst (All (λ (ws : List ℕ). length ws ≡ 32)) (sym c.keep_low.ensures) width;
      z = subst (All (AreZeroFrom (c.args.l / 64))) (sym c.keep_low.ensures) zero;
      p_count = refl;
      p_width = All-replicate (λ (ws : List ℕ). length ws ≡ 4) 16 (replicate 4 0) refl;
      p = All-replicate (AreClearFrom (c.args.l / 8)) 16 (replicate 4 0) (λ j h. zero_bit 4 j);
      ffr = λ j h. zero_bit 4 j;
    }

pub returns : goal.returns
returns c =
    let some : 16 ≤ c.self.inside.length / 8 = omega (arith, c.self.invariant.length.least) in
    let more : 16 ≤ c.args.l / 8 = omega (arith, c.bits-bits.ensures.value, c.bits-bits.ensures.length.least) in
    cleared_shown c.self.inside c.args.l c.args.self.now _ c.self.view_is some more c.keep_low.ensures
