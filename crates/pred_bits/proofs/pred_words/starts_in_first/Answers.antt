use Rattle.std.proofs.Common.{◌≡◌, ◌≤◌, ◌+◌, ◌*◌, ◌/◌, ◌%◌, ◌&&◌, ℕ, Bool, false, [], ◌∷◌, nat_eq, get_or, bit_and, refl, ap₂, sym, ◌∙◌, arith}
use Rattle.std.proofs.lemmas.Bool.{and_left, and_right}
use Rattle.emu_bits.specs.Flags.{size_of}
use Rattle.lane_model.specs.WordBits.{bit_of}
use Rattle.pred_bits.proofs.Made.{bit_placed, made_all}
use Rattle.pred_bits.proofs.WordBits.{and_bit}
use Rattle.pred_bits.proofs.WordMasks.{start_and, first_of_four}
use Rattle.pred_bits.proofs.pred_words.starts_in_first.Goals as goal

pub returns : goal.returns
returns c =
    let x = get_or c.args.g.now 0 0 in
    let y = get_or c.args.a.now 0 0 in
    let f : ℕ → Bool = λ b. nat_eq (b % (size_of c.args.e / 8)) 0 && (bit_of c.args.g.now b && bit_of c.args.a.now b) in
    let none : (b : ℕ) → 64 ≤ b → f b ≡ false = λ b p. and_right (nat_eq (b % (size_of c.args.e / 8)) 0) (bit_of c.args.g.now b && bit_of c.args.a.now b) (and_left (bit_of c.args.g.now b) (bit_of c.args.a.now b) (c.requires b p)) in
    made_all (bit_and c.starts.result (bit_and x y) ∷ 0 ∷ 0 ∷ 0 ∷ []) f refl
    (first_of_four (bit_and c.starts.result (bit_and x y)) f
    (λ s q. start_and c.args.e c.starts.result 0 s (bit_and x y) (bit_of c.args.g.now (64 * 0 + s) && bit_of c.args.a.now (64 * 0 + s)) (c.starts.ensures s q)
    (and_bit x y s ∙ sym (ap₂ (λ t u. t && u) (bit_placed c.args.g.now 0 s q) (bit_placed c.args.a.now 0 s q))))
    none)
    (λ b p. none b (omega arith))
