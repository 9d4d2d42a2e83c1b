use Rattle.std.proofs.Common.{◌≡◌, ◌<◌, ℕ, suc, ◌+◌, ◌-◌, List, ◌++◌, string_bytes, sym, ap, ◌∙◌, arith, append_assoc, append-nil}
use Rattle.debug_texts.specs.Numbers.{bit_digit, bits_text}
use Rattle.debug_texts.proofs.numbers.push_bits.Goals as goal

-- one bit more
more : (mid new all : List ℕ) (bits k v : ℕ) → k < bits → mid ++ bits_text (bits - k) v ≡ all → new ≡ mid ++ bit_digit v (bits - 1 - k) → new ++ bits_text (bits - (k + 1)) v ≡ all
unfolding bits_text
more mid new all bits k v h left is =
    let e : bits - k ≡ suc (bits - 1 - k) = omega arith in
    let d : bits - (k + 1) ≡ bits - 1 - k = omega arith in
    let f : mid ++ bits_text (suc (bits - 1 - k)) v ≡ all = ap (λ (n : ℕ). mid ++ bits_text n v) (sym e) ∙ left in
    ap (λ (xs : List ℕ). xs ++ bits_text (bits - (k + 1)) v) is ∙ append_assoc mid (bit_digit v (bits - 1 - k)) (bits_text (bits - (k + 1)) v) ∙ ap (λ (n : ℕ). mid ++ (bit_digit v (bits - 1 - k) ++ bits_text n v)) d ∙ f

done : (text all : List ℕ) (n v : ℕ) → n ≡ 0 → text ++ bits_text n v ≡ all → text ≡ all
unfolding bits_text
done text all n v is left = sym (append-nil text) ∙ ap (λ (k : ℕ). text ++ bits_text k v) (sym is) ∙ left

pub bits-preserved : goal.bits-preserved
bits-preserved c = let e = c.in_ok-push_str.ensures.bytes in let f = c.bit_digit.ensures in record { left = more _ _ _ c.args.bits c.bits.k c.args.v (omega arith) c.bits.invariant.left (e ∙ ap (λ (ys : List ℕ). string_bytes c.bits.text ++ ys) f); within = omega arith }

pub returns : goal.returns
returns c = done _ _ (c.args.bits - c.bits.k) c.args.v (omega arith) c.bits.invariant.left
