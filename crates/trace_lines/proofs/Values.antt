-- The bytes of an element as digits, the last first.
use Rattle.std.proofs.Common.{◌≡◌, ℕ, suc, ◌+◌, ◌-◌, List, ◌++◌, sym, ap, ◌∙◌, append-nil, append_assoc}
use Rattle.emu_model.specs.Access.{Memory, address}
use Rattle.emu_model.specs.Pages.{peeked}
use Rattle.trace_lines.specs.Lines.{byte_text, value_text}

pub value_none : (text : List ℕ) (m : Memory) (a n : ℕ) → n ≡ 0 → text ≡ text ++ value_text m a n
unfolding value_text
value_none text m a n is = sym (append-nil text) ∙ ap (λ (k : ℕ). text ++ value_text m a k) (sym is)

pub value_more : (text mid new : List ℕ) (m : Memory) (a n k : ℕ) → n ≡ suc k → mid ≡ text ++ byte_text (peeked m (address (a + k))) → new ≡ mid ++ value_text m a k → new ≡ text ++ value_text m a n
unfolding value_text
value_more text mid new m a n k is p q =
    q ∙ ap (λ (xs : List ℕ). xs ++ value_text m a k) p ∙ append_assoc text (byte_text (peeked m (address (a + k)))) (value_text m a k)
    ∙ ap (λ (j : ℕ). text ++ value_text m a j) (sym is)
