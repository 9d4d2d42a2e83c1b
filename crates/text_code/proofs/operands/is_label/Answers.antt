use Rattle.std.proofs.Common.{◌≡◌, ◌<◌, ◌==◌, ◌&&◌, ℕ, Bool, false, not, List, [], ◌∷◌, length, get_or, sym, ap, ◌∙◌, rules, tests, arith}
use Rattle.std.proofs.lemmas.Iterator.{YieldsList-from_slice}
use Rattle.std.proofs.lemmas.Iterator.Search.{all_from_yields_List}
use Rattle.std.specs.Char.{is_ascii_digit}
use Rattle.std.specs.List.{list_all}
use Rattle.asm_tokens.specs.Tokens.{is_word_byte, dot}
use Rattle.text_model.specs.Statement.{is_label}
use Rattle.text_code.proofs.operands.is_label.Goals as goal

label_of : (t : List ℕ) (b : Bool) → 0 < length t → is_ascii_digit (get_or t 0 0) ≡ false → b ≡ list_all (λ d. is_word_byte d && not (d == dot)) t → b ≡ is_label t
label_of [] b h k e = absurd (omega arith)
label_of (x ∷ xs) b h k e = e ∙ sym (ap (λ (q : Bool). not q && list_all (λ d. is_word_byte d && not (d == dot)) (x ∷ xs)) k)

pub returns-then-not-is_ascii_digit : goal.returns-then-not-is_ascii_digit
returns-then-not-is_ascii_digit c =
    let t : List ℕ = c.args.token.now in
    let a : c.all.result ≡ list_all (λ d. is_word_byte d && not (d == dot)) t =
    all_from_yields_List (λ d. is_word_byte d && not (d == dot)) _ _ c.all.result c.all.ensures.ran (YieldsList-from_slice t cc) (λ x b q k. search (rules, tests)) in
    let some : 0 < length t = omega arith in
    label_of t c.all.result some (sym c.is_ascii_digit.ensures.value ∙ c.if-not-is_ascii_digit.true) a
