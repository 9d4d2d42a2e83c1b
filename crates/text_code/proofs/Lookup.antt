-- What the dictionary has of a token, found by a binary search; and that longer tokens are no words.
use Rattle.std.proofs.Common.{◌≡◌, ℕ, ◌+◌, ◌*◌, ◌<◌, ◌≤◌, ◌==◌, ◌&&◌, if◌then◌else◌, Bool, true, false, not, Option, Some, None, Result, Ok, Err, MatchResult, List, [], ◌∷◌, length, get_or, nat_lt, nat_le, refl, sym, ap, ◌∙◌, subst, arith, inl, inr}
use Rattle.std.proofs.lemmas.List.{length-map}
use Rattle.std.proofs.lemmas.Bool.{cases_Bool, and_parts, and_left, and_right, leb-true}
use Rattle.std.proofs.lemmas.Slice.Eq.{bytes_eq-Decides}
use Rattle.std.specs.Cmp.Lexicographic.{slice_cmp}
use Rattle.std.specs.List.Sorted.{IsBinarySearchResult, IsSearchInRange}
use Rattle.std.specs.Ordering.{nat_cmp, is_lt}
use Rattle.std.specs.Str.{bytes_eq}
use Rattle.std.specs.Char.{is_ascii_digit, digit_value, to_ascii_lowercase}
use Rattle.std.specs.Option.{option_and_then, unwrap_or}
use Rattle.text_model.specs.declared.classes.Class.TheVariants.{Unknown}
use Rattle.text_model.specs.declared.slots.Item.{Item}
use Rattle.text_model.specs.Words as words
use Rattle.text_model.specs.Words.{word_item, families, dictionary, Numbered, two_or_one, numbered, register_in, register, word_in, classed}
use Rattle.text_model.specs.Statement.{lowered}
use Rattle.text_code.specs.declared.dictionary.Word.{Word}
use Rattle.text_code.specs.Tables.{words_of}
use Rattle.text_code.proofs.Search.{find_by, order, are_ascending, searched}

-- ---- words

abbrev pub found_item : Option Word → Item
found_item None = word_item Unknown 0
found_item (Some w) = word_item w.class w.value

abbrev text : Word → List ℕ
text w = w.text.now

same_word : (ws : List Word) (t : List ℕ) → word_in (words_of ws) t ≡ found_item (find_by text ws t)
same_word [] t = refl
same_word (w ∷ ws) t = elim (cases_Bool (bytes_eq t (text w))) [
  | inl e ↦ ap (λ (b : Bool). if b then word_item w.class w.value else word_in (words_of ws) t) e ∙ ap (λ (b : Bool). found_item (if b then Some w else find_by text ws t)) (sym e)
  | inr e ↦ ap (λ (b : Bool). if b then word_item w.class w.value else word_in (words_of ws) t) e ∙ same_word ws t
      ∙ ap (λ (b : Bool). found_item (if b then Some w else find_by text ws t)) (sym e)
]

ascending : are_ascending (λ (w : words.Word). w.text) dictionary ≡ true
unfolding dictionary
ascending = refl

same_ascending : (ws : List Word) → are_ascending text ws ≡ are_ascending (λ (w : words.Word). w.text) (words_of ws)
same_ascending [] = refl
same_ascending (w ∷ []) = refl
same_ascending (w ∷ v ∷ vs) = ap (λ (b : Bool). is_lt (order (text w) (text v)) && b) (same_ascending (v ∷ vs))

-- What a binary search among the dictionary's words answers.
pub looked_up : (ws : List Word) (t : List ℕ) (r : Result ℕ ℕ) → words_of ws ≡ dictionary → IsSearchInRange r (length ws)
    → IsBinarySearchResult (λ (w : Word). slice_cmp nat_cmp w.text.now t) ws r
    → MatchResult r (λ i. (d : Word) → word_in dictionary t ≡ word_item (get_or ws i d).class (get_or ws i d).value) (λ i. word_in dictionary t ≡ word_item Unknown 0)
looked_up ws t (Ok i) e l s =
    let f = searched text ws t (Ok i) (same_ascending ws ∙ ap (are_ascending (λ (w : words.Word). w.text)) e ∙ ascending) l s in
    λ (d : Word). ap (λ (v : List words.Word). word_in v t) (sym e) ∙ same_word ws t ∙ ap found_item (f d)
looked_up ws t (Err i) e l s =
    let f = searched text ws t (Err i) (same_ascending ws ∙ ap (are_ascending (λ (w : words.Word). w.text)) e ∙ ascending) l s in
    ap (λ (v : List words.Word). word_in v t) (sym e) ∙ same_word ws t ∙ ap found_item f

-- ---- long tokens

same_length : (s t : List ℕ) → bytes_eq s t ≡ true → length s ≡ length t
same_length s t h = ap length ((bytes_eq-Decides s t).0 h)

too_long : (s t : List ℕ) → length t < length s → bytes_eq s t ≡ false
too_long s t h = elim (cases_Bool (bytes_eq s t)) [
  | inl e ↦ (let l : length s ≡ length t = same_length s t e in absurd (omega arith))
  | inr e ↦ e
]

are_short : List words.Word → Bool
are_short [] = true
are_short (w ∷ ws) = nat_le (length w.text) 12 && are_short ws

short_words : are_short dictionary ≡ true
unfolding dictionary are_short
short_words = refl

no_word : (ws : List words.Word) (t : List ℕ) → are_short ws ≡ true → 12 < length t → word_in ws t ≡ word_item Unknown 0
unfolding are_short
no_word [] t h l = refl
no_word (w ∷ ws) t h l =
    let h2 = and_parts (nat_le (length w.text) 12) (are_short ws) h in
    let k : length w.text ≤ 12 = leb-true _ _ h2.0 in
    ap (λ (b : Bool). if b then word_item w.class w.value else word_in ws t) (too_long t w.text (omega arith)) ∙ no_word ws t h2.1 l

short_suffixes : List words.Family → Bool
short_suffixes [] = true
short_suffixes (f ∷ fs) = nat_le (length f.suffix) 4 && short_suffixes fs

short_families : short_suffixes families ≡ true
unfolding short_suffixes
short_families = refl

no_register : (fs : List words.Family) (l : ℕ) (n : Numbered) → short_suffixes fs ≡ true → 4 < length n.rest → register_in fs l n ≡ None
unfolding short_suffixes
no_register [] l n h k = refl
no_register (f ∷ fs) l n h k =
    let h2 = and_parts (nat_le (length f.suffix) 4) (short_suffixes fs) h in
    let m : length f.suffix ≤ 4 = leb-true _ _ h2.0 in
    ap (λ (b : Bool). if b then Some (word_item f.class n.value) else register_in fs l n)
    (and_right (l == f.letter) _ (and_left _ (nat_lt n.value f.count) (too_long n.rest f.suffix (omega arith))))
    ∙ no_register fs l n h2.1 k

abbrev by_digits : Bool → ℕ → ℕ → List ℕ → Numbered
by_digits b c d cs = if b then record { value = digit_value c * 10 + digit_value d; rest = cs } else record { value = digit_value c; rest = d ∷ cs }

rest_long : (c d : ℕ) (cs : List ℕ) → 4 < length cs → 4 < length (two_or_one c d cs).rest
rest_long c d cs h = elim (cases_Bool (is_ascii_digit d && not (c == 48))) [
  | inl e ↦ subst (λ (b : Bool). 4 < length (by_digits b c d cs).rest) (sym e) h
  | inr e ↦ subst (λ (b : Bool). 4 < length (by_digits b c d cs).rest) (sym e) (omega arith)
]

no_numbered : (l c d : ℕ) (cs : List ℕ) → 4 < length cs → option_and_then (register_in families l) (numbered (c ∷ d ∷ cs)) ≡ None
no_numbered l c d cs h = elim (cases_Bool (is_ascii_digit c)) [
  | inl e ↦ ap (λ (b : Bool). option_and_then (register_in families l) (if b then Some (two_or_one c d cs) else None)) e ∙ no_register families l (two_or_one c d cs) short_families (rest_long c d cs h)
  | inr e ↦ ap (λ (b : Bool). option_and_then (register_in families l) (if b then Some (two_or_one c d cs) else None)) e
]

no_register_token : (t : List ℕ) → 12 < length t → register t ≡ None
no_register_token [] h = absurd (omega arith)
no_register_token (l ∷ []) h = absurd (omega arith)
no_register_token (l ∷ c ∷ []) h = absurd (omega arith)
no_register_token (l ∷ c ∷ d ∷ cs) h = no_numbered l c d cs (omega arith)

-- A token of more than 12 bytes is no word.
pub long_token : (t : List ℕ) → 12 < length t → classed (lowered t) ≡ word_item Unknown 0
long_token t h =
    let e : length (lowered t) ≡ length t = length-map t to_ascii_lowercase in
    let l : 12 < length (lowered t) = omega (arith, e, h) in
    ap (λ (o : Option Item). unwrap_or o (word_in dictionary (lowered t))) (no_register_token (lowered t) l) ∙ no_word dictionary (lowered t) short_words l
