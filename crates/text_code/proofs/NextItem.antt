-- The item that a statement goes on with, and what is left behind it.
use Rattle.std.proofs.Common.{◌≡◌, ℕ, zero, suc, ◌+◌, ◌-◌, ◌<◌, ◌≤◌, if◌then◌else◌, Bool, Option, Some, None, List, [], ◌∷◌, drop, slice_range, refl, sym, ap, ap₂, ◌∙◌, arith, inl, inr, ℤ}
use Rattle.std.proofs.lemmas.Bool.{cases_Bool}
use Rattle.std.specs.Prelude.{option_map}
use Rattle.asm_tokens.specs.Layout.{is_sign, hash}
use Rattle.asm_tokens.specs.Numbers as numbers
use Rattle.asm_tokens.specs.Places.{IsToken, AreTokens, IsNumber}
use Rattle.asm_tokens.specs.Tokens.{tokens}
use Rattle.text_model.specs.declared.classes.Class.TheVariants.{Number}
use Rattle.text_model.specs.declared.slots.Item.{Item}
use Rattle.text_model.specs.Words.{item, classed}
use Rattle.text_model.specs.Statement.{lowered, item_by, more_tokens, items_from}

-- ---- how many tokens write a number

mapped : {A B : Type 0} (f : A → B) (o : Option A) (b : B) → option_map f o ≡ Some b → (a : A) × (o ≡ Some a) × (f a ≡ b)
mapped f None b h = absurd (cc)
mapped f (Some a) b h = (a, refl, cc)

one_plain : (ts : List (List ℕ)) (n : numbers.Number) → numbers.unsigned_number ts ≡ Some n → n.count ≡ 1
one_plain [] n h = absurd (cc)
one_plain (t ∷ ts) n h =
    let m = mapped numbers.plain_number (numbers.numeral t) n h in
    ap (λ (x : numbers.Number). x.count) (sym m.2)

more_signed : (ts : List (List ℕ)) (n : numbers.Number) → numbers.signed_number ts ≡ Some n → 0 < n.count
more_signed [] n h = absurd (cc)
more_signed (t ∷ ts) n h = elim (cases_Bool (is_sign numbers.minus t)) [
  | inl e ↦ (let m = mapped numbers.behind_minus (numbers.unsigned_number ts) n
      (sym (ap (λ (b : Bool). if b then option_map numbers.behind_minus (numbers.unsigned_number ts) else numbers.unsigned_number (t ∷ ts)) e) ∙ h) in
      let c : n.count ≡ m.0.count + 1 = ap (λ (x : numbers.Number). x.count) (sym m.2) in omega (arith, c))
  | inr e ↦ (let c : n.count ≡ 1 = one_plain (t ∷ ts) n
      (sym (ap (λ (b : Bool). if b then option_map numbers.behind_minus (numbers.unsigned_number ts) else numbers.unsigned_number (t ∷ ts)) e) ∙ h) in
      omega (arith, c))
]

pub some_tokens : (ts : List (List ℕ)) (n : numbers.Number) → numbers.number_of ts ≡ Some n → 0 < n.count
some_tokens [] n h = absurd (cc)
some_tokens (t ∷ ts) n h = elim (cases_Bool (is_sign hash t)) [
  | inl e ↦ (let m = mapped numbers.behind_hash (numbers.signed_number ts) n
      (sym (ap (λ (b : Bool). if b then option_map numbers.behind_hash (numbers.signed_number ts) else numbers.signed_number (t ∷ ts)) e) ∙ h) in
      let c : n.count ≡ m.0.count + 1 = ap (λ (x : numbers.Number). x.count) (sym m.2) in omega (arith, c))
  | inr e ↦ more_signed (t ∷ ts) n
      (sym (ap (λ (b : Bool). if b then option_map numbers.behind_hash (numbers.signed_number ts) else numbers.signed_number (t ∷ ts)) e) ∙ h)
]

-- ---- what is left

skipped : (k : ℕ) (text : List ℕ) (start past : ℕ) → AreTokens k text start past → items_from k (tokens (drop start text)) ≡ items_from 0 (tokens (drop past text))
skipped zero text start past h = ap (λ (p : ℕ). items_from 0 (tokens (drop p text))) (sym h)
skipped (suc k) text start past h = ap (items_from (suc k)) h.2.is ∙ skipped k text h.1 past h.3

moved : (k : ℕ) (text : List ℕ) (start past : ℕ) → AreTokens k text start past → start ≤ past
moved zero text start past h = omega (arith, h)
moved (suc k) text start past h =
    let a : start ≤ h.0 = h.2.after in
    let b : h.0 < h.1 = h.2.some in
    let c : h.1 ≤ past = moved k text h.1 past h.3 in
    omega (arith, a, b, c)

tail_of : (t u : List ℕ) (ts us : List (List ℕ)) → t ∷ ts ≡ u ∷ us → ts ≡ us
tail_of t u ts us h = cc

behind_number : (text : List ℕ) (at first past to count : ℕ) → 0 < count → IsToken text at first past → AreTokens count text at to
    → items_from (count - 1) (tokens (drop past text)) ≡ items_from 0 (tokens (drop to text))
behind_number text at first past to zero l t n = absurd (omega arith)
behind_number text at first past to (suc k) l t n =
    let e : suc k - 1 ≡ k = omega arith in
    let same : tokens (drop past text) ≡ tokens (drop n.1 text) = tail_of _ _ _ _ (sym t.is ∙ n.2.is) in
    ap₂ items_from e same ∙ skipped k text n.1 to n.3

-- a number is next
pub number_next : (text : List ℕ) (at first past : ℕ) (x : ℤ) (to : ℕ) → IsToken text at first past → IsNumber (numbers.number_of (tokens (drop at text))) text at x to
    → items_from 0 (tokens (drop at text)) ≡ item Number x ∷ items_from 0 (tokens (drop to text))
number_next text at first past x to t n =
    let ts : List (List ℕ) = tokens (drop past text) in
    let s : List ℕ = slice_range text first past in
    let o : numbers.number_of (s ∷ ts) ≡ Some n.number = ap numbers.number_of (sym t.is) ∙ n.is in
    let c : 0 < n.number.count = some_tokens (tokens (drop at text)) n.number n.is in
    ap (items_from 0) t.is
    ∙ ap (λ (q : Option numbers.Number). item_by q s ∷ items_from (more_tokens q) ts) o
    ∙ ap₂ (λ (a : Item) (is : List Item). a ∷ is) (ap (λ (y : ℤ). item Number y) (sym n.value_is)) (behind_number text at first past to n.number.count c t n.behind)

pub number_behind : (text : List ℕ) (at to count : ℕ) → 0 < count → AreTokens count text at to → at < to
number_behind text at to zero l n = absurd (omega arith)
number_behind text at to (suc k) l n =
    let a : at ≤ n.0 = n.2.after in
    let b : n.0 < n.1 = n.2.some in
    let c : n.1 ≤ to = moved k text n.1 to n.3 in
    omega (arith, a, b, c)

-- a word is next
pub word_next : (text : List ℕ) (at first past : ℕ) → IsToken text at first past → numbers.number_of (tokens (drop at text)) ≡ None
    → items_from 0 (tokens (drop at text)) ≡ classed (lowered (slice_range text first past)) ∷ items_from 0 (tokens (drop past text))
word_next text at first past t n =
    let ts : List (List ℕ) = tokens (drop past text) in
    let s : List ℕ = slice_range text first past in
    let o : numbers.number_of (s ∷ ts) ≡ None = ap numbers.number_of (sym t.is) ∙ n in
    ap (items_from 0) t.is ∙ ap (λ (q : Option numbers.Number). item_by q s ∷ items_from (more_tokens q) ts) o
