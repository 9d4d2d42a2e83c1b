-- Arguments between commas: what stands before the first comma is one argument, or none.
use Rattle.std.proofs.Common.{◌≡◌, ℕ, suc, ◌+◌, ◌-◌, ◌<◌, ◌≤◌, ◌==◌, ◌∙◌, Bool, true, false, not, cond, List, [], ◌∷◌, Option, Some, None, drop, take, get_or, length, length-drop, length-take, refl, sym, ap, ap₂, subst, arith, inl, inr}
use Rattle.std.specs.Prelude.{ℤ, option_map}
use Rattle.std.specs.Option.{option_or}
use Rattle.std.proofs.lemmas.Bool.{cases_Bool, cond-true, cond-false, cond_both, and_parts, not-false, eqb-true, eq-eqb, ne_eqb, false≢true, true≢false, cases_lt}
use Rattle.std.proofs.lemmas.List.Splits.{slice_split_first}
use Rattle.std.proofs.lemmas.List.{drop-drop, get_or-drop}
use Rattle.std.proofs.lemmas.List.Sums.{fails_before_first, prefix_len-le-length, prefix_len_stops}
use Rattle.std.specs.List.{after_first, position_or_len, prefix_len, slice_split, onto_first}
use Rattle.listing_model.specs.Directives.{Argument, number, label, whole, label_argument, argument, is_label}
use Rattle.asm_tokens.specs.Layout.{is_sign, comma, hash}
use Rattle.asm_tokens.specs.Numbers.{Number, numeral, minus, plain_number, behind_minus, behind_hash, unsigned_number, signed_number, number_of, value}
use Rattle.asm_text.specs.Leading.{leading, leading_label, leading_number, is_comma, part_of}

-- a number, or another argument
abbrev number_or : Option Argument → Option ℤ → Option Argument
number_or other x = option_or (option_map number x) other

-- ---- what stands before the first comma

part_yes : (t : List ℕ) (ts : List (List ℕ)) → is_comma t ≡ true → part_of (t ∷ ts) ≡ []
part_yes t ts h =
    ap (λ (n : ℕ). take n (t ∷ ts)) (ap (λ (b : Bool). cond (not b) (1 + position_or_len is_comma ts) 0) h)

part_no : (t : List ℕ) (ts : List (List ℕ)) → is_comma t ≡ false → part_of (t ∷ ts) ≡ t ∷ part_of ts
part_no t ts h =
    let n : ℕ = position_or_len is_comma ts in
    let e : 1 + n ≡ suc n = omega arith in
    ap (λ (m : ℕ). take m (t ∷ ts)) (ap (λ (b : Bool). cond (not b) (1 + n) 0) h ∙ e)

comma_is : (t : List ℕ) → is_comma t ≡ true → t ≡ comma ∷ []
comma_is [] h = absurd (false≢true h)
comma_is (c ∷ []) h = ap (λ (d : ℕ). d ∷ []) (eqb-true c comma (and_parts (c == comma) true h).0)
comma_is (c ∷ d ∷ ds) h = absurd (false≢true (and_parts (c == comma) false h).1)

-- a comma is no number, no sign and no label
no_numeral : (t : List ℕ) → is_comma t ≡ true → numeral t ≡ None
no_numeral t h = ap numeral (comma_is t h)

no_sign : (c : ℕ) (t : List ℕ) → is_sign c (comma ∷ []) ≡ false → is_comma t ≡ true → is_sign c t ≡ false
no_sign c t k h = ap (is_sign c) (comma_is t h) ∙ k

no_label : (t : List ℕ) → is_comma t ≡ true → is_label t ≡ false
no_label t h = ap is_label (comma_is t h)

-- ---- a number doesn't reach over a comma

unsigned_part : (ts : List (List ℕ)) → unsigned_number (part_of ts) ≡ unsigned_number ts
unsigned_part [] = refl
unsigned_part (t ∷ ts) = elim (cases_Bool (is_comma t)) [
  | inl h ↦ ap unsigned_number (part_yes t ts h) ∙ sym (ap (option_map plain_number) (no_numeral t h))
  | inr h ↦ ap unsigned_number (part_no t ts h)
]

signed_part : (ts : List (List ℕ)) → signed_number (part_of ts) ≡ signed_number ts
signed_part [] = refl
signed_part (t ∷ ts) = elim (cases_Bool (is_comma t)) [
  | inl h ↦ ap signed_number (part_yes t ts h)
      ∙ sym (cond-false (is_sign minus t) _ _ (no_sign minus t refl h) ∙ ap (option_map plain_number) (no_numeral t h))
  | inr h ↦ ap signed_number (part_no t ts h)
      ∙ ap (λ (o : Option Number). cond (is_sign minus t) (option_map behind_minus o) (unsigned_number (t ∷ ts))) (unsigned_part ts)
]

pub number_part : (ts : List (List ℕ)) → number_of (part_of ts) ≡ number_of ts
number_part [] = refl
number_part (t ∷ ts) = elim (cases_Bool (is_comma t)) [
  | inl h ↦ ap number_of (part_yes t ts h)
      ∙ sym (cond-false (is_sign hash t) _ _ (no_sign hash t refl h) ∙ cond-false (is_sign minus t) _ _ (no_sign minus t refl h) ∙ ap (option_map plain_number) (no_numeral t h))
  | inr h ↦ ap number_of (part_no t ts h)
      ∙ ap₂ (λ (o p : Option Number). cond (is_sign hash t) (option_map behind_hash o) p) (signed_part ts)
      (sym (ap signed_number (part_no t ts h)) ∙ signed_part (t ∷ ts))
]

-- ---- a number has at least one token, and no more than there are

abbrev Counted : List (List ℕ) → Option Number → Type 0
Counted ts None = Unit {0}
Counted ts (Some n) = (0 < n.count) × (n.count ≤ length ts)

plain_counted : (t : List ℕ) (ts : List (List ℕ)) (o : Option ℕ) → Counted (t ∷ ts) (option_map plain_number o)
plain_counted t ts None = tt
plain_counted t ts (Some m) = (omega arith, omega arith)

minus_counted : (t : List ℕ) (ts : List (List ℕ)) (o : Option Number) → Counted ts o → Counted (t ∷ ts) (option_map behind_minus o)
minus_counted t ts None h = tt
minus_counted t ts (Some n) h = (omega (arith, h.0), omega (arith, h.1))

hash_counted : (t : List ℕ) (ts : List (List ℕ)) (o : Option Number) → Counted ts o → Counted (t ∷ ts) (option_map behind_hash o)
hash_counted t ts None h = tt
hash_counted t ts (Some n) h = (omega (arith, h.0), omega (arith, h.1))

unsigned_counted : (ts : List (List ℕ)) → Counted ts (unsigned_number ts)
unsigned_counted [] = tt
unsigned_counted (t ∷ ts) = plain_counted t ts (numeral t)

signed_counted : (ts : List (List ℕ)) → Counted ts (signed_number ts)
signed_counted [] = tt
signed_counted (t ∷ ts) =
    cond_both (is_sign minus t) _ _ (λ o. Counted (t ∷ ts) o) (λ e. minus_counted t ts (unsigned_number ts) (unsigned_counted ts)) (λ e. unsigned_counted (t ∷ ts))

number_counted : (ts : List (List ℕ)) → Counted ts (number_of ts)
number_counted [] = tt
number_counted (t ∷ ts) =
    cond_both (is_sign hash t) _ _ (λ o. Counted (t ∷ ts) o) (λ e. hash_counted t ts (signed_number ts) (signed_counted ts)) (λ e. signed_counted (t ∷ ts))

-- ---- places of commas

part_length : (ts : List (List ℕ)) → length (part_of ts) ≡ position_or_len is_comma ts
part_length ts =
    let fits : position_or_len is_comma ts ≤ length ts = prefix_len-le-length (λ t. not (is_comma t)) ts in
    length-take (position_or_len is_comma ts) ts ∙ omega arith

no_comma : (ts : List (List ℕ)) → position_or_len is_comma ts ≡ length ts → slice_split is_comma ts ≡ part_of ts ∷ []
no_comma [] h = refl
no_comma (t ∷ ts) h =
    let n : ℕ = position_or_len is_comma ts in
    elim (cases_Bool (is_comma t)) [
      | inl e ↦ (let z : 0 ≡ suc (length ts) = sym (ap (λ (b : Bool). cond (not b) (1 + n) 0) e) ∙ h in absurd (omega arith))
      | inr e ↦ (let all : 1 + n ≡ suc (length ts) = sym (ap (λ (b : Bool). cond (not b) (1 + n) 0) e) ∙ h in
          cond-false (is_comma t) _ _ e ∙ ap (onto_first t) (no_comma ts (omega arith)) ∙ ap (λ (p : List (List ℕ)). p ∷ []) (sym (part_no t ts e)))
    ]

-- the first of the parts between commas
pub first_is_part : (ts : List (List ℕ)) → (more : List (List (List ℕ))) × (slice_split is_comma ts ≡ part_of ts ∷ more)
first_is_part ts =
    let fits : position_or_len is_comma ts ≤ length ts = prefix_len-le-length (λ t. not (is_comma t)) ts in
    elim (cases_lt (position_or_len is_comma ts) (length ts)) [
      | inl l ↦ (slice_split is_comma (after_first is_comma ts), slice_split_first is_comma ts [] l)
      | inr l ↦ ([], no_comma ts (omega arith))
    ]

at_drop : (n : ℕ) (ts : List (List ℕ)) (u : List ℕ) (us : List (List ℕ)) → drop n ts ≡ u ∷ us → get_or ts n [] ≡ u
at_drop n ts u us h =
    let e : n + 0 ≡ n = omega arith in
    ap (λ (i : ℕ). get_or ts i []) (sym e) ∙ sym (get_or-drop n ts 0 []) ∙ ap (λ (xs : List (List ℕ)). get_or xs 0 []) h

more_left : (n : ℕ) (ts : List (List ℕ)) (u : List ℕ) (us : List (List ℕ)) → drop n ts ≡ u ∷ us → n < length ts
more_left n ts u us h = omega (arith, length-drop n ts, ap length h)

behind_one : (n : ℕ) (ts : List (List ℕ)) (u : List ℕ) (us : List (List ℕ)) → drop n ts ≡ u ∷ us → drop (n + 1) ts ≡ us
behind_one n ts u us h =
    let e : n + 1 ≡ 1 + n = omega arith in
    sym (drop-drop 1 n ts) ∙ ap (drop 1) h

-- n tokens that have no comma, and behind them no token, a comma, or another
pub last_part : (n : ℕ) (ts : List (List ℕ)) → n ≤ position_or_len is_comma ts → drop n ts ≡ []
    → (length (part_of ts) ≡ n) × (slice_split is_comma ts ≡ part_of ts ∷ [])
last_part n ts h e =
    let fits : position_or_len is_comma ts ≤ length ts = prefix_len-le-length (λ t. not (is_comma t)) ts in
    let all : length ts - n ≡ 0 = sym (length-drop n ts) ∙ ap length e in
    (omega (arith, part_length ts), no_comma ts (omega arith))

pub part_before : (n : ℕ) (ts : List (List ℕ)) (u : List ℕ) (us : List (List ℕ)) → n ≤ position_or_len is_comma ts → drop n ts ≡ u ∷ us → is_comma u ≡ true
    → (length (part_of ts) ≡ n) × (slice_split is_comma ts ≡ part_of ts ∷ slice_split is_comma us)
part_before n ts u us h e k =
    let place : position_or_len is_comma ts ≡ n = elim (cases_lt n (position_or_len is_comma ts)) [
      | inl l ↦ absurd (true≢false (sym k ∙ sym (ap is_comma (at_drop n ts u us e)) ∙ fails_before_first is_comma ts n [] l))
      | inr l ↦ omega arith
    ] in
    let some : position_or_len is_comma ts < length ts = omega (arith, more_left n ts u us e) in (
      part_length ts ∙ place,
      slice_split_first is_comma ts [] some
          ∙ ap (λ (i : ℕ). part_of ts ∷ slice_split is_comma (drop (i + 1) ts)) place
          ∙ ap (λ (xs : List (List ℕ)). part_of ts ∷ slice_split is_comma xs) (behind_one n ts u us e),
    )

pub part_past : (n : ℕ) (ts : List (List ℕ)) (u : List ℕ) (us : List (List ℕ)) → n ≤ position_or_len is_comma ts → drop n ts ≡ u ∷ us → is_comma u ≡ false
    → n < length (part_of ts)
part_past n ts u us h e k = elim (cases_lt n (position_or_len is_comma ts)) [
  | inl l ↦ omega (arith, part_length ts)
  | inr l ↦ (let place : position_or_len is_comma ts ≡ n = omega arith in
      let some : prefix_len (λ t. not (is_comma t)) ts < length ts = omega (arith, more_left n ts u us e) in
      let stops : not (is_comma (get_or ts (prefix_len (λ t. not (is_comma t)) ts) [])) ≡ false = prefix_len_stops (λ t. not (is_comma t)) ts [] some in
      let here : is_comma (get_or ts n []) ≡ true = ap (λ (i : ℕ). is_comma (get_or ts i [])) (sym place) ∙ not-false _ stops in
      absurd (true≢false (sym here ∙ ap is_comma (at_drop n ts u us e) ∙ k)))
]

-- ---- the argument before the first comma

long_label : (p : List (List ℕ)) → 1 < length p → label_argument p ≡ None
long_label [] h = absurd (omega arith)
long_label (t ∷ []) h = absurd (omega arith)
long_label (t ∷ u ∷ us) h = refl

no_label_argument : (t : List ℕ) (q : List (List ℕ)) → is_label t ≡ false → label_argument (t ∷ q) ≡ None
no_label_argument t [] h = cond-false (is_label t) _ _ h
no_label_argument t (u ∷ us) h = refl

lone : (q : List (List ℕ)) → length q ≡ 0 → q ≡ []
lone [] h = refl
lone (u ∷ us) h = absurd (omega arith)

one_label_argument : (t : List ℕ) (q : List (List ℕ)) → is_label t ≡ true → length (t ∷ q) ≡ 1 → label_argument (t ∷ q) ≡ Some (label t)
one_label_argument t q h k = ap (λ (r : List (List ℕ)). label_argument (t ∷ r)) (lone q (omega arith)) ∙ cond-true (is_label t) _ _ h

label_no_comma : (t : List ℕ) → is_label t ≡ true → is_comma t ≡ false
label_no_comma t h = elim (cases_Bool (is_comma t)) [ inl e ↦ absurd (true≢false (sym h ∙ no_label t e)) | inr e ↦ e ]

none_either : (b : Bool) (o : Option Argument) → o ≡ None → cond b o None ≡ None
none_either true o h = h
none_either false o h = refl

-- what an argument that tokens begin with says of what stands before the first comma
pub record Leads (labels : Bool) (ts : List (List ℕ)) (a : Argument) (n : ℕ) : Type 0 where
  pub some : 0 < n
  pub reach : n ≤ position_or_len is_comma ts
  pub whole_part : length (part_of ts) ≡ n → argument labels (part_of ts) ≡ Some a
  pub longer_part : n < length (part_of ts) → argument labels (part_of ts) ≡ None

number_leads : (labels : Bool) (ts : List (List ℕ)) (k : Number) → number_of ts ≡ Some k → Leads labels ts (number (value k)) k.count
number_leads labels ts k h =
    let p : List (List ℕ) = part_of ts in
    let same : number_of p ≡ Some k = number_part ts ∙ h in
    let counted : Counted p (Some k) = subst (λ (o : Option Number). Counted p o) same (number_counted p) in
    let other : Option Argument = cond labels (label_argument p) None in
    record {
      some = counted.0;
      reach = omega (arith, part_length ts, counted.1);
      whole_part = λ e. ap (λ (o : Option Number). number_or other (whole (length p) o)) same
          ∙ ap (number_or other) (cond-true (k.count == length p) _ _ (eq-eqb k.count (length p) (sym e)));
      longer_part = λ l.
          ap (λ (o : Option Number). number_or other (whole (length p) o)) same
          ∙ ap (number_or other) (cond-false (k.count == length p) _ _ (ne_eqb k.count (length p) (λ e. omega arith)))
          ∙ none_either labels (label_argument p) (long_label p (omega (arith, counted.0)));
    }

label_leads : (t : List ℕ) (ts : List (List ℕ)) → number_of (t ∷ ts) ≡ None → is_label t ≡ true → Leads true (t ∷ ts) (label t) 1
label_leads t ts h k =
    let plain : is_comma t ≡ false = label_no_comma t k in
    let p : List (List ℕ) = part_of (t ∷ ts) in
    let is : p ≡ t ∷ part_of ts = part_no t ts plain in
    let same : number_of p ≡ None = number_part (t ∷ ts) ∙ h in
    let only : argument true p ≡ label_argument p = ap (λ (o : Option Number). number_or (label_argument p) (whole (length p) o)) same in
    record {
      some = omega arith;
      reach = omega (arith, part_length (t ∷ ts), ap length is);
      whole_part = λ e. only ∙ ap label_argument is ∙ one_label_argument t (part_of ts) k (sym (ap length is) ∙ e);
      longer_part = λ l. only ∙ long_label p l;
    }

abbrev of_first : Argument → Option (Argument × ℕ) → Argument
of_first d None = d
of_first d (Some p) = p.0

abbrev of_second : ℕ → Option (Argument × ℕ) → ℕ
of_second d None = d
of_second d (Some p) = p.1

pub leads : (labels : Bool) (ts : List (List ℕ)) (a : Argument) (n : ℕ) → leading labels ts ≡ Some (a, n) → Leads labels ts a n
leads labels ts a n h = go (number_of ts) refl h
  where
    of_label : (b : Bool) (us : List (List ℕ)) → number_of us ≡ None → cond b (leading_label us) None ≡ Some (a, n) → Leads b us a n
    of_label false us q r = cc
    of_label true [] q r = cc
    of_label true (t ∷ us) q r = elim (cases_Bool (is_label t)) [
      | inl e ↦ (let same : ◌≡◌ {A = Option (Argument × ℕ)} (Some (label t, 1)) (Some (a, n)) = sym (cond-true (is_label t) _ _ e) ∙ r in
          let first : label t ≡ a = ap (of_first (label t)) same in
          let second : 1 ≡ n = ap (of_second 1) same in
          subst (λ (m : ℕ). Leads true (t ∷ us) a m) second (subst (λ (b : Argument). Leads true (t ∷ us) b 1) first (label_leads t us q e)))
      | inr e ↦ (let none : ◌≡◌ {A = Option (Argument × ℕ)} None (Some (a, n)) = sym (cond-false (is_label t) _ _ e) ∙ r in cc)
    ]

    go : (o : Option Number) → number_of ts ≡ o → leading_number o (cond labels (leading_label ts) None) ≡ Some (a, n) → Leads labels ts a n
    go None q r = of_label labels ts q r
    go (Some k) q r =
        let first : number (value k) ≡ a = ap (of_first (number (value k))) r in
        let second : k.count ≡ n = ap (of_second k.count) r in
        subst (λ (m : ℕ). Leads labels ts a m) second (subst (λ (b : Argument). Leads labels ts b k.count) first (number_leads labels ts k q))

-- where no argument stands first, none stands before the comma
pub leads_nothing : (labels : Bool) (ts : List (List ℕ)) → leading labels ts ≡ None → argument labels (part_of ts) ≡ None
leads_nothing labels ts h = go (number_of ts) refl h
  where
    of_label : (b : Bool) (us : List (List ℕ)) → cond b (leading_label us) None ≡ None → cond b (label_argument (part_of us)) None ≡ None
    of_label false us r = refl
    of_label true [] r = refl
    of_label true (t ∷ us) r = elim (cases_Bool (is_label t)) [
      | inl e ↦ (let some : ◌≡◌ {A = Option (Argument × ℕ)} (Some (label t, 1)) None = sym (cond-true (is_label t) _ _ e) ∙ r in cc)
      | inr e ↦ elim (cases_Bool (is_comma t)) [
        | inl f ↦ ap label_argument (part_yes t us f)
        | inr f ↦ ap label_argument (part_no t us f) ∙ no_label_argument t (part_of us) e
      ]
    ]

    go : (o : Option Number) → number_of ts ≡ o → leading_number o (cond labels (leading_label ts) None) ≡ None → argument labels (part_of ts) ≡ None
    go None q r =
        ap (λ (o : Option Number). number_or (cond labels (label_argument (part_of ts)) None) (whole (length (part_of ts)) o)) (number_part ts ∙ q)
        ∙ of_label labels ts r
    go (Some k) q r = cc
