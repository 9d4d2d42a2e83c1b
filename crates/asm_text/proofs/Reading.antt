-- Lists of arguments, one argument at a time.
use Rattle.std.proofs.Common.{◌≡◌, ℕ, ◌*◌, ◌∙◌, Bool, true, false, List, [], ◌∷◌, ◌++◌, append_assoc, Option, Some, None, Ok, Err, drop, map, refl, sym, ap, ap₂, subst}
use Rattle.std.specs.Prelude.{ok_or, option_map, IfSome}
use Rattle.std.specs.Bool.{MatchBool}
use Rattle.std.specs.List.{slice_split}
use Rattle.asm_text.specs.declared.numbers.Numbers.{Numbers}
use Rattle.asm_text.proofs.Commas.{first_is_part}
use Rattle.asm_text.specs.Leading.{is_comma, part_of}
use Rattle.asm_text.specs.Stored.{AreStored, Adds, Keeps}
use Rattle.asm_tokens.specs.declared.target.Target.{Target}
use Rattle.listing_model.specs.declared.fault.ListingWhy.{ListingWhy}
use Rattle.listing_model.specs.declared.fault.ListingWhy.TheVariants.{BadOperands, OutOfRange}
use Rattle.listing_model.specs.Directives.{Argument, argument, arguments, all_some, with_first, target_in, numbers}
use Rattle.asm_tokens.specs.Tokens.{tokens}

-- these arguments in front of others
abbrev pub in_front : List Argument → Option (List Argument) → Option (List Argument)
in_front xs o = option_map (λ ys. xs ++ ys) o

one_in_front : (x : Argument) (o : Option (List Argument)) → with_first (Some x) o ≡ in_front (x ∷ []) o
one_in_front x None = refl
one_in_front x (Some ys) = refl

twice_in_front : (xs ys : List Argument) (o : Option (List Argument)) → in_front xs (in_front ys o) ≡ in_front (xs ++ ys) o
twice_in_front xs ys None = refl
twice_in_front xs ys (Some zs) = ap Some (sym (append_assoc xs ys zs))

nothing_in_front : (o : Option (List Argument)) → in_front [] o ≡ o
nothing_in_front None = refl
nothing_in_front (Some ys) = refl

-- ---- what is stored

one_more : (f : Argument → Option Target) (xs : List Argument) (x : Argument) (ys : List Target) (y : Target)
    → all_some (map f xs) ≡ Some ys → f x ≡ Some y → all_some (map f (xs ++ x ∷ [])) ≡ Some (ys ++ y ∷ [])
one_more f [] x ys y h k =
    let e : [] ≡ ys = cc in
    ap (λ (o : Option Target). with_first o (Some [])) k ∙ ap (λ (zs : List Target). Some (zs ++ y ∷ [])) e
one_more f (z ∷ zs) x ys y h k = go (f z) (all_some (map f zs)) refl refl h (λ us q. one_more f zs x us y q k)
  where
    go : (o : Option Target) (r : Option (List Target)) → f z ≡ o → all_some (map f zs) ≡ r → with_first o r ≡ Some ys
        → ((us : List Target) → all_some (map f zs) ≡ Some us → all_some (map f (zs ++ x ∷ [])) ≡ Some (us ++ y ∷ []))
        → with_first (f z) (all_some (map f (zs ++ x ∷ []))) ≡ Some (ys ++ y ∷ [])
    go None r p q e more = cc
    go (Some u) None p q e more = cc
    go (Some u) (Some us) p q e more =
        let same : u ∷ us ≡ ys = cc in
        ap₂ with_first p (more us q) ∙ ap (λ (vs : List Target). Some (vs ++ y ∷ [])) same

misfit : (f : Argument → Option Target) (xs : List Argument) (x : Argument) → f x ≡ None → all_some (map f (xs ++ x ∷ [])) ≡ None
misfit f [] x k = ap (λ (o : Option Target). with_first o (Some [])) k
misfit f (z ∷ zs) x k = ap (with_first (f z)) (misfit f zs x k) ∙ no_rest (f z)
  where
    no_rest : (o : Option Target) → with_first o None ≡ None
    no_rest None = refl
    no_rest (Some u) = refl

still_none : (f : Argument → Option Target) (xs : List Argument) (x : Argument) → all_some (map f xs) ≡ None → all_some (map f (xs ++ x ∷ [])) ≡ None
still_none f [] x h = cc
still_none f (z ∷ zs) x h = go (f z) (all_some (map f zs)) refl refl h (λ q. still_none f zs x q)
  where
    no_rest : (o : Option Target) → with_first o None ≡ None
    no_rest None = refl
    no_rest (Some u) = refl

    go : (o : Option Target) (r : Option (List Target)) → f z ≡ o → all_some (map f zs) ≡ r → with_first o r ≡ None
        → (all_some (map f zs) ≡ None → all_some (map f (zs ++ x ∷ [])) ≡ None)
        → with_first (f z) (all_some (map f (zs ++ x ∷ []))) ≡ None
    go None r p q e more = ap (λ (o : Option Target). with_first o (all_some (map f (zs ++ x ∷ [])))) p
    go (Some u) None p q e more = ap (with_first (f z)) (more q) ∙ no_rest (f z)
    go (Some u) (Some us) p q e more = cc

-- an argument that fits is pushed
pub pushed : (size : ℕ) (xs : List Argument) (x : Argument) (y : Target) (old new : Numbers) → target_in (8 * size) x ≡ Some y
    → new.items.items ≡ old.items.items ++ y ∷ [] → new.fit ≡ old.fit → AreStored size xs old → AreStored size (xs ++ x ∷ []) new
pushed size xs x y old new h k e s = go old.fit refl s
  where
    go : (b : Bool) → old.fit ≡ b
        → MatchBool b (all_some (map (target_in (8 * size)) xs) ≡ Some old.items.items) (all_some (map (target_in (8 * size)) xs) ≡ None)
        → AreStored size (xs ++ x ∷ []) new
    go true q r =
        let P : Bool → Type 0 = λ b. MatchBool b (all_some (map (target_in (8 * size)) (xs ++ x ∷ [])) ≡ Some new.items.items) (all_some (map (target_in (8 * size)) (xs ++ x ∷ [])) ≡ None) in
        subst P (sym (e ∙ q)) (one_more (target_in (8 * size)) xs x old.items.items y r h ∙ ap Some (sym k))
    go false q r =
        let P : Bool → Type 0 = λ b. MatchBool b (all_some (map (target_in (8 * size)) (xs ++ x ∷ [])) ≡ Some new.items.items) (all_some (map (target_in (8 * size)) (xs ++ x ∷ [])) ≡ None) in
        subst P (sym (e ∙ q)) (still_none (target_in (8 * size)) xs x r)

-- one that doesn't is noted
pub noted : (size : ℕ) (xs : List Argument) (x : Argument) (new : Numbers) → target_in (8 * size) x ≡ None → new.fit ≡ false → AreStored size (xs ++ x ∷ []) new
noted size xs x new h e =
    let P : Bool → Type 0 = λ b. MatchBool b (all_some (map (target_in (8 * size)) (xs ++ x ∷ [])) ≡ Some new.items.items) (all_some (map (target_in (8 * size)) (xs ++ x ∷ [])) ≡ None) in
    subst P (sym e) (misfit (target_in (8 * size)) xs x h)

pub kept : (size : ℕ) (xs : List Argument) (x : Argument) (o : Option Target) (old new : Numbers) → target_in (8 * size) x ≡ o → Keeps o old new
    → AreStored size xs old → AreStored size (xs ++ x ∷ []) new
kept size xs x None old new h k s = noted size xs x new h k
kept size xs x (Some y) old new h k s = pushed size xs x y old new h k.0 k.1 s

-- ---- the list from a place on

-- the arguments so far stand in front of those from a place on
pub record SoFar (labels : Bool) (size : ℕ) (all rest : List (List ℕ)) (n : Numbers) : Type 0 where
  pub read : List Argument
  pub before : arguments labels all ≡ in_front read (arguments labels rest)
  pub stored_are : AreStored size read n

pub none_so_far : (labels : Bool) (size : ℕ) (ts : List (List ℕ)) (n : Numbers) → n.items.items ≡ [] → n.fit ≡ true → SoFar labels size ts ts n
none_so_far labels size ts n h k = record {
  read = [];
  before = sym (nothing_in_front (arguments labels ts));
  stored_are =
      let P : Bool → Type 0 = λ b. MatchBool b (◌≡◌ {A = Option (List Target)} (Some []) (Some n.items.items)) (◌≡◌ {A = Option (List Target)} (Some []) None) in
      subst P (sym k) (ap Some (sym h));
}

first_argument : (labels : Bool) (ts : List (List ℕ)) (x : Argument) (more : List (List (List ℕ))) → slice_split is_comma ts ≡ part_of ts ∷ more
    → argument labels (part_of ts) ≡ Some x → arguments labels ts ≡ in_front (x ∷ []) (all_some (map (argument labels) more))
first_argument labels ts x more h k =
    ap (λ (ps : List (List (List ℕ))). all_some (map (argument labels) ps)) h
    ∙ ap (λ (o : Option Argument). with_first o (all_some (map (argument labels) more))) k
    ∙ one_in_front x (all_some (map (argument labels) more))

pub goes_on : (labels : Bool) (size : ℕ) (all : List (List ℕ)) (text : List ℕ) (start next : ℕ) (old new : Numbers)
    → SoFar labels size all (tokens (drop start text)) old → Adds labels size text start old new (Some next) → SoFar labels size all (tokens (drop next text)) new
goes_on labels size all text start next old new h a = record {
  read = h.read ++ a.argument ∷ [];
  before = h.before
      ∙ ap (in_front h.read) (first_argument labels (tokens (drop start text)) a.argument (slice_split is_comma (tokens (drop next text))) a.part.rest.3 a.part.is)
      ∙ twice_in_front h.read (a.argument ∷ []) (arguments labels (tokens (drop next text)));
  stored_are = a.stored h.read h.stored_are;
}

-- the whole list has been read
pub record AllRead (labels : Bool) (size : ℕ) (all : List (List ℕ)) (n : Numbers) : Type 0 where
  pub read : List Argument
  pub is : arguments labels all ≡ Some read
  pub stored_are : AreStored size read n

pub has_ended : (labels : Bool) (size : ℕ) (all : List (List ℕ)) (text : List ℕ) (start : ℕ) (old new : Numbers)
    → SoFar labels size all (tokens (drop start text)) old → Adds labels size text start old new None → AllRead labels size all new
has_ended labels size all text start old new h a = record {
  read = h.read ++ a.argument ∷ [];
  is = h.before ∙ ap (in_front h.read) (first_argument labels (tokens (drop start text)) a.argument [] a.part.rest a.part.is);
  stored_are = a.stored h.read h.stored_are;
}

pub no_argument : (labels : Bool) (size : ℕ) (all : List (List ℕ)) (text : List ℕ) (start : ℕ) (n : Numbers)
    → SoFar labels size all (tokens (drop start text)) n → argument labels (part_of (tokens (drop start text))) ≡ None → arguments labels all ≡ None
no_argument labels size all text start n h e =
    let parts = first_is_part (tokens (drop start text)) in
    h.before
    ∙ ap (in_front h.read)
    (ap (λ (ps : List (List (List ℕ))). all_some (map (argument labels) ps)) parts.1
    ∙ ap (λ (o : Option Argument). with_first o (all_some (map (argument labels) parts.0))) e)

pub all_fit : (labels : Bool) (size : ℕ) (all : List (List ℕ)) (n : Numbers) → AllRead labels size all n → n.fit ≡ true
    → numbers size (arguments labels all) ≡ Ok n.items.items
all_fit labels size all n h e =
    let P : Bool → Type 0 = λ b. MatchBool b (all_some (map (target_in (8 * size)) h.read) ≡ Some n.items.items) (all_some (map (target_in (8 * size)) h.read) ≡ None) in
    ap (numbers size) h.is ∙ ap (λ (o : Option (List Target)). ok_or o OutOfRange) (subst P e h.stored_are)

pub not_all_fit : (labels : Bool) (size : ℕ) (all : List (List ℕ)) (n : Numbers) → AllRead labels size all n → n.fit ≡ false
    → numbers size (arguments labels all) ≡ Err OutOfRange
not_all_fit labels size all n h e =
    let P : Bool → Type 0 = λ b. MatchBool b (all_some (map (target_in (8 * size)) h.read) ≡ Some n.items.items) (all_some (map (target_in (8 * size)) h.read) ≡ None) in
    ap (numbers size) h.is ∙ ap (λ (o : Option (List Target)). ok_or o OutOfRange) (subst P e h.stored_are)

pub refused_list : (labels : Bool) (size : ℕ) (all : List (List ℕ)) (text : List ℕ) (start : ℕ) (n : Numbers) (o : Option ListingWhy)
    → SoFar labels size all (tokens (drop start text)) n
    → IfSome o (λ why. (why ≡ BadOperands) × (argument labels (part_of (tokens (drop start text))) ≡ None))
    → IfSome o (λ why. numbers size (arguments labels all) ≡ Err why)
refused_list labels size all text start n None h e = tt
refused_list labels size all text start n (Some why) h e =
    ap (numbers size) (no_argument labels size all text start n h e.1) ∙ ap (λ (w : ListingWhy). Err w) (sym e.0)
