-- Two stable sorts, one after the other, leave symbols of one address and one size in their order.
use Rattle.std.proofs.Common.{◌≡◌, ℕ, Bool, true, false, cond, not, ◌&&◌, List, [], ◌∷◌, map, filter, refl, sym, ap, ◌∙◌, arith, nat_eq, nat_lt}
use Rattle.std.proofs.lemmas.Bool.Decides.{nat_tests}
use Rattle.std.proofs.lemmas.List.Elements.{filter_agree}
use Rattle.std.specs.declared.cmp.Ordering.TheVariants.{Less, Equal, Greater}
use Rattle.std.specs.Ordering.{nat_cmp, is_lt}
use Rattle.std.specs.List.Sorted.{IsStableByKey, ties}
use Rattle.elf_symbols.specs.declared.Symbol.{Symbol as ReadSymbol}
use Rattle.elf_symbols.specs.Symbols.{Symbol, seen}
use Rattle.elf_symbols.specs.Order.{address_key, size_key, is_beside, stands_with}

-- ---- filters one after the other

both_step : {X : Type 0} (q : X → Bool) (x : X) (t : Bool) (rest whole : List X) → rest ≡ filter q whole
    → cond (t && q x) (x ∷ rest) rest ≡ filter q (cond t (x ∷ whole) whole)
both_step q x true rest whole e = ap (λ r. cond (q x) (x ∷ r) r) e
both_step q x false rest whole e = e

filter-both : {X : Type 0} (p q : X → Bool) (xs : List X) → filter (λ x. p x && q x) xs ≡ filter q (filter p xs)
filter-both p q [] = refl
filter-both p q (x ∷ xs) = both_step q x (p x) _ _ (filter-both p q xs)

and-swap : (t u : Bool) → (t && u) ≡ (u && t)
and-swap true true = refl
and-swap true false = refl
and-swap false true = refl
and-swap false false = refl

stable_both : {X : Type 0} (p q : X → Bool) (old mid new : List X) → filter q mid ≡ filter q old → filter p new ≡ filter p mid
    → filter (λ x. p x && q x) new ≡ filter (λ x. p x && q x) old
stable_both p q old mid new hq hp =
    filter-both p q new ∙ ap (filter q) hp ∙ sym (filter-both p q mid)
    ∙ filter_agree (λ x. p x && q x) (λ x. q x && p x) (λ x. and-swap (p x) (q x)) mid
    ∙ filter-both q p mid ∙ ap (filter p) hq ∙ sym (filter-both q p old)
    ∙ filter_agree (λ x. q x && p x) (λ x. p x && q x) (λ x. and-swap (q x) (p x)) old

-- ---- keys that tie

less_is : (t u : Bool) → is_lt (cond t Less (cond u Equal Greater)) ≡ t
less_is true u = refl
less_is false true = refl
less_is false false = refl

neither_less : (a b : ℕ) → (not (nat_lt a b) && not (nat_lt b a)) ≡ nat_eq a b
neither_less a b = grind (arith, nat_tests)

ties_is : (a b : ℕ) → (not (is_lt (nat_cmp a b)) && not (is_lt (nat_cmp b a))) ≡ nat_eq a b
ties_is a b = let e = less_is (nat_lt a b) (nat_eq a b) in let f = less_is (nat_lt b a) (nat_eq b a) in let g = neither_less a b in cc

beside_is : (x y : ReadSymbol) → is_beside x y ≡ (ties (λ a b. is_lt (nat_cmp (address_key a) (address_key b))) x y && ties (λ a b. is_lt (nat_cmp (size_key a) (size_key b))) x y)
beside_is x y = let e = ties_is x.address y.address in let f = ties_is x.size y.size in cc

pub stable_sorts : (old mid new : List ReadSymbol) → IsStableByKey size_key nat_cmp old mid → IsStableByKey address_key nat_cmp mid new
    → (x : ReadSymbol) → filter (is_beside x) new ≡ filter (is_beside x) old
stable_sorts old mid new by_size by_address x =
    filter_agree (is_beside x) _ (beside_is x) new
    ∙ stable_both (ties (λ a b. is_lt (nat_cmp (address_key a) (address_key b))) x) (ties (λ a b. is_lt (nat_cmp (size_key a) (size_key b))) x) old mid new (by_size x) (by_address x)
    ∙ sym (filter_agree (is_beside x) _ (beside_is x) old)

-- ---- symbols as they are seen

seen_step : (y : ReadSymbol) (t : Bool) (rest : List Symbol) (whole : List ReadSymbol) → rest ≡ map seen whole
    → cond t (seen y ∷ rest) rest ≡ map seen (cond t (y ∷ whole) whole)
seen_step y true rest whole e = ap (λ r. seen y ∷ r) e
seen_step y false rest whole e = e

filter-seen : (x : ReadSymbol) (xs : List ReadSymbol) → filter (stands_with x) (map seen xs) ≡ map seen (filter (is_beside x) xs)
filter-seen x [] = refl
filter-seen x (y ∷ xs) = seen_step y (is_beside x y) _ _ (filter-seen x xs)

pub in_table_order : (old new : List ReadSymbol) (all : List Symbol) → map seen old ≡ all → ((x : ReadSymbol) → filter (is_beside x) new ≡ filter (is_beside x) old)
    → (x : ReadSymbol) → filter (stands_with x) (map seen new) ≡ filter (stands_with x) all
in_table_order old new all e stable x = filter-seen x new ∙ ap (map seen) (stable x) ∙ sym (filter-seen x old) ∙ ap (filter (stands_with x)) e
