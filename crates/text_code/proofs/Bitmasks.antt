-- Fields that give a bitmask, as the number that they are: those that the code finds are those that a statement stands for.
use Rattle.std.proofs.Common.{◌≡◌, ℕ, ◌+◌, ◌*◌, ◌/◌, ◌%◌, ◌^◌, ◌<◌, ◌≤◌, ◌==◌, ◌&&◌, ◌||◌, Bool, true, false, Option, Some, None, nat_lt, sym, ap, ◌∙◌, subst, arith, inl, inr}
use Rattle.std.proofs.lemmas.Bool.{cases_Bool, or_cases, eqb-true, eq-eqb, ne_eqb, false≢true}
use Rattle.std.specs.Prelude.{is_some, unwrap_or}
use Rattle.emu_bits.specs.Bitmask.{bitmask_of}
use Rattle.emu_bits.specs.LeastFields.{GivesBitmask, IsLeastFields}
use Rattle.text_model.specs.declared.slots.Kind.TheVariants.{Bitmask}
use Rattle.text_model.specs.Masks.{bitmask_at, bitmask_fields}
use Rattle.text_model.specs.Reading.{element_size, is_canonical}
use Rattle.text_model.proofs.KindLaws.{bitmask_small}
use Rattle.text_model.proofs.MaskLaws.{n_of, r_of, s_of, size, size_some, same_mask, some_is, canonical_of, reduced, reduced_mask, reduced_canonical, reduced_below, mask_told, none_told}

widths : (w : ℕ) → (w == 32 || w == 64) ≡ true → (w == 64 || w == 32) ≡ true
widths w h = elim (or_cases (w == 32) (w == 64) h) [
  | inl e ↦ ap (λ (x : ℕ). x == 64 || x == 32) (eqb-true w 32 e)
  | inr e ↦ ap (λ (b : Bool). b || w == 32) e
]

-- canonical fields that give a mask are those that the mask tells
told_mask : (w v m : ℕ) → (w == 32 || w == 64) ≡ true → v < 8192 → bitmask_at w v ≡ Some m → is_canonical (Bitmask w) v ≡ true → bitmask_fields w m ≡ v
told_mask w v m g h e c = mask_told w v m (widths w g) h e c

-- fields that a mask tells are canonical
pub told_canonical : (w v m : ℕ) → (w == 32 || w == 64) ≡ true → v < 8192 → bitmask_at w v ≡ Some m → bitmask_fields w m ≡ v → is_canonical (Bitmask w) v ≡ true
told_canonical w v m g h e t =
    let c = reduced_canonical v w m e in
    let same : reduced v ≡ v = sym (told_mask w (reduced v) m g (reduced_below v h) (reduced_mask v w m e) c) ∙ t in
    ap (is_canonical (Bitmask w)) (sym same) ∙ c

-- whether the fields of a mask are those that it tells
pub is_least_test : (w v m : ℕ) → (w == 32 || w == 64) ≡ true → v < 8192 → bitmask_at w v ≡ Some m → (bitmask_fields w m == v) ≡ is_canonical (Bitmask w) v
is_least_test w v m g h e = elim (cases_Bool (is_canonical (Bitmask w) v)) [
  | inl c ↦ eq-eqb _ _ (told_mask w v m g h e c) ∙ sym c
  | inr c ↦ ne_eqb _ _ (λ (t : bitmask_fields w m ≡ v). false≢true (sym c ∙ told_canonical w v m g h e t)) ∙ sym c
]

pub none_canonical : (w v : ℕ) → bitmask_at w v ≡ None → is_canonical (Bitmask w) v ≡ false
none_canonical w v e = ap (λ (o : Option ℕ). is_some o && nat_lt (v / 64 % 64) (element_size v)) e

-- ---- what `bitmask_fields` of the code finds

-- the least fields
pub least_fields : (w m n r s : ℕ) → (w == 32 || w == 64) ≡ true → IsLeastFields w m n r s → n * 4096 + r * 64 + s ≡ bitmask_fields w m
least_fields w m n r s g f =
    let v : ℕ = n * 4096 + r * 64 + s in
    let n2 : n < 2 = f.gives.flag in
    let r2 : r < 64 = f.gives.rotation in
    let s2 : s < 64 = f.gives.size in
    let e : bitmask_at w v ≡ Some m =
    ap (λ (x : ℕ). bitmask_of w x (v / 64 % 64) (v % 64)) (n_of n r s r2 s2) ∙ ap (λ (x : ℕ). bitmask_of w n x (v % 64)) (r_of n r s r2 s2)
    ∙ ap (λ (x : ℕ). bitmask_of w n r x) (s_of n r s r2 s2) ∙ f.gives.gives in
    let p : 0 < size n s = size_some n s in
    let q : r % size n s < 64 = omega (arith, r2, p) in
    let o : GivesBitmask w m n (r % size n s) s = record { flag = n2; rotation = q; size = s2; gives = same_mask w n r s ∙ f.gives.gives } in
    let l : r ≤ r % size n s = (f.least n (r % size n s) s o).1 in
    let b : r < size n s = omega (arith, l, p) in
    let below : v < 8192 = omega (arith, n2, r2, s2) in
    sym (told_mask w v m g below e (canonical_of w v m e
    (subst (λ (x : ℕ). x < size (v / 4096) (v % 64)) (sym (r_of n r s r2 s2))
    (subst (λ (x : ℕ). r < size x (v % 64)) (sym (n_of n r s r2 s2)) (subst (λ (x : ℕ). r < size n x) (sym (s_of n r s r2 s2)) b)))))

-- no fields
pub no_fields : (w m : ℕ) → ((n r s : ℕ) → GivesBitmask w m n r s → ⊥) → 0 ≡ bitmask_fields w m
no_fields w m h =
    sym (none_told w m (λ (v : ℕ) (l : v < 8192) (e : bitmask_at w v ≡ Some m).
    h (v / 4096) (v / 64 % 64) (v % 64) (record { flag = omega (arith, l); rotation = omega arith; size = omega arith; gives = e })))

-- a number of more than 64 bits is no bitmask
pub too_large : (w m : ℕ) → (w == 32 || w == 64) ≡ true → 2 ^ 64 ≤ m → 0 ≡ bitmask_fields w m
too_large w m g h =
    sym (none_told w m (λ (v : ℕ) (l : v < 8192) (e : bitmask_at w v ≡ Some m).
    let b : unwrap_or (bitmask_at w v) 0 < 2 ^ 64 = bitmask_small w v (widths w g) l in
    let s : unwrap_or (bitmask_at w v) 0 ≡ m = (some_is (bitmask_at w v) m e).1 in
    omega (arith, h, b, s)))
