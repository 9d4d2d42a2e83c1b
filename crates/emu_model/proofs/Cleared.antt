-- What cleared registers read as.
use Rattle.std.proofs.Common.{◌≡◌, ◌≤◌, ◌<◌, ◌-◌, ◌/◌, ℕ, zero, suc, Bool, true, false, List, [], ◌∷◌, ◌++◌, length, map, take, replicate, get_or, if◌then◌else◌, nat_lt, inl, inr, refl, ap, sym, ◌∙◌, arith}
use Rattle.std.proofs.lemmas.Bool.{cases_lt}
use Rattle.std.proofs.lemmas.Bool.Decides.{nat_tests}
use Rattle.std.proofs.lemmas.List.{get_or-take, get_or_past, get_or_append_left, get_or-append_right, length-take}
use Rattle.emu_model.specs.State.{Vectors}
use Rattle.emu_model.specs.AfterCall.{low_bytes, cleared}
use Rattle.emu_model.specs.Lanes.{read_z, read_p}

same_read : {A : Type 0} (n j : ℕ) (a : A) → get_or (replicate n a) j a ≡ a
same_read zero j a = refl
same_read (suc n) zero a = refl
same_read (suc n) (suc j) a = same_read n j a

-- the low bytes as before, zeros above
low_read : (bytes zeros : List ℕ) (j : ℕ) → j < 16 → ((k : ℕ) → get_or zeros k 0 ≡ 0) → get_or (take 16 bytes ++ zeros) j 0 ≡ get_or bytes j 0
low_read bytes zeros j low none = elim (cases_lt j (length (take 16 bytes))) [
  | inl within ↦ get_or_append_left (take 16 bytes) zeros 0 j within ∙ get_or-take 16 bytes j 0 low
  | inr past ↦
      (let short : length bytes ≤ j = omega (arith, length-take 16 bytes) in
      get_or-append_right (take 16 bytes) zeros (length (take 16 bytes)) j 0 refl past ∙ none (j - length (take 16 bytes)) ∙ sym (get_or_past bytes j 0 short))
]

low_or_zero : (bits : ℕ) (bytes : List ℕ) (j : ℕ) → get_or (low_bytes bits bytes) j 0 ≡ (if nat_lt j 16 then get_or bytes j 0 else 0)
low_or_zero bits bytes j = elim (cases_lt j 16) [
  | inl low ↦
      (let here : nat_lt j 16 ≡ true = grind (arith, nat_tests) in
      low_read bytes (replicate (bits / 8 - 16) 0) j low (λ k. same_read (bits / 8 - 16) k 0) ∙ ap (λ b. if b then get_or bytes j 0 else 0) (sym here))
  | inr high ↦
      (let there : nat_lt j 16 ≡ false = grind (arith, nat_tests) in
      let long : length (take 16 bytes) ≤ j = omega (arith, length-take 16 bytes) in
      get_or-append_right (take 16 bytes) (replicate (bits / 8 - 16) 0) (length (take 16 bytes)) j 0 refl long
      ∙ same_read (bits / 8 - 16) (j - length (take 16 bytes)) 0
      ∙ ap (λ b. if b then get_or bytes j 0 else 0) (sym there))
]

either_way : (b : Bool) (n : ℕ) → n ≡ (if b then n else n)
either_way true n = refl
either_way false n = refl

low_registers : (bits : ℕ) (zs : List (List ℕ)) (r j : ℕ) → get_or (get_or (map (low_bytes bits) zs) r []) j 0 ≡ (if nat_lt j 16 then get_or (get_or zs r []) j 0 else 0)
low_registers bits [] r j = either_way (nat_lt j 16) 0
low_registers bits (z ∷ zs) zero j = low_or_zero bits z j
low_registers bits (z ∷ zs) (suc r) j = low_registers bits zs r j

pub z_cleared : (bits : ℕ) (v : Vectors) (r j : ℕ) → get_or (read_z (cleared bits v) r) j 0 ≡ (if nat_lt j 16 then get_or (read_z v r) j 0 else 0)
z_cleared bits v r j = low_registers bits v.z r j

none_set : (n m r j : ℕ) → get_or (get_or (replicate n (replicate m false)) r []) j false ≡ false
none_set zero m r j = refl
none_set (suc n) m zero j = same_read m j false
none_set (suc n) m (suc r) j = none_set n m r j

pub p_cleared : (bits : ℕ) (v : Vectors) (r j : ℕ) → get_or (read_p (cleared bits v) r) j false ≡ false
p_cleared bits v r j = none_set 16 (bits / 8) r j

pub ffr_cleared : (bits : ℕ) (v : Vectors) (j : ℕ) → get_or (cleared bits v).ffr j false ≡ false
ffr_cleared bits v j = same_read (bits / 8) j false
