-- Numbers as bytes.
use Rattle.std.proofs.Common.{◌≡◌, ◌≤◌, ◌-◌, ◌%◌, ℕ, zero, suc, List, [], ◌∷◌, ◌++◌, map, take, drop, length, refl, ap, ◌∙◌, sym, arith}
use Rattle.std.proofs.lemmas.List.{map-append, length-map}
use Rattle.std.proofs.Math.Seq.{take-append_seam}
use Rattle.emu_model.specs.WithinPage.{overwritten}
use Rattle.page_list.specs.Bytes.{as_bytes}

pub map_take : {X Y : Type 0} (f : X → Y) (l : List X) (n : ℕ) → map f (take n l) ≡ take n (map f l)
map_take f [] zero = refl
map_take f [] (suc n) = refl
map_take f (x ∷ l) zero = refl
map_take f (x ∷ l) (suc n) = ap (λ r. f x ∷ r) (map_take f l n)

pub map_drop : {X Y : Type 0} (f : X → Y) (l : List X) (n : ℕ) → map f (drop n l) ≡ drop n (map f l)
map_drop f [] zero = refl
map_drop f [] (suc n) = refl
map_drop f (x ∷ l) zero = refl
map_drop f (x ∷ l) (suc n) = map_drop f l n

pub as_bytes-overwritten : (at : ℕ) (piece old : List ℕ) → as_bytes (overwritten at piece old) ≡ overwritten at (as_bytes piece) (as_bytes old)
as_bytes-overwritten at piece old =
    let f : ℕ → ℕ = λ b. b % 256 in
    map-append f (take at old) (piece ++ drop (length piece) (drop at old))
    ∙ ap (λ l. l ++ as_bytes (piece ++ drop (length piece) (drop at old))) (map_take f old at)
    ∙ ap (λ l. take at (as_bytes old) ++ l) (map-append f piece (drop (length piece) (drop at old)))
    ∙ ap (λ l. take at (as_bytes old) ++ (as_bytes piece ++ l)) (map_drop f (drop at old) (length piece) ∙ ap (λ l. drop (length piece) l) (map_drop f old at))
    ∙ ap (λ n. take at (as_bytes old) ++ (as_bytes piece ++ drop n (drop at (as_bytes old)))) (sym (length-map piece f))

none_taken : {X : Type 0} (l : List X) → take 0 l ≡ []
none_taken [] = refl
none_taken (x ∷ l) = refl

-- what is written from the first place on, as far as the list goes
refilled-zero : (l w : List ℕ) → take (length l) ((w ++ drop (length w) l) ++ drop (length (w ++ drop (length w) l)) l) ≡ take (length l) w ++ drop (length (take (length l) w)) l
refilled-zero [] w = none_taken ((w ++ drop (length w) []) ++ drop (length (w ++ drop (length w) [])) []) ∙ sym (ap (λ (t : List ℕ). t ++ drop (length t) []) (none_taken w))
refilled-zero (x ∷ l) [] = ap (λ r. x ∷ r) (take-append_seam l (drop (length l) l))
refilled-zero (x ∷ l) (b ∷ w) = ap (λ r. b ∷ r) (refilled-zero l w)

-- what is written from a place on, as far as the list goes
pub refilled : (at : ℕ) (w l : List ℕ) → at ≤ length l → take (length l) (overwritten at w l ++ drop (length (overwritten at w l)) l) ≡ overwritten at (take (length l - at) w) l
refilled zero w [] h = none_taken (overwritten 0 w [] ++ drop (length (overwritten 0 w [])) []) ∙ sym (ap (λ (t : List ℕ). t ++ drop (length t) []) (none_taken w))
refilled zero w (x ∷ l) h =
    let e : length (x ∷ l) - 0 ≡ length (x ∷ l) = omega arith in
    refilled-zero (x ∷ l) w ∙ ap (λ n. overwritten 0 (take n w) (x ∷ l)) (sym e)
refilled (suc at) w [] h = absurd (omega arith)
refilled (suc at) w (x ∷ l) h =
    let e : length (x ∷ l) - suc at ≡ length l - at = omega arith in
    ap (λ r. x ∷ r) (refilled at w l (omega arith)) ∙ ap (λ n. overwritten (suc at) (take n w) (x ∷ l)) (sym e)
