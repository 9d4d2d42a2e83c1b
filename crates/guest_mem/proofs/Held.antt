-- The accesses of a log: those of its run, and those in its cells.
use Rattle.std.proofs.Common.{◌≡◌, ◌≤◌, ◌+◌, ◌*◌, ◌%◌, ◌^◌, ℕ, Bool, List, [], ◌∷◌, ◌++◌, length, take, drop, sym, ap, ◌∙◌, arith, append_assoc, length-append, length-drop}
use Rattle.std.proofs.lemmas.List.{length-take, length-take-le}
use Rattle.std.proofs.lemmas.Slice.{take-put_mid}
use borrow.Rule.Slice.PartMut.{mid_of, put_mid}
use Rattle.emu_model.specs.declared.access.Access.{Access}
use Rattle.emu_model.specs.Access.{address}
use Rattle.emu_model.specs.ListLaws.{each-more, length-each}
use Rattle.guest_mem.specs.Logs.{run_of}

pub length_run : (base n count : ℕ) (write : Bool) → length (run_of base n count write) ≡ count
length_run base n count write = length-each count (λ i. record { address = address (base + i * n); bytes = n; write = write })

pub length_held : (base n count len : ℕ) (write : Bool) (cells : List Access) → len ≤ length cells → length (run_of base n count write ++ take len cells) ≡ count + len
length_held base n count len write cells h =
    let both = length-append (run_of base n count write) (take len cells) in
    let first = length_run base n count write in
    let second = length-take len cells in
    omega (arith, both, first, second, h)

-- some more in the cells
pub held_more : (run : List Access) (len k more : ℕ) (cells filled : List Access) → len ≤ length cells → length filled ≡ more
    → run ++ take (len + more) (put_mid len k cells filled) ≡ (run ++ take len cells) ++ filled
held_more run len k more cells filled h long =
    ap (λ (xs : List Access). run ++ xs) (take-put_mid len k cells filled (len + more) (omega (arith, long)) h) ∙ sym (append_assoc run (take len cells) filled)

-- a part of the cells
pub length_mid : (a k : ℕ) (cells : List Access) → a + k ≤ length cells → length (mid_of a k cells) ≡ k
length_mid a k cells h =
    let rest = length-drop a cells in
    length-take-le k (drop a cells) (omega (arith, rest, h))

-- a run that was put into a part of the cells
pub filled_run : (base n count : ℕ) (write : Bool) (a k : ℕ) (cells filled : List Access) → k ≡ count → a + k ≤ length cells → filled ≡ run_of base n (length (mid_of a k cells)) write
    → filled ≡ run_of base n count write
filled_run base n count write a k cells filled one within is = is ∙ ap (λ m. run_of base n m write) (length_mid a k cells within ∙ one)

pub long_filled : (base n count : ℕ) (write : Bool) (filled : List Access) → filled ≡ run_of base n count write → length filled ≡ count
long_filled base n count write filled is = ap (λ (xs : List Access). length xs) is ∙ length_run base n count write

-- the address of the access behind the first k of a run
pub next_address : (base n k at next : ℕ) → at ≡ (base + k * n) % 2 ^ 64 → next ≡ (at + n) % 2 ^ 64 → next ≡ (base + (k + 1) * n) % 2 ^ 64
next_address base n k at next is more =
    let e : base + k * n + n ≡ base + (k + 1) * n = omega arith in
    let m : next ≡ (base + k * n + n) % 2 ^ 64 = omega arith in
    m ∙ ap (λ a. a % 2 ^ 64) e

-- a run with one access more, behind others
pub run_more : (base n i at : ℕ) (write : Bool) (others before new : List Access) → at ≡ address (base + i * n) → before ≡ others ++ run_of base n i write
    → new ≡ before ++ record { address = at; bytes = n; write = write } ∷ [] → new ≡ others ++ run_of base n (i + 1) write
run_more base n i at write others before new here was is =
    let one : ℕ → List Access = λ a. record { address = a; bytes = n; write = write } ∷ [] in
    is
    ∙ ap (λ (xs : List Access). xs ++ one at) was
    ∙ append_assoc others (run_of base n i write) (one at)
    ∙ ap (λ a. others ++ (run_of base n i write ++ one a)) here
    ∙ ap (λ (xs : List Access). others ++ xs) (sym (each-more i (λ k. record { address = address (base + k * n); bytes = n; write = write })))
