-- The listing of a load program: its instructions, and 20,000 numbers that are made from one. The program is this
-- project's own choice; docs/MANUAL.md says under `svemu load` what it does.
use Rattle.std.specs.Prelude.{ℕ, ◌+◌, ◌*◌, ◌%◌, ◌^◌, List, [], ◌∷◌, ◌++◌, codes, flat_map}
use Rattle.std.specs.Fmt.{decimal}
use Rattle.std.specs.List.{range_with_len}

-- it sums up the numbers and finds the greatest of them, as many lanes of 64 bits at a time as there are, writes both
-- to file 1 and ends
unfoldable pub program_lines : List (List ℕ)
program_lines =
    codes "  adr x1, nums"
    ∷ codes "  movz x2, #20000"
    ∷ codes "  movz x3, #0"
    ∷ codes "  dup z0.d, #0"
    ∷ codes "  dup z4.d, #0"
    ∷ codes "  whilelo p0.d, x3, x2"
    ∷ codes "loop: ld1w {z1.d}, p0/z, [x1, x3, lsl #2]"
    ∷ codes "  add z0.d, p0/m, z0.d, z1.d"
    ∷ codes "  index z2.d, x3, #1"
    ∷ codes "  ld1w {z3.d}, p0/z, [x1, z2.d, lsl #2]"
    ∷ codes "  umax z4.d, p0/m, z4.d, z3.d"
    ∷ codes "  incd x3"
    ∷ codes "  whilelo p0.d, x3, x2"
    ∷ codes "  b.mi loop"
    ∷ codes "  ptrue p1.d"
    ∷ codes "  uaddv d0, p1, z0.d"
    ∷ codes "  umaxv d1, p1, z4.d"
    ∷ codes "  fmov x0, d0"
    ∷ codes "  fmov x5, d1"
    ∷ codes "  sub sp, sp, #16"
    ∷ codes "  str x0, [sp]"
    ∷ codes "  str x5, [sp, #8]"
    ∷ codes "  movz x0, #1"
    ∷ codes "  add x1, sp, #0"
    ∷ codes "  movz x2, #16"
    ∷ codes "  movz x8, #64"
    ∷ codes "  svc #0"
    ∷ codes "  movz x0, #0"
    ∷ codes "  movz x8, #93"
    ∷ codes "  svc #0"
    ∷ codes ".data"
    ∷ codes "nums:"
    ∷ []

-- its numbers, of 32 bits, counted from 0
abbrev pub number_at : ℕ → ℕ → ℕ
number_at n j = (n + j) * (j + 1) % 2 ^ 32

-- those of a line of data: eight, the first behind the directive, each other behind a comma and a space
abbrev pub later_number : ℕ → ℕ → List ℕ
later_number n j = codes ", " ++ decimal (number_at n j)

unfoldable pub data_line : ℕ → ℕ → List ℕ
data_line n k =
    codes ".word " ++ decimal (number_at n (8 * k)) ++ flat_map (later_number n) (range_with_len (8 * k + 1) 7)

-- a line and its end
abbrev pub line_text : List ℕ → List ℕ
line_text line = line ++ 10 ∷ []

unfoldable pub program_text : List ℕ
program_text = flat_map line_text program_lines

-- so many lines of data
unfoldable pub data_text : ℕ → ℕ → List ℕ
data_text n count = flat_map (λ k. line_text (data_line n k)) (range_with_len 0 count)

-- the whole listing, by the number that it is made from
unfoldable pub listing : ℕ → List ℕ
listing n = program_text ++ data_text n 2500
