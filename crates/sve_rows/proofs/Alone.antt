-- No word is in two lines. Bits outside of the fields tell all lines apart but five pairs: a load of a whole register stands where an
-- element would have 64 bits in two gathers, and a store of a Z register where an element would be longer than its lane in a store.
-- These differ by the lines' conditions.
use Rattle.sve_insn.specs.Table.{sve_table, memory_lines, data_lines, move_lines, predicate_lines}
use Rattle.sve_insn.specs.Opened.{lines_open}
use Rattle.std.proofs.Common.{drop, ◌≡◌, ℕ, true, refl, List, ◌∷◌, ◌∙◌, ap, sym, not, ◌==◌, ◌||◌, ◌/◌, ◌%◌, ◌^◌, nat_le, arith}
use lib.Pow.{shr-shr}
use Rattle.std.proofs.lemmas.Bool.{false≢true, leb-true}
use Rattle.emu_bits.specs.Fields.{field}
use Rattle.emu_bits.specs.Rows.{◌to◌, Line}
use Rattle.sve_insn.specs.declared.form.SveForm.{SveForm}
use Rattle.sve_insn.specs.declared.lines.TheConstants.{LOAD_IMM}
use Rattle.emu_bits.proofs.Computed.{are_sound, are_alone}
use Rattle.emu_bits.proofs.Encoding.{both, test_apart, and_apart, all_apart, apart_by, fixed_field, Apart, AllApart, one_more, alone_of, Alone}
use Rattle.sve_insn.specs.Conditions.{is_no_doubleword, is_halfword_or_word, gather_word_holds_for, gather_scaled_word_holds_for, fits_lane, store_reg_holds_for}
use Rattle.sve_insn.specs.Memory.{load_z, load_p, store_reg, store_z, gather_sx, gather_sx_scaled}

-- The table without its first three lines, and without the next three too.
abbrev other_lines : List (Line SveForm)
unfolding sve_table memory_lines data_lines move_lines predicate_lines
other_lines = drop LOAD_IMM sve_table

abbrev later_lines : List (Line SveForm)
later_lines = gather_sx ∷ gather_sx_scaled ∷ store_reg ∷ other_lines

pub sound : are_sound sve_table ≡ true
unfolding lines_open
sound = refl

load_z_gather_sx : Apart load_z gather_sx
unfolding load_z gather_sx gather_word_holds_for is_no_doubleword
load_z_gather_sx = apart_by load_z gather_sx 0x85804000 refl (λ k w h e.
    let m : field w 23 2 ≡ 3 = fixed_field w 0xFFC0E000 0x85804000 (24 to 23) refl e refl in
    let b : not (field w 23 2 == 3) ≡ true = (both (not (field w 23 2 == 3)) _ h).0 in
    false≢true (ap (λ (x : ℕ). not (x == 3)) (sym m) ∙ b))

load_z_gather_scaled : Apart load_z gather_sx_scaled
unfolding load_z gather_sx_scaled gather_scaled_word_holds_for is_halfword_or_word
load_z_gather_scaled = apart_by load_z gather_sx_scaled 0x85804000 refl (λ k w h e.
    let m : field w 23 2 ≡ 3 = fixed_field w 0xFFC0E000 0x85804000 (24 to 23) refl e refl in
    let b : (field w 23 2 == 1 || field w 23 2 == 2) ≡ true = (both (field w 23 2 == 1 || field w 23 2 == 2) _ h).0 in
    false≢true (ap (λ (x : ℕ). x == 1 || x == 2) (sym m) ∙ b))

load_p_gather_sx : Apart load_p gather_sx
unfolding load_p gather_sx gather_word_holds_for is_no_doubleword
load_p_gather_sx = apart_by load_p gather_sx 0x85800000 refl (λ k w h e.
    let m : field w 23 2 ≡ 3 = fixed_field w 0xFFC0E010 0x85800000 (24 to 23) refl e refl in
    let b : not (field w 23 2 == 3) ≡ true = (both (not (field w 23 2 == 3)) _ h).0 in
    false≢true (ap (λ (x : ℕ). not (x == 3)) (sym m) ∙ b))

load_p_gather_scaled : Apart load_p gather_sx_scaled
unfolding load_p gather_sx_scaled gather_scaled_word_holds_for is_halfword_or_word
load_p_gather_scaled = apart_by load_p gather_sx_scaled 0x85800000 refl (λ k w h e.
    let m : field w 23 2 ≡ 3 = fixed_field w 0xFFC0E010 0x85800000 (24 to 23) refl e refl in
    let b : (field w 23 2 == 1 || field w 23 2 == 2) ≡ true = (both (field w 23 2 == 1 || field w 23 2 == 2) _ h).0 in
    false≢true (ap (λ (x : ℕ). x == 1 || x == 2) (sym m) ∙ b))

below_three : (y : ℕ) → y / 2 % 2 ≡ 0 → nat_le 3 (y % 4) ≡ true → ⊥
below_three y e h = omega (arith, leb-true 3 (y % 4) h)

-- a lane's size is 0 or 1 where bit 22 is 0
size_small : (x : ℕ) → x / 2 ^ 22 % 2 ^ 1 ≡ 0 → nat_le 3 (x / 2 ^ 21 % 2 ^ 2) ≡ true → ⊥
size_small x e h =
    let s : x / 2 ^ 21 / 2 ^ 1 ≡ x / 2 ^ 22 = shr-shr x 21 1 in
    let z : x / 2 ^ 21 / 2 % 2 ≡ 0 = ap (λ (y : ℕ). y % 2) s ∙ e in
    below_three (x / 2 ^ 21) z h

store_z_store_reg : Apart store_z store_reg
unfolding store_z store_reg store_reg_holds_for fits_lane
store_z_store_reg = apart_by store_z store_reg 0xE5804000 refl (λ k w h e.
    let m : field w 23 2 ≡ 3 = fixed_field w 0xFFC0E000 0xE5804000 (24 to 23) refl e refl in
    let z : field w 22 1 ≡ 0 = fixed_field w 0xFFC0E000 0xE5804000 (22 to 22) refl e refl in
    let b : nat_le (field w 23 2) (field w 21 2) ≡ true = (both (nat_le (field w 23 2) (field w 21 2)) _ h).0 in
    size_small w z (ap (λ (x : ℕ). nat_le x (field w 21 2)) (sym m) ∙ b))

rest_test : are_alone later_lines ≡ true
unfolding lines_open
rest_test = refl

load_z_and_later : AllApart load_z (store_reg ∷ other_lines)
unfolding lines_open
load_z_and_later = all_apart load_z (store_reg ∷ other_lines) refl

load_p_and_later : AllApart load_p (store_reg ∷ other_lines)
unfolding lines_open
load_p_and_later = all_apart load_p (store_reg ∷ other_lines) refl

store_z_and_later : AllApart store_z other_lines
unfolding lines_open
store_z_and_later = all_apart store_z other_lines refl

load_z_and_rest : AllApart load_z (load_p ∷ store_z ∷ later_lines)
unfolding load_z load_p store_z
load_z_and_rest = test_apart load_z load_p _ refl (test_apart load_z store_z _ refl
    (and_apart load_z gather_sx _ load_z_gather_sx (and_apart load_z gather_sx_scaled _ load_z_gather_scaled load_z_and_later)))

load_p_and_rest : AllApart load_p (store_z ∷ later_lines)
unfolding load_p store_z
load_p_and_rest = test_apart load_p store_z _ refl
    (and_apart load_p gather_sx _ load_p_gather_sx (and_apart load_p gather_sx_scaled _ load_p_gather_scaled load_p_and_later))

store_z_and_rest : AllApart store_z later_lines
unfolding store_z gather_sx gather_sx_scaled
store_z_and_rest = test_apart store_z gather_sx _ refl (test_apart store_z gather_sx_scaled _ refl
    (and_apart store_z store_reg _ store_z_store_reg store_z_and_later))

pub alone : Alone sve_table
unfolding sve_table memory_lines data_lines move_lines predicate_lines
alone = one_more load_z_and_rest (one_more load_p_and_rest (one_more store_z_and_rest (alone_of later_lines rest_test)))
