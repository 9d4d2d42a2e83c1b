-- An instruction of a line with targets has one in its text.
use Rattle.std.proofs.Common.{◌≡◌, ℕ, ◌^◌, ◌<◌, ◌==◌, Bool, true, false, Option, Some, refl, sym, ap, subst, ◌∙◌, arith}
use Rattle.std.specs.Prelude.{is_some}
use Rattle.std.proofs.lemmas.Bool.{false≢true}
use Rattle.emu_bits.specs.Fields.{bit, field}
use Rattle.emu_bits.specs.Rows.{◌to◌, values, Line, Row, row_in, instruction}
use Rattle.emu_bits.specs.RowLaws.{line_at, IsRow}
use Rattle.emu_bits.proofs.Encoding.{answer_of}
use Rattle.text_model.specs.Reading.{Pattern}
use Rattle.text_model.proofs.Building.{small_at}
use Rattle.text_model.proofs.Tables.{chosen_is}
use Rattle.a64_insn.specs.declared.form.A64Form.{A64Form}
use Rattle.a64_insn.specs.declared.form.A64Form.TheVariants.{Adr, Branch, BranchCond, Compare, Test, LsLiteral}
use Rattle.a64_insn.specs.declared.ops.AdrOp.{AdrOp}
use Rattle.a64_insn.specs.declared.ops.AdrOp.TheVariants as adr_names
use Rattle.a64_insn.specs.declared.ops.BranchOp.{BranchOp}
use Rattle.a64_insn.specs.declared.ops.BranchOp.TheVariants as branch_names
use Rattle.a64_insn.specs.declared.ops.CompareOp.{CompareOp}
use Rattle.a64_insn.specs.declared.ops.CompareOp.TheVariants as compare_names
use Rattle.a64_insn.specs.declared.ops.TestOp.{TestOp}
use Rattle.a64_insn.specs.declared.ops.TestOp.TheVariants as test_names
use Rattle.a64_insn.specs.Names.{adr_named, branch_named, compare_named, test_named}
use Rattle.a64_insn.specs.Numbers.{adr_number, branch_number, compare_number, test_number}
use Rattle.a64_insn.specs.Table.{a64_table}
use Rattle.a64_insn.specs.Rows.{row_of, line_number}
use Rattle.a64_insn.specs.Data.{adr}
use Rattle.a64_insn.specs.Flow.{branch, branch_cond, compare, test_branch}
use Rattle.a64_insn.specs.Memory.{ls_literal, ls_literal_holds_for}
use Rattle.a64_insn.specs.declared.lines.TheConstants as line
use Rattle.asm_a64.specs.Law.{word_of, texts_of, reach}
use Rattle.asm_a64.specs.LawOfTexts.{reach_by}
use Rattle.asm_a64.proofs.Totals.{has_text}
use Rattle.asm_text.proofs.Found.{IsFound, found, number_found}
use Rattle.asm_text.proofs.BaseTests.{numbered, has_targets}
use Rattle.asm_text.proofs.Base.{flag_back, one_bit}
use Rattle.asm_text.proofs.Aimed.{every_at, has_reach, reaching}

-- ---- rows

flag_small : (b : Bool) → bit b < 2 ^ 1
flag_small true = omega arith
flag_small false = omega arith

small_adr : (op : AdrOp) → adr_number op < 2
small_adr adr_names.Adr = omega arith
small_adr adr_names.Adrp = omega arith

small_branch : (op : BranchOp) → branch_number op < 2
small_branch branch_names.B = omega arith
small_branch branch_names.Bl = omega arith

small_compare : (op : CompareOp) → compare_number op < 2
small_compare compare_names.Cbz = omega arith
small_compare compare_names.Cbnz = omega arith

small_test : (op : TestOp) → test_number op < 2
small_test test_names.Tbz = omega arith
small_test test_names.Tbnz = omega arith

-- the forms that a line makes of a word's values are of rows
abbrev MakesRows : Line A64Form → Type 0
MakesRows l = (w : ℕ) (r : Row A64Form) → row_in l w ≡ Some r → IsRow (row_of (l.form r.number (values l.places w)))

adr_rows : MakesRows adr
unfolding adr
adr_rows w r h = record {
  numbered = small_adr (adr_named r.number);
  fits = (small_at (30 to 29) w, (small_at (23 to 5) w, (small_at (4 to 0) w, tt)));
  met = refl;
}

branch_rows : MakesRows branch
unfolding branch
branch_rows w r h = record { numbered = small_branch (branch_named r.number); fits = (small_at (25 to 0) w, tt); met = refl }

branch_cond_rows : MakesRows branch_cond
unfolding branch_cond
branch_cond_rows w r h = record { numbered = omega arith; fits = (small_at (23 to 5) w, (small_at (3 to 0) w, tt)); met = refl }

compare_rows : MakesRows compare
unfolding compare
compare_rows w r h = record {
  numbered = small_compare (compare_named r.number);
  fits = (flag_small (field w 31 1 == 1), (small_at (23 to 5) w, (small_at (4 to 0) w, tt)));
  met = refl;
}

test_rows : MakesRows test_branch
unfolding test_branch
test_rows w r h = record {
  numbered = small_test (test_named r.number);
  fits = (flag_small (field w 31 1 == 1), (small_at (23 to 19) w, (small_at (18 to 5) w, (small_at (4 to 0) w, tt))));
  met = refl;
}

ls_literal_rows : MakesRows ls_literal
unfolding ls_literal
ls_literal_rows w r h = record {
  numbered = omega arith;
  fits = (small_at (31 to 30) w, (flag_small (field w 26 1 == 1), (small_at (23 to 5) w, (small_at (4 to 0) w, tt))));
  met = ap (ls_literal_holds_for (field w 30 2)) (flag_back (field w 26 1) (one_bit w 26)) ∙ (answer_of ls_literal w r h).held;
}

-- ---- instructions

some_line : (l m : Line A64Form) → Some l ≡ Some m → l ≡ m
some_line l m h = cc

at_line : (k : ℕ) (l : Line A64Form) (w : ℕ) (f : A64Form) → IsFound a64_table w f → line_number f ≡ k → line_at a64_table k ≡ Some l → MakesRows l → IsRow (row_of f)
at_line k l w f d n e g =
    let p : d.place ≡ k = sym (number_found line_number a64_table w f d numbered) ∙ n in
    let s : d.line ≡ l = some_line d.line l (sym d.stands ∙ ap (line_at a64_table) p ∙ e) in
    let h : row_in l w ≡ Some d.row = ap (λ (x : Line A64Form). row_in x w) (sym s) ∙ d.holds in
    subst (λ (x : A64Form). IsRow (row_of x)) (sym (d.form ∙ ap (λ (x : Line A64Form). x.form d.row.number (values x.places w)) s)) (g w d.row h)

row_found : (w : ℕ) (f : A64Form) → IsFound a64_table w f → has_targets (line_number f) ≡ true → IsRow (row_of f)
unfolding a64_table
row_found w (Adr op immlo immhi rd) d h = at_line line.ADR adr w (Adr op immlo immhi rd) d refl refl adr_rows
row_found w (Branch op imm26) d h = at_line line.BRANCH branch w (Branch op imm26) d refl refl branch_rows
row_found w (BranchCond imm19 cond') d h = at_line line.BRANCH_COND branch_cond w (BranchCond imm19 cond') d refl refl branch_cond_rows
row_found w (Compare op sf imm19 rt) d h = at_line line.COMPARE compare w (Compare op sf imm19 rt) d refl refl compare_rows
row_found w (Test op b5 b40 imm14 rt) d h = at_line line.TEST test_branch w (Test op b5 b40 imm14 rt) d refl refl test_rows
row_found w (LsLiteral opc v imm19 rt) d h = at_line line.LS_LITERAL ls_literal w (LsLiteral opc v imm19 rt) d refl refl ls_literal_rows
row_found w f d h = absurd (false≢true h)

pub targeted : (w : ℕ) (f : A64Form) → instruction a64_table w ≡ Some f → has_targets (line_number f) ≡ true → is_some (reach f) ≡ true
targeted w f i h =
    let t = has_text f (row_found w f (found a64_table w f i) h) in
    let c = chosen_is (texts_of f) (word_of f) t.0 t.1 in
    ap (λ (o : Option Pattern). is_some (reach_by o)) t.1 ∙ every_at has_reach (texts_of f) c.place t.0 (reaching f h) c.stands
