-- What is read as an A64 instruction: it is canonical, and where it has a target its text has one.
use Rattle.std.proofs.Common.{◌≡◌, ℕ, zero, suc, ◌+◌, ◌/◌, ◌%◌, ◌^◌, ◌<◌, ◌==◌, ◌||◌, Bool, true, false, not, Some, Ok, List, [], ◌∷◌, nat_lt, refl, sym, ap, ◌∙◌, arith, inl, inr}
use Rattle.std.specs.Prelude.{IsSome, unwrap_or}
use Rattle.std.proofs.lemmas.Bool.{cases_Bool, and_parts, or_cases, not-true, eqb-true, true≢false}
use Rattle.emu_bits.specs.Bitmask.{element_log}
use Rattle.emu_bits.specs.Fields.{bit, field}
use Rattle.emu_bits.specs.Rows.{values, Line, row_in, instruction}
use Rattle.emu_bits.specs.RowLaws.{line_at}
use Rattle.text_model.specs.Slots.{joined}
use Rattle.text_model.specs.Reading.{Pattern, has_target}
use Rattle.text_model.specs.Statement.{Statement, reads_tokens}
use Rattle.text_model.proofs.Tests.{all_places}
use Rattle.a64_insn.specs.declared.form.A64Form.{A64Form}
use Rattle.a64_insn.specs.declared.form.A64Form.TheVariants.{LogicImm}
use Rattle.a64_insn.specs.Table.{a64_table}
use Rattle.a64_insn.specs.Rows.{line_number}
use Rattle.a64_insn.specs.Data.{logic_imm}
use Rattle.a64_insn.specs.declared.lines.TheConstants as line
use Rattle.asm_a64.specs.Law.{in_table}
use Rattle.asm_a64.specs.LawOfTexts.{is_canonical_form}
use Rattle.asm_a64.specs.Table.{a64_patterns}
use Rattle.asm_text.proofs.Kept.{are_clear}
use Rattle.asm_text.proofs.ReadBy.{IsReadBy, read_by}
use Rattle.asm_text.proofs.Found.{IsFound, found, number_found}
use Rattle.asm_text.proofs.Settled.{settled, misses_but, told_place, kept_by, has_least, masks_well, least_read}
use Rattle.asm_text.proofs.BaseTests.{numbered, mask, masks, has_targets, aims_well, aims}

-- ---- bitmasks

pub flag_back : (x : ℕ) → x < 2 → bit (x == 1) ≡ x
flag_back zero h = refl
flag_back (suc zero) h = refl
flag_back (suc (suc x)) h = absurd (omega arith)

n_of : (w : ℕ) → joined (mask ∷ []) w / 4096 ≡ field w 22 1
n_of w = omega arith

r_of : (w : ℕ) → joined (mask ∷ []) w / 64 % 64 ≡ field w 16 6
r_of w = omega arith

s_of : (w : ℕ) → joined (mask ∷ []) w % 64 ≡ field w 10 6
s_of w = omega arith

abbrev is_least : ℕ → ℕ → ℕ → Bool
is_least n r s = nat_lt r (2 ^ unwrap_or (element_log n s) 0)

least_fields : (w : ℕ) → has_least mask w ≡ true → is_least (field w 22 1) (field w 16 6) (field w 10 6) ≡ true
least_fields w h =
    let v : ℕ = joined (mask ∷ []) w in
    ap (λ (n : ℕ). is_least n (field w 16 6) (field w 10 6)) (sym (n_of w))
    ∙ ap (λ (r : ℕ). is_least (v / 4096) r (field w 10 6)) (sym (r_of w))
    ∙ ap (λ (s : ℕ). is_least (v / 4096) (v / 64 % 64) s) (sym (s_of w)) ∙ h

pub one_bit : (w k : ℕ) → field w k 1 < 2
one_bit w k = omega arith

mask_form : (w n : ℕ) → has_least mask w ≡ true → is_canonical_form (logic_imm.form n (values logic_imm.places w)) ≡ true
unfolding logic_imm
mask_form w n h = ap (λ (x : ℕ). is_least x (field w 16 6) (field w 10 6)) (flag_back (field w 22 1) (one_bit w 22)) ∙ least_fields w h

logic_imm_line : (l : Line A64Form) → line_at a64_table line.LOGIC_IMM ≡ Some l → l ≡ logic_imm
unfolding a64_table
logic_imm_line l h = cc

-- forms of other lines have no bitmask
pub no_mask : (f : A64Form) → (line_number f == line.LOGIC_IMM) ≡ false → is_canonical_form f ≡ true
no_mask (LogicImm op sf n immr imms rn rd) h = absurd (true≢false h)
no_mask f h = refl

found_canonical : (s : Statement) (f : A64Form) → IsReadBy (masks_well mask logic_imm) s → IsFound a64_table s.word f → is_canonical_form f ≡ true
found_canonical s f d i = elim (cases_Bool (line_number f == line.LOGIC_IMM)) [
  | inl e ↦ (let p : i.place ≡ line.LOGIC_IMM = sym (number_found line_number a64_table s.word f i numbered) ∙ eqb-true _ _ e in
      let l : i.line ≡ logic_imm = logic_imm_line i.line (ap (line_at a64_table) (sym p) ∙ i.stands) in
      let h : row_in logic_imm s.word ≡ Some i.row = ap (λ (x : Line A64Form). row_in x s.word) (sym l) ∙ i.holds in
      ap is_canonical_form (i.form ∙ ap (λ (x : Line A64Form). x.form i.row.number (values x.places s.word)) l)
      ∙ mask_form s.word i.row.number (least_read mask logic_imm s i.row d h))
  | inr e ↦ no_mask f e
]

-- An A64 instruction that is read is canonical.
pub canonical_read : (name : List ℕ) (ts : List (List ℕ)) (s : Statement) (f : A64Form) → reads_tokens in_table a64_patterns name ts ≡ Ok s → instruction a64_table s.word ≡ Some f
    → is_canonical_form f ≡ true
canonical_read name ts s f h i = found_canonical s f (read_by in_table (masks_well mask logic_imm) a64_patterns name ts s masks h) (found a64_table s.word f i)

-- ---- lines with targets

-- An instruction that is read with a target is of a line with targets.
pub line_read : (name : List ℕ) (ts : List (List ℕ)) (s : Statement) (f : A64Form) → reads_tokens in_table a64_patterns name ts ≡ Ok s → IsSome s.target
    → instruction a64_table s.word ≡ Some f → has_targets (line_number f) ≡ true
line_read name ts s f h t i =
    let d = read_by in_table aims_well a64_patterns name ts s aims h in
    let p : Pattern = d.pattern in
    let a = and_parts (are_clear (settled p) (all_places p.slots)) (not (has_target p.slots) || misses_but has_targets 0 a64_table p) d.passes in
    let k = found a64_table s.word f i in
    let z : 0 + k.place ≡ k.place = omega arith in
    elim (or_cases (not (has_target p.slots)) (misses_but has_targets 0 a64_table p) a.1) [
      | inl n ↦ absurd (true≢false (sym (d.target t) ∙ not-true _ n))
      | inr m ↦ ap has_targets (number_found line_number a64_table s.word f k numbered ∙ sym z)
          ∙ told_place has_targets 0 a64_table p k.place k.line s.word k.row m (kept_by aims_well s d a.0) k.stands k.holds
    ]
