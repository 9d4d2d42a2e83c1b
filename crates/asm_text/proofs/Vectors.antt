-- What is read as an SVE instruction is canonical.
use Rattle.std.proofs.Common.{◌≡◌, ℕ, ◌/◌, ◌%◌, ◌^◌, ◌<◌, ◌==◌, Bool, true, false, Some, Ok, List, [], ◌∷◌, nat_lt, refl, sym, ap, ◌∙◌, arith, inl, inr}
use Rattle.std.specs.Prelude.{unwrap_or}
use Rattle.std.proofs.lemmas.Bool.{cases_Bool, eqb-true, true≢false}
use Rattle.emu_bits.specs.Bitmask.{element_log}
use Rattle.emu_bits.specs.Fields.{field}
use Rattle.emu_bits.specs.Rows.{values, Line, row_in, instruction}
use Rattle.emu_bits.specs.RowLaws.{line_at}
use Rattle.text_model.specs.Slots.{joined}
use Rattle.text_model.specs.Statement.{Statement, reads_tokens}
use Rattle.sve_insn.specs.declared.form.SveForm.{SveForm}
use Rattle.sve_insn.specs.declared.form.SveForm.TheVariants.{BitmaskZ}
use Rattle.sve_insn.specs.Table.{memory_lines, data_lines, move_lines, predicate_lines, sve_table}
use Rattle.sve_insn.specs.Rows.{line_number}
use Rattle.sve_insn.specs.Lanes.{bitmask_z}
use Rattle.sve_insn.specs.declared.lines.TheConstants.{BITMASK_Z}
use Rattle.asm_sve.specs.Law.{in_table}
use Rattle.asm_sve.specs.LawOfTexts.{is_canonical_form}
use Rattle.asm_sve.specs.Table.{sve_patterns}
use Rattle.asm_text.proofs.ReadBy.{IsReadBy, read_by}
use Rattle.asm_text.proofs.Found.{IsFound, found, number_found}
use Rattle.asm_text.proofs.Settled.{has_least, masks_well, least_read}
use Rattle.asm_text.proofs.VectorTests.{numbered, mask, masks}
use Rattle.asm_text.proofs.Base.{flag_back}

n_of : (w : ℕ) → joined (mask ∷ []) w / 4096 ≡ field w 17 1
n_of w = omega arith

r_of : (w : ℕ) → joined (mask ∷ []) w / 64 % 64 ≡ field w 11 6
r_of w = omega arith

s_of : (w : ℕ) → joined (mask ∷ []) w % 64 ≡ field w 5 6
s_of w = omega arith

abbrev is_least : ℕ → ℕ → ℕ → Bool
is_least n r s = nat_lt r (2 ^ unwrap_or (element_log n s) 0)

least_fields : (w : ℕ) → has_least mask w ≡ true → is_least (field w 17 1) (field w 11 6) (field w 5 6) ≡ true
least_fields w h =
    let v : ℕ = joined (mask ∷ []) w in
    ap (λ (n : ℕ). is_least n (field w 11 6) (field w 5 6)) (sym (n_of w))
    ∙ ap (λ (r : ℕ). is_least (v / 4096) r (field w 5 6)) (sym (r_of w))
    ∙ ap (λ (s : ℕ). is_least (v / 4096) (v / 64 % 64) s) (sym (s_of w)) ∙ h

one_bit : (w k : ℕ) → field w k 1 < 2
one_bit w k = omega arith

mask_form : (w n : ℕ) → has_least mask w ≡ true → is_canonical_form (bitmask_z.form n (values bitmask_z.places w)) ≡ true
unfolding bitmask_z
mask_form w n h = ap (λ (x : ℕ). is_least x (field w 11 6) (field w 5 6)) (flag_back (field w 17 1) (one_bit w 17)) ∙ least_fields w h

mask_line : (l : Line SveForm) → line_at sve_table BITMASK_Z ≡ Some l → l ≡ bitmask_z
unfolding sve_table memory_lines data_lines move_lines predicate_lines
mask_line l h = cc

-- forms of other lines have no bitmask
no_mask : (f : SveForm) → (line_number f == BITMASK_Z) ≡ false → is_canonical_form f ≡ true
no_mask (BitmaskZ op n immr imms zdn) h = absurd (true≢false h)
no_mask f h = refl

found_canonical : (s : Statement) (f : SveForm) → IsReadBy (masks_well mask bitmask_z) s → IsFound sve_table s.word f → is_canonical_form f ≡ true
found_canonical s f d i = elim (cases_Bool (line_number f == BITMASK_Z)) [
  | inl e ↦ (let p : i.place ≡ BITMASK_Z = sym (number_found line_number sve_table s.word f i numbered) ∙ eqb-true _ _ e in
      let l : i.line ≡ bitmask_z = mask_line i.line (ap (line_at sve_table) (sym p) ∙ i.stands) in
      let h : row_in bitmask_z s.word ≡ Some i.row = ap (λ (x : Line SveForm). row_in x s.word) (sym l) ∙ i.holds in
      ap is_canonical_form (i.form ∙ ap (λ (x : Line SveForm). x.form i.row.number (values x.places s.word)) l)
      ∙ mask_form s.word i.row.number (least_read mask bitmask_z s i.row d h))
  | inr e ↦ no_mask f e
]

-- An SVE instruction that is read is canonical.
pub canonical_read : (name : List ℕ) (ts : List (List ℕ)) (s : Statement) (f : SveForm) → reads_tokens in_table sve_patterns name ts ≡ Ok s → instruction sve_table s.word ≡ Some f
    → is_canonical_form f ≡ true
canonical_read name ts s f h i = found_canonical s f (read_by in_table (masks_well mask bitmask_z) sve_patterns name ts s masks h) (found sve_table s.word f i)
