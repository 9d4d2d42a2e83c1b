-- An instruction whose target's bits are 0, aimed at its target, is the instruction.
use Rattle.std.proofs.Common.{◌≡◌, ℕ, ◌-◌, ◌/◌, ◌%◌, ◌^◌, ◌<◌, ◌≤◌, ◌==◌, cond, Bool, true, false, Option, Some, None, List, [], ◌∷◌, bit_and, refl, sym, ap, ap₂, ◌∙◌, subst, arith, inl, inr}
use Rattle.std.proofs.lemmas.Bool.{cases_Bool, eqb-true, eq-eqb, false≢true, true≢false}
use Rattle.std.proofs.lemmas.Nat.{and_assoc, and_le_r}
use Rattle.std.specs.Prelude.{option_map, option_and_then}
use lib.Bits.{and_self}
use Rattle.emu_bits.specs.Fields.{field, bit}
use Rattle.emu_bits.specs.Rows.{◌to◌, outside, values, Line, Row, number_of, where_it_holds, row_in, decode, instruction}
use Rattle.emu_bits.specs.RowLaws.{line_at, IsRow}
use Rattle.emu_bits.proofs.Encoding.{answer_of, fixed_field}
use Rattle.text_model.specs.Reading.{Pattern}
use Rattle.text_model.specs.Text.{chosen}
use Rattle.text_model.specs.Aim.{Reach, reach_of, reach_bits, aimed}
use Rattle.text_model.specs.ReadBack.{reached}
use Rattle.a64_insn.specs.declared.form.A64Form.{A64Form}
use Rattle.a64_insn.specs.declared.form.A64Form.TheVariants.{Adr, Branch, BranchCond, Compare, Test, LsLiteral}
use Rattle.a64_insn.specs.Table.{a64_table}
use Rattle.a64_insn.specs.Rows.{row_of, line_number}
use Rattle.a64_insn.specs.Data.{adr}
use Rattle.a64_insn.specs.Flow.{branch, branch_cond, compare, test_branch}
use Rattle.a64_insn.specs.Memory.{ls_literal}
use Rattle.a64_insn.specs.Memory.{ls_literal_holds_for}
use Rattle.a64_insn.specs.declared.lines.TheConstants as line
use Rattle.a64_rows.proofs.Laws.{one_row, form_back, word_again}
use Rattle.asm_a64.specs.Table.{line_texts}
use Rattle.asm_a64.specs.Opened.{texts_open}
use Rattle.asm_a64.specs.Law.{word_of, texts_of, reach, unaimed_word}
use Rattle.asm_a64.specs.LawOfTexts.{reach_by, target_at}
use Rattle.asm_a64.proofs.Totals.{listed, in_row, held}
use Rattle.emu_run.specs.declared.insn.Insn.TheVariants.{A64}
use Rattle.asm_text.specs.Statements.{aimed_at}
use Rattle.text_print.proofs.Chosen.{all_pass, chosen_passes}
use Rattle.dis_text.proofs.Unaimed.{all_kept, same_chosen}

-- ---- the instruction that a word with the bits of its target 0 is

cut_row : (l : Line A64Form) (k w m : ℕ) (r : Row A64Form) → line_at a64_table k ≡ Some l → row_in l w ≡ Some r → bit_and m (outside l.places) ≡ outside l.places
    → l.holds r.number (values l.places (bit_and w m)) ≡ true
    → decode a64_table (bit_and w m) ≡ Some (record { line = l; number = r.number; values = values l.places (bit_and w m) })
cut_row l k w m r e h o t =
    let a = answer_of l w r h in
    let x : ℕ = bit_and w m in
    let s : Row A64Form = record { line = l; number = r.number; values = values l.places x } in
    let n : bit_and x (outside l.places) ≡ bit_and w (outside l.places) = and_assoc (outside l.places) w m ∙ ap (bit_and w) o in
    let f : row_in l x ≡ Some s =
    ap (λ (y : ℕ). where_it_holds l x (number_of y l.words)) n ∙ ap (where_it_holds l x) a.found ∙ ap (λ (b : Bool). cond b (Some s) None) t in
    one_row.at k l x s e f

flag_back : (v : ℕ) → v < 2 → bit (v == 1) ≡ v
flag_back v h = elim (cases_Bool (v == 1)) [
  | inl e ↦ ap bit e ∙ sym (eqb-true _ _ e)
  | inr e ↦ (let n : (v ≡ 1 → ⊥) = λ (q : v ≡ 1). true≢false (sym (eq-eqb v 1 q) ∙ e) in
      let z : 0 ≡ v = omega (arith, h, n) in
      ap bit e ∙ z)
]

below_two : (a : ℕ) → a % 2 ^ 1 < 2
below_two a = omega arith

one_bit : (x k : ℕ) → bit (field x k 1 == 1) ≡ field x k 1
one_bit x k = flag_back (field x k 1) (below_two (x / 2 ^ k))

abbrev some_row : Line A64Form → ℕ → List ℕ → Option (Row A64Form)
some_row l k vs = Some (record { line = l; number = k; values = vs })

-- An instruction's word with the bits of its target 0 is an instruction's of the same line, which the same pattern shows.
record IsUnaimed (f : A64Form) (x : ℕ) : Type 0 where
  pub form : A64Form
  pub found : instruction a64_table x ≡ Some form
  pub word : word_of form ≡ x
  pub texts : texts_of form ≡ texts_of f
  pub shown : chosen (texts_of f) (word_of f) ≡ chosen (texts_of f) x

some_unaimed : (f g : A64Form) (m : ℕ) → m < 2 ^ 32 → decode a64_table (bit_and (word_of f) m) ≡ Some (row_of g) → texts_of g ≡ texts_of f
    → all_kept (word_of f) m (texts_of f) ≡ true → IsUnaimed f (bit_and (word_of f) m)
some_unaimed f g m l d t k =
    let w : ℕ = word_of f in
    let b : bit_and w m ≤ m = and_le_r w m in
    record {
      form = g;
      found = form_back g (bit_and w m) d;
      word = word_again (bit_and w m) (Some g) (omega (arith, l, b)) (sym d);
      texts = t;
      shown = same_chosen w m (texts_of f) k;
    }

abbrev may_be_aimed : A64Form → Bool
may_be_aimed (Adr op immlo immhi rd) = true
may_be_aimed (Branch op imm26) = true
may_be_aimed (BranchCond imm19 cond') = true
may_be_aimed (Compare op sf imm19 rt) = true
may_be_aimed (Test op b5 b40 imm14 rt) = true
may_be_aimed (LsLiteral opc v imm19 rt) = true
may_be_aimed f = false

-- the word with ones outside of the target's bits
abbrev outside_target : A64Form → ℕ
outside_target (Adr op immlo immhi rd) = 2 ^ 32 - 1 - 0x60FFFFE0
outside_target (Branch op imm26) = 2 ^ 32 - 1 - 0x03FFFFFF
outside_target (Test op b5 b40 imm14 rt) = 2 ^ 32 - 1 - 0x0007FFE0
outside_target f = 2 ^ 32 - 1 - 0x00FFFFE0

unaimed_at : (f : A64Form) → IsRow (row_of f) → may_be_aimed f ≡ true → IsUnaimed f (bit_and (word_of f) (outside_target f))
unfolding texts_open line_texts
unaimed_at (Adr op immlo immhi rd) v h =
    let f : A64Form = Adr op immlo immhi rd in
    let m : ℕ = outside_target f in
    let x : ℕ = bit_and (word_of f) m in
    some_unaimed f (Adr op (field x 29 2) (field x 5 19) (field x 0 5)) m (omega arith) (cut_row adr line.ADR (word_of f) m (row_of f) (listed f) (in_row f v) refl refl) refl refl
unaimed_at (Branch op imm26) v h =
    let f : A64Form = Branch op imm26 in
    let m : ℕ = outside_target f in
    let x : ℕ = bit_and (word_of f) m in
    some_unaimed f (Branch op (field x 0 26)) m (omega arith) (cut_row branch line.BRANCH (word_of f) m (row_of f) (listed f) (in_row f v) refl refl) refl refl
unaimed_at (BranchCond imm19 cond') v h =
    let f : A64Form = BranchCond imm19 cond' in
    let m : ℕ = outside_target f in
    let x : ℕ = bit_and (word_of f) m in
    some_unaimed f (BranchCond (field x 5 19) (field x 0 4)) m (omega arith) (cut_row branch_cond line.BRANCH_COND (word_of f) m (row_of f) (listed f) (in_row f v) refl refl) refl refl
unaimed_at (Compare op sf imm19 rt) v h =
    let f : A64Form = Compare op sf imm19 rt in
    let m : ℕ = outside_target f in
    let x : ℕ = bit_and (word_of f) m in
    let g : A64Form = Compare op (field x 31 1 == 1) (field x 5 19) (field x 0 5) in
    some_unaimed f g m (omega arith)
    (cut_row compare line.COMPARE (word_of f) m (row_of f) (listed f) (in_row f v) refl refl
    ∙ ap (λ (y : ℕ). some_row compare (row_of f).number (y ∷ field x 5 19 ∷ field x 0 5 ∷ [])) (sym (one_bit x 31))) refl refl
unaimed_at (Test op b5 b40 imm14 rt) v h =
    let f : A64Form = Test op b5 b40 imm14 rt in
    let m : ℕ = outside_target f in
    let x : ℕ = bit_and (word_of f) m in
    let g : A64Form = Test op (field x 31 1 == 1) (field x 19 5) (field x 5 14) (field x 0 5) in
    some_unaimed f g m (omega arith)
    (cut_row test_branch line.TEST (word_of f) m (row_of f) (listed f) (in_row f v) refl refl
    ∙ ap (λ (y : ℕ). some_row test_branch (row_of f).number (y ∷ field x 19 5 ∷ field x 5 14 ∷ field x 0 5 ∷ [])) (sym (one_bit x 31))) refl refl
unaimed_at (LsLiteral opc v' imm19 rt) v h =
    let f : A64Form = LsLiteral opc v' imm19 rt in
    let w : ℕ = word_of f in
    let m : ℕ = outside_target f in
    let x : ℕ = bit_and w m in
    let g : A64Form = LsLiteral (field x 30 2) (field x 26 1 == 1) (field x 5 19) (field x 0 5) in
    some_unaimed f g m (omega arith)
    (cut_row ls_literal line.LS_LITERAL w m (row_of f) (listed f) (in_row f v) refl
    (ap₂ ls_literal_holds_for (sym (fixed_field w m x (31 to 30) refl refl refl)) (sym (fixed_field w m x (26 to 26) refl refl refl)) ∙ held f v)
    ∙ ap (λ (y : ℕ). some_row ls_literal (row_of f).number (field x 30 2 ∷ y ∷ field x 5 19 ∷ field x 0 5 ∷ [])) (sym (one_bit x 26))) refl refl
unaimed_at f v h = absurd (false≢true h)

-- ---- the bits of targets

abbrev has_bits : ℕ → Pattern → Bool
has_bits c p = reach_bits (reach_of p.slots) == c

bits_of_target : (f : A64Form) → may_be_aimed f ≡ true → all_pass (has_bits (2 ^ 32 - 1 - outside_target f)) (texts_of f) ≡ true
unfolding texts_open line_texts
bits_of_target (Adr op immlo immhi rd) h = refl
bits_of_target (Branch op imm26) h = refl
bits_of_target (BranchCond imm19 cond') h = refl
bits_of_target (Compare op sf imm19 rt) h = refl
bits_of_target (Test op b5 b40 imm14 rt) h = refl
bits_of_target (LsLiteral opc v imm19 rt) h = refl
bits_of_target f h = absurd (false≢true h)

twice_outside : (f : A64Form) → may_be_aimed f ≡ true → 2 ^ 32 - 1 - (2 ^ 32 - 1 - outside_target f) ≡ outside_target f
twice_outside (Adr op immlo immhi rd) h = refl
twice_outside f h = refl

abbrev is_nowhere : Option Reach → Bool
is_nowhere None = true
is_nowhere (Some r) = false

abbrev reaches_nowhere : Pattern → Bool
reaches_nowhere p = is_nowhere (reach_of p.slots)

no_target : (f : A64Form) → may_be_aimed f ≡ false → all_pass reaches_nowhere (texts_of f) ≡ true
unfolding texts_open line_texts
no_target (Adr op immlo immhi rd) h = absurd (true≢false h)
no_target (Branch op imm26) h = absurd (true≢false h)
no_target (BranchCond imm19 cond') h = absurd (true≢false h)
no_target (Compare op sf imm19 rt) h = absurd (true≢false h)
no_target (Test op b5 b40 imm14 rt) h = absurd (true≢false h)
no_target (LsLiteral opc v imm19 rt) h = absurd (true≢false h)
no_target f h = refl

none_reached : (a : ℕ) → None ≡ Some a → ⊥
none_reached a q = cc

nowhere : (o : Option Reach) → is_nowhere o ≡ true → o ≡ None
nowhere None h = refl
nowhere (Some r) h = absurd (false≢true h)

module _ (f : A64Form) (p : Pattern) (c : chosen (texts_of f) (word_of f) ≡ Some p) where
  reach_is : reach f ≡ reach_of p.slots
  reach_is = ap reach_by c

  no_reach : may_be_aimed f ≡ false → reach f ≡ None
  no_reach h = reach_is ∙ nowhere _ (chosen_passes reaches_nowhere (texts_of f) (word_of f) p (no_target f h) c)

  no_address : (pc a : ℕ) → may_be_aimed f ≡ false → target_at f pc ≡ Some a → ⊥
  no_address pc a h e = none_reached a (sym (ap (λ (o : Option Reach). reached o (word_of f) pc) (no_reach h)) ∙ e)

  unaimed_is : may_be_aimed f ≡ true → unaimed_word f ≡ bit_and (word_of f) (outside_target f)
  unaimed_is h =
      let b : reach_bits (reach_of p.slots) ≡ 2 ^ 32 - 1 - outside_target f =
      eqb-true _ _ (chosen_passes (has_bits (2 ^ 32 - 1 - outside_target f)) (texts_of f) (word_of f) p (bits_of_target f h) c) in
      ap (λ (n : ℕ). bit_and (word_of f) (2 ^ 32 - 1 - n)) (ap reach_bits reach_is ∙ b) ∙ ap (bit_and (word_of f)) (twice_outside f h)

  unaimed_form : may_be_aimed f ≡ true → IsRow (row_of f) → IsUnaimed f (unaimed_word f)
  unaimed_form h v = subst (IsUnaimed f) (sym (unaimed_is h)) (unaimed_at f v h)

-- ---- aimed again

same_reach : (f : A64Form) (u : IsUnaimed f (unaimed_word f)) → reach u.form ≡ reach f
same_reach f u =
    ap reach_by (ap₂ chosen u.texts u.word ∙ sym u.shown)

same_unaimed : (f : A64Form) (u : IsUnaimed f (unaimed_word f)) → unaimed_word u.form ≡ unaimed_word f
same_unaimed f u =
    let m : ℕ = 2 ^ 32 - 1 - reach_bits (reach f) in
    ap₂ (λ (x : ℕ) (o : Option Reach). bit_and x (2 ^ 32 - 1 - reach_bits o)) u.word (same_reach f u) ∙ and_assoc m (word_of f) m ∙ ap (bit_and (word_of f)) (and_self m)

pub own_instruction : (f : A64Form) → IsRow (row_of f) → instruction a64_table (word_of f) ≡ Some f
own_instruction f v = form_back f (word_of f) (one_row.at (line_number f) (row_of f).line (word_of f) (row_of f) (listed f) (in_row f v))

-- What the word of an instruction with an address, the bits of its target 0, is read as: an instruction that aimed at the address is that one.
pub record IsAimedBack (f : A64Form) (pc a : ℕ) : Type 0 where
  pub form : A64Form
  pub found : instruction a64_table (unaimed_word f) ≡ Some form
  pub back : aimed_at (A64 form) pc a ≡ Some (A64 f)

pub aimed_back : (f : A64Form) (p : Pattern) (pc a : ℕ) → IsRow (row_of f) → chosen (texts_of f) (word_of f) ≡ Some p → target_at f pc ≡ Some a
    → aimed (reach f) (unaimed_word f) pc a ≡ Some (word_of f) → IsAimedBack f pc a
aimed_back f p pc a v c t e = elim (cases_Bool (may_be_aimed f)) [
  | inl h ↦ (let u = unaimed_form f p c h v in
      record {
        form = u.form;
        found = u.found;
        back = ap (λ (o : Option ℕ). option_map A64 (option_and_then (instruction a64_table) o))
            (ap₂ (λ (o : Option Reach) (x : ℕ). aimed o x pc a) (same_reach f u) (same_unaimed f u) ∙ e)
            ∙ ap (λ (o : Option A64Form). option_map A64 o) (own_instruction f v);
      })
  | inr h ↦ absurd (no_address f p c pc a h t)
]
