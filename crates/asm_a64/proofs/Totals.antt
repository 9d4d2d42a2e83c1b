-- Each instruction has a text: computed over the table's lines.
use Rattle.std.proofs.Common.{◌≡◌, ℕ, zero, suc, ◌<◌, ◌==◌, ◌&&◌, if◌then◌else◌, Bool, true, false, not, Some, List, [], ◌∷◌, length, get_or, subst, refl, sym, ap, ◌∙◌, arith}
use Rattle.std.proofs.lemmas.Bool.{and_parts, and_from, false≢true}
use Rattle.emu_bits.specs.Fields.{field}
use Rattle.emu_bits.specs.Rows.{Place, ◌to◌, values, value_at, always, Line, row_in, is_among}
use Rattle.emu_bits.specs.RowLaws.{line_at, IsRow}
use Rattle.emu_bits.proofs.Computed.{is_sound, are_sound}
use Rattle.emu_bits.proofs.Encoding.{answer_of, row_of_encoded}
use Rattle.text_model.specs.Reading.{Pattern}
use Rattle.text_model.specs.Text.{chosen}
use Rattle.text_model.proofs.Tests.{is_total}
use Rattle.text_model.proofs.Totals.{total}
use Rattle.a64_insn.specs.declared.form.A64Form.{A64Form}
use Rattle.a64_insn.specs.declared.form.A64Form.TheVariants.{Adr, Bitfield, Extract, LsUnsigned, LsUnscaled, LsPost, LsPre, LsReg, LsLiteral, Pair, MoveImm}
use Rattle.a64_insn.specs.Table.{a64_table}
use Rattle.a64_insn.specs.Opened.{lines_open}
use Rattle.a64_insn.specs.Rows.{row_of, line_number}
use Rattle.a64_insn.specs.Data.{bitfield_holds_for, extract_holds_for}
use Rattle.a64_insn.specs.Memory.{is_access, is_prefetch, is_offset_extension, ls_reg_holds_for, ls_literal_holds_for, is_pair, keeps_base, writeback_holds_for, pair_holds_for}
use Rattle.a64_insn.specs.BitMoves.{move_imm_holds_for}
use Rattle.a64_insn.specs.declared.lines.TheConstants as line
use Rattle.a64_rows.proofs.Laws.{sound, is_listed}
use Rattle.asm_a64.specs.Law.{texts_of, word_of}
use Rattle.asm_a64.specs.Data.{data_lines}
use Rattle.asm_a64.specs.Flow.{flow_lines}
use Rattle.asm_a64.specs.Table.{line_texts}
use Rattle.asm_a64.specs.Opened.{texts_open}

-- ---- a form's line

pub listed : (f : A64Form) → line_at a64_table (line_number f) ≡ Some (row_of f).line
unfolding a64_table
listed (Adr op immlo immhi rd) = refl
listed _ = refl

some_line : {F : Type 0} (l m : Line F) → Some l ≡ Some m → l ≡ m
some_line l m h = cc

sound_at : {F : Type 0} (ls : List (Line F)) (k : ℕ) (l : Line F) → are_sound ls ≡ true → line_at ls k ≡ Some l → is_sound l ≡ true
sound_at [] k l s e = absurd (cc)
sound_at (m ∷ ms) zero l s e = ap is_sound (sym (some_line m l e)) ∙ (and_parts (is_sound m) (are_sound ms) s).0
sound_at (m ∷ ms) (suc k) l s e = sound_at ms k l (and_parts (is_sound m) (are_sound ms) s).1 e

pub in_row : (f : A64Form) → IsRow (row_of f) → row_in (row_of f).line (word_of f) ≡ Some (row_of f)
in_row f v = row_of_encoded (row_of f) (sound_at a64_table (line_number f) (row_of f).line sound (listed f)) v

-- ---- what chooses among a line's patterns

-- places of a word, and what the line's condition asks of their values
record Choice : Type 0 where
  pub places : List Place
  pub asks : ℕ → List ℕ → Bool

abbrev by : List Place → Choice
by ps = record { places = ps; asks = always }

abbrev asking : List Place → (List ℕ → Bool) → Choice
asking ps q = record { places = ps; asks = λ k vs. q vs }

abbrev kinds_of_access : List Place
kinds_of_access = (31 to 30) ∷ (26 to 26) ∷ (23 to 22) ∷ []

abbrev accessed : List ℕ → Bool
accessed vs = is_access (value_at vs 0) (value_at vs 1) (value_at vs 2)

abbrev written_back : List ℕ → Bool
written_back vs = accessed vs && not (is_prefetch (value_at vs 0) (value_at vs 1) (value_at vs 2))

abbrev width_and_n : Choice
width_and_n = asking ((31 to 31) ∷ (22 to 22) ∷ []) (λ vs. value_at vs 1 == value_at vs 0)

abbrev choice_at : ℕ → Choice
choice_at k =
    if k == line.LOGIC_IMM then by ((31 to 31) ∷ [])
    else (if is_among k (line.BITFIELD ∷ line.EXTRACT ∷ []) then width_and_n
    else (if k == line.ADD_EXT then by ((31 to 31) ∷ (14 to 13) ∷ [])
    else (if k == line.BRANCH_COND then by ((3 to 0) ∷ [])
    else (if is_among k (line.LS_UNSIGNED ∷ line.LS_UNSCALED ∷ []) then asking kinds_of_access accessed
    else (if is_among k (line.LS_POST ∷ line.LS_PRE ∷ []) then asking kinds_of_access written_back
    else (if k == line.LS_REG then asking ((31 to 30) ∷ (26 to 26) ∷ (23 to 22) ∷ (15 to 13) ∷ (12 to 12) ∷ []) (λ vs. ls_reg_holds_for (value_at vs 0) (value_at vs 1) (value_at vs 2) (value_at vs 3))
    else (if k == line.LS_LITERAL then asking ((31 to 30) ∷ (26 to 26) ∷ []) (λ vs. ls_literal_holds_for (value_at vs 0) (value_at vs 1))
    else (if k == line.PAIR then asking ((31 to 30) ∷ (26 to 26) ∷ (24 to 23) ∷ (22 to 22) ∷ []) (λ vs. is_pair (value_at vs 0) (value_at vs 1) (value_at vs 2) (value_at vs 3))
    else (if is_among k (line.STORE_EX ∷ line.LOAD_EX ∷ line.ORDERED ∷ []) then by ((31 to 30) ∷ [])
    else (if k == line.ATOMIC then by ((31 to 30) ∷ (23 to 23) ∷ (22 to 22) ∷ [])
    else (if k == line.COMPARE_SWAP then by ((31 to 30) ∷ (22 to 22) ∷ (15 to 15) ∷ [])
    else (if k == line.MOVE_IMM then asking ((30 to 30) ∷ (29 to 29) ∷ (15 to 12) ∷ []) (λ vs. move_imm_holds_for (value_at vs 2))
    else by []))))))))))))

abbrev choices_from : ℕ → ℕ → List Choice
choices_from k zero = []
choices_from k (suc n) = choice_at k ∷ choices_from (suc k) n

abbrev choices : List Choice
choices = choices_from 0 line.LINES

abbrev are_total : List (List Pattern) → List (Line A64Form) → List Choice → Bool
are_total [] ls cs = true
are_total (qs ∷ qss) [] cs = false
are_total (qs ∷ qss) (l ∷ ls) [] = false
are_total (qs ∷ qss) (l ∷ ls) (c ∷ cs) = is_total qs l c.places c.asks && are_total qss ls cs

totals : are_total line_texts a64_table choices ≡ true
unfolding texts_open a64_table line_texts is_access is_prefetch is_offset_extension ls_reg_holds_for ls_literal_holds_for is_pair move_imm_holds_for
totals = refl

total_at : (qss : List (List Pattern)) (ls : List (Line A64Form)) (cs : List Choice) (k : ℕ) (l : Line A64Form) → are_total qss ls cs ≡ true → k < length qss → line_at ls k ≡ Some l
    → is_total (get_or qss k []) l (get_or cs k (by [])).places (get_or cs k (by [])).asks ≡ true
total_at [] ls cs k l h m e = absurd (omega arith)
total_at (qs ∷ qss) [] cs k l h m e = absurd (cc)
total_at (qs ∷ qss) (n ∷ ns) [] k l h m e = absurd (false≢true h)
total_at (qs ∷ qss) (n ∷ ns) (c ∷ cs) zero l h m e = ap (λ (x : Line A64Form). is_total qs x c.places c.asks) (sym (some_line n l e)) ∙ (and_parts (is_total qs n c.places c.asks) (are_total qss ns cs) h).0
total_at (qs ∷ qss) (n ∷ ns) (c ∷ cs) (suc k) l h m e = total_at qss ns cs k l (and_parts (is_total qs n c.places c.asks) (are_total qss ns cs) h).1 (omega arith) e

abbrev choice : A64Form → Choice
choice f = get_or choices (line_number f) (by [])

lines_long : length line_texts ≡ line.LINES
unfolding line_texts data_lines flow_lines
lines_long = refl

pub held : (f : A64Form) → IsRow (row_of f) → (row_of f).line.holds (row_of f).number (values (row_of f).line.places (word_of f)) ≡ true
held f v = (answer_of (row_of f).line (word_of f) (row_of f) (in_row f v)).held

not_prefetched : (w : ℕ) → writeback_holds_for (field w 30 2) (field w 26 1) (field w 22 2) (field w 5 5) (field w 0 5) ≡ true
    → (is_access (field w 30 2) (field w 26 1) (field w 22 2) && not (is_prefetch (field w 30 2) (field w 26 1) (field w 22 2))) ≡ true
unfolding writeback_holds_for
not_prefetched w h =
    let a : Bool = is_access (field w 30 2) (field w 26 1) (field w 22 2) in
    let b : Bool = not (is_prefetch (field w 30 2) (field w 26 1) (field w 22 2)) in
    let c : Bool = keeps_base (field w 26 1) (field w 5 5) (field w 0 5) in
    let h1 = and_parts a (b && c) h in
    and_from a b h1.0 (and_parts b c h1.1).0

-- what the condition asks of the choosing values holds of each row's word
asked : (f : A64Form) → IsRow (row_of f) → (choice f).asks (row_of f).number (values (choice f).places (word_of f)) ≡ true
unfolding lines_open bitfield_holds_for extract_holds_for writeback_holds_for pair_holds_for
asked (Bitfield op sf n r s rn rd) v = (and_parts _ _ (held (Bitfield op sf n r s rn rd) v)).0
asked (Extract sf n rm s rn rd) v = (and_parts _ _ (held (Extract sf n rm s rn rd) v)).0
asked (LsUnsigned size v' opc imm12 rn rt) v = held (LsUnsigned size v' opc imm12 rn rt) v
asked (LsUnscaled size v' opc imm9 rn rt) v = held (LsUnscaled size v' opc imm9 rn rt) v
asked (LsPost size v' opc imm9 rn rt) v = not_prefetched (word_of (LsPost size v' opc imm9 rn rt)) (held (LsPost size v' opc imm9 rn rt) v)
asked (LsPre size v' opc imm9 rn rt) v = not_prefetched (word_of (LsPre size v' opc imm9 rn rt)) (held (LsPre size v' opc imm9 rn rt) v)
asked (LsReg size v' opc rm ext s rn rt) v = held (LsReg size v' opc rm ext s rn rt) v
asked (LsLiteral opc v' imm19 rt) v = held (LsLiteral opc v' imm19 rt) v
asked (Pair opc v' mode l imm7 rt2 rn rt) v = (and_parts _ _ (held (Pair opc v' mode l imm7 rt2 rn rt) v)).0
asked (MoveImm q op abc cmode defgh rd) v = held (MoveImm q op abc cmode defgh rd) v
asked f v = refl

-- Each instruction has a text.
pub has_text : (f : A64Form) → IsRow (row_of f) → (p : Pattern) × (chosen (texts_of f) (word_of f) ≡ Some p)
has_text f v =
    let l : line_number f < length line_texts = subst (λ (n : ℕ). line_number f < n) (sym lines_long) (is_listed f) in
    total (texts_of f) (row_of f).line (choice f).places (choice f).asks (word_of f) (row_of f)
    (total_at line_texts a64_table choices (line_number f) (row_of f).line totals l (listed f)) (in_row f v) (asked f v)
