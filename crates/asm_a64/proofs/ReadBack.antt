-- What reading the text of an instruction gives: computed over the table, and by the law of a table.
use Rattle.std.proofs.Common.{◌≡◌, ℕ, zero, suc, ◌-◌, ◌*◌, ◌/◌, ◌%◌, ◌^◌, ◌<◌, ◌≤◌, ◌==◌, ◌&&◌, if◌then◌else◌, cond, Bool, true, false, Option, Some, None, Ok, List, [], ◌∷◌, ◌++◌, get_or, bit_and, bit_or, nat_lt, nat_le, refl, sym, ap, ap₂, ◌∙◌, arith, inl, inr}
use Rattle.std.proofs.lemmas.Bool.{cases_Bool, and_parts, and_from, eqb-true, false≢true, true≢false, leb-true, ltb-true}
use Rattle.std.proofs.lemmas.Nat.{and_mask, and_assoc, or_lt}
use Rattle.std.proofs.Math.Nat.{mod-eq_of_lt}
use Rattle.std.specs.Prelude.{is_some, unwrap_or}
use Rattle.std.specs.Option.{option_map_or}
use Rattle.emu_bits.specs.Bitmask.{bitmask_of, element_log}
use Rattle.emu_bits.specs.Fields.{field, bit}
use Rattle.emu_bits.specs.Rows.{Place, ◌to◌, width, ones_at, outside, values, fill, Line, Row, number_of, where_it_holds, row_in, is_among}
use Rattle.emu_bits.specs.RowLaws.{Fit, line_at, IsRow}
use Rattle.emu_bits.proofs.Encoding.{answer_of, fixed_field}
use Rattle.emu_bits.proofs.Places.{put_fits}
use Rattle.text_model.specs.declared.slots.Kind.TheVariants.{Bitmask}
use Rattle.text_model.specs.Slots.{joined}
use Rattle.text_model.specs.Reading.{Pattern, is_canonical, all_canonical}
use Rattle.text_model.specs.ReadBack.{reads_text, destination_of, reached, unaimed}
use Rattle.text_model.specs.Text.{chosen, text, shows, told_bits}
use Rattle.text_model.specs.Aim.{Reach, reach_of, reach_bits, aimed}
use Rattle.text_model.specs.Writing.{flat}
use Rattle.text_model.proofs.Again.{pattern_at}
use Rattle.text_model.proofs.Tables.{chosen_is, all_plain, plain_at, plain_canonical, IsLegible, table_law}
use Rattle.a64_insn.specs.declared.form.A64Form.{A64Form}
use Rattle.a64_insn.specs.declared.form.A64Form.TheVariants.{Adr, LogicImm, Branch, BranchCond, Compare, Test, LsLiteral}
use Rattle.a64_insn.specs.Table.{a64_table}
use Rattle.a64_insn.specs.Opened.{lines_open}
use Rattle.a64_insn.specs.Rows.{row_of, line_number}
use Rattle.a64_insn.specs.Data.{adr, logic_imm}
use Rattle.a64_insn.specs.Flow.{branch, branch_cond, compare, test_branch}
use Rattle.a64_insn.specs.Memory.{ls_literal}
use Rattle.asm_a64.specs.Data.{data_lines, logic_imm_texts}
use Rattle.asm_a64.specs.Flow.{flow_lines}
use Rattle.asm_a64.specs.Memory.{memory_lines}
use Rattle.asm_a64.specs.BitMoves.{last_lines}
use Rattle.a64_insn.specs.Memory.{ls_literal_holds_for}
use Rattle.a64_insn.specs.Data.{has_bitmask}
use Rattle.a64_insn.specs.declared.lines.TheConstants as line
use Rattle.a64_rows.proofs.Laws.{one_row}
use Rattle.asm_a64.specs.Aliases.{aliases}
use Rattle.asm_a64.specs.Table.{line_texts, a64_lines, a64_patterns}
use Rattle.asm_a64.specs.Opened.{printed_patterns, texts_open}
use Rattle.asm_a64.specs.Law.{in_table, word_of, texts_of, reach}
use Rattle.asm_a64.specs.LawOfTexts.{reach_by, target_at, is_canonical_form, IsReadBack}
use Rattle.asm_a64.proofs.Legible.{readable, written, aimed_well, apart, reach_well}
use Rattle.asm_a64.proofs.Totals.{listed, in_row, held, has_text}

-- ---- words of 32 bits

abbrev are_in_word : List Place → Bool
are_in_word [] = true
are_in_word (p ∷ ps) = (nat_le p.low p.high && nat_lt p.high 32) && are_in_word ps

abbrev are_words : List ℕ → Bool
are_words [] = true
are_words (x ∷ xs) = nat_lt x (2 ^ 32) && are_words xs

abbrev lines_in_word : List (Line A64Form) → Bool
lines_in_word [] = true
lines_in_word (l ∷ ls) = (are_in_word l.places && are_words l.words) && lines_in_word ls

table_in_word : lines_in_word a64_table ≡ true
unfolding lines_open a64_table
table_in_word = refl

some_line : (l m : Line A64Form) → Some l ≡ Some m → l ≡ m
some_line l m h = cc

line_in_word : (ls : List (Line A64Form)) (k : ℕ) (l : Line A64Form) → lines_in_word ls ≡ true → line_at ls k ≡ Some l → (are_in_word l.places && are_words l.words) ≡ true
line_in_word [] k l h e = absurd (cc)
line_in_word (m ∷ ms) zero l h e = ap (λ (x : Line A64Form). are_in_word x.places && are_words x.words) (sym (some_line m l e)) ∙ (and_parts (are_in_word m.places && are_words m.words) (lines_in_word ms) h).0
line_in_word (m ∷ ms) (suc k) l h e = line_in_word ms k l (and_parts (are_in_word m.places && are_words m.words) (lines_in_word ms) h).1 e

fill_small : (ps : List Place) (vs : List ℕ) (x : ℕ) → are_in_word ps ≡ true → Fit ps vs → x < 2 ^ 32 → fill ps vs x < 2 ^ 32
fill_small [] vs x h f l = l
fill_small (p ∷ ps) [] x h f l = absurd f
fill_small (p ∷ ps) (v ∷ vs) x h f l =
    let h2 = and_parts (nat_le p.low p.high && nat_lt p.high 32) (are_in_word ps) h in
    let h3 = and_parts (nat_le p.low p.high) (nat_lt p.high 32) h2.0 in
    let a : p.low ≤ p.high = leb-true _ _ h3.0 in
    let b : p.high < 32 = ltb-true _ _ h3.1 in
    fill_small ps vs (bit_or x (v * 2 ^ p.low)) h2.1 f.1 (or_lt 32 x (v * 2 ^ p.low) l (put_fits v (width p) p.low f.0 (omega (arith, a, b))))

word_at : (xs : List ℕ) (k : ℕ) → are_words xs ≡ true → get_or xs k 0 < 2 ^ 32
word_at [] k h = omega arith
word_at (x ∷ xs) zero h = ltb-true _ _ (and_parts (nat_lt x (2 ^ 32)) (are_words xs) h).0
word_at (x ∷ xs) (suc k) h = word_at xs k (and_parts (nat_lt x (2 ^ 32)) (are_words xs) h).1

word_small : (f : A64Form) → IsRow (row_of f) → word_of f < 2 ^ 32
word_small f v =
    let h = and_parts (are_in_word (row_of f).line.places) (are_words (row_of f).line.words) (line_in_word a64_table (line_number f) (row_of f).line table_in_word (listed f)) in
    fill_small (row_of f).line.places (row_of f).values (get_or (row_of f).line.words (row_of f).number 0) h.0 v.fits (word_at (row_of f).line.words (row_of f).number h.1)

-- ---- the bits of targets, line by line

abbrev bits_of_target : ℕ → ℕ
bits_of_target k =
    if k == line.ADR then 0x60FFFFE0
    else (if k == line.BRANCH then 0x03FFFFFF
    else (if k == line.TEST then 0x0007FFE0
    else (if is_among k (line.BRANCH_COND ∷ line.COMPARE ∷ line.LS_LITERAL ∷ []) then 0x00FFFFE0
    else 0)))

abbrev bits_from : ℕ → ℕ → List ℕ
bits_from k zero = []
bits_from k (suc n) = bits_of_target k ∷ bits_from (suc k) n

abbrev target_bits : List ℕ
target_bits = bits_from 0 line.LINES

abbrev reach_by_bits : ℕ → List Pattern → Bool
reach_by_bits c [] = true
reach_by_bits c (p ∷ ps) = (reach_bits (reach_of p.slots) == c) && reach_by_bits c ps

abbrev all_reach_by : List (List Pattern) → List ℕ → Bool
all_reach_by [] cs = true
all_reach_by (ps ∷ pss) [] = false
all_reach_by (ps ∷ pss) (c ∷ cs) = reach_by_bits c ps && all_reach_by pss cs

targets : all_reach_by line_texts target_bits ≡ true
unfolding texts_open line_texts
targets = refl

some_is : (p q : Pattern) → Some p ≡ Some q → p ≡ q
some_is p q h = cc

bits_at : (ps : List Pattern) (c n : ℕ) (p : Pattern) → reach_by_bits c ps ≡ true → pattern_at ps n ≡ Some p → reach_bits (reach_of p.slots) ≡ c
bits_at [] c n p h e = absurd (cc)
bits_at (q ∷ qs) c zero p h e = ap (λ (x : Pattern). reach_bits (reach_of x.slots)) (sym (some_is q p e)) ∙ eqb-true _ _ (and_parts (reach_bits (reach_of q.slots) == c) (reach_by_bits c qs) h).0
bits_at (q ∷ qs) c (suc n) p h e = bits_at qs c n p (and_parts (reach_bits (reach_of q.slots) == c) (reach_by_bits c qs) h).1 e

bits_in_line : (pss : List (List Pattern)) (cs : List ℕ) (j n : ℕ) (p : Pattern) → all_reach_by pss cs ≡ true → pattern_at (get_or pss j []) n ≡ Some p → reach_bits (reach_of p.slots) ≡ get_or cs j 0
bits_in_line [] cs j n p h e = absurd (cc)
bits_in_line (ps ∷ pss) [] j n p h e = absurd (false≢true h)
bits_in_line (ps ∷ pss) (c ∷ cs) zero n p h e = bits_at ps c n p (and_parts (reach_by_bits c ps) (all_reach_by pss cs) h).0 e
bits_in_line (ps ∷ pss) (c ∷ cs) (suc j) n p h e = bits_in_line pss cs j n p (and_parts (reach_by_bits c ps) (all_reach_by pss cs) h).1 e

-- ---- with the bits of its target 0 a word is in the table

cut_row : (l : Line A64Form) (k w m : ℕ) (r : Row A64Form) → line_at a64_table k ≡ Some l → row_in l w ≡ Some r → bit_and m (outside l.places) ≡ outside l.places
    → l.holds r.number (values l.places (bit_and w m)) ≡ true → in_table (bit_and w m) ≡ true
cut_row l k w m r e h o t =
    let a = answer_of l w r h in
    let x : ℕ = bit_and w m in
    let s : Row A64Form = record { line = l; number = r.number; values = values l.places x } in
    let n : bit_and x (outside l.places) ≡ bit_and w (outside l.places) = and_assoc (outside l.places) w m ∙ ap (bit_and w) o in
    let f : row_in l x ≡ Some s =
    ap (λ (y : ℕ). where_it_holds l x (number_of y l.words)) n ∙ ap (where_it_holds l x) a.found ∙ ap (λ (b : Bool). cond b (Some s) None) t in
    ap is_some (one_row.at k l x s e f)

uncut : (w : ℕ) → w < 2 ^ 32 → bit_and w (2 ^ 32 - 1 - 0) ≡ w
uncut w h = and_mask w 32 ∙ mod-eq_of_lt h

in_table_itself : (f : A64Form) → IsRow (row_of f) → in_table (word_of f) ≡ true
in_table_itself f v = ap is_some (one_row.at (line_number f) (row_of f).line (word_of f) (row_of f) (listed f) (in_row f v))

abbrev cut : A64Form → ℕ
cut f = bit_and (word_of f) (2 ^ 32 - 1 - get_or target_bits (line_number f) 0)

cut_held : (f : A64Form) → IsRow (row_of f) → in_table (cut f) ≡ true
unfolding lines_open
cut_held (Adr op immlo immhi rd) v = cut_row adr line.ADR _ _ (row_of (Adr op immlo immhi rd)) (listed (Adr op immlo immhi rd)) (in_row (Adr op immlo immhi rd) v) refl refl
cut_held (Branch op imm26) v = cut_row branch line.BRANCH _ _ (row_of (Branch op imm26)) (listed (Branch op imm26)) (in_row (Branch op imm26) v) refl refl
cut_held (BranchCond imm19 cond') v = cut_row branch_cond line.BRANCH_COND _ _ (row_of (BranchCond imm19 cond')) (listed (BranchCond imm19 cond')) (in_row (BranchCond imm19 cond') v) refl refl
cut_held (Compare op sf imm19 rt) v = cut_row compare line.COMPARE _ _ (row_of (Compare op sf imm19 rt)) (listed (Compare op sf imm19 rt)) (in_row (Compare op sf imm19 rt) v) refl refl
cut_held (Test op b5 b40 imm14 rt) v = cut_row test_branch line.TEST _ _ (row_of (Test op b5 b40 imm14 rt)) (listed (Test op b5 b40 imm14 rt)) (in_row (Test op b5 b40 imm14 rt) v) refl refl
cut_held (LsLiteral opc v' imm19 rt) v =
    let f : A64Form = LsLiteral opc v' imm19 rt in
    let w : ℕ = word_of f in
    let m : ℕ = 2 ^ 32 - 1 - 0x00FFFFE0 in
    cut_row ls_literal line.LS_LITERAL w m (row_of f) (listed f) (in_row f v) refl
    (ap₂ ls_literal_holds_for (sym (fixed_field w m (bit_and w m) (31 to 30) refl refl refl)) (sym (fixed_field w m (bit_and w m) (26 to 26) refl refl refl)) ∙ held f v)
cut_held f v = ap in_table (uncut (word_of f) (word_small f v)) ∙ in_table_itself f v

-- ---- canonical instructions

abbrev is_logic_imm : A64Form → Bool
is_logic_imm (LogicImm op sf n immr imms rn rd) = true
is_logic_imm f = false

plain_texts : (f : A64Form) → is_logic_imm f ≡ false → all_plain (texts_of f) ≡ true
unfolding texts_open line_texts
plain_texts (LogicImm op sf n immr imms rn rd) h = absurd (true≢false h)
plain_texts f h = refl

n_of : (w : ℕ) → joined ((22 to 10) ∷ []) w / 4096 ≡ field w 22 1
n_of w = omega arith

r_of : (w : ℕ) → joined ((22 to 10) ∷ []) w / 64 % 64 ≡ field w 16 6
r_of w = omega arith

s_of : (w : ℕ) → joined ((22 to 10) ∷ []) w % 64 ≡ field w 10 6
s_of w = omega arith

canonical_word : (w n : ℕ) → is_some (bitmask_of n (field w 22 1) (field w 16 6) (field w 10 6)) ≡ true → nat_lt (field w 16 6) (2 ^ unwrap_or (element_log (field w 22 1) (field w 10 6)) 0) ≡ true
    → is_canonical (Bitmask n) (joined ((22 to 10) ∷ []) w) ≡ true
canonical_word w n h k =
    let g = λ (a b c : ℕ). is_some (bitmask_of n a b c) && nat_lt b (2 ^ unwrap_or (element_log a c) 0) in
    let v : ℕ = joined ((22 to 10) ∷ []) w in
    ap (λ (a : ℕ). g a (v / 64 % 64) (v % 64)) (n_of w) ∙ ap (λ (b : ℕ). g (field w 22 1) b (v % 64)) (r_of w) ∙ ap (λ (c : ℕ). g (field w 22 1) (field w 16 6) c) (s_of w)
    ∙ and_from _ _ h k

module _ (w : ℕ) (h : has_bitmask (field w 31 1) (field w 22 1) (field w 16 6) (field w 10 6) ≡ true)
    (k : nat_lt (field w 16 6) (2 ^ unwrap_or (element_log (field w 22 1) (field w 10 6)) 0) ≡ true) where
  canonical_at : (sf n : ℕ) → field w 31 1 ≡ sf → cond (sf == 1) 64 32 ≡ n → is_canonical (Bitmask n) (joined ((22 to 10) ∷ []) w) ≡ true
  unfolding has_bitmask
  canonical_at sf n e c =
      canonical_word w n (ap (λ (x : ℕ). is_some (bitmask_of x (field w 22 1) (field w 16 6) (field w 10 6))) (sym c ∙ ap (λ (x : ℕ). cond (x == 1) 64 32) (sym e)) ∙ h) k

  -- of a pattern whose name settles bit 31
  masked : (p : Pattern) (sf n : ℕ) → shows p w ≡ true → bit_and (2 ^ 32 - 1 - told_bits p.slots) (ones_at (31 to 31)) ≡ ones_at (31 to 31) → field p.base 31 1 ≡ sf → cond (sf == 1) 64 32 ≡ n
      → is_canonical (Bitmask n) (joined ((22 to 10) ∷ []) w) ≡ true
  masked p sf n s o b c =
      let s2 = and_parts (bit_and w (2 ^ 32 - 1 - told_bits p.slots) == p.base) _ s in
      canonical_at sf n (fixed_field w (2 ^ 32 - 1 - told_bits p.slots) p.base (31 to 31) refl (eqb-true _ _ s2.0) o ∙ b) c

  one_of : (q p : Pattern) (sf n : ℕ) → q ≡ p → shows p w ≡ true → bit_and (2 ^ 32 - 1 - told_bits q.slots) (ones_at (31 to 31)) ≡ ones_at (31 to 31) → field q.base 31 1 ≡ sf
      → cond (sf == 1) 64 32 ≡ n → (is_canonical (Bitmask n) (joined ((22 to 10) ∷ []) w) ≡ true → all_canonical q.slots w ≡ true) → all_canonical p.slots w ≡ true
  one_of q p sf n e s o b c t = ap (λ (x : Pattern). all_canonical x.slots w) (sym e) ∙ t (masked q sf n (ap (λ (x : Pattern). shows x w) e ∙ s) o b c)

  mask_pattern : (n : ℕ) (p : Pattern) → pattern_at logic_imm_texts n ≡ Some p → shows p w ≡ true → all_canonical p.slots w ≡ true
  unfolding logic_imm_texts logic_imm
  mask_pattern zero p e s = one_of _ p 0 32 (some_is _ p e) s refl refl refl (λ c. and_from _ true c refl)
  mask_pattern (suc zero) p e s = one_of _ p 0 32 (some_is _ p e) s refl refl refl (λ c. and_from _ true c refl)
  mask_pattern (suc (suc zero)) p e s = one_of _ p 0 32 (some_is _ p e) s refl refl refl (λ c. and_from _ true c refl)
  mask_pattern (suc (suc (suc zero))) p e s = one_of _ p 0 32 (some_is _ p e) s refl refl refl (λ c. and_from _ true c refl)
  mask_pattern (suc (suc (suc (suc zero)))) p e s = one_of _ p 1 64 (some_is _ p e) s refl refl refl (λ c. and_from _ true c refl)
  mask_pattern (suc (suc (suc (suc (suc zero))))) p e s = one_of _ p 1 64 (some_is _ p e) s refl refl refl (λ c. and_from _ true c refl)
  mask_pattern (suc (suc (suc (suc (suc (suc zero)))))) p e s = one_of _ p 1 64 (some_is _ p e) s refl refl refl (λ c. and_from _ true c refl)
  mask_pattern (suc (suc (suc (suc (suc (suc (suc zero))))))) p e s = one_of _ p 1 64 (some_is _ p e) s refl refl refl (λ c. and_from _ true c refl)
  mask_pattern (suc (suc (suc (suc (suc (suc (suc (suc n)))))))) p e s = absurd (cc)

logic_imm_canonical : (f : A64Form) (p : Pattern) → IsRow (row_of f) → is_logic_imm f ≡ true → is_canonical_form f ≡ true → chosen (texts_of f) (word_of f) ≡ Some p → all_canonical p.slots (word_of f) ≡ true
unfolding line_texts data_lines flow_lines logic_imm
logic_imm_canonical (LogicImm op sf n immr imms rn rd) p v i c e =
    let f : A64Form = LogicImm op sf n immr imms rn rd in
    let w : ℕ = word_of f in
    let a = answer_of logic_imm w (row_of f) (in_row f v) in
    let fields : (row_of f).values ≡ values logic_imm.places w = ap (λ (r : Row A64Form). r.values) a.is in
    let at = λ (k : ℕ). ap (λ (vs : List ℕ). get_or vs k 0) fields in
    let n' : bit n ≡ field w 22 1 = at 1 in
    let r' : immr ≡ field w 16 6 = at 2 in
    let s' : imms ≡ field w 10 6 = at 3 in
    let k : nat_lt (field w 16 6) (2 ^ unwrap_or (element_log (field w 22 1) (field w 10 6)) 0) ≡ true =
    ap (λ (x : ℕ). nat_lt x (2 ^ unwrap_or (element_log (field w 22 1) (field w 10 6)) 0)) (sym r')
    ∙ ap₂ (λ (x y : ℕ). nat_lt immr (2 ^ unwrap_or (element_log x y) 0)) (sym n') (sym s') ∙ c in
    let h = chosen_is logic_imm_texts w p e in
    mask_pattern w (held f v) k h.place p h.stands h.shows
logic_imm_canonical f p v i c e = absurd (false≢true i)

canonical : (f : A64Form) (p : Pattern) → IsRow (row_of f) → is_canonical_form f ≡ true → chosen (texts_of f) (word_of f) ≡ Some p → all_canonical p.slots (word_of f) ≡ true
canonical f p v c e = elim (cases_Bool (is_logic_imm f)) [
  | inl i ↦ logic_imm_canonical f p v i c e
  | inr i ↦ (let h = chosen_is (texts_of f) (word_of f) p e in
      plain_canonical p.slots (word_of f) (plain_at (texts_of f) h.place p (plain_texts f i) h.stands))
]

-- ---- the law

legible : IsLegible line_texts
unfolding printed_patterns
legible = record { legible = record { readable = readable; apart = apart; written = written; aimed = aimed_well }; reach = reach_well }

all_patterns : a64_patterns ≡ flat line_texts ++ aliases
unfolding texts_open a64_patterns a64_lines data_lines flow_lines memory_lines last_lines aliases line_texts
all_patterns = refl

no_bits : (w : ℕ) (o : Option Reach) (pc : ℕ) → w < 2 ^ 32 → reached o w pc ≡ None → bit_and w (2 ^ 32 - 1 - reach_bits o) ≡ w
no_bits w None pc h e = uncut w h
no_bits w (Some r) pc h e = absurd (cc)

-- The text of an instruction is read as the instruction.
pub read_back : (f : A64Form) (pc : ℕ) → IsRow (row_of f) → is_canonical_form f ≡ true → pc < 2 ^ 64 → IsReadBack f pc
read_back f pc v c h =
    let w : ℕ = word_of f in
    let t = has_text f v in
    let p : Pattern = t.0 in
    let i = chosen_is (texts_of f) w p t.1 in
    let small : w < 2 ^ 32 = word_small f v in
    let bits : reach_bits (reach_of p.slots) ≡ get_or target_bits (line_number f) 0 = bits_in_line line_texts target_bits (line_number f) i.place p targets i.stands in
    let there : in_table (unaimed p.slots w) ≡ true = ap (λ (b : ℕ). in_table (bit_and w (2 ^ 32 - 1 - b))) bits ∙ cut_held f v in
    let r = table_law in_table line_texts aliases (line_number f) p w pc legible t.1 small h (canonical f p v c t.1) there in
    let same : reach f ≡ reach_of p.slots = ap reach_by t.1 in
    record {
      read = ap (λ (o : Option Pattern). reads_text in_table a64_patterns (option_map_or (λ p. text p w pc) o [])) t.1
          ∙ ap (λ (ps : List Pattern). reads_text in_table ps (text p w pc)) all_patterns ∙ r.read
          ∙ ap (λ (o : Option Reach). Ok (record { word = bit_and w (2 ^ 32 - 1 - reach_bits o); target = destination_of (reached o w pc) })) (sym same);
      aimed = λ (a : ℕ) (e : target_at f pc ≡ Some a).
          ap (λ (o : Option Reach). aimed o (bit_and w (2 ^ 32 - 1 - reach_bits o)) pc a) same ∙ r.aimed a (ap (λ (o : Option Reach). reached o w pc) (sym same) ∙ e);
      plain = λ (e : target_at f pc ≡ None). no_bits w (reach f) pc small e;
    }
