-- What reading the text of an instruction gives: computed over the table, and by the law of a table.
use Rattle.asm_sve.specs.Table.{memory_texts, data_texts, move_texts, sve_lines, sve_patterns}
use Rattle.asm_sve.specs.KindsOpened.{memory_texts_open, data_texts_open, move_texts_open}
use Rattle.asm_sve.specs.Opened.{texts_open}
use Rattle.sve_insn.specs.Table.{sve_table}
use Rattle.sve_insn.specs.Opened.{lines_open}
use Rattle.sve_insn.specs.Rows.{row_of, line_number}
use Rattle.std.proofs.Common.{◌≡◌, ℕ, zero, suc, ◌-◌, ◌*◌, ◌/◌, ◌%◌, ◌^◌, ◌<◌, ◌≤◌, ◌&&◌, Bool, true, false, Option, Some, None, Ok, List, [], ◌∷◌, get_or, bit_and, bit_or, nat_lt, nat_le, refl, sym, ap, ap₂, ◌∙◌, subst, arith, inl, inr, append-nil}
use Rattle.std.proofs.lemmas.Bool.{cases_Bool, and_parts, and_from, false≢true, true≢false, leb-true, ltb-true}
use Rattle.std.proofs.lemmas.Nat.{and_mask, or_lt}
use Rattle.std.proofs.Math.Nat.{mod-eq_of_lt}
use Rattle.std.specs.Prelude.{is_some, unwrap_or}
use Rattle.std.specs.Option.{option_map_or}
use Rattle.emu_bits.specs.Bitmask.{bitmask_of, element_log}
use Rattle.emu_bits.specs.Fields.{field, bit}
use Rattle.emu_bits.specs.Rows.{Place, ◌to◌, width, values, fill, Line, Row, row_in}
use Rattle.emu_bits.specs.RowLaws.{Fit, line_at, IsRow}
use Rattle.emu_bits.proofs.Encoding.{answer_of, row_of_encoded}
use Rattle.emu_bits.proofs.Computed.{is_sound, are_sound}
use Rattle.emu_bits.proofs.Places.{put_fits}
use Rattle.text_model.specs.declared.slots.Kind.TheVariants.{Bitmask}
use Rattle.text_model.specs.Slots.{joined}
use Rattle.text_model.specs.Reading.{Pattern, is_canonical, all_canonical}
use Rattle.text_model.specs.ReadBack.{reads_text, destination_of, reached, unaimed}
use Rattle.text_model.specs.Text.{chosen, text}
use Rattle.text_model.specs.Aim.{Reach, reach_of, reach_bits}
use Rattle.text_model.specs.Writing.{flat}
use Rattle.text_model.proofs.Again.{pattern_at}
use Rattle.text_model.proofs.Tables.{chosen_is, in_table_of, all_plain, plain_at, plain_canonical, IsLegible, table_law}
use Rattle.sve_insn.specs.declared.form.SveForm.{SveForm}
use Rattle.sve_insn.specs.declared.form.SveForm.TheVariants.{BitmaskZ}
use Rattle.sve_insn.specs.Conditions.{has_bitmask}
use Rattle.sve_insn.specs.Lanes.{bitmask_z}
use Rattle.sve_rows.proofs.Alone.{sound}
use Rattle.sve_rows.proofs.Laws.{one_row}
use Rattle.sve_rows.proofs.Listed.{listed}
use Rattle.asm_sve.specs.Lanes.{bitmask_z_texts}
use Rattle.asm_sve.specs.Law.{in_table, word_of, texts_of}
use Rattle.asm_sve.specs.LawOfTexts.{is_canonical_form, IsReadBack}
use Rattle.asm_sve.proofs.Checked.{readable, written, aimed_well, apart, reach_well}
use Rattle.asm_sve.proofs.Untargeted.{sve_reach}
use Rattle.asm_sve.proofs.Shown.{IsShown, AreShown}
use Rattle.asm_sve.proofs.Total.{all_shown}

-- ---- words of 32 bits

abbrev are_in_word : List Place → Bool
are_in_word [] = true
are_in_word (p ∷ ps) = (nat_le p.low p.high && nat_lt p.high 32) && are_in_word ps

abbrev are_words : List ℕ → Bool
are_words [] = true
are_words (x ∷ xs) = nat_lt x (2 ^ 32) && are_words xs

abbrev lines_in_word : List (Line SveForm) → Bool
lines_in_word [] = true
lines_in_word (l ∷ ls) = (are_in_word l.places && are_words l.words) && lines_in_word ls

table_in_word : lines_in_word sve_table ≡ true
unfolding lines_open
table_in_word = refl

some_line : (l m : Line SveForm) → Some l ≡ Some m → l ≡ m
some_line l m h = cc

line_in_word : (ls : List (Line SveForm)) (k : ℕ) (l : Line SveForm) → lines_in_word ls ≡ true → line_at ls k ≡ Some l → (are_in_word l.places && are_words l.words) ≡ true
line_in_word [] k l h e = absurd (cc)
line_in_word (m ∷ ms) zero l h e = ap (λ (x : Line SveForm). are_in_word x.places && are_words x.words) (sym (some_line m l e)) ∙ (and_parts (are_in_word m.places && are_words m.words) (lines_in_word ms) h).0
line_in_word (m ∷ ms) (suc k) l h e = line_in_word ms k l (and_parts (are_in_word m.places && are_words m.words) (lines_in_word ms) h).1 e

fill_small : (ps : List Place) (vs : List ℕ) (x : ℕ) → are_in_word ps ≡ true → Fit ps vs → x < 2 ^ 32 → fill ps vs x < 2 ^ 32
fill_small [] vs x h f l = l
fill_small (p ∷ ps) [] x h f l = absurd f
fill_small (p ∷ ps) (v ∷ vs) x h f l =
    let h2 = and_parts (nat_le p.low p.high && nat_lt p.high 32) (are_in_word ps) h in
    let h3 = and_parts (nat_le p.low p.high) (nat_lt p.high 32) h2.0 in
    let a : p.low ≤ p.high = leb-true _ _ h3.0 in
    let b : p.high < 32 = ltb-true _ _ h3.1 in
    fill_small ps vs (bit_or x (v * 2 ^ p.low)) h2.1 f.1 (or_lt 32 x (v * 2 ^ p.low) l (put_fits v (width p) p.low f.0 (omega (arith, a, b))))

word_at : (xs : List ℕ) (k : ℕ) → are_words xs ≡ true → get_or xs k 0 < 2 ^ 32
word_at [] k h = omega arith
word_at (x ∷ xs) zero h = ltb-true _ _ (and_parts (nat_lt x (2 ^ 32)) (are_words xs) h).0
word_at (x ∷ xs) (suc k) h = word_at xs k (and_parts (nat_lt x (2 ^ 32)) (are_words xs) h).1

word_small : (f : SveForm) → IsRow (row_of f) → word_of f < 2 ^ 32
word_small f v =
    let h = and_parts (are_in_word (row_of f).line.places) (are_words (row_of f).line.words) (line_in_word sve_table (line_number f) (row_of f).line table_in_word (listed f)) in
    fill_small (row_of f).line.places (row_of f).values (get_or (row_of f).line.words (row_of f).number 0) h.0 v.fits (word_at (row_of f).line.words (row_of f).number h.1)

-- ---- the row and the pattern of an instruction

sound_at : (ls : List (Line SveForm)) (k : ℕ) (l : Line SveForm) → are_sound ls ≡ true → line_at ls k ≡ Some l → is_sound l ≡ true
sound_at [] k l s e = absurd (cc)
sound_at (m ∷ ms) zero l s e = ap is_sound (sym (some_line m l e)) ∙ (and_parts (is_sound m) (are_sound ms) s).0
sound_at (m ∷ ms) (suc k) l s e = sound_at ms k l (and_parts (is_sound m) (are_sound ms) s).1 e

in_row : (f : SveForm) → IsRow (row_of f) → row_in (row_of f).line (word_of f) ≡ Some (row_of f)
in_row f v = row_of_encoded (row_of f) (sound_at sve_table (line_number f) (row_of f).line sound (listed f)) v

shown_at : (qss : List (List Pattern)) (ls : List (Line SveForm)) (k : ℕ) (l : Line SveForm) → AreShown qss ls → line_at ls k ≡ Some l → IsShown (get_or qss k []) l
shown_at [] [] k l h e = absurd (cc)
shown_at [] (m ∷ ms) k l h e = absurd h
shown_at (qs ∷ qss) [] k l h e = absurd h
shown_at (qs ∷ qss) (m ∷ ms) zero l h e = subst (IsShown qs) (some_line m l e) h.0
shown_at (qs ∷ qss) (m ∷ ms) (suc k) l h e = shown_at qss ms k l h.1 e

has_text : (f : SveForm) → IsRow (row_of f) → (p : Pattern) × (chosen (texts_of f) (word_of f) ≡ Some p)
has_text f v = (shown_at sve_lines sve_table (line_number f) (row_of f).line all_shown (listed f)).at (word_of f) (row_of f) (in_row f v)

in_table_itself : (f : SveForm) → IsRow (row_of f) → in_table (word_of f) ≡ true
in_table_itself f v = ap is_some (one_row.at (line_number f) (row_of f).line (word_of f) (row_of f) (listed f) (in_row f v))

-- ---- canonical instructions

abbrev is_bitmask : SveForm → Bool
is_bitmask (BitmaskZ op n immr imms zdn) = true
is_bitmask f = false

plain_line : (f : SveForm) → is_bitmask f ≡ false → all_plain (texts_of f) ≡ true
unfolding texts_open
plain_line (BitmaskZ op n immr imms zdn) h = absurd (true≢false h)
plain_line f h = refl

n_of : (w : ℕ) → joined ((17 to 5) ∷ []) w / 4096 ≡ field w 17 1
n_of w = omega arith

r_of : (w : ℕ) → joined ((17 to 5) ∷ []) w / 64 % 64 ≡ field w 11 6
r_of w = omega arith

s_of : (w : ℕ) → joined ((17 to 5) ∷ []) w % 64 ≡ field w 5 6
s_of w = omega arith

canonical_word : (w : ℕ) → is_some (bitmask_of 64 (field w 17 1) (field w 11 6) (field w 5 6)) ≡ true → nat_lt (field w 11 6) (2 ^ unwrap_or (element_log (field w 17 1) (field w 5 6)) 0) ≡ true
    → is_canonical (Bitmask 64) (joined ((17 to 5) ∷ []) w) ≡ true
canonical_word w h k =
    let g = λ (a b c : ℕ). is_some (bitmask_of 64 a b c) && nat_lt b (2 ^ unwrap_or (element_log a c) 0) in
    let v : ℕ = joined ((17 to 5) ∷ []) w in
    ap (λ (a : ℕ). g a (v / 64 % 64) (v % 64)) (n_of w) ∙ ap (λ (b : ℕ). g (field w 17 1) b (v % 64)) (r_of w) ∙ ap (λ (c : ℕ). g (field w 17 1) (field w 11 6) c) (s_of w)
    ∙ and_from _ _ h k

some_is : (p q : Pattern) → Some p ≡ Some q → p ≡ q
some_is p q h = cc

mask_pattern : (w n : ℕ) (p : Pattern) → is_canonical (Bitmask 64) (joined ((17 to 5) ∷ []) w) ≡ true → pattern_at bitmask_z_texts n ≡ Some p → all_canonical p.slots w ≡ true
unfolding bitmask_z_texts bitmask_z
mask_pattern w zero p c e = ap (λ (x : Pattern). all_canonical x.slots w) (sym (some_is _ p e)) ∙ and_from _ true c refl
mask_pattern w (suc zero) p c e = ap (λ (x : Pattern). all_canonical x.slots w) (sym (some_is _ p e)) ∙ and_from _ true c refl
mask_pattern w (suc (suc zero)) p c e = ap (λ (x : Pattern). all_canonical x.slots w) (sym (some_is _ p e)) ∙ and_from _ true c refl
mask_pattern w (suc (suc (suc zero))) p c e = ap (λ (x : Pattern). all_canonical x.slots w) (sym (some_is _ p e)) ∙ and_from _ true c refl
mask_pattern w (suc (suc (suc (suc n)))) p c e = absurd (cc)

bitmask_canonical : (f : SveForm) (p : Pattern) → IsRow (row_of f) → is_bitmask f ≡ true → is_canonical_form f ≡ true → chosen (texts_of f) (word_of f) ≡ Some p → all_canonical p.slots (word_of f) ≡ true
unfolding sve_lines memory_texts data_texts move_texts memory_texts_open data_texts_open move_texts_open bitmask_z has_bitmask
bitmask_canonical (BitmaskZ op n immr imms zdn) p v i c e =
    let f : SveForm = BitmaskZ op n immr imms zdn in
    let w : ℕ = word_of f in
    let a = answer_of bitmask_z w (row_of f) (in_row f v) in
    let fields : (row_of f).values ≡ values bitmask_z.places w = ap (λ (r : Row SveForm). r.values) a.is in
    let at = λ (k : ℕ). ap (λ (vs : List ℕ). get_or vs k 0) fields in
    let n' : bit n ≡ field w 17 1 = at 0 in
    let r' : immr ≡ field w 11 6 = at 1 in
    let s' : imms ≡ field w 5 6 = at 2 in
    let k : nat_lt (field w 11 6) (2 ^ unwrap_or (element_log (field w 17 1) (field w 5 6)) 0) ≡ true =
    ap (λ (x : ℕ). nat_lt x (2 ^ unwrap_or (element_log (field w 17 1) (field w 5 6)) 0)) (sym r')
    ∙ ap₂ (λ (x y : ℕ). nat_lt immr (2 ^ unwrap_or (element_log x y) 0)) (sym n') (sym s') ∙ c in
    let h = chosen_is bitmask_z_texts w p e in
    mask_pattern w h.place p (canonical_word w a.held k) h.stands
bitmask_canonical f p v i c e = absurd (false≢true i)

canonical : (f : SveForm) (p : Pattern) → IsRow (row_of f) → is_canonical_form f ≡ true → chosen (texts_of f) (word_of f) ≡ Some p → all_canonical p.slots (word_of f) ≡ true
canonical f p v c e = elim (cases_Bool (is_bitmask f)) [
  | inl i ↦ bitmask_canonical f p v i c e
  | inr i ↦ (let h = chosen_is (texts_of f) (word_of f) p e in
      plain_canonical p.slots (word_of f) (plain_at (texts_of f) h.place p (plain_line f i) h.stands))
]

-- ---- the law

legible : IsLegible sve_lines
unfolding sve_patterns
legible = record { legible = record { readable = readable; apart = apart; written = written; aimed = aimed_well }; reach = reach_well }

whole_word : (w : ℕ) → w < 2 ^ 32 → bit_and w (2 ^ 32 - 1 - 0) ≡ w
whole_word w h = and_mask w 32 ∙ mod-eq_of_lt h

no_reach : (f : SveForm) (p : Pattern) → chosen (texts_of f) (word_of f) ≡ Some p → reach_of p.slots ≡ None
unfolding sve_patterns
no_reach f p e =
    let i = chosen_is (texts_of f) (word_of f) p e in
    let m = in_table_of sve_lines (line_number f) i.place p i.stands in
    sve_reach m.0 p m.1

-- The text of an instruction is read as the instruction.
pub read_back : (f : SveForm) → IsRow (row_of f) → is_canonical_form f ≡ true → IsReadBack f
unfolding sve_patterns
read_back f v c =
    let w : ℕ = word_of f in
    let t = has_text f v in
    let p : Pattern = t.0 in
    let small : w < 2 ^ 32 = word_small f v in
    let n : reach_of p.slots ≡ None = no_reach f p t.1 in
    let whole : unaimed p.slots w ≡ w = ap (λ (o : Option Reach). bit_and w (2 ^ 32 - 1 - reach_bits o)) n ∙ whole_word w small in
    let there : in_table (unaimed p.slots w) ≡ true = ap in_table whole ∙ in_table_itself f v in
    let r = table_law in_table sve_lines [] (line_number f) p w 0 legible t.1 small (omega arith) (canonical f p v c t.1) there in
    ap (λ (o : Option Pattern). reads_text in_table (flat sve_lines) (option_map_or (λ p. text p w 0) o [])) t.1
    ∙ ap (λ (ps : List Pattern). reads_text in_table ps (text p w 0)) (sym (append-nil (flat sve_lines)))
    ∙ r.read
    ∙ ap₂ (λ (x : ℕ) (o : Option Reach). Ok (record { word = x; target = destination_of (reached o w 0) })) whole n
