-- A word aimed at another target is the word of a row.
use Rattle.std.proofs.Common.{◌≡◌, ℕ, zero, suc, ◌+◌, ◌-◌, ◌*◌, ◌/◌, ◌%◌, ◌^◌, ◌<◌, ◌==◌, ◌&&◌, if◌then◌else◌, cond, Bool, true, false, Option, Some, None, List, [], ◌∷◌, get_or, bit_and, bit_or, nat_le, refl, sym, ap, ap₂, ◌∙◌, subst, arith}
use Rattle.std.proofs.lemmas.Bool.{and_parts, eqb-true, false≢true}
use Rattle.std.proofs.lemmas.Nat.{and_comm, and_assoc, pow_pos}
use Rattle.std.specs.Prelude.{is_some}
use lib.Bits.{and_zero_r, or_zero_r, and_self}
use Rattle.emu_bits.specs.Fields.{field}
use Rattle.emu_bits.specs.Rows.{Place, ◌to◌, width, ones_at, outside, values, Line, Row, number_of, where_it_holds, row_in, is_among}
use Rattle.emu_bits.specs.RowLaws.{line_at, IsRow}
use Rattle.emu_bits.proofs.Encoding.{answer_of, fixed_field, and_over_or}
use Rattle.text_model.specs.Slots.{bits_in, joined, target_address}
use Rattle.text_model.specs.Told.{parted, Built, all_bound}
use Rattle.text_model.specs.Reading.{Pattern}
use Rattle.text_model.specs.Text.{ones_of}
use Rattle.text_model.specs.Aim.{Reach, reach_of, reach_bits, number_to, aimed}
use Rattle.text_model.proofs.Building.{are_places, parted_so, masked, with_bits, all_put, nothing}
use Rattle.text_model.proofs.Own.{parts_told}
use Rattle.text_model.proofs.Again.{pattern_at}
use Rattle.text_model.proofs.Tables.{chosen_is}
use Rattle.a64_insn.specs.declared.form.A64Form.{A64Form}
use Rattle.a64_insn.specs.declared.form.A64Form.TheVariants.{Adr, Branch, BranchCond, Compare, Test, LsLiteral}
use Rattle.a64_insn.specs.Table.{a64_table}
use Rattle.a64_insn.specs.Opened.{lines_open}
use Rattle.a64_insn.specs.Rows.{row_of, line_number}
use Rattle.a64_insn.specs.Data.{adr}
use Rattle.a64_insn.specs.Flow.{branch, branch_cond, compare, test_branch}
use Rattle.a64_insn.specs.Memory.{ls_literal}
use Rattle.a64_insn.specs.Memory.{ls_literal_holds_for}
use Rattle.a64_insn.specs.declared.lines.TheConstants as line
use Rattle.a64_rows.proofs.Laws.{one_row}
use Rattle.asm_a64.specs.Table.{line_texts}
use Rattle.asm_a64.specs.Opened.{texts_open}
use Rattle.asm_a64.specs.Law.{in_table, word_of, texts_of, reach, unaimed_word}
use Rattle.asm_a64.specs.LawOfTexts.{reach_by}
use Rattle.asm_a64.proofs.Totals.{listed, in_row, held, has_text}

-- ---- bits that stay

kept : (w u a b o : ℕ) → bit_and a o ≡ o → bit_and b o ≡ 0 → bit_and (bit_or (bit_and w a) (bit_and u b)) o ≡ bit_and w o
kept w u a b o h k =
    let x : ℕ = bit_and w a in
    let y : ℕ = bit_and u b in
    and_comm (bit_or x y) o ∙ and_over_or o x y
    ∙ ap₂ bit_or (and_comm o x ∙ and_assoc o w a ∙ ap (bit_and w) h) (and_comm o y ∙ and_assoc o u b ∙ ap (bit_and u) k ∙ and_zero_r u)
    ∙ or_zero_r (bit_and w o)

kept_field : (w x : ℕ) (p : Place) → nat_le p.low p.high ≡ true → bit_and x (ones_at p) ≡ bit_and w (ones_at p) → field x p.low (width p) ≡ field w p.low (width p)
kept_field w x p h e =
    fixed_field x (ones_at p) (bit_and w (ones_at p)) p h e (and_self (ones_at p)) ∙ sym (fixed_field w (ones_at p) (bit_and w (ones_at p)) p h refl (and_self (ones_at p)))

kept_row : (l : Line A64Form) (k w x : ℕ) (r : Row A64Form) → line_at a64_table k ≡ Some l → row_in l w ≡ Some r → bit_and x (outside l.places) ≡ bit_and w (outside l.places)
    → l.holds r.number (values l.places x) ≡ true → in_table x ≡ true
kept_row l k w x r e h n t =
    let a = answer_of l w r h in
    let s : Row A64Form = record { line = l; number = r.number; values = values l.places x } in
    let f : row_in l x ≡ Some s =
    ap (λ (y : ℕ). where_it_holds l x (number_of y l.words)) n ∙ ap (where_it_holds l x) a.found ∙ ap (λ (b : Bool). cond b (Some s) None) t in
    ap is_some (one_row.at k l x s e f)

-- ---- a word that is aimed

built_with : (w u : ℕ) (ps : List Place) → are_places ps ≡ true → (all_bound (record { mask = 0; word = w }) (parted ps (joined ps u))).word ≡ bit_or w (bit_and u (masked 0 ps))
built_with w u ps h =
    let start : record { mask = 0; word = w } ≡ with_bits w u 0 = ap (λ (x : ℕ). record { mask = 0; word = x }) (sym (nothing w u)) in
    ap (λ (x : Built). (all_bound x (parted ps (joined ps u))).word) start
    ∙ ap (λ (x : Built). x.word) (all_put w u 0 (parted ps (joined ps u)) (parted_so ps u h))
    ∙ ap (λ (qs : List Place). bit_or w (bit_and u (masked 0 qs))) (parts_told ps (joined ps u))

abbrev same_places : List Place → List Place → Bool
same_places [] [] = true
same_places [] (q ∷ qs) = false
same_places (p ∷ ps) [] = false
same_places (p ∷ ps) (q ∷ qs) = (p.high == q.high && p.low == q.low) && same_places ps qs

same : (ps qs : List Place) → same_places ps qs ≡ true → ps ≡ qs
same [] [] h = refl
same [] (q ∷ qs) h = absurd (false≢true h)
same (p ∷ ps) [] h = absurd (false≢true h)
same (p ∷ ps) (q ∷ qs) h =
    let h2 = and_parts (p.high == q.high && p.low == q.low) (same_places ps qs) h in
    let h3 = and_parts (p.high == q.high) (p.low == q.low) h2.0 in
    ap₂ (λ (x : Place) (xs : List Place). x ∷ xs) (ap₂ (λ (a b : ℕ). a to b) (eqb-true _ _ h3.0) (eqb-true _ _ h3.1)) (same ps qs h2.1)

-- the places of a target
abbrev reach_is : Option (List Place) → Option Reach → Bool
reach_is None None = true
reach_is None (Some r) = false
reach_is (Some ps) None = false
reach_is (Some ps) (Some r) = same_places r.parts ps

no_target : (o : Option Reach) (w pc t x : ℕ) → reach_is None o ≡ true → aimed o w pc t ≡ Some x → ⊥
no_target None w pc t x h e = cc
no_target (Some r) w pc t x h e = false≢true h

-- a word aimed by a number at these places
record IsAimed (ps : List Place) (w x : ℕ) : Type 0 where
  pub number : ℕ
  pub small : number < 2 ^ bits_in ps
  pub is : x ≡ (all_bound (record { mask = 0; word = w }) (parted ps number)).word

aimed_if : (b : Bool) (y x : ℕ) → (if b then Some y else None) ≡ Some x → x ≡ y
aimed_if true y x h = cc
aimed_if false y x h = absurd (cc)

aimed_as : (ps : List Place) (o : Option Reach) (w pc t x : ℕ) → reach_is (Some ps) o ≡ true → aimed o w pc t ≡ Some x → IsAimed ps w x
aimed_as ps None w pc t x h e = absurd (false≢true h)
aimed_as ps (Some r) w pc t x h e =
    let v : ℕ = number_to r pc t in
    let s : r.parts ≡ ps = same r.parts ps h in
    let p : 0 < 2 ^ bits_in r.parts = pow_pos (bits_in r.parts) in
    let l : v < 2 ^ bits_in r.parts = omega (arith, p) in
    record {
      number = v;
      small = subst (λ (qs : List Place). v < 2 ^ bits_in qs) s l;
      is = aimed_if (target_address r.by r.page (bits_in r.parts) v pc == t) (all_bound (record { mask = 0; word = w }) (parted r.parts v)).word x e
          ∙ ap (λ (qs : List Place). (all_bound (record { mask = 0; word = w }) (parted qs v)).word) s;
    }

-- ---- the places of targets, line by line

abbrev adr_places : List Place
adr_places = (23 to 5) ∷ (30 to 29) ∷ []

abbrev places_of_target : ℕ → Option (List Place)
places_of_target k =
    if k == line.ADR then Some adr_places
    else (if k == line.BRANCH then Some ((25 to 0) ∷ [])
    else (if k == line.TEST then Some ((18 to 5) ∷ [])
    else (if is_among k (line.BRANCH_COND ∷ line.COMPARE ∷ line.LS_LITERAL ∷ []) then Some ((23 to 5) ∷ [])
    else None)))

abbrev places_from : ℕ → ℕ → List (Option (List Place))
places_from k zero = []
places_from k (suc n) = places_of_target k ∷ places_from (suc k) n

abbrev target_places : List (Option (List Place))
target_places = places_from 0 line.LINES

abbrev all_reach : Option (List Place) → List Pattern → Bool
all_reach c [] = true
all_reach c (p ∷ ps) = reach_is c (reach_of p.slots) && all_reach c ps

abbrev lines_reach : List (List Pattern) → List (Option (List Place)) → Bool
lines_reach [] cs = true
lines_reach (ps ∷ pss) [] = false
lines_reach (ps ∷ pss) (c ∷ cs) = all_reach c ps && lines_reach pss cs

reaches : lines_reach line_texts target_places ≡ true
unfolding texts_open line_texts
reaches = refl

some_is : (p q : Pattern) → Some p ≡ Some q → p ≡ q
some_is p q h = cc

reach_at : (ps : List Pattern) (c : Option (List Place)) (n : ℕ) (p : Pattern) → all_reach c ps ≡ true → pattern_at ps n ≡ Some p → reach_is c (reach_of p.slots) ≡ true
reach_at [] c n p h e = absurd (cc)
reach_at (q ∷ qs) c zero p h e = ap (λ (x : Pattern). reach_is c (reach_of x.slots)) (sym (some_is q p e)) ∙ (and_parts (reach_is c (reach_of q.slots)) (all_reach c qs) h).0
reach_at (q ∷ qs) c (suc n) p h e = reach_at qs c n p (and_parts (reach_is c (reach_of q.slots)) (all_reach c qs) h).1 e

reach_in_line : (pss : List (List Pattern)) (cs : List (Option (List Place))) (j n : ℕ) (p : Pattern) → lines_reach pss cs ≡ true → pattern_at (get_or pss j []) n ≡ Some p
    → reach_is (get_or cs j None) (reach_of p.slots) ≡ true
reach_in_line [] cs j n p h e = absurd (cc)
reach_in_line (ps ∷ pss) [] j n p h e = absurd (false≢true h)
reach_in_line (ps ∷ pss) (c ∷ cs) zero n p h e = reach_at ps c n p (and_parts (all_reach c ps) (lines_reach pss cs) h).0 e
reach_in_line (ps ∷ pss) (c ∷ cs) (suc j) n p h e = reach_in_line pss cs j n p (and_parts (all_reach c ps) (lines_reach pss cs) h).1 e

reach_of_form : (f : A64Form) → IsRow (row_of f) → reach_is (get_or target_places (line_number f) None) (reach f) ≡ true
reach_of_form f v =
    let t = has_text f v in
    let i = chosen_is (texts_of f) (word_of f) t.0 t.1 in
    ap (λ (o : Option Reach). reach_is (get_or target_places (line_number f) None) o) (ap reach_by t.1) ∙ reach_in_line line_texts target_places (line_number f) i.place t.0 reaches i.stands

-- ---- the law

bits_of : (ps : List Place) (o : Option Reach) → reach_is (Some ps) o ≡ true → reach_bits o ≡ ones_of ps
bits_of ps None h = absurd (false≢true h)
bits_of ps (Some r) h = ap ones_of (same r.parts ps h)

-- a word that has a number at places
abbrev HasAt : List Place → ℕ → Type 0
HasAt ps v = (u : ℕ) × (joined ps u ≡ v)

find_26 : (v : ℕ) → v < 2 ^ bits_in ((25 to 0) ∷ []) → HasAt ((25 to 0) ∷ []) v
find_26 v h = (v, omega arith)

find_19 : (v : ℕ) → v < 2 ^ bits_in ((23 to 5) ∷ []) → HasAt ((23 to 5) ∷ []) v
find_19 v h = (v * 32, omega arith)

find_14 : (v : ℕ) → v < 2 ^ bits_in ((18 to 5) ∷ []) → HasAt ((18 to 5) ∷ []) v
find_14 v h = (v * 32, omega arith)

find_21 : (v : ℕ) → v < 2 ^ bits_in adr_places → HasAt adr_places v
find_21 v h = (v / 4 * 32 + v % 4 * 2 ^ 29, omega arith)

module _ (f : A64Form) (row : IsRow (row_of f)) (pc t x : ℕ) (e : aimed (reach f) (unaimed_word f) pc t ≡ Some x) where
  at_places : (ps : List Place) → ((v : ℕ) → v < 2 ^ bits_in ps → HasAt ps v) → get_or target_places (line_number f) None ≡ Some ps → are_places ps ≡ true
      → (u : ℕ) × (x ≡ bit_or (bit_and (word_of f) (2 ^ 32 - 1 - ones_of ps)) (bit_and u (masked 0 ps)))
  at_places ps find g h =
      let r : reach_is (Some ps) (reach f) ≡ true = ap (λ (c : Option (List Place)). reach_is c (reach f)) (sym g) ∙ reach_of_form f row in
      let a = aimed_as ps (reach f) (unaimed_word f) pc t x r e in
      let u = find a.number a.small in (
        u.0,
        a.is ∙ ap (λ (n : ℕ). (all_bound (record { mask = 0; word = unaimed_word f }) (parted ps n)).word) (sym u.1) ∙ built_with (unaimed_word f) u.0 ps h
            ∙ ap (λ (n : ℕ). bit_or (bit_and (word_of f) (2 ^ 32 - 1 - n)) (bit_and u.0 (masked 0 ps))) (bits_of ps (reach f) r),
      )

aimed_row : (l : Line A64Form) (k w a b u x : ℕ) (r : Row A64Form) → line_at a64_table k ≡ Some l → row_in l w ≡ Some r → x ≡ bit_or (bit_and w a) (bit_and u b)
    → bit_and a (outside l.places) ≡ outside l.places → bit_and b (outside l.places) ≡ 0 → l.holds r.number (values l.places x) ≡ true → in_table x ≡ true
aimed_row l k w a b u x r e h i p q t = kept_row l k w x r e h (ap (λ (y : ℕ). bit_and y (outside l.places)) i ∙ kept w u a b (outside l.places) p q) t

-- A word aimed at a target that its field can reach is the word of a row.
pub aimed_held : (f : A64Form) (pc t x : ℕ) → IsRow (row_of f) → aimed (reach f) (unaimed_word f) pc t ≡ Some x → in_table x ≡ true
unfolding lines_open
aimed_held (Adr op immlo immhi rd) pc t x v e =
    let f : A64Form = Adr op immlo immhi rd in
    let y = at_places f v pc t x e adr_places find_21 refl refl in
    aimed_row adr line.ADR (word_of f) (2 ^ 32 - 1 - ones_of adr_places) (masked 0 adr_places) y.0 x (row_of f) (listed f) (in_row f v) y.1 refl refl refl
aimed_held (Branch op imm26) pc t x v e =
    let f : A64Form = Branch op imm26 in
    let ps : List Place = (25 to 0) ∷ [] in
    let y = at_places f v pc t x e ps find_26 refl refl in
    aimed_row branch line.BRANCH (word_of f) (2 ^ 32 - 1 - ones_of ps) (masked 0 ps) y.0 x (row_of f) (listed f) (in_row f v) y.1 refl refl refl
aimed_held (BranchCond imm19 cond') pc t x v e =
    let f : A64Form = BranchCond imm19 cond' in
    let ps : List Place = (23 to 5) ∷ [] in
    let y = at_places f v pc t x e ps find_19 refl refl in
    aimed_row branch_cond line.BRANCH_COND (word_of f) (2 ^ 32 - 1 - ones_of ps) (masked 0 ps) y.0 x (row_of f) (listed f) (in_row f v) y.1 refl refl refl
aimed_held (Compare op sf imm19 rt) pc t x v e =
    let f : A64Form = Compare op sf imm19 rt in
    let ps : List Place = (23 to 5) ∷ [] in
    let y = at_places f v pc t x e ps find_19 refl refl in
    aimed_row compare line.COMPARE (word_of f) (2 ^ 32 - 1 - ones_of ps) (masked 0 ps) y.0 x (row_of f) (listed f) (in_row f v) y.1 refl refl refl
aimed_held (Test op b5 b40 imm14 rt) pc t x v e =
    let f : A64Form = Test op b5 b40 imm14 rt in
    let ps : List Place = (18 to 5) ∷ [] in
    let y = at_places f v pc t x e ps find_14 refl refl in
    aimed_row test_branch line.TEST (word_of f) (2 ^ 32 - 1 - ones_of ps) (masked 0 ps) y.0 x (row_of f) (listed f) (in_row f v) y.1 refl refl refl
aimed_held (LsLiteral opc v' imm19 rt) pc t x v e =
    let f : A64Form = LsLiteral opc v' imm19 rt in
    let ps : List Place = (23 to 5) ∷ [] in
    let w : ℕ = word_of f in
    let a : ℕ = 2 ^ 32 - 1 - ones_of ps in
    let b : ℕ = masked 0 ps in
    let y = at_places f v pc t x e ps find_19 refl refl in
    let field_kept = λ (p : Place) (h : nat_le p.low p.high ≡ true) (m : bit_and a (ones_at p) ≡ ones_at p) (n : bit_and b (ones_at p) ≡ 0).
    kept_field w x p h (ap (λ (z : ℕ). bit_and z (ones_at p)) y.1 ∙ kept w y.0 a b (ones_at p) m n) in
    aimed_row ls_literal line.LS_LITERAL w a b y.0 x (row_of f) (listed f) (in_row f v) y.1 refl refl
    (ap₂ ls_literal_holds_for (field_kept (31 to 30) refl refl refl) (field_kept (26 to 26) refl refl refl) ∙ held f v)
aimed_held f pc t x v e = absurd (no_target (reach f) (unaimed_word f) pc t x (reach_of_form f v) e)
