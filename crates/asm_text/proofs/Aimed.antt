-- Forms with targets: their lines and patterns, and their words aimed elsewhere.
use Rattle.std.proofs.Common.{◌≡◌, ℕ, zero, suc, ◌+◌, ◌-◌, ◌^◌, ◌==◌, ◌&&◌, ◌||◌, if◌then◌else◌, Bool, true, false, not, Option, Some, None, List, [], ◌∷◌, bit_and, refl, sym, ap, ◌∙◌, arith, inl, inr}
use Rattle.std.specs.Prelude.{is_some}
use Rattle.std.proofs.lemmas.Bool.{cases_Bool, and_parts, not-true, eqb-true, false≢true, true≢false}
use Rattle.std.proofs.lemmas.Nat.{and_assoc}
use lib.Bits.{and_self}
use Rattle.emu_bits.specs.Rows.{Place, instruction}
use Rattle.text_model.specs.Slots.{bits_in, target_address, all_fit}
use Rattle.text_model.specs.Told.{parted, all_bound}
use Rattle.text_model.specs.Reading.{Pattern}
use Rattle.text_model.specs.Text.{chosen, shows}
use Rattle.text_model.specs.Aim.{Reach, reach_of, reach_bits, number_to, aimed}
use Rattle.text_model.proofs.Again.{pattern_at}
use Rattle.text_model.proofs.Tables.{chosen_is}
use Rattle.a64_insn.specs.declared.form.A64Form.{A64Form}
use Rattle.a64_insn.specs.declared.form.A64Form.TheVariants.{Adr, Branch, BranchCond, Compare, Test, LsLiteral}
use Rattle.a64_insn.specs.Table.{a64_table}
use Rattle.a64_insn.specs.Rows.{line_number}
use Rattle.a64_insn.specs.declared.lines.TheConstants as line
use Rattle.asm_a64.specs.Law.{word_of, texts_of, reach, unaimed_word}
use Rattle.asm_a64.specs.LawOfTexts.{reach_by, is_canonical_form}
use Rattle.asm_a64.specs.Table.{line_texts}
use Rattle.asm_a64.specs.Opened.{texts_open}
use Rattle.asm_text.specs.Targets.{may_have_target}
use Rattle.asm_text.proofs.Kept.{are_clear, parts_keep}
use Rattle.asm_text.proofs.ReadBy.{every}
use Rattle.asm_text.proofs.Found.{found, number_found}
use Rattle.asm_text.proofs.Settled.{settled, misses_but, told_place}
use Rattle.asm_text.proofs.BaseTests.{numbered, has_targets}
use Rattle.asm_text.proofs.Base.{no_mask}

-- ---- the patterns of a line

pub every_at : (test : Pattern → Bool) (ps : List Pattern) (n : ℕ) (p : Pattern) → every test ps ≡ true → pattern_at ps n ≡ Some p → test p ≡ true
every_at test [] n p h e = absurd (cc)
every_at test (q ∷ qs) zero p h e = let s : q ≡ p = cc in ap test (sym s) ∙ (and_parts (test q) (every test qs) h).0
every_at test (q ∷ qs) (suc n) p h e = every_at test qs n p (and_parts (test q) (every test qs) h).1 e

abbrev pub has_reach : Pattern → Bool
has_reach p = is_some (reach_of p.slots)

abbrev has_none : Pattern → Bool
has_none p = not (has_reach p)

-- each pattern of a line with targets has one, and no other does
pub reaching : (f : A64Form) → has_targets (line_number f) ≡ true → every has_reach (texts_of f) ≡ true
unfolding texts_open line_texts
reaching (Adr op immlo immhi rd) h = refl
reaching (Branch op imm26) h = refl
reaching (BranchCond imm19 cond') h = refl
reaching (Compare op sf imm19 rt) h = refl
reaching (Test op b5 b40 imm14 rt) h = refl
reaching (LsLiteral opc v imm19 rt) h = refl
reaching f h = absurd (false≢true h)

not_reaching : (f : A64Form) → has_targets (line_number f) ≡ false → every has_none (texts_of f) ≡ true
unfolding texts_open line_texts
not_reaching (Adr op immlo immhi rd) h = absurd (true≢false h)
not_reaching (Branch op imm26) h = absurd (true≢false h)
not_reaching (BranchCond imm19 cond') h = absurd (true≢false h)
not_reaching (Compare op sf imm19 rt) h = absurd (true≢false h)
not_reaching (Test op b5 b40 imm14 rt) h = absurd (true≢false h)
not_reaching (LsLiteral opc v imm19 rt) h = absurd (true≢false h)
not_reaching f h = refl

-- ---- a form whose text has a target

-- its pattern
pub record IsAiming (f : A64Form) : Type 0 where
  pub pattern : Pattern
  pub chosen : chosen (texts_of f) (word_of f) ≡ Some pattern
  pub has : has_reach pattern ≡ true

aiming_by : (f : A64Form) (o : Option Pattern) → chosen (texts_of f) (word_of f) ≡ o → is_some (reach_by o) ≡ true → IsAiming f
aiming_by f None e h = absurd (false≢true h)
aiming_by f (Some p) e h = record { pattern = p; chosen = e; has = h }

pub aiming : (f : A64Form) → is_some (reach f) ≡ true → IsAiming f
aiming f h = aiming_by f (chosen (texts_of f) (word_of f)) refl h

-- its line is one with targets
pub aiming_line : (f : A64Form) → IsAiming f → has_targets (line_number f) ≡ true
aiming_line f a = elim (cases_Bool (has_targets (line_number f))) [
  | inl e ↦ e
  | inr e ↦ (let i = chosen_is (texts_of f) (word_of f) a.pattern a.chosen in
      absurd (true≢false (sym a.has ∙ not-true _ (every_at has_none (texts_of f) i.place a.pattern (not_reaching f e) i.stands))))
]

line_is : (f : A64Form) → has_targets (line_number f) ≡ true → may_have_target f ≡ texts_of f
line_is (Adr op immlo immhi rd) h = refl
line_is (Branch op imm26) h = refl
line_is (BranchCond imm19 cond') h = refl
line_is (Compare op sf imm19 rt) h = refl
line_is (Test op b5 b40 imm14 rt) h = refl
line_is (LsLiteral opc v imm19 rt) h = refl
line_is f h = absurd (false≢true h)

-- so the patterns of lines with targets have its own
pub its_texts : (f : A64Form) → is_some (reach f) ≡ true → may_have_target f ≡ texts_of f
its_texts f h = line_is f (aiming_line f (aiming f h))

-- ---- its word aimed elsewhere

reach_places : Option Reach → List Place
reach_places None = []
reach_places (Some r) = r.parts

-- a target's bits are told, and the others are of lines with targets alone
abbrev aims_again : Pattern → Bool
aims_again p =
    has_none p
    || ((are_clear (settled p) (reach_places (reach_of p.slots)) && bit_and (2 ^ 32 - 1 - reach_bits (reach_of p.slots)) (settled p) == settled p)
    && misses_but has_targets 0 a64_table p)

aims : (f : A64Form) → every aims_again (texts_of f) ≡ true
unfolding texts_open reach_places a64_table line_texts
aims (Adr op immlo immhi rd) = refl
aims f = refl

aimed_if : (b : Bool) (y x : ℕ) → (if b then Some y else None) ≡ Some x → x ≡ y
aimed_if true y x h = cc
aimed_if false y x h = absurd (cc)

aimed_keeps : (o : Option Reach) (w pc t x m : ℕ) → aimed o w pc t ≡ Some x → are_clear m (reach_places o) ≡ true → bit_and x m ≡ bit_and w m
unfolding reach_places
aimed_keeps None w pc t x m h c = absurd (cc)
aimed_keeps (Some r) w pc t x m h c =
    let v : ℕ = number_to r pc t in
    let y : ℕ = (all_bound (record { mask = 0; word = w }) (parted r.parts v)).word in
    ap (λ (z : ℕ). bit_and z m) (aimed_if (target_address r.by r.page (bits_in r.parts) v pc == t) y x h) ∙ parts_keep (record { mask = 0; word = w }) r.parts v m c

uncut : (w b m : ℕ) → bit_and b m ≡ m → bit_and (bit_and w b) m ≡ bit_and w m
uncut w b m h = and_assoc m w b ∙ ap (bit_and w) h

-- An instruction aimed elsewhere is of a line with targets.
pub aimed_line : (f g : A64Form) (pc t x : ℕ) → is_some (reach f) ≡ true → aimed (reach f) (unaimed_word f) pc t ≡ Some x → instruction a64_table x ≡ Some g
    → has_targets (line_number g) ≡ true
aimed_line f g pc t x h e i =
    let a = aiming f h in
    let p : Pattern = a.pattern in
    let m : ℕ = settled p in
    let w : ℕ = word_of f in
    let o : Option Reach = reach_of p.slots in
    let c = chosen_is (texts_of f) w p a.chosen in
    let s = and_parts (bit_and w m == p.base) (all_fit p.slots w) c.shows in
    let b : bit_and w m ≡ p.base = eqb-true _ _ s.0 in
    let q : reach f ≡ o = ap reach_by a.chosen in
    let t1 = every_at aims_again (texts_of f) c.place p (aims f) c.stands in
    let tested : ((are_clear m (reach_places o) && bit_and (2 ^ 32 - 1 - reach_bits o) m == m) && misses_but has_targets 0 a64_table p) ≡ true =
    ap (λ (y : Bool). not y || ((are_clear m (reach_places o) && bit_and (2 ^ 32 - 1 - reach_bits o) m == m) && misses_but has_targets 0 a64_table p)) (sym a.has) ∙ t1 in
    let t2 = and_parts (are_clear m (reach_places o) && bit_and (2 ^ 32 - 1 - reach_bits o) m == m) (misses_but has_targets 0 a64_table p) tested in
    let t3 = and_parts (are_clear m (reach_places o)) (bit_and (2 ^ 32 - 1 - reach_bits o) m == m) t2.0 in
    let k : bit_and x m ≡ bit_and w m =
    aimed_keeps o (bit_and w (2 ^ 32 - 1 - reach_bits o)) pc t x m (ap (λ (r : Option Reach). aimed r (bit_and w (2 ^ 32 - 1 - reach_bits r)) pc t) (sym q) ∙ e) t3.0
    ∙ uncut w (2 ^ 32 - 1 - reach_bits o) m (eqb-true _ _ t3.1) in
    let kept : bit_and x m ≡ bit_and p.base m =
    k ∙ sym (ap (λ (y : ℕ). bit_and y m) (sym b) ∙ uncut w m m (and_self m)) in
    let d = found a64_table x g i in
    let z : 0 + d.place ≡ d.place = omega arith in
    ap has_targets (number_found line_number a64_table x g d numbered ∙ sym z)
    ∙ told_place has_targets 0 a64_table p d.place d.line x d.row t2.1 kept d.stands d.holds

no_two : (k : ℕ) → has_targets k ≡ true → (k == line.LOGIC_IMM) ≡ false
no_two k h = elim (cases_Bool (k == line.LOGIC_IMM)) [
  | inl e ↦ absurd (false≢true (ap has_targets (sym (eqb-true k line.LOGIC_IMM e)) ∙ h))
  | inr e ↦ e
]

-- So it is canonical.
pub aimed_canonical : (f g : A64Form) (pc t x : ℕ) → is_some (reach f) ≡ true → aimed (reach f) (unaimed_word f) pc t ≡ Some x → instruction a64_table x ≡ Some g
    → is_canonical_form g ≡ true
aimed_canonical f g pc t x h e i = no_mask g (no_two (line_number g) (aimed_line f g pc t x h e i))
