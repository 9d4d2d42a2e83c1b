-- The steps by which an instruction is aimed.
use Rattle.std.proofs.Common.{◌≡◌, ℕ, zero, suc, ◌-◌, ◌^◌, ◌&&◌, true, Option, Some, None, List, [], ◌∷◌, bit_and, refl, sym, ap, ap₂, subst, ◌∙◌}
use Rattle.std.specs.Prelude.{option_map, option_and_then, is_some, IfSome}
use Rattle.std.proofs.lemmas.Bool.{and_parts, false≢true}
use Rattle.emu_bits.specs.Rows.{instruction}
use Rattle.a64_insn.specs.declared.form.A64Form.{A64Form}
use Rattle.a64_insn.specs.Table.{a64_table}
use Rattle.asm_a64.specs.Law.{word_of, reach, unaimed_word}
use Rattle.asm_a64.specs.LawOfTexts.{reach_by}
use Rattle.emu_run.specs.declared.insn.Insn.{Insn}
use Rattle.emu_run.specs.declared.insn.Insn.TheVariants.{A64, Sve}
use Rattle.asm_text.specs.Statements.{aimed_at}
use Rattle.asm_text.specs.Targets.{may_have_target, HasTarget}
use Rattle.asm_text.specs.Canonical.{is_canonical}
use Rattle.text_code.specs.Reads.{all_sound}
use Rattle.text_code.specs.Sound.{are_sound, are_few}
use Rattle.text_model.specs.Reading.{Pattern}
use Rattle.text_model.specs.Text.{chosen}
use Rattle.text_model.specs.Aim.{Reach, reach_of, reach_bits, aimed}
use Rattle.text_model.proofs.Again.{pattern_at}
use Rattle.text_model.proofs.Tables.{chosen_is}
use Rattle.asm_text.proofs.Aimed.{its_texts, aimed_canonical}

some_is : (p q : Pattern) → Some p ≡ Some q → p ≡ q
some_is p q h = cc

sound_at : (ps : List Pattern) (n : ℕ) (p : Pattern) → all_sound ps ≡ true → pattern_at ps n ≡ Some p → are_sound p.slots ≡ true
sound_at [] n p h e = absurd (cc)
sound_at (q ∷ qs) zero p h e =
    let h2 = and_parts (are_sound q.slots && are_few q.slots) (all_sound qs) h in
    ap (λ (x : Pattern). are_sound x.slots) (sym (some_is q p e)) ∙ (and_parts (are_sound q.slots) (are_few q.slots) h2.0).0
sound_at (q ∷ qs) (suc n) p h e = sound_at qs n p (and_parts (are_sound q.slots && are_few q.slots) (all_sound qs) h).1 e

-- a pattern that is chosen is sound
pub chosen_sound : (ps : List Pattern) (w : ℕ) (p : Pattern) → all_sound ps ≡ true → Some p ≡ chosen ps w → are_sound p.slots ≡ true
chosen_sound ps w p h e = let i = chosen_is ps w p (sym e) in sound_at ps i.place p h i.stands

-- What is known when the pattern of an instruction's word has been looked for among its line's.
pub record IsSought (i : Insn) (f : A64Form) (o : Option Pattern) : Type 0 where
  pub is : i ≡ A64 f
  pub has : is_some (reach f) ≡ true
  pub reach_is : reach f ≡ reach_by o

pub sought : (i : Insn) (f : A64Form) (ps : List Pattern) (w : ℕ) (o : Option Pattern) → i ≡ A64 f → HasTarget i → ps ≡ may_have_target f → w ≡ word_of f → o ≡ chosen ps w → IsSought i f o
sought i f ps w o e h p v c =
    let t : is_some (reach f) ≡ true = subst HasTarget e h in
    record {
      is = e;
      has = t;
      reach_is = ap (λ (qs : List Pattern). reach_by (chosen qs (word_of f))) (sym (its_texts f t)) ∙ ap₂ (λ (qs : List Pattern) (u : ℕ). reach_by (chosen qs u)) (sym p) (sym v) ∙ ap reach_by (sym c);
    }

-- there is one
pub none_sought : {A : Type 0} (i : Insn) (f : A64Form) → IsSought i f None → A
none_sought i f s = absurd (false≢true (sym (ap is_some s.reach_is) ∙ s.has))

-- aimed by its reach
pub aimed_so : (i : Insn) (f : A64Form) (p : Pattern) (w u pc t : ℕ) (r : Option Reach) (x : Option ℕ) → IsSought i f (Some p) → w ≡ word_of f → r ≡ reach_of p.slots
    → u ≡ bit_and w (2 ^ 32 - 1 - reach_bits r) → x ≡ aimed r u pc t → option_map A64 (option_and_then (instruction a64_table) x) ≡ aimed_at i pc t
aimed_so i f p w u pc t r x s v q e h =
    let k : r ≡ reach f = q ∙ sym s.reach_is in
    let y : u ≡ unaimed_word f = e ∙ ap₂ (λ (z : ℕ) (o : Option Reach). bit_and z (2 ^ 32 - 1 - reach_bits o)) v k in
    let z : x ≡ aimed (reach f) (unaimed_word f) pc t = h ∙ ap₂ (λ (o : Option Reach) (n : ℕ). aimed o n pc t) k y in
    ap (λ (o : Option ℕ). option_map A64 (option_and_then (instruction a64_table) o)) z ∙ ap (λ (j : Insn). aimed_at j pc t) (sym s.is)

made : (f : A64Form) (pc t x : ℕ) (o : Option A64Form) → is_some (reach f) ≡ true → aimed (reach f) (unaimed_word f) pc t ≡ Some x → instruction a64_table x ≡ o
    → IfSome (option_map A64 o) (λ j. is_canonical j ≡ true)
made f pc t x None h e i = tt
made f pc t x (Some g) h e i = aimed_canonical f g pc t x h e i

given : (f : A64Form) (pc t : ℕ) (x : Option ℕ) → is_some (reach f) ≡ true → aimed (reach f) (unaimed_word f) pc t ≡ x
    → IfSome (option_map A64 (option_and_then (instruction a64_table) x)) (λ j. is_canonical j ≡ true)
given f pc t None h e = tt
given f pc t (Some x) h e = made f pc t x (instruction a64_table x) h e refl

-- an instruction aimed is canonical
pub aimed_well : (i : Insn) (pc t : ℕ) → HasTarget i → IfSome (aimed_at i pc t) (λ j. is_canonical j ≡ true)
aimed_well (A64 f) pc t h = given f pc t (aimed (reach f) (unaimed_word f) pc t) h refl
aimed_well (Sve f) pc t h = absurd h

aimed_by_reach : (f : A64Form) (pc t : ℕ) (r : Option Reach) → reach f ≡ r → IfSome (aimed_at (A64 f) pc t) (λ j. is_canonical j ≡ true)
aimed_by_reach f pc t None e =
    subst (λ (r : Option Reach). IfSome (option_map A64 (option_and_then (instruction a64_table) (aimed r (unaimed_word f) pc t))) (λ j. is_canonical j ≡ true)) (sym e) tt
aimed_by_reach f pc t (Some r) e = aimed_well (A64 f) pc t (ap is_some e)

-- whatever is aimed is canonical
pub aimed_law : (i : Insn) (pc t : ℕ) → IfSome (aimed_at i pc t) (λ j. is_canonical j ≡ true)
aimed_law (A64 f) pc t = aimed_by_reach f pc t (reach f) refl
aimed_law (Sve f) pc t = tt
