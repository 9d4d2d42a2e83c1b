-- Compares into a predicate, by the lanes that are told.
use Rattle.std.proofs.Common.{◌≡◌, ◌<◌, ◌*◌, ◌/◌, ◌%◌, ℕ, Bool, true, false, not, ◌&&◌, nat_eq, nat_lt, if◌then◌else◌, List, get_or, inl, inr, refl, sym, ap, subst, ◌∙◌, arith}
use Rattle.std.proofs.Math.Nat.{mod-eq_of_lt}
use Rattle.std.proofs.lemmas.Bool.{cases_eq, lt-ltb, le-ltb}
use Rattle.std.proofs.lemmas.Nat.{div-add-mod'}
use Rattle.emu_model.specs.Lists.{each}
use Rattle.emu_model.specs.ListLaws.{get_or-each, each_same}
use Rattle.emu_model.specs.State.{Core, Vectors}
use Rattle.emu_model.proofs.FieldBits.{between}
use Rattle.emu_model.specs.Active.{active}
use Rattle.emu_model.specs.Lanes.{field_bit}
use Rattle.vec_regs.specs.Words.{bit_of, bits_of, AreClearFrom}
use Rattle.sve_effects.specs.declared.lane_functions.LaneTest.{LaneTest}
use Rattle.lane_model.specs.declared.predicates.LogicOp.TheVariants.{And}
use Rattle.sve_effects.specs.Lane.{lane_test}
use Rattle.sve_effects.specs.Predicate.{logic}
use Rattle.sve_effects.specs.PredicateRows.{with_compared, is_unsigned}
use Rattle.sve_pred.specs.Compares.{answer, told, IsTold, IsOfLane}
use Rattle.sve_pred.specs.declared.compares.Operand.{Operand}
use Rattle.sve_pred.specs.declared.compares.Operand.TheVariants.{Lane, Covering, Number}

-- a number with the bits of a lane is itself modulo 2^e
pub told_answer : (test : LaneTest) (e zn k : ℕ) (v : Vectors) (operand : Operand) → IsOfLane e operand → told (lane_test test) (not (is_unsigned test)) e v zn operand k ≡ answer test e v zn operand k
told_answer test e zn k v (Lane zm) h = refl
told_answer test e zn k v (Covering zm) h = refl
told_answer test e zn k v (Number n) h = ap (lane_test test e _) (mod-eq_of_lt h)

-- ---- the active ones of the lanes that are told

both : (g x : Bool) → (g && (x && x)) ≡ (if g then x else false)
both true true = refl
both true false = refl
both false x = refl

none : (g : Bool) → (g && (false && false)) ≡ false
none true = refl
none false = refl

module _ (e m : ℕ) (g : List Bool) (words : List ℕ) (told answer : ℕ → Bool) (same : (k : ℕ) → told k ≡ answer k) (is : (b : ℕ) → bit_of words b ≡ (nat_lt b m && field_bit (e / 8) told b)) where
  pub told_clear : AreClearFrom m words
  told_clear b past = is b ∙ ap (λ t. t && field_bit (e / 8) told b) (le-ltb b m past)

  told_bit : (b : ℕ) → b < m → get_or (bits_of m words) b false ≡ field_bit (e / 8) told b
  told_bit b h = get_or-each m (bit_of words) b false h ∙ is b ∙ ap (λ t. t && field_bit (e / 8) told b) (lt-ltb b m h)

  pub told_active : logic And m g (bits_of m words) (bits_of m words) ≡ each m (field_bit (e / 8) (λ k. if active e g k then answer k else false))
  told_active = each_same m _ (field_bit (e / 8) (λ k. if active e g k then answer k else false)) false (λ b h.
      ap (λ x. get_or g b false && (x && x)) (told_bit b h)
      ∙ elim (cases_eq (b % (e / 8)) 0) [
        | inl start ↦
            (let whole : b / (e / 8) * (e / 8) ≡ b = omega (arith, div-add-mod' b (e / 8)) in
            ap (λ r. get_or g b false && ((if nat_eq r 0 then told (b / (e / 8)) else false) && (if nat_eq r 0 then told (b / (e / 8)) else false))) start
            ∙ both (get_or g b false) (told (b / (e / 8)))
            ∙ ap (λ i. if get_or g i false then told (b / (e / 8)) else false) (sym whole)
            ∙ ap (λ t. if active e g (b / (e / 8)) then t else false) (same (b / (e / 8)))
            ∙ sym (ap (λ r. if nat_eq r 0 then (if active e g (b / (e / 8)) then answer (b / (e / 8)) else false) else false) start))
        | inr other ↦
            (let off : 0 < b % (e / 8) = omega arith in
            ap (λ x. get_or g b false && (x && x)) (between (e / 8) b told off) ∙ none (get_or g b false) ∙ sym (between (e / 8) b (λ k. if active e g k then answer k else false) off))
      ])

-- ---- the same operands

pub same_compared : (e pg pn pd zn : ℕ) (t u : LaneTest) (a b : Operand) (c : Core) (v : Vectors) → pg ≡ pn → t ≡ u → a ≡ b
    → with_compared e pg pd (answer t e v zn a) c v ≡ with_compared e pn pd (answer u e v zn b) c v
same_compared e pg pn pd zn t u a b c v g s o =
    ap (λ (p : ℕ). with_compared e p pd (answer t e v zn a) c v) g
    ∙ ap (λ (s : LaneTest). with_compared e pn pd (answer s e v zn a) c v) s
    ∙ ap (λ (o : Operand). with_compared e pn pd (answer u e v zn o) c v) o

pub same_told : (e f zn : ℕ) (t u : LaneTest) (a b : Operand) (v : Vectors) (words : List ℕ) → e ≡ f → t ≡ u → a ≡ b → IsTold e t v zn a words → IsTold f u v zn b words
same_told e f zn t u a b v words p q r h =
    subst (λ (e : ℕ). IsTold e u v zn b words) p (subst (λ (t : LaneTest). IsTold e t v zn b words) q (subst (λ (a : Operand). IsTold e t v zn a words) r h))
