-- The answers of compares, by their second operand: private functions alone cite this.
use Rattle.std.specs.Prelude.{◌≡◌, ◌<◌, ℕ, ◌/◌, ◌%◌, ◌^◌, ◌&&◌, Bool, not, nat_lt, List}
use Rattle.emu_model.specs.State.{Vectors}
use Rattle.sve_effects.specs.declared.lane_functions.LaneTest.{LaneTest}
use Rattle.sve_effects.specs.Lane.{lane_test, extended_by}
use Rattle.sve_effects.specs.LaneLoop.{lane_of, covering_lane}
use Rattle.sve_effects.specs.PredicateRows.{is_unsigned}
use Rattle.emu_model.specs.Lanes.{field_bit}
use Rattle.vec_regs.specs.Words.{bit_of}
use Rattle.sve_pred.specs.declared.compares.Operand.{Operand}
use Rattle.sve_pred.specs.declared.compares.Operand.TheVariants.{Lane, Covering, Number}

-- the test of lane k of zn
abbrev pub answer : LaneTest → ℕ → Vectors → ℕ → Operand → ℕ → Bool
answer test e v zn (Lane zm) k = lane_test test e (lane_of e v zn k) (lane_of e v zm k)
answer test e v zn (Covering zm) k = lane_test test 64 (extended_by (not (is_unsigned test)) 64 e (lane_of e v zn k)) (covering_lane e v zm k)
answer test e v zn (Number n) k = lane_test test e (lane_of e v zn k) n

-- what an operation tells of lane k of zn, a number taken modulo 2^e
abbrev pub told : (ℕ → ℕ → ℕ → Bool) → Bool → ℕ → Vectors → ℕ → Operand → ℕ → Bool
told entry signed e v zn (Lane zm) k = entry e (lane_of e v zn k) (lane_of e v zm k)
told entry signed e v zn (Covering zm) k = entry 64 (extended_by signed 64 e (lane_of e v zn k)) (covering_lane e v zm k)
told entry signed e v zn (Number n) k = entry e (lane_of e v zn k) (n % 2 ^ e)

-- words are those of a predicate that has the lanes of which an operation tells
abbrev pub IsToldBy : (ℕ → ℕ → ℕ → Bool) → Bool → ℕ → Vectors → ℕ → Operand → List ℕ → Type 0
IsToldBy entry signed e v zn operand words = (b : ℕ)
    → bit_of words b ≡ (nat_lt b (v.bits / 8) && field_bit (e / 8) (told entry signed e v zn operand) b)

-- or a test
abbrev pub IsTold : ℕ → LaneTest → Vectors → ℕ → Operand → List ℕ → Type 0
IsTold e test = IsToldBy (lane_test test) (not (is_unsigned test)) e

-- a number has the bits of a lane
abbrev pub IsOfLane : ℕ → Operand → Type 0
IsOfLane e (Lane zm) = Unit {0}
IsOfLane e (Covering zm) = Unit {0}
IsOfLane e (Number n) = n < 2 ^ e
