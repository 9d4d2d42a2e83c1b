-- The lanes of a pattern as a result: private functions alone cite this.
use Rattle.std.specs.Prelude.{ℕ, ◌/◌, Bool}
use Rattle.emu_model.specs.Done.{Registers}
use Rattle.emu_model.specs.State.{Core, Vectors}
use Rattle.sve_effects.specs.Pattern.{pattern_count}
use Rattle.sve_effects.specs.Predicate.{lanes_below}
use Rattle.sve_effects.specs.PredicateRows.{predicate_bits, with_result}

-- the lanes of e bits that a pattern names in predicate pd, with the flags of their own test, where they are set
abbrev pub put_pattern : Bool → ℕ → ℕ → ℕ → Core → Vectors → Registers
put_pattern sets e pattern pd c v = let result = lanes_below e (predicate_bits v) (pattern_count pattern (v.bits / e)) in with_result sets e result pd result c v
