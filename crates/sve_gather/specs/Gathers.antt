-- Plans of gathers and scatters, and the words of a register that is gathered.
use Rattle.std.specs.Prelude.{◌≡◌, ◌<◌, ◌⊎◌, ℕ, ◌+◌, ◌*◌, ◌/◌, List, get_or, length}
use Rattle.emu_model.specs.Access.{Memory}
use Rattle.emu_model.specs.Lists.{each}
use Rattle.emu_model.specs.State.{Vectors}
use Rattle.vec_regs.specs.Packed.{packed}
use Rattle.vec_regs.specs.Words.{AreZeroFrom}
use Rattle.sve_effects.specs.VectorLoadStore.{loaded_lane}
use Rattle.element_loops.specs.declared.plan.Plan.{Plan}
use Rattle.element_loops.specs.declared.plan.Target.TheVariants.{Registers}
use Rattle.element_loops.specs.Layouts.{layout_of}

-- Elements of one register, whose lanes have 32 or 64 bits.
pub record IsGather (p : Plan) : Type 0 where
  pub target : p.target ≡ Registers
  pub one : p.registers ≡ 1
  pub size : (p.bits ≡ 32) ⊎ (p.bits ≡ 64)

-- word i of a register whose lanes of e bits are these numbers modulo 2^e
abbrev pub word_of_lanes : ℕ → (ℕ → ℕ) → ℕ → ℕ
word_of_lanes e f i = packed e (each (64 / e) (λ j. f (i * (64 / e) + j)))

-- what lane k of the register gets
abbrev pub lane_value : Plan → Vectors → Memory → ℕ → ℕ
lane_value p v m k = loaded_lane p.is_signed (layout_of p v) m 0 k

-- Of the 32 words of a register the first n have what their lanes get, and the others are 0.
pub record AreWords (p : Plan) (v : Vectors) (m : Memory) (n : ℕ) (words : List ℕ) : Type 0 where
  pub long : length words ≡ 32
  pub given : (i : ℕ) → i < n → get_or words i 0 ≡ word_of_lanes p.bits (lane_value p v m) i
  pub above : AreZeroFrom n words
