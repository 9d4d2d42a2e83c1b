-- Loads and stores that are done at once.
use Rattle.std.specs.Prelude.{◌≡◌, ◌<◌, ◌≤◌, ℕ, ◌+◌, ◌*◌, ◌%◌, Bool, true, false, nat_lt}
use Rattle.sve_insn.specs.declared.form.SveForm.{SveForm}
use Rattle.sve_insn.specs.declared.form.SveForm.TheVariants.{LoadImm, LoadReg, LoadZ, StoreImm, StoreReg, StoreZ}
use Rattle.emu_model.specs.declared.access.Kind.{Kind}
use Rattle.emu_model.specs.Access.{Memory, allowed, page_size}
use Rattle.emu_model.specs.State.{Core, Vectors}
use Rattle.element_loops.specs.declared.plan.Plan.{Plan}
use Rattle.element_loops.specs.declared.plan.Target.TheVariants.{Registers}
use Rattle.element_loops.specs.Layouts.{is_on_of}
use Rattle.element_loops.specs.Runs.{ArePlaced}

-- The elements of a plan fill the first n lanes of one register, which alone are active; they stand one behind the
-- other from a base on, in one page that has the right; and a base that is SP is a multiple of 16.
pub record IsAtOnce (n base : ℕ) (kind : Kind) (p : Plan) (c : Core) (v : Vectors) (m : Memory) : Type 0 where
  pub target : p.target ≡ Registers
  pub one : p.registers ≡ 1
  pub filled : p.bits ≡ 8 * p.bytes
  pub few : n ≤ p.lanes
  pub active : (k : ℕ) → k < p.lanes → is_on_of p.on p.bits v k ≡ nat_lt k n
  pub placed : ArePlaced base p
  pub within : base % page_size + n * p.bytes ≤ page_size
  pub allowed : allowed m kind base ≡ true
  pub aligned : p.has_sp_base ≡ true → c.sp % 16 ≡ 0

-- the rows that loops are made of
abbrev pub is_load_imm : SveForm → Bool
is_load_imm (LoadImm dtype imm4 pg rn zt) = true
is_load_imm form = false

abbrev pub is_load_reg : SveForm → Bool
is_load_reg (LoadReg dtype rm pg rn zt) = true
is_load_reg form = false

abbrev pub is_load_z : SveForm → Bool
is_load_z (LoadZ imm9h imm9l rn zt) = true
is_load_z form = false

abbrev pub is_store_imm : SveForm → Bool
is_store_imm (StoreImm msz size imm4 pg rn zt) = true
is_store_imm form = false

abbrev pub is_store_reg : SveForm → Bool
is_store_reg (StoreReg msz size rm pg rn zt) = true
is_store_reg form = false

abbrev pub is_store_z : SveForm → Bool
is_store_z (StoreZ imm9h imm9l rn zt) = true
is_store_z form = false
