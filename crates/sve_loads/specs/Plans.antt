-- The plans of the rows that load or store consecutive elements.
use Rattle.std.specs.Prelude.{◌≤◌, ℕ, ◌+◌, ◌*◌, ◌/◌, ◌^◌, Bool, true, false, nat_eq, pos}
use Rattle.sve_insn.specs.declared.form.SveForm.{SveForm}
use Rattle.sve_insn.specs.declared.form.SveForm.TheVariants.{LoadImm, LoadReg, LoadFf, LoadNf, LoadNtImm, LoadNtReg, LoadQuadImm, LoadQuadReg, LoadManyImm, LoadManyReg, LoadOne, LoadZ, LoadP, StoreImm, StoreReg, StoreNtImm, StoreNtReg, StoreManyImm, StoreManyReg, StoreZ, StoreP}
use Rattle.emu_bits.specs.Numbers.{signed}
use Rattle.emu_model.specs.State.{Core, Vectors}
use Rattle.emu_model.specs.LaneSizes.{IsLaneSize}
use Rattle.sve_effects.specs.LaneLoop.{lane_bits, is_active}
use Rattle.sve_effects.specs.FirstLast.{first_where}
use Rattle.sve_effects.specs.VectorElements.{dtype_bits, dtype_bytes, dtype_signed, load_registers, store_registers, base_and_count, base_and_register}
use Rattle.element_loops.specs.declared.plan.Plan.{Plan}
use Rattle.element_loops.specs.declared.plan.OnLanes.TheVariants.{All, Active, Only}
use Rattle.element_loops.specs.declared.plan.Places.TheVariants.{Consecutive, Bytes, Single}
use Rattle.element_loops.specs.declared.plan.Target.TheVariants.{Registers, Repeated, Replicated, Predicate}
use Rattle.sve_loads.specs.declared.shape.Shape.{Shape}

pub record IsShape (s : Shape) : Type 0 where
  pub size : IsLaneSize s.bits
  pub some : 1 ≤ s.bytes
  pub most : s.bytes ≤ 8
  pub registers : 1 ≤ s.registers
  pub few : s.registers ≤ 4

-- elements from a base on, for the active lanes
abbrev pub consecutive_plan : Shape → ℕ → ℕ → ℕ → ℕ → Vectors → Plan
consecutive_plan s zt pg rn base v = record {
  bits = s.bits;
  bytes = s.bytes;
  lanes = v.bits / s.bits;
  registers = s.registers;
  register = zt;
  on = Active pg;
  places = Consecutive base;
  target = Registers;
  is_signed = s.is_signed;
  has_sp_base = nat_eq rn 31;
}

abbrev pub imm_plan : Shape → ℕ → ℕ → ℕ → ℕ → Core → Vectors → Plan
imm_plan s zt pg rn imm4 c v = consecutive_plan s zt pg rn (base_and_count c rn (signed imm4 4) (s.registers * (v.bits / s.bits) * s.bytes)) v

abbrev pub reg_plan : Shape → ℕ → ℕ → ℕ → ℕ → Core → Vectors → Plan
reg_plan s zt pg rn rm c v = consecutive_plan s zt pg rn (base_and_register c rn rm s.bytes) v

-- 128 bits, again and again
abbrev pub repeated : Plan → Plan
repeated p = record p { lanes = 128 / p.bits; target = Repeated }

-- one element for all active lanes
abbrev pub one_plan : Shape → ℕ → ℕ → ℕ → ℕ → Core → Vectors → Plan
one_plan s zt pg rn imm6 c v = record {
  bits = s.bits;
  bytes = s.bytes;
  lanes = v.bits / s.bits;
  registers = s.registers;
  register = zt;
  on = Only (first_where (v.bits / s.bits) (is_active s.bits v pg));
  places = Single (base_and_count c rn (pos imm6) s.bytes);
  target = Replicated pg;
  is_signed = s.is_signed;
  has_sp_base = nat_eq rn 31;
}

-- the bytes of a whole Z register, and of a whole predicate
abbrev pub z_plan : ℕ → ℕ → ℕ → ℕ → Core → Vectors → Plan
z_plan imm9h imm9l rn zt c v = record {
  bits = 8;
  bytes = 1;
  lanes = v.bits / 8;
  registers = 1;
  register = zt;
  on = All;
  places = Bytes (base_and_count c rn (signed (imm9h * 8 + imm9l) 9) (v.bits / 8));
  target = Registers;
  is_signed = false;
  has_sp_base = nat_eq rn 31;
}

abbrev pub p_plan : ℕ → ℕ → ℕ → ℕ → Core → Vectors → Plan
p_plan imm9h imm9l rn pt c v = record {
  bits = 8;
  bytes = 1;
  lanes = v.bits / 64;
  registers = 1;
  register = pt;
  on = All;
  places = Bytes (base_and_count c rn (signed (imm9h * 8 + imm9l) 9) (v.bits / 64));
  target = Predicate pt;
  is_signed = false;
  has_sp_base = nat_eq rn 31;
}

-- the lanes and elements by dtype, and of elements as large as lanes
abbrev pub dtype_shape : ℕ → Shape
dtype_shape dtype = record { bits = dtype_bits dtype; bytes = dtype_bytes dtype; registers = 1; is_signed = dtype_signed dtype }

-- elements that fill lanes of e bits, of one register
abbrev pub filled_shape : ℕ → Shape
filled_shape e = record { bits = e; bytes = e / 8; registers = 1; is_signed = false }

abbrev pub size_shape : ℕ → ℕ → ℕ → Shape
size_shape size msz registers = record { bits = lane_bits size; bytes = 2 ^ msz; registers = registers; is_signed = false }

abbrev pub quad_imm_plan : ℕ → ℕ → ℕ → ℕ → ℕ → Core → Vectors → Plan
quad_imm_plan msz imm4 pg rn zt c v = repeated (consecutive_plan (size_shape msz msz 1) zt pg rn (base_and_count c rn (signed imm4 4) 16) v)

abbrev pub quad_reg_plan : ℕ → ℕ → ℕ → ℕ → ℕ → Core → Vectors → Plan
quad_reg_plan msz rm pg rn zt c v = repeated (reg_plan (size_shape msz msz 1) zt pg rn rm c v)

-- ---- the rows

abbrev pub load_plan : SveForm → Core → Vectors → Plan
load_plan (LoadImm dtype imm4 pg rn zt) c v = imm_plan (dtype_shape dtype) zt pg rn imm4 c v
load_plan (LoadReg dtype rm pg rn zt) c v = reg_plan (dtype_shape dtype) zt pg rn rm c v
load_plan (LoadNtImm msz imm4 pg rn zt) c v = imm_plan (size_shape msz msz 1) zt pg rn imm4 c v
load_plan (LoadNtReg msz rm pg rn zt) c v = reg_plan (size_shape msz msz 1) zt pg rn rm c v
load_plan (LoadQuadImm msz imm4 pg rn zt) c v = quad_imm_plan msz imm4 pg rn zt c v
load_plan (LoadQuadReg msz rm pg rn zt) c v = quad_reg_plan msz rm pg rn zt c v
load_plan (LoadManyImm op msz imm4 pg rn zt) c v = imm_plan (size_shape msz msz (load_registers op)) zt pg rn imm4 c v
load_plan (LoadManyReg op msz rm pg rn zt) c v = reg_plan (size_shape msz msz (load_registers op)) zt pg rn rm c v
load_plan (LoadOne dtypeh imm6 dtypel pg rn zt) c v = one_plan (dtype_shape (dtypeh * 4 + dtypel)) zt pg rn imm6 c v
load_plan (LoadP imm9h imm9l rn pt) c v = p_plan imm9h imm9l rn pt c v
load_plan (LoadZ imm9h imm9l rn zt) c v = z_plan imm9h imm9l rn zt c v
-- the other rows load nothing here
load_plan form c v = z_plan 0 0 0 0 c v

abbrev pub store_plan : SveForm → Core → Vectors → Plan
store_plan (StoreImm msz size imm4 pg rn zt) c v = imm_plan (size_shape size msz 1) zt pg rn imm4 c v
store_plan (StoreReg msz size rm pg rn zt) c v = reg_plan (size_shape size msz 1) zt pg rn rm c v
store_plan (StoreNtImm msz imm4 pg rn zt) c v = imm_plan (size_shape msz msz 1) zt pg rn imm4 c v
store_plan (StoreNtReg msz rm pg rn zt) c v = reg_plan (size_shape msz msz 1) zt pg rn rm c v
store_plan (StoreManyImm op msz imm4 pg rn zt) c v = imm_plan (size_shape msz msz (store_registers op)) zt pg rn imm4 c v
store_plan (StoreManyReg op msz rm pg rn zt) c v = reg_plan (size_shape msz msz (store_registers op)) zt pg rn rm c v
store_plan (StoreP imm9h imm9l rn pt) c v = p_plan imm9h imm9l rn pt c v
store_plan (StoreZ imm9h imm9l rn zt) c v = z_plan imm9h imm9l rn zt c v
-- the other rows store nothing here
store_plan form c v = z_plan 0 0 0 0 c v

-- contiguous first-faulting and non-faulting loads
abbrev pub is_first_contiguous : SveForm → Bool
is_first_contiguous (LoadFf dtype rm pg rn zt) = true
is_first_contiguous (LoadNf dtype imm4 pg rn zt) = true
is_first_contiguous form = false

abbrev pub first_plan : SveForm → Core → Vectors → Plan
first_plan (LoadFf dtype rm pg rn zt) c v = reg_plan (dtype_shape dtype) zt pg rn rm c v
first_plan (LoadNf dtype imm4 pg rn zt) c v = imm_plan (dtype_shape dtype) zt pg rn imm4 c v
first_plan form c v = z_plan 0 0 0 0 c v
