-- The plans of gathers and scatters.
use Rattle.std.specs.Prelude.{ℕ, ◌*◌, ◌/◌, ◌^◌, Bool, true, false, not, nat_eq}
use Rattle.sve_insn.specs.declared.form.SveForm.{SveForm}
use Rattle.sve_insn.specs.declared.form.SveForm.TheVariants.{GatherSx, GatherSxScaled, GatherDx, GatherDxScaled, GatherD, GatherDScaled, GatherSv, GatherDv, ScatterSx, ScatterSxScaled, ScatterDx, ScatterDxScaled, ScatterD, ScatterDScaled, ScatterSv, ScatterDv}
use Rattle.emu_model.specs.State.{Core, Vectors, read_x_sp}
use Rattle.element_loops.specs.declared.plan.Plan.{Plan}
use Rattle.element_loops.specs.declared.plan.OnLanes.TheVariants.{Active}
use Rattle.element_loops.specs.declared.plan.Places.{Places}
use Rattle.element_loops.specs.declared.plan.Places.TheVariants.{Bytes, Words, Offsets, Vector}
use Rattle.element_loops.specs.declared.plan.Target.TheVariants.{Registers}

-- elements at some places, for the active lanes of one register
abbrev pub scattered_plan : ℕ → ℕ → ℕ → ℕ → Places → Bool → Bool → Vectors → Plan
scattered_plan e n zt pg places is_signed has_sp_base v = record {
  bits = e;
  bytes = n;
  lanes = v.bits / e;
  registers = 1;
  register = zt;
  on = Active pg;
  places = places;
  target = Registers;
  is_signed = is_signed;
  has_sp_base = has_sp_base;
}

-- ---- the rows

abbrev pub has_gather_plan : SveForm → Bool
has_gather_plan (GatherSx msz xs zm u ff pg rn zt) = true
has_gather_plan (GatherSxScaled msz xs zm u ff pg rn zt) = true
has_gather_plan (GatherDx msz xs zm u ff pg rn zt) = true
has_gather_plan (GatherDxScaled msz xs zm u ff pg rn zt) = true
has_gather_plan (GatherD msz zm u ff pg rn zt) = true
has_gather_plan (GatherDScaled msz zm u ff pg rn zt) = true
has_gather_plan (GatherSv msz imm5 u ff pg zn zt) = true
has_gather_plan (GatherDv msz imm5 u ff pg zn zt) = true
has_gather_plan (ScatterSx msz zm xs pg rn zt) = true
has_gather_plan (ScatterSxScaled msz zm xs pg rn zt) = true
has_gather_plan (ScatterDx msz zm xs pg rn zt) = true
has_gather_plan (ScatterDxScaled msz zm xs pg rn zt) = true
has_gather_plan (ScatterD msz zm pg rn zt) = true
has_gather_plan (ScatterDScaled msz zm pg rn zt) = true
has_gather_plan (ScatterSv msz imm5 pg zn zt) = true
has_gather_plan (ScatterDv msz imm5 pg zn zt) = true
has_gather_plan form = false

abbrev pub plan_of : SveForm → Core → Vectors → Plan
plan_of (GatherSx msz xs zm u ff pg rn zt) c v = scattered_plan 32 (2 ^ msz) zt pg (Words (read_x_sp c rn) xs zm 1) (not u) (nat_eq rn 31) v
plan_of (GatherSxScaled msz xs zm u ff pg rn zt) c v = scattered_plan 32 (2 ^ msz) zt pg (Words (read_x_sp c rn) xs zm (2 ^ msz)) (not u) (nat_eq rn 31) v
plan_of (GatherDx msz xs zm u ff pg rn zt) c v = scattered_plan 64 (2 ^ msz) zt pg (Words (read_x_sp c rn) xs zm 1) (not u) (nat_eq rn 31) v
plan_of (GatherDxScaled msz xs zm u ff pg rn zt) c v = scattered_plan 64 (2 ^ msz) zt pg (Words (read_x_sp c rn) xs zm (2 ^ msz)) (not u) (nat_eq rn 31) v
plan_of (GatherD msz zm u ff pg rn zt) c v = scattered_plan 64 (2 ^ msz) zt pg (Offsets (read_x_sp c rn) zm 1) (not u) (nat_eq rn 31) v
plan_of (GatherDScaled msz zm u ff pg rn zt) c v = scattered_plan 64 (2 ^ msz) zt pg (Offsets (read_x_sp c rn) zm (2 ^ msz)) (not u) (nat_eq rn 31) v
plan_of (GatherSv msz imm5 u ff pg zn zt) c v = scattered_plan 32 (2 ^ msz) zt pg (Vector zn (imm5 * 2 ^ msz)) (not u) false v
plan_of (GatherDv msz imm5 u ff pg zn zt) c v = scattered_plan 64 (2 ^ msz) zt pg (Vector zn (imm5 * 2 ^ msz)) (not u) false v
plan_of (ScatterSx msz zm xs pg rn zt) c v = scattered_plan 32 (2 ^ msz) zt pg (Words (read_x_sp c rn) xs zm 1) false (nat_eq rn 31) v
plan_of (ScatterSxScaled msz zm xs pg rn zt) c v = scattered_plan 32 (2 ^ msz) zt pg (Words (read_x_sp c rn) xs zm (2 ^ msz)) false (nat_eq rn 31) v
plan_of (ScatterDx msz zm xs pg rn zt) c v = scattered_plan 64 (2 ^ msz) zt pg (Words (read_x_sp c rn) xs zm 1) false (nat_eq rn 31) v
plan_of (ScatterDxScaled msz zm xs pg rn zt) c v = scattered_plan 64 (2 ^ msz) zt pg (Words (read_x_sp c rn) xs zm (2 ^ msz)) false (nat_eq rn 31) v
plan_of (ScatterD msz zm pg rn zt) c v = scattered_plan 64 (2 ^ msz) zt pg (Offsets (read_x_sp c rn) zm 1) false (nat_eq rn 31) v
plan_of (ScatterDScaled msz zm pg rn zt) c v = scattered_plan 64 (2 ^ msz) zt pg (Offsets (read_x_sp c rn) zm (2 ^ msz)) false (nat_eq rn 31) v
plan_of (ScatterSv msz imm5 pg zn zt) c v = scattered_plan 32 (2 ^ msz) zt pg (Vector zn (imm5 * 2 ^ msz)) false false v
plan_of (ScatterDv msz imm5 pg zn zt) c v = scattered_plan 64 (2 ^ msz) zt pg (Vector zn (imm5 * 2 ^ msz)) false false v
-- the other rows are none of these
plan_of form c v = scattered_plan 64 1 0 0 (Bytes 0) false false v

-- first-faulting gathers
abbrev pub is_first_gather : SveForm → Bool
is_first_gather (GatherSx msz xs zm u ff pg rn zt) = ff
is_first_gather (GatherSxScaled msz xs zm u ff pg rn zt) = ff
is_first_gather (GatherDx msz xs zm u ff pg rn zt) = ff
is_first_gather (GatherDxScaled msz xs zm u ff pg rn zt) = ff
is_first_gather (GatherD msz zm u ff pg rn zt) = ff
is_first_gather (GatherDScaled msz zm u ff pg rn zt) = ff
is_first_gather (GatherSv msz imm5 u ff pg zn zt) = ff
is_first_gather (GatherDv msz imm5 u ff pg zn zt) = ff
is_first_gather form = false
