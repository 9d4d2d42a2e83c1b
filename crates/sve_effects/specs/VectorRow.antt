-- What an SVE row is, and what a row of each kind does. The kinds of rows are this project's own; what an
-- instruction does is from the entries of the Arm manual that the files below this one name.
use Rattle.std.specs.Prelude.{true, false}
use Rattle.emu_model.specs.Access.{Memory}
use Rattle.emu_model.specs.Done.{Done, Registers, leaves, went_on_with}
use Rattle.emu_model.specs.State.{Core, Vectors}
use Rattle.sve_effects.specs.FirstFault.{first_fault_row}
use Rattle.sve_effects.specs.VectorElements.{MemoryRow, Way, loads, stores, first_faults, non_faults, elements_of, row_layout}
use Rattle.sve_effects.specs.VectorLoadStore.{load_row, store_row}

-- what an instruction is: what the vector registers, or all registers, become; or its elements in memory
pub data VectorRow : Type 0 where
  by_lanes : (Core → Vectors → Vectors) → VectorRow
  by_registers : (Core → Vectors → Registers) → VectorRow
  memory : MemoryRow → VectorRow

-- ---- what a row does

abbrev pub done_by_way : Way → MemoryRow → Core → Vectors → Memory → Done
done_by_way loads r c v m = load_row r c v m
done_by_way stores r c v m = store_row r c v m
done_by_way first_faults r c v m = first_fault_row false r (elements_of (row_layout r c v)) c v m
done_by_way non_faults r c v m = first_fault_row true r (elements_of (row_layout r c v)) c v m

-- an instruction of a row that reaches no memory goes on behind it
abbrev pub performed_by : VectorRow → Core → Vectors → Memory → Done
performed_by (by_lanes f) c v m = went_on_with (leaves c (f c v)) m
performed_by (by_registers f) c v m = went_on_with (f c v) m
performed_by (memory r) c v m = done_by_way r.way r c v m
