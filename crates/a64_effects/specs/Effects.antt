-- What an A64 instruction makes of the registers and the memory, by its operation. The kinds of operations are this
-- project's own; what an instruction does is from the entries of the Arm manual that the files below this one name.
use Rattle.a64_insn.specs.declared.form.A64Form.{A64Form}
use Rattle.emu_model.specs.Access.{Memory}
use Rattle.emu_model.specs.Done.{Done, quietly, went_well, went_on_with}
use Rattle.emu_model.specs.State.{Core, Vectors}
use Rattle.a64_effects.specs.LoadStore.{transferred_by, exchanged_by}
use Rattle.a64_effects.specs.Operations.{Operation, computes, flows, transfers, exchanges, copies, operation_of}

abbrev pub performed_by : Operation → Core → Vectors → Memory → Done
performed_by (computes after) c v m = went_well (after c) v m
performed_by (flows after effect) c v m = quietly (after c) v m (effect c)
performed_by (transfers row) c v m = transferred_by (row c) c v m
performed_by (exchanges row) c v m = exchanged_by (row c) c v m
performed_by (copies after) c v m = went_on_with (after c v) m

abbrev pub performed : A64Form → Core → Vectors → Memory → Done
performed form c v m = performed_by (operation_of form) c v m
