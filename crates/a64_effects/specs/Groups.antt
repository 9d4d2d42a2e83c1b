-- The group of each A64 row, and what the rows of a group do.
use Rattle.std.specs.Prelude.{Bool, true, false, if◌then◌else◌}
use Rattle.a64_insn.specs.declared.form.A64Form.{A64Form}
use Rattle.emu_model.specs.Access.{Memory}
use Rattle.emu_model.specs.Done.{Done, Registers, leaves, went_well}
use Rattle.emu_model.specs.State.{Core, Vectors}
use Rattle.a64_effects.specs.declared.groups.Group.{Group}
use Rattle.a64_effects.specs.declared.groups.Group.TheVariants.{Data, Flow, Accesses, BitMoves}
use Rattle.a64_effects.specs.Effects.{performed}
use Rattle.a64_effects.specs.Operations.{Operation, computes, flows, transfers, exchanges, copies, operation_of}

abbrev pub group : Operation → Group
group (computes after) = Data
group (flows after effect) = Flow
group (transfers row) = Accesses
group (exchanges row) = Accesses
group (copies after) = BitMoves

abbrev pub group_of : A64Form → Group
group_of form = group (operation_of form)

-- whether two groups are the same
abbrev pub same_group : Group → Group → Bool
same_group Data Data = true
same_group Flow Flow = true
same_group Accesses Accesses = true
same_group BitMoves BitMoves = true
same_group wanted other = false

-- the rows that work on the scalar registers and the flags alone
abbrev pub is_data : A64Form → Bool
is_data form = same_group Data (group_of form)

-- the branches, exceptions, hints, barriers and moves of system registers
abbrev pub is_flow : A64Form → Bool
is_flow form = same_group Flow (group_of form)

-- the loads and stores
abbrev pub is_load_store : A64Form → Bool
is_load_store form = same_group Accesses (group_of form)

-- the copies of bits between general and vector registers, and of immediates to vector registers
abbrev pub is_bit_move : A64Form → Bool
is_bit_move form = same_group BitMoves (group_of form)

-- ---- what they do, each with nothing of the rows of another group

abbrev pub computed : Operation → Core → Core
computed (computes after) c = after c
computed (flows after effect) c = c
computed (transfers row) c = c
computed (exchanges row) c = c
computed (copies after) c = c

abbrev pub copied_by : Operation → Core → Vectors → Registers
copied_by (computes after) c v = leaves c v
copied_by (flows after effect) c v = leaves c v
copied_by (transfers row) c v = leaves c v
copied_by (exchanges row) c v = leaves c v
copied_by (copies after) c v = after c v

-- the registers after a data row, which goes on behind it
abbrev pub after_data : A64Form → Core → Core
after_data form c = computed (operation_of form) c

abbrev pub flow : A64Form → Core → Vectors → Memory → Done
flow form c v m = if is_flow form then performed form c v m else went_well c v m

abbrev pub load_store : A64Form → Core → Vectors → Memory → Done
load_store form c v m = if is_load_store form then performed form c v m else went_well c v m

-- the registers after a bit move, which goes on behind it
abbrev pub bit_move : A64Form → Core → Vectors → Registers
bit_move form c v = copied_by (operation_of form) c v
