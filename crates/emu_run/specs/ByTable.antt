-- The instruction of a row of one table, for contracts that know which table a word is in.
use Rattle.std.specs.Prelude.{Option}
use Rattle.std.specs.Option.{option_map}
use Rattle.a64_insn.specs.declared.form.A64Form.{A64Form}
use Rattle.sve_insn.specs.declared.form.SveForm.{SveForm}
use Rattle.emu_run.specs.declared.insn.Insn.{Insn}
use Rattle.emu_run.specs.declared.insn.Insn.TheVariants.{A64, Sve}

abbrev pub a64 : Option A64Form → Option Insn
a64 form = option_map A64 form

abbrev pub sve : Option SveForm → Option Insn
sve form = option_map Sve form
