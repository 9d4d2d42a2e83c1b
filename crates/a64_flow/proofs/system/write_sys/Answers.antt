use Rattle.std.proofs.Common.{◌≡◌, ◌/◌, ◌%◌, ◌^◌, sym, ap, ◌∙◌, arith}
use Rattle.emu_bits.specs.Flags.{flags_of_number}
use Rattle.emu_bits.specs.declared.flags.Flags.{Flags}
use Rattle.emu_model.specs.State.{Core, read_x}
use Rattle.a64_insn.specs.declared.ops.WriteSysOp.{WriteSysOp}
use Rattle.a64_effects.specs.Flow.{with_system_value}
use Rattle.a64_flow.proofs.system.write_sys.Goals as goal

-- the number of the flags is the field that is taken from the register
pub returns-in-Nzcv-clause-registers : goal.returns-in-Nzcv-clause-registers
returns-in-Nzcv-clause-registers c =
    let core : Core = c.args.core.now in
    let field : c.at.result ≡ c.x-v.result / 2 ^ 28 % 16 = omega (arith, c.at.ensures) in
    c.set_flags.ensures
    ∙ ap (λ (f : Flags). record core { flags = f }) (c.of_number.ensures ∙ ap flags_of_number field ∙ ap (λ v. flags_of_number (v / 2 ^ 28 % 16)) c.x-v.ensures)
    ∙ ap (λ (op : WriteSysOp). with_system_value op (read_x core c.args.rt) core) (sym c.in-Nzcv.is)
