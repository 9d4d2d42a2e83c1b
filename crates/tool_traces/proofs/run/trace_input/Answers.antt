use Rattle.std.proofs.Common.{map, string_bytes, ap}
use Rattle.elf_image.specs.Images.{seen_image}
use Rattle.emu_machine.specs.Machines.{MachineState}
use Rattle.emu_system.specs.Start.{opening}
use Rattle.tool_refusals.proofs.Endings.{done_leaves, write_leaves}
use Rattle.tool_traces.proofs.Told.{opened_told}
use Rattle.tool_traces.proofs.run.trace_input.Goals as goal

pub returns-in-Ok-trace_machine-clause-done : goal.returns-in-Ok-trace_machine-clause-done
returns-in-Ok-trace_machine-clause-done g c = λ _.
    let p = c.args.program.now in
    opened_told c.args.asked.now.shown c.args.asked.now.window c.in-Ok.machine.parts (opening c.args.bytes.now (seen_image c.args.image.now) (map string_bytes c.args.args.now) p.length p.pages)
    c.args.input.now p.budget (g.O.Sink.held c.args.output.now) (g.O.Sink.held c.trace_machine.new.output) (ap (λ (m : MachineState). m.parts) c.in-Ok.ensures) (c.in-Ok-trace_machine.ensures.bytes)

pub returns-in-Ok-trace_machine-clause-leaves : goal.returns-in-Ok-trace_machine-clause-leaves
returns-in-Ok-trace_machine-clause-leaves g c = done_leaves tt

pub returns-clause-leaves : goal.returns-clause-leaves
returns-clause-leaves g c = write_leaves c.in-Err.ensures.cause.failed tt
