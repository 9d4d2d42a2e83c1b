use Rattle.std.proofs.Common.{map, string_bytes, ap, ◌∙◌}
use Rattle.elf_image.specs.Images.{seen_image}
use Rattle.emu_machine.specs.Machines.{MachineState}
use Rattle.emu_model.specs.State.{Core}
use Rattle.tool_counts.specs.Counted.{sweep_of}
use Rattle.tool_counts.proofs.Runs.{counted_at}
use Rattle.tool_counts.proofs.counted.count_at_length.Goals as goal

pub returns : goal.returns
returns c =
    let s = sweep_of c.args.bytes.now (seen_image c.args.image.now) (map string_bytes c.args.args.now) c.args.pages c.args.budget c.args.input.now in
    counted_at s c.args.length c.in-Ok.machine.parts c.run_counted.new.machine.parts c.run_counted.new.counts c.ending.result c.pc.result c.steps.result
    (ap (λ (m : MachineState). m.parts) c.in-Ok.ensures) c.in_ok-run_counted.ensures.parts c.in_ok-run_counted.ensures.counts
    c.ending.ensures (c.pc.ensures.value ∙ ap (λ (k : Core). k.pc) c.core.ensures) c.steps.ensures
