use Rattle.std.proofs.Common.{◌/◌, ap, sym, ◌∙◌, arith}
use Rattle.emu_model.specs.declared.program_break.Break.{Break}
use Rattle.emu_model.specs.Access.{page_size}
use Rattle.emu_model.specs.Marks.{MarkedMemory}
use Rattle.emu_model.specs.Pages.{free_run}
use Rattle.emu_system.specs.SystemCall.{highest}
use Rattle.linux_calls.proofs.Mapped.{high, low, refused}
use Rattle.linux_calls.proofs.memory.map_highest.Goals as goal

abbrev no_break : Break
no_break = record { start = 0; now = 0 }

pub map-requires-clause-begins : goal.map-requires-clause-begins
map-requires-clause-begins c = low c.args.mem.now.memory c.args.count c.in-Some.first c.args.rights no_break (ap (λ (m : MarkedMemory). free_run m.memory.pages c.args.count (highest / page_size)) (sym c.pages.ensures) ∙ sym c.free_run.ensures ∙ c.in-Some.is)

pub map-requires-clause-ends : goal.map-requires-clause-ends
map-requires-clause-ends c = high c.args.mem.now.memory c.args.count c.in-Some.first c.args.rights no_break (ap (λ (m : MarkedMemory). free_run m.memory.pages c.args.count (highest / page_size)) (sym c.pages.ensures) ∙ sym c.free_run.ensures ∙ c.in-Some.is)

pub overflow_mul-result : goal.overflow_mul-result
overflow_mul-result c =
    let most = high c.args.mem.now.memory c.args.count c.in-Some.first c.args.rights no_break (ap (λ (m : MarkedMemory). free_run m.memory.pages c.args.count (highest / page_size)) (sym c.pages.ensures) ∙ sym c.free_run.ensures ∙ c.in-Some.is) in
    record { fits = omega (arith, most) }

pub returns-in-Err-clause-done : goal.returns-in-Err-clause-done
returns-in-Err-clause-done c brk =
    refused c.args.mem.now.memory c.args.count c.in-Some.first c.args.rights brk (ap (λ (m : MarkedMemory). free_run m.memory.pages c.args.count (highest / page_size)) (sym c.pages.ensures) ∙ sym c.free_run.ensures ∙ c.in-Some.is)
    _ _ _ _ c.pages_mut.result.now.memory _ (ap (λ (m : MarkedMemory). m.memory) c.pages_mut.ensures.now) c.in-Err.ensures.granted (ap (λ (m : MarkedMemory). m.memory) c.in-Err.ensures.unchanged)
