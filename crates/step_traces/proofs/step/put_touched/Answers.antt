use Rattle.std.proofs.Common.{List, [], if◌then◌else◌, ap, ap₂, ◌∙◌}
use Rattle.emu_model.specs.declared.access.Access.{Access}
use Rattle.emu_model.specs.Access.{Memory}
use Rattle.emu_model.specs.Marks.{MarkedMemory}
use Rattle.trace_lines.specs.Lines.{access_texts}
use Rattle.step_traces.proofs.Walking.{ok_equal}
use Rattle.step_traces.proofs.step.put_touched.Goals as goal

pub returns-clause-bytes : goal.returns-clause-bytes
returns-clause-bytes g c =
    ok_equal _ _ _ _ c.put_accesses.result
    (ap (λ (xs : List Access). if c.args.told then access_texts c.mem.result.now.memory c.mem-2.result.now.memory xs else []) c.accesses.ensures
    ∙ ap₂ (λ (a b : Memory). if c.args.told then access_texts a b c.args.new.now.accesses else []) (ap (λ (m : MarkedMemory). m.memory) c.mem.ensures) (ap (λ (m : MarkedMemory). m.memory) c.mem-2.ensures))
    c.put_accesses.ensures.bytes
