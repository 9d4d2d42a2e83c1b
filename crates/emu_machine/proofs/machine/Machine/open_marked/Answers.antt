use Rattle.std.proofs.Common.{length, ap, sym, subst, ◌∙◌, map, string_bytes}
use Rattle.emu_model.specs.Marks.{MarkedMemory}
use Rattle.emu_model.specs.State.{Vectors, zero_vectors}
use Rattle.emu_system.specs.Start.{opening}
use Rattle.elf_image.specs.Images.{seen_image}
use Rattle.elf_image.specs.Loadable.{IsLoadable}
use Rattle.emu_machine.specs.Machines.{MachineState}
use Rattle.emu_machine.proofs.machine.Machine.open_marked.Goals as goal

pub opened-requires-clause-loadable : goal.opened-requires-clause-loadable
opened-requires-clause-loadable c = subst (λ n. IsLoadable c.args.bytes.now n (seen_image c.args.image.now)) (sym (ap (λ (m : MarkedMemory). m.memory.limit) c.in_ok-memory.ensures)) c.requires.loadable

pub opened-requires-clause-empty : goal.opened-requires-clause-empty
opened-requires-clause-empty c = ap (λ (m : MarkedMemory). m.memory.pages) c.in_ok-memory.ensures

pub opened-requires-clause-core : goal.opened-requires-clause-core
opened-requires-clause-core c = c.in_ok-registers.ensures.core

pub opened-requires-clause-vectors : goal.opened-requires-clause-vectors
opened-requires-clause-vectors c = let e = c.in_ok-registers.ensures.vectors in e ∙ ap zero_vectors (sym (ap (λ (v : Vectors). v.most) e))

pub returns-clause-parts : goal.returns-clause-parts
returns-clause-parts c =
    let made = opening c.args.bytes.now (seen_image c.args.image.now) (map string_bytes c.args.args.now) in
    ap (λ (s : MachineState). s.parts) c.opened.ensures
    ∙ ap (λ (v : Vectors). made v.most c.in_ok-memory.memory.memory.limit) c.in_ok-registers.ensures.vectors
    ∙ ap (λ (m : MarkedMemory). made c.args.length m.memory.limit) c.in_ok-memory.ensures

pub returns-clause-marks : goal.returns-clause-marks
returns-clause-marks c = ap (λ (s : MachineState). s.marks) c.opened.ensures ∙ ap (λ (m : MarkedMemory). m.marks) c.in_ok-memory.ensures

pub returns-clause-places : goal.returns-clause-places
returns-clause-places c = ap (λ (s : MachineState). length s.saved) c.opened.ensures ∙ c.in_ok-saved.ensures

pub returns-clause-accesses : goal.returns-clause-accesses
returns-clause-accesses c = ap (λ (s : MachineState). s.accesses) c.opened.ensures

pub returns-clause-failed : goal.returns-clause-failed
returns-clause-failed c = ap (λ (s : MachineState). s.failed) c.opened.ensures
