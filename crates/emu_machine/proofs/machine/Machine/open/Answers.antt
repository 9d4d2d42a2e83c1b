use Rattle.std.proofs.Common.{ap, sym, subst, ◌∙◌}
use Rattle.emu_model.specs.Marks.{MarkedMemory}
use Rattle.emu_model.specs.State.{Vectors, zero_vectors}
use Rattle.elf_image.specs.Images.{seen_image}
use Rattle.elf_image.specs.Loadable.{IsLoadable}
use Rattle.emu_machine.proofs.machine.Machine.open.Goals as goal

pub opened-requires-clause-loadable : goal.opened-requires-clause-loadable
opened-requires-clause-loadable c = subst (λ n. IsLoadable c.args.bytes.now n (seen_image c.args.image.now)) (sym (ap (λ (m : MarkedMemory). m.memory.limit) c.in_ok-memory.ensures)) c.requires.loadable

pub opened-requires-clause-empty : goal.opened-requires-clause-empty
opened-requires-clause-empty c = ap (λ (m : MarkedMemory). m.memory.pages) c.in_ok-memory.ensures

pub opened-requires-clause-core : goal.opened-requires-clause-core
opened-requires-clause-core c = c.in_ok-registers.ensures.core

pub opened-requires-clause-vectors : goal.opened-requires-clause-vectors
opened-requires-clause-vectors c = let e = c.in_ok-registers.ensures.vectors in e ∙ ap zero_vectors (sym (ap (λ (v : Vectors). v.most) e))
