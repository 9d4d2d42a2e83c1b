use Rattle.std.proofs.Common.{◌≡◌, ℕ, ap, ap₂, ◌∙◌}
use Rattle.emu_model.specs.Access.{Memory, value}
use Rattle.emu_model.specs.Marks.{MarkedMemory}
use Rattle.emu_model.specs.State.{Core}
use Rattle.emu_report.proofs.Puts.{puts_equal}
use Rattle.trace_lines.specs.Lines.{head_text}
use Rattle.step_traces.proofs.step.put_place.Goals as goal

pub returns-clause-bytes : goal.returns-clause-bytes
returns-clause-bytes g c =
    let m = c.args.machine.now.parts in
    let pc : c.pc-pc.result ≡ m.core.pc = c.pc-pc.ensures.value ∙ ap (λ (k : Core). k.pc) c.core.ensures in
    let word : c.word_at.result ≡ value m.memory m.core.pc 4 = c.word_at.ensures ∙ ap₂ (λ (n : Memory) (a : ℕ). value n a 4) (ap (λ (n : MarkedMemory). n.memory) c.mem.ensures) pc in
    puts_equal _ _ _ _ _ (ap (λ (s : ℕ). head_text s c.pc-pc.result c.word_at.result) c.steps.ensures ∙ ap₂ (λ (a w : ℕ). head_text m.steps a w) pc word) c.put_head.ensures.bytes
