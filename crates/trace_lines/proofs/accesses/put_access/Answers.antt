use Rattle.std.proofs.Common.{◌≡◌, ℕ, List, ◌++◌, if◌then◌else◌, min, ap, ap₂, ◌∙◌}
use Rattle.std.specs.Fmt.{decimal}
use Rattle.emu_model.specs.Access.{Memory}
use Rattle.emu_run.specs.Text.{hex, space}
use Rattle.emu_report.proofs.Puts.{puts_equal}
use Rattle.trace_lines.specs.Lines.{kind_text, value_text}
use Rattle.trace_lines.proofs.Pieces.{six_pieces}
use Rattle.trace_lines.proofs.accesses.put_access.Goals as goal

pub returns-clause-bytes : goal.returns-clause-bytes
returns-clause-bytes g c =
    let a = c.args.access.now in
    let number : c.from.result ≡ a.bytes = cc in
    let most : c.min.result ≡ min 64 a.bytes = cc in
    puts_equal _ _ _ _ _
    (six_pieces _ _ _ _ _ _ _ (kind_text a.write) (hex 16 a.address) space (decimal a.bytes) space (value_text (if a.write then c.args.new.now.memory else c.args.old.now.memory) a.address (min 64 a.bytes))
    c.new-text.ensures (c.push.ensures.text ∙ ap (λ (ys : List ℕ). c.new-text.result ++ ys) (c.as_bytes.ensures.value ∙ c.kind_text.ensures.text)) c.push_hex.ensures.text c.push-2.ensures.text
    (c.push_decimal.ensures.text ∙ ap (λ (n : ℕ). c.push-2.new.self ++ decimal n) number) c.push-3.ensures.text
    (c.push_value.ensures ∙ ap₂ (λ (m : Memory) (n : ℕ). c.push-3.new.self ++ value_text m a.address n) c.memory_of-mem.ensures most))
    c.put.ensures.bytes
