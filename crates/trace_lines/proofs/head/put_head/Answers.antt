use Rattle.std.proofs.Common.{◌≡◌, ℕ, ◌++◌, ap, ◌∙◌}
use Rattle.std.specs.Fmt.{decimal}
use Rattle.asm_text.specs.Disassembly.{word_text}
use Rattle.emu_report.proofs.Puts.{puts_equal}
use Rattle.emu_run.specs.Step.{decode}
use Rattle.emu_run.specs.Text.{hex, space}
use Rattle.trace_lines.proofs.Pieces.{seven_pieces}
use Rattle.trace_lines.proofs.head.put_head.Goals as goal

pub returns-clause-bytes : goal.returns-clause-bytes
returns-clause-bytes g c =
    let number : c.from.result ≡ c.args.word = cc in
    puts_equal _ _ _ _ _
    (seven_pieces _ _ _ _ _ _ _ _ (decimal c.args.steps) space (hex 16 c.args.pc) space (hex 8 c.args.word) space (word_text c.args.word c.args.pc (decode c.args.word))
    c.new-text.ensures c.push_decimal.ensures.text c.push.ensures.text c.push_hex.ensures.text c.push-2.ensures.text
    (c.push_hex-2.ensures.text ∙ ap (λ (v : ℕ). c.push-2.new.self ++ hex 8 v) number) c.push-3.ensures.text c.push_word_text.ensures.text)
    c.put.ensures.bytes
