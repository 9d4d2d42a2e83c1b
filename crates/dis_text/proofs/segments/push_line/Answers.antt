use Rattle.std.proofs.Common.{◌≡◌, ℕ, ◌++◌, ap, ◌∙◌}
use Rattle.emu_run.specs.Step.{decode}
use Rattle.emu_run.specs.Text.{hex, space, newline}
use Rattle.asm_text.specs.Disassembly.{word_text}
use Rattle.dis_text.proofs.Batches.{six_appended}
use Rattle.dis_text.proofs.segments.push_line.Goals as goal

pub returns-clause-text : goal.returns-clause-text
returns-clause-text c =
    let word : c.from.result ≡ c.args.word = cc in
    six_appended c.args.text.now _ _ _ _ _ _ (hex 16 c.args.pc) space (hex 8 c.args.word) space (word_text c.args.word c.args.pc (decode c.args.word)) newline
    c.push_hex.ensures.text c.push.ensures.text (c.push_hex-2.ensures.text ∙ ap (λ (v : ℕ). c.push.new.self ++ hex 8 v) word)
    c.push-2.ensures.text c.push_word_text.ensures.text c.push-3.ensures.text
