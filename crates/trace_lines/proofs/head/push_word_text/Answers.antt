use Rattle.std.proofs.Common.{◌≡◌, ℕ, ◌++◌, codes, Option, None, sym, ap, ◌∙◌}
use Rattle.emu_run.specs.declared.insn.Insn.{Insn}
use Rattle.emu_run.specs.Step.{decode}
use Rattle.emu_run.specs.Text.{hex}
use Rattle.emu_report.proofs.Pieces.{appended_both}
use Rattle.asm_text.specs.Disassembly.{word_text}
use Rattle.trace_lines.proofs.head.push_word_text.Goals as goal

pub returns-in-None-clause-text : goal.returns-in-None-clause-text
returns-in-None-clause-text c =
    let text = c.args.text.now in
    let none : decode c.args.word ≡ None = sym c.in-None.ensures.table in
    let word : c.from.result ≡ c.args.word = cc in
    appended_both _ _ _ (codes ".word 0x") (hex 8 c.from.result) c.push-in-None.ensures.text c.push_hex.ensures.text
    ∙ ap (λ (v : ℕ). text ++ (codes ".word 0x" ++ hex 8 v)) word
    ∙ ap (λ (o : Option Insn). text ++ word_text c.args.word c.args.pc o) (sym none)
