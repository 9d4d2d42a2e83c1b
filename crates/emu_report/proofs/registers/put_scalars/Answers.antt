use Rattle.std.proofs.Common.{◌≡◌, ℕ, List, ◌++◌, codes, get_or, ap, ◌∙◌}
use Rattle.std.specs.Fmt.{decimal}
use Rattle.emu_bits.specs.declared.flags.Flags.{Flags}
use Rattle.emu_run.specs.Registers.{flag_digits, lines_of, numbered, register_line, scalar_lines, word_line}
use Rattle.emu_report.proofs.Core.{sp_read}
use Rattle.emu_report.proofs.Lines.{pieces_appended}
use Rattle.emu_report.proofs.Puts.{puts_equal}
use Rattle.emu_report.proofs.registers.put_scalars.Goals as goal

pub returns-clause-bytes : goal.returns-clause-bytes
returns-clause-bytes g c =
    let core = c.args.core.now in
    let word = λ (text name : List ℕ) (v : ℕ). text ++ word_line name v in
    let e : c.push_length_line.new.text ≡ scalar_lines core c.args.vec.now.bits =
    pieces_appended _ _ _ _ _ _ _
    (lines_of 31 (λ k. word_line (numbered (codes "x") k) (get_or core.x k 0)))
    (word_line (codes "sp") core.sp)
    (word_line (codes "pc") core.pc)
    (register_line (codes "nzcv") (flag_digits core.flags))
    (word_line (codes "tpidr") core.tpidr)
    (register_line (codes "vl") (decimal c.args.vec.now.bits))
    c.new-text.ensures
    c.push_x_lines.ensures.text
    (c.push_word_line.ensures.text ∙ ap (word c.push_x_lines.new.text (codes "sp")) (sp_read core c.at.result c.x_sp.result c.at.ensures c.x_sp.ensures))
    (c.push_word_line-2.ensures.text ∙ ap (word c.push_word_line.new.text (codes "pc")) c.pc.ensures.value)
    (c.push_flags_line.ensures.text ∙ ap (λ (f : Flags). c.push_word_line-2.new.text ++ register_line (codes "nzcv") (flag_digits f)) c.flags.ensures)
    (c.push_word_line-3.ensures.text ∙ ap (word c.push_flags_line.new.text (codes "tpidr")) c.tpidr.ensures)
    (c.push_length_line.ensures ∙ ap (λ (n : ℕ). c.push_word_line-3.new.text ++ register_line (codes "vl") (decimal n)) (c.bits.ensures.value ∙ c.length.ensures.value))
    in
    puts_equal _ _ _ _ _ e c.put.ensures.bytes
