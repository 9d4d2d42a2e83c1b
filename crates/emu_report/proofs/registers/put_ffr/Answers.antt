use Rattle.std.proofs.Common.{◌≡◌, ℕ, ◌/◌, List, ◌++◌, codes, sym, ap, ◌∙◌}
use Rattle.emu_run.specs.Text.{space, newline}
use Rattle.emu_run.specs.Registers.{bit_digits, register_line}
use Rattle.vec_regs.specs.Words.{bits_of}
use Rattle.emu_report.proofs.Lines.{line_appended}
use Rattle.emu_report.proofs.Puts.{puts_equal}
use Rattle.emu_report.proofs.VectorDigits.{p_digits}
use Rattle.emu_report.proofs.registers.put_ffr.Goals as goal

pub returns-clause-bytes : goal.returns-clause-bytes
returns-clause-bytes g c =
    let ffr = c.args.vec.now.ffr in
    let words = c.ffr_words.result.now in
    let bits = c.bits-bits.result in
    let same : bits ≡ c.args.vec.now.bits = c.bits-bits.ensures.value ∙ c.length.ensures.value in
    let read : ffr ≡ bits_of (bits / 8) words = c.ffr_words.ensures.words ∙ ap (λ (n : ℕ). bits_of (n / 8) words) (sym same) in
    let digits = p_digits words ffr bits c.bits-bits.ensures.length.multiple read in
    let line = line_appended _ _ _ (codes "ffr") (bit_digits ffr) c.push.ensures.text (c.push_value.ensures ∙ ap (λ (ds : List ℕ). c.push.new.self ++ (space ++ ds ++ newline)) digits) in
    puts_equal _ _ _ _ _ (line ∙ ap (λ (xs : List ℕ). xs ++ register_line (codes "ffr") (bit_digits ffr)) c.new-text.ensures) c.put.ensures.bytes
