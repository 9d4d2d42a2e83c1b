use Rattle.std.proofs.Common.{◌≡◌, ℕ, ◌/◌, Bool, false, List, [], ◌++◌, codes, if◌then◌else◌, sym, ap, ◌∙◌}
use Rattle.emu_run.specs.Registers.{bit_digits}
use Rattle.vec_regs.specs.Words.{bits_of}
use Rattle.emu_report.proofs.Puts.{puts_equal}
use Rattle.emu_report.proofs.VectorDigits.{p_digits}
use Rattle.trace_lines.specs.Lines.{ffr_change, is_same_ffr, change_text}
use Rattle.trace_lines.proofs.Pieces.{two_pieces}
use Rattle.trace_lines.proofs.Putting.{told_text}
use Rattle.trace_lines.proofs.vectors.put_ffr.Goals as goal

pub returns-clause-bytes : goal.returns-clause-bytes
returns-clause-bytes g c =
    let ffr = c.args.new.now.ffr in
    let words = c.ffr_words.result.now in
    let bits = c.bits-bits.result in
    let same : bits ≡ c.args.new.now.bits = c.bits-bits.ensures.value ∙ c.length.ensures.value in
    let read : ffr ≡ bits_of (bits / 8) words = c.ffr_words.ensures.words ∙ ap (λ (n : ℕ). bits_of (n / 8) words) (sym same) in
    let digits = p_digits words ffr bits c.bits-bits.ensures.length.multiple read in
    let changed : is_same_ffr c.args.old.now c.args.new.now ≡ false = sym c.is_same_ffr.ensures ∙ c.if-is_same_ffr.false in
    puts_equal _ _ _ _ _
    (two_pieces _ _ _ (codes " | ffr ") (bit_digits ffr) c.new-text.ensures c.push.ensures.text (c.push_words.ensures.text ∙ ap (λ (ds : List ℕ). c.push.new.self ++ ds) digits)
    ∙ ap (λ (b : Bool). if b then [] else change_text (codes "ffr") (bit_digits ffr)) (sym changed)
    ∙ told_text c.args.told (ffr_change c.args.old.now c.args.new.now) c.if-not-told.false)
    c.put.ensures.bytes
