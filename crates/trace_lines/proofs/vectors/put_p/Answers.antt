use Rattle.std.proofs.Common.{◌≡◌, ℕ, ◌/◌, Bool, false, List, [], ◌++◌, codes, get_or, if◌then◌else◌, sym, ap, ◌∙◌, arith}
use Rattle.std.specs.Fmt.{decimal}
use Rattle.emu_run.specs.Text.{space}
use Rattle.emu_run.specs.Registers.{bit_digits, numbered}
use Rattle.vec_regs.specs.Words.{bits_of}
use Rattle.emu_report.proofs.Puts.{puts_equal}
use Rattle.emu_report.proofs.VectorDigits.{p_digits}
use Rattle.trace_lines.specs.Lines.{is_same_p, change_text}
use Rattle.trace_lines.proofs.Pieces.{four_pieces}
use Rattle.trace_lines.proofs.vectors.put_p.Goals as goal

pub returns-clause-bytes : goal.returns-clause-bytes
returns-clause-bytes g c =
    let k = c.args.k in
    let value = get_or c.args.new.now.p k [] in
    let words = c.p_words.result.now in
    let bits = c.bits-bits.result in
    let same : bits ≡ c.args.new.now.bits = c.bits-bits.ensures.value ∙ c.length.ensures.value in
    let register : c.at-r.result ≡ k = omega arith in
    let read : value ≡ bits_of (bits / 8) words =
    ap (λ (r : ℕ). get_or c.args.new.now.p r []) (sym register) ∙ c.p_words.ensures.words ∙ ap (λ (n : ℕ). bits_of (n / 8) words) (sym same) in
    let digits = p_digits words value bits c.bits-bits.ensures.length.multiple read in
    let changed : is_same_p c.args.old.now c.args.new.now k ≡ false = ap (λ (r : ℕ). is_same_p c.args.old.now c.args.new.now r) (sym register) ∙ sym c.is_same_p.ensures ∙ c.if-is_same_p.false in
    let number : c.from.result ≡ k = cc in
    puts_equal _ _ _ _ _
    (four_pieces _ _ _ _ _ (codes " | p") (decimal k) space (bit_digits value) c.new-text.ensures c.push.ensures.text
    (c.push_decimal.ensures.text ∙ ap (λ (n : ℕ). c.push.new.self ++ decimal n) number) c.push-2.ensures.text
    (c.push_words.ensures.text ∙ ap (λ (ds : List ℕ). c.push-2.new.self ++ ds) digits)
    ∙ ap (λ (b : Bool). if b then [] else change_text (numbered (codes "p") k) (bit_digits value)) (sym changed))
    c.put.ensures.bytes
