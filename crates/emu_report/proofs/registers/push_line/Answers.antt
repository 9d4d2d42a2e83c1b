use Rattle.std.proofs.Common.{◌≡◌, ℕ, ◌/◌, List, [], ◌++◌, codes, get_or, sym, ap, ◌∙◌, arith}
use Rattle.emu_run.specs.Text.{space, newline}
use Rattle.emu_run.specs.Registers.{numbered, byte_digits, bit_digits}
use Rattle.vec_regs.specs.Words.{bytes_of, bits_of}
use Rattle.emu_report.specs.declared.registers.Kind.{Kind}
use Rattle.emu_report.specs.VectorLines.{count_of, line_of}
use Rattle.emu_report.proofs.Lines.{line_appended}
use Rattle.emu_report.proofs.VectorDigits.{z_digits, p_digits}
use Rattle.emu_report.proofs.registers.push_line.Goals as goal

pub returns-in-Z : goal.returns-in-Z
returns-in-Z c =
    let z = get_or c.args.vec.now.z c.args.k [] in
    let words = c.z_words.result.now in
    let bits = c.bits-bits.result in
    let same : bits ≡ c.args.vec.now.bits = c.bits-bits.ensures.value ∙ c.length.ensures.value in
    let count : count_of c.args.kind ≡ 32 = ap count_of c.in-Z.is in
    let register : c.at.result ≡ c.args.k = omega arith in
    let read : z ≡ bytes_of (bits / 8) words =
    ap (λ (r : ℕ). get_or c.args.vec.now.z r []) (sym register) ∙ c.z_words.ensures.words ∙ ap (λ (n : ℕ). bytes_of (n / 8) words) (sym same) in
    let digits = z_digits words z bits c.bits-bits.ensures.length.multiple read in
    line_appended _ _ _ (numbered (codes "z") c.args.k) (byte_digits z) c.push_name.ensures.text (c.push_value.ensures ∙ ap (λ (ds : List ℕ). c.push_name.new.text ++ (space ++ ds ++ newline)) digits)
    ∙ ap (λ (kind : Kind). c.args.text.now ++ line_of c.args.vec.now kind c.args.k) (sym c.in-Z.is)

pub returns-in-P : goal.returns-in-P
returns-in-P c =
    let p = get_or c.args.vec.now.p c.args.k [] in
    let words = c.p_words.result.now in
    let bits = c.bits-bits.result in
    let same : bits ≡ c.args.vec.now.bits = c.bits-bits.ensures.value ∙ c.length.ensures.value in
    let count : count_of c.args.kind ≡ 16 = ap count_of c.in-P.is in
    let register : c.at-in-P.result ≡ c.args.k = omega arith in
    let read : p ≡ bits_of (bits / 8) words =
    ap (λ (r : ℕ). get_or c.args.vec.now.p r []) (sym register) ∙ c.p_words.ensures.words ∙ ap (λ (n : ℕ). bits_of (n / 8) words) (sym same) in
    let digits = p_digits words p bits c.bits-bits.ensures.length.multiple read in
    line_appended _ _ _ (numbered (codes "p") c.args.k) (bit_digits p) c.push_name-in-P.ensures.text (c.push_value-in-P.ensures ∙ ap (λ (ds : List ℕ). c.push_name-in-P.new.text ++ (space ++ ds ++ newline)) digits)
    ∙ ap (λ (kind : Kind). c.args.text.now ++ line_of c.args.vec.now kind c.args.k) (sym c.in-P.is)
