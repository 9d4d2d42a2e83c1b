use Rattle.std.proofs.Common.{ℕ, ◌+◌, ◌*◌, [], ◌++◌, ap, ◌∙◌, arith}
use Rattle.emu_report.proofs.Lines.{lines_appended}
use Rattle.asm_text.specs.Disassembly.{word_line, skipped, line_at}
use Rattle.dis_text.proofs.segments.put_some.Goals as goal

pub words-preserved : goal.words-preserved
words-preserved g c =
    let file = c.args.file.now in
    let s = c.args.segment.now in
    let text = c.words.text in
    let place : ℕ = 4 * (c.args.first + c.words.k) in
    record {
      text = lines_appended [] _ _ (λ (k : ℕ). line_at file s (skipped s.address + 4 * (c.args.first + k))) c.words.k c.words.invariant.text
          (c.push_line.ensures.text
          ∙ ap (λ (w : ℕ). text ++ word_line (s.address + (c.skipped-start.result + place)) w) c.word_at.ensures
          ∙ ap (λ (start : ℕ). text ++ line_at file s (start + place)) c.skipped-start.ensures);
      short = omega (arith, c.words.invariant.short, c.push_line.ensures.len);
    }
