use Rattle.std.proofs.Common.{◌≡◌, ℕ, ◌+◌, List, drop, length, ap, subst, arith}
use Rattle.std.specs.List.{prefix_len}
use Rattle.asm_image.proofs.Newlines.{line_at}
use Rattle.asm_image.specs.TextLines.{in_line}
use Rattle.asm_image.proofs.text_lines.line_end.Goals as goal

pub returns : goal.returns
returns c =
    let v = c.as_bytes.ensures.value in
    record {
      line = line_at c.args.text.now c.args.at c.newline_from.result c.utf8.text c.requires.within
          (subst (λ (xs : List ℕ). c.newline_from.result ≡ c.args.at + prefix_len in_line (drop c.args.at xs)) v c.newline_from.ensures.end)
          (omega (arith, ap length v, c.newline_from.ensures.within));
    }
