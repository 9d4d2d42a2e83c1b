use Rattle.std.proofs.Common.{◌≡◌, ℕ, Bool, false, [], ◌++◌, codes, get_or, if◌then◌else◌, nat_eq, sym, ap, ap₂, ◌∙◌}
use Rattle.std.proofs.lemmas.Bool.{ne_eqb}
use Rattle.std.specs.Fmt.{decimal}
use Rattle.emu_run.specs.Registers.{numbered}
use Rattle.emu_run.specs.Text.{hex, space}
use Rattle.emu_report.proofs.Core.{x_read}
use Rattle.emu_report.proofs.Puts.{puts_equal}
use Rattle.trace_lines.specs.Lines.{change_text}
use Rattle.trace_lines.proofs.Pieces.{four_pieces}
use Rattle.trace_lines.proofs.scalars.put_x.Goals as goal

pub returns-clause-bytes : goal.returns-clause-bytes
returns-clause-bytes g c =
    let k = c.args.k in
    let small = c.requires in
    let new = x_read c.args.new.now k c.at.result c.x-value.result small c.at.ensures c.x-value.ensures in
    let old = x_read c.args.old.now k c.at-2.result c.x.result small c.at-2.ensures c.x.ensures in
    let changed : nat_eq (get_or c.args.old.now.x k 0) (get_or c.args.new.now.x k 0) ≡ false = ap₂ (λ (i j : ℕ). nat_eq i j) (sym old) (sym new) ∙ ne_eqb _ _ c.if-x-value.false in
    let number : c.from.result ≡ k = cc in
    puts_equal _ _ _ _ _
    (four_pieces _ _ _ _ _ (codes " | x") (decimal k) space (hex 16 (get_or c.args.new.now.x k 0)) c.new-text.ensures c.push.ensures.text
    (c.push_decimal.ensures.text ∙ ap (λ (n : ℕ). c.push.new.self ++ decimal n) number) c.push-2.ensures.text
    (c.push_hex.ensures.text ∙ ap (λ (v : ℕ). c.push-2.new.self ++ hex 16 v) new)
    ∙ ap (λ (b : Bool). if b then [] else change_text (numbered (codes "x") k) (hex 16 (get_or c.args.new.now.x k 0))) (sym changed))
    c.put.ensures.bytes
