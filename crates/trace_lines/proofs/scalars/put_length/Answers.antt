use Rattle.std.proofs.Common.{◌≡◌, ℕ, Bool, false, [], ◌++◌, if◌then◌else◌, nat_eq, codes, sym, ap, ◌∙◌}
use Rattle.std.proofs.lemmas.Bool.{ne_eqb}
use Rattle.std.specs.Fmt.{decimal}
use Rattle.emu_report.proofs.Puts.{puts_equal}
use Rattle.trace_lines.specs.Lines.{change_text, length_change}
use Rattle.trace_lines.proofs.Pieces.{two_pieces}
use Rattle.trace_lines.proofs.Putting.{told_text}
use Rattle.trace_lines.proofs.scalars.put_length.Goals as goal

pub returns-clause-bytes : goal.returns-clause-bytes
returns-clause-bytes g c =
    let changed : nat_eq c.args.old c.args.new ≡ false = ne_eqb _ _ c.if-old-new.false in
    let number : c.from.result ≡ c.args.new = cc in
    puts_equal _ _ _ _ _
    (two_pieces _ _ _ (codes " | vl ") (decimal c.args.new) c.new-text.ensures c.push.ensures.text (c.push_decimal.ensures.text ∙ ap (λ (n : ℕ). c.push.new.self ++ decimal n) number)
    ∙ ap (λ (b : Bool). if b then [] else change_text (codes "vl") (decimal c.args.new)) (sym changed)
    ∙ told_text c.args.told (length_change c.args.old c.args.new) c.if-not-told.false)
    c.put.ensures.bytes
