use Rattle.std.proofs.Common.{◌≡◌, Bool, false, [], if◌then◌else◌, nat_eq, codes, sym, ap, ◌∙◌}
use Rattle.std.proofs.lemmas.Bool.{ne_eqb}
use Rattle.emu_run.specs.Text.{hex, space}
use Rattle.emu_report.proofs.Puts.{puts_equal}
use Rattle.trace_lines.specs.Lines.{change_text, word_change}
use Rattle.trace_lines.proofs.Pieces.{four_pieces}
use Rattle.trace_lines.proofs.Putting.{told_text}
use Rattle.trace_lines.proofs.scalars.put_word.Goals as goal

pub returns-clause-bytes : goal.returns-clause-bytes
returns-clause-bytes g c =
    let name = c.args.name.now in
    let changed : nat_eq c.args.old c.args.new ≡ false = ne_eqb _ _ c.if-old-new.false in
    puts_equal _ _ _ _ _
    (four_pieces _ _ _ _ _ (codes " | ") name space (hex 16 c.args.new) c.new-text.ensures c.push.ensures.text c.push-2.ensures.text c.push-3.ensures.text c.push_hex.ensures.text
    ∙ ap (λ (b : Bool). if b then [] else change_text name (hex 16 c.args.new)) (sym changed)
    ∙ told_text c.args.told (word_change name c.args.old c.args.new) c.if-not-told.false)
    c.put.ensures.bytes
