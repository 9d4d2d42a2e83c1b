use Rattle.std.proofs.Common.{ℕ, ◌++◌, codes, ap, ◌∙◌}
use Rattle.std.specs.Fmt.{decimal}
use Rattle.emu_run.specs.Text.{newline}
use Rattle.emu_report.proofs.Lanes.{five_pieces}
use Rattle.emu_report.proofs.Puts.{puts_equal}
use Rattle.emu_report.proofs.debugger.put_length.Goals as goal

pub returns-clause-bytes : goal.returns-clause-bytes
returns-clause-bytes g c =
    let v = c.args.vec.now in
    puts_equal _ _ _ _ _
    (five_pieces _ _ _ _ _ _ (codes "vl ") (decimal v.bits) (codes " of ") (decimal v.most) newline
    c.new-text.ensures c.push.ensures.text
    (c.push_decimal.ensures.text ∙ ap (λ (n : ℕ). c.push.new.self ++ decimal n) (c.from.ensures ∙ c.bits.ensures.value ∙ c.length.ensures.value))
    c.push-2.ensures.text
    (c.push_decimal-2.ensures.text ∙ ap (λ (n : ℕ). c.push-2.new.self ++ decimal n) (c.from-2.ensures ∙ c.bits-2.ensures.value ∙ c.most.ensures.value))
    c.push-3.ensures.text)
    c.put.ensures.bytes
