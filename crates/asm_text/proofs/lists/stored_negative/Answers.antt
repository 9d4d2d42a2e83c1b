use Rattle.std.proofs.Common.{◌-◌, arith, refl}
use Rattle.asm_text.proofs.Widths.{negative, shifted}
use Rattle.asm_text.proofs.lists.stored_negative.Goals as goal

pub returns-then-n-half : goal.returns-then-n-half
returns-then-n-half c =
    negative c.args.bits (c.args.bits - 1) c.args.n _ (omega (arith, c.requires.some)) (shifted (c.args.bits - 1) (omega (arith, c.requires.few))) refl c.if-n-half.true
