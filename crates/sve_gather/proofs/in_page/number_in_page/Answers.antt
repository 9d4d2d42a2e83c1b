use Rattle.std.proofs.Common.{◌≤◌, ◌+◌, ◌%◌, ◌∙◌, arith}
use Rattle.emu_model.specs.Access.{page_size}
use Rattle.sve_gather.proofs.PageElements.{may_read, number_is}
use Rattle.sve_gather.proofs.in_page.number_in_page.Goals as goal

pub returns-clause-value : goal.returns-clause-value
returns-clause-value c = λ m is.
    let fits : c.args.at % page_size + c.args.n ≤ page_size = omega (arith, c.if-place-from-gt-PAGE_SIZE.false, c.from.ensures) in (
      may_read m c.args.page c.args.bytes.now is c.args.at c.args.n c.ranges.at.fits c.if-at-page.false fits,
      c.number-v.ensures ∙ number_is m c.args.page c.args.bytes.now is c.args.at c.args.n c.ranges.at.fits c.if-at-page.false fits c.requires.whole,
    )
