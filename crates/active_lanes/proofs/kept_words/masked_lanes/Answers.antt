use Rattle.std.proofs.Common.{◌≡◌, ◌/◌, sym, ap, ◌∙◌, arith}
use Rattle.active_lanes.specs.Kept.{kept}
use Rattle.active_lanes.proofs.kept_words.masked_lanes.Goals as goal

pub returns-in-8 : goal.returns-in-8
returns-in-8 c = λ t h. c.masked.ensures t h ∙ ap (λ e. kept (e / 8) c.args.field c.args.word t) (sym c.in-8.is)

pub returns-in-16 : goal.returns-in-16
returns-in-16 c = λ t h. c.masked-in-16.ensures t h ∙ ap (λ e. kept (e / 8) c.args.field c.args.word t) (sym c.in-16.is)

pub returns-in-32 : goal.returns-in-32
returns-in-32 c = λ t h. c.masked-in-32.ensures t h ∙ ap (λ e. kept (e / 8) c.args.field c.args.word t) (sym c.in-32.is)

pub returns-in_default : goal.returns-in_default
returns-in_default c = λ t h.
    let last : c.args.e ≡ 64 = grind arith in
    c.masked-in_default.ensures t h ∙ ap (λ e. kept (e / 8) c.args.field c.args.word t) (sym last)
