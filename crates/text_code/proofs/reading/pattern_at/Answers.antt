use Rattle.std.proofs.Common.{◌<◌, ℕ, [], length, get_or, sym, ap, ◌∙◌, subst}
use Rattle.text_code.specs.declared.patterns.Pattern.{Pattern}
use Rattle.text_code.specs.Tables.{pattern_of}
use Rattle.text_code.proofs.Spots.{place_there, place_is}
use Rattle.text_code.proofs.reading.pattern_at.Goals as goal

nothing : Pattern
nothing = record { name = 0; base = 0; slots = [] }

pub bounds-line-from : goal.bounds-line-from
bounds-line-from g c =
    subst (λ (k : ℕ). k < length c.line.result.now) (sym c.from.ensures) (place_there (g.T.Table.lines c.args.table.now) c.args.spot c.line.result.now c.line.ensures c.requires)

pub returns : goal.returns
unfolding nothing
returns g c =
    ap (λ (k : ℕ). pattern_of (get_or c.line.result.now k nothing)) c.from.ensures
    ∙ place_is (g.T.Table.lines c.args.table.now) c.args.spot c.line.result.now c.line.ensures c.requires nothing
