use Rattle.std.proofs.Common.{◌∙◌, ap, map, Bool}
use Rattle.debug_words.specs.Commands.{info_by, is_points, is_registers, is_symbol}
use Rattle.debug_words.proofs.readers.info_named.Goals as goal

pub returns : goal.returns
returns c =
    let ss = c.args.symbols.now in
    let rs = c.args.rows.now in
    let ws = map (λ word. word.now) c.args.words.now in
    let name = c.args.name.now in
    c.info_by.ensures
    ∙ ap (λ (b : Bool). info_by ss rs ws b c.is_registers.result c.is_symbol.result c.is_line.result) c.is_points.ensures
    ∙ ap (λ (b : Bool). info_by ss rs ws (is_points name) b c.is_symbol.result c.is_line.result) c.is_registers.ensures
    ∙ ap (λ (b : Bool). info_by ss rs ws (is_points name) (is_registers name) b c.is_line.result) c.is_symbol.ensures
    ∙ ap (λ (b : Bool). info_by ss rs ws (is_points name) (is_registers name) (is_symbol name) b) c.is_line.ensures
