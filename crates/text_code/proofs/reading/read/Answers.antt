use Rattle.std.proofs.Common.{◌≡◌, ◌<◌, ℕ, Bool, List, length, Option, Ok, Err, sym, ap, ◌∙◌}
use Rattle.std.proofs.lemmas.Bool.{eqb-true, eq-eqb, true≢false}
use Rattle.asm_tokens.specs.Tokens.{tokens}
use Rattle.text_model.specs.declared.slots.Item.{Item}
use Rattle.text_model.specs.Statement.{Destination, items_of, untargeted, ends_in_label}
use Rattle.text_code.specs.declared.reading.Aim.{Aim}
use Rattle.text_code.specs.Reads.{at_spots, aim_of, read_of}
use Rattle.text_code.proofs.Steps.{none_left, some_next}
use Rattle.text_code.proofs.Whole.{no_spots, many, read_as, in_table_read, label_told, target_same}
use Rattle.text_code.proofs.reading.read.Goals as goal

pub returns-then-is_empty-clause-read : goal.returns-then-is_empty-clause-read
returns-then-is_empty-clause-read g c =
    let t = c.args.table.now in
    no_spots (g.T.Table.in_table t) (g.T.Table.lines t) c.spots-spots.result.now c.args.name.now (tokens c.args.rest.now) c.spots-spots.ensures.patterns
    (none_left c.spots-spots.result.now (eqb-true _ _ (sym c.is_empty.ensures ∙ c.if-is_empty.true)))

pub returns-in_default-clause-read : goal.returns-in_default-clause-read
returns-in_default-clause-read g c =
    let t = c.args.table.now in
    let ss = c.spots-spots.result.now in
    let some : 0 < length ss = some_next ss (λ (q : length ss ≡ 0). true≢false (sym (eq-eqb _ _ q) ∙ sym c.is_empty.ensures ∙ c.if-is_empty.false)) in
    many (g.T.Table.in_table t) (g.T.Table.lines t) ss c.args.name.now (tokens c.args.rest.now) c.spots-spots.ensures.patterns c.spots-spots.ensures.sound some
    c.in_default.ensures

pub returns-in-Ok-clause-read : goal.returns-in-Ok-clause-read
returns-in-Ok-clause-read g c =
    let t = c.args.table.now in
    let text : List ℕ = c.args.rest.now in
    let ss = c.spots-spots.result.now in
    let w : ℕ = c.in-Ok.word in
    let aimed : Bool = c.in-Ok.aimed in
    let is : List Item = c.deref-2.result.now in
    let js : List Item = c.deref-3.result.now in
    let label : Bool = c.is_some.result in
    let e : is ≡ items_of (tokens text) = c.deref-2.ensures.0 ∙ c.in-Some.ensures in
    let f : label ≡ ends_in_label (tokens text) = c.is_some.ensures ∙ label_told text c.last_label-label.result c.last_label-label.ensures in
    let j : js ≡ untargeted label is = c.deref-3.ensures.0 ∙ c.untargeted-untargeted.ensures ∙ ap (untargeted label) (c.deref.ensures.0 ∙ sym c.deref-2.ensures.0) in
    let h = ap read_of (sym c.in-Ok.is) ∙ c.read_among.ensures in
    read_as (g.T.Table.in_table t) (g.T.Table.lines t) ss c.args.name.now (tokens text) c.spots-spots.ensures.patterns (Ok (w, aimed)) is js label e f j h
    ∙ ap (λ (d : Option Destination). Ok (record { word = w; target = d }))
    (target_same text aimed c.last_label-label.result c.deref-in-Ok.result.now c.copied.result c.last_label-label.ensures (c.deref-in-Ok.ensures.0 ∙ c.in-Some.ensures) (c.copied.ensures ∙ c.last.ensures.value)
    ∙ ap (λ (a : Option Aim). aim_of text a) (sym c.target_of.ensures))

pub returns-in-Ok-clause-held : goal.returns-in-Ok-clause-held
returns-in-Ok-clause-held g c =
    in_table_read (g.T.Table.in_table c.args.table.now) (at_spots (g.T.Table.lines c.args.table.now) c.spots-spots.result.now)
    (record { items = c.deref-2.result.now; untargeted = c.deref-3.result.now }) c.in-Ok.word c.in-Ok.aimed (ap read_of (sym c.in-Ok.is) ∙ c.read_among.ensures)

pub returns-in-Err-clause-read : goal.returns-in-Err-clause-read
returns-in-Err-clause-read g c =
    let t = c.args.table.now in
    let text : List ℕ = c.args.rest.now in
    let ss = c.spots-spots.result.now in
    let is : List Item = c.deref-2.result.now in
    let js : List Item = c.deref-3.result.now in
    let label : Bool = c.is_some.result in
    let e : is ≡ items_of (tokens text) = c.deref-2.ensures.0 ∙ c.in-Some.ensures in
    let f : label ≡ ends_in_label (tokens text) = c.is_some.ensures ∙ label_told text c.last_label-label.result c.last_label-label.ensures in
    let j : js ≡ untargeted label is = c.deref-3.ensures.0 ∙ c.untargeted-untargeted.ensures ∙ ap (untargeted label) (c.deref.ensures.0 ∙ sym c.deref-2.ensures.0) in
    let h = ap read_of (sym c.in-Err.is) ∙ c.read_among.ensures in
    read_as (g.T.Table.in_table t) (g.T.Table.lines t) ss c.args.name.now (tokens text) c.spots-spots.ensures.patterns (Err c.in-Err.refusal) is js label e f j h
