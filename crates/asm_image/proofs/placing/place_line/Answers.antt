use Rattle.std.proofs.Common.{◌≡◌, ◌∙◌, ◌&&◌, ℕ, List, Option, None, false, is_some, sym, ap, arith}
use Rattle.asm_image.proofs.Layouts.{same_place}
use Rattle.asm_image.proofs.Placed.{label_added, labeled, left_false, misplaced_body, placed, right_false}
use Rattle.listing_model.specs.Layout.{entry_of, is_twice, misplaced}
use Rattle.asm_image.proofs.placing.place_line.Goals as goal
use Rattle.asm_image.proofs.placing.place_line.Goals.{else-is_entry-via-then-is_entry+else-is_some, else-is_entry-via-else-is_entry}

pub returns : goal.returns
returns g c = λ l is.
    let h = g.T.Instructions.has_target in
    let has = c.in_ok-add_label.ensures in
    let d = c.put_body.new.draft in
    let added = label_added h c.args.draft.now c.add_label.new.draft l c.args.line.label is has in
    let first : (is_some (entry_of c.args.line.body) && is_some c.args.draft.now.entry) ≡ false =
    elim c.else-is_entry.branch [
      | else-is_entry-via-then-is_entry+else-is_some w ↦ right_false _ _ (sym w.is_some.ensures ∙ w.if-is_some.false)
      | else-is_entry-via-else-is_entry w ↦ left_false _ _ (sym c.is_entry.ensures ∙ w.if-is_entry.false)
    ] in
    let first_entry : (is_some (entry_of c.args.line.body) && is_some l.entry) ≡ false =
    sym (ap (λ (o : Option (List ℕ)). is_some (entry_of c.args.line.body) && is_some o) is.entry) ∙ first in
    let once : is_twice c.args.line.label l.labels ≡ false = sym (ap (is_twice c.args.line.label) is.labels) ∙ has.new_label in
    let free : misplaced l c.args.line ≡ None =
    misplaced_body l c.args.line c.here.result first_entry once (c.here.ensures.section ∙ has.section ∙ is.section)
    (c.here.ensures.at ∙ same_place h c.add_label.new.draft (labeled l c.args.line.label) added)
    ∙ c.in_ok-check_body.ensures in
    placed h g.T.Instructions.statements c.args.number l c.args.line d c.put_body.result free
    (omega (arith, d.small_code, d.code.ok.0)) (omega (arith, d.small_values, d.values.ok.0)) d.small_bss
    (c.put_body.ensures (labeled l c.args.line.label) added)
