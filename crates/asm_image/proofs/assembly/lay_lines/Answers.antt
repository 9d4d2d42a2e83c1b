use Rattle.std.proofs.Common.{ℕ, List, Ok, Err, sym, subst, arith}
use Rattle.std.specs.Str.{IsCharBoundary}
use Rattle.std.proofs.lemmas.Str.{IsCharBoundary-start}
use Rattle.asm_image.specs.declared.assembly.AsmError.{AsmError}
use Rattle.asm_image.specs.Assembly.{IsDrafted}
use Rattle.asm_image.specs.Draft.{IsPlaced}
use Rattle.asm_image.proofs.Assembled.{no_line, next_line, next_cut, next_later, all_lines, stopped_listing}
use Rattle.listing_model.specs.Layout.{empty_layout, laid_out, placed_line}
use Rattle.listing_model.specs.LineOf.{line_of}
use Rattle.listing_model.specs.Lines.{lines_of}
use Rattle.asm_image.proofs.assembly.lay_lines.Goals as goal

pub loop-at-init : goal.loop-at-init
loop-at-init g c = (
  IsCharBoundary-start c.args.text.now c.utf8.text,
  no_line g.T.Instructions.statements g.T.Instructions.has_target c.args.text.now c.new_draft-draft.result c.new_draft-draft.ensures,
)

pub loop-at-preserved : goal.loop-at-preserved
loop-at-preserved g c =
    let s = g.T.Instructions.statements in
    let h = g.T.Instructions.has_target in
    let line = c.line_end-end.ensures.line in
    let was = c.loop-at.invariant.1 in
    let placed = subst (λ (t : List ℕ). IsPlaced h (Ok tt) c.lay_line.new.draft (placed_line s c.loop-at.number was.layout (line_of s t))) c.range.ensures.value
    (c.in-Ok.ensures was.layout was.drafted) in (
      subst (IsCharBoundary c.args.text.now) (sym c.next_start-at.ensures) (next_cut s c.args.text.now c.loop-at.at c.line_end-end.result line),
      next_line s h c.args.text.now c.loop-at.at c.line_end-end.result c.next_start-at.result c.loop-at.number c.loop-at.draft c.lay_line.new.draft was line
          c.next_start-at.ensures placed,
    )

pub loop-at-smaller : goal.loop-at-smaller
loop-at-smaller g c =
    omega (
      arith,
      next_later g.T.Instructions.statements c.args.text.now c.loop-at.at c.line_end-end.result c.line_end-end.ensures.line c.loop-at-test.true,
      c.next_start-at.ensures,
      c.loop-at-test.true,
    )

pub returns-in-Err : goal.returns-in-Err
returns-in-Err g c =
    let s = g.T.Instructions.statements in
    let h = g.T.Instructions.has_target in
    let was = c.loop-at.invariant.1 in
    let placed = subst (λ (t : List ℕ). IsPlaced h (Err c.in-Err.stop) c.lay_line.new.draft (placed_line s c.loop-at.number was.layout (line_of s t))) c.range.ensures.value
    (c.in-Err.ensures was.layout was.drafted) in
    subst (λ (e : AsmError). IsDrafted {I = g.row.T-Insn.Denot} h (Err e) (laid_out s 1 (Ok empty_layout) (lines_of c.args.text.now))) (sym c.error_of.ensures)
    (stopped_listing s h c.args.text.now c.loop-at.at c.line_end-end.result c.loop-at.number c.loop-at.draft c.lay_line.new.draft c.in-Err.stop was
    c.line_end-end.ensures.line placed)

pub returns : goal.returns
returns g c =
    let was = c.loop-at.invariant.1 in (
      was.layout,
      all_lines g.T.Instructions.statements g.T.Instructions.has_target c.args.text.now c.loop-at.at c.loop-at.number c.loop-at.draft was c.loop-at-test.false,
      was.drafted,
    )
