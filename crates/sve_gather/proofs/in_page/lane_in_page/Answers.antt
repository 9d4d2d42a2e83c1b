use Rattle.std.proofs.Common.{◌≡◌, ◌++◌, ◌∷◌, [], None, false, sym, ◌∙◌}
use Rattle.emu_model.specs.declared.access.Kind.TheVariants.{Read}
use Rattle.emu_model.specs.Access.{refused}
use Rattle.sve_effects.specs.VectorElements.{Layout}
use Rattle.element_loops.specs.Layouts.{layout_of}
use Rattle.element_loops.proofs.Loads.{lane_skipped}
use Rattle.sve_gather.proofs.Lanes.{lane_loaded}
use Rattle.sve_gather.proofs.in_page.lane_in_page.Goals as goal

pub returns-then-not-is_on-clause-loaded : goal.returns-then-not-is_on-clause-loaded
returns-then-not-is_on-clause-loaded g c = λ m is so_far.
    lane_skipped (layout_of c.args.plan.now c.args.vec.now) m c.args.k c.args.log.now.items (sym c.is_on.ensures ∙ c.if-not-is_on.true) so_far

pub returns-in-Some-clause-loaded : goal.returns-in-Some-clause-loaded
returns-in-Some-clause-loaded g c = λ m is so_far.
    let l : Layout = layout_of c.args.plan.now c.args.vec.now in
    let v = c.in-Some.ensures.value m is in
    let allowed : refused m (l.address c.args.k 0) c.args.plan.now.bytes Read ≡ None = cc (v.0, c.address-at.ensures, c.requires.size) in
    let more : c.number_in_page.new.log.items ≡ c.args.log.now.items ++ record { address = l.address c.args.k 0; bytes = c.args.plan.now.bytes; write = false } ∷ []
    = cc (c.in-Some.ensures.log, c.address-at.ensures, c.requires.size) in
    lane_loaded l m c.args.k c.requires.one c.args.log.now.items c.number_in_page.new.log.items (sym c.is_on.ensures ∙ c.if-not-is_on.false) so_far allowed more
