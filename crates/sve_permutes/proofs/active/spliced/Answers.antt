use Rattle.std.proofs.Common.{◌≤◌, ◌+◌, ◌/◌, ◌∙◌, ℕ, ap, sym, subst}
use Rattle.lane_model.specs.declared.places.LaneSource.{LaneSource}
use Rattle.sve_effects.specs.LaneLoop.{is_active}
use Rattle.sve_effects.specs.Permute.{spliced, splice_place}
use Rattle.sve_effects.specs.PermuteRows.{with_places}
use Rattle.sve_permutes.proofs.CopiedLanes.{spliced_is}
use Rattle.sve_permutes.proofs.active.spliced.Goals as goal

pub spliced_lanes-requires-clause-run : goal.spliced_lanes-requires-clause-run
spliced_lanes-requires-clause-run c = subst (λ e. c.run_of-from.result.0 + c.run_of-from.result.1 ≤ c.args.vec.now.bits / e) c.in-8.is c.run_of-from.ensures.within

pub returns-in-8 : goal.returns-in-8
returns-in-8 c =
    let v = c.args.vec.now in
    let e = c.args.e in
    let run : ℕ → LaneSource = spliced c.run_of-from.result.0 c.run_of-from.result.1 in
    c.spliced_lanes.ensures ∙ ap (λ e. with_places e run c.args.zdn c.args.zm 0 c.args.zdn v) (sym c.in-8.is)
    ∙ spliced_is e c.args.zdn c.args.zm c.args.zdn v run (splice_place (is_active e v c.args.pg) (v.bits / e)) c.run_of-from.ensures.places

pub spliced_lanes-requires-in-16-clause-run : goal.spliced_lanes-requires-in-16-clause-run
spliced_lanes-requires-in-16-clause-run c = subst (λ e. c.run_of-from.result.0 + c.run_of-from.result.1 ≤ c.args.vec.now.bits / e) c.in-16.is c.run_of-from.ensures.within

pub returns-in-16 : goal.returns-in-16
returns-in-16 c =
    let v = c.args.vec.now in
    let e = c.args.e in
    let run : ℕ → LaneSource = spliced c.run_of-from.result.0 c.run_of-from.result.1 in
    c.spliced_lanes-in-16.ensures ∙ ap (λ e. with_places e run c.args.zdn c.args.zm 0 c.args.zdn v) (sym c.in-16.is)
    ∙ spliced_is e c.args.zdn c.args.zm c.args.zdn v run (splice_place (is_active e v c.args.pg) (v.bits / e)) c.run_of-from.ensures.places

pub spliced_lanes-requires-in-32-clause-run : goal.spliced_lanes-requires-in-32-clause-run
spliced_lanes-requires-in-32-clause-run c = subst (λ e. c.run_of-from.result.0 + c.run_of-from.result.1 ≤ c.args.vec.now.bits / e) c.in-32.is c.run_of-from.ensures.within

pub returns-in-32 : goal.returns-in-32
returns-in-32 c =
    let v = c.args.vec.now in
    let e = c.args.e in
    let run : ℕ → LaneSource = spliced c.run_of-from.result.0 c.run_of-from.result.1 in
    c.spliced_lanes-in-32.ensures ∙ ap (λ e. with_places e run c.args.zdn c.args.zm 0 c.args.zdn v) (sym c.in-32.is)
    ∙ spliced_is e c.args.zdn c.args.zm c.args.zdn v run (splice_place (is_active e v c.args.pg) (v.bits / e)) c.run_of-from.ensures.places
