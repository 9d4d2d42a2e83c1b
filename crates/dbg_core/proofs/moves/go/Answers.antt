use Rattle.std.proofs.Common.{◌≡◌, ◌-◌, Bool, sym, ap, subst, arith}
use Rattle.std.specs.Bool.{OnTrue}
use Rattle.emu_system.specs.Start.{with_input}
use Rattle.dbg_model.specs.Session.{Points, no_points}
use Rattle.dbg_model.specs.Forward.{go}
use Rattle.dbg_core.proofs.Going.{go_at}
use Rattle.dbg_core.proofs.Obeying.{obeys_same}
use Rattle.dbg_core.proofs.Leaving.{leaves_same}
use Rattle.dbg_core.proofs.Putting.{spares_same}
use Rattle.dbg_core.proofs.moves.go.Goals as goal

pub returns-then-is_empty-clause-obeys : goal.returns-then-is_empty-clause-obeys
returns-then-is_empty-clause-obeys g c =
    let p = c.args.machine.now.parts in
    let none : c.args.points.now ≡ no_points = subst (λ (b : Bool). OnTrue b (c.args.points.now ≡ no_points)) c.if-is_empty.true c.is_empty.ensures.none in
    obeys_same p c.go_free.new.machine.parts (g.I.Source.left c.args.input.now) (g.I.Source.left c.go_free.new.input) (g.O.Sink.held c.args.output.now) (g.O.Sink.held c.go_free.new.output)
    (g.E.Sink.held c.args.errors.now) (g.E.Sink.held c.go_free.new.errors) (go_at no_points c.args.budget) (go_at c.args.points.now c.args.budget) c.go_free.result
    (λ input. ap (λ (m : Points). go m (with_input p input) (c.args.budget - p.steps)) (sym none)) c.go_free.ensures.obeys

pub returns-then-is_empty-clause-leaves : goal.returns-then-is_empty-clause-leaves
returns-then-is_empty-clause-leaves g c =
    let p = c.args.machine.now.parts in
    let none : c.args.points.now ≡ no_points = subst (λ (b : Bool). OnTrue b (c.args.points.now ≡ no_points)) c.if-is_empty.true c.is_empty.ensures.none in
    leaves_same (go_at no_points c.args.budget) p c.go_free.new.machine (g.I.Source.left c.args.input.now) (g.I.Source.left c.go_free.new.input) c.go_free.result (go_at c.args.points.now c.args.budget) c.args.budget c.args.budget (omega arith)
    (λ input. ap (λ (m : Points). go m (with_input p input) (c.args.budget - p.steps)) (sym none)) c.go_free.ensures.leaves

pub returns-then-is_empty-clause-spares : goal.returns-then-is_empty-clause-spares
returns-then-is_empty-clause-spares g c =
    let p = c.args.machine.now.parts in
    let none : c.args.points.now ≡ no_points = subst (λ (b : Bool). OnTrue b (c.args.points.now ≡ no_points)) c.if-is_empty.true c.is_empty.ensures.none in
    spares_same (go_at no_points c.args.budget) (go_at c.args.points.now c.args.budget) p c.go_free.new.machine (g.I.Source.left c.args.input.now) (g.I.Source.left c.go_free.new.input) (g.O.Sink.held c.args.output.now) (g.O.Sink.held c.go_free.new.output) (g.E.Sink.held c.args.errors.now) (g.E.Sink.held c.go_free.new.errors) c.go_free.result
    (λ input. ap (λ (m : Points). (go m (with_input p input) (c.args.budget - p.steps)).errors) (sym none)) c.go_free.ensures.spares
