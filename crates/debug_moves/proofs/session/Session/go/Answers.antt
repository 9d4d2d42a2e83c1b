use Rattle.std.proofs.Common.{◌≡◌, ℕ, min, sym, ap, is_err}
use Rattle.dbg_back.specs.Ends.{is_fault}
use Rattle.dbg_back.proofs.Doing.{does_as, does_when}
use Rattle.debug_walk.specs.Walks.{at_step}
use Rattle.debug_moves.proofs.Staying.{ok_stays}
use Rattle.debug_moves.proofs.session.Session.go.Goals as goal

pub returns : goal.returns
returns g c =
    let input = c.args.self.now.input.now in
    let hp = g.O.Sink.held c.args.output.now in
    let hq = g.O.Sink.held c.go_to.new.output in
    let ep = g.E.Sink.held c.args.errors.now in
    let eq = g.E.Sink.held c.go_to.new.errors in
    let target : c.min.result ≡ min c.args.target c.args.self.now.budget = cc in
    record {
      does = does_when input c.args.machine.now c.go_to.new.machine c.args.trail.now c.go_to.new.trail hp hq ep eq (λ start. at_step start (min c.args.target c.args.self.now.budget)) (is_fault c.go_to.result) (is_err c.done.result) (sym c.done.ensures)
          (does_as input c.args.machine.now c.go_to.new.machine c.args.trail.now c.go_to.new.trail hp hq ep eq (λ start. at_step start c.min.result) (λ start. at_step start (min c.args.target c.args.self.now.budget)) (is_fault c.go_to.result)
          (λ start course w. ap (λ (k : ℕ). at_step start k course) target) c.go_to.ensures.does);
      stays = ok_stays c.done.result c.done.ensures c.go_to.ensures.does;
    }
