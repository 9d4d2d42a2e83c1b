use Rattle.std.proofs.Common.{refl, sym, ap}
use Rattle.dbg_model.specs.Session.{back_text, back_to, printed, went_back}
use Rattle.dbg_back.specs.Ends.{end_of_put, is_fault}
use Rattle.dbg_back.proofs.Doing.{does_put, does_then, does_when}
use Rattle.dbg_back.proofs.Streams.{no_errs, put_write}
use Rattle.dbg_back.proofs.back.go_back.Goals as goal

pub returns : goal.returns
returns g c =
    let input = c.args.input.now in
    let m = c.args.machine.now in
    let t = c.args.trail.now in
    let n = c.turn_back.new.machine in
    let v = c.turn_back.new.trail in
    let line = c.put_back.result in
    let is = c.end_of_put.ensures in
    let hp = g.O.Sink.held c.args.output.now in
    let hq = g.O.Sink.held c.put_back.new.sink in
    record {
      does = λ errs. does_when input m n t v hp hq errs errs (λ start. went_back start c.args.k) (is_fault (end_of_put line)) (is_fault c.end_of_put.result) (ap is_fault (sym is))
          (does_then input m n n t v v hp hp hq errs errs errs (λ start. back_to start c.args.k) (λ start. printed back_text) (is_fault (end_of_put line)) (c.turn_back.ensures.does hp errs)
          (does_put input n v hp hq errs back_text line c.put_back.ensures.bytes));
      write_cause = put_write line c.end_of_put.result is _ _ _ refl c.put_back.ensures.cause;
      no_errors = no_errs line c.end_of_put.result is;
    }
