use Rattle.dbg_back.proofs.Streams.{dropped_fine}
use Rattle.debug_walk.proofs.back.step_again.Goals as goal

pub returns : goal.returns
returns c =
    let fine = dropped_fine c.one_step.result c.one_step.ensures.write_cause c.one_step.ensures.errors_cause in
    record {
      walks = λ start course w. c.one_step.ensures.does.walks start course w fine;
      accesses = c.one_step.ensures.accesses fine;
      further = λ going. c.one_step.ensures.further fine going;
      from = cc;
    }
