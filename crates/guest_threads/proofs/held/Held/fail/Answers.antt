use Rattle.guest_threads.proofs.Made.{made_failure}
use Rattle.guest_threads.proofs.held.Held.fail.Goals as goal

pub returns : goal.returns
returns c = made_failure c.args.self.now c.requires c.args.error c.error_answer.result c.answer.new.self c.error_answer.ensures c.answer.ensures
