use Rattle.guest_threads.proofs.Made.{made_wait}
use Rattle.guest_threads.proofs.held.Held.wait_at.Goals as goal

pub returns : goal.returns
returns c = made_wait c.args.self.now c.requires c.args.address c.answer.new.self c.stand.new.self c.answer.ensures c.stand.ensures
