use Rattle.guest_threads.proofs.Made.{woken_calling, made_wake}
use Rattle.guest_threads.proofs.held.Held.wake_waiting.Goals as goal

pub answer-requires : goal.answer-requires
answer-requires c = woken_calling c.args.self.now c.requires c.args.address c.args.most c.wake-count.new.self c.wake-count.ensures.world

pub returns : goal.returns
returns c = made_wake c.args.self.now c.requires c.args.address c.args.most c.wake-count.result c.wake-count.new.self c.answer.new.self c.wake-count.ensures.world c.wake-count.ensures.count c.answer.ensures
