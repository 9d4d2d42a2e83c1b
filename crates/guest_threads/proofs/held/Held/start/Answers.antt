use Rattle.guest_threads.proofs.Made.{told_calling, made_start}
use Rattle.guest_threads.proofs.held.Held.start.Goals as goal

pub answer-requires : goal.answer-requires
answer-requires c = told_calling c.args.self.now c.requires.calling c.tell_parent.new.self c.tell_parent.ensures

pub returns : goal.returns
returns c =
    made_start c.args.self.now c.requires.calling c.next_id-id.result c.argument-flags.result c.argument-stack.result c.argument-tls.result c.argument-clear.result
    c.tell_parent.new.self c.answer.new.self c.add.new.self c.started-context.result c.next_id-id.ensures
    c.argument-flags.ensures c.argument-stack.ensures c.argument-tls.ensures c.argument-clear.ensures
    c.tell_parent.ensures c.answer.ensures c.started-context.ensures c.add.ensures
