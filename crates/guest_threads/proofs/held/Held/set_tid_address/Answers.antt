use Rattle.std.proofs.Common.{ap, sym}
use Rattle.guest_threads.proofs.Made.{cleared_calling, made_clear, made_as}
use Rattle.emu_run.specs.ThreadCall.{clears}
use Rattle.guest_threads.proofs.held.Held.set_tid_address.Goals as goal

pub answer-requires : goal.answer-requires
answer-requires c = cleared_calling c.args.self.now c.requires c.argument-address.result c.set_clear.new.self c.set_clear.ensures

pub returns : goal.returns
returns c =
    made_as _ _ _ _ _ (ap clears (sym c.argument-address.ensures))
    (made_clear c.args.self.now c.requires c.argument-address.result c.id-id.result c.set_clear.new.self c.answer.new.self c.set_clear.ensures c.id-id.ensures c.answer.ensures)
