use Rattle.dbg_model.specs.Session.{begun}
use Rattle.emu_system.specs.Start.{with_input}
use Rattle.tool_debug.proofs.command.debug_machine.Goals as goal

pub talk-talked-requires : goal.talk-talked-requires
talk-talked-requires g c = record { walks = record { start = with_input c.args.machine.now.parts c.args.session.now.input.now; course = begun (with_input c.args.machine.now.parts c.args.session.now.input.now); walk = c.begin-trail.ensures c.args.session.now.input.now } }

pub talk-talked-requires-in-None : goal.talk-talked-requires-in-None
talk-talked-requires-in-None g c = record { walks = record { start = with_input c.args.machine.now.parts c.args.session.now.input.now; course = begun (with_input c.args.machine.now.parts c.args.session.now.input.now); walk = c.begin-trail.ensures c.args.session.now.input.now } }
