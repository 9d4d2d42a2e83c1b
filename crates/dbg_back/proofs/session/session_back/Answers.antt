use Rattle.std.proofs.Common.{◌≡◌, ◌<◌, ◌≤◌, ◌+◌, true, List, drop, length, count_by, Some, sym, ap, subst, ◌∙◌, refl, arith}
use Rattle.std.specs.Prelude.{slice_get}
use Rattle.std.proofs.lemmas.List.{drop_all}
use Rattle.emu_model.specs.State.{State}
use Rattle.emu_system.specs.Start.{with_input}
use Rattle.dbg_model.specs.declared.script.Command.{Command}
use Rattle.dbg_model.specs.Commands.{is_break, is_watch}
use Rattle.dbg_model.specs.Session.{Points, with_point, no_points, Course, begun, obeyed, obeyed_all}
use Rattle.dbg_core.proofs.Obeying.{causes_later, causes_none}
use Rattle.dbg_core.proofs.Scripts.{breaks_at, command_in, next_command, room_at, watches_at}
use Rattle.dbg_back.specs.declared.ends.BackEnd.TheVariants.{Done, WriteFault, ErrorsFault}
use Rattle.dbg_back.specs.Ends.{is_fault}
use Rattle.dbg_back.specs.Walks.{Does}
use Rattle.dbg_back.proofs.Courses.{Appends, appends_all}
use Rattle.dbg_back.proofs.Doing.{Leads, does_when, leads_cut, leads_done, leads_on, leads_start, leads_walk}
use Rattle.dbg_back.proofs.Streams.{gained_none, not_done}
use Rattle.dbg_back.proofs.session.session_back.Goals as goal

pub walk-init : goal.walk-init
walk-init g c =
    let script = c.args.script.now in
    let none = sym c.new-points.ensures in
    let b = c.commands-commands.ensures.script.breaks in
    let w = c.commands-commands.ensures.script.watches in
    record {
      leads = subst (λ (p : Points). Leads (λ start. obeyed_all start script no_points c.args.budget) (λ start. obeyed_all start (drop 0 script) p c.args.budget) c.args.input.now c.begin-trail.new.machine c.begin-trail.new.machine c.begin-trail.result c.begin-trail.result
          (g.O.Sink.held c.args.output.now) (g.O.Sink.held c.args.output.now) (g.E.Sink.held c.args.errors.now) (g.E.Sink.held c.args.errors.now)) none
          (leads_start (λ start. obeyed_all start script no_points c.args.budget) c.args.input.now c.begin-trail.new.machine c.begin-trail.result (g.O.Sink.held c.args.output.now) (g.E.Sink.held c.args.errors.now));
      breaks = subst (λ (p : Points). length p.breaks + count_by is_break (drop 0 script) ≤ 64) none (omega (arith, b));
      watches = subst (λ (p : Points). length p.watches + count_by is_watch (drop 0 script) ≤ 64) none (omega (arith, w));
      write = refl;
      errors = refl;
    }

pub obey-requires : goal.obey-requires
obey-requires g c =
    let script = c.args.script.now in
    let m = c.args.machine.now in
    let here : slice_get script c.walk.k ≡ Some c.command_at-command.result.now = subst (λ (cs : List Command). slice_get cs c.walk.k ≡ Some c.command_at-command.result.now) c.commands-commands.ensures.commands c.command_at-command.ensures in
    let same = ap length c.commands-commands.ensures.commands in
    let start : State = with_input m.parts c.args.input.now in
    record {
      walks = leads_walk (λ start. obeyed_all start script no_points c.args.budget) (λ start. obeyed_all start (drop c.walk.k script) c.walk.points c.args.budget) c.args.input.now c.begin-trail.new.machine c.walk.machine c.begin-trail.result c.walk.trail
          (g.O.Sink.held c.args.output.now) (g.O.Sink.held c.walk.output) (g.E.Sink.held c.args.errors.now) (g.E.Sink.held c.walk.errors) c.walk.invariant.leads
          (record { start = start; course = begun start; walk = c.begin-trail.ensures c.args.input.now });
      within = command_in script c.walk.k c.command_at-command.result.now c.commands-commands.ensures.script.within here (omega (arith, same));
    }

pub add_if-requires : goal.add_if-requires
add_if-requires g c =
    let script = c.args.script.now in
    let k = c.walk.k in
    let command = c.command_at-command.result.now in
    let here : slice_get script k ≡ Some command = subst (λ (cs : List Command). slice_get cs k ≡ Some command) c.commands-commands.ensures.commands c.command_at-command.ensures in
    let same = ap length c.commands-commands.ensures.commands in
    let within : k < length script = omega (arith, same) in
    room_at script k command here within c.walk.points c.walk.invariant.breaks c.walk.invariant.watches

pub walk-preserved : goal.walk-preserved
walk-preserved g c =
    let script = c.args.script.now in
    let k = c.walk.k in
    let command = c.command_at-command.result.now in
    let budget = c.args.budget in
    let here : slice_get script k ≡ Some command = subst (λ (cs : List Command). slice_get cs k ≡ Some command) c.commands-commands.ensures.commands c.command_at-command.ensures in
    let same = ap length c.commands-commands.ensures.commands in
    let within : k < length script = omega (arith, same) in
    record {
      leads = leads_on (λ start. obeyed_all start script no_points budget) (λ start. obeyed_all start (drop k script) c.walk.points budget) c.args.input.now c.begin-trail.new.machine c.walk.machine c.begin-trail.result c.walk.trail
          (g.O.Sink.held c.args.output.now) (g.O.Sink.held c.walk.output) (g.E.Sink.held c.args.errors.now) (g.E.Sink.held c.walk.errors) c.walk.invariant.leads
          (λ start. obeyed start command c.walk.points budget) (λ start. obeyed_all start (drop (k + 1) script) c.add_if.new.self budget) c.obey.new.machine c.obey.new.trail (g.O.Sink.held c.obey.new.output) (g.E.Sink.held c.obey.new.errors)
          (λ start course w. ap (λ (cs : List Command). obeyed_all start cs c.walk.points budget course) (next_command script k command here within)
          ∙ ap (λ (p : Points). obeyed_all start (drop (k + 1) script) p budget (obeyed start command c.walk.points budget course)) (sym c.add_if.ensures))
          c.in-Done.ensures.does;
      breaks = breaks_at script k command here within c.walk.points c.add_if.new.self c.add_if.ensures c.walk.invariant.breaks;
      watches = watches_at script k command here within c.walk.points c.add_if.new.self c.add_if.ensures c.walk.invariant.watches;
      write = c.in-Done.ensures.write_cause.kept (λ (h : Done ≡ WriteFault). cc) ∙ c.walk.invariant.write;
      errors = c.in-Done.ensures.errors_cause.kept (λ (h : Done ≡ ErrorsFault). cc) ∙ c.walk.invariant.errors;
    }

pub returns-in_default : goal.returns-in_default
returns-in_default g c =
    let script = c.args.script.now in
    let k = c.walk.k in
    let command = c.command_at-command.result.now in
    let budget = c.args.budget in
    let input = c.args.input.now in
    let here : slice_get script k ≡ Some command = subst (λ (cs : List Command). slice_get cs k ≡ Some command) c.commands-commands.ensures.commands c.command_at-command.ensures in
    let same = ap length c.commands-commands.ensures.commands in
    let within : k < length script = omega (arith, same) in
    let whole : State → Course → Course = λ start. obeyed_all start script no_points budget in
    let broken : is_fault c.obey.result ≡ true = not_done c.obey.result c.in_default.not-Done in
    let d : Does whole input c.begin-trail.new.machine c.obey.new.machine c.begin-trail.result c.obey.new.trail (g.O.Sink.held c.args.output.now) (g.O.Sink.held c.obey.new.output) (g.E.Sink.held c.args.errors.now) (g.E.Sink.held c.obey.new.errors) true =
    leads_cut whole (λ start. obeyed_all start (drop k script) c.walk.points budget) input c.begin-trail.new.machine c.walk.machine c.begin-trail.result c.walk.trail
    (g.O.Sink.held c.args.output.now) (g.O.Sink.held c.walk.output) (g.E.Sink.held c.args.errors.now) (g.E.Sink.held c.walk.errors) c.walk.invariant.leads
    (λ start. obeyed start command c.walk.points budget) c.obey.new.machine c.obey.new.trail (g.O.Sink.held c.obey.new.output) (g.E.Sink.held c.obey.new.errors)
    (λ start course w. subst (λ (cs : List Command). Appends (obeyed start command c.walk.points budget course) (obeyed_all start cs c.walk.points budget course)) (sym (next_command script k command here within))
    (appends_all start (drop (k + 1) script) (with_point command c.walk.points) budget (obeyed start command c.walk.points budget course)))
    (does_when input c.walk.machine c.obey.new.machine c.walk.trail c.obey.new.trail (g.O.Sink.held c.walk.output) (g.O.Sink.held c.obey.new.output) (g.E.Sink.held c.walk.errors) (g.E.Sink.held c.obey.new.errors)
    (λ start. obeyed start command c.walk.points budget) (is_fault c.obey.result) true broken c.obey.ensures.does) in
    let e = does_when input c.begin-trail.new.machine c.obey.new.machine c.begin-trail.result c.obey.new.trail (g.O.Sink.held c.args.output.now) (g.O.Sink.held c.obey.new.output) (g.E.Sink.held c.args.errors.now) (g.E.Sink.held c.obey.new.errors)
    whole true (is_fault c.obey.result) (sym broken) d in
    record {
      output = e.output (with_input c.args.machine.now.parts input) (begun (with_input c.args.machine.now.parts input)) (g.O.Sink.held c.args.output.now) (c.begin-trail.ensures input) (gained_none (g.O.Sink.held c.args.output.now));
      errors = e.errors (with_input c.args.machine.now.parts input) (begun (with_input c.args.machine.now.parts input)) (g.E.Sink.held c.args.errors.now) (c.begin-trail.ensures input) (gained_none (g.E.Sink.held c.args.errors.now));
      write_cause = causes_later _ _ _ _ c.walk.invariant.write c.obey.ensures.write_cause;
      errors_cause = causes_later _ _ _ _ c.walk.invariant.errors c.obey.ensures.errors_cause;
    }

pub returns : goal.returns
returns g c =
    let script = c.args.script.now in
    let input = c.args.input.now in
    let same = ap length c.commands-commands.ensures.commands in
    let over : length script ≤ c.walk.k = omega (arith, same) in
    let e = leads_done (λ start. obeyed_all start script no_points c.args.budget) (λ start. obeyed_all start (drop c.walk.k script) c.walk.points c.args.budget) input c.begin-trail.new.machine c.walk.machine c.begin-trail.result c.walk.trail
    (g.O.Sink.held c.args.output.now) (g.O.Sink.held c.walk.output) (g.E.Sink.held c.args.errors.now) (g.E.Sink.held c.walk.errors) c.walk.invariant.leads
    (λ start course w. sym (ap (λ (cs : List Command). obeyed_all start cs c.walk.points c.args.budget course) (drop_all c.walk.k script over))) in
    record {
      output = e.output (with_input c.args.machine.now.parts input) (begun (with_input c.args.machine.now.parts input)) (g.O.Sink.held c.args.output.now) (c.begin-trail.ensures input) (gained_none (g.O.Sink.held c.args.output.now));
      errors = e.errors (with_input c.args.machine.now.parts input) (begun (with_input c.args.machine.now.parts input)) (g.E.Sink.held c.args.errors.now) (c.begin-trail.ensures input) (gained_none (g.E.Sink.held c.args.errors.now));
      write_cause = causes_none _ _ _ c.walk.invariant.write (λ (h : Done ≡ WriteFault). cc);
      errors_cause = causes_none _ _ _ c.walk.invariant.errors (λ (h : Done ≡ ErrorsFault). cc);
    }
