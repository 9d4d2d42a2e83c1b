use Rattle.std.proofs.Common.{◌≡◌, ◌<◌, ◌≤◌, ◌+◌, true, List, is_none, drop, length, count_by, Some, sym, ap, subst, ◌∙◌, refl, arith}
use Rattle.std.specs.Prelude.{slice_get}
use Rattle.dbg_model.specs.declared.script.Command.{Command}
use Rattle.dbg_model.specs.Commands.{is_break, is_watch}
use Rattle.dbg_model.specs.Session.{Points}
use Rattle.dbg_model.specs.Forward.{obeyed, obeyed_all, session}
use Rattle.dbg_core.specs.declared.ends.SessionEnd.TheVariants.{Done, ReadFault, WriteFault, ErrorsFault}
use Rattle.dbg_core.specs.Ends.{is_fault}
use Rattle.emu_machine.proofs.Composed.{Leads, comes_still, leads_start}
use Rattle.emu_machine.proofs.Spared.{either}
use Rattle.dbg_core.proofs.Obeying.{causes_later, causes_none, comes_of}
use Rattle.dbg_core.proofs.Scripts.{command_in, room_at, breaks_at, watches_at, done_at, broken_at, all_done}
use Rattle.dbg_core.proofs.Leaving.{never}
use Rattle.dbg_core.proofs.Standing.{points_next, stands_start, stands_whole, stands_next, stands_broken}
use Rattle.dbg_core.proofs.Putting.{comes_next, errors_broken, failed_by, output_broken}
use Rattle.dbg_core.proofs.commands.session.Goals as goal

pub walk-init : goal.walk-init
walk-init g c =
    let script = c.args.script.now in
    let none = sym c.new-points.ensures in
    let b = c.commands-commands.ensures.script.breaks in
    let w = c.commands-commands.ensures.script.watches in
    record {
      failed = c.requires.failed;
      leads = subst (λ (m : Points). Leads (session script c.args.budget) (obeyed_all (drop 0 script) m c.args.budget) c.args.machine.now.parts c.args.machine.now.parts (g.I.Source.left c.args.input.now) (g.I.Source.left c.args.input.now)
          (g.O.Sink.held c.args.output.now) (g.O.Sink.held c.args.output.now) (g.E.Sink.held c.args.errors.now) (g.E.Sink.held c.args.errors.now)) none
          (leads_start (session script c.args.budget) c.args.machine.now.parts (g.I.Source.left c.args.input.now) (g.O.Sink.held c.args.output.now) (g.E.Sink.held c.args.errors.now));
      so_far = c.new-points.ensures;
      stood = stands_start c.args.machine.now.parts (g.I.Source.left c.args.input.now);
      whole = comes_still c.args.machine.now.parts (g.I.Source.left c.args.input.now) (g.O.Sink.held c.args.output.now) (g.E.Sink.held c.args.errors.now);
      breaks = subst (λ (m : Points). length m.breaks + count_by is_break (drop 0 script) ≤ 64) none (omega (arith, b));
      watches = subst (λ (m : Points). length m.watches + count_by is_watch (drop 0 script) ≤ 64) none (omega (arith, w));
      read = refl;
      write = refl;
      errors = refl;
    }

pub obey-requires-clause-within : goal.obey-requires-clause-within
obey-requires-clause-within g c =
    let script = c.args.script.now in
    let here : slice_get script c.walk.k ≡ Some c.command_at-command.result.now = subst (λ (cs : List Command). slice_get cs c.walk.k ≡ Some c.command_at-command.result.now) c.commands-commands.ensures.commands c.command_at-command.ensures in
    let same = ap length c.commands-commands.ensures.commands in
    command_in script c.walk.k c.command_at-command.result.now c.commands-commands.ensures.script.within here (omega (arith, same))

pub add_if-requires : goal.add_if-requires
add_if-requires g c =
    let script = c.args.script.now in
    let k = c.walk.k in
    let command = c.command_at-command.result.now in
    let here : slice_get script k ≡ Some command = subst (λ (cs : List Command). slice_get cs k ≡ Some command) c.commands-commands.ensures.commands c.command_at-command.ensures in
    let same = ap length c.commands-commands.ensures.commands in
    let within : k < length script = omega (arith, same) in
    room_at script k command here within c.walk.points c.walk.invariant.breaks c.walk.invariant.watches

pub walk-preserved : goal.walk-preserved
walk-preserved g c =
    let script = c.args.script.now in
    let k = c.walk.k in
    let command = c.command_at-command.result.now in
    let here : slice_get script k ≡ Some command = subst (λ (cs : List Command). slice_get cs k ≡ Some command) c.commands-commands.ensures.commands c.command_at-command.ensures in
    let same = ap length c.commands-commands.ensures.commands in
    let within : k < length script = omega (arith, same) in
    let p = c.walk.machine.parts in
    let q = c.obey.new.machine.parts in
    record {
      failed = c.in-Done.ensures.done refl;
      leads = done_at script k command here within (session script c.args.budget) c.walk.points c.args.budget c.args.machine.now.parts p q (g.I.Source.left c.args.input.now) (g.I.Source.left c.walk.input) (g.I.Source.left c.obey.new.input)
          (g.O.Sink.held c.args.output.now) (g.O.Sink.held c.walk.output) (g.O.Sink.held c.obey.new.output) (g.E.Sink.held c.args.errors.now) (g.E.Sink.held c.walk.errors) (g.E.Sink.held c.obey.new.errors)
          c.walk.invariant.leads c.add_if.new.self c.add_if.ensures c.in-Done.ensures.obeys;
      so_far = points_next script k command here within c.walk.points c.add_if.new.self c.add_if.ensures c.walk.invariant.so_far;
      stood = stands_next script k command here within c.walk.points c.walk.invariant.so_far c.args.budget c.args.machine.now.parts p (g.I.Source.left c.args.input.now) (g.I.Source.left c.walk.input) c.walk.invariant.stood
          q (g.I.Source.left c.obey.new.input) c.in-Done.ensures.obeys.state;
      whole = comes_next script k command here within c.walk.points c.walk.invariant.so_far c.args.budget c.args.machine.now.parts p (g.I.Source.left c.args.input.now) (g.I.Source.left c.walk.input) c.walk.invariant.stood
          q (g.I.Source.left c.obey.new.input) (g.O.Sink.held c.args.output.now) (g.O.Sink.held c.walk.output) (g.O.Sink.held c.obey.new.output) (g.E.Sink.held c.args.errors.now) (g.E.Sink.held c.walk.errors) (g.E.Sink.held c.obey.new.errors) c.walk.invariant.whole
          (comes_of (obeyed command c.walk.points c.args.budget) p q (g.I.Source.left c.walk.input) (g.I.Source.left c.obey.new.input) (g.O.Sink.held c.walk.output) (g.O.Sink.held c.obey.new.output) (g.E.Sink.held c.walk.errors) (g.E.Sink.held c.obey.new.errors) Done c.in-Done.ensures.obeys);
      breaks = breaks_at script k command here within c.walk.points c.add_if.new.self c.add_if.ensures c.walk.invariant.breaks;
      watches = watches_at script k command here within c.walk.points c.add_if.new.self c.add_if.ensures c.walk.invariant.watches;
      read = c.in-Done.ensures.read_cause.kept (λ (h : Done ≡ ReadFault). cc) ∙ c.walk.invariant.read;
      write = c.in-Done.ensures.write_cause.kept (λ (h : Done ≡ WriteFault). cc) ∙ c.walk.invariant.write;
      errors = c.in-Done.ensures.errors_cause.kept (λ (h : Done ≡ ErrorsFault). cc) ∙ c.walk.invariant.errors;
    }

pub returns-in_default : goal.returns-in_default
returns-in_default g c =
    let script = c.args.script.now in
    let k = c.walk.k in
    let command = c.command_at-command.result.now in
    let here : slice_get script k ≡ Some command = subst (λ (cs : List Command). slice_get cs k ≡ Some command) c.commands-commands.ensures.commands c.command_at-command.ensures in
    let same = ap length c.commands-commands.ensures.commands in
    let within : k < length script = omega (arith, same) in
    let p = c.walk.machine.parts in
    let q = c.obey.new.machine.parts in
    let o = broken_at script k command here within (session script c.args.budget) c.walk.points c.args.budget c.args.machine.now.parts p q (g.I.Source.left c.args.input.now) (g.I.Source.left c.walk.input) (g.I.Source.left c.obey.new.input)
    (g.O.Sink.held c.args.output.now) (g.O.Sink.held c.walk.output) (g.O.Sink.held c.obey.new.output) (g.E.Sink.held c.args.errors.now) (g.E.Sink.held c.walk.errors) (g.E.Sink.held c.obey.new.errors)
    c.walk.invariant.leads c.obey.result c.in_default.not-Done c.obey.ensures.obeys in
    record {
      state = o.state;
      input = o.input;
      output = o.output;
      errors = o.errors;
      stands = stands_broken script k command here within c.walk.points c.walk.invariant.so_far c.args.budget c.args.machine.now.parts p (g.I.Source.left c.args.input.now) (g.I.Source.left c.walk.input) c.walk.invariant.stood
          c.obey.new.machine (g.I.Source.left c.obey.new.input) c.obey.result c.obey.ensures.leaves;
      done = λ h. absurd (c.in_default.not-Done h);
      line = c.obey.ensures.leaves.line;
      unspent = c.obey.ensures.leaves.unspent;
      unended = c.obey.ensures.leaves.unended;
      read_cause = causes_later _ _ _ _ c.walk.invariant.read c.obey.ensures.read_cause;
      write_cause = causes_later _ _ _ _ c.walk.invariant.write c.obey.ensures.write_cause;
      errors_cause = causes_later _ _ _ _ c.walk.invariant.errors c.obey.ensures.errors_cause;
      read_named = c.obey.ensures.read_named;
      write_named = c.obey.ensures.leaves.write_named;
      errors_named = c.obey.ensures.errors_named;
      whole_output = λ h. output_broken script k command here within c.walk.points c.walk.invariant.so_far c.args.budget c.args.machine.now.parts p (g.I.Source.left c.args.input.now) (g.I.Source.left c.walk.input) c.walk.invariant.stood
          c.obey.new.machine (g.I.Source.left c.obey.new.input) (g.O.Sink.held c.args.output.now) (g.O.Sink.held c.walk.output) (g.O.Sink.held c.obey.new.output) (g.E.Sink.held c.args.errors.now) (g.E.Sink.held c.walk.errors) (g.E.Sink.held c.obey.new.errors) c.obey.result c.walk.invariant.whole c.obey.ensures.leaves.whole c.obey.ensures.spares
          (failed_by c.obey.new.machine.failed c.obey.result c.obey.ensures.leaves.line h) h;
      whole_errors = errors_broken script k command here within c.walk.points c.walk.invariant.so_far c.args.budget c.args.machine.now.parts p (g.I.Source.left c.args.input.now) (g.I.Source.left c.walk.input) c.walk.invariant.stood
          c.obey.new.machine (g.I.Source.left c.obey.new.input) (g.O.Sink.held c.args.output.now) (g.O.Sink.held c.walk.output) (g.O.Sink.held c.obey.new.output) (g.E.Sink.held c.args.errors.now) (g.E.Sink.held c.walk.errors) (g.E.Sink.held c.obey.new.errors) c.obey.result c.walk.invariant.whole c.obey.ensures.leaves.whole c.obey.ensures.spares;
    }

pub returns : goal.returns
returns g c =
    let script = c.args.script.now in
    let same = ap length c.commands-commands.ensures.commands in
    let over : length script ≤ c.walk.k = omega (arith, same) in
    let o = all_done (session script c.args.budget) script c.walk.k c.walk.points c.args.budget c.args.machine.now.parts c.walk.machine.parts (g.I.Source.left c.args.input.now) (g.I.Source.left c.walk.input)
    (g.O.Sink.held c.args.output.now) (g.O.Sink.held c.walk.output) (g.E.Sink.held c.args.errors.now) (g.E.Sink.held c.walk.errors) over c.walk.invariant.leads in
    record {
      state = o.state;
      input = o.input;
      output = o.output;
      errors = o.errors;
      stands = stands_whole script c.walk.k c.args.budget c.args.machine.now.parts c.walk.machine (g.I.Source.left c.args.input.now) (g.I.Source.left c.walk.input) c.walk.invariant.failed c.walk.invariant.stood;
      done = λ _. c.walk.invariant.failed;
      line = λ _. λ (h : is_fault Done ≡ true). cc;
      unspent = λ h. never (c.walk.machine.parts.steps < c.args.budget) c.walk.machine.failed c.walk.invariant.failed h;
      unended = λ h. never (is_none c.walk.machine.parts.ended ≡ true) c.walk.machine.failed c.walk.invariant.failed h;
      read_cause = causes_none _ _ _ c.walk.invariant.read (λ (h : Done ≡ ReadFault). cc);
      write_cause = causes_none _ _ _ c.walk.invariant.write (λ (h : Done ≡ WriteFault). cc);
      errors_cause = causes_none _ _ _ c.walk.invariant.errors (λ (h : Done ≡ ErrorsFault). cc);
      read_named = λ (h : Done ≡ ReadFault). cc;
      write_named = λ _. λ (h : Done ≡ WriteFault). cc;
      errors_named = λ (h : Done ≡ ErrorsFault). cc;
      whole_output = either (Done ≡ ReadFault) (Done ≡ ErrorsFault) _ (λ (h : Done ≡ ReadFault). cc) (λ (h : Done ≡ ErrorsFault). cc);
      whole_errors = either (Done ≡ ReadFault) (Done ≡ WriteFault) _ (λ (h : Done ≡ ReadFault). cc) (λ (h : Done ≡ WriteFault). cc);
    }
