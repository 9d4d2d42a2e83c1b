use Rattle.std.proofs.Common.{Some, map, string_bytes, ap, refl, ◌≡◌, ℕ, subst}
use Rattle.dbg_model.specs.Forward.{session}
use Rattle.elf_image.specs.Images.{seen_image}
use Rattle.emu_machine.specs.declared.machine.Machine.{Machine}
use Rattle.command_lines.specs.Outcome.{outcome_of_session}
use Rattle.command_lines.specs.declared.ending.Ending.TheVariants.{OutOfMemory}
use Rattle.emu_system.specs.Start.{with_input}
use Rattle.commands.specs.Programs.{opening_of}
use Rattle.commands.specs.Meets.{now}
use Rattle.commands.proofs.Meetings.{nothing_meets}
use Rattle.commands.proofs.Sessions.{session_of}
use Rattle.emu_model.specs.State.{Parts}
use Rattle.commands.specs.Ahead.{InForward}
use Rattle.commands.proofs.Keeping.{keeps_as, keeps_none}
use Rattle.commands.proofs.debugger.debug_forward.Goals as goal

pub returns-in-Err-clause-outcome : goal.returns-in-Err-clause-outcome
returns-in-Err-clause-outcome g c =
    nothing_meets (λ i. Some (outcome_of_session i (session c.args.script.now c.args.program.now.budget (with_input (opening_of c.args.bytes.now (seen_image c.args.image.now) (map string_bytes c.args.words.now) c.args.program.now) i)))) OutOfMemory
    (g.I.Source.left c.args.input.now) (g.O.Sink.held c.args.output.now) (g.E.Sink.held c.args.errors.now) refl

pub returns-in-Ok-clause-outcome : goal.returns-in-Ok-clause-outcome
returns-in-Ok-clause-outcome g c =
    session_of c.args.script.now c.args.program.now.budget c.in-Ok.machine.parts (opening_of c.args.bytes.now (seen_image c.args.image.now) (map string_bytes c.args.words.now) c.args.program.now) (now (g.I.Source.left c.args.input.now) (g.O.Sink.held c.args.output.now) (g.E.Sink.held c.args.errors.now)) _ c.debug_machine.result
    (ap (λ (x : Machine). x.parts) c.in-Ok.ensures) c.debug_machine.ensures.outcome

pub returns-in-Err-clause-whole : goal.returns-in-Err-clause-whole
returns-in-Err-clause-whole g c = keeps_none (InForward c.args.script.now (opening_of c.args.bytes.now (seen_image c.args.image.now) (map string_bytes c.args.words.now) c.args.program.now) c.args.program.now.budget OutOfMemory (g.I.Source.left c.args.input.now)) (λ i. Some (outcome_of_session i (session c.args.script.now c.args.program.now.budget (with_input (opening_of c.args.bytes.now (seen_image c.args.image.now) (map string_bytes c.args.words.now) c.args.program.now) i)))) (g.O.Sink.held c.args.output.now) (g.O.Sink.held c.args.output.now) (g.E.Sink.held c.args.errors.now) (g.E.Sink.held c.args.errors.now) OutOfMemory (g.I.Source.left c.args.input.now) (λ e. cc) (λ e. cc) (λ e. cc)

pub returns-in-Ok-clause-whole : goal.returns-in-Ok-clause-whole
returns-in-Ok-clause-whole g c =
    let m : Parts = c.in-Ok.machine.parts in
    let budget : ℕ = c.args.program.now.budget in
    let of : m ≡ (opening_of c.args.bytes.now (seen_image c.args.image.now) (map string_bytes c.args.words.now) c.args.program.now) = ap (λ (x : Machine). x.parts) c.in-Ok.ensures in
    keeps_as (InForward c.args.script.now m budget c.debug_machine.result (g.I.Source.left c.debug_machine.new.input)) (InForward c.args.script.now (opening_of c.args.bytes.now (seen_image c.args.image.now) (map string_bytes c.args.words.now) c.args.program.now) c.args.program.now.budget c.debug_machine.result (g.I.Source.left c.debug_machine.new.input)) (λ i. Some (outcome_of_session i (session c.args.script.now budget (with_input m i)))) (λ i. Some (outcome_of_session i (session c.args.script.now c.args.program.now.budget (with_input (opening_of c.args.bytes.now (seen_image c.args.image.now) (map string_bytes c.args.words.now) c.args.program.now) i)))) c.debug_machine.result (g.O.Sink.held c.args.output.now) (g.O.Sink.held c.debug_machine.new.output) (g.E.Sink.held c.args.errors.now) (g.E.Sink.held c.debug_machine.new.errors) (g.I.Source.left c.args.input.now)
    (λ i st passed. subst (λ (x : Parts). InForward c.args.script.now x budget c.debug_machine.result (g.I.Source.left c.debug_machine.new.input) i st) of passed)
    (λ i. ap (λ (x : Parts). Some (outcome_of_session i (session c.args.script.now budget (with_input x i)))) of) c.debug_machine.ensures.whole
