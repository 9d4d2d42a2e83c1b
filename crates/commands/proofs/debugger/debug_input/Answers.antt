use Rattle.std.proofs.Common.{◌≡◌, map, string_bytes, refl, sym, ap, subst, length, true, Bool, ◌||◌, ap₂, count_by, is_some}
use Rattle.elf_image.specs.Images.{seen_image}
use Rattle.emu_model.specs.Marks.{Marks}
use Rattle.emu_model.specs.State.{Parts}
use Rattle.command_lines.specs.Outcome.{outcome_of_session_back}
use Rattle.command_lines.specs.declared.ending.Ending.{Ending}
use Rattle.command_lines.specs.declared.ending.Ending.TheVariants.{OutOfMemory}
use Rattle.commands.specs.Programs.{opening_of}
use Rattle.commands.specs.Sweeping.{ends_swept}
use Rattle.commands.proofs.Sessions.{back_wrote, kind_back}
use Rattle.commands.proofs.WholeInputs.{nothing_written}
use Rattle.commands.proofs.debugger.debug_input.Goals as goal

pub session_back-requires-clause-marks : goal.session_back-requires-clause-marks
session_back-requires-clause-marks g c = ap (λ (m : Marks). length m) c.in-Ok.ensures.marks

pub session_back-requires-clause-none : goal.session_back-requires-clause-none
session_back-requires-clause-none g c = ap (λ (m : Marks). count_by is_some m) c.in-Ok.ensures.marks

pub session_back-requires-clause-steps : goal.session_back-requires-clause-steps
session_back-requires-clause-steps g c = ap (λ (m : Parts). m.steps) c.in-Ok.ensures.parts

pub session_back-requires-clause-going : goal.session_back-requires-clause-going
session_back-requires-clause-going g c = ap₂ (λ (m : Parts) (f : Bool). is_some m.ended || f) c.in-Ok.ensures.parts c.in-Ok.ensures.failed

pub returns-in-Err-clause-outcome : goal.returns-in-Err-clause-outcome
returns-in-Err-clause-outcome g c =
    nothing_written (outcome_of_session_back c.args.script.now c.args.program.now.budget (opening_of c.args.bytes.now (seen_image c.args.image.now) (map string_bytes c.args.words.now) c.args.program.now) c.args.input.now) OutOfMemory (g.O.Sink.held c.args.output.now) (g.E.Sink.held c.args.errors.now) refl

pub returns-in-Ok-clause-outcome : goal.returns-in-Ok-clause-outcome
returns-in-Ok-clause-outcome g c =
    back_wrote c.args.script.now c.args.program.now.budget c.in-Ok.machine.parts (opening_of c.args.bytes.now (seen_image c.args.image.now) (map string_bytes c.args.words.now) c.args.program.now) c.args.input.now _ _ _ _ c.session_back.result c.ending_of_back.result
    c.in-Ok.ensures.parts c.ending_of_back.ensures c.session_back.ensures.output c.session_back.ensures.errors

pub returns-in-Ok-clause-kind : goal.returns-in-Ok-clause-kind
returns-in-Ok-clause-kind g c = subst (λ (x : Ending). ends_swept x ≡ true) (sym c.ending_of_back.ensures) (kind_back c.session_back.result)
