use Rattle.std.proofs.Common.{◌≡◌, map, string_bytes, refl, sym, ◌∙◌, true, false, Some}
use Rattle.elf_image.specs.Images.{seen_image}
use Rattle.commands.specs.Programs.{opening_of}
use Rattle.commands.specs.Meets.{now}
use Rattle.commands.proofs.Sessions.{ahead_in, ahead_is, ahead_outcome, gone_back, gone_forward}
use Rattle.command_lines.specs.Outcome.{outcome_of_commands}
use Rattle.commands.specs.Ahead.{InForward}
use Rattle.commands.specs.Whole.{InSession}
use Rattle.commands.proofs.Keeping.{keeps_as}
use Rattle.commands.proofs.debugger.debug_script.Goals as goal

pub returns-then-has_back-clause-outcome : goal.returns-then-has_back-clause-outcome
returns-then-has_back-clause-outcome g c =
    gone_back c.args.program.now.budget (opening_of c.args.bytes.now (seen_image c.args.image.now) (map string_bytes c.args.words.now) c.args.program.now) c.args.script.now (now (g.I.Source.left c.args.input.now) (g.O.Sink.held c.args.output.now) (g.E.Sink.held c.args.errors.now)) _ c.debug_back.result
    (sym c.has_back.ensures ∙ c.if-has_back.true) c.debug_back.ensures.outcome

pub returns-else-has_back-clause-outcome : goal.returns-else-has_back-clause-outcome
returns-else-has_back-clause-outcome g c =
    gone_forward c.args.program.now.budget (opening_of c.args.bytes.now (seen_image c.args.image.now) (map string_bytes c.args.words.now) c.args.program.now) c.args.script.now (now (g.I.Source.left c.args.input.now) (g.O.Sink.held c.args.output.now) (g.E.Sink.held c.args.errors.now)) _ c.debug_forward.result
    (sym c.has_back.ensures ∙ c.if-has_back.false) refl c.debug_forward.ensures.outcome

pub returns-then-has_back-clause-memory_first : goal.returns-then-has_back-clause-memory_first
returns-then-has_back-clause-memory_first g c = λ forward. absurd (let t : true ≡ false = sym c.if-has_back.true ∙ c.has_back.ensures ∙ forward in cc)

pub returns-else-has_back-clause-read_unwritten : goal.returns-else-has_back-clause-read_unwritten
returns-else-has_back-clause-read_unwritten g c = λ back. absurd (let t : false ≡ true = sym c.if-has_back.false ∙ c.has_back.ensures ∙ back in cc)

pub returns-then-has_back-clause-whole : goal.returns-then-has_back-clause-whole
returns-then-has_back-clause-whole g c = λ forward. absurd (let t : true ≡ false = sym c.if-has_back.true ∙ c.has_back.ensures ∙ forward in cc)

pub returns-else-has_back-clause-whole : goal.returns-else-has_back-clause-whole
returns-else-has_back-clause-whole g c = λ forward.
    let m = (opening_of c.args.bytes.now (seen_image c.args.image.now) (map string_bytes c.args.words.now) c.args.program.now) in
    let budget = c.args.program.now.budget in
    let script = c.args.script.now in
    keeps_as (InForward script m budget c.debug_forward.result (g.I.Source.left c.debug_forward.new.input)) (InSession script m budget c.debug_forward.result (g.I.Source.left c.debug_forward.new.input)) (ahead_outcome script budget m) (λ i. Some (outcome_of_commands i budget m script)) c.debug_forward.result (g.O.Sink.held c.args.output.now) (g.O.Sink.held c.debug_forward.new.output) (g.E.Sink.held c.args.errors.now) (g.E.Sink.held c.debug_forward.new.errors) (g.I.Source.left c.args.input.now)
    (λ i st passed. ahead_in script m budget c.debug_forward.result (g.I.Source.left c.debug_forward.new.input) i st forward refl passed)
    (λ i. ahead_is script budget m i forward refl)
    c.debug_forward.ensures.whole
