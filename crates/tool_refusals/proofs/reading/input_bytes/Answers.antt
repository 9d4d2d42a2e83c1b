use Rattle.std.proofs.Common.{Err, refl, ap, ◌∙◌}
use Rattle.io_gate.specs.declared.whole_source.ReadEnd.{ReadEnd}
use Rattle.command_lines.specs.declared.ending.Ending.TheVariants.{Done, TooLong}
use Rattle.command_model.specs.Sweep.{stream_limit}
use Rattle.io_gate.specs.declared.whole_source.ReadEnd.TheVariants as reads
use Rattle.commands.proofs.WholeInputs.{stops_as}
use Rattle.tool_refusals.proofs.Endings.{long_leaves, long_over, read_leaves, said_not, wanting_late}
use Rattle.tool_refusals.proofs.reading.input_bytes.Goals as goal

pub returns-in-Err-Failed-clause-leaves : goal.returns-in-Err-Failed-clause-leaves
returns-in-Err-Failed-clause-leaves g c = read_leaves (c.read_all.ensures.cause.rose (c.in-Err-Failed.is ∙ ap (λ (x : ReadEnd). Err x) c.in-Err-Failed.field-0-is)) tt refl

pub returns-in-Err-OutOfMemory-clause-leaves : goal.returns-in-Err-OutOfMemory-clause-leaves
returns-in-Err-OutOfMemory-clause-leaves g c = wanting_late tt refl

pub returns-in-Err-TooLong-clause-leaves : goal.returns-in-Err-TooLong-clause-leaves
returns-in-Err-TooLong-clause-leaves g c = long_leaves c.say.result c.say.ensures tt

pub returns-in-Err-TooLong-clause-undone : goal.returns-in-Err-TooLong-clause-undone
returns-in-Err-TooLong-clause-undone g c = said_not (TooLong stream_limit) c.say.result Done c.say.ensures (λ e. cc) (λ e. cc)

pub returns-in-Err-TooLong-clause-over : goal.returns-in-Err-TooLong-clause-over
returns-in-Err-TooLong-clause-over g c =
    long_over (g.I.Source.left c.args.input.now) (g.I.Source.left c.read_all.new.input) c.say.result
    (stops_as (g.I.Source.left c.args.input.now) (g.I.Source.left c.read_all.new.input) stream_limit c.read_all.result c.in-Err-TooLong.field-0 reads.TooLong c.in-Err-TooLong.is c.in-Err-TooLong.field-0-is c.read_all.ensures.content)
    c.say.ensures
