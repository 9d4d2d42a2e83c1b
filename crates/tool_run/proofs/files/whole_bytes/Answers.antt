use Rattle.command_lines.specs.declared.ending.Ending.TheVariants.{FileFault, OutOfMemory}
use Rattle.tool_run.proofs.Reading.{reads_long, reads_nothing}
use Rattle.tool_run.proofs.files.whole_bytes.Goals as goal

pub returns-in-Err-Failed-clause-content : goal.returns-in-Err-Failed-clause-content
returns-in-Err-Failed-clause-content g c = reads_nothing (g.F.Images.named c.args.files.now) c.args.name.now FileFault
    (λ file. tt)

pub returns-in-Err-Missing-clause-content : goal.returns-in-Err-Missing-clause-content
returns-in-Err-Missing-clause-content g c = reads_nothing (g.F.Images.named c.args.files.now) c.args.name.now FileFault
    (λ file. tt)

pub returns-in-Err-TooLong-clause-content : goal.returns-in-Err-TooLong-clause-content
returns-in-Err-TooLong-clause-content g c = reads_long (g.F.Images.named c.args.files.now) c.args.name.now
    c.read_whole.result c.in-Err-TooLong.field-0 c.in-Err-TooLong.is c.in-Err-TooLong.field-0-is
    c.read_whole.ensures.content

pub returns-in-Err-OutOfMemory-clause-content : goal.returns-in-Err-OutOfMemory-clause-content
returns-in-Err-OutOfMemory-clause-content g c = reads_nothing (g.F.Images.named c.args.files.now) c.args.name.now
    OutOfMemory (λ file. tt)
