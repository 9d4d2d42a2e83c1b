use Rattle.std.proofs.Common.{sym}
use Rattle.asm_text.proofs.Reading.{kept}
use Rattle.asm_text.specs.Stored.{argument_of}
use Rattle.asm_text.proofs.lists.add_argument.Goals as goal

pub returns-in_ok-keep-in-Some-clause-added : goal.returns-in_ok-keep-in-Some-clause-added
returns-in_ok-keep-in-Some-clause-added c = record {
  argument = argument_of c.args.text.now c.in-Some.argument;
  part = c.in-Some.ensures.found;
  stored = λ xs s. kept c.args.size xs (argument_of c.args.text.now c.in-Some.argument) c.in_ok-stored-in-Some.field-0 c.args.numbers.now c.keep.new.numbers
      (sym c.in_ok-stored-in-Some.ensures) c.in_ok-keep-in-Some.ensures s;
}
