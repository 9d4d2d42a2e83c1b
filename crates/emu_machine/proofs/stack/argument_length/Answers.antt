use Rattle.std.proofs.Common.{arith, map, string_bytes}
use Rattle.emu_system.specs.StackLaws.{few_bytes}
use Rattle.emu_machine.proofs.stack.argument_length.Goals as goal

pub overflow_add-length-in-loop-arg : goal.overflow_add-length-in-loop-arg
overflow_add-length-in-loop-arg c = let few = few_bytes (map string_bytes c.args.args.now) c.requires in omega arith

pub returns-clause-small : goal.returns-clause-small
returns-clause-small c = let few = few_bytes (map string_bytes c.args.args.now) c.requires in omega arith
