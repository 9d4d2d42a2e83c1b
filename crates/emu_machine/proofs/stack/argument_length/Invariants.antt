use Rattle.std.proofs.Common.{◌≡◌, ◌+◌, length, map, drop, string_bytes}
use Rattle.emu_system.specs.Stack.{argument_bytes}
use Rattle.emu_machine.proofs.stack.argument_length.Given as goal

abbrev pub invariant-loop-arg : goal.invariant-loop-arg
invariant-loop-arg l = l.length + length (argument_bytes (map string_bytes (drop l.arg-index l.args))) ≡ length (argument_bytes (map string_bytes l.args))
