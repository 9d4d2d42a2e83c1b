use Rattle.std.proofs.Common.{◌≡◌, ◌+◌, ◌*◌, length, map, drop, string_bytes}
use Rattle.emu_model.specs.Pages.{with_bytes}
use Rattle.emu_system.specs.Stack.{argument_addresses, argument_bytes, word_bytes}
use Rattle.emu_machine.proofs.stack.put_addresses.Given as goal

abbrev pub invariant-loop-arg : goal.invariant-loop-arg
invariant-loop-arg l = record {
  place : l.at ≡ l.address + 8 * l.arg-index;
  argument : l.argument + length (argument_bytes (map string_bytes (drop l.arg-index l.args))) ≡ l.first + length (argument_bytes (map string_bytes l.args));
  rest : with_bytes l.pages.memory l.at (word_bytes (argument_addresses l.argument (map string_bytes (drop l.arg-index l.args)))) ≡ with_bytes l.fn.pages.memory l.address (word_bytes (argument_addresses l.first (map string_bytes l.args)));
  marks : l.pages.marks ≡ l.fn.pages.marks;
}
