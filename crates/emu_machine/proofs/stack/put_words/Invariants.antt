use Rattle.std.proofs.Common.{◌≡◌, ◌+◌, ◌*◌, drop}
use Rattle.emu_model.specs.Pages.{with_bytes}
use Rattle.emu_system.specs.Stack.{word_bytes}
use Rattle.emu_machine.proofs.stack.put_words.Given as goal

abbrev pub invariant-loop-word : goal.invariant-loop-word
invariant-loop-word l = record {
  place : l.at ≡ l.address + 8 * l.word-index;
  rest : with_bytes l.pages.memory l.at (word_bytes (drop l.word-index l.words)) ≡ with_bytes l.fn.pages.memory l.address (word_bytes l.words);
  marks : l.pages.marks ≡ l.fn.pages.marks;
}
