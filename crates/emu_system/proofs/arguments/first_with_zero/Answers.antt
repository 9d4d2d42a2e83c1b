use Rattle.std.proofs.Common.{◌∙◌, sym, not, string_bytes}
use Rattle.emu_system.specs.Arguments.{is_free_of_zeros}
use Rattle.emu_system.proofs.FirstWords.{position-map}
use Rattle.emu_system.proofs.arguments.first_with_zero.Goals as goal

pub returns-clause-place : goal.returns-clause-place
returns-clause-place c = c.place_of_zero.ensures.place ∙ sym (position-map (λ word. not (is_free_of_zeros word)) string_bytes c.args.words.now)
