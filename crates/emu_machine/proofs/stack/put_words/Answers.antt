use Rattle.std.proofs.Common.{List, ℕ, ap, sym, ◌∙◌, arith}
use Rattle.std.proofs.lemmas.List.{drop_all}
use Rattle.emu_model.specs.Pages.{with_bytes}
use Rattle.emu_system.specs.Stack.{word_bytes}
use Rattle.emu_machine.proofs.Laid.{no_words_written}
use Rattle.emu_machine.proofs.stack.put_words.Goals as goal

pub returns-clause-bytes : goal.returns-clause-bytes
returns-clause-bytes c =
    let m = c.loop-word.pages.memory in
    let at = c.loop-word.at in
    sym (no_words_written m at)
    ∙ ap (λ (ws : List ℕ). with_bytes m at (word_bytes ws)) (sym (drop_all c.loop-word.word-index c.args.words.now (omega arith)))
    ∙ c.loop-word.invariant.rest
