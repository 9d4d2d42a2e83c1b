use Rattle.std.proofs.Common.{◌+◌, List, ℕ, ap, sym, ◌∙◌, arith, map, length, string_bytes, drop, [], ◌∷◌}
use Rattle.std.proofs.lemmas.List.{drop_all}
use Rattle.std.specs.Prelude.{String}
use Rattle.std.specs.Global.{Global}
use Rattle.emu_model.specs.Access.{Memory}
use Rattle.emu_model.specs.Pages.{with_bytes}
use Rattle.emu_system.specs.Stack.{argument_addresses, word_bytes}
use Rattle.emu_machine.proofs.Laid.{address_written, length_left, no_words_written}
use Rattle.emu_machine.proofs.stack.put_addresses.Goals as goal

pub loop-arg-preserved : goal.loop-arg-preserved
loop-arg-preserved c =
    let xs = c.args.args.now in
    let i = c.loop-arg.arg-index in
    let arg = c.arg-item.result in
    let m = c.loop-arg.pages.memory in
    let at = c.loop-arg.at in
    let first = c.loop-arg.argument in
    let bytes = c.as_bytes.ensures.value ∙ ap (λ (s : String Global). string_bytes s) c.arg-item.is in
    let left = length_left string_bytes xs i arg (omega arith) in
    let long = ap length bytes in
    let kept = c.loop-arg.invariant in
    record {
      place = omega arith;
      argument = omega arith;
      rest =
          ap (λ (n : Memory). with_bytes n (at + 8) (word_bytes (argument_addresses (first + (length c.as_bytes.result.now + 1)) (map string_bytes (drop (i + 1) xs))))) c.put_words.ensures.bytes
          ∙ ap (λ (l : List ℕ). with_bytes (with_bytes m at (word_bytes (first ∷ []))) (at + 8) (word_bytes (argument_addresses (first + (length l + 1)) (map string_bytes (drop (i + 1) xs))))) bytes
          ∙ address_written string_bytes xs i arg (omega arith) m at first
          ∙ kept.rest;
      marks = c.put_words.ensures.marks ∙ kept.marks;
    }

pub returns-clause-bytes : goal.returns-clause-bytes
returns-clause-bytes c =
    let m = c.loop-arg.pages.memory in
    let at = c.loop-arg.at in
    sym (no_words_written m at)
    ∙ ap (λ (ss : List (String Global)). with_bytes m at (word_bytes (argument_addresses c.loop-arg.argument (map string_bytes ss)))) (sym (drop_all c.loop-arg.arg-index c.args.args.now (omega arith)))
    ∙ c.loop-arg.invariant.rest
