use Rattle.std.proofs.Common.{◌≡◌, ◌+◌, ◌*◌, List, ℕ, [], ◌∷◌, ap, sym, ◌∙◌, arith, length, map, string_bytes}
use Rattle.std.proofs.lemmas.List.{length-map}
use Rattle.emu_model.specs.Access.{Memory}
use Rattle.emu_model.specs.Pages.{with_bytes}
use Rattle.emu_system.specs.Stack.{argument_addresses, arguments_at, last_words, word_bytes}
use Rattle.elf_image.specs.Images.{seen_image}
use Rattle.emu_system.specs.StackLaws.{few_bytes}
use Rattle.emu_machine.proofs.Laid.{start_words_written}
use Rattle.emu_machine.proofs.stack.put_start_words.Goals as goal

pub put_addresses-requires-clause-arguments : goal.put_addresses-requires-clause-arguments
put_addresses-requires-clause-arguments c =
    let few = few_bytes (map string_bytes c.args.args.now) c.requires.arguments in
    let at = c.requires.layout.arguments in
    omega arith

pub returns-clause-bytes : goal.returns-clause-bytes
returns-clause-bytes c =
    let args = map string_bytes c.args.args.now in
    let image = seen_image c.args.image.now in
    let a = c.args.layout.words in
    let at = c.requires.layout in
    let count : length c.args.args.now ≡ length args = sym (length-map c.args.args.now string_bytes) in
    c.put_words-2.ensures.bytes
    ∙ ap (λ (m : Memory). with_bytes m (a + 8 * (length c.args.args.now + 1)) (word_bytes c.last_words.result)) (c.put_addresses.ensures.bytes ∙ ap (λ (m : Memory). with_bytes m (a + 8) (word_bytes (argument_addresses c.args.layout.arguments args))) c.put_words.ensures.bytes)
    ∙ ap (λ n. with_bytes (with_bytes (with_bytes c.args.pages.now.memory a (word_bytes (n ∷ []))) (a + 8) (word_bytes (argument_addresses c.args.layout.arguments args))) (a + 8 * (n + 1)) (word_bytes c.last_words.result)) count
    ∙ ap (λ n. with_bytes (with_bytes (with_bytes c.args.pages.now.memory a (word_bytes (length args ∷ []))) (a + 8) (word_bytes (argument_addresses n args))) (a + 8 * (length args + 1)) (word_bytes c.last_words.result)) at.arguments
    ∙ ap (λ (l : List ℕ). with_bytes (with_bytes (with_bytes c.args.pages.now.memory a (word_bytes (length args ∷ []))) (a + 8) (word_bytes (argument_addresses (arguments_at args) args))) (a + 8 * (length args + 1)) (word_bytes l))
    (c.last_words.ensures ∙ ap (λ n. last_words image n) at.random)
    ∙ start_words_written image args c.args.pages.now.memory a
