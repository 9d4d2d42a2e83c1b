use Rattle.std.proofs.Common.{List, ℕ, ap, ◌∙◌, arith, map, string_bytes}
use Rattle.emu_model.specs.Access.{Memory}
use Rattle.emu_model.specs.Pages.{is_over_limit, least_mapped, mapped, with_bytes}
use Rattle.emu_system.specs.Image.{stack_page_count}
use Rattle.emu_system.specs.Stack.{argument_bytes, arguments_at, first_stack_page, random_at, random_bytes, stack_pieces, read_write, start_words, word_bytes}
use Rattle.elf_image.specs.Images.{seen_image}
use Rattle.emu_system.specs.StackLaws.{few_bytes}
use Rattle.emu_machine.proofs.Laid.{pieces_within}
use Rattle.emu_machine.proofs.Loading.{free_of, has_pages, when_ok}
use Rattle.emu_machine.proofs.stack.load_stack.Goals as goal

pub put_arguments-requires : goal.put_arguments-requires
put_arguments-requires c =
    let few = few_bytes (map string_bytes c.args.args.now) c.requires.arguments in
    let at = c.requires.layout.arguments in
    omega arith

pub returns-clause-pages : goal.returns-clause-pages
returns-clause-pages c =
    let old = c.args.pages.now.memory in
    let args = map string_bytes c.args.args.now in
    let image = seen_image c.args.image.now in
    let words : List ℕ = word_bytes (start_words image args) in
    let bytes : List ℕ = argument_bytes args in
    let blank : Memory = mapped old first_stack_page stack_page_count read_write in
    let at = c.requires.layout in
    has_pages old first_stack_page stack_page_count read_write (stack_pieces image args) c.put_start_words.new.pages.memory
    (pieces_within image args c.requires.arguments)
    (free_of (least_mapped old.pages first_stack_page stack_page_count) (is_over_limit old stack_page_count) c.requires.free)
    (c.put_start_words.ensures.bytes
    ∙ ap (λ (m : Memory). with_bytes m c.args.layout.words words) (c.copy.ensures.bytes ∙ ap (λ (m : Memory). with_bytes m c.args.layout.random c.random_bytes.result) c.put_arguments.ensures.bytes)
    ∙ ap (λ (m : Memory). with_bytes (with_bytes (with_bytes m c.args.layout.arguments bytes) c.args.layout.random c.random_bytes.result) c.args.layout.words words) (when_ok c.map.result (record {}) (c.map.ensures.granted c.requires.free) c.map.ensures.mapped)
    ∙ ap (λ n. with_bytes (with_bytes (with_bytes blank n bytes) c.args.layout.random c.random_bytes.result) c.args.layout.words words) at.arguments
    ∙ ap (λ n. with_bytes (with_bytes (with_bytes blank (arguments_at args) bytes) n c.random_bytes.result) c.args.layout.words words) at.random
    ∙ ap (λ (l : List ℕ). with_bytes (with_bytes (with_bytes blank (arguments_at args) bytes) (random_at args) l) c.args.layout.words words) c.random_bytes.ensures
    ∙ ap (λ n. with_bytes (with_bytes (with_bytes blank (arguments_at args) bytes) (random_at args) random_bytes) n words) at.words)
