use Rattle.std.proofs.Common.{◌∙◌, ℕ, Ok, sym, ap}
use Rattle.std.specs.Prelude.{option_and_then, unwrap_or}
use Rattle.asm_image.proofs.Assembled.{made}
use Rattle.listing_model.specs.File.{code_base}
use Rattle.listing_model.specs.Image.{address_of}
use Rattle.asm_image.proofs.assembly.build.Goals as goal

pub returns-in-Ok-elf_file : goal.returns-in-Ok-elf_file
returns-in-Ok-elf_file g c = λ l are.
    made g.T.Instructions.statements l c.args.code.now c.args.values.now c.args.labels.now c.args.entry.now c.args.holes.now c.args.bss c.entry_address-start.result
    c.fill.new.code c.fill.new.values are (c.in-Ok.ensures l.pieces are.pieces) (sym c.is_empty.ensures ∙ c.if-is_empty.false)
    (c.entry_address-start.ensures
    ∙ ap (λ (n : ℕ). unwrap_or (option_and_then (address_of n c.args.labels.now) c.args.entry.now) code_base) c.fill.auto.code)
    ∙ ap Ok (sym c.in-Ok-elf_file.ensures)
