use Rattle.std.proofs.Common.{◌≡◌, ℕ, List, Option, sym, ap, ◌∙◌}
use Rattle.elf_symbols.specs.Lookup.{address_of}
use Rattle.tool_sites.specs.Guards.{beside_buffer, beside_table}
use Rattle.tool_sites.proofs.guards.beside_guards.Goals as goal

pub returns-in-Some : goal.returns-in-Some
returns-in-Some c =
    c.beside_buffer.ensures ∙ ap (beside_buffer c.args.address) c.nearest.ensures
    ∙ ap (λ (o : Option ℕ). beside_table c.args.memory.now.memory c.args.address o) (sym c.in-Some.is ∙ c.address_of.ensures ∙
    ap (λ (n : List ℕ). address_of n c.args.symbols.now) c.as_bytes.ensures.value)
