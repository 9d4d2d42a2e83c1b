use Rattle.std.proofs.Common.{◌<◌, length, arith}
use Rattle.elf_symbols.proofs.Lookups.{last_reaching-step}
use Rattle.elf_symbols.proofs.lookup.symbol_at.Goals as goal

pub loop-symbol-preserved : goal.loop-symbol-preserved
loop-symbol-preserved c =
    let within : c.loop-symbol.symbol-index < length c.args.symbols.now = omega arith in
    last_reaching-step c.args.address c.args.symbols.now c.loop-symbol.symbol-index _ _ _ within c.loop-symbol.invariant c.or_before-found.ensures
