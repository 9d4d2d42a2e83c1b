use Rattle.std.proofs.Common.{◌<◌, length, arith}
use Rattle.tool_sites.proofs.Endings.{last_ending-step}
use Rattle.tool_sites.proofs.beside.last_ending.Goals as goal

pub loop-symbol-preserved : goal.loop-symbol-preserved
loop-symbol-preserved c =
    let within : c.loop-symbol.symbol-index < length c.args.symbols.now = omega arith in
    last_ending-step c.args.address c.args.symbols.now c.loop-symbol.symbol-index _ _ _ within c.loop-symbol.invariant c.or_before-found.ensures
