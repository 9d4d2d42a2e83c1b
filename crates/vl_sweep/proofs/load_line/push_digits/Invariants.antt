use Rattle.std.proofs.Common.{◌≡◌, ◌++◌, take}
use Rattle.command_model.specs.Load.{bytes_text}
use Rattle.vl_sweep.proofs.load_line.push_digits.Given as goal

abbrev pub invariant-digits : goal.invariant-digits
invariant-digits l = l.lines.held ≡ l.fn.lines.held ++ bytes_text (take l.at l.bytes)
