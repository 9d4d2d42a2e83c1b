-- The patterns of the two tables begin apart: computed.
use Rattle.asm_sve.specs.Table.{sve_patterns}
use Rattle.asm_sve.specs.Opened.{texts_open}
use Rattle.std.proofs.Common.{◌≡◌, true, refl}
use Rattle.asm_a64.specs.Data.{data_lines}
use Rattle.asm_a64.specs.Flow.{flow_lines}
use Rattle.asm_a64.specs.Memory.{memory_lines}
use Rattle.asm_a64.specs.BitMoves.{last_lines}
use Rattle.asm_a64.specs.Aliases.{aliases}
use Rattle.asm_a64.specs.Table.{a64_lines, a64_patterns, line_texts}
use Rattle.asm_a64.specs.Opened.{texts_open as a64_texts_open}
use Rattle.dis_text.proofs.Starts.{all_start_apart}

pub apart : all_start_apart a64_patterns sve_patterns ≡ true
unfolding texts_open a64_texts_open a64_patterns a64_lines data_lines flow_lines memory_lines last_lines aliases line_texts
apart = refl
