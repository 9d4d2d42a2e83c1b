-- The texts of all A64 instructions. The order of the lines is this project's own; where the texts are from, the files
-- of patterns say.
use Rattle.std.specs.Prelude.{List, [], ◌∷◌, ◌++◌}
use Rattle.text_model.specs.Reading.{Pattern}
use Rattle.text_model.specs.Writing.{flat}
use Rattle.asm_a64.specs.Data.{data_lines}
use Rattle.asm_a64.specs.Flow.{flow_lines}
use Rattle.asm_a64.specs.Memory.{memory_lines_with, memory_lines, ls_reg_texts}
use Rattle.asm_a64.specs.BitMoves.{last_lines, f_move_texts, move_imm_texts}

-- the patterns of each line, in the order of the table's lines
unfoldable pub line_texts : List (List Pattern)
line_texts =
    data_lines ++ (flow_lines ++ (memory_lines_with (ls_reg_texts ∷ []) ++ (f_move_texts ∷ move_imm_texts ∷ [])))

-- the same, those of offsets in registers in six parts, and behind them the patterns of other names
unfoldable pub a64_lines : List (List Pattern)
a64_lines = data_lines ++ (flow_lines ++ (memory_lines ++ last_lines))

-- What a statement is read by: the patterns that print, and behind them those of other names.
unfoldable pub a64_patterns : List Pattern
a64_patterns = flat a64_lines
