-- A line of the table by its number, in the part in which it stands.
use Rattle.std.proofs.Common.{◌≡◌, ℕ, ◌-◌, ◌≤◌, ◌<◌, [], get_or, refl}
use Rattle.text_code.proofs.LineParts.{in_first_part, in_second_part, in_third_part, in_last_part}
use Rattle.asm_a64.specs.Data.{data_lines}
use Rattle.asm_a64.specs.Flow.{flow_lines}
use Rattle.asm_a64.specs.Memory.{memory_lines, ls_reg_lines}
use Rattle.asm_a64.specs.BitMoves.{last_lines}
use Rattle.asm_a64.specs.Table.{a64_lines}
use Rattle.asm_a64.specs.declared.lines.TheConstants as text_line

pub in_data : (k : ℕ) → k < text_line.BRANCH → get_or data_lines k [] ≡ get_or a64_lines k []
unfolding a64_lines data_lines flow_lines memory_lines ls_reg_lines
in_data k h = in_first_part data_lines flow_lines memory_lines last_lines text_line.BRANCH (text_line.LS_UNSIGNED - text_line.BRANCH) (text_line.F_MOVE - text_line.LS_UNSIGNED) k refl refl refl h

pub in_flow : (k : ℕ) → text_line.BRANCH ≤ k → k < text_line.LS_UNSIGNED → get_or flow_lines (k - text_line.BRANCH) [] ≡ get_or a64_lines k []
unfolding a64_lines data_lines flow_lines memory_lines ls_reg_lines
in_flow k l h = in_second_part data_lines flow_lines memory_lines last_lines text_line.BRANCH (text_line.LS_UNSIGNED - text_line.BRANCH) (text_line.F_MOVE - text_line.LS_UNSIGNED) k refl refl refl l h

pub in_memory : (k : ℕ) → text_line.LS_UNSIGNED ≤ k → k < text_line.F_MOVE → get_or memory_lines (k - text_line.LS_UNSIGNED) [] ≡ get_or a64_lines k []
unfolding a64_lines data_lines flow_lines memory_lines ls_reg_lines
in_memory k l h = in_third_part data_lines flow_lines memory_lines last_lines text_line.BRANCH (text_line.LS_UNSIGNED - text_line.BRANCH) (text_line.F_MOVE - text_line.LS_UNSIGNED) k refl refl refl l h

pub in_last : (k : ℕ) → text_line.F_MOVE ≤ k → get_or last_lines (k - text_line.F_MOVE) [] ≡ get_or a64_lines k []
unfolding a64_lines data_lines flow_lines memory_lines ls_reg_lines
in_last k l = in_last_part data_lines flow_lines memory_lines last_lines text_line.BRANCH (text_line.LS_UNSIGNED - text_line.BRANCH) (text_line.F_MOVE - text_line.LS_UNSIGNED) k refl refl refl l
