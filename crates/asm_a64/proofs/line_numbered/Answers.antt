-- A line by its number, in the part of the table in which it stands.
use Rattle.std.proofs.Common.{◌-◌, List, [], get_or, ap, ◌∙◌}
use Rattle.text_model.specs.Reading.{Pattern}
use Rattle.asm_a64.specs.declared.lines.TheConstants as text_line
use Rattle.asm_a64.proofs.Numbered.{in_data, in_flow, in_memory, in_last}
use Rattle.asm_a64.proofs.line_numbered.Goals as goal

pub returns-then-number-lt-BRANCH : goal.returns-then-number-lt-BRANCH
returns-then-number-lt-BRANCH c = c.line_of.ensures ∙ ap (λ (ls : List (List Pattern)). get_or ls c.args.number []) c.data_lines.ensures ∙ in_data c.args.number c.if-number-lt-BRANCH.true

pub returns-then-number-lt-LS_UNSIGNED : goal.returns-then-number-lt-LS_UNSIGNED
returns-then-number-lt-LS_UNSIGNED c = c.line_of-then-number-lt-LS_UNSIGNED.ensures ∙ ap (λ (ls : List (List Pattern)). get_or ls (c.args.number - text_line.BRANCH) []) c.flow_lines.ensures ∙ in_flow c.args.number c.if-number-lt-BRANCH.false c.if-number-lt-LS_UNSIGNED.true

pub returns-then-number-lt-F_MOVE : goal.returns-then-number-lt-F_MOVE
returns-then-number-lt-F_MOVE c = c.line_of-then-number-lt-F_MOVE.ensures ∙ ap (λ (ls : List (List Pattern)). get_or ls (c.args.number - text_line.LS_UNSIGNED) []) c.memory_lines.ensures ∙ in_memory c.args.number c.if-number-lt-LS_UNSIGNED.false c.if-number-lt-F_MOVE.true

pub returns-else-number-lt-F_MOVE : goal.returns-else-number-lt-F_MOVE
returns-else-number-lt-F_MOVE c = c.line_of-else-number-lt-F_MOVE.ensures ∙ ap (λ (ls : List (List Pattern)). get_or ls (c.args.number - text_line.F_MOVE) []) c.last_lines.ensures ∙ in_last c.args.number c.if-number-lt-F_MOVE.false
