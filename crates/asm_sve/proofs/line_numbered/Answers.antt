-- A line by its number, in the part of the table in which it stands.
use Rattle.std.proofs.Common.{◌-◌, List, [], get_or, ap, ◌∙◌}
use Rattle.sve_insn.specs.declared.lines.TheConstants.{BINARY, BITMASK_Z, CMP_VEC}
use Rattle.text_model.specs.Reading.{Pattern}
use Rattle.asm_sve.proofs.Numbered.{in_memory, in_data, in_move, in_predicate}
use Rattle.asm_sve.proofs.line_numbered.Goals as goal

pub returns-then-number-lt-BINARY : goal.returns-then-number-lt-BINARY
returns-then-number-lt-BINARY c = c.line_of.ensures ∙ ap (λ (ls : List (List Pattern)). get_or ls c.args.number []) c.memory_lines.ensures ∙ in_memory c.args.number c.if-number-lt-BINARY.true

pub returns-then-number-lt-BITMASK_Z : goal.returns-then-number-lt-BITMASK_Z
returns-then-number-lt-BITMASK_Z c = c.line_of-then-number-lt-BITMASK_Z.ensures ∙ ap (λ (ls : List (List Pattern)). get_or ls (c.args.number - BINARY) []) c.data_lines.ensures ∙ in_data c.args.number c.if-number-lt-BINARY.false c.if-number-lt-BITMASK_Z.true

pub returns-then-number-lt-CMP_VEC : goal.returns-then-number-lt-CMP_VEC
returns-then-number-lt-CMP_VEC c = c.line_of-then-number-lt-CMP_VEC.ensures ∙ ap (λ (ls : List (List Pattern)). get_or ls (c.args.number - BITMASK_Z) []) c.move_lines.ensures ∙ in_move c.args.number c.if-number-lt-BITMASK_Z.false c.if-number-lt-CMP_VEC.true

pub returns-else-number-lt-CMP_VEC : goal.returns-else-number-lt-CMP_VEC
returns-else-number-lt-CMP_VEC c = c.line_of-else-number-lt-CMP_VEC.ensures ∙ ap (λ (ls : List (List Pattern)). get_or ls (c.args.number - CMP_VEC) []) c.predicate_lines.ensures ∙ in_predicate c.args.number c.if-number-lt-CMP_VEC.false
