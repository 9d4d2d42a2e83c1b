-- The index, computed.
use Rattle.std.proofs.Common.{refl}
use Rattle.asm_a64.specs.Data.{data_lines}
use Rattle.asm_a64.specs.Flow.{flow_lines}
use Rattle.asm_a64.specs.Memory.{memory_lines}
use Rattle.asm_a64.specs.BitMoves.{last_lines}
use Rattle.asm_a64.specs.Aliases.{aliases}
use Rattle.asm_a64.specs.Table.{a64_lines, line_texts}
use Rattle.asm_a64.specs.Opened.{texts_open}
use Rattle.asm_a64.proofs.names.all_names.Goals as goal

pub returns-clause-first : goal.returns-clause-first
returns-clause-first c = refl

pub returns-clause-second : goal.returns-clause-second
returns-clause-second c = refl

pub returns-clause-third : goal.returns-clause-third
returns-clause-third c = refl

pub returns-clause-searchable : goal.returns-clause-searchable
returns-clause-searchable c = refl

pub returns-clause-found : goal.returns-clause-found
returns-clause-found c = refl

pub returns-clause-patterns : goal.returns-clause-patterns
unfolding texts_open a64_lines data_lines flow_lines memory_lines last_lines aliases line_texts
returns-clause-patterns c = refl

pub returns-clause-known : goal.returns-clause-known
unfolding texts_open a64_lines data_lines flow_lines memory_lines last_lines aliases line_texts
returns-clause-known c = refl

pub returns-clause-within : goal.returns-clause-within
unfolding texts_open a64_lines data_lines flow_lines memory_lines last_lines aliases line_texts
returns-clause-within c = refl
