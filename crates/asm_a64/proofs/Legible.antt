-- The tests of the patterns, computed.
use Rattle.std.proofs.Common.{◌≡◌, true, refl}
use Rattle.text_model.proofs.Tests.{all_readable, all_apart, all_written, all_aimed_well, all_reach_well}
use Rattle.asm_a64.specs.Data.{data_lines}
use Rattle.asm_a64.specs.Flow.{flow_lines}
use Rattle.asm_a64.specs.Memory.{memory_lines}
use Rattle.asm_a64.specs.BitMoves.{last_lines}
use Rattle.text_code.specs.Reads.{all_lines_sound}
use Rattle.asm_a64.specs.Aliases.{aliases}
use Rattle.asm_a64.specs.Table.{line_texts, a64_lines}
use Rattle.asm_a64.specs.Opened.{printed_patterns, texts_open}

pub readable : all_readable printed_patterns ≡ true
unfolding texts_open printed_patterns line_texts
readable = refl

pub written : all_written printed_patterns ≡ true
unfolding texts_open printed_patterns line_texts
written = refl

pub aimed_well : all_aimed_well printed_patterns ≡ true
unfolding texts_open printed_patterns line_texts
aimed_well = refl

pub apart : all_apart printed_patterns ≡ true
unfolding texts_open printed_patterns line_texts
apart = refl

pub reach_well : all_reach_well printed_patterns ≡ true
unfolding texts_open printed_patterns line_texts
reach_well = refl

pub lines_sound : all_lines_sound a64_lines ≡ true
unfolding texts_open a64_lines data_lines flow_lines memory_lines last_lines aliases line_texts
lines_sound = refl
