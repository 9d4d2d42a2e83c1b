-- The tests of the patterns, computed over the whole table.
use Rattle.asm_sve.specs.Table.{sve_lines, sve_patterns}
use Rattle.asm_sve.specs.Opened.{texts_open}
use Rattle.std.proofs.Common.{◌≡◌, true, refl}
use Rattle.text_code.specs.Reads.{all_lines_sound}
use Rattle.text_model.proofs.Tests.{all_readable, all_apart, all_written, all_aimed_well, all_reach_well}

pub readable : all_readable sve_patterns ≡ true
unfolding texts_open
readable = refl

pub written : all_written sve_patterns ≡ true
unfolding texts_open
written = refl

pub aimed_well : all_aimed_well sve_patterns ≡ true
unfolding texts_open
aimed_well = refl

pub apart : all_apart sve_patterns ≡ true
unfolding texts_open
apart = refl

pub reach_well : all_reach_well sve_patterns ≡ true
unfolding texts_open
reach_well = refl

-- the code can compute with them
pub lines_sound : all_lines_sound sve_lines ≡ true
unfolding texts_open
lines_sound = refl
