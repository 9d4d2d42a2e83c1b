-- A line of the table by its number, in the part in which it stands.
use Rattle.std.proofs.Common.{◌≡◌, ℕ, ◌-◌, ◌≤◌, ◌<◌, [], get_or, refl}
use Rattle.sve_insn.specs.declared.lines.TheConstants.{BINARY, BITMASK_Z, CMP_VEC}
use Rattle.text_code.proofs.LineParts.{in_first_part, in_second_part, in_third_part, in_last_part}
use Rattle.asm_sve.specs.Table.{memory_texts, data_texts, move_texts, predicate_texts, sve_lines}

pub in_memory : (k : ℕ) → k < BINARY → get_or memory_texts k [] ≡ get_or sve_lines k []
unfolding sve_lines memory_texts data_texts move_texts
in_memory k h = in_first_part memory_texts data_texts move_texts predicate_texts BINARY (BITMASK_Z - BINARY) (CMP_VEC - BITMASK_Z) k refl refl refl h

pub in_data : (k : ℕ) → BINARY ≤ k → k < BITMASK_Z → get_or data_texts (k - BINARY) [] ≡ get_or sve_lines k []
unfolding sve_lines memory_texts data_texts move_texts
in_data k l h = in_second_part memory_texts data_texts move_texts predicate_texts BINARY (BITMASK_Z - BINARY) (CMP_VEC - BITMASK_Z) k refl refl refl l h

pub in_move : (k : ℕ) → BITMASK_Z ≤ k → k < CMP_VEC → get_or move_texts (k - BITMASK_Z) [] ≡ get_or sve_lines k []
unfolding sve_lines memory_texts data_texts move_texts
in_move k l h = in_third_part memory_texts data_texts move_texts predicate_texts BINARY (BITMASK_Z - BINARY) (CMP_VEC - BITMASK_Z) k refl refl refl l h

pub in_predicate : (k : ℕ) → CMP_VEC ≤ k → get_or predicate_texts (k - CMP_VEC) [] ≡ get_or sve_lines k []
unfolding sve_lines memory_texts data_texts move_texts
in_predicate k l = in_last_part memory_texts data_texts move_texts predicate_texts BINARY (BITMASK_Z - BINARY) (CMP_VEC - BITMASK_Z) k refl refl refl l
