-- What is computed over the SVE lines and their patterns.
use Rattle.asm_sve.specs.Table.{sve_patterns}
use Rattle.asm_sve.specs.Opened.{texts_open}
use Rattle.sve_insn.specs.Table.{memory_lines, data_lines, move_lines, predicate_lines, sve_table}
use Rattle.sve_insn.specs.Opened.{lines_open}
use Rattle.sve_insn.specs.Rows.{line_number}
use Rattle.std.proofs.Common.{◌≡◌, true, ◌++◌, refl}
use Rattle.emu_bits.specs.Rows.{Place, ◌to◌}
use Rattle.sve_insn.specs.Lanes.{bitmask_z}
use Rattle.sve_insn.specs.declared.lines.TheConstants.{LOAD_Z, BINARY, BITMASK_Z, CMP_VEC}
use Rattle.asm_text.proofs.ReadBy.{every}
use Rattle.asm_text.proofs.Found.{AreNumbered, both_numbered}
use Rattle.asm_text.proofs.Settled.{masks_well}

memory_numbered : AreNumbered line_number LOAD_Z memory_lines
unfolding lines_open
memory_numbered = ((λ n vs. refl), ((λ n vs. refl), ((λ n vs. refl), ((λ n vs. refl), ((λ n vs. refl), ((λ n vs. refl), ((λ n vs. refl), ((λ n vs. refl), ((λ n vs. refl), ((λ n vs. refl), ((λ n vs. refl), ((λ n vs. refl), ((λ n vs. refl), ((λ n vs. refl), ((λ n vs. refl), ((λ n vs. refl), ((λ n vs. refl), ((λ n vs. refl), ((λ n vs. refl), ((λ n vs. refl), ((λ n vs. refl), ((λ n vs. refl), ((λ n vs. refl), ((λ n vs. refl), ((λ n vs. refl), ((λ n vs. refl), ((λ n vs. refl), ((λ n vs. refl), ((λ n vs. refl), ((λ n vs. refl), ((λ n vs. refl), ((λ n vs. refl), ((λ n vs. refl), ((λ n vs. refl), ((λ n vs. refl), ((λ n vs. refl), ((λ n vs. refl), tt)))))))))))))))))))))))))))))))))))))

data_numbered : AreNumbered line_number BINARY data_lines
unfolding lines_open
data_numbered = ((λ n vs. refl), ((λ n vs. refl), ((λ n vs. refl), ((λ n vs. refl), ((λ n vs. refl), ((λ n vs. refl), ((λ n vs. refl), ((λ n vs. refl), ((λ n vs. refl), ((λ n vs. refl), ((λ n vs. refl), ((λ n vs. refl), ((λ n vs. refl), ((λ n vs. refl), ((λ n vs. refl), ((λ n vs. refl), ((λ n vs. refl), ((λ n vs. refl), ((λ n vs. refl), ((λ n vs. refl), ((λ n vs. refl), ((λ n vs. refl), ((λ n vs. refl), tt)))))))))))))))))))))))

move_numbered : AreNumbered line_number BITMASK_Z move_lines
unfolding lines_open
move_numbered = ((λ n vs. refl), ((λ n vs. refl), ((λ n vs. refl), ((λ n vs. refl), ((λ n vs. refl), ((λ n vs. refl), ((λ n vs. refl), ((λ n vs. refl), ((λ n vs. refl), ((λ n vs. refl), ((λ n vs. refl), ((λ n vs. refl), ((λ n vs. refl), ((λ n vs. refl), ((λ n vs. refl), ((λ n vs. refl), ((λ n vs. refl), ((λ n vs. refl), ((λ n vs. refl), tt)))))))))))))))))))

predicate_numbered : AreNumbered line_number CMP_VEC predicate_lines
unfolding lines_open
predicate_numbered = ((λ n vs. refl), ((λ n vs. refl), ((λ n vs. refl), ((λ n vs. refl), ((λ n vs. refl), ((λ n vs. refl), ((λ n vs. refl), ((λ n vs. refl), ((λ n vs. refl), ((λ n vs. refl), ((λ n vs. refl), ((λ n vs. refl), ((λ n vs. refl), ((λ n vs. refl), ((λ n vs. refl), ((λ n vs. refl), ((λ n vs. refl), ((λ n vs. refl), ((λ n vs. refl), ((λ n vs. refl), ((λ n vs. refl), ((λ n vs. refl), ((λ n vs. refl), ((λ n vs. refl), ((λ n vs. refl), tt)))))))))))))))))))))))))

pub numbered : AreNumbered line_number LOAD_Z sve_table
unfolding sve_table memory_lines data_lines move_lines
numbered =
    both_numbered line_number LOAD_Z memory_lines (data_lines ++ (move_lines ++ predicate_lines)) memory_numbered
    (both_numbered line_number BINARY data_lines (move_lines ++ predicate_lines) data_numbered (both_numbered line_number BITMASK_Z move_lines predicate_lines move_numbered predicate_numbered))

-- the fields of a bitmask
abbrev pub mask : Place
mask = 17 to 5

pub masks : every (masks_well mask bitmask_z) sve_patterns ≡ true
unfolding texts_open
masks = refl
