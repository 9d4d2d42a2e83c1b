-- Each word of the table has a pattern: one test of the entries, which the checker computes.
use Rattle.std.proofs.Common.{◌≡◌, true, List, ◌++◌, refl}
use Rattle.sve_insn.specs.Table.{sve_table}
use Rattle.asm_sve.specs.Table.{sve_lines}
use Rattle.asm_sve.specs.Opened.{texts_open}
use Rattle.asm_sve.proofs.Entries.{Entry, memory_entries, data_entries, move_entries, predicate_entries}
use Rattle.asm_sve.proofs.Shown.{are_total, AreShown, shown_by_test}

abbrev entries : List Entry
entries = memory_entries ++ (data_entries ++ (move_entries ++ predicate_entries))

tested : are_total entries ≡ true
unfolding texts_open memory_entries data_entries move_entries predicate_entries
tested = refl

pub all_shown : AreShown sve_lines sve_table
unfolding texts_open memory_entries data_entries move_entries predicate_entries
all_shown = shown_by_test entries tested
