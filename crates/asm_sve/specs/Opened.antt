-- All texts of the table, written out for proofs.
use Rattle.sve_insn.specs.Opened.{lines_open}
use Rattle.asm_sve.specs.KindsOpened.{memory_texts_open, data_texts_open, move_texts_open, predicate_texts_open}
use Rattle.asm_sve.specs.Table.{memory_texts, data_texts, move_texts, predicate_texts, sve_lines, sve_patterns}

-- Opens the table, every line of it, and its patterns: what a test over the texts names.
unfoldable pub texts_open : Unit {0}
unfolding lines_open sve_patterns sve_lines memory_texts data_texts move_texts predicate_texts memory_texts_open data_texts_open move_texts_open predicate_texts_open
texts_open = tt
