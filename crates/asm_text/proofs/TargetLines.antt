-- The patterns of lines with targets, as the program finds them.
use Rattle.std.proofs.Common.{◌≡◌, ℕ, zero, suc, true, List, [], ◌∷◌, get_or, refl, ap, ◌∙◌}
use Rattle.std.proofs.lemmas.Bool.{and_parts}
use Rattle.asm_a64.specs.Data.{data_lines}
use Rattle.asm_a64.specs.Flow.{flow_lines}
use Rattle.asm_a64.specs.Memory.{memory_lines, ls_reg_lines}
use Rattle.asm_a64.specs.BitMoves.{last_lines}
use Rattle.a64_insn.specs.declared.lines.TheConstants as line
use Rattle.asm_a64.specs.declared.lines.TheConstants as text_line
use Rattle.asm_a64.specs.Table.{line_texts, a64_lines}
use Rattle.asm_a64.proofs.Legible.{lines_sound}
use Rattle.text_model.specs.Reading.{Pattern}
use Rattle.text_code.specs.Reads.{all_sound, all_lines_sound}

sound_at : (pss : List (List Pattern)) (k : ℕ) → all_lines_sound pss ≡ true → all_sound (get_or pss k []) ≡ true
sound_at [] k h = refl
sound_at (ps ∷ pss) zero h = (and_parts (all_sound ps) (all_lines_sound pss) h).0
sound_at (ps ∷ pss) (suc k) h = sound_at pss k (and_parts (all_sound ps) (all_lines_sound pss) h).1

pub sound_line : (ps : List Pattern) (k : ℕ) → ps ≡ get_or a64_lines k [] → all_sound ps ≡ true
sound_line ps k h = ap all_sound h ∙ sound_at a64_lines k lines_sound

pub adr_line : get_or a64_lines text_line.ADR [] ≡ get_or line_texts line.ADR []
unfolding a64_lines data_lines flow_lines memory_lines last_lines ls_reg_lines line_texts
adr_line = refl

pub branch_line : get_or a64_lines text_line.BRANCH [] ≡ get_or line_texts line.BRANCH []
unfolding a64_lines data_lines flow_lines memory_lines last_lines ls_reg_lines line_texts
branch_line = refl

pub branch_cond_line : get_or a64_lines text_line.BRANCH_COND [] ≡ get_or line_texts line.BRANCH_COND []
unfolding a64_lines data_lines flow_lines memory_lines last_lines ls_reg_lines line_texts
branch_cond_line = refl

pub compare_line : get_or a64_lines text_line.COMPARE [] ≡ get_or line_texts line.COMPARE []
unfolding a64_lines data_lines flow_lines memory_lines last_lines ls_reg_lines line_texts
compare_line = refl

pub test_line : get_or a64_lines text_line.TEST [] ≡ get_or line_texts line.TEST []
unfolding a64_lines data_lines flow_lines memory_lines last_lines ls_reg_lines line_texts
test_line = refl

pub ls_literal_line : get_or a64_lines text_line.LS_LITERAL [] ≡ get_or line_texts line.LS_LITERAL []
unfolding a64_lines data_lines flow_lines memory_lines last_lines ls_reg_lines line_texts
ls_literal_line = refl
