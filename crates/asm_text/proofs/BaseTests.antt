-- What is computed over the A64 lines and their patterns.
use Rattle.std.proofs.Common.{◌≡◌, ℕ, ◌&&◌, ◌||◌, Bool, true, not, [], ◌∷◌, refl}
use Rattle.emu_bits.specs.Rows.{Place, ◌to◌, is_among}
use Rattle.a64_insn.specs.Data.{logic_imm}
use Rattle.asm_a64.specs.Data.{data_lines}
use Rattle.asm_a64.specs.Flow.{flow_lines}
use Rattle.asm_a64.specs.Memory.{memory_lines}
use Rattle.asm_a64.specs.BitMoves.{last_lines}
use Rattle.asm_a64.specs.Aliases.{aliases}
use Rattle.a64_insn.specs.Table.{a64_table}
use Rattle.a64_insn.specs.Opened.{lines_open}
use Rattle.a64_insn.specs.Rows.{line_number}
use Rattle.a64_insn.specs.declared.lines.TheConstants as line
use Rattle.asm_a64.specs.Table.{line_texts, a64_lines, a64_patterns}
use Rattle.asm_a64.specs.Opened.{texts_open}
use Rattle.text_model.specs.Reading.{Pattern, has_target}
use Rattle.text_model.proofs.Tests.{all_places}
use Rattle.asm_text.proofs.Kept.{are_clear}
use Rattle.asm_text.proofs.ReadBy.{every}
use Rattle.asm_text.proofs.Found.{AreNumbered}
use Rattle.asm_text.proofs.Settled.{settled, misses_but, masks_well}

pub numbered : AreNumbered line_number 0 a64_table
unfolding lines_open a64_table
numbered = ((λ n vs. refl), ((λ n vs. refl), ((λ n vs. refl), ((λ n vs. refl), ((λ n vs. refl), ((λ n vs. refl), ((λ n vs. refl), ((λ n vs. refl), ((λ n vs. refl), ((λ n vs. refl), ((λ n vs. refl), ((λ n vs. refl), ((λ n vs. refl), ((λ n vs. refl), ((λ n vs. refl), ((λ n vs. refl), ((λ n vs. refl), ((λ n vs. refl), ((λ n vs. refl), ((λ n vs. refl), ((λ n vs. refl), ((λ n vs. refl), ((λ n vs. refl), ((λ n vs. refl), ((λ n vs. refl), ((λ n vs. refl), ((λ n vs. refl), ((λ n vs. refl), ((λ n vs. refl), ((λ n vs. refl), ((λ n vs. refl), ((λ n vs. refl), ((λ n vs. refl), ((λ n vs. refl), ((λ n vs. refl), ((λ n vs. refl), ((λ n vs. refl), ((λ n vs. refl), ((λ n vs. refl), ((λ n vs. refl), ((λ n vs. refl), ((λ n vs. refl), ((λ n vs. refl), tt)))))))))))))))))))))))))))))))))))))))))))

-- the fields of a bitmask
abbrev pub mask : Place
mask = 22 to 10

pub masks : every (masks_well mask logic_imm) a64_patterns ≡ true
unfolding texts_open a64_patterns a64_lines data_lines flow_lines memory_lines last_lines aliases line_texts
masks = refl

-- the places of lines with targets
abbrev pub has_targets : ℕ → Bool
has_targets k = is_among k (line.ADR ∷ line.BRANCH ∷ line.BRANCH_COND ∷ line.COMPARE ∷ line.TEST ∷ line.LS_LITERAL ∷ [])

-- a pattern with a target has words in these lines alone
abbrev pub aims_well : Pattern → Bool
aims_well p = are_clear (settled p) (all_places p.slots) && (not (has_target p.slots) || misses_but has_targets 0 a64_table p)

pub aims : every aims_well a64_patterns ≡ true
unfolding texts_open a64_table a64_patterns a64_lines data_lines flow_lines memory_lines last_lines aliases line_texts
aims = refl
