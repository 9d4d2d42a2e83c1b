-- What contracts see of pages that can be marked: the memory, and beside it its marks and the frames that are spare.
use Rattle.std.specs.Prelude.{ℕ, List, Option, None, replicate}
use Rattle.std.specs.Ordering.{nat_cmp}
use Rattle.std.specs.FinMap.{FinMap}
use Rattle.std.proofs.Common.{refl}
use Rattle.std.specs.Coded.{Coded, code_by, coded×, coded_ℕ, coded_list, coded_option}
use Rattle.emu_model.specs.Access.{Memory, Page}
use Rattle.emu_model.specs.Codes.{coded_memory, coded_pages}

-- marks, each none or pages by number
abbrev pub Marks : Type 0
Marks = List (Option (FinMap nat_cmp Page))

-- the memory; its marks, of which an object without marks has an empty list; and the number of frames that no page and
-- no mark has
pub record MarkedMemory : Type 0 where
  pub memory : Memory
  pub marks : Marks
  pub spare : ℕ

-- sixteen marks, all none
abbrev pub fresh_marks : Marks
fresh_marks = replicate 16 None

abbrev pub coded_marks : Coded Marks
coded_marks = coded_list (coded_option coded_pages)

abbrev pub coded_marked_memory : Coded MarkedMemory
coded_marked_memory = code_by (Memory × (Marks × ℕ)) (coded× coded_memory (coded× coded_marks coded_ℕ))
    (λ m. (m.memory, (m.marks, m.spare))) (λ p. record { memory = p.0; marks = p.1.0; spare = p.1.1 }) (λ _. refl)
