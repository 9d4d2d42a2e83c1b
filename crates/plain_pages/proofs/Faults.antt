-- Why pages can't be mapped, by the slots.
use Rattle.std.proofs.Common.{◌≡◌, ◌+◌, ℕ, Bool, List, length, Option, None, sym, ap, ◌∙◌, nat_lt}
use Rattle.std.proofs.lemmas.List.{length-map}
use Rattle.emu_model.specs.Access.{Memory}
use Rattle.emu_model.specs.Pages.{least_mapped, is_over_limit}
use Rattle.plain_pages.specs.declared.slots.Slot.{Slot}
use Rattle.plain_pages.specs.declared.pages.Pages.TheInside.{Inside}
use Rattle.guest_pages.specs.MapFault.{first_fault, map_fault}
use Rattle.plain_pages.specs.Slots.{pages_of, IsAscending, entry_of, entries_of, memory_of}
use Rattle.guest_pages.proofs.Maps.{len_is}

-- where no page of the range is mapped
pub fault_is : (a : Inside) (m : Memory) (first count : ℕ) (l : List Slot) (o : Option ℕ) (b : Bool) → memory_of a ≡ m → IsAscending (entries_of a.slots.items) → l ≡ a.slots.items
    → o ≡ least_mapped (pages_of (entries_of l)) first count → o ≡ None → nat_lt a.limit (length a.slots.items + count) ≡ b → map_fault m first count ≡ first_fault None b
fault_is a m first count l o b view rising items least none over =
    ap (λ (m : Memory). map_fault m first count) (sym view)
    ∙ ap (λ (l : List Slot). first_fault (least_mapped (pages_of (entries_of l)) first count) (is_over_limit (memory_of a) count)) (sym items)
    ∙ ap (λ (o : Option ℕ). first_fault o (is_over_limit (memory_of a) count)) (sym least ∙ none)
    ∙ ap (λ n. first_fault None (nat_lt a.limit (n + count))) (len_is (entries_of a.slots.items) rising ∙ length-map a.slots.items entry_of)
    ∙ ap (λ b. first_fault None b) over
