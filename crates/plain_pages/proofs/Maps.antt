-- The map that a list of entries stands for.
use Rattle.std.proofs.Common.{◌≡◌, ◌<◌, ◌+◌, ℕ, zero, suc, List, [], ◌∷◌, ◌++◌, get_or, set, sym, ap, ◌∙◌, cond, arith, append_assoc}
use Rattle.std.proofs.lemmas.List.{map-append}
use Rattle.emu_model.specs.Access.{Page}
use Rattle.emu_model.specs.declared.access.Rights.{Rights}
use Rattle.emu_model.specs.Pages.{zeroed_page}
use Rattle.plain_pages.specs.declared.slots.Slot.{Slot}
use Rattle.plain_pages.specs.Slots.{Entry, IsAscending, IsAbove, IsAt, entry_of, entries_of, page_in, changed, zeroed_entries}
use Rattle.guest_pages.proofs.Ordered.{tied_same, tied_apart}
use Rattle.plain_pages.proofs.Ordered.{all_at}

-- ---- a page that is changed

-- ---- what is found among slots

-- the slot of a page, replaced by one with the page changed
pub set_changed : (l : List Slot) (f : Page → Page) (page i : ℕ) (s : Slot) → IsAt l page i → IsAscending (entries_of l) → s.number ≡ page → page_in s ≡ f (page_in (get_or l i s)) → entries_of (set l i s) ≡ changed f page (entries_of l)
set_changed [] f page i s at h number is = absurd (omega (arith, at.within))
set_changed (t ∷ l) f page zero s at h number is =
    (λ k. (number k, is k) ∷ entries_of l)
    ∙ ap (λ n. (n, f (page_in t)) ∷ entries_of l) (sym (at.number s))
    ∙ ap (λ b. cond b ((t.number, f (page_in t)) ∷ entries_of l) (entry_of t ∷ changed f page (entries_of l))) (sym (tied_same page t.number (sym (at.number s))))
set_changed (t ∷ l) f page (suc i) s at h number is =
    let above : t.number < (get_or l i s).number = all_at (IsAbove t.number) entry_of l h.0 i s (omega (arith, at.within)) in
    let apart : page ≡ t.number → ⊥ = λ e. omega (arith, at.number s) in
    ap (λ r. entry_of t ∷ r) (set_changed l f page i s (record { within = omega (arith, at.within); number = λ d. at.number d }) h.1 number is)
    ∙ ap (λ b. cond b ((t.number, f (page_in t)) ∷ entries_of l) (entry_of t ∷ changed f page (entries_of l))) (sym (tied_apart page t.number apart))

-- one more zeroed slot
pub zeroed_next : (l : List Slot) (s : Slot) (number left : ℕ) (rights : Rights) (all : List Entry) → entry_of s ≡ (number, zeroed_page rights) → entries_of l ++ zeroed_entries number (suc left) rights ≡ all → entries_of (l ++ s ∷ []) ++ zeroed_entries (number + 1) left rights ≡ all
zeroed_next l s number left rights all is h =
    ap (λ es. es ++ zeroed_entries (number + 1) left rights) (map-append entry_of l (s ∷ []))
    ∙ append_assoc (entries_of l) (entry_of s ∷ []) (zeroed_entries (number + 1) left rights)
    ∙ ap (λ (e : Entry). entries_of l ++ e ∷ zeroed_entries (number + 1) left rights) is
    ∙ h
