-- Where the frames of an arena lie, as one is taken, given back or cut off.
use Rattle.std.proofs.Common.{◌≡◌, ℕ, ◌+◌, ◌*◌, ◌<◌, List, length, get_or, sym, ap, subst, ◌∙◌, arith, Some, Option}
use Rattle.std.proofs.lemmas.List.{get_or_read}
use denote.RawPtr.{Ptr, block_ptr, block_of, count_of}
use Rattle.frame_arena.specs.Size.{frame_size}
use Rattle.frame_arena.specs.declared.memory.Memory.{Memory}
use Rattle.frame_arena.specs.declared.page.Page.{Page}
use Rattle.frame_arena.specs.Lending.{with_slot}
use Rattle.frame_arena.specs.declared.slot.Slot.{Slot}
use Rattle.frame_arena.specs.declared.slot.Slot.TheVariants.{Spare, Used}
use Rattle.frame_arena.specs.Slots.{no_page, page_in, with_others, IsSeat, IsSeated, AreSeated, IsRest}

pub seat_of : (p : Ptr) (ss : List Slot) (n : ℕ) (x : Slot) (page : Page) → n < length ss → x ≡ get_or ss n x → page_in x ≡ Some page → AreSeated p ss → IsSeat p n page.block page.place
seat_of p ss n x page l at e h = subst (IsSeated p n) e (subst (λ (s : Slot). IsSeated p n (page_in s)) (sym (get_or_read ss n x l at no_page)) (h n))

pub seat_as : (p : Ptr) (n b o d e : ℕ) → d ≡ b → e ≡ o → IsSeat p n b o → IsSeat p n d e
seat_as p n b o d e i j s = (i ∙ s.0, j ∙ s.1)

pub rest_at : (p : Ptr) (n m k j : ℕ) (r : Option Memory) → k ≡ n → j ≡ m → IsRest p n m r → IsRest p k j r
rest_at p n m k j r e f h = subst (λ (x : ℕ). IsRest p x j r) (sym e) (subst (λ (x : ℕ). IsRest p n x r) (sym f) h)

-- a page with other bytes or another count lies where it did
with_other : (p : Ptr) (n : ℕ) (s : Slot) (w : List ℕ) → IsSeated p n (page_in s) → IsSeated p n (page_in (with_slot s w))
with_other p n Spare w h = tt
with_other p n (Used k page) w h = h

other_count : (p : Ptr) (n : ℕ) (s : Slot) (k : ℕ) → IsSeated p n (page_in s) → IsSeated p n (page_in (with_others s k))
other_count p n Spare k h = tt
other_count p n (Used j page) k h = h

module _ (p : Ptr) (ss : List Slot) (n : ℕ) (x : Slot) (l : n < length ss) (at : x ≡ get_or ss n x) (h : AreSeated p ss) where
  here : IsSeated p n (page_in x)
  here = subst (λ (s : Slot). IsSeated p n (page_in s)) (sym (get_or_read ss n x l at no_page)) (h n)

  pub seat_with : (w : List ℕ) → IsSeated p n (page_in (with_slot x w))
  seat_with w = with_other p n x w here

  pub seat_counted : (k : ℕ) → IsSeated p n (page_in (with_others x k))
  seat_counted k = other_count p n x k here

-- the frame at block_ptr b o is cut off the rest, which is the memory r
module _ (p : Ptr) (n b o : ℕ) (r : Ptr) (at : r ≡ block_ptr (block_of p) (count_of p + n * frame_size)) (cut : r ≡ block_ptr b o) where
  pub cut_seat : IsSeat p n b o
  cut_seat = (ap block_of (sym cut ∙ at), ap count_of (sym cut ∙ at))

  pub cut_rest : (q : Ptr) → q ≡ block_ptr b (o + frame_size) → q ≡ block_ptr (block_of p) (count_of p + (n + 1) * frame_size)
  cut_rest q e = e ∙ ap (λ (x : ℕ). block_ptr x (o + frame_size)) cut_seat.0 ∙ ap (λ (x : ℕ). block_ptr (block_of p) x) (let s = cut_seat.1 in omega (arith, s))
