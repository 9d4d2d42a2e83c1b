-- Bytes that are taken piece after piece, and stored one after the other.
use Rattle.std.proofs.Common.{◌≡◌, ◌<◌, ◌≤◌, ℕ, suc, ◌+◌, ◌-◌, ◌^◌, List, [], ◌∷◌, ◌++◌, length, take, drop, min, Option, Some, None, IfSome, Result, Ok, Err, true, false, refl, sym, ap, subst, ◌∙◌, arith}
use Rattle.std.proofs.Math.Seq.{take-add}
use Rattle.std.proofs.Math.Nat.{mod-mod}
use Rattle.std.proofs.lemmas.List.{drop-drop, take-append-drop, length-take, length-drop, length-append}
use Rattle.std.specs.Result.{IsErr}
use Rattle.io_gate.specs.Streams.{KeepsRest, TakesAtMost, TakesFirst}
use Rattle.emu_model.specs.declared.access.Kind.TheVariants.{Write}
use Rattle.emu_model.specs.Access.{Memory, address, allowed, refused}
use Rattle.emu_model.specs.AccessLaws.{length_bytes_at, with_bytes_split}
use Rattle.emu_model.specs.Pages.{bytes_at, with_bytes}
use Rattle.emu_model.specs.SoundState.{AreBytes}
use Rattle.guest_mem.specs.Slices.{to_page_end, memory_with_slice}
use Rattle.linux_calls.specs.Taken.{Takes, Took}
use Rattle.linux_calls.proofs.Bytes.{first_allowed, rest_granted}
use Rattle.linux_calls.proofs.Rewritten.{refused_written, slice_rewritten, written_same}

none_taken : (l : List ℕ) → take 0 l ≡ []
none_taken [] = refl
none_taken (b ∷ l) = refl

none_dropped : (l : List ℕ) → drop 0 l ≡ l
none_dropped [] = refl
none_dropped (b ∷ l) = refl

-- ---- nothing was taken

pub takes_none : (stored : List ℕ → Memory) (told : Option (List ℕ)) → Takes 0 stored (stored []) told told
takes_none stored told = record { taken = []; long = refl; memory = refl; first = none told }
  where
    none : (told : Option (List ℕ)) → IfSome told (λ bytes. ([] ≡ take 0 bytes) × (told ≡ Some (drop 0 bytes)))
    none None = tt
    none (Some bytes) = (sym (none_taken bytes), ap Some (sym (none_dropped bytes)))

-- ---- a piece that was taken to a slice of a page

module _ (E : Type 0) (m : Memory) (a most : ℕ) (word : a < 2 ^ 64) (old new : List ℕ) (was : old ≡ bytes_at m a (to_page_end a most)) (same : length new ≡ length old) (small : AreBytes new) where
  long : length new ≡ to_page_end a most
  long = same ∙ ap length was ∙ length_bytes_at (to_page_end a most) m a

  first_of : (n : ℕ) (told left : Option (List ℕ)) → TakesFirst {E = E} told left new (Ok n) → IfSome told (λ bytes. (take n new ≡ take n bytes) × (left ≡ Some (drop n bytes)))
  first_of n None left h = tt
  first_of n (Some bytes) left h = (h.2, h.1)

  pub took_piece : (told left : Option (List ℕ)) (r : Result ℕ E) → TakesAtMost r old → TakesFirst told left new r → KeepsRest old new r → Took (to_page_end a most) (with_bytes m a) (memory_with_slice m a new) told left r
  took_piece told left (Ok n) few first rest =
      let cut : length (take n new) ≡ n = omega (arith, length-take n new, few, same) in
      let is : new ≡ take n new ++ drop (length (take n new)) (bytes_at m a (to_page_end a most)) =
      sym (take-append-drop n new) ∙ ap (λ (l : List ℕ). take n new ++ l) (rest ∙ ap (λ (l : List ℕ). drop n l) was ∙ ap (λ k. drop k (bytes_at m a (to_page_end a most))) (sym cut)) in
      record {
        count = n;
        few = omega (arith, few, same, long);
        takes = record { taken = take n new; long = cut; memory = slice_rewritten m a most (take n new) new word small (omega (arith, cut, few, same, long)) is long; first = first_of n told left first };
        answer = refl;
      }
  took_piece told left (Err e) few first rest =
      let is : new ≡ [] ++ drop 0 (bytes_at m a (to_page_end a most)) = rest ∙ was ∙ sym (none_dropped (bytes_at m a (to_page_end a most))) in
      record {
        count = 0;
        few = omega arith;
        takes = record { taken = []; long = refl; memory = slice_rewritten m a most [] new word small (omega arith) is long; first = none told first };
        answer = tt;
      }
    where
      none : (told : Option (List ℕ)) → TakesFirst {E = E} told left new (Err e) → IfSome told (λ bytes. ([] ≡ take 0 bytes) × (left ≡ Some (drop 0 bytes)))
      none None h = tt
      none (Some bytes) h = (sym (none_taken bytes), h ∙ ap Some (sym (none_dropped bytes)))

-- ---- one after the other

pub both_first : (c n : ℕ) (xs ys : List ℕ) (told mid left : Option (List ℕ)) → IfSome told (λ bytes. (xs ≡ take c bytes) × (mid ≡ Some (drop c bytes))) → IfSome mid (λ bytes. (ys ≡ take n bytes) × (left ≡ Some (drop n bytes)))
    → IfSome told (λ bytes. (xs ++ ys ≡ take (c + n) bytes) × (left ≡ Some (drop (c + n) bytes)))
both_first c n xs ys None mid left p q = tt
both_first c n xs ys (Some bytes) mid left p q =
    let r : (ys ≡ take n (drop c bytes)) × (left ≡ Some (drop n (drop c bytes))) = subst (λ (o : Option (List ℕ)). IfSome o (λ bytes. (ys ≡ take n bytes) × (left ≡ Some (drop n bytes)))) p.1 q in (
      ap (λ (l : List ℕ). l ++ ys) p.0 ∙ ap (λ (l : List ℕ). take c bytes ++ l) r.0 ∙ sym (take-add c n bytes),
      r.1 ∙ ap Some (drop-drop n c bytes),
    )

pub takes_more : (m mid now : Memory) (a at b n : ℕ) (told left1 left2 : Option (List ℕ)) → b ≡ address (a + at) → Takes at (with_bytes m a) mid told left1 → Takes n (with_bytes mid b) now left1 left2 → Takes (at + n) (with_bytes m a) now told left2
takes_more m mid now a at b n told left1 left2 is p q =
    let wrapped : address b ≡ address (a + at) = ap address is ∙ mod-mod (a + at) (2 ^ 64) in
    record {
      taken = p.taken ++ q.taken;
      long = omega (arith, length-append p.taken q.taken, p.long, q.long);
      memory = q.memory
          ∙ written_same q.taken mid b (a + at) wrapped
          ∙ ap (λ (x : Memory). with_bytes x (a + at) q.taken) p.memory
          ∙ ap (λ k. with_bytes (with_bytes m a p.taken) (a + k) q.taken) (sym p.long)
          ∙ sym (with_bytes_split p.taken q.taken m a);
      first = both_first at n p.taken q.taken told left1 left2 p.first q.first;
    }

-- the rights of the rest of the range
pub rest_writable : (m mid now : Memory) (a count at b n : ℕ) (left1 left2 : Option (List ℕ)) → at + n ≤ count → Takes n (with_bytes mid b) now left1 left2 → refused mid (a + at) (count - at) Write ≡ None → refused now (a + (at + n)) (count - (at + n)) Write ≡ None
rest_writable m mid now a count at b n left1 left2 within q is =
    let e : n + (count - (at + n)) ≡ count - at = omega arith in
    let f : (a + at) + n ≡ a + (at + n) = omega arith in
    ap (λ (x : Memory). refused x (a + (at + n)) (count - (at + n)) Write) q.memory
    ∙ refused_written q.taken mid b (a + (at + n)) (count - (at + n)) Write
    ∙ ap (λ k. refused mid k (count - (at + n)) Write) (sym f)
    ∙ rest_granted n (count - (at + n)) mid (a + at) Write (ap (λ k. refused mid (a + at) k Write) e ∙ is)

-- the first byte of the rest may be written
pub next_writable : (m : Memory) (a count at b : ℕ) → at < count → b ≡ address (a + at) → refused m (a + at) (count - at) Write ≡ None → allowed m Write b ≡ true
next_writable m a count at b below is h =
    let e : count - at ≡ suc (count - (at + 1)) = omega arith in
    ap (λ q. allowed m Write q) is ∙ first_allowed m (a + at) (count - (at + 1)) Write (ap (λ k. refused m (a + at) k Write) (sym e) ∙ h)

-- ---- the same, by the answer of the call that took them

pub counted : {E : Type 0} (most n : ℕ) (stored : List ℕ → Memory) (now : Memory) (told left : Option (List ℕ)) → Took {E = E} most stored now told left (Ok n) → Takes n stored now told left × (n ≤ most)
counted most n stored now told left p = (subst (λ k. Takes k stored now told left) (sym p.answer) p.takes, omega (arith, p.few, p.answer))

pub took_none_more : {E : Type 0} (r : Result ℕ E) (most count : ℕ) (stored : List ℕ → Memory) (now : Memory) (told left : Option (List ℕ)) → IsErr r → count ≤ most → Takes count stored now told left → Took most stored now told left r
took_none_more (Ok n) most count stored now told left is few p = let no : false ≡ true = is in cc
took_none_more (Err e) most count stored now told left is few p = record { count = count; few = few; takes = p; answer = tt }

-- ---- how many there were, where the input tells its bytes

module _ (count : ℕ) (stored : List ℕ → Memory) (now : Memory) where
  cut_off : (bytes : List ℕ) (left : Option (List ℕ)) → Takes count stored now (Some bytes) left → count ≡ min count (length bytes)
  cut_off bytes left p = sym p.long ∙ ap length p.first.0 ∙ length-take count bytes

  -- all that there is room for
  pub all_taken : (most : ℕ) (told left : Option (List ℕ)) → count ≡ most → Takes count stored now told left → IfSome told (λ bytes. count ≡ min most (length bytes))
  all_taken most None left full p = tt
  all_taken most (Some bytes) left full p = omega (arith, full, cut_off bytes left p)

  -- those and n more, the last that were left
  pub all_left : (n room most : ℕ) (told left : Option (List ℕ)) → count + n ≤ most → n < room → Takes count stored now told left → IfSome left (λ bytes. n ≡ min room (length bytes)) → IfSome told (λ bytes. count + n ≡ min most (length bytes))
  all_left n room most None left few short p h = tt
  all_left n room most (Some bytes) left few short p h =
      let rest : n ≡ min room (length (drop count bytes)) = subst (λ (o : Option (List ℕ)). IfSome o (λ bytes. n ≡ min room (length bytes))) p.first.1 h in
      omega (arith, few, short, rest, cut_off bytes left p, length-drop count bytes)

  -- and none were left
  pub none_left : (n most : ℕ) (told left : Option (List ℕ)) → count ≤ most → n ≡ 0 → Takes count stored now told left → IfSome left (λ bytes. n ≡ 0 → bytes ≡ []) → IfSome told (λ bytes. count ≡ min most (length bytes))
  none_left n most None left few zero p h = tt
  none_left n most (Some bytes) left few zero p h =
      let rest : n ≡ 0 → drop count bytes ≡ [] = subst (λ (o : Option (List ℕ)). IfSome o (λ bytes. n ≡ 0 → bytes ≡ [])) p.first.1 h in
      let none : length (drop count bytes) ≡ 0 = ap length (rest zero) in
      omega (arith, few, none, cut_off bytes left p, length-drop count bytes)
