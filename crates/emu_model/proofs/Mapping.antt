-- Pages that are mapped, taken away and protected, in a memory and in the map of its bytes.
use Rattle.std.specs.Prelude.{◌≡◌, ◌<◌, ℕ, zero, suc, ◌+◌, ◌*◌, ◌/◌, ◌%◌, Bool, true, false, cond, not, get_or, Option, Some, None}
use Rattle.std.proofs.Common.{refl, ap, sym, ◌∙◌, arith}
use Rattle.std.proofs.lemmas.Bool.Decides.{nat_tests}
use Rattle.std.proofs.lemmas.List.{get_or-replicate}
use Rattle.std.specs.Ordering.{nat_cmp, eq_by_cmp}
use Rattle.std.specs.Cmp.{nat_cmp_total}
use Rattle.std.specs.FinMap.{FinMap, get, insert, retain_keys, get-insert, get-retain_keys, nat_cmp-IsAntisymmetric}
use Rattle.emu_model.specs.declared.access.Rights.{Rights}
use Rattle.emu_model.specs.Access.{Memory, Page, page_size}
use Rattle.emu_model.specs.ByteMap.{IsByteMap}
use Rattle.emu_model.specs.PageLaws.{among, none_among, get_mapped, get_unmapped, get_protected, with_rights}
use Rattle.emu_model.specs.Pages.{is_page_in, mapped, unmapped, protected, peeked, zeroed_page, zeros}
use Rattle.emu_model.specs.ByPage.{page_peek}
use Rattle.emu_model.specs.PageEquations.{zeros_is}
use Rattle.emu_model.specs.Ranges.{IsSetInPages}
use Rattle.emu_model.proofs.Keys.{tied, untied}

-- a memory whose bytes are another's but for those of some pages has such a map
set_map : (m n : Memory) (bytes new : FinMap nat_cmp ℕ) (first count : ℕ) (what : Option ℕ) → IsByteMap m bytes → IsSetInPages first count what bytes new
    → ((a : ℕ) → peeked n a ≡ cond (is_page_in first count (a / page_size)) what (peeked m a)) → IsByteMap n new
set_map m n bytes new first count what is set peek a = set a ∙ ap (λ o. cond (is_page_in first count (a / page_size)) what o) (is a) ∙ sym (peek a)

-- ---- taken away

peek_gone : (b : Bool) (o : Option Page) (k : ℕ) → page_peek (cond (not b) o None) k ≡ cond b None (page_peek o k)
peek_gone true o k = refl
peek_gone false o k = refl

gone : (b : Bool) (o : Option ℕ) → cond (not b) o None ≡ cond b None o
gone true o = refl
gone false o = refl

pub unmapped_map : (m : Memory) (bytes : FinMap nat_cmp ℕ) (first count : ℕ) → IsByteMap m bytes → (new : FinMap nat_cmp ℕ) × IsByteMap (unmapped m first count) new × IsSetInPages first count None bytes new
unmapped_map m bytes first count is =
    let new : FinMap nat_cmp ℕ = retain_keys bytes (λ a. not (is_page_in first count (a / page_size))) in
    let set : IsSetInPages first count None bytes new = λ a.
    get-retain_keys bytes (λ a. not (is_page_in first count (a / page_size))) a (λ x e. ap (λ a. not (is_page_in first count (a / page_size))) (sym (nat_cmp-IsAntisymmetric a x e)))
    ∙ gone (is_page_in first count (a / page_size)) (get bytes a) in (
      new,
      set_map m (unmapped m first count) bytes new first count None is set (λ a.
          ap (λ (o : Option Page). page_peek o (a % page_size)) (get_unmapped m.pages first count (a / page_size)) ∙ peek_gone (is_page_in first count (a / page_size)) (get m.pages (a / page_size)) (a % page_size)),
      set,
    )

-- ---- mapped

rest_among : (a n q : ℕ) → (q ≡ a → ⊥) → is_page_in a (suc n) q ≡ is_page_in (a + 1) n q
rest_among a n q ne = grind (arith, nat_tests)

-- some map has zeros at n addresses from a on, and elsewhere what `bytes` has
zeros_from : (n : ℕ) (bytes : FinMap nat_cmp ℕ) (a : ℕ) → (new : FinMap nat_cmp ℕ) × ((q : ℕ) → get new q ≡ cond (is_page_in a n q) (Some 0) (get bytes q))
zeros_from zero bytes a = (bytes, λ q. ap (λ t. cond t (Some 0) (get bytes q)) (sym (none_among a q)))
zeros_from (suc n) bytes a =
    let rest = zeros_from n bytes (a + 1) in (
      insert rest.0 a 0,
      λ q.
          get-insert nat_cmp_total rest.0 a 0 q
          ∙ ap (λ o. cond (eq_by_cmp nat_cmp q a) (Some 0) o) (rest.1 q)
          ∙ elim (eq_by_cmp nat_cmp q a) as (λ t. eq_by_cmp nat_cmp q a ≡ t → cond t (Some 0) (cond (is_page_in (a + 1) n q) (Some 0) (get bytes q)) ≡ cond (is_page_in a (suc n) q) (Some 0) (get bytes q)) [
            | true ↦ λ e. let here : q ≡ a = tied q a e in ap (λ t. cond t (Some 0) (get bytes q)) (sym (among a (suc n) q (omega arith) (omega arith)))
            | false ↦ λ e. ap (λ t. cond t (Some 0) (get bytes q)) (sym (rest_among a n q (untied q a e)))
          ] refl,
    )

by_page : (first count a : ℕ) → is_page_in (first * page_size) (count * page_size) a ≡ is_page_in first count (a / page_size)
by_page first count a = grind (arith, nat_tests)

zero_at : (n k : ℕ) → k < n → get_or (zeros n) k 0 ≡ 0
zero_at n k lt = ap (λ bytes. get_or bytes k 0) (zeros_is n) ∙ get_or-replicate n k 0 0 lt

peek_zeroed : (b : Bool) (o : Option Page) (rights : Rights) (k : ℕ) → k < page_size → page_peek (cond b (Some (zeroed_page rights)) o) k ≡ cond b (Some 0) (page_peek o k)
peek_zeroed true o rights k lt = ap Some (zero_at page_size k lt)
peek_zeroed false o rights k lt = refl

pub mapped_map : (m : Memory) (bytes : FinMap nat_cmp ℕ) (first count : ℕ) (rights : Rights) → IsByteMap m bytes → (new : FinMap nat_cmp ℕ) × IsByteMap (mapped m first count rights) new × IsSetInPages first count (Some 0) bytes new
mapped_map m bytes first count rights is =
    let new = zeros_from (count * page_size) bytes (first * page_size) in
    let set : IsSetInPages first count (Some 0) bytes new.0 = λ a. new.1 a ∙ ap (λ t. cond t (Some 0) (get bytes a)) (by_page first count a) in (
      new.0,
      set_map m (mapped m first count rights) bytes new.0 first count (Some 0) is set (λ a.
          ap (λ (o : Option Page). page_peek o (a % page_size)) (get_mapped m.pages first count rights (a / page_size)) ∙ peek_zeroed (is_page_in first count (a / page_size)) (get m.pages (a / page_size)) rights (a % page_size) (omega arith)),
      set,
    )

-- ---- protected

peek_protected : (b : Bool) (o : Option Page) (rights : Rights) (k : ℕ) → page_peek (cond b (with_rights o rights) o) k ≡ page_peek o k
peek_protected true None rights k = refl
peek_protected true (Some p) rights k = refl
peek_protected false o rights k = refl

pub protected_map : (m : Memory) (bytes : FinMap nat_cmp ℕ) (first count : ℕ) (rights : Rights) → IsByteMap m bytes → IsByteMap (protected m first count rights) bytes
protected_map m bytes first count rights is a =
    is a
    ∙ sym (ap (λ (o : Option Page). page_peek o (a % page_size)) (get_protected m.pages first count rights (a / page_size)) ∙ peek_protected (is_page_in first count (a / page_size)) (get m.pages (a / page_size)) rights (a % page_size))
