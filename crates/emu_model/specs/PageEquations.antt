-- The equations of pages that are mapped, taken away and looked for, and of bytes in a row, for proofs.
use Rattle.std.specs.Prelude.{◌≡◌, ◌<◌, ◌≤◌, if◌then◌else◌, ℕ, suc, ◌+◌, ◌-◌, Bool, [], ◌∷◌, replicate, Some, None}
use Rattle.std.specs.Ordering.{nat_cmp}
use Rattle.std.specs.FinMap.{FinMap, get, insert, contains_key}
use Rattle.std.proofs.Common.{refl, arith}
use Rattle.emu_model.specs.declared.access.Rights.{Rights}
use Rattle.emu_model.specs.Access.{Memory, Page, byte_at, address}
use Rattle.emu_model.specs.Pages.{zeros, zeroed_page, pages_mapped, pages_with_rights, pages_protected, least_mapped, least_unmapped, greatest, bytes_at}

pub pages_mapped-zero : (pages : FinMap nat_cmp Page) (first : ℕ) (rights : Rights) → pages_mapped pages first 0 rights ≡ pages
unfolding pages_mapped
pages_mapped-zero pages first rights = refl

pub pages_mapped-suc : (pages : FinMap nat_cmp Page) (first count : ℕ) (rights : Rights) → pages_mapped pages first (suc count) rights ≡ insert (pages_mapped pages (first + 1) count rights) first (zeroed_page rights)
unfolding pages_mapped
pages_mapped-suc pages first count rights = refl

pub pages_protected-zero : (pages : FinMap nat_cmp Page) (first : ℕ) (rights : Rights) → pages_protected pages first 0 rights ≡ pages
unfolding pages_protected
pages_protected-zero pages first rights = refl

pub pages_protected-suc : (pages : FinMap nat_cmp Page) (first count : ℕ) (rights : Rights) → pages_protected pages first (suc count) rights ≡ pages_protected (pages_with_rights pages (get pages first) first rights) (first + 1) count rights
unfolding pages_protected
pages_protected-suc pages first count rights = refl

pub least_mapped-zero : (pages : FinMap nat_cmp Page) (first : ℕ) → least_mapped pages first 0 ≡ None
unfolding least_mapped
least_mapped-zero pages first = refl

pub least_mapped-suc : (pages : FinMap nat_cmp Page) (first count : ℕ) → least_mapped pages first (suc count) ≡ (if contains_key pages first then Some first else least_mapped pages (first + 1) count)
unfolding least_mapped
least_mapped-suc pages first count = refl

pub least_unmapped-zero : (pages : FinMap nat_cmp Page) (first : ℕ) → least_unmapped pages first 0 ≡ None
unfolding least_unmapped
least_unmapped-zero pages first = refl

pub least_unmapped-suc : (pages : FinMap nat_cmp Page) (first count : ℕ) → least_unmapped pages first (suc count) ≡ (if contains_key pages first then least_unmapped pages (first + 1) count else Some first)
unfolding least_unmapped
least_unmapped-suc pages first count = refl

pub greatest-zero : (meets : ℕ → Bool) → greatest 0 meets ≡ None
unfolding greatest
greatest-zero meets = refl

pub greatest-suc : (n : ℕ) (meets : ℕ → Bool) → greatest (suc n) meets ≡ (if meets (suc n) then Some (suc n) else greatest n meets)
unfolding greatest
greatest-suc n meets = refl

pub bytes_at-zero : (m : Memory) (a : ℕ) → bytes_at m a 0 ≡ []
unfolding bytes_at
bytes_at-zero m a = refl

pub bytes_at-suc : (m : Memory) (a n : ℕ) → bytes_at m a (suc n) ≡ byte_at m (address a) ∷ bytes_at m (a + 1) n
unfolding bytes_at
bytes_at-suc m a n = refl

pub zeros_is : (n : ℕ) → zeros n ≡ replicate n 0
unfolding zeros
zeros_is n = refl

-- the same at a page of the range, as a loop over the pages goes
left : (first count page : ℕ) → page < first + count → first + count - page ≡ suc (first + count - (page + 1))
left first count page h = omega arith

pub least_unmapped-at : (pages : FinMap nat_cmp Page) (first count page : ℕ) → page < first + count → least_unmapped pages page (first + count - page) ≡ (if contains_key pages page then least_unmapped pages (page + 1) (first + count - (page + 1)) else Some page)
least_unmapped-at pages first count page h = rw (left first count page h, least_unmapped-suc)

pub least_unmapped-from : (pages : FinMap nat_cmp Page) (first count : ℕ) → least_unmapped pages first (first + count - first) ≡ least_unmapped pages first count
least_unmapped-from pages first count = let e : first + count - first ≡ count = omega arith in rw e

pub least_unmapped-to : (pages : FinMap nat_cmp Page) (first count page : ℕ) → first + count ≤ page → least_unmapped pages page (first + count - page) ≡ None
least_unmapped-to pages first count page h = let e : first + count - page ≡ 0 = omega arith in rw (e, least_unmapped-zero)

-- a loop over the pages of a range
pub ruleset ranges = (least_unmapped-at, least_unmapped-from, least_unmapped-to)
