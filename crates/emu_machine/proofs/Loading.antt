-- Pages that are mapped with what stands in them, and the map that a list of pages makes.
use Rattle.std.proofs.Common.{◌≡◌, ◌<◌, ◌≤◌, inl, inr, ℕ, zero, suc, ◌+◌, ◌*◌, ◌-◌, ◌^◌, Bool, true, false, cond, if◌then◌else◌, nat_eq, nat_lt, List, [], ◌∷◌, ◌++◌, length, map, get_or, take, Option, Some, None, is_some, Result, Ok, Err, OnOk, refl, sym, ap, ◌∙◌, arith}
use Rattle.std.proofs.lemmas.Bool.{eqb-true, eqb-false}
use Rattle.std.proofs.lemmas.Bool.Decides.{nat_tests}
use Rattle.std.proofs.lemmas.List.{flat_map_more, get_or-replicate, length-replicate, take_more}
use Rattle.std.proofs.lemmas.List.FromFn.{fill_by_all}
use Rattle.std.specs.List.{AllByRecursion, flat_map, range_with_len}
use Rattle.std.specs.Option.{option_or}
use Rattle.std.specs.Ordering.{nat_cmp}
use Rattle.std.specs.Cmp.{nat_cmp_total}
use Rattle.std.specs.FinMap.{FinMap, find, from_entries, get, get-from_entries, same_map, nat_cmp-IsAntisymmetric}
use Rattle.emu_model.specs.declared.access.Rights.{Rights}
use Rattle.emu_model.specs.Access.{Memory, Page, page_size}
use Rattle.emu_model.specs.Lists.{each}
use Rattle.emu_model.specs.ListLaws.{length-each, get_or-each}
use Rattle.emu_model.specs.PageLaws.{get_mapped, is_in, among}
use Rattle.emu_model.specs.Pages.{is_page_in, mapped, with_bytes, zeros, zeroed_page, least_mapped}
use Rattle.emu_model.specs.PageEquations.{zeros_is, least_mapped-suc}
use Rattle.emu_system.specs.declared.image.Segment.{Segment}
use Rattle.emu_system.specs.Image.{Image, first_page, page_count, stack_page_count}
use Rattle.emu_system.specs.Stack.{first_stack_page, stack_page}
use Rattle.emu_system.specs.StackEquations.{stack_pages_are, byte_not_reached, byte_reached, page_among_is}
use Rattle.emu_system.specs.Start.{pages_at_start, segment_page, segment_pages}
use Rattle.emu_system.specs.StartPages.{find_both, find_numbered}
use Rattle.emu_system.specs.Pieces.{Piece, byte_among, page_among}
use Rattle.guest_pages.specs.MapFault.{first_fault}
use Rattle.emu_machine.specs.Loads.{HasPages}
use Rattle.emu_machine.proofs.Written.{patched, map_page, get_written, limit_written, rights_patched, length_patched, far_patched, byte_inside, byte_outside}

-- ---- the pages that map found free

none_free : (pages : FinMap nat_cmp Page) (count first : ℕ) → least_mapped pages first count ≡ None → (q : ℕ) → first ≤ q → q < first + count → get pages q ≡ None
none_free pages zero first is q a b = absurd (omega arith)
none_free pages (suc count) first is q a b =
    elim (get pages first) as (λ o. get pages first ≡ o → get pages q ≡ None) [
      | Some p ↦ λ e. let bad : Some first ≡ None = sym (least_mapped-suc pages first count ∙ ap (λ o. if is_some o then Some first else least_mapped pages (first + 1) count) e) ∙ is in cc
      | None ↦ λ e.
          let rest : least_mapped pages (first + 1) count ≡ None = sym (least_mapped-suc pages first count ∙ ap (λ o. if is_some o then Some first else least_mapped pages (first + 1) count) e) ∙ is in
          elim (nat_eq q first) as (λ t. nat_eq q first ≡ t → get pages q ≡ None) [
            | true ↦ λ t. ap (λ k. get pages k) (eqb-true q first t) ∙ e
            | false ↦ λ t. let ne : q ≡ first → ⊥ = eqb-false q first t in none_free pages count (first + 1) rest q (omega arith) (omega arith)
          ] refl
    ] refl

-- pages that nothing keeps from being mapped are free
pub free_of : (o : Option ℕ) (over : Bool) → first_fault o over ≡ None → o ≡ None
free_of None over is = refl
free_of (Some page) over is = absurd (cc)

-- what an answer that is Ok says
pub when_ok : {A E P : Type 0} (r : Result A E) (x : A) → r ≡ Ok x → OnOk r P → P
when_ok (Ok y) x is h = h
when_ok (Err e) x is h = absurd (cc)

-- ---- memory with pieces written, the last of them first

abbrev pub with_pieces : Memory → List Piece → Memory
with_pieces m [] = m
with_pieces m (p ∷ ps) = with_bytes (with_pieces m ps) p.at p.bytes

-- lies in `count` pages from page `first` on, below 2^64
pub record IsWithin (first count : ℕ) (p : Piece) : Type 0 where
  pub low : page_size * first ≤ p.at
  pub high : p.at + length p.bytes ≤ page_size * (first + count)
  pub word : p.at + length p.bytes ≤ 2 ^ 64

-- a page without pieces
zeroed : (rights : Rights) (q : ℕ) → zeroed_page rights ≡ page_among rights [] q
zeroed rights q =
    let none : zeros page_size ≡ each page_size (λ k. 0) =
    fill_by_all (λ k. 0) (zeros page_size) page_size 0 (ap length (zeros_is page_size) ∙ length-replicate {A = ℕ} page_size 0)
    (λ k below. ap (λ (l : List ℕ). get_or l k 0) (zeros_is page_size) ∙ get_or-replicate {A = ℕ} page_size k 0 0 below) in
    ap (λ (l : List ℕ). record { rights = rights; bytes = l }) none ∙ sym (page_among_is rights [] q)

-- a page with one more piece
module _ (rights : Rights) (p : Piece) (ps : List Piece) (q : ℕ) where
  before : (k : ℕ) → k < page_size → get_or (page_among rights ps q).bytes k 0 ≡ byte_among ps (page_size * q + k)
  before k below = ap (λ (x : Page). get_or x.bytes k 0) (page_among_is rights ps q) ∙ get_or-each page_size (λ k. byte_among ps (page_size * q + k)) k 0 below

  long : length (page_among rights ps q).bytes ≡ page_size
  long = ap (λ (x : Page). length x.bytes) (page_among_is rights ps q) ∙ length-each page_size (λ k. byte_among ps (page_size * q + k))

  after : (k : ℕ) → k < page_size → get_or (patched q (page_among rights ps q) p.at p.bytes).bytes k 0 ≡ byte_among (p ∷ ps) (page_size * q + k)
  after k below =
      let x : ℕ = page_size * q + k in
      let page : Page = page_among rights ps q in
      elim (nat_lt x p.at) as (λ t. nat_lt x p.at ≡ t → get_or (patched q page p.at p.bytes).bytes k 0 ≡ byte_among (p ∷ ps) x) [
        | true ↦ λ t. let low : x < p.at = grind (arith, nat_tests) in
            byte_outside p.bytes q page p.at k (inl low) ∙ before k below ∙ sym (byte_not_reached p ps x (inl low))
        | false ↦ λ t. let low : p.at ≤ x = grind (arith, nat_tests) in
            elim (nat_lt x (p.at + length p.bytes)) as (λ u. nat_lt x (p.at + length p.bytes) ≡ u → get_or (patched q page p.at p.bytes).bytes k 0 ≡ byte_among (p ∷ ps) x) [
              | true ↦ λ u. let high : x < p.at + length p.bytes = grind (arith, nat_tests) in
                  byte_inside p.bytes q page p.at k (x - p.at) long below (omega arith) (omega arith) ∙ sym (byte_reached p ps x low high)
              | false ↦ λ u. let high : p.at + length p.bytes ≤ x = grind (arith, nat_tests) in
                  byte_outside p.bytes q page p.at k (inr high) ∙ before k below ∙ sym (byte_not_reached p ps x (inr high))
            ] refl
      ] refl

  one_more : patched q (page_among rights ps q) p.at p.bytes ≡ page_among rights (p ∷ ps) q
  one_more =
      let page : Page = patched q (page_among rights ps q) p.at p.bytes in
      let same : page.rights ≡ rights = rights_patched p.bytes q (page_among rights ps q) p.at ∙ ap (λ (x : Page). x.rights) (page_among_is rights ps q) in
      let bytes : page.bytes ≡ each page_size (λ k. byte_among (p ∷ ps) (page_size * q + k)) =
      fill_by_all (λ k. byte_among (p ∷ ps) (page_size * q + k)) page.bytes page_size 0 (length_patched p.bytes q (page_among rights ps q) p.at ∙ long) after in
      ap (λ r. record { rights = r; bytes = page.bytes }) same ∙ ap (λ (l : List ℕ). record { rights = rights; bytes = l }) bytes ∙ sym (page_among_is rights (p ∷ ps) q)

  -- a page of the range, and one that isn't
  by_page : (first count : ℕ) (t : Bool) (old : Option Page) → IsWithin first count p → is_page_in first count q ≡ t
      → map_page (λ x. patched q x p.at p.bytes) (cond t (Some (page_among rights ps q)) old) ≡ cond t (Some (page_among rights (p ∷ ps) q)) old
  by_page first count true old within is = ap (λ (x : Page). Some x) one_more
  by_page first count false None within is = refl
  by_page first count false (Some x) within is = ap (λ (x : Page). Some x) (far_patched p.bytes q x p.at (λ a from to same.
      let low = within.low in
      let high = within.high in
      let in_it : is_page_in first count q ≡ true = among first count q (omega (arith, same)) (omega (arith, same)) in
      let bad : true ≡ false = sym in_it ∙ is in cc))

module _ (old : Memory) (first count : ℕ) (rights : Rights) where
  get_pieces : (ps : List Piece) (q : ℕ) → AllByRecursion (IsWithin first count) ps
      → get (with_pieces (mapped old first count rights) ps).pages q ≡ cond (is_page_in first count q) (Some (page_among rights ps q)) (get old.pages q)
  get_pieces [] q within = get_mapped old.pages first count rights q ∙ ap (λ (p : Page). cond (is_page_in first count q) (Some p) (get old.pages q)) (zeroed rights q)
  get_pieces (p ∷ ps) q (here, others) =
      get_written p.bytes (with_pieces (mapped old first count rights) ps) p.at q here.word
      ∙ ap (λ o. map_page (λ x. patched q x p.at p.bytes) o) (get_pieces ps q others)
      ∙ by_page rights p ps q first count (is_page_in first count q) (get old.pages q) here refl

  limit_of_pieces : (ps : List Piece) → (with_pieces (mapped old first count rights) ps).limit ≡ old.limit
  limit_of_pieces [] = refl
  limit_of_pieces (p ∷ ps) = limit_written p.bytes (with_pieces (mapped old first count rights) ps) p.at ∙ limit_of_pieces ps

  pub has_pages : (ps : List Piece) (new : Memory) → AllByRecursion (IsWithin first count) ps → least_mapped old.pages first count ≡ None
      → new ≡ with_pieces (mapped old first count rights) ps → HasPages first count (page_among rights ps) old new
  has_pages ps new within none is = record {
    free = λ q t. let b = is_in first count q t in none_free old.pages count first none q b.0 b.1;
    pages = λ q. ap (λ (m : Memory). get m.pages q) is ∙ get_pieces ps q within;
    limit = ap (λ (m : Memory). m.limit) is ∙ limit_of_pieces ps;
  }

-- ---- the map that a list of pages makes, with those of one more range

-- the first of two
one_of_two : (b : Bool) (old : Option Page) (p : Page) → (b ≡ true → old ≡ None) → cond b (Some p) old ≡ option_or old (cond b (Some p) None)
one_of_two true old p free = ap (λ o. option_or o (Some p)) (sym (free refl))
one_of_two false None p free = refl
one_of_two false (Some x) p free = refl

pub entries_more : (es : List (ℕ × Page)) (first count : ℕ) (page : ℕ → Page) (old new : Memory) → old.pages ≡ from_entries es → HasPages first count page old new
    → new.pages ≡ from_entries (es ++ map (λ number. (number, page number)) (range_with_len first count))
entries_more es first count page old new is has =
    let more : List (ℕ × Page) = map (λ number. (number, page number)) (range_with_len first count) in
    same_map nat_cmp_total nat_cmp-IsAntisymmetric _ _ (λ q.
    let before : get old.pages q ≡ find nat_cmp q es = ap (λ p. get p q) is ∙ get-from_entries nat_cmp_total es q in
    has.pages q
    ∙ one_of_two (is_page_in first count q) (get old.pages q) (page q) (has.free q)
    ∙ ap (λ o. option_or o (cond (is_page_in first count q) (Some (page q)) None)) before
    ∙ ap (λ o. option_or (find nat_cmp q es) o) (sym (find_numbered page q count first))
    ∙ sym (find_both es more q)
    ∙ sym (get-from_entries nat_cmp_total (es ++ more) q))

-- segments one after the other
pub segments_more : (file : List ℕ) (segments : List Segment) (i : ℕ) (d : Segment) (old new : Memory) → i < length segments
    → old.pages ≡ from_entries (flat_map (segment_pages file) (take i segments))
    → HasPages (first_page (get_or segments i d)) (page_count (get_or segments i d)) (segment_page file (get_or segments i d)) old new
    → new.pages ≡ from_entries (flat_map (segment_pages file) (take (i + 1) segments))
segments_more file segments i d old new within is has =
    let s : Segment = get_or segments i d in
    entries_more (flat_map (segment_pages file) (take i segments)) (first_page s) (page_count s) (segment_page file s) old new is has
    ∙ ap (λ (es : List (ℕ × Page)). from_entries es)
    (flat_map_more (segment_pages file) [] (take i segments) s ∙ ap (λ (ss : List Segment). flat_map (segment_pages file) ss) (sym (take_more segments i d within)))

-- the segments and then the stack
pub program_loaded : (file : List ℕ) (image : Image) (args : List (List ℕ)) (old loaded new : Memory)
    → loaded ≡ record old { pages = from_entries (flat_map (segment_pages file) image.segments) }
    → HasPages first_stack_page stack_page_count (stack_page image args) loaded new
    → new ≡ record old { pages = pages_at_start file image args }
program_loaded file image args old loaded new is has =
    let segments : List (ℕ × Page) = flat_map (segment_pages file) image.segments in
    let pages : new.pages ≡ pages_at_start file image args =
    entries_more segments first_stack_page stack_page_count (stack_page image args) loaded new (ap (λ (m : Memory). m.pages) is) has
    ∙ ap (λ (es : List (ℕ × Page)). from_entries (segments ++ es)) (sym (stack_pages_are image args)) in
    let limit : new.limit ≡ old.limit = has.limit ∙ ap (λ (m : Memory). m.limit) is in
    λ j. record { pages = pages j; limit = limit j }
