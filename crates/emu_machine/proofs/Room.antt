-- The pages of each part of a program are free when it is loaded, and within the limit.
use Rattle.std.proofs.Common.{◌≡◌, ◌<◌, ◌≤◌, inl, inr, ℕ, zero, suc, ◌+◌, Bool, false, List, length, get_or, take, Option, Some, None, is_some, sym, ap, subst, ◌∙◌, arith, if◌then◌else◌}
use Rattle.std.proofs.lemmas.Bool.Decides.{nat_tests}
use Rattle.std.proofs.lemmas.List.{get_or-take, get_or_default, length-take}
use Rattle.std.proofs.lemmas.List.Elements.{recursion_from_All}
use Rattle.std.proofs.lemmas.List.Sums.{sum_by_more_le}
use Rattle.std.specs.List.{AllByRecursion, flat_map}
use Rattle.std.specs.Ordering.{nat_cmp}
use Rattle.std.specs.Cmp.{nat_cmp_total}
use Rattle.std.specs.FinMap.{FinMap, from_entries, get, get-from_entries, len}
use Rattle.emu_system.specs.declared.image.Segment.{Segment}
use Rattle.emu_model.specs.Access.{Memory, Page}
use Rattle.emu_model.specs.Pages.{is_over_limit, least_mapped}
use Rattle.emu_model.specs.PageEquations.{least_mapped-suc, least_mapped-zero}
use Rattle.emu_system.specs.Image.{Image, end_page, first_page, page_count, pages_of, stack_page_count}
use Rattle.emu_system.specs.Stack.{first_stack_page}
use Rattle.emu_system.specs.Start.{segment_pages}
use Rattle.emu_system.specs.StartPages.{IsApart, entries_count, nothing_found, segments_count}
use Rattle.elf_image.specs.Loadable.{AreLoadable, IsLoadable, ShareNoPage}
use Rattle.guest_pages.specs.MapFault.{first_fault, map_fault}

-- ---- no fault of a map

none_mapped : (pages : FinMap nat_cmp Page) (count first : ℕ) → ((q : ℕ) → first ≤ q → q < first + count → get pages q ≡ None) → least_mapped pages first count ≡ None
none_mapped pages zero first free = least_mapped-zero pages first
none_mapped pages (suc count) first free =
    least_mapped-suc pages first count
    ∙ ap (λ (o : Option Page). if is_some o then Some first else least_mapped pages (first + 1) count) (free first (omega arith) (omega arith))
    ∙ none_mapped pages count (first + 1) (λ q low high. free q (omega arith) (omega arith))

no_fault_of : (m : Memory) (first count : ℕ) → ((q : ℕ) → first ≤ q → q < first + count → get m.pages q ≡ None) → len m.pages + count ≤ m.limit → map_fault m first count ≡ None
no_fault_of m first count free few =
    let within : is_over_limit m count ≡ false = grind (arith, nat_tests) in
    ap (λ (o : Option ℕ). first_fault o (is_over_limit m count)) (none_mapped m.pages count first free) ∙ ap (λ (b : Bool). first_fault None b) within

-- ---- the next segment, and the stack

-- memory with these segments alone
module _ (file : List ℕ) (segments : List Segment) (m : Memory) (is : m.pages ≡ from_entries (flat_map (segment_pages file) segments)) where
  free : (first count : ℕ) → AllByRecursion (IsApart first count) segments → (q : ℕ) → first ≤ q → q < first + count → get m.pages q ≡ None
  free first count apart q low high =
      ap (λ p. get p q) is ∙ get-from_entries nat_cmp_total (flat_map (segment_pages file) segments) q ∙ nothing_found file segments first count q apart low high

  few : len m.pages ≤ pages_of segments
  few =
      let e : len m.pages ≡ len (from_entries {R = nat_cmp} (flat_map (segment_pages file) segments)) = ap (λ p. len p) is in
      let some = entries_count (flat_map (segment_pages file) segments) in
      let all = segments_count file segments in
      omega arith

apart_from : (s t : Segment) → ShareNoPage t s → IsApart (first_page s) (page_count s) t
apart_from s t apart = elim apart [ inl behind ↦ inl behind | inr before_it ↦ inr (omega arith) ]

pub room_for_segment : (file : List ℕ) (segments : List Segment) (i : ℕ) (d : Segment) (m : Memory) → i < length segments → AreLoadable file segments
    → m.pages ≡ from_entries (flat_map (segment_pages file) (take i segments)) → pages_of segments ≤ m.limit → map_fault m (first_page (get_or segments i d)) (page_count (get_or segments i d)) ≡ None
room_for_segment file segments i d m below loadable is fits =
    let s : Segment = get_or segments i d in
    let apart : AllByRecursion (IsApart (first_page s) (page_count s)) (take i segments) =
    recursion_from_All (IsApart (first_page s) (page_count s)) (take i segments) (λ k e within.
    let near : k < i = omega (arith, length-take i segments) in
    let there : k < length segments = omega arith in
    subst (IsApart (first_page s) (page_count s)) (sym (get_or-take i segments k e near ∙ get_or_default segments k e d there))
    (apart_from s (get_or segments k d) (loadable.apart k i d near below))) in
    let so_far = few file (take i segments) m is in
    let more = sum_by_more_le page_count segments i d below in
    no_fault_of m (first_page s) (page_count s) (free file (take i segments) m is (first_page s) (page_count s) apart) (omega arith)

pub room_for_stack : (file : List ℕ) (limit : ℕ) (image : Image) (m : Memory) → IsLoadable file limit image
    → m.pages ≡ from_entries (flat_map (segment_pages file) image.segments) → m.limit ≡ limit → map_fault m first_stack_page stack_page_count ≡ None
room_for_stack file limit image m loadable is same =
    let apart : AllByRecursion (IsApart first_stack_page stack_page_count) image.segments =
    recursion_from_All (IsApart first_stack_page stack_page_count) image.segments (λ k d within.
    let s = loadable.segments.sound k d within in
    let below : end_page (get_or image.segments k d) ≤ 0x7F0000000 = s.below in
    inl (omega arith)) in
    let most = few file image.segments m is in
    let fits = loadable.within_limit in
    no_fault_of m first_stack_page stack_page_count (free file image.segments m is first_stack_page stack_page_count apart) (omega arith)
