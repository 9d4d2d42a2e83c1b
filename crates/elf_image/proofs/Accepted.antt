-- The segments of a file without a fault are loadable.
use Rattle.std.proofs.Common.{◌≡◌, ◌≢◌, ◌≤◌, inl, inr, ℕ, zero, suc, ◌+◌, ◌-◌, ◌%◌, Bool, true, false, not, ◌&&◌, List, [], ◌∷◌, ◌++◌, length, None, Ok, refl, sym, subst, ◌∙◌, arith, nat_eq, nat_lt, if◌then◌else◌}
use Rattle.std.proofs.Math.ListN.{length-append}
use Rattle.std.specs.List.{All, AllPairs}
use Rattle.std.proofs.lemmas.Bool.{ltb-false, eqb-true, eqb-false, not-false, not-true, or_parts, and_parts, and_cases}
use Rattle.std.proofs.lemmas.List.Elements.{All-nil, All-push, All-from_recursion}
use Rattle.std.proofs.lemmas.List.Quantifiers.{all_pairs_push}
use Rattle.std.specs.List.{AllByRecursion}
use Rattle.emu_model.specs.Access.{page_size}
use Rattle.emu_system.specs.declared.image.Segment.{Segment}
use Rattle.emu_system.specs.declared.image.ElfFault.TheVariants.{TooShort, BadMagic, BadClass, BadData, BadVersion, BadType, BadMachine, BadHeaderSize, TooManySegments}
use Rattle.emu_system.specs.Image.{ProgramHeader, first_page, end_page, overlaps_any, share_a_page, segments_from, segment_fault, segment_of, with_segment, program_header, is_load, is_segment, is_outside, Image, elf, header_fault, has_magic, e_phnum}
use Rattle.emu_system.specs.ImageLaws.{no_first, second_false, no_fault, segments_from-zero, segments_from-suc, image_parts}
use Rattle.elf_image.specs.Loadable.{IsLoadable, AreLoadable, IsLoadableSegment, ShareNoPage}
use Rattle.elf_image.proofs.Loops.{segments_from-end}

-- what holds of the segments so far, of which there are at most k
pub record AreLoadableSoFar (file : List ℕ) (k : ℕ) (segments : List Segment) : Type 0 where
  pub few : length segments ≤ k
  pub sound : All (IsLoadableSegment file) segments
  pub apart : AllPairs ShareNoPage segments

-- ---- a segment that shares no page with those before

one_apart : (s t : Segment) → share_a_page s t ≡ false → ShareNoPage t s
one_apart s t h = elim (and_cases (nat_lt (first_page s) (end_page t)) (nat_lt (first_page t) (end_page s)) h) [
  | inl e ↦ inl (ltb-false (first_page s) (end_page t) e)
  | inr e ↦ inr (ltb-false (first_page t) (end_page s) e)
]

all_apart : (s : Segment) (ts : List Segment) → overlaps_any s ts ≡ false → AllByRecursion (λ t. ShareNoPage t s) ts
all_apart s [] h = tt
all_apart s (t ∷ ts) h = let e = or_parts (share_a_page s t) (overlaps_any s ts) h in (one_apart s t e.0, all_apart s ts e.1)

-- ---- one more program header

no_wrong_offset : (size offset address : ℕ) → (not (nat_eq size 0) && not (nat_eq (offset % page_size) (address % page_size))) ≡ false → size ≢ 0 → offset % page_size ≡ address % page_size
no_wrong_offset size offset address h some = elim (and_cases (not (nat_eq size 0)) (not (nat_eq (offset % page_size) (address % page_size))) h) [
  | inl e ↦ absurd (some (eqb-true size 0 (not-false (nat_eq size 0) e)))
  | inr e ↦ eqb-true (offset % page_size) (address % page_size) (not-false (nat_eq (offset % page_size) (address % page_size)) e)
]

sound_segment : (file : List ℕ) (before : List Segment) (i : ℕ) (h : ProgramHeader) → segment_fault file before i h ≡ None → is_segment h ≡ true
    → IsLoadableSegment file (segment_of i h) × (overlaps_any (segment_of i h) before ≡ false)
sound_segment file before i h none is =
    let load = and_parts (is_load h) (not (nat_eq h.memory_size 0)) is in
    let f1 = no_first _ _ _ none in
    let f2 = no_first _ _ _ f1.1 in
    let f3 = no_first _ _ _ f2.1 in
    let f4 = no_first _ _ _ f3.1 in
    let f5 = no_first _ _ _ f4.1 in
    let f6 = no_first _ _ _ f5.1 in
    let within : h.offset + h.file_size ≤ length file = ltb-false _ _ (second_false (is_load h) _ load.0 f2.0) in
    let part : h.file_size ≤ h.memory_size = ltb-false _ _ (second_false (is_load h) _ load.0 f3.0) in
    let inside = or_parts _ _ (second_false (is_segment h) (is_outside h) is f4.0) in
    let low : page_size ≤ h.address = ltb-false _ _ inside.0 in
    let high : h.address + h.memory_size ≤ 0x7F0000000000 = ltb-false _ _ inside.1 in
    let some : h.memory_size ≢ 0 = eqb-false h.memory_size 0 (not-true _ load.1) in (
      record {
        nonempty = omega arith;
        low = low;
        high = high;
        within = within;
        part = part;
        congruent = no_wrong_offset h.file_size h.offset h.address (second_false (is_segment h) _ is f5.0);
        paged = omega arith;
        above = omega arith;
        below = omega arith;
      },
      second_false (is_segment h) _ is f6.0,
    )

with_one : (file : List ℕ) (k : ℕ) (before : List Segment) (i : ℕ) (h : ProgramHeader) (t : Bool) → segment_fault file before i h ≡ None → is_segment h ≡ t → AreLoadableSoFar file k before
    → AreLoadableSoFar file (k + 1) (if t then before ++ (segment_of i h ∷ []) else before)
with_one file k before i h false none is so_far = record { few = omega arith; sound = so_far.sound; apart = so_far.apart }
with_one file k before i h true none is so_far =
    let s = sound_segment file before i h none is in
    record {
      few = omega (arith, so_far.few, length-append before (segment_of i h ∷ []));
      sound = All-push (IsLoadableSegment file) before (segment_of i h) so_far.sound s.0;
      apart = all_pairs_push ShareNoPage before (segment_of i h) so_far.apart (All-from_recursion (λ t. ShareNoPage t (segment_of i h)) before (all_apart (segment_of i h) before s.1));
    }

pub loadable_from : (file : List ℕ) (n i k : ℕ) (before segments : List Segment) → segments_from file i n before ≡ Ok segments → AreLoadableSoFar file k before → AreLoadableSoFar file (k + n) segments
loadable_from file zero i k before segments is so_far =
    let e : Ok before ≡ Ok segments = sym (segments_from-zero file i before) ∙ is in
    let f : before ≡ segments = cc in
    subst (λ xs. AreLoadableSoFar file (k + 0) xs) f (record { few = omega (arith, so_far.few); sound = so_far.sound; apart = so_far.apart })
loadable_from file (suc n) i k before segments is so_far =
    let h : ProgramHeader = program_header file i in
    let e = no_fault _ _ _ (sym (segments_from-suc file i n before) ∙ is) in
    let more = loadable_from file n (i + 1) (k + 1) (with_segment before i h) segments e.1 (with_one file k before i h (is_segment h) e.0 refl so_far) in
    record { few = omega (arith, more.few); sound = more.sound; apart = more.apart }

-- at the end of the program headers
pub loadable_at_end : (file : List ℕ) (i n : ℕ) (segments : List Segment) → n ≤ i → n ≤ 64 → segments_from file i (n - i) segments ≡ segments_from file 0 n [] → AreLoadable file segments
loadable_at_end file i n segments end few is =
    let l = loadable_from file n 0 0 [] segments (sym is ∙ segments_from-end file i n segments end) (record { few = omega arith; sound = All-nil _; apart = λ a b d h k. absurd (omega arith) }) in
    record { few = omega (arith, l.few); sound = l.sound; apart = l.apart }

-- ---- a whole image

few_headers : (file : List ℕ) → header_fault file ≡ None → e_phnum file ≤ 64
few_headers file none =
    let f1 = no_first (nat_lt (length file) 64) TooShort _ none in
    let f2 = no_first (not (has_magic file)) BadMagic _ f1.1 in
    let f3 = no_first _ BadClass _ f2.1 in
    let f4 = no_first _ BadData _ f3.1 in
    let f5 = no_first _ BadVersion _ f4.1 in
    let f6 = no_first _ BadType _ f5.1 in
    let f7 = no_first _ BadMachine _ f6.1 in
    let f8 = no_first _ BadHeaderSize _ f7.1 in
    let f9 = no_first _ TooManySegments _ f8.1 in
    ltb-false 64 (e_phnum file) f9.0

-- An image that is accepted is loadable.
pub loadable_image : (file : List ℕ) (limit : ℕ) (image : Image) → elf file limit ≡ Ok image → IsLoadable file limit image
loadable_image file limit image h =
    let b = no_fault (header_fault file) _ image h in
    let c = image_parts file limit _ image b.1 in
    let l = loadable_from file (e_phnum file) 0 0 [] image.segments c.segments (record { few = omega arith; sound = All-nil _; apart = λ x y d p q. absurd (omega arith) }) in
    record { some = c.some; segments = record { few = omega (arith, l.few, few_headers file b.0); sound = l.sound; apart = l.apart }; within_limit = c.within_limit }
