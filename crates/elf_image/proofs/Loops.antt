-- The recursions of the definitions, as loops go: at an element of a list, and at a header of some.
use Rattle.std.proofs.Common.{◌≡◌, ◌<◌, ◌≤◌, ℕ, suc, ◌+◌, ◌-◌, ◌&&◌, ◌||◌, List, length, drop, get_or, Ok, arith, if◌then◌else◌}
use Rattle.std.specs.Prelude.{nat_le, nat_lt}
use Rattle.std.proofs.lemmas.List.{at_drop_more}
use Rattle.emu_system.specs.declared.image.Segment.{Segment}
use Rattle.emu_system.specs.Image.{overlaps_any, share_a_page, headers_address, segments_from, segment_fault, unless_fault, with_segment, program_header}
use Rattle.emu_system.specs.ImageLaws.{segments_from-zero, segments_from-suc}

pub overlaps_any-drop : (s : Segment) (ts : List Segment) (i : ℕ) (d : Segment) → i < length ts → overlaps_any s (drop i ts) ≡ (share_a_page s (get_or ts i d) || overlaps_any s (drop (i + 1) ts))
overlaps_any-drop s ts i d h = at_drop_more (overlaps_any s) ts i d h

pub headers_address-drop : (phoff : ℕ) (ss : List Segment) (i : ℕ) (d : Segment) → i < length ss → headers_address phoff (drop i ss)
    ≡ (if nat_le (get_or ss i d).offset phoff && nat_lt phoff ((get_or ss i d).offset + (get_or ss i d).file_size) then (get_or ss i d).address + phoff - (get_or ss i d).offset else headers_address phoff (drop (i + 1) ss))
headers_address-drop phoff ss i d h = at_drop_more (headers_address phoff) ss i d h

-- at header i of n, with n - i left
step : (n i : ℕ) → i < n → n - i ≡ suc (n - (i + 1))
step n i h = omega arith

pub segments_from-at : (file : List ℕ) (i n : ℕ) (before : List Segment) → i < n → segments_from file i (n - i) before
    ≡ unless_fault (segment_fault file before i (program_header file i)) (segments_from file (i + 1) (n - (i + 1)) (with_segment before i (program_header file i)))
segments_from-at file i n before h = rw (step n i h) (segments_from-suc file i (n - (i + 1)) before)

pub segments_from-end : (file : List ℕ) (i n : ℕ) (before : List Segment) → n ≤ i → segments_from file i (n - i) before ≡ Ok before
segments_from-end file i n before h = let e : n - i ≡ 0 = omega arith in rw e (segments_from-zero file i before)

pub ruleset segment_loops = (overlaps_any-drop, headers_address-drop)

pub ruleset header_loops = (segments_from-at, segments_from-end)
