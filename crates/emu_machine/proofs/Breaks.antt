-- The break of a program's start is sound.
use Rattle.std.proofs.Common.{◌≡◌, ◌<◌, ◌≤◌, ℕ, ◌*◌, List, [], ◌∷◌, length, arith}
use Rattle.std.specs.List.{All}
use Rattle.emu_system.specs.declared.image.Segment.{Segment}
use Rattle.emu_model.specs.Access.{page_size}
use Rattle.emu_model.specs.SoundState.{IsSoundBreak}
use Rattle.emu_system.specs.Image.{first_page, end_page}
use Rattle.emu_system.specs.Start.{highest_page}
use Rattle.elf_image.specs.Loadable.{IsLoadableSegment}

highest_some : (file : List ℕ) (segments : List Segment) → 0 < length segments → All (IsLoadableSegment file) segments → 1 ≤ highest_page segments
highest_some file [] some sound = absurd (omega arith)
highest_some file (s ∷ ss) some sound = let paged : first_page s < end_page s = (sound 0 s (omega arith)).paged in omega arith

pub start_break_sound : (file : List ℕ) (segments : List Segment) (highest : ℕ) → 0 < length segments → All (IsLoadableSegment file) segments → highest ≡ highest_page segments → highest ≤ 0x7F0000000
    → IsSoundBreak (record { start = page_size * highest; now = page_size * highest })
start_break_sound file segments highest some sound is limit =
    let above = highest_some file segments some sound in
    record { some = λ e. absurd (omega arith); aligned = omega arith; grown = omega arith; within = omega arith }
