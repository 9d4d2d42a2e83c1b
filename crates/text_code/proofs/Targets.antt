-- Targets among the kinds of slots.
use Rattle.std.proofs.Common.{◌≡◌, ℕ, ◌&&◌, true, nat_le, Option, List, refl, sym, ap, ◌∙◌}
use Rattle.emu_bits.specs.Rows.{Place}
use Rattle.text_model.specs.declared.slots.Kind.{Kind}
use Rattle.text_model.specs.declared.slots.Kind.TheVariants.{Fixed, Plain, Stack, After, NamedCount, UnnamedCount, Scaled, Falling, Signed, Target, Bitmask, Spread, LeftShift, Inverted}
use Rattle.text_model.specs.declared.slots.Slot.{Slot}
use Rattle.text_model.specs.Slots.{places, bits_in, shown_number}
use Rattle.text_model.specs.Text.{printed}
use Rattle.text_model.specs.Aim.{Reach, reach_or}
use Rattle.text_code.specs.Aims.{is_sound_reach}
use Rattle.text_code.specs.Sound.{are_parts, is_sound_kind, is_sound}
use Rattle.text_code.proofs.Slots.{codec_sound}

pub target_sound : (s : Slot) (by page : ℕ) → s.codec.kind ≡ Target by page → is_sound s ≡ true → is_sound_reach (record { by = by; page = page; parts = s.codec.parts }) ≡ true
target_sound s by page e h =
    let n : ℕ = bits_in (places s.codec.parts) in
    sym (ap (λ (k : Kind). are_parts s.codec.parts && (nat_le n 32 && is_sound_kind k n)) e) ∙ codec_sound s h

-- ---- what is no target

abbrev pub IsNoTarget : Kind → Type 0
IsNoTarget k = (by page : ℕ) → k ≡ Target by page → ⊥

pub printed_as_shown : (k : Kind) (b v pc : ℕ) → IsNoTarget k → shown_number k b v ≡ printed k b v pc
printed_as_shown (Fixed x) b v pc isnt = refl
printed_as_shown Plain b v pc isnt = refl
printed_as_shown Stack b v pc isnt = refl
printed_as_shown (After x) b v pc isnt = refl
printed_as_shown NamedCount b v pc isnt = refl
printed_as_shown UnnamedCount b v pc isnt = refl
printed_as_shown (Scaled n x) b v pc isnt = refl
printed_as_shown Falling b v pc isnt = refl
printed_as_shown (Signed n) b v pc isnt = refl
printed_as_shown (Bitmask w) b v pc isnt = refl
printed_as_shown Spread b v pc isnt = refl
printed_as_shown (LeftShift w) b v pc isnt = refl
printed_as_shown Inverted b v pc isnt = refl
printed_as_shown (Target n g) b v pc isnt = absurd (isnt n g refl)

pub reach_behind : (k : Kind) (ps : List Place) (r : Option Reach) → IsNoTarget k → r ≡ reach_or k ps r
reach_behind (Fixed x) ps r isnt = refl
reach_behind Plain ps r isnt = refl
reach_behind Stack ps r isnt = refl
reach_behind (After x) ps r isnt = refl
reach_behind NamedCount ps r isnt = refl
reach_behind UnnamedCount ps r isnt = refl
reach_behind (Scaled n x) ps r isnt = refl
reach_behind Falling ps r isnt = refl
reach_behind (Signed n) ps r isnt = refl
reach_behind (Bitmask w) ps r isnt = refl
reach_behind Spread ps r isnt = refl
reach_behind (LeftShift w) ps r isnt = refl
reach_behind Inverted ps r isnt = refl
reach_behind (Target n g) ps r isnt = absurd (isnt n g refl)
