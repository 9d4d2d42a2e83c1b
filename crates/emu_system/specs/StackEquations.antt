-- The equations of the stack at a program's start and of its pieces, for proofs.
use Rattle.std.specs.Prelude.{◌≡◌, ◌<◌, ◌≤◌, ◌⊎◌, ℕ, ◌+◌, ◌-◌, ◌*◌, Bool, true, false, ◌&&◌, List, ◌∷◌, length, get_or, nat_le, nat_lt, if◌then◌else◌, [], map, flat_map}
use Rattle.std.proofs.Common.{refl, ap, inl, inr, arith}
use Rattle.std.proofs.lemmas.Bool.Decides.{nat_tests}
use Rattle.std.specs.List.{range_with_len}
use Rattle.emu_model.specs.Access.{page_size}
use Rattle.emu_model.specs.declared.access.Rights.{Rights}
use Rattle.emu_model.specs.Lists.{each}
use Rattle.emu_system.specs.Pieces.{Piece, byte_among, page_among}
use Rattle.emu_system.specs.Image.{Image, stack_page_count}
use Rattle.emu_system.specs.Stack.{first_stack_page, stack_page, random_bytes, auxiliary_vector, last_words, word_bytes, stack_pages}
use Rattle.byteorder.specs.Endian.{little_bytes}

-- the equations, for proofs
pub page_among_is : (rights : Rights) (pieces : List Piece) (number : ℕ) → page_among rights pieces number ≡ record { rights = rights; bytes = each page_size (λ k. byte_among pieces (page_size * number + k)) }
unfolding page_among
page_among_is rights pieces number = refl

module _ (p : Piece) (ps : List Piece) (x : ℕ) where
  pub byte_reached : p.at ≤ x → x < p.at + length p.bytes → byte_among (p ∷ ps) x ≡ get_or p.bytes (x - p.at) 0
  byte_reached low high =
      let t : (nat_le p.at x && nat_lt x (p.at + length p.bytes)) ≡ true = grind (arith, nat_tests) in
      ap (λ (t : Bool). if t then get_or p.bytes (x - p.at) 0 else byte_among ps x) t

  pub byte_not_reached : (x < p.at) ⊎ (p.at + length p.bytes ≤ x) → byte_among (p ∷ ps) x ≡ byte_among ps x
  byte_not_reached out =
      let t : (nat_le p.at x && nat_lt x (p.at + length p.bytes)) ≡ false = elim out [ inl low ↦ grind (arith, nat_tests) | inr high ↦ grind (arith, nat_tests) ] in
      ap (λ (t : Bool). if t then get_or p.bytes (x - p.at) 0 else byte_among ps x) t

-- the equations, for proofs
pub random_bytes_are : random_bytes ≡ range_with_len 0 16
unfolding random_bytes
random_bytes_are = refl

pub last_words_are : (image : Image) (random : ℕ) → last_words image random ≡ 0 ∷ 0 ∷ flat_map (λ pair. pair.0 ∷ pair.1 ∷ []) (auxiliary_vector image random)
unfolding last_words
last_words_are image random = refl

pub word_bytes_are : (words : List ℕ) → word_bytes words ≡ flat_map (little_bytes 8) words
unfolding word_bytes
word_bytes_are words = refl

pub stack_pages_are : (image : Image) (args : List (List ℕ)) → stack_pages image args ≡ map (λ number. (number, stack_page image args number)) (range_with_len first_stack_page stack_page_count)
unfolding stack_pages
stack_pages_are image args = refl
