-- Holes filled one by one.
use Rattle.std.specs.Prelude.{◌≡◌, ℕ, ◌+◌, ◌≤◌, if◌then◌else◌, List, [], ◌∷◌, ◌++◌, Option, Some, None, Result, Ok, Err, drop, length, take}
use Rattle.byteorder.specs.Endian.{little_bytes}
use Rattle.asm_image.specs.declared.filling.Patch.{Patch}
use Rattle.asm_image.specs.declared.filling.Patch.TheVariants as patch
use Rattle.asm_image.specs.declared.draft.Gap.{Gap}
use Rattle.asm_image.specs.declared.draft.Gap.TheVariants.{Aim, Address, Mention}
use Rattle.asm_image.specs.declared.draft.Hole.{Hole}
use Rattle.asm_tokens.specs.declared.target.Target.{Target}
use Rattle.asm_tokens.specs.declared.target.Target.TheVariants as target
use Rattle.listing_model.specs.declared.fault.ListingFault.{ListingFault}
use Rattle.listing_model.specs.declared.fault.ListingWhy.{ListingWhy}
use Rattle.listing_model.specs.declared.fault.ListingWhy.TheVariants.{UnknownLabel}
use Rattle.listing_model.specs.Image.{Contents, address_of, base, piece_bytes}
use Rattle.asm_image.specs.Draft.{drafted_code, drafted_data, holes_of, InOrder}
use Rattle.listing_model.specs.Layout.{Piece, aimed, address, mention, Placed, Labeled, is_data, size}
use Rattle.listing_model.specs.Statements.{Statements}

-- the piece that a gap is of
abbrev pub piece_of : {I : Type 0} → Gap I → Piece I
piece_of (Aim i t) = aimed i t
piece_of (Address n) = address n
piece_of (Mention n) = mention n

abbrev pub IsAimableGap : {I : Type 0} → (I → Type 0) → Gap I → Type 0
IsAimableGap has_target (Aim i t) = has_target i
IsAimableGap has_target (Address n) = Unit {0}
IsAimableGap has_target (Mention n) = Unit {0}

-- the address that a target is
abbrev pub target_of : ℕ → List Labeled → Target → Option ℕ
target_of code_size labels (target.Address a) = Some a
target_of code_size labels (target.Label n) = address_of code_size labels n

abbrev pub FindsTarget : Option ℕ → Result ℕ ListingWhy → Type 0
FindsTarget o (Ok a) = o ≡ Some a
FindsTarget o (Err why) = (why ≡ UnknownLabel) × (o ≡ None)

-- bytes in the place of those that stand there
abbrev pub put_at : List ℕ → ℕ → List ℕ → List ℕ
put_at xs place bs = take place xs ++ (bs ++ drop (place + length bs) xs)

abbrev pub patch_bytes : Patch → List ℕ
patch_bytes (patch.Word w) = little_bytes 4 w
patch_bytes (patch.Address a) = little_bytes 8 a
patch_bytes patch.Nothing = []

abbrev pub IsPatch : Result Patch ListingWhy → Result (List ℕ) ListingWhy → Type 0
IsPatch (Ok p) r = r ≡ Ok (patch_bytes p)
IsPatch (Err why) r = r ≡ Err why

-- the bytes of a hole stand in its section
abbrev pub HasRoom : {I : Type 0} → ℕ → ℕ → Hole I → Type 0
HasRoom c d h = h.place.at + size (piece_of h.gap) ≤ (if is_data h.place.section then d else c)

abbrev pub AllHaveRoom : {I : Type 0} → ℕ → ℕ → List (Hole I) → Type 0
AllHaveRoom c d [] = Unit {0}
AllHaveRoom c d (h ∷ hs) = HasRoom c d h × AllHaveRoom c d hs

abbrev pub AllAimable : {I : Type 0} → (I → Type 0) → List (Hole I) → Type 0
AllAimable has_target [] = Unit {0}
AllAimable has_target (h ∷ hs) = IsAimableGap has_target h.gap × AllAimable has_target hs

-- what fills a hole
abbrev pub filling_of : {I : Type 0} → Statements I → ℕ → List Labeled → Hole I → Result (List ℕ) ListingWhy
filling_of s code_size labels h = piece_bytes s (address_of code_size labels) (base code_size h.place.section + h.place.at) (piece_of h.gap)

-- a hole is filled in its section, and nothing else has changed
pub record Fills {I : Type 0} (s : Statements I) (labels : List Labeled) (h : Hole I) (code values code_after values_after : List ℕ) : Type 0 where
  pub bs : List ℕ
  pub is : filling_of s (length code) labels h ≡ Ok bs
  pub code_is : code_after ≡ (if is_data h.place.section then code else put_at code h.place.at bs)
  pub values_is : values_after ≡ (if is_data h.place.section then put_at values h.place.at bs else values)

abbrev pub FillsHole : {I : Type 0} → Statements I → List Labeled → Hole I → List ℕ → List ℕ → List ℕ → List ℕ → Result (Unit {0}) ListingFault → Type 0
FillsHole s labels h code values code_after values_after (Ok u) = Fills s labels h code values code_after values_after
FillsHole s labels h code values code_after values_after (Err f) = (f.line ≡ h.line) × (filling_of s (length code) labels h ≡ Err f.why)

-- the holes of pieces whose bytes stand in the sections
pub record ArePieces {I : Type 0} (ps : List (Placed I)) (code values : List ℕ) (hs : List (Hole I)) : Type 0 where
  pub code_is : code ≡ drafted_code ps
  pub values_is : values ≡ drafted_data ps
  pub holes_are : hs ≡ holes_of ps
  pub in_order : InOrder 0 0 ps

abbrev pub IsFilled : Result (Unit {0}) ListingFault → List ℕ → List ℕ → Result Contents ListingFault → Type 0
IsFilled (Ok u) code values r = r ≡ Ok (record { code = code; values = values })
IsFilled (Err f) code values r = r ≡ Err f
