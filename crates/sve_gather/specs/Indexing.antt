-- Gathers and scatters as their loops read them.
use Rattle.std.specs.Prelude.{◌≡◌, ◌⊎◌, ℕ, ◌+◌, ◌*◌, Bool, true, false}
use Rattle.emu_model.specs.Access.{address}
use Rattle.emu_model.specs.State.{Vectors}
use Rattle.sve_effects.specs.LaneLoop.{lane_of}
use Rattle.sve_effects.specs.VectorElements.{word_offset}
use Rattle.element_loops.specs.declared.plan.OnLanes.{OnLanes}
use Rattle.element_loops.specs.declared.plan.OnLanes.TheVariants.{All, Active, Only}
use Rattle.element_loops.specs.declared.plan.Places.{Places}
use Rattle.element_loops.specs.declared.plan.Places.TheVariants.{Consecutive, Bytes, Single, Words, Offsets, Vector}
use Rattle.element_loops.specs.declared.plan.Plan.{Plan}
use Rattle.element_loops.specs.Layouts.{address_of}
use Rattle.sve_gather.specs.declared.indexed.Index.{Index}
use Rattle.sve_gather.specs.declared.indexed.Offsets as offsets
use Rattle.sve_gather.specs.declared.indexed.Width.{Width}
use Rattle.sve_gather.specs.declared.indexed.Width.TheVariants.{Lane, Word}

-- the offset in a lane
abbrev pub offset_of : Width → ℕ → ℕ
offset_of Lane x = x
offset_of (Word is_signed) x = word_offset is_signed x

-- the address of the element of lane k, of e bits
abbrev pub offset_address : offsets.Offsets → ℕ → Vectors → ℕ → ℕ
offset_address o e v k = address (o.base + offset_of o.width (lane_of e v o.register k) * o.scale)

-- The addresses of places are those of offsets, whatever the sizes and the registers are.
abbrev pub AreOffsets : offsets.Offsets → Places → Type 0
AreOffsets o places = (e n r : ℕ) (v : Vectors) (k : ℕ) → address_of places e n r v k 0 ≡ offset_address o e v k

-- The predicate and the offsets of a plan.
pub record IsIndex (x : Index) (p : Plan) : Type 0 where
  pub on : p.on ≡ Active x.pg
  pub offsets : AreOffsets x.offsets p.places

-- Elements of n bytes, a usual number, no larger than lanes of e bits, which are 32 or 64.
abbrev pub IsUsual : ℕ → ℕ → Type 0
IsUsual e n = (n ≡ 1) ⊎ (n ≡ 2) ⊎ (n ≡ 4) ⊎ ((n ≡ 8) × (e ≡ 64))

abbrev pub has_predicate : OnLanes → Bool
has_predicate All = false
has_predicate (Active pg) = true
has_predicate (Only found) = false

abbrev pub has_offsets : Places → Bool
has_offsets (Consecutive base) = false
has_offsets (Bytes base) = false
has_offsets (Single a) = false
has_offsets (Words base xs zm scale) = true
has_offsets (Offsets base zm scale) = true
has_offsets (Vector zn offset) = true

-- A plan of active lanes whose elements are at offsets and of usual sizes.
pub record IsIndexed (p : Plan) : Type 0 where
  pub usual : IsUsual p.bits p.bytes
  pub on : has_predicate p.on ≡ true
  pub places : has_offsets p.places ≡ true
