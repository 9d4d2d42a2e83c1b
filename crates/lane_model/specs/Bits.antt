-- Lists of bits: bits one by one, and fields of them for lanes. From the Arm Architecture Reference
-- Manual for A-profile (DDI 0487), B1 'The AArch64 Application Level Programmers' Model', SVE predicate registers, and
-- ActivePredicateElement of J1.
--
-- Lane k, of e bits, has the field of e / 8 bits from bit k * e / 8 on. It is set, or active, where the lowest of them
-- is 1, whatever the others are.
use Rattle.std.specs.Prelude.{ℕ, ◌*◌, ◌/◌, ◌%◌, Bool, false, nat_eq, if◌then◌else◌, List, get_or}
use Rattle.lane_model.specs.Lists.{each}

-- bit k
abbrev pub is_set : List Bool → ℕ → Bool
is_set p k = get_or p k false

-- ---- lanes

-- the lanes of e bits that m bits have
abbrev pub lanes_of : ℕ → ℕ → ℕ
lanes_of e m = m / (e / 8)

-- lane k of e bits: ActivePredicateElement(p, k, e)
abbrev pub active : ℕ → List Bool → ℕ → Bool
active e p k = is_set p (k * (e / 8))

-- bit j of fields of w bits: field k has f k as its lowest bit, and zeros above
abbrev pub field_bit : ℕ → (ℕ → Bool) → ℕ → Bool
field_bit w f j = if nat_eq (j % w) 0 then f (j / w) else false

-- m bits in fields for lanes of e bits
abbrev pub fields : ℕ → ℕ → (ℕ → Bool) → List Bool
fields e m f = each m (field_bit (e / 8) f)
