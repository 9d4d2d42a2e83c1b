-- What SVE instructions make of predicates. From the Arm Architecture Reference Manual for A-profile (DDI 0487), C8.2
-- 'Alphabetical list of SVE instructions': the operations of the entries on predicates (AND to ORN and SEL, BRKA to
-- BRKN, PFIRST, PNEXT, PTRUE, WHILELT and its kin, CNTP), with the shared pseudocode PredTest, FirstActive, LastActive
-- and NoneActive.
--
-- A predicate has m bits, the lowest first, and a lane of e bits has the field of e / 8 of them from bit k * e / 8 on.
-- Of operands g says which lanes are active, a and b are sources, and old is what the destination had.
use Rattle.std.specs.Prelude.{ℕ, suc, ◌+◌, Bool, true, false, not, ◌&&◌, ◌||◌, nat_eq, nat_lt, nat_le, int_lt, int_le, if◌then◌else◌, List, Option, Some, None, is_none}
use Rattle.std.specs.Option.{option_map_or}
use Rattle.emu_bits.specs.declared.flags.Flags.{Flags}
use Rattle.emu_bits.specs.Numbers.{signed, unsigned}
use Rattle.lane_model.specs.Bits.{is_set, lanes_of, active, fields}
use Rattle.lane_model.specs.Lists.{each}
use Rattle.lane_model.specs.declared.predicates.LogicOp.{LogicOp}
use Rattle.lane_model.specs.declared.predicates.LogicOp.TheVariants.{And, Bic, Eor, Orr, Orn, Nor, Nand, Sel}
use Rattle.lane_model.specs.declared.predicates.WhileTest.{WhileTest}
use Rattle.lane_model.specs.declared.predicates.WhileTest.TheVariants.{Lt, Le, Lo, Ls}
use Rattle.lane_model.specs.FirstLast.{first_where, last_where, all_below, count_where}

-- ---- places

-- k is the place
abbrev pub is_at : Option ℕ → ℕ → Bool
is_at place k = option_map_or (nat_eq k) place false

-- k is behind the place, or there is none
abbrev pub is_behind : Option ℕ → ℕ → Bool
is_behind place k = option_map_or (λ j. nat_lt j k) place true

-- k is before the place, or at it where that is included, or there is none
abbrev pub is_upto : Bool → Option ℕ → ℕ → Bool
is_upto inclusive None k = true
is_upto inclusive (Some j) k = if inclusive then nat_le k j else nat_lt k j

-- the first of n lanes that is active and set
abbrev pub first_set : ℕ → (ℕ → Bool) → (ℕ → Bool) → Option ℕ
first_set n g a = first_where n (λ k. g k && a k)

-- whether the first active of n lanes is set, false where none is active: FirstActive(g, a)
abbrev pub first_is_set : ℕ → (ℕ → Bool) → (ℕ → Bool) → Bool
first_is_set n g a = option_map_or a (first_where n g) false

-- whether the last one is: LastActive(g, a)
abbrev pub last_is_set : ℕ → (ℕ → Bool) → (ℕ → Bool) → Bool
last_is_set n g a = option_map_or a (last_where n g) false

-- ---- the predicate test

-- PredTest of n lanes: N is whether the first active lane is set, Z whether no active lane is, C whether the last
-- active lane isn't, and V is 0
abbrev pub test_flags : ℕ → (ℕ → Bool) → (ℕ → Bool) → Flags
test_flags n g a =
    record { n = first_is_set n g a; z = is_none (first_set n g a); c = not (last_is_set n g a); v = false }

-- PredTest(g, a, e)
abbrev pub pred_test : ℕ → ℕ → List Bool → List Bool → Flags
pred_test e m g a = test_flags (lanes_of e m) (active e g) (active e a)

-- ---- logical operations

-- sel is a where active, else b; the others are 0 where inactive
abbrev pub logic_bit : LogicOp → Bool → Bool → Bool → Bool
logic_bit And g a b = g && (a && b)
logic_bit Bic g a b = g && (a && not b)
logic_bit Eor g a b = g && (if a then not b else b)
logic_bit Orr g a b = g && (a || b)
logic_bit Orn g a b = g && (a || not b)
logic_bit Nor g a b = g && not (a || b)
logic_bit Nand g a b = g && not (a && b)
logic_bit Sel g a b = if g then a else b

abbrev pub logic : LogicOp → ℕ → List Bool → List Bool → List Bool → List Bool
logic op m g a b = each m (λ k. logic_bit op (is_set g k) (is_set a k) (is_set b k))

-- ---- breaks

-- up to the first active bit that is set in a, which itself counts in an inclusive break
abbrev pub unbroken : Bool → ℕ → List Bool → List Bool → ℕ → Bool
unbroken inclusive m g a k = is_upto inclusive (first_set m (is_set g) (is_set a)) k

-- brka (inclusive) and brkb: the active bits up to the break are 1; inactive bits are as before (keep), or 0
abbrev pub broken : Bool → Bool → ℕ → List Bool → List Bool → List Bool → List Bool
broken inclusive keep m g a old =
    each m (λ k. if is_set g k then unbroken inclusive m g a k else (keep && is_set old k))

-- brkpa (inclusive) and brkpb: the same with b, where a is set at the last active bit; else 0
abbrev pub broken_pair : Bool → ℕ → List Bool → List Bool → List Bool → List Bool
broken_pair inclusive m g a b =
    each m (λ k. last_is_set m (is_set g) (is_set a) && (is_set g k && unbroken inclusive m g b k))

-- brkn: as before, where a is set at the last active bit; else 0
abbrev pub broken_next : ℕ → List Bool → List Bool → List Bool → List Bool
broken_next m g a old = each m (λ k. last_is_set m (is_set g) (is_set a) && is_set old k)

-- ---- first and next

-- pfirst: as before, and the first active bit is 1
abbrev pub with_first_active : ℕ → List Bool → List Bool → List Bool
with_first_active m g old = each m (λ k. is_at (first_where m (is_set g)) k || is_set old k)

-- pnext: the first active lane behind the last set lane, alone
abbrev pub next_lane : ℕ → ℕ → List Bool → List Bool → Option ℕ
next_lane e m g old =
    first_where (lanes_of e m) (λ k. active e g k && is_behind (last_where (lanes_of e m) (active e old)) k)

abbrev pub only_next : ℕ → ℕ → List Bool → List Bool → List Bool
only_next e m g old = fields e m (is_at (next_lane e m g old))

-- ---- loops and counts

-- ptrue: the lanes below a number
abbrev pub lanes_below : ℕ → ℕ → ℕ → List Bool
lanes_below e m count = fields e m (λ k. nat_lt k count)

-- the condition of a loop, at w bits
abbrev pub while_holds : WhileTest → ℕ → ℕ → ℕ → Bool
while_holds Lt w a b = int_lt (signed a w) (signed b w)
while_holds Le w a b = int_le (signed a w) (signed b w)
while_holds Lo w a b = nat_lt (unsigned a w) (unsigned b w)
while_holds Ls w a b = nat_le (unsigned a w) (unsigned b w)

-- while: lane k is set where the condition holds of a, a + 1, .., a + k and b, each modulo 2^w
abbrev pub while_lanes : WhileTest → ℕ → ℕ → ℕ → ℕ → ℕ → List Bool
while_lanes test w a b e m = fields e m (λ k. all_below (suc k) (λ j. while_holds test w (a + j) b))

-- cntp: how many lanes are active and set
abbrev pub count_lanes : ℕ → ℕ → List Bool → List Bool → ℕ
count_lanes e m g a = count_where (lanes_of e m) (λ k. active e g k && active e a k)
