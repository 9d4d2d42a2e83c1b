-- Permutes by places: where lane k of a result of n lanes comes from. Lanes are of a Z register, fields of a predicate,
-- or items of a list. From the Arm Architecture Reference Manual for A-profile (DDI 0487), C8.2 'Alphabetical list of
-- SVE instructions': the operations of the entries ZIP1, UZP1, TRN1 and their kin, EXT, REV, INSR, DUP, TBL, SUNPKLO
-- and its kin, PUNPKLO, CPY, COMPACT, SPLICE, LASTA and LASTB. That a permute is said by places is this project's own.
use Rattle.std.specs.Prelude.{ℕ, zero, suc, ◌+◌, ◌-◌, ◌*◌, ◌/◌, ◌%◌, Bool, true, false, nat_eq, nat_lt, if◌then◌else◌, List, [], ◌∷◌, ◌++◌, length, get_or, Option, Some, None}
use Rattle.emu_bits.specs.Fields.{bit}
use Rattle.lane_model.specs.FirstLast.{first_where, last_where}
use Rattle.lane_model.specs.declared.places.LaneSource.{LaneSource}
use Rattle.lane_model.specs.declared.places.LaneSource.TheVariants.{FirstLane, SecondLane, Scalar, Zero}

-- what a place names, of two sources that are given lane by lane, of a scalar source, and of 0
abbrev pub taken : {A : Type 0} → (ℕ → A) → (ℕ → A) → A → A → LaneSource → A
taken a b scalar none (FirstLane j) = a j
taken a b scalar none (SecondLane j) = b j
taken a b scalar none Scalar = scalar
taken a b scalar none Zero = none

-- ---- two sources

-- lane j of the first source followed by the second
abbrev pub concatenated : ℕ → ℕ → LaneSource
concatenated n j = if nat_lt j n then FirstLane j else SecondLane (j - n)

-- an even lane k of the result is lane j of the first source, an odd one lane j of the second
abbrev pub by_parity : ℕ → ℕ → LaneSource
by_parity k j = if nat_eq (k % 2) 0 then FirstLane j else SecondLane j

-- lanes 2j and 2j + 1 are lane j of the first and of the second source, in zip2 from j = n / 2 on
abbrev pub zip_place : Bool → ℕ → ℕ → LaneSource
zip_place second n k = by_parity k (bit second * (n / 2) + k / 2)

-- lane 2k of both sources one after the other, in uzp2 lane 2k + 1
abbrev pub uzp_place : Bool → ℕ → ℕ → LaneSource
uzp_place second n k = concatenated n (2 * k + bit second)

-- lanes 2j and 2j + 1 are lane 2j of the first and of the second source, in trn2 lane 2j + 1
abbrev pub trn_place : Bool → ℕ → LaneSource
trn_place second k = by_parity k (2 * (k / 2) + bit second)

-- from lane `from` on of both sources one after the other; `from` is 0 where it is n or more
abbrev pub ext_place : ℕ → ℕ → ℕ → LaneSource
ext_place from n k = concatenated n ((if nat_lt from n then from else 0) + k)

-- ---- one source

-- in reverse order
abbrev pub rev_place : ℕ → ℕ → LaneSource
rev_place n k = FirstLane (n - 1 - k)

-- lanes move up by one, and lane 0 is the scalar
abbrev pub insr_place : ℕ → LaneSource
insr_place k = if nat_eq k 0 then Scalar else FirstLane (k - 1)

-- lane i, and 0 where there is none
abbrev pub indexed_place : ℕ → ℕ → LaneSource
indexed_place i n = if nat_lt i n then FirstLane i else Zero

-- a source of 2n lanes of half the size: its low half, or its high half
abbrev pub half_place : Bool → ℕ → ℕ → LaneSource
half_place high n k = FirstLane (bit high * n + k)

-- ---- by active lanes, where `active k` tells whether lane k is active

-- the scalar in active lanes; the others stay
abbrev pub copy_place : (ℕ → Bool) → ℕ → LaneSource
copy_place active k = if active k then Scalar else FirstLane k

-- the active lanes of n, in order
abbrev pub active_lanes : (ℕ → Bool) → ℕ → List ℕ
active_lanes active zero = []
active_lanes active (suc n) = active_lanes active n ++ (if active n then n ∷ [] else [])

-- the active lanes in order, and 0 behind them
abbrev pub compact_place : (ℕ → Bool) → ℕ → ℕ → LaneSource
compact_place active n k =
    if nat_lt k (length (active_lanes active n)) then FirstLane (get_or (active_lanes active n) k 0) else Zero

-- `count` lanes from `from` on, then the second source from its lane 0 on
abbrev pub spliced : ℕ → ℕ → ℕ → LaneSource
spliced from count k = if nat_lt k count then FirstLane (from + k) else SecondLane (k - count)

-- from the first active lane to the last, all between, then the second source; this alone where no lane is active
abbrev pub splice_between : Option ℕ → Option ℕ → ℕ → LaneSource
splice_between (Some from) (Some to) k = spliced from (to + 1 - from) k
splice_between (Some from) None k = SecondLane k
splice_between None to k = SecondLane k

abbrev pub splice_place : (ℕ → Bool) → ℕ → ℕ → LaneSource
splice_place active n k = splice_between (first_where n active) (last_where n active) k

-- ---- a single lane

-- lasta, `after`: the lane after the last active one, lane 0 after lane n - 1 or where none is active; lastb: the last
-- active lane, or lane n - 1 where none is
abbrev pub lane_by_last : Bool → ℕ → Option ℕ → ℕ
lane_by_last true n (Some k) = if nat_lt (k + 1) n then k + 1 else 0
lane_by_last true n None = 0
lane_by_last false n (Some k) = k
lane_by_last false n None = n - 1

abbrev pub last_lane : Bool → (ℕ → Bool) → ℕ → ℕ
last_lane after active n = lane_by_last after n (last_where n active)
