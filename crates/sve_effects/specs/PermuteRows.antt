-- What the permutes of lanes and of predicate fields do, and copies of scalars to lanes and of lanes to scalars. From
-- the Arm Architecture Reference Manual for A-profile (DDI 0487), C8.2 'Alphabetical list of SVE instructions': the
-- operations of the entries of permutes (DUP, INSR, REV, SUNPKLO, TBL, ZIP1, PUNPKLO, COMPACT, SPLICE, EXT, CPY, LASTA,
-- CLASTA and their kin), with the shared pseudocode LastActiveElement.
use Rattle.std.specs.Prelude.{ℕ, ◌+◌, ◌*◌, ◌/◌, ◌%◌, ◌^◌, Bool, true, false, nat_eq, if◌then◌else◌, List, get_or, is_some, unwrap_or}
use Rattle.sve_insn.specs.declared.ops.InterleaveOp.{InterleaveOp}
use Rattle.sve_insn.specs.declared.ops.InterleaveOp.TheVariants.{Zip1, Zip2, Uzp1, Uzp2, Trn1, Trn2}
use Rattle.sve_insn.specs.declared.ops.InsertOp.{InsertOp}
use Rattle.sve_insn.specs.declared.ops.InsertOp.TheVariants.{InsrR, InsrV}
use Rattle.sve_insn.specs.declared.ops.UnpackOp.{UnpackOp}
use Rattle.sve_insn.specs.declared.ops.UnpackOp.TheVariants.{Sunpklo, Sunpkhi, Uunpklo, Uunpkhi}
use Rattle.sve_insn.specs.declared.ops.UnpackPOp.{UnpackPOp}
use Rattle.sve_insn.specs.declared.ops.UnpackPOp.TheVariants.{Punpklo, Punpkhi}
use Rattle.sve_insn.specs.declared.ops.CopyRegOp.{CopyRegOp}
use Rattle.sve_insn.specs.declared.ops.CopyRegOp.TheVariants.{CpyR, CpyV}
use Rattle.sve_insn.specs.declared.ops.LastOp.{LastOp}
use Rattle.sve_insn.specs.declared.ops.LastOp.TheVariants.{LastaR, LastbR, LastaV, LastbV}
use Rattle.sve_insn.specs.declared.ops.CondLastOp.{CondLastOp}
use Rattle.sve_insn.specs.declared.ops.CondLastOp.TheVariants.{ClastaR, ClastbR, ClastaV, ClastbV, ClastaZ, ClastbZ}
use Rattle.emu_model.specs.Done.{Registers, leaves}
use Rattle.emu_model.specs.State.{Core, Vectors, read_x, read_x_sp, with_x}
use Rattle.sve_effects.specs.Lane.{extended_by}
use Rattle.sve_effects.specs.LaneLoop.{lane_bits, lane_of, is_active}
use Rattle.lane_model.specs.FirstLast.{first_where, last_where}
use Rattle.emu_model.specs.Lanes.{read_p, with_lanes, with_low, with_fields}
use Rattle.lane_model.specs.declared.places.LaneSource.{LaneSource}
use Rattle.lane_model.specs.Permute.{taken, zip_place, uzp_place, trn_place, half_place, last_lane}

-- ---- lanes and fields by places

-- how many lanes of e bits a Z register has
abbrev pub lanes : ℕ → Vectors → ℕ
lanes e v = v.bits / e

-- lane k of e bits of Zd is what place k names, of Zn, Zm and a scalar
abbrev pub with_places : ℕ → (ℕ → LaneSource) → ℕ → ℕ → ℕ → ℕ → Vectors → Vectors
with_places e place zn zm scalar zd v =
    with_lanes e (λ k. taken (lane_of e v zn) (lane_of e v zm) scalar 0 (place k)) zd v

-- bit i of field k of w bits
abbrev pub bit_of_field : ℕ → ℕ → List Bool → ℕ → Bool
bit_of_field w i bits k = get_or bits (k * w + i) false

-- field k of e / 8 bits of Pd is the whole field that place k names, of Pn and Pm
abbrev pub with_p_places : ℕ → (ℕ → LaneSource) → ℕ → ℕ → ℕ → Vectors → Vectors
with_p_places e place pn pm pd v =
    let w : ℕ = e / 8 in
    with_fields 8 (λ j. taken
    (bit_of_field w (j % w) (read_p v pn)) (bit_of_field w (j % w) (read_p v pm)) false false (place (j / w))) pd v

-- ---- names

-- the scalar of insr: a general register, where 31 is 0, or the low lane of a vector register
abbrev pub inserted_scalar : InsertOp → ℕ → ℕ → Core → Vectors → ℕ
inserted_scalar InsrR e src c v = read_x c src
inserted_scalar InsrV e src c v = lane_of e v src 0

-- the scalar of cpy: a general register, where 31 is SP, or the low lane of a vector register
abbrev pub copied_scalar : CopyRegOp → ℕ → ℕ → Core → Vectors → ℕ
copied_scalar CpyR e rn c v = read_x_sp c rn
copied_scalar CpyV e rn c v = lane_of e v rn 0

-- whether a name is of the high half, as those with hi are, and whether its lanes are signed, as those with s are
abbrev pub unpacks : UnpackOp → Bool × Bool
unpacks Sunpklo = (false, true)
unpacks Sunpkhi = (true, true)
unpacks Uunpklo = (false, false)
unpacks Uunpkhi = (true, false)

-- the names with 1 are of the first halves, or of the even lanes; those with 2 of the others
abbrev pub interleave_place : InterleaveOp → ℕ → ℕ → LaneSource
interleave_place Zip1 n k = zip_place false n k
interleave_place Zip2 n k = zip_place true n k
interleave_place Uzp1 n k = uzp_place false n k
interleave_place Uzp2 n k = uzp_place true n k
interleave_place Trn1 n k = trn_place false k
interleave_place Trn2 n k = trn_place true k

abbrev pub is_high_p : UnpackPOp → Bool
is_high_p Punpklo = false
is_high_p Punpkhi = true

-- ---- dup of a lane

-- the first k of 0 to 4 whose bit of tsz is 1, else 4
abbrev pub lowest_bit : ℕ → ℕ
lowest_bit tsz = unwrap_or (first_where 5 (λ k. nat_eq (tsz / 2 ^ k % 2) 1)) 4

-- the bits of a lane by tsz: 8 b, 16 h, 32 s, 64 d, 128 q
abbrev pub dup_bits : ℕ → ℕ
dup_bits tsz = lane_bits (lowest_bit tsz)

-- imm2:tsz above that bit
abbrev pub dup_index : ℕ → ℕ → ℕ
dup_index imm2 tsz = (imm2 * 32 + tsz) / 2 ^ (lowest_bit tsz + 1)

-- ---- single lanes

-- whether one of n lanes is active
abbrev pub any_active : (ℕ → Bool) → ℕ → Bool
any_active active n = is_some (last_where n active)

-- the lane of Zn that lasta or lastb gives
abbrev pub last_value : Bool → ℕ → ℕ → ℕ → Vectors → ℕ
last_value after e pg zn v = lane_of e v zn (last_lane after (is_active e v pg) (lanes e v))

-- the same where a lane is active, else another number
abbrev pub last_value_or : ℕ → Bool → ℕ → ℕ → ℕ → Vectors → ℕ
last_value_or other after e pg zn v =
    if any_active (is_active e v pg) (lanes e v) then last_value after e pg zn v else other

-- ---- the rows

-- a lane to a general register, with zeros above, or to a vector register; for the names with a, that after the last
-- active one
abbrev pub after_last : LastOp → ℕ → ℕ → ℕ → ℕ → Core → Vectors → Registers
after_last LastaR e pg zn rd c v = leaves (with_x c rd 64 (last_value true e pg zn v)) v
after_last LastbR e pg zn rd c v = leaves (with_x c rd 64 (last_value false e pg zn v)) v
after_last LastaV e pg zn vd c v = leaves c (with_low e (last_value true e pg zn v) vd v)
after_last LastbV e pg zn vd c v = leaves c (with_low e (last_value false e pg zn v) vd v)

-- the same where a lane is active; where none is, a scalar's register gets its own low e bits, and a register of lanes
-- stays
abbrev pub cond_last_x : Bool → ℕ → ℕ → ℕ → ℕ → Core → Vectors → Registers
cond_last_x after e pg zm rdn c v = leaves (with_x c rdn 64 (last_value_or (read_x c rdn % 2 ^ e) after e pg zm v)) v

abbrev pub cond_last_low : Bool → ℕ → ℕ → ℕ → ℕ → Core → Vectors → Registers
cond_last_low after e pg zm vdn c v = leaves c (with_low e (last_value_or (lane_of e v vdn 0) after e pg zm v) vdn v)

abbrev pub cond_last_lanes : Bool → ℕ → ℕ → ℕ → ℕ → Core → Vectors → Registers
cond_last_lanes after e pg zm zdn c v =
    leaves c (if any_active (is_active e v pg) (lanes e v) then with_lanes e (λ k. last_value after e pg zm v) zdn v
    else v)

abbrev pub after_cond_last : CondLastOp → ℕ → ℕ → ℕ → ℕ → Core → Vectors → Registers
after_cond_last ClastaR e pg zm rdn c v = cond_last_x true e pg zm rdn c v
after_cond_last ClastbR e pg zm rdn c v = cond_last_x false e pg zm rdn c v
after_cond_last ClastaV e pg zm vdn c v = cond_last_low true e pg zm vdn c v
after_cond_last ClastbV e pg zm vdn c v = cond_last_low false e pg zm vdn c v
after_cond_last ClastaZ e pg zm zdn c v = cond_last_lanes true e pg zm zdn c v
after_cond_last ClastbZ e pg zm zdn c v = cond_last_lanes false e pg zm zdn c v

-- the lanes of half the size, extended
abbrev pub after_unpack : UnpackOp → ℕ → ℕ → ℕ → Vectors → Vectors
after_unpack op e zn zd v =
    with_lanes e (λ k. extended_by (unpacks op).1 e (e / 2)
    (taken (lane_of (e / 2) v zn) (lane_of (e / 2) v zn) 0 0 (half_place (unpacks op).0 (lanes e v) k))) zd v

-- field k of 2 bits has bit k of the half of Pn as its lowest bit, and 0 above
abbrev pub after_unpack_p : UnpackPOp → ℕ → ℕ → Vectors → Vectors
after_unpack_p op pn pd v =
    with_fields 16 (λ k.
    taken (is_active 8 v pn) (is_active 8 v pn) false false (half_place (is_high_p op) (lanes 16 v) k)) pd v
