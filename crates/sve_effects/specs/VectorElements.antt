-- What SVE loads and stores say of their elements: which lanes have one, for which registers, and where it is in
-- memory. From the Arm Architecture Reference Manual for A-profile (DDI 0487), C8.2 'Alphabetical list of SVE
-- instructions': the operations of the entries of loads and stores, with their addresses. The order of the elements is
-- this project's own choice where the manual leaves it open.
use Rattle.std.specs.Prelude.{ℕ, zero, suc, ◌+◌, ◌*◌, ◌/◌, ◌%◌, Bool, true, false, not, List, [], ◌∷◌, ◌++◌, get_or, if◌then◌else◌, ℤ, pos, ◌+ℤ◌, ◌*ℤ◌, ◌^◌}
use Rattle.sve_insn.specs.declared.ops.LoadManyOp.{LoadManyOp}
use Rattle.sve_insn.specs.declared.ops.LoadManyOp.TheVariants.{Ld2, Ld3, Ld4}
use Rattle.sve_insn.specs.declared.ops.StoreManyOp.{StoreManyOp}
use Rattle.sve_insn.specs.declared.ops.StoreManyOp.TheVariants.{St2, St3, St4}
use Rattle.emu_bits.specs.Numbers.{signed, sign_extended, unsigned, unsigned_int}
use Rattle.emu_model.specs.Access.{address}
use Rattle.emu_model.specs.Elements.{Element}
use Rattle.emu_model.specs.Lists.{each}
use Rattle.emu_model.specs.State.{Core, Vectors, read_x, read_x_sp}
use Rattle.sve_effects.specs.LaneLoop.{lane_bits, lane_of, is_active}
use Rattle.lane_model.specs.FirstLast.{first_where}
use Rattle.lane_model.specs.Predicate.{is_at}

-- ---- what a row says of its elements

-- which access it is
pub data Way : Type 0 where
  loads : Way
  stores : Way
  first_faults : Way
  non_faults : Way

-- a gather, which is first-faulting where its bit ff is 1
abbrev pub gathering : Bool → Way
gathering ff = if ff then first_faults else loads

-- the bits of a lane, the bytes of its element, and whether a load extends the element's sign
pub record Width : Type 0 where
  pub bits : ℕ
  pub bytes : ℕ
  pub is_signed : Bool

-- which lanes have an element, and what of the registers it is
pub data LaneChoice : Type 0 where
  -- each active lane its own
  each_active : ℕ → LaneChoice
  -- each active lane of the first 128 bits, which are then repeated
  each_repeated : ℕ → LaneChoice
  -- the first active one, and its element is then in each active lane
  replicated : ℕ → LaneChoice
  -- each byte of a Z register
  whole_z : LaneChoice
  -- each eight bits of a predicate
  whole_p : LaneChoice

-- what stands behind Xn|SP in brackets
pub data Offset : Type 0 where
  -- #imm4, mul vl
  lengths : ℕ → Offset
  -- #imm4 of 16 bytes
  quadwords : ℕ → Offset
  -- Xm, lsl #s
  by_register : ℕ → Offset
  -- #imm6, of the one element
  single : ℕ → Offset
  -- #imm9, mul vl, of a whole register
  whole_lengths : ℕ → Offset
  -- Zm.T, uxtw #scale, or sxtw where true
  by_words : Bool → ℕ → ℕ → Offset
  -- Zm.d, lsl #scale
  by_doublewords : ℕ → ℕ → Offset

-- [Xn|SP, an offset], or [Zn.T, #imm5]
pub data Brackets : Type 0 where
  scalar : ℕ → Offset → Brackets
  vector : ℕ → ℕ → Brackets

-- the elements are of so many registers from number `first` on, which behind 31 go on at 0
pub record MemoryRow : Type 0 where
  pub way : Way
  pub width : Width
  pub registers : ℕ
  pub first : ℕ
  pub choice : LaneChoice
  pub brackets : Brackets

-- ---- a layout of elements

-- Of the first `lanes` lanes, of `bits` bits each, those that are on have an element of `bytes` bytes for each of
-- `registers` registers from number `register` on; `address` is that of lane k and the j-th of the registers.
pub record Layout : Type 0 where
  pub bits : ℕ
  pub bytes : ℕ
  pub lanes : ℕ
  pub registers : ℕ
  pub register : ℕ
  pub is_on : ℕ → Bool
  pub address : ℕ → ℕ → ℕ

-- the j-th register: behind 31 they go on at 0
abbrev pub register_at : Layout → ℕ → ℕ
register_at l j = (l.register + j) % 32

-- the elements of lane k, in order of registers
abbrev pub lane_elements : Layout → ℕ → List Element
lane_elements l k =
    each l.registers (λ j. record { lane = k; register = register_at l j; address = l.address k j; bytes = l.bytes })

-- those of the first n lanes, in order of lanes
unfoldable pub elements_below : Layout → ℕ → List Element
elements_below l zero = []
elements_below l (suc n) = elements_below l n ++ (if l.is_on n then lane_elements l n else [])

abbrev pub elements_of : Layout → List Element
elements_of l = elements_below l l.lanes

-- ---- sizes

-- by dtype, from memory to a lane: b to b, h, s, d; sw to d; h to h, s, d; sh to d, s; w to s, d; sb to d, s, h; d to d
abbrev pub dtype_bytes : ℕ → ℕ
dtype_bytes dtype = get_or (1 ∷ 1 ∷ 1 ∷ 1 ∷ 4 ∷ 2 ∷ 2 ∷ 2 ∷ 2 ∷ 2 ∷ 4 ∷ 4 ∷ 1 ∷ 1 ∷ 1 ∷ 8 ∷ []) dtype 8

abbrev pub dtype_bits : ℕ → ℕ
dtype_bits dtype = get_or (8 ∷ 16 ∷ 32 ∷ 64 ∷ 64 ∷ 16 ∷ 32 ∷ 64 ∷ 64 ∷ 32 ∷ 32 ∷ 64 ∷ 64 ∷ 32 ∷ 16 ∷ 64 ∷ []) dtype 64

abbrev pub dtype_signed : ℕ → Bool
dtype_signed dtype =
    get_or (false ∷ false ∷ false ∷ false ∷ true ∷ false ∷ false ∷ false
    ∷ true ∷ true ∷ false ∷ false ∷ true ∷ true ∷ true ∷ false ∷ []) dtype false

-- how many registers a structure has
abbrev pub load_registers : LoadManyOp → ℕ
load_registers Ld2 = 2
load_registers Ld3 = 3
load_registers Ld4 = 4

abbrev pub store_registers : StoreManyOp → ℕ
store_registers St2 = 2
store_registers St3 = 3
store_registers St4 = 4

abbrev pub by_dtype : ℕ → Width
by_dtype dtype = record { bits = dtype_bits dtype; bytes = dtype_bytes dtype; is_signed = dtype_signed dtype }

-- an element of 2 to the power of msz bytes in a lane of so many bits, by its sign where u is false, else by zeros
abbrev pub extending : ℕ → ℕ → Bool → Width
extending bits msz u = record { bits = bits; bytes = 2 ^ msz; is_signed = not u }

-- the same with zeros above it in a load, and of a store the low bytes of the lane
abbrev pub low_part : ℕ → ℕ → Width
low_part bits msz = record { bits = bits; bytes = 2 ^ msz; is_signed = false }

-- an element that fills its lane
abbrev pub full_width : ℕ → Width
full_width msz = low_part (lane_bits msz) msz

-- a whole register goes byte by byte
abbrev pub single_bytes : Width
single_bytes = record { bits = 8; bytes = 1; is_signed = false }

-- ---- places

-- [Xn|SP, #i]: i counts n bytes
abbrev pub base_and_count : Core → ℕ → ℤ → ℕ → ℕ
base_and_count c rn i n = unsigned_int (pos (read_x_sp c rn) +ℤ i *ℤ pos n) 64

-- [Xn|SP, Xm, lsl #s]: Xm counts n bytes
abbrev pub base_and_register : Core → ℕ → ℕ → ℕ → ℕ
base_and_register c rn rm n = address (read_x_sp c rn + read_x c rm * n)

-- the low 32 bits of a lane, unsigned (uxtw), or signed where xs is true (sxtw)
abbrev pub word_offset : Bool → ℕ → ℕ
word_offset xs x = if xs then sign_extended 64 32 x else unsigned x 32

-- ---- the layout of a row

-- the lanes that may have an element
abbrev pub lane_count : LaneChoice → ℕ → Vectors → ℕ
lane_count (each_active pg) e v = v.bits / e
lane_count (each_repeated pg) e v = 128 / e
lane_count (replicated pg) e v = v.bits / e
lane_count whole_z e v = v.bits / 8
lane_count whole_p e v = v.bits / 64

-- those of them that have one
abbrev pub lane_is_on : LaneChoice → ℕ → Vectors → ℕ → Bool
lane_is_on (each_active pg) e v = is_active e v pg
lane_is_on (each_repeated pg) e v = is_active e v pg
lane_is_on (replicated pg) e v = is_at (first_where (v.bits / e) (is_active e v pg))
lane_is_on whole_z e v = λ k. true
lane_is_on whole_p e v = λ k. true

-- the address for lane k and the j-th of the registers, where elements follow one another lane by lane, and within a
-- lane register by register
abbrev pub following : MemoryRow → ℕ → ℕ → ℕ → ℕ
following r base k j = address (base + (k * r.registers + j) * r.width.bytes)

-- the same by what stands behind Xn|SP
abbrev pub offset_address : Offset → MemoryRow → ℕ → Core → Vectors → ℕ → ℕ → ℕ
offset_address (lengths imm4) r rn c v =
    following r
    (base_and_count c rn (signed imm4 4) (r.registers * lane_count r.choice r.width.bits v * r.width.bytes))
offset_address (quadwords imm4) r rn c v = following r (base_and_count c rn (signed imm4 4) 16)
offset_address (by_register rm) r rn c v = following r (base_and_register c rn rm r.width.bytes)
offset_address (single imm6) r rn c v = λ k j. base_and_count c rn (pos imm6) r.width.bytes
offset_address (whole_lengths imm9) r rn c v = λ k j.
    address (base_and_count c rn (signed imm9 9) (lane_count r.choice r.width.bits v) + k)
offset_address (by_words is_signed zm scale) r rn c v = λ k j.
    address (read_x_sp c rn + word_offset is_signed (lane_of r.width.bits v zm k) * 2 ^ scale)
offset_address (by_doublewords zm scale) r rn c v = λ k j. address (read_x_sp c rn + lane_of 64 v zm k * 2 ^ scale)

-- the same by the brackets: of [Zn.T, #imm5] the lanes of Zn, unsigned, and imm5 elements on
abbrev pub element_address : Brackets → MemoryRow → Core → Vectors → ℕ → ℕ → ℕ
element_address (scalar rn offset) r c v = offset_address offset r rn c v
element_address (vector zn imm5) r c v = λ k j. address (lane_of r.width.bits v zn k + imm5 * r.width.bytes)

abbrev pub row_layout : MemoryRow → Core → Vectors → Layout
row_layout r c v = record {
  bits = r.width.bits;
  bytes = r.width.bytes;
  lanes = lane_count r.choice r.width.bits v;
  registers = r.registers;
  register = r.first;
  is_on = lane_is_on r.choice r.width.bits v;
  address = element_address r.brackets r c v;
}
