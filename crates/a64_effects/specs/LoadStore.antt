-- Loads and stores: what a row says of its access, and what an access leaves. From the Arm Architecture Reference
-- Manual for A-profile (DDI 0487), C6.2 'Alphabetical list of A64 base instructions', and of vector registers C7.2: the
-- operations of the entries of loads and stores, with the shared pseudocode CheckSPAlignment,
-- AArch64.SetExclusiveMonitors and AArch64.ExclusiveMonitorsPass. This project's own choice, where the manual leaves it
-- open, is that accesses but exclusive, ordered and atomic ones may stand anywhere, that a monitor keeps one address
-- and one size, and what an access has done that is refused in part.
use Rattle.std.specs.Prelude.{ℕ, ◌+◌, ◌*◌, ◌%◌, ◌^◌, Bool, true, false, not, ◌&&◌, ◌||◌, List, [], ◌∷◌, Option, Some, None, nat_eq, nat_le, if◌then◌else◌, pos, ◌*ℤ◌}
use Rattle.std.specs.Option.{option_map_or}
use Rattle.a64_insn.specs.declared.ops.OrderedOp.{OrderedOp}
use Rattle.a64_insn.specs.declared.ops.OrderedOp.TheVariants.{Stlr, Ldar}
use Rattle.emu_bits.specs.Fields.{bit}
use Rattle.emu_bits.specs.Numbers.{signed, sign_extended, extended}
use Rattle.emu_model.specs.declared.access.Kind.TheVariants.{Read as ReadKind, Write as WriteKind}
use Rattle.emu_model.specs.declared.trap.TrapKind.TheVariants.{SpAlign, AccessAlign, Read, Write}
use Rattle.emu_model.specs.Access.{Memory, address, value}
use Rattle.emu_model.specs.Lanes.{lane, read_z, with_low}
use Rattle.emu_model.specs.State.{Core, Vectors, read_x, read_x_sp, with_x, with_x_sp}
use Rattle.a64_effects.specs.declared.transfer.Transfer.{Transfer}
use Rattle.a64_effects.specs.declared.transfer.Transfer.TheVariants.{Store, Load, LoadSigned, LoadSigned32, Prefetch, StoreVector, LoadVector}
use Rattle.emu_model.specs.Done.{Done, Registers, leaves, traps, as_far}
use Rattle.emu_model.specs.Elements.{Element, Reach, reach, with_stored, accesses_of}
use Rattle.a64_effects.specs.Atomic.{one_step}
use Rattle.a64_effects.specs.Flow.{moved_address}

-- ---- what is moved

-- of a general register by size and opc: stores, loads with zeros above, loads with the sign to 64 bits (at size 3 a
-- prefetch), and to 32 bits
abbrev pub general_transfer : ℕ → ℕ → Transfer
general_transfer size opc =
    if nat_eq opc 0 then Store
    else (if nat_eq opc 1 then Load
    else (if nat_eq opc 3 then LoadSigned32
    else (if nat_eq size 3 then Prefetch else LoadSigned)))

-- of a vector register: opc 0 and 2 are stores, 1 and 3 loads
abbrev pub vector_transfer : ℕ → Transfer
vector_transfer opc = if nat_eq (opc % 2) 0 then StoreVector else LoadVector

-- V tells which register it is
abbrev pub transfer : Bool → ℕ → ℕ → Transfer
transfer vector size opc = if vector then vector_transfer opc else general_transfer size opc

-- 2^size bytes, and 16 of a vector register where opc is 2 or 3
abbrev pub access_bytes : Bool → ℕ → ℕ → ℕ
access_bytes vector size opc = if vector && nat_le 2 opc then 16 else 2 ^ size

-- S, D and Q registers by opc
abbrev pub vector_bytes : ℕ → ℕ
vector_bytes opc = if nat_eq opc 0 then 4 else (if nat_eq opc 1 then 8 else 16)

-- of a literal by opc: ldr W, ldr X, ldrsw, prfm, and ldr of vector registers
abbrev pub literal_transfer : Bool → ℕ → Transfer
literal_transfer vector opc =
    if vector then LoadVector else (if nat_eq opc 2 then LoadSigned else (if nat_eq opc 3 then Prefetch else Load))

abbrev pub literal_bytes : Bool → ℕ → ℕ
literal_bytes vector opc = if vector then vector_bytes opc else (if nat_eq opc 1 then 8 else 4)

-- of a pair by opc and L: W registers, ldpsw, X registers, and vector registers
abbrev pub pair_transfer : Bool → ℕ → Bool → Transfer
pair_transfer vector opc l =
    if vector then (if l then LoadVector else StoreVector)
    else (if l then (if nat_eq opc 1 then LoadSigned else Load) else Store)

abbrev pub pair_bytes : Bool → ℕ → ℕ
pair_bytes vector opc = if vector then vector_bytes opc else (if nat_eq opc 2 then 8 else 4)

abbrev pub ordered_transfer : OrderedOp → Transfer
ordered_transfer Stlr = Store
ordered_transfer Ldar = Load

-- ---- addresses

-- a base register, which is SP where its number is 31, and a signed 9-bit offset
abbrev pub base_and_imm9 : Core → ℕ → ℕ → ℕ
base_and_imm9 c rn imm9 = moved_address (read_x_sp c rn) (signed imm9 9)

-- an extended register, times n where S is 1
abbrev pub indexed : Core → ℕ → ℕ → ℕ → Bool → ℕ → ℕ
indexed c rn rm ext s n = address (read_x_sp c rn + extended ext (read_x c rm) * (if s then n else 1))

-- a signed 7-bit offset that counts in accesses
abbrev pub pair_near : Core → ℕ → ℕ → ℕ → ℕ
pair_near c rn n imm7 = moved_address (read_x_sp c rn) (pos n *ℤ signed imm7 7)

-- mode 1 is post-indexed: the base itself; 0 and 2 are offset, and 3 is pre-indexed
abbrev pub pair_address : Core → ℕ → ℕ → ℕ → ℕ → ℕ
pair_address c mode rn n imm7 = if nat_eq mode 1 then read_x_sp c rn else pair_near c rn n imm7

-- modes 1 and 3 write the base back
abbrev pub writes_back : ℕ → Bool
writes_back mode = nat_eq mode 1 || nat_eq mode 3

-- ---- the elements

-- the register that is loaded or stored, and none by a prefetch
abbrev pub registers_of : Transfer → ℕ → List ℕ
registers_of Prefetch rt = []
registers_of t rt = rt ∷ []

-- the exclusive monitor keeps this address and this size
abbrev pub is_kept : Option (ℕ × ℕ) → ℕ → ℕ → Bool
is_kept monitor a n = option_map_or (λ k. nat_eq k.0 a && nat_eq k.1 n) monitor false

-- an element of n bytes for each register: the first at an address, and each other one behind the one before
abbrev pub elements_from : List ℕ → ℕ → ℕ → List Element
elements_from [] a n = []
elements_from (r ∷ rs) a n =
    record { lane = 0; register = r; address = a; bytes = n } ∷ elements_from rs (address (a + n)) n

-- ---- the tests before the access

-- the base is SP, which a prefetch doesn't test
abbrev pub has_sp : Transfer → ℕ → Bool
has_sp Prefetch rn = false
has_sp t rn = nat_eq rn 31

-- and SP isn't a multiple of 16
abbrev pub is_misaligned : Bool → Core → Bool
is_misaligned has c = has && not (nat_eq (c.sp % 16) 0)

-- an address, where it isn't a multiple of n
abbrev pub unless_multiple : ℕ → ℕ → Option ℕ
unless_multiple a n = if nat_eq (a % n) 0 then None else Some a

-- the same, where the address is tested
abbrev pub misaligned : Bool → ℕ → ℕ → Option ℕ
misaligned is_aligned a n = if is_aligned then unless_multiple a n else None

-- ---- what comes behind the access, and what is left

-- what a load of n bytes puts into its register
abbrev pub loaded_value : Transfer → ℕ → ℕ → ℕ
loaded_value LoadSigned n x = sign_extended 64 (8 * n) x
loaded_value LoadSigned32 n x = sign_extended 32 (8 * n) x
loaded_value t n x = x

-- the element's register is a vector register
abbrev pub is_vector : Transfer → Bool
is_vector StoreVector = true
is_vector LoadVector = true
is_vector t = false

-- the registers with n bytes of value x loaded to register rt: the low bytes of a vector register, with zeros above, or
-- a general register
abbrev pub with_element : Transfer → ℕ → ℕ → ℕ → Registers → Registers
with_element t rt n x r =
    if is_vector t then leaves r.core (with_low (8 * n) x rt r.vectors)
    else leaves (with_x r.core rt 64 (loaded_value t n x)) r.vectors

-- the same of elements in order
abbrev pub with_loaded : Transfer → Memory → List Element → Registers → Registers
with_loaded t m [] r = r
with_loaded t m (e ∷ es) r = with_loaded t m es (with_element t e.register e.bytes (value m e.address e.bytes) r)

-- what a store takes its bytes from: the low 128 bits of a vector register, or a general register
abbrev pub stored_value : Transfer → Core → Vectors → ℕ → ℕ
stored_value t c v rt = if is_vector t then lane 128 (read_z v rt) 0 else read_x c rt

-- the registers as they are
abbrev pub unchanged : Core → Core
unchanged c = c

-- the base is written back
abbrev pub written_back : ℕ → ℕ → Core → Core
written_back rn a c = with_x_sp c rn 64 a

abbrev pub written_back_if : Bool → ℕ → ℕ → Core → Core
written_back_if writes rn a c = if writes then written_back rn a c else c

-- the exclusive monitor keeps an address and a size
abbrev pub keeping : ℕ → ℕ → Core → Core
keeping a n c = record c { monitor = Some (a, n) }

-- Ws is 0 where the exclusive store was done, else 1, and the monitor is empty
abbrev pub after_exclusive : ℕ → Bool → Core → Core
after_exclusive rs done c = record (with_x c rs 32 (bit (not done))) { monitor = None }

-- a store that is refused has stored the elements before
abbrev pub stored_to : Transfer → Reach → (Core → Core) → Core → Vectors → Memory → Done
stored_to t r after c v m =
    as_far r.stop Write (accesses_of true r.done) (leaves c v) (leaves (after c) v)
    (with_stored (λ e. stored_value t c v e.register) r.done m)

-- what comes behind a load that is done
abbrev pub behind_load : (Core → Core) → Registers → Registers
behind_load after r = leaves (after r.core) r.vectors

-- a load that is refused changes no register
abbrev pub loaded_to : Transfer → Reach → (Core → Core) → Core → Vectors → Memory → Done
loaded_to t r after c v m =
    as_far r.stop Read (accesses_of false r.done) (leaves c v)
    (behind_load after (with_loaded t m r.done (leaves c v))) m

-- elements stored or loaded one after the other, and what comes after them
abbrev pub transferred : Transfer → List Element → (Core → Core) → Core → Vectors → Memory → Done
transferred Store es after c v m = stored_to Store (reach m WriteKind es) after c v m
transferred StoreVector es after c v m = stored_to StoreVector (reach m WriteKind es) after c v m
transferred t es after c v m = loaded_to t (reach m ReadKind es) after c v m

abbrev pub unless_misaligned : Option ℕ → Core → Vectors → Memory → Done → Done
unless_misaligned (Some a) c v m d = traps c v m AccessAlign a
unless_misaligned None c v m d = d

-- the tests in their order: the alignment of SP where it is the base, and that of the address
abbrev pub tested : Bool → Option ℕ → Core → Vectors → Memory → Done → Done
tested has at c v m d = if is_misaligned has c then traps c v m SpAlign c.sp else unless_misaligned at c v m d

-- ---- the rows

-- A row that loads or stores an element for each of its registers, by the registers before it.
pub record Transferring : Type 0 where
  -- what becomes of an element's bytes
  pub transfer : Transfer
  -- the register of each element, in order
  pub registers : List ℕ
  -- of the first element
  pub address : ℕ
  -- of each element
  pub bytes : ℕ
  -- SP is the base, and has to be a multiple of 16
  pub tests_sp : Bool
  -- the address has to be a multiple of the bytes
  pub is_aligned : Bool
  -- what comes behind an access that was done: the write-back of the base, and of an exclusive one the monitor
  pub behind : Core → Core

abbrev pub transferred_by : Transferring → Core → Vectors → Memory → Done
transferred_by r c v m =
    tested r.tests_sp (misaligned r.is_aligned r.address r.bytes) c v m
    (transferred r.transfer (elements_from r.registers r.address r.bytes) r.behind c v m)

-- A row that loads and stores the same bytes as one step, by the registers before it.
pub record Exchanging : Type 0 where
  pub address : ℕ
  pub bytes : ℕ
  pub tests_sp : Bool
  -- the new value of the bytes, if they get one, by their old value
  pub new : ℕ → Option ℕ
  -- the registers behind it, by the old value
  pub behind : ℕ → Core

abbrev pub exchanged_by : Exchanging → Core → Vectors → Memory → Done
exchanged_by r c v m =
    tested r.tests_sp (unless_multiple r.address r.bytes) c v m (one_step r.address r.bytes r.new r.behind c v m)
