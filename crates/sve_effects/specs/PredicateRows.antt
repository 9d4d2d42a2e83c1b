-- Parts of the SVE instructions that make predicates and flags: compares, logic, breaks, loops, counts, and FFR.
-- From the Arm Architecture Reference Manual for A-profile (DDI 0487), C8.2 'Alphabetical list of SVE instructions':
-- the operations of the entries of compares, of logic, breaks and counts of predicates, of FFR and of loops (WHILELT
-- and its kin, CTERMEQ), with the shared pseudocode PredTest. That WRFFR writes any predicate as it is, also one that
-- has a 1 above a 0, is this project's own choice where the manual leaves it open.
use Rattle.std.specs.Prelude.{ℕ, ◌/◌, ◌%◌, ◌^◌, Bool, true, false, not, ◌&&◌, nat_eq, if◌then◌else◌, List}
use Rattle.sve_insn.specs.declared.ops.BreakOp.{BreakOp}
use Rattle.sve_insn.specs.declared.ops.BreakOp.TheVariants.{Brka, Brkb}
use Rattle.sve_insn.specs.declared.ops.BreakPairOp.{BreakPairOp}
use Rattle.sve_insn.specs.declared.ops.BreakPairOp.TheVariants.{Brkpa, Brkpb}
use Rattle.sve_insn.specs.declared.ops.CmpSImmOp.{CmpSImmOp}
use Rattle.sve_insn.specs.declared.ops.CmpSImmOp.TheVariants as signed_names
use Rattle.sve_insn.specs.declared.ops.CmpUImmOp.{CmpUImmOp}
use Rattle.sve_insn.specs.declared.ops.CmpUImmOp.TheVariants as unsigned_names
use Rattle.sve_insn.specs.declared.ops.CmpVecOp.{CmpVecOp}
use Rattle.sve_insn.specs.declared.ops.CmpVecOp.TheVariants as vector_names
use Rattle.sve_insn.specs.declared.ops.CmpWideOp.{CmpWideOp}
use Rattle.sve_insn.specs.declared.ops.CmpWideOp.TheVariants as wide_names
use Rattle.sve_insn.specs.declared.ops.CtermOp.{CtermOp}
use Rattle.sve_insn.specs.declared.ops.CtermOp.TheVariants.{Ctermeq, Ctermne}
use Rattle.sve_insn.specs.declared.ops.IncPOp.{IncPOp}
use Rattle.sve_insn.specs.declared.ops.IncPOp.TheVariants.{Incp, Decp}
use Rattle.sve_insn.specs.declared.ops.LogicPOp.{LogicPOp}
use Rattle.sve_insn.specs.declared.ops.LogicPOp.TheVariants as logic_names
use Rattle.sve_insn.specs.declared.ops.PtrueOp.{PtrueOp}
use Rattle.sve_insn.specs.declared.ops.PtrueOp.TheVariants.{Ptrue as Unflagged, Ptrues as Flagged}
use Rattle.sve_insn.specs.declared.ops.ReadFfrOp.{ReadFfrOp}
use Rattle.sve_insn.specs.declared.ops.ReadFfrOp.TheVariants.{Rdffr, Rdffrs}
use Rattle.sve_insn.specs.declared.ops.WhileOp.{WhileOp}
use Rattle.sve_insn.specs.declared.ops.WhileOp.TheVariants.{Whilelt, Whilele, Whilelo, Whilels}
use Rattle.sve_insn.specs.declared.ops.WriteFfrOp.{WriteFfrOp}
use Rattle.sve_insn.specs.declared.ops.WriteFfrOp.TheVariants.{Setffr, Wrffr}
use Rattle.emu_bits.specs.Numbers.{width_of}
use Rattle.emu_bits.specs.declared.flags.Flags.{Flags}
use Rattle.emu_model.specs.Done.{Registers, leaves}
use Rattle.emu_model.specs.Lists.{each}
use Rattle.emu_model.specs.State.{Core, Vectors, read_x}
use Rattle.sve_effects.specs.declared.lane_functions.LaneOp.{LaneOp}
use Rattle.sve_effects.specs.declared.lane_functions.LaneOp.TheVariants.{Add, Sub}
use Rattle.sve_effects.specs.declared.lane_functions.LaneTest.{LaneTest}
use Rattle.sve_effects.specs.declared.lane_functions.LaneTest.TheVariants.{Eq, Ne, Ge, Gt, Lt, Le, Hs, Hi, Lo, Ls}
use Rattle.lane_model.specs.declared.predicates.LogicOp.{LogicOp}
use Rattle.lane_model.specs.declared.predicates.LogicOp.TheVariants.{And, Bic, Eor, Orr, Orn, Nor, Nand}
use Rattle.lane_model.specs.declared.predicates.WhileTest.{WhileTest}
use Rattle.lane_model.specs.declared.predicates.WhileTest.TheVariants as conditions
use Rattle.sve_effects.specs.LaneLoop.{is_active}
use Rattle.emu_model.specs.Lanes.{read_p, with_p}
use Rattle.lane_model.specs.Bits.{is_set, fields}
use Rattle.lane_model.specs.Predicate.{pred_test, while_lanes, count_lanes}

-- ---- results

-- PL: the bits of a predicate, one for each byte of a Z register
abbrev pub predicate_bits : Vectors → ℕ
predicate_bits v = v.bits / 8

-- all ones
abbrev pub ones : ℕ → List Bool
ones n = each n (λ k. true)

-- the flags of PredTest(g, result, e), where they are set
abbrev pub after_test : Bool → ℕ → ℕ → List Bool → List Bool → Core → Core
after_test sets e n g result c = if sets then record c { flags = pred_test e n g result } else c

-- a result in predicate pd, with the flags of PredTest(g, result, e), where they are set
abbrev pub with_result : Bool → ℕ → List Bool → ℕ → List Bool → Core → Vectors → Registers
with_result sets e g pd result c v = leaves (after_test sets e (predicate_bits v) g result c) (with_p v pd result)

-- the same, and the flags are set
abbrev pub with_result_and_flags : ℕ → List Bool → ℕ → List Bool → Core → Vectors → Registers
with_result_and_flags e g pd result c v = with_result true e g pd result c v

-- ---- compares

abbrev pub vector_test : CmpVecOp → LaneTest
vector_test vector_names.Cmphs = Hs
vector_test vector_names.Cmphi = Hi
vector_test vector_names.Cmpge = Ge
vector_test vector_names.Cmpgt = Gt
vector_test vector_names.Cmpeq = Eq
vector_test vector_names.Cmpne = Ne

abbrev pub wide_test : CmpWideOp → LaneTest
wide_test wide_names.Cmpeq = Eq
wide_test wide_names.Cmpne = Ne
wide_test wide_names.Cmpge = Ge
wide_test wide_names.Cmpgt = Gt
wide_test wide_names.Cmplt = Lt
wide_test wide_names.Cmple = Le
wide_test wide_names.Cmphs = Hs
wide_test wide_names.Cmphi = Hi
wide_test wide_names.Cmplo = Lo
wide_test wide_names.Cmpls = Ls

abbrev pub unsigned_test : CmpUImmOp → LaneTest
unsigned_test unsigned_names.Cmphs = Hs
unsigned_test unsigned_names.Cmphi = Hi
unsigned_test unsigned_names.Cmplo = Lo
unsigned_test unsigned_names.Cmpls = Ls

abbrev pub signed_test : CmpSImmOp → LaneTest
signed_test signed_names.Cmpge = Ge
signed_test signed_names.Cmpgt = Gt
signed_test signed_names.Cmplt = Lt
signed_test signed_names.Cmple = Le
signed_test signed_names.Cmpeq = Eq
signed_test signed_names.Cmpne = Ne

-- the tests of unsigned numbers
abbrev pub is_unsigned : LaneTest → Bool
is_unsigned Hs = true
is_unsigned Hi = true
is_unsigned Lo = true
is_unsigned Ls = true
is_unsigned test = false

-- the active lanes whose test holds; an inactive lane is 0
abbrev pub compared : ℕ → ℕ → (ℕ → Bool) → Vectors → List Bool
compared e pg test v = fields e (predicate_bits v) (λ k. if is_active e v pg k then test k else false)

-- they are the result, and the flags are those of PredTest(pg, result, e)
abbrev pub with_compared : ℕ → ℕ → ℕ → (ℕ → Bool) → Core → Vectors → Registers
with_compared e pg pd test c v = with_result_and_flags e (read_p v pg) pd (compared e pg test v) c v

-- ---- names

abbrev pub logic_of : LogicPOp → LogicOp
logic_of logic_names.And = And
logic_of logic_names.Bic = Bic
logic_of logic_names.Eor = Eor
logic_of logic_names.Orr = Orr
logic_of logic_names.Orn = Orn
logic_of logic_names.Nor = Nor
logic_of logic_names.Nand = Nand

-- brka counts the first set bit itself
abbrev pub break_after : BreakOp → Bool
break_after Brka = true
break_after Brkb = false

abbrev pub pair_after : BreakPairOp → Bool
pair_after Brkpa = true
pair_after Brkpb = false

abbrev pub ptrue_flags : PtrueOp → Bool
ptrue_flags Unflagged = false
ptrue_flags Flagged = true

abbrev pub read_ffr_flags : ReadFfrOp → Bool
read_ffr_flags Rdffr = false
read_ffr_flags Rdffrs = true

abbrev pub while_of : WhileOp → WhileTest
while_of Whilelt = conditions.Lt
while_of Whilele = conditions.Le
while_of Whilelo = conditions.Lo
while_of Whilels = conditions.Ls

-- ---- FFR, counts and loops

-- setffr: all ones; wrffr: a predicate
abbrev pub written_ffr : WriteFfrOp → ℕ → Vectors → List Bool
written_ffr Setffr pn v = ones (predicate_bits v)
written_ffr Wrffr pn v = each (predicate_bits v) (is_set (read_p v pn))

-- incp: a number and a count; decp: the number less the count
abbrev pub counted_by : IncPOp → LaneOp
counted_by Incp = Add
counted_by Decp = Sub

-- the set lanes of a predicate
abbrev pub set_lanes_of : ℕ → ℕ → Vectors → ℕ
set_lanes_of e p v = count_lanes e (predicate_bits v) (read_p v p) (read_p v p)

abbrev pub while_result : WhileOp → ℕ → Bool → ℕ → ℕ → Core → Vectors → List Bool
while_result op e sf rn rm c v =
    while_lanes (while_of op) (width_of sf) (read_x c rn) (read_x c rm) e (predicate_bits v)

-- whether a loop ends: the low w bits are equal, or differ
abbrev pub terminates : CtermOp → ℕ → ℕ → ℕ → Bool
terminates Ctermeq w a b = nat_eq (a % 2 ^ w) (b % 2 ^ w)
terminates Ctermne w a b = not (nat_eq (a % 2 ^ w) (b % 2 ^ w))

-- where it ends N is 1 and V is 0, else N is 0 and V is not C; Z and C stay
abbrev pub termination_flags : Bool → Flags → Flags
termination_flags ends f = record { n = ends; z = f.z; c = f.c; v = not ends && not f.c }
