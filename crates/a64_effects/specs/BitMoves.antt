-- Copies of bits between general and vector registers, and immediates to vector registers. From the Arm Architecture
-- Reference Manual for A-profile (DDI 0487), C7.2 'Alphabetical list of A64 Advanced SIMD and floating-point
-- instructions': the operations of the entries FMOV (general), MOVI and MVNI, with the shared pseudocode
-- AdvSIMDExpandImm.
use Rattle.std.specs.Prelude.{ℕ, ◌+◌, ◌-◌, ◌*◌, ◌/◌, ◌%◌, ◌^◌, Bool, ◌&&◌, nat_lt, if◌then◌else◌}
use Rattle.a64_insn.specs.declared.ops.FMoveOp.{FMoveOp}
use Rattle.a64_insn.specs.declared.ops.FMoveOp.TheVariants.{WdSn, SdWn, XdDn, DdXn}
use Rattle.emu_bits.specs.Bitmask.{repeated}
use Rattle.emu_bits.specs.Operations.{complement, number_of_bytes}
use Rattle.emu_model.specs.Done.{Registers, leaves}
use Rattle.emu_model.specs.State.{Core, Vectors, read_x, with_x}
use Rattle.emu_model.specs.Lanes.{lane, read_z, with_low}

-- ---- fmov

-- the low 32 or 64 bits, to a general register or to a vector register, with zeros above
abbrev pub after_fmov : FMoveOp → ℕ → ℕ → Core → Vectors → Registers
after_fmov WdSn rn rd c v = leaves (with_x c rd 32 (lane 32 (read_z v rn) 0)) v
after_fmov SdWn rn rd c v = leaves c (with_low 32 (read_x c rn) rd v)
after_fmov XdDn rn rd c v = leaves (with_x c rd 64 (lane 64 (read_z v rn) 0)) v
after_fmov DdXn rn rd c v = leaves c (with_low 64 (read_x c rn) rd v)

-- ---- movi and mvni

-- the byte abc:defgh
abbrev pub immediate : ℕ → ℕ → ℕ
immediate abc defgh = abc * 32 + defgh

-- a number shifted to the left by s bits, with ones below
abbrev pub with_ones : ℕ → ℕ → ℕ
with_ones i s = i * 2 ^ s + (2 ^ s - 1)

-- bit k of a byte gives byte k of 64 bits as 00 or FF
abbrev pub spread : ℕ → ℕ
spread i = number_of_bytes 8 (λ k. 255 * (i / 2 ^ k % 2))

-- 64 bits of a byte i by cmode: 0, 2, 4, 6 shifted by 4·cmode in each 32 bits; 8, 10 shifted by 0 or 8 in each 16 bits;
-- 12, 13 shifted by 8 or 16, ones below, in each 32 bits; 14 in each byte, or spread where op is set
abbrev pub placed : Bool → ℕ → ℕ → ℕ
placed op cmode i =
    if nat_lt cmode 8 then repeated 32 (i * 2 ^ (4 * cmode)) 2
    else (if nat_lt cmode 12 then repeated 16 (i * 2 ^ (4 * (cmode - 8))) 4
    else (if nat_lt cmode 14 then repeated 32 (with_ones i (8 * (cmode - 11))) 2
    else (if op then spread i else repeated 8 i 8)))

-- NOT of them in mvni: where op is set, but at cmode 14
abbrev pub move_value : Bool → ℕ → ℕ → ℕ
move_value op cmode i = if op && nat_lt cmode 14 then complement 64 (placed op cmode i) else placed op cmode i

-- the low 128 bits of a vector register, or 64 where q isn't set, and zeros above
abbrev pub with_immediate : Bool → ℕ → ℕ → Vectors → Vectors
with_immediate q x rd v = with_low (if q then 128 else 64) (repeated 64 x 2) rd v
