-- What the row's condition says of a bitfield move.
use Rattle.std.proofs.Common.{◌≡◌, ℕ, ◌<◌, Bool, true, false, arith}
use Rattle.std.proofs.lemmas.Bool.Decides.{nat_tests}
use Rattle.emu_bits.specs.Fields.{bit}
use Rattle.a64_insn.specs.declared.form.A64Form.TheVariants.{Bitfield}
use Rattle.a64_insn.specs.declared.ops.BitfieldOp.{BitfieldOp}
use Rattle.a64_insn.specs.Data.{bitfield, is_below_width, bitfield_holds_for}
use Rattle.a64_insn.specs.Rows.{meets_form}
use Rattle.emu_bits.specs.Numbers.{width_of}

below : (sf n : Bool) (r s : ℕ) → bitfield_holds_for (bit sf) (bit n) r s ≡ true → (r < width_of sf) × (s < width_of sf)
unfolding bitfield_holds_for is_below_width
below true true r s h = (grind (arith, nat_tests), grind (arith, nat_tests))
below true false r s h = absurd (cc)
below false true r s h = absurd (cc)
below false false r s h = (grind (arith, nat_tests), grind (arith, nat_tests))

-- both places lie within the register
pub bitfield_below : (op : BitfieldOp) (sf n : Bool) (r s rn rd : ℕ) → meets_form (Bitfield op sf n r s rn rd) ≡ true
    → (r < width_of sf) × (s < width_of sf)
unfolding bitfield
bitfield_below op sf n r s rn rd h = below sf n r s h
