-- Words that are extended by their sign: the operation is what its form does.
use Rattle.std.proofs.Common.{◌≡◌, ℕ, ◌^◌, Bool, true, false, if◌then◌else◌, refl}
use Rattle.a64_insn.specs.declared.form.A64Form.TheVariants.{AddExt, LsReg}
use Rattle.a64_insn.specs.declared.ops.AddOp.TheVariants.{Add}
use Rattle.a64_effects.specs.Effects.{performed, performed_by}
use Rattle.a64_operations.specs.Meaning.{sum_ext, at_index}
use Rattle.emu_model.specs.Access.{Memory}
use Rattle.emu_model.specs.State.{Core, Vectors}

pub summed : (ext d n m k rm a rn rd : ℕ) → ext ≡ 6 → d ≡ rd → n ≡ rn → m ≡ rm → k ≡ a → (c : Core) (v : Vectors) (mem : Memory)
    → performed_by (sum_ext 6 d n m k) c v mem ≡ performed (AddExt Add true rm ext a rn rd) c v mem
summed ext d n m k rm a rn rd e p q r s c v mem = rw (e, p, q, r, s) refl

pub accessed : (size opc ext k bytes t n m rm rn rt : ℕ) (s : Bool) → size ≡ bytes → opc ≡ 1 → ext ≡ 6 → 2 ^ k ≡ (if s then 2 ^ size else 1)
    → t ≡ rt → n ≡ rn → m ≡ rm → (c : Core) (v : Vectors) (mem : Memory)
    → performed_by (at_index bytes 1 6 t n m k) c v mem ≡ performed (LsReg size false opc rm ext s rn rt) c v mem
accessed size opc ext k bytes t n m rm rn rt s b o e far p q r c v mem = rw (o, e, far, p, q, r, b) refl
