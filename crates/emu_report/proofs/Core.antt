-- A scalar register as it is read.
use Rattle.std.proofs.Common.{◌≡◌, ℕ, ◌<◌, get_or, ap, ◌∙◌, arith}
use Rattle.std.proofs.lemmas.Bool.{ne_eqb}
use Rattle.std.specs.Prelude.{Bool, if◌then◌else◌}
use Rattle.emu_bits.specs.Fields.{field}
use Rattle.emu_model.specs.State.{Core, read_x, read_x_sp}

-- registers 0 to 30
pub x_read : (core : Core) (k r v : ℕ) → k < 31 → r ≡ field k 0 5 → v ≡ read_x core r → v ≡ get_or core.x k 0
x_read core k r v h e p =
    let same : r ≡ k = omega arith in
    p ∙ ap (read_x core) same ∙ ap (λ (b : Bool). if b then 0 else get_or core.x k 0) (ne_eqb k 31 (λ q. omega arith))

-- register 31 where it is SP
pub sp_read : (core : Core) (r v : ℕ) → r ≡ field 31 0 5 → v ≡ read_x_sp core r → v ≡ core.sp
sp_read core r v e p = p ∙ ap (read_x_sp core) e
