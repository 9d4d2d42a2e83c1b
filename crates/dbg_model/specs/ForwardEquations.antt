-- The equations of a session that only goes forward, for proofs.
use Rattle.std.proofs.Common.{refl}
use Rattle.std.specs.Prelude.{◌≡◌, ℕ, suc, if◌then◌else◌}
use Rattle.emu_model.specs.State.{State}
use Rattle.emu_run.specs.Step.{accesses, step}
use Rattle.emu_run.specs.Run.{goes_on}
use Rattle.dbg_model.specs.Session.{Points, point_met}
use Rattle.dbg_model.specs.Forward.{go, ending_printed, stopped_or}

pub go-zero : (points : Points) (st : State) → go points st 0 ≡ ending_printed st
unfolding go
go-zero points st = refl

pub go-suc : (points : Points) (st : State) (k : ℕ) → go points st (suc k) ≡ (if goes_on st then stopped_or (point_met points (accesses st.parts) (step st).parts) (step st) (go points (step st) k) else ending_printed st)
unfolding go
go-suc points st k = refl
