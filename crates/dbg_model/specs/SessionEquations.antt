-- The equations of a session, for proofs.
use Rattle.std.proofs.Common.{refl}
use Rattle.std.specs.Prelude.{◌≡◌, ℕ, suc, if◌then◌else◌}
use Rattle.emu_run.specs.Step.{accesses}
use Rattle.emu_run.specs.Run.{goes_on}
use Rattle.dbg_model.specs.Session.{Points, point_met, printed, Course, walked, stepped, go, ended_line, stopped_or}

pub walked-zero : (c : Course) → walked c 0 ≡ c
unfolding walked
walked-zero c = refl

pub walked-suc : (c : Course) (k : ℕ) → walked c (suc k) ≡ (if goes_on c.state then walked (stepped c) k else c)
unfolding walked
walked-suc c k = refl

pub go-zero : (points : Points) (c : Course) → go points c 0 ≡ printed ended_line c
unfolding go
go-zero points c = refl

pub go-suc : (points : Points) (c : Course) (k : ℕ) → go points c (suc k) ≡ (if goes_on c.state then stopped_or (point_met points (accesses c.state.parts) (stepped c).state.parts) (stepped c) (go points (stepped c) k) else printed ended_line c)
unfolding go
go-suc points c k = refl
