use Rattle.emu_model.proofs.Cleared.{z_cleared, p_cleared, ffr_cleared}
use Rattle.emu_model.proofs.vector_laws.calls_clear_vectors.Goals as goal

pub returns-clause-z : goal.returns-clause-z
returns-clause-z c = z_cleared

pub returns-clause-p : goal.returns-clause-p
returns-clause-p c = p_cleared

pub returns-clause-ffr : goal.returns-clause-ffr
returns-clause-ffr c = ffr_cleared
