use Rattle.emu_run.specs.Sound.{step_sound}
use Rattle.emu_run.proofs.laws.steps_keep_soundness.Goals as goal

pub returns : goal.returns
returns c = step_sound
