use Rattle.sve_effects.specs.SoundEffects.{performed_sound}
use Rattle.sve_effects.proofs.laws.effects_keep_soundness.Goals as goal

pub returns : goal.returns
returns c = performed_sound
