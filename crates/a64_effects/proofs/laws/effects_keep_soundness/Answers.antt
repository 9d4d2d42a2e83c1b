use Rattle.a64_effects.specs.SoundEffects.{performed_sound}
use Rattle.a64_effects.proofs.laws.effects_keep_soundness.Goals as goal

pub returns : goal.returns
returns c = performed_sound
