use Rattle.emu_model.specs.SoundLanes.{sound_lanes, sound_fields, sound_ffr, sound_low, cleared_sound, after_call_sound}
use Rattle.emu_model.proofs.vector_laws.lanes_keep_vectors_sound.Goals as goal

pub returns-clause-lanes : goal.returns-clause-lanes
returns-clause-lanes c = sound_lanes

pub returns-clause-fields : goal.returns-clause-fields
returns-clause-fields c = sound_fields

pub returns-clause-ffr : goal.returns-clause-ffr
returns-clause-ffr c = sound_ffr

pub returns-clause-low : goal.returns-clause-low
returns-clause-low c = sound_low

pub returns-clause-cleared : goal.returns-clause-cleared
returns-clause-cleared c = cleared_sound

pub returns-clause-call : goal.returns-clause-call
returns-clause-call c = after_call_sound
