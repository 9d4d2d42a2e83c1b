use Rattle.std.proofs.Common.{refl}
use Rattle.text_code.proofs.Slots.{narrow, kind_sound}
use Rattle.text_code.proofs.judging.is_shown.Goals as goal

pub number_of-number-requires-clause-narrow : goal.number_of-number-requires-clause-narrow
number_of-number-requires-clause-narrow c = narrow c.args.slot _ c.requires refl

pub shown-requires-clause-sound : goal.shown-requires-clause-sound
shown-requires-clause-sound c = kind_sound c.args.slot c.width_of-bits.result c.requires c.width_of-bits.ensures.value

pub shown-requires-clause-narrow : goal.shown-requires-clause-narrow
shown-requires-clause-narrow c = narrow c.args.slot c.width_of-bits.result c.requires c.width_of-bits.ensures.value

pub is_canonical-requires-clause-sound : goal.is_canonical-requires-clause-sound
is_canonical-requires-clause-sound c = kind_sound c.args.slot c.width_of-bits.result c.requires c.width_of-bits.ensures.value
