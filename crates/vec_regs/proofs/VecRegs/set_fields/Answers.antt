use Rattle.std.proofs.Common.{◌∙◌, ap}
use Rattle.emu_model.specs.Lanes.{with_p}
use Rattle.vec_regs.proofs.Fields.{field_bits}
use Rattle.vec_regs.proofs.VecRegs.set_fields.Goals as goal

pub returns : goal.returns
returns c f given =
    c.set_p_words.ensures
    ∙ ap (with_p c.args.self.now c.args.pd) (field_bits c.args.e c.args.self.now.bits c.args.flags.now c.pack_fields-words.result f c.requires.size c.length-length.ensures.length c.requires.flags given c.pack_fields-words.ensures.fields)
