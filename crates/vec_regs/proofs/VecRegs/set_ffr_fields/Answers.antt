use Rattle.std.proofs.Common.{◌∙◌, ap}
use Rattle.emu_model.specs.Lanes.{with_ffr}
use Rattle.vec_regs.proofs.Fields.{field_bits}
use Rattle.vec_regs.proofs.VecRegs.set_ffr_fields.Goals as goal

pub returns : goal.returns
returns c f given =
    c.set_ffr_words.ensures
    ∙ ap (with_ffr c.args.self.now) (field_bits c.args.e c.args.self.now.bits c.args.flags.now c.pack_fields-words.result f c.requires.size c.length-length.ensures.length c.requires.flags given c.pack_fields-words.ensures.fields)
