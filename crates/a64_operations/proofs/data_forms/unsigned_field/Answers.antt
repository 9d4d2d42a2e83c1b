use Rattle.std.proofs.Common.{◌≡◌, ℕ, sym, ap, ◌∙◌, arith}
use Rattle.a64_insn.specs.declared.ops.BitfieldOp.TheVariants.{Ubfm}
use Rattle.a64_effects.specs.Scalar.{after_bitfield}
use Rattle.emu_bits.specs.Numbers.{width_of}
use Rattle.emu_model.specs.Done.{went_well}
use Rattle.a64_operations.proofs.Bitfields.{unsigned_left}
use Rattle.a64_operations.proofs.data_forms.unsigned_field.Goals as goal

pub returns-then-sf : goal.returns-then-sf
returns-then-sf c = λ ready core v m.
    let wide : 64 ≡ width_of c.args.sf = sym (ap width_of c.if-sf.true) in
    unsigned_left 64 c.args.r c.args.s c.moves-left.result.0 c.moves-left.result.1 c.of-d.result c.of-n.result c.args.rd c.args.rn
    (omega arith) (omega arith) c.moves-left.ensures.left c.moves-left.ensures.right c.of-d.ensures c.of-n.ensures core v m
    ∙ ap (λ (w : ℕ). went_well (after_bitfield Ubfm w c.args.r c.args.s c.args.rn c.args.rd core) v m) wide

pub returns-then-s-lt32 : goal.returns-then-s-lt32
returns-then-s-lt32 c = λ ready core v m.
    let wide : 32 ≡ width_of c.args.sf = sym (ap width_of c.if-sf.false) in
    unsigned_left 32 c.args.r c.args.s c.moves-left-then-s-lt32.result.0 c.moves-left-then-s-lt32.result.1 c.of-d.result c.of-n.result c.args.rd c.args.rn
    (omega arith) (omega arith) c.moves-left-then-s-lt32.ensures.left c.moves-left-then-s-lt32.ensures.right c.of-d.ensures c.of-n.ensures core v m
    ∙ ap (λ (w : ℕ). went_well (after_bitfield Ubfm w c.args.r c.args.s c.args.rn c.args.rd core) v m) wide
