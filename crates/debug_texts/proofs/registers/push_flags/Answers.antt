use Rattle.std.proofs.Common.{ℕ, ◌*◌, ◌/◌, Bool, false, List, ◌++◌, get_or, string_bytes, ap, ◌∙◌}
use Rattle.emu_bits.specs.Flags.{size_of}
use Rattle.emu_model.specs.Lanes.{read_p}
use Rattle.emu_report.proofs.Lines.{lines_appended}
use Rattle.debug_texts.specs.Registers.{flag_digit, flag_text}
use Rattle.debug_texts.proofs.registers.push_flags.Goals as goal

pub lanes-preserved : goal.lanes-preserved
lanes-preserved c = lines_appended _ _ _ (flag_text (read_p c.args.vec.now c.args.k) (size_of c.args.size)) c.lanes.i c.lanes.invariant
    (c.in_ok-push_str.ensures.bytes
    ∙ ap (λ (ys : List ℕ). string_bytes c.lanes.text ++ ys) (c.flag_digit.ensures ∙ ap (λ (b : Bool). flag_digit b) (c.p_bit.ensures ∙ ap (λ (e : ℕ). get_or (read_p c.args.vec.now c.args.k) (c.lanes.i * (e / 8)) false) c.bits.ensures)))
