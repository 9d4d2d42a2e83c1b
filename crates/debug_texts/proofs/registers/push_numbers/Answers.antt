use Rattle.std.proofs.Common.{ℕ, List, ◌++◌, codes, string_bytes, ap, ◌∙◌, append_assoc}
use Rattle.emu_bits.specs.Flags.{size_of}
use Rattle.emu_model.specs.Lanes.{lane, read_z}
use Rattle.emu_report.proofs.Lines.{lines_appended}
use Rattle.debug_texts.specs.Numbers.{number_text}
use Rattle.debug_texts.specs.Registers.{z_lane_text}
use Rattle.debug_texts.proofs.registers.push_numbers.Goals as goal

pub lanes-preserved : goal.lanes-preserved
lanes-preserved c = lines_appended _ _ _ (z_lane_text c.args.notation c.args.vec.now c.args.k (size_of c.args.size)) c.lanes.i c.lanes.invariant
    (c.in_ok-push_number.ensures
    ∙ ap (λ (xs : List ℕ). xs ++ number_text c.args.notation c.bits-bits.result c.lane.result) c.in_ok-push_str.ensures.bytes
    ∙ append_assoc (string_bytes c.lanes.text) (codes " ") (number_text c.args.notation c.bits-bits.result c.lane.result)
    ∙ ap (λ (v : ℕ). string_bytes c.lanes.text ++ (codes " " ++ number_text c.args.notation c.bits-bits.result v)) c.lane.ensures.value
    ∙ ap (λ (e : ℕ). string_bytes c.lanes.text ++ (codes " " ++ number_text c.args.notation e (lane e (read_z c.args.vec.now c.args.k) c.lanes.i))) c.bits-bits.ensures)
