use Rattle.std.proofs.Common.{ℕ, List, ◌++◌, ◌/◌, codes, ap, ◌∙◌}
use Rattle.emu_bits.specs.Flags.{size_of}
use Rattle.emu_model.specs.Lanes.{read_z}
use Rattle.emu_run.specs.Text.{newline}
use Rattle.emu_run.specs.Registers.{lines_of, numbered}
use Rattle.dbg_model.specs.Session.{lane_text, size_letter}
use Rattle.emu_report.proofs.Lanes.{five_pieces}
use Rattle.emu_report.proofs.Puts.{puts_equal}
use Rattle.emu_report.proofs.debugger.put_lanes.Goals as goal

pub returns-clause-bytes : goal.returns-clause-bytes
returns-clause-bytes g c =
    let v = c.args.vec.now in
    puts_equal _ _ _ _ _
    (five_pieces _ _ _ _ _ _ (numbered (codes "z") c.args.k) (codes ".") (size_letter c.args.size) (lines_of (v.bits / size_of c.args.size) (lane_text (size_of c.args.size) (read_z v c.args.k))) newline
    c.new-text.ensures
    (c.push_name.ensures.text ∙ ap (λ (k : ℕ). c.new-text.result ++ numbered (codes "z") k) c.get.ensures.value)
    c.push.ensures.text
    (c.push-2.ensures.text ∙ ap (λ (letter : List ℕ). c.push.new.self ++ letter) (c.as_bytes.ensures.value ∙ c.size_letter.ensures.letter))
    c.push_lanes.ensures.text c.push-3.ensures.text)
    c.put.ensures.bytes
