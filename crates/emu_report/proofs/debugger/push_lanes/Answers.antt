use Rattle.std.proofs.Common.{◌≡◌, ◌≤◌, ◌<◌, ◌/◌, ℕ, ◌++◌, ap, subst, ◌∙◌, arith}
use Rattle.emu_bits.specs.Flags.{size_of}
use Rattle.emu_model.specs.Lanes.{lane, read_z}
use Rattle.emu_run.specs.Text.{hex, space}
use Rattle.dbg_model.specs.Session.{lane_text}
use Rattle.emu_report.proofs.Lanes.{lane_within, lanes_within, lane_short}
use Rattle.emu_report.proofs.Lines.{lines_appended}
use Rattle.emu_report.proofs.debugger.push_lanes.Goals as goal

pub lanes-preserved : goal.lanes-preserved
lanes-preserved c =
    let bytes = read_z c.args.vec.now c.args.k in
    let quarter : c.bits-bits.result / 4 ≡ size_of c.args.size / 4 = ap (λ (b : ℕ). b / 4) c.bits-bits.ensures in
    record {
      text = lines_appended _ _ _ (lane_text (size_of c.args.size) bytes) c.lanes.lane c.lanes.invariant.text
          (c.push_digits.ensures.text
          ∙ ap (λ (v : ℕ). c.lanes.text ++ (space ++ hex (c.bits-bits.result / 4) v)) c.lane.ensures.value
          ∙ ap (λ (b : ℕ). c.lanes.text ++ (space ++ hex (b / 4) (lane b bytes c.lanes.lane))) c.bits-bits.ensures);
      short = let short = c.lanes.invariant.short in let len = c.push_digits.ensures.len in omega (arith, quarter, len, short, lane_short c.args.size);
    }

pub push_digits-requires-clause-room : goal.push_digits-requires-clause-room
push_digits-requires-clause-room c =
    let short = c.lanes.invariant.short in
    let most = c.bits.ensures.length.most in
    let below : c.lanes.lane < c.bits.result / size_of c.args.size = subst (λ (b : ℕ). c.lanes.lane < c.bits.result / b) c.bits-bits.ensures c.lanes-test.true in
    omega (arith, short, most, lane_within c.args.size c.lanes.lane c.bits.result below)

pub returns-clause-len : goal.returns-clause-len
returns-clause-len c =
    let short = c.lanes.invariant.short in
    let most = c.bits.ensures.length.most in
    let within : c.lanes.lane ≤ c.bits.result / size_of c.args.size = subst (λ (b : ℕ). c.lanes.lane ≤ c.bits.result / b) c.bits-bits.ensures c.lanes.auto.lane-end in
    omega (arith, short, most, lanes_within c.args.size c.lanes.lane c.bits.result within)
