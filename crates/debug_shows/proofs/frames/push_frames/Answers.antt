use Rattle.std.proofs.Common.{◌≡◌, ℕ, ◌+◌, ◌-◌, false, true, refl, sym, ◌∙◌, arith}
use Rattle.debug_shows.specs.Frames.{most_frames}
use Rattle.debug_shows.proofs.Pieces.{frames-end, frames-more, frames-over, left_more, on_ok}
use Rattle.debug_shows.proofs.frames.push_frames.Goals as goal

pub frames-init : goal.frames-init
frames-init c = refl

pub frames-preserved : goal.frames-preserved
frames-preserved c =
    let k : ℕ = c.frames.done in
    frames-more c.args.symbols.now c.args.mem.now.memory (k + 1) c.frames.before c.frames.frame _ _ _ (most_frames - k) (most_frames - (k + 1)) c.return_address.result c.value_at-frame.result (left_more most_frames k (omega arith))
    (sym c.is_followed-followed.ensures ∙ c.if-not-followed.false) c.return_address.ensures c.value_at-frame.ensures.value c.frames.invariant c.in_ok-push_frame.ensures

pub returns-then-not-followed : goal.returns-then-not-followed
returns-then-not-followed c =
    let k : ℕ = c.frames.done in
    on_ok c.push_end.result (frames-end c.args.symbols.now c.args.mem.now.memory (k + 1) c.frames.before c.frames.frame _ _ _ (most_frames - k) (most_frames - (k + 1)) (left_more most_frames k (omega arith))
    (sym c.is_followed-followed.ensures ∙ c.if-not-followed.true) c.frames.invariant) c.push_end.ensures

pub returns : goal.returns
returns c =
    let none : most_frames - c.frames.done ≡ 0 = omega arith in
    on_ok c.push_end-2.result (frames-over c.args.symbols.now c.args.mem.now.memory (c.frames.done + 1) c.frames.before c.frames.frame _ _ _ (most_frames - c.frames.done) none c.frames.invariant) c.push_end-2.ensures
