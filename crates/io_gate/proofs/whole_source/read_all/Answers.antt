use Rattle.std.proofs.Common.{◌≡◌, ◌≤◌, ◌+◌, arith, length-append}
use Rattle.std.proofs.lemmas.List.{length-take}
use Rattle.std.proofs.lemmas.Grind.{common_steps}
use Rattle.io_gate.proofs.Taken.{lost_more, all_taken}
use Rattle.io_gate.proofs.whole_source.read_all.Goals as goal

pub returns-then-count-eq0-clause-content : goal.returns-then-count-eq0-clause-content
returns-then-count-eq0-clause-content g c = all_taken _ _ _ _ _ _ c.if-count-eq0.true c.pieces.invariant.read c.in-Ok.ensures.bytes c.in-Ok.ensures.some

pub returns-then-count-room-clause-content : goal.returns-then-count-room-clause-content
returns-then-count-room-clause-content g c = lost_more (λ n. n ≡ c.args.limit + 1) _ _ _ _ _ _ c.pieces.invariant.read c.in-Ok.ensures.bytes (grind (arith, common_steps, length-append, length-take, c.in-Ok.ensures, c.pieces.invariant))

pub returns-then-is_err-clause-content : goal.returns-then-is_err-clause-content
returns-then-is_err-clause-content g c = lost_more (λ n. n ≤ c.args.limit) _ _ _ _ _ _ c.pieces.invariant.read c.in-Ok.ensures.bytes (grind (arith, common_steps, length-append, length-take, c.in-Ok.ensures, c.pieces.invariant))
