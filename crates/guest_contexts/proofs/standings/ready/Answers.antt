use Rattle.std.proofs.Common.{ap, sym, ◌∙◌}
use Rattle.guest_contexts.proofs.Found.{found_one, found_other}
use Rattle.guest_contexts.proofs.standings.ready.Goals as goal
use Rattle.guest_contexts.proofs.standings.ready.Goals.{then-is_ready, else-is_ready}

pub loop-k-preserved : goal.loop-k-preserved
loop-k-preserved c =
    elim c.if-is_ready.branch [
      | then-is_ready w ↦
          found_one c.args.contexts.now c.loop-k.k c.loop-k.numbers.items c.index-contexts-k.result c.loop-k-test.true c.index-contexts-k.is c.loop-k.invariant
          c.if-is_ready.numbers.items (sym c.is_ready.ensures ∙ w.if-is_ready.true) (ap (λ n. n.items) w.numbers-is ∙ w.push.ensures.items)
      | else-is_ready w ↦
          found_other c.args.contexts.now c.loop-k.k c.loop-k.numbers.items c.index-contexts-k.result c.loop-k-test.true c.index-contexts-k.is c.loop-k.invariant
          c.if-is_ready.numbers.items (sym c.is_ready.ensures ∙ w.if-is_ready.false) (ap (λ n. n.items) w.numbers-is)
    ]
