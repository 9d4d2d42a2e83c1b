use Rattle.std.proofs.Common.{◌<◌, ℕ, List, length, refl, sym, ap, subst, ◌∙◌, arith}
use Rattle.std.specs.Vec.{with_items}
use Rattle.std.proofs.lemmas.List.{with_items_is}
use Rattle.emu_machine.specs.InTurns.{InTurn}
use Rattle.guest_contexts.specs.Laid.{world_of}
use Rattle.emu_run.specs.Worlds.{Context}
use Rattle.guest_threads.specs.Ends.{WorldHeld}
use Rattle.guest_threads.specs.Quiet.{FollowsOn, FollowsToEnd, StopsWithin}
use Rattle.guest_threads.proofs.InTurns.{begun_here, stops_at, stops_within, turns_end, turns_over, turns_stop}
use Rattle.guest_threads.proofs.Picked.{place_at}
use Rattle.guest_threads.proofs.held.Held.take_turns.Goals as goal

pub stop_within-requires : goal.stop_within-requires
stop_within-requires c =
    let begun = begun_here c.args.turns.now c.deref.result.now c.args.budget c.args.from c.args.self.now.world c.args.self.now c.bring.new.self c.self.inside.machine c.self.inside.last
    c.self.inside.contexts.items c.deref_mut.result.now c.self.inside.numbers.items c.in-Some-pick.k c.last-last.result c.in-Some.until refl c.bring.ensures c.self.view_is
    c.deref_mut.ensures.value c.deref.ensures.0 c.self.invariant.ready (c.self.invariant.quiet c.if-not-self.false) c.self.invariant.last c.requires.going c.if-from-ne0.false (c.requires.begins c.if-from-ne0.false)
    c.requires.place.turn c.requires.schedule c.in-Some-pick.ensures c.last-last.ensures.value (let value = c.last-last.ensures.value in let inside = c.last-last.ensures.within in subst (λ (n : ℕ). n < length c.args.self.now.world.contexts) value inside)
    (let is = c.in-Some.ensures.0 in let steps = c.steps.ensures in omega (arith, is, steps)) c.in-Some.ensures.1 in
    let x : InTurn = (record { machine = c.advance_in_turns-progress.new.self; turn = c.advance_in_turns-progress.new.turn; contexts = c.advance_in_turns-progress.new.contexts }) in
    let s = turns_stop c.args.turns.now c.deref.result.now c.args.budget c.args.from c.args.self.now.world (record { machine = c.self.inside.machine; turn = record { place = c.args.from.turn; context = c.in-Some-pick.k; before = c.last-last.result; until = c.in-Some.until; budget = c.args.budget }; contexts = c.deref_mut.result.now }) x begun (c.in-AtCall.ensures.steps) in
    subst (λ (l : List Context). StopsWithin c.args.turns.now c.advance_in_turns-progress.new.turn (world_of c.advance_in_turns-progress.new.self.parts c.advance_in_turns-progress.new.turn.context l)) (sym (with_items_is c.self.inside.contexts c.advance_in_turns-progress.new.contexts (let count = c.advance_in_turns-progress.ensures.count in let value = c.deref_mut.ensures.value in count ∙ ap (λ (l : List Context). length l) value ∙ sym c.self.inside.contexts.ok.0)))
    (stops_within c.args.turns.now c.deref.result.now c.args.budget c.args.from c.args.self.now.world x s (c.advance_in_turns-progress.ensures.turn c.requires.schedule.some).place)

pub returns-in-Trapped-clause-steps : goal.returns-in-Trapped-clause-steps
returns-in-Trapped-clause-steps c =
    let begun = begun_here c.args.turns.now c.deref.result.now c.args.budget c.args.from c.args.self.now.world c.args.self.now c.bring.new.self c.self.inside.machine c.self.inside.last
    c.self.inside.contexts.items c.deref_mut.result.now c.self.inside.numbers.items c.in-Some-pick.k c.last-last.result c.in-Some.until refl c.bring.ensures c.self.view_is
    c.deref_mut.ensures.value c.deref.ensures.0 c.self.invariant.ready (c.self.invariant.quiet c.if-not-self.false) c.self.invariant.last c.requires.going c.if-from-ne0.false (c.requires.begins c.if-from-ne0.false)
    c.requires.place.turn c.requires.schedule c.in-Some-pick.ensures c.last-last.ensures.value (let value = c.last-last.ensures.value in let inside = c.last-last.ensures.within in subst (λ (n : ℕ). n < length c.args.self.now.world.contexts) value inside)
    (let is = c.in-Some.ensures.0 in let steps = c.steps.ensures in omega (arith, is, steps)) c.in-Some.ensures.1 in
    subst (λ (l : List Context). FollowsToEnd c.args.turns.now c.args.budget c.args.from c.args.self.now.world (world_of c.advance_in_turns-progress.new.self.parts c.advance_in_turns-progress.new.turn.context l)) (sym (with_items_is c.self.inside.contexts c.advance_in_turns-progress.new.contexts (let count = c.advance_in_turns-progress.ensures.count in let value = c.deref_mut.ensures.value in count ∙ ap (λ (l : List Context). length l) value ∙ sym c.self.inside.contexts.ok.0)))
    (turns_end c.args.turns.now c.deref.result.now c.args.budget c.args.from c.args.self.now.world (record { machine = c.self.inside.machine; turn = record { place = c.args.from.turn; context = c.in-Some-pick.k; before = c.last-last.result; until = c.in-Some.until; budget = c.args.budget }; contexts = c.deref_mut.result.now }) (record { machine = c.advance_in_turns-progress.new.self; turn = c.advance_in_turns-progress.new.turn; contexts = c.advance_in_turns-progress.new.contexts }) begun c.in-Trapped.ensures.steps)

pub returns-in-GoesOn-clause-steps : goal.returns-in-GoesOn-clause-steps
returns-in-GoesOn-clause-steps c =
    let begun = begun_here c.args.turns.now c.deref.result.now c.args.budget c.args.from c.args.self.now.world c.args.self.now c.bring.new.self c.self.inside.machine c.self.inside.last
    c.self.inside.contexts.items c.deref_mut.result.now c.self.inside.numbers.items c.in-Some-pick.k c.last-last.result c.in-Some.until refl c.bring.ensures c.self.view_is
    c.deref_mut.ensures.value c.deref.ensures.0 c.self.invariant.ready (c.self.invariant.quiet c.if-not-self.false) c.self.invariant.last c.requires.going c.if-from-ne0.false (c.requires.begins c.if-from-ne0.false)
    c.requires.place.turn c.requires.schedule c.in-Some-pick.ensures c.last-last.ensures.value (let value = c.last-last.ensures.value in let inside = c.last-last.ensures.within in subst (λ (n : ℕ). n < length c.args.self.now.world.contexts) value inside)
    (let is = c.in-Some.ensures.0 in let steps = c.steps.ensures in omega (arith, is, steps)) c.in-Some.ensures.1 in
    let d = turns_over c.args.turns.now c.deref.result.now c.args.budget c.args.from c.args.self.now.world (record { machine = c.self.inside.machine; turn = record { place = c.args.from.turn; context = c.in-Some-pick.k; before = c.last-last.result; until = c.in-Some.until; budget = c.args.budget }; contexts = c.deref_mut.result.now }) (record { machine = c.advance_in_turns-progress.new.self; turn = c.advance_in_turns-progress.new.turn; contexts = c.advance_in_turns-progress.new.contexts }) begun c.in-GoesOn.ensures.steps in
    subst (λ (l : List Context). FollowsOn c.args.turns.now c.args.budget c.args.from c.args.self.now.world (place_at c.next_turn.result 0 0) (world_of c.advance_in_turns-progress.new.self.parts c.advance_in_turns-progress.new.turn.context l)) (sym (with_items_is c.self.inside.contexts c.advance_in_turns-progress.new.contexts (let count = c.advance_in_turns-progress.ensures.count in let value = c.deref_mut.ensures.value in count ∙ ap (λ (l : List Context). length l) value ∙ sym c.self.inside.contexts.ok.0)))
    (subst (λ (t : ℕ). FollowsOn c.args.turns.now c.args.budget c.args.from c.args.self.now.world (place_at t 0 0) (world_of c.advance_in_turns-progress.new.self.parts c.advance_in_turns-progress.new.turn.context c.advance_in_turns-progress.new.contexts)) (sym c.next_turn.ensures.is) d)

pub returns-in-AtCall-clause-steps : goal.returns-in-AtCall-clause-steps
returns-in-AtCall-clause-steps c =
    let begun = begun_here c.args.turns.now c.deref.result.now c.args.budget c.args.from c.args.self.now.world c.args.self.now c.bring.new.self c.self.inside.machine c.self.inside.last
    c.self.inside.contexts.items c.deref_mut.result.now c.self.inside.numbers.items c.in-Some-pick.k c.last-last.result c.in-Some.until refl c.bring.ensures c.self.view_is
    c.deref_mut.ensures.value c.deref.ensures.0 c.self.invariant.ready (c.self.invariant.quiet c.if-not-self.false) c.self.invariant.last c.requires.going c.if-from-ne0.false (c.requires.begins c.if-from-ne0.false)
    c.requires.place.turn c.requires.schedule c.in-Some-pick.ensures c.last-last.ensures.value (let value = c.last-last.ensures.value in let inside = c.last-last.ensures.within in subst (λ (n : ℕ). n < length c.args.self.now.world.contexts) value inside)
    (let is = c.in-Some.ensures.0 in let steps = c.steps.ensures in omega (arith, is, steps)) c.in-Some.ensures.1 in
    let x : InTurn = (record { machine = c.advance_in_turns-progress.new.self; turn = c.advance_in_turns-progress.new.turn; contexts = c.advance_in_turns-progress.new.contexts }) in
    let s = turns_stop c.args.turns.now c.deref.result.now c.args.budget c.args.from c.args.self.now.world (record { machine = c.self.inside.machine; turn = record { place = c.args.from.turn; context = c.in-Some-pick.k; before = c.last-last.result; until = c.in-Some.until; budget = c.args.budget }; contexts = c.deref_mut.result.now }) x begun c.in-AtCall.ensures.steps in
    let laid : WorldHeld = record { world = world_of c.advance_in_turns-progress.new.self.parts c.advance_in_turns-progress.new.turn.context (with_items c.self.inside.contexts c.advance_in_turns-progress.new.contexts).items; failed = c.advance_in_turns-progress.new.self.failed } in
    stops_at c.args.turns.now c.deref.result.now c.args.budget c.args.from c.args.self.now.world x s c.stop_within.result laid c.stop_within.new.self
    (ap (λ (l : List Context). world_of c.advance_in_turns-progress.new.self.parts c.advance_in_turns-progress.new.turn.context l) (with_items_is c.self.inside.contexts c.advance_in_turns-progress.new.contexts (let count = c.advance_in_turns-progress.ensures.count in let value = c.deref_mut.ensures.value in count ∙ ap (λ (l : List Context). length l) value ∙ sym c.self.inside.contexts.ok.0)))
    c.stop_within.ensures.turn c.stop_within.ensures.used c.stop_within.ensures.held c.stop_within.ensures.world
