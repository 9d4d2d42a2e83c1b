use Rattle.std.proofs.Common.{◌≡◌, ◌<◌, ◌%◌, inl, inr, ℕ, List, length, get_or, refl, sym, ap, subst, ◌∙◌, arith, Box, Global, Option, is_some}
use Rattle.std.proofs.lemmas.Bool.{eqb-false}
use Rattle.emu_model.specs.State.{Core, Vectors}
use Rattle.emu_run.specs.Threads.{next_turn, turn_at}
use Rattle.guest_contexts.specs.Begins.{IsTurn, TurnAt, context_of}
use Rattle.guest_contexts.proofs.Begins.{IsChanged, exchanged, has_one, one_begins, stayed, turn_is}
use Rattle.guest_contexts.proofs.begin.begin_next.Goals.{Joined-k-last, then-k-last+else-is_some, else-k-last}
use Rattle.guest_contexts.proofs.begin.begin_next.Goals as goal

turn : (c : Joined-k-last) → IsTurn c.args.schedule.now c.args.numbers.now c.args.contexts.now c.args.turn.now
turn c = c.requires (let some = eqb-false (length c.args.schedule.now) 0 (sym c.is_empty.ensures ∙ c.if-is_empty.false) in omega (arith, some))

abbrev context : Joined-k-last → ℕ
context c = get_or c.args.numbers.now c.in-Some-place_among.at 0

changed : (c : Joined-k-last) → IsChanged c.args.numbers.now c.args.turn.now.context (context c) c.args.contexts.now c.args.core.now.value c.args.vec.now.value c.if-k-last.contexts c.if-k-last.core.value c.if-k-last.vec.value
changed c =
    let t = turn c in
    elim c.if-k-last.branch [
      | then-k-last+else-is_some w ↦
          exchanged c.args.numbers.now c.args.turn.now.context (context c) c.args.contexts.now c.args.core.now.value c.args.vec.now.value t.ready t.unwatched
          w.exchange.new.core.value c.if-k-last.core.value w.exchange.new.vec.value c.if-k-last.vec.value w.exchange.new.contexts c.if-k-last.contexts
          w.exchange.ensures.core w.exchange.ensures.vec w.exchange.ensures.contexts
          (ap (λ (b : Box Core Global). b.value) w.core-is ∙ w.exchange-then-k-last.ensures.core) (ap (λ (b : Box Vectors Global). b.value) w.vec-is ∙ w.exchange-then-k-last.ensures.vec) (w.contexts-is ∙ w.exchange-then-k-last.ensures.contexts)
          (t.ready.each c.in-Some-place_among.at 0 c.in-Some-place_among.ensures.0).within (ap (λ (x : Core). is_some x.monitor) (sym w.deref.ensures) ∙ ap (λ (x : Option (ℕ × ℕ)). is_some x) (sym w.monitor.ensures) ∙ sym w.is_some.ensures ∙ w.if-is_some.false)
      | else-k-last w ↦
          stayed c.args.numbers.now c.args.turn.now.context (context c) c.args.contexts.now c.args.core.now.value c.args.vec.now.value t.ready t.unwatched
          w.if-k-last.false c.if-k-last.contexts c.if-k-last.core.value c.if-k-last.vec.value w.contexts-is (ap (λ (b : Box Core Global). b.value) w.core-is) (ap (λ (b : Box Vectors Global). b.value) w.vec-is)
    ]

-- the turn that is used up, with the registers that the machine has
abbrev used_up : Joined-k-last → TurnAt
used_up c = record { turn = c.args.turn.now; core = c.args.core.now.value; vectors = c.args.vec.now.value; contexts = c.args.contexts.now }

context_is : (c : Joined-k-last) → context c ≡ context_of c.args.numbers.now (turn_at c.args.schedule.now (next_turn c.args.schedule.now c.args.turn.now.place))
context_is c =
    let schedule : List (ℕ × ℕ) = c.args.schedule.now in
    let numbers : List ℕ = c.args.numbers.now in
    ap (λ (n : ℕ). get_or numbers n 0) (c.in-Some-place_among.ensures.1 ∙ ap (λ (x : ℕ × ℕ). x.0 % length numbers) (turn_is schedule c.next_turn-place.result c.next_turn-place.ensures.within))
    ∙ ap (λ (t : ℕ). context_of numbers (turn_at schedule t)) c.next_turn-place.ensures.is

pub returns-clause-begins : goal.returns-clause-begins
returns-clause-begins c =
    let some = eqb-false (length c.args.schedule.now) 0 (sym c.is_empty.ensures ∙ c.if-is_empty.false) in
    let until = c.in-Some.ensures.0 in
    let most = c.in-Some.ensures.1 in
    let below = c.in-Some-place_among.ensures.0 in
    let steps = ap (λ (t : ℕ). (turn_at c.args.schedule.now t).1) c.next_turn-place.ensures.is in
    one_begins c.args.schedule.now c.args.numbers.now (used_up c) (omega (arith, some)) (omega (arith, until, most, steps)) (omega (arith, below)) (elim c.if-k-last.branch [
      | then-k-last+else-is_some w ↦ inr (ap (λ (x : Core). is_some x.monitor) (sym w.deref.ensures) ∙ ap (λ (x : Option (ℕ × ℕ)). is_some x) (sym w.monitor.ensures) ∙ sym w.is_some.ensures ∙ w.if-is_some.false)
      | else-k-last w ↦ inl (sym (context_is c) ∙ w.if-k-last.false)
    ])

pub returns-clause-turn : goal.returns-clause-turn
returns-clause-turn c =
    let schedule : List (ℕ × ℕ) = c.args.schedule.now in
    let numbers : List ℕ = c.args.numbers.now in
    let t = turn c in
    let ch = changed c in
    let place = c.next_turn-place.ensures.is in
    let within = c.next_turn-place.ensures.within in
    let at = turn_is schedule c.next_turn-place.result within in
    let one = has_one schedule c.next_turn-place.result t.turns.steps within in
    let until = c.in-Some.ensures.0 in
    let most = c.in-Some.ensures.1 in
    record {
      some = t.turns.some;
      place = place;
      among = c.in-Some-place_among.at;
      below = c.in-Some-place_among.ensures.0;
      is_among = c.in-Some-place_among.ensures.1 ∙ ap (λ (x : ℕ × ℕ). x.0 % length numbers) at;
      context = refl;
      before = refl;
      until = until;
      later = omega (arith, one, until);
      fits = omega (arith, most);
      budget = refl;
      count = ch.count;
      turn = record {
        turns = t.turns;
        place = within;
        context = let at_k = (t.ready.each c.in-Some-place_among.at 0 c.in-Some-place_among.ensures.0).within in subst (λ (n : ℕ). context c < n) (sym ch.count) at_k;
        most = most;
        ready = ch.ready;
        unwatched = ch.unwatched;
      };
      world = ch.world;
    }
