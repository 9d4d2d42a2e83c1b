use Rattle.std.proofs.Common.{◌≡◌, ◌<◌, ◌+◌, ◌-◌, is_none, true, false, ap, sym, refl, subst, ◌∙◌, arith}
use Rattle.emu_machine.specs.Ends.{is_undone}
use Rattle.emu_machine.proofs.Advanced.{causes_not, none_broken, not_both}
use Rattle.emu_machine.proofs.Spared.{errors_undone, output_undone}
use Rattle.emu_machine.specs.declared.ends.StepEnd.{StepEnd}
use Rattle.emu_machine.specs.declared.ends.StepEnd.TheVariants.{Going, ReadFault, WriteFault, ErrorsFault}
use Rattle.emu_run.specs.Worlds.{World}
use Rattle.emu_run.specs.declared.thread.SchedulePlace.{SchedulePlace}
use Rattle.guest_threads.specs.declared.went.Went.{Went}
use Rattle.guest_threads.specs.Ends.{world_end_of, is_broken_off}
use Rattle.guest_threads.specs.Named.{last_end}
use Rattle.guest_threads.specs.Quiet.{TakesSteps}
use Rattle.guest_threads.proofs.Composed.{leads_start}
use Rattle.guest_contexts.proofs.Begins.{has_one}
use Rattle.guest_threads.proofs.Picked.{place_at}
use Rattle.guest_threads.proofs.Quiet.{ends_lives, quiet_lives, quiet_steps}
use Rattle.guest_threads.proofs.Followed.{Reached, before_end, followed_after, followed_by, followed_lives, goes_ready, going_by, ran_over, reached_behind, reached_on}
use Rattle.guest_threads.proofs.Stood.{moved}
use Rattle.guest_threads.proofs.Whole.{any_start, errors_fault, errors_whole, no_errors_fault, no_output_fault, output_fault, output_whole}
use Rattle.guest_threads.proofs.WholeTurns.{begins_behind}
use Rattle.guest_threads.proofs.Runs.{ended_unspent, ran_step, ran_when, run_stops, run_spends, run_sticks, broken_as, unbroken, not_going, end_as, goes_on_after, unended, stops, sticks, read_of, write_of, errors_of, never_spent, going_is_no, causes_from, lives_on}
use Rattle.guest_threads.proofs.Named.{not_on}
use Rattle.guest_threads.proofs.Stands.{kept_there, stands_start, stands_there}
use Rattle.guest_threads.proofs.held.Held.follow.Goals as goal

pub loop-place-init : goal.loop-place-init
loop-place-init g c = record {
  going = c.requires.going;
  within = c.requires.within;
  placed = record { turn = c.requires.schedule.some; used = has_one c.args.schedule.now 0 c.requires.schedule.steps c.requires.schedule.some; held = λ (h : true ≡ false). cc };
  leads = leads_start _ _ _ _ _;
  stands = stands_start c.args.schedule.now c.args.self.now.world (g.I.Source.left c.args.input.now);
  any = any_start c.args.schedule.now c.args.self.now.world _ _ _;
  living = λ h. h;
  read = refl;
  write = refl;
  errors = refl;
}

pub pick-requires : goal.pick-requires
pick-requires g c = c.loop-place.invariant.placed

pub turn_until-until-requires : goal.turn_until-until-requires
turn_until-until-requires g c =
    let steps = c.steps.ensures in
    let before = c.steps-before.ensures in
    record { turn = c.loop-place.invariant.placed.turn; used = c.loop-place.invariant.placed.used; below = omega (arith, steps, before) }

pub go-requires : goal.go-requires
go-requires g c =
    let before = c.steps-before.ensures in
    let until = c.turn_until-until.ensures.below in
    record { going = c.loop-place.invariant.going; below = omega (arith, before, until); within = c.in-Some.ensures.at.within; ready = c.in-Some.ensures.at.ready }

pub used_behind-used-requires : goal.used_behind-used-requires
used_behind-used-requires g c =
    let p = c.loop-place.self.world in
    let t = c.go.ensures.steps in
    let near = t.below in
    let steps = c.steps-before.ensures in
    let until = c.turn_until-until.ensures in
    let turn = until.turn in
    let within = until.within in
    let taken : t.at.steps ≡ p.steps + t.count = quiet_steps t.count c.in-Some.k p t.at t.quiet in
    let counted : c.go.new.self.world.steps ≡ t.at.steps + 1 = t.counted (ap (λ (w : Went). last_end w c.go.new.self.world.ended) c.in-On.is) in
    let after = c.steps-after.ensures in
    record { on = omega (arith, steps, after, counted, taken); fits = let fits = until.fits in omega (arith, steps, after, counted, taken, near, fits) }

pub next_place-next-requires : goal.next_place-next-requires
next_place-next-requires g c =
    let p = c.loop-place.self.world in
    let t = c.go.ensures.steps in
    let near = t.below in
    let steps = c.steps-before.ensures in
    let until = c.turn_until-until.ensures in
    let turn = until.turn in
    let within = until.within in
    let taken : t.at.steps ≡ p.steps + t.count = quiet_steps t.count c.in-Some.k p t.at t.quiet in
    let counted : c.go.new.self.world.steps ≡ t.at.steps + 1 = t.counted (ap (λ (w : Went). last_end w c.go.new.self.world.ended) c.in-On.is) in
    let after = c.steps-after.ensures in
    let is = c.used_behind-used.ensures in
    record {
      turn = c.loop-place.invariant.placed.turn;
      some = omega (arith, is, steps, after, counted, taken);
      most = omega (arith, is, steps, after, counted, taken, near, turn);
      context = sym c.go.ensures.last;
      schedule = c.requires.schedule;
    }

pub take_turns-requires : goal.take_turns-requires
take_turns-requires g c =
    let q = c.go.new.self.world in
    let end : StepEnd = last_end c.go.result q.ended in
    let on : end ≡ Going = ap (λ (w : Went). last_end w q.ended) c.in-On.is in
    let t = c.go.ensures.steps in
    let near = t.below in
    let within = c.turn_until-until.ensures.within in
    let counted : q.steps ≡ t.at.steps + 1 = t.counted on in
    record {
      going = goes_on_after c.go.new.self end on (t.ends (ap is_undone on)) c.go.ensures.failed;
      within = omega (arith, counted, near, within);
      place = c.next_place-next.ensures.is_place;
      begins = begins_behind q c.args.schedule.now (place_at c.loop-place.place.turn (c.used_behind-used.result - 1) c.in-Some.k) c.next_place-next.result c.in-Some.k c.next_place-next.ensures.place;
      schedule = c.requires.schedule;
    }

pub loop-place-smaller : goal.loop-place-smaller
loop-place-smaller g c =
    let p = c.loop-place.self.world in
    let q = c.go.new.self.world in
    let t = c.go.ensures.steps in
    let near = t.below in
    let within = c.turn_until-until.ensures.within in
    let taken : t.at.steps ≡ p.steps + t.count = quiet_steps t.count c.in-Some.k p t.at t.quiet in
    let counted : q.steps ≡ t.at.steps + 1 = t.counted (ap (λ (w : Went). last_end w q.ended) c.in-On.is) in
    let d = c.in-Some-take_turns.ensures.steps in
    let after = followed_after c.args.schedule.now d.count c.next_place-next.result c.in-Some-take_turns.there q c.take_turns.new.self.world d.followed in
    omega (arith, counted, taken, near, within, after)

pub loop-place-preserved : goal.loop-place-preserved
loop-place-preserved g c =
    let p = c.loop-place.self.world in
    let q = c.go.new.self.world in
    let end : StepEnd = last_end c.go.result q.ended in
    let on : end ≡ Going = ap (λ (w : Went). last_end w q.ended) c.in-On.is in
    let k = c.in-Some.k in
    let t = c.go.ensures.steps in
    let steps = c.steps-before.ensures in
    let until = c.turn_until-until.ensures in
    let turn = until.turn in
    let taken : t.at.steps ≡ p.steps + t.count = quiet_steps t.count k p t.at t.quiet in
    let counted : q.steps ≡ t.at.steps + 1 = t.counted on in
    let after = c.steps-after.ensures in
    let is = c.used_behind-used.ensures in
    let next : SchedulePlace = c.next_place-next.result in
    let behind : Reached c.args.schedule.now c.args.budget c.args.self.now.world (g.I.Source.left c.args.input.now) (g.I.Source.left c.go.new.input) (g.O.Sink.held c.args.output.now) (g.O.Sink.held c.go.new.output) (g.E.Sink.held c.args.errors.now) (g.E.Sink.held c.go.new.errors) next q =
    reached_behind c.args.schedule.now c.args.budget c.args.self.now.world (g.I.Source.left c.args.input.now) (g.I.Source.left c.loop-place.input) (g.O.Sink.held c.args.output.now) (g.O.Sink.held c.loop-place.output) (g.E.Sink.held c.args.errors.now) (g.E.Sink.held c.loop-place.errors)
    c.loop-place.place k c.turn_until-until.result p (record { leads = c.loop-place.invariant.leads; stands = c.loop-place.invariant.stands; any = c.loop-place.invariant.any }) (unended p.ended c.loop-place.self.failed c.loop-place.invariant.going) c.in-Some.ensures until.within (omega (arith, turn, steps))
    (g.I.Source.left c.go.new.input) (g.O.Sink.held c.go.new.output) (g.E.Sink.held c.go.new.errors) q c.used_behind-used.result next
    (subst (λ (e : StepEnd). TakesSteps k c.turn_until-until.result p q e (g.I.Source.left c.loop-place.input) (g.I.Source.left c.go.new.input) (g.O.Sink.held c.loop-place.output) (g.O.Sink.held c.go.new.output) (g.E.Sink.held c.loop-place.errors) (g.E.Sink.held c.go.new.errors)) on t)
    (omega (arith, is, steps, after, counted, taken)) c.next_place-next.ensures.place in
    let goes : is_none q.ended ≡ true = unended q.ended c.go.new.self.failed (goes_on_after c.go.new.self end on (t.ends (ap is_undone on)) c.go.ensures.failed) in
    let read = c.go.ensures.read_cause.kept (going_is_no end ReadFault (λ (e : Going ≡ ReadFault). cc) on) ∙ c.loop-place.invariant.read in
    let write = c.go.ensures.write_cause.kept (going_is_no end WriteFault (λ (e : Going ≡ WriteFault). cc) on) ∙ c.loop-place.invariant.write in
    let errors = c.go.ensures.errors_cause.kept (going_is_no end ErrorsFault (λ (e : Going ≡ ErrorsFault). cc) on) ∙ c.loop-place.invariant.errors in
    let v = c.take_turns.new.self.world in
    let d = c.in-Some-take_turns.ensures.steps in
    let there = followed_by c.args.schedule.now c.args.budget (λ x u. Reached c.args.schedule.now c.args.budget c.args.self.now.world (g.I.Source.left c.args.input.now) (g.I.Source.left c.go.new.input) (g.O.Sink.held c.args.output.now) (g.O.Sink.held c.go.new.output) (g.E.Sink.held c.args.errors.now) (g.E.Sink.held c.go.new.errors) x u)
    (reached_on c.args.schedule.now c.args.budget c.args.self.now.world (g.I.Source.left c.args.input.now) (g.I.Source.left c.go.new.input) (g.O.Sink.held c.args.output.now) (g.O.Sink.held c.go.new.output) (g.E.Sink.held c.args.errors.now) (g.E.Sink.held c.go.new.errors))
    d.count next c.in-Some-take_turns.there q v d.followed behind goes d.most in
    record {
      going = going_by c.take_turns.new.self d.goes c.take_turns.ensures.failed;
      within = d.most;
      placed = d.placed;
      leads = there.0.leads;
      stands = there.0.stands;
      any = there.0.any;
      living = λ _. followed_lives c.args.schedule.now d.count next c.in-Some-take_turns.there q v d.followed (c.go.ensures.living (ap is_undone on));
      read = read;
      write = write;
      errors = errors;
    }

-- a step of a whole turn ended the world
pub returns-in_default-take_turns : goal.returns-in_default-take_turns
returns-in_default-take_turns g c =
    let p = c.loop-place.self.world in
    let q = c.go.new.self.world in
    let end : StepEnd = last_end c.go.result q.ended in
    let on : end ≡ Going = ap (λ (w : Went). last_end w q.ended) c.in-On.is in
    let k = c.in-Some.k in
    let t = c.go.ensures.steps in
    let steps = c.steps-before.ensures in
    let until = c.turn_until-until.ensures in
    let turn = until.turn in
    let taken : t.at.steps ≡ p.steps + t.count = quiet_steps t.count k p t.at t.quiet in
    let counted : q.steps ≡ t.at.steps + 1 = t.counted on in
    let after = c.steps-after.ensures in
    let is = c.used_behind-used.ensures in
    let next : SchedulePlace = c.next_place-next.result in
    let behind : Reached c.args.schedule.now c.args.budget c.args.self.now.world (g.I.Source.left c.args.input.now) (g.I.Source.left c.go.new.input) (g.O.Sink.held c.args.output.now) (g.O.Sink.held c.go.new.output) (g.E.Sink.held c.args.errors.now) (g.E.Sink.held c.go.new.errors) next q =
    reached_behind c.args.schedule.now c.args.budget c.args.self.now.world (g.I.Source.left c.args.input.now) (g.I.Source.left c.loop-place.input) (g.O.Sink.held c.args.output.now) (g.O.Sink.held c.loop-place.output) (g.E.Sink.held c.args.errors.now) (g.E.Sink.held c.loop-place.errors)
    c.loop-place.place k c.turn_until-until.result p (record { leads = c.loop-place.invariant.leads; stands = c.loop-place.invariant.stands; any = c.loop-place.invariant.any }) (unended p.ended c.loop-place.self.failed c.loop-place.invariant.going) c.in-Some.ensures until.within (omega (arith, turn, steps))
    (g.I.Source.left c.go.new.input) (g.O.Sink.held c.go.new.output) (g.E.Sink.held c.go.new.errors) q c.used_behind-used.result next
    (subst (λ (e : StepEnd). TakesSteps k c.turn_until-until.result p q e (g.I.Source.left c.loop-place.input) (g.I.Source.left c.go.new.input) (g.O.Sink.held c.loop-place.output) (g.O.Sink.held c.go.new.output) (g.E.Sink.held c.loop-place.errors) (g.E.Sink.held c.go.new.errors)) on t)
    (omega (arith, is, steps, after, counted, taken)) c.next_place-next.ensures.place in
    let goes : is_none q.ended ≡ true = unended q.ended c.go.new.self.failed (goes_on_after c.go.new.self end on (t.ends (ap is_undone on)) c.go.ensures.failed) in
    let read = c.go.ensures.read_cause.kept (going_is_no end ReadFault (λ (e : Going ≡ ReadFault). cc) on) ∙ c.loop-place.invariant.read in
    let write = c.go.ensures.write_cause.kept (going_is_no end WriteFault (λ (e : Going ≡ WriteFault). cc) on) ∙ c.loop-place.invariant.write in
    let errors = c.go.ensures.errors_cause.kept (going_is_no end ErrorsFault (λ (e : Going ≡ ErrorsFault). cc) on) ∙ c.loop-place.invariant.errors in
    let v = c.take_turns.new.self.world in
    let d = c.in_default-take_turns.ensures.steps in
    let fine : is_broken_off c.end-in_default-take_turns.result ≡ false = ap is_broken_off c.end-in_default-take_turns.ensures ∙ unbroken v in
    let r = ran_when _ _ _ _ _ _ _ _ _ _ _ (sym fine)
    (ran_over c.args.schedule.now c.args.budget c.args.self.now.world (g.I.Source.left c.args.input.now) (g.I.Source.left c.go.new.input) (g.O.Sink.held c.args.output.now) (g.O.Sink.held c.go.new.output) (g.E.Sink.held c.args.errors.now) (g.E.Sink.held c.go.new.errors) next q v behind goes d) in
    record {
      state = r.state;
      input = r.input;
      output = r.output;
      errors = r.errors;
      end = λ _. c.end-in_default-take_turns.ensures;
      spent = λ h. absurd (ended_unspent v d.ended (sym c.end-in_default-take_turns.ensures ∙ h));
      living = λ _. ends_lives v d.ended;
      kept = none_broken _ _ _ fine;
      unended = λ h. not_both _ _ fine h;
      unspent = λ h. not_both _ _ fine h;
      failed = c.take_turns.ensures.failed ∙ sym fine;
      read_cause = causes_not _ _ _ read (λ h. not_both _ _ fine (ap is_broken_off h));
      write_cause = causes_not _ _ _ write (λ h. not_both _ _ fine (ap is_broken_off h));
      errors_cause = causes_not _ _ _ errors (λ h. not_both _ _ fine (ap is_broken_off h));
      read_named = λ h. not_both _ _ fine (ap is_broken_off h);
      write_named = λ h. not_both _ _ fine (ap is_broken_off h);
      errors_named = λ h. not_both _ _ fine (ap is_broken_off h);
      whole_output = no_output_fault _ _ fine;
      whole_errors = no_errors_fault _ _ fine;
    }

pub returns-in_default-go : goal.returns-in_default-go
returns-in_default-go g c =
    let p = c.loop-place.self.world in
    let q = c.go.new.self.world in
    let end : StepEnd = last_end c.go.result q.ended in
    let k = c.in-Some.k in
    let t = c.go.ensures.steps in
    let at = t.at in
    let steps = c.steps-before.ensures in
    let until = c.turn_until-until.ensures in
    let within = until.within in
    let turn = until.turn in
    let near = t.below in
    let below : at.steps < c.args.budget = omega (arith, near, within) in
    let picked = c.in-Some.ensures in
    let place = moved c.loop-place.place k t.count in
    let stood = before_end c.args.schedule.now c.args.budget c.args.self.now.world (g.I.Source.left c.args.input.now) (g.I.Source.left c.loop-place.input) (g.O.Sink.held c.args.output.now) (g.O.Sink.held c.loop-place.output) (g.E.Sink.held c.args.errors.now) (g.E.Sink.held c.loop-place.errors)
    c.loop-place.place k c.turn_until-until.result p (record { leads = c.loop-place.invariant.leads; stands = c.loop-place.invariant.stands; any = c.loop-place.invariant.any }) (unended p.ended c.loop-place.self.failed c.loop-place.invariant.going) picked within (omega (arith, turn, steps))
    t.count at t.quiet near in
    let goes_so = goes_ready at k stood.goes stood.at in
    let stepped_so = ran_step k at q (g.I.Source.left c.loop-place.input) (g.I.Source.left c.go.new.input) (g.O.Sink.held c.loop-place.output) (g.O.Sink.held c.go.new.output) (g.E.Sink.held c.loop-place.errors) (g.E.Sink.held c.go.new.errors) (is_undone end) t.state t.input t.output t.errors in
    let other = not_on c.go.result q.ended c.in_default-go.not-On c.go.ensures.over in
    let is : c.end_of.result ≡ world_end_of q end = c.end_of.ensures ∙ ap (λ (r : StepEnd). world_end_of q r) c.last_end-end.ensures in
    let broken : is_undone end ≡ is_broken_off c.end_of.result = broken_as q end ∙ ap is_broken_off (sym is) in
    let r = ran_when _ _ _ _ _ _ _ _ _ _ _ broken
    (run_stops c.args.schedule.now c.args.budget place c.args.self.now.world at q _ _ _ _ _ _ _ _ _ stood.holds.leads goes_so below k stood.picked (is_undone end) stepped_so
    (λ (fine : is_undone end ≡ false). stops q (not_going q.ended end (t.ends fine) other))) in
    record {
      state = r.state;
      input = r.input;
      output = r.output;
      errors = r.errors;
      end = end_as q end c.end_of.result is t.ends other;
      spent = λ h. absurd (never_spent q end other (sym is ∙ h));
      living = λ h. lives_on at q k end (g.I.Source.left c.loop-place.input) (g.I.Source.left c.go.new.input) c.go.ensures.living t.kept (quiet_lives t.count k p at t.quiet (c.loop-place.invariant.living h));
      kept = kept_there c.args.schedule.now c.args.self.now.world at q k (g.I.Source.left c.args.input.now) (g.I.Source.left c.loop-place.input) (g.I.Source.left c.go.new.input) (is_broken_off c.end_of.result)
          (λ h. t.kept (broken ∙ h)) c.go.ensures.last
          (stands_there c.args.schedule.now c.args.budget place c.args.self.now.world at _ _ _ _ _ _ stood.holds.leads stood.holds.stands);
      unended = λ h. ap (λ (w : World). is_none w.ended) (t.kept (broken ∙ h)).is ∙ stood.goes;
      unspent = λ h. let same = ap (λ (w : World). w.steps) (t.kept (broken ∙ h)).is in omega (arith, same, below);
      failed = c.go.ensures.failed ∙ broken;
      read_cause = causes_from _ _ _ _ _ c.loop-place.invariant.read c.go.ensures.read_cause (λ h. read_of q end other (sym is ∙ h)) (λ (e : end ≡ ReadFault). is ∙ ap (λ r. world_end_of q r) e);
      write_cause = causes_from _ _ _ _ _ c.loop-place.invariant.write c.go.ensures.write_cause (λ h. write_of q end other (sym is ∙ h)) (λ (e : end ≡ WriteFault). is ∙ ap (λ r. world_end_of q r) e);
      errors_cause = causes_from _ _ _ _ _ c.loop-place.invariant.errors c.go.ensures.errors_cause (λ h. errors_of q end other (sym is ∙ h)) (λ (e : end ≡ ErrorsFault). is ∙ ap (λ r. world_end_of q r) e);
      read_named = λ h. c.go.ensures.read_named (read_of q end other (sym is ∙ h));
      write_named = λ h. c.go.ensures.write_named (write_of q end other (sym is ∙ h));
      errors_named = λ h. c.go.ensures.errors_named (errors_of q end other (sym is ∙ h));
      whole_output = λ h.
          let fault = output_fault q end other c.end_of.result is h in
          let same : q.steps ≡ at.steps = ap (λ (w : World). w.steps) (t.kept (output_undone end fault)).is in
          output_whole c.args.schedule.now _ place at q _ _ _ _ _ _ stood.holds.any same _ (ap g.O.Sink.held (c.go.ensures.output_kept fault));
      whole_errors = λ h.
          let fault = errors_fault q end other c.end_of.result is h in
          let same : q.steps ≡ at.steps = ap (λ (w : World). w.steps) (t.kept (errors_undone end fault)).is in
          errors_whole c.args.schedule.now _ place at q _ _ _ _ _ _ stood.holds.any same _ (ap g.E.Sink.held (c.go.ensures.errors_kept fault));
    }

pub returns-in_default-clause-state : goal.returns-in_default-clause-state
returns-in_default-clause-state g c =
    let p = c.loop-place.self.world in
    let stuck = c.in_default.ensures in
    (ran_when _ _ _ _ _ _ _ _ _ _ _ (sym (ap is_broken_off c.end.ensures ∙ unbroken p))
    (run_sticks c.args.schedule.now c.args.budget c.loop-place.place c.args.self.now.world p _ _ _ _ _ _ c.loop-place.invariant.leads (sticks p stuck))).state

pub returns-in_default-clause-output : goal.returns-in_default-clause-output
returns-in_default-clause-output g c =
    let p = c.loop-place.self.world in
    let stuck = c.in_default.ensures in
    (ran_when _ _ _ _ _ _ _ _ _ _ _ (sym (ap is_broken_off c.end.ensures ∙ unbroken p))
    (run_sticks c.args.schedule.now c.args.budget c.loop-place.place c.args.self.now.world p _ _ _ _ _ _ c.loop-place.invariant.leads (sticks p stuck))).output

pub returns-in_default-clause-errors : goal.returns-in_default-clause-errors
returns-in_default-clause-errors g c =
    let p = c.loop-place.self.world in
    let stuck = c.in_default.ensures in
    (ran_when _ _ _ _ _ _ _ _ _ _ _ (sym (ap is_broken_off c.end.ensures ∙ unbroken p))
    (run_sticks c.args.schedule.now c.args.budget c.loop-place.place c.args.self.now.world p _ _ _ _ _ _ c.loop-place.invariant.leads (sticks p stuck))).errors

pub returns-clause-state : goal.returns-clause-state
returns-clause-state g c =
    let p = c.loop-place.self.world in
    let steps = c.steps.ensures in
    (ran_when _ _ _ _ _ _ _ _ _ _ _ (sym (ap is_broken_off c.end-2.ensures ∙ unbroken p))
    (run_spends c.args.schedule.now c.args.budget c.loop-place.place c.args.self.now.world p _ _ _ _ _ _ c.loop-place.invariant.leads (omega (arith, steps)))).state

pub returns-clause-output : goal.returns-clause-output
returns-clause-output g c =
    let p = c.loop-place.self.world in
    let steps = c.steps.ensures in
    (ran_when _ _ _ _ _ _ _ _ _ _ _ (sym (ap is_broken_off c.end-2.ensures ∙ unbroken p))
    (run_spends c.args.schedule.now c.args.budget c.loop-place.place c.args.self.now.world p _ _ _ _ _ _ c.loop-place.invariant.leads (omega (arith, steps)))).output

pub returns-clause-errors : goal.returns-clause-errors
returns-clause-errors g c =
    let p = c.loop-place.self.world in
    let steps = c.steps.ensures in
    (ran_when _ _ _ _ _ _ _ _ _ _ _ (sym (ap is_broken_off c.end-2.ensures ∙ unbroken p))
    (run_spends c.args.schedule.now c.args.budget c.loop-place.place c.args.self.now.world p _ _ _ _ _ _ c.loop-place.invariant.leads (omega (arith, steps)))).errors

pub returns-in_default-clause-kept : goal.returns-in_default-clause-kept
returns-in_default-clause-kept g c = none_broken _ _ _ (ap is_broken_off c.end.ensures ∙ unbroken c.loop-place.self.world)

pub returns-in_default-clause-read_named : goal.returns-in_default-clause-read_named
returns-in_default-clause-read_named g c = λ h. not_both _ _ (ap is_broken_off c.end.ensures ∙ unbroken c.loop-place.self.world) (ap is_broken_off h)

pub returns-in_default-clause-write_named : goal.returns-in_default-clause-write_named
returns-in_default-clause-write_named g c = λ h. not_both _ _ (ap is_broken_off c.end.ensures ∙ unbroken c.loop-place.self.world) (ap is_broken_off h)

pub returns-in_default-clause-errors_named : goal.returns-in_default-clause-errors_named
returns-in_default-clause-errors_named g c = λ h. not_both _ _ (ap is_broken_off c.end.ensures ∙ unbroken c.loop-place.self.world) (ap is_broken_off h)

pub returns-clause-kept : goal.returns-clause-kept
returns-clause-kept g c = none_broken _ _ _ (ap is_broken_off c.end-2.ensures ∙ unbroken c.loop-place.self.world)

pub returns-clause-read_named : goal.returns-clause-read_named
returns-clause-read_named g c = λ h. not_both _ _ (ap is_broken_off c.end-2.ensures ∙ unbroken c.loop-place.self.world) (ap is_broken_off h)

pub returns-clause-write_named : goal.returns-clause-write_named
returns-clause-write_named g c = λ h. not_both _ _ (ap is_broken_off c.end-2.ensures ∙ unbroken c.loop-place.self.world) (ap is_broken_off h)

pub returns-clause-errors_named : goal.returns-clause-errors_named
returns-clause-errors_named g c = λ h. not_both _ _ (ap is_broken_off c.end-2.ensures ∙ unbroken c.loop-place.self.world) (ap is_broken_off h)

pub returns-in_default-clause-whole_output : goal.returns-in_default-clause-whole_output
returns-in_default-clause-whole_output g c = no_output_fault _ _ (ap is_broken_off c.end.ensures ∙ unbroken c.loop-place.self.world)

pub returns-in_default-clause-whole_errors : goal.returns-in_default-clause-whole_errors
returns-in_default-clause-whole_errors g c = no_errors_fault _ _ (ap is_broken_off c.end.ensures ∙ unbroken c.loop-place.self.world)

pub returns-clause-whole_output : goal.returns-clause-whole_output
returns-clause-whole_output g c = no_output_fault _ _ (ap is_broken_off c.end-2.ensures ∙ unbroken c.loop-place.self.world)

pub returns-clause-whole_errors : goal.returns-clause-whole_errors
returns-clause-whole_errors g c = no_errors_fault _ _ (ap is_broken_off c.end-2.ensures ∙ unbroken c.loop-place.self.world)
