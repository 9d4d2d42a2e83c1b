use Rattle.std.proofs.Common.{◌≡◌, ◌<◌, length, false, refl, sym, ap, subst, ◌∙◌, arith}
use Rattle.emu_machine.specs.declared.ends.StepEnd.TheVariants.{Going, ReadFault, WriteFault, ErrorsFault}
use Rattle.emu_machine.specs.Ends.{is_undone, step_end}
use Rattle.emu_machine.proofs.Advanced.{causes_not, not_both}
use Rattle.emu_run.specs.Worlds.{World, context, taken_by_context}
use Rattle.guest_threads.specs.declared.went.Went.TheVariants.{On, Over}
use Rattle.guest_threads.specs.Calls.{IsCalling}
use Rattle.guest_threads.specs.Ends.{WorldHeld}
use Rattle.guest_threads.specs.Named.{last_end}
use Rattle.guest_threads.proofs.Quiet.{apart_here, ends_here, ends_last, ends_lives, goes_again, on_here, quiet_last, some_lives, still_here, takes_last, takes_one, takes_quiet}
use Rattle.guest_threads.proofs.Steps.{end_is_done}
use Rattle.guest_threads.proofs.held.Held.go.Goals as goal

pub advance-requires : goal.advance-requires
advance-requires g c = record {
  calling = subst (λ (x : WorldHeld). IsCalling x) (sym c.bring.ensures)
      (record { going = c.requires.going; room = let below = c.requires.below in omega (arith, below); within = c.requires.within; ready = c.requires.ready });
  below = subst (λ (x : WorldHeld). x.world.steps < c.args.until) (sym c.bring.ensures) c.requires.below;
}

-- the last step ended the world
pub returns-then-advance : goal.returns-then-advance
returns-then-advance g c =
    let h : WorldHeld = c.args.self.now in
    let v : World = c.advance.new.self.world in
    let d = ends_here h c.args.k c.args.until c.bring.new.self c.advance.new.self c.advance.result c.bring.ensures c.advance.ensures.steps c.if-advance.true in
    let fine : is_undone (step_end v.ended) ≡ false = end_is_done (step_end v.ended) v.ended refl in
    record {
      steps = takes_last c.args.k h.world c.args.until v (g.I.Source.left c.args.input.now) (g.O.Sink.held c.args.output.now) (g.E.Sink.held c.args.errors.now) (step_end v.ended) d refl;
      over = λ _. d.ended;
      failed = c.advance.ensures.failed ∙ sym fine;
      last = ends_last c.args.until (taken_by_context c.args.k h.world) v d;
      living = λ _. ends_lives v d.ended;
      read_cause = causes_not _ _ _ refl (λ e. not_both _ _ fine (ap is_undone e));
      write_cause = causes_not _ _ _ refl (λ e. not_both _ _ fine (ap is_undone e));
      errors_cause = causes_not _ _ _ refl (λ e. not_both _ _ fine (ap is_undone e));
      read_named = λ e. not_both _ _ fine (ap is_undone e);
      write_named = λ e. not_both _ _ fine (ap is_undone e);
      errors_named = λ e. not_both _ _ fine (ap is_undone e);
      output_kept = λ _. refl;
      errors_kept = λ _. refl;
    }

-- steps were taken, and the world goes on
pub returns-then-after-before : goal.returns-then-after-before
returns-then-after-before g c =
    let h : WorldHeld = c.args.self.now in
    let v : World = c.advance.new.self.world in
    let d = on_here h c.args.k c.args.until c.bring.new.self c.advance.new.self c.advance.result c.bring.ensures c.advance.ensures.steps c.if-advance.false in
    let other = apart_here h c.args.k c.args.until c.bring.new.self c.advance.new.self c.advance.result c.bring.ensures c.advance.ensures.steps c.steps-before.result c.steps-after.result c.steps-before.ensures c.steps-after.ensures c.if-after-before.true in
    record {
      steps = takes_quiet c.args.k h.world c.args.until v (g.I.Source.left c.args.input.now) (g.O.Sink.held c.args.output.now) (g.E.Sink.held c.args.errors.now) d.count d.quiet d.most other;
      over = λ (e : On ≡ Over). cc;
      failed = c.advance.ensures.failed;
      last = quiet_last d.count c.args.k (taken_by_context c.args.k h.world) v d.quiet refl;
      living = λ _. some_lives d.count c.args.k h.world v d.quiet other;
      read_cause = causes_not _ _ _ refl (λ (e : Going ≡ ReadFault). cc);
      write_cause = causes_not _ _ _ refl (λ (e : Going ≡ WriteFault). cc);
      errors_cause = causes_not _ _ _ refl (λ (e : Going ≡ ErrorsFault). cc);
      read_named = λ e. cc;
      write_named = λ e. cc;
      errors_named = λ e. cc;
      output_kept = λ _. refl;
      errors_kept = λ _. refl;
    }

-- the first one is any step
pub one_by_name-requires : goal.one_by_name-requires
one_by_name-requires g c =
    let h : WorldHeld = c.args.self.now in
    let same = still_here h c.args.k c.args.until c.bring.new.self c.advance.new.self c.advance.result c.bring.ensures c.advance.ensures.steps c.steps-before.result c.steps-after.result c.steps-before.ensures c.steps-after.ensures c.if-advance.false c.if-after-before.false in
    record {
      going = goes_again h c.advance.new.self c.args.k c.requires.going same c.advance.ensures.failed;
      room = let below = c.requires.below in let steps = ap (λ (w : World). w.steps) same in omega (arith, below, steps);
      within = subst (λ (w : World). c.args.k < length w.contexts) (sym same) c.requires.within;
      ready = ap (λ (w : World). (context w c.args.k).standing) same ∙ c.requires.ready;
    }

pub returns : goal.returns
returns g c =
    let h : WorldHeld = c.args.self.now in
    let same = still_here h c.args.k c.args.until c.bring.new.self c.advance.new.self c.advance.result c.bring.ensures c.advance.ensures.steps c.steps-before.result c.steps-after.result c.steps-before.ensures c.steps-after.ensures c.if-advance.false c.if-after-before.false in
    let o = c.one_by_name.ensures in
    record {
      steps = takes_one c.args.k h.world c.args.until c.advance.new.self.world c.one_by_name.new.self.world same c.requires.below (last_end c.one_by_name.result c.one_by_name.new.self.world.ended)
          (g.I.Source.left c.args.input.now) (g.I.Source.left c.one_by_name.new.input) (g.O.Sink.held c.args.output.now) (g.O.Sink.held c.one_by_name.new.output) (g.E.Sink.held c.args.errors.now) (g.E.Sink.held c.one_by_name.new.errors)
          o.state o.input o.output o.errors o.end o.counted o.kept;
      over = o.over;
      failed = o.failed;
      last = o.last;
      living = o.living;
      read_cause = o.read_cause;
      write_cause = o.write_cause;
      errors_cause = o.errors_cause;
      read_named = o.read_named;
      write_named = o.write_named;
      errors_named = o.errors_named;
      output_kept = o.output_kept;
      errors_kept = o.errors_kept;
    }
