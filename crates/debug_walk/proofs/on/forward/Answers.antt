use Rattle.std.proofs.Common.{◌≡◌, ◌<◌, ◌+◌, ◌-◌, ℕ, Bool, true, false, [], cond, refl, sym, ap, ◌∙◌, arith}
use Rattle.emu_model.specs.State.{Core, State}
use Rattle.emu_run.specs.Step.{accesses}
use Rattle.emu_machine.specs.Machines.{has_ended}
use Rattle.dbg_core.proofs.Obeying.{causes_later, causes_none}
use Rattle.dbg_model.specs.Session.{Course, stepped}
use Rattle.dbg_back.specs.declared.ends.BackEnd.TheVariants.{Done, WriteFault, ErrorsFault}
use Rattle.dbg_back.specs.Ends.{is_fault}
use Rattle.dbg_back.proofs.Doing.{does_as, does_when, leads_cut, leads_done, leads_end, leads_on, leads_start, leads_walk}
use Rattle.dbg_back.proofs.Streams.{not_done}
use Rattle.debug_walk.specs.Walks.{Tested}
use Rattle.debug_walk.proofs.Seeking.{is_sought_at, sought_at, told, told_is, walk_appends, walk_here, walk_made, walk_on, walk_over}
use Rattle.debug_walk.proofs.on.forward.Goals as goal

abbrev seeks : Tested → ℕ → State → Course → Course
seeks test until start = sought_at test until

abbrev tells_met : Tested → ℕ → State → Course → Course
tells_met test until start c = told (is_sought_at test until c) start

pub walk-init : goal.walk-init
walk-init g c =
    let test : Tested = g.T.Test.meets c.args.test.now in
    record {
      leads = leads_start (seeks test c.args.until) c.args.input.now c.args.machine.now c.args.trail.now (g.O.Sink.held c.args.output.now) (g.E.Sink.held c.args.errors.now);
      tells = leads_start (tells_met test c.args.until) c.args.input.now c.args.machine.now c.args.trail.now (g.O.Sink.held c.args.output.now) (g.E.Sink.held c.args.errors.now);
      made = λ start course w. record { course = course; walk = w; same = refl };
      write = refl;
      errors = refl;
    }

pub one_step-requires : goal.one_step-requires
one_step-requires g c =
    let test : Tested = g.T.Test.meets c.args.test.now in
    let below = c.is_below.ensures.below c.walk-test.true in
    let most = c.ranges.until in
    record {
      walks = leads_walk (seeks test c.args.until) (seeks test c.args.until) c.args.input.now c.args.machine.now c.walk.machine c.args.trail.now c.walk.trail
          (g.O.Sink.held c.args.output.now) (g.O.Sink.held c.walk.output) (g.E.Sink.held c.args.errors.now) (g.E.Sink.held c.walk.errors) c.walk.invariant.leads c.requires.walks;
      going = c.is_below.ensures.going c.walk-test.true;
      room = omega (arith, below, most);
    }

pub walk-preserved : goal.walk-preserved
walk-preserved g c =
    let test : Tested = g.T.Test.meets c.args.test.now in
    let until = c.args.until in
    let input = c.args.input.now in
    let m = c.walk.machine in
    let t = c.walk.trail in
    let n = c.one_step.new.machine in
    let v = c.one_step.new.trail in
    let d = c.in-Done.ensures.does in
    let made = c.in-Done.ensures.accesses refl in
    let running = c.is_below.ensures.going c.walk-test.true in
    let below = c.is_below.ensures.below c.walk-test.true in
    let from = c.pc-from.result in
    let at = c.pc-from.ensures.value ∙ ap (λ (x : Core). x.pc) c.core.ensures in
    let unmet = sym c.if-is_met.false ∙ c.is_met.ensures in
    record {
      leads = leads_on (seeks test until) (seeks test until) input c.args.machine.now m c.args.trail.now t
          (g.O.Sink.held c.args.output.now) (g.O.Sink.held c.walk.output) (g.E.Sink.held c.args.errors.now) (g.E.Sink.held c.walk.errors) c.walk.invariant.leads
          (λ start. stepped) (seeks test until) n v (g.O.Sink.held c.one_step.new.output) (g.E.Sink.held c.one_step.new.errors)
          (λ start course w. walk_on test until input m t start course w running below n v made from at (d.walks start course w refl) stepped (λ e. e) unmet) d;
      tells = leads_on (tells_met test until) (tells_met test until) input c.args.machine.now m c.args.trail.now t
          (g.O.Sink.held c.args.output.now) (g.O.Sink.held c.walk.output) (g.E.Sink.held c.args.errors.now) (g.E.Sink.held c.walk.errors) c.walk.invariant.tells
          (λ start. stepped) (tells_met test until) n v (g.O.Sink.held c.one_step.new.output) (g.E.Sink.held c.one_step.new.errors)
          (λ start course w. ap (λ (b : Bool). told b start) (walk_on test until input m t start course w running below n v made from at (d.walks start course w refl) (λ e. true) (λ e. false) unmet)) d;
      made = λ start course w.
          let l = c.walk.invariant.made start course w in
          record {
            course = stepped l.course;
            walk = d.walks start l.course l.walk refl;
            same = l.same ∙ walk_on test until input m t start l.course l.walk running below n v made from at (d.walks start l.course l.walk refl) (λ e. accesses e.state.parts) (λ e. []) unmet;
          };
      write = c.in-Done.ensures.write_cause.kept (λ (h : Done ≡ WriteFault). cc) ∙ c.walk.invariant.write;
      errors = c.in-Done.ensures.errors_cause.kept (λ (h : Done ≡ ErrorsFault). cc) ∙ c.walk.invariant.errors;
    }

smaller : (a b : Bool) (s u target : ℕ) → a ≡ false → s < target → (b ≡ false → s < u) → cond b 0 (1 + (target - u)) < cond a 0 (1 + (target - s))
smaller true b s u target going below further = cc
smaller false true s u target going below further = omega arith
smaller false false s u target going below further = let more = further refl in omega (arith, below, more)

pub walk-smaller : goal.walk-smaller
walk-smaller g c =
    smaller (has_ended c.walk.machine) (has_ended c.one_step.new.machine) c.walk.machine.parts.steps c.one_step.new.machine.parts.steps c.args.until (c.is_below.ensures.going c.walk-test.true) (c.is_below.ensures.below c.walk-test.true)
    (c.in-Done.ensures.further refl)

pub returns-then-is_met : goal.returns-then-is_met
returns-then-is_met g c =
    let test : Tested = g.T.Test.meets c.args.test.now in
    let until = c.args.until in
    let input = c.args.input.now in
    let m = c.walk.machine in
    let t = c.walk.trail in
    let n = c.one_step.new.machine in
    let v = c.one_step.new.trail in
    let hp = g.O.Sink.held c.args.output.now in
    let hw = g.O.Sink.held c.walk.output in
    let hq = g.O.Sink.held c.one_step.new.output in
    let ep = g.E.Sink.held c.args.errors.now in
    let ew = g.E.Sink.held c.walk.errors in
    let eq = g.E.Sink.held c.one_step.new.errors in
    let d = c.in-Done.ensures.does in
    let made = c.in-Done.ensures.accesses refl in
    let running = c.is_below.ensures.going c.walk-test.true in
    let below = c.is_below.ensures.below c.walk-test.true in
    let from = c.pc-from.result in
    let at = c.pc-from.ensures.value ∙ ap (λ (x : Core). x.pc) c.core.ensures in
    let met = sym c.if-is_met.true ∙ c.is_met.ensures in
    record {
      does = leads_end (seeks test until) (seeks test until) input c.args.machine.now m c.args.trail.now t hp hw ep ew c.walk.invariant.leads n v hq eq false
          (does_as input m n t v hw hq ew eq (λ start. stepped) (seeks test until) false
          (λ start course w. sym (walk_here test until input m t start course w running below n v made from at (d.walks start course w refl) stepped (λ e. e) met)) d);
      met = λ fine start course w.
          let l = c.walk.invariant.tells start course w in
          sym (told_is (is_sought_at test until course) true start
          (l.same ∙ ap (λ (b : Bool). told b start) (walk_here test until input m t start l.course l.walk running below n v made from at (d.walks start l.course l.walk refl) (λ e. true) (λ e. false) met)));
      accesses = λ _ start course w.
          let l = c.walk.invariant.made start course w in
          let there = d.walks start l.course l.walk refl in
          walk_made test until input m t start l.course l.walk running below n v made from at there
          ∙ sym (l.same ∙ walk_here test until input m t start l.course l.walk running below n v made from at there (λ e. accesses e.state.parts) (λ e. []) met);
      write_cause = causes_none _ _ _ (c.in-Done.ensures.write_cause.kept (λ (h : Done ≡ WriteFault). cc) ∙ c.walk.invariant.write) (λ (h : Done ≡ WriteFault). cc);
      errors_cause = causes_none _ _ _ (c.in-Done.ensures.errors_cause.kept (λ (h : Done ≡ ErrorsFault). cc) ∙ c.walk.invariant.errors) (λ (h : Done ≡ ErrorsFault). cc);
    }

pub returns-in_default : goal.returns-in_default
returns-in_default g c =
    let test : Tested = g.T.Test.meets c.args.test.now in
    let until = c.args.until in
    let input = c.args.input.now in
    let m = c.walk.machine in
    let t = c.walk.trail in
    let n = c.one_step.new.machine in
    let v = c.one_step.new.trail in
    let hp = g.O.Sink.held c.args.output.now in
    let hw = g.O.Sink.held c.walk.output in
    let hq = g.O.Sink.held c.one_step.new.output in
    let ep = g.E.Sink.held c.args.errors.now in
    let ew = g.E.Sink.held c.walk.errors in
    let eq = g.E.Sink.held c.one_step.new.errors in
    let running = c.is_below.ensures.going c.walk-test.true in
    let below = c.is_below.ensures.below c.walk-test.true in
    let broken = not_done c.one_step.result c.in_default.not-Done in
    record {
      does = does_when input c.args.machine.now n c.args.trail.now v hp hq ep eq (seeks test until) true (is_fault c.one_step.result) (sym broken)
          (leads_cut (seeks test until) (seeks test until) input c.args.machine.now m c.args.trail.now t hp hw ep ew c.walk.invariant.leads
          (λ start. stepped) n v hq eq
          (λ start course w. walk_appends test until input m t start course w running below)
          (does_when input m n t v hw hq ew eq (λ start. stepped) (is_fault c.one_step.result) true broken c.one_step.ensures.does));
      met = λ fine start course w. let both : true ≡ false = sym broken ∙ fine in cc;
      accesses = λ (is : false ≡ true). cc;
      write_cause = causes_later _ _ _ _ c.walk.invariant.write c.one_step.ensures.write_cause;
      errors_cause = causes_later _ _ _ _ c.walk.invariant.errors c.one_step.ensures.errors_cause;
    }

pub returns : goal.returns
returns g c =
    let test : Tested = g.T.Test.meets c.args.test.now in
    let until = c.args.until in
    let input = c.args.input.now in
    let m = c.walk.machine in
    let t = c.walk.trail in
    let over = c.is_below.ensures.over c.walk-test.false in
    record {
      does = leads_done (seeks test until) (seeks test until) input c.args.machine.now m c.args.trail.now t
          (g.O.Sink.held c.args.output.now) (g.O.Sink.held c.walk.output) (g.E.Sink.held c.args.errors.now) (g.E.Sink.held c.walk.errors) c.walk.invariant.leads
          (λ start course w. sym (walk_over test until input m t start course w stepped (λ e. e) over));
      met = λ fine start course w.
          let l = c.walk.invariant.tells start course w in
          sym (told_is (is_sought_at test until course) false start
          (l.same ∙ ap (λ (b : Bool). told b start) (walk_over test until input m t start l.course l.walk (λ e. true) (λ e. false) over)));
      accesses = λ (is : false ≡ true). cc;
      write_cause = causes_none _ _ _ c.walk.invariant.write (λ (h : Done ≡ WriteFault). cc);
      errors_cause = causes_none _ _ _ c.walk.invariant.errors (λ (h : Done ≡ ErrorsFault). cc);
    }
