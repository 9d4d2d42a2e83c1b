use Rattle.std.proofs.Common.{◌≡◌, None, true, false, is_some, refl, sym, ap, subst, ◌∙◌}
use Rattle.dbg_back.specs.Walks.{IsWalk}
use Rattle.debug_walk.specs.Walks.{last_met, machines_before, sought_back}
use Rattle.debug_points.specs.declared.aims.Aim.TheVariants as aims
use Rattle.debug_points.specs.Points.{Points, goal_meets}
use Rattle.debug_moves.proofs.Staying.{stays_by, stays_then, still_on}
use Rattle.debug_moves.proofs.moves.go_to_last_write.Goals as goal

pub returns-then-backward : goal.returns-then-backward
returns-then-backward g c =
    let aim = aims.Write c.args.address c.args.count in
    record {
      found = λ start k w.
          sym c.if-backward.true ∙ c.backward.ensures.met start k w
          ∙ ap (λ (p : Points). is_some (last_met (goal_meets p.items aim) start 0 (machines_before k.state.parts))) c.new-none.ensures;
      back = λ _ start k w.
          subst (λ (p : Points). IsWalk start c.args.session.now.input.now (sought_back (goal_meets p.items aim) start 0 k) c.backward.new.machine c.backward.new.trail) c.new-none.ensures
          ((c.backward.ensures.does None None).walks start k w refl);
      stays = stays_by refl (c.backward.ensures.does None None);
    }

pub go-requires : goal.go-requires
go-requires g c = record { walks = still_on (stays_by refl (c.backward.ensures.does None None)) c.requires.walks }

pub returns : goal.returns
returns g c =
    let aim = aims.Write c.args.address c.args.count in
    record {
      found = λ start k w.
          sym c.if-backward.false ∙ c.backward.ensures.met start k w
          ∙ ap (λ (p : Points). is_some (last_met (goal_meets p.items aim) start 0 (machines_before k.state.parts))) c.new-none.ensures;
      back = λ (none : false ≡ true). cc;
      stays = stays_then (stays_by refl (c.backward.ensures.does None None)) c.in_ok-go.ensures.stays;
    }
