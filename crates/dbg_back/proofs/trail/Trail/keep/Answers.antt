use Rattle.std.proofs.Common.{◌≡◌, ℕ, true, set, is_none, refl, ap, ◌∙◌, arith}
use Rattle.emu_model.specs.State.{Parts}
use Rattle.dbg_core.proofs.Obeying.{going_by}
use Rattle.dbg_back.specs.declared.trail.Trail.{Trail}
use Rattle.dbg_back.proofs.Marking.{walk_dropped, walk_marked}
use Rattle.dbg_back.proofs.trail.Trail.keep.Goals as goal

pub mark-requires : goal.mark-requires
mark-requires c =
    let count = c.free_mark-k.ensures.count in
    let saved = c.free_mark-k.ensures.saved in
    let places = c.requires.places in
    let index = c.free_mark-k.ensures.index in
    record {
      going = rw (ap (λ (p : Parts). p.ended) c.free_mark-k.ensures.parts, c.free_mark-k.ensures.failed) c.requires.going;
      index = omega (arith, count, index);
      place = rw saved (omega (arith, places, index));
      none = c.free_mark-k.ensures.none;
      room = c.free_mark-k.ensures.room;
    }

pub returns : goal.returns
returns c = record {
  walks = λ start input course w.
      let old = c.args.machine.now in
      let m = c.free_mark-k.new.machine in
      let goes : is_none m.parts.ended ≡ true = ap (λ (p : Parts). is_none p.ended) c.free_mark-k.ensures.parts ∙ going_by old c.requires.going in
      let t = c.args.self.now in
      let k = c.free_mark-k.result in
      let v : Trail = record { place = t.place; top = t.top; due = c.saturating_add-self.result; steps = set t.steps k c.steps-2.result; places = set t.places k t.place } in
      walk_marked start input course m c.mark.new.self t v k c.free_mark-k.ensures.first c.free_mark-k.ensures.index goes
      c.mark.ensures.parts c.mark.ensures.marks c.mark.ensures.saved c.mark.ensures.failed refl refl (ap (λ (n : ℕ). set t.steps k n) (c.steps-2.ensures ∙ ap (λ (p : Parts). p.steps) c.mark.ensures.parts)) refl
      (walk_dropped start input course old m c.args.self.now c.free_mark-k.ensures.parts c.free_mark-k.ensures.count c.free_mark-k.ensures.start c.free_mark-k.ensures.kept c.free_mark-k.ensures.saved c.free_mark-k.ensures.failed w);
  steps = ap (λ (p : Parts). p.steps) c.mark.ensures.parts ∙ ap (λ (p : Parts). p.steps) c.free_mark-k.ensures.parts;
  going = rw (ap (λ (p : Parts). p.ended) (c.mark.ensures.parts), c.mark.ensures.failed, ap (λ (p : Parts). p.ended) c.free_mark-k.ensures.parts, c.free_mark-k.ensures.failed) c.requires.going;
  due =
      let sum = c.saturating_add-self.ensures in
      let now = c.steps-3.ensures in
      let marked = ap (λ (p : Parts). p.steps) c.mark.ensures.parts in
      let freed = ap (λ (p : Parts). p.steps) c.free_mark-k.ensures.parts in
      let room = c.requires.room in
      omega (arith, sum, now, marked, freed, room);
}
