use Rattle.std.proofs.Common.{◌≡◌, ◌<◌, length, get_or, ap, ◌∙◌, sym, subst, arith}
use Rattle.std.proofs.lemmas.Bool.{false≢true}
use Rattle.std.proofs.lemmas.List.{length-map, get_or_default}
use Rattle.emu_model.specs.declared.access.Kind.TheVariants.{Read}
use Rattle.page_list.specs.declared.slots.Slot.{Slot}
use Rattle.page_list.specs.declared.hand.Lines.{Lines}
use Rattle.page_list.specs.Entries.{Entry, Listed, entry_at}
use Rattle.page_list.specs.Slots.{AreLines, entry_in, frame_of, no_slot}
use Rattle.page_list.proofs.Codes.{lines_set}
use Rattle.page_list.proofs.Held.{entry_is}
use Rattle.page_list.proofs.list.PageList.hold_read.Goals as goal

pub invariant_of-self : goal.invariant_of-self
invariant_of-self c =
    let a = c.self.inside in let i = c.self.invariant in let ss = a.slots.items in let x = c.index-slot.result.now in
    let l : c.args.i < length ss = omega (arith, c.requires.place, ap (λ (l : Listed). length l.pages) c.self.view_is, length-map ss (entry_in a.arena.live)) in
    let same : get_or ss c.args.i no_slot ≡ x = get_or_default ss c.args.i no_slot x l ∙ sym c.index-slot.ensures in
    let rights = sym (ap (λ (e : Entry). e.1.rights.r) (entry_is a.arena.live ss c.args.i x l c.index-slot.ensures)) ∙ ap (λ (l : Listed). (entry_at l.pages c.args.i).1.rights.r) c.self.view_is ∙ c.requires.allowed in
    record {
      counts = i.counts;
      own = i.own;
      spare = i.spare;
      room = i.room;
      most = i.most;
      narrow = i.narrow;
      hand = record {
        code = i.hand.code;
        reads = subst (λ (r : Lines). AreLines ss Read r) (sym c.set.ensures.line)
            (lines_set ss Read c.deref_mut.result.now x.number c.frame_number.result c.args.i c.set.ensures.pages c.set.ensures.frames c.set.ensures.bare c.set.ensures.places (record {
              within = l;
              number = ap (λ (s : Slot). s.number) same;
              allowed = ap (λ (s : Slot). s.rights.r) same ∙ rights;
              frame_is = ap (λ (s : Slot). frame_of s) same ∙ sym c.frame_number.ensures;
              own = λ w. absurd (false≢true w);
            }) (subst (λ (r : Lines). AreLines ss Read r) (sym c.deref_mut.ensures.value) i.hand.reads));
        writes = i.hand.writes;
      };
      marks = i.marks;
      object = i.object;
    }
