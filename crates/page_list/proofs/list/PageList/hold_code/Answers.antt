use Rattle.std.proofs.Common.{◌≡◌, ◌<◌, length, get_or, ap, ◌∙◌, sym, arith, ℕ, Option, Some, None, is_some, option_map}
use Rattle.std.proofs.lemmas.Bool.{false≢true}
use Rattle.std.proofs.lemmas.List.{length-map, get_or_default}
use Rattle.page_list.specs.declared.slots.Slot.{Slot}
use Rattle.page_list.specs.Entries.{Entry, Listed, entry_at}
use Rattle.page_list.specs.Slots.{entry_in, frame_of, no_slot}
use Rattle.page_list.specs.declared.code.CodePage.{CodePage}
use Rattle.page_list.proofs.Held.{entry_is}
use Rattle.page_list.proofs.list.PageList.hold_code.Goals as goal

found : (x : Slot) (o : Option ℕ) (code : CodePage) → option_map (λ (f : ℕ). record { number = x.number; frame = f }) o ≡ Some code → (x.number ≡ code.number) × (o ≡ Some code.frame)
found x None code e = absurd (false≢true (ap is_some e))
found x (Some f) code e = let same : record { number = x.number; frame = f } ≡ code = cc e in (ap (λ (c : CodePage). c.number) same, ap (λ (c : CodePage). Some c.frame) same)

pub invariant_of-self : goal.invariant_of-self
invariant_of-self c =
    let a = c.self.inside in let i = c.self.invariant in let ss = a.slots.items in let x = c.index.result.now in
    let l : c.args.i < length ss = omega (arith, c.requires.place, ap (λ (l : Listed). length l.pages) c.self.view_is, length-map ss (entry_in a.arena.live)) in
    let same : get_or ss c.args.i no_slot ≡ x = get_or_default ss c.args.i no_slot x l ∙ sym c.index.ensures in
    let rights = sym (ap (λ (e : Entry). e.1.rights.x) (entry_is a.arena.live ss c.args.i x l c.index.ensures)) ∙ ap (λ (l : Listed). (entry_at l.pages c.args.i).1.rights.x) c.self.view_is ∙ c.requires.allowed in
    let e : option_map (λ (f : ℕ). record { number = x.number; frame = f }) (frame_of x) ≡ Some c.in-Some.code = sym c.code_of.ensures ∙ c.in-Some.is in
    let k = found x (frame_of x) c.in-Some.code e in
    record {
      counts = i.counts;
      own = i.own;
      spare = i.spare;
      room = i.room;
      most = i.most;
      narrow = i.narrow;
      hand = record {
        code = λ _. (
          c.args.i,
          record {
            within = l;
            number = ap (λ (s : Slot). s.number) same ∙ k.0;
            allowed = ap (λ (s : Slot). s.rights.x) same ∙ rights;
            frame_is = ap (λ (s : Slot). frame_of s) same ∙ k.1;
            own = λ w. absurd (false≢true w);
          },
        );
        reads = i.hand.reads;
        writes = i.hand.writes;
      };
      marks = i.marks;
      object = i.object;
    }
