use Rattle.std.proofs.Common.{◌∷◌, [], List, ap, subst, ◌∙◌, sym, length, take}
use Rattle.frame_arena.specs.Frames.{Frames}
use Rattle.page_list.specs.declared.slots.Slot.{Slot}
use Rattle.page_list.specs.Slots.{AreBeside, AreHeld, Changes, HasRoom, given_if, frame_of}
use Rattle.page_list.proofs.Held.{last_live, changes-popped, room-popped}
use Rattle.page_list.proofs.Lists.{front_of}
use Rattle.page_list.proofs.slots.pop_given.Goals as goal

pub give_if-requires : goal.give_if-requires
give_if-requires c =
    let a = c.args.arena.now in
    last_live a c.pop.new.self.items c.in-Some.slot (subst (AreHeld a.live) c.in-Some.ensures.items c.requires.held)

pub returns-clause-slots : goal.returns-clause-slots
returns-clause-slots c =
    let ss = c.pop.new.self.items in
    sym (front_of ss (c.in-Some.slot ∷ [])) ∙ ap (λ (l : List Slot). take (length ss) l) (sym c.in-Some.ensures.items)

pub returns-clause-changes : goal.returns-clause-changes
returns-clause-changes c =
    let a = c.args.arena.now in let ss = c.pop.new.self.items in let s = c.in-Some.slot in let items = c.in-Some.ensures.items in
    subst (λ (b : Frames). Changes a b c.args.slots.now.items ss) (sym c.give_if.ensures)
    (subst (λ (l : List Slot). Changes a (given_if a (frame_of s)) l ss) (sym items) (changes-popped a ss s (subst (AreHeld a.live) items c.requires.held)))

pub returns-clause-room : goal.returns-clause-room
returns-clause-room c = λ others beside.
    let a = c.args.arena.now in let ss = c.pop.new.self.items in let s = c.in-Some.slot in let items = c.in-Some.ensures.items in
    subst (λ (b : Frames). HasRoom a b c.args.slots.now.items ss others) (sym c.give_if.ensures)
    (subst (λ (l : List Slot). HasRoom a (given_if a (frame_of s)) l ss others) (sym items)
    (room-popped a ss s (subst (AreHeld a.live) items c.requires.held) others (subst (λ (l : List Slot). AreBeside a.live l others) items beside)))
