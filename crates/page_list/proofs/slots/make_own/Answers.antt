use Rattle.std.proofs.Common.{List, length, refl, ap, ◌∙◌, sym, subst, arith}
use Rattle.std.proofs.Math.Seq.{map-set_same}
use Rattle.std.proofs.lemmas.List.{get_or-set_same, get_or_default, length-set}
use Rattle.page_list.specs.declared.slots.Slot.{Slot}
use Rattle.page_list.specs.Slots.{AreAtHand, AreOwn, Changes, entries_in, entry_in, frame_of, is_own, no_slot, owned_slot, slot_at, sole_in}
use Rattle.page_list.proofs.Codes.{hand_kept}
use Rattle.page_list.proofs.Held.{holders-set, own-set, owned_entry, owned_frame, owned_own, owned_right, slot_there, sole-set}
use Rattle.page_list.proofs.slots.make_own.Goals as goal

pub replace_frame-requires-clause-shared : goal.replace_frame-requires-clause-shared
replace_frame-requires-clause-shared c = sym c.has_sole.ensures ∙ c.if-has_sole.false

pub returns-then-has_sole-clause-entries : goal.returns-then-has_sole-clause-entries
returns-then-has_sole-clause-entries c =
    let live = c.args.arena.now.live in let ss = c.args.slots.now.items in let i = c.args.i in let x = slot_at ss i in
    ap (entries_in live) c.own_again.ensures.slots ∙ map-set_same (entry_in live) ss i (owned_slot x) x (owned_entry live x ∙ ap (entry_in live) (slot_there ss i c.requires.place))

pub returns-then-has_sole-clause-here : goal.returns-then-has_sole-clause-here
returns-then-has_sole-clause-here c =
    let live = c.args.arena.now.live in let ss = c.args.slots.now.items in let i = c.args.i in let x = slot_at ss i in
    ap (λ (l : List Slot). is_own (slot_at l i)) c.own_again.ensures.slots ∙ ap (λ (s : Slot). is_own s) (get_or-set_same ss i (owned_slot x) no_slot c.requires.place) ∙ owned_own live x (sym c.has_sole.ensures ∙ c.if-has_sole.true)

pub returns-then-has_sole-clause-at_hand : goal.returns-then-has_sole-clause-at_hand
returns-then-has_sole-clause-at_hand c = λ is.
    let ss = c.args.slots.now.items in let i = c.args.i in let x = slot_at ss i in
    subst (λ (l : List Slot). AreAtHand l c.args.hand.now) (sym c.own_again.ensures.slots) (hand_kept ss i c.requires.place (owned_slot x) refl refl (owned_frame x) (owned_own c.args.arena.now.live x (sym c.has_sole.ensures ∙ c.if-has_sole.true)) c.args.hand.now is)

pub returns-then-has_sole-clause-changes : goal.returns-then-has_sole-clause-changes
returns-then-has_sole-clause-changes c =
    let a = c.args.arena.now in let ss = c.args.slots.now.items in let i = c.args.i in let x = slot_at ss i in
    let frame = owned_frame x ∙ ap (λ (s : Slot). frame_of s) (get_or_default ss i no_slot (owned_slot x) c.requires.place) in
    subst (λ (l : List Slot). Changes a a ss l) (sym c.own_again.ensures.slots)
    (record { counts = λ f. let e = holders-set ss i (owned_slot x) c.requires.place frame f in omega (arith, e); bytes = λ f _ _. refl; total = refl })

pub returns-then-has_sole-clause-own : goal.returns-then-has_sole-clause-own
returns-then-has_sole-clause-own c =
    let live = c.args.arena.now.live in let ss = c.args.slots.now.items in let i = c.args.i in let x = slot_at ss i in
    let frame = owned_frame x ∙ ap (λ (s : Slot). frame_of s) (get_or_default ss i no_slot (owned_slot x) c.requires.place) in
    subst (λ (l : List Slot). AreOwn live l) (sym c.own_again.ensures.slots)
    (own-set ss i (owned_slot x) c.requires.place frame live (owned_right live x (sym c.has_sole.ensures ∙ c.if-has_sole.true)) c.requires.own)

pub returns-then-has_sole-clause-room : goal.returns-then-has_sole-clause-room
returns-then-has_sole-clause-room c =
    let live = c.args.arena.now.live in let ss = c.args.slots.now.items in let i = c.args.i in let x = slot_at ss i in
    let frame = owned_frame x ∙ ap (λ (s : Slot). frame_of s) (get_or_default ss i no_slot (owned_slot x) c.requires.place) in
    let e = ap (sole_in live) c.own_again.ensures.slots ∙ sole-set ss i (owned_slot x) c.requires.place frame live in omega (arith, e)

pub returns-then-has_sole-clause-length : goal.returns-then-has_sole-clause-length
returns-then-has_sole-clause-length c = ap length c.own_again.ensures.slots ∙ length-set c.args.slots.now.items c.args.i (owned_slot (slot_at c.args.slots.now.items c.args.i))
