use Rattle.std.proofs.Common.{◌≡◌, ℕ, ◌-◌, List, [], length, set, take, drop, Option, Some, None, true, is_some, unwrap_or, arith, refl, ap, ◌∙◌, length-set}
use Rattle.std.proofs.lemmas.Bool.{false≢true}
use Rattle.frame_arena.specs.LendingPages.{with_part}
use Rattle.frame_arena.specs.Frames.{IsSole, bytes_of, with_bytes}
use Rattle.frame_arena.specs.Lending.{with_slot}
use Rattle.frame_arena.proofs.Callers.{sole_live}
use Rattle.frame_arena.specs.Slots.{page_in, slot_bytes}
use Rattle.frame_arena.specs.declared.slot.Slot.{Slot}
use Rattle.frame_arena.specs.declared.slot.Slot.TheVariants.{Spare, Used}
use Rattle.frame_arena.proofs.Kept.{rest_at, seat_with}
use Rattle.frame_arena.proofs.Table.{slot_in, slot_page, slot_read, slot_written, slot_keeps, seated-set}
use Rattle.frame_arena.proofs.arena.FrameArena.part_at_mut.Goals as goal

some_is : (o : Option (List ℕ)) → is_some o ≡ true → o ≡ Some (unwrap_or o [])
some_is None e = absurd (false≢true e)
some_is (Some z) e = refl

page_bytes : (s : Slot) → is_some (page_in s) ≡ true → is_some (slot_bytes s) ≡ true
page_bytes Spare e = e
page_bytes (Used k p) e = refl

pub index_mut-requires : goal.index_mut-requires
index_mut-requires c =
    let l = slot_in c.self.inside.total c.self.inside.slots.items c.self.inside.free.frames c.args.self.now c.self.view_is c.args.number (sole_live c.args.self.now.live c.args.number c.requires.sole) in
    omega (arith, l, c.self.inside.slots.ok.0)

pub part_mut-requires-clause-live : goal.part_mut-requires-clause-live
part_mut-requires-clause-live c = slot_page c.self.inside.total c.self.inside.slots.items c.self.inside.free.frames c.args.self.now c.self.view_is c.args.number (sole_live c.args.self.now.live c.args.number c.requires.sole) c.index_mut.result.now c.index_mut.ensures.value

pub invariant_of-self-lent : goal.invariant_of-self-lent
invariant_of-self-lent c = λ v.
    let a = c.self.inside in let i = c.self.invariant in let ss = a.slots.items in let p = a.lease.ptr in let q = c.args.number in let x = c.index_mut.result.now in
    let w : List ℕ = with_part (unwrap_or (slot_bytes x) []) c.args.at v in
    let live = sole_live c.args.self.now.live c.args.number c.requires.sole in
    let l = slot_in a.total ss a.free.frames c.args.self.now c.self.view_is q live in
    let k = slot_keeps a.total ss a.free.frames c.args.self.now c.self.view_is q live x c.index_mut.ensures.value w i.vacant i.whole in
    let s = with_slot x w in let long = length-set ss q s in
    record {
      given = i.given;
      vacant = k.0;
      whole = k.1;
      most = omega (arith, long, i.most);
      narrow = i.narrow;
      room = i.room;
      seated = seated-set p ss q s l (seat_with p ss q x l c.index_mut.ensures.value i.seated w) i.seated;
      spare_seated = i.spare_seated;
      rest = rest_at p (length ss) (a.total - length ss) (length (set ss q s)) (a.total - length (set ss q s)) a.rest long (ap (λ k. a.total - k) long) i.rest;
      start = i.start;
      leased = i.leased;
    }

pub returns : goal.returns
returns c =
    let a = c.self.inside in let q = c.args.number in let x = c.index_mut.result.now in let at = c.args.at in let count = c.args.count in
    let sole : IsSole c.args.self.now q = c.requires.sole in
    let live = sole_live c.args.self.now.live q sole in
    let here : slot_bytes x ≡ Some (unwrap_or (slot_bytes x) []) = some_is (slot_bytes x) (page_bytes x (slot_page a.total a.slots.items a.free.frames c.args.self.now c.self.view_is q live x c.index_mut.ensures.value)) in
    let same : unwrap_or (slot_bytes x) [] ≡ bytes_of c.args.self.now.live q =
    slot_read a.total a.slots.items a.free.frames c.args.self.now c.self.view_is q live x c.index_mut.ensures.value (unwrap_or (slot_bytes x) []) here in (
      (
        refl,
        λ v.
            slot_written a.total a.slots.items a.free.frames c.args.self.now c.self.view_is q live x c.index_mut.ensures.value sole (with_part (unwrap_or (slot_bytes x) []) at v)
            ∙ ap (λ (z : List ℕ). with_bytes c.args.self.now q (with_part z at v)) same,
      ),
      record {
        writes_back = tt;
        bytes = c.part_mut.ensures.bytes ∙ ap (λ (z : List ℕ). take count (drop at z)) same;
        length = c.part_mut.ensures.length;
      },
    )
