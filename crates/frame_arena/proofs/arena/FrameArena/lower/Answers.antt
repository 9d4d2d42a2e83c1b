use Rattle.std.proofs.Common.{◌≡◌, ◌+◌, ◌-◌, ℕ, length, set, arith, sym, ap, ◌∙◌, subst, length-set}
use Rattle.frame_arena.specs.Frames.{IsLive, count_of, lowered, with_count}
use Rattle.frame_arena.specs.declared.slot.Slot.{Slot}
use Rattle.frame_arena.specs.Slots.{others_in, page_in, with_others, seen, AreVacant, IsWhole, IsSeated}
use Rattle.frame_arena.proofs.Kept.{rest_at, seat_counted}
use Rattle.frame_arena.proofs.Table.{slot_in, slot_page, slot_counts, slot_counted, count_keeps, seated-set}
use Rattle.frame_arena.proofs.arena.FrameArena.lower.Goals as goal

pub index_mut-requires : goal.index_mut-requires
index_mut-requires c =
    let l = slot_in c.self.inside.total c.self.inside.slots.items c.self.inside.free.frames c.args.self.now c.self.view_is c.f.inside.number (subst (IsLive c.args.self.now) (sym c.f.view_is) c.requires.live) in
    omega (arith, l, c.self.inside.slots.ok.0)

pub lower-requires-clause-live : goal.lower-requires-clause-live
lower-requires-clause-live c = slot_page c.self.inside.total c.self.inside.slots.items c.self.inside.free.frames c.args.self.now c.self.view_is c.f.inside.number (subst (IsLive c.args.self.now) (sym c.f.view_is) c.requires.live) c.index_mut.result.now c.index_mut.ensures.value

pub lower-requires-clause-some : goal.lower-requires-clause-some
lower-requires-clause-some c =
    let a = c.self.inside in let ss = a.slots.items in let fs = a.free.frames in let q = c.f.inside.number in let x = c.index_mut.result.now in
    let live : IsLive c.args.self.now q = subst (IsLive c.args.self.now) (sym c.f.view_is) c.requires.live in
    let n : others_in x + 1 ≡ count_of c.args.self.now.live q = slot_counts a.total ss fs c.args.self.now c.self.view_is q live x c.index_mut.ensures.value in
    let e = ap (λ k. count_of c.args.self.now.live k) c.f.view_is in
    omega (arith, n, e, c.requires.others)

pub invariant_of-self : goal.invariant_of-self
invariant_of-self c =
    let a = c.self.inside in let ss = a.slots.items in let fs = a.free.frames in let q = c.f.inside.number in let x = c.index_mut.result.now in
    let live : IsLive c.args.self.now q = subst (IsLive c.args.self.now) (sym c.f.view_is) c.requires.live in
    let i = c.self.invariant in let p = a.lease.ptr in
    let l = slot_in a.total ss fs c.args.self.now c.self.view_is q live in
    let k = count_keeps a.total ss fs c.args.self.now c.self.view_is q live x c.index_mut.ensures.value (others_in x - 1) i.vacant i.whole in
    let s = c.lower.new.self in let same : s ≡ with_others x (others_in x - 1) = c.lower.ensures in let long = length-set ss q s in
    record {
      given = i.given;
      vacant = subst (λ (x : Slot). AreVacant (set ss q x) fs) (sym same) k.0;
      whole = subst (λ (x : Slot). IsWhole (set ss q x) fs) (sym same) k.1;
      most = omega (arith, long, i.most);
      narrow = i.narrow;
      room = i.room;
      seated = seated-set p ss q s l (subst (λ (x : Slot). IsSeated p q (page_in x)) (sym same) (seat_counted p ss q x l c.index_mut.ensures.value i.seated (others_in x - 1))) i.seated;
      spare_seated = i.spare_seated;
      rest = rest_at p (length ss) (a.total - length ss) (length (set ss q s)) (a.total - length (set ss q s)) a.rest long (ap (λ k. a.total - k) long) i.rest;
      start = i.start;
      leased = i.leased;
    }

pub returns : goal.returns
returns c =
    let a = c.self.inside in let ss = a.slots.items in let fs = a.free.frames in let q = c.f.inside.number in let x = c.index_mut.result.now in
    let live : IsLive c.args.self.now q = subst (IsLive c.args.self.now) (sym c.f.view_is) c.requires.live in
    let n : others_in x + 1 ≡ count_of c.args.self.now.live q = slot_counts a.total ss fs c.args.self.now c.self.view_is q live x c.index_mut.ensures.value in
    let e = ap (λ k. count_of c.args.self.now.live k) c.f.view_is in
    let one : others_in x - 1 + 1 ≡ count_of c.args.self.now.live q - 1 = omega (arith, n, e, c.requires.others) in
    ap (λ (x : Slot). seen a.total (set ss q x) fs) c.lower.ensures
    ∙ slot_counted a.total ss fs c.args.self.now c.self.view_is q live x c.index_mut.ensures.value (others_in x - 1)
    ∙ ap (λ (k : ℕ). record { live = with_count c.args.self.now.live q k; spare = c.args.self.now.spare; total = c.args.self.now.total }) one
    ∙ ap (λ k. lowered c.args.self.now k) c.f.view_is
