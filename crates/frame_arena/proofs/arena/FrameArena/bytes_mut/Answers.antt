use Rattle.std.proofs.Common.{◌≡◌, ◌-◌, length, set, arith, refl, sym, ap, ◌∙◌, subst, length-set}
use Rattle.frame_arena.proofs.Callers.{sole_live}
use Rattle.frame_arena.specs.Frames.{Frames, IsLive, IsSole, bytes_of, with_bytes}
use Rattle.frame_arena.specs.Lending.{with_slot}
use Rattle.frame_arena.proofs.Kept.{rest_at, seat_with}
use Rattle.frame_arena.proofs.Table.{slot_in, slot_page, slot_read, slot_written, slot_keeps, seated-set}
use Rattle.frame_arena.proofs.arena.FrameArena.bytes_mut.Goals as goal

pub index_mut-requires : goal.index_mut-requires
index_mut-requires c =
    let l = slot_in c.self.inside.total c.self.inside.slots.items c.self.inside.free.frames c.args.self.now c.self.view_is c.f.inside.number (subst (IsLive c.args.self.now) (sym c.f.view_is) (sole_live c.args.self.now.live c.args.f.now c.requires)) in
    omega (arith, l, c.self.inside.slots.ok.0)

pub bytes_mut-bytes-requires : goal.bytes_mut-bytes-requires
bytes_mut-bytes-requires c = slot_page c.self.inside.total c.self.inside.slots.items c.self.inside.free.frames c.args.self.now c.self.view_is c.f.inside.number (subst (IsLive c.args.self.now) (sym c.f.view_is) (sole_live c.args.self.now.live c.args.f.now c.requires)) c.index_mut.result.now c.index_mut.ensures.value

pub invariant_of-self-lent : goal.invariant_of-self-lent
invariant_of-self-lent c = λ w.
    let a = c.self.inside in let i = c.self.invariant in let ss = a.slots.items in let p = a.lease.ptr in let q = c.f.inside.number in let x = c.index_mut.result.now in
    let l = slot_in a.total ss a.free.frames c.args.self.now c.self.view_is q (subst (IsLive c.args.self.now) (sym c.f.view_is) (sole_live c.args.self.now.live c.args.f.now c.requires)) in
    let k = slot_keeps a.total ss a.free.frames c.args.self.now c.self.view_is q (subst (IsLive c.args.self.now) (sym c.f.view_is) (sole_live c.args.self.now.live c.args.f.now c.requires)) x c.index_mut.ensures.value w i.vacant i.whole in
    let s = with_slot x w in let long = length-set ss q s in
    record {
      given = i.given;
      vacant = k.0;
      whole = k.1;
      most = omega (arith, long, i.most);
      narrow = i.narrow;
      room = i.room;
      seated = seated-set p ss q s l (seat_with p ss q x l c.index_mut.ensures.value i.seated w) i.seated;
      spare_seated = i.spare_seated;
      rest = rest_at p (length ss) (a.total - length ss) (length (set ss q s)) (a.total - length (set ss q s)) a.rest long (ap (λ k. a.total - k) long) i.rest;
      start = i.start;
      leased = i.leased;
    }

pub returns : goal.returns
returns c =
    let a = c.self.inside in let q = c.f.inside.number in let x = c.index_mut.result.now in let bytes = c.bytes_mut-bytes.result.now in
    let sole : IsSole c.args.self.now q = subst (IsSole c.args.self.now) (sym c.f.view_is) c.requires in
    let live = sole_live c.args.self.now.live q sole in
    let read = subst (λ k. bytes ≡ bytes_of c.args.self.now.live k) c.f.view_is (slot_read a.total a.slots.items a.free.frames c.args.self.now c.self.view_is q live x c.index_mut.ensures.value bytes c.bytes_mut-bytes.ensures.bytes) in
    let same : c.as_mut_slice.result.now ≡ bytes = c.as_mut_slice.ensures.value in (
      (refl, λ w. slot_written a.total a.slots.items a.free.frames c.args.self.now c.self.view_is q live x c.index_mut.ensures.value sole w ∙ ap (λ k. with_bytes c.args.self.now k w) c.f.view_is),
      record {
        writes_back = tt;
        bytes = same ∙ read;
        length = ap length same ∙ ap length read ∙ sym (ap (λ (f : Frames). length (bytes_of f.live c.args.f.now)) c.self.view_is) ∙ sym (ap length c.bytes-bytes.ensures.bytes) ∙ c.bytes-bytes.ensures.length;
      },
    )
