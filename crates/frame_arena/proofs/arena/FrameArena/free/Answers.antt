use Rattle.std.proofs.Common.{◌≡◌, ◌+◌, ◌-◌, List, ◌∷◌, length, arith, sym, ap, ◌∙◌, subst, length-set, set, is_some, None}
use Rattle.std.proofs.lemmas.Bool.{false≢true}
use Rattle.frame_arena.specs.Frames.{IsLive, freed}
use Rattle.frame_arena.specs.Links.{Place}
use Rattle.frame_arena.specs.declared.slot.Slot.{Slot}
use Rattle.frame_arena.specs.Slots.{page_in, slot_block, AreVacant, IsWhole, IsSeated, AreSpareSeated, seen}
use Rattle.frame_arena.proofs.Kept.{seat_of, seat_as, rest_at}
use Rattle.frame_arena.proofs.Table.{slot_in, slot_page, slot_given, some_live, gives, seated-set}
use Rattle.frame_arena.proofs.arena.FrameArena.free.Goals as goal

pub index_mut-requires : goal.index_mut-requires
index_mut-requires c =
    let l = slot_in c.self.inside.total c.self.inside.slots.items c.self.inside.free.frames c.args.self.now c.self.view_is c.f.inside.number (subst (IsLive c.args.self.now) (sym c.f.view_is) c.requires) in
    omega (arith, l, c.self.inside.slots.ok.0)

pub overflow_add-self : goal.overflow_add-self
overflow_add-self c =
    let l = some_live c.self.inside.total c.self.inside.slots.items c.self.inside.free.frames c.args.self.now c.self.view_is c.f.inside.number (subst (IsLive c.args.self.now) (sym c.f.view_is) c.requires) in
    let i = c.self.invariant in
    omega (arith, l, i.given, i.whole, i.most, i.narrow)

pub unreachable-requires : goal.unreachable-requires
unreachable-requires c =
    let p = slot_page c.self.inside.total c.self.inside.slots.items c.self.inside.free.frames c.args.self.now c.self.view_is c.f.inside.number (subst (IsLive c.args.self.now) (sym c.f.view_is) c.requires) c.index_mut.result.now c.index_mut.ensures.value in
    false≢true (sym (ap (λ s. is_some (page_in s)) c.in-Spare.is) ∙ ap (λ s. is_some (page_in s)) c.replace.ensures.value ∙ p)

pub invariant_of-self : goal.invariant_of-self
invariant_of-self c =
    let a = c.self.inside in let i = c.self.invariant in let ss = a.slots.items in let fs = a.free.frames in let p = a.lease.ptr in
    let n = c.f.inside.number in let s = c.replace.new.dest in let b = c.into_spare.result.block in let o = c.into_spare.result.place in
    let l = slot_in a.total ss fs c.args.self.now c.self.view_is n (subst (IsLive c.args.self.now) (sym c.f.view_is) c.requires) in
    let listed : c.push-self-inside.result.frames ≡ (b, o, n) ∷ fs = c.push-self-inside.ensures ∙ ap (λ l. (b, o, n) ∷ l.frames) c.replace-free.ensures.value in
    let none : slot_block s ≡ None = ap slot_block c.replace.ensures.after in
    let k = slot_given a.total ss fs c.args.self.now c.self.view_is n (subst (IsLive c.args.self.now) (sym c.f.view_is) c.requires) s b o none i.vacant i.whole in
    let long = length-set ss n s in
    let seat = seat_of p ss n c.index_mut.result.now c.in-Used.page l c.index_mut.ensures.value (ap page_in (sym c.replace.ensures.value ∙ c.in-Used.is)) i.seated in
    record {
      given = ap (λ k. k + 1) i.given ∙ let e = ap length listed in omega (arith, e);
      vacant = subst (AreVacant (set ss n s)) (sym listed) k.0;
      whole = subst (IsWhole (set ss n s)) (sym listed) k.1;
      most = omega (arith, long, i.most);
      narrow = i.narrow;
      room = i.room;
      seated = seated-set p ss n s l (subst (λ (x : Slot). IsSeated p n (page_in x)) (sym c.replace.ensures.after) tt) i.seated;
      spare_seated = subst (AreSpareSeated p) (sym listed) (seat_as p n _ _ b o c.into_spare.ensures.0 c.into_spare.ensures.1 seat, i.spare_seated);
      rest = rest_at p (length ss) (a.total - length ss) (length (set ss n s)) (a.total - length (set ss n s)) a.rest long (ap (λ k. a.total - k) long) i.rest;
      start = i.start;
      leased = i.leased;
    }

pub returns : goal.returns
returns c =
    let a = c.self.inside in let ss = a.slots.items in let n = c.f.inside.number in let s = c.replace.new.dest in let b = c.into_spare.result.block in let o = c.into_spare.result.place in
    let listed : c.push-self-inside.result.frames ≡ (b, o, n) ∷ a.free.frames = c.push-self-inside.ensures ∙ ap (λ l. (b, o, n) ∷ l.frames) c.replace-free.ensures.value in
    let none : slot_block s ≡ None = ap slot_block c.replace.ensures.after in
    let l = slot_in a.total ss a.free.frames c.args.self.now c.self.view_is n (subst (IsLive c.args.self.now) (sym c.f.view_is) c.requires) in
    ap (λ (fs : List Place). seen a.total (set ss n s) fs) listed
    ∙ gives a.total ss a.free.frames c.args.self.now c.self.view_is n s b o l none
    ∙ ap (λ k. freed c.args.self.now k) c.f.view_is
