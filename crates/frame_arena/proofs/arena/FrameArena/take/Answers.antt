use Rattle.std.proofs.Common.{◌≡◌, ℕ, ◌+◌, ◌-◌, ◌<◌, List, [], ◌∷◌, ◌++◌, length, set, arith, refl, sym, ap, ◌∙◌, subst, length-set, Some}
use Rattle.std.proofs.lemmas.List.{length_push}
use Rattle.frame_arena.specs.Links.{Place}
use Rattle.frame_arena.specs.Frames.{Takes, zeroed}
use Rattle.frame_arena.specs.declared.slot.Slot.{Slot}
use Rattle.frame_arena.specs.declared.slot.Slot.TheVariants.{Used}
use Rattle.frame_arena.specs.Slots.{AreVacant, IsWhole, AreSeated, AreSpareSeated, IsRest, seen}
use Rattle.frame_arena.proofs.Kept.{seat_as, rest_at, cut_seat, cut_rest}
use Rattle.frame_arena.proofs.Table.{vacant-set, vacant-pushed, whole-taken, whole-pushed, seated-set, seated-pushed, takes, takes_next}
use Rattle.frame_arena.proofs.arena.FrameArena.take.Goals as goal

-- a frame that was given back
pub invariant_of-self : goal.invariant_of-self
invariant_of-self c =
    let a = c.self.inside in let i = c.self.invariant in let ss = a.slots.items in let p = a.lease.ptr in
    let r = c.pop-number.result in let f : Place = (r.1.0.block, r.1.0.place, r.0) in let rest = r.1.1.frames in
    let s : Slot = Used 0 c.zeroed_page.result in
    let listed : f ∷ rest ≡ a.free.frames = c.pop-number.ensures ∙ ap (λ l. l.frames) c.replace-free.ensures.value in
    let v : AreVacant ss (f ∷ rest) = subst (AreVacant ss) (sym listed) i.vacant in
    let w : IsWhole ss (f ∷ rest) = subst (IsWhole ss) (sym listed) i.whole in
    let k : AreSpareSeated p (f ∷ rest) = subst (AreSpareSeated p) (sym listed) i.spare_seated in
    let count : length rest + 1 ≡ length a.free.frames = let e = ap length listed in omega (arith, e) in
    let long = length-set ss f.2 s in
    record {
      given = omega (arith, count, i.given);
      vacant = vacant-set ss rest f.2 s v.0 v.2 v.3;
      whole = whole-taken ss f rest s (record { bytes = c.zeroed_page.result.bytes; count = 1 }) v refl w;
      most = omega (arith, long, i.most);
      narrow = i.narrow;
      room = i.room;
      seated = seated-set p ss f.2 s v.0 (seat_as p f.2 _ _ c.zeroed_page.result.block c.zeroed_page.result.place c.zeroed_page.ensures.0 c.zeroed_page.ensures.1 k.0) i.seated;
      spare_seated = k.1;
      rest = rest_at p (length ss) (a.total - length ss) (length (set ss f.2 s)) (a.total - length (set ss f.2 s)) a.rest long (ap (λ k. a.total - k) long) i.rest;
      start = i.start;
      leased = i.leased;
    }

pub returns-then-self-gt0 : goal.returns-then-self-gt0
returns-then-self-gt0 c =
    let a = c.self.inside in let ss = a.slots.items in
    let r = c.pop-number.result in let f : Place = (r.1.0.block, r.1.0.place, r.0) in let rest = r.1.1.frames in
    let s : Slot = Used 0 c.zeroed_page.result in
    let listed : f ∷ rest ≡ a.free.frames = c.pop-number.ensures ∙ ap (λ l. l.frames) c.replace-free.ensures.value in
    let v : AreVacant ss (f ∷ rest) = subst (AreVacant ss) (sym listed) c.self.invariant.vacant in
    takes a.total ss f rest c.args.self.now (ap (seen a.total ss) listed ∙ c.self.view_is) s zeroed v (ap (λ (z : List ℕ). Some (record { bytes = z; count = 1 })) c.zeroed_page.ensures.2)

-- a frame that is cut off
pub invariant_of-self-2 : goal.invariant_of-self-2
invariant_of-self-2 c =
    let a = c.self.inside in let i = c.self.invariant in let ss = a.slots.items in let p = a.lease.ptr in let n = length ss in
    let s : Slot = Used 0 c.zeroed_page-2.result in let region = c.in-Some.region in let cut = c.cut-frame.ensures in
    let b = c.cut-frame.result.0.block in let o = c.cut-frame.result.0.place in
    let more : c.push_reserved.new.self.items ≡ ss ++ s ∷ [] = c.push_reserved.ensures.items in
    let l : n < a.total = omega (arith, c.if-number-self.false, c.len-number.ensures, a.slots.ok.0, i.most) in
    let here : IsRest p n (a.total - n) (Some region) = subst (IsRest p n (a.total - n)) (sym c.in-Some.ensures.value) i.rest in
    let left : length c.push_reserved.new.self.items ≡ n + 1 = ap length more ∙ length_push ss s in
    let z = here.1 in
    record {
      given = i.given;
      vacant = subst (λ (x : List Slot). AreVacant x a.free.frames) (sym more) (vacant-pushed ss a.free.frames s i.vacant);
      whole = subst (λ (x : List Slot). IsWhole x a.free.frames) (sym more) (whole-pushed ss a.free.frames s (record { bytes = c.zeroed_page-2.result.bytes; count = 1 }) refl i.whole);
      most = omega (arith, left, l);
      narrow = i.narrow;
      room = omega (arith, i.room, c.push_reserved.ensures.capacity);
      seated = subst (AreSeated p) (sym more) (seated-pushed p ss s (seat_as p n b o c.zeroed_page-2.result.block c.zeroed_page-2.result.place c.zeroed_page-2.ensures.0 c.zeroed_page-2.ensures.1 (cut_seat p n b o region.ptr here.0 cut.first)) i.seated);
      spare_seated = i.spare_seated;
      rest = rest_at p (n + 1) (a.total - (n + 1)) (length c.push_reserved.new.self.items) (a.total - length c.push_reserved.new.self.items) (Some c.cut-frame.result.1) left (ap (λ k. a.total - k) left)
          (cut_rest p n b o region.ptr here.0 cut.first c.cut-frame.result.1.ptr cut.rest, omega (arith, z, cut.size, l));
      start = i.start;
      leased = i.leased;
    }

pub returns : goal.returns
returns c =
    let a = c.self.inside in let ss = a.slots.items in let s : Slot = Used 0 c.zeroed_page-2.result in
    let l : length ss < a.total = omega (arith, c.if-number-self.false, c.len-number.ensures, a.slots.ok.0, c.self.invariant.most) in
    let number : c.len-number.result ≡ length ss = c.len-number.ensures ∙ c.self.inside.slots.ok.0 in
    subst (λ (x : List Slot). Takes c.args.self.now c.len-number.result zeroed (seen a.total x a.free.frames)) (sym c.push_reserved.ensures.items)
    (subst (λ (k : ℕ). Takes c.args.self.now k zeroed (seen a.total (ss ++ s ∷ []) a.free.frames)) (sym number)
    (takes_next a.total ss a.free.frames c.args.self.now c.self.view_is s zeroed l (ap (λ (z : List ℕ). Some (record { bytes = z; count = 1 })) c.zeroed_page-2.ensures.2)))
