use Rattle.std.proofs.Common.{◌≡◌, ◌+◌, ◌==◌, ℕ, arith, sym, ap, ◌∙◌, subst}
use Rattle.std.proofs.lemmas.Bool.{eqb-true, eqb-false, eq-eqb, ne_eqb}
use Rattle.frame_arena.specs.Frames.{IsLive, count_of}
use Rattle.frame_arena.specs.Slots.{others_in}
use Rattle.frame_arena.proofs.Callers.{by_bool}
use Rattle.frame_arena.proofs.Table.{slot_in, slot_counts}
use Rattle.frame_arena.proofs.arena.FrameArena.sole.Goals as goal

-- none more, or one in all
none_more : (m n : ℕ) → m + 1 ≡ n → (m == 0) ≡ (n == 1)
none_more m n e =
    by_bool (m == 0)
    (λ t. let z = eqb-true m 0 t in t ∙ sym (eq-eqb n 1 (omega (arith, z, e))))
    (λ t. t ∙ sym (ne_eqb n 1 (λ k. eqb-false m 0 t (omega (arith, k, e)))))

pub index-requires : goal.index-requires
index-requires c =
    let l = slot_in c.self.inside.total c.self.inside.slots.items c.self.inside.free.frames c.args.self.now c.self.view_is c.f.inside.number (subst (IsLive c.args.self.now) (sym c.f.view_is) c.requires) in
    omega (arith, l, c.self.inside.slots.ok.0)

pub returns-clause-named : goal.returns-clause-named
returns-clause-named c =
    let a = c.self.inside in let q = c.f.inside.number in let x = c.index.result.now in
    let n = slot_counts a.total a.slots.items a.free.frames c.args.self.now c.self.view_is q (subst (IsLive c.args.self.now) (sym c.f.view_is) c.requires) x c.index.ensures in
    let e = ap (λ k. count_of c.args.self.now.live k) c.f.view_is in
    omega (arith, n, e)

pub returns-clause-sole : goal.returns-clause-sole
returns-clause-sole c =
    let a = c.self.inside in let q = c.f.inside.number in let x = c.index.result.now in
    c.is_sole.ensures
    ∙ none_more (others_in x) (count_of c.args.self.now.live c.args.f.now)
    (slot_counts a.total a.slots.items a.free.frames c.args.self.now c.self.view_is q (subst (IsLive c.args.self.now) (sym c.f.view_is) c.requires) x c.index.ensures ∙ ap (λ k. count_of c.args.self.now.live k) c.f.view_is)
