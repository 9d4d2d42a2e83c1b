-- `bytes_mut` lends the bytes behind the pointer, and the page follows them. Assumes `Logic`.
use Rattle.std.proofs.Common.{◌≡◌, ℕ, List, [], ◌∷◌, refl, sym, ap, ◌∙◌, MutBor}
use mir.Syntax.{named}
use mir.Val.{Val, vptr}
use base.Fraction.{full_share}
use base.Logic.{ent, sep, id⊢}
use base.Fml.{GName, Fml, ftrue, fsep, flft}
use contract.Running.{tables}
use types.Logic.{sem}
use types.Kit.{‵, raw, ◌⊛◌, some, later, at_ret, ◌$◌, ◌∵◌, !, qed, move, keep, use1, split, join, pick, fsplit, fsplit3, fjoin, fpack, await, rewrite, group, suffices, frame, done}
use types.Part.{whole, sub, look_in}
use types.Run.{stop, fld, hop, of_opd, addr, first, blocks, exec, returns, enter}
use types.ByLocal.{alloc_all, pass_all, free_all, look_at, get, through, sets, sets_last, env}
use denote.Exit.{no}
use denote.Follow.{follows, Part, lends_Part}
use denote.Laws.{shows}
use denote.Memory.{cell_at, part_at, part_of, mem}
use denote.RawPtr.{Ptr, block_ptr}
use denote.Ref.{MutRef, mut_vals, mut_Tells}
use denote.Signature.{plain, mut_ref_to}
use denote.Steps.{nothing, opens, peeks}
use denote.Triple.Walked.{Stays, walk_of, says, stay_dropped, Goes-spent_ref, ends_at}
use Rattle.std.proofs.VecSteps.Shapes.{after}
use Rattle.std.proofs.raw_atomic.Walks.{proved}
use Rattle.linked_list_allocator.proofs.Values.{list_val, list_own, list_told}
use Rattle.frame_arena.specs.Links.{Frame, around, page_at}
use Rattle.frame_arena.specs.LendingPages.{with_bytes}
use Rattle.frame_arena.specs.contracts.page.Page.{the_row as R}
use Rattle.frame_arena.specs.contracts.page.Page.bytes_mut as f
use Rattle.frame_arena.proofs.page.Page.bytes_mut.Statement.{statement}
use Rattle.frame_arena.proofs.page.Page.bytes_mut.Code as code

abbrev stayed : Stays f.ended.signature.params f.ended.kept
stayed = (stay_dropped (mut_ref_to (0 ∷ []) tt (plain (λ _. R))) no, tt)

pub bytes_mut_spec : {M : Type 1} → statement M
unfolding part_of
bytes_mut_spec 𝓤 𝓛 𝓜 𝓡 wired =
    let c = f.clauses 𝓛 𝓜.mem 𝓡.returns in let W = walk_of 𝓛 f.ended stayed c in let 𝓣 = tables 𝓤 𝓛.H 𝓜 𝓡 𝓡.env in
    proved 𝓛 f.ended stayed c 𝓜 𝓡 (Goes-spent_ref 𝓛 1 (0 ∷ []) tt (plain (λ _. R)), tt)
    f.Key.name code.function (code.unfolded 𝓤 𝓛.H 𝓜 𝓡 wired)
    (λ κs. (mut_vals, tt)) (λ κs. (mut_Tells (named 0) κs.0 R, tt)) (λ κs qs bounds a _ are.
    let κ = κs.0 in let q = qs.0 in let rb = a.0.ref_ptr.0 in let ro = a.0.ref_ptr.1 in let γ = a.0.ghost_name in let h = a.0.now in let vs = mut_vals a.0 in
    let b = h.block in let o = h.place in
    let y : W.Ghost = ((κs, qs, bounds, a, (vs, tt)), tt) in
    qed 𝓛 (((‵ (flft κ q) ⊛ ‵ ftrue) ⊛ ‵ ((MutRef (named 0) κ R).own_val a.0 vs) ⊛ ‵ ftrue) ∷ ‵ ftrue ∷ []) ∵
    split ! $ split ! $ move ! (2 ∷ []) $ split ! $ keep ! (0 ∷ 2 ∷ []) $
    enter ! _ _ _ _ _ $ alloc_all ! (λ l. pass_all ! refl ((tt, tt), tt) $
    fsplit3 ! $ move ! (1 ∷ 2 ∷ 3 ∷ []) $ opens ! tt R rb ro (λ us.
    move ! (1 ∷ []) $ peeks ! R _ (shows 𝓛 R) h us (λ is. fsplit ! $ move ! (1 ∷ []) $
    rewrite ! 0 (λ (p : Ptr). ‵ (page_at p h.bytes)) h.placed refl $ fsplit ! $
    let word : us ≡ list_val (block_ptr b o) ∷ [] = (list_told h.at us is.0).0 ∙ ap (λ (p : Ptr). list_val p ∷ []) h.placed in
    let Cell = λ (ws : List Val). ‵ (cell_at full_share R.mir ws rb ro) in
    rewrite ! 3 Cell word refl $
    -- [the bytes; the way back; what the field owns; the struct's cell; the open borrow, in three entries]
    first ! $ blocks ! $
    sets_last ! (addr ! (through ! refl (fld ! refl (hop ! (look_in ! 3 (sub ! 0 refl (whole !))) (stop !))))) refl (tt, tt) $
    exec ! 𝓣.C 𝓣.Λ (env code.Mir.locals l) (after 1 (code.function).body) (at_ret _ (W.post y)) $
    sets ! (of_opd ! (get ! refl)) refl (tt, tt) $
    rewrite ! 3 Cell (sym word) refl $
    let Rest : Fml = fsep (around (block_ptr b o)) (fsep (list_own h.at us) (cell_at full_share R.mir us rb ro)) in
    let back : (w : List ℕ) → ent 𝓤 (sep 𝓤 (sem 𝓛 ((mem Frame).own_at w b o)) (sem 𝓛 Rest)) (sem 𝓛 ((mem R).own_at (with_bytes h w) rb ro)) = λ w.
    (qed 𝓛 (‵ (part_at Frame full_share w b o) ∷ ‵ Rest ∷ []) ∵ move ! (1 ∷ []) $ fsplit ! $ move ! (1 ∷ []) $ fsplit ! $ move ! (3 ∷ 2 ∷ []) $ fjoin ! $
    rewrite ! 0 (λ (p : Ptr). ‵ (page_at p w)) (sym h.placed) refl $ move ! (1 ∷ 0 ∷ []) $ fjoin ! $ move ! (1 ∷ 0 ∷ []) $ fjoin ! $
    fpack ! (List Val) (λ ws. fsep (cell_at full_share R.mir ws rb ro) (R.own_val (with_bytes h w) ws)) us $ done !) in
    move ! (2 ∷ 3 ∷ []) $ fjoin ! $ move ! (2 ∷ 0 ∷ []) $ fjoin ! $ move ! (2 ∷ 3 ∷ 4 ∷ 1 ∷ 0 ∷ []) $ group ! 5 $
    use1 𝓛 (later (some (λ (γ' : GName). raw (Part 𝓛 R Frame (with_bytes h) (named 0) κ q rb ro b o γ (sem 𝓛 Rest) back h.bytes γ'))))
    (lends_Part 𝓛 R Frame (with_bytes h) (named 0) κ q rb ro b o γ (sem 𝓛 Rest) back (R.coded.code h) (R.coded.code h) h.bytes) $ await ! tt $ pick ! (λ γ'.
    returns ! (look_at ! 0 refl) $ free_all ! refl $ keep ! (0 ∷ []) $
    let lent : MutBor (List ℕ) = record { ref_ptr = (b, o); ghost_name = γ'; now = h.bytes } in
    use1 𝓛 (‵ ((MutRef (named 0) κ Frame).own_val lent (vptr b o ∷ [])) ⊛ (‵ (flft κ q) ⊛ ‵ (follows R Frame γ γ' (with_bytes h)))) (id⊢ 𝓤 _) $
    split ! $ move ! (1 ∷ []) $ split ! $ move ! (2 ∷ []) $
    -- [the lent bytes; the token; that the page follows]
    suffices ! _ (ends_at 𝓛 f.ended stayed c y (vptr b o) lent (tt, tt) (tt, tt)) $
    nothing ! $ nothing ! $ fjoin ! $ join ! $ nothing ! $ move ! (2 ∷ 0 ∷ []) $ join ! $ join ! $ frame ! $ says ! refl $ done !)))))
