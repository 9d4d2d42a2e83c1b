-- `bytes` follows the pointer to the bytes, which the page lends. Assumes `Logic`.
use Rattle.std.proofs.Common.{◌+◌, List, [], ◌∷◌, refl, sym}
use mir.Syntax.{named, ty_ptr}
use mir.Val.{Val, vptr}
use base.Fml.{ftrue, fat, flft}
use contract.Running.{tables}
use types.Kit.{‵, ◌⊛◌, at_ret, ◌$◌, ◌∵◌, !, qed, move, keep, drop, split, join, fsplit, fjoin, feq_i, rewrite, suffices, frame, done}
use types.Run.{look, stop, fld, hop, of_opd, addr, first, blocks, exec, returns, enter}
use types.ByLocal.{alloc_all, pass_all, free_all, look_at, get, through, sets, sets_last, env}
use denote.Builtin.{RefOf}
use denote.Exit.{yes}
use denote.Opens.{hide, unhide}
use denote.RawPtr.{Ptr, ptr_val}
use denote.Ref.{ShrRef, shr_vals, shr_Tells}
use denote.Signature.{plain}
use denote.Steps.{nothing}
use denote.Struct.Lending.{lent_at}
use denote.Triple.Walked.{Stays, walk_of, says, stay_dropped, Goes-dropped, ends_at}
use Rattle.std.proofs.VecSteps.Shapes.{after}
use Rattle.std.proofs.raw_atomic.Walks.{proved}
use Rattle.frame_arena.specs.Links.{Frame}
use Rattle.frame_arena.proofs.Words.{peer_in, peer_out}
use Rattle.frame_arena.specs.contracts.page.Page.{the_row as R}
use Rattle.frame_arena.specs.contracts.page.Page.bytes as f
use Rattle.frame_arena.proofs.page.Page.bytes.Statement.{statement}
use Rattle.frame_arena.proofs.page.Page.bytes.Code as code

abbrev stayed : Stays f.ended.signature.params f.ended.kept
stayed = (stay_dropped (RefOf (0 ∷ []) tt (plain (λ _. R)) (λ _. tt)) yes, tt)

pub bytes_spec : {M : Type 1} → statement M
bytes_spec 𝓤 𝓛 𝓜 𝓡 wired =
    let c = f.clauses 𝓛 𝓜.mem 𝓡.returns in let W = walk_of 𝓛 f.ended stayed c in let 𝓣 = tables 𝓤 𝓛.H 𝓜 𝓡 𝓡.env in
    proved 𝓛 f.ended stayed c 𝓜 𝓡 (Goes-dropped 𝓛 1 (RefOf (0 ∷ []) tt (plain (λ _. R)) (λ _. tt)) yes (λ κs x w. refl), tt)
    f.Key.name code.function (code.unfolded 𝓤 𝓛.H 𝓜 𝓡 wired)
    (λ κs. (shr_vals, tt)) (λ κs. (shr_Tells (named 0) κs.0 R, tt)) (λ κs qs bounds a _ are.
    let κ = κs.0 in let q = qs.0 in let rb = a.0.ref_ptr.0 in let ro = a.0.ref_ptr.1 in let h = a.0.now in let vs = shr_vals a.0 in
    let b = h.block in let o = h.place in
    let y : W.Ghost = ((κs, qs, bounds, a, (vs, tt)), tt) in
    qed 𝓛 (((‵ (flft κ q) ⊛ ‵ ftrue) ⊛ ‵ ((ShrRef (named 0) κ R).own_val a.0 vs) ⊛ ‵ ftrue) ∷ ‵ ftrue ∷ []) ∵
    split ! $ split ! $ move ! (2 ∷ []) $ split ! $ keep ! (0 ∷ 2 ∷ []) $ fsplit ! $ drop ! $
    enter ! _ _ _ _ _ $ alloc_all ! (λ l. pass_all ! refl ((tt, tt), tt) $
    unhide ! $ fsplit ! $ fsplit ! $ fsplit ! $ hide ! $ move ! (0 ∷ 4 ∷ []) $ peer_in ! tt h.at rb (ro + 0) (λ s. move ! (4 ∷ []) $
    rewrite ! 0 (λ (p : Ptr). ‵ (lent_at Frame p h.bytes κ)) h.placed refl $ fsplit ! $ drop ! $ hide ! $
    rewrite ! 1 (λ (p : Ptr). ‵ (fat s ty_ptr rb (ro + 0) (ptr_val p))) h.placed refl $ first ! $ blocks ! $
    sets_last ! (addr ! (through ! refl (fld ! refl (hop ! (look ! 1 refl) (stop !))))) refl (tt, tt) $
    exec ! 𝓣.C 𝓣.Λ (env code.Mir.locals l) (after 1 (code.function).body) (at_ret _ (W.post y)) $
    sets ! (of_opd ! (get ! refl)) refl (tt, tt) $
    rewrite ! 1 (λ (p : Ptr). ‵ (fat s ty_ptr rb (ro + 0) (ptr_val p))) (sym h.placed) refl $ feq_i ! (List Val) (vptr b o ∷ []) (vptr b o ∷ []) refl $ fjoin ! $
    move ! (1 ∷ 2 ∷ []) $ peer_out ! tt h.at rb (ro + 0) $
    returns ! (look_at ! 0 refl) $ free_all ! refl $ keep ! (0 ∷ 1 ∷ []) $
    suffices ! _ (ends_at 𝓛 f.ended stayed c y (vptr b o) (record { ref_ptr = (b, o); now = h.bytes }) (tt, tt) (tt, tt)) $ says ! refl $
    nothing ! $ move ! (1 ∷ 0 ∷ []) $ join ! $ frame ! $ nothing ! $ nothing ! $ fjoin ! $ done !)))
