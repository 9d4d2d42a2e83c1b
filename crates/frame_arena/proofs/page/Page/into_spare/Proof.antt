-- `into_spare` forgets the bytes. Assumes `Logic`.
use Rattle.std.proofs.Common.{◌≡◌, List, [], ◌∷◌, ◌++◌, refl, ap, ◌∙◌}
use mir.Syntax.{Fn}
use mir.Val.{Val}
use base.Logic.{SProp, emp, apply∗}
use base.Fml.{ftrue, froom}
use prog.Wp.{Env, WpFn}
use contract.Monad.{fact, fact_i}
use contract.Running.{tables}
use types.Logic.{sem}
use types.Kit.{‵, raw, ◌⊛◌, prop, ◌$◌, ◌∵◌, !, qed, by, move, drop, use0, use1, use2, split, rewrite, regoal, fsplit, fjoin}
use types.Part.{whole, sub, agg}
use types.Run.{stop, fld, of_opd, no_more, and_then, returns, enter}
use types.ByLocal.{alloc_all, pass_all, free_all, look_at, get, get_in, sets, env}
use denote.RattleType.{owns}
use denote.RawPtr.{Ptr, block_ptr}
use denote.Signature.{types_at}
use denote.Steps.{nothing}
use denote.Triple.Entry.{alive}
use denote.Triple.Walked.{Stays, stay_dropped, walk_of}
use Rattle.std.proofs.alloc.Calls.{Goes-blank}
use Rattle.std.proofs.raw_atomic.Walks.{proved_at, leaves}
use Rattle.linked_list_allocator.proofs.Values.{list_val, list_told, list_own, list_made}
use Rattle.linked_list_allocator.proofs.Walks.{slot_at}
use Rattle.linked_list_allocator.specs.Ownership.{bytes_at, units_of}
use Rattle.frame_arena.specs.Size.{frame_size}
use Rattle.frame_arena.specs.Links.{frame_type, page_at}
use Rattle.frame_arena.proofs.Words.{page_room}
use Rattle.frame_arena.specs.contracts.list.Spare as spare
use Rattle.frame_arena.specs.contracts.page.Page.into_spare.{ended, clauses}
use Rattle.frame_arena.specs.contracts.page.Page.into_spare.Key.{name as #self}
use Rattle.frame_arena.proofs.page.Page.into_spare.Statement.{statement}
use Rattle.frame_arena.proofs.page.Page.into_spare.Code as compiled

pub into_spare_spec : {M : Type 1} → statement M
into_spare_spec 𝓤 𝓛 𝓜 𝓡 wired =
    let H = 𝓛.H in
    let En₀ = ended in
    let c = clauses 𝓛 𝓜.mem 𝓡.returns in
    let fn : Fn = compiled.function in
    let stays : Stays En₀.signature.params En₀.kept = (stay_dropped (slot_at 0 En₀.signature.params) En₀.kept.0, tt) in
    let C = (tables 𝓤 H 𝓜 𝓡 𝓡.env).C in
    let Λ = (tables 𝓤 H 𝓜 𝓡 𝓡.env).Λ in
    proved_at 𝓛 En₀ stays c 𝓜 𝓡 (Goes-blank 𝓛 0 (slot_at 0 En₀.signature.params) En₀.kept.0 (λ κs x f. tt), tt) #self fn (compiled.unfolded 𝓤 H 𝓜 𝓡 wired) (λ z are.
    let Post : Val → SProp 𝓤 = (walk_of 𝓛 En₀ stays c).post z in
    let a = z.0.3 in
    let vss = z.0.4 in
    let x = a.0 in
    let b = x.block in
    let o = x.place in
    let from : Ptr = block_ptr b o in
    let told : vss.0 ≡ list_val from ∷ [] = (list_told x.at vss.0 are.0.0).0 ∙ ap (λ (p : Ptr). list_val p ∷ []) x.placed in
    qed 𝓛 ((raw (alive 𝓛 En₀.signature z.0.0 z.0.1) ⊛ ‵ (owns (types_at En₀.signature.params z.0.0) a vss)) ∷ ‵ ftrue ∷ []) ∵ move ! (1 ∷ []) $ drop ! $ split ! $ move ! (1 ∷ []) $
    fsplit ! $ fsplit ! $ drop ! $ move ! (1 ∷ []) $ drop ! $ rewrite ! 0 (λ (p : Ptr). ‵ (page_at p x.bytes)) x.placed refl $
    fsplit ! $ use1 𝓛 (‵ (froom frame_type b o)) (page_room 𝓛 x.bytes b o) $ use2 𝓛 (‵ (bytes_at from frame_size)) (apply∗ 𝓤 (sem 𝓛 (froom frame_type b o)) (sem 𝓛 (froom (units_of frame_size) b o))) $
    regoal ! (λ (us : List Val). prop (WpFn 𝓤 H C Λ fn us Post)) (λ i. told i ++ []) refl $
    enter ! C Λ fn (list_val from ∷ []) Post $
    alloc_all ! (λ l. pass_all ! refl ((tt, (tt, tt)), tt) $ let En : Env 𝓤 𝓛.H = env fn.locals l in
    sets ! (of_opd ! (get_in ! (fld ! refl (stop !)) (sub ! 0 refl (whole !)))) refl (tt, tt) $
    sets ! (of_opd ! (get ! refl)) refl (tt, tt) $
    sets ! (agg ! (and_then ! (get ! refl) (no_more !))) refl (tt, (tt, tt)) $
    returns ! (look_at ! 0 refl) $ free_all ! refl $
    let s : (spare.the_row).Denot = record { at = from; block = b; place = o; placed = refl } in
    use0 𝓛 (‵ (list_own from (list_val from ∷ []))) (list_made 𝓛 from tt) $ fjoin ! $
    use0 𝓛 (raw (fact 𝓤 ((b ≡ b) × (o ≡ o)))) (fact_i 𝓤 ((b ≡ b) × (o ≡ o)) (emp 𝓤) (refl, refl)) $
    nothing ! $ nothing ! $ fjoin ! $ move ! (3 ∷ 0 ∷ 2 ∷ 1 ∷ []) $
    by ! (leaves 𝓛 En₀ stays c z (list_val from) s (tt, tt) (tt, tt))))
