-- `push` writes a node into the frame's first bytes. Assumes `Logic`.
use Rattle.std.proofs.Common.{◌≡◌, List, [], ◌∷◌, ◌++◌, refl, ap, ◌∙◌, w64}
use mir.Syntax.{Ty, Fn}
use mir.Val.{Val, vint}
use base.Fraction.{full_share}
use base.Logic.{SProp, emp}
use base.Fml.{ftrue, fat, froom}
use prog.Wp.{Env, WpFn}
use contract.Monad.{fact, fact_i}
use contract.Running.{tables}
use types.Kit.{‵, raw, ◌⊛◌, prop, at_ret, ◌$◌, ◌∵◌, !, qed, by, move, drop, use0, use1, split, rewrite, regoal, fsplit, fsplit3, fjoin}
use types.Part.{whole, sub, agg}
use types.Run.{stop, fld, init, of_opd, no_more, and_then, assigns, first, blocks, exec, returns, enter}
use types.ByLocal.{alloc_all, pass_all, free_all, look_at, get, get_in, through, sets, sets_last, env}
use denote.RattleType.{owns}
use denote.RawPtr.{Ptr, block_ptr}
use denote.Memory.{lone}
use denote.Signature.{types_at}
use denote.Steps.{nothing}
use denote.Triple.Entry.{alive}
use denote.Triple.Walked.{Stays, stay_dropped, walk_of, Goes-dropped}
use Rattle.std.proofs.alloc.Calls.{Goes-blank}
use Rattle.std.proofs.VecSteps.Shapes.{after}
use Rattle.std.proofs.ResultValues.{and_tt}
use Rattle.std.proofs.raw_atomic.Walks.{proved_at, leaves}
use Rattle.linked_list_allocator.proofs.Values.{ptr_typed, list_val, list_own, list_told, list_made, list_typed}
use Rattle.linked_list_allocator.proofs.Nodes.{forms}
use Rattle.linked_list_allocator.proofs.Walks.{slot_at}
use Rattle.linked_list_allocator.specs.Ownership.{bytes_at, hole_type, hole_val, behind}
use Rattle.frame_arena.specs.Size.{frame_size}
use Rattle.frame_arena.specs.Links.{Place, node}
use Rattle.frame_arena.specs.contracts.list.FreeList as list
use Rattle.frame_arena.specs.contracts.list.Node as header
use Rattle.frame_arena.specs.contracts.list.FreeList.push.{ended, clauses}
use Rattle.frame_arena.specs.contracts.list.FreeList.push.Key.{name as #self}
use Rattle.frame_arena.proofs.list.FreeList.push.Statement.{statement}
use Rattle.frame_arena.proofs.list.FreeList.push.Code as compiled

abbrev named_hole : Ty
named_hole = lone (header.the_row).mir

pub push_spec : {M : Type 1} → statement M
push_spec 𝓤 𝓛 𝓜 𝓡 wired =
    let H = 𝓛.H in
    let En₀ = ended in
    let c = clauses 𝓛 𝓜.mem 𝓡.returns in
    let fn : Fn = compiled.function in
    let stays : Stays En₀.signature.params En₀.kept = (stay_dropped (slot_at 0 En₀.signature.params) En₀.kept.0, (stay_dropped (slot_at 1 En₀.signature.params) En₀.kept.1.0, (stay_dropped (slot_at 2 En₀.signature.params) En₀.kept.1.1.0, tt))) in
    let C = (tables 𝓤 H 𝓜 𝓡 𝓡.env).C in
    let Λ = (tables 𝓤 H 𝓜 𝓡 𝓡.env).Λ in
    proved_at 𝓛 En₀ stays c 𝓜 𝓡 (Goes-blank 𝓛 0 (slot_at 0 En₀.signature.params) En₀.kept.0 (λ κs x f. tt), (Goes-blank 𝓛 0 (slot_at 1 En₀.signature.params) En₀.kept.1.0 (λ κs x f. tt), (Goes-dropped 𝓛 0 (slot_at 2 En₀.signature.params) En₀.kept.1.1.0 (λ κs x f. refl), tt))) #self fn (compiled.unfolded 𝓤 H 𝓜 𝓡 wired) (λ z are.
    let Post : Val → SProp 𝓤 = (walk_of 𝓛 En₀ stays c).post z in
    let a = z.0.3 in
    let vss = z.0.4 in
    let x = a.0 in
    let w = a.1.0 in
    let n = a.1.1.0 in
    let b = w.block in
    let o = w.place in
    let f : Place = (b, o, n) in
    let told : vss.0 ≡ list_val x.head ∷ [] = (list_told x.head vss.0 are.0.0).0 in
    let taken = (list_told w.at vss.1.0 are.1.0.0).0 in
    let fits = are.1.1.0.1 in
    let from : Ptr = block_ptr b o in
    let p = ptr_typed x.head in
    qed 𝓛 ((raw (alive 𝓛 En₀.signature z.0.0 z.0.1) ⊛ ‵ (owns (types_at En₀.signature.params z.0.0) a vss)) ∷ ‵ ftrue ∷ []) ∵ move ! (1 ∷ []) $ drop ! $ split ! $ move ! (1 ∷ []) $
    fsplit3 ! $ fsplit ! $ drop ! $ move ! (2 ∷ []) $ drop ! $ move ! (1 ∷ []) $ fsplit ! $ drop ! $ rewrite ! 0 (λ (p : Ptr). ‵ (bytes_at p frame_size)) w.placed refl $
    -- [the frame; the list; ..]
    use1 𝓛 (‵ (froom hole_type b o) ⊛ ‵ (behind b (o, frame_size))) (forms 𝓛 b (o, frame_size)) $ split ! $ use1 𝓛 (‵ (froom named_hole b o)) (𝓛.laws.raw-room named_hole b o) $
    regoal ! (λ (us : List Val). prop (WpFn 𝓤 H C Λ fn us Post)) (λ i. told i ++ ((taken ∙ ap (λ (p : Ptr). list_val p ∷ []) w.placed) i ++ (are.1.1.0.0 i ++ []))) refl $
    enter ! C Λ fn (list_val x.head ∷ list_val from ∷ vint w64 n ∷ []) Post $
    alloc_all ! (λ l. pass_all ! refl (list_typed x.head tt, ((tt, (tt, tt)), ((tt, record { fits = fits }), tt))) $ let En : Env 𝓤 𝓛.H = env fn.locals l in
    sets ! (of_opd ! (get_in ! (fld ! refl (stop !)) (sub ! 0 refl (whole !)))) refl p $
    sets ! (of_opd ! (get_in ! (fld ! refl (stop !)) (sub ! 0 refl (whole !)))) refl (tt, tt) $
    first ! $ blocks ! $
    sets ! (of_opd ! (get ! refl)) refl (tt, tt) $
    sets ! (agg ! (and_then ! (get ! refl) (and_then ! (get ! refl) (no_more !)))) refl (and_tt _ p.0, (record { fits = fits }, (p.1, tt))) $
    assigns ! (of_opd ! (get ! refl)) (through ! refl (stop !)) (init ! 0 refl (and_tt _ p.0, (record { fits = fits }, (p.1, tt)))) $
    sets_last ! (agg ! (and_then ! (get ! refl) (no_more !))) refl (tt, (tt, tt)) $
    exec ! C Λ En (after 3 fn.body) (at_ret En Post) $
    sets ! (of_opd ! (get ! refl)) refl (tt, (tt, tt)) $
    returns ! (look_at ! 0 refl) $ free_all ! refl $
    use1 𝓛 (‵ (fat full_share hole_type b o (hole_val n x.head))) (𝓛.laws.at_raw full_share named_hole b o (hole_val n x.head)) $ fjoin ! $
    rewrite ! 0 (λ (p : Ptr). ‵ (node f p)) x.placed refl $ fjoin ! $
    let y : (list.the_row).Denot = record { head = from; frames = f ∷ x.frames; placed = refl } in
    use0 𝓛 (‵ (list_own from (list_val from ∷ []))) (list_made 𝓛 from tt) $ fjoin ! $
    use0 𝓛 (raw (fact 𝓤 (f ∷ x.frames ≡ f ∷ x.frames))) (fact_i 𝓤 (f ∷ x.frames ≡ f ∷ x.frames) (emp 𝓤) refl) $
    nothing ! $ nothing ! $ fjoin ! $ nothing ! $ fjoin ! $ nothing ! $ fjoin ! $ move ! (3 ∷ 0 ∷ 2 ∷ 1 ∷ []) $
    by ! (leaves 𝓛 En₀ stays c z (list_val from) y (tt, (tt, (tt, tt))) (tt, (tt, (tt, tt))))))
