-- `pop` reads the first node, and its frame is room again. Assumes `Logic`.
use Rattle.std.proofs.Common.{◌≡◌, ◌^◌, ◌<◌, List, [], ◌∷◌, ◌++◌, length, refl, sym, ap, subst, ◌∙◌, arith, w64}
use mir.Syntax.{Fn}
use mir.Val.{Val, vint}
use base.Logic.{SProp, emp}
use prog.Wp.{Env, WpFn}
use contract.Monad.{fact, fact_i}
use contract.Running.{tables}
use types.Kit.{‵, raw, ◌⊛◌, prop, at_ret, ◌$◌, ◌∵◌, !, qed, by, move, drop, use0, use1, use2, split, rewrite, regoal, fsplit, fjoin, feq_i, flt_i}
use types.Part.{whole, sub, agg, look_in}
use types.Run.{stop, fld, load, of_opd, no_more, and_then, first, blocks, exec, returns, enter, well_typed}
use types.ByLocal.{alloc_all, pass_all, free_all, look_at, get, get_in, through, sets, sets_last, env}
use denote.RattleType.{RattleType, owns}
use denote.Builtin.{usize}
use denote.RawPtr.{Ptr, block_ptr}
use denote.Signature.{types_at}
use denote.Steps.{nothing, heard}
use denote.Struct.Tuple.{Tuple}
use denote.Triple.Entry.{alive}
use denote.Triple.Walked.{Stays, stay_dropped, walk_of}
use Rattle.std.proofs.alloc.Calls.{Goes-blank}
use Rattle.std.proofs.VecSteps.Shapes.{after}
use Rattle.std.proofs.ResultValues.{and_tt}
use Rattle.frame_arena.specs.Size.{frame_size}
use Rattle.frame_arena.proofs.Pairs.{pair_of, pair_val}
use Rattle.std.proofs.raw_atomic.Walks.{proved_at, leaves}
use Rattle.linked_list_allocator.proofs.Values.{ptr_typed, list_val, list_own, list_told, list_made, list_typed}
use Rattle.linked_list_allocator.proofs.Walks.{slot_at, by_list}
use Rattle.linked_list_allocator.specs.Ownership.{bytes_at}
use Rattle.frame_arena.specs.Links.{Place, links, first_of}
use Rattle.frame_arena.proofs.Nodes.{dissolves}
use Rattle.frame_arena.specs.contracts.list.FreeList as list
use Rattle.frame_arena.specs.contracts.list.Spare as spare
use Rattle.frame_arena.specs.contracts.list.FreeList.pop.{ended, clauses}
use Rattle.frame_arena.specs.contracts.list.FreeList.pop.Key.{name as #self}
use Rattle.frame_arena.proofs.list.FreeList.pop.Statement.{statement}
use Rattle.frame_arena.proofs.list.FreeList.pop.Code as compiled

pub pop_spec : {M : Type 1} → statement M
pop_spec 𝓤 𝓛 𝓜 𝓡 wired =
    let H = 𝓛.H in
    let En₀ = ended in
    let c = clauses 𝓛 𝓜.mem 𝓡.returns in
    let fn : Fn = compiled.function in
    let stays : Stays En₀.signature.params En₀.kept = (stay_dropped (slot_at 0 En₀.signature.params) En₀.kept.0, tt) in
    let C = (tables 𝓤 H 𝓜 𝓡 𝓡.env).C in
    let Λ = (tables 𝓤 H 𝓜 𝓡 𝓡.env).Λ in
    proved_at 𝓛 En₀ stays c 𝓜 𝓡 (Goes-blank 𝓛 0 (slot_at 0 En₀.signature.params) En₀.kept.0 (λ κs x f. tt), tt) #self fn (compiled.unfolded 𝓤 H 𝓜 𝓡 wired) (λ z are.
    let Post : Val → SProp 𝓤 = (walk_of 𝓛 En₀ stays c).post z in
    let a = z.0.3 in
    let vss = z.0.4 in
    let x = a.0 in
    let Asked : Type 0 = 0 < length x.frames in
    qed 𝓛 ((raw (alive 𝓛 En₀.signature z.0.0 z.0.1) ⊛ ‵ (owns (types_at En₀.signature.params z.0.0) a vss)) ∷ raw (fact 𝓤 Asked) ∷ []) ∵ move ! (1 ∷ []) $ heard ! Asked (λ asked. split ! $ move ! (1 ∷ []) $
    fsplit ! $ fsplit ! $ drop ! $ move ! (1 ∷ []) $ drop ! $
    by_list x.frames (λ none. let no : 0 < length {A = Place} [] = subst (λ (l : List Place). 0 < length l) none asked in absurd (omega arith))
    (λ f fs more. rewrite ! 0 (λ (l : List Place). ‵ (links l)) more refl $
    let here : Ptr = block_ptr f.0 f.1 in let next : Ptr = first_of fs in let p = ptr_typed next in let n = f.2 in
    let told : vss.0 ≡ list_val here ∷ [] = (list_told x.head vss.0 are.0.0).0 ∙ ap (λ (p : Ptr). list_val p ∷ []) (x.placed ∙ ap first_of more) in
    fsplit ! $ fsplit ! $ well_typed ! (λ ok. let fits : n < 2 ^ 64 = ok.1.0.fits in
    -- [the node; what lies behind it; the rest of the list; ..]
    regoal ! (λ (us : List Val). prop (WpFn 𝓤 H C Λ fn us Post)) (λ i. told i ++ []) refl $
    enter ! C Λ fn (list_val here ∷ []) Post $
    alloc_all ! (λ l. pass_all ! refl ((tt, (tt, tt)), tt) $ let En : Env 𝓤 𝓛.H = env fn.locals l in
    sets ! (of_opd ! (get_in ! (fld ! refl (stop !)) (sub ! 0 refl (whole !)))) refl (tt, tt) $
    first ! $ blocks ! $
    sets ! (of_opd ! (load ! (through ! refl (fld ! refl (stop !))) (look_in ! 0 (sub ! 0 refl (whole !))))) refl (tt, record { fits = fits }) $
    sets ! (of_opd ! (load ! (through ! refl (fld ! refl (stop !))) (look_in ! 0 (sub ! 1 refl (whole !))))) refl p $
    sets ! (of_opd ! (get ! refl)) refl (tt, tt) $
    sets ! (agg ! (and_then ! (get ! refl) (no_more !))) refl (tt, (tt, tt)) $
    sets ! (agg ! (and_then ! (get ! refl) (no_more !))) refl (list_typed next tt) $
    sets ! (agg ! (and_then ! (get ! refl) (and_then ! (get ! refl) (no_more !)))) refl (and_tt _ (and_tt _ p.0), ((tt, tt), ((p.1, tt), tt))) $
    sets_last ! (agg ! (and_then ! (get ! refl) (and_then ! (get ! refl) (no_more !)))) refl (and_tt _ (and_tt _ (and_tt _ p.0)), (record { fits = fits }, (((tt, tt), ((p.1, tt), tt)), tt))) $
    exec ! C Λ En (after 2 fn.body) (at_ret En Post) $
    sets ! (of_opd ! (get ! refl)) refl (and_tt _ (and_tt _ (and_tt _ p.0)), (record { fits = fits }, (((tt, tt), ((p.1, tt), tt)), tt))) $
    returns ! (look_at ! 0 refl) $ free_all ! refl $
    fjoin ! $ use1 𝓛 (‵ (bytes_at here frame_size)) (dissolves 𝓛 f next) $
    let s : (spare.the_row).Denot = record { at = here; block = f.0; place = f.1; placed = refl } in
    let y : (list.the_row).Denot = record { head = next; frames = fs; placed = refl } in
    let Two : RattleType = Tuple (spare.the_row ∷ list.the_row ∷ []) in
    let v : Val = pair_val (list_val here) (list_val next) in
    use0 𝓛 (‵ (list_own here (list_val here ∷ []))) (list_made 𝓛 here tt) $ fjoin ! $ move ! (1 ∷ []) $
    use0 𝓛 (‵ (list_own next (list_val next ∷ []))) (list_made 𝓛 next tt) $ fjoin ! $ move ! (1 ∷ 0 ∷ []) $
    use2 𝓛 (‵ (Two.own_val (s, y) (v ∷ []))) (pair_of 𝓛 spare.the_row list.the_row s y (list_val here) (list_val next)) $
    flt_i ! n (2 ^ 64) fits $ feq_i ! (List Val) (vint w64 n ∷ []) (vint w64 n ∷ []) refl $ fjoin ! $
    use2 𝓛 (‵ ((Tuple (usize ∷ Two ∷ [])).own_val (n, (s, y)) (pair_val (vint w64 n) v ∷ []))) (pair_of 𝓛 usize Two n (s, y) (vint w64 n) v) $
    use0 𝓛 (raw (fact 𝓤 (f ∷ fs ≡ x.frames))) (fact_i 𝓤 (f ∷ fs ≡ x.frames) (emp 𝓤) (sym more)) $
    nothing ! $ nothing ! $ fjoin ! $ move ! (3 ∷ 0 ∷ 2 ∷ 1 ∷ []) $
    by ! (leaves 𝓛 En₀ stays c z (pair_val (vint w64 n) v) (n, (s, y)) (tt, tt) (tt, tt)))))))
