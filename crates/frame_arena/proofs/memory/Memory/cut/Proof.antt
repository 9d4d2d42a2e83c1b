-- `cut` takes the first 4,096 bytes off. Assumes `Logic`.
use Rattle.std.proofs.Common.{◌≡◌, ◌+◌, ◌-◌, ◌≤◌, ◌^◌, ◌<◌, List, [], ◌∷◌, ◌++◌, refl, ap, ◌∙◌, lit<, arith}
use mir.Syntax.{Fn}
use mir.Val.{Val, vptr}
use base.Logic.{SProp, emp, never, id⊢}
use prog.Wp.{Env, WpFn}
use contract.Monad.{fact, fact_i}
use contract.Running.{tables}
use types.Kit.{‵, raw, ◌⊛◌, prop, at_ret, ◌$◌, ◌∵◌, !, qed, by, move, drop, use0, use1, use2, split, join, regoal, fsplit, fjoin}
use types.Part.{whole, sub, agg}
use types.Run.{stop, fld, bin, of_opd, no_more, and_then, first, blocks, exec, returns, enter}
use types.ByLocal.{alloc_all, pass_all, free_all, look_at, get, get_in, sets, sets_last, is, env}
use denote.RattleType.{owns}
use denote.RawPtr.{Ptr, block_ptr, in_a_block}
use denote.Signature.{types_at}
use denote.Steps.{nothing, heard}
use denote.Struct.Tuple.{Tuple}
use denote.Triple.Entry.{alive}
use denote.Triple.Walked.{Stays, stay_dropped, walk_of}
use Rattle.std.proofs.alloc.Calls.{Goes-blank}
use Rattle.std.proofs.VecSteps.Shapes.{after}
use Rattle.std.proofs.raw_atomic.Walks.{proved_at, leaves}
use Rattle.linked_list_allocator.proofs.Nodes.{cuts, resized}
use Rattle.linked_list_allocator.proofs.Values.{list_val, list_own, list_made, sized_val, sized_own, sized_told, sized_made}
use Rattle.linked_list_allocator.proofs.Walks.{slot_at}
use Rattle.linked_list_allocator.specs.Ownership.{bytes_at}
use Rattle.frame_arena.specs.Size.{frame_size}
use Rattle.frame_arena.proofs.Big.{big_lit}
use Rattle.frame_arena.proofs.Pairs.{pair_of, pair_val}
use Rattle.frame_arena.specs.contracts.list.Spare as spare
use Rattle.frame_arena.specs.contracts.memory.Memory as memory
use Rattle.frame_arena.specs.contracts.memory.Memory.cut.{ended, clauses}
use Rattle.frame_arena.specs.contracts.memory.Memory.cut.Key.{name as #self}
use Rattle.frame_arena.proofs.memory.Memory.cut.Statement.{statement}
use Rattle.frame_arena.proofs.memory.Memory.cut.Code as compiled

pub cut_spec : {M : Type 1} → statement M
cut_spec 𝓤 𝓛 𝓜 𝓡 wired =
    let H = 𝓛.H in
    let En₀ = ended in
    let c = clauses 𝓛 𝓜.mem 𝓡.returns in
    let fn : Fn = compiled.function in
    let stays : Stays En₀.signature.params En₀.kept = (stay_dropped (slot_at 0 En₀.signature.params) En₀.kept.0, tt) in
    let C = (tables 𝓤 H 𝓜 𝓡 𝓡.env).C in
    let Λ = (tables 𝓤 H 𝓜 𝓡 𝓡.env).Λ in
    proved_at 𝓛 En₀ stays c 𝓜 𝓡 (Goes-blank 𝓛 0 (slot_at 0 En₀.signature.params) En₀.kept.0 (λ κs x f. tt), tt) #self fn (compiled.unfolded 𝓤 H 𝓜 𝓡 wired) (λ z are.
    let Post : Val → SProp 𝓤 = (walk_of 𝓛 En₀ stays c).post z in
    let a = z.0.3 in
    let vss = z.0.4 in
    let x = a.0 in
    let n = x.size in
    let m = n - frame_size in
    let told = sized_told x.ptr n vss.0 are.0.0 in
    let fits = told.1 in
    let even = x.fits.0 in
    let small = x.fits.1 in
    let Asked : Type 0 = frame_size ≤ n in
    qed 𝓛 ((raw (alive 𝓛 En₀.signature z.0.0 z.0.1) ⊛ ‵ (owns (types_at En₀.signature.params z.0.0) a vss)) ∷ raw (fact 𝓤 Asked) ∷ []) ∵ move ! (1 ∷ []) $ heard ! Asked (λ asked. split ! $ move ! (1 ∷ []) $
    fsplit ! $ fsplit ! $ drop ! $ move ! (1 ∷ []) $ drop ! $ in_a_block ! x.ptr (λ p. bytes_at p n) (id⊢ 𝓤 (never 𝓤)) (λ b o at.
    let start : Ptr = block_ptr b o in let next : Ptr = block_ptr b (o + frame_size) in let left : m < 2 ^ 64 = omega arith in
    use1 𝓛 (‵ (bytes_at start (frame_size + m))) (resized 𝓛 b o n (frame_size + m) (omega arith)) $ use1 𝓛 (‵ (bytes_at start frame_size) ⊛ ‵ (bytes_at next m)) (cuts 𝓛 b o frame_size m refl) $ split ! $
    regoal ! (λ (us : List Val). prop (WpFn 𝓤 H C Λ fn us Post)) (λ i. (told.0 ∙ ap (λ (p : Ptr). sized_val p n ∷ []) at) i ++ []) refl $
    enter ! C Λ fn (sized_val start n ∷ []) Post $
    alloc_all ! (λ l. pass_all ! refl ((tt, (tt, (record { fits = fits }, tt))), tt) $ let En : Env 𝓤 𝓛.H = env fn.locals l in
    sets ! (of_opd ! (get_in ! (fld ! refl (stop !)) (sub ! 0 refl (whole !)))) refl (tt, tt) $
    sets ! (of_opd ! (get_in ! (fld ! refl (stop !)) (sub ! 1 refl (whole !)))) refl (tt, record { fits = fits }) $
    first ! $ blocks ! $
    sets_last ! (is ! (bin ! (get ! refl) (big_lit ! (record { fits = lit< tt })) tt) (ap (vptr b) (omega arith))) refl (tt, tt) $
    exec ! C Λ En (after 3 fn.body) (at_ret En Post) $
    sets ! (of_opd ! (get ! refl)) refl (tt, tt) $
    sets ! (bin ! (get ! refl) (big_lit ! (record { fits = lit< tt })) (omega arith)) refl (tt, record { fits = left }) $
    sets ! (agg ! (and_then ! (get ! refl) (no_more !))) refl (tt, (tt, tt)) $
    sets ! (agg ! (and_then ! (get ! refl) (and_then ! (get ! refl) (no_more !)))) refl (tt, (tt, (record { fits = left }, tt))) $
    sets ! (agg ! (and_then ! (get ! refl) (and_then ! (get ! refl) (no_more !)))) refl (tt, ((tt, tt), ((tt, (record { fits = left }, tt)), tt))) $
    returns ! (look_at ! 0 refl) $ free_all ! refl $
    let s : (spare.the_row).Denot = record { at = start; block = b; place = o; placed = refl } in
    let y : (memory.the_row).Denot = record { ptr = next; size = m; fits = (omega arith, omega arith) } in
    use0 𝓛 (‵ (list_own start (list_val start ∷ []))) (list_made 𝓛 start tt) $ fjoin ! $ move ! (1 ∷ []) $
    use0 𝓛 (‵ (sized_own next m (sized_val next m ∷ []))) (sized_made 𝓛 next m left) $ fjoin ! $ move ! (1 ∷ 0 ∷ []) $
    use2 𝓛 (‵ ((Tuple (spare.the_row ∷ memory.the_row ∷ [])).own_val (s, y) (pair_val (list_val start) (sized_val next m) ∷ []))) (pair_of 𝓛 spare.the_row memory.the_row s y (list_val start) (sized_val next m)) $
    use0 𝓛 (raw (fact 𝓤 (next ≡ block_ptr b (o + frame_size)))) (fact_i 𝓤 (next ≡ block_ptr b (o + frame_size)) (emp 𝓤) refl) $
    use0 𝓛 (raw (fact 𝓤 (x.ptr ≡ block_ptr b o))) (fact_i 𝓤 (x.ptr ≡ block_ptr b o) (emp 𝓤) at) $ join ! $
    use0 𝓛 (raw (fact 𝓤 (m + frame_size ≡ n))) (fact_i 𝓤 (m + frame_size ≡ n) (emp 𝓤) (omega arith)) $ join ! $
    nothing ! $ nothing ! $ fjoin ! $ move ! (3 ∷ 0 ∷ 2 ∷ 1 ∷ []) $
    by ! (leaves 𝓛 En₀ stays c z (pair_val (list_val start) (sized_val next m)) (s, y) (tt, tt) (tt, tt))))))
