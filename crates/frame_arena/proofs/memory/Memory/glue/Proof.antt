-- `glue` joins a frame and the bytes after it. Assumes `Logic`.
use Rattle.std.proofs.Common.{◌≡◌, ◌+◌, ◌^◌, ◌<◌, List, [], ◌∷◌, ◌++◌, refl, ap, ◌∙◌, lit<, arith}
use mir.Syntax.{Fn}
use mir.Val.{Val}
use base.Logic.{SProp, emp}
use prog.Wp.{Env, WpFn}
use contract.Monad.{fact, fact_i}
use contract.Running.{tables}
use types.Kit.{‵, raw, ◌⊛◌, prop, ◌$◌, ◌∵◌, !, qed, by, move, drop, use0, use1, use2, split, rewrite, regoal, fsplit, fjoin}
use types.Part.{whole, sub, agg}
use types.Run.{stop, fld, bin, of_opd, no_more, and_then, returns, enter}
use types.ByLocal.{alloc_all, pass_all, free_all, look_at, get, get_in, sets, env}
use denote.RattleType.{owns}
use denote.RawPtr.{Ptr, block_ptr}
use denote.Signature.{types_at}
use denote.Steps.{nothing, heard}
use denote.Triple.Entry.{alive}
use denote.Triple.Walked.{Stays, stay_dropped, walk_of}
use Rattle.std.proofs.alloc.Calls.{Goes-blank}
use Rattle.std.proofs.raw_atomic.Walks.{proved_at, leaves}
use Rattle.linked_list_allocator.proofs.Nodes.{glues, resized}
use Rattle.linked_list_allocator.proofs.Values.{list_val, list_told, sized_val, sized_own, sized_told, sized_made}
use Rattle.linked_list_allocator.proofs.Walks.{slot_at}
use Rattle.linked_list_allocator.specs.Ownership.{bytes_at}
use Rattle.frame_arena.specs.Size.{frame_size}
use Rattle.frame_arena.proofs.Big.{big_lit}
use Rattle.frame_arena.specs.contracts.memory.Memory as memory
use Rattle.frame_arena.specs.contracts.memory.Memory.glue.{ended, clauses}
use Rattle.frame_arena.specs.contracts.memory.Memory.glue.Key.{name as #self}
use Rattle.frame_arena.proofs.memory.Memory.glue.Statement.{statement}
use Rattle.frame_arena.proofs.memory.Memory.glue.Code as compiled

pub glue_spec : {M : Type 1} → statement M
glue_spec 𝓤 𝓛 𝓜 𝓡 wired =
    let H = 𝓛.H in
    let En₀ = ended in
    let c = clauses 𝓛 𝓜.mem 𝓡.returns in
    let fn : Fn = compiled.function in
    let stays : Stays En₀.signature.params En₀.kept = (stay_dropped (slot_at 0 En₀.signature.params) En₀.kept.0, (stay_dropped (slot_at 1 En₀.signature.params) En₀.kept.1.0, tt)) in
    let C = (tables 𝓤 H 𝓜 𝓡 𝓡.env).C in
    let Λ = (tables 𝓤 H 𝓜 𝓡 𝓡.env).Λ in
    proved_at 𝓛 En₀ stays c 𝓜 𝓡 (Goes-blank 𝓛 0 (slot_at 0 En₀.signature.params) En₀.kept.0 (λ κs x f. tt), (Goes-blank 𝓛 0 (slot_at 1 En₀.signature.params) En₀.kept.1.0 (λ κs x f. tt), tt)) #self fn (compiled.unfolded 𝓤 H 𝓜 𝓡 wired) (λ z are.
    let Post : Val → SProp 𝓤 = (walk_of 𝓛 En₀ stays c).post z in
    let a = z.0.3 in
    let vss = z.0.4 in
    let x = a.0 in
    let w = a.1.0 in
    let n = x.size in
    let b = w.block in
    let o = w.place in
    let start : Ptr = block_ptr b o in
    let next : Ptr = block_ptr b (o + frame_size) in
    let told = sized_told x.ptr n vss.0 are.0.0 in
    let taken = (list_told w.at vss.1.0 are.1.0.0).0 in
    let fits = told.1 in
    let even = x.fits.0 in
    let Asked : Type 0 = (x.ptr ≡ next) × (n + frame_size < 2 ^ 63) in
    qed 𝓛 ((raw (alive 𝓛 En₀.signature z.0.0 z.0.1) ⊛ ‵ (owns (types_at En₀.signature.params z.0.0) a vss)) ∷ raw (fact 𝓤 Asked) ∷ []) ∵ move ! (1 ∷ []) $ heard ! Asked (λ asked. split ! $ move ! (1 ∷ []) $
    let left : n + frame_size < 2 ^ 64 = omega (arith, asked.1) in
    fsplit ! $ fsplit ! $ drop ! $ rewrite ! 0 (λ (p : Ptr). ‵ (bytes_at p n)) asked.0 refl $ move ! (1 ∷ []) $ fsplit ! $ fsplit ! $ drop ! $ rewrite ! 0 (λ (p : Ptr). ‵ (bytes_at p frame_size)) w.placed refl $ move ! (0 ∷ 2 ∷ []) $
    use2 𝓛 (‵ (bytes_at start (frame_size + n))) (glues 𝓛 b o frame_size n refl) $ use1 𝓛 (‵ (bytes_at start (n + frame_size))) (resized 𝓛 b o (frame_size + n) (n + frame_size) (omega arith)) $ move ! (1 ∷ []) $ drop ! $
    regoal ! (λ (us : List Val). prop (WpFn 𝓤 H C Λ fn us Post)) (λ i. (told.0 ∙ ap (λ (p : Ptr). sized_val p n ∷ []) asked.0) i ++ ((taken ∙ ap (λ (p : Ptr). list_val p ∷ []) w.placed) i ++ [])) refl $
    enter ! C Λ fn (sized_val next n ∷ list_val start ∷ []) Post $
    alloc_all ! (λ l. pass_all ! refl ((tt, (tt, (record { fits = fits }, tt))), ((tt, (tt, tt)), tt)) $ let En : Env 𝓤 𝓛.H = env fn.locals l in
    sets ! (of_opd ! (get_in ! (fld ! refl (stop !)) (sub ! 1 refl (whole !)))) refl (tt, record { fits = fits }) $
    sets ! (of_opd ! (get_in ! (fld ! refl (stop !)) (sub ! 0 refl (whole !)))) refl (tt, tt) $
    sets ! (bin ! (get ! refl) (big_lit ! (record { fits = lit< tt })) (omega (arith, left))) refl (tt, record { fits = left }) $
    sets ! (agg ! (and_then ! (get ! refl) (and_then ! (get ! refl) (no_more !)))) refl (tt, (tt, (record { fits = left }, tt))) $
    returns ! (look_at ! 0 refl) $ free_all ! refl $
    let y : (memory.the_row).Denot = record { ptr = start; size = n + frame_size; fits = (omega (arith, even), asked.1) } in
    use0 𝓛 (‵ (sized_own start (n + frame_size) (sized_val start (n + frame_size) ∷ []))) (sized_made 𝓛 start (n + frame_size) left) $ fjoin ! $
    use0 𝓛 (raw (fact 𝓤 ((start ≡ start) × (n + frame_size ≡ n + frame_size)))) (fact_i 𝓤 ((start ≡ start) × (n + frame_size ≡ n + frame_size)) (emp 𝓤) (refl, refl)) $
    nothing ! $ nothing ! $ fjoin ! $ nothing ! $ fjoin ! $ move ! (3 ∷ 0 ∷ 2 ∷ 1 ∷ []) $
    by ! (leaves 𝓛 En₀ stays c z (sized_val start (n + frame_size)) y (tt, (tt, tt)) (tt, (tt, tt))))))
