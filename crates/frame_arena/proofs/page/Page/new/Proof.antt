-- `new` writes the bytes over the whole frame. Assumes `Logic`.
use Rattle.std.proofs.Common.{◌≡◌, List, [], ◌∷◌, ◌++◌, refl, ap, ◌∙◌}
use mir.Syntax.{Fn}
use mir.Val.{Val}
use base.Fraction.{full_share}
use base.Logic.{SProp, emp}
use base.Fml.{ftrue, froom}
use prog.Wp.{Env, WpFn}
use contract.Monad.{fact, fact_i}
use contract.Running.{tables}
use types.Kit.{‵, raw, ◌⊛◌, prop, at_ret, ◌$◌, ◌∵◌, !, qed, by, move, drop, use0, use1, use2, split, rewrite, regoal, fsplit, fsplit3, fjoin}
use types.Part.{whole, sub, agg}
use types.Run.{stop, fld, init, of_opd, no_more, and_then, assigns_last, first, blocks, exec, returns, enter}
use types.ByLocal.{alloc_all, pass_all, free_all, look_at, get, get_in, through, sets, env}
use denote.RattleType.{owns}
use denote.RawPtr.{Ptr, block_ptr}
use denote.Memory.{part_at}
use denote.Signature.{types_at}
use denote.Steps.{nothing}
use denote.Triple.Entry.{alive}
use denote.Triple.Walked.{Stays, stay_dropped, walk_of, Goes-dropped}
use borrow.Table.OneValue.{part_in}
use Rattle.std.proofs.alloc.Calls.{Goes-blank}
use Rattle.std.proofs.cell.Inside.{one}
use Rattle.std.proofs.VecSteps.Shapes.{after}
use Rattle.std.proofs.raw_atomic.Walks.{proved_at, leaves}
use Rattle.linked_list_allocator.proofs.Values.{list_val, list_own, list_told, list_made}
use Rattle.linked_list_allocator.proofs.Walks.{slot_at}
use Rattle.linked_list_allocator.specs.Ownership.{bytes_at, units_of}
use Rattle.frame_arena.specs.Size.{frame_size}
use Rattle.frame_arena.specs.Links.{Frame, frame_type, around}
use Rattle.frame_arena.proofs.Frames.{frame_Lawful}
use Rattle.frame_arena.specs.contracts.page.Page as page
use Rattle.frame_arena.specs.contracts.page.Page.new.{ended, clauses}
use Rattle.frame_arena.specs.contracts.page.Page.new.Key.{name as #self}
use Rattle.frame_arena.proofs.page.Page.new.Statement.{statement}
use Rattle.frame_arena.proofs.page.Page.new.Code as compiled

pub new_spec : {M : Type 1} → statement M
new_spec 𝓤 𝓛 𝓜 𝓡 wired =
    let H = 𝓛.H in
    let En₀ = ended in
    let c = clauses 𝓛 𝓜.mem 𝓡.returns in
    let fn : Fn = compiled.function in
    let stays : Stays En₀.signature.params En₀.kept = (stay_dropped (slot_at 0 En₀.signature.params) En₀.kept.0, (stay_dropped (slot_at 1 En₀.signature.params) En₀.kept.1.0, tt)) in
    let C = (tables 𝓤 H 𝓜 𝓡 𝓡.env).C in
    let Λ = (tables 𝓤 H 𝓜 𝓡 𝓡.env).Λ in
    proved_at 𝓛 En₀ stays c 𝓜 𝓡 (Goes-blank 𝓛 0 (slot_at 0 En₀.signature.params) En₀.kept.0 (λ κs x f. tt), (Goes-dropped 𝓛 0 (slot_at 1 En₀.signature.params) En₀.kept.1.0 (λ κs x f. refl), tt)) #self fn (compiled.unfolded 𝓤 H 𝓜 𝓡 wired) (λ z are.
    let Post : Val → SProp 𝓤 = (walk_of 𝓛 En₀ stays c).post z in
    let a = z.0.3 in
    let vss = z.0.4 in
    let w = a.0 in
    let xs = a.1.0 in
    let b = w.block in
    let o = w.place in
    let told = (list_told w.at vss.0 are.0.0).0 in
    let from : Ptr = block_ptr b o in
    let got = one frame_type vss.1.0 ((frame_Lawful 𝓛).typed xs vss.1.0 are.1.0) in
    let v : Val = got.0 in
    let typed = got.2 in
    qed 𝓛 ((raw (alive 𝓛 En₀.signature z.0.0 z.0.1) ⊛ ‵ (owns (types_at En₀.signature.params z.0.0) a vss)) ∷ ‵ ftrue ∷ []) ∵ move ! (1 ∷ []) $ drop ! $ split ! $ move ! (1 ∷ []) $
    fsplit3 ! $ fsplit ! $ drop ! $ move ! (2 ∷ []) $ drop ! $ rewrite ! 0 (λ (p : Ptr). ‵ (bytes_at p frame_size)) w.placed refl $ rewrite ! 1 (λ (us : List Val). ‵ (Frame.own_val xs us)) got.1 refl $
    use1 𝓛 (‵ (froom frame_type b o) ⊛ ‵ (around from)) (𝓛.laws.room_as (units_of frame_size) frame_type b o refl tt) $ split ! $
    -- [the room; the way back; the bytes' own; ..]
    regoal ! (λ (us : List Val). prop (WpFn 𝓤 H C Λ fn us Post)) (λ i. (told ∙ ap (λ (p : Ptr). list_val p ∷ []) w.placed) i ++ (got.1 i ++ [])) refl $
    enter ! C Λ fn (list_val from ∷ v ∷ []) Post $
    alloc_all ! (λ l. pass_all ! refl ((tt, (tt, tt)), (typed, tt)) $ let En : Env 𝓤 𝓛.H = env fn.locals l in
    sets ! (of_opd ! (get_in ! (fld ! refl (stop !)) (sub ! 0 refl (whole !)))) refl (tt, tt) $
    sets ! (of_opd ! (get ! refl)) refl (tt, tt) $
    first ! $ blocks ! $
    assigns_last ! (of_opd ! (get ! refl)) (through ! refl (stop !)) (init ! 0 refl typed) $
    exec ! C Λ En (after 3 fn.body) (at_ret En Post) $
    sets ! (agg ! (and_then ! (get ! refl) (no_more !))) refl (tt, (tt, tt)) $
    returns ! (look_at ! 0 refl) $ free_all ! refl $
    move ! (0 ∷ 2 ∷ []) $ use2 𝓛 (‵ (part_at Frame full_share xs b o)) (part_in 𝓛 Frame refl full_share xs b o v) $ fjoin ! $
    let y : (page.the_row).Denot = record { at = from; block = b; place = o; placed = refl; bytes = xs } in
    use0 𝓛 (‵ (list_own from (list_val from ∷ []))) (list_made 𝓛 from tt) $ fjoin ! $
    use0 𝓛 (raw (fact 𝓤 ((b ≡ b) × (o ≡ o) × (xs ≡ xs)))) (fact_i 𝓤 ((b ≡ b) × (o ≡ o) × (xs ≡ xs)) (emp 𝓤) (refl, refl, refl)) $
    nothing ! $ nothing ! $ fjoin ! $ nothing ! $ fjoin ! $ move ! (3 ∷ 0 ∷ 2 ∷ 1 ∷ []) $
    by ! (leaves 𝓛 En₀ stays c z (list_val from) y (tt, (tt, tt)) (tt, (tt, tt)))))
