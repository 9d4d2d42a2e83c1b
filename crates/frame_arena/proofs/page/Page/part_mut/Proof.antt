-- `part_mut` lends a part of the bytes behind the pointer, and the page follows it. Assumes `Logic`.
use Rattle.std.proofs.Common.{◌≡◌, ℕ, ◌+◌, ◌-◌, ◌≤◌, List, [], ◌∷◌, ◌++◌, length, length-append, take, drop as drop_list, take-append-drop, take_all, length-drop, refl, sym, ap, ◌∙◌, arith, MutBor, w64}
use mir.Syntax.{named}
use mir.Val.{Val, vint, vptr}
use base.Fraction.{full_share}
use base.Logic.{ent, sep, id⊢}
use base.Fml.{GName, Fml, ftrue, fsep, feq, flft}
use contract.Monad.{fact}
use contract.Running.{tables}
use types.Logic.{sem}
use types.Kit.{‵, raw, ◌⊛◌, some, later, at_ret, ◌$◌, ◌∵◌, !, qed, move, keep, use1, use2, split, join, pick, fsplit, fsplit3, fjoin, fpack, feq_l, feq_i, await, rewrite, group, suffices, frame, done}
use types.Part.{whole, sub, look_in, agg}
use types.Run.{stop, fld, load, bin, of_opd, and_then, no_more, first, blocks, exec, returns, enter}
use types.ByLocal.{alloc_all, pass_all, free_all, look_at, get, through, is, sets, sets_last, env}
use types.SemTy.{cells}
use denote.ArrayMemory.{Array-apart, Array-whole}
use denote.Builtin.{u8, usize}
use denote.Exit.{yes, no}
use denote.Follow.{follows}
use denote.FollowSlice.{Elements, lends_Elements}
use denote.Array.{Array}
use denote.Index.{row, whole_in, whole_out}
use denote.Laws.{shows}
use denote.Memory.{cell_at, part_at, part_of, mem}
use denote.Plain.{uint_vals, uint_Tells}
use denote.RawPtr.{Ptr, block_ptr}
use denote.RattleType.{owns}
use denote.Ref.{MutRef, mut_vals, mut_Tells}
use denote.Signature.{plain, mut_ref_to}
use denote.Slice.{MutSlice, slice_val}
use denote.Steps.{nothing, heard, opens, peeks}
use denote.Triple.Walked.{Stays, walk_of, says, stay_dropped, Goes-dropped, Goes-spent_ref, ends_at}
use borrow.Table.Elements.{at as place_at, at_mul, length-take-le, cut_app, join_app}
use Rattle.std.proofs.VecSteps.Shapes.{after}
use Rattle.std.proofs.raw_atomic.Walks.{proved}
use Rattle.linked_list_allocator.proofs.Values.{list_val, list_own, list_told}
use Rattle.frame_arena.specs.Size.{frame_size}
use Rattle.frame_arena.specs.Links.{Frame, around, page_at}
use Rattle.frame_arena.specs.LendingPages.{with_bytes, with_part}
use Rattle.frame_arena.specs.contracts.page.Page.{the_row as R}
use Rattle.frame_arena.specs.contracts.page.Page.part_mut as f
use Rattle.frame_arena.proofs.page.Page.part_mut.Statement.{statement}
use Rattle.frame_arena.proofs.page.Page.part_mut.Code as code

-- what is written is all of the part
replaced : (xs : List ℕ) (m : ℕ) (w : List ℕ) (n : ℕ) → m + length w ≤ frame_size → length w ≡ n → take m xs ++ (w ++ drop_list n (drop_list m xs)) ≡ with_part xs m w
replaced xs m w n fits e =
    let whole : w ≡ take (frame_size - m) w = sym (take_all (frame_size - m) w (omega (arith, fits))) in
    ap (λ (k : ℕ). take m xs ++ (w ++ drop_list k (drop_list m xs))) (sym e) ∙ ap (λ (z : List ℕ). take m xs ++ (z ++ drop_list (length z) (drop_list m xs))) whole

abbrev stayed : Stays f.ended.signature.params f.ended.kept
stayed = (stay_dropped (mut_ref_to (0 ∷ []) tt (plain (λ _. R))) no, (stay_dropped (plain (λ _. usize)) yes, (stay_dropped (plain (λ _. usize)) yes, tt)))

pub part_mut_spec : {M : Type 1} → statement M
unfolding part_of
part_mut_spec 𝓤 𝓛 𝓜 𝓡 wired =
    let c = f.clauses 𝓛 𝓜.mem 𝓡.returns in let W = walk_of 𝓛 f.ended stayed c in let 𝓣 = tables 𝓤 𝓛.H 𝓜 𝓡 𝓡.env in
    proved 𝓛 f.ended stayed c 𝓜 𝓡 (Goes-spent_ref 𝓛 1 (0 ∷ []) tt (plain (λ _. R)), (Goes-dropped 𝓛 1 (plain (λ _. usize)) yes (λ κs x f. refl), (Goes-dropped 𝓛 1 (plain (λ _. usize)) yes (λ κs x f. refl), tt)))
    f.Key.name code.function (code.unfolded 𝓤 𝓛.H 𝓜 𝓡 wired)
    (λ κs. (mut_vals, (uint_vals w64, (uint_vals w64, tt)))) (λ κs. (mut_Tells (named 0) κs.0 R, (uint_Tells w64, (uint_Tells w64, tt)))) (λ κs qs bounds a _ are.
    let κ = κs.0 in let q = qs.0 in let rb = a.0.ref_ptr.0 in let ro = a.0.ref_ptr.1 in let γ = a.0.ghost_name in let h = a.0.now in
    let b = h.block in let o = h.place in let xs : List ℕ = h.bytes in
    let m = a.1.0 in let n = a.1.1.0 in let fm = are.1.0.1 in let fn = are.1.1.0.1 in
    let y : W.Ghost = ((κs, qs, bounds, a, (mut_vals a.0, (vint w64 m ∷ [], (vint w64 n ∷ [], tt)))), tt) in
    let Asked : Type 0 = m + n ≤ frame_size in
    qed 𝓛 (((‵ (flft κ q) ⊛ ‵ ftrue) ⊛ ‵ (owns (MutRef (named 0) κ R ∷ usize ∷ usize ∷ []) a (mut_vals a.0, (vint w64 m ∷ [], (vint w64 n ∷ [], tt))))) ∷ raw (fact 𝓤 Asked) ∷ []) ∵
    move ! (1 ∷ []) $ heard ! Asked (λ le. split ! $ split ! $ move ! (2 ∷ []) $ fsplit ! $ keep ! (0 ∷ 2 ∷ []) $
    enter ! _ _ _ _ _ $ alloc_all ! (λ l. pass_all ! refl ((tt, tt), ((tt, record { fits = fm }), ((tt, record { fits = fn }), tt))) $
    fsplit3 ! $ move ! (1 ∷ 2 ∷ 3 ∷ []) $ opens ! tt R rb ro (λ us.
    move ! (1 ∷ []) $ peeks ! R _ (shows 𝓛 R) h us (λ is₀. fsplit ! $ move ! (1 ∷ []) $
    rewrite ! 0 (λ (p : Ptr). ‵ (page_at p xs)) h.placed refl $ fsplit ! $
    let word : us ≡ list_val (block_ptr b o) ∷ [] = (list_told h.at us is₀.0).0 ∙ ap (λ (p : Ptr). list_val p ∷ []) h.placed in
    let Cell = λ (ws : List Val). ‵ (cell_at full_share R.mir ws rb ro) in
    rewrite ! 3 Cell word refl $
    -- [the bytes; the way back; what the field owns; the struct's cell; the open borrow, in three entries]
    sets ! (of_opd ! (load ! (through ! refl (fld ! refl (stop !))) (look_in ! 3 (sub ! 0 refl (whole !))))) refl (tt, tt) $
    sets ! (of_opd ! (get ! refl)) refl (tt, tt) $
    first ! $ blocks ! $
    sets ! (is ! (bin ! (get ! refl) (get ! refl) tt) (ap (vptr b) (omega arith))) refl (tt, tt) $
    sets_last ! (agg ! (and_then ! (get ! refl) (and_then ! (get ! refl) (no_more !)))) refl (tt, (tt, (record { fits = fn }, tt))) $
    exec ! 𝓣.C 𝓣.Λ (env code.Mir.locals l) (after 3 (code.function).body) (at_ret _ (W.post y)) $
    sets ! (of_opd ! (get ! refl)) refl (tt, (tt, (record { fits = fn }, tt))) $
    rewrite ! 3 Cell (sym word) refl $
    use1 𝓛 (‵ (fsep (feq ℕ (length xs) frame_size) (row u8 full_share xs b o))) (Array-apart 𝓛 u8 full_share tt frame_size xs b o) $ fsplit ! $ feq_l ! (λ all.
    use1 𝓛 (‵ (cells (mem u8) xs b o)) (whole_in 𝓛 u8 xs b o) $
    let front : List ℕ = take m xs in let mid : List ℕ = take n (drop_list m xs) in let back : List ℕ = drop_list n (drop_list m xs) in
    let lf : length front ≡ m = length-take-le m xs (omega (arith, le, all)) in
    let lb : length (drop_list m xs) ≡ length xs - m = length-drop m xs in
    let long : length mid ≡ n = length-take-le n (drop_list m xs) (omega (arith, le, lb, all)) in
    let cut : xs ≡ front ++ (mid ++ back) = sym (take-append-drop m xs) ∙ ap (λ (l : List ℕ). front ++ l) (sym (take-append-drop n (drop_list m xs))) in
    let p : ℕ = m + o in
    let on : place_at o (mem u8).size (length front) ≡ p = at_mul o (mem u8).size (length front) ∙ omega (arith, lf) in
    rewrite ! 0 (λ (l : List ℕ). ‵ (cells (mem u8) l b o)) cut refl $
    use1 𝓛 (‵ (cells (mem u8) front b o) ⊛ ‵ (cells (mem u8) (mid ++ back) b (place_at o (mem u8).size (length front)))) (cut_app 𝓛 (mem u8) front (mid ++ back) b o) $ split ! $ move ! (1 ∷ []) $
    rewrite ! 0 (λ (k : ℕ). ‵ (cells (mem u8) (mid ++ back) b k)) on refl $
    use1 𝓛 (‵ (cells (mem u8) mid b p) ⊛ ‵ (cells (mem u8) back b (place_at p (mem u8).size (length mid)))) (cut_app 𝓛 (mem u8) mid back b p) $ split ! $
    let Rest : Fml = fsep (cells (mem u8) front b o) (fsep (cells (mem u8) back b (place_at p (mem u8).size (length mid))) (fsep (around (block_ptr b o)) (fsep (list_own h.at us) (cell_at full_share R.mir us rb ro)))) in
    let given_back : (w : List ℕ) → length w ≡ length mid → ent 𝓤 (sep 𝓤 (sem 𝓛 (cells (mem u8) w b p)) (sem 𝓛 Rest)) (sem 𝓛 ((mem R).own_at (with_bytes h (with_part xs m w)) rb ro)) = λ w e.
    (let now : List ℕ = front ++ (w ++ back) in
    let is_part : now ≡ with_part xs m w = replaced xs m w n (omega (arith, e, long, le)) (e ∙ long) in
    let sum : length xs ≡ length front + length (mid ++ back) = ap length cut ∙ length-append front (mid ++ back) in
    let inner : length (mid ++ back) ≡ length mid + length back = length-append mid back in
    let now_sum : length now ≡ length front + length (w ++ back) = length-append front (w ++ back) in
    let now_inner : length (w ++ back) ≡ length w + length back = length-append w back in
    qed 𝓛 (‵ (cells (mem u8) w b p) ∷ ‵ Rest ∷ []) ∵ move ! (1 ∷ []) $ fsplit ! $ move ! (1 ∷ []) $ fsplit ! $
    rewrite ! 0 (λ (k : ℕ). ‵ (cells (mem u8) back b (place_at p (mem u8).size k))) (sym e) refl $ move ! (3 ∷ 0 ∷ []) $
    use2 𝓛 (‵ (cells (mem u8) (w ++ back) b p)) (join_app 𝓛 (mem u8) w back b p) $
    rewrite ! 0 (λ (k : ℕ). ‵ (cells (mem u8) (w ++ back) b k)) (sym on) refl $ move ! (2 ∷ 0 ∷ []) $
    use2 𝓛 (‵ (cells (mem u8) now b o)) (join_app 𝓛 (mem u8) front (w ++ back) b o) $
    use1 𝓛 (‵ (row u8 full_share now b o)) (whole_out 𝓛 u8 now b o) $ feq_i ! ℕ (length now) frame_size (omega (arith, e, sum, inner, now_sum, now_inner, all)) $ fjoin ! $
    use1 𝓛 (‵ (part_at Frame full_share now b o)) (Array-whole 𝓛 u8 full_share frame_size now b o) $ move ! (1 ∷ []) $ fsplit ! $ move ! (1 ∷ []) $ fsplit ! $ move ! (3 ∷ 2 ∷ []) $ fjoin ! $
    rewrite ! 0 (λ (p : Ptr). ‵ (page_at p now)) (sym h.placed) refl $ move ! (1 ∷ 0 ∷ []) $ fjoin ! $ move ! (1 ∷ 0 ∷ []) $ fjoin ! $
    fpack ! (List Val) (λ ws. fsep (cell_at full_share R.mir ws rb ro) (R.own_val (with_bytes h now) ws)) us $
    rewrite ! 0 (λ (z : List ℕ). ‵ ((mem R).own_at (with_bytes h z) rb ro)) is_part refl $ done !) in
    -- [the part; the bytes after it; those before it; the way back; what the field owns; the struct's cell; the open borrow]
    move ! (4 ∷ 5 ∷ []) $ fjoin ! $ move ! (4 ∷ 0 ∷ []) $ fjoin ! $ move ! (2 ∷ 0 ∷ []) $ fjoin ! $ move ! (2 ∷ 0 ∷ []) $ fjoin ! $ move ! (2 ∷ 3 ∷ 4 ∷ 1 ∷ 0 ∷ []) $ group ! 5 $
    use1 𝓛 (later (some (λ (γ' : GName). raw (Elements 𝓛 R u8 (λ w. with_bytes h (with_part xs m w)) (named 0) κ q rb ro b p γ mid (omega (arith, long, fn), omega (arith, long, le)) (sem 𝓛 Rest) given_back γ'))))
    (lends_Elements 𝓛 R u8 (λ w. with_bytes h (with_part xs m w)) (named 0) κ q rb ro b p γ mid (omega (arith, long, fn), omega (arith, long, le)) (sem 𝓛 Rest) given_back (R.coded.code h) (R.coded.code h)) $ await ! tt $ pick ! (λ γ'.
    returns ! (look_at ! 0 refl) $ free_all ! refl $ keep ! (0 ∷ []) $
    let lent : MutBor (List ℕ) = record { ref_ptr = (b, p); ghost_name = γ'; now = mid } in
    use1 𝓛 (‵ ((MutSlice (named 0) κ u8).own_val lent (slice_val (b, p) (length mid) ∷ [])) ⊛ (‵ (flft κ q) ⊛ (‵ (follows R (Array u8 0) γ γ' (λ w. with_bytes h (with_part xs m w)))))) (id⊢ 𝓤 _) $
    split ! $ rewrite ! 0 (λ (k : ℕ). ‵ ((MutSlice (named 0) κ u8).own_val lent (slice_val (b, p) k ∷ []))) long refl $ move ! (1 ∷ []) $ split ! $ move ! (2 ∷ []) $
    suffices ! _ (ends_at 𝓛 f.ended stayed c y (slice_val (b, p) n) lent (tt, (tt, (tt, tt))) (tt, (tt, (tt, tt)))) $
    nothing ! $ nothing ! $ fjoin ! $ nothing ! $ fjoin ! $ nothing ! $ fjoin ! $ join ! $ nothing ! $ move ! (2 ∷ 0 ∷ []) $ join ! $ join ! $ frame ! $ says ! (refl, long) $ done !)))))))
