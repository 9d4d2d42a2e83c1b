-- What holds of a world that is held, where registers are exchanged and monitors are emptied.
use Rattle.std.proofs.Common.{◌≡◌, ◌<◌, ◌≤◌, ℕ, ◌+◌, Bool, true, false, is_some, List, length, get_or, map, sym, ap, subst, ◌∙◌}
use Rattle.std.proofs.lemmas.List.{length-map}
use Rattle.emu_model.specs.State.{Parts}
use Rattle.emu_run.specs.Worlds.{Context, is_ready, no_context}
use Rattle.guest_contexts.specs.Laid.{laid}
use Rattle.guest_contexts.proofs.Kept.{ready_laid, ready_mapped, unwatched_at, unwatched_laid}
use Rattle.guest_contexts.proofs.Laid.{laid_length, loaded}
use Rattle.guest_threads.specs.Ends.{IsInside}

module _ (capacity spares : ℕ) (numbers : List ℕ) where
  -- a change of each context by which it stands as before
  pub inside_mapped : (f : Context → Context) → ((c : Context) → is_ready (f c) ≡ is_ready c) → (last : ℕ) (cs : List Context) (unwatched : Bool)
      → IsInside last cs capacity spares numbers unwatched → IsInside last (map f cs) capacity spares numbers false
  inside_mapped f stands last cs unwatched i =
      let long : length (map f cs) ≡ length cs = length-map cs f in
      record {
        last = subst (λ (n : ℕ). last < n) (sym long) i.last;
        most = subst (λ (n : ℕ). n ≤ 64) (sym long) i.most;
        room = i.room;
        spare = subst (λ (n : ℕ). 64 ≤ n + spares) (sym long) i.spare;
        ready = ready_mapped f stands cs numbers i.ready;
        quiet = λ (h : false ≡ true). cc;
      }

  -- registers of a machine at context k
  inside_laid : (m : Parts) (k last : ℕ) (cs : List Context) (u v : Bool) → IsInside last cs capacity spares numbers u → (v ≡ true → (u ≡ true) × (is_some m.core.monitor ≡ false))
      → IsInside last (laid m k cs) capacity spares numbers v
  inside_laid m k last cs u v i knows =
      let long : length (laid m k cs) ≡ length cs = laid_length m k cs in
      record {
        last = subst (λ (n : ℕ). last < n) (sym long) i.last;
        most = subst (λ (n : ℕ). n ≤ 64) (sym long) i.most;
        room = i.room;
        spare = subst (λ (n : ℕ). 64 ≤ n + spares) (sym long) i.spare;
        ready = ready_laid m k cs numbers i.ready;
        quiet = λ h. unwatched_laid m k cs (i.quiet (knows h).0) (knows h).1;
      }

  -- a machine that has exchanged its registers with those of its context, and then with those of context k
  pub inside_brought : (m m1 : Parts) (last k : ℕ) (cs cs1 cs2 : List Context) (u v : Bool) → IsInside last cs capacity spares numbers u → k < length cs
      → (v ≡ true → (u ≡ true) × (is_some m.core.monitor ≡ false)) → m1 ≡ loaded m (get_or cs last no_context) → cs1 ≡ laid m last cs → cs2 ≡ laid m1 k cs1
      → IsInside k cs2 capacity spares numbers v
  inside_brought m m1 last k cs cs1 cs2 u v i within knows same first second =
      let here : IsInside k cs capacity spares numbers u = record { last = within; most = i.most; room = i.room; spare = i.spare; ready = i.ready; quiet = i.quiet } in
      let one : IsInside k cs1 capacity spares numbers v = subst (λ (l : List Context). IsInside k l capacity spares numbers v) (sym first) (inside_laid m last k cs u v here knows) in
      let none : v ≡ true → (v ≡ true) × (is_some m1.core.monitor ≡ false) =
      λ h. (h, ap (λ (x : Parts). is_some x.core.monitor) same ∙ unwatched_at cs last (i.quiet (knows h).0)) in
      subst (λ (l : List Context). IsInside k l capacity spares numbers v) (sym second) (inside_laid m1 k k cs1 v v one none)
