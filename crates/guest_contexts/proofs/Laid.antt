-- A world whose machine has the registers of one of its contexts, and what changes of its machine and of its contexts make of it.
use Rattle.std.proofs.Common.{◌≡◌, ◌<◌, ℕ, zero, suc, ◌-◌, true, false, ◌&&◌, is_some, List, [], ◌∷◌, ◌++◌, length, get_or, set, map, Option, Some, None, nat_lt, if◌then◌else◌, refl, sym, ap, subst, ◌∙◌, arith}
use Rattle.std.proofs.lemmas.Bool.{or_parts}
use Rattle.std.proofs.lemmas.List.{get_or-set_same, length-set, set-set, set-get_or, map-set}
use Rattle.std.specs.Prelude.{filter, min}
use Rattle.std.specs.List.{list_any, list_all, range_with_len}
use Rattle.emu_model.specs.declared.access.Access.{Access}
use Rattle.emu_model.specs.State.{Parts}
use Rattle.emu_system.specs.SystemCall.{returned}
use Rattle.emu_run.specs.declared.thread.Standing.{Standing}
use Rattle.emu_run.specs.declared.thread.Standing.TheVariants.{Ready}
use Rattle.emu_run.specs.ThreadCall.{answered, with_started}
use Rattle.emu_run.specs.Worlds.{Context, context, no_context, is_ready, is_gone, waits_at, ready, parts_with, apart, with_context, taken_by_context, woken, woken_context, with_woken, wake_count, with_monitor, monitor_behind, behind_accesses, others_behind, without_monitors}
use Rattle.guest_contexts.specs.Laid.{with_machine, laid, world_of}
use Rattle.guest_contexts.specs.Standings.{has_monitor, ready_among}
use Rattle.guest_contexts.proofs.Lists.{count_same, same_at, same_any, same_all, filter_same, set_pushed, get_pushed}

-- ---- registers that are exchanged with those of another context

-- the machine with the registers of a context
abbrev pub loaded : Parts → Context → Parts
loaded m c = record m { core = c.core; vectors = c.vectors }

module _ (m : Parts) (last k : ℕ) (cs : List Context) (within : k < length cs) where
  -- the contexts, with the machine's registers back at theirs
  abbrev back : List Context
  back = set cs last (with_machine (get_or cs last no_context) m)

  brought_contexts : (d : Context) → set (set back k (with_machine (get_or back k no_context) (loaded m d))) k (with_machine (get_or (set back k (with_machine (get_or back k no_context) (loaded m d))) k no_context) (loaded (loaded m d) (get_or back k no_context))) ≡ back
  brought_contexts d =
      let here : Context = get_or back k no_context in
      let stale : Context = with_machine here (loaded m d) in
      let within_back : k < length back = subst (λ (n : ℕ). k < n) (sym (length-set cs last (with_machine (get_or cs last no_context) m))) within in
      ap (λ (c : Context). set (set back k stale) k (with_machine c (loaded (loaded m d) here))) (get_or-set_same back k stale no_context within_back)
      ∙ set-set back k stale here
      ∙ set-get_or back k no_context

  -- a machine that has exchanged its registers with those of its context, and then with those of context k
  pub brought : (m1 m2 : Parts) (cs1 cs2 : List Context) → m1 ≡ loaded m (get_or cs last no_context) → cs1 ≡ back
      → m2 ≡ loaded m1 (get_or cs1 k no_context) → cs2 ≡ set cs1 k (with_machine (get_or cs1 k no_context) m1)
      → world_of m2 k cs2 ≡ taken_by_context k (world_of m last cs)
  brought m1 m2 cs1 cs2 a b c d =
      let one : world_of m2 k cs2 ≡ world_of (loaded m1 (get_or cs1 k no_context)) k (set cs1 k (with_machine (get_or cs1 k no_context) m1)) =
      ap (λ (x : Parts). world_of x k cs2) c ∙ ap (λ (x : List Context). world_of (loaded m1 (get_or cs1 k no_context)) k x) d in
      let two : world_of (loaded m1 (get_or cs1 k no_context)) k (set cs1 k (with_machine (get_or cs1 k no_context) m1)) ≡ world_of (loaded (loaded m (get_or cs last no_context)) (get_or back k no_context)) k (set back k (with_machine (get_or back k no_context) (loaded m (get_or cs last no_context)))) =
      ap (λ (x : Parts). world_of (loaded x (get_or cs1 k no_context)) k (set cs1 k (with_machine (get_or cs1 k no_context) x))) a
      ∙ ap (λ (x : List Context). world_of (loaded (loaded m (get_or cs last no_context)) (get_or x k no_context)) k (set x k (with_machine (get_or x k no_context) (loaded m (get_or cs last no_context))))) b in
      one ∙ two ∙ ap (λ (x : List Context). record (world_of m k cs) { contexts = x }) (brought_contexts (get_or cs last no_context))

-- a place in the contexts of a world is one in the list
pub within_list : (m : Parts) (last k : ℕ) (cs : List Context) → k < length (world_of m last cs).contexts → k < length cs
within_list m last k cs h = subst (λ (n : ℕ). k < n) (length-set cs last (with_machine (get_or cs last no_context) m)) h

pub laid_length : (m : Parts) (last : ℕ) (cs : List Context) → length (laid m last cs) ≡ length cs
laid_length m last cs = length-set cs last (with_machine (get_or cs last no_context) m)

-- ---- what doesn't rest on registers

-- the numbers below n of those that are ready
abbrev pub filter_of : List Context → ℕ → List ℕ
filter_of cs n = filter (λ k. is_ready (get_or cs k no_context)) (range_with_len 0 n)

get_or_mapped : (f : Context → Context) (cs : List Context) (k : ℕ) → k < length cs → get_or (map f cs) k no_context ≡ f (get_or cs k no_context)
get_or_mapped f [] k h = absurd (omega (arith, h))
get_or_mapped f (c ∷ cs) zero h = refl
get_or_mapped f (c ∷ cs) (suc k) h = get_or_mapped f cs k (omega (arith, h))

module _ (m : Parts) (last : ℕ) (cs : List Context) where
  pub ready_at_same : (k : ℕ) → is_ready (get_or (laid m last cs) k no_context) ≡ is_ready (get_or cs k no_context)
  ready_at_same k = same_at is_ready no_context cs last k (with_machine (get_or cs last no_context) m) refl

  pub some_ready_same : list_any is_ready (laid m last cs) ≡ list_any is_ready cs
  some_ready_same = same_any is_ready no_context cs last (with_machine (get_or cs last no_context) m) refl

  pub all_gone_same : list_all is_gone (laid m last cs) ≡ list_all is_gone cs
  all_gone_same = same_all is_gone no_context cs last (with_machine (get_or cs last no_context) m) refl

  pub ready_same : ready_among (laid m last cs) ≡ ready_among cs
  ready_same =
      filter_same (λ k. is_ready (get_or (laid m last cs) k no_context)) (λ k. is_ready (get_or cs k no_context)) ready_at_same (range_with_len 0 (length (laid m last cs)))
      ∙ ap (λ (n : ℕ). filter_of cs n) (laid_length m last cs)

-- ---- the context whose registers the machine has

module _ (m : Parts) (last : ℕ) (cs : List Context) (within : last < length cs) where
  pub own_is : context (world_of m last cs) last ≡ with_machine (get_or cs last no_context) m
  own_is = get_or-set_same cs last (with_machine (get_or cs last no_context) m) no_context within

  -- joined with what is shared it is the machine
  pub joined_is : parts_with (world_of m last cs) (context (world_of m last cs) last) ≡ m
  joined_is = ap (λ (c : Context). parts_with (world_of m last cs) c) own_is

  pub standing_is : (context (world_of m last cs) last).standing ≡ (get_or cs last no_context).standing
  standing_is = ap (λ (c : Context). c.standing) own_is

  pub clear_is : (context (world_of m last cs) last).clear ≡ (get_or cs last no_context).clear
  clear_is = ap (λ (c : Context). c.clear) own_is

  -- what the machine's step leaves, taken apart, is the world with the machine behind the step
  pub stepped_is : (n : Parts) → (context (world_of m last cs) last).standing ≡ Ready → world_of n last cs ≡ apart (world_of m last cs) last Ready n
  stepped_is n ready =
      let c : Context = get_or cs last no_context in
      let whole : set (set cs last (with_machine c m)) last (record (context (world_of m last cs) last) { core = n.core; vectors = n.vectors; standing = Ready }) ≡ set cs last (with_machine c n) =
      ap (λ (d : Context). set (set cs last (with_machine c m)) last (record d { core = n.core; vectors = n.vectors; standing = Ready })) own_is
      ∙ set-set cs last (with_machine c m) (record c { core = n.core; vectors = n.vectors; standing = Ready })
      ∙ ap (λ (s : Standing). set cs last (record c { core = n.core; vectors = n.vectors; standing = s })) (sym (sym standing_is ∙ ready)) in
      ap (λ (x : List Context). record (world_of n last cs) { contexts = x }) (sym whole)

  -- it returns from a call
  pub answered_is : (v : ℕ) → (context (world_of m last cs) last).standing ≡ Ready → world_of (returned m v) last cs ≡ answered (world_of m last cs) last v
  answered_is v ready = stepped_is (returned m v) ready ∙ ap (λ (x : Parts). apart (world_of m last cs) last Ready (returned x v)) (sym joined_is)

  changed_list : (d : Context) → laid m last (set cs last d) ≡ set cs last (with_machine d m)
  changed_list d =
      ap (λ (c : Context). set (set cs last d) last (with_machine c m)) (get_or-set_same cs last d no_context within)
      ∙ set-set cs last d (with_machine d m)

  changed_world : (d e : Context) → with_machine d m ≡ e → world_of m last (set cs last d) ≡ with_context (world_of m last cs) last e
  changed_world d e is =
      ap (λ (x : List Context). record (world_of m last cs) { contexts = x }) (
      changed_list d ∙ ap (λ (c : Context). set cs last c) is ∙ sym (set-set cs last (with_machine (get_or cs last no_context) m) e))

  -- it stands so, and has this clear address
  pub stands_is : (s : Standing) → world_of m last (set cs last (record (get_or cs last no_context) { standing = s }))
      ≡ with_context (world_of m last cs) last (record (context (world_of m last cs) last) { standing = s })
  stands_is s =
      changed_world (record (get_or cs last no_context) { standing = s }) (record (context (world_of m last cs) last) { standing = s })
      (ap (λ (c : Context). record c { standing = s }) (sym own_is))

  pub clears_is : (a : ℕ) → world_of m last (set cs last (record (get_or cs last no_context) { clear = a }))
      ≡ with_context (world_of m last cs) last (record (context (world_of m last cs) last) { clear = a })
  clears_is a =
      changed_world (record (get_or cs last no_context) { clear = a }) (record (context (world_of m last cs) last) { clear = a })
      (ap (λ (c : Context). record c { clear = a }) (sym own_is))

  -- another one is added
  pub pushed_is : (c : Context) → world_of m last (cs ++ c ∷ []) ≡ with_started (world_of m last cs) c
  pushed_is c =
      ap (λ (x : List Context). record (world_of m last cs) { contexts = x }) (
      ap (λ (d : Context). set (cs ++ c ∷ []) last (with_machine d m)) (get_pushed cs last c no_context within)
      ∙ set_pushed cs last (with_machine (get_or cs last no_context) m) c within)

  -- ---- monitors

  mapped : (f : Context → Context) → get_or (map f cs) last no_context ≡ f (get_or cs last no_context)
  mapped f = get_or_mapped f cs last within

  -- the monitors of all others behind accesses
  pub noted_is : (made : List Access) → world_of m last (map (behind_accesses made) cs) ≡ others_behind made last (world_of m last cs)
  noted_is made =
      let own : Context = with_machine (get_or cs last no_context) m in
      ap (λ (x : List Context). record (world_of m last cs) { contexts = x }) (
      ap (λ (c : Context). set (map (behind_accesses made) cs) last (with_machine c m)) (mapped (behind_accesses made))
      ∙ sym (set-set (map (behind_accesses made) cs) last (behind_accesses made own) own)
      ∙ ap (λ (l : List Context). set l last own) (sym (map-set (behind_accesses made) cs last own))
      ∙ ap (λ (c : Context). set (map (behind_accesses made) (laid m last cs)) last c) (sym own_is))

  -- no context has a monitor
  pub emptied_is : world_of (record m { core = record m.core { monitor = None } }) last (map (with_monitor None) cs) ≡ without_monitors (world_of m last cs)
  emptied_is =
      let own : Context = with_machine (get_or cs last no_context) m in
      ap (λ (x : List Context). record (world_of m last cs) { contexts = x }) (
      ap (λ (c : Context). set (map (with_monitor None) cs) last (with_machine c (record m { core = record m.core { monitor = None } }))) (mapped (with_monitor None))
      ∙ sym (map-set (with_monitor None) cs last own))

-- ---- where no context has a monitor, none is changed by accesses

kept_monitor : (made : List Access) (c : Context) (monitor : Option (ℕ × ℕ)) → c.core.monitor ≡ monitor → is_some monitor ≡ false → behind_accesses made c ≡ c
kept_monitor made c None is none = ap (λ (x : Option (ℕ × ℕ)). with_monitor (monitor_behind made x) c) is ∙ ap (λ (x : Option (ℕ × ℕ)). with_monitor x c) (sym is)
kept_monitor made c (Some monitor) is none = cc

pub unwatched : (made : List Access) (cs : List Context) → list_any has_monitor cs ≡ false → map (behind_accesses made) cs ≡ cs
unwatched made [] h = refl
unwatched made (c ∷ cs) h =
    let both = or_parts (has_monitor c) (list_any has_monitor cs) h in
    ap (λ (d : Context). d ∷ map (behind_accesses made) cs) (kept_monitor made c c.core.monitor refl both.0)
    ∙ ap (λ (l : List Context). c ∷ l) (unwatched made cs both.1)

-- ---- waking

module _ (a : ℕ) (m : Parts) where
  pub woken_laid : (n last : ℕ) (cs : List Context) → woken a n (laid m last cs) ≡ laid m last (woken a n cs)
  woken_laid n zero [] = refl
  woken_laid n (suc last) [] = refl
  woken_laid n zero (c ∷ cs) =
      elim (waits_at a c && nat_lt 0 n) as (λ b. (if b then woken_context (with_machine c m) ∷ woken a (n - 1) cs else with_machine c m ∷ woken a n cs) ≡ laid m 0 (if b then woken_context c ∷ woken a (n - 1) cs else c ∷ woken a n cs)) [
        | true ↦ refl
        | false ↦ refl
      ]
  woken_laid n (suc last) (c ∷ cs) =
      elim (waits_at a c && nat_lt 0 n) as (λ b. (if b then woken_context c ∷ woken a (n - 1) (laid m last cs) else c ∷ woken a n (laid m last cs)) ≡ laid m (suc last) (if b then woken_context c ∷ woken a (n - 1) cs else c ∷ woken a n cs)) [
        | true ↦ ap (λ (l : List Context). woken_context c ∷ l) (woken_laid (n - 1) last cs)
        | false ↦ ap (λ (l : List Context). c ∷ l) (woken_laid n last cs)
      ]

  pub woken_is : (n last : ℕ) (cs : List Context) → world_of m last (woken a n cs) ≡ with_woken (world_of m last cs) a n
  woken_is n last cs = ap (λ (x : List Context). record (world_of m last cs) { contexts = x }) (sym (woken_laid n last cs))

-- one that is ready stays so
pub woken_ready : (a n k : ℕ) (cs : List Context) → (get_or cs k no_context).standing ≡ Ready → (get_or (woken a n cs) k no_context).standing ≡ Ready
woken_ready a n k [] h = h
woken_ready a n zero (c ∷ cs) h =
    elim (waits_at a c && nat_lt 0 n) as (λ b. (get_or (if b then woken_context c ∷ woken a (n - 1) cs else c ∷ woken a n cs) 0 no_context).standing ≡ Ready) [
      | true ↦ refl
      | false ↦ h
    ]
woken_ready a n (suc k) (c ∷ cs) h =
    elim (waits_at a c && nat_lt 0 n) as (λ b. (get_or (if b then woken_context c ∷ woken a (n - 1) cs else c ∷ woken a n cs) (suc k) no_context).standing ≡ Ready) [
      | true ↦ woken_ready a (n - 1) k cs h
      | false ↦ woken_ready a n k cs h
    ]

pub wake_count_same : (a n : ℕ) (m : Parts) (last : ℕ) (cs : List Context) → wake_count a n (laid m last cs) ≡ wake_count a n cs
wake_count_same a n m last cs = ap (λ (k : ℕ). min n k) (count_same (waits_at a) no_context cs last (with_machine (get_or cs last no_context) m) refl)
