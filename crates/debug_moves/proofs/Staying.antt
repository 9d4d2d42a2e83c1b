-- A session's machine stays one that the run from its start passes.
use Rattle.std.proofs.Common.{◌≡◌, ℕ, Bool, true, false, List, Option, is_err, Result, Ok, Err, ap, sym, subst, ◌∙◌}
use Rattle.std.specs.Result.{OnOk}
use Rattle.emu_model.specs.State.{State}
use Rattle.emu_machine.specs.Machines.{MachineState}
use Rattle.dbg_model.specs.Session.{Course}
use Rattle.dbg_back.specs.declared.trail.Trail.{Trail}
use Rattle.dbg_back.specs.Walks.{CanWalk, Does}
use Rattle.debug_walk.specs.Walks.{IsOnWalk, StaysOn}

-- where it isn't moved
pub stays_same : {input : List ℕ} {m : MachineState} {t : Trail} → StaysOn input m m t t
stays_same = record { stays = λ start on. on }

-- by one move and then another
pub stays_then : {input : List ℕ} {m n u : MachineState} {t v w : Trail} → StaysOn input m n t v → StaysOn input n u v w → StaysOn input m u t w
stays_then first second = record { stays = λ start on. second.stays start (first.stays start on) }

-- by a call that does f
pub stays_by : {f : State → Course → Course} {input : List ℕ} {m n : MachineState} {t v : Trail} {hp hq ep eq : Option (List ℕ)} {b : Bool} → b ≡ false → Does f input m n t v hp hq ep eq b → StaysOn input m n t v
stays_by {f} fine d = record { stays = λ start on. record { course = f start on.course; walk = d.walks start on.course on.walk fine } }

-- and it can still go on and back
pub still_on : {input : List ℕ} {m n : MachineState} {t v : Trail} → StaysOn input m n t v → CanWalk input m t → CanWalk input n v
still_on {input} {m} {n} {t} {v} stays w =
    let on : IsOnWalk w.start input m t = record { course = w.course; walk = w.walk } in
    let there : IsOnWalk w.start input n v = stays.stays w.start on in
    record { start = w.start; course = there.course; walk = there.walk }

-- by input that is another name of the same bytes
pub stays_in : {input other : List ℕ} {m n : MachineState} {t v : Trail} → other ≡ input → StaysOn other m n t v → StaysOn input m n t v
stays_in {m = m} {n = n} {t = t} {v = v} same s = subst (λ (i : List ℕ). StaysOn i m n t v) same s

pub walks_in : {input other : List ℕ} {m : MachineState} {t : Trail} → other ≡ input → CanWalk other m t → CanWalk input m t
walks_in {m = m} {t = t} same w = subst (λ (i : List ℕ). CanWalk i m t) same w

-- by a call that answers whether a stream failed
pub ok_stays : {A E : Type 0} (r : Result A E) {f : State → Course → Course} {input : List ℕ} {m n : MachineState} {t v : Trail} {hp hq ep eq : Option (List ℕ)} {b : Bool} → is_err r ≡ b → Does f input m n t v hp hq ep eq b → OnOk r (StaysOn input m n t v)
ok_stays (Ok x) same d = stays_by (sym same) d
ok_stays (Err e) same d = tt

-- by two calls one after the other, of which the second may fail
pub ok_then : {A E : Type 0} (r : Result A E) {input other : List ℕ} {m n : MachineState} {t v : Trail} (u : MachineState) (w : Trail) → other ≡ input → StaysOn input m n t v → OnOk r (StaysOn other n u v w) → OnOk r (StaysOn input m u t w)
ok_then (Ok x) u w same first second = stays_then first (stays_in same second)
ok_then (Err e) u w same first second = tt

-- no stream failed where a call answers so
pub none_failed : {A E : Type 0} (r : Result A E) (x : A) {b : Bool} → is_err r ≡ b → r ≡ Ok x → b ≡ false
none_failed r x same is = sym same ∙ ap is_err is

-- and one did
pub some_failed : {A E : Type 0} (r : Result A E) (e : E) {b : Bool} → is_err r ≡ b → r ≡ Err e → b ≡ true
some_failed r e same is = sym same ∙ ap is_err is
