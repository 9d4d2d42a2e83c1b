-- A call behind a mark, and the machine that a walk's course is in.
use Rattle.std.proofs.Common.{◌≡◌, ℕ, Bool, List, Option, sym, ◌∙◌}
use Rattle.emu_model.specs.State.{State}
use Rattle.emu_machine.specs.Machines.{MachineState}
use Rattle.dbg_model.specs.Session.{Course}
use Rattle.dbg_back.specs.declared.trail.Trail.{Trail}
use Rattle.dbg_back.specs.Walks.{Does, IsWalk}

-- the machine is marked, and then a call does f
pub does_kept : (input : List ℕ) (m k n : MachineState) (t u v : Trail) (hp hq ep eq : Option (List ℕ)) (f : State → Course → Course) (b : Bool)
    → ((start : State) (input : List ℕ) (c : Course) → IsWalk start input c m t → IsWalk start input c k u) → Does f input k n u v hp hq ep eq b → Does f input m n t v hp hq ep eq b
does_kept input m k n t u v hp hq ep eq f b kept d = record {
  walks = λ start c h fine. d.walks start c (kept start input c h) fine;
  output = λ start c had h before. d.output start c had (kept start input c h) before;
  errors = λ start c had h before. d.errors start c had (kept start input c h) before;
}

-- two machines in one course have the same parts
pub same_parts_of : (start : State) (input : List ℕ) (c : Course) (m k : MachineState) (t u : Trail) → IsWalk start input c m t → IsWalk start input c k u → k.parts ≡ m.parts
same_parts_of start input c m k t u p q = q.here.parts ∙ sym p.here.parts
