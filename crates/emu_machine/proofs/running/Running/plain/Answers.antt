use Rattle.std.proofs.Common.{◌≡◌, ℕ, ◌%◌, Ok, Err, refl, ap, sym, ◌∙◌}
use Rattle.emu_model.specs.Access.{refused, value}
use Rattle.emu_model.specs.Marks.{MarkedMemory}
use Rattle.emu_model.specs.LoadsAndStores.{done_unless}
use Rattle.emu_model.specs.declared.access.Kind.TheVariants.{Fetch}
use Rattle.emu_model.specs.declared.trap.TrapKind.TheVariants.{PcAlign, Fetch as TrapFetch}
use Rattle.emu_model.specs.State.{Core}
use Rattle.emu_run.specs.Step.{decode, trapped}
use Rattle.emu_system.specs.SystemCall.{quiet}
use Rattle.emu_machine.specs.declared.running.Running.TheInside.{Inside}
use Rattle.emu_machine.specs.Machines.{MachineState}
use Rattle.emu_machine.proofs.Left.{HasDone}
use Rattle.emu_machine.proofs.Turns.{HasFetched, HasStepped, accesses_of_odd, accesses_of_refused, has_stepped, has_trapped, makes_none, makes_refused, turn_of_odd, turn_of_refused}
use Rattle.emu_machine.proofs.running.Running.plain.Goals.{After-trap, After-trap-in-Err, After-vector, After-by_word}
use Rattle.emu_machine.proofs.running.Running.plain.Goals as goal

-- a machine that is open, as it is seen with this memory
abbrev seen : Inside → MarkedMemory → MachineState
seen i memory = record {
  parts = record { core = i.core.value; vectors = i.vec.value; memory = memory.memory; brk = i.brk; steps = i.steps; ended = i.ended };
  accesses = i.log.items;
  failed = i.failed;
  marks = memory.marks;
  saved = i.saved.items;
  spare = memory.spare;
}

-- a fetch leaves the machine as it was
fetched_same : (i : Inside) (memory : MarkedMemory) (old : MachineState) → memory ≡ i.memory → seen i i.memory ≡ old → seen i memory ≡ old
fetched_same i memory old same is = ap (λ (x : MarkedMemory). seen i x) same ∙ is

-- its program counter, as it was read
at_pc : (i : Inside) (core : Core) (pc : ℕ) (old : MachineState) → pc ≡ core.pc → core ≡ i.core.value → seen i i.memory ≡ old → pc ≡ old.parts.core.pc
at_pc i core pc old at same is = at ∙ ap (λ (x : Core). x.pc) same ∙ ap (λ (s : MachineState). s.parts.core.pc) is

-- what the fetch answered
module _ (i : Inside) (pc : ℕ) (old : MachineState) (at : pc ≡ old.parts.core.pc) (is : seen i i.memory ≡ old) where
  fetched_at : (word : ℕ) → pc % 4 ≡ 0 → Ok word ≡ done_unless (refused i.memory.memory pc 4 Fetch) Fetch (value i.memory.memory pc 4) → HasFetched old.parts word
  fetched_at word aligned done = record {
    aligned = ap (λ n. n % 4) (sym at) ∙ aligned;
    done = done
        ∙ ap (λ n. done_unless (refused i.memory.memory n 4 Fetch) Fetch (value i.memory.memory n 4)) at
        ∙ ap (λ (s : MachineState). done_unless (refused s.parts.memory old.parts.core.pc 4 Fetch) Fetch (value s.parts.memory old.parts.core.pc 4)) is;
  }

-- ---- a step that traps before its instruction

odd : (c : After-trap) → HasStepped c.args.self.now c.trap.new.self c.trap.result
odd c =
    let i = c.self.inside in
    let old = c.args.self.now in
    let at = at_pc i c.deref.result.now c.pc-pc.result old c.pc-pc.ensures.value c.deref.ensures c.self.view_is in
    let is_odd : old.parts.core.pc % 4 ≡ 0 → ⊥ = λ e. c.if-pc-ne0.true (ap (λ n. n % 4) at ∙ e) in
    has_trapped old old c.trap.new.self c.trap.result PcAlign c.pc-pc.result refl c.requires.going c.requires.clear c.trap.ensures.progress c.trap.ensures.parts
    c.trap.ensures.accesses c.trap.ensures.failed c.trap.ensures.marks c.trap.ensures.saved (makes_none old.parts is_odd)
    (λ input. turn_of_odd old.parts is_odd input ∙ ap (λ n. quiet (trapped old.parts PcAlign n) input) (sym at)) (accesses_of_odd old.parts is_odd)

pub returns-then-pc-ne0 : goal.returns-then-pc-ne0
returns-then-pc-ne0 c =
    let d = odd c in
    record {
      turn = d.turn;
      kept = d.kept;
      svc = d.svc;
      alone = d.alone;
      ended = d.ended;
      counted = d.counted;
      accesses = d.accesses;
      marks = d.marks;
      saved = d.saved;
    }

denied : (c : After-trap-in-Err) → HasStepped c.args.self.now c.trap-in-Err.new.self c.trap-in-Err.result
denied c =
    let i = c.self.inside in
    let old = c.args.self.now in
    let at = at_pc i c.deref.result.now c.pc-pc.result old c.pc-pc.ensures.value c.deref.ensures c.self.view_is in
    let aligned : old.parts.core.pc % 4 ≡ 0 = ap (λ n. n % 4) (sym at) ∙ c.if-pc-ne0.false in
    let refuses : Err c.in-Err.denied ≡ done_unless (refused old.parts.memory old.parts.core.pc 4 Fetch) Fetch (value old.parts.memory old.parts.core.pc 4) =
    sym c.in-Err.is ∙ c.load.ensures.value
    ∙ ap (λ n. done_unless (refused i.memory.memory n 4 Fetch) Fetch (value i.memory.memory n 4)) at
    ∙ ap (λ (s : MachineState). done_unless (refused s.parts.memory old.parts.core.pc 4 Fetch) Fetch (value s.parts.memory old.parts.core.pc 4)) c.self.view_is in
    has_trapped old (seen i c.load.new.self) c.trap-in-Err.new.self c.trap-in-Err.result TrapFetch c.in-Err.denied.address (fetched_same i c.load.new.self old c.load.ensures.unchanged c.self.view_is)
    c.requires.going c.requires.clear c.trap-in-Err.ensures.progress c.trap-in-Err.ensures.parts c.trap-in-Err.ensures.accesses c.trap-in-Err.ensures.failed c.trap-in-Err.ensures.marks c.trap-in-Err.ensures.saved
    (makes_refused old.parts c.in-Err.denied refuses) (turn_of_refused old.parts c.in-Err.denied aligned refuses) (accesses_of_refused old.parts c.in-Err.denied aligned refuses)

pub returns-in-Err : goal.returns-in-Err
returns-in-Err c =
    let d = denied c in
    record {
      turn = d.turn;
      kept = d.kept;
      svc = d.svc;
      alone = d.alone;
      ended = d.ended;
      counted = d.counted;
      accesses = d.accesses;
      marks = d.marks;
      saved = d.saved;
    }

-- ---- a step that does an instruction

of_vector : (c : After-vector) → HasStepped c.args.self.now c.vector.new.self c.vector.result
of_vector c =
    let i = c.self.inside in
    let old = c.args.self.now in
    let at = at_pc i c.deref.result.now c.pc-pc.result old c.pc-pc.ensures.value c.deref.ensures c.self.view_is in
    let has = fetched_at i c.pc-pc.result old at c.self.view_is c.in-Ok.word c.if-pc-ne0.false (sym c.in-Ok.is ∙ c.load.ensures.value) in
    let e = c.vector.ensures in
    let done : HasDone (decode c.in-Ok.word) (seen i c.load.new.self) c.vector.new.self c.vector.result =
    record { turn = e.turn; kept = e.kept; svc = e.svc; alone = e.alone; ended = e.ended; counted = e.counted; accesses = e.accesses; marks = e.marks; saved = e.saved } in
    has_stepped c.in-Ok.word (decode c.in-Ok.word) old (seen i c.load.new.self) c.vector.new.self c.vector.result (fetched_same i c.load.new.self old c.load.ensures.unchanged c.self.view_is) has refl done

pub returns-then-may_be_sve : goal.returns-then-may_be_sve
returns-then-may_be_sve c =
    let d = of_vector c in
    record {
      turn = d.turn;
      kept = d.kept;
      svc = d.svc;
      alone = d.alone;
      ended = d.ended;
      counted = d.counted;
      accesses = d.accesses;
      marks = d.marks;
      saved = d.saved;
    }

of_word : (c : After-by_word) → HasStepped c.args.self.now c.by_word.new.self c.by_word.result
of_word c =
    let i = c.self.inside in
    let old = c.args.self.now in
    let at = at_pc i c.deref.result.now c.pc-pc.result old c.pc-pc.ensures.value c.deref.ensures c.self.view_is in
    let has = fetched_at i c.pc-pc.result old at c.self.view_is c.in-Ok.word c.if-pc-ne0.false (sym c.in-Ok.is ∙ c.load.ensures.value) in
    let e = c.by_word.ensures in
    let done : HasDone (decode c.in-Ok.word) (seen i c.load.new.self) c.by_word.new.self c.by_word.result =
    record { turn = e.turn; kept = e.kept; svc = e.svc; alone = e.alone; ended = e.ended; counted = e.counted; accesses = e.accesses; marks = e.marks; saved = e.saved } in
    has_stepped c.in-Ok.word (decode c.in-Ok.word) old (seen i c.load.new.self) c.by_word.new.self c.by_word.result (fetched_same i c.load.new.self old c.load.ensures.unchanged c.self.view_is) has refl done

pub returns : goal.returns
returns c =
    let d = of_word c in
    record {
      turn = d.turn;
      kept = d.kept;
      svc = d.svc;
      alone = d.alone;
      ended = d.ended;
      counted = d.counted;
      accesses = d.accesses;
      marks = d.marks;
      saved = d.saved;
    }
