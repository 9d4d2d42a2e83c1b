use Rattle.std.proofs.Common.{◌≡◌, ℕ, List, ◌%◌, ◌^◌, ◌≤◌, length, ap, ◌∙◌, arith}
use Rattle.emu_bits.specs.declared.flags.Flags.{Flags}
use Rattle.std.specs.Prelude.{Option}
use Rattle.emu_model.specs.State.{Core, read_x_sp, with_x_sp, zero_core}
use Rattle.guest_contexts.proofs.Copied.{are_same}
use Rattle.guest_contexts.proofs.copies.copy_core.Goals as goal

pub returns : goal.returns
returns c =
    let core : Core = c.args.core.now in
    let copy : Core = c.loop-number.copy in
    let sound = c.pc-pc.ensures.sound in
    let count = sound.count in
    let all : length core.x ≤ c.loop-number.number = omega (arith, c.loop-number-test.false, count) in
    let x : copy.x ≡ core.x = are_same 0 c.loop-number.number copy.x core.x c.loop-number.invariant.copied all in
    let small = sound.sp in
    let sp : c.x_sp.result % 2 ^ 64 ≡ core.sp = ap (λ (v : ℕ). v % 2 ^ 64) (c.x_sp.ensures ∙ ap (λ (r : ℕ). read_x_sp core r) c.at-sp.ensures) ∙ omega (arith, small) in
    let stacked : c.set_x_sp.new.self ≡ record zero_core { x = core.x; sp = core.sp } =
    c.set_x_sp.ensures ∙ ap (λ (r : ℕ). with_x_sp copy r 64 c.x_sp.result) c.at-sp.ensures
    ∙ ap (λ (v : ℕ). record copy { sp = v }) sp
    ∙ ap (λ (s : Core). record s { sp = core.sp }) c.loop-number.invariant.rest
    ∙ ap (λ (l : List ℕ). record zero_core { x = l; sp = core.sp }) x in
    let there : c.set_pc.new.self ≡ record zero_core { x = core.x; sp = core.sp; pc = core.pc } =
    c.set_pc.ensures ∙ ap (λ (s : Core). record s { pc = c.pc-pc.result }) stacked
    ∙ ap (λ (v : ℕ). record zero_core { x = core.x; sp = core.sp; pc = v }) c.pc-pc.ensures.value in
    let flagged : c.set_flags.new.self ≡ record zero_core { x = core.x; sp = core.sp; pc = core.pc; flags = core.flags } =
    c.set_flags.ensures ∙ ap (λ (s : Core). record s { flags = c.flags.result }) there
    ∙ ap (λ (f : Flags). record zero_core { x = core.x; sp = core.sp; pc = core.pc; flags = f }) c.flags.ensures in
    let pointed : c.set_tpidr.new.self ≡ record core { monitor = zero_core.monitor } =
    c.set_tpidr.ensures ∙ ap (λ (s : Core). record s { tpidr = c.tpidr.result }) flagged
    ∙ ap (λ (v : ℕ). record zero_core { x = core.x; sp = core.sp; pc = core.pc; flags = core.flags; tpidr = v }) c.tpidr.ensures in
    c.set_monitor.ensures ∙ ap (λ (s : Core). record s { monitor = c.monitor.result }) pointed
    ∙ ap (λ (m : Option (ℕ × ℕ)). record core { monitor = m }) c.monitor.ensures
