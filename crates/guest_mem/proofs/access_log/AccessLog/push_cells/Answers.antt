use Rattle.std.proofs.Common.{◌≡◌, ◌≤◌, ◌+◌, ◌-◌, ◌++◌, List, length, sym, ap, ◌∙◌, arith}
use Rattle.arrayvec.specs.ArrayVec.{ArrayVec, array_vec_len}
use borrow.Rule.Slice.PartMut.{same_len_mid}
use Rattle.emu_model.specs.declared.access.Access.{Access}
use Rattle.guest_mem.specs.Logs.{run_of}
use Rattle.guest_mem.proofs.Held.{filled_run, held_more, length_held, length_mid, long_filled}
use Rattle.guest_mem.proofs.access_log.AccessLog.push_cells.Goals as goal

pub invariant_of-self : goal.invariant_of-self
invariant_of-self c =
    let i = c.self.inside in
    let held = length_held i.base i.bytes i.count i.len i.write i.cells (omega (arith, c.self.invariant)) in
    let seen = ap array_vec_len c.self.view_is in
    let k = i.len + c.args.count - i.len in
    let one : k ≡ c.args.count = omega arith in
    let within : i.len + k ≤ length i.cells = omega (arith, one, held, seen, c.requires, c.self.invariant) in
    let made = filled_run c.args.base c.args.n c.args.count c.args.write i.len k i.cells c.fill.new.cells one within c.fill.ensures in
    let long = long_filled c.args.base c.args.n c.args.count c.args.write c.fill.new.cells made in (
      omega (arith, held, seen, c.requires),
      same_len_mid i.len k i.cells c.fill.new.cells (long ∙ sym one ∙ sym (length_mid i.len k i.cells within)) ∙ c.self.invariant.1,
    )

pub returns-clause-items : goal.returns-clause-items
returns-clause-items c =
    let i = c.self.inside in
    let held = length_held i.base i.bytes i.count i.len i.write i.cells (omega (arith, c.self.invariant)) in
    let seen = ap array_vec_len c.self.view_is in
    let k = i.len + c.args.count - i.len in
    let one : k ≡ c.args.count = omega arith in
    let within : i.len + k ≤ length i.cells = omega (arith, one, held, seen, c.requires, c.self.invariant) in
    let made = filled_run c.args.base c.args.n c.args.count c.args.write i.len k i.cells c.fill.new.cells one within c.fill.ensures in
    let long = long_filled c.args.base c.args.n c.args.count c.args.write c.fill.new.cells made in
    held_more (run_of i.base i.bytes i.count i.write) i.len k c.args.count i.cells c.fill.new.cells (omega (arith, c.self.invariant)) long
    ∙ ap (λ (xs : List Access). xs ++ c.fill.new.cells) (ap (λ (v : ArrayVec Access). v.items) c.self.view_is)
    ∙ ap (λ (xs : List Access). c.args.self.now.items ++ xs) made
