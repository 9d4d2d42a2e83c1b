use Rattle.std.proofs.Common.{◌+◌, ap, ◌∙◌, arith}
use Rattle.emu_model.specs.Access.{address}
use Rattle.guest_mem.proofs.Held.{next_address, run_more}
use Rattle.guest_mem.proofs.access_log.put_run.Goals as goal

pub loop-i-preserved : goal.loop-i-preserved
loop-i-preserved c =
    let i = c.loop-i.invariant in
    let e = c.push_reserved.ensures in
    let more = e.len in
    let before = i.len in
    record {
      items = run_more c.args.base c.args.n c.loop-i._i c.loop-i.at c.args.write c.args.accesses.now.items c.loop-i.accesses.items c.push_reserved.new.self.items i.at i.items e.items;
      len = omega (arith, more, before);
      capacity = e.capacity ∙ i.capacity;
      at = next_address c.args.base c.args.n c.loop-i._i c.loop-i.at _ i.at (ap (λ n. address (c.loop-i.at + n)) c.from-at.ensures);
    }
