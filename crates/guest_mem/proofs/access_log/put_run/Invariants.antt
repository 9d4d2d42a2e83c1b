use Rattle.std.proofs.Common.{◌≡◌, ◌+◌, ◌*◌, ◌++◌}
use Rattle.std.specs.Vec.{vec_capacity, vec_len}
use Rattle.emu_model.specs.Access.{address}
use Rattle.guest_mem.specs.Logs.{run_of}
use Rattle.guest_mem.proofs.access_log.put_run.Given as goal

abbrev pub invariant-loop-i : goal.invariant-loop-i
invariant-loop-i l = record {
  items : l.accesses.items ≡ l.fn.accesses.items ++ run_of l.base l.n l._i l.write;
  len : vec_len l.accesses ≡ vec_len l.fn.accesses + l._i;
  capacity : vec_capacity l.accesses ≡ vec_capacity l.fn.accesses;
  at : l.at ≡ address (l.base + l._i * l.n);
}
