use Rattle.std.proofs.Common.{arith, ◌∙◌}
use Rattle.trace_lines.specs.Lines.{access_text, access_texts}
use Rattle.trace_lines.proofs.Putting.{left_out}
use Rattle.trace_lines.proofs.Touched.{accesses_put}
use Rattle.trace_lines.proofs.accesses.put_accesses.Goals as goal

pub returns-then-not-told-clause-bytes : goal.returns-then-not-told-clause-bytes
returns-then-not-told-clause-bytes g c = left_out _ (access_texts c.args.old.now.memory c.args.new.now.memory c.args.accesses.now) c.args.told c.if-not-told.true

pub accesses-preserved : goal.accesses-preserved
accesses-preserved g c = record {
  put = accesses_put _ _ _ (access_text c.args.old.now.memory c.args.new.now.memory) c.args.accesses.now c.accesses.access-index _ (omega arith) c.accesses.invariant.put c.in_ok-put_access.ensures.bytes;
  kept = c.in_ok-put_access.ensures.cause.kept ∙ c.accesses.invariant.kept;
}
