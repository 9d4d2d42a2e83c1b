use Rattle.std.proofs.Common.{string_bytes}
use Rattle.tool_run.specs.Stops.{alone_stop}
use Rattle.tool_run.proofs.Causes.{explained_by}
use Rattle.tool_run.proofs.run.said_of.Goals as goal

pub returns : goal.returns
returns c =
    explained_by string_bytes (alone_stop c.args.bytes.now c.args.segments.now c.args.machine.now.parts)
    c.in_ok-found.found.items c.deref.result.now c.explain_alone.result c.deref.ensures.value
    (record {
      same = c.in_ok-found.ensures.same;
      sorted = c.in_ok-found.ensures.sorted;
      stable = c.in_ok-found.ensures.stable;
    }) c.explain_alone.ensures
