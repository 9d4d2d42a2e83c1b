use Rattle.std.proofs.Common.{string_bytes, [], refl, ap, sym, ◌∙◌}
use Rattle.emu_model.specs.State.{Parts}
use Rattle.tool_sites.specs.Explanation.{explanation}
use Rattle.tool_texts.specs.Explanations.{stuck_line}
use Rattle.tool_run.specs.Stops.{world_stop}
use Rattle.tool_run.proofs.Causes.{explained_as}
use Rattle.tool_run.proofs.Worlds.{other_said, stuck_said}
use Rattle.tool_run.proofs.world.said_of_world.Goals as goal

pub returns-then-is_stuck : goal.returns-then-is_stuck
returns-then-is_stuck c =
    explained_as string_bytes (world_stop c.args.bytes.now c.args.segments.now c.args.world.now.world)
    c.in_ok-found.found.items c.in_ok-found.found.items _ c.explain_stuck.result refl
    (record {
      same = c.in_ok-found.ensures.same;
      sorted = c.in_ok-found.ensures.sorted;
      stable = c.in_ok-found.ensures.stable;
    }) c.explain_stuck.ensures
    (ap (stuck_line []) c.steps.ensures ∙ stuck_said c.in_ok-found.found.items c.args.bytes.now c.args.segments.now
    c.args.world.now.world c.args.stop c.requires (sym c.is_stuck.ensures ∙ c.if-is_stuck.true))

pub returns : goal.returns
returns c =
    explained_as string_bytes (world_stop c.args.bytes.now c.args.segments.now c.args.world.now.world)
    c.in_ok-found.found.items c.deref.result.now _ c.explain.result c.deref.ensures.value
    (record {
      same = c.in_ok-found.ensures.same;
      sorted = c.in_ok-found.ensures.sorted;
      stable = c.in_ok-found.ensures.stable;
    }) c.explain.ensures
    (ap (λ (m : Parts). explanation c.deref.result.now c.args.segments.now m) c.machine.ensures ∙ other_said
    c.deref.result.now c.args.bytes.now c.args.segments.now c.args.world.now.world c.args.stop c.requires (sym
    c.is_stuck.ensures ∙ c.if-is_stuck.false))
