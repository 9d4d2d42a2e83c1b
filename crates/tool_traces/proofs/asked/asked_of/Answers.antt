use Rattle.std.proofs.Common.{Result, map, string_bytes, ap, ◌∙◌}
use Rattle.trace_options.specs.declared.options.TraceFault.{TraceFault}
use Rattle.trace_options.specs.declared.shown.Shown.{Shown}
use Rattle.tool_traces.specs.Endings.{asked_by}
use Rattle.tool_traces.proofs.Told.{asked_both}
use Rattle.tool_traces.proofs.asked.asked_of.Goals as goal

pub returns-clause-asked : goal.returns-clause-asked
returns-clause-asked c =
    asked_both c.args.bytes.now (map string_bytes c.args.words.now) c.args.given.now c.in_ok-shown.shown c.in_ok-window.window c.both.result
    c.both.ensures.shown c.both.ensures.window c.in_ok-shown.ensures c.in_ok-window.ensures.window

pub returns-clause-by : goal.returns-clause-by
returns-clause-by c = record {
  window = c.in_ok-window.window;
  theirs = c.in_ok-window.ensures.by;
  is = c.both.ensures.both ∙ ap (λ (s : Result Shown TraceFault). asked_by s c.in_ok-window.window) c.in_ok-shown.ensures;
}
