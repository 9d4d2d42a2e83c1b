use Rattle.std.proofs.Common.{◌≡◌, List, map, string_bytes, subst}
use Rattle.elf_symbols.specs.declared.Symbol.{Symbol}
use Rattle.trace_options.specs.Places.{window_of}
use Rattle.tool_traces.proofs.Told.{window_found}
use Rattle.tool_traces.proofs.asked.window_by.Goals as goal

pub returns-clause-window : goal.returns-clause-window
returns-clause-window c =
    window_found c.args.bytes.now (map string_bytes c.args.words.now) c.args.given.now c.in_ok-found.found.items c.window_of.result
    (record { same = c.in_ok-found.ensures.same; sorted = c.in_ok-found.ensures.sorted; stable = c.in_ok-found.ensures.stable })
    (subst (λ (xs : List Symbol). c.window_of.result ≡ window_of xs (map string_bytes c.args.words.now) c.args.given.now) c.deref.ensures.value c.window_of.ensures)

pub returns-clause-by : goal.returns-clause-by
returns-clause-by c = record {
  found = c.in_ok-found.found.items;
  theirs = record { same = c.in_ok-found.ensures.same; sorted = c.in_ok-found.ensures.sorted; stable = c.in_ok-found.ensures.stable };
  is = subst (λ (xs : List Symbol). c.window_of.result ≡ window_of xs (map string_bytes c.args.words.now) c.args.given.now) c.deref.ensures.value c.window_of.ensures;
}
