-- What of a step is told, as `--show` says it: names of groups of registers, and `memory`, with commas between them.
use Rattle.std.specs.Prelude.{ℕ, Bool, true, false, List, [], ◌∷◌, get_or, codes, nat_eq, Option, Some, None, Result}
use Rattle.std.specs.Prelude.{Ok, if◌then◌else◌}
use Rattle.std.specs.List.{slice_split}
use Rattle.std.specs.Str.{bytes_eq}
use Rattle.trace_options.specs.declared.options.TraceFault.{TraceFault}
use Rattle.trace_options.specs.declared.options.TraceWhy.TheVariants.{UnknownGroup}
use Rattle.trace_options.specs.declared.shown.Shown.{Shown}
use Rattle.trace_options.specs.Options.{refusal_at}

abbrev pub everything : Shown
everything = record {
  x = true;
  sp = true;
  nzcv = true;
  tpidr = true;
  vl = true;
  z = true;
  p = true;
  ffr = true;
  memory = true;
}

abbrev pub nothing : Shown
nothing = record {
  x = false;
  sp = false;
  nzcv = false;
  tpidr = false;
  vl = false;
  z = false;
  p = false;
  ffr = false;
  memory = false;
}

-- with what a name says, if it says something
abbrev pub with_name : Shown → List ℕ → Option Shown
with_name shown name =
    if bytes_eq name (codes "x") then Some (record shown { x = true })
    else (if bytes_eq name (codes "sp") then Some (record shown { sp = true })
    else (if bytes_eq name (codes "nzcv") then Some (record shown { nzcv = true })
    else (if bytes_eq name (codes "tpidr") then Some (record shown { tpidr = true })
    else (if bytes_eq name (codes "vl") then Some (record shown { vl = true })
    else (if bytes_eq name (codes "z") then Some (record shown { z = true })
    else (if bytes_eq name (codes "p") then Some (record shown { p = true })
    else (if bytes_eq name (codes "ffr") then Some (record shown { ffr = true })
    else (if bytes_eq name (codes "memory") then Some (record shown { memory = true }) else None))))))))

abbrev pub and_more : Option Shown → (Shown → Option Shown) → Option Shown
and_more None next = None
and_more (Some shown) next = next shown

-- with what each of some names says, if all say something
abbrev pub with_names : Shown → List (List ℕ) → Option Shown
with_names shown [] = Some shown
with_names shown (name ∷ names) = and_more (with_name shown name) (λ more. with_names more names)

abbrev pub is_comma : ℕ → Bool
is_comma c = nat_eq c 44

abbrev pub known : ℕ → Option Shown → Result Shown TraceFault
known place None = refusal_at UnknownGroup place
known place (Some shown) = Ok shown

-- what the value of `--show` says, by its place; all where it isn't given
abbrev pub shown_at : List (List ℕ) → Option ℕ → Result Shown TraceFault
shown_at words None = Ok everything
shown_at words (Some place) = known place (with_names nothing (slice_split is_comma (get_or words place [])))
