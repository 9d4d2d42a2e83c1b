-- The options of `svemu-tool trace` that `svemu run` hasn't, each with the next word as its value, as docs/MANUAL.md
-- has them. `trace_options`, at the end, is the whole of it.
--
-- Behind the word `--` no option stands. Places of words are counted from 0, where the command's own name is.
use Rattle.std.specs.Prelude.{ℕ, ◌+◌, ◌-◌, true, false, List, [], ◌∷◌, length, drop, codes, Option, Some, None}
use Rattle.std.specs.Prelude.{is_some, Result, Ok, Err, if◌then◌else◌}
use Rattle.std.specs.Str.{bytes_eq}
use Rattle.line_words.specs.Refusals.{and_then}
use Rattle.trace_options.specs.declared.options.Given.{Given}
use Rattle.trace_options.specs.declared.options.TraceFault.{TraceFault}
use Rattle.trace_options.specs.declared.options.TraceOption.{TraceOption}
use Rattle.trace_options.specs.declared.options.TraceOption.TheVariants.{From, Call, After, Steps, Until, Show, In}
use Rattle.trace_options.specs.declared.options.TraceWhy.{TraceWhy}
use Rattle.trace_options.specs.declared.options.TraceWhy.TheVariants.{Repeated, MissingValue}

abbrev pub refusal_at : {T : Type 0} → TraceWhy → ℕ → Result T TraceFault
refusal_at why place = Err (record { why = why; place = place })

-- the option that a word gives
abbrev pub option_of : List ℕ → Option TraceOption
option_of word =
    if bytes_eq word (codes "--from") then Some From
    else (if bytes_eq word (codes "--call") then Some Call
    else (if bytes_eq word (codes "--after") then Some After
    else (if bytes_eq word (codes "--steps") then Some Steps
    else (if bytes_eq word (codes "--until") then Some Until
    else (if bytes_eq word (codes "--show") then Some Show
    else (if bytes_eq word (codes "--in") then Some In else None))))))

-- ---- the words behind the command's name, one after the other

abbrev pub nothing_given : Given
nothing_given = record {
  from = None;
  call = None;
  after = None;
  steps = None;
  until = None;
  show = None;
  range = None;
  awaited = None;
  plain = false;
}

-- the place of an option's value
abbrev pub place_of : TraceOption → Given → Option ℕ
place_of From given = given.from
place_of Call given = given.call
place_of After given = given.after
place_of Steps given = given.steps
place_of Until given = given.until
place_of Show given = given.show
place_of In given = given.range

-- the value of an option stands here
abbrev pub with_place : TraceOption → ℕ → Given → Given
with_place From place given = record given { awaited = None; from = Some place }
with_place Call place given = record given { awaited = None; call = Some place }
with_place After place given = record given { awaited = None; after = Some place }
with_place Steps place given = record given { awaited = None; steps = Some place }
with_place Until place given = record given { awaited = None; until = Some place }
with_place Show place given = record given { awaited = None; show = Some place }
with_place In place given = record given { awaited = None; range = Some place }

-- an option, which isn't given twice, or a word of the run
abbrev pub read_option : Given → ℕ → Option TraceOption → Result Given TraceFault
read_option given place None = Ok given
read_option given place (Some option) =
    if is_some (place_of option given) then refusal_at Repeated place else Ok (record given { awaited = Some option })

-- the value of an option that awaits it, `--`, or such a word
abbrev pub read_next : Given → ℕ → List ℕ → Option TraceOption → Result Given TraceFault
read_next given place word (Some option) = Ok (with_place option place given)
read_next given place word None =
    if bytes_eq word (codes "--") then Ok (record given { plain = true }) else read_option given place (option_of word)

-- any word
abbrev pub read_word : Given → ℕ → List ℕ → Result Given TraceFault
read_word given place word = if given.plain then Ok given else read_next given place word given.awaited

-- the words from a place on
abbrev pub read_words : Given → ℕ → List (List ℕ) → Result Given TraceFault
read_words given place [] = Ok given
read_words given place (word ∷ words) =
    and_then (read_word given place word) (λ more. read_words more (place + 1) words)

-- ---- behind them all

-- an option that is the last word has no value
abbrev pub at_end : Given → ℕ → Result Given TraceFault
at_end given count = if is_some given.awaited then refusal_at MissingValue (count - 1) else Ok given

abbrev pub trace_options : List (List ℕ) → Result Given TraceFault
trace_options words = and_then (read_words nothing_given 1 (drop 1 words)) (λ given. at_end given (length words))
