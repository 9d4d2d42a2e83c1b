-- What was put, as what a line asks for.
use Rattle.std.proofs.Common.{◌≡◌, ◌-◌, ℕ, Bool, true, false, cond, if◌then◌else◌, nat_le, List, [], get_or, length, Option, Some, None, IfSome, Result, Ok, Err, IfOk, refl, sym, ap, ap₂, subst, ◌∙◌}
use Rattle.std.proofs.lemmas.Option.{IfSome_then}
use Rattle.std.specs.FinMap.{get}
use Rattle.io_gate.specs.Images.{whole_file}
use Rattle.io_gate.specs.declared.images.ImagesError.{ImagesError}
use Rattle.command_lines.specs.Outcome.{Files, file_at, file_limit, program_arguments}
use Rattle.command_model.specs.CommandLine.{line as svemu_line}
use Rattle.command_model.specs.declared.command_line.Line.{Line}
use Rattle.command_model.specs.declared.command_line.Line.TheVariants.{Run, Asm, Dis, Dbg, Load, Sweep, Threads}
use Rattle.command_model.specs.declared.command_line.WordsFault.{WordsFault}
use Rattle.dbg_model.specs.Session.{step_line as stopped_line}
use Rattle.elf_symbols.specs.declared.Symbol.{Symbol}
use Rattle.elf_symbols.specs.Order.{AreSymbolsOf}
use Rattle.emu_model.specs.State.{Parts}
use Rattle.emu_report.proofs.Puts.{put_both, put_equal}
use Rattle.emu_run.specs.Reports.{ending_line}
use Rattle.emu_system.specs.Image.{Image, elf}
use Rattle.emu_system.specs.declared.image.ElfFault.{ElfFault}
use Rattle.step_traces.specs.Traces.{closing_line, is_left, machine_left, lines_of_steps, trace_text}
use Rattle.trace_lines.specs.Lines.{HasGained}
use Rattle.trace_options.specs.declared.options.Given.{Given}
use Rattle.trace_options.specs.declared.options.TraceFault.{TraceFault}
use Rattle.trace_options.specs.declared.shown.Shown.{Shown}
use Rattle.trace_options.specs.declared.window.Window.{Window}
use Rattle.trace_options.specs.Options.{trace_options}
use Rattle.trace_options.specs.Places.{window_of}
use Rattle.trace_options.specs.RunWords.{run_words}
use Rattle.trace_options.specs.Showing.{shown_at}
use Rattle.trace_options.specs.Windows.{first_stage}
use Rattle.command_lines.specs.declared.ending.Ending.{Ending}
use Rattle.command_lines.specs.declared.ending.Ending.TheVariants.{WordsRefused}
use Rattle.tool_traces.specs.Endings.{other_command, EndsAsked, EndsLine, EndsSymbols, IsAskedBy}
use Rattle.tool_traces.specs.Traced.{file_traced, image_traced, line_traced, given_traced, traced, traced_of, IsAsked, IsWindowOf, SomeTraces, Traced, Traces}
use Rattle.tool_traces.specs.declared.asked.Asked.{Asked}

-- ---- what is asked for

pub window_found : (file : List ℕ) (words : List (List ℕ)) (given : Given) (found : List Symbol) (r : Result Window TraceFault) → AreSymbolsOf file found → r ≡ window_of found words given → IfOk r (IsWindowOf file words given)
window_found file words given found (Ok window) theirs is = record { found = found; theirs = theirs; is = is }
window_found file words given found (Err fault) theirs is = tt

pub asked_both : (file : List ℕ) (words : List (List ℕ)) (given : Given) (shown : Result Shown TraceFault) (window : Result Window TraceFault) (r : Result Asked TraceFault)
    → IfOk r (λ a. Ok a.shown ≡ shown) → IfOk r (λ a. Ok a.window ≡ window) → shown ≡ shown_at words given.show → IfOk window (IsWindowOf file words given) → IfOk r (IsAsked file words given)
asked_both file words given shown window (Ok asked) s w is found = record {
  shown = s ∙ is;
  window = subst (λ (x : Result Window TraceFault). IfOk x (IsWindowOf file words given)) (sym w) found;
}
asked_both file words given shown window (Err fault) s w is found = tt

-- by what is asked for
pub symbols_end : (file : List ℕ) (words : List (List ℕ)) (given : Given) (r x : Result Asked TraceFault) (input : Option (List ℕ)) (ending : Ending) → r ≡ x → IsAskedBy file words given r → EndsAsked x input ending
    → EndsSymbols file words given input ending
symbols_end file words given r x input ending is theirs ends = record { asked = r; theirs = theirs; ends = subst (λ (y : Result Asked TraceFault). EndsAsked y input ending) (sym is) ends }

-- ---- the lines, and the one behind them

pub step_told : (m : Parts) (left : Bool) (steps pc : ℕ) → left ≡ true → steps ≡ m.steps → pc ≡ m.core.pc → stopped_line steps pc ≡ closing_line left m
step_told m left steps pc is s p =
    ap₂ (λ (a b : ℕ). stopped_line a b) s p ∙ ap (λ (b : Bool). if b then stopped_line m.steps m.core.pc else ending_line m m.ended) (sym is)

pub end_told : (m : Parts) (left : Bool) → left ≡ false → ending_line m m.ended ≡ closing_line left m
end_told m left is = ap (λ (b : Bool). if b then stopped_line m.steps m.core.pc else ending_line m m.ended) (sym is)

pub text_told : (shown : Shown) (w : Window) (m now : Parts) (input : List ℕ) (budget : ℕ) (left : Bool) (old mid new : Option (List ℕ))
    → HasGained old mid (lines_of_steps shown w (first_stage w) m input (budget - m.steps)) → left ≡ is_left w (first_stage w) m input (budget - m.steps)
    → now ≡ machine_left w (first_stage w) m input (budget - m.steps) → HasGained mid new (closing_line left now) → HasGained old new (trace_text shown w m input budget)
text_told shown w m now input budget left old mid new put is at closing =
    put_both old mid new (lines_of_steps shown w (first_stage w) m input (budget - m.steps))
    (closing_line (is_left w (first_stage w) m input (budget - m.steps)) (machine_left w (first_stage w) m input (budget - m.steps))) put
    (put_equal mid new (closing_line left now) _ (ap₂ (λ (b : Bool) (p : Parts). closing_line b p) is at) closing)

-- of a machine that was opened, and another input of the same bytes
pub opened_told : (shown : Shown) (w : Window) (m start : Parts) (input : List ℕ) (budget : ℕ) (old new : Option (List ℕ)) → m ≡ start
    → HasGained old new (trace_text shown w m input budget) → HasGained old new (trace_text shown w start input budget)
opened_told shown w m start input budget old new is put = subst (λ (p : Parts). HasGained old new (trace_text shown w p input budget)) is put

-- over the input that was read
pub input_told : (text : List ℕ → List ℕ) (given : List ℕ) (left after old new : Option (List ℕ)) → IfSome left (λ i. (given ≡ i) × (after ≡ Some [])) → HasGained old new (text given)
    → IfSome left (λ i. HasGained old new (text i))
input_told text given left after old new read put = IfSome_then left read (λ i r. subst (λ (x : List ℕ). HasGained old new (text x)) r.0 put)

-- ---- by the words

module _ (words : List (List ℕ)) (left old new : Option (List ℕ)) where
  -- what was asked for
  pub asked_told : (t : Traced) (asked : Asked) → IsAsked t.file words t.given asked → IfSome left (λ i. HasGained old new (trace_text asked.shown asked.window t.machine i t.budget))
      → IfSome left (λ i. Traces words t i old new)
  asked_told t asked theirs put = IfSome_then left put (λ i p. record { asked = asked; theirs = theirs; is = p })

  -- of the image that was read
  pub image_told : (given : Given) (file : List ℕ) (args named : List (List ℕ)) (bits budget pages : ℕ) (image : Image) (read : Result Image ElfFault) → Ok image ≡ read → args ≡ named
      → IfSome left (λ i. Traces words (traced_of given file image args bits budget pages) i old new)
      → IfSome left (λ i. SomeTraces words (image_traced given file named bits budget pages read) i old new)
  image_told given file args named bits budget pages image read is same told =
      subst (λ (r : Result Image ElfFault). IfSome left (λ i. SomeTraces words (image_traced given file named bits budget pages r) i old new)) is
      (subst (λ (xs : List (List ℕ)). IfSome left (λ i. Traces words (traced_of given file image xs bits budget pages) i old new)) same told)

-- ---- the file of a name

ok_of : (b : Bool) (xs ys : List ℕ) (e : ImagesError) → cond b (Ok xs) (Err e) ≡ Ok ys → xs ≡ ys
ok_of true xs ys e is = cc
ok_of false xs ys e is = cc

whole_is : (o : Option (List ℕ)) (bytes : List ℕ) → whole_file o file_limit ≡ Ok bytes → o ≡ Some bytes
whole_is None bytes is = cc
whole_is (Some found) bytes is = ap (λ (xs : List ℕ). Some xs) (ok_of (nat_le (length found) file_limit) found bytes _ is)

module _ (words : List (List ℕ)) (named : Option Files) (left old new : Option (List ℕ)) where
  pub file_told : (same : List (List ℕ)) (place : ℕ) (name bytes items : List ℕ) (given : Given) (args : List (List ℕ)) (bits budget pages : ℕ)
      → name ≡ get_or same place [] → bytes ≡ items → IfSome named (λ files. whole_file (get files name) file_limit ≡ Ok items)
      → IfSome left (λ i. SomeTraces words (image_traced given bytes args bits budget pages (elf bytes pages)) i old new)
      → IfSome named (λ files. IfSome left (λ i. SomeTraces words (file_traced given (file_at same files place) args bits budget pages) i old new))
  file_told same place name bytes items given args bits budget pages names is content told = IfSome_then named content (λ files whole.
      let there : get files (get_or same place []) ≡ Some items = whole_is _ items (subst (λ (n : List ℕ). whole_file (get files n) file_limit ≡ Ok items) names whole) in
      subst (λ (f : Option (List ℕ)). IfSome left (λ i. SomeTraces words (file_traced given f args bits budget pages) i old new)) (sym there)
      (subst (λ (xs : List ℕ). IfSome left (λ i. SomeTraces words (image_traced given xs args bits budget pages (elf xs pages)) i old new)) is told))

  -- by the line
  pub line_told : (same : List (List ℕ)) (given : Given) (line : Line) (file args bits budget pages : ℕ) → line ≡ Run file args bits budget pages
      → IfSome named (λ files. IfSome left (λ i. SomeTraces words (file_traced given (file_at same files file) (program_arguments same file args) bits budget pages) i old new))
      → IfSome named (λ files. IfSome left (λ i. SomeTraces words (line_traced same given files (Ok line)) i old new))
  line_told same given line file args bits budget pages is told =
      subst (λ (l : Line). IfSome named (λ files. IfSome left (λ i. SomeTraces words (line_traced same given files (Ok l)) i old new))) (sym is) told

  pub read_told : (same : List (List ℕ)) (given : Given) (a b : Result Line WordsFault) → a ≡ b
      → IfSome named (λ files. IfSome left (λ i. SomeTraces words (line_traced same given files a) i old new))
      → IfSome named (λ files. IfSome left (λ i. SomeTraces words (line_traced same given files b) i old new))
  read_told same given a b is told = subst (λ (r : Result Line WordsFault). IfSome named (λ files. IfSome left (λ i. SomeTraces words (line_traced same given files r) i old new))) is told

  -- and by the options
  pub given_told : (same : List (List ℕ)) (given : Given) → same ≡ run_words words → Ok given ≡ trace_options words
      → IfSome named (λ files. IfSome left (λ i. SomeTraces words (line_traced same given files (svemu_line same)) i old new))
      → IfSome named (λ files. IfSome left (λ i. SomeTraces words (traced words files) i old new))
  given_told same given is read told =
      subst (λ (r : Result Given TraceFault). IfSome named (λ files. IfSome left (λ i. SomeTraces words (given_traced words files r) i old new))) read
      (subst (λ (xs : List (List ℕ)). IfSome named (λ files. IfSome left (λ i. SomeTraces words (line_traced xs given files (svemu_line xs)) i old new))) is told)

-- ---- a line of another command

pub other_ends : (words same : List (List ℕ)) (given : Given) (files : Files) (input : Option (List ℕ)) (line : Line) → ((file args bits budget pages : ℕ) → line ≡ Run file args bits budget pages → ⊥)
    → EndsLine words same given files input (Ok line) (WordsRefused other_command)
other_ends words same given files input (Run file args bits budget pages) run = absurd (run file args bits budget pages refl)
other_ends words same given files input (Sweep file args budget pages) run = refl
other_ends words same given files input (Asm listing) run = refl
other_ends words same given files input (Dis file) run = refl
other_ends words same given files input (Dbg file script args bits budget pages) run = refl
other_ends words same given files input (Load number) run = refl
other_ends words same given files input (Threads file schedule args bits budget pages) run = refl
