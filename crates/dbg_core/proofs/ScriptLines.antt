-- Lines of a script, one after the other.
use Rattle.std.proofs.Common.{◌≡◌, ℕ, Bool, false, List, [], ◌∷◌, ◌++◌, Result, Ok, Err, if◌then◌else◌, sym, ap, ◌∙◌}
use Rattle.dbg_model.specs.declared.script.Command.{Command}
use Rattle.dbg_model.specs.declared.script.ScriptWhy.{ScriptWhy}
use Rattle.dbg_model.specs.declared.script.ScriptWhy.TheVariants.{TooMany}
use Rattle.line_words.specs.Lines.{words}
use Rattle.line_words.specs.Refusals.{and_then}
use Rattle.dbg_model.specs.Script.{command_of, followed, is_full, has_no_command, read_line}

-- a line that is a command
pub line_reads : (commands : List Command) (line : List ℕ) (found : List (List ℕ)) (command : Command) (b : Bool) → found ≡ words line → has_no_command line ≡ false → command_of found ≡ Ok command → is_full commands command ≡ b
    → read_line commands line ≡ (if b then Err TooMany else Ok (commands ++ command ∷ []))
line_reads commands line found command b same unskipped is full =
    ap (λ (skipped : Bool). if skipped then Ok commands else and_then (command_of (words line)) (followed commands)) unskipped
    ∙ ap (λ (r : Result Command ScriptWhy). and_then r (followed commands)) (ap command_of (sym same) ∙ is)
    ∙ ap (λ (t : Bool). if t then Err TooMany else Ok (commands ++ command ∷ [])) full
