-- A word that is neither `--` nor an option is a plain one.
use Rattle.std.proofs.Common.{◌≡◌, ℕ, ◌+◌, Bool, false, ◌&&◌, cond, List, codes, Some, Result, Ok, ap, ◌∙◌}
use Rattle.std.specs.Str.{bytes_eq}
use Rattle.command_model.specs.declared.command_line.Command.{Command}
use Rattle.command_model.specs.declared.command_line.WordsFault.{WordsFault}
use Rattle.command_model.specs.CommandLine.{option_of, usage_of}
use Rattle.command_lines.specs.Scan.{Seen, is_option, read_item, read_option, read_plain}

pub plain_item : (command : Command) (seen : Seen) (place : ℕ) (word : List ℕ) → ((usage_of command).arguments && bytes_eq word (codes "--")) ≡ false → is_option word ≡ false → read_item command seen place word ≡ read_plain command seen place word
plain_item command seen place word known form =
    let arguments : Result Seen WordsFault = Ok (record seen { args = Some (place + 1) }) in
    let option : Result Seen WordsFault = read_option seen place (option_of command word) in
    let plain : Result Seen WordsFault = read_plain command seen place word in
    ap (λ (t : Bool). cond t arguments (cond (is_option word) option plain)) known ∙ ap (λ (t : Bool). cond t option plain) form
