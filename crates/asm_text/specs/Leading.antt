-- The argument that tokens begin with, and how many tokens it has.
use Rattle.std.specs.Prelude.{ℕ, Bool, if◌then◌else◌, List, [], ◌∷◌, Option, Some, None}
use Rattle.std.specs.List.{before_first}
use Rattle.listing_model.specs.Directives.{Argument, number, label, is_label}
use Rattle.asm_tokens.specs.Layout.{is_sign, comma}
use Rattle.asm_tokens.specs.Numbers.{Number, number_of, value}

abbrev pub is_comma : List ℕ → Bool
is_comma t = is_sign comma t

-- what stands before the first comma
abbrev pub part_of : List (List ℕ) → List (List ℕ)
part_of ts = before_first is_comma ts

abbrev pub leading_label : List (List ℕ) → Option (Argument × ℕ)
leading_label [] = None
leading_label (t ∷ ts) = if is_label t then Some (label t, 1) else None

abbrev pub leading_number : Option Number → Option (Argument × ℕ) → Option (Argument × ℕ)
leading_number None other = other
leading_number (Some n) other = Some (number (value n), n.count)

abbrev pub leading : Bool → List (List ℕ) → Option (Argument × ℕ)
leading labels ts = leading_number (number_of ts) (if labels then leading_label ts else None)
