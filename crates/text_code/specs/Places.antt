-- Where the last token of a statement stands. This is this project's own.
use Rattle.std.specs.Prelude.{◌≡◌, ℕ, ◌≤◌, ◌&&◌, ◌||◌, if◌then◌else◌, Bool, true, Some, List, slice_range, pos}
use Rattle.std.specs.Str.{IsCharBoundary}
use Rattle.asm_tokens.specs.Tokens.{tokens}
use Rattle.text_model.specs.Statement.{last_of, ends_in_label, is_address}
use Rattle.text_model.specs.declared.classes.Class.TheVariants.{Number}
use Rattle.text_model.specs.declared.slots.Item.{Item}
use Rattle.text_model.specs.Words.{item}

-- The last token is a label, and stands from `first` to before `past`.
pub record IsLastLabel (text : List ℕ) (first past : ℕ) : Type 0 where
  pub ends : ends_in_label (tokens text) ≡ true
  pub is : last_of (tokens text) ≡ Some (slice_range text first past)
  pub from_cut : IsCharBoundary text first
  pub to_cut : IsCharBoundary text past
  pub order : first ≤ past

-- an item, or 0 in its place where it is the last one and a label or an address
abbrev pub kept_or_zero : Bool → Bool → Item → Item
kept_or_zero label is_last i = if is_last && (label || is_address i) then item Number (pos 0) else i
