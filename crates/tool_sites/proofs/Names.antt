-- Names as they are shown.
use Rattle.std.proofs.Common.{◌≡◌, ℕ, Bool, true, false, ◌&&◌, List, [], refl, ap, ◌∙◌, if◌then◌else◌}
use Rattle.std.proofs.lemmas.Str.{IsUtf8-from_is_utf8, is_utf8-from_IsUtf8}
use Rattle.std.specs.List.{list_all}
use Rattle.std.specs.Str.{IsUtf8, is_utf8}
use Rattle.tool_sites.specs.Sites.{is_shown, shown_name}

-- a text is shown, where it has no control characters
pub shown_of_text : (name : List ℕ) → IsUtf8 name → shown_name name ≡ (if list_all is_shown name then name else [])
shown_of_text name text =
    ap (λ (b : Bool). if b && list_all is_shown name then name else []) (is_utf8-from_IsUtf8 name text)

either_false : (b : Bool) → (b ≡ true → ⊥) → b ≡ false
either_false true never = absurd (never refl)
either_false false never = refl

-- what isn't text isn't shown
pub shown_of_bytes : (name : List ℕ) → (IsUtf8 name → ⊥) → shown_name name ≡ []
shown_of_bytes name never =
    ap (λ (b : Bool). if b && list_all is_shown name then name else [])
    (either_false (is_utf8 name) (λ is. never (IsUtf8-from_is_utf8 name is)))

pub ruleset name_steps = (shown_of_text, shown_of_bytes)
