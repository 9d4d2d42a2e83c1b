-- The next item, if there is one, as a list.
use Rattle.std.specs.Prelude.{Option, Some, None, List, [], ◌∷◌}
use Rattle.text_model.specs.declared.slots.Item.{Item}

abbrev pub first_of : Option Item → List Item
first_of None = []
first_of (Some i) = i ∷ []
