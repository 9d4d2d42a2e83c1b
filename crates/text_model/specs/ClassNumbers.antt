-- The place of a class in the order of all, from 0 on.
use Rattle.std.specs.Prelude.{ℕ}
use denote.Enum.Declared.{tag_of}
use Rattle.text_model.specs.contracts.classes.Class.{the_type}
use Rattle.text_model.specs.declared.classes.Class.{Class}

abbrev pub class_number : Class → ℕ
class_number c = tag_of the_type c
