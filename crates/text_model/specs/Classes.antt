-- Whether two items are of one class. The classes are this project's own.
use Rattle.std.specs.Prelude.{Bool}
use denote.Enum.Bare.{sameb}
use Rattle.text_model.specs.contracts.classes.Class.{the_type}
use Rattle.text_model.specs.declared.classes.Class.{Class}

-- as Rust's `==` has it of an enum whose variants have no fields
abbrev pub same_class : Class → Class → Bool
same_class c d = sameb the_type c d
