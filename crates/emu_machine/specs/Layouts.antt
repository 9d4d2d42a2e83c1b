-- Where the parts of the stack stand.
use Rattle.std.specs.Prelude.{◌≡◌, ℕ, List}
use Rattle.emu_system.specs.Stack.{arguments_at, random_at, stack_pointer}
use Rattle.emu_machine.specs.declared.stack.Layout.{Layout}

pub record IsLayout (args : List (List ℕ)) (layout : Layout) : Type 0 where
  pub arguments : layout.arguments ≡ arguments_at args
  pub random : layout.random ≡ random_at args
  pub words : layout.words ≡ stack_pointer args
