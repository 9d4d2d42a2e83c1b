-- What a step changed: each register with its new and its old value, and each element that it loaded or stored.
use Rattle.std.specs.Prelude.{ℕ, ◌+◌, Bool, List, [], ◌++◌, codes, get_or, min, nat_eq, if◌then◌else◌}
use Rattle.std.specs.Fmt.{decimal}
use Rattle.emu_model.specs.declared.access.Access.{Access}
use Rattle.emu_model.specs.Access.{Memory, value}
use Rattle.emu_model.specs.State.{Core}
use Rattle.emu_run.specs.Registers.{lines_of, numbered}
use Rattle.emu_run.specs.Text.{newline}
use Rattle.debug_texts.specs.Numbers.{hex_text}

abbrev pub was_text : ℕ → ℕ → List ℕ
was_text old new = codes " = " ++ hex_text new ++ codes " (was " ++ hex_text old ++ codes ")" ++ newline

-- `  x3 = 0x40 (was 0x3c)`
abbrev pub word_change : List ℕ → ℕ → ℕ → List ℕ
word_change name old new = if nat_eq old new then [] else codes "  " ++ name ++ was_text old new

abbrev pub x_change : Core → Core → ℕ → List ℕ
x_change old new k = word_change (numbered (codes "x") k) (get_or old.x k 0) (get_or new.x k 0)

abbrev pub scalar_changes : Core → Core → List ℕ
scalar_changes old new = lines_of 31 (x_change old new) ++ word_change (codes "sp") old.sp new.sp

abbrev pub kind_text : Bool → List ℕ
kind_text write = if write then codes "  stored " else codes "  loaded "

abbrev pub stored_text : Bool → ℕ → List ℕ
stored_text write old = if write then codes ", was " ++ hex_text old else []

-- `  stored 0x410040 4: 0x1, was 0x0`; `  loaded 0x410040 4: 0x1`
abbrev pub access_head : Access → List ℕ
access_head a = kind_text a.write ++ hex_text a.address ++ codes " " ++ decimal a.bytes ++ codes ": "

abbrev pub access_value : Memory → Access → ℕ
access_value m a = value m a.address (min a.bytes 8)

abbrev pub access_text : ℕ → Memory → Access → List ℕ
access_text old m a = access_head a ++ hex_text (access_value m a) ++ stored_text a.write old ++ newline
