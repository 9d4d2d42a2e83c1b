-- Ranges that a call may move bytes in.
use Rattle.std.specs.Prelude.{◌≡◌, ◌≤◌, false, List}
use Rattle.std.specs.List.{list_any}
use Rattle.emu_model.specs.declared.access.Kind.{Kind}
use Rattle.emu_model.specs.Access.{Memory}
use Rattle.emu_system.specs.declared.system_call.Range.{Range}
use Rattle.emu_system.specs.SystemCall.{is_denied, most_bytes, total}

-- each byte has the right, and there are no more than one call moves
pub record AreGranted (m : Memory) (kind : Kind) (ranges : List Range) : Type 0 where
  pub few : total ranges ≤ most_bytes
  pub granted : list_any (is_denied m kind) ranges ≡ false
