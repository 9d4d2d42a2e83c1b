-- A context that is started by another one, which has returned from its call.
use Rattle.std.specs.Prelude.{ℕ, set, if◌then◌else◌}
use Rattle.emu_run.specs.declared.thread.Standing.TheVariants.{Ready}
use Rattle.emu_run.specs.ThreadCall.{clears_child, started_core}
use Rattle.emu_run.specs.Worlds.{Context}

-- (flags, stack, tls, clear); its x0 is 0
abbrev pub started_context : Context → ℕ → ℕ → ℕ → ℕ → Context
started_context caller flags stack tls clear = record {
  core = started_core (record caller.core { x = set caller.core.x 0 0 }) flags stack tls;
  vectors = caller.vectors;
  clear = if clears_child flags then clear else 0;
  standing = Ready;
}
