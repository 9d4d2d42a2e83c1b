use Rattle.std.proofs.Common.{◌≡◌, drop}
use Rattle.io_gate.proofs.FirstFile.{first_file}
use Rattle.io_gate.proofs.memory_images.file_of.Given as goal

abbrev pub invariant-loop-known : goal.invariant-loop-known
invariant-loop-known l =
    first_file l.name (drop l.known-index l.files) ≡ first_file l.name l.files
