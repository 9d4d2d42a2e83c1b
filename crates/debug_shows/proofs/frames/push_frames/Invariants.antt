use Rattle.std.proofs.Common.{◌≡◌, ◌+◌, ◌-◌, ◌++◌, string_bytes}
use Rattle.debug_shows.specs.Frames.{frames, most_frames}
use Rattle.debug_shows.proofs.frames.push_frames.Given as goal

-- what was appended, and the calls that are left, are all
abbrev pub invariant-frames : goal.invariant-frames
invariant-frames l =
    string_bytes l.text ++ frames l.symbols l.mem.memory (l.done + 1) l.before l.frame (most_frames - l.done)
    ≡ string_bytes l.fn.text ++ frames l.symbols l.mem.memory 1 0 l.first most_frames
