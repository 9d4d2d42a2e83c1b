-- How large a frame is.
use Rattle.std.specs.Prelude.{ℕ}

-- the bytes of a frame
abbrev pub frame_size : ℕ
frame_size = 4096
