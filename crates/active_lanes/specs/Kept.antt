-- The lanes that words and registers keep.
use Rattle.std.specs.Prelude.{ℕ, ◌*◌, ◌/◌, ◌%◌, ◌^◌, Bool, ◌||◌, nat_eq, nat_lt, if◌then◌else◌}
use Rattle.emu_model.specs.State.{Vectors}
use Rattle.sve_effects.specs.LaneLoop.{is_active}

-- the lanes that keep what is loaded: those of the first words, so many, and of the others the active ones
abbrev pub is_kept : ℕ → ℕ → ℕ → Vectors → ℕ → Bool
is_kept whole pg e v k = nat_lt k (whole * (64 / e)) || is_active e v pg k

-- whether byte t of a word is of a lane that is on, by the eight bits of a predicate that stand for the word; lanes have w bytes
abbrev pub keeps : ℕ → ℕ → ℕ → Bool
keeps w field t = nat_eq (field / 2 ^ (t / w * w) % 2) 1

-- byte t of a word that keeps the lanes that are on
abbrev pub kept : ℕ → ℕ → ℕ → ℕ → ℕ
kept w field word t = if keeps w field t then word / 2 ^ (8 * t) % 256 else 0
