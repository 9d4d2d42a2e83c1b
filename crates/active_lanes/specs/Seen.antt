-- The lanes whose bits stand in the same 64 bits of a predicate.
use Rattle.std.specs.Prelude.{ℕ, ◌+◌, ◌*◌, ◌/◌, ◌%◌, nat_eq, if◌then◌else◌}

-- the lane behind those of e bits whose bits stand in the same 64 bits of a predicate as that of lane k
abbrev pub seen_end : ℕ → ℕ → ℕ
seen_end e k = (k * (e / 8) / 64 + 1) * (64 / (e / 8))

-- 0 at the bits that lanes of w bytes look at, which are the lowest of each field, and 1 at the others
abbrev pub unseen_bit : ℕ → ℕ → ℕ
unseen_bit w b = if nat_eq (b % w) 0 then 0 else 1
