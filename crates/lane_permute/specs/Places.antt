-- The bits of a word and of words, and where fields of w bits come from.
use Rattle.std.specs.Prelude.{◌≡◌, ◌<◌, ◌⊎◌, ℕ, ◌+◌, ◌-◌, ◌*◌, ◌/◌, ◌%◌, Bool, nat_eq, nat_lt, if◌then◌else◌}
use Rattle.std.specs.Int.{bit_at}

-- the bits of a field, for a lane of 8, 16, 32 or 64 bits
abbrev pub IsField : ℕ → Type 0
IsField w = (w ≡ 1) ⊎ (w ≡ 2) ⊎ (w ≡ 4) ⊎ (w ≡ 8)

-- bit s of a word
abbrev pub is_one : ℕ → ℕ → Bool
is_one word s = nat_eq (bit_at word s) 1

-- the 64 bits of a word come from places of another
abbrev pub Comes : ℕ → ℕ → (ℕ → ℕ) → Type 0
Comes new old place = (s : ℕ) → s < 64 → is_one new s ≡ is_one old (place s)

-- ---- in a word: where bit s comes from

-- the second and the third quarter of each 4 * d bits change places
abbrev pub by_quarters : ℕ → ℕ → ℕ
by_quarters d s = if nat_eq (s / d % 4) 1 then s + d else if nat_eq (s / d % 4) 2 then s - d else s

-- the halves of each 2 * d bits change places
abbrev pub by_halves : ℕ → ℕ → ℕ
by_halves d s = if nat_eq (s / d % 2) 0 then s + d else s - d

-- a field of the low half of the word, a field of its high half, and so on in turn
abbrev pub in_turn : ℕ → ℕ → ℕ
in_turn w s = s / (2 * w) * w + s % w + 32 * (s / w % 2)

-- the even fields, and the odd ones behind them
abbrev pub apart : ℕ → ℕ → ℕ
apart w s = s % 32 / w * (2 * w) + s % w + w * (s / 32)

-- the fields in reverse order
abbrev pub backwards : ℕ → ℕ → ℕ
backwards w s = (64 / w - 1 - s / w) * w + s % w

-- ---- in words: bit j of fields of w bits of two predicates, which are given bit by bit

-- the fields of both in turn, from bit `from` of each on
abbrev pub zipped : ℕ → ℕ → (ℕ → Bool) → (ℕ → Bool) → ℕ → Bool
zipped w from a b j = if nat_eq (j / w % 2) 0 then a (from + (j / (2 * w) * w + j % w)) else b (from + (j / (2 * w) * w + j % w))

-- every second field, from bit `skip` on
abbrev pub every_second : ℕ → ℕ → (ℕ → Bool) → ℕ → Bool
every_second w skip a j = a (j / w * (2 * w) + skip + j % w)

-- the bits of the first below a place, and those of the second from there on
abbrev pub joined : ℕ → (ℕ → Bool) → (ℕ → Bool) → ℕ → Bool
joined at a b j = if nat_lt j at then a j else b (j - at)

-- every second field of both in turn, from bit `skip` on
abbrev pub transposed : ℕ → ℕ → (ℕ → Bool) → (ℕ → Bool) → ℕ → Bool
transposed w skip a b j = if nat_eq (j / w % 2) 0 then a (j + skip) else b (j - w + skip)

-- the fields of so many bits in reverse order
abbrev pub reversed : ℕ → ℕ → (ℕ → Bool) → ℕ → Bool
reversed w bits a j = a ((bits / w - 1 - j / w) * w + j % w)
