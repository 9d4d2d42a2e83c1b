-- Bytes, words and doublewords of memory, whatever the rights of their pages are; bytes without a page are 0.
use Rattle.std.specs.Prelude.{ℕ, ◌+◌, ◌*◌, unwrap_or}
use Rattle.emu_model.specs.Access.{Memory, address}
use Rattle.emu_model.specs.Pages.{peeked}

abbrev pub byte_at : Memory → ℕ → ℕ
byte_at m a = unwrap_or (peeked m a) 0

abbrev pub word_at : Memory → ℕ → ℕ
word_at m a =
    byte_at m a + 256 * byte_at m (address (a + 1)) + 65536 * byte_at m (address (a + 2))
    + 16777216 * byte_at m (address (a + 3))

abbrev pub doubleword_at : Memory → ℕ → ℕ
doubleword_at m a = word_at m a + 4294967296 * word_at m (address (a + 4))
