-- The recursions of the definitions, as loops go: one entry, one page more.
use Rattle.std.proofs.Common.{◌≡◌, ℕ, ◌+◌, ◌*◌, true, ◌&&◌, is_some, refl, add-one}
use Rattle.emu_model.specs.Access.{Memory, address, page_of, page_size}
use Rattle.tool_sites.specs.Guards.{buffer_at, nearer, nearest, no_buffer}
use Rattle.tool_sites.specs.Nearby.{all_mapped, first_of, least_above, least_below, place_above, place_below}

pub nearest-none : (m : Memory) (table a : ℕ) → nearest m table a 0 ≡ no_buffer
unfolding nearest
nearest-none m table a = refl

pub nearest-more : (m : Memory) (table a n : ℕ) → nearest m table a (n + 1) ≡ nearer a (nearest m table a n) (buffer_at m table n)
unfolding nearest
nearest-more m table a n = rw add-one refl

pub ruleset buffer_steps = (nearest-none, nearest-more)

pub least_below-none : (m : Memory) (a : ℕ) → least_below m a 0 ≡ 0
unfolding least_below
least_below-none m a = refl

pub least_below-more : (m : Memory) (a n : ℕ) → least_below m a (n + 1) ≡ first_of (least_below m a n) (place_below m a (n + 1))
unfolding least_below
least_below-more m a n = rw add-one refl

pub ruleset below_steps = (least_below-none, least_below-more)

pub least_above-none : (m : Memory) (a : ℕ) → least_above m a 0 ≡ 0
unfolding least_above
least_above-none m a = refl

pub least_above-more : (m : Memory) (a n : ℕ) → least_above m a (n + 1) ≡ first_of (least_above m a n) (place_above m a (n + 1))
unfolding least_above
least_above-more m a n = rw add-one refl

pub ruleset above_steps = (least_above-none, least_above-more)

pub all_mapped-none : (m : Memory) (from : ℕ) → all_mapped m from 0 ≡ true
unfolding all_mapped
all_mapped-none m from = refl

pub all_mapped-more : (m : Memory) (from n : ℕ) → all_mapped m from (n + 1)
    ≡ (all_mapped m from n && is_some (page_of m (address (from + page_size * n))))
unfolding all_mapped
all_mapped-more m from n = rw add-one refl

pub ruleset mapped_steps = (all_mapped-none, all_mapped-more)
