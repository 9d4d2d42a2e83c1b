use Rattle.std.proofs.Common.{◌≡◌, ◌<◌, ◌≤◌, ◌+◌, ◌*◌, ◌/◌, ◌%◌, List, ℕ, None, get_or, ap, subst, ◌∙◌, arith}
use Rattle.emu_model.specs.declared.access.Kind.TheVariants.{Read}
use Rattle.emu_model.specs.Access.{refused}
use Rattle.emu_model.specs.Lists.{each}
use Rattle.emu_model.specs.Lanes.{with_z}
use Rattle.emu_model.specs.Pages.{bytes_at}
use Rattle.guest_mem.specs.Slices.{to_page_end}
use Rattle.contiguous_runs.proofs.moves.load_within.Goals as goal

-- as many bytes as are asked for
all_there : (a n : ℕ) → a % 4096 + n ≤ 4096 → to_page_end a n ≡ n
all_there a n h = omega arith

pub set_bytes-requires-clause-count : goal.set_bytes-requires-clause-count
set_bytes-requires-clause-count c = c.in-Some.ensures.length ∙ all_there c.args.base (c.args.n * c.args.w) c.requires.within

pub returns-in-Some-clause-allowed : goal.returns-in-Some-clause-allowed
returns-in-Some-clause-allowed c = λ is.
    subst (λ n. refused c.args.mem.now.memory c.args.base n Read ≡ None) (all_there c.args.base (c.args.n * c.args.w) c.requires.within) c.in-Some.ensures.allowed

pub returns-in-Some-clause-loaded : goal.returns-in-Some-clause-loaded
returns-in-Some-clause-loaded c = λ is.
    c.set_bytes.ensures
    ∙ ap (λ (bs : List ℕ). with_z c.args.vec.now c.args.zt (each (c.args.vec.now.bits / 8) (λ j. get_or bs j 0)))
    (c.in-Some.ensures.bytes ∙ ap (bytes_at c.args.mem.now.memory c.args.base) (all_there c.args.base (c.args.n * c.args.w) c.requires.within))

pub returns-in-Some-clause-bytes : goal.returns-in-Some-clause-bytes
returns-in-Some-clause-bytes c = λ is k.
    subst (λ (bs : List ℕ). get_or bs k 0 < 256)
    (c.in-Some.ensures.bytes ∙ ap (bytes_at c.args.mem.now.memory c.args.base) (all_there c.args.base (c.args.n * c.args.w) c.requires.within))
    (c.told_bytes-bytes.ensures.small k)
