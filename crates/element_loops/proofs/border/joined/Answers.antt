use Rattle.std.proofs.Common.{◌≡◌, ◌<◌, ◌≤◌, ◌+◌, ◌-◌, ◌*◌, ◌%◌, ◌^◌, ℕ, true, None, get_or, refl, ap, sym, subst, ◌∙◌, arith}
use Rattle.std.specs.Option.{is_some}
use Rattle.emu_model.specs.declared.access.Kind.TheVariants.{Read}
use Rattle.emu_model.specs.Access.{address, allowed, refused, page_size}
use Rattle.emu_model.specs.Marks.{MarkedMemory}
use Rattle.emu_model.specs.Pages.{bytes_at}
use Rattle.guest_mem.specs.Slices.{to_page_end}
use Rattle.element_loops.proofs.RunLoads.{joined_allowed, joined_bytes}
use Rattle.element_loops.proofs.border.joined.Goals as goal

pub returns-clause-allowed : goal.returns-clause-allowed
returns-clause-allowed c = λ is.
    let second : refused c.args.mem.now.memory ((c.args.base + c.in-Some.first) % 2 ^ 64) c.in-Some-copy_part.rest Read ≡ None = ap (λ (m : MarkedMemory). refused m.memory ((c.args.base + c.in-Some.first) % 2 ^ 64) c.in-Some-copy_part.rest Read) (sym c.copy_part.ensures.memory) ∙ c.in-Some-copy_part.ensures.allowed in
    joined_allowed c.args.mem.now.memory Read c.args.base c.args.total c.in-Some.first c.in-Some-copy_part.rest ((c.args.base + c.in-Some.first) % 2 ^ 64) c.in-Some.ensures.allowed second refl c.in-Some.ensures.few c.in-Some-copy_part.ensures.few c.if-first-rest.false

pub returns-clause-bytes : goal.returns-clause-bytes
returns-clause-bytes c = λ is.
    joined_bytes c.args.mem.now.memory c.args.base c.args.total c.in-Some.first c.in-Some-copy_part.rest ((c.args.base + c.in-Some.first) % 2 ^ 64) c.copy_part.new.bytes c.copy_part-2.new.bytes refl c.in-Some.ensures.few c.in-Some-copy_part.ensures.few c.if-first-rest.false
    c.in-Some.ensures.here c.in-Some-copy_part.ensures.before
    (λ j b. c.in-Some-copy_part.ensures.here j b ∙ ap (λ (m : MarkedMemory). get_or (bytes_at m.memory ((c.args.base + c.in-Some.first) % 2 ^ 64) c.in-Some-copy_part.rest) j 0) c.copy_part.ensures.memory)

pub returns-clause-behind : goal.returns-clause-behind
returns-clause-behind c = λ is j h.
    let second : c.in-Some.first + c.in-Some-copy_part.rest ≤ j = omega (arith, h, c.in-Some.ensures.few, c.in-Some-copy_part.ensures.few) in
    let first : 0 + c.in-Some.first ≤ j = omega (arith, h, c.in-Some.ensures.few) in
    c.in-Some-copy_part.ensures.behind j second ∙ c.in-Some.ensures.behind j first

pub returns-then-first-total-clause-allowed : goal.returns-then-first-total-clause-allowed
returns-then-first-total-clause-allowed c = λ is. subst (λ n. refused c.args.mem.now.memory c.args.base n Read ≡ None) c.if-first-total.true c.in-Some.ensures.allowed

pub returns-then-first-total-clause-bytes : goal.returns-then-first-total-clause-bytes
returns-then-first-total-clause-bytes c = λ is j b.
    let within : j < c.in-Some.first = omega (arith, b, c.if-first-total.true) in
    let place : j ≡ 0 + j = omega arith in
    ap (λ i. get_or c.copy_part.new.bytes i 0) place ∙ c.in-Some.ensures.here j within ∙ ap (λ n. get_or (bytes_at c.args.mem.now.memory c.args.base n) j 0) c.if-first-total.true

pub returns-then-first-total-clause-behind : goal.returns-then-first-total-clause-behind
returns-then-first-total-clause-behind c = λ is j h. let past : 0 + c.in-Some.first ≤ j = omega (arith, h, c.if-first-total.true) in c.in-Some.ensures.behind j past

-- what is left behind the first page fits the next
rest_fits : (base total first rest : ℕ) → base % page_size + total ≤ 2 * page_size → first ≡ page_size - base % page_size → first ≤ total → rest ≡ to_page_end ((base + first) % 2 ^ 64) (total - first) → total ≤ first + rest
rest_fits base total first rest near is few count = omega (arith, near, is, few, count)

pub returns-then-first-rest-clause-sure : goal.returns-then-first-rest-clause-sure
returns-then-first-rest-clause-sure c = λ near a b.
    let first : c.in-Some.first ≡ page_size - c.args.base % page_size = omega (arith, c.in-Some.ensures.count, c.if-first-total.false) in
    let all : c.args.total ≤ c.in-Some.first + c.in-Some-copy_part.rest = rest_fits c.args.base c.args.total c.in-Some.first c.in-Some-copy_part.rest near first c.in-Some.ensures.few c.in-Some-copy_part.ensures.count in
    absurd (omega (arith, all, c.if-first-rest.true))

-- the byte behind the first page is the next page's first
next_page : (base total first : ℕ) → first ≡ to_page_end base total → (first ≡ total → ⊥) → (base + first) % 2 ^ 64 ≡ address (base + (page_size - base % page_size))
next_page base total first count more =
    let is : first ≡ page_size - base % page_size = omega (arith, count, more) in
    ap (λ f. (base + f) % 2 ^ 64) is

pub returns-in_default-copy_part-clause-sure : goal.returns-in_default-copy_part-clause-sure
returns-in_default-copy_part-clause-sure c = λ near here next.
    let at : (c.args.base + c.in-Some.first) % 2 ^ 64 ≡ address (c.args.base + (page_size - c.args.base % page_size)) = next_page c.args.base c.args.total c.in-Some.first c.in-Some.ensures.count c.if-first-total.false in
    let gives : allowed c.copy_part.new.mem.memory Read ((c.args.base + c.in-Some.first) % 2 ^ 64) ≡ true = ap (λ (m : MarkedMemory). allowed m.memory Read ((c.args.base + c.in-Some.first) % 2 ^ 64)) c.copy_part.ensures.memory ∙ ap (allowed c.args.mem.now.memory Read) at ∙ next in
    ap is_some (sym c.in_default-copy_part.is) ∙ c.copy_part-2.ensures.sure gives
