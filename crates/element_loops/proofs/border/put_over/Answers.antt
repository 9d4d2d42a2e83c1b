use Rattle.std.proofs.Common.{◌≡◌, ◌<◌, ◌≤◌, ◌+◌, ◌-◌, ◌%◌, ◌^◌, ℕ, true, None, List, take, drop, length, refl, sym, ap, subst, ◌∙◌, arith}
use Rattle.std.proofs.lemmas.List.{length-take, length-drop, take_all}
use Rattle.emu_model.specs.declared.access.Kind.TheVariants.{Write}
use Rattle.emu_model.specs.Access.{Memory, refused, page_size}
use Rattle.emu_model.specs.Pages.{with_bytes}
use Rattle.emu_model.specs.WithinPage.{none_refused_within}
use Rattle.element_loops.proofs.RunLoads.{joined_allowed}
use Rattle.element_loops.proofs.RunStores.{part_small_first, written_refused, written_parts}
use Rattle.element_loops.proofs.border.put_over.Goals as goal

pub returns-clause-allowed : goal.returns-clause-allowed
returns-clause-allowed c = λ is.
    let f : ℕ = page_size - c.args.at % page_size in
    let b : ℕ = (c.args.at + (page_size - c.args.at % page_size)) % 2 ^ 64 in
    let n : ℕ = length c.args.bytes.now in
    let long : length (take (page_size - c.args.at % page_size) c.args.bytes.now) ≡ page_size - c.args.at % page_size = omega (arith, length-take (page_size - c.args.at % page_size) c.args.bytes.now, c.if-bytes-first.false) in
    let one : refused c.args.mem.now.memory c.args.at f Write ≡ None = subst (λ n. refused c.args.mem.now.memory c.args.at n Write ≡ None) long (c.if-not-put_bytes.ensures.allowed refl) in
    let fits : b % page_size + (n - f) ≤ page_size = omega (arith, c.requires) in
    let word : b < 2 ^ 64 = omega arith in
    let two : refused c.args.mem.now.memory b (n - f) Write ≡ None = none_refused_within c.args.mem.now.memory b (n - f) word fits Write (sym c.may_write.ensures ∙ c.if-not-may_write.false) in
    joined_allowed c.args.mem.now.memory Write c.args.at n f (n - f) b one two refl (omega arith) (omega arith) (omega arith)

pub returns-clause-written : goal.returns-clause-written
returns-clause-written c = λ is.
    let f : ℕ = page_size - c.args.at % page_size in
    let b : ℕ = (c.args.at + (page_size - c.args.at % page_size)) % 2 ^ 64 in
    let n : ℕ = length c.args.bytes.now in
    let bs : List ℕ = c.args.bytes.now in
    let fits : b % page_size + (n - f) ≤ page_size = omega (arith, c.requires) in
    let word : b < 2 ^ 64 = omega arith in
    let two : refused c.args.mem.now.memory b (n - f) Write ≡ None = none_refused_within c.args.mem.now.memory b (n - f) word fits Write (sym c.may_write.ensures ∙ c.if-not-may_write.false) in
    let first : c.put_bytes-2.new.mem.memory ≡ with_bytes c.args.mem.now.memory c.args.at (take f bs) = c.if-not-put_bytes.ensures.written refl in
    let piece : take (n - f) (drop f bs) ≡ drop f bs = take_all (n - f) (drop f bs) (omega (arith, length-drop f bs)) in
    let long : length (take (n - f) (drop f bs)) ≡ n - f = ap (λ (xs : List ℕ). length xs) piece ∙ length-drop f bs in
    let still : refused c.put_bytes-2.new.mem.memory b (length (take (n - f) (drop f bs))) Write ≡ None
    = ap (λ (m : Memory). refused m b (length (take (n - f) (drop f bs))) Write) first
    ∙ written_refused (take f bs) c.args.mem.now.memory c.args.at b (length (take (n - f) (drop f bs))) Write (λ t. part_small_first f bs t (λ k. (c.type_inv.bytes k).fits))
    ∙ ap (λ n. refused c.args.mem.now.memory b n Write) long ∙ two in
    let some : 0 < length (take (n - f) (drop f bs)) = omega (arith, long, c.if-bytes-first.false) in
    let sure : c.put_bytes-3.result ≡ true = c.put_bytes-3.ensures.sure some still in
    c.put_bytes-3.ensures.written sure
    ∙ ap (λ (xs : List ℕ). with_bytes c.put_bytes-2.new.mem.memory b xs) piece
    ∙ ap (λ (m : Memory). with_bytes m b (drop f bs)) first
    ∙ written_parts bs c.args.mem.now.memory c.args.at f b (omega (arith, c.if-bytes-first.false)) (omega arith)

pub returns-then-bytes-first-clause-sure : goal.returns-then-bytes-first-clause-sure
returns-then-bytes-first-clause-sure c = λ over a b. absurd (omega (arith, over, c.if-bytes-first.true))

pub returns-then-not-put_bytes-clause-sure : goal.returns-then-not-put_bytes-clause-sure
returns-then-not-put_bytes-clause-sure c = λ over a b.
    let f : ℕ = page_size - c.args.at % page_size in
    let long : length (take (page_size - c.args.at % page_size) c.args.bytes.now) ≡ page_size - c.args.at % page_size = omega (arith, length-take (page_size - c.args.at % page_size) c.args.bytes.now, c.if-bytes-first.false) in
    let some : 0 < length (take (page_size - c.args.at % page_size) c.args.bytes.now) = omega (arith, long) in
    let fits : c.args.at % page_size + length (take (page_size - c.args.at % page_size) c.args.bytes.now) ≤ page_size = omega (arith, long) in
    c.if-not-put_bytes.ensures.sure some (none_refused_within c.args.mem.now.memory c.args.at (length (take f c.args.bytes.now)) c.ranges.at.fits fits Write a)
