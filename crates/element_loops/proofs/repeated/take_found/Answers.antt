use Rattle.std.proofs.Common.{◌≡◌, ◌<◌, ◌≤◌, ◌*◌, ◌/◌, ◌^◌, ◌++◌, ◌∷◌, [], ℕ, Bool, false, List, None, nat_eq, if◌then◌else◌, sym, ap, subst, ◌∙◌, arith}
use Rattle.emu_model.specs.declared.access.Access.{Access}
use Rattle.emu_model.specs.declared.access.Kind.TheVariants.{Read}
use Rattle.emu_model.specs.Access.{refused, value}
use Rattle.emu_model.specs.Elements.{Element, accesses_of, reach}
use Rattle.emu_model.specs.Pages.{bytes_at}
use Rattle.guest_mem.specs.Slices.{to_page_end}
use Rattle.sve_effects.specs.Lane.{extended_by}
use Rattle.sve_effects.specs.LaneLoop.{is_active}
use Rattle.guest_mem.specs.ReachLaws.{all_of}
use Rattle.element_loops.specs.declared.plan.OnLanes.{OnLanes}
use Rattle.element_loops.specs.declared.plan.Target.{Target}
use Rattle.element_loops.specs.Layouts.{is_on_of, layout_of}
use Rattle.element_loops.specs.Planned.{loaded_by}
use Rattle.active_lanes.specs.Kept.{is_kept}
use Rattle.element_loops.specs.SoFar.{element_of_lane}
use Rattle.active_lanes.proofs.Kept.{front_few, front_kept}
use Rattle.element_loops.proofs.Repeats.{only_element, found_lane}
use Rattle.element_loops.proofs.RunLoads.{reach_single}
use Rattle.element_loops.proofs.Writes.{same_place}
use Rattle.element_loops.proofs.repeated.take_found.Goals as goal

pub set_placed-requires-clause-few : goal.set_placed-requires-clause-few
set_placed-requires-clause-few c =
    subst (λ n. n ≤ c.args.vec.now.bits / 64) (sym c.words_of_lanes-whole.ensures) (front_few c.args.plan.now.bits c.args.vec.now.bits c.front_lanes-front.result c.requires.plan.size c.front_lanes-front.ensures.few)

pub set_placed-requires-clause-room : goal.set_placed-requires-clause-room
set_placed-requires-clause-room c = λ k b. let none : k * 0 ≡ 0 = omega arith in omega (arith, none, c.if-bytes-n.true)

pub returns-in-Some-clause-loaded : goal.returns-in-Some-clause-loaded
returns-in-Some-clause-loaded c = λ is.
    let on : (k : ℕ) → (layout_of c.args.plan.now c.args.vec.now).is_on k ≡ nat_eq k c.args.k = λ k. ap (λ (o : OnLanes). is_on_of o c.args.plan.now.bits c.args.vec.now k) c.requires.found in
    let one : _ ≡ element_of_lane (layout_of c.args.plan.now c.args.vec.now) c.args.k 0 ∷ [] = only_element (layout_of c.args.plan.now c.args.vec.now) c.args.k c.requires.replicated.one on c.requires.within in
    let count : to_page_end c.address-at.result c.args.plan.now.bytes ≡ c.args.plan.now.bytes = sym c.in-Some.ensures.length ∙ c.if-bytes-n.true in
    let free : refused c.args.mem.now.memory ((layout_of c.args.plan.now c.args.vec.now).address c.args.k 0) c.args.plan.now.bytes Read ≡ None
    = ap (λ a. refused c.args.mem.now.memory a c.args.plan.now.bytes Read) (sym c.address-at.ensures) ∙ subst (λ n. refused c.args.mem.now.memory c.address-at.result n Read ≡ None) count c.in-Some.ensures.allowed in
    record {
      reached = subst (λ (es : List Element). reach c.args.mem.now.memory Read es ≡ all_of es) (sym one) (reach_single c.args.mem.now.memory Read (element_of_lane (layout_of c.args.plan.now c.args.vec.now) c.args.k 0) free);
      logged = c.push.ensures.items ∙ ap (λ (l : List Access). l ++ record { address = c.address-at.result; bytes = c.args.plan.now.bytes; write = false } ∷ []) c.requires.empty
          ∙ ap (λ a. record { address = a; bytes = c.args.plan.now.bytes; write = false } ∷ []) c.address-at.ensures ∙ ap (accesses_of false) (sym one);
    }

pub returns-in-Some-clause-registers : goal.returns-in-Some-clause-registers
returns-in-Some-clause-registers c = λ is.
    let count : to_page_end c.address-at.result c.args.plan.now.bytes ≡ c.args.plan.now.bytes = sym c.in-Some.ensures.length ∙ c.if-bytes-n.true in
    let are : c.in-Some.bytes.now ≡ bytes_at c.args.mem.now.memory c.address-at.result c.args.plan.now.bytes = c.in-Some.ensures.bytes ∙ ap (λ n. bytes_at c.args.mem.now.memory c.address-at.result n) count in
    let word : c.address-at.result < 2 ^ 64 = omega arith in
    c.set_placed.ensures (λ k. if is_active c.args.plan.now.bits c.args.vec.now c.args.pg k then extended_by c.args.plan.now.is_signed c.args.plan.now.bits (8 * c.args.plan.now.bytes) (value c.args.mem.now.memory ((layout_of c.args.plan.now c.args.vec.now).address k 0) c.args.plan.now.bytes) else 0)
    (λ k b.
    ap (λ (t : Bool). if t then extended_by c.args.plan.now.is_signed c.args.plan.now.bits (8 * c.args.plan.now.bytes) (value c.args.mem.now.memory ((layout_of c.args.plan.now c.args.vec.now).address k 0) c.args.plan.now.bytes) else 0)
    (front_kept c.args.plan.now.bits c.args.pg c.front_lanes-front.result c.words_of_lanes-whole.result c.args.vec.now c.requires.plan.size c.words_of_lanes-whole.ensures c.front_lanes-front.ensures.on k)
    ∙ ap (λ x. if is_kept c.words_of_lanes-whole.result c.args.pg c.args.plan.now.bits c.args.vec.now k then extended_by c.args.plan.now.is_signed c.args.plan.now.bits (8 * c.args.plan.now.bytes) x else 0)
    (ap (λ a. value c.args.mem.now.memory a c.args.plan.now.bytes) (same_place c.args.plan.now.places c.args.plan.now.bits c.args.plan.now.bytes c.args.plan.now.registers c.args.vec.now k c.args.k c.requires.replicated.single ∙ sym c.address-at.ensures)
    ∙ found_lane c.args.mem.now.memory c.address-at.result c.args.plan.now.bytes c.in-Some.bytes.now word are k))
    ∙ ap (λ (t : Target). loaded_by t c.args.plan.now.is_signed (layout_of c.args.plan.now c.args.vec.now) c.args.mem.now.memory c.args.vec.now) (sym c.requires.target)
