use Rattle.std.proofs.Common.{◌≡◌, ◌<◌, ◌+◌, ◌*◌, ◌/◌, ◌%◌, ◌^◌, ℕ, Bool, List, get_or, if◌then◌else◌, sym, ap, ◌∙◌, arith}
use Rattle.active_lanes.specs.Kept.{is_kept}
use Rattle.active_lanes.proofs.Kept.{front_lane, kept_front, kept_later, later_lane}
use Rattle.active_lanes.proofs.InParts.{read_byte}
use Rattle.active_lanes.proofs.parts.copied_word.Goals as goal

pub returns-then-i-whole : goal.returns-then-i-whole
returns-then-i-whole c = λ t h.
    let bs : List ℕ = c.args.bytes.now in
    let there : c.args.at + 8 * c.args.i + t ≡ c.args.at + (8 * c.args.i + t) = omega arith in
    let front : 8 * c.args.i + t < 8 * c.args.whole = omega (arith, h, c.if-i-whole.true) in
    read_byte bs (c.args.at + 8 * c.args.i) c.read_u64-word.result (λ k. (c.type_inv.bytes k).fits) c.read_u64-word.ensures t h
    ∙ ap (λ k. get_or bs k 0) there
    ∙ ap (λ (b : Bool). if b then get_or bs (c.args.at + (8 * c.args.i + t)) 0 else 0)
    (sym (kept_front c.args.whole c.args.pg c.args.e c.args.vec.now ((8 * c.args.i + t) / (c.args.e / 8)) (front_lane c.args.e c.args.whole (8 * c.args.i + t) c.requires.size front)))

pub returns : goal.returns
returns c = λ t h.
    let bs : List ℕ = c.args.bytes.now in
    let word : ℕ = c.read_u64-word.result in
    let lane : ℕ = (8 * c.args.i + t) / (c.args.e / 8) in
    let there : c.args.at + 8 * c.args.i + t ≡ c.args.at + (8 * c.args.i + t) = omega arith in
    c.kept_word.ensures t h
    ∙ ap (λ (b : Bool). if b then word / 2 ^ (8 * t) % 256 else 0)
    (c.field.ensures c.args.e t c.requires.size h ∙ sym (kept_later c.args.whole c.args.pg c.args.e c.args.vec.now lane (later_lane c.args.e c.args.whole c.args.i t c.requires.size c.if-i-whole.false)))
    ∙ ap (λ x. if is_kept c.args.whole c.args.pg c.args.e c.args.vec.now lane then x else 0)
    (read_byte bs (c.args.at + 8 * c.args.i) word (λ k. (c.type_inv.bytes k).fits) c.read_u64-word.ensures t h ∙ ap (λ k. get_or bs k 0) there)
