use Rattle.std.proofs.Common.{◌≡◌, ◌<◌, ◌≤◌, ◌+◌, ◌-◌, ◌*◌, ◌/◌, ◌%◌, ◌^◌, ℕ, nat_eq, get_or, inl, inr, sym, ap, subst, ◌∙◌, arith, true}
use Rattle.std.proofs.lemmas.Bool.{both_ways, cases_lt}
use Rattle.emu_model.specs.Lanes.{read_p}
use Rattle.sve_effects.specs.LaneLoop.{is_active}
use Rattle.active_lanes.proofs.LaneBits.{among_bytes, begins_in, behind_lanes, ends_before, ends_in, first_is_clear, lane_place, lane_seen, same_before_end, same_word, seen_from, seen_only, set_alone}
use Rattle.active_lanes.specs.Seen.{seen_end}
use Rattle.active_lanes.proofs.fields.idle_from.Goals as goal

pub returns-clause-off : goal.returns-clause-off
returns-clause-off c = λ i lo hi.
    let e : ℕ = c.args.e in
    let k : ℕ = c.args.k in
    let bytes : ℕ = c.min-bytes.result in
    let rest : ℕ = get_or c.p_words-words.result.now (k * (e / 8) / 64) 0 / 2 ^ (k * (e / 8) % 64) in
    let under : i < c.args.k + c.min-bytes.result / (c.args.e / 8) = omega (arith, hi, c.min.ensures, c.lanes_of_bytes.ensures) in
    let room : c.min-bytes.result ≤ 64 - c.args.k * (c.args.e / 8) % 64 = omega (arith, c.min-bytes.ensures) in
    let few : c.min-bytes.result ≤ c.zeros.result = omega (arith, c.min-bytes.ensures) in
    let same : i * (c.args.e / 8) / 64 ≡ c.args.k * (c.args.e / 8) / 64 = same_word e k i bytes c.requires.size lo under room in
    let lane : i < c.args.vec.now.bits / c.args.e = omega (arith, hi, c.min.ensures, c.requires.within) in
    let within : i * (c.args.e / 8) < c.args.vec.now.bits / 8 = lane_place e c.args.vec.now.bits i c.requires.size lane in
    let among : (i - c.args.k) * (c.args.e / 8) < c.min-bytes.result = among_bytes e k i bytes c.requires.size lo under in
    let below : (i - c.args.k) * (c.args.e / 8) < c.zeros.result = omega (arith, among, few) in
    let short : (i - c.args.k) * (c.args.e / 8) < 64 = omega (arith, below, c.zeros.ensures.few) in
    let small : c.bits_between.result < 2 ^ 64 = c.bits_between.type_inv in
    seen_from c.p_words-words.result.now (read_p c.args.vec.now c.args.pg) (c.args.vec.now.bits / 8) e k i c.requires.size c.p_words-words.ensures.words within lo same
    ∙ ap (λ x. nat_eq x 1) (first_is_clear rest c.bits_between.result ((i - k) * (e / 8)) small short (c.bits_between.ensures ((i - k) * (e / 8)) short ∙ lane_seen e (i - k) c.requires.size) (c.zeros.ensures.zeros ((i - k) * (e / 8)) below))

pub returns-clause-seen : goal.returns-clause-seen
returns-clause-seen c =
    let few : c.min.result ≤ c.min-bytes.result / (c.args.e / 8) = omega (arith, c.min.ensures, c.lanes_of_bytes.ensures) in
    let room : c.min-bytes.result ≤ 64 - c.args.k * (c.args.e / 8) % 64 = omega (arith, c.min-bytes.ensures) in
    ends_in c.args.e c.args.k c.min.result c.min-bytes.result c.requires.size few room

pub returns-clause-on : goal.returns-clause-on
returns-clause-on c = λ less before.
    let e : ℕ = c.args.e in
    let k : ℕ = c.args.k in
    let rest : ℕ = get_or c.p_words-words.result.now (k * (e / 8) / 64) 0 / 2 ^ (k * (e / 8) % 64) in
    let lanes : c.min.result ≡ c.min-bytes.result / (c.args.e / 8) = omega (arith, less, c.min.ensures, c.lanes_of_bytes.ensures) in
    let room : c.min-bytes.result ≤ 64 - c.args.k * (c.args.e / 8) % 64 = omega (arith, c.min-bytes.ensures) in
    let ends : c.args.k + c.min-bytes.result / (c.args.e / 8) < seen_end c.args.e c.args.k = subst (λ n. c.args.k + n < seen_end c.args.e c.args.k) lanes before in
    let short : c.min-bytes.result < 64 - c.args.k * (c.args.e / 8) % 64 = ends_before e k c.min-bytes.result c.requires.size ends room in
    let all : c.min-bytes.result ≡ c.zeros.result = omega (arith, short, c.min-bytes.ensures) in
    let within : c.zeros.result < 64 = omega (arith, short, all) in
    let small : c.bits_between.result < 2 ^ 64 = c.bits_between.type_inv in
    let set = set_alone rest c.bits_between.result c.zeros.result small within (c.zeros.ensures.next within) in
    let whole : c.zeros.result % (e / 8) ≡ 0 = seen_only (e / 8) c.zeros.result (sym (c.bits_between.ensures c.zeros.result within) ∙ set.1) in
    let place : (k + c.min.result - k) * (e / 8) ≡ c.zeros.result =
    ap (λ n. (k + n - k) * (e / 8)) (lanes ∙ ap (λ b. b / (e / 8)) all) ∙ behind_lanes e k c.zeros.result c.requires.size whole in
    let lane : c.args.k + c.min.result < c.args.vec.now.bits / c.args.e = omega (arith, less, c.requires.within) in
    let from : c.args.k ≤ c.args.k + c.min.result = omega arith in
    seen_from c.p_words-words.result.now (read_p c.args.vec.now c.args.pg) (c.args.vec.now.bits / 8) e k (k + c.min.result) c.requires.size c.p_words-words.ensures.words
    (lane_place e c.args.vec.now.bits (k + c.min.result) c.requires.size lane) from (same_before_end e k (k + c.min.result) c.requires.size from before)
    ∙ ap (λ b. nat_eq (rest / 2 ^ b % 2) 1) place
    ∙ ap (λ x. nat_eq x 1) set.0

-- else lane k is active
pub returns-clause-some : goal.returns-clause-some
returns-clause-some c = elim (cases_lt 0 c.min.result) [
  | inl some ↦ omega (arith, some)
  | inr none ↦
      (let e : ℕ = c.args.e in
      let k : ℕ = c.args.k in
      let here : c.args.k + c.min.result ≡ c.args.k = omega (arith, none) in
      let less : c.min.result < c.args.most = omega (arith, none, c.requires.some) in
      let before : k + c.min.result < seen_end e k = subst (λ n. n < seen_end e k) (sym here) (begins_in e k c.requires.size) in
      absurd (both_ways (is_active e c.args.vec.now c.args.pg k) c.requires.off (subst (λ n. is_active c.args.e c.args.vec.now c.args.pg n ≡ true) here (returns-clause-on c less before))))
]
