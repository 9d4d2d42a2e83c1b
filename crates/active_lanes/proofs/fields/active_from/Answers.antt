use Rattle.std.proofs.Common.{◌≡◌, ◌<◌, ◌≤◌, ◌+◌, ◌-◌, ◌*◌, ◌/◌, ◌%◌, ◌^◌, ℕ, nat_eq, get_or, sym, ap, subst, ◌∙◌, arith}
use Rattle.emu_model.specs.Lanes.{read_p}
use Rattle.active_lanes.proofs.LaneBits.{among_bytes, behind_lanes, ends_before, ends_in, first_is_set, lane_place, lane_seen, neither_set, same_before_end, same_word, seen_from, seen_only}
use Rattle.active_lanes.specs.Seen.{seen_end}
use Rattle.active_lanes.proofs.fields.active_from.Goals as goal

pub returns-clause-on : goal.returns-clause-on
returns-clause-on c = λ i lo hi.
    let e : ℕ = c.args.e in
    let k : ℕ = c.args.k in
    let bytes : ℕ = c.min-bytes.result in
    let under : i < c.args.k + c.min-bytes.result / (c.args.e / 8) = omega (arith, hi, c.min.ensures, c.lanes_of_bytes.ensures) in
    let room : c.min-bytes.result ≤ 64 - c.args.k * (c.args.e / 8) % 64 = omega (arith, c.min-bytes.ensures) in
    let few : c.min-bytes.result ≤ c.ones.result = omega (arith, c.min-bytes.ensures) in
    let same : i * (c.args.e / 8) / 64 ≡ c.args.k * (c.args.e / 8) / 64 = same_word e k i bytes c.requires.size lo under room in
    let lane : i < c.args.vec.now.bits / c.args.e = omega (arith, hi, c.min.ensures, c.requires.within) in
    let within : i * (c.args.e / 8) < c.args.vec.now.bits / 8 = lane_place e c.args.vec.now.bits i c.requires.size lane in
    let among : (i - c.args.k) * (c.args.e / 8) < c.min-bytes.result = among_bytes e k i bytes c.requires.size lo under in
    let below : (i - c.args.k) * (c.args.e / 8) < c.ones.result = omega (arith, among, few) in
    let short : (i - c.args.k) * (c.args.e / 8) < 64 = omega (arith, below, c.ones.ensures.few) in
    seen_from c.p_words-words.result.now (read_p c.args.vec.now c.args.pg) (c.args.vec.now.bits / 8) e k i c.requires.size c.p_words-words.ensures.words within lo same
    ∙ ap (λ x. nat_eq x 1) (first_is_set (get_or c.p_words-words.result.now (k * (e / 8) / 64) 0 / 2 ^ (k * (e / 8) % 64)) c.bits_between.result ((i - k) * (e / 8)) (c.bits_between.ensures ((i - k) * (e / 8)) short ∙ lane_seen e (i - k) c.requires.size) (c.ones.ensures.ones ((i - k) * (e / 8)) below))

pub returns-clause-seen : goal.returns-clause-seen
returns-clause-seen c =
    let few : c.min.result ≤ c.min-bytes.result / (c.args.e / 8) = omega (arith, c.min.ensures, c.lanes_of_bytes.ensures) in
    let room : c.min-bytes.result ≤ 64 - c.args.k * (c.args.e / 8) % 64 = omega (arith, c.min-bytes.ensures) in
    ends_in c.args.e c.args.k c.min.result c.min-bytes.result c.requires.size few room

pub returns-clause-off : goal.returns-clause-off
returns-clause-off c = λ less before.
    let e : ℕ = c.args.e in
    let k : ℕ = c.args.k in
    let rest : ℕ = get_or c.p_words-words.result.now (k * (e / 8) / 64) 0 / 2 ^ (k * (e / 8) % 64) in
    let lanes : c.min.result ≡ c.min-bytes.result / (c.args.e / 8) = omega (arith, less, c.min.ensures, c.lanes_of_bytes.ensures) in
    let room : c.min-bytes.result ≤ 64 - c.args.k * (c.args.e / 8) % 64 = omega (arith, c.min-bytes.ensures) in
    let ends : c.args.k + c.min-bytes.result / (c.args.e / 8) < seen_end c.args.e c.args.k = subst (λ n. c.args.k + n < seen_end c.args.e c.args.k) lanes before in
    let short : c.min-bytes.result < 64 - c.args.k * (c.args.e / 8) % 64 = ends_before e k c.min-bytes.result c.requires.size ends room in
    let all : c.min-bytes.result ≡ c.ones.result = omega (arith, short, c.min-bytes.ensures) in
    let within : c.ones.result < 64 = omega (arith, short, all) in
    let clear = neither_set rest c.bits_between.result c.ones.result (c.ones.ensures.next within) in
    let whole : c.ones.result % (e / 8) ≡ 0 = seen_only (e / 8) c.ones.result (sym (c.bits_between.ensures c.ones.result within) ∙ clear.1) in
    let place : (k + c.min.result - k) * (e / 8) ≡ c.ones.result =
    ap (λ n. (k + n - k) * (e / 8)) (lanes ∙ ap (λ b. b / (e / 8)) all) ∙ behind_lanes e k c.ones.result c.requires.size whole in
    let lane : c.args.k + c.min.result < c.args.vec.now.bits / c.args.e = omega (arith, less, c.requires.within) in
    let from : c.args.k ≤ c.args.k + c.min.result = omega arith in
    seen_from c.p_words-words.result.now (read_p c.args.vec.now c.args.pg) (c.args.vec.now.bits / 8) e k (k + c.min.result) c.requires.size c.p_words-words.ensures.words
    (lane_place e c.args.vec.now.bits (k + c.min.result) c.requires.size lane) from (same_before_end e k (k + c.min.result) c.requires.size from before)
    ∙ ap (λ b. nat_eq (rest / 2 ^ b % 2) 1) place
    ∙ ap (λ x. nat_eq x 1) clear.0
