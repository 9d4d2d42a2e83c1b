-- The words of a register that is gathered.
use Rattle.std.proofs.Common.{◌≡◌, ◌≤◌, ◌<◌, ◌⊎◌, ℕ, ◌+◌, ◌*◌, ◌/◌, ◌%◌, ◌^◌, List, [], ◌∷◌, get_or, set, length, replicate, take, drop, inl, inr, refl, sym, ap, subst, ◌∙◌, arith, lit<}
use Rattle.std.proofs.Math.Nat.{mod-eq_of_lt}
use Rattle.std.proofs.lemmas.List.{length-set, get_or-take, get_or-drop, length-take, length-drop}
use Rattle.std.proofs.lemmas.List.FromFn.{fill_by_all}
use Rattle.emu_model.specs.Lists.{each}
use Rattle.emu_model.specs.ListLaws.{length-each, get_or-each}
use Rattle.emu_model.specs.Access.{Memory}
use Rattle.emu_model.specs.SoundState.{IsVectorLength}
use Rattle.emu_model.specs.State.{Vectors}
use Rattle.emu_model.specs.Lanes.{read_z, with_z, with_lanes}
use Rattle.emu_model.specs.LaneSizes.{IsLaneSize}
use Rattle.vec_regs.specs.Words.{byte_of, bytes_of, byte_with_pair}
use Rattle.vec_regs.proofs.PackedLanes.{filled, still, with_packed, lanes_given, words_count}
use Rattle.vec_regs.specs.Packed.{packed, word_of}
use Rattle.vec_regs.proofs.Views.{zero_word}
use Rattle.active_lanes.proofs.InParts.{no_parts, one_part_more, all_parts, pair_bytes, word_bytes}
use Rattle.sve_effects.specs.VectorElements.{Layout}
use Rattle.sve_effects.specs.VectorLoadStore.{loaded_lane, with_loaded}
use Rattle.element_loops.specs.declared.plan.Plan.{Plan}
use Rattle.element_loops.specs.declared.plan.Target.{Target}
use Rattle.element_loops.specs.Layouts.{IsPlan, IsTarget, layout_of}
use Rattle.element_loops.specs.Planned.{loaded_by}
use Rattle.element_loops.proofs.Turns.{none_taken, taken_more, taken_is_loaded}
use Rattle.sve_gather.specs.Gathers.{AreWords, IsGather, lane_value, word_of_lanes}

-- ---- a word of its lanes

pub one_lane : (f : ℕ → ℕ) (i x : ℕ) → x < 2 ^ 64 → x ≡ f i → x ≡ word_of_lanes 64 f i
one_lane f i x small is =
    let place : i * 1 + 0 ≡ i = omega arith in
    let low : f i < 2 ^ 64 = subst (λ y. y < 2 ^ 64) is small in
    is ∙ sym (mod-eq_of_lt low) ∙ ap (λ k. f k % 2 ^ 64) (sym place) ∙ omega arith

pub two_lanes : (f : ℕ → ℕ) (i x y : ℕ) → x ≡ f (2 * i) → y ≡ f (2 * i + 1) → x % 4294967296 + y % 4294967296 * 4294967296 ≡ word_of_lanes 32 f i
two_lanes f i x y first second =
    let low : 2 * i ≡ i * 2 + 0 = omega arith in
    let high : 2 * i + 1 ≡ i * 2 + 1 = omega arith in
    ap (λ x. x % 4294967296 + y % 4294967296 * 4294967296) (first ∙ ap f low)
    ∙ ap (λ y. f (i * 2 + 0) % 4294967296 + y % 4294967296 * 4294967296) (second ∙ ap f high)
    ∙ omega arith

-- ---- the loop over words

pub no_words : (p : Plan) (v : Vectors) (m : Memory) → AreWords p v m 0 (replicate 32 0)
no_words p v m = record { long = refl; given = λ i h. absurd (omega arith); above = λ k h. zero_word 32 k }

pub more_words : (p : Plan) (v : Vectors) (m : Memory) (i x : ℕ) (words : List ℕ) → i < length words → x ≡ word_of_lanes p.bits (lane_value p v m) i → AreWords p v m i words → AreWords p v m (i + 1) (set words i x)
more_words p v m i x words within is h = record {
  long = length-set words i x ∙ h.long;
  given = filled (word_of_lanes p.bits (lane_value p v m)) words i x within is h.given;
  above = still words i x h.above;
}

-- ---- the register

lane_size : (e : ℕ) → (e ≡ 32) ⊎ (e ≡ 64) → IsLaneSize e
lane_size e (inl s) = inr (inr (inl s))
lane_size e (inr s) = inr (inr (inr s))

-- c values from place a on
part : (n a c : ℕ) (f : ℕ → ℕ) → a + c ≤ n → take c (drop a (each n f)) ≡ each c (λ j. f (a + j))
part n a c f h =
    let xs : List ℕ = take c (drop a (each n f)) in
    let count : length xs ≡ c = omega (arith, length-take c (drop a (each n f)), length-drop a (each n f), length-each n f) in
    fill_by_all (λ j. f (a + j)) xs c 0 count (λ k b. get_or-take c (drop a (each n f)) k 0 b ∙ get_or-drop a (each n f) k 0 ∙ get_or-each n f (a + k) 0 (omega arith))

-- the lanes of word i are within the register
within : (e bits i : ℕ) → (e ≡ 32) ⊎ (e ≡ 64) → i < bits / 64 → i * (64 / e) + 64 / e ≤ bits / e
within e bits i (inl s) h = rw s (omega arith)
within e bits i (inr s) h = rw s (omega arith)

register_is : (e zd : ℕ) (v : Vectors) (f : ℕ → ℕ) (words : List ℕ) → (e ≡ 32) ⊎ (e ≡ 64) → IsVectorLength v.bits → ((i : ℕ) → i < v.bits / 64 → get_or words i 0 ≡ word_of_lanes e f i)
    → with_z v zd (bytes_of (v.bits / 8) words) ≡ with_lanes e f zd v
register_is e zd v f words size l h =
    let lanes : List ℕ = each (v.bits / e) f in
    let count : length lanes ≡ v.bits / e = length-each (v.bits / e) f in
    let n : length lanes / (64 / e) ≡ v.bits / 64 = ap (λ x. x / (64 / e)) count ∙ words_count e v.bits (lane_size e size) ∙ omega arith in
    let word : (i : ℕ) → i < length lanes / (64 / e) → get_or words i 0 ≡ word_of e lanes i =
    λ i b. let under : i < v.bits / 64 = subst (λ x. i < x) n b in
    h i under ∙ ap (packed e) (sym (part (v.bits / e) (i * (64 / e)) (64 / e) f (within e v.bits i size under))) in
    with_packed e zd v lanes words (lane_size e size) l count word ∙ lanes_given e zd v lanes f (lane_size e size) l refl

pub words_loaded : (p : Plan) (v : Vectors) (m : Memory) (words : List ℕ) (zd : ℕ) (next : Vectors) → IsGather p → IsVectorLength v.bits → AreWords p v m (v.bits / 64) words
    → zd ≡ (p.register + 0) % 32 → next ≡ with_z v zd (bytes_of (v.bits / 8) words) → next ≡ loaded_by p.target p.is_signed (layout_of p v) m v
words_loaded p v m words zd next gather long h at is =
    let l : Layout = layout_of p v in
    let f : ℕ → ℕ → ℕ = loaded_lane p.is_signed l m in
    let lanes_are : next ≡ with_lanes p.bits (f 0) zd v = is ∙ register_is p.bits zd v (f 0) words gather.size long h.given in
    taken_more p.bits f p.register 0 zd v v next (none_taken p.bits f p.register v) at lanes_are
    ∙ taken_is_loaded p.is_signed l m 1 v
    ∙ ap (λ n. with_loaded p.is_signed l m n v) (sym gather.one)
    ∙ ap (λ (t : Target). loaded_by t p.is_signed l m v) (sym gather.target)

-- the same of a register of two words
pub pair_loaded : (p : Plan) (v : Vectors) (m : Memory) (low high zd : ℕ) (z : List ℕ) (next : Vectors) → IsGather p → IsVectorLength v.bits → v.bits ≡ 128 → read_z v zd ≡ bytes_of (v.bits / 8) z
    → low ≡ word_of_lanes p.bits (lane_value p v m) 0 → high ≡ word_of_lanes p.bits (lane_value p v m) 1 → zd ≡ (p.register + 0) % 32
    → next ≡ with_z v zd (each (v.bits / 8) (byte_with_pair (read_z v zd) 0 (low ∷ (high ∷ [])))) → next ≡ loaded_by p.target p.is_signed (layout_of p v) m v
pair_loaded p v m low high zd z next gather long short is first second at written =
    let words : List ℕ = set (set (replicate 32 0) 0 low) 1 high in
    let g : ℕ → ℕ = byte_of 8 words in
    let two : 2 ≡ v.bits / 64 = omega (arith, short) in
    let one : AreWords p v m 1 (set (replicate 32 0) 0 low) = more_words p v m 0 low (replicate 32 0) (lit< tt) first (no_words p v m) in
    let given : AreWords p v m 2 words = more_words p v m 1 high (set (replicate 32 0) 0 low) (lit< tt) second one in
    let all : AreWords p v m (v.bits / 64) words = subst (λ n. AreWords p v m n words) two given in
    let is_pair : next ≡ with_z v zd (bytes_of (v.bits / 8) words)
    = written
    ∙ ap (λ (w : Vectors). with_z w zd (each (w.bits / 8) (byte_with_pair (read_z w zd) 0 (low ∷ (high ∷ []))))) (no_parts v zd z is g)
    ∙ one_part_more v zd z is long g 0 (low ∷ (high ∷ [])) (pair_bytes low high 0 g (λ t b. word_bytes words 0 t b) (λ t b. word_bytes words 1 t b))
    ∙ all_parts v zd g 1 long (omega (arith, short)) in
    words_loaded p v m words zd next gather long all at is_pair

-- ---- how many lanes

pub lanes_are : (p : Plan) (v : Vectors) → IsPlan p v → IsGather p → p.lanes ≡ v.bits / p.bits
lanes_are p v plan gather = subst (λ (t : Target). IsTarget t p v) gather.target plan.target

pub all_lanes : (e bits : ℕ) → (e ≡ 32) ⊎ (e ≡ 64) → IsVectorLength bits → bits / 64 * (64 / e) ≡ bits / e
all_lanes e bits (inl s) l = rw s (omega (arith, l.multiple))
all_lanes e bits (inr s) l = rw s (omega (arith, l.multiple))

pub wide_place : (e i : ℕ) → e ≡ 64 → i * (64 / e) ≡ i
wide_place e i s = let one : i * 1 ≡ i = omega arith in ap (λ e. i * (64 / e)) s ∙ one

pub narrow : (e : ℕ) → (e ≡ 32) ⊎ (e ≡ 64) → (e ≡ 64 → ⊥) → e ≡ 32
narrow e (inl s) h = s
narrow e (inr s) h = absurd (h s)

pub narrow_place : (e i : ℕ) → e ≡ 32 → i * (64 / e) ≡ 2 * i
narrow_place e i s = let two : i * 2 ≡ 2 * i = omega arith in ap (λ e. i * (64 / e)) s ∙ two

pub next_place : (e i : ℕ) → e ≡ 32 → (i + 1) * (64 / e) ≡ 2 * i + 1 + 1
next_place e i s = let two : (i + 1) * 2 ≡ 2 * i + 1 + 1 = omega arith in ap (λ e. (i + 1) * (64 / e)) s ∙ two

pub wide_within : (p : Plan) (v : Vectors) (i : ℕ) → p.lanes ≡ v.bits / p.bits → p.bits ≡ 64 → i < v.bits / 64 → i < p.lanes
wide_within p v i lanes s h = subst (λ n. i < n) (sym (lanes ∙ ap (λ e. v.bits / e) s)) h

pub narrow_within : (p : Plan) (v : Vectors) (i : ℕ) → p.lanes ≡ v.bits / p.bits → p.bits ≡ 32 → i < v.bits / 64 → 2 * i + 1 < p.lanes
narrow_within p v i lanes s h = let n : p.lanes ≡ v.bits / 32 = lanes ∙ ap (λ e. v.bits / e) s in omega arith
