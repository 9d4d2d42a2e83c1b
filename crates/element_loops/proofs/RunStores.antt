-- A run that is written as bytes.
use Rattle.std.proofs.Common.{◌≡◌, ◌<◌, ◌≤◌, ◌+◌, ◌-◌, ◌*◌, ◌/◌, ◌%◌, ◌^◌, ℕ, zero, suc, true, List, [], ◌∷◌, ◌++◌, length, take, drop, get_or, None, inl, inr, refl, sym, ap, subst, ◌∙◌, add-one, append_assoc, arith}
use Rattle.std.specs.Int.{bytes_low_first, byte_at}
use Rattle.std.proofs.Math.Nat.{pow-suc, div-div-eq-div-mul}
use Rattle.std.proofs.lemmas.List.{append-nil, get_or-take, get_or-drop, get_or_past, length-take, length-drop, take_all, take-append-drop}
use Rattle.std.proofs.lemmas.Bool.{cases_lt}
use Rattle.std.proofs.lemmas.List.FromFn.{fill_by_all}
use Rattle.byteorder.specs.Numbers.{length-bytes_low_first}
use Rattle.emu_model.specs.declared.access.Access.{Access}
use Rattle.emu_model.specs.declared.access.Kind.{Kind}
use Rattle.emu_model.specs.declared.access.Kind.TheVariants.{Write}
use Rattle.emu_model.specs.Access.{Memory, address, refused, stored, with_byte}
use Rattle.emu_model.specs.AccessLaws.{refused_stored, with_bytes_split}
use Rattle.emu_model.specs.Elements.{Element}
use Rattle.emu_model.specs.SoundState.{IsVectorLength}
use Rattle.emu_model.specs.Lists.{each}
use Rattle.emu_model.specs.ListLaws.{each_same, each-more}
use Rattle.emu_model.specs.Pages.{with_bytes}
use Rattle.emu_model.specs.State.{Vectors}
use Rattle.guest_mem.proofs.Numbers.{stored_is}
use Rattle.emu_model.specs.Lanes.{number, lane, read_z}
use Rattle.emu_model.specs.LaneSizes.{IsLaneSize}
use Rattle.sve_effects.specs.VectorElements.{Layout, elements_below}
use Rattle.sve_effects.specs.VectorLoadStore.{lane_stored}
use Rattle.guest_mem.specs.ReachLaws.{AreStored, refused_with_stored}
use Rattle.element_loops.specs.declared.plan.Plan.{Plan}
use Rattle.element_loops.specs.Layouts.{layout_of}
use Rattle.element_loops.specs.Runs.{IsRun}
use Rattle.element_loops.specs.SoFar.{element_of_lane, elements_within}
use Rattle.element_loops.proofs.RunNotes.{run_address}
use Rattle.element_loops.proofs.RunLoads.{part_allowed}
use Rattle.element_loops.proofs.Stores.{lane_begins, lane_goes_on, lane_ends}

-- ---- bytes of numbers

byte_is : (i v : ℕ) → byte_at i v ≡ v / 256 ^ i % 256
byte_is zero v = omega arith
byte_is (suc i) v = refl

number_bytes : (xs : List ℕ) → ((k : ℕ) → get_or xs k 0 < 256) → (i x : ℕ) → x / 256 ^ i ≡ number xs → bytes_low_first i (length xs) x ≡ xs
number_bytes [] small i x h = refl
number_bytes (b ∷ bs) small i x h =
    let few : b < 256 = small 0 in
    let first : byte_at i x ≡ b = byte_is i x ∙ ap (λ y. y % 256) h ∙ omega arith in
    let rest : x / 256 ^ suc i ≡ number bs
    = ap (λ d. x / d) (pow-suc 256 i) ∙ sym (div-div-eq-div-mul x (256 ^ i) 256) ∙ ap (λ y. y / 256) h ∙ omega arith in
    ap (λ y. y ∷ bytes_low_first (suc i) (length bs) x) first ∙ ap (λ ys. b ∷ ys) (number_bytes bs (λ k. small (suc k)) (suc i) x rest)

pub slice_each : (w a : ℕ) (xs : List ℕ) → a + w ≤ length xs → take w (drop a xs) ≡ each w (λ t. get_or xs (a + t) 0)
slice_each w a xs h =
    let long : length (take w (drop a xs)) ≡ w = omega (arith, length-take w (drop a xs), length-drop a xs) in
    fill_by_all (λ t. get_or xs (a + t) 0) (take w (drop a xs)) w 0 long (λ t b. get_or-take w (drop a xs) t 0 b ∙ get_or-drop a xs t 0)

nothing_left : (b : ℕ) → ◌≡◌ {A = List ℕ} [] (take b [])
nothing_left zero = refl
nothing_left (suc b) = refl

pub take_both : (a b : ℕ) (xs : List ℕ) → take (a + b) xs ≡ take a xs ++ take b (drop a xs)
take_both zero b xs = let e : 0 + b ≡ b = omega arith in ap (λ n. take n xs) e
take_both (suc a) b [] = let e : suc a + b ≡ suc (a + b) = omega arith in ap (λ n. take n []) e ∙ nothing_left b
take_both (suc a) b (x ∷ xs) = let e : suc a + b ≡ suc (a + b) = omega arith in ap (λ n. take n (x ∷ xs)) e ∙ ap (λ ys. x ∷ ys) (take_both a b xs)

pub bytes_same : (bs : List ℕ) (m : Memory) (a b : ℕ) → address a ≡ address b → with_bytes m a bs ≡ with_bytes m b bs
bytes_same [] m a b h = refl
bytes_same (x ∷ bs) m a b h =
    let next : address (a + 1) ≡ address (b + 1) = omega arith in
    ap (λ y. with_bytes (with_byte m y x) (a + 1) bs) h ∙ bytes_same bs (with_byte m (address b) x) (a + 1) (b + 1) next

stored_bytes : (m : Memory) (a w v : ℕ) → stored m a w v ≡ with_bytes m a (bytes_low_first 0 w v)
stored_bytes m a w v =
    let most : w ≤ w = omega arith in
    let few : length (bytes_low_first 0 w v) ≤ w = omega (arith, length-bytes_low_first 0 w v) in
    sym (stored_is m a w w v most) ∙ ap (λ bs. with_bytes m a bs) (take_all w (bytes_low_first 0 w v) few)

-- bytes that are written change no right
pub written_refused : (bs : List ℕ) (m : Memory) (a q n : ℕ) (kind : Kind) → ((k : ℕ) → get_or bs k 0 < 256) → refused (with_bytes m a bs) q n kind ≡ refused m q n kind
written_refused bs m a q n kind small =
    let unit : number bs / 256 ^ 0 ≡ number bs = omega arith in
    ap (λ xs. refused (with_bytes m a xs) q n kind) (sym (number_bytes bs small 0 (number bs) unit))
    ∙ ap (λ (x : Memory). refused x q n kind) (sym (stored_bytes m a (length bs) (number bs)))
    ∙ refused_stored (length bs) m a (number bs) q n kind

-- bytes that are written in two parts
pub written_parts : (bs : List ℕ) (m : Memory) (a f b : ℕ) → f ≤ length bs → address (a + f) ≡ address b → with_bytes (with_bytes m a (take f bs)) b (drop f bs) ≡ with_bytes m a bs
written_parts bs m a f b h at =
    let long : length (take f bs) ≡ f = omega (arith, length-take f bs) in
    let place : address b ≡ address (a + length (take f bs)) = sym at ∙ ap (λ n. address (a + n)) (sym long) in
    bytes_same (drop f bs) (with_bytes m a (take f bs)) b (a + length (take f bs)) place
    ∙ sym (with_bytes_split (take f bs) (drop f bs) m a)
    ∙ ap (λ xs. with_bytes m a xs) (take-append-drop f bs)

part_small : (w a : ℕ) (z : List ℕ) (t : ℕ) → ((j : ℕ) → get_or z j 0 < 256) → get_or (take w (drop a z)) t 0 < 256
part_small w a z t small = elim (cases_lt t w) [
  | inl b ↦ subst (λ x. x < 256) (sym (get_or-take w (drop a z) t 0 b ∙ get_or-drop a z t 0)) (small (a + t))
  | inr b ↦
      (let few : length (take w (drop a z)) ≤ t = omega (arith, length-take w (drop a z)) in
      subst (λ x. x < 256) (sym (get_or_past (take w (drop a z)) t 0 few)) (omega arith))
]

pub part_small_first : (f : ℕ) (bs : List ℕ) (t : ℕ) → ((j : ℕ) → get_or bs j 0 < 256) → get_or (take f bs) t 0 < 256
part_small_first f bs t small = elim (cases_lt t f) [
  | inl b ↦ subst (λ x. x < 256) (sym (get_or-take f bs t 0 b)) (small t)
  | inr b ↦
      (let few : length (take f bs) ≤ t = omega (arith, length-take f bs) in
      subst (λ x. x < 256) (sym (get_or_past (take f bs) t 0 few)) (omega arith))
]

twice : (a : ℕ) → address a ≡ address (address a)
twice a = omega arith

pub nothing_taken : (bs : List ℕ) → take 0 bs ≡ []
nothing_taken [] = refl
nothing_taken (b ∷ bs) = refl

pub again : (a : ℕ) → address (address a) ≡ address a
again a = omega arith

later : (base x y s a : ℕ) → a ≡ address (base + x) → s ≡ x + y → address (base + s) ≡ address (a + y)
later base x y s a at sum = omega arith

assoc : (a b c : ℕ) → a + b + c ≡ a + (b + c)
assoc a b c = omega arith

-- ---- lanes from k on, whose bytes are bs

module _ (base pg whole : ℕ) (p : Plan) (v : Vectors) (run : IsRun base pg whole p v) (w : ℕ) (width : p.bits / 8 ≡ w) (bytes_are : p.bytes ≡ w) where
  one_lane_stored : (now : Memory) (k d a : ℕ) (z bs : List ℕ) → z ≡ read_z v ((p.register + 0) % 32) → k * w + w ≤ length z → ((j : ℕ) → get_or z j 0 < 256) → d * w + w ≤ length bs
      → ((t : ℕ) → t < w → get_or z (k * w + t) 0 ≡ get_or bs (d * w + t) 0) → address (a + d * w) ≡ address (base + k * w)
      → with_bytes now a (take ((d + 1) * w) bs) ≡ stored (with_bytes now a (take (d * w) bs)) ((layout_of p v).address k 0) p.bytes (lane_stored (layout_of p v) v (element_of_lane (layout_of p v) k 0))
  one_lane_stored now k d a z bs is room small some same at =
      let l : Layout = layout_of p v in
      let before : Memory = with_bytes now a (take (d * w) bs) in
      let n : (d + 1) * w ≡ d * w + w = omega arith in
      let long : length (take (d * w) bs) ≡ d * w = omega (arith, length-take (d * w) bs) in
      let here : List ℕ = take w (drop (k * w) z) in
      let long_here : length (take w (drop (k * w) z)) ≡ w = omega (arith, length-take w (drop (k * w) z), length-drop (k * w) z) in
      let pieces : take w (drop (d * w) bs) ≡ take w (drop (k * w) z)
      = slice_each w (d * w) bs some ∙ each_same w (λ t. get_or bs (d * w + t) 0) (λ t. get_or z (k * w + t) 0) 0 (λ t b. sym (same t b)) ∙ sym (slice_each w (k * w) z room) in
      let unit : number here / 256 ^ 0 ≡ number here = omega arith in
      let low : bytes_low_first 0 w (number here) ≡ here
      = ap (λ n. bytes_low_first 0 n (number here)) (sym long_here) ∙ number_bytes here (λ t. part_small w (k * w) z t small) 0 (number here) unit in
      let value : lane_stored l v (element_of_lane l k 0) ≡ number here
      = ap (λ (bytes : List ℕ). lane p.bits bytes k) (sym is) ∙ ap (λ w. number (take w (drop (k * w) z))) width in
      let place : address (a + length (take (d * w) bs)) ≡ address (l.address k 0)
      = ap (λ n. address (a + n)) long ∙ at ∙ twice (base + k * w) ∙ ap (λ n. address (address (base + k * n))) (sym bytes_are) ∙ ap address (sym (run_address base pg whole p v run.line run.one k)) in
      ap (λ n. with_bytes now a (take n bs)) n
      ∙ ap (λ xs. with_bytes now a xs) (take_both (d * w) w bs)
      ∙ with_bytes_split (take (d * w) bs) (take w (drop (d * w) bs)) now a
      ∙ bytes_same (take w (drop (d * w) bs)) before (a + length (take (d * w) bs)) (l.address k 0) place
      ∙ ap (λ xs. with_bytes before (l.address k 0) xs) (pieces ∙ sym low)
      ∙ sym (stored_bytes before (l.address k 0) w (number here))
      ∙ ap (λ n. stored before (l.address k 0) n (number here)) (sym bytes_are)
      ∙ ap (λ x. stored before (l.address k 0) p.bytes x) (sym value)

  -- so many lanes are stored at once
  module _ (f : Element → ℕ) (same_f : f ≡ lane_stored (layout_of p v) v) (m now : Memory) (log : List Access) (first a : ℕ) (z bs : List ℕ)
      (z_is : z ≡ read_z v ((p.register + 0) % 32)) (small : (j : ℕ) → get_or z j 0 < 256)
      (given : AreStored f m (elements_below (layout_of p v) first) now log) where
    lanes_stored : (d : ℕ) → ((k : ℕ) → first ≤ k → k < first + d → (layout_of p v).is_on k ≡ true)
        → ((j : ℕ) → j < d * w → get_or z (first * w + j) 0 ≡ get_or bs j 0) → d * w ≤ length bs → first * w + d * w ≤ length z
        → ((i : ℕ) → i + w ≤ d * w → refused now (address (a + i)) w Write ≡ None) → a ≡ address (base + first * w)
        → AreStored f m (elements_below (layout_of p v) (first + d)) (with_bytes now a (take (d * w) bs)) (log ++ each d (λ i. record { address = address (a + i * p.bytes); bytes = p.bytes; write = true }))
    lanes_stored zero on same long room free at =
        let e : first ≡ first + 0 = omega arith in
        let zero_size : 0 * w ≡ 0 = omega arith in
        let none : take (0 * w) bs ≡ [] = ap (λ n. take n bs) zero_size ∙ nothing_taken bs in
        subst (λ k. AreStored f m (elements_below (layout_of p v) k) (with_bytes now a (take (0 * w) bs)) (log ++ [])) e
        (subst (λ (xs : List ℕ). AreStored f m (elements_below (layout_of p v) first) (with_bytes now a xs) (log ++ [])) (sym none)
        (subst (λ (l : List Access). AreStored f m (elements_below (layout_of p v) first) now l) (sym (append-nil log)) given))
    lanes_stored (suc d) on same long room free at =
        let l : Layout = layout_of p v in
        let k : ℕ = first + d in
        let g : ℕ → Access = λ i. record { address = address (a + i * p.bytes); bytes = p.bytes; write = true } in
        let size : suc d * w ≡ d * w + w = omega arith in
        let more : (d + 1) * w ≡ suc d * w = omega arith in
        let sum : (first + d) * w ≡ first * w + d * w = omega arith in
        let on_here : l.is_on k ≡ true = on k (omega arith) (omega arith) in
        let so_far : AreStored f m (elements_below l k) (with_bytes now a (take (d * w) bs)) (log ++ each d g)
        = lanes_stored d (λ k lo hi. on k lo (omega arith)) (λ j b. same j (omega arith)) (omega arith) (omega arith) (λ i b. free i (omega arith)) at in
        let address_here : l.address k 0 ≡ address (a + d * w)
        = run_address base pg whole p v run.line run.one k ∙ ap (λ n. address (base + k * n)) bytes_are ∙ later base (first * w) (d * w) (k * w) a at sum in
        let allowed_now : refused now (l.address k 0) p.bytes Write ≡ None
        = ap (λ x. refused now x p.bytes Write) address_here ∙ ap (λ n. refused now (address (a + d * w)) n Write) bytes_are ∙ free (d * w) (omega arith) in
        let allowed_first : refused m (l.address k 0) p.bytes Write ≡ None
        = sym (refused_with_stored f (elements_below l first) m (l.address k 0) p.bytes Write) ∙ ap (λ (x : Memory). refused x (l.address k 0) p.bytes Write) (sym given.memory) ∙ allowed_now in
        let allowed : refused (with_bytes now a (take (d * w) bs)) (l.address k 0) p.bytes Write ≡ None
        = ap (λ (x : Memory). refused x (l.address k 0) p.bytes Write) so_far.memory ∙ refused_with_stored f (elements_below l k) m (l.address k 0) p.bytes Write ∙ allowed_first in
        let one : with_bytes now a (take (suc d * w) bs) ≡ stored (with_bytes now a (take (d * w) bs)) (l.address k 0) p.bytes (f (element_of_lane l k 0))
        = ap (λ n. with_bytes now a (take n bs)) (sym more)
        ∙ one_lane_stored now k d a z bs z_is (omega arith) small (omega arith) (λ t b. ap (λ n. get_or z (n + t) 0) sum ∙ ap (λ n. get_or z n 0) (assoc (first * w) (d * w) t) ∙ same (d * w + t) (omega arith))
        (sym (again (a + d * w)) ∙ ap address (sym (later base (first * w) (d * w) (k * w) a at sum)) ∙ again (base + k * w))
        ∙ ap (λ (f : Element → ℕ). stored (with_bytes now a (take (d * w) bs)) (l.address k 0) p.bytes (f (element_of_lane l k 0))) (sym same_f) in
        let noted : log ++ each (d + 1) g ≡ (log ++ each d g) ++ record { address = l.address k 0; bytes = p.bytes; write = true } ∷ []
        = ap (λ (x : List Access). log ++ x) (each-more d g) ∙ sym (append_assoc log (each d g) (g d ∷ []))
        ∙ ap (λ x. (log ++ each d g) ++ record { address = x; bytes = p.bytes; write = true } ∷ []) (ap (λ n. address (a + d * n)) bytes_are ∙ sym address_here) in
        let next : AreStored f m (elements_within l k 1) (with_bytes now a (take (suc d * w) bs)) (log ++ each (d + 1) g)
        = lane_goes_on f l m k 0 (with_bytes now a (take (d * w) bs)) (with_bytes now a (take (suc d * w) bs)) (log ++ each d g) (log ++ each (d + 1) g)
        (lane_begins f l m k (with_bytes now a (take (d * w) bs)) (log ++ each d g) so_far) allowed one noted in
        let ended : AreStored f m (elements_below l (k + 1)) (with_bytes now a (take (suc d * w) bs)) (log ++ each (d + 1) g)
        = lane_ends f l m k 1 (with_bytes now a (take (suc d * w) bs)) (log ++ each (d + 1) g) on_here (omega (arith, run.one)) (omega (arith, run.one)) next in
        let e : first + d + 1 ≡ first + suc d = omega arith in
        subst (λ n. AreStored f m (elements_below l (first + suc d)) (with_bytes now a (take (suc d * w) bs)) (log ++ each n g)) (add-one d)
        (subst (λ n. AreStored f m (elements_below l n) (with_bytes now a (take (suc d * w) bs)) (log ++ each (d + 1) g)) e ended)

whole_small : (n : ℕ) (z buf : List ℕ) → length z ≡ n → ((j : ℕ) → j < n → get_or buf j 0 ≡ get_or z j 0) → ((j : ℕ) → get_or buf j 0 < 256) → (j : ℕ) → get_or z j 0 < 256
whole_small n z buf long same small j = elim (cases_lt j n) [
  | inl b ↦ subst (λ x. x < 256) (same j b) (small j)
  | inr b ↦ (let past : length z ≤ j = omega arith in subst (λ x. x < 256) (sym (get_or_past z j 0 past)) (omega arith))
]

lanes_fit : (e bits x : ℕ) → IsLaneSize e → IsVectorLength bits → x ≤ bits / e → x * (e / 8) ≤ bits / 8
lanes_fit e bits x (inl s) l = rw s (λ h. omega (arith, l.multiple))
lanes_fit e bits x (inr (inl s)) l = rw s (λ h. omega (arith, l.multiple))
lanes_fit e bits x (inr (inr (inl s))) l = rw s (λ h. omega (arith, l.multiple))
lanes_fit e bits x (inr (inr (inr s))) l = rw s (λ h. omega (arith, l.multiple))

-- d lanes from lane k on, which are all on
module _ (base pg whole : ℕ) (p : Plan) (v : Vectors) (run : IsRun base pg whole p v) (size : IsLaneSize p.bits) (vector : IsVectorLength v.bits) (lanes : p.lanes ≡ v.bits / p.bits) (f : Element → ℕ) (same_f : f ≡ lane_stored (layout_of p v) v) where
  pub lanes_put : (m now next : Memory) (log after : List Access) (k d at from to : ℕ) (buf bs : List ℕ)
      → AreStored f m (elements_below (layout_of p v) k) now log
      → length (read_z v ((p.register + 0) % 32)) ≡ v.bits / 8 → ((j : ℕ) → j < v.bits / 8 → get_or buf j 0 ≡ get_or (read_z v ((p.register + 0) % 32)) j 0) → ((j : ℕ) → get_or buf j 0 < 256)
      → length buf ≡ 256 → k + d ≤ p.lanes → from ≡ k * p.bytes → to ≡ from + d * p.bytes → bs ≡ take (to - from) (drop from buf) → at ≡ address (base + k * p.bytes)
      → ((i : ℕ) → k ≤ i → i < k + d → (layout_of p v).is_on i ≡ true)
      → refused now at (length bs) Write ≡ None → next ≡ with_bytes now at bs
      → after ≡ log ++ each d (λ i. record { address = address (at + i * p.bytes); bytes = p.bytes; write = true })
      → AreStored f m (elements_below (layout_of p v) (k + d)) next after
  lanes_put m now next log after k d at from to buf bs given long same small room within start end bytes_are place on free written noted =
      let w : ℕ = p.bits / 8 in
      let z : List ℕ = read_z v ((p.register + 0) % 32) in
      let width : p.bytes ≡ p.bits / 8 = omega (arith, run.same) in
      let few : k + d ≤ v.bits / p.bits = subst (λ n. k + d ≤ n) lanes within in
      let inside : (k + d) * (p.bits / 8) ≤ v.bits / 8 = lanes_fit p.bits v.bits (k + d) size vector few in
      let most : v.bits / 8 ≤ 256 = omega (arith, vector.most) in
      let sum : (k + d) * w ≡ k * w + d * w = omega arith in
      let from_is : from ≡ k * w = start ∙ ap (λ n. k * n) width in
      let to_is : to ≡ k * w + d * w = end ∙ ap (λ a. a + d * p.bytes) from_is ∙ ap (λ n. k * w + d * n) width in
      let count_is : k * w + d * w - k * w ≡ d * w = omega arith in
      let piece : bs ≡ take (d * w) (drop (k * w) buf) = bytes_are ∙ ap (λ a. take (to - a) (drop a buf)) from_is ∙ ap (λ n. take (n - k * w) (drop (k * w) buf)) to_is ∙ ap (λ n. take n (drop (k * w) buf)) count_is in
      let count : length bs ≡ d * w = ap length piece ∙ omega (arith, length-take (d * w) (drop (k * w) buf), length-drop (k * w) buf, inside, sum, most, room) in
      let at_first : at ≡ address (base + k * w) = place ∙ ap (λ n. address (base + k * n)) width in
      let stored_so : AreStored f m (elements_below (layout_of p v) (k + d)) (with_bytes now at (take (d * w) bs)) (log ++ each d (λ i. record { address = address (at + i * p.bytes); bytes = p.bytes; write = true }))
      = lanes_stored base pg whole p v run w refl width f same_f m now log k at z bs refl (whole_small (v.bits / 8) z buf long same small) given d on
      (λ j b.
      let below : k * w + j < v.bits / 8 = omega (arith, b, sum, inside) in
      sym (same (k * w + j) below) ∙ sym (ap (λ (xs : List ℕ). get_or xs j 0) piece ∙ get_or-take (d * w) (drop (k * w) buf) j 0 b ∙ get_or-drop (k * w) buf j 0))
      (omega (arith, count)) (omega (arith, sum, long, inside))
      (λ i b. part_allowed now at (length bs) i w Write free (omega (arith, b, count))) at_first in
      let all : take (d * w) bs ≡ bs = take_all (d * w) bs (omega (arith, count)) in
      subst (λ (l : List Access). AreStored f m (elements_below (layout_of p v) (k + d)) next l) (sym noted)
      (subst (λ (x : Memory). AreStored f m (elements_below (layout_of p v) (k + d)) x (log ++ each d (λ i. record { address = address (at + i * p.bytes); bytes = p.bytes; write = true }))) (sym written)
      (subst (λ (xs : List ℕ). AreStored f m (elements_below (layout_of p v) (k + d)) (with_bytes now at xs) (log ++ each d (λ i. record { address = address (at + i * p.bytes); bytes = p.bytes; write = true }))) all stored_so))
