-- The pages at hand keep their places where a page gets a frame, and their bytes are those of their entries.
use Rattle.std.proofs.Common.{◌≡◌, ◌<◌, ◌+◌, ◌==◌, ◌&&◌, ℕ, Bool, true, false, cond, not, List, length, set, get_or, replicate, Option, Some, None, IfSome, refl, sym, ap, ◌∙◌, subst, arith, inl, inr}
use Rattle.std.specs.Prelude.{is_none, unwrap_or}
use Rattle.std.proofs.Math.ListN.{length-set}
use Rattle.std.proofs.lemmas.Bool.{cases_eq, eqb-true, eqb-false, eq-eqb, false≢true}
use Rattle.std.proofs.lemmas.List.{length-map, get_or-replicate, get_or-set_same, get_or-set_other}
use Rattle.std.specs.FinMap.{contains_key}
use Rattle.emu_model.specs.Access.{gives}
use Rattle.emu_model.specs.declared.access.Kind.{Kind}
use Rattle.emu_model.specs.declared.access.Kind.TheVariants.{Fetch, Read, Write}
use Rattle.emu_model.specs.declared.access.Rights.{Rights}
use Rattle.frame_arena.proofs.Callers.{by_bool}
use Rattle.frame_arena.specs.Frames.{Live}
use Rattle.page_list.specs.declared.slots.Slot.{Slot}
use Rattle.page_list.specs.declared.slots.Hold.TheVariants.{Own}
use Rattle.page_list.specs.declared.code.CodePage.{CodePage}
use Rattle.page_list.specs.declared.hand.Hand.{Hand}
use Rattle.page_list.specs.declared.hand.Lines.{Lines}
use Rattle.page_list.specs.Entries.{AtHand, Entry, IsGiven, IsGivenAt, empty_lines, entry_at, is_held, line_of, lines, no_page, nothing_at_hand}
use Rattle.page_list.specs.Slots.{AreAtHand, AreHeld, AreLines, AreOwn, IsCode, IsHeldAt, bytes_in, code_after, entry_in, entries_in, frame_at, frame_of, hand_of, is_own, is_sole, line_frame, lines_after, no_slot, one, slot_at, with_line, without_line}
use Rattle.page_list.proofs.Held.{entry_is, frame_is_held, right_at, slot_there}

both : (p q : Bool) → p ≡ true → q ≡ true → (p && q) ≡ true
both p q e f = λ i. e i && f i

first_of : (p q : Bool) → (p && q) ≡ true → p ≡ true
first_of true q e = refl
first_of false q e = absurd (false≢true e)

second_of : (p q : Bool) → (p && q) ≡ true → q ≡ true
second_of true q e = e
second_of false q e = absurd (false≢true e)

-- the frame in a line that is set, and that in another line
frame_of_line : (frame : Option ℕ) (bare : Bool) (n : ℕ) → bare ≡ is_none frame → n ≡ unwrap_or frame 0 → cond bare None (Some n) ≡ frame
frame_of_line None bare n is e = ap (λ b. cond b None (Some n)) is
frame_of_line (Some f) bare n is e = ap (λ b. cond b None (Some n)) is ∙ ap (λ k. Some k) e

frame_set_same : (r s : Lines) (line : ℕ) (frame : Option ℕ) → line < lines → length r.frames ≡ lines → length r.bare ≡ lines
    → s.frames ≡ set r.frames line (unwrap_or frame 0) → s.bare ≡ set r.bare line (is_none frame) → line_frame s line ≡ frame
frame_set_same r s line frame within wide broad frames bare =
    frame_of_line frame (get_or s.bare line false) (get_or s.frames line 0)
    (ap (λ (bs : List Bool). get_or bs line false) bare ∙ get_or-set_same r.bare line (is_none frame) false (omega (arith, within, broad)))
    (ap (λ (ns : List ℕ). get_or ns line 0) frames ∙ get_or-set_same r.frames line (unwrap_or frame 0) 0 (omega (arith, within, wide)))

frame_set_other : (r s : Lines) (line k : ℕ) (frame : Option ℕ) → (k ≡ line → ⊥) → s.frames ≡ set r.frames line (unwrap_or frame 0) → s.bare ≡ set r.bare line (is_none frame) → line_frame s k ≡ line_frame r k
frame_set_other r s line k frame other frames bare =
    let same_bare : get_or s.bare k false ≡ get_or r.bare k false = ap (λ (bs : List Bool). get_or bs k false) bare ∙ get_or-set_other r.bare line k (is_none frame) false other in
    let same : get_or s.frames k 0 ≡ get_or r.frames k 0 = ap (λ (ns : List ℕ). get_or ns k 0) frames ∙ get_or-set_other r.frames line k (unwrap_or frame 0) 0 other in
    ap (λ b. cond b None (Some (get_or s.frames k 0))) same_bare ∙ ap (λ n. cond (get_or r.bare k false) None (Some n)) same

-- another slot in the place of one
module _ (ss : List Slot) (i : ℕ) (l : i < length ss) (s : Slot) where
  here : slot_at (set ss i s) i ≡ s
  here = get_or-set_same ss i s no_slot l

  -- the page at hand isn't that one
  held_beside : (kind : Kind) (page : ℕ) (frame : Option ℕ) (place : ℕ) → (place ≡ i → ⊥) → IsHeldAt ss kind page frame place → IsHeldAt (set ss i s) kind page frame place
  held_beside kind page frame place ne at =
      let same : slot_at (set ss i s) place ≡ slot_at ss place = get_or-set_other ss i place s no_slot ne in
      record {
        within = omega (arith, at.within, length-set ss i s);
        number = ap (λ (t : Slot). t.number) same ∙ at.number;
        allowed = ap (λ (t : Slot). gives t.rights kind) same ∙ at.allowed;
        frame_is = ap (λ (t : Slot). frame_of t) same ∙ at.frame_is;
        own = λ w. ap (λ (t : Slot). is_own t) same ∙ at.own w;
      }

  -- the same page with the same frame, which is its own now
  module _ (number : s.number ≡ (slot_at ss i).number) (rights : s.rights ≡ (slot_at ss i).rights) (frame_same : frame_of s ≡ frame_at ss i) (own_now : is_own s ≡ true) where
    held_kept : (kind : Kind) (page : ℕ) (frame : Option ℕ) (place : ℕ) → IsHeldAt ss kind page frame place → IsHeldAt (set ss i s) kind page frame place
    held_kept kind page frame place at =
        by_bool (place == i)
        (λ t.
        let e = eqb-true place i t in let now : slot_at (set ss i s) place ≡ s = ap (slot_at (set ss i s)) e ∙ here in
        let was : slot_at ss i ≡ slot_at ss place = ap (slot_at ss) (sym e) in
        record {
          within = omega (arith, at.within, length-set ss i s);
          number = ap (λ (t : Slot). t.number) now ∙ number ∙ ap (λ (t : Slot). t.number) was ∙ at.number;
          allowed = ap (λ (t : Slot). gives t.rights kind) now ∙ ap (λ (r : Rights). gives r kind) rights ∙ ap (λ (t : Slot). gives t.rights kind) was ∙ at.allowed;
          frame_is = ap (λ (t : Slot). frame_of t) now ∙ frame_same ∙ ap (λ (t : Slot). frame_of t) was ∙ at.frame_is;
          own = λ _. ap (λ (t : Slot). is_own t) now ∙ own_now;
        })
        (λ t. held_beside kind page frame place (eqb-false place i t) at)

    pub hand_kept : (h : Hand) → AreAtHand ss h → AreAtHand (set ss i s) h
    hand_kept h is = record {
      code = λ some. let at = is.code some in (at.0, held_kept Fetch h.code.number (Some h.code.frame) at.0 at.1);
      reads = λ k within own. held_kept Read (get_or h.reads.value.pages k 0) (line_frame h.reads.value k) (get_or h.reads.value.places k 0) (is.reads k within own);
      writes = λ k within own. held_kept Write (get_or h.writes.value.pages k 0) (line_frame h.writes.value k) (get_or h.writes.value.places k 0) (is.writes k within own);
    }

-- the same by other names of the page, the frame and the place
held_as : (ss : List Slot) (kind : Kind) (p q : ℕ) (f g : Option ℕ) (i j : ℕ) → p ≡ q → f ≡ g → i ≡ j → IsHeldAt ss kind p f i → IsHeldAt ss kind q g j
held_as ss kind p q f g i j e d same at =
    subst (λ n. IsHeldAt ss kind q g n) same (record { within = at.within; number = at.number ∙ e; allowed = at.allowed; frame_is = at.frame_is ∙ d; own = at.own })

code_number : (code : CodePage) (s : Slot) (k : ℕ) → (code_after code s k).number ≡ code.number
code_number code s k =
    let m : CodePage = record { number = code.number; frame = k } in
    by_bool (s.number == code.number && s.rights.x)
    (λ t. ap (λ b. (cond b m code).number) t)
    (λ t. ap (λ b. (cond b m code).number) t)

reads_pages : (l : Lines) (page place k : ℕ) → (lines_after l page place k).pages ≡ l.pages
reads_pages l page place k =
    let m : Lines = record { pages = l.pages; frames = set l.frames (line_of page) k; bare = set l.bare (line_of page) false; places = l.places } in
    by_bool (is_held l.pages page && (get_or l.places (line_of page) 0 == place))
    (λ t. ap (λ b. (cond b m l).pages) t)
    (λ t. ap (λ b. (cond b m l).pages) t)

-- the same pages are at hand
pub hand_same : (h n : Hand) (s : Slot) (place k : ℕ) → n.code ≡ code_after h.code s k → n.reads.value ≡ lines_after h.reads.value s.number place k → n.writes.value ≡ h.writes.value → hand_of n ≡ hand_of h
hand_same h n s place k code reads writes =
    let numbers = ap (λ (c : CodePage). c.number) code ∙ code_number h.code s k in
    let pages = ap (λ (l : Lines). l.pages) reads ∙ reads_pages h.reads.value s.number place k in
    λ j. record { code = numbers j; reads = pages j; writes = (writes j).pages; places = (writes j).places }

-- the page at place i gets the frame k
module _ (ss : List Slot) (i k : ℕ) (l : i < length ss) where
  abbrev x : Slot
  x = slot_at ss i

  abbrev pub with_frame : Slot
  with_frame = record { number = x.number; rights = x.rights; hold = Own k }

  now : slot_at (set ss i with_frame) i ≡ with_frame
  now = here ss i l with_frame

  held_now : (kind : Kind) (page : ℕ) → x.number ≡ page → gives x.rights kind ≡ true → IsHeldAt (set ss i with_frame) kind page (Some k) i
  held_now kind page e allowed = record {
    within = omega (arith, l, length-set ss i with_frame);
    number = ap (λ (t : Slot). t.number) now ∙ e;
    allowed = ap (λ (t : Slot). gives t.rights kind) now ∙ allowed;
    frame_is = ap (λ (t : Slot). frame_of t) now;
    own = λ _. ap (λ (t : Slot). is_own t) now;
  }

  code_moved : (code : CodePage) → IsCode ss code → IsCode (set ss i with_frame) (code_after code x k)
  code_moved code is =
      let m : CodePage = record { number = code.number; frame = k } in
      by_bool (x.number == code.number && x.rights.x)
      (λ t.
      subst (λ b. IsCode (set ss i with_frame) (cond b m code)) (sym t)
      (λ _. (i, held_now Fetch code.number (eqb-true x.number code.number (first_of (x.number == code.number) x.rights.x t)) (second_of (x.number == code.number) x.rights.x t))))
      (λ t.
      subst (λ b. IsCode (set ss i with_frame) (cond b m code)) (sym t)
      (λ some.
      let place = (is some).0 in let at = (is some).1 in
      let ne : place ≡ i → ⊥ =
      λ e. let same : slot_at ss i ≡ slot_at ss place = ap (slot_at ss) (sym e) in
      false≢true (sym t ∙ both (x.number == code.number) x.rights.x (eq-eqb x.number code.number (ap (λ (t : Slot). t.number) same ∙ at.number)) (ap (λ (t : Slot). t.rights.x) same ∙ at.allowed)) in
      (place, held_beside ss i l with_frame Fetch code.number (Some code.frame) place ne at)))

  module _ (r : Lines) (wide : length r.frames ≡ lines) (broad : length r.bare ≡ lines) (is : AreLines ss Read r) where
    abbrev turned : Lines
    turned = record { pages = r.pages; frames = set r.frames (line_of x.number) k; bare = set r.bare (line_of x.number) false; places = r.places }

    -- the line of the page has it
    read_turned : is_held r.pages x.number ≡ true → (get_or r.places (line_of x.number) 0 == i) ≡ true → AreLines (set ss i with_frame) Read turned
    read_turned held placed = λ j within own.
        let at = is j within own in
        by_bool (j == line_of x.number)
        (λ t.
        let e = eqb-true j (line_of x.number) t in
        let page : x.number ≡ get_or r.pages j 0 = sym (eqb-true (get_or r.pages (line_of x.number) 0) x.number held) ∙ ap (λ n. get_or r.pages n 0) (sym e) in
        let place : get_or r.places j 0 ≡ i = ap (λ n. get_or r.places n 0) e ∙ eqb-true (get_or r.places (line_of x.number) 0) i placed in
        let frame : line_frame turned j ≡ Some k = ap (line_frame turned) e ∙ frame_set_same r turned (line_of x.number) (Some k) (omega arith) wide broad refl refl in
        held_as (set ss i with_frame) Read (get_or r.pages j 0) (get_or r.pages j 0) (Some k) (line_frame turned j) i (get_or r.places j 0) refl (sym frame) (sym place)
        (held_now Read (get_or r.pages j 0) page (ap (λ n. gives (slot_at ss n).rights Read) (sym place) ∙ at.allowed)))
        (λ t.
        let other = eqb-false j (line_of x.number) t in
        let frame : line_frame turned j ≡ line_frame r j = frame_set_other r turned (line_of x.number) j (Some k) other refl refl in
        let ne : get_or r.places j 0 ≡ i → ⊥ = λ e. other (sym own ∙ ap line_of (sym at.number ∙ ap (λ n. (slot_at ss n).number) e)) in
        held_as (set ss i with_frame) Read (get_or r.pages j 0) (get_or r.pages j 0) (line_frame r j) (line_frame turned j) (get_or r.places j 0) (get_or r.places j 0) refl (sym frame) refl
        (held_beside ss i l with_frame Read (get_or r.pages j 0) (line_frame r j) (get_or r.places j 0) ne at))

    -- no line has it
    read_other : (is_held r.pages x.number && (get_or r.places (line_of x.number) 0 == i)) ≡ false → AreLines (set ss i with_frame) Read r
    read_other t = λ j within own.
        let at = is j within own in
        let ne : get_or r.places j 0 ≡ i → ⊥ =
        λ e.
        let page : x.number ≡ get_or r.pages j 0 = ap (λ n. (slot_at ss n).number) (sym e) ∙ at.number in
        let line : line_of x.number ≡ j = ap line_of page ∙ own in
        let held : get_or r.pages (line_of x.number) 0 ≡ x.number = ap (λ n. get_or r.pages n 0) line ∙ sym page in
        let placed : get_or r.places (line_of x.number) 0 ≡ i = ap (λ n. get_or r.places n 0) line ∙ e in
        false≢true (sym t ∙ both (is_held r.pages x.number) (get_or r.places (line_of x.number) 0 == i) (eq-eqb (get_or r.pages (line_of x.number) 0) x.number held) (eq-eqb (get_or r.places (line_of x.number) 0) i placed)) in
        held_beside ss i l with_frame Read (get_or r.pages j 0) (line_frame r j) (get_or r.places j 0) ne at

    reads_moved : AreLines (set ss i with_frame) Read (lines_after r x.number i k)
    reads_moved =
        by_bool (is_held r.pages x.number && (get_or r.places (line_of x.number) 0 == i))
        (λ t. subst (λ b. AreLines (set ss i with_frame) Read (cond b turned r)) (sym t) (read_turned (first_of (is_held r.pages x.number) (get_or r.places (line_of x.number) 0 == i) t) (second_of (is_held r.pages x.number) (get_or r.places (line_of x.number) 0 == i) t)))
        (λ t. subst (λ b. AreLines (set ss i with_frame) Read (cond b turned r)) (sym t) (read_other t))

  -- it had no frame of its own, so no line for writes has it
  writes_moved : is_own x ≡ false → (w : Lines) → AreLines ss Write w → AreLines (set ss i with_frame) Write w
  writes_moved shared w is = λ j within own.
      let at = is j within own in
      let ne : get_or w.places j 0 ≡ i → ⊥ = λ e. false≢true (sym shared ∙ ap (λ n. is_own (slot_at ss n)) (sym e) ∙ at.own refl) in
      held_beside ss i l with_frame Write (get_or w.pages j 0) (line_frame w j) (get_or w.places j 0) ne at

  pub hand_moved : is_own x ≡ false → (h n : Hand) → n.code ≡ code_after h.code x k → n.reads.value ≡ lines_after h.reads.value x.number i k → n.writes.value ≡ h.writes.value → length h.reads.value.frames ≡ lines → length h.reads.value.bare ≡ lines → AreAtHand ss h → AreAtHand (set ss i with_frame) n
  hand_moved shared h n code reads writes wide broad is = record {
    code = subst (λ (c : CodePage). IsCode (set ss i with_frame) c) (sym code) (code_moved h.code is.code);
    reads = subst (λ (l : Lines). AreLines (set ss i with_frame) Read l) (sym reads) (reads_moved h.reads.value wide broad is.reads);
    writes = subst (λ (l : Lines). AreLines (set ss i with_frame) Write l) (sym writes) (writes_moved shared h.writes.value is.writes);
  }

-- a slot that says that it alone names its block does, and one that doesn't isn't said to
pub own_sole : (live : Live) (ss : List Slot) (i : ℕ) → i < length ss → AreOwn live ss → is_own (slot_at ss i) ≡ true → is_sole live (frame_at ss i) ≡ true
own_sole live ss i l own is =
    let right = right_at live ss i no_slot l own in
    by_bool (is_sole live (frame_at ss i)) (λ t. t)
    (λ t. let one_too : one (is_own (slot_at ss i) && not (is_sole live (frame_at ss i))) ≡ 1 = λ j. one (is j && not (t j)) in absurd (omega (arith, right, one_too)))

pub not_own : (live : Live) (ss : List Slot) (i : ℕ) → i < length ss → AreOwn live ss → is_sole live (frame_at ss i) ≡ false → is_own (slot_at ss i) ≡ false
not_own live ss i l own shared = by_bool (is_own (slot_at ss i)) (λ t. absurd (false≢true (sym shared ∙ own_sole live ss i l own t))) (λ t. t)

-- ---- lines that are empty, and lines that are set

-- page 0 stands in line 1, and page 1 in each other line: no page in a line of its own
none_own : (k : ℕ) → k < lines → line_of (get_or empty_lines k 0) ≡ k → ⊥
none_own k within own =
    elim (cases_eq k 1) as (λ _. ⊥) [
      | inl is ↦ let zero_too : k ≡ 0 = sym own ∙ ap (λ j. line_of (get_or empty_lines j 0)) is in omega (arith, zero_too, is)
      | inr other ↦ other (sym own ∙ ap line_of (get_or-set_other (replicate lines 1) 1 k 0 0 other ∙ get_or-replicate lines k 1 0 within))
    ]

none_in : (ss : List Slot) (kind : Kind) (r : Lines) → r.pages ≡ empty_lines → AreLines ss kind r
none_in ss kind r e = λ k within own. absurd (none_own k within (ap (λ (ps : List ℕ). line_of (get_or ps k 0)) (sym e) ∙ own))

pub none_at_hand : (ss : List Slot) (h : Hand) → h.code.number ≡ no_page → h.reads.value.pages ≡ empty_lines → h.writes.value.pages ≡ empty_lines → AreAtHand ss h
none_at_hand ss h code reads writes = record {
  code = λ some. absurd (omega (arith, code, some));
  reads = none_in ss Read h.reads.value reads;
  writes = none_in ss Write h.writes.value writes;
}

pub none_at_first : (ss : List Slot) (h : Hand) → hand_of h ≡ nothing_at_hand → AreAtHand ss h
none_at_first ss h e = none_at_hand ss h (ap (λ (a : AtHand). a.code) e) (ap (λ (a : AtHand). a.reads) e) (ap (λ (a : AtHand). a.writes) e)

-- the line of a page is set
pub lines_set : (ss : List Slot) (kind : Kind) (r : Lines) (page : ℕ) (frame : Option ℕ) (i : ℕ) → length r.pages ≡ lines → length r.frames ≡ lines → length r.bare ≡ lines → length r.places ≡ lines → IsHeldAt ss kind page frame i → AreLines ss kind r →
    AreLines ss kind (with_line r page frame i)
lines_set ss kind r page frame i long wide broad deep now is = λ k within own.
    let more : Lines = with_line r page frame i in
    by_bool (k == line_of page)
    (λ t.
    let e = eqb-true k (line_of page) t in
    let p : page ≡ get_or (set r.pages (line_of page) page) k 0 = sym (ap (λ n. get_or (set r.pages (line_of page) page) n 0) e ∙ get_or-set_same r.pages (line_of page) page 0 (omega (arith, long))) in
    let f : frame ≡ line_frame more k = sym (ap (line_frame more) e ∙ frame_set_same r more (line_of page) frame (omega arith) wide broad refl refl) in
    let q : i ≡ get_or (set r.places (line_of page) i) k 0 = sym (ap (λ n. get_or (set r.places (line_of page) i) n 0) e ∙ get_or-set_same r.places (line_of page) i 0 (omega (arith, deep))) in
    held_as ss kind page (get_or (set r.pages (line_of page) page) k 0) frame (line_frame more k) i (get_or (set r.places (line_of page) i) k 0) p f q now)
    (λ t.
    let other = eqb-false k (line_of page) t in
    let p : get_or r.pages k 0 ≡ get_or (set r.pages (line_of page) page) k 0 = sym (get_or-set_other r.pages (line_of page) k page 0 other) in
    let f : line_frame r k ≡ line_frame more k = sym (frame_set_other r more (line_of page) k frame other refl refl) in
    let q : get_or r.places k 0 ≡ get_or (set r.places (line_of page) i) k 0 = sym (get_or-set_other r.places (line_of page) k i 0 other) in
    let at = is k within (ap line_of p ∙ own) in
    held_as ss kind (get_or r.pages k 0) (get_or (set r.pages (line_of page) page) k 0) (line_frame r k) (line_frame more k) (get_or r.places k 0) (get_or (set r.places (line_of page) i) k 0) p f q at)

-- the line of the page at place i is emptied, and its slot is another
module _ (ss : List Slot) (i : ℕ) (l : i < length ss) (s : Slot) (page : ℕ) (number : (slot_at ss i).number ≡ page) where
  lines_dropped : (kind : Kind) (r : Lines) → length r.pages ≡ lines → AreLines ss kind r → AreLines (set ss i s) kind (without_line r page)
  lines_dropped kind r long is = λ k within own.
      by_bool (k == line_of page)
      (λ t.
      let e = eqb-true k (line_of page) t in
      let p : get_or (set r.pages (line_of page) (line_of page + 1)) k 0 ≡ line_of page + 1 = ap (λ n. get_or (set r.pages (line_of page) (line_of page + 1)) n 0) e ∙ get_or-set_same r.pages (line_of page) (line_of page + 1) 0 (omega (arith, long)) in
      let off : line_of (line_of page + 1) ≡ line_of page = ap line_of (sym p) ∙ own ∙ e in
      absurd (omega (arith, off)))
      (λ t.
      let other = eqb-false k (line_of page) t in
      let p : get_or r.pages k 0 ≡ get_or (set r.pages (line_of page) (line_of page + 1)) k 0 = sym (get_or-set_other r.pages (line_of page) k (line_of page + 1) 0 other) in
      let at = is k within (ap line_of p ∙ own) in
      let ne : get_or r.places k 0 ≡ i → ⊥ = λ e. other (sym (ap line_of p ∙ own) ∙ ap line_of (sym at.number ∙ ap (λ n. (slot_at ss n).number) e ∙ number)) in
      held_as (set ss i s) kind (get_or r.pages k 0) (get_or (set r.pages (line_of page) (line_of page + 1)) k 0) (line_frame r k) (line_frame r k) (get_or r.places k 0) (get_or r.places k 0) p refl refl
      (held_beside ss i l s kind (get_or r.pages k 0) (line_frame r k) (get_or r.places k 0) ne at))

  pub hand_dropped : (h n : Hand) → n.code.number ≡ no_page → n.reads.value ≡ without_line h.reads.value page → n.writes.value ≡ without_line h.writes.value page → length h.reads.value.pages ≡ lines → length h.writes.value.pages ≡ lines → AreAtHand ss h → AreAtHand (set ss i s) n
  hand_dropped h n code reads writes long wide is = record {
    code = λ some. absurd (omega (arith, code, some));
    reads = subst (λ (l : Lines). AreLines (set ss i s) Read l) (sym reads) (lines_dropped Read h.reads.value long is.reads);
    writes = subst (λ (l : Lines). AreLines (set ss i s) Write l) (sym writes) (lines_dropped Write h.writes.value wide is.writes);
  }

-- ---- the bytes of a page at hand

-- the page of a line that has it is at its place
pub line_held : (ss : List Slot) (kind : Kind) (r : Lines) → AreLines ss kind r → (page : ℕ) → is_held r.pages page ≡ true → IsHeldAt ss kind page (line_frame r (line_of page)) (get_or r.places (line_of page) 0)
line_held ss kind r is page e =
    let has : get_or r.pages (line_of page) 0 ≡ page = eqb-true (get_or r.pages (line_of page) 0) page e in
    held_as ss kind (get_or r.pages (line_of page) 0) page (line_frame r (line_of page)) (line_frame r (line_of page)) (get_or r.places (line_of page) 0) (get_or r.places (line_of page) 0) has refl refl
    (is (line_of page) (omega arith) (ap line_of has))

module _ (live : Live) (ss : List Slot) (held : AreHeld live ss) (kind : Kind) (page : ℕ) (frame : Option ℕ) (i : ℕ) (at : IsHeldAt ss kind page frame i) where
  pub held_live : IfSome frame (λ f. contains_key live f ≡ true)
  held_live = subst (λ (o : Option ℕ). IfSome o (λ f. contains_key live f ≡ true)) at.frame_is (frame_is_held live ss i (slot_at ss i) held at.within (slot_there ss i at.within))

  -- the bytes of its frame are those of its entry
  pub held_given : (bytes : List ℕ) → bytes_in live frame ≡ bytes → IsGiven (entries_in live ss) kind page bytes
  held_given bytes found =
      let entry : entry_at (entries_in live ss) i ≡ entry_in live (slot_at ss i) = entry_is live ss i (slot_at ss i) at.within (slot_there ss i at.within) in
      record {
        place = i;
        within = omega (arith, at.within, length-map ss (entry_in live));
        number = ap (λ (x : Entry). x.0) entry ∙ at.number;
        allowed = ap (λ (x : Entry). gives x.1.rights kind) entry ∙ at.allowed;
        bytes_are = ap (λ (x : Entry). x.1.bytes) entry ∙ ap (λ (o : Option ℕ). bytes_in live o) at.frame_is ∙ found;
      }

  -- and its entry is there
  pub held_given_at : IsGivenAt (entries_in live ss) kind page i
  held_given_at =
      let entry : entry_at (entries_in live ss) i ≡ entry_in live (slot_at ss i) = entry_is live ss i (slot_at ss i) at.within (slot_there ss i at.within) in
      record {
        within = omega (arith, at.within, length-map ss (entry_in live));
        number = ap (λ (x : Entry). x.0) entry ∙ at.number;
        allowed = ap (λ (x : Entry). gives x.1.rights kind) entry ∙ at.allowed;
      }
