-- Laws of elements that are accessed one after the other.
use Rattle.std.specs.Prelude.{◌≡◌, ℕ, suc, Bool, true, false, List, [], ◌∷◌, ◌++◌, length, Option, Some, None}
use Rattle.std.proofs.Common.{refl, ap, sym, subst, ◌∙◌}
use Rattle.std.proofs.lemmas.List.{append-nil}
use Rattle.emu_model.specs.declared.access.Access.{Access}
use Rattle.emu_model.specs.declared.access.Kind.{Kind}
use Rattle.emu_model.specs.declared.access.Kind.TheVariants.{Read, Write}
use Rattle.emu_model.specs.declared.trap.Trap.{Trap}
use Rattle.emu_model.specs.declared.trap.TrapKind.TheVariants.{Read as ReadTrap, Write as WriteTrap}
use Rattle.emu_model.specs.Access.{Memory, refused, stored}
use Rattle.emu_model.specs.AccessLaws.{refused_stored}
use Rattle.emu_model.specs.Elements.{Element, Reach, reach, reach_from, with_stored, accesses_of}

-- ---- an append

-- what an access of some elements reaches, where it goes on with more unless it was stopped
abbrev pub goes_on : Option ℕ → List Element → Reach → Reach
goes_on None before rest = record { done = before ++ rest.done; stop = rest.stop }
goes_on (Some a) before rest = record { done = before; stop = Some a }

one_before : (o s : Option ℕ) (e : Element) (d : List Element) (r : Reach)
    → reach_from o e (goes_on s d r) ≡ goes_on (reach_from o e (record { done = d; stop = s })).stop (reach_from o e (record { done = d; stop = s })).done r
one_before None None e d r = refl
one_before None (Some a) e d r = refl
one_before (Some b) None e d r = refl
one_before (Some b) (Some a) e d r = refl

pub reach_append : (m : Memory) (kind : Kind) (xs ys : List Element) → reach m kind (xs ++ ys) ≡ goes_on (reach m kind xs).stop (reach m kind xs).done (reach m kind ys)
reach_append m kind [] ys = refl
reach_append m kind (e ∷ xs) ys =
    ap (reach_from (refused m e.address e.bytes kind) e) (reach_append m kind xs ys)
    ∙ one_before (refused m e.address e.bytes kind) (reach m kind xs).stop e (reach m kind xs).done (reach m kind ys)

pub with_stored_append : (v : Element → ℕ) (xs ys : List Element) (m : Memory) → with_stored v (xs ++ ys) m ≡ with_stored v ys (with_stored v xs m)
with_stored_append v [] ys m = refl
with_stored_append v (e ∷ xs) ys m = with_stored_append v xs ys (stored m e.address e.bytes (v e))

pub accesses_append : (write : Bool) (xs ys : List Element) → accesses_of write (xs ++ ys) ≡ accesses_of write xs ++ accesses_of write ys
accesses_append write [] ys = refl
accesses_append write (e ∷ xs) ys = ap (λ (rest : List Access). record { address = e.address; bytes = e.bytes; write = write } ∷ rest) (accesses_append write xs ys)

pub length_accesses : (write : Bool) (es : List Element) → length (accesses_of write es) ≡ length es
length_accesses write [] = refl
length_accesses write (e ∷ es) = ap suc (length_accesses write es)

-- stores change no right
pub refused_with_stored : (v : Element → ℕ) (es : List Element) (m : Memory) (a n : ℕ) (kind : Kind) → refused (with_stored v es m) a n kind ≡ refused m a n kind
refused_with_stored v [] m a n kind = refl
refused_with_stored v (e ∷ es) m a n kind = refused_with_stored v es (stored m e.address e.bytes (v e)) a n kind ∙ refused_stored e.bytes m e.address (v e) a n kind

-- ---- so far

-- all of these were reached
abbrev pub all_of : List Element → Reach
all_of es = record { done = es; stop = None }

-- All of these elements of a memory were loaded and logged.
pub record AreLoaded (m : Memory) (es : List Element) (log : List Access) : Type 0 where
  pub reached : reach m Read es ≡ all_of es
  pub logged : log ≡ accesses_of false es

-- The load of these elements was stopped by a trap, with the elements before logged.
pub record StopsLoad (m : Memory) (es : List Element) (log : List Access) (trap : Trap) : Type 0 where
  pub kind : trap.kind ≡ ReadTrap
  pub stop : (reach m Read es).stop ≡ Some trap.address
  pub logged : log ≡ accesses_of false (reach m Read es).done

-- All of these elements were stored, each with its value, and logged; the memory was m.
pub record AreStored (v : Element → ℕ) (m : Memory) (es : List Element) (now : Memory) (log : List Access) : Type 0 where
  pub reached : reach m Write es ≡ all_of es
  pub memory : now ≡ with_stored v es m
  pub logged : log ≡ accesses_of true es

-- The store of these elements was stopped by a trap, with the elements before stored and logged.
pub record StopsStore (v : Element → ℕ) (m : Memory) (es : List Element) (now : Memory) (log : List Access) (trap : Trap) : Type 0 where
  pub kind : trap.kind ≡ WriteTrap
  pub stop : (reach m Write es).stop ≡ Some trap.address
  pub memory : now ≡ with_stored v (reach m Write es).done m
  pub logged : log ≡ accesses_of true (reach m Write es).done

-- ---- one more

reach_one : (m : Memory) (kind : Kind) (es : List Element) (e : Element) → reach m kind es ≡ all_of es
    → reach m kind (es ++ e ∷ []) ≡ goes_on None es (reach_from (refused m e.address e.bytes kind) e (all_of []))
reach_one m kind es e h = reach_append m kind es (e ∷ []) ∙ ap (λ (r : Reach). goes_on r.stop r.done (reach m kind (e ∷ []))) h

reach_more : (m : Memory) (kind : Kind) (es : List Element) (e : Element) → reach m kind es ≡ all_of es → refused m e.address e.bytes kind ≡ None
    → reach m kind (es ++ e ∷ []) ≡ all_of (es ++ e ∷ [])
reach_more m kind es e h allowed = reach_one m kind es e h ∙ ap (λ (o : Option ℕ). goes_on None es (reach_from o e (all_of []))) allowed

reach_stop : (m : Memory) (kind : Kind) (es : List Element) (e : Element) (a : ℕ) → reach m kind es ≡ all_of es → refused m e.address e.bytes kind ≡ Some a
    → reach m kind (es ++ e ∷ []) ≡ record { done = es; stop = Some a }
reach_stop m kind es e a h denied =
    reach_one m kind es e h ∙ ap (λ (o : Option ℕ). goes_on None es (reach_from o e (all_of []))) denied
    ∙ ap (λ (d : List Element). record { done = d; stop = Some a }) (append-nil es)

pub no_loads : (m : Memory) (log : List Access) → log ≡ [] → AreLoaded m [] log
no_loads m log h = record { reached = refl; logged = h }

pub one_load : (m : Memory) (es : List Element) (e : Element) (log after : List Access) → AreLoaded m es log → refused m e.address e.bytes Read ≡ None
    → after ≡ log ++ record { address = e.address; bytes = e.bytes; write = false } ∷ [] → AreLoaded m (es ++ e ∷ []) after
one_load m es e log after h allowed more = record {
  reached = reach_more m Read es e h.reached allowed;
  logged = more ∙ ap (λ (l : List Access). l ++ record { address = e.address; bytes = e.bytes; write = false } ∷ []) h.logged ∙ sym (accesses_append false es (e ∷ []));
}

pub load_stops : (m : Memory) (es : List Element) (e : Element) (log : List Access) (trap : Trap) → AreLoaded m es log → trap.kind ≡ ReadTrap
    → refused m e.address e.bytes Read ≡ Some trap.address → StopsLoad m (es ++ e ∷ []) log trap
load_stops m es e log trap h is denied =
    let r : reach m Read (es ++ e ∷ []) ≡ record { done = es; stop = Some trap.address } = reach_stop m Read es e trap.address h.reached denied in
    record { kind = is; stop = ap (λ (r : Reach). r.stop) r; logged = h.logged ∙ ap (λ (r : Reach). accesses_of false r.done) (sym r) }

stays : (s : Option ℕ) (a : ℕ) (d : List Element) (rest : Reach) → s ≡ Some a → goes_on s d rest ≡ record { done = d; stop = s }
stays s a d rest e = subst (λ (s : Option ℕ). goes_on s d rest ≡ record { done = d; stop = s }) (sym e) refl

pub load_stays : (m : Memory) (es more : List Element) (log : List Access) (trap : Trap) → StopsLoad m es log trap → StopsLoad m (es ++ more) log trap
load_stays m es more log trap h =
    let r : reach m Read (es ++ more) ≡ reach m Read es = reach_append m Read es more ∙ stays (reach m Read es).stop trap.address (reach m Read es).done (reach m Read more) h.stop in
    record { kind = h.kind; stop = ap (λ (r : Reach). r.stop) r ∙ h.stop; logged = h.logged ∙ ap (λ (r : Reach). accesses_of false r.done) (sym r) }

pub no_stores : (v : Element → ℕ) (m : Memory) (log : List Access) → log ≡ [] → AreStored v m [] m log
no_stores v m log h = record { reached = refl; memory = refl; logged = h }

pub one_store : (v : Element → ℕ) (m : Memory) (es : List Element) (e : Element) (now next : Memory) (log after : List Access) → AreStored v m es now log
    → refused now e.address e.bytes Write ≡ None → next ≡ stored now e.address e.bytes (v e)
    → after ≡ log ++ record { address = e.address; bytes = e.bytes; write = true } ∷ [] → AreStored v m (es ++ e ∷ []) next after
one_store v m es e now next log after h allowed is more = record {
  reached = reach_more m Write es e h.reached (sym (refused_with_stored v es m e.address e.bytes Write) ∙ ap (λ (x : Memory). refused x e.address e.bytes Write) (sym h.memory) ∙ allowed);
  memory = is ∙ ap (λ (x : Memory). stored x e.address e.bytes (v e)) h.memory ∙ sym (with_stored_append v es (e ∷ []) m);
  logged = more ∙ ap (λ (l : List Access). l ++ record { address = e.address; bytes = e.bytes; write = true } ∷ []) h.logged ∙ sym (accesses_append true es (e ∷ []));
}

pub store_stops : (v : Element → ℕ) (m : Memory) (es : List Element) (e : Element) (now next : Memory) (log after : List Access) (trap : Trap) → AreStored v m es now log
    → trap.kind ≡ WriteTrap → refused now e.address e.bytes Write ≡ Some trap.address → next ≡ now → after ≡ log → StopsStore v m (es ++ e ∷ []) next after trap
store_stops v m es e now next log after trap h is denied same kept =
    let here : refused m e.address e.bytes Write ≡ Some trap.address
    = sym (refused_with_stored v es m e.address e.bytes Write) ∙ ap (λ (x : Memory). refused x e.address e.bytes Write) (sym h.memory) ∙ denied in
    let r : reach m Write (es ++ e ∷ []) ≡ record { done = es; stop = Some trap.address } = reach_stop m Write es e trap.address h.reached here in
    record {
      kind = is;
      stop = ap (λ (r : Reach). r.stop) r;
      memory = same ∙ h.memory ∙ ap (λ (r : Reach). with_stored v r.done m) (sym r);
      logged = kept ∙ h.logged ∙ ap (λ (r : Reach). accesses_of true r.done) (sym r);
    }

pub store_stays : (v : Element → ℕ) (m : Memory) (es more : List Element) (now : Memory) (log : List Access) (trap : Trap) → StopsStore v m es now log trap → StopsStore v m (es ++ more) now log trap
store_stays v m es more now log trap h =
    let r : reach m Write (es ++ more) ≡ reach m Write es = reach_append m Write es more ∙ stays (reach m Write es).stop trap.address (reach m Write es).done (reach m Write more) h.stop in
    record {
      kind = h.kind;
      stop = ap (λ (r : Reach). r.stop) r ∙ h.stop;
      memory = h.memory ∙ ap (λ (r : Reach). with_stored v r.done m) (sym r);
      logged = h.logged ∙ ap (λ (r : Reach). accesses_of true r.done) (sym r);
    }
