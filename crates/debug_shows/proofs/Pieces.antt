-- One more piece of a text that a recursion says.
use Rattle.std.proofs.Common.{◌≡◌, ◌<◌, ℕ, zero, suc, ◌+◌, ◌-◌, Bool, true, false, List, [], ◌∷◌, ◌++◌, nat_eq, if◌then◌else◌, is_ok, Result, Ok, Err, refl, sym, ap, subst, ◌∙◌, arith, append_assoc, append-nil}
use Rattle.std.specs.Result.{OnOk}
use Rattle.std.proofs.Math.Dec.{eqb-suc-zero}
use Rattle.elf_symbols.specs.declared.Symbol.{Symbol}
use Rattle.emu_model.specs.Access.{Memory, address, byte_at, value}
use Rattle.debug_texts.specs.Numbers.{character}
use Rattle.debug_shows.specs.Frames.{end_text, frame_text, frames, is_followed, return_address}
use Rattle.debug_shows.specs.Memory.{behind_characters, characters, most_characters, one_text, texts}

pub left_more : (most k : ℕ) → k < most → most - k ≡ suc (most - (k + 1))
left_more most k h = omega (arith, h)

-- what holds of a text where a call appended something to it
pub on_ok : {A E : Type 0} (r : Result A E) {P Q : Type 0} → (P → Q) → OnOk r P → OnOk r Q
on_ok (Ok x) f p = f p
on_ok (Err e) f p = tt

-- a piece by another name
pub ok_text : {A E : Type 0} (r : Result A E) (new old piece other : List ℕ) → piece ≡ other → OnOk r (new ≡ old ++ piece) → OnOk r (new ≡ old ++ other)
ok_text r new old piece other same h = subst (λ (p : List ℕ). OnOk r (new ≡ old ++ p)) same h

-- one piece behind another
pub ok_both : {A E : Type 0} (r : Result A E) (old mid new a b c : List ℕ) → b ≡ c → mid ≡ old ++ a → OnOk r (new ≡ mid ++ b) → OnOk r (new ≡ old ++ (a ++ c))
ok_both r old mid new a b c same first second =
    ok_text r new old (a ++ b) (a ++ c) (ap (λ (xs : List ℕ). a ++ xs) same)
    (on_ok r (λ (h : new ≡ mid ++ b). h ∙ ap (λ (xs : List ℕ). xs ++ b) first ∙ append_assoc old a b) second)

-- a text that is appended only where there is room for it
pub pushed : {A E : Type 0} (r : Result A E) (new more same : List ℕ) → new ≡ (if is_ok r then more else same) → OnOk r (new ≡ more)
pushed (Ok x) new more same h = h
pushed (Err e) new more same h = tt

-- four pieces
regrouped : (t a b c d : List ℕ) → (((t ++ a) ++ b) ++ c) ++ d ≡ t ++ (((a ++ b) ++ c) ++ d)
regrouped t a b c d = simp append_assoc

pub ok_four : {A E : Type 0} (r : Result A E) (old one two three new a b c d : List ℕ) → one ≡ old ++ a → two ≡ one ++ b → three ≡ two ++ c → OnOk r (new ≡ three ++ d) → OnOk r (new ≡ old ++ (((a ++ b) ++ c) ++ d))
ok_four r old one two three new a b c d first second third last =
    on_ok r (λ (h : new ≡ three ++ d). h ∙ ap (λ (xs : List ℕ). xs ++ d) (third ∙ ap (λ (xs : List ℕ). xs ++ c) (second ∙ ap (λ (xs : List ℕ). xs ++ b) first)) ∙ regrouped old a b c d) last

-- the first piece of what is left is appended
appended : (mid new all piece rest left : List ℕ) → left ≡ piece ++ rest → mid ++ left ≡ all → new ≡ mid ++ piece → new ++ rest ≡ all
appended mid new all piece rest left split is new_is =
    ap (λ (xs : List ℕ). xs ++ rest) new_is ∙ append_assoc mid piece rest ∙ ap (λ (xs : List ℕ). mid ++ xs) (sym split) ∙ is

-- and is all that is left
ended : (mid new all piece left : List ℕ) → left ≡ piece → mid ++ left ≡ all → new ≡ mid ++ piece → new ≡ all
ended mid new all piece left same is new_is = new_is ∙ ap (λ (xs : List ℕ). mid ++ xs) (sym same) ∙ is

-- nothing is left
over : (mid all left : List ℕ) → left ≡ [] → mid ++ left ≡ all → mid ≡ all
over mid all left none is = sym (append-nil mid) ∙ ap (λ (xs : List ℕ). mid ++ xs) (sym none) ∙ is

-- ---- characters

zero_byte : (b c : ℕ) → b ≡ c → b ≡ 0 → nat_eq c 0 ≡ true
zero_byte b c same is = ap (λ (x : ℕ). nat_eq x 0) (sym same ∙ is)

other_byte : (b c : ℕ) → b ≡ c → (b ≡ 0 → ⊥) → nat_eq c 0 ≡ false
other_byte b zero same other = absurd (other same)
other_byte b (suc c) same other = eqb-suc-zero c

module _ (m : Memory) (a : ℕ) where
  characters-suc : (n : ℕ) → characters m a (suc n) ≡ (if nat_eq (byte_at m a) 0 then [] else character (byte_at m a) ∷ characters m (address (a + 1)) n)
  unfolding characters
  characters-suc n = refl

  behind-suc : (n : ℕ) → behind_characters m a (suc n) ≡ (if nat_eq (byte_at m a) 0 then address (a + 1) else behind_characters m (address (a + 1)) n)
  unfolding behind_characters
  behind-suc n = refl

  characters-zero : characters m a 0 ≡ []
  unfolding characters
  characters-zero = refl

  behind-zero : behind_characters m a 0 ≡ a
  unfolding behind_characters
  behind-zero = refl

  -- so many are left, of which the next byte is b
  module _ (n k b : ℕ) (left : n ≡ suc k) (same : b ≡ byte_at m a) where
    characters-if : (z : Bool) → nat_eq (byte_at m a) 0 ≡ z → characters m a n ≡ (if z then [] else character (byte_at m a) ∷ characters m (address (a + 1)) k)
    characters-if z is = ap (characters m a) left ∙ characters-suc k ∙ ap (λ (y : Bool). if y then [] else character (byte_at m a) ∷ characters m (address (a + 1)) k) is

    behind-if : (z : Bool) → nat_eq (byte_at m a) 0 ≡ z → behind_characters m a n ≡ (if z then address (a + 1) else behind_characters m (address (a + 1)) k)
    behind-if z is = ap (behind_characters m a) left ∙ behind-suc k ∙ ap (λ (y : Bool). if y then address (a + 1) else behind_characters m (address (a + 1)) k) is

    pub characters-more : (mid new all : List ℕ) (next : ℕ) → (b ≡ 0 → ⊥) → next ≡ address (a + 1) → mid ++ characters m a n ≡ all → new ≡ mid ++ character b ∷ [] → new ++ characters m next k ≡ all
    characters-more mid new all next other at is new_is =
        ap (λ (i : ℕ). new ++ characters m i k) at
        ∙ appended mid new all (character b ∷ []) (characters m (address (a + 1)) k) (characters m a n) (characters-if false (other_byte b (byte_at m a) same other) ∙ ap (λ (x : ℕ). character x ∷ characters m (address (a + 1)) k) (sym same)) is new_is

    pub behind-more : (next all : ℕ) → (b ≡ 0 → ⊥) → next ≡ address (a + 1) → behind_characters m a n ≡ all → behind_characters m next k ≡ all
    behind-more next all other at is = ap (λ (i : ℕ). behind_characters m i k) at ∙ sym (behind-if false (other_byte b (byte_at m a) same other)) ∙ is

    pub characters-end : (mid all : List ℕ) → b ≡ 0 → mid ++ characters m a n ≡ all → mid ≡ all
    characters-end mid all is left_is = over mid all (characters m a n) (characters-if true (zero_byte b (byte_at m a) same is)) left_is

    pub behind-end : (next all : ℕ) → b ≡ 0 → next ≡ address (a + 1) → behind_characters m a n ≡ all → next ≡ all
    behind-end next all is at left_is = at ∙ sym (behind-if true (zero_byte b (byte_at m a) same is)) ∙ left_is

  pub characters-over : (n : ℕ) (mid all : List ℕ) → n ≡ 0 → mid ++ characters m a n ≡ all → mid ≡ all
  characters-over n mid all none is = over mid all (characters m a n) (ap (characters m a) none ∙ characters-zero) is

  pub behind-over : (n all : ℕ) → n ≡ 0 → behind_characters m a n ≡ all → a ≡ all
  behind-over n all none is = sym (ap (behind_characters m a) none ∙ behind-zero) ∙ is

-- ---- texts

module _ (symbols : List Symbol) (m : Memory) (a : ℕ) where
  texts-suc : (n : ℕ) → texts symbols m a (suc n) ≡ one_text symbols m a ++ texts symbols m (behind_characters m a most_characters) n
  unfolding texts
  texts-suc n = refl

  texts-zero : texts symbols m a 0 ≡ []
  unfolding texts
  texts-zero = refl

  pub texts-more : (mid new all : List ℕ) (n k next : ℕ) → n ≡ suc k → next ≡ behind_characters m a most_characters → mid ++ texts symbols m a n ≡ all → new ≡ mid ++ one_text symbols m a → new ++ texts symbols m next k ≡ all
  texts-more mid new all n k next left at is new_is =
      ap (λ (i : ℕ). new ++ texts symbols m i k) at
      ∙ appended mid new all (one_text symbols m a) (texts symbols m (behind_characters m a most_characters) k) (texts symbols m a n) (ap (texts symbols m a) left ∙ texts-suc k) is new_is

  pub texts-over : (n : ℕ) (mid all : List ℕ) → n ≡ 0 → mid ++ texts symbols m a n ≡ all → mid ≡ all
  texts-over n mid all none is = over mid all (texts symbols m a n) (ap (texts symbols m a) none ∙ texts-zero) is

-- ---- frames

module _ (symbols : List Symbol) (m : Memory) (number before frame : ℕ) where
  frames-suc : (n : ℕ) → frames symbols m number before frame (suc n)
      ≡ (if is_followed m before frame then frame_text symbols number (return_address m frame) ++ frames symbols m (number + 1) frame (value m frame 8) n else end_text m before frame)
  unfolding frames
  frames-suc n = refl

  frames-zero : frames symbols m number before frame 0 ≡ end_text m before frame
  unfolding frames
  frames-zero = refl

  frames-if : (n k : ℕ) (z : Bool) → n ≡ suc k → is_followed m before frame ≡ z
      → frames symbols m number before frame n ≡ (if z then frame_text symbols number (return_address m frame) ++ frames symbols m (number + 1) frame (value m frame 8) k else end_text m before frame)
  frames-if n k z left is =
      ap (frames symbols m number before frame) left ∙ frames-suc k
      ∙ ap (λ (y : Bool). if y then frame_text symbols number (return_address m frame) ++ frames symbols m (number + 1) frame (value m frame 8) k else end_text m before frame) is

  pub frames-more : (mid new all : List ℕ) (n k at next : ℕ) → n ≡ suc k → is_followed m before frame ≡ true → at ≡ return_address m frame → next ≡ value m frame 8
      → mid ++ frames symbols m number before frame n ≡ all → new ≡ mid ++ frame_text symbols number at → new ++ frames symbols m (number + 1) frame next k ≡ all
  frames-more mid new all n k at next left followed at_is next_is is new_is =
      ap (λ (i : ℕ). new ++ frames symbols m (number + 1) frame i k) next_is
      ∙ appended mid new all (frame_text symbols number (return_address m frame)) (frames symbols m (number + 1) frame (value m frame 8) k) (frames symbols m number before frame n)
      (frames-if n k true left followed) is (new_is ∙ ap (λ (i : ℕ). mid ++ frame_text symbols number i) at_is)

  pub frames-end : (mid new all : List ℕ) (n k : ℕ) → n ≡ suc k → is_followed m before frame ≡ false → mid ++ frames symbols m number before frame n ≡ all → new ≡ mid ++ end_text m before frame → new ≡ all
  frames-end mid new all n k left followed is new_is = ended mid new all (end_text m before frame) (frames symbols m number before frame n) (frames-if n k false left followed) is new_is

  pub frames-over : (mid new all : List ℕ) (n : ℕ) → n ≡ 0 → mid ++ frames symbols m number before frame n ≡ all → new ≡ mid ++ end_text m before frame → new ≡ all
  frames-over mid new all n none is new_is = ended mid new all (end_text m before frame) (frames symbols m number before frame n) (ap (frames symbols m number before frame) none ∙ frames-zero) is new_is
