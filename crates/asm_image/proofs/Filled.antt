-- Holes filled one by one.
use Rattle.std.proofs.Common.{◌≡◌, ℕ, zero, suc, ◌+◌, ◌<◌, ◌∙◌, cond, List, [], ◌∷◌, ◌++◌, append_assoc, append-nil, Option, Some, None, Result, Ok, Err, drop, take, get_or, length, length-append, refl, sym, ap, ap₂, subst, arith}
use Rattle.std.specs.Prelude.{ok_or, option_map}
use Rattle.asm_image.specs.declared.draft.Gap.{Gap}
use Rattle.asm_image.specs.declared.draft.Gap.TheVariants.{Aim, Address, Mention}
use Rattle.asm_image.specs.declared.draft.Hole.{Hole}
use Rattle.asm_image.specs.Draft.{drafted, in_code, in_data, drafted_code, drafted_data, hole, holes, holes_of, InOrder}
use Rattle.asm_image.specs.Filling.{piece_of, put_at, ArePieces, IsAimableGap, AllAimable, HasRoom, AllHaveRoom}
use Rattle.asm_image.proofs.Layouts.{drafted_size}
use Rattle.asm_tokens.specs.declared.target.Target.TheVariants as target
use Rattle.byteorder.specs.Endian.{little_bytes}
use Rattle.listing_model.specs.declared.fault.ListingFault.{ListingFault}
use Rattle.listing_model.specs.declared.fault.ListingWhy.{ListingWhy}
use Rattle.listing_model.specs.declared.fault.ListingWhy.TheVariants.{UnknownLabel, TooFar}
use Rattle.listing_model.specs.declared.line.Section.{Section}
use Rattle.listing_model.specs.declared.line.Section.TheVariants.{Code, Data}
use Rattle.listing_model.specs.Image.{Contents, base, piece_bytes, aimed_at, piece_before, contents_of}
use Rattle.listing_model.specs.Layout.{Piece, bytes, aimed, address, mention, Placed, is_data, size}
use Rattle.listing_model.specs.Statements.{Statements}

-- ---- bytes in front of contents

abbrev pub behind : List ℕ → List ℕ → Result Contents ListingFault → Result Contents ListingFault
behind a b (Err e) = Err e
behind a b (Ok c) = Ok (record { code = a ++ c.code; values = b ++ c.values })

pub behind_nothing : (r : Result Contents ListingFault) → behind [] [] r ≡ r
behind_nothing (Err e) = refl
behind_nothing (Ok c) = refl

joined_behind : (a b bs : List ℕ) (n : ℕ) (t : Section) (r : Result Contents ListingFault)
    → behind a b (piece_before n t (Ok bs) r) ≡ behind (a ++ in_code t bs) (b ++ in_data t bs) r
joined_behind a b bs n t (Err e) = refl
joined_behind a b bs n Code (Ok c) =
    ap₂ (λ (x y : List ℕ). Ok (record { code = x; values = y })) (sym (append_assoc a bs c.code)) (ap (λ (x : List ℕ). x ++ c.values) (sym (append-nil b)))
joined_behind a b bs n Data (Ok c) =
    ap₂ (λ (x y : List ℕ). Ok (record { code = x; values = y })) (ap (λ (x : List ℕ). x ++ c.code) (sym (append-nil a))) (sym (append_assoc b bs c.values))

-- ---- what fills a piece has its size

module _ {I : Type 0} (s : Statements I) where
  word_size : (o : Option I) (bs : List ℕ) → ok_or (option_map (λ (i : I). little_bytes 4 (s.word i)) o) TooFar ≡ Ok bs → length bs ≡ 4
  word_size None bs h = cc
  word_size (Some i) bs h = let e : little_bytes 4 (s.word i) ≡ bs = cc in sym (ap length e)

  aimed_size : (i : I) (pc : ℕ) (o : Option ℕ) (bs : List ℕ) → aimed_at s i pc o ≡ Ok bs → length bs ≡ 4
  aimed_size i pc None bs h = cc
  aimed_size i pc (Some a) bs h = word_size (s.aimed i pc a) bs h

  address_size : (o : Option ℕ) (bs : List ℕ) → ok_or (option_map (little_bytes 8) o) UnknownLabel ≡ Ok bs → length bs ≡ 8
  address_size None bs h = cc
  address_size (Some a) bs h = let e : little_bytes 8 a ≡ bs = cc in sym (ap length e)

  mention_size : (o : Option ℕ) (bs : List ℕ) → ok_or (option_map (λ (a : ℕ). []) o) UnknownLabel ≡ Ok bs → length bs ≡ 0
  mention_size None bs h = cc
  mention_size (Some a) bs h = let e : [] ≡ bs = cc in sym (ap length e)

  pub filled_size : (labels : List ℕ → Option ℕ) (pc : ℕ) (p : Piece I) (bs : List ℕ) → piece_bytes s labels pc p ≡ Ok bs → length bs ≡ size p
  filled_size labels pc (bytes xs) bs h = let e : xs ≡ bs = cc in sym (ap length e)
  filled_size labels pc (aimed i (target.Address a)) bs h = aimed_size i pc (Some a) bs h
  filled_size labels pc (aimed i (target.Label n)) bs h = aimed_size i pc (labels n) bs h
  filled_size labels pc (address n) bs h = address_size (labels n) bs h
  filled_size labels pc (mention n) bs h = mention_size (labels n) bs h

-- ---- bytes over others

take_seam : (a x : List ℕ) → take (length a) (a ++ x) ≡ a
take_seam [] x = refl
take_seam (c ∷ cs) x = ap (λ (ys : List ℕ). c ∷ ys) (take_seam cs x)

drop_seam : (a x : List ℕ) → drop (length a) (a ++ x) ≡ x
drop_seam [] x = refl
drop_seam (c ∷ cs) x = drop_seam cs x

pub over_seam : (a z x bs : List ℕ) (place : ℕ) → place ≡ length a → length bs ≡ length z → put_at (a ++ (z ++ x)) place bs ≡ a ++ (bs ++ x)
over_seam a z x bs place h k =
    let all : place + length bs ≡ length (a ++ z) = omega (arith, length-append a z) in
    ap₂ (λ (u v : List ℕ). u ++ (bs ++ v))
    (ap (λ (i : ℕ). take i (a ++ (z ++ x))) h ∙ take_seam a (z ++ x))
    (ap₂ (λ (i : ℕ) (ys : List ℕ). drop i ys) all (sym (append_assoc a z x)) ∙ drop_seam (a ++ z) x)

-- ---- pieces up to the next hole

module _ {I : Type 0} (s : Statements I) (code_size : ℕ) (labels : List ℕ → Option ℕ) (ps : List (Placed I)) where
  -- what stands before the rest of the pieces is filled
  pub record Progress (hs : List (Hole I)) (code values : List ℕ) : Type 0 where
    pub rest : List (Placed I)
    pub a : List ℕ
    pub b : List ℕ
    pub code_is : code ≡ a ++ drafted_code rest
    pub values_is : values ≡ b ++ drafted_data rest
    pub holes_are : hs ≡ holes_of rest
    pub in_order : InOrder (length a) (length b) rest
    pub result : contents_of s code_size labels ps ≡ behind a b (contents_of s code_size labels rest)

  pub nothing_filled : (code values : List ℕ) (hs : List (Hole I)) → ArePieces ps code values hs → Progress hs code values
  nothing_filled code values hs h = record {
    rest = ps;
    a = [];
    b = [];
    code_is = h.code_is;
    values_is = h.values_is;
    holes_are = h.holes_are;
    in_order = h.in_order;
    result = sym (behind_nothing (contents_of s code_size labels ps));
  }

  -- the next hole is that of the piece p
  pub record AtHole (g : Hole I) (gs : List (Hole I)) (code values : List ℕ) : Type 0 where
    pub p : Placed I
    pub rest : List (Placed I)
    pub a : List ℕ
    pub b : List ℕ
    pub code_is : code ≡ a ++ (in_code p.section (drafted p.piece) ++ drafted_code rest)
    pub values_is : values ≡ b ++ (in_data p.section (drafted p.piece) ++ drafted_data rest)
    pub hole_is : holes p p.piece ≡ g ∷ []
    pub holes_are : gs ≡ holes_of rest
    pub place_is : p.place ≡ cond (is_data p.section) (length b) (length a)
    pub in_order : InOrder (length a + cond (is_data p.section) 0 (size p.piece)) (length b + cond (is_data p.section) (size p.piece) 0) rest
    pub result : contents_of s code_size labels ps ≡ behind a b (contents_of s code_size labels (p ∷ rest))

  in_code_size : (t : Section) (bs : List ℕ) → length (in_code t bs) ≡ cond (is_data t) 0 (length bs)
  in_code_size Code bs = refl
  in_code_size Data bs = refl

  in_data_size : (t : Section) (bs : List ℕ) → length (in_data t bs) ≡ cond (is_data t) (length bs) 0
  in_data_size Code bs = refl
  in_data_size Data bs = refl

  advance : (rest : List (Placed I)) (a b code values : List ℕ) (g : Hole I) (gs : List (Hole I)) → code ≡ a ++ drafted_code rest → values ≡ b ++ drafted_data rest
      → g ∷ gs ≡ holes_of rest → InOrder (length a) (length b) rest
      → contents_of s code_size labels ps ≡ behind a b (contents_of s code_size labels rest) → AtHole g gs code values
  advance [] a b code values g gs c v h o r = cc
  advance (q ∷ qs) a b code values g gs c v h o r = by q.piece refl (λ x y k l m n u. advance qs x y code values g gs k l m n u)
    where
      an_open : (x : Gap I) → holes q q.piece ≡ hole q x ∷ [] → AtHole g gs code values
      an_open x e =
          let all : g ∷ gs ≡ hole q x ∷ holes_of qs = h ∙ ap (λ (ys : List (Hole I)). ys ++ holes_of qs) e in
          let first : hole q x ≡ g = cc in
          let more : gs ≡ holes_of qs = cc in
          record {
            p = q;
            rest = qs;
            a = a;
            b = b;
            code_is = c;
            values_is = v;
            hole_is = e ∙ ap (λ (y : Hole I). y ∷ []) first;
            holes_are = more;
            place_is = o.0;
            in_order = o.1;
            result = r;
          }

      by : (x : Piece I) → q.piece ≡ x
          → ((y z : List ℕ) → code ≡ y ++ drafted_code qs → values ≡ z ++ drafted_data qs → g ∷ gs ≡ holes_of qs → InOrder (length y) (length z) qs
          → contents_of s code_size labels ps ≡ behind y z (contents_of s code_size labels qs) → AtHole g gs code values)
          → AtHole g gs code values
      by (bytes bs) e go =
          let t : Section = q.section in
          let code_more : code ≡ (a ++ in_code t bs) ++ drafted_code qs =
          c ∙ ap (λ (x : Piece I). a ++ (in_code t (drafted x) ++ drafted_code qs)) e ∙ sym (append_assoc a (in_code t bs) (drafted_code qs)) in
          let values_more : values ≡ (b ++ in_data t bs) ++ drafted_data qs =
          v ∙ ap (λ (x : Piece I). b ++ (in_data t (drafted x) ++ drafted_data qs)) e ∙ sym (append_assoc b (in_data t bs) (drafted_data qs)) in
          let no_hole : g ∷ gs ≡ holes_of qs = h ∙ ap (λ (x : Piece I). holes q x ++ holes_of qs) e in
          let bytes_size : size q.piece ≡ length bs = ap size e in
          let code_length : length a + cond (is_data t) 0 (size q.piece) ≡ length (a ++ in_code t bs) =
          ap (λ (n : ℕ). length a + cond (is_data t) 0 n) bytes_size ∙ ap (λ (n : ℕ). length a + n) (sym (in_code_size t bs)) ∙ sym (length-append a (in_code t bs)) in
          let data_length : length b + cond (is_data t) (size q.piece) 0 ≡ length (b ++ in_data t bs) =
          ap (λ (n : ℕ). length b + cond (is_data t) n 0) bytes_size ∙ ap (λ (n : ℕ). length b + n) (sym (in_data_size t bs)) ∙ sym (length-append b (in_data t bs)) in
          let order : InOrder (length (a ++ in_code t bs)) (length (b ++ in_data t bs)) qs =
          subst (λ (m : ℕ). InOrder m (length (b ++ in_data t bs)) qs) code_length
          (subst (λ (n : ℕ). InOrder (length a + cond (is_data t) 0 (size q.piece)) n qs) data_length o.1) in
          let known : piece_bytes s labels (base code_size t + q.place) q.piece ≡ Ok bs = ap (piece_bytes s labels (base code_size t + q.place)) e in
          go (a ++ in_code t bs) (b ++ in_data t bs) code_more values_more no_hole order
          (r ∙ ap (λ (x : Result (List ℕ) ListingWhy). behind a b (piece_before q.line t x (contents_of s code_size labels qs))) known
          ∙ joined_behind a b bs q.line t (contents_of s code_size labels qs))
      by (aimed i u) e go = an_open (Aim i u) (ap (holes q) e)
      by (address n) e go = an_open (Address n) (ap (holes q) e)
      by (mention n) e go = an_open (Mention n) (ap (holes q) e)

  pub at_hole : (g : Hole I) (gs : List (Hole I)) (code values : List ℕ) → Progress (g ∷ gs) code values → AtHole g gs code values
  at_hole g gs code values h = advance h.rest h.a h.b code values g gs h.code_is h.values_is h.holes_are h.in_order h.result

  -- ---- a hole is that of its piece

  piece_is : (g : Hole I) (gs : List (Hole I)) (code values : List ℕ) (h : AtHole g gs code values)
      → (h.p.piece ≡ piece_of g.gap) × (h.p.line ≡ g.line) × (h.p.section ≡ g.place.section) × (h.p.place ≡ g.place.at)
  piece_is g gs code values h = go h.p.piece refl h.hole_is
    where
      go : (x : Piece I) → h.p.piece ≡ x → holes h.p x ≡ g ∷ [] → (h.p.piece ≡ piece_of g.gap) × (h.p.line ≡ g.line) × (h.p.section ≡ g.place.section) × (h.p.place ≡ g.place.at)
      go (bytes bs) e k = cc
      go (aimed i t) e k = let w : hole h.p (Aim i t) ≡ g = cc in
          (e ∙ ap (λ (y : Hole I). piece_of y.gap) w, ap (λ (y : Hole I). y.line) w, ap (λ (y : Hole I). y.place.section) w, ap (λ (y : Hole I). y.place.at) w)
      go (address n) e k = let w : hole h.p (Address n) ≡ g = cc in
          (e ∙ ap (λ (y : Hole I). piece_of y.gap) w, ap (λ (y : Hole I). y.line) w, ap (λ (y : Hole I). y.place.section) w, ap (λ (y : Hole I). y.place.at) w)
      go (mention n) e k = let w : hole h.p (Mention n) ≡ g = cc in
          (e ∙ ap (λ (y : Hole I). piece_of y.gap) w, ap (λ (y : Hole I). y.line) w, ap (λ (y : Hole I). y.place.section) w, ap (λ (y : Hole I). y.place.at) w)

  -- what fills the hole fills the piece
  same_filling : (g : Hole I) (gs : List (Hole I)) (code values : List ℕ) (h : AtHole g gs code values)
      → piece_bytes s labels (base code_size h.p.section + h.p.place) h.p.piece ≡ piece_bytes s labels (base code_size g.place.section + g.place.at) (piece_of g.gap)
  same_filling g gs code values h =
      let is = piece_is g gs code values h in
      ap₂ (λ (pc : ℕ) (x : Piece I). piece_bytes s labels pc x)
      (ap₂ (λ (t : Section) (n : ℕ). base code_size t + n) is.2 is.3) is.0

  pub refused : (g : Hole I) (gs : List (Hole I)) (code values : List ℕ) (f : ListingFault) → Progress (g ∷ gs) code values → f.line ≡ g.line
      → piece_bytes s labels (base code_size g.place.section + g.place.at) (piece_of g.gap) ≡ Err f.why → contents_of s code_size labels ps ≡ Err f
  refused g gs code values f h l e =
      let w = at_hole g gs code values h in
      let is = piece_is g gs code values w in
      w.result
      ∙ ap (λ (x : Result (List ℕ) ListingWhy). behind w.a w.b (piece_before w.p.line w.p.section x (contents_of s code_size labels w.rest))) (same_filling g gs code values w ∙ e)
      ∙ ap (λ (n : ℕ). Err (record { line = n; why = f.why })) (is.1 ∙ sym l)

  -- ---- the hole is filled

  over_code : (t : Section) (a z x bs : List ℕ) (place n : ℕ) → place ≡ cond (is_data t) n (length a) → length bs ≡ length z
      → cond (is_data t) (a ++ (in_code t z ++ x)) (put_at (a ++ (in_code t z ++ x)) place bs) ≡ (a ++ in_code t bs) ++ x
  over_code Code a z x bs place n h k = over_seam a z x bs place h k ∙ sym (append_assoc a bs x)
  over_code Data a z x bs place n h k = ap (λ (y : List ℕ). y ++ x) (sym (append-nil a))

  over_data : (t : Section) (b z x bs : List ℕ) (place n : ℕ) → place ≡ cond (is_data t) (length b) n → length bs ≡ length z
      → cond (is_data t) (put_at (b ++ (in_data t z ++ x)) place bs) (b ++ (in_data t z ++ x)) ≡ (b ++ in_data t bs) ++ x
  over_data Code b z x bs place n h k = ap (λ (y : List ℕ). y ++ x) (sym (append-nil b))
  over_data Data b z x bs place n h k = over_seam b z x bs place h k ∙ sym (append_assoc b bs x)

  pub goes_on : (g : Hole I) (gs : List (Hole I)) (code values code_after values_after bs : List ℕ) → Progress (g ∷ gs) code values
      → piece_bytes s labels (base code_size g.place.section + g.place.at) (piece_of g.gap) ≡ Ok bs
      → code_after ≡ cond (is_data g.place.section) code (put_at code g.place.at bs)
      → values_after ≡ cond (is_data g.place.section) (put_at values g.place.at bs) values
      → Progress gs code_after values_after
  goes_on g gs code values code_after values_after bs h e k l =
      let w = at_hole g gs code values h in
      let is = piece_is g gs code values w in
      let t : Section = w.p.section in
      let same : piece_bytes s labels (base code_size t + w.p.place) w.p.piece ≡ Ok bs = same_filling g gs code values w ∙ e in
      let bytes_size : length bs ≡ size w.p.piece = filled_size s labels (base code_size t + w.p.place) w.p.piece bs same in
      let z_size : length bs ≡ length (drafted w.p.piece) = bytes_size ∙ sym (drafted_size w.p.piece) in
      let code_length : length w.a + cond (is_data t) 0 (size w.p.piece) ≡ length (w.a ++ in_code t bs) =
      ap (λ (n : ℕ). length w.a + cond (is_data t) 0 n) (sym bytes_size) ∙ ap (λ (n : ℕ). length w.a + n) (sym (in_code_size t bs)) ∙ sym (length-append w.a (in_code t bs)) in
      let data_length : length w.b + cond (is_data t) (size w.p.piece) 0 ≡ length (w.b ++ in_data t bs) =
      ap (λ (n : ℕ). length w.b + cond (is_data t) n 0) (sym bytes_size) ∙ ap (λ (n : ℕ). length w.b + n) (sym (in_data_size t bs)) ∙ sym (length-append w.b (in_data t bs)) in
      record {
        rest = w.rest;
        a = w.a ++ in_code t bs;
        b = w.b ++ in_data t bs;
        code_is = k
            ∙ ap₂ (λ (u : Section) (n : ℕ). cond (is_data u) code (put_at code n bs)) (sym is.2) (sym is.3)
            ∙ ap (λ (x : List ℕ). cond (is_data t) x (put_at x w.p.place bs)) w.code_is
            ∙ over_code t w.a (drafted w.p.piece) (drafted_code w.rest) bs w.p.place (length w.b) w.place_is z_size;
        values_is = l
            ∙ ap₂ (λ (u : Section) (n : ℕ). cond (is_data u) (put_at values n bs) values) (sym is.2) (sym is.3)
            ∙ ap (λ (x : List ℕ). cond (is_data t) (put_at x w.p.place bs) x) w.values_is
            ∙ over_data t w.b (drafted w.p.piece) (drafted_data w.rest) bs w.p.place (length w.a) w.place_is z_size;
        holes_are = w.holes_are;
        in_order = subst (λ (m : ℕ). InOrder m (length (w.b ++ in_data t bs)) w.rest) code_length
            (subst (λ (n : ℕ). InOrder (length w.a + cond (is_data t) 0 (size w.p.piece)) n w.rest) data_length w.in_order);
        result = w.result
            ∙ ap (λ (x : Result (List ℕ) ListingWhy). behind w.a w.b (piece_before w.p.line t x (contents_of s code_size labels w.rest))) same
            ∙ joined_behind w.a w.b bs w.p.line t (contents_of s code_size labels w.rest);
      }

  -- ---- no hole is left

  all_known : (rest : List (Placed I)) (a b : List ℕ) → [] ≡ holes_of rest
      → behind a b (contents_of s code_size labels rest) ≡ Ok (record { code = a ++ drafted_code rest; values = b ++ drafted_data rest })
  all_known [] a b h = refl
  all_known (q ∷ qs) a b h = by q.piece refl (λ x y k. all_known qs x y k)
    where
      by : (x : Piece I) → q.piece ≡ x
          → ((y z : List ℕ) → [] ≡ holes_of qs → behind y z (contents_of s code_size labels qs) ≡ Ok (record { code = y ++ drafted_code qs; values = z ++ drafted_data qs }))
          → behind a b (contents_of s code_size labels (q ∷ qs)) ≡ Ok (record { code = a ++ drafted_code (q ∷ qs); values = b ++ drafted_data (q ∷ qs) })
      by (bytes bs) e go =
          let t : Section = q.section in
          let known : piece_bytes s labels (base code_size t + q.place) q.piece ≡ Ok bs = ap (piece_bytes s labels (base code_size t + q.place)) e in
          let no_hole : [] ≡ holes_of qs = h ∙ ap (λ (x : Piece I). holes q x ++ holes_of qs) e in
          ap (λ (x : Result (List ℕ) ListingWhy). behind a b (piece_before q.line t x (contents_of s code_size labels qs))) known
          ∙ joined_behind a b bs q.line t (contents_of s code_size labels qs)
          ∙ go (a ++ in_code t bs) (b ++ in_data t bs) no_hole
          ∙ ap₂ (λ (x y : List ℕ). Ok (record { code = x; values = y }))
          (append_assoc a (in_code t bs) (drafted_code qs) ∙ ap (λ (x : Piece I). a ++ (in_code t (drafted x) ++ drafted_code qs)) (sym e))
          (append_assoc b (in_data t bs) (drafted_data qs) ∙ ap (λ (x : Piece I). b ++ (in_data t (drafted x) ++ drafted_data qs)) (sym e))
      by (aimed i u) e go = let no : [] ≡ hole q (Aim i u) ∷ holes_of qs = h ∙ ap (λ (x : Piece I). holes q x ++ holes_of qs) e in cc
      by (address n) e go = let no : [] ≡ hole q (Address n) ∷ holes_of qs = h ∙ ap (λ (x : Piece I). holes q x ++ holes_of qs) e in cc
      by (mention n) e go = let no : [] ≡ hole q (Mention n) ∷ holes_of qs = h ∙ ap (λ (x : Piece I). holes q x ++ holes_of qs) e in cc

  pub all_filled : (code values : List ℕ) → Progress [] code values → contents_of s code_size labels ps ≡ Ok (record { code = code; values = values })
  all_filled code values h =
      h.result ∙ all_known h.rest h.a h.b h.holes_are
      ∙ ap₂ (λ (x y : List ℕ). Ok (record { code = x; values = y })) (sym h.code_is) (sym h.values_is)

-- ---- holes by their index

module _ {I : Type 0} where
  pub aimable_at : (h : I → Type 0) (hs : List (Hole I)) (i : ℕ) (d : Hole I) → i < length hs → AllAimable h hs → IsAimableGap h (get_or hs i d).gap
  aimable_at h [] i d l a = absurd (omega arith)
  aimable_at h (g ∷ gs) zero d l a = a.0
  aimable_at h (g ∷ gs) (suc i) d l a = aimable_at h gs i d (omega arith) a.1

  pub room_at : (c v : ℕ) (hs : List (Hole I)) (i : ℕ) (d : Hole I) → i < length hs → AllHaveRoom c v hs → HasRoom c v (get_or hs i d)
  room_at c v [] i d l a = absurd (omega arith)
  room_at c v (g ∷ gs) zero d l a = a.0
  room_at c v (g ∷ gs) (suc i) d l a = room_at c v gs i d (omega arith) a.1
