-- Layouts with pieces more, and drafts that hold them.
use Rattle.std.proofs.Common.{◌≡◌, ℕ, ◌+◌, ◌^◌, ◌<◌, ◌≤◌, ◌∙◌, ◌||◌, nat_lt, Bool, true, false, cond, List, [], ◌∷◌, ◌++◌, append_assoc, append-nil, Option, Some, None, Result, Ok, Err, length, length-append, refl, sym, ap, ap₂, subst, arith, inl, inr}
use Rattle.std.specs.Prelude.{sum_by, OnOk, IfErr}
use Rattle.std.specs.Option.{option_or}
use Rattle.std.proofs.lemmas.List.Sums.{sum_by-append, sum_by-cons}
use Rattle.std.proofs.lemmas.Bool.{cond-true, cond-false, or_cases, or_from, or_left, or_right, lt-ltb, le-ltb, ltb-true}
use Rattle.asm_image.specs.declared.draft.Draft.{Draft}
use Rattle.asm_image.specs.declared.draft.Hole.{Hole}
use Rattle.asm_image.specs.declared.draft.Stop.{Stop}
use Rattle.asm_image.specs.declared.draft.Stop.TheVariants.{Refused, OutOfMemory}
use Rattle.asm_image.specs.Draft.{drafted, in_code, in_data, drafted_code, drafted_data, holes, holes_of, InOrder, IsAimablePiece, AreAimable, IsDraft, place_in, Puts, IsFull, with_pieces, with_body, IsPut}
use Rattle.listing_model.specs.declared.line.Body.{Body}
use Rattle.listing_model.specs.declared.line.Section.{Section}
use Rattle.listing_model.specs.declared.line.Section.TheVariants.{Code, Data}
use Rattle.listing_model.specs.Layout.{Piece, bytes, aimed, address, mention, Placed, Layout, size, is_data, here, placed_from, pieces_of, section_after, bss_of, entry_of, is_too_large}
use Rattle.listing_model.specs.Statements.{Statements}

-- ---- sums and choices

code_more : (b : Bool) (x m n : ℕ) → x + cond b 0 (m + n) ≡ (x + cond b 0 m) + cond b 0 (n + 0)
code_more true x m n = omega arith
code_more false x m n = omega arith

data_more : (b : Bool) (x m n : ℕ) → x + cond b (m + n) 0 ≡ (x + cond b m 0) + cond b (n + 0) 0
data_more true x m n = omega arith
data_more false x m n = omega arith

either_more : (b : Bool) (d c m : ℕ) → cond b (d + cond b m 0) (c + cond b 0 m) ≡ cond b d c + m
either_more true d c m = refl
either_more false d c m = refl

low_first : (b : Bool) (x m n : ℕ) → x + cond b 0 m ≤ x + cond b 0 (m + n)
low_first true x m n = omega arith
low_first false x m n = omega arith

low_second : (b : Bool) (x m n : ℕ) → x + cond b m 0 ≤ x + cond b (m + n) 0
low_second true x m n = omega arith
low_second false x m n = omega arith

pub first_none : {A : Type 0} (o : Option A) → option_or o None ≡ o
first_none None = refl
first_none (Some x) = refl

module _ {I : Type 0} where
  -- ---- pieces behind others

  pub code_append : (ps qs : List (Placed I)) → drafted_code (ps ++ qs) ≡ drafted_code ps ++ drafted_code qs
  code_append [] qs = refl
  code_append (p ∷ ps) qs =
      ap (λ (xs : List ℕ). in_code p.section (drafted p.piece) ++ xs) (code_append ps qs)
      ∙ sym (append_assoc (in_code p.section (drafted p.piece)) (drafted_code ps) (drafted_code qs))

  pub data_append : (ps qs : List (Placed I)) → drafted_data (ps ++ qs) ≡ drafted_data ps ++ drafted_data qs
  data_append [] qs = refl
  data_append (p ∷ ps) qs =
      ap (λ (xs : List ℕ). in_data p.section (drafted p.piece) ++ xs) (data_append ps qs)
      ∙ sym (append_assoc (in_data p.section (drafted p.piece)) (drafted_data ps) (drafted_data qs))

  pub holes_append : (ps qs : List (Placed I)) → holes_of (ps ++ qs) ≡ holes_of ps ++ holes_of qs
  holes_append [] qs = refl
  holes_append (p ∷ ps) qs =
      ap (λ (xs : List (Hole I)). holes p p.piece ++ xs) (holes_append ps qs) ∙ sym (append_assoc (holes p p.piece) (holes_of ps) (holes_of qs))

  pub aimable_append : (h : I → Type 0) (ps : List (Placed I)) (q : Placed I) → AreAimable h ps → IsAimablePiece h q.piece → AreAimable h (ps ++ (q ∷ []))
  aimable_append h [] q a b = (b, tt)
  aimable_append h (p ∷ ps) q a b = (a.0, aimable_append h ps q a.1 b)

  pub drafted_size : (p : Piece I) → length (drafted p) ≡ size p
  drafted_size (bytes bs) = refl
  drafted_size (aimed i t) = refl
  drafted_size (address n) = refl
  drafted_size (mention n) = refl

  code_bytes : (s : Section) (p : Piece I) → length (in_code s (drafted p)) ≡ cond (is_data s) 0 (size p)
  code_bytes Code p = drafted_size p
  code_bytes Data p = refl

  data_bytes : (s : Section) (p : Piece I) → length (in_data s (drafted p)) ≡ cond (is_data s) (size p) 0
  data_bytes Code p = refl
  data_bytes Data p = drafted_size p

  in_order_append : (c d : ℕ) (ps : List (Placed I)) (q : Placed I) → InOrder c d ps
      → q.place ≡ cond (is_data q.section) (d + length (drafted_data ps)) (c + length (drafted_code ps)) → InOrder c d (ps ++ (q ∷ []))
  in_order_append c d [] q h e =
      let zero_c : c + 0 ≡ c = omega arith in
      let zero_d : d + 0 ≡ d = omega arith in
      (e ∙ ap₂ (λ (x y : ℕ). cond (is_data q.section) x y) zero_d zero_c, tt)
  in_order_append c d (p ∷ ps) q h e =
      let x : ℕ = cond (is_data p.section) 0 (size p.piece) in
      let y : ℕ = cond (is_data p.section) (size p.piece) 0 in
      let more_c : c + length (drafted_code (p ∷ ps)) ≡ (c + x) + length (drafted_code ps) =
      omega (arith, length-append (in_code p.section (drafted p.piece)) (drafted_code ps), code_bytes p.section p.piece) in
      let more_d : d + length (drafted_data (p ∷ ps)) ≡ (d + y) + length (drafted_data ps) =
      omega (arith, length-append (in_data p.section (drafted p.piece)) (drafted_data ps), data_bytes p.section p.piece) in
      (h.0, in_order_append (c + x) (d + y) ps q h.1 (e ∙ ap₂ (λ (u v : ℕ). cond (is_data q.section) u v) more_d more_c))

  -- ---- the next byte

  pub same_place : (h : I → Type 0) (d : Draft I) (l : Layout I) → IsDraft h d l → place_in d ≡ here l
  same_place h d l is =
      ap₂ (λ (x y : List ℕ). cond (is_data d.section) (length x) (length y)) is.values is.code
      ∙ ap (λ (s : Section). cond (is_data s) (length (drafted_data l.pieces)) (length (drafted_code l.pieces))) is.section
      ∙ ap₂ (λ (x y : ℕ). cond (is_data l.section) x y) (sym is.data_size) (sym is.code_size)

  abbrev pub placed_one : ℕ → Layout I → Piece I → Placed I
  placed_one n l p = record { line = n; section = l.section; place = here l; piece = p }

  -- ---- one piece more

  pub one_piece : (h : I → Type 0) (n : ℕ) (p : Piece I) (d e : Draft I) (l : Layout I) → IsDraft h d l → IsAimablePiece h p
      → Puts d e (drafted p) (holes (placed_one n l p) p) → IsDraft h e (with_pieces n (p ∷ []) l)
  one_piece h n p d e l is a puts =
      let q : Placed I = placed_one n l p in
      let tail_code : in_code l.section (drafted p) ≡ drafted_code (q ∷ []) = sym (append-nil (in_code l.section (drafted p))) in
      let tail_data : in_data l.section (drafted p) ≡ drafted_data (q ∷ []) = sym (append-nil (in_data l.section (drafted p))) in
      let tail_holes : holes q p ≡ holes_of (q ∷ []) = sym (append-nil (holes q p)) in
      let one : sum_by size (p ∷ []) ≡ size p = omega arith in
      let place : q.place ≡ cond (is_data q.section) (0 + length (drafted_data l.pieces)) (0 + length (drafted_code l.pieces)) =
      ap₂ (λ (x y : ℕ). cond (is_data l.section) x y) (is.data_size ∙ omega arith) (is.code_size ∙ omega arith) in
      record {
        code = puts.code ∙ ap₂ (λ (xs : List ℕ) (s : Section). xs ++ in_code s (drafted p)) is.code is.section
            ∙ ap (λ (xs : List ℕ). drafted_code l.pieces ++ xs) tail_code ∙ sym (code_append l.pieces (q ∷ []));
        values = puts.values ∙ ap₂ (λ (xs : List ℕ) (s : Section). xs ++ in_data s (drafted p)) is.values is.section
            ∙ ap (λ (xs : List ℕ). drafted_data l.pieces ++ xs) tail_data ∙ sym (data_append l.pieces (q ∷ []));
        code_size = ap₂ (λ (x y : ℕ). x + y) is.code_size
            (ap (λ (m : ℕ). cond (is_data l.section) 0 m) one ∙ sym (code_bytes l.section p) ∙ ap length tail_code)
            ∙ sym (length-append (drafted_code l.pieces) (drafted_code (q ∷ []))) ∙ sym (ap length (code_append l.pieces (q ∷ [])));
        data_size = ap₂ (λ (x y : ℕ). x + y) is.data_size
            (ap (λ (m : ℕ). cond (is_data l.section) m 0) one ∙ sym (data_bytes l.section p) ∙ ap length tail_data)
            ∙ sym (length-append (drafted_data l.pieces) (drafted_data (q ∷ []))) ∙ sym (ap length (data_append l.pieces (q ∷ [])));
        bss = puts.bss ∙ is.bss;
        section = puts.section ∙ is.section;
        labels = puts.labels ∙ is.labels;
        entry = puts.entry ∙ is.entry;
        holes = puts.holes ∙ ap (λ (xs : List (Hole I)). xs ++ holes q p) is.holes
            ∙ ap (λ (xs : List (Hole I)). holes_of l.pieces ++ xs) tail_holes ∙ sym (holes_append l.pieces (q ∷ []));
        in_order = in_order_append 0 0 l.pieces q is.in_order place;
        aimable = aimable_append h l.pieces q is.aimable a;
      }

  -- ---- pieces one by one

  -- what the lines so far leave, with other pieces and sizes
  abbrev resized : Layout I → List (Placed I) → ℕ → ℕ → Layout I
  resized l ps c d = record l { pieces = ps; code_size = c; data_size = d }

  placed_more : (n : ℕ) (s : Section) (place : ℕ) (ps : List (Piece I)) (q : Piece I)
      → placed_from n s place (ps ++ (q ∷ [])) ≡ placed_from n s place ps ++ (record { line = n; section = s; place = place + sum_by size ps; piece = q } ∷ [])
  placed_more n s place [] q =
      let e : place ≡ place + sum_by (size {I = I}) [] = omega arith in
      ap (λ (x : ℕ). record { line = n; section = s; place = x; piece = q } ∷ []) e
  placed_more n s place (p ∷ ps) q =
      let e : (place + size p) + sum_by size ps ≡ place + sum_by size (p ∷ ps) = omega (arith, sum_by-cons size p ps) in
      ap (λ (xs : List (Placed I)). record { line = n; section = s; place = place; piece = p } ∷ xs)
      (placed_more n s (place + size p) ps q
      ∙ ap (λ (x : ℕ). placed_from n s (place + size p) ps ++ (record { line = n; section = s; place = x; piece = q } ∷ [])) e)

  sum_more : (ps : List (Piece I)) (q : Piece I) → sum_by size (ps ++ (q ∷ [])) ≡ sum_by size ps + size q
  sum_more ps q = omega (arith, sum_by-append size ps (q ∷ []))

  here_after : (n : ℕ) (ps : List (Piece I)) (l : Layout I) → here (with_pieces n ps l) ≡ here l + sum_by size ps
  here_after n ps l = either_more (is_data l.section) l.data_size l.code_size (sum_by size ps)

  pub pieces_more : (n : ℕ) (ps : List (Piece I)) (q : Piece I) (l : Layout I)
      → with_pieces n (ps ++ (q ∷ [])) l ≡ with_pieces n (q ∷ []) (with_pieces n ps l)
  pieces_more n ps q l =
      let one : sum_by size (q ∷ []) ≡ size q + 0 = omega arith in
      let list : l.pieces ++ placed_from n l.section (here l) (ps ++ (q ∷ []))
      ≡ (l.pieces ++ placed_from n l.section (here l) ps) ++ (record { line = n; section = l.section; place = here (with_pieces n ps l); piece = q } ∷ []) =
      ap (λ (xs : List (Placed I)). l.pieces ++ xs)
      (placed_more n l.section (here l) ps q
      ∙ ap (λ (x : ℕ). placed_from n l.section (here l) ps ++ (record { line = n; section = l.section; place = x; piece = q } ∷ [])) (sym (here_after n ps l)))
      ∙ sym (append_assoc l.pieces (placed_from n l.section (here l) ps) (record { line = n; section = l.section; place = here (with_pieces n ps l); piece = q } ∷ [])) in
      let code : l.code_size + cond (is_data l.section) 0 (sum_by size (ps ++ (q ∷ [])))
      ≡ (l.code_size + cond (is_data l.section) 0 (sum_by size ps)) + cond (is_data l.section) 0 (sum_by size (q ∷ [])) =
      ap (λ (x : ℕ). l.code_size + cond (is_data l.section) 0 x) (sum_more ps q)
      ∙ code_more (is_data l.section) l.code_size (sum_by size ps) (size q)
      ∙ ap (λ (x : ℕ). (l.code_size + cond (is_data l.section) 0 (sum_by size ps)) + cond (is_data l.section) 0 x) (sym one) in
      let values : l.data_size + cond (is_data l.section) (sum_by size (ps ++ (q ∷ []))) 0
      ≡ (l.data_size + cond (is_data l.section) (sum_by size ps) 0) + cond (is_data l.section) (sum_by size (q ∷ [])) 0 =
      ap (λ (x : ℕ). l.data_size + cond (is_data l.section) x 0) (sum_more ps q)
      ∙ data_more (is_data l.section) l.data_size (sum_by size ps) (size q)
      ∙ ap (λ (x : ℕ). (l.data_size + cond (is_data l.section) (sum_by size ps) 0) + cond (is_data l.section) x 0) (sym one) in
      λ i. resized l (list i) (code i) (values i)

  -- ---- too large

  too_large_code : (l : Layout I) → 2 ^ 24 < l.code_size → is_too_large l ≡ true
  too_large_code l h = or_left (nat_lt (2 ^ 24) l.code_size) _ (lt-ltb (2 ^ 24) l.code_size h)

  too_large_data : (l : Layout I) → 2 ^ 24 < l.data_size → is_too_large l ≡ true
  too_large_data l h = or_right (nat_lt (2 ^ 24) l.code_size) _ (or_left (nat_lt (2 ^ 24) l.data_size) _ (lt-ltb (2 ^ 24) l.data_size h))

  too_large_bss : (l : Layout I) → 2 ^ 30 < l.bss_size → is_too_large l ≡ true
  too_large_bss l h =
      or_right (nat_lt (2 ^ 24) l.code_size) _ (or_right (nat_lt (2 ^ 24) l.data_size) (nat_lt (2 ^ 30) l.bss_size) (lt-ltb (2 ^ 30) l.bss_size h))

  pub not_too_large : (l : Layout I) → l.code_size ≤ 2 ^ 24 → l.data_size ≤ 2 ^ 24 → l.bss_size ≤ 2 ^ 30 → is_too_large l ≡ false
  not_too_large l c d b =
      or_from (nat_lt (2 ^ 24) l.code_size) _ (le-ltb (2 ^ 24) l.code_size c)
      (or_from (nat_lt (2 ^ 24) l.data_size) _ (le-ltb (2 ^ 24) l.data_size d) (le-ltb (2 ^ 30) l.bss_size b))

  -- a layout that is no smaller in each part is too large where the other is
  pub grows : (l m : Layout I) → l.code_size ≤ m.code_size → l.data_size ≤ m.data_size → l.bss_size ≤ m.bss_size → is_too_large l ≡ true → is_too_large m ≡ true
  grows l m c d b h = elim (or_cases (nat_lt (2 ^ 24) l.code_size) (nat_lt (2 ^ 24) l.data_size || nat_lt (2 ^ 30) l.bss_size) h) [
    | inl e ↦ (let k : 2 ^ 24 < l.code_size = ltb-true (2 ^ 24) l.code_size e in too_large_code m (omega arith))
    | inr e ↦ (elim (or_cases (nat_lt (2 ^ 24) l.data_size) (nat_lt (2 ^ 30) l.bss_size) e) [
      | inl f ↦ (let k : 2 ^ 24 < l.data_size = ltb-true (2 ^ 24) l.data_size f in too_large_data m (omega arith))
      | inr f ↦ (let k : 2 ^ 30 < l.bss_size = ltb-true (2 ^ 30) l.bss_size f in too_large_bss m (omega arith))
    ])
  ]

  sum_append : (ps qs : List (Piece I)) → sum_by size (ps ++ qs) ≡ sum_by size ps + sum_by size qs
  sum_append ps qs = sum_by-append size ps qs

  pub grows_with : (n : ℕ) (ps qs : List (Piece I)) (l : Layout I) → is_too_large (with_pieces n ps l) ≡ true → is_too_large (with_pieces n (ps ++ qs) l) ≡ true
  grows_with n ps qs l h =
      let b : Bool = is_data l.section in
      let x : ℕ = sum_by size ps in
      let y : ℕ = sum_by size qs in
      let c : l.code_size + cond b 0 x ≤ l.code_size + cond b 0 (sum_by size (ps ++ qs)) =
      subst (λ (k : ℕ). l.code_size + cond b 0 x ≤ l.code_size + cond b 0 k) (sym (sum_append ps qs)) (low_first b l.code_size x y) in
      let d : l.data_size + cond b x 0 ≤ l.data_size + cond b (sum_by size (ps ++ qs)) 0 =
      subst (λ (k : ℕ). l.data_size + cond b x 0 ≤ l.data_size + cond b k 0) (sym (sum_append ps qs)) (low_second b l.data_size x y) in
      grows (with_pieces n ps l) (with_pieces n (ps ++ qs) l) c d (omega arith) h

  too_large_piece : (n : ℕ) (p : Piece I) (l : Layout I) → 2 ^ 24 < here l + size p → is_too_large (with_pieces n (p ∷ []) l) ≡ true
  too_large_piece n p l h = go (is_data l.section) refl
    where
      go : (b : Bool) → is_data l.section ≡ b → is_too_large (with_pieces n (p ∷ []) l) ≡ true
      go true e =
          let same : here l ≡ l.data_size = cond-true (is_data l.section) _ _ e in
          let more : cond (is_data l.section) (sum_by size (p ∷ [])) 0 ≡ sum_by size (p ∷ []) = cond-true (is_data l.section) _ _ e in
          too_large_data (with_pieces n (p ∷ []) l) (omega arith)
      go false e =
          let same : here l ≡ l.code_size = cond-false (is_data l.section) _ _ e in
          let more : cond (is_data l.section) 0 (sum_by size (p ∷ [])) ≡ sum_by size (p ∷ []) = cond-false (is_data l.section) _ _ e in
          too_large_code (with_pieces n (p ∷ []) l) (omega arith)

  -- a piece that is put, or for which there is no room
  pub put_is : (h : I → Type 0) (n : ℕ) (p : Piece I) (d e : Draft I) (l : Layout I) (r : Result (Unit {0}) Stop) → IsDraft h d l → IsAimablePiece h p
      → OnOk r (Puts d e (drafted p) (holes (placed_one n l p) p)) → IfErr r (IsFull (place_in d) (size p)) → IsPut h r e (with_pieces n (p ∷ []) l)
  put_is h n p d e l (Ok u) is a ok full = one_piece h n p d e l is a ok
  put_is h n p d e l (Err (Refused why)) is a ok full =
      (full.0, too_large_piece n p l (subst (λ (x : ℕ). 2 ^ 24 < x + size p) (same_place h d l is) full.1))
  put_is h n p d e l (Err OutOfMemory) is a ok full = tt

  -- ---- the body of a line

  pub plain_body : (s : Statements I) (n : ℕ) (l : Layout I) (b : Body I) → section_after l.section b ≡ l.section → bss_of b ≡ 0 → entry_of b ≡ None
      → with_body s n l b ≡ with_pieces n (pieces_of s b (here l)) l
  plain_body s n l b h k e =
      let labels : l.labels ++ [] ≡ l.labels = append-nil l.labels in
      let bss : l.bss_size + bss_of b ≡ l.bss_size = omega arith in
      let entry : option_or l.entry (entry_of b) ≡ l.entry = ap (option_or l.entry) e ∙ first_none l.entry in
      λ i. record (with_pieces n (pieces_of s b (here l)) l) { labels = labels i; section = h i; bss_size = bss i; entry = entry i }

  pub no_pieces : (n : ℕ) (l : Layout I) → with_pieces n [] l ≡ l
  no_pieces n l =
      let pieces : l.pieces ++ [] ≡ l.pieces = append-nil l.pieces in
      let code : l.code_size + cond (is_data l.section) 0 0 ≡ l.code_size = either_zero (is_data l.section) l.code_size in
      let values : l.data_size + cond (is_data l.section) 0 0 ≡ l.data_size = either_zero (is_data l.section) l.data_size in
      λ i. record l { pieces = pieces i; code_size = code i; data_size = values i }
    where
      either_zero : (b : Bool) (x : ℕ) → x + cond b 0 0 ≡ x
      either_zero true x = omega arith
      either_zero false x = omega arith

  -- ---- what changes beside the pieces

  pub record IsSame (d e : Draft I) (l m : Layout I) : Type 0 where
    pub pieces : m.pieces ≡ l.pieces
    pub code_size : m.code_size ≡ l.code_size
    pub data_size : m.data_size ≡ l.data_size
    pub code : e.code.items ≡ d.code.items
    pub values : e.values.items ≡ d.values.items
    pub holes_are : e.holes.items ≡ d.holes.items
    pub bss : e.bss ≡ m.bss_size
    pub section : e.section ≡ m.section
    pub labels : e.labels ≡ m.labels
    pub entry : e.entry ≡ m.entry

  pub changed : (h : I → Type 0) (d e : Draft I) (l m : Layout I) → IsDraft h d l → IsSame d e l m → IsDraft h e m
  changed h d e l m is same = record {
    code = same.code ∙ is.code ∙ ap drafted_code (sym same.pieces);
    values = same.values ∙ is.values ∙ ap drafted_data (sym same.pieces);
    code_size = same.code_size ∙ is.code_size ∙ ap (λ (ps : List (Placed I)). length (drafted_code ps)) (sym same.pieces);
    data_size = same.data_size ∙ is.data_size ∙ ap (λ (ps : List (Placed I)). length (drafted_data ps)) (sym same.pieces);
    bss = same.bss;
    section = same.section;
    labels = same.labels;
    entry = same.entry;
    holes = same.holes_are ∙ is.holes ∙ ap holes_of (sym same.pieces);
    in_order = subst (InOrder 0 0) (sym same.pieces) is.in_order;
    aimable = subst (AreAimable h) (sym same.pieces) is.aimable;
  }
