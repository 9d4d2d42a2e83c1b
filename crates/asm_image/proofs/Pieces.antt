-- The bodies of lines, put piece by piece.
use Rattle.std.proofs.Common.{◌≡◌, ℕ, zero, suc, ◌+◌, ◌≤◌, ◌∙◌, Bool, true, false, cond, List, [], ◌∷◌, ◌++◌, append-nil, append_assoc, Option, Some, None, Result, Err, length, map, replicate, take, refl, sym, ap, ap₂, subst, arith}
use Rattle.std.specs.Prelude.{OnOk, IfErr}
use Rattle.std.specs.Option.{option_or}
use Rattle.std.specs.Int.{byte_at, bytes_low_first}
use Rattle.std.proofs.lemmas.List.{map-append}
use Rattle.asm_image.specs.declared.draft.Draft.{Draft}
use Rattle.asm_image.specs.declared.draft.Gap.{Gap}
use Rattle.asm_image.specs.declared.draft.Gap.TheVariants.{Aim, Address, Mention}
use Rattle.asm_image.specs.declared.draft.Hole.{Hole}
use Rattle.asm_image.specs.declared.draft.Stop.{Stop}
use Rattle.asm_image.specs.declared.draft.Stop.TheVariants.{Refused, OutOfMemory}
use Rattle.asm_image.specs.Draft.{drafted, hole, holes, hole_at, IsAimablePiece, IsDraft, place_in, Puts, IsFull, with_pieces, with_body, IsPut}
use Rattle.asm_image.proofs.Layouts.{changed, grows_with, no_pieces, pieces_more, placed_one, plain_body, put_is, same_place}
use Rattle.asm_tokens.specs.declared.target.Target.{Target}
use Rattle.asm_tokens.specs.declared.target.Target.TheVariants as target
use Rattle.listing_model.specs.declared.directive.Directive.TheVariants as directive
use Rattle.listing_model.specs.declared.line.Body.{Body}
use Rattle.listing_model.specs.declared.line.Body.TheVariants as body
use Rattle.listing_model.specs.declared.line.Section.{Section}
use Rattle.listing_model.specs.declared.line.Section.TheVariants as section
use Rattle.listing_model.specs.Layout.{Piece, bytes, aimed, address, mention, Layout, size, is_data, here, number_piece, pieces_of, section_after, bss_of, entry_of, is_too_large}
use Rattle.listing_model.specs.Statements.{Statements}

-- the first bytes of a number
pub low_bytes : (n m i x : ℕ) → n ≤ m → take n (bytes_low_first i m x) ≡ bytes_low_first i n x
low_bytes zero m i x h = refl
low_bytes (suc n) zero i x h = absurd (omega arith)
low_bytes (suc n) (suc m) i x h = ap (λ (bs : List ℕ). byte_at i x ∷ bs) (low_bytes n m (suc i) x (omega arith))

no_more : (b : Bool) (x : ℕ) → x + cond b 0 0 ≡ x
no_more true x = omega arith
no_more false x = omega arith

module _ {I : Type 0} where
  -- ---- holes

  pub hole_put : (h : I → Type 0) (n : ℕ) (p : Piece I) (g : Gap I) (d e : Draft I) (l : Layout I) (r : Result (Unit {0}) Stop) → IsDraft h d l → IsAimablePiece h p
      → drafted p ≡ replicate (size p) 0 → holes (placed_one n l p) p ≡ hole (placed_one n l p) g ∷ []
      → OnOk r (Puts d e (replicate (size p) 0) (hole_at n d g ∷ [])) → IfErr r (IsFull (place_in d) (size p)) → IsPut h r e (with_pieces n (p ∷ []) l)
  hole_put h n p g d e l r is a zeros gap_is ok full =
      let same : hole_at n d g ∷ [] ≡ holes (placed_one n l p) p =
      ap₂ (λ (t : Section) (x : ℕ). record { line = n; place = record { section = t; at = x }; gap = g } ∷ []) is.section (same_place h d l is) ∙ sym gap_is in
      put_is h n p d e l r is a
      (subst (λ (bs : List ℕ). OnOk r (Puts d e bs (holes (placed_one n l p) p))) (sym zeros)
      (subst (λ (hs : List (Hole I)). OnOk r (Puts d e (replicate (size p) 0) hs)) same ok))
      full

  -- ---- bodies of one piece

  -- a body that leaves one piece and changes nothing else
  pub one_piece_body : (s : Statements I) (n : ℕ) (l : Layout I) (b : Body I) (p : Piece I) → section_after l.section b ≡ l.section → bss_of b ≡ 0 → entry_of b ≡ None
      → pieces_of s b (here l) ≡ p ∷ [] → with_body s n l b ≡ with_pieces n (p ∷ []) l
  one_piece_body s n l b p t z e q = plain_body s n l b t z e ∙ ap (λ (ps : List (Piece I)). with_pieces n ps l) q

  pub bytes_body : (h : I → Type 0) (s : Statements I) (n : ℕ) (l : Layout I) (b : Body I) (bs cs : List ℕ) (count : ℕ) (d e : Draft I) (r : Result (Unit {0}) Stop)
      → IsDraft h d l → section_after l.section b ≡ l.section → bss_of b ≡ 0 → entry_of b ≡ None → pieces_of s b (here l) ≡ bytes bs ∷ []
      → cs ≡ bs → count ≡ length bs → OnOk r (Puts d e cs []) → IfErr r (IsFull (place_in d) count) → IsPut h r e (with_body s n l b)
  bytes_body h s n l b bs cs count d e r is t z o q same c ok full =
      subst (IsPut h r e) (sym (one_piece_body s n l b (bytes bs) t z o q))
      (put_is h n (bytes bs) d e l r is tt
      (subst (λ (xs : List ℕ). OnOk r (Puts d e xs [])) same ok)
      (subst (λ (x : ℕ). IfErr r (IsFull (place_in d) x)) c full))

  pub nothing_put : (h : I → Type 0) (s : Statements I) (n : ℕ) (d : Draft I) (l : Layout I) → IsDraft h d l → IsDraft h d (with_body s n l body.Nothing)
  nothing_put h s n d l is =
      subst (IsDraft h d) (sym (plain_body s n l body.Nothing refl refl refl ∙ no_pieces n l)) is

  pub aimed_put : (h : I → Type 0) (s : Statements I) (n : ℕ) (i : I) (t : Target) (d e : Draft I) (l : Layout I) (r : Result (Unit {0}) Stop) → IsDraft h d l → h i
      → OnOk r (Puts d e (replicate 4 0) (hole_at n d (Aim i t) ∷ [])) → IfErr r (IsFull (place_in d) 4) → IsPut h r e (with_body s n l (body.Aimed i t))
  aimed_put h s n i t d e l r is a ok full =
      subst (IsPut h r e) (sym (one_piece_body s n l (body.Aimed i t) (aimed i t) refl refl refl refl))
      (hole_put h n (aimed i t) (Aim i t) d e l r is a refl refl ok full)

  -- ---- sections

  pub code_put : (h : I → Type 0) (s : Statements I) (n : ℕ) (d : Draft I) (l : Layout I) → IsDraft h d l
      → IsDraft h (record d { section = section.Code }) (with_body s n l (body.Directive directive.Code))
  code_put h s n d l is = changed h d (record d { section = section.Code }) l (with_body s n l (body.Directive directive.Code)) is (record {
    pieces = append-nil l.pieces;
    code_size = no_more (is_data l.section) l.code_size;
    data_size = no_more (is_data l.section) l.data_size;
    code = refl;
    values = refl;
    holes_are = refl;
    bss = is.bss ∙ omega arith;
    section = refl;
    labels = is.labels ∙ sym (append-nil l.labels);
    entry = is.entry ∙ first_entry l.entry;
  })
    where
      first_entry : (o : Option (List ℕ)) → o ≡ option_or o None
      first_entry None = refl
      first_entry (Some x) = refl

  pub data_put : (h : I → Type 0) (s : Statements I) (n : ℕ) (d : Draft I) (l : Layout I) → IsDraft h d l
      → IsDraft h (record d { section = section.Data }) (with_body s n l (body.Directive directive.Data))
  data_put h s n d l is = changed h d (record d { section = section.Data }) l (with_body s n l (body.Directive directive.Data)) is (record {
    pieces = append-nil l.pieces;
    code_size = no_more (is_data l.section) l.code_size;
    data_size = no_more (is_data l.section) l.data_size;
    code = refl;
    values = refl;
    holes_are = refl;
    bss = is.bss ∙ omega arith;
    section = refl;
    labels = is.labels ∙ sym (append-nil l.labels);
    entry = is.entry ∙ first_entry l.entry;
  })
    where
      first_entry : (o : Option (List ℕ)) → o ≡ option_or o None
      first_entry None = refl
      first_entry (Some x) = refl

  -- ---- the entry

  abbrev pub with_entry : Layout I → List ℕ → Layout I
  with_entry l name = record l { entry = Some name }

  pub entry_put : (h : I → Type 0) (s : Statements I) (n : ℕ) (name : List ℕ) (d f e : Draft I) (l : Layout I) (r : Result (Unit {0}) Stop) → IsDraft h d l
      → d.entry ≡ None → f.code.items ≡ d.code.items → f.values.items ≡ d.values.items → f.holes.items ≡ d.holes.items → f.bss ≡ d.bss → f.section ≡ d.section
      → f.labels ≡ d.labels → f.entry ≡ Some name
      → OnOk r (Puts f e (replicate 0 0) (hole_at n f (Mention name) ∷ [])) → IfErr r (IsFull (place_in f) 0)
      → IsPut h r e (with_body s n l (body.Directive (directive.Entry name)))
  entry_put h s n name d f e l r is none c v hs b t ls en ok full =
      let l1 : Layout I = with_entry l name in
      let is1 : IsDraft h f l1 = changed h d f l l1 is (record {
        pieces = refl;
        code_size = refl;
        data_size = refl;
        code = c;
        values = v;
        holes_are = hs;
        bss = b ∙ is.bss;
        section = t ∙ is.section;
        labels = ls ∙ is.labels;
        entry = en;
      }) in
      let labels : l.labels ≡ l.labels ++ [] = sym (append-nil l.labels) in
      let bss : l.bss_size ≡ l.bss_size + 0 = omega arith in
      let entry : Some name ≡ option_or l.entry (Some name) = ap (λ (o : Option (List ℕ)). option_or o (Some name)) (sym none ∙ is.entry) in
      let same : with_pieces n (mention name ∷ []) l1 ≡ with_body s n l (body.Directive (directive.Entry name)) =
      λ i. record (with_pieces n (mention name ∷ []) l1) { labels = labels i; bss_size = bss i; entry = entry i } in
      subst (IsPut h r e) same (hole_put h n (mention name) (Mention name) f e l1 r is1 tt refl refl ok full)

  -- ---- numbers one by one

  pub address_put : (h : I → Type 0) (n count x : ℕ) (cs : List ℕ) (width : ℕ) (d e : Draft I) (l : Layout I) (r : Result (Unit {0}) Stop) → IsDraft h d l
      → cs ≡ bytes_low_first 0 count x → width ≡ length (bytes_low_first 0 count x)
      → OnOk r (Puts d e cs []) → IfErr r (IsFull (place_in d) width)
      → IsPut h r e (with_pieces n (number_piece count (target.Address x) ∷ []) l)
  address_put h n count x cs width d e l r is same c ok full =
      put_is h n (bytes (bytes_low_first 0 count x)) d e l r is tt
      (subst (λ (xs : List ℕ). OnOk r (Puts d e xs [])) same ok)
      (subst (λ (y : ℕ). IfErr r (IsFull (place_in d) y)) c full)

  pub label_put : (h : I → Type 0) (n count : ℕ) (name : List ℕ) (d e : Draft I) (l : Layout I) (r : Result (Unit {0}) Stop) → IsDraft h d l
      → OnOk r (Puts d e (replicate 8 0) (hole_at n d (Address name) ∷ [])) → IfErr r (IsFull (place_in d) 8)
      → IsPut h r e (with_pieces n (number_piece count (target.Label name) ∷ []) l)
  label_put h n count name d e l r is ok full = hole_put h n (address name) (Address name) d e l r is tt refl refl ok full

  -- the numbers so far, and one more
  pub number_more : (h : I → Type 0) (n count : ℕ) (ts : List Target) (t : Target) (e : Draft I) (l : Layout I)
      → IsDraft h e (with_pieces n (number_piece count t ∷ []) (with_pieces n (map (number_piece count) ts) l))
      → IsDraft h e (with_pieces n (map (number_piece count) (ts ++ t ∷ [])) l)
  number_more h n count ts t e l is =
      subst (IsDraft h e)
      (sym (pieces_more n (map (number_piece count) ts) (number_piece count t) l)
      ∙ ap (λ (ps : List (Piece I)). with_pieces n ps l) (sym (map-append (number_piece count) ts (t ∷ []))))
      is

  -- where there is no room for it, there is none for the whole list
  pub number_refused : (h : I → Type 0) (n count : ℕ) (ts us all : List Target) (t : Target) (e : Draft I) (l : Layout I) (stop : Stop) → ts ++ t ∷ us ≡ all
      → IsPut h (Err stop) e (with_pieces n (number_piece count t ∷ []) (with_pieces n (map (number_piece count) ts) l))
      → IsPut h (Err stop) e (with_pieces n (map (number_piece count) all) l)
  number_refused h n count ts us all t e l (Refused why) q put =
      let f : Target → Piece I = number_piece count in
      let split : map f (ts ++ t ∷ []) ++ map f us ≡ map f all =
      sym (map-append f (ts ++ t ∷ []) us) ∙ ap (map f) (append_assoc ts (t ∷ []) us ∙ q) in
      let first : with_pieces n (f t ∷ []) (with_pieces n (map f ts) l) ≡ with_pieces n (map f (ts ++ t ∷ [])) l =
      sym (pieces_more n (map f ts) (f t) l) ∙ ap (λ (ps : List (Piece I)). with_pieces n ps l) (sym (map-append f ts (t ∷ []))) in (
        put.0,
        subst (λ (ps : List (Piece I)). is_too_large (with_pieces n ps l) ≡ true) split
            (grows_with n (map f (ts ++ t ∷ [])) (map f us) l (sym (ap is_too_large first) ∙ put.1)),
      )
  number_refused h n count ts us all t e l OutOfMemory q put = tt
