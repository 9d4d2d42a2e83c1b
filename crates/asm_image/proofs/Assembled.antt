-- Lines laid out one after the other, and the file made of them.
use Rattle.std.proofs.Common.{◌≡◌, ℕ, suc, ◌+◌, ◌<◌, ◌≤◌, ◌==◌, ◌^◌, ◌∙◌, nat_lt, true, false, cond, List, [], ◌∷◌, ◌++◌, Option, Some, None, Result, Ok, Err, drop, length, length-append, slice_range, refl, sym, ap, ap₂, subst, arith, inl, inr}
use Rattle.std.specs.Prelude.{option_and_then, unwrap_or, IfSome}
use Rattle.std.specs.Global.{Vec}
use Rattle.std.specs.Str.{IsCharBoundary}
use Rattle.std.proofs.lemmas.Bool.{cases_lt, cond-true, cond-false, cond_both, lt-ltb, le-ltb}
use Rattle.std.proofs.lemmas.List.{drop_all}
use Rattle.asm_image.specs.Assembly.{ArePartsOf, IsDrafted, IsMade, IsStop, stopped_at}
use Rattle.asm_image.specs.declared.assembly.AsmError.{AsmError}
use Rattle.asm_image.specs.declared.assembly.AsmError.TheVariants as error
use Rattle.asm_image.specs.declared.draft.Draft.{Draft}
use Rattle.asm_image.specs.declared.draft.Hole.{Hole}
use Rattle.asm_image.specs.declared.draft.Stop.{Stop}
use Rattle.asm_image.specs.declared.draft.Stop.TheVariants.{Refused, OutOfMemory}
use Rattle.asm_image.specs.Draft.{drafted, in_code, in_data, drafted_code, drafted_data, holes, holes_of, InOrder, IsAimablePiece, AreAimable, IsDraft, IsEmptyDraft, IsPlaced, IsSized}
use Rattle.asm_image.specs.Filling.{AllHaveRoom, AllAimable}
use Rattle.asm_image.specs.TextLines.{IsLine, start_behind}
use Rattle.asm_image.proofs.Layouts.{drafted_size}
use Rattle.asm_tokens.specs.declared.fault.AsmFault.{AsmFault}
use Rattle.asm_tokens.specs.declared.target.Target.{Target}
use Rattle.listing_model.specs.declared.directive.Directive.{Directive}
use Rattle.listing_model.specs.declared.directive.Directive.TheVariants as directive
use Rattle.listing_model.specs.declared.directive.DirectiveName.{DirectiveName}
use Rattle.listing_model.specs.declared.directive.DirectiveName.TheVariants as named
use Rattle.listing_model.specs.declared.fault.ListingFault.{ListingFault}
use Rattle.listing_model.specs.declared.fault.ListingWhy.{ListingWhy}
use Rattle.listing_model.specs.declared.line.Body.{Body}
use Rattle.listing_model.specs.declared.line.Body.TheVariants as body
use Rattle.listing_model.specs.declared.line.Line.{Line}
use Rattle.listing_model.specs.declared.line.Section.{Section}
use Rattle.listing_model.specs.declared.line.Section.TheVariants.{Code, Data}
use Rattle.listing_model.specs.Directives as directives
use Rattle.listing_model.specs.Directives.{directive_of, directive_named, is_label}
use Rattle.listing_model.specs.Faults.{Answers}
use Rattle.listing_model.specs.File.{code_base, file_of}
use Rattle.listing_model.specs.Image.{Contents, address_of, contents_of, entry_address, file_with, file_from, image_of}
use Rattle.listing_model.specs.Layout.{Piece, bytes, aimed, address, mention, Placed, Labeled, Layout, empty_layout, size, is_data, laid_out, placed_line, at_line}
use Rattle.listing_model.specs.Bodies.{instruction_body, directive_body}
use Rattle.listing_model.specs.LineOf.{named as statement_named, line_of, line_of_tokens, body_of, instruction, with_label, colon}
use Rattle.listing_model.specs.Lines.{lines_of}
use Rattle.listing_model.specs.Statements.{Statements}
use Rattle.asm_tokens.specs.Layout.{is_sign}
use Rattle.asm_tokens.specs.Tokens.{tokens}

-- ---- numbers of a line have at most 8 bytes

abbrev SizedDirective : Type 0 → Result Directive ListingWhy → Type 0
SizedDirective I (Err e) = Unit {0}
SizedDirective I (Ok d) = IsSized {I = I} (body.Directive d)

abbrev SizedBody : {I : Type 0} → Result (Body I) ListingWhy → Type 0
SizedBody (Err e) = Unit {0}
SizedBody (Ok b) = IsSized b

abbrev SizedLine : {I : Type 0} → Result (Line I) ListingWhy → Type 0
SizedLine (Err e) = Unit {0}
SizedLine (Ok l) = IsSized l.body

with_sized : {A : Type 0} (I : Type 0) (d : A → Directive) (r : Result A ListingWhy) → ((x : A) → IsSized {I = I} (body.Directive (d x)))
    → SizedDirective I (directives.with_argument d r)
with_sized I d (Err e) h = tt
with_sized I d (Ok x) h = h x

alone_sized : (I : Type 0) (d : Directive) (ts : List (List ℕ)) → IsSized {I = I} (body.Directive d) → SizedDirective I (directives.no_argument d ts)
alone_sized I d [] h = h
alone_sized I d (t ∷ ts) h = tt

directive_sized : (I : Type 0) (name : DirectiveName) (ts : List (List ℕ)) → SizedDirective I (directive_of name ts)
directive_sized I named.Code ts = alone_sized I directive.Code ts tt
directive_sized I named.Data ts = alone_sized I directive.Data ts tt
directive_sized I named.Byte ts = with_sized I (directive.Numbers 1) (directives.numbers 1 (directives.arguments false ts)) (λ x. omega arith)
directive_sized I named.Half ts = with_sized I (directive.Numbers 2) (directives.numbers 2 (directives.arguments false ts)) (λ x. omega arith)
directive_sized I named.Word ts = with_sized I (directive.Numbers 4) (directives.numbers 4 (directives.arguments false ts)) (λ x. omega arith)
directive_sized I named.Quad ts = with_sized I (directive.Numbers 8) (directives.numbers 8 (directives.arguments true ts)) (λ x. omega arith)
directive_sized I named.Ascii ts = with_sized I directive.Ascii (directives.one_string ts) (λ x. tt)
directive_sized I named.Zero ts = with_sized I directive.Zero (directives.one_natural (2 ^ 64) (directives.whole_number ts)) (λ x. tt)
directive_sized I named.Align ts = with_sized I directive.Align (directives.alignment (directives.one_natural (2 ^ 32) (directives.whole_number ts))) (λ x. tt)
directive_sized I named.Bss ts = with_sized I directive.Bss (directives.one_natural (2 ^ 64) (directives.whole_number ts)) (λ x. tt)
directive_sized I named.Entry ts = with_sized I directive.Entry (directives.one_label ts) (λ x. tt)

module _ {I : Type 0} (s : Statements I) where
  directive_body_sized : (r : Result Directive ListingWhy) → SizedDirective I r → SizedBody (directive_body s r)
  directive_body_sized (Err e) h = tt
  directive_body_sized (Ok d) h = h

  instruction_sized : (i : I) (t : Option Target) → IsSized (instruction s i t)
  instruction_sized i None = tt
  instruction_sized i (Some t) = tt

  instruction_body_sized : (r : Result (I × Option Target) ListingWhy) → SizedBody (instruction_body s r)
  instruction_body_sized (Err e) = tt
  instruction_body_sized (Ok p) = instruction_sized p.0 p.1

  body_sized : (ts : List (List ℕ)) → SizedBody (body_of s ts)
  body_sized [] = tt
  body_sized (t ∷ ts) = by (directive_named t)
    where
      by : (o : Option DirectiveName) → SizedBody (statement_named s o t ts)
      by None = instruction_body_sized (s.reads t ts)
      by (Some d) = directive_body_sized (directive_of d ts) (directive_sized I d ts)

  label_sized : (label : Option (List ℕ)) (r : Result (Body I) ListingWhy) → SizedBody r → SizedLine (with_label s label r)
  label_sized label (Err e) h = tt
  label_sized label (Ok b) h = h

  line_sized : (ts : List (List ℕ)) → SizedLine (line_of_tokens s ts)
  line_sized [] = tt
  line_sized (t ∷ []) = label_sized None (body_of s (t ∷ [])) (body_sized (t ∷ []))
  line_sized (t ∷ u ∷ ts) =
      cond_both (is_sign colon u) _ _ (λ r. SizedLine r)
      (λ e. cond_both (is_label t) _ _ (λ r. SizedLine r) (λ f. label_sized (Some t) (body_of s ts) (body_sized ts)) (λ f. tt))
      (λ e. label_sized None (body_of s (t ∷ u ∷ ts)) (body_sized (t ∷ u ∷ ts)))

  pub sized : (text : List ℕ) (l : Line I) → line_of s text ≡ Ok l → IsSized l.body
  sized text l h =
      subst (λ (r : Result (Line I) ListingWhy). SizedLine r) h
      (cond_both (nat_lt 256 (length text)) _ _ (λ r. SizedLine r) (λ e. tt) (λ e. line_sized (tokens text)))

  -- ---- lines one after the other

  refused_line : (n : ℕ) (f : ListingFault) (ts : List (List ℕ)) → laid_out s n (Err f) ts ≡ Err f
  refused_line n f [] = refl
  refused_line n f (t ∷ ts) = refl

  -- the lines from a place on are laid out behind a layout that the draft holds
  pub record Laid (h : I → Type 0) (text : List ℕ) (start number : ℕ) (d : Draft I) : Type 0 where
    pub layout : Layout I
    pub is : laid_out s 1 (Ok empty_layout) (lines_of text) ≡ laid_out s number (Ok layout) (lines_of (drop start text))
    pub drafted : IsDraft h d layout
    pub count : number + length (lines_of (drop start text)) ≡ 1 + length (lines_of text)

  pub no_line : (h : I → Type 0) (text : List ℕ) (d : Draft I) → IsEmptyDraft d → Laid h text 0 1 d
  no_line h text d e = record {
    layout = empty_layout;
    is = refl;
    drafted = record {
      code = e.code;
      values = e.values;
      code_size = refl;
      data_size = refl;
      bss = e.bss;
      section = e.section;
      labels = e.labels;
      entry = e.entry;
      holes = e.holes;
      in_order = tt;
      aimable = tt;
    };
    count = refl;
  }

  -- what is left behind a line
  left : (text : List ℕ) (past next : ℕ) → past ≤ length text → next ≡ start_behind text past → drop (past + 1) text ≡ drop next text
  left text past next h e = elim (cases_lt past (length text)) [
    | inl l ↦ ap (λ (i : ℕ). drop i text) (sym (e ∙ cond-true (nat_lt past (length text)) _ _ (lt-ltb past (length text) l)))
    | inr l ↦ (let same : next ≡ past = e ∙ cond-false (nat_lt past (length text)) _ _ (le-ltb past (length text) l) in
        drop_all (past + 1) text (omega arith) ∙ sym (drop_all next text (omega arith)))
  ]

  pub next_line : (h : I → Type 0) (text : List ℕ) (start past next number : ℕ) (d e : Draft I) (was : Laid h text start number d) → IsLine text start past
      → next ≡ start_behind text past
      → IsPlaced h (Ok tt) e (placed_line s number was.layout (line_of s (slice_range text start past)))
      → Laid h text next (number + 1) e
  next_line h text start past next number d e was line at_next placed =
      let rest : List (List ℕ) = lines_of (drop (past + 1) text) in
      let same : drop (past + 1) text ≡ drop next text = left text past next line.within at_next in
      record {
        layout = placed.0;
        is = was.is ∙ ap (laid_out s number (Ok was.layout)) line.is
            ∙ ap (λ (r : Result (Layout I) ListingWhy). laid_out s (number + 1) (at_line number r) rest) placed.1
            ∙ ap (λ (xs : List ℕ). laid_out s (number + 1) (Ok placed.0) (lines_of xs)) same;
        drafted = placed.2;
        count =
            let more : length (lines_of (drop start text)) ≡ suc (length rest) = ap length line.is in
            let behind : length rest ≡ length (lines_of (drop next text)) = ap (λ (xs : List ℕ). length (lines_of xs)) same in
            omega (arith, was.count);
      }

  pub no_next_line : (h : I → Type 0) (text : List ℕ) (start past number : ℕ) (d e : Draft I) (why : ListingWhy) (was : Laid h text start number d)
      → IsLine text start past → IsPlaced h (Err (Refused why)) e (placed_line s number was.layout (line_of s (slice_range text start past)))
      → laid_out s 1 (Ok empty_layout) (lines_of text) ≡ Err (record { line = number; why = why })
  no_next_line h text start past number d e why was line placed =
      let rest : List (List ℕ) = lines_of (drop (past + 1) text) in
      was.is ∙ ap (laid_out s number (Ok was.layout)) line.is
      ∙ ap (λ (r : Result (Layout I) ListingWhy). laid_out s (number + 1) (at_line number r) rest) placed
      ∙ refused_line (number + 1) (record { line = number; why = why }) rest

  -- the next line begins where the text may be cut
  pub next_cut : (text : List ℕ) (start past : ℕ) → IsLine text start past → IsCharBoundary text (start_behind text past)
  next_cut text start past line = elim (cases_lt past (length text)) [
    | inl l ↦ subst (IsCharBoundary text) (sym (cond-true (nat_lt past (length text)) _ _ (lt-ltb past (length text) l))) (line.next_cut l)
    | inr l ↦ subst (IsCharBoundary text) (sym (cond-false (nat_lt past (length text)) _ _ (le-ltb past (length text) l))) line.cut
  ]

  -- and later, where the line isn't empty or has a newline
  pub next_later : (text : List ℕ) (start past : ℕ) → IsLine text start past → start < length text → start < start_behind text past
  next_later text start past line l = elim (cases_lt past (length text)) [
    | inl k ↦ (let next : start_behind text past ≡ past + 1 = cond-true (nat_lt past (length text)) _ _ (lt-ltb past (length text) k) in
        omega (arith, line.after))
    | inr k ↦ (let next : start_behind text past ≡ past = cond-false (nat_lt past (length text)) _ _ (le-ltb past (length text) k) in
        omega (arith, line.after))
  ]

  -- what reading refuses, placing refuses
  pub stopped_line : (h : I → Type 0) (n : ℕ) (l : Layout I) (d : Draft I) (fault : AsmFault) (stop : Stop) (r : Result (Line I) ListingWhy)
      → Answers (Err fault) r → IsStop fault stop → IsPlaced h (Err stop) d (placed_line s n l r)
  stopped_line h n l d fault (Refused why) r a e =
      ap (placed_line s n l) (subst (λ (o : Option ListingWhy). IfSome o (λ w. r ≡ Err w)) e a)
  stopped_line h n l d fault OutOfMemory r a e = tt

  -- a line that is refused, as the error of the listing
  pub stopped_listing : (h : I → Type 0) (text : List ℕ) (start past number : ℕ) (d e : Draft I) (stop : Stop) (was : Laid h text start number d)
      → IsLine text start past → IsPlaced h (Err stop) e (placed_line s number was.layout (line_of s (slice_range text start past)))
      → IsDrafted h (Err (stopped_at number stop)) (laid_out s 1 (Ok empty_layout) (lines_of text))
  stopped_listing h text start past number d e (Refused why) was line placed = no_next_line h text start past number d e why was line placed
  stopped_listing h text start past number d e OutOfMemory was line placed = tt

  pub all_lines : (h : I → Type 0) (text : List ℕ) (start number : ℕ) (d : Draft I) (was : Laid h text start number d) → length text ≤ start
      → laid_out s 1 (Ok empty_layout) (lines_of text) ≡ Ok was.layout
  all_lines h text start number d was l =
      was.is ∙ ap (λ (xs : List ℕ). laid_out s number (Ok was.layout) (lines_of xs)) (drop_all start text l)

  -- ---- the holes of a draft

  piece_room : (c d : ℕ) (p : Placed I) (x : Piece I) (more : List (Hole I)) → AllHaveRoom c d more
      → p.place + size x ≤ cond (is_data p.section) d c → AllHaveRoom c d (holes p x ++ more)
  piece_room c d p (bytes bs) more r h = r
  piece_room c d p (aimed i t) more r h = (h, r)
  piece_room c d p (address n) more r h = (h, r)
  piece_room c d p (mention n) more r h = (h, r)

  ends_within : (t : Section) (x y place n c d code values : ℕ) → place ≡ cond (is_data t) y x → (x + cond (is_data t) 0 n) + code ≤ c → (y + cond (is_data t) n 0) + values ≤ d
      → place + n ≤ cond (is_data t) d c
  ends_within Code x y place n c d code values e h k = omega arith
  ends_within Data x y place n c d code values e h k = omega arith

  code_bytes : (t : Section) (p : Piece I) → length (in_code t (drafted p)) ≡ cond (is_data t) 0 (size p)
  code_bytes Code p = drafted_size p
  code_bytes Data p = refl

  data_bytes : (t : Section) (p : Piece I) → length (in_data t (drafted p)) ≡ cond (is_data t) (size p) 0
  data_bytes Code p = refl
  data_bytes Data p = drafted_size p

  room_from : (x y c d : ℕ) (ps : List (Placed I)) → InOrder x y ps → x + length (drafted_code ps) ≤ c → y + length (drafted_data ps) ≤ d
      → AllHaveRoom c d (holes_of ps)
  room_from x y c d [] o h k = tt
  room_from x y c d (p ∷ ps) o h k =
      let more_code : (x + cond (is_data p.section) 0 (size p.piece)) + length (drafted_code ps) ≤ c =
      omega (arith, length-append (in_code p.section (drafted p.piece)) (drafted_code ps), code_bytes p.section p.piece) in
      let more_data : (y + cond (is_data p.section) (size p.piece) 0) + length (drafted_data ps) ≤ d =
      omega (arith, length-append (in_data p.section (drafted p.piece)) (drafted_data ps), data_bytes p.section p.piece) in
      piece_room c d p p.piece (holes_of ps)
      (room_from (x + cond (is_data p.section) 0 (size p.piece)) (y + cond (is_data p.section) (size p.piece) 0) c d ps o.1 more_code more_data)
      (ends_within p.section x y p.place (size p.piece) c d (length (drafted_code ps)) (length (drafted_data ps)) o.0 more_code more_data)

  pub room : (h : I → Type 0) (d : Draft I) (l : Layout I) → IsDraft h d l → AllHaveRoom (length d.code.items) (length d.values.items) d.holes.items
  room h d l is =
      let c : 0 + length (drafted_code l.pieces) ≤ length d.code.items = omega (arith, ap length is.code) in
      let v : 0 + length (drafted_data l.pieces) ≤ length d.values.items = omega (arith, ap length is.values) in
      subst (AllHaveRoom (length d.code.items) (length d.values.items)) (sym is.holes)
      (room_from 0 0 (length d.code.items) (length d.values.items) l.pieces is.in_order c v)

  piece_aimable : (h : I → Type 0) (p : Placed I) (x : Piece I) (more : List (Hole I)) → AllAimable h more → IsAimablePiece h x → AllAimable h (holes p x ++ more)
  piece_aimable h p (bytes bs) more r a = r
  piece_aimable h p (aimed i t) more r a = (a, r)
  piece_aimable h p (address n) more r a = (tt, r)
  piece_aimable h p (mention n) more r a = (tt, r)

  aimable_from : (h : I → Type 0) (ps : List (Placed I)) → AreAimable h ps → AllAimable h (holes_of ps)
  aimable_from h [] a = tt
  aimable_from h (p ∷ ps) a = piece_aimable h p p.piece (holes_of ps) (aimable_from h ps a.1) a.0

  pub aimable : (h : I → Type 0) (d : Draft I) (l : Layout I) → IsDraft h d l → AllAimable h d.holes.items
  aimable h d l is = subst (AllAimable h) (sym is.holes) (aimable_from h l.pieces is.aimable)

  -- ---- the file

  pub parts_of_draft : (h : I → Type 0) (d : Draft I) (l : Layout I) (code values : List ℕ) (holes : List (Hole I)) → IsDraft h d l → code ≡ d.code.items → values ≡ d.values.items
      → holes ≡ d.holes.items → ArePartsOf l code values d.labels d.entry holes d.bss
  parts_of_draft h d l code values holes is c v hs = record {
    pieces = record { code_is = c ∙ is.code; values_is = v ∙ is.values; holes_are = hs ∙ is.holes; in_order = is.in_order };
    code_size = is.code_size ∙ sym (ap length is.code) ∙ sym (ap length c);
    labels_are = is.labels;
    entry_is = is.entry;
    bss_is = is.bss;
  }

  -- what fills the holes of the parts, and the file by it
  by_parts : (l : Layout I) (code values : List ℕ) (labels : List Labeled) (entry : Option (List ℕ)) (holes : List (Hole I)) (bss : ℕ) (r : Result Contents ListingFault)
      → ArePartsOf l code values labels entry holes bss → contents_of s (length code) (address_of (length code) labels) l.pieces ≡ r → file_from s (Ok l) ≡ file_with s l r
  by_parts l code values labels entry holes bss r are c =
      ap₂ (λ (n : ℕ) (ls : List Labeled). file_with s l (contents_of s n (address_of n ls) l.pieces)) are.code_size (sym are.labels_are) ∙ ap (file_with s l) c

  pub made : (l : Layout I) (code values : List ℕ) (labels : List Labeled) (entry : Option (List ℕ)) (holes : List (Hole I)) (bss start : ℕ) (new_code new_values : List ℕ)
      → ArePartsOf l code values labels entry holes bss
      → contents_of s (length code) (address_of (length code) labels) l.pieces ≡ Ok (record { code = new_code; values = new_values }) → (length new_code == 0) ≡ false
      → start ≡ unwrap_or (option_and_then (address_of (length code) labels) entry) code_base
      → file_from s (Ok l) ≡ Ok (file_of start new_code new_values bss)
  made l code values labels entry holes bss start new_code new_values are c z at_start =
      let address : entry_address s l ≡ start =
      ap₂ (λ (n : ℕ) (ls : List Labeled). unwrap_or (option_and_then (address_of n ls) l.entry) code_base) are.code_size (sym are.labels_are)
      ∙ ap (λ (o : Option (List ℕ)). unwrap_or (option_and_then (address_of (length code) labels) o) code_base) (sym are.entry_is) ∙ sym at_start in
      by_parts l code values labels entry holes bss (Ok (record { code = new_code; values = new_values })) are c
      ∙ cond-false (length new_code == 0) _ _ z
      ∙ ap₂ (λ (a b : ℕ). Ok (file_of a new_code new_values b)) address (sym are.bss_is)

  -- ---- whole listings

  pub few_lines : (text : List ℕ) → length (lines_of text) ≤ 1_000_000 → image_of s text ≡ file_from s (laid_out s 1 (Ok empty_layout) (lines_of text))
  few_lines text h = cond-false (nat_lt 1_000_000 (length (lines_of text))) _ _ (le-ltb 1_000_000 (length (lines_of text)) h)

  pub finished : (text : List ℕ) (l : Layout I) (r : Result (Vec ℕ) AsmError) → length (lines_of text) ≤ 1_000_000
      → laid_out s 1 (Ok empty_layout) (lines_of text) ≡ Ok l → IsMade r (file_from s (Ok l)) → IsMade r (image_of s text)
  finished text l r few e m = subst (IsMade r) (sym (few_lines text few ∙ ap (file_from s) e)) m

  pub not_drafted : (h : I → Type 0) (text : List ℕ) (e : AsmError) → length (lines_of text) ≤ 1_000_000
      → IsDrafted h (Err e) (laid_out s 1 (Ok empty_layout) (lines_of text)) → IsMade (Err e) (image_of s text)
  not_drafted h text (error.Refused f) few d = few_lines text few ∙ ap (file_from s) d
  not_drafted h text error.OutOfMemory few d = tt
