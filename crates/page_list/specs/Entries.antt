-- Pages in a list, each with its number.
use Rattle.std.specs.Prelude.{◌≡◌, ◌<◌, ◌≤◌, ℕ, zero, suc, ◌+◌, ◌-◌, ◌%◌, ◌^◌, ◌==◌, Bool, true, false, List, [], ◌∷◌, length, get_or, replicate, set, Option, ⊤, refl}
use Rattle.std.specs.Coded.{Coded, code_by, coded×, coded_ℕ, coded_list, coded_option}
use Rattle.std.specs.List.{AllByRecursion}
use Rattle.emu_model.specs.declared.access.Kind.{Kind}
use Rattle.emu_model.specs.declared.access.Rights.{Rights}
use Rattle.emu_model.specs.Access.{Page, gives}
use Rattle.emu_model.specs.Codes.{coded_page}
use Rattle.emu_model.specs.Pages.{zeroed_page}

-- a page's number, and the page
abbrev pub Entry : Type 0
Entry = ℕ × Page

-- the pages at hand: the number of the one for fetches, or no page's, that in each line of those for reads and for writes,
-- and the places of the latter
pub record AtHand : Type 0 where
  pub code : ℕ
  pub reads : List ℕ
  pub writes : List ℕ
  pub places : List ℕ

-- the pages that are listed, how many there may be, the pages at hand, the marks, and the number of spare frames
pub record Listed : Type 0 where
  pub pages : List Entry
  pub limit : ℕ
  pub hand : AtHand
  pub marks : List (Option (List Entry))
  pub spare : ℕ

-- no page has this number
abbrev pub no_page : ℕ
no_page = 2 ^ 64 - 1

abbrev pub coded_entries : Coded (List Entry)
coded_entries = coded_list (coded× coded_ℕ coded_page)

abbrev pub coded_hand : Coded AtHand
coded_hand =
    code_by (ℕ × (List ℕ × (List ℕ × List ℕ))) (coded× coded_ℕ (coded× (coded_list coded_ℕ) (coded× (coded_list coded_ℕ) (coded_list coded_ℕ)))) (λ h. (h.code, (h.reads, (h.writes, h.places))))
    (λ p. record { code = p.0; reads = p.1.0; writes = p.1.1.0; places = p.1.1.1 }) (λ _. refl)

abbrev pub coded_listed : Coded Listed
coded_listed =
    code_by (List Entry × (ℕ × (AtHand × (List (Option (List Entry)) × ℕ)))) (coded× coded_entries (coded× coded_ℕ (coded× coded_hand (coded× (coded_list (coded_option coded_entries)) coded_ℕ))))
    (λ l. (l.pages, (l.limit, (l.hand, (l.marks, l.spare))))) (λ p. record { pages = p.0; limit = p.1.0; hand = p.1.1.0; marks = p.1.1.1.0; spare = p.1.1.1.1 }) (λ _. refl)

abbrev pub no_entry : Entry
no_entry = (0, record { rights = record { r = false; w = false; x = false }; bytes = [] })

-- the entry at place i
abbrev pub entry_at : List Entry → ℕ → Entry
entry_at es i = get_or es i no_entry

-- the page is at hand for fetches
abbrev pub IsAtHand : Listed → ℕ → Type 0
IsAtHand l page = (l.hand.code ≡ page) × (page < no_page)

-- how many lines of pages there are for reads, and for writes, and the line of a page
abbrev pub lines : ℕ
lines = 64

abbrev pub line_of : ℕ → ℕ
line_of page = page % lines

-- the line of the page has the page
abbrev pub is_held : List ℕ → ℕ → Bool
is_held pages page = get_or pages (line_of page) 0 == page

-- each line has a page of another line
abbrev pub empty_lines : List ℕ
empty_lines = set (replicate lines 1) 1 0

abbrev pub nothing_at_hand : AtHand
nothing_at_hand = record { code = no_page; reads = empty_lines; writes = empty_lines; places = replicate lines 0 }

-- the place of a page that is at hand for writes
abbrev pub place_at_hand : AtHand → ℕ → ℕ
place_at_hand h page = get_or h.places (line_of page) 0

-- the page is at this place and gives the right
pub record IsGivenAt (es : List Entry) (kind : Kind) (page place : ℕ) : Type 0 where
  pub within : place < length es
  pub number : (entry_at es place).0 ≡ page
  pub allowed : gives (entry_at es place).1.rights kind ≡ true

-- the page is listed, gives the right and has these bytes
pub record IsGiven (es : List Entry) (kind : Kind) (page : ℕ) (bytes : List ℕ) : Type 0 where
  pub place : ℕ
  pub within : place < length es
  pub number : (entry_at es place).0 ≡ page
  pub allowed : gives (entry_at es place).1.rights kind ≡ true
  pub bytes_are : (entry_at es place).1.bytes ≡ bytes

-- the entries with another page at place i
abbrev pub changed_at : (Page → Page) → ℕ → List Entry → List Entry
changed_at f i [] = []
changed_at f zero (e ∷ es) = (e.0, f e.1) ∷ es
changed_at f (suc i) (e ∷ es) = e ∷ changed_at f i es

-- the entries of `count` zeroed pages from `first` on
abbrev pub zeroed_entries : ℕ → ℕ → Rights → List Entry
zeroed_entries first zero rights = []
zeroed_entries first (suc count) rights = (first, zeroed_page rights) ∷ zeroed_entries (first + 1) count rights

abbrev pub page_with_rights : Rights → Page → Page
page_with_rights rights p = record p { rights = rights }

abbrev pub IsAbove : ℕ → Entry → Type 0
IsAbove n e = n < e.0

abbrev pub IsBelow : ℕ → Entry → Type 0
IsBelow n e = e.0 < n

abbrev pub IsFrom : ℕ → Entry → Type 0
IsFrom n e = n ≤ e.0

-- the numbers strictly rise
abbrev pub IsAscending : List Entry → Type 0
IsAscending [] = ⊤
IsAscending (e ∷ es) = AllByRecursion (IsAbove e.0) es × IsAscending es
