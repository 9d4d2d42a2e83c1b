use Rattle.std.proofs.Common.{◌≡◌, ◌+◌, ◌-◌, ◌++◌, ◌∷◌, [], ◌∙◌, ℕ, List, length, replicate, sym, ap, arith}
use Rattle.std.specs.Vec.{vec_len}
use Rattle.word_counts.specs.Counts.{Counts, count_at, place_of}
use Rattle.word_counts.proofs.Tables.{filled, grown_longer, grown_place, grown_same, grown_table}
use Rattle.word_counts.proofs.table.WordCounts.add_page.Goals as goal

pub invariant_of-self-2 : goal.invariant_of-self-2
invariant_of-self-2 c =
    let t : Counts = record { pages = c.self.inside.pages.items; counts = c.self.inside.counts.items } in
    let new : Counts = record { pages = c.push_reserved.new.self.items; counts = c.resize.new.self.items } in
    let n = c.len.result + 1024 in
    let len = c.len.ensures in
    let long : n ≡ length t.counts + 1024 = omega (arith, len) in
    let pages : new.pages ≡ t.pages ++ c.args.page ∷ [] = c.push_reserved.ensures.items ∙ ap (λ (xs : List ℕ). xs ++ c.args.page ∷ []) c.in_ok-reserve.ensures.items in
    let absent : place_of t c.args.page ≡ length t.pages = ap (λ (s : Counts). place_of s c.args.page) c.self.view_is ∙ c.requires.absent ∙ ap (λ (s : Counts). length s.pages) (sym c.self.view_is) in
    let m = n - vec_len c.self.inside.counts in
    let counts : new.counts ≡ t.counts ++ replicate m 0 = filled t.counts new.counts n m (omega (arith, long)) c.in_ok-resize.ensures.items in
    let many : m ≡ 1024 = omega (arith, len) in
    grown_table t new c.args.page c.self.invariant absent pages m many counts c.requires.below

pub returns-clause-same : goal.returns-clause-same
returns-clause-same c = λ word.
    let t : Counts = record { pages = c.self.inside.pages.items; counts = c.self.inside.counts.items } in
    let new : Counts = record { pages = c.push_reserved.new.self.items; counts = c.resize.new.self.items } in
    let n = c.len.result + 1024 in
    let len = c.len.ensures in
    let long : n ≡ length t.counts + 1024 = omega (arith, len) in
    let pages : new.pages ≡ t.pages ++ c.args.page ∷ [] = c.push_reserved.ensures.items ∙ ap (λ (xs : List ℕ). xs ++ c.args.page ∷ []) c.in_ok-reserve.ensures.items in
    let absent : place_of t c.args.page ≡ length t.pages = ap (λ (s : Counts). place_of s c.args.page) c.self.view_is ∙ c.requires.absent ∙ ap (λ (s : Counts). length s.pages) (sym c.self.view_is) in
    let m = n - vec_len c.self.inside.counts in
    let counts : new.counts ≡ t.counts ++ replicate m 0 = filled t.counts new.counts n m (omega (arith, long)) c.in_ok-resize.ensures.items in
    let many : m ≡ 1024 = omega (arith, len) in
    grown_same t new c.args.page c.self.invariant absent pages m many counts word ∙ ap (λ (s : Counts). count_at s word) c.self.view_is

pub returns-clause-place : goal.returns-clause-place
returns-clause-place c =
    let t : Counts = record { pages = c.self.inside.pages.items; counts = c.self.inside.counts.items } in
    let new : Counts = record { pages = c.push_reserved.new.self.items; counts = c.resize.new.self.items } in
    let n = c.len.result + 1024 in
    let len = c.len.ensures in
    let long : n ≡ length t.counts + 1024 = omega (arith, len) in
    let pages : new.pages ≡ t.pages ++ c.args.page ∷ [] = c.push_reserved.ensures.items ∙ ap (λ (xs : List ℕ). xs ++ c.args.page ∷ []) c.in_ok-reserve.ensures.items in
    let absent : place_of t c.args.page ≡ length t.pages = ap (λ (s : Counts). place_of s c.args.page) c.self.view_is ∙ c.requires.absent ∙ ap (λ (s : Counts). length s.pages) (sym c.self.view_is) in
    let m = n - vec_len c.self.inside.counts in
    let counts : new.counts ≡ t.counts ++ replicate m 0 = filled t.counts new.counts n m (omega (arith, long)) c.in_ok-resize.ensures.items in
    let many : m ≡ 1024 = omega (arith, len) in
    grown_place t new c.args.page c.self.invariant absent pages m many counts ∙ ap (λ (s : Counts). length s.pages) c.self.view_is

pub returns-clause-longer : goal.returns-clause-longer
returns-clause-longer c =
    let t : Counts = record { pages = c.self.inside.pages.items; counts = c.self.inside.counts.items } in
    let new : Counts = record { pages = c.push_reserved.new.self.items; counts = c.resize.new.self.items } in
    let n = c.len.result + 1024 in
    let len = c.len.ensures in
    let long : n ≡ length t.counts + 1024 = omega (arith, len) in
    let pages : new.pages ≡ t.pages ++ c.args.page ∷ [] = c.push_reserved.ensures.items ∙ ap (λ (xs : List ℕ). xs ++ c.args.page ∷ []) c.in_ok-reserve.ensures.items in
    let absent : place_of t c.args.page ≡ length t.pages = ap (λ (s : Counts). place_of s c.args.page) c.self.view_is ∙ c.requires.absent ∙ ap (λ (s : Counts). length s.pages) (sym c.self.view_is) in
    let m = n - vec_len c.self.inside.counts in
    let counts : new.counts ≡ t.counts ++ replicate m 0 = filled t.counts new.counts n m (omega (arith, long)) c.in_ok-resize.ensures.items in
    let many : m ≡ 1024 = omega (arith, len) in
    grown_longer t new c.args.page c.self.invariant absent pages m many counts ∙ ap (λ (s : Counts). length s.pages + 1) c.self.view_is
