-- Texts to which tokens are appended.
use Rattle.std.proofs.Common.{◌≡◌, ℕ, Bool, true, false, List, [], ◌∷◌, ◌++◌, refl, sym, ap, ap₂, ◌∙◌, append_assoc}
use Rattle.std.proofs.lemmas.List.{append-nil}
use Rattle.asm_tokens.specs.Layout as layout
use Rattle.asm_tokens.specs.Layout.{spaced, laid}
use Rattle.text_print.specs.declared.edges.Edge.{Edge}
use Rattle.text_print.specs.Edges.{edge_of, has_gap, laid_behind, last_edge}

put_both : (g : Bool) (t r : List ℕ) → spaced g (t ++ r) ≡ spaced g t ++ r
put_both true t r = refl
put_both false t r = refl

laid_both : (e : Edge) (ts us : List (List ℕ)) → laid_behind e (ts ++ us) ≡ laid_behind e ts ++ laid_behind (last_edge e ts) us
laid_both e [] us = refl
laid_both e (t ∷ ts) us =
    let f = laid_behind (edge_of t) ts in
    let g = laid_behind (last_edge (edge_of t) ts) us in
    ap (λ (r : List ℕ). spaced (has_gap e (edge_of t)) (t ++ r)) (laid_both (edge_of t) ts us)
    ∙ ap (spaced (has_gap e (edge_of t))) (sym (append_assoc t f g)) ∙ put_both (has_gap e (edge_of t)) (t ++ f) g

pub laid_is : (s : List ℕ) (ts : List (List ℕ)) → laid s ts ≡ laid_behind (edge_of s) ts
laid_is s [] = refl
laid_is s (t ∷ ts) = ap (λ (r : List ℕ). spaced (layout.has_gap s t) (t ++ r)) (laid_is t ts)

-- a token more, and no other behind it
pub one_more : (old new t : List ℕ) (e : Edge) → new ≡ old ++ spaced (has_gap e (edge_of t)) t → new ≡ old ++ laid_behind e (t ∷ [])
one_more old new t e h = h ∙ ap (λ (r : List ℕ). old ++ spaced (has_gap e (edge_of t)) r) (sym (append-nil t))

-- a token more, and others behind it
pub then_more : (old mid new t : List ℕ) (e : Edge) (ts : List (List ℕ)) → mid ≡ old ++ spaced (has_gap e (edge_of t)) t → new ≡ mid ++ laid_behind (edge_of t) ts → new ≡ old ++ laid_behind e (t ∷ ts)
then_more old mid new t e ts h k =
    let r = laid_behind (edge_of t) ts in
    let g = spaced (has_gap e (edge_of t)) t in
    k ∙ ap (λ (x : List ℕ). x ++ r) h ∙ append_assoc old g r ∙ ap (λ (x : List ℕ). old ++ x) (sym (put_both (has_gap e (edge_of t)) t r))

-- the tokens of a slot, and those of others behind it
pub slots_more : (old mid new : List ℕ) (e : Edge) (ts us : List (List ℕ)) → mid ≡ old ++ laid_behind e ts → new ≡ mid ++ laid_behind (last_edge e ts) us → new ≡ old ++ laid_behind e (ts ++ us)
slots_more old mid new e ts us h k =
    let r = laid_behind (last_edge e ts) us in
    k ∙ ap (λ (x : List ℕ). x ++ r) h ∙ append_assoc old (laid_behind e ts) r ∙ ap (λ (x : List ℕ). old ++ x) (sym (laid_both e ts us))

-- a name, and the tokens behind it
pub name_and_tokens : (b0 b1 b2 name : List ℕ) (e : Edge) (ts : List (List ℕ)) → b0 ≡ [] → b1 ≡ b0 ++ name → e ≡ edge_of name → b2 ≡ b1 ++ laid_behind e ts → b2 ≡ name ++ laid name ts
name_and_tokens b0 b1 b2 name e ts h0 h1 he h2 =
    h2 ∙ ap₂ (λ (x : List ℕ) (y : Edge). x ++ laid_behind y ts) (h1 ∙ ap (λ (x : List ℕ). x ++ name) h0) he ∙ ap (λ (r : List ℕ). name ++ r) (sym (laid_is name ts))
