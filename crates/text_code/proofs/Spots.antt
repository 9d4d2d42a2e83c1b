-- A pattern of the program at a spot of its line is the definitions'.
use Rattle.std.proofs.Common.{◌≡◌, ℕ, zero, suc, ◌<◌, ◌&&◌, true, nat_lt, List, [], ◌∷◌, length, get_or, refl, sym, ap, ◌∙◌, subst, arith}
use Rattle.std.proofs.lemmas.Bool.{and_parts, ltb-true}
use Rattle.text_model.specs.Reading as reading
use Rattle.text_code.specs.declared.patterns.Pattern.{Pattern}
use Rattle.text_code.specs.declared.patterns.Spot.{Spot}
use Rattle.text_code.specs.Tables.{pattern_of, patterns_of}
use Rattle.text_code.specs.Reads.{no_pattern, at_spot, are_spots}

patterns_long : (ps : List Pattern) → length (patterns_of ps) ≡ length ps
patterns_long [] = refl
patterns_long (p ∷ ps) = ap suc (patterns_long ps)

pattern_is : (ps : List Pattern) (k : ℕ) (d : Pattern) → k < length ps → get_or (patterns_of ps) k no_pattern ≡ pattern_of (get_or ps k d)
pattern_is [] k d h = absurd (omega arith)
pattern_is (p ∷ ps) zero d h = refl
pattern_is (p ∷ ps) (suc k) d h = pattern_is ps k d (omega arith)

module _ (pss : List (List reading.Pattern)) (s : Spot) (ps : List Pattern) (l : patterns_of ps ≡ get_or pss s.line []) (h : are_spots pss (s ∷ []) ≡ true) where
  pub place_there : s.place < length ps
  place_there =
      let h1 = and_parts (nat_lt s.line (length pss) && nat_lt s.place (length (get_or pss s.line []))) true h in
      let k : s.place < length (get_or pss s.line []) = ltb-true _ _ (and_parts (nat_lt s.line (length pss)) _ h1.0).1 in
      subst (λ (n : ℕ). s.place < n) (ap (λ (qs : List reading.Pattern). length qs) (sym l) ∙ patterns_long ps) k

  pub place_is : (d : Pattern) → pattern_of (get_or ps s.place d) ≡ at_spot pss s
  place_is d = sym (ap (λ (qs : List reading.Pattern). get_or qs s.place no_pattern) (sym l) ∙ pattern_is ps s.place d place_there)
