-- The orders of signed numbers.
use Rattle.std.proofs.Common.{◌≡◌, not, int_lt, int_le, ℤ, pos, negsuc, refl, arith}
use Rattle.std.proofs.lemmas.Bool.Decides.{nat_tests}

-- at most is not more
pub most_is : (x y : ℤ) → int_le y x ≡ not (int_lt x y)
most_is (pos a) (pos b) = grind (arith, nat_tests)
most_is (pos a) (negsuc b) = refl
most_is (negsuc a) (pos b) = refl
most_is (negsuc a) (negsuc b) = grind (arith, nat_tests)
