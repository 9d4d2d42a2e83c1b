use Rattle.std.proofs.Common.{◌<◌, ℕ, List, length, sym, subst}
use Rattle.sve_ffr.proofs.load.test_first.Goals as goal

pub bounds-deref-0 : goal.bounds-deref-0
bounds-deref-0 c = subst (λ (ps : List (ℕ × ℕ)). 0 < length ps) (sym c.deref.ensures.0) (c.has_element.ensures.within c.if-not-has_element.false)
