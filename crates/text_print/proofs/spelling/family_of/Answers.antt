use Rattle.std.proofs.Common.{◌≡◌, ℕ, Option, List, ap, ap₂, sym, ◌∙◌}
use Rattle.std.specs.Prelude.{slice_get, option_map}
use Rattle.text_model.specs.Words.{Family, families}
use Rattle.text_print.specs.ByClass.{family_at, family_place, as_family, spelled_by, is_short_register}
use Rattle.text_print.proofs.ByClass.{found, families_at, by_family, short_register}
use Rattle.text_print.proofs.spelling.family_of.Goals as goal

is_family_at : (c : goal.After-get) → family_at c.get.result ≡ slice_get families (family_place c.args.class)
is_family_at c =
    ap (option_map as_family) (found c.register_families.result.now c.family_place.result c.get.result c.get.ensures.lookup.3)
    ∙ families_at c.register_families.result.now c.family_place.result
    ∙ ap₂ (λ (fs : List Family) (k : ℕ). slice_get fs k) c.register_families.ensures c.family_place.ensures

pub returns-clause-spelled : goal.returns-clause-spelled
returns-clause-spelled c = λ (v : ℕ). by_family c.args.class v ∙ ap (λ (o : Option Family). spelled_by o c.args.class v) (sym (is_family_at c))

pub returns-clause-short : goal.returns-clause-short
returns-clause-short c = ap is_short_register (is_family_at c) ∙ short_register c.args.class
