use Rattle.std.proofs.Common.{ℕ, List, subst, ◌∙◌}
use Rattle.asm_image.specs.Assembly.{IsMade}
use Rattle.asm_text.specs.Statements.{statements}
use Rattle.listing_model.specs.Image.{image_of}
use Rattle.commands.proofs.loading.load_file.Goals as goal

pub returns : goal.returns
returns c = subst (λ (xs : List ℕ). IsMade c.assemble.result (image_of statements xs)) (c.as_str.ensures.value ∙ c.in-Ok.ensures) c.assemble.ensures
