use Rattle.std.proofs.Common.{◌∙◌, ap}
use Rattle.std.specs.Prelude.{option_map}
use Rattle.asm_image.specs.Labels.{labeled_at}
use Rattle.asm_image.proofs.Named.{found}
use Rattle.listing_model.specs.Layout.{label_named}
use Rattle.asm_image.proofs.labels.Labels.find.Goals as goal

pub returns : goal.returns
returns c =
    ap (option_map (labeled_at c.args.name.now)) (c.copied.ensures ∙ c.get.ensures.value)
    ∙ found c.args.name.now c.self.inside.places.entries ∙ ap (label_named c.args.name.now) c.self.view_is
