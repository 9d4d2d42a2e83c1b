use Rattle.std.proofs.Common.{ℕ, List, Result, sym, ap, subst, ◌∙◌, arith}
use Rattle.std.proofs.lemmas.Str.{utf8_valid_len_le}
use Rattle.asm_image.specs.Assembly.{IsMade}
use Rattle.listing_model.specs.declared.fault.ListingFault.{ListingFault}
use Rattle.commands.proofs.Assembling.{bad_listing, no_listing, text_listing}
use Rattle.commands.proofs.listings.made.Goals as goal

pub returns-in-Ok : goal.returns-in-Ok
returns-in-Ok c =
    subst (λ (r : Result (List ℕ) ListingFault). IsMade c.assemble.result r) (text_listing c.args.bytes.now c.in-Ok.text.now c.in-Ok.ensures.cases.0 c.in-Ok.ensures.cases.1) c.assemble.ensures

pub line_of_place-requires-clause-within : goal.line_of_place-requires-clause-within
line_of_place-requires-clause-within c = omega (arith, c.valid_up_to.ensures ∙ c.in-Err.ensures.valid_len, utf8_valid_len_le c.args.bytes.now)

pub returns-in-Err : goal.returns-in-Err
returns-in-Err c =
    no_listing c.args.bytes.now c.valid_up_to.result (c.valid_up_to.ensures ∙ c.in-Err.ensures.valid_len) c.in-Err.ensures.cases.0
    ∙ ap bad_listing (sym c.line_of_place.ensures)
