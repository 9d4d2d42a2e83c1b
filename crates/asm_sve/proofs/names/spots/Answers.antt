-- The spots of a name, by the parts of the index.
use Rattle.std.proofs.Common.{ℕ, List, ap, ◌∙◌}
use Rattle.text_model.specs.Statement.{lowered}
use Rattle.text_code.specs.Names.{IsIndex}
use Rattle.text_code.specs.Reads.{at_spots, are_spots}
use Rattle.text_code.proofs.Index.{indexed, within}
use Rattle.text_code.proofs.Whole.{all_sound_at}
use Rattle.text_code.specs.Parts.{all_named}
use Rattle.asm_sve.specs.Table.{sve_lines}
use Rattle.asm_sve.proofs.Checked.{lines_sound}
use Rattle.asm_sve.proofs.names.spots.Goals as goal

pub returns : goal.returns
returns c =
    let names = c.all_names.result in
    let e = c.all_names.ensures in
    let i : IsIndex (all_named names) sve_lines = record { searchable = e.searchable; patterns = e.patterns; known = e.known; within = e.within } in
    let s : List ℕ = lowered c.args.name.now in
    let found = c.spots_in.ensures in
    let there = ap (are_spots sve_lines) found ∙ within (all_named names) sve_lines s i in
    record {
      patterns = ap (at_spots sve_lines) found ∙ indexed (all_named names) sve_lines s i;
      within = there;
      sound = all_sound_at sve_lines c.spots_in.result.now lines_sound there;
    }
