use Rattle.std.proofs.Common.{[], map, List, ℕ, Bor, ap, sym, ◌∙◌}
use Rattle.std.proofs.lemmas.List.{get_or-map}
use Rattle.dbg_core.specs.Readers.{command_named, named_law}
use Rattle.dbg_core.proofs.script_commands.command_of.Goals as goal

-- the first word is that of the words as they are told
pub returns : goal.returns
returns c = record {
  command =
      let told : List (List ℕ) = map {A = Bor (List ℕ)} {B = List ℕ} (λ word. word.now) c.args.words.now in
      c.command_named.ensures
      ∙ ap (λ (name : List ℕ). command_named name told)
      (sym (get_or-map (λ (word : Bor (List ℕ)). word.now) c.args.words.now 0 _ [] c.requires))
      ∙ sym (named_law told);
}
