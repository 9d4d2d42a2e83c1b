use Rattle.std.proofs.Common.{Result, subst, sym, ◌∙◌}
use Rattle.command_model.specs.declared.command_line.WordsFault.{WordsFault}
use Rattle.command_lines.specs.Scan.{ReadsAs, Seen}
use Rattle.command_lines.proofs.Items.{plain_item}
use Rattle.command_lines.proofs.scan.Seen.read_item.Goals as goal

pub returns-else-is_option : goal.returns-else-is_option
returns-else-is_option c =
    subst (λ (r : Result Seen WordsFault). ReadsAs r c.read_plain.new.self c.read_plain.result)
    (sym (plain_item c.args.command c.args.self.now c.args.place c.args.word.now (sym c.begins_arguments.ensures ∙ c.if-begins_arguments.false) (sym c.is_option.ensures ∙ c.if-is_option.false)))
    c.read_plain.ensures
