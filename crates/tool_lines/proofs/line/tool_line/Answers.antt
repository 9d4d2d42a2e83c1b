use Rattle.std.proofs.Common.{string_bytes}
use Rattle.tool_lines.proofs.Places.{string_places}
use Rattle.tool_lines.proofs.line.tool_line.Goals as goal

pub returns-clause-places : goal.returns-clause-places
returns-clause-places c = string_places string_bytes c.args.words.now c.line_of_words.result c.line_of_words.ensures
