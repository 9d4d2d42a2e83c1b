use Rattle.std.proofs.Common.{◌/◌}
use Rattle.active_lanes.proofs.KeptWords.{whole_word, no_word}
use Rattle.active_lanes.proofs.kept_words.kept_word.Goals as goal

pub returns-then-is_whole : goal.returns-then-is_whole
returns-then-is_whole c = whole_word (c.args.e / 8) c.args.field c.args.word (c.is_whole.ensures c.if-is_whole.true)

pub returns-then-field-eq0 : goal.returns-then-field-eq0
returns-then-field-eq0 c = no_word (c.args.e / 8) c.args.field c.args.word c.if-field-eq0.true
