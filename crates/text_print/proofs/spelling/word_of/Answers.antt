use Rattle.std.proofs.Common.{◌≡◌, ℕ, Option, List, ap, ap₂, sym, ◌∙◌}
use Rattle.std.specs.Prelude.{slice_get, option_map}
use Rattle.text_model.specs.Words.{Word, dictionary}
use Rattle.text_print.specs.ByClass.{word_at, word_place, as_word, spelled_at, is_short_word}
use Rattle.text_print.proofs.Bounds.{short_dictionary}
use Rattle.text_print.proofs.ByClass.{found, words_at, by_place, short_word}
use Rattle.text_print.proofs.spelling.word_of.Goals as goal

is_word_at : (c : goal.After-get) → word_at c.get.result ≡ slice_get dictionary (word_place c.args.class c.args.value)
is_word_at c =
    ap (option_map as_word) (found c.other_words.result.now c.word_place.result c.get.result c.get.ensures.lookup.3)
    ∙ words_at c.other_words.result.now c.word_place.result
    ∙ ap₂ (λ (ws : List Word) (k : ℕ). slice_get ws k) c.other_words.ensures c.word_place.ensures

pub returns-clause-spelled : goal.returns-clause-spelled
returns-clause-spelled c = by_place c.args.class c.args.value ∙ ap (λ (o : Option Word). spelled_at o c.args.class c.args.value) (sym (is_word_at c))

pub returns-clause-short : goal.returns-clause-short
returns-clause-short c = ap is_short_word (is_word_at c) ∙ short_word dictionary (word_place c.args.class c.args.value) short_dictionary
