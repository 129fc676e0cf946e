-- `c_words::how_many` meets its contract: four bytes make a word.
use mathlib.Core.Path.{sym}
use Rattle.c_words.proofs.Reading.{words_count}
use Rattle.c_words.proofs.words.how_many.Goals as goal

pub returns : goal.returns
returns c = sym (words_count c.args.bytes.now)
