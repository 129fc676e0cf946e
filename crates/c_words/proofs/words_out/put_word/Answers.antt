-- `c_words::put_word` meets its contract: a copy over a part of the lent bytes is a run of stores.
use Rattle.std.proofs.Common.{◌∙◌, arith}
use Rattle.c_words.specs.Bytes.{word_bytes}
use Rattle.c_words.proofs.Writing.{store_word}
use Rattle.c_words.proofs.words_out.put_word.Goals as goal

pub returns : goal.returns
unfolding word_bytes
returns c = store_word c.args.out.now c.args.at _ c.args.word _ (c.copy_from_slice.ensures.after ∙ c.to_le_bytes.ensures) (omega arith) c.requires
