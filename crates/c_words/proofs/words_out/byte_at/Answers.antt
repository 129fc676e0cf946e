-- `c_words::byte_at` meets its contract: byte i is byte i % 4 of word i / 4.
use Rattle.std.proofs.Common.{ℕ, ◌%◌, List, get_or, sym, ap, ◌∙◌}
use Rattle.c_words.specs.Bytes.{word_bytes}
use Rattle.c_words.proofs.Writing.{bytes_at}
use Rattle.c_words.proofs.words_out.byte_at.Goals as goal

pub returns : goal.returns
unfolding word_bytes
returns c =
    ap (λ (bytes : List ℕ). get_or bytes (c.args.i % 4) 0) c.to_le_bytes.ensures
    ∙ sym (bytes_at c.args.words.now c.args.i c.requires)
