-- `text_lines::put_labelled` meets its contract: the label is put, then the number.
use Rattle.text_lines.proofs.Puts.{put_then, counts_first, counts_rest}
use Rattle.text_lines.proofs.put_labelled.Goals as goal

pub put_word-end-requires : goal.put_word-end-requires
put_word-end-requires c = counts_first _ _ c.requires

pub put_number-requires : goal.put_number-requires
put_number-requires c =
    counts_rest c.put_word-end.ensures _ c.requires

pub returns : goal.returns
returns c =
    put_then c.put_word-end.ensures c.put_number.ensures
