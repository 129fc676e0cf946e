-- What a line writer is once some bytes are put.
-- Assumes nothing.
use Rattle.std.specs.Prelude.{List, ℕ, ◌+◌, length}
use Rattle.std.proofs.lemmas.List.Edits.{sets}
use denote.Ref.{at_last}
use Rattle.text_lines.specs.declared.Writer.{Writer}

abbrev pub put_on : Writer → List ℕ → Writer
put_on w bytes = record { out = at_last w.out (sets w.out.now w.at bytes); at = w.at + length bytes }
