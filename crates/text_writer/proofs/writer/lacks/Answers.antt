-- `text_writer::lacks` meets its contract: it is the test itself.
use mathlib.Core.Path.{refl}
use Rattle.text_writer.proofs.writer.lacks.Goals as goal

pub returns : goal.returns
returns c = refl
