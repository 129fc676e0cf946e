-- `arrays::copy_part` meets its contract: a part that is lent is the part of its list.
use Rattle.std.proofs.Common.{ap, ◌∙◌, ◌+◌}
use Rattle.std.proofs.lemmas.Slice.{between_is}
use lib.Seq.{sets}
use Rattle.arrays.proofs.copying.copy_part.Goals as goal

pub returns : goal.returns
returns c =
    let a = c.args in
    c.copy_at.ensures ∙ ap (sets a.to.now 0) (between_is a.from.now a.at (a.at + a.n))
