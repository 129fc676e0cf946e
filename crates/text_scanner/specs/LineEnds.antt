-- What the answers for the ends of lines stand for.
-- Assumes nothing.
use Rattle.std.specs.Prelude.{ℕ, Option}
use Rattle.model.specs.Plan as m
use Rattle.plan.specs.declared.Pick.{Pick}
use Rattle.plan.specs.declared.Waits.{Waits}
use Rattle.plan.specs.declared.When.{When}
use Rattle.plan.specs.Memory.{pick_of, waits_of, when_of}
use Rattle.text_scanner.specs.Place.{Place, placed}

abbrev pub pick : Option (Pick × ℕ) → Place m.Pick
pick r = placed pick_of r

abbrev pub waits : Option (Waits × ℕ) → Place m.Waits
waits r = placed waits_of r

abbrev pub when : Option (When × ℕ) → Place m.When
when r = placed when_of r
