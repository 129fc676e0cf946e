-- `c_check::ill_formed_at` meets its contract: the copied words are the entry's.
use mathlib.Core.Path.{ap, ◌∙◌}
use Rattle.model.specs.Firmware.{words_of}
use Rattle.plan_index.specs.Index.{laid}
use Rattle.c_words.proofs.Entry.{entry_copied}
use Rattle.checker_rules.specs.EntryForm.{is_ill_formed}
use Rattle.c_check.proofs.many_entries.ill_formed_at.Goals as goal

pub returns : goal.returns
returns c =
    let a = c.args in
    c.ill_formed.ensures ∙ ap (is_ill_formed (laid a.index.now) a.combinations) (entry_copied (words_of a.bytes.now) a.at c.entry_of-five.ensures)
