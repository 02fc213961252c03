-- `tables::is_among` meets its contract. Assumes nothing.
use Rattle.abnf_tables.proofs.TableLaws.{among-any}
use mathlib.Core.Path.{◌∙◌}
use Rattle.abnf_tables.proofs.tables.is_among.Goals as goal

pub returns : goal.returns
returns c = rw (← c.from.ensures) (c.contains.ensures.value ∙ among-any c.args.k _)
