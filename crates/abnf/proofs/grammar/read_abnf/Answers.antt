-- `grammar::read_abnf` meets its contract. Assumes nothing.
use Rattle.abnf.proofs.WholeLaws.{whole-refused, refused-kept, whole-scanned, reads-abnf}
use mathlib.Core.Path.{refl}
use Rattle.abnf.proofs.grammar.read_abnf.Goals as goal

pub returns-in_err-scan : goal.returns-in_err-scan
returns-in_err-scan c = reads-abnf _ _ _ _ (search (whole-refused, c.in_err-scan.was)) (search (refused-kept, c.in_err-scan.was)) refl

pub checked_table-requires : goal.checked_table-requires
checked_table-requires c = search (whole-scanned, c.in_ok-scan.was)

pub returns : goal.returns
returns c = search reads-abnf
