-- `engine::run_clean` meets its contract. Assumes nothing.
use Rattle.engine.proofs.Wiping.{clean, run-wiped}
use borrow.Author.Rules.{rules}
use Rattle.engine.proofs.run_clean.Goals as goal

pub run-requires : goal.run-requires
run-requires c = (search rules, search clean)

pub returns : goal.returns
returns c = search run-wiped
