-- `grammar::put_production` meets its contract. Assumes nothing.
use Rattle.abnf.proofs.GrammarLaws.{production-put}
use Rattle.abnf.proofs.grammar.put_production.Goals as goal

pub returns : goal.returns
returns c = search production-put
