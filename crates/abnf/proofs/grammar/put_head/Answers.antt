-- `grammar::put_head` meets its contract. Assumes nothing.
use Rattle.abnf.proofs.GrammarLaws.{head-put}
use Rattle.abnf.proofs.grammar.put_head.Goals as goal

pub returns : goal.returns
returns c = search head-put
