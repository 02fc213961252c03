-- `exports::rules::jomankitu_read_abnf` meets its contract. Assumes nothing.
use Rattle.exports.proofs.RulesTold.{read_short, read_whole}
use Rattle.exports.proofs.rules.jomankitu_read_abnf.Goals as goal

pub returns-then-answer-lt2 : goal.returns-then-answer-lt2
returns-then-answer-lt2 c = search read_short

pub returns : goal.returns
returns c = search read_whole
