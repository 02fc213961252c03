-- `nonterminal_in` meets its contract. Assumes nothing.
use Rattle.abnf_names.proofs.PartLaws.{by_name, by-group, by-none}
use Rattle.abnf_names.proofs.nonterminal_in.Goals as goal

pub returns-then-number-c : goal.returns-then-number-c
returns-then-number-c c = search by_name

pub returns-then-number-c-2 : goal.returns-then-number-c-2
returns-then-number-c-2 c = search by-group

pub returns : goal.returns
returns c = search by-none
