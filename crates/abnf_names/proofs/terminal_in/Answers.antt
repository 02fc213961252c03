-- `terminal_in` meets its contract. Assumes nothing.
use Rattle.abnf_names.proofs.PartLaws.{low-number, by-literal, high-number}
use Rattle.abnf_names.proofs.terminal_in.Goals as goal

pub returns-then-number-lt5 : goal.returns-then-number-lt5
returns-then-number-lt5 c = search low-number

pub returns-then-x-c : goal.returns-then-x-c
returns-then-x-c c = search by-literal

pub returns : goal.returns
returns c = search high-number
