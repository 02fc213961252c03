-- `tables::Notes::begin_rule` meets its contract. Assumes nothing.
use Rattle.abnf_tables.proofs.TableLaws.{ruled-again, ruled-full, ruled-begun}
use Rattle.abnf_tables.proofs.tables.Notes.begin_rule.Goals as goal

pub returns-then-is_among : goal.returns-then-is_among
returns-then-is_among c = search ruled-again

pub returns-then-self-ge128 : goal.returns-then-self-ge128
returns-then-self-ge128 c = search ruled-full

pub returns : goal.returns
returns c = search ruled-begun
