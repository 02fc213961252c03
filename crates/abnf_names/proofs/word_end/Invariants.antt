-- What the loop of `abnf_names::word_end` keeps.
use Rattle.abnf_names.proofs.PartLaws.{Ends}
use Rattle.abnf_names.proofs.word_end.Given as goal

abbrev pub invariant-loop-at : goal.invariant-loop-at
invariant-loop-at l = Ends l.text l.quoted l.from l.at
