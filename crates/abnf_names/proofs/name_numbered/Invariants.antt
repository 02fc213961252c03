-- What the loop of `abnf_names::name_numbered` keeps.
use Rattle.abnf_names.proofs.PartLaws.{Seeks}
use Rattle.abnf_names.proofs.name_numbered.Given as goal

abbrev pub invariant-loop-place : goal.invariant-loop-place
invariant-loop-place l = Seeks l.text l.names l.number l.place-index
