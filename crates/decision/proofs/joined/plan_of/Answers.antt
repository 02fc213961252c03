-- `joined::plan_of` meets its contract. Assumes nothing.
use Rattle.decision.proofs.Onward.{plan-ready, plan-read}
use Rattle.decision.proofs.joined.plan_of.Goals as goal

pub plan_in-requires : goal.plan_in-requires
plan_in-requires c = let r = c.in-Ok in plan-ready c.requires r.read c.read_grammar.new.words r.ensures.reads c.from-end.ensures r.ensures.sound

pub returns : goal.returns
returns c = let r = c.in-Ok in plan-read c.requires r.read c.read_grammar.new.words r.ensures.reads c.from-end.ensures r.ensures.sound c.plan_in.ensures
