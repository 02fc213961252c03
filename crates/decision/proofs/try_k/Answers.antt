-- `try_k` meets its contract: the engine's promise, and then its sets are tried, or its refusal is passed on. Assumes nothing.
use mathlib.Core.Path.{sym, ◌∙◌}
use Rattle.decision.proofs.Answering.{engine-err, engine-ok, engine-refused, engine-ready, engine-block, engine-tried}
use Rattle.decision.proofs.try_k.Goals as goal

pub pass_on-requires : goal.pass_on-requires
pass_on-requires c = let s = c.requires in (s.0.0.fit.few, s.1)

pub returns-then-is_err : goal.returns-then-is_err
returns-then-is_err c =
    let s = c.requires in
    let ne = engine-err c.lookahead_sets.result (sym c.is_err.ensures.value ∙ c.if-is_err.true) in
    rw c.pass_on.ensures.ks (engine-refused s.0.0 s.0.1.0 s.0.1.1 c.lookahead_sets.ensures.promised ne _ c.pass_on.ensures.passed)

pub try_sets-requires : goal.try_sets-requires
try_sets-requires c =
    let s = c.requires in
    let call = c.lookahead_sets.ensures.promised in
    let z = engine-ok c.lookahead_sets.result (sym c.is_err.ensures.value ∙ c.if-is_err.false) in
    ((engine-ready s.0.0 s.0.1.0 s.0.1.1 call z, s.0.0.fit), (engine-block s.0.0 s.0.1.0 s.0.1.1 call z c.lookahead_sets.auto.scratch, s.1))

pub returns : goal.returns
returns c =
    let s = c.requires in
    let z = engine-ok c.lookahead_sets.result (sym c.is_err.ensures.value ∙ c.if-is_err.false) in
    engine-tried s.0.0 s.0.1.0 s.0.1.1 c.lookahead_sets.ensures.promised z c.try_sets.ensures
