-- `made` meets its contract. Assumes nothing.
use borrow.Author.Rules.{rules}
use Rattle.std.proofs.Common.{◌≡◌, Err}
use Rattle.automaton.proofs.Counting.{total-fits}
use Rattle.automaton.proofs.Ending.{made-over, all-sized, made-short, made-all}
use Rattle.decision.proofs.Further.{regiven}
use Rattle.automaton.proofs.made.Goals as goal

pub returns-in_err-sizes : goal.returns-in_err-sizes
returns-in_err-sizes c = let e : c.from_residual.result ≡ Err c.in_err-sizes.field-0.0 = search rules in rw e (made-over _ _ _ _ c.measure_all.ensures _ c.in_err-sizes.was)

pub total-requires : goal.total-requires
total-requires c = c.requires.given.fit.few

pub returns-in_err-bytes : goal.returns-in_err-bytes
returns-in_err-bytes c =
    let m = c.measure_all in
    let s = all-sized _ c.args.out.now _ _ m.ensures c.in_ok-sizes.sizes c.in_ok-sizes.was in
    let e : c.from_residual-in_err-bytes.result ≡ Err c.in_err-bytes.field-0.0 = search rules in
    rw e (made-short _ _ _ _ s c.total.ensures m.ensures.beyond _ c.in_err-bytes.was)

pub write_all-requires : goal.write_all-requires
write_all-requires c =
    let m = c.measure_all in
    let s = all-sized _ c.args.out.now _ _ m.ensures c.in_ok-sizes.sizes c.in_ok-sizes.was in
    (record { given = regiven c.requires.given m.auto.res m.auto.scratch; known = c.requires.known }, (total-fits s c.total.ensures _ c.in_ok-bytes.was).0)

pub returns : goal.returns
returns c =
    let m = c.measure_all in
    let s = all-sized _ c.args.out.now _ _ m.ensures c.in_ok-sizes.sizes c.in_ok-sizes.was in
    made-all _ _ _ _ s c.total.ensures m.ensures.beyond _ c.in_ok-bytes.was c.write_all.ensures
