-- `first::right::put_codes` meets its contract. Assumes nothing.
use mathlib.Core.Path.{sym, ap, ◌∙◌, subst}
use Rattle.first_theory.specs.First.{single}
use Rattle.first.specs.Steps.{PartIn}
use Rattle.first.proofs.Codes.{one-even, run_of}
use Rattle.first.proofs.Walk.{placed-part}
use Rattle.first.proofs.right.put_codes.Goals as goal

pub put_nonterminal-requires : goal.put_nonterminal-requires
put_nonterminal-requires c =
    let a = c.args in
    (c.requires.0, subst (PartIn a.u) (one-even a.part.now c.requires.1.0 c.if-code-eq0.true ∙ ap single (sym c.index_of.ensures)) c.requires.1.1)

pub returns-then-code-eq0 : goal.returns-then-code-eq0
returns-then-code-eq0 c =
    placed-part (ap single c.index_of.ensures ∙ sym (one-even c.args.part.now c.requires.1.0 c.if-code-eq0.true))
    c.put_nonterminal.ensures

pub put_run-requires : goal.put_run-requires
put_run-requires c =
    let a = c.args in
    (c.requires.0, (c.requires.1.0, subst (PartIn a.u) (run_of a.part.now c.requires.1.0 c.if-code-eq0.false) c.requires.1.1))

pub returns : goal.returns
returns c = placed-part (sym (run_of c.args.part.now c.requires.1.0 c.if-code-eq0.false)) c.put_run.ensures
