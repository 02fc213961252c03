-- `first::right::join_codes` meets its contract. Assumes nothing.
use mathlib.Core.Path.{sym, ap, ◌∙◌, subst}
use Rattle.first_theory.specs.First.{Part, single}
use Rattle.first.specs.Steps.{InWork, PartIn, part_join}
use Rattle.first.proofs.Codes.{one-even, run_of}
use Rattle.first.proofs.right.join_codes.Goals as goal

pub join_nonterminal-requires : goal.join_nonterminal-requires
join_nonterminal-requires c =
    let a = c.args in
    (c.requires.0, subst (PartIn a.u) (one-even a.part.now c.requires.1.0 c.if-code-eq0.true ∙ ap single (sym c.index_of.ensures)) c.requires.1.1)

pub returns-then-code-eq0 : goal.returns-then-code-eq0
returns-then-code-eq0 c =
    let a = c.args in
    let j = c.join_nonterminal in
    subst (λ (q : Part). InWork a.u a.k a.u.n 0 (part_join a.u a.at a.k a.res.now q) j.result a.scratch.now j.new.scratch)
    (ap single c.index_of.ensures ∙ sym (one-even a.part.now c.requires.1.0 c.if-code-eq0.true))
    j.ensures

pub join_run-requires : goal.join_run-requires
join_run-requires c =
    let a = c.args in
    (c.requires.0, (c.requires.1.0, subst (PartIn a.u) (run_of a.part.now c.requires.1.0 c.if-code-eq0.false) c.requires.1.1))

pub returns : goal.returns
returns c =
    let a = c.args in
    let j = c.join_run in
    subst (λ (q : Part). InWork a.u a.k a.u.n 0 (part_join a.u a.at a.k a.res.now q) j.result a.scratch.now j.new.scratch)
    (sym (run_of a.part.now c.requires.1.0 c.if-code-eq0.false))
    j.ensures
