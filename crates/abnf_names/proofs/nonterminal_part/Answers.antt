-- `nonterminal_part` meets its contract. Assumes nothing.
use mathlib.Core.Path.{◌≡◌, sym, ◌∙◌, subst}
use Rattle.abnf_names.specs.Noted.{part_says}
use Rattle.abnf_names.specs.Parts.{Inside, nonterminal_part}
use Rattle.abnf_names.proofs.PartLaws.{none_inside, refused-nonterminal, whole-nonterminal, nonterminal-in-text, names-few, names-inside}
use Rattle.abnf_names.proofs.nonterminal_part.Goals as goal

pub returns-then-is_err-clause-says : goal.returns-then-is_err-clause-says
returns-then-is_err-clause-says c = search refused-nonterminal

pub returns-then-is_err-clause-inside : goal.returns-then-is_err-clause-inside
returns-then-is_err-clause-inside c = search none_inside

pub nonterminal_in-requires : goal.nonterminal_in-requires
nonterminal_in-requires c = (search names-few, search names-inside)

pub returns-clause-says : goal.returns-clause-says
returns-clause-says c =
    let h : part_says c.nonterminal_in.result ≡ nonterminal_part c.args.text.now c.args.number = search whole-nonterminal in
    c.given.ensures.says ∙ h

pub returns-clause-inside : goal.returns-clause-inside
returns-clause-inside c =
    let h : Inside c.args.text.now (part_says c.nonterminal_in.result) = search nonterminal-in-text in
    subst (Inside c.args.text.now) (sym c.given.ensures.says) h
