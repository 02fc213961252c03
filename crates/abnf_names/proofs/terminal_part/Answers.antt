-- `terminal_part` meets its contract. Assumes nothing.
use mathlib.Core.Path.{◌≡◌, sym, ◌∙◌, subst}
use Rattle.abnf_names.specs.Noted.{part_says}
use Rattle.abnf_names.specs.Parts.{Inside, terminal_part}
use Rattle.abnf_names.proofs.PartLaws.{none_inside, refused-terminal, whole-terminal, terminal-in-text, literals-inside}
use Rattle.abnf_names.proofs.terminal_part.Goals as goal

pub returns-then-is_err-clause-says : goal.returns-then-is_err-clause-says
returns-then-is_err-clause-says c = search refused-terminal

pub returns-then-is_err-clause-inside : goal.returns-then-is_err-clause-inside
returns-then-is_err-clause-inside c = search none_inside

pub terminal_in-requires : goal.terminal_in-requires
terminal_in-requires c = search literals-inside

pub returns-clause-says : goal.returns-clause-says
returns-clause-says c =
    let h : part_says c.terminal_in.result ≡ terminal_part c.args.text.now c.args.number = search whole-terminal in
    c.given.ensures.says ∙ h

pub returns-clause-inside : goal.returns-clause-inside
returns-clause-inside c =
    let h : Inside c.args.text.now (part_says c.terminal_in.result) = search terminal-in-text in
    subst (Inside c.args.text.now) (sym c.given.ensures.says) h
