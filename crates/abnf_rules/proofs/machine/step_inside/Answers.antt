-- `machine::step_inside` meets its contract: one case of `inside` for each mode. Assumes nothing.
use Rattle.abnf_rules.proofs.MachineLaws.{mode-sane, mode-held, inside-blank, inside-word, inside-equals, inside-want, inside-after, inside-spaced}
use borrow.Author.Rules.{rules}
use Rattle.abnf_rules.proofs.machine.step_inside.Goals as goal

pub step_naming-requires : goal.step_naming-requires
step_naming-requires c = (mode-sane _ _ c.requires.0 _ c.in-Naming.is, mode-held _ _ c.requires.0 _ c.in-Naming.is)

pub step_wanted-requires : goal.step_wanted-requires
step_wanted-requires c = (mode-sane _ _ c.requires.0 _ c.in-Want.is, search rules)

pub step_name-requires : goal.step_name-requires
step_name-requires c = (mode-sane _ _ c.requires.0 _ c.in-Name.is, mode-held _ _ c.requires.0 _ c.in-Name.is)

pub step_quote-requires : goal.step_quote-requires
step_quote-requires c = (mode-sane _ _ c.requires.0 _ c.in-Quote.is, mode-held _ _ c.requires.0 _ c.in-Quote.is)

pub step_behind-requires : goal.step_behind-requires
step_behind-requires c = mode-sane _ _ c.requires.0 _ c.in-After.is

pub step_spaced-requires : goal.step_spaced-requires
step_spaced-requires c = (mode-sane _ _ c.requires.0 _ c.in-Spaced.is, search rules)

pub returns-in-Blank : goal.returns-in-Blank
returns-in-Blank c = search inside-blank

pub returns-in-Naming : goal.returns-in-Naming
returns-in-Naming c = search inside-word

pub returns-in-Equals : goal.returns-in-Equals
returns-in-Equals c = search inside-equals

pub returns-in-Want : goal.returns-in-Want
returns-in-Want c = search inside-want

pub returns-in-Name : goal.returns-in-Name
returns-in-Name c = search inside-word

pub returns-in-Quote : goal.returns-in-Quote
returns-in-Quote c = search inside-word

pub returns-in-After : goal.returns-in-After
returns-in-After c = search inside-after

pub returns-in-Spaced : goal.returns-in-Spaced
returns-in-Spaced c = search inside-spaced
