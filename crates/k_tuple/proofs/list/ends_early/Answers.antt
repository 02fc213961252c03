-- `k_tuple::list::ends_early` meets its contract. Assumes nothing.
use Rattle.std.proofs.Common.{ap, ◌∙◌, sym}
use Rattle.k_tuple.specs.Strings.{early}
use Rattle.k_tuple.proofs.Lists.{early-front}
use Rattle.k_tuple.proofs.list.ends_early.Goals as goal

pub returns-in-Some : goal.returns-in-Some
returns-in-Some c =
    c.contains.ensures.value ∙ sym (ap early c.in-Some.ensures.cases.0 ∙ early-front c.in-Some.before.now c.in-Some.field-0-0.now)
