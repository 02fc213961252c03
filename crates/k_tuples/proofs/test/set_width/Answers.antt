-- `k_tuples::test::set_width` meets its contract. Assumes nothing.
use mathlib.Core.Path.{sym, ap, ◌∙◌}
use native.Mathlib.Omega.{arith}
use Rattle.k_tuple.specs.Strings.{width_field}
use Rattle.k_tuple.specs.Packed.{number_of}
use Rattle.k_tuple.specs.declared.Terminals.{Terminals}
use Rattle.k_tuples.specs.Held.{first_width}
use Rattle.k_tuples.proofs.Words.{rest-member, rest-none}
use Rattle.k_tuples.proofs.test.set_width.Goals as goal

pub returns-then-counted-eq0 : goal.returns-then-counted-eq0
returns-then-counted-eq0 c = sym (ap first_width (rest-none c.args.words.now 0 (omega arith)))

pub returns : goal.returns
returns c =
    c.width.ensures ∙ ap (λ (t : Terminals). width_field (number_of t)) c.read.ensures
    ∙ sym (ap first_width (rest-member c.args.words.now 0 (omega (arith, c.if-counted-eq0.false))))
