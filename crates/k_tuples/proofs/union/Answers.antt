-- `k_tuples::union` meets its contract. Assumes nothing.
use mathlib.Core.Path.{◌≡◌, ap, ap₂, ◌∙◌}
use mathlib.Core.Bool.{◌||◌}
use lib.Dec.{ltb, eqb}
use lib.ListN.{length}
use Rattle.k_tuple.specs.Paper.{flag}
use Rattle.k_tuples.specs.Words.{number_in, room_of, grown}
use Rattle.k_tuples.specs.Held.{set_in}
use Rattle.std.specs.Prelude.{Err}
use borrow.Author.Rules.{rules}
use Rattle.k_tuples.specs.Answers.{common_width, members_in, no_words, Paired, union_on_paper, union_set, union_answer, union_words}
use Rattle.k_tuples.proofs.Held.{BecameAny, holds-set, holds-decode, union-held, united-sets, can-finish}
use Rattle.k_tuples.proofs.Answers.{has_room, union-told, stops, stops-words, passes, passes-words, length-of, finished-of}
use Rattle.k_tuples.proofs.union.Goals as goal
use Rattle.k_tuples.proofs.union.Goals.{After-union_sets-g, In_ok-check}

-- where nothing is refused
paired : (c : In_ok-check) → let a = c.args in Paired a.k (no_words a.a.now || no_words a.b.now || eqb (length a.out.now) 0) a.a.now a.b.now
paired c = c.check.ensures.paired c.in_ok-check.was

pub returns-in_err-check-clause-answer : goal.returns-in_err-check-clause-answer
unfolding union_answer union_words
returns-in_err-check-clause-answer c =
    let passed : c.from_residual.result ≡ Err c.in_err-check.field-0.0 = search rules in
    let r = c.check.ensures in ap union_on_paper passed ∙ stops r c.in_err-check.was _

pub returns-in_err-check-clause-words : goal.returns-in_err-check-clause-words
unfolding union_answer union_words
returns-in_err-check-clause-words c = let r = c.check.ensures in stops-words r c.in_err-check.was _ _ _ _

pub union_sets-g-requires : goal.union_sets-g-requires
union_sets-g-requires c =
    let p = paired (goal.at.union_sets-g-requires c).In_ok-check in
    (has_room _ p, (holds-set p.first, holds-set p.second))

-- what the words have become, whatever their number is
became : (c : After-union_sets-g) →
    let a = c.args in
    let ka = members_in (set_in a.k a.a.now) in
    BecameAny a.k (common_width (set_in a.k a.a.now) (set_in a.k a.b.now)) ka (union_set a.k a.a.now a.b.now) (length a.out.now) c.union_sets-g.new.out c.union_sets-g.result
became c =
    let p = paired (goal.at.After-union_sets-g c).In_ok-check in
    let u = c.union_sets-g.ensures in
    united-sets (has_room _ p) p.first p.second u.answer u.words

pub finish-requires : goal.finish-requires
finish-requires c = can-finish (became (goal.at.finish-requires c).After-union_sets-g)

pub returns-clause-answer : goal.returns-clause-answer
unfolding union_answer union_words
returns-clause-answer c =
    let p = paired (goal.at.returns-clause-answer c).In_ok-check in
    let a = c.args in
    let n = length a.out.now in
    let r = c.check.ensures in
    let w = common_width (set_in a.k a.a.now) (set_in a.k a.b.now) in
    let set = union_set a.k a.a.now a.b.now in
    let new = union-held p.first p.second in
    let old = holds-decode p.first in
    let u = c.union_sets-g.ensures in
    let e = c.finish.ensures in passes r c.in_ok-check.was _ (ap union_on_paper (e.answer ∙ u.answer ∙ ap₂ (grown (room_of n)) (length-of w (members_in (set_in a.k a.a.now)) old) (length-of w set new)) ∙ union-told (room_of n) _ _)

pub returns-clause-words : goal.returns-clause-words
unfolding union_answer union_words
returns-clause-words c =
    let p = paired (goal.at.returns-clause-words c).In_ok-check in
    let a = c.args in
    let n = length a.out.now in
    let r = c.check.ensures in
    let w = common_width (set_in a.k a.a.now) (set_in a.k a.b.now) in
    let set = union_set a.k a.a.now a.b.now in
    let new = union-held p.first p.second in
    let old = holds-decode p.first in
    let u = c.union_sets-g.ensures in
    let e = c.finish.ensures in
    passes-words r c.in_ok-check.was _ _ _ _ (finished-of (number_in a.a.now) a.out.now (flag (ltb (length (members_in (set_in a.k a.a.now))) (length set))) (has_room _ p) new (became (goal.at.returns-clause-words c).After-union_sets-g) u.words e.words)
