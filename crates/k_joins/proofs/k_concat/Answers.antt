-- `k_joins::k_concat` meets its contract. Assumes nothing.
use mathlib.Core.Path.{◌≡◌, sym, ap, ◌∙◌}
use mathlib.Core.Bool.{◌||◌}
use mathlib.Core.List.Memᴰ.{not-nil}
use mathlib.Core.List.{[]}
use lib.Dec.{eqb}
use lib.ListN.{length}
use Rattle.std.specs.Prelude.{Err}
use borrow.Author.Rules.{rules}
use Rattle.k_tuples.specs.Words.{room_of, grown}
use Rattle.k_tuples.specs.Held.{set_in}
use Rattle.k_tuples.specs.Answers.{set_on_paper, common_width, no_words, Paired}
use Rattle.k_tuples.specs.Sets.{join_sets}
use Rattle.k_tuples.proofs.Held.{BecameAny, holds-set, holds-number, as-any, any_open, can-join, joins-held, joined-sets, can-finish}
use Rattle.k_tuples.proofs.Answers.{has_room, set_told, set_told_lem, stops, stops-words, passes, passes-words, length-of, finished-of}
use Rattle.k_joins.specs.Answers.{join_set, join_answer, join_words}
use Rattle.k_joins.proofs.k_concat.Goals as goal
use Rattle.k_joins.proofs.k_concat.Goals.{After-join_sets-g, After-finish, In_ok-check}

-- where nothing is refused
paired : (c : In_ok-check) → let a = c.args in Paired a.k (no_words a.a.now || no_words a.b.now || eqb (length a.out.now) 0) a.a.now a.b.now
paired c = c.check.ensures.paired c.in_ok-check.was

pub returns-in_err-check-clause-answer : goal.returns-in_err-check-clause-answer
unfolding join_answer
returns-in_err-check-clause-answer c =
    let passed : c.from_residual.result ≡ Err c.in_err-check.field-0.0 = search rules in
    ap set_on_paper passed ∙ stops c.check.ensures c.in_err-check.was _

pub returns-in_err-check-clause-words : goal.returns-in_err-check-clause-words
unfolding join_answer join_words
returns-in_err-check-clause-words c = stops-words c.check.ensures c.in_err-check.was _ _ _ _

pub join_sets-g-requires : goal.join_sets-g-requires
join_sets-g-requires c =
    let p = paired (goal.at.join_sets-g-requires c).In_ok-check in
    (has_room _ p, (holds-set p.first, (holds-set p.second, (can-join p.short p.first p.second, holds-number p.first ∙ sym (any_open (as-any p.first) _)))))

-- what the words have become, whatever their number is
became : (c : After-join_sets-g) →
    let a = c.args in
    BecameAny a.k (common_width (set_in a.k a.a.now) (set_in a.k a.b.now)) [] (join_set a.k a.a.now a.b.now) (length a.out.now) c.join_sets-g.new.out c.join_sets-g.result
became c =
    let p = paired (goal.at.After-join_sets-g c).In_ok-check in
    let u = c.join_sets-g.ensures in
    joined-sets p.some p.short (has_room _ p) p.first p.second u.answer u.words

pub finish-requires : goal.finish-requires
finish-requires c = can-finish (became (goal.at.finish-requires c).After-join_sets-g)

-- what is told of the join, but for how it grew
told : (c : After-finish) →
    let a = c.args in
    set_told c.finish.result ≡ join_answer a.k (length a.out.now) a.a.now a.b.now
unfolding join_answer join_sets
told c =
    let p = paired (goal.at.After-finish c).In_ok-check in
    let a = c.args in
    let n = length a.out.now in
    let w = common_width (set_in a.k a.a.now) (set_in a.k a.b.now) in
    let new = joins-held [] p.some p.short tt (λ z m'. absurd (not-nil m')) p.first p.second in
    passes c.check.ensures c.in_ok-check.was _ (ap set_told (c.finish.ensures.answer ∙ c.join_sets-g.ensures.answer ∙ ap (grown (room_of n) 0) (length-of w (join_set a.k a.a.now a.b.now) new)) ∙ set_told_lem (room_of n) 0 _)

-- and what is written
written_out : (c : After-finish) →
    let a = c.args in
    c.finish.new.set ≡ join_words a.k a.a.now a.b.now a.out.now
unfolding join_answer join_words join_sets
written_out c =
    let p = paired (goal.at.After-finish c).In_ok-check in
    let a = c.args in
    let new = joins-held [] p.some p.short tt (λ z m'. absurd (not-nil m')) p.first p.second in
    passes-words c.check.ensures c.in_ok-check.was _ _ _ _ (finished-of 0 a.out.now [] (has_room _ p) new (became (goal.at.After-finish c).After-join_sets-g) c.join_sets-g.ensures.words c.finish.ensures.words)

pub returns-in_err-finish-clause-answer : goal.returns-in_err-finish-clause-answer
returns-in_err-finish-clause-answer c =
    let passed : c.from_residual-in_err-finish.result ≡ Err c.in_err-finish.field-0.0 = search rules in
    ap set_on_paper passed ∙ ap set_told (sym c.in_err-finish.was) ∙ told (goal.at.returns-in_err-finish-clause-answer c).After-finish

pub returns-in_err-finish-clause-words : goal.returns-in_err-finish-clause-words
returns-in_err-finish-clause-words c = written_out (goal.at.returns-in_err-finish-clause-words c).After-finish

pub returns-clause-answer : goal.returns-clause-answer
returns-clause-answer c = ap set_told (sym c.in_ok-finish.was) ∙ told (goal.at.returns-clause-answer c).After-finish

pub returns-clause-words : goal.returns-clause-words
returns-clause-words c = written_out (goal.at.returns-clause-words c).After-finish
