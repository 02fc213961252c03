-- `k_joins::runs::join_runs` meets its contract. Assumes nothing.
use Rattle.k_joins.proofs.Running.{steps-end}
use Rattle.k_joins.proofs.Joining.{second_on, left_on, ToJoin, stay-more, stay-full, second_more, second-full, last_more, last-full}
use mathlib.Core.List.{[]}
use borrow.Author.Rules.{rules}
use Rattle.k_joins.proofs.runs.join_runs.Goals as goal
use Rattle.k_joins.proofs.runs.join_runs.Goals.{In_ok-join_stay, In_ok-join_second, In_ok-join_left}

-- what has been added: what stays, the second set, and what is left
stays : (c : In_ok-join_stay) → let a = c.args in ToJoin a.k c.count-old.result a.xs.now a.ys.now a.out.now (second_on a.k a.xs.now a.ys.now) c.join_stay.new.out
stays c = stay-more c.requires.1 c.requires.0.0 c.count-old.ensures c.join_stay.ensures c.in_ok-join_stay.was

seconds : (c : In_ok-join_second) → let a = c.args in ToJoin a.k c.count-old.result a.xs.now a.ys.now a.out.now (left_on a.k a.xs.now a.ys.now) c.join_second.new.out
seconds c = second_more c.requires.1 (stays (goal.at.In_ok-join_second c).In_ok-join_stay) c.join_second.ensures c.in_ok-join_second.was

lasts : (c : In_ok-join_left) → let a = c.args in ToJoin a.k c.count-old.result a.xs.now a.ys.now a.out.now [] c.join_left.new.out
lasts c = last_more c.requires.1 (seconds (goal.at.In_ok-join_left c).In_ok-join_second) c.join_left.ensures c.in_ok-join_left.was

pub returns-in_err-join_stay : goal.returns-in_err-join_stay
returns-in_err-join_stay c = stay-full c.requires.1 c.requires.0.0 c.count-old.ensures c.join_stay.ensures c.in_err-join_stay.was (search rules)

pub join_second-requires : goal.join_second-requires
join_second-requires c = (((stays (goal.at.join_second-requires c).In_ok-join_stay).is_set, (search rules, search rules)), c.requires.1)

pub returns-in_err-join_second : goal.returns-in_err-join_second
returns-in_err-join_second c = second-full c.requires.1 (stays (goal.at.returns-in_err-join_second c).In_ok-join_stay) c.join_second.ensures c.in_err-join_second.was (search rules)

pub join_left-requires : goal.join_left-requires
join_left-requires c = (((seconds (goal.at.join_left-requires c).In_ok-join_second).is_set, (search rules, search rules)), c.requires.1)

pub returns-in_err-join_left : goal.returns-in_err-join_left
returns-in_err-join_left c = last-full c.requires.1 (seconds (goal.at.returns-in_err-join_left c).In_ok-join_second) c.join_left.ensures c.in_err-join_left.was (search rules)

pub growth-requires : goal.growth-requires
growth-requires c = (lasts (goal.at.growth-requires c).In_ok-join_left).is_set

pub returns : goal.returns
returns c = steps-end (lasts (goal.at.returns c).In_ok-join_left) c.growth.ensures
