-- `blocks::one::join_more` meets its contract. Assumes nothing.
use native.Mathlib.Omega.{arith}
use Rattle.k_tuples.proofs.Held.{holds-set, can-join, joined-into, can-finish, finished-became}
use Rattle.blocks.proofs.Ones.{is-numbered, first-kept, second-kept}
use Rattle.blocks.proofs.one.join_more.Goals as goal
use Rattle.blocks.proofs.one.join_more.Goals.{then-number-eq0-via-then-number-eq0, then-number-eq0-via-else-number-eq0+then-number-eq0-2}

pub join_into-g-requires : goal.join_into-g-requires
join_into-g-requires c = let p = c.requires in (holds-set p.held, (holds-set p.first, (holds-set p.second, (can-join p.short p.first p.second, is-numbered p.first))))

pub returns-then-number-eq0 : goal.returns-then-number-eq0
returns-then-number-eq0 c =
    let p = c.requires in
    record {
      step = λ w a u v h x y. elim c.then-number-eq0.branch [
        | then-number-eq0-via-then-number-eq0 t ↦ first-kept h x p.some p.short y c.join_into-g.ensures c.number.ensures t.if-number-eq0.true
        | then-number-eq0-via-else-number-eq0+then-number-eq0-2 t ↦ second-kept h x p.some p.short y c.join_into-g.ensures t.number-else-number-eq0.ensures t.if-number-eq0-2.true
      ];
    }

pub finish-requires : goal.finish-requires
finish-requires c =
    let p = c.requires in
    can-finish (joined-into p.some p.short p.first p.second p.held c.join_into-g.ensures)

pub returns : goal.returns
returns c =
    let f = c.finish.ensures in
    let p = c.requires in
    record { step = λ w a u v h x y. finished-became (joined-into p.some p.short x y h c.join_into-g.ensures) (omega (arith, h.room)) f.answer f.words }
