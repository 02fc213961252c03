-- `engine::on_table` meets its contract. Assumes nothing.
use mathlib.Core.Path.{◌≡◌}
use borrow.Author.Rules.{rules}
use Rattle.std.specs.Prelude.{Err}
use Rattle.engine.proofs.Tables.{read-refused, read-accepted, read_length, read-ready}
use Rattle.engine.proofs.on_table.Goals as goal

pub returns-in_err-read : goal.returns-in_err-read
returns-in_err-read c =
    let p = c.requires in
    let e : c.from_residual.result ≡ Err c.in_err-read.field-0.0 = search rules in
    rw e (read-refused _ _ _ _ _ p.0.0 p.0.1 p.1.0 p.1.1 _ c.in_err-read.ensures.reads)

pub slice_bounds-used-end : goal.slice_bounds-used-end
slice_bounds-used-end c = let p = c.requires in let r = c.in_ok-read in read_length _ _ c.args.table.now c.args.res.now c.args.scratch.now p.0.0 p.0.1 p.1.0 p.1.1 r.read _ r.ensures.reads c.from.ensures r.ensures.sound

pub on_grammar-requires : goal.on_grammar-requires
on_grammar-requires c = let p = c.requires in let r = c.in_ok-read in read-ready _ _ c.args.table.now c.args.res.now c.args.scratch.now p.0.0 p.0.1 p.1.0 p.1.1 r.read _ r.ensures.reads c.from.ensures r.ensures.sound

pub returns : goal.returns
returns c = let p = c.requires in let r = c.in_ok-read in read-accepted _ _ _ _ _ p.0.0 p.0.1 p.1.0 p.1.1 r.read _ r.ensures.reads c.from.ensures c.on_grammar.ensures
