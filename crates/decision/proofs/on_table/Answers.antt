-- `on_table` meets its contract. Assumes nothing.
use mathlib.Core.Path.{◌≡◌}
use borrow.Author.Rules.{rules}
use Rattle.std.specs.Prelude.{Err}
use Rattle.engine.proofs.Tables.{read_length, read-ready}
use Rattle.decision.proofs.Finishing.{table-refused, on-table, table-grammar}
use Rattle.decision.proofs.on_table.Goals as goal

pub returns-in_err-read : goal.returns-in_err-read
returns-in_err-read c =
    let e : c.from_residual.result ≡ Err c.in_err-read.field-0.0 = search rules in
    rw e (table-refused _ _ _ c.requires.0 c.requires.1 _ c.in_err-read.ensures.reads)

pub slice_bounds-on_grammar-end : goal.slice_bounds-on_grammar-end
slice_bounds-on_grammar-end c = let p = c.requires in let r = c.in_ok-read in read_length _ _ c.args.table.now c.args.res.now c.args.scratch.now p.0.0 p.0.1 p.1.0 p.1.1 r.read _ r.ensures.reads c.from-end.ensures r.ensures.sound

pub on_grammar-requires : goal.on_grammar-requires
on_grammar-requires c =
    let p = c.requires in
    let r = c.in_ok-read in
    let says = r.ensures.reads in
    let end = c.from-end.ensures in
    ((read-ready _ _ c.args.table.now c.args.res.now c.args.scratch.now p.0.0 p.0.1 p.1.0 p.1.1 r.read _ says end r.ensures.sound, on-table c.args.table.now r.read _ says end _ _ p.0.0 p.0.1 p.1.0 p.1.1), table-grammar c.args.table.now r.read _ says end)
