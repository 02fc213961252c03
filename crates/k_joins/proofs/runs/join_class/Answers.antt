-- `k_joins::runs::join_class` meets its contract. Its loop is a `Filling` by parts of the second set. Assumes nothing.
use Rattle.k_joins.specs.Parts.{between}
use Rattle.k_tuples.proofs.Filling.{fill_end}
use Rattle.k_joins.proofs.Running.{chunk-taken, chunk-full}
use borrow.Author.Rules.{rules}
use Rattle.k_joins.proofs.runs.join_class.Goals as goal

pub returns-in_err-join_chunk-clause-grew : goal.returns-in_err-join_chunk-clause-grew
returns-in_err-join_chunk-clause-grew c =
    chunk-full c.args.k (between c.args.class.from c.args.class.to c.args.xs.now) c.loop-j.invariant.0 c.chunk_end-f.ensures c.join_chunk.ensures.grew c.in_err-join_chunk.was (search rules)

pub loop-j-preserved : goal.loop-j-preserved
loop-j-preserved c = (
  chunk-taken c.args.k (between c.args.class.from c.args.class.to c.args.xs.now) c.loop-j.invariant.0 c.chunk_end-f.ensures c.join_chunk.ensures.grew c.in_ok-join_chunk.was,
  c.join_chunk.ensures.cleared,
)

pub returns-clause-grew : goal.returns-clause-grew
returns-clause-grew c = search fill_end
