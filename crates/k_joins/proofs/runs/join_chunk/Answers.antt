-- `k_joins::runs::join_chunk` meets its contract. Assumes nothing.
use native.Mathlib.Omega.{arith}
use Rattle.k_joins.proofs.Joining.{class-less, class-cut, second-formed, chunk-pairs, chunk-rises, chunk-grew}
use borrow.Author.Rules.{rules}
use Rattle.k_joins.proofs.runs.join_chunk.Goals as goal

pub overflow_sub-k : goal.overflow_sub-k
overflow_sub-k c = let h = class-less c.requires.joining c.requires.class in omega arith

pub cut_into-requires : goal.cut_into-requires
cut_into-requires c = ((c.requires.sets.0.1.cut, search rules), (search rules, (second-formed c.requires.joining, class-cut c.requires.joining c.requires.class)))

pub run_into-g-requires : goal.run_into-g-requires
run_into-g-requires c =
    let p = c.requires in
    record {
      sets = (search rules, (p.sets.0.1.run, (search rules, c.cut_into.ensures.is_set)));
      pairs = chunk-pairs p.joining p.class c.args.j c.args.f c.cut_into.ensures;
      class = p.class;
      rises = chunk-rises p.joining p.class c.args.j c.args.f c.cut_into.ensures;
    }

pub returns-clause-grew : goal.returns-clause-grew
returns-clause-grew c = chunk-grew c.requires.joining c.requires.class c.args.j c.args.f c.cut_into.ensures c.run_into-g.ensures.grew
