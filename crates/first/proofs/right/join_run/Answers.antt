-- `first::right::join_run` meets its contract. Assumes nothing.
use mathlib.Core.Path.{ap, ◌∙◌}
use mathlib.Core.List.{◌∷◌, [], map}
use lib.ListN.{take}
use Rattle.k_tuple.specs.Packed.{reads}
use Rattle.k_tuple.proofs.Closed.{reads-packed}
use Rattle.k_tuples.specs.States.{set_of}
use Rattle.k_tuples.specs.Held.{Fits, Holds}
use Rattle.blocks.proofs.Stores.{block_room, block-holds, only-holds}
use Rattle.first_theory.specs.Compute.{str}
use Rattle.first.specs.Codes.{half}
use Rattle.first.specs.Steps.{result_sets}
use Rattle.first.proofs.Codes.{run-slots}
use Rattle.first.proofs.Spelling.{run_fits}
use Rattle.first.proofs.right.join_run.Goals as goal
use Rattle.first.proofs.right.join_run.Goals.{After-single-one, Start}

-- the run's string is a member of a set at k
fits : (s : Start) → Fits s.args.k s.args.u.w (str (take s.args.k (map half s.args.part.now)))
fits s =
    let a = s.args in
    let ready = s.requires.0.0 in
    let ts = map half a.part.now in
    run_fits a.u.w ready.wide ready.narrow a.k ts ready.least ready.most (run-slots a.u a.u.w ts ready.slots s.requires.1.1)

-- the set of the run's string
one : (c : After-single-one) → let a = c.args in Holds a.k a.u.w (str (take a.k (map half a.part.now)) ∷ []) c.single-one.result
one c =
    let a = c.args in
    only-holds a.u.w (str (take a.k (map half a.part.now))) c.single-one.ensures c.run_string.ensures (fits (goal.at.After-single-one c).Start)

pub block-x-requires : goal.block-x-requires
block-x-requires c = block_room c.requires.0.0.result-store c.requires.0.1.within

pub run_string-requires : goal.run_string-requires
run_string-requires c =
    let ready = c.requires.0.0 in
    ((ready.least, ready.most), ((ready.wide, ready.narrow), (c.requires.1.0, run-slots c.args.u c.args.u.w (map half c.args.part.now) ready.slots c.requires.1.1)))

pub single-one-requires : goal.single-one-requires
single-one-requires c =
    let a = c.args in
    let z = str (take a.k (map half a.part.now)) in
    record { width = a.u.w; str = z; is = ap reads c.run_string.ensures ∙ reads-packed a.u.w z (fits (goal.at.single-one-requires c).Start).well }

pub join_into-requires : goal.join_into-requires
join_into-requires c =
    let ready = c.requires.0.0 in (
      record {
        width = c.args.u.w;
        x = set_of (result_sets c.args.u c.args.res.now) c.args.at;
        y = _;
        some = ready.least;
        short = ready.most;
        store = ready.scratch-store;
        first = rw c.block-x.ensures (block-holds ready.result-store c.requires.0.1.within);
        second = one (goal.at.join_into-requires c).After-single-one;
      },
      ready.work,
    )

pub returns : goal.returns
returns c =
    let a = c.args in
    let ready = c.requires.0.0 in
    c.join_into.ensures.step a.u.w (set_of (result_sets a.u a.res.now) a.at) (str (take a.k (map half a.part.now)) ∷ [])
    ready.scratch-store (rw c.block-x.ensures (block-holds ready.result-store c.requires.0.1.within)) (one (goal.at.returns c).After-single-one)
