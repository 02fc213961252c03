-- `first::right::put_run` meets its contract. Assumes nothing.
use mathlib.Core.List.{◌∷◌, [], map}
use lib.ListN.{take}
use Rattle.k_tuples.specs.Held.{Fits}
use Rattle.first_theory.specs.Compute.{str}
use Rattle.first.specs.Codes.{half}
use Rattle.first.proofs.Codes.{run-slots}
use Rattle.first.proofs.Spelling.{run_fits}
use Rattle.first.proofs.Walk.{placed_first}
use Rattle.first.proofs.right.put_run.Goals as goal
use Rattle.first.proofs.right.put_run.Goals.{Start}

-- the run's string is a member of a set at k
fits : (s : Start) → Fits s.args.k s.args.u.w (str (take s.args.k (map half s.args.part.now)))
fits s =
    let a = s.args in
    let ready = s.requires.0.0 in
    let ts = map half a.part.now in
    run_fits a.u.w ready.wide ready.narrow a.k ts ready.least ready.most (run-slots a.u a.u.w ts ready.slots s.requires.1.1)

pub run_string-requires : goal.run_string-requires
run_string-requires c =
    let ready = c.requires.0.0 in
    ((ready.least, ready.most), ((ready.wide, ready.narrow), (c.requires.1.0, run-slots c.args.u c.args.u.w (map half c.args.part.now) ready.slots c.requires.1.1)))

pub put_single-requires : goal.put_single-requires
put_single-requires c =
    let ready = c.requires.0.0 in
    (record { width = c.args.u.w; z = _; store = ready.result-store; is = c.run_string.ensures; fits = fits (goal.at.put_single-requires c).Start }, (c.requires.0.1.within, ready.some))

pub returns : goal.returns
returns c =
    let a = c.args in
    let z = str (take a.k (map half a.part.now)) in
    placed_first (z ∷ []) c.requires.0.0
    (c.put_single.ensures.step a.u.w z c.requires.0.0.result-store c.run_string.ensures (fits (goal.at.returns c).Start))
