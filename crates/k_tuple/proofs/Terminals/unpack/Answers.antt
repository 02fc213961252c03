-- `k_tuple::Terminals::unpack` meets its contract. Assumes nothing.
use mathlib.Core.Path.{ap, ap₂, ◌∙◌}
use Prim.Native.Nat.{ℕ}
use mathlib.Core.List.{List}
use Rattle.k_tuple.specs.Strings.{places}
use Rattle.k_tuple.specs.Packed.{shown_in}
use Rattle.k_tuple.specs.Answers.{UnpackedRecord}
use Rattle.k_tuple.proofs.Held.{seen}
use Rattle.k_tuple.proofs.Refusals.{string_passes}
use Rattle.k_tuple.proofs.Terminals.unpack.Goals as goal

pub returns : goal.returns
returns c =
    let t = c.args.self in
    let g = string_passes t c.in_ok-sound.ensures in
    rw g.is
    (ap₂ {C = UnpackedRecord} (λ (n : ℕ) (xs : List ℕ). record { refused = 0; length = n; slots = xs })
    (c.count.ensures ∙ (seen t g).count)
    (c.shown.ensures ∙ ap (λ d. places 10 (shown_in d)) g.is))
