-- The sets of an analysis can be kept, each in its block of 2c + 1 words, and asking for one gives its words. Assumes nothing.
use Prim.Native.Nat.{ℕ, zero, suc, ◌+◌, ◌*◌, ◌≤◌, ◌<◌}
use native.Mathlib.Nat.{le_of_suc-le-suc, not-suc-le-zero}
use native.Mathlib.Omega.{arith}
use mathlib.Core.Path.{◌≡◌}
use mathlib.Core.List.{List, [], ◌∷◌, ◌++◌}
use lib.ListN.{length}
use Rattle.cfg.specs.Grammar.{Grammar, Accepted}
use Rattle.k_tuple.specs.Strings.{Str, width_of}
use Rattle.k_tuple.proofs.Binary.{width-holds, width-le, width-pos}
use Rattle.k_tuples.specs.Sets.{Sorted}
use Rattle.k_tuples.specs.States.{State, set_of, Each, each_none, each_more}
use Rattle.k_tuples.specs.Work.{got}
use Rattle.k_tuples.specs.Blocks.{Kept, AllKept}
use Rattle.k_tuples.proofs.Proper.{proper-fits}
use Rattle.analysis.specs.Analysis.{Analysis, work}
use Rattle.analysis.specs.Promises.{AllProper, Analysed}
use Rattle.analysis.proofs.Kept.{answers-right}
use Rattle.analysis.proofs.Room.{work-room}
use Rattle.engine.specs.Call.{sets_of}

-- sets are kept if each of them is
pub all-kept : (k w b : ℕ) (F : State) → ((i : ℕ) → i < length F → Kept k w b (set_of F i)) → AllKept k w b F
all-kept k w b [] f = tt
all-kept k w b (a ∷ F) f = (f 0 (omega arith), all-kept k w b F (λ i h. f (suc i) (omega arith)))

pub append-kept : (k w b : ℕ) (F G : State) → AllKept k w b F → AllKept k w b G → AllKept k w b (F ++ G)
append-kept k w b [] G f g = g
append-kept k w b (a ∷ F) G f g = (f.0, append-kept k w b F G f.1 g)

each-sorted : {A : Type 0} {R : A → List Str → Type 0} {xs : List A} {F : State} → ((x : A) (a : List Str) → R x a → Sorted a) → Each R xs F → (i : ℕ) → i < length F → Sorted (set_of F i)
each-sorted f each_none i h = absurd (not-suc-le-zero h)
each-sorted f (each_more {a = x} {b = a} r rest) zero h = f x a r
each-sorted f (each_more r rest) (suc i) h = each-sorted f rest i (le_of_suc-le-suc h)

module _ (g : Grammar) (k c : ℕ) (ok : Accepted g) (few : g.t ≤ 4089) (k>0 : 1 ≤ k) (k<11 : k ≤ 10) (c>0 : 1 ≤ c) (c<1025 : c ≤ 1024) (a : Analysis) (e : work k c g ≡ got a) where
  is : Analysed g k c a
  is = answers-right g k c ok k>0 c>0 a e

  w : ℕ
  w = width_of (g.t + 5)

  kept-one : (F : State) → AllProper k w F → ((i : ℕ) → length (set_of F i) ≤ c) → ((i : ℕ) → i < length F → Sorted (set_of F i)) → AllKept k w (2 * c + 1) F
  unfolding w
  kept-one F proper room sorted = all-kept k w (2 * c + 1) F (λ i h. record {
    room = omega (arith, room i);
    counted = omega (arith, room i);
    sorted = sorted i h;
    fit = λ z m. proper-fits k w z (width-pos (g.t + 5)) (width-le (g.t + 5) (omega arith)) k>0 k<11 (proper i z m);
  })

  pub sets-kept : AllKept k a.width (2 * c + 1) (sets_of a)
  unfolding sets_of w
  sets-kept =
      let room = work-room g k c c>0 a e in
      let fits = is.members w (omega (arith, width-holds (g.t + 5) (omega arith))) in
      let join = append-kept k w (2 * c + 1) in
      rw is.sizes.width
      (join a.nonterminals _ (kept-one a.nonterminals fits.nonterminals room.nonterminals (λ i h. (is.first-sets i (rw is.sizes.nonterminals at h)).sorted))
      (join a.productions _ (kept-one a.productions fits.productions room.productions (each-sorted (λ x b r. r.sorted) is.production-sets))
      (join a.follows a.positions (kept-one a.follows fits.follows room.follows (λ i h. (is.follow-sets i).sorted))
      (kept-one a.positions fits.positions room.positions (each-sorted (λ x b r. r.sorted) is.position-sets)))))
