-- Every set of an analysis has room, is in order and has members that fit at its width: so each can be kept in a block of 2c + 1 words. Assumes nothing.
use Prim.Native.Nat.{ℕ, zero, suc, ◌*◌, ◌≤◌}
use native.Mathlib.Omega.{arith}
use mathlib.Core.Path.{◌≡◌, refl, subst}
use mathlib.Core.Bool.{Bool, true, false, cond}
use mathlib.Core.List.{List, [], ◌∷◌}
use borrow.Author.Tests.{leb-true}
use lib.ListN.{length, replicate, set}
use lib.Dec.{leb}
use Rattle.cfg.specs.Grammar.{Sym, Grammar, Production}
use Rattle.k_tuple.specs.Strings.{Str, eps}
use Rattle.k_tuples.specs.States.{State, set_of}
use Rattle.k_tuples.specs.Work.{Answer, refused, got, ◌>>=◌, within, Settling, settle}
use Rattle.k_tuples.specs.States.{same_sets}
use Rattle.k_tuples.proofs.States.{set_all}
use Rattle.first_theory.specs.Compute.{Worked, right_side, join_parts, round_from, round, level, levels, first, production_sets}
use Rattle.first_theory.specs.First.{Part, parts}
use Rattle.follow_theory.specs.Equations.{start, marker}
use Rattle.follow_theory.specs.Follow.{Occurrence, occurrences_of, join_for, take_one, take_all, position_sets, follow}
use Rattle.analysis.specs.Analysis.{Analysis, work}

-- P holds of the answer, if there is one
data Every {A : Type 0} (P : A → Type 0) : Answer A → Type 0 where
  none : {r : ℕ} → Every P (refused r)
  one : {a : A} → P a → Every P (got a)

every-then : {A B : Type 0} {P : A → Type 0} {Q : B → Type 0} {m : Answer A} {f : A → Answer B} → Every P m → ((a : A) → P a → Every Q (f a)) → Every Q (m >>= f)
every-then none q = none
every-then (one {a = a} p) q = q a p

any : {A : Type 0} (m : Answer A) → Every (λ _. Unit {0}) m
any (refused r) = none
any (got a) = one tt

every_got : {A : Type 0} {P : A → Type 0} {m : Answer A} {a : A} → Every P m → m ≡ got a → P a
every_got none e = absurd (let z : ◌≡◌ {A = ℕ} 0 1 = cc in omega arith)
every_got {P} {a = a} (one {a = b} p) e = let s : b ≡ a = cc in subst P s p

-- ---- room

abbrev HasRoom : ℕ → List Str → Type 0
HasRoom c a = length a ≤ c

-- every set has at most c members
abbrev AllRoom : ℕ → State → Type 0
AllRoom c F = (A : ℕ) → HasRoom c (set_of F A)

within-room : (c : ℕ) (a : List Str) → Every (HasRoom c) (within c a)
unfolding within
within-room c a = by (leb (length a) c) refl
  where
    by : (b : Bool) → leb (length a) c ≡ b → Every (HasRoom c) (cond b (got a) (refused 11))
    by true e = one (leb-true (length a) c e)
    by false e = none

set_room : (c : ℕ) (F : State) (t : ℕ) (v : List Str) → AllRoom c F → HasRoom c v → AllRoom c (set F t v)
set_room c F t v f h A = set_all (λ _ a. HasRoom c a) F t v A h (f A)

replicate-room : (c n : ℕ) (a : List Str) → HasRoom c a → AllRoom c (replicate n a)
replicate-room c zero a h A = omega arith
replicate-room c (suc n) a h zero = h
replicate-room c (suc n) a h (suc A) = replicate-room c n a h A

none-room : (c : ℕ) → AllRoom c []
none-room c A = omega arith

more_room : (c : ℕ) (a : List Str) (F : State) → HasRoom c a → AllRoom c F → AllRoom c (a ∷ F)
more_room c a F l f zero = l
more_room c a F l f (suc A) = f A

-- rounds that keep P settle in sets of which it holds
settle-keeps : {round : State → Answer State} {P : State → Type 0} → ((X : State) → P X → Every P (round X)) → (late left done : ℕ) (X : State) → P X
    → Every (λ (s : Settling). P s.sets) (settle round late left done X)
unfolding settle
settle-keeps f late zero done X p = none
settle-keeps {round} {P} f late (suc left) done X p = every-then (f X p) (λ Y q. by Y q (settle-keeps f late left (suc done) Y q) (same_sets Y X))
  where
    by : (Y : State) → P Y → Every (λ (s : Settling). P s.sets) (settle round late left (suc done) Y) → (b : Bool)
        → Every (λ (s : Settling). P s.sets) (elim b [ true ↦ got (record { sets = Y; rounds = suc done }) | false ↦ settle round late left (suc done) Y ])
    by Y q rest true = one q
    by Y q rest false = rest

-- ---- FIRST

module _ (c : ℕ) (c>0 : 1 ≤ c) (k : ℕ) (X : State) where
  parts-room : (a : List Str) (ps : List Part) → HasRoom c a → Every (HasRoom c) (join_parts c k X a ps)
  unfolding join_parts
  parts-room a [] h = one h
  parts-room a (p ∷ ps) h = every-then (within-room c _) (λ b l. parts-room b ps l)

  right-room : (γ : List Sym) → Every (HasRoom c) (right_side c k X γ)
  unfolding right_side
  right-room γ = parts-room (eps ∷ []) (parts γ) c>0

  round_room : (new : State) (ps : List Production) → AllRoom c new → Every (AllRoom c) (round_from c k X new ps)
  unfolding round_from
  round_room new [] f = one f
  round_room new (p ∷ ps) f = every-then (any (right_side c k X p.right)) (λ a _. every-then (within-room c _) (λ b h. round_room (set new p.left b) ps (set_room c new p.left b f h)))

  productions-room : (ps : List Production) → Every (AllRoom c) (production_sets c k X ps)
  unfolding production_sets
  productions-room [] = one (none-room c)
  productions-room (p ∷ ps) = every-then (right-room p.right) (λ a h. every-then (productions-room ps) (λ more f. one (more_room c a more h f)))

levels-room : (c : ℕ) → 1 ≤ c → (g : Grammar) (left k : ℕ) (X : State) → AllRoom c X → Every (λ (w : Worked). AllRoom c w.sets) (levels c g left k X)
unfolding levels level round
levels-room c c>0 g zero k X f = one f
levels-room c c>0 g (suc left) k X f =
    every-then
    (settle-keeps (λ Y _. round_room c c>0 (suc k) Y (replicate g.n []) g.productions (replicate-room c g.n [] (omega arith))) 12 (suc g.n) 0 X f)
    (λ here h. every-then (levels-room c c>0 g left (suc k) here.sets h) (λ more m. one m))

-- ---- FOLLOW

module _ (c : ℕ) (c>0 : 1 ≤ c) (k : ℕ) (X : State) where
  take-room : (os : List Occurrence) (F : State) → AllRoom c F → Every (AllRoom c) (take_all c k X os F)
  unfolding take_all take_one
  take-room [] F f = one f
  take-room (o ∷ os) F f =
      every-then
      (every-then (any (join_for c k X o F)) (λ b _. every-then {Q = AllRoom c} (within-room c _) (λ u h. one (set_room c F o.target u f h))))
      (λ G h. take-room os G h)

  positions-room : (os : List Occurrence) (F : State) → Every (AllRoom c) (position_sets c k X os F)
  unfolding position_sets join_for
  positions-room [] F = one (none-room c)
  positions-room (o ∷ os) F =
      every-then {P = HasRoom c} (every-then (any (right_side c k X o.rest)) (λ a _. within-room c _))
      (λ a h. every-then (positions-room os F) (λ more f. one (more_room c a more h f)))

  follow-room : (g : Grammar) → Every (λ (s : Settling). AllRoom c s.sets) (follow c k g X)
  unfolding follow start
  follow-room g =
      settle-keeps (take-room (occurrences_of g.productions)) 11 (suc (g.n * c)) 0 (start g.n g.start)
      (set_room c (replicate g.n []) g.start (marker ∷ []) (replicate-room c g.n [] (omega arith)) c>0)

-- ---- all sets

pub record Roomy (c : ℕ) (a : Analysis) : Type 0 where
  pub nonterminals : AllRoom c a.nonterminals
  pub productions : AllRoom c a.productions
  pub follows : AllRoom c a.follows
  pub positions : AllRoom c a.positions

pub work-room : (g : Grammar) (k c : ℕ) → 1 ≤ c → (a : Analysis) → work k c g ≡ got a → Roomy c a
unfolding work first
work-room g k c c>0 a e =
    every_got {P = Roomy c}
    (every-then (levels-room c c>0 g k 0 (replicate g.n (eps ∷ [])) (replicate-room c g.n (eps ∷ []) c>0)) (λ firsts f.
    every-then (productions-room c c>0 k firsts.sets g.productions) (λ productions p.
    every-then (follow-room c c>0 k firsts.sets g) (λ follows l.
    every-then (positions-room c c>0 k firsts.sets (occurrences_of g.productions) follows.sets) (λ positions q.
    one (record { nonterminals = f; productions = p; follows = l; positions = q }))))))
    e
