-- One turn of each loop of the rounds. Assumes nothing.
use Prim.Native.Nat.{ℕ, zero, suc, ◌+◌, ◌-◌, ◌%◌, ◌/◌, ◌≤◌, ◌<◌}
use native.Mathlib.Omega.{arith}
use mathlib.Core.Path.{◌≡◌, refl, sym, ap, ◌∙◌}
use mathlib.Core.List.{List, [], ◌∷◌, map}
use mathlib.Core.Bool.{Bool, true, false, not, ◌&&◌, true≢false}
use lib.ListN.{length, get_or, set, drop}
use lib.Seq.{set-get_or}
use Rattle.cfg.specs.Reading.{pick}
use Rattle.cfg.specs.Grammar.{Sym, Production}
use Rattle.cfg.specs.Written.{symbol_of}
use Rattle.cfg.specs.Words.{Below}
use Rattle.cfg.proofs.Cursor.{Place, place-start, place_end, place-terminal, place-nonterminal, right-split, odd-terminal, even-nonterminal}
use Rattle.cfg.specs.Marks.{no_marks}
use Rattle.cfg.specs.Closure.{all_marked, close_one, close_round, close_rounds, closure}

-- the symbols up to j are marked; whether all are hangs on the rest
pub record Sees (free : Bool) (marks : List Bool) (right : List ℕ) (goal : Bool) (j : ℕ) : Type 0 where
  pub place : Place 128 right j
  pub rest : all_marked free marks (map symbol_of (drop j right)) ≡ goal

module _ (free : Bool) (marks : List Bool) (right : List ℕ) where
  pub sees-start : Below 128 (map symbol_of right) → Sees free marks right (all_marked free marks (map symbol_of right)) 0
  sees-start b = record { place = place-start 128 right b; rest = refl }

  module _ (goal : Bool) (j : ℕ) (w : Sees free marks right goal j) where
    pub sees-done : length right ≤ j → true ≡ goal
    unfolding all_marked
    sees-done h = rw (place_end 128 right j w.place h) at w.rest

    module _ (h : j < length right) (marked : Bool) where
      -- the symbol at j is passed where it is marked; whether all are hangs on it and the rest
      pub Looked : Type 0
      Looked = Place 128 right (j + 1) × ((marked && all_marked free marks (map symbol_of (drop (j + 1) right))) ≡ goal)

      -- a terminal is marked where terminals are free
      pub terminal-looked : get_or right j 0 % 2 ≡ 1 → marked ≡ free → Looked
      unfolding all_marked Looked
      terminal-looked odd e = (place-terminal 128 right j w.place h odd, rw e (rw (right-split right j h, odd-terminal (get_or right j 0) odd) at w.rest))

      -- a nonterminal by its mark
      pub nonterminal-looked : (get_or right j 0 % 2 ≡ 1 → ⊥) → (b : ℕ) → b ≡ get_or right j 0 / 2 → marked ≡ get_or marks b false → Looked
      unfolding all_marked Looked
      nonterminal-looked even b same e = (
        place-nonterminal 128 right j w.place h even,
        rw (e, same) (rw (right-split right j h, even-nonterminal (get_or right j 0) even) at w.rest),
      )

      module _ (l : Looked) where
        -- one that is not marked decides
        pub look_fails : marked ≡ false → false ≡ goal
        unfolding Looked
        look_fails z = rw z at l.1

        -- one that is leaves it to the rest
        pub look_passes : marked ≡ true → Sees free marks right goal (j + 1)
        unfolding Looked
        look_passes z = record { place = l.0; rest = rw z at l.1 }

-- a left side that is marked needs no look at its right side
look-once : (m : List Bool) (l : ℕ) (a : Bool) → pick (not (get_or m l false) && a) (set m l true) m ≡ pick a (set m l true) m
look-once m l a = by (get_or m l false) refl a
  where
    by : (b : Bool) → get_or m l false ≡ b → (a : Bool) → pick (not b && a) (set m l true) m ≡ pick a (set m l true) m
    by true e true = sym (ap (set m l) (sym e) ∙ set-get_or m l false)
    by true e false = refl
    by false e a = refl

-- what is left of the productions, `rest`, completes `goal`; without a new mark the marks are those before
pub record Closes (free : Bool) (goal marks : List Bool) (rest : List Production) (closed : List Bool) (grew : Bool) : Type 0 where
  pub more : close_round free rest closed ≡ goal
  pub still : grew ≡ false → closed ≡ marks

pub closes-start : (free : Bool) (ps rest : List Production) (marks : List Bool) → rest ≡ ps → Closes free (close_round free ps marks) marks rest marks false
closes-start free ps rest marks e = record { more = rw e; still = λ _. refl }

module _ (free : Bool) (goal marks : List Bool) (rest : List Production) (closed : List Bool) (grew : Bool) (w : Closes free goal marks rest closed grew) where
  pub closes-done : rest ≡ [] → closed ≡ goal
  unfolding close_round
  closes-done e = rw e at w.more

  module _ (left : ℕ) (right : List Sym) (behind : List Production) (e : rest ≡ record { left = left; right = right } ∷ behind) (k : ℕ) (same : k ≡ left) (test : Bool)
      (t : test ≡ (not (get_or closed k false) && all_marked free closed right)) where
    -- what is left of them, after this one
    passed : close_round free behind (pick test (set closed k true) closed) ≡ goal
    unfolding close_round close_one
    passed = rw (t, same, look-once closed left (all_marked free closed right)) (rw e at w.more)

    pub closes-mark : test ≡ true → Closes free goal marks behind (set closed k true) true
    closes-mark z = record { more = rw z at passed; still = λ n. absurd (true≢false n) }

    pub closes-pass : test ≡ false → Closes free goal marks behind closed grew
    closes-pass z = record { more = rw z at passed; still = w.still }

-- k of n rounds are done
pub record Repeats (free : Bool) (ps : List Production) (n : ℕ) (goal closed : List Bool) (k : ℕ) : Type 0 where
  pub below : k ≤ n
  pub rest : close_rounds free ps (n - k) closed ≡ goal

same-rounds : (free : Bool) (ps : List Production) (m : List Bool) → close_round free ps m ≡ m → (k : ℕ) → close_rounds free ps k m ≡ m
unfolding close_rounds
same-rounds free ps m e zero = refl
same-rounds free ps m e (suc k) = ap (close_rounds free ps k) e ∙ same-rounds free ps m e k

module _ (free : Bool) (ps : List Production) (n : ℕ) where
  pub repeats-start : Repeats free ps n (closure free ps n) no_marks 0
  repeats-start =
      let all : n - 0 ≡ n = omega arith in
      record { below = omega arith; rest = rw all }

  module _ (goal closed : List Bool) (k : ℕ) (w : Repeats free ps n goal closed k) where
    pub repeats-more : k < n → (closed' : List Bool) → closed' ≡ close_round free ps closed → Repeats free ps n goal closed' (k + 1)
    unfolding close_rounds
    repeats-more h closed' e =
        let one : n - k ≡ suc (n - (k + 1)) = omega arith in
        record { below = omega arith; rest = rw e (rw one at w.rest) }

    -- marks that a round leaves as they are, are those after all
    pub repeats-still : close_round free ps closed ≡ closed → closed ≡ goal
    repeats-still e = sym (same-rounds free ps closed e (n - k)) ∙ w.rest

    pub repeats-done : n ≤ k → closed ≡ goal
    unfolding close_rounds
    repeats-done h =
        let none : n - k ≡ 0 = omega arith in
        rw none at w.rest
