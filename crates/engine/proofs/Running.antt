-- The work behind FIRST of the nonterminals, put together from its steps. Assumes nothing.
use Prim.Native.Nat.{ℕ, ◌+◌, ◌*◌, ◌≤◌}
use native.Mathlib.Omega.{arith}
use mathlib.Core.Path.{◌≡◌, refl, sym, ap, ap₂, ◌∙◌, subst}
use Rattle.std.specs.Prelude.{Ok, Err}
use Rattle.refusals.specs.Numbers.{number}
use Rattle.refusals.specs.declared.Refusal.{Refusal}
use Rattle.refusals.specs.declared.Refusal.TheVariants.{SetTooLarge}
use mathlib.Core.List.{List, ◌++◌, append_assoc}
use lib.ListN.{length, take, drop, length-append, length-drop}
use lib.Seq.{take_at, length-take-le}
use Rattle.k_tuples.specs.States.{State}
use Rattle.k_tuples.specs.Work.{Answer, got, refused, ◌>>=◌}
use Rattle.k_tuples.specs.Blocks.{store}
use Rattle.k_tuples.proofs.Work.{got-inj, not-got}
use Rattle.k_tuples.proofs.Blocks.{length-sets}
use Rattle.blocks.proofs.Stores.{turned-store, turned-sets, turned-beyond}
use Rattle.first_theory.specs.Compute.{production_sets}
use Rattle.first.specs.declared.Setup.{Setup}
use Rattle.first.specs.Steps.{result_sets, old_sets, past_result, past_scratch, room, Ready}
use Rattle.first.specs.Rounds.{grammar_in}
use Rattle.first.specs.Levels.{Production, Produced}
use Rattle.follow_theory.specs.Follow.{occurrences_of, follow, position_sets}
use Rattle.follow.specs.Steps.{Grammatical, first_sets}
use Rattle.follow.specs.Whole.{Positioned, PositionsDone}
use Rattle.cfg.specs.declared.table.Shape.{Shape}
use Rattle.k_tuple.specs.Strings.{width_of}
use Rattle.engine.specs.Call.{record_of, answer_of}
use Rattle.engine.specs.Runs.{setup_of, finished, Begun, Rest, rest_of, rest_for, RestRan}

-- a refusal stays, whatever follows
refused-more : {A B C : Type 0} {e : ℕ} (m : Answer A) (f : A → Answer B) (h : A → B → Answer C) → (m >>= f) ≡ refused e → (m >>= λ a. f a >>= h a) ≡ refused e
refused-more {e = e} (refused s) f h z = let same : s ≡ e = cc in ap refused same
refused-more {e = e} (got a) f h z = by (f a) (h a) z
  where
    by : {B C : Type 0} (n : Answer B) (h : B → Answer C) → n ≡ refused e → (n >>= h) ≡ refused e
    by (refused s) h z = let same : s ≡ e = cc in ap refused same
    by (got b) h z = not-got (sym z)

-- a refusal in numbers
pub refused_record : (e : Refusal) → record_of (Err e) ≡ answer_of (refused (number e))
unfolding answer_of
refused_record e = refl

abbrev prods : Setup → ℕ → (words result : List ℕ) → Answer State
prods u k words result = production_sets (room u) k (old_sets u result) (grammar_in u words).productions

module _ {u : Setup} {k : ℕ} {words result scratch : List ℕ} (begun : Begun u k words result scratch) where
  pub productions-fit : u.n + u.p ≤ u.rsets
  productions-fit = omega (arith, begun.sets)

  -- a production's set passed its room
  pub production-full : (q : ℕ) (rounds : List ℕ) {e : Refusal} {result₁ scratch₁ : List ℕ} → Produced u k (prods u k words result) (Err e) result scratch result₁ scratch₁
      → RestRan u k q rounds words result scratch (record_of (Err e)) result₁ scratch₁
  unfolding rest_of
  production-full q rounds {e} made = record {
    answer = refused_record e ∙ rw (made.ends.1, made.ends.0);
    sets = λ x g. let z : ◌≡◌ {A = Answer Rest} (refused 11) (got x) = rw made.ends.0 at g in not-got z;
    result-beyond = made.result-beyond;
    scratch-beyond = made.scratch-beyond;
  }

  module _ {result₁ scratch₁ : List ℕ} (done : Production u k (prods u k words result) result scratch result₁ scratch₁) where
    abbrev X : State
    X = old_sets u result

    abbrev P : State
    P = done.products

    abbrev rest : State
    rest = drop (u.n + u.p) (result_sets u result)

    many : length (result_sets u result) ≡ u.rsets
    many = length-sets u.b u.rsets result

    X-many : length X ≡ u.n
    X-many = length-take-le u.n (result_sets u result) (omega (arith, many, productions-fit))

    P-many : length P ≡ u.p
    P-many =
        let all : length (X ++ (P ++ rest)) ≡ u.rsets = done.held.count in
        let long : length (X ++ (P ++ rest)) ≡ length X + (length P + length rest) = simp length-append in
        omega (arith, X-many, length-drop (u.n + u.p) (result_sets u result), many, productions-fit)

    sets-after : result_sets u result₁ ≡ (X ++ P) ++ rest
    sets-after = turned-sets done.held ∙ sym (append_assoc X P rest)

    firsts_after : first_sets u result₁ ≡ X ++ P
    firsts_after =
        ap (take (u.n + u.p)) sets-after
        ∙ take_at (X ++ P) rest (u.n + u.p) (length-append X P ∙ ap₂ ◌+◌ X-many P-many)

    old-after : old_sets u result₁ ≡ X
    old-after = ap (take u.n) (sets-after ∙ append_assoc X P rest) ∙ take_at X (P ++ rest) u.n X-many

    -- the buffers are ready for FOLLOW
    ready-after : Ready u k result₁ scratch₁
    ready-after =
        let r = begun.ready in
        record {
          result-store = turned-store done.held;
          scratch-store = done.in-scratch.store;
          work = r.work;
          some = r.some;
          least = r.least;
          most = r.most;
          wide = r.wide;
          narrow = r.narrow;
          slots = r.slots;
        }

    -- what is left to be worked out
    follow-part : State → Answer Rest
    follow-part F =
        follow (room u) k (grammar_in u words) F >>= λ end. position_sets (room u) k F (occurrences_of (grammar_in u words).productions) end.sets
        >>= λ Z. got (record { productions = P; follows = end.sets; follow_rounds = end.rounds; positions = Z })

    rest-is : rest_for u k words result ≡ follow-part X
    unfolding rest_of follow-part
    rest-is = rw done.made

  pub follow-ready : {result₁ scratch₁ : List ℕ} → Produced u k (prods u k words result) (Ok tt) result scratch result₁ scratch₁ → Ready u k result₁ scratch₁
  follow-ready made = ready-after made.ends

  pub follow-words : Grammatical u words
  follow-words = record { rules = begun.rules; places = begun.sets }

  -- ---- behind FOLLOW

  module _ {result₁ scratch₁ result₂ scratch₂ : List ℕ} (done : Production u k (prods u k words result) result scratch result₁ scratch₁) where
    answered : (f : ℕ) (d : PositionsDone u k words f result₁ result₂ scratch₂) → rest_for u k words result ≡ got (record { productions = done.products; follows = d.sets; follow_rounds = f; positions = d.places })
    unfolding follow-part
    answered f d = rest-is done ∙ rw (← old-after done, d.made, d.placed)

  module _ (q : ℕ) (rounds : List ℕ) {result₁ scratch₁ : List ℕ} (past : past_result u result₁ ≡ past_result u result) (work-past : past_scratch u scratch₁ ≡ past_scratch u scratch)
      (done : Production u k (prods u k words result) result scratch result₁ scratch₁) {result₂ scratch₂ : List ℕ} where
    settled : (f : ℕ) → PositionsDone u k words f result₁ result₂ scratch₂ → past_scratch u scratch₂ ≡ past_scratch u scratch
        → RestRan u k q rounds words result scratch (finished u q rounds f) result₂ scratch₂
    settled f d beyond =
        let x : Rest = record { productions = done.products; follows = d.sets; follow_rounds = f; positions = d.places } in
        let is : rest_for u k words result ≡ got x = answered done f d in
        let held : result₂ ≡ store k u.b u.w (old_sets u result ++ (done.products ++ (d.sets ++ d.places))) (past_result u result) =
        d.row.turned.held.words
        ∙ ap₂ (store k u.b u.w) (ap (λ (A : State). A ++ (d.sets ++ d.places)) (firsts_after done) ∙ append_assoc (old_sets u result) done.products (d.sets ++ d.places)) past in
        record {
          answer = rw is;
          sets = λ y e. let same : x ≡ y = got-inj (sym is ∙ e) in subst (λ (z : Rest). result₂ ≡ store k u.b u.w (old_sets u result ++ (z.productions ++ (z.follows ++ z.positions))) (past_result u result)) same held;
          result-beyond = turned-beyond d.row.turned ∙ past;
          scratch-beyond = beyond;
        }

    gave-up : (e : Refusal) → (follow (room u) k (grammar_in u words) (old_sets u result₁) >>= λ end. position_sets (room u) k (old_sets u result₁) (occurrences_of (grammar_in u words).productions) end.sets) ≡ refused 11
        → e ≡ SetTooLarge → past_result u result₂ ≡ past_result u result → past_scratch u scratch₂ ≡ past_scratch u scratch → RestRan u k q rounds words result scratch (record_of (Err e)) result₂ scratch₂
    unfolding follow-part
    gave-up e m z beyond work-beyond =
        let is : rest_for u k words result ≡ refused 11 =
        rest-is done ∙ rw (← old-after done) (refused-more (follow (room u) k (grammar_in u words) (old_sets u result₁)) (λ end. position_sets (room u) k (old_sets u result₁) (occurrences_of (grammar_in u words).productions) end.sets)
        (λ end Z. got (record { productions = done.products; follows = end.sets; follow_rounds = end.rounds; positions = Z })) m) in
        record {
          answer = refused_record e ∙ rw (z, is);
          sets = λ y e. not-got (sym is ∙ e);
          result-beyond = beyond;
          scratch-beyond = work-beyond;
        }

  module _ (q : ℕ) (rounds : List ℕ) {result₁ scratch₁ result₂ scratch₂ : List ℕ} (made : Produced u k (prods u k words result) (Ok tt) result scratch result₁ scratch₁) where
    pub rest-done : {f : ℕ} → Positioned u k words (Ok f) result₁ scratch₁ result₂ scratch₂ → RestRan u k q rounds words result scratch (finished u q rounds f) result₂ scratch₂
    rest-done {f} p = settled q rounds made.result-beyond made.scratch-beyond made.ends f p.ends (p.scratch-beyond ∙ made.scratch-beyond)

    pub rest-refused : {e : Refusal} → Positioned u k words (Err e) result₁ scratch₁ result₂ scratch₂ → RestRan u k q rounds words result scratch (record_of (Err e)) result₂ scratch₂
    rest-refused {e} p = gave-up q rounds made.result-beyond made.scratch-beyond made.ends e p.ends.0 p.ends.1 (p.result-beyond ∙ made.result-beyond) (p.scratch-beyond ∙ made.scratch-beyond)

-- ---- the numbers by which it is worked out

pub setup-is : (c : ℕ) (s : Shape) (q : ℕ) {n t start p w : ℕ} → n ≡ s.n → t ≡ s.t → start ≡ s.start → p ≡ s.p → w ≡ width_of (t + 5)
    → ◌≡◌ {A = Setup} (record { n = n; t = t; start = start; p = p; b = 2 * c + 1; rsets = 2 * n + p + q; ssets = 2 * n + 4; w = w }) (setup_of c s q)
setup-is c s q en et es ep ew = rw (ew, en, et, es, ep)
