-- The two passes over k: the sizes of all trees, and then their bytes. Assumes nothing.
use Prim.Native.Nat.{ℕ, ◌+◌, ◌≤◌, ◌<◌}
use native.Mathlib.Omega.{arith}
use native.Mathlib.Decide.{ℕ_discrete, dec_lt}
use mathlib.Core.Path.{◌≡◌, refl, sym, ap, ◌∙◌, subst}
use mathlib.Core.List.{List, []}
use borrow.Author.Count.{below_more}
use lib.ListN.{length, get_or, drop, set, replicate, length-set, length-replicate}
use lib.Seq.{get_or-set_same, get_or-set_other}
use Rattle.k_tuples.specs.Work.{got}
use Rattle.decision_theory.specs.Needed.{needed_k}
use Rattle.decision_theory.specs.Automaton.{State}
use Rattle.std.specs.Prelude.{Result, Ok, Err}
use Rattle.refusals.specs.declared.Refusal.{Refusal}
use Rattle.refusals.specs.declared.Refusal.TheVariants.{TooManyStates}
use Rattle.trees.specs.Answer.{SizeTold, bytes_of}
use Rattle.decision.specs.Steps.{grammar_of, Beyond}
use Rattle.decision.specs.Onward.{KJoined}
use Rattle.decision.proofs.Further.{at-most-ten}
use Rattle.automaton.specs.declared.task.Task.{Task}
use Rattle.automaton.specs.Steps.{trees_of, Ready, Planned, KStands, SizeIs, KMeasured, SizesPut, Sizes, Measured, sum_to, Laid, Fitting, Parts, KWritten, Wrote}
use Rattle.automaton.proofs.Sizing.{size-over}
use Rattle.automaton.proofs.Placing.{laid-start, laid-all}

-- what is ready is planned
pub planned : {task : Task} {m n : ℕ} → Ready task m n → Planned task
planned ready = let given = ready.given in record { on = given.on; sized = given.sized; fit = given.fit; sides = given.sides }

-- ---- the sets of one k

module _ {task : Task} (result scratch : List ℕ) (ready : Ready task (length result) (length scratch)) where
  -- what the list of k says
  needs : {A k : ℕ} → A < task.layout.n → get_or task.ks.now A 0 ≡ k → needed_k task.c (grammar_of task.table.now) A task.limit ≡ got k
  needs {A} h e = ready.known.each A (omega (arith, ready.given.sized.n)) ∙ ap got e

  -- where k is 0 nothing is made
  pub none-stand : {k : ℕ} → k ≡ 0 → KStands task k result scratch result scratch
  none-stand z = record {
    all = record { each = λ A h e. record { needs = needs h e; joined = λ l. absurd (omega arith) } };
    beyond = record { result-beyond = refl; scratch-beyond = refl };
  }

  -- else the joined sets stand
  pub joined-stand : {k : ℕ} {result' scratch' : List ℕ} → KJoined task.limit task.c k (grammar_of task.table.now) task.layout task.ks.now result scratch result' scratch' → KStands task k result scratch result' scratch'
  joined-stand j = record {
    all = record { each = λ A h e. record { needs = needs h e; joined = λ l. j.each A (omega (arith, ready.given.sized.n)) e } };
    beyond = j.beyond;
  }

-- ---- the sizes

-- the loop over the nonterminals
pub record MeasuresK (T : ℕ → List State) (n k : ℕ) (ks sizes₀ sizes : List ℕ) (a : ℕ) : Type 0 where
  pub below : a ≤ n
  pub long : length sizes ≡ 128
  pub so_far : KMeasured T k a ks sizes₀ sizes

-- nothing is measured
pub measures-start : (T : ℕ → List State) (n k : ℕ) (ks sizes : List ℕ) → length sizes ≡ 128 → MeasuresK T n k ks sizes sizes 0
measures-start T n k ks sizes e = record { below = omega arith; long = e; so_far = record { these = λ A h. absurd (omega arith); others = λ A q. refl; long = refl } }

module _ {T : ℕ → List State} {n k : ℕ} {ks sizes₀ sizes : List ℕ} {a : ℕ} (l : MeasuresK T n k ks sizes₀ sizes a) where
  -- a tree of another k is passed
  pub measures-skip : a < n → (get_or ks a 0 ≡ k → ⊥) → MeasuresK T n k ks sizes₀ sizes (a + 1)
  measures-skip h ne = record {
    below = omega arith;
    long = l.long;
    so_far = record { these = below_more _ a l.so_far.these (λ e. absurd (ne e)); others = l.so_far.others; long = l.so_far.long };
  }

  -- a size is put down
  pub measures-set : a < n → n ≤ 128 → get_or ks a 0 ≡ k → (size : ℕ) → SizeIs (T a) size → MeasuresK T n k ks sizes₀ (set sizes a size) (a + 1)
  measures-set h few e size s = record {
    below = omega arith;
    long = length-set sizes a size ∙ l.long;
    so_far = record {
      these = below_more _ a (λ A b q. subst (SizeIs (T A)) (sym (get_or-set_other sizes a A size 0 (λ (z : A ≡ a). omega arith))) (l.so_far.these A b q))
          (λ q. subst (SizeIs (T a)) (sym (get_or-set_same sizes a size 0 (omega (arith, l.long)))) s);
      others = λ A q. get_or-set_other sizes a A size 0 (λ z. q (ap (λ (B : ℕ). get_or ks B 0) z ∙ e)) ∙ l.so_far.others A q;
      long = length-set sizes a size ∙ l.so_far.long;
    };
  }

  -- all were seen
  pub measures-end : n ≤ a → SizesPut T k n ks sizes₀ sizes (Ok tt)
  measures-end h = let same : a ≡ n = omega (arith, l.below) in SizesPut.put refl (subst (λ (m : ℕ). KMeasured T k m ks sizes₀ sizes) same l.so_far)

  -- or one has too many states
  pub measures-over : a < n → {r : Result ℕ Refusal} → SizeTold (T a) r → (e : Refusal) → r ≡ Err e → SizesPut T k n ks sizes₀ sizes (Err e)
  measures-over h s e z = let (q, b) = size-over s e z in SizesPut.over (ap Err q) (record { which = a; inside = h; many = b })

-- what both loops over k keep
pub record Kept (task : Task) (result₀ scratch₀ result scratch : List ℕ) : Type 0 where
  pub ready : Ready task (length result) (length scratch)
  pub beyond : Beyond task.c (grammar_of task.table.now) result₀ scratch₀ result scratch
  pub result-long : length result ≡ length result₀
  pub scratch-long : length scratch ≡ length scratch₀

-- nothing was done
pub kept-start : {task : Task} {result scratch : List ℕ} → Ready task (length result) (length scratch) → Kept task result scratch result scratch
kept-start ready = record { ready = ready; beyond = record { result-beyond = refl; scratch-beyond = refl }; result-long = refl; scratch-long = refl }

module _ {task : Task} {result₀ scratch₀ result scratch : List ℕ} (w : Kept task result₀ scratch₀ result scratch) where
  -- the sets of one k were made
  pub kept_more : {result' scratch' : List ℕ} → Beyond task.c (grammar_of task.table.now) result scratch result' scratch' → length result' ≡ length result → length scratch' ≡ length scratch → Kept task result₀ scratch₀ result' scratch'
  kept_more b e f = record {
    ready = rw (e, f) w.ready;
    beyond = record { result-beyond = b.result-beyond ∙ w.beyond.result-beyond; scratch-beyond = b.scratch-beyond ∙ w.beyond.scratch-beyond };
    result-long = e ∙ w.result-long;
    scratch-long = f ∙ w.scratch-long;
  }

-- a k below the next one is this one, or below it
below_next : (x k : ℕ) → x < k + 1 → ¬ x ≡ k → x < k
below_next x k h n = by (dec_lt x k)
  where
    by : Dec (x < k) → x < k
    by (yes l) = l
    by (no l) = absurd (n (omega arith))

-- the loop over k: the trees of every k below this one are measured
pub record Measures (task : Task) (result₀ scratch₀ result scratch sizes : List ℕ) (k : ℕ) : Type 0 where
  pub kept : Kept task result₀ scratch₀ result scratch
  pub below : k ≤ 11
  pub long : length sizes ≡ 128
  pub done : (A : ℕ) → A < task.layout.n → get_or task.ks.now A 0 < k → SizeIs (trees_of task A) (get_or sizes A 0)

-- no tree is measured
pub measuring-start : {task : Task} {result scratch : List ℕ} → Ready task (length result) (length scratch)
    → Measures task result scratch result scratch (replicate 128 0) 0
measuring-start ready = record { kept = kept-start ready; below = omega arith; long = length-replicate {A = ℕ} 128 0; done = λ A h l. absurd (omega arith) }

module _ {task : Task} {result₀ scratch₀ result scratch sizes : List ℕ} {k : ℕ} (w : Measures task result₀ scratch₀ result scratch sizes k) where
  -- those of one k more are
  pub measuring-more : {result' scratch' sizes' : List ℕ} → k < 11 → KStands task k result scratch result' scratch' → KMeasured (trees_of task) k task.layout.n task.ks.now sizes sizes'
      → length result' ≡ length result → length scratch' ≡ length scratch → Measures task result₀ scratch₀ result' scratch' sizes' (k + 1)
  measuring-more {result'} {scratch'} {sizes'} h s m e f = record {
    kept = kept_more w.kept s.beyond e f;
    below = omega arith;
    long = m.long ∙ w.long;
    done = λ A a l. by A a l (ℕ_discrete (get_or task.ks.now A 0) k);
  }
    where
      by : (A : ℕ) → A < task.layout.n → get_or task.ks.now A 0 < k + 1 → Dec (get_or task.ks.now A 0 ≡ k) → SizeIs (trees_of task A) (get_or sizes' A 0)
      by A a l (yes q) = m.these A a q
      by A a l (no q) = subst (SizeIs (trees_of task A)) (sym (m.others A q)) (w.done A a (below_next (get_or task.ks.now A 0) k l q))

  -- one has too many states
  pub measuring-over : {result' scratch' sizes' : List ℕ} → KStands task k result scratch result' scratch' → length result' ≡ length result → length scratch' ≡ length scratch
      → {r : Result (Unit {0}) Refusal} → SizesPut (trees_of task) k task.layout.n task.ks.now sizes sizes' r → (e : Refusal) → r ≡ Err e → Measured task result₀ scratch₀ (Err e) result' scratch'
  measuring-over {sizes' = sizes'} s f g {r} m e z = record { sizes = by m; beyond = (kept_more w.kept s.beyond f g).beyond }
    where
      by : SizesPut (trees_of task) k task.layout.n task.ks.now sizes sizes' r → Sizes (trees_of task) task.layout.n (Err e)
      by (SizesPut.over q l) = let x : Err e ≡ Err TooManyStates = sym z ∙ q in let k : e ≡ TooManyStates = cc in Sizes.over (ap Err k) l
      by (SizesPut.put q p) = let x : Ok tt ≡ Err e = sym q ∙ z in let y : ◌≡◌ {A = ℕ} 0 1 = cc in absurd (omega arith)

  -- those of one k more are put down
  pub put-down : {sizes' : List ℕ} {r : Result (Unit {0}) Refusal} → SizesPut (trees_of task) k task.layout.n task.ks.now sizes sizes' r → {x : Unit {0}} → r ≡ Ok x → KMeasured (trees_of task) k task.layout.n task.ks.now sizes sizes'
  put-down (SizesPut.over q l) {x} z = let d : Err TooManyStates ≡ Ok x = sym q ∙ z in let y : ◌≡◌ {A = ℕ} 0 1 = cc in absurd (omega arith)
  put-down (SizesPut.put q p) z = p

  -- all are
  pub measuring-end : 11 ≤ k → Measured task result₀ scratch₀ (Ok sizes) result scratch
  measuring-end h = record {
    sizes = Sizes.sized sizes refl (record { each = λ A a. w.done A a (let t = at-most-ten w.kept.ready.given.on w.kept.ready.known A (omega (arith, w.kept.ready.given.sized.n)) in omega arith); long = w.long });
    beyond = w.kept.beyond;
  }

-- ---- the bytes

-- the loop over k: the trees of every k below this one are written
pub record Writing (task : Task) (sizes out₀ result₀ scratch₀ out result scratch : List ℕ) (k : ℕ) : Type 0 where
  pub kept : Kept task result₀ scratch₀ result scratch
  pub below : k ≤ 11
  pub fitting : Fitting (trees_of task) task.layout.n sizes (length out)
  pub out-long : length out ≡ length out₀
  pub parts : List (List ℕ)
  pub laid : Laid task.layout.n sizes parts (drop (sum_to sizes task.layout.n) out₀) out
  pub done : (A : ℕ) → A < task.layout.n → get_or task.ks.now A 0 < k → get_or parts A [] ≡ bytes_of (trees_of task A)

-- no tree is written
pub writing_start : {task : Task} {sizes : List ℕ} (out : List ℕ) {result scratch : List ℕ} → Ready task (length result) (length scratch)
    → Fitting (trees_of task) task.layout.n sizes (length out) → Writing task sizes out result scratch out result scratch 0
writing_start {task = task} {sizes = sizes} out ready fitting =
    let (parts, laid) = laid-start task.layout.n sizes out fitting.fits in
    record { kept = kept-start ready; below = omega arith; fitting = fitting; out-long = refl; parts = parts; laid = laid; done = λ A h l. absurd (omega arith) }

module _ {task : Task} {sizes out₀ result₀ scratch₀ out result scratch : List ℕ} {k : ℕ} (w : Writing task sizes out₀ result₀ scratch₀ out result scratch k) where
  -- those of one k more are
  pub writing_more : {out' result' scratch' : List ℕ} → k < 11 → KStands task k result scratch result' scratch' → KWritten (trees_of task) task.layout.n k task.layout.n task.ks.now sizes out out'
      → length result' ≡ length result → length scratch' ≡ length scratch → Writing task sizes out₀ result₀ scratch₀ out' result' scratch' (k + 1)
  writing_more {out'} {result'} {scratch'} h s m e f =
      let (parts, laid, told) = m.step w.parts (drop (sum_to sizes task.layout.n) out₀) w.laid in
      record {
        kept = kept_more w.kept s.beyond e f;
        below = omega arith;
        fitting = subst (Fitting (trees_of task) task.layout.n sizes) (sym m.same) w.fitting;
        out-long = m.same ∙ w.out-long;
        parts = parts;
        laid = laid;
        done = λ A a l. by parts told A a l (ℕ_discrete (get_or task.ks.now A 0) k);
      }
    where
      by : (parts : List (List ℕ)) → Parts (trees_of task) k task.layout.n task.ks.now w.parts parts → (A : ℕ) → A < task.layout.n → get_or task.ks.now A 0 < k + 1 → Dec (get_or task.ks.now A 0 ≡ k)
          → get_or parts A [] ≡ bytes_of (trees_of task A)
      by parts told A a l (yes q) = told.these A a q
      by parts told A a l (no q) = told.others A q ∙ w.done A a (below_next (get_or task.ks.now A 0) k l q)

  -- all are
  pub writing-end : 11 ≤ k → Wrote task sizes out₀ result₀ scratch₀ out result scratch
  writing-end h = record {
    written = laid-all (trees_of task) w.laid (λ A a. w.done A a (let t = at-most-ten w.kept.ready.given.on w.kept.ready.known A (omega (arith, w.kept.ready.given.sized.n)) in omega arith));
    beyond = w.kept.beyond;
  }
