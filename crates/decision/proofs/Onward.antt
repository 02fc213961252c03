-- What a call goes on with from the answers: the first refusal is the one that the definition passes on; and the joined sets of one k are what was decided,
-- so that neither the engine nor a join can run out of room. Assumes nothing.
use Prim.Native.Nat.{ℕ, zero, suc, ◌+◌, ◌≤◌, ◌<◌}
use native.Mathlib.Omega.{arith}
use native.Mathlib.Numerals.{add-one}
use mathlib.Core.Path.{◌≡◌, refl, sym, ap, ◌∙◌, subst}
use mathlib.Core.Bool.{Bool, true, false, cond}
use mathlib.Core.List.{List, [], ◌∷◌, ◌++◌}
use borrow.Author.Count.{below_more}
use borrow.Author.Tests.{eqb-true, eqb-false, ne_eqb}
use lib.Dec.{eqb}
use lib.ListN.{length, get_or, take, drop, set, replicate, length-set, length-replicate, drop_of_length-le}
use lib.Seq.{take-suc, take-suc-set, drop-cons, drop_at, length-take-le, get_or-set_same, get_or-set_other}
use Rattle.std.specs.Prelude.{Result, Ok, Err}
use Rattle.std.proofs.lemmas.List.{map-append, take_all}
use Rattle.refusals.specs.Numbers.{number}
use Rattle.refusals.specs.declared.Refusal.{Refusal}
use Rattle.refusals.proofs.Numbers.{number-positive}
use Rattle.cfg.specs.Grammar.{Grammar}
use Rattle.cfg.specs.Reading.{got as read}
use Rattle.cfg.specs.Accept.{accept_table}
use Rattle.cfg.specs.Table.{GrammarSound}
use Rattle.cfg.specs.Written.{productions_of}
use Rattle.cfg.specs.declared.table.Table.{Table}
use Rattle.k_tuple.specs.Strings.{width_of}
use Rattle.k_tuples.specs.Blocks.{IsStored}
use Rattle.k_tuples.specs.Work.{Answer, got, refused, ◌>>=◌}
use Rattle.k_tuples.proofs.Work.{not-got, got-inj}
use Rattle.analysis.specs.Analysis.{Analysis, work}
use Rattle.analysis.proofs.Kept.{answers-right}
use Rattle.engine.specs.Steps.{grammar_in, Ready}
use Rattle.engine.proofs.Tables.{read-ready}
use Rattle.engine.specs.Call.{Record as EngineRecord, Promised as Analysed}
use Rattle.decision_theory.specs.Needed.{Choice, Decided, own, choices_of, apart, choices_at, try_from, decide_for, decide, needed_k, only_k}
use Rattle.decision.specs.declared.Links.{Links}
use Rattle.decision.specs.declared.Layout.{Layout}
use Rattle.decision.specs.Own.{AllLinked}
use Rattle.decision.specs.Steps.{held, Ready as KReady, Sized, grammar_of, OnTable, Given, JoinedAll, Sought}
use Rattle.decision.specs.Call.{refusal_in, k_in, refusals_in, ks_in}
use Rattle.decision.specs.Onward.{first_of, first_refusal, AllKs, Known, Prepared, Marked, KJoined}
use Rattle.decision.proofs.Padded.{zeros-at}
use Rattle.decision.proofs.Trying.{choices-in-place}
use Rattle.decision.proofs.Answering.{table-ok, sized-needs, sized-spare, sets-stand, engine-works, engine-result, engine-work, engine-ready, engine-block, engine-held, engine-beyond}
use Rattle.decision.proofs.Finishing.{table-grammar, sized-table, given-all}

-- ---- the first refusal

pub record Looks (xs : List (Result ℕ Refusal)) (ks : List ℕ) (a : ℕ) : Type 0 where
  pub below : a ≤ 128
  pub rest : first_of (refusals_in (drop a xs)) ≡ first_of (refusals_in xs)
  pub long : length ks ≡ 128
  pub told : take a ks ≡ ks_in (take a xs)

-- nothing was looked at
pub looks-start : (xs : List (Result ℕ Refusal)) → Looks xs (replicate 128 0) 0
looks-start xs = record { below = omega arith; rest = refl; long = length-replicate {A = ℕ} 128 0; told = refl }

module _ {xs : List (Result ℕ Refusal)} {ks : List ℕ} {a : ℕ} (l : Looks xs ks a) (long : length xs ≡ 128) (h : a < 128) where
  -- the numbers from a on
  from-here : first_of (refusals_in xs) ≡ cond (eqb (refusal_in (get_or xs a (Ok 0))) 0) (first_of (refusals_in (drop (suc a) xs))) (refusal_in (get_or xs a (Ok 0)))
  unfolding first_of
  from-here = sym l.rest ∙ ap (λ (ys : List (Result ℕ Refusal)). first_of (refusals_in ys)) (drop-cons xs a (Ok 0) (omega arith))

  -- a k is taken over
  pub looks-more : (k : ℕ) → get_or xs a (Ok 0) ≡ Ok k → Looks xs (set ks a k) (a + 1)
  looks-more k e = record {
    below = omega arith;
    rest = ap (λ (i : ℕ). first_of (refusals_in (drop i xs))) (add-one a) ∙ sym (from-here ∙ rw e);
    long = length-set ks a k ∙ l.long;
    told = rw (add-one a) (take-suc-set ks a k (omega (arith, l.long)) ∙ ap (λ (ys : List ℕ). ys ++ k ∷ []) l.told ∙ sym (ap ks_in (take-suc xs a (Ok 0) (omega arith)) ∙ map-append k_in (take a xs) _ ∙ rw e));
  }

  -- the first refusal is found
  pub looks-found : (e : Refusal) → get_or xs a (Ok 0) ≡ Err e → AllKs xs (Err e)
  unfolding first_refusal
  looks-found e is = record { known = λ ks q. absurd (cc); lacks = λ f q. sym (from-here ∙ rw is (by e f cc)) }
    where
      by : (e f : Refusal) → e ≡ f → cond (eqb (number e) 0) (first_of (refusals_in (drop (suc a) xs))) (number e) ≡ number f
      by e f q = rw (← q) (rw (ne_eqb (number e) 0 (λ (z : number e ≡ 0). omega (arith, number-positive e))))

-- all are taken over
pub looks-end : {xs : List (Result ℕ Refusal)} {ks : List ℕ} {a : ℕ} → Looks xs ks a → length xs ≡ 128 → 128 ≤ a → AllKs xs (Ok ks)
unfolding first_refusal first_of
looks-end {xs} {ks} {a} l long h = record {
  known = λ ls q.
      let same : ls ≡ ks = cc in
      let past_all : length xs ≤ a = omega arith in
      let past_ks : length ks ≤ a = omega (arith, l.long) in (
        sym (sym l.rest ∙ ap (λ (ys : List (Result ℕ Refusal)). first_of (refusals_in ys)) (drop_of_length-le xs past_all)),
        same ∙ sym (take_all a ks past_ks) ∙ l.told ∙ ap ks_in (take_all a xs past_all),
      );
  lacks = λ e q. absurd (cc);
}

-- ---- the table, read again

-- its layout and links are those that buffers are given with
module _ {limit c : ℕ} {table : List ℕ} (on : OnTable limit c table) (a : Table) (words : List ℕ) (says : read (grammar_in a.shape (take a.used words)) (length table) ≡ accept_table table) {end : ℕ} (f : end ≡ a.used)
    (sound : GrammarSound a.shape.n a.shape.p a.used words) where
  -- its words are read as before
  pub plan-ready : Ready limit c a.shape (take end words)
  plan-ready = read-ready limit c table [] [] on.limit>0 on.limit<11 on.c>0 on.c<1025 a words says f sound

  pub plan-read : {u : Layout} {links : Links} → Sized c (grammar_in a.shape (take end words)) u × AllLinked (productions_of u.p (take end words)) u.p links → Prepared limit c table u links
  plan-read (z, l) =
      let same = table-grammar table a words says f in
      let sized = sized-table on plan-ready same z in
      record { given = λ result scratch enough spare. given-all on plan-ready same z l (rw (sized-needs sized) enough) (rw (sized-spare sized) spare) }

-- ---- the marks

pub record Marks (n k : ℕ) (ks marks : List ℕ) (a : ℕ) : Type 0 where
  pub below : a ≤ n
  pub so_far : Marked a k ks marks
  pub rest : (A : ℕ) → a ≤ A → get_or marks A 0 ≡ 0

-- none is marked
pub marks-start : (n k : ℕ) (ks : List ℕ) → Marks n k ks (replicate 128 0) 0
marks-start n k ks = record {
  below = omega arith;
  so_far = record { these = λ A h. absurd (omega arith); others = λ A h. absurd (omega arith); long = length-replicate {A = ℕ} 128 0 };
  rest = λ A h. zeros-at 128 A;
}

module _ {n k : ℕ} {ks marks : List ℕ} {a : ℕ} (l : Marks n k ks marks a) where
  -- one that needs another k is not marked
  pub marks-skip : a < n → (get_or ks a 0 ≡ k → ⊥) → Marks n k ks marks (a + 1)
  marks-skip h e = record {
    below = omega arith;
    so_far = record {
      these = below_more _ a l.so_far.these (λ q. absurd (e q));
      others = below_more _ a l.so_far.others (λ q. l.rest a (omega arith));
      long = l.so_far.long;
    };
    rest = λ A i. l.rest A (omega arith);
  }

  -- one that needs k is
  pub marks-set : a < n → n ≤ 128 → get_or ks a 0 ≡ k → Marks n k ks (set marks a 22) (a + 1)
  marks-set h m e =
      let same : get_or (set marks a 22) a 0 ≡ 22 = get_or-set_same marks a 22 0 (omega (arith, l.so_far.long)) in
      let other : (A : ℕ) → ¬ A ≡ a → get_or (set marks a 22) A 0 ≡ get_or marks A 0 = λ A d. get_or-set_other marks a A 22 0 d in
      record {
        below = omega arith;
        so_far = record {
          these = below_more _ a (λ A i q. other A (λ (s : A ≡ a). omega arith) ∙ l.so_far.these A i q) (λ q. same);
          others = below_more _ a (λ A i q. other A (λ (s : A ≡ a). omega arith) ∙ l.so_far.others A i q) (λ q. absurd (q e));
          long = length-set marks a 22 ∙ l.so_far.long;
        };
        rest = λ A i. other A (λ (s : A ≡ a). omega arith) ∙ l.rest A (omega arith);
      }

  -- all were seen
  pub marks-end : n ≤ a → Marked n k ks marks
  marks-end h = let same : a ≡ n = omega (arith, l.below) in subst (λ (m : ℕ). Marked m k ks marks) same l.so_far

-- ---- what was decided, at its k

module _ (c : ℕ) (g : Grammar) (A : ℕ) where
  -- trying ends with the choices of its k
  tried-choices : (left j : ℕ) (d : Decided) → try_from c g A left j ≡ got d → choices_at c g A d.k ≡ got d.choices
  unfolding try_from
  tried-choices zero j d e = not-got e
  tried-choices (suc left) j d e = by (choices_at c g A j) refl e (tried-choices left (suc j) d)
    where
      by : (m : Answer (List Choice)) → choices_at c g A j ≡ m → (m >>= λ xs. elim (apart xs) [ true ↦ got (record { k = j; choices = xs }) | false ↦ try_from c g A left (suc j) ]) ≡ got d
          → (try_from c g A left (suc j) ≡ got d → choices_at c g A d.k ≡ got d.choices) → choices_at c g A d.k ≡ got d.choices
      by (refused r) q e more = not-got e
      by (got xs) q e more = test (apart xs) e
        where
          test : (b : Bool) → elim b [ true ↦ got (record { k = j; choices = xs }) | false ↦ try_from c g A left (suc j) ] ≡ got d → choices_at c g A d.k ≡ got d.choices
          test true e = subst (λ (x : Decided). choices_at c g A x.k ≡ got x.choices) (got-inj e) q
          test false e = more e

  -- what is decided at a k above 0 has the choices of that k
  decided-choices : (limit : ℕ) (d : Decided) → decide c g A limit ≡ got d → 1 ≤ d.k → choices_at c g A d.k ≡ got d.choices
  unfolding decide
  decided-choices limit d e h = by (own g A) e
    where
      by : (is : List ℕ) → decide_for c g A is limit ≡ got d → choices_at c g A d.k ≡ got d.choices
      by [] e = tried-choices limit 1 d e
      by (i ∷ []) e = absurd (let z = ap (λ (x : Decided). x.k) (got-inj e) in omega arith)
      by (i ∷ j ∷ is) e = tried-choices limit 1 d e

  -- the k that is needed is that of what is decided
  pub needed-decided : (limit k : ℕ) → needed_k c g A limit ≡ got k → (d : Decided) × (decide c g A limit ≡ got d) × (d.k ≡ k)
  unfolding needed_k
  needed-decided limit k e = by (decide c g A limit) refl e
    where
      by : (m : Answer Decided) → decide c g A limit ≡ m → only_k m ≡ got k → (d : Decided) × (decide c g A limit ≡ got d) × (d.k ≡ k)
      by (refused r) q e = not-got e
      by (got d) q e = (d, q, got-inj e)

  -- choices come from the engine's sets
  choices-worked : (k : ℕ) (xs : List Choice) → choices_at c g A k ≡ got xs → (a : Analysis) × (work k c g ≡ got a) × (choices_of c k a.productions a.follows A (own g A) ≡ got xs)
  unfolding choices_at
  choices-worked k xs e = by (work k c g) refl e
    where
      by : (m : Answer Analysis) → work k c g ≡ m → (m >>= λ a. choices_of c k a.productions a.follows A (own g A)) ≡ got xs
          → (a : Analysis) × (work k c g ≡ got a) × (choices_of c k a.productions a.follows A (own g A) ≡ got xs)
      by (refused r) q e = not-got e
      by (got a) q e = (a, q, e)

-- a nonterminal that needs k: what is decided for it, and the engine's sets from which it is
pub record Worked (limit c : ℕ) (g : Grammar) (A k : ℕ) : Type 0 where
  pub choices : List Choice
  pub decided : decide c g A limit ≡ got (record { k = k; choices = choices })
  pub sets : Analysis
  pub works : work k c g ≡ got sets
  pub chosen : choices_of c k sets.productions sets.follows A (own g A) ≡ got choices

-- what needs k was worked out at k
pub worked : (limit c : ℕ) (g : Grammar) (A k : ℕ) → 1 ≤ k → needed_k c g A limit ≡ got k → Worked limit c g A k
worked limit c g A k h e =
    let (d, q, z) = needed-decided c g A limit k e in
    let at : choices_at c g A k ≡ got d.choices = rw z at (decided-choices c g A limit d q (omega arith)) in
    let (a, w, x) = choices-worked c g A k d.choices at in
    record {
      choices = d.choices;
      decided = q ∙ ap (λ (j : ℕ). got (record { k = j; choices = d.choices })) z;
      sets = a;
      works = w;
      chosen = x;
    }

-- ---- the joined sets of one k

module _ {limit c : ℕ} {table : List ℕ} {u : Layout} {links : Links} {result scratch : List ℕ} (given : Given limit c table u links (length result) (length scratch)) {k : ℕ} (k>0 : 1 ≤ k) (k<11 : k ≤ 10)
    {ks marks : List ℕ} (known : Known limit c (grammar_of table) ks) (marked : Marked u.n k ks marks) where
  -- no nonterminal needs this k
  pub none-joined : {some : Bool} → Sought u.n marks some → some ≡ false → KJoined limit c k (grammar_of table) u ks result scratch result scratch
  none-joined s e = record {
    each = λ A h q. let l : A < u.n = omega (arith, given.sized.n) in absurd (s.none e A l (marked.these A l q));
    stored = λ j s. (j, s);
    beyond = record { result-beyond = refl; scratch-beyond = refl };
  }

  -- one does, and so the engine works it out
  module _ {some : Bool} (s : Sought u.n marks some) (e : some ≡ true) {l : EngineRecord} {result₁ scratch₁ : List ℕ} (call : Analysed k c table result scratch l result₁ scratch₁) where
    -- a marked one needs k
    needs-it : (A : ℕ) → A < u.n → get_or marks A 0 ≡ 22 → get_or ks A 0 ≡ k
    needs-it A h o = by (eqb (get_or ks A 0) k) refl
      where
        by : (b : Bool) → eqb (get_or ks A 0) k ≡ b → get_or ks A 0 ≡ k
        by true q = eqb-true (get_or ks A 0) k q
        by false q = absurd (let z = marked.others A h (eqb-false (get_or ks A 0) k q) in omega arith)

    -- the call of the engine was not refused
    unrefused : l.refusal ≡ 0
    unrefused =
        let (A, h, o) = s.some e in
        let w = worked limit c (grammar_of table) A k k>0 (known.each A (omega (arith, given.sized.n)) ∙ ap got (needs-it A h o)) in
        engine-works given k>0 k<11 call w.sets w.works

    -- its sets stand in the result, ready to be joined
    pub k-ready : KReady u k result₁ (take u.b scratch₁)
    k-ready = engine-ready given k>0 k<11 call unrefused

    -- the scratch has a block to work in
    pub k-block : length scratch₁ ≡ length scratch → u.b ≤ length scratch₁
    k-block = engine-block given k>0 k<11 call unrefused

    -- of the grammar's width
    k-stored : {marks₂ result₂ work₂ : List ℕ} → JoinedAll u links k u.p marks marks₂ result₁ (take u.b scratch₁) result₂ work₂ → IsStored k (width_of ((grammar_of table).t + 5)) u.b u.sets result₂
    k-stored {result₂ = result₂} j =
        let (a, sets) = sets-stand given k>0 k<11 call unrefused in
        subst (λ (w : ℕ). IsStored k w u.b u.sets result₂)
        (answers-right (grammar_of table) k c (table-ok given.on) k>0 given.on.c>0 a sets.works).sizes.width
        (j.keeps a.width (engine-result given k>0 k<11 call unrefused a sets) (engine-work given k>0 k<11 call unrefused a sets)).0

    -- the joined sets are what was decided
    pub k-joined : {marks₂ result₂ work₂ : List ℕ} → JoinedAll u links k u.p marks marks₂ result₁ (take u.b scratch₁) result₂ work₂ → u.b ≤ length scratch₁ → length work₂ ≡ length (take u.b scratch₁)
        → KJoined limit c k (grammar_of table) u ks result scratch result₂ (work₂ ++ drop u.b scratch₁)
    k-joined {marks₂} {result₂} {work₂} j room same = record {
      each = λ A h q.
          let m : A < u.n = omega (arith, given.sized.n) in
          let w = worked limit c (grammar_of table) A k k>0 (known.each A h ∙ ap got q) in
          let (a, sets) = sets-stand given k>0 k<11 call unrefused in
          let one : w.sets ≡ a = got-inj (sym w.works ∙ sets.works) in
          let xs : choices_of c k a.productions a.follows A (own (grammar_of table) A) ≡ got w.choices = rw one at w.chosen in
          let in_place = rw (engine-held given k>0 k<11 call unrefused a sets) at (j.joined.each A m) in
          record {
            store = k-stored j;
            decided = w.decided ∙ ap (λ (x : List Choice). got (record { k = k; choices = x }))
                (choices-in-place c k (grammar_of table) (table-ok given.on) k>0 given.on.c>0 given.on.c<1025 a sets.works u given.sized links given.sides A m (held u result₂) w.choices xs (marked.these A m q) in_place);
          };
      stored = λ _ _. (k, k-stored j);
      beyond = engine-beyond given k>0 k<11 call unrefused j.beyond (drop_at work₂ (drop u.b scratch₁) u.b (same ∙ length-take-le u.b scratch₁ room));
    }
