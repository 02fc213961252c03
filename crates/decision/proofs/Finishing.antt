-- The record of the answers, and the call's ways out. Assumes nothing.
use Prim.Native.Nat.{ℕ, zero, suc, ◌+◌, ◌*◌, ◌≤◌, ◌<◌}
use native.Mathlib.Nat.{mul-le-mul}
use native.Mathlib.Omega.{arith}
use mathlib.Core.Path.{◌≡◌, refl, sym, ap, ap₂, ◌∙◌}
use mathlib.Core.List.{List, [], ◌∷◌, ◌++◌, map}
use borrow.Author.Tests.{le-leb, lt-leb}
use lib.ListN.{length, get_or, take, replicate}
use Rattle.std.specs.Prelude.{Err}
use Rattle.refusals.specs.Numbers.{number}
use Rattle.refusals.specs.declared.Refusal.{Refusal}
use Rattle.cfg.specs.Grammar.{Grammar}
use Rattle.cfg.specs.Reading.{got as read, refused as unread}
use Rattle.cfg.specs.Words.{Sound}
use Rattle.cfg.specs.Written.{productions_of}
use Rattle.cfg.specs.Accept.{accept_table}
use Rattle.cfg.specs.declared.table.Table.{Table}
use Rattle.cfg.proofs.Sizes.{accepted-sizes, length-productions}
use Rattle.k_tuples.specs.Work.{Answer, got, refused}
use Rattle.analysis.specs.Analysis.{result_needs, scratch_needs}
use Rattle.analysis.proofs.Counts.{occurrences-count}
use Rattle.cfg.specs.declared.table.Shape.{Shape}
use Rattle.engine.specs.Call.{wiped}
use Rattle.engine.specs.Steps.{grammar_in, Ready}
use Rattle.engine.proofs.Needed.{sound-128, productions-few}
use Rattle.decision_theory.specs.Needed.{each_from, grammar_for, decide, only_k, needed_k, decisions, needed_ks}
use Rattle.decision_theory.specs.Steps.{standing}
use Rattle.decision_theory.proofs.Lists.{at_place}
use Rattle.decision_theory.proofs.Call.{each-length, each_at}
use Rattle.decision_theory.proofs.Steps.{standing-is}
use Rattle.decision.specs.declared.Links.{Links}
use Rattle.decision.specs.declared.Layout.{Layout}
use Rattle.decision.specs.Call.{Record, refusal_of, k_of, padded, record_of, recorded, words_after, Left, Promised}
use Rattle.decision.specs.Own.{SidesOf, AllLinked}
use Rattle.decision.specs.Steps.{Sized, grammar_of, OnTable, Given, AllDone, AnsweredAll}
use Rattle.decision.proofs.Padded.{padded-is}
use Rattle.decision.proofs.Answering.{table-ok, result-needed, scratch-needed, grammar-for, sized-needs, sized-spare}

-- ---- the buffers have the words that are wiped

module _ {limit c : ℕ} {table : List ℕ} {u : Layout} {links : Links} {result scratch : ℕ} (given : Given limit c table u links result scratch) where
  pub given-result : u.sets * u.b ≤ result
  given-result = rw (sized-needs given.sized) given.result_words

  pub given-scratch : (2 * u.n + 4) * u.b ≤ scratch
  given-scratch = rw (sized-spare given.sized) given.scratch-words

  pub given-fits : (2 * u.n + 4) * u.b ≤ 532740
  given-fits = mul-le-mul {n₁ = 2 * u.n + 4} {m₁ = u.b} {n₂ = 260} {m₂ = 2049} (omega (arith, given.fit.few)) (omega (arith, given.sized.b, given.on.c<1025))

-- ---- the record

module _ {limit c : ℕ} {table : List ℕ} (on : OnTable limit c table) {u : Layout} (sized : Sized c (grammar_of table) u) (few : u.n ≤ 128)
    {ρ κ result scratch result₁ scratch₁ : List ℕ} (d : AllDone c (grammar_of table) limit ρ κ result scratch result₁ scratch₁) where
  abbrev g : Grammar
  g = grammar_of table

  abbrev xs : List (Answer ℕ)
  xs = each_from (λ A. needed_k c g A limit) 0 g.n

  many : length xs ≡ g.n
  many = each-length (λ A. needed_k c g A limit) 0 g.n

  at : (A : ℕ) → A < g.n → get_or xs A (refused 0) ≡ standing c g A limit
  at A h =
      let z : 0 + A ≡ A = omega arith in
      each_at (λ A. needed_k c g A limit) (refused 0) 0 g.n A h ∙ ap (λ (B : ℕ). needed_k c g B limit) z ∙ sym (standing-is g (table-ok on) c on.c>0 A limit)

  refusals-are : ρ ≡ padded (map refusal_of xs)
  refusals-are = padded-is refusal_of refl xs ρ d.stand.long.0 (omega (arith, many, sized.n))
      (λ A h. let l : A < g.n = omega (arith, many) in (d.stand.each A l).refusal ∙ ap refusal_of (sym (at A l))) (λ A h. (d.stand.others A (omega (arith, many))).0)

  ks-are : κ ≡ padded (map k_of xs)
  ks-are = padded-is k_of refl xs κ d.stand.long.1 (omega (arith, many, sized.n))
      (λ A h. let l : A < g.n = omega (arith, many) in (d.stand.each A l).k ∙ ap k_of (sym (at A l))) (λ A h. (d.stand.others A (omega (arith, many))).1)

  pub all-answered : {n : ℕ} {result₂ scratch₂ : List ℕ} → n ≡ u.n → result₂ ≡ wiped (u.sets * u.b) result₁ → scratch₂ ≡ wiped ((2 * u.n + 4) * u.b) scratch₁
      → AnsweredAll limit c g result scratch (record { refusal = 0; n = n; refusals = ρ; ks = κ }) result₂ scratch₂
  unfolding record_of words_after
  all-answered {n} en e f = record {
    answer =
        ap (λ (m : ℕ). record { refusal = 0; n = m; refusals = ρ; ks = κ }) (en ∙ sized.n ∙ sym many)
        ∙ ap₂ (λ (r k : List ℕ). record { refusal = 0; n = length xs; refusals = r; ks = k }) refusals-are ks-are;
    result_words = e ∙ ap (λ (m : ℕ). wiped m result₁) (sized-needs sized) ∙ ap (λ (l : List ℕ). replicate (result_needs c g) 0 ++ l) d.beyond.result-beyond;
    scratch-words = f ∙ ap (λ (m : ℕ). wiped m scratch₁) (sized-spare sized) ∙ ap (λ (l : List ℕ). replicate (scratch_needs c g) 0 ++ l) d.beyond.scratch-beyond;
  }

-- ---- the definition

map_each : {X Y : Type 0} (f : X → Y) (h : ℕ → X) (i n : ℕ) → map f (each_from h i n) ≡ each_from (λ A. f (h A)) i n
map_each f h i zero = refl
map_each {Y = Y} f h i (suc n) = ap (λ (l : List Y). f (h i) ∷ l) (map_each f h (suc i) n)

module _ {limit : ℕ} (c : ℕ) (table : List ℕ) (result scratch : ℕ) (limit>0 : 1 ≤ limit) (limit<11 : limit ≤ 10) where
  needed-got : {g : Grammar} → grammar_for c table result scratch ≡ got g → needed_ks limit c table result scratch ≡ got (each_from (λ A. needed_k c g A limit) 0 g.n)
  unfolding needed_ks decisions needed_k
  needed-got {g} e = rw (le-leb 1 limit limit>0, le-leb limit 10 limit<11, e) (ap got (map_each only_k (λ A. decide c g A limit) 0 g.n))

  needed-refused : {r : ℕ} → grammar_for c table result scratch ≡ refused r → needed_ks limit c table result scratch ≡ refused r
  unfolding needed_ks decisions
  needed-refused e = rw (le-leb 1 limit limit>0, le-leb limit 10 limit<11, e)

-- a refusal of the whole call leaves the words as they came
untouched : {m : Answer (List (Answer ℕ))} {needed needed' r : ℕ} {x : Record} (result scratch : List ℕ) → m ≡ refused r → x ≡ record_of (refused r) → Left m needed needed' result scratch x result scratch
unfolding words_after
untouched result scratch e a = rw e (record { answer = a; result_words = refl; scratch-words = refl })

-- a refusal in the code is that of the definition
pub refused-is : (e : Refusal) → recorded (Err e) ≡ record_of (refused (number e))
unfolding record_of
refused-is e = refl

-- ---- the tests of the limit and of c

module _ (limit c : ℕ) (table result scratch : List ℕ) {x : Record} where
  pub limit-low : limit < 1 → x ≡ record_of (refused 1) → Promised limit c table result scratch x result scratch
  unfolding needed_ks decisions
  limit-low h a = untouched result scratch (rw (lt-leb 1 limit h)) a

  module _ (limit>0 : 1 ≤ limit) where
    pub limit-high : 10 < limit → x ≡ record_of (refused 1) → Promised limit c table result scratch x result scratch
    unfolding needed_ks decisions
    limit-high h a = untouched result scratch (rw (le-leb 1 limit limit>0, lt-leb limit 10 h)) a

    module _ (limit<11 : limit ≤ 10) where
      pub c-low : c < 1 → x ≡ record_of (refused 2) → Promised limit c table result scratch x result scratch
      unfolding grammar_for
      c-low h a = untouched result scratch (needed-refused c table (length result) (length scratch) limit>0 limit<11 (rw (lt-leb 1 c h))) a

      module _ (c>0 : 1 ≤ c) where
        pub c-high : 1024 < c → x ≡ record_of (refused 2) → Promised limit c table result scratch x result scratch
        unfolding grammar_for
        c-high h a = untouched result scratch (needed-refused c table (length result) (length scratch) limit>0 limit<11 (rw (le-leb 1 c c>0, lt-leb c 1024 h))) a

-- ---- the lent words

module _ {limit c : ℕ} {table : List ℕ} (on : OnTable limit c table) {u : Layout} (sized : Sized c (grammar_of table) u) (result scratch : List ℕ) where
  pub result-short : {x : Record} → length result < u.sets * u.b → x ≡ record_of (refused 10) → Promised limit c table result scratch x result scratch
  unfolding grammar_for
  result-short h a = untouched result scratch (needed-refused c table (length result) (length scratch) on.limit>0 on.limit<11
      (rw (le-leb 1 c on.c>0, le-leb c 1024 on.c<1025, on.reads, lt-leb (result_needs c (grammar_of table)) (length result) (rw (sized-needs sized) at h)))) a

  module _ (enough : u.sets * u.b ≤ length result) where
    pub scratch-short : {x : Record} → length scratch < (2 * u.n + 4) * u.b → x ≡ record_of (refused 10) → Promised limit c table result scratch x result scratch
    unfolding grammar_for
    scratch-short h a = untouched result scratch (needed-refused c table (length result) (length scratch) on.limit>0 on.limit<11
        (rw (le-leb 1 c on.c>0, le-leb c 1024 on.c<1025, on.reads, le-leb (result_needs c (grammar_of table)) (length result) (rw (sized-needs sized) at enough), lt-leb (scratch_needs c (grammar_of table)) (length scratch) (rw (sized-spare sized) at h)))) a

    pub all-promised : {x : Record} {result' scratch' : List ℕ} → (2 * u.n + 4) * u.b ≤ length scratch → AnsweredAll limit c (grammar_of table) result scratch x result' scratch' → Promised limit c table result scratch x result' scratch'
    all-promised h l =
        rw (needed-got c table (length result) (length scratch) on.limit>0 on.limit<11 (grammar-for on (rw (sized-needs sized) at enough) (rw (sized-spare sized) at h)), result-needed on, scratch-needed on) l

-- ---- the grammar

module _ {limit c : ℕ} {s : Shape} {words : List ℕ} (ready : Ready limit c s words) {u : Layout} (sized : Sized c (grammar_in s words) u) where
  p-is : u.p ≡ s.p
  p-is = sized.p ∙ length-productions s.p words

  pub sides-requires : Sound 128 u.p words × (u.p ≤ 512)
  sides-requires = rw p-is (sound-128 ready, productions-few ready)

module _ {limit c : ℕ} {table : List ℕ} (on : OnTable limit c table) {s : Shape} {words : List ℕ} (ready : Ready limit c s words) (same : grammar_of table ≡ grammar_in s words) {u : Layout} (sized : Sized c (grammar_in s words) u) where
  pub sized-table : Sized c (grammar_of table) u
  sized-table = rw same sized

  pub sets-fit : u.sets * u.b ≤ 9966336
  sets-fit = mul-le-mul {n₁ = u.sets} {m₁ = u.b} {n₂ = 4864} {m₂ = 2049}
      (omega (arith, sized.all, ready.sizes.nonterminals, ready.sizes.productions, ready.sizes.positions, occurrences-count (productions_of s.p words))) (omega (arith, sized.b, on.c<1025))

  pub spare-fits : (2 * u.n + 4) * u.b ≤ 532740
  spare-fits = mul-le-mul {n₁ = 2 * u.n + 4} {m₁ = u.b} {n₂ = 260} {m₂ = 2049} (omega (arith, sized.n, ready.sizes.nonterminals)) (omega (arith, sized.b, on.c<1025))

  pub given-all : {links : Links} {result scratch : ℕ} → AllLinked (productions_of u.p words) u.p links → u.sets * u.b ≤ result → (2 * u.n + 4) * u.b ≤ scratch → Given limit c table u links result scratch
  given-all {links} l enough spare =
      let sides' : SidesOf (grammar_of table).productions links = rw (same, ← p-is ready sized) l.sides in
      let g = grammar_of table in
      let sizes = accepted-sizes table g on.next on.reads in
      record {
        on = on;
        sized = sized-table;
        fit = record {
          whole = omega (arith, sized-table.n, sized-table.p, sized-table.all);
          few = omega (arith, sized-table.n, sizes.nonterminals);
          inside = λ i h.
              let m : i < length g.productions = omega (arith, sized-table.p) in
              let r = ((table-ok on).ranged.rules (at_place g.productions (record { left = 0; right = [] }) i m)).0 in
              omega (arith, sides'.each i m, sized-table.n);
          linked = l.linked;
        };
        sides = sides';
        result_words = rw (sized-needs sized-table) at enough;
        scratch-words = rw (sized-spare sized-table) at spare;
      }

-- ---- the table

-- a table that is refused
pub table-refused : {limit c : ℕ} (table result scratch : List ℕ) → (1 ≤ limit) × (limit ≤ 10) → (1 ≤ c) × (c ≤ 1024) → (e : Refusal) → unread (number e) ≡ accept_table table
    → Promised limit c table result scratch (recorded (Err e)) result scratch
unfolding grammar_for
table-refused {limit} {c} table result scratch l h e s =
    untouched result scratch (needed-refused c table (length result) (length scratch) l.0 l.1 (rw (le-leb 1 c h.0, le-leb c 1024 h.1, ← s) refl)) (refused-is e)

-- one that is accepted, whose words are cut off where they end
module _ (table : List ℕ) (a : Table) (words : List ℕ) (says : read (grammar_in a.shape (take a.used words)) (length table) ≡ accept_table table) {end : ℕ} (f : end ≡ a.used) where
  reads_as : accept_table table ≡ read (grammar_in a.shape (take end words)) (length table)
  reads_as = sym (rw f says)

  pub table-grammar : grammar_of table ≡ grammar_in a.shape (take end words)
  unfolding grammar_of
  table-grammar = rw reads_as

  pub on-table : (limit c : ℕ) → 1 ≤ limit → limit ≤ 10 → 1 ≤ c → c ≤ 1024 → OnTable limit c table
  on-table limit c limit>0 limit<11 c>0 c<1025 = record {
    next = length table;
    reads = reads_as ∙ ap (λ (g : Grammar). read g (length table)) (sym table-grammar);
    limit>0 = limit>0;
    limit<11 = limit<11;
    c>0 = c>0;
    c<1025 = c<1025;
  }
