-- A row looked up and marked, and then all rows of a level: what the marks say, and the first bad row. Assumes nothing.
use Prim.Native.Nat.{ℕ, ◌+◌, ◌*◌, ◌≤◌, ◌<◌}
use native.Mathlib.Omega.{arith}
use native.Mathlib.Decide.{dec_lt, ℕ_discrete}
use mathlib.Core.Path.{◌≡◌, refl, sym, ap, ◌∙◌, subst}
use mathlib.Core.Bool.{Bool, true, false, true≢false, false≢true}
use mathlib.Core.Logic.{inl, inr, ⊎_elim, ◌↔◌}
use mathlib.Core.List.{List}
use borrow.Author.Tests.{lt-ltb, le-ltb}
use lib.ListN.{length, get_or, replicate, length-replicate}
use Rattle.std.specs.Prelude.{Option, Some, None}
use Rattle.k_tuples.specs.Sets.{◌∈◌}
use Rattle.k_tuples.specs.Blocks.{part_at}
use Rattle.k_tuples.proofs.Blocks.{part_length, in-sets}
use Rattle.k_tuples.proofs.Held.{holds-set}
use Rattle.k_tuples.proofs.Words.{set_room}
use Rattle.blocks.specs.Stores.{Sets}
use Rattle.decision.specs.declared.Links.{Links}
use Rattle.decision.specs.declared.Layout.{Layout}
use Rattle.decision.specs.Own.{left_at}
use Rattle.decision.proofs.Apart.{set_holds}
use Rattle.decision_theory.specs.Needed.{Rising}
use Rattle.marking.specs.Bits.{is_marked, MarkedAt}
use Rattle.marking.specs.Lines.{numbers_in, numbers_at, Placed, Stand, mark_of, Line, line_at, line_for, level_of, MarkTaken, LineTaken, Right, Among, BadLine, MarksOf, Checked}
use Rattle.marking.proofs.Numbers.{numbers-rise, numbers-length, one_place, place_in}
use Rattle.marking.proofs.Digits.{clear-marks}

-- ---- the level

pub level_in : {at n : ℕ} (A : ℕ) (κ : List ℕ) → at ≡ A → at < n → get_or κ at 0 ≡ level_of n κ A
unfolding level_of
level_in {at} {n} A κ e h = rw (lt-ltb A n (omega arith)) (ap (λ (i : ℕ). get_or κ i 0) e)

pub level_out : {at n : ℕ} (A : ℕ) (κ : List ℕ) → at ≡ A → n ≤ at → 0 ≡ level_of n κ A
unfolding level_of
level_out {at} {n} A κ e h = rw (le-ltb A n (omega arith))

-- that of a nonterminal of the grammar
pub level-is : (n A : ℕ) (κ : List ℕ) → A < n → level_of n κ A ≡ get_or κ A 0
level-is n A κ h = sym (level_in A κ refl h)

-- ---- one block

module _ {b m : ℕ} {ws : List ℕ} (s : Sets b m ws) (j : ℕ) (h : j < m) where
  pub block-long : length (part_at b j ws) ≡ b
  block-long = part_length s.store.stored j (in-sets s.store h)

  -- its numbers rise, and there is room for them
  pub block-rise : Rising (numbers_in (part_at b j ws))
  block-rise = numbers-rise (holds-set (set_holds s j h))

  pub block_room : 2 * length (numbers_in (part_at b j ws)) + 1 ≤ b
  block_room =
      let l = numbers-length (part_at b j ws) in
      let r = set_room (holds-set (set_holds s j h)) in
      let z = block-long in
      omega arith

-- ---- one mark

module _ {vs : List ℕ} {v : ℕ} {o : Option ℕ} (p : Placed vs v o) where
  pub mark-absent : {i : ℕ} {marks marks' : List ℕ} → o ≡ None → MarkTaken vs i v marks marks' false
  mark-absent {i} {marks} {marks'} e = by p
    where
      by : Placed vs v o → MarkTaken vs i v marks marks' false
      by (Placed.found j q l is) = absurd (cc)
      by (Placed.absent n q) = MarkTaken.absent n refl

  module _ {j : ℕ} (e : o ≡ Some j) where
    place_found : (j < length vs) × (get_or vs j 0 ≡ v)
    place_found = by p
      where
        by : Placed vs v o → (j < length vs) × (get_or vs j 0 ≡ v)
        by (Placed.found m q l is) = let z : m ≡ j = cc in rw (← z) (l, is)
        by (Placed.absent n q) = absurd (cc)

    pub mark-small : {b i : ℕ} → 2 * length vs + 1 ≤ b → b ≤ 2049 → i < 512 → 1024 * i + j < 524288
    mark-small room few h = let q = place_found.0 in omega arith

    pub mark-again : {i : ℕ} {r : Bool} {marks marks' : List ℕ} → r ≡ is_marked marks (1024 * i + j) → r ≡ true → MarkTaken vs i v marks marks' false
    mark-again q t = let f = place_found in MarkTaken.again j f.0 f.1 (sym q ∙ t) refl

    pub mark-taken : {i : ℕ} {r : Bool} {marks marks' : List ℕ} → r ≡ is_marked marks (1024 * i + j) → r ≡ false → MarkedAt marks (1024 * i + j) marks' → MarkTaken vs i v marks marks' true
    mark-taken q t m = let f = place_found in MarkTaken.taken j f.0 f.1 (sym q ∙ t) m refl

-- ---- one row

-- the row of nonterminal A, number v and production i
abbrev line_of : ℕ → ℕ → ℕ → Line
line_of A v i = record { nonterminal = A; number = v; production = i }

module _ {k lv : ℕ} (u : Layout) (κ : List ℕ) (A : ℕ) (level : lv ≡ level_of u.n κ A) where
  pub line-over : {links : Links} {result marks : List ℕ} {v i : ℕ} → ¬ lv ≡ k → LineTaken u links κ result k (line_of A v i) marks marks true
  line-over n = LineTaken.passed_over (λ e. n (level ∙ e)) refl refl

  pub line-past : {links : Links} {result marks marks' : List ℕ} {v i own : ℕ} → lv ≡ k → own ≡ i → u.p ≤ own → LineTaken u links κ result k (line_of A v i) marks marks' false
  line-past e o h = LineTaken.foreign (sym level ∙ e) (λ q. let l = q.0 in omega arith) refl

  pub line-foreign : {links : Links} {result marks marks' : List ℕ} {v i own a : ℕ} → lv ≡ k → own ≡ i → a ≡ A → ¬ left_at links own ≡ a → LineTaken u links κ result k (line_of A v i) marks marks' false
  line-foreign {links} e o f n = LineTaken.foreign (sym level ∙ e) (λ q. n (ap (left_at links) o ∙ q.1 ∙ sym f)) refl

  pub line-tried : {links : Links} {result marks marks' : List ℕ} {v i own a : ℕ} {r : Bool} → lv ≡ k → own ≡ i → own < u.p → a ≡ A → left_at links own ≡ a
      → MarkTaken (numbers_at u result own) own v marks marks' r → LineTaken u links κ result k (line_of A v i) marks marks' r
  line-tried {links} {result} {marks} {marks'} {v} {r = r} e o h f q m =
      LineTaken.tried (sym level ∙ e) (omega arith) (ap (left_at links) (sym o) ∙ q ∙ f) (subst (λ (x : ℕ). MarkTaken (numbers_at u result x) x v marks marks' r) o m)

-- what holds before row t: the rows of the level are fine, and those marked are they
pub record Taking (u : Layout) (links : Links) (κ result : List ℕ) (k : ℕ) (ws : List ℕ) (marks : List ℕ) (t : ℕ) : Type 0 where
  pub fine : (h : ℕ) → h < t → level_of u.n κ (line_at ws h).nonterminal ≡ k → ¬ BadLine u links result ws h
  pub marked : MarksOf u links κ result k ws t marks
  pub long : length marks ≡ 8192

module _ {u : Layout} {links : Links} {κ result : List ℕ} (s : Stand u links κ result) where
  -- production i's block
  pub own_block : (i : ℕ) → i < u.p → u.n + i < u.sets
  own_block i h = let w = s.fit.whole in omega arith

  pub own-few : (i : ℕ) → i < u.p → i < 512
  own-few i h = let w = s.fit.linked.few in omega arith

  own-rise : (i : ℕ) → i < u.p → Rising (numbers_at u result i)
  own-rise i h = block-rise s.sets (u.n + i) (own_block i h)

  pub own_room : (i : ℕ) → i < u.p → length (numbers_at u result i) ≤ 1024
  own_room i h =
      let r = block_room s.sets (u.n + i) (own_block i h) in
      let w = s.room in
      omega arith

  -- ---- all rows

  module _ (k : ℕ) (ws : List ℕ) where
    -- one more is among the rows
    among-more : (t : ℕ) (l : Line) → Among ws t l → Among ws (t + 1) l
    among-more t l a = record { s = a.s; before = let h = a.before in omega arith; is = a.is }

    among-last : (t : ℕ) (l : Line) → Among ws (t + 1) l → ¬ line_at ws t ≡ l → Among ws t l
    among-last t l a n = by (dec_lt a.s t)
      where
        by : Dec (a.s < t) → Among ws t l
        by (yes h) = record { s = a.s; before = h; is = a.is }
        by (no h) = let z : a.s ≡ t = let q = a.before in omega arith in absurd (n (subst (λ (x : ℕ). line_at ws x ≡ l) z a.is))

    -- a row of another level
    module _ {marks : List ℕ} {t : ℕ} (before : Taking u links κ result k ws marks t) where
      fine_more : (level_of u.n κ (line_at ws t).nonterminal ≡ k → ¬ BadLine u links result ws t)
          → (h : ℕ) → h < t + 1 → level_of u.n κ (line_at ws h).nonterminal ≡ k → ¬ BadLine u links result ws h
      fine_more last h l e = by (dec_lt h t)
        where
          by : Dec (h < t) → ¬ BadLine u links result ws h
          by (yes m) = before.fine h m e
          by (no m) =
              let z : h ≡ t = omega arith in
              subst (λ (x : ℕ). ¬ BadLine u links result ws x) (sym z) (last (subst (λ (x : ℕ). level_of u.n κ (line_at ws x).nonterminal ≡ k) z e))

      pub taking-over : ¬ level_of u.n κ (line_at ws t).nonterminal ≡ k → Taking u links κ result k ws marks (t + 1)
      taking-over n = record {
        fine = fine_more (λ e. absurd (n e));
        marked = λ i j h e l. (
          λ m. among-more t _ ((before.marked i j h e l).0 m),
          λ a. (before.marked i j h e l).1 (among-last t _ a (λ q. n (subst (λ (x : Line). level_of u.n κ x.nonterminal ≡ k) (sym q) (level-is u.n (left_at links i) κ (s.fit.inside i h) ∙ e)))),
        );
        long = before.long;
      }

      -- a row of the level that is there, and was not marked
      module _ (inside : (line_at ws t).production < u.p) (own : left_at links (line_at ws t).production ≡ (line_at ws t).nonterminal)
          (level : level_of u.n κ (line_at ws t).nonterminal ≡ k) (j : ℕ) (l : j < length (numbers_at u result (line_at ws t).production))
          (is : get_or (numbers_at u result (line_at ws t).production) j 0 ≡ (line_at ws t).number) where
        line-is : line_at ws t ≡ line_for u links result (line_at ws t).production j
        line-is =
            ap (λ (A : ℕ). record { nonterminal = A; number = (line_at ws t).number; production = (line_at ws t).production }) (sym own)
            ∙ ap (λ (v : ℕ). record { nonterminal = left_at links (line_at ws t).production; number = v; production = (line_at ws t).production }) (sym is)

        at_level : get_or κ (left_at links (line_at ws t).production) 0 ≡ k
        at_level = sym (level-is u.n (left_at links (line_at ws t).production) κ (s.fit.inside (line_at ws t).production inside)) ∙ ap (level_of u.n κ) own ∙ level

        is_right : Right u links result (line_at ws t)
        is_right = record { inside = inside; own = own; has = subst (λ (v : ℕ). v ∈ numbers_at u result (line_at ws t).production) is (place_in (numbers_at u result (line_at ws t).production) j l) }

        pub again-bad : is_marked marks (mark_of (line_at ws t).production j) ≡ true → BadLine u links result ws t
        again-bad m = inr (rw line-is ((before.marked (line_at ws t).production j inside at_level l).0 m))

        pub taking-more : {marks' : List ℕ} → is_marked marks (mark_of (line_at ws t).production j) ≡ false → MarkedAt marks (mark_of (line_at ws t).production j) marks' → Taking u links κ result k ws marks' (t + 1)
        taking-more {marks'} free m = record {
          fine = fine_more (λ e. ⊎_elim (λ n. n is_right) (λ a. true≢false (sym ((before.marked (line_at ws t).production j inside at_level l).1 (rw (sym line-is) a)) ∙ free)));
          marked = λ i h p e q. by i h p e q (ℕ_discrete (mark_of i h) (mark_of (line_at ws t).production j));
          long = m.long ∙ before.long;
        }
          where
            by : (i h : ℕ) → i < u.p → get_or κ (left_at links i) 0 ≡ k → h < length (numbers_at u result i) → Dec (mark_of i h ≡ mark_of (line_at ws t).production j)
                → (is_marked marks' (mark_of i h) ≡ true) ↔ Among ws (t + 1) (line_for u links result i h)
            by i h p e q (yes z) =
                let r = own_room i p in
                let r' = own_room (line_at ws t).production inside in
                let a : i ≡ (line_at ws t).production = omega arith in
                let c : h ≡ j = omega arith in (
                  λ n. record { s = t; before = omega arith; is = line-is ∙ ap (λ (x : ℕ). line_for u links result x j) (sym a) ∙ ap (line_for u links result i) (sym c) },
                  λ n. subst (λ (x : ℕ). is_marked marks' x ≡ true) (sym z) m.here,
                )
            by i h p e q (no z) = (
              λ n. among-more t _ ((before.marked i h p e q).0 (sym (m.others (mark_of i h) z) ∙ n)),
              λ a. m.others (mark_of i h) z ∙ (before.marked i h p e q).1 (among-last t _ a (λ y.
                  let y' = sym line-is ∙ y in
                  let a : (line_at ws t).production ≡ i = ap (λ (x : Line). x.production) y in
                  let c : get_or (numbers_at u result i) j 0 ≡ get_or (numbers_at u result i) h 0 = subst (λ (x : ℕ). get_or (numbers_at u result x) j 0 ≡ get_or (numbers_at u result i) h 0) a (ap (λ (x : Line). x.number) y') in
                  let l' : j < length (numbers_at u result i) = subst (λ (x : ℕ). j < length (numbers_at u result x)) a l in
                  let d : j ≡ h = one_place (numbers_at u result i) (own-rise i p) j h l' q c in
                  z (omega arith))),
            )

    -- before the first row
    pub taking-start : (marks : List ℕ) → marks ≡ replicate 8192 0 → Taking u links κ result k ws marks 0
    taking-start marks e = record {
      fine = λ h l. absurd (omega arith);
      marked = λ i j h q l. (λ m. absurd (true≢false (sym m ∙ clear-marks marks (mark_of i j) e)), λ a. let z = a.before in absurd (omega arith));
      long = ap length e ∙ length-replicate {A = ℕ} 8192 0;
    }

    -- a row that is fine
    pub taking-next : {marks marks' : List ℕ} {t : ℕ} {r : Bool} → Taking u links κ result k ws marks t → LineTaken u links κ result k (line_at ws t) marks marks' r → r ≡ true → Taking u links κ result k ws marks' (t + 1)
    taking-next w (LineTaken.passed_over n e q) y = rw e (taking-over w n)
    taking-next w (LineTaken.foreign n e q) y = absurd (false≢true (sym q ∙ y))
    taking-next w (LineTaken.tried n e q (MarkTaken.absent a f)) y = absurd (false≢true (sym f ∙ y))
    taking-next w (LineTaken.tried n e q (MarkTaken.again j h m a f)) y = absurd (false≢true (sym f ∙ y))
    taking-next w (LineTaken.tried n e q (MarkTaken.taken j h m a f z)) y = taking-more w e q n j h m a f

    -- one that is not
    taking-bad : {marks marks' : List ℕ} {t : ℕ} {r : Bool} → Taking u links κ result k ws marks t → LineTaken u links κ result k (line_at ws t) marks marks' r → r ≡ false
        → (level_of u.n κ (line_at ws t).nonterminal ≡ k) × BadLine u links result ws t
    taking-bad w (LineTaken.passed_over n e q) y = absurd (true≢false (sym q ∙ y))
    taking-bad w (LineTaken.foreign n e q) y = (n, inl (λ r. e (r.inside, r.own)))
    taking-bad w (LineTaken.tried n e q (MarkTaken.absent a f)) y = (n, inl (λ r. a r.has))
    taking-bad w (LineTaken.tried n e q (MarkTaken.again j h m a f)) y = (n, again-bad w e q n j h m a)
    taking-bad w (LineTaken.tried n e q (MarkTaken.taken j h m a f z)) y = absurd (true≢false (sym z ∙ y))

    pub checked-bad : {marks marks' : List ℕ} {t end : ℕ} {r : Bool} → Taking u links κ result k ws marks t → LineTaken u links κ result k (line_at ws t) marks marks' r → r ≡ false → t < end
        → Checked u links κ result k ws end marks' t
    checked-bad w l e h = record { below = omega arith; fine = w.fine; bad = λ _. taking-bad w l e; marks = λ z. absurd (omega arith) }

    pub checked-all : {marks : List ℕ} {t end : ℕ} → Taking u links κ result k ws marks t → t ≤ end → end ≤ t → Checked u links κ result k ws end marks end
    checked-all {marks} {t} {end} w a b =
        let z : t ≡ end = omega arith in
        record { below = omega arith; fine = rw z at w.fine; bad = λ h. absurd (omega arith); marks = λ _. rw z at w.marked }
