-- Rows and strings as numbers are rows and strings: what is found at a level is what the rules ask of it. Assumes nothing.
use Prim.Native.Nat.{ℕ, ◌+◌, ◌*◌, ◌/◌, ◌≤◌, ◌<◌}
use native.Mathlib.Omega.{arith}
use mathlib.Core.Path.{◌≡◌, refl, sym, ap, ap₂, ◌∙◌, subst}
use mathlib.Core.Bool.{Bool, true, false, cond, true≢false}
use mathlib.Core.Logic.{◌⊎◌, inl, inr, ⊎_elim}
use mathlib.Core.List.Memᴰ
use mathlib.Core.List.{List, [], ◌∷◌, map}
use borrow.Author.Tests.{eqb-true, eq-eqb, le-leb, lt-leb, ltb-true}
use lib.Dec.{eqb}
use lib.ListN.{length, get_or}
use Rattle.std.specs.Prelude.{Option}
use Rattle.cfg.specs.Grammar.{Grammar}
use Rattle.k_tuple.specs.Strings.{Str, eps, slots, length_of, Decoded, good, bad, well_formed, pack, decode}
use Rattle.k_tuple.specs.Order.{◌≺◌}
use Rattle.k_tuple.specs.Packed.{packed, number_of, less_of}
use Rattle.k_tuple.proofs.Words.{number-words}
use Rattle.k_tuple.proofs.Round.{decode-good, decode-pack}
use Rattle.k_tuples.specs.Sets.{◌∈◌, is_lt}
use Rattle.k_tuples.specs.Held.{Holds}
use Rattle.k_tuples.specs.Blocks.{part_at}
use Rattle.k_tuples.proofs.Blocks.{in-sets, part-holds}
use Rattle.k_tuples.proofs.Bridge.{less-packed}
use Rattle.k_tuples.proofs.Held.{holds-decode}
use Rattle.decision.specs.declared.Links.{Links}
use Rattle.decision.specs.declared.Layout.{Layout}
use Rattle.decision.specs.Own.{left_at}
use Rattle.decision.specs.Steps.{held, production_set}
use Rattle.decision_theory.specs.Marking.{Row, Wanted, row_at, Bad}
use Rattle.decision_theory.proofs.Call.{each-length, each_at}
use Rattle.decision_theory.proofs.Lists.{at_place, place_of}
use Rattle.decision_theory.proofs.Marking.{row_same}
use Rattle.marking.specs.Bits.{is_marked}
use Rattle.marking.specs.Lines.{end_of, numbers_in, numbers_at, level_of, Line, line_at, line_for, mark_of, Right, Among, BadLine, MarksOf, Checked, Free, Lacked}
use Rattle.marking.specs.declared.lack.Missed.{Missed}
use Rattle.marking.specs.Rows.{string_in, row_in, rows_in}
use Rattle.marking.specs.Levels.{row_of, Stands, LevelChecked, LevelMissed, AtLevel}
use Rattle.marking.specs.declared.Found.{Found}
use Rattle.marking.proofs.Looking.{own_block, level-is}

-- ---- strings and numbers

-- what stands past the end
abbrev no_row : Row
no_row = row_of 0 eps 0

-- the numbers of packed strings
numbers-packed : (w : ℕ) (a : List Str) → map number_of (map (packed w) a) ≡ map (pack w) a
numbers-packed w [] = refl
numbers-packed w (x ∷ a) = ap₂ (λ (v : ℕ) (vs : List ℕ). v ∷ vs) (number-words (pack w x)) (numbers-packed w a)

-- a string's number is read as the string
pub read_back : (w : ℕ) (z : Str) → well_formed w z ≡ true → string_in w (decode (pack w z)) ≡ z
read_back w z h = rw (decode-pack w z h, eq-eqb w w refl)

-- a number that is read as a string with a slot is the string's number
read-on : (w v : ℕ) (z : Str) → string_in w (decode v) ≡ z → 1 ≤ length_of z → v ≡ pack w z
read-on w v z e h = by (decode v) refl e
  where
    none : slots [] ≡ z → ⊥
    none q = let y : length_of z ≡ 0 = ap length_of (sym q) in omega arith

    by : (d : Decoded) → decode v ≡ d → string_in w d ≡ z → v ≡ pack w z
    by bad q f = absurd (none f)
    by (good u t) q f = at (eqb u w) refl f
      where
        at : (b : Bool) → eqb u w ≡ b → cond b t (slots []) ≡ z → v ≡ pack w z
        at true y f = let s : u ≡ w = eqb-true u w y in (decode-good v w z (q ∙ ap (λ (x : ℕ). good x t) s ∙ ap (good w) f)).packed
        at false y f = absurd (none f)

-- a row of words as a row
abbrev row_from : ℕ → Line → Row
row_from w l = row_of l.nonterminal (string_in w (decode l.number)) l.production

-- ---- the rows of words

module _ (w : ℕ) (ws : List ℕ) where
  -- so many they are
  pub rows-many : length (rows_in w ws) ≡ (length ws + 3) / 4
  unfolding rows_in
  rows-many = each-length (row_in w ws) 0 ((length ws + 3) / 4)

  -- a row whose words are all there
  pub row_line : (t : ℕ) → 4 * t + 4 ≤ length ws → row_at (rows_in w ws) t ≡ row_from w (line_at ws t)
  unfolding rows_in row_in
  row_line t h = each_at (row_in w ws) no_row 0 ((length ws + 3) / 4) t (omega arith) ∙ (let z : 0 + t ≡ t = omega arith in rw (z, le-leb (4 * t + 4) (length ws) h))

  -- one that is cut off
  pub row_cut : (t : ℕ) → 4 * t < length ws → length ws < 4 * t + 4 → (row_at (rows_in w ws) t).string ≡ slots []
  unfolding rows_in row_in
  row_cut t h l = ap (λ (r : Row). r.string) (each_at (row_in w ws) no_row 0 ((length ws + 3) / 4) t (omega arith)) ∙ (let z : 0 + t ≡ t = omega arith in rw (z, lt-leb (4 * t + 4) (length ws) l))

-- ---- one level

module _ {g : Grammar} {w k : ℕ} {u : Layout} {links : Links} {κ result : List ℕ} (s : Stands g w k u links κ result) where
  abbrev strs : ℕ → List Str
  strs i = production_set u (held u result) i

  module _ (i : ℕ) (h : i < u.p) where
    holds_at : Holds s.at w (strs i) (part_at u.b (u.n + i) result)
    holds_at = part-holds s.store.stored (u.n + i) (in-sets s.store (own_block s.stand i h))

    numbers-are : numbers_at u result i ≡ map (pack w) (strs i)
    unfolding numbers_in
    numbers-are = ap (map number_of) (holds-decode holds_at) ∙ numbers-packed w (strs i)

    -- a string of the set is among the numbers, and what is among them is such a string's number
    number_in : (z : Str) → z ∈ strs i → pack w z ∈ numbers_at u result i
    number_in z m = subst (λ (l : List ℕ). pack w z ∈ l) (sym numbers-are) (Memᴰ.map (pack w) m)

    string-in : (v : ℕ) → v ∈ numbers_at u result i → (z : Str) × (z ∈ strs i) × (pack w z ≡ v)
    string-in v m = Memᴰ.of_map (pack w) (strs i) (subst (λ (l : List ℕ). v ∈ l) numbers-are m)

    at_level : level_of u.n κ (left_at links i) ≡ k → get_or κ (left_at links i) 0 ≡ k
    at_level e = sym (level-is u.n (left_at links i) κ (s.stand.fit.inside i h)) ∙ e

  -- a string of a wanted row of the level is in its production's set
  wanted-in : (r : Row) → level_of u.n κ r.nonterminal ≡ k → Wanted g r → (r.production < u.p) × (left_at links r.production ≡ r.nonterminal) × (r.string ∈ strs r.production)
  wanted-in r e q =
      let o = s.own r e q in
      (o.0, o.1, (s.wants r.production o.0 (at_level r.production o.0 (ap (level_of u.n κ) o.1 ∙ e)) r.string).1 (subst (λ (A : ℕ). Wanted g (row_of A r.string r.production)) (sym o.1) q))

  in-wanted : (i : ℕ) → i < u.p → get_or κ (left_at links i) 0 ≡ k → (z : Str) → z ∈ strs i → Wanted g (row_of (left_at links i) z i)
  in-wanted i h e z m = (s.wants i h e z).0 m

  right-wanted : (l : Line) → level_of u.n κ l.nonterminal ≡ k → Right u links result l → Wanted g (row_from w l)
  right-wanted l e r =
      let (z, m, q) = string-in l.production r.inside l.number r.has in
      let read : z ≡ string_in w (decode l.number) = sym (read_back w z ((holds_at l.production r.inside).fit z m).well) ∙ ap (λ (v : ℕ). string_in w (decode v)) q in
      let is = in-wanted l.production r.inside (at_level l.production r.inside (ap (level_of u.n κ) r.own ∙ e)) z m in
      subst (λ (A : ℕ). Wanted g (row_of A (string_in w (decode l.number)) l.production)) r.own (subst (λ (x : Str). Wanted g (row_of (left_at links l.production) x l.production)) read is)

  -- the number of a wanted row
  number_is : (l : Line) → level_of u.n κ l.nonterminal ≡ k → Wanted g (row_from w l) → (v : ℕ) → string_in w (decode v) ≡ string_in w (decode l.number) → v ≡ pack w (string_in w (decode l.number))
  number_is l e q v same =
      let o = wanted-in (row_from w l) e q in
      read-on w v (string_in w (decode l.number)) same ((holds_at l.production o.0).fit (string_in w (decode l.number)) o.2).some

  wanted-right : (l : Line) → level_of u.n κ l.nonterminal ≡ k → Wanted g (row_from w l) → Right u links result l
  wanted-right l e q =
      let o = wanted-in (row_from w l) e q in
      record {
        inside = o.0;
        own = o.1;
        has = subst (λ (v : ℕ). v ∈ numbers_at u result l.production) (sym (number_is l e q l.number refl)) (number_in l.production o.0 (string_in w (decode l.number)) o.2);
      }

  -- ---- the rows

  module _ (ws : List ℕ) where
    abbrev rows : List Row
    rows = rows_in w ws

    module _ (t : ℕ) (full : 4 * t + 4 ≤ length ws) (e : level_of u.n κ (line_at ws t).nonterminal ≡ k) where
      pub bad-row-is : BadLine u links result ws t → Bad g rows t
      bad-row-is b = (
        let l = rows-many w ws in omega arith,
        ⊎_elim (λ n. inl (λ q. n (wanted-right (line_at ws t) e (subst (Wanted g) (row_line w ws t full) q))))
            (λ a. inr (a.s, a.before, row_line w ws a.s (let h = a.before in omega arith) ∙ ap (row_from w) a.is ∙ sym (row_line w ws t full))) b,
      )

      pub fine-row-is : ¬ BadLine u links result ws t → ¬ Bad g rows t
      fine-row-is n b = ⊎_elim (λ q. n (inl (λ r. q (subst (Wanted g) (sym (row_line w ws t full)) (right-wanted (line_at ws t) e r))))) (λ (j, h, q). n (inl (λ r. n (inr (again j h q r))))) b.1
        where
          again : (j : ℕ) → j < t → row_at rows j ≡ row_at rows t → Right u links result (line_at ws t) → Among ws t (line_at ws t)
          again j h q r =
              let same : row_from w (line_at ws j) ≡ row_from w (line_at ws t) = sym (row_line w ws j (omega arith)) ∙ q ∙ row_line w ws t full in
              let is = right-wanted (line_at ws t) e r in
              let number : (line_at ws j).number ≡ (line_at ws t).number = number_is (line_at ws t) e is (line_at ws j).number (ap (λ (x : Row). x.string) same) ∙ sym (number_is (line_at ws t) e is (line_at ws t).number refl) in
              record {
                s = j;
                before = h;
                is = ap (λ (A : ℕ). record { nonterminal = A; number = (line_at ws j).number; production = (line_at ws j).production }) (ap (λ (x : Row). x.nonterminal) same)
                    ∙ ap (λ (v : ℕ). record { nonterminal = (line_at ws t).nonterminal; number = v; production = (line_at ws j).production }) number
                    ∙ ap (λ (i : ℕ). record { nonterminal = (line_at ws t).nonterminal; number = (line_at ws t).number; production = i }) (ap (λ (x : Row). x.production) same);
              }

    -- the first bad row of the level
    pub level-checked : {end r : ℕ} {marks : List ℕ} → 4 * end ≤ length ws → Checked u links κ result k ws end marks r → LevelChecked g rows u.n κ k end r
    level-checked {end} {r} h c = record {
      below = c.below;
      fine = λ t l e.
          let b = c.below in
          let full : 4 * t + 4 ≤ length ws = omega arith in
          let q : level_of u.n κ (line_at ws t).nonterminal ≡ k = sym (ap (λ (x : Row). level_of u.n κ x.nonterminal) (row_line w ws t full)) ∙ e in
          fine-row-is t full q (c.fine t l q);
      bad = λ l. let b = c.bad l in bad-row-is r (omega arith) b.0 b.1;
    }

    -- a string of A's with the number v is wanted and has no row
    pub record Absent (A v : ℕ) : Type 0 where
      pub z : Str
      pub i : ℕ
      pub number : v ≡ pack w z
      pub wanted : Wanted g (row_of A z i)
      pub absent : ¬ (row_of A z i ∈ rows)
      pub inside : A < u.n
      pub well : well_formed w z ≡ true

    -- ---- strings without a row, where every row is whole and the marks are theirs

    module _ {end : ℕ} (marks : List ℕ) (whole : 4 * end ≡ length ws) (marked : MarksOf u links κ result k ws end marks) where
      -- a wanted row of the level is given, or its string is free
      given-or : (r : Row) → level_of u.n κ r.nonterminal ≡ k → Wanted g r → (r ∈ rows) ⊎ Free u links result marks r.nonterminal u.p (pack w r.string)
      given-or r e q = by (is_marked marks (mark_of r.production j)) refl
        where
          o : (r.production < u.p) × (left_at links r.production ≡ r.nonterminal) × (r.string ∈ strs r.production)
          o = wanted-in r e q

          found : (j : ℕ) × (j < length (numbers_at u result r.production)) × (get_or (numbers_at u result r.production) j 0 ≡ pack w r.string)
          found = place_of (pack w r.string) 0 (numbers_at u result r.production) (number_in r.production o.0 r.string o.2)

          j : ℕ
          j = found.0

          by : (b : Bool) → is_marked marks (mark_of r.production found.0) ≡ b → (r ∈ rows) ⊎ Free u links result marks r.nonterminal u.p (pack w r.string)
          by false f = inr (record { i = r.production; below = o.0; inside = o.0; own = o.1; here = record { j = found.0; inside = found.1; is = found.2; free = f } })
          by true f =
              let a = (marked r.production found.0 o.0 (at_level r.production o.0 (ap (level_of u.n κ) o.1 ∙ e)) found.1).0 f in
              let full : 4 * a.s + 4 ≤ length ws = let h = a.before in omega arith in
              let string : string_in w (decode (get_or (numbers_at u result r.production) found.0 0)) ≡ r.string =
              ap (λ (v : ℕ). string_in w (decode v)) found.2 ∙ read_back w r.string ((holds_at r.production o.0).fit r.string o.2).well in
              let is : row_at rows a.s ≡ r = row_line w ws a.s full ∙ ap (row_from w) a.is ∙ row_same (row_from w (line_for u links result r.production found.0)) r o.1 string refl in
              inl (subst (λ (x : Row). x ∈ rows) is (at_place rows no_row a.s (let l = rows-many w ws in omega arith)))

      -- a free string is wanted and has no row
      free-absent : (A v : ℕ) → get_or κ A 0 ≡ k → Free u links result marks A u.p v → Absent A v
      free-absent A v e f = record {
        z = str.0;
        i = f.i;
        number = sym str.2;
        wanted = is-wanted;
        absent = λ m. none (place_of (row_of A str.0 f.i) no_row rows m);
        inside = subst (λ (x : ℕ). x < u.n) f.own (s.stand.fit.inside f.i f.inside);
        well = ((holds_at f.i f.inside).fit str.0 str.1).well;
      }
        where
          str : (z : Str) × (z ∈ strs f.i) × (pack w z ≡ v)
          str = string-in f.i f.inside v (subst (λ (x : ℕ). x ∈ numbers_at u result f.i) f.here.is (at_place (numbers_at u result f.i) 0 f.here.j f.here.inside))

          at_own : get_or κ (left_at links f.i) 0 ≡ k
          at_own = ap (λ (x : ℕ). get_or κ x 0) f.own ∙ e

          is-wanted : Wanted g (row_of A str.0 f.i)
          is-wanted = subst (λ (x : ℕ). Wanted g (row_of x str.0 f.i)) f.own (in-wanted f.i f.inside at_own str.0 str.1)

          none : (t : ℕ) × (t < length rows) × (row_at rows t ≡ row_of A str.0 f.i) → ⊥
          none (t, h, q) =
              let full : 4 * t + 4 ≤ length ws = let l = rows-many w ws in omega arith in
              let same : row_from w (line_at ws t) ≡ row_of A str.0 f.i = sym (row_line w ws t full) ∙ q in
              let number : (line_at ws t).number ≡ get_or (numbers_at u result f.i) f.here.j 0 =
              read-on w (line_at ws t).number str.0 (ap (λ (x : Row). x.string) same) ((holds_at f.i f.inside).fit str.0 str.1).some ∙ str.2 ∙ sym f.here.is in
              let is : line_at ws t ≡ line_for u links result f.i f.here.j =
              ap (λ (x : ℕ). record { nonterminal = x; number = (line_at ws t).number; production = (line_at ws t).production }) (ap (λ (x : Row). x.nonterminal) same ∙ sym f.own)
              ∙ ap (λ (x : ℕ). record { nonterminal = left_at links f.i; number = x; production = (line_at ws t).production }) number
              ∙ ap (λ (x : ℕ). record { nonterminal = left_at links f.i; number = get_or (numbers_at u result f.i) f.here.j 0; production = x }) (ap (λ (x : Row). x.production) same) in
              true≢false (sym ((marked f.i f.here.j f.inside at_own f.here.inside).1 (record { s = t; before = omega arith; is = is })) ∙ f.here.free)

      -- a wanted row of the level that is not told is given
      told-else : (r : Row) → level_of u.n κ r.nonterminal ≡ k → Wanted g r → ((v : ℕ) → v ≡ pack w r.string → get_or κ r.nonterminal 0 ≡ k → ¬ Free u links result marks r.nonterminal u.p v) → r ∈ rows
      told-else r e q n = ⊎_elim (λ m. m) (λ f. absurd (n (pack w r.string) refl (sym (level-is u.n r.nonterminal κ (subst (λ (x : ℕ). x < u.n) f.own (s.stand.fit.inside f.i f.inside))) ∙ e) f)) (given-or r e q)

      -- the first string of the level without a row
      pub level-missed : {m r : Option Missed} → Lacked u links κ result marks k m r → LevelMissed g w rows u.n κ k m r
      unfolding less_of
      level-missed {m} {r} (Lacked.none n e) = record {
        whole = λ x q l h. told-else x l q (λ v z y. n x.nonterminal (subst (λ (y : Option Missed). x.nonterminal < end_of u.n y) e h) y v);
        under = let z : end_of u.n r ≡ end_of u.n m = ap (end_of u.n) e in omega arith;
        told = λ x q. inl (sym e ∙ q);
      }
      level-missed {m} {r} (Lacked.some s r-is h e free least before fits) = record {
        whole = λ x q l b. told-else x l q (λ v z y. before x.nonterminal (rw r-is at b) y v);
        under = rw r-is (omega arith);
        told = λ x q. let same : x ≡ s = cc in rw same (inr (record {
          z = a.z;
          i = a.i;
          told = a.number;
          fits = fits;
          wanted = a.wanted;
          absent = a.absent;
          earlier = λ x q same under.
              told-else x (ap (level_of u.n κ) same ∙ level-is u.n s.nonterminal κ a.inside ∙ e) q
              (λ v z y f.
              let b = least v (subst (λ (A : ℕ). Free u links result marks A u.p v) same f) in
              let l = below x q (ap (level_of u.n κ) same ∙ level-is u.n s.nonterminal κ a.inside ∙ e) under in
              let number = a.number in
              omega arith);
        }));
      }
        where
          a : Absent s.nonterminal (number_of s.string)
          a = free-absent s.nonterminal (number_of s.string) e free

          below : (x : Row) → Wanted g x → level_of u.n κ x.nonterminal ≡ k → x.string ≺ a.z → pack w x.string < pack w a.z
          below x q l under =
              let o = wanted-in x l q in
              let t : less_of (packed w x.string) (packed w a.z) ≡ true = less-packed w x.string a.z ((holds_at x.production o.0).fit x.string o.2).well a.well ∙ ap is_lt under in
              let n : number_of (packed w x.string) < number_of (packed w a.z) = ltb-true (number_of (packed w x.string)) (number_of (packed w a.z)) t in
              let y = number-words (pack w x.string) in
              let z = number-words (pack w a.z) in
              omega arith

-- ---- one level

module _ {k : ℕ} {u : Layout} {links : Links} {κ result ws marks : List ℕ} {f : Found} {bad : ℕ} {m : Option Missed} (small : 4 * f.bad ≤ length ws) (few : end_of u.n f.missed ≤ u.n) where
  -- the rows and then the strings of a level
  pub level-done : Checked u links κ result k ws f.bad marks bad → Lacked u links κ result marks k f.missed m → AtLevel k u links κ result ws f (record { bad = bad; missed = m })
  level-done c l g w s = record {
    checked = level-checked s ws small c;
    missed = λ whole. let b = c.below in let e : bad ≡ f.bad = omega arith in level-missed s ws marks whole (subst (λ (x : ℕ). MarksOf u links κ result k ws x marks) (sym e) (c.marks e)) l;
    few = below l;
  }
    where
      below : Lacked u links κ result marks k f.missed m → end_of u.n m ≤ u.n
      below (Lacked.none n e) = rw e few
      below (Lacked.some s r-is h e free least before fits) = rw r-is (omega arith)
