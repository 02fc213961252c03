-- The bytes of the trees at their places: writing one part leaves the others, and all parts are the bytes of the definition. Assumes nothing.
use Prim.Native.Nat.{ℕ, zero, suc, ◌+◌, ◌≤◌, ◌<◌}
use native.Mathlib.Omega.{arith}
use mathlib.Core.Path.{◌≡◌, refl, sym, ap, ap₂, ◌∙◌, subst}
use mathlib.Core.Bool.{Bool, true, false}
use mathlib.Core.List.{List, [], ◌∷◌, ◌++◌, append_assoc}
use borrow.Author.Count.{below_more}
use borrow.Author.Tests.{eqb-true, eqb-false}
use lib.Dec.{eqb}
use lib.ListN.{length, get_or, take, drop, set, length-append, length-set, length-drop, take-append-drop}
use lib.Seq.{ext_get_or, drop_at, drop-drop, length-take-le, take-append-add, drop-append-add, get_or-set_same, get_or-set_other}
use Rattle.decision_theory.specs.Needed.{each_from}
use Rattle.decision_theory.specs.Automaton.{State, automata_bytes}
use Rattle.decision_theory.proofs.Call.{each-length, each_at}
use Rattle.trees.specs.Answer.{bytes_of}
use Rattle.automaton.specs.Steps.{SizeIs, sum_to, concat, Laid, Fitting, Parts, KWritten, Writes}
use Rattle.automaton.proofs.Counting.{sum_more, sum-upto}

-- ---- one part

-- how many bytes the first parts have
abbrev before : List (List ℕ) → ℕ → ℕ
before F A = length (concat (take A F))

-- what is written where part A stands becomes part A
put-part : (F : List (List ℕ)) (A : ℕ) (x rest : List ℕ) → A < length F → take (before F A) (concat F ++ rest) ++ x ++ drop (before F A + length (get_or F A [])) (concat F ++ rest) ≡ concat (set F A x) ++ rest
unfolding concat
put-part [] A x rest h = absurd (omega arith)
put-part (f ∷ F) zero x rest h =
    ap (λ (l : List ℕ). x ++ drop (0 + length f) l) (append_assoc f (concat F) rest) ∙ ap (λ (l : List ℕ). x ++ l) (drop_at f (concat F ++ rest) (0 + length f) (omega arith)) ∙ sym (append_assoc x (concat F) rest)
put-part (f ∷ F) (suc A) x rest h =
    let p = before F A in
    let e : before (f ∷ F) (suc A) ≡ length f + p = length-append f (concat (take A F)) in
    let s = length (get_or F A []) in
    let z : length f + p + s ≡ length f + (p + s) = omega arith in
    ap₂ (λ (q : ℕ) (l : List ℕ). take q l ++ x ++ drop (q + s) l) e (append_assoc f (concat F) rest)
    ∙ ap₂ (λ (l m : List ℕ). l ++ x ++ m) (take-append-add f (concat F ++ rest) p) (ap (λ (q : ℕ). drop q (f ++ (concat F ++ rest))) z ∙ drop-append-add f (concat F ++ rest) (p + s))
    ∙ ap (λ (l : List ℕ). l ++ drop (p + s) (concat F ++ rest)) (append_assoc f (take p (concat F ++ rest)) x)
    ∙ append_assoc f (take p (concat F ++ rest) ++ x) (drop (p + s) (concat F ++ rest))
    ∙ ap (λ (l : List ℕ). f ++ l) (put-part F A x rest (omega arith))
    ∙ sym (append_assoc f (concat (set F A x)) rest)

-- parts stand at the sums of their sizes
before-is : (F : List (List ℕ)) (sizes : List ℕ) (A : ℕ) → A ≤ length F → ((B : ℕ) → B < length F → length (get_or F B []) ≡ get_or sizes B 0) → before F A ≡ sum_to sizes A
unfolding concat sum_to
before-is F sizes zero h e = refl
before-is F sizes (suc A) h e = parts F A (omega arith) ∙ ap₂ ◌+◌ (before-is F sizes A (omega arith) e) (e A (omega arith))
  where
    parts : (F : List (List ℕ)) (A : ℕ) → A < length F → length (concat (take (suc A) F)) ≡ length (concat (take A F)) + length (get_or F A [])
    parts [] A h = absurd (omega arith)
    parts (f ∷ F) zero h = length-append f [] ∙ (let z : length f + 0 ≡ 0 + length f = omega arith in z)
    parts (f ∷ F) (suc A) h =
        let a = length-append f (concat (take (suc A) F)) in
        let b = length-append f (concat (take A F)) in
        let c = parts F A (omega arith) in
        omega arith

-- ---- the bytes in parts at the start

-- n parts of their sizes, from the front
cut_from : List ℕ → ℕ → ℕ → List ℕ → List (List ℕ)
cut_from sizes i zero ws = []
cut_from sizes i (suc n) ws = take (get_or sizes i 0) ws ∷ cut_from sizes (suc i) n (drop (get_or sizes i 0) ws)

-- the sum of n sizes from i on
sum_from : List ℕ → ℕ → ℕ → ℕ
sum_from sizes i zero = 0
sum_from sizes i (suc n) = get_or sizes i 0 + sum_from sizes (suc i) n

-- sums before and behind a place
sum-from : (sizes : List ℕ) (i n : ℕ) → sum_to sizes i + sum_from sizes i n ≡ sum_to sizes (i + n)
unfolding sum_to sum_from
sum-from sizes i zero = let z : i + 0 ≡ i = omega arith in let y : sum_to sizes i + 0 ≡ sum_to sizes i = omega arith in y ∙ ap (sum_to sizes) (sym z)
sum-from sizes i (suc n) =
    let z : i + suc n ≡ suc i + n = omega arith in
    let more = sum-from sizes (suc i) n in
    (let y : sum_to sizes i + (get_or sizes i 0 + sum_from sizes (suc i) n) ≡ sum_to sizes i + get_or sizes i 0 + sum_from sizes (suc i) n = omega arith in y) ∙ more ∙ ap (sum_to sizes) (sym z)

-- the parts and what is behind them are all bytes
cut-is : (sizes : List ℕ) (i n : ℕ) (ws : List ℕ) → concat (cut_from sizes i n ws) ++ drop (sum_from sizes i n) ws ≡ ws
unfolding concat cut_from sum_from
cut-is sizes i zero ws = refl
cut-is sizes i (suc n) ws =
    let s = get_or sizes i 0 in
    append_assoc (take s ws) (concat (cut_from sizes (suc i) n (drop s ws))) (drop (s + sum_from sizes (suc i) n) ws)
    ∙ ap (λ (l : List ℕ). take s ws ++ (concat (cut_from sizes (suc i) n (drop s ws)) ++ l)) (sym (drop-drop (sum_from sizes (suc i) n) s ws))
    ∙ ap (λ (l : List ℕ). take s ws ++ l) (cut-is sizes (suc i) n (drop s ws))
    ∙ take-append-drop s ws

-- as many parts as trees
cut-many : (sizes : List ℕ) (i n : ℕ) (ws : List ℕ) → length (cut_from sizes i n ws) ≡ n
unfolding cut_from
cut-many sizes i zero ws = refl
cut-many sizes i (suc n) ws = ap suc (cut-many sizes (suc i) n (drop (get_or sizes i 0) ws))

-- each of its size
cut-each : (sizes : List ℕ) (i n : ℕ) (ws : List ℕ) → sum_from sizes i n ≤ length ws → (A : ℕ) → A < n → length (get_or (cut_from sizes i n ws) A []) ≡ get_or sizes (i + A) 0
unfolding cut_from sum_from
cut-each sizes i zero ws h A l = absurd (omega arith)
cut-each sizes i (suc n) ws h zero l = let z : i + 0 ≡ i = omega arith in length-take-le (get_or sizes i 0) ws (omega arith) ∙ ap (λ (j : ℕ). get_or sizes j 0) (sym z)
cut-each sizes i (suc n) ws h (suc A) l =
    let z : i + suc A ≡ suc i + A = omega arith in
    let d = length-drop (get_or sizes i 0) ws in
    cut-each sizes (suc i) n (drop (get_or sizes i 0) ws) (omega arith) A (omega arith) ∙ ap (λ (j : ℕ). get_or sizes j 0) (sym z)

-- bytes in which the trees have room are in parts
pub laid-start : (n : ℕ) (sizes out : List ℕ) → sum_to sizes n ≤ length out → (parts : List (List ℕ)) × Laid n sizes parts (drop (sum_to sizes n) out) out
unfolding sum_to
laid-start n sizes out h =
    let z : 0 + n ≡ n = omega arith in
    let y : sum_from sizes 0 n ≡ 0 + sum_from sizes 0 n = omega arith in
    let e : sum_from sizes 0 n ≡ sum_to sizes n = y ∙ sum-from sizes 0 n ∙ ap (sum_to sizes) z in (
      cut_from sizes 0 n out,
      record {
        is = sym (ap (λ (m : ℕ). concat (cut_from sizes 0 n out) ++ drop m out) (sym e) ∙ cut-is sizes 0 n out);
        many = cut-many sizes 0 n out;
        each = λ A l. let z : 0 + A ≡ A = omega arith in cut-each sizes 0 n out (omega arith) A l ∙ ap (λ (j : ℕ). get_or sizes j 0) z;
      },
    )

-- ---- the trees of one k

-- nothing is written
pub writes_start : (T : ℕ → List State) (n k : ℕ) (ks sizes out : List ℕ) → KWritten T n k 0 ks sizes out out
writes_start T n k ks sizes out = record { same = refl; step = λ parts rest l. (parts, l, record { these = λ A h. absurd (omega arith); others = λ A e. refl }) }

module _ {T : ℕ → List State} {n k a : ℕ} {ks sizes out₀ out : List ℕ} (w : KWritten T n k a ks sizes out₀ out) where
  -- a tree of another k is passed
  pub writes-skip : (get_or ks a 0 ≡ k → ⊥) → KWritten T n k (a + 1) ks sizes out₀ out
  writes-skip ne = record {
    same = w.same;
    step = λ parts rest l. let (p, m, s) = w.step parts rest l in (p, m, record { these = below_more _ a s.these (λ e. absurd (ne e)); others = s.others });
  }

  module _ (fitting : Fitting T n sizes (length out₀)) (h : a < n) where
    -- the tree is small, and its size is the number of its bytes
    part-size : SizeIs (T a) (get_or sizes a 0)
    part-size = fitting.sized.each a h

    -- its place is within the bytes
    pub place_inside : sum_to sizes a ≤ length out
    place_inside = let f = fitting.fits in let s = w.same in let o = sum-upto sizes a n (omega arith) in omega arith

    -- and its bytes fit there
    fits-there : sum_to sizes a + length (bytes_of (T a)) ≤ length out
    fits-there = let f = fitting.fits in let s = w.same in let o = sum-upto sizes (a + 1) n (omega arith) in let m = sum_more sizes a in let e = part-size.is in omega arith

    -- its bytes become its part
    pub writes_more : (e : get_or ks a 0 ≡ k) {at : ℕ} {out' : List ℕ} → at ≡ sum_to sizes a → Writes (T a) at out out' → length out' ≡ length out → KWritten T n k (a + 1) ks sizes out₀ out'
    writes_more e {at} {out'} place t same = record {
      same = same ∙ w.same;
      step = λ parts rest l. let (p, m, s) = w.step parts rest l in (set p a (bytes_of (T a)), laid p rest m, tell p parts m s);
    }
      where
        now-is : out' ≡ take (sum_to sizes a) out ++ bytes_of (T a) ++ drop (sum_to sizes a + length (bytes_of (T a))) out
        now-is = (rw place at t).done part-size.few fits-there

        laid : (p : List (List ℕ)) (rest : List ℕ) → Laid n sizes p rest out → Laid n sizes (set p a (bytes_of (T a))) rest out'
        laid p rest m =
            let place_of : before p a ≡ sum_to sizes a = before-is p sizes a (let x = m.many in omega arith) (λ B b. m.each B (let x = m.many in omega arith)) in
            let long : length (get_or p a []) ≡ length (bytes_of (T a)) = m.each a h ∙ part-size.is in
            record {
              is = now-is
                  ∙ ap₂ (λ (q : ℕ) (s : ℕ). take q out ++ bytes_of (T a) ++ drop (q + s) out) (sym place_of) (sym long)
                  ∙ ap (λ (ws : List ℕ). take (before p a) ws ++ bytes_of (T a) ++ drop (before p a + length (get_or p a [])) ws) m.is
                  ∙ put-part p a (bytes_of (T a)) rest (let x = m.many in omega arith);
              many = length-set p a (bytes_of (T a)) ∙ m.many;
              each = λ A b. by A b (eqb A a) refl;
            }
          where
            by : (A : ℕ) → A < n → (x : Bool) → eqb A a ≡ x → length (get_or (set p a (bytes_of (T a))) A []) ≡ get_or sizes A 0
            by A b true q = let z = eqb-true A a q in rw z (ap length (get_or-set_same p a (bytes_of (T a)) [] (let x = m.many in omega arith)) ∙ sym part-size.is)
            by A b false q = ap length (get_or-set_other p a A (bytes_of (T a)) [] (eqb-false A a q)) ∙ m.each A b

        tell : {rest : List ℕ} (p parts : List (List ℕ)) → Laid n sizes p rest out → Parts T k a ks parts p → Parts T k (a + 1) ks parts (set p a (bytes_of (T a)))
        tell p parts m s = record {
          these = below_more _ a (λ A b q. get_or-set_other p a A (bytes_of (T a)) [] (λ (z : A ≡ a). omega arith) ∙ s.these A b q) (λ q. get_or-set_same p a (bytes_of (T a)) [] (let x = m.many in omega arith));
          others = λ A q. get_or-set_other p a A (bytes_of (T a)) [] (λ z. q (ap (λ (B : ℕ). get_or ks B 0) z ∙ e)) ∙ s.others A q;
        }

  -- all were seen
  pub writes_end : n ≤ a → a ≤ n → KWritten T n k n ks sizes out₀ out
  writes_end h b = let same : a ≡ n = omega arith in subst (λ (m : ℕ). KWritten T n k m ks sizes out₀ out) same w

-- ---- all parts

-- the trees' bytes in turn are those of the definition
concat-bytes : (T : ℕ → List State) (i n : ℕ) → concat (each_from (λ A. bytes_of (T A)) i n) ≡ automata_bytes (each_from T i n)
unfolding concat automata_bytes
concat-bytes T i zero = refl
concat-bytes T i (suc n) = ap (λ (l : List ℕ). bytes_of (T i) ++ l) (concat-bytes T (suc i) n)

-- where each part is its tree's bytes, the bytes are the definition's
pub laid-all : (T : ℕ → List State) {n : ℕ} {sizes : List ℕ} {parts : List (List ℕ)} {rest out : List ℕ} → Laid n sizes parts rest out → ((A : ℕ) → A < n → get_or parts A [] ≡ bytes_of (T A)) → out ≡ automata_bytes (each_from T 0 n) ++ rest
laid-all T {n} {sizes} {parts} {rest} {out} l all =
    let same : parts ≡ each_from (λ A. bytes_of (T A)) 0 n = ext_get_or [] parts (each_from (λ A. bytes_of (T A)) 0 n) (l.many ∙ sym (each-length (λ A. bytes_of (T A)) 0 n))
    (λ A h. let z : 0 + A ≡ A = omega arith in all A (let m = l.many in omega arith) ∙ sym (each_at (λ A. bytes_of (T A)) [] 0 n A (let m = l.many in omega arith) ∙ ap (λ (B : ℕ). bytes_of (T B)) z)) in
    l.is ∙ ap (λ (F : List (List ℕ)). concat F ++ rest) same ∙ ap (λ (b : List ℕ). b ++ rest) (concat-bytes T 0 n)
