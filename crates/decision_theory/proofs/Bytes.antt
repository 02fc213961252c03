-- The numbers of an automaton fit two groups of seven bits, so that they are read back from its bytes; the bytes of several automata determine them, each being cut off by its number of states. Assumes nothing.
use Prim.Native.Nat.{ℕ, zero, suc, ◌+◌, ◌≤◌, ◌<◌}
use native.Mathlib.Omega.{arith}
use mathlib.Core.Path.{◌≡◌, refl, sym, ap, ap₂, ◌∙◌, subst}
use mathlib.Core.Bool.{◌&&◌, ◌||◌}
use mathlib.Core.List.Memᴰ
use mathlib.Core.List.Memᴰ.{head as here}
use mathlib.Core.List.Memᴰ.{not-nil}
use mathlib.Core.List.Memᴰ.{tail as there}
use mathlib.Core.List.{List, [], ◌∷◌, ◌++◌, append_assoc, append-nil, cons-eq-cons}
use lib.Dec.{T, ltb, eqb, ltb→lt, lit<}
use lib.ListN.{length, get_or, take}
use Rattle.cfg.specs.Grammar.{Word, Grammar, Accepted}
use Rattle.cfg.specs.Write.{write_number, write_numbers, Limits}
use Rattle.cfg.proofs.Numbers.{Small, small-append, Reads, reads_same, numbers-stand}
use Rattle.cfg.proofs.RoundTrip.{read-written}
use Rattle.k_tuple.specs.Strings.{allowed, ones}
use Rattle.k_tuples.specs.Sets.{◌∈◌}
use Rattle.k_tuples.proofs.Sorted.{cases}
use Rattle.k_tuples.proofs.Tests.{and_left, and_right}
use Rattle.first_theory.proofs.WordSets.{terminals-str}
use Rattle.decision_theory.specs.Needed.{Decided, RightFor, right-one, right-several}
use Rattle.decision_theory.specs.Automaton.{Entry, entries_of, letters, accepts, below, nodes, Edge, State, edges_from, states_from, state_at, automaton, edge_numbers, state_numbers, automaton_numbers, automata_bytes}
use Rattle.decision_theory.specs.Promises.{Fits, Writes}
use Rattle.decision_theory.proofs.Lists.{at_place, place_of}
use Rattle.decision_theory.proofs.Ahead.{ahead-proper}
use Rattle.decision_theory.proofs.Tree.{entry, along-means, letters-means, accepts-sound, state-is, child-at, node-led, tree-length, edge_in}
use Rattle.decision_theory.proofs.Automaton.{entries-are, entries-short, grammar-of, rights}

-- The numbers of a state fit.
record StateFits (a : State) : Type 0 where
  accepting-fits : a.accepting < 16384
  count_fits : length a.edges < 16384
  edges_fit : (e : Edge) → e ∈ a.edges → (e.by < 16384) × (e.to < 16384)

-- Transitions that fit.
edges-small : (es : List Edge) → ((e : Edge) → e ∈ es → (e.by < 16384) × (e.to < 16384)) → Small (edge_numbers es)
edges-small [] h = tt
edges-small (e ∷ es) h = let (b, t) = h e (here refl) in (b, (t, edges-small es (λ d m. h d (there m))))

-- States that fit.
states-small : (S : List State) → ((s : ℕ) → s < length S → StateFits (state_at S s)) → Small (state_numbers S)
states-small [] h = tt
states-small (a ∷ S) h =
    let f = h 0 (omega arith) in
    (f.accepting-fits, (f.count_fits, small-append (edge_numbers a.edges) (state_numbers S) (edges-small a.edges f.edges_fit) (states-small S (λ s l. h (suc s) (omega arith)))))

module _ (depth : ℕ) (R : List Entry) (short : (e : Entry) → e ∈ R → length e.word ≤ depth) where
  -- all nodes
  abbrev Ns : List (List Entry)
  Ns = nodes (suc depth) (R ∷ [])

  -- all states
  abbrev S : List State
  S = states_from 1 Ns

  module _ (few : length S ≤ 2048) (fits : (w : Word) (i : ℕ) → entry w i ∈ R → (i < 512) × ((t : ℕ) → t ∈ w → t < 4095)) where
    -- What a node accepts is a production plus 1, or 0.
    accepts-fits : (s : ℕ) → s < length Ns → accepts (get_or Ns s []) < 16384
    accepts-fits s h = by (accepts (get_or Ns s [])) refl
      where
        by : (a : ℕ) → accepts (get_or Ns s []) ≡ a → a < 16384
        by zero e = omega arith
        by (suc i) e =
            let (x, led) = node-led depth R short s h in
            let m = (along-means x R [] i).0 (rw led (accepts-sound (get_or Ns s []) i e)) in
            let l = (fits (x ++ []) i m).0 in
            omega arith

    -- So does every terminal.
    letters-fit : (s : ℕ) → s < length Ns → (t : ℕ) → t ∈ letters (get_or Ns s []) → t < 16384
    letters-fit s h t m =
        let (x, led) = node-led depth R short s h in
        let (w, i, n) = (letters-means t (get_or Ns s [])).0 m in
        let j = (along-means x R (t ∷ w) i).0 (rw led n) in
        let l = (fits (x ++ t ∷ w) i j).1 t (Memᴰ.append_right x (here refl)) in
        omega arith

    -- There are as many transitions as terminals.
    edge_count : (next : ℕ) (ts : List ℕ) → length (edges_from next ts) ≡ length ts
    edge_count next [] = refl
    edge_count next (t ∷ ts) = ap suc (edge_count (suc next) ts)

    -- A node has fewer letters than there are nodes.
    few-letters : (s : ℕ) → s < length Ns → (n : ℕ) → length (letters (get_or Ns s [])) ≡ n → n < length Ns
    few-letters s h zero e = omega arith
    few-letters s h (suc n) e = let (inside, _) = child-at depth R short s n h (omega arith) in omega arith

    -- Every state fits.
    state-fits : (s : ℕ) → s < length S → StateFits (state_at S s)
    state-fits s h =
        let same = tree-length depth R short in
        let l : s < length Ns = omega arith in
        let next = 1 + length (below (take s Ns)) in
        let count = edge_count next (letters (get_or Ns s [])) in
        let most = few-letters s l (length (letters (get_or Ns s []))) refl in
        subst StateFits (sym (state-is 1 Ns s l)) (record {
          accepting-fits = accepts-fits s l;
          count_fits = omega arith;
          edges_fit = λ e m.
              let (j, i, b, q) = edge_in next (letters (get_or Ns s [])) e m in
              let (inside, _) = child-at depth R short s j l i in
              (rw b (letters-fit s l (get_or (letters (get_or Ns s [])) j 0) (at_place (letters (get_or Ns s [])) 0 j i)), omega arith);
        })

    -- And so does the automaton.
    pub tree-small : Small (automaton_numbers S)
    tree-small = (omega arith, states-small S state-fits)

-- Every terminal of an allowed string is below all ones.
allowed-below : (b : ℕ) (w : Word) → T (allowed b w) → (t : ℕ) → t ∈ w → t < ones b
allowed-below b [] h t m = absurd (not-nil m)
allowed-below b (a ∷ w) h t m =
    cases m (λ (e : t ≡ a). rw e (ltb→lt a (ones b) (and_left (ltb a (ones b)) (ltb 0 a || eqb (length w) 0) (and_left (ltb a (ones b) && (ltb 0 a || eqb (length w) 0)) (allowed b w) h))))
    (allowed-below b w (and_right (ltb a (ones b) && (ltb 0 a || eqb (length w) 0)) (allowed b w) h) t)

-- Every number that is written for an automaton of at most 2,048 states is below 16,384.
pub automaton-small : (g : Grammar) → Accepted g → Limits g → (A : ℕ) (d : Decided) → RightFor g A d → length (automaton d) ≤ 2048 → Small (automaton_numbers (automaton d))
unfolding automaton entries_of
automaton-small g ok limits A d (right-one {i = i} o one) few =
    tree-small 0 (entry [] i ∷ []) (λ e m. cases m (λ (f : e ≡ entry [] i). rw f (omega arith)) (λ n. absurd (not-nil n))) few
    (λ w j m. cases m (λ (f : entry w j ≡ entry [] i). (
      (let q : j ≡ i = ap (λ (e : Entry). e.production) f in let h = o.0 in let l = limits.productions in omega arith),
      λ t n. absurd (not-nil (subst (λ (v : Word). t ∈ v) (ap (λ (e : Entry). e.word) f) n)),
    )) (λ n. absurd (not-nil n)))
automaton-small g ok limits A d (right-several {k = k} {xs = xs} n k>0 each s needs) few =
    tree-small k (entries_of xs) (entries-short g ok A k k>0 xs each) few
    (λ w i m.
    let (o, a) = (entries-are g ok A k k>0 xs each w i).0 m in
    let wide : g.t + 5 < ones 12 = let l = limits.terminals in omega (arith, lit< {m = 4094} {n = ones 12} tt) in
    let proper = ahead-proper g ok k k>0 i o.0 w a 12 wide in (
      (let h = o.0 in let l = limits.productions in omega arith),
      λ t j. allowed-below 12 w (rw (terminals-str w) at proper.well) t j,
    ))

-- ---- the bytes determine the automata

-- Numbers that fit are told by their bytes.
numbers-told : (us vs : List ℕ) → Small us → Small vs → write_numbers us ≡ write_numbers vs → us ≡ vs
numbers-told us vs h k e = reads_same (write_numbers us) 0 us vs (read us h refl) (read vs k (sym e))
  where
    read : (ws : List ℕ) → Small ws → write_numbers ws ≡ write_numbers us → Reads (write_numbers us) 0 ws (length (write_numbers us))
    read ws s q =
        let end : 0 + length (write_numbers ws) ≡ length (write_numbers us) = let l = ap length q in omega arith in
        subst (Reads (write_numbers us) 0 ws) end (numbers-stand (write_numbers us) 0 ws [] s (sym q ∙ sym (append-nil (write_numbers ws))))

-- The numbers of automata in turn.
abbrev numbers_of : List (List State) → List ℕ
numbers_of [] = []
numbers_of (S ∷ more) = automaton_numbers S ++ numbers_of more

-- What is written for numbers, and then for others.
write-append : (us vs : List ℕ) → write_numbers (us ++ vs) ≡ write_numbers us ++ write_numbers vs
write-append [] vs = refl
write-append (u ∷ us) vs = ap (λ (l : List ℕ). write_number u ++ l) (write-append us vs) ∙ sym (append_assoc (write_number u) (write_numbers us) (write_numbers vs))

-- The bytes of automata are those of their numbers.
bytes-are : (Ss : List (List State)) → automata_bytes Ss ≡ write_numbers (numbers_of Ss)
unfolding automata_bytes
bytes-are [] = refl
bytes-are (S ∷ more) = ap (λ (l : List ℕ). write_numbers (automaton_numbers S) ++ l) (bytes-are more) ∙ sym (write-append (automaton_numbers S) (numbers_of more))

-- As many transitions are cut off one way.
edges-cut : (es fs : List Edge) (us vs : List ℕ) → length es ≡ length fs → edge_numbers es ++ us ≡ edge_numbers fs ++ vs → (es ≡ fs) × (us ≡ vs)
edges-cut [] [] us vs l e = (refl, e)
edges-cut [] (f ∷ fs) us vs l e = absurd (omega arith)
edges-cut (d ∷ es) [] us vs l e = absurd (omega arith)
edges-cut (d ∷ es) (f ∷ fs) us vs l e =
    let (by, more) = cons-eq-cons.0 e in
    let (to, rest) = cons-eq-cons.0 more in
    let (same, behind) = edges-cut es fs us vs (omega arith) rest in
    (ap₂ ◌∷◌ (ap₂ {C = Edge} (λ (b t : ℕ). record { by = b; to = t }) by to) same, behind)

-- So are as many states.
states-cut : (S T : List State) (us vs : List ℕ) → length S ≡ length T → state_numbers S ++ us ≡ state_numbers T ++ vs → (S ≡ T) × (us ≡ vs)
states-cut [] [] us vs l e = (refl, e)
states-cut [] (b ∷ T) us vs l e = absurd (omega arith)
states-cut (a ∷ S) [] us vs l e = absurd (omega arith)
states-cut (a ∷ S) (b ∷ T) us vs l e =
    let (accepting, more) = cons-eq-cons.0 e in
    let (count, rest) = cons-eq-cons.0 more in
    let split = sym (append_assoc (edge_numbers a.edges) (state_numbers S) us) ∙ rest ∙ append_assoc (edge_numbers b.edges) (state_numbers T) vs in
    let (edges, behind) = edges-cut a.edges b.edges (state_numbers S ++ us) (state_numbers T ++ vs) count split in
    let (same, last) = states-cut S T us vs (omega arith) behind in
    (ap₂ ◌∷◌ (ap₂ {C = State} (λ (n : ℕ) (es : List Edge). record { accepting = n; edges = es }) accepting edges) same, last)

-- The numbers of automata in turn are theirs alone.
automata-cut : (Ss Ts : List (List State)) → numbers_of Ss ≡ numbers_of Ts → Ss ≡ Ts
automata-cut [] [] e = refl
automata-cut [] (T ∷ Ts) e = absurd (omega (arith, ap length e))
automata-cut (S ∷ Ss) [] e = absurd (omega (arith, ap length e))
automata-cut (S ∷ Ss) (T ∷ Ts) e =
    let (count, more) = cons-eq-cons.0 e in
    let (same, rest) = states-cut S T (numbers_of Ss) (numbers_of Ts) count more in
    ap₂ ◌∷◌ same (automata-cut Ss Ts rest)

-- Numbers fit when each does,
small_all : (vs : List ℕ) → ((v : ℕ) → v ∈ vs → v < 16384) → Small vs
small_all [] h = tt
small_all (v ∷ vs) h = (h v (here refl), small_all vs (λ u m. h u (there m)))

-- and each does when they fit.
pub small-each : (vs : List ℕ) → Small vs → (v : ℕ) → v ∈ vs → v < 16384
small-each [] s v m = absurd (not-nil m)
small-each (u ∷ vs) s v m = cases m (λ (e : v ≡ u). rw e s.0) (small-each vs s.1 v)

-- All numbers of automata that fit do.
all_fit : (Ss : List (List State)) → ((S : List State) → S ∈ Ss → Fits S) → Small (numbers_of Ss)
all_fit [] h = tt
all_fit (S ∷ Ss) h = small-append (automaton_numbers S) (numbers_of Ss) (small_all (automaton_numbers S) (h S (here refl))) (all_fit Ss (λ T m. h T (there m)))

-- The bytes of automata whose numbers fit determine them.
pub bytes-told : (Ss Ts : List (List State)) → ((S : List State) → S ∈ Ss → Fits S) → ((T : List State) → T ∈ Ts → Fits T) → automata_bytes Ss ≡ automata_bytes Ts → Ss ≡ Ts
bytes-told Ss Ts h k e = automata-cut Ss Ts (numbers-told (numbers_of Ss) (numbers_of Ts) (all_fit Ss h) (all_fit Ts k) (sym (bytes-are Ss) ∙ e ∙ bytes-are Ts))

-- Those of a call that writes them fit.
pub written-fit : (table : List ℕ) (Ss : List (List State)) → Writes table Ss → (S : List State) → S ∈ Ss → Fits S
written-fit table Ss x S m =
    let (d, n, e) = Memᴰ.of_map automaton x.ds (subst (λ (l : List (List State)). S ∈ l) x.are m) in
    let f = grammar-of x.limit x.c table x.result x.scratch x.ds x.decided in
    let all = rights x.limit x.c table x.result x.scratch x.ds x.decided in
    let (A, h, q) = place_of d d x.ds n in
    let l = all.one_each in
    let limits = (read-written table x.bytes f.g f.reads.0 f.reads.1).1 in
    let right = subst (RightFor f.g A) q (all.right A d (omega arith)) in
    subst Fits e (small-each (automaton_numbers (automaton d)) (automaton-small f.g f.accepted limits A d right (x.small d n)))
