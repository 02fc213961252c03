-- What is demanded of the call, stated of the call itself: of its record and of the words that it leaves. `Demanded` is all of it in one place; its
-- theorem is `demanded` of proofs/Demands.antt, which asks for nothing but the call's contract. Assumes nothing.
use Rattle.std.specs.Prelude.{ℕ, ◌+◌, ◌*◌, ◌<◌, List, [], ◌∷◌, ◌↔◌, ◌≡◌, length, get_or, take}
use Rattle.cfg.specs.Grammar.{Sym, nonterminal, Word, Grammar, Accepted}
use Rattle.cfg.specs.Refused.{TableRefused}
use Rattle.k_tuple.specs.Strings.{Str, width_of}
use Rattle.k_tuples.specs.States.{State, set_of}
use Rattle.k_tuples.specs.Work.{Answer}
use Rattle.k_tuples.specs.Held.{set_words, set_in, good, width_for}
use Rattle.first_theory.specs.First.{First, AhoUllman}
use Rattle.follow_theory.specs.Follow.{Follow, AtPosition, Occurrence, occurrences_of}
use Rattle.messages.specs.Messages.{InMessages, AllReachable}
use Rattle.analysis.specs.Analysis.{Analysis}
use Rattle.analysis.specs.Promises.{EnoughRoom, IsSetOf, LevelRounds, FollowRounds, AnyOrder, Between, IsTableOf, EnoughWords, Verdict}
use Rattle.engine.specs.Ask.{set_part}
use Rattle.engine.specs.Call.{Record, answer_of}

-- ---- demand 1

-- Every input is answered or refused by the table of refusals: one case holds of it and no other, and the record tells that case.
-- Refusals 3 to 7 are given exactly when the bytes are refused so, k and c being in range.
pub record Demand1 (k c : ℕ) (table result scratch : List ℕ) (r : Record) : Type 0 where
  pub case : Answer Analysis
  pub verdict : Verdict k c table (length result) (length scratch) case
  pub one : (m : Answer Analysis) → Verdict k c table (length result) (length scratch) m → m ≡ case
  pub told : r ≡ answer_of case
  pub table-refused : (i : ℕ) → Between 3 7 i → (r.refusal ≡ i) ↔ (Between 1 10 k × Between 1 1024 c × TableRefused table i)

-- ---- demands 2 and 3

-- Asking the words that a call left for a set gives the words of this one, which the set operations read as it (so they never refuse it 13);
-- and it holds what P says, and nothing else.
pub record Gives (k c : ℕ) (r : Record) (words : List ℕ) (kind number : ℕ) (set : List Str) (P : Word → Type 0) : Type 0 where
  pub part : set_part kind number r.n r.p r.q c words ≡ set_words k (2 * c + 1) r.width set
  pub read : set_in k (set_part kind number r.n r.p r.q c words) ≡ good (width_for r.width set) set
  pub holds : IsSetOf P set

-- The right side of production i, and position i.
abbrev pub right_of : Grammar → ℕ → List Sym
right_of g i = (get_or g.productions i (record { left = 0; right = [] })).right

abbrev pub position_of : Grammar → ℕ → Occurrence
position_of g i = get_or (occurrences_of g.productions) i (record { target = 0; source = 0; rest = [] })

-- Of a call that was not refused: the table is the writing of an accepted grammar within the limits; the sets that are asked for are the textbook's
-- FIRST, in both its forms, and the equations' FOLLOW, which is what messages show where every nonterminal can be reached; each count of rounds is that
-- of the first round that repeats the sets before it, a level's at most n + 1 and FOLLOW's at most the members of its sets; and FOLLOW is the same in
-- any order of the equations.
pub record Demand23 (k c : ℕ) (table : List ℕ) (r : Record) (words : List ℕ) : Type 0 where
  pub g : Grammar
  pub table_of : IsTableOf g table
  pub accepted : Accepted g
  -- the record's sizes
  pub n : r.n ≡ g.n
  pub p : r.p ≡ length g.productions
  pub q : r.q ≡ length (occurrences_of g.productions)
  pub width : r.width ≡ width_of (g.t + 5)
  -- the sets of the four kinds
  pub firsts : State
  pub first : (A : ℕ) → A < g.n → Gives k c r words 0 A (set_of firsts A) (First g k (nonterminal A ∷ []))
  pub first-by-aho-ullman : (A : ℕ) → A < g.n → IsSetOf (AhoUllman g k (nonterminal A ∷ [])) (set_of firsts A)
  pub productions : State
  pub production : (i : ℕ) → i < length g.productions → Gives k c r words 1 i (set_of productions i) (First g k (right_of g i))
  pub production-by-aho-ullman : (i : ℕ) → i < length g.productions → IsSetOf (AhoUllman g k (right_of g i)) (set_of productions i)
  pub follows : State
  pub follow : (A : ℕ) → A < g.n → Gives k c r words 2 A (set_of follows A) (Follow g k A)
  pub follow-in-messages : AllReachable g → (A : ℕ) → A < g.n → IsSetOf (InMessages g k A) (set_of follows A)
  pub positions : State
  pub position : (i : ℕ) → i < length (occurrences_of g.productions)
      → Gives k c r words 3 i (set_of positions i) (AtPosition g k (position_of g i).source (position_of g i).rest)
  -- the rounds, and the order
  pub level-rounds : LevelRounds g k c (take k r.rounds) firsts
  pub follow-rounds : FollowRounds g k c firsts r.follow follows
  pub any_order : AnyOrder g k c firsts follows

-- ---- all of it

-- Every input has its answer; an answer that is no refusal is right; and a table that may be served, with words and room enough, is served.
pub record Demanded (k c : ℕ) (table result scratch : List ℕ) (r : Record) (words : List ℕ) : Type 0 where
  pub answered : Demand1 k c table result scratch r
  pub right : r.refusal ≡ 0 → Demand23 k c table r words
  pub served : (g : Grammar) → IsTableOf g table → Accepted g → Between 1 10 k → Between 1 1024 c
      → EnoughWords g c (length result) (length scratch) → EnoughRoom g k c → r.refusal ≡ 0
