-- How the automaton goes through the blanks, the comments and the line ends of the subset. Assumes nothing.
use Prim.Native.Nat.{ℕ, zero, suc, ◌+◌}
use native.Mathlib.Omega.{arith}
use native.Mathlib.Numerals.{add-one}
use mathlib.Core.Path.{◌≡◌, refl, sym, ap, ◌∙◌, subst}
use mathlib.Core.Logic.{◌⊎◌, inl, inr}
use mathlib.Core.List.{List, [], ◌∷◌}
use mathlib.Core.Bool.{Bool, true, false, ◌||◌}
use lib.ListN.{length, drop}
use lib.Dec.{leb, eqb}
use borrow.Author.Tests.{eqb-true}
use Rattle.cfg.specs.Reading.{pick}
use Rattle.abnf_tables.specs.Run.{Run, on, refused, ◌then◌}
use Rattle.abnf_tables.specs.Bytes.{blank, letter, name_byte, comment_byte}
use Rattle.abnf_tables.specs.Tables.{Tables}
use Rattle.abnf_rules.specs.Machine.{State, to, breaks, broken, behind, spaced, wanted, equals, empty, inside, step, scanned}
use Rattle.abnf_rules.specs.declared.machine.Mode.{Mode}
use Rattle.abnf_rules.specs.declared.machine.Mode.TheVariants.{Blank, Naming, Equals, Want, Name, Quote, After, Spaced}
use Rattle.abnf_rules.specs.declared.machine.Line.{Line}
use Rattle.abnf_rules.specs.declared.machine.Line.TheVariants.{Inside, Comment, Return, Ended}
use Rattle.abnf_grammar.specs.Subset.{Many, none, more, byte, char, WSP, CRLF, c-nl, c-wsp}
use Rattle.abnf_grammar.proofs.Kept.{Gives}

abbrev pub state : Line → Mode → Tables → State
state l m t = record { line = l; mode = m; tables = t }

-- a state of this line and mode, whose tables have Q
pub record Goes (l : Line) (m : Mode) (Q : Tables → Type 0) (s : State) : Type 0 where
  pub line : s.line ≡ l
  pub mode : s.mode ≡ m
  pub tables : Q s.tables

abbrev pub here : (l : Line) (m : Mode) (Q : Tables → Type 0) (t : Tables) → Q t → Goes l m Q (state l m t)
here l m Q t q = record { line = refl; mode = refl; tables = q }

-- what is left of the text after one byte more
pub drop-next : (at b : ℕ) (bs text : List ℕ) → drop at text ≡ b ∷ bs → drop (at + 1) text ≡ bs
drop-next at b bs text e = rw (add-one at) (by at text e)
  where
    by : (k : ℕ) (xs : List ℕ) → drop k xs ≡ b ∷ bs → drop (suc k) xs ≡ bs
    by zero [] e = let z : 0 ≡ suc (length bs) = ap length e in absurd (omega arith)
    by zero (x ∷ xs) e = ap tail_of e
      where
        tail_of : List ℕ → List ℕ
        tail_of [] = []
        tail_of (y ∷ ys) = ys
    by (suc k) [] e = let z : 0 ≡ suc (length bs) = ap length e in absurd (omega arith)
    by (suc k) (x ∷ xs) e = by k xs e

-- ---- kinds of bytes and modes

-- where blanks, comments and line ends may stand
abbrev pub Loose : Mode → Type 0
Loose Blank = Unit {0}
Loose (Naming from) = ⊥
Loose Equals = Unit {0}
Loose Want = Unit {0}
Loose (Name from) = ⊥
Loose (Quote from) = ⊥
Loose After = ⊥
Loose Spaced = Unit {0}

-- one of two tests holds
pub or_cases : (a b : Bool) → (a || b) ≡ true → (a ≡ true) ⊎ (b ≡ true)
or_cases true b e = inl refl
or_cases false b e = inr e

-- a blank is a space or a tab
pub blank-is : (b : ℕ) → blank b ≡ true → (b ≡ 32) ⊎ (b ≡ 9)
unfolding blank
blank-is b e = by (or_cases (eqb b 32) (eqb b 9) e)
  where
    by : (eqb b 32 ≡ true) ⊎ (eqb b 9 ≡ true) → (b ≡ 32) ⊎ (b ≡ 9)
    by (inl q) = inl (eqb-true b 32 q)
    by (inr q) = inr (eqb-true b 9 q)

-- what ends a word

pub data Stop (c : ℕ) : Type 0 where
  space : c ≡ 32 → Stop c
  tab : c ≡ 9 → Stop c
  cr : c ≡ 13 → Stop c
  semicolon : c ≡ 59 → Stop c
  slash : c ≡ 47 → Stop c
  bracket : c ≡ 93 → Stop c

abbrev pub Stops : List ℕ → Type 0
Stops bs = (c : ℕ) × (r : List ℕ) × (bs ≡ c ∷ r) × Stop c

-- what ends a word begins no element, and is no byte of a name
pub stop-plain : (c : ℕ) → Stop c → (letter c || (eqb c 34 || eqb c 91)) ≡ false
unfolding letter
stop-plain c (space e) = rw e
stop-plain c (tab e) = rw e
stop-plain c (cr e) = rw e
stop-plain c (semicolon e) = rw e
stop-plain c (slash e) = rw e
stop-plain c (bracket e) = rw e

pub stop-name : (c : ℕ) → Stop c → name_byte c ≡ false
unfolding letter name_byte
stop-name c (space e) = rw e
stop-name c (tab e) = rw e
stop-name c (cr e) = rw e
stop-name c (semicolon e) = rw e
stop-name c (slash e) = rw e
stop-name c (bracket e) = rw e

-- blanks, comments and line ends end a word
wsp-stops : (bs rest : List ℕ) → WSP bs rest → Stops bs
wsp-stops bs rest w = by (blank-is w.0 w.2)
  where
    by : (w.0 ≡ 32) ⊎ (w.0 ≡ 9) → Stops bs
    by (inl e) = (w.0, rest, w.1, space e)
    by (inr e) = (w.0, rest, w.1, tab e)

pub cnl-stops : (bs rest : List ℕ) → c-nl bs rest → Stops bs
cnl-stops bs rest (inl w) = (59, w.0, w.1, semicolon refl)
cnl-stops bs rest (inr w) = (13, w.0, w.1, cr refl)

pub cwsp-stops : (bs rest : List ℕ) → c-wsp bs rest → Stops bs
cwsp-stops bs rest (inl w) = wsp-stops bs rest w
cwsp-stops bs rest (inr w) = cnl-stops bs w.0 w.1

pub blanks-stop : (bs rest : List ℕ) → Many c-wsp bs rest → Stops rest → Stops bs
blanks-stop bs rest none s = s
blanks-stop bs rest (more {mid = mid} w ws) s = cwsp-stops bs mid w

module _ (text : List ℕ) where
  -- a run of the automaton comes to a line and a mode at the text bs, with tables that have Q, unless a limit is passed
  pub data Leads (x : Run Tables) (l : Line) (m : Mode) (bs : List ℕ) (Q : Tables → Type 0) : Type 0 where
    over : (p : ℕ) → x ≡ refused 20 p → Leads x l m bs Q
    goes : (at : ℕ) (t : Tables) → drop at text ≡ bs → x ≡ scanned text at bs (state l m t) → Q t → Leads x l m bs Q

  -- one way behind another
  pub lead-then : {x : Run Tables} {l : Line} {m : Mode} {bs : List ℕ} {Q : Tables → Type 0} {l' : Line} {m' : Mode} {bs' : List ℕ} {R : Tables → Type 0}
      → Leads x l m bs Q
      → ((at : ℕ) (t : Tables) → drop at text ≡ bs → Q t → Leads (scanned text at bs (state l m t)) l' m' bs' R) → Leads x l' m' bs' R
  lead-then (over p e) k = over p e
  lead-then {l' = l'} {m' = m'} {bs' = bs'} {R = R} (goes at t d e q) k = subst (λ y. Leads y l' m' bs' R) (sym e) (k at t d q)

  -- one byte
  pub reads : (at b : ℕ) (bs rest : List ℕ) (l : Line) (m : Mode) (t : Tables) (l' : Line) (m' : Mode) (Q : Tables → Type 0) → drop at text ≡ bs
      → bs ≡ b ∷ rest
      → Gives (Goes l' m' Q) (step text at b l m t) → Leads (scanned text at bs (state l m t)) l' m' rest Q
  unfolding scanned
  reads at b bs rest l m t l' m' Q d e g = rw e (by (leb 32768 at) (step text at b l m t) g)
    where
      by : (c : Bool) (r : Run State) → Gives (Goes l' m' Q) r → Leads (pick c (refused 20 at) (r then scanned text (at + 1) rest)) l' m' rest Q
      by true r h = over at refl
      by false (on s) h = goes (at + 1) s.tables (drop-next at b rest text (d ∙ e)) (rw (← h.line, ← h.mode)) h.tables
      by false (refused n p) h = over p (rw h)

  -- what is pending is done, where the next byte is then read as in another mode
  pub settles : (at b : ℕ) (bs rest : List ℕ) (m m' : Mode) (t : Tables) (f : Run Tables) (Q : Tables → Type 0) → drop at text ≡ bs → bs ≡ b ∷ rest
      → step text at b Inside m t ≡ (f then λ u. step text at b Inside m' u) → Gives Q f → Leads (scanned text at bs (state Inside m t)) Inside m' bs Q
  unfolding scanned
  settles at b bs rest m m' t f Q d e s g = rw e (by (leb 32768 at) refl f (step text at b Inside m t) s g)
    where
      by : (c : Bool) → leb 32768 at ≡ c → (f : Run Tables) (r : Run State) → r ≡ (f then λ u. step text at b Inside m' u) → Gives Q f
          → Leads (pick c (refused 20 at) (r then scanned text (at + 1) rest)) Inside m' (b ∷ rest) Q
      by true z f r q h = over at refl
      by false z (on u) r q h = goes at u (d ∙ e) (rw (q, z)) h
      by false z (refused n p) r q h = over p (rw (q, h))

  -- ---- blanks and line ends

  -- a byte there that begins no element
  pub loose-step : (at b : ℕ) (m : Mode) (t : Tables) (r : Run State) → Loose m → (letter b || (eqb b 34 || eqb b 91)) ≡ false
      → ((x : Run State) → pick (breaks b) (broken b m t) (pick (blank b) (to m t) x) ≡ r) → step text at b Inside m t ≡ r
  unfolding step inside empty equals wanted spaced behind
  loose-step at b Blank t r h s k = k _
  loose-step at b (Naming from) t r h s k = absurd h
  loose-step at b Equals t r h s k = k _
  loose-step at b Want t r h s k = k _
  loose-step at b (Name from) t r h s k = absurd h
  loose-step at b (Quote from) t r h s k = absurd h
  loose-step at b After t r h s k = absurd h
  loose-step at b Spaced t r h s k = rw s (k _)

  -- a blank, a line end, a comment inside a line
  blank-inside : (at b : ℕ) (m : Mode) (t : Tables) → Loose m → blank b ≡ true → step text at b Inside m t ≡ to m t
  unfolding blank letter
  blank-inside at b m t h e = by (blank-is b e)
    where
      by : (b ≡ 32) ⊎ (b ≡ 9) → step text at b Inside m t ≡ to m t
      by (inl q) = rw q (loose-step at 32 m t (to m t) h refl (λ x. refl))
      by (inr q) = rw q (loose-step at 9 m t (to m t) h refl (λ x. refl))

  return-inside : (at : ℕ) (m : Mode) (t : Tables) → Loose m → step text at 13 Inside m t ≡ on (state Return m t)
  unfolding letter
  return-inside at m t h = loose-step at 13 m t (on (state Return m t)) h refl (λ x. refl)

  comment-inside : (at : ℕ) (m : Mode) (t : Tables) → Loose m → step text at 59 Inside m t ≡ on (state Comment m t)
  unfolding letter
  comment-inside at m t h = loose-step at 59 m t (on (state Comment m t)) h refl (λ x. refl)

  -- a byte whose step is known
  pub reads-to : (at b : ℕ) (bs rest : List ℕ) (l : Line) (m : Mode) (t : Tables) (l' : Line) (m' : Mode) (u : Tables) (Q : Tables → Type 0)
      → drop at text ≡ bs → bs ≡ b ∷ rest
      → step text at b l m t ≡ on (state l' m' u) → Q u → Leads (scanned text at bs (state l m t)) l' m' rest Q
  reads-to at b bs rest l m t l' m' u Q d e s q = reads at b bs rest l m t l' m' Q d e (subst (λ r. Gives (Goes l' m' Q) r) (sym s) (here l' m' Q u q))

  -- a blank
  pub wsp-leads : (at : ℕ) (bs rest : List ℕ) (m : Mode) (t : Tables) (Q : Tables → Type 0) → Loose m → drop at text ≡ bs → WSP bs rest → Q t
      → Leads (scanned text at bs (state Inside m t)) Inside m rest Q
  wsp-leads at bs rest m t Q h d w q = reads-to at w.0 bs rest Inside m t Inside m t Q d w.1 (blank-inside at w.0 m t h w.2) q

  -- a blank that continues a line
  ended-leads : (at : ℕ) (bs rest : List ℕ) (m : Mode) (t : Tables) (Q : Tables → Type 0) → drop at text ≡ bs → WSP bs rest → Q t
      → Leads (scanned text at bs (state Ended m t)) Inside m rest Q
  unfolding step
  ended-leads at bs rest m t Q d w q = reads-to at w.0 bs rest Ended m t Inside m t Q d w.1 (rw w.2) q

  -- the second byte of a line end, and both
  return-leads : (at : ℕ) (bs rest : List ℕ) (m : Mode) (t : Tables) (Q : Tables → Type 0) → drop at text ≡ bs → char 10 bs rest → Q t
      → Leads (scanned text at bs (state Return m t)) Ended m rest Q
  unfolding step
  return-leads at bs rest m t Q d e q = reads-to at 10 bs rest Return m t Ended m t Q d e refl q

  crlf-leads : (at : ℕ) (bs rest : List ℕ) (m : Mode) (t : Tables) (Q : Tables → Type 0) → Loose m → drop at text ≡ bs → CRLF bs rest → Q t
      → Leads (scanned text at bs (state Inside m t)) Ended m rest Q
  crlf-leads at bs rest m t Q h d w q =
      lead-then (reads-to at 13 bs w.0 Inside m t Return m t Q d w.1 (return-inside at m t h) q)
      (λ a u e r. return-leads a w.0 rest m u Q e w.2 r)

  -- a comment's end, and its bytes
  comment-crlf : (at : ℕ) (bs rest : List ℕ) (m : Mode) (t : Tables) (Q : Tables → Type 0) → drop at text ≡ bs → CRLF bs rest → Q t
      → Leads (scanned text at bs (state Comment m t)) Ended m rest Q
  unfolding step comment_byte
  comment-crlf at bs rest m t Q d w q =
      lead-then (reads-to at 13 bs w.0 Comment m t Return m t Q d w.1 refl q)
      (λ a u e r. return-leads a w.0 rest m u Q e w.2 r)

  comments-lead : (at : ℕ) (bs rest : List ℕ) (m : Mode) (t : Tables) (Q : Tables → Type 0) → drop at text ≡ bs → Many (byte comment_byte) bs rest → Q t
      → Leads (scanned text at bs (state Comment m t)) Comment m rest Q
  unfolding step
  comments-lead at bs rest m t Q d none q = goes at t d refl q
  comments-lead at bs rest m t Q d (more {mid = mid} w ws) q =
      lead-then (reads-to at w.0 bs mid Comment m t Comment m t Q d w.1 (rw w.2) q)
      (λ a u e r. comments-lead a mid rest m u Q e ws r)

  -- a comment or a line end
  pub cnl-leads : (at : ℕ) (bs rest : List ℕ) (m : Mode) (t : Tables) (Q : Tables → Type 0) → Loose m → drop at text ≡ bs → c-nl bs rest → Q t
      → Leads (scanned text at bs (state Inside m t)) Ended m rest Q
  cnl-leads at bs rest m t Q h d (inl w) q =
      lead-then (reads-to at 59 bs w.0 Inside m t Comment m t Q d w.1 (comment-inside at m t h) q)
      (λ a u e r. lead-then (comments-lead a w.0 w.2.0 m u Q e w.2.1 r) (λ a' u' e' r'. comment-crlf a' w.2.0 rest m u' Q e' w.2.2 r'))
  cnl-leads at bs rest m t Q h d (inr w) q = crlf-leads at bs rest m t Q h d w q

  -- a blank of either kind, and any number of them
  pub cwsp-leads : (at : ℕ) (bs rest : List ℕ) (m : Mode) (t : Tables) (Q : Tables → Type 0) → Loose m → drop at text ≡ bs → c-wsp bs rest → Q t
      → Leads (scanned text at bs (state Inside m t)) Inside m rest Q
  cwsp-leads at bs rest m t Q h d (inl w) q = wsp-leads at bs rest m t Q h d w q
  cwsp-leads at bs rest m t Q h d (inr w) q = lead-then (cnl-leads at bs w.0 m t Q h d w.1 q) (λ a u e r. ended-leads a w.0 rest m u Q e w.2 r)

  pub blanks-lead : (at : ℕ) (bs rest : List ℕ) (m : Mode) (t : Tables) (Q : Tables → Type 0) → Loose m → drop at text ≡ bs → Many c-wsp bs rest → Q t
      → Leads (scanned text at bs (state Inside m t)) Inside m rest Q
  blanks-lead at bs rest m t Q h d none q = goes at t d refl q
  blanks-lead at bs rest m t Q h d (more {mid = mid} w ws) q =
      lead-then (cwsp-leads at bs mid m t Q h d w q) (λ a u e r. blanks-lead a mid rest m u Q h e ws r)
