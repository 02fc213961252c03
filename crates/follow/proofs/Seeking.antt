-- One turn of the walk over the nonterminals in right sides. The invariant is `Seeks`: only terminals were passed. Assumes nothing.
use Prim.Native.Nat.{ℕ, zero, suc, ◌+◌, ◌-◌, ◌/◌, ◌%◌, ◌≤◌, ◌<◌}
use native.Mathlib.Numerals.{add-one}
use native.Mathlib.Omega.{arith}
use mathlib.Core.Path.{◌≡◌, refl, ap, ◌∙◌}
use mathlib.Core.List.{List, [], ◌∷◌, map}
use lib.ListN.{length, get_or, take, drop}
use lib.Seq.{drop-cons}
use Rattle.cfg.specs.Grammar.{nonterminal, terminal}
use Rattle.cfg.specs.Written.{symbol_of, productions_of}
use Rattle.cfg.specs.Words.{Sound, SoundHead, SpanAt}
use Rattle.cfg.specs.declared.table.Span.{Span}
use Rattle.cfg.proofs.Cursor.{Cursor, head, cursor-next, span-first, odd-terminal, even-nonterminal}
use Rattle.follow_theory.specs.Follow.{occurrences_of}
use Rattle.follow.specs.declared.walk.Walk.{Walk}
use Rattle.follow.specs.Walk.{symbols_left, to_come, Goes, Met, start_of}

-- before the first production all occurrences are to come
pub start-come : (p : ℕ) (ws : List ℕ) → to_come ws (start_of p) ≡ occurrences_of (productions_of p ws)
unfolding to_come
start-come p ws = refl

pub start-goes : (p : ℕ) (ws : List ℕ) → Sound 128 p ws → Goes ws (start_of p)
start-goes p ws s = record { before = omega arith; inside = omega arith; sound = s }

-- a place of the walk; the nonterminal that was met last is of no account
abbrev pub place : (at end source behind : ℕ) → Walk
place at end source behind = record { at = at; end = end; source = source; target = 0; behind = behind }

-- from w₀ to w only terminals were passed, and something is to come
pub record Seeks (ws : List ℕ) (w₀ w : Walk) : Type 0 where
  pub some : 1 ≤ length (to_come ws w)
  pub same : to_come ws w₀ ≡ to_come ws w
  pub goes : Goes ws w

abbrev forget : Walk → Walk
forget w = place w.at w.end w.source w.behind

pub seeks-start : (ws : List ℕ) (w : Walk) → Goes ws w → 1 ≤ length (to_come ws w) → Seeks ws (forget w) (forget w)
unfolding to_come
seeks-start ws w g h = record { some = h; same = refl; goes = record { before = g.before; inside = g.inside; sound = g.sound } }

pub met-from : (ws : List ℕ) (w : Walk) {r : Walk} → Met ws (forget w) r → Met ws w r
unfolding to_come
met-from ws w m = record { passed = m.passed; goes = m.goes }

first_word : (ws : List ℕ) (at end : ℕ) → at < end → end ≤ length ws → take (end - at) (drop at ws) ≡ get_or ws at 0 ∷ take (end - (at + 1)) (drop (at + 1) ws)
first_word ws at end h i =
    let one : end - at ≡ suc (end - (at + 1)) = omega arith in
    let short : at < length ws = omega arith in
    rw (one, drop-cons ws at 0 short, add-one)

module _ {ws : List ℕ} {w₀ w : Walk} (h : Seeks ws w₀ w) where
  -- ---- a symbol

  module _ (more : w.at < w.end) where
    -- the place behind it
    abbrev behind-it : Walk
    behind-it = place (w.at + 1) w.end w.source w.behind

    split : symbols_left ws w ≡ symbol_of (get_or ws w.at 0) ∷ symbols_left ws behind-it
    split = ap (map symbol_of) (first_word ws w.at w.end more h.goes.inside)

    pub seeks-pass : (get_or ws w.at 0 % 2 ≡ 0 → ⊥) → Seeks ws w₀ behind-it
    unfolding to_come
    seeks-pass odd =
        let one : get_or ws w.at 0 % 2 ≡ 1 = omega arith in
        let here : symbols_left ws w ≡ terminal (get_or ws w.at 0 / 2) ∷ symbols_left ws behind-it = split ∙ rw (odd-terminal (get_or ws w.at 0) one) in
        let same : to_come ws w ≡ to_come ws behind-it = rw here in
        record { some = rw (← same) h.some; same = h.same ∙ same; goes = record { before = omega arith; inside = h.goes.inside; sound = h.goes.sound } }

    pub seeks-met : get_or ws w.at 0 % 2 ≡ 0 → (target : ℕ) → target ≡ get_or ws w.at 0 / 2
        → Met ws w₀ (record { at = w.at + 1; end = w.end; source = w.source; target = target; behind = w.behind })
    unfolding to_come
    seeks-met even target e =
        let here : symbols_left ws w ≡ nonterminal (get_or ws w.at 0 / 2) ∷ symbols_left ws behind-it = split ∙ rw (even-nonterminal (get_or ws w.at 0) (λ e. omega arith)) in
        record { passed = h.same ∙ rw (here, e); goes = record { before = omega arith; inside = h.goes.inside; sound = h.goes.sound } }

  -- ---- the next production

  module _ (none : w.end ≤ w.at) where
    spent : symbols_left ws w ≡ []
    spent = let zero_left : w.end - w.at ≡ 0 = omega arith in rw zero_left

    left-some : (b : ℕ) → w.behind ≡ b → 0 < b
    unfolding to_come
    left-some zero e = absurd (omega (arith, rw (spent, e) at h.some))
    left-some (suc b) e = omega arith

    pub seeks-left : 0 < w.behind
    seeks-left = left-some w.behind refl

    cursor : Cursor 128 w.behind ws 0 w.end
    cursor = let all : w.behind - 0 ≡ w.behind = omega arith in record { below = omega arith; here = h.goes.inside; sound = rw all h.goes.sound }

    pub seeks-head : SoundHead 128 (drop w.end ws)
    seeks-head = head 128 w.behind ws 0 w.end cursor seeks-left

    pub seeks-enter : (span : Span) → SpanAt ws w.end span → (source : ℕ) → source ≡ span.left → Seeks ws w₀ (place span.from span.to source (w.behind - 1))
    unfolding to_come
    seeks-enter span s source is =
        let all : w.behind ≡ w.behind - 0 = omega arith in
        let same : to_come ws w ≡ to_come ws (place span.from span.to source (w.behind - 1)) =
        rw (spent, is) (ap (λ (b : ℕ). occurrences_of (productions_of b (drop w.end ws))) all
        ∙ ap occurrences_of (span-first 128 w.behind ws 0 w.end cursor seeks-left span s)) in
        record {
          some = rw (← same) h.some;
          same = h.same ∙ same;
          goes = record { before = omega (arith, s.from, s.to); inside = s.inside; sound = (cursor-next 128 w.behind ws 0 w.end cursor seeks-left span s).sound };
        }
