-- What the table's reader answers, as the call goes on with it. Assumes nothing.
use Prim.Native.Nat.{ℕ, ◌≤◌}
use mathlib.Core.Path.{◌≡◌, sym, subst}
use mathlib.Core.List.{List}
use lib.ListN.{length, take}
use lib.Seq.{length-take-le}
use Rattle.cfg.specs.Reading.{got as read, refused as unread}
use Rattle.cfg.specs.Table.{GrammarSound}
use Rattle.cfg.specs.Accept.{accept_table}
use Rattle.cfg.specs.declared.table.Table.{Table}
use Rattle.std.specs.Prelude.{Err}
use Rattle.refusals.specs.Numbers.{number}
use Rattle.refusals.specs.declared.Refusal.{Refusal}
use Rattle.cfg.proofs.Meaning.{accepted}
use Rattle.cfg.proofs.Sizes.{accepted-sizes}
use Rattle.engine.specs.Call.{Record, record_of, Promised}
use Rattle.engine.specs.Steps.{grammar_in, Ready, Asked}
use Rattle.engine.proofs.Calls.{table-refused, table-accepted}
use Rattle.engine.proofs.Running.{refused_record}

pub same-room : (k c : ℕ) {d : ℕ} (table result scratch : List ℕ) {x : Record} {result' scratch' : List ℕ} → d ≡ c → Promised k d table result scratch x result' scratch'
    → Promised k c table result scratch x result' scratch'
same-room k c table result scratch {x} {result'} {scratch'} e p = subst (λ (d : ℕ). Promised k d table result scratch x result' scratch') e p

module _ (k c : ℕ) (table result scratch : List ℕ) (k>0 : 1 ≤ k) (k<11 : k ≤ 10) (c>0 : 1 ≤ c) (c<1025 : c ≤ 1024) where
  pub read-refused : (e : Refusal) → unread (number e) ≡ accept_table table → Promised k c table result scratch (record_of (Err e)) result scratch
  read-refused e says = table-refused k c table result scratch k>0 k<11 c>0 c<1025 (number e) says (refused_record e)

  -- the grammar that was read, whose words are cut off where they end
  module _ (a : Table) (words : List ℕ) (says : read (grammar_in a.shape (take a.used words)) (length table) ≡ accept_table table) {end : ℕ} (f : end ≡ a.used) where
    got : read (grammar_in a.shape (take end words)) (length table) ≡ accept_table table
    got = rw f says

    pub read-accepted : {x : Record} {result' scratch' : List ℕ} → Asked k c (grammar_in a.shape (take end words)) result scratch x result' scratch' → Promised k c table result scratch x result' scratch'
    read-accepted {result' = result'} {scratch' = scratch'} l =
        table-accepted k c table result scratch k>0 k<11 c>0 c<1025 (grammar_in a.shape (take end words)) (length table) result' scratch' got l

    module _ (known : GrammarSound a.shape.n a.shape.p a.used words) where
      read-inside : end ≤ length words
      read-inside = rw f known.inside

      pub read_length : end ≡ length (take end words)
      read_length = sym (length-take-le end words read-inside)

      pub read-ready : Ready k c a.shape (take end words)
      read-ready =
          let g = grammar_in a.shape (take end words) in
          let (ok, is) = accepted table g (length table) (sym got) in
          record {
            k>0 = k>0;
            k<11 = k<11;
            c>0 = c>0;
            c<1025 = c<1025;
            accepted = ok;
            read = is;
            sizes = accepted-sizes table g (length table) (sym got);
            sound = rw f known.sound;
          }
