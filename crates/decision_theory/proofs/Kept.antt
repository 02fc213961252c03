-- The promises are kept. Assumes nothing.
use mathlib.Core.Path.{◌≡◌, refl, ap, subst}
use mathlib.Core.List.{List}
use lib.ListN.{get_or}
use Rattle.cfg.specs.Grammar.{Grammar}
use Rattle.k_tuples.specs.Work.{Answer, got, refused, ◌>>=◌}
use Rattle.decision_theory.specs.Needed.{Decided, decisions}
use Rattle.decision_theory.specs.Automaton.{automaton, automaton_numbers, all_decided, AllAre}
use Rattle.decision_theory.specs.Marking.{Mark, Marked, wanted_from, mark_rows, mark, CallMarked, mark-refused, one-refused, marked-as}
use Rattle.decision_theory.specs.Promises.{NeededAnswered, NeededOne, NeedsOne, NeededRight, NeededFound, ZeroExactly, TwentyTwoExactly, ElevenExactly, StaysDecided, JoinedComplete, NoneBegins, JoinedApart, AutomataAll, AutomataOne, AutomataRight, NumbersFit, BytesDetermine, WrittenDetermine, MarkAll, MarkOne, AutomataAccepted}
use Rattle.decision_theory.proofs.Ahead.{ahead-complete, ahead-some, ahead-prefix, serving-prefix}
use Rattle.decision_theory.proofs.Needed as N
use Rattle.decision_theory.proofs.Call.{call-answered, call-one, one-grammar}
use Rattle.decision_theory.proofs.Automaton.{automaton-right, automata-answered, automata-one, all-got, lowest-refused, Deciding, every, lowest-is, deciding, grammar-of, rights}
use Rattle.decision_theory.proofs.Bytes.{automaton-small, small-each, bytes-told, written-fit}
use Rattle.decision_theory.proofs.Marking.{marked, marked-one}
use Rattle.decision_theory.proofs.Listed.{automata-accepted}

-- ---- K3

pub needed-answered : NeededAnswered
needed-answered = call-answered

pub needed-one : NeededOne
needed-one limit c table result scratch x a = call-one limit c table result scratch a (call-answered limit c table result scratch)

pub needs-one : NeedsOne
needs-one g A j k = N.needs-one g A

pub needed-right : NeededRight
needed-right g ok c room limit A = N.answered-needs g ok c room limit A

pub needed-found : NeededFound
needed-found g ok c room limit A = N.needs-answered g ok c room limit A

pub zero-exactly : ZeroExactly
zero-exactly g ok c room limit A = N.zero-exactly g ok c room limit A

pub twenty-two : TwentyTwoExactly
twenty-two g ok c room limit A = N.twenty-two-exactly g ok c room limit A

pub eleven : ElevenExactly
eleven g ok c room limit A = N.eleven-for-one-exactly g ok c room limit A

pub stays : StaysDecided
stays g ok c room limit A = N.stays-decided g ok c room A limit

pub joined-complete : JoinedComplete
joined-complete g ok k k>0 i h w a = (ahead-complete g ok k k>0 i h w a, ahead-some g ok k k>0 i h w a)

pub none-begins : NoneBegins
none-begins = ahead-prefix

pub joined-apart : JoinedApart
joined-apart = serving-prefix

-- ---- K6

pub automata-all : AutomataAll
automata-all = automata-answered

pub automata-only : AutomataOne
automata-only limit c table result scratch room x a = automata-one limit c table result scratch room a

pub automata-right : AutomataRight
automata-right limit c table result scratch ds all =
    let f = grammar-of limit c table result scratch ds all in
    let r = rights limit c table result scratch ds all in
    record {
      g = f.g;
      reads = f.reads;
      accepted-grammar = f.accepted;
      one_each = r.one_each;
      decided = r.right;
      automata-of = λ A d h. automaton-right f.g f.accepted A (get_or ds A d) (r.right A d h);
    }

pub numbers_fit : NumbersFit
numbers_fit g ok limits A d right few = small-each (automaton_numbers (automaton d)) (automaton-small g ok limits A d right few)

pub bytes-determine : BytesDetermine
bytes-determine = bytes-told

pub written-determine : WrittenDetermine
written-determine table other Ss Ts x y = bytes-told Ss Ts (written-fit table Ss x) (written-fit other Ts y)

-- ---- K8

pub mark-all : MarkAll
unfolding mark
mark-all limit c table result scratch rows = by (decisions limit c table result scratch) refl
  where
    Is : Answer Mark → Type 0
    Is = CallMarked limit c table result scratch rows

    on : (ms : List (Answer Decided)) → decisions limit c table result scratch ≡ got ms → (r : Answer (List Decided)) → Deciding ms r → Is (r >>= λ ds. got (mark_rows (wanted_from 0 ds) rows))
    on ms e (refused r) (lowest-is A h q low) = one-refused (record { answers_of = ms; called = e; A = A; inside = h; refuses = q; lowest = low })
    on ms e (got ds) (every each) =
        let all : AllAre limit c table result scratch ds = record { answers_of = ms; called = e; each = each } in
        let f = grammar-of limit c table result scratch ds all in
        marked-as all f.reads (marked f.g ds (rights limit c table result scratch ds all) rows)

    by : (m : Answer (List (Answer Decided))) → decisions limit c table result scratch ≡ m → Is (m >>= λ ms. all_decided ms >>= λ ds. got (mark_rows (wanted_from 0 ds) rows))
    by (refused r) e = mark-refused e
    by (got ms) e = on ms e (all_decided ms) (deciding ms)

pub mark-one : MarkOne
unfolding mark
mark-one limit c table result scratch rows x (mark-refused e) = rw e
mark-one limit c table result scratch rows x (one-refused {r = r} o) = rw (o.called, lowest-refused o.answers_of o.A r o.inside o.refuses o.lowest)
mark-one limit c table result scratch rows x (marked-as {ds = ds} {g = g} {x = y} all reads m) =
    let f = grammar-of limit c table result scratch ds all in
    rw (all.called, all-got all.each)
    (ap got
    (marked-one f.g rows (subst (λ (g : Grammar). Marked g rows y) (one-grammar table reads f.reads) m)
    (marked f.g ds (rights limit c table result scratch ds all) rows)))

pub automata-rows-accepted : AutomataAccepted
unfolding mark
automata-rows-accepted limit c table result scratch ds all =
    let f = grammar-of limit c table result scratch ds all in
    rw (all.called, all-got all.each) (ap got (automata-accepted f.g f.accepted ds (rights limit c table result scratch ds all)))
