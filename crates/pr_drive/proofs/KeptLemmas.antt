use Rattle.std.proofs.Common.{◌≡◌, ◌<◌, ◌+◌, ◌++◌, ◌⊎◌, inl, inr, ℕ, Bool, true, false, List, [], ◌∷◌, Option}
use Rattle.std.proofs.Common.{Some, Result, Ok, Err, IfOk, IfSome, length, refl, sym, ap, subst, ◌∙◌, arith}
use Rattle.std.specs.List.{All}
use Rattle.std.proofs.lemmas.List.Elements.{All-append, All-cons, All-nil}
use Rattle.pr_api.specs.Entries.{call_entry}
use Rattle.pr_asks.specs.declared.asks.Ask.{Ask}
use Rattle.pr_asks.specs.declared.asks.Ask.TheVariants as ask
use Rattle.pr_asks.specs.declared.asks.AskKind.{AskKind}
use Rattle.pr_asks.specs.Asks.{ask_of}
use Rattle.pr_model.specs.Legal.{IsLegal, IsLegalEntry, after, state_after}
use Rattle.pr_model.specs.State.{TracedState}
use Rattle.pr_model.specs.declared.calls.Call.{Call}
use Rattle.pr_model.specs.declared.calls.Reply.{Reply}
use Rattle.pr_model.specs.declared.events.Act.{Act}
use Rattle.pr_model.specs.declared.events.Act.TheVariants.{Call as Called, Turn, Tick}
use Rattle.pr_model.specs.declared.events.Actor.{Actor}
use Rattle.pr_model.specs.declared.events.Actor.TheVariants.{Controller as ByNumber, Lwp, Clock}
use Rattle.pr_model.specs.declared.events.Entry.{Entry}
use Rattle.pr_reached.specs.ByteHistories.{IsOfBytes}
use Rattle.pr_run_laws.proofs.BytesWritten.ByteLemmas.{IsOtherOfBytes, fed-lines, script-bytes}
use Rattle.pr_run_laws.specs.ScenarioRanges.{IsLineOfBytes}
use Rattle.pr_run_laws.specs.ScenarioRuns.{controllers_of, first_state_of}
use Rattle.pr_scen.specs.Scenarios.{Scenario}
use Rattle.pr_scen.specs.Scripts.{ScriptState, fed, next_call_of}
use Rattle.pr_tool_laws.specs.OwnCalls.{AreOwnCalls, IsOwnCall}
use Rattle.pr_world.proofs.ProtocolLemmas.{controllers_at-count}
use Rattle.pr_world.specs.ControllerStates.{ControllerState}
use Rattle.pr_world.specs.Protocol.{controllers_after, controllers_at}
use Rattle.pr_drive.specs.Exchanges.{Answers, AnswersCall, GaveUp, GoesFor, GoesUntil}
use Rattle.pr_drive.specs.Exchanges.{CallsNone, Made, MadeMessages, MovesNot, MovesOne}
use Rattle.pr_drive.specs.Going.{Called as OutsideCalled, SeatsState, after_entries, after_entry}
use Rattle.pr_drive.specs.Going.{outside_of}
use Rattle.pr_drive.specs.Rounds.{AreStepsOn, RoundsState, after_steps, first_controllers}
use Rattle.pr_drive.specs.Served.{Begins}
use Rattle.pr_drive.specs.Sessions.{AnsweredAll, AnswersRead, Exchange, Exchanged, Exchanges, IsHistoryFrom}
use Rattle.pr_drive.specs.Sessions.{PassesTurn, Stand}
use Rattle.pr_drive.specs.Starts.{first_seats}
use Rattle.pr_drive.proofs.AskBytes.{AsksForBytes, HasLines, asks-bytes}
use Rattle.pr_drive.proofs.EntryLemmas.{AreMoves, Goes, entries-append, entries-history, entries-places, goes-then}
use Rattle.pr_drive.proofs.EntryLemmas.{moved-goes}
use Rattle.pr_drive.proofs.StepLemmas.{finish-goes, follows-goes, for-seats, on-go, until-seats, waits-goes}

-- What a session keeps: its history is legal, each controller of the scenario made its own calls, and what the outside
-- wrote is bytes.

-- From one moment to another these entries came.
pub record Keeps (old new : SeatsState) : Type 0 where
  pub entries : List Entry
  pub legal : IsLegal (outside_of old + 1) old.kernel.state entries
  pub own : AreOwnCalls old.controllers entries
  pub bytes : All (IsOtherOfBytes (outside_of old)) entries
  pub is : new ≡ after_entries entries old

-- ---- one history behind another

IsLegal-append : (n : ℕ) (s : TracedState) (xs ys : List Entry) → IsLegal n s xs → IsLegal n (state_after s xs) ys
    → IsLegal n s (xs ++ ys)
IsLegal-append n s [] ys mx my = my
IsLegal-append n s (x ∷ xs) ys mx my = (mx.0, IsLegal-append n (after s x) xs ys mx.1 my)

AreOwn-append : (cs : List ControllerState) (xs ys : List Entry) → AreOwnCalls cs xs
    → AreOwnCalls (controllers_at cs xs) ys → AreOwnCalls cs (xs ++ ys)
AreOwn-append cs [] ys mx my = my
AreOwn-append cs (x ∷ xs) ys mx my = (mx.0, AreOwn-append (controllers_after cs x) xs ys mx.1 my)

-- ---- what entries make of a state

pub entries-state : (es : List Entry) (s : SeatsState)
    → (after_entries es s).kernel.state ≡ state_after s.kernel.state es
entries-state [] s = refl
entries-state (e ∷ es) s = entries-state es (after_entry e s)

pub entries-controllers : (es : List Entry) (s : SeatsState)
    → (after_entries es s).controllers ≡ controllers_at s.controllers es
entries-controllers [] s = refl
entries-controllers (e ∷ es) s = entries-controllers es (after_entry e s)

-- the number of the outside stays
pub entries-outside : (es : List Entry) (s : SeatsState) → outside_of (after_entries es s) ≡ outside_of s
entries-outside es s = ap length (entries-controllers es s) ∙ controllers_at-count s.controllers es

pub entry-outside : (e : Entry) (s : SeatsState) → outside_of (after_entry e s) ≡ outside_of s
entry-outside e s = controllers_at-count s.controllers (e ∷ [])

-- ---- moves of others, and calls of the outside

legal-by : (n : ℕ) (s : TracedState) (actor : Actor) (act : Act)
    → IsLegalEntry n s (record { actor = actor; act = act })
    → IsLegalEntry (n + 1) s (record { actor = actor; act = act })
unfolding IsLegalEntry
legal-by n s (ByNumber k) (Called c r) h = (omega (arith, h.0), h.1)
legal-by n s (Lwp p l) (Turn t) h = h
legal-by n s Clock (Tick m) h = h
legal-by n s _ _ h = absurd h

pub legal-more : (n : ℕ) (s : TracedState) (e : Entry) → IsLegalEntry n s e → IsLegalEntry (n + 1) s e
legal-more n s e h = legal-by n s e.actor e.act h

moves-legal : (n : ℕ) (es : List Entry) (until : ℕ) (s : SeatsState) → outside_of s ≡ n → AreMoves until s es
    → IsLegal (n + 1) s.kernel.state es
moves-legal n [] until s is moves = tt
moves-legal n (e ∷ es) until s is moves = (
  legal-more n s.kernel.state e (subst (λ (m : ℕ). IsLegalEntry m s.kernel.state e) is moves.0.legal),
  moves-legal n
      es until (after_entry e s) (entry-outside e s ∙ is) moves.1,
)

moves-own : (es : List Entry) (until : ℕ) (s : SeatsState) → AreMoves until s es → AreOwnCalls s.controllers es
moves-own [] until s moves = tt
moves-own (e ∷ es) until s moves = (moves.0.own, moves-own es until (after_entry e s) moves.1)

-- what the others write is asked by another law
move-other : (n : ℕ) (s : TracedState) (actor : Actor) (act : Act)
    → IsLegalEntry n s (record { actor = actor; act = act })
    → IsOtherOfBytes n (record { actor = actor; act = act })
unfolding IsLegalEntry IsOtherOfBytes
move-other n s (ByNumber k) (Called c r) h = λ past. absurd (omega (arith, h.0, past))
move-other n s (Lwp p l) (Turn t) h = tt
move-other n s Clock (Tick m) h = tt
move-other n s _ _ h = absurd h

moves-bytes : (n : ℕ) (es : List Entry) (until : ℕ) (s : SeatsState) → outside_of s ≡ n → AreMoves until s es
    → All (IsOtherOfBytes n) es
moves-bytes n [] until s is moves = All-nil (IsOtherOfBytes n)
moves-bytes n (e ∷ es) until s is moves =
    All-cons (IsOtherOfBytes n) e es
    (move-other n s.kernel.state e.actor e.act
    (subst (λ (m : ℕ). IsLegalEntry m s.kernel.state e) is moves.0.legal))
    (moves-bytes n es until (after_entry e s) (entry-outside e s ∙ is) moves.1)

pub keeps-none : (s : SeatsState) → Keeps s s
keeps-none s =
    record { entries = []; legal = tt; own = tt; bytes = All-nil (IsOtherOfBytes (outside_of s)); is = refl }

pub keeps-same : (a b : SeatsState) → b ≡ a → Keeps a b
keeps-same a b same = subst (λ (s : SeatsState). Keeps a s) (sym same) (keeps-none a)

pub keeps-then : (a b c : SeatsState) → Keeps a b → Keeps b c → Keeps a c
keeps-then a b c first second =
    let xs = first.entries in let ys = second.entries in
    let outside : outside_of b ≡ outside_of a = ap outside_of first.is ∙ entries-outside xs a in
    let state : b.kernel.state ≡ state_after a.kernel.state xs = ap (λ (s : SeatsState). s.kernel.state) first.is
    ∙ entries-state xs a in
    let fed : b.controllers ≡ controllers_at a.controllers xs = ap (λ (s : SeatsState). s.controllers) first.is
    ∙ entries-controllers xs a in
    let legal : IsLegal (outside_of a + 1) (state_after a.kernel.state xs) ys =
    subst (λ (s : TracedState). IsLegal (outside_of a + 1) s ys) state
    (subst (λ (n : ℕ). IsLegal (n + 1) b.kernel.state ys) outside second.legal) in
    record {
      entries = xs ++ ys;
      legal = IsLegal-append (outside_of a + 1) a.kernel.state xs ys first.legal legal;
      own = AreOwn-append a.controllers xs ys first.own
          (subst (λ (cs : List ControllerState). AreOwnCalls cs ys) fed second.own);
      bytes = All-append (IsOtherOfBytes (outside_of a)) xs ys first.bytes
          (subst (λ (n : ℕ). All (IsOtherOfBytes n) ys) outside second.bytes);
      is = second.is ∙ ap (after_entries ys) first.is ∙ sym (entries-append xs ys a);
    }

pub goes-keep : (until : ℕ) (a b : SeatsState) → Goes until a b → Keeps a b
goes-keep until a b goes = record {
  entries = goes.entries;
  legal = moves-legal (outside_of a) goes.entries until a refl goes.moves;
  own = moves-own goes.entries until a goes.moves;
  bytes = moves-bytes (outside_of a) goes.entries until a refl goes.moves;
  is = goes.is;
}

pub outside-own : (cs : List ControllerState) (c : Call) (r : _) → IsOwnCall cs (call_entry (length cs) c r)
unfolding IsOwnCall
outside-own cs c r = λ (within : length cs < length cs). absurd (omega arith)

pub outside-legal : (s : SeatsState) (c : Call) (t : SeatsState) (called : OutsideCalled c s t)
    → IsLegalEntry (outside_of s + 1) s.kernel.state (call_entry (outside_of s) c called.answer.reply)
unfolding IsLegalEntry
outside-legal s c t called = (omega arith, (called.answer.state, called.answered))

outside-bytes : (n : ℕ) (c : Call) (r : Reply) → IsOfBytes c → IsOtherOfBytes n (call_entry n c r)
unfolding IsOtherOfBytes
outside-bytes n c r bytes = λ past. bytes

pub called-keep : (c : Call) (a b : SeatsState) → IsOfBytes c → OutsideCalled c a b → Keeps a b
called-keep c a b bytes called = record {
  entries = call_entry (outside_of a) c called.answer.reply ∷ [];
  legal = (outside-legal a c b called, tt);
  own = (outside-own a.controllers c called.answer.reply, tt);
  bytes = All-cons (IsOtherOfBytes (outside_of a)) (call_entry (outside_of a) c called.answer.reply) []
      (outside-bytes (outside_of a) c called.answer.reply bytes) (All-nil (IsOtherOfBytes (outside_of a)));
  is = called.is;
}

-- ---- a row for each thing that is asked

waits-keep : (c : Call) (a b : RoundsState) → GaveUp c a b → Keeps a.seats b.seats
waits-keep c a b gave_up =
    keeps-then a.seats gave_up.last.seats b.seats
    (goes-keep _ a.seats gave_up.last.seats (waits-goes gave_up.rounds c a gave_up.last gave_up.waits))
    (keeps-same gave_up.last.seats b.seats gave_up.rests.same)

made-keep : (c : Call) (a b : RoundsState) → IsOfBytes c → Made c a b → Keeps a.seats b.seats
made-keep c a b bytes made =
    keeps-then a.seats made.ready.seats b.seats
    (goes-keep _ a.seats made.ready.seats (waits-goes made.rounds c a made.ready made.waits))
    (called-keep c made.ready.seats b.seats bytes made.called)

-- what a script calls next is of bytes, and so is what it calls behind its reply
next-bytes : (script : ScriptState) (c : Call) → HasLines script → next_call_of script ≡ Some c → IsOfBytes c
next-bytes script c lines next =
    subst (λ (o : Option Call). IfSome o IsOfBytes) next (script-bytes script lines)

fed-has : (script after : ScriptState) (r : Reply) → HasLines script → after ≡ fed script r → HasLines after
fed-has script after r lines is =
    subst HasLines (sym is) (subst (All IsLineOfBytes) (sym (fed-lines script r)) lines)

messages-keep : (texts : List (List ℕ)) (script after : ScriptState) (a b : RoundsState) → HasLines script
    → MadeMessages script after a b texts → Keeps a.seats b.seats
messages-keep [] script after a b lines made = keeps-same a.seats b.seats (ap (λ (r : RoundsState). r.seats) made.1)
messages-keep (text ∷ texts) script after a b lines made =
    let m = made.1 in
    let one = made.2.0 in
    let d = one.made in
    let bytes = next-bytes script one.next.call lines one.next.next in
    let first = keeps-then a.seats d.seats m.seats (made-keep one.next.call a d bytes one.next.made.made)
    (goes-keep _ d.seats m.seats (finish-goes _ d m one.round)) in
    let more = fed-has script made.0 one.next.made.made.called.answer.reply lines one.next.got in
    keeps-then a.seats m.seats b.seats first (messages-keep texts made.0 after m b more made.2.1)

none-keep : (script : ScriptState) (a b : RoundsState) (text : List ℕ) → CallsNone script a b text
    → Keeps a.seats b.seats
none-keep script a b text (inl ended) = keeps-same a.seats b.seats (ap (λ (r : RoundsState). r.seats) ended.same)
none-keep script a b text (inr back) = waits-keep back.call a b back.taken_back.gave_up

one-keep : (actor : Actor) (a b : RoundsState) (text : List ℕ) → MovesOne actor a b text ⊎ MovesNot actor a b text
    → Keeps a.seats b.seats
one-keep actor a b text (inl one) = goes-keep 0 a.seats b.seats (moved-goes 0 actor a.seats b.seats one.moved)
one-keep actor a b text (inr not_moved) = keeps-same a.seats b.seats not_moved.stayed.same

call-keep : (over : Bool) (c : Call) (a b : RoundsState) (text : List ℕ) → IsOfBytes c → AnswersCall over c a b text
    → Keeps a.seats b.seats
call-keep true c a b text bytes made = made-keep c a b bytes made.made
call-keep false c a b text bytes back = waits-keep c a b back.gave_up

on-keep : (es : List Entry) (a b : RoundsState) → AreStepsOn 0 a es → b.seats ≡ (after_steps es a).seats
    → Keeps a.seats b.seats
on-keep es a b steps is =
    keeps-then a.seats (after_steps es a).seats b.seats
    (goes-keep 0 a.seats (after_steps es a).seats (on-go 0 es a steps))
    (keeps-same (after_steps es a).seats b.seats is)

for-keep : (times : ℕ) (a b : RoundsState) → GoesFor times a b → Keeps a.seats b.seats
for-keep times a b moves = on-keep moves.entries a b moves.steps (for-seats times a b moves)

until-keep : (a b : RoundsState) → GoesUntil a b → Keeps a.seats b.seats
until-keep a b moves = on-keep moves.entries a b moves.steps (until-seats a b moves)

answers-keep : (asked : Ask) (over : Bool) (a b : RoundsState) (text : List ℕ) → AsksForBytes asked
    → Answers asked over a b text → Keeps a.seats b.seats
answers-keep (ask.Call c) over a b text bytes h = call-keep over c a b text bytes h
answers-keep (ask.Messages script) over a b text bytes h =
    keeps-then a.seats h.1.reached.seats b.seats
    (messages-keep h.1.replies script h.1.after a h.1.reached bytes h.1.made)
    (none-keep h.1.after h.1.reached b h.1.last h.1.end)
answers-keep (ask.Moves times) over a b text bytes h = for-keep times a b h.1.moves
answers-keep (ask.Move actor) over a b text bytes h = one-keep actor a b text h.1
answers-keep ask.Run over a b text bytes h = until-keep a b h.1.moves
answers-keep ask.End over a b text bytes h = keeps-same a.seats b.seats (ap (λ (r : RoundsState). r.seats) h.1.same)

line-keep : (number : ℕ) (read : Result Ask AskKind) (over : Bool) (a b : RoundsState) (text : List ℕ)
    → IfOk read AsksForBytes → AnswersRead number read over a b text → Keeps a.seats b.seats
line-keep number (Err kind) over a b text bytes h =
    keeps-same a.seats b.seats (ap (λ (r : RoundsState). r.seats) h.1.same)
line-keep number (Ok asked) over a b text bytes h = answers-keep asked over a b text bytes h.1

pass-keep : (over : Bool) (a b : RoundsState) → PassesTurn over a b → Keeps a.seats b.seats
pass-keep true a b h = goes-keep 0 a.seats b.seats (finish-goes 0 a b h)
pass-keep false a b h = keeps-same a.seats b.seats (ap (λ (r : RoundsState). r.seats) h)

abbrev seats_at : Stand → SeatsState
seats_at a = a.rounds.seats

exchanged-keep : (number : ℕ) (x : Exchange) (a b : Stand) → Exchanged number x a b → Keeps (seats_at a) (seats_at b)
exchanged-keep number x a b h =
    keeps-then (seats_at a) h.answered.seats (seats_at b)
    (line-keep number (ask_of x.line) h.over a.rounds h.answered x.reply (asks-bytes x.line) h.answers)
    (pass-keep h.over h.answered b.rounds h.passes)

exchanges-keep : (xs : List Exchange) (number : ℕ) (a b : Stand) → Exchanges number xs a b
    → Keeps (seats_at a) (seats_at b)
exchanges-keep [] number a b h = keeps-same (seats_at a) (seats_at b) (ap seats_at h)
exchanges-keep (x ∷ xs) number a b h =
    keeps-then (seats_at a) (seats_at h.0) (seats_at b) (exchanged-keep number x a h.0 h.1.0)
    (exchanges-keep xs (number + 1) h.0 b h.1.1)

pub all-keep : (above : ℕ) (a b : Stand) (before after : Option (List ℕ)) → AnsweredAll above a b before after
    → Keeps (seats_at a) (seats_at b)
all-keep above a b before after h =
    keeps-then (seats_at a) (seats_at h.reached) (seats_at b)
    (exchanges-keep h.exchanges (above + 1) a h.reached h.answered)
    (keeps-same (seats_at h.reached) (seats_at b) (ap (λ (r : RoundsState). r.seats) h.same))

-- what a session begins with
pub begins-keep : (s : Scenario) (first : RoundsState) → Begins s first → Keeps (first_seats s) first.seats
begins-keep s first begins =
    let round = begins.round in
    goes-keep 0 (first_seats s) first.seats
    (goes-then 0 (first_seats s) begins.followed first.seats
    (follows-goes s.schedule (first_seats s) begins.followed begins.schedule)
    (finish-goes 0 (record { seats = begins.followed; place = first_controllers }) first round))

-- ---- from the first state on

pub history-from : (s : Scenario) (last : SeatsState) → Keeps (first_seats s) last
    → IsHistoryFrom (first_state_of s) (controllers_of s) s.turns last
unfolding first_seats
history-from s last keeps =
    let first = first_seats s in let es = keeps.entries in
    let all : last.kernel.history ≡ es = ap (λ (x : SeatsState). x.kernel.history) keeps.is
    ∙ entries-history es first in
    record {
      legal = subst (λ (h : List Entry). IsLegal (outside_of first + 1) (first_state_of s) h) (sym all) keeps.legal;
      own = subst (λ (h : List Entry). AreOwnCalls (controllers_of s) h) (sym all) keeps.own;
      state = ap (λ (x : SeatsState). x.kernel.state) keeps.is ∙ entries-state es first
          ∙ ap (state_after (first_state_of s)) (sym all);
      fed = ap (λ (x : SeatsState). x.controllers) keeps.is ∙ entries-controllers es first
          ∙ ap (controllers_at (controllers_of s)) (sym all);
      places = ap (λ (x : SeatsState). x.kernel.places) keeps.is ∙ entries-places es first;
    }

-- what others than the controllers of the scenario wrote is bytes
pub others-bytes : (s : Scenario) (last : SeatsState) → Keeps (first_seats s) last
    → All (IsOtherOfBytes (length (controllers_of s))) last.kernel.history
unfolding first_seats
others-bytes s last keeps =
    let first = first_seats s in
    let all : last.kernel.history ≡ keeps.entries = ap (λ (x : SeatsState). x.kernel.history) keeps.is
    ∙ entries-history keeps.entries first in
    subst (All (IsOtherOfBytes (length (controllers_of s)))) (sym all) keeps.bytes
