use Rattle.std.proofs.Common.{◌≡◌, ◌<◌, ◌≤◌, ◌++◌, ◌&&◌, ◌⊎◌, inl, inr, ℕ, suc, Bool, true, false, List, [], ◌∷◌}
use Rattle.std.proofs.Common.{Some, None, codes, drop, is_some, length, refl, sym, ap, subst, ◌∙◌, arith}
use Rattle.std.proofs.Common.{append_assoc, append-nil, length-append}
use Rattle.std.proofs.lemmas.Bool.{and_parts, le-ltb, lt-ltb, ltb-true}
use Rattle.std.specs.List.{list_any}
use Rattle.std.specs.Option.{ForSome}
use Rattle.pr_api.specs.Entries.{call_entry, last_reply_of}
use Rattle.pr_asks.specs.Replies.{count_line, reply_line}
use Rattle.pr_model.specs.Calls.{answer_to}
use Rattle.pr_model.specs.declared.calls.Call.{Call}
use Rattle.pr_model.specs.declared.events.Actor.{Actor}
use Rattle.pr_model.specs.declared.events.Entry.{Entry}
use Rattle.pr_plain.specs.HistoryText.{entries_text}
use Rattle.pr_scen.specs.Scripts.{ScriptState, fed, next_call_of}
use Rattle.pr_world.proofs.MoveLemmas.{last-reply}
use Rattle.pr_world.specs.Controllers.{wait_end_of}
use Rattle.pr_drive.specs.Exchanges.{AnswersCall, AnswersMessages, AnswersNext, GoesFor, GoesUntil, GaveUp}
use Rattle.pr_drive.specs.Exchanges.{HasNoneReady, IsNever, Made}
use Rattle.pr_drive.specs.Exchanges.{CallsIf, CallsNone, MadeMessage, MadeMessages, MadeNext, MovesNot, MovesOne}
use Rattle.pr_drive.specs.Exchanges.{MovesOthers, NoneReadyBefore, RunsOthers, Waited, WaitsFor}
use Rattle.pr_drive.specs.Exchanges.{WaitsIf, Writes, all_of, came_text, is_answered_now, is_open, polls_of, wait_of}
use Rattle.pr_drive.specs.Going.{Called, Moved, MovesIf, NobodyMoves, NoneCanMove, SeatsState, Stayed, has_place}
use Rattle.pr_drive.specs.Going.{outside_of}
use Rattle.pr_drive.specs.Rounds.{AreStepsOn, FinishesRound, GoesOnIf, GoesRound, IsAtRest, IsStepOn, MovesOn}
use Rattle.pr_drive.specs.Rounds.{RoundsState, after_step, after_steps}
use Rattle.pr_drive.proofs.EntryLemmas.{Goes, goes-count, goes-places}
use Rattle.pr_drive.proofs.HandleLemmas.{has-ready, moves-open, none-ready}
use Rattle.pr_drive.proofs.RoundLemmas.{full-rest}
use Rattle.pr_drive.proofs.StepLemmas.{GoneSoFar, after-push, finish-goes, for-seats, gone-history, on-go, push-on}
use Rattle.pr_drive.proofs.StepLemmas.{until-seats, waits-goes}

-- What a session does for a line, from what its rounds do.

-- ---- waits

pub no_place : (s : SeatsState) (n : ℕ) → s.kernel.places ≤ n → n ≤ length s.kernel.history → has_place s ≡ false
no_place s n past far = le-ltb (length s.kernel.history) s.kernel.places (omega (arith, past, far))

-- what is not answered is not ready, or there is no place for it
unanswered : (c : Call) (s : SeatsState) → is_answered_now c s ≡ false → (has_place s ≡ false)
    ⊎ (is_some (answer_to s.kernel.state (outside_of s) c) ≡ false)
unanswered c s h = of (has_place s) refl h
  where
    of : (place : Bool) → has_place s ≡ place → (place && is_some (answer_to s.kernel.state (outside_of s) c)) ≡ false
        → (has_place s ≡ false) ⊎ (is_some (answer_to s.kernel.state (outside_of s) c) ≡ false)
    of true is fails = inr fails
    of false is fails = inl is

is-never : (c : Call) (s : SeatsState) → is_answered_now c s ≡ false → NobodyMoves (wait_end_of c) s → IsNever c s
is-never c s fails nobody = record { cases = of (unanswered c s fails) nobody.cases }
  where
    of : (has_place s ≡ false) ⊎ (is_some (answer_to s.kernel.state (outside_of s) c) ≡ false) → (has_place s ≡ false)
        ⊎ NoneCanMove (wait_end_of c) s → (has_place s ≡ false)
        ⊎ ((is_some (answer_to s.kernel.state (outside_of s) c) ≡ false) × NoneCanMove (wait_end_of c) s)
    of (inl full) b = inl full
    of (inr not_ready) (inl full) = inl full
    of (inr not_ready) (inr none) = inr (not_ready, none)

-- rounds so far, and how many entries there are at least
pub record WaitedSoFar (c : Call) (a b : RoundsState) : Type 0 where
  pub rounds : ℕ
  pub waits : WaitsFor rounds c a b

pub waited-none : (c : Call) (a : RoundsState) → WaitedSoFar c a a
waited-none c a = record { rounds = 0; waits = refl }

-- one round more
pub waited-more : (u : ℕ) (c : Call) (a b d : RoundsState) → u ≡ wait_end_of c → WaitedSoFar c a b
    → is_answered_now c b.seats ≡ false → GoesRound u b d → WaitedSoFar c a d
waited-more u c a b d is far fails round = record {
  rounds = suc far.rounds;
  waits = (b, (far.waits, (fails, subst (λ (v : ℕ). GoesRound v b d) is round)));
}

-- the call is ready
pub waited-ready : (c : Call) (a b : RoundsState) → WaitedSoFar c a b → is_answered_now c b.seats ≡ true → Waited c a b
waited-ready c a b far holds =
    let parts = and_parts (has_place b.seats) (is_some (answer_to b.seats.kernel.state (outside_of b.seats) c)) holds in
    record {
      rounds = far.rounds;
      waits = far.waits;
      ready = record
          { place = ltb-true (length b.seats.kernel.history) b.seats.kernel.places parts.0; answered = parts.1 };
    }

-- it is not, and nobody can move
pub waited-never : (u : ℕ) (c : Call) (a b d : RoundsState) → u ≡ wait_end_of c → WaitedSoFar c a b
    → is_answered_now c b.seats ≡ false → IsAtRest u b d → GaveUp c a d
waited-never u c a b d is far fails rests =
    let here : IsAtRest (wait_end_of c) b d = subst (λ (v : ℕ). IsAtRest v b d) is rests in
    record {
      rounds = far.rounds;
      last = b;
      waits = far.waits;
      rests = here;
      never = is-never c d.seats (ap (is_answered_now c) here.same ∙ fails) here.nobody;
    }

-- all places are taken
pub waited-full : (c : Call) (a b : RoundsState) → WaitedSoFar c a b
    → b.seats.kernel.places ≤ length b.seats.kernel.history → GaveUp c a b
waited-full c a b far full =
    let none = no_place b.seats b.seats.kernel.places (omega arith) full in
    waited-never (wait_end_of c) c a b b refl far
    (ap (λ (x : Bool). x && is_some (answer_to b.seats.kernel.state (outside_of b.seats) c)) none)
    (full-rest (wait_end_of c) b full)

pub waited-places : (c : Call) (a b : RoundsState) → WaitedSoFar c a b → b.seats.kernel.places ≡ a.seats.kernel.places
waited-places c a b far = goes-places (wait_end_of c) a.seats b.seats (waits-goes far.rounds c a b far.waits)

pub waits-true : (ready : Bool) (c : Call) (a b : RoundsState) → ready ≡ true → WaitsIf ready c a b → Waited c a b
waits-true ready c a b is h = subst (λ (r : Bool). WaitsIf r c a b) is h

pub waits-false : (ready : Bool) (c : Call) (a b : RoundsState) → ready ≡ false → WaitsIf ready c a b → GaveUp c a b
waits-false ready c a b is h = subst (λ (r : Bool). WaitsIf r c a b) is h

-- ---- calls

-- the last reply is that of the call
pub called-reply : (c : Call) (a b : SeatsState) (called : Called c a b)
    → last_reply_of b.kernel.history ≡ Some called.answer.reply
called-reply c a b called = ap (λ (s : SeatsState). last_reply_of s.kernel.history) called.is
    ∙ last-reply a.kernel.history (outside_of a) c called.answer.reply

pub called-count : (c : Call) (a b : SeatsState) → Called c a b → length a.kernel.history < length b.kernel.history
called-count c a b called =
    let all : b.kernel.history ≡ a.kernel.history ++ call_entry (outside_of a) c called.answer.reply ∷ [] = ap
    (λ (s : SeatsState). s.kernel.history) called.is in
    omega (arith, ap length all, length-append a.kernel.history (call_entry (outside_of a) c called.answer.reply ∷ []))

pub called-places : (c : Call) (a b : SeatsState) → Called c a b → b.kernel.places ≡ a.kernel.places
called-places c a b called = ap (λ (s : SeatsState). s.kernel.places) called.is

pub makes-one : (c : Call) (a b d : RoundsState) → Waited c a b → Called c b.seats d.seats → d.place ≡ b.place
    → Made c a d
makes-one c a b d waited called place = record
    { rounds = waited.rounds; ready = b; waits = waited.waits; called = called; place = place }

made-goes : (c : Call) (a b : RoundsState) (made : Made c a b) → Goes (wait_end_of c) a.seats made.ready.seats
made-goes c a b made = waits-goes made.rounds c a made.ready made.waits

pub made-true : (made : Bool) (c : Call) (a b : RoundsState) → made ≡ true → CallsIf made c a b → Made c a b
made-true made c a b is h = subst (λ (m : Bool). CallsIf m c a b) is h

pub made-false : (made : Bool) (c : Call) (a b : RoundsState) → made ≡ false → CallsIf made c a b → GaveUp c a b
made-false made c a b is h = subst (λ (m : Bool). CallsIf m c a b) is h

pub made-written : (c : Call) (a b : RoundsState) (before after : List ℕ) → Made c a b
    → ForSome (last_reply_of b.seats.kernel.history) (λ reply. after ≡ before ++ reply_line reply)
    → Writes before after (AnswersCall true c a b)
made-written c a b before after made told = record {
  text = reply_line made.called.answer.reply;
  written = told made.called.answer.reply (called-reply c made.ready.seats b.seats made.called);
  is = record { made = made; reply = refl };
}

pub never-written : (c : Call) (a b : RoundsState) (before after : List ℕ) → GaveUp c a b
    → after ≡ before ++ codes "never\n" → Writes before after (AnswersCall false c a b)
never-written c a b before after gave_up told = record
    { text = codes "never\n"; written = told; is = record { gave_up = gave_up; reply = refl } }

-- ---- messages

pub next-none : (script after : ScriptState) (s : RoundsState) (before : List ℕ) → next_call_of script ≡ None
    → Writes before before (AnswersNext false script after s s)
next-none script after s before none = record
    { text = []; written = sym (append-nil before); is = inl (record { ended = none; same = refl; nothing = refl }) }

pub next-never : (made : Bool) (script after : ScriptState) (a b : RoundsState) (c : Call) (before behind : List ℕ)
    → made ≡ false → next_call_of script ≡ Some c → Writes before behind (AnswersCall made c a b)
    → Writes before behind (AnswersNext false script after a b)
next-never made script after a b c before behind is next h =
    let back : AnswersCall false c a b h.text = subst (λ (m : Bool). AnswersCall m c a b h.text) is h.is in
    record { text = h.text; written = h.written; is = inr (record { call = c; next = next; taken_back = back }) }

pub next-made : (made : Bool) (script after : ScriptState) (a b : RoundsState) (c : Call) (before behind : List ℕ)
    → made ≡ true → next_call_of script ≡ Some c → Writes before behind (AnswersCall made c a b)
    → ForSome (last_reply_of b.seats.kernel.history) (λ reply. after ≡ fed script reply)
    → Writes before behind (AnswersNext true script after a b)
next-made made script after a b c before behind is next h got =
    let call : AnswersCall true c a b h.text = subst (λ (m : Bool). AnswersCall m c a b h.text) is h.is in
    record {
      text = h.text;
      written = h.written;
      is = record {
        call = c;
        next = next;
        made = call;
        got = got call.made.called.answer.reply
            (called-reply c call.made.ready.seats b.seats call.made.called);
      };
    }

-- so far: these calls were made, and their replies are written
pub record MadeSoFar (script now : ScriptState) (a b : RoundsState) (before after : List ℕ) : Type 0 where
  pub texts : List (List ℕ)
  pub made : MadeMessages script now a b texts
  pub written : after ≡ before ++ all_of texts
  pub places : b.seats.kernel.places ≡ a.seats.kernel.places

pub made-none : (script : ScriptState) (a : RoundsState) (before : List ℕ) → MadeSoFar script script a a before before
made-none script a before = record { texts = []; made = (refl, refl); written = sym (append-nil before); places = refl }

messages-push : (texts : List (List ℕ)) (script now after : ScriptState) (a b d : RoundsState) (text : List ℕ)
    → MadeMessages script now a b texts → MadeMessage now after b d text
    → MadeMessages script after a d (texts ++ text ∷ [])
messages-push [] script now after a b d text made one = (
  after,
  d,
  (
    subst (λ (s : ScriptState). MadeMessage s after a d text) made.0
        (subst (λ (s : RoundsState). MadeMessage now after s d text) made.1 one),
    (refl, refl),
  ),
)
messages-push (t ∷ texts) script now after a b d text made one =
    (made.0, made.1, (made.2.0, messages-push texts made.0 now after made.1 b d text made.2.1 one))

all-push : (texts : List (List ℕ)) (text : List ℕ) → all_of (texts ++ text ∷ []) ≡ all_of texts ++ text
all-push [] text = append-nil text
all-push (t ∷ texts) text = ap (λ (r : List ℕ). t ++ r) (all-push texts text) ∙ sym (append_assoc t (all_of texts) text)

pub made-more : (made : Bool) (script now after : ScriptState) (a b d e : RoundsState) (before middle behind : List ℕ)
    → made ≡ true → MadeSoFar script now a b before middle → Writes middle behind (AnswersNext made now after b d)
    → (until : ℕ) → until ≡ wait_of (next_call_of after) → FinishesRound until d e
    → MadeSoFar script after a e before behind
made-more made script now after a b d e before middle behind is far h until waits round =
    let one : MadeNext now after b d h.text = subst (λ (m : Bool). AnswersNext m now after b d h.text) is h.is in
    let there : MadeMessage now after b e h.text = record
    { made = d; next = one; round = subst (λ (u : ℕ). FinishesRound u d e) waits round } in
    record {
      texts = far.texts ++ h.text ∷ [];
      made = messages-push far.texts script now after a b e h.text far.made there;
      written = h.written ∙ ap (λ (r : List ℕ). r ++ h.text) far.written ∙ append_assoc before (all_of far.texts) h.text
          ∙ ap (λ (r : List ℕ). before ++ r) (sym (all-push far.texts h.text));
      places =
          goes-places until d.seats e.seats (finish-goes until d e round)
          ∙ called-places one.call one.made.made.ready.seats d.seats one.made.made.called
          ∙ goes-places (wait_end_of one.call) b.seats one.made.made.ready.seats (made-goes one.call b d one.made.made)
          ∙ far.places;
    }

-- a message adds an entry at least
pub next-count : (made : Bool) (now after : ScriptState) (b d : RoundsState) (middle behind : List ℕ) → made ≡ true
    → Writes middle behind (AnswersNext made now after b d)
    → length b.seats.kernel.history < length d.seats.kernel.history
next-count made now after b d middle behind is h =
    let one : MadeNext now after b d h.text = subst (λ (m : Bool). AnswersNext m now after b d h.text) is h.is in
    omega (
      arith,
      goes-count (wait_end_of one.call) b.seats one.made.made.ready.seats (made-goes one.call b d one.made.made),
      called-count one.call one.made.made.ready.seats d.seats one.made.made.called,
    )

pub messages-end : (made : Bool) (script now after : ScriptState) (a b d : RoundsState) (before middle behind : List ℕ)
    → made ≡ false → MadeSoFar script now a b before middle → Writes middle behind (AnswersNext made now after b d)
    → Writes before behind (AnswersMessages script a d)
messages-end made script now after a b d before middle behind is far h =
    let last : CallsNone now b d h.text = subst (λ (m : Bool). AnswersNext m now after b d h.text) is h.is in
    record {
      text = all_of far.texts ++ h.text;
      written = h.written ∙ ap (λ (r : List ℕ). r ++ h.text) far.written
          ∙ append_assoc before (all_of far.texts) h.text;
      is = record
          { replies = far.texts; after = now; reached = b; made = far.made; last = h.text; end = last; whole = refl };
    }

-- where all places are taken no message is made
pub messages-full : (made : Bool) (script now after : ScriptState) (a b d : RoundsState) (before middle behind : List ℕ)
    (n : ℕ) → a.seats.kernel.places ≤ n → n ≤ length b.seats.kernel.history → MadeSoFar script now a b before middle
    → Writes middle behind (AnswersNext made now after b d) → Writes before behind (AnswersMessages script a d)
messages-full true script now after a b d before middle behind n past full far h =
    let one : MadeNext now after b d h.text = h.is in
    let ready = one.made.made.ready in
    let place : length ready.seats.kernel.history < ready.seats.kernel.places = one.made.made.called.place in
    let goes = made-goes one.call b d one.made.made in
    absurd (omega (
      arith,
      place,
      goes-count (wait_end_of one.call) b.seats ready.seats goes,
      goes-places (wait_end_of one.call) b.seats ready.seats goes,
      far.places,
      past,
      full,
    ))
messages-full false script now after a b d before middle behind n past full far h = messages-end false script now after
    a b d before middle behind refl far h

-- ---- moves of others

drop-front : (xs ys : List Entry) → drop (length xs) (xs ++ ys) ≡ ys
drop-front [] ys = refl
drop-front (x ∷ xs) ys = drop-front xs ys

pub told-from : (a b : SeatsState) (es : List Entry) (from : ℕ) → from ≡ length a.kernel.history
    → b.kernel.history ≡ a.kernel.history ++ es
    → entries_text from (drop from b.kernel.history) ++ count_line (length b.kernel.history) ≡ came_text a b es
told-from a b es from is all =
    ap (λ (n : ℕ). entries_text n (drop n b.kernel.history) ++ count_line (length b.kernel.history)) is
    ∙ ap (λ (h : List Entry). entries_text (length a.kernel.history) h ++ count_line (length b.kernel.history))
    (ap (drop (length a.kernel.history)) all ∙ drop-front a.kernel.history es)

-- what is told of moves
abbrev pub Tells : ℕ → SeatsState → List ℕ → List ℕ → Type 0
Tells from b before after =
    after ≡ before ++ (entries_text from (drop from b.kernel.history) ++ count_line (length b.kernel.history))

pub others-told : (times : ℕ) (a b : RoundsState) (from : ℕ) (before after : List ℕ)
    → from ≡ length a.seats.kernel.history → GoesFor times a b → Tells from b.seats before after
    → Writes before after (MovesOthers times a b)
others-told times a b from before after is moves told = record {
  text = came_text a.seats b.seats moves.entries;
  written = told
      ∙ ap (λ (r : List ℕ). before ++ r)
      (told-from a.seats b.seats moves.entries from is
      (gone-history moves.entries a b moves.steps (for-seats times a b moves)));
  is = record { moves = moves; told = refl };
}

pub run-told : (a b : RoundsState) (from : ℕ) (before after : List ℕ) → from ≡ length a.seats.kernel.history
    → GoesUntil a b → Tells from b.seats before after → Writes before after (RunsOthers a b)
run-told a b from before after is moves told = record {
  text = came_text a.seats b.seats moves.entries;
  written = told
      ∙ ap (λ (r : List ℕ). before ++ r)
      (told-from a.seats b.seats moves.entries from is
      (gone-history moves.entries a b moves.steps (until-seats a b moves)));
  is = record { moves = moves; told = refl };
}

pub one-told : (actor : Actor) (moved : Bool) (a b : RoundsState) (from : ℕ) (before after : List ℕ) → moved ≡ true
    → from ≡ length a.seats.kernel.history → b.place ≡ a.place → MovesIf moved 0 actor a.seats b.seats
    → Tells from b.seats before after → Writes before after (λ text. MovesOne actor a b text ⊎ MovesNot actor a b text)
one-told actor moved a b from before after yes_moved is place h told =
    let one : Moved 0 actor a.seats b.seats = subst (λ (m : Bool). MovesIf m 0 actor a.seats b.seats) yes_moved h in
    let all : b.seats.kernel.history ≡ a.seats.kernel.history ++ one.entry ∷ [] = ap
    (λ (s : SeatsState). s.kernel.history) one.is in
    record {
      text = came_text a.seats b.seats (one.entry ∷ []);
      written = told ∙ ap (λ (r : List ℕ). before ++ r) (told-from a.seats b.seats (one.entry ∷ []) from is all);
      is = inl (record { moved = one; place = place; told = refl });
    }

pub none-told : (actor : Actor) (moved : Bool) (a b : RoundsState) (before after : List ℕ) → moved ≡ false
    → b.place ≡ a.place → MovesIf moved 0 actor a.seats b.seats → after ≡ before ++ codes "no\n"
    → Writes before after (λ text. MovesOne actor a b text ⊎ MovesNot actor a b text)
none-told actor moved a b before after not_moved place h told =
    let none : Stayed 0 actor a.seats b.seats = subst (λ (m : Bool). MovesIf m 0 actor a.seats b.seats) not_moved h in
    record { text = codes "no\n"; written = told; is = inr (record { stayed = none; place = place; told = refl }) }

pub on-true : (moved : Bool) (a b : RoundsState) → moved ≡ true → GoesOnIf moved 0 a b → MovesOn 0 a b
on-true moved a b is h = subst (λ (m : Bool). GoesOnIf m 0 a b) is h

pub on-false : (moved : Bool) (a b : RoundsState) → moved ≡ false → GoesOnIf moved 0 a b → IsAtRest 0 a b
on-false moved a b is h = subst (λ (m : Bool). GoesOnIf m 0 a b) is h

pub gone-rest : (n times : ℕ) (a b c : RoundsState) → n < times → GoneSoFar n a b → IsAtRest 0 b c → GoesFor times a c
gone-rest n times a b c within far rest = record {
  entries = far.entries;
  steps = far.steps;
  end = inr
      (record {
        fewer = omega (arith, far.count, within);
        rests = subst (λ (r : RoundsState). IsAtRest 0 r c) far.is
            rest;
      });
}

pub gone-all : (n times : ℕ) (a b : RoundsState) → n ≤ times → times ≤ n → GoneSoFar n a b → GoesFor times a b
gone-all n times a b within past far = record {
  entries = far.entries;
  steps = far.steps;
  end = inl (record { all = omega (arith, far.count, within, past); is = far.is });
}

-- ---- until a file is ready

-- moves so far, before each of which none was ready
pub record UnreadySoFar (a b : RoundsState) : Type 0 where
  pub entries : List Entry
  pub steps : AreStepsOn 0 a entries
  pub before : NoneReadyBefore a entries
  pub is : b ≡ after_steps entries a

pub unready-none : (a : RoundsState) → UnreadySoFar a a
unready-none a = record { entries = []; steps = tt; before = tt; is = refl }

before-push : (es : List Entry) (e : Entry) (r : RoundsState) → NoneReadyBefore r es
    → HasNoneReady (after_steps es r).seats → NoneReadyBefore r (es ++ e ∷ [])
before-push [] e r before one = (one, tt)
before-push (x ∷ es) e r before one = (before.0, before-push es e (after_step x r) before.1 one)

-- the files that are open stay so
unready-open : (a b : RoundsState) → UnreadySoFar a b → (m : ℕ) → is_open b.seats m ≡ is_open a.seats m
unready-open a b far m =
    let goes = on-go 0 far.entries a far.steps in
    ap (λ (r : RoundsState). is_open r.seats m) far.is ∙ ap (λ (s : SeatsState). is_open s m) goes.is
    ∙ moves-open 0 goes.entries a.seats goes.moves m

pub unready-more : (polls : List Call) (ready : Bool) (a b c : RoundsState) → polls ≡ polls_of a.seats
    → ready ≡ list_any (λ call. is_answered_now call b.seats) polls → ready ≡ false
    → UnreadySoFar a b → MovesOn 0 b c → UnreadySoFar a c
unready-more polls ready a b c all is fails far one =
    let place : has_place b.seats ≡ true = lt-ltb (length b.seats.kernel.history) b.seats.kernel.places
    one.step.move.place in
    let none : HasNoneReady b.seats =
    none-ready a.seats b.seats (unready-open a b far) polls all (sym is ∙ fails) place in
    record {
      entries = far.entries ++ one.entry ∷ [];
      steps = push-on 0 far.entries one.entry a far.steps
          (subst (λ (r : RoundsState). IsStepOn 0 r one.entry) far.is one.step);
      before = before-push far.entries one.entry a far.before
          (subst (λ (r : RoundsState). HasNoneReady r.seats) far.is none);
      is = one.is ∙ ap (after_step one.entry) far.is ∙ sym (after-push far.entries one.entry a);
    }

pub until-ready : (polls : List Call) (ready : Bool) (a b : RoundsState) → polls ≡ polls_of a.seats
    → ready ≡ list_any (λ call. is_answered_now call b.seats) polls → ready ≡ true
    → UnreadySoFar a b → GoesUntil a b
until-ready polls ready a b all is holds far = record {
  entries = far.entries;
  steps = far.steps;
  before = far.before;
  over = inl
      (record { ready = has-ready a.seats b.seats (unready-open a b far) polls all (sym is ∙ holds); is = far.is });
}

-- where nobody could move and none was ready; where there is no place
stopped-at : (a b c : RoundsState) (far : UnreadySoFar a b) → IsAtRest 0 b c → (has_place b.seats ≡ false)
    ⊎ HasNoneReady b.seats → GoesUntil a c
stopped-at a b c far rest none = record {
  entries = far.entries;
  steps = far.steps;
  before = far.before;
  over = inr
      (record {
        rests = subst (λ (r : RoundsState). IsAtRest 0 r c) far.is rest;
        unready = subst (λ (s : SeatsState). (has_place s ≡ false) ⊎ HasNoneReady s) (sym rest.same) none;
      });
}

pub until-rest : (polls : List Call) (ready : Bool) (a b c : RoundsState) → polls ≡ polls_of a.seats
    → ready ≡ list_any (λ call. is_answered_now call b.seats) polls → ready ≡ false
    → UnreadySoFar a b → IsAtRest 0 b c → GoesUntil a c
until-rest polls ready a b c all is fails far rest = stopped-at a b c far rest (of (has_place b.seats) refl)
  where
    of : (place : Bool) → has_place b.seats ≡ place → (has_place b.seats ≡ false) ⊎ HasNoneReady b.seats
    of true place = inr (none-ready a.seats b.seats (unready-open a b far) polls all (sym is ∙ fails) place)
    of false full = inl full

pub until-full : (a b : RoundsState) → UnreadySoFar a b → b.seats.kernel.places ≤ length b.seats.kernel.history
    → GoesUntil a b
until-full a b far full =
    stopped-at a b b far (full-rest 0 b full) (inl (le-ltb (length b.seats.kernel.history) b.seats.kernel.places full))

pub unready-places : (a b : RoundsState) → UnreadySoFar a b → b.seats.kernel.places ≡ a.seats.kernel.places
unready-places a b far =
    ap (λ (r : RoundsState). r.seats.kernel.places) far.is
    ∙ goes-places 0 a.seats (after_steps far.entries a).seats (on-go 0 far.entries a far.steps)
