use Rattle.std.proofs.Common.{◌≡◌, ◌⊎◌, append-nil, ◌∷◌, ◌++◌, ℕ, Bool, true, false, cond, List, [], Option, Some, None, IsSome, is_some, refl, sym, subst, ap, ◌∙◌, inl, inr}
use Rattle.std.proofs.lemmas.Bool.{eq-eqb, false≢true, ne_eqb}
use Rattle.std.proofs.lemmas.List.Elements.{filter_map-append}
use Rattle.std.proofs.lemmas.Option.{none-some, same_Some}
use Rattle.std.specs.List.{cons_option, slice_set}
use Rattle.pr_api.specs.Entries.{call_entry}
use Rattle.pr_model.specs.Calls.{Answer, answer_to, close_answer, close_held}
use Rattle.pr_model.specs.Handles.{after_last_close, handle_of, was_last_writer, with_closed, with_last_close}
use Rattle.pr_model.specs.Lawful.{IsLawful}
use Rattle.pr_model.specs.Legal.{IsLegalEntry, after, state_after}
use Rattle.pr_model.specs.State.{Places, TracedProcess, TracedState, TracedSystem, live_process}
use Rattle.pr_model.specs.declared.calls.Call.{Call}
use Rattle.pr_model.specs.declared.calls.Call.TheVariants as call
use Rattle.pr_model.specs.declared.calls.File.TheVariants as file
use Rattle.pr_model.specs.declared.calls.Mode.TheVariants as mode
use Rattle.pr_model.specs.declared.calls.Reply.{Reply}
use Rattle.pr_model.specs.declared.calls.Reply.TheVariants as reply
use Rattle.pr_model.specs.declared.events.Act.{Act}
use Rattle.pr_model.specs.declared.events.Act.TheVariants as act
use Rattle.pr_model.specs.declared.events.Actor.{Actor}
use Rattle.pr_model.specs.declared.events.Actor.TheVariants.{Controller, Lwp, Clock}
use Rattle.pr_model.specs.declared.events.Entry.{Entry}
use Rattle.pr_model.specs.declared.handles.Held.{Held}
use Rattle.pr_model.specs.declared.tools.ToolKind.{ToolKind}
use Rattle.pr_num.specs.declared.errnos.Errno.{Errno}
use Rattle.pr_tools.specs.Handles.{handle_at, last_open, nothing_open, places_to_last, with_handle, without_last}
use Rattle.pr_tools.specs.Replies.{is_passed_over}
use Rattle.pr_tools.specs.Tools.{ToolState, call_of, fed, first_tool, has_ended, next_call_of}
use Rattle.pr_tools.specs.declared.handles.Opened.{Opened}
use Rattle.pr_tools.specs.declared.steps.Step.{Step}
use Rattle.pr_tool_laws.proofs.Stages.KindLemmas.{refused-still}
use Rattle.pr_tool_laws.proofs.Sending.SentEffects.{Does, IsDone}
use Rattle.pr_tool_laws.proofs.Sending.SentPlaces.{sent-now, sent-still}
use Rattle.pr_tool_laws.proofs.Pstack.StackReads.{new-stands}
use Rattle.pr_tool_laws.proofs.Pstack.StackSteps.{unless-refused, with_control}
use Rattle.pr_tool_laws.proofs.Stages.StageLemmas.{state-called}
use Rattle.pr_tool_laws.proofs.OwnFiles.StandingLemmas.{IsOther, Stands, others-keep}
use Rattle.pr_tool_laws.proofs.Stages.ToolLemmas.{having_read, place-still, read-closes, still-going}
use Rattle.pr_tool_laws.specs.SentMessages.{HasActed, HasClosed, HasSent, IsClosedFreely, SendsOne}
use Rattle.pr_truss_laws.proofs.Files.OpensLemmas.{Opens, Refuses, held_by, open-opens, plain-leaves}
use Rattle.pr_truss_laws.specs.Exchanges.{Exchange, exchange_in, exchange_of, exchanges}

-- The stages of a tool that opens the control file of a process, sends one message and closes the file.

-- a handle of the control file of a process, open for writing
abbrev pub writer_of : ℕ → ℕ → Held
writer_of k pid = held_by k pid 0 file.Ctl mode.Write

-- ---- how such a tool goes on

-- its file is open, and its message comes next; it has sent it
abbrev pub at_send : ToolKind → ℕ → Step → ℕ → ToolState
at_send kind pid send number = record (first_tool kind pid) { opened = with_control number; step = send }

abbrev pub having_sent : ToolKind → ℕ → Opened → ToolState
having_sent kind pid opened = having_read kind pid opened []

pub record IsSender (kind : ToolKind) (send : Step) (bytes : List ℕ) : Type 0 where
  pub opens : (pid : ℕ) → next_call_of (first_tool kind pid) ≡ Some (call.Open pid 0 file.Ctl mode.Write)
  pub opened : (pid number : ℕ) → fed (first_tool kind pid) (reply.Handle number) ≡ at_send kind pid send number
  pub unopened : (pid : ℕ) (e : Errno) → IsSome (fed (first_tool kind pid) (reply.Fail e)).refusal
  pub sends : (pid number : ℕ) → next_call_of (at_send kind pid send number) ≡ Some (call.Ctl number bytes)
  pub counts : (e : Errno) → is_passed_over send e ≡ false
  pub sent : (pid number used : ℕ)
      → fed (at_send kind pid send number) (reply.Used used) ≡ having_sent kind pid (with_control number)

-- it closes what it opened, and makes no call after that
sent-call : (kind : ToolKind) (pid number : ℕ)
    → next_call_of (having_sent kind pid (with_control number)) ≡ Some (call.Close number)
unfolding next_call_of call_of last_open handle_at with_handle nothing_open places_to_last
sent-call kind pid number = refl

closed-fed : (kind : ToolKind) (pid number : ℕ) (r : Reply)
    → fed (having_sent kind pid (with_control number)) r ≡ having_sent kind pid nothing_open
unfolding without_last with_handle nothing_open places_to_last
closed-fed kind pid number r = read-closes kind pid (with_control number) [] r

closed-call : (kind : ToolKind) (pid : ℕ) → next_call_of (having_sent kind pid nothing_open) ≡ None
unfolding next_call_of call_of last_open handle_at nothing_open places_to_last
closed-call kind pid = refl

-- ---- exchanges

exchanges-push : (k : ℕ) (h : List Entry) (e : Entry)
    → exchanges k (h ++ e ∷ []) ≡ exchanges k h ++ cons_option (exchange_of k e) []
unfolding exchanges
exchanges-push k h e = filter_map-append (exchange_of k) h (e ∷ [])

other-exchange : (k : ℕ) (actor : Actor) (it : Act) → IsOther k actor it → exchange_in k actor it ≡ None
other-exchange k (Controller j) (act.Call c r) other = rw (ne_eqb j k other) refl
other-exchange k (Controller j) (act.Turn t) other = refl
other-exchange k (Controller j) (act.Tick m) other = refl
other-exchange k (Lwp pid id) it other = refl
other-exchange k Clock it other = refl

pub others-made : (k : ℕ) (h : List Entry) (actor : Actor) (it : Act) (xs : List Exchange) → IsOther k actor it
    → exchanges k h ≡ xs → exchanges k (h ++ (record { actor = actor; act = it }) ∷ []) ≡ xs
others-made k h actor it xs other made =
    exchanges-push k h (record { actor = actor; act = it })
    ∙ ap (λ (o : Option Exchange). exchanges k h ++ cons_option o []) (other-exchange k actor it other)
    ∙ append-nil (exchanges k h) ∙ made

abbrev pub exchange : Call → Reply → Exchange
exchange c r = record { call = c; reply = r }

pub own-made : (k : ℕ) (h : List Entry) (c : Call) (r : Reply) (xs : List Exchange) → exchanges k h ≡ xs
    → exchanges k (h ++ call_entry k c r ∷ []) ≡ xs ++ exchange c r ∷ []
own-made k h c r xs made =
    exchanges-push k h (call_entry k c r)
    ∙ ap (λ (o : Option Exchange). exchanges k h ++ cons_option o [])
    (ap (λ (b : Bool). cond b (Some (exchange c r)) None) (eq-eqb k k refl))
    ∙ ap (λ (ys : List Exchange). ys ++ exchange c r ∷ []) made

-- ---- a close

-- a close of a handle that is open
pub closed-is : (s : TracedState) (k number : ℕ) (held : Held) (a : Answer) → handle_of s.opens k number ≡ Some held
    → answer_to s k (call.Close number) ≡ Some a → a ≡ record { state = with_closed held number s; reply = reply.Done }
unfolding answer_to close_answer
closed-is s k number held a stands given = sym (same_Some _ a given) ∙ ap (close_held s number) stands

-- nothing comes of it where nothing is to come
last-same : (s : TracedSystem) (pid : ℕ) → ((p : TracedProcess) → live_process s pid ≡ Some p → IsClosedFreely p)
    → after_last_close pid (live_process s pid) s ≡ s
unfolding with_last_close
last-same s pid freely = by (live_process s pid) refl
  where
    by : (o : Option TracedProcess) → live_process s pid ≡ o → after_last_close pid o s ≡ s
    by None none = refl
    by (Some p) live = let free = freely p live in rw (free.no_kill, free.no_release) refl

closed-same : (s : TracedState) (held : Held) (number : ℕ)
    → ((p : TracedProcess) → live_process s.system held.pid ≡ Some p → IsClosedFreely p)
    → (with_closed held number s).system ≡ s.system
unfolding with_closed
closed-same s held number freely = by (was_last_writer held (slice_set s.opens number None))
  where
    by : (b : Bool)
        → cond b (after_last_close held.pid (live_process s.system held.pid) s.system) s.system ≡ s.system
    by true = last-same s.system held.pid freely
    by false = refl

module _ (n k : ℕ) (kind : ToolKind) (pid : ℕ) (send : Step) (bytes : List ℕ)
    (Becomes : TracedProcess → TracedProcess → Type 0) (sender : IsSender kind send bytes) (does : Does bytes Becomes)
    (first : TracedState) where
  abbrev pub opening : ℕ → Exchange
  opening number = exchange (call.Open pid 0 file.Ctl mode.Write) (reply.Handle number)

  abbrev pub sending : ℕ → ℕ → Exchange
  sending number used = exchange (call.Ctl number bytes) (reply.Used used)

  -- ---- the stages

  pub record IsAtFirst (h : List Entry) (s : TracedState) (t : ToolState) : Type 0 where
    pub is : t ≡ first_tool kind pid
    pub made : exchanges k h ≡ []

  pub record IsOpened (h : List Entry) (s : TracedState) (t : ToolState) : Type 0 where
    pub number : ℕ
    pub is : t ≡ at_send kind pid send number
    pub stands : Stands s.opens number (writer_of k pid)
    pub made : exchanges k h ≡ opening number ∷ []

  pub record IsSent (h : List Entry) (s : TracedState) (t : ToolState) : Type 0 where
    pub number : ℕ
    pub used : ℕ
    pub is : t ≡ having_sent kind pid (with_control number)
    pub stands : Stands s.opens number (writer_of k pid)
    pub made : exchanges k h ≡ opening number ∷ sending number used ∷ []
    pub sent : HasSent k pid bytes Becomes first h

  pub record IsClosed (h : List Entry) (s : TracedState) (t : ToolState) : Type 0 where
    pub is : t ≡ having_sent kind pid nothing_open
    pub calls : SendsOne k pid bytes h
    pub sent : HasSent k pid bytes Becomes first h
    pub closed : HasClosed k pid first h

  pub data SentStage (h : List Entry) (s : TracedState) (t : ToolState) : Type 0 where
    begins : IsAtFirst h s t → SentStage h s t
    has_opened : IsOpened h s t → SentStage h s t
    has_sent : IsSent h s t → SentStage h s t
    has_closed : IsClosed h s t → SentStage h s t
    refused : IsSome t.refusal → SentStage h s t

  pub first-stage : (s : TracedState) → SentStage [] s (first_tool kind pid)
  unfolding exchanges
  first-stage s = begins (record { is = refl; made = refl })

  -- ---- what stays so

  closed-still : (h : List Entry) (e : Entry) → HasClosed k pid first h → HasClosed k pid first (h ++ e ∷ [])
  closed-still h e it = record {
    before = it.before;
    handle = it.handle;
    after = it.after ++ e ∷ [];
    place = place-still h it.before (call_entry k (call.Close it.handle) reply.Done) it.after e it.place;
    same = it.same;
  }

  -- ---- what others do

  module _ (h : List Entry) (s : TracedState) (actor : Actor) (it : Act)
      (legal : IsLegalEntry n s (record { actor = actor; act = it })) (other : IsOther k actor it) where
    abbrev entry : Entry
    entry = record { actor = actor; act = it }

    others-stand : (number : ℕ) → Stands s.opens number (writer_of k pid)
        → Stands (after s entry).opens number (writer_of k pid)
    others-stand number stands = others-keep number (writer_of k pid) n s actor it legal other stands

    pub others-stage : (t : ToolState) → SentStage h s t → SentStage (h ++ entry ∷ []) (after s entry) t
    others-stage t (begins b) = begins (record {
      is = b.is;
      made = others-made k h actor it [] other b.made;
    })
    others-stage t (has_opened o) = has_opened (record {
      number = o.number;
      is = o.is;
      stands = others-stand o.number o.stands;
      made = others-made k h actor it (opening o.number ∷ []) other o.made;
    })
    others-stage t (has_sent o) = has_sent (record {
      number = o.number;
      used = o.used;
      is = o.is;
      stands = others-stand o.number o.stands;
      made = others-made k h actor it (opening o.number ∷ sending o.number o.used ∷ []) other o.made;
      sent = sent-still k bytes Becomes first h pid entry o.sent;
    })
    others-stage t (has_closed o) = has_closed (record {
      is = o.is;
      calls = record {
        handle = o.calls.handle;
        used = o.calls.used;
        calls = others-made k h actor it _ other o.calls.calls;
      };
      sent = sent-still k bytes Becomes first h pid entry o.sent;
      closed = closed-still h entry o.closed;
    })
    others-stage t (refused was) = refused was

  -- ---- its own calls

  module _ (h : List Entry) (c : Call) (a : Answer) (lawful : IsLawful (state_after first h))
      (given : answer_to (state_after first h) k c ≡ Some a) where
    abbrev s : TracedState
    s = state_after first h

    abbrev longer : List Entry
    longer = h ++ call_entry k c a.reply ∷ []

    abbrev Next : ToolState → Type 0
    Next t = SentStage longer a.state t

    open-stage : exchanges k h ≡ [] → next_call_of (first_tool kind pid) ≡ Some c
        → Next (fed (first_tool kind pid) a.reply)
    open-stage made next = of (open-opens s k pid 0 file.Ctl mode.Write a answers)
      where
        same : c ≡ call.Open pid 0 file.Ctl mode.Write
        same = same_Some c _ (sym next ∙ sender.opens pid)

        answers : answer_to s k (call.Open pid 0 file.Ctl mode.Write) ≡ Some a
        answers = ap (answer_to s k) (sym same) ∙ given

        of : Refuses s a.reply a.state.opens ⊎ Opens s k (writer_of k pid) a.reply a.state.opens
            → Next (fed (first_tool kind pid) a.reply)
        of (inl denied) =
            refused (subst (λ (r : Reply). IsSome (fed (first_tool kind pid) r).refusal) (sym denied.reply)
            (sender.unopened pid denied.errno))
        of (inr granted) = has_opened (record {
          number = granted.place;
          is = ap (fed (first_tool kind pid)) granted.reply ∙ sender.opened pid granted.place;
          stands = new-stands s k (writer_of k pid) refl a.reply a.state.opens granted;
          made =
              own-made k h c a.reply [] made
              ∙ ap (λ (d : Call). exchange d a.reply ∷ []) same
              ∙ ap (λ (r : Reply). exchange (call.Open pid 0 file.Ctl mode.Write) r ∷ []) granted.reply;
        })

    module _ (number : ℕ) (stands : Stands s.opens number (writer_of k pid)) where
      module _ (same : c ≡ call.Ctl number bytes) where
        its : answer_to s k (call.Ctl number bytes) ≡ Some a
        its = ap (answer_to s k) (sym same) ∙ given

        sent-stage : exchanges k h ≡ opening number ∷ [] → IsDone pid Becomes s a
            → Next (fed (at_send kind pid send number) a.reply)
        sent-stage made done = has_sent (record {
          number = number;
          used = done.used;
          is = ap (fed (at_send kind pid send number)) done.reply ∙ sender.sent pid number done.used;
          stands =
              ap (λ (x : Places). handle_of x k number) (plain-leaves s k (call.Ctl number bytes) a refl its) ∙ stands;
          made =
              own-made k h c a.reply (opening number ∷ []) made
              ∙ ap (λ (d : Call). opening number ∷ exchange d a.reply ∷ []) same
              ∙ ap (λ (r : Reply). opening number ∷ exchange (call.Ctl number bytes) r ∷ []) done.reply;
          sent = sent-now k bytes Becomes first h c a given number (writer_of k pid) same stands refl done;
        })

      send-stage : exchanges k h ≡ opening number ∷ [] → next_call_of (at_send kind pid send number) ≡ Some c
          → Next (fed (at_send kind pid send number) a.reply)
      send-stage made next =
          elim (unless-refused (at_send kind pid send number) a.reply sender.counts) [
            | inl was ↦ refused was
            | inr goes_on ↦ sent-stage same made
                (does s k number (writer_of k pid) a lawful stands refl (its same) goes_on.0)
          ]
        where
          same : c ≡ call.Ctl number bytes
          same = same_Some c _ (sym next ∙ sender.sends pid number)

      close-stage : (used : ℕ) → exchanges k h ≡ opening number ∷ sending number used ∷ []
          → HasSent k pid bytes Becomes first h
          → next_call_of (having_sent kind pid (with_control number)) ≡ Some c
          → Next (fed (having_sent kind pid (with_control number)) a.reply)
      close-stage used made sent next =
          has_closed (record {
            is = closed-fed kind pid number a.reply;
            calls = record {
              handle = number;
              used = used;
              calls =
                  own-made k h c a.reply (opening number ∷ sending number used ∷ []) made
                  ∙ ap (λ (d : Call). opening number ∷ sending number used ∷ exchange d a.reply ∷ []) same
                  ∙ ap (λ (r : Reply). opening number ∷ sending number used ∷ exchange (call.Close number) r ∷ []) done;
            };
            sent = sent-still k bytes Becomes first h pid (call_entry k c a.reply) sent;
            closed = record {
              before = h;
              handle = number;
              after = [];
              place = ap (λ (e : Entry). h ++ e ∷ []) entry-is;
              same = λ freely.
                  ap (λ (x : TracedState). x.system) state-is ∙ ap (λ (x : Answer). x.state.system) answer
                  ∙ closed-same s (writer_of k pid) number freely;
            };
          })
        where
          same : c ≡ call.Close number
          same = same_Some c _ (sym next ∙ sent-call kind pid number)

          answer : a ≡ record { state = with_closed (writer_of k pid) number s; reply = reply.Done }
          answer =
              closed-is s k number (writer_of k pid) a stands (ap (answer_to s k) (sym same) ∙ given)

          done : a.reply ≡ reply.Done
          done = ap (λ (x : Answer). x.reply) answer

          entry-is : call_entry k c a.reply ≡ call_entry k (call.Close number) reply.Done
          entry-is =
              ap (λ (d : Call). call_entry k d a.reply) same
              ∙ ap (λ (r : Reply). call_entry k (call.Close number) r) done

          state-is : state_after first (h ++ call_entry k (call.Close number) reply.Done ∷ []) ≡ a.state
          state-is =
              ap (λ (e : Entry). state_after first (h ++ e ∷ [])) (sym entry-is) ∙ state-called first h k c a given

    pub called-stage : (t : ToolState) → next_call_of t ≡ Some c → SentStage h s t → Next (fed t a.reply)
    called-stage t next (begins b) =
        let Q : ToolState → Type 0 = λ u. next_call_of u ≡ Some c → Next (fed u a.reply) in
        subst Q (sym b.is) (open-stage b.made) next
    called-stage t next (has_opened o) =
        let Q : ToolState → Type 0 = λ u. next_call_of u ≡ Some c → Next (fed u a.reply) in
        subst Q (sym o.is) (send-stage o.number o.stands o.made) next
    called-stage t next (has_sent o) =
        let Q : ToolState → Type 0 = λ u. next_call_of u ≡ Some c → Next (fed u a.reply) in
        subst Q (sym o.is) (close-stage o.number o.stands o.used o.made o.sent) next
    called-stage t next (has_closed o) =
        absurd (none-some c (sym (closed-call kind pid) ∙ ap next_call_of (sym o.is) ∙ next))
    called-stage t next (refused was) = refused (refused-still t a.reply was)

  -- ---- the end

  pub ended-stage : (h : List Entry) (t : ToolState) → has_ended t ≡ true → t.refusal ≡ None
      → SentStage h (state_after first h) t → HasActed k pid bytes Becomes first h
  ended-stage h t ended accepted (begins b) =
      absurd (still-going t _ (ap next_call_of b.is ∙ sender.opens pid) ended)
  ended-stage h t ended accepted (has_opened o) =
      absurd (still-going t _ (ap next_call_of o.is ∙ sender.sends pid o.number) ended)
  ended-stage h t ended accepted (has_sent o) =
      absurd (still-going t _ (ap next_call_of o.is ∙ sent-call kind pid o.number) ended)
  ended-stage h t ended accepted (has_closed o) =
      record { calls = o.calls; sent = o.sent; closed = o.closed }
  ended-stage h t ended accepted (refused was) = absurd (false≢true (sym (ap is_some accepted) ∙ was))
