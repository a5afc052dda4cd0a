use Rattle.std.proofs.Common.{◌≡◌, ◌⊎◌, ◌∷◌, ◌++◌, ◌∙◌, ℕ, Bool, true, false, cond, not, List, [], Option, Some, None, IsSome, find, is_some, take, refl, sym, subst, ap, inl, inr}
use Rattle.std.proofs.lemmas.Bool.{false≢true}
use Rattle.std.proofs.lemmas.Option.{none-some, same_Some}
use Rattle.std.specs.List.{list_all}
use Rattle.pr_api.specs.Entries.{call_entry}
use Rattle.pr_lawful.proofs.ProcessParts.FileLemmas.{choice}
use Rattle.pr_model.specs.Calls.{Answer, answer_to, answered, interrupted_answer, is_interrupted, is_open_by, is_polled_ready, poll_answer, ready_answer, refused as denied, with_interrupt_seen}
use Rattle.pr_model.specs.Handles.{handle_of, with_closed}
use Rattle.pr_model.specs.Legal.{IsLegalEntry, after, state_after}
use Rattle.pr_model.specs.Reads.{file_read, read_reply}
use Rattle.pr_model.specs.State.{Places, TracedState}
use Rattle.pr_model.specs.declared.calls.Call.{Call}
use Rattle.pr_model.specs.declared.calls.Call.TheVariants as call
use Rattle.pr_model.specs.declared.calls.Mode.TheVariants as mode
use Rattle.pr_model.specs.declared.calls.Reply.{Reply}
use Rattle.pr_model.specs.declared.calls.Reply.TheVariants as reply
use Rattle.pr_model.specs.declared.events.Act.{Act}
use Rattle.pr_model.specs.declared.events.Actor.{Actor}
use Rattle.pr_model.specs.declared.events.Entry.{Entry}
use Rattle.pr_model.specs.declared.handles.Held.{Held}
use Rattle.pr_model.specs.declared.tools.ToolKind.{ToolKind}
use Rattle.pr_num.specs.Limits.{read_limit}
use Rattle.pr_num.specs.declared.errnos.Errno.{Errno}
use Rattle.pr_num.specs.declared.errnos.Errno.TheVariants.{Badf}
use Rattle.pr_tools.specs.Handles.{handle_at, last_open, nothing_open, places_to_last, with_handle, without_last}
use Rattle.pr_tools.specs.Replies.{is_passed_over, refusal_in}
use Rattle.pr_tools.specs.Steps.{after as step_after, file_of, record_room}
use Rattle.pr_tools.specs.Tools.{ToolState, call_of, fed, first_tool, has_ended, next_call_of}
use Rattle.pr_tools.specs.declared.steps.Step.{Step}
use Rattle.pr_tools.specs.declared.steps.Step.TheVariants as step
use Rattle.pr_tool_laws.proofs.OwnFiles.StandingLemmas.{IsOther, Stands, others-keep}
use Rattle.pr_tool_laws.proofs.Pstack.StackReads.{new-stands}
use Rattle.pr_tool_laws.proofs.Sending.SentStages.{closed-is, exchange, others-made, own-made}
use Rattle.pr_tool_laws.proofs.Stages.KindLemmas.{refused-still}
use Rattle.pr_tool_laws.proofs.Stages.ReaderLemmas.{HasAwaited, IsRead, IsReader, first-call, handle-read, open-refused, opened-fed, read-call, read-fed, read-refused, reply-read, wait-call, wait-fed, with_file, with_record_open}
use Rattle.pr_tool_laws.proofs.Stages.StageLemmas.{held_by_tool, same-answer}
use Rattle.pr_tool_laws.proofs.Stages.ToolLemmas.{WasRefused, having_read, read-closes, still-going}
use Rattle.pr_truss_laws.proofs.Files.OpensLemmas.{Opens, Refuses, open-opens, plain-leaves}
use Rattle.pr_truss_laws.specs.Exchanges.{Exchange, exchanges}

-- The stages of a tool that opens one file, reads it once and closes it, with all its calls so far.

-- ---- its calls

-- it closes what it opened, and makes no call after that
closing-call : (kind : ToolKind) (pid number : ℕ) (bytes : List ℕ)
    → next_call_of (having_read kind pid (with_record_open number) bytes) ≡ Some (call.Close number)
unfolding next_call_of call_of last_open handle_at with_handle nothing_open places_to_last
closing-call kind pid number bytes = refl

closing-fed : (kind : ToolKind) (pid number : ℕ) (bytes : List ℕ) (r : Reply)
    → fed (having_read kind pid (with_record_open number) bytes) r ≡ having_read kind pid nothing_open bytes
unfolding without_last with_handle nothing_open places_to_last
closing-fed kind pid number bytes r = read-closes kind pid (with_record_open number) bytes r

pub over-call : (kind : ToolKind) (pid : ℕ) (bytes : List ℕ)
    → next_call_of (having_read kind pid nothing_open bytes) ≡ None
unfolding next_call_of call_of last_open handle_at nothing_open places_to_last
over-call kind pid bytes = refl

-- ---- a poll of one handle

-- it answers that handle, or is refused
abbrev IsPolled : ℕ → Option Answer → Type 0
IsPolled number o =
    (a : Answer) → o ≡ Some a → (a.reply ≡ reply.Ready number) ⊎ ((e : Errno) × (a.reply ≡ reply.Fail e))

refused-polls : (s t : TracedState) (number : ℕ) (e : Errno) → IsPolled number (Some (denied t e))
refused-polls s t number e a is = inr (e, ap (λ (x : Answer). x.reply) (sym (same_Some _ a is)))

ready-polls : (s : TracedState) (number : ℕ) (b : Bool)
    → IsPolled number (ready_answer s (cond b (Some number) None))
ready-polls s number true a is = inl (ap (λ (x : Answer). x.reply) (sym (same_Some _ a is)))
ready-polls s number false a is = absurd (none-some a is)

poll-answers : (s : TracedState) (k number : ℕ) → IsPolled number (answer_to s k (call.Poll (number ∷ [])))
unfolding answer_to poll_answer
poll-answers s k number =
    let found : Option Answer = ready_answer s (find (is_polled_ready s k) (number ∷ [])) in
    let interrupted : Option Answer = Some (interrupted_answer s k) in
    choice (IsPolled number) (not (list_all (is_open_by s.opens k) (number ∷ []))) (Some (denied s Badf))
    (cond (is_interrupted s k) interrupted found) (λ shut. refused-polls s s number Badf) (λ listed.
    choice (IsPolled number) (is_interrupted s k) interrupted found
    (λ seen. refused-polls s (with_interrupt_seen k s) number _) (λ unseen.
    ready-polls s number (is_polled_ready s k number)))

-- ---- how such a tool goes on

-- the step after its open: pwait waits first
abbrev pub next_of : Bool → Step
next_of true = step.AwaitEnd
next_of false = step.ReadFile

pub record IsOnce (kind : ToolKind) (waits : Bool) : Type 0 where
  pub reader : IsReader kind
  pub goes : step_after kind step.OpenFile ≡ next_of waits
  pub reads_then : waits ≡ true → step_after kind step.AwaitEnd ≡ step.ReadFile

module _ (n k : ℕ) (kind : ToolKind) (pid : ℕ) (waits : Bool) (once : IsOnce kind waits) (first : TracedState) where
  abbrev held : Held
  held = held_by_tool k kind pid

  abbrev pub opening : ℕ → Exchange
  opening number = exchange (call.Open pid 0 (file_of kind) mode.Read) (reply.Handle number)

  abbrev pub polling : ℕ → Exchange
  polling number = exchange (call.Poll (number ∷ [])) (reply.Ready number)

  abbrev pub reading : ℕ → List ℕ → Exchange
  reading number bytes = exchange (call.Read number 0 read_limit) (reply.Bytes bytes)

  abbrev pub closing : ℕ → Exchange
  closing number = exchange (call.Close number) reply.Done

  -- its calls up to the read
  abbrev pub coming : Bool → ℕ → List Exchange
  coming true number = opening number ∷ polling number ∷ []
  coming false number = opening number ∷ []

  -- ---- the stages

  pub record IsAwaiting (h : List Entry) (s : TracedState) (t : ToolState) : Type 0 where
    pub number : ℕ
    pub awaits : waits ≡ true
    pub is : t ≡ with_file kind pid step.AwaitEnd number
    pub stands : Stands s.opens number held
    pub made : exchanges k h ≡ opening number ∷ []

  pub record IsReading (h : List Entry) (s : TracedState) (t : ToolState) : Type 0 where
    pub number : ℕ
    pub is : t ≡ with_file kind pid step.ReadFile number
    pub stands : Stands s.opens number held
    pub made : exchanges k h ≡ coming waits number

  pub record HasRead (h : List Entry) (s : TracedState) (t : ToolState) : Type 0 where
    pub number : ℕ
    pub bytes : List ℕ
    pub noted : List ℕ
    pub is : t ≡ having_read kind pid (with_record_open number) noted
    pub stands : Stands s.opens number held
    pub made : exchanges k h ≡ coming waits number ++ reading number bytes ∷ []

  pub record HasClosed (h : List Entry) (t : ToolState) : Type 0 where
    pub number : ℕ
    pub bytes : List ℕ
    pub noted : List ℕ
    pub is : t ≡ having_read kind pid nothing_open noted
    pub made : exchanges k h ≡ (coming waits number ++ reading number bytes ∷ []) ++ closing number ∷ []

  pub data OnceStage (h : List Entry) (s : TracedState) (t : ToolState) : Type 0 where
    begins : t ≡ first_tool kind pid → exchanges k h ≡ [] → OnceStage h s t
    awaits_end : IsAwaiting h s t → OnceStage h s t
    reads_next : IsReading h s t → OnceStage h s t
    has_read : HasRead h s t → OnceStage h s t
    has_closed : HasClosed h t → OnceStage h s t
    refused : IsSome t.refusal → OnceStage h s t

  pub first-stage : (s : TracedState) → OnceStage [] s (first_tool kind pid)
  unfolding exchanges
  first-stage s = begins refl refl

  -- ---- what others do

  module _ (h : List Entry) (s : TracedState) (actor : Actor) (it : Act)
      (legal : IsLegalEntry n s (record { actor = actor; act = it })) (other : IsOther k actor it) where
    abbrev entry : Entry
    entry = record { actor = actor; act = it }

    still-stands : (number : ℕ) → Stands s.opens number held → Stands (after s entry).opens number held
    still-stands number stands = others-keep number held n s actor it legal other stands

    pub others-stage : (t : ToolState) → OnceStage h s t → OnceStage (h ++ entry ∷ []) (after s entry) t
    others-stage t (begins is made) = begins is (others-made k h actor it [] other made)
    others-stage t (awaits_end o) = awaits_end (record {
      number = o.number;
      awaits = o.awaits;
      is = o.is;
      stands = still-stands o.number o.stands;
      made = others-made k h actor it (opening o.number ∷ []) other o.made;
    })
    others-stage t (reads_next o) = reads_next (record {
      number = o.number;
      is = o.is;
      stands = still-stands o.number o.stands;
      made = others-made k h actor it (coming waits o.number) other o.made;
    })
    others-stage t (has_read o) = has_read (record {
      number = o.number;
      bytes = o.bytes;
      noted = o.noted;
      is = o.is;
      stands = still-stands o.number o.stands;
      made = others-made k h actor it (coming waits o.number ++ reading o.number o.bytes ∷ []) other o.made;
    })
    others-stage t (has_closed o) = has_closed (record {
      number = o.number;
      bytes = o.bytes;
      noted = o.noted;
      is = o.is;
      made =
          others-made k h actor it ((coming waits o.number ++ reading o.number o.bytes ∷ []) ++ closing o.number ∷ [])
          other o.made;
    })
    others-stage t (refused was) = refused was

  -- ---- its own calls

  module _ (h : List Entry) (c : Call) (a : Answer) (given : answer_to (state_after first h) k c ≡ Some a) where
    abbrev s : TracedState
    s = state_after first h

    abbrev longer : List Entry
    longer = h ++ call_entry k c a.reply ∷ []

    abbrev Next : ToolState → Type 0
    Next t = OnceStage longer a.state t

    -- its call and the reply are the last exchange
    made-more : (xs : List Exchange) (d : Call) (r : Reply) → exchanges k h ≡ xs → c ≡ d → a.reply ≡ r
        → exchanges k longer ≡ xs ++ exchange d r ∷ []
    made-more xs d r made same replies =
        own-made k h c a.reply xs made
        ∙ ap (λ (x : Call). xs ++ exchange x a.reply ∷ []) same
        ∙ ap (λ (v : Reply). xs ++ exchange d v ∷ []) replies

    -- a refused tool
    was-refused : (t : ToolState) → WasRefused (fed t a.reply) → Next (fed t a.reply)
    was-refused t was = refused was.refusal

    open-stage : exchanges k h ≡ [] → next_call_of (first_tool kind pid) ≡ Some c
        → Next (fed (first_tool kind pid) a.reply)
    open-stage made next = of (open-opens s k pid 0 (file_of kind) mode.Read a answers)
      where
        same : c ≡ call.Open pid 0 (file_of kind) mode.Read
        same = same_Some c _ (sym next ∙ first-call kind pid once.reader)

        answers : answer_to s k (call.Open pid 0 (file_of kind) mode.Read) ≡ Some a
        answers = ap (answer_to s k) (sym same) ∙ given

        with_next : (b : Bool) → waits ≡ b → (granted : Opens s k held a.reply a.state.opens)
            → fed (first_tool kind pid) a.reply ≡ with_file kind pid (next_of b) granted.place
            → exchanges k longer ≡ opening granted.place ∷ [] → Next (fed (first_tool kind pid) a.reply)
        with_next true is granted at all = awaits_end (record {
          number = granted.place;
          awaits = is;
          is = at;
          stands = new-stands s k held refl a.reply a.state.opens granted;
          made = all;
        })
        with_next false is granted at all = reads_next (record {
          number = granted.place;
          is = at;
          stands = new-stands s k held refl a.reply a.state.opens granted;
          made = all ∙ ap (λ (b : Bool). coming b granted.place) (sym is);
        })

        of : Refuses s a.reply a.state.opens ⊎ Opens s k held a.reply a.state.opens
            → Next (fed (first_tool kind pid) a.reply)
        of (inl shut) =
            was-refused (first_tool kind pid)
            (subst (λ (r : Reply). WasRefused (fed (first_tool kind pid) r)) (sym shut.reply)
            (open-refused kind pid once.reader shut.errno))
        of (inr granted) =
            with_next waits refl granted
            (ap (fed (first_tool kind pid)) granted.reply ∙ opened-fed kind pid once.reader granted.place
            ∙ ap (λ (p : Step). with_file kind pid p granted.place) once.goes)
            (made-more [] (call.Open pid 0 (file_of kind) mode.Read) (reply.Handle granted.place) made same
            granted.reply)

    module _ (number : ℕ) (stands : Stands s.opens number held) where
      wait-stage : waits ≡ true → exchanges k h ≡ opening number ∷ []
          → next_call_of (with_file kind pid step.AwaitEnd number) ≡ Some c
          → Next (fed (with_file kind pid step.AwaitEnd number) a.reply)
      unfolding refusal_in is_passed_over
      wait-stage awaits made next = of (wait-fed kind pid once.reader (once.reads_then awaits) number a.reply)
        where
          same : c ≡ call.Poll (number ∷ [])
          same = same_Some c _ (sym next ∙ wait-call kind pid once.reader number)

          answers : answer_to s k (call.Poll (number ∷ [])) ≡ Some a
          answers = ap (answer_to s k) (sym same) ∙ given

          awaited : HasAwaited kind pid once.reader number a.reply → a.reply ≡ reply.Ready number
              → Next (fed (with_file kind pid step.AwaitEnd number) a.reply)
          awaited it replies = reads_next (record {
            number = number;
            is = it.reads;
            stands =
                ap (λ (x : Places). handle_of x k number) (plain-leaves s k (call.Poll (number ∷ [])) a refl answers)
                ∙ stands;
            made =
                made-more (opening number ∷ []) (call.Poll (number ∷ [])) (reply.Ready number) made same replies
                ∙ ap (λ (b : Bool). coming b number) (sym awaits);
          })

          of : HasAwaited kind pid once.reader number a.reply ⊎ WasRefused
              (fed (with_file kind pid step.AwaitEnd number) a.reply)
              → Next (fed (with_file kind pid step.AwaitEnd number) a.reply)
          of (inl it) =
              elim (poll-answers s k number a answers) [
                | inl ready ↦ awaited it ready
                | inr failed ↦ absurd
                    (none-some failed.0 (sym it.accepted ∙ ap (refusal_in step.AwaitEnd) failed.1))
              ]
          of (inr was) = was-refused (with_file kind pid step.AwaitEnd number) was

      read-stage : exchanges k h ≡ coming waits number
          → next_call_of (with_file kind pid step.ReadFile number) ≡ Some c
          → Next (fed (with_file kind pid step.ReadFile number) a.reply)
      unfolding answer_to
      read-stage made next =
          of a.reply refl (subst IsRead (sym reads) (reply-read s.system pid 0 0 read_limit (file_of kind)))
        where
          same : c ≡ call.Read number 0 read_limit
          same = same_Some c _ (sym next ∙ read-call kind pid once.reader number)

          answer : answered s (read_reply s k number 0 read_limit) ≡ a
          answer =
              same-answer s k c (call.Read number 0 read_limit) a (answered s (read_reply s k number 0 read_limit)) same
              given refl

          reads : a.reply ≡ file_read s.system pid 0 0 read_limit (file_of kind)
          reads =
              ap (λ (x : Answer). x.reply) (sym answer)
              ∙ handle-read s number 0 read_limit held once.reader.plain stands

          of : (q : Reply) → a.reply ≡ q → IsRead q → Next (fed (with_file kind pid step.ReadFile number) a.reply)
          of (reply.Bytes bytes) is whole = has_read (record {
            number = number;
            bytes = bytes;
            noted = take (record_room kind) bytes;
            is =
                ap (fed (with_file kind pid step.ReadFile number)) is ∙ read-fed kind pid once.reader number bytes;
            stands = ap (λ (x : Answer). handle_of x.state.opens k number) (sym answer) ∙ stands;
            made = made-more (coming waits number) (call.Read number 0 read_limit) (reply.Bytes bytes) made same is;
          })
          of (reply.Fail e) is whole =
              was-refused (with_file kind pid step.ReadFile number)
              (subst (λ (r : Reply). WasRefused (fed (with_file kind pid step.ReadFile number) r)) (sym is)
              (read-refused kind pid once.reader number e))
          of _ is whole = absurd whole

      close-stage : (bytes noted : List ℕ) → exchanges k h ≡ coming waits number ++ reading number bytes ∷ []
          → next_call_of (having_read kind pid (with_record_open number) noted) ≡ Some c
          → Next (fed (having_read kind pid (with_record_open number) noted) a.reply)
      close-stage bytes noted made next =
          has_closed (record {
            number = number;
            bytes = bytes;
            noted = noted;
            is = closing-fed kind pid number noted a.reply;
            made =
                made-more (coming waits number ++ reading number bytes ∷ []) (call.Close number) reply.Done made same
                (ap (λ (x : Answer). x.reply) answer);
          })
        where
          same : c ≡ call.Close number
          same = same_Some c _ (sym next ∙ closing-call kind pid number noted)

          answer : a ≡ record { state = with_closed held number s; reply = reply.Done }
          answer = closed-is s k number held a stands (ap (answer_to s k) (sym same) ∙ given)

    pub called-stage : (t : ToolState) → next_call_of t ≡ Some c → OnceStage h s t → Next (fed t a.reply)
    called-stage t next (begins is made) =
        let Q : ToolState → Type 0 = λ u. next_call_of u ≡ Some c → Next (fed u a.reply) in
        subst Q (sym is) (open-stage made) next
    called-stage t next (awaits_end o) =
        let Q : ToolState → Type 0 = λ u. next_call_of u ≡ Some c → Next (fed u a.reply) in
        subst Q (sym o.is) (wait-stage o.number o.stands o.awaits o.made) next
    called-stage t next (reads_next o) =
        let Q : ToolState → Type 0 = λ u. next_call_of u ≡ Some c → Next (fed u a.reply) in
        subst Q (sym o.is) (read-stage o.number o.stands o.made) next
    called-stage t next (has_read o) =
        let Q : ToolState → Type 0 = λ u. next_call_of u ≡ Some c → Next (fed u a.reply) in
        subst Q (sym o.is) (close-stage o.number o.stands o.bytes o.noted o.made) next
    called-stage t next (has_closed o) =
        absurd (none-some c (sym (over-call kind pid o.noted) ∙ ap next_call_of (sym o.is) ∙ next))
    called-stage t next (refused was) = refused (refused-still t a.reply was)

  -- ---- the end

  pub ended-stage : (h : List Entry) (t : ToolState) → has_ended t ≡ true → t.refusal ≡ None
      → OnceStage h (state_after first h) t → HasClosed h t
  ended-stage h t ended accepted (begins is made) =
      absurd (still-going t _ (ap next_call_of is ∙ first-call kind pid once.reader) ended)
  ended-stage h t ended accepted (awaits_end o) =
      absurd (still-going t _ (ap next_call_of o.is ∙ wait-call kind pid once.reader o.number) ended)
  ended-stage h t ended accepted (reads_next o) =
      absurd (still-going t _ (ap next_call_of o.is ∙ read-call kind pid once.reader o.number) ended)
  ended-stage h t ended accepted (has_read o) =
      absurd (still-going t _ (ap next_call_of o.is ∙ closing-call kind pid o.number o.noted) ended)
  ended-stage h t ended accepted (has_closed o) = o
  ended-stage h t ended accepted (refused was) = absurd (false≢true (sym (ap is_some accepted) ∙ was))
