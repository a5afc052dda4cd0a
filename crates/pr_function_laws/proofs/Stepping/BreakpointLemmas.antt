use Rattle.std.proofs.Common.{◌≡◌, ◌≢◌, ◌<◌, ◌==◌, ◌+◌, ◌++◌, ◌⊎◌, ℕ, Bool, true, false, cond, is_ok, nat_lt, Result, Ok, Err, IfOk, Option, Some, None, List, [], ◌∷◌, length, refl, sym, subst, ap, ◌∙◌, arith, inl, inr}
use Rattle.std.proofs.lemmas.Bool.{cases_eq, eqb-false, eqb-true, false≢true, le-ltb}
use Rattle.std.proofs.lemmas.Result.{IfOk-weaker}
use Rattle.std.proofs.lemmas.Option.{none-some, same_Some}
use Rattle.std.specs.Option.{option_and_then}
use Rattle.std.specs.List.{cons_option}
use Rattle.pr_lawful.proofs.LawfulTurns.EndLemmas.{found-live}
use Rattle.pr_lawful.proofs.ProcessParts.HandleLemmas.{handle-at}
use Rattle.pr_lawful.proofs.LawfulStates.HistoryLemmas.{history-state}
use Rattle.pr_lawful.proofs.Following.UseLemmas.{live-lawful}
use Rattle.pr_model.specs.Calls.{Answer, answer_to, controlled}
use Rattle.pr_model.specs.Changes.{with_space}
use Rattle.pr_model.specs.ControlMessages.{tail_of}
use Rattle.pr_model.specs.Handles.{handle_of}
use Rattle.pr_model.specs.Lawful.{IsLawful}
use Rattle.pr_model.specs.Legal.{IsLegal, IsLegalEntry, after, after_call, after_turn, state_after}
use Rattle.pr_model.specs.LwpTurns.{LwpTurn, turn_of}
use Rattle.pr_model.specs.Messages.{at_process, message_answer, refused, run_answer, with_process_changed, write_answer}
use Rattle.pr_model.specs.Readers.{has_lent}
use Rattle.pr_model.specs.Running.{run_refused, with_run}
use Rattle.pr_model.specs.Replies.{bytes_in}
use Rattle.pr_model.specs.State.{TracedLwp, TracedProcess, TracedState, TracedSystem, live_process, lwp_of}
use Rattle.pr_model.specs.Statuses.{status_of, status_of_found}
use Rattle.pr_model.specs.Stops.{representative}
use Rattle.pr_model.specs.declared.calls.Call.{Call}
use Rattle.pr_model.specs.declared.calls.Call.TheVariants as call
use Rattle.pr_model.specs.declared.calls.File.TheVariants.{Ctl, Status}
use Rattle.pr_model.specs.declared.calls.Mode.TheVariants.{Read, WriteExcl}
use Rattle.pr_model.specs.declared.calls.Reply.{Reply}
use Rattle.pr_model.specs.declared.calls.Reply.TheVariants as reply
use Rattle.pr_model.specs.declared.events.Act.{Act}
use Rattle.pr_model.specs.declared.events.Act.TheVariants as act
use Rattle.pr_model.specs.declared.events.Actor.{Actor}
use Rattle.pr_model.specs.declared.events.Actor.TheVariants.{Controller, Lwp, Clock}
use Rattle.pr_model.specs.declared.events.Entry.{Entry}
use Rattle.pr_model.specs.declared.handles.Held.{Held}
use Rattle.pr_num.specs.ById.{IsRising}
use Rattle.pr_num.specs.Control.{clear_fault, single_step}
use Rattle.pr_num.specs.Messages.{first_message, message_code, message_read, nth_word, operands, spelling, one_word, two_words, ◌>>=◌}
use Rattle.pr_num.specs.Sets.{union_word}
use Rattle.pr_num.specs.Spaces.{bytes_for}
use Rattle.pr_num.specs.Words.{word_bytes, word_of}
use Rattle.pr_num.specs.declared.errnos.Errno.{Errno}
use Rattle.pr_num.specs.declared.errnos.Errno.TheVariants.{Busy, Io, Noent}
use Rattle.pr_num.specs.declared.messages.Message.{Message}
use Rattle.pr_num.specs.declared.messages.Message.TheVariants as message
use Rattle.pr_num.specs.declared.messages.MsgFault.{MsgFault}
use Rattle.pr_parts.specs.AddressSpaces.{with_bytes}
use Rattle.pr_reached.proofs.FitStates.FitHistoryLemmas.{history-fits}
use Rattle.pr_report_laws.proofs.Files.WatchHistories.{cons-exchanges}
use Rattle.pr_report_laws.proofs.Machine.RecordLaws.{status-read}
use Rattle.pr_truss.specs.FunctionCalls.{call_beside, function_call_of, next_function_call_of, write_code_call}
use Rattle.pr_truss.specs.FunctionFeeding.{fed_functions}
use Rattle.pr_truss.specs.Marks.{has_functions}
use Rattle.pr_truss.specs.Messages.{message_call}
use Rattle.pr_truss.specs.NextCalls.{call_of, next_call_of, read_record}
use Rattle.pr_truss.specs.Records.{status_lwp}
use Rattle.pr_truss.specs.Replies.{answer_of}
use Rattle.pr_truss_laws.proofs.Files.OpensLemmas.{held_by}
use Rattle.pr_truss.specs.Trusses.{TrussState, traced_at}
use Rattle.pr_truss.specs.declared.asides.Aside.TheVariants.{Nothing}
use Rattle.pr_truss.specs.declared.processes.Traced.{Traced}
use Rattle.pr_truss.specs.declared.stages.Stage.TheVariants.{ReadingStatus}
use Rattle.pr_truss.specs.declared.replies.Answer.TheVariants.{Interrupted, Gone}
use Rattle.pr_truss_laws.proofs.Replies.AnswerLemmas.{IsAnswer, answer-is, gone-refuses}
use Rattle.pr_truss_laws.proofs.Machine.ForeignLemmas.{exclusive-sole}
use Rattle.pr_truss_laws.proofs.Machine.FrameLemmas.{was-made}
use Rattle.pr_truss_laws.proofs.Replies.FunctionOptionLemmas.{fed_functions-options}
use Rattle.pr_truss_laws.proofs.Files.OpensLemmas.{ClosesOne, close-closes, foreign-call, keeps_handles, looking-stays, only_looks, own-other, own-set, plain-leaves}
use Rattle.pr_truss_laws.proofs.Machine.OutlastLemmas as outlast
use Rattle.pr_truss_laws.proofs.Machine.OutlastLemmas.{Outlasts, others-entry}
use Rattle.pr_truss_laws.proofs.Machine.OverLemmas.{stays-made, stays-over}
use Rattle.pr_truss_laws.proofs.Machine.StillLemmas.{frozen-turns, live-changed}
use Rattle.pr_truss_laws.proofs.Machine.TakenLemmas.{ReadsAs, read-as}
use Rattle.pr_truss_laws.specs.Exchanges.{Exchange, exchange_in, exchange_of, exchanges}
use Rattle.pr_truss_laws.specs.Handles.{HasNoOtherWriter}
use Rattle.pr_function_laws.proofs.Stepping.AwayLemmas.{Away, Own, away-acts, away-opens, away-weaker, next-away}
use Rattle.pr_function_laws.proofs.Stepping.FaultLemmas.{StandsAtFault, alone-fault, fault-frozen, fault-ready, fault-stop, spaced-fault}
use Rattle.pr_function_laws.proofs.Marks.MetLemmas.{fresh-stands}
use Rattle.pr_function_laws.proofs.Stepping.ToldLemmas.{told-fault}
use Rattle.pr_function_laws.proofs.Marks.LiftLemmas.{AfterLook, LookCall, Looks, call-looks, goes_on, has_ended, is_away, looks-weaker, met-looks, met_at, patches, reply-after, step_flags, steps}
use Rattle.pr_function_laws.proofs.Stepping.StretchLemmas as stretch
use Rattle.pr_function_laws.proofs.Stepping.StretchLemmas.{Does, message-does, stretch-stops}
use Rattle.pr_function_laws.specs.Lifted.{GoesElsewhere, HasControl, HasStatus, IsAtStopAtBreakpoint, IsNoRead, ReadsOnlyLast, StepsNoCall}
use Rattle.pr_function_laws.specs.Runs.{MakesFunctionCalls}
use Rattle.pr_function_laws.specs.Steps.{RunsNoCall}
use Rattle.pr_function_laws.specs.Stretches.{BeginWith, BeginWithWrite, IsControlOf, IsReadyToStep, IsStretch, MovesOneAlone, OthersOnlyStop, acts_by, is_write}
use Rattle.pr_function_laws.specs.Stretches as stretches

-- From a breakpoint that truss has read to its next look at the process no other lwp of the process begins an
-- instruction.

-- ---- how its messages are read

step-reads : ReadsAs (message.Run step_flags) (first_message (spelling (message.Run step_flags) []))
unfolding message_code operands nth_word word_bytes word_of message_read one_word union_word
step-reads = read-as (spelling (message.Run step_flags) []) (message.Run step_flags) refl refl

write-code : (at size : ℕ) (code : List ℕ) → nth_word (spelling (message.Write at size) code) 0 ≡ 23
unfolding message_code operands nth_word word_bytes word_of
write-code at size code = refl

write-long : (at size : ℕ) (code : List ℕ) → nat_lt (length (spelling (message.Write at size) code)) 8 ≡ false
unfolding message_code operands word_bytes
write-long at size code = le-ltb (length (spelling (message.Write at size) code)) 8 (omega arith)

write-as : (bytes : List ℕ) → nth_word bytes 0 ≡ 23 → (r : Result (ℕ × ℕ) MsgFault) → two_words bytes ≡ r
    → message_read (nth_word bytes 0) bytes
    ≡ (r >>= λ w. let ok : Result Message MsgFault = Ok (message.Write w.0 w.1) in ok)
unfolding message_read
write-as bytes code r is =
    ap (λ c. message_read c bytes) code
    ∙ ap (λ (q : Result (ℕ × ℕ) MsgFault). q >>= λ w.
    let ok : Result Message MsgFault = Ok (message.Write w.0 w.1) in ok) is

write-begins : (bytes : List ℕ) → nat_lt (length bytes) 8 ≡ false → nth_word bytes 0 ≡ 23 → BeginWithWrite bytes
unfolding first_message
write-begins bytes long code = by (two_words bytes) refl
  where
    by : (r : Result (ℕ × ℕ) MsgFault) → two_words bytes ≡ r → BeginWithWrite bytes
    by (Ok w) is =
        IfOk-weaker (first_message bytes) _ _ (λ f same. ap is_write same)
        (read-as bytes (message.Write w.0 w.1) long (write-as bytes code (Ok w) is))
    by (Err f) is =
        let read : message_read (nth_word bytes 0) bytes ≡ Err f = write-as bytes code (Err f) is in
        let same : first_message bytes ≡ Err f = rw (long, read) refl in
        subst (λ (r : Result (Message × ℕ) MsgFault). IfOk r (λ first. is_write first.0 ≡ true)) (sym same) tt

pub write-reads : (at size : ℕ) (code : List ℕ) → BeginWithWrite (spelling (message.Write at size) code)
write-reads at size code =
    write-begins (spelling (message.Write at size) code) (write-long at size code) (write-code at size code)

-- ---- an entry of a controller

-- a call of the controller in an entry, with the state that it leaves
pub record IsOwnEntry (k : ℕ) (s : TracedState) (e : Entry) (x : Exchange) : Type 0 where
  pub answer : Answer
  pub is : answer_to s k x.call ≡ Some answer
  pub replied : answer.reply ≡ x.reply
  pub later : answer.state ≡ after s e

-- a call that opens nothing and closes nothing leaves the handles
pub own-handles : (k : ℕ) (s : TracedState) (e : Entry) (x : Exchange) → IsOwnEntry k s e x
    → keeps_handles x.call ≡ true
    → (m : ℕ) → handle_of (after s e).opens k m ≡ handle_of s.opens k m
own-handles k s e x own plain m =
    ap (λ (u : TracedState). handle_of u.opens k m) (sym own.later)
    ∙ ap (λ p. handle_of p k m) (plain-leaves s k x.call own.answer plain own.is)

own-by : (n k by : ℕ) (s : TracedState) (c : Call) (r : Reply) (x : Exchange)
    → IsLegalEntry n s (record { actor = Controller by; act = act.Call c r }) → (mine : Bool) → (by == k) ≡ mine
    → cond {A = Option Exchange} mine (Some (record { call = c; reply = r })) None ≡ Some x
    → IsOwnEntry k s (record { actor = Controller by; act = act.Call c r }) x
unfolding IsLegalEntry after
own-by n k by s c r x legal true own is =
    let here : IsOwnEntry k s (record { actor = Controller by; act = act.Call c r }) (record { call = c; reply = r }) =
    record {
      answer = record { state = legal.1.0; reply = r };
      is = subst (λ m. answer_to s m c ≡ Some (record { state = legal.1.0; reply = r })) (eqb-true by k own) legal.1.1;
      replied = refl;
      later = ap (λ (o : Option Answer). after_call s o) (sym legal.1.1);
    } in
    subst (IsOwnEntry k s (record { actor = Controller by; act = act.Call c r })) (same_Some _ x is) here
own-by n k by s c r x legal false own is = absurd (none-some x is)

own-acted : (n k : ℕ) (s : TracedState) (actor : Actor) (did : Act) (x : Exchange)
    → IsLegalEntry n s (record { actor = actor; act = did }) → exchange_in k actor did ≡ Some x
    → IsOwnEntry k s (record { actor = actor; act = did }) x
own-acted n k s (Controller by) (act.Call c r) x legal is = own-by n k by s c r x legal (by == k) refl is
own-acted n k s (Controller by) (act.Turn did) x legal is = absurd (none-some x is)
own-acted n k s (Controller by) (act.Tick moment) x legal is = absurd (none-some x is)
own-acted n k s (Lwp p l) did x legal is = absurd (none-some x is)
own-acted n k s Clock did x legal is = absurd (none-some x is)

pub own-entry : (n k : ℕ) (s : TracedState) (e : Entry) (x : Exchange) → IsLegalEntry n s e → exchange_of k e ≡ Some x
    → IsOwnEntry k s e x
own-entry n k s e x legal is = own-acted n k s e.actor e.act x legal is

-- an entry that is no call of it is of another controller, a turn, or a tick; its handles stay
pub record IsForeign (k : ℕ) (s : TracedState) (e : Entry) : Type 0 where
  pub other : e.actor ≢ Controller k
  pub handles : (m : ℕ) → handle_of (after s e).opens k m ≡ handle_of s.opens k m

not-own : (by k : ℕ) (x : Exchange) (b : Bool) → (by == k) ≡ b → cond b (Some x) None ≡ None → by ≢ k
not-own by k x true own is = cc
not-own by k x false own is = eqb-false by k own

turned-opens : (s : TracedState) (o : Option LwpTurn) → (after_turn s o).opens ≡ s.opens
turned-opens s None = refl
turned-opens s (Some t) = refl

foreign-acted : (n k : ℕ) (s : TracedState) (actor : Actor) (did : Act)
    → IsLegalEntry n s (record { actor = actor; act = did }) → exchange_in k actor did ≡ None
    → IsForeign k s (record { actor = actor; act = did })
unfolding IsLegalEntry after
foreign-acted n k s (Controller by) (act.Call c r) legal is =
    let other = not-own by k (record { call = c; reply = r }) (by == k) refl is in
    record {
      other = λ same. other (cc);
      handles = λ m. ap (λ (o : Option Answer). handle_of (after_call s o).opens k m) legal.1.1
          ∙ foreign-call s by k c (record { state = legal.1.0; reply = r }) other legal.1.1 m;
    }
foreign-acted n k s (Lwp p l) (act.Turn did) legal is = record {
  other = λ same. cc;
  handles = λ m. ap (λ o. handle_of o k m) (turned-opens s (turn_of s.system p l));
}
foreign-acted n k s Clock (act.Tick moment) legal is = record { other = λ same. cc; handles = λ m. refl }
foreign-acted n k s _ _ legal is = absurd legal

pub foreign-entry : (n k : ℕ) (s : TracedState) (e : Entry) → IsLegalEntry n s e → exchange_of k e ≡ None
    → IsForeign k s e
foreign-entry n k s e legal is = foreign-acted n k s e.actor e.act legal is

-- ---- the process at its stop

module _ (n k pid id : ℕ) (s : TracedState) (lawful : IsLawful s) (made : pid < s.system.made) where
  -- the process stands at a fault, if it lives
  abbrev Stands : TracedState → Type 0
  Stands u = (p : TracedProcess) → live_process u.system pid ≡ Some p → StandsAtFault p id

  rises : (u : TracedState) → IsLawful u → (p : TracedProcess) → live_process u.system pid ≡ Some p → IsRising p.lwps
  rises u l p live = let it = live-lawful u.system pid p l.system live in it.rising

  module _ (sole : (p : TracedProcess) → live_process s.system pid ≡ Some p → HasNoOtherWriter k pid s.opens)
      (stands : Stands s) where
    next-lawful : (e : Entry) → IsLegalEntry n s e → IsLawful (after s e)
    next-lawful e legal = history-state n s (e ∷ []) lawful (legal, tt)

    module _ (p : TracedProcess) (live : live_process s.system pid ≡ Some p) where
      outlasting : (e : Entry) → IsLegalEntry n s e → Outlasts pid p (after s e).system → Stands (after s e)
      outlasting e legal (outlast.lives r now alone) q later =
          let same : r ≡ q = same_Some r q (sym now ∙ later) in
          subst (λ (x : TracedProcess). StandsAtFault x id) same
          (alone-fault p r alone id (rises s lawful p live) (rises (after s e) (next-lawful e legal) r now)
          (stands p live))
      outlasting e legal (outlast.killed z gone there status) q later = absurd (none-some q (sym gone ∙ later))

      elsewhere : (e : Entry) → IsLegalEntry n s e → ((own : ℕ) → e.actor ≢ Lwp pid own) → e.actor ≢ Controller k
          → Stands (after s e)
      elsewhere e legal apart other =
          outlasting e legal (others-entry n s k pid e p lawful (sole p live) legal apart other live)

      frozen-turn : {A : Type 0} (own : ℕ) (t : LwpTurn) → turn_of s.system pid own ≡ Some t → A
      frozen-turn own t turn =
          absurd (none-some t (sym (frozen-turns s.system pid p live
          (fault-frozen p id (stands p live) (rises s lawful p live)) own) ∙ turn))

      others-in : (actor : Actor) (it : Act) → (legal : IsLegalEntry n s (record { actor = actor; act = it }))
          → actor ≢ Controller k → Stands (after s (record { actor = actor; act = it }))
      unfolding IsLegalEntry
      others-in (Controller j) (act.Call c r) legal other =
          elsewhere (record { actor = Controller j; act = act.Call c r }) legal (λ own same. cc) other
      others-in (Lwp acting own) (act.Turn turned) legal other = elim (cases_eq acting pid) [
        | inl same ↦ frozen-turn own (record { system = legal.0; turned = turned })
            (subst (λ i. turn_of s.system i own ≡ Some (record { system = legal.0; turned = turned })) same legal.1)
        | inr differs ↦ elsewhere (record { actor = Lwp acting own; act = act.Turn turned }) legal
            (λ i same. differs (cc)) other
      ]
      others-in Clock (act.Tick m) legal other =
          elsewhere (record { actor = Clock; act = act.Tick m }) legal (λ own same. cc) other
      others-in _ _ legal other = absurd legal

    pub others-stand : (e : Entry) → IsLegalEntry n s e → e.actor ≢ Controller k → Stands (after s e)
    others-stand e legal other = by (live_process s.system pid) refl
      where
        by : (o : Option TracedProcess) → live_process s.system pid ≡ o → Stands (after s e)
        by None gone = λ q later.
            absurd (none-some q (sym (stays-over n s e pid lawful legal made gone) ∙ later))
        by (Some p) live = others-in p live e.actor e.act legal other

    -- ---- a write, and PCRUN

    module _ (number : ℕ) (control : HasControl k pid number s) where
      own-control : IsControlOf k pid number s
      own-control = record {
        held = record { controller = k; pid = pid; lwp = 0; file = Ctl; mode = WriteExcl };
        there = control;
        file = refl;
        of = refl;
      }

      -- what a write leaves, and that it is not refused as of a process that has ended
      record Left (a : Answer) : Type 0 where
        stand : Stands a.state
        not_gone : a.reply ≢ reply.Fail Noent

      module _ (p : TracedProcess) (live : live_process s.system pid ≡ Some p) (a : Answer) where
        same-left : a.state.system ≡ s.system → Stands a.state
        same-left same q later =
            stands q (ap (λ (u : TracedSystem). live_process u pid) (sym same) ∙ later)

        refused-left : (errno : Errno) → a.reply ≡ reply.Fail errno → errno ≢ Noent → a.state.system ≡ s.system → Left a
        refused-left errno replied other same = record {
          stand = same-left same;
          not_gone = λ gone. other (fail-same errno Noent (sym replied ∙ gone));
        }
          where
            fail-same : (f g : Errno) → reply.Fail f ≡ reply.Fail g → f ≡ g
            fail-same f g is = cc

        spaced-ended : (space : _) → (with_space space p).ended ≡ p.ended
        unfolding with_space
        spaced-ended space = refl

        written-left : (at : ℕ) (bytes : List ℕ) (len : ℕ) (lent fits : Bool)
            → a ≡ controlled s
            (cond lent (refused s.system Busy)
            (cond fits (with_process_changed s.system pid p len (with_space (with_bytes at bytes p.space)))
            (refused s.system Io))) → Left a
        written-left at bytes len true fits is =
            refused-left Busy (ap (λ (x : Answer). x.reply) is) (λ (same : Busy ≡ Noent). cc)
            (ap (λ (x : Answer). x.state.system) is)
        written-left at bytes len false false is =
            refused-left Io (ap (λ (x : Answer). x.reply) is) (λ (same : Io ≡ Noent). cc)
            (ap (λ (x : Answer). x.state.system) is)
        written-left at bytes len false true is = record {
          stand = λ q later.
              let now : live_process a.state.system pid ≡ Some (with_space (with_bytes at bytes p.space) p) =
              ap (λ (x : Answer). live_process x.state.system pid) is
              ∙ live-changed s.system pid (with_space (with_bytes at bytes p.space)) p live (spaced-ended _) in
              subst (λ (x : TracedProcess). StandsAtFault x id)
              (same_Some (with_space (with_bytes at bytes p.space) p) q (sym now ∙ later))
              (spaced-fault p (with_bytes at bytes p.space) id (stands p live));
          not_gone = λ gone. used-not len (sym (ap (λ (x : Answer). x.reply) is) ∙ gone);
        }
          where
            used-not : (m : ℕ) → reply.Used m ≡ reply.Fail Noent → ⊥
            used-not m same = cc

        write-left : (bytes : List ℕ) → BeginWithWrite bytes → answer_to s k (call.Ctl number bytes) ≡ Some a → Left a
        unfolding message_answer write_answer
        write-left bytes begins is =
            by (message-does n k pid id number s lawful (sole p live) made number bytes p a own-control live is)
          where
            by-message : (m : Message) (len : ℕ) → is_write m ≡ true
                → a ≡ controlled s (message_answer s.system pid p at_process m (tail_of m bytes) len) → Left a
            by-message (message.Write at size) len writes_so it =
                let tail = tail_of (message.Write at size) bytes in
                written-left at tail len (has_lent p) (is_ok (bytes_for 0 p.space at (length tail))) it
            by-message _ len writes_so it = absurd (false≢true writes_so)

            by : Does n k pid id number s lawful (sole p live) made p bytes a → Left a
            by (stretch.refuses errno replied other same) = refused-left errno replied other same
            by (stretch.does m len first it) =
                by-message m len (subst (λ (r : Result (Message × ℕ) MsgFault). IfOk r (λ f. is_write f.0 ≡ true)) first
                begins) it

        -- PCRUN is not refused so either
        ran-not : (len : ℕ) (flags : ℕ) (refused_so : Bool)
            → a ≡ controlled s
            (cond refused_so (refused s.system Busy) (with_process_changed s.system pid p len (with_run flags)))
            → a.reply ≢ reply.Fail Noent
        ran-not len flags true is gone = busy-not (sym (ap (λ (x : Answer). x.reply) is) ∙ gone)
          where
            busy-not : reply.Fail Busy ≡ reply.Fail Noent → ⊥
            busy-not same = cc
        ran-not len flags false is gone = used-not len (sym (ap (λ (x : Answer). x.reply) is) ∙ gone)
          where
            used-not : (m : ℕ) → reply.Used m ≡ reply.Fail Noent → ⊥
            used-not m same = cc

        run-not : (bytes : List ℕ) → BeginWith (message.Run step_flags) bytes
            → answer_to s k (call.Ctl number bytes) ≡ Some a → a.reply ≢ reply.Fail Noent
        unfolding message_answer run_answer
        run-not bytes begins is =
            by (message-does n k pid id number s lawful (sole p live) made number bytes p a own-control live is)
          where
            by : Does n k pid id number s lawful (sole p live) made p bytes a → a.reply ≢ reply.Fail Noent
            by (stretch.refuses errno replied other same) gone = other (fail-same errno Noent (sym replied ∙ gone))
              where
                fail-same : (f g : Errno) → reply.Fail f ≡ reply.Fail g → f ≡ g
                fail-same f g is = cc
            by (stretch.does m len first it) gone =
                let same : m ≡ message.Run step_flags =
                subst (λ (r : Result (Message × ℕ) MsgFault). IfOk r (λ f. f.0 ≡ message.Run step_flags)) first
                begins in
                ran-not len step_flags (run_refused p)
                (it ∙ ap (λ x. controlled s (message_answer s.system pid p at_process x (tail_of x bytes) len)) same)
                gone

-- ---- truss along the history

abbrev opens_file : Call → Bool
opens_file (call.Open pid id file mode) = true
opens_file _ = false

pub step-is : step_flags ≡ clear_fault + single_step
unfolding union_word
step-is = refl

pub step-begins : BeginWith (message.Run (clear_fault + single_step)) (spelling (message.Run step_flags) [])
step-begins =
    subst (λ f. BeginWith (message.Run f) (spelling (message.Run step_flags) [])) step-is step-reads

module _ (n k pid id c ns : ℕ) (met : Traced) (place : ℕ) where
  abbrev Goes : TracedState → ℕ → Type 0
  Goes s m = GoesElsewhere k pid s m

  -- Truss looks at the process, which stands at a fault; or it is away; or the process has ended.
  data Phase (t : TrussState) (s : TracedState) : Type 0 where
    looking : Looks (Goes s) c ns met place t → HasControl k pid c s
        → ((p : TracedProcess) → live_process s.system pid ≡ Some p → StandsAtFault p id) → Phase t s
    away : Away (Goes s) c ns met t → HasControl k pid c s → Phase t s
    ended : live_process s.system pid ≡ None → Phase t s

  -- the handles that are open later were open before, that of the process among them
  pub record Keeps (s u : TracedState) : Type 0 where
    pub shrinks : (m : ℕ) (held : Held) → handle_of u.opens k m ≡ Some held → handle_of s.opens k m ≡ Some held
    pub control : HasControl k pid c u
    pub status : HasStatus k pid ns s → HasStatus k pid ns u

  pub keeps-goes : (s u : TracedState) → Keeps s u → (m : ℕ) → Goes s m → Goes u m
  keeps-goes s u w m goes held there = goes held (w.shrinks m held there)

  pub same-keeps : (s u : TracedState) → ((m : ℕ) → handle_of u.opens k m ≡ handle_of s.opens k m)
      → HasControl k pid c s → Keeps s u
  same-keeps s u same control = record {
    shrinks = λ m held there. sym (same m) ∙ there;
    control = same c ∙ control;
    status = λ reads. same ns ∙ reads;
  }

  module _ (s : TracedState) (lawful : IsLawful s) (made : pid < s.system.made) where
    pub sole-by : HasControl k pid c s → HasNoOtherWriter k pid s.opens
    sole-by control =
        exclusive-sole s k c (record { controller = k; pid = pid; lwp = 0; file = Ctl; mode = WriteExcl }) lawful
        control
        refl

    module _ (e : Entry) (legal : IsLegalEntry n s e) where
      pub over-later : live_process s.system pid ≡ None → live_process (after s e).system pid ≡ None
      over-later none = stays-over n s e pid lawful legal made none

      -- an entry of others
      foreign-phase : (t : TrussState) → IsForeign k s e → Phase t s → Phase t (after s e)
      foreign-phase t w (looking looks control stands) =
          let keeps = same-keeps s (after s e) w.handles control in
          looking (looks-weaker (Goes s) (Goes (after s e)) c ns met place t (keeps-goes s (after s e) keeps) looks)
          keeps.control
          (others-stand n k pid id s lawful made (λ p live. sole-by control) stands e legal w.other)
      foreign-phase t w (away it control) =
          let keeps = same-keeps s (after s e) w.handles control in
          away (away-weaker (Goes s) (Goes (after s e)) c ns met t (keeps-goes s (after s e) keeps) it) keeps.control
      foreign-phase t w (ended none) = ended (over-later none)

      -- ---- a call of its own

      module _ (t : TrussState) (has : has_functions t.options ≡ true) (x : Exchange) (own : IsOwnEntry k s e x)
          (next : next_function_call_of t ≡ Some x.call) (quiet : IsNoRead ns x)
          (no_call : (p : TracedProcess) (l : TracedLwp) → x.call ≡ message_call c (message.Run step_flags)
          → live_process s.system pid ≡ Some p → lwp_of p id ≡ Some l → RunsNoCall p l) where
        record Step : Type 0 where
          moves : MovesOneAlone k pid id s x.call
          phase : Phase (fed_functions t x.reply) (after s e)

        pub calm : answer_of x.reply ≢ Interrupted
        unfolding IsAnswer
        calm interrupted = quiet.no_interrupt (subst (IsAnswer x.reply) interrupted (answer-is x.reply))

        opens-later : keeps_handles x.call ≡ true → (m : ℕ) → handle_of (after s e).opens k m ≡ handle_of s.opens k m
        opens-later = own-handles k s e x own

        -- truss looks at the process
        module _ (looks : Looks (Goes s) c ns met place t) (control : HasControl k pid c s)
            (stands : (p : TracedProcess) → live_process s.system pid ≡ Some p → StandsAtFault p id) where
          abbrev mine : IsControlOf k pid c s
          mine = own-control n k pid id s lawful made (λ p live. sole-by control) stands c control

          -- the bytes of its message
          data Sends : Type 0 where
            runs : x.call ≡ call.Ctl c (spelling (message.Run step_flags) []) → Sends
            writes : (bytes : List ℕ) → x.call ≡ call.Ctl c bytes → BeginWithWrite bytes → Sends

          sends : (d : Call) → LookCall (Goes s) c ns met place t.options d → x.call ≡ d → Sends
          sends d steps is = runs is
          sends d (patches function code) is = writes (spelling (message.Write _ _) code) is (write-reads _ _ code)

          sent : Sends
          sent = sends x.call (call-looks (Goes s) c ns met place t looks has x.call next) refl

          ready : x.call ≡ call.Ctl c (spelling (message.Run step_flags) []) → (p : TracedProcess)
              → live_process s.system pid ≡ Some p → IsReadyToStep p id
          ready is p live =
              fault-ready p id (stands p live) (λ l there. no_call p l is live there)
              (rises n k pid id s lawful made s lawful p live)

          look-moves : Sends → MovesOneAlone k pid id s x.call
          look-moves (runs is) = stretches.steps c _ is mine step-begins (ready is)
          look-moves (writes bytes is begins) =
              stretches.writes c bytes is mine begins (λ p live. fault-stop p id (stands p live))

          plain : Sends → keeps_handles x.call ≡ true
          plain (runs is) = ap keeps_handles is
          plain (writes bytes is begins) = ap keeps_handles is

          pub keeps : Keeps s (after s e)
          keeps = same-keeps s (after s e) (opens-later (plain sent)) control

          -- it is told of no end where there is none
          not-gone : Sends → (p : TracedProcess) → live_process s.system pid ≡ Some p
              → own.answer.reply ≢ reply.Fail Noent
          not-gone (runs is) p live =
              run-not n k pid id s lawful made (λ q there. sole-by control) stands c control p live own.answer
              (spelling (message.Run step_flags) []) step-reads (ap (answer_to s k) (sym is) ∙ own.is)
          not-gone (writes bytes is begins) p live =
              let left =
              write-left n k pid id s lawful made (λ q there. sole-by control) stands c control p live own.answer bytes
              begins (ap (answer_to s k) (sym is) ∙ own.is) in
              left.not_gone

          pub gone-over : answer_of x.reply ≡ Gone → live_process (after s e).system pid ≡ None
          gone-over gone = by (live_process s.system pid) refl
            where
              by : (o : Option TracedProcess) → live_process s.system pid ≡ o
                  → live_process (after s e).system pid ≡ None
              by None none = over-later none
              by (Some p) live =
                  let refuses = gone-refuses x.reply gone in
                  absurd (not-gone sent p live (own.replied ∙ refuses.is))

          pub stand-later : (function : ℕ) (code : List ℕ) → x.call ≡ write_code_call t.options c function code
              → (p : TracedProcess) → live_process (after s e).system pid ≡ Some p → StandsAtFault p id
          stand-later function code is q later = by (live_process s.system pid) refl
            where
              by : (o : Option TracedProcess) → live_process s.system pid ≡ o → StandsAtFault q id
              by None none = absurd (none-some q (sym (over-later none) ∙ later))
              by (Some p) live =
                  let left =
                  write-left n k pid id s lawful made (λ i there. sole-by control) stands c control p live own.answer
                  (spelling (message.Write _ _) code) (write-reads _ _ code)
                  (ap (answer_to s k) (sym is) ∙ own.is) in
                  left.stand q (ap (λ (u : TracedState). live_process u.system pid) own.later ∙ later)

          looked : AfterLook (Goes s) c ns met place t.options x.reply x.call (fed_functions t x.reply)
              → Phase (fed_functions t x.reply) (after s e)
          looked (goes_on more function code is) =
              looking (looks-weaker (Goes s) (Goes (after s e)) c ns met place _ (keeps-goes s (after s e) keeps) more)
              (let w = keeps in w.control) (stand-later function code is)
          looked (is_away it ran) =
              away (away-weaker (Goes s) (Goes (after s e)) c ns met _ (keeps-goes s (after s e) keeps) it)
              (let w = keeps in w.control)
          looked (has_ended gone) = ended (gone-over gone)

          look-step : Step
          look-step = record {
            moves = look-moves sent;
            phase = looked (reply-after (Goes s) c ns met place t looks has x.reply calm x.call next);
          }

        -- truss is away
        module _ (it : Away (Goes s) c ns met t) (control : HasControl k pid c s) where
          pub acts-away : (m : ℕ) → acts_by x.call ≡ Some m → Goes s m
          acts-away m is = away-acts (Goes s) c ns met t it m has x.call next is

          -- it closes no file of the process
          closes-keeps : (m : ℕ) → Goes s m → answer_to s k (call.Close m) ≡ Some own.answer
              → Keeps s own.answer.state
          closes-keeps m goes is = elim (close-closes s k m own.answer is) [
            | inl none ↦ same-keeps s own.answer.state (λ i. ap (λ p. handle_of p k i) none.is) control
            | inr one ↦ closed one.0 one.1
          ]
            where
              closed : (h : Held) → ClosesOne s k m h own.answer → Keeps s own.answer.state
              closed h one = record {
                shrinks = λ i held there. elim (cases_eq m i) [
                  | inl same ↦ absurd
                      (none-some held (sym (gone i same) ∙ there))
                  | inr apart ↦ sym (stays i apart) ∙ there
                ];
                control = stays c (λ same. goes _ (ap (λ i. handle_of s.opens k i) same ∙ control) refl) ∙ control;
                status = λ reads. stays ns (λ same. goes _ (ap (λ i. handle_of s.opens k i) same ∙ reads) refl) ∙ reads;
              }
                where
                  stays : (i : ℕ) → m ≢ i → handle_of own.answer.state.opens k i ≡ handle_of s.opens k i
                  stays i apart =
                      ap (λ p. handle_of p k i) one.is ∙ own-other s.opens k m i None apart

                  gone : (i : ℕ) → m ≡ i → handle_of own.answer.state.opens k i ≡ None
                  gone i same =
                      subst (λ j. handle_of own.answer.state.opens k j ≡ None) same
                      (ap (λ p. handle_of p k m) one.is
                      ∙ own-set s.opens k m None (Some h) (handle-at s.opens k m h one.held))

          call-keeps : (d : Call) → x.call ≡ d → opens_file d ≡ false → ((m : ℕ) → acts_by d ≡ Some m → Goes s m)
              → Keeps s own.answer.state
          call-keeps (call.Open of lwp f mode) is none goes = absurd (false≢true (sym none))
          call-keeps (call.Close m) is none goes =
              closes-keeps m (goes m refl) (ap (answer_to s k) (sym is) ∙ own.is)
          call-keeps d is none goes =
              same-keeps s own.answer.state
              (λ i. ap (λ p. handle_of p k i) (plain-leaves s k d own.answer refl
              (ap (answer_to s k) (sym is) ∙ own.is))) control

          pub away-keeps : Keeps s (after s e)
          away-keeps =
              subst (Keeps s) own.later
              (call-keeps x.call refl (away-opens (Goes s) c ns met t it has x.call next) acts-away)

          pub away-later : Away (Goes (after s e)) c ns met (fed_functions t x.reply)
          away-later =
              away-weaker (Goes s) (Goes (after s e)) c ns met _ (keeps-goes s (after s e) away-keeps)
              (next-away (Goes s) c ns met t x.reply it calm has
              (λ reads. quiet.no_read (same_Some _ _ (sym next ∙ reads))))

          away-step : Step
          away-step = record {
            moves = stretches.elsewhere (λ m held acts there. acts-away m acts held there);
            phase = away away-later (let w = away-keeps in w.control);
          }

        -- whatever it is at
        own-step : Phase t s → Step
        own-step (looking looks control stands) = look-step looks control stands
        own-step (away it control) = away-step it control
        own-step (ended none) = record { moves = stretches.over none; phase = ended (over-later none) }

  -- ---- all entries

  -- the control file is open in every state, as long as the process lives
  abbrev IsOpen : TracedState → Type 0
  IsOpen s =
      (p : TracedProcess) → live_process s.system pid ≡ Some p
      → (held : Held) × ((handle_of s.opens k c ≡ Some held) × ((held.mode ≡ WriteExcl) × (held.pid ≡ pid)))

  -- truss has the control file, or the process has ended
  abbrev Holds : TracedState → Type 0
  Holds s = HasControl k pid c s ⊎ (live_process s.system pid ≡ None)

  phase-holds : (t : TrussState) (s : TracedState) → Phase t s → Holds s
  phase-holds t s (looking looks control stands) = inl control
  phase-holds t s (away it control) = inl control
  phase-holds t s (ended none) = inr none

  holds-open : (s : TracedState) → Holds s → IsOpen s
  holds-open s (inl control) p live = (_, (control, (refl, refl)))
  holds-open s (inr none) p live = absurd (none-some p (sym none ∙ live))

  holds-later : (s : TracedState) → IsLawful s → pid < s.system.made → (e : Entry) → IsLegalEntry n s e
      → ((m : ℕ) → handle_of (after s e).opens k m ≡ handle_of s.opens k m) → Holds s → Holds (after s e)
  holds-later s lawful made e legal same (inl control) = inl (same c ∙ control)
  holds-later s lawful made e legal same (inr none) = inr (over-later s lawful made e legal none)

  phase-open : (t : TrussState) (s : TracedState) → Phase t s → IsOpen s
  phase-open t s phase = holds-open s (phase-holds t s phase)

  none-before : (before : List Entry) (f : Entry) (later : List Entry) → [] ≡ before ++ f ∷ later → ⊥
  none-before [] f later is = cc
  none-before (x ∷ before) f later is = cc

  stretch-nil : (s : TracedState) → IsOpen s → IsStretch k pid id c s []
  stretch-nil s opens = record {
    stays_open = λ before later p is live. by before later p is live;
    each = λ before later e x is own. absurd (none-before before e later is);
  }
    where
      by : (before later : List Entry) (p : TracedProcess) → [] ≡ before ++ later
          → live_process (state_after s before).system pid ≡ Some p
          → (held : Held) × ((handle_of (state_after s before).opens k c ≡ Some held) × ((held.mode ≡ WriteExcl)
          × (held.pid ≡ pid)))
      by [] later p is live = opens p live
      by (f ∷ before) later p is live = cc

  stretch-cons : (s : TracedState) (e : Entry) (h : List Entry) → IsOpen s
      → ((x : Exchange) → exchange_of k e ≡ Some x → MovesOneAlone k pid id s x.call)
      → IsStretch k pid id c (after s e) h → IsStretch k pid id c s (e ∷ h)
  stretch-cons s e h opens moves rest = record {
    stays_open = λ before later p is live. open-by before later p is live;
    each = λ before later f x is own. each-by before later f x is own;
  }
    where
      open-by : (before later : List Entry) (p : TracedProcess) → e ∷ h ≡ before ++ later
          → live_process (state_after s before).system pid ≡ Some p
          → (held : Held) × ((handle_of (state_after s before).opens k c ≡ Some held) × ((held.mode ≡ WriteExcl)
          × (held.pid ≡ pid)))
      open-by [] later p is live = opens p live
      open-by (f ∷ before) later p is live =
          let first : e ≡ f = stretch.head-same e f h (before ++ later) is in
          subst (λ (g : Entry). live_process (state_after (after s g) before).system pid ≡ Some p
          → (held : Held) × ((handle_of (state_after (after s g) before).opens k c ≡ Some held)
          × ((held.mode ≡ WriteExcl) × (held.pid ≡ pid)))) first
          (rest.stays_open before later p (stretch.tail-same e f h (before ++ later) is)) live

      each-by : (before later : List Entry) (f : Entry) (x : Exchange) → e ∷ h ≡ before ++ f ∷ later
          → exchange_of k f ≡ Some x → MovesOneAlone k pid id (state_after s before) x.call
      each-by [] later f x is own =
          moves x (ap (exchange_of k) (stretch.head-same e f h later is) ∙ own)
      each-by (g ∷ before) later f x is own =
          let first : e ≡ g = stretch.head-same e g h (before ++ f ∷ later) is in
          subst (λ (i : Entry). MovesOneAlone k pid id (state_after (after s i) before) x.call) first
          (rest.each before later f x (stretch.tail-same e g h (before ++ f ∷ later) is) own)

  later-no-call : (s : TracedState) (e : Entry) (h : List Entry) → StepsNoCall k pid id c s (e ∷ h)
      → StepsNoCall k pid id c (after s e) h
  later-no-call s e h w = record {
    each = λ before later f x p l is. w.each (e ∷ before) later f x p l (ap (λ (es : List Entry). e ∷ es) is);
  }

  -- entries of others alone
  foreign-stretch : (h : List Entry) (s : TracedState) → IsLawful s → pid < s.system.made → IsLegal n s h
      → exchanges k h ≡ [] → Holds s → IsStretch k pid id c s h
  foreign-stretch [] s lawful made legal none holds = stretch-nil s (holds-open s holds)
  foreign-stretch (e ∷ h) s lawful made legal none holds =
      by (exchange_of k e) refl (sym (cons-exchanges k e h) ∙ none)
      (foreign-stretch h (after s e) (history-state n s (e ∷ []) lawful (legal.0, tt))
      (stays-made n s e pid lawful legal.0 made) legal.1)
    where
      by : (o : Option Exchange) → exchange_of k e ≡ o → cons_option o (exchanges k h) ≡ []
          → (exchanges k h ≡ [] → Holds (after s e) → IsStretch k pid id c (after s e) h)
          → IsStretch k pid id c s (e ∷ h)
      by None own none_more rest =
          let foreign = foreign-entry n k s e legal.0 own in
          stretch-cons s e h (holds-open s holds) (λ x is. absurd (none-some x (sym own ∙ is)))
          (rest none_more (holds-later s lawful made e legal.0 foreign.handles holds))
      by (Some x) own none_more rest = cc

  -- what the rest of a history gives
  abbrev Rest : TracedState → List Entry → Type 0
  Rest s h =
      (u : TrussState) → has_functions u.options ≡ true → MakesFunctionCalls u (exchanges k h) → Phase u s
      → ReadsOnlyLast ns (exchanges k h) → IsStretch k pid id c s h

  entry-stretch : (s : TracedState) (e : Entry) (h : List Entry) (t : TrussState) → IsLawful s → pid < s.system.made
      → has_functions t.options ≡ true → IsLegalEntry n s e → Phase t s → StepsNoCall k pid id c s (e ∷ h)
      → Rest (after s e) h → (exchanges k h ≡ [] → Holds (after s e) → IsStretch k pid id c (after s e) h)
      → (o : Option Exchange) → exchange_of k e ≡ o
      → MakesFunctionCalls t (cons_option o (exchanges k h)) → ReadsOnlyLast ns (cons_option o (exchanges k h))
      → IsStretch k pid id c s (e ∷ h)
  entry-stretch s e h t lawful made has legal phase no_call rest last None own makes quiet =
      stretch-cons s e h (phase-open t s phase) (λ x is. absurd (none-some x (sym own ∙ is)))
      (rest t has makes (foreign-phase s lawful made e legal t (foreign-entry n k s e legal own) phase) quiet)
  entry-stretch s e h t lawful made has legal phase no_call rest last (Some x) own makes (inl quiet) =
      let step =
      own-step s lawful made e legal t has x (own-entry n k s e x legal own) makes.0 quiet.0
      (λ p l is live there. no_call.each [] h e x p l refl own is live there) phase in
      stretch-cons s e h (phase-open t s phase)
      (λ y is. subst (λ (z : Exchange). MovesOneAlone k pid id s z.call) (same_Some x y (sym own ∙ is)) step.moves)
      (rest (fed_functions t x.reply) (ap has_functions (fed_functions-options t x.reply) ∙ has) makes.1 step.phase
      quiet.1)
  entry-stretch s e h t lawful made has legal phase no_call rest last (Some x) own makes (inr ends) =
      let its = own-entry n k s e x legal own in
      stretch-cons s e h (phase-open t s phase)
      (λ y is. subst (λ (z : Exchange). MovesOneAlone k pid id s z.call) (same_Some x y (sym own ∙ is))
      (stretches.elsewhere (λ m held acts there. absurd (none-some m (sym (ap acts_by ends.0) ∙ acts)))))
      (last ends.1
      (holds-later s lawful made e legal (own-handles k s e x its (ap keeps_handles ends.0)) (phase-holds t s phase)))

  history-stretch : (h : List Entry) (t : TrussState) (s : TracedState) → IsLawful s → pid < s.system.made
      → has_functions t.options ≡ true → IsLegal n s h → MakesFunctionCalls t (exchanges k h) → Phase t s
      → ReadsOnlyLast ns (exchanges k h) → StepsNoCall k pid id c s h → IsStretch k pid id c s h
  history-stretch [] t s lawful made has legal makes phase quiet no_call = stretch-nil s (phase-open t s phase)
  history-stretch (e ∷ h) t s lawful made has legal makes phase quiet no_call =
      entry-stretch s e h t lawful made has legal.0 phase no_call
      (λ u its more now still. history-stretch h u (after s e) (history-state n s (e ∷ []) lawful (legal.0, tt))
      (stays-made n s e pid lawful legal.0 made) its legal.1 more now still (later-no-call s e h no_call))
      (foreign-stretch h (after s e) (history-state n s (e ∷ []) lawful (legal.0, tt))
      (stays-made n s e pid lawful legal.0 made) legal.1)
      (exchange_of k e) refl (subst (MakesFunctionCalls t) (cons-exchanges k e h) makes)
      (subst (ReadsOnlyLast ns) (cons-exchanges k e h) quiet)

-- ---- the read at the breakpoint

pub read-is : (t : TrussState) (place : ℕ) → has_functions t.options ≡ true → t.stage ≡ ReadingStatus place
    → t.aside ≡ Nothing → next_function_call_of t ≡ Some (read_record (traced_at t place).status)
unfolding next_function_call_of call_beside function_call_of call_of
read-is t place has reads idle =
    ap (λ b. cond b (call_beside t t.stage t.aside) (next_call_of t)) has
    ∙ ap (call_beside t t.stage) idle ∙ ap (function_call_of t) reads

module _ (n k : ℕ) (t : TrussState) (place ns pid id : ℕ) (s : TracedState) (e : Entry) (between : List Entry)
    (w : IsAtStopAtBreakpoint n k t place ns pid id s e between) where
  abbrev c : ℕ
  c = (traced_at t place).control

  -- the process as truss knows it once it was met
  abbrev met : Traced
  met = let m = w.meets in met_at t place m.l m.function

  abbrev now : TracedState
  now = after s e

  pub its : IsOwnEntry k s e w.x
  its = own-entry n k s e w.x w.legal.0 w.own

  pub makes : MakesFunctionCalls t (w.x ∷ exchanges k between)
  makes =
      subst (λ o. MakesFunctionCalls t (cons_option o (exchanges k between))) w.own
      (subst (MakesFunctionCalls t) (cons-exchanges k e between) w.makes)

  pub reads : w.x.call ≡ read_record (traced_at t place).status
  reads = let m = w.meets in same_Some _ _ (sym makes.0 ∙ read-is t place w.has m.reads m.idle)

  pub system-same : now.system ≡ s.system
  system-same =
      let own = its in
      ap (λ (u : TracedState). u.system) (sym own.later)
      ∙ ap (λ (u : TracedState). u.system) (looking-stays s k w.x.call own.answer (ap only_looks reads) own.is)

  pub handles-same : (m : ℕ) → handle_of now.opens k m ≡ handle_of s.opens k m
  handles-same = own-handles k s e w.x its (ap keeps_handles reads)

  pub lawful-now : IsLawful now
  lawful-now = history-state n s (e ∷ []) w.lawful (w.legal.0, tt)

  pub live-now : live_process now.system pid ≡ Some w.process
  live-now = ap (λ (u : TracedSystem). live_process u pid) system-same ∙ w.live

  -- the status that it reads is that of the process
  pub seen-then : status_of_found w.process (representative w.process) ≡ (let m = w.meets in m.l)
  unfolding status_of
  seen-then =
      let own = its in
      let f = w.files in
      let m = w.meets in
      let asked : read_record (Some ns) ≡ w.x.call = sym (reads ∙ ap read_record f.own_status) in
      let sees =
      status-read s k ns (held_by k pid 0 Status Read) f.reads own.answer w.process w.live refl w.ranged
      (ap (answer_to s k) asked ∙ own.is) in
      same_Some _ _ (sym sees.lwp ∙ ap (λ r. option_and_then status_lwp (bytes_in r)) own.replied ∙ m.told)

  -- the process stands as it is told
  pub stands : StandsAtFault w.process id
  stands =
      let m = w.meets in
      told-fault w.process id m.l m.event seen-then (fresh-stands (traced_at t place) m.l m.event m.fresh) w.told
      w.not_lent

  pub own-met : Own (GoesElsewhere k pid s) c ns met met
  own-met =
      let f = w.files in
      record {
        control = refl;
        status = f.own_status;
        known = record { pid = refl; old = refl; seen = refl; stepped = refl };
      }

  pub looks-now : Looks (GoesElsewhere k pid now) c ns met place (fed_functions t w.x.reply)
  looks-now =
      let f = w.files in
      looks-weaker (GoesElsewhere k pid s) (GoesElsewhere k pid now) c ns met place _
      (keeps-goes n k pid id c ns met place s now (same-keeps n k pid id c ns met place s now handles-same f.control))
      (met-looks (GoesElsewhere k pid s) c ns met place t w.x w.meets w.has w.follows_none own-met f.others)

  first-phase : Phase n k pid id c ns met place (fed_functions t w.x.reply) now
  first-phase =
      let f = w.files in
      looking looks-now (handles-same c ∙ f.control)
      (λ p live. subst (λ (q : TracedProcess). StandsAtFault q id) (same_Some w.process p (sym live-now ∙ live)) stands)

  pub breakpoint-stops : OthersOnlyStop pid id between
  breakpoint-stops =
      let before = was-made pid s.system w.process w.lawful.system (found-live s.system pid w.process w.live).0 in
      let made = stays-made n s e pid w.lawful w.legal.0 before in
      let it =
      history-stretch n k pid id c ns met place between (fed_functions t w.x.reply) now lawful-now made
      (ap has_functions (fed_functions-options t w.x.reply) ∙ w.has) w.legal.1 makes.1 first-phase w.reads_last
      w.no_call in
      stretch-stops n k pid id c now w.process between lawful-now
      (history-fits n s (e ∷ []) w.lawful w.fit (w.legal.0, tt)) live-now (fault-stop w.process id stands) w.stops
      w.legal.1 it

  -- and so the process stands behind them
  pub breakpoint-goes : stretch.Goes pid id (state_after now between).system
  breakpoint-goes =
      let before = was-made pid s.system w.process w.lawful.system (found-live s.system pid w.process w.live).0 in
      let made = stays-made n s e pid w.lawful w.legal.0 before in
      let it =
      history-stretch n k pid id c ns met place between (fed_functions t w.x.reply) now lawful-now made
      (ap has_functions (fed_functions-options t w.x.reply) ∙ w.has) w.legal.1 makes.1 first-phase w.reads_last
      w.no_call in
      stretch.stretch-goes n k pid id c now w.process between lawful-now
      (history-fits n s (e ∷ []) w.lawful w.fit (w.legal.0, tt)) live-now (fault-stop w.process id stands) w.stops
      w.legal.1 it
