use Rattle.std.proofs.Common.{◌≡◌, ◌≢◌, ◌==◌, ◌<◌, ◌++◌, ◌⊎◌, ℕ, suc, Bool, true, false, is_some, not, Option, Some, None, List, [], ◌∷◌, length, refl, sym, subst, ap, ◌∙◌, inl, inr, arith}
use Rattle.std.proofs.lemmas.Bool.{cases_eq, eqb-false, false≢true, eqb-true}
use Rattle.std.proofs.lemmas.List.Elements.{All-cons, All-head, All-nil, All-tail}
use Rattle.std.proofs.lemmas.Option.{none-some, same_Some}
use Rattle.std.specs.List.{All, cons_option}
use Rattle.std.specs.Option.{option_and_then}
use Rattle.pr_lawful.proofs.LawfulTurns.EndLemmas.{found-live}
use Rattle.pr_laws.proofs.RepresentativeLemmas.{representative-leads}
use Rattle.pr_lawful.proofs.LawfulStates.HistoryLemmas.{history-state}
use Rattle.pr_lawful.proofs.Following.UseLemmas.{live-lawful}
use Rattle.pr_line.specs.declared.options.Options.{Options}
use Rattle.pr_model.specs.Calls.{answer_to}
use Rattle.pr_model.specs.Handles.{handle_of}
use Rattle.pr_model.specs.Lawful.{IsLawful}
use Rattle.pr_model.specs.Legal.{IsLegal, IsLegalEntry, after, after_turn, state_after}
use Rattle.pr_model.specs.LwpTurns.{LwpTurn, turn_of}
use Rattle.pr_model.specs.Replies.{bytes_in}
use Rattle.pr_model.specs.State.{TracedLwp, TracedProcess, TracedState, TracedSystem, has_agent, live_process, lwp_of}
use Rattle.pr_model.specs.Statuses.{lwpstatus_of, status_of, status_of_found, fault_in, signal_in}
use Rattle.pr_model.specs.Stops.{representative}
use Rattle.pr_model.specs.declared.calls.File.{File}
use Rattle.pr_model.specs.declared.calls.File.TheVariants as file
use Rattle.pr_model.specs.declared.calls.Mode.{Mode}
use Rattle.pr_model.specs.declared.calls.Mode.TheVariants.{Read}
use Rattle.pr_model.specs.declared.calls.Reply.{Reply}
use Rattle.pr_model.specs.declared.events.Act.{Act}
use Rattle.pr_model.specs.declared.events.Act.TheVariants as act
use Rattle.pr_model.specs.declared.events.Actor.{Actor}
use Rattle.pr_model.specs.declared.events.Actor.TheVariants.{Controller, Lwp, Clock}
use Rattle.pr_model.specs.declared.events.Entry.{Entry}
use Rattle.pr_model.specs.declared.events.Turned.{Turned}
use Rattle.pr_model.specs.declared.handles.Held.{Held}
use Rattle.pr_num.specs.Agents.{agent_id}
use Rattle.pr_num.specs.ById.{IsRising}
use Rattle.pr_num.specs.declared.faults.Flt.{Flt}
use Rattle.pr_reached.proofs.RecordsInRange.EntryRanges.{records-range}
use Rattle.pr_reached.proofs.Together.ReachedLemmas.{later-reached}
use Rattle.pr_reached.specs.ByteHistories.{HasBytes, IsEntryOfBytes}
use Rattle.pr_reached.specs.Reached.{IsReached}
use Rattle.pr_rec.specs.InRange.{IsStatus}
use Rattle.pr_rec.specs.NoLwp.{no_lwp}
use Rattle.pr_rec.specs.declared.lwps.LwpStatus.{LwpStatus}
use Rattle.pr_report_laws.proofs.Files.WatchHistories.{cons-exchanges, exchanges-both, no-exchanges}
use Rattle.pr_report_laws.proofs.Invariant.StandLemmas.{Each, EachBut}
use Rattle.pr_report_laws.proofs.Machine.RecordLaws.{status-ended, status-read}
use Rattle.pr_report_laws.proofs.Machine.StayingLwps.{turn-no-agent}
use Rattle.pr_report_laws.proofs.Machine.TurnSettings.{turn-settings}
use Rattle.pr_report_laws.proofs.Watching.HistoryParts.{legal-front, legal-rest}
use Rattle.pr_report_laws.specs.AtBirth.{is_met_if}
use Rattle.pr_truss.specs.FunctionCalls.{next_function_call_of}
use Rattle.pr_truss.specs.FunctionFeeding.{fed_functions}
use Rattle.pr_truss.specs.Marks.{has_functions}
use Rattle.pr_truss.specs.NextCalls.{read_record}
use Rattle.pr_truss.specs.Records.{status_lwp}
use Rattle.pr_truss.specs.Replies.{answer_of}
use Rattle.pr_truss.specs.Trusses.{TrussState, first_truss, traced_at}
use Rattle.pr_truss.specs.declared.marks.Stepped.{Stepped}
use Rattle.pr_truss.specs.declared.processes.Traced.{Traced}
use Rattle.pr_truss.specs.declared.replies.Answer.TheVariants.{Accepted, Interrupted, Gone}
use Rattle.pr_truss.specs.declared.stages.AfterClosing.TheVariants.{OpenNext, GoOn}
use Rattle.pr_truss.specs.declared.stages.OpeningStep.TheVariants as opening
use Rattle.pr_truss.specs.declared.stages.Stage.{Stage}
use Rattle.pr_truss.specs.declared.stages.Stage.TheVariants.{Spawning, OpeningControl, Opening, Polling, ReadingStatus, ReadingText, Running, Closing, Finished}
use Rattle.pr_truss_laws.proofs.Replies.AnswerLemmas.{IsAnswer, answer-is}
use Rattle.pr_truss_laws.proofs.Replies.FunctionOptionLemmas.{fed_functions-options}
use Rattle.pr_truss_laws.proofs.Files.HeldLemmas.{at_place}
use Rattle.pr_truss_laws.proofs.Files.OpensLemmas.{held_by}
use Rattle.pr_truss_laws.proofs.Machine.OutlastLemmas.{others-entry}
use Rattle.pr_truss_laws.proofs.Machine.OverLemmas.{stays-over}
use Rattle.pr_truss_laws.specs.Exchanges.{Exchange, exchange_of, exchanges}
use Rattle.pr_truss_laws.specs.Handles.{handles_of}
use Rattle.pr_function_laws.proofs.Stepping.BreakpointLemmas.{IsForeign, IsOwnEntry, breakpoint-goes, breakpoint-stops, foreign-entry, own-entry, read-is}
use Rattle.pr_function_laws.proofs.OpenedProcesses.OneEventLemmas.{none-unmet, stands-alone}
use Rattle.pr_function_laws.proofs.OpenedProcesses.OpenedLemmas.{Holds, IsFile, KeepsSets, control-made, control-sole, holds-goes, outlasts-sets}
use Rattle.pr_function_laws.proofs.OpenedProcesses.TracedSets.{IsAsSet, IsSetBy, settings-sets}
use Rattle.pr_function_laws.proofs.Marks.SoundLemmas.{first-sound}
use Rattle.pr_function_laws.proofs.Stepping.StretchLemmas as stretch
use Rattle.pr_function_laws.proofs.Stepping.StretchLemmas.{no-agent}
use Rattle.pr_function_laws.specs.Lifted.{GoesElsewhere, HasControl, IsAtStopAtBreakpoint, TellsOfFault, ReadsOnlyLast, StepsNoCall}
use Rattle.pr_function_laws.specs.OneEvent.{HasOneEventAtMost, is_looked_at, unmet}
use Rattle.pr_function_laws.specs.Opened.{OwnsAndTraces, IsFunctionRun, WasNotInterrupted, LiftsForOneAlone, ReadsBreakpoint, TracesAll, functions_at, is_opened}
use Rattle.pr_function_laws.specs.ReachedRuns.{IsReachedFunctionRun}
use Rattle.pr_function_laws.specs.Runs.{MakesFunctionCalls, functions_after}
use Rattle.pr_function_laws.specs.Stretches.{OthersOnlyStop}
use Rattle.pr_function_laws.proofs.Marks.KeptPlaces.{AtStage, Kept, apart-at, first-kept, looks, Position, rests, runs, to_read}
use Rattle.pr_function_laws.proofs.OpenedProcesses.OpenedCalls.{IsSo, Stays, aside-stays, call-kept, lowest, stage-stays, step_of}
use Rattle.pr_function_laws.proofs.OpenedProcesses.StoodLemmas.{DirectsAt, StandsSo, Stood, StoodAt, alone-at, as_stopped, turn-at, unmet-stopped, waits}
use Rattle.pr_function_laws.proofs.OpenedProcesses.StopTurns.{AreAsStopped}
use Rattle.pr_function_laws.proofs.CallTurns.TurnReads.{fresh-new, shown-lwp, told-stop}
use Rattle.pr_function_laws.proofs.Marks.MetLemmas.{event-breaks, fresh-stands}
use Rattle.pr_line.specs.Events.{event_of}
use Rattle.pr_truss.specs.Asides.{marks_at}
use Rattle.pr_truss_laws.specs.Stills.{IsFrozen, IsUndisturbed}
use Rattle.pr_report_laws.proofs.Invariant.OtherSteps.{lives-later}
use Rattle.pr_num.specs.declared.faults.Flt.TheVariants.{Bpt}
use Rattle.pr_model.specs.declared.lwps.Phase.TheVariants.{Faulted as AtFault}
use Rattle.pr_function_laws.proofs.OpenedProcesses.StepCode.{calm-none, code-calm, steps-code}
use Rattle.pr_function_laws.specs.Steppable.{StepsItsCode}

-- Truss with functions along a history: wherever it has come to, until it is interrupted, it has its own files of each
-- process that it has opened, alone, and traces all of it.

-- ---- an entry of others

module _ (n k : ℕ) (s : TracedState) (lawful : IsLawful s) (e : Entry) (legal : IsLegalEntry n s e)
    (foreign : IsForeign k s e) (pid control : ℕ) (its : HasControl k pid control s) where
  made : pid < s.system.made
  made = control-made k pid control s lawful its

  over-now : live_process s.system pid ≡ None → live_process (after s e).system pid ≡ None
  over-now none = stays-over n s e pid lawful legal made none

  elsewhere-sets : ((own : ℕ) → e.actor ≢ Lwp pid own) → KeepsSets pid s (after s e)
  elsewhere-sets apart =
      outlasts-sets pid s (after s e)
      (λ p live. others-entry n s k pid e p lawful (control-sole k pid control s lawful its) legal apart
      (let f = foreign in f.other) live)
      over-now

  pub elsewhere-alone : (o : Options) (t : TrussState) → ((own : ℕ) → e.actor ≢ Lwp pid own) → (q : TracedProcess)
      → live_process (after s e).system pid ≡ Some q
      → (p : TracedProcess) × ((live_process s.system pid ≡ Some p) × IsUndisturbed p q)
  elsewhere-alone o t apart q later =
      lives-later o pid t s (after s e)
      (λ p live. others-entry n s k pid e p lawful (control-sole k pid control s lawful its) legal apart
      (let f = foreign in f.other) live)
      over-now q later

pub turn-later : (s : TracedState) (acting own : ℕ) (turned : Turned) (t : LwpTurn)
    → turn_of s.system acting own ≡ Some t
    → (after s (record { actor = Lwp acting own; act = act.Turn turned })).system ≡ t.system
unfolding after
turn-later s acting own turned t is = ap (λ (o : Option LwpTurn). (after_turn s o).system) is

turned-sets : (s : TracedState) (lawful : IsLawful s) (pid own : ℕ) (t : LwpTurn) (u : TracedState)
    → u.system ≡ t.system → turn_of s.system pid own ≡ Some t
    → (live_process s.system pid ≡ None → live_process u.system pid ≡ None) → KeepsSets pid s u
turned-sets s lawful pid own t u same turn over = record {
  each = λ q live. by q live (live_process s.system pid) refl;
}
  where
    now : (q : TracedProcess) → live_process u.system pid ≡ Some q → live_process t.system pid ≡ Some q
    now q live = ap (λ (x : TracedSystem). live_process x pid) (sym same) ∙ live

    by : (q : TracedProcess) → live_process u.system pid ≡ Some q → (x : Option TracedProcess)
        → live_process s.system pid ≡ x
        → (p : TracedProcess) × ((live_process s.system pid ≡ Some p) × IsAsSet p q)
    by q live None none = absurd (none-some q (sym (over none) ∙ live))
    by q live (Some p) was = (
      p,
      (
        was,
        settings-sets p q
            (turn-settings s.system pid p own t lawful.system was turn q (now q live))
            (λ none. turn-no-agent s.system pid p own t lawful.system was turn none q (now q live)),
      ),
    )

-- what an entry of another controller, of an lwp, or of the clock keeps
pub foreign-sets : (n k : ℕ) (s : TracedState) (lawful : IsLawful s) (actor : Actor) (it : Act)
    (legal : IsLegalEntry n s (record { actor = actor; act = it }))
    (foreign : IsForeign k s (record { actor = actor; act = it })) (pid control : ℕ) (its : HasControl k pid control s)
    → KeepsSets pid s (after s (record { actor = actor; act = it }))
unfolding IsLegalEntry
foreign-sets n k s lawful (Controller j) (act.Call c r) legal foreign pid control its =
    elsewhere-sets n k s lawful (record { actor = Controller j; act = act.Call c r }) legal foreign pid control its
    (λ own same. cc)
foreign-sets n k s lawful (Lwp acting own) (act.Turn turned) legal foreign pid control its =
    let t : LwpTurn = record { system = legal.0; turned = turned } in
    let e : Entry = record { actor = Lwp acting own; act = act.Turn turned } in
    elim (cases_eq acting pid) [
      | inl same ↦ turned-sets s lawful pid own t (after s e) (turn-later s acting own turned t legal.1)
          (subst (λ i. turn_of s.system i own ≡ Some t) same legal.1)
          (over-now n k s lawful e legal foreign pid control its)
      | inr differs ↦ elsewhere-sets n k s lawful e legal foreign pid control its (λ i same. differs (cc))
    ]
foreign-sets n k s lawful Clock (act.Tick m) legal foreign pid control its =
    elsewhere-sets n k s lawful (record { actor = Clock; act = act.Tick m }) legal foreign pid control its
    (λ own same. cc)
foreign-sets n k s lawful _ _ legal foreign pid control its = absurd legal

-- and how the process stands then
module _ (at : Position) (v : Traced) (s : TracedState) (h : StandsSo s at v) where
  left-stands : (u : TracedState)
      → ((q : TracedProcess) → live_process u.system v.pid ≡ Some q
      → (p : TracedProcess) × ((live_process s.system v.pid ≡ Some p) × IsUndisturbed p q)) → StandsSo u at v
  left-stands u alone = record {
    prepared = h.prepared;
    stood = λ q later.
        let was = alone q later in alone-at was.0 q was.1.1 at v (h.stood was.0 was.1.0);
  }

  turned-stands : IsLawful s → (own : ℕ) (t : LwpTurn) (u : TracedState) → u.system ≡ t.system
      → turn_of s.system v.pid own ≡ Some t
      → (live_process s.system v.pid ≡ None → live_process u.system v.pid ≡ None)
      → ((p : TracedProcess) → live_process s.system v.pid ≡ Some p → DirectsAt at p) → StandsSo u at v
  turned-stands lawful own t u same turn over directs = record {
    prepared = h.prepared;
    stood = λ q later. by q later (live_process s.system v.pid) refl;
  }
    where
      by : (q : TracedProcess) → live_process u.system v.pid ≡ Some q → (x : Option TracedProcess)
          → live_process s.system v.pid ≡ x → StoodAt at v q
      by q later None none = absurd (none-some q (sym (over none) ∙ later))
      by q later (Some p) was =
          turn-at s.system v.pid p own t lawful.system was turn q
          (ap (λ (x : TracedSystem). live_process x v.pid) (sym same) ∙ later) at v (directs p was) (h.stood p was)

foreign-stands : (n k : ℕ) (o : Options) (t : TrussState) (s : TracedState) (lawful : IsLawful s) (actor : Actor)
    (it : Act) (legal : IsLegalEntry n s (record { actor = actor; act = it }))
    (foreign : IsForeign k s (record { actor = actor; act = it })) (at : Position) (v : Traced)
    (its : HasControl k v.pid v.control s)
    → ((p : TracedProcess) → live_process s.system v.pid ≡ Some p → DirectsAt at p) → StandsSo s at v
    → StandsSo (after s (record { actor = actor; act = it })) at v
unfolding IsLegalEntry
foreign-stands n k o t s lawful (Controller j) (act.Call c r) legal foreign at v its directs h =
    let e : Entry = record { actor = Controller j; act = act.Call c r } in
    left-stands at v s h (after s e)
    (elsewhere-alone n k s lawful e legal foreign v.pid v.control its o t (λ own same. cc))
foreign-stands n k o t s lawful (Lwp acting own) (act.Turn turned) legal foreign at v its directs h =
    let turn : LwpTurn = record { system = legal.0; turned = turned } in
    let e : Entry = record { actor = Lwp acting own; act = act.Turn turned } in
    elim (cases_eq acting v.pid) [
      | inl same ↦ turned-stands at v s h lawful own turn (after s e) (turn-later s acting own turned turn legal.1)
          (subst (λ i. turn_of s.system i own ≡ Some turn) same legal.1)
          (over-now n k s lawful e legal foreign v.pid v.control its) directs
      | inr differs ↦ left-stands at v s h (after s e)
          (elsewhere-alone n k s lawful e legal foreign v.pid v.control its o t (λ i same. differs (cc)))
    ]
foreign-stands n k o t s lawful Clock (act.Tick m) legal foreign at v its directs h =
    let e : Entry = record { actor = Clock; act = act.Tick m } in
    left-stands at v s h (after s e)
    (elsewhere-alone n k s lawful e legal foreign v.pid v.control its o t (λ own same. cc))
foreign-stands n k o t s lawful _ _ legal foreign at v its directs h = absurd legal

-- ---- a history

pub record Goes (Reached : Type 0) (k : ℕ) (o : Options) (t : TrussState) (s : TracedState) : Type 0 where
  pub lawful : IsLawful s
  pub reached : Reached → IsReached s
  pub options : t.options ≡ o
  pub kept : Kept (IsSo Reached k t.options s) t

module _ (Reached : Type 0) (n k : ℕ) (o : Options) (t : TrussState) (s : TracedState) (g : Goes Reached k o t s)
    (e : Entry) (legal : IsLegalEntry n s e) (bytes : Reached → IsEntryOfBytes e) where
  now-lawful : IsLawful (after s e)
  now-lawful = history-state n s (e ∷ []) g.lawful (legal, tt)

  now-reached : Reached → IsReached (after s e)
  now-reached r =
      later-reached n s (e ∷ []) (g.reached r) (All-cons IsEntryOfBytes e [] (bytes r) (All-nil IsEntryOfBytes))
      (legal, tt)

  pub foreign-goes : IsForeign k s e → Goes Reached k o t (after s e)
  foreign-goes foreign =
      let w = g.kept in
      let lasts : Each (Stays Reached k t.options s (after s e)) t.traced =
      λ q within. lasting (at_place t.traced q) in
      record {
        lawful = now-lawful;
        reached = now-reached;
        options = g.options;
        kept = record {
          follow = w.follow;
          off = w.off;
          stage = stage-stays Reached k t.options s (after s e) t.traced lasts t.stage w.stage;
          beside = aside-stays Reached k t.options s (after s e) t.traced lasts t.aside w.beside;
          apart = w.apart;
        };
      }
    where
      lasting : (v : Traced) → Stays Reached k t.options s (after s e) v
      lasting v at h =
          let held = h.holds in
          record {
            holds = holds-goes k t.options s (after s e) (step_of at) _ _ _ _ _
                (λ m held there own. foreign.handles m ∙ there)
                (foreign-sets n k s g.lawful e.actor e.act legal foreign _ _ held.its) h.holds;
            stands = λ r.
                foreign-stands n k o t s g.lawful e.actor e.act legal foreign at v held.its
                (λ p live. directs-at at p (held.set p live)) (h.stands r);
          }
        where
          -- PR_ASYNC is not set on a process that was opened whole
          directs-at : (at : Position) (p : TracedProcess) → IsSetBy t.options (step_of at) p → DirectsAt at p
          directs-at rests p set =
              let traces : TracesAll t.options p.control = set.0 in
              let all = traces.stops in all.directs
          directs-at _ p set = tt

  pub own-goes : (x : Exchange) → has_functions o ≡ true → IsOwnEntry k s e x → next_function_call_of t ≡ Some x.call
      → WasNotInterrupted x → Goes Reached k o (fed_functions t x.reply) (after s e)
  unfolding IsAnswer
  own-goes x has own next calm =
      let over : (pid : ℕ) → pid < s.system.made → live_process s.system pid ≡ None
      → live_process own.answer.state.system pid ≡ None =
      λ pid made none.
      ap (λ (u : TracedState). live_process u.system pid) own.later
      ∙ stays-over n s e pid g.lawful legal made none in
      let quiet : answer_of own.answer.reply ≢ Interrupted =
      λ interrupted.
      calm.unbroken (subst (IsAnswer x.reply) (ap answer_of (sym own.replied) ∙ interrupted) (answer-is x.reply)) in
      let its : Kept (IsSo Reached k t.options own.answer.state) (fed_functions t own.answer.reply) =
      call-kept Reached n k s g.lawful x.call own.answer own.is over t g.kept g.reached
      (ap has_functions g.options ∙ has) next quiet in
      let there : Kept (IsSo Reached k t.options (after s e)) (fed_functions t x.reply) =
      subst (λ (u : TracedState). Kept (IsSo Reached k t.options u) (fed_functions t x.reply)) own.later
      (subst (λ (r : Reply). Kept (IsSo Reached k t.options own.answer.state) (fed_functions t r)) own.replied its) in
      record {
        lawful = now-lawful;
        reached = now-reached;
        options = fed_functions-options t x.reply ∙ g.options;
        kept = subst (λ (y : Options). Kept (IsSo Reached k y (after s e)) (fed_functions t x.reply))
            (sym (fed_functions-options t x.reply)) there;
      }

module _ (Reached : Type 0) (n k : ℕ) (o : Options) where
  -- what the rest of a history gives
  abbrev Rest : TracedState → List Entry → Type 0
  Rest s h =
      (u : TrussState) → Goes Reached k o u s → MakesFunctionCalls u (exchanges k h)
      → All WasNotInterrupted (exchanges k h)
      → Goes Reached k o (functions_after u (exchanges k h)) (state_after s h)

  entry-goes : (t : TrussState) (s : TracedState) (e : Entry) (h : List Entry) → has_functions o ≡ true
      → Goes Reached k o t s → IsLegalEntry n s e → (Reached → IsEntryOfBytes e) → Rest (after s e) h
      → (x : Option Exchange) → exchange_of k e ≡ x → MakesFunctionCalls t (cons_option x (exchanges k h))
      → All WasNotInterrupted (cons_option x (exchanges k h))
      → Goes Reached k o (functions_after t (cons_option x (exchanges k h))) (state_after (after s e) h)
  entry-goes t s e h has g legal bytes rest None own makes calm =
      rest t (foreign-goes Reached n k o t s g e legal bytes (foreign-entry n k s e legal own)) makes calm
  entry-goes t s e h has g legal bytes rest (Some x) own makes calm =
      rest (fed_functions t x.reply)
      (own-goes Reached n k o t s g e legal bytes x has (own-entry n k s e x legal own) makes.0
      (All-head WasNotInterrupted x (exchanges k h) calm)) makes.1
      (All-tail WasNotInterrupted x (exchanges k h) calm)

  history-goes : (h : List Entry) (t : TrussState) (s : TracedState) → has_functions o ≡ true
      → Goes Reached k o t s → IsLegal n s h → (Reached → HasBytes h) → MakesFunctionCalls t (exchanges k h)
      → All WasNotInterrupted (exchanges k h)
      → Goes Reached k o (functions_after t (exchanges k h)) (state_after s h)
  history-goes [] t s has g legal bytes makes calm =
      subst (λ xs. Goes Reached k o (functions_after t xs) s) (sym (no-exchanges k)) g
  history-goes (e ∷ h) t s has g legal bytes makes calm =
      let rest : Rest (after s e) h =
      λ u its more calm_more.
      history-goes h u (after s e) has its legal.1 (λ r. All-tail IsEntryOfBytes e h (bytes r)) more calm_more in
      subst (λ xs. Goes Reached k o (functions_after t xs) (state_after (after s e) h)) (sym (cons-exchanges k e h))
      (entry-goes t s e h has g legal.0 (λ r. All-head IsEntryOfBytes e h (bytes r)) rest (exchange_of k e) refl
      (subst (MakesFunctionCalls t) (cons-exchanges k e h) makes)
      (subst (All WasNotInterrupted) (cons-exchanges k e h) calm))

-- ---- the front of a history

pub calls-front : (t : TrussState) (xs ys : List Exchange) → MakesFunctionCalls t (xs ++ ys) → MakesFunctionCalls t xs
calls-front t [] ys makes = tt
calls-front t (x ∷ xs) ys makes = (makes.0, calls-front (fed_functions t x.reply) xs ys makes.1)

pub calls-rest : (t : TrussState) (xs ys : List Exchange) → MakesFunctionCalls t (xs ++ ys)
    → MakesFunctionCalls (functions_after t xs) ys
calls-rest t [] ys makes = makes
calls-rest t (x ∷ xs) ys makes = calls-rest (fed_functions t x.reply) xs ys makes.1

pub bytes-front : (before later : List Entry) → HasBytes (before ++ later) → HasBytes before
bytes-front [] later bytes = All-nil IsEntryOfBytes
bytes-front (e ∷ before) later bytes =
    All-cons IsEntryOfBytes e before (All-head IsEntryOfBytes e (before ++ later) bytes)
    (bytes-front before later (All-tail IsEntryOfBytes e (before ++ later) bytes))

-- ---- a record that tells of a fault

none-faulted : no_lwp.fault ≡ None
unfolding no_lwp
none-faulted = refl

not-agent : (p : TracedProcess) (id : ℕ) (l : LwpStatus) → IsRising p.lwps → has_agent p ≡ false
    → status_of_found p (representative p) ≡ l → l.id ≡ id → (fault : Flt) → l.fault ≡ Some fault → id ≢ agent_id
unfolding lwpstatus_of
not-agent p id l rises none told its fault at_fault = by (representative p) refl
  where
    by : (x : Option (ℕ × TracedLwp)) → representative p ≡ x → id ≢ agent_id
    by None leads agent =
        let is : l ≡ no_lwp = sym told ∙ ap (status_of_found p) leads in
        none-some fault (sym none-faulted ∙ ap (λ (x : LwpStatus). x.fault) (sym is) ∙ at_fault)
    by (Some e) leads agent =
        let is : l ≡ lwpstatus_of p e.0 e.1 = sym told ∙ ap (status_of_found p) leads in
        let own : e.0 ≡ agent_id = ap (λ (x : LwpStatus). x.id) (sym is) ∙ its ∙ agent in
        let first = representative-leads p e rises (no-agent (lwp_of p agent_id) none) leads in
        let there : lwp_of p agent_id ≡ Some e.1 = subst (λ n. lwp_of p n ≡ Some e.1) own first.stands in
        false≢true (sym none ∙ ap (λ (x : Option TracedLwp). is_some x) there)

fault-shown : (p : TracedProcess) (id : ℕ) (l : TracedLwp) (fault : Flt) (address : ℕ) → l.phase ≡ AtFault fault address
    → (lwpstatus_of p id l).fault ≡ Some fault
unfolding lwpstatus_of fault_in
fault-shown p id l fault address at = ap fault_in at

signal-shown : (p : TracedProcess) (id : ℕ) (l : TracedLwp) → l.current ≡ None
    → (lwpstatus_of p id l).signal ≡ None
unfolding lwpstatus_of signal_in
signal-shown p id l none = ap signal_in none

pub reading-running : (a b : ℕ) → ReadingStatus a ≡ Running b → ⊥
reading-running a b is = cc

-- ---- the laws

-- the handles of a process that truss traces are of this process
pub own-handles : (k : ℕ) (o : Options) (s : TracedState) (v : Traced) (pid : ℕ)
    → Holds k o s (Some opening.OpenStatus) v.pid v.control v.status v.lstatus v.memory → v.pid ≢ pid
    → All (GoesElsewhere k pid s) (handles_of v)
own-handles k o s v pid h other =
    more v.memory h.its_memory _ (more v.lstatus h.its_lstatus _ (more v.status h.its_status _
    (All-cons (GoesElsewhere k pid s) v.control [] (λ held there same. other (its-pid v.control held there h.its same))
    (All-nil (GoesElsewhere k pid s)))))
  where
    its-pid : {f : File} {mode : Mode} (m : ℕ) (held : Held) → handle_of s.opens k m ≡ Some held
        → handle_of s.opens k m ≡ Some (held_by k v.pid 0 f mode) → held.pid ≡ pid → v.pid ≡ pid
    its-pid {f} {mode} m held there its same =
        ap (λ (x : Held). x.pid) (same_Some (held_by k v.pid 0 f mode) held (sym its ∙ there)) ∙ same

    more : {f : File} (x : Option ℕ) → ((m : ℕ) → x ≡ Some m → IsFile k v.pid f m s) → (ms : List ℕ)
        → All (GoesElsewhere k pid s) ms → All (GoesElsewhere k pid s) (cons_option x ms)
    more None its ms all = all
    more (Some m) its ms all =
        All-cons (GoesElsewhere k pid s) m ms (λ held there same. other (its-pid m held there (its m refl) same)) all

module _ (Reached : Type 0) (k : ℕ) (o : Options) (s : TracedState) (ts : List Traced) (place : ℕ)
    (within : place < length ts) where
  abbrev Is : Position → Type 0
  Is at = IsSo Reached k o s at (at_place ts place)

  -- a process that truss has opened: it runs it next, or does not
  abbrev WholeAt : Stage → Type 0
  WholeAt stage = Is rests ⊎ (Is runs × (stage ≡ Running place))

  opened-whole : (stage : Stage) → is_opened stage place ≡ true → AtStage (IsSo Reached k o s) ts stage
      → WholeAt stage
  opened-whole stage opened w = by stage opened w
    where
      beside : (b : ℕ) → not (b == place) ≡ true → EachBut (IsSo Reached k o s rests) ts b → Is rests
      beside b other others = others place within (λ same. eqb-false b place (negated (b == place) other) (sym same))
        where
          negated : (x : Bool) → not x ≡ true → x ≡ false
          negated true is = absurd (false≢true is)
          negated false is = refl

      run : (b : ℕ) → EachBut (IsSo Reached k o s rests) ts b → IsSo Reached k o s runs (at_place ts b)
          → WholeAt (Running b)
      run b others here = elim (cases_eq place b) [
        | inl same ↦ inr
            (subst (λ i. IsSo Reached k o s runs (at_place ts i)) (sym same) here, ap (λ i. Running i) (sym same))
        | inr other ↦ inl (others place within other)
      ]

      by : (stage : Stage) → is_opened stage place ≡ true → AtStage (IsSo Reached k o s) ts stage → WholeAt stage
      by (Spawning program) is w = inl (w place within)
      by (OpeningControl pid) is w = inl (w place within)
      by (Opening b next) is w = inl (beside b is w.1.0)
      by Polling is w = inl (w place within)
      by (ReadingStatus b) is w = inl (w.1.0 place within)
      by (ReadingText b l from len) is w = inl (w.1.0 place within)
      by (Running b) is w = run b w.1.0 w.1.1
      by (Closing b OpenNext) is w = inl (beside b is w.1.0)
      by (Closing b GoOn) is w = inl (beside b is w.1.0)
      by Finished is w = inl (w place within)
      by _ is w = absurd w

  whole-files : (stage : Stage) → WholeAt stage
      → (let v : Traced = at_place ts place in Holds k o s None v.pid v.control v.status v.lstatus v.memory)
  whole-files stage (inl h) = h.holds
  whole-files stage (inr h) = (h.0).holds

module _ (Reached : Type 0) (k : ℕ) (o : Options) (t : TrussState) (s : TracedState) (g : Goes Reached k o t s)
    (place : ℕ) (within : place < length t.traced) where
  -- its files and what is set on it
  pub goes-holds : is_opened t.stage place ≡ true
      → (let v : Traced = traced_at t place in Holds k t.options s None v.pid v.control v.status v.lstatus v.memory)
  goes-holds opened =
      let w = g.kept in
      whole-files Reached k t.options s t.traced place within t.stage
      (opened-whole Reached k t.options s t.traced place within t.stage opened w.stage)

  pub goes-opened : is_opened t.stage place ≡ true → OwnsAndTraces k o t place s
  goes-opened opened =
      let w = g.kept in
      let pid : ℕ = (traced_at t place).pid in
      let h = goes-holds opened in
      let known = h.known in
      record {
        status = known.number;
        files = record {
          control = h.its;
          own_status = known.is;
          reads = h.its_status known.number known.is;
          others = λ q inside apart.
              let low = lowest Reached k t.options s t.traced t.stage w.stage q inside in
              own-handles k t.options s (at_place t.traced q) pid low.holds
              (apart-at t.traced q place inside within apart w.apart);
        };
        alone = control-sole k pid (traced_at t place).control s g.lawful h.its;
        traces = λ p live. subst (λ (x : Options). TracesAll x p.control) g.options (h.set p live).0;
        no_agent = λ p live. (h.set p live).1;
      }

  -- where no stop is left that stood before truss came, one lwp at most stands on an event
  pub goes-few : Reached → is_opened t.stage place ≡ true → t.stage ≢ Running place → (traced_at t place).old ≡ 0
      → (p : TracedProcess) → live_process s.system (traced_at t place).pid ≡ Some p → HasOneEventAtMost p
  goes-few r opened rests_so new p live =
      let w = g.kept in
      by (opened-whole Reached k t.options s t.traced place within t.stage opened w.stage)
    where
      by-stood : Stood (traced_at t place).marks.flags (traced_at t place).old p → HasOneEventAtMost p
      by-stood (as_stopped all few) = few
      by-stood (waits w none) = unmet (none-unmet p (omega (arith, w.few, new)))

      by : WholeAt Reached k t.options s t.traced place within t.stage → HasOneEventAtMost p
      by (inl h) = let stands = h.stands r in by-stood (stands.stood p live)
      by (inr h) = absurd (rests_so h.1)

  -- where it is run next, one lwp at most stands on an event, or it is run with no run flag
  pub goes-runs : Reached → t.stage ≡ Running place → (p : TracedProcess)
      → live_process s.system (traced_at t place).pid ≡ Some p
      → HasOneEventAtMost p ⊎ ((traced_at t place).marks.flags ≡ 0)
  goes-runs r is p live =
      let w = g.kept in
      let at = subst (AtStage (IsSo Reached k t.options s) t.traced) is w.stage in
      let h : IsSo Reached k t.options s runs (traced_at t place) = at.1.1 in
      let stands = h.stands r in
      let stood = stands.stood p live in
      by stood.0
    where
      by : Stood (traced_at t place).marks.flags (suc (traced_at t place).old) p
          → HasOneEventAtMost p ⊎ ((traced_at t place).marks.flags ≡ 0)
      by (as_stopped all few) = inl few
      by (waits w none) = inr none

  -- where a new stop of it is read each of its lwps is as it stopped
  pub goes-stopped : Reached → t.stage ≡ ReadingStatus place → (traced_at t place).old ≡ 0 → (p : TracedProcess)
      → live_process s.system (traced_at t place).pid ≡ Some p → AreAsStopped p
  goes-stopped r reads new p live =
      let w = g.kept in
      let at = subst (AtStage (IsSo Reached k t.options s) t.traced) reads w.stage in
      let h : IsSo Reached k t.options s rests (traced_at t place) = at.1.0 place within in
      let stands = h.stands r in
      by (stands.stood p live)
    where
      by : Stood (traced_at t place).marks.flags (traced_at t place).old p → AreAsStopped p
      by (as_stopped all few) = all
      by (waits w none) = unmet-stopped p (omega (arith, w.few, new))

-- what truss looks at stands still
module _ (Reached : Type 0) (k : ℕ) (o : Options) (t : TrussState) (s : TracedState) (g : Goes Reached k o t s)
    (r : Reached) (place : ℕ) (p : TracedProcess)
    (live : live_process s.system (traced_at t place).pid ≡ Some p) where
  live-at : (at : ℕ) → (at == place) ≡ true → live_process s.system (traced_at t at).pid ≡ Some p
  live-at at looked =
      subst (λ i. live_process s.system (traced_at t i).pid ≡ Some p) (sym (eqb-true at place looked)) live

  looked-still : (stage : Stage) → is_looked_at stage place ≡ true
      → AtStage (IsSo Reached k t.options s) t.traced stage → IsFrozen p
  looked-still (ReadingStatus at) looked w =
      let h : IsSo Reached k t.options s to_read (traced_at t at) = w.1.1 in
      let stands = h.stands r in stands.stood p (live-at at looked)
  looked-still (ReadingText at l from len) looked w =
      let h : IsSo Reached k t.options s looks (traced_at t at) = w.1.1 in
      let stands = h.stands r in stands.stood p (live-at at looked)
  looked-still (Running at) looked w =
      let h : IsSo Reached k t.options s runs (traced_at t at) = w.1.1 in
      let stands = h.stands r in (stands.stood p (live-at at looked)).1
  looked-still _ looked w = absurd (false≢true looked)

  pub goes-still : is_looked_at t.stage place ≡ true → IsFrozen p
  goes-still looked = let w = g.kept in looked-still t.stage looked w.stage

module _ (n k : ℕ) (o : Options) (s : TracedState) (h : List Entry) (run : IsFunctionRun n k o s h) where
  first-goes : (Reached : Type 0) → (Reached → IsReached s) → Goes Reached k o (first_truss o) s
  first-goes Reached reached =
      let sound = first-sound o (λ (step : Stepped). Unit {0}) in
      let names = sound.names in
      record {
        lawful = run.lawful;
        reached = reached;
        options = names.options;
        kept = first-kept (IsSo Reached k (first_truss o).options s) o run.follows_none;
      }

  module _ (before later : List Entry) (is : h ≡ before ++ later) (calm : All WasNotInterrupted (exchanges k before))
    where
      legal-before : IsLegal n s before
      legal-before = legal-front n s before later (subst (IsLegal n s) is run.legal)

      calls-both : MakesFunctionCalls (first_truss o) (exchanges k before ++ exchanges k later)
      calls-both =
          subst (MakesFunctionCalls (first_truss o)) (ap (exchanges k) is ∙ exchanges-both k before later) run.makes

      pub before-goes : (Reached : Type 0) → (Reached → IsReached s) → (Reached → HasBytes before)
          → Goes Reached k o (functions_at k o before) (state_after s before)
      before-goes Reached reached bytes =
          history-goes Reached n k o before (first_truss o) s run.has (first-goes Reached reached) legal-before bytes
          (calls-front (first_truss o) (exchanges k before) (exchanges k later) calls-both) calm

  -- truss has its files of each that it opened, alone, and traces all of it
  pub record HoldsUnbroken : Type 0 where
    pub each : (before later : List Entry) (place : ℕ) → h ≡ before ++ later
        → All WasNotInterrupted (exchanges k before) → place < length (functions_at k o before).traced
        → is_opened (functions_at k o before).stage place ≡ true
        → OwnsAndTraces k o (functions_at k o before) place (state_after s before)

  pub holds-opened : HoldsUnbroken
  holds-opened = record {
    each = λ before later place is calm within opened.
        goes-opened ⊥ k o (functions_at k o before) (state_after s before)
        (before-goes before later is calm ⊥ (λ none. absurd none) (λ none. absurd none)) place within opened;
  }

-- ---- the events of what is opened

module _ (n k : ℕ) (o : Options) (s : TracedState) (h : List Entry) (run : IsReachedFunctionRun n k o s h) where
  module _ (before later : List Entry) (is : h ≡ before ++ later) (calm : All WasNotInterrupted (exchanges k before))
      (place : ℕ) (p : TracedProcess)
      (live : live_process (state_after s before).system (traced_at (functions_at k o before) place).pid ≡ Some p)
    where
      goes-there : Goes (Unit {0}) k o (functions_at k o before) (state_after s before)
      goes-there =
          before-goes n k o s h run.of before later is calm (Unit {0}) (λ r. run.reached)
          (λ r. bytes-front before later (subst HasBytes is run.bytes))

      pub few-there : place < length (functions_at k o before).traced
          → is_opened (functions_at k o before).stage place ≡ true
          → (functions_at k o before).stage ≢ Running place → (traced_at (functions_at k o before) place).old ≡ 0
          → HasOneEventAtMost p
      few-there within opened rests_so new =
          goes-few (Unit {0}) k o (functions_at k o before) (state_after s before) goes-there place within tt opened
          rests_so new p live

      pub still-there : is_looked_at (functions_at k o before).stage place ≡ true → IsFrozen p
      still-there looked =
          goes-still (Unit {0}) k o (functions_at k o before) (state_after s before) goes-there tt place p live looked

  -- until the first interrupt one event of each at most is unread
  pub record HasOneEventUnbroken : Type 0 where
    pub few : (before later : List Entry) (place : ℕ) (p : TracedProcess) → h ≡ before ++ later
        → All WasNotInterrupted (exchanges k before) → place < length (functions_at k o before).traced
        → is_opened (functions_at k o before).stage place ≡ true → (functions_at k o before).stage ≢ Running place
        → (traced_at (functions_at k o before) place).old ≡ 0
        → live_process (state_after s before).system (traced_at (functions_at k o before) place).pid ≡ Some p
        → HasOneEventAtMost p
    pub still : (before later : List Entry) (place : ℕ) (p : TracedProcess) → h ≡ before ++ later
        → All WasNotInterrupted (exchanges k before) → is_looked_at (functions_at k o before).stage place ≡ true
        → live_process (state_after s before).system (traced_at (functions_at k o before) place).pid ≡ Some p
        → IsFrozen p

  pub one-event-each : HasOneEventUnbroken
  one-event-each = record {
    few = λ before later place p is calm within opened rests_so new live.
        few-there before later is calm place p live within opened rests_so new;
    still = λ before later place p is calm looked live. still-there before later is calm place p live looked;
  }

  -- ---- the stop at a breakpoint

  module _ (before between later : List Entry) (e : Entry) (place id : ℕ)
      (is : h ≡ before ++ e ∷ (between ++ later)) (calm : All WasNotInterrupted (exchanges k before))
      (w : ReadsBreakpoint k (functions_at k o before) place id (state_after s before) e between) where
    abbrev t : TrussState
    t = functions_at k o before

    abbrev now : TracedState
    now = state_after s before

    bytes-before : HasBytes before
    bytes-before = bytes-front before (e ∷ (between ++ later)) (subst HasBytes is run.bytes)

    goes : Goes (Unit {0}) k o t now
    goes =
        before-goes n k o s h run.of before (e ∷ (between ++ later)) is calm (Unit {0}) (λ r. run.reached)
        (λ r. bytes-before)

    legal-now : IsLegal n now (e ∷ (between ++ later))
    legal-now = legal-rest n s before (e ∷ (between ++ later)) (subst (IsLegal n s) is run.of.legal)

    legal-here : IsLegal n now (e ∷ between)
    legal-here = (legal-now.0, legal-front n (after now e) between later legal-now.1)

    pub reached-now : IsReached now
    reached-now =
        later-reached n s before run.reached bytes-before
        (legal-before n k o s h run.of before (e ∷ (between ++ later)) is calm)

    makes-now : MakesFunctionCalls t (exchanges k (e ∷ between))
    makes-now =
        calls-front t (exchanges k (e ∷ between)) (exchanges k later)
        (subst (MakesFunctionCalls t) (exchanges-both k (e ∷ between) later)
        (calls-rest (first_truss o) (exchanges k before) (exchanges k (e ∷ (between ++ later)))
        (calls-both n k o s h run.of before (e ∷ (between ++ later)) is calm)))

    has-now : has_functions t.options ≡ true
    has-now = let g = goes in ap has_functions g.options ∙ run.of.has

    opened : OwnsAndTraces k o t place now
    opened =
        let m = w.meets in
        goes-opened (Unit {0}) k o t now goes place m.within (ap (λ (x : Stage). is_opened x place) m.reads)

    own : IsOwnEntry k now e w.x
    own = own-entry n k now e w.x legal-now.0 w.own

    -- its call reads the status
    reads-status : w.x.call ≡ read_record (traced_at t place).status
    reads-status =
        let m = w.meets in
        let makes : MakesFunctionCalls t (w.x ∷ exchanges k between) =
        subst (λ x. MakesFunctionCalls t (cons_option x (exchanges k between))) w.own
        (subst (MakesFunctionCalls t) (cons-exchanges k e between) makes-now) in
        same_Some _ _ (sym makes.0 ∙ read-is t place has-now m.reads m.idle)

    -- a process of which the status was read lives
    lives : (x : Option TracedProcess) → live_process now.system (traced_at t place).pid ≡ x
        → (p : TracedProcess) × (live_process now.system (traced_at t place).pid ≡ Some p)
    lives (Some p) live = (p, live)
    lives None ended =
        let m = w.meets in
        let its = opened in
        let f = its.files in
        let call = own in
        let sees =
        status-ended now k its.status (held_by k (traced_at t place).pid 0 file.Status Read) f.reads call.answer refl
        ended
        (ap (answer_to now k) (sym (ap read_record f.own_status) ∙ sym reads-status) ∙ call.is) in
        absurd (not-gone (sym (ap answer_of call.replied ∙ m.accepted) ∙ sees.gone))
      where
        not-gone : Accepted ≡ Gone → ⊥
        not-gone same = cc

    -- the record is that of the representative
    seen : (p : TracedProcess) → live_process now.system (traced_at t place).pid ≡ Some p
        → IsStatus (status_of now.system (traced_at t place).pid p)
        → status_of_found p (representative p) ≡ (let m = w.meets in m.l)
    unfolding status_of
    seen p live ranged =
        let m = w.meets in
        let its = opened in
        let f = its.files in
        let call = own in
        let sees =
        status-read now k its.status (held_by k (traced_at t place).pid 0 file.Status Read) f.reads call.answer p
        live refl
        ranged (ap (answer_to now k) (sym (ap read_record f.own_status) ∙ sym reads-status) ∙ call.is) in
        same_Some _ m.l (sym sees.lwp ∙ ap (λ r. option_and_then status_lwp (bytes_in r)) call.replied ∙ m.told)

    -- the lwp of which it tells is at its fault, and is not the agent
    tells : (p : TracedProcess) → live_process now.system (traced_at t place).pid ≡ Some p
        → IsStatus (status_of now.system (traced_at t place).pid p) → TellsOfFault (let m = w.meets in m.l) id
    tells p live ranged =
        let m = w.meets in
        let its = opened in
        let g = goes in
        let lawful_process = live-lawful now.system (traced_at t place).pid p g.lawful.system live in
        let on = fresh-stands (traced_at t place) m.l m.event m.fresh in
        let shown = shown-lwp p m.l m.event lawful_process.rising (seen p live ranged) on in
        let breaks = event-breaks t.options (marks_at t place) m.l.id m.event m.function m.at_breakpoint in
        let stops =
        told-stop p m.l.id shown.lwp Bpt breaks.pc (ap event_of (sym shown.is) ∙ on ∙ ap (λ x. Some x) breaks.is) in
        let new = fresh-new (traced_at t place) m.l m.event m.fresh in
        let all =
        goes-stopped (Unit {0}) k o t now goes place m.within tt m.reads
        (eqb-true (traced_at t place).old 0 new.new) p live in
        let stands = all m.l.id shown.lwp shown.there in
        let at = stands.at_fault Bpt stops in
        let faulted : m.l.fault ≡ Some Bpt =
        ap (λ (x : LwpStatus). x.fault) shown.is ∙ fault-shown p m.l.id shown.lwp Bpt at.address at.phase in
        record {
          its = w.its;
          no_agent = not-agent p id m.l lawful_process.rising (its.no_agent p live) (seen p live ranged) w.its Bpt
              faulted;
          fault = Bpt;
          at_fault = faulted;
          no_signal = ap (λ (x : LwpStatus). x.signal) shown.is ∙ signal-shown p m.l.id shown.lwp at.no_current;
        }

    -- it has lent its memory to nobody, since no lwp of a lender meets a fault
    unlent : (p : TracedProcess) → live_process now.system (traced_at t place).pid ≡ Some p
        → IsStatus (status_of now.system (traced_at t place).pid p) → p.borrower ≡ None
    unlent p live ranged =
        let m = w.meets in
        let g = goes in
        let lawful_process = live-lawful now.system (traced_at t place).pid p g.lawful.system live in
        let on = fresh-stands (traced_at t place) m.l m.event m.fresh in
        let shown = shown-lwp p m.l m.event lawful_process.rising (seen p live ranged) on in
        let breaks = event-breaks t.options (marks_at t place) m.l.id m.event m.function m.at_breakpoint in
        let stops =
        told-stop p m.l.id shown.lwp Bpt breaks.pc (ap event_of (sym shown.is) ∙ on ∙ ap (λ x. Some x) breaks.is) in
        let new = fresh-new (traced_at t place) m.l m.event m.fresh in
        let few =
        goes-few (Unit {0}) k o t now goes place m.within tt (ap (λ (x : Stage). is_opened x place) m.reads)
        (λ runs. reading-running place place (sym m.reads ∙ runs)) (eqb-true (traced_at t place).old 0 new.new) p
        live in
        let met = stands-alone p few m.l.id shown.lwp shown.there (ap is_met_if stops) in
        met.not_lent Bpt
        (ap (λ (x : TracedLwp). x.control.stop) (same_Some met.lwp shown.lwp (sym met.there ∙ shown.there)) ∙ stops)

    -- the status file that truss has of it
    pub status-handle : ℕ
    status-handle = let its = opened in its.status

    pub handle-is : (traced_at t place).status ≡ Some status-handle
    unfolding status-handle
    handle-is = let its = opened in let f = its.files in f.own_status

    -- so it is at its stop, whatever comes then
    stop-with : (h : List Entry) → IsLegal n now (e ∷ h) → MakesFunctionCalls t (exchanges k (e ∷ h))
        → ReadsOnlyLast status-handle (exchanges k h)
        → StepsNoCall k (traced_at t place).pid id (traced_at t place).control (after now e) h
        → IsAtStopAtBreakpoint n k t place status-handle (traced_at t place).pid id now e h
    unfolding status-handle
    stop-with h legal makes quiet calm_steps =
        let it = lives (live_process now.system (traced_at t place).pid) refl in
        let its = opened in
        let at = reached-now in
        let g = goes in
        let records = records-range now.system g.lawful.system at.in_range in
        let ranged =
        (records.processes (traced_at t place).pid it.0
        (found-live now.system (traced_at t place).pid it.0 it.1).0).status in
        record {
          has = has-now;
          follows_none = let kept = g.kept in kept.follow;
          lawful = g.lawful;
          fit = at.fit;
          legal = legal;
          makes = makes;
          x = w.x;
          own = w.own;
          meets = w.meets;
          files = its.files;
          process = it.0;
          live = it.1;
          ranged = ranged;
          told = tells it.0 it.1 ranged;
          not_lent = unlent it.0 it.1 ranged;
          stops = let traces = its.traces it.0 it.1 in traces.stops;
          reads_last = quiet;
          no_call = calm_steps;
        }

    -- and where truss steps the lwp the first instruction of the function stands there
    stop-code : StepsItsCode k (traced_at t place).pid id (traced_at t place).control w.f (after now e) between
    unfolding stop-with
    stop-code =
        let makes : MakesFunctionCalls t (w.x ∷ exchanges k between) =
        subst (λ x. MakesFunctionCalls t (cons_option x (exchanges k between))) w.own
        (subst (MakesFunctionCalls t) (cons-exchanges k e between) makes-now) in
        let first : MakesFunctionCalls t (exchanges k (e ∷ [])) =
        subst (MakesFunctionCalls t)
        (ap (λ ys. cons_option (exchange_of k e) ys) (sym (no-exchanges k)) ∙ sym (cons-exchanges k e []))
        (subst (λ x. MakesFunctionCalls t (cons_option x [])) (sym w.own) (makes.0, tt)) in
        let empty =
        stop-with [] (legal-here.0, tt) first (subst (ReadsOnlyLast status-handle) (sym (no-exchanges k)) tt)
        (calm-none k (traced_at t place).pid id (traced_at t place).control (after now e)) in
        steps-code n k t place status-handle (traced_at t place).pid id now e empty w.f w.named w.few w.steppable
        between
        legal-here.1 makes.1 (w.reads_last status-handle handle-is)

    stop-calm : StepsNoCall k (traced_at t place).pid id (traced_at t place).control (after now e) between
    stop-calm =
        code-calm k (traced_at t place).pid id (traced_at t place).control w.f w.steppable (after now e) between
        stop-code

    pub stop-there : IsAtStopAtBreakpoint n k t place status-handle (traced_at t place).pid id now e between
    stop-there = stop-with between legal-here makes-now (w.reads_last status-handle handle-is) stop-calm

    -- the read at the breakpoint is this one
    pub stop-function : (let it = stop-there in let m = it.meets in m.function) ≡ (let m = w.meets in m.function)
    unfolding stop-there stop-with
    stop-function = refl

    pub stop-lwp : (let it = stop-there in let m = it.meets in m.l) ≡ (let m = w.meets in m.l)
    unfolding stop-there stop-with
    stop-lwp = refl

    alone-again : OthersOnlyStop (traced_at t place).pid id between
    alone-again =
        breakpoint-stops n k t place status-handle (traced_at t place).pid id now e between stop-there

    -- and so the process stands behind them
    pub alone-goes : stretch.Goes (traced_at t place).pid id (state_after (after now e) between).system
    alone-goes =
        breakpoint-goes n k t place status-handle (traced_at t place).pid id now e between stop-there

  pub lifts-alone : LiftsForOneAlone k o s h
  lifts-alone = record {
    each = λ before between later e place id is calm w.
        alone-again before between later e place id is calm w;
    code = λ before between later e place id is calm w.
        stop-code before between later e place id is calm w;
  }

pub ruleset opens = (lifts-alone)
