use Rattle.std.proofs.Common.{Bool, append_assoc, ◌≡◌, ◌≢◌, ◌++◌, ℕ, false, Option, Some, None, List, [], ◌∷◌, refl, sym, subst, ap, ◌∙◌, inl, inr}
use Rattle.std.proofs.lemmas.Bool.{cases_Bool, cases_eq, eq-eqb, false≢true}
use Rattle.std.proofs.lemmas.Option.{none-some, same_Some}
use Rattle.std.specs.List.{All, cons_option}
use Rattle.pr_line.specs.Selections.{is_selected}
use Rattle.pr_line.specs.declared.events.Event.{Event}
use Rattle.pr_line.specs.declared.options.Options.{Options}
use Rattle.pr_model.proofs.TurnLemmas.{turn-taken}
use Rattle.pr_model.specs.Events.{events_of}
use Rattle.pr_model.specs.Legal.{IsLegal, IsLegalEntry, after, after_turn, state_after}
use Rattle.pr_model.specs.LwpTurns.{LwpTurn, turn_of}
use Rattle.pr_model.specs.State.{TracedProcess, TracedState, TracedSystem, live_process}
use Rattle.pr_model.specs.declared.events.Act.{Act}
use Rattle.pr_model.specs.declared.events.Act.TheVariants as act
use Rattle.pr_model.specs.declared.events.Actor.{Actor}
use Rattle.pr_model.specs.declared.events.Actor.TheVariants.{Controller, Lwp, Clock}
use Rattle.pr_model.specs.declared.events.Entry.{Entry}
use Rattle.pr_reached.proofs.Together.ReachedLemmas.{later-reached}
use Rattle.pr_reached.specs.ByteHistories.{HasBytes}
use Rattle.pr_report_laws.proofs.Files.WatchHistories.{cons-exchanges, exchanges-both}
use Rattle.pr_report_laws.proofs.Machine.FrameLaws.{no-events}
use Rattle.pr_report_laws.proofs.SeenChildren.Splits.{state_after-both}
use Rattle.pr_report_laws.specs.Positions.{HasEvent}
use Rattle.pr_report_laws.specs.Reads.{ReadsStatusOf}
use Rattle.pr_report_laws.specs.Shown.{LwpEvent, picked}
use Rattle.pr_truss.specs.NextCalls.{read_record}
use Rattle.pr_truss.specs.Trusses.{TrussState, traced_at}
use Rattle.pr_truss.specs.declared.processes.Traced.{Traced}
use Rattle.pr_truss.specs.declared.stages.Stage.{Stage}
use Rattle.pr_truss.specs.declared.stages.Stage.TheVariants.{Running}
use Rattle.pr_truss_laws.proofs.Files.HeldLemmas.{at_place}
use Rattle.pr_truss_laws.proofs.Machine.StillLemmas.{frozen-turns}
use Rattle.pr_truss_laws.specs.Exchanges.{Exchange, exchange_of, exchanges}
use Rattle.pr_truss_laws.specs.Stills.{IsUndisturbed}
use Rattle.pr_function_laws.proofs.Stepping.BreakpointLemmas.{foreign-entry}
use Rattle.pr_function_laws.proofs.Pending.EventTurns.{LeavesEvent, all-picked, fewer-picked, turn-leaves}
use Rattle.pr_function_laws.proofs.Pending.FrontLemmas as fronts
use Rattle.pr_function_laws.proofs.Marks.KeptPlaces.{Kept}
use Rattle.pr_function_laws.proofs.OpenedProcesses.OpenedCalls.{IsSo}
use Rattle.pr_function_laws.proofs.OpenedProcesses.OpenedLaws.{Goes, few-there, foreign-sets, goes-holds, holds-opened, still-there}
use Rattle.pr_function_laws.proofs.OpenedProcesses.OpenedLemmas.{Holds, holds-goes}
use Rattle.pr_function_laws.proofs.Pending.PendingCalls.{IsPending}
use Rattle.pr_function_laws.proofs.Pending.PendingPlaces.{Pends}
use Rattle.pr_function_laws.proofs.Pending.PendingReads.{none-old, tells}
use Rattle.pr_function_laws.proofs.Pending.PendingWalk.{IsStill, On, Pending, first-pends, not-to-run, on-stays, on-turns, still-stands}
use Rattle.pr_function_laws.proofs.OrdinaryTruss.OrdinaryFiles.{run-halfway}
use Rattle.pr_function_laws.proofs.OrdinaryTruss.OrdinaryStops.{FitsAside}
use Rattle.pr_function_laws.specs.EventsRead.{EventsAreRead, HasWhole}
use Rattle.pr_function_laws.specs.Lifted.{IsNoRead}
use Rattle.pr_function_laws.specs.OneEvent.{is_looked_at}
use Rattle.pr_function_laws.specs.ReachedRuns.{IsReachedFunctionRun}
use Rattle.pr_function_laws.specs.Opened.{IsFunctionRun, WasNotInterrupted, functions_at}
use Rattle.pr_function_laws.specs.OrdinaryRuns.{HasNoOldLeft}
use Rattle.pr_function_laws.specs.ToldTurns.{IsReadAgain}
use Rattle.std.proofs.lemmas.List.Elements.{All-append, All-weaker}
use Rattle.pr_function_laws.proofs.Pending.FrontLemmas.{all-entry}
use Rattle.pr_function_laws.proofs.OpenedProcesses.OpenedLaws.{bytes-front}
use Rattle.pr_report_laws.proofs.Watching.HistoryParts.{legal-front}
use Rattle.pr_function_laws.proofs.CallTurns.TurnWalks.{own-in}
use Rattle.pr_function_laws.specs.Runs.{functions_on}

-- Each event of a process that truss selects and that comes while it has opened the process whole is told by the next
-- read of it.

module _ (n k : ℕ) (o : Options) (s : TracedState) (h : List Entry) (run : IsReachedFunctionRun n k o s h)
    (front between later : List Entry) (e again : Entry) (place : ℕ)
    (event : LwpEvent) (is : h ≡ front ++ e ∷ (between ++ again ∷ later)) (picks : Event → Bool)
    (fewer : (ev : Event) → is_selected o ev ≡ false → picks ev ≡ false) (whole : HasWhole k o front place)
    (came : picked picks (traced_at (functions_at k o front) place).pid (events_of (state_after s front) e)
    ≡ event ∷ []) (exchange : Exchange) (read : IsReadAgain k o s front place e between again exchange) where
  abbrev t : TrussState
  t = functions_at k o front

  abbrev was : Traced
  was = at_place t.traced place

  abbrev now : TracedState
  now = state_after s front

  here : Goes ⊥ k o t now
  here = fronts.here n k o s h run.of front e (between ++ again ∷ later) is whole.calm

  legal : IsLegalEntry n now e
  legal = fronts.legal n k o s h run.of front e (between ++ again ∷ later) is whole.calm

  -- ---- the turn

  abbrev First : Type 0
  First = Pending k o s was (On event) (front ++ e ∷ [])

  module _ (own : ℕ) (turn : LwpTurn) (taken : turn_of now.system was.pid own ≡ Some turn)
      (actor_is : e ≡ record { actor = Lwp was.pid own; act = act.Turn turn.turned })
      (after_is : (after now e).system ≡ turn.system) where
    p : TracedProcess
    p = let it = turn-taken now.system was.pid own turn taken in it.process

    live : live_process now.system was.pid ≡ Some p
    unfolding p
    live = let it = turn-taken now.system was.pid own turn taken in it.live

    away : is_looked_at t.stage place ≡ false
    away = elim (cases_Bool (is_looked_at t.stage place)) [
      | inl looked ↦ absurd (none-some turn
          (sym (frozen-turns now.system was.pid p live
          (still-there n k o s h run front (e ∷ (between ++ again ∷ later)) is whole.calm place p live
          looked) own) ∙ taken))
      | inr other ↦ other
    ]

    not-run : t.stage ≢ Running place
    not-run runs =
        false≢true (sym away ∙ ap (λ (x : Stage). is_looked_at x place) runs ∙ eq-eqb place place refl)

    left : LeavesEvent was.pid own picks event turn
    left =
        let g = here in
        let holds = holds-opened n k o s h run.of in
        let owns = holds.each front (e ∷ (between ++ again ∷ later)) place is whole.calm whole.within whole.opened in
        let all = owns.traces p live in
        let stops = all.stops in
        let at = later-reached n s front run.reached
        (bytes-front front (e ∷ (between ++ again ∷ later)) (subst HasBytes is run.bytes))
        (legal-front n s front (e ∷ (between ++ again ∷ later)) (subst (IsLegal n s) is run.of.legal)) in
        turn-leaves now was.pid own p turn g.lawful.system at.fit live taken stops.directs picks
        (fewer-picked p.control (is_selected o) picks fewer (all-picked o p.control all)) event
        (ap (λ (x : Entry). picked picks was.pid (events_of now x)) (sym actor_is) ∙ came)
        (few-there n k o s h run front (e ∷ (between ++ again ∷ later)) is whole.calm place p live
        whole.within whole.opened not-run whole.new)

    fits : FitsAside t.aside t.stage
    fits =
        let half =
        run-halfway n k o s front (e ∷ (between ++ again ∷ later))
        (subst (λ (es : List Entry). IsFunctionRun n k o s es) is run.of) in
        let f = half.follows in
        let fit = f.fit in fit.fits

    no-exchange : exchange_of k e ≡ None
    no-exchange = ap (exchange_of k) actor_is

    first : First
    first =
        let g = here in
        let f = foreign-entry n k now e legal no-exchange in
        let files : Holds k t.options now None was.pid was.control was.status was.lstatus was.memory =
        goes-holds ⊥ k o t now g place whole.within whole.opened in
        let holds : Holds k o now None was.pid was.control was.status was.lstatus was.memory =
        subst (λ (y : Options). Holds k y now None was.pid was.control was.status was.lstatus was.memory) g.options
        files in
        let w = left in
        record {
          pends = subst (Kept (Pends was.pid was))
              (sym (fronts.pushed n k o s h run.of front e (between ++ again ∷ later) is whole.calm
              ∙ ap (functions_on t) no-exchange))
              (first-pends (IsSo ⊥ k t.options now) t g.kept place whole.within whole.new fits whole.opened
              (not-to-run t.stage place away));
          is = subst (λ (u : TracedState). IsPending k o was (On event) u)
              (sym (fronts.next-state n k o s h run.of front e (between ++ again ∷ later) is whole.calm)) (record {
                holds = holds-goes k o now (after now e) None was.pid was.control was.status was.lstatus was.memory
                    (λ m held there own. f.handles m ∙ there)
                    (foreign-sets n k now g.lawful e.actor e.act legal f was.pid was.control holds.its) holds;
                has = λ q later_live.
                    subst (λ i. HasEvent q i event.event) (sym w.its)
                    (subst (λ (x : TracedProcess). HasEvent x own event.event)
                    (same_Some w.process q
                    (sym w.live ∙ ap (λ (x : TracedSystem). live_process x was.pid) (sym after_is) ∙ later_live))
                    w.has);
              });
        }

  none-comes : {A : Type 0} → ((own : ℕ) → e.actor ≢ Lwp was.pid own) → A
  none-comes apart =
      let both : [] ≡ event ∷ [] = sym (no-events picks was.pid now e apart) ∙ came in absurd (cc)

  comes : (actor : Actor) (it : Act) → e ≡ record { actor = actor; act = it }
      → IsLegalEntry n now (record { actor = actor; act = it }) → First
  unfolding IsLegalEntry after
  comes (Controller j) (act.Call d r) same legal_here =
      none-comes (λ own at. let it : Controller j ≡ Lwp was.pid own = ap (λ (x : Entry). x.actor) (sym same) ∙ at in cc)
  comes (Lwp acting own) (act.Turn turned) same legal_here = elim (cases_eq acting was.pid) [
    | inl one ↦ first own (record { system = legal_here.0; turned = turned })
        (subst (λ i. turn_of now.system i own ≡ Some (record { system = legal_here.0; turned = turned })) one
        legal_here.1)
        (same ∙ ap (λ i. record { actor = Lwp i own; act = act.Turn turned }) one)
        (ap (λ (x : Entry). (after now x).system) same
        ∙ ap (λ (x : Option LwpTurn). (after_turn now x).system) legal_here.1)
    | inr differs ↦ none-comes (λ i at.
        differs (let it : Lwp acting own ≡ Lwp was.pid i = ap (λ (x : Entry). x.actor) (sym same) ∙ at in cc))
  ]
  comes Clock (act.Tick moment) same legal_here =
      none-comes (λ own at. let it : Clock ≡ Lwp was.pid own = ap (λ (x : Entry). x.actor) (sym same) ∙ at in cc)
  comes _ _ same legal_here = absurd legal_here

  -- ---- until the read

  abbrev last : List Entry
  last = front ++ e ∷ between

  parts : (front ++ e ∷ []) ++ between ≡ last
  parts = append_assoc front (e ∷ []) between

  status : ℕ
  status = let w = comes e.actor e.act refl legal in let p = w.is in let f = p.holds in let l = f.known in l.number

  status-here : was.status ≡ Some status
  unfolding status
  status-here = let w = comes e.actor e.act refl legal in let p = w.is in let f = p.holds in let l = f.known in l.is

  still : (done rest : List Entry) (f : Entry) (x : Exchange) → between ≡ done ++ f ∷ rest → exchange_of k f ≡ Some x
      → IsStill was x
  still done rest f x at own =
      let quiet = all-entry (IsNoRead status) k done rest f x
      (subst (λ (es : List Entry). All (IsNoRead status) (exchanges k es)) at (read.quiet status status-here)) own in
      record {
        calm = record { unbroken = quiet.no_interrupt };
        no_read = λ number named same.
            quiet.no_read (same ∙ ap read_record (sym named ∙ status-here));
      }

  no-own : exchange_of k e ≡ None
  no-own = by (exchange_of k e) refl
    where
      by : (x : Option Exchange) → exchange_of k e ≡ x → exchange_of k e ≡ None
      by None none = none
      by (Some x) own = none-comes (λ i. own-in k was.pid i e.actor e.act x own)

  pub calm-all : All WasNotInterrupted (exchanges k last)
  calm-all =
      subst (All WasNotInterrupted) (sym (exchanges-both k front (e ∷ between)))
      (All-append WasNotInterrupted (exchanges k front) (exchanges k (e ∷ between)) whole.calm
      (subst (All WasNotInterrupted) (sym (cons-exchanges k e between))
      (subst (λ (x : Option Exchange). All WasNotInterrupted (cons_option x (exchanges k between))) (sym no-own)
      (All-weaker (IsNoRead status) WasNotInterrupted (λ x quiet. record { unbroken = quiet.no_interrupt })
      (exchanges k between) (read.quiet status status-here)))))

  -- what is so of the process behind the event, and stays so where others leave it alone and its lwps do nothing but
  -- stop, is so until then
  module _ (H : TracedProcess → Type 0) (stays : (p q : TracedProcess) → IsUndisturbed p q → H p → H q)
      (turns : (u : TracedSystem) (pid own : ℕ) (turn : LwpTurn) (p q : TracedProcess) → live_process u pid ≡ Some p
      → turn_of u pid own ≡ Some turn → live_process turn.system pid ≡ Some q → On event p → H p → H q)
      (at_first : (q : TracedProcess) → live_process (state_after s (front ++ e ∷ [])).system was.pid ≡ Some q → H q)
    where
      abbrev Both : TracedProcess → Type 0
      Both q = On event q × H q

      pub pending-with : Pending k o s was Both last
      pending-with =
          let first = comes e.actor e.act refl legal in
          subst (λ (es : List Entry). Pending k o s was Both es) parts
          (still-stands n k o s h run.of was Both
          (λ p q alone both. (on-stays event p q alone both.0, stays p q alone both.1))
          (λ u pid own turn p q live took later_live both. (
            on-turns event u pid own turn p q live took later_live both.0,
            turns u pid own turn p q live took later_live both.0 both.1,
          ))
          (front ++ e ∷ []) between (again ∷ later)
          (is ∙ sym (append_assoc front (e ∷ []) (between ++ again ∷ later)))
          (subst (λ (es : List Entry). All WasNotInterrupted (exchanges k es)) (sym parts) calm-all) still
          (record {
            pends = first.pends;
            is = let w = first.is in record { holds = w.holds; has = λ q live. (w.has q live, at_first q live) };
          }))

  pending : Pending k o s was (On event) last
  pending =
      let all =
      pending-with (λ q. Unit {0}) (λ p q alone w. tt) (λ u pid own turn p q live took later_live on w. tt)
      (λ q live. tt) in
      record {
        pends = all.pends;
        is = let w = all.is in record { holds = w.holds; has = λ q live. (w.has q live).0 };
      }

  -- ---- the read

  last-at : h ≡ last ++ again ∷ later
  last-at = is ∙ sym (append_assoc front (e ∷ between) (again ∷ later))

  abbrev then : TracedState
  then = state_after s last

  process : TracedProcess
  process = read.process

  process-live : live_process then.system was.pid ≡ Some process
  unfolding process
  process-live =
      ap (λ (x : TracedState). live_process x.system was.pid) (state_after-both s front (e ∷ between)) ∙ read.live

  stands-there : HasEvent process event.id event.event
  stands-there = let p = pending in let at = p.is in at.has process process-live

  pub tells-it : ReadsStatusOf k was.pid then again event
  tells-it =
      tells n k o s h run last later again last-at calm-all was (On event) pending exchange read.own
      read.reads process process-live event stands-there

  -- and no stop is left that stood before truss came
  pub old-gone : HasNoOldLeft k o was.pid last
  old-gone =
      none-old n k o s h run last later again last-at calm-all was (On event) pending exchange read.own
      read.reads

module _ (n k : ℕ) (o : Options) (s : TracedState) (h : List Entry) (run : IsReachedFunctionRun n k o s h) where
  pub events-read : EventsAreRead k o s h
  events-read = record {
    each = λ front between later e again place event is c.
        tells-it n k o s h run front between later e again place event is (is_selected o) (λ ev off. off)
        c.whole c.came c.exchange c.read;
    new = λ front between later e again place event is c.
        old-gone n k o s h run front between later e again place event is (is_selected o) (λ ev off. off)
        c.whole c.came c.exchange c.read;
  }

pub ruleset event_reads = (events-read)
