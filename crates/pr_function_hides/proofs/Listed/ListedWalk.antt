use Rattle.std.proofs.Common.{◌≡◌, ◌≢◌, ◌<◌, ◌&&◌, ◌++◌, ◌⊎◌, ℕ, true, cond, Option, Some, None, List, [], ◌∷◌, position, append-nil, append_assoc, refl, sym, subst, ap, ◌∙◌, inl, inr}
use Rattle.std.proofs.lemmas.Bool.{cases_eq, eq-eqb, ne_eqb}
use Rattle.std.proofs.lemmas.List.Elements.{All-append, All-cons, All-head, All-nil}
use Rattle.std.proofs.lemmas.Option.{none-some, same_Some}
use Rattle.std.specs.List.{All, cons_option}
use Rattle.pr_lawful.proofs.LawfulTurns.EndLemmas.{found-live}
use Rattle.pr_line.specs.declared.options.Options.{Options}
use Rattle.pr_model.proofs.HistoryLemmas.{state_after-push}
use Rattle.pr_model.specs.Lawful.{IsLawful}
use Rattle.pr_model.specs.Legal.{IsLegalEntry, after, state_after}
use Rattle.pr_model.specs.State.{TracedProcess, TracedState, live_process, process_of}
use Rattle.pr_model.specs.declared.calls.Call.TheVariants as call
use Rattle.pr_model.specs.declared.calls.File.{File}
use Rattle.pr_model.specs.declared.calls.File.TheVariants.{Lstatus, Status}
use Rattle.pr_model.specs.declared.calls.Reply.TheVariants as reply
use Rattle.pr_model.specs.declared.events.Act.{Act}
use Rattle.pr_model.specs.declared.events.Act.TheVariants as act
use Rattle.pr_model.specs.declared.events.Actor.{Actor}
use Rattle.pr_model.specs.declared.events.Actor.TheVariants.{Controller, Lwp, Clock}
use Rattle.pr_model.specs.declared.events.Entry.{Entry}
use Rattle.pr_model.specs.declared.events.Turned.{Turned}
use Rattle.pr_num.specs.Signals.{signal_number}
use Rattle.pr_num.specs.declared.signals.Sig.TheVariants.{Kill}
use Rattle.pr_report_laws.proofs.Files.WatchHistories.{cons-exchanges, exchanges-both, exchanges-push, no-exchanges}
use Rattle.pr_report_laws.proofs.Machine.GoneLaws.{is_read, read-lives}
use Rattle.pr_report_laws.proofs.SeenChildren.Splits as splits
use Rattle.pr_report_laws.proofs.SeenChildren.Splits.{Compares, compare, state_after-both}
use Rattle.pr_report_laws.proofs.Watching.HistoryParts.{all-rest}
use Rattle.pr_report_laws.specs.Attachments.{ReadsFile}
use Rattle.pr_report_laws.specs.Memories.{WasKilled}
use Rattle.pr_truss.specs.Marks.{has_functions}
use Rattle.pr_truss.specs.NextCalls.{read_record}
use Rattle.pr_truss.specs.Trusses.{TrussState, first_truss, traced_at}
use Rattle.pr_truss.specs.declared.marks.Stepped.{Stepped}
use Rattle.pr_truss.specs.declared.reports.Report.{Report}
use Rattle.pr_truss.specs.declared.reports.Report.TheVariants.{Called}
use Rattle.pr_truss_laws.proofs.Machine.FrameLemmas.{was-made}
use Rattle.pr_truss_laws.proofs.Machine.HaltLemmas as halt
use Rattle.pr_truss_laws.proofs.Machine.HaltLemmas.{HaltsOn}
use Rattle.pr_truss_laws.proofs.Machine.OverLemmas.{stays-made, stays-over}
use Rattle.pr_truss_laws.specs.Exchanges.{Exchange, exchange_in, exchange_of, exchanges}
use Rattle.pr_function_laws.proofs.Stepping.BreakpointLemmas.{own-entry}
use Rattle.pr_function_laws.proofs.Listing.ListedSteps.{opened-watched}
use Rattle.pr_function_laws.proofs.OpenedProcesses.OpenedCalls.{IsSo}
use Rattle.pr_function_laws.proofs.OpenedProcesses.OpenedLaws.{holds-opened}
use Rattle.pr_function_laws.proofs.CallTurns.OwnSteps.{steps-read}
use Rattle.pr_function_laws.proofs.CallTurns.ToldLaws.{legal}
use Rattle.pr_function_laws.specs.Calls.{call_told}
use Rattle.pr_function_laws.specs.FunctionTurns.{call_in, call_of_turn, calls_of, function_turns, is_process, is_trap}
use Rattle.pr_function_laws.specs.Lifted.{IsNoRead}
use Rattle.pr_function_laws.specs.ReachedRuns.{IsReachedFunctionRun}
use Rattle.pr_function_laws.specs.Opened.{IsFunctionRun, WasNotInterrupted, functions_at}
use Rattle.pr_function_laws.specs.Runs.{functions_after, functions_on}
use Rattle.pr_function_laws.specs.ToldTurns.{AreSteppable, HasStep}
use Rattle.pr_function_laws.specs.Turns.{EndsInTrap}
use Rattle.pr_function_hides.proofs.StepsUnderWay.CallLists.{Tells, no-turns, none-shown, nothing, one-shown, one_call, reads-or-not, shown-fed, tells, truss-push, turns-push}
use Rattle.pr_function_hides.proofs.Listed.CallStates.{lacking-at-last}
use Rattle.pr_function_hides.proofs.StepsUnderWay.TrapTurns.{BreakpointsHold, WhatTurn, its-turn, lives-behind, no_call, step-call, step_turn, turn_entry, what-turn}
use Rattle.pr_function_hides.proofs.StepsUnderWay.UnderWay.{apart-here, goes-here, lawful-here, options-here, place-of}
use Rattle.pr_function_hides.proofs.StepsUnderWay.UnreadTurns.{TellsUnread, Unread, Where, OneMore, before, calm-front, here, no-more, one-more, parted, same-number, still-under, told-unread, where-is}
use Rattle.pr_function_hides.specs.ListedCalls.{ListsItsTurns, MayLack, TurnIsUnread, ended, none, unread}

-- The calls that truss has shown are the turns that are calls, entry by entry, but for the last one, where its turn is
-- unread or SIGKILL has ended its process since.

module _ (n k : ℕ) (o : Options) (s : TracedState) (h : List Entry) (run : IsReachedFunctionRun n k o s h)
    (able : AreSteppable o) (facts : BreakpointsHold k o s h)
    (all_calm : All WasNotInterrupted (exchanges k h)) (pid : ℕ) where
  abbrev T : List Entry → TrussState
  T front = functions_at k o front

  abbrev S : List Entry → TracedState
  S front = state_after s front

  abbrev pub Pending : List Entry → Type 0
  Pending f = Unread n k o s h run able facts all_calm pid f

  -- the call that the turn of a step is
  abbrev call_of_step : Stepped → Report
  call_of_step step = Called pid step.lwp step.function step.arguments

  -- what an entry is of the calls
  abbrev call_here : List Entry → Entry → List Report
  call_here f e = call_of_turn (T f) (S f) pid e.actor e.act

  calm-at : (f later : List Entry) → h ≡ f ++ later → All WasNotInterrupted (exchanges k f)
  calm-at = calm-front n k o s h run able facts all_calm pid

  nothing-before : (front mid : List Entry) (one : Entry) → [] ≡ front ++ one ∷ mid → ⊥
  nothing-before [] mid one is = cc
  nothing-before (x ∷ front) mid one is = cc

  -- ---- reads of the process

  -- In an entry truss read the status of the process, or the statuses of its lwps, and got bytes.
  abbrev ReadsIts : List Entry → Entry → Type 0
  ReadsIts f e = ReadsFile k pid Status (S f) e ⊎ ReadsFile k pid Lstatus (S f) e

  -- since a turn it has done so in no entry
  pub record Unanswered (front : List Entry) (turn : Entry) (mid : List Entry) : Type 0 where
    pub each : (between rest : List Entry) (e : Entry) → mid ≡ between ++ e ∷ rest
        → ReadsIts (front ++ turn ∷ between) e → ⊥

  -- ---- a process that has ended

  -- The call came in a turn that truss has not read, and SIGKILL has ended the process since.
  pub record Lost (f : List Entry) (report : Report) : Type 0 where
    pub front : List Entry
    pub turn : Entry
    pub mid : List Entry
    pub is : f ≡ front ++ turn ∷ mid
    pub call : call_here front turn ≡ report ∷ []
    pub made : pid < (S f).system.made
    pub over : live_process (S f).system pid ≡ None
    pub killed : WasKilled pid (S (front ++ turn ∷ [])) mid
    pub unanswered : Unanswered front turn mid

  -- ---- what stands after some entries

  -- Nothing is lacking, and no turn is unread; or the call of the one turn that is unread, in a process that lives; or
  -- one that was lost.
  pub data Stands (f : List Entry) : List Report → Type 0 where
    clear : (Pending f → ⊥) → Stands f []
    pending : (a : Pending f) → pid < (S f).system.made → (p : TracedProcess)
        → live_process (S f).system pid ≡ Some p → Unanswered a.front (turn_entry pid a.id a.turned) a.mid
        → Stands f (call_of_step a.step ∷ [])
    lost : (report : Report) → Lost f report → Stands f (report ∷ [])

  pub record Listed (f : List Entry) : Type 0 where
    pub lacking : List Report
    pub are : function_turns k pid (first_truss o) s f ≡ calls_of pid (T f).reports ++ lacking
    pub stands : Stands f lacking

  -- ---- one entry

  killed-on : (then : TracedState) (between : List Entry) (e : Entry) → WasKilled pid then between
      → WasKilled pid then (between ++ e ∷ [])
  killed-on then between e w = record {
    before = w.before;
    entry = w.entry;
    later = w.later ++ e ∷ [];
    is = ap (λ es. es ++ e ∷ []) w.is ∙ append_assoc w.before (w.entry ∷ w.later) (e ∷ []);
    process = w.process;
    lived = w.lived;
    over = w.over;
    zombie = w.zombie;
    left = w.left;
    status = w.status;
  }

  module _ (f : List Entry) (e : Entry) (later : List Entry) (is : h ≡ f ++ e ∷ later) where
    abbrev next : List Entry
    next = f ++ e ∷ []

    calm : All WasNotInterrupted (exchanges k f)
    calm = calm-at f (e ∷ later) is

    next-is : h ≡ next ++ later
    next-is = is ∙ sym (append_assoc f (e ∷ []) later)

    its-legal : IsLegalEntry n (S f) e
    its-legal = legal n k o s h run able f e later is calm

    its-lawful : IsLawful (S f)
    its-lawful = lawful-here n k o s h run.of f (e ∷ later) is calm

    state-is : S next ≡ after (S f) e
    state-is = state_after-push s f e

    made-later : pid < (S f).system.made → pid < (S next).system.made
    made-later made =
        subst (λ (u : TracedState). pid < u.system.made) (sym state-is)
        (stays-made n (S f) e pid its-lawful its-legal made)

    over-later : pid < (S f).system.made → live_process (S f).system pid ≡ None
        → live_process (S next).system pid ≡ None
    over-later made over =
        ap (λ (u : TracedState). live_process u.system pid) state-is
        ∙ stays-over n (S f) e pid its-lawful its-legal made over

    calm-of : (x : Exchange) → exchange_of k e ≡ Some x → WasNotInterrupted x
    calm-of x own =
        All-head WasNotInterrupted x (exchanges k later)
        (subst (λ y. All WasNotInterrupted (cons_option y (exchanges k later))) own
        (subst (All WasNotInterrupted) (cons-exchanges k e later)
        (all-rest WasNotInterrupted (exchanges k f) (exchanges k (e ∷ later))
        (subst (All WasNotInterrupted) (ap (exchanges k) is ∙ exchanges-both k f (e ∷ later)) all_calm))))

    abbrev its_call : List Report
    its_call = call_here f e

    turns-next : function_turns k pid (first_truss o) s next ≡ function_turns k pid (first_truss o) s f ++ its_call
    turns-next = turns-push k pid f (first_truss o) s e

    -- ---- the call of an unread turn

    call-of : (a : Pending f) → call_here a.front (turn_entry pid a.id a.turned) ≡ call_of_step a.step ∷ []
    call-of a =
        let u = a.under in
        step-call n k o s h run able facts a.front (a.mid ++ e ∷ later) pid a.id a.turned
        (parted n k o s h run able facts all_calm pid f (e ∷ later) is a) u.calm a.place a.step a.under
        a.own a.trapped

    call-next : (a : Pending next) → call_here a.front (turn_entry pid a.id a.turned) ≡ call_of_step a.step ∷ []
    call-next a =
        let u = a.under in
        step-call n k o s h run able facts a.front (a.mid ++ later) pid a.id a.turned
        (parted n k o s h run able facts all_calm pid next later next-is a) u.calm a.place a.step a.under
        a.own a.trapped

    -- one entry more behind it
    extended : (a : Pending f) → ((x : Exchange) → exchange_of k e ≡ Some x → IsNoRead a.number x) → Pending next
    extended a quiet = record {
      front = a.front;
      id = a.id;
      turned = a.turned;
      mid = a.mid ++ e ∷ [];
      is = ap (λ es. es ++ e ∷ []) a.is ∙ append_assoc a.front (turn_entry pid a.id a.turned ∷ a.mid) (e ∷ []);
      place = a.place;
      step = a.step;
      under = a.under;
      own = a.own;
      trapped = a.trapped;
      number = a.number;
      file = a.file;
      quiet =
          subst (All (IsNoRead a.number)) (sym (exchanges-push k a.mid e))
          (All-append (IsNoRead a.number) (exchanges k a.mid) (cons_option (exchange_of k e) [])
          a.quiet (one (exchange_of k e) (λ x own. quiet x own)));
    }
      where
        one : (x : Option Exchange) → ((y : Exchange) → x ≡ Some y → IsNoRead a.number y)
            → All (IsNoRead a.number) (cons_option x [])
        one None quiet = All-nil (IsNoRead a.number)
        one (Some x) quiet = All-cons (IsNoRead a.number) x [] (quiet x refl) (All-nil (IsNoRead a.number))

    -- ---- reads of the process

    unanswered-on : (front : List Entry) (turn : Entry) (mid : List Entry) → f ≡ front ++ turn ∷ mid
        → Unanswered front turn mid → (ReadsIts f e → ⊥) → Unanswered front turn (mid ++ e ∷ [])
    unanswered-on front turn mid at before_it quiet = record {
      each = λ between rest d parts reads. by between rest d reads (compare mid between e d [] rest parts);
    }
      where
        by : (between rest : List Entry) (d : Entry) → ReadsIts (front ++ turn ∷ between) d
            → Compares mid e [] between d rest → ⊥
        by between rest d reads (splits.same one two three) =
            quiet (subst (λ es. ReadsIts es e) (ap (λ es. front ++ turn ∷ es) (sym one) ∙ sym at)
            (subst (ReadsIts (front ++ turn ∷ between)) (sym two) reads))
        by between rest d reads (splits.ahead more first second) = nothing-before more rest d second
        by between rest d reads (splits.behind more first second) = before_it.each between more d first reads

    others-quiet : exchange_of k e ≡ None → ReadsIts f e → ⊥
    others-quiet foreign (inl r) = none-some _ (sym foreign ∙ r.is)
    others-quiet foreign (inr r) = none-some _ (sym foreign ∙ r.is)

    -- a process that has ended gives none
    over-gives : (g : File) → is_read g ≡ true → live_process (S f).system pid ≡ None → ReadsFile k pid g (S f) e → ⊥
    over-gives g read over r =
        let own =
        own-entry n k (S f) e
        (record { call = call.Read r.handle r.from r.len; reply = reply.Bytes r.bytes }) its-legal r.is in
        read-lives (S f) k r.handle r.held r.there own.answer r.from r.len g r.bytes r.file read own.is own.replied
        (ap (live_process (S f).system) r.of ∙ over)

    over-quiet : live_process (S f).system pid ≡ None → ReadsIts f e → ⊥
    over-quiet over (inl r) = over-gives Status refl over r
    over-quiet over (inr r) = over-gives Lstatus refl over r

    -- a lost call stays lost
    still-lost : (report : Report) → Lost f report → Lost next report
    still-lost report a = record {
      front = a.front;
      turn = a.turn;
      mid = a.mid ++ e ∷ [];
      is = ap (λ es. es ++ e ∷ []) a.is ∙ append_assoc a.front (a.turn ∷ a.mid) (e ∷ []);
      call = a.call;
      made = made-later a.made;
      over = over-later a.made a.over;
      killed = killed-on (S (a.front ++ a.turn ∷ [])) a.mid e a.killed;
      unanswered = unanswered-on a.front a.turn a.mid a.is a.unanswered (over-quiet a.over);
    }

    -- An unread turn stays unread while the process lives; or SIGKILL ends it now, and the call is lost.
    module _ (a : Pending f) (made : pid < (S f).system.made) (p : TracedProcess)
        (live : live_process (S f).system pid ≡ Some p)
        (unanswered : Unanswered a.front (turn_entry pid a.id a.turned) a.mid)
        (quiet : (x : Exchange) → exchange_of k e ≡ Some x → IsNoRead a.number x) where
      abbrev its_turn : Entry
      its_turn = turn_entry pid a.id a.turned

      -- the state that the turn left
      abbrev then : TracedState
      then = S (a.front ++ its_turn ∷ [])

      since-turn : S f ≡ state_after then a.mid
      since-turn =
          ap (state_after s) (a.is ∙ sym (append_assoc a.front (its_turn ∷ []) a.mid))
          ∙ state_after-both s (a.front ++ its_turn ∷ []) a.mid

      later-is : after (S f) e ≡ state_after then (a.mid ++ e ∷ [])
      later-is = ap (λ (u : TracedState). after u e) since-turn ∙ sym (state_after-push then a.mid e)

      one : OneMore n k o s h run able facts all_calm pid f (e ∷ later) is a e p
      one = one-more n k o s h run able facts all_calm pid f (e ∷ later) is a e later refl p live

      its-quiet : (g : File) → ReadsFile k pid g (S f) e → ⊥
      its-quiet g r =
          let w = one in
          let q = quiet _ r.is in
          q.no_read (w.reads _ r.is r.handle r.from r.len r.held refl r.there r.of)

      quiet-now : ReadsIts f e → ⊥
      quiet-now (inl r) = its-quiet Status r
      quiet-now (inr r) = its-quiet Lstatus r

      unanswered-now : Unanswered a.front its_turn (a.mid ++ e ∷ [])
      unanswered-now = unanswered-on a.front its_turn a.mid a.is unanswered quiet-now

      killed-now : (z : TracedProcess) → live_process (after (S f) e).system pid ≡ None
          → process_of (after (S f) e).system pid ≡ Some z → z.ended ≡ Some (signal_number Kill)
          → Lost next (call_of_step a.step)
      killed-now z gone left status = record {
        front = a.front;
        turn = its_turn;
        mid = a.mid ++ e ∷ [];
        is = ap (λ es. es ++ e ∷ []) a.is ∙ append_assoc a.front (its_turn ∷ a.mid) (e ∷ []);
        call = call-of a;
        made = made-later made;
        over = ap (λ (u : TracedState). live_process u.system pid) state-is ∙ gone;
        killed = record {
          before = a.mid;
          entry = e;
          later = [];
          is = refl;
          process = p;
          lived = ap (λ (u : TracedState). live_process u.system pid) (sym since-turn) ∙ live;
          over = ap (λ (u : TracedState). live_process u.system pid) (sym later-is) ∙ gone;
          zombie = z;
          left = ap (λ (u : TracedState). process_of u.system pid) (sym later-is) ∙ left;
          status = status;
        };
        unanswered = unanswered-now;
      }

      pending-next : Stands next (call_of_step a.step ∷ [])
      unfolding extended
      pending-next = let w = one in by w.halts
        where
          by : HaltsOn pid p (after (S f) e).system → Stands next (call_of_step a.step ∷ [])
          by (halt.goes_on q there still memory) =
              pending (extended a quiet) (made-later made) q
              (ap (λ (u : TracedState). live_process u.system pid) state-is ∙ there) unanswered-now
          by (halt.killed z gone left status) = lost (call_of_step a.step) (killed-now z gone left status)

    abbrev Is : List Report → Type 0
    Is lacking = function_turns k pid (first_truss o) s next ≡ calls_of pid (T next).reports ++ lacking

    -- ---- an entry of others, or a turn

    module _ (foreign : exchange_of k e ≡ None) (was : Listed f) where
      same-truss : T next ≡ T f
      same-truss = truss-push k o f e ∙ ap (functions_on (T f)) foreign

      no-read : {A : Type 0} (x : Exchange) → exchange_of k e ≡ Some x → A
      no-read x own = absurd (none-some x (sym foreign ∙ own))

      shown-same : calls_of pid (T f).reports ≡ calls_of pid (T next).reports
      shown-same = ap (λ (t : TrussState). calls_of pid t.reports) (sym same-truss)

      -- it is no call
      module _ (plain : its_call ≡ []) where
        turns-same : Is was.lacking
        turns-same =
            turns-next ∙ ap (λ cs. function_turns k pid (first_truss o) s f ++ cs) plain
            ∙ append-nil (function_turns k pid (first_truss o) s f) ∙ was.are
            ∙ ap (λ cs. cs ++ was.lacking) shown-same

        clear-still : (Pending f → ⊥) → Pending next → ⊥
        clear-still never a = by (where-is n k o s h run able facts all_calm pid f e a)
          where
            one-none : {r : Report} → [] ≡ r ∷ [] → ⊥
            one-none same = cc

            by : Where n k o s h run able facts all_calm pid f e → ⊥
            by (before b quiet) = never b
            by (here b front_is entry_is) =
                one-none (sym plain
                ∙ ap (λ (x : Entry). call_here f x) entry_is
                ∙ ap (λ es. call_here es (turn_entry pid b.id b.turned)) front_is
                ∙ call-next b)

        plain-next : Listed next
        plain-next = record {
          lacking = was.lacking;
          are = turns-same;
          stands = by was.stands;
        }
          where
            by : {lacking : List Report} → Stands f lacking → Stands next lacking
            by (clear never) = clear (clear-still never)
            by (pending a made p live none_yet) = pending-next a made p live none_yet (λ x own. no-read x own)
            by (lost report a) = lost report (still-lost report a)

      -- it is the turn of a step
      module _ (id : ℕ) (turned : Turned) (entry_is : e ≡ turn_entry pid id turned) (place : ℕ) (step : Stepped)
          (under : HasStep k o f place step) (own : (traced_at (T f) place).pid ≡ pid) (trap : EndsInTrap turned) where
        turn-is : h ≡ f ++ turn_entry pid id turned ∷ later
        turn-is = is ∙ ap (λ x. f ++ x ∷ later) entry_is

        live-now : (p : TracedProcess) × (live_process (S f).system pid ≡ Some p)
        live-now =
            let x = its-turn n k o s h run able facts f later pid id turned turn-is calm in
            (x.process, x.live)

        made-now : pid < (S f).system.made
        made-now =
            let lawful = its-lawful in
            was-made pid (S f).system live-now.0 lawful.system (found-live (S f).system pid live-now.0 live-now.1).0

        lives-next : (q : TracedProcess) × (live_process (S next).system pid ≡ Some q)
        lives-next =
            let it =
            lives-behind n k o s h run able facts f later pid id turned turn-is calm place step under own
            trap in
            (it.0, ap (λ (u : TracedState). live_process u.system pid) (state-is ∙ ap (after (S f)) entry_is) ∙ it.1)

        step-is : its_call ≡ call_of_step step ∷ []
        step-is =
            ap (call_here f) entry_is
            ∙ step-call n k o s h run able facts f later pid id turned turn-is calm place step under own
            trap

        new-turn : Pending next
        new-turn =
            let holds = holds-opened n k o s h run.of in
            let owns = holds.each f (e ∷ later) place is calm under.within under.opened in
            let files = owns.files in
            record {
              front = f;
              id = id;
              turned = turned;
              mid = [];
              is = ap (λ x. f ++ x ∷ []) entry_is;
              place = place;
              step = step;
              under = under;
              own = own;
              trapped = trap;
              number = owns.status;
              file = files.own_status;
              quiet = subst (All (IsNoRead owns.status)) (sym (no-exchanges k)) (All-nil (IsNoRead owns.status));
            }

        none-yet : Unanswered f (turn_entry pid id turned) []
        none-yet = record { each = λ between rest d parts reads. nothing-before between rest d parts }

        step-next : Listed next
        unfolding new-turn
        step-next = by was.stands was.are
          where
            by : {lacking : List Report} → Stands f lacking
                → function_turns k pid (first_truss o) s f ≡ calls_of pid (T f).reports ++ lacking → Listed next
            by (clear never) are = record {
              lacking = call_of_step step ∷ [];
              are = turns-next ∙ ap (λ cs. function_turns k pid (first_truss o) s f ++ cs) step-is
                  ∙ ap (λ cs. cs ++ call_of_step step ∷ [])
                  (are ∙ append-nil (calls_of pid (T f).reports) ∙ shown-same);
              stands = pending new-turn (made-later made-now) lives-next.0 lives-next.1 none-yet;
            }
            by (pending a made p live none_yet) are =
                absurd (no-more n k o s h run able facts all_calm pid f later a id turned
                turn-is place step under own trap)
            by (lost report a) are = absurd (none-some live-now.0 (sym a.over ∙ live-now.1))

      foreign-next : Listed next
      foreign-next = by e.actor e.act refl
        where
          turned-next : (id : ℕ) (turned : Turned) → e ≡ turn_entry pid id turned → Listed next
          turned-next id turned entry_is =
              by-turn (what-turn n k o s h run able facts f later pid id turned
              (is ∙ ap (λ x. f ++ x ∷ later) entry_is) calm)
            where
              by-turn : WhatTurn n k o s h run able facts f later pid id turned
                  (is ∙ ap (λ x. f ++ x ∷ later) entry_is) calm → Listed next
              by-turn (no_call empty) = plain-next (ap (call_here f) entry_is ∙ empty)
              by-turn (step_turn it) = step-next id turned entry_is it.place it.step it.under it.own it.trapped

          by : (actor : Actor) (did : Act) → e ≡ record { actor = actor; act = did } → Listed next
          by (Lwp acting id) (act.Turn turned) entry_is = elim (cases_eq acting pid) [
            | inl own ↦ turned-next id turned (entry_is ∙ ap (λ i. turn_entry i id turned) own)
            | inr other ↦ plain-next
                (ap (call_here f) entry_is
                ∙ ap (λ b. cond {A = List Report} (b && is_trap turned.did)
                (call_in (T f) (S f) pid id (position (is_process pid) (T f).traced)) []) (ne_eqb acting pid other))
          ]
          by (Lwp acting id) (act.Call c r) entry_is = plain-next (ap (call_here f) entry_is)
          by (Lwp acting id) (act.Tick moment) entry_is = plain-next (ap (call_here f) entry_is)
          by (Controller j) did entry_is = plain-next (ap (call_here f) entry_is)
          by Clock did entry_is = plain-next (ap (call_here f) entry_is)

    -- ---- an exchange of truss

    module _ (x : Exchange) (own : exchange_of k e ≡ Some x) (was : Listed f) where
      abbrev told : List Report
      told = call_told (T f) x.reply

      exchange-plain : its_call ≡ []
      exchange-plain = by e.actor e.act own
        where
          by : (actor : Actor) (did : Act) → exchange_in k actor did ≡ Some x
              → call_of_turn (T f) (S f) pid actor did ≡ []
          by (Lwp acting id) did same = absurd (none-some x same)
          by (Controller j) did same = refl
          by Clock did same = absurd (none-some x same)

      has-now : has_functions (T f).options ≡ true
      has-now = ap has_functions (options-here n k o s h run.of f (e ∷ later) is calm) ∙ run.of.has

      shown-next : calls_of pid (T next).reports ≡ calls_of pid (T f).reports ++ calls_of pid told
      shown-next =
          ap (λ (t : TrussState). calls_of pid t.reports) (truss-push k o f e ∙ ap (functions_on (T f)) own)
          ∙ shown-fed pid (T f) x.reply has-now

      turns-still : function_turns k pid (first_truss o) s next ≡ calls_of pid (T f).reports ++ was.lacking
      turns-still =
          turns-next ∙ ap (λ cs. function_turns k pid (first_truss o) s f ++ cs) exchange-plain
          ∙ append-nil (function_turns k pid (first_truss o) s f) ∙ was.are

      -- where no call of this process is told
      shown-still : calls_of pid told ≡ [] → calls_of pid (T f).reports ≡ calls_of pid (T next).reports
      shown-still empty =
          sym (shown-next ∙ ap (λ cs. calls_of pid (T f).reports ++ cs) empty
          ∙ append-nil (calls_of pid (T f).reports))

      abbrev TellsIt : Type 0
      TellsIt = TellsUnread n k o s h run able facts all_calm pid f x

      -- what is told of this process is an unread turn, or nothing
      data Told : Type 0 where
        told_none : calls_of pid told ≡ [] → Told
        told_one : TellsIt → Told

      what-told : Told
      what-told = by (tells pid (T f) x.reply)
        where
          by : Tells pid told → Told
          by (nothing empty) = told_none empty
          by (one_call report is_told its) =
              told_one
              (told-unread n k o s h run able facts all_calm pid f e later is x own report is_told its)

      no-turn : {A : Type 0} (b : Pending next) → e ≡ turn_entry pid b.id b.turned → A
      no-turn b entry_is = absurd (none-some x (ap (exchange_of k) (sym entry_is) ∙ own))

      same-number-of : (a b : Pending f) → a.number ≡ b.number
      same-number-of = same-number n k o s h run able facts all_calm pid f (e ∷ later) is

      -- ---- the read of an unread turn

      module _ (a : Pending f) (reads : x.call ≡ read_record (Some a.number)) (p : TracedProcess)
          (live : live_process (S f).system pid ≡ Some p) where
        abbrev TellsOf : ℕ → Type 0
        TellsOf i =
            h ≡ a.front ++ turn_entry i a.id a.turned ∷ (a.mid ++ e ∷ later)
            → live_process (state_after (S a.front) (turn_entry i a.id a.turned ∷ a.mid)).system i ≡ Some p
            → call_told (T (a.front ++ turn_entry i a.id a.turned ∷ a.mid)) x.reply
            ≡ (let step = a.step in Called i step.lwp step.function step.arguments) ∷ []

        told-first : TellsOf (traced_at (T a.front) a.place).pid
        told-first parts lives =
            let all = steps-read n k o s h run able in
            all.told a.front a.mid later a.place a.id a.step a.turned e x parts a.under a.trapped
            (record {
              own = own;
              reads = reads ∙ ap read_record (sym a.file);
              quiet = λ status there.
                  subst (λ i. All (IsNoRead i) (exchanges k a.mid))
                  (same_Some a.number status (sym a.file ∙ there)) a.quiet;
              process = p;
              live = lives;
            })

        told-now : told ≡ call_of_step a.step ∷ []
        told-now =
            ap (λ es. call_told (T es) x.reply) a.is
            ∙ subst TellsOf a.own told-first
            (parted n k o s h run able facts all_calm pid f (e ∷ later) is a)
            (ap (λ (u : TracedState). live_process u.system pid)
            (sym (ap (state_after s) a.is ∙ state_after-both s a.front (turn_entry pid a.id a.turned ∷ a.mid)))
            ∙ live)

        told-is : calls_of pid told ≡ call_of_step a.step ∷ []
        told-is = ap (calls_of pid) told-now ∙ one-shown pid (call_of_step a.step) (eq-eqb pid pid refl)

        read-clear : Pending next → ⊥
        read-clear c = by (where-is n k o s h run able facts all_calm pid f e c)
          where
            by : Where n k o s h run able facts all_calm pid f e → ⊥
            by (before b quiet) =
                let q = quiet x own in
                q.no_read (reads ∙ ap (λ i. read_record (Some i)) (same-number-of a b))
            by (here b front_is entry_is) = no-turn b entry_is

      -- ---- what comes of it

      abbrev Turns : List Report → Type 0
      Turns lacking = function_turns k pid (first_truss o) s next ≡ calls_of pid (T f).reports ++ lacking

      still : (lacking : List Report) → Turns lacking → calls_of pid told ≡ [] → Is lacking
      still lacking are empty = are ∙ ap (λ cs. cs ++ lacking) (shown-still empty)

      clear-next : (Pending f → ⊥) → Pending next → ⊥
      clear-next never c = by (where-is n k o s h run able facts all_calm pid f e c)
        where
          by : Where n k o s h run able facts all_calm pid f e → ⊥
          by (before b quiet) = never b
          by (here b front_is entry_is) = no-turn b entry_is

      from-clear : Turns [] → (Pending f → ⊥) → Told → Listed next
      from-clear are never (told_none empty) = record {
        lacking = [];
        are = still [] are empty;
        stands = clear (clear-next never);
      }
      from-clear are never (told_one w) = absurd (never w.its)

      from-over : (lacking : List Report) → Turns lacking → Stands next lacking
          → live_process (S f).system pid ≡ None → Told → Listed next
      from-over lacking are stands over (told_none empty) =
          record { lacking = lacking; are = still lacking are empty; stands = stands }
      from-over lacking are stands over (told_one w) = absurd (none-some w.process (sym over ∙ w.live))

      module _ (a : Pending f) (made : pid < (S f).system.made) (p : TracedProcess)
          (live : live_process (S f).system pid ≡ Some p)
          (none_yet : Unanswered a.front (turn_entry pid a.id a.turned) a.mid)
          (are : Turns (call_of_step a.step ∷ [])) where
        read-now : x.call ≡ read_record (Some a.number) → Listed next
        read-now reads = record {
          lacking = [];
          are = are ∙ sym (append-nil (calls_of pid (T next).reports)
              ∙ shown-next
              ∙ ap (λ cs. calls_of pid (T f).reports ++ cs) (told-is a reads p live));
          stands = clear (read-clear a reads p live);
        }

        unread-still : (x.call ≢ read_record (Some a.number)) → Told → Listed next
        unread-still other (told_none empty) = record {
          lacking = call_of_step a.step ∷ [];
          are = still (call_of_step a.step ∷ []) are empty;
          stands =
              pending-next a made p live none_yet
              (λ y same. record {
                no_read = λ reads. other (ap (λ (z : Exchange). z.call) (same_Some x y (sym own ∙ same)) ∙ reads);
                no_interrupt = let calm_one = calm-of y same in calm_one.unbroken;
              });
        }
        unread-still other (told_one w) =
            absurd (other (w.reads ∙ ap (λ i. read_record (Some i)) (same-number-of w.its a)))

        from-pending : Listed next
        from-pending = elim (reads-or-not x.call a.number) [
          | inl reads ↦ read-now reads
          | inr other ↦ unread-still other what-told
        ]

      exchange-next : Listed next
      exchange-next = by was.stands turns-still
        where
          by : {lacking : List Report} → Stands f lacking → Turns lacking → Listed next
          by (clear never) are = from-clear are never what-told
          by (pending a made p live none_yet) are = from-pending a made p live none_yet are
          by (lost report a) are =
              from-over (report ∷ []) are (lost report (still-lost report a)) a.over what-told

    entry-listed : Listed f → Listed next
    entry-listed was = by (exchange_of k e) refl
      where
        by : (x : Option Exchange) → exchange_of k e ≡ x → Listed next
        by None foreign = foreign-next foreign was
        by (Some x) own = exchange-next x own was

  -- ---- all entries

  first-listed : Listed []
  first-listed = record {
    lacking = [];
    are = no-turns k pid (first_truss o) s
        ∙ sym (append-nil (calls_of pid (T []).reports)
        ∙ ap (λ xs. calls_of pid (functions_after (first_truss o) xs).reports) (no-exchanges k)
        ∙ none-shown pid o run.of.has);
    stands = clear (λ a. nothing-before a.front a.mid (turn_entry pid a.id a.turned) a.is);
  }

  walk : (mid front later : List Entry) → h ≡ front ++ (mid ++ later) → Listed front → Listed (front ++ mid)
  walk [] front later is was = subst Listed (sym (append-nil front)) was
  walk (e ∷ mid) front later is was =
      subst Listed (append_assoc front (e ∷ []) mid)
      (walk mid (front ++ e ∷ []) later (is ∙ sym (append_assoc front (e ∷ []) (mid ++ later)))
      (entry-listed front e (mid ++ later) is was))

  whole : h ≡ h ++ []
  whole = sym (append-nil h)

  pub listed : Listed h
  listed = walk h [] [] whole first-listed

  pub lists-turns : ListsItsTurns k o s h pid
  lists-turns =
      let it = listed in
      let few : MayLack k o s h pid it.lacking = by it.stands in
      record {
        lacking = it.lacking;
        are = it.are;
        few = few;
        at_last = λ finished some. lacking-at-last k o s pid n h run.of finished few some;
      }
    where
      -- the turn came, and was not read since
      its-turn-unread : (front : List Entry) (turn : Entry) (mid : List Entry) → h ≡ front ++ turn ∷ mid
          → (report : Report) → call_here front turn ≡ report ∷ [] → Unanswered front turn mid
          → TurnIsUnread k o s h pid report
      its-turn-unread front turn mid is report came since = record {
        before = front;
        turn = turn;
        later = mid;
        is = is;
        call = came;
        status = λ between rest e parts reads. since.each between rest e parts (inl reads);
        lwps = λ between rest e parts reads. since.each between rest e parts (inr reads);
      }

      call-at-end : (a : Pending h) → call_here a.front (turn_entry pid a.id a.turned) ≡ call_of_step a.step ∷ []
      call-at-end a =
          let u = a.under in
          step-call n k o s h run able facts a.front (a.mid ++ []) pid a.id a.turned
          (parted n k o s h run able facts all_calm pid h [] whole a) u.calm a.place a.step a.under a.own
          a.trapped

      unread-now : (a : Pending h) → (p : TracedProcess) → live_process (S h).system pid ≡ Some p
          → Unanswered a.front (turn_entry pid a.id a.turned) a.mid
          → MayLack k o s h pid (call_of_step a.step ∷ [])
      unread-now a p live since =
          let u = still-under n k o s h run able facts all_calm pid h [] whole a p live in
          let its = u.under in
          let g = goes-here n k o s h run.of h [] whole all_calm in
          unread (call_of_step a.step)
          (its-turn-unread a.front (turn_entry pid a.id a.turned) a.mid a.is (call_of_step a.step) (call-at-end a)
          since)
          (record {
            place = u.place;
            traced =
                place-of pid (T h).traced u.place (apart-here n k o s h run.of h [] whole all_calm) its.within u.own;
            step = a.step;
            under_way = its.under_way;
            is = refl;
          })
          (opened-watched n k o s h [] pid (subst (λ (es : List Entry). IsFunctionRun n k o s es) whole run.of)
          (IsSo ⊥ k (T h).options (S h)) g.kept u.place its.within u.own its.opened) p live

      by : {lacking : List Report} → Stands h lacking → MayLack k o s h pid lacking
      by (clear never) = none
      by (pending a made p live none_yet) = unread-now a p live none_yet
      by (lost report a) =
          ended report (its-turn-unread a.front a.turn a.mid a.is report a.call a.unanswered) a.over a.killed
