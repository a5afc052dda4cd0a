use Rattle.std.proofs.Common.{◌≡◌, ◌≢◌, ◌<◌, ℕ, true, Option, Some, None, List, [], ◌∷◌, refl, sym, subst, ap, ◌∙◌, inl, inr}
use Rattle.std.proofs.lemmas.Bool.{cases_eq}
use Rattle.std.proofs.lemmas.List.Elements.{All-cons, All-nil}
use Rattle.std.proofs.lemmas.Option.{none-some, same_Some}
use Rattle.std.specs.List.{All, cons_option}
use Rattle.pr_lawful.proofs.LawfulStates.HistoryLemmas.{history-state}
use Rattle.pr_lawful.proofs.Following.UseLemmas.{live-lawful}
use Rattle.pr_model.proofs.TurnLemmas.{turn-taken}
use Rattle.pr_model.specs.Calls.{answer_to}
use Rattle.pr_model.specs.Lawful.{IsLawful}
use Rattle.pr_model.specs.Legal.{IsLegal, IsLegalEntry, after, after_turn, state_after}
use Rattle.pr_model.specs.LwpTurns.{LwpTurn, turn_of}
use Rattle.pr_model.specs.State.{TracedLwp, TracedProcess, TracedState, TracedSystem, live_process, lwp_of}
use Rattle.pr_model.specs.declared.calls.Call.{Call}
use Rattle.pr_model.specs.declared.calls.Call.TheVariants as call
use Rattle.pr_model.specs.declared.calls.File.TheVariants.{Ctl}
use Rattle.pr_model.specs.declared.calls.Mode.TheVariants.{WriteExcl}
use Rattle.pr_model.specs.declared.calls.Reply.TheVariants as reply
use Rattle.pr_model.specs.declared.events.Act.{Act}
use Rattle.pr_model.specs.declared.events.Act.TheVariants as act
use Rattle.pr_model.specs.declared.events.Actor.{Actor}
use Rattle.pr_model.specs.declared.events.Actor.TheVariants.{Controller, Lwp, Clock}
use Rattle.pr_model.specs.declared.events.Did.TheVariants.{Faulted}
use Rattle.pr_model.specs.declared.events.Entry.{Entry}
use Rattle.pr_model.specs.declared.events.Turned.{Turned}
use Rattle.pr_model.specs.declared.stops.Point.{Point}
use Rattle.pr_num.specs.ById.{IsRising}
use Rattle.pr_num.specs.Messages.{spelling}
use Rattle.pr_num.specs.declared.errnos.Errno.TheVariants.{Noent}
use Rattle.pr_num.specs.declared.faults.Flt.TheVariants.{Trace}
use Rattle.pr_num.specs.declared.messages.Message.TheVariants as message
use Rattle.pr_reached.proofs.FitStates.FitHistoryLemmas.{history-fits}
use Rattle.pr_reached.specs.Fits.{IsFitSystem}
use Rattle.pr_report_laws.proofs.Files.WatchHistories.{cons-exchanges}
use Rattle.pr_report_laws.proofs.Machine.TracedPoints.{fit-process}
use Rattle.pr_truss.specs.FunctionCalls.{next_function_call_of}
use Rattle.pr_truss.specs.FunctionFeeding.{fed_functions}
use Rattle.pr_truss.specs.Marks.{has_functions}
use Rattle.pr_truss.specs.Messages.{message_call}
use Rattle.pr_truss.specs.Replies.{answer_of}
use Rattle.pr_truss.specs.Trusses.{TrussState}
use Rattle.pr_truss.specs.declared.processes.Traced.{Traced}
use Rattle.pr_truss.specs.declared.replies.Answer.TheVariants.{Gone}
use Rattle.pr_truss_laws.proofs.Replies.AnswerLemmas.{gone-refuses}
use Rattle.pr_truss_laws.proofs.Machine.ForeignLemmas.{exclusive-sole}
use Rattle.pr_truss_laws.proofs.Replies.FunctionOptionLemmas.{fed_functions-options}
use Rattle.pr_truss_laws.proofs.Files.OpensLemmas.{keeps_handles}
use Rattle.pr_truss_laws.proofs.Machine.OutlastLemmas.{Outlasts, others-entry, own-call-elsewhere}
use Rattle.pr_truss_laws.proofs.Machine.OverLemmas.{stays-made, stays-over}
use Rattle.pr_truss_laws.proofs.Machine.StillLemmas.{frozen-turns, halting-leaves}
use Rattle.pr_truss_laws.specs.Exchanges.{Exchange, exchange_in, exchange_of, exchanges}
use Rattle.pr_truss_laws.specs.Handles.{HasNoOtherWriter}
use Rattle.pr_truss_laws.specs.Stills.{with_lwp_stopped}
use Rattle.pr_function_laws.proofs.Stepping.AwayLemmas.{Away, away-weaker}
use Rattle.pr_function_laws.proofs.Stepping.BreakpointLemmas.{IsForeign, IsOwnEntry, Keeps, acts-away, away-keeps, away-later, calm, foreign-entry, keeps-goes, own-entry, own-handles, same-keeps, write-reads}
use Rattle.pr_function_laws.proofs.Stepping.FaultLemmas.{fault-frozen, fault-ready}
use Rattle.pr_function_laws.proofs.Stepping.HaltingSteps.{step-halts}
use Rattle.pr_function_laws.proofs.Marks.LiftLemmas.{AfterLook, LookCall, Looks, call-looks, goes_on, has_ended, is_away, looks-weaker, patches, reply-after, step_flags, steps}
use Rattle.pr_function_laws.proofs.Stepping.StepLemmas.{other-leaves}
use Rattle.pr_function_laws.proofs.Stepping.StretchLemmas.{named-acts}
use Rattle.pr_function_laws.proofs.CallTurns.TurnCalls.{Leaves, first-step, run-leaves, write-leaves}
use Rattle.pr_function_laws.proofs.CallTurns.TurnPoints.{IsOfStep, did_at, step-did, step-point, step-ran, step-stands, step-there}
use Rattle.pr_function_laws.proofs.CallTurns.TurnStates.{Had, IsKept, Lives, Steps, Waits, alone-lives, had-beside, had-kept, had-no-turn, over-lives, steps-beside, steps-kept, waits-kept}
use Rattle.pr_function_laws.specs.Lifted.{GoesElsewhere, HasControl, HasStatus, IsNoRead, StepsNoCall}
use Rattle.pr_function_laws.specs.Runs.{MakesFunctionCalls, functions_after, functions_on}
use Rattle.pr_function_laws.specs.Steps.{RunsNoCall}
use Rattle.pr_function_laws.specs.Stretches.{BeginWithWrite, IsControlOf}
use Rattle.pr_function_laws.specs.Turns.{HasOneTurn, IsNoTurnOf, RunsInstruction}

-- From the read of an lwp at a breakpoint to the next read of its process the lwp has one turn, or none.

-- none of these reads the status with this handle, and none was interrupted
abbrev pub AreNoReads : ℕ → List Exchange → Type 0
AreNoReads status [] = Unit {0}
AreNoReads status (x ∷ xs) = IsNoRead status x × AreNoReads status xs

lwp-same : (pid a b : ℕ) → Lwp pid a ≡ Lwp pid b → a ≡ b
lwp-same pid a b is = cc

-- an entry of the controller is no turn
pub own-in : (k pid id : ℕ) (actor : Actor) (it : Act) (x : Exchange) → exchange_in k actor it ≡ Some x
    → actor ≢ Lwp pid id
own-in k pid id (Controller by) it x is same = cc
own-in k pid id (Lwp acting own) it x is same = none-some x is
own-in k pid id Clock it x is same = cc

-- The turn of an lwp in a state in which it is stepped alone, with these registers: it met this point.
pub record Turns (pid id : ℕ) (stood : TracedLwp) (s : TracedState) (turned : Turned) (point : Point) : Type 0 where
  pub process : TracedProcess
  pub live : live_process s.system pid ≡ Some process
  pub steps : Steps id stood process
  pub kind : IsOfStep point
  pub did : turned.did ≡ did_at point
  pub ran : turned.did ≡ Faulted Trace → RunsInstruction process steps.lwp

-- a turn of an lwp
abbrev turn_entry : ℕ → ℕ → Turned → Entry
turn_entry pid id t = record { actor = Lwp pid id; act = act.Turn t }

-- ---- an entry of others

module _ (n k pid id : ℕ) (stood : TracedLwp) (s : TracedState) (lawful : IsLawful s) (made : pid < s.system.made)
    (sole : HasNoOtherWriter k pid s.opens) (fit : IsFitSystem s.system) (e : Entry) (legal : IsLegalEntry n s e)
    (other : e.actor ≢ Controller k) where
  -- it is of another process, of another controller or of the clock; or it is a turn of the process
  data Who (f : Entry) : Type 0 where
    apart : ((own : ℕ) → f.actor ≢ Lwp pid own) → Who f
    turn : (own : ℕ) (turned : Turned) (t : LwpTurn)
        → f ≡ record { actor = Lwp pid own; act = act.Turn turned } → turn_of s.system pid own ≡ Some t
        → t.turned ≡ turned → (after s f).system ≡ t.system → Who f

  who-in : (actor : Actor) (it : Act) → IsLegalEntry n s (record { actor = actor; act = it })
      → Who (record { actor = actor; act = it })
  unfolding IsLegalEntry after
  who-in (Controller j) (act.Call c r) legal = apart (λ own same. cc)
  who-in (Lwp acting own) (act.Turn turned) legal = elim (cases_eq acting pid) [
    | inl same ↦ turn own turned (record { system = legal.0; turned = turned })
        (ap (λ m. turn_entry m own turned) same)
        (subst (λ m. turn_of s.system m own ≡ Some (record { system = legal.0; turned = turned })) same legal.1) refl
        (ap (λ (o : Option LwpTurn). (after_turn s o).system) legal.1)
    | inr differs ↦ apart (λ i same. differs (cc))
  ]
  who-in Clock (act.Tick m) legal = apart (λ own same. cc)
  who-in _ _ legal = absurd legal

  who : Who e
  who = who-in e.actor e.act legal

  rises : (p : TracedProcess) → live_process s.system pid ≡ Some p → IsRising p.lwps
  rises p live = let it = live-lawful s.system pid p lawful.system live in it.rising

  kept-lives : (P : TracedProcess → Type 0) → IsKept id stood P → Lives pid P s.system
      → ((own : ℕ) → e.actor ≢ Lwp pid own) → Lives pid P (after s e).system
  kept-lives P kept lives elsewhere =
      alone-lives n pid s lawful made e legal P kept lives
      (λ p live. others-entry n s k pid e p lawful sole legal elsewhere other live)

  -- one that waits has no turn
  waits-no-turn : {A : Type 0} (p : TracedProcess) → live_process s.system pid ≡ Some p → Waits id stood p
      → (own : ℕ) (t : LwpTurn) → turn_of s.system pid own ≡ Some t → A
  waits-no-turn p live w own t took =
      absurd (none-some t (sym (frozen-turns s.system pid p live (fault-frozen p id w.stands (rises p live)) own)
      ∙ took))

  pub record StaysSo (P : TracedProcess → Type 0) : Type 0 where
    pub none : IsNoTurnOf pid id e
    pub lives : Lives pid P (after s e).system

  pub others-wait : Lives pid (Waits id stood) s.system → StaysSo (Waits id stood)
  others-wait lives = by who
    where
      by : Who e → StaysSo (Waits id stood)
      by (apart elsewhere) = record {
        none = record { other = elsewhere id };
        lives = kept-lives (Waits id stood) (waits-kept id stood) lives elsewhere;
      }
      by (turn own turned t is took did later) =
          let it = turn-taken s.system pid own t took in
          waits-no-turn it.process it.live (lives it.process it.live) own t took

  -- another lwp of it stopped as it was directed to
  beside-none : (own : ℕ) (turned : Turned) → own ≢ id
      → e ≡ record { actor = Lwp pid own; act = act.Turn turned } → IsNoTurnOf pid id e
  beside-none own turned differs is = record {
    other = λ same. differs (lwp-same pid own id (sym (ap (λ (f : Entry). f.actor) is) ∙ same));
  }

  pub data Passes : Type 0 where
    stays : StaysSo (Steps id stood) → Passes
    turns : (turned : Turned) (point : Point) → e ≡ record { actor = Lwp pid id; act = act.Turn turned }
        → Turns pid id stood s turned point → Lives pid (Had id stood point) (after s e).system → Passes

  own-turn : (turned : Turned) (t : LwpTurn) → e ≡ record { actor = Lwp pid id; act = act.Turn turned }
      → turn_of s.system pid id ≡ Some t → t.turned ≡ turned → (after s e).system ≡ t.system → (p : TracedProcess)
      → live_process s.system pid ≡ Some p → Steps id stood p → Passes
  own-turn turned t is took did later p live w =
      let fits = fit-process s.system pid p fit live in
      let point = step-point s.system pid p id w.lwp t live w.stepped w.all w.no_call fits took in
      turns turned point.point is
      (record {
        process = p;
        live = live;
        steps = w;
        kind = point.kind;
        did = ap (λ (x : Turned). x.did) (sym did)
            ∙ step-did s.system pid p id w.lwp t live w.stepped w.all w.no_call fits took;
        ran = λ is.
            step-ran s.system pid p id w.lwp t live w.stepped w.all w.no_call fits took
            (ap (λ (x : Turned). x.did) did ∙ is);
      })
      (λ q there.
      let now : live_process t.system pid ≡ Some q =
      ap (λ (u : TracedSystem). live_process u pid) (sym later) ∙ there in
      record {
        halting = step-halts s.system pid p id w.lwp t live w.stepped w.all w.no_call fits took lawful.system q now;
        there = step-there s.system pid p id w.lwp t live w.stepped w.all w.no_call fits took lawful.system q now;
        own = step-stands s.system pid p id w.lwp t live w.stepped w.all w.no_call fits took lawful.system q now;
      })

  beside-turn : (own : ℕ) (turned : Turned) (t : LwpTurn) → own ≢ id
      → e ≡ record { actor = Lwp pid own; act = act.Turn turned } → turn_of s.system pid own ≡ Some t
      → (after s e).system ≡ t.system → (p : TracedProcess) → live_process s.system pid ≡ Some p → Steps id stood p
      → Passes
  beside-turn own turned t differs is took later p live w =
      stays (record {
        none = beside-none own turned differs is;
        lives = λ q there.
            subst (Steps id stood)
            (same_Some (with_lwp_stopped own p) q
            (sym (other-leaves s.system pid p id w.lwp own t live w.stepped differs took)
            ∙ ap (λ (u : TracedSystem). live_process u pid) (sym later) ∙ there))
            (steps-beside id stood own p differs w);
      })

  pub others-pass : Lives pid (Steps id stood) s.system → Passes
  others-pass lives = by who
    where
      by-lwp : (own : ℕ) (turned : Turned) (t : LwpTurn)
          → e ≡ record { actor = Lwp pid own; act = act.Turn turned } → turn_of s.system pid own ≡ Some t
          → t.turned ≡ turned → (after s e).system ≡ t.system → (p : TracedProcess)
          → live_process s.system pid ≡ Some p → Steps id stood p → Passes
      by-lwp own turned t is took did later p live w = elim (cases_eq own id) [
        | inl same ↦ own-turn turned t
            (is ∙ ap (λ m. turn_entry pid m turned) same)
            (subst (λ m. turn_of s.system pid m ≡ Some t) same took) did later p live w
        | inr differs ↦ beside-turn own turned t differs is took later p live w
      ]

      by : Who e → Passes
      by (apart elsewhere) =
          stays (record {
            none = record { other = elsewhere id };
            lives = kept-lives (Steps id stood) (steps-kept id stood) lives elsewhere;
          })
      by (turn own turned t is took did later) =
          let it = turn-taken s.system pid own t took in
          by-lwp own turned t is took did later it.process it.live (lives it.process it.live)

  pub others-had : (point : Point) → Lives pid (Had id stood point) s.system → StaysSo (Had id stood point)
  others-had point lives = by who
    where
      by-lwp : (own : ℕ) (turned : Turned) (t : LwpTurn)
          → e ≡ record { actor = Lwp pid own; act = act.Turn turned } → turn_of s.system pid own ≡ Some t
          → (after s e).system ≡ t.system → (p : TracedProcess) → live_process s.system pid ≡ Some p
          → Had id stood point p → StaysSo (Had id stood point)
      by-lwp own turned t is took later p live w = elim (cases_eq own id) [
        | inl same ↦ absurd
            (had-no-turn id stood point s.system pid p t live
            (subst (λ m. turn_of s.system pid m ≡ Some t) same took) w)
        | inr differs ↦ record {
          none = beside-none own turned differs is;
          lives = λ q there.
              subst (Had id stood point)
              (same_Some (with_lwp_stopped own p) q
              (sym (halting-leaves s.system pid p live w.halting own t took)
              ∙ ap (λ (u : TracedSystem). live_process u pid) (sym later) ∙ there))
              (had-beside id stood point s.system pid p own t live took differs w);
        }
      ]

      by : Who e → StaysSo (Had id stood point)
      by (apart elsewhere) = record {
        none = record { other = elsewhere id };
        lives = kept-lives (Had id stood point) (had-kept id stood point) lives elsewhere;
      }
      by (turn own turned t is took did later) =
          let it = turn-taken s.system pid own t took in
          by-lwp own turned t is took later it.process it.live (lives it.process it.live)

-- ---- truss and the process

module _ (n k pid id c ns : ℕ) (met : Traced) (place : ℕ) (stood : TracedLwp) where
  abbrev Goes : TracedState → ℕ → Type 0
  Goes s m = GoesElsewhere k pid s m

  -- the files of the process
  pub record Files (s : TracedState) : Type 0 where
    pub control : HasControl k pid c s
    pub status : HasStatus k pid ns s

  -- The lwp has not had its turn: truss looks at the process, where it waits; or truss is away, and it is stepped
  -- alone.
  pub data Before (t : TrussState) (s : TracedState) : Type 0 where
    looks : Looks (Goes s) c ns met place t → Files s → Lives pid (Waits id stood) s.system → Before t s
    aways : Away (Goes s) c ns met t → Files s → Lives pid (Steps id stood) s.system → Before t s

  -- It has met this point.
  pub record After (point : Point) (t : TrussState) (s : TracedState) : Type 0 where
    pub away : Away (Goes s) c ns met t
    pub files : Files s
    pub had : Lives pid (Had id stood point) s.system

  kept-files : (s u : TracedState) → Keeps n k pid id c ns met place s u → Files s → Files u
  kept-files s u keeps f = record { control = keeps.control; status = keeps.status f.status }

  sole-by : (s : TracedState) → IsLawful s → Files s → HasNoOtherWriter k pid s.opens
  sole-by s lawful f =
      exclusive-sole s k c (record { controller = k; pid = pid; lwp = 0; file = Ctl; mode = WriteExcl }) lawful
      f.control refl

  mine : (s : TracedState) → Files s → IsControlOf k pid c s
  mine s f = record {
    held = record { controller = k; pid = pid; lwp = 0; file = Ctl; mode = WriteExcl };
    there = f.control;
    file = refl;
    of = refl;
  }

  -- ---- an entry

  module _ (s : TracedState) (lawful : IsLawful s) (made : pid < s.system.made) (fit : IsFitSystem s.system) (e : Entry)
      (legal : IsLegalEntry n s e) (t : TrussState) where
    -- after it truss is this one
    pub data Next (u : TrussState) : Type 0 where
      goes_past : IsNoTurnOf pid id e → Before u (after s e) → Next u
      has_turn : (did : Turned) (point : Point) → e ≡ record { actor = Lwp pid id; act = act.Turn did }
          → Turns pid id stood s did point → After point u (after s e) → Next u
      is_over : live_process (after s e).system pid ≡ None → Next u

    -- ---- of others

    module _ (w : IsForeign k s e) where
      foreign-keeps : Files s → Keeps n k pid id c ns met place s (after s e)
      foreign-keeps f = same-keeps n k pid id c ns met place s (after s e) w.handles f.control

      later-looks : Files s → Looks (Goes s) c ns met place t → Looks (Goes (after s e)) c ns met place t
      later-looks f look =
          looks-weaker (Goes s) (Goes (after s e)) c ns met place t
          (keeps-goes n k pid id c ns met place s (after s e) (foreign-keeps f)) look

      later-away : Files s → Away (Goes s) c ns met t → Away (Goes (after s e)) c ns met t
      later-away f it =
          away-weaker (Goes s) (Goes (after s e)) c ns met t
          (keeps-goes n k pid id c ns met place s (after s e) (foreign-keeps f)) it

      later-files : Files s → Files (after s e)
      later-files f = kept-files s (after s e) (foreign-keeps f) f

      foreign-before : Before t s → Next t
      foreign-before (looks look f lives) =
          let it = others-wait n k pid id stood s lawful made (sole-by s lawful f) fit e legal w.other lives in
          goes_past it.none (looks (later-looks f look) (later-files f) it.lives)
      foreign-before (aways it f lives) =
          by (others-pass n k pid id stood s lawful made (sole-by s lawful f) fit e legal w.other lives)
        where
          by : Passes n k pid id stood s lawful made (sole-by s lawful f) fit e legal w.other → Next t
          by (stays so) = goes_past so.none (aways (later-away f it) (later-files f) so.lives)
          by (turns did point is facts had) =
              has_turn did point is facts (record { away = later-away f it; files = later-files f; had = had })

      pub foreign-after : (point : Point) → After point t s → IsNoTurnOf pid id e × After point t (after s e)
      foreign-after point a =
          let f : Files s = a.files in
          let it =
          others-had n k pid id stood s lawful made (sole-by s lawful f) fit e legal w.other point a.had in
          (it.none, record { away = later-away f a.away; files = later-files f; had = it.lives })

    -- ---- of truss

    module _ (has : has_functions t.options ≡ true) (x : Exchange) (is : exchange_of k e ≡ Some x)
        (own : IsOwnEntry k s e x) (next : next_function_call_of t ≡ Some x.call) (quiet : IsNoRead ns x)
        (no_call : (p : TracedProcess) (l : TracedLwp) → x.call ≡ message_call c (message.Run step_flags)
        → live_process s.system pid ≡ Some p → lwp_of p id ≡ Some l → RunsNoCall p l) where
      own-none : IsNoTurnOf pid id e
      own-none = record { other = own-in k pid id e.actor e.act x is }

      -- truss is away
      module _ (it : Away (Goes s) c ns met t) (f : Files s) where
        away-files : Keeps n k pid id c ns met place s (after s e)
        away-files =
            away-keeps n k pid id c ns met place s lawful made e legal t has x own next quiet no_call it f.control

        away-on : Away (Goes (after s e)) c ns met (fed_functions t x.reply)
        away-on =
            away-later n k pid id c ns met place s lawful made e legal t has x own next quiet no_call it f.control

        away-lives : (P : TracedProcess → Type 0) → IsKept id stood P → Lives pid P s.system
            → Lives pid P (after s e).system
        away-lives P kept lives =
            alone-lives n pid s lawful made e legal P kept lives
            (λ p live. subst (λ (u : TracedState). Outlasts pid p u.system) own.later
            (own-call-elsewhere s k pid x.call own.answer p lawful
            (λ m held named there.
            acts-away n k pid id c ns met place s lawful made e legal t has x own next quiet no_call it f.control m
            (named-acts n k pid id c s lawful (sole-by s lawful f) made x.call m named) held there) own.is live))

        pub own-after : (point : Point) → Lives pid (Had id stood point) s.system
            → After point (fed_functions t x.reply) (after s e)
        own-after point lives = record {
          away = away-on;
          files = kept-files s (after s e) away-files f;
          had = away-lives (Had id stood point) (had-kept id stood point) lives;
        }

        own-away : Lives pid (Steps id stood) s.system → Next (fed_functions t x.reply)
        own-away lives =
            goes_past own-none
            (aways away-on (kept-files s (after s e) away-files f)
            (away-lives (Steps id stood) (steps-kept id stood) lives))

      -- truss looks at the process
      module _ (look : Looks (Goes s) c ns met place t) (f : Files s)
          (lives : Lives pid (Waits id stood) s.system) where
        data Sends : Type 0 where
          runs : x.call ≡ call.Ctl c (spelling (message.Run step_flags) []) → Sends
          writes : (bytes : List ℕ) → x.call ≡ call.Ctl c bytes → BeginWithWrite bytes → Sends

        sends : (d : Call) → LookCall (Goes s) c ns met place t.options d → x.call ≡ d → Sends
        sends d steps same = runs same
        sends d (patches function code) same = writes (spelling (message.Write _ _) code) same (write-reads _ _ code)

        sent : Sends
        sent = sends x.call (call-looks (Goes s) c ns met place t look has x.call next) refl

        plain : Sends → keeps_handles x.call ≡ true
        plain (runs same) = ap keeps_handles same
        plain (writes bytes same begins) = ap keeps_handles same

        keeps : Keeps n k pid id c ns met place s (after s e)
        keeps =
            same-keeps n k pid id c ns met place s (after s e) (own-handles k s e x own (plain sent)) f.control

        later-own : (P : TracedProcess → Type 0) → Lives pid P own.answer.state.system → Lives pid P (after s e).system
        later-own P at = subst (λ (u : TracedState). Lives pid P u.system) own.later at

        -- what it leaves of the process that lives
        module _ (p : TracedProcess) (live : live_process s.system pid ≡ Some p) where
          abbrev LeavesSo : (TracedProcess → Type 0) → Type 0
          LeavesSo P =
              Leaves n k pid id c stood s lawful (sole-by s lawful f) made p live (lives p live) (mine s f) own.answer P

          wrote : (bytes : List ℕ) → x.call ≡ call.Ctl c bytes → BeginWithWrite bytes → LeavesSo (Waits id stood)
          wrote bytes same begins =
              write-leaves n k pid id c stood s lawful (sole-by s lawful f) made p live (lives p live) (mine s f)
              own.answer bytes begins (ap (answer_to s k) (sym same) ∙ own.is)

          ran : x.call ≡ call.Ctl c (spelling (message.Run step_flags) []) → LeavesSo (Steps id stood)
          ran same =
              let w : Waits id stood p = lives p live in
              let l = live-lawful s.system pid p lawful.system live in
              run-leaves n k pid id c stood s lawful (sole-by s lawful f) made p live w (mine s f) own.answer l.rising
              (fault-ready p id w.stands (λ lwp there. no_call p lwp same live there) l.rising)
              (spelling (message.Run step_flags) []) 16 first-step (ap (answer_to s k) (sym same) ∙ own.is)

          sent-not-gone : Sends → own.answer.reply ≢ reply.Fail Noent
          sent-not-gone (runs same) = let it = ran same in it.not_gone
          sent-not-gone (writes bytes same begins) = let it = wrote bytes same begins in it.not_gone

        -- of the process that may have ended
        by-life : (P : TracedProcess → Type 0)
            → ((p : TracedProcess) → live_process s.system pid ≡ Some p → Lives pid P (after s e).system)
            → Lives pid P (after s e).system
        by-life P lived = by (live_process s.system pid) refl
          where
            by : (o : Option TracedProcess) → live_process s.system pid ≡ o → Lives pid P (after s e).system
            by None none = over-lives n pid s lawful made e legal P none
            by (Some p) live = lived p live

        wrote-lives : (bytes : List ℕ) → x.call ≡ call.Ctl c bytes → BeginWithWrite bytes
            → Lives pid (Waits id stood) (after s e).system
        wrote-lives bytes same begins =
            by-life (Waits id stood)
            (λ p live. later-own (Waits id stood) (let it = wrote p live bytes same begins in it.lives))

        ran-lives : x.call ≡ call.Ctl c (spelling (message.Run step_flags) [])
            → Lives pid (Steps id stood) (after s e).system
        ran-lives same =
            by-life (Steps id stood) (λ p live. later-own (Steps id stood) (let it = ran p live same in it.lives))

        gone-over : answer_of x.reply ≡ Gone → live_process (after s e).system pid ≡ None
        gone-over gone = by (live_process s.system pid) refl
          where
            by : (o : Option TracedProcess) → live_process s.system pid ≡ o
                → live_process (after s e).system pid ≡ None
            by None none = stays-over n s e pid lawful legal made none
            by (Some p) live =
                let refuses = gone-refuses x.reply gone in
                absurd (sent-not-gone p live sent (own.replied ∙ refuses.is))

        looked : AfterLook (Goes s) c ns met place t.options x.reply x.call (fed_functions t x.reply)
            → Next (fed_functions t x.reply)
        looked (goes_on more function code same) =
            goes_past own-none
            (looks
            (looks-weaker (Goes s) (Goes (after s e)) c ns met place _
            (keeps-goes n k pid id c ns met place s (after s e) keeps) more)
            (kept-files s (after s e) keeps f)
            (wrote-lives (spelling (message.Write _ _) code) same (write-reads _ _ code)))
        looked (is_away it stepped) =
            goes_past own-none
            (aways
            (away-weaker (Goes s) (Goes (after s e)) c ns met _
            (keeps-goes n k pid id c ns met place s (after s e) keeps) it)
            (kept-files s (after s e) keeps f) (ran-lives stepped))
        looked (has_ended gone) = is_over (gone-over gone)

        own-looks : Next (fed_functions t x.reply)
        own-looks =
            looked
            (reply-after (Goes s) c ns met place t look has x.reply
            (calm n k pid id c ns met place s lawful made e legal t has x own next quiet no_call) x.call next)

      pub own-before : Before t s → Next (fed_functions t x.reply)
      own-before (looks look f lives) = own-looks look f lives
      own-before (aways it f lives) = own-away it f lives

  -- ---- all entries

  -- truss makes its calls in these entries, and reads nothing of the process
  pub record Going (t : TrussState) (s : TracedState) (h : List Entry) : Type 0 where
    pub lawful : IsLawful s
    pub made : pid < s.system.made
    pub fit : IsFitSystem s.system
    pub has : has_functions t.options ≡ true
    pub legal : IsLegal n s h
    pub makes : MakesFunctionCalls t (exchanges k h)
    pub quiet : AreNoReads ns (exchanges k h)
    pub no_call : StepsNoCall k pid id c s h

  makes-on : (t : TrussState) (o : Option Exchange) (xs : List Exchange) → MakesFunctionCalls t (cons_option o xs)
      → MakesFunctionCalls (functions_on t o) xs
  makes-on t None xs makes = makes
  makes-on t (Some x) xs makes = makes.1

  quiet-on : (o : Option Exchange) (xs : List Exchange) → AreNoReads ns (cons_option o xs) → AreNoReads ns xs
  quiet-on None xs quiet = quiet
  quiet-on (Some x) xs quiet = quiet.1

  has-on : (t : TrussState) (o : Option Exchange) → has_functions t.options ≡ true
      → has_functions (functions_on t o).options ≡ true
  has-on t None has = has
  has-on t (Some x) has = ap has_functions (fed_functions-options t x.reply) ∙ has

  going-on : (t : TrussState) (s : TracedState) (e : Entry) (h : List Entry) → Going t s (e ∷ h)
      → Going (functions_on t (exchange_of k e)) (after s e) h
  going-on t s e h g = record {
    lawful = history-state n s (e ∷ []) g.lawful (g.legal.0, tt);
    made = stays-made n s e pid g.lawful g.legal.0 g.made;
    fit = history-fits n s (e ∷ []) g.lawful g.fit (g.legal.0, tt);
    has = has-on t (exchange_of k e) g.has;
    legal = g.legal.1;
    makes = makes-on t (exchange_of k e) (exchanges k h) (subst (MakesFunctionCalls t) (cons-exchanges k e h) g.makes);
    quiet = quiet-on (exchange_of k e) (exchanges k h) (subst (AreNoReads ns) (cons-exchanges k e h) g.quiet);
    no_call = let calls : StepsNoCall k pid id c s (e ∷ h) = g.no_call in record {
      each = λ before later f x p l is.
          calls.each (e ∷ before) later f x p l (ap (λ (es : List Entry). e ∷ es) is);
    };
  }

  after-option : (t : TrussState) (o : Option Exchange) (xs : List Exchange)
      → functions_after t (cons_option o xs) ≡ functions_after (functions_on t o) xs
  after-option t None xs = refl
  after-option t (Some x) xs = refl

  pub after-on : (t : TrussState) (e : Entry) (h : List Entry)
      → functions_after t (exchanges k (e ∷ h)) ≡ functions_after (functions_on t (exchange_of k e)) (exchanges k h)
  after-on t e h =
      ap (functions_after t) (cons-exchanges k e h) ∙ after-option t (exchange_of k e) (exchanges k h)

  -- the entry with which they begin
  module _ (t : TrussState) (s : TracedState) (e : Entry) (h : List Entry) (g : Going t s (e ∷ h)) where
    entry-next : (o : Option Exchange) → exchange_of k e ≡ o → MakesFunctionCalls t (cons_option o (exchanges k h))
        → AreNoReads ns (cons_option o (exchanges k h)) → Before t s
        → Next s g.lawful g.made g.fit e g.legal.0 t (functions_on t o)
    entry-next None is makes quiet b =
        foreign-before s g.lawful g.made g.fit e g.legal.0 t (foreign-entry n k s e g.legal.0 is) b
    entry-next (Some x) is makes quiet b =
        let calls : StepsNoCall k pid id c s (e ∷ h) = g.no_call in
        own-before s g.lawful g.made g.fit e g.legal.0 t g.has x is (own-entry n k s e x g.legal.0 is) makes.0 quiet.0
        (λ p l same live there. calls.each [] h e x p l refl is same live there) b

    first-next : Before t s → Next s g.lawful g.made g.fit e g.legal.0 t (functions_on t (exchange_of k e))
    first-next b =
        entry-next (exchange_of k e) refl (subst (MakesFunctionCalls t) (cons-exchanges k e h) g.makes)
        (subst (AreNoReads ns) (cons-exchanges k e h) g.quiet) b

    entry-later : (point : Point) (o : Option Exchange) → exchange_of k e ≡ o
        → MakesFunctionCalls t (cons_option o (exchanges k h)) → AreNoReads ns (cons_option o (exchanges k h))
        → After point t s → IsNoTurnOf pid id e × After point (functions_on t o) (after s e)
    entry-later point None is makes quiet a =
        foreign-after s g.lawful g.made g.fit e g.legal.0 t (foreign-entry n k s e g.legal.0 is) point a
    entry-later point (Some x) is makes quiet a =
        let calls : StepsNoCall k pid id c s (e ∷ h) = g.no_call in (
          record { other = own-in k pid id e.actor e.act x is },
          own-after s g.lawful g.made g.fit e g.legal.0 t g.has x is (own-entry n k s e x g.legal.0 is) makes.0 quiet.0
              (λ p l same live there. calls.each [] h e x p l refl is same live there) a.away a.files point a.had,
        )

    first-later : (point : Point) → After point t s
        → IsNoTurnOf pid id e × After point (functions_on t (exchange_of k e)) (after s e)
    first-later point a =
        entry-later point (exchange_of k e) refl (subst (MakesFunctionCalls t) (cons-exchanges k e h) g.makes)
        (subst (AreNoReads ns) (cons-exchanges k e h) g.quiet) a

  -- ---- the walk

  abbrev End : TrussState → List Entry → TrussState
  End t h = functions_after t (exchanges k h)

  end-nil : (t : TrussState) → End t [] ≡ t
  unfolding exchanges
  end-nil t = refl

  pub record LaterOn (point : Point) (t : TrussState) (s : TracedState) (h : List Entry) : Type 0 where
    pub none : All (IsNoTurnOf pid id) h
    pub after : After point (End t h) (state_after s h)

  later-walk : (h : List Entry) (t : TrussState) (s : TracedState) (point : Point) → Going t s h → After point t s
      → LaterOn point t s h
  later-walk [] t s point g a = record {
    none = All-nil (IsNoTurnOf pid id);
    after = subst (λ u. After point u s) (sym (end-nil t)) a;
  }
  later-walk (e ∷ h) t s point g a =
      let one = first-later t s e h g point a in
      let rest =
      later-walk h (functions_on t (exchange_of k e)) (after s e) point (going-on t s e h g) one.1 in
      record {
        none = All-cons (IsNoTurnOf pid id) e h one.0 rest.none;
        after = subst (λ u. After point u (state_after (after s e) h)) (sym (after-on t e h)) rest.after;
      }

  -- What comes of it: the lwp has no turn; or it has one; or the process ends.
  pub data Comes (t : TrussState) (s : TracedState) (h : List Entry) : Type 0 where
    no_turn : All (IsNoTurnOf pid id) h → Before (End t h) (state_after s h) → Comes t s h
    one_turn : (before later : List Entry) (did : Turned) (point : Point) → HasOneTurn pid id before did later h
        → Turns pid id stood (state_after s before) did point → After point (End t h) (state_after s h) → Comes t s h
    ends : live_process (state_after s h).system pid ≡ None → Comes t s h

  over-all : (h : List Entry) (s : TracedState) → IsLawful s → pid < s.system.made → IsLegal n s h
      → live_process s.system pid ≡ None → live_process (state_after s h).system pid ≡ None
  over-all [] s lawful made legal none = none
  over-all (e ∷ h) s lawful made legal none =
      over-all h (after s e) (history-state n s (e ∷ []) lawful (legal.0, tt))
      (stays-made n s e pid lawful legal.0 made) legal.1 (stays-over n s e pid lawful legal.0 made none)

  module _ (t : TrussState) (s : TracedState) (e : Entry) (h : List Entry) where
    abbrev on : TrussState
    on = functions_on t (exchange_of k e)

    -- an entry that is no turn of it comes first
    front : IsNoTurnOf pid id e → Comes on (after s e) h → Comes t s (e ∷ h)
    front none (no_turn all b) =
        no_turn (All-cons (IsNoTurnOf pid id) e h none all)
        (subst (λ u. Before u (state_after (after s e) h)) (sym (after-on t e h)) b)
    front none (one_turn before later did point one facts a) =
        one_turn (e ∷ before) later did point
        (record {
          is = ap (λ (es : List Entry). e ∷ es) one.is;
          none_before = All-cons (IsNoTurnOf pid id) e before none one.none_before;
          none_later = one.none_later;
        })
        facts (subst (λ u. After point u (state_after (after s e) h)) (sym (after-on t e h)) a)
    front none (ends gone) = ends gone

    module _ (g : Going t s (e ∷ h)) where
      walk-on : (Before on (after s e) → Comes on (after s e) h) → Next s g.lawful g.made g.fit e g.legal.0 t on
          → Comes t s (e ∷ h)
      walk-on rest (goes_past none b) = front none (rest b)
      walk-on rest (has_turn did point is facts a) =
          let later = later-walk h on (after s e) point (going-on t s e h g) a in
          one_turn [] h did point
          (record {
            is = ap (λ (f : Entry). f ∷ h) is;
            none_before = All-nil (IsNoTurnOf pid id);
            none_later = later.none;
          })
          facts (subst (λ u. After point u (state_after (after s e) h)) (sym (after-on t e h)) later.after)
      walk-on rest (is_over gone) =
          let later = going-on t s e h g in
          ends (over-all h (after s e) later.lawful later.made later.legal gone)

  pub walk : (h : List Entry) (t : TrussState) (s : TracedState) → Going t s h → Before t s → Comes t s h
  walk [] t s g b = no_turn (All-nil (IsNoTurnOf pid id)) (subst (λ u. Before u s) (sym (end-nil t)) b)
  walk (e ∷ h) t s g b =
      walk-on t s e h g
      (λ later. walk h (functions_on t (exchange_of k e)) (after s e) (going-on t s e h g) later)
      (first-next t s e h g b)
