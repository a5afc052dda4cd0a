use Rattle.std.proofs.Common.{◌≡◌, ◌≢◌, ◌<◌, ◌++◌, ℕ, Bool, true, false, Option, Some, None, List, [], ◌∷◌, length}
use Rattle.std.proofs.Common.{refl, sym, subst, ap, ◌∙◌, inl, inr}
use Rattle.std.proofs.lemmas.Bool.{cases_Bool, false≢true}
use Rattle.std.proofs.lemmas.Option.{none-some}
use Rattle.std.specs.List.{slice_get}
use Rattle.pr_function_hides.proofs.GoingOn.CalmCalls as Calm
use Rattle.pr_function_hides.proofs.LeavingCopies.CopyLeft.{alone-left, copies-turn, traces-turn}
use Rattle.pr_function_hides.proofs.StoppedCopies.CopySets.{traced-stops}
use Rattle.pr_function_hides.proofs.StoppedCopies.CopyTurns.{turn-makes-none}
use Rattle.pr_function_hides.proofs.Replies.FilesWalk.{SameFiles}
use Rattle.pr_function_hides.proofs.LeavingFaults.LeavingFirst.{First}
use Rattle.pr_function_hides.proofs.LeavingFaults.LeavingSent.{StandsSo, alone-lasts, stands-on}
use Rattle.pr_function_hides.proofs.Replies.LeavingStages.{is_looked}
use Rattle.pr_function_hides.proofs.Replies.LeavingWalk.{Left}
use Rattle.pr_function_hides.proofs.MetFaults.MetCounts.{MetCount, MetOwn, alone-clears}
use Rattle.pr_function_hides.proofs.MetFaults.MetTurns.{same-at, turned-count}
use Rattle.pr_function_hides.proofs.StandingFaults.OwnFaults.{CountLess, HasNoOwn, OwnStops, alone-old, faults-old, less-clean, old-none, stops-stay}
use Rattle.pr_function_hides.proofs.FaultStops.StoppedFaults.{RestsIn, framed-rests}
use Rattle.pr_function_hides.proofs.FaultStops.StoppedTurns.{stand-turned, stops-traced, taken as taken-then}
use Rattle.pr_function_hides.proofs.FaultStops.StoppedWalk.{posted-on}
use Rattle.pr_function_hides.proofs.CodeThere.StepCode.{NeverTakes, StepIn, one-steps, takes-copies}
use Rattle.pr_function_hides.proofs.Tidy.TidyEntries.{its-lawful, now-is}
use Rattle.pr_function_hides.proofs.Tidy.TidyKept.{Truss}
use Rattle.pr_function_hides.specs.Copying.{CopiesStand, IsLifted, bare, makes_copy, none_goes, one_goes}
use Rattle.pr_function_hides.specs.CountedFunctions.{takes_memory}
use Rattle.pr_function_hides.specs.RunsOfTrusses.{IsRunOfTrusses}
use Rattle.pr_function_laws.proofs.OpenedProcesses.OneEventLemmas.{alone-few}
use Rattle.pr_function_laws.proofs.OpenedProcesses.OneEventTurns.{turn-few}
use Rattle.pr_function_laws.proofs.OpenedProcesses.OpenedLaws.{turn-later}
use Rattle.pr_function_laws.specs.OneEvent.{HasOneEventAtMost}
use Rattle.pr_function_laws.specs.Opened.{is_opened}
use Rattle.pr_hidden.specs.Covers.{Cover, Covers}
use Rattle.pr_hidden.specs.Hiders.{Hiders, covers_at, hides}
use Rattle.pr_hidden.specs.Tidiness.{IsPassiveBut}
use Rattle.pr_line.specs.declared.options.Options.{Options}
use Rattle.pr_model.proofs.TurnLemmas.{turn-taken}
use Rattle.pr_model.specs.Lawful.{IsLawful}
use Rattle.pr_model.specs.Legal.{state_after}
use Rattle.pr_model.specs.LwpTurns.{LwpTurn, turn_of}
use Rattle.pr_model.specs.State.{TracedProcess, TracedState, has_agent, live_process}
use Rattle.pr_model.specs.declared.events.Act.{Act}
use Rattle.pr_model.specs.declared.events.Act.TheVariants as act
use Rattle.pr_model.specs.declared.events.Actor.{Actor}
use Rattle.pr_model.specs.declared.events.Actor.TheVariants.{Controller, Lwp}
use Rattle.pr_model.specs.declared.events.Entry.{Entry}
use Rattle.pr_model.specs.declared.events.Turned.{Turned}
use Rattle.pr_num.specs.Control.{clear_fault}
use Rattle.pr_probe_laws.specs.StepMarks.{IsUnstepped}
use Rattle.pr_report_laws.proofs.Invariant.StandLemmas.{IsThere}
use Rattle.pr_report_laws.proofs.Machine.FrameLaws.{alone-agent}
use Rattle.pr_report_laws.proofs.Machine.StayingLwps.{turn-no-agent}
use Rattle.pr_truss.specs.Asides.{marks_at}
use Rattle.pr_truss.specs.Trusses.{TrussState, traced_at}
use Rattle.pr_truss.specs.declared.marks.Marks.{Marks}
use Rattle.pr_truss.specs.declared.processes.Traced.{Traced}
use Rattle.pr_truss_laws.proofs.EventStops.AloneLemmas.{alone-frozen}
use Rattle.pr_truss_laws.proofs.Machine.StillLemmas.{frozen-turns}
use Rattle.pr_truss_laws.specs.Exchanges.{exchange_of}
use Rattle.pr_truss_laws.specs.Stills.{IsFrozen, IsUndisturbed}
use Rattle.pr_world.specs.ControllerStates.{ControllerState}
use Rattle.pr_world.specs.Protocol.{controllers_at}

-- What is so of each process of a truss that leaves its processes, until truss looks at it; and of the one that it
-- leaves now. What others do and turns leave it so.

-- where PCCFAULT is aimed at an lwp of a process that stands still: at the one that met an event, and if that is at a
-- fault it counts as standing at one of those who hide
pub record LeadsSo (c : Cover) (p : TracedProcess) : Type 0 where
  pub frozen : IsFrozen p
  pub no_agent : has_agent p ≡ false
  pub few : HasOneEventAtMost p
  pub own : MetOwn c p

-- truss had opened the process of this id whole when it was interrupted, and counted no stop of it that stood before it
-- came
abbrev pub WasOpened : TrussState → ℕ → Type 0
WasOpened t pid =
    (q : ℕ) × ((q < length t.traced) × (((traced_at t q).pid ≡ pid) × (is_opened t.stage q ≡ true)))

abbrev pub WasNew : TrussState → ℕ → Type 0
WasNew t pid = (q : ℕ) × ((q < length t.traced) × (((traced_at t q).pid ≡ pid) × ((traced_at t q).old ≡ 0)))

-- truss has still to look at it, and counts the stops from before that it counted then; and it has seen no stop of it
-- if it had attached it
pub record IsDue (t0 : TrussState) (due : ℕ → Bool) (v : Traced) : Type 0 where
  pub is_due : due v.pid ≡ true
  pub new : v.old ≡ 0 → WasNew t0 v.pid
  pub old : WasNew t0 v.pid → v.old ≡ 0
  pub unseen : v.attached ≡ true → v.seen ≡ false

pub due-alike : (t0 : TrussState) (due : ℕ → Bool) (u v : Traced) → SameFiles u v → v.attached ≡ u.attached
    → v.old ≡ u.old → v.seen ≡ u.seen → IsDue t0 due u → IsDue t0 due v
due-alike t0 due u v same attached old seen w = record {
  is_due = ap due same.pid ∙ w.is_due;
  new = λ none. subst (WasNew t0) (sym same.pid) (w.new (sym old ∙ none));
  old = λ new. old ∙ w.old (subst (WasNew t0) same.pid new);
  unseen = λ on. seen ∙ w.unseen (sym attached ∙ on);
}

module _ {n : ℕ} {who : Hiders} {controllers : List ControllerState} {first : TracedState}
    {h : List Entry} (run : IsRunOfTrusses n who controllers first h) where
  abbrev here : List Entry → TracedState
  here front = state_after first front

  abbrev covers : List Entry → Covers
  covers front = covers_at who first front

  -- ---- what is so

  -- where others are passive, and no lwp had a step mark at first
  abbrev pub Settled : Type 0
  Settled = IsPassiveBut who h × IsUnstepped first.system

  -- a process stands still, and no lwp of it counts as standing at a fault of one who hides
  abbrev pub RestIn : List Entry → ℕ → Type 0
  RestIn front pid =
      (p : TracedProcess) → live_process (here front).system pid ≡ Some p
      → IsFrozen p × ((id : ℕ) → (covers front pid).faulted id ≡ false)

  -- or none stands there
  abbrev pub DoneIn : List Entry → ℕ → Type 0
  DoneIn front pid =
      Settled → (p : TracedProcess) → live_process (here front).system pid ≡ Some p
      → IsFrozen p × HasNoOwn (covers front pid) p

  -- of a process that truss has still to look at, which it had opened
  pub record DueSo (front : List Entry) (t0 : TrussState) (o : Options) (pid : ℕ) (m : Marks) (lstatus : Option ℕ)
      : Type 0 where
    pub flags : m.flags ≡ 0
    pub known : IsThere lstatus
    pub code : WasNew t0 pid → StepIn run front o pid m
    pub stands : (p : TracedProcess) → live_process (here front).system pid ≡ Some p
        → StandsSo o (WasNew t0 pid) m (covers front pid) p
    pub rests : Settled → WasNew t0 pid → RestsIn run front pid
    pub calm : Settled → (WasNew t0 pid → ⊥) → RestIn front pid

  abbrev pub MetAt : List Entry → TrussState → (ℕ → Bool) → Options → ℕ → Bool → Marks → Option ℕ → Type 0
  MetAt front t0 due o pid attached m lstatus =
      (attached ≡ true → WasOpened t0 pid)
      × (due pid ≡ true → WasOpened t0 pid → DueSo front t0 o pid m lstatus)

  abbrev pub LeftMet : List Entry → TrussState → (ℕ → Bool) → Options → Traced → Type 0
  LeftMet front t0 due o v = MetAt front t0 due o v.pid v.attached v.marks v.lstatus

  pub met-alike : (front : List Entry) (t0 : TrussState) (due : ℕ → Bool) (o : Options) (u v : Traced) → SameFiles u v
      → v.attached ≡ u.attached → v.marks ≡ u.marks → LeftMet front t0 due o u → LeftMet front t0 due o v
  met-alike front t0 due o u v same attached marks w =
      subst (λ i. MetAt front t0 due o i v.attached v.marks v.lstatus) (sym same.pid)
      (subst (λ b. MetAt front t0 due o u.pid b v.marks v.lstatus) (sym attached)
      (subst (λ m. MetAt front t0 due o u.pid u.attached m v.lstatus) (sym marks)
      (subst (λ l. MetAt front t0 due o u.pid u.attached u.marks l) (sym same.lstatus) w)))

  abbrev pub Still : List Entry → ℕ → Type 0
  Still front pid = (p : TracedProcess) → live_process (here front).system pid ≡ Some p → IsFrozen p

  abbrev pub Leads : List Entry → ℕ → Type 0
  Leads front pid =
      (p : TracedProcess) → live_process (here front).system pid ≡ Some p
      → LeadsSo (covers front pid) p × (Settled → OwnStops (covers front pid) p)

  -- of a truss that leaves its processes, since it was interrupted where it stood so
  pub record LeavesMet (front : List Entry) (t : TrussState) : Type 0 where
    pub t0 : TrussState
    pub due : ℕ → Bool
    pub left : Left (LeftMet front t0 due t.options) (met-alike front t0 due t.options) (IsDue t0 due)
        (due-alike t0 due) t
    pub place : First (Still front) (Leads front) (DoneIn front) t
    pub done : is_looked t.stage ≡ true → due (traced_at t 0).pid ≡ true → ⊥

  -- ---- an entry of others

  module _ (front : List Entry) (actor : Actor) (did : Act) (back : List Entry)
      (place : h ≡ front ++ record { actor = actor; act = did } ∷ back) (k : ℕ) (hider : hides who k ≡ true) where
    abbrev e : Entry
    e = record { actor = actor; act = did }

    abbrev next_front : List Entry
    next_front = front ++ e ∷ []

    abbrev pub t : TrussState
    t = Calm.t run front e back place k hider

    truss-there : Truss who controllers first h front k
    truss-there = Calm.truss run front e back place k hider

    -- it leaves a process alone
    module _ (none : exchange_of k e ≡ None) (same : slice_get (controllers_at controllers next_front) k
        ≡ slice_get (controllers_at controllers front) k) (foreign : actor ≢ Controller k) (q : ℕ)
        (within : q < length t.traced) (apart : (own : ℕ) → actor ≢ Lwp (traced_at t q).pid own)
        (more : CountLess (covers next_front (traced_at t q).pid) (covers front (traced_at t q).pid))
        (less : Settled → CountLess (covers front (traced_at t q).pid) (covers next_front (traced_at t q).pid))
        (patches : Settled → (covers next_front (traced_at t q).pid).patches
        ≡ (covers front (traced_at t q).pid).patches)
      where
        abbrev pid : ℕ
        pid = (traced_at t q).pid

        left-alone : (x : TracedProcess) → live_process (here next_front).system pid ≡ Some x
            → (p : TracedProcess) × ((live_process (here front).system pid ≡ Some p) × IsUndisturbed p x)
        left-alone = Calm.left-alone run front e back place k hider none q within apart

        never : NeverTakes run front actor did back place k hider t q
        never step under_way id turned is = absurd (apart id (ap (λ (x : Entry). x.actor) is))

        pub alone-met : (t0 : TrussState) (due : ℕ → Bool) → LeftMet front t0 due t.options (traced_at t q)
            → LeftMet next_front t0 due t.options (traced_at t q)
        alone-met t0 due w = (
          w.0,
          λ is_due opened.
              let d = w.1 is_due opened in
              let now = Calm.truss run front e back place k hider in
              record {
                flags = d.flags;
                known = d.known;
                code = λ new.
                    one-steps run front actor did back place k hider same foreign now.t now.is q within never
                    (d.code new);
                stands = λ x later.
                    let was = left-alone x later in
                    stands-on t.options (WasNew t0 pid) (marks_at t q) (covers front pid)
                    (covers next_front pid) was.0 x
                    (alone-left was.0 x was.1.1) (alone-lasts was.0 x was.1.1) more (d.stands was.0 was.1.0);
                rests = λ settled new.
                    framed-rests run front e back place k hider none q within apart (less settled) (patches settled)
                    (d.rests settled new);
                calm = λ settled old x later.
                    let was = left-alone x later in
                    let c = d.calm settled old was.0 was.1.0 in (
                      alone-frozen was.0 x was.1.1 c.0,
                      less-clean (covers front pid) (covers next_front pid) (less settled) c.1,
                    );
              },
        )

        pub alone-still : Still front pid → Still next_front pid
        alone-still still x later =
            let was = left-alone x later in alone-frozen was.0 x was.1.1 (still was.0 was.1.0)

        pub alone-leads : Leads front pid → Leads next_front pid
        alone-leads leads x later =
            let was = left-alone x later in
            let both = leads was.0 was.1.0 in
            let w = both.0 in (
              record {
                frozen = alone-frozen was.0 x was.1.1 w.frozen;
                no_agent = alone-agent was.0 x was.1.1 ∙ w.no_agent;
                few = alone-few was.0 x was.1.1 w.few;
                own = alone-clears (covers front pid) (covers next_front pid) was.0 x more was.1.1 clear_fault
                    (λ steps. w.own) refl;
              },
              λ settled.
                  stops-stay (covers front pid) (covers next_front pid) was.0 x (less settled)
                  (faults-old was.0 x (alone-old was.0 x was.1.1)) (both.1 settled),
            )

        pub alone-done : DoneIn front pid → DoneIn next_front pid
        alone-done done settled x later =
            let was = left-alone x later in
            let w = done settled was.0 was.1.0 in (
              alone-frozen was.0 x was.1.1 w.0,
              old-none (covers front pid) (covers next_front pid) was.0 x (less settled)
                  (alone-old was.0 x was.1.1) w.1,
            )

  -- ---- a turn of a process

  module _ (front back : List Entry) (acting id : ℕ) (turned : Turned)
      (place : h ≡ front ++ record { actor = Lwp acting id; act = act.Turn turned } ∷ back) (k : ℕ)
      (hider : hides who k ≡ true) where
    abbrev te : Entry
    te = record { actor = Lwp acting id; act = act.Turn turned }

    abbrev later_front : List Entry
    later_front = front ++ te ∷ []

    abbrev s : TracedState
    s = here front

    abbrev tr : TrussState
    tr = Calm.t run front te back place k hider

    abbrev turn : LwpTurn
    turn = (Calm.its-turn run front back acting id turned place).0

    turn-is : turn_of s.system acting id ≡ Some turn
    turn-is = (Calm.its-turn run front back acting id turned place).1.0

    lawful-now : IsLawful s
    lawful-now = its-lawful run front te back place (Calm.kept-here run front te back place k hider)

    later-system : (here later_front).system ≡ turn.system
    later-system =
        ap (λ (x : TracedState). x.system)
        (now-is run front te back place (Calm.kept-here run front te back place k hider))
        ∙ turn-later s acting id turned turn turn-is

    module _ (q : ℕ) (within : q < length tr.traced) (own : (traced_at tr q).pid ≡ acting) where
      abbrev pid_at : ℕ
      pid_at = (traced_at tr q).pid

      taken : (p : TracedProcess) × (live_process s.system acting ≡ Some p)
      taken = let it = turn-taken s.system acting id turn turn-is in (it.process, it.live)

      there : live_process s.system pid_at ≡ Some taken.0
      there = ap (live_process s.system) own ∙ taken.1

      -- one that stands still has no turn
      moves-not : {A : Type 0} → Still front pid_at → A
      moves-not still =
          absurd (none-some turn
          (sym (frozen-turns s.system acting taken.0 taken.1 (still taken.0 there) id) ∙ turn-is))

      pub turned-still : Still front pid_at → Still later_front pid_at
      turned-still still = moves-not still

      pub turned-leads : Leads front pid_at → Leads later_front pid_at
      turned-leads leads = moves-not (λ p live. let w = (leads p live).0 in w.frozen)

      pub turned-done : DoneIn front pid_at → DoneIn later_front pid_at
      turned-done done settled = moves-not (λ p live. (done settled p live).0)

      -- a fork, a vfork and an exec that is granted finds no step under way
      lifts-steps : (m : Marks) (p : TracedProcess) → live_process s.system acting ≡ Some p → CopiesStand m p
          → makes_copy turn.turned.did ≡ true → IsLifted m
      lifts-steps m p live (none_goes all) makes =
          absurd (false≢true
          (sym (turn-makes-none s.system acting p id turn lawful-now.system live turn-is None all tt) ∙ makes))
      lifts-steps m p live (one_goes other lifted all) makes = lifted
      lifts-steps m p live (bare lifted none) makes = lifted

      module _ (t0 : TrussState) (due : ℕ → Bool) (w : LeftMet front t0 due tr.options (traced_at tr q))
          (is_due : due pid_at ≡ true) (opened : WasOpened t0 pid_at) where
        abbrev m : Marks
        m = marks_at tr q

        was : DueSo front t0 tr.options pid_at m (traced_at tr q).lstatus
        was = w.1 is_due opened

        stood : StandsSo tr.options (WasNew t0 pid_at) m (covers front pid_at) taken.0
        stood = let d = was in d.stands taken.0 there

        same-turn : (other : ℕ) (again : Turned) → te ≡ record { actor = Lwp pid_at other; act = act.Turn again }
            → turned ≡ again
        same-turn other again is = turned-same (ap (λ (x : Entry). x.act) is)
          where
            turned-same : {a b : Turned} → act.Turn a ≡ act.Turn b → a ≡ b
            turned-same e = cc

        never-takes : WasNew t0 pid_at → NeverTakes run front (Lwp acting id) (act.Turn turned) back place k hider tr q
        never-takes new step under_way other again is = elim (cases_Bool (takes_memory again.did)) [
          | inr leaves ↦ leaves
          | inl takes ↦
              (let st = stood in
              let made : makes_copy turn.turned.did ≡ true =
              ap (λ (y : Turned). makes_copy y.did)
              ((Calm.its-turn run front back acting id turned place).1.1 ∙ same-turn other again is)
              ∙ takes-copies again.did takes in
              let lifted = lifts-steps m taken.0 taken.1 (st.copies new) made in
              absurd (none-some step (sym lifted.no_step ∙ under_way)))
        ]

        later-stands : (x : TracedProcess) → live_process (here later_front).system pid_at ≡ Some x
            → StandsSo tr.options (WasNew t0 pid_at) m (covers later_front pid_at) x
        later-stands x later =
            let st = stood in
            let d = was in
            let traces = st.traces in
            let stops = traces.stops in
            let now : live_process turn.system acting ≡ Some x =
            ap (λ (y : _). live_process y acting) (sym later-system)
            ∙ ap (live_process (here later_front).system) (sym own) ∙ later in
            let there_later : live_process (here later_front).system acting ≡ Some x =
            ap (live_process (here later_front).system) (sym own) ∙ later in
            record {
              traces = traces-turn tr.options m s.system acting taken.0 id turn lawful-now.system taken.1 turn-is x now
                  st.traces;
              no_agent =
                  turn-no-agent s.system acting taken.0 id turn lawful-now.system taken.1 turn-is st.no_agent x now;
              few = λ new.
                  turn-few s.system acting taken.0 id turn lawful-now.system taken.1 turn-is stops.directs x now
                  (st.few new);
              met = λ new.
                  subst (λ i. MetCount (covers later_front i) tr.options m x) (sym own)
                  (turned-count run front back acting id turned place k hider q within own taken.0 taken.1 (st.few new)
                  stops (d.code new)
                  (λ p live.
                  subst (λ i. MetCount (covers front i) tr.options m p) own
                  (let other = d.stands p (ap (live_process s.system) own ∙ live) in other.met new)) x there_later);
              copies = λ new.
                  copies-turn tr.options m s.system acting taken.0 id turn lawful-now.system taken.1 turn-is x now
                  (traced-stops tr.options (let p : TracedProcess = taken.0 in p.control) st.traces) (st.copies new);
            }

        later-rests : Settled → WasNew t0 pid_at → RestsIn run later_front pid_at
        later-rests settled new =
            let posted = posted-on run settled.0 settled.1 front (te ∷ back) place in
            let it = taken-then run front back acting id turned place posted k hider in
            let d = was in
            let st = d.stands it.0 (ap (live_process s.system) own ∙ it.1.0) in
            let traces = st.traces in
            subst (RestsIn run later_front) (sym own)
            (λ x later.
            stand-turned run front back acting id turned place posted k hider (st.few new)
            (stops-traced (let p : TracedProcess = it.0 in p.control) traces.stops)
            (subst (RestsIn run front) own (d.rests settled new)) x later)

        pub turned-due : DueSo later_front t0 tr.options pid_at m (traced_at tr q).lstatus
        turned-due =
            let d = was in
            let now = Calm.truss run front te back place k hider in
            record {
              flags = d.flags;
              known = d.known;
              code = λ new.
                  one-steps run front (Lwp acting id) (act.Turn turned) back place k hider
                  (same-at run front back acting id turned place k hider) (λ is. cc) now.t now.is q within
                  (never-takes new) (d.code new);
              stands = later-stands;
              rests = λ settled new. later-rests settled new;
              calm = λ settled old. moves-not (λ p live. (d.calm settled old p live).0);
            }

      pub turned-met : (t0 : TrussState) (due : ℕ → Bool) → LeftMet front t0 due tr.options (traced_at tr q)
          → LeftMet later_front t0 due tr.options (traced_at tr q)
      turned-met t0 due w = (w.0, λ is_due opened. turned-due t0 due w is_due opened)
