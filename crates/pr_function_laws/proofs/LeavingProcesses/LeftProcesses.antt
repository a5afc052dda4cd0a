use Rattle.std.proofs.Common.{◌≡◌, ◌≢◌, ◌<◌, ℕ, Bool, true, false}
use Rattle.std.proofs.Common.{Option, Some, None, [], ◌∷◌, length, refl, sym, subst, ap, ◌∙◌, arith, inl, inr}
use Rattle.std.proofs.lemmas.Bool.{cases_eq, false≢true}
use Rattle.std.proofs.lemmas.List.{length-map}
use Rattle.std.proofs.lemmas.List.Elements.{All-cons, All-nil}
use Rattle.std.proofs.lemmas.Option.{none-some, same_Some}
use Rattle.pr_lawful.proofs.LawfulStates.HistoryLemmas.{history-state}
use Rattle.pr_line.specs.declared.options.Options.{Options}
use Rattle.pr_model.specs.Handles.{handle_of, is_writable}
use Rattle.pr_model.specs.Lawful.{IsLawful}
use Rattle.pr_model.specs.Legal.{IsLegalEntry, after}
use Rattle.pr_model.specs.LwpTurns.{LwpTurn, turn_of}
use Rattle.pr_model.specs.State.{TracedProcess, TracedState, TracedSystem, live_process}
use Rattle.pr_model.specs.declared.events.Act.{Act}
use Rattle.pr_model.specs.declared.events.Act.TheVariants as act
use Rattle.pr_model.specs.declared.events.Actor.{Actor}
use Rattle.pr_model.specs.declared.events.Actor.TheVariants.{Controller, Lwp, Clock}
use Rattle.pr_model.specs.declared.events.Entry.{Entry}
use Rattle.pr_model.specs.declared.handles.Held.{Held}
use Rattle.pr_reached.proofs.Together.ReachedLemmas.{later-reached}
use Rattle.pr_reached.specs.ByteHistories.{IsEntryOfBytes}
use Rattle.pr_reached.specs.Reached.{IsReached}
use Rattle.pr_report_laws.proofs.Files.FileLaws.{FileOf, HasFiles, has-each}
use Rattle.pr_report_laws.proofs.Files.KeepLemmas.{FilesAre}
use Rattle.pr_num.specs.Control.{async_mode, has_flags}
use Rattle.pr_report_laws.specs.Shown.{LwpEvent}
use Rattle.pr_report_laws.specs.Watching.{place_of}
use Rattle.pr_truss.specs.Processes.{last_handle, without_last}
use Rattle.pr_truss.specs.Trusses.{TrussState, traced_at}
use Rattle.pr_truss.specs.declared.asides.Aside.{Aside}
use Rattle.pr_truss.specs.declared.asides.Aside.TheVariants.{Asking, AwaitingAgain, AwaitingStop, Nothing}
use Rattle.pr_truss.specs.declared.marks.Marks.{Marks}
use Rattle.pr_truss.specs.declared.processes.Traced.{Traced}
use Rattle.pr_truss.specs.declared.stages.Stage.{Stage}
use Rattle.pr_truss.specs.declared.stages.Stage.TheVariants.{Closing, ReadingLwps, ReadingText, Unfollowing}
use Rattle.pr_truss_laws.proofs.EventStops.AloneLemmas.{alone-frozen, alone-halting}
use Rattle.pr_truss_laws.proofs.Machine.StillLemmas.{frozen-turns}
use Rattle.pr_truss_laws.specs.Stills.{IsFrozen, IsHalting, IsUndisturbed}
use Rattle.pr_function_laws.proofs.Stepping.BreakpointLemmas.{IsForeign}
use Rattle.pr_function_laws.proofs.LeavingProcesses.LeavingFacts.{StoodNext}
use Rattle.pr_function_laws.proofs.LeavingProcesses.LeavingLaws.{halt_aside, halt_stage}
use Rattle.pr_function_laws.proofs.LeavingProcesses.LeavingStages.{IsLeft, IsUnlooked, is_looked}
use Rattle.pr_function_laws.proofs.LeavingProcesses.LeavingSteps.{IsAt, IsAtNext, NextLeft, begins}
use Rattle.pr_function_laws.proofs.LeavingProcesses.LeavingSteps.{none_left}
use Rattle.pr_function_laws.proofs.LeavingProcesses.LeavingSteps.{shuts}
use Rattle.pr_function_laws.proofs.OpenedProcesses.OpenedLaws.{elsewhere-alone, foreign-sets, turn-later}
use Rattle.pr_function_laws.proofs.OrdinaryTruss.OrdinaryReplies.{at-ordinary}
use Rattle.pr_function_laws.proofs.Pending.PendingWalk.{On, on-stays, on-turns}
use Rattle.pr_function_laws.proofs.OpenedProcesses.StoodLemmas.{Stood, alone-stood, turn-halting, turn-stood}
use Rattle.pr_function_laws.proofs.OpenedProcesses.TracedSets.{IsAsSet, IsSetBy, alone-sets, set-by-same}
use Rattle.pr_function_laws.specs.Leaving.{AsksAgain, Directs, Ends, Goes as GoesTo, HaltNext, HaltStep, Looks, Waits}
use Rattle.pr_function_laws.specs.Leaving.{WaitsAgain}
use Rattle.pr_function_laws.specs.Lifted.{HasControl}
use Rattle.pr_function_laws.specs.Opened.{TracesAll}
use Rattle.pr_function_laws.specs.Ordinary.{ordinary, unmarked}

-- How the processes stand that truss leaves: what is set on them stays set until their files are closed, one event of
-- each at most is unread until truss has looked at it, and from then on nothing of it moves. It stays so at an entry of
-- others.

-- ---- what is said

-- How the first process stands, by what truss does next: it was directed to stop, or nothing of it moves.
abbrev pub StoodFirst : Stage → Aside → TracedProcess → Type 0
StoodFirst Unfollowing aside p = Unit {0}
StoodFirst ReadingLwps (AwaitingStop until) p = (until ≡ 0) × IsHalting p
StoodFirst ReadingLwps Asking p = IsHalting p
StoodFirst ReadingLwps (AwaitingAgain until) p = (until ≡ 0) × IsHalting p
StoodFirst stage aside p = IsFrozen p

pub record IsLeaving (Reached : Type 0) (k : ℕ) (o : Options) (t : TrussState) (s : TracedState) : Type 0 where
  pub lawful : IsLawful s
  pub reached : Reached → IsReached s
  pub options : t.options ≡ o
  pub on : t.leaving ≡ true
  pub at : IsLeft t
  pub sets : (q : ℕ) → q < length t.traced → (traced_at t q).attached ≡ true → (p : TracedProcess)
      → live_process s.system (traced_at t q).pid ≡ Some p → IsSetBy o None p
  pub stood : Reached → (q : ℕ) → q < length t.traced → (traced_at t q).attached ≡ true → IsUnlooked t.stage q
      → (p : TracedProcess) → live_process s.system (traced_at t q).pid ≡ Some p → Stood 0 (traced_at t q).old p
  pub first : 0 < length t.traced → (traced_at t 0).attached ≡ true → (p : TracedProcess)
      → live_process s.system (traced_at t 0).pid ≡ Some p → StoodFirst t.stage t.aside p

-- ---- by where truss stands

first-at : (t : TrussState) (stage : Stage) (aside : Aside) (p : TracedProcess) → IsAt t stage aside
    → StoodFirst stage aside p → StoodFirst t.stage t.aside p
first-at t stage aside p at h =
    subst (λ (x : Stage). StoodFirst x t.aside p) (sym at.0) (subst (λ a. StoodFirst stage a p) (sym at.1) h)

pub at-first : (t : TrussState) (stage : Stage) (aside : Aside) (p : TracedProcess) → IsAt t stage aside
    → StoodFirst t.stage t.aside p → StoodFirst stage aside p
at-first t stage aside p at h =
    subst (λ a. StoodFirst stage a p) at.1 (subst (λ (x : Stage). StoodFirst x t.aside p) at.0 h)

step-first : (step : HaltStep) (p : TracedProcess) → StoodNext (GoesTo step) p
    → StoodFirst (halt_stage step) (halt_aside step) p
step-first Directs p h = h
step-first (Waits until) p h = h
step-first AsksAgain p h = h
step-first (WaitsAgain until) p h = h

pub first-step : (step : HaltStep) (p : TracedProcess) → StoodFirst (halt_stage step) (halt_aside step) p
    → StoodNext (GoesTo step) p
first-step Directs p h = h
first-step (Waits until) p h = h
first-step AsksAgain p h = h
first-step (WaitsAgain until) p h = h

pub next-first : (v : TrussState) (next : HaltNext) (p : TracedProcess) → IsAtNext v next → StoodNext next p
    → StoodFirst v.stage v.aside p
next-first v (GoesTo step) p at h = first-at v (halt_stage step) (halt_aside step) p at (step-first step p h)
next-first v Looks p at h = first-at v ReadingLwps Nothing p at h
next-first v Ends p at h = absurd h

-- a process that stands still stands so wherever truss has looked
pub looked-first : (v : TrussState) (p : TracedProcess) → is_looked v.stage ≡ true → IsFrozen p
    → StoodFirst v.stage v.aside p
looked-first v p looked_so frozen = by v.stage v.aside looked_so
  where
    by : (stage : Stage) (aside : Aside) → is_looked stage ≡ true → StoodFirst stage aside p
    by (Closing q next) aside is = frozen
    by (ReadingText q l from len) aside is = frozen
    by _ aside is = absurd (false≢true is)

-- a process that is directed next, or only closed
pub begin-first : (v : TrussState) → NextLeft v → 0 < length v.traced → (traced_at v 0).attached ≡ true
    → (p : TracedProcess) → StoodFirst v.stage v.aside p
begin-first v (begins at within on) some attached p = first-at v Unfollowing Nothing p at tt
begin-first v (shuts at within off) some attached p = absurd (false≢true (sym off ∙ attached))
begin-first v (none_left at none) some attached p = absurd (omega (arith, some, none))

-- where it lives truss has not looked at it
pub next-unlooked : (v : TrussState) (next : HaltNext) (p : TracedProcess) → IsAtNext v next → StoodNext next p
    → is_looked v.stage ≡ false
next-unlooked v (GoesTo Directs) p at h = ap is_looked at.0
next-unlooked v (GoesTo (Waits until)) p at h = ap is_looked at.0
next-unlooked v (GoesTo AsksAgain) p at h = ap is_looked at.0
next-unlooked v (GoesTo (WaitsAgain until)) p at h = ap is_looked at.0
next-unlooked v Looks p at h = ap is_looked at.0
next-unlooked v Ends p at h = absurd h

pub next-left-unlooked : (v : TrussState) → NextLeft v → (i : ℕ) → i < length v.traced
    → (traced_at v i).attached ≡ true → IsUnlooked v.stage i
next-left-unlooked v (begins at some on) i within attached looked_so =
    absurd (false≢true (sym (ap is_looked at.0) ∙ looked_so))
next-left-unlooked v (shuts at some off) i within attached looked_so = λ zero_i.
    false≢true (sym off ∙ ap (λ j. (traced_at v j).attached) (sym zero_i) ∙ attached)
next-left-unlooked v (none_left at none) i within attached looked_so = absurd (omega (arith, within, none))

-- ---- its handles

module _ (k : ℕ) (t : TrussState) (s : TracedState) (files : HasFiles k (ordinary t) s) where
  pub many : (q : ℕ) → q < length t.traced → q < length (ordinary t).traced
  many q within = subst (λ m. q < m) (sym (length-map t.traced unmarked)) within

  pub its-control : (q : ℕ) → q < length t.traced → HasControl k (traced_at t q).pid (traced_at t q).control s
  its-control q within =
      let f = files.control q (many q within) in
      subst (λ (u : Traced). HasControl k u.pid u.control s) (at-ordinary t q) f.is

  pub its-apart : (i j : ℕ) → i < length t.traced → j < length t.traced → i ≢ j
      → (traced_at t i).pid ≢ (traced_at t j).pid
  its-apart i j one two other same =
      other (same_Some i j
      (sym (files.one i (many i one)) ∙ ap (place_of (ordinary t))
      (ap (λ (u : Traced). u.pid) (at-ordinary t i) ∙ same ∙ sym (ap (λ (u : Traced). u.pid) (at-ordinary t j)))
      ∙ files.one j (many j two)))

  -- the file that is closed next is of its process; and where others are left, it was opened for reading
  pub record IsLastFile (q : ℕ) : Type 0 where
    pub held : Held
    pub there : handle_of s.opens k (last_handle (traced_at t q)) ≡ Some held
    pub of : held.pid ≡ (traced_at t q).pid
    pub reads : (u : Traced) → without_last (traced_at t q) ≡ Some u → is_writable held.mode ≡ false

  abbrev LastOf : Traced → Type 0
  LastOf v =
      (g : Held) × ((handle_of s.opens k (last_handle v) ≡ Some g) × ((g.pid ≡ v.pid)
      × ((u : Traced) → without_last v ≡ Some u → is_writable g.mode ≡ false)))

  last-fields : (pid control : ℕ) (status lstatus memory : Option ℕ) (attached : Bool) (old : ℕ) (seen : Bool)
      (marks : Marks)
      → (let v : Traced = record {
        pid = pid;
        control = control;
        status = status;
        lstatus = lstatus;
        memory = memory;
        attached = attached;
        old = old;
        seen = seen;
        marks = marks;
      } in FilesAre (FileOf k s) (unmarked v) → LastOf v)
  unfolding last_handle without_last
  last-fields pid control status lstatus (Some m) attached old seen marks f =
      let file = f.memory m refl in (_, (file.is, (refl, λ u is. refl)))
  last-fields pid control status (Some m) None attached old seen marks f =
      let file = f.lstatus m refl in (_, (file.is, (refl, λ u is. refl)))
  last-fields pid control (Some m) None None attached old seen marks f =
      let file = f.status m refl in (_, (file.is, (refl, λ u is. refl)))
  last-fields pid control None None None attached old seen marks f =
      let file = f.control in (_, (file.is, (refl, λ u is. absurd (none-some u is))))

  pub last-file : (q : ℕ) → q < length t.traced → IsLastFile q
  last-file q within =
      let u : Traced = traced_at t q in
      let w =
      last-fields u.pid u.control u.status u.lstatus u.memory u.attached u.old u.seen u.marks
      (subst (λ (v : Traced). FilesAre (FileOf k s) v) (at-ordinary t q)
      (has-each k (ordinary t) s files q (many q within))) in
      record { held = w.0; there = w.1.0; of = w.1.1.0; reads = w.1.1.1 }

-- ---- an entry of others

-- what they leave of a process that truss has open
pub record Lasts (p q : TracedProcess) : Type 0 where
  pub sets : IsAsSet p q
  pub stood : has_flags p.control.modes async_mode ≡ false → (n : ℕ) → Stood 0 n p → Stood 0 n q
  pub halting : IsHalting p → IsHalting q
  pub frozen : IsFrozen p → IsFrozen q
  pub event : (event : LwpEvent) → On event p → On event q

module _ (n k : ℕ) (o : Options) (t : TrussState) (s : TracedState) (lawful : IsLawful s) where
  alone-lasts : (p q : TracedProcess) → IsUndisturbed p q → Lasts p q
  alone-lasts p q w = record {
    sets = alone-sets p q w;
    stood = λ directs n. alone-stood p q w 0 n;
    halting = alone-halting p q w;
    frozen = alone-frozen p q w;
    event = λ event on. on-stays event p q w on;
  }

  abbrev LastsIn : ℕ → TracedSystem → TracedProcess → Type 0
  LastsIn pid u q = (p : TracedProcess) × ((live_process s.system pid ≡ Some p) × Lasts p q)

  turn-lasts : (pid own : ℕ) (turn : LwpTurn) (p q : TracedProcess) → live_process s.system pid ≡ Some p
      → turn_of s.system pid own ≡ Some turn → live_process turn.system pid ≡ Some q → IsAsSet p q → Lasts p q
  turn-lasts pid own turn p q live took later sets = record {
    sets = sets;
    stood = λ directs n. turn-stood s.system pid p own turn lawful.system live took q later directs 0 n;
    halting = turn-halting s.system pid p own turn lawful.system live took q later;
    frozen = λ frozen. absurd (none-some turn (sym (frozen-turns s.system pid p live frozen own) ∙ took));
    event = λ event on. on-turns event s.system pid own turn p q live took later on;
  }

  pub foreign-lasts : (actor : Actor) (it : Act)
      (legal : IsLegalEntry n s (record { actor = actor; act = it }))
      (foreign : IsForeign k s (record { actor = actor; act = it })) (pid control : ℕ) → HasControl k pid control s
      → (q : TracedProcess) → live_process (after s (record { actor = actor; act = it })).system pid ≡ Some q
      → LastsIn pid (after s (record { actor = actor; act = it })).system q
  unfolding IsLegalEntry
  foreign-lasts (Controller j) (act.Call c r) legal foreign pid control its q later =
      let e : Entry = record { actor = Controller j; act = act.Call c r } in
      let w = elsewhere-alone n k s lawful e legal foreign pid control its o t (λ own same. cc) q later in
      (w.0, (w.1.0, alone-lasts w.0 q w.1.1))
  foreign-lasts (Lwp acting own) (act.Turn turned) legal foreign pid control its q later =
      let turn : LwpTurn = record { system = legal.0; turned = turned } in
      let e : Entry = record { actor = Lwp acting own; act = act.Turn turned } in
      elim (cases_eq acting pid) [
        | inl same ↦
            let sets = foreign-sets n k s lawful (Lwp acting own) (act.Turn turned) legal foreign pid control its in
            let was = sets.each q later in
            let took : turn_of s.system pid own ≡ Some turn =
            subst (λ i. turn_of s.system i own ≡ Some turn) same legal.1 in
            let now : live_process turn.system pid ≡ Some q =
            ap (λ (x : TracedSystem). live_process x pid) (sym (turn-later s acting own turned turn legal.1))
            ∙ later in
            (was.0, (was.1.0, turn-lasts pid own turn was.0 q was.1.0 took now was.1.1))
        | inr differs ↦
            let w = elsewhere-alone n k s lawful e legal foreign pid control its o t (λ i same. differs (cc)) q later in
            (w.0, (w.1.0, alone-lasts w.0 q w.1.1))
      ]
  foreign-lasts Clock (act.Tick m) legal foreign pid control its q later =
      let e : Entry = record { actor = Clock; act = act.Tick m } in
      let w = elsewhere-alone n k s lawful e legal foreign pid control its o t (λ own same. cc) q later in
      (w.0, (w.1.0, alone-lasts w.0 q w.1.1))
  foreign-lasts _ _ legal foreign pid control its q later = absurd legal

first-lasts : (stage : Stage) (aside : Aside) (p q : TracedProcess) → Lasts p q → StoodFirst stage aside p
    → StoodFirst stage aside q
first-lasts stage aside p q w = by stage aside
  where
    lwps : (aside : Aside) → StoodFirst ReadingLwps aside p → StoodFirst ReadingLwps aside q
    lwps (AwaitingStop until) h = (h.0, w.halting h.1)
    lwps Asking h = w.halting h
    lwps (AwaitingAgain until) h = (h.0, w.halting h.1)
    lwps _ h = w.frozen h

    by : (stage : Stage) (aside : Aside) → StoodFirst stage aside p → StoodFirst stage aside q
    by Unfollowing aside h = tt
    by ReadingLwps aside h = lwps aside h
    by _ aside h = w.frozen h

module _ (Reached : Type 0) (n k : ℕ) (o : Options) (t : TrussState) (s : TracedState)
    (g : IsLeaving Reached k o t s) (files : HasFiles k (ordinary t) s) (e : Entry) (legal : IsLegalEntry n s e)
    (bytes : Reached → IsEntryOfBytes e) where
  pub now-lawful : IsLawful (after s e)
  now-lawful = history-state n s (e ∷ []) g.lawful (legal, tt)

  pub now-reached : Reached → IsReached (after s e)
  now-reached r =
      later-reached n s (e ∷ []) (g.reached r) (All-cons IsEntryOfBytes e [] (bytes r) (All-nil IsEntryOfBytes))
      (legal, tt)

  pub foreign-leaving : IsForeign k s e → IsLeaving Reached k o t (after s e)
  foreign-leaving foreign = record {
    lawful = now-lawful;
    reached = now-reached;
    options = g.options;
    on = g.on;
    at = g.at;
    sets = λ q within attached p' later.
        let w = was q within p' later in
        let lasts = w.1.1 in
        set-by-same o w.0 p' lasts.sets None (g.sets q within attached w.0 w.1.0);
    stood = λ r q within attached unlooked p' later.
        let w = was q within p' later in
        let lasts = w.1.1 in
        let set : IsSetBy o None w.0 = g.sets q within attached w.0 w.1.0 in
        let traces : TracesAll o w.0.control = set.0 in
        let all = traces.stops in
        lasts.stood all.directs (traced_at t q).old (g.stood r q within attached unlooked w.0 w.1.0);
    first = λ some attached p' later.
        let w = was 0 some p' later in
        first-lasts t.stage t.aside w.0 p' w.1.1 (g.first some attached w.0 w.1.0);
  }
    where
      was : (q : ℕ) → q < length t.traced → (p' : TracedProcess)
          → live_process (after s e).system (traced_at t q).pid ≡ Some p'
          → LastsIn n k o t s g.lawful (traced_at t q).pid (after s e).system p'
      was q within =
          foreign-lasts n k o t s g.lawful e.actor e.act legal foreign (traced_at t q).pid (traced_at t q).control
          (its-control k t s files q within)
