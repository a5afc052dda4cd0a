use Rattle.std.proofs.Common.{◌≡◌, ◌≢◌, ◌≤◌, ◌<◌, ◌⊎◌, ◌&&◌, ◌++◌, ◌+◌, ◌*◌, ◌-◌, ℕ, zero, suc, Bool, true, false, cond, Option, Some, None, List, [], ◌∷◌, length, refl, sym, subst, ap, ◌∙◌, arith, inl, inr}
use Rattle.std.proofs.lemmas.Bool.{eq-eqb, false≢true}
use Rattle.std.proofs.lemmas.Option.{none-some, same_Some}
use Rattle.std.specs.List.{All, count_by, slice_get, slice_set}
use Rattle.pr_file_laws.proofs.PlaceLemmas.{slice_get-set_other}
use Rattle.pr_lawful.proofs.ProcessParts.HandleLemmas.{count-swap, handle-at}
use Rattle.pr_line.specs.declared.options.Options.{Options}
use Rattle.pr_model.specs.Handles.{handle_of}
use Rattle.pr_model.specs.Legal.{state_after}
use Rattle.pr_model.specs.Replies.{handle_in}
use Rattle.pr_model.specs.State.{Places, TracedState}
use Rattle.pr_model.specs.declared.calls.Call.TheVariants as call
use Rattle.pr_model.specs.declared.calls.File.TheVariants.{Ctl}
use Rattle.pr_model.specs.declared.calls.Mode.TheVariants.{WriteExcl}
use Rattle.pr_model.specs.declared.calls.Reply.{Reply}
use Rattle.pr_model.specs.declared.events.Entry.{Entry}
use Rattle.pr_model.specs.declared.handles.Held.{Held}
use Rattle.pr_num.specs.declared.errnos.Errno.TheVariants.{Noent}
use Rattle.pr_rec.specs.declared.lwps.LwpStatus.{LwpStatus}
use Rattle.pr_truss.specs.Closings.{after_closing, closed_or_removed, left_or_finished, polls_or_finished, with_closed, with_going_on, with_interrupt, with_next_left, with_next_opening}
use Rattle.pr_truss.specs.Feeding.{fed, with_reply}
use Rattle.pr_truss.specs.NextCalls.{next_call_of}
use Rattle.pr_truss.specs.Openings.{at_step, learnt, pid_in, step_after, with_control, with_control_answered, with_refused_control, with_refused_start, with_refused_step, with_start_answered, with_step_answered, with_step_done, with_stop_seen}
use Rattle.pr_truss.specs.Processes.{newly_traced, without_last}
use Rattle.pr_truss.specs.Replies.{answer_of}
use Rattle.pr_truss.specs.Trusses.{TrussState, first_of_program, first_truss, idle, opening_or, traced_at, with_report, with_stage, with_traced, without_traced}
use Rattle.pr_truss.specs.declared.processes.Traced.{Traced}
use Rattle.pr_truss.specs.declared.replies.Answer.{Answer}
use Rattle.pr_truss.specs.declared.replies.Answer.TheVariants.{Accepted, Interrupted, Gone, Refused}
use Rattle.pr_truss.specs.declared.reports.Report.TheVariants.{CannotStart, CannotTrace}
use Rattle.pr_truss.specs.declared.stages.AfterClosing.{AfterClosing}
use Rattle.pr_truss.specs.declared.stages.AfterClosing.TheVariants.{GoOn, OpenNext, RunParent}
use Rattle.pr_truss.specs.declared.stages.OpeningStep.{OpeningStep}
use Rattle.pr_truss.specs.declared.stages.OpeningStep.TheVariants.{OpenStatus}
use Rattle.pr_truss.specs.declared.stages.Stage.{Stage}
use Rattle.pr_truss.specs.declared.stages.Stage.TheVariants.{Spawning, OpeningControl, Opening, Polling, ReadingStatus, ReadingText, OpeningChildControl, OpeningChild, Running, Closing, Unfollowing, ReadingLwps, FreeingChild, Finished}
use Rattle.pr_truss_laws.proofs.Replies.FedSteps.{fed-step}
use Rattle.pr_truss_laws.proofs.Files.HeldLemmas.{at_place, unit}
use Rattle.pr_truss_laws.proofs.Replies.ReplySteps as step
use Rattle.pr_truss_laws.proofs.Replies.ReplySteps.{Closes, GoesOn, Learns, Looks, Opens, Reads, ReplyStep, Returns, Settles, StopOver, Turns}
use Rattle.pr_truss_laws.proofs.Soon.SoonLemmas.{polls-soon}
use Rattle.pr_truss_laws.specs.Exchanges.{Exchange, Makes, exchanges, truss_after, truss_at}
use Rattle.pr_truss_laws.specs.Runs.{IsTrussRun}
use Rattle.pr_truss_laws.specs.Soon.{IsNoPoll}
use Rattle.pr_report_laws.proofs.Files.FileLaws.{HasFiles}
use Rattle.pr_report_laws.proofs.Files.WatchHistories.{after-append, exchanges-both, makes-rest, run-reaches}
use Rattle.pr_report_laws.proofs.Watching.BeginLaws.{at-options}
use Rattle.pr_report_laws.proofs.Watching.HistoryParts.{front-run}
use Rattle.pr_report_laws.proofs.Watching.NamedSoon.{poll-stage}
use Rattle.pr_report_laws.specs.SoonOpen.{HasPolled, PollsByItsFiles, controls_open, is_control_of}
use Rattle.pr_report_laws.specs.Watching.{place_of}

-- How soon truss polls, by the control files that it has open.

-- ---- each process that it traces has a control file

-- the control file of a process is open at a place of its own
record IsOpenAt (k : ℕ) (opens : Places) (number : ℕ) : Type 0 where
  held : Held
  there : slice_get opens number ≡ Some (Some held)
  mine : is_control_of k (Some held) ≡ true

abbrev AreOpen : ℕ → Places → List Traced → Type 0
AreOpen k opens ts = (place : ℕ) → place < length ts → IsOpenAt k opens (at_place ts place).control

abbrev AreApart : List Traced → Type 0
AreApart ts = (i j : ℕ) → i < length ts → j < length ts → (at_place ts i).control ≡ (at_place ts j).control → i ≡ j

traced-most : (k : ℕ) (ts : List Traced) (opens : Places) → AreOpen k opens ts → AreApart ts
    → length ts ≤ count_by (is_control_of k) opens
traced-most k [] opens all apart = omega arith
traced-most k (t ∷ ts) opens all apart =
    let q = is_control_of k in
    let first = all 0 (omega arith) in
    let left : Places = slice_set opens t.control None in
    let swapped : count_by q left + unit (q (Some first.held)) ≡ count_by q opens + 0 =
    count-swap q opens t.control (Some first.held) None first.there in
    let rest : length ts ≤ count_by q left =
    traced-most k ts left
    (λ place within.
    let it = all (suc place) (omega (arith, within)) in
    let other : (at_place ts place).control ≢ t.control =
    λ same. absurd (omega (arith, apart (suc place) 0 (omega (arith, within)) (omega arith) same)) in
    record {
      held = it.held;
      there = slice_get-set_other opens t.control (at_place ts place).control None other ∙ it.there;
      mine = it.mine;
    })
    (λ i j here there same. suc-same (apart (suc i) (suc j) (omega (arith, here)) (omega (arith, there)) same)) in
    let one : unit (q (Some first.held)) ≡ 1 = ap unit first.mine in
    omega (arith, rest, swapped, one)
  where
    suc-same : {i j : ℕ} → suc i ≡ suc j → i ≡ j
    suc-same is = omega (arith, is)

module _ (k : ℕ) (t : TrussState) (s : TracedState) (f : HasFiles k t s) where
  open-at : AreOpen k s.opens t.traced
  open-at place within =
      let its = f.control place within in
      let held : Held =
      record { controller = k; pid = (traced_at t place).pid; lwp = 0; file = Ctl; mode = WriteExcl } in
      record {
        held = held;
        there = handle-at s.opens k (traced_at t place).control held its.is;
        mine = ap (λ b. b && true) (eq-eqb k k refl);
      }

  same-place : AreApart t.traced
  same-place i j here there same =
      let mine = f.control i here in
      let other = f.control j there in
      let one = sym mine.is ∙ ap (handle_of s.opens k) same ∙ other.is in
      let pids : (traced_at t i).pid ≡ (traced_at t j).pid = ap (λ (h : Held). h.pid) (same_Some _ _ one) in
      same_Some i j (sym (f.one i here) ∙ ap (place_of t) pids ∙ f.one j there)

  pub controls-most : length t.traced ≤ controls_open k s
  controls-most = traced-most k t.traced s.opens open-at same-place

-- ---- all processes that the words name were begun, where truss polls

abbrev Done : TrussState → Type 0
Done s = length s.options.pids ≤ s.begun

abbrev ReadyAt : TrussState → Stage → Type 0
ReadyAt s (Spawning program) = s.traced ≡ []
ReadyAt s Polling = Done s
ReadyAt s (ReadingStatus place) = Done s
ReadyAt s (ReadingText place l from len) = (s.leaving ≡ true) ⊎ Done s
ReadyAt s (OpeningChildControl parent pid) = Done s
ReadyAt s (OpeningChild parent place now) = Done s
ReadyAt s (Running place) = Done s
ReadyAt s (Closing place GoOn) = (s.leaving ≡ true) ⊎ Done s
ReadyAt s (Closing place (RunParent parent)) = Done s
ReadyAt s Unfollowing = s.leaving ≡ true
ReadyAt s ReadingLwps = s.leaving ≡ true
ReadyAt s (FreeingChild pid now) = s.leaving ≡ true
ReadyAt s _ = Unit {0}

abbrev Ready : TrussState → Type 0
Ready s = ReadyAt s s.stage

-- where truss comes to a poll, all of them were
abbrev DoneIfPolls : TrussState → Type 0
DoneIfPolls v = v.stage ≡ Polling → Done v

past : {X : Type 0} (xs : List X) (i : ℕ) → slice_get xs i ≡ None → length xs ≤ i
past [] i none = omega arith
past (x ∷ xs) zero none = absurd (none-some x (sym none))
past (x ∷ xs) (suc i) none = omega (arith, past xs i none)

going_on-begun : (u : TrussState) → ((with_going_on u).begun ≡ u.begun) × ((with_going_on u).options ≡ u.options)
unfolding with_going_on with_next_left
going_on-begun u = by u.leaving (slice_get u.traced 0)
  where
    by : (b : Bool) (first : Option Traced)
        → ((cond b (left_or_finished u first) (polls_or_finished u first)).begun ≡ u.begun)
        × ((cond b (left_or_finished u first) (polls_or_finished u first)).options ≡ u.options)
    by true None = (refl, refl)
    by true (Some t) = (refl, refl)
    by false None = (refl, refl)
    by false (Some t) = (refl, refl)

next_opening-done : (u : TrussState) → DoneIfPolls (with_next_opening u)
unfolding with_next_opening
next_opening-done u = by (slice_get u.options.pids u.begun) refl
  where
    by : (p : Option ℕ) → slice_get u.options.pids u.begun ≡ p → DoneIfPolls (opening_or u (with_going_on u) p)
    by None none polls =
        let same = going_on-begun u in
        omega (arith, past u.options.pids u.begun none, same.0, ap (λ (o : Options). length o.pids) same.1)
    by (Some pid) is polls = absurd (let e : OpeningControl pid ≡ Polling = polls in cc)

interrupt-done : (u : TrussState) → DoneIfPolls (with_interrupt u)
unfolding with_interrupt with_next_left
interrupt-done u = by (slice_get u.traced 0)
  where
    left : (t : Traced) (b : Bool) → cond b Unfollowing (Closing 0 GoOn) ≡ Polling → ⊥
    left t true e = cc
    left t false e = cc

    by : (first : Option Traced) → DoneIfPolls (left_or_finished (record u { leaving = true }) first)
    by None polls = absurd (let e : Finished ≡ Polling = polls in cc)
    by (Some t) polls = absurd (left t t.attached polls)

none-polls : (u : TrussState) → u.traced ≡ [] → DoneIfPolls (with_going_on u)
unfolding with_going_on with_next_left
none-polls u none polls = absurd (by u.leaving (slice_get u.traced 0) (ap (λ ts. slice_get ts 0) none) polls)
  where
    by : (b : Bool) (first : Option Traced) → first ≡ None
        → (cond b (left_or_finished u first) (polls_or_finished u first)).stage ≡ Polling → ⊥
    by true None is e = cc
    by false None is e = cc
    by b (Some t) is e = none-some t (sym is)

-- the replies after which truss has opened one of these processes, or was refused it
module _ (s : TrussState) (r : Reply) where
  control-done : (pid : ℕ) (a : Answer) → DoneIfPolls (with_control_answered s pid r a)
  unfolding with_control_answered with_control with_refused_control
  control-done pid Accepted polls = absurd (let e : Opening (length s.traced) OpenStatus ≡ Polling = polls in cc)
  control-done pid Interrupted polls = interrupt-done s polls
  control-done pid Gone polls = next_opening-done (with_report s (CannotTrace pid Noent)) polls
  control-done pid (Refused errno) polls = next_opening-done (with_report s (CannotTrace pid errno)) polls

  step-done : (place : ℕ) (now : OpeningStep) (a : Answer) → DoneIfPolls (with_step_answered s place now r a)
  unfolding with_step_answered with_step_done with_refused_step with_stop_seen
  step-done place now Accepted polls = by (step_after s.options r now) polls
    where
      by : (next : Option OpeningStep)
          → DoneIfPolls (at_step (with_traced s place (learnt (traced_at s place) r now)) place next)
      by None comes = next_opening-done (with_traced s place (learnt (traced_at s place) r now)) comes
      by (Some to) comes = absurd (let e : Opening place to ≡ Polling = comes in cc)
  step-done place now Interrupted polls =
      interrupt-done (with_traced s place (record (traced_at s place) { seen = true })) polls
  step-done place now Gone polls = absurd (let e : Closing place OpenNext ≡ Polling = polls in cc)
  step-done place now (Refused errno) polls = absurd (let e : Closing place OpenNext ≡ Polling = polls in cc)

  closed-done : (place : ℕ) → s.stage ≡ Closing place OpenNext → DoneIfPolls (with_closed s place OpenNext)
  unfolding with_closed after_closing
  closed-done place at = by (without_last (traced_at s place))
    where
      by : (left : Option Traced) → DoneIfPolls (closed_or_removed s place OpenNext left)
      by None polls = next_opening-done (without_traced s place) polls
      by (Some t) polls = absurd (let e : Closing place OpenNext ≡ Polling = sym at ∙ polls in cc)

  -- no process is traced where truss makes its process
  start-done : (program : List ℕ) (a : Answer) → s.traced ≡ [] → DoneIfPolls (with_start_answered s program r a)
  unfolding with_start_answered with_refused_start with_going_on with_next_left
  start-done program Accepted none polls = absurd (let e : OpeningControl (pid_in r) ≡ Polling = polls in cc)
  start-done program Interrupted none polls = interrupt-done s polls
  start-done program Gone none polls = none-polls (with_report s (CannotStart program Noent)) none polls
  start-done program (Refused errno) none polls = none-polls (with_report s (CannotStart program errno)) none polls

-- ---- one exchange more

module _ (s : TrussState) (r : Reply) where
  fed-at : (stage : Stage) → s.stage ≡ stage → fed s r ≡ with_reply s r stage
  unfolding fed
  fed-at stage at = ap (with_reply s r) at

  done-so : (v w : TrussState) → fed s r ≡ v → fed s r ≡ w → DoneIfPolls w → DoneIfPolls v
  done-so v w is so done = subst DoneIfPolls (sym so ∙ is) done

  settles-done : (stage : Stage) (given : Bool) (u v : TrussState) → s.stage ≡ stage → ReadyAt s stage → fed s r ≡ v
      → Settles s r stage given u → u.leaving ≡ false → Done u ⊎ DoneIfPolls v
  unfolding with_reply
  settles-done stage given u v at w is (step.interrupts_start _) off = absurd (false≢true (sym off))
  settles-done stage given u v at w is (step.interrupts_control _) off = absurd (false≢true (sym off))
  settles-done stage given u v at w is (step.interrupts_poll _) off = absurd (false≢true (sym off))
  settles-done stage given u v at w is (step.interrupts_status _) off = absurd (false≢true (sym off))
  settles-done stage given u v at w is (step.interrupts_opening _) off = absurd (false≢true (sym off))
  settles-done stage given u v at w is (step.interrupts_text _ _) off = absurd (false≢true (sym off))
  settles-done stage given u v at w is (step.interrupts_child_control _) off = absurd (false≢true (sym off))
  settles-done stage given u v at w is (step.interrupts_child _) off = absurd (false≢true (sym off))
  settles-done stage given u v at w is (step.interrupts_run _) off = absurd (false≢true (sym off))
  settles-done stage given u v at w is (step.refuses_start {program = program} _ _) off =
      inr (done-so v _ is (fed-at (Spawning program) at) (start-done s r program (answer_of r) w))
  settles-done stage given u v at w is (step.refuses_control {pid = pid} _ _) off =
      inr (done-so v _ is (fed-at (OpeningControl pid) at) (control-done s r pid (answer_of r)))
  settles-done stage given u v at w is (step.ends_opening {place = place} {now = now} _ _) off =
      inr (done-so v _ is (fed-at (Opening place now) at) (step-done s r place now (answer_of r)))
  settles-done stage given u v at w is step.ran off = inl w
  settles-done stage given u v at w is (step.closed_next {place = place} _) off =
      inr (done-so v _ is (fed-at (Closing place OpenNext) at) (closed-done s r place at))
  settles-done stage given u v at w is (step.closed _) off = elim w [
    | inl on ↦ absurd (false≢true (sym off ∙ on))
    | inr done ↦ inl done
  ]

  on-ready : (u v : TrussState) (given : Bool) → (u.leaving ≡ false → Done u ⊎ DoneIfPolls v) → GoesOn u given v
      → Ready v
  on-ready u v given done (step.polls off _) = elim (done off) [
    | inl known ↦ known
    | inr polls ↦ polls refl
  ]
  on-ready u v given done (step.finishes _) = tt
  on-ready u v given done (step.unfollows on _ _) = on
  on-ready u v given done (step.closes_first on _ _) = inl on
  on-ready u v given done (step.opens_next _) = tt

  -- a stop that is over
  reads-done : (stage : Stage) (place : ℕ) (l : Option LwpStatus) → ReadyAt s stage → Reads s r stage place l
      → (s.leaving ≡ true) ⊎ Done s
  reads-done stage place l w (step.reads_status _) = inr w
  reads-done stage place l w (step.reads_none _) = inr w
  reads-done stage place l w (step.reads_lwps _) = inl w

  looks-done : (stage : Stage) (place : ℕ) (pid : Option ℕ) (u : TrussState) → ReadyAt s stage
      → Looks s r stage place pid u → (u.leaving ≡ true) ⊎ Done u
  looks-done stage place pid u w (step.passes p) = reads-done stage place _ w p.reads
  looks-done stage place pid u w (step.passes_old reads _ _) = reads-done stage place _ w reads
  looks-done stage place pid u w (step.passes_event reads _ _) = reads-done stage place _ w reads
  looks-done stage place pid u w (step.shows reads _ _ _) = reads-done stage place _ w reads
  looks-done stage place pid u w step.shows_text = w

  stays-done : (u : TrussState) → u.leaving ≡ false → (u.leaving ≡ true) ⊎ Done u → Done u
  stays-done u off (inl on) = absurd (false≢true (sym off ∙ on))
  stays-done u off (inr done) = done

  over-ready : (u v : TrussState) (place : ℕ) (pid : Option ℕ) → (u.leaving ≡ true) ⊎ Done u → StopOver u place pid v
      → Ready v
  over-ready u v place pid w (step.runs off) = stays-done u off w
  over-ready u v place pid w (step.leaves on) = inl on
  over-ready u v place pid w (step.opens_child off) = stays-done u off w
  over-ready u v place pid w (step.frees_child on) = on

  closes-ready : (stage : Stage) (place : ℕ) (next : AfterClosing) (u : TrussState) → ReadyAt s stage
      → Closes s r stage place next u → ReadyAt u (Closing place next)
  closes-ready stage place next u w (step.status_ended _) = inr w
  closes-ready stage place next u w (step.text_ended _) = w
  closes-ready stage place next u w (step.run_ended _) = inr w
  closes-ready stage place next u w (step.left_ended _) = inl w
  closes-ready stage place next u w (step.looked_last _) = inl w
  closes-ready stage place next u w step.freed_last = inl w
  closes-ready stage place next u w (step.freed_none _) = inl w
  closes-ready stage place next u w (step.refuses_free _ _) = inl w
  closes-ready stage place next u w (step.refuses_opening _ _) = tt
  closes-ready stage place next u w (step.refuses_child _ _) = w
  closes-ready stage place next u w (step.child_ended _) = w

  -- the same stage in a state that differs in its processes alone
  loses-ready : (place : ℕ) (next : AfterClosing) (ts : List Traced) → ReadyAt s (Closing place next)
      → ReadyAt (record s { traced = ts; stage = Closing place next }) (Closing place next)
  loses-ready place OpenNext ts w = tt
  loses-ready place GoOn ts w = w
  loses-ready place (RunParent parent) ts w = w

  opens-ready : (stage next : Stage) (pid : ℕ) (ts : List Traced) → ReadyAt s stage
      → Opens (length s.traced) stage pid next → ReadyAt (record s { traced = ts; stage = next }) next
  opens-ready stage next pid ts w step.new_given = tt
  opens-ready stage next pid ts w step.new_child = w

  learns-ready : (stage next : Stage) (place : ℕ) (t : Traced) (ts : List Traced) → ReadyAt s stage
      → Learns s r stage place t next → ReadyAt (record s { traced = ts; stage = next }) next
  learns-ready stage next place t ts w (step.opening_goes _) = tt
  learns-ready stage next place t ts w (step.child_goes _) = w

  returns-ready : (stage : Stage) (parent : ℕ) (u : TrussState) → ReadyAt s stage → Returns s r stage parent u → Done u
  returns-ready stage parent u w (step.refuses_child_control _ _) = w
  returns-ready stage parent u w (step.child_runs _) = w
  returns-ready stage parent u w (step.child_closed _) = w

  turns-ready : (stage next : Stage) → ReadyAt s stage → Turns s r stage next → ReadyAt (with_stage s next) next
  turns-ready stage next w (step.starts _) = tt
  turns-ready stage next w step.polls_again = w
  turns-ready stage next w (step.is_named _) = w
  turns-ready stage next w step.unfollowed = w
  turns-ready stage next w (step.frees _) = w
  turns-ready stage next w step.frees_on = w
  turns-ready stage next w step.has_finished = tt

  asks-ready : (stage : Stage) (place : ℕ) (l : LwpStatus) (from len : ℕ) (other : Option LwpStatus)
      → ReadyAt s stage → Reads s r stage place other
      → ReadyAt (with_stage s (ReadingText place l from len)) (ReadingText place l from len)
  asks-ready stage place l from len other w reads = reads-done stage place other w reads

  step-ready : (stage : Stage) (v : TrussState) → s.stage ≡ stage → ReadyAt s stage → fed s r ≡ v
      → ReplyStep s r stage v → Ready v
  step-ready stage v at w is (step.settles {given = given} {u = u} settles on) =
      on-ready u v given (λ off. settles-done stage given u v at w is settles off) on
  step-ready stage v at w is (step.looks {place = place} {pid = pid} {u = u} looks over) =
      over-ready u v place pid (looks-done stage place pid u w looks) over
  step-ready stage v at w is (step.asks {place = place} {l = l} {range = range} reads _ _ _) =
      asks-ready stage place l range.0 range.1 _ w reads
  step-ready stage v at w is (step.closes {place = place} {next = next} {u = u} closes) =
      closes-ready stage place next u w closes
  step-ready stage v at w is (step.loses {place = place} {next = next} {t = t} _) =
      loses-ready place next (slice_set s.traced place t) w
  step-ready stage v at w is (step.opens {next = next} {pid = pid} _ opens) =
      opens-ready stage next pid (s.traced ++ newly_traced pid (handle_in r) ∷ []) w opens
  step-ready stage v at w is (step.learns {next = next} {place = place} {t = t} _ learns) =
      learns-ready stage next place t (slice_set s.traced place t) w learns
  step-ready stage v at w is (step.returns {parent = parent} {u = u} returns) = returns-ready stage parent u w returns
  step-ready stage v at w is (step.turns {next = next} turns) = turns-ready stage next w turns

  fed-ready : Ready s → Ready (fed s r)
  fed-ready w = step-ready s.stage (fed s r) refl w refl (fed-step s r)

  -- what was begun stays so
  on-begun : (u v : TrussState) (given : Bool) → u.begun ≡ s.begun → GoesOn u given v → s.begun ≤ v.begun
  on-begun u v given same (step.opens_next _) = omega (arith, same)
  on-begun u v given same (step.polls _ _) = omega (arith, same)
  on-begun u v given same (step.finishes _) = omega (arith, same)
  on-begun u v given same (step.unfollows _ _ _) = omega (arith, same)
  on-begun u v given same (step.closes_first _ _ _) = omega (arith, same)

  over-begun : (u v : TrussState) (place : ℕ) (pid : Option ℕ) → u.begun ≡ s.begun → StopOver u place pid v
      → s.begun ≤ v.begun
  over-begun u v place pid same (step.runs _) = omega (arith, same)
  over-begun u v place pid same (step.leaves _) = omega (arith, same)
  over-begun u v place pid same (step.opens_child _) = omega (arith, same)
  over-begun u v place pid same (step.frees_child _) = omega (arith, same)

  settles-begun : (stage : Stage) (given : Bool) (u : TrussState) → Settles s r stage given u → u.begun ≡ s.begun
  settles-begun stage given u (step.ran) = refl
  settles-begun stage given u _ = refl

  looks-begun : (stage : Stage) (place : ℕ) (pid : Option ℕ) (u : TrussState) → Looks s r stage place pid u
      → u.begun ≡ s.begun
  looks-begun stage place pid u (step.passes _) = refl
  looks-begun stage place pid u _ = refl

  closes-begun : (stage : Stage) (place : ℕ) (next : AfterClosing) (u : TrussState) → Closes s r stage place next u
      → u.begun ≡ s.begun
  closes-begun stage place next u (step.status_ended _) = refl
  closes-begun stage place next u _ = refl

  returns-begun : (stage : Stage) (parent : ℕ) (u : TrussState) → Returns s r stage parent u → u.begun ≡ s.begun
  returns-begun stage parent u (step.child_runs _) = refl
  returns-begun stage parent u _ = refl

  step-begun : (stage : Stage) (v : TrussState) → ReplyStep s r stage v → s.begun ≤ v.begun
  step-begun stage v (step.settles {given = given} {u = u} w on) = on-begun u v given (settles-begun stage given u w) on
  step-begun stage v (step.looks {place = place} {pid = pid} {u = u} w over) =
      over-begun u v place pid (looks-begun stage place pid u w) over
  step-begun stage v (step.closes {place = place} {next = next} {u = u} w) =
      omega (arith, closes-begun stage place next u w)
  step-begun stage v (step.returns {parent = parent} {u = u} w) = omega (arith, returns-begun stage parent u w)
  step-begun stage v _ = omega arith

  fed-begun : s.begun ≤ (fed s r).begun
  fed-begun = step-begun s.stage (fed s r) (fed-step s r)

after-begun : (xs : List Exchange) (s : TrussState) → s.begun ≤ (truss_after s xs).begun
after-begun [] s = omega arith
after-begun (x ∷ xs) s = omega (arith, fed-begun s x.reply, after-begun xs (fed s x.reply))

after-ready : (xs : List Exchange) (s : TrussState) → Ready s → Ready (truss_after s xs)
after-ready [] s w = w
after-ready (x ∷ xs) s w = after-ready xs (fed s x.reply) (fed-ready s x.reply w)

named-ready : (o : Options) (p : Option ℕ) → Ready (opening_or (idle o) (idle o) p)
named-ready o None = tt
named-ready o (Some pid) = tt

program-ready : (o : Options) (p : Option (List ℕ)) → Ready (first_of_program o p)
program-ready o None = named-ready o (slice_get o.pids 0)
program-ready o (Some program) = refl

first-ready : (o : Options) → Ready (first_truss o)
unfolding first_truss
first-ready o = program-ready o o.program

-- ---- a poll among the exchanges

module _ (o : Options) (xs : List Exchange) (makes : Makes (first_truss o) xs) (p : HasPolled xs) where
  poll-call : Exchange
  poll-call = record { call = call.Poll p.handles; reply = p.reply }

  polled-stage : (t : TrussState) → next_call_of t ≡ Some (call.Poll p.handles) → t.stage ≡ Polling
  unfolding next_call_of
  polled-stage t is = (poll-stage t p.handles t.stage is).0

  pub polled-done : length (truss_after (first_truss o) xs).options.pids ≤ (truss_after (first_truss o) xs).begun
  unfolding poll-call
  polled-done =
      let t : TrussState = truss_after (first_truss o) p.before in
      let made : Makes (first_truss o) (p.before ++ poll-call ∷ p.after) = subst (Makes (first_truss o)) p.is makes in
      let at : t.stage ≡ Polling =
      polled-stage t (makes-rest (first_truss o) p.before (poll-call ∷ p.after) made).0 in
      let here : Done t = subst (ReadyAt t) at (after-ready p.before (first_truss o) (first-ready o)) in
      let both : truss_after (first_truss o) xs ≡ truss_after t (poll-call ∷ p.after) =
      ap (truss_after (first_truss o)) p.is ∙ after-append (first_truss o) p.before (poll-call ∷ p.after) in
      omega (
        arith,
        here,
        after-begun (poll-call ∷ p.after) t,
        ap (λ (v : TrussState). v.begun) both,
        ap (λ (q : Options). length q.pids) (at-options o xs),
        ap (λ (q : Options). length q.pids) (at-options o p.before),
      )

-- ---- the law

module _ (n k : ℕ) (o : Options) (first : TracedState) (h : List Entry) (run : IsTrussRun n k o first h)
    (before between later : List Entry) (is : h ≡ before ++ (between ++ later))
    (none : All IsNoPoll (exchanges k between)) where
  abbrev t : TrussState
  t = truss_at k o before

  front : IsTrussRun n k o first before
  front = front-run n k o first before (between ++ later) (subst (IsTrussRun n k o first) is run)

  split : exchanges k h ≡ exchanges k before ++ (exchanges k between ++ exchanges k later)
  split =
      ap (exchanges k) is ∙ exchanges-both k before (between ++ later)
      ∙ ap (λ ys. exchanges k before ++ ys) (exchanges-both k between later)

  few : length (exchanges k between)
      ≤ 38 + 12 * length t.traced + 40 * (length t.options.pids - t.begun)
  few =
      let soon = polls-soon o (exchanges k h) run.makes in
      soon.each (exchanges k before) (exchanges k between) (exchanges k later) split none

  most : length t.traced ≤ controls_open k (state_after first before)
  most =
      let g = run-reaches n k o first before front in
      controls-most k t (state_after first before) g.files

  soon-at : length (exchanges k between) ≤ 38 + 12 * controls_open k (state_after first before) + 40 * length o.pids
  soon-at = omega (arith, few, most, ap (λ (q : Options). length q.pids) (at-options o (exchanges k before)))

  polled-at : HasPolled (exchanges k before)
      → length (exchanges k between) ≤ 38 + 12 * controls_open k (state_after first before)
  polled-at p = omega (arith, few, most, polled-done o (exchanges k before) front.makes p)

pub polls-by-files : (n k : ℕ) (o : Options) (first : TracedState) (h : List Entry) → IsTrussRun n k o first h
    → PollsByItsFiles k o first h
polls-by-files n k o first h run = record {
  soon = λ before between later is none. soon-at n k o first h run before between later is none;
  polled = λ before between later is none p. polled-at n k o first h run before between later is none p;
}

pub ruleset soon_by_files = (polls-by-files)
