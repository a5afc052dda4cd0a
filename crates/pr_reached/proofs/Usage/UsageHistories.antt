use Rattle.std.proofs.Common.{◌≡◌, ◌+◌, ◌≤◌, ℕ, Bool, true, false, length, Option, Some, None, List, ◌∷◌, refl, sym, subst, arith, []}
use Rattle.std.specs.List.{slice_get}
use Rattle.std.proofs.lemmas.List.Elements.{All-cons, All-nil, All-weaker}
use Rattle.pr_num.proofs.ByIdLaws.{All-change_under, All-under}
use Rattle.pr_num.specs.Words.{IsWord}
use Rattle.pr_num.specs.Programs.{Program}
use Rattle.pr_keeps.proofs.CallLemmas.{call-edit}
use Rattle.pr_model.specs.Calls.{Answer, answer_to}
use Rattle.pr_model.specs.Machines.{traced}
use Rattle.pr_model.specs.FirstState.{bare_system, first_state, spawned_at, system_process, with_spawns}
use Rattle.pr_model.specs.Lawful.{IsLawfulSystem}
use Rattle.pr_model.specs.Legal.{after, after_call, after_turn, state_after}
use Rattle.pr_model.specs.Lives.{bare_process}
use Rattle.pr_model.specs.LwpTurns.{LwpTurn, calls_in, counted, faults_in, instructions_in, settled, signals_in, turn_of, with_counted}
use Rattle.pr_model.proofs.TurnLemmas.{turn-taken}
use Rattle.pr_model.specs.Machines.{nothing_set}
use Rattle.pr_model.specs.Moves.{moved}
use Rattle.pr_model.specs.Points.{after_meeting}
use Rattle.pr_model.specs.Records.{usage_of}
use Rattle.pr_model.specs.Rows.{Row, row_for}
use Rattle.pr_model.specs.Transitions.{after_transition}
use Rattle.pr_model.specs.declared.events.Act.{Act}
use Rattle.pr_model.specs.declared.events.Act.TheVariants as act
use Rattle.pr_model.specs.declared.events.Actor.{Actor}
use Rattle.pr_model.specs.declared.events.Actor.TheVariants.{Controller, Lwp, Clock}
use Rattle.pr_model.specs.declared.events.Did.{Did}
use Rattle.pr_model.specs.declared.events.Did.TheVariants.{Made, Woke, Took, Faulted}
use Rattle.pr_model.specs.declared.events.Entry.{Entry}
use Rattle.pr_num.specs.declared.files.StoredFile.{StoredFile}
use Rattle.pr_rec.specs.InRange.{IsUsage}
use Rattle.pr_model.specs.State.{TracedLwp, TracedProcess, TracedState, TracedSystem, process_of, with_lwp, with_process}
use Rattle.pr_model.specs.declared.calls.Call.{Call}
use Rattle.pr_reached.proofs.StatesInRange.CallRanges.{process-id}
use Rattle.pr_keeps.proofs.KeptSystems.{AnyLwp, call-keeps, spawned-keeps, transition-keeps}
use Rattle.pr_reached.proofs.Usage.UsageRanges.{UsedWithin, meeting-keeps, nothing-used, used-keep, used-one}
use Rattle.pr_reached.specs.Used.{HaveUsed, IsUsedWithin}

-- After so many entries no process has used more than so many of anything beyond what processes had used before.

-- ---- turns

calls-one : (did : Did) → calls_in did ≤ 1
calls-one (Made call result) = omega arith
calls-one (Woke call result) = omega arith
calls-one _ = omega arith

signals-one : (did : Did) → signals_in did ≤ 1
signals-one (Took s) = omega arith
signals-one _ = omega arith

faults-one : (did : Did) → faults_in did ≤ 1
faults-one (Faulted f) = omega arith
faults-one _ = omega arith

instructions-one : (begun : Bool) → instructions_in begun ≤ 1
instructions-one true = omega arith
instructions-one false = omega arith

module _ (most : ℕ) where
  more : (e : ℕ × TracedProcess) → UsedWithin most e → UsedWithin (most + 1) e
  more e it = record {
    calls = let few = it.calls in omega arith;
    signals = let few = it.signals in omega arith;
    faults = let few = it.faults in omega arith;
    instructions = let few = it.instructions in omega arith;
  }

  pub used-more : (s : TracedSystem) → HaveUsed most s → HaveUsed (most + 1) s
  used-more s h =
      record { processes = All-weaker (UsedWithin most) (UsedWithin (most + 1)) more s.processes h.processes }

  counted-one : (did : Did) (begun : Bool) (x : TracedProcess) → IsUsedWithin most x.control.usage
      → IsUsedWithin (most + 1) (with_counted did begun x).control.usage
  unfolding with_counted counted
  counted-one did begun x it = record {
    calls = let few = it.calls in let one = calls-one did in omega arith;
    signals = let few = it.signals in let one = signals-one did in omega arith;
    faults = let few = it.faults in let one = faults-one did in omega arith;
    instructions = let few = it.instructions in let one = instructions-one begun in omega arith;
  }

  counted-used : (s : TracedSystem) (pid : ℕ) (did : Did) (begun : Bool) → HaveUsed most s
      → HaveUsed (most + 1) (with_process pid (with_counted did begun) s)
  unfolding with_process
  counted-used s pid did begun h = record {
    processes =
        All-change_under (UsedWithin (most + 1)) pid (with_counted did begun) s.processes
        (λ x there it. counted-one did begun x (All-under (UsedWithin most) pid x s.processes h.processes there))
        (used-more s h).processes;
  }

  settled-used : (s : TracedSystem) (pid : ℕ) (p : TracedProcess) (id : ℕ) (l : TracedLwp) (row : Row)
      → HaveUsed most s → HaveUsed (most + 1) (settled s pid p id l row).system
  unfolding settled with_lwp
  settled-used s pid p id l row h =
      let made = after_transition traced pid p id l row.transition s in
      let moves = with_lwp id (moved traced row.transition.move) in
      let done =
      transition-keeps AnyLwp (HaveUsed most) (used-keep most) pid p id l tt row.transition
      (λ t it. used-one most t pid moves (λ x own. own) it) s h in
      used-one (most + 1) (with_process pid (with_counted row.did row.begun) made) pid (after_meeting row.point id)
      (meeting-keeps (most + 1) row.point id) (counted-used made pid row.did row.begun done)

  turn-used : (s : TracedSystem) (pid id : ℕ) (t : LwpTurn) → HaveUsed most s → turn_of s pid id ≡ Some t
      → HaveUsed (most + 1) t.system
  turn-used s pid id t h turn =
      let it = turn-taken s pid id t turn in
      subst (λ (v : LwpTurn). HaveUsed (most + 1) v.system) (sym it.is)
      (settled-used s pid it.process id it.lwp (row_for s pid it.process id it.lwp) h)

  -- ---- calls

  module _ (s : TracedState) (h : HaveUsed most s.system) where
    called-used : (by : ℕ) (c : Call) (o : Option Answer) → answer_to s by c ≡ o → HaveUsed most (after_call s o).system
    called-used by c None is = h
    called-used by c (Some a) is =
        call-keeps AnyLwp (HaveUsed most) (used-keep most) s by c a.state (call-edit s by c a is) h

    turned-used : (o : Option LwpTurn) → ((t : LwpTurn) → o ≡ Some t → HaveUsed (most + 1) t.system)
        → HaveUsed (most + 1) (after_turn s o).system
    turned-used None it = used-more s.system h
    turned-used (Some t) it = it t refl

    -- whatever an entry is
    pub entry-used : (actor : Actor) (it : Act)
        → HaveUsed (most + 1) (after s (record { actor = actor; act = it })).system
    unfolding after
    entry-used (Controller k) (act.Call c r) = used-more _ (called-used k c (answer_to s k c) refl)
    entry-used (Lwp p l) (act.Turn t) =
        turned-used (turn_of s.system p l) (λ turn taken. turn-used s.system p l turn h taken)
    entry-used Clock (act.Tick moment) = record { processes = (used-more s.system h).processes }
    entry-used _ _ = used-more s.system h

-- ---- histories

pub history-used : (most : ℕ) (s : TracedState) (h : List Entry) → HaveUsed most s.system
    → HaveUsed (most + length h) (state_after s h).system
history-used most s [] used = subst (λ n. HaveUsed n s.system) (omega arith) used
history-used most s (e ∷ h) used =
    let rest = history-used (most + 1) (after s e) h (entry-used most s used e.actor e.act) in
    let same : most + 1 + length h ≡ most + length (e ∷ h) = omega arith in
    subst (λ n. HaveUsed n (state_after (after s e) h).system) same rest

spawned_at-used : (o : Option Program) (s : TracedSystem) → HaveUsed 0 s → HaveUsed 0 (spawned_at o s)
spawned_at-used None s h = h
spawned_at-used (Some program) s h = spawned-keeps AnyLwp (HaveUsed 0) (used-keep 0) program false s h

spawns-used : (spawns : List ℕ) (s : TracedSystem) → HaveUsed 0 s → HaveUsed 0 (with_spawns spawns s)
unfolding with_spawns
spawns-used [] s h = h
spawns-used (place ∷ spawns) s h =
    spawns-used spawns (spawned_at (slice_get s.programs place) s) (spawned_at-used (slice_get s.programs place) s h)

bare-used : (programs : List Program) (files : List StoredFile) → HaveUsed 0 (bare_system programs files)
unfolding bare_system system_process bare_process traced nothing_set
bare-used programs files =
    record { processes = All-cons (UsedWithin 0) (0, system_process) [] (nothing-used 0) (All-nil (UsedWithin 0)) }

-- nothing is used at first
pub first-used : (programs : List Program) (files : List StoredFile) (spawns : List ℕ)
    → HaveUsed 0 (first_state programs files spawns).system
unfolding first_state
first-used programs files spawns = spawns-used spawns (bare_system programs files) (bare-used programs files)

-- ---- the record of usage

pub usage-range : (most : ℕ) (s : TracedSystem) (pid : ℕ) (p : TracedProcess) → IsWord most → IsLawfulSystem s
    → HaveUsed most s → process_of s pid ≡ Some p → IsUsage (usage_of pid p)
unfolding usage_of
usage-range most s pid p fits lawful h found =
    let it = All-under (UsedWithin most) pid p s.processes h.processes found in
    let id_below = process-id s pid p lawful found in
    record {
      id = omega arith;
      calls = let few = it.calls in omega arith;
      signals = let few = it.signals in omega arith;
      faults = let few = it.faults in omega arith;
      instructions = let few = it.instructions in omega arith;
    }
