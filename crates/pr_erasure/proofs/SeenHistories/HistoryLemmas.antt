use Rattle.std.proofs.Common.{◌≡◌, ℕ, false, Option, Some, None, List, [], ◌∷◌, refl, sym, subst}
use Rattle.std.proofs.lemmas.List.Elements.{All-nil, All-cons, All-head, All-tail}
use Rattle.std.specs.Bool.{IsTrue}
use Rattle.std.specs.List.{slice_get}
use Rattle.pr_num.specs.Control.{has_flags}
use Rattle.pr_num.specs.Sets.{common_word}
use Rattle.pr_num.specs.Programs.{Program}
use Rattle.pr_num.specs.declared.files.StoredFile.{StoredFile}
use Rattle.pr_num.proofs.ByIdLaws.{All-under}
use Rattle.pr_model.specs.Calls.{Answer, answer_to}
use Rattle.pr_model.specs.Erasure.{erased_system}
use Rattle.pr_model.specs.FirstState.{system_process, bare_system, spawned_at, with_spawns, first_state}
use Rattle.pr_model.specs.Legal.{IsLegal, IsLegalEntry, after, state_after, ticked}
use Rattle.pr_model.specs.Lives.{bare_process}
use Rattle.pr_model.specs.LwpTurns.{LwpTurn, turn_of, settled}
use Rattle.pr_model.specs.Machines.{nothing_set, traced}
use Rattle.pr_model.specs.Passive.{IsPassive, is_passive_act}
use Rattle.pr_model.specs.Rows.{row_for}
use Rattle.pr_model.specs.State.{TracedState, TracedSystem}
use Rattle.pr_model.specs.UntracedMachine.{ends_here, step_by, ticks}
use Rattle.pr_model.specs.UntracedSteps.{steps_of_turn, Memory, nothing_yet, remembered, steps_of, steps_from, untraced_steps}
use Rattle.pr_model.specs.declared.events.Act.{Act}
use Rattle.pr_model.specs.declared.events.Act.TheVariants as act
use Rattle.pr_model.specs.declared.events.Actor.{Actor}
use Rattle.pr_model.specs.declared.events.Actor.TheVariants.{Controller, Lwp, Clock}
use Rattle.pr_model.specs.declared.events.Entry.{Entry}
use Rattle.pr_model.specs.declared.steps.Step.TheVariants.{Tick}
use Rattle.pr_model.proofs.HistoryLemmas.{untraced_trace-steps}
use Rattle.pr_erasure.specs.Transparency.{IsTransparent}
use Rattle.pr_erasure.specs.Untouched.{IsUntouchedLwp, IsUntouchedProcess, IsUntouched}
use Rattle.pr_laws.proofs.RunLemmas.{UntracedRun-append}
use Rattle.pr_erasure.proofs.SeenHistories.CallLemmas.{call-follows}
use Rattle.pr_erasure.proofs.SeenHistories.OutsideLemmas.{StepsFollow, with_spawned-untouched}
use Rattle.pr_erasure.proofs.SeenTurns.ProperLemmas.{row-proper}
use Rattle.pr_erasure.proofs.SeenTurns.RowLemmas.{HasTurn}
use Rattle.pr_erasure.proofs.SeenTurns.TurnLemmas.{row-runs}
use Rattle.pr_erasure.proofs.SeenTurns.UntouchedLemmas.{settled-keeps}
use Rattle.pr_model.proofs.TurnLemmas.{turn-taken}
use Rattle.pr_model.proofs.StateLemmas.{live_process-found}

-- ---- entries

tick-follows : (s : TracedSystem) → IsUntouched s → StepsFollow s (Tick ∷ []) (ticked s)
unfolding erased_system
tick-follows s u = record { run = step_by ticks ends_here; untouched = record { processes = u.processes } }

turn-follows : (s : TracedSystem) (pid id : ℕ) (t : LwpTurn) (m : Memory) → turn_of s pid id ≡ Some t → IsUntouched s
    → StepsFollow s (steps_of m (record { actor = Lwp pid id; act = act.Turn t.turned })) t.system
unfolding steps_of settled
turn-follows s pid id t m turn u =
    let taken = turn-taken s pid id t turn in
    let p = taken.process in
    let l = taken.lwp in
    let row = row_for s pid p id l in
    let pu : IsUntouchedProcess (pid, p) =
    All-under IsUntouchedProcess pid p s.processes u.processes (live_process-found s pid p taken.live) in
    let lu : IsUntouchedLwp (id, l) = All-under IsUntouchedLwp id l p.lwps pu.lwps taken.there in
    let has : l.control.directed ≡ false → HasTurn s pid p id l =
    λ directed. record {
      live = taken.live;
      there = taken.there;
      free = taken.free;
      not_directed = directed;
      no_agent = lu.no_agent;
      no_step = lu.no_step;
      no_abort = lu.no_abort;
      unwatched = pu.unwatched;
    } in
    subst (λ (v : LwpTurn). StepsFollow s (steps_of_turn (m.returning pid id) pid id v.turned.did) v.system)
    (sym taken.is) (record {
      run = row-runs s pid p id l has taken.goes (m.returning pid id);
      untouched = settled-keeps pid p id l lu s u row (row-proper s pid p id l);
    })

-- Each entry of a legal and passive history.
entry-follows : (n : ℕ) (s : TracedState) (m : Memory) (actor : Actor) (it : Act) → IsUntouched s.system
    → IsTrue (is_passive_act it) → IsLegalEntry n s (record { actor = actor; act = it })
    → StepsFollow s.system (steps_of m (record { actor = actor; act = it }))
    (after s (record { actor = actor; act = it })).system
unfolding IsLegalEntry steps_of after
entry-follows n s m (Controller k) (act.Call c r) u passive legal =
    let a : Answer = record { state = legal.1.0; reply = r } in
    let answer : answer_to s k c ≡ Some a = legal.1.1 in
    rw answer (call-follows s u k c a answer passive)
entry-follows n s m (Lwp p l) (act.Turn t) u passive legal =
    let turn : LwpTurn = record { system = legal.0; turned = t } in
    let taken : turn_of s.system p l ≡ Some turn = legal.1 in
    rw taken (turn-follows s.system p l turn m taken u)
entry-follows n s m Clock (act.Tick moment) u passive legal = tick-follows s.system u
entry-follows n s m _ _ u passive legal = absurd legal

-- Histories, entry by entry.
history-follows : (n : ℕ) (s : TracedState) (m : Memory) (h : List Entry) → IsUntouched s.system → IsPassive h
    → IsLegal n s h → StepsFollow s.system (steps_from m h) (state_after s h).system
history-follows n s m [] u passive legal = record { run = ends_here; untouched = u }
history-follows n s m (e ∷ h) u passive legal =
    let first =
    entry-follows n s m e.actor e.act u
    (All-head (λ (x : Entry). IsTrue (is_passive_act x.act)) e h passive) legal.0 in
    let rest =
    history-follows n (after s e) (remembered m e) h first.untouched
    (All-tail (λ (x : Entry). IsTrue (is_passive_act x.act)) e h passive) legal.1 in
    record { run = UntracedRun-append first.run rest.run; untouched = rest.untouched }

-- ---- the first state: nothing is touched

spawned_at-untouched : (program : Option Program) (s : TracedSystem) → IsUntouched s
    → IsUntouched (spawned_at program s)
spawned_at-untouched None s u = u
spawned_at-untouched (Some program) s u = with_spawned-untouched program false s u

spawns-untouched : (spawns : List ℕ) (s : TracedSystem) → IsUntouched s → IsUntouched (with_spawns spawns s)
unfolding with_spawns
spawns-untouched [] s u = u
spawns-untouched (place ∷ spawns) s u =
    spawns-untouched spawns _ (spawned_at-untouched (slice_get s.programs place) s u)

system-untouched : IsUntouchedProcess (0, system_process)
unfolding system_process bare_process traced nothing_set has_flags common_word
system-untouched = record { no_kill = refl; unwatched = refl; lwps = All-nil IsUntouchedLwp }

first-untouched : (programs : List Program) (files : List StoredFile) (spawns : List ℕ)
    → IsUntouched (first_state programs files spawns).system
unfolding first_state bare_system
first-untouched programs files spawns =
    spawns-untouched spawns (bare_system programs files)
    (record {
      processes = All-cons IsUntouchedProcess (0, system_process) [] system-untouched
          (All-nil IsUntouchedProcess);
    })

-- ---- tracing is transparent

pub transparent-later : (n : ℕ) (s : TracedState) (h : List Entry) → IsUntouched s.system → IsLegal n s h → IsPassive h
    → IsTransparent s h
unfolding untraced_steps
transparent-later n s h u legal passive =
    let follows = history-follows n s nothing_yet h u passive legal in
    record { run = follows.run; trace = untraced_trace-steps h }

pub transparent-first : (n : ℕ) (programs : List Program) (files : List StoredFile) (spawns : List ℕ) (h : List Entry)
    → IsLegal n (first_state programs files spawns) h → IsPassive h
    → IsTransparent (first_state programs files spawns) h
transparent-first n programs files spawns h legal passive =
    transparent-later n (first_state programs files spawns) h (first-untouched programs files spawns) legal passive

pub stays-untouched : (n : ℕ) (s : TracedState) (h : List Entry) → IsUntouched s.system → IsLegal n s h → IsPassive h
    → IsUntouched (state_after s h).system
stays-untouched n s h u legal passive =
    let follows = history-follows n s nothing_yet h u passive legal in
    follows.untouched

pub ruleset transparency = (transparent-first, transparent-later, stays-untouched)
