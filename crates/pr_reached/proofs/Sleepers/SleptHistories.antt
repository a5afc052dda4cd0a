use Rattle.std.proofs.Common.{◌≡◌, ℕ, false, Some, None, Option, List, [], ◌∷◌, refl}
use Rattle.std.proofs.lemmas.List.Elements.{All-cons, All-nil}
use Rattle.std.specs.List.{All, slice_get}
use Rattle.pr_keeps.proofs.KeepsLemmas.{lwp-edits-keep, process-edits-keep}
use Rattle.pr_keeps.specs.LwpEdits as lwp
use Rattle.pr_keeps.specs.LwpEdits.{LwpEdit, LwpEdits}
use Rattle.pr_keeps.specs.ProcessEdits as process
use Rattle.pr_keeps.specs.ProcessEdits.{ProcessEdit}
use Rattle.pr_model.specs.Changes.{with_space}
use Rattle.pr_model.specs.FirstState.{bare_system, first_state, spawned_at, system_process, with_spawns}
use Rattle.pr_model.specs.Legal.{IsLegal, state_after}
use Rattle.pr_model.specs.Lives.{bare_process, new_lwp}
use Rattle.pr_model.specs.Machines.{traced}
use Rattle.pr_model.specs.Messages.{agent_lwp, lwp_without_one, with_address, with_agent, with_held_set, with_registers}
use Rattle.pr_model.specs.Running.{let_go, with_abort, with_directive, with_step, without_current, without_directive, without_fault}
use Rattle.pr_model.specs.State.{TracedLwp, TracedProcess, TracedState, TracedSystem}
use Rattle.pr_model.specs.declared.events.Entry.{Entry}
use Rattle.pr_model.specs.declared.lwps.Phase.{Phase}
use Rattle.pr_model.specs.declared.lwps.Phase.TheVariants.{Asleep, Entered, Exiting, Faulted, User}
use Rattle.pr_num.proofs.ByIdLaws.{All-inserted}
use Rattle.pr_num.specs.Agents.{agent_id}
use Rattle.pr_num.specs.Programs.{Program}
use Rattle.pr_num.specs.declared.files.StoredFile.{StoredFile}
use Rattle.pr_num.specs.declared.messages.Message.{Message}
use Rattle.pr_reached.proofs.Sleepers.SleptTurns.{IsOwnAwake, KeepsAwake, awake-lwp, kind-elsewhere, lwp-keeps, lwps-keep, newborn-awake, own-awake, step-awake}
use Rattle.pr_reached.specs.SleptCopies.{HasNoCopySleeper, NoneSleepsInCopy, SleepsInNoCopy, sleeps_in_copy}
use Rattle.pr_keeps.proofs.KeptHistories.{any-history}
use Rattle.pr_keeps.proofs.KeptProcesses.{AnyMade, KeepsProcesses, processes-keep, turns-keep}
use Rattle.pr_keeps.proofs.KeptSystems.{KeepsSystem, KeepsTurns, keeps-each, spawned-keeps}
use Rattle.pr_keeps.proofs.RowLemmas.{row-kind}
use Rattle.pr_model.specs.Rows.{Row, row_for}

-- No lwp is asleep in a fork, a vfork or an exec in the first state of a scenario, nor after a legal history from a
-- state in which none is.

-- ---- messages

abbrev IsAwake : TracedLwp → Type 0
IsAwake l = sleeps_in_copy l.phase ≡ false

fault-keeps : (l : TracedLwp) → IsAwake l → IsAwake (without_fault l)
unfolding without_fault
fault-keeps l none = by l.phase none
  where
    by : (phase : Phase) → sleeps_in_copy phase ≡ false → IsAwake (without_fault (record l { phase = phase }))
    by User is = is
    by (Entered call) is = is
    by (Asleep call args since) is = is
    by (Exiting call args result) is = is
    by (Faulted f address) is = refl

edit-keeps : (m : Message) (l k : TracedLwp) → LwpEdit m l k → IsAwake l → IsAwake k
unfolding without_current with_directive without_directive let_go with_step with_abort lwp_without_one with_held_set
    with_registers with_address
edit-keeps m l k (lwp.drops_signal is) h = h
edit-keeps m l k (lwp.drops_fault is) h = fault-keeps l h
edit-keeps m l k (lwp.directs_it is) h = h
edit-keeps m l k lwp.undirects h = h
edit-keeps m l k lwp.lets_go h = h
edit-keeps m l k (lwp.requests is) h = h
edit-keeps m l k (lwp.ends_request is) h = h
edit-keeps m l k (lwp.steps is) h = h
edit-keeps m l k (lwp.aborts is) h = h
edit-keeps m l k (lwp.signal_is is) h = h
edit-keeps m l k (lwp.takes_back is) h = h
edit-keeps m l k lwp.holds h = h
edit-keeps m l k lwp.registers_are h = h
edit-keeps m l k lwp.goes_to h = h

edits-keep : (m : Message) (f : TracedLwp → TracedLwp) → ((l : TracedLwp) → LwpEdits m l (f l)) → KeepsAwake f
edits-keep m f edits id l u =
    record { none = lwp-edits-keep m IsAwake (edit-keeps m) l (f l) (edits l) u.none }

agent-awake : (regs : List ℕ) → SleepsInNoCopy (agent_id, agent_lwp regs)
unfolding agent_lwp new_lwp traced
agent-awake regs = record { none = refl }

process-keep : (m : Message) (tail : List ℕ) (x y : TracedProcess) → ProcessEdit m tail x y
    → All SleepsInNoCopy x.lwps → All SleepsInNoCopy y.lwps
unfolding with_agent with_space
process-keep m tail x y (process.one_lwp id f edits) u = lwp-keeps id f (edits-keep m f edits) x u
process-keep m tail x y (process.each_lwp f edits) u = lwps-keep f (edits-keep m f edits) x u
process-keep m tail x y (process.control_is e) u = u
process-keep m tail x y (process.takes_back is) u = u
process-keep m tail x y (process.gets_agent {regs = regs} free room) u =
    All-inserted SleepsInNoCopy agent_id (agent_lwp regs) x.lwps (agent-awake regs) u
process-keep m tail x y (process.is_written own mapped) u = u

-- ---- histories

awake-processes : KeepsProcesses IsOwnAwake AnyMade HasNoCopySleeper
awake-processes = record {
  step = λ pid x f is u. record { lwps = step-awake f is x u.lwps };
  edits = λ pid m tail x y made u. record {
    lwps =
        process-edits-keep m tail (λ (z : TracedProcess). All SleepsInNoCopy z.lwps) (process-keep m tail) x y made
        u.lwps;
  };
  newborn = λ made x known new. record { lwps = newborn-awake x new };
  later = λ made known. tt;
}

each_awake : (s : TracedSystem) → NoneSleepsInCopy s → Unit {0} × All HasNoCopySleeper s.processes
each_awake s u = (tt, u.processes)

awake_each : (s : TracedSystem) → Unit {0} × All HasNoCopySleeper s.processes → NoneSleepsInCopy s
awake_each s it = record { processes = it.1 }

awake-keep : KeepsSystem IsOwnAwake NoneSleepsInCopy
awake-keep =
    processes-keep IsOwnAwake AnyMade HasNoCopySleeper NoneSleepsInCopy each_awake awake_each awake-processes

awake-turns : KeepsTurns IsOwnAwake NoneSleepsInCopy
awake-turns =
    turns-keep IsOwnAwake AnyMade HasNoCopySleeper NoneSleepsInCopy each_awake awake_each awake-lwp
    (λ s pid p id l f is x u.
    let row : Row = row_for s pid p id l in
    record { lwps = own-awake id row (kind-elsewhere s pid p id l row (row-kind s pid p id l)) f is x u.lwps })

pub history-awake : (n : ℕ) (s : TracedState) (h : List Entry) → NoneSleepsInCopy s.system → IsLegal n s h
    → NoneSleepsInCopy (state_after s h).system
history-awake n s h u legal =
    any-history n (λ t. NoneSleepsInCopy t.system) (keeps-each IsOwnAwake NoneSleepsInCopy awake-keep awake-turns n) s h
    legal u

-- ---- the first state

spawned_at-awake : (o : Option Program) (s : TracedSystem) → NoneSleepsInCopy s → NoneSleepsInCopy (spawned_at o s)
spawned_at-awake None s u = u
spawned_at-awake (Some program) s u = spawned-keeps IsOwnAwake NoneSleepsInCopy awake-keep program false s u

spawns-awake : (spawns : List ℕ) (s : TracedSystem) → NoneSleepsInCopy s → NoneSleepsInCopy (with_spawns spawns s)
unfolding with_spawns
spawns-awake [] s u = u
spawns-awake (place ∷ spawns) s u =
    spawns-awake spawns (spawned_at (slice_get s.programs place) s)
    (spawned_at-awake (slice_get s.programs place) s u)

pub first-awake : (programs : List Program) (files : List StoredFile) (spawns : List ℕ)
    → NoneSleepsInCopy (first_state programs files spawns).system
unfolding first_state bare_system system_process bare_process
first-awake programs files spawns =
    spawns-awake spawns (bare_system programs files)
    (record {
      processes =
          All-cons HasNoCopySleeper (0, system_process) [] (record { lwps = All-nil SleepsInNoCopy })
          (All-nil HasNoCopySleeper);
    })

pub ruleset none_sleeps = (history-awake)
