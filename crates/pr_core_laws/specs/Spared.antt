use Rattle.std.specs.Prelude.{◌≡◌, ◌++◌, ◌∷◌, ℕ, List, Some}
use Rattle.std.specs.List.{All}
use Rattle.pr_api.specs.Entries.{call_entry}
use Rattle.pr_model.specs.Changes.{Change, signals}
use Rattle.pr_model.specs.Legal.{state_after}
use Rattle.pr_model.specs.Readers.{life_of}
use Rattle.pr_model.specs.Rows.{row_for}
use Rattle.pr_model.specs.SignalCalls.{sending, sends}
use Rattle.pr_model.specs.State.{TracedLwp, TracedProcess, TracedState, live_process, lwp_of}
use Rattle.pr_model.specs.declared.calls.Call.TheVariants.{Kill}
use Rattle.pr_model.specs.declared.calls.Reply.{Reply}
use Rattle.pr_model.specs.declared.events.Actor.TheVariants.{Lwp}
use Rattle.pr_model.specs.declared.events.Entry.{Entry}
use Rattle.pr_num.specs.ById.{map_each}
use Rattle.pr_num.specs.declared.signals.Sig.{Sig}
use Rattle.pr_parts.specs.PendingSignals.{Pending}
use Rattle.pr_parts.specs.SignalRules.{deleted_by}

-- What others may do to a process that stands still while its core is made, and what they then leave of it.

-- what pends for each lwp alone, under its id
abbrev pub pending_of_lwps : TracedProcess → List (ℕ × Pending)
pending_of_lwps p = map_each (λ (l : TracedLwp). l.pending) p.lwps

-- A process has the parent that it had, stands under the job stop under which it stood, and for each of its lwps pends
-- what pended.
pub record IsSpared (p q : TracedProcess) : Type 0 where
  pub parent : q.parent ≡ p.parent
  pub job_stop : q.job_stop ≡ p.job_stop
  pub pending : pending_of_lwps q ≡ pending_of_lwps p

-- ---- what is sent

-- Of what a turn changes: a signal that is generated for this process deletes no others, so it is no SIGCONT and no
-- stop
-- signal.
abbrev pub SparesBy : ℕ → Change → Type 0
SparesBy pid (signals target g info) = target ≡ pid → deleted_by g ≡ 0
SparesBy pid _ = Unit {0}

-- In an entry no SIGCONT and no stop signal is sent to a process, by an lwp or from outside.
pub record SendsNoStop (pid : ℕ) (s : TracedState) (e : Entry) : Type 0 where
  pub turn : (acting id : ℕ) (p : TracedProcess) (l : TracedLwp) → e.actor ≡ Lwp acting id
      → live_process s.system acting ≡ Some p → lwp_of p id ≡ Some l
      → All (SparesBy pid) (row_for s.system acting p id l).transition.changes
  pub kill : (by number : ℕ) (r : Reply) (g : Sig) → e ≡ call_entry by (Kill pid number) r
      → sending pid number (life_of s.system pid) ≡ sends g → deleted_by g ≡ 0

-- From the state before these entries to the one after them the parent of a process does not end, and none of the
-- entries sends it SIGCONT or a stop signal. When a parent ends, its children go to process 0.
pub record IsSparedIn (pid : ℕ) (p : TracedProcess) (first : TracedState) (before between : List Entry) : Type 0 where
  pub parent : (front back : List Entry) (q : TracedProcess) → between ≡ front ++ back
      → live_process (state_after first (before ++ front)).system pid ≡ Some q → q.parent ≡ p.parent
  pub unsent : (front : List Entry) (e : Entry) (back : List Entry) → between ≡ front ++ e ∷ back
      → SendsNoStop pid (state_after first (before ++ front)) e

-- ---- what is left

-- a process as it is with what pends for all of it, and with the lender of its memory, as another has them
abbrev pub signalled_as : TracedProcess → TracedProcess → TracedProcess
signalled_as p q = record p { pending = q.pending; lender = q.lender }

-- A process lives in each of these states, and is as it was but for signals that pend for all of it, and for its
-- lender:
-- a borrower gets another one, or none, where its own ends (vfork(2)).
pub record StoodIn (pid : ℕ) (p : TracedProcess) (first : TracedState) (before between : List Entry) : Type 0 where
  pub each : (front back : List Entry) → between ≡ front ++ back
      → (q : TracedProcess)
      × ((live_process (state_after first (before ++ front)).system pid ≡ Some q) × (q ≡ signalled_as p q))
