use Rattle.std.specs.Prelude.{ℕ, true, false, List, [], ◌∷◌, Option, Some, None, length, nat_lt, if◌then◌else◌}
use Rattle.pr_num.specs.Signals.{signal_number}
use Rattle.pr_num.specs.Spaces.{Space}
use Rattle.pr_num.specs.declared.errnos.Errno.TheVariants.{Intr}
use Rattle.pr_num.specs.declared.faults.Flt.{Flt}
use Rattle.pr_num.specs.declared.signals.Sig.{Sig}
use Rattle.pr_num.specs.declared.signals.Sig.TheVariants.{Segv}
use Rattle.pr_num.specs.declared.syscalls.Sysno.{Sysno}
use Rattle.pr_num.specs.Limits.{frame_limit}
use Rattle.pr_parts.specs.AddressSpaces.{with_bytes}
use Rattle.pr_model.specs.Changes.{Change, space_is, takes_shared, job_stops, Ending, ends_process, Effect, does, sleeps as effect_sleeps, ends, all_changed, ended}
use Rattle.pr_model.specs.InstructionEffects.{Store}
use Rattle.pr_model.specs.Machines.{Machine}
use Rattle.pr_model.specs.Moves.{Move, moved, stays, stops, posts, returns, runs, enters, incurs, traps, leaves, sleeps, takes, drops, catches}
use Rattle.pr_model.specs.Signals.{current_of, with_frame, handler_registers, handler_held}
use Rattle.pr_model.specs.State.{LwpOf, ProcessOf, SystemOf, with_lwp_of}
use Rattle.pr_model.specs.declared.events.Res.TheVariants.{Error}
use Rattle.pr_model.specs.declared.lwps.Current.{Current}

-- What a turn of an lwp does to the system: changes of the system first, then one move of the lwp itself, and at last
-- the end of the lwp or of its process, if there is one. Both machines make the same transitions.
pub record Transition : Type 0 where
  pub changes : List Change
  pub move : Move
  pub ending : Option Ending

-- a move alone; changes and a move; and an end
abbrev pub moving : Move → Transition
moving move = record { changes = []; move = move; ending = None }

abbrev pub changing : List Change → Move → Transition
changing changes move = record { changes = changes; move = move; ending = None }

abbrev pub ending : Ending → Transition
ending how = record { changes = []; move = stays; ending = Some how }

module _ {C H K : Type 0} (m : Machine C H K) (pid : ℕ) (p : ProcessOf C H K) (id : ℕ) (l : LwpOf H K) where
  -- the end of the lwp or of its process, if there is one
  abbrev pub ended_if : Option Ending → SystemOf C H K → SystemOf C H K
  ended_if None s = s
  ended_if (Some how) s = ended m pid p id how s

  -- A transition of the lwp of an id, which with its process was as is said here when its turn began.
  unfoldable pub after_transition : Transition → SystemOf C H K → SystemOf C H K
  after_transition t s = ended_if t.ending (with_lwp_of pid id (moved m t.move) (all_changed m pid p id l t.changes s))

-- ---- the transitions

-- it stops as directed; the signal of its fault is posted
unfoldable pub requested : Transition
requested = moving stops

unfoldable pub posted : Flt → ℕ → Transition
posted f address = moving (posts f address)

-- a system call that was made with these arguments ends with EINTR
unfoldable pub interrupted : Sysno → List ℕ → Transition
interrupted call args = moving (leaves call args (Error Intr))

-- a system call does what it does; since is when its sleep began, or begins
unfoldable pub performed : Sysno → List ℕ → ℕ → Effect → Transition
performed call args since (does result changes) = changing changes (leaves call args result)
performed call args since effect_sleeps = moving (sleeps call args since)
performed call args since (ends how) = ending how

-- a signal is taken from those that pend for the lwp alone, or from those of its process
unfoldable pub own_taken : {H K : Type 0} → LwpOf H K → Sig → Transition
own_taken l s = moving (takes (current_of s l.pending) true)

unfoldable pub shared_taken : {C H K : Type 0} → ProcessOf C H K → Sig → Transition
shared_taken p s = changing (takes_shared s ∷ []) (takes (current_of s p.pending) false)

-- a handler runs, where its frame has room; else the process ends as by SIGSEGV
unfoldable pub handled : {H K : Type 0} → LwpOf H K → Current → ℕ → Transition
handled l c handler =
    if nat_lt (length l.frames) frame_limit
    then moving
    (catches (with_frame l.regs l.held l.frames) (handler_registers c handler l.regs) (handler_held c l.held))
    else ending (ends_process (signal_number Segv))

-- a signal is dropped; it stops the process by job control; it ends the process
unfoldable pub dropped : Transition
dropped = moving drops

unfoldable pub job_stopped : Sig → Transition
job_stopped s = changing (job_stops s ∷ []) drops

unfoldable pub died : Sig → Transition
died s = ending (ends_process (signal_number s))

-- it goes back from a call to its program
unfoldable pub returned : Transition
returned = moving returns

-- what an instruction stores, as a change
unfoldable pub stored_in : Space → Option Store → List Change
stored_in space None = []
stored_in space (Some store) = space_is (with_bytes store.at store.bytes space) ∷ []

-- an instruction leaves these registers and stores bytes or none; comes to a system call; incurs a fault; and leaves
-- registers and stores, and then incurs a fault
unfoldable pub ran : Space → List ℕ → Option Store → Transition
ran space regs store = changing (stored_in space store) (runs regs)

unfoldable pub entered : Sysno → List ℕ → Transition
entered call regs = moving (enters call regs)

unfoldable pub incurred : Flt → ℕ → Transition
incurred f address = moving (incurs f address)

unfoldable pub trapped : Flt → ℕ → Space → List ℕ → Option Store → Transition
trapped f address space regs store = changing (stored_in space store) (traps f address regs)
