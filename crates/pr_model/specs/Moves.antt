use Rattle.std.specs.Prelude.{ℕ, Bool, List, Some, None, if◌then◌else◌}
use Rattle.pr_num.specs.declared.faults.Flt.{Flt}
use Rattle.pr_num.specs.declared.syscalls.Sysno.{Sysno}
use Rattle.pr_model.specs.Machines.{Machine}
use Rattle.pr_parts.specs.PendingSignals.{without_one}
use Rattle.pr_model.specs.Registers.{stored}
use Rattle.pr_model.specs.State.{LwpOf}
use Rattle.pr_model.specs.declared.events.Res.{Res}
use Rattle.pr_model.specs.declared.frames.Frame.{Frame}
use Rattle.pr_model.specs.declared.lwps.Current.{Current}

-- What a turn makes of its lwp itself, as data: a row a kind of move.

pub data Move : Type 0 where
  -- nothing
  stays : Move
  -- it stops as directed
  stops : Move
  -- the signal of its fault, incurred at an address, is posted
  posts : Flt → ℕ → Move
  -- it goes back from a call to its program
  returns : Move
  -- an instruction leaves these registers; comes to a system call with them; incurs a fault at an address and leaves
  -- the registers as they were; leaves these registers and then incurs a fault, and a step mark is used up
  runs : List ℕ → Move
  enters : Sysno → List ℕ → Move
  incurs : Flt → ℕ → Move
  traps : Flt → ℕ → List ℕ → Move
  -- a call made with these arguments gives a result; puts the lwp to sleep, since some moment
  leaves : Sysno → List ℕ → Res → Move
  sleeps : Sysno → List ℕ → ℕ → Move
  -- a signal becomes the current one, and is taken from those that pend for the lwp alone if it stands there
  takes : Current → Bool → Move
  -- the current signal is dropped; is caught, with these frames, registers and held set
  drops : Move
  catches : List Frame → List ℕ → ℕ → Move

module _ {C H K : Type 0} (m : Machine C H K) where
  unfoldable pub moved : Move → LwpOf H K → LwpOf H K
  moved stays l = l
  moved stops l = record l { control = m.stopped l.control }
  moved (posts f address) l = m.posts f address l
  moved returns l = record l { phase = m.in_user }
  moved (runs regs) l = record l { regs = regs }
  moved (enters call regs) l = record l { regs = regs; phase = m.entered call }
  moved (incurs f address) l = m.incurs f address l
  moved (traps f address regs) l =
      m.incurs f address (record l { regs = regs; phase = m.in_user; control = m.trapped l.control })
  moved (leaves call args result) l =
      record l { regs = stored call result l.regs; phase = m.exiting call args result; control = m.over l.control }
  moved (sleeps call args since) l = record l { phase = m.asleep call args since }
  moved (takes c own) l =
      record l { current = Some c; pending = if own then without_one c.signal l.pending else l.pending }
  moved drops l = record l { current = None }
  moved (catches frames regs held) l =
      record l { frames = frames; regs = regs; held = held; current = None; phase = m.in_user }
