use Rattle.std.proofs.Common.{◌≡◌, ℕ, true, false, IsTrue, Option, Some, None, refl}
use Rattle.pr_num.specs.Signals.{signal_of_number}
use Rattle.pr_num.specs.declared.signals.Sig.{Sig}
use Rattle.pr_parts.specs.PendingSignals.{has_room}
use Rattle.pr_model.specs.Generation.{with_deletions}
use Rattle.pr_model.specs.Messages.{Aim, is_kill_of, kill_by, killed, ssig_answer, unkill_by, with_process_changed, with_signal_set}
use Rattle.pr_model.specs.State.{TracedLwp, TracedProcess, TracedSystem, lwp_of}
use Rattle.pr_post.proofs.RoomLemmas.{room-deletions}
use Rattle.pr_post.specs.Room.{has_room_for, has_room_in, has_room_of}
use Rattle.pr_ctl.proofs.AimLemmas.{aimed-on_lwp}
use Rattle.pr_ctl.specs.Aims.{aim_at}
use Rattle.pr_ctl.specs.Changes.{aimed_by, aimed_changed}
use Rattle.pr_ctl.specs.Signals.{kill_by_id, pending_for, pending_found, unkilled}

-- PCKILL and PCUNKILL by ids.

pub kill-by_id : (s : TracedSystem) (pid : ℕ) (p : TracedProcess) (id : Option ℕ) (len : ℕ) (g : Sig)
    → kill_by_id s pid p id len g ≡ kill_by s pid p (aim_at id) len (Some g)
unfolding kill_by_id pending_for
kill-by_id s pid p None len g = refl
kill-by_id s pid p (Some id) len g = of (lwp_of p id) refl
  where
    of : (o : Option TracedLwp) → lwp_of p id ≡ o
        → kill_by_id s pid p (Some id) len g ≡ kill_by s pid p (aim_at (Some id)) len (Some g)
    of None e = rw e refl
    of (Some l) e = rw e refl

pub unkill-by_id : (s : TracedSystem) (pid : ℕ) (p : TracedProcess) (id : Option ℕ) (len : ℕ) (g : Sig)
    → with_process_changed s pid p len (unkilled s pid p g id) ≡ unkill_by s pid p (aim_at id) len (Some g)
unfolding unkilled
unkill-by_id s pid p None len g = refl
unkill-by_id s pid p (Some id) len g = refl

-- ---- PCSSIG

pub ssig-kill : (s : TracedSystem) (pid : ℕ) (p : TracedProcess) (aim : Aim) (number len : ℕ) (o : Option Sig)
    → o ≡ signal_of_number number → is_kill_of s pid p o ≡ true
    → killed s pid p len ≡ ssig_answer s pid p aim number len
unfolding ssig_answer
ssig-kill s pid p aim number len o e kill = rw (← e, kill) refl

pub ssig-set : (s : TracedSystem) (pid : ℕ) (p : TracedProcess) (lwp : Option ℕ) (number len : ℕ) (o : Option Sig)
    → o ≡ signal_of_number number → is_kill_of s pid p o ≡ false
    → aimed_changed s pid p len (with_signal_set o) (aimed_by p lwp) ≡ ssig_answer s pid p (aim_at lwp) number len
unfolding ssig_answer
ssig-set s pid p lwp number len o e other = rw (← e, other) (aimed-on_lwp s pid p len (with_signal_set o) lwp)

-- ---- a signal that has room has it after what its generation deletes

room-of : (g : Sig) (p : TracedProcess) (o : Option TracedLwp) → has_room g (pending_found p o) ≡ true
    → has_room_of g o ≡ true
room-of g p None room = refl
room-of g p (Some l) room = room

room-kept : (id : Option ℕ) (g : Sig) (p : TracedProcess) → has_room g (pending_for p id) ≡ true
    → has_room_for id g p ≡ true
unfolding pending_for has_room_for has_room_in
room-kept None g p room = room
room-kept (Some id) g p room = room-of g p (lwp_of p id) room

pub room-kill : (id : Option ℕ) (g : Sig) (p : TracedProcess) → has_room g (pending_for p id) ≡ true
    → IsTrue (has_room_for id g (with_deletions g p))
room-kill id g p room = room-deletions id g p (room-kept id g p room)

pub ruleset signal_laws = (kill-by_id, unkill-by_id, room-kill)
