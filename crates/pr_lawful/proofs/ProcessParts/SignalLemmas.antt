use Rattle.std.proofs.Common.{◌≡◌, ℕ, Bool, true, false, is_none, eqb, ltb, cond, Option, Some, None, refl, subst}
use Rattle.pr_num.specs.declared.infos.Info.{Info}
use Rattle.pr_num.specs.Limits.{signal_count}
use Rattle.pr_num.specs.Signals.{signal_number, signal_of_number}
use Rattle.pr_num.specs.declared.errnos.Errno.TheVariants.{Inval, Perm, Again}
use Rattle.pr_num.specs.declared.signals.Sig.{Sig}
use Rattle.pr_num.specs.declared.signals.Sig.TheVariants.{Cont, Stop, Tstp, Ttin, Ttou}
use Rattle.pr_parts.specs.PendingSignals.{Pending, has_room, is_standard}
use Rattle.pr_parts.specs.SignalRules.{deleted_by}
use Rattle.pr_model.specs.Generation.{ends_job_stop, lwp_without_pending, lwp_with_pending, without_pending, without_job_stop, with_deletions, with_pending, signalled}
use Rattle.pr_model.specs.Lawful.{IsLawfulLwp}
use Rattle.pr_model.specs.Readers.{life_of}
use Rattle.pr_model.specs.SignalCalls.{refuses, sends_nothing, sends, sending}
use Rattle.pr_keeps.specs.MessageEdits.{HasRoomIn}
use Rattle.pr_model.specs.State.{TracedLwp, TracedProcess, TracedSystem, process_of}
use Rattle.pr_rec.specs.InRange.{IsInfo}
use Rattle.pr_lawful.proofs.ProcessParts.InfoLemmas.{added-infos, deleted-infos}
use Rattle.pr_lawful.proofs.ProcessParts.LocalLemmas.{KeepsLwp, StaysLawful, Keeps, kept-same, kept-next, kept-if, same_rest, same_lwps, changed_one, mapped_lwps, kept-parts}

-- A signal that is sent to a process, and has room where it is to pend, leaves it lawful.

-- ---- room

-- A signal may come to pend for a process, or for the lwp of an id in it: records can hold what comes with it, and it
-- has
-- room.
pub record MayPend (x : TracedProcess) (target : Option ℕ) (g : Sig) (info : Info) : Type 0 where
  pub fits : IsInfo info
  pub room : HasRoomIn x g target

-- the same of the process of an id, if there is one
pub record MayReach (s : TracedSystem) (pid : ℕ) (target : Option ℕ) (g : Sig) (info : Info) : Type 0 where
  pub found : (x : TracedProcess) → process_of s pid ≡ Some x → MayPend x target g info

-- a standard signal does not queue
pub standard-room : (g : Sig) (p : Pending) → is_standard g ≡ true → has_room g p ≡ true
unfolding has_room
standard-room g p standard = rw standard refl

standard-has : (x : TracedProcess) (target : Option ℕ) (g : Sig) → is_standard g ≡ true → HasRoomIn x g target
standard-has x None g standard = standard-room g x.pending standard
standard-has x (Some id) g standard = λ l there. standard-room g l.pending standard

pub standard-pends : (x : TracedProcess) (target : Option ℕ) (g : Sig) (info : Info) → IsInfo info
    → is_standard g ≡ true → MayPend x target g info
standard-pends x target g info fits standard = record { fits = fits; room = standard-has x target g standard }

pub standard-reaches : (s : TracedSystem) (pid : ℕ) (target : Option ℕ) (g : Sig) (info : Info) → IsInfo info
    → is_standard g ≡ true → MayReach s pid target g info
standard-reaches s pid target g info fits standard =
    record { found = λ x there. standard-pends x target g info fits standard }

-- a signal that queues deletes none
queued-deletes : (g : Sig) → is_standard g ≡ false → deleted_by g ≡ 0
unfolding deleted_by signal_number
queued-deletes Cont queues = cc
queued-deletes Stop queues = cc
queued-deletes Tstp queues = cc
queued-deletes Ttin queues = cc
queued-deletes Ttou queues = cc
queued-deletes _ queues = refl

deletions-room : (x : TracedProcess) (target : Option ℕ) (g : Sig) → HasRoomIn x g target
    → HasRoomIn (with_deletions g x) g target
unfolding with_deletions
deletions-room x target g room = by (is_standard g) refl
  where
    by : (b : Bool) → is_standard g ≡ b → HasRoomIn (with_deletions g x) g target
    by true standard = standard-has (with_deletions g x) target g standard
    by false queues = rw (queued-deletes g queues) room

-- a signal that is sent has room in the process
sent-room : (s : TracedSystem) (target number : ℕ) (g : Sig) (x : TracedProcess) → process_of s target ≡ Some x
    → sending target number (life_of s target) ≡ sends g → has_room g x.pending ≡ true
unfolding sending life_of
sent-room s target number g x there is =
    by (ltb signal_count number) (eqb target 0) x.ended (signal_of_number number) refl refl refl refl
  where
    at_room : (h : Sig) (room : Bool) → has_room h x.pending ≡ room → cond room (sends h) (refuses Again) ≡ sends g
        → has_room g x.pending ≡ true
    at_room h true room sent = let same : h ≡ g = cc in subst (λ k. has_room k x.pending ≡ true) same room
    at_room h false room sent = absurd (cc)

    by : (beyond first : Bool) (ended : Option ℕ) (o : Option Sig) → ltb signal_count number ≡ beyond
        → eqb target 0 ≡ first → x.ended ≡ ended → signal_of_number number ≡ o → has_room g x.pending ≡ true
    by true first ended o b f e n = let wrong : refuses Inval ≡ sends g = rw b at is in absurd (cc)
    by false true ended o b f e n = let wrong : refuses Perm ≡ sends g = rw (b, f) at is in absurd (cc)
    by false false (Some status) o b f e n =
        let wrong : sends_nothing ≡ sends g = rw (b, f, there, e) at is in
        absurd (cc)
    by false false None None b f e n = let wrong : sends_nothing ≡ sends g = rw (b, f, there, e, n) at is in absurd (cc)
    by false false None (Some h) b f e n = at_room h (has_room h x.pending) refl (rw (b, f, there, e, n) at is)

pub sent-reaches : (s : TracedSystem) (target number : ℕ) (g : Sig) (info : Info) → IsInfo info
    → sending target number (life_of s target) ≡ sends g → MayReach s target None g info
sent-reaches s target number g info new is =
    record { found = λ x there. record { fits = new; room = sent-room s target number g x there is } }

-- ---- what is kept

added-keeps : (g : Sig) (info : Info) (next id : ℕ) (l : TracedLwp) → IsInfo info → has_room g l.pending ≡ true
    → IsLawfulLwp next (id, l) → IsLawfulLwp next (id, lwp_with_pending g info l)
unfolding lwp_with_pending
added-keeps g info next id l new room it = record {
  id = it.id;
  held = it.held;
  frames = it.frames;
  few_frames = it.few_frames;
  pending = added-infos g info l.pending new room it.pending;
  current = it.current;
}

deleted-keeps : (signals : ℕ) → KeepsLwp (lwp_without_pending signals)
unfolding lwp_without_pending
deleted-keeps signals next id l it = record {
  id = it.id;
  held = it.held;
  frames = it.frames;
  few_frames = it.few_frames;
  pending = deleted-infos signals l.pending it.pending;
  current = it.current;
}

pending-keeps : (target : Option ℕ) (g : Sig) (info : Info) (pid : ℕ) (x : TracedProcess) → MayPend x target g info
    → StaysLawful pid x (with_pending target g info x)
unfolding with_pending
pending-keeps None g info pid x new =
    kept-parts pid x (with_pending None g info x) refl
    (same_rest x _ refl refl refl refl refl (added-infos g info x.pending new.fits new.room))
    (same_lwps x _ refl refl) refl refl
pending-keeps (Some id) g info pid x new =
    kept-parts pid x (with_pending (Some id) g info x) refl (same_rest x _ refl refl refl refl refl (λ it. it))
    (changed_one x id (lwp_with_pending g info)
    (λ l there it. added-keeps g info x.next_lwp id l new.fits (new.room l there) it)) refl refl

without_pending-keeps : (signals : ℕ) → Keeps (without_pending signals)
unfolding without_pending
without_pending-keeps signals pid x =
    kept-parts pid x (without_pending signals x) refl
    (same_rest x _ refl refl refl refl refl (deleted-infos signals x.pending))
    (let it = mapped_lwps x (lwp_without_pending signals)
    (deleted-keeps signals) in record { count = it.count; rising = it.rising; lawful = it.lawful }) refl refl

without_job_stop-keeps : (g : Sig) → Keeps (without_job_stop g)
unfolding without_job_stop
without_job_stop-keeps g pid x =
    kept-if pid (ends_job_stop g) x (record x { job_stop = None }) x
    (kept-parts pid x (record x { job_stop = None }) refl (same_rest x _ refl refl refl refl refl (λ it. it))
    (same_lwps x _ refl refl) refl refl) (kept-same pid x)

deletions-keep : (g : Sig) → Keeps (with_deletions g)
unfolding with_deletions
deletions-keep g pid x =
    kept-if pid (eqb (deleted_by g) 0) x x (without_job_stop g (without_pending (deleted_by g) x)) (kept-same pid x)
    (kept-next pid x (without_pending (deleted_by g) x) (without_job_stop g (without_pending (deleted_by g) x))
    (without_pending-keeps (deleted_by g) pid x) (without_job_stop-keeps g pid (without_pending (deleted_by g) x)))

pub signalled-keeps : (target : Option ℕ) (g : Sig) (info : Info) (pid : ℕ) (x : TracedProcess)
    → MayPend x target g info → StaysLawful pid x (signalled target g info x)
unfolding signalled
signalled-keeps target g info pid x new =
    kept-if pid (is_none x.ended) x (with_pending target g info (with_deletions g x)) x
    (kept-next pid x (with_deletions g x) (with_pending target g info (with_deletions g x)) (deletions-keep g pid x)
    (pending-keeps target g info pid (with_deletions g x)
    (record { fits = new.fits; room = deletions-room x target g new.room }))) (kept-same pid x)
