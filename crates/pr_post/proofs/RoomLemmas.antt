use Rattle.std.proofs.Common.{◌≡◌, ◌==◌, ◌<◌, ℕ, Bool, true, false, cond, IsTrue, Option, Some, None, filter, length, not, ltb, option_map, refl, arith}
use Rattle.std.proofs.lemmas.Bool.{ltb-true, lt-ltb}
use Rattle.std.proofs.lemmas.List.Filters.{length-filter_both}
use Rattle.pr_num.proofs.ByIdLaws.{under-map_each}
use Rattle.pr_num.specs.ById.{under}
use Rattle.pr_num.specs.Limits.{queue_limit}
use Rattle.pr_num.specs.Sets.{has_number}
use Rattle.pr_num.specs.declared.signals.Sig.{Sig}
use Rattle.pr_num.specs.declared.signals.Sig.TheVariants.{Cld}
use Rattle.pr_num.specs.Signals as numbers
use Rattle.pr_parts.specs.PendingSignals.{Pending, has_room, is_standard, without_signals}
use Rattle.pr_parts.specs.SignalRules.{deleted_by}
use Rattle.pr_parts.specs.declared.signals.Queued.{Queued}
use Rattle.pr_model.specs.Generation.{ends_job_stop, lwp_without_pending, with_deletions, without_job_stop, without_pending}
use Rattle.pr_model.specs.State.{TracedLwp, TracedProcess}
use Rattle.pr_post.specs.Room.{has_room_for, has_room_in, has_room_of}

-- SIGCLD does not queue: there is always room
pub room-child : (p : TracedProcess) → IsTrue (has_room_for None Cld p)
unfolding has_room_for has_room numbers.signal_number
room-child p = refl

pub ruleset rooms = (room-child)

-- ---- a signal that has room has it once it has deleted others

room-less : (g : Sig) (w : ℕ) (p : Pending) → has_room g p ≡ true → has_room g (without_signals w p) ≡ true
unfolding has_room without_signals
room-less g w p room = of (is_standard g) room
  where
    stays : Queued → Bool
    stays q = not (has_number w (numbers.signal_number q.signal))

    of : (b : Bool) → cond b true (ltb (length p.queued) queue_limit) ≡ true
        → cond b true (ltb (length (filter stays p.queued)) queue_limit) ≡ true
    of true e = refl
    of false e =
        let full : length p.queued < queue_limit = ltb-true (length p.queued) queue_limit e in
        let parts = length-filter_both stays (λ q. not (stays q)) (λ q. refl) p.queued in
        lt-ltb (length (filter stays p.queued)) queue_limit (omega arith)

room-of_less : (g : Sig) (w : ℕ) (o : Option TracedLwp) → has_room_of g o ≡ true
    → has_room_of g (option_map (lwp_without_pending w) o) ≡ true
unfolding lwp_without_pending
room-of_less g w None room = refl
room-of_less g w (Some l) room = room-less g w l.pending room

room-without : (id : Option ℕ) (g : Sig) (w : ℕ) (p : TracedProcess) → has_room_for id g p ≡ true
    → has_room_for id g (without_pending w p) ≡ true
unfolding has_room_for has_room_in without_pending
room-without None g w p room = room-less g w p.pending room
room-without (Some id) g w p room =
    rw (under-map_each id (lwp_without_pending w) p.lwps) (room-of_less g w (under id p.lwps) room)

room-no_stop : (id : Option ℕ) (g : Sig) (p : TracedProcess) → has_room_for id g p ≡ true
    → has_room_for id g (record p { job_stop = None }) ≡ true
unfolding has_room_for
room-no_stop None g p room = room
room-no_stop (Some id) g p room = room

pub room-deletions : (id : Option ℕ) (g : Sig) (p : TracedProcess) → has_room_for id g p ≡ true
    → has_room_for id g (with_deletions g p) ≡ true
unfolding with_deletions without_job_stop
room-deletions id g p room = of (deleted_by g == 0) (ends_job_stop g)
  where
    less : has_room_for id g (without_pending (deleted_by g) p) ≡ true
    less = room-without id g (deleted_by g) p room

    of : (none ends : Bool)
        → has_room_for id g
        (cond none p
        (cond ends (record (without_pending (deleted_by g) p) { job_stop = None }) (without_pending (deleted_by g) p)))
        ≡ true
    of true ends = room
    of false true = room-no_stop id g (without_pending (deleted_by g) p) less
    of false false = less
