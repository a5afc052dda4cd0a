use Rattle.std.proofs.Common.{◌≡◌, ◌≢◌, ◌==◌, nat_lt, ℕ, suc, false, cond, Option, Some, None, slice_get, refl, ap, ◌∙◌, arith, lt-ltb}
use Rattle.std.proofs.lemmas.Bool.{eq-eqb, ne_eqb}
use Rattle.std.specs.Option.{option_and_then, option_map}
use Rattle.pr_line.specs.Events.{event_of}
use Rattle.pr_line.specs.declared.events.Event.{Event}
use Rattle.pr_model.specs.Replies.{bytes_in}
use Rattle.pr_model.specs.declared.calls.Reply.{Reply}
use Rattle.pr_model.specs.declared.calls.Reply.TheVariants as reply
use Rattle.pr_rec.specs.declared.lwps.LwpStatus.{LwpStatus}
use Rattle.pr_truss.specs.Records.{event_stops, status_lwp}
use Rattle.pr_truss.specs.Replies.{answer_of}
use Rattle.pr_truss.specs.Trusses.{TrussState, traced_at}
use Rattle.pr_truss.specs.declared.processes.Traced.{Traced}
use Rattle.pr_truss.specs.declared.replies.Answer.TheVariants.{Accepted}
use Rattle.pr_truss.specs.declared.stages.Stage.{Stage}
use Rattle.pr_truss.specs.declared.stages.Stage.TheVariants.{ReadingStatus, ReadingLwps}
use Rattle.pr_report_laws.specs.Shown.{LwpEvent, event_told}

-- What the reply to a call tells truss of a process: the event of a stop that it has not read before.

-- ---- one stop

-- the event of a stop, where it is no old stop and truss has not looked at it
abbrev pub if_new : Traced → LwpStatus → Option LwpEvent
if_new x l = cond (nat_lt 0 x.old) None (cond x.seen None (event_told l))

-- of the lwp that was read, if one was
abbrev pub new_of : Traced → Option LwpStatus → Option LwpEvent
new_of x None = None
new_of x (Some l) = if_new x l

-- where the process is this one
abbrev pub new_at : ℕ → Traced → Option LwpStatus → Option LwpEvent
new_at pid x l = cond (x.pid == pid) (new_of x l) None

-- ---- the reply to a call

abbrev pub read_at : ℕ → TrussState → Reply → Stage → Option LwpEvent
read_at pid t r (ReadingStatus place) = new_at pid (traced_at t place) (option_and_then status_lwp (bytes_in r))
read_at pid t r ReadingLwps = new_at pid (traced_at t 0) (slice_get (event_stops (bytes_in r)) 0)
read_at pid t r _ = None

-- the event of a process that truss reads, where this reply comes next
unfoldable pub read_now : ℕ → TrussState → Reply → Option LwpEvent
read_now pid t r = read_at pid t r t.stage

pub read-is : (pid : ℕ) (t : TrussState) (r : Reply) (stage : Stage) → t.stage ≡ stage
    → read_now pid t r ≡ read_at pid t r stage
unfolding read_now
read-is pid t r stage is = ap (read_at pid t r) is

-- ---- what is told of a stop

pub new-own : (pid : ℕ) (x : Traced) (l : Option LwpStatus) → x.pid ≡ pid → new_at pid x l ≡ new_of x l
new-own pid x l own = ap (λ b. cond b (new_of x l) None) (eq-eqb x.pid pid own)

pub new-other : (pid : ℕ) (x : Traced) (l : Option LwpStatus) → x.pid ≢ pid → new_at pid x l ≡ None
new-other pid x l apart = ap (λ b. cond b (new_of x l) None) (ne_eqb x.pid pid apart)

-- an old stop
pub new-old : (x : Traced) (l : LwpStatus) (n : ℕ) → x.old ≡ suc n → if_new x l ≡ None
new-old x l n old =
    ap (λ b. cond b None (cond x.seen None (event_told l))) (ap (nat_lt 0) old ∙ lt-ltb 0 (suc n) (omega arith))

-- a new one
pub new-event : (x : Traced) (l : LwpStatus) → x.old ≡ 0 → x.seen ≡ false → if_new x l ≡ event_told l
new-event x l none unseen =
    ap (λ b. cond b None (cond x.seen None (event_told l))) (ap (nat_lt 0) none)
    ∙ ap (λ b. cond b None (event_told l)) unseen

-- a status that tells an event of an lwp
pub told-event : (l : LwpStatus) (id : ℕ) (event : Event) → event_of l ≡ Some event → l.id ≡ id
    → event_told l ≡ Some (record { id = id; event = event })
told-event l id event tells own =
    ap (option_map (λ (e : Event). record { id = l.id; event = e })) tells
    ∙ ap (λ n. Some (record { id = n; event = event })) own

-- a call that was refused gives no bytes
pub refused-bytes : (r : Reply) → answer_of r ≢ Accepted → bytes_in r ≡ None
unfolding answer_of bytes_in
refused-bytes (reply.Fail errno) refused = refl
refused-bytes (reply.Bytes bytes) refused = absurd (refused refl)
refused-bytes _ refused = refl
