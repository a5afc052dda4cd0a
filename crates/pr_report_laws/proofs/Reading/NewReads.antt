use Rattle.std.proofs.Common.{◌≡◌, ◌==◌, nat_lt, ℕ, zero, suc, Bool, true, false, cond, Option, Some, None, List, slice_get, refl, sym, ap, ◌∙◌, arith, lt-ltb}
use Rattle.std.proofs.lemmas.Bool.{eqb-true, false≢true}
use Rattle.std.proofs.lemmas.Option.{none-some, same_Some}
use Rattle.std.specs.Option.{option_and_then}
use Rattle.pr_model.specs.Handles.{handle_of}
use Rattle.pr_model.specs.Replies.{bytes_in, number_of}
use Rattle.pr_model.specs.State.{TracedState}
use Rattle.pr_model.specs.declared.calls.Call.{Call}
use Rattle.pr_model.specs.declared.calls.Call.TheVariants as call
use Rattle.pr_model.specs.declared.calls.File.{File}
use Rattle.pr_model.specs.declared.calls.File.TheVariants.{Lstatus, Status}
use Rattle.pr_model.specs.declared.calls.Mode.TheVariants.{Read}
use Rattle.pr_model.specs.declared.calls.Reply.{Reply}
use Rattle.pr_model.specs.declared.calls.Reply.TheVariants as reply
use Rattle.pr_model.specs.declared.events.Entry.{Entry}
use Rattle.pr_num.specs.Limits.{read_limit}
use Rattle.pr_rec.specs.declared.lwps.LwpStatus.{LwpStatus}
use Rattle.pr_truss.specs.NextCalls.{call_of, next_call_of, read_record}
use Rattle.pr_truss.specs.Records.{event_stops, status_lwp}
use Rattle.pr_truss.specs.Trusses.{TrussState, traced_at}
use Rattle.pr_truss.specs.declared.processes.Traced.{Traced}
use Rattle.pr_truss.specs.declared.stages.Stage.{Stage}
use Rattle.pr_truss.specs.declared.stages.Stage.TheVariants.{ReadingStatus, ReadingLwps}
use Rattle.pr_truss_laws.proofs.Files.OpensLemmas.{held_by}
use Rattle.pr_truss_laws.proofs.Files.OwnLemmas.{Owns}
use Rattle.pr_truss_laws.specs.Exchanges.{Exchange, exchange_of}
use Rattle.pr_report_laws.proofs.Files.FileSteps.{MakesNext}
use Rattle.pr_report_laws.proofs.Files.FileUses as uses
use Rattle.pr_report_laws.proofs.Files.WatchHistories.{Reaches}
use Rattle.pr_report_laws.proofs.Invariant.HistorySteps.{read_of}
use Rattle.pr_report_laws.proofs.Replies.NewStops.{new_at, read_at, read_now}
use Rattle.pr_report_laws.specs.Attachments.{ReadsFile}
use Rattle.pr_report_laws.specs.Reads.{ReadsEvent, by_lwps, by_status}
use Rattle.pr_report_laws.specs.Shown.{LwpEvent, event_told}

-- Where truss reads an event of a process that is new to it, the entry is a read of the status of the process, or of
-- the statuses of its lwps.

-- ---- a new event

-- What is known where a read tells an event of a process: the process is that one, its stop is no old one, and truss
-- has not looked at it before.
pub record IsNewStop (pid : ℕ) (x : Traced) (read : Option LwpStatus) (event : LwpEvent) : Type 0 where
  pub own : x.pid ≡ pid
  pub lwp : LwpStatus
  pub is : read ≡ Some lwp
  pub none_old : x.old ≡ 0
  pub unseen : x.seen ≡ false
  pub tells : event_told lwp ≡ Some event

none-before : (n : ℕ) → nat_lt 0 n ≡ false → n ≡ 0
none-before zero none = refl
none-before (suc n) none = absurd (false≢true (sym none ∙ lt-ltb 0 (suc n) (omega arith)))

pub new-stop : (pid : ℕ) (x : Traced) (read : Option LwpStatus) (event : LwpEvent)
    → new_at pid x read ≡ Some event → IsNewStop pid x read event
new-stop pid x None event is = absurd (none-some event (sym (by (x.pid == pid)) ∙ is))
  where
    by : (b : Bool) → cond {A = Option LwpEvent} b None None ≡ None
    by true = refl
    by false = refl
new-stop pid x (Some l) event is = by (x.pid == pid) refl (nat_lt 0 x.old) refl x.seen refl is
  where
    by : (b : Bool) → (x.pid == pid) ≡ b → (older : Bool) → nat_lt 0 x.old ≡ older → (seen : Bool) → x.seen ≡ seen
        → cond b (cond older None (cond seen None (event_told l))) None ≡ Some event
        → IsNewStop pid x (Some l) event
    by true own false none false unseen it = record {
      own = eqb-true x.pid pid own;
      lwp = l;
      is = refl;
      none_old = none-before x.old none;
      unseen = unseen;
      tells = it;
    }
    by true own false none true seen it = absurd (none-some event it)
    by true own true old seen is_seen it = absurd (none-some event it)
    by false other older is_older seen is_seen it = absurd (none-some event it)

-- the bytes of a read
pub bytes-reply : (r : Reply) (bytes : List ℕ) → bytes_in r ≡ Some bytes → r ≡ reply.Bytes bytes
unfolding bytes_in
bytes-reply (reply.Bytes others) bytes is = ap reply.Bytes (same_Some others bytes is)
bytes-reply _ bytes is = absurd (none-some bytes is)

-- ---- the entry

pub same-exchange : (y : Exchange) (c : Call) (r : Reply) → y.call ≡ c → y.reply ≡ r
    → y ≡ record { call = c; reply = r }
same-exchange y c r one two =
    ap (λ (d : Call). let z : Exchange = record { call = d; reply = y.reply } in z) one
    ∙ ap (λ (q : Reply). let z : Exchange = record { call = c; reply = q } in z) two

module _ (k pid : ℕ) (t : TrussState) (s : TracedState) (e : Entry) (g : Reaches k t s) (x : Exchange)
    (own : exchange_of k e ≡ Some x) (next : next_call_of t ≡ Some x.call) (event : LwpEvent) where
  -- the entry is the read of this file, which got these bytes
  unfoldable pub reads-file : (f : File) (of handle : ℕ)
      → handle_of s.opens k handle ≡ Some (held_by k of 0 f Read) → of ≡ pid
      → x.call ≡ call.Read handle 0 read_limit → (bytes : List ℕ) → bytes_in x.reply ≡ Some bytes
      → ReadsFile k pid f s e
  reads-file f of handle held mine made bytes got = record {
    handle = handle;
    from = 0;
    len = read_limit;
    bytes = bytes;
    held = held_by k of 0 f Read;
    is =
        own
        ∙ ap (λ (y : Exchange). Some y)
        (same-exchange x (call.Read handle 0 read_limit) (reply.Bytes bytes) made (bytes-reply x.reply bytes got));
    there = held;
    of = mine;
    file = refl;
  }

  -- the call of a stage
  pub call-is : (stage : Stage) (c : Call) → t.stage ≡ stage → call_of t stage ≡ Some c → x.call ≡ c
  unfolding next_call_of
  call-is stage c at is = same_Some x.call c (sym next ∙ ap (call_of t) at ∙ is)

  status-event : (place : ℕ) → t.stage ≡ ReadingStatus place
      → IsNewStop pid (traced_at t place) (option_and_then status_lwp (bytes_in x.reply)) event
      → ReadsEvent k pid s e event
  unfolding call_of reads-file
  status-event place at n = by (bytes_in x.reply) refl n.is
    where
      by : (y : Option (List ℕ)) → bytes_in x.reply ≡ y → option_and_then status_lwp y ≡ Some n.lwp
          → ReadsEvent k pid s e event
      by None none is = absurd (none-some n.lwp is)
      by (Some bytes) got is =
          let owns : Owns k t s = g.owns in
          let f = uses.status-read k t s g.files owns.fits place at in
          by_status (record {
            read =
                reads-file Status (traced_at t place).pid (number_of (traced_at t place).status) f.is n.own
                (call-is (ReadingStatus place) (read_record (traced_at t place).status) at refl) bytes got;
            lwp = n.lwp;
            tells = is;
            on = n.tells;
          })

  no-lwps : slice_get (event_stops None) 0 ≡ None
  unfolding event_stops
  no-lwps = refl

  lwps-event : t.stage ≡ ReadingLwps
      → IsNewStop pid (traced_at t 0) (slice_get (event_stops (bytes_in x.reply)) 0) event → ReadsEvent k pid s e event
  unfolding call_of reads-file
  lwps-event at n = by (bytes_in x.reply) refl n.is
    where
      by : (y : Option (List ℕ)) → bytes_in x.reply ≡ y → slice_get (event_stops y) 0 ≡ Some n.lwp
          → ReadsEvent k pid s e event
      by None none is = absurd (none-some n.lwp (sym no-lwps ∙ is))
      by (Some bytes) got is =
          let owns : Owns k t s = g.owns in
          let f = uses.lwps-read k t s g.files owns.fits at in
          by_lwps (record {
            read =
                reads-file Lstatus (traced_at t 0).pid (number_of (traced_at t 0).lstatus) f.is n.own
                (call-is ReadingLwps (read_record (traced_at t 0).lstatus) at refl) bytes got;
            lwp = n.lwp;
            first = is;
            on = n.tells;
          })

  stage-event : (stage : Stage) → t.stage ≡ stage → read_at pid t x.reply stage ≡ Some event
      → ReadsEvent k pid s e event
  stage-event (ReadingStatus place) at is = status-event place at (new-stop pid (traced_at t place) _ event is)
  stage-event ReadingLwps at is = lwps-event at (new-stop pid (traced_at t 0) _ event is)
  stage-event _ at is = absurd (none-some event is)

  pub new-event : read_now pid t x.reply ≡ Some event → ReadsEvent k pid s e event
  unfolding read_now
  new-event is = stage-event t.stage refl is

-- the same of any entry
pub entry-event : (k pid : ℕ) (t : TrussState) (s : TracedState) (e : Entry) → Reaches k t s
    → MakesNext t (exchange_of k e) → (event : LwpEvent) → read_of pid t (exchange_of k e) ≡ Some event
    → ReadsEvent k pid s e event
entry-event k pid t s e g next event is = by (exchange_of k e) refl next is
  where
    by : (x : Option Exchange) → exchange_of k e ≡ x → MakesNext t x → read_of pid t x ≡ Some event
        → ReadsEvent k pid s e event
    by None none made read = absurd (none-some event read)
    by (Some x) own made read = new-event k pid t s e g x own made event read
