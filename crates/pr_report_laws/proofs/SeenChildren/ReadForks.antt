use Rattle.std.proofs.Common.{◌≡◌, ◌==◌, ◌<◌, ◌^◌, ◌≢◌, is_some, ℕ, Bool, true, false, cond, Option, Some, None, Ok, List, slice_get, refl, ap, ◌∙◌, lt-ltb}
use Rattle.std.proofs.lemmas.Bool.{ne_eqb}
use Rattle.std.proofs.lemmas.Option.{none-some, same_Some}
use Rattle.std.specs.Option.{option_and_then, option_map}
use Rattle.pr_line.specs.Events.{event_for, event_of, named_call, result_of}
use Rattle.pr_line.specs.declared.events.Event.{Event}
use Rattle.pr_line.specs.declared.events.Event.TheVariants.{Left}
use Rattle.pr_model.specs.Replies.{bytes_in}
use Rattle.pr_model.specs.declared.calls.Reply.{Reply}
use Rattle.pr_num.specs.Syscalls.{is_fork_call, syscall_number}
use Rattle.pr_num.specs.declared.errnos.Errno.{Errno}
use Rattle.pr_num.specs.declared.stop_reasons.StopReason.{StopReason}
use Rattle.pr_num.specs.declared.stop_reasons.StopReason.TheVariants.{Requested, Signalled, SysEntry, SysExit, JobControl, Faulted, Suspended}
use Rattle.pr_num.specs.declared.syscalls.Sysno.{Sysno}
use Rattle.pr_rec.specs.declared.lwps.LwpStatus.{LwpStatus}
use Rattle.pr_truss.specs.Records.{child_of, event_stops, has_ended_fork, is_on_event, status_lwp}
use Rattle.pr_truss.specs.Trusses.{TrussState, traced_at}
use Rattle.pr_truss.specs.declared.stages.Stage.{Stage}
use Rattle.pr_truss.specs.declared.stages.Stage.TheVariants.{ReadingStatus, ReadingLwps}
use Rattle.pr_report_laws.proofs.SeenChildren.ForkEvents.{IsForkExit}
use Rattle.pr_report_laws.proofs.Reading.NewReads.{new-stop}
use Rattle.pr_report_laws.proofs.Replies.NewStops.{read_at, read_now}
use Rattle.pr_report_laws.specs.Follows.{ReadsFork}
use Rattle.pr_report_laws.specs.Freed.{ReadsLastFork}
use Rattle.pr_report_laws.specs.Shown.{LwpEvent, event_told}

-- Where truss reads the exit of a fork or vfork, the status tells the child.

-- ---- the status

-- the event that a status tells
told-is : (l : LwpStatus) (event : LwpEvent) → event_told l ≡ Some event → event_of l ≡ Some event.event
told-is l event = by (event_of l)
  where
    by : (x : Option Event)
        → option_map (λ (e : Event). let it : LwpEvent = record { id = l.id; event = e } in it) x ≡ Some event
        → x ≡ Some event.event
    by None is = absurd (none-some event is)
    by (Some e) is = ap (λ (it : LwpEvent). Some it.event) (same_Some _ event is)

-- what is known of a status that tells the exit of a call
record IsAtExit (l : LwpStatus) (call : Sysno) (value : ℕ) : Type 0 where
  why : l.why ≡ Some SysExit
  named : l.call ≡ Some call
  fine : l.errno ≡ None
  result : l.result ≡ value

module _ (l : LwpStatus) (call : Sysno) (args : List ℕ) (value : ℕ) where
  left-parts : (c : Sysno) → Left c l.arguments (result_of l.result l.errno) ≡ Left call args (Ok value)
      → (c ≡ call) × ((l.errno ≡ None) × (l.result ≡ value))
  left-parts c is = by l.errno refl is
    where
      by : (x : Option Errno) → l.errno ≡ x → Left c l.arguments (result_of l.result x) ≡ Left call args (Ok value)
          → (c ≡ call) × ((l.errno ≡ None) × (l.result ≡ value))
      by None none same = (cc, (none, cc))
      by (Some e) some same = cc

  exit-named : (n : Option Sysno) → l.call ≡ n → l.why ≡ Some SysExit
      → option_map (λ c. Left c l.arguments (result_of l.result l.errno)) (option_and_then (named_call l.what) n)
      ≡ Some (Left call args (Ok value)) → IsAtExit l call value
  exit-named None named why is = absurd (none-some (Left call args (Ok value)) is)
  exit-named (Some c) named why is = by (syscall_number c == l.what) is
    where
      by : (b : Bool)
          → option_map (λ c. Left c l.arguments (result_of l.result l.errno)) (cond b (Some c) None)
          ≡ Some (Left call args (Ok value)) → IsAtExit l call value
      by false it = absurd (none-some (Left call args (Ok value)) it)
      by true it =
          let parts = left-parts c (same_Some _ (Left call args (Ok value)) it) in
          record {
            why = why;
            named = named ∙ ap (λ (d : Sysno). Some d) parts.0;
            fine = parts.1.0;
            result = parts.1.1;
          }

  -- what is made of a name is another event
  mapped-other : {X Y : Type 0} (f : X → Event) (n : Option X) → ((x : X) → f x ≡ Left call args (Ok value) → ⊥)
      → option_map f n ≡ Some (Left call args (Ok value)) → Y
  mapped-other f None differs is = absurd (none-some (Left call args (Ok value)) is)
  mapped-other f (Some x) differs is = absurd (differs x (same_Some (f x) (Left call args (Ok value)) is))

  at-exit-by : (w : Option StopReason) → l.why ≡ w
      → option_and_then (event_for l) w ≡ Some (Left call args (Ok value)) → IsAtExit l call value
  at-exit-by (Some SysExit) why is = exit-named l.call refl why is
  at-exit-by (Some SysEntry) why is = mapped-other _ _ (λ c same. cc) is
  at-exit-by (Some Signalled) why is = mapped-other _ _ (λ g same. cc) is
  at-exit-by (Some Faulted) why is = mapped-other _ _ (λ f same. cc) is
  at-exit-by (Some Requested) why is = cc
  at-exit-by (Some JobControl) why is = cc
  at-exit-by (Some Suspended) why is = cc
  at-exit-by None why is = cc

  at-exit : event_of l ≡ Some (Left call args (Ok value)) → IsAtExit l call value
  unfolding event_of
  at-exit is = at-exit-by l.why refl is

-- so it tells the child
child-told : (l : LwpStatus) (call : Sysno) (child : ℕ) → IsAtExit l call child → is_fork_call call ≡ true
    → child ≢ 0 → child < 2 ^ 32 → child_of l ≡ Some child
unfolding child_of has_ended_fork
child-told l call child at makes some small =
    rw (at.why, at.named, at.fine, at.result, makes, ne_eqb child 0 some, lt-ltb child (2 ^ 32) small) refl

fork-told : (child : ℕ) (l : LwpStatus) (event : LwpEvent) → event_told l ≡ Some event → IsForkExit child event.event
    → (is_on_event l ≡ true) × (child_of l ≡ Some child)
unfolding is_on_event
fork-told child l event told f =
    let is : event_of l ≡ Some (Left f.call f.args (Ok child)) =
    told-is l event told ∙ ap (λ (e : Event). Some e) f.is in (
      ap (λ (x : Option Event). is_some x) is,
      child-told l f.call child (at-exit l f.call f.args child is) f.makes f.some f.small,
    )

-- ---- the read

-- truss reads the fork, at a stop of the process, or while it leaves it
pub data ReadsIt (t : TrussState) (r : Reply) (child : ℕ) : Type 0 where
  at_stop : (place : ℕ) → ReadsFork t r place child → ReadsIt t r child
  at_last : ReadsLastFork t r child → ReadsIt t r child

module _ (t : TrussState) (r : Reply) (parent child : ℕ) (event : LwpEvent) (f : IsForkExit child event.event) where
  stage-reads : (stage : Stage) → t.stage ≡ stage → read_at parent t r stage ≡ Some event → ReadsIt t r child
  stage-reads (ReadingStatus place) at is =
      let n = new-stop parent (traced_at t place) (option_and_then status_lwp (bytes_in r)) event is in
      let told = fork-told child n.lwp event n.tells f in
      at_stop place (record {
        stage = at;
        new = n.none_old;
        lwp = n.lwp;
        read = n.is;
        event = told.0;
        made = told.1;
      })
  stage-reads ReadingLwps at is =
      let n = new-stop parent (traced_at t 0) (slice_get (event_stops (bytes_in r)) 0) event is in
      let told = fork-told child n.lwp event n.tells f in
      at_last (record {
        stage = at;
        new = n.none_old;
        unseen = n.unseen;
        lwp = n.lwp;
        first = n.is;
        made = told.1;
      })
  stage-reads _ at is = absurd (none-some event is)

  pub fork-reads : read_now parent t r ≡ Some event → ReadsIt t r child
  unfolding read_now
  fork-reads is = stage-reads t.stage refl is
