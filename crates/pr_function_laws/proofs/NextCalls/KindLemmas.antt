use Rattle.std.proofs.Common.{◌≡◌, ◌≢◌, ◌==◌, ℕ, Bool, true, false, cond, Option, Some, None, List, [], ◌∷◌, Result, Ok, Err, refl, ap, ◌∙◌}
use Rattle.std.proofs.lemmas.Bool.{eq-eqb, ne_eqb}
use Rattle.std.proofs.lemmas.List.Elements.{All-cons, All-head, All-nil, All-tail}
use Rattle.std.specs.List.{All, position}
use Rattle.std.specs.Option.{option_and_then}
use Rattle.pr_line.specs.declared.options.Options.{Options}
use Rattle.pr_line.specs.Events.{event_of}
use Rattle.pr_line.specs.declared.events.Event.TheVariants.{Entered, Left, Incurred}
use Rattle.pr_num.specs.Syscalls.{is_fork_call}
use Rattle.pr_num.specs.declared.errnos.Errno.{Errno}
use Rattle.pr_num.specs.declared.faults.Flt.{Flt}
use Rattle.pr_num.specs.declared.faults.Flt.TheVariants.{Ill, Bpt, Trace, Watch, Access, Bounds, Stack, Izdiv}
use Rattle.pr_num.specs.declared.syscalls.Sysno.{Sysno}
use Rattle.pr_num.specs.declared.syscalls.Sysno.TheVariants.{Exit, Fork, Read, Write, Open, Close, Wait, Getpid, Getppid, Exec, Pipe, Dup, Lseek, Kill, Sigaction, Sigmask, Pause, Sigreturn, Brk, Mmap, Munmap, Mprotect, Time, Sleep, LwpCreate, LwpExit, LwpSuspend, LwpContinue, Fstat, Sigqueue, Vfork}
use Rattle.pr_truss.specs.FunctionEvents.{begins_at, breakpoint_event, copies_memory, fresh_event, function_at, function_event, if_standing, keeps_memory, left_event, trap_event}
use Rattle.pr_truss.specs.Marks.{has_function, standing}
use Rattle.pr_truss.specs.declared.function_events.FunctionEvent.TheVariants.{AfterCopy, BeforeCopy, Completed, Other, Replaced, TraceTrap}
use Rattle.pr_truss.specs.declared.marks.Marks.{Marks}
use Rattle.pr_truss.specs.declared.marks.Stepped.{Stepped}
use Rattle.pr_truss.specs.declared.processes.Traced.{Traced}
use Rattle.pr_function_laws.specs.EventKinds.{AreEventKinds, LooksAtEachEvent, copying_calls}

-- What each event is to the breakpoints of truss.

-- a call that is none of the three copies no memory: a row a call
copies-none : (call : Sysno) → All (λ (copying : Sysno). copying ≢ call) copying_calls → copies_memory call ≡ false
unfolding copies_memory is_fork_call
copies-none Exit others = refl
copies-none Fork others = absurd (All-head (λ (c : Sysno). c ≢ Fork) Fork (Vfork ∷ Exec ∷ []) others refl)
copies-none Read others = refl
copies-none Write others = refl
copies-none Open others = refl
copies-none Close others = refl
copies-none Wait others = refl
copies-none Getpid others = refl
copies-none Getppid others = refl
copies-none Exec others =
    absurd
    (All-head (λ (c : Sysno). c ≢ Exec) Exec []
    (All-tail (λ (c : Sysno). c ≢ Exec) Vfork (Exec ∷ [])
    (All-tail (λ (c : Sysno). c ≢ Exec) Fork (Vfork ∷ Exec ∷ []) others)) refl)
copies-none Pipe others = refl
copies-none Dup others = refl
copies-none Lseek others = refl
copies-none Kill others = refl
copies-none Sigaction others = refl
copies-none Sigmask others = refl
copies-none Pause others = refl
copies-none Sigreturn others = refl
copies-none Brk others = refl
copies-none Mmap others = refl
copies-none Munmap others = refl
copies-none Mprotect others = refl
copies-none Time others = refl
copies-none Sleep others = refl
copies-none LwpCreate others = refl
copies-none LwpExit others = refl
copies-none LwpSuspend others = refl
copies-none LwpContinue others = refl
copies-none Fstat others = refl
copies-none Sigqueue others = refl
copies-none Vfork others =
    absurd
    (All-head (λ (c : Sysno). c ≢ Vfork) Vfork (Exec ∷ [])
    (All-tail (λ (c : Sysno). c ≢ Vfork) Fork (Vfork ∷ Exec ∷ []) others) refl)

-- each event at which an lwp stands that is new
pub looks-at-each : (t : Traced) → LooksAtEachEvent t
unfolding fresh_event
looks-at-each t = record {
  fresh = λ l none unseen.
      ap (λ (n : ℕ). cond (n == 0) (cond t.seen None (event_of l)) None) none
      ∙ ap (λ (b : Bool). cond b None (event_of l)) unseen;
}

module _ (o : Options) (m : Marks) (id : ℕ) where
  -- the breakpoint at an address
  planted-at : (pc : ℕ) (place : Option ℕ) → position (begins_at pc) o.functions ≡ place
      → function_at o m pc ≡ option_and_then (if_standing m) place
  unfolding function_at
  planted-at pc place is = ap (option_and_then (if_standing m)) is

  met : (pc : ℕ) (found : Option ℕ) → function_at o m pc ≡ found
      → function_event o m id (Incurred Bpt pc) ≡ breakpoint_event found
  unfolding function_event
  met pc found is = ap breakpoint_event is

  found-at : (pc function : ℕ) (b : Bool) → position (begins_at pc) o.functions ≡ Some function
      → has_function (standing m) function ≡ b
      → function_event o m id (Incurred Bpt pc) ≡ breakpoint_event (cond b (Some function) None)
  found-at pc function b at is =
      met pc (cond b (Some function) None)
      (planted-at pc (Some function) at ∙ ap (λ (c : Bool). cond c (Some function) None) is)

  trapped : (pc : ℕ) (stepped : Option Stepped) → m.stepped ≡ stepped
      → function_event o m id (Incurred Trace pc) ≡ trap_event stepped id
  unfolding function_event
  trapped pc stepped is = ap (λ (x : Option Stepped). trap_event x id) is

  abbrev Enters : Sysno → Type 0
  Enters call = (arguments : List ℕ) → function_event o m id (Entered call arguments) ≡ BeforeCopy

  abbrev Fails : Sysno → Type 0
  Fails call = (arguments : List ℕ) (errno : Errno)
      → function_event o m id (Left call arguments (Err errno)) ≡ AfterCopy

  abbrev Replaces : Sysno → Type 0
  Replaces call = (arguments : List ℕ) (value : ℕ) → function_event o m id (Left call arguments (Ok value)) ≡ Replaced

  other-entry : (call : Sysno) (arguments : List ℕ) → copies_memory call ≡ false
      → function_event o m id (Entered call arguments) ≡ Other
  unfolding function_event
  other-entry call arguments none = ap (λ (b : Bool). cond b BeforeCopy Other) none

  other-exit : (call : Sysno) (arguments : List ℕ) (result : Result ℕ Errno) → copies_memory call ≡ false
      → function_event o m id (Left call arguments result) ≡ Other
  unfolding function_event
  other-exit call arguments result none = ap (λ (b : Bool). cond b (left_event call result) Other) none

  other-fault : (fault : Flt) (pc : ℕ) → fault ≢ Bpt → fault ≢ Trace
      → function_event o m id (Incurred fault pc) ≡ Other
  unfolding function_event
  other-fault Ill pc other none = refl
  other-fault Bpt pc other none = absurd (other refl)
  other-fault Trace pc other none = absurd (none refl)
  other-fault Watch pc other none = refl
  other-fault Access pc other none = refl
  other-fault Bounds pc other none = refl
  other-fault Stack pc other none = refl
  other-fault Izdiv pc other none = refl

  -- all of it
  pub event-kinds : AreEventKinds o m id
  unfolding function_event copies_memory is_fork_call keeps_memory
  event-kinds = record {
    entered =
        All-cons Enters Fork (Vfork ∷ Exec ∷ []) (λ arguments. refl)
        (All-cons Enters Vfork (Exec ∷ []) (λ arguments. refl)
        (All-cons Enters Exec [] (λ arguments. refl) (All-nil Enters)));
    forked = λ arguments value. refl;
    failed =
        All-cons Fails Fork (Vfork ∷ Exec ∷ []) (λ arguments errno. refl)
        (All-cons Fails Vfork (Exec ∷ []) (λ arguments errno. refl)
        (All-cons Fails Exec [] (λ arguments errno. refl) (All-nil Fails)));
    replaced =
        All-cons Replaces Vfork (Exec ∷ []) (λ arguments value. refl)
        (All-cons Replaces Exec [] (λ arguments value. refl) (All-nil Replaces));
    at_breakpoint = λ pc function at stands. found-at pc function true at stands;
    left_alone = λ pc function at lies. found-at pc function false at lies;
    elsewhere = λ pc none. met pc None (planted-at pc None none);
    completed = λ pc step is same.
        trapped pc (Some step) is ∙ ap (λ b. cond b (Completed step) TraceTrap) (eq-eqb step.lwp id same);
    of_another = λ pc step is other.
        trapped pc (Some step) is ∙ ap (λ b. cond b (Completed step) TraceTrap) (ne_eqb step.lwp id other);
    stray = λ pc none. trapped pc None none;
    other_entries = λ call arguments others. other-entry call arguments (copies-none call others);
    other_exits = λ call arguments result others. other-exit call arguments result (copies-none call others);
    received = λ signal disposition info. refl;
    other_faults = other-fault;
    begins = λ pc f. refl;
  }

pub ruleset looks_each = (looks-at-each)
