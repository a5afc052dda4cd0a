use Rattle.std.proofs.Common.{◌≡◌, ◌<◌, ◌^◌, ◌≢◌, ℕ, Bool, true, false, cond, Option, Some, None, Ok, List, [], ◌∷◌, refl, ap, ◌∙◌, arith}
use Rattle.std.proofs.lemmas.Option.{none-some, same_Some}
use Rattle.pr_api.specs.Entries.{turn_entry}
use Rattle.pr_line.specs.declared.events.Event.{Event}
use Rattle.pr_line.specs.declared.events.Event.TheVariants.{Left}
use Rattle.pr_line.specs.declared.options.Options.{Options}
use Rattle.pr_model.proofs.TurnLemmas.{turn-taken}
use Rattle.pr_model.specs.Events.{event_of, events_of, exit, lwp_alone, lwp_in_state}
use Rattle.pr_model.specs.FirstState.{system_process}
use Rattle.pr_model.specs.Lawful.{IsLawful}
use Rattle.pr_model.specs.Legal.{IsLegalEntry, after}
use Rattle.pr_model.specs.LwpTurns.{LwpTurn}
use Rattle.pr_model.specs.State.{TracedLwp, TracedProcess, TracedState}
use Rattle.pr_model.specs.Statuses.{arguments_in}
use Rattle.pr_model.specs.declared.events.Did.{Did}
use Rattle.pr_model.specs.declared.events.Did.TheVariants as did
use Rattle.pr_model.specs.declared.events.Entry.{Entry}
use Rattle.pr_model.specs.declared.events.Res.TheVariants.{Value}
use Rattle.pr_model.specs.declared.events.Turned.{Turned}
use Rattle.pr_num.specs.Sets.{has_number, minus_word}
use Rattle.pr_num.specs.Syscalls.{is_fork_call, syscall_number}
use Rattle.pr_num.specs.declared.syscalls.Sysno.{Sysno}
use Rattle.pr_truss.proofs.ForkLemmas.{with_forks-has}
use Rattle.pr_truss.specs.Messages.{ending_calls, traced_exits, with_forks}
use Rattle.pr_truss.specs.Trusses.{TrussState}
use Rattle.pr_truss_laws.proofs.Machine.FrameLemmas.{was-made}
use Rattle.pr_truss_laws.specs.Told.{told}
use Rattle.pr_report_laws.proofs.Files.FileSteps.{entry-lawful}
use Rattle.pr_report_laws.proofs.Invariant.HistorySteps.{picked_of}
use Rattle.pr_report_laws.proofs.Machine.MadeOnce.{MakesProcess, fork-makes}
use Rattle.pr_report_laws.proofs.Machine.TracedPoints.{listed, told_of, turn-picks}
use Rattle.pr_report_laws.specs.Births.{child_made}
use Rattle.pr_report_laws.specs.Reads.{traces}
use Rattle.pr_report_laws.specs.Shown.{LwpEvent, picked}
use Rattle.pr_report_laws.specs.Watching.{watches}

-- A fork or vfork of a process that truss watches, where it follows children: its exit is an event that truss traces,
-- and its value is the id of a process.

-- the exit of a call that made this child
pub record IsForkExit (child : ℕ) (e : Event) : Type 0 where
  pub call : Sysno
  pub makes : is_fork_call call ≡ true
  pub args : List ℕ
  pub is : e ≡ Left call args (Ok child)
  pub some : child ≢ 0
  pub small : child < 2 ^ 32

-- what the turn logs
record LogsExit (child : ℕ) (p : TracedProcess) (l : TracedLwp) (new : Option TracedLwp) (d : Did) : Type 0 where
  call : Sysno
  makes : is_fork_call call ≡ true
  args : List ℕ
  logs : event_of p l new d ≡ Some (exit call args (Value child))

value-made : (call : Sysno) (v child : ℕ) → cond (is_fork_call call) (Some v) None ≡ Some child
    → (is_fork_call call ≡ true) × (v ≡ child)
value-made call v child = by (is_fork_call call)
  where
    by : (b : Bool) → cond b (Some v) None ≡ Some child → (b ≡ true) × (v ≡ child)
    by true is = (refl, same_Some v child is)
    by false is = absurd (none-some child is)

logs-exit : (child : ℕ) (p : TracedProcess) (l : TracedLwp) (new : Option TracedLwp) (d : Did)
    → child_made d ≡ Some child → LogsExit child p l new d
unfolding event_of
logs-exit child p l new (did.Made call (Value v)) made =
    let m = value-made call v child made in
    record {
      call = call;
      makes = m.0;
      args = arguments_in l.regs l.phase;
      logs = ap (λ w. Some (exit call (arguments_in l.regs l.phase) (Value w))) m.1;
    }
logs-exit child p l new (did.Woke call (Value v)) made =
    let m = value-made call v child made in
    record {
      call = call;
      makes = m.0;
      args = arguments_in l.regs l.phase;
      logs = ap (λ w. Some (exit call (arguments_in l.regs l.phase) (Value w))) m.1;
    }
logs-exit child p l new _ made = absurd (none-some child made)

-- its exit is traced
traces-fork : (o : Options) (call : Sysno) (args : List ℕ) (child : ℕ) → o.follow ≡ true → is_fork_call call ≡ true
    → traces o (Left call args (Ok child)) ≡ true
unfolding traces traced_exits
traces-fork o call args child follow makes =
    let others : ℕ = minus_word o.calls ending_calls in
    ap (λ b. has_number (cond b (with_forks others) others) (syscall_number call)) follow
    ∙ with_forks-has others call makes

-- The event of the turn, where truss watches the process: it is the only one that truss traces of the entry.
pub record ForksTraced (o : Options) (parent child : ℕ) (t : TrussState) (s : TracedState) (e : Entry) : Type 0 where
  pub event : LwpEvent
  pub exits : IsForkExit child event.event
  pub picked_so : picked_of (traces o) parent t s e ≡ event ∷ []

pub forks-traced : (n : ℕ) (o : Options) (parent id child : ℕ) (turned : Turned) (t : TrussState) (s : TracedState)
    → o.follow ≡ true → IsLawful s → IsLegalEntry n s (turn_entry parent id turned) → watches t parent ≡ true
    → child_made turned.did ≡ Some child → ForksTraced o parent child t s (turn_entry parent id turned)
unfolding IsLegalEntry told
forks-traced n o parent id child turned t s follow lawful legal on made =
    let e : Entry = turn_entry parent id turned in
    let d : LwpTurn = record { system = legal.0; turned = turned } in
    let it = turn-taken s.system parent id d legal.1 in
    let new : Option TracedLwp = lwp_alone (lwp_in_state (after s e) parent id) in
    let x = logs-exit child it.process it.lwp new turned.did made in
    let m : MakesProcess child s e = fork-makes n child parent id turned s made lawful legal in
    let later : IsLawful (after s e) = entry-lawful n s e lawful legal in
    let zero : 0 < s.system.made = was-made 0 s.system system_process lawful.system lawful.system.first in
    let ev : Event = Left x.call x.args (Ok child) in
    record {
      event = record { id = id; event = ev };
      exits = record {
        call = x.call;
        makes = x.makes;
        args = x.args;
        is = refl;
        some = λ none. absurd (omega (arith, m.next));
        small = omega (arith, m.made, later.system.made);
      };
      picked_so =
          ap (λ b. picked (traces o) parent (cond b (events_of s e) [])) on
          ∙ turn-picks (traces o) s parent id it.process it.lwp it.live it.there turned
          ∙ ap (λ (y : Option _). listed id (told_of (traces o) y)) x.logs
          ∙ ap (λ b. listed id (cond b (Some ev) None)) (traces-fork o x.call x.args child follow x.makes);
    }
