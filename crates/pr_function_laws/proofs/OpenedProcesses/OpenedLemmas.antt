use Rattle.std.proofs.Common.{◌≡◌, ◌≢◌, ◌<◌, ◌||◌, ◌⊎◌, ℕ, Bool, true, false, cond, is_some, IfOk, Ok, Err, Option, Some, None, List, [], option_map, Result, refl, sym, subst, ap, ◌∙◌, arith, inl, inr}
use Rattle.std.proofs.lemmas.Bool.{cases_eq, false≢true}
use Rattle.std.proofs.lemmas.Option.{none-some, same_Some}
use Rattle.pr_keeps.proofs.MessageLemmas.{message-edit}
use Rattle.pr_keeps.specs.MessageEdits as edit
use Rattle.pr_keeps.specs.MessageEdits.{MessageEdit}
use Rattle.pr_keeps.specs.ProcessEdits as process
use Rattle.pr_keeps.specs.ProcessEdits.{ControlEdit, ProcessEdit, ProcessEdits}
use Rattle.pr_lawful.proofs.ProcessParts.HandleLemmas.{handle-at}
use Rattle.pr_line.specs.declared.options.Options.{Options}
use Rattle.pr_model.specs.Calls.{Answer, answer_to, controlled}
use Rattle.pr_model.specs.Changes.{with_space}
use Rattle.pr_model.specs.ControlMessages.{tail_of}
use Rattle.pr_model.specs.Handles.{handle_of}
use Rattle.pr_model.specs.Lawful.{IsLawful, IsOfMade}
use Rattle.pr_model.specs.Messages.{at_process, message_answer, refused, run_answer, with_agent, with_control, with_process_changed, with_set}
use Rattle.pr_model.specs.Replies.{handle_in, opened_in}
use Rattle.pr_model.specs.Running.{run_refused, with_run}
use Rattle.pr_model.specs.State.{Places, TracedControl, TracedLwp, TracedProcess, TracedState, TracedSystem, has_agent, live_process, lwp_of, with_lwp}
use Rattle.pr_model.specs.declared.calls.Call.{Call}
use Rattle.pr_model.specs.declared.calls.Call.TheVariants as call
use Rattle.pr_model.specs.declared.calls.File.{File}
use Rattle.pr_model.specs.declared.calls.File.TheVariants as file
use Rattle.pr_model.specs.declared.calls.Mode.{Mode}
use Rattle.pr_model.specs.declared.calls.Mode.TheVariants.{Read, WriteExcl}
use Rattle.pr_model.specs.declared.calls.Reply.{Reply}
use Rattle.pr_model.specs.declared.calls.Reply.TheVariants as reply
use Rattle.pr_model.specs.declared.handles.Held.{Held}
use Rattle.pr_num.proofs.ByIdLaws.{under-change_under, under-change_under_other, under-map_each}
use Rattle.pr_num.proofs.SearchLemmas.{All-at}
use Rattle.pr_num.specs.Agents.{agent_id}
use Rattle.pr_num.specs.ById.{change_under, map_each}
use Rattle.pr_num.specs.Control.{fork_mode, rlc_mode}
use Rattle.pr_num.specs.Limits.{all_faults, all_signals}
use Rattle.pr_num.specs.Messages.{first_message, message_code, message_read, nth_word, one_word, operands, spelling}
use Rattle.pr_num.specs.Words.{word_bytes, word_of}
use Rattle.pr_num.specs.declared.errnos.Errno.{Errno}
use Rattle.pr_num.specs.declared.errnos.Errno.TheVariants.{Busy}
use Rattle.pr_num.specs.declared.messages.Message.{Message}
use Rattle.pr_num.specs.declared.messages.Message.TheVariants as message
use Rattle.pr_num.specs.declared.messages.MsgFault.{MsgFault}
use Rattle.pr_report_laws.proofs.Invariant.StandLemmas.{IsThere}
use Rattle.pr_report_laws.proofs.Machine.ControlLaws.{clear-reads, entries-read, exits-read, faults-read, follow-reads, refused-not, release-reads, run-reads, signals-read}
use Rattle.pr_truss.specs.FunctionCalls.{with_copying}
use Rattle.pr_truss.specs.Messages.{all_modes, message_call, traced_entries, traced_exits}
use Rattle.pr_truss.specs.NextCalls.{opening_call}
use Rattle.pr_truss.specs.Openings.{learnt, step_after}
use Rattle.pr_truss.specs.Processes.{last_handle, without_last}
use Rattle.pr_truss.specs.Replies.{answer_of}
use Rattle.pr_truss.specs.declared.processes.Traced.{Traced}
use Rattle.pr_truss.specs.declared.replies.Answer.TheVariants.{Accepted}
use Rattle.pr_truss.specs.declared.stages.OpeningStep.{OpeningStep}
use Rattle.pr_truss.specs.declared.stages.OpeningStep.TheVariants as opening
use Rattle.pr_truss_laws.proofs.Machine.ForeignLemmas.{exclusive-sole}
use Rattle.pr_truss_laws.proofs.Files.OpensLemmas.{Opens, close-closes, held_by, open-opens, own-free, own-mine, own-other, own-set, plain-leaves}
use Rattle.pr_truss_laws.proofs.Machine.OutlastLemmas as outlast
use Rattle.pr_truss_laws.proofs.Machine.OutlastLemmas.{Outlasts, own-call-elsewhere}
use Rattle.pr_truss_laws.proofs.Machine.StillLemmas.{live-changed}
use Rattle.pr_truss_laws.proofs.Machine.TakenLemmas.{ReadsAs, read-as, stop-reads}
use Rattle.pr_truss_laws.specs.Handles.{HasNoOtherWriter}
use Rattle.pr_function_laws.proofs.Stepping.StretchLemmas as stretch
use Rattle.pr_function_laws.proofs.Stepping.StretchLemmas.{Does, message-does}
use Rattle.pr_function_laws.specs.Lifted.{HasControl}
use Rattle.pr_function_laws.specs.Opened.{TracesAll}
use Rattle.pr_function_laws.specs.Stretches.{IsControlOf, acts_by}
use Rattle.pr_function_laws.proofs.OpenedProcesses.TracedSets.{IsAsSet, IsSetBefore, IsSetBy, SetAfter, alone-sets, change_of, entries-word, exits-word, same-sets, set-by-same, step-sets, wrapped}

-- What calls do to the files of one process that truss opens or has opened, and to what truss has set on it.

-- ---- one process

-- a file of it that is open, with its handle
abbrev pub IsFile : ℕ → ℕ → File → ℕ → TracedState → Type 0
IsFile k pid f m s =
    handle_of s.opens k m ≡ Some (record { controller = k; pid = pid; lwp = 0; file = f; mode = Read })

-- past the open of it the status file is known
abbrev pub IsKnown : Option OpeningStep → Option ℕ → Type 0
IsKnown (Some opening.OpenStatus) status = Unit {0}
IsKnown _ status = IsThere status

pub record Holds (k : ℕ) (o : Options) (s : TracedState) (step : Option OpeningStep) (pid control : ℕ)
    (status lstatus memory : Option ℕ) : Type 0 where
  pub its : HasControl k pid control s
  pub its_status : (m : ℕ) → status ≡ Some m → IsFile k pid file.Status m s
  pub its_lstatus : (m : ℕ) → lstatus ≡ Some m → IsFile k pid file.Lstatus m s
  pub its_memory : (m : ℕ) → memory ≡ Some m → IsFile k pid file.Mem m s
  pub known : IsKnown step status
  pub set : (p : TracedProcess) → live_process s.system pid ≡ Some p → IsSetBy o step p

pub holds-less : (k : ℕ) (o : Options) (s : TracedState) (step : Option OpeningStep) (pid control : ℕ)
    (status lstatus memory : Option ℕ) → Holds k o s step pid control status lstatus memory
    → Holds k o s (Some opening.OpenStatus) pid control status lstatus memory
holds-less k o s step pid control status lstatus memory h = record {
  its = h.its;
  its_status = h.its_status;
  its_lstatus = h.its_lstatus;
  its_memory = h.its_memory;
  known = tt;
  set = λ p live. tt;
}

-- what is left of a process of which a file is closed, if something is
abbrev pub LeftFiles : (Option OpeningStep → ℕ → ℕ → Option ℕ → Option ℕ → Option ℕ → Type 0) → Option Traced → ℕ
    → Type 0
LeftFiles P None pid = Unit {0}
LeftFiles P (Some v) pid = P (Some opening.OpenStatus) v.pid v.control v.status v.lstatus v.memory × (v.pid ≡ pid)

-- ---- from one state to a later one

-- the handles of the process stay
abbrev pub KeepsHandles : ℕ → ℕ → TracedState → TracedState → Type 0
KeepsHandles k pid s u =
    (m : ℕ) (held : Held) → handle_of s.opens k m ≡ Some held → held.pid ≡ pid → handle_of u.opens k m ≡ Some held

-- if it lives later, it lived before, with the same sets
pub record KeepsSets (pid : ℕ) (s u : TracedState) : Type 0 where
  pub each : (q : TracedProcess) → live_process u.system pid ≡ Some q
      → (p : TracedProcess) × ((live_process s.system pid ≡ Some p) × IsAsSet p q)

pub holds-goes : (k : ℕ) (o : Options) (s u : TracedState) (step : Option OpeningStep) (pid control : ℕ)
    (status lstatus memory : Option ℕ) → KeepsHandles k pid s u → KeepsSets pid s u
    → Holds k o s step pid control status lstatus memory → Holds k o u step pid control status lstatus memory
holds-goes k o s u step pid control status lstatus memory handles sets h = record {
  its = handles control _ h.its refl;
  its_status = λ m is. handles m _ (h.its_status m is) refl;
  its_lstatus = λ m is. handles m _ (h.its_lstatus m is) refl;
  its_memory = λ m is. handles m _ (h.its_memory m is) refl;
  known = h.known;
  set = λ q live.
      let was = sets.each q live in set-by-same o was.0 q was.1.1 step (h.set was.0 was.1.0);
}

-- a process that others left alone
pub outlasts-sets : (pid : ℕ) (s u : TracedState)
    → ((p : TracedProcess) → live_process s.system pid ≡ Some p → Outlasts pid p u.system)
    → (live_process s.system pid ≡ None → live_process u.system pid ≡ None) → KeepsSets pid s u
outlasts-sets pid s u lasts over = record { each = λ q live. by q live (live_process s.system pid) refl }
  where
    lasted : (q p : TracedProcess) → live_process u.system pid ≡ Some q → live_process s.system pid ≡ Some p
        → Outlasts pid p u.system
        → (p : TracedProcess) × ((live_process s.system pid ≡ Some p) × IsAsSet p q)
    lasted q p live was (outlast.lives r now alone) = (
      p,
      (
        was,
        subst (IsAsSet p) (same_Some r q (sym now ∙ live))
            (alone-sets p r alone),
      ),
    )
    lasted q p live was (outlast.killed z gone there status) = absurd (none-some q (sym gone ∙ live))

    by : (q : TracedProcess) → live_process u.system pid ≡ Some q → (o : Option TracedProcess)
        → live_process s.system pid ≡ o
        → (p : TracedProcess) × ((live_process s.system pid ≡ Some p) × IsAsSet p q)
    by q live None none = absurd (none-some q (sym (over none) ∙ live))
    by q live (Some p) was = lasted q p live was (lasts p was)

pub same-sets-state : (pid : ℕ) (s u : TracedState) → live_process u.system pid ≡ live_process s.system pid
    → KeepsSets pid s u
same-sets-state pid s u same = record {
  each = λ q live.
      (q, (sym same ∙ live, record { sets = same-sets q.control q.control refl; agent = λ none. none }));
}

-- the process was made, and nobody else has it open for writing
pub control-made : (k pid control : ℕ) (s : TracedState) → IsLawful s → HasControl k pid control s → pid < s.system.made
control-made k pid control s lawful its =
    All-at (IsOfMade s.system.made) s.opens control
    (Some (record { controller = k; pid = pid; lwp = 0; file = file.Ctl; mode = WriteExcl }))
    (handle-at s.opens k control _ its) lawful.handles

pub control-sole : (k pid control : ℕ) (s : TracedState) → IsLawful s → HasControl k pid control s
    → HasNoOtherWriter k pid s.opens
control-sole k pid control s lawful its =
    exclusive-sole s k control (record { controller = k; pid = pid; lwp = 0; file = file.Ctl; mode = WriteExcl })
    lawful its refl

-- ---- the call of a step of an opening

abbrev pub opened_call : Options → Traced → OpeningStep → Call
opened_call o u opening.TraceSignals = message_call u.control (message.Strace all_signals)
opened_call o u opening.TraceFaults = message_call u.control (message.Sfault all_faults)
opened_call o u opening.TraceEntries =
    message_call u.control (message.Sentry (with_copying (traced_entries o)))
opened_call o u opening.TraceExits = message_call u.control (message.Sexit (with_copying (traced_exits o)))
opened_call o u step = opening_call o u step

-- ---- a call of truss

-- messages that leave what is set on a process
abbrev pub is_plain : Message → Bool
is_plain message.Stop = true
is_plain (message.Run flags) = true
is_plain message.Cfault = true
is_plain (message.Read at size) = true
is_plain (message.Write at size) = true
is_plain _ = false

abbrev pub BeginWithPlain : List ℕ → Type 0
BeginWithPlain bytes = IfOk (first_message bytes) (λ first. is_plain first.0 ≡ true)

abbrev Parsed : Type 0
Parsed = Result (Message × ℕ) MsgFault

plain-as : (m : Message) (r : Parsed) → is_plain m ≡ true → ReadsAs m r → IfOk r (λ f. is_plain f.0 ≡ true)
plain-as m (Ok first) plain same = ap is_plain same ∙ plain
plain-as m (Err fault) plain same = tt

pub stop-plain : BeginWithPlain (spelling message.Stop [])
stop-plain = plain-as message.Stop (first_message (spelling message.Stop [])) refl stop-reads

pub cfault-plain : BeginWithPlain (spelling message.Cfault [])
unfolding message_code operands nth_word word_bytes word_of message_read
cfault-plain =
    plain-as message.Cfault (first_message (spelling message.Cfault [])) refl
    (read-as (spelling message.Cfault []) message.Cfault refl refl)

pub run-plain : (flags : ℕ) → BeginWithPlain (spelling (message.Run flags) [])
unfolding message_code operands nth_word word_bytes word_of message_read one_word
run-plain flags =
    let bytes : List ℕ = spelling (message.Run flags) [] in
    plain-as (message.Run (nth_word bytes 1)) (first_message bytes) refl
    (read-as bytes (message.Run (nth_word bytes 1)) refl refl)

-- one that leaves the sets and the modes, and makes no agent
pub record LeavesSets (p q : TracedProcess) : Type 0 where
  pub control : q.control ≡ p.control
  pub agent : has_agent q ≡ has_agent p

mapped-agent : (f : TracedLwp → TracedLwp) (o : Option TracedLwp) → is_some (option_map f o) ≡ is_some o
mapped-agent f None = refl
mapped-agent f (Some l) = refl

pub one-agent : (id : ℕ) (f : TracedLwp → TracedLwp) (p : TracedProcess) → has_agent (with_lwp id f p) ≡ has_agent p
unfolding with_lwp
one-agent id f p = elim (cases_eq id agent_id) [
  | inl same ↦ subst (λ n. has_agent (record p { lwps = change_under n f p.lwps }) ≡ has_agent p) (sym same)
      (ap (λ (o : Option TracedLwp). is_some o) (under-change_under agent_id f p.lwps)
      ∙ mapped-agent f (lwp_of p agent_id))
  | inr apart ↦ ap (λ (o : Option TracedLwp). is_some o) (under-change_under_other id agent_id f apart p.lwps)
]

pub each-agent : (f : TracedLwp → TracedLwp) (p : TracedProcess)
    → has_agent (record p { lwps = map_each f p.lwps }) ≡ has_agent p
each-agent f p =
    ap (λ (o : Option TracedLwp). is_some o) (under-map_each agent_id f p.lwps) ∙ mapped-agent f (lwp_of p agent_id)

one-control : (id : ℕ) (f : TracedLwp → TracedLwp) (p : TracedProcess) → (with_lwp id f p).control ≡ p.control
unfolding with_lwp
one-control id f p = refl

plain-control : {m : Message} {c d : TracedControl} → ControlEdit m c d → is_plain m ≡ true → d ≡ c
plain-control process.signals plain = absurd (false≢true plain)
plain-control process.faults plain = absurd (false≢true plain)
plain-control process.entries plain = absurd (false≢true plain)
plain-control process.exits plain = absurd (false≢true plain)
plain-control process.modes plain = absurd (false≢true plain)
plain-control process.fewer_modes plain = absurd (false≢true plain)
plain-control process.unwatches plain = absurd (false≢true plain)
plain-control (process.watches some free few) plain = absurd (false≢true plain)

plain-edit : (m : Message) (tail : List ℕ) (p q : TracedProcess) → is_plain m ≡ true → ProcessEdit m tail p q
    → LeavesSets p q
unfolding with_space
plain-edit m tail p q plain (process.one_lwp id f edits) =
    record { control = one-control id f p; agent = one-agent id f p }
plain-edit m tail p q plain (process.each_lwp f edits) = record { control = refl; agent = each-agent f p }
plain-edit m tail p q plain (process.control_is e) = record { control = plain-control e plain; agent = refl }
plain-edit m tail p q plain (process.takes_back is) = record { control = refl; agent = refl }
plain-edit m tail p q plain (process.gets_agent none few) = absurd (false≢true plain)
plain-edit m tail p q plain (process.is_written own mapped) = record { control = refl; agent = refl }

edit-ended : (m : Message) (tail : List ℕ) (p q : TracedProcess) → ProcessEdit m tail p q → q.ended ≡ p.ended
unfolding with_lwp with_space with_agent
edit-ended m tail p q (process.one_lwp id f edits) = refl
edit-ended m tail p q (process.each_lwp f edits) = refl
edit-ended m tail p q (process.control_is e) = refl
edit-ended m tail p q (process.takes_back is) = refl
edit-ended m tail p q (process.gets_agent none few) = refl
edit-ended m tail p q (process.is_written own mapped) = refl

edits-ended : (m : Message) (tail : List ℕ) (p q : TracedProcess) → ProcessEdits m tail p q → q.ended ≡ p.ended
edits-ended m tail p q process.as_it_is = refl
edits-ended m tail p q (process.then_edit {y = y} before e) =
    edit-ended m tail y q e ∙ edits-ended m tail p y before

plain-edits : (m : Message) (tail : List ℕ) (p q : TracedProcess) → is_plain m ≡ true → ProcessEdits m tail p q
    → LeavesSets p q
plain-edits m tail p q plain process.as_it_is = record { control = refl; agent = refl }
plain-edits m tail p q plain (process.then_edit {y = y} before e) =
    let one = plain-edits m tail p y plain before in
    let two = plain-edit m tail y q plain e in
    record { control = two.control ∙ one.control; agent = two.agent ∙ one.agent }

same-leaves : (p q : TracedProcess) → q ≡ p → LeavesSets p q
same-leaves p q is = record {
  control = ap (λ (x : TracedProcess). x.control) is;
  agent = ap (λ (x : TracedProcess). has_agent x) is;
}

plain-leaves-sets : (s : TracedSystem) (pid : ℕ) (p q : TracedProcess) (m : Message) (tail : List ℕ)
    (u : TracedSystem) → live_process s pid ≡ Some p → is_plain m ≡ true → MessageEdit s pid p m tail u
    → live_process u pid ≡ Some q → LeavesSets p q
plain-leaves-sets s pid p q m tail u live plain edit.nothing later = same-leaves p q (same_Some q p (sym later ∙ live))
plain-leaves-sets s pid p q m tail u live plain (edit.a_process f edits) later =
    let now = live-changed s pid f p live (edits-ended m tail p (f p) edits) in
    let edited = plain-edits m tail p (f p) plain edits in
    subst (LeavesSets p) (same_Some (f p) q (sym now ∙ later)) edited
plain-leaves-sets s pid p q m tail u live plain edit.an_end later = absurd (false≢true plain)
plain-leaves-sets s pid p q m tail u live plain (edit.a_signal target g is room) later = absurd (false≢true plain)

module _ (n k : ℕ) (o : Options) (s : TracedState) (lawful : IsLawful s) (c : Call) (a : Answer)
    (answer : answer_to s k c ≡ Some a)
    (over : (pid : ℕ) → pid < s.system.made → live_process s.system pid ≡ None
    → live_process a.state.system pid ≡ None) where
  -- ---- handles

  open-keeps : (pid target id : ℕ) (f : File) (mode : Mode) → answer_to s k (call.Open target id f mode) ≡ Some a
      → KeepsHandles k pid s a.state
  open-keeps pid target id f mode is m held there own = elim (open-opens s k target id f mode a is) [
    | inl ref ↦ ap (λ (p : Places). handle_of p k m) ref.is ∙ there
    | inr new ↦ elim (cases_eq new.place m) [
      | inl same ↦ absurd
          (none-some held (sym (subst (λ i. handle_of s.opens k i ≡ None) same
          (own-free s.opens k new.place new.free)) ∙ there))
      | inr apart ↦ ap (λ (p : Places). handle_of p k m) new.is
          ∙ own-other s.opens k new.place m (Some (held_by k target id f mode)) apart ∙ there
    ]
  ]

  -- all handles but the one that is closed
  close-keeps : (number : ℕ) → answer_to s k (call.Close number) ≡ Some a → (m : ℕ) (held : Held)
      → handle_of s.opens k m ≡ Some held → number ≢ m → handle_of a.state.opens k m ≡ Some held
  close-keeps number is m held there apart = elim (close-closes s k number a is) [
    | inl none ↦ ap (λ (p : Places). handle_of p k m) none.is ∙ there
    | inr one ↦ (let w = one.1 in ap (λ (p : Places). handle_of p k m) w.is)
        ∙ own-other s.opens k number m None apart ∙ there
  ]

  -- ---- calls that do not act on the process

  module _ (pid : ℕ) (elsewhere : (m : ℕ) (held : Held) → acts_by c ≡ Some m → handle_of s.opens k m ≡ Some held
      → held.pid ≢ pid) where
    handles-by : (d : Call) → c ≡ d → KeepsHandles k pid s a.state
    handles-by (call.Open target id f mode) is m held there own =
        open-keeps pid target id f mode (ap (answer_to s k) (sym is) ∙ answer) m held there own
    handles-by (call.Close number) is m held there own =
        close-keeps number (ap (answer_to s k) (sym is) ∙ answer) m held there
        (λ same. elsewhere number held (ap acts_by is) (ap (handle_of s.opens k) same ∙ there) own)
    handles-by d is m held there own =
        ap (λ (p : Places). handle_of p k m) (plain-leaves s k d a refl (ap (answer_to s k) (sym is) ∙ answer)) ∙ there

    pub elsewhere-goes : (step : Option OpeningStep) (control : ℕ) (status lstatus memory : Option ℕ)
        → Holds k o s step pid control status lstatus memory
        → Holds k o a.state step pid control status lstatus memory
    elsewhere-goes step control status lstatus memory h =
        let made = control-made k pid control s lawful h.its in
        let sole = control-sole k pid control s lawful h.its in
        holds-goes k o s a.state step pid control status lstatus memory (handles-by c refl)
        (outlasts-sets pid s a.state (λ p live.
        own-call-elsewhere s k pid c a p lawful (λ m g named there.
        elsewhere m g (stretch.named-acts n k pid 0 control s lawful sole made c m named) there) answer live)
        (over pid made)) h

  -- ---- messages to the process

  module _ (pid control : ℕ) (bytes : List ℕ) (is : c ≡ call.Ctl control bytes) (its : HasControl k pid control s) where
    sent : answer_to s k (call.Ctl control bytes) ≡ Some a
    sent = ap (answer_to s k) (sym is) ∙ answer

    sent-keeps : KeepsHandles k pid s a.state
    sent-keeps m held there own =
        ap (λ (p : Places). handle_of p k m) (plain-leaves s k (call.Ctl control bytes) a refl sent) ∙ there

    mine : IsControlOf k pid control s
    mine = record {
      held = record { controller = k; pid = pid; lwp = 0; file = file.Ctl; mode = WriteExcl };
      there = its;
      file = refl;
      of = refl;
    }

    pub made : pid < s.system.made
    made = control-made k pid control s lawful its

    pub sole : HasNoOtherWriter k pid s.opens
    sole = control-sole k pid control s lawful its

    pub does : (p : TracedProcess) → live_process s.system pid ≡ Some p
        → Does n k pid 0 control s lawful sole made p bytes a
    does p live = message-does n k pid 0 control s lawful sole made control bytes p a mine live sent

    same-process : (p q : TracedProcess) → a.state.system ≡ s.system → live_process s.system pid ≡ Some p
        → live_process a.state.system pid ≡ Some q → LeavesSets p q
    same-process p q same live later =
        same-leaves p q (same_Some q p (sym later ∙ ap (λ (u : TracedSystem). live_process u pid) same ∙ live))

    -- a message that leaves what is set
    pub plain-process : BeginWithPlain bytes → (p q : TracedProcess) → live_process s.system pid ≡ Some p
        → live_process a.state.system pid ≡ Some q → LeavesSets p q
    plain-process begins p q live later = by (does p live)
      where
        by : Does n k pid 0 control s lawful sole made p bytes a → LeavesSets p q
        by (stretch.refuses errno replied other same) = same-process p q same live later
        by (stretch.does m len first it) =
            plain-leaves-sets s.system pid p q m (tail_of m bytes) _ live
            (subst (λ (r : Parsed). IfOk r (λ f. is_plain f.0 ≡ true)) first begins)
            (message-edit s.system pid p (tail_of m bytes) len at_process m)
            (sym (ap (λ (x : Answer). live_process x.state.system pid) it) ∙ later)

    pub by-process : (E : TracedProcess → TracedProcess → Type 0)
        → ((p q : TracedProcess) → live_process s.system pid ≡ Some p → live_process a.state.system pid ≡ Some q
        → E p q) → (q : TracedProcess) → live_process a.state.system pid ≡ Some q
        → (p : TracedProcess) × ((live_process s.system pid ≡ Some p) × E p q)
    by-process E each q later = by (live_process s.system pid) refl
      where
        by : (x : Option TracedProcess) → live_process s.system pid ≡ x
            → (p : TracedProcess) × ((live_process s.system pid ≡ Some p) × E p q)
        by None none = absurd (none-some q (sym (over pid made none) ∙ later))
        by (Some p) live = (p, (live, each p q live later))

    pub plain-goes : BeginWithPlain bytes → (step : Option OpeningStep) (status lstatus memory : Option ℕ)
        → Holds k o s step pid control status lstatus memory
        → Holds k o a.state step pid control status lstatus memory
    plain-goes begins step status lstatus memory h =
        holds-goes k o s a.state step pid control status lstatus memory sent-keeps
        (record {
          each = by-process IsAsSet (λ p q live later.
              let leaves = plain-process begins p q live later in
              record {
                sets = same-sets p.control q.control leaves.control;
                agent = λ none. leaves.agent ∙ none;
              });
        }) h

    -- PCRUN that is accepted: there was no agent
    pub ran-alone : (flags : ℕ) → ReadsAs (message.Run flags) (first_message bytes) → answer_of a.reply ≡ Accepted
        → (p : TracedProcess) → live_process s.system pid ≡ Some p → has_agent p ≡ false
    unfolding message_answer run_answer run_refused
    ran-alone flags reads accepted p live = by (does p live)
      where
        granted : (len : ℕ) (agent rest : Bool)
            → a ≡ controlled s
            (cond (agent || rest) (refused s.system Busy) (with_process_changed s.system pid p len (with_run flags)))
            → agent ≡ false
        granted len true rest is =
            absurd (refused-not a a.state Busy
            (ap (λ (x : Answer). let y : Answer = record { state = a.state; reply = x.reply } in y) is) accepted)
        granted len false rest is = refl

        by : Does n k pid 0 control s lawful sole made p bytes a → has_agent p ≡ false
        by (stretch.refuses errno replied other same) =
            absurd (refused-not a a.state errno
            (ap (λ (r : Reply). let x : Answer = record { state = a.state; reply = r } in x) replied) accepted)
        by (stretch.does m len first it) =
            let same : m ≡ message.Run flags =
            subst (λ (r : Parsed). IfOk r (λ f. f.0 ≡ message.Run flags)) first reads in
            granted len (has_agent p) _
            (it ∙ ap (λ x. controlled s (message_answer s.system pid p at_process x (tail_of x bytes) len)) same)

    ran-agent : ReadsAs (message.Run 0) (first_message bytes) → answer_of a.reply ≡ Accepted → BeginWithPlain bytes
        → (q : TracedProcess) → live_process a.state.system pid ≡ Some q → has_agent q ≡ false
    ran-agent reads accepted begins q later =
        let was = by-process LeavesSets (λ p x live now. plain-process begins p x live now) q later in
        let leaves = was.1.1 in
        leaves.agent ∙ ran-alone 0 reads accepted was.0 was.1.0

    -- a message that sets something, or is refused
    module _ (msg : Message) (change : TracedControl → TracedControl) (reads : ReadsAs msg (first_message bytes))
        (row : (p : TracedProcess) (tail : List ℕ) (len : ℕ)
        → message_answer s.system pid p at_process msg tail len ≡ with_set s.system pid p len change) where
      changed-ended : (p : TracedProcess) → (with_control change p).ended ≡ p.ended
      unfolding with_control
      changed-ended p = refl

      changed-control : (p : TracedProcess) → (with_control change p).control ≡ change p.control
      unfolding with_control
      changed-control p = refl

      set-process : (p q : TracedProcess) → live_process s.system pid ≡ Some p
          → live_process a.state.system pid ≡ Some q
          → (q.control ≡ change p.control) ⊎ ((q.control ≡ p.control) × (answer_of a.reply ≢ Accepted))
      set-process p q live later = by (does p live)
        where
          by : Does n k pid 0 control s lawful sole made p bytes a
              → (q.control ≡ change p.control) ⊎ ((q.control ≡ p.control) × (answer_of a.reply ≢ Accepted))
          by (stretch.refuses errno replied other same) =
              inr (
                (let leaves = same-process p q same live later in leaves.control),
                refused-not a a.state errno
                    (ap (λ (r : Reply). let x : Answer = record { state = a.state; reply = r } in x) replied),
              )
          by (stretch.does m len first it) =
              let same : m ≡ msg =
              subst (λ (r : Parsed). IfOk r (λ f. f.0 ≡ msg)) first reads in
              let its_row : a ≡ controlled s (with_set s.system pid p len change) =
              it ∙ ap (λ x. controlled s (message_answer s.system pid p at_process x (tail_of x bytes) len)) same
              ∙ ap (controlled s) (row p (tail_of msg bytes) len) in
              let now : live_process a.state.system pid ≡ Some (with_control change p) =
              ap (λ (x : Answer). live_process x.state.system pid) its_row
              ∙ live-changed s.system pid (with_control change) p live (changed-ended p) in
              inl (ap (λ (x : TracedProcess). x.control) (same_Some q (with_control change p) (sym later ∙ now))
              ∙ changed-control p)

    -- a message of an opening
    module _ (step : OpeningStep) (msg : Message) (reads : ReadsAs msg (first_message bytes))
        (row : (p : TracedProcess) (tail : List ℕ) (len : ℕ)
        → message_answer s.system pid p at_process msg tail len ≡ with_set s.system pid p len (change_of o step))
        (status lstatus memory : Option ℕ) (h : Holds k o s (Some step) pid control status lstatus memory) where
      abbrev Went : TracedProcess → Type 0
      Went q =
          IsSetBefore o step q.control
          × (answer_of a.reply ≡ Accepted → SetAfter o (step_after o a.reply step) q.control)

      went-by : (p q : TracedProcess) → live_process s.system pid ≡ Some p
          → (q.control ≡ change_of o step p.control) ⊎ ((q.control ≡ p.control) × (answer_of a.reply ≢ Accepted))
          → Went q
      went-by p q live (inl is) =
          let sets = step-sets o a.reply step p.control (h.set p live) in (
            subst (IsSetBefore o step) (sym is) sets.stays,
            λ accepted. subst (SetAfter o (step_after o a.reply step)) (sym is) sets.more,
          )
      went-by p q live (inr same) =
          (subst (IsSetBefore o step) (sym same.0) (h.set p live), λ accepted. absurd (same.1 accepted))

      went : (q : TracedProcess) → live_process a.state.system pid ≡ Some q → Went q
      went q later =
          let it =
          by-process (λ p x. Went x) (λ p x live now. went-by p x live
          (set-process msg (change_of o step) reads row p x live now)) q later in
          it.1.1

      sent-holds : (next : OpeningStep) → IsKnown (Some next) status
          → ((q : TracedProcess) → live_process a.state.system pid ≡ Some q → IsSetBefore o next q.control)
          → Holds k o a.state (Some next) pid control status lstatus memory
      sent-holds next known set = record {
        its = sent-keeps control _ h.its refl;
        its_status = λ m at. sent-keeps m _ (h.its_status m at) refl;
        its_lstatus = λ m at. sent-keeps m _ (h.its_lstatus m at) refl;
        its_memory = λ m at. sent-keeps m _ (h.its_memory m at) refl;
        known = known;
        set = set;
      }

      set-holds : Holds k o a.state (Some step) pid control status lstatus memory
      set-holds = sent-holds step h.known (λ q later. let w = went q later in w.0)

      set-next : (next : OpeningStep) → IsKnown (Some next) status
          → ((d : TracedControl) → SetAfter o (step_after o a.reply step) d → IsSetBefore o next d)
          → answer_of a.reply ≡ Accepted → Holds k o a.state (Some next) pid control status lstatus memory
      set-next next known more accepted =
          sent-holds next known (λ q later. let w = went q later in more q.control (w.1 accepted))

  -- ---- what is opened

  not-refused : (e : Errno) → a.reply ≡ reply.Fail e → answer_of a.reply ≡ Accepted → ⊥
  not-refused e replied =
      refused-not a a.state e
      (ap (λ (r : Reply). let x : Answer = record { state = a.state; reply = r } in x) replied)

  pub record IsNewFile (pid : ℕ) (f : File) (mode : Mode) : Type 0 where
    pub there : handle_of a.state.opens k (handle_in a.reply) ≡ Some (held_by k pid 0 f mode)
    pub opened : Opens s k (held_by k pid 0 f mode) a.reply a.state.opens

  pub new-file : (pid : ℕ) (f : File) (mode : Mode) → c ≡ call.Open pid 0 f mode → answer_of a.reply ≡ Accepted
      → IsNewFile pid f mode
  unfolding opened_in
  new-file pid f mode is accepted = elim (open-opens s k pid 0 f mode a (ap (answer_to s k) (sym is) ∙ answer)) [
    | inl ref ↦ absurd (not-refused ref.errno ref.reply accepted)
    | inr new ↦ record {
      there = ap (λ (r : Reply). handle_of a.state.opens k (handle_in r)) new.reply
          ∙ ap (λ (p : Places). handle_of p k new.place) new.is
          ∙ own-set s.opens k new.place (Some (held_by k pid 0 f mode)) None new.free
          ∙ own-mine k (held_by k pid 0 f mode) refl;
      opened = new;
    }
  ]

  -- a call that acts on no process
  pub quiet-goes : acts_by c ≡ None → (step : Option OpeningStep) (pid control : ℕ) (status lstatus memory : Option ℕ)
      → Holds k o s step pid control status lstatus memory
      → Holds k o a.state step pid control status lstatus memory
  quiet-goes none step pid control status lstatus memory h =
      elsewhere-goes pid (λ m held acts there. absurd (none-some m (sym none ∙ acts))) step control status lstatus
      memory h

  abbrev pub Of : TracedState → Option OpeningStep → Traced → Type 0
  Of u step v = Holds k o u step v.pid v.control v.status v.lstatus v.memory

  abbrev pub NextOf : OpeningStep → Traced → Type 0
  NextOf step v = Of a.state (step_after o a.reply step) (learnt v a.reply step)

  abbrev pub OpensOn : OpeningStep → Traced → Type 0
  OpensOn step v = Of a.state (Some step) v × (answer_of a.reply ≡ Accepted → NextOf step v)

  pub opening-goes : (v : Traced) (step : OpeningStep) → c ≡ opened_call o v step → o.follow ≡ false
      → Of s (Some step) v
      → OpensOn step v
  unfolding opening_call step_after learnt message_answer
  opening-goes v opening.OpenStatus is follow h =
      let here : Of a.state (Some opening.OpenStatus) v = quiet-goes (ap acts_by is) (Some opening.OpenStatus) v.pid
      v.control _ _ _ h in (
        here,
        λ accepted.
            let new = new-file v.pid file.Status Read is accepted in
            record {
              its = here.its;
              its_status = λ m at.
                  subst (λ i. IsFile k v.pid file.Status i a.state) (same_Some (handle_in a.reply) m at) new.there;
              its_lstatus = here.its_lstatus;
              its_memory = here.its_memory;
              known = record { number = handle_in a.reply; is = refl };
              set = λ q live. tt;
            },
      )
  opening-goes v opening.OpenLstatus is follow h =
      let here : Of a.state (Some opening.OpenLstatus) v =
      quiet-goes (ap acts_by is) (Some opening.OpenLstatus) v.pid v.control _ _ _ h in (
        here,
        λ accepted.
            let new = new-file v.pid file.Lstatus Read is accepted in
            record {
              its = here.its;
              its_status = here.its_status;
              its_lstatus = λ m at.
                  subst (λ i. IsFile k v.pid file.Lstatus i a.state) (same_Some (handle_in a.reply) m at) new.there;
              its_memory = here.its_memory;
              known = here.known;
              set = λ q live. tt;
            },
      )
  opening-goes v opening.OpenMemory is follow h =
      let here : Of a.state (Some opening.OpenMemory) v =
      quiet-goes (ap acts_by is) (Some opening.OpenMemory) v.pid v.control _ _ _ h in (
        here,
        λ accepted.
            let new = new-file v.pid file.Mem Read is accepted in
            record {
              its = here.its;
              its_status = here.its_status;
              its_lstatus = here.its_lstatus;
              its_memory = λ m at.
                  subst (λ i. IsFile k v.pid file.Mem i a.state) (same_Some (handle_in a.reply) m at) new.there;
              known = here.known;
              set = λ q live. tt;
            },
      )
  opening-goes v opening.ClearModes is follow h =
      let bytes : List ℕ = spelling (message.Unset all_modes) [] in (
        set-holds v.pid v.control bytes is h.its opening.ClearModes (message.Unset all_modes) clear-reads
            (λ p tail len. refl) _ _ _ h,
        set-next v.pid v.control bytes is h.its opening.ClearModes (message.Unset all_modes) clear-reads
            (λ p tail len. refl) _ _ _ h opening.SetRelease h.known (λ d set. set),
      )
  opening-goes v opening.SetRelease is follow h =
      let bytes : List ℕ = spelling (message.Set rlc_mode) [] in (
        set-holds v.pid v.control bytes is h.its opening.SetRelease (message.Set rlc_mode) release-reads
            (λ p tail len. refl) _ _ _ h,
        set-next v.pid v.control bytes is h.its opening.SetRelease (message.Set rlc_mode) release-reads
            (λ p tail len. refl) _ _ _ h opening.Stop h.known (λ d set. set),
      )
  opening-goes v opening.Stop is follow h =
      let here : Of a.state (Some opening.Stop) v =
      plain-goes v.pid v.control (spelling message.Stop []) is h.its stop-plain (Some opening.Stop) _ _ _ h in
      (here, λ accepted. again here)
    where
      again : Of a.state (Some opening.Stop) v → NextOf opening.Stop v
      again w = record {
        its = w.its;
        its_status = w.its_status;
        its_lstatus = w.its_lstatus;
        its_memory = w.its_memory;
        known = w.known;
        set = w.set;
      }
  opening-goes v (opening.AwaitStop until) is follow h =
      let here : Of a.state (Some (opening.AwaitStop until)) v =
      quiet-goes (ap acts_by is) (Some (opening.AwaitStop until)) v.pid v.control _ _ _ h in (
        here,
        λ accepted. record {
          its = here.its;
          its_status = here.its_status;
          its_lstatus = here.its_lstatus;
          its_memory = here.its_memory;
          known = here.known;
          set = here.set;
        },
      )
  opening-goes v opening.ReadLwps is follow h =
      let here : Of a.state (Some opening.ReadLwps) v =
      quiet-goes (ap acts_by is) (Some opening.ReadLwps) v.pid v.control _ _ _ h in (
        here,
        λ accepted. record {
          its = here.its;
          its_status = here.its_status;
          its_lstatus = here.its_lstatus;
          its_memory = here.its_memory;
          known = here.known;
          set = here.set;
        },
      )
  opening-goes v opening.TraceSignals is follow h =
      let bytes : List ℕ = spelling (message.Strace all_signals) [] in
      let reads : ReadsAs (message.Strace all_signals) (first_message bytes) =
      subst (λ w. ReadsAs (message.Strace w) (first_message bytes)) (wrapped all_signals (omega arith))
      (signals-read all_signals) in (
        set-holds v.pid v.control bytes is h.its opening.TraceSignals (message.Strace all_signals) reads
            (λ p tail len. refl) _ _ _ h,
        set-next v.pid v.control bytes is h.its opening.TraceSignals (message.Strace all_signals) reads
            (λ p tail len. refl) _ _ _ h opening.TraceFaults h.known (λ d set. set),
      )
  opening-goes v opening.TraceFaults is follow h =
      let bytes : List ℕ = spelling (message.Sfault all_faults) [] in
      let reads : ReadsAs (message.Sfault all_faults) (first_message bytes) =
      subst (λ w. ReadsAs (message.Sfault w) (first_message bytes)) (wrapped all_faults (omega arith))
      (faults-read all_faults) in (
        set-holds v.pid v.control bytes is h.its opening.TraceFaults (message.Sfault all_faults) reads
            (λ p tail len. refl) _ _ _ h,
        set-next v.pid v.control bytes is h.its opening.TraceFaults (message.Sfault all_faults) reads
            (λ p tail len. refl) _ _ _ h opening.TraceEntries h.known (λ d set. set),
      )
  opening-goes v opening.TraceEntries is follow h =
      let word : ℕ = with_copying (traced_entries o) in
      let bytes : List ℕ = spelling (message.Sentry word) [] in
      let reads : ReadsAs (message.Sentry word) (first_message bytes) =
      subst (λ w. ReadsAs (message.Sentry w) (first_message bytes)) (wrapped word (entries-word o))
      (entries-read word) in (
        set-holds v.pid v.control bytes is h.its opening.TraceEntries (message.Sentry word) reads
            (λ p tail len. refl) _ _ _ h,
        set-next v.pid v.control bytes is h.its opening.TraceEntries (message.Sentry word) reads
            (λ p tail len. refl) _ _ _ h opening.TraceExits h.known (λ d set. set),
      )
  opening-goes v opening.TraceExits is follow h =
      let word : ℕ = with_copying (traced_exits o) in
      let bytes : List ℕ = spelling (message.Sexit word) [] in
      let reads : ReadsAs (message.Sexit word) (first_message bytes) =
      subst (λ w. ReadsAs (message.Sexit w) (first_message bytes)) (wrapped word (exits-word o follow))
      (exits-read word) in (
        set-holds v.pid v.control bytes is h.its opening.TraceExits (message.Sexit word) reads
            (λ p tail len. refl) _ _ _ h,
        λ accepted. by o.follow
            (λ next known more.
            set-next v.pid v.control bytes is h.its opening.TraceExits (message.Sexit word) reads
            (λ p tail len. refl) _ _ _ h next known more accepted),
      )
    where
      whole : (d : TracedControl) → SetAfter o (Some (cond o.follow opening.Follow opening.Start)) d → TracesAll o d
      whole d set = subst (λ b. SetAfter o (Some (cond b opening.Follow opening.Start)) d) follow set

      by : (b : Bool)
          → ((next : OpeningStep) → IsKnown (Some next) v.status
          → ((d : TracedControl) → SetAfter o (Some (cond o.follow opening.Follow opening.Start)) d
          → IsSetBefore o next d) → Of a.state (Some next) v)
          → Of a.state (Some (cond b opening.Follow opening.Start)) v
      by true goes = goes opening.Follow h.known (λ d set. whole d set)
      by false goes = goes opening.Start h.known (λ d set. whole d set)
  opening-goes v opening.Follow is follow h =
      let bytes : List ℕ = spelling (message.Set fork_mode) [] in (
        set-holds v.pid v.control bytes is h.its opening.Follow (message.Set fork_mode) follow-reads
            (λ p tail len. refl) _ _ _ h,
        set-next v.pid v.control bytes is h.its opening.Follow (message.Set fork_mode) follow-reads
            (λ p tail len. refl) _ _ _ h opening.Start h.known (λ d set. set),
      )
  opening-goes v opening.Start is follow h =
      let here : Of a.state (Some opening.Start) v =
      plain-goes v.pid v.control (spelling (message.Run 0) []) is h.its (run-plain 0) (Some opening.Start) _ _ _ h in (
        here,
        λ accepted. record {
          its = here.its;
          its_status = here.its_status;
          its_lstatus = here.its_lstatus;
          its_memory = here.its_memory;
          known = here.known;
          set = λ q later.
              let ran =
              ran-agent v.pid v.control (spelling (message.Run 0) []) is h.its run-reads accepted (run-plain 0) q
              later in
              (here.set q later, ran);
        },
      )

  -- ---- what is closed

  -- two handles of files that differ
  differ : (m x : ℕ) (g held : Held) → handle_of s.opens k m ≡ Some g → handle_of s.opens k x ≡ Some held
      → g.file ≢ held.file → m ≢ x
  differ m x g held here there other same =
      other (ap (λ (y : Held). y.file) (same_Some g held (sym here ∙ ap (handle_of s.opens k) same ∙ there)))

  pub record IsOfProcess (pid m : ℕ) : Type 0 where
    pub its_file : File
    pub its_mode : Mode
    pub there : handle_of s.opens k m ≡ Some (held_by k pid 0 its_file its_mode)

  last-fields : (u : Traced) (memory lstatus status : Option ℕ)
      → Holds k o s (Some opening.OpenStatus) u.pid u.control status lstatus memory
      → IsOfProcess u.pid (last_handle (record u { memory = memory; lstatus = lstatus; status = status }))
  unfolding last_handle
  last-fields u (Some m) lstatus status h =
      record { its_file = file.Mem; its_mode = Read; there = h.its_memory m refl }
  last-fields u None (Some m) status h =
      record { its_file = file.Lstatus; its_mode = Read; there = h.its_lstatus m refl }
  last-fields u None None (Some m) h =
      record { its_file = file.Status; its_mode = Read; there = h.its_status m refl }
  last-fields u None None None h = record { its_file = file.Ctl; its_mode = WriteExcl; there = h.its }

  pub last-own : (u : Traced) → Of s (Some opening.OpenStatus) u → IsOfProcess u.pid (last_handle u)
  last-own u h = last-fields u u.memory u.lstatus u.status h

  none-at : {A : Type 0} (m : ℕ) → None ≡ Some m → A
  none-at m is = absurd (none-some m is)

  left-fields : (u : Traced) (memory lstatus status : Option ℕ)
      → c ≡ call.Close (last_handle (record u { memory = memory; lstatus = lstatus; status = status }))
      → Holds k o s (Some opening.OpenStatus) u.pid u.control status lstatus memory
      → LeftFiles (Holds k o a.state)
      (without_last (record u { memory = memory; lstatus = lstatus; status = status })) u.pid
  unfolding last_handle without_last
  left-fields u (Some m) lstatus status is h =
      let closes : answer_to s k (call.Close m) ≡ Some a = ap (answer_to s k) (sym is) ∙ answer in
      let mine = h.its_memory m refl in (
        record {
          its = close-keeps m closes u.control _ h.its
              (differ m u.control _ _ mine h.its (λ (same : file.Mem ≡ file.Ctl). cc));
          its_status = λ i at.
              let its = h.its_status i at in
              close-keeps m closes i _ its (differ m i _ _ mine its (λ (same : file.Mem ≡ file.Status). cc));
          its_lstatus = λ i at.
              let its = h.its_lstatus i at in
              close-keeps m closes i _ its (differ m i _ _ mine its (λ (same : file.Mem ≡ file.Lstatus). cc));
          its_memory = λ i at. none-at i at;
          known = tt;
          set = λ p live. tt;
        },
        refl,
      )
  left-fields u None (Some m) status is h =
      let closes : answer_to s k (call.Close m) ≡ Some a = ap (answer_to s k) (sym is) ∙ answer in
      let mine = h.its_lstatus m refl in (
        record {
          its = close-keeps m closes u.control _ h.its
              (differ m u.control _ _ mine h.its (λ (same : file.Lstatus ≡ file.Ctl). cc));
          its_status = λ i at.
              let its = h.its_status i at in
              close-keeps m closes i _ its (differ m i _ _ mine its (λ (same : file.Lstatus ≡ file.Status). cc));
          its_lstatus = λ i at. none-at i at;
          its_memory = λ i at. none-at i at;
          known = tt;
          set = λ p live. tt;
        },
        refl,
      )
  left-fields u None None (Some m) is h =
      let closes : answer_to s k (call.Close m) ≡ Some a = ap (answer_to s k) (sym is) ∙ answer in
      let mine = h.its_status m refl in (
        record {
          its = close-keeps m closes u.control _ h.its
              (differ m u.control _ _ mine h.its (λ (same : file.Status ≡ file.Ctl). cc));
          its_status = λ i at. none-at i at;
          its_lstatus = λ i at. none-at i at;
          its_memory = λ i at. none-at i at;
          known = tt;
          set = λ p live. tt;
        },
        refl,
      )
  left-fields u None None None is h = tt

  pub left-holds : (u : Traced) → c ≡ call.Close (last_handle u) → Of s (Some opening.OpenStatus) u
      → LeftFiles (Holds k o a.state) (without_last u) u.pid
  left-holds u is h = left-fields u u.memory u.lstatus u.status is h
