use Rattle.std.proofs.Common.{◌≡◌, ◌≢◌, ◌<◌, ◌%◌, ◌^◌, ℕ, Bool, true, false, cond, IfOk, Ok, Some, None, Option, Result, List, [], refl, sym, subst, ap, ◌∙◌}
use Rattle.std.proofs.lemmas.Bool.{false≢true}
use Rattle.std.proofs.lemmas.Option.{none-some, same_Some}
use Rattle.pr_function_laws.proofs.OpenedProcesses.OpenedLemmas.{does, made, sole}
use Rattle.pr_function_laws.proofs.OpenedProcesses.StoodCalls.{BeginLeavingLwps, KeepsLwps, leaves-as, leaves_lwps, message-lwps}
use Rattle.pr_function_laws.proofs.Stepping.StretchLemmas as stretch
use Rattle.pr_function_laws.proofs.Stepping.StretchLemmas.{Does}
use Rattle.pr_function_laws.specs.Lifted.{HasControl}
use Rattle.pr_lawful.proofs.LawfulTurns.EndLemmas.{found-live}
use Rattle.pr_line.specs.declared.options.Options.{Options}
use Rattle.pr_model.specs.Calls.{Answer, answer_to, controlled}
use Rattle.pr_model.specs.ControlMessages.{tail_of}
use Rattle.pr_model.specs.Handles.{handle_of, is_writable}
use Rattle.pr_model.specs.Lawful.{IsLawful}
use Rattle.pr_model.specs.Messages.{at_process, message_answer, refused, run_answer, with_aim_directed, with_process_changed}
use Rattle.pr_model.specs.Running.{run_refused, with_run}
use Rattle.pr_model.specs.State.{TracedProcess, TracedState, TracedSystem, live_process}
use Rattle.pr_model.specs.Stops.{with_all_directed}
use Rattle.pr_model.specs.declared.calls.Call.{Call}
use Rattle.pr_model.specs.declared.calls.Call.TheVariants as call
use Rattle.pr_model.specs.declared.calls.File.TheVariants as file
use Rattle.pr_model.specs.declared.calls.Mode.TheVariants.{WriteExcl}
use Rattle.pr_model.specs.declared.calls.Reply.{Reply}
use Rattle.pr_model.specs.declared.handles.Held.{Held}
use Rattle.pr_num.specs.ById.{under}
use Rattle.pr_num.specs.Control.{fork_mode}
use Rattle.pr_num.specs.Limits.{all_faults, all_signals}
use Rattle.pr_num.specs.Messages.{first_message, spelling}
use Rattle.pr_num.specs.declared.errnos.Errno.TheVariants.{Busy}
use Rattle.pr_num.specs.declared.messages.Message.{Message}
use Rattle.pr_num.specs.declared.messages.Message.TheVariants as message
use Rattle.pr_num.specs.declared.messages.MsgFault.{MsgFault}
use Rattle.pr_report_laws.proofs.Machine.ControlLaws.{entries-read, exits-read, faults-read, follow-reads, run-reads, signals-read, stop-asked}
use Rattle.pr_truss.specs.FunctionCalls.{function_call_of, with_copying}
use Rattle.pr_truss.specs.Messages.{message_call, traced_entries, traced_exits}
use Rattle.pr_truss.specs.NextCalls.{call_of, opening_call}
use Rattle.pr_truss.specs.Openings.{step_after}
use Rattle.pr_truss.specs.Replies.{answer_of}
use Rattle.pr_truss.specs.Trusses.{TrussState, traced_at}
use Rattle.pr_truss.specs.declared.processes.Traced.{Traced}
use Rattle.pr_truss.specs.declared.replies.Answer.TheVariants.{Accepted}
use Rattle.pr_truss.specs.declared.stages.OpeningStep.{OpeningStep}
use Rattle.pr_truss.specs.declared.stages.OpeningStep.TheVariants as opening
use Rattle.pr_truss.specs.declared.stages.Stage.TheVariants.{Opening}
use Rattle.pr_truss_laws.proofs.Machine.ForeignLemmas.{call-passes, names}
use Rattle.pr_truss_laws.proofs.Machine.HaltLemmas.{HaltsOn, goes_on, killed, outlasts-halts}
use Rattle.pr_truss_laws.proofs.Machine.OutlastLemmas.{outlasts}
use Rattle.pr_truss_laws.proofs.EventStops.OwnTurnLemmas.{all-directed}
use Rattle.pr_truss_laws.proofs.Machine.StillLemmas.{live-changed}
use Rattle.pr_truss_laws.proofs.Machine.TakenLemmas.{ReadsAs}
use Rattle.pr_truss_laws.specs.Stills.{IsHalting}

-- Once truss has directed a process that it opens to stop, each lwp of it stands still or will stop, until truss runs
-- it or closes its control file.

abbrev Parsed : Type 0
Parsed = Result (Message × ℕ) MsgFault

-- so it is of the process of an id, if it lives
abbrev pub HaltsIn : TracedState → ℕ → Type 0
HaltsIn s pid = (p : TracedProcess) → live_process s.system pid ≡ Some p → IsHalting p

-- whether that is so before a step of its opening
abbrev pub is_halted : OpeningStep → Bool
is_halted opening.OpenStatus = false
is_halted opening.OpenLstatus = false
is_halted opening.OpenMemory = false
is_halted opening.ClearModes = false
is_halted opening.SetRelease = false
is_halted opening.Stop = false
is_halted step = true

-- a process with the same lwps
same-halting : (p q : TracedProcess) → q.lwps ≡ p.lwps → IsHalting p → IsHalting q
same-halting p q same h =
    record { each = λ id l there. h.each id l (ap (under id) (sym same) ∙ there) }

-- ---- messages

-- messages that leave the lwps as they are, or direct them to stop
abbrev pub keeps_halting : Message → Bool
keeps_halting message.Stop = true
keeps_halting m = leaves_lwps m

module _ (n k : ℕ) (o : Options) (s : TracedState) (lawful : IsLawful s) (c : Call) (a : Answer)
    (answer : answer_to s k c ≡ Some a)
    (over : (pid : ℕ) → pid < s.system.made → live_process s.system pid ≡ None
    → live_process a.state.system pid ≡ None) where
  -- what is so of a process that lives before and later
  later-so : (pid : ℕ) → pid < s.system.made
      → ((p q : TracedProcess) → live_process s.system pid ≡ Some p → live_process a.state.system pid ≡ Some q
      → IsHalting q) → HaltsIn a.state pid
  later-so pid born each q later = by (live_process s.system pid) refl
    where
      by : (x : Option TracedProcess) → live_process s.system pid ≡ x → IsHalting q
      by None none = absurd (none-some q (sym (over pid born none) ∙ later))
      by (Some p) live = each p q live later

  module _ (u : Traced) (bytes : List ℕ) (is : c ≡ call.Ctl u.control bytes) (its : HasControl k u.pid u.control s)
    where
      its-made : u.pid < s.system.made
      its-made = made n k o s lawful c a answer over u.pid u.control bytes is its

      abbrev DoesTo : TracedProcess → Type 0
      DoesTo p =
          Does n k u.pid 0 u.control s lawful (sole n k o s lawful c a answer over u.pid u.control bytes is its)
          (made n k o s lawful c a answer over u.pid u.control bytes is its) p bytes a

      done : (p : TracedProcess) → live_process s.system u.pid ≡ Some p → DoesTo p
      done p live = does n k o s lawful c a answer over u.pid u.control bytes is its p live

      module _ (p q : TracedProcess) (live : live_process s.system u.pid ≡ Some p)
          (later : live_process a.state.system u.pid ≡ Some q) (halting : IsHalting p) where
        unchanged : a.state.system ≡ s.system → IsHalting q
        unchanged same =
            subst IsHalting
            (same_Some p q (sym live ∙ ap (λ (x : TracedSystem). live_process x u.pid) (sym same) ∙ later)) halting

        leaving-process : BeginLeavingLwps bytes → IsHalting q
        leaving-process begins =
            let keeps : KeepsLwps p q =
            message-lwps n k o s lawful c a answer over u bytes is its p q live later begins in
            same-halting p q keeps.lwps halting

        by-message : (m : Message) (len : ℕ) → first_message bytes ≡ Ok (m, len) → keeps_halting m ≡ true
            → a ≡ controlled s (message_answer s.system u.pid p at_process m (tail_of m bytes) len) → IsHalting q
        unfolding message_answer with_aim_directed with_all_directed
        by-message message.Stop len first keeps it =
            let now : live_process a.state.system u.pid ≡ Some (with_all_directed p) =
            ap (λ (x : Answer). live_process x.state.system u.pid) it
            ∙ live-changed s.system u.pid with_all_directed p live refl in
            subst IsHalting (same_Some (with_all_directed p) q (sym now ∙ later)) (all-directed p)
        by-message m len first keeps it =
            leaving-process
            (subst (λ (r : Parsed). IfOk r (λ f. leaves_lwps f.0 ≡ true)) (sym first) keeps)

        sent-process : ((m : Message) (len : ℕ) → first_message bytes ≡ Ok (m, len) → keeps_halting m ≡ true)
            → IsHalting q
        sent-process begins = by (done p live)
          where
            by : DoesTo p → IsHalting q
            by (stretch.refuses errno replied other same) = unchanged same
            by (stretch.does m len first it) = by-message m len first (begins m len first) it

        -- PCRUN that is refused
        run-process : ReadsAs (message.Run 0) (first_message bytes) → answer_of a.reply ≢ Accepted → IsHalting q
        unfolding message_answer run_answer answer_of
        run-process reads other = by (done p live)
          where
            granted : (len : ℕ) (refuses : Bool)
                → a ≡ controlled s
                (cond refuses (refused s.system Busy) (with_process_changed s.system u.pid p len (with_run 0)))
                → IsHalting q
            granted len true it = unchanged (ap (λ (x : Answer). x.state.system) it)
            granted len false it = absurd (other (ap (λ (x : Answer). answer_of x.reply) it))

            by : DoesTo p → IsHalting q
            by (stretch.refuses errno replied apart same) = unchanged same
            by (stretch.does m len first it) =
                let same : m ≡ message.Run 0 =
                subst (λ (r : Parsed). IfOk r (λ f. f.0 ≡ message.Run 0)) first reads in
                granted len (run_refused p)
                (it ∙ ap (λ x. controlled s (message_answer s.system u.pid p at_process x (tail_of x bytes) len)) same)

      pub leaving-halts : BeginLeavingLwps bytes → HaltsIn s u.pid → HaltsIn a.state u.pid
      leaving-halts begins h =
          later-so u.pid its-made (λ p q live later. leaving-process p q live later (h p live) begins)

      pub sent-halts : ((m : Message) (len : ℕ) → first_message bytes ≡ Ok (m, len) → keeps_halting m ≡ true)
          → HaltsIn s u.pid → HaltsIn a.state u.pid
      sent-halts begins h =
          later-so u.pid its-made (λ p q live later. sent-process p q live later (h p live) begins)

      run-halts : ReadsAs (message.Run 0) (first_message bytes) → answer_of a.reply ≢ Accepted → HaltsIn s u.pid
          → HaltsIn a.state u.pid
      run-halts reads other h =
          later-so u.pid its-made (λ p q live later. run-process p q live later (h p live) reads other)

  -- ---- other calls

  -- a call that writes to no handle of the process, and closes none for writing
  pub passes-halts : (pid : ℕ) → pid < s.system.made
      → ((m : ℕ) (g : Held) → names c m ≡ true → handle_of s.opens k m ≡ Some g → is_writable g.mode ≡ true
      → g.pid ≢ pid) → HaltsIn s pid → HaltsIn a.state pid
  passes-halts pid made_so apart h = later-so pid made_so (λ p q live later. each p q live later)
    where
      each : (p q : TracedProcess) → live_process s.system pid ≡ Some p → live_process a.state.system pid ≡ Some q
          → IsHalting q
      each p q live later =
          by (outlasts-halts pid p a.state.system (h p live)
          (outlasts s.system a.state.system pid p live
          (call-passes s k pid lawful p (found-live s.system pid p live).0 c a
          (λ m named g held writes. apart m g named held writes) answer)))
        where
          by : HaltsOn pid p a.state.system → IsHalting q
          by (goes_on x there halting memory) = subst IsHalting (same_Some x q (sym there ∙ later)) halting
          by (killed z none stands status) = absurd (none-some q (sym none ∙ later))

  -- ---- a step of an opening

  module _ (v : Traced) (its : HasControl k v.pid v.control s) where
    abbrev held : Held
    held = record { controller = k; pid = v.pid; lwp = 0; file = file.Ctl; mode = WriteExcl }

    -- the stop is asked for
    pub stop-halts : c ≡ message_call v.control message.Stop → answer_of a.reply ≡ Accepted → HaltsIn a.state v.pid
    stop-halts is accepted =
        later-so v.pid (its-made v (spelling message.Stop []) is its) (λ p q live later.
        let st = stop-asked s k v.control held its refl p live a (ap (answer_to s k) (sym is) ∙ answer) accepted in
        subst IsHalting (same_Some st.process q (sym st.live ∙ later)) st.halting)

    set-halts : (m : Message) → Some (message_call v.control m) ≡ Some c → BeginLeavingLwps (spelling m [])
        → HaltsIn s v.pid → HaltsIn a.state v.pid
    set-halts m is begins = leaving-halts v (spelling m []) (sym (same_Some _ c is)) its begins

    look-halts : v.pid < s.system.made → (d : Call) → Some d ≡ Some c → ((m : ℕ) → names d m ≡ false)
        → HaltsIn s v.pid → HaltsIn a.state v.pid
    look-halts made_so d is none =
        passes-halts v.pid made_so (λ m g named held writes.
        absurd (false≢true (sym (none m) ∙ ap (λ (x : Call). names x m) (same_Some d c is) ∙ named)))

  -- any step but a start that is granted
  pub step-halts : (t : TrussState) (q : ℕ) (step : OpeningStep)
      → HasControl k (traced_at t q).pid (traced_at t q).control s → (traced_at t q).pid < s.system.made
      → function_call_of t (Opening q step) ≡ Some c → is_halted step ≡ true
      → (step ≡ opening.Start → answer_of a.reply ≢ Accepted) → HaltsIn s (traced_at t q).pid
      → HaltsIn a.state (traced_at t q).pid
  unfolding function_call_of call_of opening_call
  step-halts t q (opening.AwaitStop until) its made_so is halted unless =
      look-halts (traced_at t q) its made_so _ is (λ m. refl)
  step-halts t q opening.ReadLwps its made_so is halted unless =
      look-halts (traced_at t q) its made_so _ is (λ m. refl)
  step-halts t q opening.TraceSignals its made_so is halted unless =
      set-halts (traced_at t q) its (message.Strace all_signals) is
      (leaves-as (message.Strace (all_signals % 2 ^ 64)) _ refl (signals-read all_signals))
  step-halts t q opening.TraceFaults its made_so is halted unless =
      set-halts (traced_at t q) its (message.Sfault all_faults) is
      (leaves-as (message.Sfault (all_faults % 2 ^ 64)) _ refl (faults-read all_faults))
  step-halts t q opening.TraceEntries its made_so is halted unless =
      let word : ℕ = with_copying (traced_entries t.options) in
      set-halts (traced_at t q) its (message.Sentry word) is
      (leaves-as (message.Sentry (word % 2 ^ 64)) _ refl (entries-read word))
  step-halts t q opening.TraceExits its made_so is halted unless =
      let word : ℕ = with_copying (traced_exits t.options) in
      set-halts (traced_at t q) its (message.Sexit word) is
      (leaves-as (message.Sexit (word % 2 ^ 64)) _ refl (exits-read word))
  step-halts t q opening.Follow its made_so is halted unless =
      set-halts (traced_at t q) its (message.Set fork_mode) is
      (leaves-as (message.Set fork_mode) _ refl follow-reads)
  step-halts t q opening.Start its made_so is halted unless =
      run-halts (traced_at t q) (spelling (message.Run 0) []) (sym (same_Some _ c is)) its run-reads (unless refl)
  step-halts t q _ its made_so is halted unless = absurd (false≢true halted)

-- ---- what comes after a step

-- Behind the stop the process halts; else it stands as before the step, which is not the start.
pub data Follows (step next : OpeningStep) : Type 0 where
  stops : step ≡ opening.Stop → is_halted next ≡ true → Follows step next
  goes : step ≢ opening.Start → is_halted next ≡ is_halted step → Follows step next

pub follows : (o : Options) (r : Reply) (step next : OpeningStep) → step_after o r step ≡ Some next → Follows step next
unfolding step_after
follows o r opening.OpenStatus next is = goes (λ e. cc) (ap is_halted (sym (same_Some _ next is)))
follows o r opening.OpenLstatus next is = goes (λ e. cc) (ap is_halted (sym (same_Some _ next is)))
follows o r opening.OpenMemory next is = goes (λ e. cc) (ap is_halted (sym (same_Some _ next is)))
follows o r opening.ClearModes next is = goes (λ e. cc) (ap is_halted (sym (same_Some _ next is)))
follows o r opening.SetRelease next is = goes (λ e. cc) (ap is_halted (sym (same_Some _ next is)))
follows o r opening.Stop next is = stops refl (ap is_halted (sym (same_Some _ next is)))
follows o r (opening.AwaitStop until) next is = goes (λ e. cc) (ap is_halted (sym (same_Some _ next is)))
follows o r opening.ReadLwps next is = goes (λ e. cc) (ap is_halted (sym (same_Some _ next is)))
follows o r opening.TraceSignals next is = goes (λ e. cc) (ap is_halted (sym (same_Some _ next is)))
follows o r opening.TraceFaults next is = goes (λ e. cc) (ap is_halted (sym (same_Some _ next is)))
follows o r opening.TraceEntries next is = goes (λ e. cc) (ap is_halted (sym (same_Some _ next is)))
follows o r opening.TraceExits next is = goes (λ e. cc) (ap is_halted (sym (same_Some _ next is)) ∙ either o.follow)
  where
    either : (b : Bool) → is_halted (cond b opening.Follow opening.Start) ≡ true
    either true = refl
    either false = refl
follows o r opening.Follow next is = goes (λ e. cc) (ap is_halted (sym (same_Some _ next is)))
follows o r opening.Start next is = absurd (none-some next is)
