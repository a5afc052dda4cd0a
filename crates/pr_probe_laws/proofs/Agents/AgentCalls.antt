use Rattle.std.proofs.Common.{slice_get, zero, suc, ◌≡◌, ◌≢◌, ◌==◌, ◌∷◌, ℕ, Bool, true, false, cond, List, [], Option, Some, None, Ok, Err, is_some, refl, sym, ap, ◌∙◌}
use Rattle.std.proofs.lemmas.Option.{same_Some}
use Rattle.pr_model.specs.Calls.{Answer, answer_to, controlled, control_ready, is_handle_ready}
use Rattle.pr_model.specs.ControlMessages.{control_answer, control_handle, decoded_answer, held_answer, still_there, system_refusal, tail_of, target_of, target_stopped, targeted_answer}
use Rattle.pr_model.specs.Handles.{handle_of}
use Rattle.pr_model.specs.Messages.{aimed_lwp, at_lwp, found_at, message_answer, on_stopped_found, refused, run_answer, run_found, with_process_changed, with_registers}
use Rattle.pr_model.specs.Running.{lwp_run_refused, run_lwp}
use Rattle.pr_model.specs.State.{TracedLwp, TracedProcess, TracedState, live_process, lwp_of, with_lwp}
use Rattle.pr_model.specs.Stops.{has_event_stop, stands_on_event}
use Rattle.pr_model.specs.declared.calls.Call.TheVariants as call
use Rattle.pr_model.specs.declared.calls.File.TheVariants as file
use Rattle.pr_model.specs.declared.calls.Mode.TheVariants as mode
use Rattle.pr_model.specs.declared.calls.Reply.TheVariants as reply
use Rattle.pr_model.specs.declared.handles.Held.{Held}
use Rattle.pr_num.specs.Agents.{agent_id}
use Rattle.pr_num.specs.Messages.{first_message}
use Rattle.pr_num.specs.declared.errnos.Errno.{Errno}
use Rattle.pr_num.specs.declared.errnos.Errno.TheVariants.{Busy, Inval, Noent}
use Rattle.pr_num.specs.declared.messages.Message.{Message}
use Rattle.pr_num.specs.declared.messages.Message.TheVariants as message
use Rattle.pr_report_laws.proofs.Machine.PollLaws.{IsNamedReady, poll-named}
use Rattle.pr_truss_laws.proofs.Files.OpensLemmas.{held_by}
use Rattle.pr_truss_laws.proofs.Machine.StillLemmas.{live-changed}
use Rattle.pr_truss_laws.proofs.Machine.TakenLemmas.{Read, ReadsAs}

-- The messages and the polls of apfiles by its handle of the agent.

-- the agent's control file, open for writing
abbrev pub agent_writer : ℕ → ℕ → Held
agent_writer k pid = held_by k pid agent_id file.Lwpctl mode.Write

module _ (s : TracedState) (k c pid : ℕ) (a : Answer) (stands : handle_of s.opens k c ≡ Some (agent_writer k pid)) where
  abbrev held : Held
  held = agent_writer k pid

  module _ (granted : (e : Errno) → a.reply ≢ reply.Fail e) where
    -- the process lives, since the message was not refused
    pub agent-lives : (bytes : List ℕ) → answer_to s k (call.Ctl c bytes) ≡ Some a
        → (p : TracedProcess) × (live_process s.system pid ≡ Some p)
    unfolding answer_to control_answer target_of
    agent-lives bytes given =
        by (live_process s.system pid) refl
        (sym (same_Some _ a given)
        ∙ ap (λ (o : Option Held). controlled s (held_answer s.system (control_handle o) bytes)) stands)
      where
        by : (o : Option TracedProcess) → live_process s.system pid ≡ o
            → a ≡ controlled s (targeted_answer s.system held (still_there held (live_process s.system pid)) bytes)
            → (p : TracedProcess) × (live_process s.system pid ≡ Some p)
        by None none is =
            absurd (granted Noent
            (ap (λ (x : Answer). x.reply)
            (is ∙ ap (λ (o : Option TracedProcess).
            controlled s (targeted_answer s.system held (still_there held o) bytes)) none)))
        by (Some p) live is = (p, live)

    -- a message that is not refused finds the agent, and does what its row says
    pub record IsSent (m : Message) (bytes : List ℕ) : Type 0 where
      pub process : TracedProcess
      pub live : live_process s.system pid ≡ Some process
      pub agent : TracedLwp
      pub there : lwp_of process agent_id ≡ Some agent
      pub len : ℕ
      pub is : a ≡ controlled s (message_answer s.system pid process (at_lwp agent_id) m (tail_of m bytes) len)

    pub sent : (bytes : List ℕ) (m : Message) → ReadsAs m (first_message bytes)
        → answer_to s k (call.Ctl c bytes) ≡ Some a → IsSent m bytes
    unfolding answer_to control_answer target_of
    sent bytes m reads given = by-process (live_process s.system pid) refl
        (sym (same_Some _ a given)
        ∙ ap (λ (o : Option Held). controlled s (held_answer s.system (control_handle o) bytes)) stands)
      where
        by-system : (p : TracedProcess) → live_process s.system pid ≡ Some p → (l : TracedLwp)
            → lwp_of p agent_id ≡ Some l → (n : Message) (len : ℕ) → n ≡ m → (b : Bool)
            → a ≡ controlled s
            (cond b (refused s.system (system_refusal n))
            (message_answer s.system pid p (at_lwp agent_id) n (tail_of n bytes) len)) → IsSent m bytes
        by-system p live l there n len same true is =
            absurd (granted (system_refusal n) (ap (λ (x : Answer). x.reply) is))
        by-system p live l there n len same false is = record {
          process = p;
          live = live;
          agent = l;
          there = there;
          len = len;
          is = is
              ∙ ap (λ (x : Message).
              controlled s (message_answer s.system pid p (at_lwp agent_id) x (tail_of x bytes) len)) same;
        }

        by-read : (p : TracedProcess) → live_process s.system pid ≡ Some p → (l : TracedLwp)
            → lwp_of p agent_id ≡ Some l → (r : Read) → ReadsAs m r
            → a ≡ controlled s (decoded_answer s.system held p bytes r) → IsSent m bytes
        by-read p live l there (Err fault) same is = absurd (granted Inval (ap (λ (x : Answer). x.reply) is))
        by-read p live l there (Ok first) same is = by-system p live l there first.0 first.1 same (pid == 0) is

        by-lwp : (p : TracedProcess) → live_process s.system pid ≡ Some p → (o : Option TracedLwp)
            → lwp_of p agent_id ≡ o
            → a ≡ controlled s
            (targeted_answer s.system held (cond (is_some o) (Some p) None) bytes)
            → IsSent m bytes
        by-lwp p live None there is = absurd (granted Noent (ap (λ (x : Answer). x.reply) is))
        by-lwp p live (Some l) there is = by-read p live l there (first_message bytes) reads is

        by-process : (o : Option TracedProcess) → live_process s.system pid ≡ o
            → a ≡ controlled s (targeted_answer s.system held (still_there held (live_process s.system pid)) bytes)
            → IsSent m bytes
        by-process None none is =
            absurd (granted Noent
            (ap (λ (x : Answer). x.reply)
            (is ∙ ap (λ (o : Option TracedProcess).
            controlled s (targeted_answer s.system held (still_there held o) bytes)) none)))
        by-process (Some p) live is =
            by-lwp p live (lwp_of p agent_id) refl
            (is ∙ ap (λ (o : Option TracedProcess).
            controlled s (targeted_answer s.system held (still_there held o) bytes)) live)

    -- PCSREG: the agent stood, and has these registers
    pub record IsRegistered (regs : List ℕ) : Type 0 where
      pub process : TracedProcess
      pub live : live_process s.system pid ≡ Some process
      pub agent : TracedLwp
      pub there : lwp_of process agent_id ≡ Some agent
      pub stood : has_event_stop agent ≡ true
      pub now : live_process a.state.system pid ≡ Some (with_lwp agent_id (with_registers regs) process)

    pub registered : (bytes regs : List ℕ) → ReadsAs (message.Sreg regs) (first_message bytes)
        → answer_to s k (call.Ctl c bytes) ≡ Some a → IsRegistered regs
    unfolding message_answer aimed_lwp with_lwp
    registered bytes regs reads given = by it.agent it.there (has_event_stop it.agent) refl
        (it.is ∙ ap (λ (o : Option TracedLwp).
        controlled s
        (on_stopped_found s.system pid it.process it.len (with_registers regs)
        (found_at s.system pid it.process agent_id o))) it.there)
      where
        it : IsSent (message.Sreg regs) bytes
        it = sent bytes (message.Sreg regs) reads given

        by : (l : TracedLwp) → lwp_of it.process agent_id ≡ Some l → (b : Bool) → has_event_stop l ≡ b
            → a ≡ controlled s
            (cond b
            (with_process_changed s.system pid it.process it.len (with_lwp agent_id (with_registers regs)))
            (refused s.system Busy)) → IsRegistered regs
        by l there true stops is = record {
          process = it.process;
          live = it.live;
          agent = l;
          there = there;
          stood = stops;
          now = ap (λ (x : Answer). live_process x.state.system pid) is
              ∙ live-changed s.system pid (with_lwp agent_id (with_registers regs)) it.process it.live refl;
        }
        by l there false stops is = absurd (granted Busy (ap (λ (x : Answer). x.reply) is))

    -- PCRUN without flags: the agent goes on
    pub record IsRun : Type 0 where
      pub process : TracedProcess
      pub live : live_process s.system pid ≡ Some process
      pub agent : TracedLwp
      pub there : lwp_of process agent_id ≡ Some agent
      pub now : live_process a.state.system pid ≡ Some (with_lwp agent_id (run_lwp 0) process)

    pub run : (bytes : List ℕ) → ReadsAs (message.Run 0) (first_message bytes)
        → answer_to s k (call.Ctl c bytes) ≡ Some a → IsRun
    unfolding message_answer run_answer with_lwp
    run bytes reads given = by it.agent it.there (lwp_run_refused it.process agent_id it.agent)
        (it.is ∙ ap (λ (o : Option TracedLwp).
        controlled s (run_found s.system pid it.process 0 it.len (found_at s.system pid it.process agent_id o)))
        it.there)
      where
        it : IsSent (message.Run 0) bytes
        it = sent bytes (message.Run 0) reads given

        by : (l : TracedLwp) → lwp_of it.process agent_id ≡ Some l → (b : Bool)
            → a ≡ controlled s
            (cond b (refused s.system Busy)
            (with_process_changed s.system pid it.process it.len (with_lwp agent_id (run_lwp 0)))) → IsRun
        by l there true is = absurd (granted Busy (ap (λ (x : Answer). x.reply) is))
        by l there false is = record {
          process = it.process;
          live = it.live;
          agent = l;
          there = there;
          now = ap (λ (x : Answer). live_process x.state.system pid) is
              ∙ live-changed s.system pid (with_lwp agent_id (run_lwp 0)) it.process it.live refl;
        }

  -- a poll that finds the handle ready finds the agent standing, where the process lives with it
  pub polled : (p : TracedProcess) → live_process s.system pid ≡ Some p → (l : TracedLwp)
      → lwp_of p agent_id ≡ Some l → answer_to s k (call.Poll (c ∷ [])) ≡ Some a → (m : ℕ) → a.reply ≡ reply.Ready m
      → has_event_stop l ≡ true
  unfolding is_handle_ready target_of target_stopped
  polled p live l there given m ready =
      sym (ap stands_on_event there)
      ∙ sym (ap (λ (o : Option TracedLwp). control_ready held (cond (is_some o) (Some p) None)) there)
      ∙ sym (ap (λ (o : Option TracedProcess). control_ready held (still_there held o)) live) ∙ is-ready
    where
      named : IsNamedReady s k (c ∷ []) m
      named = poll-named s k (c ∷ []) a m given ready

      -- the one handle that was polled
      only : (place : ℕ) → slice_get (c ∷ []) place ≡ Some m → c ≡ m
      only zero at = same_Some c m at
      only (suc place) at = absurd (cc)

      its : named.held ≡ held
      its =
          same_Some named.held held
          (sym named.is ∙ ap (handle_of s.opens k) (sym (only named.place named.named)) ∙ stands)

      is-ready : is_handle_ready s.system held ≡ true
      is-ready = ap (is_handle_ready s.system) (sym its) ∙ named.ready
