use Rattle.std.proofs.Common.{◌≡◌, ◌≢◌, ◌<◌, ℕ, true, false, cond, is_some, Option, Some, None, List, [], refl, sym, subst, ap, ◌∙◌, inl, inr, ◌⊎◌}
use Rattle.std.proofs.lemmas.Bool.{cases_Bool, false≢true, ne_eqb}
use Rattle.std.proofs.lemmas.Option.{none-some, same_Some}
use Rattle.pr_function_hides.proofs.StandingFaults.OwnFaults.{HasNoOwn, OwnCleared, StandsAtOwn, own-leads, own-met, run-kept, run-none}
use Rattle.pr_function_hides.proofs.StandingFaults.FaultFlags.{IsRunFlags, run-read}
use Rattle.pr_function_laws.proofs.OpenedProcesses.OpenedLemmas.{by-process}
use Rattle.pr_function_laws.proofs.OpenedProcesses.StoodCalls.{run-all, run-as, run-ended}
use Rattle.pr_function_laws.specs.Lifted.{HasControl}
use Rattle.pr_function_laws.specs.OneEvent.{HasOneEventAtMost}
use Rattle.pr_hidden.specs.Covers.{Cover}
use Rattle.pr_laws.proofs.RunLemmas.{run-granted as not-refused}
use Rattle.pr_lawful.proofs.Following.UseLemmas.{live-lawful}
use Rattle.pr_lawful.proofs.LawfulTurns.EndLemmas.{found-live}
use Rattle.pr_model.specs.FirstState.{system_process}
use Rattle.pr_model.specs.Lives.{bare_process}
use Rattle.pr_line.specs.declared.options.Options.{Options}
use Rattle.pr_model.specs.Calls.{Answer, answer_to, controlled}
use Rattle.pr_model.specs.ControlMessages.{aim_of, decoded_answer, system_refusal, tail_of, targeted_answer}
use Rattle.pr_model.specs.Handles.{handle_of}
use Rattle.pr_model.specs.Lawful.{IsLawful, IsLawfulSystem}
use Rattle.pr_model.specs.Messages.{message_answer, refused, run_answer, with_process_changed}
use Rattle.pr_model.specs.Running.{with_run}
use Rattle.pr_model.specs.State.{TracedProcess, TracedState, TracedSystem, has_agent, live_process, process_of}
use Rattle.pr_model.specs.Stops.{found_on_event, is_stopped, representative}
use Rattle.pr_model.specs.declared.calls.Call.{Call}
use Rattle.pr_model.specs.declared.calls.File.TheVariants.{Ctl}
use Rattle.pr_model.specs.declared.calls.Mode.TheVariants.{WriteExcl}
use Rattle.pr_model.specs.declared.handles.Held.{Held}
use Rattle.pr_model.specs.declared.stops.Stop.{Stop}
use Rattle.pr_model.specs.declared.stops.Stop.TheVariants as stop
use Rattle.pr_num.specs.ById.{IsRising}
use Rattle.pr_num.specs.Control.{clear_fault, has_flags}
use Rattle.pr_num.specs.Messages.{spelling}
use Rattle.pr_num.specs.Sets.{common_word}
use Rattle.pr_num.specs.declared.errnos.Errno.TheVariants.{Busy}
use Rattle.pr_num.specs.declared.messages.Message.TheVariants as message
use Rattle.pr_report_laws.proofs.Machine.StoppedLaws.{quiet-runs, stopped-first}
use Rattle.pr_truss.specs.Messages.{message_call}
use Rattle.pr_truss.specs.declared.processes.Traced.{Traced}
use Rattle.pr_truss_laws.proofs.Machine.StillLemmas.{live-changed}
use Rattle.pr_truss_laws.proofs.Machine.TakenLemmas.{ctl-is, process-aim}
use Rattle.pr_truss_laws.specs.Stills.{IsFrozen}

-- Where truss runs a process, no lwp of it stands at a fault of its own any more.

-- ---- run flags

clears-none : has_flags 0 clear_fault ≡ false
unfolding has_flags common_word
clears-none = refl

-- ---- the system process is never stopped

system-runs : is_stopped system_process ≡ false
unfolding system_process bare_process
system-runs = quiet-runs system_process refl (record { each = λ id l none. absurd (none-some l none) })

pub stopped-user : (s : TracedSystem) (pid : ℕ) (p : TracedProcess) → IsLawfulSystem s → live_process s pid ≡ Some p
    → is_stopped p ≡ true → pid ≢ 0
stopped-user s pid p lawful live stopped zero_pid =
    let there = (found-live s pid p live).0 in
    let same : p ≡ system_process =
    same_Some p system_process (sym there ∙ ap (process_of s) zero_pid ∙ lawful.first) in
    false≢true (sym system-runs ∙ ap is_stopped (sym same) ∙ stopped)

-- ---- PCRUN that is granted

module _ (s : TracedState) (k m : ℕ) (h : Held) (held : handle_of s.opens k m ≡ Some h) (control : h.file ≡ Ctl)
    (p : TracedProcess) (live : live_process s.system h.pid ≡ Some p) (flags : ℕ) (known : IsRunFlags flags) where
  -- in a process that is stopped on an event of interest, without an agent
  pub ran-live : (a : Answer) → IsLawfulSystem s.system → has_agent p ≡ false → is_stopped p ≡ true
      → answer_to s k (message_call m (message.Run flags)) ≡ Some a
      → live_process a.state.system h.pid ≡ Some (with_run flags p)
  unfolding message_answer run_answer
  ran-live a lawful no_agent stopped is =
      let f = stopped-first p stopped in
      let user = ne_eqb h.pid 0 (stopped-user s.system h.pid p lawful live stopped) in
      let bytes : List ℕ = spelling (message.Run flags) [] in
      ap (λ (x : Answer). live_process x.state.system h.pid)
      (ctl-is s k m h held control bytes a is
      ∙ ap (λ o. controlled s (targeted_answer s.system h o bytes)) live
      ∙ ap (λ r. controlled s (decoded_answer s.system h p bytes r)) (run-read flags known)
      ∙ ap (λ b. controlled s
      (cond b (refused s.system (system_refusal (message.Run flags)))
      (message_answer s.system h.pid p (aim_of h) (message.Run flags) (tail_of (message.Run flags) bytes) 16))) user
      ∙ ap (λ x. controlled s
      (message_answer s.system h.pid p x (message.Run flags) (tail_of (message.Run flags) bytes) 16))
      (process-aim h control)
      ∙ ap (λ b. controlled s
      (cond b (refused s.system Busy) (with_process_changed s.system h.pid p 16 (with_run flags))))
      (not-refused p f.lwp no_agent f.is f.stands))
      ∙ live-changed s.system h.pid (with_run flags) p live (run-ended flags p)

-- ---- none is left

module _ (n k : ℕ) (o : Options) (s : TracedState) (lawful : IsLawful s) (c : Call) (a : Answer)
    (answer : answer_to s k c ≡ Some a)
    (over : (pid : ℕ) → pid < s.system.made → live_process s.system pid ≡ None
    → live_process a.state.system pid ≡ None) (u : Traced) (its : HasControl k u.pid u.control s) (flags : ℕ)
    (is : c ≡ message_call u.control (message.Run flags)) (known : IsRunFlags flags) (d e : Cover)
    (less : (id : ℕ) → e.faulted id ≡ true → d.faulted id ≡ true)
    (no_agent : (p : TracedProcess) → live_process s.system u.pid ≡ Some p → has_agent p ≡ false)
    (frozen : (p : TracedProcess) → live_process s.system u.pid ≡ Some p → IsFrozen p)
    (few : (p : TracedProcess) → live_process s.system u.pid ≡ Some p → HasOneEventAtMost p ⊎ (flags ≡ 0))
    (all : (p : TracedProcess) → live_process s.system u.pid ≡ Some p → OwnCleared flags d p) where
  module _ (p q : TracedProcess) (live : live_process s.system u.pid ≡ Some p)
      (later : live_process a.state.system u.pid ≡ Some q) where
    rises : IsRising p.lwps
    rises = let l = live-lawful s.system u.pid p lawful.system live in l.rising

    leads : (id : ℕ) (w : StandsAtOwn d p id) → representative p ≡ Some (id, w.lwp)
    leads id w = by (few p live)
      where
        cleared : (w.lwp.control.stop ≡ Some (stop.Faulted w.fault)) × (has_flags flags clear_fault ≡ true)
        cleared = all p live id w

        by : HasOneEventAtMost p ⊎ (flags ≡ 0) → representative p ≡ Some (id, w.lwp)
        by (inl one) =
            own-leads p id w.lwp rises (no_agent p live) (frozen p live) one w.there
            (own-met w.lwp w.fault cleared.0)
        by (inr unset) =
            absurd (false≢true (sym clears-none ∙ ap (λ f. has_flags f clear_fault) (sym unset) ∙ cleared.1))

    -- where it is not stopped on an event none stands there
    unstopped : is_stopped p ≡ false → HasNoOwn d p
    unfolding is_stopped
    unstopped off id w =
        false≢true
        (sym off ∙ ap found_on_event (leads id w)
        ∙ ap (λ (x : Option Stop). is_some x) (all p live id w).0)

    fewer : (x : TracedProcess) → HasNoOwn d x → HasNoOwn e x
    fewer x bare id w = bare id (record {
      lwp = w.lwp;
      there = w.there;
      own = less id w.own;
      fault = w.fault;
      address = w.address;
      phase = w.phase;
    })

    -- PCRUN brings none about
    runs-none : (word : ℕ) → HasNoOwn d p → HasNoOwn d (with_run word p)
    runs-none word bare id w =
        let was = run-kept word p rises id w.fault w.address w.lwp w.there w.phase in
        bare id (record {
          lwp = was.0;
          there = was.1.0;
          own = w.own;
          fault = w.fault;
          address = w.address;
          phase = was.1.1.0;
        })

    left-none : HasNoOwn e q
    left-none = elim (cases_Bool (is_stopped p)) [
      | inl stopped ↦
          (let now =
          ran-live s k u.control
          (record { controller = k; pid = u.pid; lwp = 0; file = Ctl; mode = WriteExcl }) its refl
          p live flags known a lawful.system (no_agent p live) stopped (ap (answer_to s k) (sym is) ∙ answer) in
          fewer q
          (subst (HasNoOwn d) (same_Some (with_run flags p) q (sym now ∙ later))
          (run-none flags d p rises (all p live) leads)))
      | inr off ↦
          (let reads = run-as flags in
          fewer q
          (run-all n k o s lawful c a answer over u (spelling (message.Run flags) []) is its p q live later (HasNoOwn d)
          reads.0 reads.1 (unstopped off) (runs-none reads.0 (unstopped off))))
    ]

  pub run-leaves-none : (q : TracedProcess) → live_process a.state.system u.pid ≡ Some q → HasNoOwn e q
  run-leaves-none q later =
      let was =
      by-process n k o s lawful c a answer over u.pid u.control (spelling (message.Run flags) []) is its
      (λ p x. HasNoOwn e x) (λ p x live now. left-none p x live now) q later in
      was.1.1
