use Rattle.std.proofs.Common.{◌≡◌, ◌≢◌, ◌⊎◌, ◌<◌, ◌&&◌, ◌∷◌, ℕ, Bool, true, false, cond, List, [], Option, Some, None, is_ok, refl, sym, subst, ap, ◌∙◌, inl, inr, arith}
use Rattle.std.proofs.lemmas.Bool.{eq-eqb}
use Rattle.pr_hidden.specs.Covers.{Covers}
use Rattle.pr_lawful.proofs.ProcessParts.HandleLemmas.{handle-at}
use Rattle.pr_model.specs.Calls.{Answer, answer_to}
use Rattle.pr_model.specs.Handles.{handle_of as handle_in, has_exclusive_writer}
use Rattle.pr_model.specs.Lawful.{IsLawful}
use Rattle.pr_model.specs.Legal.{state_after}
use Rattle.pr_model.specs.Replies.{number_of}
use Rattle.pr_model.specs.State.{TracedProcess, TracedState, live_process}
use Rattle.pr_model.specs.declared.calls.Call.{Call}
use Rattle.pr_model.specs.declared.calls.Call.TheVariants as call
use Rattle.pr_model.specs.declared.calls.File.TheVariants as file
use Rattle.pr_model.specs.declared.calls.Mode.TheVariants as mode
use Rattle.pr_model.specs.declared.calls.Reply.{Reply}
use Rattle.pr_model.specs.declared.calls.Reply.TheVariants as reply
use Rattle.pr_model.specs.declared.events.Entry.{Entry}
use Rattle.pr_num.specs.Agents.{agent_id}
use Rattle.pr_num.specs.Control.{prot_exec, prot_write}
use Rattle.pr_num.specs.Layout.{stack_base, text_base}
use Rattle.pr_num.specs.Limits.{descriptor_limit, read_limit}
use Rattle.pr_num.specs.Spaces.{bytes_for}
use Rattle.pr_num.specs.declared.errnos.Errno.{Errno}
use Rattle.pr_num.specs.declared.errnos.Errno.TheVariants.{Intr, Mfile}
use Rattle.pr_probe.specs.AgentCode.{code_size, planted}
use Rattle.pr_probe.specs.ProbeStages.{file_of, is_asking_passed_over, is_interrupt, is_passed_over, lwp_of, mode_of, place_of}
use Rattle.pr_probe.specs.Probes.{ProbeState, asking_call, at_stage, call_of, refusal_in}
use Rattle.pr_probe.specs.TracedSets.{no_sets, set_word, trace_message}
use Rattle.pr_probe.specs.declared.probe_stages.AskingStep.{AskingStep}
use Rattle.pr_probe.specs.declared.probe_stages.AskingStep.TheVariants.{SetRegisters, Run as RunAgent, Await, ReadAgent, ReadKind}
use Rattle.pr_probe.specs.declared.probe_stages.ProbeFile.TheVariants.{AgentControl, AgentStatus}
use Rattle.pr_probe.specs.declared.probe_stages.ProbeStage.{ProbeStage}
use Rattle.pr_probe.specs.declared.probe_stages.ProbeStage.TheVariants as stage
use Rattle.pr_tools.specs.Handles.{handle_at}
use Rattle.pr_probe_laws.proofs.Agents.AgentCalls.{agent_writer}
use Rattle.pr_probe_laws.proofs.Agents.AgentMemory.{any-ok}
use Rattle.pr_probe_laws.proofs.Agents.AgentTurns.{asks}
use Rattle.pr_probe_laws.proofs.Files.FilePlaces.{HasFirst}
use Rattle.pr_probe_laws.proofs.Granted.GrantedCalls.{IsGranted, code-whole, control-opened, exit-whole, exits-granted, exits-whole, kind-whole, maps-some, none-exclusive, poll-granted, read-granted, registers-granted, registers-whole, run-granted, run-whole, stack-whole, status-granted, status-opened, write-granted}
use Rattle.pr_probe_laws.proofs.Hiding.HiddenStages.{Hides, made-at}
use Rattle.pr_probe_laws.proofs.Agents.LeavingRows.{exit_registers}
use Rattle.pr_probe_laws.proofs.PuttingBack.MemoryMessages.{code-written, stack-written, writer_of}
use Rattle.pr_probe_laws.proofs.Sets.SetCalls.{control, control-stands, its, sent-by}
use Rattle.pr_probe_laws.proofs.Sets.SetStages.{Knows}
use Rattle.pr_probe_laws.proofs.OneState.TextCalls.{agent, agent-polled, agent-sent, agent-stands}
use Rattle.pr_probe_laws.proofs.OneState.TextMessages.{planted-size}
use Rattle.pr_probe_laws.proofs.OneState.TextStages.{IsAsking, Making, Reads, TellsKind}

-- While apfiles hides something it is refused nothing but a free handle: a line a stage.

-- ---- replies

-- a reply that is no refusal refuses no stage
granted-right : (g : ProbeStage) (r : Reply) → ((e : Errno) → r ≢ reply.Fail e) → refusal_in g r ≡ None
unfolding refusal_in
granted-right g (reply.Fail e) granted = absurd (granted e refl)
granted-right g _ granted = refl

polled-right : (g : ProbeStage) (r : Reply) → is_passed_over g Intr ≡ true
    → ((e : Errno) → r ≢ reply.Fail e) ⊎ (r ≡ reply.Fail Intr) → refusal_in g r ≡ None
unfolding refusal_in
polled-right g r passed (inl granted) = granted-right g r granted
polled-right g r passed (inr interrupted) =
    ap (refusal_in g) interrupted ∙ ap (λ (b : Bool). cond b None (Some Intr)) passed

module _ (k pid : ℕ) (first : TracedState) (h : List Entry) (c : Call) (a : Answer)
    (lawful : IsLawful (state_after first h)) (given : answer_to (state_after first h) k c ≡ Some a)
    (covers : Covers) (ask : (m : Making k pid first h) → IsAsking k pid first h m) (x : TracedProcess)
    (live : live_process (state_after first h).system pid ≡ Some x) (room : a.reply ≢ reply.Fail Mfile) where
  abbrev s : TracedState
  s = state_after first h

  abbrev Granted : Type 0
  Granted = IsGranted s k pid a

  user : (need at : ℕ) → is_ok (bytes_for need x.space at 24) ≡ true → pid ≢ 0
  user need at there = maps-some s.system pid x lawful.system live need at 23 there

  -- ---- by its control file

  module _ (p : ProbeState) (many : ℕ) (some : 0 < many) (holds : HasFirst k pid many s.opens p.opened) where
    stands : handle_in s.opens k (control k pid first h c a lawful given p many some holds).number
        ≡ Some (writer_of k pid)
    stands = control-stands k pid first h c a lawful given p many some holds

    shared : has_exclusive_writer pid s.opens ≡ false
    shared =
        none-exclusive pid (control k pid first h c a lawful given p many some holds).number s.opens (writer_of k pid)
        (handle-at s.opens k (control k pid first h c a lawful given p many some holds).number (writer_of k pid) stands)
        (ap (λ (b : Bool). b && true) (eq-eqb pid pid refl)) (ap (λ (b : Bool). b && false) (eq-eqb pid pid refl))
        lawful.exclusive

  -- ---- the agent stands

  module _ (p : ProbeState) (holds : HasFirst k pid 6 s.opens p.opened) where
    polls : Some (call.Poll (number_of (handle_at p.opened (place_of AgentControl)) ∷ [])) ≡ Some c
        → Granted ⊎ (a.reply ≡ reply.Fail Intr)
    polls same =
        poll-granted s k pid a (agent k pid first h c a lawful given p holds).number (agent_writer k pid)
        (agent-stands k pid first h c a lawful given p holds) (agent-polled k pid first h c a lawful given p holds same)

  asks-right : (p : ProbeState) (d : ℕ) (step : AskingStep) → HasFirst k pid 6 s.opens p.opened
      → Reads k pid first h s (at_stage p (stage.Asking d step)) (stage.Asking d step)
      → Some (asking_call (at_stage p (stage.Asking d step)) d step) ≡ Some c
      → refusal_in (stage.Asking d step) a.reply ≡ None
  unfolding Reads asking_call is_passed_over is_asking_passed_over is_interrupt place_of lwp_of file_of mode_of
  asks-right p d SetRegisters holds reads same =
      let so = reads.so (ask reads.making) x live in
      let small : d < descriptor_limit = so.1.0 in
      granted-right (stage.Asking d SetRegisters) a.reply
      (registers-granted s k pid a x live (agent k pid first h c a lawful given p holds).number
      (user prot_write stack_base so.0.ready.stack) (agent-stands k pid first h c a lawful given p holds) so.0.agent
      so.0.there so.0.so.stands _ (asks d) (registers-whole d small)
      (agent-sent k pid first h c a lawful given p holds _ same))
  asks-right p d RunAgent holds reads same =
      let so = reads.so (ask reads.making) x live in
      granted-right (stage.Asking d RunAgent) a.reply
      (run-granted s k pid a x live (agent k pid first h c a lawful given p holds).number
      (user prot_write stack_base so.0.ready.stack) (agent-stands k pid first h c a lawful given p holds) so.0.agent
      so.0.there so.0.so.stands _ run-whole (agent-sent k pid first h c a lawful given p holds _ same))
  asks-right p d Await holds reads same =
      polled-right (stage.Asking d Await) a.reply refl (polls p holds same)
  asks-right p d ReadAgent holds reads same =
      let so = reads.so (ask reads.making) x live in
      let status = holds.each AgentStatus (omega arith) in
      granted-right (stage.Asking d ReadAgent) a.reply
      (status-granted s k pid a x live so.0.agent so.0.there status.number status.stands
      (ap (λ (o : Option ℕ). answer_to s k (call.Read (number_of o) 0 read_limit)) (sym status.at)
      ∙ its k pid first h c a lawful given _ same))
  asks-right p d ReadKind holds reads same =
      let so = reads.so (ask reads.making) x live in
      let tells : TellsKind x.space so.back.so.result (Some so.kind) =
      subst (TellsKind x.space so.back.so.result) so.is_open so.back.so.tells in
      granted-right (stage.Asking d ReadKind) a.reply
      (read-granted s k pid a x live (control k pid first h c a lawful given p 6 (omega arith) holds).number
      (user prot_write stack_base so.back.ready.stack)
      (control-stands k pid first h c a lawful given p 6 (omega arith) holds) _ stack_base 8 _ kind-whole
      so.back.ready.own tells.1 (sent-by k pid first h c a lawful given p 6 (omega arith) holds _ same))

  pub takes : (p : ProbeState) (g : ProbeStage) → Knows k pid first h s (at_stage p g) g
      → Reads k pid first h s (at_stage p g) g → Hides pid (covers pid) s.system (at_stage p g) g
      → call_of (at_stage p g) g ≡ Some c → refusal_in g a.reply ≡ None
  unfolding Hides Knows Reads call_of is_passed_over is_interrupt lwp_of file_of mode_of trace_message set_word no_sets
  takes p (stage.Open AgentControl) knows reads hides same =
      let made =
      made-at k pid first h s (at_stage p (stage.Open AgentControl)) ask (stage.Open AgentControl) tt reads x live
      in
      granted-right (stage.Open AgentControl) a.reply
      (control-opened s k pid a x live made.agent made.there room
      (shared (at_stage p (stage.Open AgentControl)) 4 (omega arith) knows.holds)
      (ap (λ (q : ℕ). answer_to s k (call.Open q agent_id file.Lwpctl mode.Write)) (sym knows.its)
      ∙ its k pid first h c a lawful given _ same))
  takes p (stage.Open AgentStatus) knows reads hides same =
      let made =
      made-at k pid first h s (at_stage p (stage.Open AgentStatus)) ask (stage.Open AgentStatus) tt reads x live
      in
      granted-right (stage.Open AgentStatus) a.reply
      (status-opened s k pid a x live made.agent made.there room
      (ap (λ (q : ℕ). answer_to s k (call.Open q agent_id file.Lwpstatus mode.Read)) (sym knows.its)
      ∙ its k pid first h c a lawful given _ same))
  takes p stage.PlantCode knows reads hides same =
      let made = made-at k pid first h s (at_stage p stage.PlantCode) ask stage.PlantCode tt reads x live in
      let many : 0 < 6 = omega arith in
      granted-right stage.PlantCode a.reply
      (write-granted s k pid a x live (control k pid first h c a lawful given p 6 many knows.holds).number
      (user prot_write stack_base made.ready.stack)
      (control-stands k pid first h c a lawful given p 6 many knows.holds) text_base planted
      (code-written planted planted-size) (code-whole planted planted-size) made.ready.own
      (ap (λ (n : ℕ). is_ok (bytes_for 0 x.space text_base n)) planted-size
      ∙ any-ok prot_exec x.space text_base code_size made.ready.code)
      (sent-by k pid first h c a lawful given p 6 many knows.holds _ same))
  takes p (stage.Asking d step) knows reads hides same = asks-right p d step knows.holds reads same
  takes p stage.UntraceExits knows reads hides same =
      let so = reads.so (ask reads.making) x live in
      let many : 0 < 6 = omega arith in
      granted-right stage.UntraceExits a.reply
      (exits-granted s k pid a x live (control k pid first h c a lawful given p 6 many knows.holds).number
      (user prot_write stack_base so.0.ready.stack)
      (control-stands k pid first h c a lawful given p 6 many knows.holds) _ 0 exits-whole
      (sent-by k pid first h c a lawful given p 6 many knows.holds _ same))
  takes p stage.SetExit knows reads hides same =
      let out = hides.1 x live in
      granted-right stage.SetExit a.reply
      (registers-granted s k pid a x live (agent k pid first h c a lawful given p knows.holds).number
      (user prot_write stack_base out.ready.stack) (agent-stands k pid first h c a lawful given p knows.holds)
      out.agent out.there out.stands _ exit_registers exit-whole
      (agent-sent k pid first h c a lawful given p knows.holds _ same))
  takes p stage.RunExit knows reads hides same =
      let out = hides.1 x live in
      granted-right stage.RunExit a.reply
      (run-granted s k pid a x live (agent k pid first h c a lawful given p knows.holds).number
      (user prot_write stack_base out.ready.stack) (agent-stands k pid first h c a lawful given p knows.holds)
      out.agent out.there out.stands _ run-whole
      (agent-sent k pid first h c a lawful given p knows.holds _ same))
  takes p stage.AwaitExit knows reads hides same =
      polled-right stage.AwaitExit a.reply refl (polls p knows.holds same)
  takes p stage.WriteCode knows reads hides same =
      let gone = hides.1 x live in
      let many : 0 < 6 = omega arith in
      granted-right stage.WriteCode a.reply
      (write-granted s k pid a x live (control k pid first h c a lawful given p 6 many knows.holds).number
      (user 0 stack_base gone.answer) (control-stands k pid first h c a lawful given p 6 many knows.holds) text_base
      p.code (code-written p.code hides.0.code) (code-whole p.code hides.0.code) gone.own
      (ap (λ (n : ℕ). is_ok (bytes_for 0 x.space text_base n)) hides.0.code ∙ gone.text)
      (sent-by k pid first h c a lawful given p 6 many knows.holds _ same))
  takes p stage.WriteStack knows reads hides same =
      let gone = hides.1 x live in
      let many : 0 < 6 = omega arith in
      granted-right stage.WriteStack a.reply
      (write-granted s k pid a x live (control k pid first h c a lawful given p 6 many knows.holds).number
      (user 0 stack_base gone.answer) (control-stands k pid first h c a lawful given p 6 many knows.holds) stack_base
      p.stack (stack-written p.stack hides.0.stack) (stack-whole p.stack hides.0.stack) gone.own
      (ap (λ (n : ℕ). is_ok (bytes_for 0 x.space stack_base n)) hides.0.stack ∙ gone.answer)
      (sent-by k pid first h c a lawful given p 6 many knows.holds _ same))
  takes p _ knows reads hides same = absurd hides
