use Rattle.std.proofs.Common.{◌≡◌, ◌%◌, ◌^◌, ℕ, Bool, true, false, List, [], Option, Some, None, Ok, option_map, refl, sym, subst, ap, ◌∙◌}
use Rattle.std.proofs.lemmas.Bool.{false≢true}
use Rattle.std.proofs.lemmas.Option.{none-some, same_Some}
use Rattle.pr_model.specs.declared.calls.Call.TheVariants as call
use Rattle.pr_model.specs.declared.calls.Reply.{Reply}
use Rattle.pr_num.specs.Messages.{first_message, spelling}
use Rattle.pr_num.specs.declared.errnos.Errno.{Errno}
use Rattle.pr_num.specs.declared.messages.Message.{Message}
use Rattle.pr_num.specs.declared.messages.Message.TheVariants as message
use Rattle.pr_probe.proofs.FedLemmas.{advanced-refusal, answer-by, fed-by, kind-kept, map-by, not-refused, poll-by, run-next-by}
use Rattle.pr_probe.specs.DescriptorLines.{kind_in}
use Rattle.pr_probe.specs.ProbeStages.{stage_after, stage_opened, way_out, way_out_of_trace}
use Rattle.pr_probe.specs.Probes.{ProbeState, accepted, advanced, asking_accepted, asking_call, at_stage, call_of, fed, first_probe, refusal_in, refused, with_next, with_run_next, with_status}
use Rattle.pr_probe.specs.TracedSets.{kind_after, trace_message}
use Rattle.pr_probe.specs.declared.probe_stages.AskingStep.{AskingStep}
use Rattle.pr_probe.specs.declared.probe_stages.AskingStep.TheVariants.{SetRegisters, Run as RunAgent, Await, ReadAgent, ReadKind}
use Rattle.pr_probe.specs.declared.probe_stages.ProbeFile.TheVariants.{Control, Status, Lstatus, Map}
use Rattle.pr_probe.specs.declared.probe_stages.ProbeStage.{ProbeStage}
use Rattle.pr_probe.specs.declared.probe_stages.ProbeStage.TheVariants as stage
use Rattle.pr_probe.specs.declared.traced_sets.SetKind.{SetKind}
use Rattle.pr_probe.specs.declared.traced_sets.SetKind.TheVariants.{Signals, Faults, Entries, Exits}
use Rattle.pr_report_laws.proofs.Machine.ControlLaws.{entries-read, exits-read, faults-read, run-reads, signals-read}
use Rattle.pr_tools.specs.Handles.{last_open}
use Rattle.pr_tools.specs.Replies.{bytes_read}
use Rattle.pr_truss_laws.proofs.Machine.TakenLemmas.{ReadsAs, stop-reads}
use Rattle.pr_probe_laws.proofs.Hiding.HiddenCovers.{is_plain}
use Rattle.pr_probe_laws.proofs.PuttingBack.MemoryMessages.{code-reads, stack-reads}
use Rattle.pr_probe_laws.proofs.OneState.TextMessages.{kind-reads}
use Rattle.pr_probe_laws.specs.HiddenProbes.{is_hiding}

-- Which messages apfiles sends while it hides nothing, and how it comes to hide something.

-- whether a stage sends a message that hides something, or goes to the agent's registers
unfoldable pub is_special : ProbeStage → Bool
is_special stage.MakeAgent = true
is_special stage.PlantCode = true
is_special (stage.Asking d SetRegisters) = true
is_special stage.SetExit = true
is_special stage.WriteCode = true
is_special stage.WriteStack = true
is_special _ = false

-- ---- its messages

module _ (number : ℕ) (bytes : List ℕ) (m : Message) (len : ℕ) (read : first_message bytes ≡ Ok (m, len)) where
  by-reads : (to : ℕ) (spelt : List ℕ) (n : Message) → ReadsAs n (first_message spelt) → is_plain n ≡ true
      → Some (call.Ctl to spelt) ≡ Some (call.Ctl number bytes) → is_plain m ≡ true
  by-reads to spelt n reads plain same =
      let calls : call.Ctl to spelt ≡ call.Ctl number bytes = same_Some (call.Ctl to spelt)
      (call.Ctl number bytes) same in
      let its : spelt ≡ bytes = cc in
      let as_read : m ≡ n = rw read at (subst (λ (bs : List ℕ). ReadsAs n (first_message bs)) its reads) in
      ap is_plain as_read ∙ plain

  set-plain : (to : ℕ) (kind : SetKind) (w : ℕ)
      → Some (call.Ctl to (spelling (trace_message kind w) [])) ≡ Some (call.Ctl number bytes) → is_plain m ≡ true
  unfolding trace_message
  set-plain to Signals w same = by-reads to _ (message.Strace (w % 2 ^ 64)) (signals-read w) refl same
  set-plain to Faults w same = by-reads to _ (message.Sfault (w % 2 ^ 64)) (faults-read w) refl same
  set-plain to Entries w same = by-reads to _ (message.Sentry (w % 2 ^ 64)) (entries-read w) refl same
  set-plain to Exits w same = by-reads to _ (message.Sexit (w % 2 ^ 64)) (exits-read w) refl same

  closes-none : (o : Option ℕ) → option_map call.Close o ≡ Some (call.Ctl number bytes) → is_plain m ≡ true
  closes-none None is = absurd (none-some _ is)
  closes-none (Some handle) is = absurd (let both = same_Some (call.Close handle) (call.Ctl number bytes) is in cc)

  asks-plain : (p : ProbeState) (d : ℕ) (step : AskingStep) → is_special (stage.Asking d step) ≡ false
      → Some (asking_call p d step) ≡ Some (call.Ctl number bytes) → is_plain m ≡ true
  unfolding is_special asking_call
  asks-plain p d SetRegisters special same = absurd (false≢true (sym special))
  asks-plain p d RunAgent special same = by-reads _ _ (message.Run 0) run-reads refl same
  asks-plain p d Await special same = absurd (let both = same_Some _ (call.Ctl number bytes) same in cc)
  asks-plain p d ReadAgent special same = absurd (let both = same_Some _ (call.Ctl number bytes) same in cc)
  asks-plain p d ReadKind special same = by-reads _ _ _ kind-reads refl same

  pub plain-of : (p : ProbeState) (g : ProbeStage) → is_special g ≡ false → call_of p g ≡ Some (call.Ctl number bytes)
      → is_plain m ≡ true
  unfolding is_special call_of
  plain-of p (stage.Open f) special same = absurd (let both = same_Some _ (call.Ctl number bytes) same in cc)
  plain-of p stage.ReadFirst special same = absurd (let both = same_Some _ (call.Ctl number bytes) same in cc)
  plain-of p stage.Stop special same = by-reads _ _ message.Stop stop-reads refl same
  plain-of p stage.AwaitStop special same = absurd (let both = same_Some _ (call.Ctl number bytes) same in cc)
  plain-of p stage.ReadStatus special same = absurd (let both = same_Some _ (call.Ctl number bytes) same in cc)
  plain-of p stage.ReadMap special same = absurd (let both = same_Some _ (call.Ctl number bytes) same in cc)
  plain-of p stage.SaveCode special same = by-reads _ _ _ code-reads refl same
  plain-of p stage.SaveStack special same = by-reads _ _ _ stack-reads refl same
  plain-of p (stage.Trace kind) special same = set-plain _ kind _ same
  plain-of p (stage.Asking d step) special same = asks-plain p d step special same
  plain-of p stage.UntraceExits special same = set-plain _ Exits _ same
  plain-of p stage.RunExit special same = by-reads _ _ (message.Run 0) run-reads refl same
  plain-of p stage.AwaitExit special same = absurd (let both = same_Some _ (call.Ctl number bytes) same in cc)
  plain-of p (stage.Retrace kind) special same = set-plain _ kind _ same
  plain-of p stage.Run special same = by-reads _ _ (message.Run 0) run-reads refl same
  plain-of p (stage.Restore kind) special same = set-plain _ kind _ same
  plain-of p stage.Release special same = by-reads _ _ (message.Run 0) run-reads refl same
  plain-of p stage.Close special same = closes-none (last_open p.opened) same
  plain-of p _ special same = absurd (false≢true (sym special))

-- ---- how it comes to hide something

-- its agent was granted
pub record ComesToHide (g : ProbeStage) (r : Reply) : Type 0 where
  pub makes : g ≡ stage.MakeAgent
  pub granted : refusal_in stage.MakeAgent r ≡ None

module _ (r : Reply) (g : ProbeStage) where
  abbrev Comes : ProbeState → Type 0
  Comes u = u.refusal ≡ None → is_hiding u.stage ≡ true → ComesToHide g r

  never : (u : ProbeState) → is_hiding u.stage ≡ false → Comes u
  never u not none hides = absurd (false≢true (sym not ∙ hides))

  run-never : (s : ProbeState) (run : ProbeStage) → is_hiding run ≡ false → Comes (with_run_next s run)
  unfolding is_hiding
  run-never s run not =
      run-next-by Comes s run (λ stood. never (at_stage s stage.Close) refl) (λ going. never (at_stage s run) not)

pub comes-by : (p : ProbeState) (g : ProbeStage) (r : Reply) → is_hiding g ≡ false → refusal_in g r ≡ None
    → Comes r g (accepted (at_stage p g) r g)
unfolding is_hiding accepted advanced with_next with_status stage_after stage_opened kind_after
comes-by p (stage.Open Control) r not right = λ none hides. absurd (false≢true hides)
comes-by p (stage.Open Status) r not right = λ none hides. absurd (false≢true hides)
comes-by p (stage.Open Lstatus) r not right = λ none hides. absurd (false≢true hides)
comes-by p (stage.Open Map) r not right = λ none hides. absurd (false≢true hides)
comes-by p stage.ReadFirst r not right = λ none hides. absurd (false≢true hides)
comes-by p stage.Stop r not right = λ none hides. absurd (false≢true hides)
comes-by p stage.AwaitStop r not right = λ none hides. absurd (false≢true hides)
comes-by p stage.ReadStatus r not right = λ none hides. absurd (false≢true hides)
comes-by p stage.ReadMap r not right =
    map-by (Comes r stage.ReadMap) (at_stage p stage.ReadMap) (bytes_read r)
    (λ e none hides. not-refused (at_stage p stage.ReadMap) e none) (λ none hides. absurd (false≢true hides))
comes-by p stage.SaveCode r not right = λ none hides. absurd (false≢true hides)
comes-by p stage.SaveStack r not right = λ none hides. absurd (false≢true hides)
comes-by p (stage.Trace Signals) r not right = λ none hides. absurd (false≢true hides)
comes-by p (stage.Trace Faults) r not right = λ none hides. absurd (false≢true hides)
comes-by p (stage.Trace Entries) r not right = λ none hides. absurd (false≢true hides)
comes-by p (stage.Trace Exits) r not right = λ none hides. absurd (false≢true hides)
comes-by p stage.MakeAgent r not right = λ none hides. record { makes = refl; granted = right }
comes-by p (stage.Retrace Signals) r not right = λ none hides. absurd (false≢true hides)
comes-by p (stage.Retrace Faults) r not right = λ none hides. absurd (false≢true hides)
comes-by p (stage.Retrace Entries) r not right = λ none hides. absurd (false≢true hides)
comes-by p (stage.Retrace Exits) r not right =
    run-never r (stage.Retrace Exits) (at_stage p (stage.Retrace Exits)) stage.Run refl
comes-by p stage.Run r not right = λ none hides. absurd (false≢true hides)
comes-by p (stage.Restore Signals) r not right = λ none hides. absurd (false≢true hides)
comes-by p (stage.Restore Faults) r not right = λ none hides. absurd (false≢true hides)
comes-by p (stage.Restore Entries) r not right = λ none hides. absurd (false≢true hides)
comes-by p (stage.Restore Exits) r not right =
    run-never r (stage.Restore Exits) (at_stage p (stage.Restore Exits)) stage.Release refl
comes-by p stage.Release r not right = λ none hides. absurd (false≢true hides)
comes-by p stage.Close r not right = λ none hides. absurd (false≢true hides)
comes-by p _ r not right = absurd (false≢true (sym not))

pub comes-to-hide : (p : ProbeState) (r : Reply) → is_hiding p.stage ≡ false → (fed p r).refusal ≡ None
    → is_hiding (fed p r).stage ≡ true → ComesToHide p.stage r
comes-to-hide p r not =
    fed-by (Comes r p.stage) p r (λ e is none hides. not-refused p e none) (comes-by p p.stage r not)

-- ---- after a refusal it only undoes what it did

abbrev pub is_over : ProbeStage → Bool
is_over (stage.Restore kind) = true
is_over stage.Release = true
is_over stage.Close = true
is_over _ = false

-- it was refused nothing, or it undoes what it did
pub record IsInOrder (p : ProbeState) : Type 0 where
  pub refused : (e : Errno) → p.refusal ≡ Some e → is_over p.stage ≡ true

over : (u : ProbeState) → is_over u.stage ≡ true → IsInOrder u
over u is = record { refused = λ e refused. is }

fine : (u : ProbeState) → u.refusal ≡ None → IsInOrder u
fine u none = record { refused = λ e refused. absurd (none-some e (sym none ∙ refused)) }

run-over : (s : ProbeState) (run : ProbeStage) → is_over run ≡ true → IsInOrder (with_run_next s run)
run-over s run is = run-next-by IsInOrder s run (λ stood. over (at_stage s stage.Close) refl)
    (λ going. over (at_stage s run) is)

refused-over : (p : ProbeState) (g : ProbeStage) (e : Errno) → IsInOrder (with_next p (way_out g))
unfolding way_out way_out_of_trace with_next
refused-over p stage.AwaitStop e = run-over p stage.Release refl
refused-over p stage.ReadStatus e = run-over p stage.Release refl
refused-over p stage.ReadMap e = run-over p stage.Release refl
refused-over p stage.SaveCode e = run-over p stage.Release refl
refused-over p stage.SaveStack e = run-over p stage.Release refl
refused-over p (stage.Trace Signals) e = run-over p stage.Release refl
refused-over p (stage.Trace Faults) e = over (at_stage p (stage.Restore Signals)) refl
refused-over p (stage.Trace Entries) e = over (at_stage p (stage.Restore Signals)) refl
refused-over p (stage.Trace Exits) e = over (at_stage p (stage.Restore Signals)) refl
refused-over p stage.MakeAgent e = over (at_stage p (stage.Restore Signals)) refl
refused-over p _ e = over (at_stage p stage.Close) refl

over-on : (p : ProbeState) (g : ProbeStage) (r : Reply) → is_over g ≡ true → IsInOrder (accepted (at_stage p g) r g)
unfolding accepted advanced with_next stage_after kind_after
over-on p (stage.Restore Signals) r is = over _ refl
over-on p (stage.Restore Faults) r is = over _ refl
over-on p (stage.Restore Entries) r is = over _ refl
over-on p (stage.Restore Exits) r is = run-over (at_stage p (stage.Restore Exits)) stage.Release refl
over-on p stage.Release r is = over _ refl
over-on p stage.Close r is = over _ refl
over-on p _ r is = absurd (false≢true is)

fine-on : (p : ProbeState) (g : ProbeStage) (r : Reply) → p.refusal ≡ None → IsInOrder (accepted (at_stage p g) r g)
unfolding accepted asking_accepted refused with_status
fine-on p stage.ReadMap r none =
    map-by IsInOrder (at_stage p stage.ReadMap) (bytes_read r)
    (λ e. refused-map e) (fine _ (advanced-refusal (at_stage p stage.ReadMap) ∙ none))
  where
    refused-map : (e : Errno) → IsInOrder (refused (at_stage p stage.ReadMap) e)
    refused-map e = refused-over (record (at_stage p stage.ReadMap) { refusal = Some e }) stage.ReadMap e
fine-on p (stage.Asking d Await) r none =
    poll-by IsInOrder (at_stage p (stage.Asking d Await)) r (fine _ none)
    (fine _ (advanced-refusal (at_stage p (stage.Asking d Await)) ∙ none))
fine-on p (stage.Asking d ReadAgent) r none =
    answer-by IsInOrder (at_stage p (stage.Asking d ReadAgent)) d (bytes_read r) (fine _ none) (fine _ none)
fine-on p (stage.Asking d ReadKind) r none =
    fine _ (kind-kept (λ t. t.refusal) (λ t lines. refl) (at_stage p (stage.Asking d ReadKind)) d
    (kind_in (bytes_read r)) ∙ none)
fine-on p stage.AwaitExit r none =
    poll-by IsInOrder (at_stage p stage.AwaitExit) r (fine _ none)
    (fine _ (advanced-refusal (at_stage p stage.AwaitExit) ∙ none))
fine-on p stage.Close r none = fine _ none
fine-on p (stage.Asking d SetRegisters) r none = fine _ (advanced-refusal (at_stage p (stage.Asking d SetRegisters))
    ∙ none)
fine-on p (stage.Asking d RunAgent) r none = fine _ (advanced-refusal (at_stage p (stage.Asking d RunAgent)) ∙ none)
fine-on p _ r none = fine _ (advanced-refusal _ ∙ none)

pub order-fed : (p : ProbeState) (r : Reply) → IsInOrder p → IsInOrder (fed p r)
unfolding refused
order-fed p r order =
    fed-by IsInOrder p r (λ e is. refused-over (record p { refusal = Some e }) p.stage e) (λ right. by p.refusal refl)
  where
    by : (o : Option Errno) → p.refusal ≡ o → IsInOrder (accepted p r p.stage)
    by None none = fine-on p p.stage r none
    by (Some e) is = over-on p p.stage r (order.refused e is)

pub first-order : (pid : ℕ) → IsInOrder (first_probe pid)
unfolding first_probe
first-order pid = fine (first_probe pid) refl
