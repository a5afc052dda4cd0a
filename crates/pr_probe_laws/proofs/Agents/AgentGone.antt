use Rattle.std.proofs.Common.{◌≡◌, ◌≢◌, ◌⊎◌, ◌==◌, ◌&&◌, ℕ, Bool, true, false, List, [], Option, Some, None, get_or, option_map, refl, sym, subst, ap, ◌∙◌, inl, inr}
use Rattle.std.proofs.lemmas.Bool.{cases_eq, false≢true}
use Rattle.std.proofs.lemmas.Option.{none-some, same_Some}
use Rattle.pr_model.specs.Lawful.{IsLawful}
use Rattle.pr_model.specs.Legal.{IsLegalEntry, after, after_turn}
use Rattle.pr_model.specs.LwpTurns.{LwpTurn, turn_of, with_counted}
use Rattle.pr_model.specs.State.{TracedLwp, TracedProcess, TracedState, live_process, lwp_of, with_lwp}
use Rattle.pr_model.specs.declared.calls.Call.{Call}
use Rattle.pr_model.specs.declared.calls.Call.TheVariants as call
use Rattle.pr_model.specs.declared.events.Act.{Act}
use Rattle.pr_model.specs.declared.events.Act.TheVariants as act
use Rattle.pr_model.specs.declared.events.Actor.{Actor}
use Rattle.pr_model.specs.declared.events.Actor.TheVariants.{Controller, Lwp, Clock}
use Rattle.pr_model.specs.declared.events.Entry.{Entry}
use Rattle.pr_num.proofs.ByIdLaws.{under-change_under, under-change_under_other}
use Rattle.pr_num.specs.Agents.{agent_id}
use Rattle.pr_num.specs.Layout.{stack_base}
use Rattle.pr_num.specs.Messages.{message_code, operands, spelling}
use Rattle.pr_num.specs.Words.{word_bytes}
use Rattle.pr_num.specs.declared.messages.Message.TheVariants as message
use Rattle.pr_probe.specs.AgentCode.{stack_size}
use Rattle.pr_probe.specs.Probes.{ProbeState, asking_call, call_of}
use Rattle.pr_probe.specs.TracedSets.{trace_message}
use Rattle.pr_probe.specs.declared.probe_stages.AskingStep.TheVariants.{SetRegisters, Run as RunAgent, Await, ReadAgent, ReadKind}
use Rattle.pr_probe.specs.declared.probe_stages.ProbeStage.{ProbeStage}
use Rattle.pr_probe.specs.declared.probe_stages.ProbeStage.TheVariants as stage
use Rattle.pr_probe.specs.declared.traced_sets.SetKind.{SetKind}
use Rattle.pr_probe.specs.declared.traced_sets.SetKind.TheVariants.{Signals, Faults, Entries, Exits}
use Rattle.pr_tool_laws.proofs.OwnFiles.StandingLemmas.{IsOther}
use Rattle.pr_tools.specs.Handles.{last_open}
use Rattle.pr_truss_laws.proofs.Machine.OutlastLemmas as outlast
use Rattle.pr_truss_laws.proofs.Machine.OutlastLemmas.{Outlasts, others-entry}
use Rattle.pr_truss_laws.proofs.Machine.StillLemmas.{halting-leaves}
use Rattle.pr_truss_laws.specs.Handles.{HasNoOtherWriter}
use Rattle.pr_truss_laws.specs.Stills.{IsHalting, IsUndisturbed, stopped_lwp, with_lwp_stopped}
use Rattle.pr_tool_laws.proofs.RunningAgain.NoRunLemmas.{first_byte}
use Rattle.pr_tool_laws.specs.Leaving.{SendsTo}

-- The agent is gone: a process that stops without one gets none by what others do, and with which call apfiles writes
-- back where the agent was answered.

module _ (n : ℕ) (s : TracedState) (k pid : ℕ) (lawful : IsLawful s) (sole : HasNoOtherWriter k pid s.opens)
    (p : TracedProcess) (live : live_process s.system pid ≡ Some p) (halts : IsHalting p)
    (none : lwp_of p agent_id ≡ None) where
  alone-without : (q : TracedProcess) → IsUndisturbed p q → lwp_of q agent_id ≡ None
  alone-without q alone = by (lwp_of q agent_id) refl
    where
      by : (o : Option TracedLwp) → lwp_of q agent_id ≡ o → o ≡ None
      by None is = refl
      by (Some l) is = let was = alone.each agent_id l is in absurd (none-some was.0 (sym none ∙ was.1.0))

  stopped-without : (id : ℕ) → lwp_of (with_lwp_stopped id p) agent_id ≡ None
  unfolding with_counted with_lwp
  stopped-without id = by (cases_eq id agent_id)
    where
      by : (id ≡ agent_id) ⊎ (id ≢ agent_id) → lwp_of (with_lwp_stopped id p) agent_id ≡ None
      by (inl same) =
          subst (λ (m : ℕ). lwp_of (with_lwp_stopped m p) agent_id ≡ None) (sym same)
          (under-change_under agent_id stopped_lwp p.lwps ∙ ap (option_map stopped_lwp) none)
      by (inr apart) = under-change_under_other id agent_id stopped_lwp apart p.lwps ∙ none

  elsewhere : (e : Entry) → IsLegalEntry n s e → ((id : ℕ) → e.actor ≢ Lwp pid id) → e.actor ≢ Controller k
      → (q : TracedProcess) → live_process (after s e).system pid ≡ Some q → lwp_of q agent_id ≡ None
  elsewhere e legal apart other q later = by (others-entry n s k pid e p lawful sole legal apart other live)
    where
      by : Outlasts pid p (after s e).system → lwp_of q agent_id ≡ None
      by (outlast.lives r at alone) =
          subst (λ (x : TracedProcess). lwp_of x agent_id ≡ None) (same_Some r q (sym at ∙ later))
          (alone-without r alone)
      by (outlast.killed z gone at status) = absurd (none-some q (sym gone ∙ later))

  pub still-without : (actor : Actor) (it : Act) → IsLegalEntry n s (record { actor = actor; act = it })
      → IsOther k actor it → (q : TracedProcess)
      → live_process (after s (record { actor = actor; act = it })).system pid ≡ Some q → lwp_of q agent_id ≡ None
  unfolding IsLegalEntry after
  still-without (Controller j) (act.Call c r) legal other q later =
      elsewhere (record { actor = Controller j; act = act.Call c r }) legal (λ id same. cc) (λ same. other (cc)) q later
  still-without (Lwp acting id) (act.Turn turned) legal other q later = by (cases_eq acting pid)
    where
      t : LwpTurn
      t = record { system = legal.0; turned = turned }

      by : (acting ≡ pid) ⊎ (acting ≢ pid) → lwp_of q agent_id ≡ None
      by (inl same) =
          let turn : turn_of s.system pid id ≡ Some t = ap (λ (m : ℕ). turn_of s.system m id) (sym same) ∙ legal.1 in
          let now = halting-leaves s.system pid p live halts id t turn in
          let there : live_process t.system pid ≡ Some q =
          ap (λ (o : Option LwpTurn). live_process (after_turn s o).system pid) (sym legal.1) ∙ later in
          subst (λ (x : TracedProcess). lwp_of x agent_id ≡ None)
          (same_Some (with_lwp_stopped id p) q (sym now ∙ there)) (stopped-without id)
      by (inr differs) =
          elsewhere (record { actor = Lwp acting id; act = act.Turn turned }) legal
          (λ other_id same. differs (cc)) (λ same. cc) q later
  still-without Clock (act.Tick m) legal other q later =
      elsewhere (record { actor = Clock; act = act.Tick m }) legal (λ id same. cc) (λ same. cc) q later
  still-without _ _ legal other q later = absurd legal

-- ---- the write of the answer's place

-- bytes begin with PCWRITE of an address whose third byte is that of the base of the stack
abbrev writes_stack : List ℕ → Bool
writes_stack bytes = (first_byte bytes == 23) && (get_or bytes 10 0 == 112)

stack-marked : (tail : List ℕ) → writes_stack (spelling (message.Write stack_base stack_size) tail) ≡ true
unfolding message_code operands word_bytes
stack-marked tail = refl

abbrev has_mark : Call → Bool
has_mark (call.Ctl handle bytes) = writes_stack bytes
has_mark _ = false

module _ (k pid : ℕ) (s : TracedState) (c : Call) (tail : List ℕ)
    (it : SendsTo k pid (message.Write stack_base stack_size) tail s c) (p : ProbeState) where
  never : {g : ProbeStage} (d : Call) → Some d ≡ Some c → has_mark d ≡ false → g ≡ stage.WriteStack
  never d same unmarked =
      absurd (false≢true (sym unmarked ∙ ap has_mark (same_Some d c same ∙ it.sends) ∙ stack-marked tail))

  sets : {g : ProbeStage} (to : ℕ) (kind : SetKind) (word : ℕ)
      → Some (call.Ctl to (spelling (trace_message kind word) [])) ≡ Some c → g ≡ stage.WriteStack
  unfolding trace_message message_code operands word_bytes
  sets to Signals word same = never _ same refl
  sets to Faults word same = never _ same refl
  sets to Entries word same = never _ same refl
  sets to Exits word same = never _ same refl

  shuts : {g : ProbeStage} (o : Option ℕ) → option_map call.Close o ≡ Some c → g ≡ stage.WriteStack
  shuts None same = absurd (none-some c same)
  shuts (Some number) same = never (call.Close number) same refl

  pub writes-stack-at : (g : ProbeStage) → call_of p g ≡ Some c → g ≡ stage.WriteStack
  unfolding call_of asking_call message_code operands word_bytes
  writes-stack-at stage.WriteStack same = refl
  writes-stack-at (stage.Trace kind) same = sets _ kind _ same
  writes-stack-at (stage.Asking d SetRegisters) same = never _ same refl
  writes-stack-at (stage.Asking d RunAgent) same = never _ same refl
  writes-stack-at (stage.Asking d Await) same = never _ same refl
  writes-stack-at (stage.Asking d ReadAgent) same = never _ same refl
  writes-stack-at (stage.Asking d ReadKind) same = never _ same refl
  writes-stack-at stage.UntraceExits same = sets _ Exits _ same
  writes-stack-at (stage.Retrace kind) same = sets _ kind _ same
  writes-stack-at (stage.Restore kind) same = sets _ kind _ same
  writes-stack-at stage.Close same = shuts (last_open p.opened) same
  writes-stack-at _ same = never _ same refl
