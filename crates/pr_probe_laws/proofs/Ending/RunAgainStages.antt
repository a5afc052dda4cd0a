use Rattle.std.proofs.Common.{◌≡◌, ◌≢◌, ◌∷◌, ◌++◌, ℕ, Bool, false, List, [], Option, Some, None, refl, sym, subst, ap, ◌∙◌, arith}
use Rattle.std.proofs.lemmas.Bool.{false≢true}
use Rattle.std.proofs.lemmas.Option.{same_Some}
use Rattle.pr_api.specs.Entries.{call_entry}
use Rattle.pr_model.specs.Calls.{Answer, answer_to}
use Rattle.pr_model.specs.Lawful.{IsLawful}
use Rattle.pr_model.specs.Legal.{state_after}
use Rattle.pr_model.specs.Replies.{number_of}
use Rattle.pr_model.specs.State.{TracedState}
use Rattle.pr_model.specs.declared.calls.Call.{Call}
use Rattle.pr_model.specs.declared.calls.Call.TheVariants as call
use Rattle.pr_model.specs.declared.calls.File.{File}
use Rattle.pr_model.specs.declared.calls.Mode.{Mode}
use Rattle.pr_model.specs.declared.calls.Reply.TheVariants as reply
use Rattle.pr_model.specs.declared.events.Entry.{Entry}
use Rattle.pr_num.specs.Limits.{read_limit}
use Rattle.pr_num.specs.declared.errnos.Errno.{Errno}
use Rattle.pr_num.specs.declared.files.FdKind.{FdKind}
use Rattle.pr_probe.proofs.FedLemmas.{answer-by, fed-back, fed-by, kind-kept, map-by, not-refused, poll-by, run-next-by}
use Rattle.pr_probe.specs.DescriptorLines.{kind_in}
use Rattle.pr_probe.specs.ProbeStages.{asking_after, file_of, is_passed_over, lwp_of, mode_of, place_of, stage_after, stage_asked, stage_opened}
use Rattle.pr_probe.specs.Probes.{ProbeState, accepted, advanced, asked, asking_accepted, at_stage, call_of, fed, next_call_of, refusal_in, with_kind, with_next, with_status}
use Rattle.pr_probe.specs.TracedSets.{kind_after}
use Rattle.pr_probe.specs.declared.probe_stages.AskingStep.{AskingStep}
use Rattle.pr_probe.specs.declared.probe_stages.AskingStep.TheVariants.{Await, ReadAgent, ReadKind}
use Rattle.pr_probe.specs.declared.probe_stages.ProbeFile.TheVariants.{Control, Status, Lstatus, Map}
use Rattle.pr_probe.specs.declared.probe_stages.ProbeStage.{ProbeStage}
use Rattle.pr_probe.specs.declared.probe_stages.ProbeStage.TheVariants as stage
use Rattle.pr_probe.specs.declared.traced_sets.SetKind.TheVariants.{Signals, Faults, Entries, Exits}
use Rattle.pr_tool_laws.proofs.RunningAgain.LeavingLemmas.{Comes, HasLookedFirst, comes-still, looked-still, opens-more, ran-now, ran-still}
use Rattle.pr_tools.specs.Calls.{run_bytes}
use Rattle.pr_tools.specs.Handles.{handle_at, last_open}
use Rattle.pr_tools.specs.Replies.{bytes_read}
use Rattle.pr_tools.specs.Stacks.{process_stands}
use Rattle.pr_probe_laws.proofs.Files.FilePlaces.{HasFirst, held_of}
use Rattle.pr_probe_laws.proofs.PuttingBack.ProbeCalls.{asked-next}
use Rattle.pr_probe_laws.proofs.Sets.SetCalls.{only-closes, taken}
use Rattle.pr_probe_laws.proofs.Sets.SetStages.{Knows}
use Rattle.pr_tool_laws.specs.Leaving.{HasRunAtLast, IsNoCall}

-- The stages of apfiles, with what it has noted of the process when it came, and whether it has run that again.

module _ (k pid : ℕ) (first : TracedState) where
  abbrev Looked : List Entry → ProbeState → Type 0
  Looked h p = HasLookedFirst k pid first h p.stood

  -- what is so at a stage of a probe that was not refused
  unfoldable pub Leads : List Entry → ProbeState → ProbeStage → Type 0
  Leads h p (stage.Open Control) = Comes k h
  Leads h p (stage.Open Status) = Comes k h
  Leads h p (stage.Open Lstatus) = Comes k h
  Leads h p (stage.Open Map) = Comes k h
  Leads h p stage.ReadFirst = Comes k h
  Leads h p stage.Run = Looked h p × (p.stood ≡ false)
  Leads h p stage.Close = Looked h p × (p.stood ≡ false → HasRunAtLast k pid first h)
  Leads h p (stage.Restore kind) = ⊥
  Leads h p stage.Release = ⊥
  Leads h p _ = Looked h p

  -- ---- an entry later

  module _ (h : List Entry) (e : Entry) (none : IsNoCall k e) where
    no-more : Comes k h → Comes k (h ++ e ∷ [])
    no-more so = comes-still k h e (λ c r is. absurd (none c r is)) so

    pub leads-still : (p : ProbeState) (g : ProbeStage) → Leads h p g → Leads (h ++ e ∷ []) p g
    unfolding Leads
    leads-still p (stage.Open Control) so = no-more so
    leads-still p (stage.Open Status) so = no-more so
    leads-still p (stage.Open Lstatus) so = no-more so
    leads-still p (stage.Open Map) so = no-more so
    leads-still p stage.ReadFirst so = no-more so
    leads-still p stage.Run so = (looked-still k pid first h e p.stood so.0, so.1)
    leads-still p stage.Close so = (
      looked-still k pid first h e p.stood so.0,
      λ not. ran-still k pid first h e (λ c r is. absurd (none c r is)) (so.1 not),
    )
    leads-still p (stage.Restore kind) so = absurd so
    leads-still p stage.Release so = absurd so
    leads-still p _ so = looked-still k pid first h e p.stood so

  -- ---- its calls

  module _ (h : List Entry) (c : Call) (a : Answer) (lawful : IsLawful (state_after first h))
      (given : answer_to (state_after first h) k c ≡ Some a) where
    abbrev s : TracedState
    s = state_after first h

    abbrev it : Entry
    it = call_entry k c a.reply

    abbrev longer : List Entry
    longer = h ++ it ∷ []

    -- what is so once the reply was fed
    abbrev Next : ProbeState → Type 0
    Next u = u.refusal ≡ None → Leads longer u u.stage

    on : (stood : Bool) → HasLookedFirst k pid first h stood → HasLookedFirst k pid first longer stood
    on stood so = looked-still k pid first h it stood so

    -- it opens a file more
    opens-on : (of id : ℕ) (name : File) (way : Mode) → Some (call.Open of id name way) ≡ Some c
        → Comes k h → Comes k longer
    opens-on of id name way same so =
        comes-still k h it
        (opens-more k c a.reply of id name way (sym (same_Some (call.Open of id name way) c same))) so

    -- its first look at the process
    first-look : (p : ProbeState) → HasFirst k pid 4 s.opens p.opened
        → Some (call.Read (number_of (handle_at p.opened (place_of Lstatus))) 0 read_limit) ≡ Some c
        → Comes k h → ((e : Errno) → a.reply ≢ reply.Fail e)
        → HasLookedFirst k pid first longer (process_stands (bytes_read a.reply))
    unfolding place_of file_of lwp_of mode_of
    first-look p holds same comes accepts =
        let file = holds.each Lstatus (omega arith) in (
          record {
            before = h;
            call = c;
            reply = a.reply;
            after = [];
            place = refl;
            handle = file.number;
            is_read = sym (same_Some _ c same) ∙ ap (λ (o : Option ℕ). call.Read (number_of o) 0 read_limit) file.at;
            there = file.stands;
            granted = accepts;
            noted = refl;
          },
          comes,
        )

    -- it runs the process
    run-now : (p : ProbeState) → HasFirst k pid 6 s.opens p.opened
        → Some (call.Ctl (number_of (handle_at p.opened (place_of Control))) run_bytes) ≡ Some c
        → ((e : Errno) → a.reply ≢ reply.Fail e) → HasRunAtLast k pid first longer
    unfolding place_of file_of lwp_of mode_of
    run-now p holds same accepts =
        let file = holds.each Control (omega arith) in
        let is : c ≡ call.Ctl file.number run_bytes =
        sym (same_Some _ c same) ∙ ap (λ (o : Option ℕ). call.Ctl (number_of o) run_bytes) file.at in
        ran-now k first h c a lawful given file.number (held_of k pid Control) is file.stands refl accepts

    leads-asked : (p : ProbeState) (d : ℕ) → Looked longer p → Leads longer (asked p d) (stage_asked d)
    unfolding Leads
    leads-asked p d so =
        asked-next (λ (g : ProbeStage). Leads longer (asked p d) g) (λ e step. so) so d

    asks-on : (p : ProbeState) (d : ℕ) (step : AskingStep) → Looked h p
        → Next (asking_accepted (at_stage p (stage.Asking d step)) a.reply d step)
    unfolding Leads asking_accepted advanced with_next stage_after asking_after
    asks-on p d Await so =
        poll-by Next (at_stage p (stage.Asking d Await)) a.reply (λ none. on p.stood so) (λ none. on p.stood so)
    asks-on p d ReadAgent so =
        answer-by Next (at_stage p (stage.Asking d ReadAgent)) d (bytes_read a.reply) (λ none. on p.stood so)
        (λ none. leads-asked (at_stage p (stage.Asking d ReadAgent)) d (on p.stood so))
    asks-on p d ReadKind so =
        let q : ProbeState = at_stage p (stage.Asking d ReadKind) in
        let kind : Option FdKind = kind_in (bytes_read a.reply) in
        λ none. leads-asked (with_kind q d kind) d
        (subst (λ (b : Bool). HasLookedFirst k pid first longer b)
        (sym (kind-kept (λ t. t.stood) (λ t lines. refl) q d kind)) (on p.stood so))
    asks-on p d _ so = λ none. on p.stood so

    step-on : (p : ProbeState) (g : ProbeStage) → Knows k pid first h s (at_stage p g) g → Leads h (at_stage p g) g
        → call_of (at_stage p g) g ≡ Some c → refusal_in g a.reply ≡ None → Next (accepted (at_stage p g) a.reply g)
    unfolding Leads Knows call_of accepted advanced with_next with_status stage_after stage_opened kind_after
        is_passed_over
    step-on p (stage.Open Control) knows so same right = λ none. opens-on _ _ _ _ same so
    step-on p (stage.Open Status) knows so same right = λ none. opens-on _ _ _ _ same so
    step-on p (stage.Open Lstatus) knows so same right = λ none. opens-on _ _ _ _ same so
    step-on p (stage.Open Map) knows so same right = λ none. opens-on _ _ _ _ same so
    step-on p stage.ReadFirst knows so same right =
        λ none.
        first-look p knows.holds same so (taken k pid first h c a lawful given stage.ReadFirst (λ e. refl) right)
    step-on p stage.ReadMap knows so same right =
        map-by Next (at_stage p stage.ReadMap) (bytes_read a.reply)
        (λ e none. not-refused (at_stage p stage.ReadMap) e none) (λ none. on p.stood so)
    step-on p (stage.Trace Signals) knows so same right = λ none. on p.stood so
    step-on p (stage.Trace Faults) knows so same right = λ none. on p.stood so
    step-on p (stage.Trace Entries) knows so same right = λ none. on p.stood so
    step-on p (stage.Trace Exits) knows so same right = λ none. on p.stood so
    step-on p (stage.Asking d step) knows so same right = asks-on (at_stage p (stage.Asking d step)) d step so
    step-on p stage.AwaitExit knows so same right =
        poll-by Next (at_stage p stage.AwaitExit) a.reply (λ none. on p.stood so) (λ none. on p.stood so)
    step-on p (stage.Retrace Signals) knows so same right = λ none. on p.stood so
    step-on p (stage.Retrace Faults) knows so same right = λ none. on p.stood so
    step-on p (stage.Retrace Entries) knows so same right = λ none. on p.stood so
    step-on p (stage.Retrace Exits) knows so same right =
        run-next-by Next (at_stage p (stage.Retrace Exits)) stage.Run
        (λ stood none. (on p.stood so, λ not. absurd (false≢true (sym not ∙ stood))))
        (λ runs none. (on p.stood so, runs))
    step-on p stage.Run knows so same right =
        λ none. (
          on p.stood so.0,
          λ not. run-now p knows.holds same (taken k pid first h c a lawful given stage.Run (λ e. refl) right),
        )
    step-on p stage.Close knows so same right = λ none. (
      on p.stood so.0,
      λ not.
          ran-still k pid first h it (only-closes k pid first h c a lawful given (last_open p.opened) same)
          (so.1 not),
    )
    step-on p (stage.Restore kind) knows so same right = absurd so
    step-on p stage.Release knows so same right = absurd so
    step-on p _ knows so same right = λ none. on p.stood so

    -- a probe that was fed the reply to its call
    pub called-leads : (p : ProbeState) → next_call_of p ≡ Some c
        → (p.refusal ≡ None → Knows k pid first h s p p.stage) → (p.refusal ≡ None → Leads h p p.stage)
        → Next (fed p a.reply)
    unfolding next_call_of
    called-leads p next knows so none =
        let before : p.refusal ≡ None = fed-back p a.reply none in
        fed-by Next p a.reply (λ e is refused. not-refused p e refused)
        (λ right. step-on p p.stage (knows before) (so before) next right) none
