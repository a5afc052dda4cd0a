use Rattle.std.proofs.Common.{◌≡◌, ◌≢◌, ◌⊎◌, ◌<◌, ◌++◌, ℕ, true, false, Some, None, Ok, Result, List, [], ◌∷◌, length}
use Rattle.std.proofs.Common.{refl, sym, subst, ap, ◌∙◌, inl, inr}
use Rattle.std.proofs.lemmas.Bool.{cases_eq}
use Rattle.std.proofs.lemmas.Option.{none-some, same_Some}
use Rattle.std.proofs.lemmas.Result.{IfOk-weaker}
use Rattle.pr_api.specs.Entries.{call_entry}
use Rattle.pr_function_hides.proofs.Replies.OwnFiles.{HasItsFiles}
use Rattle.pr_function_hides.proofs.StepMarks.ReleasedMarks.{BeginWhere, HasRelease, IsLetGo, begins-so, close-lets-go}
use Rattle.pr_function_hides.proofs.StepMarks.ReleasedMarks.{elsewhere-release, is_mild, leaves_modes, mild-leaves, mild-stepless}
use Rattle.pr_function_hides.proofs.StepMarks.ReleasedMarks.{sent-release, sole-writer}
use Rattle.pr_function_hides.proofs.StepMarks.SteplessCalls.{Sort, clears, going-sort, leaving-sort, mild, runs, unsent}
use Rattle.pr_function_hides.proofs.StepMarks.StepsKept as Steps
use Rattle.pr_function_hides.proofs.StepMarks.StepsKept.{Calm, Going, Over, Releaser, SetsAt, StepsKept, calm-called}
use Rattle.pr_function_hides.proofs.StepMarks.StepsKept.{foreign-releaser, foreign-to, kept, made-later, over-later}
use Rattle.pr_function_hides.proofs.Tidy.TidyCalls as Calls
use Rattle.pr_function_hides.proofs.Tidy.TidyCovers as Called
use Rattle.pr_function_hides.proofs.Tidy.TidyKept.{Course, Kept as TidyKept, Truss, goes_on, leaves_them}
use Rattle.pr_function_hides.specs.RunsOfTrusses.{IsRunOfTrusses}
use Rattle.pr_function_laws.proofs.Stepping.BreakpointLemmas.{IsOwnEntry}
use Rattle.pr_function_laws.proofs.Marks.KeptPlaces.{AtStage}
use Rattle.pr_function_laws.proofs.OpenedProcesses.OpenedLemmas.{control-made, is_plain, run-plain}
use Rattle.pr_function_laws.specs.Lifted.{HasControl}
use Rattle.pr_function_laws.specs.Stretches.{acts_by}
use Rattle.pr_hidden.specs.Hiders.{Hiders, hides}
use Rattle.pr_hidden.specs.Tidiness.{IsPassiveBut}
use Rattle.pr_model.specs.Calls.{Answer, answer_to}
use Rattle.pr_model.specs.Handles.{handle_of, is_writable}
use Rattle.pr_model.specs.Lawful.{IsLawful}
use Rattle.pr_model.specs.Legal.{state_after}
use Rattle.pr_model.specs.State.{TracedState, live_process}
use Rattle.pr_model.specs.declared.calls.Call.{Call}
use Rattle.pr_model.specs.declared.calls.Call.TheVariants as call
use Rattle.pr_model.specs.declared.calls.File.TheVariants as file
use Rattle.pr_model.specs.declared.calls.Mode.TheVariants.{WriteExcl}
use Rattle.pr_model.specs.declared.calls.Reply.{Reply}
use Rattle.pr_model.specs.declared.events.Act.TheVariants as act
use Rattle.pr_model.specs.declared.events.Actor.TheVariants.{Controller}
use Rattle.pr_model.specs.declared.events.Entry.{Entry}
use Rattle.pr_model.specs.declared.handles.Held.{Held}
use Rattle.pr_num.specs.Messages.{first_message, spelling}
use Rattle.pr_num.specs.declared.messages.Message.{Message}
use Rattle.pr_num.specs.declared.messages.Message.TheVariants as message
use Rattle.pr_num.specs.declared.messages.MsgFault.{MsgFault}
use Rattle.pr_probe_laws.proofs.StepMarks.MarkCalls.{MarksNone, SetsNoStep}
use Rattle.pr_probe_laws.proofs.StepMarks.MarkTurns.{IsOne}
use Rattle.pr_probe_laws.specs.StepMarks.{IsUnstepped}
use Rattle.pr_report_laws.proofs.Machine.ControlLaws.{clear-reads}
use Rattle.pr_truss.specs.FunctionCalls.{next_function_call_of}
use Rattle.pr_truss.specs.Marks.{has_functions}
use Rattle.pr_truss.specs.Messages.{all_modes, message_call}
use Rattle.pr_truss.specs.Trusses.{TrussState, traced_at}
use Rattle.pr_truss.specs.declared.asides.Aside.TheVariants.{Nothing}
use Rattle.pr_truss.specs.declared.stages.OpeningStep.TheVariants as opening
use Rattle.pr_truss.specs.declared.stages.Stage.TheVariants as stage
use Rattle.pr_truss_laws.proofs.Machine.TakenLemmas.{ReadsAs}
use Rattle.pr_world.specs.ControllerStates.{ControllerState}

-- What a call of truss leaves of the step marks and of PR_RLC in each process, also where truss leaves its processes: a
-- mark is set with PCRUN alone, in a process that was opened whole; and with the close of the control file all end.

-- messages that leave what is set leave the modes
plain-leaves : (m : Message) → is_plain m ≡ true → leaves_modes m ≡ true
plain-leaves (message.Unset modes) is = is
plain-leaves (message.Ssig signal) is = is
plain-leaves (message.Kill signal) is = is
plain-leaves _ is = refl

run-leaves : (flags : ℕ) → BeginWhere leaves_modes (spelling (message.Run flags) [])
run-leaves flags =
    IfOk-weaker (first_message (spelling (message.Run flags) [])) _ _ (λ f is. plain-leaves f.0 is) (run-plain flags)

module _ {n : ℕ} {who : Hiders} {controllers : List ControllerState} {first : TracedState}
    {h : List Entry} (run : IsRunOfTrusses n who controllers first h) (passive : IsPassiveBut who h)
    (unstepped : IsUnstepped first.system)
    (front back : List Entry) (j : ℕ) (c : Call) (r : Reply) (place : h ≡ front ++ call_entry j c r ∷ back)
    (steps : StepsKept run passive unstepped front) (hider : hides who j ≡ true) where
  abbrev pub later_front : List Entry
  later_front = front ++ call_entry j c r ∷ []

  abbrev pub CalmAt : List Entry → ℕ → Type 0
  CalmAt es pid = Calm run passive unstepped es pid

  abbrev pub ReleaserAt : List Entry → ℕ → Type 0
  ReleaserAt es pid = Releaser run passive unstepped es pid

  abbrev pub v : TracedState
  v = state_after first front

  abbrev pub u : TracedState
  u = state_after first later_front

  abbrev pub kept-now : TidyKept who controllers first h front
  kept-now = kept run passive unstepped front (call_entry j c r ∷ back) place

  abbrev pub truss : Truss who controllers first h front j
  truss = Calls.truss-now run front back j c r place kept-now hider

  abbrev pub tr : TrussState
  tr = Calls.tr run front back j c r place kept-now hider

  pub has : has_functions tr.options ≡ true
  has = Calls.has run front back j c r place kept-now hider

  pub next : next_function_call_of tr ≡ Some c
  next = Calls.next run front back j c r place kept-now hider

  pub files : HasItsFiles j tr v
  files = Calls.files-now run front back j c r place kept-now hider

  pub own : IsOwnEntry j v (call_entry j c r) (record { call = c; reply = r })
  own = Calls.own run front back j c r place kept-now hider

  abbrev pub answer : Answer
  answer = let w = own in w.answer

  pub given : answer_to v j c ≡ Some answer
  given = let w = own in w.is

  pub later-state : answer.state ≡ u
  later-state = (let w = own in w.later) ∙ sym (Calls.called-now run front back j c r place kept-now)

  pub lawful : IsLawful v
  lawful = Calls.lawful-now run front back j c r place kept-now hider

  pub over-answer : (pid : ℕ) → pid < v.system.made → live_process v.system pid ≡ None
      → live_process answer.state.system pid ≡ None
  over-answer pid made none =
      ap (λ (x : TracedState). live_process x.system pid) later-state
      ∙ over-later run passive unstepped front (Controller j) (act.Call c r) back place pid made none

  abbrev held-of : ℕ → Held
  held-of q = record { controller = j; pid = (traced_at tr q).pid; lwp = 0; file = file.Ctl; mode = WriteExcl }

  pub sort : Sort c tr
  sort = let w = truss in by w.course
    where
      by : Course tr → Sort c tr
      by (goes_on goes flags) = going-sort c tr has next goes
      by (leaves_them on there) = leaving-sort c tr has next there

  pub going : tr.leaving ≡ false → Going run passive unstepped front tr
  going off = let w = truss in steps.trusses j hider w.t w.is off

  -- ---- step marks

  ctl-same : {a b : ℕ} {x y : List ℕ} → call.Ctl a x ≡ call.Ctl b y → (a ≡ b) × (x ≡ y)
  ctl-same e = (cc, cc)

  -- the message goes to another process
  pub elsewhere : (pid q : ℕ) (bytes : List ℕ) → q < length tr.traced → c ≡ call.Ctl (traced_at tr q).control bytes
      → (traced_at tr q).pid ≢ pid → MarksNone (IsOne pid) v j c
  elsewhere pid q bytes within is apart = record {
    none = λ handle sent held m len same there its read.
        let at : (traced_at tr q).control ≡ handle = (ctl-same (sym is ∙ same)).0 in
        let f = files in
        let found : held-of q ≡ held =
        same_Some (held-of q) held (sym (f.control q within) ∙ ap (handle_of v.opens j) at ∙ there) in
        absurd (apart (ap (λ (x : Held). x.pid) found ∙ its));
  }

  pub no-message : (pid : ℕ) → ((number : ℕ) (bytes : List ℕ) → c ≢ call.Ctl number bytes) → MarksNone (IsOne pid) v j c
  no-message pid none = record {
    none = λ handle bytes held m len is there its read. absurd (none handle bytes is);
  }

  mild-none : (pid handle : ℕ) (bytes : List ℕ) → c ≡ call.Ctl handle bytes → BeginWhere is_mild bytes
      → MarksNone (IsOne pid) v j c
  mild-none pid handle bytes is begins = record {
    none = λ number sent held m len same there its read.
        mild-stepless m
        (begins-so is_mild sent (subst (BeginWhere is_mild) (ctl-same (sym is ∙ same)).1 begins) m len read);
  }

  -- PCUNSET
  unset-none : (pid handle : ℕ) → c ≡ message_call handle (message.Unset all_modes) → MarksNone (IsOne pid) v j c
  unset-none pid handle is = record {
    none = λ number sent held m len same there its read.
        subst SetsNoStep
        (sym (unsets m len (ap first_message (ctl-same (sym is ∙ same)).1 ∙ read))) tt;
  }
    where
      unsets : (m : Message) (len : ℕ) → first_message (spelling (message.Unset all_modes) []) ≡ Ok (m, len)
          → m ≡ message.Unset all_modes
      unsets m len read =
          subst (λ (x : Result (Message × ℕ) MsgFault). ReadsAs (message.Unset all_modes) x) read clear-reads

  calm-stays : (pid : ℕ) → CalmAt front pid → MarksNone (IsOne pid) v j c → CalmAt later_front pid
  calm-stays pid calm none = calm-called run passive unstepped front back j c r place pid (λ granted. none) calm

  -- a process in which it does not run an lwp
  pub calm-apart : (pid : ℕ)
      → ((q : ℕ) → q < length tr.traced → tr.stage ≡ stage.Running q → (traced_at tr q).pid ≢ pid)
      → CalmAt front pid → CalmAt later_front pid
  calm-apart pid apart calm = by sort
    where
      by : Sort c tr → CalmAt later_front pid
      by (mild q within bytes is begins) = calm-stays pid calm (mild-none pid _ bytes is begins)
      by (clears q within off at idle is) = calm-stays pid calm (unset-none pid _ is)
      by (runs q within off at idle flags is) = calm-stays pid calm (elsewhere pid q _ within is (apart q within at))
      by (unsent never) = calm-stays pid calm (no-message pid never)

  -- ---- PR_RLC

  -- it clears the modes of the process, which it opens
  pub record IsCleared (pid : ℕ) : Type 0 where
    pub q : ℕ
    pub within : q < length tr.traced
    pub off : tr.leaving ≡ false
    pub at : tr.stage ≡ stage.Opening q opening.ClearModes
    pub idle : tr.aside ≡ Nothing
    pub its : (traced_at tr q).pid ≡ pid

  -- else PR_RLC stays set, as long as the control file is not closed
  pub own-release : (pid control : ℕ) → HasControl j pid control v → c ≢ call.Close control → HasRelease v pid
      → HasRelease u pid ⊎ IsCleared pid
  own-release pid control its unclosed set = by sort
    where
      later : HasRelease answer.state pid → HasRelease u pid ⊎ IsCleared pid
      later it = inl (subst (λ (x : TracedState). HasRelease x pid) later-state it)

      away : (q : ℕ) (bytes : List ℕ) → q < length tr.traced → c ≡ call.Ctl (traced_at tr q).control bytes
          → (traced_at tr q).pid ≢ pid → HasRelease answer.state pid
      away q bytes within is apart =
          elsewhere-release n j tr.options v lawful c answer given over-answer pid control its
          (λ m held acts there writes same.
          let at : (traced_at tr q).control ≡ m =
          same_Some (traced_at tr q).control m (sym (ap acts_by is) ∙ acts) in
          let f = files in
          let found : held-of q ≡ held =
          same_Some (held-of q) held (sym (f.control q within) ∙ ap (handle_of v.opens j) at ∙ there) in
          apart (ap (λ (x : Held). x.pid) found ∙ same)) set

      to : (q : ℕ) (bytes : List ℕ) → q < length tr.traced → c ≡ call.Ctl (traced_at tr q).control bytes
          → BeginWhere leaves_modes bytes → HasRelease answer.state pid
      to q bytes within is begins = elim (cases_eq (traced_at tr q).pid pid) [
        | inl same ↦
            sent-release n j tr.options v lawful c answer given over-answer pid (traced_at tr q).control
            (subst (λ i. HasControl j i (traced_at tr q).control v) same (let f = files in f.control q within)) bytes is
            begins set
        | inr apart ↦ away q bytes within is apart
      ]

      silent : ((number : ℕ) (bytes : List ℕ) → c ≢ call.Ctl number bytes) → HasRelease answer.state pid
      silent never =
          elsewhere-release n j tr.options v lawful c answer given over-answer pid control its
          (λ m held acts there writes same. of m held there writes same c refl acts) set
        where
          of : (m : ℕ) (held : Held) → handle_of v.opens j m ≡ Some held → is_writable held.mode ≡ true
              → held.pid ≡ pid → (d : Call) → c ≡ d → acts_by d ≡ Some m → ⊥
          of m held there writes same (call.Ctl number bytes) is acts = never number bytes is
          of m held there writes same (call.Close number) is acts =
              let at : m ≡ control = sole-writer j v lawful pid control its m held there writes same in
              unclosed (is ∙ ap call.Close (same_Some number m acts ∙ at))
          of m held there writes same d is acts = none-some m acts

      by : Sort c tr → HasRelease u pid ⊎ IsCleared pid
      by (mild q within bytes is begins) =
          later (to q bytes within is
          (IfOk-weaker (first_message bytes) _ _ (λ f it. mild-leaves f.0 it) begins))
      by (clears q within off at idle is) = elim (cases_eq (traced_at tr q).pid pid) [
        | inl same ↦ inr (record { q = q; within = within; off = off; at = at; idle = idle; its = same })
        | inr apart ↦ later (away q _ within is apart)
      ]
      by (runs q within off at idle flags is) = later (to q _ within is (run-leaves flags))
      by (unsent never) = later (silent never)

  -- ---- each process

  own-there : (number : ℕ) (x : Held) → handle_of v.opens j number ≡ Some x → c ≢ call.Close number
      → handle_of u.opens j number ≡ Some x
  own-there = Called.own-there run front back j c r place kept-now hider

  releaser-of : (pid control : ℕ) → HasControl j pid control v → c ≢ call.Close control → HasRelease u pid
      → ReleaserAt later_front pid
  releaser-of pid control its unclosed set = record {
    k = j;
    hider = hider;
    control = control;
    its = own-there control _ its unclosed;
    release = set;
  }

  -- it runs a process that it has opened whole
  run-set : (q : ℕ) → tr.leaving ≡ false → tr.stage ≡ stage.Running q → HasRelease v (traced_at tr q).pid
  run-set q off at =
      let g = going off in
      let k = g.sets in
      let w = subst (AtStage (SetsAt run passive unstepped front) tr.traced) at k.stage in w.1.1

  run-releaser : (q : ℕ) → q < length tr.traced → tr.leaving ≡ false → tr.stage ≡ stage.Running q → (bytes : List ℕ)
      → c ≡ call.Ctl (traced_at tr q).control bytes → ReleaserAt later_front (traced_at tr q).pid
  run-releaser q within off at bytes is =
      let f = files in
      by (own-release (traced_at tr q).pid (traced_at tr q).control (f.control q within) unclosed (run-set q off at))
    where
      unclosed : c ≢ call.Close (traced_at tr q).control
      unclosed closes =
          let both : call.Ctl (traced_at tr q).control bytes ≡ call.Close (traced_at tr q).control = sym is ∙ closes in
          cc

      by : HasRelease u (traced_at tr q).pid ⊎ IsCleared (traced_at tr q).pid
          → ReleaserAt later_front (traced_at tr q).pid
      by (inl set) =
          let f = files in releaser-of (traced_at tr q).pid (traced_at tr q).control (f.control q within) unclosed set
      by (inr cleared) =
          absurd (let both : stage.Running q ≡ stage.Opening cleared.q opening.ClearModes = sym at ∙ cleared.at in cc)

  calm-own : (pid : ℕ) → CalmAt front pid → CalmAt later_front pid ⊎ ReleaserAt later_front pid
  calm-own pid calm = by sort
    where
      by : Sort c tr → CalmAt later_front pid ⊎ ReleaserAt later_front pid
      by (mild q within bytes is begins) = inl (calm-stays pid calm (mild-none pid _ bytes is begins))
      by (clears q within off at idle is) = inl (calm-stays pid calm (unset-none pid _ is))
      by (runs q within off at idle flags is) = elim (cases_eq (traced_at tr q).pid pid) [
        | inl same ↦ inr (subst (ReleaserAt later_front) same (run-releaser q within off at _ is))
        | inr apart ↦ inl (calm-stays pid calm (elsewhere pid q _ within is apart))
      ]
      by (unsent never) = inl (calm-stays pid calm (no-message pid never))

  -- what truss opens has no step mark yet
  cleared-calm : (pid : ℕ) → IsCleared pid → CalmAt later_front pid
  cleared-calm pid w =
      calm-apart pid
      (λ q within at.
      absurd (let both : stage.Running q ≡ stage.Opening w.q opening.ClearModes = sym at ∙ w.at in cc))
      (subst (CalmAt front) w.its (let g = going w.off in let so = g.closing in opened so.stage))
    where
      opened : Steps.OpenedSo run passive unstepped front tr tr.stage → CalmAt front (traced_at tr w.q).pid
      opened it = subst (Steps.OpenedSo run passive unstepped front tr) w.at it

  let-go : (pid control : ℕ) → HasControl j pid control v → c ≡ call.Close control → HasRelease v pid
      → CalmAt later_front pid
  let-go pid control its closes set =
      by (subst (λ (x : TracedState). IsLetGo pid x.system) later-state
      (close-lets-go j v lawful pid control its answer
      (subst (λ (d : Call). answer_to v j d ≡ Some answer) closes given) set))
    where
      by : IsLetGo pid u.system → CalmAt later_front pid
      by (inl unmarked) = inl unmarked
      by (inr none) = inr (record {
        made = made-later run passive unstepped front (Controller j) (act.Call c r) back place pid
            (control-made j pid control v lawful its);
        over = none;
      })

  releaser-own : (pid : ℕ) → ReleaserAt front pid → CalmAt later_front pid ⊎ ReleaserAt later_front pid
  releaser-own pid x = elim (cases_eq j x.k) [
    | inl same ↦ mine x.control (subst (λ i. HasControl i pid x.control v) (sym same) x.its) c refl
    | inr apart ↦
        inr (foreign-releaser run passive unstepped front (Controller j) (act.Call c r) back place pid x
        (foreign-to run passive unstepped front back j c r place x.k apart))
  ]
    where
      stays : (control : ℕ) → HasControl j pid control v → c ≢ call.Close control
          → CalmAt later_front pid ⊎ ReleaserAt later_front pid
      stays control its unclosed = by (own-release pid control its unclosed x.release)
        where
          by : HasRelease u pid ⊎ IsCleared pid → CalmAt later_front pid ⊎ ReleaserAt later_front pid
          by (inl set) = inr (releaser-of pid control its unclosed set)
          by (inr cleared) = inl (cleared-calm pid cleared)

      mine : (control : ℕ) → HasControl j pid control v → (d : Call) → c ≡ d
          → CalmAt later_front pid ⊎ ReleaserAt later_front pid
      mine control its (call.Close number) is = elim (cases_eq number control) [
        | inl this ↦ inl (let-go pid control its (is ∙ ap call.Close this) x.release)
        | inr differs ↦ stays control its (λ closes. differs (close-same (sym is ∙ closes)))
      ]
        where
          close-same : {a b : ℕ} → call.Close a ≡ call.Close b → a ≡ b
          close-same e = cc
      mine control its d is = stays control its (λ closes. let e : d ≡ call.Close control = sym is ∙ closes in cc)

  pub own-bare : (pid : ℕ) → CalmAt later_front pid ⊎ ReleaserAt later_front pid
  own-bare pid = by (steps.bare pid)
    where
      by : CalmAt front pid ⊎ ReleaserAt front pid → CalmAt later_front pid ⊎ ReleaserAt later_front pid
      by (inl calm) = calm-own pid calm
      by (inr x) = releaser-own pid x
