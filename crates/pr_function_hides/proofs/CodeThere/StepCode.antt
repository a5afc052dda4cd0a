use Rattle.std.proofs.Common.{◌≡◌, ◌≢◌, ◌<◌, ◌++◌, ℕ, true, false, Option, Some, None, List, [], ◌∷◌, length, refl, sym}
use Rattle.std.proofs.Common.{subst, ap, ◌∙◌, inl, inr}
use Rattle.std.proofs.lemmas.Bool.{cases_Bool, false≢true}
use Rattle.std.proofs.lemmas.Option.{none-some, same_Some}
use Rattle.std.specs.List.{slice_get}
use Rattle.pr_api.specs.Entries.{call_entry}
use Rattle.pr_function_hides.proofs.Files.CallFacts.{same-truss}
use Rattle.pr_function_hides.proofs.GoingOn.CalmCalls as Calm
use Rattle.pr_function_hides.proofs.CodeThere.CodeCalls as Code
use Rattle.pr_function_hides.proofs.CodeThere.CodeLaw.{spaces}
use Rattle.pr_function_hides.proofs.CodeThere.CodeWalk.{CodeAt, code-stays, kept-there}
use Rattle.pr_function_hides.proofs.Copying.CopyEnds.{copy-finds-lifted}
use Rattle.pr_function_hides.proofs.Tidy.CopyFree.{copies-on, goes-on-there}
use Rattle.pr_function_hides.proofs.Copying.CopyRows.{breakpoint-stands}
use Rattle.pr_function_hides.proofs.Replies.CountedWalk.{BesideSo, StageSo}
use Rattle.pr_function_hides.proofs.Replies.FunctionSets.{has-with}
use Rattle.pr_function_hides.proofs.Replies.OwnFiles.{GoesOn, IsBeside, IsWithin}
use Rattle.pr_function_hides.proofs.Replies.PlantedReplies.{AfterAside, AfterStage, So, fed-so}
use Rattle.pr_function_hides.proofs.Replies.PlantedWalk.{marks_then}
use Rattle.pr_function_hides.proofs.Tidy.TidyCalls as Calls
use Rattle.pr_function_hides.proofs.Tidy.TidyEntries.{its-legal, lived}
use Rattle.pr_function_hides.proofs.Tidy.TidyKept.{Kept}
use Rattle.pr_function_hides.specs.Copying.{makes_copy}
use Rattle.pr_function_hides.specs.CountedFunctions.{stepped, takes_memory}
use Rattle.pr_function_hides.specs.FunctionHiders.{patch_of}
use Rattle.pr_function_hides.specs.RunsOfTrusses.{IsRunOfTrusses}
use Rattle.pr_function_hides.specs.TidyWrites.{IsTrussAfter}
use Rattle.pr_function_hides.specs.Treating.{is_run_soon}
use Rattle.pr_function_laws.specs.Opened.{is_opened}
use Rattle.pr_hidden.specs.Covers.{Covers}
use Rattle.pr_hidden.specs.Hiders.{Hiders, covers_at, hides, patch_at, replaces}
use Rattle.pr_line.specs.declared.functions.Function.{Function}
use Rattle.pr_line.specs.declared.options.Options.{Options}
use Rattle.pr_model.specs.Legal.{IsLegalEntry, state_after}
use Rattle.pr_model.specs.State.{TracedState}
use Rattle.pr_model.specs.declared.calls.Call.{Call}
use Rattle.pr_model.specs.declared.calls.Reply.{Reply}
use Rattle.pr_model.specs.declared.events.Act.{Act}
use Rattle.pr_model.specs.declared.events.Act.TheVariants as act
use Rattle.pr_model.specs.declared.events.Actor.{Actor}
use Rattle.pr_model.specs.declared.events.Actor.TheVariants.{Controller, Lwp}
use Rattle.pr_model.specs.declared.events.Did.{Did}
use Rattle.pr_model.specs.declared.events.Did.TheVariants.{Made, Woke}
use Rattle.pr_model.specs.declared.events.Entry.{Entry}
use Rattle.pr_model.specs.declared.events.Res.TheVariants.{Value}
use Rattle.pr_model.specs.declared.events.Turned.{Turned}
use Rattle.pr_num.specs.Syscalls.{is_fork_call}
use Rattle.pr_num.specs.declared.syscalls.Sysno.{Sysno}
use Rattle.pr_num.specs.declared.syscalls.Sysno.TheVariants.{Exec, Vfork}
use Rattle.pr_probe_laws.proofs.Hiding.HiddenFacts.{legal-turn}
use Rattle.pr_rec.specs.declared.lwps.LwpStatus.{LwpStatus}
use Rattle.pr_report_laws.proofs.Invariant.StandLemmas.{Each, each-but}
use Rattle.pr_truss.specs.Asides.{marks_at}
use Rattle.pr_truss.specs.FunctionEvents.{copies_memory, step_of}
use Rattle.pr_truss.specs.FunctionFeeding.{fed_functions}
use Rattle.pr_truss.specs.Marks.{has_function, has_functions, standing, with_step}
use Rattle.pr_truss.specs.Replies.{answer_of}
use Rattle.pr_truss.specs.Trusses.{TrussState, traced_at}
use Rattle.pr_truss.specs.declared.asides.Aside.{Aside}
use Rattle.pr_truss.specs.declared.asides.Aside.TheVariants.{Nothing, Patching, Planting, Reading}
use Rattle.pr_truss.specs.declared.function_events.FunctionEvent.{FunctionEvent}
use Rattle.pr_truss.specs.declared.function_events.FunctionEvent.TheVariants.{AfterCopy, AtBreakpoint, BeforeCopy}
use Rattle.pr_truss.specs.declared.function_events.FunctionEvent.TheVariants.{Completed, Other, Replaced, TraceTrap}
use Rattle.pr_truss.specs.declared.marks.Marks.{Marks}
use Rattle.pr_truss.specs.declared.marks.Stepped.{Stepped}
use Rattle.pr_truss.specs.declared.replies.Answer.TheVariants.{Interrupted}
use Rattle.pr_truss.specs.declared.stages.Stage.{Stage}
use Rattle.pr_truss.specs.declared.stages.Stage.TheVariants.{Closing, OpeningControl, ReadingStatus, Running}
use Rattle.pr_world.specs.ControllerStates.{ControllerState}
use Rattle.pr_world.specs.Protocol.{controllers_at}

-- While the first instruction of a function is stepped, its code stands, or its breakpoint does, also in a process
-- whose memory was replaced before: no fork, vfork or exec is granted while a step is under way.

-- a turn that takes the memory makes a call that copies or replaces it, and that is granted
replaces-copies : (call : Sysno) → replaces call ≡ true → copies_memory call ≡ true
unfolding copies_memory is_fork_call
replaces-copies Vfork is = refl
replaces-copies Exec is = refl
replaces-copies _ is = absurd (false≢true is)

pub takes-copies : (did : Did) → takes_memory did ≡ true → makes_copy did ≡ true
takes-copies (Made call (Value value)) is = replaces-copies call is
takes-copies (Woke call (Value value)) is = replaces-copies call is
takes-copies _ is = absurd (false≢true is)

module _ {n : ℕ} {who : Hiders} {controllers : List ControllerState} {first : TracedState}
    {h : List Entry} (run : IsRunOfTrusses n who controllers first h) where
  abbrev here : List Entry → TracedState
  here front = state_after first front

  abbrev covers : List Entry → Covers
  covers front = covers_at who first front

  -- so it is of the step that is under way in a process
  abbrev pub StepIn : List Entry → Options → ℕ → Marks → Type 0
  StepIn front o pid m =
      (step : Stepped) → m.stepped ≡ Some step → (f : Function) → slice_get o.functions step.function ≡ Some f
      → CodeAt run front pid (patch_of f)

  -- and of each that is under way in the processes of a truss
  abbrev pub StepsIn : List Entry → TrussState → Type 0
  StepsIn front t = Each (So (StepIn front t.options)) t.traced

  -- ---- an entry of others

  module _ (front : List Entry) (actor : Actor) (did : Act) (back : List Entry)
      (place : h ≡ front ++ record { actor = actor; act = did } ∷ back) (k : ℕ) (hider : hides who k ≡ true) where
    abbrev e : Entry
    e = record { actor = actor; act = did }

    abbrev next_front : List Entry
    next_front = front ++ e ∷ []

    abbrev t : TrussState
    t = let kept = kept-there run front (e ∷ back) place in let w = kept.trusses k hider in w.t

    is-now : IsTrussAfter who controllers first h front k t
    is-now = let kept = kept-there run front (e ∷ back) place in let w = kept.trusses k hider in w.is

    -- a turn that takes the memory finds no step
    abbrev pub NeverTakes : TrussState → ℕ → Type 0
    NeverTakes u q =
        (step : Stepped) → (marks_at u q).stepped ≡ Some step → (id : ℕ) (turned : Turned)
        → e ≡ record { actor = Lwp (traced_at u q).pid id; act = act.Turn turned } → takes_memory turned.did ≡ false

    never-takes : t.leaving ≡ false → (q : ℕ) → q < length t.traced → NeverTakes t q
    never-takes off q within step under_way id turned is = elim (cases_Bool (takes_memory turned.did)) [
      | inr leaves ↦ leaves
      | inl takes ↦
          (let legal = its-legal run front e back place (kept-there run front (e ∷ back) place) in
          let turn =
          legal-turn n (here front) (traced_at t q).pid id turned (subst (IsLegalEntry n (here front)) is legal) in
          let lifted =
          copy-finds-lifted n k _ t (here front) (goes-on-there run k hider front (e ∷ back) place t is-now off)
          (copies-on run k hider front (e ∷ back) place t is-now off) q within id
          (record { system = turn.0; turned = turned }) turn.1 (takes-copies turned.did takes) in
          absurd (none-some step (sym lifted.no_step ∙ under_way)))
    ]

    step-stays : slice_get (controllers_at controllers next_front) k
        ≡ slice_get (controllers_at controllers front) k → actor ≢ Controller k → (q : ℕ) → q < length t.traced
        → NeverTakes t q → So (StepIn front t.options) (traced_at t q)
        → So (StepIn next_front t.options) (traced_at t q)
    step-stays same foreign q within never all step is f named =
        code-stays run front actor did back place k hider same foreign q step.function within
        (inr (stepped step is refl)) f named (never step is) (all step is f named)

    its-steps : slice_get (controllers_at controllers next_front) k
        ≡ slice_get (controllers_at controllers front) k → actor ≢ Controller k → t.leaving ≡ false
        → StepsIn front t → StepsIn next_front t
    its-steps same foreign off all q within =
        step-stays same foreign q within (never-takes off q within) (all q within)

    -- where no turn of the process takes its memory
    pub one-steps : slice_get (controllers_at controllers next_front) k
        ≡ slice_get (controllers_at controllers front) k → actor ≢ Controller k
        → (u : TrussState) → IsTrussAfter who controllers first h front k u → (q : ℕ) → q < length u.traced
        → NeverTakes u q → So (StepIn front u.options) (traced_at u q)
        → So (StepIn next_front u.options) (traced_at u q)
    one-steps same foreign u is =
        subst (λ (x : TrussState). (q : ℕ) → q < length x.traced → NeverTakes x q
        → So (StepIn front x.options) (traced_at x q) → So (StepIn next_front x.options) (traced_at x q))
        (same-truss t u _ is-now is) (step-stays same foreign)

    -- as long as truss goes on
    pub foreign-steps : slice_get (controllers_at controllers next_front) k
        ≡ slice_get (controllers_at controllers front) k → actor ≢ Controller k
        → (u : TrussState) → IsTrussAfter who controllers first h front k u → u.leaving ≡ false → StepsIn front u
        → StepsIn next_front u
    foreign-steps same foreign u is =
        subst (λ (x : TrussState). x.leaving ≡ false → StepsIn front x → StepsIn next_front x)
        (same-truss t u _ is-now is) (its-steps same foreign)

  -- ---- a call of truss

  module _ (front back : List Entry) (j : ℕ) (c : Call) (r : Reply) (place : h ≡ front ++ call_entry j c r ∷ back)
      (hider : hides who j ≡ true) where
    abbrev call : Entry
    call = call_entry j c r

    abbrev later_front : List Entry
    later_front = front ++ call ∷ []

    abbrev kept-now : Kept who controllers first h front
    kept-now = kept-there run front (call ∷ back) place

    abbrev tr : TrussState
    tr = Calls.tr run front back j c r place kept-now hider

    has : has_functions tr.options ≡ true
    has = Calls.has run front back j c r place kept-now hider

    abbrev pub Later : ℕ → Marks → Type 0
    Later = StepIn later_front tr.options

    -- whatever the call, unless it closes the control file of the process
    pub own-step : (q : ℕ) → q < length tr.traced
        → Code.Spares run front back j c r place hider (spaces run front (call ∷ back) place) (traced_at tr q).pid
        → So (StepIn front tr.options) (traced_at tr q) → So Later (traced_at tr q)
    own-step q within spares all step is f named =
        Code.own-code run front back j c r place hider (spaces run front (call ∷ back) place) q within step.function f
        named spares (all step is f named)

    module _ (goes : GoesOn tr) (calm : answer_of r ≢ Interrupted) (all : StepsIn front tr) where
      spared : (q : ℕ) → q < length tr.traced
          → Code.Spares run front back j c r place hider (spaces run front (call ∷ back) place) (traced_at tr q).pid
          → So Later (traced_at tr q)
      spared q within spares = own-step q within spares (all q within)

      before : BesideSo Later tr tr.aside
      before = Code.marks-so run front back j c r place hider (spaces run front (call ∷ back) place) goes Later spared

      -- of a function at whose breakpoint an lwp is
      met-code : (q : ℕ) → q < length tr.traced → tr.stage ≡ ReadingStatus q → So Later (traced_at tr q)
          → (function : ℕ) → has_function (standing (marks_at tr q)) function ≡ true → (f : Function)
          → slice_get tr.options.functions function ≡ Some f
          → CodeAt run later_front (traced_at tr q).pid (patch_of f)
      unfolding standing
      met-code q within reads now function has_it f named = by (marks_at tr q).stepped refl has_it
        where
          pid : ℕ
          pid = (traced_at tr q).pid

          planted : has_function (marks_at tr q).planted function ≡ true → CodeAt run later_front pid (patch_of f)
          planted marked = record {
            holds = λ s later bare.
                let was = lived run front call back place kept-now j hider q within (s, later) in
                let w = Calls.truss-now run front back j c r place kept-now hider in
                let stand = w.stand q within was in
                let same =
                Calm.away-patches run front back j c r place pid
                (Calm.resting-away run front back j c r place hider goes.off q within
                (ap (λ st. is_opened st q) reads) (ap (λ st. is_run_soon st q) reads)) in
                absurd (none-some (patch_of f)
                (sym bare ∙ ap (patch_at f.at) same ∙ stand.each function f named marked));
          }

          by : (o : Option Stepped) → (marks_at tr q).stepped ≡ o
              → has_function (with_step o (marks_at tr q).planted) function ≡ true
              → CodeAt run later_front pid (patch_of f)
          by None is marked = planted marked
          by (Some step) is marked = elim (has-with (marks_at tr q).planted step.function function marked) [
            | inl same ↦ now step is f (ap (slice_get tr.options.functions) (sym same) ∙ named)
            | inr has ↦ planted has
          ]

      then-step : (q : ℕ) → q < length tr.traced → tr.stage ≡ ReadingStatus q → So Later (traced_at tr q)
          → (l : LwpStatus) (e : FunctionEvent)
          → ((function : ℕ) → e ≡ AtBreakpoint function
          → has_function (standing (marks_at tr q)) function ≡ true)
          → Later (traced_at tr q).pid (marks_then (marks_at tr q) l e)
      unfolding step_of
      then-step q within reads now l (AtBreakpoint function) stands step is f named =
          met-code q within reads now function (stands function refl) f
          (ap (λ (x : Stepped). slice_get tr.options.functions x.function) (same_Some (step_of l function) step is)
          ∙ named)
      then-step q within reads now l TraceTrap stands step is f named = now step is f named
      then-step q within reads now l (Completed other) stands step is f named = absurd (none-some step is)
      then-step q within reads now l BeforeCopy stands step is f named = absurd (none-some step is)
      then-step q within reads now l AfterCopy stands step is f named = absurd (none-some step is)
      then-step q within reads now l Replaced stands step is f named = absurd (none-some step is)
      then-step q within reads now l Other stands step is f named = absurd (none-some step is)

      stage-steps : (stage : Stage) → tr.stage ≡ stage → IsWithin (length tr.traced) stage → StageSo Later tr stage
          → AfterStage Later tr r stage
      stage-steps (OpeningControl pid) at w it = (it, λ accepted step is f named. absurd (none-some step is))
      stage-steps (ReadingStatus q) at w it = (
        it,
        λ l e accepted told fresh.
            then-step q w at (it q w) l _
            (λ function is. breakpoint-stands tr.options (marks_at tr q) l.id e function is),
      )
      stage-steps (Running q) at w it = (each-but (So Later) tr.traced q it, it q w)
      stage-steps (Closing q next) at w it = it
      stage-steps _ at w it = it

      aside-steps : (aside : Aside) → IsBeside (length tr.traced) aside → BesideSo Later tr aside
          → AfterAside Later tr r aside
      aside-steps Nothing w it = stage-steps tr.stage refl goes.stage it
      aside-steps (Reading q function) w it = it
      aside-steps (Planting q function) w it = (each-but (So Later) tr.traced q it, it q w)
      aside-steps (Patching q plants lifts clear) w it = (each-but (So Later) tr.traced q it, it q w)
      aside-steps _ w it = absurd w

      pub own-steps : Each (So Later) (fed_functions tr r).traced
      own-steps =
          fed-so Later tr r goes.off goes.follow goes.stage goes.beside calm has
          (aside-steps tr.aside goes.beside before)
