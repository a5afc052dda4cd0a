use Rattle.std.proofs.Common.{◌≡◌, ◌≢◌, ◌++◌, ℕ, Bool, true, false, All, Some, List, [], ◌∷◌, flat_map, length, map}
use Rattle.std.proofs.Common.{refl, sym, subst, ap, ◌∙◌}
use Rattle.std.specs.List.{slice_get}
use Rattle.std.specs.Option.{option_map}
use Rattle.std.proofs.lemmas.Option.{slice_get-map}
use Rattle.std.proofs.lemmas.List.Elements.{All-cons, All-nil}
use Rattle.pr_api.specs.Views.{kernel_of}
use Rattle.pr_core.specs.Gcores.{first_gcore}
use Rattle.pr_core_laws.proofs.Refused.EndingLaw.{gcore-makes-calls, gcore-runs-again, gcore-takes-back, gcore-tells-why}
use Rattle.pr_core_laws.proofs.OneState.GcoreLaw.{shows-one-core}
use Rattle.pr_core_laws.proofs.OpenFiles.OwnFiles.{gcore-closes, gcore-holds}
use Rattle.pr_erasure.proofs.SeenHistories.HistoryLemmas.{transparent-first}
use Rattle.pr_erasure.specs.Transparency.{IsTransparent}
use Rattle.pr_line.specs.declared.functions.Function.{Function}
use Rattle.pr_line.specs.declared.options.Options.{Options}
use Rattle.pr_model.specs.Legal.{IsLegal}
use Rattle.pr_model.specs.declared.events.Entry.{Entry}
use Rattle.pr_model.specs.declared.tools.ToolKind.{ToolKind}
use Rattle.pr_model.specs.declared.tools.ToolKind.TheVariants.{Prun, Pstack, Pstop}
use Rattle.pr_probe.specs.Probes.{first_probe}
use Rattle.pr_function_hides.proofs.MetFaults.ClearingLaw.{clears-running}
use Rattle.pr_function_hides.proofs.Clean.CleanLaw.{leaves-no-fault}
use Rattle.pr_function_hides.proofs.Closing.ClosingLaw.{leaves-none}
use Rattle.pr_function_hides.proofs.Listed.ListedLaw.{fetched-turns}
use Rattle.pr_function_hides.proofs.PlantedFetches.FetchesLaw.{fetches_breakpoints}
use Rattle.pr_function_hides.proofs.PlantedFetches.SparedLaw.{leaves_planted}
use Rattle.pr_function_hides.proofs.LeavingFaults.ClearedLaw.{clears-alone}
use Rattle.pr_function_hides.proofs.FaultStops.PostedLaw.{posts-none}
use Rattle.pr_function_hides.proofs.HiddenTruss.{truss-hidden, truss-tidy}
use Rattle.pr_function_hides.proofs.StepMarks.StepLaw.{own-steps}
use Rattle.pr_function_hides.proofs.Tidy.WritesLaw.{writes-tidily}
use Rattle.pr_function_hides.specs.RunsOfTrusses.{IsRunOfTrusses}
use Rattle.pr_function_hides.specs.TidyWrites.{AreUndisturbed}
use Rattle.pr_function_laws.specs.Opened.{IsFunctionRun}
use Rattle.pr_function_laws.specs.ReachedRuns.{IsReachedFunctionRun}
use Rattle.pr_hidden.proofs.Follows.FirstLemmas.{first-untouched}
use Rattle.pr_hidden.proofs.Follows.HistoryFollows.{hidden-first}
use Rattle.pr_hidden.specs.Hiders.{Hiders}
use Rattle.pr_probe_laws.proofs.Hiding.HiddenLaw.{alone-accepted, alone-gone, alone-hidden, alone-tidy}
use Rattle.pr_probe_laws.proofs.StepMarks.MarkCalls.{untouched-unstepped}
use Rattle.pr_probe_laws.proofs.Ending.TakesBack.{probe-takes-back}
use Rattle.pr_probe_laws.specs.HiddenProbes.{AreLeftAlone, IsRunOfProbes}
use Rattle.pr_probe_laws.specs.StepMarks.{IsUnstepped}
use Rattle.pr_probe_laws.proofs.Files.OwnCallRows.{makes-its-calls, probe-closes, probe-holds}
use Rattle.pr_probe_laws.proofs.PuttingBack.ProbeLaw.{puts-back}
use Rattle.pr_probe_laws.proofs.Ending.ReasonLaw.{tells-why}
use Rattle.pr_probe_laws.proofs.Ending.RunAgainLaw.{runs-at-last}
use Rattle.pr_probe_laws.proofs.Sets.SetLaw.{sets-back}
use Rattle.pr_probe_laws.proofs.OneState.TextLaw.{shows-one}
use Rattle.pr_reached.proofs.Together.FirstRanges.{first-stays}
use Rattle.pr_reached.proofs.Together.ReachedLemmas.{first-reached}
use Rattle.pr_reached.specs.ByteHistories.{HasBytes}
use Rattle.pr_reached.specs.Reached.{IsReached}
use Rattle.pr_scen.specs.Scenarios.{Scenario, probe_in, probes_of, script_in, scripts_of, shown_functions, shown_in}
use Rattle.pr_scen.specs.declared.plans.Plan.{Plan}
use Rattle.pr_scen.specs.declared.plans.Plan.TheVariants as plan
use Rattle.pr_truss.specs.Marks.{has_functions}
use Rattle.pr_truss.specs.Trusses.{first_truss}
use Rattle.pr_world.proofs.RunLemmas.{moves-led}
use Rattle.pr_tool_laws.proofs.OwnFiles.HandleLemmas.{tool-holds}
use Rattle.pr_tool_laws.proofs.Stages.ProtocolLemmas.{follows-own}
use Rattle.pr_tool_laws.specs.OwnCalls.{AreOwnCalls}
use Rattle.pr_reached.specs.HistoriesInRange.{StaysInRange}
use Rattle.pr_tool_laws.specs.Runs.{IsRunOf}
use Rattle.pr_tool_laws.proofs.OwnFiles.NothingOpenLemmas.{tool-closes}
use Rattle.pr_tool_laws.proofs.ProgramLemmas.{first-same}
use Rattle.pr_tool_laws.proofs.ReadsOnlyLemmas.{tool-leaves}
use Rattle.pr_tool_laws.proofs.RunningAgain.RequestLemmas.{takes-back}
use Rattle.pr_tool_laws.proofs.RunningAgain.RunAgainLemmas.{runs-again}
use Rattle.pr_tool_laws.proofs.Sending.SentLaw.{prun-runs, pstop-stops}
use Rattle.pr_tool_laws.proofs.Pstack.StackLaw.{shows-one-stack}
use Rattle.pr_tool_laws.proofs.Records.WholeLemmas.{tool-shows}
use Rattle.pr_tool_laws.proofs.ToolCalls.CallLaw.{tool-makes-calls, tool-tells-why}
use Rattle.pr_tool_laws.proofs.ToolCalls.OnceLaw.{tool-reads-once}
use Rattle.pr_tools.specs.Tools.{first_tool}
use Rattle.pr_world.specs.ControllerStates.{FnTruss, Gcore, Probe, Tool}
use Rattle.pr_world.specs.Protocol.{Follows}
use Rattle.pr_world.specs.Runs.{CameFrom, IsFresh, IsMachineRun, LedFrom, TellsMachine}
use Rattle.pr_world.specs.Worlds.{WorldState}
use Rattle.pr_run_laws.specs.ScenarioRuns.{IsKept, controller_of, controllers_of, files_of, first_state_of, first_world}
use Rattle.pr_run_laws.specs.ScenarioRuns.{history_after, truss_of, world_after}
use Rattle.pr_run_laws.specs.ScenarioRanges.{IsScenarioInRange}
use Rattle.pr_run_laws.specs.CoreRuns.{IsGcoreKept}
use Rattle.pr_run_laws.specs.FunctionRuns.{HideBreakpoints, IsFunctionTrussKept, WriteUnseen}
use Rattle.pr_run_laws.specs.ProbeRuns.{AreHidden, IsProbeKept}
use Rattle.pr_run_laws.specs.ToolRuns.{IsToolKept}
use Rattle.pr_run_laws.specs.Tracers.{IsTracer}
use Rattle.pr_run_laws.specs.TrussRuns.{IsTrussKept}
use Rattle.pr_run_laws.proofs.BytesWritten.ByteLemmas.{follows-bytes}
use Rattle.pr_run_laws.proofs.KeptRuns.SilentLemmas.{gcore-silent, probe-silent, tool-silent}
use Rattle.pr_run_laws.proofs.TrussControllers.FunctionLemmas.{all-steppable, function-kept, function-run}
use Rattle.pr_run_laws.proofs.PassiveControllers.TracerLemmas.{tracers-passive}
use Rattle.pr_run_laws.proofs.TrussControllers.TrussHiders.{all-patchable, first-held, hide-trusses, plan-named, shown-truss}
use Rattle.pr_run_laws.proofs.TrussControllers.TrussOptions.{bare-truss, full-truss}
use Rattle.pr_run_laws.proofs.TrussControllers.TrussLemmas.{truss-kept}

-- What runs of scenarios keep.

pub first-fresh : (s : Scenario) → IsFresh (first_world s)
unfolding first_world kernel_of
first-fresh s = record { history = refl }

pub first-told : (s : Scenario) → TellsMachine (first_world s)
unfolding first_world kernel_of
first-told s = record { machine = first_state_of s; is = refl }

-- controllers without functions
none-both : (xs ys : List Function) → xs ++ ys ≡ [] → (xs ≡ []) × (ys ≡ [])
none-both [] ys e = (refl, e)
none-both (x ∷ xs) ys e = absurd (cc)

truss-tracer : (o : Options) → has_functions o ≡ false → IsTracer (truss_of o (has_functions o))
unfolding IsTracer
truss-tracer o bare = subst (λ b. IsTracer (truss_of o b)) (sym bare) tt

-- controllers none of which is a script, asks by an agent or shows calls of functions
controllers-tracers : (plans : List Plan) → flat_map script_in plans ≡ [] → flat_map probe_in plans ≡ []
    → flat_map shown_in plans ≡ [] → All IsTracer (map controller_of plans)
unfolding controller_of IsTracer
controllers-tracers [] none quiet bare = All-nil IsTracer
controllers-tracers (plan.Script script ∷ plans) none quiet bare = absurd (cc)
controllers-tracers (plan.Truss options ∷ plans) none quiet bare =
    let parts = none-both options.functions (flat_map shown_in plans) bare in
    All-cons IsTracer (controller_of (plan.Truss options)) (map controller_of plans)
    (truss-tracer options (bare-truss options parts.0)) (controllers-tracers plans none quiet parts.1)
controllers-tracers (plan.Tool kind pid ∷ plans) none quiet bare =
    All-cons IsTracer (controller_of (plan.Tool kind pid)) (map controller_of plans) tt
    (controllers-tracers plans none quiet bare)
controllers-tracers (plan.Gcore pid ∷ plans) none quiet bare =
    All-cons IsTracer (controller_of (plan.Gcore pid)) (map controller_of plans) tt
    (controllers-tracers plans none quiet bare)
controllers-tracers (plan.Probe pid ∷ plans) none quiet bare = absurd (cc)

-- without scripts, probes and functions a history that follows the protocol is passive, and so tracing is transparent
-- in it
transparent-tracers : (s : Scenario) (h : List Entry) → IsLegal (length (controllers_of s)) (first_state_of s) h
    → Follows (controllers_of s) (first_state_of s) h → scripts_of s ≡ [] → probes_of s ≡ [] → shown_functions s ≡ []
    → IsTransparent (first_state_of s) h
transparent-tracers s h legal follows none quiet bare =
    let n = length (controllers_of s) in
    let passive = tracers-passive (controllers_of s) n (first_state_of s) h
    (controllers-tracers s.controllers none quiet bare) legal follows in
    transparent-first n s.programs (files_of s) s.spawns h legal passive

-- ---- the first state

state-reached : (s : Scenario) → IsScenarioInRange s → IsReached (first_state_of s)
state-reached s range = first-reached s.programs (files_of s) s.spawns range.start range.range

-- ---- trusses

-- the controller of a truss, which shows calls of functions or does not
truss-plan : (s : Scenario) (k : ℕ) (o : Options) (b : Bool) → slice_get s.controllers k ≡ Some (plan.Truss o)
    → has_functions o ≡ b → slice_get (controllers_of s) k ≡ Some (truss_of o b)
unfolding controller_of
truss-plan s k o b at is =
    slice_get-map controller_of s.controllers k ∙ ap (option_map controller_of) at ∙ ap (λ c. Some (truss_of o c)) is

pub trusses-kept : (s : Scenario) (n : ℕ) (h : List Entry) → IsScenarioInRange s → HasBytes h
    → IsLegal n (first_state_of s) h → AreOwnCalls (controllers_of s) h → (k : ℕ) (o : Options) → slice_get
    s.controllers k ≡ Some (plan.Truss o) → o.functions ≡ []
    → IsTrussKept (controllers_of s) (first_state_of s) h k o
trusses-kept s n h range bytes legal own k o at none =
    truss-kept (controllers_of s) n (first_state_of s) h k o (state-reached s range) bytes
    (truss-plan s k o false at (bare-truss o none)) (first-held s k) legal own

pub functions-kept : (s : Scenario) (n : ℕ) (h : List Entry) → IsScenarioInRange s → HasBytes h
    → IsLegal n (first_state_of s) h → AreOwnCalls (controllers_of s) h → (k : ℕ)
    (o : Options) → slice_get s.controllers k ≡ Some (plan.Truss o) → o.functions ≢ []
    → IsFunctionTrussKept (controllers_of s) (first_state_of s) h k o
functions-kept s n h range bytes legal own k o at some =
    function-kept (controllers_of s) n (first_state_of s) h k o (state-reached s range) bytes
    (first-held s k) (truss-plan s k o true at (full-truss o some)) some (plan-named s range k o at) legal own

-- ---- tools

-- what is read along the run is in range
run-stays : (s : Scenario) (h : List Entry) → IsScenarioInRange s → HasBytes h → StaysInRange (first_state_of s) h
run-stays s h range bytes =
    first-stays s.programs (files_of s) s.spawns h
    (record { start = range.start; in_range = range.range; bytes = bytes })

-- the run of a tool, where it is of this kind
tool-run : (s : Scenario) (n : ℕ) (h : List Entry) → IsLegal n (first_state_of s) h → AreOwnCalls (controllers_of s) h
    → (k : ℕ) (kind which : ToolKind) (pid : ℕ) → slice_get s.controllers k ≡ Some (plan.Tool kind pid) → kind ≡ which
    → IsRunOf n k (Tool (first_tool which pid)) (controllers_of s) (first_state_of s) h
unfolding controller_of
tool-run s n h legal own k kind which pid at same = record {
  begins =
      slice_get-map controller_of s.controllers k ∙ ap (option_map controller_of) at
      ∙ ap (λ (x : ToolKind). Some (Tool (first_tool x pid))) same;
  legal = legal;
  own_calls = own;
}

pub tools-kept : (s : Scenario) (n : ℕ) (h : List Entry) → IsScenarioInRange s → HasBytes h
    → IsLegal n (first_state_of s) h → AreOwnCalls (controllers_of s) h → (k : ℕ) (kind : ToolKind) (pid : ℕ) →
    slice_get s.controllers k ≡ Some (plan.Tool kind pid) → IsToolKept (controllers_of s) (first_state_of s) h k kind
    pid
tools-kept s n h range bytes legal own k kind pid at = record {
  shows = λ t programs ends ended accepted once.
      tool-shows (controllers_of s) n k kind pid (first_state_of s) h t programs (run-stays s h range bytes) once
      (tool-run s n h legal own k kind kind pid at refl) ends ended accepted;
  stack = λ t programs ends ended accepted same.
      shows-one-stack (controllers_of s) n k pid (first_state_of s) h t programs (run-stays s h range bytes)
      (tool-run s n h legal own k kind Pstack pid at same) ends ended accepted;
  silent = λ t programs ends unfinished. tool-silent t programs unfinished;
  runs_again = λ t ends ended accepted same.
      runs-again (controllers_of s) n k pid (first_state_of s) h t (run-stays s h range bytes)
      (tool-run s n h legal own k kind Pstack pid at same) ends ended accepted;
  takes_back = λ t ends ended was same.
      takes-back n k pid (first_state_of s) (controllers_of s) h t
      (tool-run s n h legal own k kind Pstack pid at same) ends ended was;
  stops = λ t ends ended accepted same.
      pstop-stops (controllers_of s) n k pid (first_state_of s) h t (state-reached s range).lawful
      (tool-run s n h legal own k kind Pstop pid at same) ends ended accepted;
  runs = λ t ends ended accepted same.
      prun-runs (controllers_of s) n k pid (first_state_of s) h t (state-reached s range).lawful
      (tool-run s n h legal own k kind Prun pid at same) ends ended accepted;
  opens = λ t ends.
      tool-holds n k kind pid (first_state_of s) (controllers_of s) h t (first-held s k)
      (tool-run s n h legal own k kind kind pid at refl) ends;
  closes = λ t ends ended.
      tool-closes n k kind pid (first_state_of s) (controllers_of s) h t (first-held s k)
      (tool-run s n h legal own k kind kind pid at refl) ends ended;
  leaves = λ t ends once.
      tool-leaves n k kind pid once (first_state_of s) (controllers_of s) h t (first-held s k)
      (tool-run s n h legal own k kind kind pid at refl) ends;
  calls =
      tool-makes-calls (controllers_of s) n k kind pid (first_state_of s) h
      (tool-run s n h legal own k kind kind pid at refl);
  once = λ t ends ended accepted only.
      tool-reads-once (controllers_of s) n k kind pid (first_state_of s) h t only
      (tool-run s n h legal own k kind kind pid at refl) ends ended accepted;
  refuses = λ t e programs ends ended was.
      tool-tells-why (controllers_of s) n k kind pid (first_state_of s) h t e programs
      (tool-run s n h legal own k kind kind pid at refl) ends ended was;
}

-- ---- cores

gcore-run : (s : Scenario) (n : ℕ) (h : List Entry) → IsLegal n (first_state_of s) h → AreOwnCalls (controllers_of s) h
    → (k pid : ℕ) → slice_get s.controllers k ≡ Some (plan.Gcore pid)
    → IsRunOf n k (Gcore (first_gcore pid)) (controllers_of s) (first_state_of s) h
unfolding controller_of
gcore-run s n h legal own k pid at = record {
  begins = slice_get-map controller_of s.controllers k ∙ ap (option_map controller_of) at;
  legal = legal;
  own_calls = own;
}

pub gcores-kept : (s : Scenario) (n : ℕ) (h : List Entry) → IsScenarioInRange s → HasBytes h
    → IsLegal n (first_state_of s) h → AreOwnCalls (controllers_of s) h → (k pid : ℕ)
    → slice_get s.controllers k ≡ Some (plan.Gcore pid) → IsGcoreKept (controllers_of s) (first_state_of s) h k pid
gcores-kept s n h range bytes legal own k pid at = record {
  shows = λ g ends ended accepted.
      shows-one-core (controllers_of s) n k pid (first_state_of s) h g (run-stays s h range bytes)
      (gcore-run s n h legal own k pid at) ends ended accepted;
  silent = λ g ends unfinished. gcore-silent g unfinished;
  runs_again = λ g ends ended accepted.
      gcore-runs-again (controllers_of s) n k pid (first_state_of s) h g (run-stays s h range bytes)
      (gcore-run s n h legal own k pid at) ends ended accepted;
  takes_back = λ g ends ended was.
      gcore-takes-back (controllers_of s) n k pid (first_state_of s) h g (state-reached s range).lawful
      (gcore-run s n h legal own k pid at) ends ended was;
  calls = λ g ends.
      gcore-makes-calls (controllers_of s) n k pid (first_state_of s) h g (state-reached s range).lawful
      (gcore-run s n h legal own k pid at) ends;
  opens = λ g ends.
      gcore-holds (controllers_of s) n k pid (first_state_of s) h g (first-held s k)
      (gcore-run s n h legal own k pid at) ends;
  closes = λ g ends ended.
      gcore-closes (controllers_of s) n k pid (first_state_of s) h g (first-held s k)
      (gcore-run s n h legal own k pid at) ends ended;
  refuses = λ g e ends ended was.
      gcore-tells-why (controllers_of s) n k pid (first_state_of s) h g e (run-stays s h range bytes)
      (gcore-run s n h legal own k pid at) ends ended was;
}

-- ---- probes

probe-run : (s : Scenario) (n : ℕ) (h : List Entry) → IsLegal n (first_state_of s) h → AreOwnCalls (controllers_of s) h
    → (k pid : ℕ) → slice_get s.controllers k ≡ Some (plan.Probe pid)
    → IsRunOf n k (Probe (first_probe pid)) (controllers_of s) (first_state_of s) h
unfolding controller_of
probe-run s n h legal own k pid at = record {
  begins = slice_get-map controller_of s.controllers k ∙ ap (option_map controller_of) at;
  legal = legal;
  own_calls = own;
}

pub probes-kept : (s : Scenario) (n : ℕ) (h : List Entry) → IsScenarioInRange s → HasBytes h
    → IsLegal n (first_state_of s) h → AreOwnCalls (controllers_of s) h → (k pid : ℕ)
    → slice_get s.controllers k ≡ Some (plan.Probe pid) → IsProbeKept (controllers_of s) (first_state_of s) h k pid
probes-kept s n h range bytes legal own k pid at = record {
  calls =
      makes-its-calls (controllers_of s) n k pid (first_state_of s) h (probe-run s n h legal own k pid at);
  opens = λ p ends.
      probe-holds (controllers_of s) n k pid (first_state_of s) h p (first-held s k)
      (probe-run s n h legal own k pid at) ends;
  closes = λ p ends ended.
      probe-closes (controllers_of s) n k pid (first_state_of s) h p (first-held s k)
      (probe-run s n h legal own k pid at) ends ended;
  puts_back = λ p ends ended accepted.
      puts-back (controllers_of s) n k pid (first_state_of s) h p (probe-run s n h legal own k pid at) ends ended
      accepted;
  sets_back = λ p ends ended accepted.
      sets-back (controllers_of s) n k pid (first_state_of s) h p (run-stays s h range bytes)
      (probe-run s n h legal own k pid at) ends ended accepted;
  runs_again = λ p ends ended accepted.
      runs-at-last (controllers_of s) n k pid (first_state_of s) h p (run-stays s h range bytes)
      (probe-run s n h legal own k pid at) ends ended accepted;
  takes_back = λ p ends ended.
      probe-takes-back (controllers_of s) n k pid (first_state_of s) h p (run-stays s h range bytes)
      (probe-run s n h legal own k pid at) ends ended;
  refuses = λ p e ends ended refused.
      tells-why (controllers_of s) n k pid (first_state_of s) h p e (state-reached s range).lawful
      (probe-run s n h legal own k pid at) ends ended refused;
  shows = λ p ends ended accepted.
      shows-one (controllers_of s) n k pid (first_state_of s) h p (state-reached s range) bytes
      (probe-run s n h legal own k pid at) ends ended accepted;
  silent = λ p ends unfinished. probe-silent p unfinished;
}

first-unstepped : (s : Scenario) → IsUnstepped (first_state_of s).system
first-unstepped s = untouched-unstepped (first_state_of s).system (first-untouched s.programs (files_of s) s.spawns)

-- programs see nothing of those who hide and are tidy, nor of apfiles that are left alone
pub hidden-kept : (s : Scenario) (n : ℕ) (h : List Entry) → IsScenarioInRange s → HasBytes h
    → IsLegal n (first_state_of s) h → AreOwnCalls (controllers_of s) h
    → AreHidden (controllers_of s) (first_state_of s) h
hidden-kept s n h range bytes legal own = record {
  unseen = λ who. hidden-first n who s.programs (files_of s) s.spawns h range.start legal;
  tidy = λ who alone.
      alone-tidy n who (controllers_of s) (first_state_of s) h (state-reached s range) (run who alone)
      (first-unstepped s);
  accepted = λ who alone.
      alone-accepted n who (controllers_of s) (first_state_of s) h (state-reached s range) (run who alone)
      (first-unstepped s);
  gone = λ who alone.
      alone-gone n who (controllers_of s) (first_state_of s) h (state-reached s range) (run who alone)
      (first-unstepped s);
  hidden = λ who alone.
      alone-hidden n who (controllers_of s) (first_state_of s) h (state-reached s range) (run who alone)
      (first-untouched s.programs (files_of s) s.spawns);
}
  where
    run : (who : Hiders) → AreLeftAlone who (controllers_of s) (first_state_of s) h
        → IsRunOfProbes n who (controllers_of s) (first_state_of s) h
    run who alone = record { legal = legal; own_calls = own; bytes = bytes; left_alone = alone }

-- what truss with calls of functions writes, and what programs see of it
module _ (s : Scenario) (n : ℕ) (h : List Entry) (range : IsScenarioInRange s) (bytes : HasBytes h)
    (legal : IsLegal n (first_state_of s) h) (own : AreOwnCalls (controllers_of s) h) where
  -- where those who hide are such trusses, and undisturbed
  trusses-run : (who : Hiders) → HideBreakpoints who (controllers_of s)
      → AreUndisturbed who (controllers_of s) (first_state_of s) h
      → IsRunOfTrusses n who (controllers_of s) (first_state_of s) h
  trusses-run who hide undisturbed = record {
    reached = state-reached s range;
    bytes = bytes;
    legal = legal;
    own_calls = own;
    are = hide-trusses s range who hide;
    undisturbed = undisturbed;
  }

  pub writes-kept : WriteUnseen (controllers_of s) (first_state_of s) h
  writes-kept = record {
    tidily = λ who hide undisturbed. writes-tidily (trusses-run who hide undisturbed);
    leaves_none = λ who hide undisturbed. leaves-none (trusses-run who hide undisturbed);
    clears = λ who hide undisturbed.
        clears-running n who (controllers_of s) (first_state_of s) h (trusses-run who hide undisturbed);
    clears_own = λ who hide undisturbed.
        clears-alone n who (controllers_of s) (first_state_of s) h (trusses-run who hide undisturbed);
    lists = λ who hide undisturbed sparing k pid o hider starts.
        let named = shown-truss s range k o starts in
        let trusses = trusses-run who hide undisturbed in
        let its = its-run k o starts in
        let whole : IsReachedFunctionRun n k o (first_state_of s) h =
        record { of = its; reached = trusses.reached; bytes = bytes } in
        fetched-turns n k o (first_state_of s) h whole (all-steppable o named.1)
        (fetches_breakpoints n k o (first_state_of s) h whole (all-patchable o named.1)
        (leaves_planted n k who (controllers_of s) o (first_state_of s) h its trusses hider starts sparing)) pid;
    own_steps = λ who hide undisturbed passive.
        own-steps n who (controllers_of s) (first_state_of s) h (trusses-run who hide undisturbed) passive
        (first-unstepped s);
    leaves_no_fault = λ who hide undisturbed passive.
        leaves-no-fault n who (controllers_of s) (first_state_of s) h (trusses-run who hide undisturbed) passive
        (first-unstepped s);
    posts_none = λ who hide undisturbed passive.
        posts-none n who (controllers_of s) (first_state_of s) h (trusses-run who hide undisturbed) passive
        (first-unstepped s);
    tidy = λ who hide undisturbed passive.
        truss-tidy n who (controllers_of s) (first_state_of s) h (trusses-run who hide undisturbed) passive
        (first-unstepped s);
    hidden = λ who hide undisturbed passive.
        truss-hidden n who (controllers_of s) (first_state_of s) h (trusses-run who hide undisturbed) passive
        (first-untouched s.programs (files_of s) s.spawns);
  }
    where
      its-run : (k : ℕ) (o : Options) → slice_get (controllers_of s) k ≡ Some (FnTruss (first_truss o))
          → IsFunctionRun n k o (first_state_of s) h
      its-run k o starts =
          let named = shown-truss s range k o starts in
          function-run (controllers_of s) n (first_state_of s) h k o (state-reached s range) (first-held s k) starts
          named.0 named.1 legal own

-- ---- runs

-- the entries by which a world was led to from the first one are a run of the machine
led-run : (s : Scenario) (w : WorldState) (led : LedFrom (first_world s) w) → IsMachineRun (controllers_of s)
    led.entries w.kernel.machine (first_state_of s)
unfolding first_world kernel_of
led-run s w led = led.machine

led-history : (s : Scenario) (w : WorldState) (led : LedFrom (first_world s) w) → w.kernel.history ≡ led.entries
unfolding first_world kernel_of
led-history s w led = led.history

led-kept : (s : Scenario) (w : WorldState) → IsScenarioInRange s → LedFrom (first_world s) w → IsKept s w.kernel.history
led-kept s w range led =
    let run = led-run s w led in
    let h = led.entries in let n = length (controllers_of s) in
    let bytes = follows-bytes (controllers_of s) n (first_state_of s) h (state-reached s range) range.bytes run.legal
    run.follows in
    let own = follows-own (controllers_of s) (first_state_of s) h run.follows in
    let kept : IsKept s h = record {
      legal = run.legal;
      follows = run.follows;
      transparent = transparent-first n s.programs (files_of s) s.spawns h run.legal;
      transparent_without_scripts = transparent-tracers s h run.legal run.follows;
      trusses = trusses-kept s n h range bytes run.legal own;
      functions = functions-kept s n h range bytes run.legal own;
      tools = tools-kept s n h range bytes run.legal own;
      cores = gcores-kept s n h range bytes run.legal own;
      probes = probes-kept s n h range bytes run.legal own;
      hides = hidden-kept s n h range bytes run.legal own;
      writes = writes-kept s n h range bytes run.legal own;
      programs = first-same n s.programs (files_of s) s.spawns h range.start run.legal;
    } in
    subst (IsKept s) (sym (led-history s w led)) kept

pub came-kept : (s : Scenario) (w : WorldState) → IsScenarioInRange s → CameFrom (first_world s) w → IsKept s
    w.kernel.history
came-kept s w range came = led-kept s w range came.led

pub run-kept : (s : Scenario) (n : ℕ) → IsScenarioInRange s → IsKept s (history_after n s)
run-kept s n range = led-kept s (world_after n s) range (moves-led (first_world s) n (first-told s))
