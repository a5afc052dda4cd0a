-- What follows a refusal: the sets are set back and the process is run, and no reply refuses that.
use Rattle.std.proofs.Common.{◌≡◌, ◌++◌, ◌∷◌, Bool, true, false, Some, List, [], ap, drop, refl, sym, subst, ◌∙◌}
use Rattle.pr_model.specs.declared.calls.Reply.{Reply}
use Rattle.pr_model.specs.declared.calls.Reply.TheVariants as reply
use Rattle.pr_num.specs.declared.errnos.Errno.{Errno}
use Rattle.pr_probe.specs.ProbeRuns.{fed_all, gathered, has_changed_sets, is_directed, releasing, restoring, undoing, undoing_mark, undone_in}
use Rattle.pr_probe.specs.ProbeStages.{is_passed_over, stage_after, stage_opened, way_out, way_out_of_trace}
use Rattle.pr_probe.specs.Probes.{ProbeState, accepted, advanced, at_stage, fed, has_ended, refusal_in, refused, with_next, with_run_next}
use Rattle.pr_probe.specs.TracedSets.{kind_after}
use Rattle.pr_probe.specs.declared.probe_stages.AskingStep.TheVariants.{SetRegisters, Run as RunAgent, Await, ReadAgent, ReadKind}
use Rattle.pr_probe.specs.declared.probe_stages.ProbeFile.TheVariants.{Control, Status, Lstatus, Map, AgentControl, AgentStatus}
use Rattle.pr_probe.specs.declared.probe_stages.ProbeStage.{ProbeStage}
use Rattle.pr_probe.specs.declared.probe_stages.ProbeStage.TheVariants.{Open, ReadFirst, Stop, AwaitStop, ReadStatus, ReadMap, SaveCode, SaveStack, Trace, MakeAgent, PlantCode, Asking, UntraceExits, SetExit, RunExit, AwaitExit, WriteCode, WriteStack, Retrace, Run, Restore, Release, Close}
use Rattle.pr_probe.specs.declared.traced_sets.SetKind.TheVariants.{Signals, Faults, Entries, Exits}
use Rattle.pr_probe.proofs.FedLemmas.{Refuses, ended-closes, fed-by, next-kept, refusal-counts, run-next-by}

-- the stages after a refusal
unfoldable is_undoing : ProbeStage → Bool
is_undoing (Restore k) = true
is_undoing Release = true
is_undoing Close = true
is_undoing _ = false

-- what is left to do at such a stage
unfoldable left : Bool → ProbeStage → List ProbeStage
left stood (Restore Signals) = drop 0 restoring ++ releasing stood
left stood (Restore Faults) = drop 1 restoring ++ releasing stood
left stood (Restore Entries) = drop 2 restoring ++ releasing stood
left stood (Restore Exits) = drop 3 restoring ++ releasing stood
left stood Release = Release ∷ []
left stood _ = []

-- ---- one step

abbrev Undoes : ProbeState → ProbeStage → ProbeState → Type 0
Undoes s g t =
    (is_undoing t.stage ≡ true) × (t.stood ≡ s.stood) × (undoing_mark g ++ left s.stood t.stage ≡ left s.stood g)

-- after the last set the process is run, unless it stood
released : (s : ProbeState) → Undoes s (Restore Exits) (with_run_next (at_stage s (Restore Exits)) Release)
unfolding is_undoing left undoing_mark releasing
released s =
    run-next-by (Undoes s (Restore Exits)) (at_stage s (Restore Exits)) Release
    (λ stands. (refl, refl, rw stands refl)) (λ runs. (refl, refl, rw runs refl))

accepted-undoes : (s : ProbeState) (g : ProbeStage) (r : Reply) → is_undoing g ≡ true
    → Undoes s g (accepted (at_stage s g) r g)
unfolding accepted advanced with_next stage_after kind_after is_undoing left undoing_mark
accepted-undoes s (Open Control) r undoes = absurd cc
accepted-undoes s (Open Status) r undoes = absurd cc
accepted-undoes s (Open Lstatus) r undoes = absurd cc
accepted-undoes s (Open Map) r undoes = absurd cc
accepted-undoes s (Open AgentControl) r undoes = absurd cc
accepted-undoes s (Open AgentStatus) r undoes = absurd cc
accepted-undoes s ReadFirst r undoes = absurd cc
accepted-undoes s Stop r undoes = absurd cc
accepted-undoes s AwaitStop r undoes = absurd cc
accepted-undoes s ReadStatus r undoes = absurd cc
accepted-undoes s ReadMap r undoes = absurd cc
accepted-undoes s SaveCode r undoes = absurd cc
accepted-undoes s SaveStack r undoes = absurd cc
accepted-undoes s (Trace Signals) r undoes = absurd cc
accepted-undoes s (Trace Faults) r undoes = absurd cc
accepted-undoes s (Trace Entries) r undoes = absurd cc
accepted-undoes s (Trace Exits) r undoes = absurd cc
accepted-undoes s MakeAgent r undoes = absurd cc
accepted-undoes s PlantCode r undoes = absurd cc
accepted-undoes s (Asking d SetRegisters) r undoes = absurd cc
accepted-undoes s (Asking d RunAgent) r undoes = absurd cc
accepted-undoes s (Asking d Await) r undoes = absurd cc
accepted-undoes s (Asking d ReadAgent) r undoes = absurd cc
accepted-undoes s (Asking d ReadKind) r undoes = absurd cc
accepted-undoes s UntraceExits r undoes = absurd cc
accepted-undoes s SetExit r undoes = absurd cc
accepted-undoes s RunExit r undoes = absurd cc
accepted-undoes s AwaitExit r undoes = absurd cc
accepted-undoes s WriteCode r undoes = absurd cc
accepted-undoes s WriteStack r undoes = absurd cc
accepted-undoes s (Retrace Signals) r undoes = absurd cc
accepted-undoes s (Retrace Faults) r undoes = absurd cc
accepted-undoes s (Retrace Entries) r undoes = absurd cc
accepted-undoes s (Retrace Exits) r undoes = absurd cc
accepted-undoes s Run r undoes = absurd cc
accepted-undoes s (Restore Signals) r undoes = (refl, refl, refl)
accepted-undoes s (Restore Faults) r undoes = (refl, refl, refl)
accepted-undoes s (Restore Entries) r undoes = (refl, refl, refl)
accepted-undoes s (Restore Exits) r undoes = released s
accepted-undoes s Release r undoes = (refl, refl, refl)
accepted-undoes s Close r undoes = (refl, refl, refl)

-- no reply refuses such a stage
passes : (g : ProbeStage) (e : Errno) → is_undoing g ≡ true → is_passed_over g e ≡ true
unfolding is_undoing is_passed_over
passes (Open f) e undoes = absurd cc
passes ReadFirst e undoes = absurd cc
passes Stop e undoes = absurd cc
passes AwaitStop e undoes = absurd cc
passes ReadStatus e undoes = absurd cc
passes ReadMap e undoes = absurd cc
passes SaveCode e undoes = absurd cc
passes SaveStack e undoes = absurd cc
passes (Trace k) e undoes = absurd cc
passes MakeAgent e undoes = absurd cc
passes PlantCode e undoes = absurd cc
passes (Asking d step) e undoes = absurd cc
passes UntraceExits e undoes = absurd cc
passes SetExit e undoes = absurd cc
passes RunExit e undoes = absurd cc
passes AwaitExit e undoes = absurd cc
passes WriteCode e undoes = absurd cc
passes WriteStack e undoes = absurd cc
passes (Retrace k) e undoes = absurd cc
passes Run e undoes = absurd cc
passes (Restore k) e undoes = refl
passes Release e undoes = refl
passes Close e undoes = refl

not-refused : {A : Type 0} (g : ProbeStage) (r : Reply) (e : Errno) → is_undoing g ≡ true → refusal_in g r ≡ Some e → A
not-refused g r e undoes is =
    let refuses : Refuses g r e = refusal-counts g r e is in
    let both : true ≡ false = sym (passes g e undoes) ∙ refuses.counts in
    absurd cc

fed-undoes : (s : ProbeState) (r : Reply) → is_undoing s.stage ≡ true → Undoes s s.stage (fed s r)
fed-undoes s r undoes =
    fed-by (Undoes s s.stage) s r (λ e is. not-refused s.stage r e undoes is)
    (λ is. accepted-undoes s s.stage r undoes)

-- ---- a run

closed-left : (stood : Bool) → left stood Close ≡ []
unfolding left
closed-left stood = refl

undone-left : (s : ProbeState) (rs : List Reply) → is_undoing s.stage ≡ true → has_ended (fed_all s rs) ≡ true
    → undone_in s rs ≡ left s.stood s.stage
unfolding fed_all undone_in gathered
undone-left s [] undoes ended = sym (ap (left s.stood) (ended-closes s ended) ∙ closed-left s.stood)
undone-left s (r ∷ rs) undoes ended =
    let one : Undoes s s.stage (fed s r) = fed-undoes s r undoes in
    ap (λ (xs : List ProbeStage). undoing_mark s.stage ++ xs)
    (undone-left (fed s r) rs one.0 ended ∙ ap (λ (b : Bool). left b (fed s r).stage) one.1)
    ∙ one.2

-- ---- the stage after a refusal

-- where the process was directed alone
run-undoes : (s : ProbeState)
    → (is_undoing (with_run_next s Release).stage ≡ true)
    × (left s.stood (with_run_next s Release).stage ≡ releasing s.stood)
unfolding is_undoing left releasing
run-undoes s =
    run-next-by (λ t. (is_undoing t.stage ≡ true) × (left s.stood t.stage ≡ releasing s.stood)) s Release
    (λ stands. (refl, rw stands refl)) (λ runs. (refl, rw runs refl))

refused-undoes : (s : ProbeState) (g : ProbeStage) (e : Errno)
    → (is_undoing (refused (at_stage s g) e).stage ≡ true)
    × (left s.stood (refused (at_stage s g) e).stage ≡ undoing g s.stood)
unfolding refused with_next way_out way_out_of_trace is_undoing left undoing has_changed_sets is_directed
refused-undoes s (Open Control) e = (refl, refl)
refused-undoes s (Open Status) e = (refl, refl)
refused-undoes s (Open Lstatus) e = (refl, refl)
refused-undoes s (Open Map) e = (refl, refl)
refused-undoes s (Open AgentControl) e = (refl, refl)
refused-undoes s (Open AgentStatus) e = (refl, refl)
refused-undoes s ReadFirst e = (refl, refl)
refused-undoes s Stop e = (refl, refl)
refused-undoes s AwaitStop e = run-undoes (record (at_stage s AwaitStop) { refusal = Some e })
refused-undoes s ReadStatus e = run-undoes (record (at_stage s ReadStatus) { refusal = Some e })
refused-undoes s ReadMap e = run-undoes (record (at_stage s ReadMap) { refusal = Some e })
refused-undoes s SaveCode e = run-undoes (record (at_stage s SaveCode) { refusal = Some e })
refused-undoes s SaveStack e = run-undoes (record (at_stage s SaveStack) { refusal = Some e })
refused-undoes s (Trace Signals) e = run-undoes (record (at_stage s (Trace Signals)) { refusal = Some e })
refused-undoes s (Trace Faults) e = (refl, refl)
refused-undoes s (Trace Entries) e = (refl, refl)
refused-undoes s (Trace Exits) e = (refl, refl)
refused-undoes s MakeAgent e = (refl, refl)
refused-undoes s PlantCode e = (refl, refl)
refused-undoes s (Asking d SetRegisters) e = (refl, refl)
refused-undoes s (Asking d RunAgent) e = (refl, refl)
refused-undoes s (Asking d Await) e = (refl, refl)
refused-undoes s (Asking d ReadAgent) e = (refl, refl)
refused-undoes s (Asking d ReadKind) e = (refl, refl)
refused-undoes s UntraceExits e = (refl, refl)
refused-undoes s SetExit e = (refl, refl)
refused-undoes s RunExit e = (refl, refl)
refused-undoes s AwaitExit e = (refl, refl)
refused-undoes s WriteCode e = (refl, refl)
refused-undoes s WriteStack e = (refl, refl)
refused-undoes s (Retrace Signals) e = (refl, refl)
refused-undoes s (Retrace Faults) e = (refl, refl)
refused-undoes s (Retrace Entries) e = (refl, refl)
refused-undoes s (Retrace Exits) e = (refl, refl)
refused-undoes s Run e = (refl, refl)
refused-undoes s (Restore Signals) e = (refl, refl)
refused-undoes s (Restore Faults) e = (refl, refl)
refused-undoes s (Restore Entries) e = (refl, refl)
refused-undoes s (Restore Exits) e = (refl, refl)
refused-undoes s Release e = (refl, refl)
refused-undoes s Close e = (refl, refl)

refused-stood : (s : ProbeState) (e : Errno) → (refused s e).stood ≡ s.stood
unfolding refused
refused-stood s e = next-kept (λ t. t.stood) (λ t g. refl) (record s { refusal = Some e }) (way_out s.stage)

pub undone-kept : (s : ProbeState) (e : Errno) (rs : List Reply) → has_ended (fed_all (refused s e) rs) ≡ true
    → undone_in (refused s e) rs ≡ undoing s.stage s.stood
undone-kept s e rs ended =
    let after = refused-undoes s s.stage e in
    undone-left (refused s e) rs after.0 ended ∙ ap (λ (b : Bool). left b (refused s e).stage) (refused-stood s e)
    ∙ after.1
