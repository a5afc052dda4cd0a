-- The stages of a run stand in their order.
use Rattle.std.proofs.Common.{◌≡◌, ◌+◌, ◌-◌, ◌<◌, ◌≤◌, ◌++◌, ◌∷◌, ℕ, suc, Bool, true, false, Option, Some, None, List, [], cond, drop, nat_lt, ap, arith, append_assoc, inl, inr, refl, sym, ◌∙◌}
use Rattle.std.specs.List.{flat_map, range_with_len}
use Rattle.std.proofs.lemmas.Bool.{cases_Bool, ltb-false, ltb-true}
use Rattle.pr_model.specs.declared.calls.Reply.{Reply}
use Rattle.pr_model.specs.declared.calls.Reply.TheVariants as reply
use Rattle.pr_num.specs.declared.errnos.Errno.{Errno}
use Rattle.pr_num.specs.Limits.{descriptor_limit}
use Rattle.pr_tools.specs.Replies.{bytes_read}
use Rattle.pr_probe.specs.ProbeRuns.{asking, asking_mark, fed_all, gathered, leaving, opening, restoring, sequence, stage_mark, stages_in}
use Rattle.pr_probe.specs.ProbeStages.{asking_after, stage_after, stage_asked, stage_opened}
use Rattle.pr_probe.specs.Probes.{ProbeState, accepted, advanced, asked, asking_accepted, at_stage, fed, first_probe, has_ended, with_status}
use Rattle.pr_probe.specs.TracedSets.{kind_after}
use Rattle.pr_probe.specs.declared.probe_stages.AskingStep.TheVariants.{SetRegisters, Run as RunAgent, Await, ReadAgent, ReadKind}
use Rattle.pr_probe.specs.declared.probe_stages.ProbeFile.TheVariants.{Control, Status, Lstatus, Map, AgentControl, AgentStatus}
use Rattle.pr_probe.specs.declared.probe_stages.ProbeStage.{ProbeStage}
use Rattle.pr_probe.specs.declared.probe_stages.ProbeStage.TheVariants.{Open, ReadFirst, Stop, AwaitStop, ReadStatus, ReadMap, SaveCode, SaveStack, Trace, MakeAgent, PlantCode, Asking, UntraceExits, SetExit, RunExit, AwaitExit, WriteCode, WriteStack, Retrace, Run, Restore, Release, Close}
use Rattle.pr_probe.specs.declared.traced_sets.SetKind.TheVariants.{Signals, Faults, Entries, Exits}
use Rattle.pr_probe.proofs.FedLemmas.{advanced-same, all-back, answer-by, ended-closes, fed-by, map-by, not-refused, poll-by}

-- ---- what is left of the order at a stage

-- the descriptors from one on
unfoldable all_asked : ℕ → List ProbeStage
all_asked d = flat_map asking (range_with_len d (descriptor_limit - d))

unfoldable left_of : ProbeStage → List ProbeStage
left_of (Open Control) = drop 0 opening ++ all_asked 0 ++ leaving
left_of (Open Status) = drop 1 opening ++ all_asked 0 ++ leaving
left_of (Open Lstatus) = drop 2 opening ++ all_asked 0 ++ leaving
left_of (Open Map) = drop 3 opening ++ all_asked 0 ++ leaving
left_of (Open AgentControl) = drop 16 opening ++ all_asked 0 ++ leaving
left_of (Open AgentStatus) = drop 17 opening ++ all_asked 0 ++ leaving
left_of ReadFirst = drop 4 opening ++ all_asked 0 ++ leaving
left_of Stop = drop 5 opening ++ all_asked 0 ++ leaving
left_of AwaitStop = drop 6 opening ++ all_asked 0 ++ leaving
left_of ReadStatus = drop 7 opening ++ all_asked 0 ++ leaving
left_of ReadMap = drop 8 opening ++ all_asked 0 ++ leaving
left_of SaveCode = drop 9 opening ++ all_asked 0 ++ leaving
left_of SaveStack = drop 10 opening ++ all_asked 0 ++ leaving
left_of (Trace Signals) = drop 11 opening ++ all_asked 0 ++ leaving
left_of (Trace Faults) = drop 12 opening ++ all_asked 0 ++ leaving
left_of (Trace Entries) = drop 13 opening ++ all_asked 0 ++ leaving
left_of (Trace Exits) = drop 14 opening ++ all_asked 0 ++ leaving
left_of MakeAgent = drop 15 opening ++ all_asked 0 ++ leaving
left_of PlantCode = drop 18 opening ++ all_asked 0 ++ leaving
left_of (Asking d SetRegisters) = drop 0 (asking d) ++ all_asked (d + 1) ++ leaving
left_of (Asking d RunAgent) = drop 1 (asking d) ++ all_asked (d + 1) ++ leaving
left_of (Asking d Await) = drop 2 (asking d) ++ all_asked (d + 1) ++ leaving
left_of (Asking d ReadAgent) = drop 2 (asking d) ++ all_asked (d + 1) ++ leaving
left_of (Asking d ReadKind) = drop 3 (asking d) ++ all_asked (d + 1) ++ leaving
left_of UntraceExits = drop 0 leaving
left_of SetExit = drop 1 leaving
left_of RunExit = drop 2 leaving
left_of AwaitExit = drop 3 leaving
left_of WriteCode = drop 3 leaving
left_of WriteStack = drop 4 leaving
left_of (Retrace Signals) = drop 5 leaving
left_of (Retrace Faults) = drop 6 leaving
left_of (Retrace Entries) = drop 7 leaving
left_of (Retrace Exits) = drop 8 leaving
left_of Run = []
left_of (Restore Signals) = drop 0 restoring
left_of (Restore Faults) = drop 1 restoring
left_of (Restore Entries) = drop 2 restoring
left_of (Restore Exits) = drop 3 restoring
left_of Release = []
left_of Close = []

asked-from : (d n : ℕ) → descriptor_limit - d ≡ suc n
    → all_asked d ≡ asking d ++ flat_map asking (range_with_len (d + 1) n)
unfolding all_asked
asked-from d n some = ap (λ (k : ℕ). flat_map asking (range_with_len d k)) some

asked-more : (d : ℕ) → d < descriptor_limit → all_asked d ≡ asking d ++ all_asked (d + 1)
unfolding all_asked
asked-more d more = asked-from d (descriptor_limit - (d + 1)) (omega arith)

asked-none : (d : ℕ) → descriptor_limit ≤ d → all_asked d ≡ []
unfolding all_asked
asked-none d none =
    let nothing : descriptor_limit - d ≡ 0 = omega arith in ap (λ (k : ℕ). flat_map asking (range_with_len d k)) nothing

-- after a descriptor the later ones are left
asked-goes : (d : ℕ) → nat_lt d (descriptor_limit - 1) ≡ true → left_of (stage_asked d) ≡ all_asked (d + 1) ++ leaving
unfolding stage_asked left_of asking leaving all_asked
asked-goes d more =
    let within : d < descriptor_limit - 1 = ltb-true _ _ more in
    rw more
    (sym
    (ap (λ (xs : List ProbeStage). xs ++ leaving) (asked-more (d + 1) (omega arith))
    ∙ append_assoc (asking (d + 1)) (all_asked (d + 1 + 1)) leaving))

asked-ends : (d : ℕ) → nat_lt d (descriptor_limit - 1) ≡ false → left_of (stage_asked d) ≡ all_asked (d + 1) ++ leaving
unfolding stage_asked left_of
asked-ends d none =
    let past : descriptor_limit - 1 ≤ d = ltb-false _ _ none in
    rw none (sym (ap (λ (xs : List ProbeStage). xs ++ leaving) (asked-none (d + 1) (omega arith))))

asked-left : (d : ℕ) → left_of (stage_asked d) ≡ all_asked (d + 1) ++ leaving
asked-left d =
    elim (cases_Bool (nat_lt d (descriptor_limit - 1))) [ inl more ↦ asked-goes d more | inr none ↦ asked-ends d none ]

-- ---- one step

after-left : (g : ProbeStage) → stage_mark g ++ left_of (stage_after g) ≡ left_of g
unfolding stage_after stage_mark asking_mark left_of stage_opened asking_after kind_after opening leaving asking
after-left (Open Control) = refl
after-left (Open Status) = refl
after-left (Open Lstatus) = refl
after-left (Open Map) = refl
after-left (Open AgentControl) = refl
after-left (Open AgentStatus) = refl
after-left ReadFirst = refl
after-left Stop = refl
after-left AwaitStop = refl
after-left ReadStatus = refl
after-left ReadMap = refl
after-left SaveCode = refl
after-left SaveStack = refl
after-left (Trace Signals) = refl
after-left (Trace Faults) = refl
after-left (Trace Entries) = refl
after-left (Trace Exits) = refl
after-left MakeAgent = refl
after-left PlantCode =
    ap (λ (xs : List ProbeStage). PlantCode ∷ xs)
    (sym
    (ap (λ (xs : List ProbeStage). xs ++ leaving) (asked-more 0 (omega arith))
    ∙ append_assoc (asking 0) (all_asked (0 + 1)) leaving))
after-left (Asking d SetRegisters) = refl
after-left (Asking d RunAgent) = refl
after-left (Asking d Await) = refl
after-left (Asking d ReadAgent) = refl
after-left (Asking d ReadKind) = asked-left d
after-left UntraceExits = refl
after-left SetExit = refl
after-left RunExit = refl
after-left AwaitExit = refl
after-left WriteCode = refl
after-left WriteStack = refl
after-left (Retrace Signals) = refl
after-left (Retrace Faults) = refl
after-left (Retrace Entries) = refl
after-left (Retrace Exits) = refl
after-left Run = refl
after-left (Restore Signals) = refl
after-left (Restore Faults) = refl
after-left (Restore Entries) = refl
after-left (Restore Exits) = refl
after-left Release = refl
after-left Close = refl

run-left : left_of Close ≡ left_of Run
unfolding left_of
run-left = refl

release-left : left_of Close ≡ left_of Release
unfolding left_of
release-left = refl

advanced-left : (s : ProbeState) (g : ProbeStage) → s.stage ≡ g → stage_mark g ++ left_of (advanced s).stage ≡ left_of g
advanced-left s g is =
    ap (λ (xs : List ProbeStage). stage_mark g ++ xs)
    (advanced-same left_of run-left release-left s ∙ ap (λ (h : ProbeStage). left_of (stage_after h)) is)
    ∙ after-left g

-- the stages beside the order
wait-left : (d : ℕ) → stage_mark (Asking d Await) ++ left_of (Asking d Await) ≡ left_of (Asking d Await)
unfolding stage_mark asking_mark
wait-left d = refl

exit-left : stage_mark AwaitExit ++ left_of AwaitExit ≡ left_of AwaitExit
unfolding stage_mark
exit-left = refl

close-left : stage_mark Close ++ left_of Close ≡ left_of Close
unfolding stage_mark
close-left = refl

read-kind-left : (d : ℕ) → stage_mark (Asking d ReadAgent) ++ left_of (Asking d ReadKind) ≡ left_of (Asking d ReadAgent)
unfolding stage_mark asking_mark left_of asking
read-kind-left d = refl

shut-left : (d : ℕ) → stage_mark (Asking d ReadAgent) ++ left_of (stage_asked d) ≡ left_of (Asking d ReadAgent)
unfolding stage_mark asking_mark left_of asking
shut-left d = ap (λ (xs : List ProbeStage). Asking d ReadAgent ∷ xs) (asked-left d)

kind-left : (d : ℕ) → stage_mark (Asking d ReadKind) ++ left_of (stage_asked d) ≡ left_of (Asking d ReadKind)
unfolding stage_mark asking_mark left_of asking
kind-left d = asked-left d

-- the next stage goes on with what is left, where nothing is refused
abbrev GoesOn : ProbeStage → ProbeState → Type 0
GoesOn g t = t.refusal ≡ None → stage_mark g ++ left_of t.stage ≡ left_of g

accepted-goes : (s : ProbeState) (g : ProbeStage) (r : Reply) → GoesOn g (accepted (at_stage s g) r g)
unfolding accepted asking_accepted with_status
accepted-goes s (Open f) r = λ none. advanced-left _ (Open f) refl
accepted-goes s ReadFirst r = λ none. advanced-left _ ReadFirst refl
accepted-goes s Stop r = λ none. advanced-left _ Stop refl
accepted-goes s AwaitStop r = λ none. advanced-left _ AwaitStop refl
accepted-goes s ReadStatus r = λ none. advanced-left _ ReadStatus refl
accepted-goes s ReadMap r =
    map-by (GoesOn ReadMap) (at_stage s ReadMap) (bytes_read r) (λ e none. not-refused (at_stage s ReadMap) e none)
    (λ none. advanced-left (at_stage s ReadMap) ReadMap refl)
accepted-goes s SaveCode r = λ none. advanced-left _ SaveCode refl
accepted-goes s SaveStack r = λ none. advanced-left _ SaveStack refl
accepted-goes s (Trace k) r = λ none. advanced-left _ (Trace k) refl
accepted-goes s MakeAgent r = λ none. advanced-left _ MakeAgent refl
accepted-goes s PlantCode r = λ none. advanced-left _ PlantCode refl
accepted-goes s (Asking d SetRegisters) r = λ none. advanced-left _ (Asking d SetRegisters) refl
accepted-goes s (Asking d RunAgent) r = λ none. advanced-left _ (Asking d RunAgent) refl
accepted-goes s (Asking d Await) r =
    poll-by (GoesOn (Asking d Await)) (at_stage s (Asking d Await)) r (λ none. wait-left d)
    (λ none. advanced-left (at_stage s (Asking d Await)) (Asking d Await) refl)
accepted-goes s (Asking d ReadAgent) r =
    answer-by (GoesOn (Asking d ReadAgent)) (at_stage s (Asking d ReadAgent)) d (bytes_read r)
    (λ none. read-kind-left d) (λ none. shut-left d)
accepted-goes s (Asking d ReadKind) r = λ none. kind-left d
accepted-goes s UntraceExits r = λ none. advanced-left _ UntraceExits refl
accepted-goes s SetExit r = λ none. advanced-left _ SetExit refl
accepted-goes s RunExit r = λ none. advanced-left _ RunExit refl
accepted-goes s AwaitExit r =
    poll-by (GoesOn AwaitExit) (at_stage s AwaitExit) r (λ none. exit-left)
    (λ none. advanced-left (at_stage s AwaitExit) AwaitExit refl)
accepted-goes s WriteCode r = λ none. advanced-left _ WriteCode refl
accepted-goes s WriteStack r = λ none. advanced-left _ WriteStack refl
accepted-goes s (Retrace k) r = λ none. advanced-left _ (Retrace k) refl
accepted-goes s Run r = λ none. advanced-left _ Run refl
accepted-goes s (Restore k) r = λ none. advanced-left _ (Restore k) refl
accepted-goes s Release r = λ none. advanced-left _ Release refl
accepted-goes s Close r = λ none. close-left

fed-goes : (s : ProbeState) (r : Reply) → GoesOn s.stage (fed s r)
fed-goes s r =
    fed-by (GoesOn s.stage) s r (λ e is none. not-refused s e none) (λ is. accepted-goes s s.stage r)

-- ---- a run

closed-left : left_of Close ≡ []
unfolding left_of
closed-left = refl

stages-left : (s : ProbeState) (rs : List Reply) → has_ended (fed_all s rs) ≡ true → (fed_all s rs).refusal ≡ None
    → stages_in s rs ≡ left_of s.stage
unfolding fed_all stages_in gathered
stages-left s [] ended none = sym (ap left_of (ended-closes s ended) ∙ closed-left)
stages-left s (r ∷ rs) ended none =
    ap (λ (xs : List ProbeStage). stage_mark s.stage ++ xs) (stages-left (fed s r) rs ended none)
    ∙ fed-goes s r (all-back (fed s r) rs none)

first-left : (pid : ℕ) → left_of (first_probe pid).stage ≡ sequence
unfolding first_probe left_of all_asked sequence
first-left pid = refl

pub sequence-kept : (pid : ℕ) (rs : List Reply) → has_ended (fed_all (first_probe pid) rs) ≡ true
    → (fed_all (first_probe pid) rs).refusal ≡ None → stages_in (first_probe pid) rs ≡ sequence
sequence-kept pid rs ended none = stages-left (first_probe pid) rs ended none ∙ first-left pid
