-- The bytes of the stack that are written back are those that were saved.
use Rattle.std.proofs.Common.{◌≡◌, ◌++◌, ◌∷◌, ◌-◌, ◌+◌, ℕ, Bool, true, false, None, List, [], cond, nat_lt, take, ap, append_assoc, refl, sym, ◌∙◌}
use Rattle.pr_num.specs.Limits.{descriptor_limit}
use Rattle.pr_model.specs.declared.calls.Reply.{Reply}
use Rattle.pr_model.specs.declared.calls.Reply.TheVariants as reply
use Rattle.pr_num.specs.declared.errnos.Errno.{Errno}
use Rattle.pr_tools.specs.Replies.{bytes_read}
use Rattle.pr_probe.specs.AgentCode.{stack_size}
use Rattle.pr_probe.specs.DescriptorLines.{kind_in}
use Rattle.pr_probe.specs.ProbeRuns.{stack_saved_at, stack_written_at, stacks_saved, stacks_written, fed_all, gathered}
use Rattle.pr_probe.specs.ProbeStages.{asking_after, stage_after, stage_asked, stage_opened}
use Rattle.pr_probe.specs.Probes.{ProbeState, accepted, advanced, asked, asking_accepted, at_stage, fed, first_probe, has_ended, with_status}
use Rattle.pr_probe.specs.TracedSets.{kind_after}
use Rattle.pr_probe.specs.declared.probe_stages.AskingStep.TheVariants.{SetRegisters, Run as RunAgent, Await, ReadAgent, ReadKind}
use Rattle.pr_probe.specs.declared.probe_stages.ProbeFile.TheVariants.{Control, Status, Lstatus, Map, AgentControl, AgentStatus}
use Rattle.pr_probe.specs.declared.probe_stages.ProbeStage.{ProbeStage}
use Rattle.pr_probe.specs.declared.probe_stages.ProbeStage.TheVariants.{Open, ReadFirst, Stop, AwaitStop, ReadStatus, ReadMap, SaveCode, SaveStack, Trace, MakeAgent, PlantCode, Asking, UntraceExits, SetExit, RunExit, AwaitExit, WriteCode, WriteStack, Retrace, Run, Restore, Release, Close}
use Rattle.pr_probe.specs.declared.traced_sets.SetKind.TheVariants.{Signals, Faults, Entries, Exits}
use Rattle.pr_probe.proofs.FedLemmas.{advanced-kept, advanced-same, all-back, answer-by, ended-closes, fed-by, kind-kept, map-by, not-refused, poll-by}

-- what is saved before a stage and not yet written back, of the bytes that are kept
unfoldable owed : ProbeStage → List ℕ → List (List ℕ)
owed (Open Control) stack = []
owed (Open Status) stack = []
owed (Open Lstatus) stack = []
owed (Open Map) stack = []
owed (Open AgentControl) stack = stack ∷ []
owed (Open AgentStatus) stack = stack ∷ []
owed ReadFirst stack = []
owed Stop stack = []
owed AwaitStop stack = []
owed ReadStatus stack = []
owed ReadMap stack = []
owed SaveCode stack = []
owed SaveStack stack = []
owed (Trace k) stack = stack ∷ []
owed MakeAgent stack = stack ∷ []
owed PlantCode stack = stack ∷ []
owed (Asking d step) stack = stack ∷ []
owed UntraceExits stack = stack ∷ []
owed SetExit stack = stack ∷ []
owed RunExit stack = stack ∷ []
owed AwaitExit stack = stack ∷ []
owed WriteCode stack = stack ∷ []
owed WriteStack stack = stack ∷ []
owed (Retrace k) stack = []
owed Run stack = []
owed (Restore k) stack = []
owed Release stack = []
owed Close stack = []

-- the bytes that are kept after an answer
unfoldable kept : ProbeStage → Reply → List ℕ → List ℕ
kept SaveStack r stack = take stack_size (bytes_read r)
kept g r stack = stack

asked-owed : (d : ℕ) (stack : List ℕ) → owed (stage_asked d) stack ≡ stack ∷ []
unfolding stage_asked owed
asked-owed d stack = of (nat_lt d (descriptor_limit - 1))
  where
    of : (b : Bool) → owed (cond b (Asking (d + 1) SetRegisters) UntraceExits) stack ≡ stack ∷ []
    of true = refl
    of false = refl

run-owed : (stack : List ℕ) → owed Close stack ≡ owed Run stack
unfolding owed
run-owed stack = refl

release-owed : (stack : List ℕ) → owed Close stack ≡ owed Release stack
unfolding owed
release-owed stack = refl

-- what is saved and owed is written, or owed still
unfoldable Goes : ProbeState → ProbeStage → Reply → ProbeStage → List ℕ → Type 0
Goes s g r next bytes = owed g s.stack ++ stack_saved_at g r ≡ stack_written_at g s ++ owed next bytes

after-owed : (s : ProbeState) (g : ProbeStage) (r : Reply) → Goes s g r (stage_after g) (kept g r s.stack)
unfolding Goes stage_after stage_opened asking_after kind_after owed kept stack_saved_at stack_written_at
after-owed s (Open Control) r = refl
after-owed s (Open Status) r = refl
after-owed s (Open Lstatus) r = refl
after-owed s (Open Map) r = refl
after-owed s (Open AgentControl) r = refl
after-owed s (Open AgentStatus) r = refl
after-owed s ReadFirst r = refl
after-owed s Stop r = refl
after-owed s AwaitStop r = refl
after-owed s ReadStatus r = refl
after-owed s ReadMap r = refl
after-owed s SaveCode r = refl
after-owed s SaveStack r = refl
after-owed s (Trace Signals) r = refl
after-owed s (Trace Faults) r = refl
after-owed s (Trace Entries) r = refl
after-owed s (Trace Exits) r = refl
after-owed s MakeAgent r = refl
after-owed s PlantCode r = refl
after-owed s (Asking d SetRegisters) r = refl
after-owed s (Asking d RunAgent) r = refl
after-owed s (Asking d Await) r = refl
after-owed s (Asking d ReadAgent) r = refl
after-owed s (Asking d ReadKind) r = sym (asked-owed d s.stack)
after-owed s UntraceExits r = refl
after-owed s SetExit r = refl
after-owed s RunExit r = refl
after-owed s AwaitExit r = refl
after-owed s WriteCode r = refl
after-owed s WriteStack r = refl
after-owed s (Retrace Signals) r = refl
after-owed s (Retrace Faults) r = refl
after-owed s (Retrace Entries) r = refl
after-owed s (Retrace Exits) r = refl
after-owed s Run r = refl
after-owed s (Restore Signals) r = refl
after-owed s (Restore Faults) r = refl
after-owed s (Restore Entries) r = refl
after-owed s (Restore Exits) r = refl
after-owed s Release r = refl
after-owed s Close r = refl

advanced-goes : (s u : ProbeState) (g : ProbeStage) (r : Reply) → u.stage ≡ g → u.stack ≡ kept g r s.stack
    → Goes s g r (advanced u).stage (advanced u).stack
unfolding Goes
advanced-goes s u g r at bytes =
    after-owed s g r
    ∙ ap (λ (xs : List (List ℕ)). stack_written_at g s ++ xs)
    (sym
    (ap (owed (advanced u).stage) (advanced-kept (λ t. t.stack) (λ t h. refl) u)
    ∙ advanced-same (λ (h : ProbeStage). owed h u.stack) (run-owed u.stack) (release-owed u.stack) u
    ∙ ap (λ (h : ProbeStage). owed (stage_after h) u.stack) at ∙ ap (owed (stage_after g)) bytes))

-- the same stage, and those beside the order
again-goes : (s : ProbeState) (d : ℕ) (r : Reply) → Goes s (Asking d Await) r (Asking d Await) s.stack
unfolding Goes owed stack_saved_at stack_written_at
again-goes s d r = refl

exit-goes : (s : ProbeState) (r : Reply) → Goes s AwaitExit r AwaitExit s.stack
unfolding Goes owed stack_saved_at stack_written_at
exit-goes s r = refl

found-goes : (s : ProbeState) (d : ℕ) (r : Reply) → Goes s (Asking d ReadAgent) r (Asking d ReadKind) s.stack
unfolding Goes owed stack_saved_at stack_written_at
found-goes s d r = refl

shut-goes : (s : ProbeState) (d : ℕ) (r : Reply) → Goes s (Asking d ReadAgent) r (stage_asked d) s.stack
unfolding Goes owed stack_saved_at stack_written_at
shut-goes s d r = sym (asked-owed d s.stack)

kind-goes : (s : ProbeState) (d : ℕ) (r : Reply) (bytes : List ℕ) → bytes ≡ s.stack
    → Goes s (Asking d ReadKind) r (stage_asked d) bytes
unfolding Goes owed stack_saved_at stack_written_at
kind-goes s d r bytes same = sym (asked-owed d bytes ∙ ap (λ (b : List ℕ). b ∷ []) same)

close-goes : (s : ProbeState) (r : Reply) → Goes s Close r Close s.stack
unfolding Goes owed stack_saved_at stack_written_at
close-goes s r = refl

stack-saved : (s : ProbeState) (r : Reply) → take stack_size (bytes_read r) ≡ kept SaveStack r s.stack
unfolding kept
stack-saved s r = refl

keeps-plain : (s : ProbeState) (g : ProbeStage) (r : Reply) → kept g r s.stack ≡ s.stack → s.stack ≡ kept g r s.stack
keeps-plain s g r same = sym same

-- where nothing is refused
abbrev Keeps : ProbeState → ProbeStage → Reply → ProbeState → Type 0
Keeps s g r t = t.refusal ≡ None → Goes s g r t.stage t.stack

accepted-keeps : (s : ProbeState) (g : ProbeStage) (r : Reply) → Keeps (at_stage s g) g r (accepted (at_stage s g) r g)
unfolding accepted asking_accepted with_status kept
accepted-keeps s (Open f) r =
    λ none. advanced-goes (at_stage s (Open f)) _ (Open f) r refl (keeps-plain (at_stage s (Open f)) (Open f) r refl)
accepted-keeps s ReadFirst r =
    λ none. advanced-goes (at_stage s ReadFirst) _ ReadFirst r refl
    (keeps-plain (at_stage s ReadFirst) ReadFirst r refl)
accepted-keeps s Stop r =
    λ none. advanced-goes (at_stage s Stop) _ Stop r refl (keeps-plain (at_stage s Stop) Stop r refl)
accepted-keeps s AwaitStop r =
    λ none. advanced-goes (at_stage s AwaitStop) _ AwaitStop r refl
    (keeps-plain (at_stage s AwaitStop) AwaitStop r refl)
accepted-keeps s ReadStatus r =
    λ none. advanced-goes (at_stage s ReadStatus) _ ReadStatus r refl
    (keeps-plain (at_stage s ReadStatus) ReadStatus r refl)
accepted-keeps s ReadMap r =
    map-by (Keeps (at_stage s ReadMap) ReadMap r) (at_stage s ReadMap) (bytes_read r)
    (λ e none. not-refused (at_stage s ReadMap) e none)
    (λ none.
    advanced-goes (at_stage s ReadMap) (at_stage s ReadMap) ReadMap r refl
    (keeps-plain (at_stage s ReadMap) ReadMap r refl))
accepted-keeps s SaveCode r =
    λ none. advanced-goes (at_stage s SaveCode) _ SaveCode r refl (keeps-plain (at_stage s SaveCode) SaveCode r refl)
accepted-keeps s SaveStack r =
    λ none. advanced-goes (at_stage s SaveStack) _ SaveStack r refl (stack-saved (at_stage s SaveStack) r)
accepted-keeps s (Trace k) r =
    λ none. advanced-goes (at_stage s (Trace k)) _ (Trace k) r refl
    (keeps-plain (at_stage s (Trace k)) (Trace k) r refl)
accepted-keeps s MakeAgent r =
    λ none. advanced-goes (at_stage s MakeAgent) _ MakeAgent r refl
    (keeps-plain (at_stage s MakeAgent) MakeAgent r refl)
accepted-keeps s PlantCode r =
    λ none. advanced-goes (at_stage s PlantCode) _ PlantCode r refl
    (keeps-plain (at_stage s PlantCode) PlantCode r refl)
accepted-keeps s (Asking d SetRegisters) r =
    λ none. advanced-goes (at_stage s (Asking d SetRegisters)) _ (Asking d SetRegisters) r refl
    (keeps-plain (at_stage s (Asking d SetRegisters)) (Asking d SetRegisters) r refl)
accepted-keeps s (Asking d RunAgent) r =
    λ none. advanced-goes (at_stage s (Asking d RunAgent)) _ (Asking d RunAgent) r refl
    (keeps-plain (at_stage s (Asking d RunAgent)) (Asking d RunAgent) r refl)
accepted-keeps s (Asking d Await) r =
    poll-by (Keeps (at_stage s (Asking d Await)) (Asking d Await) r) (at_stage s (Asking d Await)) r
    (λ none. again-goes (at_stage s (Asking d Await)) d r)
    (λ none.
    advanced-goes (at_stage s (Asking d Await)) (at_stage s (Asking d Await)) (Asking d Await) r refl
    (keeps-plain (at_stage s (Asking d Await)) (Asking d Await) r refl))
accepted-keeps s (Asking d ReadAgent) r =
    answer-by (Keeps (at_stage s (Asking d ReadAgent)) (Asking d ReadAgent) r) (at_stage s (Asking d ReadAgent)) d
    (bytes_read r) (λ none. found-goes (at_stage s (Asking d ReadAgent)) d r)
    (λ none. shut-goes (at_stage s (Asking d ReadAgent)) d r)
accepted-keeps s (Asking d ReadKind) r =
    λ none. kind-goes (at_stage s (Asking d ReadKind)) d r _
    (kind-kept (λ t. t.stack) (λ t lines. refl) (at_stage s (Asking d ReadKind)) d (kind_in (bytes_read r)))
accepted-keeps s UntraceExits r =
    λ none. advanced-goes (at_stage s UntraceExits) _ UntraceExits r refl
    (keeps-plain (at_stage s UntraceExits) UntraceExits r refl)
accepted-keeps s SetExit r =
    λ none. advanced-goes (at_stage s SetExit) _ SetExit r refl (keeps-plain (at_stage s SetExit) SetExit r refl)
accepted-keeps s RunExit r =
    λ none. advanced-goes (at_stage s RunExit) _ RunExit r refl (keeps-plain (at_stage s RunExit) RunExit r refl)
accepted-keeps s AwaitExit r =
    poll-by (Keeps (at_stage s AwaitExit) AwaitExit r) (at_stage s AwaitExit) r
    (λ none. exit-goes (at_stage s AwaitExit) r)
    (λ none.
    advanced-goes (at_stage s AwaitExit) (at_stage s AwaitExit) AwaitExit r refl
    (keeps-plain (at_stage s AwaitExit) AwaitExit r refl))
accepted-keeps s WriteCode r =
    λ none. advanced-goes (at_stage s WriteCode) _ WriteCode r refl
    (keeps-plain (at_stage s WriteCode) WriteCode r refl)
accepted-keeps s WriteStack r =
    λ none. advanced-goes (at_stage s WriteStack) _ WriteStack r refl
    (keeps-plain (at_stage s WriteStack) WriteStack r refl)
accepted-keeps s (Retrace k) r =
    λ none. advanced-goes (at_stage s (Retrace k)) _ (Retrace k) r refl
    (keeps-plain (at_stage s (Retrace k)) (Retrace k) r refl)
accepted-keeps s Run r = λ none. advanced-goes (at_stage s Run) _ Run r refl (keeps-plain (at_stage s Run) Run r refl)
accepted-keeps s (Restore k) r =
    λ none. advanced-goes (at_stage s (Restore k)) _ (Restore k) r refl
    (keeps-plain (at_stage s (Restore k)) (Restore k) r refl)
accepted-keeps s Release r =
    λ none. advanced-goes (at_stage s Release) _ Release r refl (keeps-plain (at_stage s Release) Release r refl)
accepted-keeps s Close r = λ none. close-goes (at_stage s Close) r

fed-keeps : (s : ProbeState) (r : Reply) → Keeps s s.stage r (fed s r)
fed-keeps s r =
    fed-by (Keeps s s.stage r) s r (λ e is none. not-refused s e none) (λ is. accepted-keeps s s.stage r)

-- ---- a run

closed-owed : (stack : List ℕ) → owed Close stack ≡ []
unfolding owed
closed-owed stack = refl

goes-is : (s t : ProbeState) (r : Reply) → Goes s s.stage r t.stage t.stack
    → owed s.stage s.stack ++ stack_saved_at s.stage r ≡ stack_written_at s.stage s ++ owed t.stage t.stack
unfolding Goes
goes-is s t r goes = goes

stacks-kept : (s : ProbeState) (rs : List Reply) → has_ended (fed_all s rs) ≡ true → (fed_all s rs).refusal ≡ None
    → owed s.stage s.stack ++ stacks_saved s rs ≡ stacks_written s rs
unfolding fed_all stacks_saved stacks_written gathered
stacks-kept s [] ended none =
    ap (λ (xs : List (List ℕ)). xs ++ [])
    (ap (λ (g : ProbeStage). owed g s.stack) (ended-closes s ended) ∙ closed-owed s.stack)
stacks-kept s (r ∷ rs) ended none =
    let one : Goes s s.stage r (fed s r).stage (fed s r).stack = fed-keeps s r (all-back (fed s r) rs none) in
    let more = stacks-kept (fed s r) rs ended none in
    let saved = stack_saved_at s.stage r in
    let written = stack_written_at s.stage s in
    sym (append_assoc (owed s.stage s.stack) saved (stacks_saved (fed s r) rs))
    ∙ ap (λ (xs : List (List ℕ)). xs ++ stacks_saved (fed s r) rs) (goes-is s (fed s r) r one)
    ∙ append_assoc written (owed (fed s r).stage (fed s r).stack) (stacks_saved (fed s r) rs)
    ∙ ap (λ (xs : List (List ℕ)). written ++ xs) more

first-owed : (pid : ℕ) (stack : List ℕ) → owed (first_probe pid).stage stack ≡ []
unfolding owed first_probe
first-owed pid stack = refl

pub stack-kept : (pid : ℕ) (rs : List Reply) → has_ended (fed_all (first_probe pid) rs) ≡ true
    → (fed_all (first_probe pid) rs).refusal ≡ None
    → stacks_written (first_probe pid) rs ≡ stacks_saved (first_probe pid) rs
stack-kept pid rs ended none =
    sym (stacks-kept (first_probe pid) rs ended none)
    ∙ ap (λ (xs : List (List ℕ)). xs ++ stacks_saved (first_probe pid) rs) (first-owed pid (first_probe pid).stack)
