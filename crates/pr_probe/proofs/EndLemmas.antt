-- Where no wait is interrupted, apfiles ends.
use Rattle.std.proofs.Common.{◌≡◌, ◌≢◌, ◌++◌, ◌∷◌, ◌+◌, ◌-◌, ◌*◌, ◌<◌, ◌≤◌, ℕ, zero, suc, Bool, true, false, Option, Some, None, List, [], cond, get_or, inl, inr, is_none, length, nat_lt, option_map, take, ap, arith, refl, sym, subst, ◌∙◌}
use Rattle.std.specs.List.{All, slice_set}
use Rattle.std.proofs.lemmas.Bool.{cases_Bool, ltb-true}
use Rattle.std.proofs.lemmas.List.Elements.{All-head, All-tail}
use Rattle.pr_num.specs.Limits.{descriptor_limit}
use Rattle.pr_num.specs.declared.errnos.Errno.TheVariants.{Intr}
use Rattle.pr_model.specs.declared.calls.Reply.{Reply}
use Rattle.pr_model.specs.declared.calls.Reply.TheVariants as reply
use Rattle.pr_num.specs.declared.errnos.Errno.{Errno}
use Rattle.pr_model.specs.Replies.{until_in}
use Rattle.pr_model.specs.declared.calls.Call.TheVariants as call
use Rattle.pr_tools.specs.Handles.{handle_at, last_open, places_to_last, with_handle, without_last}
use Rattle.pr_tools.specs.Replies.{bytes_read}
use Rattle.pr_tools.specs.Stacks.{process_stands}
use Rattle.pr_tools.specs.declared.handles.Opened.{Opened}
use Rattle.pr_probe.specs.AgentCode.{code_size, stack_size}
use Rattle.pr_probe.specs.DescriptorLines.{kind_in}
use Rattle.pr_probe.specs.ProbeRuns.{IsNoInterrupt, fed_all, most_calls}
use Rattle.pr_probe.specs.ProbeStages.{asking_after, is_asking_passed_over, is_interrupt, is_passed_over, stage_after, stage_asked, stage_opened, way_out, way_out_of_trace}
use Rattle.pr_probe.specs.Probes.{ProbeState, accepted, advanced, after_poll, asked, asking_accepted, at_stage, call_of, fed, first_probe, has_ended, next_call_of, refusal_in, refused, with_kind, with_next, with_opened, with_status}
use Rattle.pr_probe.specs.TracedSets.{kind_after}
use Rattle.pr_probe.specs.declared.traced_sets.SetKind.{SetKind}
use Rattle.pr_probe.specs.declared.probe_stages.AskingStep.TheVariants.{SetRegisters, Run as RunAgent, Await, ReadAgent, ReadKind}
use Rattle.pr_probe.specs.declared.probe_stages.ProbeFile.TheVariants.{Control, Status, Lstatus, Map, AgentControl, AgentStatus}
use Rattle.pr_probe.specs.declared.probe_stages.ProbeStage.{ProbeStage}
use Rattle.pr_probe.specs.declared.probe_stages.ProbeStage.TheVariants.{Open, ReadFirst, Stop, AwaitStop, ReadStatus, ReadMap, SaveCode, SaveStack, Trace, MakeAgent, PlantCode, Asking, UntraceExits, SetExit, RunExit, AwaitExit, WriteCode, WriteStack, Retrace, Run, Restore, Release, Close}
use Rattle.pr_probe.specs.declared.traced_sets.SetKind.TheVariants.{Signals, Faults, Entries, Exits}
use Rattle.pr_probe.proofs.CloseLemmas.{Holds, IsPlaced, all-places, fed-holds, close-is, close-passes, close-shuts, first-placed, is_close, not-close, place_at}
use Rattle.pr_probe.proofs.FedLemmas.{Refuses, answer-by, fed-by, map-by, refusal-counts, run-next-by}
use Rattle.pr_probe.proofs.PlaceLemmas.{first-none, has-last, unset-bare}

-- ---- how many calls are left

-- before the closes
unfoldable calls_at : ProbeStage → ℕ
calls_at (Open Control) = 350
calls_at (Open Status) = 349
calls_at (Open Lstatus) = 348
calls_at (Open Map) = 347
calls_at (Open AgentControl) = 334
calls_at (Open AgentStatus) = 333
calls_at ReadFirst = 346
calls_at Stop = 345
calls_at AwaitStop = 344
calls_at ReadStatus = 343
calls_at ReadMap = 342
calls_at SaveCode = 341
calls_at SaveStack = 340
calls_at (Trace Signals) = 339
calls_at (Trace Faults) = 338
calls_at (Trace Entries) = 337
calls_at (Trace Exits) = 336
calls_at MakeAgent = 335
calls_at PlantCode = 332
calls_at (Asking d SetRegisters) = 11 + 5 * (63 - d) + 5
calls_at (Asking d RunAgent) = 11 + 5 * (63 - d) + 4
calls_at (Asking d Await) = 11 + 5 * (63 - d) + 3
calls_at (Asking d ReadAgent) = 11 + 5 * (63 - d) + 2
calls_at (Asking d ReadKind) = 11 + 5 * (63 - d) + 1
calls_at UntraceExits = 11
calls_at SetExit = 10
calls_at RunExit = 9
calls_at AwaitExit = 8
calls_at WriteCode = 7
calls_at WriteStack = 6
calls_at (Retrace Signals) = 5
calls_at (Retrace Faults) = 4
calls_at (Retrace Entries) = 3
calls_at (Retrace Exits) = 2
calls_at Run = 1
calls_at (Restore Signals) = 5
calls_at (Restore Faults) = 4
calls_at (Restore Entries) = 3
calls_at (Restore Exits) = 2
calls_at Release = 1
calls_at Close = 0

-- the closes: of each place, and where it closes already, of those that are left
unfoldable closes_at : ProbeStage → Opened → ℕ
closes_at Close o = places_to_last o.handles
closes_at _ o = 6

unfoldable calls_left : ProbeState → ℕ
calls_left s = calls_at s.stage + closes_at s.stage s.opened

closes-few : (o : Opened) (g : ProbeStage) → IsPlaced o g → closes_at g o ≤ 6
unfolding closes_at place_at
closes-few o (Open f) placed = omega arith
closes-few o ReadFirst placed = omega arith
closes-few o Stop placed = omega arith
closes-few o AwaitStop placed = omega arith
closes-few o ReadStatus placed = omega arith
closes-few o ReadMap placed = omega arith
closes-few o SaveCode placed = omega arith
closes-few o SaveStack placed = omega arith
closes-few o (Trace k) placed = omega arith
closes-few o MakeAgent placed = omega arith
closes-few o PlantCode placed = omega arith
closes-few o (Asking d step) placed = omega arith
closes-few o UntraceExits placed = omega arith
closes-few o SetExit placed = omega arith
closes-few o RunExit placed = omega arith
closes-few o AwaitExit placed = omega arith
closes-few o WriteCode placed = omega arith
closes-few o WriteStack placed = omega arith
closes-few o (Retrace k) placed = omega arith
closes-few o Run placed = omega arith
closes-few o (Restore k) placed = omega arith
closes-few o Release placed = omega arith
closes-few o Close placed = placed.few

closes-six : (o : Opened) (g : ProbeStage) → is_close g ≡ false → closes_at g o ≡ 6
unfolding closes_at is_close
closes-six o (Open f) goes = refl
closes-six o ReadFirst goes = refl
closes-six o Stop goes = refl
closes-six o AwaitStop goes = refl
closes-six o ReadStatus goes = refl
closes-six o ReadMap goes = refl
closes-six o SaveCode goes = refl
closes-six o SaveStack goes = refl
closes-six o (Trace k) goes = refl
closes-six o MakeAgent goes = refl
closes-six o PlantCode goes = refl
closes-six o (Asking d step) goes = refl
closes-six o UntraceExits goes = refl
closes-six o SetExit goes = refl
closes-six o RunExit goes = refl
closes-six o AwaitExit goes = refl
closes-six o WriteCode goes = refl
closes-six o WriteStack goes = refl
closes-six o (Retrace k) goes = refl
closes-six o Run goes = refl
closes-six o (Restore k) goes = refl
closes-six o Release goes = refl
closes-six o Close goes = absurd cc

-- ---- a step before the closes

-- a stage has fewer calls left than another
abbrev Fewer : ProbeStage → ProbeState → Type 0
Fewer g t = calls_at t.stage + 1 ≤ calls_at g

next-calls : (s : ProbeState) (g : ProbeStage) → calls_at (with_next s g).stage ≤ calls_at g
unfolding with_next calls_at
next-calls s (Open Control) = omega arith
next-calls s (Open Status) = omega arith
next-calls s (Open Lstatus) = omega arith
next-calls s (Open Map) = omega arith
next-calls s (Open AgentControl) = omega arith
next-calls s (Open AgentStatus) = omega arith
next-calls s ReadFirst = omega arith
next-calls s Stop = omega arith
next-calls s AwaitStop = omega arith
next-calls s ReadStatus = omega arith
next-calls s ReadMap = omega arith
next-calls s SaveCode = omega arith
next-calls s SaveStack = omega arith
next-calls s (Trace Signals) = omega arith
next-calls s (Trace Faults) = omega arith
next-calls s (Trace Entries) = omega arith
next-calls s (Trace Exits) = omega arith
next-calls s MakeAgent = omega arith
next-calls s PlantCode = omega arith
next-calls s (Asking d SetRegisters) = omega arith
next-calls s (Asking d RunAgent) = omega arith
next-calls s (Asking d Await) = omega arith
next-calls s (Asking d ReadAgent) = omega arith
next-calls s (Asking d ReadKind) = omega arith
next-calls s UntraceExits = omega arith
next-calls s SetExit = omega arith
next-calls s RunExit = omega arith
next-calls s AwaitExit = omega arith
next-calls s WriteCode = omega arith
next-calls s WriteStack = omega arith
next-calls s (Retrace Signals) = omega arith
next-calls s (Retrace Faults) = omega arith
next-calls s (Retrace Entries) = omega arith
next-calls s (Retrace Exits) = omega arith
next-calls s Run = run-next-by (λ t. calls_at t.stage ≤ 1) s Run (λ _. omega arith) (λ _. omega arith)
next-calls s (Restore Signals) = omega arith
next-calls s (Restore Faults) = omega arith
next-calls s (Restore Entries) = omega arith
next-calls s (Restore Exits) = omega arith
next-calls s Release = run-next-by (λ t. calls_at t.stage ≤ 1) s Release (λ _. omega arith) (λ _. omega arith)
next-calls s Close = omega arith

asked-more : (d : ℕ) → nat_lt d (descriptor_limit - 1) ≡ true → calls_at (stage_asked d) + 1 ≤ 11 + 5 * (63 - d) + 1
unfolding stage_asked calls_at
asked-more d more = let less : d < descriptor_limit - 1 = ltb-true _ _ more in rw more (omega arith)

asked-none : (d : ℕ) → nat_lt d (descriptor_limit - 1) ≡ false → calls_at (stage_asked d) + 1 ≤ 11 + 5 * (63 - d) + 1
unfolding stage_asked calls_at
asked-none d none = rw none (omega arith)

asked-calls : (d : ℕ) → calls_at (stage_asked d) + 1 ≤ 11 + 5 * (63 - d) + 1
asked-calls d =
    elim (cases_Bool (nat_lt d (descriptor_limit - 1))) [ inl more ↦ asked-more d more | inr none ↦ asked-none d none ]

after-calls : (g : ProbeStage) → is_close g ≡ false → calls_at (stage_after g) + 1 ≤ calls_at g
unfolding stage_after stage_opened asking_after kind_after calls_at is_close
after-calls (Open Control) goes = omega arith
after-calls (Open Status) goes = omega arith
after-calls (Open Lstatus) goes = omega arith
after-calls (Open Map) goes = omega arith
after-calls (Open AgentControl) goes = omega arith
after-calls (Open AgentStatus) goes = omega arith
after-calls ReadFirst goes = omega arith
after-calls Stop goes = omega arith
after-calls AwaitStop goes = omega arith
after-calls ReadStatus goes = omega arith
after-calls ReadMap goes = omega arith
after-calls SaveCode goes = omega arith
after-calls SaveStack goes = omega arith
after-calls (Trace Signals) goes = omega arith
after-calls (Trace Faults) goes = omega arith
after-calls (Trace Entries) goes = omega arith
after-calls (Trace Exits) goes = omega arith
after-calls MakeAgent goes = omega arith
after-calls PlantCode goes = omega arith
after-calls (Asking d SetRegisters) goes = omega arith
after-calls (Asking d RunAgent) goes = omega arith
after-calls (Asking d Await) goes = omega arith
after-calls (Asking d ReadAgent) goes = omega arith
after-calls (Asking d ReadKind) goes = asked-calls d
after-calls UntraceExits goes = omega arith
after-calls SetExit goes = omega arith
after-calls RunExit goes = omega arith
after-calls AwaitExit goes = omega arith
after-calls WriteCode goes = omega arith
after-calls WriteStack goes = omega arith
after-calls (Retrace Signals) goes = omega arith
after-calls (Retrace Faults) goes = omega arith
after-calls (Retrace Entries) goes = omega arith
after-calls (Retrace Exits) goes = omega arith
after-calls Run goes = omega arith
after-calls (Restore Signals) goes = omega arith
after-calls (Restore Faults) goes = omega arith
after-calls (Restore Entries) goes = omega arith
after-calls (Restore Exits) goes = omega arith
after-calls Release goes = omega arith
after-calls Close goes = absurd cc

advanced-fewer : (u : ProbeState) (g : ProbeStage) → u.stage ≡ g → is_close g ≡ false → Fewer g (advanced u)
unfolding advanced
advanced-fewer u g at goes =
    let next = next-calls u (stage_after u.stage) in
    let same : calls_at (stage_after u.stage) ≡ calls_at (stage_after g) =
    ap (λ (h : ProbeStage). calls_at (stage_after h)) at in
    omega (arith, next, same, after-calls g goes)

-- a refusal
out-calls : (g : ProbeStage) (e : Errno) → is_passed_over g e ≡ false → calls_at (way_out g) + 1 ≤ calls_at g
unfolding way_out way_out_of_trace calls_at is_passed_over
out-calls (Open Control) e counts = omega arith
out-calls (Open Status) e counts = omega arith
out-calls (Open Lstatus) e counts = omega arith
out-calls (Open Map) e counts = omega arith
out-calls (Open AgentControl) e counts = omega arith
out-calls (Open AgentStatus) e counts = omega arith
out-calls ReadFirst e counts = omega arith
out-calls Stop e counts = omega arith
out-calls AwaitStop e counts = omega arith
out-calls ReadStatus e counts = omega arith
out-calls ReadMap e counts = omega arith
out-calls SaveCode e counts = omega arith
out-calls SaveStack e counts = omega arith
out-calls (Trace Signals) e counts = omega arith
out-calls (Trace Faults) e counts = omega arith
out-calls (Trace Entries) e counts = omega arith
out-calls (Trace Exits) e counts = omega arith
out-calls MakeAgent e counts = omega arith
out-calls PlantCode e counts = omega arith
out-calls (Asking d SetRegisters) e counts = omega arith
out-calls (Asking d RunAgent) e counts = omega arith
out-calls (Asking d Await) e counts = omega arith
out-calls (Asking d ReadAgent) e counts = omega arith
out-calls (Asking d ReadKind) e counts = omega arith
out-calls UntraceExits e counts = omega arith
out-calls SetExit e counts = omega arith
out-calls RunExit e counts = omega arith
out-calls AwaitExit e counts = omega arith
out-calls WriteCode e counts = omega arith
out-calls WriteStack e counts = omega arith
out-calls (Retrace Signals) e counts = omega arith
out-calls (Retrace Faults) e counts = omega arith
out-calls (Retrace Entries) e counts = omega arith
out-calls (Retrace Exits) e counts = omega arith
out-calls Run e counts = omega arith
out-calls (Restore Signals) e counts = absurd cc
out-calls (Restore Faults) e counts = absurd cc
out-calls (Restore Entries) e counts = absurd cc
out-calls (Restore Exits) e counts = absurd cc
out-calls Release e counts = absurd cc
out-calls Close e counts = absurd cc

refused-fewer : (s : ProbeState) (e : Errno) → is_passed_over s.stage e ≡ false → Fewer s.stage (refused s e)
unfolding refused
refused-fewer s e counts =
    omega (arith, next-calls (record s { refusal = Some e }) (way_out s.stage), out-calls s.stage e counts)

-- a wait for the agent ends, where it is not interrupted
interrupted : (e : Errno) → is_interrupt e ≡ true → e ≡ Intr
unfolding is_interrupt
interrupted Intr is = refl
interrupted _ is = absurd cc

poll-fewer : (s : ProbeState) (r : Reply) (g : ProbeStage) → s.stage ≡ g → is_close g ≡ false → IsNoInterrupt r
    → ((e : Errno) → r ≡ reply.Fail e → e ≡ Intr) → Fewer g (after_poll s r)
unfolding after_poll
poll-fewer s (reply.Fail e) g at goes calm only = absurd (calm (ap reply.Fail (only e refl)))
poll-fewer s (reply.Handle handle) g at goes calm only = advanced-fewer s g at goes
poll-fewer s reply.Done g at goes calm only = advanced-fewer s g at goes
poll-fewer s (reply.Used n) g at goes calm only = advanced-fewer s g at goes
poll-fewer s (reply.Half until) g at goes calm only = advanced-fewer s g at goes
poll-fewer s (reply.Bytes bytes) g at goes calm only = advanced-fewer s g at goes
poll-fewer s (reply.Pid pid) g at goes calm only = advanced-fewer s g at goes
poll-fewer s (reply.Ready handle) g at goes calm only = advanced-fewer s g at goes

passes : (g : ProbeStage) (e : Errno) → refusal_in g (reply.Fail e) ≡ None → is_passed_over g e ≡ true
unfolding refusal_in
passes g e none = of (is_passed_over g e) refl none
  where
    of : (b : Bool) → is_passed_over g e ≡ b → cond b None (Some e) ≡ None → is_passed_over g e ≡ true
    of true is passed = is
    of false is passed = absurd cc

-- what fails and does not refuse a wait is an interrupt
only-interrupts : (g : ProbeStage) (r : Reply) → ((e : Errno) → is_passed_over g e ≡ is_interrupt e)
    → refusal_in g r ≡ None
    → (e : Errno) → r ≡ reply.Fail e → e ≡ Intr
only-interrupts g r waits none e is =
    let passed : refusal_in g (reply.Fail e) ≡ None = ap (refusal_in g) (sym is) ∙ none in
    interrupted e (sym (waits e) ∙ passes g e passed)

map-fewer : (s : ProbeState) (e : Errno) → s.stage ≡ ReadMap → Fewer ReadMap (refused s e)
unfolding is_passed_over
map-fewer s e at =
    subst (λ (g : ProbeStage). Fewer g (refused s e)) at
    (refused-fewer s e (ap (λ (g : ProbeStage). is_passed_over g e) at))

found-fewer : (s : ProbeState) (d : ℕ) → Fewer (Asking d ReadAgent) (at_stage s (Asking d ReadKind))
unfolding calls_at
found-fewer s d = omega arith

shut-fewer : (s : ProbeState) (d : ℕ) → Fewer (Asking d ReadAgent) (asked s d)
unfolding calls_at
shut-fewer s d = omega (arith, asked-calls d)

kind-fewer : (s : ProbeState) (d : ℕ) → Fewer (Asking d ReadKind) (asked s d)
unfolding calls_at
kind-fewer s d = asked-calls d

wait-interrupts : (d : ℕ) (e : Errno) → is_passed_over (Asking d Await) e ≡ is_interrupt e
unfolding is_passed_over is_asking_passed_over
wait-interrupts d e = refl

exit-interrupts : (e : Errno) → is_passed_over AwaitExit e ≡ is_interrupt e
unfolding is_passed_over
exit-interrupts e = refl

accepted-fewer : (s : ProbeState) (g : ProbeStage) (r : Reply) → is_close g ≡ false → IsNoInterrupt r
    → refusal_in g r ≡ None
    → Fewer g (accepted (at_stage s g) r g)
unfolding accepted asking_accepted with_status is_close
accepted-fewer s (Open f) r goes calm none = advanced-fewer (with_opened (at_stage s (Open f)) f r) (Open f) refl refl
accepted-fewer s ReadFirst r goes calm none =
    advanced-fewer (record (at_stage s ReadFirst) { stood = process_stands (bytes_read r) }) ReadFirst refl refl
accepted-fewer s Stop r goes calm none = advanced-fewer (record (at_stage s Stop) { until = until_in r }) Stop refl refl
accepted-fewer s AwaitStop r goes calm none = advanced-fewer (at_stage s AwaitStop) AwaitStop refl refl
accepted-fewer s ReadStatus r goes calm none =
    advanced-fewer (with_status (at_stage s ReadStatus) (bytes_read r)) ReadStatus refl refl
accepted-fewer s ReadMap r goes calm none =
    map-by (Fewer ReadMap) (at_stage s ReadMap) (bytes_read r) (λ e. map-fewer (at_stage s ReadMap) e refl)
    (advanced-fewer (at_stage s ReadMap) ReadMap refl refl)
accepted-fewer s SaveCode r goes calm none =
    advanced-fewer (record (at_stage s SaveCode) { code = take code_size (bytes_read r) }) SaveCode refl refl
accepted-fewer s SaveStack r goes calm none =
    advanced-fewer (record (at_stage s SaveStack) { stack = take stack_size (bytes_read r) }) SaveStack refl refl
accepted-fewer s (Trace k) r goes calm none = advanced-fewer (at_stage s (Trace k)) (Trace k) refl refl
accepted-fewer s MakeAgent r goes calm none = advanced-fewer (at_stage s MakeAgent) MakeAgent refl refl
accepted-fewer s PlantCode r goes calm none = advanced-fewer (at_stage s PlantCode) PlantCode refl refl
accepted-fewer s (Asking d SetRegisters) r goes calm none =
    advanced-fewer (at_stage s (Asking d SetRegisters)) (Asking d SetRegisters) refl refl
accepted-fewer s (Asking d RunAgent) r goes calm none =
    advanced-fewer (at_stage s (Asking d RunAgent)) (Asking d RunAgent) refl refl
accepted-fewer s (Asking d Await) r goes calm none =
    poll-fewer (at_stage s (Asking d Await)) r (Asking d Await) refl refl calm
    (only-interrupts (Asking d Await) r (λ e. wait-interrupts d e) none)
accepted-fewer s (Asking d ReadAgent) r goes calm none =
    answer-by (Fewer (Asking d ReadAgent)) (at_stage s (Asking d ReadAgent)) d (bytes_read r)
    (found-fewer (at_stage s (Asking d ReadAgent)) d) (shut-fewer (at_stage s (Asking d ReadAgent)) d)
accepted-fewer s (Asking d ReadKind) r goes calm none =
    kind-fewer (with_kind (at_stage s (Asking d ReadKind)) d (kind_in (bytes_read r))) d
accepted-fewer s UntraceExits r goes calm none = advanced-fewer (at_stage s UntraceExits) UntraceExits refl refl
accepted-fewer s SetExit r goes calm none = advanced-fewer (at_stage s SetExit) SetExit refl refl
accepted-fewer s RunExit r goes calm none = advanced-fewer (at_stage s RunExit) RunExit refl refl
accepted-fewer s AwaitExit r goes calm none =
    poll-fewer (at_stage s AwaitExit) r AwaitExit refl refl calm (only-interrupts AwaitExit r exit-interrupts none)
accepted-fewer s WriteCode r goes calm none = advanced-fewer (at_stage s WriteCode) WriteCode refl refl
accepted-fewer s WriteStack r goes calm none = advanced-fewer (at_stage s WriteStack) WriteStack refl refl
accepted-fewer s (Retrace k) r goes calm none = advanced-fewer (at_stage s (Retrace k)) (Retrace k) refl refl
accepted-fewer s Run r goes calm none = advanced-fewer (at_stage s Run) Run refl refl
accepted-fewer s (Restore k) r goes calm none = advanced-fewer (at_stage s (Restore k)) (Restore k) refl refl
accepted-fewer s Release r goes calm none = advanced-fewer (at_stage s Release) Release refl refl
accepted-fewer s Close r goes calm none = absurd cc

fed-fewer : (s : ProbeState) (r : Reply) → is_close s.stage ≡ false → IsNoInterrupt r → Fewer s.stage (fed s r)
fed-fewer s r goes calm =
    fed-by (Fewer s.stage) s r (λ e is. refused-fewer s e (refusal-counts s.stage r e is).counts)
    (λ is. accepted-fewer s s.stage r goes calm is)

-- ---- a close

-- What is left after a close: nothing, where nothing was open, and else a place less.
closed-fewer : (s : ProbeState) (r : Reply) → (n : ℕ) → places_to_last s.opened.handles ≡ n
    → calls_left (fed (at_stage s Close) r) ≤ n - 1
unfolding fed accepted calls_left calls_at closes_at without_last with_handle
closed-fewer s r zero none =
    let hs = s.opened.handles in
    let place : places_to_last hs - 1 ≡ 0 = omega (arith, none) in
    rw (close-passes r, place) (omega (arith, unset-bare hs none))
closed-fewer s r (suc n) some =
    let hs = s.opened.handles in
    let place : places_to_last hs - 1 ≡ n = omega (arith, some) in
    rw (close-passes r, place) (omega (arith, (has-last hs n some).fewer))

close-left : (s : ProbeState) → s.stage ≡ Close → calls_left s ≡ places_to_last s.opened.handles
unfolding calls_left calls_at closes_at
close-left s at =
    let sum : calls_at s.stage + closes_at s.stage s.opened ≡ 0 + places_to_last s.opened.handles =
    ap (λ (g : ProbeStage). calls_at g + closes_at g s.opened) at in
    omega (arith, sum)

-- ---- any step

goes-fewer : (s : ProbeState) (r : Reply) → IsPlaced s.opened s.stage → IsNoInterrupt r → is_close s.stage ≡ false
    → calls_left (fed s r) ≤ calls_left s - 1
unfolding calls_left
goes-fewer s r placed calm goes =
    let fewer : calls_at (fed s r).stage + 1 ≤ calls_at s.stage = fed-fewer s r goes calm in
    let after = (fed-holds s r (not-close s.stage goes) placed).placed in
    omega (arith, fewer, closes-few (fed s r).opened (fed s r).stage after, closes-six s.opened s.stage goes)

left-fewer : (s : ProbeState) (r : Reply) → IsPlaced s.opened s.stage → IsNoInterrupt r
    → calls_left (fed s r) ≤ calls_left s - 1
left-fewer s r placed calm = of (is_close s.stage) refl
  where
    of : (b : Bool) → is_close s.stage ≡ b → calls_left (fed s r) ≤ calls_left s - 1
    of true closes =
        let at = close-is s.stage closes in
        let is : at_stage s Close ≡ s = ap (λ (g : ProbeStage). at_stage s g) (sym at) in
        let less : calls_left (fed (at_stage s Close) r) ≤ places_to_last s.opened.handles - 1 =
        closed-fewer s r (places_to_last s.opened.handles) refl in
        let here : calls_left (fed s r) ≤ places_to_last s.opened.handles - 1 =
        subst (λ (v : ProbeState). calls_left (fed v r) ≤ places_to_last s.opened.handles - 1) is less in
        omega (arith, here, close-left s at)
    of false goes = goes-fewer s r placed calm goes

-- ---- a run

close-placed : (s : ProbeState) (r : Reply) → s.stage ≡ Close → IsPlaced s.opened s.stage
    → IsPlaced (fed s r).opened (fed s r).stage
close-placed s r at placed =
    let is : at_stage s Close ≡ s = ap (λ (g : ProbeStage). at_stage s g) (sym at) in
    let here : IsPlaced s.opened Close = subst (λ (g : ProbeStage). IsPlaced s.opened g) at placed in
    let shuts = close-shuts s r here in
    let later : IsPlaced (fed (at_stage s Close) r).opened (fed (at_stage s Close) r).stage =
    subst (λ (g : ProbeStage). IsPlaced (fed (at_stage s Close) r).opened g) (sym shuts.stage) shuts.placed in
    subst (λ (v : ProbeState). IsPlaced (fed v r).opened (fed v r).stage) is later

fed-placed : (s : ProbeState) (r : Reply) → IsPlaced s.opened s.stage → IsPlaced (fed s r).opened (fed s r).stage
fed-placed s r placed = of (is_close s.stage) refl
  where
    of : (b : Bool) → is_close s.stage ≡ b → IsPlaced (fed s r).opened (fed s r).stage
    of true closes = close-placed s r (close-is s.stage closes) placed
    of false goes = (fed-holds s r (not-close s.stage goes) placed).placed

six-left : (s : ProbeState) → is_close s.stage ≡ false → calls_left s ≤ 0 → ⊥
unfolding calls_left
six-left s goes none = absurd (omega (arith, none, closes-six s.opened s.stage goes))

none-open : (s : ProbeState) → places_to_last s.opened.handles ≡ 0 → has_ended (at_stage s Close) ≡ true
unfolding has_ended next_call_of call_of last_open handle_at
none-open s none =
    let place : places_to_last s.opened.handles - 1 ≡ 0 = omega (arith, none) in
    rw (place, first-none s.opened.handles none) refl

none-by : (s : ProbeState) (g : ProbeStage) → s.stage ≡ g → calls_left s ≤ 0 → has_ended s ≡ true
none-by s g at none = of (is_close s.stage) refl
  where
    of : (b : Bool) → is_close s.stage ≡ b → has_ended s ≡ true
    of true closes =
        let shut = close-is s.stage closes in
        let is : at_stage s Close ≡ s = ap (λ (h : ProbeStage). at_stage s h) (sym shut) in
        ap has_ended (sym is) ∙ none-open s (omega (arith, none, close-left s shut))
    of false goes = absurd (six-left s goes none)

-- where nothing is left, it has finished
none-left : (s : ProbeState) → calls_left s ≤ 0 → has_ended s ≡ true
none-left s none = none-by s s.stage refl none

ends-by : (s : ProbeState) (rs : List Reply) → IsPlaced s.opened s.stage → All IsNoInterrupt rs
    → calls_left s ≤ length rs
    → has_ended (fed_all s rs) ≡ true
unfolding fed_all
ends-by s [] placed calm few = none-left s few
ends-by s (r ∷ rs) placed calm few =
    let here : IsNoInterrupt r = All-head IsNoInterrupt r rs calm in
    let less = left-fewer s r placed here in
    ends-by (fed s r) rs (fed-placed s r placed) ((All-tail IsNoInterrupt r rs calm)) (omega (arith, less, few))

first-left : (pid : ℕ) → calls_left (first_probe pid) ≡ most_calls
unfolding calls_left calls_at closes_at first_probe
first-left pid = refl

pub probe-ends : (pid : ℕ) (rs : List Reply) → All IsNoInterrupt rs → most_calls ≤ length rs
    → has_ended (fed_all (first_probe pid) rs) ≡ true
probe-ends pid rs calm few =
    ends-by (first_probe pid) rs (first-placed pid) calm (omega (arith, first-left pid, few))
