-- Each file that apfiles opens is closed, the last first.
use Rattle.std.proofs.Common.{◌≡◌, ◌++◌, ◌∷◌, ◌+◌, ◌-◌, ◌<◌, ◌≤◌, ℕ, zero, suc, Bool, true, false, Option, Some, None, List, [], cond, get_or, is_none, length, nat_lt, option_map, reverse, take, ap, append_assoc, append-nil, arith, refl, sym, subst, ◌∙◌}
use Rattle.std.specs.List.{slice_set}
use Rattle.std.proofs.lemmas.List.{length-set, reverse-append}
use Rattle.pr_num.specs.Limits.{descriptor_limit}
use Rattle.pr_model.specs.declared.calls.Reply.{Reply}
use Rattle.pr_model.specs.declared.calls.Reply.TheVariants as reply
use Rattle.pr_num.specs.declared.errnos.Errno.{Errno}
use Rattle.pr_model.specs.Replies.{opened_in, until_in}
use Rattle.pr_tools.specs.Stacks.{process_stands}
use Rattle.pr_probe.specs.AgentCode.{code_size, stack_size}
use Rattle.pr_model.specs.declared.calls.File.{File}
use Rattle.pr_model.specs.declared.calls.Mode.{Mode}
use Rattle.pr_model.specs.declared.calls.Call.{Call}
use Rattle.pr_model.specs.declared.calls.Call.TheVariants as call
use Rattle.pr_tools.specs.Handles.{handle_at, last_open, nothing_open, places_to_last, with_handle, without_last}
use Rattle.pr_tools.specs.Replies.{bytes_read}
use Rattle.pr_tools.specs.declared.handles.Opened.{Opened}
use Rattle.pr_probe.specs.DescriptorLines.{kind_in}
use Rattle.pr_probe.specs.ProbeRuns.{closed_by, fed_all, gathered, given_by, handles_closed, handles_given}
use Rattle.pr_probe.specs.ProbeStages.{asking_after, file_of, is_passed_over, lwp_of, mode_of, place_of, stage_after, stage_asked, stage_opened, way_out, way_out_of_trace}
use Rattle.pr_probe.specs.Probes.{ProbeState, accepted, advanced, asked, asking_accepted, asking_call, at_stage, call_of, fed, first_probe, has_ended, next_call_of, refusal_in, refused, with_kind, with_opened, with_status}
use Rattle.pr_probe.specs.TracedSets.{kind_after}
use Rattle.pr_probe.specs.declared.probe_stages.ProbeFile.{ProbeFile}
use Rattle.pr_probe.specs.declared.traced_sets.SetKind.{SetKind}
use Rattle.pr_probe.specs.declared.probe_stages.AskingStep.TheVariants.{SetRegisters, Run as RunAgent, Await, ReadAgent, ReadKind}
use Rattle.pr_probe.specs.declared.probe_stages.ProbeFile.TheVariants.{Control, Status, Lstatus, Map, AgentControl, AgentStatus}
use Rattle.pr_probe.specs.declared.probe_stages.ProbeStage.{ProbeStage}
use Rattle.pr_probe.specs.declared.probe_stages.ProbeStage.TheVariants.{Open, ReadFirst, Stop, AwaitStop, ReadStatus, ReadMap, SaveCode, SaveStack, Trace, MakeAgent, PlantCode, Asking, UntraceExits, SetExit, RunExit, AwaitExit, WriteCode, WriteStack, Retrace, Run, Restore, Release, Close}
use Rattle.pr_probe.specs.declared.traced_sets.SetKind.TheVariants.{Signals, Faults, Entries, Exits}
use Rattle.pr_probe.proofs.FedLemmas.{Refuses, advanced-kept, advanced-same, answer-by, ended-closes, fed-by, kind-kept, map-by, next-kept, next-same, poll-by, refusal-counts}
use Rattle.pr_probe.proofs.PlaceLemmas.{first-none, has-last, held, held-none, held-set, held-unset, places-set}

-- before how many places the files stand that are open at a stage
unfoldable pub place_at : ProbeStage → ℕ
place_at (Open Control) = 0
place_at (Open Status) = 1
place_at (Open Lstatus) = 2
place_at (Open Map) = 3
place_at (Open AgentControl) = 4
place_at (Open AgentStatus) = 5
place_at ReadFirst = 4
place_at Stop = 4
place_at AwaitStop = 4
place_at ReadStatus = 4
place_at ReadMap = 4
place_at SaveCode = 4
place_at SaveStack = 4
place_at (Trace k) = 4
place_at MakeAgent = 4
place_at PlantCode = 6
place_at (Asking d step) = 6
place_at UntraceExits = 6
place_at SetExit = 6
place_at RunExit = 6
place_at AwaitExit = 6
place_at WriteCode = 6
place_at WriteStack = 6
place_at (Retrace k) = 6
place_at Run = 6
place_at (Restore k) = 6
place_at Release = 6
place_at Close = 6

run-place : place_at Close ≡ place_at Run
unfolding place_at
run-place = refl

release-place : place_at Close ≡ place_at Release
unfolding place_at
release-place = refl

asked-place : (d : ℕ) → place_at (stage_asked d) ≡ 6
unfolding stage_asked place_at
asked-place d = of (nat_lt d (descriptor_limit - 1))
  where
    of : (b : Bool) → place_at (cond b (Asking (d + 1) SetRegisters) UntraceExits) ≡ 6
    of true = refl
    of false = refl

pub all-places : (g : ProbeStage) → place_at g ≤ 6
unfolding place_at
all-places (Open Control) = omega arith
all-places (Open Status) = omega arith
all-places (Open Lstatus) = omega arith
all-places (Open Map) = omega arith
all-places (Open AgentControl) = omega arith
all-places (Open AgentStatus) = omega arith
all-places ReadFirst = omega arith
all-places Stop = omega arith
all-places AwaitStop = omega arith
all-places ReadStatus = omega arith
all-places ReadMap = omega arith
all-places SaveCode = omega arith
all-places SaveStack = omega arith
all-places (Trace k) = omega arith
all-places MakeAgent = omega arith
all-places PlantCode = omega arith
all-places (Asking d step) = omega arith
all-places UntraceExits = omega arith
all-places SetExit = omega arith
all-places RunExit = omega arith
all-places AwaitExit = omega arith
all-places WriteCode = omega arith
all-places WriteStack = omega arith
all-places (Retrace k) = omega arith
all-places Run = omega arith
all-places (Restore k) = omega arith
all-places Release = omega arith
all-places Close = omega arith

-- the files that are open stand at the places before a stage
pub record IsPlaced (o : Opened) (g : ProbeStage) : Type 0 where
  pub few : places_to_last o.handles ≤ place_at g
  pub room : length o.handles ≡ 8

placed-on : (o : Opened) (g h : ProbeStage) → place_at g ≤ place_at h → IsPlaced o g → IsPlaced o h
placed-on o g h more placed = record { few = omega (arith, placed.few, more); room = placed.room }

-- What a step does that closes nothing: the files that are open stand at their places, and a handle that was given is
-- the last.
pub record Holds (s : ProbeState) (g : ProbeStage) (r : Reply) (t : ProbeState) : Type 0 where
  pub placed : IsPlaced t.opened t.stage
  pub given : held t.opened.handles ≡ held s.opened.handles ++ given_by (call_of s g) r
  pub closed : closed_by (call_of s g) ≡ []

-- a step that opens nothing
stays : (s t : ProbeState) (g : ProbeStage) (r : Reply) → t.opened ≡ s.opened → place_at g ≤ place_at t.stage
    → given_by (call_of s g) r ≡ [] → closed_by (call_of s g) ≡ [] → IsPlaced s.opened g → Holds s g r t
stays s t g r same more nothing closes placed = record {
  placed = subst (λ (o : Opened). IsPlaced o t.stage) (sym same) (placed-on s.opened g t.stage more placed);
  given = ap (λ (o : Opened). held o.handles) same
      ∙ sym (ap (λ (xs : List ℕ). held s.opened.handles ++ xs) nothing ∙ append-nil (held s.opened.handles));
  closed = closes;
}

-- and goes to the next stage
goes : (s u : ProbeState) (g : ProbeStage) (r : Reply) → u.stage ≡ g → u.opened ≡ s.opened
    → place_at g ≤ place_at (stage_after g) → given_by (call_of s g) r ≡ [] → closed_by (call_of s g) ≡ []
    → IsPlaced s.opened g → Holds s g r (advanced u)
goes s u g r at same more nothing closes placed =
    let next : place_at (advanced u).stage ≡ place_at (stage_after g) =
    advanced-same place_at run-place release-place u ∙ ap (λ (h : ProbeStage). place_at (stage_after h)) at in
    stays s (advanced u) g r (advanced-kept (λ t. t.opened) (λ t h. refl) u ∙ same)
    (omega (arith, next, more)) nothing closes placed

out-place : (g : ProbeStage) → place_at (way_out g) ≡ 6
unfolding way_out way_out_of_trace place_at
out-place (Open f) = refl
out-place ReadFirst = refl
out-place Stop = refl
out-place AwaitStop = refl
out-place ReadStatus = refl
out-place ReadMap = refl
out-place SaveCode = refl
out-place SaveStack = refl
out-place (Trace Signals) = refl
out-place (Trace Faults) = refl
out-place (Trace Entries) = refl
out-place (Trace Exits) = refl
out-place MakeAgent = refl
out-place PlantCode = refl
out-place (Asking d step) = refl
out-place UntraceExits = refl
out-place SetExit = refl
out-place RunExit = refl
out-place AwaitExit = refl
out-place WriteCode = refl
out-place WriteStack = refl
out-place (Retrace Signals) = refl
out-place (Retrace Faults) = refl
out-place (Retrace Entries) = refl
out-place (Retrace Exits) = refl
out-place Run = refl
out-place (Restore Signals) = refl
out-place (Restore Faults) = refl
out-place (Restore Entries) = refl
out-place (Restore Exits) = refl
out-place Release = refl
out-place Close = refl

refused-opened : (s : ProbeState) (e : Errno) → (refused s e).opened ≡ s.opened
unfolding refused
refused-opened s e = next-kept (λ t. t.opened) (λ t h. refl) (record s { refusal = Some e }) (way_out s.stage)

-- a refusal opens nothing
refused-place : (s : ProbeState) (e : Errno) → place_at (refused s e).stage ≡ 6
unfolding refused
refused-place s e =
    next-same place_at run-place release-place (record s { refusal = Some e }) (way_out s.stage) ∙ out-place s.stage

refused-stays : (s : ProbeState) (g : ProbeStage) (r : Reply) (e : Errno) → given_by (call_of s g) r ≡ []
    → closed_by (call_of s g) ≡ [] → IsPlaced s.opened g → Holds s g r (refused s e)
refused-stays s g r e nothing closes placed =
    stays s (refused s e) g r (refused-opened s e)
    (omega (arith, refused-place s e, all-places g)) nothing closes placed

-- ---- an open

-- what an open gave stands at its place
open-held : (hs : List (Option ℕ)) (p : ℕ) (r : Reply) (pid lwp : ℕ) (file : File) (mode : Mode) → places_to_last hs ≤ p
    → p < length hs
    → held (slice_set hs p (opened_in r)) ≡ held hs ++ given_by (Some (call.Open pid lwp file mode)) r
unfolding opened_in given_by
open-held hs p (reply.Handle handle) pid lwp file mode few within = held-set hs p handle few within
open-held hs p reply.Done pid lwp file mode few within = held-unset hs p few ∙ sym (append-nil (held hs))
open-held hs p (reply.Used n) pid lwp file mode few within = held-unset hs p few ∙ sym (append-nil (held hs))
open-held hs p (reply.Half until) pid lwp file mode few within = held-unset hs p few ∙ sym (append-nil (held hs))
open-held hs p (reply.Bytes bytes) pid lwp file mode few within = held-unset hs p few ∙ sym (append-nil (held hs))
open-held hs p (reply.Pid child) pid lwp file mode few within = held-unset hs p few ∙ sym (append-nil (held hs))
open-held hs p (reply.Ready handle) pid lwp file mode few within = held-unset hs p few ∙ sym (append-nil (held hs))
open-held hs p (reply.Fail errno) pid lwp file mode few within = held-unset hs p few ∙ sym (append-nil (held hs))

opens : (s : ProbeState) (f : ProbeFile) (r : Reply) → place_at (Open f) ≡ place_of f
    → place_of f + 1 ≤ place_at (stage_after (Open f)) → place_of f < 8
    → closed_by (call_of (at_stage s (Open f)) (Open f)) ≡ [] → IsPlaced s.opened (Open f)
    → Holds (at_stage s (Open f)) (Open f) r (advanced (with_opened (at_stage s (Open f)) f r))
unfolding call_of with_handle
opens s f r at more within closes placed =
    let hs = s.opened.handles in
    let u = with_opened (at_stage s (Open f)) f r in
    let same : (advanced u).opened ≡ u.opened = advanced-kept (λ t. t.opened) (λ t h. refl) u in
    let next : place_at (advanced u).stage ≡ place_at (stage_after (Open f)) =
    advanced-same place_at run-place release-place u in
    let few : places_to_last hs ≤ place_of f = omega (arith, placed.few, at) in
    let inside : place_of f < length hs = omega (arith, placed.room, within) in
    let set : places_to_last (slice_set hs (place_of f) (opened_in r)) ≤ suc (place_of f) =
    places-set hs (place_of f) (opened_in r) few in
    record {
      placed = subst (λ (o : Opened). IsPlaced o (advanced u).stage) (sym same) (record {
        few = omega (arith, set, next, more);
        room = length-set hs (place_of f) (opened_in r) ∙ placed.room;
      });
      given = ap (λ (o : Opened). held o.handles) same
          ∙ open-held hs (place_of f) r s.pid (lwp_of f) (file_of f) (mode_of f) few inside;
      closed = closes;
    }

-- ---- a step

trace-place : (k : SetKind) → place_at (Trace k) ≤ place_at (stage_after (Trace k))
unfolding place_at stage_after kind_after
trace-place Signals = omega arith
trace-place Faults = omega arith
trace-place Entries = omega arith
trace-place Exits = omega arith

retrace-place : (k : SetKind) → place_at (Retrace k) ≤ place_at (stage_after (Retrace k))
unfolding place_at stage_after kind_after
retrace-place Signals = omega arith
retrace-place Faults = omega arith
retrace-place Entries = omega arith
retrace-place Exits = omega arith

restore-place : (k : SetKind) → place_at (Restore k) ≤ place_at (stage_after (Restore k))
unfolding place_at stage_after kind_after
restore-place Signals = omega arith
restore-place Faults = omega arith
restore-place Entries = omega arith
restore-place Exits = omega arith

accepted-holds : (s : ProbeState) (g : ProbeStage) (r : Reply) → (g ≡ Close → ⊥) → IsPlaced s.opened g
    → Holds (at_stage s g) g r (accepted (at_stage s g) r g)
unfolding accepted asking_accepted with_status place_at place_of stage_after stage_opened asking_after kind_after
    call_of
    asking_call given_by closed_by
accepted-holds s (Open Control) r going placed = opens s Control r refl (omega arith) (omega arith) refl placed
accepted-holds s (Open Status) r going placed = opens s Status r refl (omega arith) (omega arith) refl placed
accepted-holds s (Open Lstatus) r going placed = opens s Lstatus r refl (omega arith) (omega arith) refl placed
accepted-holds s (Open Map) r going placed = opens s Map r refl (omega arith) (omega arith) refl placed
accepted-holds s (Open AgentControl) r going placed =
    opens s AgentControl r refl (omega arith) (omega arith) refl placed
accepted-holds s (Open AgentStatus) r going placed = opens s AgentStatus r refl (omega arith) (omega arith) refl placed
accepted-holds s ReadFirst r going placed =
    goes (at_stage s ReadFirst)
    (record (at_stage s ReadFirst) { stood = process_stands (bytes_read r) }) ReadFirst r refl refl
    (omega arith) refl refl placed
accepted-holds s Stop r going placed =
    goes (at_stage s Stop) (record (at_stage s Stop) { until = until_in r }) Stop r refl refl
    (omega arith) refl refl placed
accepted-holds s AwaitStop r going placed =
    goes (at_stage s AwaitStop) (at_stage s AwaitStop) AwaitStop r refl refl (omega arith) refl refl placed
accepted-holds s ReadStatus r going placed =
    goes (at_stage s ReadStatus) (with_status (at_stage s ReadStatus) (bytes_read r)) ReadStatus r refl refl
    (omega arith) refl refl placed
accepted-holds s ReadMap r going placed =
    map-by (Holds (at_stage s ReadMap) ReadMap r) (at_stage s ReadMap) (bytes_read r)
    (λ e. refused-stays (at_stage s ReadMap) ReadMap r e refl refl placed)
    (goes (at_stage s ReadMap) (at_stage s ReadMap) ReadMap r refl refl (omega arith) refl refl placed)
accepted-holds s SaveCode r going placed =
    goes (at_stage s SaveCode)
    (record (at_stage s SaveCode) { code = take code_size (bytes_read r) }) SaveCode r refl refl
    (omega arith) refl refl placed
accepted-holds s SaveStack r going placed =
    goes (at_stage s SaveStack)
    (record (at_stage s SaveStack) { stack = take stack_size (bytes_read r) }) SaveStack r refl refl
    (omega arith) refl refl placed
accepted-holds s (Trace k) r going placed =
    goes (at_stage s (Trace k)) (at_stage s (Trace k)) (Trace k) r refl refl (trace-place k) refl refl placed
accepted-holds s MakeAgent r going placed =
    goes (at_stage s MakeAgent) (at_stage s MakeAgent) MakeAgent r refl refl (omega arith) refl refl placed
accepted-holds s PlantCode r going placed =
    goes (at_stage s PlantCode) (at_stage s PlantCode) PlantCode r refl refl (omega arith) refl refl placed
accepted-holds s (Asking d SetRegisters) r going placed =
    goes (at_stage s (Asking d SetRegisters)) (at_stage s (Asking d SetRegisters)) (Asking d SetRegisters) r refl refl
    (omega arith) refl refl placed
accepted-holds s (Asking d RunAgent) r going placed =
    goes (at_stage s (Asking d RunAgent)) (at_stage s (Asking d RunAgent)) (Asking d RunAgent) r refl refl
    (omega arith) refl refl placed
accepted-holds s (Asking d Await) r going placed =
    poll-by (Holds (at_stage s (Asking d Await)) (Asking d Await) r) (at_stage s (Asking d Await)) r
    (stays (at_stage s (Asking d Await)) (at_stage s (Asking d Await)) (Asking d Await) r refl
    (omega arith) refl refl placed)
    (goes (at_stage s (Asking d Await)) (at_stage s (Asking d Await)) (Asking d Await) r refl refl
    (omega arith) refl refl placed)
accepted-holds s (Asking d ReadAgent) r going placed =
    answer-by (Holds (at_stage s (Asking d ReadAgent)) (Asking d ReadAgent) r) (at_stage s (Asking d ReadAgent)) d
    (bytes_read r)
    (stays (at_stage s (Asking d ReadAgent)) (at_stage (at_stage s (Asking d ReadAgent)) (Asking d ReadKind))
    (Asking d ReadAgent) r refl (omega arith) refl refl placed)
    (stays (at_stage s (Asking d ReadAgent)) (asked (at_stage s (Asking d ReadAgent)) d) (Asking d ReadAgent) r refl
    (omega (arith, asked-place d)) refl refl placed)
accepted-holds s (Asking d ReadKind) r going placed =
    stays (at_stage s (Asking d ReadKind))
    (asked (with_kind (at_stage s (Asking d ReadKind)) d (kind_in (bytes_read r))) d) (Asking d ReadKind) r
    (kind-kept (λ t. t.opened) (λ t lines. refl) (at_stage s (Asking d ReadKind)) d (kind_in (bytes_read r)))
    (omega (arith, asked-place d)) refl refl placed
accepted-holds s UntraceExits r going placed =
    goes (at_stage s UntraceExits) (at_stage s UntraceExits) UntraceExits r refl refl (omega arith) refl refl placed
accepted-holds s SetExit r going placed =
    goes (at_stage s SetExit) (at_stage s SetExit) SetExit r refl refl (omega arith) refl refl placed
accepted-holds s RunExit r going placed =
    goes (at_stage s RunExit) (at_stage s RunExit) RunExit r refl refl (omega arith) refl refl placed
accepted-holds s AwaitExit r going placed =
    poll-by (Holds (at_stage s AwaitExit) AwaitExit r) (at_stage s AwaitExit) r
    (stays (at_stage s AwaitExit) (at_stage s AwaitExit) AwaitExit r refl (omega arith) refl refl placed)
    (goes (at_stage s AwaitExit) (at_stage s AwaitExit) AwaitExit r refl refl (omega arith) refl refl placed)
accepted-holds s WriteCode r going placed =
    goes (at_stage s WriteCode) (at_stage s WriteCode) WriteCode r refl refl (omega arith) refl refl placed
accepted-holds s WriteStack r going placed =
    goes (at_stage s WriteStack) (at_stage s WriteStack) WriteStack r refl refl (omega arith) refl refl placed
accepted-holds s (Retrace k) r going placed =
    goes (at_stage s (Retrace k)) (at_stage s (Retrace k)) (Retrace k) r refl refl (retrace-place k) refl refl placed
accepted-holds s Run r going placed =
    goes (at_stage s Run) (at_stage s Run) Run r refl refl (omega arith) refl refl placed
accepted-holds s (Restore k) r going placed =
    goes (at_stage s (Restore k)) (at_stage s (Restore k)) (Restore k) r refl refl (restore-place k) refl refl placed
accepted-holds s Release r going placed =
    goes (at_stage s Release) (at_stage s Release) Release r refl refl (omega arith) refl refl placed
accepted-holds s Close r going placed = absurd (going refl)

-- what fails gives no handle
fails-nothing : (c : Option Call) (e : Errno) → given_by c (reply.Fail e) ≡ []
unfolding given_by
fails-nothing None e = refl
fails-nothing (Some (call.Open pid lwp file mode)) e = refl
fails-nothing (Some _) e = refl

-- only the closing closes
closes-nothing : (s : ProbeState) (g : ProbeStage) → (g ≡ Close → ⊥) → closed_by (call_of s g) ≡ []
unfolding call_of asking_call closed_by
closes-nothing s (Open f) going = refl
closes-nothing s ReadFirst going = refl
closes-nothing s Stop going = refl
closes-nothing s AwaitStop going = refl
closes-nothing s ReadStatus going = refl
closes-nothing s ReadMap going = refl
closes-nothing s SaveCode going = refl
closes-nothing s SaveStack going = refl
closes-nothing s (Trace k) going = refl
closes-nothing s MakeAgent going = refl
closes-nothing s PlantCode going = refl
closes-nothing s (Asking d SetRegisters) going = refl
closes-nothing s (Asking d RunAgent) going = refl
closes-nothing s (Asking d Await) going = refl
closes-nothing s (Asking d ReadAgent) going = refl
closes-nothing s (Asking d ReadKind) going = refl
closes-nothing s UntraceExits going = refl
closes-nothing s SetExit going = refl
closes-nothing s RunExit going = refl
closes-nothing s AwaitExit going = refl
closes-nothing s WriteCode going = refl
closes-nothing s WriteStack going = refl
closes-nothing s (Retrace k) going = refl
closes-nothing s Run going = refl
closes-nothing s (Restore k) going = refl
closes-nothing s Release going = refl
closes-nothing s Close going = absurd (going refl)

pub fed-holds : (s : ProbeState) (r : Reply) → (s.stage ≡ Close → ⊥) → IsPlaced s.opened s.stage
    → Holds s s.stage r (fed s r)
fed-holds s r going placed =
    fed-by (Holds s s.stage r) s r (λ e is. refuses e is) (λ is. accepted-holds s s.stage r going placed)
  where
    refuses : (e : Errno) → refusal_in s.stage r ≡ Some e → Holds s s.stage r (refused s e)
    refuses e is =
        let why : Refuses s.stage r e = refusal-counts s.stage r e is in
        let nothing : given_by (call_of s s.stage) r ≡ [] =
        ap (given_by (call_of s s.stage)) why.reply ∙ fails-nothing (call_of s s.stage) e in
        refused-stays s s.stage r e nothing (closes-nothing s s.stage going) placed

-- ---- the closing

-- What a close does: it closes the last file that is open, where one is.
pub record Shuts (s t : ProbeState) : Type 0 where
  pub stage : t.stage ≡ Close
  pub placed : IsPlaced t.opened Close
  pub held_is : held s.opened.handles ≡ held t.opened.handles ++ closed_by (call_of s Close)

pub close-passes : (r : Reply) → refusal_in Close r ≡ None
unfolding refusal_in is_passed_over
close-passes (reply.Fail e) = refl
close-passes _ = refl

shuts-by : (s : ProbeState) (n : ℕ) → places_to_last s.opened.handles ≡ n → IsPlaced s.opened Close
    → Shuts s (record s { stage = Close; opened = without_last s.opened })
unfolding call_of closed_by last_open handle_at without_last with_handle place_at
shuts-by s zero none placed =
    let hs = s.opened.handles in
    let last : places_to_last hs - 1 ≡ 0 = omega (arith, none) in
    let bare : get_or hs 0 None ≡ None = first-none hs none in
    let shut : closed_by (option_map call.Close (get_or hs (places_to_last hs - 1) None)) ≡ [] = rw (last, bare) refl in
    let unset : held (slice_set hs (places_to_last hs - 1) None) ≡ held hs =
    held-unset hs (places_to_last hs - 1) (omega (arith, none)) in
    record {
      stage = refl;
      placed = record {
        few = omega (arith, none, places-set hs (places_to_last hs - 1) None (omega (arith, none)));
        room = length-set hs (places_to_last hs - 1) None ∙ placed.room;
      };
      held_is =
          sym (ap (λ (xs : List ℕ). held (slice_set hs (places_to_last hs - 1) None) ++ xs) shut ∙ append-nil _
          ∙ unset);
    }
shuts-by s (suc n) some placed =
    let hs = s.opened.handles in
    let last = has-last hs n some in
    let place : places_to_last hs - 1 ≡ n = omega (arith, some) in
    let shut : closed_by (option_map call.Close (get_or hs (places_to_last hs - 1) None)) ≡ last.handle ∷ [] =
    rw (place, last.there) refl in
    record {
      stage = refl;
      placed = record {
        few = rw place (omega (arith, some, last.fewer, placed.few));
        room = length-set hs (places_to_last hs - 1) None ∙ placed.room;
      };
      held_is = last.held_is
          ∙ ap (λ (k : ℕ). held (slice_set hs k None) ++ last.handle ∷ []) (sym place)
          ∙ ap (λ (xs : List ℕ). held (slice_set hs (places_to_last hs - 1) None) ++ xs) (sym shut);
    }

pub close-shuts : (s : ProbeState) (r : Reply) → IsPlaced s.opened Close
    → Shuts (at_stage s Close) (fed (at_stage s Close) r)
unfolding fed accepted
close-shuts s r placed = rw (close-passes r) (shuts-by (at_stage s Close) (places_to_last s.opened.handles) refl placed)

-- ---- a run

given-none : (o : Option ℕ) (r : Reply) → given_by (option_map call.Close o) r ≡ []
unfolding given_by
given-none None r = refl
given-none (Some handle) r = refl

gives-nothing : (s : ProbeState) (r : Reply) → given_by (call_of s Close) r ≡ []
unfolding call_of
gives-nothing s r = given-none (last_open s.opened) r

abbrev IsShort : List ℕ → Type 0
IsShort (y ∷ z ∷ ys) = ⊥
IsShort _ = Unit {0}

closed-one : (o : Option Call) → IsShort (closed_by o)
unfolding closed_by
closed-one None = tt
closed-one (Some (call.Close handle)) = tt
closed-one (Some _) = tt

-- what is closed first was open last
one-back : (xs : List ℕ) (o : Option Call) → closed_by o ++ reverse xs ≡ reverse (xs ++ closed_by o)
one-back xs o = of (closed_by o) (closed-one o)
  where
    of : (ys : List ℕ) → IsShort ys → ys ++ reverse xs ≡ reverse (xs ++ ys)
    of [] short = sym (ap reverse (append-nil xs))
    of (y ∷ []) short = sym (reverse-append xs (y ∷ []))
    of (y ∷ z ∷ ys) short = absurd short

-- once it closes, apfiles is given nothing, and closes all
record ClosesAll (s : ProbeState) (rs : List Reply) : Type 0 where
  given : handles_given s rs ≡ []
  closed : handles_closed s rs ≡ reverse (held s.opened.handles)

-- nothing is open where it has finished
ended-none : (s : ProbeState) → has_ended (at_stage s Close) ≡ true → held s.opened.handles ≡ []
unfolding has_ended next_call_of call_of last_open handle_at
ended-none s ended = of (places_to_last s.opened.handles) refl
  where
    of : (n : ℕ) → places_to_last s.opened.handles ≡ n → held s.opened.handles ≡ []
    of zero none = held-none s.opened.handles none
    of (suc n) some =
        let last = has-last s.opened.handles n some in
        let place : places_to_last s.opened.handles - 1 ≡ n = omega (arith, some) in
        let there : get_or s.opened.handles (places_to_last s.opened.handles - 1) None ≡ Some last.handle =
        rw place last.there in
        let shown : is_none (option_map call.Close (get_or s.opened.handles (places_to_last s.opened.handles - 1) None))
        ≡ false = rw there refl in
        let both : false ≡ true = sym shown ∙ ended in
        absurd cc

closes-all : (s : ProbeState) (rs : List Reply) → IsPlaced s.opened Close
    → has_ended (fed_all (at_stage s Close) rs) ≡ true
    → ClosesAll (at_stage s Close) rs
unfolding fed_all handles_given handles_closed gathered next_call_of call_of
closes-all s [] placed ended = record { given = refl; closed = sym (ap reverse (ended-none s ended)) }
closes-all s (r ∷ rs) placed ended =
    let u = at_stage s Close in
    let t = fed u r in
    let shuts : Shuts u t = close-shuts s r placed in
    let is : at_stage t Close ≡ t = ap (λ (g : ProbeStage). at_stage t g) (sym shuts.stage) in
    let later : ClosesAll (at_stage t Close) rs =
    closes-all t rs shuts.placed (ap (λ (v : ProbeState). has_ended (fed_all v rs)) is ∙ ended) in
    let rest : ClosesAll t rs = subst (λ (v : ProbeState). ClosesAll v rs) is later in
    record {
      given = ap (λ (xs : List ℕ). xs ++ handles_given t rs) (gives-nothing u r) ∙ rest.given;
      closed = ap (λ (xs : List ℕ). closed_by (call_of u Close) ++ xs) rest.closed
          ∙ one-back (held t.opened.handles) (option_map call.Close (last_open u.opened))
          ∙ ap reverse (sym shuts.held_is);
    }

-- whether a stage closes
unfoldable pub is_close : ProbeStage → Bool
is_close Close = true
is_close _ = false

pub close-is : (g : ProbeStage) → is_close g ≡ true → g ≡ Close
unfolding is_close
close-is (Open f) closes = absurd cc
close-is ReadFirst closes = absurd cc
close-is Stop closes = absurd cc
close-is AwaitStop closes = absurd cc
close-is ReadStatus closes = absurd cc
close-is ReadMap closes = absurd cc
close-is SaveCode closes = absurd cc
close-is SaveStack closes = absurd cc
close-is (Trace k) closes = absurd cc
close-is MakeAgent closes = absurd cc
close-is PlantCode closes = absurd cc
close-is (Asking d step) closes = absurd cc
close-is UntraceExits closes = absurd cc
close-is SetExit closes = absurd cc
close-is RunExit closes = absurd cc
close-is AwaitExit closes = absurd cc
close-is WriteCode closes = absurd cc
close-is WriteStack closes = absurd cc
close-is (Retrace k) closes = absurd cc
close-is Run closes = absurd cc
close-is (Restore k) closes = absurd cc
close-is Release closes = absurd cc
close-is Close closes = refl

pub not-close : (g : ProbeStage) → is_close g ≡ false → g ≡ Close → ⊥
unfolding is_close
not-close g goes-on is = let both : true ≡ false = sym (ap is_close is) ∙ goes-on in absurd cc

closing-closed : (s : ProbeState) (r : Reply) (rs : List Reply) → s.stage ≡ Close → IsPlaced s.opened s.stage
    → has_ended (fed_all (fed s r) rs) ≡ true
    → closed_by (call_of s s.stage) ++ handles_closed (fed s r) rs
    ≡ reverse (held s.opened.handles ++ (given_by (call_of s s.stage) r ++ handles_given (fed s r) rs))
unfolding fed_all handles_given handles_closed gathered next_call_of
closing-closed s r rs at placed ended =
    let is : at_stage s Close ≡ s = ap (λ (g : ProbeStage). at_stage s g) (sym at) in
    let here : IsPlaced s.opened Close = subst (λ (g : ProbeStage). IsPlaced s.opened g) at placed in
    let later : ClosesAll (at_stage s Close) (r ∷ rs) =
    closes-all s (r ∷ rs) here (ap (λ (v : ProbeState). has_ended (fed_all (fed v r) rs)) is ∙ ended) in
    let all : ClosesAll s (r ∷ rs) = subst (λ (v : ProbeState). ClosesAll v (r ∷ rs)) is later in
    all.closed
    ∙ ap reverse
    (sym (ap (λ (xs : List ℕ). held s.opened.handles ++ xs) all.given ∙ append-nil (held s.opened.handles)))

-- each handle that is open or was given is closed
all-closed : (s : ProbeState) (rs : List Reply) → IsPlaced s.opened s.stage → has_ended (fed_all s rs) ≡ true
    → handles_closed s rs ≡ reverse (held s.opened.handles ++ handles_given s rs)
unfolding fed_all handles_given handles_closed gathered next_call_of
all-closed s [] placed ended =
    let is : at_stage s Close ≡ s = ap (λ (g : ProbeStage). at_stage s g) (sym (ended-closes s ended)) in
    let none : held s.opened.handles ≡ [] = ended-none s (ap has_ended is ∙ ended) in
    sym (ap (λ (xs : List ℕ). reverse (xs ++ [])) none)
all-closed s (r ∷ rs) placed ended = of (all-closed (fed s r) rs) (is_close s.stage) refl
  where
    of : (IsPlaced (fed s r).opened (fed s r).stage → has_ended (fed_all (fed s r) rs) ≡ true
        → handles_closed (fed s r) rs ≡ reverse (held (fed s r).opened.handles ++ handles_given (fed s r) rs))
        → (b : Bool) → is_close s.stage ≡ b
        → closed_by (call_of s s.stage) ++ handles_closed (fed s r) rs
        ≡ reverse (held s.opened.handles ++ (given_by (call_of s s.stage) r ++ handles_given (fed s r) rs))
    of later true closes = closing-closed s r rs (close-is s.stage closes) placed ended
    of later false goes-on =
        let going : s.stage ≡ Close → ⊥ = not-close s.stage goes-on in
        let holds : Holds s s.stage r (fed s r) = fed-holds s r going placed in
        ap (λ (xs : List ℕ). xs ++ handles_closed (fed s r) rs) holds.closed
        ∙ later holds.placed ended
        ∙ ap (λ (xs : List ℕ). reverse (xs ++ handles_given (fed s r) rs)) holds.given
        ∙ ap reverse
        (append_assoc (held s.opened.handles) (given_by (call_of s s.stage) r) (handles_given (fed s r) rs))

pub first-placed : (pid : ℕ) → IsPlaced (first_probe pid).opened (first_probe pid).stage
unfolding first_probe nothing_open places_to_last place_at
first-placed pid = record { few = omega arith; room = refl }

first-held : (pid : ℕ) → held (first_probe pid).opened.handles ≡ []
unfolding first_probe nothing_open held
first-held pid = refl

pub handles-kept : (pid : ℕ) (rs : List Reply) → has_ended (fed_all (first_probe pid) rs) ≡ true
    → handles_closed (first_probe pid) rs ≡ reverse (handles_given (first_probe pid) rs)
handles-kept pid rs ended =
    all-closed (first_probe pid) rs (first-placed pid) ended
    ∙ ap (λ (xs : List ℕ). reverse (xs ++ handles_given (first_probe pid) rs)) (first-held pid)
