-- What a reply makes of a probe: it refuses it, or it does not.
use Rattle.std.proofs.Common.{◌≡◌, ◌++◌, ◌∷◌, ℕ, Bool, true, false, Option, Some, None, List, [], cond, is_none, length, nat_lt, ap, refl, sym, ◌∙◌}
use Rattle.std.proofs.lemmas.Option.{same_Some}
use Rattle.pr_model.specs.declared.calls.Reply.{Reply}
use Rattle.pr_model.specs.declared.calls.Reply.TheVariants as reply
use Rattle.pr_num.specs.declared.errnos.Errno.{Errno}
use Rattle.pr_num.specs.Limits.{descriptor_limit}
use Rattle.pr_num.specs.declared.errnos.Errno.TheVariants.{Busy, Fault}
use Rattle.pr_num.specs.declared.files.FdKind.{FdKind}
use Rattle.pr_probe.specs.DescriptorLines.{kind_in}
use Rattle.pr_tools.specs.Replies.{bytes_read}
use Rattle.pr_num.specs.Records.{lwpstatus_ranges, status_ranges}
use Rattle.pr_rec.specs.Reading.{record_read}
use Rattle.pr_probe.specs.ProbeRuns.{fed_all}
use Rattle.pr_probe.specs.ProbeStages.{is_passed_over, stage_after, way_out}
use Rattle.pr_probe.specs.Probes.{ProbeState, accepted, advanced, answered, asked, asking_accepted, at_stage, after_poll, call_of, fed, has_ended, next_call_of, refusal_in, refused, shows_open, with_answer, with_kind, with_map, with_next, with_run_next, with_status}
use Rattle.pr_probe.specs.Regions.{has_room}
use Rattle.pr_probe.specs.declared.descriptor_lines.OpenDescriptor.{OpenDescriptor}
use Rattle.pr_probe.specs.declared.probe_stages.AskingStep.TheVariants.{SetRegisters, Run as RunAgent, Await, ReadAgent, ReadKind}
use Rattle.pr_probe.specs.declared.probe_stages.ProbeFile.TheVariants.{Control, Status, Lstatus, Map, AgentControl, AgentStatus}
use Rattle.pr_probe.specs.declared.probe_stages.ProbeStage.{ProbeStage}
use Rattle.pr_probe.specs.declared.probe_stages.ProbeStage.TheVariants.{Open, ReadFirst, Stop, AwaitStop, ReadStatus, ReadMap, SaveCode, SaveStack, Trace, MakeAgent, PlantCode, Asking, UntraceExits, SetExit, RunExit, AwaitExit, WriteCode, WriteStack, Retrace, Run, Restore, Release, Close}
use Rattle.pr_probe.specs.declared.traced_sets.SetKind.TheVariants.{Signals, Faults, Entries, Exits}

-- what holds of a probe that is refused, and of one that is not, holds of one that is fed
pub fed-by : (P : ProbeState → Type 0) (s : ProbeState) (r : Reply)
    → ((e : Errno) → refusal_in s.stage r ≡ Some e → P (refused s e))
    → (refusal_in s.stage r ≡ None → P (accepted s r s.stage)) → P (fed s r)
unfolding fed
fed-by P s r refuses accepts = of (refusal_in s.stage r) refl
  where
    of : (o : Option Errno) → refusal_in s.stage r ≡ o → P (answered s r o)
    of None is = accepts is
    of (Some e) is = refuses e is

-- the running of the process changes no more than the stage
pub run-next-by : (P : ProbeState → Type 0) (s : ProbeState) (run : ProbeStage)
    → (s.stood ≡ true → P (at_stage s Close)) → (s.stood ≡ false → P (at_stage s run)) → P (with_run_next s run)
unfolding with_run_next
run-next-by P s run stands runs = of s.stood refl
  where
    of : (b : Bool) → s.stood ≡ b → P (cond b (at_stage s Close) (at_stage s run))
    of true is = stands is
    of false is = runs is

pub map-by : (P : ProbeState → Type 0) (s : ProbeState) (bytes : List ℕ)
    → ((e : Errno) → P (refused s e)) → P (advanced s) → P (with_map s bytes)
unfolding with_map
map-by P s bytes refuses accepts = of s.watched (has_room bytes)
  where
    of : (w room : Bool) → P (cond w (refused s Busy) (cond room (advanced s) (refused s Fault)))
    of true room = refuses Busy
    of false true = accepts
    of false false = refuses Fault

pub answer-by : (P : ProbeState → Type 0) (s : ProbeState) (d : ℕ) (bytes : List ℕ)
    → P (at_stage s (Asking d ReadKind)) → P (asked s d) → P (with_answer s d bytes)
unfolding with_answer
answer-by P s d bytes found shut = of (shows_open (record_read lwpstatus_ranges bytes))
  where
    of : (b : Bool) → P (cond b (at_stage s (Asking d ReadKind)) (asked s d))
    of true = found
    of false = shut

pub poll-by : (P : ProbeState → Type 0) (s : ProbeState) (r : Reply) → P s → P (advanced s) → P (after_poll s r)
unfolding after_poll
poll-by P s (reply.Fail e) again on = again
poll-by P s (reply.Handle handle) again on = on
poll-by P s reply.Done again on = on
poll-by P s (reply.Used n) again on = on
poll-by P s (reply.Half until) again on = on
poll-by P s (reply.Bytes bytes) again on = on
poll-by P s (reply.Pid pid) again on = on
poll-by P s (reply.Ready handle) again on = on

-- ---- the next stage

-- what a stage tells is told of the next one, where the running of the process tells no more than the closing
pub next-same : {A : Type 0} (f : ProbeStage → A) → f Close ≡ f Run → f Close ≡ f Release → (s : ProbeState)
    (g : ProbeStage) → f (with_next s g).stage ≡ f g
unfolding with_next
next-same f running release s (Open file) = refl
next-same f running release s ReadFirst = refl
next-same f running release s Stop = refl
next-same f running release s AwaitStop = refl
next-same f running release s ReadStatus = refl
next-same f running release s ReadMap = refl
next-same f running release s SaveCode = refl
next-same f running release s SaveStack = refl
next-same f running release s (Trace k) = refl
next-same f running release s MakeAgent = refl
next-same f running release s PlantCode = refl
next-same f running release s (Asking d step) = refl
next-same f running release s UntraceExits = refl
next-same f running release s SetExit = refl
next-same f running release s RunExit = refl
next-same f running release s AwaitExit = refl
next-same f running release s WriteCode = refl
next-same f running release s WriteStack = refl
next-same f running release s (Retrace k) = refl
next-same f running release s Run = run-next-by (λ t. f t.stage ≡ f Run) s Run (λ _. running) (λ _. refl)
next-same f running release s (Restore k) = refl
next-same f running release s Release = run-next-by (λ t. f t.stage ≡ f Release) s Release (λ _. release) (λ _. refl)
next-same f running release s Close = refl

pub advanced-same : {A : Type 0} (f : ProbeStage → A) → f Close ≡ f Run → f Close ≡ f Release → (s : ProbeState)
    → f (advanced s).stage ≡ f (stage_after s.stage)
unfolding advanced
advanced-same f running release s = next-same f running release s (stage_after s.stage)

-- what stays where only the stage changes
pub next-kept : {A : Type 0} (h : ProbeState → A) → ((t : ProbeState) (g : ProbeStage) → h (at_stage t g) ≡ h t)
    → (s : ProbeState) (g : ProbeStage) → h (with_next s g) ≡ h s
unfolding with_next
next-kept h keeps s (Open f) = keeps s (Open f)
next-kept h keeps s ReadFirst = keeps s ReadFirst
next-kept h keeps s Stop = keeps s Stop
next-kept h keeps s AwaitStop = keeps s AwaitStop
next-kept h keeps s ReadStatus = keeps s ReadStatus
next-kept h keeps s ReadMap = keeps s ReadMap
next-kept h keeps s SaveCode = keeps s SaveCode
next-kept h keeps s SaveStack = keeps s SaveStack
next-kept h keeps s (Trace k) = keeps s (Trace k)
next-kept h keeps s MakeAgent = keeps s MakeAgent
next-kept h keeps s PlantCode = keeps s PlantCode
next-kept h keeps s (Asking d step) = keeps s (Asking d step)
next-kept h keeps s UntraceExits = keeps s UntraceExits
next-kept h keeps s SetExit = keeps s SetExit
next-kept h keeps s RunExit = keeps s RunExit
next-kept h keeps s AwaitExit = keeps s AwaitExit
next-kept h keeps s WriteCode = keeps s WriteCode
next-kept h keeps s WriteStack = keeps s WriteStack
next-kept h keeps s (Retrace k) = keeps s (Retrace k)
next-kept h keeps s Run = run-next-by (λ t. h t ≡ h s) s Run (λ _. keeps s Close) (λ _. keeps s Run)
next-kept h keeps s (Restore k) = keeps s (Restore k)
next-kept h keeps s Release = run-next-by (λ t. h t ≡ h s) s Release (λ _. keeps s Close) (λ _. keeps s Release)
next-kept h keeps s Close = keeps s Close

pub advanced-kept : {A : Type 0} (h : ProbeState → A) → ((t : ProbeState) (g : ProbeStage) → h (at_stage t g) ≡ h t)
    → (s : ProbeState) → h (advanced s) ≡ h s
unfolding advanced
advanced-kept h keeps s = next-kept h keeps s (stage_after s.stage)

-- ---- the refusal

pub next-refusal : (s : ProbeState) (g : ProbeStage) → (with_next s g).refusal ≡ s.refusal
next-refusal s g = next-kept (λ t. t.refusal) (λ t h. refl) s g

pub advanced-refusal : (s : ProbeState) → (advanced s).refusal ≡ s.refusal
advanced-refusal s = advanced-kept (λ t. t.refusal) (λ t h. refl) s

refused-refusal : (s : ProbeState) (e : Errno) → (refused s e).refusal ≡ Some e
unfolding refused
refused-refusal s e = next-refusal (record s { refusal = Some e }) (way_out s.stage)

-- a refused probe has a refusal
pub not-refused : {A : Type 0} (s : ProbeState) (e : Errno) → (refused s e).refusal ≡ None → A
not-refused s e none = let is : Some e ≡ None = sym (refused-refusal s e) ∙ none in absurd cc

-- a descriptor that is noted changes no more than the lines
pub kind-kept : {A : Type 0} (h : ProbeState → A)
    → ((t : ProbeState) (lines : List OpenDescriptor) → h (record t { lines = lines }) ≡ h t)
    → (s : ProbeState) (d : ℕ) (k : Option FdKind) → h (with_kind s d k) ≡ h s
unfolding with_kind
kind-kept h keeps s d None = refl
kind-kept h keeps s d (Some kind) = of (nat_lt (length s.lines) descriptor_limit)
  where
    of : (b : Bool)
        → h (cond b (record s { lines = s.lines ++ record { descriptor = d; kind = kind } ∷ [] }) s) ≡ h s
    of true = keeps s (s.lines ++ record { descriptor = d; kind = kind } ∷ [])
    of false = refl

-- Back u s: where u has no refusal, s had none.
abbrev Back : ProbeState → ProbeState → Type 0
Back s u = u.refusal ≡ None → s.refusal ≡ None

-- a reply that does not refuse
accepted-back : (s : ProbeState) (g : ProbeStage) (r : Reply) → Back s (accepted s r g)
unfolding accepted asking_accepted with_status
accepted-back s (Open f) r = λ none. sym (advanced-refusal _) ∙ none
accepted-back s ReadFirst r = λ none. sym (advanced-refusal _) ∙ none
accepted-back s Stop r = λ none. sym (advanced-refusal _) ∙ none
accepted-back s AwaitStop r = λ none. sym (advanced-refusal _) ∙ none
accepted-back s ReadStatus r = λ none. sym (advanced-refusal _) ∙ none
accepted-back s ReadMap r =
    map-by (Back s) s (bytes_read r) (λ e none. not-refused s e none) (λ none. sym (advanced-refusal s) ∙ none)
accepted-back s SaveCode r = λ none. sym (advanced-refusal _) ∙ none
accepted-back s SaveStack r = λ none. sym (advanced-refusal _) ∙ none
accepted-back s (Trace k) r = λ none. sym (advanced-refusal _) ∙ none
accepted-back s MakeAgent r = λ none. sym (advanced-refusal _) ∙ none
accepted-back s PlantCode r = λ none. sym (advanced-refusal _) ∙ none
accepted-back s (Asking d SetRegisters) r = λ none. sym (advanced-refusal _) ∙ none
accepted-back s (Asking d RunAgent) r = λ none. sym (advanced-refusal _) ∙ none
accepted-back s (Asking d Await) r = poll-by (Back s) s r (λ none. none) (λ none. sym (advanced-refusal s) ∙ none)
accepted-back s (Asking d ReadAgent) r = answer-by (Back s) s d (bytes_read r) (λ none. none) (λ none. none)
accepted-back s (Asking d ReadKind) r =
    λ none. sym (kind-kept (λ t. t.refusal) (λ t lines. refl) s d (kind_in (bytes_read r))) ∙ none
accepted-back s UntraceExits r = λ none. sym (advanced-refusal _) ∙ none
accepted-back s SetExit r = λ none. sym (advanced-refusal _) ∙ none
accepted-back s RunExit r = λ none. sym (advanced-refusal _) ∙ none
accepted-back s AwaitExit r = poll-by (Back s) s r (λ none. none) (λ none. sym (advanced-refusal s) ∙ none)
accepted-back s WriteCode r = λ none. sym (advanced-refusal _) ∙ none
accepted-back s WriteStack r = λ none. sym (advanced-refusal _) ∙ none
accepted-back s (Retrace k) r = λ none. sym (advanced-refusal _) ∙ none
accepted-back s Run r = λ none. sym (advanced-refusal _) ∙ none
accepted-back s (Restore k) r = λ none. sym (advanced-refusal _) ∙ none
accepted-back s Release r = λ none. sym (advanced-refusal _) ∙ none
accepted-back s Close r = λ none. none

pub fed-back : (s : ProbeState) (r : Reply) → (fed s r).refusal ≡ None → s.refusal ≡ None
fed-back s r = fed-by (Back s) s r (λ e is none. not-refused s e none) (λ is. accepted-back s s.stage r)

-- ---- the end

-- a probe that has finished is at the closing
no-call : (s : ProbeState) (g : ProbeStage) → is_none (call_of s g) ≡ true → g ≡ Close
unfolding call_of
no-call s (Open f) ended = absurd cc
no-call s ReadFirst ended = absurd cc
no-call s Stop ended = absurd cc
no-call s AwaitStop ended = absurd cc
no-call s ReadStatus ended = absurd cc
no-call s ReadMap ended = absurd cc
no-call s SaveCode ended = absurd cc
no-call s SaveStack ended = absurd cc
no-call s (Trace k) ended = absurd cc
no-call s MakeAgent ended = absurd cc
no-call s PlantCode ended = absurd cc
no-call s (Asking d step) ended = absurd cc
no-call s UntraceExits ended = absurd cc
no-call s SetExit ended = absurd cc
no-call s RunExit ended = absurd cc
no-call s AwaitExit ended = absurd cc
no-call s WriteCode ended = absurd cc
no-call s WriteStack ended = absurd cc
no-call s (Retrace k) ended = absurd cc
no-call s Run ended = absurd cc
no-call s (Restore k) ended = absurd cc
no-call s Release ended = absurd cc
no-call s Close ended = refl

pub ended-closes : (s : ProbeState) → has_ended s ≡ true → s.stage ≡ Close
unfolding has_ended next_call_of
ended-closes s ended = no-call s s.stage ended

-- ---- a run

-- a run that ends without a refusal had none before
pub all-back : (s : ProbeState) (rs : List Reply) → (fed_all s rs).refusal ≡ None → s.refusal ≡ None
unfolding fed_all
all-back s [] none = none
all-back s (r ∷ rs) none = fed-back s r (all-back (fed s r) rs none)

-- ---- refusals

-- a refusal is an errno that is not passed over
pub record Refuses (g : ProbeStage) (r : Reply) (e : Errno) : Type 0 where
  pub reply : r ≡ reply.Fail e
  pub counts : is_passed_over g e ≡ false

refuses-by : (g : ProbeStage) (d e : Errno) (b : Bool) → is_passed_over g d ≡ b → cond b None (Some d) ≡ Some e
    → Refuses g (reply.Fail d) e
refuses-by g d e true is same = absurd cc
refuses-by g d e false is same =
    let errno : d ≡ e = same_Some _ _ same in
    record { reply = ap reply.Fail errno; counts = ap (is_passed_over g) (sym errno) ∙ is }

pub refusal-counts : (g : ProbeStage) (r : Reply) (e : Errno) → refusal_in g r ≡ Some e → Refuses g r e
unfolding refusal_in
refusal-counts g (reply.Fail d) e is = refuses-by g d e (is_passed_over g d) refl is
refusal-counts g (reply.Handle handle) e is = absurd cc
refusal-counts g reply.Done e is = absurd cc
refusal-counts g (reply.Used n) e is = absurd cc
refusal-counts g (reply.Half until) e is = absurd cc
refusal-counts g (reply.Bytes bytes) e is = absurd cc
refusal-counts g (reply.Pid pid) e is = absurd cc
refusal-counts g (reply.Ready handle) e is = absurd cc
