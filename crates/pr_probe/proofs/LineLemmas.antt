-- The descriptors that are shown are those that the agent was answered.
use Rattle.std.proofs.Common.{◌≡◌, ◌++◌, ◌∷◌, ◌<◌, ◌≤◌, ◌+◌, ℕ, Bool, true, false, Option, Some, None, List, [], cond, inl, inr, length, nat_lt, take, ap, append_assoc, append-nil, arith, refl, sym, subst, ◌∙◌, length-append, length-take}
use Rattle.std.proofs.lemmas.Bool.{cases_Bool, ltb-false, ltb-true}
use Rattle.std.proofs.lemmas.List.{take_all, take-append-le}
use Rattle.pr_num.specs.Limits.{descriptor_limit}
use Rattle.pr_num.specs.declared.files.FdKind.{FdKind}
use Rattle.pr_model.specs.declared.calls.Reply.{Reply}
use Rattle.pr_model.specs.declared.calls.Reply.TheVariants as reply
use Rattle.pr_num.specs.declared.errnos.Errno.{Errno}
use Rattle.pr_model.specs.Replies.{bytes_in, until_in}
use Rattle.pr_tools.specs.Stacks.{process_stands}
use Rattle.pr_probe.specs.AgentCode.{code_size, stack_size}
use Rattle.pr_tools.specs.Replies.{bytes_read}
use Rattle.pr_probe.specs.DescriptorLines.{kind_in}
use Rattle.pr_probe.specs.ProbeRuns.{answered_at, descriptor_of, descriptors_answered, fed_all, gathered}
use Rattle.pr_probe.specs.Probes.{ProbeState, accepted, advanced, asked, asking_accepted, at_stage, fed, first_probe, refusal_in, refused, with_kind, with_next, with_opened, with_status}
use Rattle.pr_probe.specs.ProbeStages.{way_out}
use Rattle.pr_probe.specs.declared.descriptor_lines.OpenDescriptor.{OpenDescriptor}
use Rattle.pr_probe.specs.declared.probe_stages.AskingStep.TheVariants.{SetRegisters, Run as RunAgent, Await, ReadAgent, ReadKind}
use Rattle.pr_probe.specs.declared.probe_stages.ProbeFile.TheVariants.{Control, Status, Lstatus, Map, AgentControl, AgentStatus}
use Rattle.pr_probe.specs.declared.probe_stages.ProbeStage.{ProbeStage}
use Rattle.pr_probe.specs.declared.probe_stages.ProbeStage.TheVariants.{Open, ReadFirst, Stop, AwaitStop, ReadStatus, ReadMap, SaveCode, SaveStack, Trace, MakeAgent, PlantCode, Asking, UntraceExits, SetExit, RunExit, AwaitExit, WriteCode, WriteStack, Retrace, Run, Restore, Release, Close}
use Rattle.pr_probe.specs.declared.traced_sets.SetKind.TheVariants.{Signals, Faults, Entries, Exits}
use Rattle.pr_probe.proofs.FedLemmas.{Refuses, advanced-kept, answer-by, fed-by, map-by, next-kept, poll-by, refusal-counts}

-- lines that are few enough, one by one
abbrev Adds : List OpenDescriptor → List OpenDescriptor → List OpenDescriptor → Type 0
Adds old more new = new ≡ take descriptor_limit (old ++ more)

no-more : (old : List OpenDescriptor) → length old ≤ descriptor_limit → Adds old [] old
no-more old few = sym (ap (take descriptor_limit) (append-nil old) ∙ take_all descriptor_limit old few)

with-more : (old : List OpenDescriptor) (x : OpenDescriptor) → length old ≤ descriptor_limit
    → Adds old (x ∷ []) (cond (nat_lt (length old) descriptor_limit) (old ++ x ∷ []) old)
with-more old x few =
    elim (cases_Bool (nat_lt (length old) descriptor_limit)) [ inl room ↦ fits room | inr full ↦ stays full ]
  where
    fits : nat_lt (length old) descriptor_limit ≡ true
        → Adds old (x ∷ []) (cond (nat_lt (length old) descriptor_limit) (old ++ x ∷ []) old)
    fits room =
        let less : length old < descriptor_limit = ltb-true _ _ room in
        rw room (sym (take_all descriptor_limit (old ++ x ∷ []) (omega (arith, length-append old (x ∷ []), less))))

    stays : nat_lt (length old) descriptor_limit ≡ false
        → Adds old (x ∷ []) (cond (nat_lt (length old) descriptor_limit) (old ++ x ∷ []) old)
    stays full =
        let more : descriptor_limit ≤ length old = ltb-false _ _ full in
        rw full (sym (take-append-le descriptor_limit old (x ∷ []) more ∙ take_all descriptor_limit old few))

twice : (n : ℕ) (xs ys : List OpenDescriptor) → take n (take n xs ++ ys) ≡ take n (xs ++ ys)
twice n xs ys =
    elim (cases_Bool (nat_lt (length xs) n))
    [ inl less ↦ short (ltb-true _ _ less) | inr not ↦ long (ltb-false _ _ not) ]
  where
    short : length xs < n → take n (take n xs ++ ys) ≡ take n (xs ++ ys)
    short less = ap (λ (zs : List OpenDescriptor). take n (zs ++ ys)) (take_all n xs (omega arith))

    long : n ≤ length xs → take n (take n xs ++ ys) ≡ take n (xs ++ ys)
    long more =
        take-append-le n (take n xs) ys (omega (arith, length-take n xs))
        ∙ take_all n (take n xs) (omega (arith, length-take n xs))
        ∙ sym (take-append-le n xs ys more)

-- ---- one step

kind-adds : (s : ProbeState) (d : ℕ) (k : Option FdKind) → length s.lines ≤ descriptor_limit
    → Adds s.lines (descriptor_of d k) (with_kind s d k).lines
unfolding with_kind
kind-adds s d None few = no-more s.lines few
kind-adds s d (Some kind) few =
    lines-of (nat_lt (length s.lines) descriptor_limit) ∙ with-more s.lines (record { descriptor = d; kind = kind }) few
  where
    lines-of : (b : Bool)
        → (cond b (record s { lines = s.lines ++ record { descriptor = d; kind = kind } ∷ [] }) s).lines
        ≡ cond b (s.lines ++ record { descriptor = d; kind = kind } ∷ []) s.lines
    lines-of true = refl
    lines-of false = refl

staying : (s t : ProbeState) → length s.lines ≤ descriptor_limit → t.lines ≡ s.lines → Adds s.lines [] t.lines
staying s t few same = same ∙ no-more s.lines few

on : (s : ProbeState) → (advanced s).lines ≡ s.lines
on s = advanced-kept (λ t. t.lines) (λ t g. refl) s

out : (s : ProbeState) (e : Errno) → (refused s e).lines ≡ s.lines
unfolding refused
out s e = next-kept (λ t. t.lines) (λ t g. refl) (record s { refusal = Some e }) (way_out s.stage)

accepted-adds : (s : ProbeState) (g : ProbeStage) (r : Reply) → length s.lines ≤ descriptor_limit
    → Adds s.lines (answered_at g r) (accepted s r g).lines
unfolding accepted asking_accepted with_status answered_at
accepted-adds s (Open f) r few = staying s (advanced (with_opened s f r)) few (on (with_opened s f r))
accepted-adds s ReadFirst r few =
    staying s (advanced (record s { stood = process_stands (bytes_read r) })) few
    (on (record s { stood = process_stands (bytes_read r) }))
accepted-adds s Stop r few =
    staying s (advanced (record s { until = until_in r })) few (on (record s { until = until_in r }))
accepted-adds s AwaitStop r few = staying s (advanced s) few (on s)
accepted-adds s ReadStatus r few =
    staying s (advanced (with_status s (bytes_read r))) few (on (with_status s (bytes_read r)))
accepted-adds s ReadMap r few =
    map-by (λ t. Adds s.lines [] t.lines) s (bytes_read r) (λ e. staying s (refused s e) few (out s e))
    (staying s (advanced s) few (on s))
accepted-adds s SaveCode r few =
    staying s (advanced (record s { code = take code_size (bytes_read r) })) few
    (on (record s { code = take code_size (bytes_read r) }))
accepted-adds s SaveStack r few =
    staying s (advanced (record s { stack = take stack_size (bytes_read r) })) few
    (on (record s { stack = take stack_size (bytes_read r) }))
accepted-adds s (Trace k) r few = staying s (advanced s) few (on s)
accepted-adds s MakeAgent r few = staying s (advanced s) few (on s)
accepted-adds s PlantCode r few = staying s (advanced s) few (on s)
accepted-adds s (Asking d SetRegisters) r few = staying s (advanced s) few (on s)
accepted-adds s (Asking d RunAgent) r few = staying s (advanced s) few (on s)
accepted-adds s (Asking d Await) r few =
    poll-by (λ t. Adds s.lines [] t.lines) s r (no-more s.lines few) (staying s (advanced s) few (on s))
accepted-adds s (Asking d ReadAgent) r few =
    answer-by (λ t. Adds s.lines [] t.lines) s d (bytes_read r) (no-more s.lines few) (no-more s.lines few)
accepted-adds s (Asking d ReadKind) r few = kind-adds s d (kind_in (bytes_read r)) few
accepted-adds s UntraceExits r few = staying s (advanced s) few (on s)
accepted-adds s SetExit r few = staying s (advanced s) few (on s)
accepted-adds s RunExit r few = staying s (advanced s) few (on s)
accepted-adds s AwaitExit r few =
    poll-by (λ t. Adds s.lines [] t.lines) s r (no-more s.lines few) (staying s (advanced s) few (on s))
accepted-adds s WriteCode r few = staying s (advanced s) few (on s)
accepted-adds s WriteStack r few = staying s (advanced s) few (on s)
accepted-adds s (Retrace k) r few = staying s (advanced s) few (on s)
accepted-adds s Run r few = staying s (advanced s) few (on s)
accepted-adds s (Restore k) r few = staying s (advanced s) few (on s)
accepted-adds s Release r few = staying s (advanced s) few (on s)
accepted-adds s Close r few = no-more s.lines few

-- a refusal says nothing of a descriptor
fails-nothing : (g : ProbeStage) (e : Errno) → answered_at g (reply.Fail e) ≡ []
unfolding answered_at bytes_in kind_in
fails-nothing (Open f) e = refl
fails-nothing ReadFirst e = refl
fails-nothing Stop e = refl
fails-nothing AwaitStop e = refl
fails-nothing ReadStatus e = refl
fails-nothing ReadMap e = refl
fails-nothing SaveCode e = refl
fails-nothing SaveStack e = refl
fails-nothing (Trace k) e = refl
fails-nothing MakeAgent e = refl
fails-nothing PlantCode e = refl
fails-nothing (Asking d SetRegisters) e = refl
fails-nothing (Asking d RunAgent) e = refl
fails-nothing (Asking d Await) e = refl
fails-nothing (Asking d ReadAgent) e = refl
fails-nothing (Asking d ReadKind) e = refl
fails-nothing UntraceExits e = refl
fails-nothing SetExit e = refl
fails-nothing RunExit e = refl
fails-nothing AwaitExit e = refl
fails-nothing WriteCode e = refl
fails-nothing WriteStack e = refl
fails-nothing (Retrace k) e = refl
fails-nothing Run e = refl
fails-nothing (Restore k) e = refl
fails-nothing Release e = refl
fails-nothing Close e = refl

refused-adds : (s : ProbeState) (r : Reply) (e : Errno) → refusal_in s.stage r ≡ Some e
    → length s.lines ≤ descriptor_limit
    → Adds s.lines (answered_at s.stage r) (refused s e).lines
refused-adds s r e is few =
    let refuses : Refuses s.stage r e = refusal-counts s.stage r e is in
    let nothing : answered_at s.stage r ≡ [] = ap (answered_at s.stage) refuses.reply ∙ fails-nothing s.stage e in
    rw nothing (staying s (refused s e) few (out s e))

fed-adds : (s : ProbeState) (r : Reply) → length s.lines ≤ descriptor_limit
    → Adds s.lines (answered_at s.stage r) (fed s r).lines
fed-adds s r few =
    fed-by (λ t. Adds s.lines (answered_at s.stage r) t.lines) s r (λ e is. refused-adds s r e is few)
    (λ is. accepted-adds s s.stage r few)

-- ---- a run

lines-few : (old more new : List OpenDescriptor) → Adds old more new → length new ≤ descriptor_limit
lines-few old more new adds =
    subst (λ (xs : List OpenDescriptor). length xs ≤ descriptor_limit) (sym adds)
    (omega (arith, length-take descriptor_limit (old ++ more)))

lines-from : (s : ProbeState) (rs : List Reply) → length s.lines ≤ descriptor_limit
    → Adds s.lines (descriptors_answered s rs) (fed_all s rs).lines
unfolding fed_all descriptors_answered gathered
lines-from s [] few = no-more s.lines few
lines-from s (r ∷ rs) few =
    let here = answered_at s.stage r in
    let rest = descriptors_answered (fed s r) rs in
    let one : Adds s.lines here (fed s r).lines = fed-adds s r few in
    lines-from (fed s r) rs (lines-few s.lines here (fed s r).lines one)
    ∙ ap (λ (xs : List OpenDescriptor). take descriptor_limit (xs ++ rest)) one
    ∙ twice descriptor_limit (s.lines ++ here) rest
    ∙ ap (take descriptor_limit) (append_assoc s.lines here rest)

first-lines : (pid : ℕ) → (first_probe pid).lines ≡ []
unfolding first_probe
first-lines pid = refl

pub lines-kept : (pid : ℕ) (rs : List Reply)
    → (fed_all (first_probe pid) rs).lines ≡ take descriptor_limit (descriptors_answered (first_probe pid) rs)
lines-kept pid rs =
    let few : length (first_probe pid).lines ≤ descriptor_limit =
    subst (λ (xs : List OpenDescriptor). length xs ≤ descriptor_limit) (sym (first-lines pid)) (omega arith) in
    lines-from (first_probe pid) rs few
    ∙ ap (λ (xs : List OpenDescriptor). take descriptor_limit (xs ++ descriptors_answered (first_probe pid) rs))
    (first-lines pid)
