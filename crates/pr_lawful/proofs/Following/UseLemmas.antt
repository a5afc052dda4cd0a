use Rattle.std.proofs.Common.{◌≡◌, ◌⊎◌, ◌≢◌, ℕ, ◌+◌, ◌-◌, ◌<◌, ◌≤◌, Some, None, true, false, List, [], ◌∷◌, length, refl, arith, inl, inr}
use Rattle.std.specs.List.{All, list_any}
use Rattle.std.proofs.lemmas.List.Elements.{All-head, All-tail, All-weaker}
use Rattle.std.proofs.lemmas.List.Sums.{count_by-le-length}
use Rattle.std.proofs.lemmas.Bool.{ne_eqb}
use Rattle.pr_num.specs.Agents.{agent_id}
use Rattle.pr_num.specs.ById.{under, rises_from}
use Rattle.pr_num.proofs.ByIdLemmas.{rises_from-head, rises_from-tail}
use Rattle.pr_num.proofs.ByIdLaws.{All-under}
use Rattle.pr_parts.specs.FileTables.{HasRoom, users_at, stands_for}
use Rattle.pr_file_laws.proofs.CountLemmas.{HasRoom-from_users}
use Rattle.pr_model.specs.Handles.{has_writer, is_writer}
use Rattle.pr_model.specs.Lawful.{IsLawful, IsOfMade, IsLawfulLwp, IsLawfulProcess, IsNumberedBelow, IsLawfulSystem}
use Rattle.pr_num.specs.Limits.{last_lwp, descriptor_limit}
use Rattle.pr_model.specs.State.{Places, TracedState, TracedLwp, TracedProcess, TracedSystem, process_of, lwp_of, live_process}
use Rattle.pr_lawful.proofs.LawfulTurns.EndLemmas.{found-live}
use Rattle.pr_lawful.proofs.ProcessParts.SumLemmas.{sum-most, count_in, all_users-sum}
use Rattle.pr_lawful.proofs.ProcessParts.SystemLemmas.{descriptors-open, next-free}

-- What follows of a lawful system, for the bodies that need it.

-- ids that rise and were given out are no more than were given out
numbered-few : (made low : ℕ) (es : List (ℕ × TracedProcess)) → rises_from low es ≡ true
    → All (IsNumberedBelow made) es → length es ≤ made - low
numbered-few made low [] rises all = omega arith
numbered-few made low (e ∷ es) rises all =
    let here = All-head (IsNumberedBelow made) e es all in
    let below = here.id in
    let first = rises_from-head low e es rises in
    let rest =
    numbered-few made (e.0 + 1) es (rises_from-tail low e es rises) (All-tail (IsNumberedBelow made) e es all) in
    omega arith

pub few-processes : (s : TracedSystem) → IsLawfulSystem s → length s.processes ≤ s.made
few-processes s h = let few = numbered-few s.made 0 s.processes h.rising h.numbered in omega arith

-- an open file has no more users than all processes have descriptors
few-descriptors : (place : ℕ) (e : ℕ × TracedProcess) → IsLawfulProcess e → count_in place e.1 ≤ descriptor_limit
few-descriptors place e h =
    let most = count_by-le-length (stands_for place) e.1.fds in
    let all = h.descriptors in
    omega arith

few-users : (s : TracedSystem) (place : ℕ) → IsLawfulSystem s → users_at s.files place ≤ 262144
few-users s place h =
    let counted = h.files.users place in
    let sum = all_users-sum place s.processes in
    let most =
    sum-most (count_in place) descriptor_limit s.processes
    (All-weaker IsLawfulProcess (λ (e : ℕ × TracedProcess). count_in place e.1 ≤ descriptor_limit)
    (few-descriptors place) s.processes h.processes) in
    let processes = few-processes s h in
    let made = h.made in
    omega arith

pub files-room : (s : TracedSystem) → IsLawfulSystem s → HasRoom s.files descriptor_limit
files-room s h = HasRoom-from_users s.files descriptor_limit (λ place. let few = few-users s place h in omega arith)

pub files-room-one : (s : TracedSystem) → IsLawfulSystem s → HasRoom s.files 1
files-room-one s h = HasRoom-from_users s.files 1 (λ place. let few = few-users s place h in omega arith)

-- the next id of an lwp is free while there is one that is no agent's
next_lwp-free : (next : ℕ) (es : List (ℕ × TracedLwp)) → next ≤ last_lwp → All (IsLawfulLwp next) es
    → under next es ≡ None
next_lwp-free next [] last all = refl
next_lwp-free next (e ∷ es) last all =
    let here = All-head (IsLawfulLwp next) e es all in
    rw (ne_eqb e.0 next (apart here.id)) (next_lwp-free next es last (All-tail (IsLawfulLwp next) e es all))
  where
    apart : (e.0 < next) ⊎ (e.0 ≡ agent_id) → e.0 ≢ next
    apart (inl low) same = omega arith
    apart (inr agent) same = omega arith

pub lwp-free : (s : TracedSystem) (pid : ℕ) (p : TracedProcess) → IsLawfulSystem s → process_of s pid ≡ Some p
    → p.next_lwp ≤ last_lwp → lwp_of p p.next_lwp ≡ None
lwp-free s pid p h found last =
    let own = All-under IsLawfulProcess pid p s.processes h.processes found in
    next_lwp-free p.next_lwp p.lwps last own.lwps

-- no handle is open for a process that is yet to be made
unopened : (made : ℕ) (opens : Places) → All (IsOfMade made) opens → list_any (is_writer made) opens ≡ false
unopened made [] all = refl
unopened made (None ∷ opens) all = unopened made opens (All-tail (IsOfMade made) None opens all)
unopened made (Some h ∷ opens) all =
    let below : h.pid < made = All-head (IsOfMade made) (Some h) opens all in
    rw (ne_eqb h.pid made (λ same. absurd (omega arith)))
    (unopened made opens (All-tail (IsOfMade made) (Some h) opens all))

pub new-unopened : (s : TracedState) → IsLawful s → has_writer s.system.made s.opens ≡ false
new-unopened s h = unopened s.system.made s.opens h.handles

-- ---- the parts of a lawful system

pub process-lawful : (s : TracedSystem) (pid : ℕ) (p : TracedProcess) → IsLawfulSystem s → process_of s pid ≡ Some p
    → IsLawfulProcess (pid, p)
process-lawful s pid p h found = All-under IsLawfulProcess pid p s.processes h.processes found

pub live-lawful : (s : TracedSystem) (pid : ℕ) (p : TracedProcess) → IsLawfulSystem s → live_process s pid ≡ Some p
    → IsLawfulProcess (pid, p)
live-lawful s pid p h live = process-lawful s pid p h (found-live s pid p live).0

pub lwp-lawful : (pid id : ℕ) (p : TracedProcess) (l : TracedLwp) → IsLawfulProcess (pid, p) → lwp_of p id ≡ Some l
    → IsLawfulLwp p.next_lwp (id, l)
lwp-lawful pid id p l h there = All-under (IsLawfulLwp p.next_lwp) id l p.lwps h.lwps there

pub ruleset uses = (descriptors-open, files-room, files-room-one, next-free, lwp-free, few-processes, new-unopened)
