use Rattle.std.proofs.Common.{◌≡◌, ◌≢◌, ◌⊎◌, ℕ, ◌+◌, ◌<◌, ◌≤◌, Bool, true, false, is_none, is_some, eqb, Option, Some, None, IsSome, List, [], ◌∷◌, cond, refl, sym, subst, ◌∙◌, ap, arith, inl, inr}
use Rattle.std.specs.List.{All}
use Rattle.std.specs.Option.{option_map, option_and_then}
use Rattle.std.proofs.lemmas.Bool.{cases_eq, false≢true}
use Rattle.std.proofs.lemmas.List.Elements.{All-weaker}
use Rattle.std.proofs.lemmas.Option.{same_Some, none-some}
use Rattle.pr_num.specs.ById.{under, change_under, inserted, without_id}
use Rattle.pr_num.proofs.ByIdLemmas.{rises_from-change_under, rises_from-inserted, rises_from-without_id}
use Rattle.pr_num.proofs.ByIdLaws.{All-under, All-change_under, All-inserted, All-without_id, change_under-alike, change_under-none, under-change_under, under-change_under_other, under-inserted_other, under-without_id_other, under-beyond}
use Rattle.pr_num.specs.Files.{FileTable, no_descriptors}
use Rattle.pr_num.specs.Limits.{process_limit, all_mappings_limit}
use Rattle.pr_parts.specs.FileTables.{AreOpenIn, IsFileTable, PipesHaveEnds, count_at, users_at}
use Rattle.pr_model.specs.FirstState.{system_process}
use Rattle.pr_model.specs.Lawful.{IsLawfulProcess, IsNumberedBelow, HasParent, IsLawfulSystem}
use Rattle.pr_model.specs.Lives.{bare_process, with_made, with_reaped}
use Rattle.pr_model.specs.Readers.{size_of, total_size}
use Rattle.pr_model.specs.State.{TracedProcess, TracedSystem, process_of, if_live, live_process, with_process}
use Rattle.pr_lawful.proofs.ProcessParts.LocalLemmas.{StaysLawful}
use Rattle.pr_lawful.proofs.ProcessParts.SumLemmas.{sum-change_under, sum-inserted, sum-without_id, sum-part, count_in, all_users-sum, sizes-sum}

-- Changes of the system that leave it lawful: a process is replaced in its place, made, or reaped.

-- ---- live processes

-- whether a process, if there is one, is live
abbrev pub lives : Option TracedProcess → Bool
lives None = false
lives (Some p) = is_none p.ended

pub lives-live : (s : TracedSystem) (pid : ℕ) → is_some (live_process s pid) ≡ lives (process_of s pid)
unfolding live_process
lives-live s pid = by (process_of s pid)
  where
    by : (o : Option TracedProcess) → is_some (option_and_then if_live o) ≡ lives o
    by None = refl
    by (Some p) = elim (is_none p.ended) as (λ b. is_some (cond b (Some p) None) ≡ b) [ true ↦ refl | false ↦ refl ]

-- a parent is live still where every live process is
pub parents-on : (s t : TracedSystem) → ((pid : ℕ) → lives (process_of s pid) ≡ true → lives (process_of t pid) ≡ true)
    → (e : ℕ × TracedProcess) → HasParent s e → HasParent t e
parents-on s t on e h = record { parent = by h.parent }
  where
    by : (e.1.parent ≡ 0) ⊎ IsSome (live_process s e.1.parent) → (e.1.parent ≡ 0) ⊎ IsSome (live_process t e.1.parent)
    by (inl first) = inl first
    by (inr live) = inr (lives-live t e.1.parent ∙ on e.1.parent (sym (lives-live s e.1.parent) ∙ live))

-- the same where the parent of the process is named anew
pub parent-same : (s : TracedSystem) (pid : ℕ) (x y : TracedProcess) → y.parent ≡ x.parent → HasParent s (pid, x)
    → HasParent s (pid, y)
parent-same s pid x y same h = record { parent = subst (λ n. (n ≡ 0) ⊎ IsSome (live_process s n)) (sym same) h.parent }

lives-change_under : (pid : ℕ) (f : TracedProcess → TracedProcess) (es : List (ℕ × TracedProcess))
    → ((x : TracedProcess) → under pid es ≡ Some x → (f x).ended ≡ x.ended) → (other : ℕ)
    → lives (under other (change_under pid f es)) ≡ lives (under other es)
lives-change_under pid f es same other =
    elim (cases_eq pid other) [
      | inl here ↦ rw (← here) (ap lives (under-change_under pid f es) ∙ by (under pid es) same)
      | inr apart ↦ ap lives (under-change_under_other pid other f apart es)
    ]
  where
    by : (o : Option TracedProcess) → ((x : TracedProcess) → o ≡ Some x → (f x).ended ≡ x.ended)
        → lives (option_map f o) ≡ lives o
    by None same = refl
    by (Some x) same = ap (λ (o : Option ℕ). is_none o) (same x refl)

-- ---- a process in the place of another

-- What holds where a process stands in the place of another, and the files are these: it is lawful, has the same parent
-- and end, the memory of all is within its limit, and the files count its descriptors.
pub record Replaces (s : TracedSystem) (files : FileTable) (pid : ℕ) (x y : TracedProcess) : Type 0 where
  pub lawful : IsLawfulProcess (pid, x) → IsLawfulProcess (pid, y)
  pub parent : y.parent ≡ x.parent
  pub ended : y.ended ≡ x.ended
  pub mapped : total_size s + size_of y ≤ all_mappings_limit + size_of x
  pub table : IsFileTable files
  pub pipes : PipesHaveEnds files
  pub users : (place : ℕ) → users_at files place + count_at x.fds place ≡ users_at s.files place + count_at y.fds place

pub replaced : (s : TracedSystem) (files : FileTable) (pid : ℕ) (f : TracedProcess → TracedProcess) (x : TracedProcess)
    → IsLawfulSystem s → pid ≢ 0 → process_of s pid ≡ Some x → Replaces s files pid x (f x)
    → IsLawfulSystem (with_process pid f (record s { files = files }))
unfolding with_process total_size
replaced s files pid f x h user found r =
    let t : TracedSystem = record s { files = files; processes = change_under pid f s.processes } in
    let same : (y : TracedProcess) → process_of s pid ≡ Some y → x ≡ y = λ y is. same_Some x y (sym found ∙ is) in
    let live : (other : ℕ) → lives (process_of t other) ≡ lives (process_of s other) =
    lives-change_under pid f s.processes
    (λ y is. subst (λ (z : TracedProcess). (f z).ended ≡ z.ended) (same y is) r.ended) in
    record {
      rising = rises_from-change_under 0 pid f s.processes ∙ h.rising;
      numbered =
          All-change_under (IsNumberedBelow s.made) pid f s.processes (λ y is it. record { id = it.id }) h.numbered;
      processes =
          All-change_under IsLawfulProcess pid f s.processes
          (λ y is it. subst (λ z. IsLawfulProcess (pid, f z)) (same y is)
          (r.lawful (subst (λ z. IsLawfulProcess (pid, z)) (sym (same y is)) it))) h.processes;
      parents =
          All-weaker (HasParent s) (HasParent t) (parents-on s t (λ other is. live other
          ∙ is)) (change_under pid f s.processes)
          (All-change_under (HasParent s) pid f s.processes
          (λ y is it. parent-same s pid y (f y)
          (subst (λ (z : TracedProcess). (f z).parent ≡ z.parent) (same y is) r.parent) it) h.parents);
      first = under-change_under_other pid 0 f user s.processes ∙ h.first;
      made = h.made;
      programs = h.programs;
      mapped =
          let all = sum-change_under size_of pid f x s.processes found in
          let before = sizes-sum s.processes in
          let after = sizes-sum (change_under pid f s.processes) in
          let limit = r.mapped in
          omega arith;
      files = record {
        table = r.table;
        pipes = r.pipes;
        users = λ place.
            let all = sum-change_under (count_in place) pid f x s.processes found in
            let before = all_users-sum place s.processes in
            let after = all_users-sum place (change_under pid f s.processes) in
            let counted = h.files.users place in
            let here = r.users place in
            omega arith;
      };
    }

-- a process that is kept in its place
pub kept-replaces : (s : TracedSystem) (pid : ℕ) (x y : TracedProcess) → IsLawfulSystem s → StaysLawful pid x y
    → Replaces s s.files pid x y
unfolding total_size size_of
kept-replaces s pid x y h kept = record {
  lawful = kept.lawful;
  parent = kept.parent;
  ended = kept.ended;
  mapped = let limit = h.mapped in let same = kept.size in omega arith;
  table = h.files.table;
  pipes = h.files.pipes;
  users = λ place. ap (λ fds. users_at s.files place + count_at fds place) (sym kept.fds);
}

-- what each change leaves as it is
pub change_under-same : {X : Type 0} (id : ℕ) (f : X → X) → ((x : X) → f x ≡ x) → (es : List (ℕ × X))
    → change_under id f es ≡ es
change_under-same id f same [] = refl
change_under-same id f same (e ∷ es) =
    elim (eqb e.0 id) as (λ b. cond b ((e.0, f e.1) ∷ es) (e ∷ change_under id f es) ≡ e ∷ es)
    [ true ↦ ap (λ x. (e.0, x) ∷ es) (same e.1) | false ↦ ap (λ ds. e ∷ ds) (change_under-same id f same es) ]

-- Nothing changes where no process has the id, or where the one that has it is left as it is.
pub unfound : (s : TracedSystem) (pid : ℕ) (f : TracedProcess → TracedProcess) → process_of s pid ≡ None
    → with_process pid f s ≡ s
unfolding with_process
unfound s pid f none = ap (λ ps. record s { processes = ps }) (change_under-none pid f s.processes none)

pub unchanged : (s : TracedSystem) (pid : ℕ) (f : TracedProcess → TracedProcess) (x : TracedProcess)
    → process_of s pid ≡ Some x → f x ≡ x → with_process pid f s ≡ s
unfolding with_process
unchanged s pid f x found same =
    ap (λ ps. record s { processes = ps })
    (change_under-alike pid f (λ y. y) x s.processes found same
    ∙ change_under-same pid (λ y. y) (λ y. refl) s.processes)

pub kept : (s : TracedSystem) (pid : ℕ) (f : TracedProcess → TracedProcess) → pid ≢ 0
    → ((x : TracedProcess) → process_of s pid ≡ Some x → StaysLawful pid x (f x)) → IsLawfulSystem s
    → IsLawfulSystem (with_process pid f s)
kept s pid f user keeps h = by (process_of s pid) refl
  where
    by : (o : Option TracedProcess) → process_of s pid ≡ o → IsLawfulSystem (with_process pid f s)
    by None is = subst IsLawfulSystem (sym (unfound s pid f is)) h
    by (Some x) is = replaced s s.files pid f x h user is (kept-replaces s pid x (f x) h (keeps x is))

-- ---- a process is made

below : (made : ℕ) (es : List (ℕ × TracedProcess)) → All (IsNumberedBelow made) es
    → All (λ (e : ℕ × TracedProcess). e.0 < made) es
below made es all = All-weaker (IsNumberedBelow made) (λ (e : ℕ × TracedProcess). e.0 < made) (λ e it. it.id) es all

-- the next id is free
pub next-free : (s : TracedSystem) → IsLawfulSystem s → process_of s s.made ≡ None
next-free s h = under-beyond s.made s.processes (below s.made s.processes h.numbered)

-- What holds of a process that is made, with the files as they are then.
pub record Joins (s : TracedSystem) (files : FileTable) (p : TracedProcess) : Type 0 where
  pub lawful : IsLawfulProcess (s.made, p)
  pub parent : HasParent s (s.made, p)
  pub room : s.made < process_limit
  pub mapped : total_size s + size_of p ≤ all_mappings_limit
  pub table : IsFileTable files
  pub pipes : PipesHaveEnds files
  pub users : (place : ℕ) → users_at files place ≡ users_at s.files place + count_at p.fds place

first-made : (s : TracedSystem) → IsLawfulSystem s → s.made ≢ 0
first-made s h none =
    let first = All-under (IsNumberedBelow s.made) 0 system_process s.processes h.numbered h.first in
    let it = first.id in
    absurd (omega arith)

pub joined : (s : TracedSystem) (files : FileTable) (p : TracedProcess) → IsLawfulSystem s → Joins s files p
    → IsLawfulSystem (with_made p (record s { files = files }))
unfolding with_made total_size
joined s files p h j =
    let t : TracedSystem = record s { made = s.made + 1; files = files; processes = inserted s.made p s.processes } in
    let free = next-free s h in
    let stays : (other : ℕ) → lives (process_of s other) ≡ true → lives (process_of t other) ≡ true =
    λ other is. elim (cases_eq s.made other) [
      | inl here ↦ absurd (no_one (process_of s other) (ap (λ n. under n s.processes) (sym here) ∙ free) is)
      | inr apart ↦ ap lives (under-inserted_other s.made other p apart s.processes) ∙ is
    ] in
    record {
      rising =
          rises_from-inserted 0 s.made p s.processes (omega arith) h.rising
          (ap (λ (o : Option TracedProcess). is_some o) free);
      numbered =
          All-inserted (IsNumberedBelow (s.made + 1)) s.made p s.processes (record { id = omega arith })
          (All-weaker (IsNumberedBelow s.made) (IsNumberedBelow (s.made + 1))
          (λ e it. record { id = let low = it.id in omega arith }) s.processes h.numbered);
      processes = All-inserted IsLawfulProcess s.made p s.processes j.lawful h.processes;
      parents =
          All-weaker (HasParent s) (HasParent t) (parents-on s t stays) (inserted s.made p s.processes)
          (All-inserted (HasParent s) s.made p s.processes j.parent h.parents);
      first = under-inserted_other s.made 0 p (first-made s h) s.processes ∙ h.first;
      made = let room = j.room in omega arith;
      programs = h.programs;
      mapped =
          let all = sum-inserted size_of s.made p s.processes in
          let before = sizes-sum s.processes in
          let after = sizes-sum (inserted s.made p s.processes) in
          let limit = j.mapped in
          omega arith;
      files = record {
        table = j.table;
        pipes = j.pipes;
        users = λ place.
            let all = sum-inserted (count_in place) s.made p s.processes in
            let before = all_users-sum place s.processes in
            let after = all_users-sum place (inserted s.made p s.processes) in
            let counted = h.files.users place in
            let here = j.users place in
            omega arith;
      };
    }
  where
    no_one : (o : Option TracedProcess) → o ≡ None → lives o ≡ true → ⊥
    no_one None is live = cc
    no_one (Some x) is live = cc

-- ---- a zombie is reaped

-- no descriptor stands for an open file
pub count-none : (place : ℕ) → count_at no_descriptors place ≡ 0
count-none place = refl

-- the system process is live, so that a zombie is another one
zombie-other : (s : TracedSystem) (pid status : ℕ) (z : TracedProcess) → IsLawfulSystem s → process_of s pid ≡ Some z
    → z.ended ≡ Some status → pid ≢ 0
unfolding system_process bare_process
zombie-other s pid status z h found over is =
    let same : system_process ≡ z = same_Some system_process z (sym h.first ∙ ap (process_of s) (sym is) ∙ found) in
    let live : None ≡ Some status = ap (λ (p : TracedProcess). p.ended) same ∙ over in
    none-some status live

pub reaped : (s : TracedSystem) (child status : ℕ) (z : TracedProcess) → IsLawfulSystem s → process_of s child ≡ Some z
    → z.ended ≡ Some status → IsLawfulSystem (with_reaped child s)
unfolding with_reaped total_size size_of
reaped s child status z h found over =
    let t : TracedSystem = record s { processes = without_id child s.processes } in
    let zombie = All-under IsLawfulProcess child z s.processes h.processes found in
    let stays : (other : ℕ) → lives (process_of s other) ≡ true → lives (process_of t other) ≡ true =
    λ other is. elim (cases_eq child other) [
      | inl here ↦ absurd (dead (process_of s other) (ap (λ n. under n s.processes) (sym here) ∙ found) is)
      | inr apart ↦ ap lives (under-without_id_other child other apart s.processes) ∙ is
    ] in
    record {
      rising = rises_from-without_id 0 child s.processes h.rising;
      numbered = All-without_id (IsNumberedBelow s.made) child s.processes h.numbered;
      processes = All-without_id IsLawfulProcess child s.processes h.processes;
      parents =
          All-weaker (HasParent s) (HasParent t) (parents-on s t stays) (without_id child s.processes)
          (All-without_id (HasParent s) child s.processes h.parents);
      first = under-without_id_other child 0 (zombie-other s child status z h found over) s.processes ∙ h.first;
      made = h.made;
      programs = h.programs;
      mapped =
          let all = sum-without_id size_of child z s.processes found in
          let before = sizes-sum s.processes in
          let after = sizes-sum (without_id child s.processes) in
          let limit = h.mapped in
          omega arith;
      files = record {
        table = h.files.table;
        pipes = h.files.pipes;
        users = λ place.
            let all = sum-without_id (count_in place) child z s.processes found in
            let before = all_users-sum place s.processes in
            let after = all_users-sum place (without_id child s.processes) in
            let counted = h.files.users place in
            let none : count_at z.fds place ≡ 0 =
            ap (λ fds. count_at fds place) (zombie.empty_zombie.no_files status over) ∙ count-none place in
            omega arith;
      };
    }
  where
    dead : (o : Option TracedProcess) → o ≡ Some z → lives o ≡ true → ⊥
    dead None is live = cc
    dead (Some x) is live =
        let same : x ≡ z = same_Some x z is in
        let ended : x.ended ≡ Some status = ap (λ (p : TracedProcess). p.ended) same ∙ over in
        let clash : false ≡ true = sym (ap (λ (o : Option ℕ). is_none o) ended) ∙ live in
        false≢true clash

-- ---- descriptors

-- the descriptors of a process are open
pub descriptors-open : (s : TracedSystem) (pid : ℕ) (p : TracedProcess) → IsLawfulSystem s → process_of s pid ≡ Some p
    → AreOpenIn p.fds s.files
descriptors-open s pid p h found = record {
  each = λ place.
      let part = sum-part (count_in place) pid p s.processes found in
      let all = all_users-sum place s.processes in
      let counted = h.files.users place in
      omega arith;
}
