use Rattle.std.proofs.Common.{◌≡◌, ◌≢◌, ◌⊎◌, ℕ, suc, ◌+◌, ◌^◌, ◌<◌, ◌≤◌, true, false, is_none, eqb, Option, Some, None, IsSome, List, [], ◌∷◌, length, cond, refl, sym, subst, ◌∙◌, ap, arith, inl, inr}
use Rattle.std.specs.Option.{option_map}
use Rattle.std.proofs.lemmas.Bool.{eqb-false, ne_eqb}
use Rattle.std.proofs.lemmas.List.Elements.{All-nil}
use Rattle.std.proofs.lemmas.Option.{same_Some, none-some}
use Rattle.pr_num.specs.ById.{under, change_under, map_each, without_id}
use Rattle.pr_num.proofs.ByIdLemmas.{rises_from-change_under, rises_from-map_each, rises_from-without_id}
use Rattle.pr_num.proofs.ByIdLaws.{All-under, All-change_under, All-map_each, All-without_id, under-change_under_other, under-map_each}
use Rattle.pr_num.proofs.SetLemmas.{has_number-zero}
use Rattle.pr_num.specs.Files.{with_all_closed}
use Rattle.pr_num.specs.Infos.{of_child}
use Rattle.pr_num.specs.declared.infos.Info.{Info}
use Rattle.pr_num.specs.declared.signals.Sig.{Sig}
use Rattle.pr_num.specs.declared.signals.Sig.TheVariants.{Cld, Kill}
use Rattle.pr_num.specs.Signals.{signal_number}
use Rattle.pr_file_laws.proofs.CountLemmas.{users-all_closed}
use Rattle.pr_file_laws.proofs.EndLemmas.{ends-all_closed}
use Rattle.pr_file_laws.proofs.UserLemmas.{IsFileTable-all_closed}
use Rattle.pr_model.specs.FirstState.{system_process}
use Rattle.pr_model.specs.Generation.{signalled}
use Rattle.pr_model.specs.Lawful.{IsLawfulLwp, IsLawfulProcess, IsNumberedBelow, HasParent, IsLawfulSystem}
use Rattle.pr_model.specs.Lives.{bare_process, orphaned, with_loans_passed, with_parent_signalled, without_lwp, zombie, with_this_ended, ended_if_live, with_ended, with_lwp_ended}
use Rattle.pr_model.specs.Machines.{nothing_set, zombie_control, traced}
use Rattle.pr_model.specs.Readers.{size_of, total_size}
use Rattle.pr_model.specs.Signals.{is_kill, generated, disposition_of}
use Rattle.pr_model.specs.State.{TracedProcess, TracedSystem, process_of, live_process, with_process}
use Rattle.pr_parts.specs.AddressSpaces.{LeavesHeapPlace}
use Rattle.pr_rec.specs.InRange.{IsInfo}
use Rattle.pr_lawful.proofs.ProcessParts.InfoLemmas.{no-infos}
use Rattle.pr_lawful.proofs.ProcessParts.LocalLemmas.{live-empty, StaysLawful, same_rest, same_lwps, lawful-lwps}
use Rattle.pr_lawful.proofs.LawfulTurns.LoanLemmas.{loans-lawful}
use Rattle.pr_lawful.proofs.ProcessParts.SignalLemmas.{MayReach, standard-pends, signalled-keeps}
use Rattle.pr_lawful.proofs.ProcessParts.SumLemmas.{sum-change_under, sum-map_each, count_in, all_users-sum, sizes-sum}
use Rattle.pr_lawful.proofs.ProcessParts.SystemLemmas.{lives, lives-live, parent-same, kept, descriptors-open}
use Rattle.pr_model.proofs.StateLemmas.{live_process-found, live_process-live}

-- What ends a process, or an lwp, leaves the system lawful.

-- ---- what is left of a process

zombie-lawful : (pid status : ℕ) (p : TracedProcess) → IsLawfulProcess (pid, zombie traced status p)
unfolding zombie bare_process traced zombie_control nothing_set disposition_of signal_number
zombie-lawful pid status p = record {
  has_lwps = record { some = λ user live. absurd (none-some status (sym live)) };
  empty_zombie = record {
    no_lwps = λ n is. refl;
    no_memory = λ n is. refl;
    no_loan = λ n is. refl;
    no_files = λ n is. refl;
  };
  rising = refl;
  lwps = All-nil (IsLawfulLwp 1);
  next_lwp = omega arith;
  few_lwps = omega arith;
  descriptors = refl;
  traced = has_number-zero (signal_number Kill);
  uncaught = record { kill = refl; stop = refl };
  pending = no-infos;
  heap_place = All-nil LeavesHeapPlace;
  small_space = omega arith;
}

-- a process whose parent has ended
orphaned-keeps : (gone : ℕ) (pid : ℕ) (x : TracedProcess) → IsLawfulProcess (pid, x)
    → IsLawfulProcess (pid, orphaned gone x)
unfolding orphaned
orphaned-keeps gone pid x h =
    elim (eqb x.parent gone) as (λ b. IsLawfulProcess (pid, cond b (record x { parent = 0 }) x)) [
      | true ↦ lawful-lwps pid x (record x { parent = 0 }) (same_rest x _ refl refl refl refl refl (λ it. it))
          (same_lwps x _ refl refl) refl refl h
      | false ↦ h
    ]

orphaned-size : (gone : ℕ) (x : TracedProcess) → size_of (orphaned gone x) ≡ size_of x
unfolding orphaned size_of
orphaned-size gone x =
    elim (eqb x.parent gone) as
    (λ b. size_of (cond b (record x { parent = 0 }) x) ≡ size_of x) [ true ↦ refl | false ↦ refl ]

orphaned-fds : (gone place : ℕ) (x : TracedProcess) → count_in place (orphaned gone x) ≡ count_in place x
unfolding orphaned
orphaned-fds gone place x =
    elim (eqb x.parent gone) as
    (λ b. count_in place (cond b (record x { parent = 0 }) x) ≡ count_in place x) [ true ↦ refl | false ↦ refl ]

orphaned-ended : (gone : ℕ) (x : TracedProcess) → (orphaned gone x).ended ≡ x.ended
unfolding orphaned
orphaned-ended gone x =
    elim (eqb x.parent gone) as
    (λ b. (cond b (record x { parent = 0 }) x).ended ≡ x.ended) [ true ↦ refl | false ↦ refl ]

orphaned-first : (gone : ℕ) → gone ≢ 0 → orphaned gone system_process ≡ system_process
unfolding orphaned system_process bare_process
orphaned-first gone user = rw (ne_eqb 0 gone (λ is. user (sym is))) refl

-- a process is an orphan, or its parent is another one than that which has ended
orphaned-parent : (s t : TracedSystem) (gone : ℕ)
    → ((other : ℕ) → gone ≢ other → lives (process_of s other) ≡ true → lives (process_of t other) ≡ true)
    → (e : ℕ × TracedProcess) → HasParent s e → HasParent t (e.0, orphaned gone e.1)
unfolding orphaned
orphaned-parent s t gone on e h =
    elim (eqb e.1.parent gone) as
    (λ b. eqb e.1.parent gone ≡ b → HasParent t (e.0, cond b (record e.1 { parent = 0 }) e.1)) [
      | true ↦ λ is. record { parent = inl refl }
      | false ↦ λ apart. record { parent = by h.parent apart }
    ] refl
  where
    by : (e.1.parent ≡ 0) ⊎ IsSome (live_process s e.1.parent) → eqb e.1.parent gone ≡ false
        → (e.1.parent ≡ 0) ⊎ IsSome (live_process t e.1.parent)
    by (inl first) apart = inl first
    by (inr live) apart =
        let other : gone ≢ e.1.parent = λ is. eqb-false e.1.parent gone apart (sym is) in
        inr (lives-live t e.1.parent ∙ on e.1.parent other (sym (lives-live s e.1.parent) ∙ live))

-- ---- a process ends

-- The system once a process is a zombie and its children are orphans, before what it borrowed or lent is passed on and
-- its own parent is told.
abbrev pub buried : ℕ → TracedProcess → ℕ → TracedSystem → TracedSystem
buried pid p status s = record s {
  files = with_all_closed s.files p.fds;
  processes = map_each (orphaned pid) (change_under pid (zombie traced status) s.processes);
}

zombie-size : (status : ℕ) (p : TracedProcess) → size_of (zombie traced status p) ≡ 0
unfolding zombie bare_process size_of
zombie-size status p = refl

zombie-count : (place status : ℕ) (p : TracedProcess) → count_in place (zombie traced status p) ≡ 0
unfolding zombie bare_process
zombie-count place status p = refl

zombie-parent : (status : ℕ) (p : TracedProcess) → (zombie traced status p).parent ≡ p.parent
unfolding zombie bare_process
zombie-parent status p = refl

still-lives : (es : List (ℕ × TracedProcess)) (pid status other : ℕ) → pid ≢ other
    → lives (under other (map_each (orphaned pid) (change_under pid (zombie traced status) es))) ≡ lives
    (under other es)
still-lives es pid status other apart =
    ap lives (under-map_each other (orphaned pid) (change_under pid (zombie traced status) es)
    ∙ ap (option_map (orphaned pid)) (under-change_under_other pid other (zombie traced status) apart es))
    ∙ by (under other es)
  where
    by : (o : Option TracedProcess) → lives (option_map (orphaned pid) o) ≡ lives o
    by None = refl
    by (Some x) = ap (λ (e : Option ℕ). is_none e) (orphaned-ended pid x)

buried-total : (s : TracedSystem) (pid : ℕ) (p : TracedProcess) (status : ℕ) → process_of s pid ≡ Some p
    → total_size (buried pid p status s) + size_of p ≡ total_size s
unfolding total_size
buried-total s pid p status found =
    let left : List (ℕ × TracedProcess) = change_under pid (zombie traced status) s.processes in
    let all = sum-change_under size_of pid (zombie traced status) p s.processes found in
    let orphans = sum-map_each size_of (orphaned pid) (orphaned-size pid) left in
    let none = zombie-size status p in
    let before = sizes-sum s.processes in
    let after = sizes-sum (map_each (orphaned pid) left) in
    omega arith

buried-lawful : (s : TracedSystem) (pid : ℕ) (p : TracedProcess) (status : ℕ) → IsLawfulSystem s → pid ≢ 0
    → process_of s pid ≡ Some p → IsLawfulSystem (buried pid p status s)
buried-lawful s pid p status h user found =
    let open_in = descriptors-open s pid p h found in
    let left : List (ℕ × TracedProcess) = change_under pid (zombie traced status) s.processes in
    let t = buried pid p status s in
    record {
      rising =
          rises_from-map_each 0 (orphaned pid) left ∙ rises_from-change_under 0 pid (zombie traced status) s.processes
          ∙ h.rising;
      numbered =
          All-map_each (IsNumberedBelow s.made) (IsNumberedBelow s.made) (orphaned pid)
          (λ e it. record { id = it.id }) left
          (All-change_under (IsNumberedBelow s.made) pid (zombie traced status) s.processes
          (λ x is it. record { id = it.id }) h.numbered);
      processes =
          All-map_each IsLawfulProcess IsLawfulProcess (orphaned pid) (λ e it. orphaned-keeps pid e.0 e.1 it) left
          (All-change_under IsLawfulProcess pid (zombie traced status) s.processes
          (λ x is it. zombie-lawful pid status x) h.processes);
      parents =
          All-map_each (HasParent s) (HasParent t) (orphaned pid)
          (orphaned-parent s t pid (λ other apart live. still-lives s.processes pid status other apart ∙ live)) left
          (All-change_under (HasParent s) pid (zombie traced status) s.processes
          (λ x is it. parent-same s pid x (zombie traced status x) (zombie-parent status x) it) h.parents);
      first =
          under-map_each 0 (orphaned pid) left
          ∙ ap (option_map (orphaned pid)) (under-change_under_other pid 0 (zombie traced status) user s.processes
          ∙ h.first)
          ∙ ap (λ (x : TracedProcess). Some x) (orphaned-first pid user);
      made = h.made;
      programs = h.programs;
      mapped = let freed = buried-total s pid p status found in let limit = h.mapped in omega arith;
      files = record {
        table = IsFileTable-all_closed s.files p.fds h.files.table;
        pipes = ends-all_closed s.files p.fds h.files.pipes;
        users = λ place.
            let all = sum-change_under (count_in place) pid (zombie traced status) p s.processes found in
            let orphans = sum-map_each (count_in place) (orphaned pid) (orphaned-fds pid place) left in
            let none = zombie-count place status p in
            let before = all_users-sum place s.processes in
            let after = all_users-sum place (map_each (orphaned pid) left) in
            let counted = h.files.users place in
            let here = users-all_closed s.files p.fds h.files.table open_in place in
            omega arith;
      };
    }

signalled-lawful : (parent pid status : ℕ) (s : TracedSystem) → IsInfo (of_child pid status) → IsLawfulSystem s
    → IsLawfulSystem (with_parent_signalled parent pid status s)
unfolding with_parent_signalled signal_number
signalled-lawful parent pid status s new h =
    elim (eqb parent 0) as
    (λ b. eqb parent 0 ≡ b → IsLawfulSystem
    (cond b s (with_process parent (signalled None Cld (of_child pid status)) s))) [
      | true ↦ λ is. h
      | false ↦ λ apart. kept s parent (signalled None Cld (of_child pid status)) (eqb-false parent 0 apart)
          (λ x found. signalled-keeps None Cld (of_child pid status) parent x
          (standard-pends x None Cld (of_child pid status) new refl)) h
    ] refl

-- a process's id is small, and so is one that comes with a signal
pub own-id : (s : TracedSystem) (pid : ℕ) (p : TracedProcess) → IsLawfulSystem s → process_of s pid ≡ Some p
    → pid < 2 ^ 32
own-id s pid p h found =
    let below = All-under (IsNumberedBelow s.made) pid p s.processes h.numbered found in
    let small = below.id in
    let made = h.made in
    omega arith

child-info : (s : TracedSystem) (pid : ℕ) (p : TracedProcess) (status : ℕ) → IsLawfulSystem s
    → process_of s pid ≡ Some p → IsInfo (of_child pid status)
child-info s pid p status h found = record { code = omega arith; pid = own-id s pid p h found }

-- a process that stands ends
pub ended-lawful : (s : TracedSystem) (pid : ℕ) (p : TracedProcess) (status : ℕ) → IsLawfulSystem s → pid ≢ 0
    → process_of s pid ≡ Some p → IsLawfulSystem (with_this_ended traced pid p status s)
unfolding with_this_ended
ended-lawful s pid p status h user found =
    let freed = buried-total s pid p status found in
    let limit = h.mapped in
    signalled-lawful p.parent pid status (with_loans_passed pid p (buried pid p status s))
    (child-info s pid p status h found)
    (loans-lawful (buried pid p status s) pid p (buried-lawful s pid p status h user found)
    (All-under IsLawfulProcess pid p s.processes h.processes found) (omega arith))

-- what a live process is, if there is one
pub found-live : (s : TracedSystem) (pid : ℕ) (p : TracedProcess) → live_process s pid ≡ Some p
    → (process_of s pid ≡ Some p) × (p.ended ≡ None)
found-live s pid p live = (live_process-found s pid p live, is_live p.ended (live_process-live s pid p live))
  where
    is_live : (o : Option ℕ) → is_none o ≡ true → o ≡ None
    is_live None is = refl
    is_live (Some status) is = cc

pub with_ended-lawful : (s : TracedSystem) (pid status : ℕ) → IsLawfulSystem s → pid ≢ 0
    → IsLawfulSystem (with_ended traced pid status s)
unfolding with_ended
with_ended-lawful s pid status h user = by (live_process s pid) refl
  where
    by : (o : Option TracedProcess) → live_process s pid ≡ o → IsLawfulSystem (ended_if_live traced pid status s o)
    by None is = h
    by (Some p) is = ended-lawful s pid p status h user (found-live s pid p is).0

-- a signal is generated, for another process than the system process, where it has room
pub generated-lawful : (s : TracedSystem) (pid : ℕ) (target : Option ℕ) (g : Sig) (info : Info)
    → MayReach s pid target g info → IsLawfulSystem s → pid ≢ 0 → IsLawfulSystem (generated traced pid target g info s)
unfolding generated
generated-lawful s pid target g info new h user =
    elim (is_kill g) as
    (λ b. IsLawfulSystem
    (cond b (with_ended traced pid (signal_number g) s) (with_process pid (signalled target g info) s))) [
      | true ↦ with_ended-lawful s pid (signal_number g) h user
      | false ↦ kept s pid (signalled target g info) user
          (λ x found. signalled-keeps target g info pid x (new.found x found)) h
    ]

-- ---- an lwp ends

length-without_id : {X : Type 0} (id : ℕ) (es : List (ℕ × X))
    → (length (without_id id es) ≤ length es) × (length es ≤ length (without_id id es) + 1)
length-without_id id [] = (omega arith, omega arith)
length-without_id id (e ∷ es) =
    let rest = length-without_id id es in
    let most = rest.0 in
    let least = rest.1 in
    elim (eqb e.0 id) as
    (λ b. (length (cond b es (e ∷ without_id id es)) ≤ suc (length es)) ×
    (suc (length es) ≤ length (cond b es (e ∷ without_id id es)) + 1))
    [ true ↦ (omega arith, omega arith) | false ↦ (omega arith, omega arith) ]

-- a live process that has another lwp keeps one
without_lwp-kept : (pid id : ℕ) (x : TracedProcess) → x.ended ≡ None → (length x.lwps ≡ 1 → ⊥)
    → StaysLawful pid x (without_lwp id x)
unfolding without_lwp
without_lwp-kept pid id x live more = record {
  lawful = λ h. record {
    has_lwps =
        record {
          some = λ user is. let one = h.has_lwps.some user is in let fewer =
              (length-without_id id x.lwps).1 in several (length x.lwps) (length (without_id id x.lwps)) one more fewer;
        };
    empty_zombie = live-empty (without_lwp id x) live;
    rising = rises_from-without_id 0 id x.lwps h.rising;
    lwps = All-without_id (IsLawfulLwp x.next_lwp) id x.lwps h.lwps;
    next_lwp = h.next_lwp;
    few_lwps = let fewer = (length-without_id id x.lwps).0 in let few = h.few_lwps in omega arith;
    descriptors = h.descriptors;
    traced = h.traced;
    uncaught = h.uncaught;
    pending = h.pending;
    heap_place = h.heap_place;
    small_space = h.small_space;
  };
  parent = refl;
  ended = refl;
  size = refl;
  fds = refl;
}
  where
    several : (n m : ℕ) → 0 < n → (n ≡ 1 → ⊥) → n ≤ m + 1 → 0 < m
    several n m some more fewer = omega arith

pub lwp_ended-lawful : (s : TracedSystem) (pid : ℕ) (p : TracedProcess) (id : ℕ) → IsLawfulSystem s → pid ≢ 0
    → process_of s pid ≡ Some p → p.ended ≡ None → IsLawfulSystem (with_lwp_ended traced pid p id s)
unfolding with_lwp_ended
lwp_ended-lawful s pid p id h user found live =
    elim (eqb (length p.lwps) 1) as
    (λ b. eqb (length p.lwps) 1 ≡ b → IsLawfulSystem
    (cond b (with_this_ended traced pid p 0 s) (with_process pid (without_lwp id) s))) [
      | true ↦ λ last. ended-lawful s pid p 0 h user found
      | false ↦ λ more. kept s pid (without_lwp id) user (λ x is. let same = same_Some p x (sym found
          ∙ is) in subst (λ y. StaysLawful pid y (without_lwp id y)) same
          (without_lwp-kept pid id p live (eqb-false (length p.lwps) 1 more))) h
    ] refl
