use Rattle.std.proofs.Common.{◌≡◌, ◌≢◌, ◌⊎◌, ◌+◌, ◌<◌, List, [], ◌∷◌, ℕ, Bool, true, false, cond, eqb, Option, Some, None, IsSome, length, is_some, is_none, refl, sym, ap, ◌∙◌, arith, inl, inr}
use Rattle.std.specs.Option.{option_map}
use Rattle.std.proofs.lemmas.Bool.{cases_Bool, cases_eq, cases_lt, eq-eqb, ne_eqb}
use Rattle.std.proofs.lemmas.Option.{none-some, same_Some}
use Rattle.pr_num.specs.ById.{change_under, map_each, rises_from, under}
use Rattle.pr_num.proofs.ByIdLaws.{map_each-change_under, under-change_under, under-change_under_other, under-map_each}
use Rattle.pr_num.proofs.ByIdLemmas.{rises_from-tail}
use Rattle.pr_slots.proofs.WalkLaws.{change_under-idle}
use Rattle.pr_num.specs.Files.{with_all_closed}
use Rattle.pr_model.specs.Lives.{orphaned, with_ended, with_lender_of, with_loan_back, with_loans_passed, with_lwp_ended, with_parent_signalled, with_this_ended, zombie}
use Rattle.pr_model.specs.Machines.{traced}
use Rattle.pr_model.specs.State.{TracedSystem, TracedProcess, live_process, with_process, with_process_if}
use Rattle.pr_model.proofs.StateLemmas.{live_process-found, live_process-live}
use Rattle.pr_proc.specs.Marks.{HasNoChild, HasNoChildFrom}
use Rattle.pr_proc.proofs.FamilyLemmas.{tail-under}

-- Live processes.

-- a process of this id that has not ended is the live one
pub live_process-made : (s : TracedSystem) (pid : ℕ) (p : TracedProcess) → under pid s.processes ≡ Some p
    → is_none p.ended ≡ true → live_process s pid ≡ Some p
unfolding live_process
live_process-made s pid p found live = rw (found, live) refl

-- one that is live is found
live-some : (s : TracedSystem) (pid : ℕ) (o : Option TracedProcess) → live_process s pid ≡ o → IsSome o
    → IsSome (under pid s.processes)
live-some s pid None e some = absurd (cc)
live-some s pid (Some p) e some = ap is_some (live_process-found s pid p e)

pub live_process-under : (s : TracedSystem) (pid : ℕ) → IsSome (live_process s pid) → IsSome (under pid s.processes)
live_process-under s pid some = live-some s pid (live_process s pid) refl some

-- ---- orphans

-- one that is no child of a process that ends keeps its parent
pub orphaned-other : (parent : ℕ) (p : TracedProcess) → p.parent ≢ parent → orphaned parent p ≡ p
unfolding orphaned
orphaned-other parent p other = rw (ne_eqb p.parent parent other) refl

-- who is an orphan stays as it is
pub orphaned-twice : (parent : ℕ) (p : TracedProcess) → orphaned parent (orphaned parent p) ≡ orphaned parent p
unfolding orphaned
orphaned-twice parent p = by (cases_Bool (eqb p.parent parent))
  where
    again : (b : Bool) → cond b (record p { parent = 0 }) (record p { parent = 0 }) ≡ record p { parent = 0 }
    again true = refl
    again false = refl

    by : (eqb p.parent parent ≡ true) ⊎ (eqb p.parent parent ≡ false)
        → orphaned parent (orphaned parent p) ≡ orphaned parent p
    by (inl own) = rw own (again (eqb 0 parent))
    by (inr other) = rw (other, other) refl

module _ (parent : ℕ) where
  -- below an id every process is as it will be
  abbrev pub AreIdle : List (ℕ × TracedProcess) → ℕ → Type 0
  AreIdle es low = (id : ℕ) (p : TracedProcess) → under id es ≡ Some p → id < low → orphaned parent p ≡ p

  -- one that becomes an orphan now needs not become one later
  pub each-orphaned : (id : ℕ) (es : List (ℕ × TracedProcess)) → IsSome (under id es)
      → map_each (orphaned parent) (change_under id (orphaned parent) es) ≡ map_each (orphaned parent) es
  each-orphaned id es stands = by (under id es) refl stands
    where
      by : (o : Option TracedProcess) → under id es ≡ o → IsSome o
          → map_each (orphaned parent) (change_under id (orphaned parent) es) ≡ map_each (orphaned parent) es
      by None none some = absurd (cc)
      by (Some p) there some =
          map_each-change_under (orphaned parent) id (orphaned parent) (λ x. x) es (λ x found. orphaned-twice parent x)
          ∙ change_under-idle id (λ x. x) (orphaned parent p) (map_each (orphaned parent) es)
          (under-map_each id (orphaned parent) es ∙ ap (option_map (orphaned parent)) there) refl

  pub idle-next : (low id : ℕ) (es : List (ℕ × TracedProcess)) → AreIdle es low → HasNoChild parent low id es
      → AreIdle (change_under id (orphaned parent) es) (id + 1)
  idle-next low id es idle none other q there less = by (cases_eq id other) (under id es) refl
    where
      orphan : (o : Option TracedProcess) → option_map (orphaned parent) o ≡ Some q → orphaned parent q ≡ q
      orphan None is = absurd (none-some q is)
      orphan (Some p) is =
          let same : orphaned parent p ≡ q = same_Some (orphaned parent p) q is in
          ap (orphaned parent) (sym same) ∙ orphaned-twice parent p ∙ same

      apart_from : id ≢ other → under other es ≡ Some q → orphaned parent q ≡ q
      apart_from apart found =
          elim (cases_lt other low) [
            | inl before ↦ idle other q found before
            | inr behind ↦ orphaned-other parent q (none.each other q found refl behind (omega arith))
          ]

      by : (id ≡ other) ⊎ (id ≢ other) → (o : Option TracedProcess) → under id es ≡ o → orphaned parent q ≡ q
      by (inl same) o is =
          orphan (under id es)
          (sym (under-change_under id (orphaned parent) es)
          ∙ ap (λ n. under n (change_under id (orphaned parent) es)) same ∙ there)
      by (inr apart) o is =
          apart_from apart (sym (under-change_under_other id other (orphaned parent) apart es) ∙ there)

  -- where none is a child, all are as they will be
  all-idle : (k : ℕ) (es : List (ℕ × TracedProcess)) → rises_from k es ≡ true
      → ((id : ℕ) (p : TracedProcess) → under id es ≡ Some p → orphaned parent p ≡ p)
      → map_each (orphaned parent) es ≡ es
  all-idle k [] rises idle = refl
  all-idle k (e ∷ es) rises idle =
      let tail = rises_from-tail k e es rises in
      ap (λ (p : TracedProcess). (e.0, p) ∷ map_each (orphaned parent) es)
      (idle e.0 e.1 (rw (eq-eqb e.0 e.0 refl) refl))
      ∙ ap (λ (ds : List (ℕ × TracedProcess)). e ∷ ds)
      (all-idle (e.0 + 1) es tail (λ id p there. idle id p (tail-under e es id p tail there)))

  pub orphans-all : (low : ℕ) (es ds : List (ℕ × TracedProcess)) → rises_from 0 es ≡ true
      → map_each (orphaned parent) es ≡ map_each (orphaned parent) ds → AreIdle es low → HasNoChildFrom parent low es
      → es ≡ map_each (orphaned parent) ds
  orphans-all low es ds rises same idle none =
      sym (all-idle 0 es rises (λ id p there. elim (cases_lt id low) [
        | inl before ↦ idle id p there before
        | inr behind ↦ orphaned-other parent p (none.each id p there refl behind)
      ])) ∙ same

-- what a process that ends leaves, before what it borrowed or lent is passed on
abbrev left_by : ℕ → ℕ → TracedProcess → TracedSystem → TracedSystem
left_by pid status p s = record s {
  files = with_all_closed s.files p.fds;
  processes = map_each (orphaned pid) (change_under pid (zombie traced status) s.processes);
}

pub left-so : (s buried : TracedSystem) (pid status : ℕ) (p : TracedProcess) (es : List (ℕ × TracedProcess))
    → buried ≡ with_process pid (zombie traced status) (record s { files = with_all_closed s.files p.fds })
    → es ≡ map_each (orphaned pid) buried.processes → record buried { processes = es } ≡ left_by pid status p s
unfolding with_process
left-so s buried pid status p es is orphans = rw (orphans, is) refl

-- the end of a live process
with_ended-live : (s : TracedSystem) (pid status : ℕ) (p : TracedProcess) → live_process s pid ≡ Some p
    → with_parent_signalled p.parent pid status (with_loans_passed pid p (left_by pid status p s))
    ≡ with_ended traced pid status s
unfolding with_ended with_this_ended
with_ended-live s pid status p e = rw e refl

pub ended-so : (s left passed back new : TracedSystem) (pid status : ℕ) (p : TracedProcess)
    → live_process s pid ≡ Some p → left ≡ left_by pid status p s
    → passed ≡ with_process_if p.borrower (with_lender_of pid p) left
    → back ≡ with_process_if p.lender (with_loan_back pid p) passed
    → new ≡ with_parent_signalled p.parent pid status back → new ≡ with_ended traced pid status s
unfolding with_loans_passed
ended-so s left passed back new pid status p live leaves passes gives tells =
    let lender = passes ∙ ap (with_process_if p.borrower (with_lender_of pid p)) leaves in
    let loan = gives ∙ ap (with_process_if p.lender (with_loan_back pid p)) lender in
    tells ∙ ap (with_parent_signalled p.parent pid status) loan ∙ with_ended-live s pid status p live

-- the last lwp of a live process ends with it
pub with_lwp_ended-last : (s : TracedSystem) (pid id : ℕ) (p : TracedProcess) → live_process s pid ≡ Some p
    → length p.lwps ≡ 1 → with_ended traced pid 0 s ≡ with_lwp_ended traced pid p id s
unfolding with_ended with_lwp_ended
with_lwp_ended-last s pid id p live last = rw (live, last) refl

pub ruleset life_laws = (live_process-found, live_process-live, live_process-under)

pub ruleset last_lwp_laws = (with_lwp_ended-last)
