use Rattle.std.proofs.Common.{◌≡◌, ◌≢◌, ℕ, Bool, true, false, cond, Option, Some, None, refl, sym, subst, ◌∙◌, ap, arith, inl, inr}
use Rattle.std.proofs.lemmas.Bool.{eqb-false, cases_eq, true≢false}
use Rattle.std.proofs.lemmas.Option.{none-some}
use Rattle.pr_num.specs.ById.{IsRising}
use Rattle.pr_num.specs.Files.{FileTable}
use Rattle.pr_num.proofs.ByIdLaws.{under-change_under_other, under-inserted_other, under-without_id, under-without_id_other}
use Rattle.pr_model.specs.Lives.{is_id, with_made, with_reaped}
use Rattle.pr_model.specs.Readers.{children_of}
use Rattle.pr_model.specs.State.{TracedProcess, TracedSystem, process_of, with_process, with_process_if}
use Rattle.pr_lawful.proofs.LawfulTurns.SuitingLemmas.{SuitsReaped}
use Rattle.pr_ready_laws.specs.Left.{IsLeft}
use Rattle.pr_ready_laws.proofs.ChildLemmas.{KeepsFamily, children-apart, children-changed, children-inserted, children-reaped}

-- What changes of other processes leave of one.

module _ (pid : ℕ) (files clock : Bool) where
  abbrev pub Leaves : TracedSystem → TracedSystem → Type 0
  Leaves s u = IsLeft pid files clock s u

  -- where the list has the same process there
  same-process : (s u : TracedSystem) → process_of u pid ≡ process_of s pid → (q : TracedProcess)
      → process_of u pid ≡ Some q
      → (p : TracedProcess) × ((process_of s pid ≡ Some p) × (q ≡ record p { parent = q.parent }))
  same-process s u same q there = (q, (sym same ∙ there, refl))

  pub leaves-self : (s : TracedSystem) → Leaves s s
  leaves-self s = record {
    process = λ q there live. (q, (there, refl));
    children = λ all. all;
    same_files = λ none. refl;
    same_clock = λ none. refl;
    goes_on = omega arith;
  }

  pub leaves-next : (s u v : TracedSystem) → Leaves s u → Leaves u v → Leaves s v
  leaves-next s u v one two = record {
    process = λ q there live. from q live (two.process q there live);
    children = λ all. two.children (one.children all);
    same_files = λ none. two.same_files none ∙ one.same_files none;
    same_clock = λ none. two.same_clock none ∙ one.same_clock none;
    goes_on = omega (arith, one.goes_on, two.goes_on);
  }
    where
      to : (q r : TracedProcess) → q ≡ record r { parent = q.parent }
          → (p : TracedProcess) × ((process_of s pid ≡ Some p) × (r ≡ record p { parent = r.parent }))
          → (p : TracedProcess) × ((process_of s pid ≡ Some p) × (q ≡ record p { parent = q.parent }))
      to q r later (p, (there, same)) =
          (p, (there, later ∙ ap (λ (x : TracedProcess). record x { parent = q.parent }) same))

      from : (q : TracedProcess) → q.ended ≡ None
          → (r : TracedProcess) × ((process_of u pid ≡ Some r) × (q ≡ record r { parent = q.parent }))
          → (p : TracedProcess) × ((process_of s pid ≡ Some p) × (q ≡ record p { parent = q.parent }))
      from q live (r, (there, same)) =
          to q r same (one.process r there (sym (ap (λ (x : TracedProcess). x.ended) same) ∙ live))

  pub leaves-either : (b : Bool) (s u v : TracedSystem) → Leaves s u → Leaves s v → Leaves s (cond b u v)
  leaves-either true s u v one other = one
  leaves-either false s u v one other = other

  -- another process is changed, and keeps its parent and its end
  pub leaves-other : (other : ℕ) (f : TracedProcess → TracedProcess) (s : TracedSystem) → other ≢ pid → KeepsFamily f
      → Leaves s (with_process other f s)
  unfolding with_process children_of
  leaves-other other f s differs keeps = record {
    process = λ q there live.
        same-process s (with_process other f s) (under-change_under_other other pid f differs s.processes) q there;
    children = λ all. children-changed pid other f keeps s.processes ∙ all;
    same_files = λ none. refl;
    same_clock = λ none. refl;
    goes_on = omega arith;
  }

  -- another process is changed that is no child, before or later
  pub leaves-apart : (other : ℕ) (f : TracedProcess → TracedProcess) (x : TracedProcess) (s : TracedSystem)
      → process_of s other ≡ Some x → other ≢ pid → x.parent ≢ pid → (f x).parent ≢ pid
      → Leaves s (with_process other f s)
  unfolding with_process children_of
  leaves-apart other f x s found differs before later = record {
    process = λ q there live.
        same-process s (with_process other f s) (under-change_under_other other pid f differs s.processes) q there;
    children = λ all. children-apart pid other f x s.processes found before later ∙ all;
    same_files = λ none. refl;
    same_clock = λ none. refl;
    goes_on = omega arith;
  }

  pub leaves-other_if : (o : Option ℕ) (f : TracedProcess → TracedProcess) (s : TracedSystem) → is_id pid o ≡ false
      → KeepsFamily f → Leaves s (with_process_if o f s)
  leaves-other_if None f s differs keeps = leaves-self s
  leaves-other_if (Some other) f s differs keeps = leaves-other other f s (eqb-false other pid differs) keeps

  -- other files
  pub leaves-files : (t : FileTable) (s : TracedSystem) → files ≡ true → Leaves s (record s { files = t })
  unfolding children_of
  leaves-files t s may = record {
    process = λ q there live. (q, (there, refl));
    children = λ all. all;
    same_files = λ none. absurd (true≢false (sym may ∙ none));
    same_clock = λ none. refl;
    goes_on = omega arith;
  }

  -- another process is made
  pub leaves-made : (p : TracedProcess) (s : TracedSystem) → s.made ≢ pid → p.ended ≡ None
      → Leaves s (with_made p s)
  unfolding with_made children_of
  leaves-made p s new live = record {
    process = λ q there lives.
        same-process s (with_made p s) (under-inserted_other s.made pid p new s.processes) q there;
    children = children-inserted pid s.made p live s.processes;
    same_files = λ none. refl;
    same_clock = λ none. refl;
    goes_on = omega arith;
  }

  -- a zombie is reaped
  pub leaves-reaped : (child : ℕ) (s : TracedSystem) → IsRising s.processes → SuitsReaped s child
      → Leaves s (with_reaped child s)
  unfolding with_reaped children_of
  leaves-reaped child s rising suits = record {
    process = λ q there live. by q there;
    children = children-reaped pid child suits.status suits.zombie suits.over s.processes suits.found;
    same_files = λ none. refl;
    same_clock = λ none. refl;
    goes_on = omega arith;
  }
    where
      by : (q : TracedProcess) → process_of (with_reaped child s) pid ≡ Some q
          → (p : TracedProcess) × ((process_of s pid ≡ Some p) × (q ≡ record p { parent = q.parent }))
      by q there =
          elim (cases_eq child pid) [
            | inl same ↦ absurd
                (none-some q (sym (under-without_id 0 pid s.processes rising)
                ∙ subst (λ n. process_of (with_reaped n s) pid ≡ Some q) same there))
            | inr apart ↦ same-process s (with_reaped child s) (under-without_id_other child pid apart s.processes) q
                there
          ]
