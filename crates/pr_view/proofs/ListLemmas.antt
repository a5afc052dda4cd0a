use Rattle.std.proofs.Common.{◌≡◌, ℕ, ◌+◌, ◌≤◌, eqb, Some, List, [], ◌∷◌, ◌++◌, length, drop, refl, sym, ap, ◌∙◌, append_assoc, inl, inr}
use Rattle.std.proofs.lemmas.Bool.{cases_Bool}
use Rattle.std.specs.List.{slice_get}
use Rattle.std.proofs.lemmas.List.{append-nil, drop_all}
use Rattle.pr_num.proofs.ListLemmas.{drop-at}
use Rattle.pr_model.specs.Records.{list_entries, statuses_of_lwps}
use Rattle.pr_model.specs.State.{TracedLwp, TracedProcess}
use Rattle.pr_model.specs.Statuses.{lwpstatus_of}
use Rattle.pr_slots.proofs.WalkLaws.{rest-all}
use Rattle.pr_slots.specs.Walks.{rest_from}
use Rattle.pr_rec.specs.declared.entries.ListEntry.{ListEntry}
use Rattle.pr_rec.specs.declared.lwps.LwpStatus.{LwpStatus}
use Rattle.pr_view.specs.Lists.{listed}

-- Walks over what stands by id.

-- ---- the status of each lwp

pub statuses-on : (p : TracedProcess) (lwps : List (ℕ × TracedLwp)) (i id : ℕ) (l : TracedLwp) (x : LwpStatus)
    (out more all : List LwpStatus) → slice_get lwps i ≡ Some (id, l) → x ≡ lwpstatus_of p id l → more ≡ out ++ x ∷ []
    → out ++ statuses_of_lwps p (drop i lwps) ≡ all → more ++ statuses_of_lwps p (drop (i + 1) lwps) ≡ all
statuses-on p lwps i id l x out more all at is added so_far =
    ap (λ xs. xs ++ statuses_of_lwps p (drop (i + 1) lwps)) (added ∙ ap (λ y. out ++ y ∷ []) is)
    ∙ append_assoc out (lwpstatus_of p id l ∷ []) (statuses_of_lwps p (drop (i + 1) lwps))
    ∙ sym (ap (λ es. out ++ statuses_of_lwps p es) (drop-at lwps i (id, l) at)) ∙ so_far

pub statuses-end : (p : TracedProcess) (lwps : List (ℕ × TracedLwp)) (i : ℕ) (out all : List LwpStatus)
    → length lwps ≤ i → out ++ statuses_of_lwps p (drop i lwps) ≡ all → out ≡ all
statuses-end p lwps i out all past so_far =
    sym (append-nil out) ∙ sym (ap (λ es. out ++ statuses_of_lwps p es) (drop_all i lwps past)) ∙ so_far

-- ---- the list of processes

pub listed-none : (out : List ListEntry) → out ≡ out ++ []
listed-none out = sym (append-nil out)

pub ruleset adding_laws = (listed-none)

listed-before : (es : List (ℕ × TracedProcess)) (pid : ℕ) (p : TracedProcess)
    → list_entries ((pid, p) ∷ es) ≡ listed pid p ++ list_entries es
unfolding listed
listed-before es pid p = elim (cases_Bool (eqb pid 0)) [ inl zeroth ↦ rw zeroth refl | inr other ↦ rw other refl ]

pub entries-start : (es : List (ℕ × TracedProcess)) (out : List ListEntry) → out ≡ []
    → out ++ list_entries (rest_from 0 es) ≡ list_entries es
entries-start es out empty =
    ap (λ xs. xs ++ list_entries (rest_from 0 es)) empty ∙ ap list_entries (rest-all es)

pub entries-on : (es ds : List (ℕ × TracedProcess)) (pid : ℕ) (p : TracedProcess) (out more all : List ListEntry)
    → es ≡ (pid, p) ∷ ds → more ≡ out ++ listed pid p → out ++ list_entries es ≡ all → more ++ list_entries ds ≡ all
entries-on es ds pid p out more all at added so_far =
    ap (λ xs. xs ++ list_entries ds) added
    ∙ append_assoc out (listed pid p) (list_entries ds)
    ∙ sym (ap (λ xs. out ++ xs) (ap list_entries at ∙ listed-before ds pid p))
    ∙ so_far

pub entries-end : (es : List (ℕ × TracedProcess)) (out all : List ListEntry) → es ≡ [] → out ++ list_entries es ≡ all
    → out ≡ all
entries-end es out all none so_far =
    sym (append-nil out) ∙ sym (ap (λ ds. out ++ list_entries ds) none) ∙ so_far

pub ruleset list_laws = (statuses-end, entries-end)
