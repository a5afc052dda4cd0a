use Rattle.std.proofs.Common.{◌≡◌, ◌≢◌, ◌<◌, ◌≤◌, ◌+◌, ◌⊎◌, ◌++◌, ℕ, zero, suc, true, false, None, List, [], ◌∷◌, length, refl, sym, subst, ap, ◌∙◌, inl, inr, arith}
use Rattle.std.proofs.lemmas.Bool.{cases_eq, cases_lt}
use Rattle.std.proofs.lemmas.List.{get_or-set_other, get_or_append_left, length-append, length-set}
use Rattle.std.proofs.lemmas.List.Edits.{get_or-remove_above, get_or-remove_below, length-remove}
use Rattle.std.specs.List.{remove, slice_set}
use Rattle.pr_model.specs.Replies.{handle_in}
use Rattle.pr_model.specs.declared.calls.Reply.{Reply}
use Rattle.pr_truss.specs.FunctionFeeding.{fed_functions}
use Rattle.pr_truss.specs.Marks.{has_functions}
use Rattle.pr_truss.specs.Processes.{newly_traced, without_last}
use Rattle.pr_truss.specs.Replies.{answer_of}
use Rattle.pr_truss.specs.Trusses.{TrussState, nobody, traced_at}
use Rattle.pr_truss.specs.declared.asides.Aside.{Aside}
use Rattle.pr_truss.specs.declared.asides.Aside.TheVariants.{Nothing}
use Rattle.pr_truss.specs.declared.processes.Traced.{Traced}
use Rattle.pr_truss.specs.declared.replies.Answer.TheVariants.{Interrupted}
use Rattle.pr_truss.specs.declared.stages.AfterClosing.{AfterClosing}
use Rattle.pr_truss.specs.declared.stages.Stage.{Stage}
use Rattle.pr_truss.specs.declared.stages.Stage.TheVariants.{Closing}
use Rattle.pr_truss_laws.proofs.Files.HeldLemmas.{at_place, set-at}
use Rattle.pr_function_hides.proofs.Replies.FunctionSteps.{Edits, Makes, becomes, become-pid, fed-makes, keeps, makes, opens, removes}
use Rattle.pr_function_hides.proofs.Replies.OwnFiles.{IsBeside, IsWithin}

-- Each process that truss traces it traces still after a reply, until it has closed the last file of it.

-- ---- processes of a list

-- a process stands in a list
pub record IsIn (pid : ℕ) (ts : List Traced) : Type 0 where
  pub place : ℕ
  pub within : place < length ts
  pub own : (at_place ts place).pid ≡ pid

abbrev pub AllStay : List Traced → List Traced → Type 0
AllStay ts us = (i : ℕ) → i < length ts → IsIn (at_place ts i).pid us

self-stay : (ts : List Traced) → AllStay ts ts
self-stay ts i within = record { place = i; within = within; own = refl }

set-stay : (ts : List Traced) (q : ℕ) (v : Traced) → q < length ts → v.pid ≡ (at_place ts q).pid
    → AllStay ts (slice_set ts q v)
set-stay ts q v inside same i within = record {
  place = i;
  within = subst (λ n. i < n) (sym (length-set ts q v)) within;
  own = elim (cases_eq i q) [
    | inl is ↦
        ap (λ (x : Traced). x.pid) (ap (at_place (slice_set ts q v)) is ∙ set-at ts q v inside)
        ∙ same ∙ ap (λ n. (at_place ts n).pid) (sym is)
    | inr apart ↦ ap (λ (x : Traced). x.pid) (get_or-set_other ts q i v nobody apart)
  ];
}

append-stay : (ts : List Traced) (v : Traced) → AllStay ts (ts ++ v ∷ [])
append-stay ts v i within = record {
  place = i;
  within = omega (arith, within, length-append ts (v ∷ []));
  own = ap (λ (x : Traced). x.pid) (get_or_append_left ts (v ∷ []) nobody i within);
}

remove-stay : (ts : List Traced) (q : ℕ) → q < length ts → (i : ℕ) → i < length ts → i ≢ q
    → IsIn (at_place ts i).pid (remove ts q)
remove-stay ts q inside i within apart = elim (cases_lt i q) [
  | inl below ↦ record {
    place = i;
    within = omega (arith, below, inside, length-remove ts q inside);
    own = ap (λ (x : Traced). x.pid) (get_or-remove_below ts q nobody i below inside);
  }
  | inr above ↦ behind i within apart above
]
  where
    behind : (i : ℕ) → i < length ts → i ≢ q → q ≤ i → IsIn (at_place ts i).pid (remove ts q)
    behind zero within apart above = absurd (apart (omega (arith, above)))
    behind (suc j) within apart above = record {
      place = j;
      within = omega (arith, within, length-remove ts q inside);
      own =
          ap (λ (x : Traced). x.pid)
          (get_or-remove_above ts q nobody j (omega (arith, above, apart)) inside
          ∙ ap (at_place ts) (let e : j + 1 ≡ suc j = omega arith in e));
    }

-- ---- the replies

-- each stays, but for one whose last file is closed
pub record LosesLast (t : TrussState) (i : ℕ) : Type 0 where
  pub next : AfterClosing
  pub closes : t.stage ≡ Closing i next
  pub idle : t.aside ≡ Nothing
  pub last : without_last (traced_at t i) ≡ None

abbrev pub StaysOrLoses : TrussState → List Traced → Type 0
StaysOrLoses t us = (i : ℕ) → i < length t.traced → IsIn (traced_at t i).pid us ⊎ LosesLast t i

module _ (t : TrussState) (r : Reply) where
  edits-stay : (aside : Aside) (stage : Stage) (us : List Traced) → t.aside ≡ aside → t.stage ≡ stage
      → Edits t r aside stage us → StaysOrLoses t us
  edits-stay aside stage us idle at (keeps fits) i within = inl (self-stay t.traced i within)
  edits-stay aside stage us idle at (becomes {q = q} {u = u} inside it) i within =
      inl (set-stay t.traced q u inside (become-pid t r aside stage q u it) i within)
  edits-stay aside stage us idle at (opens {pid = pid} accepted) i within =
      inl (append-stay t.traced (newly_traced pid (handle_in r)) i within)
  edits-stay aside stage us idle at (removes {q = q} {next = next} inside none) i within = elim (cases_eq i q) [
    | inl here ↦ inr (record {
      next = next;
      closes = at ∙ ap (λ n. Closing n next) (sym here);
      idle = idle;
      last = ap (λ n. without_last (traced_at t n)) here ∙ none;
    })
    | inr apart ↦ inl (remove-stay t.traced q inside i within apart)
  ]

  steps-stay : (v : TrussState) → Makes t r t.aside t.stage v → StaysOrLoses t v.traced
  steps-stay v (makes {us = us} edits before s) =
      subst (StaysOrLoses t) (sym s.traced) (edits-stay t.aside t.stage us refl refl edits)

  pub places-stay : t.leaving ≡ false → t.options.follow ≡ false → IsWithin (length t.traced) t.stage
      → IsBeside (length t.traced) t.aside → answer_of r ≢ Interrupted → has_functions t.options ≡ true
      → StaysOrLoses t (fed_functions t r).traced
  places-stay off follow at_stage at_aside calm has =
      steps-stay (fed_functions t r) (fed-makes t r off follow at_stage at_aside calm has)
