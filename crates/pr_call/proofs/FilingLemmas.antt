use Rattle.std.proofs.Common.{◌≡◌, ℕ, true, List, Option, Some, None, IsSome, subst, is_some, is_none, Result, Ok, Err, OnErr, [], ◌∷◌, refl, sym, ap, ◌∙◌}
use Rattle.std.specs.Option.{option_map}
use Rattle.std.proofs.lemmas.Option.{same_Some}
use Rattle.pr_num.specs.ById.{put_under, under}
use Rattle.pr_num.proofs.ByIdLaws.{change_under-change_under, put_under-found, put_under-same, under-change_under}
use Rattle.pr_num.specs.Files.{FileTable, Descriptors}
use Rattle.pr_num.specs.Spaces.{Space}
use Rattle.pr_model.specs.Changes as changes
use Rattle.pr_model.specs.Changes.{all_changed, changed, files_are, space_is, with_fds, with_space}
use Rattle.pr_model.specs.Machines.{traced}
use Rattle.pr_model.specs.State.{TracedLwp, TracedProcess, TracedSystem, live_process, with_process}
use Rattle.pr_lawful.proofs.Following.UseLemmas.{files-room-one}
use Rattle.pr_proc.proofs.LifeLemmas.{live_process-made}
use Rattle.pr_call.specs.Effects.{after_effect, outcome_of}
use Rattle.pr_call.specs.FileAnswers.{answer_meant, lacks_memory, refusal_meant, settled}
use Rattle.pr_call.specs.declared.answers.Refusal.{Refusal}
use Rattle.pr_model.proofs.StateLemmas.{live_process-found, live_process-live}

-- What calls on files make of the system.

-- a process that was written back is live if it was
pub live-put : (s : TracedSystem) (f : FileTable) (pid : ℕ) (q x : TracedProcess) → under pid s.processes ≡ Some q
    → x.ended ≡ q.ended → IsSome (live_process s pid)
    → IsSome (live_process (record s { files = f; processes = put_under pid x s.processes }) pid)
live-put s f pid q x found ended some = go (live_process s pid) refl some
  where
    there : under pid (put_under pid x s.processes) ≡ Some x
    there =
        ap (under pid) (put_under-found pid (λ _. x) q s.processes found)
        ∙ under-change_under pid (λ _. x) s.processes
        ∙ ap (option_map (λ _. x)) found

    go : (o : Option TracedProcess) → live_process s pid ≡ o → IsSome o
        → IsSome (live_process (record s { files = f; processes = put_under pid x s.processes }) pid)
    go None e none = absurd (cc)
    go (Some p) e is =
        let same : q ≡ p = same_Some q p (sym found ∙ live_process-found s pid p e) in
        let live : is_none x.ended ≡ true =
        ap is_none (ended ∙ ap (λ (y : TracedProcess). y.ended) same) ∙ live_process-live s pid p e in
        ap is_some
        (live_process-made (record s { files = f; processes = put_under pid x s.processes }) pid x there live)

-- the process that was found is the live one
pub found-live : (s : TracedSystem) (pid : ℕ) (q p : TracedProcess) → under pid s.processes ≡ Some q
    → live_process s pid ≡ Some p → q ≡ p
found-live s pid q p there found = same_Some q p (sym there ∙ live_process-found s pid p found)

module _ (s : TracedSystem) (pid : ℕ) (p : TracedProcess) (id : ℕ) (l : TracedLwp) (f : FileTable)
    (d : Descriptors) where
  -- nothing changed
  same-all : live_process s pid ≡ Some p → (m : Space) → f ≡ s.files → d ≡ p.fds → m ≡ p.space
      → record s { files = f; processes = put_under pid (record p { fds = d; space = m }) s.processes } ≡ s
  same-all found m same_files same_fds same_space =
      ap (λ t. record s { files = t; processes = put_under pid (record p { fds = d; space = m }) s.processes })
      same_files
      ∙ ap (λ (ds : Descriptors). record s { processes = put_under pid (record p { fds = ds; space = m }) s.processes })
      same_fds
      ∙ ap (λ (space : Space). record s { processes = put_under pid (record p { space = space }) s.processes })
      same_space
      ∙ ap (λ ps. record s { processes = ps }) (put_under-same pid p s.processes (live_process-found s pid p found))

  -- files and descriptors are others
  files-changed : live_process s pid ≡ Some p
      → record s { files = f; processes = put_under pid (record p { fds = d }) s.processes }
      ≡ all_changed traced pid p id l (files_are f d ∷ []) s
  unfolding all_changed changed with_process with_fds
  files-changed found =
      ap (λ ps. record s { files = f; processes = ps })
      (put_under-found pid (with_fds d) p s.processes (live_process-found s pid p found))

  files-settled : (answer : Result ℕ Refusal) → live_process s pid ≡ Some p → OnErr answer (f ≡ s.files)
      → OnErr answer (d ≡ p.fds)
      → settled pid p id l answer (record s { files = f; processes = put_under pid (record p { fds = d }) s.processes })
      ≡ after_effect pid p id l (answer_meant answer (files_are f d ∷ [])) s
  unfolding after_effect
  files-settled (Ok value) found ef ed = files-changed found
  files-settled (Err why) found ef ed =
      ap (after_effect pid p id l (refusal_meant why)) (same-all found p.space ef ed refl)

  -- so is the space
  both-changed : (m : Space) → live_process s pid ≡ Some p
      → record s { files = f; processes = put_under pid (record p { fds = d; space = m }) s.processes }
      ≡ all_changed traced pid p id l (files_are f d ∷ space_is m ∷ []) s
  unfolding all_changed changed with_process with_fds with_space
  both-changed m found =
      ap (λ ps. record s { files = f; processes = ps })
      (put_under-found pid (λ (x : TracedProcess). with_space m (with_fds d x)) p s.processes
      (live_process-found s pid p found)
      ∙ sym (change_under-change_under pid (with_fds d) (with_space m) s.processes))

  both-settled : (answer : Result ℕ Refusal) (m : Space) → live_process s pid ≡ Some p → OnErr answer (f ≡ s.files)
      → OnErr answer (d ≡ p.fds) → OnErr answer (m ≡ p.space)
      → settled pid p id l answer
      (record s { files = f; processes = put_under pid (record p { fds = d; space = m }) s.processes })
      ≡ after_effect pid p id l (answer_meant answer (files_are f d ∷ space_is m ∷ [])) s
  unfolding after_effect
  both-settled (Ok value) m found ef ed em = both-changed m found
  both-settled (Err why) m found ef ed em = ap (after_effect pid p id l (refusal_meant why)) (same-all found m ef ed em)

module _ (s : TracedSystem) (pid : ℕ) (p : TracedProcess) (id : ℕ) (l : TracedLwp) where
  -- the space alone
  space-changed : (m : Space) → live_process s pid ≡ Some p
      → record s { processes = put_under pid (record p { space = m }) s.processes }
      ≡ all_changed traced pid p id l (space_is m ∷ []) s
  unfolding all_changed changed with_process with_space
  space-changed m found =
      ap (λ ps. record s { processes = ps })
      (put_under-found pid (with_space m) p s.processes (live_process-found s pid p found))

  space-settled : (answer : Result ℕ Refusal) (m : Space) → live_process s pid ≡ Some p → OnErr answer (m ≡ p.space)
      → settled pid p id l answer (record s { processes = put_under pid (record p { space = m }) s.processes })
      ≡ after_effect pid p id l (answer_meant answer (space_is m ∷ [])) s
  unfolding after_effect
  space-settled (Ok value) m found em = space-changed m found
  space-settled (Err why) m found em =
      ap (after_effect pid p id l (refusal_meant why)) (same-all s pid p id l s.files p.fds found m refl refl em)

-- the call in the process that was found
module _ (s : TracedSystem) (pid : ℕ) (q p : TracedProcess) (id : ℕ) (l : TracedLwp) (answer : Result ℕ Refusal)
    (e : changes.Effect) where
  pub files-done : (f : FileTable) (d : Descriptors) → under pid s.processes ≡ Some q → live_process s pid ≡ Some p
      → (p.fds ≡ q.fds → p.space ≡ q.space → answer_meant answer (files_are f d ∷ []) ≡ e) → OnErr answer (f ≡ s.files)
      → OnErr answer (d ≡ q.fds)
      → settled pid p id l answer (record s { files = f; processes = put_under pid (record q { fds = d }) s.processes })
      ≡ after_effect pid p id l e s
  files-done f d there found effect ef ed =
      let same : q ≡ p = found-live s pid q p there found in
      ap (λ (x : TracedProcess).
      settled pid p id l answer
      (record s { files = f; processes = put_under pid (record x { fds = d }) s.processes })) same
      ∙ files-settled s pid p id l f d answer found ef (subst (λ (x : TracedProcess). OnErr answer (d ≡ x.fds)) same ed)
      ∙ ap (λ x. after_effect pid p id l x s)
      (effect (ap (λ (x : TracedProcess). x.fds) (sym same)) (ap (λ (x : TracedProcess). x.space) (sym same)))

  pub both-done : (f : FileTable) (d : Descriptors) (m : Space) → under pid s.processes ≡ Some q
      → live_process s pid ≡ Some p
      → (p.fds ≡ q.fds → p.space ≡ q.space → answer_meant answer (files_are f d ∷ space_is m ∷ []) ≡ e)
      → OnErr answer (f ≡ s.files) → OnErr answer (d ≡ q.fds) → OnErr answer (m ≡ q.space)
      → settled pid p id l answer
      (record s { files = f; processes = put_under pid (record q { fds = d; space = m }) s.processes })
      ≡ after_effect pid p id l e s
  both-done f d m there found effect ef ed em =
      let same : q ≡ p = found-live s pid q p there found in
      ap (λ (x : TracedProcess).
      settled pid p id l answer
      (record s { files = f; processes = put_under pid (record x { fds = d; space = m }) s.processes })) same
      ∙ both-settled s pid p id l f d answer m found ef
      (subst (λ (x : TracedProcess). OnErr answer (d ≡ x.fds)) same ed)
      (subst (λ (x : TracedProcess). OnErr answer (m ≡ x.space)) same em)
      ∙ ap (λ x. after_effect pid p id l x s)
      (effect (ap (λ (x : TracedProcess). x.fds) (sym same)) (ap (λ (x : TracedProcess). x.space) (sym same)))

  pub space-done : (m : Space) → under pid s.processes ≡ Some q → live_process s pid ≡ Some p
      → (p.fds ≡ q.fds → p.space ≡ q.space → answer_meant answer (space_is m ∷ []) ≡ e) → OnErr answer (m ≡ q.space)
      → settled pid p id l answer (record s { processes = put_under pid (record q { space = m }) s.processes })
      ≡ after_effect pid p id l e s
  space-done m there found effect em =
      let same : q ≡ p = found-live s pid q p there found in
      ap (λ (x : TracedProcess).
      settled pid p id l answer (record s { processes = put_under pid (record x { space = m }) s.processes })) same
      ∙ space-settled s pid p id l answer m found (subst (λ (x : TracedProcess). OnErr answer (m ≡ x.space)) same em)
      ∙ ap (λ x. after_effect pid p id l x s)
      (effect (ap (λ (x : TracedProcess). x.fds) (sym same)) (ap (λ (x : TracedProcess). x.space) (sym same)))

-- where memory ran out nothing changed
pub files-kept : (s : TracedSystem) (pid : ℕ) (q : TracedProcess) (answer : Result ℕ Refusal) (f : FileTable)
    → under pid s.processes ≡ Some q → lacks_memory answer ≡ true → OnErr answer (f ≡ s.files)
    → record s { files = f; processes = put_under pid q s.processes } ≡ s
files-kept s pid q (Ok value) f there lacks ef = absurd (cc)
files-kept s pid q (Err why) f there lacks ef =
    ap (λ t. record s { files = t; processes = put_under pid q s.processes }) ef
    ∙ ap (λ ps. record s { processes = ps }) (put_under-same pid q s.processes there)

-- the outcome of a call does not depend on what it changes
outcome-same : (answer : Result ℕ Refusal) (cs : List changes.Change)
    → outcome_of (answer_meant answer []) ≡ outcome_of (answer_meant answer cs)
outcome-same (Ok value) cs = refl
outcome-same (Err why) cs = refl

pub done-outcome : (s : TracedSystem) (pid : ℕ) (q p : TracedProcess) (answer : Result ℕ Refusal) (e : changes.Effect)
    (cs : List changes.Change) → under pid s.processes ≡ Some q → live_process s pid ≡ Some p
    → (p.fds ≡ q.fds → p.space ≡ q.space → answer_meant answer cs ≡ e)
    → outcome_of (answer_meant answer []) ≡ outcome_of e
done-outcome s pid q p answer e cs there found effect =
    let same : q ≡ p = found-live s pid q p there found in
    outcome-same answer cs
    ∙ ap outcome_of
    (effect (ap (λ (x : TracedProcess). x.fds) (sym same)) (ap (λ (x : TracedProcess). x.space) (sym same)))

-- where memory ran out nothing changed
lacking-err : (answer : Result ℕ Refusal) (X : Type 0) → lacks_memory answer ≡ true → OnErr answer X → X
lacking-err (Ok value) X lacks here = absurd (cc)
lacking-err (Err why) X lacks here = here

pub lacking-kept : (s : TracedSystem) (pid : ℕ) (q : TracedProcess) (answer : Result ℕ Refusal) (f : FileTable)
    (d : Descriptors) (m : Space) → lacks_memory answer ≡ true → under pid s.processes ≡ Some q
    → OnErr answer (f ≡ s.files) → OnErr answer (d ≡ q.fds) → OnErr answer (m ≡ q.space)
    → record s { files = f; processes = put_under pid (record q { fds = d; space = m }) s.processes } ≡ s
lacking-kept s pid q answer f d m lacks there ef ed em =
    ap (λ (t : FileTable).
    record s { files = t; processes = put_under pid (record q { fds = d; space = m }) s.processes })
    (lacking-err answer (f ≡ s.files) lacks ef)
    ∙ ap (λ (ds : Descriptors). record s { processes = put_under pid (record q { fds = ds; space = m }) s.processes })
    (lacking-err answer (d ≡ q.fds) lacks ed)
    ∙ ap (λ (space : Space). record s { processes = put_under pid (record q { space = space }) s.processes })
    (lacking-err answer (m ≡ q.space) lacks em)
    ∙ ap (λ ps. record s { processes = ps }) (put_under-same pid q s.processes there)

pub ruleset rooms = (files-room-one)

-- what stays the same does so after a refusal
pub on_err_refl : {X : Type 0} (answer : Result ℕ Refusal) (x : X) → OnErr answer (x ≡ x)
on_err_refl (Ok value) x = tt
on_err_refl (Err why) x = refl

-- what holds anyway holds where there is an error
pub on_err : {X Y P : Type 0} (r : Result X Y) → P → OnErr r P
on_err (Ok x) holds = tt
on_err (Err y) holds = holds
