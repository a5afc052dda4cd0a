use Rattle.std.proofs.Common.{◌≡◌, ℕ, Bool, true, false, List, Some, cond, refl, sym, subst, ◌∙◌}
use Rattle.std.specs.List.{All}
use Rattle.std.proofs.lemmas.Option.{same_Some}
use Rattle.pr_num.specs.ById.{under, change_under}
use Rattle.pr_num.proofs.ByIdLaws.{All-change_under}
use Rattle.pr_num.specs.declared.messages.Message.{Message}
use Rattle.pr_model.specs.State.{TracedLwp, TracedProcess}
use Rattle.pr_keeps.specs.LwpEdits as lwp
use Rattle.pr_keeps.specs.LwpEdits.{LwpEdit, LwpEdits}
use Rattle.pr_keeps.specs.ProcessEdits as process
use Rattle.pr_keeps.specs.ProcessEdits.{ProcessEdit, ProcessEdits}

-- What each edit keeps, all keep.

-- one of two, each where its test says so
pub choice : {X : Type 0} (P : X → Type 0) (b : Bool) (x y : X) → (b ≡ true → P x) → (b ≡ false → P y) → P (cond b x y)
choice P true x y one other = one refl
choice P false x y one other = other refl

pub lwp-edits-keep : (m : Message) (P : TracedLwp → Type 0) → ((l k : TracedLwp) → LwpEdit m l k → P l → P k)
    → (l k : TracedLwp) → LwpEdits m l k → P l → P k
lwp-edits-keep m P keeps l k lwp.as_it_is h = h
lwp-edits-keep m P keeps l k (lwp.then_edit {k = j} edits e) h = keeps j k e (lwp-edits-keep m P keeps l j edits h)

pub process-edits-keep : (m : Message) (tail : List ℕ) (P : TracedProcess → Type 0)
    → ((x y : TracedProcess) → ProcessEdit m tail x y → P x → P y) → (x y : TracedProcess) → ProcessEdits m tail x y
    → P x → P y
process-edits-keep m tail P keeps x y process.as_it_is h = h
process-edits-keep m tail P keeps x y (process.then_edit {y = z} edits e) h =
    keeps z y e (process-edits-keep m tail P keeps x z edits h)

-- what holds of a process before each edit and after it, and goes on from one edit to the next, holds of all
pub process-edits-relate : (m : Message) (tail : List ℕ) (R : TracedProcess → TracedProcess → Type 0)
    → ((x : TracedProcess) → R x x) → ((x y z : TracedProcess) → R x y → R y z → R x z)
    → ((x y : TracedProcess) → ProcessEdit m tail x y → R x y)
    → (x y : TracedProcess) → ProcessEdits m tail x y → R x y
process-edits-relate m tail R same next relates x y edits =
    process-edits-keep m tail (R x) (λ z w e before. next x z w before (relates z w e)) x y edits (same x)

-- what is so of each process stays so where one of them is another
pub all-replaced : {X : Type 0} (P : ℕ × X → Type 0) (id : ℕ) (f : X → X) (x : X) (es : List (ℕ × X))
    → under id es ≡ Some x → (P (id, x) → P (id, f x)) → All P es → All P (change_under id f es)
all-replaced {X} P id f x es found keeps all =
    All-change_under P id f es (λ y there it.
    let same = same_Some x y (sym found ∙ there) in
    subst (λ (z : X). P (id, f z)) same (keeps (subst (λ (z : X). P (id, z)) (sym same) it))) all
