use Rattle.std.proofs.Common.{◌≡◌, ℕ, List, [], ◌∷◌, Option, Some, refl, sym, ap, ◌∙◌}
use Rattle.std.proofs.lemmas.Bool.{eq-eqb}
use Rattle.std.proofs.lemmas.Option.{same_Some}
use Rattle.pr_num.specs.ById.{change_under, put_under, under}
use Rattle.pr_num.specs.Programs.{Program}
use Rattle.pr_num.specs.Spaces.{Space}
use Rattle.pr_num.proofs.ByIdLaws.{put_under-found}
use Rattle.pr_model.specs.Lives.{with_loan_back, with_program}
use Rattle.pr_model.specs.Machines.{traced}
use Rattle.pr_model.specs.State.{TracedLwp, TracedProcess, TracedSystem, live_process, lwp_of, with_process, with_process_if}
use Rattle.pr_model.proofs.StateLemmas.{live_process-found}

-- A process that runs another program.

-- ---- what stands alone under an id

pub put_under-alone : {X : Type 0} (id : ℕ) (w x : X) → put_under id w ((id, x) ∷ []) ≡ (id, w) ∷ []
put_under-alone id w x = rw (eq-eqb id id refl) refl

pub under-alone : {X : Type 0} (id : ℕ) (x : X) → under id ((id, x) ∷ []) ≡ Some x
under-alone id x = rw (eq-eqb id id refl) refl

-- two steps that agree on the process that stands change the processes alike
pub run-changed : (pid id : ℕ) (q p new : TracedProcess) (l : TracedLwp) (program : Program)
    (es : List (ℕ × TracedProcess)) → under pid es ≡ Some q → under pid es ≡ Some p → lwp_of p id ≡ Some l
    → ((m : TracedLwp) → lwp_of q id ≡ Some m → new ≡ with_program traced id m program q)
    → put_under pid new es ≡ change_under pid (with_program traced id l program) es
run-changed pid id q p new l program es stands found own step =
    let same : p ≡ q = same_Some p q (sym found ∙ stands) in
    let mine : lwp_of q id ≡ Some l = rw (← same) own in
    ap (λ w. put_under pid w es) (step l mine) ∙ put_under-found pid (with_program traced id l program) q es stands

-- so the system is the one in which the process runs the program
pub exec-run : (s : TracedSystem) (pid id : ℕ) (p : TracedProcess) (l : TracedLwp) (o : Option Program) (g h : Program)
    (es : List (ℕ × TracedProcess)) → live_process s pid ≡ Some p → lwp_of p id ≡ Some l → o ≡ Some g → o ≡ Some h
    → ((q : TracedProcess) → under pid s.processes ≡ Some q → (m : TracedLwp) → lwp_of q id ≡ Some m
    → es ≡ change_under pid (with_program traced id m h) s.processes)
    → record s { processes = es } ≡ with_process pid (with_program traced id l g) s
unfolding with_process
exec-run s pid id p l o g h es live own given taken step =
    let same : g ≡ h = same_Some g h (sym given ∙ taken) in
    rw same (ap (λ (ds : List (ℕ × TracedProcess)). record s { processes = ds })
    (step p (live_process-found s pid p live) l own))

-- and what it borrowed goes back
pub exec-back : (s left new : TracedSystem) (pid : ℕ) (p q : TracedProcess) (space : Space)
    → live_process s pid ≡ Some q → live_process s pid ≡ Some p
    → ((x : TracedProcess) → under pid s.processes ≡ Some x → space ≡ x.space)
    → ((x : TracedProcess) → x.space ≡ space → x.borrower ≡ q.borrower
    → new ≡ with_process_if q.lender (with_loan_back pid x) left)
    → new ≡ with_process_if p.lender (with_loan_back pid p) left
exec-back s left new pid p q space taken live had back =
    let same : q ≡ p = same_Some q p (sym taken ∙ live) in
    let memory = had p (live_process-found s pid p live) in
    back p (sym memory) (ap (λ (x : TracedProcess). x.borrower) (sym same))
    ∙ ap (λ (x : TracedProcess). with_process_if x.lender (with_loan_back pid p) left) same

pub ruleset exec_laws = (put_under-alone, under-alone)
