use Rattle.std.proofs.Common.{◌≡◌, ◌≢◌, ℕ, suc, zero, ◌+◌, ◌-◌, ◌<◌, ltb, eqb, Option, Some, None, IsSome, is_some, List, [], ◌∷◌, ◌++◌, length, take, refl, sym, ap, ◌∙◌, arith, inl, inr}
use Rattle.std.specs.List.{slice_get}
use Rattle.std.proofs.lemmas.Bool.{cases_Bool, eq-eqb, ltb-true, ne_eqb}
use Rattle.std.proofs.lemmas.Option.{same_Some, none-some}
use Rattle.pr_num.specs.ById.{change_under, inserted, put_under, under}
use Rattle.pr_num.proofs.ByIdLaws.{put_under-found, under-inserted, under-inserted_other}
use Rattle.pr_model.specs.Changes.{with_fds, with_space}
use Rattle.pr_model.specs.Lives.{Birth, by_fork, by_vfork, forked, lent_to, with_child, with_made}
use Rattle.pr_model.specs.Machines.{traced}
use Rattle.pr_model.specs.State.{TracedLwp, TracedProcess, TracedSystem, live_process, lwp_of, process_of, with_process}
use Rattle.pr_model.specs.Statuses.{arguments_in}
use Rattle.pr_num.specs.Files.{Descriptors}
use Rattle.pr_num.specs.Spaces.{Space}
use Rattle.pr_parts.specs.FileCalls.{with_all_shared}
use Rattle.pr_proc.specs.Forks.{bare_child, with_loan}
use Rattle.pr_model.proofs.StateLemmas.{live_process-found}

-- What a forked child is made of.

some-within : {X : Type 0} (xs : List X) (i : ℕ) → i < length xs → slice_get xs i ≡ None → ⊥
some-within [] i within e = absurd (omega arith)
some-within (x ∷ xs) zero within e = cc
some-within (x ∷ xs) (suc i) within e = some-within xs i (omega arith) e

-- ---- frames, of which the last is taken off and put back

last-at : {X : Type 0} (xs : List X) (n : ℕ) (x : X) → length xs ≡ suc n → slice_get xs n ≡ Some x
    → take n xs ++ x ∷ [] ≡ xs
last-at [] n x len e = absurd (omega arith)
last-at (y ∷ []) zero x len e = ap (λ z. z ∷ []) (sym (same_Some y x e))
last-at (y ∷ z ∷ xs) zero x len e = absurd (omega arith)
last-at (y ∷ xs) (suc n) x len e = ap (λ ys. y ∷ ys) (last-at xs n x (omega arith) e)

pub last-back : {X : Type 0} (xs : List X) (x : X) → slice_get xs (length xs - 1) ≡ Some x
    → take (length xs - 1) xs ++ x ∷ [] ≡ xs
last-back [] x e = absurd (none-some x e)
last-back (y ∷ xs) x e = last-at (y ∷ xs) (length (y ∷ xs) - 1) x (omega arith) e

pub none-last : {X : Type 0} (xs : List X) → slice_get xs (length xs - 1) ≡ None → xs ≡ []
none-last [] e = refl
none-last (y ∷ xs) e = absurd (some-within (y ∷ xs) (length (y ∷ xs) - 1) (omega arith) e)

-- where there is none, none is left either
pub none-left : {X : Type 0} (xs : List X) → slice_get xs (length xs - 1) ≡ None → take (length xs - 1) xs ≡ xs
none-left xs e = rw (none-last xs e) refl

pub ruleset frame_laws = (last-back, none-last, none-left)

-- ---- the child in the system

-- a live process does not have the next id
apart-next : (s : TracedSystem) (pid : ℕ) (p : TracedProcess) → process_of s s.made ≡ None
    → live_process s pid ≡ Some p → s.made ≢ pid
apart-next s pid p free live same =
    let wrong : None ≡ Some p = sym free ∙ ap (λ id. under id s.processes) same ∙ live_process-found s pid p live in cc

-- it stands beside one under that id
pub beside-next : (s : TracedSystem) (pid : ℕ) (p child : TracedProcess) → process_of s s.made ≡ None
    → live_process s pid ≡ Some p → under pid (with_made child s).processes ≡ Some p
unfolding with_made
beside-next s pid p child free live =
    under-inserted_other s.made pid child (apart-next s pid p free live) s.processes ∙ live_process-found s pid p live

-- and that one stands too
pub next-stands : (s : TracedSystem) (child : TracedProcess) → under s.made (with_made child s).processes ≡ Some child
unfolding with_made
next-stands s child = under-inserted s.made child s.processes

pub next-files : (s : TracedSystem) (child : TracedProcess) → (with_made child s).files ≡ s.files
unfolding with_made
next-files s child = refl

-- what was put in and is then changed was changed and then put in
pub changed-inserted : {X : Type 0} (id : ℕ) (f : X → X) (x : X) (es : List (ℕ × X))
    → change_under id f (inserted id x es) ≡ inserted id (f x) es
changed-inserted id f x [] = rw (eq-eqb id id refl) refl
changed-inserted id f x (e ∷ es) =
    elim (cases_Bool (ltb e.0 id)) [
      | inl below ↦ let less = ltb-true e.0 id below in
          rw (below, ne_eqb e.0 id (λ same. absurd (omega arith))) (ap (λ ds. e ∷ ds) (changed-inserted id f x es))
      | inr above ↦ rw (above, eq-eqb id id refl) refl
    ]

-- a child that was made and is then given its descriptors is one that was made with them
pub given-child : (s : TracedSystem) (child : TracedProcess) (fds : Descriptors)
    → with_process s.made (with_fds fds)
    (record (with_made child s) { files = with_all_shared (with_made child s).files fds })
    ≡ with_made (with_fds fds child) (record s { files = with_all_shared s.files fds })
unfolding with_made with_process
given-child s child fds =
    ap (λ es.
    record {
      programs = s.programs;
      clock = s.clock;
      made = s.made + 1;
      files = with_all_shared s.files fds;
      processes =
          es;
    }) (changed-inserted s.made (with_fds fds) child s.processes)

-- the same where each step is given as an equation
pub child-given : (s added shared new : TracedSystem) (p child : TracedProcess) (fds : Descriptors)
    → added ≡ with_made child s → shared ≡ record added { files = with_all_shared added.files p.fds } → fds ≡ p.fds
    → new ≡ with_process s.made (with_fds fds) shared
    → new ≡ with_made (with_fds p.fds child) (record s { files = with_all_shared s.files p.fds })
child-given s added shared new p child fds made system same given =
    given ∙ ap (λ d. with_process s.made (with_fds d) shared) same
    ∙ ap (with_process s.made (with_fds p.fds))
    (system ∙ ap (λ (t : TracedSystem). record t { files = with_all_shared t.files p.fds }) made)
    ∙ given-child s child p.fds

pub next-some : (s added : TracedSystem) (child : TracedProcess) → added ≡ with_made child s
    → IsSome (under s.made added.processes)
next-some s added child made = rw made (ap is_some (next-stands s child))

pub next-beside : (s added : TracedSystem) (pid : ℕ) (p child : TracedProcess) → process_of s s.made ≡ None
    → live_process s pid ≡ Some p → added ≡ with_made child s → under pid added.processes ≡ Some p
next-beside s added pid p child free live made = rw made (beside-next s pid p child free live)

pub ruleset fork_laws = (beside-next, next-stands, next-files, given-child)

-- ---- the child with what it has from its parent

-- a child is made of the live process of an id and of an lwp of it
pub child-made : (birth : Birth) (s : TracedSystem) (pid id : ℕ) (es : List (ℕ × TracedProcess))
    (p q child : TracedProcess) (l m : TracedLwp) → es ≡ s.processes
    → live_process (record s { processes = es }) pid ≡ Some q → lwp_of q id ≡ Some m
    → live_process s pid ≡ Some p → lwp_of p id ≡ Some l
    → child ≡ bare_child birth pid q m (arguments_in m.regs m.phase) s.clock
    → child ≡ bare_child birth pid p l (arguments_in l.regs l.phase) s.clock
child-made birth s pid id es p q child l m same taken caller live own made =
    let as_before = ap (λ (ds : List (ℕ × TracedProcess)). live_process (record s { processes = ds }) pid) same in
    let process : q ≡ p = same_Some q p (sym taken ∙ as_before ∙ live) in
    let lwp : m ≡ l = same_Some m l (sym caller ∙ ap (λ (x : TracedProcess). lwp_of x id) process ∙ own) in
    made ∙ ap (λ (x : TracedProcess). bare_child birth pid x m (arguments_in m.regs m.phase) s.clock) process
    ∙ ap (λ (x : TracedLwp). bare_child birth pid p x (arguments_in x.regs x.phase) s.clock) lwp

-- a system with a child that has the descriptors of its parent
abbrev with_added : TracedSystem → TracedProcess → TracedProcess → TracedSystem
with_added s p child = with_made (with_fds p.fds child) (record s { files = with_all_shared s.files p.fds })

-- that is so of the parent that is live under an id
abbrev IsAdded : TracedSystem → ℕ → TracedProcess → TracedSystem → Type 0
IsAdded s pid child added = (x : TracedProcess) → live_process s pid ≡ Some x → added ≡ with_added s x child

added-here : (s same added : TracedSystem) (pid : ℕ) (p child : TracedProcess) → same ≡ s
    → IsAdded same pid child added → live_process s pid ≡ Some p → added ≡ with_added s p child
added-here s same added pid p child as_before made live = (rw as_before at made) p live

-- with its parent's memory copied and its descriptors it is the child by fork
with_all-forked : (pid clock : ℕ) (args : List ℕ) (p : TracedProcess) (l : TracedLwp)
    → with_fds p.fds (with_space p.space (bare_child by_fork pid p l args clock))
    ≡ forked traced by_fork pid p l args clock
unfolding bare_child forked with_fds with_space
with_all-forked pid clock args p l = refl

-- so the system is the one with the child by fork
pub child-forked : (s same new : TracedSystem) (pid : ℕ) (args : List ℕ) (p q child : TracedProcess) (l : TracedLwp)
    (copy : Space) → same ≡ s → live_process same pid ≡ Some q → copy ≡ q.space
    → IsAdded same pid (record child { space = copy }) new → live_process s pid ≡ Some p
    → child ≡ bare_child by_fork pid p l args s.clock → new ≡ with_child traced by_fork pid p l args s
unfolding with_child with_space
child-forked s same new pid args p q child l copy as_before taken copied made live is =
    let process : q ≡ p = same_Some q p (sym taken ∙ ap (λ (t : TracedSystem). live_process t pid) as_before ∙ live) in
    let space : copy ≡ p.space = copied ∙ ap (λ (x : TracedProcess). x.space) process in
    let child_is : with_fds p.fds (record child { space = copy }) ≡ forked traced by_fork pid p l args s.clock =
    ap (λ (m : Space). with_fds p.fds (record child { space = m })) space
    ∙ ap (λ (x : TracedProcess). with_fds p.fds (with_space p.space x)) is
    ∙ with_all-forked pid s.clock args p l
    in
    added-here s same new pid p (record child { space = copy }) as_before made live
    ∙ ap (λ x. with_made x (record s { files = with_all_shared s.files p.fds })) child_is

-- ---- memory that is lent

-- what is put in where another thing is changed
changed-beside : {X : Type 0} (id other : ℕ) (f : X → X) (x : X) → id ≢ other → (es : List (ℕ × X))
    → change_under other f (inserted id x es) ≡ inserted id x (change_under other f es)
changed-beside id other f x apart [] = rw (ne_eqb id other apart) refl
changed-beside id other f x apart (e ∷ es) =
    elim (cases_Bool (ltb e.0 id)) [
      | inl below ↦ elim (cases_Bool (eqb e.0 other)) [
        | inl here ↦ rw (below, here, below) refl
        | inr elsewhere ↦ rw (below, elsewhere, below) (ap (λ ds. e ∷ ds) (changed-beside id other f x apart es))
      ]
      | inr above ↦ elim (cases_Bool (eqb e.0 other)) [
        | inl here ↦ rw (above, ne_eqb id other apart, here, above) refl
        | inr elsewhere ↦ rw (above, ne_eqb id other apart, elsewhere, above) refl
      ]
    ]

-- what stands still stands where another thing is put
pub still-stands : {X : Type 0} (id other : ℕ) (w : X) (es : List (ℕ × X)) → IsSome (under other es)
    → IsSome (under other (put_under id w es))
still-stands id other w [] some = some
still-stands id other w (e ∷ es) some =
    elim (cases_Bool (eqb e.0 id)) [
      | inl here ↦ elim (cases_Bool (eqb e.0 other)) [
        | inl is ↦ rw (here, is) refl
        | inr not ↦ rw (here, not) (rw not at some)
      ]
      | inr elsewhere ↦ elim (cases_Bool (eqb e.0 other)) [
        | inl is ↦ rw (elsewhere, is) refl
        | inr not ↦ rw (elsewhere, not) (still-stands id other w es (rw not at some))
      ]
    ]

-- a system in which a process has lent its memory to another one
abbrev with_memory_lent : ℕ → ℕ → Space → TracedSystem → TracedSystem
with_memory_lent pid child space s = with_process child (with_loan pid space) (with_process pid (lent_to child) s)

-- memory that moved from a process to another one was lent
pub memory-lent : (s : TracedSystem) (pid child : ℕ) (p q lent given x : TracedProcess) (space : Space)
    → under pid s.processes ≡ Some p → lent ≡ lent_to child p → space ≡ p.space
    → under child (put_under pid lent s.processes) ≡ Some q → given ≡ with_loan pid space q
    → under pid s.processes ≡ Some x
    → record s { processes = put_under child given (put_under pid lent s.processes) }
    ≡ with_memory_lent pid child x.space s
unfolding with_process
memory-lent s pid child p q lent given x space stands lends moved borrows gives at =
    let left : List (ℕ × TracedProcess) = put_under pid lent s.processes in
    let memory : space ≡ x.space =
    moved ∙ ap (λ (y : TracedProcess). y.space) (same_Some p x (sym stands ∙ at))
    in
    let lender : left ≡ change_under pid (lent_to child) s.processes =
    ap (λ y. put_under pid y s.processes) lends ∙ put_under-found pid (lent_to child) p s.processes stands
    in
    let borrower : put_under child given left ≡ change_under child (with_loan pid space) left =
    ap (λ y. put_under child y left) gives ∙ put_under-found child (with_loan pid space) q left borrows
    in
    let loan : change_under child (with_loan pid space) left ≡ change_under child (with_loan pid x.space) left =
    ap (λ m. change_under child (with_loan pid m) left) memory
    in
    ap (λ (es : List (ℕ × TracedProcess)). record s { processes = es })
    (borrower ∙ loan ∙ ap (change_under child (with_loan pid x.space)) lender)

-- where a child was added, its parent and it stand
pub both-stand : (s same added : TracedSystem) (pid : ℕ) (child : TracedProcess) → process_of s s.made ≡ None
    → same ≡ s → IsAdded same pid child added → IsSome (live_process s pid)
    → IsSome (under pid added.processes) × IsSome (under s.made added.processes)
unfolding with_made
both-stand s same added pid child free as_before made live = by (live_process s pid) refl live
  where
    by : (o : Option TracedProcess) → live_process s pid ≡ o → IsSome o
        → IsSome (under pid added.processes) × IsSome (under s.made added.processes)
    by None e some = absurd (cc)
    by (Some p) e some =
        let here = added-here s same added pid p child as_before made e in
        let bare : TracedProcess = with_fds p.fds child in
        let apart = apart-next s pid p free e in
        let parent = under-inserted_other s.made pid bare apart s.processes ∙ live_process-found s pid p e in
        let own = under-inserted s.made bare s.processes in
        (rw here (ap is_some parent), rw here (ap is_some own))

-- with its parent's memory as a loan and its descriptors it is the child by vfork
with_loan-forked : (pid clock : ℕ) (args : List ℕ) (p : TracedProcess) (l : TracedLwp)
    → with_loan pid p.space (with_fds p.fds (bare_child by_vfork pid p l args clock))
    ≡ forked traced by_vfork pid p l args clock
unfolding bare_child forked with_fds with_loan
with_loan-forked pid clock args p l = refl

-- so the system is the one with the child by vfork
pub child-lent : (s same added new : TracedSystem) (pid : ℕ) (args : List ℕ) (p child : TracedProcess) (l : TracedLwp)
    → process_of s s.made ≡ None → same ≡ s → IsAdded same pid child added
    → ((x : TracedProcess) → under pid added.processes ≡ Some x → new ≡ with_memory_lent pid s.made x.space added)
    → live_process s pid ≡ Some p → child ≡ bare_child by_vfork pid p l args s.clock
    → new ≡ with_child traced by_vfork pid p l args s
unfolding with_child with_made with_process
child-lent s same added new pid args p child l free as_before made lent live is =
    let apart = apart-next s pid p free live in
    let bare : TracedProcess = with_fds p.fds child in
    let whole : TracedProcess = forked traced by_vfork pid p l args s.clock in
    let here = added-here s same added pid p child as_before made live in
    let parent : under pid added.processes ≡ Some p =
    ap (λ (t : TracedSystem). under pid t.processes) here
    ∙ under-inserted_other s.made pid bare apart s.processes ∙ live_process-found s pid p live
    in
    let loan : with_loan pid p.space bare ≡ whole =
    ap (λ (x : TracedProcess). with_loan pid p.space (with_fds p.fds x)) is
    ∙ with_loan-forked pid s.clock args p l
    in
    let others : List (ℕ × TracedProcess) = change_under pid (lent_to s.made) s.processes in
    let gives : TracedProcess → TracedProcess = with_loan pid p.space in
    let borrower : change_under s.made gives (inserted s.made bare others) ≡ inserted s.made whole others =
    changed-inserted s.made (with_loan pid p.space) bare others ∙ ap (λ x. inserted s.made x others) loan
    in
    let beside = changed-beside s.made pid (lent_to s.made) bare apart s.processes in
    lent p parent ∙ ap (with_memory_lent pid s.made p.space) here
    ∙ ap (λ (es : List (ℕ × TracedProcess)). record s {
      made = s.made + 1;
      files = with_all_shared s.files p.fds;
      processes = es;
    })
    (ap (change_under s.made (with_loan pid p.space)) beside ∙ borrower)
