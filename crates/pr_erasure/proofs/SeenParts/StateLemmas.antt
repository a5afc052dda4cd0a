use Rattle.std.proofs.Common.{◌≡◌, ℕ, true, false, is_none, eqb, Option, Some, None, List, [], ◌∷◌, cond, refl, sym, ◌∙◌, ap}
use Rattle.std.specs.Option.{option_map, option_and_then}
use Rattle.pr_num.specs.ById.{under, change_under, put_under, map_each}
use Rattle.pr_num.proofs.ByIdLaws.{under-map_each, map_each-change_under, put_under-found, put_under-same}
use Rattle.pr_model.specs.Erasure.{uncontrolled_lwp, uncontrolled_process, uncontrolled_system, erased_lwp, erased_process, erased_system}
use Rattle.pr_model.specs.Machines.{UntracedLwp, UntracedProcess}
use Rattle.pr_model.specs.State.{TracedLwp, TracedProcess, TracedSystem, process_of, if_live, live_process, lwp_of, with_process, with_process_if, with_lwp, with_lwp_of}

-- What is found in a state, and what is changed there, as programs see it.

-- ---- what is found

pub process-erased : (s : TracedSystem) (pid : ℕ)
    → process_of (erased_system s) pid ≡ option_map erased_process (process_of s pid)
unfolding erased_system
process-erased s pid = under-map_each pid erased_process s.processes

pub lwp-erased : (p : TracedProcess) (id : ℕ) → lwp_of (erased_process p) id ≡ option_map erased_lwp (lwp_of p id)
unfolding erased_process
lwp-erased p id = under-map_each id erased_lwp p.lwps

if_live-erased : (p : TracedProcess) → if_live (erased_process p) ≡ option_map erased_process (if_live p)
unfolding erased_process
if_live-erased p =
    elim (is_none p.ended) as
    (λ b. cond b (Some (erased_process p)) None ≡ option_map erased_process
    (cond b (Some p) None)) [ true ↦ refl | false ↦ refl ]

pub live-erased : (s : TracedSystem) (pid : ℕ)
    → live_process (erased_system s) pid ≡ option_map erased_process (live_process s pid)
unfolding live_process
live-erased s pid = ap (option_and_then if_live) (process-erased s pid) ∙ by (process_of s pid)
  where
    by : (o : Option TracedProcess)
        → option_and_then if_live (option_map erased_process o) ≡ option_map erased_process (option_and_then if_live o)
    by None = refl
    by (Some p) = if_live-erased p

-- ---- what is changed

-- a process is changed for both machines, where the two changes agree on the one that stands
pub with_process-erased : (s : TracedSystem) (pid : ℕ) (f : TracedProcess → TracedProcess)
    (g : UntracedProcess → UntracedProcess)
    → ((x : TracedProcess) → process_of s pid ≡ Some x → erased_process (f x) ≡ g (erased_process x))
    → erased_system (with_process pid f s) ≡ with_process pid g (erased_system s)
unfolding erased_system with_process
with_process-erased s pid f g agree =
    ap (λ ps. record (erased_system s) { processes = ps })
    (map_each-change_under erased_process pid f g s.processes agree)

-- the same of a process that may not be there
pub with_process_if-erased : (s : TracedSystem) (o : Option ℕ) (f : TracedProcess → TracedProcess)
    (g : UntracedProcess → UntracedProcess)
    → ((x : TracedProcess) → erased_process (f x) ≡ g (erased_process x))
    → erased_system (with_process_if o f s) ≡ with_process_if o g (erased_system s)
with_process_if-erased s None f g agree = refl
with_process_if-erased s (Some pid) f g agree = with_process-erased s pid f g (λ x found. agree x)

-- a change of a thing that a view does not show
pub map_each-hidden : {X Y : Type 0} (view : X → Y) (id : ℕ) (f : X → X) (es : List (ℕ × X))
    → ((x : X) → view (f x) ≡ view x) → map_each view (change_under id f es) ≡ map_each view es
map_each-hidden view id f [] hides = refl
map_each-hidden view id f (e ∷ es) hides =
    elim (eqb e.0 id) as
    (λ b. map_each view (cond b ((e.0, f e.1) ∷ es) (e ∷ change_under id f es)) ≡
    (e.0, view e.1) ∷ map_each view es) [
      | true ↦ ap (λ y. (e.0, y) ∷ map_each view es) (hides e.1)
      | false ↦ ap (λ ds. (e.0, view e.1) ∷ ds)
          (map_each-hidden view id f es hides)
    ]

-- a change of every thing that a view does not show
pub map_each-all_hidden : {X Y : Type 0} (view : X → Y) (f : X → X) (es : List (ℕ × X))
    → ((x : X) → view (f x) ≡ view x) → map_each view (map_each f es) ≡ map_each view es
map_each-all_hidden view f [] hides = refl
map_each-all_hidden view f (e ∷ es) hides =
    rw (hides e.1) (ap (λ ds. (e.0, view e.1) ∷ ds) (map_each-all_hidden view f es hides))

-- two views of a change of every thing
pub map_each-all : {X Y : Type 0} (view : X → Y) (f : X → X) (g : Y → Y) (es : List (ℕ × X))
    → ((x : X) → view (f x) ≡ g (view x)) → map_each view (map_each f es) ≡ map_each g (map_each view es)
map_each-all view f g [] agree = refl
map_each-all view f g (e ∷ es) agree =
    rw (agree e.1) (ap (λ ds. (e.0, g (view e.1)) ∷ ds) (map_each-all view f g es agree))

-- a process is changed in what controllers set alone
pub with_process-hidden : (s : TracedSystem) (pid : ℕ) (f : TracedProcess → TracedProcess)
    → ((x : TracedProcess) → uncontrolled_process (f x) ≡ uncontrolled_process x)
    → uncontrolled_system (with_process pid f s) ≡ uncontrolled_system s
unfolding uncontrolled_system with_process
with_process-hidden s pid f hides =
    ap (λ ps. record (uncontrolled_system s) { processes = ps })
    (map_each-hidden uncontrolled_process pid f s.processes hides)

-- an lwp is changed for both machines, and in what controllers set alone
pub with_lwp-erased : (p : TracedProcess) (id : ℕ) (f : TracedLwp → TracedLwp) (g : UntracedLwp → UntracedLwp)
    → ((x : TracedLwp) → lwp_of p id ≡ Some x → erased_lwp (f x) ≡ g (erased_lwp x))
    → erased_process (with_lwp id f p) ≡ with_lwp id g (erased_process p)
unfolding erased_process with_lwp
with_lwp-erased p id f g agree =
    ap (λ ls. record (erased_process p) { lwps = ls }) (map_each-change_under erased_lwp id f g p.lwps agree)

pub with_lwp-hidden : (p : TracedProcess) (id : ℕ) (f : TracedLwp → TracedLwp)
    → ((x : TracedLwp) → uncontrolled_lwp (f x) ≡ uncontrolled_lwp x)
    → uncontrolled_process (with_lwp id f p) ≡ uncontrolled_process p
unfolding uncontrolled_process with_lwp
with_lwp-hidden p id f hides =
    ap (λ ls. record (uncontrolled_process p) { lwps = ls }) (map_each-hidden uncontrolled_lwp id f p.lwps hides)

-- ---- what is not changed

-- an lwp is changed as programs see it to what it is already
unmoved-lwp : (p : TracedProcess) (id : ℕ) (l : TracedLwp) → lwp_of p id ≡ Some l → (f : UntracedLwp → UntracedLwp)
    → f (erased_lwp l) ≡ erased_lwp l → with_lwp id f (erased_process p) ≡ erased_process p
unfolding with_lwp
unmoved-lwp p id l there f same =
    let found : under id (erased_process p).lwps ≡ Some (erased_lwp l) =
    lwp-erased p id ∙ ap (option_map erased_lwp) there in
    ap (λ ls. record (erased_process p) { lwps = ls })
    (sym (put_under-found id f (erased_lwp l) (erased_process p).lwps found)
    ∙ ap (λ x. put_under id x (erased_process p).lwps) same
    ∙ put_under-same id (erased_lwp l) (erased_process p).lwps found)

pub unmoved : (s : TracedSystem) (pid : ℕ) (p : TracedProcess) (id : ℕ) (l : TracedLwp) → process_of s pid ≡ Some p
    → lwp_of p id ≡ Some l → (f : UntracedLwp → UntracedLwp) → f (erased_lwp l) ≡ erased_lwp l
    → with_lwp_of pid id f (erased_system s) ≡ erased_system s
unfolding with_lwp_of with_process
unmoved s pid p id l standing there f same =
    let found : under pid (erased_system s).processes ≡ Some (erased_process p) =
    process-erased s pid ∙ ap (option_map erased_process) standing in
    ap (λ ps. record (erased_system s) { processes = ps })
    (sym (put_under-found pid (with_lwp id f) (erased_process p) (erased_system s).processes found)
    ∙ ap (λ x. put_under pid x (erased_system s).processes) (unmoved-lwp p id l there f same)
    ∙ put_under-same pid (erased_process p) (erased_system s).processes found)
