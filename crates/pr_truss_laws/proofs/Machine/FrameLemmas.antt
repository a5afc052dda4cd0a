use Rattle.std.proofs.Common.{◌≡◌, ◌≢◌, ◌==◌, ℕ, Bool, true, false, cond, get_or, is_none, None, Some, Option, List, [], ◌∷◌, refl, sym, ap, ◌∙◌}
use Rattle.std.proofs.lemmas.Bool.{false≢true}
use Rattle.std.proofs.lemmas.Option.{same_Some, none-some}
use Rattle.std.specs.Option.{option_map}
use Rattle.pr_num.proofs.ByIdLaws.{under-map_each, map_each-map_each}
use Rattle.pr_num.specs.ById.{change_under, map_each, under}
use Rattle.pr_num.specs.Signals.{signal_number}
use Rattle.pr_num.specs.declared.infos.Info.{Info}
use Rattle.pr_num.specs.declared.signals.Sig.{Sig}
use Rattle.pr_num.specs.declared.signals.Sig.TheVariants.{Kill}
use Rattle.pr_parts.specs.SignalRules.{deleted_by}
use Rattle.pr_model.specs.Generation.{ends_job_stop, lwp_with_pending, lwp_without_pending, signalled, with_deletions, with_pending, without_job_stop, without_pending}
use Rattle.pr_model.specs.Changes.{Change, signals}
use Rattle.pr_model.specs.Lives.{is_id, orphaned, with_lender_of, with_loan_back, with_made, with_reaped, with_this_ended}
use Rattle.pr_model.specs.Lawful.{IsLawfulSystem}
use Rattle.pr_model.specs.LwpTurns.{LwpTurn, turn_of}
use Rattle.pr_model.specs.Machines.{traced}
use Rattle.pr_model.specs.Rows.{row_for}
use Rattle.pr_model.specs.Signals.{generated}
use Rattle.pr_model.specs.State.{TracedLwp, TracedProcess, TracedSystem, live_process, process_of, with_process, with_process_if}
use Rattle.pr_truss_laws.specs.Stills.{IsUndisturbed, KeepsMemory, unsignalled}
use Rattle.pr_truss_laws.proofs.Machine.OthersLemmas as others
use Rattle.pr_truss_laws.proofs.Machine.OthersLemmas.{LeftByOthers}
pub use Rattle.pr_truss_laws.proofs.Machine.OthersLemmas.{ByKill, has_ended, left_alone, lent-apart, nobody, was-made}

-- What others do to a process: SIGKILL ends it, or signals pend for it and no more.

-- ---- left alone

-- an lwp of one list is one of another, where the lists are the same but for what pends
pub lwp-alike : (es ds : List (ℕ × TracedLwp)) → map_each unsignalled es ≡ map_each unsignalled ds
    → (id : ℕ) (k : TracedLwp) → under id es ≡ Some k
    → (l : TracedLwp) × ((under id ds ≡ Some l) × (k ≡ record l { pending = k.pending }))
lwp-alike es ds same id k there = by (under id ds) refl
  where
    alike : option_map unsignalled (under id ds) ≡ Some (unsignalled k)
    alike =
        sym (under-map_each id unsignalled ds) ∙ ap (under id) (sym same) ∙ under-map_each id unsignalled es
        ∙ ap (option_map unsignalled) there

    by : (o : Option TracedLwp) → under id ds ≡ o
        → (l : TracedLwp) × ((under id ds ≡ Some l) × (k ≡ record l { pending = k.pending }))
    by None is = absurd (none-some (unsignalled k) (ap (option_map unsignalled) (sym is) ∙ alike))
    by (Some l) is = (
      l,
      (
        is,
        ap (λ (x : TracedLwp). record x { pending = k.pending })
            (sym (same_Some (unsignalled l) (unsignalled k) (ap (option_map unsignalled) (sym is) ∙ alike))),
      ),
    )

-- with what others may change of a process, its memory with it, as another process has them
abbrev as_in : TracedProcess → TracedProcess → TracedProcess
as_in p q = record p {
  parent = q.parent;
  space = q.space;
  lender = q.lender;
  borrower = q.borrower;
  pending = q.pending;
  job_stop = q.job_stop;
  lwps = q.lwps;
}

undisturbed : (p q : TracedProcess) → q ≡ as_in p q → KeepsMemory p q
    → map_each unsignalled q.lwps ≡ map_each unsignalled p.lwps → IsUndisturbed p q
undisturbed p q rest memory same =
    record { rest = rest; memory = memory; each = lwp-alike q.lwps p.lwps same; same = same }

pub memory-same : (p q : TracedProcess) → q.borrower ≡ p.borrower → q.space ≡ p.space → KeepsMemory p q
memory-same p q lent space = record { own = λ none. (lent ∙ none, space) }

pub memory-self : (p : TracedProcess) → KeepsMemory p p
memory-self p = memory-same p p refl refl

pub memory-next : (p q r : TracedProcess) → KeepsMemory p q → KeepsMemory q r → KeepsMemory p r
memory-next p q r one two = record { own = λ none. by (one.own none) }
  where
    by : (q.borrower ≡ None) × (q.space ≡ p.space) → (r.borrower ≡ None) × (r.space ≡ p.space)
    by first = let then = two.own first.0 in (then.0, then.1 ∙ first.1)

pub undisturbed-self : (p : TracedProcess) → IsUndisturbed p p
undisturbed-self p = undisturbed p p refl (memory-self p) refl

rest-next : (p q r : TracedProcess) → q ≡ as_in p q → r ≡ as_in q r → r ≡ as_in p r
rest-next p q r one two = two ∙ ap (λ (x : TracedProcess). as_in x r) one

pub undisturbed-next : (p q r : TracedProcess) → IsUndisturbed p q → IsUndisturbed q r → IsUndisturbed p r
undisturbed-next p q r one two =
    undisturbed p r (rest-next p q r one.rest two.rest) (memory-next p q r one.memory two.memory) (two.same ∙ one.same)

pub ended-same : (p q : TracedProcess) → IsUndisturbed p q → q.ended ≡ p.ended
ended-same p q u = ap (λ (x : TracedProcess). x.ended) u.rest

-- ---- a signal that is sent

without-undisturbed : (set : ℕ) (p : TracedProcess) → IsUndisturbed p (without_pending set p)
unfolding without_pending lwp_without_pending
without-undisturbed set p =
    undisturbed p (without_pending set p) refl (memory-same p _ refl refl)
    (map_each-map_each (lwp_without_pending set) unsignalled p.lwps)

job-undisturbed : (g : Sig) (p : TracedProcess) → IsUndisturbed p (without_job_stop g p)
unfolding without_job_stop
job-undisturbed g p =
    elim (ends_job_stop g) as (λ b. IsUndisturbed p (cond b (record p { job_stop = None }) p)) [
      | true ↦ undisturbed p (record p { job_stop = None }) refl (memory-same p _ refl refl) refl
      | false ↦ undisturbed-self p
    ]

deletions-undisturbed : (g : Sig) (p : TracedProcess) → IsUndisturbed p (with_deletions g p)
unfolding with_deletions
deletions-undisturbed g p =
    elim (deleted_by g == 0) as
    (λ b. IsUndisturbed p
    (cond b p
    (without_job_stop g
    (without_pending (deleted_by g) p)))) [
      | true ↦ undisturbed-self p
      | false ↦ undisturbed-next p
          (without_pending (deleted_by g) p) _ (without-undisturbed (deleted_by g) p)
          (job-undisturbed g (without_pending (deleted_by g) p))
    ]

-- a change under an id that a view does not show
map_each-hidden : {X Y : Type 0} (view : X → Y) (id : ℕ) (f : X → X) (es : List (ℕ × X))
    → ((x : X) → view (f x) ≡ view x) → map_each view (change_under id f es) ≡ map_each view es
map_each-hidden view id f [] hides = refl
map_each-hidden view id f (e ∷ es) hides =
    elim (e.0 == id) as
    (λ b. map_each view (cond b ((e.0, f e.1) ∷ es) (e ∷ change_under id f es)) ≡
    (e.0, view e.1) ∷ map_each view es) [
      | true ↦ ap (λ y. (e.0, y) ∷ map_each view es) (hides e.1)
      | false ↦ ap (λ ds. (e.0, view e.1) ∷ ds)
          (map_each-hidden view id f es hides)
    ]

pending-undisturbed : (target : Option ℕ) (g : Sig) (info : Info) (p : TracedProcess)
    → IsUndisturbed p (with_pending target g info p)
unfolding with_pending lwp_with_pending
pending-undisturbed None g info p = undisturbed p (with_pending None g info p) refl (memory-same p _ refl refl) refl
pending-undisturbed (Some own) g info p =
    undisturbed p (with_pending (Some own) g info p) refl (memory-same p _ refl refl)
    (map_each-hidden unsignalled own (lwp_with_pending g info) p.lwps (λ l. refl))

pub told-undisturbed : (target : Option ℕ) (g : Sig) (info : Info) (p : TracedProcess)
    → IsUndisturbed p (signalled target g info p)
unfolding signalled
told-undisturbed target g info p =
    elim (is_none p.ended) as
    (λ b. IsUndisturbed p (cond b (with_pending target g info (with_deletions g p)) p)) [
      | true ↦ undisturbed-next p
          (with_deletions g p) _ (deletions-undisturbed g p)
          (pending-undisturbed target g info (with_deletions g p))
      | false ↦ undisturbed-self p
    ]

pub orphaned-undisturbed : (gone : ℕ) (p : TracedProcess) → IsUndisturbed p (orphaned gone p)
unfolding orphaned
orphaned-undisturbed gone p =
    elim (p.parent == gone) as (λ b. IsUndisturbed p (cond b (record p { parent = 0 }) p)) [
      | true ↦ undisturbed p (record p { parent = 0 }) refl (memory-same p _ refl refl) refl
      | false ↦ undisturbed-self p
    ]

-- ---- memory that was lent

-- it goes back to a lender, or the lender gets another borrower
pub loan_back-undisturbed : (gone : ℕ) (p lender : TracedProcess) → IsUndisturbed lender (with_loan_back gone p lender)
unfolding with_loan_back
loan_back-undisturbed gone p lender = by (is_id gone lender.borrower) refl
  where
    given : TracedProcess
    given = record lender { space = p.space; borrower = p.borrower }

    by : (b : Bool) → is_id gone lender.borrower ≡ b → IsUndisturbed lender (cond b given lender)
    by true lent =
        undisturbed lender given refl
        (record { own = λ none. absurd (false≢true (ap (is_id gone) (sym none) ∙ lent)) }) refl
    by false other = undisturbed-self lender

-- a borrower gets another lender, or none
pub lender_of-undisturbed : (gone : ℕ) (p borrower : TracedProcess)
    → IsUndisturbed borrower (with_lender_of gone p borrower)
unfolding with_lender_of
lender_of-undisturbed gone p borrower =
    elim (is_id gone borrower.lender) as
    (λ b. IsUndisturbed borrower (cond b (record borrower { lender = p.lender }) borrower)) [
      | true ↦ undisturbed borrower (record borrower { lender = p.lender }) refl (memory-same borrower _ refl refl) refl
      | false ↦ undisturbed-self borrower
    ]

-- ---- what became of a process

-- any signal may be sent to it
abbrev pub AnySignal : Option ℕ → Sig → Type 0
AnySignal target g = Unit {0}

pub undisturbed-left : LeftByOthers IsUndisturbed AnySignal
undisturbed-left = record {
  self = undisturbed-self;
  next = undisturbed-next;
  over = ended-same;
  told = λ target g info any. told-undisturbed target g info;
  child_ends = tt;
  loses_parent = orphaned-undisturbed;
  gets_back = loan_back-undisturbed;
  gets_lender = lender_of-undisturbed;
}

abbrev pub Became : (ℕ → Type 0) → Option TracedProcess → Option TracedProcess → Type 0
Became Ends before after = others.Became IsUndisturbed Ends before after

module _ (pid : ℕ) (Ends : ℕ → Type 0) where
  -- what became of the process of this id
  abbrev pub Passes : TracedSystem → TracedSystem → Type 0
  Passes s u = Became Ends (process_of s pid) (process_of u pid)

  pub other-passes : (other : ℕ) (f : TracedProcess → TracedProcess) (s : TracedSystem) → other ≢ pid
      → Passes s (with_process other f s)
  other-passes = others.other-passes undisturbed-left pid Ends

  pub made-passes : (p : TracedProcess) (s : TracedSystem) → s.made ≢ pid → Passes s (with_made p s)
  made-passes = others.made-passes undisturbed-left pid Ends

  pub end-passes : (gone : ℕ) (p : TracedProcess) (status : ℕ) (s : TracedSystem) → (gone ≡ pid → Ends status)
      → Passes s (with_this_ended traced gone p status s)
  end-passes = others.end-passes undisturbed-left pid Ends

  pub generated-passes : (target : ℕ) (own : Option ℕ) (g : Sig) (info : Info) (s : TracedSystem)
      → Ends (signal_number Kill) → Passes s (generated traced target own g info s)
  generated-passes target own g info s by_kill =
      others.generated-passes undisturbed-left pid Ends by_kill target own g info s (λ same. tt)

  -- a process that lived and lives still was left alone
  pub passed-alone : (s u : TracedSystem) (p q : TracedProcess) → Passes s u → live_process s pid ≡ Some p
      → live_process u pid ≡ Some q → IsUndisturbed p q
  passed-alone = others.passed-alone undisturbed-left pid Ends

-- ---- whatever the status

module _ (pid : ℕ) where
  -- the process of this id, where it lives later, lived before and was left alone
  pub record Spares (s u : TracedSystem) : Type 0 where
    pub from : (q : TracedProcess) → process_of u pid ≡ Some q → q.ended ≡ None
        → (p : TracedProcess) × ((process_of s pid ≡ Some p) × IsUndisturbed p q)

  abbrev Whatever : ℕ → Type 0
  Whatever status = Unit {0}

  spared : (s u : TracedSystem) → Passes pid Whatever s u → Spares s u
  spared s u passes = record {
    from = λ q there live.
        others.became-alone undisturbed-left pid Whatever (process_of s pid) (process_of u pid) q passes there live;
  }

  pub made-spares : (p : TracedProcess) (s : TracedSystem) → s.made ≢ pid → Spares s (with_made p s)
  made-spares p s new = spared s _ (made-passes pid Whatever p s new)

  pub loan_back-spares : (gone : ℕ) (p : TracedProcess) (s : TracedSystem)
      → Spares s (with_process_if p.lender (with_loan_back gone p) s)
  loan_back-spares gone p s =
      spared s _ (others.loan_back-passes undisturbed-left pid Whatever gone p s s
      (others.same-passes undisturbed-left pid Whatever s))

  pub reaped-spares : (gone : ℕ) (s : TracedSystem) → gone ≢ pid → Spares s (with_reaped gone s)
  reaped-spares gone s other = spared s _ (others.reaped-passes undisturbed-left pid Whatever gone s other)

  pub end-spares : (gone : ℕ) (p : TracedProcess) (status : ℕ) (s : TracedSystem)
      → Spares s (with_this_ended traced gone p status s)
  end-spares gone p status s = spared s _ (end-passes pid Whatever gone p status s (λ same. tt))

  pub generated-spares : (target : ℕ) (own : Option ℕ) (g : Sig) (info : Info) (s : TracedSystem)
      → Spares s (generated traced target own g info s)
  generated-spares target own g info s = spared s _ (generated-passes pid Whatever target own g info s tt)

-- ---- what others do

any-change : (pid : ℕ) (c : Change) → others.TellsBy undisturbed-left pid ByKill refl c
any-change pid (signals target g info) = λ same. tt
any-change pid _ = tt

-- a turn of an lwp of another process
pub turn-passes : (s : TracedSystem) (pid acting id : ℕ) (t : LwpTurn) (p : TracedProcess) → IsLawfulSystem s
    → live_process s pid ≡ Some p → acting ≢ pid → turn_of s acting id ≡ Some t → Passes pid ByKill s t.system
turn-passes s pid acting id t p h before other turn =
    others.turn-passes undisturbed-left pid ByKill refl s acting id t p h before other turn
    (λ q l live there i c below. any-change pid (get_or (row_for s acting q id l).transition.changes i c))

pub turn-leaves : (s : TracedSystem) (pid acting id : ℕ) (t : LwpTurn) (p q : TracedProcess) → IsLawfulSystem s
    → live_process s pid ≡ Some p → acting ≢ pid → turn_of s acting id ≡ Some t → live_process t.system pid ≡ Some q
    → IsUndisturbed p q
turn-leaves s pid acting id t p q h before other turn after =
    passed-alone pid ByKill s t.system p q (turn-passes s pid acting id t p h before other turn) before after
