use Rattle.std.proofs.Common.{◌≡◌, ◌≢◌, ℕ, zero, suc, true, false, is_some, Option, Some, None, List, refl, sym, subst}
use Rattle.std.proofs.Common.{ap, ◌∙◌, inl, inr}
use Rattle.std.proofs.lemmas.Bool.{cases_Bool, cases_eq, false≢true}
use Rattle.std.proofs.lemmas.Option.{none-some, same_Some}
use Rattle.std.specs.List.{list_all}
use Rattle.pr_function_laws.specs.OneEvent.{HasOneEventAtMost, met, unmet}
use Rattle.pr_hidden.specs.Covers.{Cover, Patch}
use Rattle.pr_hidden.specs.Hiders.{patch_at}
use Rattle.pr_lawful.proofs.ProcessParts.FileLemmas.{choice}
use Rattle.pr_laws.proofs.RunLemmas.{representative-stands}
use Rattle.pr_model.specs.Registers.{pc_of}
use Rattle.pr_model.specs.Running.{if_all_requested, if_flag, let_go, run_lwp, runs_one, shows_run, was_requested}
use Rattle.pr_model.specs.Running.{with_abort, with_abort_from, with_aborted, with_all_run, with_cleared}
use Rattle.pr_model.specs.Running.{with_directive, with_flags_on, with_one_run, with_representative_run, with_request}
use Rattle.pr_model.specs.Running.{with_run, with_step, without_current, without_directive, without_fault}
use Rattle.pr_model.specs.Running.{without_request}
use Rattle.pr_model.specs.State.{TracedLwp, TracedProcess, has_agent, lwp_of, with_lwp}
use Rattle.pr_model.specs.Stops.{representative}
use Rattle.pr_model.specs.declared.lwps.Phase.{Phase}
use Rattle.pr_model.specs.declared.lwps.Phase.TheVariants.{Asleep, Entered, Exiting, Faulted as AtFault, User}
use Rattle.pr_model.specs.declared.stops.Stop.{Stop}
use Rattle.pr_model.specs.declared.stops.Stop.TheVariants as stop
use Rattle.pr_num.proofs.ByIdLaws.{under-change_under, under-change_under_other, under-map_each}
use Rattle.pr_num.specs.ById.{IsRising, change_under, map_each, under}
use Rattle.pr_num.specs.Control.{abort_call, clear_fault, clear_signal, has_flags, single_step, stop_again}
use Rattle.pr_num.specs.declared.faults.Flt.{Flt}
use Rattle.pr_num.specs.declared.faults.Flt.TheVariants.{Bpt, Trace}
use Rattle.pr_report_laws.proofs.Machine.StoppedLaws.{none-under, waits-first}
use Rattle.pr_report_laws.specs.AtBirth.{has_met, is_met_if, met_in}
use Rattle.pr_truss_laws.proofs.EventStops.BridgeLemmas.{mapped-some}
use Rattle.pr_truss_laws.specs.Stills.{IsFrozen, IsUndisturbed}

-- The lwps of a process that stand at a fault of one who hides, and what PCRUN makes of them.

-- ---- what is said of them

-- an lwp of a process stands at a fault that counts as that of one who hides
pub record StandsAtOwn (c : Cover) (p : TracedProcess) (id : ℕ) : Type 0 where
  pub lwp : TracedLwp
  pub there : lwp_of p id ≡ Some lwp
  pub own : c.faulted id ≡ true
  pub fault : Flt
  pub address : ℕ
  pub phase : lwp.phase ≡ AtFault fault address

-- no lwp does
abbrev pub HasNoOwn : Cover → TracedProcess → Type 0
HasNoOwn c p = (id : ℕ) → StandsAtOwn c p id → ⊥

-- it is a trace trap, or the breakpoint stands at the address where the lwp is
pub data IsOwnKind (c : Cover) (l : TracedLwp) (f : Flt) : Type 0 where
  trap : f ≡ Trace → IsOwnKind c l f
  planted : (patch : Patch) → f ≡ Bpt → patch_at (pc_of l.regs) c.patches ≡ Some patch → IsOwnKind c l f

-- each lwp that does stands on the stop of that fault, and has its kind
abbrev pub OwnStand : Cover → TracedProcess → Type 0
OwnStand c p =
    (id : ℕ) (w : StandsAtOwn c p id)
    → (w.lwp.control.stop ≡ Some (stop.Faulted w.fault)) × IsOwnKind c w.lwp w.fault

-- the same, of whatever kind the fault is
abbrev pub OwnStops : Cover → TracedProcess → Type 0
OwnStops c p = (id : ℕ) (w : StandsAtOwn c p id) → w.lwp.control.stop ≡ Some (stop.Faulted w.fault)

-- it stands on that stop, and these run flags clear the fault
abbrev pub OwnCleared : ℕ → Cover → TracedProcess → Type 0
OwnCleared flags c p =
    (id : ℕ) (w : StandsAtOwn c p id)
    → (w.lwp.control.stop ≡ Some (stop.Faulted w.fault)) × (has_flags flags clear_fault ≡ true)

-- where none is at such a fault that counts so
pub clean-none : (c : Cover) (p : TracedProcess) → ((id : ℕ) → c.faulted id ≡ false) → HasNoOwn c p
clean-none c p clean id w = false≢true (sym (clean id) ∙ w.own)

pub none-stand : (c : Cover) (p : TracedProcess) → HasNoOwn c p → OwnStand c p
none-stand c p none id w = absurd (none id w)

pub none-cleared : (flags : ℕ) (c : Cover) (p : TracedProcess) → HasNoOwn c p → OwnCleared flags c p
none-cleared flags c p none id w = absurd (none id w)

-- ---- a process whose lwps stay, or that others left alone

-- Each lwp of a process was there before, at the same phase, on the same stop, and with the same registers.
abbrev pub AreOld : TracedProcess → TracedProcess → Type 0
AreOld p q =
    (id : ℕ) (k : TracedLwp) → lwp_of q id ≡ Some k
    → (l : TracedLwp)
    × ((lwp_of p id ≡ Some l)
    × ((k.phase ≡ l.phase) × ((k.control.stop ≡ l.control.stop) × (k.regs ≡ l.regs))))

pub lwps-old : (p q : TracedProcess) → q.lwps ≡ p.lwps → AreOld p q
lwps-old p q same id k there = (k, (ap (under id) (sym same) ∙ there, (refl, (refl, refl))))

pub alone-old : (p q : TracedProcess) → IsUndisturbed p q → AreOld p q
alone-old p q alone id k there =
    let was = alone.each id k there in (
      was.0,
      (
        was.1.0,
        (
          ap (λ (x : TracedLwp). x.phase) was.1.1,
          (ap (λ (x : TracedLwp). x.control.stop) was.1.1, ap (λ (x : TracedLwp). x.regs) was.1.1),
        ),
      ),
    )

-- an lwp of it that is at a fault was at it before, on the same stop
abbrev pub FaultsStay : TracedProcess → TracedProcess → Type 0
FaultsStay p q =
    (id : ℕ) (k : TracedLwp) (f : Flt) (a : ℕ) → lwp_of q id ≡ Some k → k.phase ≡ AtFault f a
    → (l : TracedLwp)
    × ((lwp_of p id ≡ Some l) × ((l.phase ≡ AtFault f a) × (k.control.stop ≡ l.control.stop)))

pub faults-same : (p : TracedProcess) → FaultsStay p p
faults-same p id k f a there at = (k, (there, (at, refl)))

pub faults-join : (p q r : TracedProcess) → FaultsStay p q → FaultsStay q r → FaultsStay p r
faults-join p q r one two id k f a there at =
    let b = two id k f a there at in
    let c = one id b.0 f a b.1.0 b.1.1.0 in
    (c.0, (c.1.0, (c.1.1.0, b.1.1.1 ∙ c.1.1.1)))

pub faults-old : (p q : TracedProcess) → AreOld p q → FaultsStay p q
faults-old p q old id k f a there at =
    let was = old id k there in (was.0, (was.1.0, (sym was.1.1.0 ∙ at, was.1.1.1.0)))

-- the same lwps count so later
abbrev pub CountLess : Cover → Cover → Type 0
CountLess c d = (id : ℕ) → d.faulted id ≡ true → c.faulted id ≡ true

-- where each lwp that stands at such a fault stays on its stop
pub stops-stay : (c d : Cover) (p q : TracedProcess) → CountLess c d → FaultsStay p q → OwnStops c p → OwnStops d q
stops-stay c d p q less stay all id w =
    let was = stay id w.lwp w.fault w.address w.there w.phase in
    was.1.1.1
    ∙ all id (record {
      lwp = was.0;
      there = was.1.0;
      own = less id w.own;
      fault = w.fault;
      address = w.address;
      phase = was.1.1.0;
    })

-- where none counts so, none does later
pub less-clean : (c d : Cover) → CountLess c d → ((id : ℕ) → c.faulted id ≡ false) → (id : ℕ) → d.faulted id ≡ false
less-clean c d less clean id = elim (cases_Bool (d.faulted id)) [
  | inl is ↦ absurd (false≢true (sym (clean id) ∙ less id is))
  | inr off ↦ off
]

module _ (c d : Cover) (p q : TracedProcess) (less : CountLess c d) (old : AreOld p q) where
  -- it stood there before
  pub was-own : (id : ℕ) (w : StandsAtOwn d q id)
      → (v : StandsAtOwn c p id)
      × ((v.fault ≡ w.fault)
      × ((w.lwp.control.stop ≡ v.lwp.control.stop) × (w.lwp.regs ≡ v.lwp.regs)))
  was-own id w =
      let was = old id w.lwp w.there in (
        record {
          lwp = was.0;
          there = was.1.0;
          own = less id w.own;
          fault = w.fault;
          address = w.address;
          phase = sym was.1.1.0 ∙ w.phase;
        },
        (refl, was.1.1.1),
      )

  pub old-none : HasNoOwn c p → HasNoOwn d q
  old-none none id w = none id (was-own id w).0

  pub old-cleared : (flags : ℕ) → OwnCleared flags c p → OwnCleared flags d q
  old-cleared flags all id w =
      let was = was-own id w in
      let it = all id was.0 in
      (was.1.1.0 ∙ it.0 ∙ ap (λ f. Some (stop.Faulted f)) was.1.0, it.1)

  -- where the breakpoints stand that stood before
  pub old-stand : ((at : ℕ) (patch : Patch) → patch_at at c.patches ≡ Some patch
      → (other : Patch) × (patch_at at d.patches ≡ Some other)) → OwnStand c p → OwnStand d q
  old-stand stays all id w =
      let was = was-own id w in
      let it = all id was.0 in
      (was.1.1.0 ∙ it.0 ∙ ap (λ f. Some (stop.Faulted f)) was.1.0, by was.1.0 was.1.1.1 it.1)
    where
      by : {f : Flt} {l : TracedLwp} → f ≡ w.fault → w.lwp.regs ≡ l.regs → IsOwnKind c l f
          → IsOwnKind d w.lwp w.fault
      by same regs (trap is) = trap (sym same ∙ is)
      by same regs (planted patch is there) =
          let later = stays (pc_of w.lwp.regs) patch
          (ap (λ (rs : List ℕ). patch_at (pc_of rs) c.patches) regs ∙ there) in
          planted later.0 (sym same ∙ is) later.1

-- ---- an lwp that PCRUN leaves at a fault

pub never-cleared : (l : TracedLwp) (f : Flt) (a : ℕ) → (without_fault l).phase ≡ AtFault f a → ⊥
unfolding without_fault
never-cleared l f a at = by l.phase at
  where
    by : (phase : Phase) → (without_fault (record l { phase = phase })).phase ≡ AtFault f a → ⊥
    by User is = cc
    by (Entered call) is = cc
    by (Asleep call args since) is = cc
    by (Exiting call args result) is = cc
    by (AtFault g b) is = cc

module _ (flags : ℕ) (f : Flt) (a : ℕ) where
  -- it was at that fault, and the flags do not clear it
  abbrev Left : TracedLwp → Type 0
  Left l = (l.phase ≡ AtFault f a) × (has_flags flags clear_fault ≡ false)

  cleared-left : (l : TracedLwp) → (with_cleared flags l).phase ≡ AtFault f a → Left l
  unfolding with_cleared without_current
  cleared-left l =
      choice (λ (y : TracedLwp). y.phase ≡ AtFault f a → Left l) (has_flags flags clear_fault)
      (without_fault signalless)
      signalless (λ set at. absurd (never-cleared signalless f a at)) (λ unset at. (sym same ∙ at, unset))
    where
      signalless : TracedLwp
      signalless = if_flag flags clear_signal without_current l

      same : signalless.phase ≡ l.phase
      same =
          choice (λ (y : TracedLwp). y.phase ≡ l.phase) (has_flags flags clear_signal) (without_current l) l
          (λ set. refl) (λ unset. refl)

  aborted-same : (from : Option Stop) (l : TracedLwp) → (with_aborted flags from l).phase ≡ l.phase
  unfolding with_aborted with_abort
  aborted-same from l =
      choice (λ (y : TracedLwp). y.phase ≡ l.phase) (has_flags flags abort_call) (with_abort_from from l) l
      (λ set. choice (λ (y : TracedLwp). y.phase ≡ l.phase) _ (with_abort l) l (λ yes. refl) (λ no. refl))
      (λ unset. refl)

  flagged-left : (l : TracedLwp) → (with_flags_on flags l).phase ≡ AtFault f a → Left l
  unfolding with_flags_on
  flagged-left l at = cleared-left l (sym (aborted-same l.control.stop (with_cleared flags l)) ∙ at)

  ran-left : (l : TracedLwp) → (run_lwp flags l).phase ≡ AtFault f a → Left l
  unfolding run_lwp let_go with_directive with_step
  ran-left l at = cleared-left (let_go l) (sym same ∙ at)
    where
      cleared : TracedLwp
      cleared = with_cleared flags (let_go l)

      stepped : TracedLwp
      stepped = if_flag flags single_step with_step cleared

      aborted : TracedLwp
      aborted = with_aborted flags l.control.stop stepped

      same : (run_lwp flags l).phase ≡ cleared.phase
      same =
          choice (λ (y : TracedLwp). y.phase ≡ aborted.phase) (has_flags flags stop_again) (with_directive aborted)
          aborted (λ set. refl) (λ unset. refl)
          ∙ aborted-same l.control.stop stepped
          ∙ choice (λ (y : TracedLwp). y.phase ≡ cleared.phase) (has_flags flags single_step) (with_step cleared)
          cleared (λ set. refl) (λ unset. refl)

request-same : (l : TracedLwp) → (with_request l).phase ≡ l.phase
unfolding with_request
request-same l =
    choice (λ (y : TracedLwp). y.phase ≡ l.phase) (is_some l.control.stop)
    (record l { control = record l.control { stop = Some stop.Requested } }) l (λ yes. refl) (λ no. refl)

over-same : (l : TracedLwp) → (without_request l).phase ≡ l.phase
unfolding without_request
over-same l =
    choice (λ (y : TracedLwp). y.phase ≡ l.phase) (was_requested l.control.stop)
    (record l { control = record l.control { stop = None } }) l (λ yes. refl) (λ no. refl)

-- ---- PCRUN on a process

module _ (flags : ℕ) (p : TracedProcess) (rises : IsRising p.lwps) (n : ℕ) (f : Flt) (a : ℕ) where
  -- the lwp of this id was at that fault, and where it is the representative the flags do not clear it
  abbrev Kept : Type 0
  Kept =
      (l : TracedLwp)
      × ((lwp_of p n ≡ Some l)
      × ((l.phase ≡ AtFault f a)
      × ((e : ℕ × TracedLwp) → representative p ≡ Some e → e.0 ≡ n → has_flags flags clear_fault ≡ false)))

  abbrev KeptIn : List (ℕ × TracedLwp) → Type 0
  KeptIn es = (k : TracedLwp) → under n es ≡ Some k → k.phase ≡ AtFault f a → Kept

  mapped-kept : (g : TracedLwp → TracedLwp) → ((l : TracedLwp) → (g l).phase ≡ l.phase) → (es : List (ℕ × TracedLwp))
      → KeptIn es → KeptIn (map_each g es)
  mapped-kept g same es all k there at =
      let m = mapped-some g (under n es) k (sym (under-map_each n g es) ∙ there) in
      all m.0 m.1.0 (sym (same m.0) ∙ ap (λ (x : TracedLwp). x.phase) m.1.1 ∙ at)

  changed-own : (g : TracedLwp → TracedLwp) (es : List (ℕ × TracedLwp)) (id : ℕ) (k : TracedLwp) → id ≡ n
      → under n (change_under id g es) ≡ Some k → (m : TracedLwp) × ((under n es ≡ Some m) × (g m ≡ k))
  changed-own g es id k same there =
      mapped-some g (under n es) k
      (sym (under-change_under n g es) ∙ subst (λ i. under n (change_under i g es) ≡ Some k) same there)

  -- where another one is the representative
  other-kept : (e : ℕ × TracedLwp) → representative p ≡ Some e → e.0 ≢ n → KeptIn p.lwps
  other-kept e leads apart k there at = (
    k,
    (
      there,
      (
        at,
        λ x is own. absurd
            (apart (ap (λ (y : ℕ × TracedLwp). y.0) (same_Some e x (sym leads ∙ is)) ∙ own)),
      ),
    ),
  )

  flags-kept : (g : TracedLwp → TracedLwp)
      → ((l : TracedLwp) → (g l).phase ≡ AtFault f a → Left flags f a l) → (e : ℕ × TracedLwp)
      → representative p ≡ Some e → KeptIn (change_under e.0 g p.lwps)
  flags-kept g left e leads k there at = elim (cases_eq e.0 n) [
    | inl same ↦ own same
    | inr apart ↦ other-kept e leads apart k (sym (under-change_under_other e.0 n g apart p.lwps) ∙ there) at
  ]
    where
      own : e.0 ≡ n → Kept
      own same =
          let m = changed-own g p.lwps e.0 k same there in
          let was = left m.0 (ap (λ (x : TracedLwp). x.phase) m.1.1 ∙ at) in
          (m.0, (m.1.0, (was.0, λ x is it. was.1)))

  led-kept : (r : Option (ℕ × TracedLwp)) → representative p ≡ r → KeptIn (with_representative_run flags r p.lwps)
  unfolding without_directive
  led-kept None leads k there at =
      mapped-kept without_directive (λ l. refl) p.lwps (λ j here its. (
        j,
        (here, (its, λ x is own. absurd (none-some x (sym leads ∙ is)))),
      )) k there at
  led-kept (Some e) leads k there at = elim (cases_eq e.0 n) [
    | inl same ↦
        (let m = changed-own with_request undirected e.0 k same there in
        before m.0 m.1.0 (sym (request-same m.0) ∙ ap (λ (x : TracedLwp). x.phase) m.1.1 ∙ at))
    | inr apart ↦ before k (sym (under-change_under_other e.0 n with_request apart undirected) ∙ there) at
  ]
    where
      undirected : List (ℕ × TracedLwp)
      undirected = map_each without_directive (change_under e.0 (with_flags_on flags) p.lwps)

      before : KeptIn undirected
      before =
          mapped-kept without_directive (λ l. refl) (change_under e.0 (with_flags_on flags) p.lwps)
          (flags-kept (with_flags_on flags) (flagged-left flags f a) e leads)

  all-kept : KeptIn (with_all_run flags p).lwps
  unfolding with_all_run if_all_requested
  all-kept =
      let led : List (ℕ × TracedLwp) = with_representative_run flags (representative p) p.lwps in
      choice KeptIn (list_all (shows_run p.job_stop) led) (map_each without_request led) led
      (λ over. mapped-kept without_request over-same led (led-kept (representative p) refl))
      (λ more. led-kept (representative p) refl)

  one-kept : (r : Option (ℕ × TracedLwp)) → representative p ≡ r → KeptIn (with_one_run flags r p).lwps
  unfolding with_lwp
  one-kept None leads k there at = (k, (there, (at, λ x is own. absurd (none-some x (sym leads ∙ is)))))
  one-kept (Some e) leads k there at = flags-kept (run_lwp flags) (ran-left flags f a) e leads k there at

  -- an lwp that is at a fault once the process is run
  pub run-kept : KeptIn (with_run flags p).lwps
  unfolding with_run
  run-kept =
      choice (λ (x : TracedProcess). KeptIn x.lwps) (runs_one flags) (with_one_run flags (representative p) p)
      (with_all_run flags p) (λ one. one-kept (representative p) refl) (λ many. all-kept)

-- Where each lwp at such a fault is the representative, and the flags clear it, none is left at one.
pub run-none : (flags : ℕ) (c : Cover) (p : TracedProcess) → IsRising p.lwps → OwnCleared flags c p
    → ((id : ℕ) (w : StandsAtOwn c p id) → representative p ≡ Some (id, w.lwp)) → HasNoOwn c (with_run flags p)
run-none flags c p rises all leads id w =
    let was = run-kept flags p rises id w.fault w.address w.lwp w.there w.phase in
    let v : StandsAtOwn c p id = record {
      lwp = was.0;
      there = was.1.0;
      own = w.own;
      fault = w.fault;
      address = w.address;
      phase = was.1.1.0;
    }
    in false≢true (sym (was.1.1.1 (id, was.0) (leads id v) refl) ∙ (all id v).1)

-- ---- which lwp it is

-- it met an event
pub own-met : (l : TracedLwp) (f : Flt) → l.control.stop ≡ Some (stop.Faulted f) → has_met l ≡ true
own-met l f is = ap is_met_if is

-- Where at most one lwp of a process that stands still met an event, the one at such a fault is the representative.
pub own-leads : (p : TracedProcess) (id : ℕ) (l : TracedLwp) → IsRising p.lwps → has_agent p ≡ false → IsFrozen p
    → HasOneEventAtMost p → lwp_of p id ≡ Some l → has_met l ≡ true → representative p ≡ Some (id, l)
own-leads p id l rises no_agent frozen (unmet none) there was =
    absurd (false≢true (sym (none id l there) ∙ was))
own-leads p id l rises no_agent frozen (met one alone) there was = by (met_in p) refl
  where
    by : (n : ℕ) → met_in p ≡ n → representative p ≡ Some (id, l)
    by zero is =
        absurd (false≢true (sym (none-under (λ (e : ℕ × TracedLwp). has_met e.1) id l p.lwps there is) ∙ was))
    by (suc n) is =
        let first = waits-first p rises no_agent n (record { frozen = frozen; count = is }) in
        let stands = representative-stands p first.lwp rises first.is in
        let own : first.lwp.0 ≡ id = same first.lwp.0 first.lwp.1 id l stands first.met there was in
        let lwp : first.lwp.1 ≡ l =
        same_Some first.lwp.1 l (sym stands ∙ ap (lwp_of p) own ∙ there) in
        first.is ∙ ap (λ i. Some (i, first.lwp.1)) own ∙ ap (λ (x : TracedLwp). Some (id, x)) lwp
      where
        at-one : (n : ℕ) (k : TracedLwp) → lwp_of p n ≡ Some k → has_met k ≡ true → n ≡ one
        at-one n k at it = elim (cases_eq n one) [
          | inl here ↦ here
          | inr apart ↦ absurd (false≢true (sym (let held = alone.others n k apart at in held.met_nothing) ∙ it))
        ]

        same : (n : ℕ) (k : TracedLwp) (m : ℕ) (j : TracedLwp) → lwp_of p n ≡ Some k → has_met k ≡ true
            → lwp_of p m ≡ Some j → has_met j ≡ true → n ≡ m
        same n k m j at it there_m its = at-one n k at it ∙ sym (at-one m j there_m its)
