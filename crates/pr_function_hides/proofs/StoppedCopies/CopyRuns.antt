use Rattle.std.proofs.Common.{◌≡◌, ℕ, Bool, true, false, cond, is_some, None, Some, Option, List, refl, sym, subst, ap, ◌∙◌, inl, inr}
use Rattle.std.proofs.lemmas.Bool.{cases_eq, false≢true}
use Rattle.std.proofs.lemmas.Option.{same_Some}
use Rattle.std.specs.List.{list_all}
use Rattle.pr_laws.proofs.RunLemmas.{representative-stands}
use Rattle.pr_lawful.proofs.ProcessParts.FileLemmas.{choice}
use Rattle.pr_model.specs.Running.{if_all_requested, if_flag, let_go, run_lwp, runs_one, shows_run, was_requested, with_abort, with_abort_from, with_aborted, with_all_run, with_cleared, with_directive, with_flags_on, with_one_run, with_representative_run, with_request, with_run, with_step, without_current, without_directive, without_fault, without_request}
use Rattle.pr_model.specs.State.{TracedLwp, TracedProcess, lwp_of, with_lwp}
use Rattle.pr_model.specs.Stops.{representative}
use Rattle.pr_model.specs.declared.lwps.Phase.{Phase}
use Rattle.pr_model.specs.declared.lwps.Phase.TheVariants.{Asleep, Entered, Exiting, Faulted, User}
use Rattle.pr_model.specs.declared.stops.Stop.{Stop}
use Rattle.pr_model.specs.declared.stops.Stop.TheVariants as stop
use Rattle.pr_num.proofs.ByIdLaws.{under-change_under, under-change_under_other, under-map_each}
use Rattle.pr_num.specs.ById.{IsRising, change_under, map_each, under}
use Rattle.pr_num.specs.Control.{abort_call, clear_fault, clear_signal, has_flags, single_step, stop_again}
use Rattle.pr_truss_laws.proofs.EventStops.BridgeLemmas.{mapped-some}
use Rattle.pr_function_hides.proofs.StoppedCopies.CopyTurns.{alike-clear, free-clear}
use Rattle.pr_function_hides.specs.Copying.{HasNoCopyGoing, HaveNoCopyGoing, IsNot, is_in_copy}

-- PCRUN, with whatever run flags, lets no lwp make a fork, a vfork or an exec but the representative of its process.

-- ---- an lwp that is run

abbrev pub IsOut : TracedLwp → Type 0
IsOut k = is_in_copy k.phase ≡ false

abbrev IsFree : TracedLwp → Type 0
IsFree k = k.control.stop ≡ None

pub fault-out : (l : TracedLwp) → IsOut l → IsOut (without_fault l)
unfolding without_fault
fault-out l out = by l.phase out
  where
    by : (phase : Phase) → is_in_copy phase ≡ false → IsOut (without_fault (record l { phase = phase }))
    by User is = is
    by (Entered call) is = is
    by (Asleep call args since) is = is
    by (Exiting call args result) is = is
    by (Faulted f address) is = refl

module _ (X : TracedLwp → Type 0) where
  flagged : (flags flag : ℕ) (f : TracedLwp → TracedLwp) (k : TracedLwp) → ((m : TracedLwp) → X m → X (f m)) → X k
      → X (if_flag flags flag f k)
  flagged flags flag f k keeps it = choice X (has_flags flags flag) (f k) k (λ set. keeps k it) (λ unset. it)

  -- what the flags do leaves so
  pub record IsFlagKept : Type 0 where
    pub directed : (k : TracedLwp) → X k → X (with_directive k)
    pub stepped : (k : TracedLwp) → X k → X (with_step k)
    pub aborted : (k : TracedLwp) → X k → X (with_abort k)
    pub faultless : (k : TracedLwp) → X k → X (without_fault k)
    pub signalless : (k : TracedLwp) → X k → X (without_current k)

  module _ (kept : IsFlagKept) where
    pub cleared-so : (flags : ℕ) (k : TracedLwp) → X k → X (with_cleared flags k)
    unfolding with_cleared
    cleared-so flags k it =
        flagged flags clear_fault without_fault _ kept.faultless
        (flagged flags clear_signal without_current k kept.signalless it)

    pub aborted-so : (flags : ℕ) (stopped : Option Stop) (k : TracedLwp) → X k → X (with_aborted flags stopped k)
    unfolding with_aborted
    aborted-so flags stopped k it =
        flagged flags abort_call (with_abort_from stopped) k
        (λ m so. choice X _ (with_abort m) m (λ yes. kept.aborted m so) (λ no. so)) it

    pub run-so : (flags : ℕ) (l : TracedLwp) → X (let_go l) → X (run_lwp flags l)
    unfolding run_lwp
    run-so flags l it =
        flagged flags stop_again with_directive _ kept.directed
        (aborted-so flags l.control.stop _
        (flagged flags single_step with_step _ kept.stepped (cleared-so flags (let_go l) it)))

pub out-kept : IsFlagKept IsOut
unfolding with_directive with_step with_abort without_current
out-kept = record {
  directed = λ k it. it;
  stepped = λ k it. it;
  aborted = λ k it. it;
  faultless = fault-out;
  signalless = λ k it. it;
}

free-kept : IsFlagKept IsFree
unfolding with_directive with_step with_abort without_current without_fault
free-kept = record {
  directed = λ k it. it;
  stepped = λ k it. it;
  aborted = λ k it. it;
  faultless = λ k it. it;
  signalless = λ k it. it;
}

run-clear-lwp : (flags : ℕ) (l : TracedLwp) → IsOut l → HasNoCopyGoing (run_lwp flags l)
unfolding let_go
run-clear-lwp flags l out =
    free-clear (run_lwp flags l) (run-so IsFree free-kept flags l refl) (run-so IsOut out-kept flags l out)

-- its stop, if it has one, is a requested one from now on
request-clear : (l : TracedLwp) → IsOut l → HasNoCopyGoing (with_request l)
unfolding with_request
request-clear l out = by (is_some l.control.stop) refl
  where
    none_there : (o : Option Stop) → is_some o ≡ false → o ≡ None
    none_there None is = refl
    none_there (Some t) is = cc

    by : (b : Bool) → is_some l.control.stop ≡ b
        → HasNoCopyGoing (cond b (record l { control = record l.control { stop = Some stop.Requested } }) l)
    by true is = record { waits = λ at. absurd (false≢true (sym out ∙ at)); left_none = refl }
    by false is = free-clear l (none_there l.control.stop is) out

-- a requested stop is over
over-clear : (l : TracedLwp) → HasNoCopyGoing l → HasNoCopyGoing (without_request l)
unfolding without_request
over-clear l h =
    choice HasNoCopyGoing (was_requested l.control.stop) (record l { control = record l.control { stop = None } }) l
    (λ was. record {
      waits = λ is. (let w = h.waits is in absurd (false≢true (sym (ap was_requested w.stop) ∙ was)));
      left_none = refl;
    }) (λ not. h)

-- ---- PCRUN

-- the id of the representative
abbrev pub leader : Option (ℕ × TracedLwp) → Option ℕ
leader None = None
leader (Some e) = Some e.0

-- the representative is at no such call, where it is asked of it
abbrev pub IsLeaderOut : Option ℕ → Option (ℕ × TracedLwp) → Type 0
IsLeaderOut later None = Unit {0}
IsLeaderOut later (Some e) = IsNot later e.0 → IsOut e.1

module _ (but later : Option ℕ) (flags : ℕ) (p : TracedProcess) (rises : IsRising p.lwps)
    (all : HaveNoCopyGoing but p) where
  abbrev Now : List (ℕ × TracedLwp) → Type 0
  Now es = (n : ℕ) (k : TracedLwp) → IsNot later n → under n es ≡ Some k → HasNoCopyGoing k

  -- of each but the representative that is asked for later it was so before
  abbrev AreAsked : Option (ℕ × TracedLwp) → Type 0
  AreAsked r = (n : ℕ) → IsNot later n → IsNot (leader r) n → IsNot but n

  undirected-clear : (es : List (ℕ × TracedLwp)) (n : ℕ) (k : TracedLwp)
      → ((m : TracedLwp) → under n es ≡ Some m → HasNoCopyGoing m) → under n (map_each without_directive es) ≡ Some k
      → HasNoCopyGoing k
  unfolding without_directive
  undirected-clear es n k on there =
      let m = mapped-some without_directive (under n es) k (sym (under-map_each n without_directive es) ∙ there) in
      subst HasNoCopyGoing m.1.1 (alike-clear m.0 (without_directive m.0) refl refl (on m.0 m.1.0))

  changed-own : (f : TracedLwp → TracedLwp) (es : List (ℕ × TracedLwp)) (id n : ℕ) (k : TracedLwp) → id ≡ n
      → under n (change_under id f es) ≡ Some k → (m : TracedLwp) × ((under n es ≡ Some m) × (f m ≡ k))
  changed-own f es id n k same there =
      mapped-some f (under n es) k
      (sym (under-change_under n f es) ∙ subst (λ i. under n (change_under i f es) ≡ Some k) same there)

  led-clear : (r : Option (ℕ × TracedLwp)) → representative p ≡ r → AreAsked r → IsLeaderOut later r
      → Now (with_representative_run flags r p.lwps)
  unfolding with_flags_on without_directive
  led-clear None leads asked out n k other there =
      undirected-clear p.lwps n k (λ m at. all.each n m (asked n other tt) at) there
  led-clear (Some e) leads asked out n k other there = elim (cases_eq e.0 n) [
    | inl same ↦ own same
    | inr apart ↦ undirected-clear flagged_now n k
        (λ m at. all.each n m (asked n other (λ is. apart (sym is)))
        (sym (under-change_under_other e.0 n (with_flags_on flags) apart p.lwps) ∙ at))
        (sym (under-change_under_other e.0 n with_request apart undirected) ∙ there)
  ]
    where
      flagged_now : List (ℕ × TracedLwp)
      flagged_now = change_under e.0 (with_flags_on flags) p.lwps

      undirected : List (ℕ × TracedLwp)
      undirected = map_each without_directive flagged_now

      own : e.0 ≡ n → HasNoCopyGoing k
      own same =
          let a = changed-own with_request undirected e.0 n k same there in
          let b =
          mapped-some without_directive (under n flagged_now) a.0
          (sym (under-map_each n without_directive flagged_now) ∙ a.1.0) in
          let c = changed-own (with_flags_on flags) p.lwps e.0 n b.0 same b.1.0 in
          let first : lwp_of p n ≡ Some e.1 = subst (λ i. lwp_of p i ≡ Some e.1) same (representative-stands p e rises
          leads) in
          let is : e.1 ≡ c.0 = same_Some e.1 c.0 (sym first ∙ c.1.0) in
          let was : IsOut c.0 = subst IsOut is (out (subst (IsNot later) (sym same) other)) in
          let set : IsOut b.0 =
          subst IsOut c.1.1
          (aborted-so IsOut out-kept flags c.0.control.stop _ (cleared-so IsOut out-kept flags c.0 was)) in
          let it : IsOut a.0 = subst IsOut b.1.1 set in subst HasNoCopyGoing a.1.1 (request-clear a.0 it)

  all-clear : (r : Option (ℕ × TracedLwp)) → representative p ≡ r → AreAsked r → IsLeaderOut later r
      → HaveNoCopyGoing later (with_all_run flags p)
  unfolding with_all_run if_all_requested
  all-clear r leads asked out =
      let led : List (ℕ × TracedLwp) = with_representative_run flags (representative p) p.lwps in
      let now : Now led =
      subst (λ (x : Option (ℕ × TracedLwp)). Now (with_representative_run flags x p.lwps)) (sym leads)
      (led-clear r leads asked out) in
      choice (λ (es : List (ℕ × TracedLwp)). HaveNoCopyGoing later (record p { lwps = es }))
      (list_all (shows_run p.job_stop) led) (map_each without_request led) led
      (λ over. record {
        each = λ n k other there.
            let m = mapped-some without_request (under n led) k (sym (under-map_each n without_request led) ∙ there) in
            subst HasNoCopyGoing m.1.1 (over-clear m.0 (now n m.0 other m.1.0));
      }) (λ more. record { each = λ n k other there. now n k other there })

  one-clear : (r : Option (ℕ × TracedLwp)) → representative p ≡ r → AreAsked r → IsLeaderOut later r
      → HaveNoCopyGoing later (with_one_run flags r p)
  unfolding with_lwp
  one-clear None leads asked out = record { each = λ n k other there. all.each n k (asked n other tt) there }
  one-clear (Some e) leads asked out = record {
    each = λ n k other there. elim (cases_eq e.0 n) [
      | inl same ↦ own n k other same there
      | inr apart ↦ all.each n k (asked n other (λ is. apart (sym is)))
          (sym (under-change_under_other e.0 n (run_lwp flags) apart p.lwps) ∙ there)
    ];
  }
    where
      own : (n : ℕ) (k : TracedLwp) → IsNot later n → e.0 ≡ n
          → under n (change_under e.0 (run_lwp flags) p.lwps) ≡ Some k → HasNoCopyGoing k
      own n k other same there =
          let c = changed-own (run_lwp flags) p.lwps e.0 n k same there in
          let first : lwp_of p n ≡ Some e.1 = subst (λ i. lwp_of p i ≡ Some e.1) same (representative-stands p e rises
          leads) in
          let is : e.1 ≡ c.0 = same_Some e.1 c.0 (sym first ∙ c.1.0) in
          subst HasNoCopyGoing c.1.1
          (run-clear-lwp flags c.0 (subst IsOut is (out (subst (IsNot later) (sym same) other))))

  pub run-clear : (r : Option (ℕ × TracedLwp)) → representative p ≡ r → AreAsked r → IsLeaderOut later r
      → HaveNoCopyGoing later (with_run flags p)
  unfolding with_run
  run-clear r leads asked out =
      choice (HaveNoCopyGoing later) (runs_one flags) (with_one_run flags (representative p) p) (with_all_run flags p)
      (λ one. subst (λ (x : Option (ℕ × TracedLwp)). HaveNoCopyGoing later (with_one_run flags x p)) (sym leads)
      (one-clear r leads asked out)) (λ many. all-clear r leads asked out)

-- ---- which one goes on

module _ (p : TracedProcess) (flags : ℕ) (e : ℕ × TracedLwp) (rises : IsRising p.lwps)
    (leads : representative p ≡ Some e) where
  -- that of the representative at most
  pub one-goes : HaveNoCopyGoing None p → HaveNoCopyGoing (Some e.0) (with_run flags p)
  one-goes all =
      run-clear None (Some e.0) flags p rises all (Some e) leads (λ n other apart. tt) (λ own. absurd (own refl))

  -- none where that is at none
  pub none-goes : (but : Option ℕ) → is_in_copy e.1.phase ≡ false → HaveNoCopyGoing but p
      → HaveNoCopyGoing but (with_run flags p)
  none-goes but out all =
      run-clear but but flags p rises all (Some e) leads (λ n other apart. other) (λ own. out)

  -- and its own is over then
  pub own-over : is_in_copy e.1.phase ≡ false → HaveNoCopyGoing (Some e.0) p → HaveNoCopyGoing None (with_run flags p)
  own-over out all =
      run-clear (Some e.0) None flags p rises all (Some e) leads (λ n other apart. apart) (λ own. out)

pub ruleset copy_runs = (one-goes, none-goes, own-over)
