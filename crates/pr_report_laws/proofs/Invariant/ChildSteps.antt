use Rattle.std.proofs.Common.{◌≡◌, ◌≢◌, ◌==◌, ◌<◌, ◌+◌, ℕ, Bool, true, false, None, Some, Option, length, refl, sym, subst, ap, ◌∙◌, inl, inr, arith}
use Rattle.std.proofs.lemmas.Bool.{cases_eq, cases_lt}
use Rattle.std.proofs.lemmas.Option.{none-some, same_Some}
use Rattle.pr_line.specs.declared.options.Options.{Options}
use Rattle.pr_model.specs.Replies.{handle_in}
use Rattle.pr_model.specs.State.{TracedProcess, TracedState, live_process}
use Rattle.pr_model.specs.declared.calls.Reply.{Reply}
use Rattle.pr_num.specs.declared.errnos.Errno.{Errno}
use Rattle.pr_num.specs.declared.errnos.Errno.TheVariants.{Noent}
use Rattle.pr_truss.specs.Children.{child_learnt, child_step_after, with_child_answered, with_child_control, with_child_control_answered, with_child_started, with_child_step_answered, with_child_step_done, with_refused_child, with_refused_child_step}
use Rattle.pr_truss.specs.Feeding.{fed, with_reply}
use Rattle.pr_truss.specs.Processes.{newly_traced}
use Rattle.pr_truss.specs.Replies.{answer_of}
use Rattle.pr_truss.specs.Trusses.{TrussState, traced_at, with_opened, with_report, with_stage, with_traced}
use Rattle.pr_truss.specs.declared.processes.Traced.{Traced}
use Rattle.pr_truss.specs.declared.replies.Answer.{Answer}
use Rattle.pr_truss.specs.declared.replies.Answer.TheVariants.{Accepted, Interrupted, Gone, Refused}
use Rattle.pr_truss.specs.declared.reports.Report.TheVariants.{CannotTrace}
use Rattle.pr_truss.specs.declared.stages.AfterClosing.TheVariants.{RunParent}
use Rattle.pr_truss.specs.declared.stages.ChildStep.{ChildStep}
use Rattle.pr_truss.specs.declared.stages.ChildStep.TheVariants as child
use Rattle.pr_truss.specs.declared.stages.Stage.{Stage}
use Rattle.pr_truss.specs.declared.stages.Stage.TheVariants.{OpeningChildControl, OpeningChild, Running, Closing}
use Rattle.pr_truss_laws.proofs.Files.HeldLemmas.{Fits, IsLast}
use Rattle.pr_truss_laws.specs.Stills.{IsQuiet}
use Rattle.pr_report_laws.proofs.Invariant.Tallies.{IsWhole, Tally}
use Rattle.pr_report_laws.proofs.Replies.Moves.{passes-standing}
use Rattle.pr_report_laws.proofs.Replies.NextStages.{prepares-none}
use Rattle.pr_report_laws.proofs.Replies.Orderly.{IsOrderly}
use Rattle.pr_report_laws.proofs.Replies.Places.{by-place, place-pid, place-within}
use Rattle.pr_report_laws.proofs.Replies.TracedPlaces.{none-pid, opened-before, opened-last, opened-length, other-place, same-place, set-here, set-other, set-place}
use Rattle.pr_report_laws.proofs.Invariant.Standing.{Prepares, Standing, apart, goes, has_read, is_named, lives}
use Rattle.pr_report_laws.proofs.Replies.Unwatched.{Agrees, Stands, agreeing-standing, apart-accounted, apart-standing, aside, away-watched, beside, none-watched, passing, prepares-child, stage-away, stage-named, stage-read, unattached-watched}
use Rattle.pr_report_laws.proofs.Invariant.Positions.{IsAtBirth, IsTracedBy}
use Rattle.pr_report_laws.specs.Watching.{is_away, place_of, watches}

-- How truss follows the child of a fork: what each step leaves of the child, of its parent and of the others.

-- ---- the control file of a child

module _ (Why : Type 0) (o : Options) (pid : ℕ) (t : TrussState) (s : TracedState) (tally : Tally)
    (parent of : ℕ) (stage : t.stage ≡ OpeningChildControl parent of) (before : IsOrderly t)
    (standing : Standing Why o pid t s tally) where
  abbrev with_child : ℕ → TrussState
  with_child control =
      with_stage (with_opened t (newly_traced of control)) (OpeningChild parent (length t.traced) child.SetRelease)

  -- a process that truss did not trace is the child, or is not traced now
  new-watched : (control : ℕ) → place_of t pid ≡ None → watches (with_child control) pid ≡ false
  new-watched control none = by (place_of (with_child control) pid) refl
    where
      last : (place : ℕ) → place_of (with_child control) pid ≡ Some place → length t.traced ≡ place
      last place at =
          let new = newly_traced of control in
          let within : place < length t.traced + 1 =
          subst (λ n. place < n) (opened-length t new) (place-within (with_child control) pid place at) in
          elim (cases_lt place (length t.traced)) [
            | inl less ↦ absurd
                (none-pid t pid before none place less
                (ap (λ (x : Traced). x.pid) (sym (opened-before t new place less))
                ∙ place-pid (with_child control) pid place at))
            | inr past ↦ omega arith
          ]

      by : (x : Option ℕ) → place_of (with_child control) pid ≡ x → watches (with_child control) pid ≡ false
      by None is = none-watched (with_child control) pid is
      by (Some place) is =
          away-watched (with_child control) pid place is (same-place (length t.traced) place (last place is))

  -- the child is the last process now
  opened-standing : (control : ℕ) → IsOrderly (with_child control) → Standing Why o pid (with_child control) s tally
  opened-standing control after = by (place_of t pid) refl
    where
      by : (x : Option ℕ) → place_of t pid ≡ x → Standing Why o pid (with_child control) s tally
      by None is =
          apart-standing Why o pid t s tally (with_child control) s (none-watched t pid is)
          (new-watched control is) standing
      by (Some place) is =
          let new = newly_traced of control in
          let within : place < length t.traced = place-within t pid place is in
          let later : place < length (with_child control).traced =
          subst (λ n. place < n) (sym (opened-length t new)) (omega arith) in
          passes-standing Why o pid t (with_child control) s tally place place
          (passing pid t (with_child control) place place after is later (opened-before t new place within)
          (stage-away t (OpeningChildControl parent of) stage place)
          (λ on. other-place (length t.traced) place (λ same. absurd (omega arith)))
          (sym (stage-read t (OpeningChildControl parent of) stage place))
          (sym (stage-named t (OpeningChildControl parent of) stage place)))
          standing

  opened-prepares : (control : ℕ)
      → (of ≡ pid → (p : TracedProcess) → live_process s.system pid ≡ Some p → IsAtBirth o p)
      → Prepares o pid (with_child control) s
  unfolding newly_traced
  opened-prepares control born =
      let new = newly_traced of control in
      let last : traced_at (with_child control) (length t.traced) ≡ new = opened-last t new in
      prepares-child o pid (with_child control) s parent (length t.traced) child.SetRelease refl
      (ap (λ (x : Traced). x.old) last)
      (λ p own live. born (sym (ap (λ (x : Traced). x.pid) last) ∙ own) p live)

  -- the child is not traced, and its parent runs
  refused-standing : (errno : Errno) → Standing Why o pid (with_refused_child t parent of errno) s tally
  unfolding with_refused_child
  refused-standing errno =
      let at = OpeningChildControl parent of in
      agreeing-standing Why o pid t (with_stage (with_report t (CannotTrace of errno)) (Running parent)) s tally refl
      (λ place. aside refl (stage-away t at stage place) refl (sym (stage-read t at stage place))
      (sym (stage-named t at stage place))) standing

  refused-prepares : (errno : Errno) → Prepares o pid (with_refused_child t parent of errno) s
  unfolding with_refused_child
  refused-prepares errno =
      prepares-none o pid (with_stage (with_report t (CannotTrace of errno)) (Running parent)) s refl

  child-control : (r : Reply) (a : Answer) → a ≢ Interrupted
      → (a ≡ Accepted → of ≡ pid → (p : TracedProcess) → live_process s.system pid ≡ Some p → IsAtBirth o p)
      → IsOrderly (with_child_control_answered t parent of r a)
      → Stands Why o pid (with_child_control_answered t parent of r a) s tally
  unfolding with_child_control_answered with_child_control
  child-control r Accepted not born after =
      (opened-standing (handle_in r) after, opened-prepares (handle_in r) (born refl))
  child-control r Interrupted not born after = absurd (not refl)
  child-control r Gone not born after = (refused-standing Noent, refused-prepares Noent)
  child-control r (Refused errno) not born after = (refused-standing errno, refused-prepares errno)

-- The reply to the open of a child's control file: the child is traced from now on, and is being opened, or else its
-- parent is run.
pub opening-child-stands : (Why : Type 0) (o : Options) (pid : ℕ) (t : TrussState) (r : Reply) (s : TracedState)
    (tally : Tally) (parent of : ℕ) → t.stage ≡ OpeningChildControl parent of → answer_of r ≢ Interrupted
    → (answer_of r ≡ Accepted → of ≡ pid → (p : TracedProcess) → live_process s.system pid ≡ Some p → IsAtBirth o p)
    → IsOrderly t → IsOrderly (fed t r) → Standing Why o pid t s tally → Stands Why o pid (fed t r) s tally
unfolding fed with_reply
opening-child-stands Why o pid t r s tally parent of stage not born before after standing =
    let is : fed t r ≡ with_child_control_answered t parent of r (answer_of r) = ap (with_reply t r) stage in
    subst (λ u. Stands Why o pid u s tally) (sym is)
    (child-control Why o pid t s tally parent of stage before standing r (answer_of r) not born
    (subst IsOrderly is after))

-- ---- the files of a child

module _ (Why : Type 0) (o : Options) (pid : ℕ) (t : TrussState) (s : TracedState) (tally : Tally)
    (parent place : ℕ) (step : ChildStep) (stage : t.stage ≡ OpeningChild parent place step) (before : IsOrderly t)
    (standing : Standing Why o pid t s tally) where
  child-last : IsLast t.traced parent place
  child-last = (subst (Fits t.traced) stage before.fits).0

  child-within : place < length t.traced
  child-within = let l = child-last in omega (arith, l.last)

  -- each step up to the close of a file is about the child, which is away
  child-agrees : (u : TrussState) → is_away u.leaving u.stage place ≡ true
      → ((q : ℕ) → q ≢ place → (traced_at u q ≡ traced_at t q) × (is_away u.leaving u.stage q ≡ false) ×
      (has_read u.stage q ≡ (parent == q)) × (is_named u.stage q ≡ false)) → (q : ℕ) → Agrees t u q
  child-agrees u away others =
      let at = OpeningChild parent place step in
      beside t u place (stage-away t at stage place ∙ same-place place place refl) away
      (λ q differs. let m = others q differs in aside m.0 (stage-away t at stage q
      ∙ other-place place q (λ e. differs (sym e))) m.1 (m.2 ∙ sym (stage-read t at stage q)) (m.3
      ∙ sym (stage-named t at stage q)))

  -- the step was done, and the next one comes
  next-stands : Prepares o pid t s → (x : Traced) (next : ChildStep) → x.pid ≡ (traced_at t place).pid
      → x.old ≡ (traced_at t place).old
      → Stands Why o pid (with_stage (with_traced t place x) (OpeningChild parent place next)) s tally
  next-stands prepares x next own old =
      let u = with_stage (with_traced t place x) (OpeningChild parent place next) in
      let at = OpeningChild parent place step in (
        agreeing-standing Why o pid t u s tally (set-place t place x pid own)
            (child-agrees u (same-place place place refl)
            (λ q differs.
            (set-other t place x q differs, other-place place q (λ e. differs (sym e)), refl, refl))) standing,
        prepares-child o pid u s parent place next refl (ap (λ (y : Traced). y.old) (set-here t place x child-within)
            ∙ old ∙ prepares.new parent place step stage)
            (λ p is live. prepares.child parent place step p stage (sym own
            ∙ ap (λ (y : Traced). y.pid) (sym (set-here t place x child-within)) ∙ is) live),
      )

  -- the child's files are closed, and its parent runs then
  refused-step-stands : (errno : Errno) → Stands Why o pid (with_refused_child_step t parent place errno) s tally
  unfolding with_refused_child_step
  refused-step-stands errno =
      let next = Closing place (RunParent parent) in
      let of = (traced_at t place).pid in
      let u = with_stage (with_report t (CannotTrace of errno)) next in (
        agreeing-standing Why o pid t u s tally refl
            (child-agrees u (same-place place place refl)
            (λ q differs. (refl, other-place place q (λ e. differs (sym e)), refl, refl))) standing,
        prepares-none o pid u s refl,
      )

done-stands : (Why : Type 0) (o : Options) (pid : ℕ) (t : TrussState) (r : Reply) (s : TracedState)
    (tally : Tally) (parent place : ℕ) (step : ChildStep) → t.stage ≡ OpeningChild parent place step
    → step ≢ child.Start
    → IsOrderly t → Stands Why o pid t s tally → Stands Why o pid (with_child_step_done t parent place r step) s tally
unfolding with_child_step_done child_learnt child_step_after
done-stands Why o pid t r s tally parent place child.SetRelease stage not before stands =
    next-stands Why o pid t s tally parent place child.SetRelease stage before stands.0 stands.1
    (traced_at t place) child.OpenStatus refl refl
done-stands Why o pid t r s tally parent place child.OpenStatus stage not before stands =
    next-stands Why o pid t s tally parent place child.OpenStatus stage before stands.0 stands.1
    (record (traced_at t place) { status = Some (handle_in r) }) child.OpenLstatus refl refl
done-stands Why o pid t r s tally parent place child.OpenLstatus stage not before stands =
    next-stands Why o pid t s tally parent place child.OpenLstatus stage before stands.0 stands.1
    (record (traced_at t place) { lstatus = Some (handle_in r) }) child.OpenMemory refl refl
done-stands Why o pid t r s tally parent place child.OpenMemory stage not before stands =
    next-stands Why o pid t s tally parent place child.OpenMemory stage before stands.0 stands.1
    (record (traced_at t place) { memory = Some (handle_in r); attached = true }) child.Start refl refl
done-stands Why o pid t r s tally parent place child.Start stage not before stands = absurd (not refl)

step-stands : (Why : Type 0) (o : Options) (pid : ℕ) (t : TrussState) (r : Reply) (s : TracedState)
    (tally : Tally) (parent place : ℕ) (step : ChildStep) → t.stage ≡ OpeningChild parent place step
    → step ≢ child.Start
    → IsOrderly t → Standing Why o pid t s tally → (a : Answer) → (a ≡ Accepted → Prepares o pid t s) → a ≢ Interrupted
    → Stands Why o pid (with_child_step_answered t parent place step r a) s tally
unfolding with_child_step_answered
step-stands Why o pid t r s tally parent place step stage not before standing Accepted asked goes_on =
    done-stands Why o pid t r s tally parent place step stage not before (standing, asked refl)
step-stands Why o pid t r s tally parent place step stage not before standing Interrupted asked goes_on =
    absurd (goes_on refl)
step-stands Why o pid t r s tally parent place step stage not before standing Gone asked goes_on =
    refused-step-stands Why o pid t s tally parent place step stage before standing Noent
step-stands Why o pid t r s tally parent place step stage not before standing (Refused errno) asked goes_on =
    refused-step-stands Why o pid t s tally parent place step stage before standing errno

-- which steps go on alike
child-answered : (t : TrussState) (parent place : ℕ) (step : ChildStep) (r : Reply) (a : Answer) → step ≢ child.Start
    → with_child_answered t parent place step r a ≡ with_child_step_answered t parent place step r a
unfolding with_child_answered
child-answered t parent place child.SetRelease r a not = refl
child-answered t parent place child.OpenStatus r a not = refl
child-answered t parent place child.OpenLstatus r a not = refl
child-answered t parent place child.OpenMemory r a not = refl
child-answered t parent place child.Start r a not = absurd (not refl)

-- The reply to a step of a child's opening before its PCRUN: the next step comes, or else the files are closed. What is
-- asked of the child is asked where the step was done.
pub child-step-stands : (Why : Type 0) (o : Options) (pid : ℕ) (t : TrussState) (r : Reply) (s : TracedState)
    (tally : Tally) (parent place : ℕ) (step : ChildStep) → t.stage ≡ OpeningChild parent place step
    → step ≢ child.Start
    → answer_of r ≢ Interrupted → IsOrderly t → Standing Why o pid t s tally
    → (answer_of r ≡ Accepted → Prepares o pid t s) → Stands Why o pid (fed t r) s tally
unfolding fed with_reply
child-step-stands Why o pid t r s tally parent place step stage not goes_on before standing prepares =
    let is : fed t r ≡ with_child_step_answered t parent place step r (answer_of r) =
    ap (with_reply t r) stage ∙ child-answered t parent place step r (answer_of r) not in
    subst (λ u. Stands Why o pid u s tally) (sym is)
    (step-stands Why o pid t r s tally parent place step stage not before standing (answer_of r) prepares goes_on)

-- ---- the PCRUN of a child

-- the child was let go
pub record IsLetGo (o : Options) (pid : ℕ) (r : Reply) (s : TracedState) : Type 0 where
  pub accepted : answer_of r ≡ Accepted
  pub process : TracedProcess
  pub live : live_process s.system pid ≡ Some process
  pub quiet : IsQuiet process
  pub traced : IsTracedBy o process

-- the child has ended before
pub record IsGone (pid : ℕ) (r : Reply) (s : TracedState) : Type 0 where
  pub gone : answer_of r ≡ Gone
  pub none : live_process s.system pid ≡ None

module _ (Why : Type 0) (o : Options) (pid : ℕ) (t : TrussState) (r : Reply) (tally : Tally) (parent place : ℕ)
    (stage : t.stage ≡ OpeningChild parent place child.Start) (before : IsOrderly t) where
  start-fed : fed t r ≡ with_child_started t parent place (answer_of r)
  unfolding fed with_reply with_child_answered
  start-fed = ap (with_reply t r) stage

  start-last : IsLast t.traced parent place
  start-last = (subst (Fits t.traced) stage before.fits).0

  started-prepares : (s : TracedState) (a : Answer) → Prepares o pid (with_child_started t parent place a) s
  unfolding with_child_started
  started-prepares s Accepted = prepares-none o pid (with_stage t (Running parent)) s refl
  started-prepares s Interrupted = prepares-none o pid (with_stage t (Running parent)) s refl
  started-prepares s (Refused errno) = prepares-none o pid (with_stage t (Running parent)) s refl
  started-prepares s Gone = prepares-none o pid (with_stage t (Closing place (RunParent parent))) s refl

  was-away : place_of t pid ≡ Some place → watches t pid ≡ false
  was-away at =
      away-watched t pid place at (stage-away t (OpeningChild parent place child.Start) stage place
      ∙ same-place place place refl)

  -- what this step leaves of the others
  beside-child : (s : TracedState) → place_of t pid ≢ Some place → Standing Why o pid t s tally → (next : Stage)
      → ((q : ℕ) → q ≢ place → (is_away t.leaving next q ≡ false) × (has_read next q ≡ (parent == q)) ×
      (is_named next q ≡ false)) → Standing Why o pid (with_stage t next) s tally
  beside-child s other standing next others = by (place_of t pid) refl
    where
      by : (x : Option ℕ) → place_of t pid ≡ x → Standing Why o pid (with_stage t next) s tally
      by None is =
          apart-standing Why o pid t s tally (with_stage t next) s (none-watched t pid is)
          (none-watched (with_stage t next) pid is) standing
      by (Some q) is =
          let differs : q ≢ place = λ e. other (is ∙ ap (λ n. Some n) e) in
          let m = others q differs in
          passes-standing Why o pid t (with_stage t next) s tally q q (record {
            at = is;
            then = is;
            same = refl;
            was =
                λ on. stage-away t (OpeningChild parent place child.Start) stage q
                ∙ other-place place q (λ e. differs (sym e));
            here = λ on. m.0;
            read = m.1 ∙ sym (stage-read t (OpeningChild parent place child.Start) stage q);
            named = m.2 ∙ sym (stage-named t (OpeningChild parent place child.Start) stage q);
          }) standing

  runs-beside : (s : TracedState) → place_of t pid ≢ Some place → Standing Why o pid t s tally
      → Standing Why o pid (with_stage t (Running parent)) s tally
  runs-beside s other standing = beside-child s other standing (Running parent) (λ q differs. (refl, refl, refl))

  started-standing : (s : TracedState) → place_of t pid ≢ Some place → Standing Why o pid t s tally → (a : Answer)
      → Standing Why o pid (with_child_started t parent place a) s tally
  unfolding with_child_started
  started-standing s other standing Accepted = runs-beside s other standing
  started-standing s other standing Interrupted = runs-beside s other standing
  started-standing s other standing (Refused errno) = runs-beside s other standing
  started-standing s other standing Gone =
      beside-child s other standing (Closing place (RunParent parent))
      (λ q differs. (other-place place q (λ e. differs (sym e)), refl, refl))

  -- ---- the child itself

  module _ (s s' : TracedState) (standing : Standing Why o pid t s tally) (at : place_of t pid ≡ Some place) where
    -- it was let go, and is watched from now on
    let-go : IsWhole tally → (traced_at t place).old ≡ 0 → IsLetGo o pid r s'
        → Standing Why o pid (with_stage t (Running parent)) s' tally
    let-go whole old go = by (traced_at t place).attached refl
      where
        by : (b : Bool) → (traced_at t place).attached ≡ b → Standing Why o pid (with_stage t (Running parent)) s' tally
        by true on =
            let l = start-last in
            lives place go.process at on refl go.live go.traced
            (goes (other-place parent place (λ e. absurd (omega (arith, l.behind)))) refl old go.quiet whole)
        by false off =
            apart (unattached-watched (with_stage t (Running parent)) pid place at off)
            (apart-accounted Why o pid t s tally (was-away at) standing)

    -- it has ended before
    ended : Standing Why o pid (with_stage t (Closing place (RunParent parent))) s' tally
    ended =
        let next = Closing place (RunParent parent) in
        apart-standing Why o pid t s tally (with_stage t next) s' (was-away at)
        (away-watched (with_stage t next) pid place at (same-place place place refl)) standing

  module _ (s s' : TracedState) (standing : Standing Why o pid t s tally) (prepares : Prepares o pid t s)
      (whole : (p : TracedProcess) → live_process s.system pid ≡ Some p → IsWhole tally)
      (starts : (p : TracedProcess) → live_process s.system pid ≡ Some p → IsAtBirth o p → IsLetGo o pid r s')
      (stays_over : live_process s.system pid ≡ None → IsGone pid r s') where
    own-started : place_of t pid ≡ Some place
        → Standing Why o pid (with_child_started t parent place (answer_of r)) s' tally
    unfolding with_child_started
    own-started at = by (live_process s.system pid) refl
      where
        by : (x : Option TracedProcess) → live_process s.system pid ≡ x
            → Standing Why o pid (with_child_started t parent place (answer_of r)) s' tally
        by None is = let g = stays_over is in
            subst (λ a. Standing Why o pid (with_child_started t parent place a) s' tally) (sym g.gone)
            (ended s s' standing at)
        by (Some p) is =
            let g = starts p is (prepares.child parent place child.Start p stage (place-pid t pid place at) is) in
            subst (λ a. Standing Why o pid (with_child_started t parent place a) s' tally) (sym g.accepted)
            (let-go s s' standing at (whole p is) (prepares.new parent place child.Start stage) g)

-- The reply to the PCRUN of the child, where the process is another one.
pub child-start-beside : (Why : Type 0) (o : Options) (pid : ℕ) (t : TrussState) (r : Reply) (s : TracedState)
    (tally : Tally) (parent place : ℕ) → t.stage ≡ OpeningChild parent place child.Start
    → IsOrderly t → place_of t pid ≢ Some place → Standing Why o pid t s tally → Stands Why o pid (fed t r) s tally
child-start-beside Why o pid t r s tally parent place stage before other standing =
    subst (λ u. Stands Why o pid u s tally) (sym (start-fed Why o pid t r tally parent place stage before)) (
      started-standing Why o pid t r tally parent place stage before s other standing
          (answer_of r),
      started-prepares Why o pid t r tally parent place stage before s (answer_of r),
    )

-- The reply to the PCRUN of the child, where the process is the child: it goes and is watched from now on, or it has
-- ended.
pub child-start-own : (Why : Type 0) (o : Options) (pid : ℕ) (t : TrussState) (r : Reply) (s s' : TracedState)
    (tally : Tally) (parent place : ℕ) → t.stage ≡ OpeningChild parent place child.Start
    → IsOrderly t → place_of t pid ≡ Some place → Standing Why o pid t s tally → Prepares o pid t s
    → ((p : TracedProcess) → live_process s.system pid ≡ Some p → IsWhole tally)
    → ((p : TracedProcess) → live_process s.system pid ≡ Some p → IsAtBirth o p → IsLetGo o pid r s')
    → (live_process s.system pid ≡ None → IsGone pid r s') → Stands Why o pid (fed t r) s' tally
child-start-own Why o pid t r s s' tally parent place stage before at standing prepares whole starts stays_over =
    subst (λ u. Stands Why o pid u s' tally) (sym (start-fed Why o pid t r tally parent place stage before)) (
      own-started Why o pid t r tally parent place stage before s s' standing prepares whole starts stays_over at,
      started-prepares Why o pid t r tally parent place stage before s' (answer_of r),
    )

-- What the machine does with the PCRUN of the child, of which nothing is missing while it lives.
pub record Starts (o : Options) (pid : ℕ) (t : TrussState) (r : Reply) (s s' : TracedState)
    (tally : Tally) : Type 0 where
  pub whole : (p : TracedProcess) → live_process s.system pid ≡ Some p → IsWhole tally
  pub starts : (p : TracedProcess) → live_process s.system pid ≡ Some p → IsAtBirth o p → IsLetGo o pid r s'
  pub stays_over : live_process s.system pid ≡ None → IsGone pid r s'

-- the reply to the PCRUN of the child, whichever process it is
pub child-start-stands : (Why : Type 0) (o : Options) (pid : ℕ) (t : TrussState) (r : Reply) (s s' : TracedState)
    (tally : Tally) (parent place : ℕ) → t.stage ≡ OpeningChild parent place child.Start
    → IsOrderly t → Standing Why o pid t s tally → Prepares o pid t s
    → (place_of t pid ≢ Some place → Standing Why o pid t s' tally)
    → (place_of t pid ≡ Some place → Starts o pid t r s s' tally) → Stands Why o pid (fed t r) s' tally
child-start-stands Why o pid t r s s' tally parent place stage before standing prepares others own =
    by-place t pid (Stands Why o pid (fed t r) s' tally) (λ none. other-stands (λ e. none-some place (sym none ∙ e)))
    (λ q at. elim (cases_eq q place) [
      | inl is ↦ own-stands (at
          ∙ ap (λ n. Some n) is)
      | inr differs ↦ other-stands (λ e. differs (same_Some q place (sym at ∙ e)))
    ])
  where
    other-stands : place_of t pid ≢ Some place → Stands Why o pid (fed t r) s' tally
    other-stands other = child-start-beside Why o pid t r s' tally parent place stage before other (others other)

    own-stands : place_of t pid ≡ Some place → Stands Why o pid (fed t r) s' tally
    own-stands at =
        let m = own at in
        child-start-own Why o pid t r s s' tally parent place stage before at standing prepares m.whole m.starts
        m.stays_over
