use Rattle.std.proofs.Common.{◌≡◌, ◌≢◌, ◌==◌, ◌<◌, ◌⊎◌, ℕ, Bool, true, false, cond, Some, None, List, length, refl, sym, subst, ap, ◌∙◌, arith, inl, inr}
use Rattle.std.proofs.lemmas.Bool.{cases_eq, eq-eqb, false≢true, ne_eqb}
use Rattle.std.proofs.lemmas.Option.{none-some}
use Rattle.pr_line.specs.declared.options.Options.{Options}
use Rattle.pr_model.specs.declared.calls.Reply.{Reply}
use Rattle.pr_num.specs.declared.errnos.Errno.{Errno}
use Rattle.pr_truss.specs.Children.{child_learnt}
use Rattle.pr_truss.specs.Openings.{learnt, step_after}
use Rattle.pr_truss.specs.Processes.{newly_traced}
use Rattle.pr_truss.specs.Replies.{answer_of}
use Rattle.pr_truss.specs.Trusses.{TrussState, traced_at, with_opened, with_report, with_stage, with_traced, without_traced}
use Rattle.pr_truss.specs.declared.processes.Traced.{Traced}
use Rattle.pr_truss.specs.declared.replies.Answer.TheVariants.{Accepted}
use Rattle.pr_truss.specs.declared.reports.Report.TheVariants.{CannotTrace}
use Rattle.pr_truss.specs.declared.stages.AfterClosing.{AfterClosing}
use Rattle.pr_truss.specs.declared.stages.AfterClosing.TheVariants.{OpenNext, RunParent}
use Rattle.pr_truss.specs.declared.stages.ChildStep.{ChildStep}
use Rattle.pr_truss.specs.declared.stages.ChildStep.TheVariants as child
use Rattle.pr_truss.specs.declared.stages.OpeningStep.{OpeningStep}
use Rattle.pr_truss.specs.declared.stages.OpeningStep.TheVariants as opening
use Rattle.pr_truss.specs.declared.stages.Stage.{Stage}
use Rattle.pr_truss.specs.declared.stages.Stage.TheVariants.{OpeningControl, Opening, OpeningChildControl, OpeningChild, Running, Closing}
use Rattle.pr_truss_laws.proofs.Files.HeldLemmas.{IsLast, at_place, set-at}
use Rattle.pr_report_laws.proofs.UnopenedChildren.Claims.{Comes, IsDone, IsSet, WasSet, is_child, not_followed, opened, runs, set_now, sets, was_free, was_run, was_set, watched}
use Rattle.pr_report_laws.proofs.UnopenedChildren.ClaimReplies.{known-all}
use Rattle.pr_report_laws.proofs.UnopenedChildren.ClaimSteps.{Known, KnownAt, about-comes, closing-goes, done-here, known-at, known-beside, not-itself, running-goes}
use Rattle.pr_report_laws.proofs.Replies.OpeningParts.{last-start, learnt-pid, learnt-start}
use Rattle.pr_report_laws.proofs.Invariant.StandLemmas.{Each, EachBut, but-append, but-set, each-remove, each-set}
use Rattle.pr_report_laws.proofs.Invariant.Standing.{has_read}
use Rattle.pr_report_laws.proofs.Replies.TracedPlaces.{opened-before, opened-last, opened-length, removed-before, removed-length, set-length, set-other}
use Rattle.pr_report_laws.specs.Watching.{is_away}

-- What the replies to the calls of truss leave of the children of forks that it is to open: where it opens processes
-- and closes their files.

-- a process that the step is not about, where the next one may read it as this one does
known-beside-at : (t : TrussState) (r : Reply) (stage next : Stage) (place : ℕ) → t.stage ≡ stage
    → place < length t.traced → is_away false stage place ≡ false
    → (has_read next place ≡ false → has_read stage place ≡ false) → KnownAt t r next place (at_place t.traced place)
known-beside-at t r stage next place is within here read =
    let away : is_away false t.stage place ≡ false = ap (λ (st : Stage). is_away false st place) is ∙ here in
    record {
      free =
          λ later on none. was_free place
          (record {
            within = within;
            attached = on;
            here = away;
            read = ap (λ (st : Stage). has_read st place) is
                ∙ read later;
            none = none;
          }) refl;
      set = λ on. was_set place (watched within on away) refl (done-here t r place away);
    }

apart-eqb : (n m : ℕ) → m ≢ n → (n == m) ≡ false
apart-eqb n m other = ne_eqb n m (λ same. other (sym same))

-- ---- which step of an opening comes last

-- it comes after PR_FORK was set, or where children are not followed
start-after : (o : Options) (r : Reply) (step : OpeningStep) → step_after o r step ≡ Some opening.Start
    → (step ≡ opening.Follow) ⊎ (o.follow ≡ false)
unfolding step_after
start-after o r opening.Follow is = inl refl
start-after o r opening.TraceExits is = inr (by o.follow is)
  where
    by : (b : Bool) → Some (cond b opening.Follow opening.Start) ≡ Some opening.Start → b ≡ false
    by true e = cc
    by false e = refl
start-after o r _ is = cc

child-pid : (x : Traced) (r : Reply) (step : ChildStep) → (child_learnt x r step).pid ≡ x.pid
unfolding child_learnt
child-pid x r child.SetRelease = refl
child-pid x r _ = refl

module _ (t : TrussState) (r : Reply) where
  abbrev Goes : TrussState → Type 0
  Goes u = u.leaving ≡ false → Comes t r u

  -- ---- the opening of a process

  module _ (at : ℕ) (step : OpeningStep) (is : t.stage ≡ Opening at step) (within : at < length t.traced) where
    opening-others : EachBut (Known t r) t.traced at
    opening-others place inside other =
        known-beside t r (Opening at step) place is inside (apart-eqb at place other) refl

    abbrev later : Traced
    later = learnt (traced_at t at) r step

    abbrev after_step : TrussState
    after_step = with_traced t at later

    same-pid : (at_place after_step.traced at).pid ≡ (at_place t.traced at).pid
    same-pid = ap (λ (x : Traced). x.pid) (set-at t.traced at later within) ∙ learnt-pid (traced_at t at) r step

    -- PR_FORK is set before the last step
    step-set : answer_of r ≡ Accepted → (next : OpeningStep) → step_after t.options r step ≡ Some next
        → IsSet after_step.traced (Opening at next) at → WasSet t r (at_place t.traced at).pid
    step-set accepted next comes (watched inside on here) = not-itself at here
    step-set accepted opening.Start comes (opened inside its) = elim (start-after t.options r step comes) [
      | inl follow ↦ set_now at within refl (is ∙ ap (Opening at) follow) accepted
      | inr off ↦ not_followed off
    ]
    step-set accepted _ comes (opened inside its) = absurd (false≢true its)

    step-apart : (next : OpeningStep) (place : ℕ) → place ≢ at → sets (Opening at next) place ≡ false
    step-apart opening.Start place other = apart-eqb at place other
    step-apart _ place other = refl

    pub next-goes : answer_of r ≡ Accepted → (next : OpeningStep) → step_after t.options r step ≡ Some next
        → Goes (with_stage after_step (Opening at next))
    next-goes accepted next comes stays = about-comes t r (with_stage after_step (Opening at next)) at stays (record {
      others =
          λ place inside other. known-at t r (Opening at next) place _
          (but-set (Known t r) t.traced at later opening-others place inside other);
      free = λ f. not-itself at f.here;
      set = λ x. subst (WasSet t r) (sym same-pid) (step-set accepted next comes x);
      sets = step-apart next;
      none = λ place other. refl;
      claims = λ c none. absurd (none-some c none);
      names = tt;
    })

    no-child : {parent : ℕ} → Opening at step ≡ OpeningChild parent at child.SetRelease → ⊥
    no-child e = cc

    -- the process runs
    start-known : answer_of r ≡ Accepted → step ≡ opening.Start → Known t r (at_place t.traced at)
    start-known accepted last =
        let done : IsDone t r at = record {
          start = λ same. accepted;
          release = λ parent same. absurd (let e = sym is ∙ same in no-child e);
        } in
        let its : t.stage ≡ Opening at opening.Start = is ∙ ap (Opening at) last in
        record {
          free = λ on none. was_run at within (ap (λ (st : Stage). runs st at) its ∙ eq-eqb at at refl) refl none done;
          set = λ on. was_set at (opened within (ap (λ (st : Stage). sets st at) its ∙ eq-eqb at at refl)) refl done;
        }

    pub started-known : answer_of r ≡ Accepted → step_after t.options r step ≡ None → Each (Known t r) after_step.traced
    started-known accepted none =
        let last : step ≡ opening.Start = last-start t.options r step none in
        each-set (Known t r) t.traced at later within opening-others
        (subst (Known t r) (sym (learnt-start (traced_at t at) r step last)) (start-known accepted last))

    pub refused-goes : (errno : Errno)
        → Goes (with_stage (with_report t (CannotTrace (traced_at t at).pid errno)) (Closing at OpenNext))
    refused-goes errno =
        closing-goes t r (with_report t (CannotTrace (traced_at t at).pid errno)) at OpenNext (λ leaves. leaves)
        (λ place inside other. known-at t r (Closing at OpenNext) place _ (opening-others place inside other))

  -- ---- the control file of a process

  pub opens-goes : (pid control : ℕ) → t.stage ≡ OpeningControl pid
      → Goes (with_stage (with_opened t (newly_traced pid control)) (Opening (length t.traced) opening.OpenStatus))
  unfolding newly_traced
  opens-goes pid control is stays =
      let new = newly_traced pid control in
      let q = length t.traced in
      about-comes t r (with_stage (with_opened t new) (Opening q opening.OpenStatus)) q stays (record {
        others =
            λ place within other. known-at t r (Opening q opening.OpenStatus) place _
            (but-append (Known t r) t.traced new (known-all t r (OpeningControl pid) is (λ place. refl)
            (λ place. refl)) place within other);
        free = λ f. not-itself q f.here;
        set = own-set q;
        sets = λ place other. refl;
        none = λ place other. refl;
        claims = λ c none. absurd (none-some c none);
        names = tt;
      })
    where
      own-set : {X : Type 0} (q : ℕ)
          → IsSet (with_opened t (newly_traced pid control)).traced (Opening q opening.OpenStatus) q → X
      own-set q (watched within on here) = not-itself q here
      own-set q (opened within none) = absurd (false≢true none)

  -- ---- the control file of a child

  module _ (parent c : ℕ) (is : t.stage ≡ OpeningChildControl parent c) (within : parent < length t.traced) where
    abbrev new : ℕ → Traced
    new control = newly_traced c control

    child-others : (control place : ℕ) → place < length (with_opened t (new control)).traced → place ≢ length t.traced
        → KnownAt t r (OpeningChild parent (length t.traced) child.SetRelease) place
        (at_place (with_opened t (new control)).traced place)
    child-others control place inside other =
        let before : place < length t.traced = omega (arith, opened-length t (new control)) in
        subst (KnownAt t r (OpeningChild parent (length t.traced) child.SetRelease) place)
        (sym (opened-before t (new control) place before))
        (known-beside-at t r (OpeningChildControl parent c)
        (OpeningChild parent (length t.traced) child.SetRelease) place is before refl (λ read. read))

    pub child-opens : answer_of r ≡ Accepted → (control : ℕ)
        → Goes (with_stage (with_opened t (new control)) (OpeningChild parent (length t.traced) child.SetRelease))
    unfolding newly_traced
    child-opens accepted control stays =
        about-comes t r
        (with_stage (with_opened t (new control)) (OpeningChild parent (length t.traced) child.SetRelease))
        (length t.traced) stays (record {
          others = child-others control;
          free = λ f. not-itself (length t.traced) f.here;
          set =
              λ x. subst (λ (y : Traced). WasSet t r y.pid) (sym (opened-last t (new control)))
              (is_child parent is accepted);
          sets = λ place other. apart-eqb (length t.traced) place other;
          none = λ place other. refl;
          claims = λ d none. absurd (none-some d none);
          names = tt;
        })

    pub parent-runs : (errno : Errno) → Goes (with_stage (with_report t (CannotTrace c errno)) (Running parent))
    parent-runs errno = running-goes t r (with_report t (CannotTrace c errno)) parent (record {
      leaves = λ stays. stays;
      options = refl;
      others =
          λ place inside other. known-beside t r (OpeningChildControl parent c) place is inside refl
          (apart-eqb parent place other);
      set =
          λ on. let away =
          ap (λ (st : Stage). is_away false st parent) is in was_set parent (watched within on away) refl
          (done-here t r parent away);
    })

  -- ---- the files of a child

  module _ (parent at : ℕ) (step : ChildStep) (is : t.stage ≡ OpeningChild parent at step)
      (last : IsLast t.traced parent at) where
    child-within : at < length t.traced
    child-within = omega (arith, last.last)

    -- the others, at a step that reads the parent too
    beside-child : (next : Stage) → ((place : ℕ) → has_read next place ≡ (parent == place)) → (place : ℕ)
        → place < length t.traced → place ≢ at → KnownAt t r next place (at_place t.traced place)
    beside-child next reads place inside other =
        known-beside-at t r (OpeningChild parent at step) next place is inside (apart-eqb at place other)
        (λ read. sym (reads place) ∙ read)

    child-set : IsDone t r at → WasSet t r (at_place t.traced at).pid
    child-set done = was_set at (opened child-within (ap (λ (st : Stage). sets st at) is ∙ eq-eqb at at refl)) refl done

    not-opening : OpeningChild parent at step ≡ Opening at opening.Start → ⊥
    not-opening e = cc

    -- the step was accepted, or it is another one
    child-done : ((of : ℕ) → t.stage ≡ OpeningChild of at child.SetRelease → answer_of r ≡ Accepted) → IsDone t r at
    child-done released = record { start = λ same. absurd (not-opening (sym is ∙ same)); release = released }

    pub child-refused : (u : TrussState) → u.leaving ≡ t.leaving → u.traced ≡ t.traced
        → Goes (with_stage u (Closing at (RunParent parent)))
    child-refused u same traced =
        closing-goes t r u at (RunParent parent) (λ stays. sym same ∙ stays)
        (λ place inside other. subst
        (λ (ts : List Traced). KnownAt t r (Closing at (RunParent parent)) place (at_place ts place)) (sym traced)
        (beside-child (Closing at (RunParent parent)) (λ q. refl) place
        (subst (λ (ts : List Traced). place < length ts) traced inside) other))

    abbrev with_learnt : TrussState
    with_learnt = with_traced t at (child_learnt (traced_at t at) r step)

    learnt-same : (at_place with_learnt.traced at).pid ≡ (at_place t.traced at).pid
    learnt-same =
        ap (λ (x : Traced). x.pid) (set-at t.traced at (child_learnt (traced_at t at) r step) child-within)
        ∙ child-pid (traced_at t at) r step

    pub next-child : answer_of r ≡ Accepted → (next : ChildStep)
        → Goes (with_stage with_learnt (OpeningChild parent at next))
    next-child accepted next stays =
        about-comes t r (with_stage with_learnt (OpeningChild parent at next)) at stays (record {
          others =
              λ place inside other. subst (KnownAt t r (OpeningChild parent at next) place)
              (sym (set-other t at (child_learnt (traced_at t at) r step) place other))
              (beside-child (OpeningChild parent at next) (λ q. refl) place
              (omega (arith, set-length t at (child_learnt (traced_at t at) r step))) other);
          free = λ f. not-itself at f.here;
          set = λ x. subst (WasSet t r) (sym learnt-same) (child-set (child-done (λ of same. accepted)));
          sets = λ place other. apart-eqb at place other;
          none = λ place other. refl;
          claims = λ c none. absurd (none-some c none);
          names = tt;
        })

    -- the child runs, and its parent is run next
    pub parent-next : step ≡ child.Start → Goes (with_stage t (Running parent))
    parent-next start stays = about-comes t r (with_stage t (Running parent)) parent stays (record {
      others = others;
      free = λ f. not-itself parent f.read;
      set = parent-set;
      sets = λ place other. refl;
      none = λ place other. refl;
      claims = λ c none. absurd (none-some c none);
      names = tt;
    })
      where
        its : t.stage ≡ OpeningChild parent at child.Start
        its = is ∙ ap (OpeningChild parent at) start

        not-release : {of : ℕ} → OpeningChild parent at child.Start ≡ OpeningChild of at child.SetRelease → ⊥
        not-release e = cc

        done : IsDone t r at
        done = child-done (λ of same. absurd (not-release (sym its ∙ same)))

        own : KnownAt t r (Running parent) at (at_place t.traced at)
        own = record {
          free =
              λ read on none. was_run at child-within (ap (λ (st : Stage). runs st at) its
              ∙ eq-eqb at at refl) refl none done;
          set = λ on. child-set done;
        }

        others : (place : ℕ) → place < length t.traced → place ≢ parent
            → KnownAt t r (Running parent) place (at_place t.traced place)
        others place inside other = elim (cases_eq place at) [
          | inl same ↦ subst (λ n. KnownAt t r (Running parent) n (at_place t.traced n)) (sym same) own
          | inr apart ↦ beside-child (Running parent) (λ q. refl) place inside apart
        ]

        parent-set : IsSet t.traced (Running parent) parent → WasSet t r (at_place t.traced parent).pid
        parent-set (watched inside on here) =
            let k =
            beside-child (Running parent) (λ q. refl) parent inside
            (λ same. let b = last.behind in absurd (omega arith)) in
            k.set on
        parent-set (opened inside none) = absurd (false≢true none)

  -- ---- the close of a file

  module _ (at : ℕ) (within : at < length t.traced) where
    -- the process holds one file less
    pub less-goes : (next : AfterClosing) → t.stage ≡ Closing at next → (x : Traced)
        → Goes (with_stage (with_traced t at x) (Closing at next))
    less-goes next is x =
        closing-goes t r (with_traced t at x) at next (λ stays. stays)
        (λ place inside other. subst (KnownAt t r (Closing at next) place) (sym (set-other t at x place other))
        (known-beside-at t r (Closing at next) (Closing at next) place is (omega (arith, set-length t at x))
        (apart-eqb at place other) (λ read. read)))

    -- it held none any more
    pub removed-known : (next : AfterClosing) → t.stage ≡ Closing at next
        → ((place : ℕ) → has_read (Closing at next) place ≡ false) → Each (Known t r) (without_traced t at).traced
    removed-known next is none =
        each-remove (Known t r) t.traced at within
        (λ place inside other. known-beside t r (Closing at next) place is inside (apart-eqb at place other)
        (none place))

    pub parent-left : (parent : ℕ) → t.stage ≡ Closing at (RunParent parent) → IsLast t.traced parent at
        → Goes (with_stage (without_traced t at) (Running parent))
    parent-left parent is last stays =
        about-comes t r (with_stage (without_traced t at) (Running parent)) parent stays (record {
          others = λ place inside other. left place inside;
          free = λ f. not-itself parent f.read;
          set = parent-set;
          sets = λ place other. refl;
          none = λ place other. refl;
          claims = λ c none. absurd (none-some c none);
          names = tt;
        })
      where
        left : (place : ℕ) → place < length (without_traced t at).traced
            → KnownAt t r (Running parent) place (at_place (without_traced t at).traced place)
        left place inside =
            let before : place < at = omega (arith, last.last, removed-length t at within) in
            subst (KnownAt t r (Running parent) place) (sym (removed-before t at within place before))
            (known-beside-at t r (Closing at (RunParent parent)) (Running parent) place is (omega arith)
            (apart-eqb at place (λ same. absurd (omega arith))) (λ read. read))

        parent-set : IsSet (without_traced t at).traced (Running parent) parent
            → WasSet t r (at_place (without_traced t at).traced parent).pid
        parent-set (watched inside on here) = let k = left parent inside in k.set on
        parent-set (opened inside none) = absurd (false≢true none)
