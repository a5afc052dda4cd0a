use Rattle.std.proofs.Common.{◌≡◌, ◌<◌, ◌++◌, ℕ, true, false, None, Some, List, [], ◌∷◌, length, refl, sym, subst, ap, ◌∙◌, arith, append_assoc}
use Rattle.std.proofs.lemmas.List.{get_or_push, length-append}
use Rattle.std.proofs.lemmas.List.Elements.{All-cons, All-nil}
use Rattle.std.proofs.lemmas.Option.{same_Some}
use Rattle.std.specs.List.{All, cons_option, slice_index_or}
use Rattle.pr_line.specs.declared.options.Options.{Options}
use Rattle.pr_model.specs.Replies.{handle_in}
use Rattle.pr_model.specs.declared.calls.Reply.TheVariants as reply
use Rattle.pr_num.specs.declared.errnos.Errno.{Errno}
use Rattle.pr_num.specs.declared.errnos.Errno.TheVariants.{Intr, Noent}
use Rattle.pr_truss.specs.Children.{with_child_control, with_child_control_answered, with_refused_child}
use Rattle.pr_truss.specs.Feeding.{fed, with_reply}
use Rattle.pr_truss.specs.NextCalls.{call_of, next_call_of, open_control}
use Rattle.pr_truss.specs.Processes.{newly_traced}
use Rattle.pr_truss.specs.Replies.{answer_of}
use Rattle.pr_truss.specs.Trusses.{TrussState, first_truss, nobody, traced_at, with_report, with_stage}
use Rattle.pr_truss.specs.declared.processes.Traced.{Traced}
use Rattle.pr_truss.specs.declared.replies.Answer.{Answer}
use Rattle.pr_truss.specs.declared.replies.Answer.TheVariants.{Accepted, Interrupted, Gone, Refused}
use Rattle.pr_truss.specs.declared.reports.Report.TheVariants.{CannotTrace}
use Rattle.pr_truss.specs.declared.stages.ChildStep.TheVariants as child
use Rattle.pr_truss.specs.declared.stages.Stage.TheVariants.{OpeningChildControl, Running}
use Rattle.pr_truss_laws.proofs.Replies.AnswerLemmas.{IsAnswer, answer-is}
use Rattle.pr_truss_laws.proofs.Files.ClosesLemmas.{after-fits, after-grown, first-fits}
use Rattle.pr_truss_laws.proofs.Replies.FitLemmas.{fed-fits}
use Rattle.pr_truss_laws.proofs.Files.HeldLemmas.{Fits, Grown}
use Rattle.pr_truss_laws.specs.Exchanges.{Exchange, IsGranted, Makes, errno_in, opened_by, truss_after, with_opened_by}
use Rattle.pr_truss_laws.specs.Handles.{handles_of}
use Rattle.pr_report_laws.proofs.Watching.BeginLaws.{at-options}
use Rattle.pr_report_laws.proofs.FollowedChildren.FollowForks.{fork-comes}
use Rattle.pr_report_laws.proofs.FollowedChildren.FollowOpenings.{Broken, ChildEnd, IsAt, Runs, awaited-call, begun-calls, child-end, failed, runs-now, stopped, unfinished, whole}
use Rattle.pr_report_laws.proofs.FollowedChildren.FollowUnseen.{Stays, reached-fresh}
use Rattle.pr_report_laws.proofs.Invariant.OpeningRuns.{born-fed}
use Rattle.pr_report_laws.proofs.Replies.TracedPlaces.{opened-before}
use Rattle.pr_report_laws.proofs.Files.WatchHistories.{after-append, makes-rest}
use Rattle.pr_report_laws.proofs.Memory.WatchMemory.{child-calls}
use Rattle.pr_report_laws.specs.Follows.{IsHandledNext, IsRefusedFollowing, ReadsFork, attached, begun, left, refused}

-- What becomes of the child of each fork that truss has read.

short-five : {X : Type 0} (x : X) (xs : List X) → length xs < 5 → length (x ∷ xs) < 6
short-five x xs less = omega (arith, less)

module _ (f t : TrussState) (parent of control : ℕ) (stage : t.stage ≡ OpeningChildControl parent of)
    (fits : Fits t.traced t.stage) (runs : (traced_at t parent).control ≡ control) where
  abbrev Goal : List Exchange → Type 0
  Goal xs = IsHandledNext of control t.reports f.reports (next_call_of f) xs

  parent-within : parent < length t.traced
  parent-within = subst (Fits t.traced) stage fits

  module _ (x : Exchange) (xs : List Exchange) (call : x.call ≡ open_control of) (makes : Makes (fed t x.reply) xs)
      (last : truss_after (fed t x.reply) xs ≡ f) where
    -- the open was refused
    first-refused : (errno : Errno) → x.reply ≡ reply.Fail errno → IsRefusedFollowing of errno (x ∷ [])
    first-refused errno is = record {
      before = [];
      call = x.call;
      last = ap (λ r. record { call = x.call; reply = r } ∷ []) is;
      calls = begun-calls of x [] call tt;
      granted = All-nil IsGranted;
      not_last = omega arith;
    }

    abbrev refused_state : Errno → TrussState
    refused_state errno = with_stage (with_report t (CannotTrace of errno)) (Running parent)

    refused-fed : (errno : Errno) (a : Answer) → answer_of x.reply ≡ a
        → with_child_control_answered t parent of x.reply a ≡ refused_state errno → fed t x.reply ≡ refused_state errno
    unfolding fed with_reply
    refused-fed errno a answer is =
        ap (with_reply t x.reply) stage ∙ ap (with_child_control_answered t parent of x.reply) answer ∙ is

    refused-ends : (errno : Errno) → x.reply ≡ reply.Fail errno → fed t x.reply ≡ refused_state errno → Goal (x ∷ xs)
    unfolding first-refused
    refused-ends errno is comes =
        let m : Makes (refused_state errno) xs = subst (λ v. Makes v xs) comes makes in
        let now : Fits (refused_state errno).traced (refused_state errno).stage =
        subst (λ (v : TrussState). Fits v.traced v.stage) comes (fed-fits t x.reply fits) in
        let ends : truss_after (refused_state errno) xs ≡ f = ap (λ v. truss_after v xs) (sym comes) ∙ last in
        let g : Grown (refused_state errno).reports f.reports =
        subst (λ (v : TrussState). Grown (refused_state errno).reports v.reports) ends
        (after-grown xs (refused_state errno)) in
        refused (record {
          errno = errno;
          opening = x ∷ [];
          later = xs;
          more = g.more;
          is = refl;
          refused = first-refused errno is;
          reported = g.is ∙ append_assoc t.reports (CannotTrace of errno ∷ []) g.more;
          parent = runs-now f control (refused_state errno) parent xs refl runs m ends;
        })

    -- it was granted
    module _ (granted : errno_in x.reply ≡ None) where
      abbrev new : Traced
      new = newly_traced of (handle_in x.reply)

      all-granted : (ys : List Exchange) → All IsGranted ys → All IsGranted (x ∷ ys)
      all-granted ys all = All-cons IsGranted x ys (record { not_refused = granted }) all

      opened-first : (ys : List Exchange) → with_opened_by [] (x ∷ ys) ≡ with_opened_by (handles_of new) ys
      unfolding newly_traced
      opened-first ys = ap (λ c. with_opened_by (cons_option (opened_by c x.reply) []) ys) call

      broken-follows : (errno : Errno) (ys : List Exchange)
          (d : Broken f control of t.reports new child.SetRelease errno ys)
          → IsRefusedFollowing of errno (x ∷ d.opening)
      broken-follows errno ys d = record {
        before = x ∷ d.before;
        call = d.call;
        last = ap (λ zs. x ∷ zs) d.last;
        calls = begun-calls of x d.opening call d.goes;
        granted = all-granted d.before d.granted;
        not_last = short-five x d.opening d.not_last;
      }

      end-follows : ChildEnd f control of t.reports new child.SetRelease xs → Goal (x ∷ xs)
      unfolding broken-follows
      end-follows (whole d) = attached (record {
        opening = x ∷ d.opening;
        last = d.last;
        later = d.later;
        is = ap (λ ys. x ∷ ys) d.is;
        calls = child-calls of x (d.opening ++ d.last ∷ []) call d.goes;
        granted = all-granted d.opening d.granted;
        lives = d.lives;
        ended = λ gone. subst (λ hs. Runs f control hs d.later) (sym (opened-first d.opening)) (d.ended gone);
        silent = d.silent;
      })
      end-follows (failed d) = let b = d.broken in refused (record {
        errno = d.errno;
        opening = x ∷ b.opening;
        later = b.later;
        more = d.more;
        is = ap (λ ys. x ∷ ys) b.is;
        refused = broken-follows d.errno xs b;
        reported = d.reported;
        parent = subst (λ hs. Runs f control hs b.later) (sym (opened-first b.before)) d.parent;
      })
      end-follows (stopped d) =
          left (record {
            opening = x ∷ d.opening;
            later = d.later;
            is = ap (λ ys. x ∷ ys) d.is;
            interrupted = broken-follows Intr xs d;
          })
      end-follows (unfinished d) =
          begun (record {
            calls = begun-calls of x xs call d.goes;
            granted = all-granted xs d.granted;
            not_done = short-five x xs d.not_done;
            goes_on = awaited-call (next_call_of f) of x xs d.not_done d.goes_on;
          })

      child-at : fed t x.reply ≡ with_child_control t parent of (handle_in x.reply)
          → IsAt f control of t.reports (with_child_control t parent of (handle_in x.reply)) new parent
          (length t.traced) child.SetRelease
      unfolding with_child_control newly_traced
      child-at is = record {
        stage = refl;
        behind = parent-within;
        within = omega (arith, length-append t.traced (new ∷ []));
        fits = subst (λ (v : TrussState). Fits v.traced v.stage) is (fed-fits t x.reply fits);
        child = get_or_push t.traced new nobody (length t.traced) refl;
        own = refl;
        of = ap (λ (u : Traced). u.control) (opened-before t new parent parent-within) ∙ runs;
        reports = refl;
      }

      granted-ends : answer_of x.reply ≡ Accepted → Goal (x ∷ xs)
      granted-ends accepted =
          let is = born-fed t of x.reply accepted parent stage in
          end-follows
          (child-end f control of t.reports xs (with_child_control t parent of (handle_in x.reply)) new parent
          (length t.traced) child.SetRelease (child-at is) (subst (λ v. Makes v xs) is makes)
          (ap (λ v. truss_after v xs) (sym is) ∙ last))

    opened-ends : (a : Answer) → IsAnswer x.reply a → answer_of x.reply ≡ a → Goal (x ∷ xs)
    unfolding IsAnswer with_child_control_answered with_refused_child
    opened-ends Accepted is answer = granted-ends is answer
    opened-ends Interrupted is answer =
        left (record { opening = x ∷ []; later = xs; is = refl; interrupted = first-refused Intr is })
    opened-ends Gone is answer = refused-ends Noent is (refused-fed Noent Gone answer refl)
    opened-ends (Refused errno) is answer = refused-ends errno is (refused-fed errno (Refused errno) answer refl)

  control-next : next_call_of t ≡ Some (open_control of)
  unfolding next_call_of call_of
  control-next = ap (call_of t) stage

  control-called : (x : Exchange) → next_call_of t ≡ Some x.call → x.call ≡ open_control of
  control-called x next = same_Some x.call (open_control of) (sym next ∙ control-next)

  child-follows : (xs : List Exchange) → Makes t xs → truss_after t xs ≡ f → Goal xs
  child-follows [] makes last =
      begun (record {
        calls = refl;
        granted = All-nil IsGranted;
        not_done = omega arith;
        goes_on = ap next_call_of (sym last) ∙ control-next;
      })
  child-follows (x ∷ xs) makes last =
      opened-ends x xs (control-called x makes.0) makes.1 last (answer_of x.reply) (answer-is x.reply) refl

pub read-followed : (o : Options) (xs before later : List Exchange) (x : Exchange) (place of : ℕ) → o.follow ≡ true
    → Makes (first_truss o) xs → xs ≡ before ++ x ∷ later
    → ReadsFork (truss_after (first_truss o) before) x.reply place of
    → IsHandledNext of (traced_at (truss_after (first_truss o) before) place).control
    (fed (truss_after (first_truss o) before) x.reply).reports (truss_after (first_truss o) xs).reports
    (next_call_of (truss_after (first_truss o) xs)) later
read-followed o xs before later x place of follow makes is reads =
    let t = truss_after (first_truss o) before in
    let fits = after-fits before (first_truss o) (first-fits o) in
    let within : place < length t.traced = subst (Fits t.traced) reads.stage fits in
    let fresh = reached-fresh o before in
    let stays : t.leaving ≡ false = subst (Stays t.leaving) reads.stage fresh.stays in
    let c =
    fork-comes t x.reply place of (ap (λ (p : Options). p.follow) (at-options o before)
    ∙ follow) stays (fresh.unseen stays place within) reads in
    let m = makes-rest (first_truss o) before (x ∷ later) (subst (Makes (first_truss o)) is makes) in
    child-follows (truss_after (first_truss o) xs) (fed t x.reply) place of (traced_at t place).control c.stage
    (fed-fits t x.reply fits) (ap (λ ts. (slice_index_or ts place nobody).control) c.traced) later m.1
    (sym (ap (truss_after (first_truss o)) is ∙ after-append (first_truss o) before (x ∷ later)))

pub ruleset follows = (read-followed)
