use Rattle.std.proofs.Common.{◌≡◌, ◌≢◌, ◌<◌, ◌≤◌, ◌++◌, ℕ, true, None, Some, Option, List, [], ◌∷◌, length, map, refl, sym, subst, ap, ◌∙◌, arith, append_assoc}
use Rattle.std.proofs.lemmas.Option.{same_Some}
use Rattle.std.specs.List.{slice_index_or}
use Rattle.pr_line.specs.declared.options.Options.{Options}
use Rattle.pr_model.specs.Replies.{handle_in}
use Rattle.pr_model.specs.declared.calls.Call.{Call}
use Rattle.pr_model.specs.declared.calls.Call.TheVariants as call
use Rattle.pr_model.specs.declared.calls.Reply.TheVariants as reply
use Rattle.pr_num.specs.Control.{rlc_mode}
use Rattle.pr_num.specs.declared.errnos.Errno.{Errno}
use Rattle.pr_num.specs.declared.errnos.Errno.TheVariants.{Intr, Noent}
use Rattle.pr_num.specs.declared.messages.Message.TheVariants as message
use Rattle.pr_truss.specs.Children.{with_freeing_answered, with_freeing_begun, with_refused_freeing}
use Rattle.pr_truss.specs.Closings.{after_closing, closed_or_removed, with_closing}
use Rattle.pr_truss.specs.Feeding.{fed, with_reply}
use Rattle.pr_truss.specs.Messages.{message_call}
use Rattle.pr_truss.specs.NextCalls.{call_of, freeing_call, next_call_of, open_control}
use Rattle.pr_truss.specs.Processes.{last_handle, without_last}
use Rattle.pr_truss.specs.Replies.{answer_of}
use Rattle.pr_truss.specs.Trusses.{TrussState, first_truss, nobody, traced_at, with_report, with_stage, with_traced, without_traced}
use Rattle.pr_truss.specs.declared.processes.Traced.{Traced}
use Rattle.pr_truss.specs.declared.replies.Answer.{Answer}
use Rattle.pr_truss.specs.declared.replies.Answer.TheVariants.{Accepted, Interrupted, Gone, Refused}
use Rattle.pr_truss.specs.declared.reports.Report.{Report}
use Rattle.pr_truss.specs.declared.reports.Report.TheVariants.{CannotTrace}
use Rattle.pr_truss.specs.declared.stages.AfterClosing.TheVariants.{GoOn}
use Rattle.pr_truss.specs.declared.stages.FreeingStep.{FreeingStep}
use Rattle.pr_truss.specs.declared.stages.FreeingStep.TheVariants as freeing
use Rattle.pr_truss.specs.declared.stages.Stage.TheVariants.{Closing, FreeingChild}
use Rattle.pr_truss_laws.proofs.Replies.AnswerLemmas.{IsAnswer, answer-is}
use Rattle.pr_truss_laws.proofs.Files.ClosesLemmas.{after-fits, after-grown, first-fits}
use Rattle.pr_truss_laws.proofs.Replies.FitLemmas.{fed-fits}
use Rattle.pr_truss_laws.proofs.Files.HeldLemmas.{ClosesFirst, Fits, Grown, close-fed, closes-first, closes-next, set-at}
use Rattle.pr_truss_laws.specs.Exchanges.{Exchange, Makes, errno_in, truss_after}
use Rattle.pr_truss_laws.specs.Handles.{handles_of}
use Rattle.pr_report_laws.proofs.Watching.BeginLaws.{at-options}
use Rattle.pr_report_laws.proofs.FollowedChildren.FollowForks.{leaving-comes}
use Rattle.pr_report_laws.proofs.Replies.Leaving.{leaves, reached-leaving}
use Rattle.pr_report_laws.proofs.Replies.NextStages.{going_on-comes}
use Rattle.pr_report_laws.proofs.Invariant.OpeningRuns.{freed-fed}
use Rattle.pr_report_laws.proofs.Replies.TracedPlaces.{set-length}
use Rattle.pr_report_laws.proofs.Files.WatchHistories.{after-append, makes-rest}
use Rattle.pr_report_laws.specs.Follows.{ComeNext}
use Rattle.pr_report_laws.specs.Freed.{IsSetFree, ReadsLastFork, closing_calls, freed, freeing_calls, interrupted, refused}

-- What becomes of the child of each fork that truss has read while it leaves a process.

-- ---- calls that come next, without a report

-- From this state on these calls come next, and up to the last of them these are the reports.
record Goes (calls : List Call) (base : List Report) (s : TrussState) (xs : List Exchange) : Type 0 where
  next : ComeNext (next_call_of (truss_after s xs)) calls xs
  silent : length xs ≤ length calls → (truss_after s xs).reports ≡ base

goes-over : (base : List Report) (s : TrussState) (xs : List Exchange) → s.reports ≡ base → Goes [] base s xs
goes-over base s [] is = record { next = tt; silent = λ short. is }
goes-over base s (x ∷ xs) is = record { next = tt; silent = λ short. absurd (omega (arith, short)) }

goes-none : (c : Call) (calls : List Call) (base : List Report) (s : TrussState) → next_call_of s ≡ Some c
    → s.reports ≡ base → Goes (c ∷ calls) base s []
goes-none c calls base s next is = record { next = next; silent = λ short. is }

goes-more : (c : Call) (calls : List Call) (base : List Report) (s : TrussState) (x : Exchange) (xs : List Exchange)
    → x.call ≡ c → Goes calls base (fed s x.reply) xs → Goes (c ∷ calls) base s (x ∷ xs)
goes-more c calls base s x xs call g = record {
  next = (call, g.next);
  silent = λ short. g.silent (omega (arith, short));
}

-- ---- the files of the process are closed

record IsClosing (s : TrussState) (u : Traced) : Type 0 where
  stage : s.stage ≡ Closing 0 GoOn
  within : 0 < length s.traced
  first : traced_at s 0 ≡ u

closed-goes : (s : TrussState) (u : Traced) (x : Exchange) (xs : List Exchange) → IsClosing s u
    → x.call ≡ call.Close (last_handle u)
    → ((t : TrussState) (v : Traced) → IsClosing t v → Makes t xs → Goes (closing_calls (handles_of v)) t.reports t xs)
    → (left : Option Traced) → ClosesFirst u left → fed s x.reply ≡ closed_or_removed s 0 GoOn left
    → Makes (fed s x.reply) xs → Goes (closing_calls (handles_of u)) s.reports s (x ∷ xs)
unfolding after_closing
closed-goes s u x xs c called later None first is makes =
    let over = going_on-comes (without_traced s 0) in
    subst (λ hs. Goes (map call.Close hs) s.reports s (x ∷ xs)) (sym first)
    (goes-more (call.Close (last_handle u)) [] s.reports s x xs called
    (goes-over s.reports (fed s x.reply) xs (ap (λ (t : TrussState). t.reports) is ∙ over.reports)))
closed-goes s u x xs c called later (Some v) first is makes =
    let t : TrussState = with_traced s 0 v in
    let at : IsClosing t v = record {
      stage = c.stage;
      within = omega (arith, set-length s 0 v, c.within);
      first = set-at s.traced 0 v c.within;
    } in
    subst (λ hs. Goes (map call.Close hs) s.reports s (x ∷ xs)) (sym first)
    (goes-more (call.Close (last_handle u)) (closing_calls (handles_of v)) s.reports s x xs called
    (subst (λ w. Goes (closing_calls (handles_of v)) s.reports w xs) (sym is)
    (later t v at (subst (λ w. Makes w xs) is makes))))

closing-none : (s : TrussState) (u : Traced) → next_call_of s ≡ Some (call.Close (last_handle u))
    → (left : Option Traced) → ClosesFirst u left → Goes (closing_calls (handles_of u)) s.reports s []
closing-none s u next None first =
    subst (λ hs. Goes (map call.Close hs) s.reports s []) (sym first)
    (goes-none (call.Close (last_handle u)) [] s.reports s next refl)
closing-none s u next (Some v) first =
    subst (λ hs. Goes (map call.Close hs) s.reports s []) (sym first)
    (goes-none (call.Close (last_handle u)) (closing_calls (handles_of v)) s.reports s next refl)

closing-goes : (xs : List Exchange) (s : TrussState) (u : Traced) → IsClosing s u → Makes s xs
    → Goes (closing_calls (handles_of u)) s.reports s xs
closing-goes [] s u c makes =
    closing-none s u (closes-next s u 0 GoOn c.stage c.first) (without_last u) (closes-first u)
closing-goes (x ∷ xs) s u c makes =
    closed-goes s u x xs c (same_Some x.call (call.Close (last_handle u)) (sym makes.0
    ∙ closes-next s u 0 GoOn c.stage c.first)) (λ t v. closing-goes xs t v) (without_last u) (closes-first u)
    (close-fed s x.reply 0 GoOn c.stage ∙ ap (λ t. closed_or_removed s 0 GoOn (without_last t)) c.first) makes.1

-- ---- the child is set free

module _ (child : ℕ) (u : Traced) where
  -- the child is set free, at this step, and its parent is the first process
  record IsFreeing (s : TrussState) (step : FreeingStep) : Type 0 where
    stage : s.stage ≡ FreeingChild child step
    within : 0 < length s.traced
    first : traced_at s 0 ≡ u

  module _ (s : TrussState) (step : FreeingStep) (at : IsFreeing s step) where
    freeing-next : next_call_of s ≡ Some (freeing_call child step)
    unfolding next_call_of call_of
    freeing-next = ap (call_of s) at.stage

    freeing-called : (x : Exchange) → next_call_of s ≡ Some x.call → x.call ≡ freeing_call child step
    freeing-called x next = same_Some x.call (freeing_call child step) (sym next ∙ freeing-next)

    step-fed : (x : Exchange) → fed s x.reply ≡ with_freeing_answered s child step x.reply
    unfolding fed with_reply
    step-fed x = ap (with_reply s x.reply) at.stage

    now-closing : IsClosing (with_closing s 0) u
    now-closing = record { stage = refl; within = at.within; first = at.first }

    now-freeing : (next : FreeingStep) → IsFreeing (with_stage s (FreeingChild child next)) next
    now-freeing next = record { stage = refl; within = at.within; first = at.first }

    closes-then : (x : Exchange) (xs : List Exchange) → fed s x.reply ≡ with_closing s 0 → Makes (fed s x.reply) xs
        → Goes (closing_calls (handles_of u)) s.reports (fed s x.reply) xs
    closes-then x xs is makes =
        subst (λ t. Goes (closing_calls (handles_of u)) s.reports t xs) (sym is)
        (closing-goes xs (with_closing s 0) u now-closing (subst (λ t. Makes t xs) is makes))

  close-goes : (control : ℕ) (xs : List Exchange) (s : TrussState) → IsFreeing s (freeing.Close control) → Makes s xs
      → Goes (call.Close control ∷ closing_calls (handles_of u)) s.reports s xs
  unfolding freeing_call with_freeing_answered
  close-goes control [] s at makes =
      goes-none (call.Close control) (closing_calls (handles_of u)) s.reports s
      (freeing-next s (freeing.Close control) at) refl
  close-goes control (x ∷ xs) s at makes =
      goes-more (call.Close control) (closing_calls (handles_of u)) s.reports s x xs
      (freeing-called s (freeing.Close control) at x makes.0)
      (closes-then s (freeing.Close control) at x xs (step-fed s (freeing.Close control) at x) makes.1)

  set-goes : (control : ℕ) (xs : List Exchange) (s : TrussState) → IsFreeing s (freeing.SetRelease control)
      → Makes s xs
      → Goes (message_call control (message.Set rlc_mode)
      ∷ call.Close control ∷ closing_calls (handles_of u)) s.reports s
      xs
  unfolding freeing_call with_freeing_answered
  set-goes control [] s at makes =
      goes-none (message_call control (message.Set rlc_mode)) (call.Close control ∷ closing_calls (handles_of u))
      s.reports s (freeing-next s (freeing.SetRelease control) at) refl
  set-goes control (x ∷ xs) s at makes =
      let now : TrussState = with_stage s (FreeingChild child (freeing.Close control)) in
      let is : fed s x.reply ≡ now = step-fed s (freeing.SetRelease control) at x in
      goes-more (message_call control (message.Set rlc_mode)) (call.Close control ∷ closing_calls (handles_of u))
      s.reports s x xs
      (freeing-called s (freeing.SetRelease control) at x makes.0)
      (subst (λ t. Goes (call.Close control ∷ closing_calls (handles_of u)) s.reports t xs) (sym is)
      (close-goes control xs now (now-freeing s (freeing.SetRelease control) at (freeing.Close control))
      (subst (λ t. Makes t xs) is makes.1)))

  -- ---- the open of its control file

  module _ (f t : TrussState) (at : IsFreeing t freeing.OpenControl) (fits : Fits t.traced t.stage) where
    abbrev Goal : List Exchange → Type 0
    Goal xs = IsSetFree child (handles_of u) t.reports f.reports (next_call_of f) xs

    ends-so : (calls : List Call) (s : TrussState) (xs : List Exchange) → truss_after s xs ≡ f
        → ComeNext (next_call_of (truss_after s xs)) calls xs → ComeNext (next_call_of f) calls xs
    ends-so calls s xs last next = subst (λ v. ComeNext (next_call_of v) calls xs) last next

    module _ (x : Exchange) (xs : List Exchange) (called : x.call ≡ open_control child)
        (makes : Makes (fed t x.reply) xs) (last : truss_after (fed t x.reply) xs ≡ f) where
      was : (errno : Errno) → x.reply ≡ reply.Fail errno
          → x ∷ xs ≡ record { call = open_control child; reply = reply.Fail errno } ∷ xs
      was errno is =
          ap (λ c. record { call = c; reply = x.reply } ∷ xs) called
          ∙ ap (λ r. record { call = open_control child; reply = r } ∷ xs) is

      -- ---- refused

      abbrev refused_state : Errno → TrussState
      refused_state errno = with_closing (with_report t (CannotTrace child errno)) 0

      answered : (a : Answer) → answer_of x.reply ≡ a → fed t x.reply ≡ with_freeing_begun t child x.reply a
      unfolding with_freeing_answered
      answered a is = step-fed t freeing.OpenControl at x ∙ ap (with_freeing_begun t child x.reply) is

      refused-ends : (errno : Errno) → x.reply ≡ reply.Fail errno → errno ≢ Intr → fed t x.reply ≡ refused_state errno
          → Goal (x ∷ xs)
      refused-ends errno is not comes =
          let m : Makes (refused_state errno) xs = subst (λ v. Makes v xs) comes makes in
          let now : Fits (refused_state errno).traced (refused_state errno).stage =
          subst (λ (v : TrussState). Fits v.traced v.stage) comes (fed-fits t x.reply fits) in
          let ends : truss_after (refused_state errno) xs ≡ f = ap (λ v. truss_after v xs) (sym comes) ∙ last in
          let g : Grown (refused_state errno).reports f.reports =
          subst (λ (v : TrussState). Grown (refused_state errno).reports v.reports) ends
          (after-grown xs (refused_state errno)) in
          let c =
          closing-goes xs (refused_state errno) u
          (record { stage = refl; within = at.within; first = at.first }) m in
          refused (record {
            errno = errno;
            later = xs;
            more = g.more;
            is = was errno is;
            not_interrupted = not;
            reported = g.is ∙ append_assoc t.reports (CannotTrace child errno ∷ []) g.more;
            closes = ends-so (closing_calls (handles_of u)) (refused_state errno) xs ends c.next;
          })

      interrupted-ends : x.reply ≡ reply.Fail Intr → fed t x.reply ≡ with_closing t 0 → Goal (x ∷ xs)
      interrupted-ends is comes =
          let c = closes-then t freeing.OpenControl at x xs comes makes in
          interrupted (record {
            later = xs;
            is = was Intr is;
            closes = ends-so (closing_calls (handles_of u)) (fed t x.reply) xs last c.next;
            silent = λ short. ap (λ (v : TrussState). v.reports) (sym last) ∙ c.silent short;
          })

      -- ---- granted

      granted-ends : errno_in x.reply ≡ None → answer_of x.reply ≡ Accepted → Goal (x ∷ xs)
      granted-ends granted accepted =
          let control = handle_in x.reply in
          let now : TrussState = with_stage t (FreeingChild child (freeing.SetRelease control)) in
          let comes : fed t x.reply ≡ now = freed-fed t child x.reply accepted at.stage in
          let c = goes-more (open_control child) _ t.reports t x xs called
          (subst (λ v. Goes
          (message_call control (message.Set rlc_mode) ∷ call.Close control ∷ closing_calls (handles_of u)) t.reports v
          xs)
          (sym comes)
          (set-goes control xs now (now-freeing t freeing.OpenControl at (freeing.SetRelease control))
          (subst (λ v. Makes v xs) comes makes))) in
          freed (record {
            granted = granted;
            calls = ends-so (freeing_calls child control (handles_of u)) t (x ∷ xs) last c.next;
            silent = λ short. ap (λ (v : TrussState). v.reports) (sym last) ∙ c.silent short;
          })

      refused-other : (errno : Errno) → x.reply ≡ reply.Fail errno → answer_of x.reply ≡ Refused errno → errno ≢ Intr
      unfolding answer_of
      refused-other errno is answer intr =
          let e : Refused errno ≡ Interrupted =
          sym answer ∙ ap answer_of is ∙ ap (λ n. answer_of (reply.Fail n)) intr in
          cc

      opened-ends : (a : Answer) → IsAnswer x.reply a → answer_of x.reply ≡ a → Goal (x ∷ xs)
      unfolding IsAnswer with_freeing_begun with_refused_freeing
      opened-ends Accepted is answer = granted-ends is answer
      opened-ends Interrupted is answer = interrupted-ends is (answered Interrupted answer)
      opened-ends Gone is answer = refused-ends Noent is (λ e. cc) (answered Gone answer)
      opened-ends (Refused errno) is answer =
          refused-ends errno is (refused-other errno is answer) (answered (Refused errno) answer)

    control-next : next_call_of t ≡ Some (open_control child)
    unfolding freeing_call
    control-next = freeing-next t freeing.OpenControl at

    control-called : (x : Exchange) → next_call_of t ≡ Some x.call → x.call ≡ open_control child
    unfolding freeing_call
    control-called x next = freeing-called t freeing.OpenControl at x next

    child-freed : (xs : List Exchange) → Makes t xs → truss_after t xs ≡ f → Goal xs
    child-freed [] makes last =
        freed (record {
          granted = refl;
          calls = ap next_call_of (sym last) ∙ control-next;
          silent = λ short. ap (λ (v : TrussState). v.reports) (sym last);
        })
    child-freed (x ∷ xs) makes last =
        opened-ends x xs (control-called x makes.0) makes.1 last (answer_of x.reply) (answer-is x.reply) refl

pub read-freed : (o : Options) (xs before later : List Exchange) (x : Exchange) (child : ℕ) → o.follow ≡ true
    → Makes (first_truss o) xs → xs ≡ before ++ x ∷ later
    → ReadsLastFork (truss_after (first_truss o) before) x.reply child
    → IsSetFree child (handles_of (traced_at (truss_after (first_truss o) before) 0))
    (fed (truss_after (first_truss o) before) x.reply).reports (truss_after (first_truss o) xs).reports
    (next_call_of (truss_after (first_truss o) xs)) later
read-freed o xs before later x child follow makes is reads =
    let t = truss_after (first_truss o) before in
    let fits = after-fits before (first_truss o) (first-fits o) in
    let within : 0 < length t.traced = subst (Fits t.traced) reads.stage fits in
    let l = reached-leaving o before in
    let c =
    leaving-comes t x.reply child (ap (λ (p : Options). p.follow) (at-options o before)
    ∙ follow) (l.leaving (ap leaves reads.stage)) reads in
    let m = makes-rest (first_truss o) before (x ∷ later) (subst (Makes (first_truss o)) is makes) in
    let at : IsFreeing child (traced_at t 0) (fed t x.reply) freeing.OpenControl = record {
      stage = c.stage;
      within = subst (λ (ts : List Traced). 0 < length ts) (sym c.traced) within;
      first = ap (λ ts. slice_index_or ts 0 nobody) c.traced;
    } in
    child-freed child (traced_at t 0) (truss_after (first_truss o) xs) (fed t x.reply) at
    (fed-fits t x.reply fits) later m.1
    (sym (ap (truss_after (first_truss o)) is ∙ after-append (first_truss o) before (x ∷ later)))

pub ruleset frees = (read-freed)
