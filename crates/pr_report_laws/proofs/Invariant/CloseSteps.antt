use Rattle.std.proofs.Common.{◌≡◌, ◌≢◌, ◌<◌, ◌≤◌, ◌+◌, ◌-◌, ℕ, true, false, None, Some, Option, length, refl, sym, subst, ap, ◌∙◌, inl, inr, arith}
use Rattle.std.proofs.lemmas.Bool.{cases_eq, cases_lt}
use Rattle.pr_line.specs.declared.options.Options.{Options}
use Rattle.pr_model.specs.Replies.{handle_in}
use Rattle.pr_model.specs.State.{TracedState}
use Rattle.pr_model.specs.declared.calls.Reply.{Reply}
use Rattle.pr_num.specs.declared.errnos.Errno.{Errno}
use Rattle.pr_num.specs.declared.errnos.Errno.TheVariants.{Noent}
use Rattle.pr_truss.specs.Children.{with_freeing_answered, with_freeing_begun, with_refused_freeing}
use Rattle.pr_truss.specs.Closings.{after_closing, closed_or_removed, with_closed}
use Rattle.pr_truss.specs.Feeding.{fed, with_reply}
use Rattle.pr_truss.specs.Processes.{without_last}
use Rattle.pr_truss.specs.Replies.{answer_of}
use Rattle.pr_truss.specs.Trusses.{TrussState, traced_at, with_report, with_stage, with_traced, without_traced}
use Rattle.pr_truss.specs.declared.processes.Traced.{Traced}
use Rattle.pr_truss.specs.declared.replies.Answer.{Answer}
use Rattle.pr_truss.specs.declared.replies.Answer.TheVariants.{Accepted, Interrupted, Gone, Refused}
use Rattle.pr_truss.specs.declared.reports.Report.TheVariants.{CannotTrace}
use Rattle.pr_truss.specs.declared.stages.AfterClosing.{AfterClosing}
use Rattle.pr_truss.specs.declared.stages.AfterClosing.TheVariants.{OpenNext, GoOn, RunParent}
use Rattle.pr_truss.specs.declared.stages.FreeingStep.{FreeingStep}
use Rattle.pr_truss.specs.declared.stages.FreeingStep.TheVariants as freeing
use Rattle.pr_truss.specs.declared.stages.Stage.TheVariants.{Running, Closing, FreeingChild}
use Rattle.pr_truss_laws.proofs.Files.HeldLemmas.{Fits, IsLast}
use Rattle.pr_truss_laws.proofs.Replies.ReplySteps.{lost-same}
use Rattle.pr_report_laws.proofs.Invariant.Tallies.{Tally}
use Rattle.pr_report_laws.proofs.Replies.Moves.{passes-standing}
use Rattle.pr_report_laws.proofs.Replies.NextStages.{ComesNext, comes-same, going_on-comes, next_opening-comes, opens, prepares-none}
use Rattle.pr_report_laws.proofs.Replies.Orderly.{IsOrderly}
use Rattle.pr_report_laws.proofs.Replies.Places.{place-within}
use Rattle.pr_report_laws.proofs.Replies.TracedPlaces.{none-pid, other-pid, other-place, place-none, removed-before, removed-behind, removed-length, same-place, set-other, set-place}
use Rattle.pr_report_laws.proofs.Invariant.Standing.{Standing, has_read, is_named}
use Rattle.pr_report_laws.proofs.Replies.Unwatched.{Stands, agreeing-standing, apart-standing, aside, away-watched, beside, none-watched, passing, stage-away, stage-named, stage-read}
use Rattle.pr_report_laws.specs.Watching.{is_away, place_of, watches}

-- How truss closes the files of a process, and how it sets a child free: what each step leaves of each process.

-- ---- a process is removed

-- The stage that comes when the process at a place was removed.
pub record ClosesNext (t u : TrussState) (place : ℕ) : Type 0 where
  pub same : (q : ℕ) → traced_at u q ≡ traced_at (without_traced t place) q
  pub count : length u.traced ≡ length (without_traced t place).traced
  pub here : (q : ℕ) → (traced_at u q).attached ≡ true → is_away u.leaving u.stage q ≡ false
  pub before : (q : ℕ) → q < place → has_read u.stage q ≡ has_read t.stage q
  pub behind : (q : ℕ) → place ≤ q → q + 1 < length t.traced → has_read u.stage q ≡ has_read t.stage (q + 1)
  pub named : (q : ℕ) → is_named u.stage q ≡ false

module _ (t : TrussState) (place : ℕ) (next : AfterClosing) (stage : t.stage ≡ Closing place next)
    (before : IsOrderly t) where
  closing-within : place < length t.traced
  closing-within = (subst (Fits t.traced) stage before.fits).0

  module _ (u : TrussState) (f : ClosesNext t u place) where
    -- each process that is left stood at another place
    stood : (n : ℕ) → n < length u.traced
        → (m : ℕ) × (m < length t.traced) × (m ≢ place) × (traced_at u n ≡ traced_at t m)
    stood n within =
        let less : length u.traced + 1 ≡ length t.traced =
        ap (λ k. k + 1) f.count ∙ removed-length t place closing-within in
        elim (cases_lt n place) [
          | inl ahead ↦ (
            n,
            omega arith,
            λ e. absurd (omega arith),
            f.same n
                ∙ removed-before t place closing-within n ahead,
          )
          | inr past ↦
              (n + 1, omega arith, λ e. absurd (omega arith), f.same n ∙ removed-behind t place closing-within n past)
        ]

    module _ (Why : Type 0) (o : Options) (pid : ℕ) (s : TracedState) (tally : Tally) (after : IsOrderly u)
        (standing : Standing Why o pid t s tally) where
      -- a process that stood at no other place is not traced now
      nowhere : ((m : ℕ) → m < length t.traced → m ≢ place → (traced_at t m).pid ≢ pid) → place_of u pid ≡ None
      nowhere none =
          place-none u pid
          (λ n within is. let m = stood n within in none m.0 m.1 m.2 (ap (λ (x : Traced). x.pid) (sym m.3) ∙ is))

      at : (q : ℕ) → place_of t pid ≡ Some q → q ≢ place → Standing Why o pid u s tally
      at q is differs =
          elim (cases_lt q place) [ inl ahead ↦ ahead-stands ahead | inr past ↦ past-stands (omega arith) ]
        where
          within : q < length t.traced
          within = place-within t pid q is

          less : length u.traced + 1 ≡ length t.traced
          less = ap (λ k. k + 1) f.count ∙ removed-length t place closing-within

          away : is_away t.leaving t.stage q ≡ false
          away = stage-away t (Closing place next) stage q ∙ other-place place q (λ e. differs (sym e))

          named : (n : ℕ) → is_named u.stage n ≡ is_named t.stage q
          named n = f.named n ∙ sym (stage-named t (Closing place next) stage q)

          ahead-stands : q < place → Standing Why o pid u s tally
          ahead-stands ahead =
              passes-standing Why o pid t u s tally q q
              (passing pid t u q q after is (omega (arith, less, closing-within)) (f.same q
              ∙ removed-before t place closing-within q ahead) away (f.here q) (f.before q ahead)
              (named q)) standing

          -- it moves down by one place
          moves : (n : ℕ) → n + 1 ≡ q → place ≤ n → Standing Why o pid u s tally
          moves n is_next past =
              passes-standing Why o pid t u s tally q n
              (passing pid t u q n after is (omega (arith, less, within)) (f.same n
              ∙ removed-behind t place closing-within n past
              ∙ ap (traced_at t) is_next) away (f.here n) (f.behind n past (omega (arith, within))
              ∙ ap (has_read t.stage) is_next) (named n)) standing

          past-stands : place < q → Standing Why o pid u s tally
          past-stands past = moves (q - 1) (omega arith) (omega arith)

      removed-standing : Standing Why o pid u s tally
      removed-standing = by (place_of t pid) refl
        where
          gone : watches t pid ≡ false → place_of u pid ≡ None → Standing Why o pid u s tally
          gone off none = apart-standing Why o pid t s tally u s off (none-watched u pid none) standing

          by : (x : Option ℕ) → place_of t pid ≡ x → Standing Why o pid u s tally
          by None is = gone (none-watched t pid is) (nowhere (λ m within differs. none-pid t pid before is m within))
          by (Some q) is =
              elim (cases_eq q place) [ inl same ↦ own (is ∙ ap (λ n. Some n) same) | inr differs ↦ at q is differs ]
            where
              own : place_of t pid ≡ Some place → Standing Why o pid u s tally
              own here =
                  gone (away-watched t pid place here (stage-away t (Closing place next) stage place
                  ∙ same-place place place refl))
                  (nowhere (λ m within differs. other-pid t pid before place m here within differs))

-- ---- what follows a close

module _ (t : TrussState) (place : ℕ) where
  -- a stage that is about no process that is attached
  comes-follows : (next : AfterClosing) (u : TrussState) → t.stage ≡ Closing place next
      → ((q : ℕ) → has_read (Closing place next) q ≡ false) → ComesNext (without_traced t place) u
      → ClosesNext t u place
  comes-follows next u stage none c = record {
    same = λ q. comes-same q (without_traced t place) u c;
    count = ap length c.traced;
    here = c.here;
    before = λ q ahead. c.read q ∙ sym (stage-read t (Closing place next) stage q ∙ none q);
    behind = λ q past within. c.read q ∙ sym (stage-read t (Closing place next) stage (q + 1) ∙ none (q + 1));
    named = c.named;
  }

  -- the parent of a child, which stood last, is run
  parent-follows : (parent : ℕ) → t.stage ≡ Closing place (RunParent parent) → IsLast t.traced parent place
      → ClosesNext t (with_stage (without_traced t place) (Running parent)) place
  parent-follows parent stage last = record {
    same = λ q. refl;
    count = refl;
    here = λ q on. refl;
    before = λ q ahead. sym (stage-read t (Closing place (RunParent parent)) stage q);
    behind = λ q past within. absurd (omega (arith, last.last));
    named = λ q. refl;
  }

-- ---- the close of a file

module _ (Why : Type 0) (o : Options) (pid : ℕ) (t : TrussState) (s : TracedState) (tally : Tally) (place : ℕ)
    (next : AfterClosing) (stage : t.stage ≡ Closing place next) (before : IsOrderly t)
    (standing : Standing Why o pid t s tally) where
  -- the process holds one file less
  less-stands : (x : Traced) → x.pid ≡ (traced_at t place).pid → Stands Why o pid (with_traced t place x) s tally
  less-stands x own =
      let u = with_traced t place x in
      let at = Closing place next in
      let away = stage-away t at stage place ∙ same-place place place refl in (
        agreeing-standing Why o pid t u s tally (set-place t place x pid own)
            (beside t u place away away (λ q differs. let off = stage-away t at stage q
            ∙ other-place place q (λ e. differs (sym e)) in aside
            (set-other t place x q differs) off off refl refl)) standing,
        prepares-none o pid u s (ap opens stage),
      )

  -- it held none any more
  removed-stands : (u : TrussState) → ClosesNext t u place → IsOrderly u → opens u.stage ≡ false
      → Stands Why o pid u s tally
  removed-stands u f after none = (
    removed-standing t place next stage before u f Why o pid s tally after standing,
    prepares-none o pid u s
        none,
  )

  comes-stands : (u : TrussState) → ComesNext (without_traced t place) u → IsOrderly u
      → ((q : ℕ) → has_read (Closing place next) q ≡ false) → Stands Why o pid u s tally
  comes-stands u c after none =
      let v = without_traced t place in
      removed-stands u (comes-follows t place next u stage none c) after c.opens

after-stands : (Why : Type 0) (o : Options) (pid : ℕ) (t : TrussState) (s : TracedState) (tally : Tally)
    (place : ℕ) (next : AfterClosing) → t.stage ≡ Closing place next → IsOrderly t → Standing Why o pid t s tally
    → IsOrderly (after_closing (without_traced t place) next)
    → Stands Why o pid (after_closing (without_traced t place) next) s tally
unfolding after_closing
after-stands Why o pid t s tally place OpenNext stage before standing after =
    comes-stands Why o pid t s tally place OpenNext stage before standing _
    (next_opening-comes (without_traced t place)) after (λ q. refl)
after-stands Why o pid t s tally place GoOn stage before standing after =
    comes-stands Why o pid t s tally place GoOn stage before standing _ (going_on-comes (without_traced t place)) after
    (λ q. refl)
after-stands Why o pid t s tally place (RunParent parent) stage before standing after =
    let last : IsLast t.traced parent place = (subst (Fits t.traced) stage before.fits).1 in
    let u = with_stage (without_traced t place) (Running parent) in
    removed-stands Why o pid t s tally place (RunParent parent) stage before standing u
    (parent-follows t place parent stage last) after refl

closed-stands : (Why : Type 0) (o : Options) (pid : ℕ) (t : TrussState) (s : TracedState) (tally : Tally)
    (place : ℕ) (next : AfterClosing) → t.stage ≡ Closing place next → IsOrderly t → Standing Why o pid t s tally
    → (x : Option Traced) → without_last (traced_at t place) ≡ x → IsOrderly (closed_or_removed t place next x)
    → Stands Why o pid (closed_or_removed t place next x) s tally
closed-stands Why o pid t s tally place next stage before standing None is after =
    after-stands Why o pid t s tally place next stage before standing after
closed-stands Why o pid t s tally place next stage before standing (Some x) is after =
    let same = lost-same (traced_at t place) x is in
    less-stands Why o pid t s tally place next stage before standing x same.pid

-- The reply to the close of a file: the process holds one file less, or is not traced any more.
pub closing-stands : (Why : Type 0) (o : Options) (pid : ℕ) (t : TrussState) (r : Reply) (s : TracedState)
    (tally : Tally) (place : ℕ) (next : AfterClosing) → t.stage ≡ Closing place next
    → IsOrderly t → IsOrderly (fed t r) → Standing Why o pid t s tally → Stands Why o pid (fed t r) s tally
unfolding fed with_reply with_closed
closing-stands Why o pid t r s tally place next stage before after standing =
    let is : fed t r ≡ with_closed t place next = ap (with_reply t r) stage in
    subst (λ u. Stands Why o pid u s tally) (sym is)
    (closed-stands Why o pid t s tally place next stage before standing (without_last (traced_at t place)) refl
    (subst IsOrderly is after))

-- ---- a child that is set free

module _ (Why : Type 0) (o : Options) (pid : ℕ) (t : TrussState) (s : TracedState) (tally : Tally) (of : ℕ)
    (step : FreeingStep) (stage : t.stage ≡ FreeingChild of step) (standing : Standing Why o pid t s tally) where
  -- a stage at which the first process is still left
  left-stands : (u : TrussState) → place_of u pid ≡ place_of t pid → opens u.stage ≡ false
      → is_away u.leaving u.stage 0 ≡ true
      → ((q : ℕ) → q ≢ 0 → (traced_at u q ≡ traced_at t q) × (is_away u.leaving u.stage q ≡ false) ×
      (has_read u.stage q ≡ false) × (is_named u.stage q ≡ false)) → Stands Why o pid u s tally
  left-stands u same none away others =
      let at = FreeingChild of step in (
        agreeing-standing Why o pid t u s tally same
            (beside t u 0 (stage-away t at stage 0 ∙ same-place 0 0 refl) away
            (λ q differs. let m = others q differs in aside m.0 (stage-away t at stage q
            ∙ other-place q 0 differs) m.1 (m.2 ∙ sym (stage-read t at stage q)) (m.3
            ∙ sym (stage-named t at stage q)))) standing,
        prepares-none o pid u s none,
      )

  goes-stands : (later : FreeingStep) → Stands Why o pid (with_stage t (FreeingChild of later)) s tally
  goes-stands later =
      left-stands (with_stage t (FreeingChild of later)) refl refl
      (same-place 0 0 refl) (λ q differs. (refl, other-place q 0 differs, refl, refl))

  closes-stands : Stands Why o pid (with_stage t (Closing 0 GoOn)) s tally
  closes-stands =
      left-stands (with_stage t (Closing 0 GoOn)) refl refl (same-place 0 0 refl)
      (λ q differs. (refl, other-place 0 q (λ e. differs (sym e)), refl, refl))

  refused-stands : (errno : Errno) → Stands Why o pid (with_refused_freeing t of errno) s tally
  unfolding with_refused_freeing
  refused-stands errno =
      let u = with_stage (with_report t (CannotTrace of errno)) (Closing 0 GoOn) in
      left-stands u refl refl
      (same-place 0 0 refl) (λ q differs. (refl, other-place 0 q (λ e. differs (sym e)), refl, refl))

  begun-stands : (r : Reply) (a : Answer) → Stands Why o pid (with_freeing_begun t of r a) s tally
  unfolding with_freeing_begun
  begun-stands r Accepted = goes-stands (freeing.SetRelease (handle_in r))
  begun-stands r Interrupted = closes-stands
  begun-stands r Gone = refused-stands Noent
  begun-stands r (Refused errno) = refused-stands errno

freed-stands : (Why : Type 0) (o : Options) (pid : ℕ) (t : TrussState) (r : Reply) (s : TracedState)
    (tally : Tally) (of : ℕ) (step : FreeingStep) → t.stage ≡ FreeingChild of step → Standing Why o pid t s tally
    → Stands Why o pid (with_freeing_answered t of step r) s tally
unfolding with_freeing_answered
freed-stands Why o pid t r s tally of freeing.OpenControl stage standing =
    begun-stands Why o pid t s tally of freeing.OpenControl stage standing r (answer_of r)
freed-stands Why o pid t r s tally of (freeing.SetRelease control) stage standing =
    goes-stands Why o pid t s tally of (freeing.SetRelease control) stage standing (freeing.Close control)
freed-stands Why o pid t r s tally of (freeing.Close control) stage standing =
    closes-stands Why o pid t s tally of (freeing.Close control) stage standing

-- The reply to a step of the freeing of a child: the process that truss leaves, which stands first, is still being
-- left.
pub freeing-stands : (Why : Type 0) (o : Options) (pid : ℕ) (t : TrussState) (r : Reply) (s : TracedState)
    (tally : Tally) (of : ℕ) (step : FreeingStep) → t.stage ≡ FreeingChild of step → Standing Why o pid t s tally
    → Stands Why o pid (fed t r) s tally
unfolding fed with_reply
freeing-stands Why o pid t r s tally of step stage standing =
    let is : fed t r ≡ with_freeing_answered t of step r = ap (with_reply t r) stage in
    subst (λ u. Stands Why o pid u s tally) (sym is) (freed-stands Why o pid t r s tally of step stage standing)
