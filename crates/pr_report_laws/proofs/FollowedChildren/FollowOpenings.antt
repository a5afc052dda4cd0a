use Rattle.std.proofs.Common.{◌≡◌, ◌≢◌, ◌<◌, ◌≤◌, ◌++◌, ℕ, suc, Bool, true, false, Option, Some, None, List, [], ◌∷◌, length, take, refl, sym, subst, ap, ◌∙◌, arith, append_assoc}
use Rattle.std.proofs.lemmas.Bool.{false≢true}
use Rattle.std.proofs.lemmas.List.Elements.{All-cons, All-nil}
use Rattle.std.proofs.lemmas.Option.{none-some, same_Some}
use Rattle.std.specs.List.{All, cons_option, slice_get}
use Rattle.pr_model.specs.Replies.{handle_in}
use Rattle.pr_model.specs.declared.calls.Call.{Call}
use Rattle.pr_model.specs.declared.calls.Call.TheVariants as call
use Rattle.pr_model.specs.declared.calls.Reply.{Reply}
use Rattle.pr_model.specs.declared.calls.Reply.TheVariants as reply
use Rattle.pr_num.specs.declared.errnos.Errno.{Errno}
use Rattle.pr_num.specs.declared.errnos.Errno.TheVariants.{Intr, Noent}
use Rattle.pr_rec.specs.declared.lwps.LwpStatus.{LwpStatus}
use Rattle.pr_truss.specs.Children.{child_learnt, child_step_after, with_child_answered, with_child_started, with_child_step_answered, with_refused_child_step}
use Rattle.pr_truss.specs.Closings.{after_closing, closed_or_removed}
use Rattle.pr_truss.specs.Feeding.{fed, with_reply}
use Rattle.pr_truss.specs.NextCalls.{call_of, child_call, next_call_of, open_control, run_call}
use Rattle.pr_truss.specs.Processes.{last_handle, newly_traced, without_last}
use Rattle.pr_truss.specs.Replies.{answer_of}
use Rattle.pr_truss.specs.Trusses.{TrussState, traced_at, with_report, with_stage, with_traced, without_traced}
use Rattle.pr_truss.specs.declared.processes.Traced.{Traced}
use Rattle.pr_truss.specs.declared.replies.Answer.{Answer}
use Rattle.pr_truss.specs.declared.replies.Answer.TheVariants.{Accepted, Interrupted, Gone, Refused}
use Rattle.pr_truss.specs.declared.reports.Report.{Report}
use Rattle.pr_truss.specs.declared.reports.Report.TheVariants.{CannotTrace}
use Rattle.pr_truss.specs.declared.stages.AfterClosing.{AfterClosing}
use Rattle.pr_truss.specs.declared.stages.AfterClosing.TheVariants.{RunParent}
use Rattle.pr_truss.specs.declared.stages.ChildStep.{ChildStep}
use Rattle.pr_truss.specs.declared.stages.ChildStep.TheVariants as child
use Rattle.pr_truss.specs.declared.stages.Stage.{Stage}
use Rattle.pr_truss.specs.declared.stages.Stage.TheVariants.{OpeningChild, Running, Closing}
use Rattle.pr_truss_laws.proofs.Replies.AnswerLemmas.{IsAnswer, answer-is}
use Rattle.pr_truss_laws.proofs.Files.ClosesLemmas.{after-grown}
use Rattle.pr_truss_laws.proofs.Replies.FedSteps.{fed-step}
use Rattle.pr_truss_laws.proofs.Replies.FitLemmas.{fed-fits}
use Rattle.pr_truss_laws.proofs.Files.HeldLemmas.{ClosesFirst, Fits, IsFreshChild, Grown, close-fed, closes-first, closes-next, set-at}
use Rattle.pr_truss_laws.proofs.Replies.ReplySteps as row
use Rattle.pr_truss_laws.proofs.Replies.ReplySteps.{Closes, Looks, Reads, ReplyStep, Returns, Settles}
use Rattle.pr_truss_laws.specs.Exchanges.{Exchange, IsGranted, Makes, calls_in, opened_by, truss_after, with_opened_by}
use Rattle.pr_truss_laws.specs.Handles.{handles_of}
use Rattle.pr_report_laws.proofs.Invariant.OpeningRuns.{child-fed, child-pid, child-started, child_left, next-left}
use Rattle.pr_report_laws.proofs.Replies.TracedPlaces.{removed-before, set-length, set-other}
use Rattle.pr_report_laws.proofs.Memory.WatchMemory.{GoesChild}
use Rattle.pr_report_laws.specs.Follows.{RunsThen}
use Rattle.pr_report_laws.specs.Attachments.{child_calls}

-- How the opening of a child ends, and that its parent runs then.

-- ---- the calls of the opening

-- These are calls of an opening from a step on, where truss has learnt so much of the child.
abbrev pub BeginsChild : Traced → Option ChildStep → List Exchange → Type 0
BeginsChild u None xs = xs ≡ []
BeginsChild u (Some step) [] = Unit {0}
BeginsChild u (Some step) (x ∷ xs) =
    (x.call ≡ child_call u step) × BeginsChild (child_learnt u x.reply step) (child_step_after step) xs

front : {c d : Call} {cs ds : List Call} → c ≡ d → cs ≡ ds → c ∷ cs ≡ d ∷ ds
front p q = cc

pub begun-calls : (pid : ℕ) (x0 : Exchange) (xs : List Exchange) → x0.call ≡ open_control pid
    → BeginsChild (newly_traced pid (handle_in x0.reply)) (Some child.SetRelease) xs
    → calls_in (x0 ∷ xs) ≡ take (length (x0 ∷ xs)) (child_calls pid (handle_in x0.reply))
unfolding child_call child_learnt child_step_after newly_traced
begun-calls pid x0 [] f g = front f refl
begun-calls pid x0 (x1 ∷ []) f g = front f (front g.0 refl)
begun-calls pid x0 (x1 ∷ x2 ∷ []) f g = front f (front g.0 (front g.1.0 refl))
begun-calls pid x0 (x1 ∷ x2 ∷ x3 ∷ []) f g = front f (front g.0 (front g.1.0 (front g.1.1.0 refl)))
begun-calls pid x0 (x1 ∷ x2 ∷ x3 ∷ x4 ∷ []) f g =
    front f (front g.0 (front g.1.0 (front g.1.1.0 (front g.1.1.1.0 refl))))
begun-calls pid x0 (x1 ∷ x2 ∷ x3 ∷ x4 ∷ x5 ∷ []) f g =
    front f (front g.0 (front g.1.0 (front g.1.1.0 (front g.1.1.1.0 (front g.1.1.1.1.0 refl)))))
begun-calls pid x0 (x1 ∷ x2 ∷ x3 ∷ x4 ∷ x5 ∷ x6 ∷ xs) f g = cc

-- The call that comes after them is this one.
abbrev pub AwaitsChild : Option Call → Traced → Option ChildStep → List Exchange → Type 0
AwaitsChild n u None xs = Unit {0}
AwaitsChild n u (Some step) [] = n ≡ Some (child_call u step)
AwaitsChild n u (Some step) (x ∷ xs) = AwaitsChild n (child_learnt u x.reply step) (child_step_after step) xs

pub awaited-call : (n : Option Call) (pid : ℕ) (x0 : Exchange) (xs : List Exchange) → length xs < 5
    → AwaitsChild n (newly_traced pid (handle_in x0.reply)) (Some child.SetRelease) xs
    → n ≡ slice_get (child_calls pid (handle_in x0.reply)) (length (x0 ∷ xs))
unfolding child_call child_learnt child_step_after newly_traced
awaited-call n pid x0 [] few is = is
awaited-call n pid x0 (x1 ∷ []) few is = is
awaited-call n pid x0 (x1 ∷ x2 ∷ []) few is = is
awaited-call n pid x0 (x1 ∷ x2 ∷ x3 ∷ []) few is = is
awaited-call n pid x0 (x1 ∷ x2 ∷ x3 ∷ x4 ∷ []) few is = is
awaited-call n pid x0 (x1 ∷ x2 ∷ x3 ∷ x4 ∷ x5 ∷ xs) few is = absurd (omega (arith, few))

-- ---- the steps

child-some : (step : ChildStep) → 0 < child_left step
child-some child.SetRelease = omega arith
child-some _ = omega arith

last-step : (step : ChildStep) → child_step_after step ≡ None → step ≡ child.Start
unfolding child_step_after
last-step child.Start none = refl
last-step child.SetRelease none = absurd (none-some child.OpenStatus (sym none))
last-step child.OpenStatus none = absurd (none-some child.OpenLstatus (sym none))
last-step child.OpenLstatus none = absurd (none-some child.OpenMemory (sym none))
last-step child.OpenMemory none = absurd (none-some child.Start (sym none))

before-start : (s : TrussState) (parent place : ℕ) (r : Reply) (step next : ChildStep) (a : Answer)
    → child_step_after step ≡ Some next
    → with_child_answered s parent place step r a ≡ with_child_step_answered s parent place step r a
unfolding with_child_answered child_step_after
before-start s parent place r child.SetRelease next a after = refl
before-start s parent place r child.OpenStatus next a after = refl
before-start s parent place r child.OpenLstatus next a after = refl
before-start s parent place r child.OpenMemory next a after = refl
before-start s parent place r child.Start next a after = absurd (none-some next after)

-- ---- the handles of a child

-- what a step opens is the last one then
chain-step : (u : Traced) (r : Reply) (step next : ChildStep) → child_step_after step ≡ Some next → IsFreshChild u step
    → cons_option (opened_by (child_call u step) r) (handles_of u) ≡ handles_of (child_learnt u r step)
unfolding child_call child_learnt child_step_after
chain-step u r child.SetRelease next after f = refl
chain-step u r child.OpenStatus next after f = rw (f.memory, f.lstatus, f.status) refl
chain-step u r child.OpenLstatus next after f = rw (f.memory, f.lstatus) refl
chain-step u r child.OpenMemory next after f = rw f refl
chain-step u r child.Start next after f = absurd (none-some next after)

-- ---- what is not reported

-- a reply to the call of such a stage is reported in no case
abbrev is_quiet : Stage → Bool
is_quiet (Running place) = true
is_quiet (Closing place next) = true
is_quiet _ = false

module _ (t : TrussState) (r : Reply) where
  reads-loud : {A : Type 0} (stage : Stage) (place : ℕ) (l : Option LwpStatus) → is_quiet stage ≡ true
      → Reads t r stage place l → A
  reads-loud stage place l quiet (row.reads_status _) = absurd (false≢true quiet)
  reads-loud stage place l quiet (row.reads_none _) = absurd (false≢true quiet)
  reads-loud stage place l quiet (row.reads_lwps _) = absurd (false≢true quiet)

  looks-loud : {A : Type 0} (stage : Stage) (place : ℕ) (pid : Option ℕ) (u : TrussState) → is_quiet stage ≡ true
      → Looks t r stage place pid u → A
  looks-loud stage place pid u quiet (row.passes w) = reads-loud stage place _ quiet w.reads
  looks-loud stage place pid u quiet (row.passes_old reads _ _) = reads-loud stage place _ quiet reads
  looks-loud stage place pid u quiet (row.passes_event reads _ _) = reads-loud stage place _ quiet reads
  looks-loud stage place pid u quiet (row.shows reads _ _ _) = reads-loud stage place _ quiet reads
  looks-loud stage place pid u quiet row.shows_text = absurd (false≢true quiet)

  settles-quiet : (stage : Stage) (given : Bool) (u : TrussState) → is_quiet stage ≡ true → Settles t r stage given u
      → u.reports ≡ t.reports
  settles-quiet stage given u quiet (row.refuses_start _ _) = absurd (false≢true quiet)
  settles-quiet stage given u quiet (row.refuses_control _ _) = absurd (false≢true quiet)
  settles-quiet stage given u quiet (row.interrupts_text _ _) = absurd (false≢true quiet)
  settles-quiet stage given u quiet _ = refl

  closes-quiet : (stage : Stage) (place : ℕ) (next : AfterClosing) (u : TrussState) → is_quiet stage ≡ true
      → Closes t r stage place next u → u.reports ≡ t.reports
  closes-quiet stage place next u quiet (row.text_ended _) = absurd (false≢true quiet)
  closes-quiet stage place next u quiet (row.refuses_free _ _) = absurd (false≢true quiet)
  closes-quiet stage place next u quiet (row.refuses_opening _ _) = absurd (false≢true quiet)
  closes-quiet stage place next u quiet (row.refuses_child _ _) = absurd (false≢true quiet)
  closes-quiet stage place next u quiet _ = refl

  returns-quiet : (stage : Stage) (parent : ℕ) (u : TrussState) → is_quiet stage ≡ true → Returns t r stage parent u
      → u.reports ≡ t.reports
  returns-quiet stage parent u quiet (row.refuses_child_control _ _) = absurd (false≢true quiet)
  returns-quiet stage parent u quiet _ = refl

  step-quiet : (stage : Stage) (v : TrussState) → is_quiet stage ≡ true → ReplyStep t r stage v → v.reports ≡ t.reports
  step-quiet stage v quiet (row.settles {given = given} {u = u} w on) =
      let staged = row.on-staged on in staged.reports ∙ settles-quiet stage given u quiet w
  step-quiet stage v quiet (row.looks {place = place} {pid = pid} {u = u} w _) = looks-loud stage place pid u quiet w
  step-quiet stage v quiet (row.closes {place = place} {next = next} {u = u} w) =
      closes-quiet stage place next u quiet w
  step-quiet stage v quiet (row.returns {parent = parent} {u = u} w) = returns-quiet stage parent u quiet w
  step-quiet stage v quiet _ = refl

quiet-few : (t : TrussState) (xs : List Exchange) → is_quiet t.stage ≡ true → length xs ≤ 1
    → (truss_after t xs).reports ≡ t.reports
quiet-few t [] quiet short = refl
quiet-few t (x ∷ []) quiet short = step-quiet t x.reply t.stage (fed t x.reply) quiet (fed-step t x.reply)
quiet-few t (x ∷ y ∷ xs) quiet short = absurd (omega (arith, short))

-- ---- the parent runs

module _ (f : TrussState) (control : ℕ) where
  abbrev pub Runs : List ℕ → List Exchange → Type 0
  Runs handles xs = RunsThen (next_call_of f) control handles xs

  running-next : (s : TrussState) (parent : ℕ) → s.stage ≡ Running parent → (traced_at s parent).control ≡ control
      → next_call_of s ≡ Some (run_call control)
  unfolding next_call_of call_of
  running-next s parent stage of = ap (call_of s) stage ∙ ap (λ c. Some (run_call c)) of

  pub runs-now : (s : TrussState) (parent : ℕ) (xs : List Exchange) → s.stage ≡ Running parent
      → (traced_at s parent).control ≡ control → Makes s xs → truss_after s xs ≡ f → Runs [] xs
  runs-now s parent [] stage of makes last = ap next_call_of (sym last) ∙ running-next s parent stage of
  runs-now s parent (x ∷ xs) stage of makes last =
      (same_Some x.call (run_call control) (sym makes.0 ∙ running-next s parent stage of), tt)

  -- Truss closes the files of the child, which stands behind its parent.
  record IsClosing (s : TrussState) (u : Traced) (parent place : ℕ) : Type 0 where
    stage : s.stage ≡ Closing place (RunParent parent)
    behind : parent < place
    within : place < length s.traced
    child : traced_at s place ≡ u
    of : (traced_at s parent).control ≡ control

  closed-runs : (s : TrussState) (u : Traced) (parent place : ℕ) (x : Exchange) (xs : List Exchange)
      → IsClosing s u parent place → x.call ≡ call.Close (last_handle u)
      → ((t : TrussState) (v : Traced) → IsClosing t v parent place → Makes t xs → truss_after t xs ≡ f → Runs
      (handles_of v) xs) → (left : Option Traced) → ClosesFirst u left → Makes
      (closed_or_removed s place (RunParent parent) left) xs
      → truss_after (closed_or_removed s place (RunParent parent) left) xs ≡ f → Runs (handles_of u) (x ∷ xs)
  unfolding after_closing
  closed-runs s u parent place x xs c call later None first makes last =
      subst (λ hs. Runs hs (x ∷ xs)) (sym first) (
        call,
        runs-now (with_stage (without_traced s place) (Running parent)) parent xs refl
            (ap (λ (t : Traced). t.control) (removed-before s place c.within parent c.behind) ∙ c.of) makes last,
      )
  closed-runs s u parent place x xs c call later (Some t) first makes last =
      subst (λ hs. Runs hs (x ∷ xs)) (sym first) (
        call,
        later (with_traced s place t) t (record {
          stage = c.stage;
          behind = c.behind;
          within = omega (arith, set-length s place t, c.within);
          child = set-at s.traced place t c.within;
          of =
              ap (λ (v : Traced). v.control)
              (set-other s place t parent (λ same. absurd (omega (arith, same, c.behind)))) ∙ c.of;
        }) makes last,
      )

  closing-next : (u : Traced) → next_call_of f ≡ Some (call.Close (last_handle u)) → (left : Option Traced)
      → ClosesFirst u left → Runs (handles_of u) []
  closing-next u next None first = subst (λ hs. Runs hs []) (sym first) next
  closing-next u next (Some t) first = subst (λ hs. Runs hs []) (sym first) next

  closing-runs : (xs : List Exchange) (s : TrussState) (u : Traced) (parent place : ℕ) → IsClosing s u parent place
      → Makes s xs → truss_after s xs ≡ f → Runs (handles_of u) xs
  closing-runs [] s u parent place c makes last =
      closing-next u (ap next_call_of (sym last)
      ∙ closes-next s u place (RunParent parent) c.stage c.child) (without_last u) (closes-first u)
  closing-runs (x ∷ xs) s u parent place c makes last =
      let is : fed s x.reply ≡ closed_or_removed s place (RunParent parent) (without_last u) =
      close-fed s x.reply place (RunParent parent) c.stage
      ∙ ap (λ w. closed_or_removed s place (RunParent parent) (without_last w)) c.child in
      closed-runs s u parent place x xs c (same_Some x.call (call.Close (last_handle u)) (sym makes.0
      ∙ closes-next s u place (RunParent parent) c.stage c.child)) (λ t v. closing-runs xs t v parent place)
      (without_last u) (closes-first u)
      (subst (λ t. Makes t xs) is makes.1) (ap (λ t. truss_after t xs) (sym is) ∙ last)

-- ---- how an opening ends

module _ (f : TrussState) (control pid : ℕ) (base : List Report) where
  -- no call was refused before the last one; a call was refused, which is not the last one; the exchanges end before
  pub record Attached (u : Traced) (step : ChildStep) (xs : List Exchange) : Type 0 where
    pub opening : List Exchange
    pub last : Exchange
    pub later : List Exchange
    pub is : xs ≡ opening ++ last ∷ later
    pub goes : GoesChild u (Some step) (opening ++ last ∷ [])
    pub granted : All IsGranted opening
    pub lives : last.reply ≢ reply.Fail Noent → Runs f control [] later
    pub ended : last.reply ≡ reply.Fail Noent → Runs f control (with_opened_by (handles_of u) opening) later
    pub silent : length later ≤ 1 → f.reports ≡ base

  pub record Broken (u : Traced) (step : ChildStep) (errno : Errno) (xs : List Exchange) : Type 0 where
    pub opening : List Exchange
    pub later : List Exchange
    pub is : xs ≡ opening ++ later
    pub goes : BeginsChild u (Some step) opening
    pub before : List Exchange
    pub call : Call
    pub last : opening ≡ before ++ record { call = call; reply = reply.Fail errno } ∷ []
    pub granted : All IsGranted before
    pub not_last : length opening < child_left step

  pub record Failed (u : Traced) (step : ChildStep) (xs : List Exchange) : Type 0 where
    pub errno : Errno
    pub broken : Broken u step errno xs
    pub more : List Report
    pub reported : f.reports ≡ base ++ CannotTrace pid errno ∷ more
    pub parent : Runs f control (with_opened_by (handles_of u) broken.before) broken.later

  pub record Begun (u : Traced) (step : ChildStep) (xs : List Exchange) : Type 0 where
    pub goes : BeginsChild u (Some step) xs
    pub granted : All IsGranted xs
    pub not_done : length xs < child_left step
    pub goes_on : AwaitsChild (next_call_of f) u (Some step) xs

  pub data ChildEnd (u : Traced) (step : ChildStep) (xs : List Exchange) : Type 0 where
    whole : Attached u step xs → ChildEnd u step xs
    failed : Failed u step xs → ChildEnd u step xs
    stopped : Broken u step Intr xs → ChildEnd u step xs
    unfinished : Begun u step xs → ChildEnd u step xs

  -- Truss opens the child, and has come to this step.
  pub record IsAt (s : TrussState) (u : Traced) (parent place : ℕ) (step : ChildStep) : Type 0 where
    pub stage : s.stage ≡ OpeningChild parent place step
    pub behind : parent < place
    pub within : place < length s.traced
    pub fits : Fits s.traced s.stage
    pub child : traced_at s place ≡ u
    pub own : u.pid ≡ pid
    pub of : (traced_at s parent).control ≡ control
    pub reports : s.reports ≡ base

  -- ---- one call more in front, which was granted

  module _ (u : Traced) (step next : ChildStep) (x : Exchange) (xs : List Exchange)
      (after : child_step_after step ≡ Some next) (call : x.call ≡ child_call u step) (fresh : IsFreshChild u step)
      (granted : IsGranted x) where
    shorter : child_left step ≡ suc (child_left next)
    shorter = next-left step next after

    abbrev then : Traced
    then = child_learnt u x.reply step

    opened-then : (ys : List Exchange) → with_opened_by (handles_of u) (x ∷ ys) ≡ with_opened_by (handles_of then) ys
    opened-then ys =
        ap (λ hs. with_opened_by hs ys) (ap (λ c. cons_option (opened_by c x.reply) (handles_of u)) call
        ∙ chain-step u x.reply step next after fresh)

    broken-more : (errno : Errno) → Broken then next errno xs → Broken u step errno (x ∷ xs)
    broken-more errno d = record {
      opening = x ∷ d.opening;
      later = d.later;
      is = ap (λ ys. x ∷ ys) d.is;
      goes = (call, subst (λ n. BeginsChild then n d.opening) (sym after) d.goes);
      before = x ∷ d.before;
      call = d.call;
      last = ap (λ ys. x ∷ ys) d.last;
      granted = All-cons IsGranted x d.before granted d.granted;
      not_last = omega (arith, d.not_last, shorter);
    }

    end-more : ChildEnd then next xs → ChildEnd u step (x ∷ xs)
    unfolding broken-more
    end-more (whole d) = whole (record {
      opening = x ∷ d.opening;
      last = d.last;
      later = d.later;
      is = ap (λ ys. x ∷ ys) d.is;
      goes = (call, subst (λ n. GoesChild then n (d.opening ++ d.last ∷ [])) (sym after) d.goes);
      granted = All-cons IsGranted x d.opening granted d.granted;
      lives = d.lives;
      ended = λ gone. subst (λ hs. Runs f control hs d.later) (sym (opened-then d.opening)) (d.ended gone);
      silent = d.silent;
    })
    end-more (failed d) =
        failed (record {
          errno = d.errno;
          broken = broken-more d.errno d.broken;
          more = d.more;
          reported = d.reported;
          parent = let b = d.broken in subst (λ hs. Runs f control hs b.later) (sym (opened-then b.before)) d.parent;
        })
    end-more (stopped d) = stopped (broken-more Intr d)
    end-more (unfinished d) = unfinished (record {
      goes = (call, subst (λ n. BeginsChild then n xs) (sym after) d.goes);
      granted = All-cons IsGranted x xs granted d.granted;
      not_done = omega (arith, d.not_done, shorter);
      goes_on = subst (λ n. AwaitsChild (next_call_of f) then n xs) (sym after) d.goes_on;
    })

  -- ---- one call

  child-next : (s : TrussState) (u : Traced) (parent place : ℕ) (step : ChildStep) → IsAt s u parent place step
      → next_call_of s ≡ Some (child_call u step)
  unfolding next_call_of call_of
  child-next s u parent place step at = ap (call_of s) at.stage ∙ ap (λ t. Some (child_call t step)) at.child

  module _ (s : TrussState) (u : Traced) (parent place : ℕ) (x : Exchange) (xs : List Exchange) where
    child-called : (step : ChildStep) → IsAt s u parent place step → next_call_of s ≡ Some x.call
        → x.call ≡ child_call u step
    child-called step at next = same_Some x.call (child_call u step) (sym next ∙ child-next s u parent place step at)

    -- PCRUN
    module _ (at : IsAt s u parent place child.Start) (call : x.call ≡ child_call u child.Start)
        (makes : Makes (fed s x.reply) xs) (last : truss_after (fed s x.reply) xs ≡ f) where
      started : (x.reply ≢ reply.Fail Noent → Runs f control [] xs)
          → (x.reply ≡ reply.Fail Noent → Runs f control (handles_of u) xs) → (length xs ≤ 1 → f.reports ≡ base)
          → ChildEnd u child.Start (x ∷ xs)
      unfolding child_step_after
      started lives ended silent =
          whole (record {
            opening = [];
            last = x;
            later = xs;
            is = refl;
            goes = (call, refl);
            granted = All-nil IsGranted;
            lives = lives;
            ended = ended;
            silent = silent;
          })

      -- a call after it reports nothing
      reports-none : (v : TrussState) → is_quiet v.stage ≡ true → v.reports ≡ s.reports → truss_after v xs ≡ f
          → length xs ≤ 1 → f.reports ≡ base
      reports-none v quiet same ends short =
          ap (λ (w : TrussState). w.reports) (sym ends) ∙ quiet-few v xs quiet short ∙ same ∙ at.reports

      noent-gone : x.reply ≡ reply.Fail Noent → answer_of x.reply ≡ Gone
      unfolding answer_of
      noent-gone is = ap answer_of is

      lives-on : answer_of x.reply ≢ Gone → ChildEnd u child.Start (x ∷ xs)
      lives-on lives =
          let is = child-started s parent place x.reply at.stage lives in
          let m : Makes (with_stage s (Running parent)) xs = subst (λ v. Makes v xs) is makes in
          let ends : truss_after (with_stage s (Running parent)) xs ≡ f =
          ap (λ v. truss_after v xs) (sym is) ∙ last in
          started (λ not. runs-now f control (with_stage s (Running parent)) parent xs refl at.of m ends)
          (λ gone. absurd (lives (noent-gone gone)))
          (reports-none (with_stage s (Running parent)) refl refl ends)

      gone-fed : answer_of x.reply ≡ Gone → fed s x.reply ≡ with_stage s (Closing place (RunParent parent))
      unfolding fed with_reply with_child_answered with_child_started
      gone-fed gone = ap (with_reply s x.reply) at.stage ∙ ap (with_child_started s parent place) gone

      gone-is : answer_of x.reply ≡ Gone → x.reply ≡ reply.Fail Noent
      unfolding IsAnswer
      gone-is gone = subst (IsAnswer x.reply) gone (answer-is x.reply)

      ends-there : answer_of x.reply ≡ Gone → ChildEnd u child.Start (x ∷ xs)
      ends-there gone =
          let m : Makes (with_stage s (Closing place (RunParent parent))) xs =
          subst (λ v. Makes v xs) (gone-fed gone) makes in
          let ends : truss_after (with_stage s (Closing place (RunParent parent))) xs ≡ f =
          ap (λ v. truss_after v xs) (sym (gone-fed gone)) ∙ last in
          started (λ not. absurd (not (gone-is gone)))
          (λ is. closing-runs f control xs (with_stage s (Closing place (RunParent parent))) u parent place
          (record { stage = refl; behind = at.behind; within = at.within; child = at.child; of = at.of }) m ends)
          (reports-none (with_stage s (Closing place (RunParent parent))) refl refl ends)

      start-end : (a : Answer) → answer_of x.reply ≡ a → ChildEnd u child.Start (x ∷ xs)
      start-end Gone is = ends-there is
      start-end _ is = lives-on (λ gone. cc)

    -- a call before it
    module _ (step next : ChildStep) (after : child_step_after step ≡ Some next) (at : IsAt s u parent place step)
        (call : x.call ≡ child_call u step) (makes : Makes (fed s x.reply) xs)
        (last : truss_after (fed s x.reply) xs ≡ f) where
      broken-here : (errno : Errno) → x.reply ≡ reply.Fail errno → Broken u step errno (x ∷ xs)
      broken-here errno is = record {
        opening = x ∷ [];
        later = xs;
        is = refl;
        goes = (call, subst (λ n. BeginsChild (child_learnt u x.reply step) n []) (sym after) tt);
        before = [];
        call = x.call;
        last = ap (λ r. record { call = x.call; reply = r } ∷ []) is;
        granted = All-nil IsGranted;
        not_last = omega (arith, next-left step next after, child-some next);
      }

      abbrev refused_state : Errno → TrussState
      refused_state errno =
          with_stage (with_report s (CannotTrace (traced_at s place).pid errno)) (Closing place (RunParent parent))

      failed-here : (errno : Errno) → x.reply ≡ reply.Fail errno → fed s x.reply ≡ refused_state errno
          → ChildEnd u step (x ∷ xs)
      unfolding broken-here
      failed-here errno is comes =
          let m : Makes (refused_state errno) xs = subst (λ v. Makes v xs) comes makes in
          let fits : Fits (refused_state errno).traced (refused_state errno).stage =
          subst (λ (v : TrussState). Fits v.traced v.stage) comes (fed-fits s x.reply at.fits) in
          let ends : truss_after (refused_state errno) xs ≡ f = ap (λ v. truss_after v xs) (sym comes) ∙ last in
          let g : Grown (refused_state errno).reports f.reports =
          subst (λ (v : TrussState). Grown (refused_state errno).reports v.reports) ends
          (after-grown xs (refused_state errno)) in
          failed (record {
            errno = errno;
            broken = broken-here errno is;
            more = g.more;
            reported =
                g.is ∙ append_assoc s.reports (CannotTrace (traced_at s place).pid errno ∷ []) g.more
                ∙ ap (λ rs. rs ++ CannotTrace (traced_at s place).pid errno ∷ g.more) at.reports
                ∙ ap (λ n. base ++ CannotTrace n errno ∷ g.more) (ap (λ (t : Traced). t.pid) at.child ∙ at.own);
            parent =
                closing-runs f control xs (refused_state errno) u parent place
                (record { stage = refl; behind = at.behind; within = at.within; child = at.child; of = at.of }) m ends;
          })

      refused-fed : (errno : Errno) (a : Answer) → answer_of x.reply ≡ a
          → with_child_step_answered s parent place step x.reply a ≡ refused_state errno
          → fed s x.reply ≡ refused_state errno
      unfolding fed with_reply
      refused-fed errno a answer is =
          ap (with_reply s x.reply) at.stage ∙ ap (with_child_answered s parent place step x.reply) answer
          ∙ before-start s parent place x.reply step next a after ∙ is

      abbrev next_state : TrussState
      next_state =
          with_stage (with_traced s place (child_learnt (traced_at s place) x.reply step))
          (OpeningChild parent place next)

      next-at : fed s x.reply ≡ next_state → IsAt next_state (child_learnt u x.reply step) parent place next
      next-at is = record {
        stage = refl;
        behind = at.behind;
        within = omega (arith, set-length s place (child_learnt (traced_at s place) x.reply step), at.within);
        fits = subst (λ (v : TrussState). Fits v.traced v.stage) is (fed-fits s x.reply at.fits);
        child =
            set-at s.traced place (child_learnt (traced_at s place) x.reply step) at.within
            ∙ ap (λ t. child_learnt t x.reply step) at.child;
        own = child-pid u x.reply step ∙ at.own;
        of =
            ap (λ (t : Traced). t.control)
            (set-other s place (child_learnt (traced_at s place) x.reply step) parent
            (λ same. absurd (omega (arith, same, at.behind)))) ∙ at.of;
        reports = at.reports;
      }

      step-end :
          ((v : TrussState) (w : Traced)
          (n : ChildStep) → IsAt v w parent place n → Makes v xs → truss_after v xs ≡ f
          → ChildEnd w n xs) → (a : Answer) → IsAnswer x.reply a → answer_of x.reply ≡ a → ChildEnd u step
          (x ∷ xs)
      unfolding IsAnswer with_child_step_answered with_refused_child_step
      step-end later Accepted is answer =
          let goes = child-fed s parent place step next x.reply at.stage after answer in
          let f : Fits s.traced (OpeningChild parent place step) = subst (Fits s.traced) at.stage at.fits in
          end-more u step next x xs after call (subst (λ t. IsFreshChild t step) at.child f.1)
          (record { not_refused = is })
          (later next_state (child_learnt u x.reply step) next (next-at goes)
          (subst (λ v. Makes v xs) goes makes) (ap (λ v. truss_after v xs) (sym goes) ∙ last))
      step-end later Interrupted is answer = stopped (broken-here Intr is)
      step-end later Gone is answer = failed-here Noent is (refused-fed Noent Gone answer refl)
      step-end later (Refused errno) is answer = failed-here errno is (refused-fed errno (Refused errno) answer refl)

  -- ---- all of them

  pub child-end : (xs : List Exchange) (s : TrussState) (u : Traced) (parent place : ℕ) (step : ChildStep)
      → IsAt s u parent place step → Makes s xs → truss_after s xs ≡ f → ChildEnd u step xs
  child-end [] s u parent place step at makes last =
      unfinished (record {
        goes = tt;
        granted = All-nil IsGranted;
        not_done = child-some step;
        goes_on = ap next_call_of (sym last) ∙ child-next s u parent place step at;
      })
  child-end (x ∷ xs) s u parent place step at makes last =
      by (λ v w n. child-end xs v w parent place n) (child_step_after step) refl
    where
      by : ((v : TrussState) (w : Traced)
          (n : ChildStep) → IsAt v w parent place n → Makes v xs → truss_after v xs ≡ f
          → ChildEnd w n xs) → (n : Option ChildStep) → child_step_after step ≡ n → ChildEnd u step (x ∷ xs)
      by later None is =
          let start = last-step step is in
          let here = subst (IsAt s u parent place) start at in
          subst (λ n. ChildEnd u n (x ∷ xs)) (sym start)
          (start-end s u parent place x xs here
          (child-called s u parent place x xs child.Start here makes.0) makes.1 last (answer_of x.reply) refl)
      by later (Some next) is =
          step-end s u parent place x xs step next is at
          (child-called s u parent place x xs step at makes.0) makes.1 last later (answer_of x.reply)
          (answer-is x.reply) refl
