use Rattle.std.proofs.Common.{◌≡◌, ◌≢◌, ◌<◌, ◌+◌, ℕ, suc, Option, Some, None, List, [], ◌∷◌, ◌++◌, length, map, take, refl, sym, subst, ap, ◌∙◌, arith}
use Rattle.std.proofs.lemmas.List.{get_or-set_same, length-set}
use Rattle.std.proofs.lemmas.Option.{same_Some}
use Rattle.std.proofs.lemmas.List.Elements.{All-nil, All-cons}
use Rattle.std.specs.List.{All, cons_option}
use Rattle.pr_line.specs.declared.options.Options.{Options}
use Rattle.pr_model.specs.declared.calls.Call.{Call}
use Rattle.pr_model.specs.declared.calls.Call.TheVariants as call
use Rattle.pr_model.specs.declared.calls.Reply.{Reply}
use Rattle.pr_model.specs.declared.calls.Reply.TheVariants as reply
use Rattle.pr_num.specs.declared.errnos.Errno.{Errno}
use Rattle.pr_num.specs.declared.errnos.Errno.TheVariants.{Intr, Noent}
use Rattle.pr_truss.specs.Closings.{with_interrupt, with_closed, closed_or_removed, after_closing, with_next_opening}
use Rattle.pr_truss.specs.Feeding.{fed, with_reply}
use Rattle.pr_truss.specs.NextCalls.{next_call_of, call_of, opening_call}
use Rattle.pr_truss.specs.Openings.{learnt, step_after, at_step, with_step_done, with_refused_step, with_step_answered, with_stop_seen}
use Rattle.pr_truss.specs.Processes.{last_handle, without_last}
use Rattle.pr_truss.specs.Replies.{answer_of}
use Rattle.pr_truss.specs.Trusses.{TrussState, nobody, traced_at, with_report, with_stage, with_traced, without_traced}
use Rattle.pr_truss.specs.declared.processes.Traced.{Traced}
use Rattle.pr_truss.specs.declared.replies.Answer.{Answer}
use Rattle.pr_truss.specs.declared.replies.Answer.TheVariants.{Accepted, Interrupted, Gone, Refused}
use Rattle.pr_truss.specs.declared.reports.Report.TheVariants.{CannotTrace}
use Rattle.pr_truss.specs.declared.stages.AfterClosing.TheVariants.{OpenNext}
use Rattle.pr_truss.specs.declared.stages.OpeningStep.{OpeningStep}
use Rattle.pr_truss.specs.declared.stages.OpeningStep.TheVariants as opening
use Rattle.pr_truss.specs.declared.stages.Stage.TheVariants.{Opening, Closing}
use Rattle.pr_truss_laws.proofs.Replies.AnswerLemmas.{IsAnswer, Refuses, answer-is, gone-refuses, other-refuses}
use Rattle.pr_truss_laws.proofs.GivenProcesses.ChildrenLemmas.{interrupted-alone}
use Rattle.pr_truss_laws.proofs.Replies.FitLemmas.{FreshNext, step-fresh}
use Rattle.pr_truss_laws.proofs.Files.HeldLemmas.{ClosesFirst, IsFresh, closes-first}
use Rattle.pr_truss_laws.proofs.GivenProcesses.SequenceLemmas.{Goes, GoesToEnd, front}
use Rattle.pr_truss_laws.specs.Business.{OpensChildrenAlone}
use Rattle.pr_truss_laws.specs.Exchanges.{Exchange, IsGranted, Makes, calls_in, errno_in, opened_by, truss_after, with_opened_by}
use Rattle.pr_truss_laws.specs.Handles.{handles_of}

-- How far an opening comes, and the closing that follows one that was refused.

-- two states of truss that differ in neither of these
pub record SameBase (s u : TrussState) : Type 0 where
  pub options : u.options ≡ s.options
  pub begun : u.begun ≡ s.begun
  pub reports : u.reports ≡ s.reports

pub same-base : (s u v : TrussState) → SameBase s u → SameBase u v → SameBase s v
same-base s u v p q = record {
  options = q.options ∙ p.options;
  begun = q.begun ∙ p.begun;
  reports = q.reports ∙ p.reports;
}

-- ---- on the way to this state

module _ (f : TrussState) where
  -- the exchanges by which truss came to it
  pub record Leads (s : TrussState) (xs : List Exchange) : Type 0 where
    pub makes : Makes s xs
    pub last : truss_after s xs ≡ f

  -- The opening was done; it was refused; truss was interrupted; it goes on.
  pub record Done (s : TrussState) (t : Traced) (step : Option OpeningStep) (xs : List Exchange) : Type 0 where
    pub opening : List Exchange
    pub later : List Exchange
    pub is : xs ≡ opening ++ later
    pub goes : GoesToEnd s.options t step opening
    pub granted : All IsGranted opening
    pub state : TrussState
    pub same : SameBase s state
    pub ends : Leads (with_next_opening state) later

  pub record Stopped (s : TrussState) (t : Traced) (step : Option OpeningStep) (errno : Errno)
      (xs : List Exchange) : Type 0 where
    pub opening : List Exchange
    pub later : List Exchange
    pub is : xs ≡ opening ++ later
    pub goes : Goes s.options t step opening
    pub before : List Exchange
    pub call : Call
    pub last : opening ≡ before ++ record { call = call; reply = reply.Fail errno } ∷ []
    pub granted : All IsGranted before

  -- Truss was interrupted, and opens children alone then.
  pub record Broken (s : TrussState) (t : Traced) (step : Option OpeningStep) (xs : List Exchange) : Type 0 where
    pub stopped : Stopped s t step Intr xs
    pub alone : OpensChildrenAlone s.options stopped.later

  pub record Failed (s : TrussState) (t : Traced) (step : Option OpeningStep) (xs : List Exchange) : Type 0 where
    pub errno : Errno
    pub not_interrupted : errno ≢ Intr
    pub stopped : Stopped s t step errno xs
    pub state : TrussState
    pub place : ℕ
    pub within : place < length state.traced
    pub handles : handles_of (traced_at state place) ≡ with_opened_by (handles_of t) stopped.before
    pub same : SameBase s state
    pub ends : Leads (with_stage (with_report state (CannotTrace t.pid errno)) (Closing place OpenNext)) stopped.later

  pub record Going (s : TrussState) (t : Traced) (step : Option OpeningStep) (xs : List Exchange) : Type 0 where
    pub next : Call
    pub due : next_call_of f ≡ Some next
    pub goes : Goes s.options t step (xs ++ record { call = next; reply = reply.Done } ∷ [])
    pub granted : All IsGranted xs
    pub reports : f.reports ≡ s.reports

  pub data OpeningEnd (s : TrussState) (t : Traced) (step : Option OpeningStep) (xs : List Exchange) : Type 0 where
    done : Done s t step xs → OpeningEnd s t step xs
    failed : Failed s t step xs → OpeningEnd s t step xs
    left : Broken s t step xs → OpeningEnd s t step xs
    going : Going s t step xs → OpeningEnd s t step xs

  -- what a step opens is the last file then
  opened-handles : (o : Options) (t : Traced) (r : Reply) (step : OpeningStep) → IsFresh t step
      → cons_option (opened_by (opening_call o t step) r) (handles_of t) ≡ handles_of (learnt t r step)
  unfolding opening_call learnt
  opened-handles o t r opening.OpenStatus f = rw (f.memory, f.lstatus, f.status) refl
  opened-handles o t r opening.OpenLstatus f = rw (f.memory, f.lstatus) refl
  opened-handles o t r opening.OpenMemory f = rw f refl
  opened-handles o t r (opening.AwaitStop until) f = refl
  opened-handles o t r opening.ReadLwps f = refl
  opened-handles o t r _ f = refl

  learnt-pid : (t : Traced) (r : Reply) (step : OpeningStep) → (learnt t r step).pid ≡ t.pid
  unfolding learnt
  learnt-pid t r (opening.AwaitStop until) = refl
  learnt-pid t r _ = refl

  -- one call more in front, which was granted
  module _ (s u : TrussState) (t : Traced) (step : OpeningStep) (x : Exchange) (xs : List Exchange)
      (call : x.call ≡ opening_call s.options t step) (granted : errno_in x.reply ≡ None) (same : SameBase s u)
      (fresh : IsFresh t step) where
    All-granted : (ys : List Exchange) → All IsGranted ys → All IsGranted (x ∷ ys)
    All-granted ys all = All-cons IsGranted x ys (record { not_refused = granted }) all

    done-more : Done u (learnt t x.reply step) (step_after s.options x.reply step) xs → Done s t (Some step) (x ∷ xs)
    done-more d = record {
      opening = x ∷ d.opening;
      later = d.later;
      is = ap (λ ys. x ∷ ys) d.is;
      goes = (
        call,
        subst
            (λ o. GoesToEnd o (learnt t x.reply step)
            (step_after s.options x.reply step) d.opening) same.options d.goes,
      );
      granted = All-granted d.opening d.granted;
      state = d.state;
      same = same-base s u d.state same d.same;
      ends = d.ends;
    }

    stopped-more : (errno : Errno) → Stopped u (learnt t x.reply step) (step_after s.options x.reply step) errno xs
        → Stopped s t (Some step) errno (x ∷ xs)
    stopped-more errno d = record {
      opening = x ∷ d.opening;
      later = d.later;
      is = ap (λ ys. x ∷ ys) d.is;
      goes = (
        call,
        subst
            (λ o. Goes o (learnt t x.reply step) (step_after s.options x.reply step) d.opening) same.options d.goes,
      );
      before = x ∷ d.before;
      call = d.call;
      last = ap (λ ys. x ∷ ys) d.last;
      granted = All-granted d.before d.granted;
    }

    going-more : Going u (learnt t x.reply step) (step_after s.options x.reply step) xs → Going s t (Some step) (x ∷ xs)
    going-more d = record {
      next = d.next;
      due = d.due;
      goes = (
        call,
        subst
            (λ o. Goes o (learnt t x.reply step) (step_after s.options x.reply step)
            (xs ++ record { call = d.next; reply = reply.Done } ∷ [])) same.options d.goes,
      );
      granted = All-granted xs d.granted;
      reports = d.reports ∙ same.reports;
    }

    opened-more : (ys : List Exchange)
        → with_opened_by (handles_of (learnt t x.reply step)) ys ≡ with_opened_by (handles_of t) (x ∷ ys)
    opened-more ys =
        ap (λ hs. with_opened_by hs ys) (sym (opened-handles s.options t x.reply step fresh)
        ∙ ap (λ c. cons_option (opened_by c x.reply) (handles_of t)) (sym call))

    end-more : OpeningEnd u (learnt t x.reply step) (step_after s.options x.reply step) xs
        → OpeningEnd s t (Some step) (x ∷ xs)
    unfolding stopped-more
    end-more (done d) = done (done-more d)
    end-more (left d) = left (record {
      stopped = stopped-more Intr d.stopped;
      alone = subst (λ o. OpensChildrenAlone o d.stopped.later) same.options d.alone;
    })
    end-more (going d) = going (going-more d)
    end-more (failed d) = failed (record {
      errno = d.errno;
      not_interrupted = d.not_interrupted;
      stopped = stopped-more d.errno d.stopped;
      state = d.state;
      place = d.place;
      within = d.within;
      handles = d.handles ∙ opened-more d.stopped.before;
      same = same-base s u d.state same d.same;
      ends =
          subst (λ pid. Leads
          (with_stage (with_report d.state (CannotTrace pid d.errno)) (Closing d.place OpenNext)) d.stopped.later)
          (learnt-pid t x.reply step) d.ends;
    })

  same-self : (s : TrussState) → SameBase s s
  same-self s = record { options = refl; begun = refl; reports = refl }

  goes-none : (o : Options) (u : Traced) (next : Option OpeningStep) → Goes o u next []
  goes-none o u None = refl
  goes-none o u (Some next) = tt

  -- the call that was refused
  stopped-here : (s : TrussState) (t : Traced) (step : OpeningStep) (x : Exchange) (xs : List Exchange) (errno : Errno)
      → x.call ≡ opening_call s.options t step → x.reply ≡ reply.Fail errno → Stopped s t (Some step) errno (x ∷ xs)
  stopped-here s t step x xs errno call is = record {
    opening = x ∷ [];
    later = xs;
    is = refl;
    goes = (call, goes-none s.options (learnt t x.reply step) (step_after s.options x.reply step));
    before = [];
    call = x.call;
    last = ap (λ r. record { call = x.call; reply = r } ∷ []) is;
    granted = All-nil IsGranted;
  }

  -- nothing more to be done: the opening is whole
  done-none : (s u : TrussState) (t : Traced) (xs : List Exchange) → SameBase s u → Leads (with_next_opening u) xs
      → OpeningEnd s t None xs
  done-none s u t xs same ends = done (record {
    opening = [];
    later = xs;
    is = refl;
    goes = refl;
    granted = All-nil IsGranted;
    state = u;
    same = same;
    ends = ends;
  })

  pub leads-later : (s : TrussState) (x : Exchange) (xs : List Exchange) → Leads s (x ∷ xs) → Leads (fed s x.reply) xs
  leads-later s x xs l = record { makes = l.makes.1; last = l.last }

  next-call : (s : TrussState) (place : ℕ) (step : OpeningStep) (x : Exchange) (xs : List Exchange)
      → Leads (with_stage s (Opening place step)) (x ∷ xs) → x.call ≡ opening_call s.options (traced_at s place) step
  unfolding next_call_of call_of
  next-call s place step x xs ends =
      same_Some x.call (opening_call s.options (traced_at s place) step) (sym ends.makes.0)

  step-answered : (s : TrussState) (place : ℕ) (step : OpeningStep) (x : Exchange) (xs : List Exchange)
      → Leads (with_stage s (Opening place step)) (x ∷ xs)
      → Leads (with_step_answered (with_stage s (Opening place step)) place step x.reply (answer_of x.reply)) xs
  unfolding fed with_reply
  step-answered s place step x xs ends = leads-later (with_stage s (Opening place step)) x xs ends

  -- no more calls were made
  going-here : (s : TrussState) (t : Traced) (place : ℕ) (step : OpeningStep) → traced_at s place ≡ t
      → Leads (with_stage s (Opening place step)) [] → Going s t (Some step) []
  unfolding next_call_of call_of
  going-here s t place step at ends = record {
    next = opening_call s.options t step;
    due = ap next_call_of (sym ends.last) ∙ ap (λ (u : Traced). Some (opening_call s.options u step)) at;
    goes = (refl, goes-none s.options (learnt t reply.Done step) (step_after s.options reply.Done step));
    granted = All-nil IsGranted;
    reports = ap (λ (u : TrussState). u.reports) (sym ends.last);
  }

  -- the process at a place, after it became another one
  pub traced-there : (s : TrussState) (place : ℕ) (t : Traced) → place < length s.traced
      → traced_at (with_traced s place t) place ≡ t
  traced-there s place t within = get_or-set_same s.traced place t nobody within

  pub traced-count : (s : TrussState) (place : ℕ) (t : Traced) → place < length s.traced
      → place < length (with_traced s place t).traced
  traced-count s place t within = omega (arith, length-set s.traced place t)

  failed-here : (s : TrussState) (t : Traced) (place : ℕ) (step : OpeningStep) (x : Exchange) (xs : List Exchange)
      (errno : Errno) → x.call ≡ opening_call s.options t step → Refuses x.reply errno → place < length s.traced
      → traced_at s place ≡ t → Leads (with_refused_step (with_stage s (Opening place step)) place errno) xs
      → OpeningEnd s t (Some step) (x ∷ xs)
  unfolding with_refused_step stopped-here
  failed-here s t place step x xs errno call refuses within at ends = failed (record {
    errno = errno;
    not_interrupted = refuses.not_interrupted;
    stopped = stopped-here s t step x xs errno call refuses.is;
    state = with_stage s (Opening place step);
    place = place;
    within = within;
    handles = ap handles_of at;
    same = record { options = refl; begun = refl; reports = refl };
    ends =
        subst (λ (u : Traced). Leads
        (with_stage (with_report s (CannotTrace u.pid errno)) (Closing place OpenNext)) xs) at ends;
  })

  left-here : (s : TrussState) (t : Traced) (place : ℕ) (step : OpeningStep) (x : Exchange) (xs : List Exchange)
      → x.call ≡ opening_call s.options t step → x.reply ≡ reply.Fail Intr
      → Leads (with_interrupt (with_stop_seen (with_stage s (Opening place step)) place)) xs
      → OpeningEnd s t (Some step) (x ∷ xs)
  unfolding stopped-here with_stop_seen
  left-here s t place step x xs call is ends = left (record {
    stopped = stopped-here s t step x xs Intr call is;
    alone = interrupted-alone (with_stop_seen (with_stage s (Opening place step)) place) xs ends.makes;
  })

  -- what comes after a call that was granted, if each next step ends so
  accepted : (s : TrussState) (t : Traced) (place : ℕ) (step : OpeningStep) (x : Exchange) (xs : List Exchange)
      → place < length s.traced → traced_at s place ≡ t → IsFresh t step
      → ((u : TrussState) (v : Traced) (next : OpeningStep) → place < length u.traced → traced_at u place ≡ v
      → IsFresh v next → Leads (with_stage u (Opening place next)) xs → OpeningEnd u v (Some next) xs)
      → Leads (with_step_done (with_stage s (Opening place step)) place x.reply step) xs
      → x.call ≡ opening_call s.options t step → errno_in x.reply ≡ None → OpeningEnd s t (Some step) (x ∷ xs)
  unfolding with_step_done
  accepted s t place step x xs within at fresh later ends call granted =
      let u : TrussState = with_traced (with_stage s (Opening place step)) place (learnt t x.reply step) in
      let same : SameBase s u = record { options = refl; begun = refl; reports = refl } in
      let goes_on : Leads (at_step u place (step_after s.options x.reply step)) xs =
      subst (λ (v : Traced). Leads
      (at_step (with_traced (with_stage s (Opening place step)) place (learnt v x.reply step)) place
      (step_after s.options x.reply step)) xs) at ends in
      let rest : (next : Option OpeningStep) → FreshNext (learnt t x.reply step) next → Leads (at_step u place next) xs
      → OpeningEnd u (learnt t x.reply step) next xs =
      λ next. elim next as
      (λ n. FreshNext (learnt t x.reply step) n → Leads (at_step u place n) xs
      → OpeningEnd u (learnt t x.reply step) n xs) [
        | None ↦ λ f e. done-none u u
            (learnt t x.reply step) xs (same-self u) e
        | Some n ↦ λ f e. later u (learnt t x.reply step) n
            (traced-count s place (learnt t x.reply step) within)
            (traced-there s place (learnt t x.reply step) within) f e
      ] in
      end-more s u t step x xs call granted same fresh
      (rest (step_after s.options x.reply step) (step-fresh s.options t x.reply step fresh) goes_on)

  answered : (s : TrussState) (t : Traced) (place : ℕ) (step : OpeningStep) (x : Exchange) (xs : List Exchange)
      → place < length s.traced → traced_at s place ≡ t → IsFresh t step
      → ((u : TrussState) (v : Traced) (next : OpeningStep) → place < length u.traced → traced_at u place ≡ v
      → IsFresh v next → Leads (with_stage u (Opening place next)) xs → OpeningEnd u v (Some next) xs)
      → (a : Answer) → answer_of x.reply ≡ a → IsAnswer x.reply a
      → Leads (with_step_answered (with_stage s (Opening place step)) place step x.reply a) xs
      → x.call ≡ opening_call s.options t step → OpeningEnd s t (Some step) (x ∷ xs)
  unfolding IsAnswer with_step_answered
  answered s t place step x xs within at fresh later Accepted by is ends call =
      accepted s t place step x xs within at fresh later ends call is
  answered s t place step x xs within at fresh later Interrupted by is ends call =
      left-here s t place step x xs call is ends
  answered s t place step x xs within at fresh later Gone by is ends call =
      failed-here s t place step x xs Noent call (gone-refuses x.reply by) within at ends
  answered s t place step x xs within at fresh later (Refused errno) by is ends call =
      failed-here s t place step x xs errno call (other-refuses x.reply errno by) within at ends

  pub opening-end : (xs : List Exchange) (s : TrussState) (t : Traced) (place : ℕ) (step : OpeningStep)
      → place < length s.traced → traced_at s place ≡ t → IsFresh t step → Leads (with_stage s (Opening place step)) xs
      → OpeningEnd s t (Some step) xs
  opening-end [] s t place step within at fresh ends = going (going-here s t place step at ends)
  opening-end (x ∷ xs) s t place step within at fresh ends =
      answered s t place step x xs within at fresh (λ u v next. opening-end xs u v place next) (answer_of x.reply) refl
      (answer-is x.reply) (step-answered s place step x xs ends)
      (subst (λ (u : Traced). x.call ≡ opening_call s.options u step) at (next-call s place step x xs ends))

  -- ---- closing

  -- What was opened of a process whose opening was refused is closed, and the next one comes then.
  pub record Closed (s : TrussState) (t : Traced) (xs : List Exchange) : Type 0 where
    pub closings : List Exchange
    pub later : List Exchange
    pub is : xs ≡ closings ++ later
    pub closes : calls_in closings ≡ map call.Close (handles_of t)
    pub state : TrussState
    pub same : SameBase s state
    pub ends : Leads (with_next_opening state) later

  -- Or it is still being closed.
  pub record Closes (s : TrussState) (t : Traced) (xs : List Exchange) : Type 0 where
    pub handle : ℕ
    pub due : next_call_of f ≡ Some (call.Close handle)
    pub closes : calls_in xs ++ call.Close handle ∷ [] ≡ take (length xs + 1) (map call.Close (handles_of t))
    pub reports : f.reports ≡ s.reports

  pub data ClosingEnd (s : TrussState) (t : Traced) (xs : List Exchange) : Type 0 where
    closed : Closed s t xs → ClosingEnd s t xs
    closing : Closes s t xs → ClosingEnd s t xs

  first-closes : (t : Traced) (left : Option Traced) → ClosesFirst t left
      → call.Close (last_handle t) ∷ [] ≡ take 1 (map call.Close (handles_of t))
  first-closes t None first = ap (λ hs. take 1 (map call.Close hs)) (sym first)
  first-closes t (Some u) first = ap (λ hs. take 1 (map call.Close hs)) (sym first)

  closes-here : (s : TrussState) (t : Traced) (place : ℕ) → traced_at s place ≡ t
      → Leads (with_stage s (Closing place OpenNext)) [] → Closes s t []
  unfolding next_call_of call_of
  closes-here s t place at ends = record {
    handle = last_handle t;
    due = ap next_call_of (sym ends.last) ∙ ap (λ (u : Traced). Some (call.Close (last_handle u))) at;
    closes = first-closes t (without_last t) (closes-first t);
    reports = ap (λ (u : TrussState). u.reports) (sym ends.last);
  }

  close-call : (s : TrussState) (place : ℕ) (x : Exchange) (xs : List Exchange)
      → Leads (with_stage s (Closing place OpenNext)) (x ∷ xs) → x.call ≡ call.Close (last_handle (traced_at s place))
  unfolding next_call_of call_of
  close-call s place x xs ends =
      same_Some x.call (call.Close (last_handle (traced_at s place))) (sym ends.makes.0)

  close-answered : (s : TrussState) (place : ℕ) (x : Exchange) (xs : List Exchange)
      → Leads (with_stage s (Closing place OpenNext)) (x ∷ xs)
      → Leads (closed_or_removed (with_stage s (Closing place OpenNext)) place OpenNext
      (without_last (traced_at s place))) xs
  unfolding fed with_reply with_closed
  close-answered s place x xs ends = leads-later (with_stage s (Closing place OpenNext)) x xs ends

  closed-more : (s u : TrussState) (t v : Traced) (x : Exchange) (xs : List Exchange)
      → x.call ≡ call.Close (last_handle t) → ClosesFirst t (Some v) → SameBase s u → ClosingEnd u v xs
      → ClosingEnd s t (x ∷ xs)
  closed-more s u t v x xs close first same (closed c) = closed (record {
    closings = x ∷ c.closings;
    later = c.later;
    is = ap (λ ys. x ∷ ys) c.is;
    closes = front close c.closes ∙ ap (map call.Close) (sym first);
    state = c.state;
    same = same-base s u c.state same c.same;
    ends = c.ends;
  })
  closed-more s u t v x xs close first same (closing c) =
      closing (record {
        handle = c.handle;
        due = c.due;
        closes =
            front close c.closes
            ∙ ap (λ n. take n (call.Close (last_handle t) ∷ map call.Close (handles_of v))) (shifted (length xs))
            ∙ ap (λ hs. take (length (x ∷ xs) + 1) (map call.Close hs)) (sym first);
        reports = c.reports ∙ same.reports;
      })
    where
      shifted : (n : ℕ) → suc (n + 1) ≡ suc n + 1
      shifted n = omega arith

  closed-last : (s u : TrussState) (t : Traced) (x : Exchange) (xs : List Exchange)
      → x.call ≡ call.Close (last_handle t) → ClosesFirst t None → SameBase s u
      → Leads (after_closing u OpenNext) xs → Closed s t (x ∷ xs)
  unfolding after_closing
  closed-last s u t x xs close first same ends = record {
    closings = x ∷ [];
    later = xs;
    is = refl;
    closes = front close refl ∙ ap (map call.Close) (sym first);
    state = u;
    same = same;
    ends = ends;
  }

  closed-answered : (s : TrussState) (t : Traced) (place : ℕ) (x : Exchange) (xs : List Exchange)
      → place < length s.traced → x.call ≡ call.Close (last_handle t)
      → ((u : TrussState) (v : Traced) → place < length u.traced → traced_at u place ≡ v → Leads
      (with_stage u (Closing place OpenNext)) xs → ClosingEnd u v xs)
      → (left : Option Traced) → ClosesFirst t left
      → Leads (closed_or_removed (with_stage s (Closing place OpenNext)) place OpenNext left) xs
      → ClosingEnd s t (x ∷ xs)
  closed-answered s t place x xs within close later None first ends =
      closed (closed-last s (without_traced (with_stage s (Closing place OpenNext)) place) t x xs close first
      (record { options = refl; begun = refl; reports = refl }) ends)
  closed-answered s t place x xs within close later (Some v) first ends =
      let u : TrussState = with_traced s place v in
      closed-more s u t v x xs close first (record { options = refl; begun = refl; reports = refl })
      (later u v (traced-count s place v within) (traced-there s place v within) ends)

  pub closing-end : (xs : List Exchange) (s : TrussState) (t : Traced) (place : ℕ) → place < length s.traced
      → traced_at s place ≡ t → Leads (with_stage s (Closing place OpenNext)) xs → ClosingEnd s t xs
  closing-end [] s t place within at ends = closing (closes-here s t place at ends)
  closing-end (x ∷ xs) s t place within at ends =
      closed-answered s t place x xs within
      (subst (λ (u : Traced). x.call ≡ call.Close (last_handle u)) at (close-call s place x xs ends))
      (λ u v. closing-end xs u v place) (without_last t) (closes-first t)
      (subst (λ (u : Traced). Leads
      (closed_or_removed (with_stage s (Closing place OpenNext)) place OpenNext (without_last u)) xs) at
      (close-answered s place x xs ends))
