use Rattle.std.proofs.Common.{◌≡◌, ◌≢◌, ◌<◌, ◌≤◌, ◌+◌, ℕ, zero, suc, true, false, None, Some, Option, List, [], ◌∷◌, ◌++◌, length, drop, map, take, refl, sym, subst, ap, ◌∙◌, arith, inl, inr, append_assoc}
use Rattle.std.proofs.lemmas.List.{append-nil, length-append}
use Rattle.std.proofs.lemmas.List.Elements.{All-nil, All-cons}
use Rattle.std.proofs.lemmas.Option.{same_Some, none-some}
use Rattle.std.specs.List.{cons_option, slice_get, slice_index_or}
use Rattle.pr_line.specs.declared.options.Options.{Options}
use Rattle.pr_model.specs.Replies.{handle_in}
use Rattle.pr_model.specs.declared.calls.Call.{Call}
use Rattle.pr_model.specs.declared.calls.Call.TheVariants as call
use Rattle.pr_model.specs.declared.calls.Reply.{Reply}
use Rattle.pr_model.specs.declared.calls.Reply.TheVariants as reply
use Rattle.pr_num.specs.declared.errnos.Errno.{Errno}
use Rattle.pr_num.specs.declared.errnos.Errno.TheVariants.{Intr, Noent}
use Rattle.pr_truss.specs.Closings.{with_going_on, with_interrupt, with_next_left, with_next_opening}
use Rattle.pr_truss.specs.Feeding.{fed, with_reply}
use Rattle.pr_truss.specs.NextCalls.{call_of, next_call_of, open_control}
use Rattle.pr_truss.specs.Openings.{pid_in, with_control, with_control_answered, with_refused_control, with_refused_start, with_start_answered}
use Rattle.pr_truss.specs.Processes.{newly_traced}
use Rattle.pr_truss.specs.Replies.{answer_of}
use Rattle.pr_truss.specs.Trusses.{TrussState, first_of_program, first_truss, idle, nobody, opening_or, traced_at, with_opened, with_report, with_stage}
use Rattle.pr_truss.specs.declared.processes.Traced.{Traced}
use Rattle.pr_truss.specs.declared.replies.Answer.{Answer}
use Rattle.pr_truss.specs.declared.replies.Answer.TheVariants.{Accepted, Interrupted, Gone, Refused}
use Rattle.pr_truss.specs.declared.reports.Report.{Report}
use Rattle.pr_truss.specs.declared.reports.Report.TheVariants.{CannotStart, CannotTrace}
use Rattle.pr_truss.specs.declared.stages.OpeningStep.TheVariants.{OpenStatus}
use Rattle.pr_truss.specs.declared.stages.Stage.TheVariants.{Spawning, OpeningControl, Finished}
use Rattle.pr_truss_laws.proofs.Replies.AnswerLemmas.{IsAnswer, Refuses, answer-is, gone-refuses, other-refuses}
use Rattle.pr_truss_laws.proofs.GivenProcesses.ChildrenLemmas.{going-alone, idle-alone, interrupted-alone}
use Rattle.pr_truss_laws.proofs.Files.ClosesLemmas.{after-grown}
use Rattle.pr_truss_laws.proofs.Files.HeldLemmas.{Grown, IsBare, empty-list}
use Rattle.pr_truss_laws.proofs.GivenProcesses.OpeningLemmas.{Broken, Done, Failed, Leads, OpeningEnd, SameBase, Stopped, closed, closing, closing-end, done, failed, going, leads-later, left, opening-end}
use Rattle.pr_truss_laws.proofs.GivenProcesses.SequenceLemmas.{Goes, begun-calls, next-calls, whole-calls}
use Rattle.pr_truss_laws.proofs.Replies.ReplySteps.{on-staged}
use Rattle.pr_truss_laws.proofs.Replies.FedSteps.{opens-next}
use Rattle.pr_truss_laws.specs.Business.{OpensChildrenAlone}
use Rattle.pr_truss_laws.specs.Exchanges.{Ends, Exchange, IsGranted, Makes, calls_in, errno_in, opened_by, truss_after, with_opened_by}
use Rattle.pr_truss_laws.specs.Given.{AreHandled, IsBegunOpening, IsHandled, IsHandledSoFar, IsRefusedOpening, IsStarting, IsWholeOpening, LeftAtStart, NotStarted, Started, closing_calls_of, opening_calls}
use Rattle.pr_truss_laws.specs.Handles.{handles_of}

-- What has become of each process that truss was given.

-- ---- what is left of a list from a place on

drop-none : (xs : List ℕ) (i : ℕ) → slice_get xs i ≡ None → drop i xs ≡ []
drop-none [] zero e = refl
drop-none [] (suc i) e = refl
drop-none (x ∷ xs) zero e = cc
drop-none (x ∷ xs) (suc i) e = drop-none xs i e

drop-some : (xs : List ℕ) (i x : ℕ) → slice_get xs i ≡ Some x → drop i xs ≡ x ∷ drop (i + 1) xs
drop-some [] i x e = cc
drop-some (y ∷ xs) zero x e = ap (λ z. z ∷ xs) (same_Some y x e)
drop-some (y ∷ xs) (suc i) x e =
    let later = drop-some xs i x e in
    let next : suc i + 1 ≡ suc (i + 1) = omega arith in
    later ∙ ap (λ k. x ∷ drop k (y ∷ xs)) (sym next)

-- ---- on the way to this state

abbrev closes_of : List ℕ → List Call
closes_of handles = map call.Close handles

module _ (f : TrussState) where
  -- the call that is due
  abbrev pub due : Option Call
  due = next_call_of f

  -- what is still to be said of these processes, where so much was reported before
  pub record Told (base : List Report) (o : Options) (pids : List ℕ) (xs : List Exchange) : Type 0 where
    pub more : List Report
    pub is : f.reports ≡ base ++ more
    pub handled : AreHandled o due pids more xs

  -- no process is left
  told-none : (base : List Report) (o : Options) (xs : List Exchange) → Grown base f.reports → OpensChildrenAlone o xs
      → Told base o [] xs
  told-none base o xs g alone = record { more = g.more; is = g.is; handled = alone }

  -- what is said of the processes after one whose opening was done
  told-attached : (base : List Report) (o : Options) (pid : ℕ) (pids : List ℕ) (opening later : List Exchange)
      → IsWholeOpening o pid opening → Told base o pids later → Told base o (pid ∷ pids) (opening ++ later)
  told-attached base o pid pids opening later whole t = record {
    more = t.more;
    is = t.is;
    handled = inl (record { opening = opening; later = later; is = refl; whole = whole; next = t.handled });
  }

  -- and after one that was refused
  told-refused : (base : List Report) (o : Options) (pid : ℕ) (pids : List ℕ) (errno : Errno)
      (opening closings later : List Exchange) → (refused : IsRefusedOpening o pid errno opening) → errno ≢ Intr
      → calls_in closings ≡ closing_calls_of refused.before → Told (base ++ CannotTrace pid errno ∷ []) o pids later
      → Told base o (pid ∷ pids) (opening ++ (closings ++ later))
  told-refused base o pid pids errno opening closings later refused other closes t = record {
    more = CannotTrace pid errno ∷ t.more;
    is = t.is ∙ append_assoc base (CannotTrace pid errno ∷ []) t.more;
    handled =
        inr (inl (record {
          errno = errno;
          opening = opening;
          closings = closings;
          later = later;
          more = t.more;
          is = refl;
          refused = refused;
          not_interrupted = other;
          closes = closes;
          reported = refl;
          next = t.handled;
        }));
  }

  told-left : (base : List Report) (o : Options) (pid : ℕ) (pids : List ℕ) (opening later : List Exchange)
      → IsRefusedOpening o pid Intr opening → OpensChildrenAlone o later → Grown base f.reports
      → Told base o (pid ∷ pids) (opening ++ later)
  told-left base o pid pids opening later stopped alone g = record {
    more = g.more;
    is = g.is;
    handled = inr (inr (inl (record {
      opening = opening;
      later = later;
      is = refl;
      interrupted = stopped;
      alone = alone;
    })));
  }

  -- and of one on which truss is at work
  told-begun : (base : List Report) (o : Options) (pid : ℕ) (pids : List ℕ) (xs : List Exchange) (next : Call)
      → due ≡ Some next → IsBegunOpening o pid next xs → f.reports ≡ base → Told base o (pid ∷ pids) xs
  told-begun base o pid pids xs next is begun none = record {
    more = [];
    is = none ∙ sym (append-nil base);
    handled = inr (inr (inr (inl (record { next = next; is = is; begun = begun; nothing = refl }))));
  }

  told-broken : (base : List Report) (o : Options) (pid : ℕ) (pids : List ℕ) (errno : Errno)
      (opening closings : List Exchange) (handle : ℕ) → due ≡ Some (call.Close handle)
      → (refused : IsRefusedOpening o pid errno opening) → errno ≢ Intr
      → calls_in closings ++ call.Close handle ∷ [] ≡ take (length closings + 1) (closing_calls_of refused.before)
      → f.reports ≡ base ++ CannotTrace pid errno ∷ [] → Told base o (pid ∷ pids) (opening ++ closings)
  told-broken base o pid pids errno opening closings handle next refused other closes reported = record {
    more = CannotTrace pid errno ∷ [];
    is = reported;
    handled =
        inr (inr (inr (inr (record {
          errno = errno;
          opening = opening;
          closings = closings;
          handle = handle;
          next = next;
          is = refl;
          refused = refused;
          not_interrupted = other;
          closes = closes;
          reported = refl;
        }))));
  }

  abbrev pub pids_left : TrussState → List ℕ
  pids_left s = drop s.begun s.options.pids

  -- the same of a state that differs in neither
  told-same : (s u : TrussState) (xs : List Exchange) → SameBase s u → Told u.reports u.options (pids_left u) xs
      → Told s.reports s.options (pids_left s) xs
  told-same s u xs same t =
      subst (λ base. Told base s.options (pids_left s) xs) same.reports
      (subst (λ b. Told u.reports s.options (drop b s.options.pids) xs) same.begun
      (subst (λ (o : Options). Told u.reports o (drop u.begun o.pids) xs) same.options t))

  -- ---- the opening of one process

  module _ (s : TrussState) (pid : ℕ) where
    abbrev pub at_control : TrussState
    at_control = with_stage s (OpeningControl pid)

    grown-at : (xs : List Exchange) → Leads f at_control xs → Grown s.reports f.reports
    grown-at xs l = subst (λ (u : TrussState). Grown s.reports u.reports) l.last (after-grown xs at_control)

    -- no call of it was made
    control-due : Leads f at_control [] → Told s.reports s.options (pid ∷ pids_left s) []
    unfolding next_call_of call_of opening_calls
    control-due l =
        told-begun s.reports s.options pid (pids_left s) [] (open_control pid) (ap next_call_of (sym l.last))
        (record { calls = refl; granted = All-nil IsGranted }) (ap (λ (u : TrussState). u.reports) (sym l.last))

    control-call : (x : Exchange) (xs : List Exchange) → Leads f at_control (x ∷ xs) → x.call ≡ open_control pid
    unfolding next_call_of call_of
    control-call x xs l = same_Some x.call (open_control pid) (sym l.makes.0)

    control-answered : (x : Exchange) (xs : List Exchange) → Leads f at_control (x ∷ xs)
        → Leads f (with_control_answered at_control pid x.reply (answer_of x.reply)) xs
    unfolding fed with_reply
    control-answered x xs l = leads-later f at_control x xs l

    -- an opening whose first call was refused
    refused-first : (x : Exchange) (errno : Errno) → x.call ≡ open_control pid → x.reply ≡ reply.Fail errno
        → IsRefusedOpening s.options pid errno (x ∷ [])
    refused-first x errno call is = record {
      before = [];
      call = x.call;
      last = ap (λ r. record { call = x.call; reply = r } ∷ []) is;
      calls = begun-calls s.options pid x [] call tt;
      granted = All-nil IsGranted;
    }

    -- one that was refused later
    refused-later : (x : Exchange) (xs : List Exchange) (errno : Errno) (u : TrussState) → u.options ≡ s.options
        → x.call ≡ open_control pid → errno_in x.reply ≡ None
        → (d : Stopped f u (newly_traced pid (handle_in x.reply)) (Some OpenStatus) errno xs)
        → IsRefusedOpening s.options pid errno (x ∷ d.opening)
    refused-later x xs errno u same call granted d = record {
      before = x ∷ d.before;
      call = d.call;
      last = ap (λ ys. x ∷ ys) d.last;
      calls =
          begun-calls s.options pid x d.opening call
          (subst (λ o. Goes o (newly_traced pid (handle_in x.reply)) (Some OpenStatus) d.opening) same d.goes);
      granted = All-cons IsGranted x d.before (record { not_refused = granted }) d.granted;
    }

    abbrev pub Goal : List Exchange → Type 0
    Goal xs = Told s.reports s.options (pid ∷ pids_left s) xs

    -- what comes after each shorter list
    abbrev pub Shorter : List Exchange → Type 0
    Shorter xs =
        (ys : List Exchange) (u : TrussState) → length ys ≤ length xs → Leads f (with_next_opening u) ys
        → Told u.reports u.options (pids_left u) ys

    refused-told : (x : Exchange) (xs : List Exchange) (errno : Errno) → Shorter xs → x.call ≡ open_control pid
        → Refuses x.reply errno → Leads f (with_refused_control at_control pid errno) xs → Goal (x ∷ xs)
    unfolding with_refused_control refused-first
    refused-told x xs errno later call refuses l =
        told-refused s.reports s.options pid (pids_left s) errno (x ∷ []) [] xs (refused-first x errno call refuses.is)
        refuses.not_interrupted refl (later xs (with_report at_control (CannotTrace pid errno)) (omega arith) l)

    left-told : (x : Exchange) (xs : List Exchange) → x.call ≡ open_control pid → x.reply ≡ reply.Fail Intr
        → Grown s.reports f.reports → Leads f (with_interrupt at_control) xs → Goal (x ∷ xs)
    left-told x xs call is g l =
        told-left s.reports s.options pid (pids_left s) (x ∷ []) xs (refused-first x Intr call is)
        (interrupted-alone at_control xs l.makes) g

    shorter-part : (a b xs : List Exchange) → xs ≡ a ++ b → length b ≤ length xs
    shorter-part a b xs is = omega (arith, ap length is, length-append a b)

    module _ (x : Exchange) (xs : List Exchange) (later : Shorter xs) (call : x.call ≡ open_control pid)
        (granted : errno_in x.reply ≡ None) (g : Grown s.reports f.reports) where
      abbrev pub opened : Traced
      opened = newly_traced pid (handle_in x.reply)

      abbrev pub with_one : TrussState
      with_one = with_opened at_control opened

      done-told : Done f with_one opened (Some OpenStatus) xs → Goal (x ∷ xs)
      done-told d =
          let whole : IsWholeOpening s.options pid (x ∷ d.opening) = record {
            calls = whole-calls s.options pid x d.opening call d.goes;
            granted = All-cons IsGranted x d.opening (record { not_refused = granted }) d.granted;
          } in
          let rest =
          told-same s d.state d.later
          (record { options = d.same.options; begun = d.same.begun; reports = d.same.reports })
          (later d.later d.state (shorter-part d.opening d.later xs d.is) d.ends) in
          subst Goal (ap (λ ys. x ∷ ys) (sym d.is))
          (told-attached s.reports s.options pid (pids_left s) (x ∷ d.opening) d.later whole rest)

      failed-told : Failed f with_one opened (Some OpenStatus) xs → Goal (x ∷ xs)
      unfolding newly_traced refused-later
      failed-told d =
          let st = d.stopped in
          let files : handles_of (traced_at d.state d.place) ≡ with_opened_by [] (x ∷ st.before) =
          d.handles
          ∙ ap (λ c. with_opened_by (cons_option (opened_by c x.reply) []) st.before) (sym call) in
          let reported : TrussState = with_report d.state (CannotTrace pid d.errno) in
          let refused = refused-later x xs d.errno with_one refl call granted st in
          let is : x ∷ xs ≡ (x ∷ st.opening) ++ st.later = ap (λ ys. x ∷ ys) st.is in
          let reports : reported.reports ≡ s.reports ++ CannotTrace pid d.errno ∷ [] =
          ap (λ rs. rs ++ CannotTrace pid d.errno ∷ []) d.same.reports in
          subst Goal (sym is) (elim (closing-end f st.later reported
          (traced_at d.state d.place) d.place d.within refl d.ends) [
            | closed c ↦
                let base : SameBase (with_report s (CannotTrace pid d.errno)) c.state = record {
                  options = c.same.options ∙ d.same.options;
                  begun = c.same.begun ∙ d.same.begun;
                  reports = c.same.reports ∙ reports;
                } in
                let short : length c.later ≤ length xs =
                omega (
                  arith,
                  shorter-part c.closings c.later st.later c.is,
                  shorter-part st.opening st.later xs
                      st.is,
                ) in
                let rest =
                told-same (with_report s (CannotTrace pid d.errno)) c.state c.later base
                (later c.later c.state short c.ends) in
                subst Goal (ap (λ ys. (x ∷ st.opening) ++ ys) (sym c.is))
                (told-refused s.reports s.options pid (pids_left s) d.errno
                (x ∷ st.opening) c.closings c.later refused d.not_interrupted (c.closes
                ∙ ap closes_of files) rest)
            | closing c ↦
                told-broken s.reports s.options pid (pids_left s) d.errno
                (x ∷ st.opening) st.later c.handle c.due refused d.not_interrupted (c.closes
                ∙ ap (λ hs. take (length st.later + 1) (closes_of hs)) files) (c.reports ∙ reports)
          ])

      stopped-told : Broken f with_one opened (Some OpenStatus) xs → Goal (x ∷ xs)
      stopped-told b =
          let d = b.stopped in
          subst Goal (ap (λ ys. x ∷ ys) (sym d.is))
          (told-left s.reports s.options pid (pids_left s) (x ∷ d.opening) d.later
          (refused-later x xs Intr with_one refl call granted d) b.alone g)

      end-told : OpeningEnd f with_one opened (Some OpenStatus) xs → Goal (x ∷ xs)
      end-told (done d) = done-told d
      end-told (failed d) = failed-told d
      end-told (left d) = stopped-told d
      end-told (going d) =
          told-begun s.reports s.options pid (pids_left s) (x ∷ xs) d.next d.due
          (record {
            calls = next-calls s.options pid x xs d.next call d.goes;
            granted = All-cons IsGranted x xs
                (record { not_refused = granted }) d.granted;
          }) d.reports

      opened-at : (ts : List Traced) (t : Traced) → slice_index_or (ts ++ t ∷ []) (length ts) nobody ≡ t
      opened-at [] t = refl
      opened-at (u ∷ ts) t = opened-at ts t

      bare : IsBare opened
      unfolding newly_traced
      bare = record { status = refl; lstatus = refl; memory = refl }

      accepted-told : Leads f (with_control at_control pid (handle_in x.reply)) xs → Goal (x ∷ xs)
      unfolding with_control
      accepted-told l =
          end-told
          (opening-end f xs with_one opened (length s.traced) OpenStatus
          (omega (arith, length-append s.traced (opened ∷ []))) (opened-at s.traced opened) bare l)

    answered-told : (x : Exchange) (xs : List Exchange) → Shorter xs → x.call ≡ open_control pid
        → Grown s.reports f.reports → (a : Answer) → answer_of x.reply ≡ a → IsAnswer x.reply a
        → Leads f (with_control_answered at_control pid x.reply a) xs → Goal (x ∷ xs)
    unfolding IsAnswer with_control_answered
    answered-told x xs later call g Accepted by is l = accepted-told x xs later call is g l
    answered-told x xs later call g Interrupted by is l = left-told x xs call is g l
    answered-told x xs later call g Gone by is l = refused-told x xs Noent later call (gone-refuses x.reply by) l
    answered-told x xs later call g (Refused errno) by is l =
        refused-told x xs errno later call (other-refuses x.reply errno by) l

    control-told : (xs : List Exchange)
        → ((ys : List Exchange) (u : TrussState) → length ys < length xs → Leads f
        (with_next_opening u) ys → Told u.reports u.options (pids_left u) ys) → Leads f at_control xs → Goal xs
    control-told [] later l = control-due l
    control-told (x ∷ xs) later l =
        answered-told x xs (λ ys u short. later ys u (omega arith)) (control-call x xs l) (grown-at (x ∷ xs) l)
        (answer_of x.reply) refl (answer-is x.reply) (control-answered x xs l)

  -- ---- the next process

  next-grown : (xs : List Exchange) (s : TrussState) → Leads f (with_next_opening s) xs → Grown s.reports f.reports
  next-grown xs s l =
      let same = on-staged (opens-next s) in
      subst (λ (u : TrussState). Grown s.reports u.reports) l.last
      (subst (λ base. Grown base (truss_after (with_next_opening s) xs).reports) same.reports
      (after-grown xs (with_next_opening s)))

  opened-or : (xs : List Exchange) (s : TrussState) → Leads f (with_next_opening s) xs
      → Leads f (opening_or s (with_going_on s) (slice_get s.options.pids s.begun)) xs
  unfolding with_next_opening
  opened-or xs s l = l

  told-next : (n : ℕ) (xs : List Exchange) (s : TrussState) → length xs < n → Leads f (with_next_opening s) xs
      → Told s.reports s.options (pids_left s) xs
  told-next zero xs s lt l = absurd (omega arith)
  told-next (suc n) xs s lt l =
      by (slice_get s.options.pids s.begun) refl (λ ys u short. told-next n ys u (omega arith)) (next-grown xs s l)
      (opened-or xs s l)
    where
      by : (p : Option ℕ) → slice_get s.options.pids s.begun ≡ p
          → ((ys : List Exchange) (u : TrussState) → length ys < length xs → Leads f
          (with_next_opening u) ys
          → Told u.reports u.options (pids_left u) ys) → Grown s.reports f.reports → Leads f
          (opening_or s (with_going_on s) p) xs → Told s.reports s.options (pids_left s) xs
      by None is later g k =
          subst (λ pids. Told s.reports s.options pids xs) (sym (drop-none s.options.pids s.begun is))
          (told-none s.reports s.options xs g (going-alone s xs k.makes))
      by (Some pid) is later g k =
          subst (λ pids. Told s.reports s.options pids xs) (sym (drop-some s.options.pids s.begun pid is))
          (control-told (record s { begun = s.begun + 1 }) pid xs later k)

  -- the first process of all, and each that follows it
  pub told-first : (s : TrussState) (pid : ℕ) (xs : List Exchange) → Leads f (with_stage s (OpeningControl pid)) xs
      → Told s.reports s.options (pid ∷ pids_left s) xs
  told-first s pid xs l = control-told s pid xs (λ ys u short. told-next (length xs) ys u short) l

-- ---- what the options name

led : (s : TrussState) (xs : List Exchange) → Makes s xs → Leads (truss_after s xs) s xs
led s xs makes = record { makes = makes; last = refl }

-- the call that is due after these exchanges
abbrev pub due_after : TrussState → List Exchange → Option Call
due_after s xs = next_call_of (truss_after s xs)

pids-handled : (o : Options) (p : Option ℕ) → slice_get o.pids 0 ≡ p → (xs : List Exchange)
    → Makes (opening_or (idle o) (idle o) p) xs
    → AreHandled o (due_after (opening_or (idle o) (idle o) p) xs) o.pids
    (truss_after (opening_or (idle o) (idle o) p) xs).reports xs
pids-handled o None is xs makes =
    subst (λ pids. AreHandled o (due_after (idle o) xs) pids (truss_after (idle o) xs).reports xs)
    (sym (empty-list o.pids is)) (idle-alone o xs makes)
pids-handled o (Some pid) is xs makes =
    let s : TrussState = record (idle o) { begun = 1 } in
    let u : TrussState = with_stage s (OpeningControl pid) in
    let t = told-first (truss_after u xs) s pid xs (led u xs makes) in
    subst (λ reports. AreHandled o (due_after u xs) o.pids reports xs) (sym t.is)
    (subst (λ pids. AreHandled o (due_after u xs) pids t.more xs) (sym (drop-some o.pids 0 pid is)) t.handled)

module _ (o : Options) (program : List ℕ) where
  abbrev pub spawning : TrussState
  spawning = with_stage (idle o) (Spawning program)

  -- no call was made
  starting : IsStarting program (due_after spawning []) (truss_after spawning []).reports []
  unfolding next_call_of call_of
  starting = record { next = refl; is = refl; nothing = refl }

  spawn-call : (x : Exchange) (xs : List Exchange) → Makes spawning (x ∷ xs) → x.call ≡ call.Spawn program true
  unfolding next_call_of call_of
  spawn-call x xs makes = same_Some x.call (call.Spawn program true) (sym makes.0)

  -- nothing comes after the end
  no-more : (s : TrussState) (xs : List Exchange) → next_call_of s ≡ None → Makes s xs → xs ≡ []
  no-more s [] none makes = refl
  no-more s (x ∷ xs) none makes = absurd (none-some x.call (sym none ∙ makes.0))

  -- a truss that traces nothing has finished when it goes on
  idle-on : (s : TrussState) → s.traced ≡ [] → s.leaving ≡ false → with_going_on s ≡ with_stage s Finished
  unfolding with_going_on
  idle-on s none stays = rw (stays, none) refl

  idle-left : (s : TrussState) → s.traced ≡ [] → with_interrupt s ≡ with_stage (record s { leaving = true }) Finished
  unfolding with_interrupt with_next_left
  idle-left s none = rw none refl

  finished-none : (s : TrussState) → next_call_of (with_stage s Finished) ≡ None
  unfolding next_call_of call_of
  finished-none s = refl

  spawn-is : (x : Exchange) (xs : List Exchange) (r : Reply) → x.call ≡ call.Spawn program true → x.reply ≡ r → xs ≡ []
      → x ∷ xs ≡ record { call = call.Spawn program true; reply = r } ∷ []
  spawn-is x xs r is answer none =
      ap (λ ys. x ∷ ys) none ∙ ap (λ c. record { call = c; reply = x.reply } ∷ []) is
      ∙ ap (λ a. record { call = call.Spawn program true; reply = a } ∷ []) answer

  start-refused : (x : Exchange) (xs : List Exchange) (errno : Errno) → x.call ≡ call.Spawn program true
      → x.reply ≡ reply.Fail errno → Makes (with_refused_start spawning program errno) xs
      → NotStarted program (truss_after (with_refused_start spawning program errno) xs).reports (x ∷ xs)
  unfolding with_refused_start
  start-refused x xs errno made is makes =
      let u : TrussState = with_report spawning (CannotStart program errno) in
      let over = idle-on u refl refl in
      let none : xs ≡ [] = no-more (with_going_on u) xs (ap next_call_of over ∙ finished-none u) makes in
      record {
        errno = errno;
        is = spawn-is x xs (reply.Fail errno) made is none;
        reported = ap (λ ys. (truss_after (with_going_on u) ys).reports) none ∙ ap (λ (v : TrussState). v.reports) over;
      }

  start-left : (x : Exchange) (xs : List Exchange) → x.call ≡ call.Spawn program true → x.reply ≡ reply.Fail Intr
      → Makes (with_interrupt spawning) xs
      → LeftAtStart program (truss_after (with_interrupt spawning) xs).reports (x ∷ xs)
  start-left x xs made is makes =
      let over = idle-left spawning refl in
      let none : xs ≡ [] =
      no-more (with_interrupt spawning) xs (ap next_call_of over
      ∙ finished-none (record spawning { leaving = true })) makes in
      record {
        is = spawn-is x xs (reply.Fail Intr) made is none;
        nothing =
            ap (λ ys. (truss_after (with_interrupt spawning) ys).reports) none
            ∙ ap (λ (v : TrussState). v.reports) over;
      }

  started : (x : Exchange) (xs : List Exchange) → x.call ≡ call.Spawn program true → errno_in x.reply ≡ None
      → Makes (with_stage (idle o) (OpeningControl (pid_in x.reply))) xs
      → Started o program (due_after (with_stage (idle o) (OpeningControl (pid_in x.reply))) xs)
      (truss_after (with_stage (idle o) (OpeningControl (pid_in x.reply))) xs).reports (x ∷ xs)
  started x xs made granted makes =
      let s : TrussState = with_stage (idle o) (OpeningControl (pid_in x.reply)) in
      let t = told-first (truss_after s xs) (idle o) (pid_in x.reply) xs (led s xs makes) in
      record {
        reply = x.reply;
        later = xs;
        is = ap (λ c. record { call = c; reply = x.reply } ∷ xs) made;
        granted = granted;
        handled =
            subst (λ reports. AreHandled o (due_after s xs) (pid_in x.reply ∷ o.pids) reports xs) (sym t.is) t.handled;
      }

  -- what is said of the program where truss came from this state by these exchanges
  abbrev pub HandledFrom : TrussState → List Exchange → List Exchange → Type 0
  HandledFrom u xs all = IsHandledSoFar o (due_after u xs) (Some program) (truss_after u xs).reports all

  start-answered : (x : Exchange) (xs : List Exchange) → x.call ≡ call.Spawn program true → (a : Answer)
      → IsAnswer x.reply a → Makes (with_start_answered spawning program x.reply a) xs
      → HandledFrom (with_start_answered spawning program x.reply a) xs (x ∷ xs)
  unfolding IsAnswer with_start_answered
  start-answered x xs made Accepted is makes = inl (started x xs made is makes)
  start-answered x xs made Interrupted is makes = inr (inr (inl (start-left x xs made is makes)))
  start-answered x xs made Gone is makes = inr (inl (start-refused x xs Noent made is makes))
  start-answered x xs made (Refused errno) is makes = inr (inl (start-refused x xs errno made is makes))

  answered-is : (x : Exchange) → fed spawning x.reply ≡ with_start_answered spawning program x.reply (answer_of x.reply)
  unfolding fed with_reply
  answered-is x = refl

  program-handled : (xs : List Exchange) → Makes spawning xs → HandledFrom spawning xs xs
  program-handled [] makes = inr (inr (inr starting))
  program-handled (x ∷ xs) makes =
      let rest = subst (λ (u : TrussState). Makes u xs) (answered-is x) makes.1 in
      subst (λ (u : TrussState). HandledFrom u xs (x ∷ xs)) (sym (answered-is x))
      (start-answered x xs (spawn-call x xs makes) (answer_of x.reply) (answer-is x.reply) rest)

first-handled : (o : Options) (p : Option (List ℕ)) (xs : List Exchange) → Makes (first_of_program o p) xs
    → IsHandledSoFar o (due_after (first_of_program o p) xs) p (truss_after (first_of_program o p) xs).reports xs
first-handled o None xs makes = pids-handled o (slice_get o.pids 0) refl xs makes
first-handled o (Some program) xs makes = program-handled o program xs makes

pub handled-so-far : (o : Options) (xs : List Exchange) → Makes (first_truss o) xs
    → IsHandledSoFar o (next_call_of (truss_after (first_truss o) xs)) o.program
    (truss_after (first_truss o) xs).reports xs
unfolding first_truss
handled-so-far o xs makes = first-handled o o.program xs makes

-- Where truss has finished, no call is due.
pub given-handled : (o : Options) (xs : List Exchange) → Ends (first_truss o) xs
    → IsHandled o o.program (truss_after (first_truss o) xs).reports xs
given-handled o xs e =
    subst (λ next. IsHandledSoFar o next o.program (truss_after (first_truss o) xs).reports xs) e.finished
    (handled-so-far o xs e.makes)

pub ruleset given = (handled-so-far, given-handled)
