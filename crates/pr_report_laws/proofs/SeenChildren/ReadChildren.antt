use Rattle.std.proofs.Common.{◌≡◌, ◌<◌, ◌++◌, ℕ, zero, suc, true, None, List, [], ◌∷◌, length, slice_get, refl, sym, subst, ◌∙◌, append_assoc, arith}
use Rattle.std.proofs.lemmas.Option.{none-some}
use Rattle.pr_line.specs.declared.options.Options.{Options}
use Rattle.pr_model.specs.Legal.{IsLegal}
use Rattle.pr_model.specs.Replies.{handle_in}
use Rattle.pr_model.specs.State.{TracedState}
use Rattle.pr_model.specs.declared.events.Entry.{Entry}
use Rattle.pr_num.specs.declared.errnos.Errno.{Errno}
use Rattle.pr_truss.specs.Feeding.{fed}
use Rattle.pr_truss.specs.NextCalls.{next_call_of, open_control}
use Rattle.pr_truss.specs.Trusses.{first_truss, traced_at}
use Rattle.pr_truss.specs.declared.reports.Report.{Report}
use Rattle.pr_truss.specs.declared.reports.Report.TheVariants.{CannotTrace}
use Rattle.pr_truss_laws.specs.Exchanges.{Exchange, Makes, errno_in, exchanges, truss_after}
use Rattle.pr_truss_laws.specs.Given.{reply_at}
use Rattle.pr_truss_laws.specs.Handles.{handles_of}
use Rattle.pr_report_laws.proofs.FollowedChildren.FollowCalm.{never-kept, never-left}
use Rattle.pr_report_laws.proofs.FollowedChildren.FollowLaws.{read-followed}
use Rattle.pr_report_laws.proofs.FollowedChildren.FreedLaws.{read-freed}
use Rattle.pr_report_laws.proofs.SeenChildren.ReadForks.{ReadsIt, at_last, at_stop}
use Rattle.pr_report_laws.specs.Attachments.{child_calls}
use Rattle.pr_report_laws.specs.Follows.{ComeNext, IsHandledNext, attached, begun, following_calls, left}
use Rattle.pr_report_laws.specs.Follows as follows
use Rattle.pr_report_laws.specs.Freed.{IsSetFree, closing_calls, freeing_calls, interrupted}
use Rattle.pr_report_laws.specs.Freed as frees
use Rattle.pr_report_laws.specs.SeenTo.{WasOpened, WasSetFree}

-- What has become of the child of a fork that truss has read, once truss has finished.

-- The child was opened or set free in these exchanges, or its refusal is a report after those of the base.
pub data IsDone (child : ℕ) (base reports : List Report) (xs : List Exchange) : Type 0 where
  opened : WasOpened child xs → IsDone child base reports xs
  freed : WasSetFree child xs → IsDone child base reports xs
  told : (errno : Errno) (more : List Report) → reports ≡ base ++ CannotTrace child errno ∷ more
      → IsDone child base reports xs

-- ---- a child that is followed

-- where no call is due its opening is done
none-short : (child control n : ℕ) → n < 6 → None ≡ slice_get (child_calls child control) n → ⊥
none-short child control zero less is = none-some _ is
none-short child control (suc zero) less is = none-some _ is
none-short child control (suc (suc zero)) less is = none-some _ is
none-short child control (suc (suc (suc zero))) less is = none-some _ is
none-short child control (suc (suc (suc (suc zero)))) less is = none-some _ is
none-short child control (suc (suc (suc (suc (suc zero))))) less is = none-some _ is
none-short child control (suc (suc (suc (suc (suc (suc n)))))) less is = omega (arith, less)

module _ (n k : ℕ) (s : TracedState) (h : List Entry) (legal : IsLegal n s h) (past xs : List Exchange)
    (split : exchanges k h ≡ past ++ xs) (child : ℕ) (base reports : List Report) where
  followed-done : (control : ℕ) → IsHandledNext child control base reports None xs → IsDone child base reports xs
  followed-done control (attached d) = opened (record {
    before = [];
    opening = d.opening;
    last = d.last;
    after = d.later;
    is = d.is;
    calls = d.calls;
    granted = d.granted;
  })
  followed-done control (follows.refused d) = told d.errno d.more d.reported
  followed-done control (left d) = absurd (never-left n k child s h past xs legal split d)
  followed-done control (begun d) =
      absurd (none-short child (handle_in (reply_at xs 0)) (length xs) d.not_done d.goes_on)

  -- ---- a child that is set free

  freed-calls : (handles : List ℕ) (ys : List Exchange) → xs ≡ ys → errno_in (reply_at ys 0) ≡ None
      → ComeNext None (freeing_calls child (handle_in (reply_at ys 0)) handles) ys → WasSetFree child xs
  freed-calls handles [] is granted calls = absurd (none-some (open_control child) calls)
  freed-calls handles (a ∷ []) is granted calls = absurd (none-some _ calls.1)
  freed-calls handles (a ∷ b ∷ []) is granted calls = absurd (none-some _ calls.1.1)
  freed-calls handles (a ∷ b ∷ c ∷ ys) is granted calls = record {
    before = [];
    opening = a;
    setting = b;
    closing = c;
    after = ys;
    is = is;
    opens = calls.0;
    granted = granted;
    sets = calls.1.0;
    closes = calls.1.1.0;
  }

  freed-done : (handles : List ℕ) → IsSetFree child handles base reports None xs → IsDone child base reports xs
  freed-done handles (frees.freed d) = freed (freed-calls handles xs refl d.granted d.calls)
  freed-done handles (frees.refused d) = told d.errno d.more d.reported
  freed-done handles (interrupted d) =
      absurd (never-kept n k child s h past xs handles base reports None legal split d)

-- ---- the read

pub read-done : (n k : ℕ) (o : Options) (s : TracedState) (h : List Entry) (past xs : List Exchange) (x : Exchange)
    (child : ℕ) → o.follow ≡ true → IsLegal n s h → Makes (first_truss o) (exchanges k h)
    → exchanges k h ≡ past ++ x ∷ xs → next_call_of (truss_after (first_truss o) (exchanges k h)) ≡ None
    → ReadsIt (truss_after (first_truss o) past) x.reply child
    → IsDone child (fed (truss_after (first_truss o) past) x.reply).reports
    (truss_after (first_truss o) (exchanges k h)).reports xs
read-done n k o s h past xs x child follow legal makes split finished reads = by reads
  where
    later : exchanges k h ≡ (past ++ x ∷ []) ++ xs
    later = split ∙ sym (append_assoc past (x ∷ []) xs)

    by : ReadsIt (truss_after (first_truss o) past) x.reply child
        → IsDone child (fed (truss_after (first_truss o) past) x.reply).reports
        (truss_after (first_truss o) (exchanges k h)).reports xs
    by (at_stop place w) =
        let control : ℕ = (traced_at (truss_after (first_truss o) past) place).control in
        let base : List Report = (fed (truss_after (first_truss o) past) x.reply).reports in
        let reports : List Report = (truss_after (first_truss o) (exchanges k h)).reports in
        followed-done n k s h legal (past ++ x ∷ []) xs later child base reports control
        (subst (λ due. IsHandledNext child control base reports due xs) finished
        (read-followed o (exchanges k h) past xs x place child follow makes split w))
    by (at_last w) =
        let handles : List ℕ = handles_of (traced_at (truss_after (first_truss o) past) 0) in
        let base : List Report = (fed (truss_after (first_truss o) past) x.reply).reports in
        let reports : List Report = (truss_after (first_truss o) (exchanges k h)).reports in
        freed-done n k s h legal (past ++ x ∷ []) xs later child base reports handles
        (subst (λ due. IsSetFree child handles base reports due xs) finished
        (read-freed o (exchanges k h) past xs x child follow makes split w))
