use Rattle.std.proofs.Common.{◌≡◌, ◌≢◌, ◌<◌, ◌++◌, ℕ, true, false, Some, List, [], ◌∷◌, length, refl, sym, subst, ap, ◌∙◌}
use Rattle.std.proofs.lemmas.Bool.{false≢true}
use Rattle.std.proofs.lemmas.Option.{none-some, same_Some}
use Rattle.pr_line.specs.declared.options.Options.{Options}
use Rattle.pr_model.specs.Handles.{handle_of}
use Rattle.pr_model.specs.Legal.{state_after}
use Rattle.pr_model.specs.State.{TracedState}
use Rattle.pr_model.specs.declared.calls.Call.{Call}
use Rattle.pr_model.specs.declared.calls.Call.TheVariants as call
use Rattle.pr_model.specs.declared.calls.File.TheVariants as file
use Rattle.pr_model.specs.declared.calls.Mode.TheVariants.{Read, WriteExcl}
use Rattle.pr_model.specs.declared.calls.Reply.{Reply}
use Rattle.pr_model.specs.declared.calls.Reply.TheVariants as reply
use Rattle.pr_model.specs.declared.events.Entry.{Entry}
use Rattle.pr_model.specs.declared.handles.Held.{Held}
use Rattle.pr_num.specs.Control.{fork_mode, rlc_mode}
use Rattle.pr_num.specs.Limits.{read_limit}
use Rattle.pr_num.specs.Messages.{message_code}
use Rattle.pr_num.specs.declared.errnos.Errno.TheVariants.{Noent}
use Rattle.pr_num.specs.declared.messages.Message.TheVariants as message
use Rattle.pr_truss.specs.Feeding.{fed, with_reply}
use Rattle.pr_truss.specs.Messages.{message_call}
use Rattle.pr_truss.specs.NextCalls.{call_of, freeing_call, next_call_of, read_record}
use Rattle.pr_truss.specs.Replies.{answer_of}
use Rattle.pr_truss.specs.Stops.{with_unfollowed}
use Rattle.pr_truss.specs.Trusses.{TrussState, traced_at}
use Rattle.pr_truss.specs.declared.replies.Answer.{Answer}
use Rattle.pr_truss.specs.declared.replies.Answer.TheVariants.{Accepted, Interrupted, Gone, Refused}
use Rattle.pr_truss.specs.declared.stages.FreeingStep.{FreeingStep}
use Rattle.pr_truss.specs.declared.stages.FreeingStep.TheVariants as freeing
use Rattle.pr_truss.specs.declared.stages.Stage.{Stage}
use Rattle.pr_truss.specs.declared.stages.Stage.TheVariants.{Spawning, OpeningControl, Opening, Polling, ReadingStatus, ReadingText, OpeningChildControl, OpeningChild, Running, Closing, Unfollowing, ReadingLwps, FreeingChild, Finished}
use Rattle.pr_truss_laws.proofs.Replies.AnswerLemmas.{IsAnswer, answer-is}
use Rattle.pr_truss_laws.proofs.Files.HeldLemmas.{Fits}
use Rattle.pr_truss_laws.proofs.Files.OwnLemmas.{Owns}
use Rattle.pr_truss_laws.specs.Exchanges.{Exchange, Makes, exchange_of, exchanges, truss_at}
use Rattle.pr_truss_laws.specs.Runs.{IsTrussRun}
use Rattle.pr_report_laws.proofs.Asking.LooksMade.{looks-in-place}
use Rattle.pr_report_laws.proofs.Asking.NamedRuns.{codes-apart}
use Rattle.pr_report_laws.proofs.Files.FileLaws.{HasFiles, IsFileOf}
use Rattle.pr_report_laws.proofs.Files.FileSteps.{MakesNext, makes-next}
use Rattle.pr_report_laws.proofs.Files.FileUses.{standing}
use Rattle.pr_report_laws.proofs.Files.WatchHistories.{Reaches, run-reaches}
use Rattle.pr_report_laws.proofs.Invariant.StandLemmas.{AreOpen, IsAttached, Leaves, Stands}
use Rattle.pr_report_laws.proofs.ToldForks.ToldReads.{file-has}
use Rattle.pr_report_laws.proofs.Watching.HistoryParts.{front-run, rest-makes}
use Rattle.pr_report_laws.proofs.Watching.LeavingOn.{interrupted-leaves}
use Rattle.pr_report_laws.specs.Attachments.{HasFile, WasInterrupted}
use Rattle.pr_report_laws.specs.Looks.{LooksAtWhatItLeaves, LooksFirst}
use Rattle.pr_report_laws.specs.Watching.{fed_by_entry, with_exchange}

-- Right behind the message by which truss begins to leave a process it looks at the process.

abbrev unfollows : ℕ → Call
unfollows control = message_call control (message.Unset fork_mode)

-- ---- the stage

module _ (t : TrussState) (control : ℕ) (on : t.leaving ≡ true) where
  not-left : {A : Type 0} → t.leaving ≡ false → A
  not-left off = absurd (false≢true (sym off ∙ on))

  same-control : {a : ℕ} → unfollows a ≡ unfollows control → a ≡ control
  same-control is = cc

  abbrev Leaving : Stage → Type 0
  Leaving stage = (stage ≡ Unfollowing) × ((traced_at t 0).control ≡ control)

  freeing-apart : {A : Type 0} (pid : ℕ) (now : FreeingStep) → freeing_call pid now ≡ unfollows control → A
  unfolding freeing_call message_code
  freeing-apart pid freeing.OpenControl is = cc
  freeing-apart pid (freeing.SetRelease c) is =
      codes-apart c control (message.Set rlc_mode) (message.Unset fork_mode) refl is
  freeing-apart pid (freeing.Close c) is = cc

  stage-leaving : (stage : Stage) → Leaves t.leaving stage → call_of t stage ≡ Some (unfollows control) → Leaving stage
  unfolding call_of
  stage-leaving Unfollowing w is = (refl, same-control (same_Some _ _ is))
  stage-leaving (FreeingChild pid now) w is = freeing-apart pid now (same_Some _ _ is)
  stage-leaving (ReadingText place l at size) w is = cc
  stage-leaving ReadingLwps w is = cc
  stage-leaving (Closing place next) w is = cc
  stage-leaving Finished w is = absurd (none-some _ is)
  stage-leaving (Spawning program) w is = not-left w
  stage-leaving (OpeningControl pid) w is = not-left w
  stage-leaving (Opening place now) w is = not-left w
  stage-leaving Polling w is = not-left w
  stage-leaving (ReadingStatus place) w is = not-left w
  stage-leaving (OpeningChildControl parent pid) w is = not-left w
  stage-leaving (OpeningChild parent place now) w is = not-left w
  stage-leaving (Running place) w is = not-left w

-- ---- the call behind it

module _ (n k : ℕ) (o : Options) (first : TracedState) (before later : List Entry) (e : Entry)
    (run : IsTrussRun n k o first (before ++ e ∷ later)) (pid control : ℕ) (r : Reply)
    (own : exchange_of k e ≡ Some (record { call = unfollows control; reply = r })) (lives : r ≢ reply.Fail Noent)
    (interrupted : WasInterrupted k before) (mine : HasFile k pid file.Ctl control (state_after first before)) where
  abbrev t : TrussState
  t = truss_at k o before

  abbrev s : TracedState
  s = state_after first before

  front : IsTrussRun n k o first before
  front = front-run n k o first before (e ∷ later) run

  reached : Reaches k t s
  reached = run-reaches n k o first before front

  files : HasFiles k t s
  files = let g = reached in g.files

  on : t.leaving ≡ true
  on = interrupted-leaves n k o first before front interrupted

  makes : MakesNext t (exchange_of k e) × Makes (fed_by_entry k t e) (exchanges k later)
  makes = makes-next k t e later (rest-makes n k o first before (e ∷ later) run)

  at : (t.stage ≡ Unfollowing) × ((traced_at t 0).control ≡ control)
  unfolding next_call_of
  at =
      let next : next_call_of t ≡ Some (unfollows control) = let m = makes in subst (MakesNext t) own m.0 in
      let f : HasFiles k t s = files in
      let w : Stands t.traced t.leaving t.stage = f.stands in
      stage-leaving t control on t.stage w.leaves next

  within : 0 < length t.traced
  within =
      let g = reached in
      let owns : Owns k t s = g.owns in
      let a = at in subst (Fits t.traced) a.0 owns.fits

  of : (traced_at t 0).pid ≡ pid
  of =
      let f : HasFiles k t s = files in
      let a = at in
      let its : IsFileOf k s (traced_at t 0).pid (traced_at t 0).control file.Ctl WriteExcl = f.control 0 within in
      let held : Held =
      record { controller = k; pid = (traced_at t 0).pid; lwp = 0; file = file.Ctl; mode = WriteExcl } in
      let is : held ≡ mine.held =
      same_Some held mine.held (sym its.is ∙ ap (λ m. handle_of s.opens k m) a.1 ∙ mine.there) in
      ap (λ (h : Held). h.pid) is ∙ mine.of

  attached : IsAttached (traced_at t 0)
  attached =
      let a = at in
      let w : Stands t.traced t.leaving Unfollowing = standing k t s Unfollowing files a.0 in w.at

  -- it reads the lwps
  looked : (x : Exchange) → Some (read_record (traced_at t 0).lstatus) ≡ Some x.call
      → (number : ℕ) × (HasFile k pid file.Lstatus number s × (x.call ≡ call.Read number 0 read_limit))
  looked x is =
      let w : IsAttached (traced_at t 0) = attached in
      let a : AreOpen (traced_at t 0) = w.opened in
      let f : HasFiles k t s = files in (
        a.lstatus.number,
        (
          file-has k pid file.Lstatus Read a.lstatus.number s
              (subst (λ p. IsFileOf k s p a.lstatus.number file.Lstatus Read) of
              (f.lstatus 0 a.lstatus.number within a.lstatus.is)),
          sym (same_Some _ x.call is) ∙ ap read_record a.lstatus.is,
        ),
      )

  -- unless the process has ended
  answered : (a : Answer) → IsAnswer r a → (x : Exchange) (xs : List Exchange)
      → next_call_of (with_unfollowed t a) ≡ Some x.call → LooksFirst k pid s (x ∷ xs)
  unfolding with_unfollowed next_call_of call_of IsAnswer
  answered Gone ended x xs is = absurd (lives ended)
  answered Accepted w x xs is = looked x is
  answered (Refused errno) w x xs is = looked x is
  answered Interrupted w x xs is = looked x is

  fed-is : fed_by_entry k t e ≡ with_unfollowed t (answer_of r)
  unfolding fed with_reply
  fed-is = let a = at in ap (with_exchange t) own ∙ ap (with_reply t r) a.0

  behind : (xs : List Exchange) → Makes (fed_by_entry k t e) xs → LooksFirst k pid s xs
  behind [] made = tt
  behind (x ∷ xs) made =
      answered (answer_of r) (answer-is r) x xs (subst (λ (u : TrussState). next_call_of u ≡ Some x.call) fed-is made.0)

  pub looks-behind : LooksFirst k pid s (exchanges k later)
  looks-behind = let m = makes in behind (exchanges k later) m.1

pub looks-at-left : (n k : ℕ) (o : Options) (first : TracedState) (h : List Entry) → IsTrussRun n k o first h
    → LooksAtWhatItLeaves k first h
looks-at-left n k o first h run = record {
  each = λ before later e pid control r is own lives interrupted mine.
      looks-behind n k o first before later e (subst (IsTrussRun n k o first) is run) pid control r own lives
      interrupted mine;
}

pub ruleset left_looks = (looks-in-place, looks-at-left)
