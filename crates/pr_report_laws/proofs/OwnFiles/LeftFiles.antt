use Rattle.std.proofs.Common.{◌≡◌, ◌<◌, ◌++◌, ℕ, Bool, true, false, cond, Option, Some, None, List, [], ◌∷◌, length, refl, sym, subst, ap, ◌∙◌, append_assoc, arith}
use Rattle.std.proofs.lemmas.Option.{same_Some}
use Rattle.std.specs.List.{cons_option, slice_get}
use Rattle.pr_line.specs.declared.options.Options.{Options}
use Rattle.pr_model.specs.Legal.{state_after}
use Rattle.pr_model.specs.Replies.{bytes_in, handle_in, number_of}
use Rattle.pr_model.specs.State.{TracedState}
use Rattle.pr_model.specs.declared.calls.File.TheVariants as file
use Rattle.pr_model.specs.declared.calls.Mode.TheVariants.{Read}
use Rattle.pr_model.specs.declared.calls.Reply.TheVariants as reply
use Rattle.pr_model.specs.declared.events.Entry.{Entry}
use Rattle.pr_num.specs.declared.errnos.Errno.{Errno}
use Rattle.pr_num.specs.declared.errnos.Errno.TheVariants.{Intr, Noent}
use Rattle.pr_rec.specs.declared.lwps.LwpStatus.{LwpStatus}
use Rattle.pr_truss.specs.Children.{with_freeing_answered, with_freeing_begun, with_refused_freeing}
use Rattle.pr_truss.specs.Closings.{with_closing, with_interrupt}
use Rattle.pr_truss.specs.Feeding.{fed, with_reply}
use Rattle.pr_truss.specs.NextCalls.{call_of, freeing_call, next_call_of, open_control}
use Rattle.pr_truss.specs.Openings.{with_stop_seen}
use Rattle.pr_truss.specs.Records.{child_of, event_stops}
use Rattle.pr_truss.specs.Replies.{answer_of}
use Rattle.pr_truss.specs.Stops.{after_text, followed_child, text_of, with_child_or, with_event_over, with_event_shown, with_lwps_answered, with_stop_over, with_stop_read, with_text_answered}
use Rattle.pr_truss.specs.Trusses.{TrussState, traced_at, with_report, with_stage}
use Rattle.pr_truss.specs.declared.processes.Traced.{Traced}
use Rattle.pr_truss.specs.declared.replies.Answer.{Answer}
use Rattle.pr_truss.specs.declared.replies.Answer.TheVariants.{Accepted, Interrupted, Gone, Refused}
use Rattle.pr_truss.specs.declared.reports.Report.TheVariants.{CannotTrace}
use Rattle.pr_truss.specs.declared.stages.AfterClosing.TheVariants.{GoOn}
use Rattle.pr_truss.specs.declared.stages.FreeingStep.TheVariants as freeing
use Rattle.pr_truss.specs.declared.stages.Stage.{Stage}
use Rattle.pr_truss.specs.declared.stages.Stage.TheVariants.{ReadingText, OpeningChildControl, Running, ReadingLwps, FreeingChild}
use Rattle.pr_truss_laws.proofs.Replies.AnswerLemmas.{IsAnswer, answer-is}
use Rattle.pr_truss_laws.proofs.Files.HeldLemmas.{Fits, of_stage}
use Rattle.pr_truss_laws.proofs.Soon.LookLemmas.{Alike, SameFiles, alike-reported, alike-shown, stop-read}
use Rattle.pr_truss_laws.proofs.Files.OwnLemmas.{Owns}
use Rattle.pr_truss_laws.specs.Exchanges.{Exchange, Makes, errno_in, exchanges, truss_at}
use Rattle.pr_truss_laws.specs.Handles.{handles_of}
use Rattle.pr_truss_laws.specs.Runs.{IsTrussRun}
use Rattle.pr_report_laws.proofs.Files.FileLaws.{HasFiles, IsFileOf}
use Rattle.pr_report_laws.proofs.Files.FileUses.{standing}
use Rattle.pr_report_laws.proofs.Files.WatchHistories.{Reaches, run-reaches, truss_at-push}
use Rattle.pr_report_laws.proofs.Invariant.StandLemmas.{AreOpen, IsAttached, Stands}
use Rattle.pr_report_laws.proofs.OwnFiles.EndedFiles.{all-of, closes-all}
use Rattle.pr_report_laws.proofs.OwnFiles.OpenPlaces.{Childless, Knows, known}
use Rattle.pr_report_laws.proofs.ToldForks.ToldReads.{file-has}
use Rattle.pr_report_laws.proofs.Watching.HistoryParts.{front-run, rest-makes}
use Rattle.pr_report_laws.proofs.Watching.LeavingOn.{interrupted-leaves}
use Rattle.pr_report_laws.proofs.Watching.LeftReads.{left-looks}
use Rattle.pr_report_laws.specs.Attachments.{HasFile, ReadsFile}
use Rattle.pr_report_laws.specs.Grips.{IsLeftIn}
use Rattle.pr_report_laws.specs.OwnFiles.{AreAllOf, CloseFirst, CloseSoon, ClosesWhatItLeaves, FreeAndClose, at_once, with_child, with_text, without_child}
use Rattle.pr_report_laws.specs.Watching.{with_exchange}

-- Behind its last look at a process truss closes all files of it that it has open.

-- ---- an event of which no child comes

childless-none : (l : LwpStatus) → Childless l → child_of l ≡ None
childless-none l none = by (child_of l) refl
  where
    by : (c : Option ℕ) → child_of l ≡ c → c ≡ None
    by None is = refl
    by (Some c) is = absurd (none c is)

unfollowed : (o : Options) (l : LwpStatus) → Childless l → followed_child o l ≡ None
unfolding followed_child
unfollowed o l none = by o.follow
  where
    by : (b : Bool) → cond {A = Option ℕ} b (child_of l) None ≡ None
    by true = childless-none l none
    by false = refl

event-over : (u : TrussState) (place : ℕ) (l : LwpStatus) → Childless l
    → with_event_over u place l ≡ with_stop_over u place
unfolding with_event_over
event-over u place l none = ap (with_child_or u place) (unfollowed u.options l none)

-- ---- the same files

same-handles : (t u : Traced) → SameFiles t u → handles_of u ≡ handles_of t
same-handles t u a =
    ap (λ m. cons_option m (cons_option u.lstatus (cons_option u.status (u.control ∷ [])))) a.memory
    ∙ ap (λ l. cons_option t.memory (cons_option l (cons_option u.status (u.control ∷ [])))) a.lstatus
    ∙ ap (λ f. cons_option t.memory (cons_option t.lstatus (cons_option f (u.control ∷ [])))) a.status
    ∙ ap (λ c. cons_option t.memory (cons_option t.lstatus (cons_option t.status (c ∷ [])))) a.control

alike-staged : (t u : TrussState) (stage : Stage) → Alike t u → Alike t (with_stage u stage)
alike-staged t u stage a = record { leaving = a.leaving; count = a.count; files = a.files; seen = a.seen }

-- ---- what comes behind the look

-- Truss leaves the first process of this state.
module _ (k pid : ℕ) (s : TracedState) (t : TrussState) (on : t.leaving ≡ true) (some : 0 < length t.traced) where
  abbrev handles : List ℕ
  handles = handles_of (traced_at t 0)

  leaves-too : (u : TrussState) → Alike t u → u.leaving ≡ true
  leaves-too u a = a.leaving ∙ on

  closes : (u : TrussState) → Alike t u → (xs : List Exchange) → Makes (with_closing u 0) xs → CloseFirst xs handles
  closes u a xs makes =
      subst (CloseFirst xs) (same-handles (traced_at t 0) (traced_at u 0) (a.files 0))
      (closes-all xs (with_closing u 0) 0 GoOn refl (omega (arith, some, a.count)) makes)

  over-closes : (u : TrussState) → Alike t u → (xs : List Exchange) → Makes (with_stop_over u 0) xs
      → CloseFirst xs handles
  unfolding with_stop_over
  over-closes u a xs makes =
      closes u a xs
      (subst (λ b. Makes (cond b (with_closing u 0) (with_stage u (Running 0))) xs) (leaves-too u a) makes)

  -- ---- a child is set free

  module _ (child : ℕ) where
    frees-closed : (u : TrussState) → Alike t u → (control : ℕ) (xs : List Exchange)
        → Makes (with_stage u (FreeingChild child (freeing.Close control))) xs → CloseFirst xs (control ∷ handles)
    unfolding next_call_of call_of freeing_call fed with_reply with_freeing_answered
    frees-closed u a control [] makes = tt
    frees-closed u a control (x ∷ xs) makes = (sym (same_Some _ x.call makes.0), closes u a xs makes.1)

    frees-set : (u : TrussState) → Alike t u → (control : ℕ) (xs : List Exchange)
        → Makes (with_stage u (FreeingChild child (freeing.SetRelease control))) xs → FreeAndClose control handles xs
    unfolding next_call_of call_of freeing_call fed with_reply with_freeing_answered
    frees-set u a control [] makes = tt
    frees-set u a control (x ∷ xs) makes =
        (sym (same_Some _ x.call makes.0), frees-closed u a control xs makes.1)

    refused-closes : (u : TrussState) → Alike t u → (errno : Errno) (xs : List Exchange)
        → Makes (with_refused_freeing u child errno) xs → CloseFirst xs handles
    unfolding with_refused_freeing
    refused-closes u a errno xs makes =
        closes (with_report u (CannotTrace child errno)) (alike-reported t u (CannotTrace child errno) a) xs makes

    frees-begun : (u : TrussState) → Alike t u → (x : Exchange) (xs : List Exchange) → x.call ≡ open_control child
        → (answer : Answer) → IsAnswer x.reply answer → Makes (with_freeing_begun u child x.reply answer) xs
        → CloseSoon k pid s handles (x ∷ xs)
    unfolding with_freeing_begun IsAnswer
    frees-begun u a x xs called Accepted is makes =
        with_child child called is (frees-set u a (handle_in x.reply) xs makes)
    frees-begun u a x xs called Interrupted is makes =
        without_child child Intr called (ap errno_in is) (closes u a xs makes)
    frees-begun u a x xs called Gone is makes =
        without_child child Noent called (ap errno_in is) (refused-closes u a Noent xs makes)
    frees-begun u a x xs called (Refused errno) is makes =
        without_child child errno called (ap errno_in is) (refused-closes u a errno xs makes)

    frees-opened : (u : TrussState) → Alike t u → (xs : List Exchange)
        → Makes (with_stage u (FreeingChild child freeing.OpenControl)) xs → CloseSoon k pid s handles xs
    unfolding next_call_of call_of freeing_call fed with_reply with_freeing_answered
    frees-opened u a [] makes = at_once tt
    frees-opened u a (x ∷ xs) makes =
        frees-begun (with_stage u (FreeingChild child freeing.OpenControl))
        (alike-staged t u (FreeingChild child freeing.OpenControl) a) x xs (sym (same_Some _ x.call makes.0))
        (answer_of x.reply) (answer-is x.reply) makes.1

  -- ---- memory is read for a line

  module _ (its : HasFile k pid file.Mem (number_of (traced_at t 0).memory) s) (l : LwpStatus) (none : Childless l)
      (from len : ℕ) where
    event-closes : (u : TrussState) → Alike t u → (xs : List Exchange) → Makes (with_event_over u 0 l) xs
        → CloseFirst xs handles
    event-closes u a xs makes = over-closes u a xs (subst (λ v. Makes v xs) (event-over u 0 l none) makes)

    text-closes : (u : TrussState) → Alike t u → (xs : List Exchange) (answer : Answer)
        → Makes (after_text u 0 l answer) xs → CloseFirst xs handles
    unfolding after_text
    text-closes u a xs Accepted makes = event-closes u a xs makes
    text-closes u a xs (Refused errno) makes = event-closes u a xs makes
    text-closes u a xs Gone makes = closes u a xs makes
    text-closes u a xs Interrupted makes =
        event-closes u a xs
        (subst (λ b. Makes (cond b (with_event_over u 0 l) (with_interrupt (with_stop_seen u 0))) xs) (leaves-too u a)
        makes)

    text-read : (u : TrussState) → Alike t u → (xs : List Exchange)
        → Makes (with_stage u (ReadingText 0 l from len)) xs → CloseSoon k pid s handles xs
    unfolding next_call_of call_of fed with_reply with_text_answered
    text-read u a [] makes = at_once tt
    text-read u a (x ∷ xs) makes =
        let v : TrussState = with_stage u (ReadingText 0 l from len) in
        let same = a.files 0 in
        with_text (number_of (traced_at u 0).memory) from len
        (subst (λ m. HasFile k pid file.Mem (number_of m) s) (sym same.memory) its)
        (sym (same_Some _ x.call makes.0))
        (text-closes (with_event_shown v 0 l (text_of len (bytes_in x.reply)))
        (alike-shown t v 0 l (text_of len (bytes_in x.reply)) (alike-staged t u (ReadingText 0 l from len) a)) xs
        (answer_of x.reply) makes.1)

  -- ---- the look

  module _ (o : Options) (past : List Exchange)
      (its : HasFile k pid file.Mem (number_of (traced_at t 0).memory) s) where
    abbrev Soon : TrussState → Type 0
    Soon v =
        Knows o past v.leaving v.traced v.stage → (xs : List Exchange) → Makes v xs → CloseSoon k pid s handles xs

    over-soon : (u : TrussState) → Alike t u → Soon (with_stop_over u 0)
    over-soon u a knows xs makes = at_once (over-closes u a xs makes)

    child-soon : (u : TrussState) (child : ℕ) → Alike t u
        → Soon (with_stage u (cond u.leaving (FreeingChild child freeing.OpenControl) (OpeningChildControl 0 child)))
    child-soon u child a =
        subst
        (λ b. Soon (with_stage u (cond b (FreeingChild child freeing.OpenControl) (OpeningChildControl 0 child))))
        (sym (leaves-too u a)) (λ knows xs makes. frees-opened child u a xs makes)

    text-soon : (u : TrussState) (l : LwpStatus) (from len : ℕ) → Alike t u
        → Soon (with_stage u (ReadingText 0 l from len))
    text-soon u l from len a knows xs makes = text-read its l knows from len u a xs makes

    pub looked-soon : (l : Option LwpStatus) → Soon (with_stop_read t 0 l)
    looked-soon l = stop-read Soon t 0 over-soon child-soon text-soon some l

-- ---- the law

module _ (n k : ℕ) (o : Options) (pid : ℕ) (first : TracedState) (before later : List Entry) (e : Entry)
    (run : IsTrussRun n k o first (before ++ e ∷ later)) (w : IsLeftIn k pid first before e) where
  abbrev t : TrussState
  t = truss_at k o before

  abbrev s : TracedState
  s = state_after first before

  abbrev looked : List Entry
  looked = before ++ e ∷ []

  abbrev r : ReadsFile k pid file.Lstatus s e
  r = w.reads

  in-parts : IsTrussRun n k o first (looked ++ later)
  in-parts = subst (IsTrussRun n k o first) (sym (append_assoc before (e ∷ []) later)) run

  up-to : IsTrussRun n k o first looked
  up-to = front-run n k o first looked later in-parts

  front : IsTrussRun n k o first before
  front = front-run n k o first before (e ∷ later) run

  reached : Reaches k t s
  reached = run-reaches n k o first before front

  files : HasFiles k t s
  files = let g = reached in g.files

  on : t.leaving ≡ true
  on = interrupted-leaves n k o first before front w.interrupted

  at : (t.stage ≡ ReadingLwps) × ((traced_at t 0).pid ≡ pid)
  at = left-looks n k o pid first before e up-to w

  some : 0 < length t.traced
  some =
      let g = reached in
      let owns : Owns k t s = g.owns in
      let a = at in subst (Fits t.traced) a.0 owns.fits

  -- all its files are open
  memory : HasFile k pid file.Mem (number_of (traced_at t 0).memory) s
  memory =
      let a = at in
      let f : HasFiles k t s = files in
      let stands : Stands t.traced t.leaving ReadingLwps = standing k t s ReadingLwps f a.0 in
      let attached : IsAttached (traced_at t 0) = stands.at in
      let opened : AreOpen (traced_at t 0) = attached.opened in
      subst (λ m. HasFile k pid file.Mem (number_of m) s) (sym opened.memory.is)
      (file-has k pid file.Mem Read opened.memory.number s
      (subst (λ p. IsFileOf k s p opened.memory.number file.Mem Read) a.1
      (f.memory 0 opened.memory.number some opened.memory.is)))

  abbrev told : Option LwpStatus
  told = slice_get (event_stops (bytes_in (reply.Bytes r.bytes))) 0

  now-is : truss_at k o looked ≡ with_stop_read t 0 told
  unfolding fed with_reply with_lwps_answered answer_of
  now-is =
      let a = at in
      truss_at-push k o before e ∙ ap (with_exchange t) r.is ∙ ap (with_reply t (reply.Bytes r.bytes)) a.0

  closes-soon : CloseSoon k pid s (handles_of (traced_at t 0)) (exchanges k later)
  closes-soon =
      let v = truss_at k o looked in
      looked-soon k pid s t on some o (exchanges k looked) memory told
      (subst (λ (u : TrussState). Knows o (exchanges k looked) u.leaving u.traced u.stage) now-is
      (known o (exchanges k looked) up-to.makes)) (exchanges k later)
      (subst (λ u. Makes u (exchanges k later)) now-is (rest-makes n k o first looked later in-parts))

  pub leaves-closed : (handles : List ℕ) × (AreAllOf k pid s handles × CloseSoon k pid s handles (exchanges k later))
  leaves-closed =
      let a = at in (
        handles_of (traced_at t 0),
        (all-of k t s reached pid 0 some a.1 (λ h. ap (of_stage pid h) a.0), closes-soon),
      )

pub closes-left : (n k : ℕ) (o : Options) (first : TracedState) (h : List Entry) → IsTrussRun n k o first h
    → ClosesWhatItLeaves k first h
closes-left n k o first h run = record {
  each = λ before later e pid is w.
      leaves-closed n k o pid first before later e (subst (IsTrussRun n k o first) is run) w;
}

pub ruleset left_files = (closes-left)
