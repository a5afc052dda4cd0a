use Rattle.std.proofs.Common.{◌≡◌, ◌<◌, ◌⊎◌, ◌++◌, ℕ, true, false, Option, Some, None, List, [], ◌∷◌, length, append_assoc, refl, sym, subst, ap, ◌∙◌, arith, inl, inr}
use Rattle.std.proofs.lemmas.Bool.{cases_Bool, eq-eqb, false≢true}
use Rattle.std.proofs.lemmas.List.Elements.{All-cons, All-head, All-nil}
use Rattle.std.proofs.lemmas.Option.{none-some, same_Some}
use Rattle.std.specs.List.{All}
use Rattle.pr_line.specs.declared.options.Options.{Options}
use Rattle.pr_model.specs.Calls.{answer_to}
use Rattle.pr_model.specs.Handles.{handle_of}
use Rattle.pr_model.specs.Legal.{state_after}
use Rattle.pr_model.specs.Replies.{bytes_in, number_of}
use Rattle.pr_model.specs.State.{TracedState}
use Rattle.pr_model.specs.declared.calls.Call.{Call}
use Rattle.pr_model.specs.declared.calls.Call.TheVariants as call
use Rattle.pr_model.specs.declared.calls.File.{File}
use Rattle.pr_model.specs.declared.calls.File.TheVariants as file
use Rattle.pr_model.specs.declared.calls.Mode.{Mode}
use Rattle.pr_model.specs.declared.calls.Mode.TheVariants.{Read, WriteExcl}
use Rattle.pr_model.specs.declared.calls.Reply.{Reply}
use Rattle.pr_model.specs.declared.calls.Reply.TheVariants as reply
use Rattle.pr_model.specs.declared.events.Entry.{Entry}
use Rattle.pr_model.specs.declared.handles.Held.{Held}
use Rattle.pr_num.specs.Control.{fork_mode}
use Rattle.pr_num.specs.Limits.{read_limit}
use Rattle.pr_num.specs.declared.errnos.Errno.{Errno}
use Rattle.pr_num.specs.declared.errnos.Errno.TheVariants.{Intr, Noent}
use Rattle.pr_num.specs.declared.messages.Message.TheVariants as message
use Rattle.pr_report_laws.proofs.Files.FileLaws.{HasFiles, IsFileOf}
use Rattle.pr_report_laws.proofs.Files.FileUses.{lwps-read, memory-read, stage-control, stage_place, standing, status-read}
use Rattle.pr_report_laws.proofs.Files.WatchHistories.{IsAnswered, Reaches, exchange-answered}
use Rattle.pr_report_laws.proofs.Holding.EndReplies.{lwps-told, reply-gone}
use Rattle.pr_report_laws.proofs.Holding.HoldEnds.{same-exchange}
use Rattle.pr_report_laws.proofs.Holding.OverEnds.{ClosesIt, ended, next-closes}
use Rattle.pr_report_laws.proofs.Invariant.StandLemmas.{Stands}
use Rattle.pr_report_laws.proofs.Memory.WatchMemory.{HasInterrupt, reached-comes}
use Rattle.pr_report_laws.proofs.Replies.Places.{unwatched-away}
use Rattle.pr_report_laws.proofs.Replies.StageChanges.{Asks, Ends, away_before, gone, is_new, looked, runs, status, text, unfollows}
use Rattle.pr_report_laws.proofs.Replies.WatchedPlaces.{IsWatched, place-watched, watched-place}
use Rattle.pr_report_laws.proofs.Watching.EndLaws.{stage-called, watched-after}
use Rattle.pr_report_laws.proofs.Watching.HistoryParts.{all-rest}
use Rattle.pr_report_laws.proofs.Watching.LeftReads.{IsAway, ReadsLeaving, lwps-away, next-reads}
use Rattle.pr_report_laws.proofs.Watching.LeftReads as left
use Rattle.pr_report_laws.specs.Attachments.{ReadsFile, WasInterrupted}
use Rattle.pr_report_laws.specs.Grips.{IsLeftIn}
use Rattle.pr_report_laws.specs.Holds.{IsToldOfEnd, LetsGoIn, leaves_it, told_end}
use Rattle.pr_report_laws.specs.Watching.{is_away, place_of, watches}
use Rattle.pr_truss.specs.Feeding.{fed}
use Rattle.pr_truss.specs.FunctionFeeding.{fed_functions}
use Rattle.pr_truss.specs.Messages.{message_call}
use Rattle.pr_truss.specs.NextCalls.{call_of, next_call_of, opening_call, read_record, run_call}
use Rattle.pr_truss.specs.Records.{event_stops}
use Rattle.pr_truss.specs.Replies.{answer_of}
use Rattle.pr_truss.specs.Trusses.{TrussState, traced_at}
use Rattle.pr_truss.specs.declared.processes.Traced.{Traced}
use Rattle.pr_truss.specs.declared.replies.Answer.TheVariants.{Gone}
use Rattle.pr_truss.specs.declared.stages.OpeningStep.TheVariants.{Start}
use Rattle.pr_truss.specs.declared.stages.Stage.{Stage}
use Rattle.pr_truss.specs.declared.stages.Stage.TheVariants.{Opening, ReadingStatus, ReadingText, Running, Closing, Unfollowing, ReadingLwps}
use Rattle.pr_truss_laws.proofs.Files.HeldLemmas.{Fits, at_place}
use Rattle.pr_truss_laws.proofs.Files.OpensLemmas.{held_by}
use Rattle.pr_truss_laws.proofs.Files.OwnLemmas.{Owns}
use Rattle.pr_truss_laws.specs.Business.{goes_to}
use Rattle.pr_truss_laws.specs.Exchanges.{Exchange, exchange_of, exchanges}
use Rattle.pr_truss_laws.specs.Sent.{sends}
use Rattle.pr_function_laws.proofs.LeavingProcesses.LeavingCourse.{calm-at, is-broken}
use Rattle.pr_function_laws.proofs.OpenedProcesses.OpenedLaws.{before-goes}
use Rattle.pr_function_laws.proofs.OrdinaryTruss.OrdinaryCalls.{sees-sends, stands-sends}
use Rattle.pr_function_laws.proofs.OrdinaryTruss.OrdinaryEntries as entries
use Rattle.pr_function_laws.proofs.OrdinaryTruss.OrdinaryEntries.{watches-ordinary}
use Rattle.pr_function_laws.proofs.OrdinaryTruss.OrdinaryExchanges.{Turn, goes_on, goes_out}
use Rattle.pr_function_laws.proofs.OrdinaryTruss.OrdinaryFiles.{Follows, Halfway, run-halfway}
use Rattle.pr_function_laws.proofs.OrdinaryTruss.OrdinaryReplies.{at-ordinary}
use Rattle.pr_function_laws.specs.Opened.{IsFunctionRun, WasNotInterrupted, functions_at}
use Rattle.pr_function_laws.specs.Ordinary.{AwaitsStop, IsLike, IsTakenUp, LiftsAtLast, OwnFaultRead, PassesOver, PlantsAtFirst, PlantsLater, SeesTo, StandsFor, asks_again, awaits, awaits_again, clears_fault, common, entries as sets_entries, exits, faults, in_place, leaves, lifts_again, lifts_at_last, ordinary, own_fault, plants_again, plants_at_first, reads_code, refused, runs as runs_it, same, signals, waits}

-- Where truss with calls of functions comes to watch a process no more, the entry tells it, and nowhere else: a call to
-- a handle of the process was refused with ENOENT, or truss, which was interrupted, has read the statuses of its lwps.

-- ---- to which handle a call goes

stands-goes : {o : Options} {c d : Call} → StandsFor o c d → goes_to c ≡ goes_to d
stands-goes (common m is) = refl
stands-goes waits = refl
stands-goes signals = refl
stands-goes faults = refl
stands-goes sets_entries = refl
stands-goes exits = refl
stands-goes (runs_it flags step) = refl
stands-goes leaves = refl

first-goes : {o : Options} {control : ℕ} {c : Call} → PlantsAtFirst o control c → goes_to c ≡ Some control
first-goes (reads_code below) = refl
first-goes (plants_at_first below) = refl

later-goes : {o : Options} {control : ℕ} {c : Call} → PlantsLater o control c → goes_to c ≡ Some control
later-goes (plants_again below) = refl
later-goes (lifts_again below) = refl

last-goes : {o : Options} {control : ℕ} {c : Call} → LiftsAtLast o control c → goes_to c ≡ Some control
last-goes (lifts_at_last below) = refl
last-goes clears_fault = refl

awaits-goes : {control : ℕ} {c : Call} → AwaitsStop control c → goes_to c ≡ Some control
awaits-goes awaits = refl
awaits-goes asks_again = refl
awaits-goes awaits_again = refl

-- ---- interrupts

-- one of these exchanges was interrupted, or none
find-interrupt : (xs : List Exchange) → All WasNotInterrupted xs ⊎ HasInterrupt xs
find-interrupt [] = inl (All-nil WasNotInterrupted)
find-interrupt (x ∷ xs) = elim (is-broken x) [
  | inl broken ↦ inr (record {
    before = [];
    call = x.call;
    later = xs;
    is = ap (λ (r : Reply). record { call = x.call; reply = r } ∷ xs) broken;
  })
  | inr quiet ↦ elim (find-interrupt xs) [
    | inl all ↦ inl (All-cons WasNotInterrupted x xs quiet all)
    | inr i ↦ inr (record {
      before = x ∷ i.before;
      call = i.call;
      later = i.later;
      is = ap (λ (ys : List Exchange). x ∷ ys) i.is;
    })
  ]
]

-- a refusal tells of no fault
fault-not : (t : TrussState) (stage : Stage) → OwnFaultRead t (reply.Fail Noent) stage → ⊥
unfolding bytes_in event_stops
fault-not t (ReadingStatus place) own = own
fault-not t ReadingLwps own = own
fault-not t _ own = own

module _ (n k : ℕ) (o : Options) (pid : ℕ) (s : TracedState) (before later : List Entry) (e : Entry)
    (run : IsFunctionRun n k o s (before ++ e ∷ later)) where
  abbrev t : TrussState
  t = functions_at k o before

  abbrev u : TrussState
  u = ordinary t

  abbrev v : TrussState
  v = functions_at k o (before ++ e ∷ [])

  abbrev now : TracedState
  now = state_after s before

  there : Follows k o t now
  there = entries.follows n k o s before later e run

  reached : Reaches k u now
  reached = there.reaches

  reached-behind : Reaches k (ordinary v) (state_after s (before ++ e ∷ []))
  reached-behind =
      let half : Halfway n k o _ s (before ++ e ∷ []) later =
      run-halfway n k o s (before ++ e ∷ []) later
      (subst (IsFunctionRun n k o s) (sym (append_assoc before (e ∷ []) later)) run) in
      let follows = half.follows in follows.reaches

  files : HasFiles k u now
  files = let g = reached in g.files

  fits : Fits u.traced u.stage
  fits = let g = reached in let owns : Owns k u now = g.owns in owns.fits

  answered : (x : Exchange) → exchange_of k e ≡ Some x → IsAnswered k now x
  answered x own =
      let half : Halfway n k o _ s before (e ∷ later) = run-halfway n k o s before (e ∷ later) run in
      exchange-answered n k now e x half.legal.0 own

  turned : (x : Exchange) → exchange_of k e ≡ Some x → Turn t x
  turned x own = entries.turned n k o s before later e run x own

  pushed : (x : Exchange) → exchange_of k e ≡ Some x → v ≡ fed_functions t x.reply
  pushed x own = entries.pushed n k o s before later e run x own

  -- ---- it leaves its processes just where it was interrupted

  pub interrupted-leaves : WasInterrupted k before → (functions_at k o before).leaving ≡ true
  interrupted-leaves w = elim (cases_Bool t.leaving) [
    | inl on ↦ on
    | inr off ↦ absurd (by off)
  ]
    where
      by : t.leaving ≡ false → ⊥
      by off =
          let broken : Exchange = record { call = w.call; reply = reply.Fail Intr } in
          let all = calm-at ⊥ n k o s (before ++ e ∷ later) run (λ never. absurd never) (λ never. absurd never) before
          (e ∷ later) refl off in
          let rest =
          all-rest WasNotInterrupted w.before (broken ∷ w.later) (subst (All WasNotInterrupted) w.is all) in
          let first = All-head WasNotInterrupted broken w.later rest in first.unbroken refl

  pub leaves-interrupted : (functions_at k o before).leaving ≡ true → WasInterrupted k before
  leaves-interrupted on = elim (find-interrupt (exchanges k before)) [
    | inl all ↦ absurd (by all)
    | inr i ↦ record { before = i.before; call = i.call; later = i.later; is = i.is }
  ]
    where
      by : All WasNotInterrupted (exchanges k before) → ⊥
      by all =
          let g = before-goes n k o s (before ++ e ∷ later) run before (e ∷ later) refl all ⊥ (λ never. absurd never)
          (λ never. absurd never) in
          let kept = g.kept in false≢true (sym kept.off ∙ on)

  -- ---- the files of the process at a place

  control-here : (place : ℕ) → stage_place t.stage ≡ Some place
      → IsFileOf k now (traced_at u place).pid (traced_at u place).control file.Ctl WriteExcl
  control-here place is = let c = stage-control k u now files fits place is in c.1

  same-control : (place : ℕ) → (traced_at t place).control ≡ (traced_at u place).control
  same-control place = ap (λ (z : Traced). z.control) (sym (at-ordinary t place))

  -- what comes beside a stage goes to the control file of the process of that stage
  sees-goes : (stage : Stage) (c : Call) (place : ℕ) → stage_place stage ≡ Some place → SeesTo t stage c
      → goes_to c ≡ Some (traced_at u place).control
  sees-goes (Opening at Start) c place is it =
      first-goes it ∙ ap (λ p. Some (traced_at t p).control) (same_Some at place is)
      ∙ ap (λ m. Some m) (same-control place)
  sees-goes (Running at) c place is it =
      later-goes it ∙ ap (λ p. Some (traced_at t p).control) (same_Some at place is)
      ∙ ap (λ m. Some m) (same-control place)
  sees-goes (ReadingText at l from len) c place is it =
      later-goes it ∙ ap (λ p. Some (traced_at t p).control) (same_Some at place is)
      ∙ ap (λ m. Some m) (same-control place)
  sees-goes (Closing at next) c place is it =
      last-goes it ∙ ap (λ p. Some (traced_at t p).control) (same_Some at place is)
      ∙ ap (λ m. Some m) (same-control place)
  sees-goes ReadingLwps c place is it =
      awaits-goes it ∙ ap (λ p. Some (traced_at t p).control) (same_Some 0 place is)
      ∙ ap (λ m. Some m) (same-control place)
  sees-goes _ c place is it = absurd it

  -- ---- where it comes to watch the process no more

  -- a call to a file of the process that is told so
  told-of : (x : Exchange) → exchange_of k e ≡ Some x → (number owner : ℕ) (f : File) (mode : Mode)
      → goes_to x.call ≡ Some number → IsFileOf k now owner number f mode → owner ≡ pid → x.reply ≡ reply.Fail Noent
      → LetsGoIn k pid s before e
  told-of x own number owner f mode goes is its refused_so =
      told_end (record {
        call = x.call;
        handle = number;
        held = held_by k owner 0 f mode;
        is =
            own
            ∙ ap (λ (z : Exchange). Some z) (same-exchange x x.call (reply.Fail Noent) refl refused_so);
        goes = goes;
        there = is.is;
        of = its;
      })

  -- Its exchange is like one that says so of the process of the stage.
  like-told : (x y : Exchange) → exchange_of k e ≡ Some x → IsLike t x y → y.reply ≡ reply.Fail Noent → (place : ℕ)
      → stage_place t.stage ≡ Some place → (traced_at u place).pid ≡ pid → (number : ℕ) (f : File) (mode : Mode)
      → goes_to y.call ≡ Some number → IsFileOf k now (traced_at u place).pid number f mode → LetsGoIn k pid s before e
  like-told x y own (same unsent none_own) refused_so place at its number f mode goes is =
      told-of x own number (traced_at u place).pid f mode goes is its refused_so
  like-told x y own (in_place stands) refused_so place at its number f mode goes is =
      told-of x own number (traced_at u place).pid f mode (stands-goes stands ∙ goes) is its refused_so
  like-told x y own (refused {c = c} sees may called) refused_so place at its number f mode goes is =
      told-of x own (traced_at u place).control (traced_at u place).pid file.Ctl WriteExcl
      (sees-goes t.stage c place at sees) (control-here place at) its refused_so
  like-told x y own (own_fault tells) refused_so place at its number f mode goes is = absurd (clash refused_so)
    where
      clash : reply.Bytes [] ≡ reply.Fail Noent → ⊥
      clash is_so = cc

  -- truss asked something of the process
  module _ (x y : Exchange) (own : exchange_of k e ≡ Some x) (like : IsLike t x y)
      (called : next_call_of u ≡ Some y.call) where
    asked : (place : ℕ) → (traced_at u place).pid ≡ pid → Asks u.stage place → answer_of y.reply ≡ Gone
        → LetsGoIn k pid s before e
    unfolding call_of
    asked place its (status is) told =
        like-told x y own like (reply-gone y.reply told) place (ap stage_place is) its
        (number_of (traced_at u place).status) file.Status Read
        (ap goes_to (stage-called u y (ReadingStatus place) (read_record (traced_at u place).status) called is refl))
        (status-read k u now files fits place is)
    asked place its (text l from len is) told =
        like-told x y own like (reply-gone y.reply told) place (ap stage_place is) its
        (number_of (traced_at u place).memory) file.Mem Read
        (ap goes_to
        (stage-called u y (ReadingText place l from len)
        (call.Read (number_of (traced_at u place).memory) from len) called is refl))
        (memory-read k u now files fits place l from len is)
    asked place its (runs is) told =
        like-told x y own like (reply-gone y.reply told) place (ap stage_place is) its (traced_at u place).control
        file.Ctl WriteExcl
        (ap goes_to (stage-called u y (Running place) (run_call (traced_at u place).control) called is refl))
        (control-here place (ap stage_place is))
    asked place its (unfollows is first) told =
        like-told x y own like (reply-gone y.reply told) 0 (ap stage_place is)
        (subst (λ p. (traced_at u p).pid ≡ pid) first its) (traced_at u 0).control file.Ctl WriteExcl
        (ap goes_to
        (stage-called u y Unfollowing (message_call (traced_at u 0).control (message.Unset fork_mode)) called is
        refl)) (control-here 0 (ap stage_place is))

    -- at its last look at the process the call is that read, or one that tells of its end
    like-look : (number : ℕ) → y.call ≡ call.Read number 0 read_limit → t.stage ≡ ReadingLwps
        → (x.call ≡ y.call) ⊎ (SeesTo t t.stage x.call × (x.reply ≡ reply.Fail Noent))
    like-look number is at = by x y like is
      where
        by : (a b : Exchange) → IsLike t a b → b.call ≡ call.Read number 0 read_limit
            → (a.call ≡ b.call) ⊎ (SeesTo t t.stage a.call × (a.reply ≡ reply.Fail Noent))
        by a b (same unsent none_own) reads = inl refl
        by a b (in_place stands) reads = absurd (false≢true (ap sends (sym reads) ∙ (stands-sends stands).1))
        by a b (refused {errno = errno} sees may made) reads =
            let ended_so : errno ≡ Noent = subst (λ stage. IsTakenUp stage errno) at may in
            inr (sees, ap reply.Fail ended_so)
        by a b (own_fault tells) reads = inl refl

    looked-at : t.stage ≡ ReadingLwps → (traced_at u 0).pid ≡ pid → LetsGoIn k pid s before e
    unfolding call_of
    looked-at is its =
        let made : y.call ≡ call.Read (number_of (traced_at u 0).lstatus) 0 read_limit =
        stage-called u y ReadingLwps (call.Read (number_of (traced_at u 0).lstatus) 0 read_limit) called is refl in
        elim (like-look (number_of (traced_at u 0).lstatus) made is) [
          | inl alike ↦ by (alike ∙ made)
          | inr both ↦ told-of x own (traced_at u 0).control (traced_at u 0).pid file.Ctl WriteExcl
              (sees-goes t.stage x.call 0 (ap stage_place is) both.0) (control-here 0 (ap stage_place is)) its both.1
        ]
      where
        number : ℕ
        number = number_of (traced_at u 0).lstatus

        left-it : (bytes : List ℕ) → x.call ≡ call.Read number 0 read_limit → x.reply ≡ reply.Bytes bytes
            → LetsGoIn k pid s before e
        left-it bytes made got =
            let f = lwps-read k u now files fits is in
            let stands : Stands u.traced u.leaving ReadingLwps = standing k u now ReadingLwps files is in
            leaves_it (record {
              interrupted = leaves-interrupted stands.leaves;
              reads = record {
                handle = number;
                from = 0;
                len = read_limit;
                bytes = bytes;
                held = held_by k (traced_at u 0).pid 0 file.Lstatus Read;
                is =
                    own
                    ∙ ap (λ (z : Exchange). Some z)
                    (same-exchange x (call.Read number 0 read_limit) (reply.Bytes bytes) made got);
                there = f.is;
                of = its;
                file = refl;
              };
            })

        by : x.call ≡ call.Read number 0 read_limit → LetsGoIn k pid s before e
        by made =
            let f = lwps-read k u now files fits is in
            let a : IsAnswered k now x = answered x own in
            elim (lwps-told now k number (held_by k (traced_at u 0).pid 0 file.Lstatus Read) f.is refl a.answer
            (subst (λ d. answer_to now k d ≡ Some a.answer) made a.is)) [
              | inl none ↦ told-of x own number (traced_at u 0).pid file.Lstatus Read (ap goes_to made) f its
                  (sym a.reply ∙ none)
              | inr b ↦ left-it b.bytes made (sym a.reply ∙ b.is)
            ]

    ends-so : (place : ℕ) → IsWatched u pid place → Ends u y.reply place → LetsGoIn k pid s before e
    ends-so place w (away_before away) = absurd (false≢true (sym w.here ∙ away))
    ends-so place w (is_new last) = absurd (nowhere w.within last)
      where
        nowhere : place < length u.traced → place ≡ length u.traced → ⊥
        nowhere within is = omega arith
    ends-so place w (gone told asks) = asked place w.of asks told
    ends-so place w (looked is first) = looked-at is (subst (λ p. (traced_at u p).pid ≡ pid) first w.of)

  -- how it comes that it watches the process no more
  pub record EndsWatch : Type 0 where
    pub x : Exchange
    pub y : Exchange
    pub place : ℕ
    pub own : exchange_of k e ≡ Some x
    pub like : IsLike (functions_at k o before) x y
    pub called : next_call_of (ordinary (functions_at k o before)) ≡ Some y.call
    pub watched : IsWatched (ordinary (functions_at k o before)) pid place
    pub ends : Ends (ordinary (functions_at k o before)) y.reply place

  pub watch-ends : watches (functions_at k o before) pid ≡ true
      → watches (functions_at k o (before ++ e ∷ [])) pid ≡ false → EndsWatch
  watch-ends on off = by (exchange_of k e) refl
    where
      on-now : watches u pid ≡ true
      on-now = watches-ordinary t pid ∙ on

      from : (x : Exchange) → exchange_of k e ≡ Some x → Turn t x → EndsWatch
      from x own (goes_out sees passes stay) =
          absurd
          (false≢true
          (sym off ∙ ap (λ z. watches z pid) (pushed x own) ∙ sym (watches-ordinary (fed_functions t x.reply) pid)
          ∙ ap (λ z. watches z pid) stay ∙ on-now))
      from x own (goes_on y like called comes) =
          let after_files : HasFiles k (ordinary v) _ = (let g = reached-behind in g.files) in
          let same_truss : ordinary v ≡ fed u y.reply = ap ordinary (pushed x own) ∙ comes in
          let w = watched-place u pid on-now in
          let c = reached-comes k u now y.reply reached in
          elim (watched-after u y.reply (fed u y.reply) pid w.0 w.1 fits c.how) [
            | inl z ↦ absurd (false≢true (sym off ∙ sym (watches-ordinary v pid)
                ∙ place-watched (ordinary v) pid z.0 after_files.one
                (subst (λ (q : TrussState). IsWatched q pid z.0) (sym same_truss) z.1)))
            | inr ends ↦ record {
              x = x;
              y = y;
              place = w.0;
              own = own;
              like = like;
              called = called;
              watched = w.1;
              ends = ends;
            }
          ]

      by : (x : Option Exchange) → exchange_of k e ≡ x → EndsWatch
      by None own =
          absurd
          (false≢true (sym off ∙ ap (λ z. watches z pid) (entries.unmoved n k o s before later e run own) ∙ on))
      by (Some x) own = from x own (turned x own)

  -- Where truss watches a process no more, it lets it go in that entry.
  pub watched-goes : watches t pid ≡ true → watches v pid ≡ false → LetsGoIn k pid s before e
  watched-goes on off =
      let w = watch-ends on off in ends-so w.x w.y w.own w.like w.called w.place w.watched w.ends

  -- ---- where it lets the process go

  -- the files of the process are closed next, or it is left
  off-at : (place : ℕ) → place < length (ordinary v).traced → (traced_at (ordinary v) place).pid ≡ pid
      → is_away (ordinary v).leaving (ordinary v).stage place ≡ true → watches v pid ≡ false
  off-at place within its away =
      let after_files : HasFiles k (ordinary v) _ = (let g = reached-behind in g.files) in
      sym (watches-ordinary v pid)
      ∙ unwatched-away (ordinary v) pid place
      (subst (λ p. place_of (ordinary v) p ≡ Some place) its (after_files.one place within)) away

  -- ---- where it is told that the process has ended

  -- the call goes to a handle that truss has of the process
  pub record GoesToIt (d : Call) : Type 0 where
    pub number : ℕ
    pub held : Held
    pub goes : goes_to d ≡ Some number
    pub there : handle_of (state_after s before).opens k number ≡ Some held
    pub of : held.pid ≡ pid

  module _ (w : IsToldOfEnd k pid now e) where
    -- whose the file is to which the call goes
    its-own : (owner number : ℕ) (f : File) (mode : Mode) → IsFileOf k now owner number f mode
        → goes_to w.call ≡ Some number → owner ≡ pid
    its-own owner number f mode its is =
        ap (λ (h : Held). h.pid)
        (same_Some (held_by k owner 0 f mode) w.held
        (sym its.is ∙ ap (λ m. handle_of now.opens k m) (same_Some number w.handle (sym is ∙ w.goes)) ∙ w.there))
        ∙ w.of

    -- the process of the stage beside which the call comes
    pub owner-here : (stage : Stage) (place : ℕ) → (functions_at k o before).stage ≡ stage
        → stage_place stage ≡ Some place → SeesTo (functions_at k o before) stage w.call
        → (traced_at (ordinary (functions_at k o before)) place).pid ≡ pid
    owner-here stage place at is sees =
        its-own (traced_at u place).pid (traced_at u place).control file.Ctl WriteExcl
        (control-here place (ap stage_place at ∙ is)) (sees-goes stage w.call place is sees)

    goes-by : (d : Call) (owner number : ℕ) (f : File) (mode : Mode) → IsFileOf k now owner number f mode → owner ≡ pid
        → goes_to d ≡ Some number → GoesToIt d
    goes-by d owner number f mode is its goes = record {
      number = number;
      held = held_by k owner 0 f mode;
      goes = goes;
      there = is.is;
      of = its;
    }

    -- the call that was not made goes to a file of the same process
    taken-goes : (stage : Stage) (d : Call) (errno : Errno) → t.stage ≡ stage → SeesTo t stage w.call
        → IsTakenUp stage errno → next_call_of u ≡ Some d → GoesToIt d
    unfolding call_of opening_call
    taken-goes (Opening place Start) d errno at sees may called =
        goes-by d (traced_at u place).pid (traced_at u place).control file.Ctl WriteExcl
        (control-here place (ap stage_place at)) (owner-here (Opening place Start) place at refl sees)
        (ap goes_to
        (stage-called u (record { call = d; reply = ended }) (Opening place Start)
        (run_call (traced_at u place).control) called at refl))
    taken-goes (Running place) d errno at sees may called =
        goes-by d (traced_at u place).pid (traced_at u place).control file.Ctl WriteExcl
        (control-here place (ap stage_place at)) (owner-here (Running place) place at refl sees)
        (ap goes_to
        (stage-called u (record { call = d; reply = ended }) (Running place) (run_call (traced_at u place).control)
        called at refl))
    taken-goes (ReadingText place l from len) d errno at sees may called =
        goes-by d (traced_at u place).pid (number_of (traced_at u place).memory) file.Mem Read
        (memory-read k u now files fits place l from len at)
        (owner-here (ReadingText place l from len) place at refl sees)
        (ap goes_to
        (stage-called u (record { call = d; reply = ended }) (ReadingText place l from len)
        (call.Read (number_of (traced_at u place).memory) from len) called at refl))
    taken-goes ReadingLwps d errno at sees may called =
        goes-by d (traced_at u 0).pid (number_of (traced_at u 0).lstatus) file.Lstatus Read
        (lwps-read k u now files fits at) (owner-here ReadingLwps 0 at refl sees)
        (ap goes_to
        (stage-called u (record { call = d; reply = ended }) ReadingLwps
        (call.Read (number_of (traced_at u 0).lstatus) 0 read_limit) called at refl))
    taken-goes _ d errno at sees may called = absurd may

    -- So does the call of truss that this one is like, and it is told the same.
    pub like-goes : (a y : Exchange) → a.call ≡ w.call → a.reply ≡ reply.Fail Noent
        → IsLike (functions_at k o before) a y → next_call_of (ordinary (functions_at k o before)) ≡ Some y.call
        → (y.reply ≡ reply.Fail Noent) × GoesToIt y.call
    like-goes a y made ended_so (same unsent none_own) called = (
      ended_so,
      record { number = w.handle; held = w.held; goes = ap goes_to made ∙ w.goes; there = w.there; of = w.of },
    )
    like-goes a y made ended_so (in_place {d = d} stands) called = (
      ended_so,
      record {
        number = w.handle;
        held = w.held;
        goes = sym (stands-goes stands) ∙ ap goes_to made ∙ w.goes;
        there = w.there;
        of = w.of;
      },
    )
    like-goes a y made ended_so (refused {d = d} {errno = errno} sees may is) called = (
      ended_so,
      taken-goes t.stage d errno refl (subst (SeesTo t t.stage) made sees) may called,
    )
    like-goes a y made ended_so (own_fault tells) called =
        absurd (fault-not t t.stage (subst (λ q. OwnFaultRead t q t.stage) ended_so tells))

  module _ (on : watches t pid ≡ true) where
    on-before : watches u pid ≡ true
    on-before = watches-ordinary t pid ∙ on

    module _ (w : IsToldOfEnd k pid now e) where
      abbrev x : Exchange
      x = record { call = w.call; reply = reply.Fail Noent }

      -- The call is left out: the files of the process are being closed, which is not watched then.
      out-not : (stage : Stage) → t.stage ≡ stage → SeesTo t stage w.call → PassesOver stage (reply.Fail Noent) → ⊥
      out-not (Opening place Start) at sees passes = none-some Noent (sym passes)
      out-not (Running place) at sees passes = passes refl
      out-not (ReadingText place l from len) at sees passes = passes refl
      out-not ReadingLwps at sees passes = passes refl
      out-not (Closing place next) at sees passes =
          let c = stage-control k u now files fits place (ap stage_place at) in
          let off : watches u pid ≡ false =
          unwatched-away u pid place
          (subst (λ p. place_of u p ≡ Some place) (owner-here w (Closing place next) place at refl sees)
          (files.one place c.0))
          (ap (λ z. is_away u.leaving z place) at ∙ eq-eqb place place refl) in
          false≢true (sym off ∙ on-before)
      out-not _ at sees passes = absurd sees

      like-closes : (y : Exchange) → IsLike t x y → next_call_of u ≡ Some y.call
          → (y.reply ≡ reply.Fail Noent) × ClosesIt u pid
      like-closes y like called =
          let g = like-goes w x y refl refl like called in
          let it : GoesToIt y.call = g.1 in
          (g.0, next-closes k u now reached pid it.number it.held it.there it.of on-before y.call called it.goes)

      told-off : watches v pid ≡ false
      told-off = from (turned x w.is)
        where
          from : Turn t x → watches v pid ≡ false
          from (goes_out sees passes stay) = absurd (out-not t.stage refl sees passes)
          from (goes_on y like called comes) =
              let both = like-closes y like called in
              let c : ClosesIt u pid = both.1 in
              let then : ordinary v ≡ fed u ended =
              ap ordinary (pushed x w.is) ∙ comes ∙ ap (fed u) both.0 in
              let traced_so : (ordinary v).traced ≡ u.traced = ap (λ (z : TrussState). z.traced) then ∙ c.same in
              off-at c.place (subst (λ (ts : List Traced). c.place < length ts) (sym traced_so) c.within)
              (ap (λ (ts : List Traced). (at_place ts c.place).pid) traced_so ∙ c.own)
              (ap (λ z. is_away (ordinary v).leaving z c.place) (ap (λ (z : TrussState). z.stage) then ∙ c.stage)
              ∙ eq-eqb c.place c.place refl)

    module _ (w : IsLeftIn k pid s before e) where
      abbrev r : ReadsFile k pid file.Lstatus now e
      r = w.reads

      leaving : t.leaving ≡ true
      leaving = interrupted-leaves w.interrupted

      -- the file that is read
      its-file : (owner number : ℕ) (f : File) (mode : Mode) → IsFileOf k now owner number f mode → number ≡ r.handle
          → (f ≡ file.Lstatus) × (owner ≡ pid)
      its-file owner number f mode its is =
          let held_so : held_by k owner 0 f mode ≡ r.held =
          same_Some (held_by k owner 0 f mode) r.held
          (sym its.is ∙ ap (λ m. handle_of now.opens k m) is ∙ r.there) in
          (ap (λ (h : Held). h.file) held_so ∙ r.file, ap (λ (h : Held). h.pid) held_so ∙ r.of)

      reads-off : (bytes : List ℕ) → next_call_of u ≡ Some (call.Read r.handle r.from r.len)
          → ordinary v ≡ fed u (reply.Bytes bytes) → watches v pid ≡ false
      reads-off bytes called then =
          let stands : Stands u.traced u.leaving u.stage = (let f : HasFiles k u now = files in f.stands) in
          by (next-reads u r.handle r.from r.len leaving stands.leaves called)
        where
          by : ReadsLeaving u r.handle u.stage → watches v pid ≡ false
          by (left.text place l at len stage is) =
              let f = its-file _ _ file.Mem _ (memory-read k u now files fits place l at len stage) is in
              absurd (clash f.0)
            where
              clash : file.Mem ≡ file.Lstatus → ⊥
              clash is_so = cc
          by (left.lwps stage is) =
              let f = its-file _ _ file.Lstatus _ (lwps-read k u now files fits stage) is in
              let within : 0 < length u.traced = subst (Fits u.traced) stage fits in
              let a : IsAway u (ordinary v) =
              subst (IsAway u) (sym then) (lwps-away u leaving within bytes stage) in
              off-at 0 a.within (a.pid ∙ f.1) a.away

      record ReadsSo (y : Exchange) : Type 0 where
        bytes : List ℕ
        called : y.call ≡ call.Read r.handle r.from r.len
        got : y.reply ≡ reply.Bytes bytes

      like-reads : (a y : Exchange) → a.call ≡ call.Read r.handle r.from r.len → a.reply ≡ reply.Bytes r.bytes
          → IsLike t a y → ReadsSo y
      like-reads a y made got (same unsent none_own) = record { bytes = r.bytes; called = made; got = got }
      like-reads a y made got (in_place stands) =
          absurd (false≢true (ap sends (sym made) ∙ (stands-sends stands).0))
      like-reads a y made got (refused {c = c} sees may is) =
          absurd (false≢true (ap sends (sym made) ∙ sees-sends t t.stage c sees))
      like-reads a y made got (own_fault tells) = record { bytes = []; called = made; got = refl }

      abbrev read_so : Exchange
      read_so = record { call = call.Read r.handle r.from r.len; reply = reply.Bytes r.bytes }

      from : Turn t read_so → watches v pid ≡ false
      from (goes_out sees passes stay) = absurd (false≢true (sees-sends t t.stage read_so.call sees))
      from (goes_on y like called comes) =
          let y_reads = like-reads read_so y refl refl like in
          reads-off y_reads.bytes (called ∙ ap (λ c. Some c) y_reads.called)
          (ap ordinary (pushed read_so r.is) ∙ comes ∙ ap (fed u) y_reads.got)

      left-off : watches v pid ≡ false
      left-off = from (turned read_so r.is)

    -- Where truss lets a process go that it watched, it watches it no more.
    pub goes-off : LetsGoIn k pid s before e → watches v pid ≡ false
    goes-off (told_end w) = told-off w
    goes-off (leaves_it w) = left-off w
