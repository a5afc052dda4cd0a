use Rattle.std.proofs.Common.{◌≡◌, ◌≢◌, ◌⊎◌, ◌<◌, ◌≤◌, ◌+◌, ◌-◌, ◌++◌, ℕ, true, false, Option, Some, None, List, [], ◌∷◌, length, refl, sym, subst, ap, ◌∙◌, arith, inl, inr}
use Rattle.std.proofs.lemmas.Bool.{cases_eq, cases_lt, eq-eqb, false≢true}
use Rattle.std.proofs.lemmas.List.Edits.{get_or-remove_above, get_or-remove_below, length-remove}
use Rattle.std.proofs.lemmas.Option.{same_Some}
use Rattle.std.specs.List.{remove}
use Rattle.pr_line.specs.declared.options.Options.{Options}
use Rattle.pr_model.specs.Calls.{answer_to}
use Rattle.pr_model.specs.Legal.{state_after}
use Rattle.pr_model.specs.Replies.{number_of}
use Rattle.pr_model.specs.State.{TracedState, live_process}
use Rattle.pr_model.specs.declared.calls.Call.{Call}
use Rattle.pr_model.specs.declared.calls.Call.TheVariants as call
use Rattle.pr_model.specs.declared.calls.File.{File}
use Rattle.pr_model.specs.declared.calls.File.TheVariants as file
use Rattle.pr_model.specs.declared.calls.Mode.TheVariants.{Read, WriteExcl}
use Rattle.pr_model.specs.declared.calls.Reply.{Reply}
use Rattle.pr_model.specs.declared.events.Entry.{Entry}
use Rattle.pr_num.specs.Control.{fork_mode}
use Rattle.pr_num.specs.Limits.{read_limit}
use Rattle.pr_num.specs.declared.messages.Message.TheVariants as message
use Rattle.pr_rec.specs.declared.lwps.LwpStatus.{LwpStatus}
use Rattle.pr_truss.specs.Feeding.{fed}
use Rattle.pr_truss.specs.Messages.{message_call}
use Rattle.pr_truss.specs.NextCalls.{call_of, next_call_of, read_record, run_call}
use Rattle.pr_truss.specs.Replies.{answer_of}
use Rattle.pr_truss.specs.Trusses.{TrussState, nobody, traced_at}
use Rattle.pr_truss.specs.declared.processes.Traced.{Traced}
use Rattle.pr_truss.specs.declared.replies.Answer.TheVariants.{Gone}
use Rattle.pr_truss.specs.declared.stages.AfterClosing.{AfterClosing}
use Rattle.pr_truss.specs.declared.stages.Stage.{Stage}
use Rattle.pr_truss.specs.declared.stages.Stage.TheVariants.{ReadingStatus, ReadingText, Running, Closing, Unfollowing, ReadingLwps}
use Rattle.pr_truss_laws.proofs.Files.HeldLemmas.{Fits, at_place}
use Rattle.pr_truss_laws.proofs.Files.OwnLemmas.{Owns}
use Rattle.pr_truss_laws.specs.Exchanges.{Exchange, exchange_of, exchanges, truss_at}
use Rattle.pr_truss_laws.specs.Runs.{IsTrussRun}
use Rattle.pr_report_laws.proofs.Files.FileLaws.{HasFiles, IsFileOf}
use Rattle.pr_report_laws.proofs.Files.FileSteps.{MakesNext}
use Rattle.pr_report_laws.proofs.Files.FileUses.{lwps-read, memory-read, stage-control, stage_place, standing, status-read}
use Rattle.pr_report_laws.proofs.Machine.GoneLaws.{GivesBytes, is_read, lwps-given, read-gone, run-gone, unfollow-gone}
use Rattle.pr_report_laws.proofs.Replies.StageChanges.{Asks, Ends, How, IsAt, IsFree, StaysAt, at, away_before, free, gone, is_new, less, looked, runs, status, text, unfollows}
use Rattle.pr_report_laws.proofs.Invariant.StandLemmas.{Stands}
use Rattle.pr_report_laws.proofs.Files.WatchHistories.{IsAnswered, Reaches, exchange-answered, run-front, run-last, run-next, run-reaches, truss_at-push}
use Rattle.pr_report_laws.proofs.Memory.WatchMemory.{HasInterrupt, reached-comes, run-recalls}
use Rattle.pr_report_laws.proofs.Replies.WatchedPlaces.{IsWatched, place-watched, watched-place}
use Rattle.pr_report_laws.specs.Attachments.{IsLetGo, ended, left}
use Rattle.pr_report_laws.specs.Watching.{is_away, watches, with_exchange}

-- Truss lets a process go in no other way than these: it has ended; or truss was interrupted, and looked at its lwps.

-- ---- where a process stands that was watched

module _ (t : TrussState) (r : Reply) (u : TrussState) (pid place : ℕ) (w : IsWatched t pid place) where
  abbrev After : Type 0
  After = ((p : ℕ) × IsWatched u pid p) ⊎ Ends t r place

  stays : StaysAt t u place → is_away u.leaving u.stage place ≡ false → After
  stays st here =
      inl (
        place,
        record {
          within = st.there w.within;
          of = st.pid w.within ∙ w.of;
          attached = st.attached w.within ∙ w.attached;
          here = here;
        },
      )

  stays-at : (q : ℕ) → IsAt t r q u → After
  stays-at q a = elim (cases_eq place q) [
    | inl same ↦ inr (subst (Ends t r) (sym same) a.ends)
    | inr apart ↦ stays (a.others place apart) (a.alone place apart)
  ]

  stands-at : (p : ℕ) → p < length u.traced → at_place u.traced p ≡ at_place t.traced place → IsFree u → After
  stands-at p within same f =
      let attached : (traced_at u p).attached ≡ true = ap (λ (x : Traced). x.attached) same ∙ w.attached in
      inl (
        p,
        record {
          within = within;
          of = ap (λ (x : Traced). x.pid) same ∙ w.of;
          attached = attached;
          here = f.here p attached;
        },
      )

  stays-less : (q : ℕ) (next : AfterClosing) → t.stage ≡ Closing q next → q < length t.traced
      → u.traced ≡ remove t.traced q → IsFree u → After
  stays-less q next is there removed f = elim (cases_lt place q) [
    | inl below ↦ stands-at place (inside place (omega (arith, length-remove t.traced q there))) (now place
        ∙ get_or-remove_below t.traced q nobody place below there) f
    | inr above ↦
        let rest : q ≤ place - 1 = omega (arith, apart) in
        let one : place - 1 + 1 ≡ place = omega (arith, apart) in
        stands-at (place - 1) (inside (place - 1) (omega (arith, length-remove t.traced q there, w.within, apart)))
        (now (place - 1) ∙ get_or-remove_above t.traced q nobody (place - 1) rest there
        ∙ ap (at_place t.traced) one) f
  ]
    where
      apart : q ≢ place
      apart same = false≢true (sym w.here ∙ ap (λ x. is_away t.leaving x place) is ∙ eq-eqb q place same)

      inside : (p : ℕ) → p < length (remove t.traced q) → p < length u.traced
      inside p within = subst (λ (ts : List Traced). p < length ts) (sym removed) within

      now : (p : ℕ) → at_place u.traced p ≡ at_place (remove t.traced q) p
      now p = ap (λ (ts : List Traced). at_place ts p) removed

  pub watched-after : Fits t.traced t.stage → How t r u → After
  watched-after fits (free places f begins) =
      stays (places place) (f.here place ((places place).attached w.within ∙ w.attached))
  watched-after fits (at q a) = stays-at q a
  watched-after fits (less q next is removed f) =
      let there : Fits t.traced (Closing q next) = subst (Fits t.traced) is fits in
      stays-less q next is there.0 removed f

-- ---- what truss asks of the process

-- the call of a stage
pub stage-called : (t : TrussState) (x : Exchange) (stage : Stage) (c : Call) → next_call_of t ≡ Some x.call
    → t.stage ≡ stage → call_of t stage ≡ Some c → x.call ≡ c
unfolding next_call_of
stage-called t x stage c next is call = same_Some x.call c (sym next ∙ ap (call_of t) is ∙ call)

module _ (k : ℕ) (t : TrussState) (s : TracedState) (x : Exchange) (next : next_call_of t ≡ Some x.call)
    (g : Reaches k t s) (y : IsAnswered k s x) where
  fits : Fits t.traced t.stage
  fits = let owns : Owns k t s = g.owns in owns.fits

  answers : (c : Call) → x.call ≡ c → answer_to s k c ≡ Some y.answer
  answers c is = subst (λ d. answer_to s k d ≡ Some y.answer) is y.is

  read-over : (pid number from len : ℕ) (f : File) → IsFileOf k s pid number f Read → f ≡ file.Status ⊎ f ≡ file.Mem
      → x.call ≡ call.Read number from len → answer_of x.reply ≡ Gone → live_process s.system pid ≡ None
  read-over pid number from len f its which is told =
      read-gone s k number
      (record { controller = k; pid = pid; lwp = 0; file = f; mode = Read }) its.is y.answer from len f refl
      (known which) (answers (call.Read number from len) is) (ap answer_of y.reply ∙ told)
    where
      known : f ≡ file.Status ⊎ f ≡ file.Mem → is_read f ≡ true
      known (inl same) = ap is_read same
      known (inr same) = ap is_read same

  status-over : (place : ℕ) → t.stage ≡ ReadingStatus place → answer_of x.reply ≡ Gone
      → live_process s.system (traced_at t place).pid ≡ None
  unfolding call_of
  status-over place is told =
      read-over (traced_at t place).pid (number_of (traced_at t place).status) 0 read_limit file.Status
      (status-read k t s g.files fits place is) (inl refl)
      (stage-called t x (ReadingStatus place) (read_record (traced_at t place).status) next is refl) told

  text-over : (place : ℕ) (l : LwpStatus) (from len : ℕ) → t.stage ≡ ReadingText place l from len
      → answer_of x.reply ≡ Gone → live_process s.system (traced_at t place).pid ≡ None
  unfolding call_of
  text-over place l from len is told =
      read-over (traced_at t place).pid (number_of (traced_at t place).memory) from len file.Mem
      (memory-read k t s g.files fits place l from len is) (inr refl)
      (stage-called t x (ReadingText place l from len)
      (call.Read (number_of (traced_at t place).memory) from len) next is refl) told

  control-at : (place : ℕ) (stage : Stage) → t.stage ≡ stage → stage_place stage ≡ Some place
      → IsFileOf k s (traced_at t place).pid (traced_at t place).control file.Ctl WriteExcl
  control-at place stage is named = let c = stage-control k t s g.files fits place (ap stage_place is ∙ named) in c.1

  run-over : (place : ℕ) → t.stage ≡ Running place → answer_of x.reply ≡ Gone
      → live_process s.system (traced_at t place).pid ≡ None
  unfolding call_of
  run-over place is told =
      let c = control-at place (Running place) is refl in
      run-gone s k (traced_at t place).control _ c.is refl y.answer
      (answers (run_call (traced_at t place).control)
      (stage-called t x (Running place) (run_call (traced_at t place).control) next is refl))
      (ap answer_of y.reply ∙ told)

  unfollow-over : t.stage ≡ Unfollowing → answer_of x.reply ≡ Gone → live_process s.system (traced_at t 0).pid ≡ None
  unfolding call_of
  unfollow-over is told =
      let c = control-at 0 Unfollowing is refl in
      let unset : Call = message_call (traced_at t 0).control (message.Unset fork_mode) in
      unfollow-gone s k (traced_at t 0).control _ c.is refl y.answer
      (answers unset (stage-called t x Unfollowing unset next is refl)) (ap answer_of y.reply ∙ told)

  -- a process that is gone has ended
  asked-over : (place : ℕ) → Asks t.stage place → answer_of x.reply ≡ Gone
      → live_process s.system (traced_at t place).pid ≡ None
  asked-over place (status is) told = status-over place is told
  asked-over place (text l from len is) told = text-over place l from len is told
  asked-over place (runs is) told = run-over place is told
  asked-over place (unfollows is first) told =
      subst (λ p. live_process s.system (traced_at t p).pid ≡ None) (sym first) (unfollow-over is told)

  -- what the look at its lwps gives
  lwps-known : t.stage ≡ ReadingLwps → (live_process s.system (traced_at t 0).pid ≡ None) ⊎ GivesBytes x.reply
  unfolding call_of
  lwps-known is =
      let f = lwps-read k t s g.files fits is in
      let number : ℕ = number_of (traced_at t 0).lstatus in
      let given =
      lwps-given s k number
      (record {
        controller = k;
        pid =
            (traced_at t 0).pid;
        lwp =
            0;
        file =
            file.Lstatus;
        mode =
            Read;
      }) f.is y.answer refl
      (answers (call.Read number 0 read_limit)
      (stage-called t x ReadingLwps
      (read_record (traced_at t 0).lstatus) next is refl)) in
      elim given [ inl none ↦ inl none | inr b ↦ inr (record { bytes = b.bytes; is = sym y.reply ∙ b.is }) ]

-- ---- along a history

module _ (n k : ℕ) (o : Options) (pid : ℕ) (s : TracedState) (before : List Entry) (e : Entry)
    (run : IsTrussRun n k o s (before ++ e ∷ [])) (on : watches (truss_at k o before) pid ≡ true)
    (off : watches (truss_at k o (before ++ e ∷ [])) pid ≡ false) where
  t : TrussState
  t = truss_at k o before

  now : TracedState
  now = state_after s before

  reached : Reaches k t now
  unfolding t now
  reached = run-reaches n k o s before (run-front n k o s before e run)

  later-reached : Reaches k (truss_at k o (before ++ e ∷ [])) (state_after s (before ++ e ∷ []))
  later-reached = run-reaches n k o s (before ++ e ∷ []) run

  -- the exchange of the last entry
  module _ (x : Exchange) (its : exchange_of k e ≡ Some x) where
    next-is : next_call_of t ≡ Some x.call
    unfolding t
    next-is = subst (MakesNext (truss_at k o before)) its (run-next n k o s before e run)

    answered : IsAnswered k now x
    unfolding now
    answered = exchange-answered n k (state_after s before) e x (run-last n k o s before e run) its

    over : (place : ℕ) → (traced_at t place).pid ≡ pid → live_process now.system (traced_at t place).pid ≡ None
        → IsLetGo k pid s before e
    unfolding now
    over place of none = ended (subst (λ p. live_process (state_after s before).system p ≡ None) of none)

    left-it : t.stage ≡ ReadingLwps → (traced_at t 0).pid ≡ pid → GivesBytes x.reply → IsLetGo k pid s before e
    unfolding t now call_of
    left-it is of b =
        let g = reached in
        let number : ℕ = number_of (traced_at t 0).lstatus in
        let f = lwps-read k t now g.files (fits k t now x next-is g answered) is in
        let called : x.call ≡ call.Read number 0 read_limit =
        stage-called t x ReadingLwps (call.Read number 0 read_limit) next-is is refl in
        let stands : Stands t.traced t.leaving ReadingLwps = standing k t now ReadingLwps g.files is in
        let m = run-recalls n k o s before (run-front n k o s before e run) in
        let i : HasInterrupt (exchanges k before) = m.leaving stands.leaves in
        left (record { before = i.before; call = i.call; later = i.later; is = i.is })
        (record {
          handle = number;
          from = 0;
          len = read_limit;
          bytes = b.bytes;
          held = record { controller = k; pid = (traced_at t 0).pid; lwp = 0; file = file.Lstatus; mode = Read };
          is =
              its ∙ ap (λ (c : Call). Some (record { call = c; reply = x.reply })) called
              ∙ ap (λ (r : Reply). Some (record { call = call.Read number 0 read_limit; reply = r })) b.is;
          there = f.is;
          of = of;
          file = refl;
        })

    looked-at : t.stage ≡ ReadingLwps → (traced_at t 0).pid ≡ pid → IsLetGo k pid s before e
    looked-at is of =
        elim (lwps-known k t now x next-is reached answered is) [ inl none ↦ over 0 of none | inr b ↦ left-it is of b ]

    ends-so : (place : ℕ) → IsWatched t pid place → Ends t x.reply place → IsLetGo k pid s before e
    ends-so place w (away_before away) = absurd (false≢true (sym w.here ∙ away))
    ends-so place w (is_new last) = absurd (nowhere w.within last)
      where
        nowhere : place < length t.traced → place ≡ length t.traced → ⊥
        nowhere within same = omega arith
    ends-so place w (gone told asks) = over place w.of (asked-over k t now x next-is reached answered place asks told)
    ends-so place w (looked is first) = looked-at is (subst (λ p. (traced_at t p).pid ≡ pid) first w.of)

    later-is : truss_at k o (before ++ e ∷ []) ≡ fed t x.reply
    unfolding t
    later-is = truss_at-push k o before e ∙ ap (with_exchange (truss_at k o before)) its

    let-go : IsLetGo k pid s before e
    unfolding t
    let-go =
        let g = reached in
        let owns : Owns k t now = g.owns in
        let after = later-reached in
        let files : HasFiles k (truss_at k o (before ++ e ∷ [])) _ = after.files in
        let w = watched-place t pid on in
        let c = reached-comes k t now x.reply g in
        elim (watched-after t x.reply (fed t x.reply) pid w.0 w.1 owns.fits c.how) [
          | inl v ↦ absurd (false≢true (sym off
              ∙ place-watched (truss_at k o (before ++ e ∷ [])) pid v.0 files.one
              (subst (λ (u : TrussState). IsWatched u pid v.0) (sym later-is) v.1)))
          | inr ends ↦ ends-so w.0 w.1 ends
        ]

  stays-on : exchange_of k e ≡ None → ⊥
  stays-on none =
      false≢true (sym off
      ∙ subst (λ (u : TrussState). watches u pid ≡ true) (sym (truss_at-push k o before e
      ∙ ap (with_exchange (truss_at k o before)) none)) on)

  -- Why an entry makes truss watch a process no more.
  pub watched-let : IsLetGo k pid s before e
  watched-let = by (exchange_of k e) refl
    where
      by : (x : Option Exchange) → exchange_of k e ≡ x → IsLetGo k pid s before e
      by None none = absurd (stays-on none)
      by (Some x) its = let-go x its
