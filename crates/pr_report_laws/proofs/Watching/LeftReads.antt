use Rattle.std.proofs.Common.{◌≡◌, ◌<◌, ◌++◌, ℕ, true, false, cond, Option, Some, List, [], ◌∷◌, length, refl, sym, subst, ap, ◌∙◌, arith}
use Rattle.std.proofs.lemmas.Bool.{false≢true}
use Rattle.std.proofs.lemmas.Option.{same_Some}
use Rattle.std.specs.List.{slice_get}
use Rattle.pr_line.specs.declared.options.Options.{Options}
use Rattle.pr_model.specs.Handles.{handle_of}
use Rattle.pr_model.specs.Legal.{state_after}
use Rattle.pr_model.specs.Replies.{bytes_in, number_of}
use Rattle.pr_model.specs.State.{TracedState}
use Rattle.pr_model.specs.declared.calls.Call.TheVariants as call
use Rattle.pr_model.specs.declared.calls.File.{File}
use Rattle.pr_model.specs.declared.calls.File.TheVariants as file
use Rattle.pr_model.specs.declared.calls.Reply.TheVariants as reply
use Rattle.pr_model.specs.declared.events.Entry.{Entry}
use Rattle.pr_model.specs.declared.handles.Held.{Held}
use Rattle.pr_rec.specs.declared.lwps.LwpStatus.{LwpStatus}
use Rattle.pr_truss.specs.Feeding.{fed, with_reply}
use Rattle.pr_truss.specs.NextCalls.{call_of, child_call, freeing_call, next_call_of}
use Rattle.pr_truss.specs.Records.{event_stops}
use Rattle.pr_truss.specs.Replies.{answer_of}
use Rattle.pr_truss.specs.Stops.{with_lwps_answered, with_stop_over, with_stop_read}
use Rattle.pr_truss.specs.Trusses.{TrussState, traced_at, with_stage}
use Rattle.pr_truss.specs.declared.stages.AfterClosing.TheVariants.{GoOn}
use Rattle.pr_truss.specs.declared.stages.ChildStep.{ChildStep}
use Rattle.pr_truss.specs.declared.stages.ChildStep.TheVariants as child
use Rattle.pr_truss.specs.declared.stages.FreeingStep.{FreeingStep}
use Rattle.pr_truss.specs.declared.stages.FreeingStep.TheVariants as freeing
use Rattle.pr_truss.specs.declared.stages.Stage.{Stage}
use Rattle.pr_truss.specs.declared.stages.Stage.TheVariants.{Spawning, OpeningControl, Opening, Polling, ReadingStatus, ReadingText, OpeningChildControl, OpeningChild, Running, Closing, Unfollowing, ReadingLwps, FreeingChild, Finished}
use Rattle.pr_truss_laws.proofs.Files.HeldLemmas.{Fits}
use Rattle.pr_truss_laws.proofs.Soon.LookLemmas.{Alike, stop-read}
use Rattle.pr_truss_laws.proofs.Files.OwnLemmas.{Owns}
use Rattle.pr_truss_laws.specs.Exchanges.{truss_at}
use Rattle.pr_truss_laws.specs.Runs.{IsTrussRun}
use Rattle.pr_report_laws.proofs.Files.FileLaws.{HasFiles, IsFileOf}
use Rattle.pr_report_laws.proofs.Files.FileSteps.{MakesNext}
use Rattle.pr_report_laws.proofs.Files.FileUses.{lwps-read, memory-read}
use Rattle.pr_report_laws.proofs.Files.WatchHistories.{Reaches, run-front, run-next, run-reaches, truss_at-push}
use Rattle.pr_report_laws.proofs.Invariant.StandLemmas.{Leaves, Stands}
use Rattle.pr_report_laws.proofs.Replies.Places.{unwatched-away}
use Rattle.pr_report_laws.proofs.Watching.LeavingOn.{interrupted-leaves}
use Rattle.pr_report_laws.specs.Attachments.{ReadsFile}
use Rattle.pr_report_laws.specs.Grips.{IsLeftIn}
use Rattle.pr_report_laws.specs.Watching.{is_away, place_of, watches, with_exchange}

-- Where truss, which was interrupted, reads the statuses of the lwps of a process, it does not watch it any more.

-- ---- the stage

pub child-reads : (u : _) (now : ChildStep) (handle from len : ℕ) → child_call u now ≡ call.Read handle from len → ⊥
unfolding child_call
child-reads u child.SetRelease handle from len is = cc
child-reads u _ handle from len is = cc

pub freeing-reads : (pid : ℕ) (now : FreeingStep) (handle from len : ℕ)
    → freeing_call pid now ≡ call.Read handle from len → ⊥
unfolding freeing_call
freeing-reads pid freeing.OpenControl handle from len is = cc
freeing-reads pid _ handle from len is = cc

-- what a truss that leaves reads
pub data ReadsLeaving (t : TrussState) (handle : ℕ) (stage : Stage) : Type 0 where
  text : (place : ℕ) (l : LwpStatus) (at len : ℕ) → stage ≡ ReadingText place l at len
      → number_of (traced_at t place).memory ≡ handle → ReadsLeaving t handle stage
  lwps : stage ≡ ReadingLwps → number_of (traced_at t 0).lstatus ≡ handle → ReadsLeaving t handle stage

module _ (t : TrussState) (handle from len : ℕ) (on : t.leaving ≡ true) where
  not-left : {A : Type 0} → t.leaving ≡ false → A
  not-left off = absurd (false≢true (sym off ∙ on))

  same-handle : {a b c : ℕ} → Some (call.Read a b c) ≡ Some (call.Read handle from len) → a ≡ handle
  same-handle is = cc

  leaving-reads : (stage : Stage) → Leaves t.leaving stage → call_of t stage ≡ Some (call.Read handle from len)
      → ReadsLeaving t handle stage
  unfolding call_of
  leaving-reads (ReadingText place l at size) w is = text place l at size refl (same-handle is)
  leaving-reads ReadingLwps w is = lwps refl (same-handle is)
  leaving-reads (Spawning program) w is = not-left w
  leaving-reads (OpeningControl pid) w is = not-left w
  leaving-reads (Opening place now) w is = not-left w
  leaving-reads Polling w is = not-left w
  leaving-reads (ReadingStatus place) w is = not-left w
  leaving-reads (OpeningChildControl parent pid) w is = not-left w
  leaving-reads (OpeningChild parent place now) w is = not-left w
  leaving-reads (Running place) w is = not-left w
  leaving-reads (Closing place next) w is = cc
  leaving-reads Unfollowing w is = cc
  leaving-reads (FreeingChild pid now) w is =
      absurd (freeing-reads pid now handle from len (same_Some _ _ is))
  leaving-reads Finished w is = cc

  pub next-reads : Leaves t.leaving t.stage → next_call_of t ≡ Some (call.Read handle from len)
      → ReadsLeaving t handle t.stage
  unfolding next_call_of
  next-reads w is = leaving-reads t.stage w is

-- ---- after the read

-- the first process is left
pub record IsAway (t v : TrussState) : Type 0 where
  pub within : 0 < length v.traced
  pub pid : (traced_at v 0).pid ≡ (traced_at t 0).pid
  pub away : is_away v.leaving v.stage 0 ≡ true

module _ (t : TrussState) (on : t.leaving ≡ true) (some : 0 < length t.traced) where
  alike-away : (u : TrussState) (stage : Stage) → Alike t u → is_away u.leaving stage 0 ≡ true
      → IsAway t (with_stage u stage)
  alike-away u stage a away = record {
    within = omega (arith, some, a.count);
    pid = (a.files 0).pid;
    away = away;
  }

  alike-leaves : (u : TrussState) → Alike t u → u.leaving ≡ true
  alike-leaves u a = a.leaving ∙ on

  over-away : (u : TrussState) → Alike t u → IsAway t (with_stop_over u 0)
  unfolding with_stop_over
  over-away u a =
      subst (λ b. IsAway t (cond b (with_stage u (Closing 0 GoOn)) (with_stage u (Running 0))))
      (sym (alike-leaves u a)) (alike-away u (Closing 0 GoOn) a refl)

  child-away : (u : TrussState) (c : ℕ) → Alike t u
      → IsAway t (with_stage u (cond u.leaving (FreeingChild c freeing.OpenControl) (OpeningChildControl 0 c)))
  child-away u c a =
      subst (λ b. IsAway t (with_stage u (cond b (FreeingChild c freeing.OpenControl) (OpeningChildControl 0 c))))
      (sym (alike-leaves u a)) (alike-away u (FreeingChild c freeing.OpenControl) a refl)

  text-away : (u : TrussState) (l : LwpStatus) (from len : ℕ) → Alike t u
      → IsAway t (with_stage u (ReadingText 0 l from len))
  text-away u l from len a =
      alike-away u (ReadingText 0 l from len) a
      (ap (λ b. is_away b (ReadingText 0 l from len) 0) (alike-leaves u a))

  read-away : (o : Option LwpStatus) → IsAway t (with_stop_read t 0 o)
  read-away o = stop-read (IsAway t) t 0 over-away child-away text-away some o

  pub lwps-away : (bytes : List ℕ) → t.stage ≡ ReadingLwps → IsAway t (fed t (reply.Bytes bytes))
  unfolding fed with_reply with_lwps_answered answer_of
  lwps-away bytes is =
      subst (IsAway t) (sym (ap (with_reply t (reply.Bytes bytes)) is))
      (read-away (slice_get (event_stops (bytes_in (reply.Bytes bytes))) 0))

-- ---- the law

module _ (n k : ℕ) (o : Options) (pid : ℕ) (s : TracedState) (before : List Entry) (e : Entry)
    (run : IsTrussRun n k o s (before ++ e ∷ [])) (w : IsLeftIn k pid s before e) where
  abbrev t : TrussState
  t = truss_at k o before

  abbrev now : TracedState
  now = state_after s before

  reached : Reaches k t now
  reached = run-reaches n k o s before (run-front n k o s before e run)

  on : t.leaving ≡ true
  on = interrupted-leaves n k o s before (run-front n k o s before e run) w.interrupted

  abbrev r : ReadsFile k pid file.Lstatus now e
  r = w.reads

  next : next_call_of t ≡ Some (call.Read r.handle r.from r.len)
  next = subst (MakesNext t) r.is (run-next n k o s before e run)

  fits : Fits t.traced t.stage
  fits = let g = reached in let owns : Owns k t now = g.owns in owns.fits

  after-is : truss_at k o (before ++ e ∷ []) ≡ fed t (reply.Bytes r.bytes)
  after-is = truss_at-push k o before e ∙ ap (with_exchange t) r.is

  -- the file that is read
  its-file : (of number : ℕ) (f : File) (mode : _) → IsFileOf k now of number f mode → number ≡ r.handle
      → (f ≡ file.Lstatus) × (of ≡ pid)
  its-file of number f mode its same =
      let held : Held = record { controller = k; pid = of; lwp = 0; file = f; mode = mode } in
      let is : held ≡ r.held =
      same_Some held r.held (sym its.is ∙ ap (λ m. handle_of now.opens k m) same ∙ r.there) in
      (ap (λ (h : Held). h.file) is ∙ r.file, ap (λ (h : Held). h.pid) is ∙ r.of)

  away-off : IsAway t (fed t (reply.Bytes r.bytes)) → (traced_at t 0).pid ≡ pid
      → watches (truss_at k o (before ++ e ∷ [])) pid ≡ false
  away-off a of =
      let v : TrussState = truss_at k o (before ++ e ∷ []) in
      let b : IsAway t v = subst (IsAway t) (sym after-is) a in
      let later : Reaches k v (state_after s (before ++ e ∷ [])) = run-reaches n k o s (before ++ e ∷ []) run in
      let files : HasFiles k v (state_after s (before ++ e ∷ [])) = later.files in
      unwatched-away v pid 0 (subst (λ p. place_of v p ≡ Some 0) (b.pid ∙ of) (files.one 0 b.within)) b.away

  -- it reads them of its first process, as it leaves that
  pub left-looks : (t.stage ≡ ReadingLwps) × ((traced_at t 0).pid ≡ pid)
  left-looks =
      let g = reached in
      let files : HasFiles k t now = g.files in
      let stands : Stands t.traced t.leaving t.stage = files.stands in
      by files (next-reads t r.handle r.from r.len on stands.leaves next)
    where
      by : HasFiles k t now → ReadsLeaving t r.handle t.stage → (t.stage ≡ ReadingLwps) × ((traced_at t 0).pid ≡ pid)
      by files (text place l at len stage same) =
          let f = its-file _ _ file.Mem _ (memory-read k t now files fits place l at len stage) same in
          absurd (clash f.0)
        where
          clash : file.Mem ≡ file.Lstatus → ⊥
          clash is = cc
      by files (lwps stage same) =
          let f = its-file _ _ file.Lstatus _ (lwps-read k t now files fits stage) same in (stage, f.1)

  pub left-off : watches (truss_at k o (before ++ e ∷ [])) pid ≡ false
  left-off =
      let looks = left-looks in
      let within : 0 < length t.traced = subst (Fits t.traced) looks.0 fits in
      away-off (lwps-away t on within r.bytes looks.0) looks.1
