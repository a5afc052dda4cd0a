use Rattle.std.proofs.Common.{◌≡◌, ◌≢◌, ◌==◌, ◌<◌, ℕ, Bool, true, false, cond, Option, Some, None, List, length, refl, sym, subst, ap, ◌∙◌}
use Rattle.std.proofs.lemmas.Bool.{eq-eqb, false≢true}
use Rattle.std.proofs.lemmas.Option.{none-some, same_Some}
use Rattle.std.specs.List.{slice_get}
use Rattle.std.specs.Option.{option_and_then}
use Rattle.pr_line.specs.declared.options.Options.{Options}
use Rattle.pr_model.specs.Calls.{Answer}
use Rattle.pr_model.specs.Handles.{handle_of}
use Rattle.pr_model.specs.Legal.{IsLegalEntry, after, after_call}
use Rattle.pr_model.specs.Replies.{bytes_in, number_of}
use Rattle.pr_model.specs.State.{TracedState, TracedSystem, live_process}
use Rattle.pr_model.specs.declared.calls.Call.{Call}
use Rattle.pr_model.specs.declared.calls.Call.TheVariants as call
use Rattle.pr_model.specs.declared.calls.File.{File}
use Rattle.pr_model.specs.declared.calls.File.TheVariants as file
use Rattle.pr_model.specs.declared.calls.Mode.{Mode}
use Rattle.pr_model.specs.declared.calls.Reply.{Reply}
use Rattle.pr_model.specs.declared.calls.Reply.TheVariants as reply
use Rattle.pr_model.specs.declared.events.Act.{Act}
use Rattle.pr_model.specs.declared.events.Act.TheVariants as act
use Rattle.pr_model.specs.declared.events.Actor.{Actor}
use Rattle.pr_model.specs.declared.events.Actor.TheVariants.{Controller, Lwp, Clock}
use Rattle.pr_model.specs.declared.events.Entry.{Entry}
use Rattle.pr_model.specs.declared.handles.Held.{Held}
use Rattle.pr_rec.specs.declared.lwps.LwpStatus.{LwpStatus}
use Rattle.pr_truss.specs.Feeding.{fed, with_reply}
use Rattle.pr_truss.specs.NextCalls.{call_of, child_call, freeing_call, next_call_of, opening_call}
use Rattle.pr_truss.specs.Openings.{learnt, step_after, with_step_answered, with_step_done}
use Rattle.pr_truss.specs.Records.{event_stops, status_lwp}
use Rattle.pr_truss.specs.Replies.{answer_of}
use Rattle.pr_truss.specs.Stops.{with_lwps_answered, with_status_answered, with_stop_read}
use Rattle.pr_truss.specs.Trusses.{TrussState, traced_at}
use Rattle.pr_truss.specs.declared.processes.Traced.{Traced}
use Rattle.pr_truss.specs.declared.stages.ChildStep.{ChildStep}
use Rattle.pr_truss.specs.declared.stages.ChildStep.TheVariants as child
use Rattle.pr_truss.specs.declared.stages.FreeingStep.{FreeingStep}
use Rattle.pr_truss.specs.declared.stages.FreeingStep.TheVariants as freeing
use Rattle.pr_truss.specs.declared.stages.OpeningStep.{OpeningStep}
use Rattle.pr_truss.specs.declared.stages.OpeningStep.TheVariants as opening
use Rattle.pr_truss.specs.declared.stages.Stage.{Stage}
use Rattle.pr_truss.specs.declared.stages.Stage.TheVariants.{Spawning, OpeningControl, Opening, Polling, ReadingStatus, ReadingText, OpeningChildControl, OpeningChild, Running, Closing, Unfollowing, ReadingLwps, FreeingChild, Finished}
use Rattle.pr_truss_laws.proofs.Files.HeldLemmas.{Fits}
use Rattle.pr_truss_laws.proofs.Files.OpensLemmas.{looking-stays, only_looks}
use Rattle.pr_truss_laws.proofs.Files.OwnLemmas.{Owns}
use Rattle.pr_truss_laws.specs.Exchanges.{Exchange, exchange_in, exchange_of}
use Rattle.pr_report_laws.proofs.Invariant.Tallies.{IsWhole, Tally}
use Rattle.pr_report_laws.proofs.Invariant.EntrySteps.{Lost}
use Rattle.pr_report_laws.proofs.Files.FileLaws.{HasFiles, IsFileOf}
use Rattle.pr_report_laws.proofs.Files.FileSteps.{MakesNext}
use Rattle.pr_report_laws.proofs.Files.FileUses.{lwps-read, memory-read, opening-read, standing, status-read}
use Rattle.pr_report_laws.proofs.Machine.GoneLaws.{is_read, read-lives}
use Rattle.pr_report_laws.proofs.Replies.OpeningCalls.{accounted-whole, files-order}
use Rattle.pr_report_laws.proofs.Replies.Orderly.{IsOrderly}
use Rattle.pr_report_laws.proofs.Replies.Places.{place-own, place-set}
use Rattle.pr_report_laws.proofs.Invariant.Standing.{Accounted, Position, Standing, apart, goes, has_event, has_read, lives, old_stops, over, stop_read}
use Rattle.pr_report_laws.proofs.Replies.StopsOver.{StopOver}
use Rattle.pr_report_laws.proofs.Replies.StopsRead.{stop_read-over}
use Rattle.pr_report_laws.proofs.Files.WatchHistories.{Reaches, exchange-answered}
use Rattle.pr_report_laws.specs.Attachments.{ReadsFile}
use Rattle.pr_report_laws.specs.Watching.{fed_by_entry, is_away, place_of, with_exchange}

-- Where a read of its status, or of the statuses of its lwps, gave truss bytes, nothing is missing of a process.

-- the files from which truss reads on what event a process stands
abbrev pub tells_event : File → Bool
tells_event file.Status = true
tells_event file.Lstatus = true
tells_event _ = false

tells-read : (f : File) → tells_event f ≡ true → is_read f ≡ true
tells-read file.Status tells = refl
tells-read file.Lstatus tells = refl
tells-read _ tells = absurd (false≢true tells)

-- ---- the stages in which truss reads

-- truss reads from this handle
pub data Reads (t : TrussState) (handle : ℕ) : Type 0 where
  status : (place : ℕ) → t.stage ≡ ReadingStatus place → number_of (traced_at t place).status ≡ handle → Reads t handle
  memory : (place : ℕ) (l : LwpStatus) (from len : ℕ) → t.stage ≡ ReadingText place l from len
      → number_of (traced_at t place).memory ≡ handle → Reads t handle
  old : (place : ℕ) → t.stage ≡ Opening place opening.ReadLwps → number_of (traced_at t place).lstatus ≡ handle
      → Reads t handle
  lwps : t.stage ≡ ReadingLwps → number_of (traced_at t 0).lstatus ≡ handle → Reads t handle

module _ (t : TrussState) (handle from len : ℕ) where
  abbrev Made : Option Call → Type 0
  Made c = c ≡ Some (call.Read handle from len)

  opening-reads : (place : ℕ) (step : OpeningStep) → t.stage ≡ Opening place step
      → Made (Some (opening_call t.options (traced_at t place) step)) → Reads t handle
  unfolding opening_call
  opening-reads place opening.ReadLwps at made = old place at cc
  opening-reads place _ at made = cc

  child-reads : (u : Traced) (step : ChildStep) → Made (Some (child_call u step)) → Reads t handle
  unfolding child_call
  child-reads u child.SetRelease made = cc
  child-reads u _ made = cc

  freeing-reads : (pid : ℕ) (step : FreeingStep) → Made (Some (freeing_call pid step)) → Reads t handle
  unfolding freeing_call
  freeing-reads pid freeing.OpenControl made = cc
  freeing-reads pid _ made = cc

  stage-reads : (stage : Stage) → t.stage ≡ stage → Made (call_of t stage) → Reads t handle
  unfolding call_of
  stage-reads (Spawning program) at made = cc
  stage-reads (OpeningControl of) at made = cc
  stage-reads (Opening place step) at made = opening-reads place step at made
  stage-reads Polling at made = cc
  stage-reads (ReadingStatus place) at made = status place at cc
  stage-reads (ReadingText place l address size) at made = memory place l address size at cc
  stage-reads (OpeningChildControl parent of) at made = cc
  stage-reads (OpeningChild parent place step) at made = child-reads (traced_at t place) step made
  stage-reads (Running place) at made = cc
  stage-reads (Closing place next) at made = cc
  stage-reads Unfollowing at made = cc
  stage-reads ReadingLwps at made = lwps at cc
  stage-reads (FreeingChild of step) at made = freeing-reads of step made
  stage-reads Finished at made = cc

  pub next-reads : Made (next_call_of t) → Reads t handle
  unfolding next_call_of
  next-reads made = stage-reads t.stage refl made

-- ---- what truss comes to

-- Truss has been told of a process that it has a place for: it has read the stop on which the process stands, or does
-- not watch it.
record IsTold (pid : ℕ) (u : TrussState) : Type 0 where
  place : ℕ
  at : place_of u pid ≡ Some place
  read : is_away u.leaving u.stage place ≡ false → has_read u.stage place ≡ true

module _ (k : ℕ) (t : TrussState) (s : TracedState) (files : HasFiles k t s) (fits : Fits t.traced t.stage)
    (pid handle : ℕ) (bytes : List ℕ) (held : Held) (there : handle_of s.opens k handle ≡ Some held)
    (of : held.pid ≡ pid) (tells : tells_event held.file ≡ true) where
  orderly : IsOrderly t
  orderly = files-order k t s files fits

  abbrev r : Reply
  r = reply.Bytes bytes

  -- the handle is of that file
  same-held : (number owner : ℕ) (f : File) (mode : Mode) → IsFileOf k s owner number f mode → number ≡ handle
      → record { controller = k; pid = owner; lwp = 0; file = f; mode = mode } ≡ held
  same-held number owner f mode its same = same_Some _ held (sym its.is ∙ ap (handle_of s.opens k) same ∙ there)

  own : (place number : ℕ) (f : File) (mode : Mode) → IsFileOf k s (traced_at t place).pid number f mode
      → number ≡ handle → (traced_at t place).pid ≡ pid
  own place number f mode its same =
      ap (λ (h : Held). h.pid) (same-held number (traced_at t place).pid f mode its same) ∙ of

  over-told : (u : TrussState) (place : ℕ) → place_of t pid ≡ Some place → StopOver t place u → IsTold pid u
  over-told u place stands c = record { place = place; at = c.places pid ∙ stands; read = c.read }

  status-told : (place : ℕ) → t.stage ≡ ReadingStatus place → number_of (traced_at t place).status ≡ handle
      → IsTold pid (fed t r)
  unfolding fed with_reply answer_of with_status_answered
  status-told place at same =
      let within : place < length t.traced = subst (Fits t.traced) at fits in
      let stands = standing k t s (ReadingStatus place) files at in
      let mine = own place (number_of (traced_at t place).status) _ _ (status-read k t s files fits place at) same in
      subst (IsTold pid) (sym (ap (with_reply t r) at))
      (over-told (with_stop_read t place (option_and_then status_lwp (bytes_in r))) place
      (place-own t place pid orderly within mine)
      (stop_read-over t place within (λ leaving. absurd (false≢true (sym stands.leaves
      ∙ leaving))) (option_and_then status_lwp (bytes_in r))))

  lwps-told : t.stage ≡ ReadingLwps → number_of (traced_at t 0).lstatus ≡ handle → IsTold pid (fed t r)
  unfolding fed with_reply answer_of with_lwps_answered
  lwps-told at same =
      let within : 0 < length t.traced = subst (Fits t.traced) at fits in
      let mine = own 0 (number_of (traced_at t 0).lstatus) _ _ (lwps-read k t s files fits at) same in
      subst (IsTold pid) (sym (ap (with_reply t r) at))
      (over-told (with_stop_read t 0 (slice_get (event_stops (bytes_in r)) 0)) 0 (place-own t 0 pid orderly within mine)
      (stop_read-over t 0 within (λ leaving. refl) (slice_get (event_stops (bytes_in r)) 0)))

  -- a look at the old stops is part of the opening
  old-told : (place : ℕ) → t.stage ≡ Opening place opening.ReadLwps → number_of (traced_at t place).lstatus ≡ handle
      → IsTold pid (fed t r)
  unfolding fed with_reply answer_of with_step_answered with_step_done step_after learnt
  old-told place at same =
      let f : Fits t.traced (Opening place opening.ReadLwps) = subst (Fits t.traced) at fits in
      let mine = own place (number_of (traced_at t place).lstatus) _ _ (opening-read k t s files fits place at) same in
      let looked : Traced = learnt (traced_at t place) r opening.ReadLwps in
      subst (IsTold pid) (sym (ap (with_reply t r) at))
      (record {
        place = place;
        at = place-set t place pid looked refl ∙ place-own t place pid orderly f.0 mine;
        read = λ here. absurd (false≢true (sym here ∙ eq-eqb place place refl));
      })

  -- memory tells no event
  memory-told : (place : ℕ) (l : LwpStatus) (from len : ℕ) → t.stage ≡ ReadingText place l from len
      → number_of (traced_at t place).memory ≡ handle → IsTold pid (fed t r)
  memory-told place l from len at same =
      let is =
      same-held (number_of (traced_at t place).memory) (traced_at t place).pid _ _
      (memory-read k t s files fits place l from len at) same in
      absurd (false≢true (ap (λ (h : Held). tells_event h.file) is ∙ tells))

  reads-told : Reads t handle → IsTold pid (fed t r)
  reads-told (status place at same) = status-told place at same
  reads-told (memory place l from len at same) = memory-told place l from len at same
  reads-told (old place at same) = old-told place at same
  reads-told (lwps at same) = lwps-told at same

-- ---- the machine

-- an entry of truss leaves the machine as it was, where truss only looks
module _ (n k : ℕ) (s : TracedState) (x : Exchange) (looks : only_looks x.call ≡ true) where
  call-leaves : (by : ℕ) (c : Call) (given : Reply) (mine : Bool)
      → IsLegalEntry n s (record { actor = Controller by; act = act.Call c given })
      → cond {A = Option Exchange} mine (Some (record { call = c; reply = given })) None ≡ Some x
      → (after s (record { actor = Controller by; act = act.Call c given })).system ≡ s.system
  unfolding IsLegalEntry after
  call-leaves by c given true legal is =
      let a : Answer = record { state = legal.1.0; reply = given } in
      let same : c ≡ x.call = ap (λ (y : Exchange). y.call) (same_Some _ x is) in
      ap (λ o. (after_call s o).system) legal.1.1
      ∙ ap (λ (u : TracedState). u.system) (looking-stays s by c a (ap only_looks same ∙ looks) legal.1.1)
  call-leaves by c given false legal is = absurd (none-some x is)

  acted-leaves : (actor : Actor) (did : Act) → IsLegalEntry n s (record { actor = actor; act = did })
      → exchange_in k actor did ≡ Some x → (after s (record { actor = actor; act = did })).system ≡ s.system
  acted-leaves (Controller by) (act.Call c given) legal is = call-leaves by c given (by == k) legal is
  acted-leaves (Controller by) (act.Turn did) legal is = absurd (none-some x is)
  acted-leaves (Controller by) (act.Tick moment) legal is = absurd (none-some x is)
  acted-leaves (Lwp p l) did legal is = absurd (none-some x is)
  acted-leaves Clock did legal is = absurd (none-some x is)

  look-leaves : (e : Entry) → IsLegalEntry n s e → exchange_of k e ≡ Some x → (after s e).system ≡ s.system
  look-leaves e legal is = acted-leaves e.actor e.act legal is

-- ---- one entry

module _ (n k pid : ℕ) (t : TrussState) (s : TracedState) (e : Entry) (g : Reaches k t s) (legal : IsLegalEntry n s e)
    (next : MakesNext t (exchange_of k e)) (f : File) (tells : tells_event f ≡ true) (w : ReadsFile k pid f s e) where
  abbrev given : Exchange
  given = record { call = call.Read w.handle w.from w.len; reply = reply.Bytes w.bytes }

  -- the process lives
  lives-on : live_process (after s e).system pid ≢ None
  lives-on none =
      let y = exchange-answered n k s e given legal w.is in
      let same : (after s e).system ≡ s.system = look-leaves n k s given refl e legal w.is in
      read-lives s k w.handle w.held w.there y.answer w.from w.len f w.bytes w.file (tells-read f tells) y.is y.reply
      (ap (live_process s.system) w.of ∙ ap (λ (x : TracedSystem). live_process x pid) (sym same) ∙ none)

  told : IsTold pid (fed_by_entry k t e)
  told =
      let owns : Owns k t s = g.owns in
      subst (λ x. IsTold pid (with_exchange t x)) (sym w.is)
      (reads-told k t s g.files owns.fits pid w.handle w.bytes w.held w.there w.of (ap tells_event w.file
      ∙ tells) (next-reads t w.handle w.from w.len (subst (MakesNext t) w.is next)))

  -- Nothing is missing after the read.
  pub read-whole : (K : Type 0) (o : Options) (tally : Tally)
      → Standing (Lost K pid (after s e)) o pid (fed_by_entry k t e) (after s e) tally → IsWhole tally
  read-whole K o tally standing = by standing
    where
      whole : Accounted (Lost K pid (after s e)) tally → IsWhole tally
      whole a = accounted-whole (Lost K pid (after s e)) tally (λ lost. lives-on lost.over) a

      unread-no : (place : ℕ) → place_of (fed_by_entry k t e) pid ≡ Some place
          → is_away (fed_by_entry k t e).leaving (fed_by_entry k t e).stage place ≡ false
          → has_read (fed_by_entry k t e).stage place ≡ false → ⊥
      unread-no place at here read =
          let it : IsTold pid (fed_by_entry k t e) = told in
          let same : it.place ≡ place = same_Some it.place place (sym it.at ∙ at) in
          false≢true (sym read
          ∙ subst (λ q. has_read (fed_by_entry k t e).stage q ≡ true) same
          (it.read (subst (λ q. is_away (fed_by_entry k t e).leaving (fed_by_entry k t e).stage q ≡ false)
          (sym same) here)))

      by : Standing (Lost K pid (after s e)) o pid (fed_by_entry k t e) (after s e) tally → IsWhole tally
      by (apart unwatched a) = whole a
      by (over watched none a) = whole a
      by (lives place p at attached here live traced position) = stood position
        where
          stood : Position o (fed_by_entry k t e).stage place (traced_at (fed_by_entry k t e) place).old p
              tally → IsWhole tally
          stood (stop_read read waits is) = is
          stood (old_stops count read counts waits is) = is
          stood (goes read named none quiet is) = is
          stood (has_event id event read none one named is) = absurd (unread-no place at here read)
