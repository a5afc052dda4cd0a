use Rattle.std.proofs.Common.{◌≡◌, ◌≢◌, ◌==◌, ◌<◌, ℕ, Bool, true, false, cond, None, Some, Option, List, [], ◌∷◌, refl, sym, subst, ap, ◌∙◌, inl, inr, ◌⊎◌}
use Rattle.std.proofs.lemmas.Bool.{cases_Bool, eq-eqb, eqb-true, eqb-false}
use Rattle.std.proofs.lemmas.Option.{none-some}
use Rattle.pr_line.specs.declared.events.Event.{Event}
use Rattle.pr_line.specs.declared.options.Options.{Options}
use Rattle.pr_model.proofs.TurnLemmas.{turn-taken}
use Rattle.pr_model.specs.Calls.{answer_to}
use Rattle.pr_model.specs.Events.{events_of}
use Rattle.pr_model.specs.Lawful.{IsLawful}
use Rattle.pr_model.specs.Legal.{IsLegalEntry, after, after_call, after_turn}
use Rattle.pr_model.specs.LwpTurns.{LwpTurn, turn_of}
use Rattle.pr_model.specs.State.{TracedProcess, TracedState, live_process, process_of}
use Rattle.pr_model.specs.declared.calls.Call.{Call}
use Rattle.pr_model.specs.declared.calls.Reply.{Reply}
use Rattle.pr_model.specs.declared.calls.Reply.TheVariants.{Handle}
use Rattle.pr_model.specs.declared.events.Act.{Act}
use Rattle.pr_model.specs.declared.events.Act.TheVariants as act
use Rattle.pr_model.specs.declared.events.Actor.{Actor}
use Rattle.pr_model.specs.declared.events.Actor.TheVariants.{Controller, Lwp, Clock}
use Rattle.pr_model.specs.declared.events.Entry.{Entry}
use Rattle.pr_truss.specs.Feeding.{fed}
use Rattle.pr_truss.specs.Trusses.{TrussState}
use Rattle.pr_truss.specs.declared.stages.Stage.TheVariants.{OpeningChildControl}
use Rattle.pr_truss_laws.proofs.Files.OwnLemmas.{Owns}
use Rattle.pr_truss_laws.specs.Exchanges.{Exchange, exchange_in, exchange_of}
use Rattle.pr_report_laws.proofs.Invariant.Tallies.{Tally, came-nothing, told-nothing, with_came, with_told}
use Rattle.pr_report_laws.proofs.Invariant.EntrySteps.{EndsByKill, Lost, others-prepares, others-standing, standing-why}
use Rattle.pr_report_laws.proofs.Files.FileLaws.{HasFiles}
use Rattle.pr_report_laws.proofs.Files.FileSteps.{IsUninterrupted, MakesNext, entry-files, entry-lawful, entry-owns}
use Rattle.pr_report_laws.proofs.Machine.TracedPoints.{PicksTraced}
use Rattle.pr_report_laws.proofs.Replies.NewStops.{read_now}
use Rattle.pr_report_laws.proofs.Replies.OptionLemmas.{told-options}
use Rattle.pr_reached.proofs.FitStates.FitHistoryLemmas.{history-fits}
use Rattle.pr_report_laws.proofs.Machine.FrameLaws.{no-events}
use Rattle.pr_truss_laws.proofs.Machine.OverLemmas.{stays-made, stays-over}
use Rattle.pr_report_laws.proofs.Invariant.OwnCallSteps.{call-goes}
use Rattle.pr_report_laws.proofs.Invariant.OwnCalls.{Leaves}
use Rattle.pr_report_laws.proofs.Replies.OwnLooks.{IsCall, ReadsBack}
use Rattle.pr_report_laws.proofs.Invariant.OwnSteps.{turned-prepares, turned-standing}
use Rattle.pr_report_laws.proofs.Invariant.Standing.{Prepares, Standing}
use Rattle.pr_reached.specs.Fits.{IsFitSystem}
use Rattle.pr_report_laws.proofs.Invariant.Positions.{IsAtBirth}
use Rattle.pr_report_laws.specs.Shown.{LwpEvent, picked}
use Rattle.pr_report_laws.specs.Watching.{fed_by_entry, watches, with_exchange}

-- What each entry of a history leaves.

-- what holds before an entry, where so much came and was told
pub record Holds (K : Type 0) (k : ℕ) (o : Options) (pid : ℕ) (t : TrussState) (s : TracedState)
    (tally : Tally) : Type 0 where
  pub lawful : IsLawful s
  pub fit : IsFitSystem s.system
  pub owns : Owns k t s
  pub files : HasFiles k t s
  pub options : t.options ≡ o
  pub picks : PicksTraced o tally.picks
  pub prepares : Prepares o pid t s
  pub standing : Standing (Lost K pid s) o pid t s tally

-- what was picked of an entry while truss watched
abbrev pub picked_of : (Event → Bool) → ℕ → TrussState → TracedState → Entry → List LwpEvent
picked_of picks pid t s e = picked picks pid (cond (watches t pid) (events_of s e) [])

-- the event that an entry tells truss, where it answers a call of truss
abbrev pub read_of : ℕ → TrussState → Option Exchange → Option LwpEvent
read_of pid t None = None
read_of pid t (Some x) = read_now pid t x.reply

-- what came and was told after an entry
abbrev pub tally_after : ℕ → ℕ → TrussState → TracedState → Tally → Entry → Tally
tally_after k pid t s tally e =
    with_told (with_came tally (picked_of tally.picks pid t s e)) (read_of pid t (exchange_of k e))

-- where truss opened the process as the child of a fork in this entry, it stood as at its birth
pub record IsBorn (k : ℕ) (o : Options) (pid : ℕ) (t : TrussState) (s : TracedState) (e : Entry) : Type 0 where
  pub child : (x : Exchange) (handle parent : ℕ) (p : TracedProcess) → exchange_of k e ≡ Some x
      → t.stage ≡ OpeningChildControl parent pid → x.reply ≡ Handle handle → live_process s.system pid ≡ Some p
      → IsAtBirth o p

module _ (K : Type 0) (n k : ℕ) (o : Options) (pid : ℕ) (t : TrussState) (s : TracedState) (tally : Tally)
    (h : Holds K k o pid t s tally) (calm : IsUninterrupted k s) where
  abbrev Next : Entry → Type 0
  Next e = K ⊎ EndsByKill pid t s e

  -- what stands afterwards, and what truss knows of its processes
  record Stands (e : Entry) (x : Option Exchange) (u : TrussState) (v : TracedState) : Type 0 where
    prepares : Prepares o pid u v
    standing : Standing (Lost (Next e) pid v) o pid u v
        (with_told (with_came tally (picked_of tally.picks pid t s e)) (read_of pid t x))

  nothing-came : (e : Entry) → ((id : ℕ) → e.actor ≢ Lwp pid id)
      → with_came tally (picked_of tally.picks pid t s e) ≡ tally
  unfolding picked
  nothing-came e elsewhere = ap (with_came tally) (by (watches t pid)) ∙ came-nothing tally
    where
      by : (b : Bool) → picked tally.picks pid (cond b (events_of s e) []) ≡ []
      by true = no-events tally.picks pid s e elsewhere
      by false = refl

  -- what was told, where nothing came
  only-told : (e : Entry) → ((id : ℕ) → e.actor ≢ Lwp pid id) → (x : Option Exchange)
      → with_told tally (read_of pid t x) ≡
      with_told (with_came tally (picked_of tally.picks pid t s e)) (read_of pid t x)
  only-told e elsewhere x = ap (λ (y : Tally). with_told y (read_of pid t x)) (sym (nothing-came e elsewhere))

  lost-later : (e : Entry) → IsLegalEntry n s e → Lost K pid s → Lost (Next e) pid (after s e)
  lost-later e legal lost = record {
    cause = inl lost.cause;
    over = stays-over n s e pid h.lawful legal lost.made lost.over;
    made = stays-made n s e pid h.lawful legal lost.made;
  }

  -- an entry of another controller, of another process, or of the clock
  others-stand : (e : Entry) → IsLegalEntry n s e → ((id : ℕ) → e.actor ≢ Lwp pid id) → e.actor ≢ Controller k
      → Stands e None t (after s e)
  others-stand e legal elsewhere others = record {
    prepares = others-prepares n k o pid t s e h.lawful legal h.owns h.files elsewhere others h.prepares;
    standing =
        subst (Standing (Lost (Next e) pid (after s e)) o pid t (after s e))
        (sym (told-nothing tally) ∙ only-told e elsewhere None)
        (others-standing n k o pid t s e h.lawful legal h.owns h.files elsewhere others K tally h.standing);
  }

  -- a turn of an lwp of the process
  turn-stands : (id : ℕ) (d : LwpTurn) → IsLegalEntry n s (record { actor = Lwp pid id; act = act.Turn d.turned })
      → turn_of s.system pid id ≡ Some d
      → Stands (record { actor = Lwp pid id; act = act.Turn d.turned }) None t (after s (record {
        actor = Lwp pid id;
        act = act.Turn d.turned;
      }))
  unfolding after
  turn-stands id d legal turn = by (live_process s.system pid) refl
    where
      later : (after_turn s (turn_of s.system pid id)).system ≡ d.system
      later = rw turn refl

      by : (x : Option TracedProcess) → live_process s.system pid ≡ x
          → Stands (record { actor = Lwp pid id; act = act.Turn d.turned }) None t (after s (record {
            actor = Lwp pid id;
            act = act.Turn d.turned;
          }))
      by None none = let it = turn-taken s.system pid id d turn in absurd (none-some it.process (sym none ∙ it.live))
      by (Some p) live =
          let e : Entry = record { actor = Lwp pid id; act = act.Turn d.turned } in
          record {
            prepares =
                turned-prepares o pid t s id d h.lawful.system h.fit turn
                (after_turn s (turn_of s.system pid id)) later p live h.prepares;
            standing =
                subst (Standing (Lost (Next e) pid (after s e)) o pid t (after_turn s (turn_of s.system pid id)))
                (sym (told-nothing (with_came tally (picked_of tally.picks pid t s e))))
                (standing-why (Lost K pid s) (Lost (Next e) pid (after s e)) o pid t
                (after_turn s (turn_of s.system pid id)) (with_came tally (picked_of tally.picks pid t s e))
                (λ lost. absurd (none-some p (sym lost.over ∙ live)))
                (turned-standing o pid t s id d h.lawful.system h.fit turn
                (after_turn s (turn_of s.system pid id)) later (Lost K pid s) tally h.picks p live
                (watches t pid) refl h.standing));
          }

  -- a call of truss
  module _ (reads : ReadsBack pid s) (c : Call) (r : Reply) (state : TracedState)
      (answer : answer_to s k c ≡ Some (record { state = state; reply = r }))
      (next : MakesNext t (Some (record { call = c; reply = r })))
      (birth : (parent handle : ℕ)
      (p : TracedProcess) → t.stage ≡ OpeningChildControl parent pid → r ≡ Handle handle
      → live_process s.system pid ≡ Some p → IsAtBirth o p) where
    abbrev own_entry : Entry
    own_entry = record { actor = Controller k; act = act.Call c r }

    after-is : (after s own_entry) ≡ state
    unfolding after
    after-is = ap (after_call s) answer

    -- what a call leaves of the process
    own-leaves : IsLegalEntry n s own_entry → Leaves (EndsByKill pid t s own_entry) pid t s state
    own-leaves legal = record {
      over =
          λ made none. ap (λ (u : TracedState). live_process u.system pid) (sym after-is)
          ∙ stays-over n s own_entry pid h.lawful legal made none;
      made =
          λ made. subst (λ (u : TracedState). pid < u.system.made) after-is
          (stays-made n s own_entry pid h.lawful legal made);
      ends =
          λ p z watched live left status. record {
            watched = watched;
            process = p;
            lived = live;
            zombie = z;
            left = ap (λ (u : TracedState). process_of u.system pid) after-is ∙ left;
            status = status;
          };
    }

    own-stands : IsLegalEntry n s own_entry → IsLawful state → HasFiles k (fed t r) state
        → Stands own_entry (Some (record { call = c; reply = r })) (fed t r) state
    own-stands legal lawful files =
        let call : IsCall k o pid t s c (record { state = state; reply = r }) = record {
          next = next;
          answer = answer;
          lawful = h.lawful;
          later = lawful;
          fit = h.fit;
          owns = h.owns;
          files = h.files;
          files_later = files;
          options = h.options;
          reads = reads;
        } in
        let g =
        call-goes k o pid t s c (record { state = state; reply = r }) call K (EndsByKill pid t s own_entry)
        (own-leaves legal) tally birth h.prepares h.standing in
        record {
          prepares = g.prepares;
          standing =
              subst (Standing (Lost (Next own_entry) pid state) o pid (fed t r) state)
              (only-told own_entry (λ id is. cc) (Some (record { call = c; reply = r }))) g.standing;
        }

  -- ---- any entry

  abbrev call_by : ℕ → Call → Reply → Entry
  call_by by c r = record { actor = Controller by; act = act.Call c r }

  own-call-stands : ReadsBack pid s → (c : Call) (r : Reply) → IsBorn k o pid t s (call_by k c r)
      → IsLegalEntry n s (call_by k c r) → MakesNext t (Some (record { call = c; reply = r }))
      → IsLawful (after s (call_by k c r)) → HasFiles k (fed t r) (after s (call_by k c r))
      → Stands (call_by k c r) (Some (record { call = c; reply = r })) (fed t r) (after s (call_by k c r))
  unfolding IsLegalEntry after
  own-call-stands reads c r born legal next lawful files =
      let state : TracedState = legal.1.0 in
      let answer : answer_to s k c ≡ Some (record { state = state; reply = r }) = legal.1.1 in
      let own : exchange_of k (call_by k c r) ≡ Some (record { call = c; reply = r }) = rw (eq-eqb k k refl) refl in
      subst (λ x. Stands (call_by k c r) (Some (record { call = c; reply = r })) (fed t r) (after_call s x))
      (sym answer)
      (own-stands reads c r state answer next
      (λ parent handle p stage is live. born.child
      (record { call = c; reply = r }) handle parent p own stage is live) legal
      (subst (λ x. IsLawful (after_call s x)) answer lawful)
      (subst (λ x. HasFiles k (fed t r) (after_call s x)) answer files))

  call-stands : ReadsBack pid s → (by : ℕ) (c : Call) (r : Reply) → (mine : Bool) → (by == k) ≡ mine
      → IsBorn k o pid t s (record { actor = Controller by; act = act.Call c r })
      → IsLegalEntry n s (record { actor = Controller by; act = act.Call c r })
      → MakesNext t (cond mine (Some (record { call = c; reply = r })) None)
      → IsLawful (after s (record { actor = Controller by; act = act.Call c r }))
      → HasFiles k (with_exchange t (cond mine (Some (record { call = c; reply = r })) None)) (after s (record {
        actor = Controller by;
        act = act.Call c r;
      }))
      → Stands (record { actor = Controller by; act = act.Call c r })
      (cond mine (Some (record { call = c; reply = r })) None)
      (with_exchange t (cond mine (Some (record { call = c; reply = r })) None)) (after s (record {
        actor = Controller by;
        act = act.Call c r;
      }))
  call-stands reads by c r false is born legal next lawful files =
      others-stand (record { actor = Controller by; act = act.Call c r }) legal (λ id same. cc)
      (λ same. eqb-false by k is (of-controller by k same))
    where
      of-controller : (x y : ℕ) → Controller x ≡ Controller y → x ≡ y
      of-controller x y e = cc
  call-stands reads by c r true is born legal next lawful files =
      subst (λ b. IsBorn k o pid t s (call_by b c r) → IsLegalEntry n s (call_by b c r) → IsLawful
      (after s (call_by b c r)) → HasFiles k (fed t r) (after s (call_by b c r))
      → Stands (call_by b c r) (Some (record { call = c; reply = r })) (fed t r) (after s (call_by b c r)))
      (sym (eqb-true by k is)) (λ b l w f. own-call-stands reads c r b l next w f) born legal lawful files

  actor-stands : ReadsBack pid s → (actor : Actor) (did : Act)
      → IsBorn k o pid t s (record { actor = actor; act = did })
      → IsLegalEntry n s (record { actor = actor; act = did }) → MakesNext t (exchange_in k actor did)
      → IsLawful (after s (record { actor = actor; act = did }))
      → HasFiles k (with_exchange t (exchange_in k actor did)) (after s (record { actor = actor; act = did }))
      → Stands (record { actor = actor; act = did }) (exchange_in k actor did)
      (with_exchange t (exchange_in k actor did)) (after s (record {
        actor = actor;
        act = did;
      }))
  unfolding IsLegalEntry
  actor-stands reads (Controller by) (act.Call c r) born legal next lawful files =
      call-stands reads by c r (by == k) refl born legal next lawful files
  actor-stands reads (Lwp other id) (act.Turn turned) born legal next lawful files = elim (cases_Bool (other == pid)) [
    | inl same ↦ own (eqb-true other pid same)
    | inr differs ↦ others-stand (record { actor = Lwp other id; act = act.Turn turned }) legal
        (λ i same. eqb-false other pid differs (of-lwp other pid id i same)) (λ same. cc)
  ]
    where
      of-lwp : (x y i j : ℕ) → Lwp x i ≡ Lwp y j → x ≡ y
      of-lwp x y i j e = cc

      own : other ≡ pid → Stands (record { actor = Lwp other id; act = act.Turn turned }) None t (after s (record {
        actor = Lwp other id;
        act = act.Turn turned;
      }))
      own same =
          subst (λ x. IsLegalEntry n s
          (record { actor = Lwp x id; act = act.Turn turned })
          → turn_of s.system x id ≡ Some (record { system = legal.0; turned = turned })
          → Stands (record { actor = Lwp x id; act = act.Turn turned }) None t (after s (record {
            actor = Lwp x id;
            act = act.Turn turned;
          })))
          (sym same) (λ l turn. turn-stands id (record { system = legal.0; turned = turned }) l turn) legal legal.1
  actor-stands reads Clock (act.Tick moment) born legal next lawful files =
      others-stand (record { actor = Clock; act = act.Tick moment }) legal (λ id same. cc) (λ same. cc)
  actor-stands reads (Controller by) (act.Turn turned) born legal next lawful files = absurd legal
  actor-stands reads (Controller by) (act.Tick moment) born legal next lawful files = absurd legal
  actor-stands reads (Lwp other id) (act.Call c r) born legal next lawful files = absurd legal
  actor-stands reads (Lwp other id) (act.Tick moment) born legal next lawful files = absurd legal
  actor-stands reads Clock (act.Call c r) born legal next lawful files = absurd legal
  actor-stands reads Clock (act.Turn turned) born legal next lawful files = absurd legal

  pub entry-holds : ReadsBack pid s → (e : Entry) → IsBorn k o pid t s e → IsLegalEntry n s e
      → MakesNext t (exchange_of k e)
      → Holds (K ⊎ EndsByKill pid t s e) k o pid (fed_by_entry k t e) (after s e) (tally_after k pid t s tally e)
  entry-holds reads e born legal next =
      let lawful = entry-lawful n s e h.lawful legal in
      let files = entry-files n k t s h.lawful calm h.owns h.files e legal next in
      let stands = actor-stands reads e.actor e.act born legal next lawful files in
      record {
        lawful = lawful;
        fit = history-fits n s (e ∷ []) h.lawful h.fit (legal, tt);
        owns = entry-owns n k t s e h.owns legal next;
        files = files;
        options = told-options k t e ∙ h.options;
        picks = h.picks;
        prepares = stands.prepares;
        standing = stands.standing;
      }
