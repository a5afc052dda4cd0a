use Rattle.std.proofs.Common.{◌≡◌, ◌≢◌, ◌⊎◌, ◌<◌, ◌++◌, ℕ, true, false, Option, Some, None, List, [], ◌∷◌, length, append-nil, append_assoc, refl, sym, subst, ap, ◌∙◌, inl, inr}
use Rattle.std.proofs.lemmas.Bool.{cases_eq}
use Rattle.std.proofs.lemmas.Option.{none-some, same_Some}
use Rattle.std.specs.List.{All}
use Rattle.pr_line.specs.declared.events.Event.{Event}
use Rattle.pr_line.specs.declared.options.Options.{Options}
use Rattle.pr_model.proofs.TurnLemmas.{turn-taken}
use Rattle.pr_model.specs.Lawful.{IsLawful}
use Rattle.pr_model.specs.Legal.{IsLegalEntry, after, state_after}
use Rattle.pr_model.specs.LwpTurns.{LwpTurn, turn_of}
use Rattle.pr_model.specs.State.{TracedProcess, TracedState, live_process}
use Rattle.pr_model.specs.declared.calls.Reply.{Reply}
use Rattle.pr_model.specs.declared.events.Act.TheVariants.{Turn}
use Rattle.pr_model.specs.declared.events.Actor.TheVariants.{Lwp}
use Rattle.pr_model.specs.declared.events.Entry.{Entry}
use Rattle.pr_report_laws.proofs.Invariant.StandLemmas.{Each}
use Rattle.pr_report_laws.specs.Positions.{HasEvent}
use Rattle.pr_report_laws.specs.Shown.{LwpEvent}
use Rattle.pr_truss.specs.FunctionCalls.{next_function_call_of}
use Rattle.pr_truss.specs.FunctionFeeding.{fed_functions}
use Rattle.pr_truss.specs.Marks.{has_functions}
use Rattle.pr_truss.specs.NextCalls.{read_record}
use Rattle.pr_truss.specs.Replies.{answer_of}
use Rattle.pr_truss.specs.Trusses.{TrussState, traced_at}
use Rattle.pr_truss.specs.declared.asides.Aside.{Aside}
use Rattle.pr_truss.specs.declared.asides.Aside.TheVariants.{Nothing, Reading, Planting, Patching}
use Rattle.pr_truss.specs.declared.processes.Traced.{Traced}
use Rattle.pr_truss.specs.declared.replies.Answer.TheVariants.{Accepted, Gone, Interrupted}
use Rattle.pr_truss.specs.declared.stages.AfterClosing.{AfterClosing}
use Rattle.pr_truss.specs.declared.stages.AfterClosing.TheVariants.{GoOn, OpenNext, RunParent}
use Rattle.pr_truss.specs.declared.stages.OpeningStep.{OpeningStep}
use Rattle.pr_truss.specs.declared.stages.OpeningStep.TheVariants as opening
use Rattle.pr_truss.specs.declared.stages.Stage.{Stage}
use Rattle.pr_truss.specs.declared.stages.Stage.TheVariants.{OpeningControl, Opening, ReadingStatus, ReadingText, Running, Closing}
use Rattle.pr_truss_laws.proofs.Machine.OutlastLemmas.{Outlasts}
use Rattle.pr_truss_laws.proofs.Machine.OverLemmas.{stays-made, stays-over}
use Rattle.pr_truss_laws.specs.Exchanges.{Exchange, exchange_of, exchanges}
use Rattle.pr_function_laws.proofs.Stepping.BreakpointLemmas.{IsOwnEntry, read-is}
use Rattle.pr_function_laws.proofs.Pending.FrontLemmas as fronts
use Rattle.pr_function_laws.proofs.Pending.FrontLemmas.{calm-answer}
use Rattle.pr_function_laws.proofs.Marks.KeptPlaces.{AtStage, Kept}
use Rattle.pr_function_laws.proofs.OpenedProcesses.OpenedCalls.{IsSo, control-fresh}
use Rattle.pr_function_laws.proofs.OpenedProcesses.OpenedLaws.{Goes}
use Rattle.pr_function_laws.proofs.Pending.PendingCalls.{IsPending, later-pending}
use Rattle.pr_function_laws.proofs.Pending.PendingPlaces.{IsSame, Pends, still-pends}
use Rattle.pr_function_laws.proofs.Pending.PendingWalk.{On, Pending, entry-next, on-stays, on-turns}
use Rattle.pr_function_laws.specs.ReachedRuns.{IsReachedFunctionRun}
use Rattle.pr_function_laws.specs.Opened.{WasNotInterrupted, functions_at}
use Rattle.pr_function_laws.specs.Runs.{functions_on}
use Rattle.pr_function_hides.proofs.Replies.ClosingWalk.{CalledSo, ClosesSo, LooksSo, StageSo, called_at, fed-closes}
use Rattle.pr_function_hides.proofs.Copying.CopyEnds.{aside-within, stage-within}
use Rattle.pr_function_hides.proofs.Copying.CopyOwn.{OwnCall}
use Rattle.pr_function_hides.proofs.Copying.CopyPlaces.{FitsSo}
use Rattle.pr_function_hides.proofs.Copying.CopyReading.{reads-so}
use Rattle.pr_function_hides.proofs.Copying.CopyWalk as Copies
use Rattle.pr_function_hides.proofs.Replies.CountedWalk.{TrussIn, truss-in-later}
use Rattle.pr_function_hides.proofs.Replies.OwnFiles.{IsBeside, IsWithin}
use Rattle.pr_function_hides.proofs.Replies.PlacesStay.{IsIn, LosesLast, places-stay}
use Rattle.pr_function_hides.proofs.Replacing.ReplacedReads.{IsOther, read-spends}
use Rattle.pr_function_hides.proofs.Replacing.ReplacedTurns.{TellsReplacement}
use Rattle.pr_function_hides.specs.LiftedCopies.{OpensOutOfCopies}

-- Once a vfork or an exec of a process was granted that truss has opened, its lwp stands at the exit of the call until
-- truss reads it; and from that read on truss has nothing planted there, and is to plant nothing.

-- ---- what comes before a call

-- before a call of its stage truss looks at functions only where the process starts next
pub fits-looks : (aside : Aside) (stage : Stage) → FitsSo aside stage → LooksSo stage aside
fits-looks Nothing stage w = tt
fits-looks (Reading q function) (Opening b step) w =
    ap (λ i. Opening i step) (sym w.0) ∙ ap (λ x. Opening q x) w.1
fits-looks (Reading q function) _ w = absurd w
fits-looks (Planting q function) (Opening b step) w =
    ap (λ i. Opening i step) (sym w.0) ∙ ap (λ x. Opening q x) w.1
fits-looks (Planting q function) _ w = absurd w
fits-looks (Patching q plants lifts clear) (Closing b next) w = refl
fits-looks (Patching q plants lifts clear) (Running b) w = refl
fits-looks (Patching q plants lifts clear) (ReadingText b l from len) w = refl
fits-looks (Patching q plants lifts clear) _ w = absurd w
fits-looks _ stage w = absurd w

-- ---- a process that truss neither opens nor closes

module _ (own : ℕ) where
  abbrev pub IsApart : ℕ → Type 0
  IsApart pid = pid ≢ own

  abbrev pub OpensApart : OpeningStep → ℕ → Type 0
  OpensApart step pid = pid ≢ own

  abbrev pub Spares : TrussState → Type 0
  Spares t = ClosesSo IsApart OpensApart IsApart t

  module _ (t : TrussState) (spared : Spares t) where
    pub opening-apart : (q : ℕ) (step : OpeningStep) → t.stage ≡ Opening q step → (traced_at t q).pid ≢ own
    opening-apart q step at = subst (StageSo IsApart OpensApart IsApart t) at spared.stage

    pub closing-apart : (q : ℕ) (next : AfterClosing) → t.stage ≡ Closing q next → (traced_at t q).pid ≢ own
    closing-apart q next at = by next (subst (StageSo IsApart OpensApart IsApart t) at spared.stage)
      where
        by : (next : AfterClosing) → StageSo IsApart OpensApart IsApart t (Closing q next) → (traced_at t q).pid ≢ own
        by OpenNext (inl other) = other
        by OpenNext (inr both) = both.0
        by GoOn other = other
        by (RunParent parent) other = other

-- ---- along a history

module _ (n k : ℕ) (o : Options) (s : TracedState) (h : List Entry) (run : IsReachedFunctionRun n k o s h)
    (opens : OpensOutOfCopies k o s h) (was : Traced) (id : ℕ)
    (event : Event) (tells : TellsReplacement event) where
  abbrev own : ℕ
  own = was.pid

  abbrev truss : List Entry → TrussState
  truss front = functions_at k o front

  abbrev now : List Entry → TracedState
  now front = state_after s front

  abbrev Calm : List Entry → Type 0
  Calm front = All WasNotInterrupted (exchanges k front)

  abbrev its-event : LwpEvent
  its-event = record { id = id; event = event }

  -- the lwp stands on its event
  abbrev Stood : TracedProcess → Type 0
  Stood = On its-event

  -- Truss traces the process, and neither opens nor closes it; and the lwp stands at the exit of its call, unread, or
  -- truss has nothing to do with functions of it.
  pub record Follows (front : List Entry) : Type 0 where
    pub spared : Spares own (truss front)
    pub there : IsIn own (truss front).traced
    pub how : Pending k o s was Stood front ⊎ TrussIn (IsOther own) (truss front)

  -- so it is as long as the process lives
  pub record FollowsOn (front : List Entry) : Type 0 where
    pub made : own < (now front).system.made
    pub lives : (p : TracedProcess) → live_process (now front).system own ≡ Some p → Follows front

  -- ---- one entry

  module _ (front back : List Entry) (e : Entry) (is : h ≡ front ++ e ∷ back) (calm : Calm front)
      (p : TracedProcess) (live : live_process (now front).system own ≡ Some p) (was_so : Follows front) where
    abbrev t : TrussState
    t = truss front

    goes : Goes (Unit {0}) k o t (now front)
    goes = Copies.goes n k o s h run opens front back e is calm

    legal : IsLegalEntry n (now front) e
    legal = Copies.legal-now n k o s h run opens front back e is

    abbrev next_front : List Entry
    next_front = front ++ e ∷ []

    pushed : truss next_front ≡ functions_on t (exchange_of k e)
    pushed = fronts.pushed n k o s h run.of front e back is calm

    -- ---- of others

    foreign-follows : exchange_of k e ≡ None → Follows next_front
    foreign-follows none = record {
      spared = subst (Spares own) (sym same) was_so.spared;
      there = subst (λ (u : TrussState). IsIn own u.traced) (sym same) was_so.there;
      how = by was_so.how;
    }
      where
        same : truss next_front ≡ t
        same = pushed ∙ ap (functions_on t) none

        by : Pending k o s was Stood front ⊎ TrussIn (IsOther own) t
            → Pending k o s was Stood next_front ⊎ TrussIn (IsOther own) (truss next_front)
        by (inl pending) =
            inl
            (entry-next n k o s h run.of was Stood (on-stays its-event) front e back is calm pending turned
            (λ x mine. none_own x mine))
          where
            turned : (acting : ℕ) (turn : LwpTurn) → e ≡ record { actor = Lwp own acting; act = Turn turn.turned }
                → turn_of (now front).system own acting ≡ Some turn → (after (now front) e).system ≡ turn.system
                → (q : TracedProcess) → live_process turn.system own ≡ Some q → Stood q
            turned acting turn entry_is took after_is q later =
                let it = turn-taken (now front).system own acting turn took in
                on-turns its-event (now front).system own acting turn it.process q it.live took later
                (let so = pending.is in so.has it.process it.live)

            none_own : {A : Type 0} (x : Exchange) → exchange_of k e ≡ Some x → A
            none_own x mine = absurd (none-some x (sym none ∙ mine))
        by (inr spent) = inr (subst (TrussIn (IsOther own)) (sym same) spent)

    -- ---- of truss

    module _ (x : Exchange) (mine : exchange_of k e ≡ Some x) (unbroken : WasNotInterrupted x) where
      abbrev r : Reply
      r = x.reply

      abbrev it : IsOwnEntry k (now front) e x
      it = Copies.own-answer n k o s h run opens front back e is x mine

      w : OwnCall n k o t (now front) x.call it.answer
      w =
          Copies.its-call n k o s h run opens front back e is calm
          (Copies.stands-after n k o s h run opens front (e ∷ back) is calm) x mine unbroken

      kept : Kept (IsSo (Unit {0}) k t.options (now front)) t
      kept = let g = goes in g.kept

      has : has_functions t.options ≡ true
      has = let c = w in c.has

      next : next_function_call_of t ≡ Some x.call
      next = Copies.next-is n k o s h run opens front back e is x mine

      quiet : answer_of r ≢ Interrupted
      quiet = calm-answer x unbroken

      at-stage : IsWithin (length t.traced) t.stage
      at-stage = let g = kept in stage-within (IsSo (Unit {0}) k t.options (now front)) t.traced t.stage g.stage

      at-aside : IsBeside (length t.traced) t.aside
      at-aside = let g = kept in aside-within (IsSo (Unit {0}) k t.options (now front)) t.traced t.aside g.beside

      off : t.leaving ≡ false
      off = let g = kept in g.off

      follow : t.options.follow ≡ false
      follow = let g = kept in g.follow

      fresh : (pid : ℕ) → t.stage ≡ OpeningControl pid → t.aside ≡ Nothing → answer_of r ≡ Accepted
          → Each (λ (u : Traced). u.pid ≢ pid) t.traced
      fresh pid at idle accepted =
          let g = goes in
          let c = w in
          control-fresh (Unit {0}) n k (now front) g.lawful x.call it.answer it.is c.over t g.kept g.reached pid at idle
          has next (ap answer_of it.replied ∙ accepted)

      others-open : (pid : ℕ) → t.stage ≡ OpeningControl pid → t.aside ≡ Nothing → answer_of r ≡ Accepted → pid ≢ own
      others-open pid at idle accepted same =
          let there = was_so.there in
          fresh pid at idle accepted there.place there.within (there.own ∙ sym same)

      -- it is told of another one that it is gone
      gone-apart : (q : ℕ) → called_at t.stage t.aside ≡ Some q → answer_of r ≡ Gone → (traced_at t q).pid ≢ own
      gone-apart q here told same =
          let c = w in
          none-some p
          (sym (c.gone (ap answer_of it.replied ∙ told) q here) ∙ ap (live_process (now front).system) same ∙ live)

      called : CalledSo (IsApart own) (OpensApart own) (IsApart own) t r
      called =
          let so = was_so.spared in
          record {
            stays = λ either. so.stage;
            closes = λ q following v at left.
                subst (StageSo (IsApart own) (OpensApart own) (IsApart own) t) at so.stage;
            gone = gone-apart;
            begins = others-open;
            steps = λ q step following at idle accepted after_it. opening-apart own t so q step at;
          }

      spared-fed : Spares own (fed_functions t r)
      spared-fed =
          let so = was_so.spared in
          fed-closes (IsApart own) (OpensApart own) (IsApart own) (λ step pid other. other) t r off follow at-stage
          at-aside quiet so.looks called has

      there-fed : IsIn own (fed_functions t r).traced
      there-fed =
          let there = was_so.there in
          by (places-stay t r off follow at-stage at-aside quiet has there.place there.within)
        where
          spot : ℕ
          spot = let there = was_so.there in there.place

          by : IsIn (traced_at t spot).pid (fed_functions t r).traced ⊎ LosesLast t spot
              → IsIn own (fed_functions t r).traced
          by (inl stays) =
              let there = was_so.there in subst (λ i. IsIn i (fed_functions t r).traced) there.own stays
          by (inr loses) =
              let there = was_so.there in
              absurd (closing-apart own t was_so.spared spot loses.next loses.closes there.own)

      -- ---- what it has to do with functions of it

      learns-apart : (q i : ℕ) → t.aside ≡ Reading q i → (traced_at t q).pid ≢ own
      learns-apart q i reading =
          let so = was_so.spared in
          opening-apart own t so q opening.Start (subst (LooksSo t.stage) reading so.looks)

      spent-fed : TrussIn (IsOther own) t → TrussIn (IsOther own) (fed_functions t r)
      spent-fed spent =
          truss-in-later (IsOther own) t spent r off follow at-stage at-aside quiet has
          (λ q i reading accepted plants. learns-apart q i reading)

      -- it reads the status of the process, or not
      abbrev ReadsOwn : Type 0
      ReadsOwn =
          (q : ℕ) × ((t.stage ≡ ReadingStatus q) × ((t.aside ≡ Nothing) × ((traced_at t q).pid ≡ own)))

      abbrev ReadsNone : Type 0
      ReadsNone = (q : ℕ) → t.aside ≡ Nothing → t.stage ≡ ReadingStatus q → (traced_at t q).pid ≢ own

      reads-or-not : ReadsOwn ⊎ ReadsNone
      reads-or-not = by t.stage refl t.aside refl
        where
          other-stage : (stage : Stage) → t.stage ≡ stage → ((q : ℕ) → stage ≢ ReadingStatus q) → ReadsOwn ⊎ ReadsNone
          other-stage stage at none = inr (λ q idle reads. absurd (none q (sym at ∙ reads)))

          of : (q : ℕ) → t.stage ≡ ReadingStatus q → (aside : Aside) → t.aside ≡ aside → (aside ≡ Nothing)
              ⊎ (aside ≢ Nothing) → ReadsOwn ⊎ ReadsNone
          of q at aside beside (inr busy) = inr (λ i idle reads. absurd (busy (sym beside ∙ idle)))
          of q at aside beside (inl idle) = elim (cases_eq (traced_at t q).pid own) [
            | inl same ↦ inl (q, (at, (beside ∙ idle, same)))
            | inr apart ↦ inr (λ i none reads.
                let one : q ≡ i = same-read (sym at ∙ reads) in
                subst (λ j. (traced_at t j).pid ≢ own) one apart)
          ]
            where
              same-read : {a b : ℕ} → ReadingStatus a ≡ ReadingStatus b → a ≡ b
              same-read both = cc

          idle-or : (aside : Aside) → (aside ≡ Nothing) ⊎ (aside ≢ Nothing)
          idle-or Nothing = inl refl
          idle-or _ = inr (λ same. cc)

          by : (stage : Stage) → t.stage ≡ stage → (aside : Aside) → t.aside ≡ aside → ReadsOwn ⊎ ReadsNone
          by (ReadingStatus q) at aside beside = of q at aside beside (idle-or aside)
          by _ at aside beside = other-stage _ at (λ q same. cc)

      -- ---- it reads it

      module _ (pending : Pending k o s was Stood front) where
        read-follows : ReadsOwn → (y : TracedProcess) → live_process (now next_front).system own ≡ Some y
            → TrussIn (IsOther own) (fed_functions t r)
        read-follows (q, (at, (idle, same))) y later =
            subst (λ i. TrussIn (IsOther i) (fed_functions t r)) same
            (subst (λ (a : Reply). TrussIn (IsOther (traced_at t q).pid) (fed_functions t a)) it.replied
            (read-spends w q within at idle sent id event tells seen.new y here standing))
          where
            placed : AtStage (Pends own was) t.traced (ReadingStatus q)
            placed = let pends = pending.pends in subst (AtStage (Pends own was) t.traced) at pends.stage

            within : q < length t.traced
            within = placed.0

            seen : IsSame own was (traced_at t q)
            seen = placed.1.1 same

            sent : x.call ≡ read_record (traced_at t q).status
            sent = same_Some _ _ (sym next ∙ read-is t q has at idle)

            here : live_process it.answer.state.system (traced_at t q).pid ≡ Some y
            here =
                ap (λ (u : TracedState). live_process u.system (traced_at t q).pid)
                (it.later ∙ sym (fronts.next-state n k o s h run.of front e back is calm))
                ∙ ap (live_process (now next_front).system) same ∙ later

            standing : HasEvent y id event
            standing =
                let m = reads-so w q within at idle sent y here in
                let stands = pending.is in
                stands.has y (ap (live_process (now front).system) (sym same) ∙ m.live)

        -- ---- it does not

        none-follows : ReadsNone → Pending k o s was Stood next_front
        none-follows read =
            record {
              pends = subst (Kept (Pends own was)) (sym (pushed ∙ ap (functions_on t) mine))
                  (still-pends own was t r pending.pends new read has quiet);
              is = subst (λ (u : TracedState). IsPending k o was Stood u)
                  (sym (fronts.next-state n k o s h run.of front e back is calm)) goes_on;
            }
          where
            g : Goes ⊥ k o t (now front)
            g = fronts.here n k o s h run.of front e back is calm

            its : Kept (IsSo ⊥ k t.options (now front)) t
            its = let y = g in y.kept

            lawful : IsLawful (now front)
            lawful = let y = g in y.lawful

            over : (pid : ℕ) → pid < (now front).system.made → live_process (now front).system pid ≡ None
                → live_process it.answer.state.system pid ≡ None
            over pid made none =
                ap (λ (u : TracedState). live_process u.system pid) it.later
                ∙ stays-over n (now front) e pid lawful legal made none

            is_so : IsPending k t.options was Stood (now front)
            is_so =
                let gs = g in
                subst (λ (y : Options). IsPending k y was Stood (now front)) (sym gs.options) pending.is

            new : (number : ℕ) → t.stage ≡ OpeningControl number → t.aside ≡ Nothing → answer_of r ≡ Accepted
                → (number ≢ own) × Each (λ (u : Traced). u.pid ≢ number) t.traced
            new number at idle accepted =
                (others-open number at idle accepted, fresh number at idle accepted)

            left : IsPending k t.options was Stood it.answer.state
                × ((y : TracedProcess) → live_process (now front).system own ≡ Some y
                → Outlasts own y it.answer.state.system)
            left =
                later-pending n k (now front) lawful x.call it.answer it.is over t its was pending.pends Stood
                (on-stays its-event) is_so has next

            goes_on : IsPending k o was Stood (after (now front) e)
            goes_on =
                let gs = g in
                subst (λ (u : TracedState). IsPending k o was Stood u) it.later
                (subst (λ (y : Options). IsPending k y was Stood it.answer.state) gs.options
                left.0)

      own-follows : (y : TracedProcess) → live_process (now next_front).system own ≡ Some y → Follows next_front
      own-follows y later = record {
        spared = subst (Spares own) (sym same) spared-fed;
        there = subst (λ (u : TrussState). IsIn own u.traced) (sym same) there-fed;
        how = by was_so.how;
      }
        where
          same : truss next_front ≡ fed_functions t r
          same = pushed ∙ ap (functions_on t) mine

          by : Pending k o s was Stood front ⊎ TrussIn (IsOther own) t
              → Pending k o s was Stood next_front ⊎ TrussIn (IsOther own) (truss next_front)
          by (inr spent) = inr (subst (TrussIn (IsOther own)) (sym same) (spent-fed spent))
          by (inl pending) = of reads-or-not
            where
              of : ReadsOwn ⊎ ReadsNone
                  → Pending k o s was Stood next_front ⊎ TrussIn (IsOther own) (truss next_front)
              of (inl reads) =
                  inr (subst (TrussIn (IsOther own)) (sym same) (read-follows pending reads y later))
              of (inr none) = inl (none-follows pending none)

  entry-follows : (front back : List Entry) (e : Entry) → h ≡ front ++ e ∷ back → Calm front
      → ((x : Exchange) → exchange_of k e ≡ Some x → WasNotInterrupted x) → FollowsOn front
      → FollowsOn (front ++ e ∷ [])
  entry-follows front back e is calm unbroken so = record {
    made = subst (λ (u : TracedState). own < u.system.made) (sym state-is)
        (stays-made n (now front) e own lawful legal so.made);
    lives = λ y later. by y later (live_process (now front).system own) refl (exchange_of k e) refl;
  }
    where
      legal : IsLegalEntry n (now front) e
      legal = fronts.legal n k o s h run.of front e back is calm

      lawful : IsLawful (now front)
      lawful = let g = fronts.here n k o s h run.of front e back is calm in g.lawful

      state-is : now (front ++ e ∷ []) ≡ after (now front) e
      state-is = fronts.next-state n k o s h run.of front e back is calm

      by : (y : TracedProcess) → live_process (now (front ++ e ∷ [])).system own ≡ Some y
          → (z : Option TracedProcess) → live_process (now front).system own ≡ z → (x : Option Exchange)
          → exchange_of k e ≡ x → Follows (front ++ e ∷ [])
      by y later None none x mine =
          absurd (none-some y
          (sym (stays-over n (now front) e own lawful legal so.made none)
          ∙ ap (λ (u : TracedState). live_process u.system own) (sym state-is) ∙ later))
      by y later (Some p) live None mine = foreign-follows front back e is calm p live (so.lives p live) mine
      by y later (Some p) live (Some x) mine =
          own-follows front back e is calm p live (so.lives p live) x mine (unbroken x mine) y later

  -- ---- all of them

  pub walk : (middle front back : List Entry) → h ≡ front ++ (middle ++ back) → Calm (front ++ middle) → FollowsOn front
      → FollowsOn (front ++ middle)
  walk [] front back is calm so = subst FollowsOn (sym (append-nil front)) so
  walk (e ∷ middle) front back is calm so =
      let parts = sym (append_assoc front (e ∷ []) middle) in
      let more : Calm ((front ++ e ∷ []) ++ middle) = subst Calm parts calm in
      let here : Calm (front ++ e ∷ []) =
      Copies.calm-front n k o s h run opens (front ++ e ∷ []) middle more in
      subst FollowsOn (append_assoc front (e ∷ []) middle)
      (walk middle (front ++ e ∷ []) back (is ∙ sym (append_assoc front (e ∷ []) (middle ++ back))) more
      (entry-follows front (middle ++ back) e is
      (Copies.calm-front n k o s h run opens front (e ∷ []) here)
      (λ x mine. fronts.all-entry WasNotInterrupted k front [] e x here mine) so))
