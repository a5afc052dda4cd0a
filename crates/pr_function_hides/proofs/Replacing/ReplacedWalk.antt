use Rattle.std.proofs.Common.{◌≡◌, ◌≢◌, ◌⊎◌, ◌<◌, ◌==◌, ◌++◌, ℕ, Bool, true, false, cond, not, IfOk, Option, Some, None, Result, Ok, List, [], ◌∷◌, length, append_assoc, refl, sym, subst, ap, ◌∙◌, inl, inr}
use Rattle.std.proofs.lemmas.Bool.{eq-eqb, eqb-false, false≢true}
use Rattle.std.proofs.lemmas.Option.{none-some, same_Some}
use Rattle.std.specs.List.{All}
use Rattle.pr_api.specs.Entries.{call_entry}
use Rattle.pr_line.specs.declared.events.Event.{Event}
use Rattle.pr_line.specs.declared.options.Options.{Options}
use Rattle.pr_model.specs.Handles.{handle_of}
use Rattle.pr_model.specs.Legal.{state_after}
use Rattle.pr_model.specs.State.{TracedProcess, TracedState, live_process}
use Rattle.pr_model.specs.declared.calls.Call.{Call}
use Rattle.pr_model.specs.declared.calls.Call.TheVariants as call
use Rattle.pr_model.specs.declared.calls.Reply.{Reply}
use Rattle.pr_model.specs.declared.events.Act.TheVariants.{Turn}
use Rattle.pr_model.specs.declared.events.Actor.TheVariants.{Lwp}
use Rattle.pr_model.specs.declared.events.Entry.{Entry}
use Rattle.pr_model.specs.declared.handles.Held.{Held}
use Rattle.pr_num.specs.Messages.{first_message}
use Rattle.pr_num.specs.declared.messages.Message.{Message}
use Rattle.pr_num.specs.declared.messages.Message.TheVariants as message
use Rattle.pr_num.specs.declared.messages.MsgFault.{MsgFault}
use Rattle.pr_truss.specs.FunctionCalls.{call_beside, next_function_call_of, patch_call}
use Rattle.pr_truss.specs.Marks.{first_function, has_functions}
use Rattle.pr_truss.specs.NextCalls.{next_call_of}
use Rattle.pr_truss.specs.Trusses.{TrussState, traced_at}
use Rattle.pr_truss.specs.declared.asides.Aside.{Aside}
use Rattle.pr_truss.specs.declared.asides.Aside.TheVariants.{Nothing, Reading, Planting, Patching}
use Rattle.pr_truss.specs.declared.processes.Traced.{Traced}
use Rattle.pr_truss.specs.declared.stages.AfterClosing.TheVariants.{GoOn, OpenNext, RunParent}
use Rattle.pr_truss.specs.declared.stages.OpeningStep.TheVariants as opening
use Rattle.pr_truss.specs.declared.stages.Stage.{Stage}
use Rattle.pr_truss.specs.declared.stages.Stage.TheVariants.{Opening, ReadingText, Running, Closing}
use Rattle.pr_truss_laws.specs.Exchanges.{Exchange, exchange_of, exchanges}
use Rattle.pr_function_laws.proofs.Pending.FrontLemmas as fronts
use Rattle.pr_function_laws.proofs.Marks.KeptPlaces.{AtStage, apart-at}
use Rattle.pr_function_laws.proofs.OpenedProcesses.OpenedCalls.{IsSo}
use Rattle.pr_function_laws.proofs.OpenedProcesses.OpenedLaws.{Goes}
use Rattle.pr_function_laws.proofs.Pending.PendingPlaces.{Pends}
use Rattle.pr_function_laws.proofs.Pending.PendingWalk.{On, Pending}
use Rattle.pr_function_laws.specs.ReachedRuns.{IsReachedFunctionRun}
use Rattle.pr_function_laws.specs.Opened.{WasNotInterrupted, functions_at, is_opened}
use Rattle.pr_function_hides.proofs.Replies.ClosingWalk.{LooksSo, StageSo}
use Rattle.pr_function_hides.proofs.Copying.CopyEnds.{aside-within, stage-within}
use Rattle.pr_function_hides.proofs.Copying.CopyForeign.{control-at}
use Rattle.pr_function_hides.proofs.Copying.CopyPlaces.{FitsSo}
use Rattle.pr_function_hides.proofs.Copying.CopyWalk as Copies
use Rattle.pr_function_hides.proofs.Replies.CountedWalk.{AsideIn, TrussIn}
use Rattle.pr_function_hides.proofs.Replies.FunctionSets.{first-has}
use Rattle.pr_function_hides.proofs.Replies.OwnFiles.{IsBeside}
use Rattle.pr_function_hides.proofs.Tidy.OwnTidy.{Quiet, stage-kind}
use Rattle.pr_function_hides.proofs.Replies.PlacesStay.{IsIn}
use Rattle.pr_function_hides.proofs.Replacing.ReplacedReads.{IsOther}
use Rattle.pr_function_hides.proofs.Replacing.ReplacedTurns as Turns
use Rattle.pr_function_hides.proofs.Replacing.ReplacedTurns.{TellsReplacement}
use Rattle.pr_function_hides.proofs.Tidy.StillMessages.{BeginStill, cfault-still, is_still, read-still}
use Rattle.pr_function_hides.specs.LiftedCopies.{OpensOutOfCopies}
use Rattle.pr_function_hides.specs.Replacing.{WasReplaced, WritesNoneOnceReplaced}
use Rattle.pr_function_hides.proofs.Replacing.ReplacedCalls.{Follows, FollowsOn, IsApart, OpensApart, Spares, closing-apart, fits-looks, opening-apart, walk}

-- Once a vfork or an exec of a process was granted that truss has opened, it sends no PCWRITE to the process.

module _ (n k : ℕ) (o : Options) (s : TracedState) (h : List Entry) (run : IsReachedFunctionRun n k o s h)
    (opens : OpensOutOfCopies k o s h) (was : Traced) (id : ℕ)
    (event : Event) (tells : TellsReplacement event) where
  abbrev own : ℕ
  own = was.pid

  abbrev truss : List Entry → TrussState
  truss front = functions_at k o front

  abbrev now : List Entry → TracedState
  now front = state_after s front

  abbrev Calm : List Entry → Type 0
  Calm front = All WasNotInterrupted (exchanges k front)

  -- ---- what truss sends

  module _ (front back : List Entry) (handle : ℕ) (sent : List ℕ) (r : Reply)
      (is : h ≡ front ++ call_entry k (call.Ctl handle sent) r ∷ back) (calm : Calm front) (held : Held)
      (there : handle_of (now front).opens k handle ≡ Some held) (its : held.pid ≡ own)
      (follows : Follows n k o s h run opens was id event tells front)
      (at size len : ℕ) (read : first_message sent ≡ Ok (message.Write at size, len)) where
    abbrev t : TrussState
    t = truss front

    abbrev c : Call
    c = call.Ctl handle sent

    abbrev x : Exchange
    x = record { call = c; reply = r }

    own-entry-is : exchange_of k (call_entry k c r) ≡ Some x
    own-entry-is = ap (λ b. cond b (Some x) None) (eq-eqb k k refl)

    g : Goes (Unit {0}) k o t (now front)
    g = Copies.goes n k o s h run opens front back (call_entry k c r) is calm

    has : has_functions t.options ≡ true
    has = fronts.has n k o s h run.of front (call_entry k c r) back is calm

    next : next_function_call_of t ≡ Some c
    next = fronts.makes-next n k o s h run.of front (call_entry k c r) back is calm x own-entry-is

    -- it is no other message
    still-not : (number : ℕ) (bytes_sent : List ℕ) → c ≡ call.Ctl number bytes_sent → BeginStill bytes_sent → ⊥
    still-not number bytes_sent same still =
        false≢true
        (subst (λ (y : Result (Message × ℕ) MsgFault). IfOk y (λ first. is_still first.0 ≡ true)) read
        (subst BeginStill (ctl-same (sym same)).1 still))
      where
        ctl-same : {a b : ℕ} {xs ys : List ℕ} → call.Ctl a xs ≡ call.Ctl b ys → (a ≡ b) × (xs ≡ ys)
        ctl-same e = (cc, cc)

    quiet-not : Quiet c t → ⊥
    quiet-not (inl (q, (within, (bytes_sent, (same, still))))) = still-not _ bytes_sent same still
    quiet-not (inr never) = never handle sent refl

    -- a write goes to the process
    writes-own : (q : ℕ) → q < length t.traced → (bytes_sent : List ℕ)
        → Some (call.Ctl (traced_at t q).control bytes_sent) ≡ Some c → (traced_at t q).pid ≡ own
    writes-own q within bytes_sent same =
        ap (λ (y : Held). y.pid)
        (same_Some _ held
        (sym (control-at n k o t (now front) g q within)
        ∙ ap (handle_of (now front).opens k) (ctl-same (same_Some _ c same)) ∙ there))
        ∙ its
      where
        ctl-same : {a b : ℕ} {xs ys : List ℕ} → call.Ctl a xs ≡ call.Ctl b ys → a ≡ b
        ctl-same e = cc

    -- where it patches the breakpoints of a process, that is another one
    patches-apart : (q : ℕ) (plants lifts : List Bool) (clear : Bool) → t.aside ≡ Patching q plants lifts clear
        → (first_function plants ≢ None) ⊎ (first_function lifts ≢ None) → (traced_at t q).pid ≢ own
    patches-apart q plants lifts clear beside some = by follows.how
      where
        found : {A : Type 0} (set : List Bool) → ((i : ℕ) → first_function set ≡ Some i → A)
            → first_function set ≢ None → A
        found {A} set go some = of (first_function set) refl
          where
            of : (f : Option ℕ) → first_function set ≡ f → A
            of None is = absurd (some is)
            of (Some i) is = go i is

        fits : FitsSo (Patching q plants lifts clear) t.stage
        fits =
            let st =
            Copies.stands-after n k o s h run opens front (call_entry k c r ∷ back) is calm in
            let so = st.copies in subst (λ y. FitsSo y t.stage) beside so.fits

        soon : Pending k o s was (On (record { id = id; event = event })) front → (stage : Stage) → t.stage ≡ stage
            → FitsSo (Patching q plants lifts clear) stage → AtStage (Pends own was) t.traced stage
            → (traced_at t q).pid ≢ own
        soon pending (Closing b following) at w placed =
            subst (λ i. (traced_at t i).pid ≢ own) (sym w.0)
            (closing-apart own t follows.spared b following at)
        soon pending (Running b) at w placed = subst (λ i. (traced_at t i).pid ≢ own) (sym w) placed.1.1
        soon pending (ReadingText b l from many) at w placed =
            subst (λ i. (traced_at t i).pid ≢ own) (sym w) placed.1.1
        soon pending _ at w placed = absurd w

        by : Pending k o s was (On (record { id = id; event = event })) front ⊎ TrussIn (IsOther own) t
            → (traced_at t q).pid ≢ own
        by (inl pending) =
            let pends = pending.pends in soon pending t.stage refl fits pends.stage
        by (inr spent) = of some
          where
            of : (first_function plants ≢ None) ⊎ (first_function lifts ≢ None) → (traced_at t q).pid ≢ own
            of (inl plant) =
                let it = subst (AsideIn (IsOther own) t.traced) beside spent.aside in
                found plants (λ i first. it.0 i (first-has plants i first)) plant
            of (inr lift) =
                let it = subst (AsideIn (IsOther own) t.traced) beside spent.aside in
                found lifts (λ i first. it.1 i (first-has lifts i first)) lift

    aside-never : (aside : Aside) → t.aside ≡ aside → IsBeside (length t.traced) aside
        → call_beside t t.stage aside ≡ Some c → ⊥
    unfolding call_beside
    aside-never Nothing beside within same =
        quiet-not (stage-kind c t t.stage
        (let w = g in let m = w.kept in stage-within (IsSo (Unit {0}) k t.options (now front)) t.traced t.stage m.stage)
        same)
    aside-never (Reading q i) beside within same = still-not _ _ (sym (same_Some _ c same)) (read-still _ _)
    aside-never (Planting q i) beside within same =
        let so = follows.spared in
        opening-apart own t so q opening.Start (subst (LooksSo t.stage) beside so.looks)
        (writes-own q within _ same)
    aside-never (Patching q plants lifts clear) beside within same =
        by (first_function plants) (first_function lifts) refl refl same
      where
        some-not : (f : Option ℕ) (i : ℕ) → f ≡ Some i → f ≢ None
        some-not f i is none = none-some i (sym none ∙ is)

        by : (plant lift : Option ℕ) → first_function plants ≡ plant → first_function lifts ≡ lift
            → Some (patch_call t.options (traced_at t q).control plant lift) ≡ Some c → ⊥
        by (Some i) lift first second sent_so =
            patches-apart q plants lifts clear beside (inl (some-not _ i first)) (writes-own q within _ sent_so)
        by None (Some i) first second sent_so =
            patches-apart q plants lifts clear beside (inr (some-not _ i second)) (writes-own q within _ sent_so)
        by None None first second sent_so = still-not _ _ (sym (same_Some _ c sent_so)) cfault-still
    aside-never _ beside within same = absurd within

    pub never-writes : ⊥
    unfolding next_function_call_of
    never-writes =
        aside-never t.aside refl
        (let w = g in
        let m = w.kept in aside-within (IsSo (Unit {0}) k t.options (now front)) t.traced t.aside m.beside)
        (sym (ap (λ b. cond b (call_beside t t.stage t.aside) (next_call_of t)) has) ∙ next)

-- ---- the law

module _ (n k : ℕ) (o : Options) (s : TracedState) (h : List Entry) (run : IsReachedFunctionRun n k o s h)
    (opens : OpensOutOfCopies k o s h) where
  abbrev state_then : List Entry → TracedState
  state_then front = state_after s front

  module _ (front back : List Entry) (handle : ℕ) (sent : List ℕ) (r : Reply) (held : Held) (p : TracedProcess)
      (at size len : ℕ) (is : h ≡ front ++ call_entry k (call.Ctl handle sent) r ∷ back)
      (calm : All WasNotInterrupted (exchanges k front))
      (there : handle_of (state_then front).opens k handle ≡ Some held)
      (live : live_process (state_then front).system held.pid ≡ Some p) (w : WasReplaced k o front held.pid)
      (read : first_message sent ≡ Ok (message.Write at size, len)) where
    abbrev truss_then : TrussState
    truss_then = functions_at k o w.before

    abbrev was : Traced
    was = traced_at truss_then w.place

    abbrev e : Entry
    e = record { actor = Lwp was.pid w.id; act = Turn w.t }

    abbrev rest : List Entry
    rest = w.later ++ call_entry k (call.Ctl handle sent) r ∷ back

    front-is : front ≡ w.before ++ e ∷ w.later
    front-is = w.is ∙ ap (λ i. w.before ++ record { actor = Lwp i w.id; act = Turn w.t } ∷ w.later) (sym w.own)

    whole : h ≡ w.before ++ e ∷ rest
    whole =
        is ∙ ap (λ es. es ++ call_entry k (call.Ctl handle sent) r ∷ back) front-is
        ∙ append_assoc w.before (e ∷ w.later) (call_entry k (call.Ctl handle sent) r ∷ back)

    calm-all : All WasNotInterrupted (exchanges k (w.before ++ e ∷ w.later))
    calm-all = subst (λ es. All WasNotInterrupted (exchanges k es)) front-is calm

    calm-before : All WasNotInterrupted (exchanges k w.before)
    calm-before = Copies.calm-front n k o s h run opens w.before (e ∷ w.later) calm-all

    new-then : was.old ≡ 0
    new-then =
        Turns.none-old n k o s h run opens w.before rest w.place w.id w.t whole calm-before w.within
        w.opened

    abbrev event : Event
    event =
        Turns.event n k o s h run w.before rest w.place w.id w.t whole calm-before w.within
        w.opened w.takes new-then

    tells : TellsReplacement event
    tells =
        Turns.event-tells n k o s h run w.before rest w.place w.id w.t whole calm-before
        w.within w.opened w.takes new-then

    abbrev Follows-on : List Entry → Type 0
    Follows-on = FollowsOn n k o s h run opens was w.id event tells

    first-there : Goes ⊥ k o truss_then (state_then w.before)
    first-there = fronts.here n k o s h run.of w.before e rest whole calm-before

    -- when the call is made truss neither opens nor closes the process
    spared-first : Spares was.pid truss_then
    spared-first = record {
      stage =
          let g = first-there in
          let m = g.kept in
          by truss_then.stage w.opened m.stage;
      looks =
          let st = Copies.stands-after n k o s h run opens w.before (e ∷ rest) whole calm-before in
          let so = st.copies in fits-looks truss_then.aside truss_then.stage so.fits;
    }
      where
        negated : (b : Bool) → not b ≡ true → b ≡ false
        negated true same = absurd (false≢true same)
        negated false same = refl

        apart : (b : ℕ) → b < length truss_then.traced → not (b == w.place) ≡ true
            → (traced_at truss_then b).pid ≢ was.pid
        apart b within other =
            let g = first-there in
            let m = g.kept in
            apart-at truss_then.traced b w.place within w.within
            (eqb-false b w.place (negated (b == w.place) other)) m.apart

        by : (stage : Stage) → is_opened stage w.place ≡ true
            → AtStage (IsSo ⊥ k truss_then.options (state_then w.before)) truss_then.traced stage
            → StageSo (IsApart was.pid) (OpensApart was.pid) (IsApart was.pid) truss_then stage
        by (Opening b step) other placed = apart b placed.0 other
        by (Closing b OpenNext) other placed = inl (apart b placed.0 other)
        by (Closing b GoOn) other placed = apart b placed.0 other
        by (Closing b (RunParent parent)) other placed = absurd placed
        by _ other placed = tt

    first-follows : Follows-on (w.before ++ e ∷ [])
    first-follows =
        let same = Turns.truss-later n k o s h run w.before rest w.place w.id w.t whole
        calm-before w.within w.opened w.takes new-then in
        record {
          made = Turns.made-later n k o s h run w.before rest w.place w.id w.t whole
              calm-before w.within w.opened w.takes new-then;
          lives = λ y later. record {
            spared = subst (Spares was.pid) (sym same) spared-first;
            there = subst (λ (u : TrussState). IsIn was.pid u.traced) (sym same)
                (record { place = w.place; within = w.within; own = refl });
            how = inl (Turns.first-pending n k o s h run w.before rest w.place w.id w.t whole
                calm-before w.within w.opened w.takes new-then);
          };
        }

    parts : (w.before ++ e ∷ []) ++ w.later ≡ front
    parts = append_assoc w.before (e ∷ []) w.later ∙ sym front-is

    at-front : Follows-on front
    at-front =
        subst Follows-on parts
        (walk n k o s h run opens was w.id event tells w.later (w.before ++ e ∷ [])
        (call_entry k (call.Ctl handle sent) r ∷ back)
        (whole ∙ sym (append_assoc w.before (e ∷ []) rest))
        (subst (λ es. All WasNotInterrupted (exchanges k es)) (sym parts) calm) first-follows)

    pub none-written : ⊥
    none-written =
        let so = at-front in
        never-writes n k o s h run opens was w.id event tells front back handle sent r is calm held
        there (sym w.own)
        (so.lives p (ap (live_process (state_then front).system) w.own ∙ live)) at size len read

  pub writes-none-so : WritesNoneOnceReplaced k o s h
  writes-none-so = record {
    none = λ front back handle sent r held p at size len is calm there live replaced read.
        none-written front back handle sent r held p at size len is calm there live replaced read;
  }

pub ruleset writes_none = (writes-none-so)
