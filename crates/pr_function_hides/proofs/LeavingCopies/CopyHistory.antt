use Rattle.std.proofs.Common.{◌≡◌, ◌≢◌, ◌⊎◌, ◌<◌, ◌++◌, ℕ, true, false, Option, None, Some, List, [], ◌∷◌, length, append-nil, append_assoc, refl, sym, subst, ap, ◌∙◌, inl, inr}
use Rattle.std.proofs.lemmas.List.Elements.{All-append, All-cons, All-nil}
use Rattle.std.proofs.lemmas.Bool.{false≢true}
use Rattle.std.proofs.lemmas.Option.{none-some, same_Some}
use Rattle.std.specs.List.{All, cons_option, slice_get}
use Rattle.pr_line.specs.declared.events.Event.{Event}
use Rattle.pr_line.specs.declared.options.Options.{Options}
use Rattle.pr_model.proofs.HistoryLemmas.{state_after-push}
use Rattle.pr_model.specs.Lawful.{IsLawful}
use Rattle.pr_model.specs.Legal.{IsLegal, IsLegalEntry, after, state_after}
use Rattle.pr_model.specs.Replies.{bytes_in}
use Rattle.pr_model.specs.State.{TracedProcess, TracedState, live_process}
use Rattle.pr_model.specs.declared.calls.Reply.{Reply}
use Rattle.pr_model.specs.declared.calls.Reply.TheVariants as reply
use Rattle.pr_model.specs.declared.events.Act.TheVariants.{Turn}
use Rattle.pr_model.specs.declared.events.Actor.TheVariants.{Lwp}
use Rattle.pr_model.specs.declared.events.Entry.{Entry}
use Rattle.pr_model.specs.declared.events.Turned.{Turned}
use Rattle.pr_num.specs.declared.errnos.Errno.TheVariants.{Intr}
use Rattle.pr_rec.specs.declared.lwps.LwpStatus.{LwpStatus}
use Rattle.pr_reached.proofs.Together.ReachedLemmas.{later-reached}
use Rattle.pr_reached.specs.ByteHistories.{HasBytes}
use Rattle.pr_report_laws.proofs.Files.WatchHistories.{no-exchanges}
use Rattle.pr_truss.specs.Asides.{marks_at}
use Rattle.pr_tool_laws.proofs.Records.WholeLemmas.{front-legal}
use Rattle.pr_truss.specs.FunctionCalls.{function_call_of}
use Rattle.pr_truss.specs.FunctionEvents.{fresh_event, function_event}
use Rattle.pr_truss.specs.FunctionFeeding.{fed_functions}
use Rattle.pr_truss.specs.Marks.{has_functions}
use Rattle.pr_truss.specs.NextCalls.{call_of}
use Rattle.pr_truss.specs.Records.{event_stops}
use Rattle.pr_truss.specs.Replies.{answer_of}
use Rattle.pr_truss.specs.Trusses.{TrussState, traced_at}
use Rattle.pr_truss.specs.declared.asides.Aside.TheVariants.{Nothing}
use Rattle.pr_truss.specs.declared.function_events.FunctionEvent.TheVariants.{Replaced}
use Rattle.pr_truss.specs.declared.replies.Answer.TheVariants.{Accepted}
use Rattle.pr_truss.specs.declared.stages.Stage.TheVariants.{ReadingLwps, ReadingStatus}
use Rattle.pr_truss_laws.specs.Exchanges.{Exchange, exchange_of, exchanges}
use Rattle.pr_function_laws.proofs.Stepping.BreakpointLemmas.{IsOwnEntry}
use Rattle.pr_function_laws.proofs.Marks.KeptPlaces.{AtStage}
use Rattle.pr_function_laws.proofs.OpenedProcesses.OpenedCalls.{IsSo}
use Rattle.pr_function_laws.proofs.OpenedProcesses.OpenedLaws.{bytes-front}
use Rattle.pr_function_laws.proofs.OrdinaryTruss.OrdinaryFiles.{entry-calm}
use Rattle.pr_function_laws.proofs.NextCalls.PatchCalls.{next-staged}
use Rattle.pr_function_laws.specs.ReachedRuns.{IsReachedFunctionRun}
use Rattle.pr_function_laws.specs.Opened.{WasNotInterrupted, functions_at}
use Rattle.pr_function_laws.specs.Runs.{functions_after}
use Rattle.pr_function_hides.proofs.LeavingCopies.CopyBegins.{all-now}
use Rattle.pr_function_hides.proofs.LeavingCopies.CopyLeaves.{HasOld, Leaves, foreign-leaves, leaving-finds-none, left-reads-none}
use Rattle.pr_function_hides.proofs.LeavingCopies.CopyLeavingCalls.{call-leaves}
use Rattle.pr_function_hides.proofs.LeavingCopies.CopyLooks.{look-finds-none}
use Rattle.pr_function_hides.proofs.LeavingCopies.CopyStill.{begins-to-leave}
use Rattle.pr_function_hides.proofs.Replies.LeavingStages.{is_looked}
use Rattle.pr_function_hides.proofs.Copying.CopyWalk.{exchanges-then, finds-none, goes, lawful-now, legal-now, next-is, own-answer, own-over, reads-lifted, stands-after, told-lives, truss-then}
use Rattle.pr_function_hides.specs.Copying.{IsEmpty, makes_copy}
use Rattle.pr_function_hides.specs.LiftedCopies.{CopiesFindNone, OpensOutOfCopies}

-- Along a whole history of truss with functions, also once it was interrupted: a fork, a vfork and an exec that is
-- granted finds no breakpoint in a process that truss traces.

-- a reply is an interrupt, or is none
is-interrupt : (r : Reply) → (r ≡ reply.Fail Intr) ⊎ (r ≢ reply.Fail Intr)
is-interrupt (reply.Fail Intr) = inl refl
is-interrupt (reply.Fail _) = inr (λ e. cc)
is-interrupt _ = inr (λ e. cc)

module _ (n k : ℕ) (o : Options) (s : TracedState) (h : List Entry) (run : IsReachedFunctionRun n k o s h)
    (opens : OpensOutOfCopies k o s h) where
  abbrev truss : List Entry → TrussState
  truss front = functions_at k o front

  abbrev now : List Entry → TracedState
  now front = state_after s front

  abbrev Calm : List Entry → Type 0
  Calm front = All WasNotInterrupted (exchanges k front)

  -- it was not interrupted yet, or leaves its processes
  data ComesTo (front : List Entry) : Type 0 where
    is_calm : Calm front → ComesTo front
    leaves : (t : TrussState) → Leaves k o t (truss front) (now front) → ComesTo front

  -- ---- one entry

  module _ (front back : List Entry) (e : Entry) (is : h ≡ front ++ e ∷ back) where
    legal : IsLegalEntry n (now front) e
    legal = legal-now n k o s h run opens front back e is

    abbrev answered : (x : Exchange) → exchange_of k e ≡ Some x → IsOwnEntry k (now front) e x
    answered x own = own-answer n k o s h run opens front back e is x own

    -- the state and truss with this entry
    later-state : after (now front) e ≡ now (front ++ e ∷ [])
    later-state = sym (state_after-push s front e)

    then-is : (x : Option Exchange) → exchange_of k e ≡ x
        → truss (front ++ e ∷ []) ≡ functions_after (truss front) (cons_option x [])
    then-is x own = truss-then n k o s h run opens front back e is x own

    own-later : (x : Exchange) → (own : exchange_of k e ≡ Some x) → (t : TrussState)
        → (let it = answered x own in Leaves k o t (fed_functions (truss front) it.answer.reply) it.answer.state)
        → ComesTo (front ++ e ∷ [])
    own-later x own t w =
        let it = answered x own in
        leaves t
        (subst (λ (u : TrussState). Leaves k o t u (now (front ++ e ∷ []))) (sym (then-is (Some x) own))
        (subst (λ (u : TracedState). Leaves k o t (fed_functions (truss front) x.reply) u) (it.later ∙ later-state)
        (subst (λ (y : Reply). Leaves k o t (fed_functions (truss front) y) it.answer.state) it.replied w)))

    -- it was not interrupted before
    module _ (calm : Calm front) where
      then-calm : (x : Option Exchange) → exchange_of k e ≡ x
          → ((y : Exchange) → x ≡ Some y → WasNotInterrupted y) → Calm (front ++ e ∷ [])
      then-calm x own was =
          subst (All WasNotInterrupted)
          (sym (exchanges-then n k o s h run opens front back e is x own))
          (All-append WasNotInterrupted (exchanges k front) (cons_option x []) calm (by x was))
        where
          by : (x : Option Exchange) → ((y : Exchange) → x ≡ Some y → WasNotInterrupted y)
              → All WasNotInterrupted (cons_option x [])
          by None was = All-nil WasNotInterrupted
          by (Some y) was = All-cons WasNotInterrupted y [] (was y refl) (All-nil WasNotInterrupted)

      begins : (x : Exchange) → (own : exchange_of k e ≡ Some x) → x.reply ≡ reply.Fail Intr
          → ComesTo (front ++ e ∷ [])
      unfolding answer_of
      begins x own broken =
          let it = answered x own in
          let st = stands-after n k o s h run opens front (e ∷ back) is calm in
          let waits = entry-calm n k (now front) e x legal own in
          let g = goes n k o s h run opens front back e is calm in
          own-later x own (truss front)
          (begins-to-leave (truss front) st.known x.call it.answer.reply (ap has_functions g.options ∙ run.of.has)
          (next-is n k o s h run opens front back e is x own) (waits.waits broken)
          (ap answer_of (it.replied ∙ broken)) k o it.answer.state g.options
          (all-now n k o (truss front) (now front) g st.copies x.call it.answer it.is
          (own-over n k o s h run opens front back e is x own) (waits.waits broken)))

      calm-next : ComesTo (front ++ e ∷ [])
      calm-next = by (exchange_of k e) refl
        where
          replied : (x : Exchange) → exchange_of k e ≡ Some x
              → (x.reply ≡ reply.Fail Intr) ⊎ (x.reply ≢ reply.Fail Intr) → ComesTo (front ++ e ∷ [])
          replied x own (inl broken) = begins x own broken
          replied x own (inr unbroken) =
              is_calm (then-calm (Some x) own (λ y same. subst WasNotInterrupted (same_Some x y same)
              (record { unbroken = unbroken })))

          by : (x : Option Exchange) → exchange_of k e ≡ x → ComesTo (front ++ e ∷ [])
          by None own = is_calm (then-calm None own (λ y same. absurd (none-some y same)))
          by (Some x) own = replied x own (is-interrupt x.reply)

    -- it leaves its processes
    left-next : (t : TrussState) → Leaves k o t (truss front) (now front) → ComesTo (front ++ e ∷ [])
    left-next t w = by (exchange_of k e) refl
      where
        lawful : IsLawful (now front)
        lawful = lawful-now n k o s h run opens front back e is

        by : (x : Option Exchange) → exchange_of k e ≡ x → ComesTo (front ++ e ∷ [])
        by None own =
            leaves t
            (subst (λ (u : TrussState). Leaves k o t u (now (front ++ e ∷ []))) (sym (then-is None own))
            (subst (λ (u : TracedState). Leaves k o t (truss front) u) later-state
            (foreign-leaves n k o (now front) lawful e legal own t (truss front) w)))
        by (Some x) own =
            let it = answered x own in
            own-later x own t
            (call-leaves n k o t (now front) lawful x.call it.answer it.is
            (own-over n k o s h run opens front back e is x own) (truss front) w run.of.has
            run.of.follows_none (next-is n k o s h run opens front back e is x own))

    entry-comes : ComesTo front → ComesTo (front ++ e ∷ [])
    entry-comes (is_calm calm) = calm-next calm
    entry-comes (leaves t w) = left-next t w

  -- ---- all of them

  walk : (middle front back : List Entry) → h ≡ front ++ (middle ++ back) → ComesTo front → ComesTo (front ++ middle)
  walk [] front back is st = subst ComesTo (sym (append-nil front)) st
  walk (e ∷ middle) front back is st =
      subst ComesTo (append_assoc front (e ∷ []) middle)
      (walk middle (front ++ e ∷ []) back (is ∙ sym (append_assoc front (e ∷ []) (middle ++ back)))
      (entry-comes front (middle ++ back) e is st))

  comes-to : (front back : List Entry) → h ≡ front ++ back → ComesTo front
  comes-to front back is =
      walk front [] back is (is_calm (subst (All WasNotInterrupted) (sym (no-exchanges k)) (All-nil WasNotInterrupted)))

  -- as long as it does not leave its processes it was not interrupted
  pub stays-calm : (front back : List Entry) → h ≡ front ++ back → (truss front).leaving ≡ false → Calm front
  stays-calm front back is off = by (comes-to front back is)
    where
      by : ComesTo front → Calm front
      by (is_calm calm) = calm
      by (leaves t w) = absurd (false≢true (sym off ∙ (let l = w.left in l.on)))

  -- ---- what is granted, and what is read

  granted : (front back : List Entry) (place id : ℕ) (turned : Turned)
      → h ≡ front ++ record { actor = Lwp (traced_at (truss front) place).pid id; act = Turn turned } ∷ back
      → place < length (truss front).traced → makes_copy turned.did ≡ true
      → IsEmpty (marks_at (truss front) place).planted
  unfolding IsLegalEntry
  granted front back place id turned is within makes = by (comes-to front (e ∷ back) is)
    where
      e : Entry
      e = record { actor = Lwp (traced_at (truss front) place).pid id; act = Turn turned }

      its : IsLegalEntry n (now front)
          (record { actor = Lwp (traced_at (truss front) place).pid id; act = Turn turned })
      its = legal front back e is

      by : ComesTo front → IsEmpty (marks_at (truss front) place).planted
      by (is_calm calm) =
          finds-none n k o s h run opens front back place id turned is calm within makes
      by (leaves t w) =
          leaving-finds-none k o t (truss front) (now front)
          (lawful-now n k o s h run opens front back e is) w place within id
          (record { system = its.0; turned = turned }) its.1 makes

  -- truss that leaves reads no status
  reads-calm : (front back : List Entry) (place : ℕ) → h ≡ front ++ back
      → (truss front).stage ≡ ReadingStatus place → Calm front
  reads-calm front back place is reads = by (comes-to front back is)
    where
      by : ComesTo front → Calm front
      by (is_calm calm) = calm
      by (leaves t w) = absurd (left-reads-none (truss front) place (let l = w.left in l.at) reads)

  -- a process of which truss was told a status lives
  pub status-lives : (front back : List Entry) (e : Entry) (x : Exchange) (place : ℕ) → h ≡ front ++ e ∷ back
      → exchange_of k e ≡ Some x → place < length (truss front).traced → (truss front).stage ≡ ReadingStatus place
      → (truss front).aside ≡ Nothing → answer_of x.reply ≡ Accepted
      → (p : TracedProcess) × (live_process (now front).system (traced_at (truss front) place).pid ≡ Some p)
  status-lives front back e x place is own within reads idle accepted =
      told-lives n k o s h run opens front back e x place is
      (reads-calm front (e ∷ back) place is reads) own within reads idle accepted

  -- the look at the lwps of a process, by which truss leaves it
  looked : (front back : List Entry) (e : Entry) (x : Exchange) (l : LwpStatus) (event : Event) → h ≡ front ++ e ∷ back
      → exchange_of k e ≡ Some x → 0 < length (truss front).traced → (truss front).stage ≡ ReadingLwps
      → (truss front).aside ≡ Nothing → answer_of x.reply ≡ Accepted
      → slice_get (event_stops (bytes_in x.reply)) 0 ≡ Some l
      → fresh_event (traced_at (truss front) 0) l ≡ Some event
      → function_event o (marks_at (truss front) 0) l.id event ≡ Replaced → IsEmpty (marks_at (truss front) 0).planted
  unfolding function_call_of call_of
  looked front back e x l event is own within reads idle accepted told fresh replaced =
      by (comes-to front (e ∷ back) is)
    where
      by : ComesTo front → IsEmpty (marks_at (truss front) 0).planted
      by (is_calm calm) =
          let g = goes n k o s h run opens front back e is calm in
          let kept = g.kept in
          absurd
          (subst (AtStage (IsSo (Unit {0}) k (truss front).options (now front)) (truss front).traced) reads kept.stage)
      by (leaves t w) =
          let it = answered front back e is x own in
          let here = w.left in
          let old = here.unlooked 0 within (λ looks. absurd (false≢true (ap is_looked (sym reads) ∙ looks))) in
          let known = old.known in
          let has : has_functions (truss front).options ≡ true = ap has_functions w.options ∙ run.of.has in
          look-finds-none k o (HasOld t) (now front)
          (later-reached n s front run.reached (bytes-front front (e ∷ back) (subst HasBytes is run.bytes))
          (front-legal n s front (e ∷ back) (subst (IsLegal n s) is run.of.legal))) (traced_at (truss front) 0)
          (here.each 0 within) known.number known.is x.call it.answer
          (same_Some x.call _
          (sym (next-is n k o s h run opens front back e is x own)
          ∙ next-staged (truss front).options has (truss front) ReadingLwps refl idle reads)) it.is
          (ap answer_of it.replied ∙ accepted) l
          (ap (λ (y : Reply). slice_get (event_stops (bytes_in y)) 0) it.replied ∙ told) event fresh replaced old.old

  pub finds-so : CopiesFindNone k o s h
  finds-so = record {
    copies = λ front back place id turned is within makes. granted front back place id turned is within makes;
    replaced = λ front back e x place l event is own within reads idle accepted told fresh replaced.
        reads-lifted n k o s h run opens front back e x place l event is
        (reads-calm front (e ∷ back) place is reads) own within reads idle accepted told fresh replaced;
    last = λ front back e x l event is own within reads idle accepted told fresh replaced.
        looked front back e x l event is own within reads idle accepted told fresh replaced;
  }

pub ruleset copies_lifted = (finds-so)
