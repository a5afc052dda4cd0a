use Rattle.std.proofs.Common.{◌≡◌, ◌≢◌, ◌<◌, ◌++◌, ℕ, true, Option, Some, None, List, [], ◌∷◌, length, append-nil}
use Rattle.std.proofs.Common.{append_assoc, refl, sym, subst, ap, ◌∙◌, arith}
use Rattle.std.proofs.lemmas.List.Elements.{All-cons, All-head, All-nil, All-tail}
use Rattle.std.proofs.lemmas.Option.{same_Some}
use Rattle.std.specs.List.{All, cons_option}
use Rattle.std.specs.Option.{option_and_then}
use Rattle.pr_lawful.proofs.LawfulStates.HistoryLemmas.{history-state}
use Rattle.pr_line.specs.declared.events.Event.{Event}
use Rattle.pr_line.specs.declared.options.Options.{Options}
use Rattle.pr_model.proofs.HistoryLemmas.{state_after-push}
use Rattle.pr_model.specs.Lawful.{IsLawful}
use Rattle.pr_model.specs.Legal.{IsLegal, IsLegalEntry, state_after}
use Rattle.pr_model.specs.State.{TracedProcess, TracedState, TracedSystem, live_process}
use Rattle.pr_model.specs.Replies.{bytes_in}
use Rattle.pr_model.specs.declared.calls.Reply.TheVariants as reply
use Rattle.pr_model.specs.declared.events.Act.TheVariants.{Turn}
use Rattle.pr_model.specs.declared.events.Actor.TheVariants.{Lwp}
use Rattle.pr_model.specs.declared.events.Entry.{Entry}
use Rattle.pr_model.specs.declared.events.Turned.{Turned}
use Rattle.pr_num.specs.declared.errnos.Errno.TheVariants.{Intr}
use Rattle.pr_rec.specs.declared.lwps.LwpStatus.{LwpStatus}
use Rattle.pr_reached.specs.ByteHistories.{HasBytes}
use Rattle.pr_reached.proofs.Sleepers.SleptHistories.{history-awake}
use Rattle.pr_reached.specs.SleptCopies.{NoneSleepsInCopy}
use Rattle.pr_report_laws.proofs.Files.WatchHistories.{cons-exchanges, exchanges-both, no-exchanges}
use Rattle.pr_report_laws.proofs.Invariant.StandLemmas.{Each}
use Rattle.pr_tool_laws.proofs.Records.WholeLemmas.{front-legal}
use Rattle.pr_truss.specs.Asides.{marks_at}
use Rattle.pr_truss.specs.FunctionEvents.{fresh_event, function_event}
use Rattle.pr_truss.specs.Records.{status_lwp}
use Rattle.pr_truss.specs.declared.function_events.FunctionEvent.TheVariants.{Replaced}
use Rattle.pr_truss.specs.declared.stages.Stage.TheVariants.{OpeningControl, ReadingStatus}
use Rattle.pr_truss.specs.FunctionCalls.{next_function_call_of}
use Rattle.pr_truss.specs.FunctionFeeding.{fed_functions}
use Rattle.pr_truss.specs.Marks.{has_functions}
use Rattle.pr_truss.specs.Replies.{answer_of}
use Rattle.pr_truss.specs.Trusses.{TrussState, first_of_program, first_truss, idle, opening_or, traced_at}
use Rattle.pr_truss.specs.declared.asides.Aside.TheVariants.{Nothing}
use Rattle.pr_truss.specs.declared.processes.Traced.{Traced}
use Rattle.pr_truss.specs.declared.replies.Answer.TheVariants.{Accepted, Interrupted}
use Rattle.pr_truss_laws.proofs.Replies.AnswerLemmas.{IsAnswer, answer-is}
use Rattle.pr_truss_laws.proofs.Machine.OverLemmas.{stays-over}
use Rattle.pr_truss_laws.specs.Exchanges.{Exchange, exchange_of, exchanges}
use Rattle.pr_function_laws.proofs.Stepping.BreakpointLemmas.{IsOwnEntry, own-entry, read-is}
use Rattle.pr_function_laws.proofs.CallTurns.CalledLaws.{functions-both}
use Rattle.pr_function_laws.proofs.Marks.KeptPlaces.{Kept}
use Rattle.pr_function_laws.proofs.OpenedProcesses.OpenedCalls.{control-fresh}
use Rattle.pr_function_laws.proofs.OpenedProcesses.OpenedLaws.{Goes, before-goes, bytes-front, calls-rest}
use Rattle.pr_function_laws.specs.ReachedRuns.{IsReachedFunctionRun}
use Rattle.pr_function_laws.specs.Opened.{WasNotInterrupted, functions_at}
use Rattle.pr_function_laws.specs.Runs.{MakesFunctionCalls, functions_after}
use Rattle.pr_function_hides.proofs.Files.CallFacts.{legal-here}
use Rattle.pr_function_hides.proofs.Copying.CopyCalls.{call-copies}
use Rattle.pr_function_hides.proofs.Copying.CopyEnds.{copy-finds-lifted, gone-there}
use Rattle.pr_function_hides.proofs.Copying.CopyForeign.{foreign-copies}
use Rattle.pr_function_hides.proofs.Copying.CopyOwn.{OwnCall}
use Rattle.pr_function_hides.proofs.Copying.CopyPlaces.{CopiesSo}
use Rattle.pr_function_hides.proofs.StoppedCopies.CopyOuts.{none-begun}
use Rattle.pr_function_hides.proofs.Copying.CopyReading.{read-lives, replaced-lifted}
use Rattle.pr_function_hides.proofs.Files.YoungOpenings.{Young, young-fed, young-first}
use Rattle.pr_function_laws.proofs.Pending.KnownFiles.{Knows, known-fed, known-first}
use Rattle.pr_function_hides.specs.Copying.{IsEmpty, IsLifted, makes_copy}
use Rattle.pr_function_hides.specs.LiftedCopies.{OpensOutOfCopies}

-- Along each history of truss with functions the forks, vforks and execs of its processes stand as they are to with
-- what is planted there: so one that is granted finds no breakpoint.

module _ (n k : ℕ) (o : Options) (s : TracedState) (h : List Entry) (run : IsReachedFunctionRun n k o s h)
    (opens : OpensOutOfCopies k o s h) where
  abbrev truss : List Entry → TrussState
  truss front = functions_at k o front

  abbrev now : List Entry → TracedState
  now front = state_after s front

  abbrev Calm : List Entry → Type 0
  Calm front = All WasNotInterrupted (exchanges k front)

  -- what is so after some entries
  pub record StandsAfter (front : List Entry) : Type 0 where
    pub known : Kept Knows (truss front)
    pub young : Kept Young (truss front)
    pub copies : CopiesSo (truss front) (now front).system

  -- ---- before the first call

  first-pid : (p : Option ℕ) (u : TracedSystem) → CopiesSo (opening_or (idle o) (idle o) p) u
  first-pid None u = record {
    clean = λ place within. absurd (omega (arith, within));
    fits = tt;
    each = λ place within. absurd (omega (arith, within));
  }
  first-pid (Some pid) u = record {
    clean = λ place within. absurd (omega (arith, within));
    fits = tt;
    each = λ place within. absurd (omega (arith, within));
  }

  first-program : (program : Option (List ℕ)) (u : TracedSystem) → CopiesSo (first_of_program o program) u
  first-program None u = first-pid _ u
  first-program (Some program) u = record {
    clean = λ place within. absurd (omega (arith, within));
    fits = tt;
    each = λ place within. absurd (omega (arith, within));
  }

  first-copies : (u : TracedSystem) → CopiesSo (first_truss o) u
  unfolding first_truss
  first-copies u = first-program o.program u

  at-first : StandsAfter []
  at-first = record {
    known = subst (λ xs. Kept Knows (functions_after (first_truss o) xs)) (sym (no-exchanges k))
        (known-first o run.of.follows_none);
    young = subst (λ xs. Kept Young (functions_after (first_truss o) xs)) (sym (no-exchanges k))
        (young-first o run.of.follows_none);
    copies = subst (λ xs. CopiesSo (functions_after (first_truss o) xs) s.system) (sym (no-exchanges k))
        (first-copies s.system);
  }

  -- ---- one entry

  module _ (front back : List Entry) (e : Entry) (is : h ≡ front ++ e ∷ back) where
    legal-all : IsLegal n s (front ++ e ∷ back)
    legal-all = subst (IsLegal n s) is run.of.legal

    pub legal-now : IsLegalEntry n (now front) e
    legal-now = legal-here n s front e back legal-all

    pub lawful-now : IsLawful (now front)
    lawful-now = history-state n s front run.of.lawful (front-legal n s front (e ∷ back) legal-all)

    awake-now : NoneSleepsInCopy (now front).system
    awake-now = history-awake n s front run.reached.awake (front-legal n s front (e ∷ back) legal-all)

    pub next-is : (x : Exchange) → exchange_of k e ≡ Some x → next_function_call_of (truss front) ≡ Some x.call
    next-is x own =
        let makes : MakesFunctionCalls (truss front) (exchanges k (e ∷ back)) =
        calls-rest (first_truss o) (exchanges k front) (exchanges k (e ∷ back))
        (subst (MakesFunctionCalls (first_truss o))
        (ap (exchanges k) is ∙ exchanges-both k front (e ∷ back)) run.of.makes) in
        let both : MakesFunctionCalls (truss front) (x ∷ exchanges k back) =
        subst (λ y. MakesFunctionCalls (truss front) (cons_option y (exchanges k back))) own
        (subst (MakesFunctionCalls (truss front)) (cons-exchanges k e back) makes) in both.0

    pub own-answer : (x : Exchange) → exchange_of k e ≡ Some x → IsOwnEntry k (now front) e x
    own-answer x own = own-entry n k (now front) e x legal-now own

    -- who has ended stays so in the state after a call
    pub own-over : (x : Exchange) (own : exchange_of k e ≡ Some x) (pid : ℕ) → pid < (now front).system.made
        → live_process (now front).system pid ≡ None
        → (let it = own-answer x own in live_process it.answer.state.system pid ≡ None)
    own-over x own pid made none =
        let it = own-answer x own in
        ap (λ (u : TracedState). live_process u.system pid) it.later
        ∙ stays-over n (now front) e pid lawful-now legal-now made none

    -- the exchanges with this entry
    pub exchanges-then : (x : Option Exchange) → exchange_of k e ≡ x
        → exchanges k (front ++ e ∷ []) ≡ exchanges k front ++ cons_option x []
    exchanges-then x own =
        exchanges-both k front (e ∷ [])
        ∙ ap (λ xs. exchanges k front ++ xs)
        (cons-exchanges k e [] ∙ ap (λ (y : Option Exchange). cons_option y (exchanges k [])) own
        ∙ ap (cons_option x) (no-exchanges k))

    pub truss-then : (x : Option Exchange) → exchange_of k e ≡ x
        → truss (front ++ e ∷ []) ≡ functions_after (truss front) (cons_option x [])
    truss-then x own =
        ap (functions_after (first_truss o)) (exchanges-then x own)
        ∙ functions-both (first_truss o) (exchanges k front) (cons_option x [])

    -- as long as it was not interrupted
    module _ (calm : Calm front) where
      pub goes : Goes (Unit {0}) k o (truss front) (now front)
      goes =
          before-goes n k o s h run.of front (e ∷ back) is calm (Unit {0}) (λ r. run.reached)
          (λ r. bytes-front front (e ∷ back) (subst HasBytes is run.bytes))

      pub has-now : has_functions (truss front).options ≡ true
      has-now = let g = goes in ap has_functions g.options ∙ run.of.has

      quiet-reply : (x : Exchange) → (own : exchange_of k e ≡ Some x) → WasNotInterrupted x
          → (let it = own-answer x own in answer_of it.answer.reply ≢ Interrupted)
      unfolding IsAnswer
      quiet-reply x own was interrupted =
          let it = own-answer x own in
          was.unbroken (subst (IsAnswer x.reply) (ap answer_of (sym it.replied) ∙ interrupted) (answer-is x.reply))

      pub its-call : StandsAfter front → (x : Exchange) → (own : exchange_of k e ≡ Some x) → WasNotInterrupted x
          → (let it = own-answer x own in OwnCall n k o (truss front) (now front) x.call it.answer)
      its-call st x own was =
          let it = own-answer x own in
          record {
            goes = goes;
            copies = st.copies;
            given = it.is;
            over = own-over x own;
            has = has-now;
            calm = quiet-reply x own was;
            gone = λ told q here.
                gone-there n k o (truss front) (now front) goes st.known x.call it.answer it.is told has-now
                (next-is x own) q here;
            out = λ place until p at accepted live.
                none-begun (now front).system (traced_at (truss front) place).pid p awake-now live
                (opens.out front back e x place until p is own at (ap answer_of (sym it.replied) ∙ accepted) live);
          }

      own-after : StandsAfter front → (x : Exchange) → exchange_of k e ≡ Some x → WasNotInterrupted x
          → Kept Knows (fed_functions (truss front) x.reply)
          × (Kept Young (fed_functions (truss front) x.reply)
          × CopiesSo (fed_functions (truss front) x.reply) (now (front ++ e ∷ [])).system)
      own-after st x own was =
          let it = own-answer x own in
          let w = its-call st x own was in
          let g = goes in
          let fresh : (pid : ℕ) → (truss front).stage ≡ OpeningControl pid → (truss front).aside ≡ Nothing
          → answer_of x.reply ≡ Accepted → Each (λ (u : Traced). u.pid ≢ pid) (truss front).traced =
          λ pid at beside accepted.
          control-fresh (Unit {0}) n k (now front) g.lawful x.call it.answer it.is w.over (truss front) g.kept g.reached
          pid at beside has-now (next-is x own) (ap answer_of it.replied ∙ accepted) in (
            known-fed (truss front) x.reply (λ i. quiet-reply x own was (ap answer_of it.replied ∙ i)) st.known fresh
                has-now,
            (
              young-fed (truss front) x.reply (λ i. quiet-reply x own was (ap answer_of it.replied ∙ i)) st.young fresh
                  has-now,
              subst (λ (u : TracedState). CopiesSo (fed_functions (truss front) x.reply) u.system)
                  (it.later ∙ sym (state_after-push s front e))
                  (subst (λ y. CopiesSo (fed_functions (truss front) y) it.answer.state.system) it.replied
                  (call-copies w (next-is x own))),
            ),
          )

      -- a call of its own was not interrupted
      pub calm-own : (x : Exchange) → exchange_of k e ≡ Some x → Calm (front ++ e ∷ []) → WasNotInterrupted x
      calm-own x own calm_then =
          All-last (exchanges k front) (subst (All WasNotInterrupted) (exchanges-then (Some x) own) calm_then)
        where
          All-last : (xs : List Exchange) → All WasNotInterrupted (xs ++ x ∷ []) → WasNotInterrupted x
          All-last [] all = All-head WasNotInterrupted x [] all
          All-last (y ∷ ys) all = All-last ys (All-tail WasNotInterrupted y (ys ++ x ∷ []) all)

      entry-stands : StandsAfter front → Calm (front ++ e ∷ []) → StandsAfter (front ++ e ∷ [])
      entry-stands st calm_then = by (exchange_of k e) refl
        where
          by : (x : Option Exchange) → exchange_of k e ≡ x → StandsAfter (front ++ e ∷ [])
          by None own = record {
            known = subst (Kept Knows) (sym (truss-then None own)) st.known;
            young = subst (Kept Young) (sym (truss-then None own)) st.young;
            copies = subst (λ (u : TrussState). CopiesSo u (now (front ++ e ∷ [])).system) (sym (truss-then None own))
                (subst (λ (u : TracedState). CopiesSo (truss front) u.system) (sym (state_after-push s front e))
                (foreign-copies n k o (truss front) (now front) goes e legal-now own st.copies));
          }
          by (Some x) own =
              let was : WasNotInterrupted x = calm-own x own calm_then in
              let both = own-after st x own was in
              record {
                known = subst (Kept Knows) (sym (truss-then (Some x) own)) both.0;
                young = subst (Kept Young) (sym (truss-then (Some x) own)) both.1.0;
                copies = subst (λ (u : TrussState). CopiesSo u (now (front ++ e ∷ [])).system)
                    (sym (truss-then (Some x) own)) both.1.1;
              }

  -- ---- all of them

  pub calm-front : (front back : List Entry) → Calm (front ++ back) → Calm front
  calm-front front back calm =
      All-left (exchanges k front) (exchanges k back)
      (subst (All WasNotInterrupted) (exchanges-both k front back) calm)
    where
      All-left : (xs ys : List Exchange) → All WasNotInterrupted (xs ++ ys) → All WasNotInterrupted xs
      All-left [] ys all = All-nil WasNotInterrupted
      All-left (x ∷ xs) ys all =
          All-cons WasNotInterrupted x xs (All-head WasNotInterrupted x (xs ++ ys) all)
          (All-left xs ys (All-tail WasNotInterrupted x (xs ++ ys) all))

  walk : (middle front back : List Entry) → h ≡ front ++ (middle ++ back) → Calm (front ++ middle)
      → StandsAfter front → StandsAfter (front ++ middle)
  walk [] front back is calm st = subst StandsAfter (sym (append-nil front)) st
  walk (e ∷ middle) front back is calm st =
      let more : Calm ((front ++ e ∷ []) ++ middle) = subst Calm (sym (append_assoc front (e ∷ []) middle)) calm in
      let here : Calm (front ++ e ∷ []) = calm-front (front ++ e ∷ []) middle more in
      subst StandsAfter (append_assoc front (e ∷ []) middle)
      (walk middle (front ++ e ∷ []) back (is ∙ sym (append_assoc front (e ∷ []) (middle ++ back))) more
      (entry-stands front (middle ++ back) e is (calm-front front (e ∷ []) here) st here))

  pub stands-after : (front back : List Entry) → h ≡ front ++ back → Calm front → StandsAfter front
  stands-after front back is calm = walk front [] back is calm at-first

  -- ---- what is granted, and what is read

  pub finds-none : (front back : List Entry) (place id : ℕ) (turned : Turned)
      → h ≡ front ++ record { actor = Lwp (traced_at (truss front) place).pid id; act = Turn turned } ∷ back
      → Calm front → place < length (truss front).traced → makes_copy turned.did ≡ true
      → IsEmpty (marks_at (truss front) place).planted
  unfolding IsLegalEntry
  finds-none front back place id turned is calm within makes =
      let e : Entry = record { actor = Lwp (traced_at (truss front) place).pid id; act = Turn turned } in
      let legal : IsLegalEntry n (now front) e = legal-now front back e is in
      let st = stands-after front (e ∷ back) is calm in
      let lifted =
      copy-finds-lifted n k o (truss front) (now front) (goes front back e is calm) st.copies place within id
      (record { system = legal.0; turned = turned }) legal.1 makes in
      lifted.none_planted

  pub reads-lifted : (front back : List Entry) (e : Entry) (x : Exchange) (place : ℕ) (l : LwpStatus) (event : Event)
      → h ≡ front ++ e ∷ back → Calm front → exchange_of k e ≡ Some x → place < length (truss front).traced
      → (truss front).stage ≡ ReadingStatus place → (truss front).aside ≡ Nothing → answer_of x.reply ≡ Accepted
      → option_and_then status_lwp (bytes_in x.reply) ≡ Some l
      → fresh_event (traced_at (truss front) place) l ≡ Some event
      → function_event o (marks_at (truss front) place) l.id event ≡ Replaced → IsLifted (marks_at (truss front) place)
  unfolding answer_of
  reads-lifted front back e x place l event is calm own within reads idle accepted told fresh replaced =
      let st = stands-after front (e ∷ back) is calm in
      let it = own-answer front back e is x own in
      let g = goes front back e is calm in
      let was : WasNotInterrupted x = record {
        unbroken = λ broken. interrupted-not (sym accepted ∙ ap answer_of broken);
      } in
      let w = its-call front back e is calm st x own was in
      replaced-lifted w place within reads idle
      (same_Some _ _
      (sym (next-is front back e is x own)
      ∙ read-is (truss front) place (has-now front back e is calm) reads idle))
      (ap answer_of it.replied ∙ accepted) l
      (ap (λ r. option_and_then status_lwp (bytes_in r)) it.replied ∙ told) event fresh
      (ap (λ (y : Options). function_event y (marks_at (truss front) place) l.id event) g.options ∙ replaced)
    where
      interrupted-not : Accepted ≡ answer_of (reply.Fail Intr) → ⊥
      interrupted-not same = cc

  -- a process of which truss was told a status lives
  pub told-lives : (front back : List Entry) (e : Entry) (x : Exchange) (place : ℕ) → h ≡ front ++ e ∷ back
      → Calm front → exchange_of k e ≡ Some x → place < length (truss front).traced
      → (truss front).stage ≡ ReadingStatus place → (truss front).aside ≡ Nothing → answer_of x.reply ≡ Accepted
      → (p : TracedProcess) × (live_process (now front).system (traced_at (truss front) place).pid ≡ Some p)
  unfolding answer_of
  told-lives front back e x place is calm own within reads idle accepted =
      let st = stands-after front (e ∷ back) is calm in
      let it = own-answer front back e is x own in
      let was : WasNotInterrupted x = record {
        unbroken = λ broken. interrupted-not (sym accepted ∙ ap answer_of broken);
      } in
      let w = its-call front back e is calm st x own was in
      read-lives w place within reads idle
      (same_Some _ _
      (sym (next-is front back e is x own)
      ∙ read-is (truss front) place (has-now front back e is calm) reads idle))
      (ap answer_of it.replied ∙ accepted)
    where
      interrupted-not : Accepted ≡ answer_of (reply.Fail Intr) → ⊥
      interrupted-not same = cc
