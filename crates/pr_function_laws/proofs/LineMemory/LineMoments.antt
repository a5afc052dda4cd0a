use Rattle.std.proofs.Common.{◌≡◌, ◌++◌, ℕ, Option, Some, None, List, [], ◌∷◌, append-nil, append_assoc, refl, sym, subst, ap, ◌∙◌}
use Rattle.std.proofs.lemmas.Option.{none-some, same_Some}
use Rattle.pr_line.specs.Selections.{is_selected}
use Rattle.pr_line.specs.TextRanges.{text_range}
use Rattle.pr_line.specs.declared.options.Options.{Options}
use Rattle.pr_model.specs.Legal.{IsLegal, after, state_after}
use Rattle.pr_model.specs.LwpTurns.{LwpTurn, turn_of, with_counted}
use Rattle.pr_model.specs.State.{TracedProcess, TracedState, TracedSystem, live_process, with_lwp}
use Rattle.pr_model.specs.declared.calls.Call.TheVariants as call
use Rattle.pr_model.specs.declared.events.Entry.{Entry}
use Rattle.pr_report_laws.proofs.Machine.EventOwners.{event-owns}
use Rattle.pr_report_laws.proofs.Machine.OwnTurnLaws.{event-halts}
use Rattle.pr_report_laws.proofs.SeenChildren.Splits.{state_after-both}
use Rattle.pr_report_laws.proofs.Watching.HistoryParts.{legal-rest}
use Rattle.pr_report_laws.specs.Shown.{LwpEvent}
use Rattle.pr_truss.specs.Trusses.{traced_at}
use Rattle.pr_truss.specs.declared.processes.Traced.{Traced}
use Rattle.pr_truss.specs.declared.stages.Stage.TheVariants.{ReadingText}
use Rattle.pr_truss_laws.proofs.Machine.FrameLemmas.{memory-next, memory-same, memory-self}
use Rattle.pr_truss_laws.proofs.Files.OpensLemmas.{looking-stays, only_looks}
use Rattle.pr_truss_laws.proofs.Machine.StillLemmas.{halting-leaves}
use Rattle.pr_truss_laws.specs.Exchanges.{exchanges}
use Rattle.pr_truss_laws.specs.Stills.{KeepsMemory, with_lwp_stopped}
use Rattle.pr_function_laws.proofs.Stepping.BreakpointLemmas.{own-entry}
use Rattle.pr_function_laws.proofs.Pending.EventReads.{pending-with}
use Rattle.pr_function_laws.proofs.LineMemory.LineReads.{IsToRead, is-to-read}
use Rattle.pr_function_laws.proofs.LineMemory.MemoryFile.{same-bytes}
use Rattle.pr_function_laws.proofs.LineMemory.QuietMoments.{Fate, fate-end, is_over, lives_on}
use Rattle.pr_function_laws.proofs.OrdinaryTruss.OrdinaryReplies.{at-ordinary}
use Rattle.pr_function_laws.proofs.Pending.PendingWalk.{On, Pending}
use Rattle.pr_function_laws.specs.EventsRead.{ComesAndIsRead}
use Rattle.pr_function_laws.specs.LineMoments.{HasSameMemory, MemoriesStand, ReadsMemoryIn}
use Rattle.pr_function_laws.specs.ReachedRuns.{IsReachedFunctionRun}
use Rattle.pr_function_laws.specs.Opened.{IsFunctionRun, functions_at}

-- The memory that truss with calls of functions reads for a line is that of the moment of its event.

-- ---- a process that stands on an event keeps its memory

turn-keeps : (base : TracedProcess) (event : LwpEvent) (u : TracedSystem) (pid own : ℕ) (turn : LwpTurn)
    (p q : TracedProcess) → live_process u pid ≡ Some p → turn_of u pid own ≡ Some turn
    → live_process turn.system pid ≡ Some q → On event p → KeepsMemory base p → KeepsMemory base q
unfolding with_counted with_lwp
turn-keeps base event u pid own turn p q live took later has w =
    let same : with_lwp_stopped own p ≡ q =
    same_Some (with_lwp_stopped own p) q
    (sym (halting-leaves u pid p live (event-halts p event.id event.event has) own turn took) ∙ later) in
    memory-next base p q w (subst (KeepsMemory p) same (memory-same p (with_lwp_stopped own p) refl refl))

-- ---- up to the read of the event

module _ (n k : ℕ) (o : Options) (s : TracedState) (h : List Entry) (run : IsReachedFunctionRun n k o s h)
    (front between later : List Entry) (e again : Entry) (place : ℕ)
    (event : LwpEvent) (range : ℕ × ℕ) (p : TracedProcess) (is : h ≡ front ++ e ∷ (between ++ again ∷ later))
    (c : ComesAndIsRead k o s front e between again place event) (asks : text_range event.event ≡ Some range)
    (live : live_process (state_after s (front ++ e ∷ [])).system (traced_at (functions_at k o front) place).pid
    ≡ Some p) where
  abbrev pid : ℕ
  pid = (traced_at (functions_at k o front) place).pid

  abbrev last : List Entry
  last = front ++ e ∷ between

  -- it has its own memory
  own-memory : p.borrower ≡ None
  own-memory =
      let all = legal-rest n s front (e ∷ (between ++ again ∷ later)) (subst (IsLegal n s) is run.of.legal) in
      event-owns n (is_selected o) pid (state_after s front) event range asks e all.0 c.came p
      (ap (λ (u : TracedState). live_process u.system pid) (sym (state_after-both s front (e ∷ []))) ∙ live)

  same-memory : (u : TracedState) (q : TracedProcess) → live_process u.system pid ≡ Some q → KeepsMemory p q
      → HasSameMemory pid (state_after s (front ++ e ∷ [])) u p q
  same-memory u q there w =
      let both = w.own own-memory in
      record {
        before = own-memory;
        now = both.0;
        same = both.1;
        reads = λ from len.
            same-bytes (state_after s (front ++ e ∷ [])).system u.system pid from len p q live there own-memory both.0
            both.1;
      }

  kept-until : (q : TracedProcess) → live_process (state_after s last).system pid ≡ Some q → KeepsMemory p q
  kept-until q there =
      let w : Pending k o s (traced_at (functions_at k o front) place) (λ z. On event z × KeepsMemory p z) last =
      pending-with n k o s h run front between later e again place event is (is_selected o)
      (λ ev off. off) c.whole c.came c.exchange c.read (KeepsMemory p)
      (λ z v alone kept. memory-next p z v kept alone.memory)
      (turn-keeps p event)
      (λ z at. subst (KeepsMemory p) (same_Some p z (sym live ∙ at)) (memory-self p)) in
      let pending = w.is in
      (pending.has q there).1

  -- ---- up to the read of memory

  module _ (middle rest : List Entry) (reads : Entry) (splits : later ≡ middle ++ reads ∷ rest)
      (none : exchanges k middle ≡ []) (m : ReadsMemoryIn k pid (state_after s (last ++ again ∷ middle)) reads) where
    abbrev base : List Entry
    base = last ++ again ∷ []

    abbrev end : List Entry
    end = last ++ again ∷ middle

    whole-is : h ≡ last ++ again ∷ later
    whole-is = is ∙ sym (append_assoc front (e ∷ between) (again ∷ later))

    legal : IsLegal n (state_after s last) (again ∷ later)
    legal = legal-rest n s last (again ∷ later) (subst (IsLegal n s) whole-is run.of.legal)

    -- the read of the status left the machine as it was
    system-stays : (after (state_after s last) again).system ≡ (state_after s last).system
    system-stays =
        let r = c.read in
        let it = own-entry n k (state_after s last) again c.exchange legal.0 r.own in
        ap (λ (u : TracedState). u.system) (sym it.later)
        ∙ ap (λ (u : TracedState). u.system)
        (looking-stays (state_after s last) k c.exchange.call it.answer (ap only_looks r.reads) it.is)

    parts : h ≡ base ++ (middle ++ reads ∷ rest)
    parts =
        whole-is ∙ ap (λ (es : List Entry). last ++ again ∷ es) splits
        ∙ sym (append_assoc last (again ∷ []) (middle ++ reads ∷ rest))

    run-end : IsFunctionRun n k o s (end ++ reads ∷ rest)
    run-end =
        subst (IsFunctionRun n k o s)
        (whole-is ∙ ap (λ (es : List Entry). last ++ again ∷ es) splits
        ∙ sym (append_assoc last (again ∷ middle) (reads ∷ rest))) run.of

    -- it is about to read the memory
    to-read : IsToRead n k o s end rest reads run-end pid m.handle m.from m.len m.has
    to-read =
        is-to-read n k o s end rest reads run-end pid m.handle m.from m.len m.has
        (record { call = call.Read m.handle m.from m.len; reply = m.reply }) m.is refl

    end-is : end ≡ base ++ middle
    end-is = sym (append_assoc last (again ∷ []) middle)

    abbrev ToRead : Type 0
    ToRead = IsToRead n k o s end rest reads run-end pid m.handle m.from m.len m.has

    stage-there : (r : ToRead) → (functions_at k o (base ++ middle)).stage ≡ ReadingText r.place r.lwp m.from m.len
    stage-there r =
        subst (λ es. (functions_at k o es).stage ≡ ReadingText r.place r.lwp m.from m.len) end-is r.at

    pid-there : (r : ToRead) → (traced_at (functions_at k o (base ++ middle)) r.place).pid ≡ pid
    pid-there r =
        subst (λ es. (traced_at (functions_at k o es) r.place).pid ≡ pid) end-is
        (ap (λ (z : Traced). z.pid) (sym (at-ordinary (functions_at k o end) r.place)) ∙ r.of)

    abbrev FateAt : List Entry → Type 0
    FateAt =
        let r = to-read in
        Fate n k o s h run base middle (reads ∷ rest) parts pid r.place r.lwp m.from m.len
        (stage-there r) (pid-there r) none p (λ es. Unit {0}) (λ done more f z w split live gone left status. tt)
        (λ done f w. tt)

    first : FateAt []
    first = by (live_process (state_after s (base ++ [])).system pid) refl
      where
        same : (state_after s (base ++ [])).system ≡ (state_after s last).system
        same =
            ap (λ (u : TracedState). u.system)
            (ap (state_after s) (append-nil base) ∙ state_after-both s last (again ∷ []))
            ∙ system-stays

        by : (y : Option TracedProcess) → live_process (state_after s (base ++ [])).system pid ≡ y → FateAt []
        by None gone = is_over gone tt
        by (Some z) live =
            lives_on z live (kept-until z (ap (λ (u : TracedSystem). live_process u pid) (sym same) ∙ live))

    kept-end : (q : TracedProcess) → live_process (state_after s end).system pid ≡ Some q → KeepsMemory p q
    kept-end q live_q =
        let r = to-read in
        by
        (fate-end n k o s h run base middle (reads ∷ rest) parts pid r.place r.lwp m.from m.len
        (stage-there r) (pid-there r) none p (λ es. Unit {0}) (λ done more f z w split live gone left status. tt)
        (λ done f w. tt) first)
      where
        there : live_process (state_after s (base ++ middle)).system pid ≡ Some q
        there = ap (λ (es : List Entry). live_process (state_after s es).system pid) (sym end-is) ∙ live_q

        by : FateAt middle → KeepsMemory p q
        by (lives_on z live kept) = subst (KeepsMemory p) (same_Some z q (sym live ∙ there)) kept
        by (is_over gone ended) = absurd (none-some q (sym gone ∙ there))

-- ---- the law

pub memories-stand : (n k : ℕ) (o : Options) (s : TracedState) (h : List Entry) → IsReachedFunctionRun n k o s h
    → MemoriesStand k o s h
memories-stand n k o s h run = record {
  read = λ front between later e again place event range p q is c asks live there.
      same-memory n k o s h run front between later e again place event range p is c asks live
      (state_after s (front ++ e ∷ between)) q there
      (kept-until n k o s h run front between later e again place event range p is c asks live q there);
  line = λ front between middle rest e again reads place event range p q is c asks none m live there.
      same-memory n k o s h run front between (middle ++ reads ∷ rest) e again place event range p is c
      asks live (state_after s ((front ++ e ∷ between) ++ again ∷ middle)) q there
      (kept-end n k o s h run front between (middle ++ reads ∷ rest) e again place event range p is c asks
      live middle rest reads refl none m q there);
}

pub ruleset moments = (memories-stand)
