use Rattle.std.proofs.Common.{◌≡◌, ◌++◌, ℕ, Option, Some, None, List, [], ◌∷◌, refl, sym, subst, ◌∙◌, inl}
use Rattle.std.proofs.lemmas.List.{append-nil, append_assoc}
use Rattle.std.proofs.lemmas.List.Elements.{All-nil}
use Rattle.pr_hidden.specs.Covers.{Covers}
use Rattle.pr_hidden.specs.Hiders.{Hiders, covers_at}
use Rattle.pr_lending.specs.Lending.{AreLending}
use Rattle.pr_model.specs.Legal.{IsLegal, IsLegalEntry, state_after}
use Rattle.pr_model.specs.State.{TracedProcess, TracedState, live_process}
use Rattle.pr_model.specs.declared.events.Act.{Act}
use Rattle.pr_model.specs.declared.events.Act.TheVariants as act
use Rattle.pr_model.specs.declared.events.Actor.{Actor}
use Rattle.pr_model.specs.declared.events.Actor.TheVariants.{Controller, Lwp, Clock}
use Rattle.pr_model.specs.declared.events.Entry.{Entry}
use Rattle.pr_truss.specs.Trusses.{first_truss}
use Rattle.pr_truss.specs.declared.marks.Stepped.{Stepped}
use Rattle.pr_truss.specs.declared.processes.Traced.{Traced}
use Rattle.pr_world.specs.ControllerStates.{ControllerState}
use Rattle.pr_function_laws.proofs.Marks.SoundLemmas.{first-sound}
use Rattle.pr_function_hides.proofs.Files.CallFacts.{legal-here}
use Rattle.pr_function_hides.proofs.Files.FilesCalls.{Files, files-alike}
use Rattle.pr_function_hides.proofs.Replies.FilesWalk.{first-under-truss}
use Rattle.pr_function_hides.proofs.Memory.MappedMemory.{bare-patches, lender-bare, lender-lives}
use Rattle.pr_function_hides.proofs.Replies.PlantedReplies.{So, first-so-truss}
use Rattle.pr_function_hides.proofs.Replies.RunFlags.{FlagsOf}
use Rattle.pr_function_hides.proofs.Memory.Unborrowed.{IsUnborrowed}
use Rattle.pr_function_hides.specs.FunctionHiders.{StandAsMarked}
use Rattle.pr_function_hides.specs.RunsOfTrusses.{IsRunOfTrusses}
use Rattle.pr_function_hides.specs.TidyWrites.{IsMappedIn}
use Rattle.pr_function_hides.proofs.Tidy.TidyKept.{Kept, Lives, goes_on}
use Rattle.pr_function_hides.proofs.Tidy.TidyEntries.{lending-at, turn-kept, tick-kept}
use Rattle.pr_function_hides.proofs.Tidy.TidyCovers.{called-kept}

-- The breakpoints that stand are those that each truss has marked; and nothing is hidden of who borrows or lends
-- memory.

module _ {n : ℕ} {who : Hiders} {controllers : List ControllerState} {first : TracedState}
    {h : List Entry} (run : IsRunOfTrusses n who controllers first h) where
  abbrev at : List Entry → Covers
  at front = covers_at who first front

  abbrev now : List Entry → TracedState
  now front = state_after first front

  abbrev KeptAfter : List Entry → Type 0
  KeptAfter = Kept who controllers first h

  at-first : KeptAfter []
  at-first = record {
    trusses = λ k hider.
        let i = run.are.trusses k hider in
        let u = first-under-truss (Files k first) (files-alike k first) i.options i.follows_none in
        record {
          it = i;
          t = first_truss i.options;
          is = i.starts;
          sound = first-sound i.options (λ (step : Stepped). Unit {0});
          stand = first-so-truss (λ (v : Traced). Lives first v.pid
              → StandAsMarked (first_truss i.options).options v.marks.planted (at [] v.pid).patches) i.options;
          files = u.each;
          apart = u.apart;
          follow = u.follow;
          alone =
              let w =
              first-under-truss (λ (v : Traced). IsUnborrowed v.pid first.system)
              (λ x y same it. subst (λ m. IsUnborrowed m first.system) (sym same.pid) it) i.options i.follows_none in
              w.each;
          course = goes_on (record { off = u.off; follow = u.follow; stage = u.stage; beside = u.beside })
              (first-so-truss (So FlagsOf) i.options);
        };
    bare = λ pid. inl refl;
    no_agent = λ pid. refl;
    mapped = λ pid p live. All-nil (IsMappedIn p.space);
    unlent = λ pid lender p live lends. refl;
  }

  entry-kept : (front : List Entry) (actor : Actor) (did : Act) (back : List Entry)
      → h ≡ front ++ record { actor = actor; act = did } ∷ back
      → IsLegalEntry n (now front) (record { actor = actor; act = did })
      → KeptAfter front → KeptAfter (front ++ record { actor = actor; act = did } ∷ [])
  unfolding IsLegalEntry
  entry-kept front (Controller j) (act.Call c r) back place it kept = called-kept run front back j c r place kept
  entry-kept front (Lwp acting id) (act.Turn turned) back place it kept =
      turn-kept run front back acting id turned place kept
  entry-kept front Clock (act.Tick moment) back place it kept = tick-kept run front back moment place kept
  entry-kept front _ _ back place it kept = absurd it

  walk : (middle front back : List Entry) → h ≡ front ++ (middle ++ back) → KeptAfter front
      → KeptAfter (front ++ middle)
  walk [] front back place kept = subst KeptAfter (sym (append-nil front)) kept
  walk (e ∷ middle) front back place kept =
      subst KeptAfter (append_assoc front (e ∷ []) middle)
      (walk middle (front ++ e ∷ []) back (place ∙ sym (append_assoc front (e ∷ []) (middle ++ back)))
      (entry-kept front e.actor e.act (middle ++ back) place
      (legal-here n first front e (middle ++ back) (subst (λ (es : List Entry). IsLegal n first es) place run.legal))
      kept))

  pub kept-at : (front back : List Entry) → h ≡ front ++ back → Kept who controllers first h front
  kept-at front back place = walk front [] back place at-first

  -- nothing is hidden of a borrower, nor of its lender
  pub lenders-at : (front back : List Entry) (pid lender : ℕ) (p : TracedProcess) → h ≡ front ++ back
      → live_process (now front).system pid ≡ Some p → p.lender ≡ Some lender
      → ((at front pid).patches ≡ []) × ((at front lender).patches ≡ [])
  lenders-at front back pid lender p place live lends = (
    let kept = kept-at front back place in kept.unlent pid lender p live lends,
    by (live_process (now front).system lender) refl,
  )
    where
      lending-now : AreLending (now front).system
      lending-now = lending-at run front back place

      by : (o : Option TracedProcess) → live_process (now front).system lender ≡ o → (at front lender).patches ≡ []
      by None gone = absurd (lender-lives (now front).system pid lender p lending-now live lends gone)
      by (Some q) lives =
          let kept = kept-at front back place in
          bare-patches q.space (at front lender).patches
          (lender-bare (now front).system pid lender p lending-now live lends q lives) (kept.mapped lender q lives)
