use Rattle.std.proofs.Common.{◌≡◌, ◌≢◌, ◌⊎◌, ◌++◌, ℕ, true, false, List, [], ◌∷◌, refl, sym, subst, ap, ◌∙◌, inl, inr}
use Rattle.std.proofs.lemmas.Bool.{cases_eq}
use Rattle.std.proofs.lemmas.List.{append-nil, append_assoc}
use Rattle.std.specs.List.{slice_get}
use Rattle.pr_api.specs.Entries.{call_entry}
use Rattle.pr_function_hides.proofs.Files.CallFacts.{controllers-push, legal-here, same-truss}
use Rattle.pr_function_hides.proofs.CodeThere.CodeCalls.{called-in}
use Rattle.pr_function_hides.proofs.CodeThere.CodeWalk.{Counted, Known, Shown, After, foreign-in, kept-there}
use Rattle.pr_function_hides.proofs.Replies.CountedWalk.{TrussSo, first-so}
use Rattle.pr_function_hides.proofs.Tidy.TidyCalls as Calls
use Rattle.pr_function_hides.specs.RunsOfTrusses.{IsRunOfTrusses}
use Rattle.pr_function_laws.proofs.OpenedProcesses.OpenedLaws.{bytes-front}
use Rattle.pr_hidden.specs.Hiders.{Hiders, hides}
use Rattle.pr_model.specs.Legal.{IsLegal, IsLegalEntry, state_after}
use Rattle.pr_model.specs.State.{TracedState}
use Rattle.pr_model.specs.declared.calls.Call.{Call}
use Rattle.pr_model.specs.declared.calls.Reply.{Reply}
use Rattle.pr_model.specs.declared.events.Act.{Act}
use Rattle.pr_model.specs.declared.events.Act.TheVariants as act
use Rattle.pr_model.specs.declared.events.Actor.{Actor}
use Rattle.pr_model.specs.declared.events.Actor.TheVariants.{Controller, Lwp, Clock}
use Rattle.pr_model.specs.declared.events.Entry.{Entry}
use Rattle.pr_reached.proofs.Together.MappedLemmas.{history-spaces}
use Rattle.pr_reached.specs.ByteHistories.{HasBytes}
use Rattle.pr_reached.specs.Mapped.{HaveAddressSpaces}
use Rattle.pr_tool_laws.proofs.Records.WholeLemmas.{front-legal}
use Rattle.pr_truss.specs.FunctionFeeding.{fed_functions}
use Rattle.pr_truss.specs.Trusses.{TrussState, first_truss}
use Rattle.pr_world.specs.ControllerStates.{ControllerState}
use Rattle.pr_world.specs.Protocol.{controllers_after, controllers_at}

-- Along a history of trusses that are undisturbed the code of each function that counts as planted stands, or its
-- breakpoint does, as long as the memory of its process is not replaced.

module _ {n : ℕ} {who : Hiders} {controllers : List ControllerState} {first : TracedState}
    {h : List Entry} (run : IsRunOfTrusses n who controllers first h) where
  pub spaces : (front back : List Entry) → h ≡ front ++ back → HaveAddressSpaces (state_after first front).system
  spaces front back place =
      history-spaces n first front (let x = run.reached in x.lawful) (let x = run.reached in x.in_range)
      (bytes-front front back (subst HasBytes place run.bytes))
      (front-legal n first front back (subst (λ (es : List Entry). IsLegal n first es) place run.legal))

  -- what is so of a truss
  abbrev So : List Entry → ℕ → TrussState → Type 0
  So front k t = TrussSo (Known run front k t.options) (Shown run front t.options) t

  at-first : Counted run []
  at-first = record {
    each = λ k hider t is off.
        let i = run.are.trusses k hider in
        subst (So [] k) (same-truss (first_truss i.options) t _ i.starts is)
        (first-so (Known run [] k (first_truss i.options).options) (Shown run [] (first_truss i.options).options)
        i.options);
  }

  -- an entry that is no call of a controller
  quiet-counted : (front : List Entry) (actor : Actor) (did : Act) (back : List Entry)
      (place : h ≡ front ++ record { actor = actor; act = did } ∷ back)
      → ((k : ℕ) → actor ≢ Controller k)
      → controllers_after (controllers_at controllers front) (record { actor = actor; act = did })
      ≡ controllers_at controllers front
      → Counted run front → Counted run (front ++ record { actor = actor; act = did } ∷ [])
  quiet-counted front actor did back place none same counted = record {
    each = λ k hider t is off.
        foreign-in run front actor did back place k hider
        (ap (λ (cs : List ControllerState). slice_get cs k)
        (controllers-push controllers front (record { actor = actor; act = did }) ∙ same))
        (none k) counted t is off;
  }

  called-counted : (front back : List Entry) (j : ℕ) (c : Call) (r : Reply)
      (place : h ≡ front ++ call_entry j c r ∷ back) → Counted run front
      → Counted run (front ++ call_entry j c r ∷ [])
  called-counted front back j c r place counted = record {
    each = λ k hider t is off. by k hider t is off (cases_eq j k);
  }
    where
      by : (k : ℕ) → hides who k ≡ true → (t : TrussState) → After run (front ++ call_entry j c r ∷ []) k t
          → t.leaving ≡ false → (j ≡ k) ⊎ (j ≢ k) → So (front ++ call_entry j c r ∷ []) k t
      by k hider t is off (inr apart) =
          foreign-in run front (Controller j) (act.Call c r) back place k hider
          (Calls.foreign-same run front back j c r place (kept-there run front (call_entry j c r ∷ back) place) k apart)
          (λ same. apart (controller-same same)) counted t is off
        where
          controller-same : {a b : ℕ} → Controller a ≡ Controller b → a ≡ b
          controller-same same = cc
      by k hider t is off (inl same) =
          let hides_it : hides who j ≡ true = ap (hides who) same ∙ hider in
          let kept = kept-there run front (call_entry j c r ∷ back) place in
          let now = subst (λ i. After run (front ++ call_entry j c r ∷ []) i t) (sym same) is in
          let is_now : fed_functions (Calls.tr run front back j c r place kept hides_it) r ≡ t =
          same-truss (fed_functions (Calls.tr run front back j c r place kept hides_it) r) t _
          (Calls.own-after run front back j c r place kept hides_it) now in
          subst (λ i. So (front ++ call_entry j c r ∷ []) i t) same
          (subst (So (front ++ call_entry j c r ∷ []) j) is_now
          (called-in run front back j c r place hides_it (spaces front (call_entry j c r ∷ back) place) counted
          (subst (λ (x : TrussState). x.leaving ≡ false) (sym is_now) off)))

  entry-counted : (front : List Entry) (actor : Actor) (did : Act) (back : List Entry)
      → h ≡ front ++ record { actor = actor; act = did } ∷ back
      → IsLegalEntry n (state_after first front) (record { actor = actor; act = did })
      → Counted run front → Counted run (front ++ record { actor = actor; act = did } ∷ [])
  unfolding IsLegalEntry controllers_after
  entry-counted front (Controller j) (act.Call c r) back place it counted =
      called-counted front back j c r place counted
  entry-counted front (Lwp acting id) (act.Turn turned) back place it counted =
      quiet-counted front (Lwp acting id) (act.Turn turned) back place (λ k is. cc) refl counted
  entry-counted front Clock (act.Tick moment) back place it counted =
      quiet-counted front Clock (act.Tick moment) back place (λ k is. cc) refl counted
  entry-counted front _ _ back place it counted = absurd it

  walk : (middle front back : List Entry) → h ≡ front ++ (middle ++ back) → Counted run front
      → Counted run (front ++ middle)
  walk [] front back place counted = subst (Counted run) (sym (append-nil front)) counted
  walk (e ∷ middle) front back place counted =
      subst (Counted run) (append_assoc front (e ∷ []) middle)
      (walk middle (front ++ e ∷ []) back (place ∙ sym (append_assoc front (e ∷ []) (middle ++ back)))
      (entry-counted front e.actor e.act (middle ++ back) place
      (legal-here n first front e (middle ++ back) (subst (λ (es : List Entry). IsLegal n first es) place run.legal))
      counted))

  pub counted-at : (front back : List Entry) → h ≡ front ++ back → Counted run front
  counted-at front back place = walk front [] back place at-first
