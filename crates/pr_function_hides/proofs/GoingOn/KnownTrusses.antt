use Rattle.std.proofs.Common.{◌≡◌, ◌≢◌, ◌++◌, ℕ, true, false, cond, Some, List, [], ◌∷◌, sym, subst, ap, ◌∙◌, inl, inr}
use Rattle.std.proofs.lemmas.Bool.{cases_eq, false≢true}
use Rattle.std.proofs.lemmas.List.{append-nil, append_assoc}
use Rattle.std.proofs.lemmas.Option.{same_Some}
use Rattle.std.specs.List.{slice_get}
use Rattle.pr_api.specs.Entries.{call_entry}
use Rattle.pr_function_hides.proofs.Files.CallFacts.{controllers-push, legal-here, same-truss}
use Rattle.pr_function_hides.proofs.Tidy.CopyFree.{goes-on-there}
use Rattle.pr_function_hides.proofs.StandingFaults.FaultFlags.{IsRunFlags, fed-flags}
use Rattle.pr_function_hides.proofs.Replies.PlantedReplies.{first-so-truss}
use Rattle.pr_function_hides.proofs.Replies.PlacesCome.{IsUnseen, unseen-fed, unseen-first}
use Rattle.pr_function_hides.proofs.Tidy.TidyCalls as Calls
use Rattle.pr_function_hides.proofs.Tidy.TidyKept.{Kept as TidyKept}
use Rattle.pr_function_hides.proofs.Tidy.TidyLaw.{kept-at}
use Rattle.pr_function_hides.proofs.Tidy.TidyOwn.{went-on}
use Rattle.pr_function_hides.specs.RunsOfTrusses.{IsRunOfTrusses}
use Rattle.pr_function_hides.specs.TidyWrites.{IsTrussAfter}
use Rattle.pr_function_laws.proofs.Marks.KeptPlaces.{Kept}
use Rattle.pr_function_laws.proofs.Pending.KnownFiles.{Knows, known-fed, known-first}
use Rattle.pr_function_laws.proofs.OpenedProcesses.OpenedLaws.{Goes}
use Rattle.pr_function_laws.proofs.OrdinaryTruss.OrdinaryExchanges.{IsFit, first-fit, next-fit}
use Rattle.pr_hidden.specs.Hiders.{Hiders, hides}
use Rattle.pr_line.specs.declared.options.Options.{Options}
use Rattle.pr_model.specs.Legal.{IsLegal, IsLegalEntry, state_after}
use Rattle.pr_model.specs.State.{TracedState}
use Rattle.pr_model.specs.declared.calls.Call.{Call}
use Rattle.pr_model.specs.declared.calls.Reply.{Reply}
use Rattle.pr_model.specs.declared.calls.Reply.TheVariants.{Fail}
use Rattle.pr_model.specs.declared.events.Act.{Act}
use Rattle.pr_model.specs.declared.events.Act.TheVariants as act
use Rattle.pr_model.specs.declared.events.Actor.{Actor}
use Rattle.pr_model.specs.declared.events.Actor.TheVariants.{Clock, Controller, Lwp}
use Rattle.pr_model.specs.declared.events.Entry.{Entry}
use Rattle.pr_model.specs.declared.events.Turned.{Turned}
use Rattle.pr_num.specs.declared.errnos.Errno.TheVariants.{Intr}
use Rattle.pr_report_laws.proofs.Invariant.StandLemmas.{Each}
use Rattle.pr_truss.specs.FunctionCalls.{call_beside, function_call_of, next_function_call_of}
use Rattle.pr_truss.specs.FunctionFeeding.{fed_functions}
use Rattle.pr_truss.specs.Marks.{has_functions}
use Rattle.pr_truss.specs.NextCalls.{call_of, next_call_of, open_control}
use Rattle.pr_truss.specs.Replies.{answer_of}
use Rattle.pr_truss.specs.Trusses.{TrussState, first_truss}
use Rattle.pr_truss.specs.declared.asides.Aside.TheVariants.{Nothing}
use Rattle.pr_truss.specs.declared.processes.Traced.{Traced}
use Rattle.pr_truss.specs.declared.replies.Answer.TheVariants.{Accepted, Interrupted}
use Rattle.pr_truss.specs.declared.stages.Stage.TheVariants as stage
use Rattle.pr_truss_laws.specs.Exchanges.{Exchange}
use Rattle.pr_tool_laws.proofs.Stages.ProtocolLemmas.{fed-own}
use Rattle.pr_world.specs.ControllerStates.{ControllerState, FnTruss}
use Rattle.pr_world.specs.Controllers.{after_reply}
use Rattle.pr_world.specs.Protocol.{controllers_after, controllers_at}

-- What is known of each truss that hides along a history, as long as it goes on: that it has its files of what it has
-- opened, alone, and how these processes stand; that what comes before its next call fits to that call; that it has
-- looked at no stop before; and which files it has opened of each.

interrupts : (r : Reply) → r ≡ Fail Intr → answer_of r ≡ Interrupted
unfolding answer_of
interrupts r is = ap answer_of is

module _ {n : ℕ} {who : Hiders} {controllers : List ControllerState} {first : TracedState}
    {h : List Entry} (run : IsRunOfTrusses n who controllers first h) where
  abbrev here : List Entry → TracedState
  here front = state_after first front

  abbrev After : List Entry → ℕ → TrussState → Type 0
  After front k t = IsTrussAfter who controllers first h front k t

  abbrev kept : (front back : List Entry) → h ≡ front ++ back → TidyKept who controllers first h front
  kept = kept-at run

  abbrev options : (k : ℕ) → hides who k ≡ true → Options
  options k hider = let it = run.are.trusses k hider in it.options

  pub record KnownOf (front : List Entry) (k : ℕ) (hider : hides who k ≡ true) (t : TrussState) : Type 0 where
    pub goes : Goes (Unit {0}) k (options k hider) t (here front)
    pub fit : IsFit (options k hider) t
    pub unseen : Kept IsUnseen t
    pub flags : Each (λ (v : Traced). IsRunFlags v.marks.flags) t.traced
    pub knows : Kept Knows t

  -- ---- what is so of its state alone

  record Fits (k : ℕ) (hider : hides who k ≡ true) (t : TrussState) : Type 0 where
    fit : IsFit (options k hider) t
    unseen : Kept IsUnseen t
    flags : Each (λ (v : Traced). IsRunFlags v.marks.flags) t.traced
    knows : Kept Knows t

  abbrev AllFit : List Entry → Type 0
  AllFit front =
      (k : ℕ) (hider : hides who k ≡ true) (t : TrussState) → After front k t → t.leaving ≡ false → Fits k hider t

  has-functions : (k : ℕ) (hider : hides who k ≡ true) → has_functions (options k hider) ≡ true
  has-functions k hider = let it = run.are.trusses k hider in it.has

  follows-none : (k : ℕ) (hider : hides who k ≡ true) → let o = options k hider in o.follow ≡ false
  follows-none k hider = let it = run.are.trusses k hider in it.follows_none

  -- ---- an entry of others

  foreign-fits : (front : List Entry) (e : Entry) (k : ℕ) (hider : hides who k ≡ true)
      → slice_get (controllers_at controllers (front ++ e ∷ [])) k ≡ slice_get (controllers_at controllers front) k
      → AllFit front → (t : TrussState) → After (front ++ e ∷ []) k t → t.leaving ≡ false → Fits k hider t
  foreign-fits front e k hider same all t is off = all k hider t (sym same ∙ is) off

  turn-fits : (front : List Entry) (acting id : ℕ) (turned : Turned) → AllFit front
      → AllFit (front ++ record { actor = Lwp acting id; act = act.Turn turned } ∷ [])
  unfolding controllers_after
  turn-fits front acting id turned all k hider t is off =
      let e : Entry = record { actor = Lwp acting id; act = act.Turn turned } in
      foreign-fits front e k hider
      (ap (λ (cs : List ControllerState). slice_get cs k) (controllers-push controllers front e)) all t is off

  tick-fits : (front : List Entry) (moment : ℕ) → AllFit front
      → AllFit (front ++ record { actor = Clock; act = act.Tick moment } ∷ [])
  unfolding controllers_after
  tick-fits front moment all k hider t is off =
      let e : Entry = record { actor = Clock; act = act.Tick moment } in
      foreign-fits front e k hider
      (ap (λ (cs : List ControllerState). slice_get cs k) (controllers-push controllers front e)) all t is off

  -- ---- a call of its own

  module _ (front back : List Entry) (j : ℕ) (c : Call) (r : Reply) (place : h ≡ front ++ call_entry j c r ∷ back)
      (all : AllFit front) where
    abbrev later_front : List Entry
    later_front = front ++ call_entry j c r ∷ []

    abbrev kept-now : TidyKept who controllers first h front
    kept-now = kept front (call_entry j c r ∷ back) place

    module _ (hider : hides who j ≡ true) where
      abbrev tr : TrussState
      tr = Calls.tr run front back j c r place kept-now hider

      abbrev x : Exchange
      x = record { call = c; reply = r }

      abbrev o : Options
      o = options j hider

      has : has_functions tr.options ≡ true
      has = Calls.has run front back j c r place kept-now hider

      next : next_function_call_of tr ≡ Some c
      next = Calls.next run front back j c r place kept-now hider

      -- its call opens a control file
      opening-is : (pid : ℕ) → tr.stage ≡ stage.OpeningControl pid → tr.aside ≡ Nothing → c ≡ open_control pid
      unfolding next_function_call_of call_beside function_call_of call_of
      opening-is pid is idle =
          same_Some c (open_control pid)
          (sym next ∙ ap (λ b. cond b (call_beside tr tr.stage tr.aside) (next_call_of tr)) has
          ∙ ap (call_beside tr tr.stage) idle ∙ ap (function_call_of tr) is)

      -- of a process that it did not trace
      fresh-places : (pid : ℕ) → tr.stage ≡ stage.OpeningControl pid → tr.aside ≡ Nothing
          → answer_of r ≡ Accepted → Each (λ (u : Traced). u.pid ≢ pid) tr.traced
      fresh-places pid is idle accepted =
          Calls.new-apart run front back j c r place kept-now hider pid (opening-is pid is idle) accepted

      own-fits : (fed_functions tr r).leaving ≡ false → Fits j hider (fed_functions tr r)
      own-fits off =
          let went = went-on run front back j c r place kept-now hider off in
          let g = went.0 in
          let calm : answer_of r ≢ Interrupted = went.1 in
          let truss = Calls.truss-now run front back j c r place kept-now hider in
          let was = all j hider truss.t truss.is g.off in
          record {
            fit = next-fit o (has-functions j hider) (follows-none j hider) tr x was.fit next
                (record { waits = λ fails. absurd (calm (interrupts r fails)) });
            unseen = unseen-fed tr r calm was.unseen fresh-places has;
            flags = fed-flags tr r g.off g.follow g.stage g.beside calm was.flags has;
            knows = known-fed tr r calm was.knows fresh-places has;
          }

    called-fits : AllFit later_front
    unfolding after_reply controllers_after
    called-fits k hider t is = elim (cases_eq j k) [
      | inl same ↦ by same hider t is
      | inr apart ↦ foreign-fits front (call_entry j c r) k hider
          (Calls.foreign-same run front back j c r place kept-now k apart) all t is
    ]
      where
        mine : (hider : hides who j ≡ true) (t : TrussState) → After later_front j t → t.leaving ≡ false
            → Fits j hider t
        mine hider t is =
            let w = Calls.truss-now run front back j c r place kept-now hider in
            subst (λ (u : TrussState). u.leaving ≡ false → Fits j hider u)
            (same-truss (fed_functions w.t r) t _
            (ap (λ (cs : List ControllerState). slice_get cs j) (controllers-push controllers front (call_entry j c r))
            ∙ fed-own (controllers_at controllers front) j r (FnTruss w.t) w.is) is) (own-fits hider)

        by : j ≡ k → (hider : hides who k ≡ true) (t : TrussState) → After later_front k t → t.leaving ≡ false
            → Fits k hider t
        by same =
            subst (λ i. (hider : hides who i ≡ true) (t : TrussState) → After later_front i t → t.leaving ≡ false
            → Fits i hider t) same mine

  -- ---- the history

  entry-fits : (front : List Entry) (actor : Actor) (did : Act) (back : List Entry)
      → h ≡ front ++ record { actor = actor; act = did } ∷ back
      → IsLegalEntry n (here front) (record { actor = actor; act = did }) → AllFit front
      → AllFit (front ++ record { actor = actor; act = did } ∷ [])
  unfolding IsLegalEntry
  entry-fits front (Controller j) (act.Call c r) back place it all = called-fits front back j c r place all
  entry-fits front (Lwp acting id) (act.Turn turned) back place it all = turn-fits front acting id turned all
  entry-fits front Clock (act.Tick moment) back place it all = tick-fits front moment all
  entry-fits front _ _ back place it all = absurd it

  walk : (middle front back : List Entry) → h ≡ front ++ (middle ++ back) → AllFit front → AllFit (front ++ middle)
  walk [] front back place all = subst AllFit (sym (append-nil front)) all
  walk (e ∷ middle) front back place all =
      subst AllFit (append_assoc front (e ∷ []) middle)
      (walk middle (front ++ e ∷ []) back (place ∙ sym (append_assoc front (e ∷ []) (middle ++ back)))
      (entry-fits front e.actor e.act (middle ++ back) place
      (legal-here n first front e (middle ++ back) (subst (λ (es : List Entry). IsLegal n first es) place run.legal))
      all))

  at-first : AllFit []
  at-first k hider t is off =
      let i = run.are.trusses k hider in
      subst (Fits k hider) (same-truss (first_truss i.options) t _ i.starts is)
      (record {
        fit = first-fit i.options i.has i.follows_none;
        unseen = unseen-first i.options i.follows_none;
        flags = λ q within.
            absurd (false≢true (first-so-truss (λ (v : Traced). false ≡ true) i.options q within));
        knows = known-first i.options i.follows_none;
      })

  pub known-on : (front back : List Entry) → h ≡ front ++ back → (k : ℕ) (hider : hides who k ≡ true) (t : TrussState)
      → After front k t → t.leaving ≡ false → KnownOf front k hider t
  known-on front back place k hider t is off =
      let w = walk front [] back place at-first k hider t is off in
      record {
        goes = goes-on-there run k hider front back place t is off;
        fit = w.fit;
        unseen = w.unseen;
        flags = w.flags;
        knows = w.knows;
      }
