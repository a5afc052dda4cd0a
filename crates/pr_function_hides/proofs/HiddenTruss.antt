use Rattle.std.proofs.Common.{◌≡◌, ◌&&◌, ◌||◌, ◌==◌, ◌++◌, ℕ, Bool, true, false, not, IfOk, Option, Some, None, Result}
use Rattle.std.proofs.Common.{Ok, Err, List, [], ◌∷◌, All, refl, sym, subst, ap, ◌∙◌, inl, inr}
use Rattle.std.proofs.lemmas.Bool.{and_parts, cases_Bool, eqb-true, false≢true}
use Rattle.std.proofs.lemmas.List.{append_assoc}
use Rattle.std.proofs.lemmas.List.Elements.{All-head, All-tail}
use Rattle.std.specs.Bool.{IsTrue}
use Rattle.std.proofs.lemmas.Option.{slice_get-get_or}
use Rattle.std.proofs.Common.{get_or}
use Rattle.pr_api.specs.Entries.{call_entry}
use Rattle.pr_erasure.specs.Untouched.{IsUntouched}
use Rattle.pr_function_hides.proofs.Tidy.CalledCovers.{covers-push}
use Rattle.pr_function_hides.specs.OwnSteps.{AreStepsOwn}
use Rattle.pr_function_hides.specs.PassiveOthers.{AreOthersPassive}
use Rattle.pr_function_hides.specs.TidyCloses.{LeavesNoBreakpoint, LeavesNoFault}
use Rattle.pr_function_hides.specs.TidyFaults.{ClearsOwnFaultsAlone, PostsNoOwnFault, is_clearing}
use Rattle.pr_function_hides.specs.TidyWrites.{WritesTidily}
use Rattle.pr_function_hides.proofs.Clean.CleanLaw.{leaves-no-fault}
use Rattle.pr_function_hides.proofs.LeavingFaults.ClearedLaw.{clears-alone}
use Rattle.pr_function_hides.proofs.Closing.ClosingLaw.{leaves-none}
use Rattle.pr_function_hides.proofs.StepMarks.PassiveHiders.{passive-but}
use Rattle.pr_function_hides.proofs.FaultStops.PostedLaw.{posts-none}
use Rattle.pr_function_hides.proofs.StepMarks.StepLaw.{own-steps}
use Rattle.pr_function_hides.specs.RunsOfTrusses.{IsRunOfTrusses}
use Rattle.pr_function_hides.proofs.Tidy.WritesLaw.{writes-tidily}
use Rattle.pr_lawful.proofs.LawfulStates.HistoryLemmas.{history-state}
use Rattle.pr_lawful.proofs.Following.UseLemmas.{live-lawful}
use Rattle.pr_num.proofs.ByIdLemmas.{under-at}
use Rattle.pr_num.specs.ById.{IsRising}
use Rattle.pr_tool_laws.proofs.Records.WholeLemmas.{front-legal}
use Rattle.pr_hidden.proofs.Follows.HistoryFollows.{hidden-later}
use Rattle.pr_hidden.specs.Covers.{Covers}
use Rattle.pr_hidden.specs.HiddenSteps.{IsHidden}
use Rattle.pr_hidden.specs.Hiders.{Hiders, are_some, covers_after, covers_at, hides, is_ctl, no_covers}
use Rattle.pr_function_laws.specs.Stretches.{is_write}
use Rattle.pr_num.specs.Agents.{agent_id}
use Rattle.pr_hidden.specs.Tidiness.{HoldsFrom, IsPassiveBut, IsSparing, IsTidy, IsTidyCall, IsTidyClose, IsTidyControl}
use Rattle.pr_hidden.specs.Tidiness.{IsTidyEntry, IsTidyMessage, IsTidySent, IsTidyTargeted, IsTidyTurn}
use Rattle.pr_hidden.specs.Tidiness.{is_function_message, is_hider_act, is_hider_message, is_hider_write}
use Rattle.pr_hidden.specs.Tidiness.{is_probe_message, is_step_flags}
use Rattle.pr_model.proofs.HistoryLemmas.{state_after-push}
use Rattle.pr_model.specs.ControlMessages.{aim_of, tail_of, target_of}
use Rattle.pr_model.specs.Handles.{handle_of}
use Rattle.pr_model.specs.Legal.{IsLegal, state_after}
use Rattle.pr_model.specs.Passive.{is_passive_act, is_passive_message, is_passive_write}
use Rattle.pr_model.specs.State.{TracedProcess, TracedState, TracedSystem, live_process}
use Rattle.pr_model.specs.declared.calls.Call.{Call}
use Rattle.pr_model.specs.declared.calls.Call.TheVariants as call
use Rattle.pr_model.specs.declared.calls.Reply.{Reply}
use Rattle.pr_model.specs.declared.calls.Reply.TheVariants as reply
use Rattle.pr_model.specs.declared.events.Act.{Act}
use Rattle.pr_model.specs.declared.events.Act.TheVariants as act
use Rattle.pr_model.specs.declared.events.Actor.{Actor}
use Rattle.pr_model.specs.declared.events.Actor.TheVariants.{Controller, Lwp}
use Rattle.pr_model.specs.declared.events.Entry.{Entry}
use Rattle.pr_model.specs.declared.events.Turned.{Turned}
use Rattle.pr_model.specs.declared.handles.Held.{Held}
use Rattle.pr_num.specs.Control.{stop_again}
use Rattle.pr_num.specs.Messages.{first_message}
use Rattle.pr_num.specs.declared.messages.Message.{Message}
use Rattle.pr_num.specs.declared.messages.Message.TheVariants as message
use Rattle.pr_num.specs.declared.messages.MsgFault.{MsgFault}
use Rattle.pr_probe_laws.proofs.StepMarks.MarkCalls.{untouched-unstepped}
use Rattle.pr_probe_laws.specs.StepMarks.{IsUnstepped}
use Rattle.pr_world.specs.ControllerStates.{ControllerState}

-- A history of trusses with calls of functions is tidy, and programs see nothing of them.

abbrev Parsed : Type 0
Parsed = Result (Message × ℕ) MsgFault

-- a message that is passive is none of those of which something is asked
asks-nothing : (who : Hiders) (k : ℕ) (covers : Covers) (s : TracedSystem) (pid : ℕ) (p : TracedProcess) (held : Held)
    (m : Message) (tail : List ℕ) → is_passive_message m ≡ true
    → IsTidyMessage who k covers s pid p (aim_of held) m tail
unfolding is_passive_message
asks-nothing who k covers s pid p held (message.Write at size) tail is = absurd (false≢true is)
asks-nothing who k covers s pid p held message.Cfault tail is = absurd (false≢true is)
asks-nothing who k covers s pid p held (message.Sreg regs) tail is = absurd (false≢true is)
asks-nothing who k covers s pid p held (message.Run flags) tail is = λ steps. absurd (by (flags == 0) refl is steps)
  where
    steps-not : (n : ℕ) → flags ≡ n → is_step_flags n ≡ false → is_step_flags flags ≡ true → ⊥
    steps-not n same none steps = false≢true (sym none ∙ ap is_step_flags (sym same) ∙ steps)

    by : (b : Bool) → (flags == 0) ≡ b → (b || (flags == stop_again)) ≡ true → is_step_flags flags ≡ true → ⊥
    by true zero passive steps = steps-not 0 (eqb-true flags 0 zero) refl steps
    by false other passive steps = steps-not stop_again (eqb-true flags stop_again passive) refl steps
asks-nothing who k covers s pid p held _ tail is = tt

-- nor is one that a truss sends beside PCWRITE and those that clear a fault
asks-no-more : (who : Hiders) (k : ℕ) (covers : Covers) (s : TracedSystem) (pid : ℕ) (p : TracedProcess) (held : Held)
    (m : Message) (tail : List ℕ) → who.probes k ≡ false → is_write m ≡ false → is_clearing m ≡ false
    → IsTrue (is_passive_message m || is_hider_message who k m)
    → IsTidyMessage who k covers s pid p (aim_of held) m tail
unfolding is_passive_message
asks-no-more who k covers s pid p held (message.Write at size) tail no_probe write clears allowed =
    absurd (false≢true (sym write))
asks-no-more who k covers s pid p held message.Cfault tail no_probe write clears allowed =
    absurd (false≢true (sym clears))
asks-no-more who k covers s pid p held (message.Run flags) tail no_probe write clears allowed =
    λ steps. absurd (false≢true (sym clears ∙ steps))
asks-no-more who k covers s pid p held (message.Sreg regs) tail no_probe write clears allowed =
    absurd (by (are_some (who.functions k)) (who.probes k) no_probe allowed)
  where
    by : (a b : Bool) → b ≡ false → IsTrue (false || ((a && false) || (b && true))) → ⊥
    by true true none it = false≢true (sym none)
    by true false none it = false≢true it
    by false true none it = false≢true (sym none)
    by false false none it = false≢true it
asks-no-more who k covers s pid p held _ tail no_probe write clears allowed = tt

-- of one that a message may be asked of, whatever the process
whole-control : (who : Hiders) (k : ℕ) (covers : Covers) (s : TracedSystem) (bytes : List ℕ) (x : Parsed)
    → first_message bytes ≡ x → ((held : Held) (p : TracedProcess) → IsTidySent who k covers s held p bytes x)
    → (o : Option Held) → IsTidyControl who k covers s o bytes
whole-control who k covers s bytes x read so None = tt
whole-control who k covers s bytes x read so (Some held) = by (target_of s held)
  where
    by : (o : Option TracedProcess) → IsTidyTargeted who k covers s held o bytes
    by None = tt
    by (Some p) = subst (IsTidySent who k covers s held p bytes) (sym read) (so held p)

module _ (who : Hiders) (controllers : List ControllerState) (no_probes : (k : ℕ) → who.probes k ≡ false)
    (first : TracedState) (h : List Entry) (passive : IsPassiveBut who h)
    (rises : (front back : List Entry) → h ≡ front ++ back → (pid : ℕ) (p : TracedProcess)
    → live_process (state_after first front).system pid ≡ Some p → IsRising p.lwps)
    (writes : WritesTidily who controllers first h) (leaves : LeavesNoBreakpoint who first h)
    (unfaulted : LeavesNoFault who first h) (steps : AreStepsOwn who first h)
    (unposted : PostsNoOwnFault who first h) (faults : ClearsOwnFaultsAlone who first h) where
  abbrev at : List Entry → Covers
  at front = covers_at who first front

  abbrev now : List Entry → TracedState
  now front = state_after first front

  entry-passive : (front : List Entry) (e : Entry) (back : List Entry) → h ≡ front ++ e ∷ back
      → IsTrue (is_passive_act e.act || is_hider_act who e.actor e.act)
  entry-passive front e back place = among front (subst (IsPassiveBut who) place passive)
    where
      Passes : Entry → Type 0
      Passes x = IsTrue (is_passive_act x.act || is_hider_act who x.actor x.act)

      among : (xs : List Entry) → All Passes (xs ++ e ∷ back) → Passes e
      among [] all = All-head Passes e back all
      among (x ∷ xs) all = among xs (All-tail Passes x (xs ++ e ∷ back) all)

  -- ---- a message

  module _ (front back : List Entry) (k handle : ℕ) (bytes : List ℕ) (used : ℕ)
      (place : h ≡ front ++ call_entry k (call.Ctl handle bytes) (reply.Used used) ∷ back) where
    abbrev Control : Type 0
    Control = IsTidyControl who k (at front) (now front).system (handle_of (now front).opens k handle) bytes

    of-hider : hides who k ≡ true → (m : Message) (len : ℕ) → first_message bytes ≡ Ok (m, len)
        → IsTrue (is_passive_message m || is_hider_message who k m) → Control
    of-hider hider m len read allowed = by (is_write m) refl (is_clearing m) refl
      where
        by : (a : Bool) → is_write m ≡ a → (b : Bool) → is_clearing m ≡ b → Control
        by true write b clears =
            writes.tidy front back k handle bytes (reply.Used used) place hider
            (subst (λ (x : Parsed). IfOk x (λ f. is_write f.0 ≡ true)) (sym read) write)
        by false plain true clears =
            faults.messages front back k handle bytes (reply.Used used) place hider
            (subst (λ (x : Parsed). IfOk x (λ f. is_clearing f.0 ≡ true)) (sym read) clears)
        by false plain false other =
            whole-control who k (at front) (now front).system bytes (Ok (m, len)) read
            (λ held p.
            asks-no-more who k (at front) (now front).system held.pid p held m (tail_of m bytes) (no_probes k) plain
            other allowed) _

    of-other : hides who k ≡ false → (m : Message) (len : ℕ) → first_message bytes ≡ Ok (m, len)
        → IsTrue (is_passive_message m || is_hider_message who k m) → Control
    of-other bare m len read allowed =
        whole-control who k (at front) (now front).system bytes (Ok (m, len)) read
        (λ held p. asks-nothing who k (at front) (now front).system held.pid p held m (tail_of m bytes)
        (by (is_passive_message m) refl (are_some (who.functions k)) (who.probes k) bare allowed)) _
      where
        by : (c : Bool) → is_passive_message m ≡ c → (a b : Bool) → (a || b) ≡ false
            → IsTrue (c || ((a && is_function_message m) || (b && is_probe_message m))) → is_passive_message m ≡ true
        by true is a b none it = is
        by false is false false none it = absurd (false≢true it)
        by false is true b none it = absurd (false≢true (sym none))
        by false is false true none it = absurd (false≢true (sym none))

    control-tidy : Control
    control-tidy =
        by (first_message bytes) refl
        (entry-passive front (call_entry k (call.Ctl handle bytes) (reply.Used used)) back place)
      where
        by : (x : Parsed) → first_message bytes ≡ x → IsTrue (is_passive_write x || is_hider_write who k x) → Control
        by (Err fault) read allowed =
            whole-control who k (at front) (now front).system bytes (Err fault) read (λ held p. tt) _
        by (Ok f) read allowed =
            elim (cases_Bool (hides who k)) [
              | inl hider ↦ of-hider hider f.0 f.1 read allowed
              | inr bare ↦ of-other bare f.0 f.1 read allowed
            ]

  -- ---- a close

  close-tidy : (front back : List Entry) (k number : ℕ)
      → h ≡ front ++ call_entry k (call.Close number) reply.Done ∷ back → (o : Option Held)
      → handle_of (now front).opens k number ≡ o → IsTidyClose who k (at front) (now front).system o
  close-tidy front back k number place None there = tt
  close-tidy front back k number place (Some held) there = λ its p live.
      let both = and_parts (hides who k) (is_ctl held.file) its in
      record {
        no_patches = leaves.bare front back k number reply.Done held p place both.0 there live;
        no_agent = leaves.no_agent front (call_entry k (call.Close number) reply.Done ∷ back) held.pid place;
        lwps = λ i d within f address phase.
            unfaulted.none_stands front back k number reply.Done held p (get_or p.lwps i d).0 (get_or p.lwps i d).1 f
            address both.0 place there live
            (under-at 0 p.lwps i (get_or p.lwps i d)
            (rises front (call_entry k (call.Close number) reply.Done ∷ back) place held.pid p live)
            (slice_get-get_or p.lwps i d within)) phase;
      }

  -- ---- each call, and each turn

  call-tidy : (front back : List Entry) (k : ℕ) (c : Call) (r : Reply) → h ≡ front ++ call_entry k c r ∷ back
      → IsTidyCall who (at front) (now front) k c r
  call-tidy front back k (call.Ctl handle bytes) (reply.Used used) place =
      control-tidy front back k handle bytes used place
  call-tidy front back k (call.Close number) reply.Done place =
      close-tidy front back k number place (handle_of (now front).opens k number) refl
  call-tidy front back k (call.Kill pid number) reply.Done place = writes.kills front back k pid number reply.Done place
  call-tidy front back k c r place = tt

  turn-tidy : (front back : List Entry) (pid id : ℕ) (t : Turned)
      → h ≡ front ++ record { actor = Lwp pid id; act = act.Turn t } ∷ back
      → IsTidyTurn who (at front) (now front) pid id t.did
  turn-tidy front back pid id t place = record {
    others = λ p l live there keeps.
        let w = writes.turns front back pid id t p l place live there in
        record {
          beside_agent = λ agent. absurd (false≢true (sym none ∙ agent));
          never_posted = λ own f address phase.
              absurd (unposted.none front back pid id t p l f address place live there own phase);
          own_steps = λ did. steps.own front back pid id t place did;
          changes = w.changes;
          returns = w.returns;
        };
    agents = λ p l live there hidden. absurd (false≢true (sym hidden ∙ ap not (ap (λ b. b && (id == agent_id)) none)));
  }
    where
      none : (at front pid).agent ≡ false
      none = leaves.no_agent front (record { actor = Lwp pid id; act = act.Turn t } ∷ back) pid place

  entry-tidy : (front : List Entry) (actor : Actor) (did : Act) (back : List Entry)
      → h ≡ front ++ record { actor = actor; act = did } ∷ back
      → IsTidyEntry who (at front) (now front) (record { actor = actor; act = did })
  entry-tidy front (Controller k) (act.Call c r) back place = call-tidy front back k c r place
  entry-tidy front (Lwp pid id) (act.Turn t) back place = turn-tidy front back pid id t place
  entry-tidy front _ _ back place = tt

  walk : (front rest : List Entry) → h ≡ front ++ rest
      → HoldsFrom (IsTidyEntry who) who (at front) (now front) rest
  walk front [] place = tt
  walk front (e ∷ rest) place = (
    entry-tidy front e.actor e.act rest place,
    subst (λ (s : TracedState). HoldsFrom (IsTidyEntry who) who (covers_after who (at front) (now front) e) s rest)
        (state_after-push first front e)
        (subst (λ (c : Covers). HoldsFrom (IsTidyEntry who) who c (now (front ++ e ∷ [])) rest)
        (covers-push who no_covers first front e)
        (walk (front ++ e ∷ []) rest (place ∙ sym (append_assoc front (e ∷ []) rest)))),
  )

-- ---- the laws

module _ (n : ℕ) (who : Hiders) (controllers : List ControllerState) (s : TracedState) (h : List Entry)
    (run : IsRunOfTrusses n who controllers s h) (others : AreOthersPassive who h) where
  passive : IsPassiveBut who h
  passive = passive-but run others

  rising-there : (front back : List Entry) → h ≡ front ++ back → (pid : ℕ) (p : TracedProcess)
      → live_process (state_after s front).system pid ≡ Some p → IsRising p.lwps
  rising-there front back place pid p live =
      let lawful =
      history-state n s front run.reached.lawful
      (front-legal n s front back (subst (λ (es : List Entry). IsLegal n s es) place run.legal)) in
      let l = live-lawful (state_after s front).system pid p lawful.system live in l.rising

  pub truss-tidy : IsUnstepped s.system → IsTidy who s h
  truss-tidy unstepped =
      walk who controllers run.are.no_probes s h passive rising-there (writes-tidily run) (leaves-none run)
      (leaves-no-fault n who controllers s h run others unstepped)
      (own-steps n who controllers s h run others unstepped)
      (posts-none n who controllers s h run others unstepped) (clears-alone n who controllers s h run) [] h refl

  pub truss-hidden : IsUntouched s.system → IsSparing who s h → IsHidden who s h
  truss-hidden untouched spares =
      hidden-later n who s h run.reached.lawful untouched run.legal passive spares
      (truss-tidy (untouched-unstepped s.system untouched))

pub ruleset truss_hides = (truss-tidy, truss-hidden)
