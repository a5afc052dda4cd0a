use Rattle.std.proofs.Common.{◌≡◌, ◌<◌, ◌+◌, ◌++◌, ◌⊎◌, inl, inr, ℕ, true, false, List, [], ◌∷◌}
use Rattle.std.proofs.Common.{Option, Some, None, length, slice_get, refl, sym, ap, subst, ◌∙◌}
use Rattle.std.proofs.Common.{arith, length-append}
use Rattle.std.proofs.Math.Seq.{set-append_seam}
use Rattle.std.proofs.lemmas.Bool.{lt-ltb}
use Rattle.std.proofs.lemmas.List.{set-append_left}
use Rattle.pr_api.specs.Entries.{call_entry}
use Rattle.pr_api.specs.Views.{kernel_of}
use Rattle.pr_model.specs.Legal.{IsLegalEntry}
use Rattle.pr_model.specs.State.{TracedState}
use Rattle.pr_model.specs.declared.calls.Call.{Call}
use Rattle.pr_model.specs.declared.calls.Reply.{Reply}
use Rattle.pr_model.specs.declared.events.Act.{Act}
use Rattle.pr_model.specs.declared.events.Act.TheVariants.{Call as Called, Turn, Tick}
use Rattle.pr_model.specs.declared.events.Actor.{Actor}
use Rattle.pr_model.specs.declared.events.Actor.TheVariants.{Controller, Lwp, Clock}
use Rattle.pr_model.specs.declared.events.Entry.{Entry}
use Rattle.pr_run_laws.specs.ScenarioRuns.{world_after}
use Rattle.pr_scen.specs.Scenarios.{Scenario}
use Rattle.pr_scen.specs.Scripts.{ScriptState, fed, next_call_of}
use Rattle.pr_tool_laws.specs.OwnCalls.{IsOwnCall}
use Rattle.pr_world.specs.ControllerStates.{ControllerState, Script}
use Rattle.pr_world.specs.Controllers.{after_reply, feed_at, next_call, with_fed}
use Rattle.pr_world.specs.Protocol.{controllers_after}
use Rattle.pr_world.specs.Runs.{after_next}
use Rattle.pr_world.specs.Worlds.{Pick, WorldState, first_scheduled, in_rounds, next_in_rounds}
use Rattle.pr_world.specs.Worlds.{next_pick}
use Rattle.pr_drive.specs.Alone.{IsPartOfRun}
use Rattle.pr_drive.specs.Going.{Called as OutsideCalled, IsMove, SeatsState, after_entry}
use Rattle.pr_drive.specs.Going.{has_place, outside_of}
use Rattle.pr_drive.specs.Rounds.{first_place, last_at}
use Rattle.pr_drive.specs.Rounds.{place_behind}
use Rattle.pr_drive.specs.Scripted.{IsBefore}
use Rattle.pr_drive.proofs.AloneLemmas.{behind-at, has-place, none-scheduled, one-more, picked-next}
use Rattle.pr_drive.proofs.KeptLemmas.{entry-outside, legal-more, outside-legal}
use Rattle.pr_drive.proofs.MoveLemmas.{outside-fed}
use Rattle.pr_drive.proofs.TurnLemmas.{call-before, call-last, get-before, get-last}
use Rattle.pr_drive.proofs.TurnLemmas.{next-at, next_of_all, world}
use Rattle.pr_drive.proofs.WorldLemmas.{moved-with, world_with}

-- A run in which a script is one more controller stands as a session does, and both make a move.

-- ---- one controller more

fed-before : (cs : List ControllerState) (c : ControllerState) (k : ℕ) (r : Reply) → k < length cs
    → with_fed k r (cs ++ c ∷ []) ≡ with_fed k r cs ++ c ∷ []
unfolding with_fed
fed-before cs c k r within = ap (feed_at k r (cs ++ c ∷ [])) (get-before cs c k within) ∙ of (slice_get cs k)
  where
    of : (o : Option ControllerState) → feed_at k r (cs ++ c ∷ []) o ≡ feed_at k r cs o ++ c ∷ []
    of None = refl
    of (Some d) = set-append_left cs (c ∷ []) k (after_reply d r) within

fed-last : (cs : List ControllerState) (script : ScriptState) (r : Reply)
    → with_fed (length cs) r (cs ++ Script script ∷ []) ≡ cs ++ Script (fed script r) ∷ []
unfolding with_fed after_reply
fed-last cs script r =
    ap (feed_at (length cs) r (cs ++ Script script ∷ [])) (get-last cs (Script script))
    ∙ set-append_seam cs (Script script) [] (Script (fed script r))

fed-more : (cs : List ControllerState) (c : ControllerState) (t : TracedState) (actor : Actor) (act : Act)
    → IsLegalEntry (length cs) t (record { actor = actor; act = act })
    → controllers_after (cs ++ c ∷ []) (record { actor = actor; act = act })
    ≡ controllers_after cs (record { actor = actor; act = act }) ++ c ∷ []
unfolding IsLegalEntry controllers_after
fed-more cs c t (Controller k) (Called d r) legal = fed-before cs c k r legal.0
fed-more cs c t (Lwp p l) (Turn did) legal = refl
fed-more cs c t Clock (Tick m) legal = refl
fed-more cs c t _ _ legal = absurd legal

own-more : (cs : List ControllerState) (c : ControllerState) (t : TracedState) (actor : Actor) (act : Act)
    → IsLegalEntry (length cs) t (record { actor = actor; act = act })
    → IsOwnCall cs (record { actor = actor; act = act })
    → IsOwnCall (cs ++ c ∷ []) (record { actor = actor; act = act })
unfolding IsLegalEntry IsOwnCall
own-more cs c t (Controller k) (Called d r) legal own = λ within. call-before cs c k legal.0 ∙ own legal.0
own-more cs c t (Lwp p l) (Turn did) legal own = tt
own-more cs c t Clock (Tick m) legal own = tt
own-more cs c t _ _ legal own = absurd legal

-- ---- a move of both

more-count : (cs : List ControllerState) (c : ControllerState) → length (cs ++ c ∷ []) ≡ length cs + 1
more-count cs c = length-append cs (c ∷ [])

pub others-moved : (script : ScriptState) (s : SeatsState) (schedule : List Actor) (last : Option Actor) (p : Pick)
    (e : Entry) → IsMove 0 s e → p.actor ≡ e.actor → next_pick (world script s schedule last) ≡ Some p
    → after_next (world script s schedule last) ≡ world script (after_entry e s) p.schedule p.last
others-moved script s schedule last p e move its next =
    let cs = s.controllers in
    let x = Script script in
    let legal : IsLegalEntry (length (cs ++ x ∷ [])) s.kernel.state e =
    subst (λ (m : ℕ). IsLegalEntry m s.kernel.state e) (sym (more-count cs x))
    (legal-more (length cs) s.kernel.state e move.legal) in
    let own : IsOwnCall (cs ++ x ∷ []) e = own-more cs x s.kernel.state e.actor e.act move.legal move.own in
    moved-with (cs ++ x ∷ []) s schedule last p e legal own its next
    ∙ ap (λ (c : List ControllerState). world_with c (after_entry e s) p.schedule p.last)
    (fed-more cs x s.kernel.state e.actor e.act move.legal)

last-own : (cs : List ControllerState) (script : ScriptState) (c : Call) (r : Reply) → next_call_of script ≡ Some c
    → IsOwnCall (cs ++ Script script ∷ []) (call_entry (length cs) c r)
unfolding IsOwnCall next_call
last-own cs script c r next = λ within. call-last cs (Script script) ∙ next

last-fed : (s : SeatsState) (script : ScriptState) (c : Call) (r : Reply)
    → controllers_after (s.controllers ++ Script script ∷ []) (call_entry (outside_of s) c r)
    ≡ (after_entry (call_entry (outside_of s) c r) s).controllers ++ Script (fed script r) ∷ []
unfolding controllers_after
last-fed s script c r =
    fed-last s.controllers script r
    ∙ ap (λ (cs : List ControllerState). cs ++ Script (fed script r) ∷ []) (sym (outside-fed s.controllers r))

script-moved : (script : ScriptState) (s t : SeatsState) (schedule : List Actor) (last : Option Actor) (p : Pick)
    (c : Call) (called : OutsideCalled c s t) → next_call_of script ≡ Some c → p.actor ≡ Controller (outside_of s)
    → next_pick (world script s schedule last) ≡ Some p
    → after_next (world script s schedule last)
    ≡ world (fed script called.answer.reply) (after_entry (call_entry (outside_of s) c called.answer.reply) s)
    p.schedule p.last
script-moved script s t schedule last p c called next its picked =
    let cs = s.controllers in
    let x = Script script in
    let r = called.answer.reply in
    let e = call_entry (outside_of s) c r in
    let legal : IsLegalEntry (length (cs ++ x ∷ [])) s.kernel.state e =
    subst (λ (m : ℕ). IsLegalEntry m s.kernel.state e) (sym (more-count cs x)) (outside-legal s c t called) in
    moved-with (cs ++ x ∷ []) s schedule last p e legal (last-own cs script c r next) its picked
    ∙ ap (λ (d : List ControllerState). world_with d (after_entry e s) p.schedule p.last) (last-fed s script c r)

-- ---- rounds

-- A run stands as a session does: its schedule is over, and who is next.
pub record Stands (script : ScriptState) (s : SeatsState) (next : Option Actor) (w : WorldState) : Type 0 where
  pub schedule : List Actor
  pub last : Option Actor
  pub is : w ≡ world script s schedule last
  pub over : first_scheduled (world script s schedule last) schedule ≡ None
  pub who : next_in_rounds (world script s schedule last) ≡ next

-- the run of a scenario does so after as many moves; or no place is left, and it has the same history
pub record Ran (script : ScriptState) (run : Scenario) (s : SeatsState) (next : Option Actor) : Type 0 where
  pub history : IsPartOfRun run s.kernel.history
  pub cases : Stands script s next (world_after (length s.kernel.history) run) ⊎ (has_place s ≡ false)

stands-history : (script : ScriptState) (s : SeatsState) (next : Option Actor) (w : WorldState)
    → Stands script s next w → s.kernel.history ≡ w.kernel.history
unfolding kernel_of
stands-history script s next w st = ap (λ (x : WorldState). x.kernel.history) (sym st.is)

ran-as : (script : ScriptState) (run : Scenario) (s : SeatsState) (next : Option Actor)
    → Stands script s next (world_after (length s.kernel.history) run) → Ran script run s next
unfolding IsPartOfRun
ran-as script run s next st =
    record { history = stands-history script s next (world_after (length s.kernel.history) run) st; cases = inl st }

pub full-ran : (script : ScriptState) (run : Scenario) (s : SeatsState) (a b : Option Actor) → Ran script run s a
    → has_place s ≡ false → Ran script run s b
full-ran script run s a b ran full = record { history = ran.history; cases = inr full }

pub same-next : (script : ScriptState) (run : Scenario) (s : SeatsState) (a b : Option Actor) → Ran script run s a
    → a ≡ b → Ran script run s b
same-next script run s a b ran same = subst (Ran script run s) same ran

-- a place behind who moved is not behind the outside
is-before : (n m : ℕ) (t : TracedState) (actor : Actor) (act : Act)
    → IsLegalEntry n t (record { actor = actor; act = act }) → m ≡ n → IsBefore m (place_behind actor)
unfolding IsLegalEntry place_behind
is-before n m t (Controller k) (Called c r) legal same = omega (arith, legal.0, same)
is-before n m t (Lwp p l) (Turn did) legal same = tt
is-before n m t Clock (Tick now) legal same = omega arith
is-before n m t _ _ legal same = absurd legal

next-behind : (script : ScriptState) (s : SeatsState) (e : Entry) → IsMove 0 s e
    → next_in_rounds (world script (after_entry e s) [] (Some e.actor))
    ≡ next_of_all script (after_entry e s) (place_behind e.actor)
next-behind script s e move =
    let t = after_entry e s in
    ap (λ (l : Option Actor). next_in_rounds (world script t [] l)) (sym (behind-at (outside_of t) e.actor))
    ∙ next-at script t [] (place_behind e.actor)
    (is-before (outside_of s) (outside_of t) s.kernel.state e.actor e.act move.legal (entry-outside e s))

behind-outside : (script : ScriptState) (s : SeatsState)
    → next_in_rounds (world script s [] (Some (Controller (outside_of s)))) ≡ next_of_all script s first_place
unfolding last_at
behind-outside script s = next-at script s [] first_place tt

-- another moves
pub ran-step : (script : ScriptState) (run : Scenario) (s : SeatsState) (next : Option Actor) (e : Entry)
    → Ran script run s next → IsMove 0 s e → next ≡ Some e.actor
    → Ran script run (after_entry e s) (next_of_all script (after_entry e s) (place_behind e.actor))
ran-step script run s next e ran move is = of ran.cases
  where
    of : Stands script s next (world_after (length s.kernel.history) run) ⊎ (has_place s ≡ false)
        → Ran script run (after_entry e s) (next_of_all script (after_entry e s) (place_behind e.actor))
    of (inl st) =
        ran-as script run (after_entry e s) (next_of_all script (after_entry e s) (place_behind e.actor))
        (record {
          schedule = [];
          last = Some e.actor;
          is = one-more run s.kernel.history e ∙ ap after_next st.is
              ∙ others-moved script s st.schedule st.last (in_rounds e.actor) e move refl
              (picked-next (world script s st.schedule st.last) e.actor st.over (st.who ∙ is));
          over = none-scheduled (world script (after_entry e s) [] (Some e.actor));
          who = next-behind script s e move;
        })
    of (inr full) =
        has-place 0 s e (Ran script run (after_entry e s) (next_of_all script (after_entry e s) (place_behind e.actor)))
        move full

pub full-called : (s : SeatsState) (P : Type 0) → length s.kernel.history < s.kernel.places → has_place s ≡ false → P
full-called s P place full =
    let there : has_place s ≡ true = lt-ltb (length s.kernel.history) s.kernel.places place in
    let no : true ≡ false = sym there ∙ full in cc

-- the script makes its call, where the outside does
pub ran-called : (script : ScriptState) (run : Scenario) (s t : SeatsState) (next : Option Actor) (c : Call)
    (called : OutsideCalled c s t) → Ran script run s next → next_call_of script ≡ Some c
    → next ≡ Some (Controller (outside_of s))
    → Ran (fed script called.answer.reply) run t (next_of_all (fed script called.answer.reply) t first_place)
ran-called script run s t next c called ran its is =
    subst (λ (x : SeatsState).
    Ran (fed script called.answer.reply) run x (next_of_all (fed script called.answer.reply) x first_place))
    (sym called.is) (of ran.cases)
  where
    of : Stands script s next (world_after (length s.kernel.history) run) ⊎ (has_place s ≡ false)
        → Ran (fed script called.answer.reply) run (after_entry (call_entry (outside_of s) c called.answer.reply) s)
        (next_of_all (fed script called.answer.reply)
        (after_entry (call_entry (outside_of s) c called.answer.reply) s) first_place)
    of (inl st) =
        let more = fed script called.answer.reply in
        let e = call_entry (outside_of s) c called.answer.reply in
        let u = after_entry e s in
        let actor : Actor = Controller (outside_of s) in
        let outside : outside_of u ≡ outside_of s = entry-outside e s in
        ran-as more run u (next_of_all more u first_place)
        (record {
          schedule = [];
          last = Some actor;
          is = one-more run s.kernel.history e ∙ ap after_next st.is
              ∙ script-moved script s t st.schedule st.last (in_rounds actor) c called its refl
              (picked-next (world script s st.schedule st.last) actor st.over (st.who ∙ is));
          over = none-scheduled (world more u [] (Some actor));
          who = ap (λ (m : ℕ). next_in_rounds (world more u [] (Some (Controller m)))) (sym outside)
              ∙ behind-outside more u;
        })
    of (inr full) =
        full-called s (Ran (fed script called.answer.reply) run
        (after_entry (call_entry (outside_of s) c called.answer.reply) s)
        (next_of_all (fed script called.answer.reply)
        (after_entry (call_entry (outside_of s) c called.answer.reply) s) first_place)) called.place full
