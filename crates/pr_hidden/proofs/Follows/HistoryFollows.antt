use Rattle.std.proofs.Common.{◌≡◌, ◌&&◌, ◌||◌, ◌≤◌, ◌<◌, ◌+◌, ℕ, Bool, true, false, not, Option, Some, None, List, [], ◌∷◌, ◌++◌, cond, refl, sym, subst, ◌∙◌, ap, inl, inr, arith}
use Rattle.std.proofs.lemmas.Bool.{cases_Bool}
use Rattle.std.proofs.lemmas.List.Concat.{flat_map-append}
use Rattle.std.proofs.lemmas.List.Elements.{All-head, All-tail}
use Rattle.std.specs.Bool.{IsTrue}
use Rattle.std.specs.List.{flat_map}
use Rattle.pr_num.specs.Programs.{Program}
use Rattle.pr_num.specs.declared.faults.Flt.{Flt}
use Rattle.pr_num.specs.declared.faults.Flt.TheVariants as flt
use Rattle.pr_num.specs.declared.files.StoredFile.{StoredFile}
use Rattle.pr_num.proofs.BoolLemmas.{either}
use Rattle.pr_model.specs.Calls.{Answer, answer_to}
use Rattle.pr_model.specs.Erasure.{erased, erased_system}
use Rattle.pr_model.specs.FirstState.{first_state}
use Rattle.pr_model.specs.Lawful.{IsLawful, IsLawfulSystem}
use Rattle.pr_model.specs.Legal.{IsLegal, IsLegalEntry, after, state_after, ticked}
use Rattle.pr_model.specs.LwpTurns.{LwpTurn, turn_of}
use Rattle.pr_model.specs.Passive.{is_passive_act}
use Rattle.pr_model.specs.Rows.{row_for}
use Rattle.pr_model.specs.State.{TracedState, TracedSystem}
use Rattle.pr_model.specs.UntracedMachine.{UntracedRun, ends_here, step_by, ticks, traced_step}
use Rattle.pr_model.specs.UntracedSteps.{Memory, nothing_yet, remembered, steps_of, steps_of_call, steps_of_fault, steps_of_turn, trace_of, trace_of_turn}
use Rattle.pr_model.specs.declared.calls.Call as calls
use Rattle.pr_model.specs.declared.calls.Call.TheVariants as call
use Rattle.pr_model.specs.declared.calls.Reply.{Reply}
use Rattle.pr_model.specs.declared.calls.Reply.TheVariants as reply
use Rattle.pr_model.specs.declared.events.Act.{Act}
use Rattle.pr_model.specs.declared.events.Act.TheVariants as act
use Rattle.pr_model.specs.declared.events.Actor.{Actor}
use Rattle.pr_model.specs.declared.events.Actor.TheVariants.{Controller, Lwp, Clock}
use Rattle.pr_model.specs.declared.events.Did.{Did}
use Rattle.pr_model.specs.declared.events.Did.TheVariants.{Stopped, Ran, Entered, Made, Slept, Woke, Returned, Faulted, Posted, Took, Acted}
use Rattle.pr_model.specs.declared.events.Entry.{Entry}
use Rattle.pr_model.specs.declared.steps.Step.{Step}
use Rattle.pr_model.specs.declared.steps.Step.TheVariants.{Fault, Tick}
use Rattle.pr_model.proofs.TurnLemmas.{turn-taken}
use Rattle.pr_lawful.specs.Starts.{IsStart}
use Rattle.pr_lawful.proofs.LawfulStates.HistoryLemmas.{history-state}
use Rattle.pr_lawful.proofs.Following.MadeLemmas.{Grows, settled-grows}
use Rattle.pr_lawful.proofs.LawfulStates.StartLemmas.{first-lawful}
use Rattle.pr_laws.proofs.RunLemmas.{UntracedRun-append}
use Rattle.pr_erasure.specs.Untouched.{IsUntouched}
use Rattle.pr_hidden.specs.Covers.{Cover, Covers, Patch, keeps_lwp, no_cover, seen, uncovered, with_cover}
use Rattle.pr_hidden.specs.Hiders.{Hiders, cover_turned, covers_after, covers_at, covers_from, covers_turned, exits, is_directed, is_own, lwp_at, no_covers, replaces_memory}
use Rattle.pr_hidden.specs.HiddenSteps.{IsHidden, hidden_steps, hidden_steps_from, hidden_steps_of, hidden_trace, hidden_trace_from, hidden_trace_of, is_leaving, steps_of_own, turn_seen}
use Rattle.pr_hidden.specs.Hiding.{with_fault, with_own_agent}
use Rattle.pr_hidden.specs.Tidiness.{AreSound, HoldsFrom, IsPassiveBut, IsSparing, IsSparingEntry, IsTidy, IsTidyEntry, is_hider_act}
use Rattle.pr_hidden.proofs.Follows.CallFollows.{CallFollows, call-follows}
use Rattle.pr_hidden.proofs.Follows.FirstLemmas.{first-untouched}
use Rattle.pr_hidden.proofs.Follows.FollowLemmas.{Follows}
use Rattle.pr_hidden.proofs.NothingHidden.NoneLemmas.{none-same, none-tame}
use Rattle.pr_hidden.proofs.Follows.OrderLemmas.{AreInOrder, live-made, none-in-order, order-with}
use Rattle.pr_hidden.proofs.NothingHidden.TameLemmas.{IsTame}
use Rattle.pr_hidden.proofs.Follows.TurnFollows.{turn-follows}
use Rattle.pr_hidden.proofs.PatchedSpaces.WrittenCovers.{none-sound}

-- Whole histories of those who hide, entry by entry.

-- ---- entries

-- a turn leaves the patches of its process in order
turned-sound : (who : Hiders) (covers : Covers) (s : TracedState) (pid id : ℕ) (did : Did)
    → AreSound (covers pid).patches → AreSound (cover_turned who covers s pid id did (covers pid)).patches
turned-sound who covers s pid id did sound =
    let c = covers pid in
    let own = is_own who covers s pid id did in
    either (λ (d : Cover). AreSound d.patches) (not (keeps_lwp c id)) _ _
    (either (λ (d : Cover). AreSound d.patches) (exits did) (with_own_agent false c) c sound sound)
    (either (λ (d : Cover). AreSound d.patches) (replaces_memory did) _ _ none-sound
    (either (λ (d : Cover). AreSound d.patches)
    (is_directed (lwp_at s.system pid id)) c (with_fault id own c) sound sound))

turn-order : (who : Hiders) (covers : Covers) (s : TracedState) (pid id : ℕ) (t : LwpTurn)
    → turn_of s.system pid id ≡ Some t → IsLawfulSystem s.system → AreInOrder covers s.system
    → AreInOrder (covers_turned who covers s pid id t.turned.did) t.system
unfolding covers_turned
turn-order who covers s pid id t turn lawful order =
    let taken = turn-taken s.system pid id t turn in
    let p = taken.process in
    let l = taken.lwp in
    let grows : Grows s.system t.system =
    subst (λ (x : LwpTurn). Grows s.system x.system) (sym taken.is)
    (settled-grows pid p id l s.system (row_for s.system pid p id l)) in
    order-with covers s.system t.system pid (cover_turned who covers s pid id t.turned.did (covers pid)) order grows
    (live-made s.system pid p lawful taken.live) (turned-sound who covers s pid id t.turned.did (order.sound pid))

tick-follows : (covers : Covers) (s : TracedSystem) → AreInOrder covers s → IsTame covers s
    → CallFollows covers covers s (ticked s) (Tick ∷ [])
unfolding erased_system uncovered
tick-follows covers s order tame = record {
  follows = record { run = step_by ticks ends_here; tame = record { processes = tame.processes } };
  in_order = record { sound = order.sound; fresh = order.fresh };
}

entry-follows : (n : ℕ) (who : Hiders) (covers : Covers) (s : TracedState) (m : Memory) (actor : Actor) (it : Act)
    → IsLawful s → AreInOrder covers s.system → IsTame covers s.system
    → IsLegalEntry n s (record { actor = actor; act = it })
    → IsTrue (is_passive_act it || is_hider_act who actor it)
    → IsSparingEntry who covers s (record { actor = actor; act = it })
    → IsTidyEntry who covers s (record { actor = actor; act = it })
    → CallFollows covers (covers_after who covers s (record { actor = actor; act = it })) s.system
    (after s (record { actor = actor; act = it })).system
    (hidden_steps_of who covers s m (record { actor = actor; act = it }))
unfolding IsLegalEntry after covers_after hidden_steps_of steps_of
entry-follows n who covers s m (Controller k) (act.Call c r) lawful order tame legal passive sparing tidy =
    let a : Answer = record { state = legal.1.0; reply = r } in
    let answer : answer_to s k c ≡ Some a = legal.1.1 in
    rw answer (call-follows who covers s k lawful.system order tame c a answer passive tidy)
entry-follows n who covers s m (Lwp pid id) (act.Turn t) lawful order tame legal passive sparing tidy =
    let turn : LwpTurn = record { system = legal.0; turned = t } in
    let taken : turn_of s.system pid id ≡ Some turn = legal.1 in
    rw taken (record {
      follows = turn-follows who covers s pid id turn m taken lawful.system order tame sparing tidy;
      in_order = turn-order who covers s pid id turn taken lawful.system order;
    })
entry-follows n who covers s m Clock (act.Tick moment) lawful order tame legal passive sparing tidy =
    tick-follows covers s.system order tame
entry-follows n who covers s m _ _ lawful order tame legal passive sparing tidy = absurd legal

-- ---- histories

history-follows : (n : ℕ) (who : Hiders) (covers : Covers) (s : TracedState) (m : Memory) (h : List Entry) → IsLawful s
    → AreInOrder covers s.system → IsTame covers s.system → IsLegal n s h → IsPassiveBut who h
    → HoldsFrom (IsSparingEntry who) who covers s h → HoldsFrom (IsTidyEntry who) who covers s h
    → Follows covers (covers_from who covers s h) s.system (state_after s h).system (hidden_steps_from who covers s m h)
history-follows n who covers s m [] lawful order tame legal passive sparing tidy =
    record { run = ends_here; tame = tame }
history-follows n who covers s m (e ∷ h) lawful order tame legal passive sparing tidy =
    let P : Entry → Type 0 = λ x. IsTrue (is_passive_act x.act || is_hider_act who x.actor x.act) in
    let first =
    entry-follows n who covers s m e.actor e.act lawful order tame legal.0 (All-head P e h passive) sparing.0 tidy.0 in
    let follows = first.follows in
    let rest =
    history-follows n who (covers_after who covers s e) (after s e) (remembered m e) h
    (history-state n s (e ∷ []) lawful (legal.0, tt)) first.in_order follows.tame legal.1
    (All-tail P e h passive) sparing.1 tidy.1 in
    record { run = UntracedRun-append follows.run rest.run; tame = rest.tame }

-- ---- the trace

fault-trace : (out : Bool) (p l : ℕ) (f : Flt) → flat_map traced_step (steps_of_fault out p l f) ≡ Fault p l f ∷ []
fault-trace true p l flt.Trace = refl
fault-trace false p l flt.Trace = refl
fault-trace out p l flt.Ill = refl
fault-trace out p l flt.Bpt = refl
fault-trace out p l flt.Watch = refl
fault-trace out p l flt.Access = refl
fault-trace out p l flt.Bounds = refl
fault-trace out p l flt.Stack = refl
fault-trace out p l flt.Izdiv = refl

turn-trace : (out : Bool) (p l : ℕ) (did : Did)
    → flat_map traced_step (steps_of_turn out p l did) ≡ trace_of_turn p l did
turn-trace out p l Stopped = refl
turn-trace out p l Ran = refl
turn-trace out p l (Entered c) = refl
turn-trace out p l (Made c r) = refl
turn-trace out p l (Slept c) = refl
turn-trace out p l (Woke c r) = refl
turn-trace out p l (Returned c) = refl
turn-trace out p l (Faulted f) = fault-trace out p l f
turn-trace out p l (Posted f) = refl
turn-trace out p l (Took s) = refl
turn-trace out p l (Acted s how) = refl

own-trace : (out : Bool) (p l : ℕ) (did : Did) → flat_map traced_step (steps_of_own out p l did) ≡ []
own-trace true p l (Faulted flt.Trace) = refl
own-trace false p l (Faulted flt.Trace) = refl
own-trace out p l (Faulted flt.Ill) = refl
own-trace out p l (Faulted flt.Bpt) = refl
own-trace out p l (Faulted flt.Watch) = refl
own-trace out p l (Faulted flt.Access) = refl
own-trace out p l (Faulted flt.Bounds) = refl
own-trace out p l (Faulted flt.Stack) = refl
own-trace out p l (Faulted flt.Izdiv) = refl
own-trace out p l _ = refl

call-trace : (c : calls.Call) (r : Reply) → flat_map traced_step (steps_of_call c r) ≡ []
call-trace (call.Spawn program held) (reply.Pid pid) = refl
call-trace (call.Kill pid sig) reply.Done = refl
call-trace _ _ = refl

entry-trace : (who : Hiders) (covers : Covers) (s : TracedState) (m : Memory) (actor : Actor) (it : Act)
    → flat_map traced_step (hidden_steps_of who covers s m (record { actor = actor; act = it }))
    ≡ hidden_trace_of who covers s (record { actor = actor; act = it })
unfolding hidden_steps_of hidden_trace_of turn_seen steps_of
entry-trace who covers s m (Lwp pid id) (act.Turn t) =
    by (not (keeps_lwp (covers pid) id)) (is_own who covers s pid id t.did)
  where
    by : (hidden own : Bool)
        → flat_map traced_step
        (cond hidden [] (cond own (steps_of_own (is_leaving (lwp_at s.system pid id)) pid id t.did)
        (steps_of_turn (m.returning pid id) pid id t.did)))
        ≡ cond hidden [] (cond own [] (trace_of_turn pid id t.did))
    by true own = refl
    by false true = own-trace (is_leaving (lwp_at s.system pid id)) pid id t.did
    by false false = turn-trace (m.returning pid id) pid id t.did
entry-trace who covers s m (Controller k) (act.Call c r) = call-trace c r
entry-trace who covers s m Clock (act.Tick n) = refl
entry-trace who covers s m _ _ = refl

history-trace : (who : Hiders) (covers : Covers) (s : TracedState) (m : Memory) (h : List Entry)
    → hidden_trace_from who covers s h ≡ flat_map traced_step (hidden_steps_from who covers s m h)
history-trace who covers s m [] = refl
history-trace who covers s m (e ∷ h) =
    let new = covers_after who covers s e in
    ap (λ steps. steps ++ hidden_trace_from who new (after s e) h) (sym (entry-trace who covers s m e.actor e.act))
    ∙ ap (λ steps. flat_map traced_step (hidden_steps_of who covers s m e) ++ steps)
    (history-trace who new (after s e) (remembered m e) h)
    ∙ sym (flat_map-append traced_step (hidden_steps_of who covers s m e)
    (hidden_steps_from who new (after s e) (remembered m e) h))

-- the trace of what is not hidden, tidy or not
pub hidden-traced : (who : Hiders) (s : TracedState) (h : List Entry)
    → hidden_trace who s h ≡ flat_map traced_step (hidden_steps who s h)
unfolding hidden_steps hidden_trace
hidden-traced who s h = history-trace who no_covers s nothing_yet h

pub ruleset traced = (hidden-traced)

-- ---- nothing is seen of those who hide

pub hidden-later : (n : ℕ) (who : Hiders) (s : TracedState) (h : List Entry) → IsLawful s → IsUntouched s.system
    → IsLegal n s h → IsPassiveBut who h → IsSparing who s h → IsTidy who s h → IsHidden who s h
unfolding hidden_steps hidden_trace
hidden-later n who s h lawful untouched legal passive sparing tidy =
    let follows =
    history-follows n who no_covers s nothing_yet h lawful (none-in-order s.system) (none-tame s.system untouched) legal
    passive sparing tidy in
    record {
      run =
          subst (λ u. UntracedRun u (hidden_steps_from who no_covers s nothing_yet h)
          (seen (covers_at who s h) (state_after s h).system)) (none-same s.system) follows.run;
      trace = history-trace who no_covers s nothing_yet h;
    }

pub hidden-first : (n : ℕ) (who : Hiders) (programs : List Program) (files : List StoredFile) (spawns : List ℕ)
    (h : List Entry) → IsStart programs files spawns → IsLegal n (first_state programs files spawns) h
    → IsPassiveBut who h → IsSparing who (first_state programs files spawns) h
    → IsTidy who (first_state programs files spawns) h → IsHidden who (first_state programs files spawns) h
hidden-first n who programs files spawns h start legal passive sparing tidy =
    hidden-later n who (first_state programs files spawns) h (first-lawful programs files spawns start)
    (first-untouched programs files spawns) legal passive sparing tidy

pub ruleset histories = (hidden-later, hidden-first)
