use Rattle.std.proofs.Common.{◌≡◌, ◌&&◌, ◌||◌, ℕ, Bool, true, false, eqb, not, Option, Some, None, Result, Ok, Err, List, [], ◌∷◌, ◌++◌, cond, refl, sym, ◌∙◌, ap, inl, inr}
use Rattle.std.specs.List.{list_any}
use Rattle.std.proofs.Math.Path.{fun_ext}
use Rattle.pr_num.specs.Messages.{first_message}
use Rattle.pr_num.specs.declared.faults.Flt.{Flt}
use Rattle.pr_num.specs.declared.faults.Flt.TheVariants as flt
use Rattle.pr_num.specs.declared.messages.Message.{Message}
use Rattle.pr_num.specs.declared.messages.Message.TheVariants as message
use Rattle.pr_num.specs.declared.messages.MsgFault.{MsgFault}
use Rattle.pr_num.proofs.BoolLemmas.{and_false, cond-same, either}
use Rattle.pr_model.specs.ControlMessages.{tail_of, target_of}
use Rattle.pr_model.specs.Handles.{handle_of}
use Rattle.pr_model.specs.Legal.{after}
use Rattle.pr_model.specs.State.{Places, TracedProcess, TracedState, TracedSystem}
use Rattle.pr_model.specs.UntracedSteps.{Memory, nothing_yet, remembered, steps_from, steps_of, steps_of_turn, trace_of, trace_of_turn, untraced_steps, untraced_trace}
use Rattle.std.specs.List.{flat_map}
use Rattle.pr_model.specs.declared.calls.Call as calls
use Rattle.pr_model.specs.declared.calls.Call.TheVariants as call
use Rattle.pr_model.specs.declared.calls.Reply.{Reply}
use Rattle.pr_model.specs.declared.calls.Reply.TheVariants as reply
use Rattle.pr_model.specs.declared.events.Act.{Act}
use Rattle.pr_model.specs.declared.events.Act.TheVariants as act
use Rattle.pr_model.specs.declared.events.Actor.{Actor}
use Rattle.pr_model.specs.declared.events.Actor.TheVariants.{Controller, Lwp, Clock}
use Rattle.pr_model.specs.declared.events.Did.{Did}
use Rattle.pr_model.specs.declared.events.Did.TheVariants.{Stopped, Ran, Entered, Made, Slept, Woke, Returned, Faulted, Posted, Took, Acted}
use Rattle.pr_model.specs.declared.events.Entry.{Entry}
use Rattle.pr_model.specs.declared.handles.Held.{Held}
use Rattle.pr_hidden.specs.Covers.{Cover, Covers, keeps_lwp, no_cover, with_cover}
use Rattle.pr_hidden.specs.Hiders.{Hiders, cover_sent, cover_turned, covers_after, covers_at, covers_called, covers_closed, covers_controlled, covers_from, covers_sent, covers_targeted, covers_turned, exits, has_hold, is_at_patch, is_ctl, is_directed, is_hold, is_own, is_own_fault, lwp_at, no_covers, nobody, replaces_memory, without_replaced}
use Rattle.pr_hidden.specs.Hiding.{with_fault, with_own_agent, with_patches}
use Rattle.pr_hidden.specs.HiddenSteps.{hidden_steps, hidden_steps_from, hidden_steps_of, hidden_trace, hidden_trace_from, hidden_trace_of, is_leaving, steps_of_own, turn_seen}
use Rattle.pr_hidden.proofs.NothingHidden.CoverLemmas.{cover-same, each-cover}
use Rattle.pr_hidden.proofs.NothingHidden.NoneLemmas.{none-same}

-- Where nobody hides anything, what is seen of a history is all of it.

-- no agent is hidden
abbrev NoAgents : Covers → Type 0
NoAgents covers = (pid : ℕ) → (covers pid).agent ≡ false

with-none : (covers : Covers) (pid : ℕ) (c : Cover) → NoAgents covers → c.agent ≡ false
    → NoAgents (with_cover pid c covers)
with-none covers pid c none one = each-cover (λ (d : Cover). d.agent ≡ false) pid c covers one none

sent-none : (k : ℕ) (p : TracedProcess) (m : Message) (tail : List ℕ) (c : Cover) → c.agent ≡ false
    → (cover_sent nobody k p m tail c).agent ≡ false
unfolding cover_sent
sent-none k p (message.Write at size) tail c none = none
sent-none k p (message.Agent regs) tail c none = none
sent-none k p _ tail c none = none

module _ (covers : Covers) (none : NoAgents covers) where
  sent-all : (k pid : ℕ) (p : TracedProcess) (bytes : List ℕ) (r : Result (Message × ℕ) MsgFault)
      → NoAgents (covers_sent nobody k pid p bytes r covers)
  sent-all k pid p bytes (Err fault) = none
  sent-all k pid p bytes (Ok (m, len)) =
      with-none covers pid (cover_sent nobody k p m (tail_of m bytes) (covers pid)) none
      (sent-none k p m (tail_of m bytes) (covers pid) (none pid))

  targeted-all : (k : ℕ) (h : Held) (o : Option TracedProcess) (bytes : List ℕ)
      → NoAgents (covers_targeted nobody k h o bytes covers)
  targeted-all k h None bytes = none
  targeted-all k h (Some p) bytes = sent-all k h.pid p bytes (first_message bytes)

  controlled-all : (k : ℕ) (s : TracedSystem) (o : Option Held) (bytes : List ℕ)
      → NoAgents (covers_controlled nobody k s o bytes covers)
  controlled-all k s None bytes = none
  controlled-all k s (Some h) bytes = targeted-all k h (target_of s h) bytes

  closed-all : (k : ℕ) (o : Option Held) → NoAgents (covers_closed nobody k o covers)
  closed-all k None = none
  closed-all k (Some h) = none

  called-all : (s : TracedState) (k : ℕ) (c : calls.Call) (r : Reply) → NoAgents (covers_called nobody covers s k c r)
  unfolding covers_called
  called-all s k (call.Ctl handle bytes) (reply.Used used) =
      controlled-all k s.system (handle_of s.opens k handle) bytes
  called-all s k (call.Close handle) reply.Done = closed-all k (handle_of s.opens k handle)
  called-all s k _ _ = none

  turned-all : (s : TracedState) (pid id : ℕ) (did : Did) → NoAgents (covers_turned nobody covers s pid id did)
  unfolding covers_turned
  turned-all s pid id did =
      let c = covers pid in
      let own = is_own nobody covers s pid id did in
      with-none covers pid (cover_turned nobody covers s pid id did c) none
      (either (λ (d : Cover). d.agent ≡ false) (not (keeps_lwp c id)) _ _
      (either (λ (d : Cover). d.agent ≡ false) (exits did) (with_own_agent false c) c refl (none pid))
      (left (replaces_memory did) _
      (either (λ (d : Cover). d.agent ≡ false) (is_directed (lwp_at s.system pid id)) c (with_fault id own c) (none pid)
      (none pid))))
    where
      left : (b : Bool) (d : Cover) → d.agent ≡ false
          → (cond b (with_own_agent false (with_patches [] d)) d).agent ≡ false
      left true d is = refl
      left false d is = is

  after-all : (s : TracedState) (actor : Actor) (it : Act)
      → NoAgents (covers_after nobody covers s (record { actor = actor; act = it }))
  unfolding covers_after
  after-all s (Controller k) (act.Call c r) = called-all s k c r
  after-all s (Lwp pid id) (act.Turn t) = turned-all s pid id t.did
  after-all s _ _ = none

-- no fault is a controller's
no-hold : (opens : Places) (pid : ℕ) → has_hold nobody opens pid ≡ false
unfolding has_hold
no-hold [] pid = refl
no-hold (None ∷ opens) pid = no-hold opens pid
no-hold (Some h ∷ opens) pid =
    ap (λ b. (eqb h.pid pid && b) || list_any (is_hold nobody pid) opens) (and_false (is_ctl h.file))
    ∙ ap (λ b. b || list_any (is_hold nobody pid) opens) (and_false (eqb h.pid pid)) ∙ no-hold opens pid

no-own : (at : Bool) (did : Did) → is_own_fault false at did ≡ false
no-own at (Faulted flt.Ill) = refl
no-own at (Faulted flt.Bpt) = refl
no-own at (Faulted flt.Trace) = refl
no-own at (Faulted flt.Watch) = refl
no-own at (Faulted flt.Access) = refl
no-own at (Faulted flt.Bounds) = refl
no-own at (Faulted flt.Stack) = refl
no-own at (Faulted flt.Izdiv) = refl
no-own at _ = refl

none-own : (covers : Covers) (s : TracedState) (pid id : ℕ) (did : Did) → is_own nobody covers s pid id did ≡ false
unfolding is_own
none-own covers s pid id did =
    let at = is_at_patch (covers pid).patches (lwp_at s.system pid id) in
    ap (λ b. is_own_fault b at did) (no-hold s.opens pid) ∙ no-own at did

none-left_out : (c : Cover) (id : ℕ) → c.agent ≡ false → not (keeps_lwp c id) ≡ false
none-left_out c id none = rw none refl

-- ---- entries and histories

module _ (covers : Covers) (none : NoAgents covers) (s : TracedState) where
  steps-seen : (m : Memory) (actor : Actor) (it : Act)
      → hidden_steps_of nobody covers s m (record { actor = actor; act = it })
      ≡ steps_of m (record { actor = actor; act = it })
  unfolding hidden_steps_of turn_seen steps_of
  steps-seen m (Lwp pid id) (act.Turn t) =
      let steps = steps_of_turn (m.returning pid id) pid id t.did in
      let own = steps_of_own (is_leaving (lwp_at s.system pid id)) pid id t.did in
      ap (λ b. cond b [] (cond (is_own nobody covers s pid id t.did) own steps))
      (none-left_out (covers pid) id (none pid))
      ∙ ap (λ b. cond b own steps) (none-own covers s pid id t.did)
  steps-seen m _ _ = refl

  trace-seen : (actor : Actor) (it : Act)
      → hidden_trace_of nobody covers s (record { actor = actor; act = it })
      ≡ trace_of (record { actor = actor; act = it })
  unfolding hidden_trace_of trace_of
  trace-seen (Lwp pid id) (act.Turn t) =
      let traced = trace_of_turn pid id t.did in
      ap (λ b. cond b [] (cond (is_own nobody covers s pid id t.did) [] traced))
      (none-left_out (covers pid) id (none pid))
      ∙ ap (λ b. cond b [] traced) (none-own covers s pid id t.did)
  trace-seen _ _ = refl

all-steps : (covers : Covers) → NoAgents covers → (s : TracedState) (m : Memory) (h : List Entry)
    → hidden_steps_from nobody covers s m h ≡ steps_from m h
all-steps covers none s m [] = refl
all-steps covers none s m (e ∷ es) =
    let new = covers_after nobody covers s e in
    ap (λ steps. steps ++ hidden_steps_from nobody new (after s e) (remembered m e) es)
    (steps-seen covers none s m e.actor e.act)
    ∙ ap (λ rest. steps_of m e ++ rest)
    (all-steps new (after-all covers none s e.actor e.act) (after s e) (remembered m e) es)

all-traced : (covers : Covers) → NoAgents covers → (s : TracedState) (h : List Entry)
    → hidden_trace_from nobody covers s h ≡ flat_map trace_of h
all-traced covers none s [] = refl
all-traced covers none s (e ∷ es) =
    let new = covers_after nobody covers s e in
    ap (λ steps. steps ++ hidden_trace_from nobody new (after s e) es) (trace-seen covers none s e.actor e.act)
    ∙ ap (λ rest. trace_of e ++ rest) (all-traced new (after-all covers none s e.actor e.act) (after s e) es)

-- ---- nothing is hidden at the end

fault-none : (id : ℕ) → with_fault id false no_cover ≡ no_cover
fault-none id =
    ap (λ (f : ℕ → Bool). let c : Cover = record no_cover { faulted = f } in c)
    (fun_ext (λ n. cond-same (eqb n id) false))

sent-nothing : (k : ℕ) (p : TracedProcess) (m : Message) (tail : List ℕ)
    → cover_sent nobody k p m tail no_cover ≡ no_cover
unfolding cover_sent
sent-nothing k p (message.Write at size) tail = refl
sent-nothing k p (message.Agent regs) tail = refl
sent-nothing k p _ tail = refl

one-nothing : (pid : ℕ) (c : Cover) → c ≡ no_cover → with_cover pid c no_covers ≡ no_covers
one-nothing pid c is = ap (λ (d : Cover). with_cover pid d no_covers) is ∙ cover-same pid no_covers

sent-leaves : (k pid : ℕ) (p : TracedProcess) (bytes : List ℕ) (r : Result (Message × ℕ) MsgFault)
    → covers_sent nobody k pid p bytes r no_covers ≡ no_covers
sent-leaves k pid p bytes (Err fault) = refl
sent-leaves k pid p bytes (Ok (m, len)) =
    one-nothing pid (cover_sent nobody k p m (tail_of m bytes) no_cover) (sent-nothing k p m (tail_of m bytes))

targeted-leaves : (k : ℕ) (h : Held) (o : Option TracedProcess) (bytes : List ℕ)
    → covers_targeted nobody k h o bytes no_covers ≡ no_covers
targeted-leaves k h None bytes = refl
targeted-leaves k h (Some p) bytes = sent-leaves k h.pid p bytes (first_message bytes)

controlled-leaves : (k : ℕ) (s : TracedSystem) (o : Option Held) (bytes : List ℕ)
    → covers_controlled nobody k s o bytes no_covers ≡ no_covers
controlled-leaves k s None bytes = refl
controlled-leaves k s (Some h) bytes = targeted-leaves k h (target_of s h) bytes

closed-leaves : (k : ℕ) (o : Option Held) → covers_closed nobody k o no_covers ≡ no_covers
closed-leaves k None = refl
closed-leaves k (Some h) = refl

called-leaves : (s : TracedState) (k : ℕ) (c : calls.Call) (r : Reply)
    → covers_called nobody no_covers s k c r ≡ no_covers
unfolding covers_called
called-leaves s k (call.Ctl handle bytes) (reply.Used used) =
    controlled-leaves k s.system (handle_of s.opens k handle) bytes
called-leaves s k (call.Close handle) reply.Done = closed-leaves k (handle_of s.opens k handle)
called-leaves s k _ _ = refl

turned-leaves : (s : TracedState) (pid id : ℕ) (did : Did) → covers_turned nobody no_covers s pid id did ≡ no_covers
unfolding covers_turned
turned-leaves s pid id did =
    let own = is_own nobody no_covers s pid id did in
    one-nothing pid
    (without_replaced did (cond (is_directed (lwp_at s.system pid id)) no_cover (with_fault id own no_cover)))
    (ap (without_replaced did)
    (ap (λ b. cond (is_directed (lwp_at s.system pid id)) no_cover (with_fault id b no_cover))
    (none-own no_covers s pid id did)
    ∙ ap (λ (c : Cover). cond (is_directed (lwp_at s.system pid id)) no_cover c) (fault-none id)
    ∙ cond-same (is_directed (lwp_at s.system pid id)) no_cover)
    ∙ cond-same (replaces_memory did) no_cover)

after-leaves : (s : TracedState) (actor : Actor) (it : Act)
    → covers_after nobody no_covers s (record { actor = actor; act = it }) ≡ no_covers
unfolding covers_after
after-leaves s (Controller k) (act.Call c r) = called-leaves s k c r
after-leaves s (Lwp pid id) (act.Turn t) = turned-leaves s pid id t.did
after-leaves s _ _ = refl

pub nobody-covers : (s : TracedState) (h : List Entry) → covers_at nobody s h ≡ no_covers
nobody-covers s [] = refl
nobody-covers s (e ∷ es) =
    ap (λ (c : Covers). covers_from nobody c (after s e) es) (after-leaves s e.actor e.act)
    ∙ nobody-covers (after s e) es

pub nobody-steps : (s : TracedState) (h : List Entry) → hidden_steps nobody s h ≡ untraced_steps h
unfolding hidden_steps untraced_steps
nobody-steps s h = all-steps no_covers (λ pid. refl) s nothing_yet h

pub nobody-traced : (s : TracedState) (h : List Entry) → hidden_trace nobody s h ≡ untraced_trace h
unfolding hidden_trace untraced_trace
nobody-traced s h = all-traced no_covers (λ pid. refl) s h

pub ruleset seen_whole = (nobody-steps, nobody-traced, nobody-covers, none-same)
