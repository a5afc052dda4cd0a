-- Covers but for the lwps at a fault of a controller's: what entries leave of them, and that no step depends on more.
use Rattle.std.proofs.Common.{◌≡◌, ◌==◌, ◌&&◌, ℕ, Bool, true, false, cond, not, List, [], Option, Some, None, Result, Ok, Err, refl, sym, ◌∙◌, ap}
use Rattle.std.proofs.Math.Path.{fun_ext}
use Rattle.std.specs.BTreeMap.{BTreeMap}
use Rattle.std.specs.BTreeSet.{BTreeSet}
use Rattle.pr_num.specs.Messages.{first_message}
use Rattle.pr_num.specs.declared.messages.Message.{Message}
use Rattle.pr_num.specs.declared.messages.Message.TheVariants.{Agent, Write}
use Rattle.pr_num.specs.declared.messages.MsgFault.{MsgFault}
use Rattle.pr_model.specs.ControlMessages.{tail_of, target_of}
use Rattle.pr_model.specs.Handles.{handle_of}
use Rattle.pr_model.specs.State.{TracedProcess, TracedState}
use Rattle.pr_model.specs.UntracedSteps.{Memory}
use Rattle.pr_model.specs.declared.calls.Call as calls
use Rattle.pr_model.specs.declared.calls.Call.TheVariants as call
use Rattle.pr_model.specs.declared.calls.Reply.{Reply}
use Rattle.pr_model.specs.declared.calls.Reply.TheVariants as reply
use Rattle.pr_model.specs.declared.events.Act.{Act}
use Rattle.pr_model.specs.declared.events.Act.TheVariants as act
use Rattle.pr_model.specs.declared.events.Actor.{Actor}
use Rattle.pr_model.specs.declared.events.Actor.TheVariants.{Controller, Lwp}
use Rattle.pr_model.specs.declared.events.Did.{Did}
use Rattle.pr_model.specs.declared.handles.Held.{Held}
use Rattle.pr_hidden.specs.Covers.{Cover, Covers, Patch, keeps_lwp, no_cover, with_cover}
use Rattle.pr_hidden.specs.HiddenSteps.{hidden_steps_of, turn_seen}
use Rattle.pr_hidden.specs.Hiders.{Hiders, cover_sent, covers_after, covers_called, covers_closed, covers_controlled, covers_sent, covers_targeted, covers_turned, exits, finished, hides, is_ctl, is_directed, is_own, lwp_at, replaces_memory, without_replaced}
use Rattle.pr_hidden.specs.Hiding.{with_fault, with_own_agent, with_patches}
use Rattle.pr_hide.specs.Bare.{bare, bare_cover}
use Rattle.pr_hide.specs.CoverTables.{covers_in}
use Rattle.pr_hide.proofs.CoverTableLemmas.{same-cover}

-- ---- what is told of processes is bare

module _ (agents : BTreeSet ℕ) (patches : BTreeMap ℕ (List Patch)) where
  pub is-bare : covers_in agents patches ≡ bare (covers_in agents patches)
  unfolding covers_in
  is-bare = refl

  pub still-bare : (x : Covers) → covers_in agents patches ≡ x → covers_in agents patches ≡ bare x
  still-bare x e = is-bare ∙ ap bare e

  module _ (who : Hiders) (s : TracedState) (pid id : ℕ) (did : Did) where
    -- a cover of one process that is as bare as the other one
    alike : (x y : Cover) → x ≡ bare_cover y
        → with_cover pid x (covers_in agents patches) ≡ bare (with_cover pid y (covers_in agents patches))
    unfolding covers_in
    alike x y e = fun_ext (λ q. by q (q == pid))
      where
        by : (q : ℕ) (b : Bool)
            → cond b x (covers_in agents patches q) ≡ bare_cover (cond b y (covers_in agents patches q))
        by q true = e
        by q false = refl

    left-out : (c : Cover) (kept out directed own : Bool) → kept ≡ false → out ≡ true
        → with_own_agent false (bare_cover c)
        ≡ bare_cover
        (cond (not kept) (cond out (with_own_agent false c) c)
        (without_replaced did (cond directed c (with_fault id own c))))
    left-out c false true directed own k o = refl
    left-out c true out directed own k o = cc
    left-out c false false directed own k o = cc

    stays-so : (c : Cover) (kept out directed own : Bool) → kept ≡ true → replaces_memory did ≡ false
        → bare_cover c
        ≡ bare_cover
        (cond (not kept) (cond out (with_own_agent false c) c)
        (without_replaced did (cond directed c (with_fault id own c))))
    stays-so c true out true own k r =
        ap (λ b. bare_cover (cond b (with_own_agent false (with_patches [] c)) c)) (sym r)
    stays-so c true out false own k r =
        ap (λ b. bare_cover (cond b (with_own_agent false (with_patches [] (with_fault id own c)))
        (with_fault id own c))) (sym r)
    stays-so c false out directed own k r = cc

    replaced-so : (c : Cover) (kept out directed own : Bool) → kept ≡ true → replaces_memory did ≡ true
        → no_cover
        ≡ bare_cover
        (cond (not kept) (cond out (with_own_agent false c) c)
        (without_replaced did (cond directed c (with_fault id own c))))
    replaced-so c true out true own k r =
        ap (λ b. bare_cover (cond b (with_own_agent false (with_patches [] c)) c)) (sym r)
    replaced-so c true out false own k r =
        ap (λ b. bare_cover (cond b (with_own_agent false (with_patches [] (with_fault id own c)))
        (with_fault id own c))) (sym r)
    replaced-so c false out directed own k r = cc

    goes-on : (c : Cover) (kept out directed own : Bool) → kept ≡ false → out ≡ false
        → bare_cover c
        ≡ bare_cover
        (cond (not kept) (cond out (with_own_agent false c) c)
        (without_replaced did (cond directed c (with_fault id own c))))
    goes-on c false false directed own k o = refl
    goes-on c true out directed own k o = cc
    goes-on c false true directed own k o = cc

    same : with_cover pid (covers_in agents patches pid) (covers_in agents patches) ≡ covers_in agents patches
    unfolding covers_in
    same = same-cover (covers_in agents patches) pid

    -- an agent of a controller's that ends
    pub agent-ended : keeps_lwp (covers_in agents patches pid) id ≡ false → exits did ≡ true
        → with_cover pid (with_own_agent false (covers_in agents patches pid)) (covers_in agents patches)
        ≡ bare (covers_turned who (covers_in agents patches) s pid id did)
    unfolding covers_turned covers_in
    agent-ended hidden out =
        alike _ _ (left-out (covers_in agents patches pid) (keeps_lwp (covers_in agents patches pid) id) (exits did)
        (is_directed (lwp_at s.system pid id)) (is_own who (covers_in agents patches) s pid id did) hidden out)

    -- one that goes on
    pub agent-goes : keeps_lwp (covers_in agents patches pid) id ≡ false → exits did ≡ false
        → covers_in agents patches ≡ bare (covers_turned who (covers_in agents patches) s pid id did)
    unfolding covers_turned covers_in
    agent-goes hidden goes =
        sym same
        ∙ alike _ _ (goes-on (covers_in agents patches pid) (keeps_lwp (covers_in agents patches pid) id) (exits did)
        (is_directed (lwp_at s.system pid id)) (is_own who (covers_in agents patches) s pid id did) hidden goes)

    -- any other lwp: after a vfork or an exec that was granted no breakpoint is planted, and no agent is left
    pub memory-replaced : keeps_lwp (covers_in agents patches pid) id ≡ true → replaces_memory did ≡ true
        → with_cover pid no_cover (covers_in agents patches)
        ≡ bare (covers_turned who (covers_in agents patches) s pid id did)
    unfolding covers_turned covers_in
    memory-replaced kept replaced =
        alike _ _ (replaced-so (covers_in agents patches pid) (keeps_lwp (covers_in agents patches pid) id) (exits did)
        (is_directed (lwp_at s.system pid id)) (is_own who (covers_in agents patches) s pid id did) kept replaced)

    pub lwp-turned : keeps_lwp (covers_in agents patches pid) id ≡ true → replaces_memory did ≡ false
        → covers_in agents patches ≡ bare (covers_turned who (covers_in agents patches) s pid id did)
    unfolding covers_turned covers_in
    lwp-turned kept other =
        sym same
        ∙ alike _ _ (stays-so (covers_in agents patches pid) (keeps_lwp (covers_in agents patches pid) id) (exits did)
        (is_directed (lwp_at s.system pid id)) (is_own who (covers_in agents patches) s pid id did) kept other)

pub ruleset entries = (is-bare, still-bare)

-- ---- no step, and nothing bare, depends on who stands at a fault

module _ (who : Hiders) (covers : Covers) (s : TracedState) where
  pub steps-bare : (m : Memory) (actor : Actor) (it : Act)
      → hidden_steps_of who (bare covers) s m (record { actor = actor; act = it })
      ≡ hidden_steps_of who covers s m (record { actor = actor; act = it })
  unfolding hidden_steps_of turn_seen is_own
  steps-bare m (Lwp pid id) (act.Turn t) = refl
  steps-bare m _ _ = refl

  both : (pid : ℕ) (x y : Cover) → bare_cover x ≡ bare_cover y
      → bare (with_cover pid x (bare covers)) ≡ bare (with_cover pid y covers)
  both pid x y e = fun_ext (λ q. by q (q == pid))
    where
      by : (q : ℕ) (b : Bool) → bare_cover (cond b x (bare covers q)) ≡ bare_cover (cond b y (covers q))
      by q true = e
      by q false = refl

  owned : (b : Bool) (c : Cover)
      → bare_cover (cond b (with_own_agent true (bare_cover c)) (bare_cover c))
      ≡ bare_cover (cond b (with_own_agent true c) c)
  owned true c = refl
  owned false c = refl

  message-bare : (k : ℕ) (p : TracedProcess) (m : Message) (tail : List ℕ) (c : Cover)
      → bare_cover (cover_sent who k p m tail (bare_cover c)) ≡ bare_cover (cover_sent who k p m tail c)
  unfolding cover_sent
  message-bare k p (Write at size) tail c = refl
  message-bare k p (Agent regs) tail c = owned (who.probes k) c
  message-bare k p _ tail c = refl

  sent-bare : (k pid : ℕ) (p : TracedProcess) (bytes : List ℕ) (first : Result (Message × ℕ) MsgFault)
      → bare (covers_sent who k pid p bytes first (bare covers)) ≡ bare (covers_sent who k pid p bytes first covers)
  sent-bare k pid p bytes (Err fault) = refl
  sent-bare k pid p bytes (Ok (m, len)) = both pid _ _ (message-bare k p m (tail_of m bytes) (covers pid))

  targeted-bare : (k : ℕ) (h : Held) (o : Option TracedProcess) (bytes : List ℕ)
      → bare (covers_targeted who k h o bytes (bare covers)) ≡ bare (covers_targeted who k h o bytes covers)
  targeted-bare k h None bytes = refl
  targeted-bare k h (Some p) bytes = sent-bare k h.pid p bytes (first_message bytes)

  controlled-bare : (k : ℕ) (o : Option Held) (bytes : List ℕ)
      → bare (covers_controlled who k s.system o bytes (bare covers))
      ≡ bare (covers_controlled who k s.system o bytes covers)
  controlled-bare k None bytes = refl
  controlled-bare k (Some h) bytes = targeted-bare k h (target_of s.system h) bytes

  closed-bare : (k : ℕ) (o : Option Held)
      → bare (covers_closed who k o (bare covers)) ≡ bare (covers_closed who k o covers)
  closed-bare k None = refl
  closed-bare k (Some h) = by (hides who k && is_ctl h.file)
    where
      by : (b : Bool)
          → bare (cond b (with_cover h.pid (finished (bare covers h.pid)) (bare covers)) (bare covers))
          ≡ bare (cond b (with_cover h.pid (finished (covers h.pid)) covers) covers)
      by true = both h.pid _ _ refl
      by false = refl

  called-bare : (k : ℕ) (c : calls.Call) (r : Reply)
      → bare (covers_called who (bare covers) s k c r) ≡ bare (covers_called who covers s k c r)
  unfolding covers_called
  called-bare k (call.Ctl handle bytes) (reply.Used used) = controlled-bare k (handle_of s.opens k handle) bytes
  called-bare k (call.Close handle) reply.Done = closed-bare k (handle_of s.opens k handle)
  called-bare k _ _ = refl

  replaced-alike : (b : Bool) (x y : Cover) → bare_cover x ≡ bare_cover y
      → bare_cover (cond b (with_own_agent false (with_patches [] x)) x)
      ≡ bare_cover (cond b (with_own_agent false (with_patches [] y)) y)
  replaced-alike true x y e = refl
  replaced-alike false x y e = e

  turned-alike : (id : ℕ) (did : Did) (c : Cover) (kept out directed own : Bool)
      → bare_cover
      (cond (not kept) (cond out (with_own_agent false (bare_cover c)) (bare_cover c))
      (without_replaced did (cond directed (bare_cover c) (with_fault id own (bare_cover c)))))
      ≡ bare_cover
      (cond (not kept) (cond out (with_own_agent false c) c)
      (without_replaced did (cond directed c (with_fault id own c))))
  turned-alike id did c false true directed own = refl
  turned-alike id did c false false directed own = refl
  turned-alike id did c true out true own = replaced-alike (replaces_memory did) (bare_cover c) c refl
  turned-alike id did c true out false own =
      replaced-alike (replaces_memory did) (with_fault id own (bare_cover c)) (with_fault id own c) refl

  turned-bare : (pid id : ℕ) (did : Did)
      → bare (covers_turned who (bare covers) s pid id did) ≡ bare (covers_turned who covers s pid id did)
  unfolding covers_turned is_own
  turned-bare pid id did =
      both pid _ _
      (turned-alike id did (covers pid) (keeps_lwp (covers pid) id) (exits did)
      (is_directed (lwp_at s.system pid id)) (is_own who covers s pid id did))

  pub after-bare : (actor : Actor) (it : Act)
      → bare (covers_after who (bare covers) s (record { actor = actor; act = it }))
      ≡ bare (covers_after who covers s (record { actor = actor; act = it }))
  unfolding covers_after
  after-bare (Controller k) (act.Call c r) = called-bare k c r
  after-bare (Lwp pid id) (act.Turn t) = turned-bare pid id t.did
  after-bare _ _ = refl
