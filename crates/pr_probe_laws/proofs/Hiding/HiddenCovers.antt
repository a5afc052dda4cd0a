use Rattle.std.proofs.Common.{◌≡◌, ◌≢◌, ◌⊎◌, ◌&&◌, ◌||◌, ◌∷◌, ◌++◌, ℕ, Bool, true, false, not, cond, eqb, List, [], Option, Some, None, Result, Ok, Err, refl, sym, subst, ap, ◌∙◌, inl, inr}
use Rattle.std.proofs.lemmas.Bool.{cases_eq}
use Rattle.std.proofs.lemmas.Option.{same_Some}
use Rattle.std.specs.List.{list_any}
use Rattle.pr_hidden.proofs.NothingHidden.CoverLemmas.{cover-other, cover-own, each-cover}
use Rattle.pr_hidden.specs.Covers.{Cover, Covers, keeps_lwp, with_cover}
use Rattle.pr_hidden.specs.Hiders.{Hiders, cover_sent, cover_turned, covers_after, covers_called, covers_closed, covers_controlled, covers_from, covers_sent, covers_targeted, covers_turned, exits, finished, has_hold, hides, is_at_patch, is_ctl, is_directed, is_hold, is_own, is_own_fault, lwp_at, replaces_memory, without_replaced}
use Rattle.pr_hidden.specs.Hiding.{with_fault, with_own_agent, with_patches}
use Rattle.pr_hidden.specs.Tidiness.{IsTidyControl, IsTidyMessage, IsTidySent, IsTidyTargeted, is_step_flags}
use Rattle.pr_model.specs.ControlMessages.{aim_of, tail_of, target_of}
use Rattle.pr_model.specs.Handles.{handle_of}
use Rattle.pr_model.specs.Legal.{after, state_after}
use Rattle.pr_model.specs.State.{Places, TracedProcess, TracedState, TracedSystem}
use Rattle.pr_model.specs.declared.calls.Call as calls
use Rattle.pr_model.specs.declared.calls.Call.TheVariants as call
use Rattle.pr_model.specs.declared.calls.Reply.{Reply}
use Rattle.pr_model.specs.declared.calls.Reply.TheVariants as reply
use Rattle.pr_model.specs.declared.events.Did.{Did}
use Rattle.pr_model.specs.declared.events.Did.TheVariants.{Faulted, Stopped}
use Rattle.pr_model.specs.declared.events.Entry.{Entry}
use Rattle.pr_model.specs.declared.handles.Held.{Held}
use Rattle.pr_num.proofs.BoolLemmas.{and_false, either}
use Rattle.pr_num.specs.Messages.{first_message}
use Rattle.pr_num.specs.declared.faults.Flt.TheVariants as flt
use Rattle.pr_num.specs.declared.messages.Message.{Message}
use Rattle.pr_num.specs.declared.messages.Message.TheVariants as message
use Rattle.pr_num.specs.declared.messages.MsgFault.{MsgFault}
use Rattle.pr_truss_laws.proofs.Machine.TakenLemmas.{ReadsAs}

-- What is hidden after an entry, where those who hide run agents and set no breakpoints.

-- one entry more
pub covers-push : (who : Hiders) (covers : Covers) (s : TracedState) (h : List Entry) (e : Entry)
    → covers_from who covers s (h ++ e ∷ []) ≡ covers_after who (covers_from who covers s h) (state_after s h) e
covers-push who covers s [] e = refl
covers-push who covers s (x ∷ xs) e = covers-push who (covers_after who covers s x) (after s x) xs e

-- the same patches, and the same agent
pub record AreAlike (c d : Cover) : Type 0 where
  pub patches : d.patches ≡ c.patches
  pub agent : d.agent ≡ c.agent

pub alike-self : (c : Cover) → AreAlike c c
alike-self c = record { patches = refl; agent = refl }

-- no lwp stands at a fault of a controller's
abbrev pub HaveNoFaults : Covers → Type 0
HaveNoFaults covers = (pid id : ℕ) → (covers pid).faulted id ≡ false

abbrev pub HasNoFault : Cover → Type 0
HasNoFault c = (id : ℕ) → c.faulted id ≡ false

-- a call that is no message and no close
abbrev pub is_no_control : calls.Call → Bool
is_no_control (call.Ctl number bytes) = false
is_no_control (call.Close number) = false
is_no_control _ = true

-- a message that hides nothing
abbrev pub is_still : Message → Bool
is_still (message.Write at size) = false
is_still (message.Agent regs) = false
is_still m = true

-- a message that hides nothing, and that has to meet nothing
abbrev pub is_plain : Message → Bool
is_plain (message.Write at size) = false
is_plain (message.Agent regs) = false
is_plain (message.Sreg regs) = false
is_plain message.Cfault = false
is_plain (message.Run flags) = not (is_step_flags flags)
is_plain m = true

module _ (who : Hiders) (none : (k : ℕ) → who.functions k ≡ []) where
  -- ---- messages

  pub other-sent : (k : ℕ) (p : TracedProcess) (m : Message) (tail : List ℕ) (c : Cover) → who.probes k ≡ false
      → AreAlike c (cover_sent who k p m tail c)
  unfolding cover_sent
  other-sent k p (message.Write at size) tail c other = record { patches = rw (other, none k) refl; agent = refl }
  other-sent k p (message.Agent regs) tail c other = rw other (alike-self c)
  other-sent k p _ tail c other = alike-self c

  pub plain-sent : (k : ℕ) (p : TracedProcess) (m : Message) (tail : List ℕ) (c : Cover) → is_plain m ≡ true
      → AreAlike c (cover_sent who k p m tail c)
  unfolding cover_sent
  plain-sent k p (message.Write at size) tail c plain = cc
  plain-sent k p (message.Agent regs) tail c plain = cc
  plain-sent k p _ tail c plain = alike-self c

  sent-faults : (k : ℕ) (p : TracedProcess) (m : Message) (tail : List ℕ) (c : Cover) → HasNoFault c
      → HasNoFault (cover_sent who k p m tail c)
  unfolding cover_sent
  sent-faults k p (message.Write at size) tail c clean = clean
  sent-faults k p (message.Agent regs) tail c clean =
      either HasNoFault (who.probes k) (with_own_agent true c) c clean clean
  sent-faults k p _ tail c clean = clean

  -- ---- what a call to a control file is

  -- What a call by such a handle leaves hidden of a process: what was; or the process is that of the handle.
  pub data IsCalled (covers : Covers) (s : TracedSystem) (k : ℕ) (o : Option Held) (bytes : List ℕ) (pid : ℕ)
      (d : Cover) : Type 0 where
    untouched : d ≡ covers pid → IsCalled covers s k o bytes pid d
    sent : (h : Held) (p : TracedProcess) (m : Message) (len : ℕ) → o ≡ Some h → h.pid ≡ pid
        → target_of s h ≡ Some p → first_message bytes ≡ Ok (m, len)
        → d ≡ cover_sent who k p m (tail_of m bytes) (covers pid) → IsCalled covers s k o bytes pid d

  module _ (covers : Covers) (s : TracedSystem) (k : ℕ) (bytes : List ℕ) (pid : ℕ) where
    by-read : (h : Held) (p : TracedProcess) → target_of s h ≡ Some p → (r : Result (Message × ℕ) MsgFault)
        → first_message bytes ≡ r
        → IsCalled covers s k (Some h) bytes pid (covers_sent who k h.pid p bytes r covers pid)
    by-read h p target (Err fault) read = untouched refl
    by-read h p target (Ok (m, len)) read = of (cases_eq pid h.pid)
      where
        new : Cover
        new = cover_sent who k p m (tail_of m bytes) (covers h.pid)

        of : (pid ≡ h.pid) ⊎ (pid ≢ h.pid)
            → IsCalled covers s k (Some h) bytes pid (with_cover h.pid new covers pid)
        of (inl same) =
            sent h p m len refl (sym same) target read
            (ap (with_cover h.pid new covers) same ∙ cover-own h.pid new covers
            ∙ ap (λ (n : ℕ). cover_sent who k p m (tail_of m bytes) (covers n)) (sym same))
        of (inr apart) = untouched (cover-other h.pid new covers pid apart)

    by-target : (h : Held) (o : Option TracedProcess) → target_of s h ≡ o
        → IsCalled covers s k (Some h) bytes pid (covers_targeted who k h o bytes covers pid)
    by-target h None target = untouched refl
    by-target h (Some p) target = by-read h p target (first_message bytes) refl

    pub called-is : (o : Option Held) → IsCalled covers s k o bytes pid (covers_controlled who k s o bytes covers pid)
    called-is None = untouched refl
    called-is (Some h) = by-target h (target_of s h) refl

  -- what has to be shown of a call to a control file
  module _ (covers : Covers) (s : TracedSystem) (k : ℕ) (bytes : List ℕ) where
    tidy-read : (h : Held) (p : TracedProcess)
        → ((m : Message) (len : ℕ) → first_message bytes ≡ Ok (m, len)
        → IsTidyMessage who k covers s h.pid p (aim_of h) m (tail_of m bytes))
        → (r : Result (Message × ℕ) MsgFault) → first_message bytes ≡ r → IsTidySent who k covers s h p bytes r
    tidy-read h p each (Err fault) read = tt
    tidy-read h p each (Ok (m, len)) read = each m len read

    tidy-target : (h : Held) (o : Option TracedProcess) → target_of s h ≡ o
        → ((p : TracedProcess) (m : Message) (len : ℕ) → target_of s h ≡ Some p → first_message bytes ≡ Ok (m, len)
        → IsTidyMessage who k covers s h.pid p (aim_of h) m (tail_of m bytes)) → IsTidyTargeted who k covers s h o bytes
    tidy-target h None target each = tt
    tidy-target h (Some p) target each =
        tidy-read h p (λ m len read. each p m len target read) (first_message bytes) refl

    pub tidy-called : (o : Option Held)
        → ((h : Held) (p : TracedProcess) (m : Message) (len : ℕ) → o ≡ Some h → target_of s h ≡ Some p
        → first_message bytes ≡ Ok (m, len) → IsTidyMessage who k covers s h.pid p (aim_of h) m (tail_of m bytes))
        → IsTidyControl who k covers s o bytes
    tidy-called None each = tt
    tidy-called (Some h) each = tidy-target h (target_of s h) refl
        (λ p m len target read. each h p m len refl target read)

  -- a plain message has to meet nothing
  pub plain-tidy : (k : ℕ) (covers : Covers) (s : TracedSystem) (pid : ℕ) (p : TracedProcess) (m : Message)
      (tail : List ℕ) → is_plain m ≡ true → (aim : _) → IsTidyMessage who k covers s pid p aim m tail
  plain-tidy k covers s pid p (message.Write at size) tail plain aim = absurd (cc)
  plain-tidy k covers s pid p (message.Sreg regs) tail plain aim = absurd (cc)
  plain-tidy k covers s pid p message.Cfault tail plain aim = absurd (cc)
  plain-tidy k covers s pid p (message.Run flags) tail plain aim =
      λ steps. absurd (let both : not true ≡ true = ap (λ (b : Bool). not b) (sym steps) ∙ plain in cc)
  plain-tidy k covers s pid p _ tail plain aim = tt

  -- ---- faults

  pub called-faults : (covers : Covers) → HaveNoFaults covers → (s : TracedState) (k : ℕ) (c : calls.Call) (r : Reply)
      → HaveNoFaults (covers_called who covers s k c r)
  unfolding covers_called
  called-faults covers clean s k (call.Ctl handle bytes) (reply.Used used) pid =
      by (called-is covers s.system k bytes pid (handle_of s.opens k handle))
    where
      by : {d : Cover} → IsCalled covers s.system k (handle_of s.opens k handle) bytes pid d → HasNoFault d
      by (untouched is) = subst HasNoFault (sym is) (clean pid)
      by (sent h p m len held its target read is) =
          subst HasNoFault (sym is) (sent-faults k p m (tail_of m bytes) (covers pid) (clean pid))
  called-faults covers clean s k (call.Close handle) reply.Done pid = by (handle_of s.opens k handle)
    where
      by : (o : Option Held) → HasNoFault (covers_closed who k o covers pid)
      by None = clean pid
      by (Some h) =
          either (λ (cs : Covers). HasNoFault (cs pid)) (hides who k && is_ctl h.file)
          (with_cover h.pid (finished (covers h.pid)) covers) covers
          (each-cover HasNoFault h.pid (finished (covers h.pid)) covers (λ id. refl) clean pid) (clean pid)
  called-faults covers clean s k _ _ pid = clean pid

  -- ---- turns

  no-hold : (opens : Places) (pid : ℕ) → has_hold who opens pid ≡ false
  unfolding has_hold
  no-hold [] pid = refl
  no-hold (None ∷ opens) pid = no-hold opens pid
  no-hold (Some h ∷ opens) pid =
      rw (none h.controller)
      (ap (λ b. (eqb h.pid pid && b) || list_any (is_hold who pid) opens) (and_false (is_ctl h.file))
      ∙ ap (λ b. b || list_any (is_hold who pid) opens) (and_false (eqb h.pid pid)) ∙ no-hold opens pid)

  no-own : (at : Bool) (did : Did) → is_own_fault false at did ≡ false
  no-own at (Faulted flt.Ill) = refl
  no-own at (Faulted flt.Bpt) = refl
  no-own at (Faulted flt.Trace) = refl
  no-own at (Faulted flt.Watch) = refl
  no-own at (Faulted flt.Access) = refl
  no-own at (Faulted flt.Bounds) = refl
  no-own at (Faulted flt.Stack) = refl
  no-own at (Faulted flt.Izdiv) = refl
  no-own at _ = refl

  pub none-own : (covers : Covers) (s : TracedState) (pid id : ℕ) (did : Did) → is_own who covers s pid id did ≡ false
  unfolding is_own
  none-own covers s pid id did =
      let at = is_at_patch (covers pid).patches (lwp_at s.system pid id) in
      ap (λ b. is_own_fault b at did) (no-hold s.opens pid) ∙ no-own at did

  module _ (covers : Covers) (s : TracedState) (pid id : ℕ) (did : Did) where
    abbrev c : Cover
    c = covers pid

    turned-fault : HasNoFault c → HasNoFault (cover_turned who covers s pid id did c)
    turned-fault clean =
        either HasNoFault (not (keeps_lwp c id)) _ _
        (either HasNoFault (exits did) (with_own_agent false c) c clean clean)
        (of (replaces_memory did) (cond (is_directed (lwp_at s.system pid id)) c
        (with_fault id (is_own who covers s pid id did) c))
        (either HasNoFault (is_directed (lwp_at s.system pid id)) c _ clean faultless))
      where
        of : (b : Bool) (d : Cover) → HasNoFault d
            → HasNoFault (cond b (with_own_agent false (with_patches [] d)) d)
        of true d it = it
        of false d it = it

        faultless : HasNoFault (with_fault id (is_own who covers s pid id did) c)
        faultless other =
            either (λ (b : Bool). b ≡ false) (eqb other id) (is_own who covers s pid id did) (c.faulted other)
            (none-own covers s pid id did) (clean other)

    -- where nothing is hidden nothing is hidden later
    pub bare-turned : c.patches ≡ [] → c.agent ≡ false
        → ((cover_turned who covers s pid id did c).patches ≡ [])
        × ((cover_turned who covers s pid id did c).agent ≡ false)
    bare-turned bare agent =
        let own = is_own who covers s pid id did in
        let kept : keeps_lwp c id ≡ true = rw agent refl in
        subst (λ (b : Bool).
        ((cond (not b) (cond (exits did) (with_own_agent false c) c)
        (without_replaced did (cond (is_directed (lwp_at s.system pid id)) c (with_fault id own c)))).patches ≡ [])
        × ((cond (not b) (cond (exits did) (with_own_agent false c) c)
        (without_replaced did (cond (is_directed (lwp_at s.system pid id)) c (with_fault id own c)))).agent ≡ false))
        (sym kept)
        (of (replaces_memory did) _
        (either (λ (d : Cover). (d.patches ≡ []) × (d.agent ≡ false)) (is_directed (lwp_at s.system pid id)) c
        (with_fault id own c) (bare, agent) (bare, agent)))
      where
        of : (b : Bool) (d : Cover) → (d.patches ≡ []) × (d.agent ≡ false)
            → ((cond b (with_own_agent false (with_patches [] d)) d).patches ≡ [])
            × ((cond b (with_own_agent false (with_patches [] d)) d).agent ≡ false)
        of true d it = (refl, refl)
        of false d it = it

    -- an lwp that only stops as it was directed to
    pub stopped-turned : keeps_lwp c id ≡ true → did ≡ Stopped → is_directed (lwp_at s.system pid id) ≡ true
        → cover_turned who covers s pid id did c ≡ c
    stopped-turned kept stops directed = rw (kept, stops, directed) refl

    -- the hidden agent
    pub agent-turned : keeps_lwp c id ≡ false
        → cover_turned who covers s pid id did c ≡ cond (exits did) (with_own_agent false c) c
    agent-turned hidden = rw hidden refl

  pub turned-faults : (covers : Covers) → HaveNoFaults covers → (s : TracedState) (pid id : ℕ) (did : Did)
      → HaveNoFaults (covers_turned who covers s pid id did)
  unfolding covers_turned
  turned-faults covers clean s pid id did =
      each-cover HasNoFault pid (cover_turned who covers s pid id did (covers pid)) covers
      (turned-fault covers s pid id did (clean pid)) clean

  pub turned-other : (covers : Covers) (s : TracedState) (acting id : ℕ) (did : Did) (pid : ℕ) → pid ≢ acting
      → covers_turned who covers s acting id did pid ≡ covers pid
  unfolding covers_turned
  turned-other covers s acting id did pid apart =
      cover-other acting (cover_turned who covers s acting id did (covers acting)) covers pid apart

  pub turned-own : (covers : Covers) (s : TracedState) (pid id : ℕ) (did : Did)
      → covers_turned who covers s pid id did pid ≡ cover_turned who covers s pid id did (covers pid)
  unfolding covers_turned
  turned-own covers s pid id did = cover-own pid (cover_turned who covers s pid id did (covers pid)) covers

  -- ---- calls that hide nothing more

  still-sent : (k : ℕ) (p : TracedProcess) (m : Message) (tail : List ℕ) (c : Cover) → is_still m ≡ true
      → AreAlike c (cover_sent who k p m tail c)
  unfolding cover_sent
  still-sent k p (message.Write at size) tail c still = cc
  still-sent k p (message.Agent regs) tail c still = cc
  still-sent k p _ tail c still = alike-self c

  pub reads-same : (bytes : List ℕ) (m n : Message) (len : ℕ) → ReadsAs m (first_message bytes)
      → first_message bytes ≡ Ok (n, len) → n ≡ m
  reads-same bytes m n len reads read = rw read at reads

  module _ (covers : Covers) (s : TracedState) (k : ℕ) (pid : ℕ) where
    by-sent : (o : Option Held) (bytes : List ℕ)
        → ((h : Held) (p : TracedProcess) (m : Message) (len : ℕ) → o ≡ Some h → first_message bytes ≡ Ok (m, len)
        → AreAlike (covers pid) (cover_sent who k p m (tail_of m bytes) (covers pid)))
        → AreAlike (covers pid) (covers_controlled who k s.system o bytes covers pid)
    by-sent o bytes each = by (called-is covers s.system k bytes pid o)
      where
        by : {d : Cover} → IsCalled covers s.system k o bytes pid d → AreAlike (covers pid) d
        by (untouched is) = subst (AreAlike (covers pid)) (sym is) (alike-self (covers pid))
        by (sent h p m len held its target read is) =
            subst (AreAlike (covers pid)) (sym is) (each h p m len held read)

    ctl-by : (number : ℕ) (bytes : List ℕ) (r : Reply)
        → ((h : Held) (p : TracedProcess) (m : Message) (len : ℕ) → handle_of s.opens k number ≡ Some h
        → first_message bytes ≡ Ok (m, len)
        → AreAlike (covers pid) (cover_sent who k p m (tail_of m bytes) (covers pid)))
        → AreAlike (covers pid) (covers_called who covers s k (call.Ctl number bytes) r pid)
    unfolding covers_called
    ctl-by number bytes (reply.Used used) each = by-sent (handle_of s.opens k number) bytes each
    ctl-by number bytes _ each = alike-self (covers pid)

    -- a message that hides nothing
    pub ctl-still : (c : calls.Call) (number : ℕ) (bytes : List ℕ) (m : Message) → Some (call.Ctl number bytes) ≡ Some c
        → ReadsAs m (first_message bytes) → is_still m ≡ true → (r : Reply)
        → AreAlike (covers pid) (covers_called who covers s k c r pid)
    ctl-still c number bytes m same reads still r =
        subst (λ (d : calls.Call). AreAlike (covers pid) (covers_called who covers s k d r pid))
        (same_Some (call.Ctl number bytes) c same)
        (ctl-by number bytes r
        (λ h p n len held read.
        still-sent k p n (tail_of n bytes) (covers pid) (ap is_still (reads-same bytes m n len reads read) ∙ still)))

    -- who is no apfiles
    pub ctl-other : (number : ℕ) (bytes : List ℕ) (r : Reply) → who.probes k ≡ false
        → AreAlike (covers pid) (covers_called who covers s k (call.Ctl number bytes) r pid)
    ctl-other number bytes r other =
        ctl-by number bytes r (λ h p m len held read. other-sent k p m (tail_of m bytes) (covers pid) other)

    -- whose message is plain
    pub ctl-plain : (number : ℕ) (bytes : List ℕ) (r : Reply)
        → ((m : Message) (len : ℕ) → first_message bytes ≡ Ok (m, len) → is_plain m ≡ true)
        → AreAlike (covers pid) (covers_called who covers s k (call.Ctl number bytes) r pid)
    ctl-plain number bytes r plain =
        ctl-by number bytes r
        (λ h p m len held read. plain-sent k p m (tail_of m bytes) (covers pid) (plain m len read))

    -- by a handle of another process
    pub ctl-apart : (number : ℕ) (bytes : List ℕ) (r : Reply)
        → ((used : ℕ) → r ≡ reply.Used used → (h : Held) → handle_of s.opens k number ≡ Some h → h.pid ≢ pid)
        → AreAlike (covers pid) (covers_called who covers s k (call.Ctl number bytes) r pid)
    unfolding covers_called
    ctl-apart number bytes (reply.Used used) apart = by (called-is covers s.system k bytes pid
        (handle_of s.opens k number))
      where
        by : {d : Cover} → IsCalled covers s.system k (handle_of s.opens k number) bytes pid d → AreAlike (covers pid) d
        by (untouched is) = subst (AreAlike (covers pid)) (sym is) (alike-self (covers pid))
        by (sent h p m len held its target read is) = absurd (apart used refl h held its)
    ctl-apart number bytes _ apart = alike-self (covers pid)

    -- other calls
    pub call-still : (c : calls.Call) (r : Reply) → is_no_control c ≡ true
        → AreAlike (covers pid) (covers_called who covers s k c r pid)
    unfolding covers_called
    call-still (call.Ctl number bytes) r is = absurd (cc)
    call-still (call.Close number) r is = absurd (cc)
    call-still _ r is = alike-self (covers pid)

  -- a message that was taken, by a handle of this process
  pub taken-cover : (covers : Covers) (s : TracedSystem) (k : ℕ) (h : Held) (p : TracedProcess) (bytes : List ℕ)
      (m : Message) (len : ℕ) → target_of s h ≡ Some p → first_message bytes ≡ Ok (m, len)
      → covers_controlled who k s (Some h) bytes covers h.pid ≡ cover_sent who k p m (tail_of m bytes) (covers h.pid)
  taken-cover covers s k h p bytes m len target read =
      rw (target, read) (cover-own h.pid (cover_sent who k p m (tail_of m bytes) (covers h.pid)) covers)
