use Rattle.std.proofs.Common.{◌≡◌, ◌≢◌, ◌⊎◌, ◌&&◌, ◌∷◌, ◌++◌, ℕ, Bool, true, false, not, cond, IfOk, List, [], Option, Some, None, Result, Ok, Err, refl, sym, subst, ap, ◌∙◌, inl, inr}
use Rattle.std.proofs.lemmas.Bool.{cases_eq, false≢true}
use Rattle.pr_hidden.proofs.NothingHidden.CoverLemmas.{cover-other, cover-own}
use Rattle.pr_hidden.specs.Covers.{Cover, Covers, keeps_lwp, with_cover}
use Rattle.pr_hidden.specs.Hiders.{Hiders, cover_sent, cover_turned, covers_after, covers_called, covers_closed, covers_controlled, covers_from, covers_sent, covers_targeted, covers_turned, exits, finished, hides, is_ctl, is_directed, is_own, lwp_at, replaces_memory, without_replaced}
use Rattle.pr_hidden.specs.Hiding.{with_fault, with_own_agent, with_patches}
use Rattle.pr_model.specs.ControlMessages.{tail_of, target_of}
use Rattle.pr_model.specs.Handles.{handle_of}
use Rattle.pr_model.specs.Legal.{after, state_after}
use Rattle.pr_model.specs.State.{TracedProcess, TracedState, TracedSystem}
use Rattle.pr_model.specs.declared.calls.Call as calls
use Rattle.pr_model.specs.declared.calls.Call.TheVariants as call
use Rattle.pr_model.specs.declared.calls.Reply.{Reply}
use Rattle.pr_model.specs.declared.calls.Reply.TheVariants as reply
use Rattle.pr_model.specs.declared.events.Did.{Did}
use Rattle.pr_model.specs.declared.events.Entry.{Entry}
use Rattle.pr_model.specs.declared.handles.Held.{Held}
use Rattle.pr_num.proofs.BoolLemmas.{either}
use Rattle.pr_num.specs.Messages.{first_message}
use Rattle.pr_num.specs.declared.messages.Message.{Message}
use Rattle.pr_num.specs.declared.messages.Message.TheVariants as message
use Rattle.pr_num.specs.declared.messages.MsgFault.{MsgFault}
use Rattle.pr_function_hides.proofs.Tidy.StillMessages.{BeginStill, is_still}

-- Which breakpoints and agents are hidden after an entry, where nobody hides an agent.

-- the same patches, and no agent
pub record IsAsPatched (c d : Cover) : Type 0 where
  pub patches : d.patches ≡ c.patches
  pub no_agent : c.agent ≡ false → d.agent ≡ false

pub patched-self : (c : Cover) → IsAsPatched c c
patched-self c = record { patches = refl; no_agent = λ none. none }

module _ (who : Hiders) (none : (k : ℕ) → who.probes k ≡ false) where
  -- ---- messages

  pub still-sent : (k : ℕ) (p : TracedProcess) (m : Message) (tail : List ℕ) (c : Cover) → is_still m ≡ true
      → IsAsPatched c (cover_sent who k p m tail c)
  unfolding cover_sent
  still-sent k p (message.Write at size) tail c still = absurd (false≢true still)
  still-sent k p (message.Agent regs) tail c still = absurd (false≢true still)
  still-sent k p _ tail c still = patched-self c

  -- of one who hides nothing
  pub other-sent : (k : ℕ) (p : TracedProcess) (m : Message) (tail : List ℕ) (c : Cover) → who.functions k ≡ []
      → IsAsPatched c (cover_sent who k p m tail c)
  unfolding cover_sent
  other-sent k p (message.Write at size) tail c bare =
      record { patches = rw (none k, bare) refl; no_agent = λ free. free }
  other-sent k p (message.Agent regs) tail c bare = rw (none k) (patched-self c)
  other-sent k p _ tail c bare = patched-self c

  pub sent-agent : (k : ℕ) (p : TracedProcess) (m : Message) (tail : List ℕ) (c : Cover) → c.agent ≡ false
      → (cover_sent who k p m tail c).agent ≡ false
  unfolding cover_sent
  sent-agent k p (message.Write at size) tail c free = free
  sent-agent k p (message.Agent regs) tail c free = rw (none k) free
  sent-agent k p _ tail c free = free

  -- ---- what a call to a control file is

  -- What a call by such a handle leaves hidden of a process: what was; or the process is that of the handle.
  pub data IsCalled (covers : Covers) (s : TracedSystem) (k : ℕ) (o : Option Held) (bytes : List ℕ) (pid : ℕ)
      (d : Cover) : Type 0 where
    untouched : d ≡ covers pid → IsCalled covers s k o bytes pid d
    sent : (h : Held) (p : TracedProcess) (m : Message) (len : ℕ) → o ≡ Some h → h.pid ≡ pid
        → target_of s h ≡ Some p → first_message bytes ≡ Ok (m, len)
        → d ≡ cover_sent who k p m (tail_of m bytes) (covers pid) → IsCalled covers s k o bytes pid d

  module _ (covers : Covers) (s : TracedSystem) (k : ℕ) (bytes : List ℕ) (pid : ℕ) where
    by-read : (h : Held) (p : TracedProcess) → target_of s h ≡ Some p → (r : Result (Message × ℕ) MsgFault)
        → first_message bytes ≡ r
        → IsCalled covers s k (Some h) bytes pid (covers_sent who k h.pid p bytes r covers pid)
    by-read h p target (Err fault) read = untouched refl
    by-read h p target (Ok (m, len)) read = of (cases_eq pid h.pid)
      where
        new : Cover
        new = cover_sent who k p m (tail_of m bytes) (covers h.pid)

        of : (pid ≡ h.pid) ⊎ (pid ≢ h.pid)
            → IsCalled covers s k (Some h) bytes pid (with_cover h.pid new covers pid)
        of (inl same) =
            sent h p m len refl (sym same) target read
            (ap (with_cover h.pid new covers) same ∙ cover-own h.pid new covers
            ∙ ap (λ (n : ℕ). cover_sent who k p m (tail_of m bytes) (covers n)) (sym same))
        of (inr apart) = untouched (cover-other h.pid new covers pid apart)

    by-target : (h : Held) (o : Option TracedProcess) → target_of s h ≡ o
        → IsCalled covers s k (Some h) bytes pid (covers_targeted who k h o bytes covers pid)
    by-target h None target = untouched refl
    by-target h (Some p) target = by-read h p target (first_message bytes) refl

    pub called-is : (o : Option Held) → IsCalled covers s k o bytes pid (covers_controlled who k s o bytes covers pid)
    called-is None = untouched refl
    called-is (Some h) = by-target h (target_of s h) refl

  -- ---- calls

  module _ (covers : Covers) (s : TracedState) (k pid : ℕ) where
    abbrev Stays : calls.Call → Reply → Type 0
    Stays c r = IsAsPatched (covers pid) (covers_called who covers s k c r pid)

    ctl-by : (number : ℕ) (bytes : List ℕ) (r : Reply)
        → ((h : Held) (p : TracedProcess) (m : Message) (len : ℕ) → handle_of s.opens k number ≡ Some h → h.pid ≡ pid
        → first_message bytes ≡ Ok (m, len)
        → IsAsPatched (covers pid) (cover_sent who k p m (tail_of m bytes) (covers pid)))
        → Stays (call.Ctl number bytes) r
    unfolding covers_called
    ctl-by number bytes (reply.Used used) each =
        by (called-is covers s.system k bytes pid (handle_of s.opens k number))
      where
        by : {d : Cover} → IsCalled covers s.system k (handle_of s.opens k number) bytes pid d
            → IsAsPatched (covers pid) d
        by (untouched is) = subst (IsAsPatched (covers pid)) (sym is) (patched-self (covers pid))
        by (sent h p m len held its target read is) =
            subst (IsAsPatched (covers pid)) (sym is) (each h p m len held its read)
    ctl-by number bytes _ each = patched-self (covers pid)

    -- a message that hides nothing
    pub ctl-still : (number : ℕ) (bytes : List ℕ) (r : Reply) → BeginStill bytes → Stays (call.Ctl number bytes) r
    ctl-still number bytes r still =
        ctl-by number bytes r (λ h p m len held its read.
        still-sent k p m (tail_of m bytes) (covers pid)
        (subst (λ (x : Result (Message × ℕ) MsgFault). IfOk x (λ f. is_still f.0 ≡ true)) read still))

    -- who hides nothing
    pub ctl-other : (number : ℕ) (bytes : List ℕ) (r : Reply) → who.functions k ≡ [] → Stays (call.Ctl number bytes) r
    ctl-other number bytes r bare =
        ctl-by number bytes r
        (λ h p m len held its read. other-sent k p m (tail_of m bytes) (covers pid) bare)

    -- by a handle of another process
    pub ctl-apart : (number : ℕ) (bytes : List ℕ) (r : Reply)
        → ((h : Held) → handle_of s.opens k number ≡ Some h → h.pid ≢ pid) → Stays (call.Ctl number bytes) r
    ctl-apart number bytes r apart = ctl-by number bytes r (λ h p m len held its read. absurd (apart h held its))

    -- a call that is no message and no close
    abbrev pub is_no_control : calls.Call → Bool
    is_no_control (call.Ctl number bytes) = false
    is_no_control (call.Close number) = false
    is_no_control _ = true

    pub call-still : (c : calls.Call) (r : Reply) → is_no_control c ≡ true → Stays c r
    unfolding covers_called
    call-still (call.Ctl number bytes) r is = absurd (false≢true is)
    call-still (call.Close number) r is = absurd (false≢true is)
    call-still _ r is = patched-self (covers pid)

    -- a close of another file than "ctl", or of another process
    pub close-apart : (number : ℕ) (r : Reply)
        → ((h : Held) → handle_of s.opens k number ≡ Some h → h.pid ≡ pid → is_ctl h.file ≡ false)
        → Stays (call.Close number) r
    unfolding covers_called
    close-apart number reply.Done apart = by (handle_of s.opens k number) refl
      where
        by : (o : Option Held) → handle_of s.opens k number ≡ o
            → IsAsPatched (covers pid) (covers_closed who k o covers pid)
        by None there = patched-self (covers pid)
        by (Some h) there = of (cases_eq pid h.pid)
          where
            new : Covers
            new = with_cover h.pid (finished (covers h.pid)) covers

            of : (pid ≡ h.pid) ⊎ (pid ≢ h.pid)
                → IsAsPatched (covers pid) (cond (hides who k && is_ctl h.file) new covers pid)
            of (inl same) =
                subst (λ b. IsAsPatched (covers pid) (cond b new covers pid)) (sym (off (apart h there (sym same))))
                (patched-self (covers pid))
              where
                off : is_ctl h.file ≡ false → (hides who k && is_ctl h.file) ≡ false
                off free = no_and (hides who k) (is_ctl h.file) free
                  where
                    no_and : (a b : Bool) → b ≡ false → (a && b) ≡ false
                    no_and true b is = is
                    no_and false b is = refl
            of (inr other) =
                either (λ (cs : Covers). IsAsPatched (covers pid) (cs pid)) (hides who k && is_ctl h.file) new covers
                (subst (IsAsPatched (covers pid)) (sym (cover-other h.pid (finished (covers h.pid)) covers pid other))
                (patched-self (covers pid))) (patched-self (covers pid))
    close-apart number _ apart = patched-self (covers pid)

    -- a close leaves what is hidden of it, or no breakpoint
    pub close-left : (number : ℕ) (r : Reply)
        → ((covers_called who covers s k (call.Close number) r pid).patches ≡ (covers pid).patches)
        ⊎ ((covers_called who covers s k (call.Close number) r pid).patches ≡ [])
    unfolding covers_called
    close-left number reply.Done = by (handle_of s.opens k number)
      where
        Left : Covers → Type 0
        Left cs = ((cs pid).patches ≡ (covers pid).patches) ⊎ ((cs pid).patches ≡ [])

        by : (o : Option Held) → Left (covers_closed who k o covers)
        by None = inl refl
        by (Some h) =
            either Left (hides who k && is_ctl h.file) (with_cover h.pid (finished (covers h.pid)) covers) covers
            (of (cases_eq pid h.pid)) (inl refl)
          where
            of : (pid ≡ h.pid) ⊎ (pid ≢ h.pid) → Left (with_cover h.pid (finished (covers h.pid)) covers)
            of (inl same) =
                inr (ap (λ n. (with_cover h.pid (finished (covers h.pid)) covers n).patches) same
                ∙ ap (λ (c : Cover). c.patches) (cover-own h.pid (finished (covers h.pid)) covers))
            of (inr other) =
                inl (ap (λ (c : Cover). c.patches)
                (cover-other h.pid (finished (covers h.pid)) covers pid other))
    close-left number _ = inl refl

    -- who hides nothing
    pub close-other : (number : ℕ) (r : Reply) → hides who k ≡ false → Stays (call.Close number) r
    unfolding covers_called
    close-other number reply.Done bare = by (handle_of s.opens k number)
      where
        by : (o : Option Held) → IsAsPatched (covers pid) (covers_closed who k o covers pid)
        by None = patched-self (covers pid)
        by (Some h) = rw bare (patched-self (covers pid))
    close-other number _ bare = patched-self (covers pid)

    -- who hides, and closes "ctl"
    pub close-own : (number : ℕ) (h : Held) → handle_of s.opens k number ≡ Some h → h.pid ≡ pid → is_ctl h.file ≡ true
        → hides who k ≡ true → (covers_called who covers s k (call.Close number) reply.Done pid).patches ≡ []
    unfolding covers_called
    close-own number h there its control it =
        let both : (hides who k && is_ctl h.file) ≡ true = rw (it, control) refl in
        ap (λ (o : Option Held). (covers_closed who k o covers pid).patches) there
        ∙ ap (λ b. (cond b (with_cover h.pid (finished (covers h.pid)) covers) covers pid).patches) both
        ∙ ap (λ (n : ℕ). (with_cover h.pid (finished (covers h.pid)) covers n).patches) (sym its)
        ∙ ap (λ (c : Cover). c.patches) (cover-own h.pid (finished (covers h.pid)) covers)

    -- no agent comes
    pub called-agent : (c : calls.Call) (r : Reply) → (covers pid).agent ≡ false
        → (covers_called who covers s k c r pid).agent ≡ false
    unfolding covers_called
    called-agent (call.Ctl number bytes) (reply.Used used) free =
        by (called-is covers s.system k bytes pid (handle_of s.opens k number))
      where
        by : {d : Cover} → IsCalled covers s.system k (handle_of s.opens k number) bytes pid d → d.agent ≡ false
        by (untouched is) = ap (λ (c : Cover). c.agent) is ∙ free
        by (sent h p m len held its target read is) =
            ap (λ (c : Cover). c.agent) is ∙ sent-agent k p m (tail_of m bytes) (covers pid) free
    called-agent (call.Close number) reply.Done free = by (handle_of s.opens k number)
      where
        by : (o : Option Held) → (covers_closed who k o covers pid).agent ≡ false
        by None = free
        by (Some h) = of (cases_eq pid h.pid)
          where
            of : (pid ≡ h.pid) ⊎ (pid ≢ h.pid) → (covers_closed who k (Some h) covers pid).agent ≡ false
            of (inl same) =
                either (λ (cs : Covers). (cs pid).agent ≡ false) (hides who k && is_ctl h.file) _ covers
                (ap (λ (c : Cover). c.agent)
                (ap (with_cover h.pid (finished (covers h.pid)) covers) same
                ∙ cover-own h.pid (finished (covers h.pid)) covers)
                ∙ ap (λ n. (covers n).agent) (sym same) ∙ free) free
            of (inr other) =
                either (λ (cs : Covers). (cs pid).agent ≡ false) (hides who k && is_ctl h.file) _ covers
                (ap (λ (c : Cover). c.agent) (cover-other h.pid (finished (covers h.pid)) covers pid other) ∙ free) free
    called-agent _ _ free = free

  -- a message that was taken, by a handle of this process
  pub taken-cover : (covers : Covers) (s : TracedSystem) (k : ℕ) (h : Held) (p : TracedProcess) (bytes : List ℕ)
      (m : Message) (len : ℕ) → target_of s h ≡ Some p → first_message bytes ≡ Ok (m, len)
      → covers_controlled who k s (Some h) bytes covers h.pid ≡ cover_sent who k p m (tail_of m bytes) (covers h.pid)
  taken-cover covers s k h p bytes m len target read =
      rw (target, read) (cover-own h.pid (cover_sent who k p m (tail_of m bytes) (covers h.pid)) covers)

  -- ---- turns

  -- a turn that gives no memory away and gets none
  pub turn-stays : (covers : Covers) (s : TracedState) (acting id : ℕ) (did : Did) (pid : ℕ)
      → (covers acting).agent ≡ false → (replaces_memory did ≡ true → (covers acting).patches ≡ [])
      → IsAsPatched (covers pid) (covers_turned who covers s acting id did pid)
  unfolding covers_turned
  turn-stays covers s acting id did pid free bare = of (cases_eq pid acting)
    where
      c : Cover
      c = covers acting

      d : Cover
      d = cond (is_directed (lwp_at s.system acting id)) c (with_fault id (is_own who covers s acting id did) c)

      faulted : IsAsPatched c d
      faulted =
          either (IsAsPatched c) (is_directed (lwp_at s.system acting id)) c _ (patched-self c)
          (record { patches = refl; no_agent = λ it. it })

      replaced : (b : Bool) → replaces_memory did ≡ b
          → IsAsPatched c (cond b (with_own_agent false (with_patches [] d)) d)
      replaced true is = record {
        patches = sym (bare is);
        no_agent = λ it. refl;
      }
      replaced false is = faulted

      kept : keeps_lwp c id ≡ true
      kept = rw free refl

      turned : IsAsPatched c (cover_turned who covers s acting id did c)
      turned =
          subst (λ (b : Bool). IsAsPatched c (cond (not b) (cond (exits did) (with_own_agent false c) c)
          (without_replaced did d))) (sym kept) (replaced (replaces_memory did) refl)

      of : (pid ≡ acting) ⊎ (pid ≢ acting)
          → IsAsPatched (covers pid) (with_cover acting (cover_turned who covers s acting id did c) covers pid)
      of (inl same) =
          subst (λ (n : ℕ). IsAsPatched (covers n)
          (with_cover acting (cover_turned who covers s acting id did c) covers n)) (sym same)
          (subst (IsAsPatched c) (sym (cover-own acting (cover_turned who covers s acting id did c) covers)) turned)
      of (inr other) =
          subst (IsAsPatched (covers pid))
          (sym (cover-other acting (cover_turned who covers s acting id did c) covers pid other))
          (patched-self (covers pid))

-- one entry more
pub covers-push : (who : Hiders) (covers : Covers) (s : TracedState) (h : List Entry) (e : Entry)
    → covers_from who covers s (h ++ e ∷ []) ≡ covers_after who (covers_from who covers s h) (state_after s h) e
covers-push who covers s [] e = refl
covers-push who covers s (x ∷ xs) e = covers-push who (covers_after who covers s x) (after s x) xs e
