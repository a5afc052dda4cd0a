use Rattle.std.proofs.Common.{◌≡◌, ◌≢◌, ◌⊎◌, ◌&&◌, ℕ, Bool, true, false, not, cond, is_some, Option, Some, None, List}
use Rattle.std.proofs.Common.{[], refl, sym, subst, ap, ◌∙◌, inl, inr}
use Rattle.std.proofs.lemmas.Bool.{and_parts, cases_Bool, cases_eq, eq-eqb, false≢true, ne_eqb}
use Rattle.pr_function_hides.proofs.Tidy.CalledCovers.{IsCalled, called-is, sent, untouched}
use Rattle.pr_function_hides.proofs.StandingFaults.OwnFaults.{CountLess}
use Rattle.pr_hidden.proofs.NothingHidden.CoverLemmas.{cover-other, cover-own}
use Rattle.pr_hidden.specs.Covers.{Cover, Covers, Patch, keeps_lwp, with_cover}
use Rattle.pr_hidden.specs.Hiders.{Hiders, cover_sent, cover_turned, covers_called, covers_closed, covers_turned, exits}
use Rattle.pr_hidden.specs.Hiders.{finished, has_hold, hides, is_at_patch, is_ctl, is_directed, is_own, is_own_fault}
use Rattle.pr_hidden.specs.Hiders.{lwp_at, lwp_in, patch_at, replaces_memory, without_replaced}
use Rattle.pr_hidden.specs.Hiding.{with_fault, with_own_agent, with_patches}
use Rattle.pr_model.specs.ControlMessages.{tail_of}
use Rattle.pr_model.specs.Handles.{handle_of}
use Rattle.pr_model.specs.Registers.{pc_of}
use Rattle.pr_model.specs.State.{TracedLwp, TracedProcess, TracedState, live_process, lwp_of}
use Rattle.pr_model.specs.declared.calls.Call as calls
use Rattle.pr_model.specs.declared.calls.Call.TheVariants as call
use Rattle.pr_model.specs.declared.calls.Reply.{Reply}
use Rattle.pr_model.specs.declared.calls.Reply.TheVariants as reply
use Rattle.pr_model.specs.declared.events.Did.{Did}
use Rattle.pr_model.specs.declared.events.Did.TheVariants.{Faulted}
use Rattle.pr_model.specs.declared.handles.Held.{Held}
use Rattle.pr_num.proofs.BoolLemmas.{either}
use Rattle.pr_num.specs.declared.faults.Flt.TheVariants.{Bpt, Trace}
use Rattle.pr_num.specs.declared.messages.Message.{Message}
use Rattle.pr_num.specs.declared.messages.Message.TheVariants as message

-- Which lwps count as standing at a fault of one who hides after an entry: after a call no more than before, and after
-- a turn the one whose turn it was, where that was such a fault.

-- ---- calls

module _ (who : Hiders) (none : (k : ℕ) → who.probes k ≡ false) (covers : Covers) (s : TracedState) (k pid : ℕ) where
  abbrev Less : Cover → Type 0
  Less d = CountLess (covers pid) d

  self-less : Less (covers pid)
  self-less id it = it

  sent-less : (p : TracedProcess) (m : Message) (tail : List ℕ) → Less (cover_sent who k p m tail (covers pid))
  unfolding cover_sent
  sent-less p (message.Write at size) tail = self-less
  sent-less p (message.Agent regs) tail =
      either Less (who.probes k) (with_own_agent true (covers pid)) (covers pid) self-less self-less
  sent-less p _ tail = self-less

  pub called-less : (c : calls.Call) (r : Reply) → Less (covers_called who covers s k c r pid)
  unfolding covers_called
  called-less (call.Ctl number bytes) (reply.Used used) =
      by (called-is who none covers s.system k bytes pid (handle_of s.opens k number))
    where
      by : {d : Cover} → IsCalled who none covers s.system k (handle_of s.opens k number) bytes pid d → Less d
      by (untouched is) = subst Less (sym is) self-less
      by (sent h p m len held its target read is) = subst Less (sym is) (sent-less p m (tail_of m bytes))
  called-less (call.Close number) reply.Done = by (handle_of s.opens k number)
    where
      by : (o : Option Held) → Less (covers_closed who k o covers pid)
      by None = self-less
      by (Some h) =
          either (λ (cs : Covers). Less (cs pid)) (hides who k && is_ctl h.file) closed covers (of (cases_eq pid h.pid))
          self-less
        where
          closed : Covers
          closed = with_cover h.pid (finished (covers h.pid)) covers

          of : (pid ≡ h.pid) ⊎ (pid ≢ h.pid) → Less (closed pid)
          of (inl same) =
              subst Less (sym (ap closed same ∙ cover-own h.pid (finished (covers h.pid)) covers))
              (λ id it. absurd (false≢true it))
          of (inr apart) =
              subst Less (sym (cover-other h.pid (finished (covers h.pid)) covers pid apart)) self-less
  called-less _ _ = self-less

  -- and no fewer, but where its control file is closed
  abbrev More : Cover → Type 0
  More d = CountLess d (covers pid)

  sent-more : (p : TracedProcess) (m : Message) (tail : List ℕ) → More (cover_sent who k p m tail (covers pid))
  unfolding cover_sent
  sent-more p (message.Write at size) tail = self-less
  sent-more p (message.Agent regs) tail =
      either More (who.probes k) (with_own_agent true (covers pid)) (covers pid) self-less self-less
  sent-more p _ tail = self-less

  pub called-more : (c : calls.Call) (r : Reply)
      → ((number : ℕ) (h : Held) → c ≡ call.Close number → handle_of s.opens k number ≡ Some h
      → (hides who k && is_ctl h.file) ≡ true → h.pid ≢ pid) → More (covers_called who covers s k c r pid)
  unfolding covers_called
  called-more (call.Ctl number bytes) (reply.Used used) keeps =
      by (called-is who none covers s.system k bytes pid (handle_of s.opens k number))
    where
      by : {d : Cover} → IsCalled who none covers s.system k (handle_of s.opens k number) bytes pid d → More d
      by (untouched is) = subst More (sym is) self-less
      by (sent h p m len held its target read is) = subst More (sym is) (sent-more p m (tail_of m bytes))
  called-more (call.Close number) reply.Done keeps = by (handle_of s.opens k number) refl
    where
      by : (o : Option Held) → handle_of s.opens k number ≡ o → More (covers_closed who k o covers pid)
      by None there = self-less
      by (Some h) there = of (hides who k && is_ctl h.file) refl
        where
          closed : Covers
          closed = with_cover h.pid (finished (covers h.pid)) covers

          of : (b : Bool) → (hides who k && is_ctl h.file) ≡ b → More (cond b closed covers pid)
          of false is = self-less
          of true is =
              subst More
              (sym (cover-other h.pid (finished (covers h.pid)) covers pid
              (λ same. keeps number h refl there is (sym same)))) self-less
  called-more _ _ keeps = self-less

-- ---- turns

module _ (who : Hiders) (covers : Covers) (s : TracedState) (acting id : ℕ) (did : Did) where
  -- An lwp of a process that counts so after a turn did so before, and if it was its own turn it was directed to stop;
  -- or it was its own turn, and incurred a fault of one who hides.
  pub data CountsNow (pid n : ℕ) : Type 0 where
    before : (covers pid).faulted n ≡ true
        → (pid ≡ acting → n ≡ id → is_directed (lwp_at s.system acting id) ≡ true) → CountsNow pid n
    now : pid ≡ acting → n ≡ id → is_directed (lwp_at s.system acting id) ≡ false
        → is_own who covers s acting id did ≡ true → CountsNow pid n

  module _ (free : (covers acting).agent ≡ false) where
    abbrev c : Cover
    c = covers acting

    abbrev Counts : ℕ → Cover → Type 0
    Counts n d = d.faulted n ≡ true → CountsNow acting n

    directed-counts : (n : ℕ) → is_directed (lwp_at s.system acting id) ≡ true → Counts n c
    directed-counts n is it = before it (λ same own. is)

    fault-counts : (n : ℕ) → is_directed (lwp_at s.system acting id) ≡ false
        → Counts n (with_fault id (is_own who covers s acting id did) c)
    fault-counts n goes it = of (cases_eq n id)
      where
        of : (n ≡ id) ⊎ (n ≢ id) → CountsNow acting n
        of (inl same) =
            now refl same goes
            (sym (ap (λ b. cond b (is_own who covers s acting id did) (c.faulted n)) (eq-eqb n id same)) ∙ it)
        of (inr apart) =
            before
            (sym (ap (λ b. cond b (is_own who covers s acting id did) (c.faulted n)) (ne_eqb n id apart)) ∙ it)
            (λ same own. absurd (apart own))

    abbrev turned : Cover
    turned =
        cond (is_directed (lwp_at s.system acting id)) c (with_fault id (is_own who covers s acting id did) c)

    turned-counts : (n : ℕ) → Counts n turned
    turned-counts n = elim (cases_Bool (is_directed (lwp_at s.system acting id))) [
      | inl is ↦ subst (Counts n)
          (sym (ap (λ b. cond b c (with_fault id (is_own who covers s acting id did) c)) is)) (directed-counts n is)
      | inr goes ↦ subst (Counts n)
          (sym (ap (λ b. cond b c (with_fault id (is_own who covers s acting id did) c)) goes)) (fault-counts n goes)
    ]

    kept : keeps_lwp c id ≡ true
    kept = rw free refl

    own-counts : (n : ℕ) → Counts n (cover_turned who covers s acting id did c)
    own-counts n =
        subst (λ (b : Bool). Counts n (cond (not b) (cond (exits did) (with_own_agent false c) c)
        (without_replaced did turned))) (sym kept)
        (either (Counts n) (replaces_memory did) (with_own_agent false (with_patches [] turned)) turned
        (turned-counts n) (turned-counts n))

    pub turned-count : (pid n : ℕ) → (covers_turned who covers s acting id did pid).faulted n ≡ true → CountsNow pid n
    unfolding covers_turned
    turned-count pid n = of (cases_eq pid acting)
      where
        new : Cover
        new = cover_turned who covers s acting id did c

        of : (pid ≡ acting) ⊎ (pid ≢ acting) → (with_cover acting new covers pid).faulted n ≡ true → CountsNow pid n
        of (inl same) it =
            subst (λ i. CountsNow i n) (sym same)
            (own-counts n
            (sym (ap (λ (d : Cover). d.faulted n)
            (ap (with_cover acting new covers) same ∙ cover-own acting new covers))
            ∙ it))
        of (inr apart) it =
            before (sym (ap (λ (d : Cover). d.faulted n) (cover-other acting new covers pid apart)) ∙ it)
            (λ same own. absurd (apart same))

    -- which count then
    turned-is : (n : ℕ) → (cover_turned who covers s acting id did c).faulted n ≡ turned.faulted n
    turned-is n =
        ap (λ (b : Bool). (cond (not b) (cond (exits did) (with_own_agent false c) c)
        (without_replaced did turned)).faulted n) kept
        ∙ either (λ (d : Cover). d.faulted n ≡ turned.faulted n) (replaces_memory did)
        (with_own_agent false (with_patches [] turned)) turned refl refl

    turned-other : (n : ℕ) → n ≢ id → turned.faulted n ≡ c.faulted n
    turned-other n apart =
        either (λ (d : Cover). d.faulted n ≡ c.faulted n) (is_directed (lwp_at s.system acting id)) c
        (with_fault id (is_own who covers s acting id did) c) refl
        (ap (λ b. cond b (is_own who covers s acting id did) (c.faulted n)) (ne_eqb n id apart))

    -- another one that counted so does so still
    pub turned-keeps : (pid n : ℕ) → (pid ≡ acting → n ≢ id) → (covers pid).faulted n ≡ true
        → (covers_turned who covers s acting id did pid).faulted n ≡ true
    unfolding covers_turned
    turned-keeps pid n apart is = of (cases_eq pid acting)
      where
        new : Cover
        new = cover_turned who covers s acting id did c

        of : (pid ≡ acting) ⊎ (pid ≢ acting) → (with_cover acting new covers pid).faulted n ≡ true
        of (inl same) =
            ap (λ (d : Cover). d.faulted n) (ap (with_cover acting new covers) same ∙ cover-own acting new covers)
            ∙ turned-is n ∙ turned-other n (apart same) ∙ ap (λ i. (covers i).faulted n) (sym same) ∙ is
        of (inr other) = ap (λ (d : Cover). d.faulted n) (cover-other acting new covers pid other) ∙ is

    -- the one that incurred a fault of one who hides counts so
    pub turned-now : is_directed (lwp_at s.system acting id) ≡ false → is_own who covers s acting id did ≡ true
        → (covers_turned who covers s acting id did acting).faulted id ≡ true
    unfolding covers_turned
    turned-now goes own =
        ap (λ (d : Cover). d.faulted id) (cover-own acting (cover_turned who covers s acting id did c) covers)
        ∙ turned-is id
        ∙ ap (λ b. (cond b c (with_fault id (is_own who covers s acting id did) c)).faulted id) goes
        ∙ ap (λ b. cond b (is_own who covers s acting id did) (c.faulted id)) (eq-eqb id id refl) ∙ own

  -- ---- which fault it is

  -- FLTTRACE where one who hides has the control file open, and FLTBPT where a patch begins
  pub own-trace : did ≡ Faulted Trace → has_hold who s.opens acting ≡ true → is_own who covers s acting id did ≡ true
  unfolding is_own
  own-trace is held =
      ap (is_own_fault (has_hold who s.opens acting) (is_at_patch (covers acting).patches (lwp_at s.system acting id)))
      is ∙ held

  pub own-break : did ≡ Faulted Bpt → has_hold who s.opens acting ≡ true → (p : TracedProcess) (l : TracedLwp)
      → live_process s.system acting ≡ Some p → lwp_of p id ≡ Some l → (g : Patch)
      → patch_at (pc_of l.regs) (covers acting).patches ≡ Some g → is_own who covers s acting id did ≡ true
  unfolding is_own
  own-break is held p l live there g at =
      let here : lwp_at s.system acting id ≡ Some l =
      ap (λ (o : Option TracedProcess). lwp_in o id) live ∙ there in
      ap (is_own_fault (has_hold who s.opens acting) (is_at_patch (covers acting).patches (lwp_at s.system acting id)))
      is
      ∙ ap (λ b. b && is_at_patch (covers acting).patches (lwp_at s.system acting id)) held
      ∙ ap (is_at_patch (covers acting).patches) here ∙ ap (λ (o : Option Patch). is_some o) at

  -- where a patch begins at the pc of an lwp
  pub record IsAtPatch (l : TracedLwp) : Type 0 where
    pub patch : Patch
    pub there : patch_at (pc_of l.regs) (covers acting).patches ≡ Some patch

  -- FLTTRACE, or FLTBPT where a patch begins
  pub data OwnFault : Type 0 where
    traces : did ≡ Faulted Trace → OwnFault
    breaks : did ≡ Faulted Bpt → is_at_patch (covers acting).patches (lwp_at s.system acting id) ≡ true → OwnFault

  pub own-fault : is_own who covers s acting id did ≡ true → OwnFault
  unfolding is_own
  own-fault is = by did refl is
    where
      held : Bool
      held = has_hold who s.opens acting

      at : Bool
      at = is_at_patch (covers acting).patches (lwp_at s.system acting id)

      by : (d : Did) → did ≡ d → is_own_fault held at d ≡ true → OwnFault
      by (Faulted Bpt) same it = breaks same (and_parts held at it).1
      by (Faulted Trace) same it = traces same
      by _ same it = absurd (false≢true it)

  -- in a process of which one who hides has the control file open
  pub own-held : is_own who covers s acting id did ≡ true → has_hold who s.opens acting ≡ true
  unfolding is_own
  own-held is = by did is
    where
      held : Bool
      held = has_hold who s.opens acting

      at : Bool
      at = is_at_patch (covers acting).patches (lwp_at s.system acting id)

      by : (d : Did) → is_own_fault held at d ≡ true → held ≡ true
      by (Faulted Bpt) it = (and_parts held at it).0
      by (Faulted Trace) it = it
      by _ it = absurd (false≢true it)

  pub patch-there : (p : TracedProcess) (l : TracedLwp) → live_process s.system acting ≡ Some p
      → lwp_of p id ≡ Some l → is_at_patch (covers acting).patches (lwp_at s.system acting id) ≡ true → IsAtPatch l
  patch-there p l live there is =
      by (patch_at (pc_of l.regs) (covers acting).patches) refl
      (sym (ap (is_at_patch (covers acting).patches) (ap (λ (o : Option TracedProcess). lwp_in o id) live ∙ there))
      ∙ is)
    where
      by : (o : Option Patch) → patch_at (pc_of l.regs) (covers acting).patches ≡ o → is_some o ≡ true → IsAtPatch l
      by None none it = absurd (false≢true it)
      by (Some patch) found it = record { patch = patch; there = found }

  pub directed-is : (p : TracedProcess) (l : TracedLwp) → live_process s.system acting ≡ Some p
      → lwp_of p id ≡ Some l → is_directed (lwp_at s.system acting id) ≡ l.control.directed
  directed-is p l live there =
      ap is_directed (ap (λ (o : Option TracedProcess). lwp_in o id) live ∙ there)
