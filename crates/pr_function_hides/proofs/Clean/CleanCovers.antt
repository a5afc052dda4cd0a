use Rattle.std.proofs.Common.{◌≡◌, ◌≢◌, ◌⊎◌, ◌&&◌, ◌==◌, ℕ, Bool, true, false, not, cond, Option, Some, None, List, [], refl, sym, subst, ap, ◌∙◌, inl, inr}
use Rattle.std.proofs.lemmas.Bool.{cases_eq}
use Rattle.pr_function_hides.proofs.Tidy.CalledCovers.{IsCalled, called-is, sent, untouched}
use Rattle.pr_hidden.proofs.NothingHidden.CoverLemmas.{cover-other, cover-own}
use Rattle.pr_hidden.specs.Covers.{Cover, Covers, Patch, keeps_lwp, with_cover}
use Rattle.pr_hidden.specs.Hiders.{Hiders, cover_sent, cover_turned, covers_called, covers_closed, covers_turned, exits, finished, has_hold, hides, is_at_patch, is_ctl, is_directed, is_own, is_own_fault, lwp_at, replaces_memory, without_replaced}
use Rattle.pr_hidden.specs.Hiding.{with_fault, with_own_agent, with_patches}
use Rattle.pr_model.specs.ControlMessages.{tail_of}
use Rattle.pr_model.specs.Handles.{handle_of}
use Rattle.pr_model.specs.State.{TracedLwp, TracedProcess, TracedState}
use Rattle.pr_model.specs.declared.calls.Call as calls
use Rattle.pr_model.specs.declared.calls.Call.TheVariants as call
use Rattle.pr_model.specs.declared.calls.Reply.{Reply}
use Rattle.pr_model.specs.declared.calls.Reply.TheVariants as reply
use Rattle.pr_model.specs.declared.events.Did.{Did}
use Rattle.pr_model.specs.declared.events.Did.TheVariants.{Faulted, Stopped}
use Rattle.pr_model.specs.declared.handles.Held.{Held}
use Rattle.pr_num.proofs.BoolLemmas.{either}
use Rattle.pr_num.specs.declared.faults.Flt.TheVariants.{Bpt, Trace}
use Rattle.pr_num.specs.declared.messages.Message.{Message}
use Rattle.pr_num.specs.declared.messages.Message.TheVariants as message

-- Which lwps count as standing at a fault of one who hides, after an entry: a call adds none, a close of "ctl" by one
-- who hides leaves none, and a turn adds none that is no fault of one who hides.

-- no lwp of a process does
abbrev pub IsClean : Cover → Type 0
IsClean c = (id : ℕ) → c.faulted id ≡ false

-- ---- calls

module _ (who : Hiders) (none : (k : ℕ) → who.probes k ≡ false) (covers : Covers) (s : TracedState) (k pid : ℕ) where
  sent-clean : (p : TracedProcess) (m : Message) (tail : List ℕ) (c : Cover) → IsClean c
      → IsClean (cover_sent who k p m tail c)
  unfolding cover_sent
  sent-clean p (message.Write at size) tail c clean = clean
  sent-clean p (message.Agent regs) tail c clean =
      either (λ (d : Cover). IsClean d) (who.probes k) (with_own_agent true c) c clean clean
  sent-clean p _ tail c clean = clean

  pub called-clean : (c : calls.Call) (r : Reply) → IsClean (covers pid)
      → IsClean (covers_called who covers s k c r pid)
  unfolding covers_called
  called-clean (call.Ctl number bytes) (reply.Used used) clean =
      by (called-is who none covers s.system k bytes pid (handle_of s.opens k number))
    where
      by : {d : Cover} → IsCalled who none covers s.system k (handle_of s.opens k number) bytes pid d → IsClean d
      by (untouched is) = subst (λ (d : Cover). IsClean d) (sym is) clean
      by (sent h p m len held its target read is) =
          subst (λ (d : Cover). IsClean d) (sym is) (sent-clean p m (tail_of m bytes) (covers pid) clean)
  called-clean (call.Close number) reply.Done clean = by (handle_of s.opens k number)
    where
      by : (o : Option Held) → IsClean (covers_closed who k o covers pid)
      by None = clean
      by (Some h) =
          either (λ (cs : Covers). IsClean (cs pid)) (hides who k && is_ctl h.file) closed covers
          (of (cases_eq pid h.pid)) clean
        where
          closed : Covers
          closed = with_cover h.pid (finished (covers h.pid)) covers

          of : (pid ≡ h.pid) ⊎ (pid ≢ h.pid) → IsClean (closed pid)
          of (inl same) =
              subst (λ (d : Cover). IsClean d)
              (sym (ap closed same ∙ cover-own h.pid (finished (covers h.pid)) covers)) (λ id. refl)
          of (inr apart) =
              subst (λ (d : Cover). IsClean d)
              (sym (cover-other h.pid (finished (covers h.pid)) covers pid apart)) clean
  called-clean _ _ clean = clean

  -- who hides, and closes "ctl"
  pub closed-clean : (number : ℕ) (h : Held) → handle_of s.opens k number ≡ Some h → h.pid ≡ pid
      → is_ctl h.file ≡ true → hides who k ≡ true
      → IsClean (covers_called who covers s k (call.Close number) reply.Done pid)
  unfolding covers_called
  closed-clean number h there its control it id =
      let both : (hides who k && is_ctl h.file) ≡ true = rw (it, control) refl in
      ap (λ (o : Option Held). (covers_closed who k o covers pid).faulted id) there
      ∙ ap (λ b. (cond b (with_cover h.pid (finished (covers h.pid)) covers) covers pid).faulted id) both
      ∙ ap (λ (n : ℕ). (with_cover h.pid (finished (covers h.pid)) covers n).faulted id) (sym its)
      ∙ ap (λ (c : Cover). c.faulted id) (cover-own h.pid (finished (covers h.pid)) covers)

-- ---- turns

module _ (who : Hiders) (covers : Covers) (s : TracedState) (acting id : ℕ) (did : Did) where
  -- an lwp that stops as it is directed to meets no fault
  pub stopped-not-own : did ≡ Stopped → is_own who covers s acting id did ≡ false
  unfolding is_own
  stopped-not-own is =
      ap (λ (d : Did). is_own_fault (has_hold who s.opens acting)
      (is_at_patch (covers acting).patches (lwp_at s.system acting id)) d) is

  -- where no breakpoint stands, only FLTTRACE is one of one who hides
  pub bare-not-own : (covers acting).patches ≡ [] → did ≢ Faulted Trace → is_own who covers s acting id did ≡ false
  unfolding is_own
  bare-not-own bare untraced =
      ap (λ (ps : List Patch). is_own_fault held (is_at_patch ps (lwp_at s.system acting id)) did) bare
      ∙ by did (nowhere (lwp_at s.system acting id)) untraced
    where
      held : Bool
      held = has_hold who s.opens acting

      nowhere : (o : Option TracedLwp) → is_at_patch [] o ≡ false
      nowhere None = refl
      nowhere (Some l) = refl

      at_none : Bool
      at_none = is_at_patch [] (lwp_at s.system acting id)

      no_and : (a b : Bool) → b ≡ false → (a && b) ≡ false
      no_and true b is = is
      no_and false b is = refl

      by : (d : Did) → at_none ≡ false → d ≢ Faulted Trace → is_own_fault held at_none d ≡ false
      by (Faulted Bpt) off other = no_and held at_none off
      by (Faulted Trace) off other = absurd (other refl)
      by _ off other = refl

  -- of the process of the lwp
  module _ (clean : IsClean (covers acting)) (not_own : is_own who covers s acting id did ≡ false) where
    abbrev c : Cover
    c = covers acting

    -- the lwp counts as standing at none
    at-none : IsClean (with_fault id (is_own who covers s acting id did) c)
    at-none other =
        either (λ (b : Bool). b ≡ false) (other == id) (is_own who covers s acting id did) (c.faulted other) not_own
        (clean other)

    abbrev d : Cover
    d = cond (is_directed (lwp_at s.system acting id)) c (with_fault id (is_own who covers s acting id did) c)

    directed : IsClean d
    directed = either (λ (x : Cover). IsClean x) (is_directed (lwp_at s.system acting id)) c _ clean at-none

    replaced : IsClean (without_replaced did d)
    replaced =
        either (λ (x : Cover). IsClean x) (replaces_memory did) (with_own_agent false (with_patches [] d)) d directed
        directed

    left : IsClean (cond (exits did) (with_own_agent false c) c)
    left = either (λ (x : Cover). IsClean x) (exits did) (with_own_agent false c) c clean clean

    turned-own : IsClean (cover_turned who covers s acting id did c)
    turned-own =
        either (λ (x : Cover). IsClean x) (not (keeps_lwp c id)) (cond (exits did) (with_own_agent false c) c)
        (without_replaced did d) left replaced

  pub turned-clean : (pid : ℕ) → (acting ≡ pid → is_own who covers s acting id did ≡ false) → IsClean (covers pid)
      → IsClean (covers_turned who covers s acting id did pid)
  unfolding covers_turned
  turned-clean pid not_own clean = of (cases_eq pid acting)
    where
      new : Cover
      new = cover_turned who covers s acting id did (covers acting)

      of : (pid ≡ acting) ⊎ (pid ≢ acting) → IsClean (with_cover acting new covers pid)
      of (inl same) =
          subst (λ (x : Cover). IsClean x) (sym (ap (with_cover acting new covers) same ∙ cover-own acting new covers))
          (turned-own (subst (λ n. IsClean (covers n)) same clean) (not_own (sym same)))
      of (inr apart) = subst (λ (x : Cover). IsClean x) (sym (cover-other acting new covers pid apart)) clean
