use Rattle.std.proofs.Common.{◌≡◌, ◌≢◌, ◌⊎◌, ◌++◌, ℕ, true, false, List, [], Some, None, slice_get, refl, sym, ap, ◌∙◌, inl, inr}
use Rattle.std.proofs.lemmas.Bool.{cases_eq}
use Rattle.std.proofs.lemmas.List.{append_assoc}
use Rattle.std.proofs.lemmas.Option.{none-some}
use Rattle.pr_hidden.specs.Covers.{Covers}
use Rattle.pr_hidden.specs.Following.{MayEnd}
use Rattle.pr_hidden.specs.Hiders.{Hiders, covers_at}
use Rattle.pr_hidden.specs.Tidiness.{IsPassiveBut}
use Rattle.pr_lawful.proofs.LawfulTurns.EndLemmas.{found-live}
use Rattle.pr_lawful.proofs.ProcessParts.HandleLemmas.{control-writes, handle-at}
use Rattle.pr_lending.proofs.ProcessLoans.LoanLemmas.{borrower-found, lender-found}
use Rattle.pr_model.specs.Handles.{handle_of, is_control, is_writable}
use Rattle.pr_model.specs.Lawful.{IsFitting, IsLawful}
use Rattle.pr_model.specs.Legal.{state_after}
use Rattle.pr_model.specs.State.{TracedProcess, TracedState, live_process}
use Rattle.pr_model.specs.declared.events.Entry.{Entry}
use Rattle.pr_model.specs.declared.handles.Held.{Held}
use Rattle.pr_num.proofs.SearchLemmas.{All-at}
use Rattle.pr_probe.specs.ProbeStages.{mode_of}
use Rattle.pr_probe.specs.Probes.{ProbeState, first_probe}
use Rattle.pr_probe.specs.declared.probe_stages.ProbeFile.TheVariants.{Control}
use Rattle.pr_reached.specs.Reached.{IsReached}
use Rattle.pr_truss_laws.specs.Handles.{HasNoOtherWriter}
use Rattle.pr_world.specs.ControllerStates.{ControllerState, Probe}
use Rattle.pr_world.specs.Protocol.{controllers_at}
use Rattle.pr_probe_laws.proofs.Hiding.HiddenCovers.{HaveNoFaults}
use Rattle.pr_probe_laws.proofs.Hiding.HiddenFacts.{Facts, asks-at, facts, reached-at}
use Rattle.pr_probe_laws.proofs.Hiding.HiddenStages.{Hides, IsHeld, held-at}
use Rattle.pr_probe_laws.proofs.Files.FilePlaces.{held_of}
use Rattle.pr_probe_laws.proofs.Sets.SetStages.{fair-now}
use Rattle.pr_probe_laws.proofs.OneState.TextStages.{IsAsking, Making}
use Rattle.pr_probe_laws.specs.StepMarks.{IsUnstepped}
use Rattle.pr_probe_laws.specs.HiddenProbes.{IsLeftAlone, IsHidingAfter, IsAlive, IsRunOfProbes, is_hiding}
use Rattle.pr_probe_laws.proofs.Hiding.HiddenWork.{hides-hiding, IsAtWork, works}

-- One that hides something of a process: that is one alone, its process lives, and stands as it has to; and nothing is
-- hidden of who lends memory.

-- a run of apfiles that are left alone, from a state that is reached and in which no lwp has a step mark; so all else
-- in it is passive
pub record IsUnseenRun (n : ℕ) (who : Hiders) (controllers : List ControllerState) (first : TracedState)
    (h : List Entry) : Type 0 where
  pub reached : IsReached first
  pub first_unstepped : IsUnstepped first.system
  pub of : IsRunOfProbes n who controllers first h
  pub passive : IsPassiveBut who h

-- a control file is open for writing
held-writes : (s : TracedState) (j number : ℕ) (held : Held) → IsLawful s → handle_of s.opens j number ≡ Some held
    → is_control held.file ≡ true → is_writable held.mode ≡ true
held-writes s j number held lawful there control =
    control-writes held
    (All-at IsFitting s.opens number (Some held) (handle-at s.opens j number held there) lawful.fitting) control

module _ {n : ℕ} {who : Hiders} {controllers : List ControllerState} {first : TracedState} {h : List Entry}
    (run : IsUnseenRun n who controllers first h) where
  abbrev at : List Entry → Covers
  at front = covers_at who first front

  -- an apfiles of a process, as it is after a front
  pub record IsOne (pid : ℕ) (front : List Entry) (k : ℕ) (p : ProbeState) : Type 0 where
    pub hider : who.probes k ≡ true
    pub starts : slice_get controllers k ≡ Some (Probe (first_probe pid))
    pub is : slice_get (controllers_at controllers front) k ≡ Some (Probe p)
    pub accepted : p.refusal ≡ None

  -- nothing is hidden of a process, and none of its apfiles is at a stage at which something is
  pub record IsBare (pid : ℕ) (front : List Entry) : Type 0 where
    pub patches : (at front pid).patches ≡ []
    pub agent : (at front pid).agent ≡ false
    pub nobody : (k : ℕ) (p : ProbeState) → IsOne pid front k p → is_hiding p.stage ≡ false

  -- one of its apfiles hides something of it
  pub record IsHiddenBy (pid : ℕ) (front : List Entry) : Type 0 where
    pub k : ℕ
    pub p : ProbeState
    pub one : IsOne pid front k p
    pub hides : Hides pid (at front pid) (state_after first front).system p p.stage

  -- what is so after a front
  pub record Kept (front : List Entry) : Type 0 where
    pub covering : (pid : ℕ) → IsBare pid front ⊎ IsHiddenBy pid front
    pub faults : HaveNoFaults (at front)
    pub unstepped : IsUnstepped (state_after first front).system

  -- ---- one that hides something

  module _ (front back : List Entry) (place : h ≡ front ++ back) where
    abbrev s : TracedState
    s = state_after first front

    pub here : IsReached s
    here = reached-at n who controllers first h run.reached run.of front back place

    module _ (pid : ℕ) (b : IsHiddenBy pid front) where
      pub hiding : is_hiding b.p.stage ≡ true
      hiding = hides-hiding pid (at front pid) s.system b.p b.p.stage b.hides

      pub way : IsHidingAfter b.k pid controllers first front b.p
      way = record { is = b.one.is; hides = hiding }

      pub its : IsLeftAlone b.k pid controllers first h
      its = run.of.left_alone.alone b.k pid b.one.hider b.one.starts

      pub fact : Facts n who controllers first h run.reached run.of b.k pid b.one.starts front b.p
      fact =
          facts n who controllers first h run.reached run.of b.k pid b.one.starts front back place b.p b.one.is

      pub lives : IsAlive pid s
      lives = its.lives front back b.p place way

      pub ask : (m : Making b.k pid first front) → IsAsking b.k pid first front m
      ask =
          asks-at n who controllers first h run.reached run.of b.k pid b.one.starts its front back place b.p way

      work : IsAtWork b.k pid first front s b.p
      work = works b.k pid first front s b.p b.p.stage hiding (fact.knows b.one.accepted)

      pub sole : HasNoOtherWriter b.k pid s.opens
      sole =
          fair-now b.k pid first front work.began
          (record {
            sole =
                its.sole front back b.p place way work.began.before work.began.later work.began.opened work.began.place;
            ranged = λ f r split.
                (reached-at n who controllers first h run.reached run.of f (r ++ back)
                (place ∙ ap (λ (es : List Entry). es ++ back) split ∙ append_assoc f r back)).in_range;
          })

      pub held : IsHeld (at front pid) lives.process
      held =
          held-at b.k pid first front s b.p ask (at front pid) b.p.stage b.hides (fact.reads b.one.accepted)
          lives.process lives.lives

      -- no other apfiles of the process hides something
      pub alone-hides : (k : ℕ) (p : ProbeState) → IsOne pid front k p → is_hiding p.stage ≡ true → k ≡ b.k
      unfolding mode_of
      alone-hides k p one hides = by (cases_eq k b.k)
        where
          its_work : IsAtWork k pid first front s p
          its_work =
              let so =
              facts n who controllers first h run.reached run.of k pid one.starts front back place p one.is in
              works k pid first front s p p.stage hides (so.knows one.accepted)

          by : (k ≡ b.k) ⊎ (k ≢ b.k) → k ≡ b.k
          by (inl same) = same
          by (inr apart) = absurd (sole.none k its_work.number (held_of k pid Control) apart its_work.there refl refl)

      -- who else has a control file open has that of another process
      pub others-apart : (j number : ℕ) (held : Held) → j ≢ b.k → handle_of s.opens j number ≡ Some held
          → is_control held.file ≡ true → held.pid ≢ pid
      others-apart j number held apart there control =
          sole.none j number held apart there (held-writes s j number held here.lawful there control)

    -- ---- lenders

    module _ (kept : Kept front) where
      -- of a process that has lent its memory nothing is written over
      lender-bare : (lender pid : ℕ) (p : TracedProcess) → live_process s.system pid ≡ Some p → p.lender ≡ Some lender
          → (at front lender).patches ≡ []
      lender-bare lender pid p live lends = by (kept.covering lender)
        where
          by : IsBare lender front ⊎ IsHiddenBy lender front → (at front lender).patches ≡ []
          by (inl bare) = bare.patches
          by (inr b) =
              let l = lives lender b in
              let found = found-live s.system pid p live in
              let borrowed = here.lending.borrowed lender pid (lender-found s.system pid p found.0 ∙ lends) in
              let lent = borrower-found s.system lender l.process (found-live s.system lender l.process l.lives).0 in
              absurd (none-some pid (sym (held lender b).own ∙ sym lent ∙ borrowed))

      pub bare-ends : (pid : ℕ) → IsBare pid front → MayEnd (at front) s.system pid
      bare-ends pid bare = record {
        returnable = λ p live. record {
          alike = λ lender lends. lender-bare lender pid p live lends ∙ sym bare.patches;
        };
      }

      -- a process of which nothing is hidden may end, and no other one ends
      pub may-end : (pid : ℕ) → (IsHiddenBy pid front → ⊥) → MayEnd (at front) s.system pid
      may-end pid never = by (kept.covering pid)
        where
          by : IsBare pid front ⊎ IsHiddenBy pid front → MayEnd (at front) s.system pid
          by (inl bare) = bare-ends pid bare
          by (inr b) = absurd (never b)
