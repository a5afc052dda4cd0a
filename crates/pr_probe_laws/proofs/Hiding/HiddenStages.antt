use Rattle.std.proofs.Common.{◌≡◌, ◌≢◌, ◌==◌, ◌⊎◌, ◌&&◌, ◌∷◌, ◌<◌, ℕ, Bool, true, false, not, List, [], Some, None, Result, length, refl, sym, subst, ap, ◌∙◌, inl, inr}
use Rattle.std.proofs.lemmas.Bool.{eq-eqb, eqb-true, false≢true}
use Rattle.pr_hidden.specs.Covers.{Cover, Patch, keeps_lwp}
use Rattle.pr_model.specs.State.{TracedLwp, TracedProcess, TracedState, TracedSystem, live_process, lwp_of}
use Rattle.pr_model.specs.Stops.{has_event_stop}
use Rattle.pr_model.specs.declared.events.Entry.{Entry}
use Rattle.pr_num.specs.Agents.{agent_id}
use Rattle.pr_num.specs.Layout.{stack_base, text_base}
use Rattle.pr_num.specs.Limits.{descriptor_limit}
use Rattle.pr_num.specs.declared.mappings.BadByte.{BadByte}
use Rattle.pr_probe.specs.AgentCode.{code_size, stack_size}
use Rattle.pr_probe.specs.Probes.{ProbeState}
use Rattle.pr_probe.specs.declared.probe_stages.AskingStep.TheVariants.{SetRegisters, Run as RunAgent, Await, ReadAgent, ReadKind}
use Rattle.pr_probe.specs.declared.probe_stages.ProbeFile.TheVariants.{AgentControl, AgentStatus}
use Rattle.pr_probe.specs.declared.probe_stages.ProbeStage.{ProbeStage}
use Rattle.pr_probe.specs.declared.probe_stages.ProbeStage.TheVariants as stage
use Rattle.pr_truss_laws.specs.Stills.{will_stop}
use Rattle.pr_probe_laws.proofs.Agents.AgentTurns.{IsAgent, IsFetchable, IsPlanted, IsReady, IsReadyFor}
use Rattle.pr_probe_laws.proofs.Agents.LeavingRows.{GoesOut, IsGone, Leaving}
use Rattle.pr_probe_laws.specs.HiddenProbes.{StandsSaved}
use Rattle.pr_probe_laws.proofs.Room.RoomStages.{Where}
use Rattle.pr_probe_laws.proofs.OneState.TextStages.{Asks, IsAsked, IsAsking, IsBack, IsFree, IsMade, Making, Reads, Rests, Runs, Stands, WithAgent}

-- What is hidden of the process of an apfiles, by its stage.

-- ---- what it wrote over

-- what is saved, as patches
abbrev pub saved_patches : ProbeState → List Patch
saved_patches p =
    record { at = text_base; bytes = p.code } ∷ record { at = stack_base; bytes = p.stack } ∷ []

-- both places are written over; of the stack alone; each with whether the agent is there
pub record HidesBoth (agent : Bool) (c : Cover) (p : ProbeState) : Type 0 where
  pub patches : c.patches ≡ saved_patches p
  pub agent_is : c.agent ≡ agent
  pub code : length p.code ≡ code_size
  pub stack : length p.stack ≡ stack_size

pub record HidesStack (c : Cover) (p : ProbeState) : Type 0 where
  pub patches : c.patches ≡ record { at = stack_base; bytes = p.stack } ∷ []
  pub agent_is : c.agent ≡ false
  pub stack : length p.stack ≡ stack_size

-- ---- the agent on its way out

-- it stands, and nothing of it is traced any more
pub record StandsOut (P : TracedLwp → Type 0) (q : TracedProcess) : Type 0 where
  pub ready : IsReadyFor 0 IsPlanted q
  pub agent : TracedLwp
  pub there : lwp_of q agent_id ≡ Some agent
  pub is : IsAgent agent
  pub stands : has_event_stop agent ≡ true
  pub so : P agent

module _ (pid : ℕ) where
  -- the agent was made, and nothing is written over yet
  pub record HidesAgent (c : Cover) (s : TracedSystem) (p : ProbeState) : Type 0 where
    pub none : c.patches ≡ []
    pub agent_is : c.agent ≡ true
    pub stands : Where pid (λ q. StandsSaved p q.space) s

  -- the agent goes out, or it is gone
  abbrev pub HidesOut : Cover → TracedSystem → ProbeState → Type 0
  HidesOut c s p = (HidesBoth true c p × Where pid GoesOut s) ⊎ (HidesBoth false c p × Where pid IsGone s)

  -- what is hidden at a stage; at others nothing is
  unfoldable pub Hides : Cover → TracedSystem → ProbeState → ProbeStage → Type 0
  Hides c s p (stage.Open AgentControl) = HidesAgent c s p
  Hides c s p (stage.Open AgentStatus) = HidesAgent c s p
  Hides c s p stage.PlantCode = HidesAgent c s p
  Hides c s p (stage.Asking d step) = HidesBoth true c p
  Hides c s p stage.UntraceExits = HidesBoth true c p
  Hides c s p stage.SetExit = HidesBoth true c p × Where pid (StandsOut Rests) s
  Hides c s p stage.RunExit = HidesBoth true c p × Where pid (StandsOut Leaving) s
  Hides c s p stage.AwaitExit = HidesOut c s p
  Hides c s p stage.WriteCode = HidesBoth false c p × Where pid IsGone s
  Hides c s p stage.WriteStack = HidesStack c p × Where pid IsGone s
  Hides c s p _ = ⊥

-- ---- what its process is like then

-- An agent of an apfiles that asks: it stands, or it runs for a descriptor.
pub data AsksNow (q : TracedProcess) : Type 0 where
  stands : (l : TracedLwp) → lwp_of q agent_id ≡ Some l → has_event_stop l ≡ true → AsksNow q
  runs : (d : ℕ) → WithAgent IsPlanted (Runs d) q → AsksNow q

-- Nobody but the agent does anything but stop, and the process has its memory to itself.
pub record IsHeld (c : Cover) (q : TracedProcess) : Type 0 where
  pub others : (id : ℕ) (l : TracedLwp) → keeps_lwp c id ≡ true → lwp_of q id ≡ Some l → will_stop l ≡ true
  pub own : q.borrower ≡ None

pub kept-apart : (c : Cover) → c.agent ≡ true → (id : ℕ) → keeps_lwp c id ≡ true → id ≢ agent_id
kept-apart c is id kept same =
    false≢true (sym (ap (λ (b : Bool). not (b && (id == agent_id))) is
    ∙ ap (λ (b : Bool). not b) (eq-eqb id agent_id same)) ∙ kept)

-- only an agent is left out
pub hidden-is : (c : Cover) (id : ℕ) → keeps_lwp c id ≡ false → (c.agent ≡ true) × (id ≡ agent_id)
hidden-is c id hides = by c.agent (id == agent_id) refl refl hides
  where
    by : (a b : Bool) → c.agent ≡ a → (id == agent_id) ≡ b → not (c.agent && (id == agent_id)) ≡ false
        → (c.agent ≡ true) × (id ≡ agent_id)
    by true true agent same it = (agent, eqb-true id agent_id same)
    by true false agent same it = absurd (false≢true (sym (rw (agent, same) at it)))
    by false b agent same it = absurd (false≢true (sym (rw agent at it)))

pub ready-held : {exit_set : ℕ} (C : Result (List ℕ) BadByte → Type 0) (c : Cover) (q : TracedProcess)
    → c.agent ≡ true → IsReadyFor exit_set C q → IsHeld c q
ready-held C c q is ready = record {
  others = λ id l kept there. ready.others id l (kept-apart c is id kept) there;
  own = ready.own;
}

pub gone-held : (c : Cover) (q : TracedProcess) → IsGone q → IsHeld c q
gone-held c q gone = record { others = λ id l kept there. gone.halts.each id l there; own = gone.own }

-- ---- what is known of an agent that asks

module _ (k pid : ℕ) (first : TracedState) (h : List Entry) (s : TracedState) (p : ProbeState) where
  pub record Made (q : TracedProcess) : Type 0 where
    pub ready : IsReady IsFetchable q
    pub agent : TracedLwp
    pub there : lwp_of q agent_id ≡ Some agent
    pub stands : has_event_stop agent ≡ true

  made-of : (q : TracedProcess) → WithAgent IsFetchable Stands q → Made q
  made-of q w = record { ready = w.ready; agent = w.agent; there = w.there; stands = w.so.stands }

  pub record Asked (q : TracedProcess) : Type 0 where
    pub ready : IsReady IsPlanted q
    pub now : AsksNow q

  asked-of : (P : TracedLwp → Type 0) → ((l : TracedLwp) → P l → has_event_stop l ≡ true) → (q : TracedProcess)
      → WithAgent IsPlanted P q → Asked q
  asked-of P stops q w = record { ready = w.ready; now = stands w.agent w.there (stops w.agent w.so) }

  out-of : (d : ℕ) (q : TracedProcess)
      → WithAgent IsPlanted (Runs d) q ⊎ IsBack k pid first d s.system q → Asked q
  out-of d q (inl w) = record { ready = w.ready; now = runs d w }
  out-of d q (inr b) = asked-of _ (λ l it. it.stands) q b

  -- on the conditions on which it asks
  module _ (ask : (m : Making k pid first h) → IsAsking k pid first h m) where
    abbrev Live : TracedProcess → Type 0
    Live q = live_process s.system pid ≡ Some q

    -- before its code is planted
    made-so : (many : ℕ) (q : TracedProcess) → Live q → Asks k pid first h s p many (IsMade k pid first p.lines)
        → Made q
    made-so many q live so = made-of q (so.so (ask so.making) q live).1

    abbrev pub IsMadeStage : ProbeStage → Type 0
    IsMadeStage (stage.Open AgentControl) = Unit {0}
    IsMadeStage (stage.Open AgentStatus) = Unit {0}
    IsMadeStage stage.PlantCode = Unit {0}
    IsMadeStage _ = ⊥

    pub made-at : (g : ProbeStage) → IsMadeStage g → Reads k pid first h s p g → (q : TracedProcess) → Live q → Made q
    unfolding Reads
    made-at (stage.Open AgentControl) it so q live = made-so 4 q live so
    made-at (stage.Open AgentStatus) it so q live = made-so 5 q live so
    made-at stage.PlantCode it so q live = made-so 6 q live so
    made-at _ it so q live = absurd it

    -- while it asks
    abbrev pub IsAskingStage : ProbeStage → Type 0
    IsAskingStage (stage.Asking d step) = Unit {0}
    IsAskingStage stage.UntraceExits = Unit {0}
    IsAskingStage _ = ⊥

    pub asked-at : (g : ProbeStage) → IsAskingStage g → Reads k pid first h s p g → (q : TracedProcess) → Live q
        → Asked q
    unfolding Reads
    asked-at (stage.Asking d SetRegisters) it so q live =
        asked-of Stands (λ l at. at.stands) q (so.so (ask so.making) q live).0
    asked-at (stage.Asking d RunAgent) it so q live =
        asked-of (IsAsked d) (λ l at. at.stands) q (so.so (ask so.making) q live).0
    asked-at (stage.Asking d Await) it so q live = out-of d q (so.so (ask so.making) q live).0
    asked-at (stage.Asking d ReadAgent) it so q live = out-of d q (inr (so.so (ask so.making) q live).0)
    asked-at (stage.Asking d ReadKind) it so q live = out-of d q (inr (so.so (ask so.making) q live).back)
    asked-at stage.UntraceExits it so q live =
        asked-of Stands (λ l at. at.stands) q (so.so (ask so.making) q live).0
    asked-at _ it so q live = absurd it

    -- the descriptor that is asked for
    pub small-at : (g : ProbeStage) → Reads k pid first h s p g → (q : TracedProcess) → Live q → (d : ℕ)
        → g ≡ stage.Asking d SetRegisters → d < descriptor_limit
    unfolding Reads
    small-at g reads q live d is = of (subst (λ (x : ProbeStage). Reads k pid first h s p x) is reads)
      where
        of : Asks k pid first h s p 6 (IsFree k pid first p.lines d) → d < descriptor_limit
        of so = (so.so (ask so.making) q live).1.0

    -- ---- at each stage

    out-held : (c : Cover) (q : TracedProcess) → Live q → HidesOut pid c s.system p → IsHeld c q
    out-held c q live (inl goes) = ready-held IsPlanted c q goes.0.agent_is (goes.1 q live).ready
    out-held c q live (inr gone) = gone-held c q (gone.1 q live)

    pub held-at : (c : Cover) (g : ProbeStage) → Hides pid c s.system p g → Reads k pid first h s p g
        → (q : TracedProcess) → Live q → IsHeld c q
    unfolding Hides
    held-at c (stage.Open AgentControl) it so q live =
        ready-held IsFetchable c q it.agent_is (made-at (stage.Open AgentControl) tt so q live).ready
    held-at c (stage.Open AgentStatus) it so q live =
        ready-held IsFetchable c q it.agent_is (made-at (stage.Open AgentStatus) tt so q live).ready
    held-at c stage.PlantCode it so q live =
        ready-held IsFetchable c q it.agent_is (made-at stage.PlantCode tt so q live).ready
    held-at c (stage.Asking d step) it so q live =
        ready-held IsPlanted c q it.agent_is (asked-at (stage.Asking d step) tt so q live).ready
    held-at c stage.UntraceExits it so q live =
        ready-held IsPlanted c q it.agent_is (asked-at stage.UntraceExits tt so q live).ready
    held-at c stage.SetExit it so q live = ready-held IsPlanted c q it.0.agent_is (it.1 q live).ready
    held-at c stage.RunExit it so q live = ready-held IsPlanted c q it.0.agent_is (it.1 q live).ready
    held-at c stage.AwaitExit it so q live = out-held c q live it
    held-at c stage.WriteCode it so q live = gone-held c q (it.1 q live)
    held-at c stage.WriteStack it so q live = gone-held c q (it.1 q live)
    held-at c _ it so q live = absurd it
