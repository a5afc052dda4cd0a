use Rattle.pr_model.specs.declared.events.Entry.{Entry}
use Rattle.pr_truss_laws.specs.Handles.{HasNoOtherWriter}
use Rattle.std.proofs.Common.{◌≡◌, ◌≢◌, ◌<◌, ℕ, Option, Some, None, refl, sym, subst, ◌∙◌}
use Rattle.std.proofs.lemmas.Option.{none-some, same_Some}
use Rattle.pr_lawful.proofs.ProcessParts.HandleLemmas.{handle-at}
use Rattle.pr_model.specs.Lawful.{IsLawful, IsOfMade}
use Rattle.pr_model.specs.Legal.{IsLegalEntry, after}
use Rattle.pr_model.specs.State.{TracedProcess, TracedState, TracedSystem, live_process}
use Rattle.pr_model.specs.declared.events.Act.{Act}
use Rattle.pr_model.specs.declared.events.Act.TheVariants as act
use Rattle.pr_model.specs.declared.events.Actor.{Actor}
use Rattle.pr_model.specs.declared.events.Actor.TheVariants.{Controller, Lwp, Clock}
use Rattle.pr_model.specs.declared.handles.Held.{Held}
use Rattle.pr_num.proofs.SearchLemmas.{All-at}
use Rattle.pr_truss_laws.proofs.Machine.FrameLemmas.{memory-next}
use Rattle.pr_truss_laws.proofs.Machine.HaltLemmas as halt
use Rattle.pr_truss_laws.proofs.Machine.HaltLemmas.{HaltsOn}
use Rattle.pr_truss_laws.proofs.Machine.OverLemmas.{stays-over}
use Rattle.pr_truss_laws.specs.Stills.{IsHalting, KeepsMemory}
use Rattle.pr_tool_laws.proofs.OwnFiles.StandingLemmas.{IsOther, Stands}

-- A process that was directed to stop, and has lent its memory to nobody, keeps it, whatever others do, while at most
-- one controller has it open for writing and leaves it as it is.

-- Where such a process lives, no lwp of it does anything but stop, and it has kept its memory since it was this one.
pub record HaltsWith (pid : ℕ) (was : TracedProcess) (s : TracedSystem) : Type 0 where
  pub each : (p : TracedProcess) → live_process s pid ≡ Some p → IsHalting p × KeepsMemory was p

-- what is no call of a controller is an entry of another
other-actor : (n : ℕ) (s : TracedState) (k : ℕ) (actor : Actor) (it : Act)
    → IsLegalEntry n s (record { actor = actor; act = it }) → IsOther k actor it → actor ≢ Controller k
unfolding IsLegalEntry
other-actor n s k (Controller j) (act.Call c r) legal other same = other (cc)
other-actor n s k (Lwp pid id) (act.Turn turned) legal other same = cc
other-actor n s k Clock (act.Tick m) legal other same = cc
other-actor n s k _ _ legal other same = absurd legal

-- a process was made that is open
pub pid-made : (s : TracedState) (number : ℕ) (h : Held) → IsLawful s → Stands s.opens number h → h.pid < s.system.made
pid-made s number h lawful stands =
    All-at (IsOfMade s.system.made) s.opens number (Some h) (handle-at s.opens h.controller number h stands)
    lawful.handles

module _ (n : ℕ) (s : TracedState) (k pid : ℕ) (lawful : IsLawful s) (sole : HasNoOtherWriter k pid s.opens)
    (made : pid < s.system.made) (actor : Actor) (it : Act) where
  abbrev entry : Entry
  entry = record { actor = actor; act = it }

  abbrev later : TracedSystem
  later = (after s entry).system

  -- What others do keeps its memory.
  pub others-halt : (was : TracedProcess) → IsLegalEntry n s entry → IsOther k actor it → HaltsWith pid was s.system
      → HaltsWith pid was later
  others-halt was legal other halts = record { each = λ q live. from q live (live_process s.system pid) refl }
    where
      on : (p q : TracedProcess) → live_process later pid ≡ Some q → KeepsMemory was p → HaltsOn pid p later
          → IsHalting q × KeepsMemory was q
      on p q live kept (halt.goes_on r there halting keeps) =
          subst (λ (x : TracedProcess). IsHalting x × KeepsMemory was x) (same_Some r q (sym there ∙ live))
          (halting, memory-next was p r kept keeps)
      on p q live kept (halt.killed z none there status) = absurd (none-some q (sym none ∙ live))

      -- it lived, since none comes to life again
      from : (q : TracedProcess) → live_process later pid ≡ Some q → (o : Option TracedProcess)
          → live_process s.system pid ≡ o → IsHalting q × KeepsMemory was q
      from q live None none = absurd (none-some q (sym (stays-over n s entry pid lawful legal made none) ∙ live))
      from q live (Some p) before =
          let halting = halts.each p before in
          let others = other-actor n s k actor it legal other in
          on p q live halting.1 (halt.others-halt n s k pid lawful sole p before halting.0 entry legal others)
