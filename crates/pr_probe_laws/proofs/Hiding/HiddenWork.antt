use Rattle.std.proofs.Common.{◌≡◌, ◌⊎◌, ◌<◌, ℕ, true, false, List, Option, Some, None, refl, sym, ◌∙◌, inl, inr, arith}
use Rattle.std.proofs.lemmas.Bool.{false≢true}
use Rattle.pr_hidden.specs.Covers.{Cover}
use Rattle.pr_hidden.specs.Hiders.{is_ctl}
use Rattle.pr_model.specs.Handles.{handle_of, is_control}
use Rattle.pr_model.specs.State.{TracedState, TracedSystem}
use Rattle.pr_model.specs.declared.calls.File.{File}
use Rattle.pr_model.specs.declared.calls.File.TheVariants.{Ctl}
use Rattle.pr_model.specs.declared.events.Entry.{Entry}
use Rattle.pr_num.specs.declared.errnos.Errno.{Errno}
use Rattle.pr_probe.specs.ProbeStages.{place_of}
use Rattle.pr_probe.specs.Probes.{ProbeState}
use Rattle.pr_probe.specs.declared.probe_stages.ProbeFile.TheVariants.{Control, AgentControl, AgentStatus}
use Rattle.pr_probe.specs.declared.probe_stages.ProbeStage.{ProbeStage}
use Rattle.pr_probe.specs.declared.probe_stages.ProbeStage.TheVariants as stage
use Rattle.pr_probe_laws.proofs.Hiding.HiddenPlain.{IsInOrder, is_over, is_special}
use Rattle.pr_probe_laws.proofs.Hiding.HiddenStages.{Hides}
use Rattle.pr_probe_laws.proofs.Files.FilePlaces.{held_of}
use Rattle.pr_probe_laws.proofs.Sets.SetStages.{Began, Knows, Works}
use Rattle.pr_probe_laws.specs.HiddenProbes.{is_hiding}

-- What is known of an apfiles at a stage at which it hides something: it has begun, and was refused nothing.

pub hides-hiding : (pid : ℕ) (c : Cover) (s : TracedSystem) (p : ProbeState) (g : ProbeStage) → Hides pid c s p g
    → is_hiding g ≡ true
unfolding Hides is_hiding
hides-hiding pid c s p (stage.Open AgentControl) it = refl
hides-hiding pid c s p (stage.Open AgentStatus) it = refl
hides-hiding pid c s p stage.PlantCode it = refl
hides-hiding pid c s p (stage.Asking d step) it = refl
hides-hiding pid c s p stage.UntraceExits it = refl
hides-hiding pid c s p stage.SetExit it = refl
hides-hiding pid c s p stage.RunExit it = refl
hides-hiding pid c s p stage.AwaitExit it = refl
hides-hiding pid c s p stage.WriteCode it = refl
hides-hiding pid c s p stage.WriteStack it = refl
hides-hiding pid c s p _ it = absurd it

-- what is known of one that has begun: its process, and its control file
pub record IsAtWork (k pid : ℕ) (first : TracedState) (h : List Entry) (s : TracedState) (p : ProbeState) : Type 0 where
  pub began : Began k pid first h
  pub its : p.pid ≡ pid
  pub number : ℕ
  pub there : handle_of s.opens k number ≡ Some (held_of k pid Control)

at-work : (k pid : ℕ) (first : TracedState) (h : List Entry) (s : TracedState) (p : ProbeState) (many : ℕ) → 0 < many
    → Works k pid first h s p many → IsAtWork k pid first h s p
unfolding place_of
at-work k pid first h s p many some it =
    let file = it.holds.each Control some in
    record { began = it.began; its = it.its; number = file.number; there = file.stands }

pub works : (k pid : ℕ) (first : TracedState) (h : List Entry) (s : TracedState) (p : ProbeState) (g : ProbeStage)
    → is_hiding g ≡ true → Knows k pid first h s p g → IsAtWork k pid first h s p
unfolding is_hiding Knows
works k pid first h s p (stage.Open AgentControl) it knows = at-work k pid first h s p 4 (omega arith) knows
works k pid first h s p (stage.Open AgentStatus) it knows = at-work k pid first h s p 5 (omega arith) knows
works k pid first h s p stage.PlantCode it knows = at-work k pid first h s p 6 (omega arith) knows
works k pid first h s p (stage.Asking d step) it knows = at-work k pid first h s p 6 (omega arith) knows
works k pid first h s p stage.UntraceExits it knows = at-work k pid first h s p 6 (omega arith) knows
works k pid first h s p stage.SetExit it knows = at-work k pid first h s p 6 (omega arith) knows
works k pid first h s p stage.RunExit it knows = at-work k pid first h s p 6 (omega arith) knows
works k pid first h s p stage.AwaitExit it knows = at-work k pid first h s p 6 (omega arith) knows
works k pid first h s p stage.WriteCode it knows = at-work k pid first h s p 6 (omega arith) knows
works k pid first h s p stage.WriteStack it knows = at-work k pid first h s p 6 (omega arith) knows
works k pid first h s p _ it knows = absurd (false≢true it)

-- where something is hidden it does not undo what it did, and so was refused nothing
pub hiding-goes : (g : ProbeStage) → is_hiding g ≡ true → is_over g ≡ false
unfolding is_hiding
hiding-goes (stage.Restore kind) hides = absurd (false≢true hides)
hiding-goes stage.Release hides = absurd (false≢true hides)
hiding-goes stage.Close hides = absurd (false≢true hides)
hiding-goes _ hides = refl

pub still-accepted : (u : ProbeState) → IsInOrder u → is_hiding u.stage ≡ true → u.refusal ≡ None
still-accepted u order hides = by u.refusal refl
  where
    by : (o : Option Errno) → u.refusal ≡ o → u.refusal ≡ None
    by None none_of = none_of
    by (Some e) refused = absurd (false≢true (sym (hiding-goes u.stage hides) ∙ order.refused e refused))

-- ---- special stages

pub refused-plain : (p : ProbeState) → IsInOrder p → (e : Errno) → p.refusal ≡ Some e → is_special p.stage ≡ false
unfolding is_special
refused-plain p order e is = by p.stage (order.refused e is)
  where
    by : (g : ProbeStage) → is_over g ≡ true → is_special g ≡ false
    by (stage.Restore kind) over = refl
    by stage.Release over = refl
    by stage.Close over = refl
    by _ over = absurd (false≢true over)

-- a special stage that is not that at which the agent is made hides something
pub special-hides : (g : ProbeStage) → is_special g ≡ true → (g ≡ stage.MakeAgent) ⊎ (is_hiding g ≡ true)
unfolding is_special is_hiding
special-hides stage.MakeAgent is = inl refl
special-hides stage.PlantCode is = inr refl
special-hides (stage.Asking d step) is = inr refl
special-hides stage.SetExit is = inr refl
special-hides stage.WriteCode is = inr refl
special-hides stage.WriteStack is = inr refl
special-hides _ is = absurd (false≢true is)

-- ---- handles

pub ctl-control : (f : File) → is_ctl f ≡ true → is_control f ≡ true
ctl-control Ctl is = refl
ctl-control _ is = absurd (false≢true is)
