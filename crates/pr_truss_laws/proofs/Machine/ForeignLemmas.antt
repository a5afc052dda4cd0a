use Rattle.std.proofs.Common.{◌≡◌, ◌≢◌, ◌==◌, ◌&&◌, ℕ, true, None, Some, refl, sym, subst, ap, ◌∙◌, inl, inr}
use Rattle.std.proofs.lemmas.Bool.{false≢true, cases_Bool, eqb-true, eqb-false, eq-eqb}
use Rattle.std.proofs.lemmas.Option.{same_Some}
use Rattle.std.specs.List.{slice_get, slice_set}
use Rattle.pr_lawful.proofs.LawfulTurns.EndLemmas.{found-live}
use Rattle.pr_lawful.proofs.ProcessParts.HandleLemmas.{any-at, handle-at}
use Rattle.pr_model.specs.Calls.{Answer, answer_to}
use Rattle.pr_model.specs.Handles.{handle_of, has_writer, is_writable, is_writer}
use Rattle.pr_model.specs.Lawful.{IsLawful}
use Rattle.pr_model.specs.State.{TracedProcess, TracedState, live_process, process_of}
use Rattle.pr_truss_laws.specs.Handles.{HasNoOtherWriter}
use Rattle.pr_truss_laws.specs.Stills.{IsUndisturbed}
use Rattle.pr_model.specs.declared.calls.Call.{Call}
use Rattle.pr_model.specs.declared.calls.Mode.TheVariants.{WriteExcl}
use Rattle.pr_model.specs.declared.handles.Held.{Held}
use Rattle.pr_truss_laws.proofs.Machine.FrameLemmas.{ByKill, Passes, passed-alone, undisturbed-left}
use Rattle.pr_truss_laws.proofs.Machine.OthersLemmas as others
pub use Rattle.pr_truss_laws.proofs.Machine.OthersLemmas.{names}
use Rattle.pr_truss_laws.proofs.Files.OpensLemmas.{handle-controller}
use Rattle.pr_truss_laws.proofs.Files.ReleaseLemmas.{none-left}
use Rattle.pr_file_laws.proofs.PlaceLemmas.{slice_get-set_other}

-- What a controller does to a process that it does not write to: SIGKILL ends it, or signals pend for it and no more.
-- Where one controller has a process open exclusively, no other one writes to it.

-- a call that writes to no handle of the process and closes none
pub call-passes : (s : TracedState) (by pid : ℕ) → IsLawful s → (p : TracedProcess) → process_of s.system pid ≡ Some p
    → (c : Call) (a : Answer) → ((number : ℕ) → names c number ≡ true → (g : Held)
    → handle_of s.opens by number ≡ Some g → is_writable g.mode ≡ true → g.pid ≢ pid) → answer_to s by c ≡ Some a
    → Passes pid ByKill s.system a.state.system
call-passes s by pid lawful p stands c a apart =
    others.call-passes undisturbed-left pid ByKill refl s by lawful p stands c a apart (λ number g is sent. tt)

-- ---- other controllers

-- a handle that is exclusive leaves no other controller one for writing
module _ (s : TracedState) (k number : ℕ) (h : Held) (lawful : IsLawful s) (mine : handle_of s.opens k number ≡ Some h)
    (mode : h.mode ≡ WriteExcl) where
  there : slice_get s.opens number ≡ Some (Some h)
  there = handle-at s.opens k number h mine

  writes-other : (by m : ℕ) (g : Held) → by ≢ k → handle_of s.opens by m ≡ Some g → is_writable g.mode ≡ true
      → g.pid ≢ h.pid
  writes-other by m g other held writes same =
      elim (cases_Bool (number == m)) [
        | inl place ↦ other
            (own-controller (eqb-true number m place))
        | inr not_same ↦ false≢true
            (sym (none-left s.opens number h there mode lawful.exclusive) ∙ still (eqb-false number m not_same))
      ]
    where
      own-controller : number ≡ m → by ≡ k
      own-controller place =
          let at : slice_get s.opens number ≡ Some (Some g) =
          subst (λ n. slice_get s.opens n ≡ Some (Some g)) (sym place) (handle-at s.opens by m g held) in
          let both : Some h ≡ Some g = same_Some (Some h) (Some g) (sym there ∙ at) in
          sym (handle-controller s.opens by m g held) ∙ ap (λ (x : Held). x.controller) (sym (same_Some h g both))
          ∙ handle-controller s.opens k number h mine

      still : number ≢ m → has_writer h.pid (slice_set s.opens number None) ≡ true
      still apart =
          let at : slice_get (slice_set s.opens number None) m ≡ Some (Some g) =
          slice_get-set_other s.opens number m None (λ same. apart (sym same)) ∙ handle-at s.opens by m g held in
          any-at (is_writer h.pid) (slice_set s.opens number None) m (Some g) at
          (ap (λ b. b && is_writable g.mode) (eq-eqb g.pid h.pid same) ∙ writes)

  pub exclusive-sole : HasNoOtherWriter k h.pid s.opens
  exclusive-sole = record { none = writes-other }

-- what a controller calls leaves a process that only another one may have open for writing
pub foreign-passes : (s : TracedState) (k pid : ℕ) → IsLawful s → HasNoOtherWriter k pid s.opens
    → (by : ℕ) (c : Call) (a : Answer) (p : TracedProcess) → by ≢ k → answer_to s by c ≡ Some a
    → live_process s.system pid ≡ Some p → Passes pid ByKill s.system a.state.system
foreign-passes s k pid lawful sole by c a p other is before =
    let was = found-live s.system pid p before in
    call-passes s by pid lawful p was.0 c a (λ m named g held writes. sole.none by m g other held writes) is

pub call-leaves : (s : TracedState) (k number by : ℕ) (h : Held) (c : Call) (a : Answer) (p q : TracedProcess)
    → IsLawful s → handle_of s.opens k number ≡ Some h → h.mode ≡ WriteExcl → by ≢ k → answer_to s by c ≡ Some a
    → live_process s.system h.pid ≡ Some p → live_process a.state.system h.pid ≡ Some q → IsUndisturbed p q
call-leaves s k number by h c a p q lawful mine mode other is before after =
    let sole = exclusive-sole s k number h lawful mine mode in
    passed-alone h.pid ByKill s.system a.state.system p q
    (foreign-passes s k h.pid lawful sole by c a p other is before) before after
