use Rattle.std.proofs.Common.{◌≡◌, ℕ, ◌-◌, Option, Some, None, List, [], length, take, refl, sym, ap, ◌∙◌}
use Rattle.std.specs.List.{slice_get}
use Rattle.pr_num.specs.ById.{change_under, put_under, under}
use Rattle.pr_num.proofs.ByIdLaws.{change_under-alike, put_under-found, put_under-same}
use Rattle.pr_model.specs.Changes as changes
use Rattle.pr_model.specs.Changes.{all_changed, changed, ended, resumed}
use Rattle.pr_model.specs.Lives.{with_ended, with_lwp_ended}
use Rattle.pr_model.specs.Machines.{traced}
use Rattle.pr_model.specs.State.{TracedLwp, TracedProcess, TracedSystem, live_process, lwp_of, with_lwp, with_process}
use Rattle.pr_model.specs.declared.events.Res.{Res}
use Rattle.pr_model.specs.declared.frames.Frame.{Frame}
use Rattle.pr_call.specs.Effects.{after_effect, changes_meant, lwp_changed, process_changed, resumed_last, resuming}
use Rattle.pr_call.specs.declared.requests.Change.{Change}
use Rattle.pr_call.specs.declared.requests.Change.TheVariants.{Held, Disposition, Resumed, Suspended}
use Rattle.pr_model.proofs.StateLemmas.{live_process-found}

-- What plain calls make of the system.

-- what stays as it was under its id leaves all as it was
same-under : {X : Type 0} (id : ℕ) (f : X → X) (x : X) (es : List (ℕ × X)) → under id es ≡ Some x → f x ≡ x
    → change_under id f es ≡ es
same-under id f x es found same =
    sym (put_under-found id f x es found) ∙ ap (λ y. put_under id y es) same ∙ put_under-same id x es found

module _ (s : TracedSystem) (pid : ℕ) (p : TracedProcess) (id : ℕ) (l : TracedLwp) where
  -- an lwp changed in two ways that come to the same for it
  lwp-alike : (f g : TracedLwp → TracedLwp) → live_process s pid ≡ Some p → lwp_of p id ≡ Some l → f l ≡ g l
      → with_process pid (with_lwp id f) s ≡ with_process pid (with_lwp id g) s
  unfolding with_process with_lwp
  lwp-alike f g found stands same =
      ap (λ ps. record s { processes = ps })
      (change_under-alike pid (with_lwp id f) (with_lwp id g) p s.processes (live_process-found s pid p found)
      (ap (λ ls. record p { lwps = ls }) (change_under-alike id f g l p.lwps stands same)))

  lwp-same : (f : TracedLwp → TracedLwp) → live_process s pid ≡ Some p → lwp_of p id ≡ Some l → f l ≡ l
      → with_process pid (with_lwp id f) s ≡ s
  unfolding with_process with_lwp
  lwp-same f found stands same =
      ap (λ ps. record s { processes = ps })
      (same-under pid (with_lwp id f) p s.processes (live_process-found s pid p found)
      (ap (λ ls. record p { lwps = ls }) (same-under id f l p.lwps stands same)))

  -- back to the last frame
  resumed-by : (o : Option Frame) → slice_get l.frames (length l.frames - 1) ≡ o → live_process s pid ≡ Some p
      → lwp_of p id ≡ Some l
      → with_process pid (with_lwp id resumed_last) s
      ≡ all_changed traced pid p id l (resuming o (take (length l.frames - 1) l.frames)) s
  unfolding resumed_last all_changed changed
  resumed-by None at found stands = lwp-same resumed_last found stands (rw at refl)
  resumed-by (Some frame) at found stands =
      lwp-alike resumed_last (resumed frame (take (length l.frames - 1) l.frames)) found stands (rw at refl)

  pub making-change : (change : Change) (answer : Res) → live_process s pid ≡ Some p → lwp_of p id ≡ Some l
      → with_process pid (process_changed id change) s
      ≡ after_effect pid p id l (changes.does answer (changes_meant l (Some change))) s
  unfolding after_effect process_changed lwp_changed all_changed changed
  making-change (Held held) answer found stands = refl
  making-change (Disposition g disposition) answer found stands = refl
  making-change (Suspended other on) answer found stands = refl
  making-change Resumed answer found stands = resumed-by (slice_get l.frames (length l.frames - 1)) refl found stands

  pub making-nothing : (answer : Res) → s ≡ after_effect pid p id l (changes.does answer []) s
  unfolding after_effect all_changed
  making-nothing answer = refl

  pub making-sleep : s ≡ after_effect pid p id l changes.sleeps s
  unfolding after_effect
  making-sleep = refl

  pub making-end : (status : ℕ) → live_process s pid ≡ Some p
      → with_ended traced pid status s ≡ after_effect pid p id l (changes.ends (changes.ends_process status)) s
  unfolding after_effect with_ended ended
  making-end status found = rw found refl

  pub making-lwp_end : with_lwp_ended traced pid p id s ≡ after_effect pid p id l (changes.ends changes.ends_lwp) s
  unfolding after_effect ended
  making-lwp_end = refl

pub ruleset making_laws = (making-change, making-nothing, making-sleep, making-end, making-lwp_end)
