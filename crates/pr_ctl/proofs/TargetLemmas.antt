use Rattle.std.proofs.Common.{◌≡◌, ◌||◌, Bool, true, false, not, cond, Option, Some, None, IsSome, is_some, refl, ap}
use Rattle.std.proofs.lemmas.Option.{same_Some}
use Rattle.pr_model.specs.ControlMessages.{still_there, target_of}
use Rattle.pr_model.specs.Handles.{is_of_lwp}
use Rattle.pr_model.specs.State.{TracedProcess, TracedSystem, live_process, lwp_of}
use Rattle.pr_model.specs.declared.handles.Held.{Held}

-- What a control handle acts on is a live process.

kept : (b : Bool) (q p : TracedProcess) → cond b (Some q) None ≡ Some p → q ≡ p
kept true q p e = same_Some q p e
kept false q p e = absurd (cc)

live : (h : Held) (o : Option TracedProcess) (p : TracedProcess) → still_there h o ≡ Some p → o ≡ Some p
live h None p e = absurd (cc)
live h (Some q) p e = ap Some (kept (not (is_of_lwp h.file) || is_some (lwp_of q h.lwp)) q p e)

pub target-live : (s : TracedSystem) (h : Held) (p : TracedProcess) → target_of s h ≡ Some p
    → live_process s h.pid ≡ Some p
unfolding target_of
target-live s h p e = live h (live_process s h.pid) p e

some : (s : TracedSystem) (h : Held) (o : Option TracedProcess) → target_of s h ≡ o → IsSome o
    → IsSome (live_process s h.pid)
some s h None e is = absurd (cc)
some s h (Some p) e is = ap is_some (target-live s h p e)

pub target-some : (s : TracedSystem) (h : Held) → IsSome (target_of s h) → IsSome (live_process s h.pid)
target-some s h is = some s h (target_of s h) refl is

pub ruleset target_laws = (target-live, target-some)
