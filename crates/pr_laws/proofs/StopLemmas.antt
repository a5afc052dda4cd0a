use Rattle.std.proofs.Common.{◌≡◌, ◌==◌, ℕ, Bool, true, false, Option, Some, None, List, [], ◌∷◌, cond, refl, ◌∙◌, ap}
use Rattle.std.specs.Option.{option_map, option_or}
use Rattle.pr_num.specs.Agents.{agent_id}
use Rattle.pr_num.specs.ById.{under}
use Rattle.pr_num.specs.declared.signals.Sig.{Sig}
use Rattle.pr_model.specs.State.{TracedProcess, TracedLwp}
use Rattle.pr_model.specs.Stops.{class_of_shown, class_of, shown, first_in_class, representative, found_on_event, has_event_stop, is_stopped}
use Rattle.pr_model.specs.declared.stops.Shown.{Shown}
use Rattle.pr_model.specs.declared.stops.Shown.TheVariants.{Event, Suspended, JobControl}
use Rattle.pr_model.specs.declared.stops.Stop.TheVariants as stop

-- The representative of a process of one lwp is that lwp.

-- the representative as it is looked for in a list of lwps
unfoldable pub chosen : Option Sig → List (ℕ × TracedLwp) → Option (ℕ × TracedLwp)
chosen job lwps =
    option_or
    (option_or
    (option_or
    (option_or
    (option_or (option_map {U = ℕ × TracedLwp} (λ l. (agent_id, l)) (under agent_id lwps)) (first_in_class job 1 lwps))
    (first_in_class job 2 lwps))
    (first_in_class job 3 lwps))
    (first_in_class job 4 lwps))
    (first_in_class job 5 lwps)

pub representative-chosen : (p : TracedProcess) → representative p ≡ chosen p.job_stop p.lwps
unfolding representative chosen
representative-chosen p = refl

-- an lwp alone stands where it is chosen, in its own class, whichever that is, or as the agent
alone_in : Option Shown → (ℕ × TracedLwp) → Bool → (ℕ × TracedLwp) → Option (ℕ × TracedLwp)
alone_in o e b first =
    option_or
    (option_or
    (option_or
    (option_or
    (option_or (cond b (Some first) None) (cond (class_of_shown o == 1) (Some e) None))
    (cond (class_of_shown o == 2) (Some e) None))
    (cond (class_of_shown o == 3) (Some e) None))
    (cond (class_of_shown o == 4) (Some e) None))
    (cond (class_of_shown o == 5) (Some e) None)

on_event : (o : Option Shown) (id : ℕ) (l : TracedLwp) (b : Bool)
    → found_on_event (alone_in o (id, l) b (agent_id, l)) ≡ has_event_stop l
unfolding alone_in
on_event None id l true = refl
on_event None id l false = refl
on_event (Some (JobControl s)) id l true = refl
on_event (Some (JobControl s)) id l false = refl
on_event (Some (Event stop.Requested)) id l true = refl
on_event (Some (Event stop.Requested)) id l false = refl
on_event (Some (Event (stop.Signalled s))) id l true = refl
on_event (Some (Event (stop.Signalled s))) id l false = refl
on_event (Some (Event (stop.SysEntry c))) id l true = refl
on_event (Some (Event (stop.SysEntry c))) id l false = refl
on_event (Some (Event (stop.SysExit c))) id l true = refl
on_event (Some (Event (stop.SysExit c))) id l false = refl
on_event (Some (Event (stop.Faulted f))) id l true = refl
on_event (Some (Event (stop.Faulted f))) id l false = refl
on_event (Some Suspended) id l true = refl
on_event (Some Suspended) id l false = refl

moved : (b : Bool) (l : TracedLwp)
    → option_map {U = ℕ × TracedLwp} (λ (x : TracedLwp). (agent_id, x)) (cond b (Some l) None) ≡ cond b
    (Some (agent_id, l)) None
moved true l = refl
moved false l = refl

chosen-alone : (job : Option Sig) (id : ℕ) (l : TracedLwp)
    → found_on_event (chosen job ((id, l) ∷ [])) ≡ has_event_stop l
unfolding chosen first_in_class class_of alone_in
chosen-alone job id l =
    ap (λ o. found_on_event
    (option_or
    (option_or
    (option_or
    (option_or (option_or o (cond (class_of_shown (shown job l) == 1) (Some (id, l)) None))
    (cond (class_of_shown (shown job l) == 2) (Some (id, l)) None))
    (cond (class_of_shown (shown job l) == 3) (Some (id, l)) None))
    (cond (class_of_shown (shown job l) == 4) (Some (id, l)) None))
    (cond (class_of_shown (shown job l) == 5) (Some (id, l)) None)))
    (moved (id == agent_id) l)
    ∙ on_event (shown job l) id l (id == agent_id)

pub is_stopped-alone : (p : TracedProcess) (id : ℕ) (l : TracedLwp) → p.lwps ≡ (id, l) ∷ []
    → is_stopped p ≡ has_event_stop l
unfolding is_stopped
is_stopped-alone p id l alone =
    ap found_on_event (representative-chosen p ∙ ap (chosen p.job_stop) alone) ∙ chosen-alone p.job_stop id l

pub ruleset single = (is_stopped-alone)
