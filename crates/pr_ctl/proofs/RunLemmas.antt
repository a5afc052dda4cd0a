use Rattle.std.proofs.Common.{◌≡◌, ℕ, List, Option, Some, None, refl}
use Rattle.pr_model.specs.Messages.{found_at, run_answer, run_found}
use Rattle.pr_model.specs.Running.{found_stops_or_will, stops_or_will, with_one_run, with_representative_run}
use Rattle.pr_model.specs.State.{TracedLwp, TracedProcess, TracedSystem, lwp_of}
use Rattle.pr_stop.specs.Classes.{id_found, lwp_found}
use Rattle.pr_ctl.specs.Aims.{aim_at}
use Rattle.pr_ctl.specs.Runs.{one_run, ran, refuses_run, representative_run, run_by_id}

-- PCRUN is what is done by ids.

run_at : (s : TracedSystem) (pid : ℕ) (p : TracedProcess) (id flags len : ℕ) (o : Option TracedLwp) → lwp_of p id ≡ o
    → run_by_id s pid p (Some id) flags len ≡ run_found s pid p flags len (found_at s pid p id o)
unfolding run_by_id refuses_run ran
run_at s pid p id flags len None none = rw none refl
run_at s pid p id flags len (Some l) some = rw some refl

pub run_answer-by_id : (s : TracedSystem) (pid : ℕ) (p : TracedProcess) (id : Option ℕ) (flags len : ℕ)
    → run_by_id s pid p id flags len ≡ run_answer s pid p (aim_at id) flags len
unfolding run_answer run_by_id refuses_run ran
run_answer-by_id s pid p None flags len = refl
run_answer-by_id s pid p (Some id) flags len = run_at s pid p id flags len (lwp_of p id) refl

pub one_run-found : (flags : ℕ) (o : Option (ℕ × TracedLwp)) (p : TracedProcess)
    → one_run flags (id_found o) p ≡ with_one_run flags o p
unfolding one_run
one_run-found flags None p = refl
one_run-found flags (Some e) p = refl

pub representative_run-found : (flags : ℕ) (o : Option (ℕ × TracedLwp)) (lwps : List (ℕ × TracedLwp))
    → representative_run flags (id_found o) lwps ≡ with_representative_run flags o lwps
unfolding representative_run
representative_run-found flags None lwps = refl
representative_run-found flags (Some e) lwps = refl

pub stops-found : (o : Option (ℕ × TracedLwp)) → stops_or_will (lwp_found o) ≡ found_stops_or_will o
stops-found None = refl
stops-found (Some e) = refl

pub ruleset run_laws = (run_answer-by_id, one_run-found, representative_run-found, stops-found)
