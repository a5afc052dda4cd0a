use Rattle.std.proofs.Common.{◌≡◌, ℕ, Bool, true, false, cond, Option, Some, None, IfSome, List, [], ◌∷◌, refl, arith}
use Rattle.std.specs.List.{All, find}
use Rattle.std.specs.Option.{option_map, option_or}
use Rattle.std.proofs.lemmas.List.Elements.{All-nil, All-cons, All-head, All-tail}
use Rattle.pr_num.proofs.ByIdLaws.{All-under}
use Rattle.pr_num.specs.Agents.{agent_id}
use Rattle.pr_rec.specs.InRange.{IsInfo}
use Rattle.pr_rec.specs.NoLwp.{no_lwp}
use Rattle.pr_rec.specs.declared.lwps.LwpStatus.{LwpStatus}
use Rattle.pr_model.specs.Lawful.{IsLawfulCurrent, IsLawfulLwp, IsLawfulProcess}
use Rattle.pr_model.specs.Records.{lstatus_of, statuses_of_lwps}
use Rattle.pr_model.specs.State.{TracedLwp, TracedProcess, TracedSystem, lwp_of}
use Rattle.pr_model.specs.Statuses.{info_in, lwpstatus_of, status_of, status_of_found}
use Rattle.pr_model.specs.Stops.{agent_of, first_in_class, is_in_class, representative}
use Rattle.pr_model.specs.declared.lwps.Current.{Current}

-- The records of a lawful process can hold what came with its signals.

abbrev HasInfo : LwpStatus → Type 0
HasInfo l = IsInfo l.info

current-info : (o : Option Current) → IsLawfulCurrent o → IsInfo (info_in o)
unfolding info_in
current-info None h = record { code = omega arith; pid = omega arith }
current-info (Some c) h = h

-- the status of an lwp
pub lwpstatus-info : (next : ℕ) (p : TracedProcess) (e : ℕ × TracedLwp) → IsLawfulLwp next e
    → HasInfo (lwpstatus_of p e.0 e.1)
unfolding lwpstatus_of
lwpstatus-info next p e h = current-info e.1.current h.current

statuses-info : (next : ℕ) (p : TracedProcess) (es : List (ℕ × TracedLwp)) → All (IsLawfulLwp next) es
    → All HasInfo (statuses_of_lwps p es)
statuses-info next p [] all = All-nil HasInfo
statuses-info next p (e ∷ es) all =
    All-cons HasInfo (lwpstatus_of p e.0 e.1) (statuses_of_lwps p es)
    (lwpstatus-info next p e (All-head (IsLawfulLwp next) e es all))
    (statuses-info next p es (All-tail (IsLawfulLwp next) e es all))

pub lstatus-info : (pid : ℕ) (p : TracedProcess) → IsLawfulProcess (pid, p) → All HasInfo (lstatus_of p)
unfolding lstatus_of
lstatus-info pid p h = statuses-info p.next_lwp p p.lwps h.lwps

-- ---- the representative is one of the lwps

either-holds : {X : Type 0} (P : X → Type 0) (a b : Option X) → IfSome a P → IfSome b P → IfSome (option_or a b) P
either-holds P (Some x) b h k = h
either-holds P None b h k = k

found-holds : {X : Type 0} (P : X → Type 0) (q : X → Bool) (xs : List X) → All P xs → IfSome (find q xs) P
found-holds P q [] all = tt
found-holds P q (x ∷ xs) all =
    elim (q x) as
    (λ b. IfSome (cond b (Some x) (find q xs)) P) [
      | true ↦ All-head P x xs all
      | false ↦ found-holds P q xs
          (All-tail P x xs all)
    ]

module _ (pid : ℕ) (p : TracedProcess) (h : IsLawfulProcess (pid, p)) where
  class-lawful : (class : ℕ) → IfSome (first_in_class p.job_stop class p.lwps) (IsLawfulLwp p.next_lwp)
  unfolding first_in_class
  class-lawful class = found-holds (IsLawfulLwp p.next_lwp) (is_in_class p.job_stop class) p.lwps h.lwps

  agent-lawful : IfSome (agent_of p) (IsLawfulLwp p.next_lwp)
  agent-lawful = by (lwp_of p agent_id) (λ l there. All-under (IsLawfulLwp p.next_lwp) agent_id l p.lwps h.lwps there)
    where
      by : (o : Option TracedLwp) → ((l : TracedLwp) → o ≡ Some l → IsLawfulLwp p.next_lwp (agent_id, l))
          → IfSome (let e : Option (ℕ × TracedLwp) = option_map (λ l. (agent_id, l)) o in e) (IsLawfulLwp p.next_lwp)
      by None lawful = tt
      by (Some l) lawful = lawful l refl

  representative-lawful : IfSome (representative p) (IsLawfulLwp p.next_lwp)
  unfolding representative
  representative-lawful =
      let either = either-holds (IsLawfulLwp p.next_lwp) in
      either _ _
      (either _ _
      (either _ _ (either _ _ (either _ _ agent-lawful (class-lawful 1)) (class-lawful 2)) (class-lawful 3))
      (class-lawful 4)) (class-lawful 5)

  -- the status of the process has that of the representative
  pub status-info : (s : TracedSystem) → HasInfo (status_of s pid p).lwp
  unfolding status_of no_lwp
  status-info s = by (representative p) representative-lawful
    where
      by : (o : Option (ℕ × TracedLwp)) → IfSome o (IsLawfulLwp p.next_lwp) → HasInfo (status_of_found p o)
      by None lawful = record { code = omega arith; pid = omega arith }
      by (Some e) lawful = lwpstatus-info p.next_lwp p e lawful

pub ruleset record_laws = (lstatus-info, status-info)
