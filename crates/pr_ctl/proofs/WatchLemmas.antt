use Rattle.std.proofs.Common.{◌≡◌, ℕ, ◌<◌, Bool, true, false, cond, eqb, Option, Some, None, is_some, Result, Ok, Err, length, refl, sym, ap, ◌∙◌, arith}
use Rattle.std.proofs.lemmas.Bool.{ne_eqb}
use Rattle.std.specs.Prelude.{nat_le}
use Rattle.pr_num.specs.ById.{put_under, under}
use Rattle.pr_num.specs.Messages.{bad_operand}
use Rattle.pr_num.specs.declared.errnos.Errno.TheVariants.{Inval, Nomem}
use Rattle.pr_num.specs.declared.mappings.Area.{Area}
use Rattle.pr_num.specs.declared.messages.Message.TheVariants.{Watch}
use Rattle.pr_parts.specs.WatchedAreas.{area_limit, is_taken, with_area}
use Rattle.pr_model.specs.Messages.{Controlled, refused, watch_answer, with_areas, with_control}
use Rattle.pr_model.specs.State.{TracedProcess, TracedSystem, live_process, with_process}
use Rattle.pr_watch.specs.Setting.{done_unless, set_refusal}
use Rattle.pr_watch.specs.declared.areas.WatchFault.{WatchFault}
use Rattle.pr_watch.specs.declared.areas.WatchFault.TheVariants.{Overlap, TooMany}
use Rattle.pr_ctl.proofs.ProcessLemmas.{lent-same, put-found, used}
use Rattle.pr_ctl.specs.Watching.{errno_of}

-- PCWATCH with flags, by what refuses an area.

refusal : Bool → Bool → Option WatchFault
refusal taken full = cond taken (Some Overlap) (cond full (Some TooMany) None)

same_fault : (a b : WatchFault) → (let r : Result (Unit {0}) WatchFault = Err a in r) ≡ Err b → a ≡ b
same_fault a b e = cc

refused_with : (taken full : Bool) (made : Controlled) (s : TracedSystem) (fault : WatchFault)
    → done_unless (refusal taken full) ≡ Err fault
    → refused s (errno_of fault) ≡ cond taken (refused s Inval) (cond full (refused s Nomem) made)
unfolding refusal
refused_with true full made s fault h = ap (λ f. refused s (errno_of f)) (sym (same_fault Overlap fault h))
refused_with false true made s fault h = ap (λ f. refused s (errno_of f)) (sym (same_fault TooMany fault h))
refused_with false false made s fault h = absurd (cc)

granted : (taken full : Bool) (made : Controlled) (s : TracedSystem) → done_unless (refusal taken full) ≡ Ok tt
    → made ≡ cond taken (refused s Inval) (cond full (refused s Nomem) made)
unfolding refusal
granted true full made s h = absurd (cc)
granted false true made s h = absurd (cc)
granted false false made s h = refl

-- the area, and a process with it beside the areas of another, which is itself
abbrev area_of : ℕ → ℕ → ℕ → Area
area_of at size flags = record { at = at; size = size; flags = flags }

abbrev with_area_of : Area → TracedProcess → TracedProcess → TracedProcess
with_area_of area p = with_control (with_areas (with_area area p.control.areas))

module _ (s : TracedSystem) (pid : ℕ) (p : TracedProcess) (at size flags len : ℕ) where
  taken : Bool
  taken = is_taken at size p.control.areas

  full : Bool
  full = nat_le area_limit (length p.control.areas)

  by_refusal : bad_operand (Watch at size flags) ≡ None → set_refusal at size flags p.control.areas ≡ refusal taken full
  unfolding refusal taken full
  by_refusal columns =
      let good : is_some (bad_operand (Watch at size flags)) ≡ false = ap is_some columns in
      rw good refl

  made : Controlled
  made = used len (with_process pid (with_area_of (area_of at size flags) p) s)

  by_answer : 0 < flags
      → watch_answer s pid p at size flags len ≡ cond taken (refused s Inval) (cond full (refused s Nomem) made)
  unfolding watch_answer taken full made
  by_answer some =
      let flagged : eqb flags 0 ≡ false = ne_eqb flags 0 (λ e. absurd (omega arith)) in
      rw flagged refl

  pub watch-refused : (fault : WatchFault) → 0 < flags → bad_operand (Watch at size flags) ≡ None
      → done_unless (set_refusal at size flags p.control.areas) ≡ Err fault
      → refused s (errno_of fault) ≡ watch_answer s pid p at size flags len
  watch-refused fault some columns h =
      rw (by_answer some) (refused_with taken full made s fault (sym (ap done_unless (by_refusal columns)) ∙ h))

  pub watch-made : 0 < flags → bad_operand (Watch at size flags) ≡ None
      → done_unless (set_refusal at size flags p.control.areas) ≡ Ok tt
      → used len (with_process pid (with_area_of (area_of at size flags) p) s) ≡ watch_answer s pid p at size flags len
  unfolding made
  watch-made some columns h =
      rw (by_answer some) (granted taken full made s (sym (ap done_unless (by_refusal columns)) ∙ h))

-- the process that was lent, with its area
pub watch-lent : (s : TracedSystem) (pid : ℕ) (p q w : TracedProcess) (at size flags len : ℕ)
    → live_process s pid ≡ Some p → under pid s.processes ≡ Some q
    → 0 < flags → bad_operand (Watch at size flags) ≡ None
    → w ≡ with_area_of (area_of at size flags) q q → done_unless (set_refusal at size flags q.control.areas) ≡ Ok tt
    → used len (record s { processes = put_under pid w s.processes }) ≡ watch_answer s pid p at size flags len
watch-lent s pid p q w at size flags len live found some columns made granted =
    let same : q ≡ p = lent-same s pid p q live found in
    let here : done_unless (set_refusal at size flags p.control.areas) ≡ Ok tt =
    sym (ap (λ r. done_unless (set_refusal at size flags r.control.areas)) same) ∙ granted in
    ap (used len) (put-found s pid p q w (with_area_of (area_of at size flags)) live found made)
    ∙ watch-made s pid p at size flags len some columns here

pub ruleset watch_laws = (watch-refused, watch-made)
