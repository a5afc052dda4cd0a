use Rattle.std.proofs.Common.{◌≡◌, ◌&&◌, ◌||◌, not, ◌+◌, ℕ, Bool, true, false, eqb, Option, Some, None, List, [], ◌∷◌, ◌++◌, cond, refl, sym, subst, ◌∙◌, ap, inl, inr, arith}
use Rattle.std.proofs.lemmas.Bool.{and_parts, eqb-true, eq-eqb, cases_Bool}
use Rattle.std.proofs.lemmas.List.Elements.{All-nil, All-cons}
use Rattle.std.proofs.lemmas.Option.{same_Some}
use Rattle.std.specs.List.{All, find, list_all}
use Rattle.std.specs.Option.{option_map, option_or}
use Rattle.pr_num.specs.Agents.{agent_id}
use Rattle.pr_num.specs.ById.{IsRising, rises_from, under, change_under, map_each, without_id}
use Rattle.pr_num.specs.Control.{has_flags}
use Rattle.pr_num.specs.Sets.{common_word}
use Rattle.pr_num.specs.declared.signals.Sig.{Sig}
use Rattle.pr_num.proofs.ByIdLemmas.{rises_from-tail, under-below}
use Rattle.pr_num.proofs.ByIdLaws.{under-change_under, under-change_under_other, under-map_each}
use Rattle.pr_laws.specs.Runs.{IsFree, others_let_run, with_stop_kept}
use Rattle.pr_model.specs.Machines.{UntracedSystem}
use Rattle.pr_model.specs.Running.{let_go, found_stops_or_will, run_refused, without_directive, with_request, without_request, shows_run, if_all_requested, with_flags_on, with_cleared, with_aborted, with_representative_run, with_all_run, with_run}
use Rattle.pr_model.specs.State.{TracedProcess, TracedLwp, has_agent, lwp_of}
use Rattle.pr_model.specs.Stops.{shown, has_event_stop, is_in_class, first_in_class, representative}
use Rattle.pr_model.specs.UntracedMachine.{UntracedRun, ends_here, by_call_entry, step_by}
use Rattle.pr_model.specs.declared.steps.Step.{Step}
use Rattle.pr_model.specs.declared.stops.Stop.{Stop}
use Rattle.pr_model.specs.declared.stops.Stop.TheVariants.{Requested, Signalled, SysEntry, SysExit, Faulted}

-- ---- runs of the untraced machine follow one another

pub UntracedRun-append : {u v w : UntracedSystem} {a b : List Step} → UntracedRun u a v → UntracedRun v b w
    → UntracedRun u (a ++ b) w
UntracedRun-append ends_here r = r
UntracedRun-append (by_call_entry entry rest) r = by_call_entry entry (UntracedRun-append rest r)
UntracedRun-append (step_by step rest) r = step_by step (UntracedRun-append rest r)

pub ruleset untraced_runs = (UntracedRun-append)

-- ---- the representative is an lwp of its process

-- what was found in a list with rising ids stands under its id
found-stands : {X : Type 0} (low : ℕ) (q : ℕ × X → Bool) (es : List (ℕ × X)) (e : ℕ × X) → rises_from low es ≡ true
    → find q es ≡ Some e → under e.0 es ≡ Some e.1
found-stands low q [] e rises found = cc
found-stands low q (d ∷ ds) e rises found =
    by (q d) (found-stands (d.0 + 1) q ds e (rises_from-tail low d ds rises)) found
  where
    gone : None ≡ Some e.1 → ⊥
    gone e = cc

    later : under e.0 ds ≡ Some e.1 → under e.0 (d ∷ ds) ≡ Some e.1
    later stands =
        elim (cases_Bool (eqb d.0 e.0)) [
          | inl same ↦ absurd
              (gone (sym
              (under-below (d.0 + 1) e.0 ds (rises_from-tail low d ds rises)
              (let is : d.0 ≡ e.0 = eqb-true d.0 e.0 same in omega (arith, is))) ∙ stands))
          | inr other ↦ rw other stands
        ]

    by : (b : Bool) → (find q ds ≡ Some e → under e.0 ds ≡ Some e.1) → cond b (Some d) (find q ds) ≡ Some e
        → under e.0 (d ∷ ds) ≡ Some e.1
    by true rest here =
        let is : d ≡ e = same_Some d e here in
        subst (λ (x : ℕ × _). under x.0 (d ∷ ds) ≡ Some x.1) is (rw (eq-eqb d.0 d.0 refl) refl)
    by false rest there = later (rest there)

either_is : {X : Type 0} (P : X → Type 0) (a b : Option X) (x : X) → ((y : X) → a ≡ Some y → P y)
    → ((y : X) → b ≡ Some y → P y) → option_or a b ≡ Some x → P x
either_is P None b x first second is = second x is
either_is P (Some y) b x first second is = first x is

-- an lwp of a process, with its id
Stands : TracedProcess → ℕ × TracedLwp → Type 0
Stands p e = lwp_of p e.0 ≡ Some e.1

agent-stands : (p : TracedProcess) (o : Option TracedLwp) → lwp_of p agent_id ≡ o → (e : ℕ × TracedLwp)
    → option_map (λ (l : TracedLwp). (agent_id, l)) o ≡ Some e → Stands p e
unfolding Stands
agent-stands p None is e found = cc
agent-stands p (Some l) is e found =
    subst (λ (x : ℕ × TracedLwp). lwp_of p x.0 ≡ Some x.1) (same_Some (agent_id, l) e found) is

class-stands : (p : TracedProcess) → IsRising p.lwps → (class : ℕ) (e : ℕ × TracedLwp)
    → first_in_class p.job_stop class p.lwps ≡ Some e → Stands p e
unfolding Stands first_in_class
class-stands p rising class e found = found-stands 0 (is_in_class p.job_stop class) p.lwps e rising found

pub representative-stands : (p : TracedProcess) (e : ℕ × TracedLwp) → IsRising p.lwps → representative p ≡ Some e
    → lwp_of p e.0 ≡ Some e.1
unfolding representative Stands
representative-stands p e rising is =
    either_is (Stands p) _ _ e
    (λ x found. either_is (Stands p) _ _ x
    (λ x found. either_is (Stands p) _ _ x
    (λ x found. either_is (Stands p) _ _ x
    (λ x found. either_is (Stands p) _ _ x
    (λ x found. agent-stands p (lwp_of p agent_id) refl x found)
    (class-stands p rising 1) found)
    (class-stands p rising 2) found)
    (class-stands p rising 3) found)
    (class-stands p rising 4) found)
    (class-stands p rising 5) is

-- ---- what becomes of each lwp

pub no_flags : (l : TracedLwp) → with_flags_on 0 l ≡ l
unfolding with_flags_on with_cleared with_aborted has_flags common_word
no_flags l = refl

-- a change that changes nothing
unchanged : (id : ℕ) (ls : List (ℕ × TracedLwp)) → change_under id (with_flags_on 0) ls ≡ ls
unchanged id [] = refl
unchanged id (e ∷ es) =
    elim (eqb e.0 id) as
    (λ b. cond b ((e.0, with_flags_on 0 e.1) ∷ es) (e ∷ change_under id (with_flags_on 0) es) ≡ e ∷ es)
    [ true ↦ ap (λ l. (e.0, l) ∷ es) (no_flags e.1) | false ↦ ap (λ ds. e ∷ ds) (unchanged id es) ]

-- the lwps with all directives cleared, and the representative's stop a requested one
requested : ℕ → List (ℕ × TracedLwp) → List (ℕ × TracedLwp)
requested id ls = change_under id with_request (map_each without_directive ls)

run-is : (p : TracedProcess) (r : ℕ × TracedLwp) → representative p ≡ Some r
    → (with_run 0 p).lwps ≡ if_all_requested p.job_stop (requested r.0 p.lwps)
unfolding with_run with_all_run has_flags common_word requested
run-is p r is =
    ap (λ o. if_all_requested p.job_stop (with_representative_run 0 o p.lwps)) is
    ∙ ap (λ ls. if_all_requested p.job_stop (change_under r.0 with_request (map_each without_directive ls)))
    (unchanged r.0 p.lwps)

shows-undirected : (job : Option Sig) (id : ℕ) (l : TracedLwp)
    → shows_run job (id, without_directive l) ≡ shows_run job (id, l)
unfolding shown without_directive
shows-undirected job id l = refl

all-undirected : (job : Option Sig) (ls : List (ℕ × TracedLwp))
    → list_all (shows_run job) (map_each without_directive ls) ≡ list_all (shows_run job) ls
all-undirected job [] = refl
all-undirected job (e ∷ es) =
    ap (λ b. b && list_all (shows_run job) (map_each without_directive es)) (shows-undirected job e.0 e.1)
    ∙ ap (λ b. shows_run job e && b) (all-undirected job es)

-- an lwp that stands on an event shows a requested stop afterwards
shows-requested : (job : Option Sig) (id : ℕ) (l : TracedLwp) → has_event_stop l ≡ true
    → shows_run job (id, with_request (without_directive l)) ≡ true
unfolding shown with_request without_directive
shows-requested job id l stands = rw stands refl

-- All lwps let the process run afterwards where all but the representative do before.
all-requested : (job : Option Sig) (id : ℕ) (l : TracedLwp) (ls : List (ℕ × TracedLwp)) → under id ls ≡ Some l
    → has_event_stop l ≡ true → list_all (shows_run job) (requested id ls) ≡ list_all (shows_run job) (without_id id ls)
unfolding requested
all-requested job id l [] found stands = cc
all-requested job id l (e ∷ es) found stands =
    elim (cases_Bool (eqb e.0 id)) [
      | inl here ↦
          let is : e.1 ≡ l = same_Some e.1 l (rw here at found) in
          rw here (ap (λ b. b && list_all (shows_run job) (map_each without_directive es))
          (shows-requested job e.0 e.1 (ap has_event_stop is ∙ stands)) ∙ all-undirected job es)
      | inr other ↦
          rw other
          (ap (λ b. b && list_all (shows_run job) (change_under id with_request (map_each without_directive es)))
          (shows-undirected job e.0 e.1)
          ∙ ap (λ b. shows_run job e && b) (all-requested job id l es (rw other at found) stands))
    ]

-- ---- all lwps go on

-- a requested stop ends, and there is no other where the process is let run
ends-requested : (job : Option Sig) (id : ℕ) (l : TracedLwp) → shows_run job (id, l) ≡ true
    → without_request (without_directive l) ≡ let_go l
unfolding shown without_request without_directive let_go
ends-requested job id l shows = by l.control.stop refl
  where
    by : (stop : Option Stop) → l.control.stop ≡ stop → without_request (without_directive l) ≡ let_go l
    by None is = rw is refl
    by (Some Requested) is = rw is refl
    by (Some (Signalled s)) is = absurd (clash (rw is at shows))
      where
        clash : false ≡ true → ⊥
        clash e = cc
    by (Some (SysEntry c)) is = absurd (clash (rw is at shows))
      where
        clash : false ≡ true → ⊥
        clash e = cc
    by (Some (SysExit c)) is = absurd (clash (rw is at shows))
      where
        clash : false ≡ true → ⊥
        clash e = cc
    by (Some (Faulted f)) is = absurd (clash (rw is at shows))
      where
        clash : false ≡ true → ⊥
        clash e = cc

ends-representative : (l : TracedLwp) → has_event_stop l ≡ true
    → without_request (with_request (without_directive l)) ≡ let_go l
unfolding with_request without_request without_directive let_go
ends-representative l stands = rw stands refl

ends-others : (job : Option Sig) (ls : List (ℕ × TracedLwp)) → list_all (shows_run job) ls ≡ true
    → map_each without_request (map_each without_directive ls) ≡ map_each let_go ls
ends-others job [] all = refl
ends-others job (e ∷ es) all =
    rw (ends-requested job e.0 e.1 (and_parts _ _ all).0)
    (ap (λ ds. (e.0, let_go e.1) ∷ ds) (ends-others job es (and_parts _ _ all).1))

ends-all : (job : Option Sig) (id : ℕ) (l : TracedLwp) (ls : List (ℕ × TracedLwp)) → under id ls ≡ Some l
    → has_event_stop l ≡ true → list_all (shows_run job) (without_id id ls) ≡ true
    → map_each without_request (requested id ls) ≡ map_each let_go ls
unfolding requested
ends-all job id l [] found stands all = refl
ends-all job id l (e ∷ es) found stands all =
    elim (cases_Bool (eqb e.0 id)) [
      | inl here ↦
          let is : e.1 ≡ l = same_Some e.1 l (rw here at found) in
          rw here (ap (λ x. (e.0, x) ∷ map_each without_request (map_each without_directive es))
          (ends-representative e.1 (ap has_event_stop is ∙ stands))
          ∙ ap (λ ds. (e.0, let_go e.1) ∷ ds) (ends-others job es (rw here at all)))
      | inr other ↦
          let rest = rw other at all in
          rw other
          (ap (λ x. (e.0, x) ∷ map_each without_request
          (change_under id with_request (map_each without_directive es)))
          (ends-requested job e.0 e.1 (and_parts _ _ rest).0)
          ∙ ap (λ ds. (e.0, let_go e.1) ∷ ds)
          (ends-all job id l es (rw other at found) stands (and_parts _ _ rest).1))
    ]

go_on-lwps : (p : TracedProcess) (r : ℕ × TracedLwp) → IsRising p.lwps → representative p ≡ Some r
    → has_event_stop r.1 ≡ true → others_let_run p r.0 ≡ true → (with_run 0 p).lwps ≡ map_each let_go p.lwps
unfolding if_all_requested
go_on-lwps p r rising is stands others =
    let there = representative-stands p r rising is in
    run-is p r is
    ∙ ap (λ b. cond b (map_each without_request (requested r.0 p.lwps)) (requested r.0 p.lwps))
    (all-requested p.job_stop r.0 r.1 p.lwps there stands ∙ others)
    ∙ ends-all p.job_stop r.0 r.1 p.lwps there stands others

pub all-go_on : (p : TracedProcess) (r : ℕ × TracedLwp) → IsRising p.lwps → representative p ≡ Some r
    → has_event_stop r.1 ≡ true → others_let_run p r.0 ≡ true → (id : ℕ)
    → lwp_of (with_run 0 p) id ≡ option_map let_go (lwp_of p id)
all-go_on p r rising is stands others id =
    ap (under id) (go_on-lwps p r rising is stands others) ∙ under-map_each id let_go p.lwps

free : (ls : List (ℕ × TracedLwp)) → All IsFree (map_each let_go ls)
unfolding let_go
free [] = All-nil IsFree
free (e ∷ es) = All-cons IsFree _ _ (record { no_stop = refl; no_directive = refl }) (free es)

pub all-free : (p : TracedProcess) (r : ℕ × TracedLwp) → IsRising p.lwps → representative p ≡ Some r
    → has_event_stop r.1 ≡ true → others_let_run p r.0 ≡ true → All IsFree (with_run 0 p).lwps
all-free p r rising is stands others = subst (All IsFree) (sym (go_on-lwps p r rising is stands others)) (free p.lwps)

-- ---- each lwp stays where it stands

stays-lwps : (p : TracedProcess) (r : ℕ × TracedLwp) → IsRising p.lwps → representative p ≡ Some r
    → has_event_stop r.1 ≡ true → others_let_run p r.0 ≡ false → (with_run 0 p).lwps ≡ requested r.0 p.lwps
unfolding if_all_requested
stays-lwps p r rising is stands others =
    let there = representative-stands p r rising is in
    run-is p r is
    ∙ ap (λ b. cond b (map_each without_request (requested r.0 p.lwps)) (requested r.0 p.lwps))
    (all-requested p.job_stop r.0 r.1 p.lwps there stands ∙ others)

kept-representative : (id : ℕ) (l : TracedLwp) → has_event_stop l ≡ true
    → with_request (without_directive l) ≡ with_stop_kept id id l
unfolding with_request without_directive
kept-representative id l stands = rw (stands, eq-eqb id id refl) refl

kept-other : (rid id : ℕ) (l : TracedLwp) → eqb id rid ≡ false → without_directive l ≡ with_stop_kept rid id l
unfolding without_directive
kept-other rid id l other = rw other refl

found-kept : (rid id : ℕ) (o : Option TracedLwp) → eqb id rid ≡ false
    → option_map without_directive o ≡ option_map (with_stop_kept rid id) o
found-kept rid id None other = refl
found-kept rid id (Some l) other = ap (λ x. Some x) (kept-other rid id l other)

stays-at : (r : ℕ × TracedLwp) (ls : List (ℕ × TracedLwp)) → under r.0 ls ≡ Some r.1 → has_event_stop r.1 ≡ true
    → (id : ℕ) → under id (requested r.0 ls) ≡ option_map (with_stop_kept r.0 id) (under id ls)
unfolding requested
stays-at r ls found stands id =
    elim (cases_Bool (eqb id r.0)) [
      | inl here ↦ let is : id ≡ r.0 =
          eqb-true id r.0 here in subst
          (λ n. under n (change_under r.0 with_request (map_each without_directive ls)) ≡ option_map
          (with_stop_kept r.0 n) (under n ls)) (sym is) at_representative
      | inr other ↦
          under-change_under_other r.0 id with_request (λ same. clash (sym (eq-eqb id r.0 (sym same))
          ∙ other)) (map_each without_directive ls)
          ∙ under-map_each id without_directive ls
          ∙ found-kept r.0 id (under id ls) other
    ]
  where
    clash : true ≡ false → ⊥
    clash e = cc

    at_representative : under r.0 (change_under r.0 with_request (map_each without_directive ls)) ≡ option_map
        (with_stop_kept r.0 r.0) (under r.0 ls)
    at_representative =
        under-change_under r.0 with_request (map_each without_directive ls)
        ∙ ap (option_map with_request) (under-map_each r.0 without_directive ls
        ∙ ap (option_map without_directive) found)
        ∙ ap (λ x. Some x) (kept-representative r.0 r.1 stands)
        ∙ ap (option_map (with_stop_kept r.0 r.0)) (sym found)

pub each-stays : (p : TracedProcess) (r : ℕ × TracedLwp) → IsRising p.lwps → representative p ≡ Some r
    → has_event_stop r.1 ≡ true → others_let_run p r.0 ≡ false → (id : ℕ)
    → lwp_of (with_run 0 p) id ≡ option_map (with_stop_kept r.0 id) (lwp_of p id)
each-stays p r rising is stands others id =
    ap (under id) (stays-lwps p r rising is stands others)
    ∙ stays-at r p.lwps (representative-stands p r rising is) stands id

-- ---- it is granted

pub run-granted : (p : TracedProcess) (r : ℕ × TracedLwp) → has_agent p ≡ false → representative p ≡ Some r
    → has_event_stop r.1 ≡ true → run_refused p ≡ false
unfolding run_refused
run-granted p r no_agent is stands =
    ap (λ b. b || not (found_stops_or_will (representative p))) no_agent
    ∙ ap (λ o. not (found_stops_or_will o)) is
    ∙ ap (λ b. not (b || r.1.control.directed)) stands

pub ruleset running = (run-granted, all-go_on, all-free, each-stays)
