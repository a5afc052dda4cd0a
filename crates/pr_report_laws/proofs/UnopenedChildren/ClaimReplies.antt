use Rattle.std.proofs.Common.{◌≡◌, ◌≢◌, ◌<◌, ◌≤◌, ◌-◌, ℕ, true, false, cond, Some, None, List, length, refl, sym, subst, ap, ◌∙◌, arith}
use Rattle.std.proofs.lemmas.Bool.{eq-eqb, ltb-false, ne_eqb}
use Rattle.std.specs.Option.{option_and_then}
use Rattle.pr_line.specs.declared.events.Event.{Event}
use Rattle.pr_model.specs.Replies.{bytes_in}
use Rattle.pr_model.specs.declared.calls.Reply.{Reply}
use Rattle.pr_rec.specs.declared.lwps.LwpStatus.{LwpStatus}
use Rattle.pr_truss.specs.Records.{status_lwp}
use Rattle.pr_truss.specs.Replies.{answer_of}
use Rattle.pr_truss.specs.Stops.{followed_child}
use Rattle.pr_truss.specs.Trusses.{TrussState, traced_at}
use Rattle.pr_truss.specs.declared.processes.Traced.{Traced}
use Rattle.pr_truss.specs.declared.replies.Answer.TheVariants.{Accepted}
use Rattle.pr_truss.specs.declared.reports.Report.{Report}
use Rattle.pr_truss.specs.declared.stages.Stage.{Stage}
use Rattle.pr_truss.specs.declared.stages.Stage.TheVariants.{ReadingStatus, ReadingText, Running}
use Rattle.pr_truss_laws.proofs.Files.HeldLemmas.{at_place, set-at}
use Rattle.pr_truss_laws.proofs.Replies.ReplySteps.{IsNew, old_less}
use Rattle.pr_report_laws.proofs.UnopenedChildren.Claims.{WasClaimed, WasSet, claim_of, runs, was_claimed, was_run, was_set, was_told, watched}
use Rattle.pr_report_laws.proofs.UnopenedChildren.ClaimSteps.{Known, Ready, done-here, known-beside}
use Rattle.pr_report_laws.proofs.Invariant.StandLemmas.{Each, EachBut, but-set, each-join}
use Rattle.pr_report_laws.proofs.Invariant.Standing.{has_read}
use Rattle.pr_report_laws.specs.Watching.{is_away}

-- What is known of the processes that truss watches, where it reads a stop of one, or memory for its line, or runs it.

-- a step that is about no process
pub known-all : (t : TrussState) (r : Reply) (stage : Stage) → t.stage ≡ stage
    → ((place : ℕ) → is_away false stage place ≡ false) → ((place : ℕ) → has_read stage place ≡ false)
    → Each (Known t r) t.traced
known-all t r stage is here read place within = known-beside t r stage place is within (here place) (read place)

module _ (t : TrussState) (r : Reply) where
  -- ---- steps about a process that truss watches

  module _ (at : ℕ) (stage : Stage) (is : t.stage ≡ stage) (within : at < length t.traced)
      (here : (place : ℕ) → is_away false stage place ≡ false)
      (read : (place : ℕ) → place ≢ at → has_read stage place ≡ false) where
    others-known : EachBut (Known t r) t.traced at
    others-known place inside other = known-beside t r stage place is inside (here place) (read place other)

    own-known : (at_place t.traced at).attached ≡ true → WasSet t r (at_place t.traced at).pid
    own-known on =
        let away = ap (λ (st : Stage). is_away false st at) is ∙ here at in
        was_set at (watched within on away) refl (done-here t r at away)

    -- with the reports that it has then
    ready-with : (reports : List Report) → Ready t r (record t { reports = reports }) at
    ready-with reports = record { leaves = λ stays. stays; options = refl; others = others-known; set = own-known }

    -- one old stop less
    ready-less : Ready t r (old_less t at) at
    ready-less =
        let less : Traced = record (traced_at t at) { old = (traced_at t at).old - 1 } in
        let same : at_place (old_less t at).traced at ≡ less = set-at t.traced at less within in
        record {
          leaves = λ stays. stays;
          options = refl;
          others = but-set (Known t r) t.traced at less others-known;
          set =
              λ on. subst (λ (x : Traced). WasSet t r x.pid) (sym same)
              (own-known (ap (λ (x : Traced). x.attached) (sym same) ∙ on));
        }

  -- ---- a process is run

  module _ (at : ℕ) (is : t.stage ≡ Running at) (within : at < length t.traced) where
    pub run-ready : Ready t r t at
    run-ready =
        ready-with at (Running at) is within (λ place. refl)
        (λ place other. ne_eqb at place (λ same. other (sym same))) t.reports

    pub run-known : Each (Known t r) t.traced
    run-known =
        let ready = run-ready in
        each-join (Known t r) t.traced at ready.others
        (record {
          free =
              λ on none. was_run at within (ap (λ st. runs st at) is
              ∙ eq-eqb at at refl) refl none (done-here t r at (ap (λ (st : Stage). is_away false st at) is));
          set = λ on. ready.set on;
        })

  -- ---- a status is read

  module _ (at : ℕ) (is : t.stage ≡ ReadingStatus at) (within : at < length t.traced) where
    pub status-ready : (reports : List Report) → Ready t r (record t { reports = reports }) at
    status-ready reports =
        ready-with at (ReadingStatus at) is within (λ place. refl) (λ place other. refl) reports

    pub status-less : Ready t r (old_less t at) at
    status-less = ready-less at (ReadingStatus at) is within (λ place. refl) (λ place other. refl)

    -- the child of its fork
    pub status-told : (l : LwpStatus) (e : Event) → IsNew t r at l e → answer_of r ≡ Accepted
        → option_and_then status_lwp (bytes_in r) ≡ Some l → (c : ℕ) → followed_child t.options l ≡ Some c
        → WasClaimed t r (at_place t.traced at).pid c
    status-told l e new accepted read c child =
        let none : (traced_at t at).old ≤ 0 = ltb-false 0 (traced_at t at).old new.none_old in
        was_told at within refl (record {
          stage = is;
          none = omega arith;
          accepted = accepted;
          lwp = l;
          read = read;
          child = child;
        })

  -- ---- the memory of an event is read

  module _ (at : ℕ) (l : LwpStatus) (from len : ℕ) (is : t.stage ≡ ReadingText at l from len)
      (within : at < length t.traced) where
    pub text-ready : (reports : List Report) → Ready t r (record t { reports = reports }) at
    text-ready reports =
        ready-with at (ReadingText at l from len) is within (λ place. refl)
        (λ place other. ne_eqb at place (λ same. other (sym same))) reports

    pub text-claimed : (c : ℕ) → followed_child t.options l ≡ Some c → WasClaimed t r (at_place t.traced at).pid c
    text-claimed c child =
        was_claimed at within refl (ap (λ (st : Stage). claim_of t.options st at) is
        ∙ ap (λ b. cond b (followed_child t.options l) None) (eq-eqb at at refl) ∙ child)
