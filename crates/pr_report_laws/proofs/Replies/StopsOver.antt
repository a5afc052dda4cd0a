use Rattle.std.proofs.Common.{◌≡◌, ◌≢◌, ◌==◌, ◌++◌, ℕ, Bool, true, false, cond, Option, Some, None, List, [], ◌∷◌, filter_map, refl, sym, ap, ◌∙◌}
use Rattle.std.proofs.lemmas.Bool.{and_from, and_right, eq-eqb, false≢true, ne_eqb}
use Rattle.std.proofs.lemmas.List.{append-nil}
use Rattle.std.proofs.lemmas.List.Elements.{filter_map-append}
use Rattle.pr_line.specs.ArgumentTexts.{Came}
use Rattle.pr_line.specs.Events.{event_of}
use Rattle.pr_line.specs.declared.events.Event.{Event}
use Rattle.pr_rec.specs.declared.lwps.LwpStatus.{LwpStatus}
use Rattle.pr_truss.specs.Closings.{with_closing}
use Rattle.pr_truss.specs.Reports.{all_reports, pending_at}
use Rattle.pr_truss.specs.Stops.{followed_child, with_child_or, with_event_over, with_stop_over}
use Rattle.pr_truss.specs.Trusses.{TrussState, traced_at, with_stage}
use Rattle.pr_truss.specs.declared.reports.Report.{Report}
use Rattle.pr_truss.specs.declared.reports.Report.TheVariants.{Event as Reported}
use Rattle.pr_truss.specs.declared.stages.FreeingStep.TheVariants.{OpenControl}
use Rattle.pr_truss.specs.declared.stages.Stage.TheVariants.{ReadingText, OpeningChildControl, Running, FreeingChild}
use Rattle.pr_report_laws.proofs.Replies.Elsewhere.{IsAside, IsElsewhere}
use Rattle.pr_report_laws.proofs.Replies.NextStages.{all-none, opens, reported, shown-all}
use Rattle.pr_report_laws.proofs.Invariant.Standing.{has_read}
use Rattle.pr_report_laws.specs.Shown.{LwpEvent, event_reported, shown}
use Rattle.pr_report_laws.specs.Watching.{is_away, place_of}

-- What truss comes to once it has looked at a stop of a process: it has read that stop and runs the process next or
-- later, or it leaves the process. It has to do with no other one.

-- ---- what is shown

-- what an event that is reported adds to what is shown of a process
shown-more : (pid : ℕ) (rs : List Report) (r : Report)
    → reported pid (rs ++ r ∷ []) ≡ reported pid rs ++ reported pid (r ∷ [])
unfolding reported
shown-more pid rs r = filter_map-append (event_reported pid) rs (r ∷ [])

-- its own one
event-own : (pid of : ℕ) (l : LwpStatus) (text : Came) (e : Event) → of ≡ pid → event_of l ≡ Some e
    → reported pid (Reported of l text ∷ []) ≡ record { id = l.id; event = e } ∷ []
unfolding reported event_reported
event-own pid of l text e own tells = rw (eq-eqb of pid own, tells) refl

pub reported-own : (pid of : ℕ) (l : LwpStatus) (text : Came) (rs : List Report) (e : Event) → of ≡ pid
    → event_of l ≡ Some e
    → reported pid (rs ++ Reported of l text ∷ []) ≡ reported pid rs ++ record { id = l.id; event = e } ∷ []
reported-own pid of l text rs e own tells =
    shown-more pid rs (Reported of l text)
    ∙ ap (λ (xs : List LwpEvent). reported pid rs ++ xs) (event-own pid of l text e own tells)

-- the text that was read for an event is no part of what is shown of it
text-apart : (pid of : ℕ) (l : LwpStatus) (one two : Came)
    → reported pid (Reported of l one ∷ []) ≡ reported pid (Reported of l two ∷ [])
unfolding reported event_reported
text-apart pid of l one two = refl

pub reported-text : (pid of : ℕ) (l : LwpStatus) (one two : Came) (rs : List Report)
    → reported pid (rs ++ Reported of l one ∷ []) ≡ reported pid (rs ++ Reported of l two ∷ [])
reported-text pid of l one two rs =
    shown-more pid rs (Reported of l one)
    ∙ ap (λ (xs : List LwpEvent). reported pid rs ++ xs) (text-apart pid of l one two)
    ∙ sym (shown-more pid rs (Reported of l two))

-- at a step that reads no memory
pub shown-none : (pid : ℕ) (t : TrussState) → pending_at t t.stage ≡ [] → shown pid t ≡ reported pid t.reports
shown-none pid t none = shown-all pid t ∙ ap (reported pid) (all-none t none ∙ append-nil t.reports)

-- at one that does
pub shown-text : (pid : ℕ) (t : TrussState) (place from len : ℕ) (l : LwpStatus)
    → t.stage ≡ ReadingText place l from len
    → shown pid t ≡ reported pid (t.reports ++ Reported (traced_at t place).pid l None ∷ [])
unfolding shown reported all_reports
shown-text pid t place from len l is =
    ap (λ (rs : List Report). filter_map (event_reported pid) (t.reports ++ rs)) (ap (pending_at t) is)

-- ---- a stop is over

pub record StopOver (t : TrussState) (at : ℕ) (u : TrussState) : Type 0 where
  pub places : (pid : ℕ) → place_of u pid ≡ place_of t pid
  pub same : (other : ℕ) → other ≢ at → traced_at u other ≡ traced_at t other
  pub attached : (traced_at u at).attached ≡ (traced_at t at).attached
  pub read : is_away u.leaving u.stage at ≡ false → has_read u.stage at ≡ true
  pub left : t.leaving ≡ true → is_away u.leaving u.stage at ≡ true
  pub aside : (other : ℕ) → other ≢ at → IsAside u.leaving u.stage other
  pub opens : opens u.stage ≡ false

same-self : (n : ℕ) → (n == n) ≡ true
same-self n = eq-eqb n n refl

not-at : (at other : ℕ) → other ≢ at → (at == other) ≡ false
not-at at other apart_from = ne_eqb at other (λ same. apart_from (sym same))

module _ (t : TrussState) (at : ℕ) where
  pub closing-over : StopOver t at (with_closing t at)
  closing-over = record {
    places = λ pid. refl;
    same = λ other apart_from. refl;
    attached = refl;
    read = λ stays. absurd (false≢true (sym stays ∙ same-self at));
    left = λ leaving. same-self at;
    aside = λ other apart_from. record { here = not-at at other apart_from; read = refl; named = refl };
    opens = refl;
  }

  running-over : t.leaving ≡ false → StopOver t at (with_stage t (Running at))
  running-over stays = record {
    places = λ pid. refl;
    same = λ other apart_from. refl;
    attached = refl;
    read = λ here. same-self at;
    left = λ leaving. absurd (false≢true (sym stays ∙ leaving));
    aside = λ other apart_from. record { here = refl; read = not-at at other apart_from; named = refl };
    opens = refl;
  }

  child-over : (child : ℕ) → t.leaving ≡ false → StopOver t at (with_stage t (OpeningChildControl at child))
  child-over child stays = record {
    places = λ pid. refl;
    same = λ other apart_from. refl;
    attached = refl;
    read = λ here. same-self at;
    left = λ leaving. absurd (false≢true (sym stays ∙ leaving));
    aside = λ other apart_from. record { here = refl; read = not-at at other apart_from; named = refl };
    opens = refl;
  }

  -- while truss leaves, it is about the first process
  freeing-over : (child : ℕ) → at ≡ 0 → StopOver t at (with_stage t (FreeingChild child OpenControl))
  freeing-over child first = record {
    places = λ pid. refl;
    same = λ other apart_from. refl;
    attached = refl;
    read = λ stays. absurd (false≢true (sym stays ∙ eq-eqb at 0 first));
    left = λ leaving. eq-eqb at 0 first;
    aside =
        λ other apart_from. record {
          here = ne_eqb other 0 (λ same. apart_from (same ∙ sym first));
          read = refl;
          named = refl;
        };
    opens = refl;
  }

  -- the memory is read that the line of an event asks for
  pub text-over : (l : LwpStatus) (from len : ℕ) → StopOver t at (with_stage t (ReadingText at l from len))
  text-over l from len = record {
    places = λ pid. refl;
    same = λ other apart_from. refl;
    attached = refl;
    read = λ stays. same-self at;
    left = λ leaving. and_from t.leaving (at == at) leaving (same-self at);
    aside =
        λ other apart_from. record {
          here = and_right t.leaving (at == other) (not-at at other apart_from);
          read = not-at at other apart_from;
          named = refl;
        };
    opens = refl;
  }

  -- ---- an event was looked at

  module _ (first : t.leaving ≡ true → at ≡ 0) where
    pub stop_over-over : StopOver t at (with_stop_over t at)
    unfolding with_stop_over
    stop_over-over = by t.leaving refl
      where
        by : (b : Bool) → t.leaving ≡ b → StopOver t at (cond b (with_closing t at) (with_stage t (Running at)))
        by true leaving = closing-over
        by false stays = running-over stays

    child_or-over : (o : Option ℕ) → StopOver t at (with_child_or t at o)
    child_or-over None = stop_over-over
    child_or-over (Some child) = by t.leaving refl
      where
        by : (b : Bool) → t.leaving ≡ b
            → StopOver t at (with_stage t (cond b (FreeingChild child OpenControl) (OpeningChildControl at child)))
        by true leaving = freeing-over child (first leaving)
        by false stays = child-over child stays

    pub event_over-over : (l : LwpStatus) → StopOver t at (with_event_over t at l)
    unfolding with_event_over
    event_over-over l = child_or-over (followed_child t.options l)

  -- of the process itself as many old stops are left as were

  pub stop_over-left : (traced_at (with_stop_over t at) at).old ≡ (traced_at t at).old
  unfolding with_stop_over
  stop_over-left =
      elim t.leaving as
      (λ b. (traced_at (cond b (with_closing t at) (with_stage t (Running at))) at).old ≡ (traced_at t at).old) [
        | true ↦ refl
        | false ↦ refl
      ]

  child_or-left : (o : Option ℕ) → (traced_at (with_child_or t at o) at).old ≡ (traced_at t at).old
  child_or-left None = stop_over-left
  child_or-left (Some child) = refl

  pub event_over-left : (l : LwpStatus) → (traced_at (with_event_over t at l) at).old ≡ (traced_at t at).old
  unfolding with_event_over
  event_over-left l = child_or-left (followed_child t.options l)

-- the other processes, after a change of the process at that place
pub over-elsewhere : (t w u : TrussState) (at : ℕ) → ((pid : ℕ) → place_of w pid ≡ place_of t pid)
    → ((other : ℕ) → other ≢ at → traced_at w other ≡ traced_at t other) → StopOver w at u → IsElsewhere t u at
over-elsewhere t w u at places same c = record {
  places = λ pid. c.places pid ∙ places pid;
  same = λ other apart_from. c.same other apart_from ∙ same other apart_from;
  here = λ other apart_from on. let aside = c.aside other apart_from in aside.here;
  read = λ other apart_from. let aside = c.aside other apart_from in aside.read;
  named = λ other apart_from. let aside = c.aside other apart_from in aside.named;
  opens = c.opens;
}

-- where the step that led there was about that process alone
pub over-others : (t u : TrussState) (at : ℕ) → StopOver t at u → IsElsewhere t u at
over-others t u at c = over-elsewhere t t u at (λ pid. refl) (λ other apart_from. refl) c
