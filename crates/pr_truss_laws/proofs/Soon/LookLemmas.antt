use Rattle.std.proofs.Common.{◌≡◌, ◌==◌, ◌-◌, ◌<◌, ℕ, Bool, true, false, nat_lt, not, cond, Option, Some, None, List, length, refl, sym, subst, ◌∙◌}
use Rattle.std.proofs.lemmas.Bool.{false≢true, eqb-true, eqb-false}
use Rattle.std.proofs.lemmas.List.{get_or-set_other, length-set}
use Rattle.std.specs.List.{slice_set}
use Rattle.pr_line.specs.ArgumentTexts.{Came}
use Rattle.pr_line.specs.Events.{event_of}
use Rattle.pr_line.specs.Selections.{is_selected}
use Rattle.pr_line.specs.declared.events.Event.{Event}
use Rattle.pr_rec.specs.declared.lwps.LwpStatus.{LwpStatus}
use Rattle.pr_truss.specs.Records.{is_on_event}
use Rattle.pr_truss.specs.Stops.{asked_range, followed_child, with_child_or, with_event, with_event_over, with_event_shown, with_old_stop_over, with_stop, with_stop_over, with_stop_read, with_text_or_shown}
use Rattle.pr_truss.specs.Trusses.{TrussState, nobody, traced_at, with_report, with_stage, with_traced}
use Rattle.pr_truss.specs.declared.processes.Traced.{Traced}
use Rattle.pr_truss.specs.declared.reports.Report.{Report}
use Rattle.pr_truss.specs.declared.stages.FreeingStep.TheVariants.{OpenControl}
use Rattle.pr_truss.specs.declared.stages.Stage.TheVariants.{ReadingText, OpeningChildControl, FreeingChild}
use Rattle.pr_truss_laws.proofs.Files.HeldLemmas.{at_place, set-at}

-- What truss may do next when it has looked at a stop of a process.

-- ---- states that differ little

-- the same process, with the files that it had
pub record SameFiles (t u : Traced) : Type 0 where
  pub pid : u.pid ≡ t.pid
  pub control : u.control ≡ t.control
  pub status : u.status ≡ t.status
  pub lstatus : u.lstatus ≡ t.lstatus
  pub memory : u.memory ≡ t.memory

pub same-files : (t : Traced) → SameFiles t t
same-files t = record { pid = refl; control = refl; status = refl; lstatus = refl; memory = refl }

pub same-files-both : (t u v : Traced) → SameFiles t u → SameFiles u v → SameFiles t v
same-files-both t u v p q = record {
  pid = q.pid ∙ p.pid;
  control = q.control ∙ p.control;
  status = q.status ∙ p.status;
  lstatus = q.lstatus ∙ p.lstatus;
  memory = q.memory ∙ p.memory;
}

-- what one process becomes holds of each, where it held
pub set-each : (P : ℕ → Traced → Type 0) (ts : List Traced) (place : ℕ) (t : Traced) → place < length ts
    → ((k : ℕ) → P k (at_place ts k)) → P place t → (k : ℕ) → P k (at_place (slice_set ts place t) k)
set-each P ts place t within all this k = by (k == place) refl
  where
    by : (b : Bool) → (k == place) ≡ b → P k (at_place (slice_set ts place t) k)
    by true is =
        subst (λ n. P n (at_place (slice_set ts place t) n)) (sym (eqb-true k place is))
        (subst (P place) (sym (set-at ts place t within)) this)
    by false is = subst (P k) (sym (get_or-set_other ts place k t nobody (eqb-false k place is))) (all k)

-- The same processes stand at the same places with the same files, and were looked at before alike.
pub record Alike (s u : TrussState) : Type 0 where
  pub leaving : u.leaving ≡ s.leaving
  pub count : length u.traced ≡ length s.traced
  pub files : (k : ℕ) → SameFiles (traced_at s k) (traced_at u k)
  pub seen : (k : ℕ) → (traced_at u k).seen ≡ (traced_at s k).seen

pub alike-self : (s : TrussState) → Alike s s
alike-self s = record { leaving = refl; count = refl; files = λ k. same-files (traced_at s k); seen = λ k. refl }

pub alike-reported : (s u : TrussState) (report : Report) → Alike s u → Alike s (with_report u report)
alike-reported s u report a = record { leaving = a.leaving; count = a.count; files = a.files; seen = a.seen }

pub alike-shown : (s u : TrussState) (place : ℕ) (l : LwpStatus) (text : Came) → Alike s u
    → Alike s (with_event_shown u place l text)
unfolding with_event_shown
alike-shown s u place l text a = alike-reported s u _ a

-- one old stop less
alike-old : (s : TrussState) (place : ℕ) → place < length s.traced
    → Alike s (with_traced s place (record (traced_at s place) { old = (traced_at s place).old - 1 }))
alike-old s place within =
    let t : Traced = record (traced_at s place) { old = (traced_at s place).old - 1 } in
    record {
      leaving = refl;
      count = length-set s.traced place t;
      files =
          set-each (λ k. SameFiles (traced_at s k)) s.traced place t within (λ k. same-files (traced_at s k)) (record {
            pid = refl;
            control = refl;
            status = refl;
            lstatus = refl;
            memory = refl;
          });
      seen = set-each (λ k v. v.seen ≡ (traced_at s k).seen) s.traced place t within (λ k. refl) refl;
    }

-- ---- what comes after a look

-- What is so of each state that comes when a stop of this process is over.
module _ (Q : TrussState → Type 0) (s : TrussState) (place : ℕ)
    (over : (u : TrussState) → Alike s u → Q (with_stop_over u place)) where
  either : (c : Bool) (u v : TrussState) → Q u → Q v → Q (cond c u v)
  either true u v p q = p
  either false u v p q = q

  seen-first : (c : Bool) (u v : TrussState) → c ≡ true → Q u → Q (cond c u v)
  seen-first true u v is p = p
  seen-first false u v is p = absurd (false≢true is)

  -- an old stop, and one that is no event, is over
  looked : place < length s.traced → (l : LwpStatus)
      → Q (cond (traced_at s place).seen (with_stop_over s place) (with_event s place l (event_of l)))
      → Q (with_stop s place l)
  unfolding with_stop with_old_stop_over
  looked within l first =
      either (not (is_on_event l)) (with_stop_over s place) _ (over s (alike-self s))
      (either (nat_lt 0 (traced_at s place).old) (with_old_stop_over s place) _
      (over _ (alike-old s place within)) first)

  -- so is a stop that was looked at before
  pub seen-over : place < length s.traced → (traced_at s place).seen ≡ true → (l : Option LwpStatus)
      → Q (with_stop_read s place l)
  seen-over within seen None = over s (alike-self s)
  seen-over within seen (Some l) =
      looked within l
      (seen-first (traced_at s place).seen (with_stop_over s place) (with_event s place l (event_of l)) seen
      (over s (alike-self s)))

  -- or else a child may be opened or set free
  module _
      (child : (u : TrussState) (c : ℕ) → Alike s u → Q
      (with_stage u (cond u.leaving (FreeingChild c OpenControl) (OpeningChildControl place c)))) where
    child-or : (u : TrussState) → Alike s u → (c : Option ℕ) → Q (with_child_or u place c)
    child-or u a None = over u a
    child-or u a (Some c) = child u c a

    pub event-over : (u : TrussState) (l : LwpStatus) → Alike s u → Q (with_event_over u place l)
    unfolding with_event_over
    event-over u l a = child-or u a (followed_child u.options l)

    -- or the memory read that its event asks for
    module _
        (text : (u : TrussState) (l : LwpStatus) (at len : ℕ) → Alike s u → Q
        (with_stage u (ReadingText place l at len))) where
      text-or : (l : LwpStatus) → (range : Option (ℕ × ℕ)) → Q (with_text_or_shown s place l range)
      text-or l None = event-over (with_event_shown s place l None) l (alike-shown s s place l None (alike-self s))
      text-or l (Some range) = text s l range.0 range.1 (alike-self s)

      event : (l : LwpStatus) → (e : Option Event) → Q (with_event s place l e)
      event l None = over s (alike-self s)
      event l (Some e) =
          either (is_selected s.options e) (with_text_or_shown s place l (asked_range s.options e))
          (with_event_over s place l) (text-or l (asked_range s.options e)) (event-over s l (alike-self s))

      pub stop-read : place < length s.traced → (l : Option LwpStatus) → Q (with_stop_read s place l)
      stop-read within None = over s (alike-self s)
      stop-read within (Some l) =
          looked within l
          (either (traced_at s place).seen (with_stop_over s place) (with_event s place l (event_of l))
          (over s (alike-self s)) (event l (event_of l)))
