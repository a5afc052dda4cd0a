use Rattle.std.proofs.Common.{◌≡◌, ◌≢◌, ◌<◌, ◌-◌, ℕ, Bool, true, false, cond, Option, Some, None}
use Rattle.std.proofs.Common.{List, length, refl, sym, subst, ap, ◌∙◌, inl, inr}
use Rattle.std.proofs.lemmas.Bool.{cases_eq}
use Rattle.std.proofs.lemmas.List.{get_or-set_other, length-set}
use Rattle.std.specs.List.{slice_get, slice_set}
use Rattle.pr_function_laws.proofs.NextCalls.EventCalls.{event-over-is, stale-stop}
use Rattle.pr_line.specs.Events.{event_of}
use Rattle.pr_line.specs.Selections.{is_selected}
use Rattle.pr_line.specs.declared.events.Event.{Event}
use Rattle.pr_model.specs.Replies.{bytes_in}
use Rattle.pr_model.specs.declared.calls.Reply.{Reply}
use Rattle.pr_rec.specs.declared.lwps.LwpStatus.{LwpStatus}
use Rattle.pr_truss.specs.Asides.{marks_at}
use Rattle.pr_truss.specs.Closings.{with_closing}
use Rattle.pr_truss.specs.FunctionEvents.{fresh_event, function_event}
use Rattle.pr_truss.specs.Marks.{first_function, no_functions, no_marks, without_function}
use Rattle.pr_truss.specs.Records.{event_stops}
use Rattle.pr_truss.specs.Replies.{answer_of}
use Rattle.pr_truss.specs.Stops.{asked_range, with_event, with_event_over, with_event_shown}
use Rattle.pr_truss.specs.Stops.{with_old_stop_over, with_stop, with_stop_over}
use Rattle.pr_truss.specs.Stops.{with_text_or_shown}
use Rattle.pr_truss.specs.Trusses.{TrussState, nobody, traced_at, with_stage, with_traced}
use Rattle.pr_truss.specs.declared.asides.Aside.TheVariants.{Asking, AwaitingAgain, AwaitingStop, Nothing, Patching}
use Rattle.pr_truss.specs.declared.function_events.FunctionEvent.TheVariants.{Replaced}
use Rattle.pr_truss.specs.declared.processes.Traced.{Traced}
use Rattle.pr_truss.specs.declared.replies.Answer.TheVariants.{Accepted}
use Rattle.pr_truss.specs.declared.stages.AfterClosing.TheVariants.{GoOn}
use Rattle.pr_truss.specs.declared.stages.Stage.{Stage}
use Rattle.pr_truss.specs.declared.stages.Stage.TheVariants.{Closing, Finished}
use Rattle.pr_truss.specs.declared.stages.Stage.TheVariants.{ReadingLwps, ReadingText, Running}
use Rattle.pr_truss.specs.declared.stages.Stage.TheVariants.{Unfollowing}
use Rattle.pr_truss_laws.proofs.Files.HeldLemmas.{at_place, set-at}
use Rattle.pr_truss_laws.proofs.Soon.LookLemmas.{SameFiles, same-files, same-files-both}

-- Where a truss stands that leaves its processes: what it does next for the first of them, and what it comes to where
-- it is shown a stop of that one, or an event of it.

-- ---- where it stands

-- what a truss that leaves does next for the first process, or that it has finished
pub data IsLeft (t : TrussState) : Type 0 where
  halts : t.stage ≡ Unfollowing → t.aside ≡ Nothing → 0 < length t.traced → IsLeft t
  awaits : (until : ℕ) → t.stage ≡ ReadingLwps → t.aside ≡ AwaitingStop until → 0 < length t.traced → IsLeft t
  asks : t.stage ≡ ReadingLwps → t.aside ≡ Asking → 0 < length t.traced → IsLeft t
  waits_again : (until : ℕ) → t.stage ≡ ReadingLwps → t.aside ≡ AwaitingAgain until → 0 < length t.traced → IsLeft t
  looks : t.stage ≡ ReadingLwps → t.aside ≡ Nothing → 0 < length t.traced → IsLeft t
  reads_text : (l : LwpStatus) (from len : ℕ) → t.stage ≡ ReadingText 0 l from len → t.aside ≡ Nothing
      → 0 < length t.traced → IsLeft t
  lifts_all : (clear : Bool) → t.stage ≡ Closing 0 GoOn
      → t.aside ≡ Patching 0 no_functions (marks_at t 0).planted clear → 0 < length t.traced → IsLeft t
  closes_files : t.stage ≡ Closing 0 GoOn → t.aside ≡ Nothing → 0 < length t.traced → IsLeft t
  has_ended : t.stage ≡ Finished → t.aside ≡ Nothing → IsLeft t

-- whether truss that leaves has looked at the first process
abbrev pub is_looked : Stage → Bool
is_looked (Closing q next) = true
is_looked (ReadingText q l from len) = true
is_looked stage = false

-- it has not looked at the process at a place
abbrev pub IsUnlooked : Stage → ℕ → Type 0
IsUnlooked stage q = is_looked stage ≡ true → q ≢ 0

-- its look at the lwps of the first process tells that the memory of that was replaced, or that a child has it too
pub record TellsLast (t : TrussState) (r : Reply) : Type 0 where
  pub reads : t.stage ≡ ReadingLwps
  pub idle : t.aside ≡ Nothing
  pub accepted : answer_of r ≡ Accepted
  pub l : LwpStatus
  pub told : slice_get (event_stops (bytes_in r)) 0 ≡ Some l
  pub event : Event
  pub fresh : fresh_event (traced_at t 0) l ≡ Some event
  pub replaced : function_event t.options (marks_at t 0) l.id event ≡ Replaced

-- what a lift leaves planted
abbrev pub lifted_after : List Bool → Option ℕ → List Bool
lifted_after planted None = planted
lifted_after planted (Some function) = without_function planted function

abbrev pub with_no_marks : Traced → Traced
with_no_marks v = record v { marks = no_marks }

abbrev pub with_fewer : Traced → Traced
with_fewer v =
    record v { marks = record v.marks { planted = lifted_after v.marks.planted (first_function v.marks.planted) } }

-- ---- the same processes, attached as before, with the same files and marks; but for the first, with as many old
-- stops, and seen as before

same-at : (u v : Traced) → v ≡ u → SameFiles u v
same-at u v is = subst (SameFiles u) (sym is) (same-files u)

pub record Alike (u v : TrussState) : Type 0 where
  pub many : length v.traced ≡ length u.traced
  pub files : (i : ℕ) → SameFiles (traced_at u i) (traced_at v i)
  pub marks : (i : ℕ) → marks_at v i ≡ marks_at u i
  pub attached : (i : ℕ) → (traced_at v i).attached ≡ (traced_at u i).attached
  pub olds : (i : ℕ) → i ≢ 0 → (traced_at v i).old ≡ (traced_at u i).old
  pub seens : (i : ℕ) → i ≢ 0 → (traced_at v i).seen ≡ (traced_at u i).seen
  pub leaving : v.leaving ≡ u.leaving
  pub options : v.options ≡ u.options

pub alike-same : (u v : TrussState) → v.traced ≡ u.traced → v.leaving ≡ u.leaving → v.options ≡ u.options → Alike u v
alike-same u v traced leaving options = record {
  many = ap (λ (ts : List Traced). length ts) traced;
  files = λ i. same-at (traced_at u i) (traced_at v i) (ap (λ (ts : List Traced). at_place ts i) traced);
  marks = λ i. ap (λ (ts : List Traced). (at_place ts i).marks) traced;
  attached = λ i. ap (λ (ts : List Traced). (at_place ts i).attached) traced;
  olds = λ i other. ap (λ (ts : List Traced). (at_place ts i).old) traced;
  seens = λ i other. ap (λ (ts : List Traced). (at_place ts i).seen) traced;
  leaving = leaving;
  options = options;
}

pub alike-join : (u v w : TrussState) → Alike u v → Alike v w → Alike u w
alike-join u v w a b = record {
  many = b.many ∙ a.many;
  files = λ i. same-files-both (traced_at u i) (traced_at v i) (traced_at w i) (a.files i) (b.files i);
  marks = λ i. b.marks i ∙ a.marks i;
  attached = λ i. b.attached i ∙ a.attached i;
  olds = λ i other. b.olds i other ∙ a.olds i other;
  seens = λ i other. b.seens i other ∙ a.seens i other;
  leaving = b.leaving ∙ a.leaving;
  options = b.options ∙ a.options;
}

-- one process becomes another record of it
pub set-field : {A : Type 0} (u : TrussState) (q : ℕ) (t : Traced) (f : Traced → A) → q < length u.traced
    → f t ≡ f (traced_at u q) → (i : ℕ) → f (at_place (slice_set u.traced q t) i) ≡ f (traced_at u i)
set-field u q t f within same i = elim (cases_eq i q) [
  | inl is ↦
      ap f (ap (at_place (slice_set u.traced q t)) is ∙ set-at u.traced q t within)
      ∙ same ∙ ap (λ n. f (at_place u.traced n)) (sym is)
  | inr apart ↦ ap f (get_or-set_other u.traced q i t nobody apart)
]

-- the first process becomes another with the same files and marks
pub alike-set : (u : TrussState) (t : Traced) → 0 < length u.traced → SameFiles (traced_at u 0) t
    → t.marks ≡ marks_at u 0 → t.attached ≡ (traced_at u 0).attached → Alike u (with_traced u 0 t)
alike-set u t within same marks attached = record {
  many = length-set u.traced 0 t;
  files = λ i. elim (cases_eq i 0) [
    | inl is ↦
        subst (λ n. SameFiles (at_place u.traced n) (at_place (slice_set u.traced 0 t) n)) (sym is)
        (subst (SameFiles (traced_at u 0)) (sym (set-at u.traced 0 t within)) same)
    | inr apart ↦ same-at _ _ (get_or-set_other u.traced 0 i t nobody apart)
  ];
  marks = set-field u 0 t (λ (x : Traced). x.marks) within marks;
  attached = set-field u 0 t (λ (x : Traced). x.attached) within attached;
  olds = λ i apart. ap (λ (x : Traced). x.old) (get_or-set_other u.traced 0 i t nobody apart);
  seens = λ i apart. ap (λ (x : Traced). x.seen) (get_or-set_other u.traced 0 i t nobody apart);
  leaving = refl;
  options = refl;
}

-- ---- a stop, where truss leaves

-- it has done with the stop, and closes the files of the process
pub record Over (u v : TrussState) : Type 0 where
  pub alike : Alike u v
  pub at : v.stage ≡ Closing 0 GoOn
  pub beside : v.aside ≡ u.aside

-- or it reads memory for the line of an event before that
pub data Looked (u v : TrussState) : Type 0 where
  over : Over u v → Looked u v
  text : (l : LwpStatus) (from len : ℕ) → Alike u v → v.stage ≡ ReadingText 0 l from len → v.aside ≡ u.aside
      → Looked u v

pub over-join : (u v w : TrussState) → Alike u v → v.aside ≡ u.aside → Over v w → Over u w
over-join u v w a aside o = record {
  alike = alike-join u v w a o.alike;
  at = o.at;
  beside = o.beside ∙ aside;
}

pub looked-join : (u v w : TrussState) → Alike u v → v.aside ≡ u.aside → Looked v w → Looked u w
looked-join u v w a aside (over o) = over (over-join u v w a aside o)
looked-join u v w a aside (text l from len b at beside) =
    text l from len (alike-join u v w a b) at (beside ∙ aside)

pub choose : (u : TrussState) (b : Bool) (v w : TrussState) → Looked u v → Looked u w → Looked u (cond b v w)
choose u true v w x y = x
choose u false v w x y = y

module _ (u : TrussState) (on : u.leaving ≡ true) (follow : u.options.follow ≡ false) where
  pub closing-over : Over u (with_closing u 0)
  closing-over = record { alike = alike-same u _ refl refl refl; at = refl; beside = refl }

  pub stop-over : Over u (with_stop_over u 0)
  unfolding with_stop_over
  stop-over = subst (Over u) (sym (ap (λ b. cond b (with_closing u 0) (with_stage u (Running 0))) on)) closing-over

  pub event-over : (l : LwpStatus) → Over u (with_event_over u 0 l)
  event-over l = subst (Over u) (sym (event-over-is u 0 l follow)) stop-over

module _ (u : TrussState) (on : u.leaving ≡ true) (follow : u.options.follow ≡ false) (l : LwpStatus)
    (within : 0 < length u.traced) where
  pub shown-looked : (range : Option (ℕ × ℕ)) → Looked u (with_text_or_shown u 0 l range)
  unfolding with_event_shown
  shown-looked None =
      let v : TrussState = with_event_shown u 0 l None in
      over (over-join u v _ (alike-same u v refl refl refl) refl (event-over v on follow l))
  shown-looked (Some range) = text l range.0 range.1 (alike-same u _ refl refl refl) refl refl

  pub event-looked : (e : Option Event) → Looked u (with_event u 0 l e)
  event-looked None = over (stop-over u on follow)
  event-looked (Some e) =
      choose u (is_selected u.options e) _ _ (shown-looked (asked_range u.options e)) (over (event-over u on follow l))

  pub old-over : Over u (with_old_stop_over u 0)
  unfolding with_old_stop_over
  old-over =
      let t : Traced = record (traced_at u 0) { old = (traced_at u 0).old - 1 } in
      over-join u (with_traced u 0 t) _
      (alike-set u t within
      (record { pid = refl; control = refl; status = refl; lstatus = refl; memory = refl }) refl refl) refl
      (stop-over (with_traced u 0 t) on follow)

  pub stop-looked : Looked u (with_stop u 0 l)
  unfolding with_stop
  stop-looked =
      choose u _ _ _ (over (stop-over u on follow))
      (choose u _ _ _ (over old-over) (choose u _ _ _ (over (stop-over u on follow)) (event-looked (event_of l))))

  pub stale-over : fresh_event (traced_at u 0) l ≡ None → Over u (with_stop u 0 l)
  stale-over stale = stale-stop (Over u) u 0 l stale (stop-over u on follow) old-over
