use Rattle.std.proofs.Common.{◌≡◌, ◌≢◌, ◌<◌, ◌||◌, ℕ, zero, suc, Bool, true, false, cond, is_some, Option, Some, None, List, [], ◌∷◌, ◌++◌, length, refl, sym, subst, ap, ◌∙◌, arith}
use Rattle.std.proofs.lemmas.List.{get_or_push}
use Rattle.std.specs.List.{remove, slice_get, slice_set}
use Rattle.pr_line.specs.declared.options.Options.{Options}
use Rattle.pr_model.specs.Replies.{handle_in}
use Rattle.pr_model.specs.declared.calls.Reply.{Reply}
use Rattle.pr_report_laws.proofs.Invariant.StandLemmas.{Each, EachBut, each-append, each-but, each-join, each-remove, each-set}
use Rattle.pr_truss.specs.Asides.{patching}
use Rattle.pr_truss.specs.FunctionFeeding.{fed_functions}
use Rattle.pr_truss.specs.Marks.{first_function, has_functions}
use Rattle.pr_truss.specs.Openings.{learnt}
use Rattle.pr_truss.specs.Processes.{newly_traced, without_last}
use Rattle.pr_truss.specs.Replies.{answer_of}
use Rattle.pr_truss.specs.Trusses.{TrussState, first_of_program, first_truss, idle, nobody, opening_or, traced_at}
use Rattle.pr_truss.specs.declared.asides.Aside.{Aside}
use Rattle.pr_truss.specs.declared.asides.Aside.TheVariants.{Nothing, Patching}
use Rattle.pr_truss.specs.declared.marks.Marks.{Marks}
use Rattle.pr_truss.specs.declared.processes.Traced.{Traced}
use Rattle.pr_truss.specs.declared.replies.Answer.TheVariants.{Accepted, Interrupted}
use Rattle.pr_truss.specs.declared.stages.Stage.{Stage}
use Rattle.pr_truss.specs.declared.stages.Stage.TheVariants.{Spawning, OpeningControl, Opening, Closing, Finished}
use Rattle.pr_truss_laws.proofs.Files.HeldLemmas.{at_place}
pub use Rattle.pr_truss_laws.proofs.Soon.LookLemmas.{SameFiles}
use Rattle.pr_function_laws.proofs.Marks.KeptPlaces.{Apart, apart-append, apart-at, apart-remove, apart-set}
use Rattle.pr_function_hides.proofs.Replies.FunctionSteps.{Becomes, Before, Edits, Keeps, Makes, becomes, become-pid, counts, fed-makes, keeps, learns, loses, makes, meets, nothing, opens, patches_one, patches_next, plants_first, reads, removes, runs, writes}
use Rattle.pr_function_hides.proofs.Replies.OwnFiles.{IsBeside, IsWithin}

-- A truss with functions that follows no children and was not interrupted does not leave its processes, what it does
-- next it does for one that it traces, and what is so of the files of each stays so.

-- ---- the same files

pub same-join : (u v w : Traced) → SameFiles u v → SameFiles v w → SameFiles u w
same-join u v w a b = record {
  pid = b.pid ∙ a.pid;
  control = b.control ∙ a.control;
  status = b.status ∙ a.status;
  lstatus = b.lstatus ∙ a.lstatus;
  memory = b.memory ∙ a.memory;
}

-- with other marks, or fewer stops to come that stood before
remarked : (u : Traced) (m : Marks) (old : ℕ) → SameFiles u (record u { marks = m; old = old })
remarked u m old = record { pid = refl; control = refl; status = refl; lstatus = refl; memory = refl }

-- ---- processes with ids of their own

abbrev pub AreApart : List Traced → Type 0
AreApart ts = (i j : ℕ) → i < length ts → j < length ts → i ≢ j → (at_place ts i).pid ≢ (at_place ts j).pid

pub apart-of : (ts : List Traced) → AreApart ts → Apart ts
apart-of [] a = tt
apart-of (u ∷ us) a = (
  λ j inside. a (suc j) zero (omega (arith, inside)) (omega arith) (λ is. omega (arith, is)),
  apart-of us (λ i j one two other.
      a (suc i) (suc j) (omega (arith, one)) (omega (arith, two)) (λ is. other (omega (arith, is)))),
)

-- one process becomes another of the same id, one more is there, or one less
pub set-apart : (ts : List Traced) (q : ℕ) (v : Traced) → q < length ts → v.pid ≡ (at_place ts q).pid → AreApart ts
    → AreApart (slice_set ts q v)
set-apart ts q v within same apart i j one two other =
    apart-at (slice_set ts q v) i j one two other (apart-set ts q v within same (apart-of ts apart))

append-apart : (ts : List Traced) (v : Traced) → Each (λ (u : Traced). u.pid ≢ v.pid) ts → AreApart ts
    → AreApart (ts ++ v ∷ [])
append-apart ts v fresh apart i j one two other =
    apart-at (ts ++ v ∷ []) i j one two other (apart-append ts v fresh (apart-of ts apart))

pub removed-apart : (ts : List Traced) (q : ℕ) → q < length ts → AreApart ts → AreApart (remove ts q)
removed-apart ts q within apart i j one two other =
    apart-at (remove ts q) i j one two other (apart-remove ts q within (apart-of ts apart))

-- ---- what truss has come to

patching-beside : (n q : ℕ) (plants lifts : List Bool) (clear : Bool) → q < n
    → IsBeside n (patching q plants lifts clear)
unfolding patching
patching-beside n q plants lifts clear within =
    elim (is_some (first_function plants) || is_some (first_function lifts) || clear)
    as (λ b. IsBeside n (cond b (Patching q plants lifts clear) Nothing)) [ true ↦ within | false ↦ tt ]

module _ (S : Traced → Type 0) (alike : (u v : Traced) → SameFiles u v → S u → S v) where
  pub record Under (v : TrussState) : Type 0 where
    pub off : v.leaving ≡ false
    pub follow : v.options.follow ≡ false
    pub stage : IsWithin (length v.traced) v.stage
    pub beside : IsBeside (length v.traced) v.aside
    pub each : Each S v.traced
    pub apart : AreApart v.traced

  -- what the call has made so, before truss takes its reply
  abbrev pub LeftFiles : Option Traced → Traced → Type 0
  LeftFiles None u = Unit {0}
  LeftFiles (Some v) u = S v

  abbrev pub AfterStage : TrussState → Reply → Stage → Type 0
  AfterStage t r (OpeningControl pid) =
      Each S t.traced × (answer_of r ≡ Accepted
      → S (newly_traced pid (handle_in r)) × ((i : ℕ) → i < length t.traced → (traced_at t i).pid ≢ pid))
  AfterStage t r (Opening q step) =
      EachBut S t.traced q × (S (traced_at t q) × (answer_of r ≡ Accepted → S (learnt (traced_at t q) r step)))
  AfterStage t r (Closing q next) =
      EachBut S t.traced q × LeftFiles (without_last (traced_at t q)) (traced_at t q)
  AfterStage t r stage = Each S t.traced

  abbrev pub AfterAt : TrussState → Reply → Aside → Stage → Type 0
  AfterAt t r Nothing stage = AfterStage t r stage
  AfterAt t r aside stage = Each S t.traced

  abbrev pub AfterAside : TrussState → Reply → Aside → Type 0
  AfterAside t r aside = AfterAt t r aside t.stage

  module _ (t : TrussState) (r : Reply) where
    keeps-files : (aside : Aside) (stage : Stage) → Keeps aside stage → AfterAt t r aside stage → Each S t.traced
    keeps-files Nothing (OpeningControl pid) fits w = w.0
    keeps-files Nothing (Opening q step) fits w = each-join S t.traced q w.0 w.1.0
    keeps-files Nothing (Closing q next) fits w = absurd fits
    keeps-files Nothing _ fits w = w
    keeps-files _ stage fits w = w

    -- a process with the same files, and all others
    like : (q : ℕ) (u : Traced) → q < length t.traced → SameFiles (traced_at t q) u → Each S t.traced
        → EachBut S t.traced q × S u
    like q u within same all = (each-but S t.traced q all, alike (traced_at t q) u same (all q within))

    become-files : (aside : Aside) (stage : Stage) (p : ℕ) (u : Traced) → p < length t.traced
        → Becomes t r aside stage p u → AfterAt t r aside stage → EachBut S t.traced p × S u
    become-files aside stage p u within (learns accepted) w = (w.0, w.1.1 accepted)
    become-files aside stage p u within (counts {q = q}) w = like q u within (remarked (traced_at t q) _ _) w
    become-files aside stage p u within (meets {q = q} tells) w = like q u within (remarked (traced_at t q) _ _) w
    become-files aside stage p u within (runs {q = q}) w = like q u within (remarked (traced_at t q) _ _) w
    become-files aside stage p u within (loses {q = q} is) w =
        (w.0, subst (λ v. LeftFiles v (traced_at t q)) is w.1)
    become-files aside stage p u within (plants_first {q = q} set) w = like q u within (remarked (traced_at t q) _ _) w
    become-files aside stage p u within (patches_one {q = q} set) w = like q u within (remarked (traced_at t q) _ _) w

    edits-files : (aside : Aside) (stage : Stage) (us : List Traced) → Edits t r aside stage us
        → AfterAt t r aside stage → AreApart t.traced → Each S us × AreApart us
    unfolding newly_traced
    edits-files aside stage us (keeps fits) w apart = (keeps-files aside stage fits w, apart)
    edits-files aside stage us (becomes {q = q} {u = u} within it) w apart =
        let x = become-files aside stage q u within it w in (
          each-set S t.traced q u within x.0 x.1,
          set-apart t.traced q u within (become-pid t r aside stage q u it) apart,
        )
    edits-files aside stage us (opens {pid = pid} accepted) w apart =
        let u : Traced = newly_traced pid (handle_in r) in
        let last : at_place (t.traced ++ u ∷ []) (length t.traced) ≡ u =
        get_or_push t.traced u nobody (length t.traced) refl in
        let so = w.1 accepted in
        (each-append S t.traced u w.0 (subst S (sym last) so.0), append-apart t.traced u so.1 apart)
    edits-files aside stage us (removes {q = q} within none) w apart =
        (each-remove S t.traced q within w.0, removed-apart t.traced q within apart)

    before-beside : (aside : Aside) (stage : Stage) (us : List Traced) (b : Aside) → Before t r aside stage us b
        → IsBeside (length us) b
    before-beside aside stage us b nothing = tt
    before-beside aside stage us b (reads there) = there.0
    before-beside aside stage us b (writes there accepted plants) = there.0
    before-beside aside stage us b (patches_next {q = q} {plants = plants} {lifts = lifts} clear there it) =
        patching-beside (length us) q plants lifts clear there.0

    steps-under : (v : TrussState) → Makes t r t.aside t.stage v → t.options.follow ≡ false → AfterAside t r t.aside
        → AreApart t.traced → Under v
    steps-under v (makes {us = us} {b = b} edits before s) follow w apart =
        let x = edits-files t.aside t.stage us edits w apart in
        record {
          off = s.off;
          follow = ap (λ (o : Options). o.follow) s.options ∙ follow;
          stage = subst (λ (ts : List Traced). IsWithin (length ts) v.stage) (sym s.traced) s.stage;
          beside =
              subst (λ (ts : List Traced). IsBeside (length ts) v.aside) (sym s.traced)
              (subst (IsBeside (length us)) (sym s.aside) (before-beside t.aside t.stage us b before));
          each = subst (Each S) (sym s.traced) x.0;
          apart = subst AreApart (sym s.traced) x.1;
        }

    pub fed-under : t.leaving ≡ false → t.options.follow ≡ false → IsWithin (length t.traced) t.stage
        → IsBeside (length t.traced) t.aside → AreApart t.traced → answer_of r ≢ Interrupted
        → has_functions t.options ≡ true → AfterAside t r t.aside → Under (fed_functions t r)
    fed-under off follow at_stage at_aside apart calm has w =
        steps-under (fed_functions t r) (fed-makes t r off follow at_stage at_aside calm has) follow w apart

  -- ---- before the first call

  nothing-each : (o : Options) → o.follow ≡ false → (stage : Stage) (begun : ℕ) → IsWithin 0 stage
      → Under (record (idle o) { stage = stage; begun = begun })
  nothing-each o follow stage begun within = record {
    off = refl;
    follow = follow;
    stage = within;
    beside = tt;
    each = λ q inside. absurd (omega (arith, inside));
    apart = λ i j one. absurd (omega (arith, one));
  }

  first-pid : (o : Options) → o.follow ≡ false → (pid : Option ℕ) → Under (opening_or (idle o) (idle o) pid)
  first-pid o follow None = nothing-each o follow Finished 0 tt
  first-pid o follow (Some pid) = nothing-each o follow (OpeningControl pid) _ tt

  first-program : (o : Options) → o.follow ≡ false → (program : Option (List ℕ)) → Under (first_of_program o program)
  first-program o follow None = first-pid o follow (slice_get o.pids 0)
  first-program o follow (Some program) = nothing-each o follow (Spawning program) 0 tt

  pub first-under-truss : (o : Options) → o.follow ≡ false → Under (first_truss o)
  unfolding first_truss
  first-under-truss o follow = first-program o follow o.program
