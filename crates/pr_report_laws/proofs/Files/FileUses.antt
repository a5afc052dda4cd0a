use Rattle.std.proofs.Common.{◌≡◌, ◌≢◌, ◌==◌, ◌<◌, ℕ, suc, Bool, true, false, cond, not, Option, Some, None, List, [], ◌∷◌, length, map, refl, sym, subst, ap, ◌∙◌, arith, inl, inr}
use Rattle.std.proofs.lemmas.Bool.{and_parts, cases_Bool, eq-eqb, eqb-true, false≢true, le-ltb}
use Rattle.std.proofs.lemmas.List.Quantifiers.{position-Some}
use Rattle.std.proofs.lemmas.List.Sums.{position_or_len_is}
use Rattle.std.proofs.lemmas.Option.{none-some, same_Some}
use Rattle.std.specs.List.{find, position, position_or_len, slice_index_or}
use Rattle.pr_model.specs.Handles.{handle_of}
use Rattle.pr_model.specs.Lawful.{AreExclusive}
use Rattle.pr_model.specs.Replies.{number_of}
use Rattle.pr_model.specs.State.{TracedState}
use Rattle.pr_model.specs.declared.calls.File.{File}
use Rattle.pr_model.specs.declared.calls.File.TheVariants as file
use Rattle.pr_model.specs.declared.calls.Mode.{Mode}
use Rattle.pr_model.specs.declared.calls.Mode.TheVariants.{Read, WriteExcl}
use Rattle.pr_model.specs.declared.handles.Held.{Held}
use Rattle.pr_rec.specs.declared.lwps.LwpStatus.{LwpStatus}
use Rattle.pr_truss.specs.Processes.{last_handle}
use Rattle.pr_truss.specs.Stops.{has_control}
use Rattle.pr_truss.specs.Trusses.{TrussState, nobody, traced_at}
use Rattle.pr_truss.specs.declared.marks.Marks.{Marks}
use Rattle.pr_truss.specs.declared.processes.Traced.{Traced}
use Rattle.pr_truss.specs.declared.stages.FreeingStep.{FreeingStep}
use Rattle.pr_truss.specs.declared.stages.FreeingStep.TheVariants as freeing
use Rattle.pr_truss.specs.declared.stages.OpeningStep.TheVariants as opening
use Rattle.pr_truss.specs.declared.stages.Stage.{Stage}
use Rattle.pr_truss.specs.declared.stages.Stage.TheVariants.{Opening, ReadingStatus, ReadingText, OpeningChildControl, OpeningChild, Running, Closing, Unfollowing, ReadingLwps, FreeingChild}
use Rattle.pr_truss_laws.proofs.Files.HeldLemmas.{Fits, at_place, of_stage}
use Rattle.pr_truss_laws.proofs.Files.OwnLemmas.{Owns}
use Rattle.pr_truss_laws.proofs.Replies.GoneLemmas.{IsNamed, its_control, its_last, its_lstatus, its_memory, its_status}
use Rattle.pr_report_laws.proofs.Files.FileLaws.{FileOf, HasFiles, IsFileOf, free-apart, has-each, is_closing, only-position}
use Rattle.pr_report_laws.proofs.Files.KeepLemmas.{FilesAre, FreedIs}
use Rattle.pr_report_laws.proofs.Invariant.StandLemmas.{AreOpen, Each, EachBut, IsAttached, IsThere, RestBut, Rests, Stands, busy, rest-stays}
use Rattle.pr_report_laws.specs.Watching.{is_away, is_of, place_of, watches, watches_at}

-- What the handles are that the next call of truss names, and how the processes stand that it watches.

-- ---- what is said of them

-- the place of the process that a stage is of
abbrev pub stage_place : Stage → Option ℕ
stage_place (Opening place _) = Some place
stage_place (ReadingStatus place) = Some place
stage_place (ReadingText place l from len) = Some place
stage_place (OpeningChildControl parent pid) = Some parent
stage_place (OpeningChild parent place _) = Some place
stage_place (Running place) = Some place
stage_place (Closing place next) = Some place
stage_place Unfollowing = Some 0
stage_place ReadingLwps = Some 0
stage_place (FreeingChild pid _) = Some 0
stage_place _ = None

-- the control handle that a step has of the child that it sets free
abbrev pub freed_control : FreeingStep → Option ℕ
freed_control freeing.OpenControl = None
freed_control (freeing.SetRelease control) = Some control
freed_control (freeing.Close control) = Some control

-- the handle of a controller is of some file of a process
pub record IsSomeFile (k : ℕ) (s : TracedState) (pid number : ℕ) : Type 0 where
  pub file : File
  pub mode : Mode
  pub is : IsFileOf k s pid number file mode

same-file : {k pid number handle : ℕ} {s : TracedState} {f : File} {mode : Mode} → number ≡ handle
    → IsFileOf k s pid number f mode → IsSomeFile k s pid handle
same-file {k = k} {pid = pid} {s = s} {f = f} {mode = mode} same its =
    record { file = f; mode = mode; is = subst (λ n. IsFileOf k s pid n f mode) same its }

-- so that process has it open
pub file-owner : (k : ℕ) (s : TracedState) (pid owner number : ℕ) (held : Held) → handle_of s.opens k number ≡ Some held
    → held.pid ≡ pid → IsSomeFile k s owner number → owner ≡ pid
file-owner k s pid owner number held there own its =
    let f = its.is in ap (λ (h : Held). h.pid) (same_Some _ held (sym f.is ∙ there)) ∙ own

-- a handle is the control handle of a process, and names it
pub record IsPolled (t : TrussState) (m : ℕ) : Type 0 where
  pub place : ℕ
  pub within : place < length t.traced
  pub control : (traced_at t place).control ≡ m
  pub named : position (has_control m) t.traced ≡ Some place

-- truss watches the process at this place
pub record IsWatchedAt (k : ℕ) (t : TrussState) (s : TracedState) (pid place : ℕ) : Type 0 where
  pub at : place_of t pid ≡ Some place
  pub within : place < length t.traced
  pub of : (traced_at t place).pid ≡ pid
  pub attached : IsAttached (traced_at t place)
  pub here : is_away t.leaving t.stage place ≡ false
  pub control : IsFileOf k s pid (traced_at t place).control file.Ctl WriteExcl

-- ---- how the processes stand

pub standing : (k : ℕ) (t : TrussState) (s : TracedState) (stage : Stage) → HasFiles k t s → t.stage ≡ stage
    → Stands t.traced t.leaving stage
standing k t s stage h is = subst (Stands t.traced t.leaving) is h.stands

-- While truss does not leave, each process is attached that it neither opens nor closes.
pub attached-all : (k : ℕ) (t : TrussState) (s : TracedState) → HasFiles k t s → t.leaving ≡ false
    → busy t.stage ≡ None → (place : ℕ) → place < length t.traced → IsAttached (traced_at t place)
attached-all k t s h stays idle place within =
    let w : Stands t.traced t.leaving t.stage = h.stands in
    let all : Each (Rests t.leaving) t.traced = subst (RestBut t.leaving t.traced) idle w.rests in
    rest-stays t.leaving (traced_at t place) (all place within) stays

pub attached-others : (k : ℕ) (t : TrussState) (s : TracedState) (but : ℕ) → HasFiles k t s → t.leaving ≡ false
    → busy t.stage ≡ Some but → (place : ℕ) → place < length t.traced → place ≢ but → IsAttached (traced_at t place)
attached-others k t s but h stays is place within other =
    let w : Stands t.traced t.leaving t.stage = h.stands in
    let all : EachBut (Rests t.leaving) t.traced but = subst (RestBut t.leaving t.traced) is w.rests in
    rest-stays t.leaving (traced_at t place) (all place within other) stays

-- ---- places

-- the process at the place of a process id is of that id
pub place-is : (t : TrussState) (pid place : ℕ) → place_of t pid ≡ Some place
    → (place < length t.traced) × ((traced_at t place).pid ≡ pid)
place-is t pid place is =
    let p = position-Some (is_of pid) t.traced place nobody is in
    (p.0, eqb-true (traced_at t place).pid pid p.1)

-- no other place is of that id
pub other-place : (k : ℕ) (t : TrussState) (s : TracedState) (pid place q : ℕ) → HasFiles k t s
    → place_of t pid ≡ Some place → q < length t.traced → q ≢ place → (traced_at t q).pid ≢ pid
other-place k t s pid place q h at within apart same =
    apart (same_Some q place (sym (h.one q within) ∙ ap (place_of t) same ∙ at))

-- no place passes a test
no-position : {X : Type 0} (p : X → Bool) (xs : List X) (d : X)
    → ((q : ℕ) → q < length xs → p (slice_index_or xs q d) ≡ false) → position p xs ≡ None
no-position p xs d none =
    let is : position_or_len p xs ≡ length xs =
    position_or_len_is p xs (length xs) d (omega arith) none (λ inside. absurd (omega arith)) in
    rw (is, le-ltb (length xs) (length xs) (omega arith)) refl

-- ---- the files that the next call names

-- a number that is known
known-number : (o : Option ℕ) (there : IsThere o) → number_of o ≡ there.number
known-number o there = ap number_of there.is

module _ (k : ℕ) (t : TrussState) (s : TracedState) (h : HasFiles k t s) where
  status-known : (place : ℕ) → place < length t.traced → AreOpen (traced_at t place)
      → IsFileOf k s (traced_at t place).pid (number_of (traced_at t place).status) file.Status Read
  status-known place within open_all =
      let there = open_all.status in
      subst (λ n. IsFileOf k s (traced_at t place).pid n file.Status Read)
      (sym (known-number (traced_at t place).status there)) (h.status place there.number within there.is)

  lstatus-known : (place : ℕ) → place < length t.traced → AreOpen (traced_at t place)
      → IsFileOf k s (traced_at t place).pid (number_of (traced_at t place).lstatus) file.Lstatus Read
  lstatus-known place within open_all =
      let there = open_all.lstatus in
      subst (λ n. IsFileOf k s (traced_at t place).pid n file.Lstatus Read)
      (sym (known-number (traced_at t place).lstatus there)) (h.lstatus place there.number within there.is)

  memory-known : (place : ℕ) → place < length t.traced → AreOpen (traced_at t place)
      → IsFileOf k s (traced_at t place).pid (number_of (traced_at t place).memory) file.Mem Read
  memory-known place within open_all =
      let there = open_all.memory in
      subst (λ n. IsFileOf k s (traced_at t place).pid n file.Mem Read)
      (sym (known-number (traced_at t place).memory there)) (h.memory place there.number within there.is)

  module _ (fits : Fits t.traced t.stage) where
    -- what is read
    pub status-read : (place : ℕ) → t.stage ≡ ReadingStatus place
        → IsFileOf k s (traced_at t place).pid (number_of (traced_at t place).status) file.Status Read
    status-read place is =
        let within : place < length t.traced = subst (Fits t.traced) is fits in
        let w : Stands t.traced t.leaving (ReadingStatus place) = standing k t s (ReadingStatus place) h is in
        let on : IsAttached (traced_at t place) =
        rest-stays t.leaving (traced_at t place) (w.rests place within) w.leaves in
        status-known place within on.opened

    pub memory-read : (place : ℕ) (l : LwpStatus) (from len : ℕ) → t.stage ≡ ReadingText place l from len
        → IsFileOf k s (traced_at t place).pid (number_of (traced_at t place).memory) file.Mem Read
    memory-read place l from len is =
        let w : Stands t.traced t.leaving (ReadingText place l from len) =
        standing k t s (ReadingText place l from len) h is in
        let on : IsAttached (traced_at t place) = w.at in
        memory-known place (subst (Fits t.traced) is fits) on.opened

    pub lwps-read : t.stage ≡ ReadingLwps
        → IsFileOf k s (traced_at t 0).pid (number_of (traced_at t 0).lstatus) file.Lstatus Read
    lwps-read is =
        let w : Stands t.traced t.leaving ReadingLwps = standing k t s ReadingLwps h is in
        let on : IsAttached (traced_at t 0) = w.at in
        lstatus-known 0 (subst (Fits t.traced) is fits) on.opened

    pub opening-read : (place : ℕ) → t.stage ≡ Opening place opening.ReadLwps
        → IsFileOf k s (traced_at t place).pid (number_of (traced_at t place).lstatus) file.Lstatus Read
    opening-read place is =
        let w : Stands t.traced t.leaving (Opening place opening.ReadLwps) =
        standing k t s (Opening place opening.ReadLwps) h is in
        let on : IsAttached (traced_at t place) = w.at in
        let f : Fits t.traced (Opening place opening.ReadLwps) = subst (Fits t.traced) is fits in
        lstatus-known place f.0 on.opened

    -- what a call names to which a reply comes that its process is gone
    pub named-file : (handle place : ℕ) → place < length t.traced → IsNamed t handle place
        → IsSomeFile k s (traced_at t place).pid handle
    named-file handle place within (its_control is) = same-file is (h.control place within)
    named-file handle place within (its_status at is) = same-file is (status-read place at)
    named-file handle place within (its_memory {l = l} {from = from} {len = len} at is) =
        same-file is (memory-read place l from len at)
    named-file handle place within (its_lstatus at is) = same-file is (opening-read place at)
    named-file handle place within (its_last at is) = same-file is (lwps-read at)

    place-within : (ts : List Traced) (stage : Stage) (place : ℕ) → stage_place stage ≡ Some place → Fits ts stage
        → place < length ts
    place-within ts (Opening at next) place is f = subst (λ n. n < length ts) (same_Some at place is) f.0
    place-within ts (ReadingStatus at) place is f = subst (λ n. n < length ts) (same_Some at place is) f
    place-within ts (ReadingText at l from len) place is f = subst (λ n. n < length ts) (same_Some at place is) f
    place-within ts (OpeningChildControl at pid) place is f = subst (λ n. n < length ts) (same_Some at place is) f
    place-within ts (OpeningChild parent at next) place is f =
        let last = f.0 in
        omega (arith, last.last, same_Some at place is)
    place-within ts (Running at) place is f = subst (λ n. n < length ts) (same_Some at place is) f
    place-within ts (Closing at next) place is f = subst (λ n. n < length ts) (same_Some at place is) f.0
    place-within ts Unfollowing place is f = subst (λ n. n < length ts) (same_Some 0 place is) f
    place-within ts ReadingLwps place is f = subst (λ n. n < length ts) (same_Some 0 place is) f
    place-within ts (FreeingChild pid next) place is f = subst (λ n. n < length ts) (same_Some 0 place is) f
    place-within ts _ place is f = absurd (none-some place is)

    -- It is there, with its control file. The calls of `Opening`, `OpeningChild`, `Running` and `Unfollowing` write to
    -- it.
    pub stage-control : (place : ℕ) → stage_place t.stage ≡ Some place
        → (place < length t.traced) × IsFileOf k s (traced_at t place).pid
        (traced_at t place).control file.Ctl WriteExcl
    stage-control place is =
        let within = place-within t.traced t.stage place is fits in
        (within, h.control place within)

  -- ---- the child that is set free

  freed-is : (child control : ℕ) (next : FreeingStep) → freed_control next ≡ Some control
      → FreedIs (FileOf k s) (FreeingChild child next) → IsFileOf k s child control file.Ctl WriteExcl
  freed-is child control freeing.OpenControl its f = absurd (none-some control its)
  freed-is child control (freeing.SetRelease m) its f =
      subst (λ n. IsFileOf k s child n file.Ctl WriteExcl) (same_Some m control its) f
  freed-is child control (freeing.Close m) its f =
      subst (λ n. IsFileOf k s child n file.Ctl WriteExcl) (same_Some m control its) f

  pub freed-file : (child control : ℕ) (next : FreeingStep) → t.stage ≡ FreeingChild child next
      → freed_control next ≡ Some control → IsFileOf k s child control file.Ctl WriteExcl
  freed-file child control next is its = freed-is child control next its (subst (FreedIs (FileOf k s)) is h.freed)

  pub freed-once : (child control : ℕ) (next : FreeingStep) → freed_control next ≡ Some control
      → of_stage child control (FreeingChild child next) ≡ 1
  freed-once child control freeing.OpenControl its = absurd (none-some control its)
  freed-once child control (freeing.SetRelease m) its =
      rw (eq-eqb child child refl, eq-eqb m control (same_Some m control its)) refl
  freed-once child control (freeing.Close m) its =
      rw (eq-eqb child child refl, eq-eqb m control (same_Some m control its)) refl

  -- it is none of the processes that truss has files of
  pub freed-apart : (child control : ℕ) (next : FreeingStep) → Owns k t s → AreExclusive s.opens
      → t.stage ≡ FreeingChild child next → freed_control next ≡ Some control → place_of t child ≡ None
  freed-apart child control next o e is its = no-position (is_of child) t.traced nobody (λ q within. other q within)
    where
      other : (q : ℕ) → q < length t.traced → ((traced_at t q).pid == child) ≡ false
      other q within = elim (cases_Bool ((traced_at t q).pid == child)) [
        | inl same ↦ absurd
            (free-apart k t s o e (has-each k t s h) child control
            (subst (λ x. of_stage child control x ≡ 1) (sym is) (freed-once child control next its))
            (freed-file child control next is its) q within (eqb-true (traced_at t q).pid child same))
        | inr apart ↦ apart
      ]

  -- ---- the file that is closed next

  last-fields : (pid control : ℕ) (status lstatus memory : Option ℕ) (attached : Bool) (old : ℕ) (seen : Bool)
      (marks : Marks)
      → FilesAre (FileOf k s) (record {
        pid = pid;
        control = control;
        status = status;
        lstatus = lstatus;
        memory = memory;
        attached = attached;
        old = old;
        seen = seen;
        marks = marks;
      })
      → IsSomeFile k s pid (last_handle (record {
        pid = pid;
        control = control;
        status = status;
        lstatus = lstatus;
        memory = memory;
        attached = attached;
        old = old;
        seen = seen;
        marks = marks;
      }))
  unfolding last_handle
  last-fields pid control status lstatus (Some m) attached old seen marks f = record {
    file = _;
    mode = _;
    is = f.memory m refl;
  }
  last-fields pid control status (Some l) None attached old seen marks f = record {
    file = _;
    mode = _;
    is = f.lstatus l refl;
  }
  last-fields pid control (Some st) None None attached old seen marks f = record {
    file = _;
    mode = _;
    is = f.status st refl;
  }
  last-fields pid control None None None attached old seen marks f = record { file = _; mode = _; is = f.control }

  pub closed-file : (place : ℕ) → place < length t.traced
      → IsSomeFile k s (traced_at t place).pid (last_handle (traced_at t place))
  closed-file place within =
      let u = traced_at t place in
      last-fields u.pid u.control u.status u.lstatus u.memory u.attached u.old u.seen u.marks
      (has-each k t s h place within)

  -- ---- the poll

  -- the process that a poll names by its control handle
  pub polled-control : (m place : ℕ) → position (has_control m) t.traced ≡ Some place
      → (place < length t.traced) × ((traced_at t place).control ≡ m)
  polled-control m place is =
      let p = position-Some (has_control m) t.traced place nobody is in
      (p.0, eqb-true (traced_at t place).control m p.1)

  -- one control handle is of one process
  control-once : (i j : ℕ) → i < length t.traced → j < length t.traced
      → (traced_at t i).control ≡ (traced_at t j).control → i ≡ j
  control-once i j here there same =
      let f = h.control i here in
      let g = h.control j there in
      let pid : (traced_at t i).pid ≡ (traced_at t j).pid =
      ap (λ x. x.pid) (same_Some _ _ (sym f.is ∙ ap (λ n. handle_of s.opens k n) same ∙ g.is)) in
      same_Some i j (sym (h.one i here) ∙ ap (place_of t) pid ∙ h.one j there)

  pub polled-place : (place : ℕ) → place < length t.traced
      → position (has_control (traced_at t place).control) t.traced ≡ Some place
  polled-place place within =
      only-position (has_control (traced_at t place).control) t.traced nobody place within
      (eq-eqb (traced_at t place).control (traced_at t place).control refl)
      (λ q inside passes. control-once q place inside within
      (eqb-true (traced_at t q).control (traced_at t place).control passes))

  found-at : (ready : ℕ → Bool) (ts : List Traced) (m : ℕ) → find ready (map (λ (u : Traced). u.control) ts) ≡ Some m
      → (q : ℕ) × ((q < length ts) × ((at_place ts q).control ≡ m))
  found-at ready [] m found = absurd (none-some m found)
  found-at ready (u ∷ ts) m found = by (λ later. found-at ready ts m later) (ready u.control) found
    where
      by : (find ready (map (λ (v : Traced). v.control) ts) ≡ Some m → (q : ℕ) ×
          ((q < length ts) × ((at_place ts q).control ≡ m))) → (b : Bool) → cond b (Some u.control)
          (find ready (map (λ (v : Traced). v.control) ts)) ≡ Some m
          → (q : ℕ) × ((q < length (u ∷ ts)) × ((at_place (u ∷ ts) q).control ≡ m))
      by more true is = (0, (omega arith, same_Some u.control m is))
      by more false is = let rest = more is in (suc rest.0, (omega (arith, rest.1.0), rest.1.1))

  -- the handle that is found ready is that of a process
  pub ready-polled : (ready : ℕ → Bool) (m : ℕ) → find ready (map (λ (u : Traced). u.control) t.traced) ≡ Some m
      → IsPolled t m
  ready-polled ready m found =
      let f = found-at ready t.traced m found in
      record {
        place = f.0;
        within = f.1.0;
        control = f.1.1;
        named = subst (λ n. position (has_control n) t.traced ≡ Some f.0) f.1.1 (polled-place f.0 f.1.0);
      }

  -- ---- the processes that truss watches

  away-closing : (leaving : Bool) (stage : Stage) (place : ℕ) → is_away leaving stage place ≡ false
      → is_closing stage place ≡ false
  away-closing leaving (Closing at next) place here = here
  away-closing leaving _ place here = refl

  watched-by : (pid : ℕ) (o : Option ℕ) → place_of t pid ≡ o → watches_at t o ≡ true
      → (place : ℕ) × IsWatchedAt k t s pid place
  watched-by pid None at on = absurd (false≢true on)
  watched-by pid (Some place) at on =
      let p = place-is t pid place at in
      let both = and_parts (traced_at t place).attached (not (is_away t.leaving t.stage place)) on in
      let here : is_away t.leaving t.stage place ≡ false = unless (is_away t.leaving t.stage place) both.1 in (
        place,
        record {
          at = at;
          within = p.0;
          of = p.1;
          attached = record {
            attached = both.0;
            unseen = h.unseen place p.0 both.0;
            opened = h.opened place p.0 both.0 (away-closing t.leaving t.stage place here);
          };
          here = here;
          control =
              subst (λ n. IsFileOf k s n (traced_at t place).control file.Ctl WriteExcl) p.1 (h.control place p.0);
        },
      )
    where
      unless : (b : Bool) → not b ≡ true → b ≡ false
      unless true is = absurd (false≢true is)
      unless false is = refl

  pub watched-at : (pid : ℕ) → watches t pid ≡ true → (place : ℕ) × IsWatchedAt k t s pid place
  unfolding watches
  watched-at pid on = watched-by pid (place_of t pid) refl on
