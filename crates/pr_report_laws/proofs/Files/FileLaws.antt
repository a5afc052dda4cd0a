use Rattle.std.proofs.Common.{◌≡◌, ◌≢◌, ◌==◌, ◌&&◌, ◌<◌, ◌≤◌, ◌+◌, ℕ, suc, Bool, true, false, cond, Option, Some, None, List, length, refl, sym, subst, ap, ◌∙◌, arith, inl, inr}
use Rattle.std.proofs.lemmas.Bool.{cases_Bool, cases_eq, eq-eqb, eqb-false, eqb-true, lt-ltb, ne_eqb}
use Rattle.std.proofs.lemmas.List.{get_or-set_other, length-set}
use Rattle.std.proofs.lemmas.List.Sums.{position_or_len_is, sum_by-set}
use Rattle.std.specs.List.{count_by, position, position_or_len, slice_get, slice_index_or, slice_set, sum_by}
use Rattle.pr_file_laws.proofs.PlaceLemmas.{slice_get-set_other}
use Rattle.pr_lawful.proofs.ProcessParts.HandleLemmas.{any-at, count-some, count-swap, handle-at}
use Rattle.pr_model.specs.Handles.{handle_of, is_exclusive_writer, is_writer}
use Rattle.pr_model.specs.Lawful.{AreExclusive}
use Rattle.pr_model.specs.State.{Places, TracedState}
use Rattle.pr_model.specs.declared.calls.File.{File}
use Rattle.pr_model.specs.declared.calls.File.TheVariants as file
use Rattle.pr_model.specs.declared.calls.Mode.{Mode}
use Rattle.pr_model.specs.declared.calls.Mode.TheVariants.{Read, WriteExcl}
use Rattle.pr_model.specs.declared.handles.Held.{Held}
use Rattle.pr_truss.specs.Trusses.{TrussState, nobody, traced_at}
use Rattle.pr_truss.specs.declared.processes.Traced.{Traced}
use Rattle.pr_truss.specs.declared.stages.Stage.{Stage}
use Rattle.pr_truss.specs.declared.stages.Stage.TheVariants.{Opening, OpeningChild, Closing}
use Rattle.pr_truss_laws.proofs.Files.HeldLemmas.{at_place, at-sum, handles_in, held, is_this, of_stage, of_traced, unit}
use Rattle.pr_truss_laws.proofs.Files.OpensLemmas.{held_by}
use Rattle.pr_truss_laws.proofs.Files.OwnLemmas.{Owns, owned}
use Rattle.pr_report_laws.proofs.Files.KeepLemmas.{FilesAre, FreedIs, freed-weaker}
use Rattle.pr_report_laws.proofs.Invariant.StandLemmas.{AreOpen, Each, IsAttached, IsUnseen, Rests, Stands, but-weaker, child-opened, child-unseen, each-join, each-weaker, opening-opened, opening-unseen, rest-attached, rest-unseen}
use Rattle.pr_report_laws.specs.Watching.{is_of, place_of}

-- Over a machine the handles that truss remembers are those of the files that it opened them for.

-- ---- what truss remembers of the files of its processes

-- the handle of a controller is of this file of a process
pub record IsFileOf (k : ℕ) (s : TracedState) (pid number : ℕ) (f : File) (mode : Mode) : Type 0 where
  pub is : handle_of s.opens k number ≡ Some (record { controller = k; pid = pid; lwp = 0; file = f; mode = mode })

-- the same, with the handle last
abbrev pub FileOf : ℕ → TracedState → ℕ → File → Mode → ℕ → Type 0
FileOf k s pid f mode number = IsFileOf k s pid number f mode

-- whether a stage closes the files of the process at a place
abbrev pub is_closing : Stage → ℕ → Bool
is_closing (Closing at next) place = at == place
is_closing _ place = false

-- Each process that truss has files of has its control file, open for truss alone, and the others that it remembers; no
-- process stands twice. Once it is attached all of them are there, until truss closes them, and no stop of it was
-- looked
-- at that was not run. A child that truss sets free has its control file.
pub record HasFiles (k : ℕ) (t : TrussState) (s : TracedState) : Type 0 where
  pub control : (place : ℕ) → place < length t.traced
      → IsFileOf k s (traced_at t place).pid (traced_at t place).control file.Ctl WriteExcl
  pub status : (place n : ℕ) → place < length t.traced → (traced_at t place).status ≡ Some n
      → IsFileOf k s (traced_at t place).pid n file.Status Read
  pub lstatus : (place n : ℕ) → place < length t.traced → (traced_at t place).lstatus ≡ Some n
      → IsFileOf k s (traced_at t place).pid n file.Lstatus Read
  pub memory : (place n : ℕ) → place < length t.traced → (traced_at t place).memory ≡ Some n
      → IsFileOf k s (traced_at t place).pid n file.Mem Read
  pub one : (place : ℕ) → place < length t.traced → place_of t (traced_at t place).pid ≡ Some place
  pub opened : (place : ℕ) → place < length t.traced → (traced_at t place).attached ≡ true
      → is_closing t.stage place ≡ false → AreOpen (traced_at t place)
  pub unseen : (place : ℕ) → place < length t.traced → (traced_at t place).attached ≡ true
      → (traced_at t place).seen ≡ false
  pub stands : Stands t.traced t.leaving t.stage
  pub freed : FreedIs (FileOf k s) t.stage

-- ---- what follows from how the processes stand

stands-unseen : (ts : List Traced) (leaving : Bool) (stage : Stage) → Stands ts leaving stage → Each IsUnseen ts
stands-unseen ts leaving (Opening at next) w =
    each-join IsUnseen ts at (but-weaker (Rests leaving) IsUnseen (rest-unseen leaving) ts at w.rests)
    (opening-unseen (at_place ts at) next w.at)
stands-unseen ts leaving (OpeningChild parent at next) w =
    each-join IsUnseen ts at (but-weaker (Rests leaving) IsUnseen (rest-unseen leaving) ts at w.rests)
    (child-unseen (at_place ts at) next w.at)
stands-unseen ts leaving (Closing at next) w =
    each-join IsUnseen ts at (but-weaker (Rests leaving) IsUnseen (rest-unseen leaving) ts at w.rests) w.at
stands-unseen ts leaving _ w = each-weaker (Rests leaving) IsUnseen (rest-unseen leaving) ts w.rests

abbrev pub IsOpened : Traced → Type 0
IsOpened u = u.attached ≡ true → AreOpen u

rest-opened : (leaving : Bool) (u : Traced) → Rests leaving u → IsOpened u
rest-opened leaving u rest on = let w : IsAttached u = rest-attached leaving u rest on in w.opened

stands-opened : (ts : List Traced) (leaving : Bool) (stage : Stage) → Stands ts leaving stage → (place : ℕ)
    → place < length ts → (at_place ts place).attached ≡ true → is_closing stage place ≡ false
    → AreOpen (at_place ts place)
stands-opened ts leaving (Opening at next) w place within on not_closing =
    each-join IsOpened ts at (but-weaker (Rests leaving) IsOpened (rest-opened leaving) ts at w.rests)
    (opening-opened (at_place ts at) next w.at) place within on
stands-opened ts leaving (OpeningChild parent at next) w place within on not_closing =
    each-join IsOpened ts at (but-weaker (Rests leaving) IsOpened (rest-opened leaving) ts at w.rests)
    (child-opened (at_place ts at) next w.at) place within on
stands-opened ts leaving (Closing at next) w place within on not_closing =
    rest-opened leaving (at_place ts place)
    (w.rests place within (λ same. eqb-false at place not_closing (sym same))) on
stands-opened ts leaving _ w place within on not_closing =
    rest-opened leaving (at_place ts place) (w.rests place within) on

-- ---- the files of one process

pub has-each : (k : ℕ) (t : TrussState) (s : TracedState) → HasFiles k t s → Each (FilesAre (FileOf k s)) t.traced
has-each k t s h place within = record {
  control = h.control place within;
  status = λ n is. h.status place n within is;
  lstatus = λ n is. h.lstatus place n within is;
  memory = λ n is. h.memory place n within is;
}

pub each-has : (k : ℕ) (t : TrussState) (s : TracedState) → Each (FilesAre (FileOf k s)) t.traced
    → ((place : ℕ) → place < length t.traced → place_of t (traced_at t place).pid ≡ Some place)
    → Stands t.traced t.leaving t.stage → FreedIs (FileOf k s) t.stage → HasFiles k t s
each-has k t s files one stands freed = record {
  control = λ place within. let f : FilesAre (FileOf k s) (traced_at t place) = files place within in f.control;
  status = λ place n within is. let f : FilesAre (FileOf k s) (traced_at t place) = files place within in f.status n is;
  lstatus =
      λ place n within is. let f : FilesAre (FileOf k s) (traced_at t place) = files place within in f.lstatus n is;
  memory = λ place n within is. let f : FilesAre (FileOf k s) (traced_at t place) = files place within in f.memory n is;
  one = one;
  opened = stands-opened t.traced t.leaving t.stage stands;
  unseen = stands-unseen t.traced t.leaving t.stage stands;
  stands = stands;
  freed = freed;
}

-- a state with the same handles
pub same-files : (k : ℕ) (t : TrussState) (s u : TracedState)
    → ((m : ℕ) → handle_of u.opens k m ≡ handle_of s.opens k m) → HasFiles k t s → HasFiles k t u
same-files k t s u same h = record {
  control = λ place within. let f = h.control place within in record { is = same _ ∙ f.is };
  status = λ place n within is. let f = h.status place n within is in record { is = same n ∙ f.is };
  lstatus = λ place n within is. let f = h.lstatus place n within is in record { is = same n ∙ f.is };
  memory = λ place n within is. let f = h.memory place n within is in record { is = same n ∙ f.is };
  one = h.one;
  opened = h.opened;
  unseen = h.unseen;
  stands = h.stands;
  freed =
      freed-weaker (FileOf k s) (FileOf k u) t.stage (λ pid control once f. record {
        is = same control
            ∙ f.is;
      }) h.freed;
}

-- ---- no process stands twice

-- the only place that passes a test is its position
pub only-position : {X : Type 0} (p : X → Bool) (xs : List X) (d : X) (place : ℕ) → place < length xs
    → p (slice_index_or xs place d) ≡ true → ((q : ℕ) → q < length xs → p (slice_index_or xs q d) ≡ true → q ≡ place)
    → position p xs ≡ Some place
only-position p xs d place within passes only =
    let is : position_or_len p xs ≡ place =
    position_or_len_is p xs place d (omega arith) (λ q below. earlier q below) (λ inside. passes) in
    rw (is, lt-ltb place (length xs) within) refl
  where
    earlier : (q : ℕ) → q < place → p (slice_index_or xs q d) ≡ false
    earlier q below =
        elim (cases_Bool (p (slice_index_or xs q d))) [
          | inl some ↦ absurd
              (omega (arith, only q (omega arith) some))
          | inr none ↦ none
        ]

-- a process holds its control handle, and those of its other files
pub control-in : (u : Traced) → 1 ≤ handles_in u.control u
unfolding handles_in
control-in u = omega (arith, ap unit (eq-eqb u.control u.control refl))

this-in : (n : ℕ) (o : Option ℕ) → o ≡ Some n → unit (is_this n o) ≡ 1
this-in n o is = ap (λ x. unit (is_this n x)) is ∙ ap unit (eq-eqb n n refl)

pub status-in : (u : Traced) (n : ℕ) → u.status ≡ Some n → 1 ≤ handles_in n u
unfolding handles_in
status-in u n is = omega (arith, this-in n u.status is)

pub lstatus-in : (u : Traced) (n : ℕ) → u.lstatus ≡ Some n → 1 ≤ handles_in n u
unfolding handles_in
lstatus-in u n is = omega (arith, this-in n u.lstatus is)

pub memory-in : (u : Traced) (n : ℕ) → u.memory ≡ Some n → 1 ≤ handles_in n u
unfolding handles_in
memory-in u n is = omega (arith, this-in n u.memory is)

of-itself : (u : Traced) (n : ℕ) → of_traced u.pid n u ≡ handles_in n u
unfolding of_traced
of-itself u n = ap (λ b. cond b (handles_in n u) 0) (eq-eqb u.pid u.pid refl)

-- a control file that is open exclusively has one handle
module _ (k : ℕ) (s : TracedState) (e : AreExclusive s.opens) where
  mine-writes : (pid : ℕ) → is_writer pid (Some (held_by k pid 0 file.Ctl WriteExcl)) ≡ true
  mine-writes pid = ap (λ b. b && true) (eq-eqb pid pid refl)

  two-handles : (pid n m : ℕ) → IsFileOf k s pid n file.Ctl WriteExcl → IsFileOf k s pid m file.Ctl WriteExcl → m ≢ n
      → ⊥
  two-handles pid n m f g apart =
      let mine : Held = held_by k pid 0 file.Ctl WriteExcl in
      let here : slice_get s.opens n ≡ Some (Some mine) = handle-at s.opens k n mine f.is in
      let there : slice_get s.opens m ≡ Some (Some mine) = handle-at s.opens k m mine g.is in
      let one : count_by (is_writer pid) s.opens ≡ 1 =
      e.alone pid (any-at (is_exclusive_writer pid) s.opens n (Some mine) here (mine-writes pid)) in
      let left : Places = slice_set s.opens n None in
      let swapped : count_by (is_writer pid) left + unit (is_writer pid (Some mine)) ≡ count_by
      (is_writer pid) s.opens + 0 = count-swap (is_writer pid) s.opens n (Some mine) None here in
      let still : 1 ≤ count_by (is_writer pid) left =
      count-some (is_writer pid) left
      (any-at (is_writer pid) left m (Some mine) (slice_get-set_other s.opens n m None apart
      ∙ there) (mine-writes pid)) in
      omega (arith, one, swapped, still, ap unit (mine-writes pid))

  pub one-control : (pid n m : ℕ) → IsFileOf k s pid n file.Ctl WriteExcl → IsFileOf k s pid m file.Ctl WriteExcl
      → n ≡ m
  one-control pid n m f g =
      elim (cases_eq m n) [ inl same ↦ sym same | inr apart ↦ absurd (two-handles pid n m f g apart) ]

module _ (k : ℕ) (t : TrussState) (s : TracedState) (o : Owns k t s) where
  owned-some : (pid : ℕ) (x : Option Held) → 1 ≤ owned pid x → (g : Held) × (x ≡ Some g)
  owned-some pid None one = absurd (omega arith)
  owned-some pid (Some g) one = (g, refl)

  held-within : (place n : ℕ) → place < length t.traced → 1 ≤ handles_in n (traced_at t place)
      → 1 ≤ owned (traced_at t place).pid (handle_of s.opens k n)
  unfolding held
  held-within place n within some =
      let u : Traced = traced_at t place in
      omega (arith, at-sum (of_traced u.pid n) t.traced place within, of-itself u n, o.counts u.pid n)

  -- a handle that a process holds is open
  pub remembered : (place n : ℕ) → place < length t.traced → 1 ≤ handles_in n (traced_at t place)
      → (g : Held) × (handle_of s.opens k n ≡ Some g)
  remembered place n within some =
      owned-some (traced_at t place).pid (handle_of s.opens k n) (held-within place n within some)

  -- so is the control handle of a child that is set free
  pub remembered-freed : (pid control : ℕ) → of_stage pid control t.stage ≡ 1
      → (g : Held) × (handle_of s.opens k control ≡ Some g)
  unfolding held
  remembered-freed pid control once =
      owned-some pid (handle_of s.opens k control) (omega (arith, once, o.counts pid control))

  owned-few : (pid : ℕ) (x : Option Held) → owned pid x ≤ 1
  owned-few pid None = omega arith
  owned-few pid (Some g) = elim (g.pid == pid) as (λ b. unit b ≤ 1) [ true ↦ omega arith | false ↦ omega arith ]

  -- one control handle does not stand at two places of a process
  same-handle : (i j : ℕ) → i < length t.traced → j < length t.traced → j ≢ i
      → (traced_at t i).pid ≡ (traced_at t j).pid → (traced_at t i).control ≡ (traced_at t j).control → ⊥
  unfolding held of_traced
  same-handle i j here there apart pid control =
      let u : Traced = traced_at t i in
      let v : Traced = traced_at t j in
      let f : Traced → ℕ = of_traced u.pid u.control in
      let other : Traced = record u { pid = suc u.pid } in
      let first : f u ≡ handles_in u.control u = of-itself u u.control in
      let second : f v ≡ handles_in v.control v =
      subst (λ p. of_traced p u.control v ≡ handles_in v.control v) (sym pid)
      (subst (λ c. of_traced v.pid c v ≡ handles_in v.control v) (sym control) (of-itself v v.control)) in
      let without : f other ≡ 0 =
      ap (λ b. cond b (handles_in u.control other) 0) (ne_eqb (suc u.pid) u.pid (λ e. absurd (omega arith))) in
      let set : sum_by f (slice_set t.traced i other) + f u ≡ sum_by f t.traced + f other =
      sum_by-set f t.traced i other nobody here in
      let rest : f v ≤ sum_by f (slice_set t.traced i other) =
      subst (λ x. f x ≤ sum_by f (slice_set t.traced i other)) (get_or-set_other t.traced i j other nobody apart)
      (at-sum f (slice_set t.traced i other) j (omega (arith, length-set t.traced i other))) in
      let few : sum_by f t.traced + of_stage u.pid u.control t.stage ≤ 1 =
      omega (arith, o.counts u.pid u.control, owned-few u.pid (handle_of s.opens k u.control)) in
      omega (arith, first, second, without, set, rest, few, control-in u, control-in v)

  module _ (e : AreExclusive s.opens) (files : Each (FilesAre (FileOf k s)) t.traced) where
    control-at : (i : ℕ) → i < length t.traced
        → IsFileOf k s (traced_at t i).pid (traced_at t i).control file.Ctl WriteExcl
    control-at i within = let f : FilesAre (FileOf k s) (traced_at t i) = files i within in f.control

    same-place : (i j : ℕ) → i < length t.traced → j < length t.traced → (traced_at t i).pid ≡ (traced_at t j).pid
        → j ≡ i
    same-place i j here there pid = elim (cases_eq j i) [
      | inl same ↦ same
      | inr apart ↦ absurd
          (same-handle i j here there apart pid
          (one-control k s e (traced_at t i).pid (traced_at t i).control (traced_at t j).control
          (control-at i here)
          (subst (λ p. IsFileOf k s p (traced_at t j).control file.Ctl WriteExcl) (sym pid)
          (control-at j there))))
    ]

    pub stands-once : (place : ℕ) → place < length t.traced → place_of t (traced_at t place).pid ≡ Some place
    stands-once place within =
        only-position (is_of (traced_at t place).pid) t.traced nobody place within
        (eq-eqb (traced_at t place).pid (traced_at t place).pid refl)
        (λ q inside passes. same-place place q within inside
        (sym (eqb-true (traced_at t q).pid (traced_at t place).pid passes)))

    -- a child that is set free is none of them
    pub free-apart : (child control : ℕ) → of_stage child control t.stage ≡ 1
        → IsFileOf k s child control file.Ctl WriteExcl → (place : ℕ) → place < length t.traced
        → (traced_at t place).pid ≢ child
    unfolding held
    free-apart child control once its place within same =
        let u : Traced = traced_at t place in
        let mine : IsFileOf k s child u.control file.Ctl WriteExcl =
        subst (λ p. IsFileOf k s p u.control file.Ctl WriteExcl) same (control-at place within) in
        let is : u.control ≡ control = one-control k s e child u.control control mine its in
        let some : 1 ≤ of_traced child control u =
        subst (λ c. 1 ≤ of_traced child c u) is
        (subst (λ p. 1 ≤ of_traced p u.control u) same (omega (arith, of-itself u u.control, control-in u))) in
        omega (
          arith,
          some,
          once,
          at-sum
              (of_traced child control) t.traced place within,
          o.counts child control,
          owned-few child
              (handle_of s.opens k control),
        )
