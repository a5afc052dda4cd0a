use Rattle.std.proofs.Common.{◌≡◌, ◌==◌, ◌&&◌, ◌<◌, ◌≤◌, ◌+◌, ℕ, Bool, false, cond, Option, Some, None, List, [], ◌∷◌, ◌++◌, length, refl, sym, ap, ◌∙◌, arith, append_assoc}
use Rattle.std.proofs.lemmas.List.{get_or-set_same, append-nil}
use Rattle.std.proofs.lemmas.List.Sums.{sum_by-set, sum_by-remove, sum_by-append}
use Rattle.std.specs.List.{slice_get, slice_index_or, slice_set, sum_by, remove}
use Rattle.pr_model.specs.declared.calls.Call.TheVariants as call
use Rattle.pr_model.specs.declared.calls.Reply.{Reply}
use Rattle.pr_truss.specs.Closings.{closed_or_removed, with_closed}
use Rattle.pr_truss.specs.Feeding.{fed, with_reply}
use Rattle.pr_truss.specs.NextCalls.{call_of, next_call_of}
use Rattle.pr_truss.specs.Processes.{last_handle, without_last}
use Rattle.pr_truss.specs.Trusses.{TrussState, nobody, traced_at}
use Rattle.pr_truss.specs.declared.processes.Traced.{Traced}
use Rattle.pr_truss.specs.declared.reports.Report.{Report}
use Rattle.pr_truss.specs.declared.stages.AfterClosing.{AfterClosing}
use Rattle.pr_truss.specs.declared.stages.AfterClosing.TheVariants.{OpenNext, GoOn, RunParent}
use Rattle.pr_truss.specs.declared.stages.ChildStep.{ChildStep}
use Rattle.pr_truss.specs.declared.stages.ChildStep.TheVariants as child
use Rattle.pr_truss.specs.declared.stages.FreeingStep.TheVariants as freeing
use Rattle.pr_truss.specs.declared.stages.OpeningStep.{OpeningStep}
use Rattle.pr_truss.specs.declared.stages.OpeningStep.TheVariants as opening
use Rattle.pr_truss.specs.declared.stages.Stage.{Stage}
use Rattle.pr_truss.specs.declared.stages.Stage.TheVariants.{Spawning, OpeningControl, Opening, Polling, ReadingStatus, ReadingText, OpeningChildControl, OpeningChild, Running, Closing, Unfollowing, ReadingLwps, FreeingChild, Finished}
use Rattle.pr_truss_laws.specs.Handles.{handles_of}

-- The files that truss holds open: how often it remembers a handle of a process, and which of its places are there.

abbrev pub unit : Bool → ℕ
unit b = cond b 1 0

abbrev pub is_this : ℕ → Option ℕ → Bool
is_this h None = false
is_this h (Some x) = x == h

-- how many files of the process that it traces have this handle
unfoldable pub handles_in : ℕ → Traced → ℕ
handles_in h t =
    unit (t.control == h) + unit (is_this h t.status) + unit (is_this h t.lstatus) + unit (is_this h t.memory)

unfoldable pub of_traced : ℕ → ℕ → Traced → ℕ
of_traced pid h t = cond (t.pid == pid) (handles_in h t) 0

-- the control file of a child that is set free
abbrev pub of_stage : ℕ → ℕ → Stage → ℕ
of_stage pid h (FreeingChild child (freeing.SetRelease control)) = unit ((child == pid) && (control == h))
of_stage pid h (FreeingChild child (freeing.Close control)) = unit ((child == pid) && (control == h))
of_stage pid h _ = 0

unfoldable pub held : ℕ → ℕ → TrussState → ℕ
held pid h s = sum_by (of_traced pid h) s.traced + of_stage pid h s.stage

-- the files that a step opens, and those after it, are not open yet
pub record IsBare (t : Traced) : Type 0 where
  pub status : t.status ≡ None
  pub lstatus : t.lstatus ≡ None
  pub memory : t.memory ≡ None

pub record HasStatus (t : Traced) : Type 0 where
  pub lstatus : t.lstatus ≡ None
  pub memory : t.memory ≡ None

abbrev pub IsFresh : Traced → OpeningStep → Type 0
IsFresh t opening.OpenStatus = IsBare t
IsFresh t opening.OpenLstatus = HasStatus t
IsFresh t opening.OpenMemory = t.memory ≡ None
IsFresh t _ = Unit {0}

abbrev pub IsFreshChild : Traced → ChildStep → Type 0
IsFreshChild t child.SetRelease = IsBare t
IsFreshChild t child.OpenStatus = IsBare t
IsFreshChild t child.OpenLstatus = HasStatus t
IsFreshChild t child.OpenMemory = t.memory ≡ None
IsFreshChild t child.Start = Unit {0}

abbrev pub at_place : List Traced → ℕ → Traced
at_place ts place = slice_index_or ts place nobody

-- a child stands last, behind its parent
pub record IsLast (ts : List Traced) (parent place : ℕ) : Type 0 where
  pub behind : parent < place
  pub last : place + 1 ≡ length ts

abbrev pub FitsAfter : List Traced → ℕ → AfterClosing → Type 0
FitsAfter ts place OpenNext = Unit {0}
FitsAfter ts place GoOn = Unit {0}
FitsAfter ts place (RunParent parent) = IsLast ts parent place

-- whether the places that a step names are there
abbrev pub Fits : List Traced → Stage → Type 0
Fits ts (Spawning program) = Unit {0}
Fits ts (OpeningControl pid) = Unit {0}
Fits ts (Opening place step) = (place < length ts) × IsFresh (at_place ts place) step
Fits ts Polling = 0 < length ts
Fits ts (ReadingStatus place) = place < length ts
Fits ts (ReadingText place lwp at len) = place < length ts
Fits ts (OpeningChildControl parent pid) = parent < length ts
Fits ts (OpeningChild parent place step) = IsLast ts parent place × IsFreshChild (at_place ts place) step
Fits ts (Running place) = place < length ts
Fits ts (Closing place next) = (place < length ts) × FitsAfter ts place next
Fits ts Unfollowing = 0 < length ts
Fits ts ReadingLwps = 0 < length ts
Fits ts (FreeingChild pid step) = 0 < length ts
Fits ts Finished = ts ≡ []

-- ---- reports grow

pub record Grown (base now : List Report) : Type 0 where
  pub more : List Report
  pub is : now ≡ base ++ more

pub grown-same : (base : List Report) → Grown base base
grown-same base = record { more = []; is = sym (append-nil base) }

pub grown-one : (base : List Report) (r : Report) → Grown base (base ++ r ∷ [])
grown-one base r = record { more = r ∷ []; is = refl }

pub grown-more : (base now : List Report) (r : Report) → Grown base now → Grown base (now ++ r ∷ [])
grown-more base now r g = record {
  more = g.more ++ r ∷ [];
  is = ap (λ rs. rs ++ r ∷ []) g.is ∙ append_assoc base g.more (r ∷ []);
}

pub grown-all : (a b c : List Report) → Grown a b → Grown b c → Grown a c
grown-all a b c p q = record {
  more = p.more ++ q.more;
  is = q.is ∙ ap (λ rs. rs ++ q.more) p.is ∙ append_assoc a p.more q.more;
}

-- ---- places

pub empty-list : {X : Type 0} (xs : List X) → slice_get xs 0 ≡ None → xs ≡ []
empty-list [] e = refl
empty-list (x ∷ xs) e = cc

pub set-at : (ts : List Traced) (place : ℕ) (t : Traced) → place < length ts → at_place (slice_set ts place t) place ≡ t
set-at ts place t within = get_or-set_same ts place t nobody within

-- a process becomes another one that holds so much more
pub set-sum : (f : Traced → ℕ) (ts : List Traced) (place k : ℕ) (t : Traced) → place < length ts
    → f t ≡ f (at_place ts place) + k → sum_by f (slice_set ts place t) ≡ sum_by f ts + k
set-sum f ts place k t within more = omega (arith, sum_by-set f ts place t nobody within)

pub remove-sum : (f : Traced → ℕ) (ts : List Traced) (place : ℕ) → place < length ts
    → sum_by f (remove ts place) + f (at_place ts place) ≡ sum_by f ts
remove-sum f ts place within = sum_by-remove f ts place nobody within

pub append-sum : (f : Traced → ℕ) (ts : List Traced) (t : Traced) → sum_by f (ts ++ t ∷ []) ≡ sum_by f ts + f t
append-sum f ts t = omega (arith, sum_by-append f ts (t ∷ []))

pub at-sum : (f : Traced → ℕ) (ts : List Traced) (place : ℕ) → place < length ts → f (at_place ts place) ≤ sum_by f ts
at-sum f ts place within = omega (arith, sum_by-remove f ts place nobody within)

-- ---- closing

-- the file that was opened last is closed first
abbrev pub ClosesFirst : Traced → Option Traced → Type 0
ClosesFirst u None = handles_of u ≡ last_handle u ∷ []
ClosesFirst u (Some v) = handles_of u ≡ last_handle u ∷ handles_of v

-- What holds of a process is shown by which of its files was opened last.
pub by_last : (P : Traced → Type 0) (t : Traced)
    → ((h : ℕ) (l s : Option ℕ) → P (record t { memory = Some h; lstatus = l; status = s }))
    → ((h : ℕ) (s : Option ℕ) → P (record t { memory = None; lstatus = Some h; status = s }))
    → ((h : ℕ) → P (record t { memory = None; lstatus = None; status = Some h }))
    → P (record t { memory = None; lstatus = None; status = None }) → P t
by_last P t memory lstatus status control = by t.memory t.lstatus t.status
  where
    by : (m l s : Option ℕ) → P (record t { memory = m; lstatus = l; status = s })
    by (Some h) l s = memory h l s
    by None (Some h) s = lstatus h s
    by None None (Some h) = status h
    by None None None = control

pub closes-first : (u : Traced) → ClosesFirst u (without_last u)
unfolding last_handle without_last
closes-first u =
    by_last (λ v. ClosesFirst v (without_last v)) u (λ h l s. refl) (λ h s. refl) (λ h. refl) refl

-- a file of a process is closed, whatever comes then
pub close-fed : (s : TrussState) (r : Reply) (place : ℕ) (next : AfterClosing) → s.stage ≡ Closing place next
    → fed s r ≡ closed_or_removed s place next (without_last (traced_at s place))
unfolding fed with_reply with_closed
close-fed s r place next stage = ap (with_reply s r) stage

-- the call of a truss that closes a file of a process
pub closes-next : (s : TrussState) (u : Traced) (place : ℕ) (next : AfterClosing) → s.stage ≡ Closing place next
    → traced_at s place ≡ u → next_call_of s ≡ Some (call.Close (last_handle u))
unfolding next_call_of call_of
closes-next s u place next stage at = ap (call_of s) stage ∙ ap (λ t. Some (call.Close (last_handle t))) at
