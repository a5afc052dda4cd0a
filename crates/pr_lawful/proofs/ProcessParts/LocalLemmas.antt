use Rattle.std.proofs.Common.{◌≡◌, ℕ, ◌<◌, ◌≤◌, Bool, true, false, Some, None, List, length, cond, refl, sym, subst, ◌∙◌, ap}
use Rattle.std.specs.List.{All}
use Rattle.std.proofs.lemmas.List.{nil_from_length}
use Rattle.std.proofs.lemmas.Option.{none-some}
use Rattle.pr_num.specs.ById.{IsRising, change_under, map_each}
use Rattle.pr_num.proofs.ByIdLemmas.{rises_from-change_under, rises_from-map_each}
use Rattle.pr_num.proofs.ByIdLaws.{All-change_under, All-map_each, length-change_under, length-map_each}
use Rattle.pr_num.specs.Limits.{frame_limit, mapping_limit}
use Rattle.pr_num.specs.Spaces.{Space, mapped_size}
use Rattle.pr_parts.specs.AddressSpaces.{LeavesHeapPlace}
use Rattle.pr_model.specs.declared.frames.Frame.{Frame}
use Rattle.pr_model.specs.Lawful.{IsLawfulPending, IsLawfulCurrent, IsHoldable, IsLawfulFrame, IsLawfulLwp, IsEmptyZombie, IsLawfulProcess}
use Rattle.pr_model.specs.State.{TracedLwp, TracedProcess, lwp_of, with_lwp}

-- Changes of an lwp, and of a process by itself, that leave it lawful.

-- ---- lwps

-- a change of an lwp that leaves it lawful, whatever ids were given out
abbrev pub KeepsLwp : (TracedLwp → TracedLwp) → Type 0
KeepsLwp f = (next id : ℕ) (l : TracedLwp) → IsLawfulLwp next (id, l) → IsLawfulLwp next (id, f l)

-- it leaves the held set and the frames
pub same_sets : (f : TracedLwp → TracedLwp) → ((l : TracedLwp) → (f l).held ≡ l.held)
    → ((l : TracedLwp) → (f l).frames ≡ l.frames) → ((l : TracedLwp) → (f l).pending ≡ l.pending)
    → ((l : TracedLwp) → (f l).current ≡ l.current) → KeepsLwp f
same_sets f held frames pending current next id l h = record {
  id = h.id;
  held = subst IsHoldable (sym (held l)) h.held;
  frames = subst (All IsLawfulFrame) (sym (frames l)) h.frames;
  few_frames = subst (λ (fs : List Frame). length fs ≤ frame_limit) (sym (frames l)) h.few_frames;
  pending = subst IsLawfulPending (sym (pending l)) h.pending;
  current = subst IsLawfulCurrent (sym (current l)) h.current;
}

pub keeps-if : (b : Bool) (f g : TracedLwp → TracedLwp) → KeepsLwp f → KeepsLwp g → KeepsLwp (λ l. cond b (f l) (g l))
keeps-if true f g one other next id l h = one next id l h
keeps-if false f g one other next id l h = other next id l h

-- ---- processes

-- what a zombie has no more is asked of no live process
pub live-empty : (x : TracedProcess) → x.ended ≡ None → IsEmptyZombie x
live-empty x live = record {
  no_lwps = λ status is. absurd (none-some status (sym live ∙ is));
  no_memory = λ status is. absurd (none-some status (sym live ∙ is));
  no_loan = λ status is. absurd (none-some status (sym live ∙ is));
  no_files = λ status is. absurd (none-some status (sym live ∙ is));
}

-- What a process that is changed in its place keeps: it stays lawful, with the same parent, end and descriptors, and as
-- much memory.
pub record StaysLawful (pid : ℕ) (x y : TracedProcess) : Type 0 where
  pub lawful : IsLawfulProcess (pid, x) → IsLawfulProcess (pid, y)
  pub parent : y.parent ≡ x.parent
  pub ended : y.ended ≡ x.ended
  pub size : mapped_size y.space ≡ mapped_size x.space
  pub fds : y.fds ≡ x.fds

abbrev pub Keeps : (TracedProcess → TracedProcess) → Type 0
Keeps f = (pid : ℕ) (x : TracedProcess) → StaysLawful pid x (f x)

pub kept-same : (pid : ℕ) (x : TracedProcess) → StaysLawful pid x x
kept-same pid x = record { lawful = λ h. h; parent = refl; ended = refl; size = refl; fds = refl }

pub kept-next : (pid : ℕ) (x y z : TracedProcess) → StaysLawful pid x y → StaysLawful pid y z → StaysLawful pid x z
kept-next pid x y z first next = record {
  lawful = λ h. next.lawful (first.lawful h);
  parent = next.parent ∙ first.parent;
  ended = next.ended ∙ first.ended;
  size = next.size ∙ first.size;
  fds = next.fds ∙ first.fds;
}

pub kept-if : (pid : ℕ) (b : Bool) (x y z : TracedProcess) → StaysLawful pid x y → StaysLawful pid x z
    → StaysLawful pid x (cond b y z)
kept-if pid true x y z one other = one
kept-if pid false x y z one other = other

-- what decides whether a process is lawful, beside its lwps, its memory and its descriptors, is left
pub record SameRest (x y : TracedProcess) : Type 0 where
  pub ended : y.ended ≡ x.ended
  pub borrower : y.borrower ≡ x.borrower
  pub next_lwp : y.next_lwp ≡ x.next_lwp
  pub traced : y.control.traced_signals ≡ x.control.traced_signals
  pub dispositions : y.dispositions ≡ x.dispositions
  pub pending : IsLawfulPending x.pending → IsLawfulPending y.pending

-- it has lwps in the place of its own, as many, under the same ids and lawful
pub record SameLwps (x y : TracedProcess) : Type 0 where
  pub count : length y.lwps ≡ length x.lwps
  pub rising : IsRising x.lwps → IsRising y.lwps
  pub lawful : All (IsLawfulLwp x.next_lwp) x.lwps → All (IsLawfulLwp y.next_lwp) y.lwps

pub lawful-lwps : (pid : ℕ) (x y : TracedProcess) → SameRest x y → SameLwps x y → y.space ≡ x.space → y.fds ≡ x.fds
    → IsLawfulProcess (pid, x) → IsLawfulProcess (pid, y)
lawful-lwps pid x y rest lwps space fds h = record {
  has_lwps =
      record { some = λ user live. subst (λ n. 0 < n) (sym lwps.count) (h.has_lwps.some user (sym rest.ended ∙ live)) };
  empty_zombie = record {
    no_lwps =
        λ status is. nil_from_length y.lwps (lwps.count
        ∙ ap (λ (ls : List (ℕ × TracedLwp)). length ls) (h.empty_zombie.no_lwps status (sym rest.ended ∙ is)));
    no_memory = λ status is. space ∙ h.empty_zombie.no_memory status (sym rest.ended ∙ is);
    no_loan = λ status is. rest.borrower ∙ h.empty_zombie.no_loan status (sym rest.ended ∙ is);
    no_files = λ status is. fds ∙ h.empty_zombie.no_files status (sym rest.ended ∙ is);
  };
  rising = lwps.rising h.rising;
  lwps = lwps.lawful h.lwps;
  next_lwp = rw rest.next_lwp h.next_lwp;
  few_lwps = rw lwps.count h.few_lwps;
  descriptors = ap (λ ds. length ds) fds ∙ h.descriptors;
  traced = rw rest.traced h.traced;
  uncaught = rw rest.dispositions h.uncaught;
  pending = rest.pending h.pending;
  heap_place = subst (All LeavesHeapPlace) (sym space) h.heap_place;
  small_space = subst (λ (ms : Space). mapped_size ms ≤ mapping_limit) (sym space) h.small_space;
}

-- its lwps are left
pub same_lwps : (x y : TracedProcess) → y.lwps ≡ x.lwps → y.next_lwp ≡ x.next_lwp → SameLwps x y
same_lwps x y lwps next = record {
  count = ap (λ ls. length ls) lwps;
  rising = λ h. subst IsRising (sym lwps) h;
  lawful = λ h. rw (next, lwps) h;
}

-- an lwp is changed in its place, where that leaves the one that stands there lawful, or any lwp; and all are changed
pub changed_one : (x : TracedProcess) (id : ℕ) (f : TracedLwp → TracedLwp)
    → ((l : TracedLwp) → lwp_of x id ≡ Some l → IsLawfulLwp x.next_lwp (id, l) → IsLawfulLwp x.next_lwp (id, f l))
    → SameLwps x (record x { lwps = change_under id f x.lwps })
changed_one x id f keeps = record {
  count = length-change_under id f x.lwps;
  rising = λ h. rises_from-change_under 0 id f x.lwps ∙ h;
  lawful = λ h. All-change_under (IsLawfulLwp x.next_lwp) id f x.lwps keeps h;
}

pub changed_lwps : (x : TracedProcess) (id : ℕ) (f : TracedLwp → TracedLwp) → KeepsLwp f
    → SameLwps x (record x { lwps = change_under id f x.lwps })
changed_lwps x id f keeps = changed_one x id f (λ l found it. keeps x.next_lwp id l it)

pub mapped_lwps : (x : TracedProcess) (f : TracedLwp → TracedLwp) → KeepsLwp f
    → SameLwps x (record x { lwps = map_each f x.lwps })
mapped_lwps x f keeps = record {
  count = length-map_each f x.lwps;
  rising = λ h. rises_from-map_each 0 f x.lwps ∙ h;
  lawful =
      λ h. All-map_each (IsLawfulLwp x.next_lwp) (IsLawfulLwp x.next_lwp) f
      (λ e it. keeps x.next_lwp e.0 e.1 it) x.lwps h;
}

-- ---- changes that keep a process

pub same_rest : (x y : TracedProcess) → y.ended ≡ x.ended → y.borrower ≡ x.borrower → y.next_lwp ≡ x.next_lwp
    → y.control.traced_signals ≡ x.control.traced_signals → y.dispositions ≡ x.dispositions
    → (IsLawfulPending x.pending → IsLawfulPending y.pending) → SameRest x y
same_rest x y ended borrower next traced dispositions pending = record {
  ended = ended;
  borrower = borrower;
  next_lwp = next;
  traced = traced;
  dispositions = dispositions;
  pending = pending;
}

pub kept-parts : (pid : ℕ) (x y : TracedProcess) → y.parent ≡ x.parent → SameRest x y → SameLwps x y
    → y.space ≡ x.space → y.fds ≡ x.fds → StaysLawful pid x y
kept-parts pid x y parent rest lwps space fds = record {
  lawful = lawful-lwps pid x y rest lwps space fds;
  parent = parent;
  ended = rest.ended;
  size = ap mapped_size space;
  fds = fds;
}

-- one lwp is changed; every lwp is
pub keeps-lwp : (id : ℕ) (f : TracedLwp → TracedLwp) → KeepsLwp f → Keeps (with_lwp id f)
unfolding with_lwp
keeps-lwp id f keeps pid x =
    kept-parts pid x (record x { lwps = change_under id f x.lwps }) refl
    (same_rest x _ refl refl refl refl refl (λ it. it)) (changed_lwps x id f keeps) refl refl

pub keeps-each : (f : TracedLwp → TracedLwp) → KeepsLwp f → Keeps (λ x. record x { lwps = map_each f x.lwps })
keeps-each f keeps pid x =
    kept-parts pid x (record x { lwps = map_each f x.lwps }) refl (same_rest x _ refl refl refl refl refl (λ it. it))
    (mapped_lwps x f keeps) refl refl
