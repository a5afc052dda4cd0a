use Rattle.std.specs.Prelude.{◌==◌, ◌+◌, ℕ, zero, suc, Bool, List, [], ◌∷◌, Option, Some, None, is_some, nat_le, if◌then◌else◌}
use Rattle.pr_num.specs.Limits.{all_mappings_limit}
use Rattle.pr_num.specs.Spaces.{Space, mapped_size}
use Rattle.pr_parts.specs.PendingSignals.{Pending}
use Rattle.pr_model.specs.State.{ProcessOf, SystemOf, process_of}

-- What a system call reads of the rest of the system. None of it is set by controllers.

-- a process that a signal is sent to: there is none, or it was reaped; it has ended; or it is live, with what pends for
-- it
pub data Life : Type 0 where
  gone : Life
  a_zombie : Life
  live : Pending → Life

-- the children of a process: there is none; none has ended; or the least one that has ended, with its wait status
pub data Children : Type 0 where
  no_child : Children
  all_live : Children
  first_zombie : ℕ → ℕ → Children

-- a child before others
abbrev pub child_before : ℕ → Option ℕ → Children → Children
child_before pid (Some status) others = first_zombie pid status
child_before pid None no_child = all_live
child_before pid None all_live = all_live
child_before pid None (first_zombie other status) = first_zombie other status

module _ {C H K : Type 0} where
  unfoldable pub life_of : SystemOf C H K → ℕ → Life
  life_of s pid = of (process_of s pid)
    where
      by_end : ProcessOf C H K → Option ℕ → Life
      by_end p None = live p.pending
      by_end p (Some status) = a_zombie

      of : Option (ProcessOf C H K) → Life
      of None = gone
      of (Some p) = by_end p p.ended

  -- the children of a process among some, which stand by rising id
  abbrev pub children_among : ℕ → List (ℕ × ProcessOf C H K) → Children
  children_among pid [] = no_child
  children_among pid (e ∷ es) =
      if e.1.parent == pid then child_before e.0 e.1.ended (children_among pid es) else children_among pid es

  unfoldable pub children_of : SystemOf C H K → ℕ → Children
  children_of s pid = children_among pid s.processes

  -- ---- lent memory (vfork(2))

  -- whether a process has lent its memory
  abbrev pub has_lent : ProcessOf C H K → Bool
  has_lent p = is_some p.borrower

  abbrev borrower_in : Option (ProcessOf C H K) → Option ℕ
  borrower_in None = None
  borrower_in (Some p) = p.borrower

  abbrev lender_in : Option (ProcessOf C H K) → Option ℕ
  lender_in None = None
  lender_in (Some p) = p.lender

  abbrev space_in : Option (ProcessOf C H K) → Space
  space_in None = []
  space_in (Some p) = p.space

  -- to whom the process of an id has lent its memory, whose memory it has, and its own memory
  unfoldable pub borrower_at : SystemOf C H K → ℕ → Option ℕ
  borrower_at s pid = borrower_in (process_of s pid)

  unfoldable pub lender_at : SystemOf C H K → ℕ → Option ℕ
  lender_at s pid = lender_in (process_of s pid)

  unfoldable pub space_at : SystemOf C H K → ℕ → Space
  space_at s pid = space_in (process_of s pid)

  -- The memory that a process with this borrower and this memory of its own shows: its own, or that of the last of the
  -- chain of borrowers, of which at most so many are followed.
  abbrev pub space_shown : SystemOf C H K → ℕ → Option ℕ → Space → Space
  space_shown s n None space = space
  space_shown s zero (Some pid) space = []
  space_shown s (suc n) (Some pid) space = space_shown s n (borrower_at s pid) (space_at s pid)

  -- The address space of a process of a system as all that is not the process itself sees it: controllers through its
  -- files and messages, and the tracer. No chain of borrowers is longer than the processes that were made.
  abbrev pub space_seen : SystemOf C H K → ProcessOf C H K → Space
  space_seen s p = space_shown s s.made p.borrower p.space

  -- how many bytes of it are mapped, as controllers see them
  unfoldable pub size_seen : SystemOf C H K → ProcessOf C H K → ℕ
  size_seen s p = mapped_size (space_seen s p)

  -- how many bytes a process has mapped, as every limit counts them: what is lent counts with its borrower
  unfoldable pub size_of : ProcessOf C H K → ℕ
  size_of p = mapped_size p.space

  -- how many bytes all live processes have mapped; zombies have none
  abbrev pub sizes_of : List (ℕ × ProcessOf C H K) → ℕ
  sizes_of [] = 0
  sizes_of (e ∷ es) = size_of e.1 + sizes_of es

  unfoldable pub total_size : SystemOf C H K → ℕ
  total_size s = sizes_of s.processes

  -- whether so many bytes more can be mapped where so many are given up
  unfoldable pub total_has_room : SystemOf C H K → ℕ → ℕ → Bool
  total_has_room s more less = nat_le (total_size s + more) (all_mappings_limit + less)
