use Rattle.std.proofs.Common.{◌≡◌, ℕ, ◌+◌, ◌-◌, ◌<◌, ◌≤◌, Option, Some, None, [], ◌∷◌, length, get_or, drop, refl, arith}
use Rattle.std.specs.List.{All, slice_get}
use Rattle.std.proofs.lemmas.List.{drop_more, drop_all}
use Rattle.std.proofs.lemmas.List.Elements.{All-set, All-weaker}
use Rattle.pr_num.specs.declared.files.OpenFile.{OpenFile}
use Rattle.pr_num.specs.Files.{FileTable, Descriptors, with_user_gone, with_all_closed}
use Rattle.pr_parts.specs.FileTables.{IsFileTable, HasRoom, HasRoomAt}
use Rattle.pr_parts.specs.FileCalls.{with_user_added, with_all_shared}
use Rattle.pr_file_laws.proofs.TableLemmas.{IsFileTable-user_gone, IsFileTable-user_added}
use Rattle.pr_num.proofs.SearchLemmas.{All-at}

-- All descriptors of a process at once.

-- a loop over the descriptors, at one of them and behind the last
pub with_all_closed-free : (t : FileTable) (fds : Descriptors) (i : ℕ) (d : Option ℕ) → i < length fds
    → get_or fds i d ≡ None → with_all_closed t (drop i fds) ≡ with_all_closed t (drop (i + 1) fds)
unfolding with_all_closed
with_all_closed-free t fds i d within here = rw (drop_more fds i d within, here) refl

pub with_all_closed-taken : (t : FileTable) (fds : Descriptors) (i place : ℕ) (d : Option ℕ) → i < length fds
    → get_or fds i d ≡ Some place
    → with_all_closed t (drop i fds) ≡ with_all_closed (with_user_gone t place) (drop (i + 1) fds)
unfolding with_all_closed
with_all_closed-taken t fds i place d within here = rw (drop_more fds i d within, here) refl

pub with_all_closed-end : (t : FileTable) (fds : Descriptors) (i : ℕ) → length fds ≤ i
    → with_all_closed t (drop i fds) ≡ t
unfolding with_all_closed
with_all_closed-end t fds i past = rw (drop_all i fds past) refl

pub with_all_shared-free : (t : FileTable) (fds : Descriptors) (i : ℕ) (d : Option ℕ) → i < length fds
    → get_or fds i d ≡ None → with_all_shared t (drop i fds) ≡ with_all_shared t (drop (i + 1) fds)
unfolding with_all_shared
with_all_shared-free t fds i d within here = rw (drop_more fds i d within, here) refl

pub with_all_shared-taken : (t : FileTable) (fds : Descriptors) (i place : ℕ) (d : Option ℕ) → i < length fds
    → get_or fds i d ≡ Some place
    → with_all_shared t (drop i fds) ≡ with_all_shared (with_user_added t place) (drop (i + 1) fds)
unfolding with_all_shared
with_all_shared-taken t fds i place d within here = rw (drop_more fds i d within, here) refl

pub with_all_shared-end : (t : FileTable) (fds : Descriptors) (i : ℕ) → length fds ≤ i
    → with_all_shared t (drop i fds) ≡ t
unfolding with_all_shared
with_all_shared-end t fds i past = rw (drop_all i fds past) refl

-- ---- a table of files stays one

pub IsFileTable-all_closed : (t : FileTable) (fds : Descriptors) → IsFileTable t → IsFileTable (with_all_closed t fds)
unfolding with_all_closed
IsFileTable-all_closed t [] h = h
IsFileTable-all_closed t (None ∷ fds) h = IsFileTable-all_closed t fds h
IsFileTable-all_closed t (Some place ∷ fds) h =
    IsFileTable-all_closed (with_user_gone t place) fds (IsFileTable-user_gone t place h)

pub IsFileTable-all_shared : (t : FileTable) (fds : Descriptors) → IsFileTable t → IsFileTable (with_all_shared t fds)
unfolding with_all_shared
IsFileTable-all_shared t [] h = h
IsFileTable-all_shared t (None ∷ fds) h = IsFileTable-all_shared t fds h
IsFileTable-all_shared t (Some place ∷ fds) h =
    IsFileTable-all_shared (with_user_added t place) fds (IsFileTable-user_added t place h)

-- ---- room for more users

fewer_fit : (more : ℕ) (o : Option OpenFile) → HasRoomAt (more + 1) o → HasRoomAt more o
fewer_fit more None room = tt
fewer_fit more (Some o) room = omega arith

-- one descriptor more leaves room for one fewer
pub HasRoom-user_added : (t : FileTable) (place more : ℕ) → HasRoom t (more + 1)
    → HasRoom (with_user_added t place) more
unfolding with_user_added
HasRoom-user_added t place more h = go (slice_get t.opens place) refl
  where
    same : All (HasRoomAt more) t.opens
    same = All-weaker (HasRoomAt (more + 1)) (HasRoomAt more) (fewer_fit more) t.opens h.each

    go : (found : Option (Option OpenFile)) → slice_get t.opens place ≡ found → HasRoom (with_user_added t place) more
    go None e = rw e (record { each = same })
    go (Some None) e = rw e (record { each = same })
    go (Some (Some o)) e =
        rw e (let here = All-at (HasRoomAt (more + 1)) t.opens place (Some o) e h.each in
        record {
          each =
              All-set (HasRoomAt more) t.opens place (Some (record o { users = o.users + 1 })) (omega arith) same;
        })

pub HasRoom-fewer : (t : FileTable) (more fewer : ℕ) → fewer ≤ more → HasRoom t more → HasRoom t fewer
HasRoom-fewer t more fewer within h =
    record { each = All-weaker (HasRoomAt more) (HasRoomAt fewer) weaker t.opens h.each }
  where
    weaker : (o : Option OpenFile) → HasRoomAt more o → HasRoomAt fewer o
    weaker None room = tt
    weaker (Some o) room = omega arith

-- at one more descriptor of a loop
pub HasRoom-taken : (t : FileTable) (place i n : ℕ) → i < n → HasRoom t (n - i)
    → HasRoom (with_user_added t place) (n - (i + 1))
HasRoom-taken t place i n within h =
    HasRoom-user_added t place (n - (i + 1)) (HasRoom-fewer t (n - i) (n - (i + 1) + 1) (omega arith) h)

pub HasRoom-free : (t : FileTable) (i n : ℕ) → i < n → HasRoom t (n - i) → HasRoom t (n - (i + 1))
HasRoom-free t i n within h = HasRoom-fewer t (n - i) (n - (i + 1)) (omega arith) h

pub ruleset closing = (with_all_closed-end, with_all_closed-free, with_all_closed-taken)

pub ruleset sharing =
    (with_all_shared-end, with_all_shared-free, with_all_shared-taken, HasRoom-taken, HasRoom-free, HasRoom-fewer)
