-- What is known before an entry: open handles by what they stand for, processes by what they run, and when they moved.
use Rattle.std.specs.Prelude.{ℕ, Bool, true, false, Option, Some, None, List, [], ◌++◌, codes, decimal, option_map, if◌then◌else◌}
use Rattle.std.specs.List.{flat_map, slice_get}
use Rattle.pr_num.specs.ById.{under, inserted, without_id}
use Rattle.pr_model.specs.FileNames.{file_name}
use Rattle.pr_model.specs.declared.calls.Call.{Call}
use Rattle.pr_model.specs.declared.calls.Call.TheVariants as call
use Rattle.pr_model.specs.declared.calls.File.{File}
use Rattle.pr_model.specs.declared.calls.File.TheVariants as file
use Rattle.pr_model.specs.declared.calls.Mode.{Mode}
use Rattle.pr_model.specs.declared.calls.Mode.TheVariants as mode
use Rattle.pr_model.specs.declared.calls.Reply.{Reply}
use Rattle.pr_model.specs.declared.calls.Reply.TheVariants as reply
use Rattle.pr_model.specs.declared.events.Act.{Act}
use Rattle.pr_model.specs.declared.events.Act.TheVariants as act
use Rattle.pr_plain.specs.HistoryText.{target_text}
use Rattle.pr_hist.specs.Fields.{layout_of}
use Rattle.pr_hist.specs.Listings.{Listing}
use Rattle.pr_hist.specs.Phrases.{phrase}
use Rattle.pr_hist.specs.declared.fields.Layout.{Layout}
use Rattle.pr_hist.specs.declared.fields.Layout.TheVariants as layout
use Rattle.pr_hist.specs.declared.names.Known.{Known}
use Rattle.pr_hist.specs.declared.phrases.Phrase.TheVariants.{LastMoved}

-- the open handles, each with what it stands for
abbrev pub Handles : Type 0
Handles = List (ℕ × Known)

-- What is known: the programs with their lines, the open handles, for processes the place of the listing of the program
-- that they run, counted from 0, and for processes the entry in which an lwp of theirs last had a turn.
pub record Names : Type 0 where
  pub listings : List Listing
  pub handles : Handles
  pub running : List (ℕ × ℕ)
  pub moved : List (ℕ × ℕ)

-- for what a file is open
unfoldable pub mode_words : Mode → List ℕ
mode_words mode.Read = []
mode_words mode.Write = codes ", writing"
mode_words mode.WriteExcl = codes ", writing, exclusive"

-- an open file: its name, whose it is, and for what it is open
unfoldable pub known_text : Known → List ℕ
known_text k = file_name k.file ++ (codes " of " ++ (target_text k.pid k.lwp ++ mode_words k.mode))

-- a handle by what it stands for, by its number where it is not open
abbrev pub known_or_number : ℕ → Option Known → List ℕ
known_or_number h None = codes "handle " ++ decimal h
known_or_number h (Some k) = known_text k

unfoldable pub handle_text : Names → ℕ → List ℕ
handle_text names h = known_or_number h (under h names.handles)

-- handles of a list
unfoldable pub listed_text : Names → ℕ → List ℕ
listed_text names h = codes " " ++ (handle_text names h ++ codes ";")

unfoldable pub handles_text : Names → List ℕ → List ℕ
handles_text names hs = flat_map (listed_text names) hs

-- the record that is read by a handle
abbrev pub layout_by : Option Known → Layout
layout_by None = layout.Raw
layout_by (Some k) = layout_of k.file

unfoldable pub layout_in : Names → ℕ → Layout
layout_in names h = layout_by (under h names.handles)

-- the process whose file is open by a handle
unfoldable pub process_by : Names → ℕ → Option ℕ
process_by names h = option_map (λ k. k.pid) (under h names.handles)

-- ---- what processes run

-- the listing of the program that a process runs, where that is known
abbrev pub listing_at : List Listing → Option ℕ → Option Listing
listing_at listings None = None
listing_at listings (Some place) = slice_get listings place

unfoldable pub listing_of : Names → ℕ → Option Listing
listing_of names pid = listing_at names.listings (under pid names.running)

-- whether a file is the memory of its process
unfoldable pub is_memory : File → Bool
is_memory file.Mem = true
is_memory _ = false

-- that of the process whose file is open by a handle
abbrev pub listing_for : Names → Option Known → Option Listing
listing_for names None = None
listing_for names (Some k) = listing_of names k.pid

unfoldable pub listing_by : Names → ℕ → Option Listing
listing_by names h = listing_for names (under h names.handles)

-- the same where the file is its memory: only there a place in a file is an address
abbrev pub memory_for : Names → Option Known → Option Listing
memory_for names None = None
memory_for names (Some k) = if is_memory k.file then listing_of names k.pid else None

unfoldable pub memory_by : Names → ℕ → Option Listing
memory_by names h = memory_for names (under h names.handles)

-- ---- when processes moved

-- the entry in which a process last moved, where it did
abbrev pub moved_or_none : ℕ → Option ℕ → List ℕ
moved_or_none p None = []
moved_or_none p (Some n) = codes "; process " ++ (decimal p ++ (phrase LastMoved ++ decimal n))

-- that of the process whose file is open by a handle
abbrev pub moved_for : Names → Option Known → List ℕ
moved_for names None = []
moved_for names (Some k) = moved_or_none k.pid (under k.pid names.moved)

unfoldable pub moved_text : Names → ℕ → List ℕ
moved_text names h = moved_for names (under h names.handles)

-- ---- how names come and go

-- a handle with what it stands for now, or a process with what it runs
unfoldable pub named : {X : Type 0} → ℕ → X → List (ℕ × X) → List (ℕ × X)
named h k names = inserted h k (without_id h names)

-- an open that gave a handle
unfoldable pub opened : Known → Reply → Handles → Handles
opened k (reply.Handle h) names = named h k names
opened k _ names = names

-- a close that was done
unfoldable pub closed : ℕ → Reply → Handles → Handles
closed h reply.Done names = without_id h names
closed h _ names = names

-- the names after a call and its reply
unfoldable pub names_after : Handles → Call → Reply → Handles
names_after names (call.Open pid lwp file mode) r =
    opened (record { pid = pid; lwp = lwp; file = file; mode = mode }) r names
names_after names (call.Close h) r = closed h r names
names_after names _ r = names

-- the handles after what was done
unfoldable pub handles_after : Handles → Act → Handles
handles_after names (act.Call c r) = names_after names c r
handles_after names _ = names
