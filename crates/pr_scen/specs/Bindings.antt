-- The names of a script, and the handles that they stand for.
use Rattle.std.specs.Prelude.{ℕ, Option, Some, None, List, [], ◌∷◌, ◌++◌, replicate, length, slice_index, slice_set, is_some, if◌then◌else◌}
use Rattle.pr_model.specs.Replies.{no_handle}
use Rattle.pr_scen.specs.Names.{place_of}
use Rattle.pr_scen.specs.declared.script_lines.ScriptLine.{ScriptLine}
use Rattle.pr_scen.specs.declared.script_lines.ScriptLine.TheVariants as line

-- the names that a script opens, each once, and the handle that each stands for
pub record Bindings : Type 0 where
  pub names : List (List ℕ)
  pub handles : List ℕ

abbrev pub handle_at : List ℕ → Option ℕ → ℕ
handle_at handles None = no_handle
handle_at handles (Some place) = slice_index handles place

-- the handle that a name stands for
unfoldable pub handle_of : Bindings → List ℕ → ℕ
handle_of b name = handle_at b.handles (place_of b.names name)

abbrev pub with_handle : List ℕ → ℕ → Option ℕ → List ℕ
with_handle handles handle None = handles
with_handle handles handle (Some place) = slice_set handles place handle

-- the names with one of them bound to a handle
unfoldable pub bound : Bindings → List ℕ → ℕ → Bindings
bound b name handle = record b { handles = with_handle b.handles handle (place_of b.names name) }

-- names with one more, where it is not among them
unfoldable pub with_name : List (List ℕ) → List ℕ → List (List ℕ)
with_name names name = if is_some (place_of names name) then names else names ++ name ∷ []

-- names with the one that a line opens
unfoldable pub with_opened : List (List ℕ) → ScriptLine → List (List ℕ)
with_opened names (line.Open name pid lwp file mode) = with_name names name
with_opened names (line.Close name) = names
with_opened names (line.Read name at len) = names
with_opened names (line.Poll polled) = names
with_opened names (line.Write name bytes) = names
with_opened names (line.Interrupt controller) = names
with_opened names (line.Spawn program held) = names
with_opened names (line.Kill pid sig) = names
with_opened names (line.Until moment) = names
with_opened names line.List = names

-- names with those that lines open
unfoldable pub all_opened : List (List ℕ) → List ScriptLine → List (List ℕ)
all_opened names [] = names
all_opened names (l ∷ lines) = all_opened (with_opened names l) lines

-- the names that a script opens, none of them bound to a handle yet
unfoldable pub unbound : List ScriptLine → Bindings
unbound lines = let names = all_opened [] lines in
    record { names = names; handles = replicate (length names) no_handle }
