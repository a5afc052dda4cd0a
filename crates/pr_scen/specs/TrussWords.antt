-- Words that encode a truss line.
use Rattle.std.specs.Prelude.{◌≡◌, ◌<◌, ◌≤◌, ◌^◌, ℕ, Bool, true, false, Option, Some, None, List, [], ◌∷◌, ◌++◌, codes, decimal, length, map}
use Rattle.std.specs.List.{AllByRecursion, join_with_byte}
use Rattle.pr_num.specs.Sets.{with_number, minus_word}
use Rattle.pr_line.specs.Entries.{signal_numbered, fault_numbered, call_numbered}
use Rattle.pr_line.specs.Functions.{function_limit}
use Rattle.pr_line.specs.declared.function_names.FunctionNames.{FunctionNames}
use Rattle.pr_line.specs.declared.options.Options.{Options}
use Rattle.pr_line.specs.declared.reading.Asked.{Asked}
use Rattle.pr_text.specs.Names.{is_name}
use Rattle.pr_scen.specs.Encoding.{IsId, SomeNames}
use Rattle.pr_num.specs.Limits.{all_calls, all_faults, all_signals}

-- numbers joined by +
abbrev pub joined_word : List ℕ → List ℕ
joined_word ns = join_with_byte 43 (map decimal ns)

-- ---- lists

-- a list of a table: all its entries, those of some numbers, or all but those
pub data Listing : Type 0 where
  every : Listing
  these : List ℕ → Listing
  others : List ℕ → Listing

unfoldable pub listing_word : Listing → List ℕ
listing_word every = codes "all"
listing_word (these ns) = joined_word ns
listing_word (others ns) = 33 ∷ joined_word ns

-- a set with the entries of more numbers
unfoldable pub with_numbers : ℕ → List ℕ → ℕ
with_numbers set [] = set
with_numbers set (n ∷ ns) = with_numbers (with_number set n) ns

-- the set that a list stands for, where the table's set is this one
unfoldable pub listing_set : ℕ → Listing → ℕ
listing_set all every = all
listing_set all (these ns) = with_numbers 0 ns
listing_set all (others ns) = minus_word all (with_numbers 0 ns)

-- a number of an entry, by the table's own numbers
abbrev pub IsEntry : (ℕ → Option ℕ) → ℕ → Type 0
IsEntry numbered n = (n < 2 ^ 64) × (numbered n ≡ Some n)

abbrev pub SomeEntries : (ℕ → Option ℕ) → List ℕ → Type 0
SomeEntries numbered [] = ⊥
SomeEntries numbered (n ∷ ns) = AllByRecursion (IsEntry numbered) (n ∷ ns)

unfoldable pub IsListing : (ℕ → Option ℕ) → Listing → Type 0
IsListing numbered every = Unit {0}
IsListing numbered (these ns) = SomeEntries numbered ns
IsListing numbered (others ns) = SomeEntries numbered ns

-- ---- truss lines

-- what is traced: processes, or a program that is run
pub data Target : Type 0 where
  processes : List ℕ → Target
  runs : List ℕ → Target

abbrev pub SomeIds : List ℕ → Type 0
SomeIds [] = ⊥
SomeIds (id ∷ ids) = AllByRecursion IsId (id ∷ ids)

unfoldable pub IsTarget : Target → Type 0
IsTarget (processes ids) = SomeIds ids
IsTarget (runs name) = is_name name ≡ true

unfoldable pub target_words : Target → List (List ℕ)
target_words (processes ids) = codes "-p" ∷ joined_word ids ∷ []
target_words (runs name) = name ∷ []

abbrev pub target_ids : Target → List ℕ
target_ids (processes ids) = ids
target_ids (runs name) = []

abbrev pub target_program : Target → Option (List ℕ)
target_program (processes ids) = None
target_program (runs name) = Some name

-- the functions that are named, if some are: a program and labels of it
unfoldable pub function_word : FunctionNames → List ℕ
function_word f = f.program ++ 58 ∷ join_with_byte 43 f.labels

unfoldable pub function_words : Option FunctionNames → List (List ℕ)
function_words None = []
function_words (Some f) = codes "-u" ∷ function_word f ∷ []

-- functions are named neither where children are followed nor where events are counted
unfoldable pub MayName : Bool → Bool → Option FunctionNames → Type 0
MayName follow count None = Unit {0}
MayName follow count (Some f) =
    (follow ≡ false) × (count ≡ false) × (is_name f.program ≡ true) × SomeNames f.labels
    × (length f.labels ≤ function_limit)

-- a truss line: whether children are followed, lwps are shown and events are counted; the lists of calls, signals and
-- faults; the functions; and what is traced
pub record TrussLine : Type 0 where
  pub follow : Bool
  pub lwps : Bool
  pub count : Bool
  pub calls : Listing
  pub signals : Listing
  pub faults : Listing
  pub functions : Option FunctionNames
  pub target : Target

abbrev pub flag_words : Bool → List ℕ → List (List ℕ)
flag_words true word = word ∷ []
flag_words false word = []

-- the words after the flags
unfoldable pub list_words : TrussLine → List (List ℕ)
list_words t =
    codes "-t" ∷ listing_word t.calls ∷ codes "-s" ∷ listing_word t.signals ∷ codes "-m" ∷ listing_word t.faults
    ∷ (function_words t.functions ++ target_words t.target)

unfoldable pub truss_words : TrussLine → List (List ℕ)
truss_words t =
    codes "truss"
    ∷ (flag_words t.follow (codes "-f")
    ++ (flag_words t.lwps (codes "-l") ++ (flag_words t.count (codes "-c") ++ list_words t)))

-- the options that it asks for, which have no functions yet
unfoldable pub truss_options : TrussLine → Options
truss_options t = record {
  follow = t.follow;
  lwps = t.lwps;
  count = t.count;
  calls = listing_set all_calls t.calls;
  signals = listing_set all_signals t.signals;
  faults = listing_set all_faults t.faults;
  pids = target_ids t.target;
  program = target_program t.target;
  functions = [];
}

-- what it asks for
abbrev pub truss_asked : TrussLine → Asked
truss_asked t = record { options = truss_options t; functions = t.functions }

-- what can be encoded: lists, functions and processes name some, and names have their form
unfoldable pub IsTrussLine : TrussLine → Type 0
IsTrussLine t =
    IsListing call_numbered t.calls × IsListing signal_numbered t.signals × IsListing fault_numbered t.faults
    × IsTarget t.target × MayName t.follow t.count t.functions
