-- What one word more makes of the options of truss(1).
use Rattle.std.specs.Prelude.{◌-◌, ◌||◌, ℕ, Bool, true, false, Option, None, Some, List, [], ◌∷◌, codes, is_some, Result, Ok, Err, if◌then◌else◌}
use Rattle.std.specs.Str.{bytes_eq}
use Rattle.pr_line.specs.Entries.{list_of, signal_named, signal_numbered, fault_named, fault_numbered, call_named, call_numbered}
use Rattle.pr_line.specs.FunctionNames.{function_names_of}
use Rattle.pr_line.specs.Pids.{pids_of}
use Rattle.pr_line.specs.declared.faults.WordFault.{WordFault}
use Rattle.pr_line.specs.declared.faults.WordFault.TheVariants.{BadOption, BadName}
use Rattle.pr_line.specs.declared.function_names.FunctionNames.{FunctionNames}
use Rattle.pr_line.specs.declared.options.Options.{Options}
use Rattle.pr_line.specs.declared.reading.ListOption.{ListOption}
use Rattle.pr_line.specs.declared.reading.ListOption.TheVariants.{Calls, Signals, Faults, Processes, Functions}
use Rattle.pr_line.specs.declared.reading.Draft.{Draft}
use Rattle.pr_text.specs.Names.{name_of}
use Rattle.pr_num.specs.Limits.{all_calls, all_faults, all_signals}

-- nothing asked: all calls, signals and faults, of no process yet
abbrev pub no_options : Options
no_options =
    record {
      follow = false;
      lwps = false;
      count = false;
      calls = all_calls;
      signals = all_signals;
      faults = all_faults;
      pids = [];
      program = None;
      functions = [];
    }

-- the options so far, the functions that are named, the option whose list comes next, if one does, and whether -f or -c
-- stands among the words
abbrev pub start : Bool → Draft
start mixed = record { options = no_options; functions = None; pending = None; mixed = mixed }

-- a list that was read, or one with a part that stands for no entry, which is refused unless bad names are passed over
abbrev pub with_list : Bool → ℕ → Draft → (ℕ → Options) → Option ℕ → Result Draft WordFault
with_list lenient n d change (Some set) = Ok (record d { options = change set; pending = None })
with_list lenient n d change None = if lenient then Ok (record d { pending = None }) else Err (BadName n)

abbrev pub with_pids : ℕ → Draft → Option (List ℕ) → Result Draft WordFault
with_pids n d (Some ids) = Ok (record d { options = record d.options { pids = ids }; pending = None })
with_pids n d None = Err (BadOption n)

-- the functions that a word names take the place of those of an earlier one
abbrev pub with_functions : ℕ → Draft → Option FunctionNames → Result Draft WordFault
with_functions n d (Some names) = Ok (record d { functions = Some names; pending = None })
with_functions n d None = Err (BadOption n)

-- Word n is the list of an option, a row an option: -t, -s, -m, -p and -u. A later list takes the place of an earlier
-- one.
unfoldable pub list_taken : Bool → ℕ → Draft → List ℕ → ListOption → Result Draft WordFault
list_taken lenient n d word Calls =
    with_list lenient n d (λ set. record d.options { calls = set }) (list_of call_named call_numbered all_calls word)
list_taken lenient n d word Signals =
    with_list lenient n d (λ set. record d.options { signals = set })
    (list_of signal_named signal_numbered all_signals word)
list_taken lenient n d word Faults =
    with_list lenient n d (λ set. record d.options { faults = set })
    (list_of fault_named fault_numbered all_faults word)
list_taken lenient n d word Processes = with_pids n d (pids_of word)
list_taken lenient n d word Functions = with_functions n d (function_names_of word)

-- -u, which stands neither beside -f nor beside -c
abbrev pub before_functions : ℕ → Draft → Result Draft WordFault
before_functions n d = if d.mixed then Err (BadOption n) else Ok (record d { pending = Some Functions })

abbrev pub with_program : ℕ → Draft → Option (List ℕ) → Result Draft WordFault
with_program n d (Some name) = Ok (record d { options = record d.options { program = Some name } })
with_program n d None = Err (BadOption n)

-- Word n is an option or the program's name, a row a word. -i is always in force.
unfoldable pub option_taken : ℕ → Draft → List ℕ → Result Draft WordFault
option_taken n d word =
    if bytes_eq word (codes "-f") then Ok (record d { options = record d.options { follow = true } })
    else (if bytes_eq word (codes "-l") then Ok (record d { options = record d.options { lwps = true } })
    else (if bytes_eq word (codes "-c") then Ok (record d { options = record d.options { count = true } })
    else (if bytes_eq word (codes "-i") then Ok d
    else (if bytes_eq word (codes "-t") then Ok (record d { pending = Some Calls })
    else (if bytes_eq word (codes "-s") then Ok (record d { pending = Some Signals })
    else (if bytes_eq word (codes "-m") then Ok (record d { pending = Some Faults })
    else (if bytes_eq word (codes "-p") then Ok (record d { pending = Some Processes })
    else (if bytes_eq word (codes "-u") then before_functions n d
    else with_program n d (name_of word)))))))))

abbrev pub option_or_list : Bool → ℕ → Draft → List ℕ → Option ListOption → Result Draft WordFault
option_or_list lenient n d word None = option_taken n d word
option_or_list lenient n d word (Some k) = list_taken lenient n d word k

-- Word n follows what was read. The program is the last word, so that a word that another one follows was no program.
unfoldable pub word_taken : Bool → ℕ → Draft → List ℕ → Result Draft WordFault
word_taken lenient n d word =
    if is_some d.options.program then Err (BadOption (n - 1)) else option_or_list lenient n d word d.pending

-- ---- which words are options, whatever the lists between them hold

-- whether the word after an option is its list
unfoldable pub takes_list : List ℕ → Bool
takes_list word =
    bytes_eq word (codes "-t") || bytes_eq word (codes "-s") || bytes_eq word (codes "-m") || bytes_eq word (codes "-p")
    || bytes_eq word (codes "-u")

-- whether -f or -c is an option among words, the first of which is a list or is none
unfoldable pub follows_or_counts : Bool → List (List ℕ) → Bool
follows_or_counts is_list [] = false
follows_or_counts is_list (word ∷ words) =
    if is_list then follows_or_counts false words
    else bytes_eq word (codes "-f") || bytes_eq word (codes "-c") || follows_or_counts (takes_list word) words
