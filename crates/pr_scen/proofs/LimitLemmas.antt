-- What was read of a scenario keeps its limits, and so does the scenario.
use Rattle.std.proofs.Common.{◌≡◌, ℕ, ◌+◌, ◌<◌, ◌≤◌, Bool, true, false, not, ◌||◌, cond, nat_lt, Option, Some, None, is_some, List, [], ◌∷◌, ◌++◌, length, map, unwrap_or, Result, Ok, Err, refl, sym, ◌∙◌, ap, arith}
use Rattle.std.specs.Prelude.{◌==◌, zero, suc, codes, nat_le, All, sum_by, count_by, slice_get, option_map, replicate}
use Rattle.std.specs.List.{list_any, position_from}
use Rattle.std.specs.Result.{IfOk}
use Rattle.std.specs.Str.{bytes_eq}
use Rattle.std.proofs.lemmas.Bool.{and_parts, leb-true, not-true}
use Rattle.std.proofs.lemmas.List.{length-append, length-map, length-replicate, map-append}
use Rattle.std.proofs.lemmas.List.Elements.{All-push, All-weaker, All-head, All-tail, All-nil}
use Rattle.std.proofs.lemmas.List.Sums.{sum_by_push, sum_by-cons}
use borrow.Author.Tests.{ltb-true}
use Rattle.pr_num.specs.Programs.{Program}
use Rattle.pr_parts.specs.FileTables.{names_differ, has_name}
use Rattle.pr_line.specs.Reading.{asked_of, has_bad_option}
use Rattle.pr_line.specs.declared.faults.WordFault.{WordFault}
use Rattle.pr_line.specs.declared.reading.Asked.{Asked}
use Rattle.pr_text.specs.Names.{name_of}
use Rattle.pr_text.specs.NumberWords.{number_of, id_of}
use Rattle.pr_text.specs.QuotedWords.{quoted_bytes}
use Rattle.pr_text.specs.Steps.{ok_or, none, one, two, folded}
use Rattle.pr_text.specs.Words.{texts_of}
use Rattle.pr_scen.proofs.NameLemmas.{place_inside}
use Rattle.pr_scen.proofs.StepLemmas.{if_ok, then_ok, of_ok, numbered_ok, folded_ok, ok_some, of_some}
use Rattle.pr_scen.specs.Blocks.{numbered, item_in, line_added, begun, ended, program_read, program_added, script_words_added, script_line_read, script_added, block_added, endless_kind, part_added, parts_added}
use Rattle.pr_scen.specs.Drafts.{nothing, with_turns, with_file, with_process, with_spawn, with_controller, knows_program, has_program, with_truss, with_schedule, with_item, may_begin, with_program, with_line, call_added, script_line_added, with_script, made}
use Rattle.pr_model.specs.ToolNames.{process_tool_of_name}
use Rattle.pr_scen.specs.Items.{turns_of, file_of, program_of, spawn_of, script_of, truss_read, truss_of, process_tool_line, tool_line_of, unless_none, schedule_of, item_with, item_of}
use Rattle.pr_num.specs.Limits.{default_turns, all_mappings_limit, controller_limit, file_limit, file_size_limit, list_line_limit, program_limit, schedule_limit, spawn_limit, turn_limit}
use Rattle.pr_text.specs.Comments.{begins_comment}
use Rattle.pr_scen.specs.Lines.{readable}
use Rattle.pr_scen.specs.Functions.{functions_of}
use Rattle.pr_scen.specs.Names.{place_of}
use Rattle.pr_scen.specs.Parts.{Part, line, block, endless}
use Rattle.pr_scen.specs.Reading.{draft_in, scenario_in}
use Rattle.pr_model.specs.FirstState.{first_size, mapped_at_start, size_at_start, stored_file}
use Rattle.pr_scen.specs.Scenarios.{is_list, lists_in, IsWithinLimits}
use Rattle.pr_scen.specs.Schedules.{with_turns_of, turn_count, actors_of}
use Rattle.pr_scen.specs.Scripts.{first_script}
use Rattle.pr_scen.specs.ScriptLines.{script_line_of}
use Rattle.pr_scen.specs.declared.drafts.Draft.{Draft}
use Rattle.pr_scen.specs.declared.items.Item.{Item}
use Rattle.pr_scen.specs.declared.items.Item.TheVariants as item
use Rattle.pr_scen.specs.declared.plans.Plan.{Plan}
use Rattle.pr_scen.specs.declared.plans.Plan.TheVariants.{Script, Truss, Tool, Gcore, Probe}
use Rattle.pr_scen.specs.declared.refusals.ScenKind.{ScenKind}
use Rattle.pr_scen.specs.declared.refusals.ScenKind.TheVariants.{BadOperand, UnknownName, Double, TooMany}
use Rattle.pr_scen.specs.declared.schedules.Turns.{Turns}
use Rattle.pr_scen.specs.declared.script_blocks.InScript.{InScript}
use Rattle.pr_scen.specs.declared.script_blocks.InScript.TheVariants as in_script
use Rattle.pr_scen.specs.declared.script_lines.ScriptLine.{ScriptLine}
use Rattle.pr_scen.specs.declared.script_lines.ScriptLine.TheVariants as call
use Rattle.pr_num.proofs.SearchLemmas.{list_any-push}
use Rattle.pr_scen.proofs.DraftLemmas.{room_after, may}

-- ---- what a line says of turns: not 0

abbrev InRange : Item → Type 0
InRange (item.Turns n) = 1 ≤ n
InRange _ = Unit {0}

not_zero : (n : ℕ) (b : Bool) → (n == 0) ≡ b → IfOk (cond b (Err BadOperand) (Ok (item.Turns n))) InRange
not_zero n true e = tt
not_zero zero false e = cc
not_zero (suc n) false e = omega arith

in_truss : (words : List (List ℕ)) (r : Result Asked WordFault) → IfOk (truss_read words r) InRange
in_truss words (Ok asked) = tt
in_truss words (Err fault) = if_ok InRange (has_bad_option words) _ _ (λ _. tt) (λ _. tt)

in_process_tool : (word : List ℕ) (pid : ℕ) → IfOk (process_tool_line word pid) InRange
unfolding process_tool_line
in_process_tool word pid =
    if_ok InRange (bytes_eq word (codes "ptree")) _ _ (λ _. tt) (λ _.
    if_ok InRange (bytes_eq word (codes "gcore")) _ _ (λ _. tt) (λ _.
    if_ok InRange (bytes_eq word (codes "apfiles")) _ _ (λ _. tt) (λ _.
    then_ok InRange (ok_or UnknownName (process_tool_of_name word)) _ (λ kind _. tt))))

in_tool : (operands : List (List ℕ)) → IfOk (tool_line_of operands) InRange
unfolding tool_line_of
in_tool [] = tt
in_tool (word ∷ []) = if_ok InRange (bytes_eq word (codes "ptree")) _ _ (λ _. tt) (λ _. tt)
in_tool (word ∷ id ∷ []) =
    then_ok InRange (ok_or BadOperand (name_of word)) _
    (λ _ _. then_ok InRange (ok_or BadOperand (id_of id)) _ (λ pid _. in_process_tool word pid))
in_tool (word ∷ id ∷ more ∷ others) = tt

in_schedule : (turns : List Turns) → IfOk (unless_none turns) InRange
in_schedule [] = tt
in_schedule (t ∷ turns) = tt

item_in_range : (row : List (List ℕ)) → IfOk (item_of row) InRange
unfolding item_of item_with turns_of file_of program_of spawn_of script_of truss_of schedule_of
item_in_range [] = tt
item_in_range (first ∷ operands) =
    if_ok InRange (begins_comment first) _ _ (λ _. tt) (λ _.
    if_ok InRange (bytes_eq first (codes "turns")) _ _
    (λ _. then_ok InRange (one BadOperand operands) _
    (λ word _. then_ok InRange (ok_or BadOperand (number_of word)) _ (λ n _. not_zero n _ refl))) (λ _.
    if_ok InRange (bytes_eq first (codes "file")) _ _
    (λ _. then_ok InRange (two BadOperand operands) _
    (λ words _.
    then_ok InRange (ok_or BadOperand (name_of words.0)) _
    (λ name _. then_ok InRange (ok_or BadOperand (quoted_bytes words.1)) _ (λ bytes _. tt)))) (λ _.
    if_ok InRange (bytes_eq first (codes "program")) _ _
    (λ _. then_ok InRange (one BadOperand operands) _
    (λ word _. then_ok InRange (ok_or BadOperand (name_of word)) _ (λ name _. tt))) (λ _.
    if_ok InRange (bytes_eq first (codes "spawn")) _ _
    (λ _. then_ok InRange (one BadOperand operands) _
    (λ word _. then_ok InRange (ok_or BadOperand (name_of word)) _ (λ name _. tt))) (λ _.
    if_ok InRange (bytes_eq first (codes "script")) _ _ (λ _. then_ok InRange (none BadOperand operands) _ (λ u _. tt))
    (λ _.
    if_ok InRange (bytes_eq first (codes "truss")) _ _ (λ _. in_truss operands (asked_of operands)) (λ _.
    if_ok InRange (bytes_eq first (codes "tool")) _ _ (λ _. in_tool operands) (λ _.
    if_ok InRange (bytes_eq first (codes "schedule")) _ _
    (λ _. then_ok InRange (with_turns_of [] operands) unless_none (λ turns _. in_schedule turns)) (λ _. tt)))))))))

-- ---- what was read so far

abbrev TurnsWithin : Option ℕ → Type 0
TurnsWithin None = Unit {0}
TurnsWithin (Some n) = (1 ≤ n) × (n ≤ turn_limit)

-- the files and their names
record AreFiles (names : List (List ℕ)) (files : List (List ℕ × List ℕ)) : Type 0 where
  same : names ≡ map (λ f. f.0) files
  few : length names ≤ file_limit
  short : All (λ f. length f.1 ≤ file_size_limit) files
  own : names_differ (map stored_file files) ≡ true

-- the programs and the processes that are spawned
record AreSpawned (names : List (List ℕ)) (programs : List Program) (spawns : List ℕ) (mapped : ℕ) : Type 0 where
  same : length programs ≡ length names
  few : length names ≤ program_limit
  some_spawns : length spawns ≤ spawn_limit
  of_programs : All (λ place. place < length programs) spawns
  sizes : mapped ≡ mapped_at_start programs spawns
  limit : mapped ≤ all_mappings_limit

-- the lines `list` of the scripts
record AreListed (lists : ℕ) (controllers : List Plan) (lines : List ScriptLine) : Type 0 where
  same : lists ≡ sum_by lists_in controllers + count_by is_list lines
  limit : lists ≤ list_line_limit

pub record IsSound (d : Draft) : Type 0 where
  turns_within : TurnsWithin d.turns
  files_within : AreFiles d.file_names d.files
  spawned : AreSpawned d.program_names d.programs d.spawns d.mapped
  few_controllers : length d.controllers ≤ controller_limit
  listed : AreListed d.lists d.controllers d.lines
  few_turns : length d.schedule ≤ schedule_limit

sound_nothing : IsSound nothing
sound_nothing = record {
  turns_within = tt;
  files_within = record { same = refl; few = omega arith; short = All-nil _; own = refl };
  spawned =
      record {
        same = refl;
        few = omega arith;
        some_spawns = omega arith;
        of_programs = All-nil _;
        sizes = refl;
        limit =
            omega arith;
      };
  few_controllers = omega arith;
  listed = record { same = refl; limit = omega arith };
  few_turns = omega arith;
}

-- ---- lines outside blocks

sound_turns : (d : Draft) (n : ℕ) → 1 ≤ n → IsSound d → IfOk (with_turns d n) IsSound
unfolding with_turns
sound_turns d n some s =
    if_ok IsSound (is_some d.turns) _ _ (λ _. tt)
    (λ _. if_ok IsSound (nat_le n turn_limit) _ _
    (λ most.
    record {
      turns_within = (some, leb-true n turn_limit most);
      files_within = s.files_within;
      spawned = s.spawned;
      few_controllers = s.few_controllers;
      listed = s.listed;
      few_turns = s.few_turns;
    }) (λ _. tt))

pub not_found : (b : Bool) (i : ℕ) (rest : Option ℕ) → cond b (Some i) rest ≡ None → (b ≡ false) × (rest ≡ None)
not_found true i rest e = cc
not_found false i rest e = (refl, e)

differ_more : (files : List (List ℕ × List ℕ)) (i : ℕ) (name bytes : List ℕ)
    → position_from (bytes_eq name) i (map (λ f. f.0) files) ≡ None → names_differ (map stored_file files) ≡ true
    → names_differ (map stored_file files ++ stored_file (name, bytes) ∷ []) ≡ true
differ_more [] i name bytes new own = refl
differ_more (f ∷ files) i name bytes new own =
    let apart =
    and_parts (not (list_any (has_name f.0) (map stored_file files))) (names_differ (map stored_file files)) own in
    let others = not_found (bytes_eq name f.0) i (position_from (bytes_eq name) (i + 1) (map (λ f. f.0) files)) new in
    let rest = differ_more files (i + 1) name bytes others.1 apart.1 in
    rw (list_any-push (has_name f.0) (map stored_file files) (stored_file (name, bytes)) (not-true _ apart.0) others.0)
    rest

no_place : (o : Option ℕ) → is_some o ≡ false → o ≡ None
no_place None e = refl
no_place (Some i) e = cc

files_more : (names : List (List ℕ)) (files : List (List ℕ × List ℕ)) (name bytes : List ℕ) → place_of names name ≡ None
    → length names < file_limit → length bytes ≤ file_size_limit → AreFiles names files
    → AreFiles (names ++ name ∷ []) (files ++ (name, bytes) ∷ [])
unfolding place_of
files_more names files name bytes new room small a = record {
  same = ap (λ ns. ns ++ name ∷ []) a.same ∙ sym (map-append (λ f. f.0) files ((name, bytes) ∷ []));
  few = omega (arith, length-append names (name ∷ []));
  short = All-push (λ f. length f.1 ≤ file_size_limit) files (name, bytes) a.short small;
  own = ap names_differ (map-append stored_file files ((name, bytes) ∷ []))
      ∙ differ_more files 0 name bytes (ap (position_from (bytes_eq name) 0) (sym a.same) ∙ new) a.own;
}

sound_file : (d : Draft) (name bytes : List ℕ) → IsSound d → IfOk (with_file d name bytes) IsSound
unfolding with_file
sound_file d name bytes s =
    if_ok IsSound (is_some (place_of d.file_names name)) _ _ (λ _. tt) (λ new.
    if_ok IsSound (nat_lt (length d.file_names) file_limit) _ _ (λ room.
    if_ok IsSound (nat_le (length bytes) file_size_limit) _ _
    (λ small.
    record {
      turns_within = s.turns_within;
      files_within =
          files_more d.file_names d.files name bytes (no_place _ new) (ltb-true _ _ room)
          (leb-true _ _ small) s.files_within;
      spawned = s.spawned;
      few_controllers = s.few_controllers;
      listed =
          s.listed;
      few_turns = s.few_turns;
    }) (λ _. tt)) (λ _. tt))

-- one process more, of a program that stands
size_some : (o : Option Program) (size : ℕ) → option_map first_size o ≡ Some size → size_at_start o ≡ size
size_some None size e = cc
size_some (Some p) size e = cc

spawned_more : (names : List (List ℕ)) (programs : List Program) (spawns : List ℕ) (mapped place size : ℕ)
    → place < length names → option_map first_size (slice_get programs place) ≡ Some size → length spawns < spawn_limit
    → mapped + size ≤ all_mappings_limit → AreSpawned names programs spawns mapped
    → AreSpawned names programs (spawns ++ place ∷ []) (mapped + size)
spawned_more names programs spawns mapped place size stands has room within a = record {
  same = a.same;
  few = a.few;
  some_spawns = omega (arith, length-append spawns (place ∷ []));
  of_programs = All-push (λ p. p < length programs) spawns place a.of_programs (omega (arith, a.same));
  sizes = omega (
    arith,
    a.sizes,
    sum_by_push (λ p. size_at_start (slice_get programs p)) spawns place,
    size_some (slice_get programs place) size has,
  );
  limit = within;
}

sound_process : (d : Draft) (place size : ℕ) → place < length d.program_names
    → option_map first_size (slice_get d.programs place) ≡ Some size → IsSound d
    → IfOk (with_process d place size) IsSound
sound_process d place size stands has s =
    if_ok IsSound (nat_lt (length d.spawns) spawn_limit) _ _ (λ room.
    if_ok IsSound (nat_le (d.mapped + size) all_mappings_limit) _ _
    (λ within.
    record {
      turns_within = s.turns_within;
      files_within = s.files_within;
      spawned =
          spawned_more d.program_names d.programs d.spawns d.mapped place size stands has (ltb-true _ _ room)
          (leb-true _ _ within) s.spawned;
      few_controllers = s.few_controllers;
      listed = s.listed;
      few_turns =
          s.few_turns;
    }) (λ _. tt)) (λ _. tt)

sound_spawn : (d : Draft) (name : List ℕ) → IsSound d → IfOk (with_spawn d name) IsSound
unfolding with_spawn
sound_spawn d name s =
    then_ok IsSound (ok_or UnknownName (place_of d.program_names name)) _ (λ place found.
    then_ok IsSound (ok_or UnknownName (option_map first_size (slice_get d.programs place))) _ (λ size has.
    sound_process d place size
    (of_some (λ i. i < length d.program_names) (place_of d.program_names name) place
    (ok_some UnknownName _ place found) (place_inside d.program_names name)) (ok_some UnknownName _ size has) s))

-- one controller more
listed_more : (lists : ℕ) (controllers : List Plan) (lines : List ScriptLine) (plan : Plan) → lists_in plan ≡ 0
    → AreListed lists controllers lines → AreListed lists (controllers ++ plan ∷ []) lines
listed_more lists controllers lines plan free a =
    record { same = omega (arith, a.same, free, sum_by_push lists_in controllers plan); limit = a.limit }

sound_controller : (d : Draft) (plan : Plan) → lists_in plan ≡ 0 → IsSound d → IfOk (with_controller d plan) IsSound
unfolding with_controller
sound_controller d plan free s =
    if_ok IsSound (nat_lt (length d.controllers) controller_limit) _ _
    (λ room. let few = ltb-true _ _ room in
    record {
      turns_within = s.turns_within;
      files_within = s.files_within;
      spawned = s.spawned;
      few_controllers =
          omega (arith, length-append d.controllers (plan ∷ []));
      listed =
          listed_more d.lists d.controllers d.lines plan free s.listed;
      few_turns = s.few_turns;
    }) (λ _. tt)

sound_truss : (d : Draft) (asked : Asked) → IsSound d → IfOk (with_truss d asked) IsSound
unfolding with_truss
sound_truss d asked s =
    then_ok IsSound (ok_or UnknownName (functions_of d.program_names d.programs asked.functions)) _ (λ functions _.
    if_ok IsSound (knows_program d asked.options.program) _ _
    (λ _. sound_controller d (Truss (record asked.options { functions = functions })) refl s) (λ _. tt))

-- more turns at the beginning
length-actors : (turns : List Turns) → length (actors_of turns) ≡ turn_count turns
length-actors [] = refl
length-actors (t ∷ turns) =
    let whole : turn_count (t ∷ turns) ≡ t.times + turn_count turns = sum_by-cons (λ u. u.times) t turns in
    omega (
      arith,
      whole,
      length-append (replicate t.times t.actor) (actors_of turns),
      length-replicate t.times t.actor,
      length-actors turns,
    )

sound_schedule : (d : Draft) (turns : List Turns) → IsSound d → IfOk (with_schedule d turns) IsSound
unfolding with_schedule
sound_schedule d turns s =
    if_ok IsSound (nat_le (length d.schedule + turn_count turns) schedule_limit) _ _
    (λ few. let within = leb-true _ _ few in
    record {
      turns_within = s.turns_within;
      files_within = s.files_within;
      spawned = s.spawned;
      few_controllers =
          s.few_controllers;
      listed = s.listed;
      few_turns =
          omega (arith, length-append d.schedule (actors_of turns), length-actors turns);
    }) (λ _. tt)

sound_with : (d : Draft) (i : Item) → InRange i → IsSound d → IfOk (with_item d i) IsSound
unfolding with_item
sound_with d item.Blank range s = s
sound_with d (item.Turns n) range s = sound_turns d n range s
sound_with d (item.File name bytes) range s = sound_file d name bytes s
sound_with d (item.Program name) range s = s
sound_with d (item.Spawn name) range s = sound_spawn d name s
sound_with d item.Script range s = s
sound_with d (item.Truss asked) range s = sound_truss d asked s
sound_with d (item.Tool kind pid) range s = sound_controller d (Tool kind pid) refl s
sound_with d (item.Gcore pid) range s = sound_controller d (Gcore pid) refl s
sound_with d (item.Probe pid) range s = sound_controller d (Probe pid) refl s
sound_with d (item.Schedule turns) range s = sound_schedule d turns s

in_range : (this : List ℕ) → IfOk (item_in this) InRange
in_range this = then_ok InRange (readable this) (λ _. item_of (texts_of this)) (λ _ _. item_in_range (texts_of this))

sound_line : (d : Draft) (this : List ℕ) → IsSound d → IfOk (line_added d this) IsSound
unfolding line_added
sound_line d this s =
    then_ok IsSound (item_in this) (with_item d)
    (λ i is. sound_with d i (of_ok InRange (item_in this) i is (in_range this)) s)

-- ---- blocks

-- one program more
get_more : (programs : List Program) (p : Program) (place : ℕ) → place < length programs
    → slice_get (programs ++ p ∷ []) place ≡ slice_get programs place
get_more [] p place inside = absurd (omega arith)
get_more (q ∷ programs) p zero inside = refl
get_more (q ∷ programs) p (suc place) inside = get_more programs p place (omega arith)

mapped_more : (programs : List Program) (p : Program) (spawns : List ℕ) → All (λ place. place < length programs) spawns
    → mapped_at_start (programs ++ p ∷ []) spawns ≡ mapped_at_start programs spawns
mapped_more programs p [] inside = refl
mapped_more programs p (place ∷ spawns) inside =
    let left : mapped_at_start (programs ++ p ∷ []) (place ∷ spawns)
    ≡ size_at_start (slice_get (programs ++ p ∷ []) place) + mapped_at_start (programs ++ p ∷ []) spawns =
    sum_by-cons (λ q. size_at_start (slice_get (programs ++ p ∷ []) q)) place spawns in
    let right : mapped_at_start programs (place ∷ spawns)
    ≡ size_at_start (slice_get programs place) + mapped_at_start programs spawns =
    sum_by-cons (λ q. size_at_start (slice_get programs q)) place spawns in
    omega (
      arith,
      left,
      right,
      ap size_at_start (get_more programs p place (All-head (λ q. q < length programs) place spawns inside)),
      mapped_more programs p spawns (All-tail (λ q. q < length programs) place spawns inside),
    )

spawned_with : (names : List (List ℕ)) (programs : List Program) (spawns : List ℕ) (mapped : ℕ) (name : List ℕ)
    (p : Program) → length names < program_limit → AreSpawned names programs spawns mapped
    → AreSpawned (names ++ name ∷ []) (programs ++ p ∷ []) spawns mapped
spawned_with names programs spawns mapped name p room a = record {
  same = omega (arith, a.same, length-append programs (p ∷ []), length-append names (name ∷ []));
  few = omega (arith, length-append names (name ∷ []));
  some_spawns = a.some_spawns;
  of_programs =
      All-weaker (λ place. place < length programs) (λ place. place < length (programs ++ p ∷ []))
      (λ place inside. omega (arith, length-append programs (p ∷ []))) spawns a.of_programs;
  sizes = a.sizes ∙ sym (mapped_more programs p spawns a.of_programs);
  limit = a.limit;
}

sound_program : (d : Draft) (name : List ℕ) (p : Program) → length d.program_names < program_limit → IsSound d
    → IsSound (with_program d name p)
unfolding with_program
sound_program d name p room s =
    record {
      turns_within = s.turns_within;
      files_within = s.files_within;
      spawned =
          spawned_with d.program_names d.programs d.spawns d.mapped name p room s.spawned;
      few_controllers =
          s.few_controllers;
      listed = s.listed;
      few_turns = s.few_turns;
    }

sound_program_block : (n : ℕ) (d : Draft) (name : List ℕ) (body : List (List ℕ)) (last : List ℕ)
    → length d.program_names < program_limit → IsSound d → IfOk (program_added n d name body last) IsSound
unfolding program_added
sound_program_block n d name body last room s =
    then_ok IsSound (program_read name (n + 1) body) _ (λ p _.
    then_ok IsSound (numbered (n + (length body + 1)) (ended last)) _ (λ _ _.
    sound_program d name p room s))

-- one line of a script more, where there is room for the script
record IsInScript (d : Draft) : Type 0 where
  sound : IsSound d
  room : length d.controllers < controller_limit

line_more : (d : Draft) (l : ScriptLine) → is_list l ≡ false → IsInScript d → IsInScript (with_line d l)
line_more d l other s =
    let a = s.sound.listed in
    record {
      sound = record {
        turns_within = s.sound.turns_within;
        files_within = s.sound.files_within;
        spawned =
            s.sound.spawned;
        few_controllers = s.sound.few_controllers;
        listed =
            record {
              same =
                  omega (
                    arith,
                    a.same,
                    sum_by_push (λ x. cond (is_list x) 1 0) d.lines l,
                    ap {B = ℕ} (λ b. cond b 1 0) other,
                  );
              limit = a.limit;
            };
        few_turns = s.sound.few_turns;
      };
      room = s.room;
    }

list_more : (d : Draft) → d.lists < list_line_limit → IsInScript d
    → IsInScript (record (with_line d call.List) { lists = d.lists + 1 })
list_more d few s =
    let a = s.sound.listed in
    record {
      sound = record {
        turns_within = s.sound.turns_within;
        files_within = s.sound.files_within;
        spawned =
            s.sound.spawned;
        few_controllers = s.sound.few_controllers;
        listed =
            record {
              same = omega (arith, a.same, sum_by_push (λ x. cond (is_list x) 1 0) d.lines call.List);
              limit =
                  omega arith;
            };
        few_turns = s.sound.few_turns;
      };
      room = s.room;
    }

in_call : (d : Draft) (l : ScriptLine) → IsInScript d → IfOk (call_added d l) IsInScript
unfolding call_added
in_call d (call.Open name pid lwp file mode) s = line_more d _ refl s
in_call d (call.Close name) s = line_more d _ refl s
in_call d (call.Read name at len) s = line_more d _ refl s
in_call d (call.Poll names) s = line_more d _ refl s
in_call d (call.Write name bytes) s = line_more d _ refl s
in_call d (call.Interrupt controller) s = line_more d _ refl s
in_call d (call.Spawn program held) s =
    if_ok IsInScript (has_program d program) _ _ (λ _. line_more d _ refl s) (λ _. tt)
in_call d (call.Kill pid sig) s = line_more d _ refl s
in_call d (call.Until moment) s = line_more d _ refl s
in_call d call.List s =
    if_ok IsInScript (nat_lt d.lists list_line_limit) _ _ (λ few. list_more d (ltb-true _ _ few) s) (λ _. tt)

in_line : (d : Draft) (l : InScript) → IsInScript d → IfOk (script_line_added d l) IsInScript
unfolding script_line_added
in_line d in_script.Blank s = s
in_line d (in_script.Line l) s = in_call d l s

in_words : (n : ℕ) (d : Draft) (this : List ℕ) → IsInScript d → IfOk (script_line_read n d this) IsInScript
unfolding script_line_read
in_words n d this s =
    numbered_ok IsInScript n (script_words_added d this)
    (then_ok IsInScript (readable this) _
    (λ _ _. then_ok IsInScript (script_line_of (texts_of this)) (script_line_added d) (λ l _. in_line d l s)))

-- the script is whole
sound_script : (d : Draft) → IsInScript d → IsSound (with_script d)
unfolding with_script first_script
sound_script d s =
    let a = s.sound.listed in
    record {
      turns_within = s.sound.turns_within;
      files_within = s.sound.files_within;
      spawned = s.sound.spawned;
      few_controllers = omega (arith, s.room, length-append d.controllers (Script (first_script d.lines) ∷ []));
      listed =
          record {
            same = a.same ∙ sym (sum_by_push lists_in d.controllers (Script (first_script d.lines))) ∙ omega arith;
            limit = a.limit;
          };
      few_turns = s.sound.few_turns;
    }

sound_script_block : (n : ℕ) (d : Draft) (body : List (List ℕ)) (last : List ℕ)
    → length d.controllers < controller_limit → IsSound d → IfOk (script_added n d body last) IsSound
unfolding script_added
sound_script_block n d body last room s =
    then_ok IsSound (folded script_line_read (n + 1) d body) _ (λ e is.
    then_ok IsSound (numbered (n + (length body + 1)) (ended last)) _ (λ _ _.
    sound_script e
    (of_ok IsInScript _ e is
    (folded_ok IsInScript script_line_read in_words (n + 1) d body (record { sound = s; room = room })))))

-- ---- parts

abbrev if_room : Bool → Result (Unit {0}) ScenKind
if_room b = cond b (Ok tt) (Err TooMany)

room_at : (b : Bool) → if_room b ≡ Ok tt → b ≡ true
room_at true e = refl
room_at false e = cc

sound_block : (n : ℕ) (d : Draft) (i : Item) (body : List (List ℕ)) (last : List ℕ) → may_begin d i ≡ Ok tt → IsSound d
    → IfOk (block_added n d i body last) IsSound
unfolding block_added may_begin
sound_block n d (item.Program name) body last m s =
    sound_program_block n d name body last
    (ltb-true _ _ (room_after (has_program d name) (nat_lt (length d.program_names) program_limit) m)) s
sound_block n d item.Script body last m s =
    sound_script_block n d body last (ltb-true _ _ (room_at (nat_lt (length d.controllers) controller_limit) m)) s
sound_block n d _ body last m s = s

may_at : (d : Draft) (first : List ℕ) → IfOk (begun d first) (λ i. may_begin d i ≡ Ok tt)
unfolding begun
may_at d first =
    then_ok (λ i. may_begin d i ≡ Ok tt) (item_in first) _
    (λ i _. then_ok (λ j. may_begin d j ≡ Ok tt) (may_begin d i) (λ _. Ok i) (λ u is. is))

sound_part : (d : Draft) (part : Part) → IsSound d → IfOk (part_added d part) IsSound
unfolding part_added
sound_part d (line n this) s = numbered_ok IsSound n (line_added d this) (sound_line d this s)
sound_part d (block n first body last) s =
    then_ok IsSound (numbered n (begun d first)) _
    (λ i is.
    sound_block n d i body last
    (of_ok (λ j. may_begin d j ≡ Ok tt) (numbered n (begun d first)) i is
    (numbered_ok (λ j. may_begin d j ≡ Ok tt) n (begun d first) (may_at d first))) s)
sound_part d (endless n first) s =
    numbered_ok IsSound n (endless_kind d first) (then_ok IsSound (begun d first) _ (λ _ _. tt))

pub sound_parts : (d : Draft) (parts : List Part) → IsSound d → IfOk (parts_added d parts) IsSound
unfolding parts_added
sound_parts d [] s = s
sound_parts d (part ∷ parts) s =
    then_ok IsSound (part_added d part) _
    (λ e is. sound_parts e parts (of_ok IsSound (part_added d part) e is (sound_part d part s)))

-- ---- the scenario

turns_or_default : (t : Option ℕ) → TurnsWithin t
    → (1 ≤ unwrap_or t default_turns) × (unwrap_or t default_turns ≤ turn_limit)
turns_or_default None w = (omega arith, omega arith)
turns_or_default (Some n) w = w

made_within : (d : Draft) → IsSound d → IsWithinLimits (made d)
unfolding made
made_within d s =
    let t = turns_or_default d.turns s.turns_within in
    let f = s.files_within in
    let p = s.spawned in
    record {
      least = t.0;
      most = t.1;
      programs = omega (arith, p.same, p.few);
      files = omega (arith, f.few, ap length f.same, length-map d.files (λ g. g.0));
      short = f.short;
      own_names = f.own;
      spawns = p.some_spawns;
      of_programs = p.of_programs;
      mapped = omega (arith, p.sizes, p.limit);
      controllers = s.few_controllers;
      lists = omega (arith, s.listed.same, s.listed.limit);
      schedule = s.few_turns;
    }

pub scenario_within : (lines : List (List ℕ)) → IfOk (scenario_in lines) IsWithinLimits
unfolding scenario_in draft_in
scenario_within lines =
    then_ok IsWithinLimits (parts_added nothing _) _
    (λ d is. made_within d (of_ok IsSound _ d is (sound_parts nothing _ sound_nothing)))
