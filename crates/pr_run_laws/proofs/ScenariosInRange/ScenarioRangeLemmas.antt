-- A scenario that was read is in range.
use Rattle.std.proofs.Common.{◌≡◌, inl, inr, ℕ, ◌+◌, ◌≤◌, Bool, true, false, is_some, Option, List, [], ◌∷◌, sym, subst, length, nat_le, nat_lt, slice_get, Result, Ok, Err, arith}
use Rattle.std.specs.Prelude.{◌==◌, codes, option_map}
use Rattle.std.specs.List.{All}
use Rattle.std.specs.Result.{IfOk}
use Rattle.std.specs.Str.{bytes_eq}
use Rattle.std.proofs.lemmas.List.{length-map}
use Rattle.std.proofs.lemmas.List.Elements.{All-nil, All-map, All-push, All-tail, All-weaker}
use Rattle.pr_line.specs.Reading.{asked_of, has_bad_option}
use Rattle.pr_line.specs.declared.faults.WordFault.{WordFault}
use Rattle.pr_line.specs.declared.functions.Function.{Function}
use Rattle.pr_line.specs.declared.options.Options.{Options}
use Rattle.pr_line.specs.declared.reading.Asked.{Asked}
use Rattle.pr_model.specs.FileNames.{file_of_name, mode_of_name}
use Rattle.pr_model.specs.FirstState.{first_size, stored_file}
use Rattle.pr_model.specs.Lawful.{IsLawfulProgram}
use Rattle.pr_model.specs.ToolNames.{process_tool_of_name}
use Rattle.pr_num.specs.Limits.{all_mappings_limit, controller_limit, file_limit, file_size_limit, list_line_limit, schedule_limit, spawn_limit, turn_limit}
use Rattle.pr_num.specs.Words.{IsByte}
use Rattle.pr_num.specs.declared.files.StoredFile.{StoredFile}
use Rattle.pr_reached.specs.InRange.{IsFileInRange, IsShortName, IsProgramInRange}
use Rattle.pr_run_laws.proofs.ScenariosInRange.FunctionRanges.{AreShowableOf, functions_of-named}
use Rattle.pr_run_laws.proofs.ScenariosInRange.ProgramRanges.{program-range, second-bytes}
use Rattle.pr_run_laws.proofs.TrussControllers.TrussOptions.{first-options}
use Rattle.pr_run_laws.proofs.TrussControllers.TrussWords.{AreFewAlone, asked-alone}
use Rattle.pr_run_laws.proofs.ScenariosInRange.WordRanges.{AreWordsOfBytes, name_of-range, quoted-bytes, readable-bytes, texts-bytes}
use Rattle.pr_run_laws.proofs.ScenariosInRange.WritingRanges.{messages-bytes}
use Rattle.pr_run_laws.specs.NamedFunctions.{AreShowable, IsShowable, NamesShowable}
use Rattle.pr_run_laws.specs.ScenarioRanges.{HasCodeOfBytes, IsCoreOfBytes, IsLineOfBytes, IsScenarioInRange}
use Rattle.pr_run_laws.specs.ScenarioRuns.{controller_of, truss_of as started_truss}
use Rattle.pr_probe.specs.Probes.{first_probe}
use Rattle.pr_scen.proofs.LimitLemmas.{scenario_within}
use Rattle.pr_scen.proofs.StepLemmas.{if_ok, then_ok, of_ok, numbered_ok, folded_ok, ok_some, of_some}
use Rattle.pr_scen.specs.Blocks.{begun, block_added, ended, endless_kind, item_in, line_added, numbered, part_added, parts_added, program_added, program_read, script_added, script_line_read, script_words_added}
use Rattle.pr_scen.specs.Drafts.{call_added, has_program, knows_program, made, may_begin, nothing, script_line_added, with_controller, with_file, with_item, with_line, with_process, with_program, with_schedule, with_script, with_spawn, with_truss, with_turns}
use Rattle.pr_scen.specs.Functions.{functions_of}
use Rattle.pr_scen.specs.Items.{file_of, item_of, item_with, process_tool_line, program_of, schedule_of, script_of, tool_line_of, truss_of, truss_read, turns_of}
use Rattle.pr_scen.specs.Items as items
use Rattle.pr_scen.specs.Lines.{readable}
use Rattle.pr_scen.specs.Messages.{messages_of}
use Rattle.pr_scen.specs.Names.{place_of}
use Rattle.pr_scen.specs.Parts.{Part, block, endless, line}
use Rattle.pr_scen.specs.Reading.{draft_in, scenario_in, scenario_of}
use Rattle.pr_scen.specs.Scenarios.{IsWithinLimits, Scenario}
use Rattle.pr_scen.specs.Schedules.{turn_count, with_turns_of}
use Rattle.pr_scen.specs.ScriptLines.{call_with, close_of, interrupt_of, kill_of, list_of, open_of, place_of_word, poll_of, read_of, script_line_of, unless_none, until_of, with_names, write_of}
use Rattle.pr_scen.specs.ScriptLines as calls
use Rattle.pr_scen.specs.Scripts.{first_script}
use Rattle.pr_scen.specs.declared.drafts.Draft.{Draft}
use Rattle.pr_scen.specs.declared.items.Item.{Item}
use Rattle.pr_scen.specs.declared.items.Item.TheVariants as item
use Rattle.pr_scen.specs.declared.plans.Plan.{Plan}
use Rattle.pr_scen.specs.declared.plans.Plan.TheVariants.{Script, Truss, Tool, Gcore, Probe}
use Rattle.pr_scen.specs.declared.refusals.ScenKind.TheVariants.{BadOperand, UnknownName}
use Rattle.pr_scen.specs.declared.schedules.Turns.{Turns}
use Rattle.pr_scen.specs.declared.script_blocks.InScript.{InScript}
use Rattle.pr_scen.specs.declared.script_blocks.InScript.TheVariants as in_script
use Rattle.pr_scen.specs.declared.script_lines.ScriptLine.{ScriptLine}
use Rattle.pr_scen.specs.declared.script_lines.ScriptLine.TheVariants as call
use Rattle.pr_text.specs.Comments.{begins_comment}
use Rattle.pr_truss.specs.Marks.{has_functions}
use Rattle.pr_text.specs.Names.{name_of}
use Rattle.pr_text.specs.NumberWords.{id_of, number_of}
use Rattle.pr_text.specs.QuotedWords.{quoted_bytes}
use Rattle.pr_text.specs.Steps.{◌>>=◌, folded, four, none, ok_or, one, some, three, two}
use Rattle.pr_text.specs.TextLines.{lines_of}
use Rattle.pr_text.specs.Words.{texts_of}

-- ---- what a line says outside blocks: files in range, names of programs, and few functions

abbrev InRange : Item → Type 0
InRange (item.File name bytes) = IsFileInRange (stored_file (name, bytes))
InRange (item.Program name) = IsShortName name
InRange (item.Truss asked) = AreFewAlone asked
InRange _ = Unit {0}

-- what is read as a name is one
named : {E : Type 0} (e : E) (word name : List ℕ) → ok_or e (name_of word) ≡ Ok name → IsShortName name
named e word name is = of_some IsShortName (name_of word) name (ok_some e (name_of word) name is) (name_of-range word)

in_file : (row : List (List ℕ)) → AreWordsOfBytes row → IfOk (file_of row) InRange
unfolding file_of
in_file row h =
    then_ok InRange (two BadOperand row) _ (λ words is.
    then_ok InRange (ok_or BadOperand (name_of words.0)) _ (λ name read.
    then_ok InRange (ok_or BadOperand (quoted_bytes words.1)) _ (λ bytes has.
    record {
      name = named BadOperand words.0 name read;
      bytes =
          of_some (All IsByte) (quoted_bytes words.1) bytes (ok_some BadOperand (quoted_bytes words.1) bytes has)
          (quoted-bytes words.1
          (of_ok (λ (v : List ℕ × List ℕ). All IsByte v.1) (two BadOperand row) words is
          (second-bytes BadOperand row h)));
    })))

in_truss : (words : List (List ℕ)) (r : Result Asked WordFault) → IfOk r AreFewAlone → IfOk (truss_read words r) InRange
in_truss words (Ok asked) alone = alone
in_truss words (Err fault) alone = if_ok InRange (has_bad_option words) _ _ (λ _. tt) (λ _. tt)

in_process_tool : (word : List ℕ) (pid : ℕ) → IfOk (process_tool_line word pid) InRange
unfolding process_tool_line
in_process_tool word pid =
    if_ok InRange (bytes_eq word (codes "ptree")) _ _ (λ _. tt)
    (λ _. if_ok InRange (bytes_eq word (codes "gcore")) _ _ (λ _. tt)
    (λ _. if_ok InRange (bytes_eq word (codes "apfiles")) _ _ (λ _. tt)
    (λ _. then_ok InRange (ok_or UnknownName (process_tool_of_name word)) _ (λ kind _. tt))))

in_tool : (operands : List (List ℕ)) → IfOk (tool_line_of operands) InRange
unfolding tool_line_of
in_tool [] = tt
in_tool (word ∷ []) = if_ok InRange (bytes_eq word (codes "ptree")) _ _ (λ _. tt) (λ _. tt)
in_tool (word ∷ id ∷ []) =
    then_ok InRange (ok_or BadOperand (name_of word)) _
    (λ _ _. then_ok InRange (ok_or BadOperand (id_of id)) _
    (λ pid _. in_process_tool word pid))
in_tool (word ∷ id ∷ more ∷ others) = tt

in_schedule : (turns : List Turns) → IfOk (items.unless_none turns) InRange
in_schedule [] = tt
in_schedule (t ∷ turns) = tt

item_in_range : (row : List (List ℕ)) → AreWordsOfBytes row → IfOk (item_of row) InRange
unfolding item_of item_with turns_of program_of items.spawn_of script_of truss_of schedule_of
item_in_range [] h = tt
item_in_range (first ∷ operands) h =
    if_ok InRange (begins_comment first) _ _ (λ _. tt) (λ _.
    if_ok InRange (bytes_eq first (codes "turns")) _ _
    (λ _. then_ok InRange (one BadOperand operands) _
    (λ word _. then_ok InRange (ok_or BadOperand (number_of word)) _
    (λ n _. if_ok InRange (n == 0) _ _ (λ _. tt) (λ _. tt)))) (λ _.
    if_ok InRange (bytes_eq first (codes "file")) _ _ (λ _. in_file operands (All-tail (All IsByte) first operands h))
    (λ _.
    if_ok InRange (bytes_eq first (codes "program")) _ _
    (λ _. then_ok InRange (one BadOperand operands) _
    (λ word _. then_ok InRange (ok_or BadOperand (name_of word)) _ (λ name is. named BadOperand word name is)))
    (λ _.
    if_ok InRange (bytes_eq first (codes "spawn")) _ _
    (λ _. then_ok InRange (one BadOperand operands) _
    (λ word _. then_ok InRange (ok_or BadOperand (name_of word)) _ (λ name _. tt))) (λ _.
    if_ok InRange (bytes_eq first (codes "script")) _ _ (λ _. then_ok InRange (none BadOperand operands) _ (λ u _. tt))
    (λ _.
    if_ok InRange (bytes_eq first (codes "truss")) _ _
    (λ _. in_truss operands (asked_of operands) (asked-alone operands)) (λ _.
    if_ok InRange (bytes_eq first (codes "tool")) _ _ (λ _. in_tool operands) (λ _.
    if_ok InRange (bytes_eq first (codes "schedule")) _ _
    (λ _. then_ok InRange (with_turns_of [] operands) items.unless_none (λ turns _. in_schedule turns))
    (λ _. tt)))))))))

in_range : (this : List ℕ) → IfOk (item_in this) InRange
in_range this =
    then_ok InRange (readable this) (λ _. item_of (texts_of this))
    (λ x is. item_in_range (texts_of this) (texts-bytes this (readable-bytes this x is)))

-- ---- what a line of a script says: a write has bytes

written : (words : List ℕ × List (List ℕ))
    → IfOk (ok_or BadOperand (name_of words.0) >>= λ name. messages_of words.1 >>= λ bytes. Ok
    (call.Write name bytes)) IsLineOfBytes
written words =
    then_ok IsLineOfBytes (ok_or BadOperand (name_of words.0)) _ (λ name _.
    then_ok IsLineOfBytes (messages_of words.1) _
    (λ bytes is. of_ok (All IsByte) (messages_of words.1) bytes is (messages-bytes words.1)))

in_spawn : (operands : List (List ℕ)) → IfOk (calls.spawn_of operands) IsLineOfBytes
unfolding calls.spawn_of
in_spawn [] = tt
in_spawn (word ∷ []) = then_ok IsLineOfBytes (ok_or BadOperand (name_of word)) _ (λ name _. tt)
in_spawn (word ∷ how ∷ []) =
    then_ok IsLineOfBytes (ok_or BadOperand (name_of word)) _
    (λ name _. if_ok IsLineOfBytes (bytes_eq how (codes "held")) _ _ (λ _. tt) (λ _. tt))
in_spawn (word ∷ how ∷ more ∷ others) = tt

in_poll : (names : List (List ℕ)) → IfOk (unless_none names) IsLineOfBytes
in_poll [] = tt
in_poll (name ∷ names) = tt

in_call : (first : List ℕ) (operands : List (List ℕ)) → IfOk (call_with first operands) IsLineOfBytes
unfolding call_with open_of close_of read_of poll_of write_of interrupt_of kill_of until_of list_of
in_call first operands =
    if_ok IsLineOfBytes (bytes_eq first (codes "open")) _ _
    (λ _. then_ok IsLineOfBytes (four BadOperand operands) _
    (λ words _. then_ok IsLineOfBytes (ok_or BadOperand (name_of words.0)) _
    (λ name _. then_ok IsLineOfBytes (ok_or BadOperand (place_of_word words.1)) _
    (λ place _. then_ok IsLineOfBytes (ok_or BadOperand (mode_of_name words.3)) _
    (λ mode _. then_ok IsLineOfBytes (ok_or BadOperand (name_of words.2)) _
    (λ _ _. then_ok IsLineOfBytes (ok_or UnknownName (file_of_name words.2)) _
    (λ file _. tt))))))) (λ _.
    if_ok IsLineOfBytes (bytes_eq first (codes "close")) _ _
    (λ _. then_ok IsLineOfBytes (one BadOperand operands) _
    (λ word _. then_ok IsLineOfBytes (ok_or BadOperand (name_of word)) _ (λ name _. tt))) (λ _.
    if_ok IsLineOfBytes (bytes_eq first (codes "read")) _ _
    (λ _. then_ok IsLineOfBytes (three BadOperand operands) _
    (λ words _. then_ok IsLineOfBytes (ok_or BadOperand (name_of words.0)) _
    (λ name _. then_ok IsLineOfBytes (ok_or BadOperand (number_of words.1)) _
    (λ at _. then_ok IsLineOfBytes (ok_or BadOperand (number_of words.2)) _ (λ len _. tt))))) (λ _.
    if_ok IsLineOfBytes (bytes_eq first (codes "poll")) _ _
    (λ _. then_ok IsLineOfBytes (with_names [] operands) unless_none (λ names _. in_poll names)) (λ _.
    if_ok IsLineOfBytes (bytes_eq first (codes "write")) _ _
    (λ _. then_ok IsLineOfBytes (some BadOperand operands) _ (λ words _. written words)) (λ _.
    if_ok IsLineOfBytes (bytes_eq first (codes "interrupt")) _ _
    (λ _. then_ok IsLineOfBytes (one BadOperand operands) _
    (λ word _. then_ok IsLineOfBytes (ok_or BadOperand (id_of word)) _ (λ k _. tt))) (λ _.
    if_ok IsLineOfBytes (bytes_eq first (codes "spawn")) _ _ (λ _. in_spawn operands) (λ _.
    if_ok IsLineOfBytes (bytes_eq first (codes "kill")) _ _
    (λ _. then_ok IsLineOfBytes (two BadOperand operands) _
    (λ words _. then_ok IsLineOfBytes (ok_or BadOperand (id_of words.0)) _
    (λ pid _. then_ok IsLineOfBytes (ok_or BadOperand (number_of words.1)) _ (λ sig _. tt)))) (λ _.
    if_ok IsLineOfBytes (bytes_eq first (codes "until")) _ _
    (λ _. then_ok IsLineOfBytes (one BadOperand operands) _
    (λ word _. then_ok IsLineOfBytes (ok_or BadOperand (number_of word)) _ (λ moment _. tt))) (λ _.
    if_ok IsLineOfBytes (bytes_eq first (codes "list")) _ _
    (λ _. then_ok IsLineOfBytes (none BadOperand operands) _ (λ _ _. tt)) (λ _. tt))))))))))

abbrev OfBytes : InScript → Type 0
OfBytes in_script.Blank = Unit {0}
OfBytes (in_script.Line l) = IsLineOfBytes l

in_script_line : (row : List (List ℕ)) → IfOk (script_line_of row) OfBytes
unfolding script_line_of
in_script_line [] = tt
in_script_line (first ∷ operands) =
    if_ok OfBytes (begins_comment first) _ _ (λ _. tt)
    (λ _. then_ok OfBytes (call_with first operands) _
    (λ l is. of_ok IsLineOfBytes (call_with first operands) l is (in_call first operands)))

-- ---- what was read so far

-- what a controller writes is bytes, and the functions whose calls it shows are as they are asked for
record IsPlanInRange (plan : Plan) : Type 0 where
  bytes : IsCoreOfBytes (controller_of plan)
  functions : NamesShowable plan

-- a file in range, with its name first
abbrev IsStored : List ℕ × List ℕ → Type 0
IsStored f = IsFileInRange (stored_file f)

record IsDraftInRange (d : Draft) : Type 0 where
  programs : All IsProgramInRange d.programs
  files : All IsStored d.files
  controllers : All IsPlanInRange d.controllers
  lines : All IsLineOfBytes d.lines

range_nothing : IsDraftInRange nothing
range_nothing = record { programs = All-nil _; files = All-nil _; controllers = All-nil _; lines = All-nil _ }

-- ---- lines outside blocks

range_turns : (d : Draft) (n : ℕ) → IsDraftInRange d → IfOk (with_turns d n) IsDraftInRange
unfolding with_turns
range_turns d n s =
    if_ok IsDraftInRange (is_some d.turns) _ _ (λ _. tt)
    (λ _. if_ok IsDraftInRange (nat_le n turn_limit) _ _
    (λ _. record { programs = s.programs; files = s.files; controllers = s.controllers; lines = s.lines })
    (λ _. tt))

range_file : (d : Draft) (name bytes : List ℕ) → IsStored (name, bytes) → IsDraftInRange d
    → IfOk (with_file d name bytes) IsDraftInRange
unfolding with_file
range_file d name bytes f s =
    if_ok IsDraftInRange (is_some (place_of d.file_names name)) _ _ (λ _. tt) (λ _.
    if_ok IsDraftInRange (nat_lt (length d.file_names) file_limit) _ _ (λ _.
    if_ok IsDraftInRange (nat_le (length bytes) file_size_limit) _ _
    (λ _. record {
      programs = s.programs;
      files = All-push IsStored d.files
          (name, bytes) s.files f;
      controllers = s.controllers;
      lines = s.lines;
    }) (λ _. tt)) (λ _. tt))

range_process : (d : Draft) (place size : ℕ) → IsDraftInRange d → IfOk (with_process d place size) IsDraftInRange
range_process d place size s =
    if_ok IsDraftInRange (nat_lt (length d.spawns) spawn_limit) _ _ (λ _.
    if_ok IsDraftInRange (nat_le (d.mapped + size) all_mappings_limit) _ _
    (λ _. record { programs = s.programs; files = s.files; controllers = s.controllers; lines = s.lines })
    (λ _. tt)) (λ _. tt)

range_spawn : (d : Draft) (name : List ℕ) → IsDraftInRange d → IfOk (with_spawn d name) IsDraftInRange
unfolding with_spawn
range_spawn d name s =
    then_ok IsDraftInRange (ok_or UnknownName (place_of d.program_names name)) _ (λ place _.
    then_ok IsDraftInRange (ok_or UnknownName (option_map first_size (slice_get d.programs place))) _
    (λ size _. range_process d place size s))

range_controller : (d : Draft) (plan : Plan) → IsPlanInRange plan → IsDraftInRange d
    → IfOk (with_controller d plan) IsDraftInRange
unfolding with_controller
range_controller d plan p s =
    if_ok IsDraftInRange (nat_lt (length d.controllers) controller_limit) _ _
    (λ _. record {
      programs = s.programs;
      files = s.files;
      controllers = All-push IsPlanInRange d.controllers plan
          s.controllers p;
      lines = s.lines;
    }) (λ _. tt)

truss-plan-bytes : (o : Options) (b : Bool) → All HasCodeOfBytes o.functions → IsCoreOfBytes (started_truss o b)
unfolding IsCoreOfBytes
truss-plan-bytes o true all = subst (λ (p : Options). All HasCodeOfBytes p.functions) (sym (first-options o)) all
truss-plan-bytes o false all = tt

-- the options of a truss, with the functions that its words name
named-options : (asked : Asked) (functions : List Function) → AreFewAlone asked
    → AreShowableOf asked.functions functions → AreShowable (record asked.options { functions = functions })
named-options asked functions alone named = record {
  few = named.few;
  alike = named.alike;
  each = named.each;
  follows_none = λ some. elim alone.alone [ inl none ↦ absurd (some (named.none none)) | inr follow ↦ follow ];
}

truss-plan-range : (o : Options) → AreShowable o → IsPlanInRange (Truss o)
unfolding controller_of NamesShowable
truss-plan-range o named = record {
  bytes =
      truss-plan-bytes o (has_functions o)
      (All-weaker IsShowable HasCodeOfBytes (λ f it. let s = it.steppable in s.bytes) o.functions named.each);
  functions = named;
}

range_truss : (d : Draft) (asked : Asked) → AreFewAlone asked → IsDraftInRange d
    → IfOk (with_truss d asked) IsDraftInRange
unfolding with_truss
range_truss d asked alone s =
    let found : Option (List Function) = functions_of d.program_names d.programs asked.functions in
    then_ok IsDraftInRange (ok_or UnknownName found) _ (λ functions are.
    if_ok IsDraftInRange (knows_program d asked.options.program) _ _
    (λ _. let o : Options = record asked.options { functions = functions } in
    range_controller d (Truss o)
    (truss-plan-range o
    (named-options asked functions alone
    (of_some (AreShowableOf asked.functions) found functions (ok_some UnknownName found functions are)
    (functions_of-named d.program_names d.programs asked.functions s.programs alone.few)))) s) (λ _. tt))

range_schedule : (d : Draft) (turns : List Turns) → IsDraftInRange d → IfOk (with_schedule d turns) IsDraftInRange
unfolding with_schedule
range_schedule d turns s =
    if_ok IsDraftInRange (nat_le (length d.schedule + turn_count turns) schedule_limit) _ _
    (λ _. record { programs = s.programs; files = s.files; controllers = s.controllers; lines = s.lines }) (λ _. tt)

range_with : (d : Draft) (i : Item) → InRange i → IsDraftInRange d → IfOk (with_item d i) IsDraftInRange
unfolding with_item IsCoreOfBytes NamesShowable controller_of first_probe
range_with d item.Blank h s = s
range_with d (item.Turns n) h s = range_turns d n s
range_with d (item.File name bytes) h s = range_file d name bytes h s
range_with d (item.Program name) h s = s
range_with d (item.Spawn name) h s = range_spawn d name s
range_with d item.Script h s = s
range_with d (item.Truss asked) h s = range_truss d asked h s
range_with d (item.Tool kind pid) h s =
    range_controller d (Tool kind pid) (record { bytes = tt; functions = tt }) s
range_with d (item.Gcore pid) h s = range_controller d (Gcore pid) (record { bytes = tt; functions = tt }) s
range_with d (item.Probe pid) h s =
    range_controller d (Probe pid) (record { bytes = (All-nil IsByte, All-nil IsByte); functions = tt }) s
range_with d (item.Schedule turns) h s = range_schedule d turns s

range_line : (d : Draft) (this : List ℕ) → IsDraftInRange d → IfOk (line_added d this) IsDraftInRange
unfolding line_added
range_line d this s =
    then_ok IsDraftInRange (item_in this) (with_item d)
    (λ i is. range_with d i (of_ok InRange (item_in this) i is (in_range this)) s)

-- ---- program blocks

range_program : (n : ℕ) (d : Draft) (name : List ℕ) (body : List (List ℕ)) (last : List ℕ) → IsShortName name
    → IsDraftInRange d → IfOk (program_added n d name body last) IsDraftInRange
unfolding program_added with_program
range_program n d name body last named s =
    then_ok IsDraftInRange (program_read name (n + 1) body) _ (λ p is.
    then_ok IsDraftInRange (numbered (n + (length body + 1)) (ended last)) _ (λ _ _.
    record {
      programs =
          All-push IsProgramInRange d.programs p s.programs
          (of_ok IsProgramInRange (program_read name (n + 1) body) p is (program-range name (n + 1) body named));
      files = s.files;
      controllers = s.controllers;
      lines = s.lines;
    }))

-- ---- script blocks

line_more : (d : Draft) (l : ScriptLine) → IsLineOfBytes l → IsDraftInRange d → IsDraftInRange (with_line d l)
line_more d l h s = record {
  programs = s.programs;
  files = s.files;
  controllers = s.controllers;
  lines = All-push IsLineOfBytes d.lines l s.lines h;
}

list_more : (d : Draft) → IsDraftInRange d → IsDraftInRange (record (with_line d call.List) { lists = d.lists + 1 })
list_more d s = record {
  programs = s.programs;
  files = s.files;
  controllers = s.controllers;
  lines = All-push IsLineOfBytes d.lines call.List s.lines tt;
}

range_call : (d : Draft) (l : ScriptLine) → IsLineOfBytes l → IsDraftInRange d → IfOk (call_added d l) IsDraftInRange
unfolding call_added
range_call d (call.Spawn program held) h s =
    if_ok IsDraftInRange (has_program d program) _ _ (λ _. line_more d (call.Spawn program held) tt s) (λ _. tt)
range_call d call.List h s = if_ok IsDraftInRange (nat_lt d.lists list_line_limit) _ _ (λ _. list_more d s) (λ _. tt)
range_call d l h s = line_more d l h s

range_said : (d : Draft) (l : InScript) → OfBytes l → IsDraftInRange d → IfOk (script_line_added d l) IsDraftInRange
unfolding script_line_added
range_said d in_script.Blank h s = s
range_said d (in_script.Line l) h s = range_call d l h s

range_words : (n : ℕ) (d : Draft) (this : List ℕ) → IsDraftInRange d → IfOk (script_line_read n d this) IsDraftInRange
unfolding script_line_read
range_words n d this s =
    numbered_ok IsDraftInRange n (script_words_added d this)
    (then_ok IsDraftInRange (readable this) _
    (λ _ _. then_ok IsDraftInRange (script_line_of (texts_of this)) (script_line_added d)
    (λ l is. range_said d l
    (of_ok OfBytes (script_line_of (texts_of this)) l is (in_script_line (texts_of this))) s)))

range_script : (d : Draft) → IsDraftInRange d → IsDraftInRange (with_script d)
unfolding with_script first_script IsCoreOfBytes NamesShowable controller_of
range_script d s = record {
  programs = s.programs;
  files = s.files;
  controllers =
      All-push IsPlanInRange d.controllers (Script (first_script d.lines)) s.controllers
      (record { bytes = s.lines; functions = tt });
  lines = All-nil IsLineOfBytes;
}

range_script_block : (n : ℕ) (d : Draft) (body : List (List ℕ)) (last : List ℕ) → IsDraftInRange d
    → IfOk (script_added n d body last) IsDraftInRange
unfolding script_added
range_script_block n d body last s =
    then_ok IsDraftInRange (folded script_line_read (n + 1) d body) _ (λ e is.
    then_ok IsDraftInRange (numbered (n + (length body + 1)) (ended last)) _ (λ _ _.
    range_script e
    (of_ok IsDraftInRange (folded script_line_read (n + 1) d body) e is
    (folded_ok IsDraftInRange script_line_read range_words (n + 1) d body s))))

-- ---- parts

range_block : (n : ℕ) (d : Draft) (i : Item) (body : List (List ℕ)) (last : List ℕ) → InRange i → IsDraftInRange d
    → IfOk (block_added n d i body last) IsDraftInRange
unfolding block_added
range_block n d (item.Program name) body last h s = range_program n d name body last h s
range_block n d item.Script body last h s = range_script_block n d body last s
range_block n d _ body last h s = s

may_at : (d : Draft) (first : List ℕ) → IfOk (begun d first) InRange
unfolding begun
may_at d first =
    then_ok InRange (item_in first) _
    (λ i is. then_ok InRange (may_begin d i) (λ _. Ok i)
    (λ _ _. of_ok InRange (item_in first) i is (in_range first)))

range_part : (d : Draft) (part : Part) → IsDraftInRange d → IfOk (part_added d part) IsDraftInRange
unfolding part_added
range_part d (line n this) s = numbered_ok IsDraftInRange n (line_added d this) (range_line d this s)
range_part d (block n first body last) s =
    then_ok IsDraftInRange (numbered n (begun d first)) _
    (λ i is. range_block n d i body last
    (of_ok InRange (numbered n (begun d first)) i is
    (numbered_ok InRange n (begun d first) (may_at d first))) s)
range_part d (endless n first) s =
    numbered_ok IsDraftInRange n (endless_kind d first) (then_ok IsDraftInRange (begun d first) _ (λ _ _. tt))

range_parts : (d : Draft) (parts : List Part) → IsDraftInRange d → IfOk (parts_added d parts) IsDraftInRange
unfolding parts_added
range_parts d [] s = s
range_parts d (part ∷ parts) s =
    then_ok IsDraftInRange (part_added d part) _
    (λ e is. range_parts e parts (of_ok IsDraftInRange (part_added d part) e is (range_part d part s)))

-- ---- the scenario

-- what is so of a scenario beside its limits
record HasRanges (s : Scenario) : Type 0 where
  programs : All IsProgramInRange s.programs
  files : All IsStored s.files
  controllers : All IsPlanInRange s.controllers

made_range : (d : Draft) → IsDraftInRange d → HasRanges (made d)
unfolding made
made_range d s = record { programs = s.programs; files = s.files; controllers = s.controllers }

has_ranges : (lines : List (List ℕ)) → IfOk (scenario_in lines) HasRanges
unfolding scenario_in draft_in
has_ranges lines =
    then_ok HasRanges (parts_added nothing _) _
    (λ d is. made_range d (of_ok IsDraftInRange _ d is (range_parts nothing _ range_nothing)))

in_all : (s : Scenario) → IsWithinLimits s → HasRanges s → IsScenarioInRange s
in_all s w r = record {
  start = record {
    within = All-weaker IsProgramInRange IsLawfulProgram (λ p h. h.within) s.programs r.programs;
    few = omega (arith, w.files, length-map s.files stored_file);
    short = All-map (λ (f : StoredFile). length f.bytes ≤ file_size_limit) stored_file s.files w.short;
    own_names = w.own_names;
    room = omega (arith, w.spawns);
    mapped = w.mapped;
  };
  range = record {
    of_programs = r.programs;
    of_files = All-map IsFileInRange stored_file s.files r.files;
  };
  bytes =
      All-map IsCoreOfBytes controller_of s.controllers
      (All-weaker IsPlanInRange (λ plan. IsCoreOfBytes (controller_of plan)) (λ plan it. it.bytes) s.controllers
      r.controllers);
  functions = All-weaker IsPlanInRange NamesShowable (λ plan it. it.functions) s.controllers r.controllers;
}

-- a scenario that was read is in range
pub scenario-range : (input : List ℕ) (s : Scenario) → scenario_of input ≡ Ok s → IsScenarioInRange s
scenario-range input s is =
    in_all s (of_ok IsWithinLimits (scenario_in (lines_of input)) s is (scenario_within (lines_of input)))
    (of_ok HasRanges (scenario_in (lines_of input)) s is (has_ranges (lines_of input)))
