-- What the parts of a scenario make of its programs: a program block adds the one that is read from its lines, and no
-- other part adds any.
use Rattle.std.proofs.Common.{◌≡◌, ℕ, ◌+◌, true, nat_lt, List, [], ◌∷◌, ◌++◌, length, Ok, refl, sym, ap, ◌∙◌, subst}
use Rattle.std.specs.Prelude.{codes, is_some, nat_le, option_map, slice_get}
use Rattle.std.specs.Result.{IfOk}
use Rattle.std.proofs.lemmas.Slice.Eq.{bytes_eq-Decides}
use Rattle.pr_model.specs.FirstState.{first_size}
use Rattle.pr_num.specs.Limits.{all_mappings_limit, controller_limit, file_limit, file_size_limit, list_line_limit, schedule_limit, spawn_limit, turn_limit}
use Rattle.pr_num.specs.Programs.{Program}
use Rattle.pr_scen.proofs.StepLemmas.{if_ok, then_ok, of_ok, numbered_ok, folded_ok}
use Rattle.pr_scen.specs.Blocks.{begun, block_added, ended, endless_kind, item_in, line_added, numbered, part_added, program_added, program_read, script_added, script_line_read, script_words_added}
use Rattle.pr_scen.specs.Drafts.{call_added, has_program, knows_program, may_begin, script_line_added, with_controller, with_file, with_item, with_process, with_program, with_schedule, with_script, with_spawn, with_truss, with_turns}
use Rattle.pr_scen.specs.Functions.{functions_of}
use Rattle.pr_scen.specs.Items.{item_of, item_with, program_of, script_of}
use Rattle.pr_scen.specs.Lines.{first_is, readable}
use Rattle.pr_scen.specs.Names.{place_of}
use Rattle.pr_scen.specs.Parts.{block, endless}
use Rattle.pr_scen.specs.ScriptLines.{script_line_of}
use Rattle.pr_scen.specs.Schedules.{turn_count}
use Rattle.pr_scen.specs.declared.drafts.Draft.{Draft}
use Rattle.pr_scen.specs.declared.items.Item.{Item}
use Rattle.pr_scen.specs.declared.items.Item.TheVariants as item
use Rattle.pr_scen.specs.declared.plans.Plan.{Plan}
use Rattle.pr_scen.specs.declared.plans.Plan.TheVariants.{Truss, Tool, Gcore, Probe}
use Rattle.pr_scen.specs.declared.refusals.ScenKind.TheVariants.{BadOperand, UnknownName}
use Rattle.pr_scen.specs.declared.schedules.Turns.{Turns}
use Rattle.pr_scen.specs.declared.script_blocks.InScript.{InScript}
use Rattle.pr_scen.specs.declared.script_blocks.InScript.TheVariants as in_script
use Rattle.pr_scen.specs.declared.script_lines.ScriptLine.{ScriptLine}
use Rattle.pr_scen.specs.declared.script_lines.ScriptLine.TheVariants as call
use Rattle.pr_text.specs.Comments.{begins_comment}
use Rattle.pr_text.specs.Names.{name_of}
use Rattle.pr_text.specs.Steps.{folded, none, ok_or, one}
use Rattle.pr_text.specs.Words.{texts_of}

-- this is so of the programs that were read so far
abbrev pub Has : (List Program → Type 0) → Draft → Type 0
Has P d = P d.programs

-- ---- lines outside blocks

turns-keeps : (d : Draft) (n : ℕ) (P : List Program → Type 0) → Has P d → IfOk (with_turns d n) (Has P)
unfolding with_turns
turns-keeps d n P s =
    if_ok (Has P) (is_some d.turns) _ _ (λ _. tt)
    (λ _. if_ok (Has P) (nat_le n turn_limit) _ _ (λ _. s) (λ _. tt))

file-keeps : (d : Draft) (name bytes : List ℕ) (P : List Program → Type 0) → Has P d
    → IfOk (with_file d name bytes) (Has P)
unfolding with_file
file-keeps d name bytes P s =
    if_ok (Has P) (is_some (place_of d.file_names name)) _ _ (λ _. tt)
    (λ _. if_ok (Has P) (nat_lt (length d.file_names) file_limit) _ _
    (λ _. if_ok (Has P) (nat_le (length bytes) file_size_limit) _ _ (λ _. s) (λ _. tt)) (λ _. tt))

process-keeps : (d : Draft) (place bytes : ℕ) (P : List Program → Type 0) → Has P d
    → IfOk (with_process d place bytes) (Has P)
process-keeps d place bytes P s =
    if_ok (Has P) (nat_lt (length d.spawns) spawn_limit) _ _
    (λ _. if_ok (Has P) (nat_le (d.mapped + bytes) all_mappings_limit) _ _ (λ _. s) (λ _. tt)) (λ _. tt)

spawn-keeps : (d : Draft) (name : List ℕ) (P : List Program → Type 0) → Has P d → IfOk (with_spawn d name) (Has P)
unfolding with_spawn
spawn-keeps d name P s =
    then_ok (Has P) (ok_or UnknownName (place_of d.program_names name)) _
    (λ place _. then_ok (Has P) (ok_or UnknownName (option_map first_size (slice_get d.programs place))) _
    (λ bytes _. process-keeps d place bytes P s))

controller-keeps : (d : Draft) (plan : Plan) (P : List Program → Type 0) → Has P d
    → IfOk (with_controller d plan) (Has P)
unfolding with_controller
controller-keeps d plan P s =
    if_ok (Has P) (nat_lt (length d.controllers) controller_limit) _ _ (λ _. s) (λ _. tt)

schedule-keeps : (d : Draft) (turns : List Turns) (P : List Program → Type 0) → Has P d
    → IfOk (with_schedule d turns) (Has P)
unfolding with_schedule
schedule-keeps d turns P s =
    if_ok (Has P) (nat_le (length d.schedule + turn_count turns) schedule_limit) _ _ (λ _. s) (λ _. tt)

item-keeps : (d : Draft) (i : Item) (P : List Program → Type 0) → Has P d → IfOk (with_item d i) (Has P)
unfolding with_item with_truss
item-keeps d item.Blank P s = s
item-keeps d (item.Turns n) P s = turns-keeps d n P s
item-keeps d (item.File name bytes) P s = file-keeps d name bytes P s
item-keeps d (item.Program name) P s = s
item-keeps d (item.Spawn name) P s = spawn-keeps d name P s
item-keeps d item.Script P s = s
item-keeps d (item.Truss asked) P s =
    then_ok (Has P) (ok_or UnknownName (functions_of d.program_names d.programs asked.functions)) _
    (λ functions _. if_ok (Has P) (knows_program d asked.options.program) _ _
    (λ _. controller-keeps d (Truss (record asked.options { functions = functions })) P s) (λ _. tt))
item-keeps d (item.Tool kind pid) P s = controller-keeps d (Tool kind pid) P s
item-keeps d (item.Gcore pid) P s = controller-keeps d (Gcore pid) P s
item-keeps d (item.Probe pid) P s = controller-keeps d (Probe pid) P s
item-keeps d (item.Schedule turns) P s = schedule-keeps d turns P s

pub line-keeps : (d : Draft) (n : ℕ) (this : List ℕ) (P : List Program → Type 0) → Has P d
    → IfOk (numbered n (line_added d this)) (Has P)
unfolding line_added
line-keeps d n this P s =
    numbered_ok (Has P) n (line_added d this)
    (then_ok (Has P) (item_in this) (with_item d) (λ i _. item-keeps d i P s))

-- ---- what a line says that begins a block

abbrev IsProgram : Item → Type 0
IsProgram (item.Program name) = Unit {0}
IsProgram _ = ⊥

abbrev IsScript : Item → Type 0
IsScript item.Script = Unit {0}
IsScript _ = ⊥

program-said : (operands : List (List ℕ)) → IfOk (item_of (codes "program" ∷ operands)) IsProgram
unfolding item_of item_with program_of begins_comment
program-said operands =
    then_ok IsProgram (one BadOperand operands) _
    (λ word _. then_ok IsProgram (ok_or BadOperand (name_of word)) _ (λ name _. tt))

script-said : (operands : List (List ℕ)) → IfOk (item_of (codes "script" ∷ operands)) IsScript
unfolding item_of item_with script_of begins_comment
script-said operands = then_ok IsScript (none BadOperand operands) _ (λ _ _. tt)

-- what is said of all lines with a first word
said : (P : Item → Type 0) (word : List ℕ) → ((operands : List (List ℕ)) → IfOk (item_of (word ∷ operands)) P)
    → (row : List (List ℕ)) → first_is word row ≡ true → IfOk (item_of row) P
said P word all [] is = let no : ⊥ = cc in absurd no
said P word all (first ∷ operands) is =
    subst (λ (w : List ℕ). IfOk (item_of (w ∷ operands)) P) (sym ((bytes_eq-Decides first word).0 is)) (all operands)

-- what is begun is what its line says
begun-said : (P : Item → Type 0) (d : Draft) (n : ℕ) (first : List ℕ) → IfOk (item_of (texts_of first)) P
    → IfOk (numbered n (begun d first)) (λ i. (item_in first ≡ Ok i) × P i)
unfolding begun
begun-said P d n first p =
    let Q : Item → Type 0 = λ i. (item_in first ≡ Ok i) × P i in
    numbered_ok Q n (begun d first)
    (then_ok Q (item_in first) _
    (λ i is. then_ok Q (may_begin d i) _
    (λ _ _. (is, of_ok P (item_in first) i is (then_ok P (readable first) _ (λ _ _. p))))))

-- ---- program blocks

program-block : (P : List Program → Type 0) (d : Draft) (n : ℕ) (i : Item) (body : List (List ℕ)) (last : List ℕ)
    → IsProgram i
    → ((name : List ℕ) (p : Program) → i ≡ item.Program name → program_read name (n + 1) body ≡ Ok p
    → P (d.programs ++ p ∷ []))
    → IfOk (block_added n d i body last) (Has P)
unfolding block_added program_added with_program
program-block P d n (item.Program name) body last is adds =
    then_ok (Has P) (program_read name (n + 1) body) _
    (λ p read. then_ok (Has P) (numbered (n + (length body + 1)) (ended last)) _ (λ _ _. adds name p refl read))
program-block P d n _ body last is adds = absurd is

pub program-adds : (P : List Program → Type 0) (d : Draft) (n : ℕ) (first : List ℕ) (body : List (List ℕ))
    (last : List ℕ) → first_is (codes "program") (texts_of first) ≡ true
    → ((name : List ℕ) (p : Program) → item_in first ≡ Ok (item.Program name) → program_read name (n + 1) body ≡ Ok p
    → P (d.programs ++ p ∷ []))
    → IfOk (part_added d (block n first body last)) (Has P)
unfolding part_added
program-adds P d n first body last begins adds =
    then_ok (Has P) (numbered n (begun d first)) _
    (λ i is.
    let Q : Item → Type 0 = λ j. (item_in first ≡ Ok j) × IsProgram j in
    let begun_is : Q i =
    of_ok Q (numbered n (begun d first)) i is
    (begun-said IsProgram d n first (said IsProgram (codes "program") program-said (texts_of first) begins)) in
    program-block P d n i body last begun_is.1
    (λ name p same read. adds name p (begun_is.0 ∙ ap Ok same) read))

-- ---- script blocks

call-keeps : (d : Draft) (l : ScriptLine) (P : List Program → Type 0) → Has P d → IfOk (call_added d l) (Has P)
unfolding call_added
call-keeps d (call.Open name pid lwp file mode) P s = s
call-keeps d (call.Close name) P s = s
call-keeps d (call.Read name at len) P s = s
call-keeps d (call.Poll names) P s = s
call-keeps d (call.Write name bytes) P s = s
call-keeps d (call.Interrupt controller) P s = s
call-keeps d (call.Spawn program held) P s =
    if_ok (Has P) (has_program d program) _ _ (λ _. s) (λ _. tt)
call-keeps d (call.Kill pid sig) P s = s
call-keeps d (call.Until moment) P s = s
call-keeps d call.List P s =
    if_ok (Has P) (nat_lt d.lists list_line_limit) _ _ (λ _. s) (λ _. tt)

in-script-keeps : (d : Draft) (l : InScript) (P : List Program → Type 0) → Has P d
    → IfOk (script_line_added d l) (Has P)
unfolding script_line_added
in-script-keeps d in_script.Blank P s = s
in-script-keeps d (in_script.Line l) P s = call-keeps d l P s

script-line-keeps : (P : List Program → Type 0) (n : ℕ) (d : Draft) (this : List ℕ) → Has P d
    → IfOk (script_line_read n d this) (Has P)
unfolding script_line_read
script-line-keeps P n d this s =
    numbered_ok (Has P) n (script_words_added d this)
    (then_ok (Has P) (readable this) _
    (λ _ _. then_ok (Has P) (script_line_of (texts_of this)) (script_line_added d)
    (λ l _. in-script-keeps d l P s)))

script-block : (d : Draft) (n : ℕ) (i : Item) (body : List (List ℕ)) (last : List ℕ)
    (P : List Program → Type 0) → IsScript i
    → Has P d → IfOk (block_added n d i body last) (Has P)
unfolding block_added script_added with_script
script-block d n item.Script body last P is s =
    then_ok (Has P) (folded script_line_read (n + 1) d body) _
    (λ e read. then_ok (Has P) (numbered (n + (length body + 1)) (ended last)) _
    (λ _ _. of_ok (Has P) (folded script_line_read (n + 1) d body) e read
    (folded_ok (Has P) script_line_read (script-line-keeps P) (n + 1) d body s)))
script-block d n _ body last P is s = absurd is

pub script-keeps : (d : Draft) (n : ℕ) (first : List ℕ) (body : List (List ℕ)) (last : List ℕ)
    (P : List Program → Type 0)
    → first_is (codes "script") (texts_of first) ≡ true → Has P d
    → IfOk (part_added d (block n first body last)) (Has P)
unfolding part_added
script-keeps d n first body last P begins s =
    then_ok (Has P) (numbered n (begun d first)) _
    (λ i is.
    let Q : Item → Type 0 = λ j. (item_in first ≡ Ok j) × IsScript j in
    let begun_is : Q i =
    of_ok Q (numbered n (begun d first)) i is
    (begun-said IsScript d n first (said IsScript (codes "script") script-said (texts_of first) begins)) in
    script-block d n i body last P begun_is.1 s)

-- ---- a block without end is refused

pub endless-refused : (P : Draft → Type 0) (d : Draft) (n : ℕ) (first : List ℕ)
    → IfOk (part_added d (endless n first)) P
unfolding part_added
endless-refused P d n first =
    numbered_ok P n (endless_kind d first) (then_ok P (begun d first) _ (λ _ _. tt))
