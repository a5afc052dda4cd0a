-- Lines are read as they are encoded.
use Rattle.std.proofs.Common.{◌≡◌, ◌≢◌, ℕ, suc, ◌^◌, ◌≤◌, ◌<◌, Bool, true, false, ◌&&◌, eqb, cond, Option, Some, None, List, [], ◌∷◌, ◌++◌, length, map, get_or, replicate, Result, Ok, Err, refl, sym, ◌∙◌, ap, arith, codes}
use Rattle.std.specs.Fmt.{decimal}
use Rattle.std.specs.List.{All, AllByRecursion, list_all, slice_split}
use Rattle.std.specs.Option.{option_map}
use Rattle.std.specs.Str.{bytes_eq}
use Rattle.std.proofs.lemmas.Bool.{ne_eqb}
use Rattle.std.proofs.lemmas.List.{append_assoc, append-nil, length-append}
use Rattle.std.proofs.lemmas.List.Elements.{All-nil, All-cons}
use Rattle.std.proofs.lemmas.List.Folds.{list_all-append}
use Rattle.std.proofs.lemmas.List.Splits.{slice_split_at, slice_split_none}
use Rattle.std.proofs.lemmas.Slice.Eq.{bytes_eq-Decides}
use Rattle.pr_model.specs.declared.calls.File.{File}
use Rattle.pr_model.specs.declared.calls.File.TheVariants.{Ctl, Status, Lstatus, Psinfo, Map, Usage, Mem, Sigact, Watch, Fds, Lwpctl, Lwpstatus}
use Rattle.pr_model.specs.declared.calls.Mode.{Mode}
use Rattle.pr_model.specs.declared.calls.Mode.TheVariants as mode
use Rattle.pr_model.specs.declared.events.Actor.{Actor}
use Rattle.pr_model.specs.declared.events.Actor.TheVariants.{Controller, Lwp, Clock}
use Rattle.pr_model.specs.declared.tools.ToolKind.{ToolKind}
use Rattle.pr_model.specs.declared.tools.ToolKind.TheVariants.{Pflags, Psig, Pstack, Pmap, Pfiles, Pstop, Prun, Pwait, Ptree}
use Rattle.pr_model.specs.FileNames.{file_name, file_of_name, mode_name, mode_of_name}
use Rattle.pr_model.specs.ToolNames.{tool_name, process_tool_of_name}
use Rattle.pr_model.proofs.NameLemmas.{file_of_name-name, mode_of_name-name}
use Rattle.pr_text.specs.Comments.{begins_comment}
use Rattle.pr_text.specs.HexWords.{digits_of_bytes}
use Rattle.pr_text.specs.LwpWords.{lwp_text}
use Rattle.pr_text.specs.Names.{is_name, is_name_byte, name_of}
use Rattle.pr_text.specs.NumberWords.{number_of, id_of}
use Rattle.pr_text.specs.QuotedWords.{quoted_bytes, quoted}
use Rattle.pr_text.specs.SpacedWords.{spaced}
use Rattle.pr_text.specs.Steps.{◌>>=◌, ok_or}
use Rattle.pr_text.specs.Words.{texts_of}
use Rattle.pr_text.proofs.EscapeLemmas.{quoted_bytes-quoted, quoted_token}
use Rattle.pr_text.proofs.HexLemmas.{bytes_of_digits-digits}
use Rattle.pr_text.proofs.NumberLemmas.{number_of-decimal, id_of-decimal, decimal-apart, decimal-first}
use Rattle.pr_text.proofs.PlainLemmas.{decimal-plain, decimal_token, split_lwp, lwp_text-plain, lwp_text-some, lwp_text-first, lwp_text-apart, lwp_token, bytes_token, name_of-name, name_token}
use Rattle.pr_text.proofs.SpacedLemmas.{IsToken, is_plain, plain_token, texts_of-spaced}
use Rattle.pr_scen.specs.Encoding.{actor_word, IsActor, turns_word, AreTurns, tool_words, IsTool, item_words, IsItem, IsId, line_words, IsLine}
use Rattle.pr_scen.specs.Items as outside
use Rattle.pr_scen.specs.Items.{process_tool_line, tool_line_of, item_with, item_of}
use Rattle.pr_scen.specs.MessageWords.{message_name, message_word_of, operands_of, message_of, bytes_with, bytes_of}
use Rattle.pr_scen.specs.Messages.{Writing, with_whole, operand_read, message_begun, word_written, words_written, write_over, messages_of}
use Rattle.pr_scen.specs.Schedules.{lwp_at, lwp_from, numbered_actor, actor_of, turns_at, turns_from, turns_of, with_turns_of}
use Rattle.pr_scen.specs.ScriptLines.{ids_at, place_from, place_of_word, open_of, close_of, read_of, with_names, unless_none, poll_of, write_of, interrupt_of, spawn_of, kill_of, until_of, list_of, call_with, script_line_of}
use Rattle.pr_scen.specs.declared.items.Item.{Item}
use Rattle.pr_scen.specs.declared.items.Item.TheVariants as item
use Rattle.pr_scen.specs.declared.message_words.MessageWord.TheVariants.{Raw}
use Rattle.pr_scen.specs.declared.refusals.ScenKind.TheVariants.{BadOperand, UnknownName}
use Rattle.pr_scen.specs.declared.schedules.Turns.{Turns}
use Rattle.pr_scen.specs.declared.script_blocks.InScript.TheVariants.{Line}
use Rattle.pr_scen.specs.declared.script_lines.ScriptLine.{ScriptLine}
use Rattle.pr_scen.specs.declared.script_lines.ScriptLine.TheVariants as line

-- ---- steps

some_step : {A B E : Type 0} (e : E) (o : Option A) (x : A) (f : A → Result B E) (r : Result B E) → o ≡ Some x → f x ≡ r
    → ok_or e o >>= f ≡ r
some_step e o x f r is rest = ap (λ q. ok_or e q >>= f) is ∙ rest

ok_step : {A B E : Type 0} (o : Result A E) (x : A) (f : A → Result B E) (r : Result B E) → o ≡ Ok x → f x ≡ r
    → o >>= f ≡ r
ok_step o x f r is rest = ap (λ q. q >>= f) is ∙ rest

-- ---- words

-- ids are numbers
id_below : (n : ℕ) → IsId n → n < 2 ^ 64
id_below n fits = omega arith

id_token : (n : ℕ) → IsId n → IsToken (decimal n)
id_token n fits = decimal_token n (id_below n fits)

read_place : (pid lwp : ℕ) → IsId pid → IsId lwp → place_of_word (lwp_text pid lwp) ≡ Some (pid, lwp)
unfolding place_of_word
read_place pid lwp p l =
    ap place_from (split_lwp pid lwp (id_below pid p) (id_below lwp l))
    ∙ ap (λ o. ids_at o (id_of (decimal lwp))) (id_of-decimal pid p)
    ∙ ap (λ o. ids_at (Some pid) o) (id_of-decimal lwp l)

place_token : (pid lwp : ℕ) → IsId pid → IsId lwp → IsToken (lwp_text pid lwp)
place_token pid lwp p l = lwp_token pid lwp (id_below pid p) (id_below lwp l)

-- ---- files and modes

file_named : (f : File) → is_name (file_name f) ≡ true
unfolding file_name is_name is_name_byte
file_named Ctl = refl
file_named Status = refl
file_named Lstatus = refl
file_named Psinfo = refl
file_named Map = refl
file_named Usage = refl
file_named Mem = refl
file_named Sigact = refl
file_named Watch = refl
file_named Fds = refl
file_named Lwpctl = refl
file_named Lwpstatus = refl

mode_token : (m : Mode) → IsToken (mode_name m)
unfolding mode_name
mode_token mode.Read = plain_token (codes "r") (omega arith) refl
mode_token mode.Write = plain_token (codes "w") (omega arith) refl
mode_token mode.WriteExcl = plain_token (codes "wx") (omega arith) refl

-- ---- turns at the beginning

-- words that differ at a place
pub differ : (a b : List ℕ) (i : ℕ) → get_or a i 0 ≢ get_or b i 0 → bytes_eq a b ≡ false
differ a b i other = at (bytes_eq a b) refl
  where
    at : (t : Bool) → bytes_eq a b ≡ t → t ≡ false
    at true e = absurd (other (ap (λ w. get_or w i 0) ((bytes_eq-Decides a b).0 e)))
    at false e = refl

lwp_word : (word : List ℕ) → 0 < length word → get_or word 0 0 ≤ 57
    → numbered_actor word ≡ lwp_from (slice_split (λ b. eqb b 47) word)
unfolding numbered_actor
lwp_word [] some low = absurd (omega arith)
lwp_word (b ∷ bs) some low =
    ap (λ t. cond t (option_map Controller (id_of bs)) (lwp_from (slice_split (λ c. eqb c 47) (b ∷ bs))))
    (ne_eqb b 99 (λ e. absurd (omega arith)))

read_actor : (a : Actor) → IsActor a → actor_of (actor_word a) ≡ Some a
unfolding actor_of actor_word IsActor numbered_actor
read_actor (Controller k) h =
    let low = (decimal-first k (id_below k h) []).1 in
    ap (λ t. cond t (Some Clock) (option_map Controller (id_of (decimal k))))
    (differ (99 ∷ decimal k) (codes "clock") 1
    (λ e. let same : get_or (decimal k) 0 0 ≡ 108 = e in
    absurd (omega (arith, ap (λ w. get_or w 0 0) (append-nil (decimal k))))))
    ∙ ap (option_map Controller) (id_of-decimal k h)
read_actor (Lwp pid lwp) h =
    let word = lwp_text pid lwp in
    let low = (lwp_text-first pid lwp (id_below pid h.0)).1 in
    ap (λ t. cond t (Some Clock) (numbered_actor word))
    (differ word (codes "clock") 0 (λ e. let same : get_or word 0 0 ≡ 99 = e in absurd (omega arith)))
    ∙ lwp_word word (lwp_text-some pid lwp) low
    ∙ ap lwp_from (split_lwp pid lwp (id_below pid h.0) (id_below lwp h.1))
    ∙ ap (λ o. lwp_at o (id_of (decimal lwp))) (id_of-decimal pid h.0)
    ∙ ap (λ o. lwp_at (Some pid) o) (id_of-decimal lwp h.1)
read_actor Clock h = refl

-- an actor's word has no star, and no byte that parts words
abbrev IsNoStar : ℕ → Type 0
IsNoStar b = eqb b 42 ≡ false

no_star : (a : Actor) → IsActor a → All IsNoStar (actor_word a)
unfolding actor_word IsActor
no_star (Controller k) h = All-cons IsNoStar 99 (decimal k) refl (decimal-apart 42 (omega arith) k (id_below k h))
no_star (Lwp pid lwp) h = lwp_text-apart 42 (omega arith) pid lwp (id_below pid h.0) (id_below lwp h.1)
no_star Clock h =
    All-cons IsNoStar 99 (codes "lock") refl
    (All-cons IsNoStar 108 (codes "ock") refl
    (All-cons IsNoStar 111 (codes "ck") refl
    (All-cons IsNoStar 99 (codes "k") refl (All-cons IsNoStar 107 [] refl (All-nil IsNoStar)))))

actor_plain : (a : Actor) → IsActor a → list_all is_plain (actor_word a) ≡ true
unfolding actor_word IsActor
actor_plain (Controller k) h = decimal-plain k (id_below k h)
actor_plain (Lwp pid lwp) h = lwp_text-plain pid lwp (id_below pid h.0) (id_below lwp h.1)
actor_plain Clock h = refl

read_turns : (t : Turns) → AreTurns t → turns_of (turns_word t) ≡ Some t
unfolding turns_of
read_turns t h =
    ap turns_from
    (slice_split_at (λ b. eqb b 42) (actor_word t.actor) 42 (decimal t.times) (no_star t.actor h.0) refl
    ∙ ap (λ ws. actor_word t.actor ∷ ws)
    (slice_split_none (λ b. eqb b 42) (decimal t.times) (decimal-apart 42 (omega arith) t.times h.1)))
    ∙ ap (λ o. turns_at o (number_of (decimal t.times))) (read_actor t.actor h.0)
    ∙ ap (λ o. turns_at (Some t.actor) o) (number_of-decimal t.times h.1)

turns_token : (t : Turns) → AreTurns t → IsToken (turns_word t)
turns_token t h =
    plain_token (turns_word t) (omega (arith, length-append (actor_word t.actor) (42 ∷ decimal t.times)))
    (list_all-append is_plain (actor_word t.actor) (42 ∷ decimal t.times)
    ∙ ap (λ b. b && list_all is_plain (decimal t.times)) (actor_plain t.actor h.0) ∙ decimal-plain t.times h.1)

turns_more : (done turns : List Turns) → AllByRecursion AreTurns turns
    → with_turns_of done (map turns_word turns) ≡ Ok (done ++ turns)
unfolding with_turns_of
turns_more done [] all = ap Ok (sym (append-nil done))
turns_more done (t ∷ turns) all =
    some_step BadOperand (turns_of (turns_word t)) t _ _ (read_turns t all.0)
    (turns_more (done ++ t ∷ []) turns all.1 ∙ ap Ok (append_assoc done (t ∷ []) turns))

turns_tokens : (turns : List Turns) → AllByRecursion AreTurns turns → AllByRecursion IsToken (map turns_word turns)
turns_tokens [] all = tt
turns_tokens (t ∷ turns) all = (turns_token t all.0, turns_tokens turns all.1)

-- ---- tools

read_tool : (k : ToolKind) (pid : ℕ) → IsTool k pid → tool_line_of (tool_words k pid) ≡ Ok (item.Tool k pid)
unfolding tool_line_of process_tool_line tool_words IsTool tool_name process_tool_of_name is_name is_name_byte
read_tool Pflags pid h =
    some_step BadOperand (id_of (decimal pid)) pid _ (Ok (item.Tool Pflags pid)) (id_of-decimal pid h) refl
read_tool Psig pid h =
    some_step BadOperand (id_of (decimal pid)) pid _ (Ok (item.Tool Psig pid)) (id_of-decimal pid h) refl
read_tool Pstack pid h =
    some_step BadOperand (id_of (decimal pid)) pid _ (Ok (item.Tool Pstack pid)) (id_of-decimal pid h) refl
read_tool Pmap pid h =
    some_step BadOperand (id_of (decimal pid)) pid _ (Ok (item.Tool Pmap pid)) (id_of-decimal pid h) refl
read_tool Pfiles pid h =
    some_step BadOperand (id_of (decimal pid)) pid _ (Ok (item.Tool Pfiles pid)) (id_of-decimal pid h) refl
read_tool Pstop pid h =
    some_step BadOperand (id_of (decimal pid)) pid _ (Ok (item.Tool Pstop pid)) (id_of-decimal pid h) refl
read_tool Prun pid h =
    some_step BadOperand (id_of (decimal pid)) pid _ (Ok (item.Tool Prun pid)) (id_of-decimal pid h) refl
read_tool Pwait pid h =
    some_step BadOperand (id_of (decimal pid)) pid _ (Ok (item.Tool Pwait pid)) (id_of-decimal pid h) refl
read_tool Ptree pid h = ap (λ n. Ok (item.Tool Ptree n)) (sym h)

read_gcore : (pid : ℕ) → IsId pid → tool_line_of (codes "gcore" ∷ decimal pid ∷ []) ≡ Ok (item.Gcore pid)
unfolding tool_line_of process_tool_line is_name is_name_byte
read_gcore pid h = some_step BadOperand (id_of (decimal pid)) pid _ (Ok (item.Gcore pid)) (id_of-decimal pid h) refl

read_apfiles : (pid : ℕ) → IsId pid → tool_line_of (codes "apfiles" ∷ decimal pid ∷ []) ≡ Ok (item.Probe pid)
unfolding tool_line_of process_tool_line is_name is_name_byte
read_apfiles pid h = some_step BadOperand (id_of (decimal pid)) pid _ (Ok (item.Probe pid)) (id_of-decimal pid h) refl

tool_token : (k : ToolKind) → IsToken (tool_name k)
unfolding tool_name
tool_token Pflags = plain_token (codes "pflags") (omega arith) refl
tool_token Psig = plain_token (codes "psig") (omega arith) refl
tool_token Pstack = plain_token (codes "pstack") (omega arith) refl
tool_token Pmap = plain_token (codes "pmap") (omega arith) refl
tool_token Pfiles = plain_token (codes "pfiles") (omega arith) refl
tool_token Pstop = plain_token (codes "pstop") (omega arith) refl
tool_token Prun = plain_token (codes "prun") (omega arith) refl
tool_token Pwait = plain_token (codes "pwait") (omega arith) refl
tool_token Ptree = plain_token (codes "ptree") (omega arith) refl

tool_tokens : (k : ToolKind) (pid : ℕ) → IsTool k pid → AllByRecursion IsToken (tool_words k pid)
unfolding tool_words IsTool
tool_tokens Pflags pid h = (tool_token Pflags, (id_token pid h, tt))
tool_tokens Psig pid h = (tool_token Psig, (id_token pid h, tt))
tool_tokens Pstack pid h = (tool_token Pstack, (id_token pid h, tt))
tool_tokens Pmap pid h = (tool_token Pmap, (id_token pid h, tt))
tool_tokens Pfiles pid h = (tool_token Pfiles, (id_token pid h, tt))
tool_tokens Pstop pid h = (tool_token Pstop, (id_token pid h, tt))
tool_tokens Prun pid h = (tool_token Prun, (id_token pid h, tt))
tool_tokens Pwait pid h = (tool_token Pwait, (id_token pid h, tt))
tool_tokens Ptree pid h = (plain_token (codes "ptree") (omega arith) refl, tt)

-- ---- lines outside blocks

not_zero : (n : ℕ) → 1 ≤ n → eqb n 0 ≡ false
not_zero n some = ne_eqb n 0 (λ e. absurd (omega arith))

read_item : (i : Item) → IsItem i → item_of (item_words i) ≡ Ok i
unfolding item_of item_with outside.turns_of outside.file_of outside.program_of outside.spawn_of outside.script_of
    outside.schedule_of begins_comment item_words IsItem
read_item item.Blank h = refl
read_item (item.Turns n) h =
    some_step BadOperand (number_of (decimal n)) n _ _ (number_of-decimal n h.1)
    (ap (λ b. cond b (Err BadOperand) (Ok (item.Turns n))) (not_zero n h.0))
read_item (item.File name bytes) h =
    some_step BadOperand (name_of name) name _ _ (name_of-name name h)
    (some_step BadOperand (quoted_bytes (quoted bytes)) bytes _ _ (quoted_bytes-quoted bytes) refl)
read_item (item.Program name) h = some_step BadOperand (name_of name) name _ _ (name_of-name name h) refl
read_item (item.Spawn name) h = some_step BadOperand (name_of name) name _ _ (name_of-name name h) refl
read_item item.Script h = refl
read_item (item.Truss asked) h = absurd h
read_item (item.Tool kind pid) h = read_tool kind pid h
read_item (item.Gcore pid) h = read_gcore pid h
read_item (item.Probe pid) h = read_apfiles pid h
read_item (item.Schedule []) h = absurd h
read_item (item.Schedule (t ∷ turns)) h = ap (λ r. r >>= outside.unless_none) (turns_more [] (t ∷ turns) h)

pub item_tokens : (i : Item) → IsItem i → AllByRecursion IsToken (item_words i)
unfolding item_words IsItem
item_tokens item.Blank h = tt
item_tokens (item.Turns n) h = (plain_token (codes "turns") (omega arith) refl, (decimal_token n h.1, tt))
item_tokens (item.File name bytes) h =
    (plain_token (codes "file") (omega arith) refl, (name_token name h, (quoted_token bytes, tt)))
item_tokens (item.Program name) h = (plain_token (codes "program") (omega arith) refl, (name_token name h, tt))
item_tokens (item.Spawn name) h = (plain_token (codes "spawn") (omega arith) refl, (name_token name h, tt))
item_tokens item.Script h = (plain_token (codes "script") (omega arith) refl, tt)
item_tokens (item.Truss asked) h = absurd h
item_tokens (item.Tool kind pid) h = (plain_token (codes "tool") (omega arith) refl, tool_tokens kind pid h)
item_tokens (item.Gcore pid) h = (
  plain_token (codes "tool") (omega arith) refl,
  (plain_token (codes "gcore") (omega arith) refl, (id_token pid h, tt)),
)
item_tokens (item.Probe pid) h = (
  plain_token (codes "tool") (omega arith) refl,
  (plain_token (codes "apfiles") (omega arith) refl, (id_token pid h, tt)),
)
item_tokens (item.Schedule []) h = absurd h
item_tokens (item.Schedule (t ∷ turns)) h =
    (plain_token (codes "schedule") (omega arith) refl, turns_tokens (t ∷ turns) h)

pub item_read : (i : Item) → IsItem i → item_of (texts_of (spaced (item_words i))) ≡ Ok i
item_read i h = ap item_of (texts_of-spaced (item_words i) (item_tokens i h)) ∙ read_item i h

-- ---- messages as they are

abbrev raw_begun : Writing
raw_begun = record { bytes = []; begun = Some Raw; count = 0; numbers = replicate 11 0; run = None; unknown = false }

read_raw : (b : ℕ) (bytes : List ℕ) → AllByRecursion (λ x. x < 256) (b ∷ bytes)
    → messages_of (codes "raw" ∷ digits_of_bytes (b ∷ bytes) ∷ []) ≡ Ok (b ∷ bytes)
unfolding messages_of words_written word_written message_word_of message_name operands_of message_begun operand_read
    bytes_of message_of bytes_with write_over
read_raw b bytes all =
    ap (λ o. ((ok_or BadOperand o >>= (λ tail. Ok (with_whole raw_begun Raw tail))) >>= (λ v. words_written v []))
    >>= write_over) (bytes_of_digits-digits (b ∷ bytes) all)
    ∙ ap (λ v. cond v (Err BadOperand) (Ok (b ∷ bytes))) (not_zero (suc (length bytes)) (omega arith))

-- ---- lines of scripts

with_more : (done names : List (List ℕ)) → AllByRecursion (λ n. is_name n ≡ true) names
    → with_names done names ≡ Ok (done ++ names)
unfolding with_names
with_more done [] all = ap Ok (sym (append-nil done))
with_more done (name ∷ names) all =
    some_step BadOperand (name_of name) name _ _ (name_of-name name all.0)
    (with_more (done ++ name ∷ []) names all.1 ∙ ap Ok (append_assoc done (name ∷ []) names))

read_line : (l : ScriptLine) → IsLine l → script_line_of (line_words l) ≡ Ok (Line l)
unfolding script_line_of call_with open_of close_of read_of poll_of write_of interrupt_of spawn_of kill_of until_of
    list_of begins_comment line_words IsLine
read_line (line.Open name pid lwp file mode) h =
    ap (λ r. r >>= (λ l. Ok (Line l))) (
    some_step BadOperand (name_of name) name _ (Ok (line.Open name pid lwp file mode)) (name_of-name name h.0)
    (some_step BadOperand (place_of_word (lwp_text pid lwp)) (pid, lwp) _ _ (read_place pid lwp h.1 h.2)
    (some_step BadOperand (mode_of_name (mode_name mode)) mode _ _ (mode_of_name-name mode)
    (some_step BadOperand (name_of (file_name file)) (file_name file) _ _
    (name_of-name (file_name file) (file_named file))
    (some_step UnknownName (file_of_name (file_name file)) file _ _ (file_of_name-name file) refl)))))
read_line (line.Close name) h =
    ap (λ r. r >>= (λ l. Ok (Line l)))
    (some_step BadOperand (name_of name) name _ (Ok (line.Close name)) (name_of-name name h) refl)
read_line (line.Read name at len) h =
    ap (λ r. r >>= (λ l. Ok (Line l))) (
    some_step BadOperand (name_of name) name _ (Ok (line.Read name at len)) (name_of-name name h.0)
    (some_step BadOperand (number_of (decimal at)) at _ _ (number_of-decimal at h.1)
    (some_step BadOperand (number_of (decimal len)) len _ _ (number_of-decimal len h.2) refl)))
read_line (line.Poll []) h = absurd h
read_line (line.Poll (name ∷ names)) h =
    ap (λ r. (r >>= unless_none) >>= (λ l. Ok (Line l))) (with_more [] (name ∷ names) h)
read_line (line.Write name []) h = absurd h.1
read_line (line.Write name (b ∷ bytes)) h =
    ap (λ r. r >>= (λ l. Ok (Line l))) (
    some_step BadOperand (name_of name) name _ (Ok (line.Write name (b ∷ bytes))) (name_of-name name h.0)
    (ok_step (messages_of (codes "raw" ∷ digits_of_bytes (b ∷ bytes) ∷ [])) (b ∷ bytes) _ _
    (read_raw b bytes h.1) refl))
read_line (line.Interrupt controller) h =
    ap (λ r. r >>= (λ l. Ok (Line l)))
    (some_step BadOperand (id_of (decimal controller)) controller _ (Ok (line.Interrupt controller))
    (id_of-decimal controller h) refl)
read_line (line.Spawn program false) h =
    ap (λ r. r >>= (λ l. Ok (Line l)))
    (some_step BadOperand (name_of program) program _ (Ok (line.Spawn program false)) (name_of-name program h) refl)
read_line (line.Spawn program true) h =
    ap (λ r. r >>= (λ l. Ok (Line l)))
    (some_step BadOperand (name_of program) program _ (Ok (line.Spawn program true)) (name_of-name program h) refl)
read_line (line.Kill pid sig) h =
    ap (λ r. r >>= (λ l. Ok (Line l))) (
    some_step BadOperand (id_of (decimal pid)) pid _ (Ok (line.Kill pid sig)) (id_of-decimal pid h.0)
    (some_step BadOperand (number_of (decimal sig)) sig _ _ (number_of-decimal sig h.1) refl))
read_line (line.Until moment) h =
    ap (λ r. r >>= (λ l. Ok (Line l)))
    (some_step BadOperand (number_of (decimal moment)) moment _ (Ok (line.Until moment))
    (number_of-decimal moment h) refl)
read_line line.List h = refl

name_tokens : (names : List (List ℕ)) → AllByRecursion (λ n. is_name n ≡ true) names → AllByRecursion IsToken names
name_tokens [] all = tt
name_tokens (name ∷ names) all = (name_token name all.0, name_tokens names all.1)

pub line_tokens : (l : ScriptLine) → IsLine l → AllByRecursion IsToken (line_words l)
unfolding line_words IsLine
line_tokens (line.Open name pid lwp file mode) h = (
  plain_token (codes "open") (omega arith) refl,
  (
    name_token name h.0,
    (place_token pid lwp h.1 h.2, (name_token (file_name file) (file_named file), (mode_token mode, tt))),
  ),
)
line_tokens (line.Close name) h = (plain_token (codes "close") (omega arith) refl, (name_token name h, tt))
line_tokens (line.Read name at len) h = (
  plain_token (codes "read") (omega arith) refl,
  (name_token name h.0, (decimal_token at h.1, (decimal_token len h.2, tt))),
)
line_tokens (line.Poll []) h = absurd h
line_tokens (line.Poll (name ∷ names)) h = (plain_token (codes "poll") (omega arith) refl, name_tokens (name ∷ names) h)
line_tokens (line.Write name []) h = absurd h.1
line_tokens (line.Write name (b ∷ bytes)) h = (
  plain_token (codes "write") (omega arith) refl,
  (name_token name h.0, (plain_token (codes "raw") (omega arith) refl, (bytes_token b bytes, tt))),
)
line_tokens (line.Interrupt controller) h =
    (plain_token (codes "interrupt") (omega arith) refl, (id_token controller h, tt))
line_tokens (line.Spawn program false) h = (plain_token (codes "spawn") (omega arith) refl, (name_token program h, tt))
line_tokens (line.Spawn program true) h = (
  plain_token (codes "spawn") (omega arith) refl,
  (name_token program h, (plain_token (codes "held") (omega arith) refl, tt)),
)
line_tokens (line.Kill pid sig) h =
    (plain_token (codes "kill") (omega arith) refl, (id_token pid h.0, (decimal_token sig h.1, tt)))
line_tokens (line.Until moment) h = (plain_token (codes "until") (omega arith) refl, (decimal_token moment h, tt))
line_tokens line.List h = (plain_token (codes "list") (omega arith) refl, tt)

pub line_read : (l : ScriptLine) → IsLine l → script_line_of (texts_of (spaced (line_words l))) ≡ Ok (Line l)
line_read l h = ap script_line_of (texts_of-spaced (line_words l) (line_tokens l h)) ∙ read_line l h
