use Rattle.std.proofs.Common.{◌≡◌, ◌==◌, ◌+◌, ◌-◌, ◌∙◌, ℕ, Bool, true, false, cond, Option, Some, None, Result, Ok}
use Rattle.std.proofs.Common.{Err, List, [], ◌∷◌}
use Rattle.std.proofs.Common.{codes, nat_lt, length, map, refl, sym, subst, ap}
use Rattle.std.specs.List.{All, slice_get, slice_split}
use Rattle.std.specs.Option.{IfSome, option_map}
use Rattle.std.specs.Result.{IfOk}
use Rattle.std.specs.Str.{bytes_eq}
use Rattle.std.proofs.lemmas.List.Elements.{All-cons, All-from_recursion, All-head, All-nil}
use Rattle.std.proofs.lemmas.Option.{slice_get-map}
use Rattle.pr_asks.specs.Asks.{as_move, as_moves, as_messages, ask_of, messages_behind, messages_to, or_messages}
use Rattle.pr_asks.specs.Asks.{split_word}
use Rattle.pr_asks.specs.Calls.{actor_of, call_in, call_of, call_text, entries_or, first_call}
use Rattle.pr_asks.specs.Messages.{messages_in, messages_of, opened, scenario_text, script_in, script_of}
use Rattle.pr_asks.specs.declared.asks.Ask.{Ask}
use Rattle.pr_asks.specs.declared.asks.Ask.TheVariants as ask
use Rattle.pr_asks.specs.declared.asks.AskKind.{AskKind}
use Rattle.pr_lines.specs.Lines.{line_bytes}
use Rattle.pr_model.specs.declared.calls.Call.{Call}
use Rattle.pr_model.specs.declared.calls.Reply.TheVariants.{Handle}
use Rattle.pr_model.specs.declared.events.Act.{Act}
use Rattle.pr_model.specs.declared.events.Act.TheVariants as act
use Rattle.pr_model.specs.declared.events.Actor.{Actor}
use Rattle.pr_model.specs.declared.events.Entry.{Entry}
use Rattle.pr_num.proofs.SearchLemmas.{All-at}
use Rattle.pr_num.specs.Words.{IsByte}
use Rattle.pr_plain.proofs.HexLemmas.{bytes_of_word-bytes}
use Rattle.pr_plain.specs.CallReading as reading
use Rattle.pr_plain.specs.CallReading.{arrow, begins_call, call_at, call_behind, reply_at}
use Rattle.pr_plain.specs.DecimalWords.{decimal_of}
use Rattle.pr_plain.specs.EntryReading as entries
use Rattle.pr_plain.specs.EntryReading.{act_by, act_of, entries_in, entry_in, entry_of, exchange_of, history_in}
use Rattle.pr_plain.specs.EntryReading.{history_of}
use Rattle.pr_plain.specs.EntryReading.{next_heading, or_line, then_reads, tick_of}
use Rattle.pr_plain.specs.HexWords.{bytes_of_word}
use Rattle.pr_plain.specs.Lines.{is_blank}
use Rattle.pr_plain.specs.Readings.{◌>>=◌}
use Rattle.pr_plain.specs.TurnReading.{turn_of}
use Rattle.pr_plain.specs.WordReading.{Words, behind_word, bytes_at, file_at, id_at, is_done, mode_at, number_at}
use Rattle.pr_plain.specs.WordReading.{program_at}
use Rattle.pr_plain.specs.WordReading.{word_at}
use Rattle.pr_reached.specs.ByteHistories.{HasBytes, IsActOfBytes, IsEntryOfBytes, IsOfBytes}
use Rattle.pr_run_laws.proofs.BytesWritten.ByteLemmas.{fed-lines}
use Rattle.pr_run_laws.proofs.ScenariosInRange.ScenarioRangeLemmas.{scenario-range}
use Rattle.pr_run_laws.specs.ScenarioRanges.{IsCoreOfBytes, IsLineOfBytes}
use Rattle.pr_run_laws.specs.ScenarioRuns.{controller_of}
use Rattle.pr_scen.proofs.StepLemmas.{if_ok, of_some}
use Rattle.pr_scen.specs.Reading.{scenario_of}
use Rattle.pr_scen.specs.Refusals.{ScenFault}
use Rattle.pr_scen.specs.Scenarios.{Scenario}
use Rattle.pr_scen.specs.Scripts.{ScriptState}
use Rattle.pr_scen.specs.declared.plans.Plan.{Plan}
use Rattle.pr_scen.specs.declared.plans.Plan.TheVariants as plan
use Rattle.pr_text.specs.NumberWords.{id_of, number_of}
use Rattle.pr_world.specs.ControllerStates.{Script}

-- What a line of the outside asks to write is bytes: hex digits are those of bytes, and messages are spelled in bytes.

-- ---- what there is, where one step follows another

bind-so : {A B : Type 0} (P : B → Type 0) (o : Option A) (f : A → Option B)
    → ((x : A) → o ≡ Some x → IfSome (f x) P) → IfSome (o >>= f) P
bind-so P None f all = tt
bind-so P (Some x) f all = all x refl

cond-so : {A : Type 0} (P : A → Type 0) (b : Bool) (x y : Option A) → IfSome x P → IfSome y P → IfSome (cond b x y) P
cond-so P true x y p q = p
cond-so P false x y p q = q

read-so : {X Y : Type 0} (P : Y → Type 0) (r : Result X ℕ) (f : X → Result Y ℕ)
    → ((x : X) → r ≡ Ok x → IfOk (f x) P) → IfOk (then_reads r f) P
read-so P (Ok x) f all = all x refl
read-so P (Err line) f all = tt

line-some : {X : Type 0} (line : ℕ) (o : Option X) (x : X) → or_line line o ≡ Ok x → o ≡ Some x
line-some line None x is = cc
line-some line (Some y) x is = cc

-- ---- calls, a row for each form

abbrev Writes : Call × Words → Type 0
Writes r = IsOfBytes r.0

abbrev Said : List ℕ × Words → Type 0
Said r = All IsByte r.0

bytes-at : (ws : Words) → IfSome (bytes_at ws) Said
unfolding bytes_at
bytes-at ws =
    bind-so Said (word_at ws) _
    (λ w _. bind-so Said (bytes_of_word w.0) _
    (λ bytes is. All-from_recursion IsByte bytes (bytes_of_word-bytes w.0 bytes is)))

open-at : (ws : Words) → IfSome (reading.open_at ws) Writes
unfolding reading.open_at
open-at ws =
    bind-so Writes (reading.target_at ws) _
    (λ target _. bind-so Writes (file_at target.1) _ (λ file _. bind-so Writes (mode_at file.1) _ (λ mode _. tt)))

close-at : (ws : Words) → IfSome (reading.close_at ws) Writes
unfolding reading.close_at
close-at ws = bind-so Writes (id_at ws) _ (λ h _. tt)

ctl-at : (ws : Words) → IfSome (reading.ctl_at ws) Writes
unfolding reading.ctl_at
ctl-at ws =
    bind-so Writes (id_at ws) _
    (λ h _. bind-so Writes (bytes_at h.1) _ (λ bytes is. of_some Said (bytes_at h.1) bytes is (bytes-at h.1)))

ctl_wait-at : (ws : Words) → IfSome (reading.ctl_wait_at ws) Writes
unfolding reading.ctl_wait_at
ctl_wait-at ws =
    bind-so Writes (id_at ws) _
    (λ h _. bind-so Writes (number_at h.1) _ (λ until _. bind-so Writes (bytes_at until.1) _ (λ bytes _. tt)))

read-at : (ws : Words) → IfSome (reading.read_at ws) Writes
unfolding reading.read_at
read-at ws =
    bind-so Writes (id_at ws) _
    (λ h _. bind-so Writes (number_at h.1) _ (λ at _. bind-so Writes (number_at at.1) _ (λ len _. tt)))

poll-at : (ws : Words) → IfSome (reading.poll_at ws) Writes
unfolding reading.poll_at
poll-at ws = bind-so Writes (reading.handles_at ws) _ (λ hs _. tt)

interrupt-at : (ws : Words) → IfSome (reading.interrupt_at ws) Writes
unfolding reading.interrupt_at
interrupt-at ws = bind-so Writes (id_at ws) _ (λ k _. tt)

spawn-at : (ws : Words) → IfSome (reading.spawn_at ws) Writes
unfolding reading.spawn_at
spawn-at ws = bind-so Writes (program_at ws) _ (λ program _. tt)

kill-at : (ws : Words) → IfSome (reading.kill_at ws) Writes
unfolding reading.kill_at
kill-at ws = bind-so Writes (id_at ws) _ (λ p _. bind-so Writes (number_at p.1) _ (λ s _. tt))

until-at : (ws : Words) → IfSome (reading.until_at ws) Writes
unfolding reading.until_at
until-at ws = bind-so Writes (number_at ws) _ (λ n _. tt)

call-behind : (w : List ℕ) (ws : Words) → IfSome (call_behind w ws) Writes
unfolding call_behind
call-behind w ws =
    cond-so Writes (bytes_eq w (codes "open")) _ _ (open-at ws)
    (cond-so Writes (bytes_eq w (codes "close")) _ _ (close-at ws)
    (cond-so Writes (bytes_eq w (codes "ctl")) _ _ (ctl-at ws)
    (cond-so Writes (bytes_eq w (codes "ctlwait")) _ _ (ctl_wait-at ws)
    (cond-so Writes (bytes_eq w (codes "read")) _ _ (read-at ws)
    (cond-so Writes (bytes_eq w (codes "poll")) _ _ (poll-at ws)
    (cond-so Writes (bytes_eq w (codes "interrupt")) _ _ (interrupt-at ws)
    (cond-so Writes (bytes_eq w (codes "spawn")) _ _ (spawn-at ws)
    (cond-so Writes (bytes_eq w (codes "kill")) _ _ (kill-at ws)
    (cond-so Writes (bytes_eq w (codes "until")) _ _ (until-at ws)
    (cond-so Writes (bytes_eq w (codes "list")) _ _ tt tt))))))))))

call-at : (ws : Words) → IfSome (call_at ws) Writes
unfolding call_at
call-at ws = bind-so Writes (word_at ws) _ (λ w _. call-behind w.0 w.1)

-- ---- entries

exchange-so : (ws : Words) → IfSome (exchange_of ws) IsActOfBytes
unfolding exchange_of
exchange-so ws =
    bind-so IsActOfBytes (call_at ws) _
    (λ c is. bind-so IsActOfBytes (behind_word arrow c.1) _
    (λ rest _. bind-so IsActOfBytes (reply_at rest) _
    (λ r _. cond-so IsActOfBytes (is_done r.1) _ _ (of_some Writes (call_at ws) c is (call-at ws)) tt)))

act-by : (o : Option ℕ) (w : List ℕ) (rest ws : Words) → IfSome (act_by o w rest ws) IsActOfBytes
unfolding tick_of
act-by (Some n) w rest ws = cond-so IsActOfBytes (is_done rest) _ _ tt tt
act-by None w rest ws =
    cond-so IsActOfBytes (begins_call w) _ _ (exchange-so ws) (bind-so IsActOfBytes (turn_of ws) _ (λ t _. tt))

act-so : (ws : Words) → IfSome (act_of ws) IsActOfBytes
unfolding act_of
act-so ws = bind-so IsActOfBytes (word_at ws) _ (λ w _. act-by (decimal_of w.0) w.0 w.1 ws)

entry-so : (n : ℕ) (ws : Words) → IfSome (entry_of n ws) IsEntryOfBytes
unfolding entry_of
entry-so n ws =
    bind-so IsEntryOfBytes (number_at ws) _
    (λ i _. bind-so IsEntryOfBytes (word_at i.1) _
    (λ w _. bind-so IsEntryOfBytes (entries.actor_of w.0) _
    (λ actor _. bind-so IsEntryOfBytes (act_of w.1) _
    (λ a is. cond-so IsEntryOfBytes (i.0 == n) _ _ (of_some IsActOfBytes (act_of w.1) a is (act-so w.1)) tt))))

entries-so : (ls : List (List ℕ)) (line count n : ℕ) → IfOk (entries_in line count n ls) HasBytes
unfolding entries_in
entries-so [] line count n =
    if_ok HasBytes (n == count) _ _ (λ _. All-nil IsEntryOfBytes) (λ _. tt)
entries-so (l ∷ ls) line count n =
    if_ok HasBytes (n == count) _ _ (λ _. All-nil IsEntryOfBytes)
    (λ _. read-so HasBytes (or_line line (entry_in n l)) _
    (λ e is. read-so HasBytes (entries_in (line + 1) count (n + 1) ls) _
    (λ es more.
    All-cons IsEntryOfBytes e es
    (of_some IsEntryOfBytes (entry_in n l) e (line-some line (entry_in n l) e is) (entry-so n (slice_split is_blank l)))
    (of_ok HasBytes (entries_in (line + 1) count (n + 1) ls) es more (entries-so ls (line + 1) count (n + 1))))))
  where
    of_ok : {X : Type 0} (P : X → Type 0) (r : Result X ℕ) (x : X) → r ≡ Ok x → IfOk r P → P x
    of_ok P (Ok y) x e p = let same : y ≡ x = cc in subst P same p
    of_ok P (Err k) x e p = cc

history-so : (line : ℕ) (text : List ℕ) → IfOk (history_of line text) HasBytes
unfolding history_in
history-so line text =
    read-so HasBytes (next_heading line _) _ (λ heading _. entries-so heading.1 (line + 1) heading.0 0)

-- ---- a line that is a call

act-call : (a : Act) → IsActOfBytes a → IfOk (call_in a) IsOfBytes
act-call (act.Call c r) h = h
act-call (act.Turn t) h = tt
act-call (act.Tick m) h = tt

first-so : (es : List Entry) → HasBytes es → IfOk (first_call es) IsOfBytes
first-so [] h = tt
first-so (e ∷ es) h = act-call e.act (All-head IsEntryOfBytes e es h)

call-so : (line : List ℕ) → IfOk (call_of line) IsOfBytes
unfolding call_of
call-so line = of (history_of 0 (call_text line)) (history-so 0 (call_text line))
  where
    of : (r : Result (List Entry) ℕ) → IfOk r HasBytes → IfOk (entries_or first_call r) IsOfBytes
    of (Ok es) h = first-so es h
    of (Err at) h = tt

-- ---- messages by words

abbrev pub HasLines : ScriptState → Type 0
HasLines script = All IsLineOfBytes script.lines

plan-lines : (plans : List Plan) (i : ℕ) → All IsCoreOfBytes (map controller_of plans)
    → IfOk (script_in (slice_get plans i)) HasLines
unfolding controller_of IsCoreOfBytes
plan-lines plans i all = of (slice_get plans i) refl
  where
    of : (o : Option Plan) → slice_get plans i ≡ o → IfOk (script_in o) HasLines
    of None found = tt
    of (Some (plan.Script script)) found =
        All-at IsCoreOfBytes (map controller_of plans) i (Script script)
        (slice_get-map controller_of plans i ∙ ap (option_map controller_of) found) all
    of (Some (plan.Truss options)) found = tt
    of (Some (plan.Tool kind pid)) found = tt
    of (Some (plan.Gcore pid)) found = tt
    of (Some (plan.Probe pid)) found = tt

opened-lines : (handle : ℕ) (r : Result ScriptState AskKind) → IfOk r HasLines → IfOk (opened handle r) HasLines
opened-lines handle (Ok s) h = subst (All IsLineOfBytes) (sym (fed-lines s (Handle handle))) h
opened-lines handle (Err kind) h = tt

messages-so : (handle : ℕ) (messages : List ℕ) → IfOk (messages_of handle messages) HasLines
unfolding messages_of
messages-so handle messages = of (scenario_of (scenario_text messages)) refl
  where
    of : (r : Result Scenario ScenFault) → scenario_of (scenario_text messages) ≡ r
        → IfOk (messages_in handle r) HasLines
    of (Ok s) is =
        opened-lines handle (script_of s)
        (plan-lines s.controllers (length s.controllers - 1) (scenario-range (scenario_text messages) s is).bytes)
    of (Err fault) is = tt

-- ---- what a line asks for

abbrev pub AsksForBytes : Ask → Type 0
AsksForBytes (ask.Call c) = IsOfBytes c
AsksForBytes (ask.Messages script) = HasLines script
AsksForBytes _ = Unit {0}

moves-so : (o : Option ℕ) → IfOk (as_moves o) AsksForBytes
moves-so (Some times) = tt
moves-so None = tt

move-so : (r : Result Actor AskKind) → IfOk (as_move r) AsksForBytes
move-so (Ok actor) = tt
move-so (Err kind) = tt

to-so : (o : Option ℕ) (messages : List ℕ) → IfOk (messages_to o messages) AsksForBytes
to-so (Some handle) messages = of (messages_of handle messages) (messages-so handle messages)
  where
    of : (r : Result ScriptState AskKind) → IfOk r HasLines → IfOk (as_messages r) AsksForBytes
    of (Ok s) h = h
    of (Err kind) h = tt
to-so None messages = tt

or-so : (line : List ℕ) (r : Result Call AskKind) → IfOk r IsOfBytes → IfOk (or_messages line r) AsksForBytes
unfolding messages_behind
or-so line (Ok c) h = h
or-so line (Err kind) h =
    if_ok AsksForBytes (bytes_eq (split_word line).0 (codes "ctl")) _ _
    (λ _. to-so (id_of (split_word (split_word line).1).0) (split_word (split_word line).1).1) (λ _. tt)

pub asks-bytes : (line : List ℕ) → IfOk (ask_of line) AsksForBytes
unfolding ask_of
asks-bytes line =
    if_ok AsksForBytes (nat_lt line_bytes (length line)) _ _ (λ _. tt)
    (λ _. if_ok AsksForBytes (bytes_eq line (codes "%end")) _ _ (λ _. tt)
    (λ _. if_ok AsksForBytes (bytes_eq line (codes "run")) _ _ (λ _. tt)
    (λ _. if_ok AsksForBytes (bytes_eq (split_word line).0 (codes "moves")) _ _
    (λ _. moves-so (number_of (split_word line).1))
    (λ _. if_ok AsksForBytes (bytes_eq (split_word line).0 (codes "move")) _ _
    (λ _. move-so (actor_of (split_word line).1))
    (λ _. or-so line (call_of line) (call-so line))))))
