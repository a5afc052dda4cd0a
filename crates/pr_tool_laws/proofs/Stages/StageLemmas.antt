use Rattle.std.proofs.Common.{◌≡◌, ◌++◌, ◌∷◌, ◌⊎◌, ℕ, Some, None, List, [], true, is_some, option_map, take, refl, sym, ap, ◌∙◌, subst, inl, inr}
use Rattle.std.proofs.lemmas.Bool.{false≢true}
use Rattle.std.proofs.lemmas.Option.{same_Some}
use Rattle.pr_api.specs.Entries.{call_entry}
use Rattle.pr_model.proofs.HistoryLemmas.{state_after-push}
use Rattle.pr_model.specs.Calls.{Answer, answer_to, answered}
use Rattle.pr_model.specs.Handles.{handle_of}
use Rattle.pr_model.specs.Legal.{IsLegalEntry, after as entry_after, after_call, state_after}
use Rattle.pr_model.specs.Reads.{file_read, read_reply}
use Rattle.pr_model.specs.Replies.{bytes_in}
use Rattle.pr_model.specs.State.{Places, TracedState, TracedSystem}
use Rattle.pr_model.specs.declared.calls.Call.{Call}
use Rattle.pr_model.specs.declared.calls.Call.TheVariants as call
use Rattle.pr_model.specs.declared.calls.Mode.TheVariants as mode
use Rattle.pr_model.specs.declared.calls.Reply.{Reply}
use Rattle.pr_model.specs.declared.calls.Reply.TheVariants as reply
use Rattle.pr_model.specs.declared.events.Act.{Act}
use Rattle.pr_model.specs.declared.events.Actor.{Actor}
use Rattle.pr_model.specs.declared.events.Entry.{Entry}
use Rattle.pr_model.specs.declared.handles.Held.{Held}
use Rattle.pr_model.specs.declared.tools.ToolKind.{ToolKind}
use Rattle.pr_num.specs.Limits.{read_limit}
use Rattle.pr_tools.specs.Replies.{refusal_in}
use Rattle.pr_tools.specs.Steps.{after as step_after, file_of, record_room}
use Rattle.pr_tools.specs.Tools.{ToolState, fed, first_tool, has_ended, next_call_of}
use Rattle.pr_tools.specs.declared.steps.Step.{Step}
use Rattle.pr_tools.specs.declared.steps.Step.TheVariants as step
use Rattle.pr_tool_laws.proofs.Stages.ReaderLemmas.{HasAwaited, IsRead, IsReader, IsWithFile, bytes-given, first-call, handle-read, open-refused, opened-fed, read-call, read-fed, read-refused, reply-read, wait-call, wait-fed, with_file, with_record_open}
use Rattle.pr_tool_laws.proofs.OwnFiles.StandingLemmas.{IsOther, Stands, others-keep}
use Rattle.pr_tool_laws.proofs.Stages.ToolLemmas.{HasRead, WasRefused, read-goes-on, read-still, refused-closes, showed-here, showed-still, still-going}
use Rattle.pr_tool_laws.specs.Reads.{IsToolRead, bytes_shown}
use Rattle.pr_truss_laws.proofs.Files.OpensLemmas.{Opens, Refuses, open-opens, own-mine, own-set, plain-leaves}

-- The stages of a tool that opens one file, reads it and closes it, and what more is known of the states on its way.

-- ---- the state after a call

pub state-called : (first : TracedState) (h : List Entry) (k : ℕ) (c : Call) (a : Answer)
    → answer_to (state_after first h) k c ≡ Some a → state_after first (h ++ call_entry k c a.reply ∷ []) ≡ a.state
unfolding entry_after
state-called first h k c a is =
    state_after-push first h (call_entry k c a.reply) ∙ ap (after_call (state_after first h)) is

-- an answer is the one that the machine gives
pub same-answer : (s : TracedState) (k : ℕ) (c d : Call) (a b : Answer) → c ≡ d → answer_to s k c ≡ Some a
    → answer_to s k d ≡ Some b → b ≡ a
same-answer s k c d a b same given its = same_Some b a (sym its ∙ ap (answer_to s k) (sym same) ∙ given)

-- what the handle of a tool stands for
abbrev pub held_by_tool : ℕ → ToolKind → ℕ → Held
held_by_tool k kind pid = record { controller = k; pid = pid; lwp = 0; file = file_of kind; mode = mode.Read }

-- What more is known of the states on the way of a tool, by the step that comes next, and of the state that it reads.
-- Others keep it, and each of its own calls leads from what is known before it to what is known after it.
pub record Keeps (n k : ℕ) (kind : ToolKind) (pid : ℕ) (Known : Step → TracedState → Type 0)
    (Shown : TracedSystem → Type 0) : Type 0 where
  pub others : (s : TracedState) (e : Entry) (next : Step) → IsLegalEntry n s e → Known next s
      → Known next (entry_after s e)
  pub opened : (s : TracedState) (a : Answer) → answer_to s k (call.Open pid 0 (file_of kind) mode.Read) ≡ Some a
      → Known step.OpenFile s → Known (step_after kind step.OpenFile) a.state
  pub awaited : (s : TracedState) (a : Answer) (number : ℕ) → Stands s.opens number (held_by_tool k kind pid)
      → answer_to s k (call.Poll (number ∷ [])) ≡ Some a → refusal_in step.AwaitEnd a.reply ≡ None
      → Known step.AwaitEnd s → Known step.ReadFile a.state
  pub read : (s : TracedState) (bytes : List ℕ)
      → file_read s.system pid 0 0 read_limit (file_of kind) ≡ reply.Bytes bytes → Known step.ReadFile s
      → Shown s.system

module _ (n k : ℕ) (kind : ToolKind) (pid : ℕ) (first : TracedState) (reader : IsReader kind)
    (Known : Step → TracedState → Type 0) (Shown : TracedSystem → Type 0) (keeps : Keeps n k kind pid Known Shown) where
  abbrev held : Held
  held = held_by_tool k kind pid

  pub record Holds (s : TracedState) (t : ToolState) : Type 0 where
    pub next : Step
    pub number : ℕ
    pub at : IsWithFile kind next
    pub is : t ≡ with_file kind pid next number
    pub stands : Stands s.opens number held
    pub known : Known next s

  -- it has read, in a state of which this is known
  pub record HasShown (h : List Entry) (t : ToolState) : Type 0 where
    pub has : HasRead k kind pid first h t
    pub shown : Shown (state_after first has.showed.before).system

  pub data Stage (h : List Entry) (t : ToolState) : Type 0 where
    at_first : t ≡ first_tool kind pid → Known step.OpenFile (state_after first h) → Stage h t
    with_its_file : Holds (state_after first h) t → Stage h t
    has_shown : HasShown h t → Stage h t
    refused : WasRefused t → Stage h t

  -- ---- what others do

  still-known : (h : List Entry) (e : Entry) (next : Step) → IsLegalEntry n (state_after first h) e
      → Known next (state_after first h) → Known next (state_after first (h ++ e ∷ []))
  still-known h e next legal known =
      subst (Known next) (sym (state_after-push first h e)) (keeps.others (state_after first h) e next legal known)

  -- the state that it read stays the same one
  still-shown : (h : List Entry) (e : Entry) (t : ToolState) → HasShown h t → HasShown (h ++ e ∷ []) t
  unfolding read-still showed-still
  still-shown h e t it = record { has = read-still k kind pid first h e t it.has; shown = it.shown }

  pub others-stage : (h : List Entry) (t : ToolState) (actor : Actor) (it : Act)
      → IsLegalEntry n (state_after first h) (record { actor = actor; act = it }) → IsOther k actor it → Stage h t
      → Stage (h ++ (record { actor = actor; act = it }) ∷ []) t
  others-stage h t actor it legal other (at_first same known) =
      at_first same (still-known h (record { actor = actor; act = it }) step.OpenFile legal known)
  others-stage h t actor it legal other (with_its_file holds) =
      let e : Entry = record { actor = actor; act = it } in
      let kept = others-keep holds.number held n (state_after first h) actor it legal other holds.stands in
      let stands : Stands (state_after first (h ++ e ∷ [])).opens holds.number held =
      ap (λ (s : TracedState). handle_of s.opens k holds.number) (state_after-push first h e) ∙ kept in
      with_its_file (record {
        next = holds.next;
        number = holds.number;
        at = holds.at;
        is = holds.is;
        stands = stands;
        known = still-known h e holds.next legal holds.known;
      })
  others-stage h t actor it legal other (has_shown has) =
      has_shown (still-shown h (record { actor = actor; act = it }) t has)
  others-stage h t actor it legal other (refused was) = refused was

  -- ---- its own calls

  module _ (h : List Entry) (c : Call) (a : Answer) (given : answer_to (state_after first h) k c ≡ Some a) where
    abbrev longer : List Entry
    longer = h ++ call_entry k c a.reply ∷ []

    known-after : (next : Step) → Known next a.state → Known next (state_after first longer)
    known-after next known = subst (Known next) (sym (state-called first h k c a given)) known

    -- the handle that it was granted stands there
    granted-stage : Known (step_after kind step.OpenFile) a.state
        → Opens (state_after first h) k held a.reply a.state.opens → Stage longer (fed (first_tool kind pid) a.reply)
    granted-stage known opens =
        let s = state_after first h in
        let next : fed (first_tool kind pid) a.reply ≡ with_file kind pid (step_after kind step.OpenFile) opens.place =
        ap (fed (first_tool kind pid)) opens.reply ∙ opened-fed kind pid reader opens.place in
        let stands : Stands a.state.opens opens.place held =
        ap (λ (x : Places). handle_of x k opens.place) opens.is
        ∙ own-set s.opens k opens.place (Some held) None opens.free ∙ own-mine k held refl in
        let there : Stands (state_after first longer).opens opens.place held =
        ap (λ (x : TracedState). handle_of x.opens k opens.place) (state-called first h k c a given) ∙ stands in
        with_its_file (record {
          next = step_after kind step.OpenFile;
          number = opens.place;
          at = reader.opens;
          is = next;
          stands = there;
          known = known-after (step_after kind step.OpenFile) known;
        })

    first-stage : Known step.OpenFile (state_after first h) → next_call_of (first_tool kind pid) ≡ Some c
        → Stage longer (fed (first_tool kind pid) a.reply)
    first-stage known next = of (open-opens (state_after first h) k pid 0 (file_of kind) mode.Read a answers)
      where
        same : c ≡ call.Open pid 0 (file_of kind) mode.Read
        same = same_Some _ _ (sym next ∙ first-call kind pid reader)

        answers : answer_to (state_after first h) k (call.Open pid 0 (file_of kind) mode.Read) ≡ Some a
        answers = ap (answer_to (state_after first h) k) (sym same) ∙ given

        of : Refuses (state_after first h) a.reply a.state.opens ⊎ Opens
            (state_after first h) k held a.reply a.state.opens → Stage longer (fed (first_tool kind pid) a.reply)
        of (inl denied) =
            refused (subst (λ r. WasRefused (fed (first_tool kind pid) r)) (sym denied.reply)
            (open-refused kind pid reader denied.errno))
        of (inr opens) = granted-stage (keeps.opened (state_after first h) a answers known) opens

    -- what its read makes of it
    read-stage : (number : ℕ) → Known step.ReadFile (state_after first h)
        → IsToolRead kind k pid (state_after first h) c → (q : Reply) → IsRead q
        → file_read (state_after first h).system pid 0 0 read_limit (file_of kind) ≡ q → a.reply ≡ q
        → Stage longer (fed (with_file kind pid step.ReadFile number) a.reply)
    unfolding showed-here
    read-stage number known own (reply.Bytes bytes) whole reads answers =
        let s = state_after first h in
        let shows : bytes_shown kind pid s.system ≡ Some (take (record_room kind) bytes) =
        reader.shows pid s.system ∙ ap (λ r. option_map (take (record_room kind)) (bytes_in r)) reads
        ∙ bytes-given kind pid reader bytes in
        let has : HasRead k kind pid first longer (fed (with_file kind pid step.ReadFile number) a.reply) = record {
          opened = with_record_open number;
          bytes = take (record_room kind) bytes;
          is = ap (fed (with_file kind pid step.ReadFile number)) answers ∙ read-fed kind pid reader number bytes;
          showed = showed-here k kind pid first h c a.reply (take (record_room kind) bytes) own shows;
        } in
        has_shown (record { has = has; shown = keeps.read s bytes reads known })
    read-stage number known own (reply.Fail e) whole reads answers =
        refused (subst (λ r. WasRefused (fed (with_file kind pid step.ReadFile number) r)) (sym answers)
        (read-refused kind pid reader number e))
    read-stage number known own _ whole reads answers = absurd whole

    reading-stage : (number : ℕ) → Stands (state_after first h).opens number held
        → Known step.ReadFile (state_after first h) → next_call_of (with_file kind pid step.ReadFile number) ≡ Some c
        → Stage longer (fed (with_file kind pid step.ReadFile number) a.reply)
    unfolding answer_to
    reading-stage number stands known next =
        let s = state_after first h in
        let same : c ≡ call.Read number 0 read_limit = same_Some _ _ (sym next ∙ read-call kind pid reader number) in
        let answer =
        same-answer s k c (call.Read number 0 read_limit) a
        (answered s (read_reply s k number 0 read_limit)) same given refl in
        let reads : a.reply ≡ file_read s.system pid 0 0 read_limit (file_of kind) =
        ap (λ (x : Answer). x.reply) (sym answer) ∙ handle-read s number 0 read_limit held reader.plain stands in
        let own : IsToolRead kind k pid s c =
        reader.finds k pid s c (record {
          handle = number;
          held = held;
          is_read = same;
          there = stands;
          of = refl;
          file = refl;
        }) in
        read-stage number known own (file_read s.system pid 0 0 read_limit (file_of kind))
        (reply-read s.system pid 0 0 read_limit (file_of kind)) refl reads

    waiting-stage : step_after kind step.AwaitEnd ≡ step.ReadFile → (number : ℕ)
        → Stands (state_after first h).opens number held → Known step.AwaitEnd (state_after first h)
        → next_call_of (with_file kind pid step.AwaitEnd number) ≡ Some c
        → Stage longer (fed (with_file kind pid step.AwaitEnd number) a.reply)
    waiting-stage waits number stands known next = of (wait-fed kind pid reader waits number a.reply)
      where
        same : c ≡ call.Poll (number ∷ [])
        same = same_Some _ _ (sym next ∙ wait-call kind pid reader number)

        answers : answer_to (state_after first h) k (call.Poll (number ∷ [])) ≡ Some a
        answers = ap (answer_to (state_after first h) k) (sym same) ∙ given

        there : Stands (state_after first longer).opens number held
        there =
            let kept : a.state.opens ≡ (state_after first h).opens =
            plain-leaves (state_after first h) k (call.Poll (number ∷ [])) a refl answers in
            ap (λ (s : TracedState). handle_of s.opens k number) (state-called first h k c a given)
            ∙ ap (λ (x : Places). handle_of x k number) kept ∙ stands

        of : HasAwaited kind pid reader number a.reply ⊎ WasRefused
            (fed (with_file kind pid step.AwaitEnd number) a.reply)
            → Stage longer (fed (with_file kind pid step.AwaitEnd number) a.reply)
        of (inl awaited) = with_its_file (record {
          next = step.ReadFile;
          number = number;
          at = inl refl;
          is = awaited.reads;
          stands = there;
          known =
              known-after step.ReadFile
              (keeps.awaited (state_after first h) a number stands answers awaited.accepted known);
        })
        of (inr was) = refused was

    holding-stage : (next : Step) (number : ℕ) → IsWithFile kind next → Stands (state_after first h).opens number held
        → Known next (state_after first h) → next_call_of (with_file kind pid next number) ≡ Some c
        → Stage longer (fed (with_file kind pid next number) a.reply)
    holding-stage next number (inl reads) stands =
        let Q : Step → Type 0 =
        λ p. Known p (state_after first h) → next_call_of (with_file kind pid p number) ≡ Some c
        → Stage longer (fed (with_file kind pid p number) a.reply) in
        subst Q (sym reads) (reading-stage number stands)
    holding-stage next number (inr waits) stands =
        let Q : Step → Type 0 =
        λ p. Known p (state_after first h) → next_call_of (with_file kind pid p number) ≡ Some c
        → Stage longer (fed (with_file kind pid p number) a.reply) in
        subst Q (sym waits.0) (waiting-stage waits.1 number stands)

    -- the state that it read stays the same one
    goes-on-shown : (t : ToolState) → HasShown h t → HasShown longer (fed t a.reply)
    unfolding read-goes-on showed-still
    goes-on-shown t it = record {
      has = read-goes-on k kind pid first h (call_entry k c a.reply) t a.reply it.has;
      shown = it.shown;
    }

    pub called-stage : (t : ToolState) → next_call_of t ≡ Some c → Stage h t → Stage longer (fed t a.reply)
    called-stage t next (at_first same known) =
        let Q : ToolState → Type 0 = λ u. next_call_of u ≡ Some c → Stage longer (fed u a.reply) in
        subst Q (sym same) (first-stage known) next
    called-stage t next (with_its_file holds) =
        let Q : ToolState → Type 0 = λ u. next_call_of u ≡ Some c → Stage longer (fed u a.reply) in
        subst Q (sym holds.is) (holding-stage holds.next holds.number holds.at holds.stands holds.known) next
    called-stage t next (has_shown has) = has_shown (goes-on-shown t has)
    called-stage t next (refused was) = refused (refused-closes t a.reply was)

  -- ---- the end

  holding-call : (next : Step) (number : ℕ) → IsWithFile kind next → has_ended (with_file kind pid next number) ≡ true
      → ⊥
  holding-call next number (inl reads) ended =
      still-going (with_file kind pid step.ReadFile number) _ (read-call kind pid reader number)
      (subst (λ p. has_ended (with_file kind pid p number) ≡ true) reads ended)
  holding-call next number (inr waits) ended =
      still-going (with_file kind pid step.AwaitEnd number) _ (wait-call kind pid reader number)
      (subst (λ p. has_ended (with_file kind pid p number) ≡ true) waits.0 ended)

  pub ended-stage : (h : List Entry) (t : ToolState) → has_ended t ≡ true → t.refusal ≡ None → Stage h t → HasShown h t
  ended-stage h t ended accepted (at_first same known) =
      absurd (still-going t _ (ap next_call_of same ∙ first-call kind pid reader) ended)
  ended-stage h t ended accepted (with_its_file holds) =
      absurd (holding-call holds.next holds.number holds.at (subst (λ u. has_ended u ≡ true) holds.is ended))
  ended-stage h t ended accepted (has_shown has) = has
  ended-stage h t ended accepted (refused was) = absurd (false≢true (sym (ap is_some accepted) ∙ was.refusal))
