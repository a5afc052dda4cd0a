use Rattle.std.proofs.Common.{◌≡◌, ◌≢◌, ◌==◌, ◌||◌, ◌^◌, ◌<◌, ◌∷◌, ◌+◌, option_map, ℕ, Bool, true, false, not, cond, nat_le, List, [], Option, Some, None, Ok, Err, Result, is_some, is_ok, length, All, refl, sym, subst, ap, ◌∙◌, arith}
use Rattle.std.proofs.lemmas.Bool.{eqb-true, and_parts, false≢true}
use Rattle.std.proofs.lemmas.List.{append-nil}
use Rattle.std.proofs.lemmas.List.Elements.{All-from_recursion, All-nil}
use Rattle.std.proofs.lemmas.Option.{none-some, same_Some}
use Rattle.std.specs.List.{list_all}
use Rattle.pr_codec.proofs.MessageLemmas.{spelt_is_read}
use Rattle.pr_parts.proofs.WriteLemmas.{bytes_for-with_bytes}
use Rattle.pr_parts.specs.Accesses.{checked}
use Rattle.pr_model.specs.Calls.{Answer, answer_to, controlled}
use Rattle.pr_model.specs.Changes.{with_space}
use Rattle.pr_model.specs.Handles.{handle_of}
use Rattle.pr_model.specs.Messages.{agent_answer, agent_lwp, lets_agent, lets_agent_by, message_answer, read_answer, read_of, refused, with_agent, with_process_changed, with_registers, write_answer}
use Rattle.pr_model.specs.Lives.{new_lwp}
use Rattle.pr_model.specs.Machines.{no_marks, traced}
use Rattle.pr_model.specs.Readers.{has_lent, space_seen}
use Rattle.pr_model.specs.Running.{let_go, run_lwp, with_aborted, with_cleared}
use Rattle.pr_model.specs.State.{TracedLwp, TracedProcess, TracedState, has_agent, live_process, with_lwp}
use Rattle.pr_model.specs.Stops.{has_event_stop, shown, shown_by_job}
use Rattle.pr_model.specs.declared.calls.Call.TheVariants as call
use Rattle.pr_model.specs.declared.calls.Reply.TheVariants as reply
use Rattle.pr_model.specs.declared.stops.Stop.{Stop}
use Rattle.pr_num.proofs.ByIdLaws.{under-change_under, under-change_under_other, under-inserted, under-inserted_other}
use Rattle.pr_num.specs.Agents.{agent_id}
use Rattle.pr_num.specs.ById.{under}
use Rattle.pr_num.specs.Control.{has_flags, prot_exec, prot_write}
use Rattle.pr_num.specs.Instructions.{fields_of}
use Rattle.pr_num.specs.Syscalls.{syscall_number}
use Rattle.pr_num.specs.Layout.{stack_base, text_base}
use Rattle.pr_num.specs.Limits.{descriptor_limit, lwp_limit}
use Rattle.pr_num.specs.Messages.{Spells, bad_operand, first_message, message_code, message_read, nth_word, operand_count, operands, spelling, tail_length, two_words}
use Rattle.pr_num.specs.Sets.{common_word}
use Rattle.pr_num.specs.Spaces.{Space, bytes_for}
use Rattle.pr_num.specs.Words.{IsByte, IsWord, word_bytes, word_of}
use Rattle.pr_num.specs.declared.errnos.Errno.{Errno}
use Rattle.pr_num.specs.declared.errnos.Errno.TheVariants.{Busy, Io, Nomem}
use Rattle.pr_num.specs.declared.mappings.BadByte.{BadByte}
use Rattle.pr_num.specs.declared.messages.Message.{Message}
use Rattle.pr_num.specs.declared.messages.Message.TheVariants as message
use Rattle.pr_num.specs.declared.signals.Sig.{Sig}
use Rattle.pr_parts.specs.AddressSpaces.{with_bytes}
use Rattle.pr_probe.specs.AgentCode.{agent_registers, code_size, planted}
use Rattle.pr_probe.specs.TracedSets.{agent_sets}
use Rattle.pr_truss_laws.proofs.Machine.StillLemmas.{live-changed}
use Rattle.pr_truss_laws.proofs.Machine.TakenLemmas.{ReadsAs, read-as, taken-unless}
use Rattle.pr_truss_laws.specs.Stills.{will_stop}
use Rattle.pr_probe_laws.proofs.Agents.AgentMemory.{still-allowed}
use Rattle.pr_probe_laws.proofs.Agents.AgentTurns.{calling, IsAgent, IsFetchable, IsPlanted, Position, asks, in_code, leaving}
use Rattle.pr_probe_laws.proofs.PuttingBack.MemoryMessages.{code-written, read_bytes, write_bytes, writer_of}
use Rattle.pr_probe_laws.proofs.Sets.SetMessages.{still-lives}
use Rattle.pr_probe_laws.proofs.Sets.SetStages.{AllBack}
use Rattle.pr_probe_laws.proofs.OneState.TextStages.{IsAsked, Rests, Runs, Stands, WithAgent, in_program, on_its_way}
use Rattle.pr_probe_laws.specs.SetsBack.{sets_on}
use Rattle.pr_probe_laws.specs.ShownDescriptors.{HasRoom}

-- What the messages of apfiles make of a process with its agent.

-- ---- how they are read

-- a message that is spelt is read as it was meant
pub spelt-reads : (m : Message) → All IsWord (operands m) → length (operands m) ≡ operand_count m → bad_operand m ≡ None
    → tail_length m ≡ 0 → ReadsAs m (first_message (spelling m []))
spelt-reads m words count columns none =
    let bytes : List ℕ = spelling m [] in
    let spells : Spells bytes m [] = record {
      words = words;
      count = count;
      columns = columns;
      tail_bytes = All-nil IsByte;
      tail_fits = sym none;
      spelt = refl;
    } in
    subst (ReadsAs m)
    (sym (ap first_message (sym (append-nil bytes)) ∙ spelt_is_read bytes [] m [] spells)) refl

pub asked-words : (d : ℕ) → d < descriptor_limit → All IsWord (agent_registers d text_base)
unfolding agent_registers
asked-words d small =
    All-from_recursion IsWord (agent_registers d text_base) (
      omega arith,
      (
        omega (arith, small),
        (
          omega arith,
          (
            omega arith,
            (
              omega arith,
              (
                omega arith,
                (
                  omega arith,
                  (omega arith, (omega arith, (omega arith, (omega arith, tt)))),
                ),
              ),
            ),
          ),
        ),
      ),
    )

pub registers-read : (d : ℕ) → d < descriptor_limit
    → ReadsAs (message.Sreg (agent_registers d text_base))
    (first_message (spelling (message.Sreg (agent_registers d text_base)) []))
unfolding operands operand_count bad_operand tail_length agent_registers
registers-read d small = spelt-reads (message.Sreg (agent_registers d text_base)) (asked-words d small) refl refl refl

pub agent-read : ReadsAs (message.Agent (agent_registers 0 text_base))
    (first_message (spelling (message.Agent (agent_registers 0 text_base)) []))
unfolding operands operand_count bad_operand tail_length agent_registers
agent-read = spelt-reads (message.Agent (agent_registers 0 text_base)) (asked-words 0 (omega arith)) refl refl refl

pub kind-reads : ReadsAs (message.Read stack_base 8) (first_message (read_bytes stack_base 8))
unfolding message_code operands nth_word word_bytes word_of message_read two_words
kind-reads = read-as (read_bytes stack_base 8) (message.Read stack_base 8) refl refl

-- ---- through the control file

module _ (s : TracedState) (k c pid : ℕ) (a : Answer) (stands : handle_of s.opens k c ≡ Some (writer_of k pid))
    (granted : (e : Errno) → a.reply ≢ reply.Fail e) where
  -- PCREAD leaves the system
  pub read-stays : (bytes : List ℕ) (at size : ℕ) → ReadsAs (message.Read at size) (first_message bytes)
      → answer_to s k (call.Ctl c bytes) ≡ Some a → a.state.system ≡ s.system
  unfolding message_answer read_answer
  read-stays bytes at size reads given =
      let lives = still-lives s k c pid a stands granted bytes given in
      let t =
      taken-unless s k c (writer_of k pid) stands refl lives.process lives.live bytes (message.Read at size) a reads
      given granted in
      ap (λ (x : Answer). x.state.system) t.is
      ∙ same lives.process (bytes_for 0 (space_seen s.system lives.process) at size)
    where
      same : (p : TracedProcess) (r : Result (List ℕ) BadByte)
          → (controlled s (read_of s.system pid p r)).state.system ≡ s.system
      same p (Ok bs) = refl
      same p (Err bad) = refl

  -- PCWRITE: the process has its memory to itself, and these bytes stand there then
  pub record IsWritten (at : ℕ) (bytes : List ℕ) : Type 0 where
    pub process : TracedProcess
    pub live : live_process s.system pid ≡ Some process
    pub now : live_process a.state.system pid ≡ Some (with_space (with_bytes at bytes process.space) process)

  pub code-planted : (bytes : List ℕ) → length bytes ≡ code_size
      → answer_to s k (call.Ctl c (write_bytes text_base bytes)) ≡ Some a → IsWritten text_base bytes
  unfolding message_answer write_answer with_space
  code-planted bytes size given =
      let written = code-written bytes size in
      let lives = still-lives s k c pid a stands granted (write_bytes text_base bytes) given in
      let p : TracedProcess = lives.process in
      let t =
      taken-unless s k c (writer_of k pid) stands refl p lives.live (write_bytes text_base bytes)
      (message.Write text_base (length bytes)) a written.reads given granted in
      by-lent p lives.live t.len (has_lent p)
      (t.is ∙ ap (λ (tail : List ℕ).
      controlled s (cond (has_lent p) (refused s.system Busy) (write_answer s.system pid p text_base tail t.len)))
      written.tail)
    where
      by-room : (p : TracedProcess) → live_process s.system pid ≡ Some p → (len : ℕ) (b : Bool)
          → a ≡ controlled s
          (cond b
          (with_process_changed s.system pid p len (with_space (with_bytes text_base bytes p.space)))
          (refused s.system Io)) → IsWritten text_base bytes
      by-room p live len true is = record {
        process = p;
        live = live;
        now = ap (λ (x : Answer). live_process x.state.system pid) is
            ∙ live-changed s.system pid (with_space (with_bytes text_base bytes p.space)) p live refl;
      }
      by-room p live len false is = absurd (granted Io (ap (λ (x : Answer). x.reply) is))

      by-lent : (p : TracedProcess) → live_process s.system pid ≡ Some p → (len : ℕ) (b : Bool)
          → a ≡ controlled s (cond b (refused s.system Busy) (write_answer s.system pid p text_base bytes len))
          → IsWritten text_base bytes
      by-lent p live len true is = absurd (granted Busy (ap (λ (x : Answer). x.reply) is))
      by-lent p live len false is = by-room p live len (is_ok (bytes_for 0 p.space text_base (length bytes))) is

  -- PCAGENT: each lwp lets an agent be made, and the process has its memory to itself
  pub record IsMadeIn (regs : List ℕ) : Type 0 where
    pub process : TracedProcess
    pub live : live_process s.system pid ≡ Some process
    pub own : process.borrower ≡ None
    pub lets : list_all (lets_agent process.job_stop) process.lwps ≡ true
    pub now : live_process a.state.system pid ≡ Some (with_agent regs process)

  pub agent-made : (bytes regs : List ℕ) → ReadsAs (message.Agent regs) (first_message bytes)
      → answer_to s k (call.Ctl c bytes) ≡ Some a → IsMadeIn regs
  unfolding message_answer agent_answer with_agent
  agent-made bytes regs reads given =
      let lives = still-lives s k c pid a stands granted bytes given in
      let p : TracedProcess = lives.process in
      let t =
      taken-unless s k c (writer_of k pid) stands refl p lives.live bytes (message.Agent regs) a reads given granted in
      by-lent p lives.live t.len p.borrower refl t.is
    where
      by-limit : (p : TracedProcess) → live_process s.system pid ≡ Some p → (len : ℕ) → p.borrower ≡ None
          → list_all (lets_agent p.job_stop) p.lwps ≡ true → (b : Bool)
          → a ≡ controlled s
          (cond b (refused s.system Nomem) (with_process_changed s.system pid p len (with_agent regs)))
          → IsMadeIn regs
      by-limit p live len own lets true is = absurd (granted Nomem (ap (λ (x : Answer). x.reply) is))
      by-limit p live len own lets false is = record {
        process = p;
        live = live;
        own = own;
        lets = lets;
        now = ap (λ (x : Answer). live_process x.state.system pid) is
            ∙ live-changed s.system pid (with_agent regs) p live refl;
      }

      neither : (x y : Bool) → (x || not y) ≡ false → y ≡ true
      neither true y is = absurd (false≢true (sym is))
      neither false true is = refl
      neither false false is = absurd (false≢true (sym is))

      by-lwps : (p : TracedProcess) → live_process s.system pid ≡ Some p → (len : ℕ) → p.borrower ≡ None → (b : Bool)
          → (has_agent p || not (list_all (lets_agent p.job_stop) p.lwps)) ≡ b
          → a ≡ controlled s
          (cond b (refused s.system Busy)
          (cond (nat_le lwp_limit (length p.lwps)) (refused s.system Nomem)
          (with_process_changed s.system pid p len (with_agent regs)))) → IsMadeIn regs
      by-lwps p live len own true all is = absurd (granted Busy (ap (λ (x : Answer). x.reply) is))
      by-lwps p live len own false all is =
          by-limit p live len own (neither (has_agent p) (list_all (lets_agent p.job_stop) p.lwps) all)
          (nat_le lwp_limit (length p.lwps)) is

      by-lent : (p : TracedProcess) → live_process s.system pid ≡ Some p → (len : ℕ) (o : Option ℕ) → p.borrower ≡ o
          → a ≡ controlled s (cond (is_some o) (refused s.system Busy) (agent_answer s.system pid p regs len))
          → IsMadeIn regs
      by-lent p live len None own is =
          by-lwps p live len own (has_agent p || not (list_all (lets_agent p.job_stop) p.lwps)) refl is
      by-lent p live len (Some other) lent is = absurd (granted Busy (ap (λ (x : Answer). x.reply) is))

-- ---- the process with its agent

-- an lwp that lets an agent be made will stop
or-right : (x y z : Bool) → z ≡ true → ((x || y) || z) ≡ true
or-right true y z is = refl
or-right false true z is = refl
or-right false false z is = is

job-directs : (l : TracedLwp) (o : Option Sig) → lets_agent_by l (shown_by_job o) ≡ true → l.control.directed ≡ true
job-directs l None is = absurd (false≢true is)
job-directs l (Some g) is = is

lets-stops : (job : Option Sig) (id : ℕ) (l : TracedLwp) → lets_agent job (id, l) ≡ true → will_stop l ≡ true
unfolding lets_agent shown
lets-stops job id l lets = by l.control.stop refl
  where
    by-suspended : l.control.stop ≡ None → (b : Bool) → l.suspended ≡ b → will_stop l ≡ true
    by-suspended none true is = rw (none, is) refl
    by-suspended none false is =
        let shows : lets_agent_by l (shown_by_job job) ≡ true = rw (none, is) at lets in
        or-right (has_event_stop l) l.suspended l.control.directed (job-directs l job shows)

    by : (o : Option Stop) → l.control.stop ≡ o → will_stop l ≡ true
    by (Some stop) is = rw is refl
    by None is = by-suspended is l.suspended refl

all-let : {X : Type 0} (f : ℕ × X → Bool) (es : List (ℕ × X)) (id : ℕ) (x : X) → list_all f es ≡ true
    → under id es ≡ Some x → f (id, x) ≡ true
all-let f [] id x all there = absurd (none-some x there)
all-let f (e ∷ es) id x all there = by (e.0 == id) refl there (λ rest. all-let f es id x parts.1 rest)
  where
    parts : (f e ≡ true) × (list_all f es ≡ true)
    parts = and_parts (f e) (list_all f es) all

    by : (b : Bool) → (e.0 == id) ≡ b → cond b (Some e.1) (under id es) ≡ Some x
        → (under id es ≡ Some x → f (id, x) ≡ true) → f (id, x) ≡ true
    by true same is rest =
        let number : e.0 ≡ id = eqb-true e.0 id same in
        let value : e.1 ≡ x = same_Some e.1 x is in
        ap (λ (i : ℕ). f (i, x)) (sym number) ∙ ap (λ (y : _). f (e.0, y)) (sym value) ∙ parts.0
    by false apart is rest = rest is

-- the process when it was made: it traces as the agent needs, there is room, and each other lwp will stop
pub made-with : (p : TracedProcess) → HasRoom p → AllBack agent_sets (sets_on p) → p.borrower ≡ None
    → list_all (lets_agent p.job_stop) p.lwps ≡ true → WithAgent IsFetchable Stands (with_agent (asks 0) p)
unfolding with_agent agent_sets agent_lwp new_lwp no_marks traced
made-with p room back own lets = record {
  ready = record {
    no_signals = back.0.0.0;
    no_entries = back.0.1;
    exits = back.1;
    unwatched = room.unwatched;
    own = own;
    code = room.code;
    stack = room.stack;
    others = λ id k apart there.
        lets-stops p.job_stop id k
        (all-let (lets_agent p.job_stop) p.lwps id k lets
        (sym (under-inserted_other agent_id id (agent_lwp (asks 0)) (λ same. apart (sym same)) p.lwps) ∙ there));
  };
  agent = agent_lwp (asks 0);
  there = under-inserted agent_id (agent_lwp (asks 0)) p.lwps;
  is = record { held = refl; goes = refl; not_directed = refl; no_step = refl; no_abort = refl; current = tt };
  so = record { stands = refl; rests = in_program refl };
}

-- its code was planted
can-be : {X : Type 0} (r : Result X BadByte) → is_ok r ≡ true → checked r ≡ Ok tt
can-be (Ok found) ok = refl
can-be (Err bad) ok = absurd (false≢true ok)

pub planted-size : length planted ≡ code_size
unfolding planted fields_of syscall_number word_bytes
planted-size = refl

planted-there : (space : Space) → is_ok (bytes_for prot_exec space text_base code_size) ≡ true
    → bytes_for prot_exec (with_bytes text_base planted space) text_base code_size ≡ Ok planted
planted-there space room =
    let long : text_base + length planted < 2 ^ 64 = omega (arith, planted-size) in
    let can : checked (bytes_for prot_exec space text_base (length planted)) ≡ Ok tt =
    ap (λ (n : ℕ). checked (bytes_for prot_exec space text_base n)) planted-size
    ∙ can-be (bytes_for prot_exec space text_base code_size) room in
    ap (bytes_for prot_exec (with_bytes text_base planted space) text_base) (sym planted-size)
    ∙ bytes_for-with_bytes space text_base planted prot_exec long can

pub planted-with : (p : TracedProcess) → WithAgent IsFetchable Stands p
    → WithAgent IsPlanted Stands (with_space (with_bytes text_base planted p.space) p)
unfolding with_space
planted-with p w = record {
  ready = record {
    no_signals = w.ready.no_signals;
    no_entries = w.ready.no_entries;
    exits = w.ready.exits;
    unwatched = w.ready.unwatched;
    own = w.ready.own;
    code = planted-there p.space w.ready.code;
    stack = still-allowed prot_write p.space text_base planted stack_base 24 ∙ w.ready.stack;
    others = w.ready.others;
  };
  agent = w.agent;
  there = w.there;
  is = w.is;
  so = w.so;
}

-- a change of the agent
module _ (C : Result (List ℕ) BadByte → Type 0) (f : TracedLwp → TracedLwp) (p : TracedProcess)
    (P Q : TracedLwp → Type 0) (keeps : (l : TracedLwp) → IsAgent l → IsAgent (f l))
    (turns : (l : TracedLwp) → P l → Q (f l)) where
  pub changed-with : WithAgent C P p → WithAgent C Q (with_lwp agent_id f p)
  unfolding with_lwp
  changed-with w = record {
    ready = record {
      no_signals = w.ready.no_signals;
      no_entries = w.ready.no_entries;
      exits = w.ready.exits;
      unwatched = w.ready.unwatched;
      own = w.ready.own;
      code = w.ready.code;
      stack = w.ready.stack;
      others = λ id k apart there.
          w.ready.others id k apart
          (sym (under-change_under_other agent_id id f (λ same. apart (sym same)) p.lwps) ∙ there);
    };
    agent = f w.agent;
    there = under-change_under agent_id f p.lwps ∙ ap (option_map f) w.there;
    is = keeps w.agent w.is;
    so = turns w.agent w.so;
  }

  pub changed-fds : (with_lwp agent_id f p).fds ≡ p.fds
  unfolding with_lwp
  changed-fds = refl

-- PCSREG
pub asked-agent : (d : ℕ) (l : TracedLwp) → IsAgent l → IsAgent (with_registers (asks d) l)
unfolding with_registers
asked-agent d l is = record {
  held = is.held;
  goes = is.goes;
  not_directed = is.not_directed;
  no_step = is.no_step;
  no_abort = is.no_abort;
  current = is.current;
}

pub asked-so : (d : ℕ) (l : TracedLwp) → Stands l → IsAsked d (with_registers (asks d) l)
unfolding with_registers
asked-so d l so = record { stands = so.stands; at = at so.rests }
  where
    at : Rests l → Position d (record l { regs = asks d })
    at (in_program is) = in_code is refl
    at (on_its_way call args result is) = leaving call args result is refl

-- PCRUN without flags
pub runs-on : (l : TracedLwp) → run_lwp 0 l ≡ let_go l
unfolding run_lwp with_aborted with_cleared has_flags common_word
runs-on l = refl

pub run-agent : (l : TracedLwp) → IsAgent l → IsAgent (run_lwp 0 l)
unfolding let_go
run-agent l is =
    subst IsAgent (sym (runs-on l))
    (record {
      held = is.held;
      goes = is.goes;
      not_directed = refl;
      no_step = is.no_step;
      no_abort = is.no_abort;
      current = is.current;
    })

pub run-so : (d : ℕ) (l : TracedLwp) → IsAsked d l → Runs d (run_lwp 0 l)
unfolding let_go
run-so d l so = subst (Runs d) (sym (runs-on l)) (record { running = refl; at = at so.at })
  where
    at : Position d l → Position d (record l { control = record l.control { stop = None; directed = false } })
    at (leaving call args result is asked) = leaving call args result is asked
    at (in_code is asked) = in_code is asked
    at (calling is asked) = calling is asked
