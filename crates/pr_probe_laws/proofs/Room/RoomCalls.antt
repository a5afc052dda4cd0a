use Rattle.std.proofs.Common.{◌≡◌, ◌≢◌, ◌<◌, ◌∷◌, ◌++◌, ℕ, false, true, List, [], Option, Some, None, Ok, length, take, refl, sym, subst, ap, ◌∙◌, arith}
use Rattle.std.proofs.lemmas.Bool.{and_parts}
use Rattle.std.proofs.lemmas.List.{take_all}
use Rattle.std.proofs.lemmas.Option.{same_Some}
use Rattle.pr_api.specs.Entries.{call_entry}
use Rattle.pr_core_laws.proofs.OneState.ReadLemmas.{status-there}
use Rattle.pr_lawful.proofs.LawfulTurns.EndLemmas.{found-live}
use Rattle.pr_model.specs.Calls.{Answer, answer_to}
use Rattle.pr_model.specs.Lawful.{IsLawful}
use Rattle.pr_model.specs.Legal.{state_after}
use Rattle.pr_model.specs.Messages.{tracing_entries, tracing_exits, tracing_faults, tracing_signals, with_control}
use Rattle.pr_model.specs.Readers.{space_seen}
use Rattle.pr_model.specs.Records.{map_of}
use Rattle.pr_model.specs.Reads.{file_read, file_reply, of_process, part_read, read_process}
use Rattle.pr_model.specs.Replies.{number_of}
use Rattle.pr_model.specs.State.{TracedProcess, TracedState, TracedSystem, live_process}
use Rattle.pr_model.specs.Statuses.{status_of}
use Rattle.pr_model.specs.Stops.{with_all_directed}
use Rattle.pr_model.specs.declared.calls.Call.{Call}
use Rattle.pr_model.specs.declared.calls.Call.TheVariants as call
use Rattle.pr_model.specs.declared.calls.File.{File}
use Rattle.pr_model.specs.declared.calls.File.TheVariants as file
use Rattle.pr_model.specs.declared.calls.Reply.TheVariants as reply
use Rattle.pr_model.specs.declared.events.Entry.{Entry}
use Rattle.pr_num.proofs.ByIdLaws.{All-under}
use Rattle.pr_num.specs.Layout.{stack_base, text_base}
use Rattle.pr_num.specs.Limits.{read_limit}
use Rattle.pr_num.specs.Messages.{first_message}
use Rattle.pr_num.specs.Records.{status_ranges}
use Rattle.pr_num.specs.Sets.{has_number, union_word, with_number}
use Rattle.pr_num.specs.Signals.{signal_number}
use Rattle.pr_num.specs.Spaces.{Space, bytes_for}
use Rattle.pr_num.specs.Syscalls.{syscall_number}
use Rattle.pr_num.specs.declared.errnos.Errno.{Errno}
use Rattle.pr_num.specs.declared.messages.Message.TheVariants as message
use Rattle.pr_probe.specs.AgentCode.{code_size, stack_size}
use Rattle.pr_probe.specs.ProbeStages.{file_of, lwp_of, mode_of, place_of}
use Rattle.pr_probe.specs.Probes.{ProbeState, set_call}
use Rattle.pr_probe.specs.Regions.{code_region, has_room, map_allows, stack_region}
use Rattle.pr_probe.specs.TracedSets.{agent_sets, is_watched_in, set_word}
use Rattle.pr_probe.specs.declared.probe_stages.ProbeFile.{ProbeFile}
use Rattle.pr_probe.specs.declared.probe_stages.ProbeFile.TheVariants.{Control, Status, Map}
use Rattle.pr_probe.specs.declared.traced_sets.SetKind.{SetKind}
use Rattle.pr_probe.specs.declared.traced_sets.SetKind.TheVariants.{Signals, Faults, Entries, Exits}
use Rattle.pr_reached.proofs.RecordsInRange.EntryRanges.{records-range}
use Rattle.pr_reached.specs.InRange.{IsProcessInRange}
use Rattle.pr_rec.specs.Reading.{record_read}
use Rattle.pr_rec.specs.RecordBytes.{map_bytes, status_bytes}
use Rattle.pr_tool_laws.proofs.Pstack.StackReads.{own-seen, read-answer}
use Rattle.pr_tool_laws.specs.Reads.{ReadsFile}
use Rattle.pr_tools.specs.Calls.{stop_bytes}
use Rattle.pr_tools.specs.Handles.{handle_at}
use Rattle.pr_tools.specs.Replies.{bytes_read}
use Rattle.pr_truss_laws.proofs.EventStops.OwnTurnLemmas.{all-directed}
use Rattle.pr_truss_laws.proofs.Machine.TakenLemmas.{ReadsAs, stop-directs}
use Rattle.pr_truss_laws.specs.Stills.{IsHalting}
use Rattle.pr_probe_laws.proofs.Files.FilePlaces.{HasFile, HasFirst, held_of}
use Rattle.pr_probe_laws.proofs.PuttingBack.MemoryMessages.{code-reads, read-given, read_bytes, stack-reads, writer_of}
use Rattle.pr_probe_laws.proofs.Room.RoomReads.{map-mapped, watched-none}
use Rattle.pr_probe_laws.proofs.Room.RoomStages.{HasBoth, HasCode, IsLooked, IsRoomy, Unlent, Where, unlent-front}
use Rattle.pr_probe_laws.proofs.Sets.SetCalls.{control, control-stands, its, sent-by, word-proper}
use Rattle.pr_probe_laws.proofs.Sets.SetMessages.{set-done, setting, still-lives}
use Rattle.pr_probe_laws.proofs.Sets.SetStages.{Began, IsFair, IsProper, ranged-now}
use Rattle.pr_probe_laws.proofs.Sets.StatusSets.{bytes-given, same-system}
use Rattle.pr_probe_laws.proofs.OneState.TextMessages.{read-stays}

-- What a call of apfiles makes of what it knows of its process up to the agent.

-- what a read of the mappings gives
map-there : (s : TracedSystem) (pid : ℕ) (q : TracedProcess) → live_process s pid ≡ Some q
    → file_read s pid 0 0 read_limit file.Map ≡ reply.Bytes (part_read (map_bytes (map_of s q)) 0 read_limit)
unfolding file_read read_process file_reply
map-there s pid q live = ap (of_process s pid 0 0 read_limit file.Map) live

-- the sets of the agent are such as a process can have
pub agent-proper : IsProper agent_sets
unfolding agent_sets with_number union_word syscall_number has_number signal_number
agent-proper = record {
  signals_fit = omega arith;
  no_kill = refl;
  faults_fit = omega arith;
  entries_fit = omega arith;
  exits_fit = omega arith;
}

-- one of the traced sets is set
module _ (kind : SetKind) (w : ℕ) (x : TracedProcess) where
  set-areas : (with_control (setting kind w) x).control.areas ≡ x.control.areas
  unfolding with_control tracing_signals tracing_faults tracing_entries tracing_exits
  set-areas = by kind
    where
      by : (g : SetKind) → (setting g w x.control).areas ≡ x.control.areas
      by Signals = refl
      by Faults = refl
      by Entries = refl
      by Exits = refl

  set-both : (p : ProbeState) → HasBoth p x → HasBoth p (with_control (setting kind w) x)
  unfolding with_control
  set-both p it = record {
    roomy = record {
      still = record { halts = record { each = it.roomy.still.halts.each }; own = it.roomy.still.own };
      room = record {
        unwatched = set-areas ∙ it.roomy.room.unwatched;
        code = it.roomy.room.code;
        stack = it.roomy.room.stack;
      };
    };
    saved = it.saved;
  }

module _ (k pid : ℕ) (first : TracedState) (h : List Entry) (c : Call) (a : Answer)
    (lawful : IsLawful (state_after first h)) (given : answer_to (state_after first h) k c ≡ Some a) where
  abbrev s : TracedState
  s = state_after first h

  abbrev it : Entry
  it = call_entry k c a.reply

  abbrev longer : List Entry
  longer = h ++ it ∷ []

  -- ---- the process

  pub where-same : (P : TracedProcess → Type 0) → a.state.system ≡ s.system → Where pid P s.system
      → Where pid P a.state.system
  where-same P same so q live = so q (ap (λ (x : TracedSystem). live_process x pid) (sym same) ∙ live)

  -- PCSTOP
  pub stops : (p : ProbeState) → HasFirst k pid 4 s.opens p.opened
      → Some (call.Ctl (number_of (handle_at p.opened (place_of Control))) stop_bytes) ≡ Some c
      → ((e : Errno) → a.reply ≢ reply.Fail e) → Where pid IsHalting a.state.system
  stops p holds same accepts q live =
      let some : 0 < 4 = omega arith in
      let number = (control k pid first h c a lawful given p 4 some holds).number in
      let stands = control-stands k pid first h c a lawful given p 4 some holds in
      let sent = sent-by k pid first h c a lawful given p 4 some holds stop_bytes same in
      let lives = still-lives s k number pid a stands accepts stop_bytes sent in
      let now = stop-directs s k number (writer_of k pid) stands refl lives.process lives.live a sent accepts in
      subst IsHalting (same_Some (with_all_directed lives.process) q (sym now ∙ live)) (all-directed lives.process)

  -- ---- its reads

  module _ (p : ProbeState) (holds : HasFirst k pid 4 s.opens p.opened) (f : ProbeFile) (name : File)
      (below : place_of f < 4) (named : file_of f ≡ name)
      (same : Some (call.Read (number_of (handle_at p.opened (place_of f))) 0 read_limit) ≡ Some c) where
    read-file : HasFile k pid s.opens p.opened f
    read-file = holds.each f below

    reads : ReadsFile k pid name s c
    reads = record {
      handle = read-file.number;
      held = held_of k pid f;
      is_read =
          sym (same_Some _ c same) ∙ ap (λ (o : Option ℕ). call.Read (number_of o) 0 read_limit) read-file.at;
      there = read-file.stands;
      of = refl;
      file = named;
    }

  status-bytes : (p : ProbeState) → HasFirst k pid 4 s.opens p.opened
      → Some (call.Read (number_of (handle_at p.opened (place_of Status))) 0 read_limit) ≡ Some c
      → (q : TracedProcess) → live_process s.system pid ≡ Some q
      → bytes_read a.reply ≡ part_read (status_bytes (status_of s.system pid q)) 0 read_limit
  unfolding place_of lwp_of file_of mode_of
  status-bytes p holds same q live =
      let status = holds.each Status (omega arith) in
      bytes-given _ a.reply
      (ap (λ (x : Answer). x.reply)
      (read-answer s status.number 0 read_limit (held_of k pid Status) a refl status.stands
      (ap (λ (x : Option ℕ). answer_to s k (call.Read (number_of x) 0 read_limit)) (sym status.at)
      ∙ its k pid first h c a lawful given _ same))
      ∙ status-there s.system pid q live)

  mapping-bytes : (p : ProbeState) → HasFirst k pid 4 s.opens p.opened
      → Some (call.Read (number_of (handle_at p.opened (place_of Map))) 0 read_limit) ≡ Some c
      → (q : TracedProcess) → live_process s.system pid ≡ Some q
      → bytes_read a.reply ≡ part_read (map_bytes (map_of s.system q)) 0 read_limit
  unfolding place_of lwp_of file_of mode_of
  mapping-bytes p holds same q live =
      let mappings = holds.each Map (omega arith) in
      bytes-given _ a.reply
      (ap (λ (x : Answer). x.reply)
      (read-answer s mappings.number 0 read_limit (held_of k pid Map) a refl mappings.stands
      (ap (λ (x : Option ℕ). answer_to s k (call.Read (number_of x) 0 read_limit)) (sym mappings.at)
      ∙ its k pid first h c a lawful given _ same))
      ∙ map-there s.system pid q live)

  pub looks : (p u : ProbeState) → HasFirst k pid 4 s.opens p.opened
      → u.watched ≡ is_watched_in (record_read status_ranges (bytes_read a.reply))
      → Some (call.Read (number_of (handle_at p.opened (place_of Status))) 0 read_limit) ≡ Some c
      → (b : Began k pid first h) → IsFair k pid first h b → Where pid IsHalting s.system
      → Unlent k pid first longer (IsLooked u) a.state.system
  unfolding place_of file_of
  looks p u holds watched same b fair halts was q live =
      let system = same-system s k _ a refl (its k pid first h c a lawful given _ same) in
      let here : live_process s.system pid ≡ Some q =
      ap (λ (x : TracedSystem). live_process x pid) (sym system) ∙ live
      in
      let found = found-live s.system pid q here in
      let records = records-range s.system lawful.system (ranged-now k pid first h b fair) in
      record {
        still = record {
          halts = halts q here;
          own = was.each h c a.reply [] refl (reads p holds Status file.Status (omega arith) refl same) q here;
        };
        unwatched = λ no.
            watched-none s.system pid q (records.processes pid q found.0).status
            (ap (λ (bytes : List ℕ). is_watched_in (record_read status_ranges bytes))
            (sym (status-bytes p holds same q here)) ∙ sym watched ∙ no);
      }

  pub rooms : (p : ProbeState) → HasFirst k pid 4 s.opens p.opened → p.watched ≡ false
      → has_room (bytes_read a.reply) ≡ true
      → Some (call.Read (number_of (handle_at p.opened (place_of Map))) 0 read_limit) ≡ Some c
      → (b : Began k pid first h) → IsFair k pid first h b → Unlent k pid first h (IsLooked p) s.system
      → Unlent k pid first longer IsRoomy a.state.system
  unfolding has_room
  rooms p holds not_watched room same b fair so was q live =
      let system = same-system s k _ a refl (its k pid first h c a lawful given _ same) in
      let here : live_process s.system pid ≡ Some q =
      ap (λ (x : TracedSystem). live_process x pid) (sym system) ∙ live
      in
      let found = found-live s.system pid q here in
      let range = ranged-now k pid first h b fair in
      let records = records-range s.system lawful.system range in
      let ranged = All-under (λ (e : ℕ × TracedProcess). IsProcessInRange e.1) pid q s.system.processes range.processes
      found.0 in
      let looked = so (unlent-front k pid first h it was) q here in
      let bytes = mapping-bytes p holds same q here in
      let both = and_parts (map_allows code_region (bytes_read a.reply)) (map_allows stack_region (bytes_read a.reply))
      room in
      let mappings = (records.processes pid q found.0).mappings in
      record {
        still = looked.still;
        room = record {
          unwatched = looked.unwatched not_watched;
          code =
              map-mapped s.system q code_region (omega arith) looked.still.own ranged.space.is_space mappings
              ranged.space.few (ap (map_allows code_region) (sym bytes) ∙ both.0);
          stack =
              map-mapped s.system q stack_region (omega arith) looked.still.own ranged.space.is_space mappings
              ranged.space.few (ap (map_allows stack_region) (sym bytes) ∙ both.1);
        };
      }

  -- ---- what it saves

  -- PCREAD gives what stands there, and leaves the system
  saves : (p : ProbeState) (holds : HasFirst k pid 4 s.opens p.opened) (at size : ℕ)
      → ReadsAs (message.Read at size) (first_message (read_bytes at size))
      → Some (call.Ctl (number_of (handle_at p.opened (place_of Control))) (read_bytes at size)) ≡ Some c
      → ((e : Errno) → a.reply ≢ reply.Fail e) → (q : TracedProcess) → live_process s.system pid ≡ Some q
      → q.borrower ≡ None → bytes_for 0 q.space at size ≡ Ok (take size (bytes_read a.reply))
  saves p holds at size reads_it same accepts q live own =
      let some : 0 < 4 = omega arith in
      let number = (control k pid first h c a lawful given p 4 some holds).number in
      let stands = control-stands k pid first h c a lawful given p 4 some holds in
      let sent = sent-by k pid first h c a lawful given p 4 some holds (read_bytes at size) same in
      let gives = read-given s k number pid a stands accepts at size reads_it sent in
      let all : take size (bytes_read a.reply) ≡ gives.bytes =
      ap (take size) (bytes-given gives.bytes a.reply gives.reply)
      ∙ take_all size gives.bytes (omega (arith, gives.size_is)) in
      let there : bytes_for 0 (space_seen s.system gives.stood.process) at (length gives.bytes) ≡ Ok gives.bytes =
      gives.stood.there in
      let is : gives.stood.process ≡ q = same_Some gives.stood.process q (sym gives.stood.lives ∙ live) in
      ap (λ (sp : Space). bytes_for 0 sp at size) (sym (own-seen s.system q own))
      ∙ ap (λ (y : TracedProcess). bytes_for 0 (space_seen s.system y) at size) (sym is)
      ∙ ap (bytes_for 0 (space_seen s.system gives.stood.process) at) (sym gives.size_is) ∙ there
      ∙ ap (λ (bs : List ℕ). Ok bs) (sym all)

  same-read : (p : ProbeState) (holds : HasFirst k pid 4 s.opens p.opened) (at size : ℕ)
      → ReadsAs (message.Read at size) (first_message (read_bytes at size))
      → Some (call.Ctl (number_of (handle_at p.opened (place_of Control))) (read_bytes at size)) ≡ Some c
      → ((e : Errno) → a.reply ≢ reply.Fail e) → a.state.system ≡ s.system
  same-read p holds at size reads_it same accepts =
      let some : 0 < 4 = omega arith in
      read-stays s k (control k pid first h c a lawful given p 4 some holds).number pid a
      (control-stands k pid first h c a lawful given p 4 some holds) accepts (read_bytes at size) at size reads_it
      (sent-by k pid first h c a lawful given p 4 some holds (read_bytes at size) same)

  pub saves-code : (p u : ProbeState) (holds : HasFirst k pid 4 s.opens p.opened)
      → u.code ≡ take code_size (bytes_read a.reply)
      → Some (call.Ctl (number_of (handle_at p.opened (place_of Control))) (read_bytes text_base code_size)) ≡ Some c
      → ((e : Errno) → a.reply ≢ reply.Fail e) → Unlent k pid first h IsRoomy s.system
      → Unlent k pid first longer (HasCode u) a.state.system
  saves-code p u holds code same accepts so was q live =
      let system = same-read p holds text_base code_size code-reads same accepts in
      let here : live_process s.system pid ≡ Some q =
      ap (λ (x : TracedSystem). live_process x pid) (sym system) ∙ live
      in
      let roomy = so (unlent-front k pid first h it was) q here in
      record {
        roomy = roomy;
        code =
            saves p holds text_base code_size code-reads same accepts q here roomy.still.own
            ∙ ap (λ (bs : List ℕ). Ok bs) (sym code);
      }

  pub saves-stack : (p u : ProbeState) (holds : HasFirst k pid 4 s.opens p.opened) → u.code ≡ p.code
      → u.stack ≡ take stack_size (bytes_read a.reply)
      → Some (call.Ctl (number_of (handle_at p.opened (place_of Control))) (read_bytes stack_base stack_size)) ≡ Some c
      → ((e : Errno) → a.reply ≢ reply.Fail e) → Unlent k pid first h (HasCode p) s.system
      → Unlent k pid first longer (HasBoth u) a.state.system
  saves-stack p u holds code stack same accepts so was q live =
      let system = same-read p holds stack_base stack_size stack-reads same accepts in
      let here : live_process s.system pid ≡ Some q =
      ap (λ (x : TracedSystem). live_process x pid) (sym system) ∙ live
      in
      let has = so (unlent-front k pid first h it was) q here in
      record {
        roomy = has.roomy;
        saved = record {
          code = has.code ∙ ap (λ (bs : List ℕ). Ok bs) (sym code);
          stack =
              saves p holds stack_base stack_size stack-reads same accepts q here has.roomy.still.own
              ∙ ap (λ (bs : List ℕ). Ok bs) (sym stack);
        };
      }

  -- ---- one of the traced sets is set

  pub sets : (p u : ProbeState) (kind : SetKind) → u.code ≡ p.code → u.stack ≡ p.stack
      → HasFirst k pid 4 s.opens p.opened → Some (set_call p kind agent_sets) ≡ Some c
      → ((e : Errno) → a.reply ≢ reply.Fail e) → Unlent k pid first h (HasBoth p) s.system
      → Unlent k pid first longer (HasBoth u) a.state.system
  sets p u kind code stack holds same accepts so was q live =
      let some : 0 < 4 = omega arith in
      let number = (control k pid first h c a lawful given p 4 some holds).number in
      let stands = control-stands k pid first h c a lawful given p 4 some holds in
      let sent = sent-by k pid first h c a lawful given p 4 some holds _ same in
      let lives = still-lives s k number pid a stands accepts _ sent in
      let x : TracedProcess = lives.process in
      let w : ℕ = set_word agent_sets kind in
      let proper = word-proper kind agent_sets agent-proper in
      let now = set-done s k number pid a stands accepts x lives.live kind w proper sent in
      let is : with_control (setting kind w) x ≡ q = same_Some (with_control (setting kind w) x) q (sym now ∙ live) in
      let has = subst (HasBoth p) is (set-both kind w x p (so (unlent-front k pid first h it was) x lives.live)) in
      record {
        roomy = has.roomy;
        saved = record {
          code = has.saved.code ∙ ap (λ (bs : List ℕ). Ok bs) (sym code);
          stack = has.saved.stack ∙ ap (λ (bs : List ℕ). Ok bs) (sym stack);
        };
      }
