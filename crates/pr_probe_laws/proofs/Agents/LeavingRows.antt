use Rattle.std.proofs.Common.{is_ok, length, ◌≡◌, ◌≢◌, ◌==◌, ◌⊎◌, ◌+◌, ℕ, Bool, true, false, cond, List, [], Option, Some, None, Ok, refl, sym, subst, ap, ◌∙◌, inl, inr, arith}
use Rattle.std.proofs.lemmas.Bool.{cases_eq}
use Rattle.std.proofs.lemmas.Option.{none-some, same_Some}
use Rattle.pr_hidden.specs.Covers.{Patch}
use Rattle.pr_hidden.specs.Hiders.{exits}
use Rattle.pr_hidden.specs.Hiding.{nothing}
use Rattle.pr_hidden.specs.Tidiness.{IsAgentMove, leaves as ends_it, works}
use Rattle.pr_keeps.specs.RowKinds as kind
use Rattle.pr_keeps.specs.RowKinds.{IsInCall}
use Rattle.pr_model.specs.CallEffects.{call_effect}
use Rattle.pr_model.specs.Changes.{all_changed, ended, ends, ends_lwp}
use Rattle.pr_model.specs.InstructionEffects.{calls, decoded, executed, instruction_effect, of_fetch, of_instruction, unless_exec_watched}
use Rattle.pr_model.specs.Lawful.{AreUncaught}
use Rattle.pr_model.specs.Lives.{with_lwp_ended, with_this_ended, without_lwp}
use Rattle.pr_model.specs.LwpTurns.{settled, with_counted}
use Rattle.pr_model.specs.Machines.{traced}
use Rattle.pr_model.specs.Moves.{enters, moved, returns, stays}
use Rattle.pr_model.specs.Points.{after_meeting}
use Rattle.pr_model.specs.Registers.{arguments, moved_on, pc_of}
use Rattle.pr_model.specs.Rows.{Row, entered_row, executed_row, performed_row, quiet_row, returned_row, row_for}
use Rattle.pr_model.specs.State.{TracedLwp, TracedProcess, TracedSystem, live_process, lwp_of, with_lwp, with_lwp_of, with_process}
use Rattle.pr_model.specs.Transitions.{after_transition, entered, performed, returned}
use Rattle.pr_model.specs.declared.events.Did.{Did}
use Rattle.pr_model.specs.declared.events.Did.TheVariants.{Entered, Made, Returned}
use Rattle.pr_model.specs.declared.events.Res.{Res}
use Rattle.pr_model.specs.declared.events.Res.TheVariants.{Ended}
use Rattle.pr_model.specs.declared.lwps.Phase.TheVariants as phase
use Rattle.pr_num.proofs.ByIdLemmas.{rises_from-change_under}
use Rattle.pr_num.proofs.ByIdLaws.{under-change_under_other, under-without_id, under-without_id_other}
use Rattle.pr_num.proofs.InstructionLemmas.{spelled-read}
use Rattle.pr_num.specs.Agents.{agent_id}
use Rattle.pr_num.specs.ById.{IsRising, change_under, under, without_id}
use Rattle.pr_num.specs.Control.{prot_exec, prot_write, watch_exec}
use Rattle.pr_num.specs.Instructions.{HasImmediate, fields_of, instruction_bytes, instruction_in}
use Rattle.pr_num.specs.Layout.{stack_base, text_base}
use Rattle.pr_num.specs.Spaces.{bytes_for}
use Rattle.pr_num.specs.Syscalls.{syscall_number}
use Rattle.pr_num.specs.Words.{word_bytes}
use Rattle.pr_num.specs.declared.faults.Flt.{Flt}
use Rattle.pr_num.specs.declared.instructions.Instruction.TheVariants.{Sys}
use Rattle.pr_num.specs.declared.mappings.Area.{Area}
use Rattle.pr_num.specs.declared.syscalls.Sysno.{Sysno}
use Rattle.pr_num.specs.declared.syscalls.Sysno.TheVariants.{Fstat, LwpExit}
use Rattle.pr_probe.specs.AgentCode.{agent_registers, code_size, exit_pc, planted, stack_size}
use Rattle.pr_truss_laws.proofs.Machine.StillLemmas.{live-changed}
use Rattle.pr_truss_laws.specs.Stills.{IsHalting, will_stop}
use Rattle.pr_probe_laws.proofs.Agents.AgentMemory.{any-ok, last-bytes}
use Rattle.pr_probe_laws.proofs.Agents.AgentMoves.{QuietRow, in_call, in_program, quiet-row, way-out-row, way_out}
use Rattle.pr_probe_laws.proofs.Agents.AgentRows.{unwatched}
use Rattle.pr_probe_laws.proofs.Agents.AgentTurns.{IsAgent, IsLike, IsPlanted, IsReadyFor, later-agent, later-entry, later-ready, settled-live, turned}
use Rattle.pr_probe_laws.proofs.Agents.DeathLemmas.{changed-dead, dead-none, ended-dead}
use Rattle.pr_probe_laws.specs.HiddenProbes.{is_signal_turn}

-- An agent that was sent to its end: it leaves its last call, comes to _lwp_exit(2), and is there no more.

abbrev pub exit_registers : List ℕ
exit_registers = agent_registers 0 exit_pc

-- where it is
pub data Leaving (l : TracedLwp) : Type 0 where
  out_of_call : (call : Sysno) (args : List ℕ) (result : Res) → l.phase ≡ phase.Exiting call args result
      → l.regs ≡ exit_registers → Leaving l
  at_exit : l.phase ≡ phase.User → l.regs ≡ exit_registers → Leaving l
  in_exit : l.phase ≡ phase.Entered LwpExit → Leaving l

pub leaving-whole : (l : TracedLwp) → Leaving l → (f : Flt) (address : ℕ) → l.phase ≡ phase.Faulted f address → ⊥
leaving-whole l (out_of_call c ys r out asked) f address is = absurd (let both = sym is ∙ out in cc)
leaving-whole l (at_exit user asked) f address is = absurd (let both = sym is ∙ user in cc)
leaving-whole l (in_exit entered) f address is = absurd (let both = sym is ∙ entered in cc)

-- ---- its code

exit-code : pc_of exit_registers ≡ text_base + 16
unfolding agent_registers
exit-code = refl

exit-read : instruction_in (instruction_bytes (Sys LwpExit)) ≡ Some (Sys LwpExit)
unfolding HasImmediate fields_of syscall_number
exit-read = spelled-read (Sys LwpExit) (omega arith)

module _ (p : TracedProcess) (ready : IsReadyFor 0 IsPlanted p) where
  -- the second of its two instructions
  fetched : bytes_for prot_exec p.space (text_base + 16) 16 ≡ Ok (instruction_bytes (Sys LwpExit))
  unfolding planted fields_of syscall_number word_bytes
  fetched =
      last-bytes prot_exec p.space text_base (instruction_bytes (Sys Fstat)) (instruction_bytes (Sys LwpExit))
      (omega arith) ready.code

  comes-to-exit : instruction_effect p.space p.control.areas exit_registers ≡ calls LwpExit (moved_on exit_registers)
  unfolding instruction_effect decoded executed
  comes-to-exit =
      let code : bytes_for prot_exec p.space (pc_of exit_registers) 16 ≡ Ok (instruction_bytes (Sys LwpExit)) =
      ap (λ (a : ℕ). bytes_for prot_exec p.space a 16) exit-code ∙ fetched in
      ap (λ (areas : List Area). instruction_effect p.space areas exit_registers) ready.unwatched
      ∙ ap (of_fetch p.space [] exit_registers) code
      ∙ ap (λ (o : Option (ℕ × Bool)).
      unless_exec_watched p.space [] o exit_registers (instruction_bytes (Sys LwpExit)))
      (unwatched watch_exec (pc_of exit_registers) 16)
      ∙ ap (of_instruction p.space [] None exit_registers) exit-read

-- ---- what becomes of its process

-- the agent goes on to its end
pub record GoesOut (q : TracedProcess) : Type 0 where
  pub ready : IsReadyFor 0 IsPlanted q
  pub agent : TracedLwp
  pub there : lwp_of q agent_id ≡ Some agent
  pub is : IsAgent agent
  pub running : agent.control.stop ≡ None
  pub at : Leaving agent

-- it is there no more, each other lwp stands still or will stop, and what was written over is mapped
pub record IsGone (q : TracedProcess) : Type 0 where
  pub none : lwp_of q agent_id ≡ None
  pub halts : IsHalting q
  pub own : q.borrower ≡ None
  pub text : is_ok (bytes_for 0 q.space text_base code_size) ≡ true
  pub answer : is_ok (bytes_for 0 q.space stack_base stack_size) ≡ true

module _ (s : TracedSystem) (pid : ℕ) (p : TracedProcess) (l : TracedLwp) (live : live_process s pid ≡ Some p)
    (rising : IsRising p.lwps) (there : lwp_of p agent_id ≡ Some l) (ready : IsReadyFor 0 IsPlanted p)
    (agent : IsAgent l) (at : Leaving l) (running : l.control.stop ≡ None) (uncaught : AreUncaught p.dispositions) where
  same-like : IsLike p p
  same-like = record { control = refl; fds = refl; borrower = refl; lwps = refl; code = refl; stack = refl }

  found : (row : Row) (q : TracedProcess) → row.transition.ending ≡ None → row.transition.changes ≡ []
      → live_process (settled s pid p agent_id l row).system pid ≡ Some q
      → turned s pid p agent_id l row p ≡ q
  unfolding all_changed
  found row q on unchanged later_live =
      same_Some (turned s pid p agent_id l row p) q
      (sym (settled-live s pid p agent_id l row p on
      (ap (λ cs. live_process (all_changed traced pid p agent_id l cs s) pid) unchanged ∙ live)) ∙ later_live)

  -- what a turn without a signal does, where its process lives after it, and what it makes of that
  pub record Turns (ps : List Patch) (row : Row) (q : TracedProcess) : Type 0 where
    pub move : IsAgentMove ps p row.did row.transition
    pub left : ((exits row.did ≡ false) × GoesOut q) ⊎ ((exits row.did ≡ true) × IsGone q)

  module _ (ps : List Patch) (q : TracedProcess) where
    abbrev Lives : Row → Type 0
    Lives row = live_process (settled s pid p agent_id l row).system pid ≡ Some q

    -- its way out of its last call
    returns-turn : (call : Sysno) (args : List ℕ) (result : Res) → l.phase ≡ phase.Exiting call args result
        → Lives (returned_row p l call) → Turns ps (returned_row p l call) q
    unfolding returned after_meeting moved traced
    returns-turn call args result out later_live =
        let f = moved traced returns in
        let row : returned_row p l call ≡ quiet_row (Returned call) returned =
        way-out-row s pid p l agent uncaught call in
        let same = found (quiet_row (Returned call) returned) q refl refl (subst Lives row later_live) in
        subst (λ (r : Row). Turns ps r q) (sym row)
        (record {
          move = works refl refl nothing;
          left =
              inl (
                refl,
                subst GoesOut same (record {
                  ready = later-ready f (Returned call) false p p same-like IsPlanted ready;
                  agent = f l;
                  there = later-agent f (Returned call) false p p same-like l there;
                  is = record {
                    held = agent.held;
                    goes = agent.goes;
                    not_directed = agent.not_directed;
                    no_step = agent.no_step;
                    no_abort = agent.no_abort;
                    current = agent.current;
                  };
                  running = running;
                  at = goes-in at;
                }),
              );
        })
      where
        goes-in : Leaving l → Leaving (moved traced returns l)
        goes-in (out_of_call c ys r is asked) = at_exit refl asked
        goes-in (at_exit is asked) = absurd (let both = sym is ∙ out in cc)
        goes-in (in_exit is) = absurd (let both = sym is ∙ out in cc)

    -- it comes to its last call
    executes-turn : l.phase ≡ phase.User
        → Lives (executed_row p l (instruction_effect p.space p.control.areas l.regs))
        → Turns ps (executed_row p l (instruction_effect p.space p.control.areas l.regs)) q
    unfolding executed_row entered_row entered moved traced
    executes-turn user later_live = by at
      where
        by : Leaving l → Turns ps (executed_row p l (instruction_effect p.space p.control.areas l.regs)) q
        by (out_of_call c ys r is asked) = absurd (let both = sym is ∙ user in cc)
        by (in_exit is) = absurd (let both = sym is ∙ user in cc)
        by (at_exit is asked) =
            let regs : List ℕ = moved_on exit_registers in
            let row : executed_row p l (instruction_effect p.space p.control.areas l.regs) ≡ entered_row LwpExit regs =
            ap (executed_row p l)
            (ap (instruction_effect p.space p.control.areas) asked ∙ comes-to-exit p ready) in
            let f = moved traced (enters LwpExit regs) in
            let did : Did = Entered LwpExit in
            let same = found (entered_row LwpExit regs) q refl refl (subst Lives row later_live) in
            subst (λ (r : Row). Turns ps r q) (sym row)
            (record {
              move = works refl refl nothing;
              left =
                  inl (
                    refl,
                    subst GoesOut (sym (later-entry f did true p p same-like IsPlanted ready LwpExit) ∙ same)
                        (record {
                          ready = later-ready f did true p p same-like IsPlanted ready;
                          agent = f l;
                          there = later-agent f did true p p same-like l there;
                          is = record {
                            held = agent.held;
                            goes = agent.goes;
                            not_directed = agent.not_directed;
                            no_step = agent.no_step;
                            no_abort = agent.no_abort;
                            current = agent.current;
                          };
                          running = running;
                          at = in_exit refl;
                        }),
                  );
            })

    -- ---- it ends

    abbrev last_row : List ℕ → ℕ → Row
    last_row args since = performed_row false LwpExit args since (ends ends_lwp)

    abbrev without : TracedProcess
    without = with_counted (Made LwpExit Ended) false (without_lwp agent_id (with_lwp agent_id (moved traced stays) p))

    gone-halts : IsGone without
    unfolding with_counted without_lwp with_lwp
    gone-halts = record {
      none = agent-without;
      halts = record { each = λ id k at_id. by id k at_id (cases_eq agent_id id) };
      own = ready.own;
      text = any-ok prot_exec p.space text_base code_size (ap is_ok ready.code);
      answer = any-ok prot_write p.space stack_base stack_size ready.stack;
    }
      where
        changed : List (ℕ × TracedLwp)
        changed = change_under agent_id (moved traced stays) p.lwps

        agent-without : under agent_id (without_id agent_id changed) ≡ None
        agent-without =
            under-without_id 0 agent_id changed
            (rises_from-change_under 0 agent_id (moved traced stays) p.lwps ∙ rising)

        by : (id : ℕ) (k : TracedLwp) → under id (without_id agent_id changed) ≡ Some k
            → (agent_id ≡ id) ⊎ (agent_id ≢ id) → will_stop k ≡ true
        by id k at_id (inl same) =
            absurd (none-some k
            (sym agent-without
            ∙ subst (λ (n : ℕ). under n (without_id agent_id changed) ≡ Some k) (sym same) at_id))
        by id k at_id (inr apart) =
            ready.others id k (λ is. apart (sym is))
            (sym (under-change_under_other agent_id id (moved traced stays) apart p.lwps)
            ∙ sym (under-without_id_other agent_id id apart changed) ∙ at_id)

    ends-turn : (args : List ℕ) (since : ℕ) → Lives (last_row args since) → Turns ps (last_row args since) q
    unfolding performed_row performed settled after_transition all_changed ended with_lwp_ended after_meeting
        with_lwp_of
        with_counted without_lwp with_lwp
    ends-turn args since later_live = by (length p.lwps == 1) refl
      where
        before : TracedSystem
        before = with_process pid (with_lwp agent_id (moved traced stays)) s

        rest : Bool → TracedSystem
        rest b =
            with_process pid (after_meeting None agent_id)
            (with_process pid (with_counted (Made LwpExit Ended) false)
            (cond b (with_this_ended traced pid p 0 before) (with_process pid (without_lwp agent_id) before)))

        lives-in : (b : Bool) → (length p.lwps == 1) ≡ b → live_process (rest b) pid ≡ Some q
        lives-in b is = subst (λ (c : Bool). live_process (rest c) pid ≡ Some q) is later_live

        by : (b : Bool) → (length p.lwps == 1) ≡ b → Turns ps (last_row args since) q
        by true is =
            let dead =
            changed-dead pid pid (after_meeting None agent_id) _ (λ x. refl)
            (changed-dead pid pid (with_counted (Made LwpExit Ended) false) _ (λ x. refl)
            (ended-dead pid p 0 before)) in
            absurd (none-some q (sym (dead-none pid (rest true) dead) ∙ lives-in true is))
        by false is =
            let one = live-changed s pid (with_lwp agent_id (moved traced stays)) p live refl in
            let two = live-changed before pid (without_lwp agent_id) _ one refl in
            let three = live-changed _ pid (with_counted (Made LwpExit Ended) false) _ two refl in
            let four = live-changed _ pid (after_meeting None agent_id) without three refl in
            record {
              move = ends_it refl refl is;
              left = inr (refl, subst IsGone (same_Some without q (sym four ∙ lives-in false is)) gone-halts);
            }

    called-turn : (woken : Bool) (call : Sysno) (args : List ℕ) (since : ℕ) → IsInCall s l woken call args since
        → Lives (performed_row woken call args since (call_effect s pid p agent_id l since call args))
        → Turns ps (performed_row woken call args since (call_effect s pid p agent_id l since call args)) q
    unfolding call_effect
    called-turn woken call args since (kind.asleep_in_it is) later_live = absurd (asleep at)
      where
        asleep : Leaving l → ⊥
        asleep (out_of_call c ys r out asked) = absurd (let both = sym is ∙ out in cc)
        asleep (at_exit user asked) = absurd (let both = sym is ∙ user in cc)
        asleep (in_exit entered) = absurd (let both = sym is ∙ entered in cc)
    called-turn woken call args since (kind.at_it is) later_live = by at later_live
      where
        Goal : Sysno → Type 0
        Goal c =
            Lives (performed_row false c (arguments l.regs) s.clock
            (call_effect s pid p agent_id l s.clock c (arguments l.regs)))
            → Turns ps
            (performed_row false c (arguments l.regs) s.clock
            (call_effect s pid p agent_id l s.clock c (arguments l.regs))) q

        same-call : (a b : Sysno) → phase.Entered a ≡ phase.Entered b → a ≡ b
        same-call a b same = cc

        leave : Goal LwpExit
        leave = ends-turn (arguments l.regs) s.clock

        by : Leaving l → Goal call
        by (out_of_call c ys r out asked) = absurd (let both = sym is ∙ out in cc)
        by (at_exit user asked) = absurd (let both = sym is ∙ user in cc)
        by (in_exit entered) = subst Goal (sym (same-call call LwpExit (sym is ∙ entered))) leave

    quiet-turn : (row : Row) → QuietRow s pid p l row → Lives row → Turns ps row q
    quiet-turn row (in_call {woken = woken} {call = call} {args = args} {since = since} it) later_live =
        called-turn woken call args since it later_live
    quiet-turn row (way_out {call = call} {args = args} {result = result} out) later_live =
        returns-turn call args result out later_live
    quiet-turn row (in_program user) later_live = executes-turn user later_live

    pub leaving-turn : is_signal_turn (row_for s pid p agent_id l).did ≡ false → Lives (row_for s pid p agent_id l)
        → Turns ps (row_for s pid p agent_id l) q
    leaving-turn quiet later_live =
        quiet-turn (row_for s pid p agent_id l)
        (quiet-row s pid p l agent uncaught (leaving-whole l at) quiet) later_live
