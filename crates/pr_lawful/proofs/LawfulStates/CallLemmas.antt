use Rattle.std.proofs.Common.{◌≡◌, ℕ, ◌<◌, ◌≤◌, Bool, true, false, leb, cond, Some, None, refl, sym, arith}
use Rattle.std.proofs.lemmas.Bool.{leb-true, leb-false}
use Rattle.std.proofs.lemmas.List.Elements.{All-weaker}
use Rattle.std.proofs.lemmas.Option.{none-some}
use Rattle.pr_num.specs.Infos.{killed_by}
use Rattle.pr_num.specs.Limits.{process_limit, all_mappings_limit}
use Rattle.pr_num.specs.Programs.{Program}
use Rattle.pr_num.specs.Spaces.{first_space, mapped_size}
use Rattle.pr_num.specs.declared.errnos.Errno.TheVariants.{Again, Nomem}
use Rattle.pr_keeps.specs.CallEdits as edit
use Rattle.pr_keeps.specs.CallEdits.{CallEdit}
use Rattle.pr_keeps.proofs.CallLemmas.{call-edit}
use Rattle.pr_model.specs.Calls.{Answer, answer_to}
use Rattle.pr_model.specs.ControlMessages.{tail_of}
use Rattle.pr_model.specs.Lawful.{HasParent, IsLawfulProgram, IsLawful}
use Rattle.pr_model.specs.Legal.{ticked}
use Rattle.pr_model.specs.Readers.{total_has_room, total_size, life_of}
use Rattle.pr_model.specs.Lives.{with_spawned}
use Rattle.pr_model.specs.Signals.{generated}
use Rattle.pr_model.specs.Machines.{traced}
use Rattle.pr_model.specs.Spawning.{spawn_refusal}
use Rattle.pr_model.specs.State.{TracedState}
use Rattle.pr_model.specs.declared.calls.Call.{Call}
use Rattle.pr_lawful.proofs.LawfulTurns.EffectLemmas.{sent-user}
use Rattle.pr_lawful.proofs.LawfulTurns.EndLemmas.{found-live, generated-lawful}
use Rattle.pr_lawful.proofs.ProcessParts.HandleLemmas.{handle-at, handle-writer}
use Rattle.pr_lawful.proofs.Following.MadeLemmas.{generated-grows, handles-on, spawned-grows}
use Rattle.pr_lawful.proofs.ProcessParts.ProgramLemmas.{named-lawful}
use Rattle.pr_lawful.proofs.LawfulStates.ReleasedLemmas.{generated-released, spawned-released}
use Rattle.pr_lawful.proofs.ProcessParts.SignalLemmas.{sent-reaches}
use Rattle.pr_lawful.proofs.LawfulStates.StateLemmas.{closed-state, edit-state, opened-state, same-state, spawned-lawful}
use Rattle.pr_lawful.proofs.ProcessParts.SystemLemmas.{parents-on}

-- Every edit of a call of a controller leaves a state lawful: a line a kind of edit.

module _ (s : TracedState) (h : IsLawful s) where
  -- ---- what comes from outside

  spawn-room : (program : Program) → spawn_refusal s.system program ≡ None
      → (s.system.made < process_limit) × (total_has_room s.system (mapped_size (first_space program)) 0 ≡ true)
  unfolding spawn_refusal
  spawn-room program grants =
      by (leb process_limit s.system.made)
      (total_has_room s.system (mapped_size (first_space program)) 0) refl refl grants
    where
      by : (a b : Bool) → leb process_limit s.system.made ≡ a
          → total_has_room s.system (mapped_size (first_space program)) 0 ≡ b
          → cond a (Some Again) (cond b None (Some Nomem)) ≡ None
          → (s.system.made < process_limit) × (total_has_room s.system (mapped_size (first_space program)) 0 ≡ true)
      by true b full has wrong = absurd (none-some Again (sym wrong))
      by false true room has ok = (leb-false process_limit s.system.made room, has)
      by false false room big wrong = absurd (none-some Nomem (sym wrong))

  spawned-state : (program : Program) (held : Bool) → IsLawfulProgram program → spawn_refusal s.system program ≡ None
      → IsLawful (record s { system = with_spawned traced program held s.system })
  unfolding total_has_room
  spawned-state program held within is =
      let room = spawn-room program is in
      record {
        system =
            spawned-lawful s.system program held within h.system room.0
            (let limit = leb-true _ _ room.1 in omega arith);
        places = h.places;
        fitting = h.fitting;
        handles =
            handles-on s.opens s.system (with_spawned traced program held s.system)
            (spawned-grows s.system program held) h.handles;
        exclusive = h.exclusive;
        released = spawned-released s.opens s.system program held h.released;
      }

  -- ---- the calls

  pub edited-state : (by : ℕ) (c : Call) (t : TracedState) → CallEdit s by c t → IsLawful t
  edited-state by c t edit.looks = h
  edited-state by c t (edit.opens {place = place} free grants) = opened-state s place _ h free grants
  edited-state by c t (edit.closes {handle = handle} {held = held} at) =
      closed-state s handle held h (handle-at s.opens by handle held at)
  edited-state by c t (edit.controls {handle = handle} {bytes = bytes} {held = held} {p = p} {m = m} {t = u} it e) =
      let at = found-live s.system held.pid p it.live in
      let written =
      handle-writer s.opens handle held h.fitting (handle-at s.opens by handle held it.handle_is) it.controls in
      edit-state s held.pid p m (tail_of m bytes) u h it.user at.0 at.1 written e
  edited-state by c t edit.sees_interrupt = same-state s t refl refl h
  edited-state by c t (edit.interrupts there) = same-state s t refl refl h
  edited-state by c t (edit.spawns {name = name} {held = held} {program = program} named grants) =
      spawned-state program held (named-lawful name s.system.programs program h.system.programs named) grants
  edited-state by c t (edit.sends {pid = pid} {number = number} {g = g} is) = record {
    system =
        generated-lawful s.system pid None g (killed_by 0)
        (sent-reaches s.system pid number g (killed_by 0)
        (record { code = omega arith; pid = omega arith }) is) h.system
        (sent-user pid number (life_of s.system pid) g is);
    places = h.places;
    fitting = h.fitting;
    handles =
        handles-on s.opens s.system (generated traced pid None g (killed_by 0) s.system)
        (generated-grows s.system pid None g (killed_by 0)) h.handles;
    exclusive = h.exclusive;
    released = generated-released s.opens s.system pid None g (killed_by 0) h.released;
  }

  pub call-state : (by : ℕ) (c : Call) (a : Answer) → answer_to s by c ≡ Some a → IsLawful a.state
  call-state by c a is = edited-state by c a.state (call-edit s by c a is)

  -- ---- the clock

  pub tick-state : IsLawful (record s { system = ticked s.system })
  unfolding total_size
  tick-state = record {
    system = record {
      rising = h.system.rising;
      numbered = h.system.numbered;
      processes = h.system.processes;
      parents =
          All-weaker (HasParent s.system) (HasParent (ticked s.system))
          (parents-on s.system (ticked s.system) (λ pid live. live)) s.system.processes h.system.parents;
      first = h.system.first;
      made = h.system.made;
      programs = h.system.programs;
      mapped = tick-mapped;
      files = record { table = h.system.files.table; pipes = h.system.files.pipes; users = h.system.files.users };
    };
    places = h.places;
    fitting = h.fitting;
    handles = h.handles;
    exclusive = h.exclusive;
    released = h.released;
  }
    where
      tick-mapped : total_size (ticked s.system) ≤ all_mappings_limit
      tick-mapped = h.system.mapped
