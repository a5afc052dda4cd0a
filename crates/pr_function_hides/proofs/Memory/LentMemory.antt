use Rattle.std.proofs.Common.{◌≡◌, ◌≢◌, ◌⊎◌, ◌<◌, ◌||◌, ℕ, Bool, true, false, Some, Ok, List, [], ◌∷◌, length, refl, sym, ap, ◌∙◌, inl, inr}
use Rattle.std.proofs.lemmas.Bool.{false≢true, or_parts}
use Rattle.std.proofs.lemmas.Option.{same_Some}
use Rattle.pr_function_hides.proofs.Copying.CopyForeign.{control-at, opening-halts}
use Rattle.pr_function_hides.proofs.Memory.MemoryEntries.{IsBeside, shown-stays}
use Rattle.pr_function_hides.proofs.Memory.SharedMemory.{HasMemoryOf, itself, lent_on}
use Rattle.pr_function_hides.proofs.CodeThere.TurnStands.{Stands}
use Rattle.pr_function_hides.specs.CountedFunctions.{HasBorrowed, LeavesAlone, directly, takes_memory, through}
use Rattle.pr_function_laws.proofs.OpenedProcesses.OpenedLaws.{Goes}
use Rattle.pr_function_laws.proofs.OpenedProcesses.OpenedLemmas.{control-sole}
use Rattle.pr_function_laws.specs.Lifted.{HasControl}
use Rattle.pr_hidden.specs.Covers.{Patch}
use Rattle.pr_hidden.specs.Sparing.{AreWithin, are_spared}
use Rattle.pr_lawful.proofs.ProcessParts.HandleLemmas.{control-writes, handle-at}
use Rattle.pr_lawful.proofs.LawfulStates.HistoryLemmas.{history-state}
use Rattle.pr_lending.proofs.LendingStates.HistoryLemmas.{history-lends}
use Rattle.pr_lending.specs.Lending.{AreLending}
use Rattle.pr_line.specs.declared.options.Options.{Options}
use Rattle.pr_model.proofs.TurnLemmas.{TakesTurn, turn-taken}
use Rattle.pr_model.specs.ControlMessages.{tail_of}
use Rattle.pr_model.specs.Handles.{handle_of, is_control}
use Rattle.pr_model.specs.Lawful.{IsFitting, IsLawful}
use Rattle.pr_model.specs.Legal.{IsLegalEntry, after}
use Rattle.pr_model.specs.LwpTurns.{LwpTurn, is_held_back, turn_of}
use Rattle.pr_model.specs.Readers.{borrower_at, space_seen}
use Rattle.pr_model.specs.State.{TracedLwp, TracedProcess, TracedState, TracedSystem, live_process, lwp_of}
use Rattle.pr_model.specs.Stops.{has_event_stop}
use Rattle.pr_model.specs.declared.calls.Call.TheVariants as call
use Rattle.pr_model.specs.declared.calls.Reply.{Reply}
use Rattle.pr_model.specs.declared.calls.Reply.TheVariants as reply
use Rattle.pr_model.specs.declared.events.Act.{Act}
use Rattle.pr_model.specs.declared.events.Act.TheVariants as act
use Rattle.pr_model.specs.declared.events.Actor.{Actor}
use Rattle.pr_model.specs.declared.events.Actor.TheVariants.{Controller, Lwp, Clock}
use Rattle.pr_model.specs.declared.events.Entry.{Entry}
use Rattle.pr_model.specs.declared.events.Turned.{Turned}
use Rattle.pr_model.specs.declared.handles.Held.{Held}
use Rattle.pr_num.proofs.SearchLemmas.{All-at}
use Rattle.pr_num.specs.Messages.{first_message}
use Rattle.pr_num.specs.declared.errnos.Errno.{Errno}
use Rattle.pr_num.specs.declared.messages.Message.TheVariants as message
use Rattle.pr_truss.specs.Trusses.{TrussState, traced_at}
use Rattle.pr_truss.specs.declared.stages.OpeningStep.TheVariants as opening
use Rattle.pr_truss.specs.declared.stages.Stage.TheVariants.{Opening}
use Rattle.pr_truss_laws.proofs.Machine.StillLemmas.{halting-did}
use Rattle.pr_truss_laws.specs.Stills.{IsHalting}

-- What truss was shown of the memory of a process that it opens stands there still, also where the memory is lent,
-- whatever others do: the process stands still, nobody else writes to it, and whoever has borrowed the memory leaves
-- that alone.

-- who has the memory of a process is the process itself, or has borrowed it
itself-or-borrowed : (s : TracedSystem) (pid x : ℕ) → HasMemoryOf s pid x → (x ≡ pid) ⊎ HasBorrowed s pid x
itself-or-borrowed s pid x itself = inl refl
itself-or-borrowed s pid x (lent_on {a = a} there is) = by (itself-or-borrowed s pid a there)
  where
    by : (a ≡ pid) ⊎ HasBorrowed s pid a → (x ≡ pid) ⊎ HasBorrowed s pid x
    by (inl same) = inr (directly (ap (borrower_at s) (sym same) ∙ is))
    by (inr borrowed) = inr (through borrowed is)

-- ---- a process that halts

module _ (s : TracedSystem) (pid : ℕ) (p : TracedProcess) (live : live_process s pid ≡ Some p) (halting : IsHalting p)
    (id : ℕ) (t : LwpTurn) (turn : turn_of s pid id ≡ Some t) where
  -- an lwp of it that has a turn is directed to stop
  halting-directed : (l : TracedLwp) → lwp_of p id ≡ Some l → l.control.directed ≡ false → ⊥
  unfolding is_held_back
  halting-directed l there going = by (turn-taken s pid id t turn)
    where
      none : (a b c d : Bool) → a ≡ false → b ≡ false → d ≡ false → ((a || b) || d) ≡ true → ⊥
      none false false c false one two three is = false≢true is
      none true b c d one two three is = false≢true (sym one)
      none a true c d one two three is = false≢true (sym two)
      none a b c true one two three is = false≢true (sym three)

      of : (w : TakesTurn s pid id t) → lwp_of w.process id ≡ Some l → l ≡ w.lwp → ⊥
      of w at same =
          let parts = or_parts (has_event_stop w.lwp) _ w.free in
          let next = or_parts w.lwp.suspended _ parts.1 in
          none (has_event_stop l) l.suspended false l.control.directed
          (ap (λ (x : TracedLwp). has_event_stop x) same ∙ parts.0)
          (ap (λ (x : TracedLwp). x.suspended) same ∙ next.0) going (halting.each id l there)

      by : TakesTurn s pid id t → ⊥
      by w =
          let at : lwp_of w.process id ≡ Some l =
          ap (λ (x : TracedProcess). lwp_of x id) (same_Some w.process p (sym w.live ∙ live)) ∙ there in
          of w at (same_Some l w.lwp (sym at ∙ w.there))

  -- and makes no vfork and no exec
  halting-takes : takes_memory t.turned.did ≡ false
  halting-takes = ap (λ (x : Turned). takes_memory x.did) (halting-did s pid p live halting id t turn)

-- ---- an entry of others

module _ (n k : ℕ) (o : Options) (t : TrussState) (s : TracedState) (g : Goes (Unit {0}) k o t s)
    (lending : AreLending s.system) (q : ℕ) (within : q < length t.traced)
    (starts : t.stage ≡ Opening q opening.Start) (f : Patch) (fits : AreWithin (f ∷ [])) (actor : Actor) (did : Act)
    (legal : IsLegalEntry n s (record { actor = actor; act = did })) (foreign : actor ≢ Controller k)
    (spares : (acting id : ℕ) (turned : Turned) (p : TracedProcess) (l : TracedLwp) → actor ≡ Lwp acting id
    → did ≡ act.Turn turned → live_process s.system acting ≡ Some p → lwp_of p id ≡ Some l
    → l.control.directed ≡ false → HasBorrowed s.system (traced_at t q).pid acting → LeavesAlone f p l)
    (unwritten : (j handle : ℕ) (bytes : List ℕ) (r : Reply) (held : Held) (at size len : ℕ) → actor ≡ Controller j
    → did ≡ act.Call (call.Ctl handle bytes) r → ((errno : Errno) → r ≢ reply.Fail errno)
    → handle_of s.opens j handle ≡ Some held → is_control held.file ≡ true
    → HasBorrowed s.system (traced_at t q).pid held.pid → first_message bytes ≡ Ok (message.Write at size, len)
    → are_spared (f ∷ []) at (length (tail_of (message.Write at size) bytes)) ≡ true) where
  abbrev pid : ℕ
  pid = (traced_at t q).pid

  abbrev e : Entry
  e = record { actor = actor; act = did }

  its : HasControl k pid (traced_at t q).control s
  its = control-at n k o t s g q within

  none-writes : (j number : ℕ) (x : Held) → j ≢ k → handle_of s.opens j number ≡ Some x
      → is_control x.file ≡ true → x.pid ≢ pid
  none-writes j number x apart there controls =
      let sole = control-sole k pid (traced_at t q).control s g.lawful its in
      let w : IsLawful s = g.lawful in
      sole.none j number x apart there
      (control-writes x (All-at IsFitting s.opens number (Some x) (handle-at s.opens j number x there) w.fitting)
      controls)

  beside : (p : TracedProcess) → live_process s.system pid ≡ Some p → IsBeside f fits s pid actor did
  unfolding IsLegalEntry
  beside p live = by actor did refl refl legal
    where
      halts : IsHalting p
      halts = opening-halts n k o t s g q opening.Start starts p live refl

      by : (who : Actor) (it : Act) → actor ≡ who → did ≡ it
          → IsLegalEntry n s (record { actor = who; act = it }) → IsBeside f fits s pid who it
      by (Controller j) (act.Call c r) acts does its_legal =
          λ handle bytes held at size len is taken there controls among read.
          of handle bytes held at size len is taken there controls read
          (itself-or-borrowed s.system pid held.pid among)
        where
          of : (handle : ℕ) (bytes : List ℕ) (held : Held) (at size len : ℕ) → c ≡ call.Ctl handle bytes
              → ((errno : Errno) → r ≢ reply.Fail errno) → handle_of s.opens j handle ≡ Some held
              → is_control held.file ≡ true
              → first_message bytes ≡ Ok (message.Write at size, len)
              → (held.pid ≡ pid) ⊎ HasBorrowed s.system pid held.pid
              → are_spared (f ∷ []) at (length (tail_of (message.Write at size) bytes)) ≡ true
          of handle bytes held at size len is taken there controls read (inl same) =
              absurd (none-writes j handle held (λ own. foreign (acts ∙ ap (λ m. Controller m) own)) there controls
              same)
          of handle bytes held at size len is taken there controls read (inr borrowed) =
              unwritten j handle bytes r held at size len acts (does ∙ ap (λ d. act.Call d r) is) taken there
              controls borrowed read
      by (Lwp acting id) (act.Turn turned) acts does its_legal = (
        λ x l lives there among going. alone x l lives there going (itself-or-borrowed s.system pid acting among),
        λ own. takes own,
      )
        where
          turn : LwpTurn
          turn = record { system = its_legal.0; turned = turned }

          own-turn : acting ≡ pid → turn_of s.system pid id ≡ Some turn
          own-turn own = ap (λ m. turn_of s.system m id) (sym own) ∙ its_legal.1

          takes : acting ≡ pid → takes_memory turned.did ≡ false
          takes own = halting-takes s.system pid p live halts id turn (own-turn own)

          alone : (x : TracedProcess) (l : TracedLwp) → live_process s.system acting ≡ Some x
              → lwp_of x id ≡ Some l → l.control.directed ≡ false
              → (acting ≡ pid) ⊎ HasBorrowed s.system pid acting → LeavesAlone f x l
          alone x l lives there going (inl own) =
              absurd (halting-directed s.system pid p live halts id turn (own-turn own) l
              (ap (λ (y : TracedProcess). lwp_of y id)
              (same_Some p x (sym live ∙ ap (live_process s.system) (sym own) ∙ lives)) ∙ there) going)
          alone x l lives there going (inr borrowed) =
              spares acting id turned x l acts does lives there going borrowed
      by Clock (act.Tick moment) acts does its_legal = tt
      by _ _ acts does its_legal = absurd its_legal

  -- what it was shown
  pub shown-later : (p : TracedProcess) → live_process s.system pid ≡ Some p → (x : TracedProcess)
      → live_process (after s e).system pid ≡ Some x → Stands f (space_seen s.system p)
      → Stands f (space_seen (after s e).system x)
  shown-later p live x later holds =
      shown-stays f fits n s actor did g.lawful lending legal (history-state n s (e ∷ []) g.lawful (legal, tt))
      (history-lends n s (e ∷ []) g.lawful lending (legal, tt)) pid (beside p live) p live x later holds
