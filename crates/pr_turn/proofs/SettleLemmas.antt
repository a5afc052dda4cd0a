use Rattle.std.proofs.Common.{◌≡◌, ℕ, ◌+◌, Bool, false, Some, None, List, refl, sym, ap, subst, ◌∙◌}
use Rattle.std.proofs.lemmas.Option.{same_Some}
use Rattle.pr_num.specs.ById.{change_under, put_under, under}
use Rattle.pr_num.proofs.ByIdLaws.{change_under-change_under, change_under-none, put_under-found}
use Rattle.pr_model.specs.Rows.{Row}
use Rattle.pr_model.specs.LwpTurns.{LwpTurn, turn_of, with_counted}
use Rattle.pr_model.specs.Points.{after_meeting, meets}
use Rattle.pr_model.specs.State.{TracedControl, TracedLwp, TracedProcess, TracedSystem, lwp_of, with_process}
use Rattle.pr_model.specs.declared.events.Turned.{Turned}
use Rattle.pr_model.proofs.StateLemmas.{live_process-found}
use Rattle.pr_proc.specs.Counts.{AllUsedAtMost, UsedAtMost}
use Rattle.pr_proc.proofs.UsageLemmas.{AllUsedAtMost-under}
use Rattle.pr_turn.proofs.ClockLemmas.{clock-after}
use Rattle.pr_turn.proofs.MakeLemmas.{process_after-control}
use Rattle.pr_turn.proofs.TurnLemmas.{makes-row, makes-used, turn-made}
use Rattle.pr_turn.proofs.UsageLemmas.{used-after}
use Rattle.pr_turn.specs.Making.{ends, of_row, process_after}
use Rattle.pr_turn.specs.NextRows.{row_of}
use Rattle.pr_turn.specs.Turns.{IsNext, IsTurned}
use Rattle.pr_turn.specs.declared.making.Made.{Made}
use Rattle.pr_turn.specs.declared.next.Next.{Next}
use Rattle.pr_turn.specs.declared.next.NextTurn.TheVariants.{Row as ThisRow}

-- What a turn leaves of its process: it is counted, and its lwp stops at what it met.

abbrev left : Made → ℕ → TracedProcess → TracedProcess
left m id p = after_meeting m.point id (with_counted m.did m.begun p)

-- a change of a thing that was put
put-changed : {X : Type 0} (id : ℕ) (f : X → X) (x y : X) (es : List (ℕ × X)) → under id es ≡ Some x
    → change_under id f (put_under id y es) ≡ put_under id (f y) es
put-changed id f x y es there =
    ap (change_under id f) (put_under-found id (λ z. y) x es there)
    ∙ change_under-change_under id (λ z. y) f es
    ∙ sym (put_under-found id (λ z. f y) x es there)

module _ (s : TracedSystem) (pid id : ℕ) (m : Made) where
  abbrev counts : TracedProcess → TracedProcess
  counts = with_counted m.did m.begun

  abbrev stops : TracedProcess → TracedProcess
  stops = after_meeting m.point id

  -- in the process that a row made
  settled-in : (p p1 : TracedProcess) → under pid s.processes ≡ Some p
      → record s { processes = put_under pid (left m id p1) s.processes }
      ≡ with_process pid stops (with_process pid counts (record s { processes = put_under pid p1 s.processes }))
  unfolding with_process
  settled-in p p1 there =
      ap (λ ps. record s { processes = ps })
      (sym
      (ap (change_under pid stops) (put-changed pid counts p p1 s.processes there)
      ∙ put-changed pid stops p (counts p1) s.processes there))

  -- in a process of the system
  pub settled-under : (p p1 : TracedProcess) → under pid s.processes ≡ Some p → p1 ≡ left m id p
      → record s { processes = put_under pid p1 s.processes } ≡ with_process pid stops (with_process pid counts s)
  unfolding with_process
  settled-under p p1 there e =
      ap (λ q. record s { processes = put_under pid q s.processes }) e
      ∙ ap (λ ps. record s { processes = ps })
      (put_under-found pid (left m id) p s.processes there
      ∙ sym (change_under-change_under pid counts stops s.processes))

  -- where it has ended and is gone
  pub settled-none : under pid s.processes ≡ None → s ≡ with_process pid stops (with_process pid counts s)
  unfolding with_process
  settled-none none =
      sym
      (ap (λ ps. record s { processes = change_under pid stops ps }) (change_under-none pid counts s.processes none)
      ∙ ap (λ ps. record s { processes = ps }) (change_under-none pid stops s.processes none))

pub ruleset settling = (settled-under, settled-none)

-- ---- a row that does not end its process

module _ (s : TracedSystem) (pid id : ℕ) (next : Next) (p p1 : TracedProcess) (is : IsNext s pid id (ThisRow next))
    (there : under pid s.processes ≡ Some p)
    (makes : (l : TracedLwp) → lwp_of p id ≡ Some l → p1 ≡ process_after id (row_of p l next).transition p) where
  -- what bounds the counts of use bounds them in the process that it made
  pub made-room : (n : ℕ) → AllUsedAtMost n s → UsedAtMost n p1.control.usage
  made-room n h =
      let same : p ≡ is.process = same_Some p is.process (sym there ∙ live_process-found s pid is.process is.found) in
      let stands : lwp_of p id ≡ Some is.lwp = ap (λ q. lwp_of q id) same ∙ is.stands in
      let control : p1.control ≡ p.control =
      ap (λ (q : TracedProcess). q.control) (makes is.lwp stands)
      ∙ process_after-control id (row_of p is.lwp next).transition p
      in
      subst (λ (c : TracedControl). UsedAtMost n c.usage) (sym control) (AllUsedAtMost-under n pid s p there h)

  pub turned-in : (new : TracedSystem) (p2 : TracedProcess) (m : Made) (stop : Bool) → ends next ≡ false
      → ((l : TracedLwp) → lwp_of p id ≡ Some l → m ≡ of_row (row_of p l next))
      → ((l : TracedLwp) → lwp_of p id ≡ Some l → stop ≡ meets p.control (row_of p l next).point) → p2 ≡ left m id p1
      → new ≡ record s { processes = put_under pid p2 s.processes }
      → IsTurned s new pid id (record { did = m.did; stop = stop })
  turned-in new p2 m stop on what traces left_is e = record {
    did = m;
    stop = stop;
    after = record s { processes = put_under pid p1 s.processes };
    makes = makes-row s
        (record s { processes = put_under pid p1 s.processes }) pid id next p p1 m stop is on there makes what traces
        refl;
    settled =
        e ∙ ap (λ q. record s { processes = put_under pid q s.processes }) left_is ∙ settled-in s pid id m p p1 there;
    told = refl;
  }

-- ---- the turn

module _ (s new : TracedSystem) (pid id : ℕ) (turned : Turned) (is : IsTurned s new pid id turned) where
  pub turned-made : turn_of s pid id ≡ Some (record { system = new; turned = turned })
  turned-made =
      turn-made s is.after pid id is.did is.stop is.makes
      ∙ ap (λ t. Some (so t (record { did = is.did.did; stop = is.stop }))) (sym is.settled)
      ∙ ap (λ t. Some (so new t)) (sym is.told)
    where
      so : TracedSystem → Turned → LwpTurn
      so t told = record { system = t; turned = told }

  -- it adds at most 1 to each count
  pub turned-used : (n : ℕ) → AllUsedAtMost n s → AllUsedAtMost (n + 1) new
  turned-used n h =
      used-after n is.after
      (with_process pid (with_counted is.did.did is.did.begun) is.after) new pid id is.did.did is.did.begun
      is.did.point
      (makes-used n s is.after pid id is.did is.stop is.makes h) refl is.settled

  pub turned-clock : new.clock ≡ s.clock
  turned-clock =
      clock-after s is.after
      (with_process pid (with_counted is.did.did is.did.begun) is.after) new pid id is.did is.stop
      (with_counted is.did.did is.did.begun) (after_meeting is.did.point id) is.makes refl is.settled

pub ruleset turned = (turned-made, turned-used, turned-clock)

-- whether the process traces what a row met is told by the process that it leaves
pub meets-row : (p p1 : TracedProcess) (id : ℕ) (row : Row) (m : Made) (stop : Bool)
    → p1 ≡ process_after id row.transition p
    → m ≡ of_row row → stop ≡ meets p1.control m.point → stop ≡ meets p.control row.point
meets-row p p1 id row m stop after what e =
    e
    ∙ ap (λ (k : TracedControl). meets k m.point)
    (ap (λ (q : TracedProcess). q.control) after ∙ process_after-control id row.transition p)
    ∙ ap (λ (x : Made). meets p.control x.point) what
