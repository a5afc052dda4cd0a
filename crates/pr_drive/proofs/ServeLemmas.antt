use Rattle.std.proofs.Common.{◌≡◌, ◌≢◌, ◌⊎◌, inl, inr, ℕ, List, [], Option, Result, Ok, Err}
use Rattle.std.proofs.Common.{refl, sym, ap, subst}
use Rattle.std.specs.Result.{IsErrOf}
use Rattle.pr_ends.specs.Ends.{Ends}
use Rattle.pr_input.specs.Kinds.{kind_name}
use Rattle.pr_io.specs.Faults.{Rose}
use Rattle.pr_output.specs.Output.{AppendsSome, refusal_text}
use Rattle.pr_output.specs.declared.runs.Showing.{Showing}
use Rattle.pr_run_laws.proofs.ScenariosInRange.ScenarioRangeLemmas.{scenario-range}
use Rattle.pr_scen.specs.Refusals.{ScenFault}
use Rattle.pr_drive.specs.Going.{SeatsState}
use Rattle.pr_drive.specs.Inputs.{Input, from_start}
use Rattle.pr_drive.specs.Rounds.{RoundsState}
use Rattle.pr_drive.specs.Served.{AnsweredLines, CutAbove, CutsEnd, Drove}
use Rattle.pr_drive.specs.Served.{IsWhole, UnreadAbove, WasUnread}
use Rattle.pr_drive.specs.Served.{Opened, OpensAs, RefusedText, RefusedWhole, TellsEnd, TellsRefusal, WasCut, WasCutOff}
use Rattle.pr_drive.specs.Served.{WasDriven, WasEnded}
use Rattle.pr_drive.specs.Sessions.{AnsweredAll, AnsweredSome, AnsweredUnread, Stand}
use Rattle.pr_drive.specs.Starts.{first_seats}
use Rattle.pr_drive.specs.Statuses.{EndsAs, status_of}
use Rattle.pr_drive.specs.declared.ends.CutOff.{CutOff}
use Rattle.pr_drive.specs.declared.ends.CutOff.TheVariants as cut
use Rattle.pr_drive.specs.declared.ends.Status.{Status}
use Rattle.pr_drive.specs.declared.ends.Status.TheVariants.{Done, Spent, Stuck}
use Rattle.pr_drive.specs.declared.readings.Opening.{Opening}
use Rattle.pr_drive.specs.declared.readings.Opening.TheVariants as opening
use Rattle.pr_drive.proofs.AloneLemmas.{alone-runs}
use Rattle.pr_drive.proofs.BesideLemmas.{kept-beside}
use Rattle.pr_drive.proofs.EndLemmas.{stand}
use Rattle.pr_drive.proofs.InputLemmas.{input, unasked}
use Rattle.pr_drive.proofs.KeptLemmas.{all-keep, begins-keep, history-from, keeps-then, others-bytes}
use Rattle.pr_drive.proofs.ReadLemmas.{cut-asking, took-none}
use Rattle.pr_drive.proofs.ScriptLemmas.{scripted-runs}

-- What a call of the program does.

-- nothing is held before the first line
pub from-first : (held : List ℕ) (left : Option (List ℕ)) (begun : Input) (o : Opening) → held ≡ []
    → OpensAs o (input held left) begun → OpensAs o (from_start left) begun
from-first held left begun o none h = subst (λ (x : List ℕ). OpensAs o (input x left) begun) none h

lines-answered : (old : Ends) (left : Option (List ℕ)) (above : ℕ) (first : RoundsState) (begun : Input) (end : Stand)
    (replies : Option (List ℕ)) (opened : Opened above first (from_start old.left) begun) → left ≡ end.input.left
    → AnsweredAll above (stand begun first) end old.written replies
    → AnsweredLines old left replies opened.opened.scenario end.rounds.seats
lines-answered old left above first begun end replies opened left_is all =
    let s = opened.opened.scenario in
    let keeps =
    keeps-then (first_seats s) first.seats end.rounds.seats (begins-keep s first opened.opened.begins)
    (all-keep above (stand begun first) end old.written replies all) in
    let history = history-from s end.rounds.seats keeps in
    record {
      above = above;
      begun = stand begun first;
      opened = opened;
      scenario_is = refl;
      end = end;
      last_is = refl;
      left_is = left_is;
      answered = all;
      history = history;
      kept =
          kept-beside s end.rounds.seats.kernel.history (scenario-range opened.text s opened.opened.read) history.legal
          history.own (others-bytes s end.rounds.seats keeps);
      alone = alone-runs s above (stand begun first) end old.written replies all opened.opened.begins;
      scripted = scripted-runs s above (stand begun first) end old.written replies all opened.opened.begins;
    }

pub session-told : (showing : Showing) (old new : Ends) (status : Status) (above : ℕ) (first : RoundsState)
    (begun : Input) (end : Stand) (replies : Option (List ℕ)) → Opened above first (from_start old.left) begun
    → new.left ≡ end.input.left → AnsweredAll above (stand begun first) end old.written replies
    → TellsEnd showing end.rounds.seats status replies new.written → WasDriven showing old new status
session-told showing old new status above first begun end replies opened left_is all told =
    inr (record {
      scenario = opened.opened.scenario;
      last = end.rounds.seats;
      replies = replies;
      answered = lines-answered old new.left above first begun end replies opened left_is all;
      told = told;
    })

pub session-cut : (showing : Showing) (old new : Ends) (above : ℕ) (first : RoundsState) (begun : Input) (end : Stand)
    (replies : Option (List ℕ)) → Opened above first (from_start old.left) begun
    → new.left ≡ end.input.left → AnsweredAll above (stand begun first) end old.written replies
    → CutsEnd showing end.rounds.seats replies new.written → WasCut showing old new
session-cut showing old new above first begun end replies opened left_is all cuts =
    inr (inr (inr (record {
      scenario = opened.opened.scenario;
      last = end.rounds.seats;
      replies = replies;
      answered = lines-answered old new.left above first begun end replies opened left_is all;
      cut = cuts;
    })))

pub lines-cut : (showing : Showing) (old new : Ends) (above : ℕ) (first : RoundsState) (begun : Input)
    → Opened above first (from_start old.left) begun
    → AnsweredSome above (stand begun first) new.left old.written new.written → WasCut showing old new
lines-cut showing old new above first begun opened some =
    inr (inr (inl (record { above = above; begun = stand begun first; opened = opened; answered = some })))

-- a read failed behind lines of the outside
pub lines-unread : (old new : Ends) (above : ℕ) (first : RoundsState) (begun : Input)
    → Opened above first (from_start old.left) begun
    → AnsweredUnread above (stand begun first) new.left old.written new.written → WasUnread old new
lines-unread old new above first begun opened unread =
    inr (record { above = above; begun = stand begun first; opened = opened; answered = unread })

-- above the mark
pub cut-before : (showing : Showing) (held : List ℕ) (old new : Ends) → held ≡ []
    → CutAbove (input held old.left) new.left → new.written ≡ old.written → WasCut showing old new
cut-before showing held old new none cut same =
    inl (record {
      above = subst (λ (x : List ℕ). CutAbove (input x old.left) new.left) none cut;
      unwritten = same;
    })

pub cut-unread : (showing : Showing) (old new : Ends) → new.left ≡ old.left → new.written ≡ old.written
    → WasCut showing old new
cut-unread showing old new left same =
    let begun = took-none [] (from_start old.left) refl in
    inl (record {
      above = subst (CutAbove (from_start old.left)) (sym left)
          (cut-asking [] 0 (from_start old.left) (from_start old.left) old.left begun (unasked [] old.left));
      unwritten = same;
    })

pub unread-before : (held : List ℕ) (old new : Ends) → held ≡ [] → UnreadAbove (input held old.left) new.left
    → new.written ≡ old.written → WasUnread old new
unread-before held old new none unread same =
    inl (record {
      above = subst (λ (x : List ℕ). UnreadAbove (input x old.left) new.left) none unread;
      unwritten = same;
    })

pub refused-told : (showing : Showing) (old new : Ends) (status : Status) (fault : ScenFault) (begun : Input)
    → RefusedText fault (from_start old.left) begun ⊎ RefusedWhole fault (from_start old.left) begun
    → new.left ≡ begun.left → TellsRefusal fault status old.written new.written → WasDriven showing old new status
refused-told showing old new status fault begun refused left_is told = inl
    (record { fault = fault; input = begun; refused = refused; left_is = left_is; told = told })

pub refused-cut : (showing : Showing) (old new : Ends) (fault : ScenFault) (begun : Input)
    → RefusedText fault (from_start old.left) begun ⊎ RefusedWhole fault (from_start old.left) begun
    → new.left ≡ begun.left
    → AppendsSome old.written new.written (refusal_text fault.line (kind_name fault.kind)) → WasCut showing old new
refused-cut showing old new fault begun refused left_is some =
    inr (inl (record { fault = fault; input = begun; refused = refused; left_is = left_is; written = some }))

-- ---- from an opening on

pub opened-as : (held : List ℕ) (left : Option (List ℕ)) (begun : Input) (o : Opening) (first : RoundsState) (above : ℕ)
    → o ≡ opening.Session first above → held ≡ [] → OpensAs o (input held left) begun
    → Opened above first (from_start left) begun
opened-as held left begun o first above is none h = subst (λ (x : Opening). OpensAs x (from_start left) begun) is
    (from-first held left begun o none h)

pub refused-as : (held : List ℕ) (left : Option (List ℕ)) (begun : Input) (o : Opening) (fault : ScenFault)
    → o ≡ opening.Refused fault → held ≡ [] → OpensAs o (input held left) begun
    → RefusedText fault (from_start left) begun ⊎ RefusedWhole fault (from_start left) begun
refused-as held left begun o fault is none h = subst (λ (x : Opening). OpensAs x (from_start left) begun) is
    (from-first held left begun o none h)

pub went-on : (showing : Showing) (old new : Ends) (status : Status) (above : ℕ) (first : RoundsState) (begun : Input)
    → Opened above first (from_start old.left) begun
    → WasEnded showing above (stand begun first) new.left old.written new.written status
    → WasDriven showing old new status
went-on showing old new status above first begun opened h = session-told showing old new status above first begun h.end
    h.replies opened h.left_is h.answered h.told

pub went-cut : (showing : Showing) (old new : Ends) (above : ℕ) (first : RoundsState) (begun : Input)
    → Opened above first (from_start old.left) begun
    → WasCutOff showing above (stand begun first) new.left old.written new.written → WasCut showing old new
went-cut showing old new above first begun opened (inl some) = lines-cut showing old new above first begun opened some
went-cut showing old new above first begun opened (inr behind) = session-cut showing old new above first begun
    behind.end behind.replies opened behind.left_is behind.answered behind.cut

-- ---- statuses

-- a session that was told has no status of a failure
ends-whole : (s : SeatsState) (status : Status) → EndsAs s status → IsWhole status
ends-whole s Done h = record { read = λ e. cc; wrote = λ e. cc; had_memory = λ e. cc }
ends-whole s Spent h = record { read = λ e. cc; wrote = λ e. cc; had_memory = λ e. cc }
ends-whole s Stuck h = record { read = λ e. cc; wrote = λ e. cc; had_memory = λ e. cc }
ends-whole s _ h = absurd h

driven-whole : (showing : Showing) (old new : Ends) (status : Status) → WasDriven showing old new status
    → IsWhole status
driven-whole showing old new status (inl refused) =
    subst IsWhole (sym refused.told.status_is) (record { read = λ e. cc; wrote = λ e. cc; had_memory = λ e. cc })
driven-whole showing old new status (inr told) = ends-whole told.last status told.told.ends

pub drove-whole : (showing : Showing) (old new : Ends) (status : Status) → WasDriven showing old new status
    → new.read_faults ≡ old.read_faults → new.write_faults ≡ old.write_faults → Drove showing old new status
drove-whole showing old new status h reads writes =
    let w = driven-whole showing old new status h in
    record {
      told = λ whole. h;
      read_cut = λ e. absurd (w.read e);
      read_failed = λ e. absurd (w.read e);
      write_cut = λ e. absurd (w.wrote e);
      write_failed = λ e. absurd (w.wrote e);
      memory = λ e. absurd (w.had_memory e);
      no_read_fault = λ e. reads;
      no_write_fault = λ e. writes;
    }

-- the error of a result
same-err : {T : Type 0} (x y : CutOff) → ◌≡◌ {A = Result T CutOff} (Err x) (Err y) → x ≡ y
same-err x y e = cc

pub held-whole : (showing : Showing) (old new : Ends) (status : Status) → WasDriven showing old new status
    → (◌≢◌ {A = Result Status CutOff} (Ok status) (Err cut.ReadFailed) → new.read_faults ≡ old.read_faults)
    → (◌≢◌ {A = Result Status CutOff} (Ok status) (Err cut.WriteFailed) → new.write_faults ≡ old.write_faults)
    → Drove showing old new status
held-whole showing old new status h reads writes =
    drove-whole showing old new status h (reads (λ e. cc)) (writes (λ e. cc))

pub drove-cut : (showing : Showing) (old new : Ends) (c : CutOff) → WasCut showing old new
    → (c ≡ cut.ReadFailed → WasUnread old new)
    → (c ≡ cut.ReadFailed → Rose old.read_faults new.read_faults)
    → (c ≡ cut.WriteFailed → Rose old.write_faults new.write_faults)
    → ((c ≡ cut.ReadFailed → ⊥) → new.read_faults ≡ old.read_faults)
    → ((c ≡ cut.WriteFailed → ⊥) → new.write_faults ≡ old.write_faults) → Drove showing old new (status_of c)
unfolding status_of
drove-cut showing old new cut.ReadFailed h vain unread unwritten reads writes = record {
  told = λ whole. absurd (whole.read refl);
  read_cut = λ e. vain refl;
  read_failed = λ e. unread refl;
  write_cut = λ e. h;
  write_failed = λ e. cc;
  memory = λ e. h;
  no_read_fault = λ differs. absurd (differs refl);
  no_write_fault = λ differs. writes (λ e. cc);
}
drove-cut showing old new cut.WriteFailed h vain unread unwritten reads writes = record {
  told = λ whole. absurd (whole.wrote refl);
  read_cut = λ e. cc;
  read_failed = λ e. cc;
  write_cut = λ e. h;
  write_failed = λ e. unwritten refl;
  memory = λ e. h;
  no_read_fault = λ differs. reads (λ e. cc);
  no_write_fault = λ differs. absurd (differs refl);
}
drove-cut showing old new cut.NoMemory h vain unread unwritten reads writes = record {
  told = λ whole. absurd (whole.had_memory refl);
  read_cut = λ e. cc;
  read_failed = λ e. cc;
  write_cut = λ e. h;
  write_failed = λ e. cc;
  memory = λ e. h;
  no_read_fault = λ differs. reads (λ e. cc);
  no_write_fault = λ differs. writes (λ e. cc);
}

pub held-cut : (showing : Showing) (old new : Ends) (c : CutOff) (status : Status) → status ≡ status_of c
    → WasCut showing old new → (IsErrOf {T = Status} (Err c) cut.ReadFailed → WasUnread old new)
    → (IsErrOf {T = Status} (Err c) cut.ReadFailed → Rose old.read_faults new.read_faults)
    → (IsErrOf {T = Status} (Err c) cut.WriteFailed → Rose old.write_faults new.write_faults)
    → (◌≢◌ {A = Result Status CutOff} (Err c) (Err cut.ReadFailed) → new.read_faults ≡ old.read_faults)
    → (◌≢◌ {A = Result Status CutOff} (Err c) (Err cut.WriteFailed) → new.write_faults ≡ old.write_faults)
    → Drove showing old new status
held-cut showing old new c status is h vain unread unwritten reads writes =
    subst (Drove showing old new) (sym is)
    (drove-cut showing old new c h (λ e. vain (ap Err e)) (λ e. unread (ap Err e)) (λ e. unwritten (ap Err e))
    (λ differs. reads (λ e. differs (same-err {T = Status} c cut.ReadFailed e)))
    (λ differs. writes (λ e. differs (same-err {T = Status} c cut.WriteFailed e))))
