use Rattle.std.proofs.Common.{◌≡◌, ◌≢◌, ◌<◌, ℕ, Bool, true, false, None, Some, length, sym, subst, ap, ◌∙◌}
use Rattle.std.proofs.lemmas.Bool.{false≢true}
use Rattle.pr_line.specs.declared.options.Options.{Options}
use Rattle.pr_model.proofs.TurnLemmas.{turn-taken}
use Rattle.pr_model.specs.Lawful.{IsLawful}
use Rattle.pr_model.specs.Legal.{IsLegalEntry, after}
use Rattle.pr_model.specs.LwpTurns.{LwpTurn, turn_of}
use Rattle.pr_model.specs.State.{TracedProcess, TracedState, live_process}
use Rattle.pr_model.specs.declared.events.Entry.{Entry}
use Rattle.pr_report_laws.proofs.Invariant.StandLemmas.{IsThere}
use Rattle.pr_truss.specs.Asides.{marks_at}
use Rattle.pr_truss.specs.Trusses.{TrussState, traced_at}
use Rattle.pr_truss.specs.declared.processes.Traced.{Traced}
use Rattle.pr_truss.specs.declared.stages.Stage.{Stage}
use Rattle.pr_truss.specs.declared.stages.Stage.TheVariants.{ReadingStatus}
use Rattle.pr_truss_laws.specs.Exchanges.{exchange_of}
use Rattle.pr_function_laws.proofs.Stepping.BreakpointLemmas.{IsForeign, foreign-entry}
use Rattle.pr_function_hides.proofs.LeavingCopies.CopyLeft.{AreFewer, IsLeaving, LeavesSo, alone-left, held-on, left-on}
use Rattle.pr_function_hides.proofs.LeavingCopies.CopyLeft.{less-leaving, same-fewer, turn-finds-none, turn-leaves}
use Rattle.pr_function_hides.proofs.Replies.FilesWalk.{SameFiles}
use Rattle.pr_function_hides.proofs.Replies.LeavingStages.{IsLeft, asks, awaits, closes_files, halts, has_ended, lifts_all}
use Rattle.pr_function_hides.proofs.Replies.LeavingStages.{looks, reads_text, waits_again}
use Rattle.pr_function_hides.proofs.Replies.LeavingWalk.{Left}
use Rattle.pr_function_hides.proofs.StoppedCopies.CopyPasses.{Passed, alone, passed, turned}
use Rattle.pr_function_hides.specs.Copying.{IsEmpty, makes_copy}

-- Truss that leaves its processes: what is so of each process that it has still to leave, and that what others do
-- leaves that.

-- ---- what is so of each

-- also of another record with the same files and marks
pub leaving-alike : (k : ℕ) (o : Options) (May : ℕ → Type 0) (s : TracedState) (u v : Traced) → SameFiles u v
    → v.attached ≡ u.attached → v.marks ≡ u.marks → IsLeaving k o May s u → IsLeaving k o May s v
leaving-alike k o May s u v same attached marks =
    less-leaving k o May s u v
    (record { files = same; marks = subst (AreFewer u.marks) (sym marks) (same-fewer u.marks) })

-- a process of this id had stops that stood before truss came
abbrev pub HasOld : TrussState → ℕ → Type 0
HasOld t pid =
    (q : ℕ) × ((q < length t.traced) × (((traced_at t q).pid ≡ pid) × (0 < (traced_at t q).old)))

-- and of each that it has still to look at what it had of it when it was interrupted, where it stood so: the process
-- has its old stops still, and truss knows its file of the lwps
pub record IsStill (t : TrussState) (v : Traced) : Type 0 where
  pub old : HasOld t v.pid → v.old ≢ 0
  pub known : IsThere v.lstatus

pub as-still : (t : TrussState) (u v : Traced) → SameFiles u v → v.attached ≡ u.attached → v.old ≡ u.old
    → v.seen ≡ u.seen → IsStill t u
    → IsStill t v
as-still t u v same attached old seen it = record {
  old = λ has none. it.old (subst (HasOld t) same.pid has) (sym old ∙ none);
  known = let x = it.known in record { number = x.number; is = same.lstatus ∙ x.is };
}

-- truss that was interrupted where it stood as the first one
pub record Leaves (k : ℕ) (o : Options) (t0 t : TrussState) (s : TracedState) : Type 0 where
  pub options : t.options ≡ o
  pub left : Left (IsLeaving k o (HasOld t0) s) (leaving-alike k o (HasOld t0) s) (IsStill t0) (as-still t0) t

-- it reads no status
reads_status : Stage → Bool
reads_status (ReadingStatus q) = true
reads_status stage = false

pub left-reads-none : (t : TrussState) (place : ℕ) → IsLeft t → t.stage ≡ ReadingStatus place → ⊥
unfolding reads_status
left-reads-none t place w reads = false≢true (sym (none w) ∙ ap reads_status reads)
  where
    none : IsLeft t → reads_status t.stage ≡ false
    none (halts at idle within) = ap reads_status at
    none (awaits until at beside within) = ap reads_status at
    none (asks at beside within) = ap reads_status at
    none (waits_again until at beside within) = ap reads_status at
    none (looks at idle within) = ap reads_status at
    none (reads_text l from len at idle within) = ap reads_status at
    none (lifts_all clear at beside within) = ap reads_status at
    none (closes_files at idle within) = ap reads_status at
    none (has_ended at idle) = ap reads_status at

-- ---- an entry of others

module _ (n k : ℕ) (o : Options) (s : TracedState) (lawful : IsLawful s) (e : Entry) (legal : IsLegalEntry n s e)
    (other : exchange_of k e ≡ None) where
  foreign : IsForeign k s e
  foreign = foreign-entry n k s e legal other

  leaving-one : {May : ℕ → Type 0} (v : Traced) → IsLeaving k o May s v → IsLeaving k o May (after s e) v
  leaving-one {May} v w =
      let h = w.files in
      record {
        files = held-on k o s (after s e) v (λ m held there own. (let f = foreign in f.handles m) ∙ there) w.files;
        stands = λ q later.
            let was = passed n k o s lawful e.actor e.act legal foreign v.pid v.control h.its q later in
            by q was.0 was.1.0 was.1.1 (w.stands was.0 was.1.0);
      }
    where
      by : (q p : TracedProcess) → live_process s.system v.pid ≡ Some p → Passed s v.pid p q
          → LeavesSo (May v.pid) o v.marks p → LeavesSo (May v.pid) o v.marks q
      by q p live (alone a) so = left-on o v.marks p q (alone-left p q a) so
      by q p live (turned own turn is at) so =
          turn-leaves o v.marks s.system v.pid p own turn lawful.system live is q at so

  pub foreign-leaves : (t0 t : TrussState) → Leaves k o t0 t s → Leaves k o t0 t (after s e)
  foreign-leaves t0 t w =
      let l = w.left in
      record {
        options = w.options;
        left = record {
          on = l.on;
          at = l.at;
          bare = l.bare;
          each = λ q within. leaving-one (traced_at t q) (l.each q within);
          apart = l.apart;
          unlooked = l.unlooked;
        };
      }

-- ---- a call that copies or replaces the memory

pub leaving-finds-none : (k : ℕ) (o : Options) (t0 t : TrussState) (s : TracedState) → IsLawful s
    → Leaves k o t0 t s → (place : ℕ) → place < length t.traced → (id : ℕ) (turn : LwpTurn)
    → turn_of s.system (traced_at t place).pid id ≡ Some turn → makes_copy turn.turned.did ≡ true
    → IsEmpty (marks_at t place).planted
leaving-finds-none k o t0 t s lawful w place within id turn is makes =
    let it = turn-taken s.system (traced_at t place).pid id turn is in
    turn-finds-none o (marks_at t place) s.system (traced_at t place).pid it.process id turn lawful.system it.live is
    makes (let l = w.left in let h = l.each place within in h.stands it.process it.live)
