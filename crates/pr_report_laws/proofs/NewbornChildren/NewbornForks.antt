use Rattle.std.proofs.Common.{◌≡◌, ◌≢◌, ◌⊎◌, ℕ, suc, false, true, Some, List, [], ◌∷◌, ◌++◌, refl, sym, subst, ap, ◌∙◌, arith, inl, inr, append_assoc}
use Rattle.std.proofs.lemmas.Bool.{false≢true}
use Rattle.std.proofs.lemmas.Option.{same_Some}
use Rattle.pr_api.specs.Entries.{turn_entry}
use Rattle.pr_line.specs.declared.options.Options.{Options}
use Rattle.pr_model.specs.Lawful.{IsLawful}
use Rattle.pr_model.specs.Legal.{IsLegalEntry, after}
use Rattle.pr_model.specs.LwpTurns.{LwpTurn, turn_of}
use Rattle.pr_model.specs.State.{TracedProcess, TracedState, live_process}
use Rattle.pr_model.specs.declared.events.Actor.TheVariants.{Controller}
use Rattle.pr_model.specs.declared.events.Entry.{Entry}
use Rattle.pr_model.specs.declared.events.Turned.{Turned}
use Rattle.pr_truss.specs.Trusses.{TrussState, traced_at}
use Rattle.pr_truss_laws.proofs.Machine.StillLemmas.{halting-leaves}
use Rattle.pr_truss_laws.specs.Stills.{with_lwp_stopped}
use Rattle.pr_report_laws.proofs.Invariant.Tallies.{Tally}
use Rattle.pr_report_laws.proofs.UnopenedChildren.ClaimEntries.{Left, left, stopped-forked}
use Rattle.pr_report_laws.proofs.UnopenedChildren.ClaimEntries as entries
use Rattle.pr_report_laws.proofs.UnopenedChildren.ClaimStands.{IsStanding, stood-at}
use Rattle.pr_report_laws.proofs.UnopenedChildren.Claims.{Claims, IsFree, stands}
use Rattle.pr_report_laws.proofs.UnopenedChildren.Claims as claims
use Rattle.pr_report_laws.proofs.Files.FileLaws.{HasFiles}
use Rattle.pr_report_laws.proofs.Machine.ForkTurns.{HasForked, alone-forked, forked-did}
use Rattle.pr_report_laws.proofs.Machine.OwnTurnLaws.{event-halts}
use Rattle.pr_report_laws.proofs.Invariant.Positions.{IsTracedBy}
use Rattle.pr_report_laws.proofs.Invariant.Standing as st
use Rattle.pr_report_laws.proofs.Invariant.Standing.{Position}
use Rattle.pr_report_laws.specs.Births.{child_made}
use Rattle.pr_reached.specs.Fits.{IsFitSystem}
use Rattle.pr_report_laws.specs.Newborn.{WasForked}

-- A child that truss is to open was made by a fork of the history.

-- the entry of that fork
pub record IsForkOf (c : ℕ) (e : Entry) : Type 0 where
  pub parent : ℕ
  pub id : ℕ
  pub turned : Turned
  pub is : e ≡ turn_entry parent id turned
  pub made : child_made turned.did ≡ Some c

pub forked-last : (c : ℕ) (past : List Entry) (e : Entry) → IsForkOf c e → WasForked c (past ++ e ∷ [])
forked-last c past e f = record {
  before = past;
  parent = f.parent;
  id = f.id;
  turned = f.turned;
  later = [];
  is = ap (λ x. past ++ x ∷ []) f.is;
  made = f.made;
}

pub forked-before : (c : ℕ) (past : List Entry) (e : Entry) → WasForked c past → WasForked c (past ++ e ∷ [])
forked-before c past e f = record {
  before = f.before;
  parent = f.parent;
  id = f.id;
  turned = f.turned;
  later = f.later ++ e ∷ [];
  is =
      ap (λ (es : List Entry). es ++ e ∷ []) f.is
      ∙ append_assoc f.before (turn_entry f.parent f.id f.turned ∷ f.later) (e ∷ []);
  made = f.made;
}

module _ (Line : ℕ → Type 0) (n k : ℕ) (o : Options) (t : TrussState) (s : TracedState) (e : Entry)
    (h : List Entry) (lawful : IsLawful s) (fit : IsFitSystem s.system) (files : HasFiles k t s)
    (stand : (pid : ℕ) → Line pid → IsStanding o pid t s)
    (stays : t.leaving ≡ false) (legal : IsLegalEntry n s e) (later : IsLawful (after s e))
    (others : e.actor ≢ Controller k) where
  abbrev Forked : ℕ → ℕ → Type 0
  Forked pid c = Claims o t.traced t.stage s.system pid c ⊎ IsForkOf c e

  -- a turn of a process that truss watches
  turn-forks : (place c : ℕ) → Line (traced_at t place).pid → IsFree t.traced t.stage place → o.follow ≡ true
      → (id : ℕ) (d : LwpTurn) (p q : TracedProcess) → e ≡ turn_entry (traced_at t place).pid id d.turned
      → turn_of s.system (traced_at t place).pid id ≡ Some d
      → live_process s.system (traced_at t place).pid ≡ Some p → live_process d.system (traced_at t place).pid ≡ Some q
      → HasForked q c → Forked (traced_at t place).pid c
  turn-forks place c line free follow id d p q is taken live there forked =
      let w =
      stood-at k o t s files stays place free.within
      (stand (traced_at t place).pid line) free.attached free.here p live in
      by w.0 w.1
    where
      clash : (m : ℕ) → suc m ≡ 0 → ⊥
      clash m same = omega arith

      by : {tally : Tally} → IsTracedBy o p → Position o t.stage place (traced_at t place).old p tally
          → Forked (traced_at t place).pid c
      by traced (st.stop_read read waits whole) = absurd (false≢true (sym free.read ∙ read))
      by traced (st.old_stops m read counts waits whole) = absurd (clash m (sym counts ∙ free.none))
      by traced (st.goes read not_named none quiet whole) =
          inr (record {
            parent = (traced_at t place).pid;
            id = id;
            turned = d.turned;
            is = is;
            made = forked-did o s (traced_at t place).pid id p d lawful fit live traced quiet taken q there c forked;
          })
      by traced (st.has_event other event read none one waits whole) =
          let now : live_process d.system (traced_at t place).pid ≡ Some (with_lwp_stopped id p) =
          halting-leaves s.system (traced_at t place).pid p live (event-halts p other event one) id d taken in
          inl (stands place free refl follow p live
          (stopped-forked p id c
          (subst (λ (x : TracedProcess). HasForked x c) (sym (same_Some (with_lwp_stopped id p) q (sym now
          ∙ there))) forked)))

  -- A child that truss is to open after the entry was one before it, or the entry is its fork.
  pub claims-forked : (pid c : ℕ) → Line pid → Claims o t.traced t.stage (after s e).system pid c → Forked pid c
  claims-forked of c line (claims.reads place within same claim) = inl (claims.reads place within same claim)
  claims-forked of c line (stands place free same follow q now forked) =
      subst (λ m. Forked m c) same
      (by (left Line n k o t s e h lawful fit files stand stays legal later others place free.within q
      (ap (live_process (after s e).system) same ∙ now)))
    where
      by : Left (traced_at t place).pid s e q → Forked (traced_at t place).pid c
      by (entries.alone p live apart) = inl (stands place free refl follow p live (alone-forked p q c apart forked))
      by (entries.turned id d p is taken live there) =
          turn-forks place c (subst Line (sym same) line) free follow id d p q is taken live there forked
