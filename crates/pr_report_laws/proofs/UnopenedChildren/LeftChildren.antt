use Rattle.std.proofs.Common.{◌≡◌, ◌≢◌, ℕ, Bool, true, Option, None, Some, List, [], ◌∷◌, ◌++◌, cond, refl, subst, ap, ◌∙◌, append_assoc}
use Rattle.std.proofs.lemmas.Bool.{ne_eqb}
use Rattle.pr_line.specs.declared.options.Options.{Options}
use Rattle.pr_model.specs.State.{TracedState}
use Rattle.pr_model.specs.declared.calls.File.TheVariants.{Ctl}
use Rattle.pr_model.specs.declared.calls.Mode.TheVariants.{WriteExcl}
use Rattle.pr_model.specs.declared.events.Act.{Act}
use Rattle.pr_model.specs.declared.events.Act.TheVariants as act
use Rattle.pr_model.specs.declared.events.Actor.{Actor}
use Rattle.pr_model.specs.declared.events.Actor.TheVariants.{Controller}
use Rattle.pr_model.specs.declared.events.Entry.{Entry}
use Rattle.pr_truss.specs.Trusses.{TrussState, traced_at}
use Rattle.pr_truss.specs.declared.stages.Stage.TheVariants.{OpeningChildControl}
use Rattle.pr_truss_laws.specs.Exchanges.{Exchange, exchange_in, exchanges, truss_after}
use Rattle.pr_report_laws.proofs.Invariant.HistoryLaw.{after-next, no-exchanges}
use Rattle.pr_report_laws.specs.AsChildren.{WasOpenedAsChild}
use Rattle.pr_report_laws.specs.Births.{granted}
use Rattle.pr_report_laws.specs.Lineages.{IsLeftToTruss, Lineage, WasHad, WasTaken, descends, itself}
use Rattle.pr_report_laws.specs.Watching.{fed_by_entry, with_exchange}

-- What the rest of a history leaves to truss of the processes of a line, to which each belongs of which truss opens one
-- of them as a child.

-- ---- the open of a child

-- In the rest of a history truss is granted the control file of a process, which it opens as the child of that at a
-- place.
pub record OpensAsChild (k c : ℕ) (t : TrussState) (h : List Entry) : Type 0 where
  pub front : List Entry
  pub handle : ℕ
  pub later : List Entry
  pub is : h ≡ front ++ granted k c 0 Ctl WriteExcl handle ∷ later
  pub place : ℕ
  pub at : (truss_after t (exchanges k front)).stage ≡ OpeningChildControl place c

-- it is this entry
abbrev pub opens-now : (k c place handle : ℕ) (t : TrussState) (e : Entry) (h : List Entry)
    → e ≡ granted k c 0 Ctl WriteExcl handle → t.stage ≡ OpeningChildControl place c → OpensAsChild k c t (e ∷ h)
opens-now k c place handle t e h is at = record {
  front = [];
  handle = handle;
  later = h;
  is = ap (λ x. x ∷ h) is;
  place = place;
  at = ap (λ (u : TrussState). u.stage) (no-exchanges k t) ∙ at;
}

-- it comes after this entry
abbrev pub opens-on : (k c : ℕ) (t : TrussState) (e : Entry) (h : List Entry) → OpensAsChild k c (fed_by_entry k t e) h
    → OpensAsChild k c t (e ∷ h)
opens-on k c t e h w = record {
  front = e ∷ w.front;
  handle = w.handle;
  later = w.later;
  is = ap (λ (es : List Entry). e ∷ es) w.is;
  place = w.place;
  at = ap (λ (u : TrussState). u.stage) (after-next k t e w.front) ∙ w.at;
}

-- ---- an entry that comes before

-- an entry that is no call of truss tells it nothing
none-told : (k : ℕ) (t : TrussState) (actor : Actor) (it : Act) → actor ≢ Controller k
    → with_exchange t (exchange_in k actor it) ≡ t
none-told k t (Controller by) (act.Call c r) other =
    ap (λ (b : Bool). with_exchange t (cond {A = Option Exchange} b (Some (record { call = c; reply = r })) None))
    (ne_eqb by k (λ same. other (ap (λ m. Controller m) same)))
none-told k t _ _ other = refl

pub other-told : (k : ℕ) (t : TrussState) (e : Entry) → e.actor ≢ Controller k → fed_by_entry k t e ≡ t
other-told k t e others = none-told k t e.actor e.act others

pub had-on : (k : ℕ) (o : Options) (c : ℕ) (e : Entry) (h : List Entry) → WasHad k o c h
    → WasHad k o c (e ∷ h)
had-on k o c e h w = record {
  before = e ∷ w.before;
  by = w.by;
  lwp = w.lwp;
  file = w.file;
  mode = w.mode;
  handle = w.handle;
  later = w.later;
  is = ap (λ (es : List Entry). e ∷ es) w.is;
  who = w.who;
}

taken-on : (k : ℕ) (o : Options) (c : ℕ) (e : Entry) (h : List Entry) → WasTaken k o c h → WasTaken k o c (e ∷ h)
taken-on k o c e h w = record {
  before = e ∷ w.before;
  parent = w.parent;
  id = w.id;
  turned = w.turned;
  since = w.since;
  is = ap (λ (es : List Entry). e ∷ es) w.is;
  forks = w.forks;
  had = w.had;
}

-- ---- what is left

pub record LeavesTo (Line : ℕ → Type 0) (k : ℕ) (o : Options) (t : TrussState) (h : List Entry) : Type 0 where
  pub parents : (child : ℕ) → Line child → (w : OpensAsChild k child t h)
      → Line (traced_at (truss_after t (exchanges k w.front)) w.place).pid
  pub left : o.follow ≡ true → (child : ℕ) → Line child → (w : OpensAsChild k child t h)
      → WasTaken k o child w.front → ⊥

-- the rest of it leaves them to truss too
pub leaves-later : (Line : ℕ → Type 0) (k : ℕ) (o : Options) (t : TrussState) (e : Entry) (h : List Entry)
    → LeavesTo Line k o t (e ∷ h) → LeavesTo Line k o (fed_by_entry k t e) h
leaves-later Line k o t e h leaves = record {
  parents =
      λ child line w. subst (λ (u : TrussState). Line (traced_at u w.place).pid) (after-next k t e w.front)
      (leaves.parents child line (opens-on k child t e h w));
  left = λ follow child line w taken. leaves.left follow child line (opens-on k child t e h w)
      (taken-on k o child e w.front taken);
}

-- the process as the child of which one is opened now
pub parent-now : (Line : ℕ → Type 0) (k : ℕ) (o : Options) (t : TrussState) (e : Entry) (h : List Entry)
    → LeavesTo Line k o t (e ∷ h) → (child place handle : ℕ) → e ≡ granted k child 0 Ctl WriteExcl handle
    → t.stage ≡ OpeningChildControl place child → Line child → Line (traced_at t place).pid
parent-now Line k o t e h leaves child place handle is at line =
    subst (λ (u : TrussState). Line (traced_at u place).pid) (no-exchanges k t)
    (leaves.parents child line (opens-now k child place handle t e h is at))

-- ---- a history that goes on

module _ (k : ℕ) (o : Options) (pid : ℕ) (s : TracedState) (front later : List Entry) where
  longer : (before rest : List Entry) (e : Entry) → front ≡ before ++ e ∷ rest
      → front ++ later ≡ before ++ e ∷ (rest ++ later)
  longer before rest e is = ap (λ (es : List Entry). es ++ later) is ∙ append_assoc before (e ∷ rest) later

  opened-front : (parent child : ℕ) → WasOpenedAsChild k o parent child s front
      → WasOpenedAsChild k o parent child s (front ++ later)
  opened-front parent child w = record {
    before = w.before;
    entry = w.entry;
    handle = w.handle;
    later = w.later ++ later;
    is = longer w.before w.later w.entry w.is;
    opens = w.opens;
    told = w.told;
    of = w.of;
  }

  line-front : (of : ℕ) → Lineage k o pid s front of → Lineage k o pid s (front ++ later) of
  line-front _ itself = itself
  line-front _ (descends child of line was) = descends child of (line-front child line) (opened-front of child was)

  -- A process that is left to truss in a history was so before.
  pub left-front : IsLeftToTruss k o pid s (front ++ later) → IsLeftToTruss k o pid s front
  unfolding opened-front
  left-front left = record {
    each = λ follow child parent line opened taken.
        left.each follow child parent (line-front child line) (opened-front parent child opened) taken;
  }

pub ruleset fronts = (left-front)
