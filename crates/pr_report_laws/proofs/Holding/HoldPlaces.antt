use Rattle.std.proofs.Common.{◌≡◌, ◌++◌, ◌⊎◌, ℕ, true, false, Option, Some, None, List, [], ◌∷◌, refl, sym, subst, ap, ◌∙◌, append_assoc, inl, inr}
use Rattle.std.proofs.lemmas.Bool.{cases_Bool, false≢true}
use Rattle.std.proofs.lemmas.List.{append-nil}
use Rattle.pr_line.specs.declared.options.Options.{Options}
use Rattle.pr_model.specs.Events.{Logged}
use Rattle.pr_model.specs.State.{TracedState}
use Rattle.pr_model.specs.declared.events.Entry.{Entry}
use Rattle.pr_truss_laws.specs.Exchanges.{Exchange, exchange_of, truss_at}
use Rattle.pr_truss_laws.specs.Runs.{IsTrussRun}
use Rattle.pr_report_laws.proofs.Holding.HoldEnds.{watched-goes}
use Rattle.pr_report_laws.proofs.Holding.OverEnds.{goes-off}
use Rattle.pr_report_laws.proofs.Watching.BeginLaws.{first-watches-none}
use Rattle.pr_report_laws.proofs.Watching.BeginsOnlyLaws.{stays-off, watched-opened}
use Rattle.pr_report_laws.proofs.Watching.HistoryParts.{front-run}
use Rattle.pr_report_laws.proofs.Watching.OnceLaws.{hold-off, hold-on, watched-once}
use Rattle.pr_report_laws.specs.Grips.{GetsHold}
use Rattle.pr_report_laws.specs.Holds.{CameHeld, HasHold, KeepsHold, LetsGoIn, LetsGoThen, ends_in, in_hold, never, not_yet}
use Rattle.pr_report_laws.specs.Watching.{watches}

-- Truss watches a process just while it has hold of it.

no-entry : (first rest : List Entry) (e : Entry) → [] ≡ first ++ e ∷ rest → ⊥
no-entry [] rest e is = cc
no-entry (x ∷ first) rest e is = cc

module _ (n k : ℕ) (o : Options) (pid : ℕ) (s : TracedState) where
  abbrev Run : List Entry → Type 0
  Run h = IsTrussRun n k o s h

  abbrev On : List Entry → Type 0
  On h = watches (truss_at k o h) pid ≡ true

  abbrev Off : List Entry → Type 0
  Off h = watches (truss_at k o h) pid ≡ false

  pub one-run : (before later : List Entry) (e : Entry) → Run (before ++ e ∷ later) → Run (before ++ e ∷ [])
  one-run before later e run =
      front-run n k o s (before ++ e ∷ []) later (subst Run (sym (append_assoc before (e ∷ []) later)) run)

  pub more-run : (before later : List Entry) (e : Entry) → Run (before ++ e ∷ later) → Run ((before ++ e ∷ []) ++ later)
  more-run before later e run = subst Run (sym (append_assoc before (e ∷ []) later)) run

  -- ---- truss keeps hold

  keeps-none : (before : List Entry) → KeepsHold k pid s before []
  keeps-none before = record { none = λ first rest e is w. no-entry first rest e is }

  -- one entry more in front
  keeps-cons : (before hold : List Entry) (e : Entry) → (LetsGoIn k pid s before e → ⊥)
      → KeepsHold k pid s (before ++ e ∷ []) hold → KeepsHold k pid s before (e ∷ hold)
  keeps-cons before hold e here keeps = record { none = by }
    where
      by : (first rest : List Entry) (f : Entry) → e ∷ hold ≡ first ++ f ∷ rest → LetsGoIn k pid s (before ++ first) f
          → ⊥
      by [] rest f is w =
          let same : f ≡ e = cc in
          here (subst (λ (x : Entry). LetsGoIn k pid s before x) same
          (subst (λ (h : List Entry). LetsGoIn k pid s h f) (append-nil before) w))
      by (x ∷ first) rest f is w =
          let head : x ≡ e = cc in
          let tail : hold ≡ first ++ f ∷ rest = cc in
          keeps.none first rest f tail
          (subst (λ (h : List Entry). LetsGoIn k pid s h f) (sym (append_assoc before (e ∷ []) first))
          (subst (λ (y : Entry). LetsGoIn k pid s (before ++ y ∷ first) f) head w))

  pub keeps-rest : (before hold : List Entry) (e : Entry) → KeepsHold k pid s before (e ∷ hold)
      → KeepsHold k pid s (before ++ e ∷ []) hold
  keeps-rest before hold e keeps = record {
    none = λ first rest f is w. keeps.none (e ∷ first) rest f (ap (λ (h : List Entry). e ∷ h) is)
        (subst (λ (h : List Entry). LetsGoIn k pid s h f) (append_assoc before (e ∷ []) first) w);
  }

  keeps-here : (before hold : List Entry) (e : Entry) → KeepsHold k pid s before (e ∷ hold)
      → LetsGoIn k pid s before e → ⊥
  keeps-here before hold e keeps w =
      keeps.none [] hold e refl (subst (λ (h : List Entry). LetsGoIn k pid s h e) (sym (append-nil before)) w)

  -- so it watches the process still
  pub keeps-still : (before hold : List Entry) (e : Entry) → Run (before ++ e ∷ hold) → On before
      → KeepsHold k pid s before (e ∷ hold) → On (before ++ e ∷ [])
  keeps-still before hold e run on keeps = elim (cases_Bool (watches (truss_at k o (before ++ e ∷ [])) pid)) [
    | inl still ↦ still
    | inr off ↦ absurd (keeps-here before hold e keeps
        (watched-goes n k o pid s before e (one-run before hold e run) on off))
  ]

  pub keeps-on : (hold before : List Entry) → Run (before ++ hold) → On before → KeepsHold k pid s before hold
      → On (before ++ hold)
  keeps-on [] before run on keeps = subst On (sym (append-nil before)) on
  keeps-on (e ∷ hold) before run on keeps =
      subst On (append_assoc before (e ∷ []) hold)
      (keeps-on hold (before ++ e ∷ []) (more-run before hold e run) (keeps-still before hold e run on keeps)
      (keeps-rest before hold e keeps))

  -- and where it watches the process still, it has kept hold
  on-keeps : (hold before : List Entry) → Run (before ++ hold) → On before → On (before ++ hold)
      → KeepsHold k pid s before hold
  on-keeps [] before run on last = keeps-none before
  on-keeps (e ∷ hold) before run on last =
      elim (cases_Bool (watches (truss_at k o (before ++ e ∷ [])) pid)) [
        | inl still ↦ keeps-cons before hold e
            (λ w. false≢true (sym (goes-off n k o pid s before e (one-run before hold e run) on w) ∙ still))
            (on-keeps hold (before ++ e ∷ []) (more-run before hold e run) still
            (subst On (sym (append_assoc before (e ∷ []) hold)) last))
        | inr off ↦ absurd (false≢true (sym (watched-once n k o pid s before (e ∷ []) hold run on off) ∙ last))
      ]

  -- ---- truss gets hold

  module _ (before : List Entry) (e : Entry) (run : Run (before ++ e ∷ [])) where
    pub gets-on : GetsHold k o pid before e → On (before ++ e ∷ [])
    gets-on g = hold-on n k o pid s before e run g.last g.own g.complete

    pub gets-off : GetsHold k o pid before e → Off before
    gets-off g = hold-off n k o pid s before e run g.last g.own g.complete

    starts-gets : Off before → On (before ++ e ∷ []) → GetsHold k o pid before e
    starts-gets off on = by (exchange_of k e) refl
      where
        by : (x : Option Exchange) → exchange_of k e ≡ x → GetsHold k o pid before e
        by None none = absurd (stays-off n k o pid s before e run off on none)
        by (Some x) own = record { last = x; own = own; complete = watched-opened n k o pid s before e run off on }

    -- whether it does in an entry
    pub gets-or : GetsHold k o pid before e ⊎ (GetsHold k o pid before e → ⊥)
    gets-or = elim (cases_Bool (watches (truss_at k o before) pid)) [
      | inl on ↦ inr (λ g. false≢true (sym (gets-off g) ∙ on))
      | inr off ↦ elim (cases_Bool (watches (truss_at k o (before ++ e ∷ [])) pid)) [
        | inl on ↦ inl (starts-gets off on)
        | inr still ↦ inr (λ g. false≢true (sym still ∙ gets-on g))
      ]
    ]

  -- ---- the hold and the watch

  pub hold-watched : (h : List Entry) → Run h → HasHold k o pid s h → On h
  hold-watched h run w =
      let all : Run (w.front ++ w.opening ∷ w.hold) = subst Run w.is run in
      let on = gets-on w.front w.opening (one-run w.front w.hold w.opening all) w.begins in
      subst On (append_assoc w.front (w.opening ∷ []) w.hold ∙ sym w.is)
      (keeps-on w.hold (w.front ++ w.opening ∷ []) (more-run w.front w.hold w.opening all) on w.keeps)

  watched-from : (h before : List Entry) → Run (before ++ h) → Off before → On (before ++ h)
      → HasHold k o pid s (before ++ h)
  watched-from [] before run off on =
      absurd (false≢true (sym off ∙ subst On (append-nil before) on))
  watched-from (e ∷ h) before run off on =
      elim (cases_Bool (watches (truss_at k o (before ++ e ∷ [])) pid)) [
        | inl now ↦ record {
          front = before;
          opening = e;
          hold = h;
          is = refl;
          begins = starts-gets before e (one-run before h e run) off now;
          keeps =
              on-keeps h (before ++ e ∷ []) (more-run before h e run) now
              (subst On (sym (append_assoc before (e ∷ []) h)) on);
        }
        | inr still ↦ subst (HasHold k o pid s) (append_assoc before (e ∷ []) h)
            (watched-from h (before ++ e ∷ []) (more-run before h e run) still
            (subst On (sym (append_assoc before (e ∷ []) h)) on))
      ]

  pub watched-hold : (h : List Entry) → Run h → On h → HasHold k o pid s h
  watched-hold h run on = watched-from h [] run (first-watches-none k o pid) on

  pub unwatched-hold : (h : List Entry) → Run h → Off h → HasHold k o pid s h → ⊥
  unwatched-hold h run off w = false≢true (sym off ∙ hold-watched h run w)

  -- ---- where the hold ends

  record HasEnd (before h : List Entry) : Type 0 where
    hold : List Entry
    later : List Entry
    is : h ≡ hold ++ later
    keeps : KeepsHold k pid s before hold
    ends : LetsGoThen k pid s (before ++ hold) later

  has-end : (h before : List Entry) → Run (before ++ h) → On before → HasEnd before h
  has-end [] before run on = record {
    hold = [];
    later = [];
    is = refl;
    keeps = keeps-none before;
    ends = not_yet;
  }
  has-end (e ∷ h) before run on =
      elim (cases_Bool (watches (truss_at k o (before ++ e ∷ [])) pid)) [
        | inl still ↦ longer still (has-end h (before ++ e ∷ []) (more-run before h e run) still)
        | inr off ↦ record {
          hold = [];
          later = e ∷ h;
          is = refl;
          keeps = keeps-none before;
          ends =
              ends_in e h
              (subst (λ (es : List Entry). LetsGoIn k pid s es e) (sym (append-nil before))
              (watched-goes n k o pid s before e (one-run before h e run) on off));
        }
      ]
    where
      longer : On (before ++ e ∷ []) → HasEnd (before ++ e ∷ []) h → HasEnd before (e ∷ h)
      longer still w = record {
        hold = e ∷ w.hold;
        later = w.later;
        is = ap (λ (es : List Entry). e ∷ es) w.is;
        keeps =
            keeps-cons before w.hold e
            (λ g. false≢true (sym (goes-off n k o pid s before e (one-run before h e run) on g) ∙ still)) w.keeps;
        ends =
            subst (λ (es : List Entry). LetsGoThen k pid s es w.later) (append_assoc before (e ∷ []) w.hold)
            w.ends;
      }

  -- ---- what comes in it

  data Gets (before h : List Entry) : Type 0 where
    nowhere : ((first rest : List Entry) (e : Entry) → h ≡ first ++ e ∷ rest → GetsHold k o pid (before ++ first) e → ⊥)
        → Gets before h
    here : (first rest : List Entry) (e : Entry) → h ≡ first ++ e ∷ rest → GetsHold k o pid (before ++ first) e
        → Gets before h

  gets-next : (before h : List Entry) (e : Entry) → (GetsHold k o pid before e → ⊥) → Gets (before ++ e ∷ []) h
      → Gets before (e ∷ h)
  gets-next before h e not (here first rest f is g) =
      here (e ∷ first) rest f (ap (λ (es : List Entry). e ∷ es) is)
      (subst (λ (es : List Entry). GetsHold k o pid es f) (append_assoc before (e ∷ []) first) g)
  gets-next before h e not (nowhere none) = nowhere by
    where
      by : (first rest : List Entry) (f : Entry) → e ∷ h ≡ first ++ f ∷ rest → GetsHold k o pid (before ++ first) f → ⊥
      by [] rest f is g =
          let same : f ≡ e = cc in
          not (subst (λ (x : Entry). GetsHold k o pid before x) same
          (subst (λ (es : List Entry). GetsHold k o pid es f) (append-nil before) g))
      by (x ∷ first) rest f is g =
          let head : x ≡ e = cc in
          let tail : h ≡ first ++ f ∷ rest = cc in
          none first rest f tail
          (subst (λ (es : List Entry). GetsHold k o pid es f) (sym (append_assoc before (e ∷ []) first))
          (subst (λ (y : Entry). GetsHold k o pid (before ++ y ∷ first) f) head g))

  gets-in : (h before : List Entry) → Run (before ++ h) → Gets before h
  gets-in [] before run = nowhere (λ first rest e is g. no-entry first rest e is)
  gets-in (e ∷ h) before run = elim (gets-or before e (one-run before h e run)) [
    | inl g ↦ here [] h e refl (subst (λ (es : List Entry). GetsHold k o pid es e) (sym (append-nil before)) g)
    | inr not ↦ gets-next before h e not (gets-in h (before ++ e ∷ []) (more-run before h e run))
  ]

  -- what comes while truss has hold of the process
  pub record Came (h : List Entry) : Type 0 where
    pub logged : List Logged
    pub held : CameHeld k o pid s h logged

  pub came : (h : List Entry) → Run h → Came h
  came h run = by (gets-in h [] run)
    where
      by : Gets [] h → Came h
      by (nowhere none) = record {
        logged = [];
        held = never (record { none = λ front later opening is g. none front later opening is g });
      }
      by (here front rest opening is g) =
          let all : Run (front ++ opening ∷ rest) = subst Run is run in
          let w =
          has-end rest (front ++ opening ∷ []) (more-run front rest opening all)
          (gets-on front opening (one-run front rest opening all) g) in
          record {
            logged = _;
            held =
                in_hold front w.hold w.later opening (is ∙ ap (λ (es : List Entry). front ++ opening ∷ es) w.is)
                (record { begins = g; keeps = w.keeps; ends = w.ends });
          }
