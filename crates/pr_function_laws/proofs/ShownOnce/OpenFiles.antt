use Rattle.std.proofs.Common.{◌≡◌, ◌≢◌, ◌<◌, ◌++◌, ℕ, Option, Some, None, List, [], ◌∷◌, length, refl, sym, subst, ap, ◌∙◌, inl, inr}
use Rattle.std.proofs.lemmas.List.Elements.{All-cons, All-nil}
use Rattle.std.proofs.lemmas.Option.{none-some}
use Rattle.std.specs.List.{All, cons_option}
use Rattle.pr_model.specs.Calls.{Answer, answer_to}
use Rattle.pr_model.specs.Handles.{handle_of}
use Rattle.pr_model.specs.Legal.{IsLegal, IsLegalEntry, after, state_after}
use Rattle.pr_model.specs.State.{Places, TracedState}
use Rattle.pr_model.specs.declared.calls.Call.{Call}
use Rattle.pr_model.specs.declared.calls.Call.TheVariants as call
use Rattle.pr_model.specs.declared.calls.File.{File}
use Rattle.pr_model.specs.declared.calls.File.TheVariants as file
use Rattle.pr_model.specs.declared.calls.Mode.{Mode}
use Rattle.pr_model.specs.declared.calls.Mode.TheVariants.{WriteExcl}
use Rattle.pr_model.specs.declared.events.Entry.{Entry}
use Rattle.pr_model.specs.declared.handles.Held.{Held}
use Rattle.pr_report_laws.proofs.Files.FileLaws.{HasFiles, IsFileOf}
use Rattle.pr_report_laws.proofs.Files.WatchHistories.{cons-exchanges, no-exchanges}
use Rattle.pr_report_laws.specs.Attachments.{HasFile}
use Rattle.pr_truss.specs.Trusses.{TrussState, traced_at}
use Rattle.pr_truss.specs.declared.processes.Traced.{Traced}
use Rattle.pr_truss_laws.proofs.Files.OpensLemmas.{close-closes, open-opens, own-free, own-other, plain-leaves}
use Rattle.pr_truss_laws.specs.Exchanges.{Exchange, exchange_of, exchanges}
use Rattle.pr_function_laws.proofs.Stepping.BreakpointLemmas.{foreign-entry, own-entry}
use Rattle.pr_function_laws.proofs.OrdinaryTruss.OrdinaryReplies.{at-ordinary}
use Rattle.pr_function_laws.specs.Named.{RunsOrClosesIn, closes, runs}
use Rattle.pr_function_laws.specs.Ordinary.{ordinary, unmarked}
use Rattle.pr_function_laws.specs.Soon.{IsNoEndOf}

-- The files of a process that truss has open stay open until truss closes one.

-- ---- a handle stays open until it is closed

own-stays : (k : ℕ) (s : TracedState) (c : Call) (a : Answer) (m : ℕ) (h : Held) → answer_to s k c ≡ Some a
    → handle_of s.opens k m ≡ Some h → c ≢ call.Close m → handle_of a.state.opens k m ≡ Some h
own-stays k s (call.Open pid id f mode) a m h is there other =
    elim (open-opens s k pid id f mode a is) [
      | inl none ↦ ap (λ (p : Places). handle_of p k m) none.is ∙ there
      | inr new ↦
          let apart : new.place ≢ m =
          λ same. none-some h
          (sym (subst (λ q. handle_of s.opens k q ≡ None) same (own-free s.opens k new.place new.free)) ∙ there) in
          ap (λ (p : Places). handle_of p k m) new.is ∙ own-other s.opens k new.place m (Some _) apart ∙ there
    ]
own-stays k s (call.Close number) a m h is there other =
    elim (close-closes s k number a is) [
      | inl none ↦ ap (λ (p : Places). handle_of p k m) none.is ∙ there
      | inr one ↦ ap (λ (p : Places). handle_of p k m) one.1.is
          ∙ own-other s.opens k number m None (λ same. other (ap call.Close same)) ∙ there
    ]
own-stays k s c a m h is there other = ap (λ (p : Places). handle_of p k m) (plain-leaves s k c a refl is) ∙ there

pub entry-stays : (n k : ℕ) (s : TracedState) (e : Entry) (m : ℕ) (h : Held) → IsLegalEntry n s e
    → handle_of s.opens k m ≡ Some h → ((x : Exchange) → exchange_of k e ≡ Some x → x.call ≢ call.Close m)
    → handle_of (after s e).opens k m ≡ Some h
entry-stays n k s e m h legal there other = by (exchange_of k e) refl
  where
    by : (x : Option Exchange) → exchange_of k e ≡ x → handle_of (after s e).opens k m ≡ Some h
    by None own = let w = foreign-entry n k s e legal own in w.handles m ∙ there
    by (Some x) own =
        let w = own-entry n k s e x legal own in
        ap (λ (u : TracedState). handle_of u.opens k m) (sym w.later)
        ∙ own-stays k s x.call w.answer m h w.is there (other x own)

-- ---- the files of a process

-- this file of it is open with this handle
pub data IsFileIn (p : Traced) : File → ℕ → Type 0 where
  control : {m : ℕ} → p.control ≡ m → IsFileIn p file.Ctl m
  status : {m : ℕ} → p.status ≡ Some m → IsFileIn p file.Status m
  lstatus : {m : ℕ} → p.lstatus ≡ Some m → IsFileIn p file.Lstatus m
  memory : {m : ℕ} → p.memory ≡ Some m → IsFileIn p file.Mem m

-- the kernel has each of them open for the controller, as a file of that process
abbrev pub AreOpen : ℕ → ℕ → Traced → TracedState → Type 0
AreOpen k pid p s = (f : File) (m : ℕ) → IsFileIn p f m → HasFile k pid f m s

module _ (n k pid : ℕ) (p : Traced) where
  -- they are open behind an entry in which none of them is closed
  pub stay-open : (s : TracedState) (e : Entry) → IsLegalEntry n s e → AreOpen k pid p s
      → ((x : Exchange) (f : File) (m : ℕ) → exchange_of k e ≡ Some x → IsFileIn p f m → x.call ≢ call.Close m)
      → AreOpen k pid p (after s e)
  stay-open s e legal opens other f m mine =
      let it : HasFile k pid f m s = opens f m mine in
      record {
        held = it.held;
        there = entry-stays n k s e m it.held legal it.there (λ x own. other x f m own mine);
        of = it.of;
        file = it.file;
      }

  -- Wherever its files are open among these entries, the process is not run and no file of it is closed.
  pub record EndsNowhere (s : TracedState) (h : List Entry) : Type 0 where
    pub none : (before later : List Entry) (e : Entry) → h ≡ before ++ e ∷ later
        → AreOpen k pid p (state_after s before) → RunsOrClosesIn k pid p.control (state_after s before) e → ⊥

  module _ (s : TracedState) (e : Entry) (h : List Entry) (opens : AreOpen k pid p s) (w : EndsNowhere s (e ∷ h)) where
    as-called : (x : Exchange) (c : Call) → exchange_of k e ≡ Some x → x.call ≡ c
        → exchange_of k e ≡ Some (record { call = c; reply = x.reply })
    as-called x c own is = own ∙ ap (λ (d : Call). Some (record { call = d; reply = x.reply })) is

    unclosed : (x : Exchange) (f : File) (m : ℕ) → exchange_of k e ≡ Some x → IsFileIn p f m → x.call ≢ call.Close m
    unclosed x f m own mine is =
        let it : HasFile k pid f m s = opens f m mine in
        w.none [] h e refl opens (closes m x.reply it.held (as-called x (call.Close m) own is) it.there it.of)

    no-end : (x : Exchange) → exchange_of k e ≡ Some x → IsNoEndOf p x
    no-end x own = record {
      not_run = λ flags is. w.none [] h e refl opens (runs flags x.reply (as-called x _ own is));
      not_closed = λ handle is. record {
        control = λ mine. unclosed x file.Ctl handle own (control mine) is;
        status = λ mine. unclosed x file.Status handle own (status mine) is;
        lstatus = λ mine. unclosed x file.Lstatus handle own (lstatus mine) is;
        memory = λ mine. unclosed x file.Mem handle own (memory mine) is;
      };
    }

    ends-nowhere-later : EndsNowhere (after s e) h
    ends-nowhere-later = record {
      none = λ before later f is. w.none (e ∷ before) later f (ap (λ (es : List Entry). e ∷ es) is);
    }

  -- none of these calls ends the look at the process
  pub no-ends : (h : List Entry) (s : TracedState) → IsLegal n s h → AreOpen k pid p s → EndsNowhere s h
      → All (IsNoEndOf p) (exchanges k h)
  no-ends [] s legal opens w = subst (All (IsNoEndOf p)) (sym (no-exchanges k)) (All-nil (IsNoEndOf p))
  no-ends (e ∷ h) s legal opens w =
      subst (All (IsNoEndOf p)) (sym (cons-exchanges k e h))
      (by (exchange_of k e) (λ x own. no-end s e h opens w x own)
      (no-ends h (after s e) legal.1
      (stay-open s e legal.0 opens (λ x f m own mine. unclosed s e h opens w x f m own mine))
      (ends-nowhere-later s e h opens w)))
    where
      by : (x : Option Exchange) → ((y : Exchange) → x ≡ Some y → IsNoEndOf p y) → All (IsNoEndOf p) (exchanges k h)
          → All (IsNoEndOf p) (cons_option x (exchanges k h))
      by None one rest = rest
      by (Some x) one rest = All-cons (IsNoEndOf p) x (exchanges k h) (one x refl) rest

-- The files that truss remembers of a process are open.
module _ (k pid : ℕ) (t : TrussState) (s : TracedState) (files : HasFiles k (ordinary t) s) (place : ℕ)
    (within : place < length (ordinary t).traced) (of : (traced_at (ordinary t) place).pid ≡ pid) where
  abbrev q : Traced
  q = traced_at (ordinary t) place

  as-unmarked : q ≡ unmarked (traced_at t place)
  as-unmarked = at-ordinary t place

  has-it : (f : File) (mode : Mode) (m : ℕ) → IsFileOf k s q.pid m f mode → HasFile k pid f m s
  has-it f mode m it = record { held = _; there = it.is; of = of; file = refl }

  pub files-open : AreOpen k pid (traced_at t place) s
  files-open f m (control is) =
      has-it file.Ctl WriteExcl m
      (subst (λ c. IsFileOf k s q.pid c file.Ctl WriteExcl) (ap (λ (u : Traced). u.control) as-unmarked ∙ is)
      (files.control place within))
  files-open f m (status is) =
      has-it _ _ m (files.status place m within (ap (λ (u : Traced). u.status) as-unmarked ∙ is))
  files-open f m (lstatus is) =
      has-it _ _ m (files.lstatus place m within (ap (λ (u : Traced). u.lstatus) as-unmarked ∙ is))
  files-open f m (memory is) =
      has-it _ _ m (files.memory place m within (ap (λ (u : Traced). u.memory) as-unmarked ∙ is))
