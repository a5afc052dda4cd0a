-- Handles are named while they are open: by the open that gave each, until it is given anew or closed.
use Rattle.std.proofs.Common.{◌≡◌, ◌↔◌, ◌⊎◌, inl, inr, ℕ, ◌+◌, Bool, true, false, not, ◌&&◌, Some, None, List, [], ◌∷◌, length, refl, sym, ap, ◌∙◌}
use Rattle.std.proofs.lemmas.Bool.{and_from, and_parts, eqb-false, eqb-true, false≢true, not-true, not_from_false}
use Rattle.std.proofs.lemmas.Option.{none-some, same_Some}
use Rattle.pr_num.specs.ById.{IsRising, under, without_id}
use Rattle.pr_num.proofs.ByIdLaws.{under-without_id, under-without_id_other}
use Rattle.pr_num.proofs.ByIdLemmas.{rises_from-without_id}
use Rattle.pr_model.specs.declared.calls.Call.{Call}
use Rattle.pr_model.specs.declared.calls.Call.TheVariants as call
use Rattle.pr_model.specs.declared.calls.File.{File}
use Rattle.pr_model.specs.declared.calls.Mode.{Mode}
use Rattle.pr_model.specs.declared.calls.Reply.{Reply}
use Rattle.pr_model.specs.declared.calls.Reply.TheVariants as reply
use Rattle.pr_model.specs.declared.events.Act.{Act}
use Rattle.pr_model.specs.declared.events.Act.TheVariants as act
use Rattle.pr_model.specs.declared.events.Entry.{Entry}
use Rattle.pr_hist.specs.Laws.{NamesClosed, NamesOpened, OpenSince, names_behind, none_opens_or_closes, opens_or_closes}
use Rattle.pr_hist.specs.Names.{Handles, Names, closed, handles_after, named, names_after, opened}
use Rattle.pr_hist.specs.News.{names_beyond}
use Rattle.pr_hist.specs.declared.names.Known.{Known}
use Rattle.pr_hist.proofs.BehindLemmas.{names_behind-append}
use Rattle.pr_hist.proofs.NamedLemmas.{named-other, named-own, named-rises}

-- ---- one act

pub opens-named : (names : Handles) (pid lwp : ℕ) (file : File) (mode : Mode) (h : ℕ)
    → NamesOpened names pid lwp file mode h
unfolding handles_after names_after opened
opens-named names pid lwp file mode h = record {
  its_own = named-own h (record { pid = pid; lwp = lwp; file = file; mode = mode }) names;
  others = λ other apart.
      named-other h other (record { pid = pid; lwp = lwp; file = file; mode = mode }) names apart;
}

pub closes-named : (names : Handles) (h : ℕ) → IsRising names → NamesClosed names h
unfolding handles_after names_after closed
closes-named names h rising = record {
  its_own = under-without_id 0 h names rising;
  others = λ other apart. under-without_id_other h other apart names;
}

keeps-call : (names : Handles) (c : Call) (r : Reply) → ((h : ℕ) → opens_or_closes (act.Call c r) h ≡ false)
    → names_after names c r ≡ names
unfolding opens_or_closes names_after opened closed
keeps-call names (call.Open pid lwp file mode) (reply.Handle g) none = absurd (eqb-false g g (none g) refl)
keeps-call names (call.Open pid lwp file mode) r none = refl
keeps-call names (call.Close g) reply.Done none = absurd (eqb-false g g (none g) refl)
keeps-call names (call.Close g) r none = refl
keeps-call names c r none = refl

-- an act that opens and closes nothing leaves all handles
pub keeps-all : (names : Handles) (a : Act) → ((h : ℕ) → opens_or_closes a h ≡ false) → handles_after names a ≡ names
unfolding handles_after
keeps-all names (act.Call c r) none = keeps-call names c r none
keeps-all names (act.Turn t) none = refl
keeps-all names (act.Tick n) none = refl

-- one that neither opens nor closes this one leaves it
keeps-other : (names : Handles) (a : Act) (h : ℕ) → opens_or_closes a h ≡ false
    → under h (handles_after names a) ≡ under h names
unfolding opens_or_closes handles_after names_after opened closed
keeps-other names (act.Call (call.Open pid lwp file mode) (reply.Handle g)) h other =
    (opens-named names pid lwp file mode g).others h (eqb-false g h other)
keeps-other names (act.Call (call.Close g) reply.Done) h other = under-without_id_other g h (eqb-false g h other) names
keeps-other names a h other = refl

keeps-rising : (names : Handles) (a : Act) → IsRising names → IsRising (handles_after names a)
unfolding handles_after names_after opened closed
keeps-rising names (act.Call (call.Open pid lwp file mode) (reply.Handle g)) rises =
    named-rises g (record { pid = pid; lwp = lwp; file = file; mode = mode }) names rises
keeps-rising names (act.Call (call.Close g) reply.Done) rises = rises_from-without_id 0 g names rises
keeps-rising names a rises = rises

-- behind an act that opened or closed a handle only an open has left it open, and that names it
opening-found : (names : Handles) (a : Act) (h : ℕ) (k : Known) → IsRising names → opens_or_closes a h ≡ true
    → under h (handles_after names a) ≡ Some k
    → a ≡ act.Call (call.Open k.pid k.lwp k.file k.mode) (reply.Handle h)
unfolding opens_or_closes handles_after names_after opened closed
opening-found names (act.Call (call.Open pid lwp file mode) (reply.Handle g)) h k rises is found =
    let new : Known = record { pid = pid; lwp = lwp; file = file; mode = mode } in
    let same : g ≡ h = eqb-true g h is in
    let known : new ≡ k =
    same_Some new k (sym (named-own g new names) ∙ ap (λ i. under i (named g new names)) same ∙ found) in
    ap (λ i. act.Call (call.Open pid lwp file mode) (reply.Handle i)) same
    ∙ ap (λ (w : Known). act.Call (call.Open w.pid w.lwp w.file w.mode) (reply.Handle h)) known
opening-found names (act.Call (call.Close g) reply.Done) h k rises is found =
    let same : g ≡ h = eqb-true g h is in
    absurd (none-some k (sym (under-without_id 0 g names rises) ∙ ap (λ i. under i (without_id g names)) same ∙ found))
opening-found names a h k rises is found = absurd (false≢true is)

-- ---- entries

kept-behind : (names : Names) (n : ℕ) (es : List Entry) (h : ℕ) → none_opens_or_closes h es ≡ true
    → under h (names_behind names n es).handles ≡ under h names.handles
unfolding names_behind names_beyond none_opens_or_closes
kept-behind names n [] h none = refl
kept-behind names n (e ∷ es) h none =
    kept-behind (names_beyond names n e) (n + 1) es h
    (and_parts (not (opens_or_closes e.act h)) (none_opens_or_closes h es) none).1
    ∙ keeps-other names.handles e.act h
    (not-true (opens_or_closes e.act h) (and_parts (not (opens_or_closes e.act h)) (none_opens_or_closes h es) none).0)

open-since : (names : Names) (n : ℕ) (es : List Entry) (h : ℕ) (k : Known) → OpenSince h k es
    → under h (names_behind names n es).handles ≡ Some k
unfolding names_behind names_beyond
open-since names n es h k since =
    let before : Names = names_behind names n since.before in
    let at : ℕ = n + length since.before in
    ap (λ fs. under h (names_behind names n fs).handles) since.are
    ∙ ap (λ (ns : Names). under h ns.handles)
    (names_behind-append names n since.before (since.opening ∷ since.behind))
    ∙ kept-behind (names_beyond before at since.opening) (at + 1) since.behind h since.left
    ∙ ap (λ a. under h (handles_after before.handles a)) since.is
    ∙ (opens-named before.handles k.pid k.lwp k.file k.mode h).its_own

later : (h : ℕ) (k : Known) (e : Entry) (es : List Entry) → OpenSince h k es → OpenSince h k (e ∷ es)
later h k e es since = record {
  before = e ∷ since.before;
  opening = since.opening;
  behind = since.behind;
  are = ap (λ fs. e ∷ fs) since.are;
  is = since.is;
  left = since.left;
}

-- what is open behind entries was opened in one of them, or before them
since-or : (names : Names) (n : ℕ) (es : List Entry) (h : ℕ) (k : Known) → IsRising names.handles
    → under h (names_behind names n es).handles ≡ Some k
    → OpenSince h k es ⊎ ((under h names.handles ≡ Some k) × (none_opens_or_closes h es ≡ true))
unfolding names_behind names_beyond none_opens_or_closes
since-or names n [] h k rises found = inr (found, refl)
since-or names n (e ∷ es) h k rises found =
    by_rest (since-or (names_beyond names n e) (n + 1) es h k (keeps-rising names.handles e.act rises) found)
  where
    by_entry : none_opens_or_closes h es ≡ true → under h (handles_after names.handles e.act) ≡ Some k
        → (b : Bool) → opens_or_closes e.act h ≡ b
        → OpenSince h k (e ∷ es)
        ⊎ ((under h names.handles ≡ Some k) × ((not (opens_or_closes e.act h) && none_opens_or_closes h es) ≡ true))
    by_entry left now true is = inl (record {
      before = [];
      opening = e;
      behind = es;
      are = refl;
      is = opening-found names.handles e.act h k rises is now;
      left = left;
    })
    by_entry left now false is =
        inr (
          sym (keeps-other names.handles e.act h is) ∙ now,
          and_from (not (opens_or_closes e.act h)) (none_opens_or_closes h es)
              (not_from_false (opens_or_closes e.act h) is) left,
        )

    by_rest : OpenSince h k es
        ⊎ ((under h (handles_after names.handles e.act) ≡ Some k) × (none_opens_or_closes h es ≡ true))
        → OpenSince h k (e ∷ es)
        ⊎ ((under h names.handles ≡ Some k) × ((not (opens_or_closes e.act h) && none_opens_or_closes h es) ≡ true))
    by_rest (inl since) = inl (later h k e es since)
    by_rest (inr stood) = by_entry stood.1 stood.0 (opens_or_closes e.act h) refl

pub open-exactly-since : (names : Names) (n : ℕ) (es : List Entry) (h : ℕ) (k : Known) → IsRising names.handles
    → under h names.handles ≡ None → (under h (names_behind names n es).handles ≡ Some k) ↔ OpenSince h k es
open-exactly-since names n es h k rises none =
    (λ found. by (since-or names n es h k rises found), open-since names n es h k)
  where
    by : OpenSince h k es ⊎ ((under h names.handles ≡ Some k) × (none_opens_or_closes h es ≡ true)) → OpenSince h k es
    by (inl since) = since
    by (inr stood) = absurd (none-some k (sym none ∙ stood.0))
