use Rattle.std.proofs.Common.{◌≡◌, ◌==◌, ◌<◌, ◌≤◌, ◌+◌, ◌⊎◌, ◌++◌, ℕ, zero, suc, Bool, true, false, cond, Option, Some, None, List, [], ◌∷◌, length, refl, sym, subst, ap, ◌∙◌, arith, inl, inr}
use Rattle.std.proofs.lemmas.Bool.{cases_Bool, eq-eqb, eqb-true}
use Rattle.std.proofs.lemmas.List.{length-set}
use Rattle.std.proofs.lemmas.List.Sums.{sum_by-append}
use Rattle.std.proofs.lemmas.Option.{none-some, same_Some}
use Rattle.std.specs.List.{cons_option, slice_get, sum_by}
use Rattle.pr_line.specs.declared.options.Options.{Options}
use Rattle.pr_model.specs.Handles.{handle_of}
use Rattle.pr_model.specs.Lawful.{IsLawful}
use Rattle.pr_model.specs.Legal.{state_after}
use Rattle.pr_model.specs.State.{TracedState}
use Rattle.pr_model.specs.declared.calls.Call.{Call}
use Rattle.pr_model.specs.declared.calls.Call.TheVariants as call
use Rattle.pr_model.specs.declared.calls.File.{File}
use Rattle.pr_model.specs.declared.calls.File.TheVariants as file
use Rattle.pr_model.specs.declared.calls.Mode.TheVariants.{Read, WriteExcl}
use Rattle.pr_model.specs.declared.events.Entry.{Entry}
use Rattle.pr_model.specs.declared.handles.Held.{Held}
use Rattle.pr_truss.specs.Closings.{closed_or_removed}
use Rattle.pr_truss.specs.Feeding.{fed}
use Rattle.pr_truss.specs.NextCalls.{call_of, freeing_call, next_call_of}
use Rattle.pr_truss.specs.Processes.{last_handle, without_last}
use Rattle.pr_truss.specs.Trusses.{TrussState, traced_at, with_stage, with_traced}
use Rattle.pr_truss.specs.declared.processes.Traced.{Traced}
use Rattle.pr_truss.specs.declared.stages.AfterClosing.{AfterClosing}
use Rattle.pr_truss.specs.declared.stages.FreeingStep.{FreeingStep}
use Rattle.pr_truss.specs.declared.stages.FreeingStep.TheVariants as freeing
use Rattle.pr_truss.specs.declared.stages.Stage.TheVariants.{Closing, FreeingChild}
use Rattle.pr_truss_laws.proofs.Files.HeldLemmas.{ClosesFirst, at_place, close-fed, closes-first, closes-next, handles_in, held, is_this, of_stage, of_traced, set-at, unit}
use Rattle.pr_truss_laws.proofs.Files.OwnLemmas.{Owns, owned}
use Rattle.pr_truss_laws.proofs.Replies.GoneLemmas.{WhenGone, ended, frees, gone-closes, shuts}
use Rattle.pr_truss_laws.specs.Business.{IsAmong, goes_to}
use Rattle.pr_truss_laws.specs.Exchanges.{Exchange, Makes, exchanges, truss_at}
use Rattle.pr_truss_laws.specs.Handles.{handles_of}
use Rattle.pr_truss_laws.specs.Runs.{IsTrussRun}
use Rattle.pr_report_laws.proofs.Files.FileLaws.{FileOf, HasFiles, free-apart, has-each}
use Rattle.pr_report_laws.proofs.Files.FileSteps.{MakesNext, makes-next}
use Rattle.pr_report_laws.proofs.Files.FileUses as uses
use Rattle.pr_report_laws.proofs.Files.FileUses.{file-owner, freed_control}
use Rattle.pr_report_laws.proofs.Files.KeepLemmas.{FilesAre}
use Rattle.pr_report_laws.proofs.Files.WatchHistories.{Reaches, run-reaches}
use Rattle.pr_report_laws.proofs.ToldForks.ToldReads.{file-has}
use Rattle.pr_report_laws.proofs.Watching.HistoryParts.{front-run, rest-makes}
use Rattle.pr_report_laws.specs.Attachments.{HasFile}
use Rattle.pr_report_laws.specs.OwnFiles.{AreAllOf, CloseAllOf, CloseFirst, ClosesAllThatEnded}
use Rattle.pr_report_laws.specs.Watching.{place_of, with_exchange}

-- Where truss is told that a process has ended it closes all files of it that it has open.

-- ---- the handles of a process

among-more : (o : Option ℕ) (h : ℕ) (hs : List ℕ) → IsAmong h hs → IsAmong h (cons_option o hs)
among-more None h hs a = a
among-more (Some x) h hs a = record { place = suc a.place; is = a.is }

among-this : (o : Option ℕ) (h : ℕ) (hs : List ℕ) → o ≡ Some h → IsAmong h (cons_option o hs)
among-this None h hs is = absurd (none-some h is)
among-this (Some x) h hs is = record { place = 0; is = is }

among-either : (o : Option ℕ) (h : ℕ) (hs : List ℕ) → IsAmong h (cons_option o hs) → (o ≡ Some h) ⊎ IsAmong h hs
among-either None h hs a = inr a
among-either (Some x) h hs a = by a.place a.is
  where
    by : (place : ℕ) → slice_get (x ∷ hs) place ≡ Some h → (Some x ≡ Some h) ⊎ IsAmong h hs
    by zero is = inl is
    by (suc i) is = inr (record { place = i; is = is })

pub among-one : (h x : ℕ) → IsAmong h (x ∷ []) → x ≡ h
among-one h x a = by a.place a.is
  where
    by : (place : ℕ) → slice_get (x ∷ []) place ≡ Some h → x ≡ h
    by zero is = same_Some x h is
    by (suc i) is = absurd (none-some h is)

this-one : (h : ℕ) (o : Option ℕ) → (o ≡ Some h) ⊎ (unit (is_this h o) ≡ 0)
this-one h None = inr refl
this-one h (Some x) =
    elim (cases_Bool (x == h)) [ inl same ↦ inl (ap Some (eqb-true x h same)) | inr other ↦ inr (ap unit other) ]

-- a handle that a process holds is among its handles
holds-among : (h : ℕ) (t : Traced) → 1 ≤ handles_in h t → IsAmong h (handles_of t)
unfolding handles_in
holds-among h t some = elim (this-one h t.memory) [
  | inl memory ↦ among-this t.memory h _ memory
  | inr no_memory ↦ among-more t.memory h _ (elim (this-one h t.lstatus) [
    | inl lstatus ↦ among-this t.lstatus h _ lstatus
    | inr no_lstatus ↦ among-more t.lstatus h _ (elim (this-one h t.status) [
      | inl status ↦ among-this t.status h _ status
      | inr no_status ↦ among-more t.status h _ (elim (cases_Bool (t.control == h)) [
        | inl control ↦ record { place = 0; is = ap Some (eqb-true t.control h control) }
        | inr no_control ↦ absurd (omega (arith, some, no_memory, no_lstatus, no_status, ap unit no_control))
      ])
    ])
  ])
]

-- each of its handles is of a file of it
handles-files : (k : ℕ) (s : TracedState) (t : Traced) → FilesAre (FileOf k s) t → (h : ℕ) → IsAmong h (handles_of t)
    → (f : File) × HasFile k t.pid f h s
handles-files k s t files h among = elim (among-either t.memory h _ among) [
  | inl memory ↦ (file.Mem, file-has k t.pid file.Mem Read h s (files.memory h memory))
  | inr others ↦ elim (among-either t.lstatus h _ others) [
    | inl lstatus ↦ (file.Lstatus, file-has k t.pid file.Lstatus Read h s (files.lstatus h lstatus))
    | inr rest ↦ elim (among-either t.status h _ rest) [
      | inl status ↦ (file.Status, file-has k t.pid file.Status Read h s (files.status h status))
      | inr last ↦ (
        file.Ctl,
        subst (λ m. HasFile k t.pid file.Ctl m s) (among-one h t.control last)
            (file-has k t.pid file.Ctl WriteExcl t.control s files.control),
      )
    ]
  ]
]

-- ---- which process holds a handle

some-at : (f : Traced → ℕ) (ts : List Traced) → 1 ≤ sum_by f ts
    → (q : ℕ) × ((q < length ts) × (1 ≤ f (at_place ts q)))
some-at f [] some = absurd (omega arith)
some-at f (t ∷ ts) some = elim (cases_le (f t)) [
  | inl here ↦ (0, (omega arith, here))
  | inr none ↦
      let parts : sum_by f (t ∷ ts) ≡ f t + sum_by f ts = omega (arith, sum_by-append f (t ∷ []) ts) in
      let rest = some-at f ts (omega (arith, some, parts, none)) in
      (suc rest.0, (omega (arith, rest.1.0), rest.1.1))
]
  where
    cases_le : (n : ℕ) → (1 ≤ n) ⊎ (n ≡ 0)
    cases_le zero = inr refl
    cases_le (suc n) = inl (omega arith)

holds-of : (pid h : ℕ) (t : Traced) → 1 ≤ of_traced pid h t → (t.pid ≡ pid) × (1 ≤ handles_in h t)
unfolding of_traced
holds-of pid h t some = by (t.pid == pid) refl some
  where
    by : (b : Bool) → (t.pid == pid) ≡ b → 1 ≤ cond b (handles_in h t) 0 → (t.pid ≡ pid) × (1 ≤ handles_in h t)
    by true same one = (eqb-true t.pid pid same, one)
    by false other one = absurd (omega arith)

-- ---- closing

closed-first : (s : TrussState) (place : ℕ) (next : AfterClosing) (t : Traced) (x : Exchange) (xs : List Exchange)
    → s.stage ≡ Closing place next → place < length s.traced → x.call ≡ call.Close (last_handle t)
    → ((u : TrussState) → u.stage ≡ Closing place next → place < length u.traced → Makes u xs
    → CloseFirst xs (handles_of (traced_at u place)))
    → (left : Option Traced) → ClosesFirst t left → Makes (closed_or_removed s place next left) xs
    → CloseFirst (x ∷ xs) (handles_of t)
closed-first s place next t x xs at within closes later None first makes =
    subst (CloseFirst (x ∷ xs)) (sym first) (closes, nothing xs)
  where
    nothing : (ys : List Exchange) → CloseFirst ys []
    nothing [] = tt
    nothing (y ∷ ys) = tt
closed-first s place next t x xs at within closes later (Some u) first makes =
    let it =
    later (with_traced s place u) at (omega (arith, length-set s.traced place u, within)) makes in
    subst (CloseFirst (x ∷ xs)) (sym first)
    (closes, subst (λ (v : Traced). CloseFirst xs (handles_of v)) (set-at s.traced place u within) it)

pub closes-all : (xs : List Exchange) (s : TrussState) (place : ℕ) (next : AfterClosing) → s.stage ≡ Closing place next
    → place < length s.traced → Makes s xs → CloseFirst xs (handles_of (traced_at s place))
closes-all [] s place next at within makes = tt
closes-all (x ∷ xs) s place next at within makes =
    let t : Traced = traced_at s place in
    closed-first s place next t x xs at within
    (same_Some x.call (call.Close (last_handle t)) (sym makes.0 ∙ closes-next s t place next at refl))
    (λ u. closes-all xs u place next) (without_last t) (closes-first t)
    (subst (λ u. Makes u xs) (close-fed s x.reply place next at) makes.1)

-- ---- all files of a process

module _ (k : ℕ) (t : TrussState) (s : TracedState) (g : Reaches k t s) (pid : ℕ) where
  -- a handle of the process is held at a place of it, or by a child that is set free
  found : (h : ℕ) (x : Held) → handle_of s.opens k h ≡ Some x → x.pid ≡ pid
      → 1 ≤ sum_by (of_traced pid h) t.traced + of_stage pid h t.stage
  unfolding held
  found h x at its =
      let owns : Owns k t s = g.owns in
      omega (arith, owns.counts pid h, ap (owned pid) at, ap unit (eq-eqb x.pid pid its))

  -- those of a place are all that truss has of its process
  pub all-of : (place : ℕ) → place < length t.traced → (traced_at t place).pid ≡ pid
      → ((h : ℕ) → of_stage pid h t.stage ≡ 0) → AreAllOf k pid s (handles_of (traced_at t place))
  all-of place within its alone =
      let files : HasFiles k t s = g.files in
      record {
        all = λ h x at same.
            let q = some-at (of_traced pid h) t.traced (omega (arith, found h x at same, alone h)) in
            let own = holds-of pid h (at_place t.traced q.0) q.1.1 in
            let is : q.0 ≡ place =
            same_Some q.0 place
            (sym (files.one q.0 q.1.0) ∙ ap (place_of t) (own.0 ∙ sym its) ∙ files.one place within) in
            holds-among h (traced_at t place) (subst (λ n. 1 ≤ handles_in h (at_place t.traced n)) is own.1);
        only = λ h among.
            let it = handles-files k s (traced_at t place) (has-each k t s files place within) h among in
            (it.0, subst (λ n. HasFile k n it.0 h s) its it.1);
      }

  stage-none : (control h : ℕ) (now : FreeingStep) → freed_control now ≡ Some control → (control == h) ≡ false
      → of_stage pid h (FreeingChild pid now) ≡ 0
  stage-none control h freeing.OpenControl its other = refl
  stage-none control h (freeing.SetRelease m) its other =
      rw (eq-eqb pid pid refl, subst (λ n. (n == h) ≡ false) (sym (same_Some m control its)) other) refl
  stage-none control h (freeing.Close m) its other =
      rw (eq-eqb pid pid refl, subst (λ n. (n == h) ≡ false) (sym (same_Some m control its)) other) refl

  -- a child that is set free has its control file alone
  pub freed-all : (control : ℕ) (now : FreeingStep) → t.stage ≡ FreeingChild pid now
      → freed_control now ≡ Some control → AreAllOf k pid s (control ∷ [])
  freed-all control now at its =
      let files : HasFiles k t s = g.files in
      let owns : Owns k t s = g.owns in
      let lawful : IsLawful s = g.lawful in
      let f = uses.freed-file k t s files pid control now at its in
      let once : of_stage pid control t.stage ≡ 1 =
      ap (of_stage pid control) at ∙ uses.freed-once k t s files pid control now its in
      let apart = free-apart k t s owns lawful.exclusive (has-each k t s files) pid control once f in
      record {
        all = λ h x held own. by h (found h x held own) (λ q within. apart q within);
        only = λ h among. (
          file.Ctl,
          subst (λ n. HasFile k pid file.Ctl n s) (among-one h control among)
              (file-has k pid file.Ctl WriteExcl control s f),
        );
      }
    where
      by : (h : ℕ) → 1 ≤ sum_by (of_traced pid h) t.traced + of_stage pid h t.stage
          → ((q : ℕ) → q < length t.traced → (traced_at t q).pid ≡ pid → ⊥) → IsAmong h (control ∷ [])
      by h some apart = elim (cases_Bool (control == h)) [
        | inl this ↦ record { place = 0; is = ap Some (eqb-true control h this) }
        | inr other ↦
            let none : of_stage pid h t.stage ≡ 0 = ap (of_stage pid h) at ∙ stage-none control h now its other in
            let q = some-at (of_traced pid h) t.traced (omega (arith, some, none)) in
            let own = holds-of pid h (at_place t.traced q.0) q.1.1 in
            absurd (apart q.0 q.1.0 own.0)
      ]

-- ---- the reply

module _ (k : ℕ) (t : TrussState) (s : TracedState) (g : Reaches k t s) (pid handle : ℕ) (mine : Held)
    (there : handle_of s.opens k handle ≡ Some mine) (of : mine.pid ≡ pid) (xs : List Exchange)
    (makes : Makes (fed t ended) xs) where
  files : HasFiles k t s
  files = g.files

  owns : Owns k t s
  owns = g.owns

  freed-closes : (u : TrussState) (ys : List Exchange) → next_call_of u ≡ Some (call.Close handle) → Makes u ys
      → CloseFirst ys (handle ∷ [])
  freed-closes u [] next made = tt
  freed-closes u (y ∷ ys) next made = (same_Some y.call (call.Close handle) (sym made.0 ∙ next), nothing ys)
    where
      nothing : (zs : List Exchange) → CloseFirst zs []
      nothing [] = tt
      nothing (z ∷ zs) = tt

  pub next-closes : (c : Call) → next_call_of t ≡ Some c → goes_to c ≡ Some handle → CloseAllOf k pid s xs
  unfolding next_call_of call_of freeing_call
  next-closes c is to = by (gone-closes t handle c owns.fits is to)
    where
      by : WhenGone t handle → CloseAllOf k pid s xs
      by (shuts place next within named alone at same) = (
        handles_of (traced_at t place),
        (
          all-of k t s g pid place within
              (file-owner k s pid _ handle mine there of
              (uses.named-file k t s files owns.fits handle place within named)) (λ h. alone pid h),
          subst (λ ts. CloseFirst xs (handles_of (at_place ts place))) same
              (closes-all xs (fed t ended) place next at (subst (λ ts. place < length ts) (sym same) within) makes),
        ),
      )
      by (frees child at is) =
          let freed = uses.freed-file k t s files child handle (freeing.SetRelease handle) at refl in
          let own : child ≡ pid =
          file-owner k s pid child handle mine there of (record { file = file.Ctl; mode = WriteExcl; is = freed }) in (
            handle ∷ [],
            (
              freed-all k t s g pid handle (freeing.SetRelease handle)
                  (at ∙ ap (λ n. FreeingChild n (freeing.SetRelease handle)) own) refl,
              freed-closes (with_stage t (FreeingChild child (freeing.Close handle))) xs refl
                  (subst (λ v. Makes v xs) is makes),
            ),
          )

pub closes-ended : (n k : ℕ) (o : Options) (first : TracedState) (h : List Entry) → IsTrussRun n k o first h
    → ClosesAllThatEnded k first h
closes-ended n k o first h run = record {
  each = λ before later e pid is w.
      let all : IsTrussRun n k o first (before ++ e ∷ later) = subst (IsTrussRun n k o first) is run in
      let t : TrussState = truss_at k o before in
      let m = makes-next k t e later (rest-makes n k o first before (e ∷ later) all) in
      let next : next_call_of t ≡ Some w.call = subst (MakesNext t) w.is m.0 in
      let rest : Makes (fed t ended) (exchanges k later) =
      subst (λ x. Makes (with_exchange t x) (exchanges k later)) w.is m.1 in
      next-closes k t (state_after first before)
      (run-reaches n k o first before (front-run n k o first before (e ∷ later) all)) pid w.handle w.held w.there w.of
      (exchanges k later) rest w.call next w.goes;
}

pub ruleset ended_files = (closes-ended)
