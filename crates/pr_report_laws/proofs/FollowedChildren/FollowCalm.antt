use Rattle.std.proofs.Common.{◌≡◌, ◌≢◌, ◌++◌, ℕ, zero, suc, false, Option, Some, None, List, [], ◌∷◌, length, take, refl, sym, ap, ◌∙◌, append_assoc}
use Rattle.std.specs.List.{cons_option}
use Rattle.pr_model.specs.Legal.{IsLegal, after}
use Rattle.pr_model.specs.Replies.{handle_in}
use Rattle.pr_model.specs.State.{TracedState}
use Rattle.pr_model.specs.declared.calls.Call.{Call}
use Rattle.pr_model.specs.declared.calls.Reply.TheVariants as reply
use Rattle.pr_model.specs.declared.events.Entry.{Entry}
use Rattle.pr_num.specs.declared.errnos.Errno.TheVariants.{Intr}
use Rattle.pr_truss.specs.NextCalls.{open_control}
use Rattle.pr_truss.specs.Replies.{answer_of}
use Rattle.pr_truss.specs.declared.replies.Answer.TheVariants.{Interrupted}
use Rattle.pr_truss.specs.declared.reports.Report.{Report}
use Rattle.pr_truss_laws.specs.Exchanges.{Exchange, calls_in, exchange_of, exchanges}
use Rattle.pr_truss_laws.specs.Given.{reply_at}
use Rattle.pr_report_laws.proofs.Files.KeepLemmas.{can_wait}
use Rattle.pr_report_laws.proofs.Files.WatchHistories.{answered-calm, cons-exchanges, exchange-answered, no-exchanges}
use Rattle.pr_report_laws.specs.Follows.{IsLeftChild, following_calls}
use Rattle.pr_report_laws.specs.Freed.{IsInterruptedFreeing}
use Rattle.pr_report_laws.specs.Attachments.{child_calls}

-- In a legal history no call of the opening of a child is interrupted, nor is the open of one that is set free: none of
-- them waits.

pub head-same : {X : Type 0} {x y : X} {xs ys : List X} → x ∷ xs ≡ y ∷ ys → x ≡ y
head-same is = cc

pub tail-same : {X : Type 0} {x y : X} {xs ys : List X} → x ∷ xs ≡ y ∷ ys → xs ≡ ys
tail-same is = cc

no-split : {X : Type 0} (pre post : List X) (y : X) → [] ≡ pre ++ y ∷ post → ⊥
no-split [] post y is = cc
no-split (p ∷ pre) post y is = cc

-- an exchange of a call that does not wait
pub calm-exchanges : (h : List Entry) (n k : ℕ) (s : TracedState) (pre post : List Exchange) (y : Exchange)
    → IsLegal n s h → exchanges k h ≡ pre ++ y ∷ post → can_wait y.call ≡ false → answer_of y.reply ≢ Interrupted
calm-exchanges [] n k s pre post y legal is waits = absurd (no-split pre post y (sym (no-exchanges k) ∙ is))
calm-exchanges (e ∷ h) n k s pre post y legal is waits =
    by (exchange_of k e) refl pre (sym (cons-exchanges k e h)
    ∙ is) (λ p rest. calm-exchanges h n k (after s e) p post y legal.1 rest waits)
  where
    by : (z : Option Exchange) → exchange_of k e ≡ z → (p : List Exchange)
        → cons_option z (exchanges k h) ≡ p ++ y ∷ post
        → ((q : List Exchange) → exchanges k h ≡ q ++ y ∷ post → answer_of y.reply ≢ Interrupted)
        → answer_of y.reply ≢ Interrupted
    by None at p same later = later p same
    by (Some z) at [] same later =
        answered-calm k s y (exchange-answered n k s e y legal.0 (at ∙ ap Some (head-same same))) waits
    by (Some z) at (q ∷ p) same later = later p (tail-same same)

abbrev pub NoneWaits : List Call → Type 0
NoneWaits [] = Unit {0}
NoneWaits (c ∷ cs) = (can_wait c ≡ false) × NoneWaits cs

last-calm : (xs : List Exchange) (y : Exchange) (cs : List Call) (n : ℕ) → NoneWaits cs
    → calls_in (xs ++ y ∷ []) ≡ take n cs → can_wait y.call ≡ false
last-calm [] y [] zero none is = cc
last-calm [] y [] (suc n) none is = cc
last-calm [] y (c ∷ cs) zero none is = cc
last-calm [] y (c ∷ cs) (suc n) none is = ap can_wait (head-same is) ∙ none.0
last-calm (x ∷ xs) y [] zero none is = cc
last-calm (x ∷ xs) y [] (suc n) none is = cc
last-calm (x ∷ xs) y (c ∷ cs) zero none is = cc
last-calm (x ∷ xs) y (c ∷ cs) (suc n) none is = last-calm xs y cs n none.1 (tail-same is)

child-calm : (pid control : ℕ) → NoneWaits (child_calls pid control)
child-calm pid control = (refl, (refl, (refl, (refl, (refl, (refl, tt))))))

pub never-left : (n k of : ℕ) (s : TracedState) (h : List Entry) (before later : List Exchange) → IsLegal n s h
    → exchanges k h ≡ before ++ later → IsLeftChild of later → ⊥
unfolding answer_of
never-left n k of s h before later legal is d =
    let b = d.interrupted in
    let y : Exchange = record { call = b.call; reply = reply.Fail Intr } in
    let split : exchanges k h ≡ (before ++ b.before) ++ y ∷ d.later =
    is ∙ ap (λ ys. before ++ ys) (d.is ∙ ap (λ ys. ys ++ d.later) b.last ∙ append_assoc b.before (y ∷ []) d.later)
    ∙ sym (append_assoc before b.before (y ∷ d.later)) in
    calm-exchanges h n k s (before ++ b.before) d.later y legal split
    (last-calm b.before y (following_calls of d.opening) (length d.opening)
    (child-calm of (handle_in (reply_at d.opening 0))) (ap calls_in (sym b.last) ∙ b.calls)) refl

-- nor is the open of a child that is set free
pub never-kept : (n k of : ℕ) (s : TracedState) (h : List Entry) (before later : List Exchange) (handles : List ℕ)
    (base reports : List Report) (next : Option Call) → IsLegal n s h → exchanges k h ≡ before ++ later
    → IsInterruptedFreeing of handles base reports next later → ⊥
unfolding answer_of
never-kept n k of s h before later handles base reports next legal is d =
    calm-exchanges h n k s before d.later (record { call = open_control of; reply = reply.Fail Intr }) legal (is
    ∙ ap (λ ys. before ++ ys) d.is) refl refl
