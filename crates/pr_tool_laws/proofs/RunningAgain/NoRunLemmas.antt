use Rattle.std.proofs.Common.{◌≡◌, ◌==◌, ◌⊎◌, ◌∷◌, ◌++◌, ℕ, Bool, true, false, List, [], Some, refl, sym, subst, ap, ◌∙◌, inl, inr}
use Rattle.std.proofs.lemmas.Bool.{false≢true}
use Rattle.std.proofs.lemmas.List.Elements.{All-head, All-tail}
use Rattle.std.proofs.lemmas.Option.{same_Some}
use Rattle.std.specs.List.{All}
use Rattle.pr_api.specs.Entries.{call_entry}
use Rattle.pr_model.specs.Legal.{state_after}
use Rattle.pr_model.specs.State.{TracedState}
use Rattle.pr_model.specs.declared.calls.Call.{Call}
use Rattle.pr_model.specs.declared.calls.Call.TheVariants as call
use Rattle.pr_model.specs.declared.calls.Reply.{Reply}
use Rattle.pr_model.specs.declared.events.Entry.{Entry}
use Rattle.pr_num.specs.Messages.{message_code, spelling}
use Rattle.pr_num.specs.Words.{word_bytes}
use Rattle.pr_num.specs.declared.messages.Message.TheVariants as message
use Rattle.pr_tool_laws.proofs.RunningAgain.LeavingLemmas.{entry-call}
use Rattle.pr_tool_laws.specs.Leaving.{ClosesAtMost, RunsNobody, SendsTo}
use Rattle.pr_tool_laws.specs.Stacks.{OpensAtMost}

-- Calls that send a process no PCRUN, and histories in which a controller has sent it none.

-- ---- a call

-- a call that is a control message
abbrev pub is_message : Call → Bool
is_message (call.Ctl handle bytes) = true
is_message _ = false

-- with which byte bytes begin
abbrev pub first_byte : List ℕ → ℕ
first_byte [] = 0
first_byte (b ∷ bytes) = b

run-first : (flags : ℕ) (tail : List ℕ) → first_byte (spelling (message.Run flags) tail) ≡ 5
unfolding message_code word_bytes
run-first flags tail = refl

module _ (k pid : ℕ) (s : TracedState) (c : Call) where
  -- the call does not run the process
  abbrev pub IsNoRun : Type 0
  IsNoRun = (flags : ℕ) (tail : List ℕ) → SendsTo k pid (message.Run flags) tail s c → ⊥

  -- it is no message, or another one
  pub no-message : (d : Call) → Some d ≡ Some c → is_message d ≡ false → IsNoRun
  no-message d same none flags tail it =
      false≢true (sym none ∙ ap is_message (same_Some d c same ∙ it.sends))

  pub another : (to : ℕ) (bytes : List ℕ) → Some (call.Ctl to bytes) ≡ Some c → (first_byte bytes == 5) ≡ false
      → IsNoRun
  another to bytes same apart flags tail it =
      let calls : call.Ctl to bytes ≡ call.Ctl it.handle (spelling (message.Run flags) tail) =
      same_Some (call.Ctl to bytes) c same ∙ it.sends in
      let its : bytes ≡ spelling (message.Run flags) tail = cc in
      false≢true (sym apart ∙ ap (λ (bs : List ℕ). first_byte bs == 5) its
      ∙ ap (λ (n : ℕ). n == 5) (run-first flags tail))

-- ---- an entry later

-- an entry of a list that is one longer is the last, or one of the list
last-or-before : (h front : List Entry) (e d : Entry) (back : List Entry) → h ++ e ∷ [] ≡ front ++ d ∷ back
    → ((h ≡ front) × (e ≡ d)) ⊎ ((rest : List Entry) × (h ≡ front ++ d ∷ rest))
last-or-before [] [] e d back is = inl (refl, cc)
last-or-before [] (f ∷ []) e d back is = absurd cc
last-or-before [] (f ∷ g ∷ front) e d back is = absurd cc
last-or-before (x ∷ h) [] e d back is =
    let here : x ≡ d = cc in inr (h, ap (λ (y : Entry). y ∷ h) here)
last-or-before (x ∷ h) (f ∷ front) e d back is =
    let here : x ≡ f = cc in
    let rest : h ++ e ∷ [] ≡ front ++ d ∷ back = cc in
    by here (last-or-before h front e d back rest)
  where
    by : x ≡ f → ((h ≡ front) × (e ≡ d)) ⊎ ((rest : List Entry) × (h ≡ front ++ d ∷ rest))
        → ((x ∷ h ≡ f ∷ front) × (e ≡ d)) ⊎ ((rest : List Entry) × (x ∷ h ≡ f ∷ (front ++ d ∷ rest)))
    by here (inl both) =
        inl (ap (λ (y : Entry). y ∷ h) here ∙ ap (λ (es : List Entry). f ∷ es) both.0, both.1)
    by here (inr more) =
        inr (more.0, ap (λ (y : Entry). y ∷ h) here ∙ ap (λ (es : List Entry). f ∷ es) more.1)

module _ (k pid : ℕ) (first : TracedState) where
  -- an entry does not run the process, if it is a call of the controller
  abbrev pub IsNoRunEntry : List Entry → Entry → Type 0
  IsNoRunEntry h e = (c : Call) (r : Reply) → e ≡ call_entry k c r → IsNoRun k pid (state_after first h) c

  -- such are its calls that do not,
  pub call-none : (h : List Entry) (c : Call) (r : Reply) → IsNoRun k pid (state_after first h) c
      → IsNoRunEntry h (call_entry k c r)
  call-none h c r none d v is =
      subst (IsNoRun k pid (state_after first h)) (entry-call k c d r v is) none

  -- and its closes
  pub close-none : (h : List Entry) (e : Entry) → ClosesAtMost k e → IsNoRunEntry h e
  close-none h e closes c r is =
      let it = closes c r is in
      no-message k pid (state_after first h) c (call.Close it.handle) (ap (λ (d : Call). Some d) (sym it.is)) refl

  -- another such entry
  pub runs-nobody-on : (h : List Entry) (e : Entry) → IsNoRunEntry h e → RunsNobody k pid first h
      → RunsNobody k pid first (h ++ e ∷ [])
  runs-nobody-on h e none so = record {
    each = λ front back c r flags tail place it.
        elim (last-or-before h front e (call_entry k c r) back place) [
          | inl last ↦
              none c r last.1 flags tail
              (subst (λ (es : List Entry). SendsTo k pid (message.Run flags) tail (state_after first es) c)
              (sym last.0) it)
          | inr before ↦ so.each front before.0 c r flags tail before.1 it
        ];
  }

  pub nobody-yet : RunsNobody k pid first []
  nobody-yet = record { each = λ front back c r flags tail place it. none-there (call_entry k c r) back front place }
    where
      none-there : (d : Entry) (back front : List Entry) → [] ≡ front ++ d ∷ back → ⊥
      none-there d back [] place = cc
      none-there d back (f ∷ front) place = cc

  -- who has only opened has run nobody
  pub opens-nobody : (h : List Entry) → All (OpensAtMost k) h → RunsNobody k pid first h
  opens-nobody h opens = record {
    each = λ front back c r flags tail place it.
        let its =
        at front (call_entry k c r) back (subst (λ (es : List Entry). All (OpensAtMost k) es) place opens) c r refl in
        no-message k pid (state_after first front) c (call.Open its.pid its.lwp its.name its.way)
        (ap (λ (d : Call). Some d) (sym its.is)) refl flags tail it;
  }
    where
      at : (front : List Entry) (e : Entry) (back : List Entry) → All (OpensAtMost k) (front ++ e ∷ back)
          → OpensAtMost k e
      at [] e back so = All-head (OpensAtMost k) e back so
      at (f ∷ front) e back so = at front e back (All-tail (OpensAtMost k) f (front ++ e ∷ back) so)
