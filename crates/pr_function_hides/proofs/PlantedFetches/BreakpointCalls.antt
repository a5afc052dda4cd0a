use Rattle.std.proofs.Common.{◌≡◌, ◌≢◌, ◌⊎◌, ◌==◌, ◌<◌, ◌^◌, ℕ, Bool, true, false, cond, Some, None, Result, Ok, IfOk, List, All, length, refl, sym, subst, ap, ◌∙◌, arith, inl, inr}
use Rattle.std.proofs.lemmas.Bool.{cases_eq, eqb-true, false≢true}
use Rattle.std.proofs.lemmas.Option.{none-some, same_Some}
use Rattle.pr_function_hides.proofs.PlantedFetches.BreakpointBytes.{Keeps, written-other, written-same}
use Rattle.pr_function_hides.proofs.Files.CallFacts.{shape-of}
use Rattle.pr_function_hides.proofs.Tidy.OwnTidy.{Quiet}
use Rattle.pr_function_hides.proofs.Tidy.OwnWrites.{breakpoint-size, write-read, write-tail}
use Rattle.pr_function_hides.proofs.Memory.SpaceEdits.{entry-relates}
use Rattle.pr_function_hides.proofs.Tidy.StillMessages.{BeginStill, is_still}
use Rattle.pr_function_hides.proofs.CodeThere.TurnCode.{HoldsCode, holds-same}
use Rattle.pr_function_hides.proofs.CodeThere.WrittenCode as Written
use Rattle.pr_function_hides.proofs.CodeThere.WrittenCode.{Writes, refuses, stores}
use Rattle.pr_function_hides.specs.FunctionHiders.{IsPatchable}
use Rattle.pr_function_hides.specs.PlantedBreakpoints.{breakpoint_of}
use Rattle.pr_function_laws.specs.Lifted.{HasControl}
use Rattle.pr_hidden.specs.Covers.{Patch}
use Rattle.pr_line.specs.declared.functions.Function.{Function}
use Rattle.pr_model.specs.Calls.{Answer, answer_to}
use Rattle.pr_model.specs.Changes.{with_space}
use Rattle.pr_model.specs.ControlMessages.{tail_of}
use Rattle.pr_model.specs.Handles.{handle_of}
use Rattle.pr_model.specs.Lawful.{IsLawful}
use Rattle.pr_model.specs.Legal.{IsLegalEntry, after}
use Rattle.pr_model.specs.State.{TracedProcess, TracedState, live_process}
use Rattle.pr_model.specs.declared.calls.Call.{Call}
use Rattle.pr_model.specs.declared.calls.Call.TheVariants as call
use Rattle.pr_model.specs.declared.calls.File.TheVariants as file
use Rattle.pr_model.specs.declared.calls.Mode.TheVariants.{WriteExcl}
use Rattle.pr_model.specs.declared.events.Act.{Act}
use Rattle.pr_model.specs.declared.events.Act.TheVariants as act
use Rattle.pr_model.specs.declared.events.Actor.{Actor}
use Rattle.pr_model.specs.declared.events.Actor.TheVariants.{Controller, Lwp, Clock}
use Rattle.pr_model.specs.declared.handles.Held.{Held}
use Rattle.pr_num.specs.Messages.{first_message, spelling}
use Rattle.pr_num.specs.Words.{IsByte}
use Rattle.pr_num.specs.declared.instructions.Instruction.TheVariants.{Bpt}
use Rattle.pr_num.specs.declared.messages.Message.{Message}
use Rattle.pr_num.specs.declared.messages.Message.TheVariants as message
use Rattle.pr_num.specs.declared.messages.MsgFault.{MsgFault}
use Rattle.pr_parts.specs.AddressSpaces.{with_bytes}
use Rattle.pr_reached.proofs.StatesInRange.MemoryRanges.{instruction-bytes}
use Rattle.pr_truss.specs.Marks.{breakpoint}
use Rattle.pr_truss.specs.Replies.{answer_of}
use Rattle.pr_truss.specs.Trusses.{TrussState}
use Rattle.pr_truss.specs.declared.replies.Answer.TheVariants.{Accepted}
use Rattle.pr_truss_laws.specs.Exchanges.{Exchange, exchange_in}

-- What a call of truss makes of the breakpoints that stand: it writes over a function only where it plants or lifts the
-- breakpoint of that one; and where it was granted that it plants one, that stands.

module _ (k : ℕ) (s : TracedState) (f : Function) (patchable : IsPatchable f) where
  abbrev bf : Patch
  bf = breakpoint_of f

  -- a call writes nothing over the breakpoint of the function in the process of an id
  abbrev pub SparesIt : ℕ → Call → Type 0
  SparesIt pid c =
      (handle : ℕ) (bytes : List ℕ) (held : Held) (at size len : ℕ) → c ≡ call.Ctl handle bytes
      → handle_of s.opens k handle ≡ Some held → held.pid ≡ pid
      → first_message bytes ≡ Ok (message.Write at size, len) → (x : TracedProcess) → x.borrower ≡ None
      → HoldsCode bf x → HoldsCode bf (with_space (with_bytes at (tail_of (message.Write at size) bytes) x.space) x)

  ctl-same : {a b : ℕ} {xs ys : List ℕ} → call.Ctl a xs ≡ call.Ctl b ys → (a ≡ b) × (xs ≡ ys)
  ctl-same same = (cc, cc)

  -- one that writes nothing at all
  pub quiet-spares : (t : TrussState) (pid : ℕ) (c : Call) → Quiet c t → SparesIt pid c
  quiet-spares t pid c (inl (q, (within, (sent, (same, still))))) handle bytes held at size len is there its read x own
      holds =
      absurd (false≢true
      (subst (λ (y : Result (Message × ℕ) MsgFault). IfOk y (λ first. is_still first.0 ≡ true)) read
      (subst BeginStill (ctl-same (sym same ∙ is)).1 still)))
  quiet-spares t pid c (inr never) handle bytes held at size len is there its read x own holds =
      absurd (never handle bytes is)

  -- one that writes over another function, or the bytes of a breakpoint, or to another process
  pub write-spares : (control own pid : ℕ) → HasControl k own control s → (g : Function) → IsPatchable g
      → (code : List ℕ) → length code ≡ 16 → All IsByte code → (own ≡ pid → g.at ≡ f.at → code ≡ breakpoint)
      → SparesIt pid (call.Ctl control (spelling (message.Write g.at 16) code))
  write-spares control own pid its g its_fit code long are_bytes only handle bytes held at size len is there own_pid
      read x lent holds = by (cases_eq g.at f.at)
    where
      its-pid : own ≡ held.pid
      its-pid =
          ap (λ (y : Held). y.pid)
          (same_Some _ held (sym its ∙ ap (handle_of s.opens k) (ctl-same is).0 ∙ there))

      low : g.at < 2 ^ 64
      low = let w = its_fit.within in omega (arith, w)

      sent : bytes ≡ spelling (message.Write g.at 16) code
      sent = sym (ctl-same is).1

      both : (let r : Result (Message × ℕ) MsgFault = Ok (message.Write at size, len) in r)
          ≡ Ok (message.Write g.at 16, length (spelling (message.Write g.at 16) code))
      both = sym read ∙ ap first_message sent ∙ write-read g.at code low long are_bytes

      ok-same : {x y : Message × ℕ} → (let r : Result (Message × ℕ) MsgFault = Ok x in r) ≡ Ok y → x ≡ y
      ok-same e = cc

      fields-same : {a b m n : ℕ} → message.Write a m ≡ message.Write b n → (a ≡ b) × (m ≡ n)
      fields-same e = (cc, cc)

      write-same : (at ≡ g.at) × (size ≡ 16)
      write-same = fields-same (ap (λ (y : Message × ℕ). y.0) (ok-same both))

      tail-is : tail_of (message.Write at size) bytes ≡ code
      tail-is =
          ap (λ a. tail_of (message.Write a size) bytes) write-same.0
          ∙ ap (λ m. tail_of (message.Write g.at m) bytes) write-same.1
          ∙ ap (tail_of (message.Write g.at 16)) sent ∙ write-tail g.at code low long are_bytes

      as-written : HoldsCode bf (with_space (with_bytes g.at code x.space) x)
          → HoldsCode bf (with_space (with_bytes at (tail_of (message.Write at size) bytes) x.space) x)
      as-written it =
          subst (λ xs. HoldsCode bf (with_space (with_bytes at xs x.space) x)) (sym tail-is)
          (subst (λ a. HoldsCode bf (with_space (with_bytes a code x.space) x)) (sym write-same.0) it)

      by : (g.at ≡ f.at) ⊎ (g.at ≢ f.at)
          → HoldsCode bf (with_space (with_bytes at (tail_of (message.Write at size) bytes) x.space) x)
      by (inr apart) = as-written (written-other f patchable g its_fit apart code long x holds)
      by (inl same) =
          as-written
          (subst (λ a. HoldsCode bf (with_space (with_bytes a code x.space) x)) (sym same)
          (written-same f patchable code (only (its-pid ∙ own_pid) same) x lent))

  -- ---- an entry by which truss makes such a call

  module _ (n : ℕ) (lawful : IsLawful s) (pid : ℕ) where
    abbrev keeps-same : (x y : TracedProcess) → y.borrower ≡ x.borrower → y.space ≡ x.space → Keeps bf x y
    keeps-same x y lent space = holds-same bf x y lent space

    abbrev keeps-next : (x y z : TracedProcess) → Keeps bf x y → Keeps bf y z → Keeps bf x z
    keeps-next x y z one two = λ it. two (one it)

    pub own-hold : (actor : Actor) (it : Act) (x : Exchange) → exchange_in k actor it ≡ Some x → SparesIt pid x.call
        → IsLegalEntry n s (record { actor = actor; act = it }) → (p q : TracedProcess)
        → live_process s.system pid ≡ Some p
        → live_process (after s (record { actor = actor; act = it })).system pid ≡ Some q → Keeps bf p q
    unfolding IsLegalEntry
    own-hold (Controller j) (act.Call c r) x mine spares legal p q live later held = by (j == k) refl mine
      where
        same-call : {a b : Exchange} → Some a ≡ Some b → a.call ≡ b.call
        same-call is = ap (λ (y : Exchange). y.call) (same_Some _ _ is)

        by : (b : Bool) → (j == k) ≡ b
            → cond b (Some (let y : Exchange = record { call = c; reply = r } in y)) None ≡ Some x → HoldsCode bf q
        by false other is = absurd (none-some x is)
        by true same is =
            let one : j ≡ k = eqb-true j k same in
            let called : c ≡ x.call = same-call is in
            entry-relates (Keeps bf) keeps-same keeps-next pid p q held.own n s (Controller j) (act.Call c r) lawful
            legal (λ id other. cc)
            (λ handle bytes h m len sent there controls its read at size writes y lent ok.
            subst (λ (z : Message). Keeps bf y (with_space (with_bytes at (tail_of z bytes) y.space) y)) (sym writes)
            (λ before.
            spares handle bytes h at size len (sym called ∙ sent)
            (ap (λ i. handle_of s.opens i handle) (sym one) ∙ there) its
            (read ∙ ap (λ (z : Message). let w : Result (Message × ℕ) MsgFault = Ok (z, len) in w) writes) y lent
            before)) live later held
    own-hold (Controller j) (act.Turn turned) x mine spares legal p q live later held = absurd legal
    own-hold (Controller j) (act.Tick moment) x mine spares legal p q live later held = absurd legal
    own-hold (Lwp acting id) it x mine spares legal p q live later held = absurd (none-some x mine)
    own-hold Clock it x mine spares legal p q live later held = absurd (none-some x mine)

  -- ---- it plants the breakpoint

  abbrev held-of : ℕ → Held
  held-of pid = record { controller = k; pid = pid; lwp = 0; file = file.Ctl; mode = WriteExcl }

  abbrev sent-bytes : List ℕ
  sent-bytes = spelling (message.Write f.at 16) breakpoint

  -- where that was granted it stands
  pub planted-holds : (control pid : ℕ) → HasControl k pid control s → (a : Answer)
      → answer_to s k (call.Ctl control (spelling (message.Write f.at 16) breakpoint)) ≡ Some a
      → answer_of a.reply ≡ Accepted → (p q : TracedProcess) → live_process s.system pid ≡ Some p
      → live_process a.state.system pid ≡ Some q → HoldsCode bf q
  planted-holds control pid its a given accepted p q live later =
      by (Written.writes s k control (held-of pid) its refl sent-bytes f.at 16 (length sent-bytes) read-so a given p
      live)
    where
      low : f.at < 2 ^ 64
      low = let w = patchable.within in omega (arith, w)

      read-so : first_message sent-bytes ≡ Ok (message.Write f.at 16, length sent-bytes)
      read-so = write-read f.at breakpoint low breakpoint-size (instruction-bytes Bpt)

      by : Writes s k control (held-of pid) its refl sent-bytes f.at 16 (length sent-bytes) read-so a given p live
          → HoldsCode bf q
      by (refuses never stays) =
          elim (shape-of s k control (held-of pid) its refl sent-bytes f.at 16 (length sent-bytes) read-so a given) [
            | inl used ↦ absurd (never used.0 used.1)
            | inr refused ↦ absurd (refused.0 accepted)
          ]
      by (stores used got lent there) =
          subst (HoldsCode bf) (same_Some _ q (sym there ∙ later))
          (subst (λ xs. HoldsCode bf (with_space (with_bytes f.at xs p.space) p))
          (sym (write-tail f.at breakpoint low breakpoint-size (instruction-bytes Bpt)))
          (written-same f patchable breakpoint refl p lent))
