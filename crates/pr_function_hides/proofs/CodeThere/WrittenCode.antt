use Rattle.std.proofs.Common.{◌≡◌, ◌≢◌, ◌⊎◌, ◌+◌, ◌&&◌, ◌==◌, ℕ, Bool, true, false, cond, is_ok, is_some, nat_le, Option, Some, None, Result, Ok, List, [], ◌∷◌, length, refl, sym, subst, ap, ◌∙◌, inl, inr}
use Rattle.std.proofs.lemmas.Bool.{cases_eq, eq-eqb, eqb-true, ne_eqb}
use Rattle.std.proofs.lemmas.Option.{none-some}
use Rattle.std.proofs.lemmas.Slice.Eq.{bytes_eq-Decides}
use Rattle.std.specs.Str.{bytes_eq}
use Rattle.pr_function_hides.proofs.Memory.MarkedPatches.{functions-apart}
use Rattle.pr_function_hides.proofs.CodeThere.TurnCode.{HoldsCode}
use Rattle.pr_function_hides.proofs.CodeThere.TurnStands.{Stands}
use Rattle.pr_function_hides.specs.FunctionHiders.{IsPatchable, patch_of}
use Rattle.pr_hidden.proofs.PatchedSpaces.PatchLemmas.{apart-spares, hidden-store, patched-store, same-range}
use Rattle.pr_hidden.specs.Covers.{Patch}
use Rattle.pr_hidden.specs.Hiders.{begins_at, function_written, patch_at, with_patch, without_patch}
use Rattle.pr_hidden.specs.Sparing.{is_apart}
use Rattle.pr_line.specs.declared.functions.Function.{Function}
use Rattle.pr_model.specs.Calls.{Answer, answer_to, controlled}
use Rattle.pr_model.specs.Changes.{with_space}
use Rattle.pr_model.specs.ControlMessages.{decoded_answer, system_refusal, tail_of, targeted_answer}
use Rattle.pr_model.specs.Handles.{handle_of}
use Rattle.pr_model.specs.Messages.{Controlled, message_answer, refused, with_process_changed, write_answer}
use Rattle.pr_model.specs.Readers.{has_lent}
use Rattle.pr_model.specs.State.{TracedProcess, TracedState, live_process}
use Rattle.pr_model.specs.declared.calls.Call.TheVariants as call
use Rattle.pr_model.specs.declared.calls.File.TheVariants as file
use Rattle.pr_model.specs.declared.calls.Reply.TheVariants as reply
use Rattle.pr_model.specs.declared.handles.Held.{Held}
use Rattle.pr_num.specs.Messages.{first_message}
use Rattle.pr_num.specs.Spaces.{Space, bytes_for}
use Rattle.pr_num.specs.declared.errnos.Errno.TheVariants.{Busy, Io}
use Rattle.pr_num.specs.declared.messages.Message.{Message}
use Rattle.pr_num.specs.declared.messages.Message.TheVariants as message
use Rattle.pr_num.specs.declared.messages.MsgFault.{MsgFault}
use Rattle.pr_parts.specs.AddressSpaces.{with_bytes}
use Rattle.pr_truss_laws.proofs.Machine.StillLemmas.{live-changed}
use Rattle.pr_truss_laws.proofs.Machine.TakenLemmas.{ctl-is}

-- What PCWRITE of truss makes of the code of a function: it stands where it was lifted, stays where another function is
-- written to, and where its breakpoint is planted a patch stands.

-- ---- what a write is answered

module _ (s : TracedState) (k number : ℕ) (h : Held) (there : handle_of s.opens k number ≡ Some h)
    (control : h.file ≡ file.Ctl) (bytes : List ℕ) (at size len : ℕ)
    (read : first_message bytes ≡ Ok (message.Write at size, len)) (a : Answer)
    (given : answer_to s k (call.Ctl number bytes) ≡ Some a) (p : TracedProcess)
    (live : live_process s.system h.pid ≡ Some p) where
  abbrev tail : List ℕ
  tail = tail_of (message.Write at size) bytes

  -- it is refused, and nothing changes; or it is written, and the process had its memory to itself
  pub data Writes : Type 0 where
    refuses : ((used : ℕ) → a.reply ≢ reply.Used used) → a.state.system ≡ s.system → Writes
    stores : (used : ℕ) → a.reply ≡ reply.Used used → p.borrower ≡ None
        → live_process a.state.system h.pid ≡ Some (with_space (with_bytes at tail p.space) p) → Writes

  abbrev answered_by : Bool → Bool → Bool → Controlled
  answered_by zeroth lent mapped =
      cond zeroth (refused s.system (system_refusal (message.Write at size)))
      (cond lent (refused s.system Busy)
      (cond mapped (with_process_changed s.system h.pid p len (with_space (with_bytes at tail p.space)))
      (refused s.system Io)))

  answer-is : a ≡ controlled s (answered_by (h.pid == 0) (has_lent p) (is_ok (bytes_for 0 p.space at (length tail))))
  unfolding message_answer write_answer
  answer-is =
      ctl-is s k number h there control bytes a given
      ∙ ap (λ o. controlled s (targeted_answer s.system h o bytes)) live
      ∙ ap (λ (x : Result (Message × ℕ) MsgFault). controlled s (decoded_answer s.system h p bytes x)) read

  spaced-over : (space : Space) → (with_space space p).ended ≡ p.ended
  unfolding with_space
  spaced-over space = refl

  none-lent : (o : Option ℕ) → is_some o ≡ false → o ≡ None
  none-lent None is = refl
  none-lent (Some x) is = cc

  pub writes : Writes
  writes =
      by (h.pid == 0) (has_lent p) (is_ok (bytes_for 0 p.space at (length tail))) refl answer-is
    where
      refuse : (x : Controlled) → ((used : ℕ) → x.reply ≢ reply.Used used) → x.system ≡ s.system
          → a ≡ controlled s x → Writes
      refuse x other same is =
          refuses (λ used got. other used (sym (ap (λ (y : Answer). y.reply) is) ∙ got))
          (ap (λ (y : Answer). y.state.system) is ∙ same)

      by : (x y z : Bool) → has_lent p ≡ y → a ≡ controlled s (answered_by x y z) → Writes
      by true y z lent is = refuse (refused s.system (system_refusal (message.Write at size))) (λ used got. cc) refl is
      by false true z lent is = refuse (refused s.system Busy) (λ used got. cc) refl is
      by false false false lent is = refuse (refused s.system Io) (λ used got. cc) refl is
      by false false true lent is =
          stores len (ap (λ (y : Answer). y.reply) is) (none-lent p.borrower lent)
          (ap (λ (y : Answer). live_process y.state.system h.pid) is
          ∙ live-changed s.system h.pid (with_space (with_bytes at tail p.space)) p live (spaced-over _))

-- ---- patches

begins-not : (at : ℕ) (p : Patch) (other : ℕ) → begins_at other p ≡ true → at ≢ other → begins_at at p ≡ false
begins-not at p other here apart =
    ne_eqb p.at at (λ same. apart (sym same ∙ eqb-true p.at other here))

without-other : (at other : ℕ) (ps : List Patch) → at ≢ other
    → patch_at at (without_patch other ps) ≡ patch_at at ps
without-other at other [] apart = refl
without-other at other (p ∷ ps) apart = by (begins_at other p) refl (without-other at other ps apart)
  where
    by : (b : Bool) → begins_at other p ≡ b → patch_at at (without_patch other ps) ≡ patch_at at ps
        → patch_at at (cond b ps (p ∷ without_patch other ps)) ≡ patch_at at (p ∷ ps)
    by true here rest = sym (ap (λ b. cond b (Some p) (patch_at at ps)) (begins-not at p other here apart))
    by false there rest = ap (λ x. cond (begins_at at p) (Some p) x) rest

with-other : (at : ℕ) (g : Patch) (ps : List Patch) → at ≢ g.at → patch_at at (with_patch g ps) ≡ patch_at at ps
with-other at g ps apart = by (is_some (patch_at g.at ps))
  where
    by : (b : Bool) → patch_at at (cond b ps (g ∷ ps)) ≡ patch_at at ps
    by true = refl
    by false = ap (λ b. cond b (Some g) (patch_at at ps)) (ne_eqb g.at at (λ same. apart (sym same)))

pub with-own : (g : Patch) (ps : List Patch) → patch_at g.at (with_patch g ps) ≢ None
with-own g ps = by (patch_at g.at ps) refl
  where
    by : (o : Option Patch) → patch_at g.at ps ≡ o → patch_at g.at (cond (is_some o) ps (g ∷ ps)) ≢ None
    by (Some q) found none = none-some q (sym none ∙ found)
    by None found none =
        none-some g (sym none ∙ ap (λ b. cond b (Some g) (patch_at g.at ps)) (eq-eqb g.at g.at refl))

-- ---- the code

module _ (f : Function) (patchable : IsPatchable f) where
  abbrev pf : Patch
  pf = patch_of f

  -- the code that was written stands
  code-stands : (space : Space) → Stands pf (with_bytes f.at f.code space)
  code-stands space =
      hidden-store (pf ∷ []) f.at f.code (λ a low high. same-range pf [] a low high) space

  -- what is written over another function leaves it
  other-stands : (g : Function) → IsPatchable g → (code : List ℕ) → length code ≡ 16 → g.at ≢ f.at → (space : Space)
      → Stands pf space → Stands pf (with_bytes g.at code space)
  other-stands g its code size apart space stands =
      let long : length g.code ≡ length code = its.size ∙ sym size in
      let p : Patch = record { at = g.at; bytes = code } in
      let clear : is_apart p pf ≡ true =
      subst (λ n. cond (nat_le (g.at + n) f.at) true (nat_le (f.at + length f.code) g.at) ≡ true) long
      (functions-apart g f its patchable apart) in
      patched-store (pf ∷ []) g.at code
      (apart-spares p (pf ∷ []) (ap (λ b. b && true) clear)) space
      ∙ ap (with_bytes g.at code) stands

  -- after a write to this function, or to another one
  pub written-holds : (g : Function) → IsPatchable g → (g.at ≡ f.at → patch_of g ≡ pf) → (code : List ℕ)
      → length code ≡ 16 → (ps : List Patch) (p : TracedProcess) → p.borrower ≡ None
      → patch_at f.at (function_written (Some (patch_of g)) code ps) ≡ None
      → (patch_at f.at ps ≡ None → HoldsCode pf p) → HoldsCode pf (with_space (with_bytes g.at code p.space) p)
  unfolding with_space
  written-holds g its one code size ps p own none was = by (cases_eq g.at f.at)
    where
      here : (b : Bool) → bytes_eq code f.code ≡ b
          → patch_at f.at (cond b (without_patch f.at ps) (with_patch pf ps)) ≡ None
          → Stands pf (with_bytes f.at code p.space)
      here true is it =
          subst (λ xs. Stands pf (with_bytes f.at xs p.space)) (sym ((bytes_eq-Decides code f.code).0 is))
          (code-stands p.space)
      here false is it = absurd (with-own pf ps it)

      apart-none : g.at ≢ f.at → (b : Bool)
          → patch_at f.at (cond b (without_patch g.at ps) (with_patch (patch_of g) ps)) ≡ None
          → patch_at f.at ps ≡ None
      apart-none other true it = sym (without-other f.at g.at ps (λ same. other (sym same))) ∙ it
      apart-none other false it = sym (with-other f.at (patch_of g) ps (λ same. other (sym same))) ∙ it

      by : (g.at ≡ f.at) ⊎ (g.at ≢ f.at) → HoldsCode pf (record p { space = with_bytes g.at code p.space })
      by (inl same) = record {
        own = own;
        stands =
            let is : patch_of g ≡ pf = one same in
            subst (λ (x : Patch). Stands pf (with_bytes x.at code p.space)) (sym is)
            (here (bytes_eq code f.code) refl
            (subst (λ (x : Patch). patch_at f.at (function_written (Some x) code ps) ≡ None) is none));
      }
      by (inr other) = record {
        own = own;
        stands =
            let before = was (apart-none other (bytes_eq code g.code) none) in
            other-stands g its code size other p.space before.stands;
      }
