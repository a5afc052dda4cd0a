use Rattle.std.proofs.Common.{◌≡◌, ◌<◌, ◌^◌, ℕ, true, false, cond, Some, Ok, Result, List, [], length, refl, sym, ap, ◌∙◌, arith}
use Rattle.std.proofs.lemmas.Slice.Eq.{bytes_eq-Decides}
use Rattle.std.specs.List.{slice_get}
use Rattle.std.specs.Prelude.{map}
use Rattle.std.specs.Str.{bytes_eq}
use Rattle.pr_function_hides.proofs.Tidy.CalledCovers.{IsCalled, called-is, sent, untouched}
use Rattle.pr_function_hides.proofs.Memory.MarkedPatches.{function-patch}
use Rattle.pr_function_hides.proofs.Tidy.OwnWrites.{write-read, write-tail}
use Rattle.pr_function_hides.specs.FunctionHiders.{ArePatchable, IsPatchable, patch_of}
use Rattle.pr_hidden.specs.Covers.{Cover, Covers}
use Rattle.pr_hidden.specs.Hiders.{Hiders, cover_sent, covers_called, function_written, patch_at, patches_written, probe_written, with_patch, without_patch}
use Rattle.pr_line.specs.declared.functions.Function.{Function}
use Rattle.pr_line.specs.declared.options.Options.{Options}
use Rattle.pr_model.specs.ControlMessages.{tail_of}
use Rattle.pr_model.specs.Handles.{handle_of}
use Rattle.pr_model.specs.State.{TracedProcess, TracedState}
use Rattle.pr_model.specs.declared.calls.Call.TheVariants as call
use Rattle.pr_model.specs.declared.calls.Reply.{Reply}
use Rattle.pr_model.specs.declared.calls.Reply.TheVariants as reply
use Rattle.pr_num.proofs.SearchLemmas.{All-at}
use Rattle.pr_num.specs.Messages.{first_message, spelling}
use Rattle.pr_num.specs.declared.messages.Message.{Message}
use Rattle.pr_num.specs.declared.messages.Message.TheVariants as message
use Rattle.pr_num.specs.declared.messages.MsgFault.{MsgFault}

-- A lift where no breakpoint stands leaves none.

module _ (who : Hiders) (none : (k : ℕ) → who.probes k ≡ false) (covers : Covers) (s : TracedState) (k : ℕ)
    (o : Options) (fit : ArePatchable o) (these : who.functions k ≡ map patch_of o.functions) (i : ℕ) (f : Function)
    (named : slice_get o.functions i ≡ Some f) (pid : ℕ) (bare : (covers pid).patches ≡ []) where
  abbrev bytes : List ℕ
  bytes = spelling (message.Write f.at 16) f.code

  patchable : IsPatchable f
  patchable = All-at IsPatchable o.functions i f named fit.each

  fits : f.at < 2 ^ 64
  fits = let p = patchable in let w = p.within in omega (arith, w)

  reads : first_message bytes ≡ Ok (message.Write f.at 16, length bytes)
  reads = let p = patchable in write-read f.at f.code fits p.size p.bytes

  same-code : bytes_eq f.code f.code ≡ true
  same-code = (bytes_eq-Decides f.code f.code).1 refl

  -- what the message leaves
  sent-bare : (p : TracedProcess) (m : Message) (len : ℕ) → first_message bytes ≡ Ok (m, len)
      → (cover_sent who k p m (tail_of m bytes) (covers pid)).patches ≡ []
  unfolding cover_sent
  sent-bare p m len read =
      ap (λ (x : Message). (cover_sent who k p x (tail_of x bytes) (covers pid)).patches)
      (ap (λ (x : Message × ℕ). x.0) (same-read (sym read ∙ reads)))
      ∙ (let q = patchable in
      ap (λ tail. patches_written who k p.space f.at tail (covers pid).patches)
      (write-tail f.at f.code fits q.size q.bytes))
      ∙ ap (λ ps. patches_written who k p.space f.at f.code ps) bare
      ∙ ap (λ b. cond b (probe_written (patch_at f.at []) p.space f.at f.code [])
      (function_written (patch_at f.at (who.functions k)) f.code [])) (none k)
      ∙ ap (λ ps. function_written (patch_at f.at ps) f.code []) these
      ∙ ap (λ x. function_written x f.code []) (function-patch o fit i f named)
      ∙ ap (λ b. cond b (without_patch f.at []) (with_patch (patch_of f) [])) same-code
    where
      same-read : {x y : Message × ℕ} → (let z : Result (Message × ℕ) MsgFault = Ok x in z) ≡ Ok y → x ≡ y
      same-read e = cc

  pub lift-bare : (number : ℕ) (r : Reply) → (covers_called who covers s k (call.Ctl number bytes) r pid).patches ≡ []
  unfolding covers_called
  lift-bare number (reply.Used used) =
      by (called-is who none covers s.system k bytes pid (handle_of s.opens k number))
    where
      by : {d : Cover} → IsCalled who none covers s.system k (handle_of s.opens k number) bytes pid d
          → d.patches ≡ []
      by (untouched is) = ap (λ (c : Cover). c.patches) is ∙ bare
      by (sent h p m len held its target read is) = ap (λ (c : Cover). c.patches) is ∙ sent-bare p m len read
  lift-bare number _ = bare
