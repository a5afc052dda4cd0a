use Rattle.std.proofs.Common.{◌≡◌, ◌++◌, ℕ, Some, Result, Ok, List, [], ◌∷◌, sym, ap, ◌∙◌}
use Rattle.std.specs.List.{slice_get}
use Rattle.pr_line.specs.declared.functions.Function.{Function}
use Rattle.pr_line.specs.declared.options.Options.{Options}
use Rattle.pr_model.specs.declared.calls.Call.{Call}
use Rattle.pr_model.specs.declared.calls.Call.TheVariants as call
use Rattle.pr_num.specs.Limits.{instruction_size}
use Rattle.pr_num.specs.Messages.{first_message, spelling}
use Rattle.pr_num.specs.declared.messages.Message.{Message}
use Rattle.pr_num.specs.declared.messages.Message.TheVariants as message
use Rattle.pr_num.specs.declared.messages.MsgFault.{MsgFault}
use Rattle.pr_truss.specs.FunctionCalls.{lift_call}
use Rattle.pr_truss.specs.Marks.{address_in, address_of, code_in, code_of}
use Rattle.pr_truss_laws.specs.Exchanges.{Exchange}
use Rattle.pr_function_laws.proofs.OpenedProcesses.CodeLemmas.{lift-read}
use Rattle.pr_function_laws.specs.Steppable.{IsSteppable}

-- Which function a call lifts.

abbrev bytes_sent : Call → List ℕ
bytes_sent (call.Ctl handle bytes) = bytes
bytes_sent _ = []

ok-same : {x y : Message × ℕ} → (let r : Result (Message × ℕ) MsgFault = Ok x in r) ≡ Ok y → x ≡ y
ok-same is = cc

write-at : {a b : ℕ} → message.Write a instruction_size ≡ message.Write b instruction_size → a ≡ b
write-at is = cc

-- the bytes that a lift sends, of a function that is named
lift-sends : (o : Options) (control i : ℕ) (f : Function) → slice_get o.functions i ≡ Some f
    → bytes_sent (lift_call o control i) ≡ spelling (message.Write f.at instruction_size) f.code
unfolding address_of code_of
lift-sends o control i f named =
    ap (λ g. spelling (message.Write (address_in g) instruction_size) (code_in g)) named

-- the same lift is one of a function at the same address
pub lift-same : (o : Options) (c d i j : ℕ) (f g : Function) → slice_get o.functions i ≡ Some f
    → slice_get o.functions j ≡ Some g → IsSteppable f → IsSteppable g → lift_call o c i ≡ lift_call o d j
    → f.at ≡ g.at
lift-same o c d i j f g one two first second same =
    write-at (ap (λ (x : Message × ℕ). x.0) (ok-same
    (sym (lift-read f first)
    ∙ ap first_message (sym (lift-sends o c i f one) ∙ ap bytes_sent same ∙ lift-sends o d j g two)
    ∙ lift-read g second)))

-- ---- the last of some exchanges

pub last-same : (us vs : List Exchange) (x y : Exchange) → us ++ x ∷ [] ≡ vs ++ y ∷ [] → x ≡ y
last-same [] [] x y is = cc
last-same [] (v ∷ vs) x y is = let rest : [] ≡ vs ++ y ∷ [] = cc in absurd (nothing vs y rest)
  where
    nothing : (vs : List Exchange) (y : Exchange) → [] ≡ vs ++ y ∷ [] → ⊥
    nothing [] y same = cc
    nothing (v ∷ vs) y same = cc
last-same (u ∷ us) [] x y is = let rest : us ++ x ∷ [] ≡ [] = cc in absurd (nothing us x rest)
  where
    nothing : (us : List Exchange) (x : Exchange) → us ++ x ∷ [] ≡ [] → ⊥
    nothing [] x same = cc
    nothing (u ∷ us) x same = cc
last-same (u ∷ us) (v ∷ vs) x y is = let rest : us ++ x ∷ [] ≡ vs ++ y ∷ [] = cc in last-same us vs x y rest

-- The last one is the run; or it comes behind it.
pub data LastRun (us vs ws : List Exchange) (a x : Exchange) : Type 0 where
  is_run : us ≡ vs ++ x ∷ [] → LastRun us vs ws a x
  is_behind : (ms : List Exchange) → ws ≡ ms ++ a ∷ [] → LastRun us vs ws a x

pub last-run : (us vs ws : List Exchange) (a x u : Exchange) → us ++ a ∷ [] ≡ vs ++ x ∷ (u ∷ ws)
    → LastRun us vs ws a x
last-run [] [] ws a x u is = let rest : [] ≡ u ∷ ws = cc in cc
last-run [] (v ∷ vs) ws a x u is = let rest : [] ≡ vs ++ x ∷ (u ∷ ws) = cc in absurd (nothing vs rest)
  where
    nothing : (vs : List Exchange) → [] ≡ vs ++ x ∷ (u ∷ ws) → ⊥
    nothing [] same = cc
    nothing (w ∷ ws_in) same = cc
last-run (y ∷ us) [] ws a x u is =
    let same : y ≡ x = cc in
    let rest : us ++ a ∷ [] ≡ u ∷ ws = cc in
    by us rest same
  where
    by : (us : List Exchange) → us ++ a ∷ [] ≡ u ∷ ws → y ≡ x → LastRun (y ∷ us) [] ws a x
    by [] rest same = is_run (ap (λ z. z ∷ []) same)
    by (b ∷ us) rest same = let tail : us ++ a ∷ [] ≡ ws = cc in is_behind us (sym tail)
last-run (y ∷ us) (v ∷ vs) ws a x u is =
    let same : y ≡ v = cc in
    let rest : us ++ a ∷ [] ≡ vs ++ x ∷ (u ∷ ws) = cc in
    by same (last-run us vs ws a x u rest)
  where
    by : y ≡ v → LastRun us vs ws a x → LastRun (y ∷ us) (v ∷ vs) ws a x
    by same (is_run one) =
        is_run (ap (λ (zs : List Exchange). y ∷ zs) one ∙ ap (λ z. z ∷ (vs ++ x ∷ [])) same)
    by same (is_behind ms one) = is_behind ms one
