-- Replies are compared with all that they say.
use Rattle.std.proofs.Common.{◌≡◌, ◌≢◌, Bool, true, false, Option, Some, refl, sym, ◌∙◌, ap}
use Rattle.std.proofs.lemmas.Bool.{eqb-true}
use Rattle.std.proofs.lemmas.Option.{same_Some}
use Rattle.std.proofs.lemmas.Slice.Eq.{bytes_eq-Decides}
use Rattle.std.specs.Borrow.{Bor}
use Rattle.std.specs.Option.{option_copied}
use Rattle.pr_num.specs.Errnos.{errno_number}
use Rattle.pr_model.specs.declared.calls.Reply.{Reply}
use Rattle.pr_model.specs.declared.calls.Reply.TheVariants.{Handle, Done, Used, Half, Bytes, Pid, Ready, Fail}
use Rattle.pr_judge.proofs.TurnLemmas.{equal-self, errno-is}
use Rattle.pr_judge.specs.Replies.{same_reply}

pub same-is : (a b : Reply) → same_reply a b ≡ true → a ≡ b
unfolding same_reply
same-is (Handle a) (Handle b) h = ap Handle (eqb-true _ _ h)
same-is Done Done h = refl
same-is (Used a) (Used b) h = ap Used (eqb-true _ _ h)
same-is (Half a) (Half b) h = ap Half (eqb-true _ _ h)
same-is (Bytes a) (Bytes b) h = ap Bytes ((bytes_eq-Decides a b).0 h)
same-is (Pid a) (Pid b) h = ap Pid (eqb-true _ _ h)
same-is (Ready a) (Ready b) h = ap Ready (eqb-true _ _ h)
same-is (Fail a) (Fail b) h = ap Fail (errno-is a b h)
same-is _ _ h = cc

pub same-self : (a : Reply) → same_reply a a ≡ true
unfolding same_reply
same-self (Handle a) = equal-self a
same-self Done = refl
same-self (Used a) = equal-self a
same-self (Half a) = equal-self a
same-self (Bytes a) = (bytes_eq-Decides a a).1 refl
same-self (Pid a) = equal-self a
same-self (Ready a) = equal-self a
same-self (Fail a) = equal-self (errno_number a)

-- the reply that stands last is this one, or another
pub replied-same : (o : Option (Bor Reply)) (last : Bor Reply) (there : Option Reply) (r : Reply) (b : Bool)
    → o ≡ Some last → option_copied o ≡ there → b ≡ same_reply last.now r → b ≡ true → there ≡ Some r
replied-same o last there r b is gives same holds =
    sym gives ∙ ap option_copied is ∙ ap Some (same-is last.now r (sym same ∙ holds))

pub replied-other : (o : Option (Bor Reply)) (last : Bor Reply) (there : Option Reply) (r : Reply) (b : Bool)
    → o ≡ Some last → option_copied o ≡ there → b ≡ same_reply last.now r → b ≡ false → there ≢ Some r
replied-other o last there r b is gives same fails e =
    let equal : last.now ≡ r = same_Some _ _ (sym (ap option_copied is) ∙ gives ∙ e) in
    let both : true ≡ false = sym (same-self r) ∙ ap (λ (x : Reply). same_reply x r) (sym equal) ∙ sym same ∙ fails in
    cc
