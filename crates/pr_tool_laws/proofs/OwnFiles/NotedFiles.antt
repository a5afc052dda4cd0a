use Rattle.std.proofs.Common.{◌≡◌, ◌≢◌, ◌⊎◌, ◌<◌, ◌-◌, ◌∷◌, ℕ, zero, suc, List, [], Option, Some, None, length, get_or, refl, sym, ap, ◌∙◌, arith, inl, inr}
use Rattle.std.proofs.lemmas.Bool.{cases_eq}
use Rattle.std.proofs.lemmas.List.{get_or-set_other, get_or-set_same}
use Rattle.std.proofs.lemmas.Option.{none-some, same_Some}
use Rattle.pr_lawful.proofs.ProcessParts.HandleLemmas.{handle-at}
use Rattle.pr_model.specs.Calls.{Answer, answer_to}
use Rattle.pr_model.specs.Handles.{handle_of}
use Rattle.pr_model.specs.Replies.{opened_in}
use Rattle.pr_model.specs.State.{Places, TracedState}
use Rattle.pr_model.specs.declared.calls.Call.TheVariants as call
use Rattle.pr_model.specs.declared.calls.File.{File}
use Rattle.pr_model.specs.declared.calls.Mode.{Mode}
use Rattle.pr_model.specs.declared.calls.Reply.TheVariants as reply
use Rattle.pr_model.specs.declared.handles.Held.{Held}
use Rattle.pr_num.specs.declared.errnos.Errno.{Errno}
use Rattle.pr_probe.proofs.PlaceLemmas.{has-last, held, held-none}
use Rattle.pr_tools.specs.Handles.{handle_at, last_open, last_place, places_to_last, with_handle, without_last}
use Rattle.pr_tools.specs.declared.handles.Opened.{Opened}
use Rattle.pr_truss_laws.proofs.Files.OpensLemmas.{ClosesOne, NotOpen, Opens, Refuses, close-closes, held_by, open-opens, own-other, own-set}

-- The files that a controller notes as open, and the handles that it has.

-- a handle is noted at a place
pub record IsNoted (number : ℕ) (o : Opened) : Type 0 where
  pub place : ℕ
  pub at : handle_at o place ≡ Some number

-- where the last one is closed, none is noted
pub none-at : (hs : List (Option ℕ)) (place number : ℕ) → held hs ≡ [] → get_or hs place None ≡ Some number → ⊥
unfolding held
none-at [] place number none at = none-some number at
none-at (None ∷ hs) zero number none at = none-some number at
none-at (None ∷ hs) (suc place) number none at = none-at hs place number none at
none-at (Some h ∷ hs) place number none at = absurd cc

pub all-closed : (o : Opened) (number : ℕ) → last_open o ≡ None → IsNoted number o → ⊥
unfolding last_open handle_at
all-closed o number none noted = by (places_to_last o.handles) refl
  where
    by : (n : ℕ) → places_to_last o.handles ≡ n → ⊥
    by zero is = none-at o.handles noted.place number (held-none o.handles is) noted.at
    by (suc n) is =
        let last = has-last o.handles n is in
        let at : n ≡ places_to_last o.handles - 1 = omega (arith, is) in
        none-some last.handle
        (sym none ∙ ap (λ (place : ℕ). get_or o.handles place None) (sym at) ∙ last.there)

-- another file at a place leaves those that are noted elsewhere
pub noted-still : (o : Opened) (place number : ℕ) (x : Option ℕ) → IsNoted number o → handle_at o place ≢ Some number
    → IsNoted number (with_handle o place x)
unfolding handle_at with_handle
noted-still o place number x noted apart = record {
  place = noted.place;
  at = get_or-set_other o.handles place noted.place x None (λ same. apart (ap (handle_at o) (sym same) ∙ noted.at))
      ∙ noted.at;
}

-- it knows each of its handles
abbrev pub Knows : ℕ → Opened → TracedState → Type 0
Knows k o s = (number : ℕ) (h : Held) → handle_of s.opens k number ≡ Some h → IsNoted number o

-- one that notes none has none
pub no-handle : (k : ℕ) (o : Opened) (s : TracedState) (number : ℕ) (x : Option Held) → handle_of s.opens k number ≡ x
    → last_open o ≡ None → Knows k o s → x ≡ None
no-handle k o s number None there none known = refl
no-handle k o s number (Some held) there none known = absurd (all-closed o number none (known number held there))

-- ---- a call

module _ (k : ℕ) (s : TracedState) (a : Answer) (o : Opened) (known : Knows k o s) where
  -- the handles stay
  pub same-known : a.state.opens ≡ s.opens → Knows k o a.state
  same-known same number h there =
      known number h (ap (λ (x : Places). handle_of x k number) (sym same) ∙ there)

  -- ---- an open

  module _ (pid id : ℕ) (name : File) (way : Mode)
      (answers : answer_to s k (call.Open pid id name way) ≡ Some a) where
    -- its file is noted at an empty place
    pub opened-known : (place : ℕ) → place < length o.handles → handle_at o place ≡ None
        → ((e : Errno) → a.reply ≢ reply.Fail e) → Knows k (with_handle o place (opened_in a.reply)) a.state
    unfolding handle_at with_handle opened_in
    opened-known place within empty accepts number h there = of (open-opens s k pid id name way a answers)
      where
        of : Refuses s a.reply a.state.opens ⊎ Opens s k (held_by k pid id name way) a.reply a.state.opens
            → IsNoted number (with_handle o place (opened_in a.reply))
        of (inl denied) = absurd (accepts denied.errno denied.reply)
        of (inr granted) = by (cases_eq granted.place number)
          where
            here : handle_at (with_handle o place (opened_in a.reply)) place ≡ Some granted.place
            here =
                get_or-set_same o.handles place (opened_in a.reply) None within ∙ ap opened_in granted.reply

            by : (granted.place ≡ number) ⊎ (granted.place ≢ number)
                → IsNoted number (with_handle o place (opened_in a.reply))
            by (inl same) = record { place = place; at = here ∙ ap (λ (n : ℕ). Some n) same }
            by (inr apart) =
                noted-still o place number (opened_in a.reply)
                (known number h
                (sym (ap (λ (x : Places). handle_of x k number) granted.is
                ∙ own-other s.opens k granted.place number (Some (held_by k pid id name way)) apart) ∙ there))
                (λ is. none-some number (sym empty ∙ is))

    pub denied-known : (e : Errno) → a.reply ≡ reply.Fail e → Knows k o a.state
    denied-known e failed = of (open-opens s k pid id name way a answers)
      where
        of : Refuses s a.reply a.state.opens ⊎ Opens s k (held_by k pid id name way) a.reply a.state.opens
            → Knows k o a.state
        of (inl denied) = same-known denied.is
        of (inr granted) =
            absurd (let both : reply.Handle granted.place ≡ reply.Fail e = sym granted.reply ∙ failed in cc)

  -- ---- a close

  module _ (number : ℕ) (last : last_open o ≡ Some number) where
    others-noted : (m : ℕ) (h : Held) → m ≢ number → handle_of s.opens k m ≡ Some h → IsNoted m (without_last o)
    unfolding without_last last_open
    others-noted m h apart there =
        noted-still o (last_place o) m None (known m h there)
        (λ is. apart (same_Some m number (sym is ∙ last)))

    pub closed-known : answer_to s k (call.Close number) ≡ Some a → Knows k (without_last o) a.state
    closed-known given m h there = of (close-closes s k number a given)
      where
        of : NotOpen s k number a ⊎ ((held : Held) × ClosesOne s k number held a) → IsNoted m (without_last o)
        of (inl none) =
            let old : handle_of s.opens k m ≡ Some h =
            ap (λ (x : Places). handle_of x k m) (sym none.is) ∙ there in
            others-noted m h
            (λ same. none-some h (sym none.none ∙ ap (handle_of s.opens k) (sym same) ∙ old)) old
        of (inr closed) = by (cases_eq m number)
          where
            gone : handle_of a.state.opens k number ≡ None
            gone =
                ap (λ (x : Places). handle_of x k number) closed.1.is
                ∙ own-set s.opens k number None (Some closed.0) (handle-at s.opens k number closed.0 closed.1.held)

            by : (m ≡ number) ⊎ (m ≢ number) → IsNoted m (without_last o)
            by (inl same) =
                absurd (none-some h (sym gone ∙ ap (handle_of a.state.opens k) (sym same) ∙ there))
            by (inr apart) =
                others-noted m h apart
                (sym (ap (λ (x : Places). handle_of x k m) closed.1.is
                ∙ own-other s.opens k number m None (λ same. apart (sym same))) ∙ there)
