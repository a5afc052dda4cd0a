use Rattle.std.proofs.Common.{◌≡◌, ◌≤◌, ◌+◌, ℕ, List, [], ◌∷◌, ◌++◌, codes, drop, length, refl, sym, ◌∙◌, ap, subst, arith, append_assoc, Some}
use Rattle.std.proofs.lemmas.Fmt.{decimal_digit}
use Rattle.std.proofs.lemmas.List.{append-nil, drop_all}
use Rattle.std.specs.List.{slice_get}
use Rattle.pr_asks.specs.Replies.{reply_line}
use Rattle.pr_model.specs.declared.calls.Call.TheVariants.{List as ListCall}
use Rattle.pr_model.specs.declared.calls.Reply.{Reply}
use Rattle.pr_model.specs.declared.calls.Reply.TheVariants.{Handle, Done, Used, Half, Bytes, Pid, Ready, Fail}
use Rattle.pr_model.specs.declared.events.Act.TheVariants.{Call}
use Rattle.pr_model.specs.declared.events.Actor.TheVariants.{Controller}
use Rattle.pr_model.specs.declared.events.Entry.{Entry}
use Rattle.pr_num.proofs.ListLemmas.{drop-at}
use Rattle.pr_plain.specs.HistoryText.{actor_text, act_words, call_words, entries_text, entry_line, entry_text, entry_words, reply_words}
use Rattle.pr_text.specs.SpacedWords.{behind_blank, joined}

-- ---- the line of a reply

-- words behind `0 c0 list ->`
front-of : (zero w : List ℕ) (ws : List (List ℕ)) → zero ≡ 48 ∷ []
    → joined (zero ∷ (codes "c" ++ zero) ∷ codes "list" ∷ codes "->" ∷ w ∷ ws) ++ 10 ∷ []
    ≡ codes "0 c0 list -> " ++ (joined (w ∷ ws) ++ 10 ∷ [])
unfolding joined behind_blank
front-of zero w ws is =
    subst (λ (z : List ℕ). joined (z ∷ (codes "c" ++ z) ∷ codes "list" ∷ codes "->" ∷ w ∷ ws) ++ 10 ∷ []
    ≡ codes "0 c0 list -> " ++ (joined (w ∷ ws) ++ 10 ∷ [])) (sym is) refl

-- The line of the entry `0 c0 list -> REPLY` has these bytes before the reply.
pub reply-behind : (r : Reply)
    → entry_text 0 (record { actor = Controller 0; act = Call ListCall r }) ≡ codes "0 c0 list -> " ++ reply_line r
unfolding actor_text act_words call_words entry_line entry_text entry_words reply_words reply_line
reply-behind (Handle h) = front-of _ _ _ (decimal_digit 0 (omega arith))
reply-behind Done = front-of _ _ _ (decimal_digit 0 (omega arith))
reply-behind (Used n) = front-of _ _ _ (decimal_digit 0 (omega arith))
reply-behind (Half n) = front-of _ _ _ (decimal_digit 0 (omega arith))
reply-behind (Bytes bytes) = front-of _ _ _ (decimal_digit 0 (omega arith))
reply-behind (Pid p) = front-of _ _ _ (decimal_digit 0 (omega arith))
reply-behind (Ready h) = front-of _ _ _ (decimal_digit 0 (omega arith))
reply-behind (Fail e) = front-of _ _ _ (decimal_digit 0 (omega arith))

-- a line that was written into an empty buffer
line-is : (before line : List ℕ) (r : Reply) → before ≡ []
    → line ≡ before ++ entry_text 0 (record { actor = Controller 0; act = Call ListCall r })
    → line ≡ codes "0 c0 list -> " ++ reply_line r
line-is before line r none is =
    is ∙ ap (λ (b : List ℕ). b ++ entry_text 0 (record { actor = Controller 0; act = Call ListCall r })) none
    ∙ reply-behind r

pub reply-left : (before line : List ℕ) (r : Reply) → before ≡ []
    → line ≡ before ++ entry_text 0 (record { actor = Controller 0; act = Call ListCall r })
    → drop 13 line ≡ reply_line r
reply-left before line r none is = ap (drop 13) (line-is before line r none is)

-- ---- the lines of entries

-- an entry is written, and those behind it are left
pub entries-step : (old new : List ℕ) (at : ℕ) (es : List Entry) (e : Entry) → slice_get es at ≡ Some e
    → new ≡ old ++ entry_text at e
    → new ++ entries_text (at + 1) (drop (at + 1) es) ≡ old ++ entries_text at (drop at es)
unfolding entries_text
entries-step old new at es e there is =
    ap (λ (out : List ℕ). out ++ entries_text (at + 1) (drop (at + 1) es)) is
    ∙ append_assoc old (entry_text at e) (entries_text (at + 1) (drop (at + 1) es))
    ∙ ap (λ (left : List Entry). old ++ entries_text at left) (sym (drop-at es at e there))

-- none are left
pub entries-end : (old now : List ℕ) (at : ℕ) (es : List Entry) (all : List ℕ) → length es ≤ at
    → now ++ entries_text at (drop at es) ≡ old ++ all → now ≡ old ++ all
unfolding entries_text
entries-end old now at es all past is =
    sym (append-nil now) ∙ ap (λ (left : List Entry). now ++ entries_text at left) (sym (drop_all at es past)) ∙ is
