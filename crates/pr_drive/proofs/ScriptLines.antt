use Rattle.std.proofs.Common.{◌≡◌, ◌+◌, ◌⊎◌, inl, inr, ℕ, Bool, true, false, List, [], ◌∷◌}
use Rattle.std.proofs.Common.{codes, Option, Some, None, Result, cond, sym, ap, subst, ◌∙◌}
use Rattle.std.proofs.Common.{arith}
use Rattle.std.specs.Option.{option_or}
use Rattle.pr_api.specs.Views.{kernel_of}
use Rattle.pr_asks.specs.Replies.{reply_line}
use Rattle.pr_asks.specs.declared.asks.Ask.{Ask}
use Rattle.pr_asks.specs.declared.asks.AskKind.{AskKind}
use Rattle.pr_model.specs.declared.calls.Call.{Call}
use Rattle.pr_model.specs.declared.calls.Reply.{Reply}
use Rattle.pr_model.specs.declared.calls.Reply.TheVariants.{Handle, Done, Used, Half, Bytes, Pid, Ready, Fail}
use Rattle.pr_plain.specs.HistoryText.{reply_words}
use Rattle.pr_model.specs.declared.events.Actor.{Actor}
use Rattle.pr_model.specs.declared.events.Actor.TheVariants.{Controller}
use Rattle.pr_model.specs.declared.events.Entry.{Entry}
use Rattle.pr_scen.specs.Scenarios.{Scenario}
use Rattle.pr_scen.specs.Scripts.{ScriptState, next_call_of}
use Rattle.pr_text.specs.SpacedWords.{joined}
use Rattle.pr_world.specs.Worlds.{is_answered}
use Rattle.pr_drive.specs.Alone.{IsPartOfRun}
use Rattle.pr_drive.specs.Exchanges.{AnswersCall, wait_of}
use Rattle.pr_drive.specs.Going.{SeatsState}
use Rattle.pr_drive.specs.Going.{outside_of, world_of}
use Rattle.pr_drive.specs.Rounds.{IsStepOn, Rests}
use Rattle.pr_drive.specs.Rounds.{RoundsState, next_on}
use Rattle.pr_drive.specs.Rounds.{after_step, first_place, next_from, next_left}
use Rattle.pr_drive.specs.Scripted.{AllSaid, SaysCall, SaysNothing, SaysNoMore, Says, outside_if}
use Rattle.pr_drive.specs.Sessions.{AnswersRead, Exchange, Exchanged, Exchanges, PassesTurn, Stand}
use Rattle.pr_drive.proofs.LettingLemmas.{exchange-kept}
use Rattle.pr_drive.proofs.RoundLemmas.{next_on-is}
use Rattle.pr_drive.proofs.TurnLemmas.{next_of_all, until_of}
use Rattle.pr_drive.proofs.ScriptMoves.{ran-step}
use Rattle.pr_drive.proofs.ScriptTurns.{AtTurn, InRound, idles, in-finish, in-rests, makes-call}

-- Such a run goes as a session does line by line.

-- ---- lines

abbrev first : List ℕ → ℕ
first [] = 0
first (b ∷ bs) = b

-- `never` is the line of no reply
starts : (r : Reply) → first (reply_line r) ≡ 110 → ⊥
unfolding reply_line reply_words joined
starts (Handle h) e = let no : 104 ≡ 110 = e in absurd (omega (arith, no))
starts Done e = let no : 100 ≡ 110 = e in absurd (omega (arith, no))
starts (Used n) e = let no : 117 ≡ 110 = e in absurd (omega (arith, no))
starts (Half n) e = let no : 104 ≡ 110 = e in absurd (omega (arith, no))
starts (Bytes bytes) e = let no : 98 ≡ 110 = e in absurd (omega (arith, no))
starts (Pid p) e = let no : 112 ≡ 110 = e in absurd (omega (arith, no))
starts (Ready h) e = let no : 114 ≡ 110 = e in absurd (omega (arith, no))
starts (Fail errno) e = let no : 102 ≡ 110 = e in absurd (omega (arith, no))

not-never : (r : Reply) → reply_line r ≡ codes "never\n" → ⊥
not-never r e = starts r (ap first e)

-- what the script calls next waits for no moment
pub says-wait : (xs : List Exchange) (script : ScriptState) → AllSaid xs script → until_of script ≡ 0
says-wait [] script said = said
says-wait (x ∷ xs) script said = of said.1.0 (says-wait xs said.0 said.1.1)
  where
    of : Says x script said.0 → until_of said.0 ≡ 0 → until_of script ≡ 0
    of (inl says) later = ap wait_of says.next ∙ says.at_once
    of (inr (inl nothing)) later = ap until_of (sym nothing.same) ∙ later
    of (inr (inr no_more)) later = ap wait_of no_more.over

said-call : (script after : ScriptState) (run : Scenario) (number : ℕ) (x : Exchange) (a b : Stand)
    → until_of script ≡ 0 → until_of after ≡ 0 → SaysCall x script after → AtTurn script run a.rounds
    → Exchanged number x a b → AtTurn after run b.rounds
said-call script after run number x a b still then says turn h =
    of h.over (subst (λ (read : Result Ask AskKind). AnswersRead number read h.over a.rounds h.answered x.reply)
    says.asked h.answers).1 h.passes
  where
    of : (over : Bool) → AnswersCall over says.call a.rounds h.answered x.reply → PassesTurn over h.answered b.rounds
        → AtTurn after run b.rounds
    of true made passes =
        let made_on = makes-call script run says.call a.rounds h.answered still says.next says.at_once turn made.made in
        let got = says.got made.made.called.answer.reply made.reply in
        in-finish after run h.answered b.rounds then
        (subst (λ (s : ScriptState). InRound s run h.answered) (sym got) made_on) passes
    of false back passes = absurd (not-never says.reply (sym says.told ∙ back.reply))

said-nothing : (script after : ScriptState) (P : ScriptState → RoundsState → Type 0) (number : ℕ) (x : Exchange)
    (a b : Stand) → SaysNothing x script after → P script a.rounds → Exchanged number x a b → P after b.rounds
said-nothing script after P number x a b says stands h =
    let answered = subst (λ (read : Result Ask AskKind). AnswersRead number read h.over a.rounds h.answered x.reply)
    says.asked h.answers in
    let same : b.rounds ≡ h.answered = subst (λ (o : Bool). PassesTurn o h.answered b.rounds) answered.0 h.passes in
    subst (λ (s : ScriptState). P s b.rounds) (sym says.same)
    (subst (P script) (sym (same ∙ answered.1.same)) stands)

-- ---- lines behind the script's end

-- the outside makes no call any more
over-out : (script : ScriptState) (s : SeatsState) → next_call_of script ≡ None → outside_if script s ≡ None
unfolding outside_if
over-out script s over =
    ap (λ (o : Option Call).
    cond (is_answered (kernel_of s.kernel.state s.kernel.history s.kernel.places) (outside_of s) o)
    (Some (Controller (outside_of s))) None) over

over-next : (script : ScriptState) (r : RoundsState) → next_call_of script ≡ None
    → next_of_all script r.seats r.place ≡ next_on 0 r
unfolding next_left
over-next script r over =
    let until = until_of script in
    let still : until ≡ 0 = ap wait_of over in
    ap (λ (o : Option Actor). option_or (next_from (world_of until r.seats) r.place)
    (option_or o (next_from (world_of until r.seats) first_place))) (over-out script r.seats over)
    ∙ ap (λ (m : ℕ).
    option_or (next_from (world_of m r.seats) r.place) (next_from (world_of m r.seats) first_place)) still
    ∙ sym (next_on-is 0 r)

over-step : (script : ScriptState) (run : Scenario) (r : RoundsState) (e : Entry) → next_call_of script ≡ None
    → InRound script run r → IsStepOn 0 r e → InRound script run (after_step e r)
over-step script run r e over ran one =
    ran-step script run r.seats (next_of_all script r.seats r.place) e ran one.move
    (over-next script r over ∙ one.next)

over-rests : (script : ScriptState) (run : Scenario) (r q : RoundsState) → next_call_of script ≡ None
    → InRound script run r → Rests 0 r q → InRound script run q
over-rests script run r q over ran rests =
    idles script run q (in-rests script run r q (ap wait_of over) ran rests) (inr (over-out script q.seats over))

-- The session stands at a turn of the outside; or the script has ended.
abbrev StandsAt : Scenario → ScriptState → RoundsState → Type 0
StandsAt run script r = AtTurn script run r ⊎ ((next_call_of script ≡ None) × InRound script run r)

stands-over : (script : ScriptState) (run : Scenario) (r : RoundsState) → next_call_of script ≡ None
    → StandsAt run script r → InRound script run r
stands-over script run r over (inl turn) = idles script run r turn (inr (over-out script r.seats over))
stands-over script run r over (inr ended) = ended.1

said-no-more : (script after : ScriptState) (run : Scenario) (number : ℕ) (x : Exchange) (a b : Stand)
    → SaysNoMore x script after → StandsAt run script a.rounds → Exchanged number x a b → StandsAt run after b.rounds
said-no-more script after run number x a b says stands h =
    let over = says.over in
    let ran : InRound script run b.rounds =
    exchange-kept (InRound script run) (λ r e now one. over-step script run r e over now one)
    (λ r q now rests. over-rests script run r q over now rests) number x a b says.lets
    (stands-over script run a.rounds over stands) h in
    subst (λ (s : ScriptState). StandsAt run s b.rounds) (sym says.same) (inr (over, ran))

-- a script that calls has not ended
at-call : (script after : ScriptState) (run : Scenario) (x : Exchange) (r : RoundsState) → SaysCall x script after
    → StandsAt run script r → AtTurn script run r
at-call script after run x r says (inl turn) = turn
at-call script after run x r says (inr ended) =
    let no : ◌≡◌ {A = Option Call} None (Some says.call) = sym ended.0 ∙ says.next in cc

said-one : (script after : ScriptState) (run : Scenario) (number : ℕ) (x : Exchange) (a b : Stand)
    → until_of script ≡ 0 → until_of after ≡ 0 → Says x script after → StandsAt run script a.rounds
    → Exchanged number x a b → StandsAt run after b.rounds
said-one script after run number x a b still then (inl says) stands h =
    inl (said-call script after run number x a b still then says
    (at-call script after run x a.rounds says stands) h)
said-one script after run number x a b still then (inr (inl nothing)) stands h =
    said-nothing script after (StandsAt run) number x a b nothing stands h
said-one script after run number x a b still then (inr (inr no_more)) stands h =
    said-no-more script after run number x a b no_more stands h

stands-ran : (script : ScriptState) (run : Scenario) (r : RoundsState) → StandsAt run script r
    → IsPartOfRun run r.seats.kernel.history
stands-ran script run r (inl turn) = turn.ran.history
stands-ran script run r (inr ended) = ended.1.history

pub said-all : (xs : List Exchange) (script : ScriptState) (run : Scenario) (number : ℕ) (a b : Stand)
    → AllSaid xs script
    → StandsAt run script a.rounds → Exchanges number xs a b → IsPartOfRun run b.rounds.seats.kernel.history
said-all [] script run number a b said stands h =
    subst (λ (x : Stand). IsPartOfRun run x.rounds.seats.kernel.history) (sym h) (stands-ran script run a.rounds stands)
said-all (x ∷ xs) script run number a b said stands h =
    said-all xs said.0 run (number + 1) h.0 b said.1.1
    (said-one script said.0 run number x a h.0 (says-wait (x ∷ xs) script said) (says-wait xs said.0 said.1.1) said.1.0
    stands h.1.0) h.1.1
