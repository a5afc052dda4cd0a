-- What a process runs is what entries tell, and at first what the scenario says.
use Rattle.std.proofs.Common.{◌≡◌, ◌≢◌, ◌⊎◌, inl, inr, ℕ, zero, suc, ◌+◌, ◌<◌, ◌≤◌, Bool, true, false, ltb, if◌then◌else◌, Option, Some, None, List, [], ◌∷◌, ◌++◌, length, refl, sym, ap, subst, ◌∙◌, arith}
use Rattle.std.proofs.lemmas.Bool.{cases_eq, lt-ltb, ltb-true}
use Rattle.std.proofs.lemmas.Option.{none-some, same_Some}
use Rattle.std.specs.List.{slice_get}
use Rattle.pr_num.specs.ById.{IsRising, under}
use Rattle.pr_num.proofs.ByIdLaws.{under-without_id, under-without_id_other, without_id-none}
use Rattle.pr_num.proofs.ByIdLemmas.{rises_from-without_id}
use Rattle.pr_num.specs.declared.syscalls.Sysno.TheVariants.{Exec, Fork, LwpCreate, Vfork}
use Rattle.pr_model.specs.declared.calls.Call.{Call}
use Rattle.pr_model.specs.declared.calls.Call.TheVariants as call
use Rattle.pr_model.specs.declared.calls.File.{File}
use Rattle.pr_model.specs.declared.calls.File.TheVariants.{Psinfo}
use Rattle.pr_model.specs.declared.calls.Mode.{Mode}
use Rattle.pr_model.specs.declared.calls.Reply.{Reply}
use Rattle.pr_model.specs.declared.calls.Reply.TheVariants as reply
use Rattle.pr_model.specs.declared.events.Act.{Act}
use Rattle.pr_model.specs.declared.events.Act.TheVariants as act
use Rattle.pr_model.specs.declared.events.Actor.{Actor}
use Rattle.pr_model.specs.declared.events.Actor.TheVariants.{Controller, Lwp, Clock}
use Rattle.pr_model.specs.declared.events.Did.{Did}
use Rattle.pr_model.specs.declared.events.Did.TheVariants.{Made}
use Rattle.pr_model.specs.declared.events.Entry.{Entry}
use Rattle.pr_model.specs.declared.events.Res.TheVariants.{Value}
use Rattle.pr_hist.specs.Lanes.{child_of, id_in, lwp_in, made_by}
use Rattle.pr_hist.specs.Laws.{names_behind}
use Rattle.pr_hist.specs.Listings.{Listing, listed_at}
use Rattle.pr_hist.specs.Names.{Names, named}
use Rattle.pr_hist.specs.News.{call_news, did_news, inherited, is_psinfo, known_at_start, known_news, name_shown, names_beyond, news_of, read_news, running_after, runs_now, shown_news, spawn_news, started, turn_news}
use Rattle.pr_hist.specs.Processes.{TellsProgram, began_another, forked, made, shown, vforked}
use Rattle.pr_hist.specs.declared.names.Known.{Known}
use Rattle.pr_hist.specs.declared.news.News.{News}
use Rattle.pr_hist.proofs.BehindLemmas.{names_behind-end}
use Rattle.pr_hist.proofs.NamedLemmas.{named-other, named-own, named-rises}

-- ---- at first

-- what was known of earlier processes stays
started-below : (pid : ℕ) (running : List (ℕ × ℕ)) (places : List ℕ) (p : ℕ) → p < pid
    → under p (started pid running places) ≡ under p running
unfolding started
started-below pid running [] p below = refl
started-below pid running (place ∷ places) p below =
    started-below (pid + 1) (named pid place running) places p (omega arith)
    ∙ named-other pid p place running (λ same. absurd (omega arith))

started-at : (pid : ℕ) (running : List (ℕ × ℕ)) (places : List ℕ) (i : ℕ)
    → ((q : ℕ) → pid ≤ q → under q running ≡ None)
    → under (pid + i) (started pid running places) ≡ slice_get places i
unfolding started
started-at pid running [] i free = free (pid + i) (omega arith)
started-at pid running (place ∷ places) zero free =
    started-below (pid + 1) (named pid place running) places (pid + 0) (omega arith)
    ∙ ap (λ k. under k (named pid place running)) {x = pid + 0} {y = pid} (omega arith)
    ∙ named-own pid place running
started-at pid running (place ∷ places) (suc i) free =
    ap (λ k. under k (started (pid + 1) (named pid place running) places)) {x = pid + suc i} {y = pid + 1 + i}
    (omega arith)
    ∙ started-at (pid + 1) (named pid place running) places i
    (λ q above. named-other pid q place running (λ same. absurd (omega arith)) ∙ free q (omega arith))

pub runs-at_first : (listings : List Listing) (spawns : List ℕ) (i : ℕ)
    → under (i + 1) (known_at_start listings spawns).running ≡ slice_get spawns i
runs-at_first listings spawns i =
    ap (λ k. under k (started 1 [] spawns)) {x = i + 1} {y = 1 + i} (omega arith)
    ∙ started-at 1 [] spawns i (λ q above. refl)

started-rises : (pid : ℕ) (running : List (ℕ × ℕ)) (places : List ℕ) → IsRising running
    → IsRising (started pid running places)
unfolding started
started-rises pid running [] rises = rises
started-rises pid running (place ∷ places) rises =
    started-rises (pid + 1) (named pid place running) places (named-rises pid place running rises)

pub rises-at_first : (listings : List Listing) (spawns : List ℕ) → IsRising (known_at_start listings spawns).running
rises-at_first listings spawns = started-rises 1 [] spawns refl

-- ---- what is noted of one process

runs_now-own : (p : ℕ) (place : Option ℕ) (running : List (ℕ × ℕ)) → IsRising running
    → under p (runs_now p place running) ≡ place
runs_now-own p None running rises = under-without_id 0 p running rises
runs_now-own p (Some place) running rises = named-own p place running

runs_now-other : (p other : ℕ) (place : Option ℕ) (running : List (ℕ × ℕ)) → p ≢ other
    → under other (runs_now p place running) ≡ under other running
runs_now-other p other None running apart = under-without_id_other p other apart running
runs_now-other p other (Some place) running apart = named-other p other place running apart

-- what is noted as it was changes nothing
runs_now-same : (p : ℕ) (place : Option ℕ) (running : List (ℕ × ℕ)) → place ≡ under p running
    → under p (runs_now p place running) ≡ under p running
runs_now-same p None running is = ap (under p) (without_id-none p running (sym is))
runs_now-same p (Some place) running is = named-own p place running ∙ is

runs_now-rises : (p : ℕ) (place : Option ℕ) (running : List (ℕ × ℕ)) → IsRising running
    → IsRising (runs_now p place running)
runs_now-rises p None running rises = rises_from-without_id 0 p running rises
runs_now-rises p (Some place) running rises = named-rises p place running rises

running_after-rises : (news : Option News) (running : List (ℕ × ℕ)) → IsRising running
    → IsRising (running_after news running)
unfolding running_after
running_after-rises None running rises = rises
running_after-rises (Some news) running rises = runs_now-rises news.pid news.place running rises

running-rises : (names : Names) (n : ℕ) (es : List Entry) → IsRising names.running
    → IsRising (names_behind names n es).running
unfolding names_behind names_beyond
running-rises names n [] rises = rises
running-rises names n (e ∷ es) rises =
    running-rises (names_beyond names n e) (n + 1) es (running_after-rises (news_of names e) names.running rises)

-- ---- an entry that tells

id_in-below : (n : ℕ) → n < 4294967296 → id_in n ≡ Some n
unfolding id_in
id_in-below n below = ap (λ b. if b then Some n else None) (lt-ltb n 4294967296 below)

told-beyond : (names : Names) (n : ℕ) (e : Entry) (p : ℕ) (place : Option ℕ) → IsRising names.running
    → TellsProgram names e p place → under p (names_beyond names n e).running ≡ place
unfolding names_beyond running_after news_of call_news spawn_news read_news did_news made_by is_psinfo
told-beyond names n e p place rises (made program held is same) =
    ap (λ x. under p (running_after (news_of names (record { actor = e.actor; act = x })) names.running)) is
    ∙ runs_now-own p (listed_at names.listings program) names.running rises
    ∙ sym same
told-beyond names n e p place rises (forked parent l stop below is same) =
    ap (λ x. under p (running_after (news_of names x) names.running)) is
    ∙ ap (λ o. under p (running_after (inherited names.running parent (child_of o)) names.running))
    (id_in-below p below)
    ∙ runs_now-own p (under parent names.running) names.running rises
    ∙ sym same
told-beyond names n e p place rises (vforked parent l stop below is same) =
    ap (λ x. under p (running_after (news_of names x) names.running)) is
    ∙ ap (λ o. under p (running_after (inherited names.running parent (child_of o)) names.running))
    (id_in-below p below)
    ∙ runs_now-own p (under parent names.running) names.running rises
    ∙ sym same
told-beyond names n e p place rises (began_another l v stop is same) =
    ap (λ x. under p (running_after (news_of names x) names.running)) is
    ∙ runs_now-own p None names.running rises
    ∙ sym same
told-beyond names n e p place rises (shown h at len lwp mode bytes name is stands has same) =
    ap (λ x. under p (running_after (news_of names (record { actor = e.actor; act = x })) names.running)) is
    ∙ ap (λ o. under p (running_after (known_news names.listings o at bytes) names.running)) stands
    ∙ ap (λ o. under p (running_after (shown_news names.listings p o) names.running)) has
    ∙ runs_now-own p (listed_at names.listings name) names.running rises
    ∙ sym same

pub told-runs : (names : Names) (n : ℕ) (es : List Entry) (e : Entry) (p : ℕ) (place : Option ℕ)
    → IsRising names.running → TellsProgram (names_behind names n es) e p place
    → under p (names_behind names n (es ++ e ∷ [])).running ≡ place
told-runs names n es e p place rises tells =
    ap (λ (ns : Names). under p ns.running) (names_behind-end names n es e)
    ∙ told-beyond (names_behind names n es) (n + length es) e p place (running-rises names n es rises) tells

-- ---- an entry that tells nothing

-- an entry tells what is noted, or notes what stood
abbrev IsToldOrSame : Names → Entry → News → Type 0
IsToldOrSame names e news =
    TellsProgram names e news.pid news.place ⊎ (news.place ≡ under news.pid names.running)

told-spawn : (names : Names) (e : Entry) (program : List ℕ) (held : Bool) (r : Reply) (news : News)
    → e.act ≡ act.Call (call.Spawn program held) r → spawn_news names.listings program r ≡ Some news
    → IsToldOrSame names e news
unfolding spawn_news
told-spawn names e program held (reply.Pid p) news is tells =
    subst (IsToldOrSame names e) (same_Some _ news tells) (inl (made program held is refl))
told-spawn names e program held r news is tells = absurd (none-some news tells)

told-name : (names : Names) (e : Entry) (h at len pid lwp : ℕ) (mode : Mode) (bytes : List ℕ) (news : News)
    (name : Option (List ℕ)) → e.act ≡ act.Call (call.Read h at len) (reply.Bytes bytes)
    → under h names.handles ≡ Some (record { pid = pid; lwp = lwp; file = Psinfo; mode = mode })
    → name_shown at bytes ≡ name → shown_news names.listings pid name ≡ Some news → IsToldOrSame names e news
told-name names e h at len pid lwp mode bytes news None is stands has tells = absurd (none-some news tells)
told-name names e h at len pid lwp mode bytes news (Some name) is stands has tells =
    subst (IsToldOrSame names e) (same_Some _ news tells)
    (inl (shown h at len lwp mode bytes name is stands has refl))

told-file : (names : Names) (e : Entry) (h at len pid lwp : ℕ) (file : File) (mode : Mode) (bytes : List ℕ)
    (news : News) → e.act ≡ act.Call (call.Read h at len) (reply.Bytes bytes)
    → under h names.handles ≡ Some (record { pid = pid; lwp = lwp; file = file; mode = mode })
    → (if is_psinfo file then shown_news names.listings pid (name_shown at bytes) else None) ≡ Some news
    → IsToldOrSame names e news
unfolding is_psinfo
told-file names e h at len pid lwp Psinfo mode bytes news is stands tells =
    told-name names e h at len pid lwp mode bytes news (name_shown at bytes) is stands refl tells
told-file names e h at len pid lwp file mode bytes news is stands tells = absurd (none-some news tells)

told-known : (names : Names) (e : Entry) (h at len : ℕ) (bytes : List ℕ) (news : News) (known : Option Known)
    → e.act ≡ act.Call (call.Read h at len) (reply.Bytes bytes) → under h names.handles ≡ known
    → known_news names.listings known at bytes ≡ Some news → IsToldOrSame names e news
told-known names e h at len bytes news None is stands tells = absurd (none-some news tells)
told-known names e h at len bytes news (Some k) is stands tells =
    told-file names e h at len k.pid k.lwp k.file k.mode bytes news is stands tells

told-read : (names : Names) (e : Entry) (h at len : ℕ) (r : Reply) (news : News)
    → e.act ≡ act.Call (call.Read h at len) r → read_news names h at r ≡ Some news → IsToldOrSame names e news
unfolding read_news
told-read names e h at len (reply.Bytes bytes) news is tells =
    told-known names e h at len bytes news (under h names.handles) is refl tells
told-read names e h at len r news is tells = absurd (none-some news tells)

told-call : (names : Names) (e : Entry) (c : Call) (r : Reply) (news : News) → e.act ≡ act.Call c r
    → call_news names c r ≡ Some news → IsToldOrSame names e news
unfolding call_news
told-call names e (call.Spawn program held) r news is tells = told-spawn names e program held r news is tells
told-call names e (call.Read h at len) r news is tells = told-read names e h at len r news is tells
told-call names e c r news is tells = absurd (none-some news tells)

-- a child that was made, if its id can be one
told-child : (names : Names) (e : Entry) (p v : ℕ) (news : News) (small : Bool) → ltb v 4294967296 ≡ small
    → (v < 4294967296 → TellsProgram names e v (under p names.running))
    → inherited names.running p (child_of (if small then Some v else None)) ≡ Some news → IsToldOrSame names e news
told-child names e p v news true is tells noted =
    subst (IsToldOrSame names e) (same_Some _ news noted) (inl (tells (ltb-true v 4294967296 is)))
told-child names e p v news false is tells noted = absurd (none-some news noted)

-- an lwp more of its own process
told-lwp : (names : Names) (e : Entry) (p : ℕ) (news : News) (l : Option ℕ)
    → inherited names.running p (lwp_in p l) ≡ Some news → IsToldOrSame names e news
told-lwp names e p news None noted = absurd (none-some news noted)
told-lwp names e p news (Some l) noted = subst (IsToldOrSame names e) (same_Some _ news noted) (inr refl)

told-did : (names : Names) (e : Entry) (p l : ℕ) (did : Did) (stop : Bool) (news : News)
    → e ≡ record { actor = Lwp p l; act = act.Turn (record { did = did; stop = stop }) }
    → did_news names.running p did ≡ Some news → IsToldOrSame names e news
unfolding did_news made_by id_in
told-did names e p l (Made Exec (Value v)) stop news is noted =
    subst (IsToldOrSame names e) (same_Some _ news noted) (inl (began_another l v stop is refl))
told-did names e p l (Made Fork (Value v)) stop news is noted =
    told-child names e p v news (ltb v 4294967296) refl (λ below. forked p l stop below is refl) noted
told-did names e p l (Made Vfork (Value v)) stop news is noted =
    told-child names e p v news (ltb v 4294967296) refl (λ below. vforked p l stop below is refl) noted
told-did names e p l (Made LwpCreate (Value v)) stop news is noted =
    told-lwp names e p news (if ltb v 4294967296 then Some v else None) noted
told-did names e p l did stop news is noted = absurd (none-some news noted)

told-turn : (names : Names) (e : Entry) (by : Actor) (did : Did) (stop : Bool) (news : News)
    → e ≡ record { actor = by; act = act.Turn (record { did = did; stop = stop }) }
    → turn_news names.running by did ≡ Some news → IsToldOrSame names e news
told-turn names e (Lwp p l) did stop news is noted = told-did names e p l did stop news is noted
told-turn names e (Controller k) did stop news is noted = absurd (none-some news noted)
told-turn names e Clock did stop news is noted = absurd (none-some news noted)

told-act : (names : Names) (e : Entry) (by : Actor) (a : Act) (news : News) → e ≡ record { actor = by; act = a }
    → news_of names (record { actor = by; act = a }) ≡ Some news → IsToldOrSame names e news
unfolding news_of
told-act names e by (act.Call c r) news is noted =
    told-call names e c r news (ap (λ (d : Entry). d.act) is) noted
told-act names e by (act.Turn t) news is noted = told-turn names e by t.did t.stop news is noted
told-act names e by (act.Tick n) news is noted = absurd (none-some news noted)

-- what is noted of a process of which the entry tells nothing is what stood
untold-news : (names : Names) (e : Entry) (p : ℕ) (news : News) → IsToldOrSame names e news
    → ((place : Option ℕ) → TellsProgram names e p place → ⊥)
    → under p (runs_now news.pid news.place names.running) ≡ under p names.running
untold-news names e p news told none = by (cases_eq news.pid p) told
  where
    by : (news.pid ≡ p) ⊎ (news.pid ≡ p → ⊥) → IsToldOrSame names e news
        → under p (runs_now news.pid news.place names.running) ≡ under p names.running
    by (inl same) (inl tells) = absurd (none news.place (subst (λ q. TellsProgram names e q news.place) same tells))
    by (inl same) (inr stood) =
        subst (λ q. under q (runs_now news.pid news.place names.running) ≡ under q names.running) same
        (runs_now-same news.pid news.place names.running stood)
    by (inr apart) t = runs_now-other news.pid p news.place names.running apart

untold-beyond : (names : Names) (n : ℕ) (e : Entry) (p : ℕ) → ((place : Option ℕ) → TellsProgram names e p place → ⊥)
    → under p (names_beyond names n e).running ≡ under p names.running
unfolding names_beyond running_after
untold-beyond names n e p none = by (news_of names e) refl
  where
    by : (o : Option News) → news_of names e ≡ o
        → under p (running_after (news_of names e) names.running) ≡ under p names.running
    by None is = ap (λ o. under p (running_after o names.running)) is
    by (Some news) is =
        ap (λ o. under p (running_after o names.running)) is
        ∙ untold-news names e p news (told-act names e e.actor e.act news refl is) none

pub untold-runs : (names : Names) (n : ℕ) (es : List Entry) (e : Entry) (p : ℕ)
    → ((place : Option ℕ) → TellsProgram (names_behind names n es) e p place → ⊥)
    → under p (names_behind names n (es ++ e ∷ [])).running ≡ under p (names_behind names n es).running
untold-runs names n es e p none =
    ap (λ (ns : Names). under p ns.running) (names_behind-end names n es e)
    ∙ untold-beyond (names_behind names n es) (n + length es) e p none

-- the programs stay the same
pub listings-behind : (names : Names) (n : ℕ) (es : List Entry) → (names_behind names n es).listings ≡ names.listings
unfolding names_behind names_beyond
listings-behind names n [] = refl
listings-behind names n (e ∷ es) = listings-behind (names_beyond names n e) (n + 1) es
