-- The blocks of entries, told one after another.
use Rattle.std.proofs.Common.{◌≡◌, ℕ, ◌+◌, ◌≤◌, false, List, [], ◌++◌, Option, Some, length, drop, Bor, sym, ap, ◌∙◌, append_assoc, arith}
use Rattle.std.proofs.lemmas.List.{append-nil, length-drop, nil_from_length}
use Rattle.std.specs.List.{slice_get}
use Rattle.std.specs.Option.{option_copied}
use Rattle.pr_num.proofs.ListLemmas.{drop-at}
use Rattle.pr_model.specs.declared.events.Entry.{Entry}
use Rattle.pr_hist.specs.Entries.{words_of, blocks}
use Rattle.pr_hist.specs.Names.{Names}
use Rattle.pr_hist.specs.News.{names_beyond}
use Rattle.pr_hist.specs.Selections.{selected, selected_blocks}
use Rattle.pr_hist.specs.declared.selections.Selection.{Selection}

-- what was found at a place stands there
pub entry_found : (at : Option (Bor Entry)) (h : List Entry) (i : ℕ) (e : Bor Entry) → at ≡ Some e
    → option_copied at ≡ slice_get h i → slice_get h i ≡ Some e.now
entry_found at h i e is found = sym found ∙ ap option_copied is

-- nothing is left from the end on
pub drop-past : (i : ℕ) (h : List Entry) → length h ≤ i → drop i h ≡ []
drop-past i h past = nil_from_length (drop i h) (omega (arith, past, length-drop i h))

-- from a place on: the block of the entry there, and those of the others
blocks-more : (i : ℕ) (names : Names) (h : List Entry) (e : Entry) → slice_get h i ≡ Some e
    → blocks i names (drop i h) ≡ words_of false i names e ++ blocks (i + 1) (names_beyond names i e) (drop (i + 1) h)
unfolding blocks
blocks-more i names h e here = ap (blocks i names) (drop-at h i e here)

-- what was told, and the block behind it, leaves the others to be told
pub blocks-next : (i : ℕ) (names beyond : Names) (h : List Entry) (e : Entry) (now next all : List ℕ)
    → slice_get h i ≡ Some e → beyond ≡ names_beyond names i e → next ≡ now ++ words_of false i names e
    → now ++ blocks i names (drop i h) ≡ all → next ++ blocks (i + 1) beyond (drop (i + 1) h) ≡ all
blocks-next i names beyond h e now next all here noted is before =
    ap (λ t. t ++ blocks (i + 1) beyond (drop (i + 1) h)) is
    ∙ ap (λ ns. now ++ words_of false i names e ++ blocks (i + 1) ns (drop (i + 1) h)) noted
    ∙ append_assoc now (words_of false i names e) (blocks (i + 1) (names_beyond names i e) (drop (i + 1) h))
    ∙ ap (λ t. now ++ t) (sym (blocks-more i names h e here))
    ∙ before

-- all is told where no entry is left
pub blocks-done : (i : ℕ) (names : Names) (h : List Entry) (now all : List ℕ) → length h ≤ i
    → now ++ blocks i names (drop i h) ≡ all → now ≡ all
unfolding blocks
blocks-done i names h now all past is =
    sym (append-nil now) ∙ ap (λ es. now ++ blocks i names es) (sym (drop-past i h past)) ∙ is

-- ---- the same of those entries that are told

selected-more : (s : Selection) (i : ℕ) (names : Names) (h : List Entry) (e : Entry) → slice_get h i ≡ Some e
    → selected_blocks s i names (drop i h)
    ≡ selected s i names e ++ selected_blocks s (i + 1) (names_beyond names i e) (drop (i + 1) h)
unfolding selected_blocks
selected-more s i names h e here = ap (selected_blocks s i names) (drop-at h i e here)

pub selected-next : (s : Selection) (i : ℕ) (names beyond : Names) (h : List Entry) (e : Entry) (now next all : List ℕ)
    → slice_get h i ≡ Some e → beyond ≡ names_beyond names i e → next ≡ now ++ selected s i names e
    → now ++ selected_blocks s i names (drop i h) ≡ all
    → next ++ selected_blocks s (i + 1) beyond (drop (i + 1) h) ≡ all
selected-next s i names beyond h e now next all here noted is before =
    ap (λ t. t ++ selected_blocks s (i + 1) beyond (drop (i + 1) h)) is
    ∙ ap (λ ns. now ++ selected s i names e ++ selected_blocks s (i + 1) ns (drop (i + 1) h)) noted
    ∙ append_assoc now (selected s i names e) (selected_blocks s (i + 1) (names_beyond names i e) (drop (i + 1) h))
    ∙ ap (λ t. now ++ t) (sym (selected-more s i names h e here))
    ∙ before

pub selected-done : (s : Selection) (i : ℕ) (names : Names) (h : List Entry) (now all : List ℕ) → length h ≤ i
    → now ++ selected_blocks s i names (drop i h) ≡ all → now ≡ all
unfolding selected_blocks
selected-done s i names h now all past is =
    sym (append-nil now) ∙ ap (λ es. now ++ selected_blocks s i names es) (sym (drop-past i h past)) ∙ is
