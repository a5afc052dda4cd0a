-- Each kind of word is read back, and no other word is read as one.
use Rattle.std.proofs.Common.{◌≡◌, ℕ, Bool, true, cond, Option, Some, None, List, [], ◌∷◌, refl, sym, ap, ◌∙◌}
use Rattle.std.specs.Fmt.{decimal}
use Rattle.std.specs.List.{All, AllByRecursion, list_all}
use Rattle.std.specs.Str.{bytes_eq}
use Rattle.std.proofs.lemmas.Bool.{and_from, lt-ltb, ltb-true}
use Rattle.std.proofs.lemmas.List.Elements.{All-weaker}
use Rattle.std.proofs.lemmas.List.Sums.{AllPass-from_list_all}
use Rattle.std.proofs.lemmas.Option.{cond_some}
use Rattle.pr_num.specs.Words.{IsByte}
use Rattle.pr_num.specs.declared.signals.Sig.{Sig}
use Rattle.pr_num.specs.Errnos.{errno_name, errno_of_name}
use Rattle.pr_num.specs.Faults.{fault_name, fault_of_name}
use Rattle.pr_num.specs.Signals.{signal_name, signal_of_name}
use Rattle.pr_num.specs.Syscalls.{syscall_name, syscall_of_name}
use Rattle.pr_num.proofs.EntryLemmas.{errno_of_name-name, errno_name-of_name, fault_of_name-name, fault_name-of_name, signal_of_name-name, syscall_of_name-name, syscall_name-of_name}
use Rattle.pr_text.specs.Names.{is_name, name_of}
use Rattle.pr_plain.specs.DecimalWords.{decimal_of, decimal_id_of}
use Rattle.pr_plain.specs.EntryForms.{is_number, is_id, is_byte}
use Rattle.pr_model.specs.FileNames.{file_name, file_of_name, mode_name, mode_of_name}
use Rattle.pr_plain.specs.HexWords.{bytes_of_word, hex_word}
use Rattle.pr_plain.specs.Readings.{◌>>=◌}
use Rattle.pr_plain.specs.WordReading.{signal_of, number_at, id_at, bytes_at, syscall_at, fault_at, signal_at, errno_at, file_at, mode_at, program_at}
use Rattle.pr_plain.proofs.DecimalLemmas.{decimal_of-word, decimal_of-decimal, decimal_id_of-word, decimal_id_of-decimal}
use Rattle.pr_plain.proofs.HexLemmas.{bytes_of_word-hex_word, hex_word-bytes_of_word, bytes_of_word-bytes}
use Rattle.pr_model.proofs.NameLemmas.{file_of_name-name, file_name-of_name, mode_of_name-name, mode_name-of_name}
use Rattle.pr_plain.proofs.RowLemmas.{Undoes, Takes, word_by, one_word, found_by}
use Rattle.std.proofs.lemmas.Slice.Eq.{bytes_eq-Decides}
use Rattle.pr_num.proofs.ListLemmas.{bytes_eq-self}

abbrev pub any : {A : Type 0} → A → Bool
any x = true

-- ---- bytes

all_bytes : (bs : List ℕ) → AllByRecursion IsByte bs → list_all is_byte bs ≡ true
all_bytes [] h = refl
all_bytes (b ∷ bs) h = and_from (is_byte b) (list_all is_byte bs) (lt-ltb b 256 h.0) (all_bytes bs h.1)

each_byte : (bs : List ℕ) → list_all is_byte bs ≡ true → All IsByte bs
each_byte bs h =
    All-weaker (λ b. is_byte b ≡ true) IsByte (λ b is. ltb-true b 256 is) bs (AllPass-from_list_all is_byte bs h)

-- ---- each kind of word

pub ids : Undoes decimal_id_of decimal is_id
ids = record {
  back = decimal_id_of-decimal;
  only = λ w n e. (decimal_id_of-word w n e).word;
  formed = λ w n e. (decimal_id_of-word w n e).small;
}

pub id_step : Takes id_at (λ n. decimal n ∷ []) is_id
unfolding id_at
id_step = one_word decimal_id_of decimal is_id ids

pub number_step : Takes number_at (λ n. decimal n ∷ []) is_number
unfolding number_at
number_step =
    one_word decimal_of decimal is_number
    (record {
      back = decimal_of-decimal;
      only = λ w n e. (decimal_of-word w n e).word;
      formed = λ w n e. (decimal_of-word w n e).small;
    })

pub bytes_step : Takes bytes_at (λ bs. hex_word bs ∷ []) (λ bs. list_all is_byte bs)
unfolding bytes_at
bytes_step =
    one_word bytes_of_word hex_word (λ bs. list_all is_byte bs)
    (record {
      back = λ bs h. bytes_of_word-hex_word bs (each_byte bs h);
      only = λ w bs e. sym (hex_word-bytes_of_word w bs e);
      formed = λ w bs e. all_bytes bs (bytes_of_word-bytes w bs e);
    })

pub program_step : Takes program_at (λ w. w ∷ []) is_name
unfolding program_at
program_step =
    one_word name_of (λ w. w) is_name
    (record {
      back = λ w h. ap (λ t. cond t (Some w) None) h;
      only = λ w x e. (cond_some (is_name w) w x e).1;
      formed = λ w x e. let p = cond_some (is_name w) w x e in ap is_name (sym p.1) ∙ p.0;
    })

-- ---- names: every value has one

pub by_name : {A : Type 0} (read : List ℕ → Option A) (write : A → List ℕ) → ((x : A) → read (write x) ≡ Some x)
    → ((w : List ℕ) (x : A) → read w ≡ Some x → w ≡ write x) → Takes (word_by read) (λ x. write x ∷ []) any
by_name read write back only =
    one_word read write any (record { back = λ x h. back x; only = only; formed = λ w x e. refl })

pub syscall_step : Takes syscall_at (λ c. syscall_name c ∷ []) any
unfolding syscall_at
syscall_step = by_name syscall_of_name syscall_name syscall_of_name-name syscall_name-of_name

pub fault_step : Takes fault_at (λ f. fault_name f ∷ []) any
unfolding fault_at
fault_step = by_name fault_of_name fault_name fault_of_name-name fault_name-of_name

pub errno_step : Takes errno_at (λ e. errno_name e ∷ []) any
unfolding errno_at
errno_step = by_name errno_of_name errno_name errno_of_name-name errno_name-of_name

signal_back : (s : Sig) → signal_of (signal_name s) ≡ Some s
unfolding signal_of
signal_back s =
    ap (λ o. o >>= λ t. cond (bytes_eq (signal_name s) (signal_name t)) (Some t) None) (signal_of_name-name s)
    ∙ ap (λ t. cond t (Some s) None) (bytes_eq-self (signal_name s))

signal_only : (w : List ℕ) (s : Sig) → signal_of w ≡ Some s → w ≡ signal_name s
unfolding signal_of
signal_only w s e =
    let p = found_by (signal_of_name w) (λ t. cond (bytes_eq w (signal_name t)) (Some t) None) s e in
    let q = cond_some (bytes_eq w (signal_name p.value)) p.value s p.then_is in
    (bytes_eq-Decides w (signal_name p.value)).0 q.0 ∙ ap signal_name q.1

pub signal_step : Takes signal_at (λ s. signal_name s ∷ []) any
unfolding signal_at
signal_step = by_name signal_of signal_name signal_back signal_only

pub file_step : Takes file_at (λ f. file_name f ∷ []) any
unfolding file_at
file_step = by_name file_of_name file_name file_of_name-name file_name-of_name

pub mode_step : Takes mode_at (λ m. mode_name m ∷ []) any
unfolding mode_at
mode_step = by_name mode_of_name mode_name mode_of_name-name mode_name-of_name
