use Rattle.std.proofs.Common.{◌≡◌, ℕ, IsSome, Some, Result, Ok, Err, List, [], ◌∷◌, ◌++◌, length, ap, ◌∙◌, arith, length-append}
use Rattle.std.proofs.lemmas.List.{append-nil}
use Rattle.pr_codec.proofs.WordLemmas.{length-word_bytes, words_bytes-two}
use Rattle.pr_mem.specs.Answers.{access_answer}
use Rattle.pr_mem.specs.declared.faults.MemFault.{MemFault}
use Rattle.pr_num.specs.Words.{word_bytes, words_bytes}
use Rattle.pr_num.specs.declared.mappings.BadByte.{BadByte}
use Rattle.pr_num.specs.declared.mappings.BadByte.TheVariants.{Hole, NotAllowed}
use Rattle.pr_lwp.specs.BadBytes.{bad_byte_of}

-- What an access answers where it fails.

-- a fault of an access names a byte
pub access-names : (r : Result (List ℕ) BadByte) (f : MemFault) → Err f ≡ access_answer r → IsSome (bad_byte_of f)
access-names (Ok bytes) f e = absurd (cc)
access-names (Err (Hole at)) f e = cc
access-names (Err (NotAllowed at)) f e = cc

-- and it is the one at which the access fails
pub access-fails : (r : Result (List ℕ) BadByte) (f : MemFault) (bad : BadByte) → Err f ≡ access_answer r
    → bad_byte_of f ≡ Some bad → Err bad ≡ r
access-fails (Ok bytes) f bad e named = absurd (cc)
access-fails (Err (Hole at)) f bad e named = cc
access-fails (Err (NotAllowed at)) f bad e named = cc

pub ruleset access_laws = (access-names, access-fails)

pub ruleset frame_laws = (words_bytes-two)

-- how many bytes are stored
pub length-word : (w : ℕ) → length (word_bytes w) ≡ 8
length-word w = length-word_bytes w

pub length-frame : (a b : ℕ) → length (word_bytes a ++ word_bytes b) ≡ 16
length-frame a b = length-append (word_bytes a) (word_bytes b) ∙ omega (arith, length-word_bytes a, length-word_bytes b)

pub ruleset size_laws = (length-word, length-frame)
