-- Marks of documents: words of 64 bits, with a bit for each document.
use Rattle.std.specs.Prelude.{◌≡◌, ◌≤◌, ℕ, Bool, ◌*◌, ◌/◌, ◌%◌, ◌^◌, ◌||◌, ◌<◌, nat_eq, false, List, length, get_or}
use Rattle.std.specs.Int.{bit_at}
use Rattle.std.specs.List.{filter, range_with_len}
use Rattle.doc_lists.specs.Docs.{has_doc}
use Rattle.doc_lists.specs.Sets.{Swept}

-- whether a bit of a word is set
abbrev pub has_bit : ℕ → ℕ → Bool
has_bit word place = nat_eq (bit_at word place) 1

-- whether a document is marked, by a bit of words of 64 bits
abbrev pub is_marked : List ℕ → ℕ → Bool
is_marked marks doc = has_bit (get_or marks (doc / 64) 0) (doc % 64)

-- the documents that are marked, ascending
abbrev pub marked_docs : List ℕ → List ℕ
marked_docs marks = filter (is_marked marks) (range_with_len 0 (64 * length marks))

-- no document from one on is marked
abbrev pub MarkedBelow : ℕ → List ℕ → Type 0
MarkedBelow rows marks = (doc : ℕ) → rows ≤ doc → is_marked marks doc ≡ false

-- the marks of documents after those of a list were set
abbrev pub Marked : List ℕ → List ℕ → List ℕ → Type 0
Marked docs old new = (doc : ℕ) → is_marked new doc ≡ is_marked old doc || has_doc docs doc

-- the documents of which the test holds are marked, in as many words as a document of 32 bits
-- needs, and no others
pub record AreMarksOf (test : ℕ → Bool) (marks : List ℕ) : Type 0 where
  pub at_most : length marks ≤ 2 ^ 26
  pub those : (doc : ℕ) → is_marked marks doc ≡ test doc

-- a list that was swept up to a document is swept up to another, where the test holds just of the
-- documents that are marked
abbrev pub SweepsMarks : ℕ → ℕ → List ℕ → List ℕ → List ℕ → Type 0
SweepsMarks first end marks old new =
    (test : ℕ → Bool) → Swept test first old → ((doc : ℕ) → first ≤ doc → doc < end
    → test doc ≡ is_marked marks doc) → Swept test end new
