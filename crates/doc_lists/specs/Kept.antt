-- The documents of a set, as it keeps them.
use Rattle.std.specs.Prelude.{◌≤◌, ◌^◌, ℕ, List, length}
use Rattle.std.specs.List.Sorted.{IsStrictlyIncreasing}
use Rattle.doc_lists.specs.Marks.{marked_docs}
use Rattle.doc_lists.specs.declared.doc_set.Kept.{Kept}
use Rattle.doc_lists.specs.declared.doc_set.Kept.TheVariants.{Runs, Words}

-- the documents, ascending
abbrev pub docs_kept : Kept → List ℕ
docs_kept (Runs docs) = docs
docs_kept (Words marks) = marked_docs marks.items

-- a list ascends, and words are no more than a document of 32 bits needs
abbrev pub IsKept : Kept → Type 0
IsKept (Runs docs) = IsStrictlyIncreasing docs
IsKept (Words marks) = length marks.items ≤ 2 ^ 26
