-- Sets of documents that are kept as runs or as words.
use Rattle.std.proofs.Common.{◌≡◌, ◌∙◌, ℕ, ◌<◌, ◌≤◌, ◌^◌, Bool, true, false, ◌&&◌, ◌||◌, List, All, length, refl, sym, ap, ap₂, subst}
use Rattle.std.specs.List.Sorted.{IsStrictlyIncreasing}
use Rattle.doc_lists.specs.Docs.{docs_of, has_doc}
use Rattle.doc_lists.specs.Kept.{IsKept, docs_kept}
use Rattle.doc_lists.specs.Marks.{AreMarksOf, is_marked, marked_docs}
use Rattle.doc_lists.specs.Sets.{AreThose, in_runs}
use Rattle.doc_lists.specs.declared.doc_set.Kept.{Kept}
use Rattle.doc_lists.specs.declared.doc_set.Kept.TheVariants.{Runs, Words}
use Rattle.doc_lists.specs.declared.run.Run.{Run}
use Rattle.doc_lists.proofs.MarkSteps.{those_below}
use Rattle.doc_lists.proofs.MarkedDocs.{marked_has, marked_increase, marked_those}
use Rattle.doc_lists.proofs.Sweep.{has_runs, none_from}

pub kept_increase : (kept : Kept) → IsKept kept → IsStrictlyIncreasing (docs_kept kept)
kept_increase (Runs docs) ascend = ascend
kept_increase (Words marks) at_most = marked_increase marks.items

-- documents that were marked
pub marked_of : (docs marks : List ℕ) → AreMarksOf (has_doc docs) marks → AreThose (has_doc docs) (marked_docs marks)
marked_of docs marks are = marked_those (has_doc docs) marks are.those

pub marked_below : (rows : ℕ) (docs marks : List ℕ) → All (λ doc. doc < rows) docs → AreMarksOf (has_doc docs) marks → All (λ doc. doc < rows) (marked_docs marks)
marked_below rows docs marks below are = those_below (has_doc docs) rows (marked_docs marks) (λ doc from. none_from docs rows doc below from) (marked_of docs marks are)

-- the words of a set
pub runs_words : (runs : List Run) (docs marks : List ℕ) → docs_of runs ≡ docs → AreMarksOf (in_runs runs) marks → AreMarksOf (has_doc docs) marks
runs_words runs docs marks is are = record {
  at_most = are.at_most;
  those = λ doc. are.those doc ∙ sym (has_runs runs doc) ∙ ap (λ xs. has_doc xs doc) is;
}

pub same_words : (words docs marks : List ℕ) → marked_docs words ≡ docs → marks ≡ words → AreMarksOf (is_marked words) words → AreMarksOf (has_doc docs) marks
same_words words docs marks is same are = record {
  at_most = subst (λ ws. length ws ≤ 2 ^ 26) (sym same) are.at_most;
  those = λ doc. ap (λ ws. is_marked ws doc) same ∙ sym (marked_has words doc) ∙ ap (λ xs. has_doc xs doc) is;
}

pub own_words : (words : List ℕ) → length words ≤ 2 ^ 26 → AreMarksOf (is_marked words) words
own_words words le = record { at_most = le; those = λ doc. refl }

-- words that were put together have the documents of two sets
pub set_those : (op : Bool → Bool → Bool) (a b ours theirs x y new : List ℕ) → x ≡ ours → y ≡ theirs → AreMarksOf (has_doc a) ours → AreMarksOf (has_doc b) theirs
    → ((doc : ℕ) → is_marked new doc ≡ op (is_marked x doc) (is_marked y doc)) → AreThose (λ doc. op (has_doc a doc) (has_doc b doc)) (marked_docs new)
set_those op a b ours theirs x y new first second one other is = marked_those (λ doc. op (has_doc a doc) (has_doc b doc)) new (λ doc.
    is doc ∙ ap₂ op (ap (λ ws. is_marked ws doc) first ∙ one.those doc) (ap (λ ws. is_marked ws doc) second ∙ other.those doc))

pub or_swap : (a b : Bool) → a || b ≡ b || a
or_swap true true = refl
or_swap true false = refl
or_swap false true = refl
or_swap false false = refl

-- the documents of a list that are marked are those of two sets
pub looked_those : (list a slice words b both found : List ℕ) → list ≡ a → slice ≡ words → marked_docs words ≡ b → found ≡ both → AreThose (λ doc. has_doc list doc && is_marked slice doc) both
    → AreThose (λ doc. has_doc a doc && has_doc b doc) found
looked_those list a slice words b both found one same other is are = subst (AreThose (λ doc. has_doc a doc && has_doc b doc)) (sym is) (record {
  ascend = are.ascend;
  those = λ doc.
      are.those doc
      ∙ ap₂ (λ x y. x && y) (ap (λ xs. has_doc xs doc) one) (ap (λ ws. is_marked ws doc) same ∙ sym (marked_has words doc) ∙ ap (λ xs. has_doc xs doc) other);
})
