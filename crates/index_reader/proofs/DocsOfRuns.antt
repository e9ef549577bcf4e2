-- The documents of runs of ids are those whose id is in one of the runs.
use Rattle.std.proofs.Common.{◌≡◌, ◌∙◌, ℕ, zero, suc, ◌+◌, ◌-◌, ◌<◌, ◌≤◌, Bool, true, false, ◌&&◌, ◌||◌, nat_eq, nat_le, nat_lt, List, [], ◌∷◌, Option, Some, None, IfSome, length, get_or, refl, sym, ap, subst, arith}
use Rattle.std.specs.List.{range_with_len}
use Rattle.std.specs.List.Sorted.{IsNonDecreasing}
use Rattle.std.proofs.lemmas.Bool.{leb-true, leb-false, lt-ltb, le-ltb, ltb-true, ltb-false, eqb-false, ne_eqb}
use Rattle.std.proofs.lemmas.List.Folds.{list_any-append}
use Rattle.outside.specs.Files.{Files}
use Rattle.outside.specs.declared.place.Place.{Place}
use Rattle.bit_column.specs.Sections.{section}
use Rattle.bit_column.specs.SortedRuns.{first_place}
use Rattle.bit_column.proofs.PostingLaws.{less_few}
use Rattle.doc_lists.specs.Docs.{Apart, has_doc}
use Rattle.doc_lists.specs.Sets.{AreThose, Up, in_run, in_runs}
use Rattle.doc_lists.specs.declared.run.Run.{Run}
use Rattle.doc_lists.proofs.Runs.{up_from_less, up_increasing, up_range}
use Rattle.doc_lists.proofs.Sweep.{has_runs}
use Rattle.index_reader.specs.Documents.{TellsSorted, is_doc_of}
use Rattle.index_reader.specs.Runs.{AreRunsOf, docs_at, docs_in}
use Rattle.index_reader.proofs.FirstPlaces.{firsts_ascend, parted}

-- ---- the documents of a range

range_first : (t : Bool) (a n doc : ℕ) → nat_eq doc a ≡ t → a ≤ doc → doc < a + suc n → (a + 1 ≤ doc → has_doc (range_with_len (a + 1) n) doc ≡ true) → t || has_doc (range_with_len (a + 1) n) doc ≡ true
range_first true a n doc e from to rest = refl
range_first false a n doc e from to rest = let apart = eqb-false doc a e in rest (omega (arith, apart, from))

pub range_yes : (a n doc : ℕ) → a ≤ doc → doc < a + n → has_doc (range_with_len a n) doc ≡ true
range_yes a zero doc from to = absurd (omega (arith, from, to))
range_yes a (suc n) doc from to = range_first (nat_eq doc a) a n doc refl from to (λ more. range_yes (a + 1) n doc more (omega (arith, to)))

pub range_low : (a n doc : ℕ) → doc < a → has_doc (range_with_len a n) doc ≡ false
range_low a zero doc lt = refl
range_low a (suc n) doc lt = ap (λ t. t || has_doc (range_with_len (a + 1) n) doc) (ne_eqb doc a (λ e. omega (arith, e, lt))) ∙ range_low (a + 1) n doc (omega (arith, lt))

pub range_high : (a n doc : ℕ) → a + n ≤ doc → has_doc (range_with_len a n) doc ≡ false
range_high a zero doc le = refl
range_high a (suc n) doc le = ap (λ t. t || has_doc (range_with_len (a + 1) n) doc) (ne_eqb doc a (λ e. omega (arith, e, le))) ∙ range_high (a + 1) n doc (omega (arith, le))

-- ---- the documents of runs in ascending ids

within_by : (t u : Bool) (ids : List ℕ) (run : Run) (doc : ℕ) → IsNonDecreasing ids → run.first ≤ run.last → doc < length ids
    → nat_le run.first (get_or ids doc 0) ≡ t → nat_le (get_or ids doc 0) run.last ≡ u → has_doc (docs_at ids run) doc ≡ t && u
within_by false u ids run doc up order lt from to =
    let less = leb-false run.first (get_or ids doc 0) from in
    let is = parted ids run.first doc up lt ∙ lt-ltb (get_or ids doc 0) run.first less in
    range_low (first_place ids run.first) (first_place ids (run.last + 1) - first_place ids run.first) doc (ltb-true doc (first_place ids run.first) is)
within_by true true ids run doc up order lt from to =
    let low = leb-true run.first (get_or ids doc 0) from in
    let high = leb-true (get_or ids doc 0) run.last to in
    let one = ltb-false doc (first_place ids run.first) (parted ids run.first doc up lt ∙ le-ltb (get_or ids doc 0) run.first low) in
    let two = ltb-true doc (first_place ids (run.last + 1)) (parted ids (run.last + 1) doc up lt ∙ lt-ltb (get_or ids doc 0) (run.last + 1) (omega (arith, high))) in
    range_yes (first_place ids run.first) (first_place ids (run.last + 1) - first_place ids run.first) doc one (omega (arith, one, two))
within_by true false ids run doc up order lt from to =
    let high = leb-false (get_or ids doc 0) run.last to in
    let two = ltb-false doc (first_place ids (run.last + 1)) (parted ids (run.last + 1) doc up lt ∙ le-ltb (get_or ids doc 0) (run.last + 1) (omega (arith, high))) in
    let rise = firsts_ascend ids run.first (run.last + 1) (omega (arith, order)) in
    range_high (first_place ids run.first) (first_place ids (run.last + 1) - first_place ids run.first) doc (omega (arith, two, rise))

has_by : (t : Bool) (ids : List ℕ) (run : Run) (doc : ℕ) → IsNonDecreasing ids → run.first ≤ run.last → nat_lt doc (length ids) ≡ t → has_doc (docs_at ids run) doc ≡ t && in_run (get_or ids doc 0) run
has_by true ids run doc up order is = within_by (nat_le run.first (get_or ids doc 0)) (nat_le (get_or ids doc 0) run.last) ids run doc up order (ltb-true doc (length ids) is) refl refl
has_by false ids run doc up order is =
    let past = ltb-false doc (length ids) is in
    let rise = firsts_ascend ids run.first (run.last + 1) (omega (arith, order)) in
    range_high (first_place ids run.first) (first_place ids (run.last + 1) - first_place ids run.first) doc (omega (arith, past, less_few (run.last + 1) ids, rise))

pub spread : (t a b : Bool) → (t && a) || (t && b) ≡ t && (a || b)
spread true a b = refl
spread false a b = refl

and_none : (t : Bool) → false ≡ t && false
and_none true = refl
and_none false = refl

has_docs : (ids : List ℕ) (key : ℕ) (runs : List Run) (doc : ℕ) → IsNonDecreasing ids → Apart key runs → has_doc (docs_in ids runs) doc ≡ nat_lt doc (length ids) && in_runs runs (get_or ids doc 0)
has_docs ids key [] doc up apart = and_none (nat_lt doc (length ids))
has_docs ids key (run ∷ runs) doc up apart =
    let inside = nat_lt doc (length ids) in
    list_any-append (nat_eq doc) (docs_at ids run) (docs_in ids runs)
    ∙ ap (λ t. t || has_doc (docs_in ids runs) doc) (has_by inside ids run doc up apart.1 refl)
    ∙ ap (λ t. (inside && in_run (get_or ids doc 0) run) || t) (has_docs ids (run.last + 2) runs doc up apart.3)
    ∙ spread inside (in_run (get_or ids doc 0) run) (in_runs runs (get_or ids doc 0))

docs_up : (ids : List ℕ) (key : ℕ) (runs : List Run) → Apart key runs → Up (first_place ids key) (docs_in ids runs)
docs_up ids key [] apart = tt
docs_up ids key (run ∷ runs) apart =
    let rise = firsts_ascend ids run.first (run.last + 1) (omega (arith, apart.1)) in
    let more = firsts_ascend ids (run.last + 1) (run.last + 2) (omega arith) in
    up_range (first_place ids key) (first_place ids run.first) (first_place ids (run.last + 1) - first_place ids run.first) (docs_in ids runs) (firsts_ascend ids key run.first apart.0)
    (up_from_less (first_place ids (run.last + 2)) (first_place ids run.first + (first_place ids (run.last + 1) - first_place ids run.first)) (docs_in ids runs) (omega (arith, rise, more)) (docs_up ids (run.last + 2) runs apart.3))

-- whether an id is in one of the runs of a set
pub in_set : (set : List ℕ) (runs : List Run) (id : ℕ) → AreRunsOf set runs → in_runs runs id ≡ has_doc set id
in_set set runs id are = sym (has_runs runs id) ∙ ap (λ docs. has_doc docs id) are.1

pub sorted_those : (set ids docs : List ℕ) (runs : List Run) → AreRunsOf set runs → IsNonDecreasing ids → docs ≡ docs_in ids runs → AreThose (is_doc_of set ids) docs
sorted_those set ids docs runs are up is = subst (AreThose (is_doc_of set ids)) (sym is) (record {
  ascend = up_increasing (first_place ids 0) (docs_in ids runs) (docs_up ids 0 runs are.0);
  those = λ doc. has_docs ids 0 runs doc up are.0 ∙ ap (λ t. nat_lt doc (length ids) && t) (in_set set runs (get_or ids doc 0) are);
})

pub sorted_told : (held : Option Files) (place : Place) (count rows : ℕ) (set docs : List ℕ) (runs : List Run) → AreRunsOf set runs
    → IfSome held (λ files. (told : List ℕ) → TellsSorted count rows (section files place) told → docs ≡ docs_in told runs)
    → IfSome held (λ files. (told : List ℕ) → TellsSorted count rows (section files place) told → AreThose (is_doc_of set told) docs)
sorted_told None place count rows set docs runs are is = tt
sorted_told (Some files) place count rows set docs runs are is = λ told tells. sorted_those set told docs runs are tells.1 (is told tells)
