-- Documents of a list, and ids of the values that satisfy a test.
use Rattle.std.proofs.Common.{◌≡◌, ◌∙◌, ◌<◌, ◌||◌, ◌∷◌, [], ℕ, zero, suc, Bool, true, false, nat_eq, eq-eqb, All, List, length, get_or, slice_get, refl, sym, ap, subst, arith}
use Rattle.std.proofs.lemmas.Bool.{eqb-true, false≢true}
use Rattle.std.proofs.lemmas.List.Elements.{All-from_get_or, All-head, All-tail}
use Rattle.values.specs.declared.test.Test.{Test}
use Rattle.values.specs.declared.value.Value.{Value}
use Rattle.value_ids.specs.Ids.{has_id, satisfies}
use Rattle.doc_lists.specs.Docs.{has_doc}

-- a document of a list is in it
pub has_own : (docs : List ℕ) (j : ℕ) → j < length docs → has_doc docs (get_or docs j 0) ≡ true
has_own [] j lt = absurd (omega (arith, lt))
has_own (d ∷ ds) zero lt = ap (λ b. b || has_doc ds d) (eq-eqb d d refl)
has_own (d ∷ ds) (suc j) lt = or_second (nat_eq (get_or ds j 0) d) (has_doc ds (get_or ds j 0)) (has_own ds j (omega (arith, lt)))
  where
    or_second : (a b : Bool) → b ≡ true → a || b ≡ true
    or_second true b e = refl
    or_second false b e = e

-- what holds of all of them holds of one that the list has
pub all_has : (P : ℕ → Type 0) (docs : List ℕ) (doc : ℕ) → has_doc docs doc ≡ true → All P docs → P doc
all_has P [] doc has all = absurd (false≢true has)
all_has P (d ∷ ds) doc has all = go (nat_eq doc d) refl has (all_has P ds doc)
  where
    go : (b : Bool) → nat_eq doc d ≡ b → b || has_doc ds doc ≡ true → (has_doc ds doc ≡ true → All P ds → P doc) → P doc
    go true same has later = subst P (sym (eqb-true doc d same)) (All-head P d ds all)
    go false same has later = later has (All-tail P d ds all)

-- the ids of the values that satisfy a test are below their number
pub matching_below : (values : List Value) (test : Test) (ids : List ℕ) → ((id : ℕ) → has_id ids id ≡ satisfies test (slice_get values id)) → All (λ id. id < length values) ids
matching_below values test ids each = All-from_get_or (λ id. id < length values) ids 0 (λ j lt. inside values (get_or ids j 0) (sym (each (get_or ids j 0)) ∙ has_own ids j lt))
  where
    inside : (vs : List Value) (id : ℕ) → satisfies test (slice_get vs id) ≡ true → id < length vs
    inside [] id is = absurd (false≢true is)
    inside (v ∷ vs) zero is = omega arith
    inside (v ∷ vs) (suc id) is = let more = inside vs id is in omega (arith, more)
