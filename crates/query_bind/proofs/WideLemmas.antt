-- Folds over conditions that are joined, as equations of lists.
use Rattle.std.proofs.Common.{◌≡◌, ◌==◌, ℕ, Bool, true, false, ◌&&◌, List, [], ◌∷◌, ◌++◌, map, flat_map, Some, None, if◌then◌else◌, refl, sym, ap, ◌∙◌, subst, eq-eqb, unwrap_or}
use Rattle.std.specs.List.{list_all}
use Rattle.std.proofs.lemmas.Bool.{false≢true}
use Rattle.std.proofs.lemmas.List.Folds.{flat_map-map}
use Rattle.std.proofs.lemmas.Option.{none-some}
use Rattle.values.specs.declared.test.Test.{Test}
use Rattle.values.specs.declared.test.Test.TheVariants as test
use Rattle.table_schema.specs.declared.query.Wide.{Wide}
use Rattle.table_schema.specs.declared.query.Wide.TheVariants as wide
use Rattle.table_schema.specs.declared.query.Wide.TheVariants.{rolls-Leaf, rolls-All, rolls-Any}
use Rattle.table_schema.specs.declared.query.Wide.TheOpen.{Wide-F}
use Rattle.table_schema.specs.declared.query.Wide.TheFolds.{fold-roll-Wide}
use Rattle.table_schema.specs.declared.query.Wide.TheViews.{out-Wide, out-roll-Wide}
use Rattle.query_bind.specs.Conjuncts.{first, only_field, test_step, test_of, members_of_all, members_of_any, conjoined, disjoined}
use Rattle.table_schema.specs.ValidQuery.{fields_step, fields_of}

and_right : (a b : Bool) → a && b ≡ true → b ≡ true
and_right true b e = e
and_right false b e = absurd (false≢true e)

and_rest : (a b : Bool) → a ≡ true → a && b ≡ false → b ≡ false
and_rest true b e h = h
and_rest false b e h = absurd (false≢true e)

-- ---- the fields that are named

pub fields_of-Leaf : (field : ℕ) (t : Test) → fields_of (wide.Leaf field t) ≡ field ∷ []
fields_of-Leaf field t = ap fields_of (sym (rolls-Leaf field t)) ∙ fold-roll-Wide (List ℕ) fields_step (Wide-F.Leaf field t)

pub fields_of-All : (ws : List Wide) → fields_of (wide.All ws) ≡ flat_map fields_of ws
fields_of-All ws = ap fields_of (sym (rolls-All ws)) ∙ fold-roll-Wide (List ℕ) fields_step (Wide-F.All ws) ∙ flat_map-map (λ fields. fields) fields_of ws

pub fields_of-Any : (ws : List Wide) → fields_of (wide.Any ws) ≡ flat_map fields_of ws
fields_of-Any ws = ap fields_of (sym (rolls-Any ws)) ∙ fold-roll-Wide (List ℕ) fields_step (Wide-F.Any ws) ∙ flat_map-map (λ fields. fields) fields_of ws

pub here_All : {A : Type 0} (f : List ℕ → A) (w : Wide) (inner ws : List Wide) → w ≡ wide.All inner → ws ≡ inner → f (flat_map fields_of ws) ≡ f (fields_of w)
here_All f w inner ws is same = ap (λ vs. f (flat_map fields_of vs)) same ∙ ap f (sym (fields_of-All inner)) ∙ ap (λ v. f (fields_of v)) (sym is)

pub here_Any : {A : Type 0} (f : List ℕ → A) (w : Wide) (inner ws : List Wide) → w ≡ wide.Any inner → ws ≡ inner → f (flat_map fields_of ws) ≡ f (fields_of w)
here_Any f w inner ws is same = ap (λ vs. f (flat_map fields_of vs)) same ∙ ap f (sym (fields_of-Any inner)) ∙ ap (λ v. f (fields_of v)) (sym is)

pub first_more : (xs ys : List ℕ) (x : ℕ) → first xs ≡ Some x → first (xs ++ ys) ≡ Some x
first_more [] ys x e = absurd (none-some x e)
first_more (y ∷ xs) ys x e = e

pub first_rest : (xs ys : List ℕ) → first xs ≡ None → first (xs ++ ys) ≡ first ys
first_rest [] ys e = refl
first_rest (x ∷ xs) ys e = absurd (none-some x (sym e))

-- ---- the tests

pub test_of-Leaf : (field : ℕ) (t : Test) → test_of (wide.Leaf field t) ≡ t
test_of-Leaf field t = ap test_of (sym (rolls-Leaf field t)) ∙ fold-roll-Wide Test test_step (Wide-F.Leaf field t)

pub test_of-All : (ws : List Wide) → test_of (wide.All ws) ≡ test.All (map test_of ws)
test_of-All ws = ap test_of (sym (rolls-All ws)) ∙ fold-roll-Wide Test test_step (Wide-F.All ws)

pub test_of-Any : (ws : List Wide) → test_of (wide.Any ws) ≡ test.Any (map test_of ws)
test_of-Any ws = ap test_of (sym (rolls-Any ws)) ∙ fold-roll-Wide Test test_step (Wide-F.Any ws)

-- ---- members

pub conjoined-Leaf : (field : ℕ) (t : Test) → conjoined (wide.Leaf field t) ≡ wide.Leaf field t ∷ []
conjoined-Leaf field t = ap (λ layer. members_of_all layer (wide.Leaf field t)) (ap out-Wide (sym (rolls-Leaf field t)) ∙ out-roll-Wide (Wide-F.Leaf field t))

pub conjoined-All : (ws : List Wide) → conjoined (wide.All ws) ≡ ws
conjoined-All ws = ap (λ layer. members_of_all layer (wide.All ws)) (ap out-Wide (sym (rolls-All ws)) ∙ out-roll-Wide (Wide-F.All ws))

pub conjoined-Any : (ws : List Wide) → conjoined (wide.Any ws) ≡ wide.Any ws ∷ []
conjoined-Any ws = ap (λ layer. members_of_all layer (wide.Any ws)) (ap out-Wide (sym (rolls-Any ws)) ∙ out-roll-Wide (Wide-F.Any ws))

pub disjoined-Leaf : (field : ℕ) (t : Test) → disjoined (wide.Leaf field t) ≡ wide.Leaf field t ∷ []
disjoined-Leaf field t = ap (λ layer. members_of_any layer (wide.Leaf field t)) (ap out-Wide (sym (rolls-Leaf field t)) ∙ out-roll-Wide (Wide-F.Leaf field t))

pub disjoined-All : (ws : List Wide) → disjoined (wide.All ws) ≡ wide.All ws ∷ []
disjoined-All ws = ap (λ layer. members_of_any layer (wide.All ws)) (ap out-Wide (sym (rolls-All ws)) ∙ out-roll-Wide (Wide-F.All ws))

pub disjoined-Any : (ws : List Wide) → disjoined (wide.Any ws) ≡ ws
disjoined-Any ws = ap (λ layer. members_of_any layer (wide.Any ws)) (ap out-Wide (sym (rolls-Any ws)) ∙ out-roll-Wide (Wide-F.Any ws))

-- ---- the field that alone is named

pub found_only : (fields : List ℕ) (field : ℕ) → first fields ≡ Some field → list_all (λ other. other == field) fields ≡ true → Some field ≡ only_field fields
found_only [] field e named = absurd (none-some field e)
found_only (x ∷ xs) field e named =
    let here : x ≡ field = ap (λ o. unwrap_or o field) e in
    let rest : list_all (λ other. other == x) xs ≡ true = subst (λ f. list_all (λ other. other == f) xs ≡ true) (sym here) (and_right (x == field) (list_all (λ other. other == field) xs) named) in
    ap Some (sym here) ∙ ap (λ b. if b then Some x else None) (sym rest)

pub found_other : (fields : List ℕ) (field : ℕ) → first fields ≡ Some field → list_all (λ other. other == field) fields ≡ false → None ≡ only_field fields
found_other [] field e named = absurd (none-some field e)
found_other (x ∷ xs) field e named =
    let here : x ≡ field = ap (λ o. unwrap_or o field) e in
    let rest : list_all (λ other. other == x) xs ≡ false = subst (λ f. list_all (λ other. other == f) xs ≡ false) (sym here) (and_rest (x == field) (list_all (λ other. other == field) xs) (eq-eqb x field here) named) in
    ap (λ b. if b then Some x else None) (sym rest)
