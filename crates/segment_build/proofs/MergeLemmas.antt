-- The merged documents of trees, one tree after the other.
use Rattle.std.proofs.Common.{◌≡◌, ◌∙◌, ◌<◌, ◌+◌, inl, inr, Err, ℕ, zero, suc, List, [], ◌∷◌, ◌++◌, length, length-drop, drop, take, get_or, sym, ap, subst, arith}
use Rattle.std.proofs.lemmas.Slice.Zip.{AllZip-long}
use Rattle.std.specs.List.{All, AllZip}
use Rattle.values.specs.declared.value.Value.{Value}
use Rattle.values.specs.Columns.{ListedColumns}
use Rattle.table_schema.specs.declared.settings.TreeSetting.{TreeSetting}
use Rattle.table_schema.specs.declared.table.Table.{Table}
use Rattle.segment_file.specs.Trees.{TreeFits}
use Rattle.segment_build.specs.declared.grown.Grown.{Grown}
use Rattle.segment_build.specs.declared.fault.BuildFault.{BuildFault}
use Rattle.segment_build.specs.declared.fault.BuildFault.TheVariants.{NoMemory, TooLarge}
use Rattle.segment_build.specs.Growing.{IsBuilt, nodes_grown, stars_grown}
use Rattle.segment_build.specs.Made.{each_bytes}
use Rattle.segment_build.proofs.ColumnCodes.{in_rows}

pub zip_push : {A B : Type 0} (R : A → B → Type 0) (xs : List A) (ys : List B) (x : A) (y : B) → AllZip R xs ys → R x y → AllZip R (xs ++ x ∷ []) (ys ++ y ∷ [])
zip_push R [] [] x y all one = (one, tt)
zip_push R [] (b ∷ ys) x y all one = absurd all
zip_push R (a ∷ xs) [] x y all one = absurd all
zip_push R (a ∷ xs) (b ∷ ys) x y all one = (all.0, zip_push R xs ys x y all.1 one)

-- the item that is left of the second list, and that of the first
pub zip_next : {A B : Type 0} (R : A → B → Type 0) (xs : List A) (ys zs : List B) (y : B) (at : ℕ) (x : A) → AllZip R xs ys → drop at ys ≡ y ∷ zs → at < length xs
    → x ≡ get_or xs at x → R x y
zip_next R [] ys zs y at x all is lt same = absurd (omega (arith, lt))
zip_next R (a ∷ xs) [] zs y at x all is lt same = absurd all
zip_next R (a ∷ xs) (b ∷ ys) zs y zero x all is lt same =
    let here : b ≡ y = cc in
    subst (λ v. R v y) (sym same) (subst (R a) here all.0)
zip_next R (a ∷ xs) (b ∷ ys) zs y (suc at) x all is lt same = zip_next R xs ys zs y at x all.1 is (omega (arith, lt)) same

-- there is one left
pub zip_some : {A B : Type 0} (R : A → B → Type 0) (xs : List A) (ys : List B) (at : ℕ) → AllZip R xs ys → at < length xs → drop at ys ≡ [] → ⊥
zip_some R xs ys at all lt none =
    let n = ap length none in
    omega (arith, lt, n, length-drop at ys, AllZip-long R xs ys all)

pub drop_next : {A : Type 0} (xs ys : List A) (y : A) (at : ℕ) → drop at xs ≡ y ∷ ys → drop (at + 1) xs ≡ ys
drop_next [] ys y zero is = absurd cc
drop_next [] ys y (suc at) is = absurd cc
drop_next (x ∷ xs) ys y zero is = let e : xs ≡ ys = cc in e
drop_next (x ∷ xs) ys y (suc at) is =
    let next : suc at + 1 ≡ suc (at + 1) = omega arith in
    ap (λ n. drop n (x ∷ xs)) next ∙ drop_next xs ys y at is

-- the sections of the first so many trees
pub record HaveGrown (table : Table) (t : ListedColumns) (at : ℕ) (trees : List TreeSetting) (grown : Grown) : Type 0 where
  pub nodes : each_bytes grown.nodes.items ≡ nodes_grown (in_rows table t) (take at trees)
  pub stars : each_bytes grown.stars.items ≡ stars_grown (in_rows table t) (take at trees)
  pub fits : All (TreeFits (in_rows table t)) (take at trees)

-- a refusal is handed on
pub built_err : {A B : Type 0} (table : Table) (rows : List (List Value)) (fault : BuildFault) → IsBuilt {A = A} table rows (Err fault) → IsBuilt {A = B} table rows (Err fault)
built_err table rows fault built = record {
  fits = tt;
  too_large = built.too_large;
  only = elim built.only [
    | inl is ↦ (let e : fault ≡ NoMemory = cc in inl (ap Err e))
    | inr large ↦ (let is = large.1 in let e : fault ≡ TooLarge large.0 = cc in inr (large.0, ap Err e))
  ];
}
