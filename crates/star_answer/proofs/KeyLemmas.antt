-- The key of a document goes by its ids in the dimensions that are grouped.
use Rattle.std.proofs.Common.{◌≡◌, ◌∙◌, ℕ, zero, suc, ◌+◌, ◌<◌, Bool, true, false, cond, All}
use Rattle.std.proofs.Common.{eqb, List, [], ◌∷◌, length, get_or, map, refl, sym, ap, subst, arith}
use Rattle.std.proofs.lemmas.Cmp.{nat_list_cmp_total}
use Rattle.std.proofs.lemmas.List.{get_or-map, length-map}
use Rattle.std.proofs.lemmas.List.Elements.{All-head, All-tail}
use Rattle.std.specs.List.{list_any}
use Rattle.std.proofs.lemmas.Bool.{eq-eqb, or_left, or_right}
use Rattle.values.specs.declared.value.Value.{Value}
use Rattle.state_columns.specs.Docs.{Doc}
use Rattle.star_tree.specs.Groups.{groups_of, key_from}
use Rattle.agg_laws.specs.Merged.{rekey, total}
use Rattle.star_tree.specs.Picks.{Task}
use Rattle.agg_laws.specs.Rows.{merged_rows}
use Rattle.agg_laws.specs.Tree.{dim, dims_order, star}
use Rattle.state_columns.proofs.DocLemmas.{rows_join}
use Rattle.state_columns.proofs.MergedLemmas.{total-Merged, total-rekey, total_agree}
use Rattle.state_columns.proofs.ListLemmas.{same_dims}
use Rattle.table_schema.specs.Columns.{is_member}
use Rattle.star_reader.specs.declared.asked.GroupColumn.{GroupColumn}
use Rattle.star_reader.specs.Asked.{key_of, value_of}

-- a combination that has a key: its ids in the dimensions that are grouped, and elsewhere the star
abbrev first_id : List ℕ → ℕ
first_id [] = star
first_id (x ∷ xs) = x

abbrev rest_ids : List ℕ → List ℕ
rest_ids [] = []
rest_ids (x ∷ xs) = xs

abbrev pub spread : Task → ℕ → ℕ → List ℕ → List ℕ
spread t zero d key = []
spread t (suc more) d key = cond (t.grouped d) (first_id key) star
    ∷ spread t more (suc d) (cond (t.grouped d) (rest_ids key) key)

-- it has the ids of each combination with this key, where these are grouped
spread_same : (t : Task) (more d i : ℕ) (x : List ℕ) → i < more → t.grouped (d + i) ≡ true
    → dim i (spread t more d (key_from t more d x)) ≡ dim (d + i) x
spread_same t zero d i x lt asked = absurd (omega (arith, lt))
spread_same t (suc more) d zero x lt asked =
    let same : d + 0 ≡ d = omega arith in
    own (t.grouped d) (ap t.grouped (sym same) ∙ asked) ∙ ap (λ n. dim n x) (sym same)
  where
    own : (b : Bool) → b ≡ true
        → cond b (first_id (cond b (dim d x ∷ key_from t more (suc d) x) (key_from t more (suc d) x)))
        star ≡ dim d x
    own true h = refl
    own false h = cc
spread_same t (suc more) d (suc i) x lt asked =
    let next : suc d + i ≡ d + suc i = omega arith in
    ap (λ key. dim i (spread t more (suc d) key)) (own (t.grouped d))
    ∙ spread_same t more (suc d) i x (omega (arith, lt)) (ap t.grouped next ∙ asked)
    ∙ ap (λ n. dim n x) next
  where
    own : (b : Bool)
        → cond b (rest_ids (cond b (dim d x ∷ key_from t more (suc d) x) (key_from t more (suc d) x)))
        (cond b (dim d x ∷ key_from t more (suc d) x) (key_from t more (suc d) x))
        ≡ key_from t more (suc d) x
    own true = refl
    own false = refl

-- each group column is of a dimension that is grouped
abbrev pub AreGrouped : Task → ℕ → List GroupColumn → Type 0
AreGrouped t k columns = All (λ column. (column.dim < k) × (t.grouped column.dim ≡ true)) columns

abbrev IsGrouped : Task → ℕ → GroupColumn → Type 0
IsGrouped t k column = (column.dim < k) × (t.grouped column.dim ≡ true)

-- a combination that has its key has its ids in them
pub spread_dim : (t : Task) (k : ℕ) (c : GroupColumn) (x : List ℕ)
    → (c.dim < k) × (t.grouped c.dim ≡ true)
    → dim c.dim (spread t k 0 (key_from t k 0 x)) ≡ dim c.dim x
spread_dim t k c x h =
    let none : 0 + c.dim ≡ c.dim = omega arith in
    spread_same t k 0 c.dim x h.0 (ap t.grouped none ∙ h.1) ∙ ap (λ n. dim n x) none

-- so the key by values goes by the key by ids
pub key_by_ids : (t : Task) (k : ℕ) (columns : List GroupColumn) (x : List ℕ)
    → AreGrouped t k columns → key_of columns x ≡ key_of columns (spread t k 0 (key_from t k 0 x))
key_by_ids t k [] x h = refl
key_by_ids t k (c ∷ cs) x h =
    let same = spread_dim t k c x (All-head (IsGrouped t k) c cs h) in
    λ i. value_of c (sym same i) ∷ key_by_ids t k cs x (All-tail (IsGrouped t k) c cs h) i

-- what documents with the same groups have at any test of keys is the same
module _ (t : Task) (k : ℕ) (xs ys : List Doc)
    (same : groups_of merged_rows t k xs ≡ groups_of merged_rows t k ys) where
  by_key : (r : List ℕ → Bool) (docs : List Doc)
      → total merged_rows (λ x. r (key_from t k 0 x)) docs
      ≡ total merged_rows r (groups_of merged_rows t k docs)
  by_key r docs =
      sym (total-rekey merged_rows rows_join (key_from t k 0) r docs)
      ∙ sym (total-Merged dims_order nat_list_cmp_total same_dims merged_rows rows_join r
      (rekey (key_from t k 0) docs))

  pub ids_total : (p : List ℕ → Bool) → ((x : List ℕ) → p x ≡ p (spread t k 0 (key_from t k 0 x)))
      → total merged_rows p xs ≡ total merged_rows p ys
  ids_total p agrees =
      let r : List ℕ → Bool = λ key. p (spread t k 0 key) in
      total_agree merged_rows rows_join p (λ x. r (key_from t k 0 x)) agrees xs
      ∙ by_key r xs ∙ ap (total merged_rows r) same ∙ sym (by_key r ys)
      ∙ sym (total_agree merged_rows rows_join p (λ x. r (key_from t k 0 x)) agrees ys)

  pub same_total : (columns : List GroupColumn) (p : List Value → Bool) → AreGrouped t k columns
      → total merged_rows (λ x. p (key_of columns x)) xs
      ≡ total merged_rows (λ x. p (key_of columns x)) ys
  same_total columns p h = ids_total (λ x. p (key_of columns x))
      (λ x. ap p (key_by_ids t k columns x h))

-- a number is a member of a list that has it
member_at : (ns : List ℕ) (i d : ℕ) → i < length ns → is_member ns (get_or ns i d) ≡ true
member_at [] i d lt = absurd (omega arith)
member_at (n ∷ ns) zero d lt = or_left (eqb n n) (list_any (λ m. eqb m n) ns) (eq-eqb n n refl)
member_at (n ∷ ns) (suc i) d lt = or_right (eqb n (get_or ns i d))
    (list_any (λ m. eqb m (get_or ns i d)) ns) (member_at ns i d (omega arith))

pub members : {X : Type 0} (f : X → ℕ) (xs : List X) → All (λ x. is_member (map f xs) (f x) ≡ true) xs
members f xs i d lt =
    let lengths = length-map xs f in
    subst (λ n. is_member (map f xs) n ≡ true) (get_or-map f xs i d 0 lt)
    (member_at (map f xs) i 0 (omega (arith, lengths, lt)))
