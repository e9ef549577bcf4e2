-- Where a rule of a head fails, not all hold.
use Rattle.std.proofs.Common.{◌≡◌, ◌∙◌, ◌+◌, ℕ, All, List, [], ◌∷◌, ◌++◌, length, get_or, take, refl, sym, ap, ap₂, subst, arith}
use Rattle.std.proofs.lemmas.List.Elements.{All-head, All-tail}
use Rattle.data_types.specs.declared.kind.FieldKind.TheVariants.{Long}
use Rattle.table_schema.specs.declared.table.Table.{Table}
use Rattle.value_ids.specs.Dictionary.{Distinct}
use Rattle.dictionary.proofs.Spells.{spells_one}
use Rattle.segment_file.specs.declared.part.Part.{Part}
use Rattle.segment_file.specs.declared.part.Part.TheVariants as parts
use Rattle.segment_file.specs.Bounds.{bounds_bytes, bounds_of}
use Rattle.segment_file.specs.Front.{Front, front_size}
use Rattle.segment_file.specs.Image.{kind_at}
use Rattle.segment_file.specs.Laws.{FailsNotAll}
use Rattle.segment_file.specs.Parts.{columns_of}
use Rattle.segment_file.specs.Rules.{AreSpelled, FailsAt, FailsBounds, FailsDictionary, FailsNodes, FailsSize, HasFront, HasNodes, IsSized, IsSpelled, KeepsAll, dictionary_in, heads_in, raw_extents}
use Rattle.segment_file.proofs.Tails.{zip_at}
use Rattle.segment_file.proofs.Counts.{all_at}
use Rattle.segment_file.proofs.Fronts.{is_said}

pub fronts_one : (table : Table) (name bytes : List ℕ) (f g : Front) → HasFront table name bytes f → HasFront table name bytes g → g ≡ f
fronts_one table name bytes f g hf hg =
    let front : List ℕ = take (front_size table name) bytes in
    is_said table name front (length bytes) g hg ∙ sym (is_said table name front (length bytes) f hf)

pub spelled_one : (table : Table) (rows : ℕ) (heads : List (List ℕ)) (columns : List ℕ) (ds es : List Distinct) → AreSpelled table rows heads columns ds → AreSpelled table rows heads columns es → es ≡ ds
spelled_one table rows heads [] [] [] a b = refl
spelled_one table rows heads [] [] (e ∷ es) a b = absurd b
spelled_one table rows heads [] (d ∷ ds) es a b = absurd a
spelled_one table rows heads (c ∷ cs) [] es a b = absurd a
spelled_one table rows heads (c ∷ cs) (d ∷ ds) [] a b = absurd b
spelled_one table rows heads (c ∷ cs) (d ∷ ds) (e ∷ es) a b =
    ap₂ ◌∷◌ (spells_one e d b.0.stands a.0.stands (b.0.kind_is ∙ sym a.0.kind_is) (sym b.0.spelled ∙ a.0.spelled)) (spelled_one table rows heads cs ds es a.1 b.1)

amid : {X : Type 0} (P : X → Type 0) (xs : List X) (y : X) (ys : List X) → All P (xs ++ y ∷ ys) → P y
amid P [] y ys all = All-head P y ys all
amid P (x ∷ xs) y ys all = amid P xs y ys (All-tail P x (xs ++ y ∷ ys) all)

module _ (table : Table) (name bytes : List ℕ) (front : Front) (ds : List Distinct) (keeps : KeepsAll table name bytes front ds) where
  no_dictionary : (column : ℕ) → FailsDictionary table name bytes column → ⊥
  no_dictionary column fails =
      let none : Distinct = record { kind = Long; values = [] } in
      let same : fails.front ≡ front = fronts_one table name bytes front fails.front keeps.front_is fails.front_is in
      let R : ℕ → Distinct → Type 0 = λ c d. IsSpelled (kind_at table c) front.rows (dictionary_in (heads_in table name front bytes) c) d in
      let e : 0 + column ≡ column = omega arith in
      let found : R column (get_or ds column none) = subst (λ k. R k (get_or ds column none)) e (zip_at R 0 (length table.schema.fields) column ds none keeps.heads.spelled fails.field) in
      let missing : (d : Distinct) → R column d → ⊥ = subst (λ f. (d : Distinct) → ¬ IsSpelled (kind_at table column) f.rows (dictionary_in (heads_in table name f bytes) column) d) same fails.none in
      missing (get_or ds column none) found

  no_bounds : FailsBounds table name bytes → ⊥
  no_bounds fails =
      let same : fails.front ≡ front = fronts_one table name bytes front fails.front keeps.front_is fails.front_is in
      let there : AreSpelled table front.rows (heads_in table name front bytes) (columns_of table) fails.dictionaries =
      subst (λ f. AreSpelled table f.rows (heads_in table name f bytes) (columns_of table) fails.dictionaries) same fails.spelled in
      let those : fails.dictionaries ≡ ds = spelled_one table front.rows (heads_in table name front bytes) (columns_of table) ds fails.dictionaries keeps.heads.spelled there in
      let other = subst (λ f. ¬ (get_or (heads_in table name f bytes) 0 [] ≡ bounds_bytes (bounds_of fails.dictionaries))) same fails.others in
      other (keeps.heads.bounds ∙ ap (λ xs. bounds_bytes (bounds_of xs)) (sym those))

  no_nodes : (t : ℕ) → FailsNodes table name bytes t → ⊥
  no_nodes t fails =
      let same : fails.front ≡ front = fronts_one table name bytes front fails.front keeps.front_is fails.front_is in
      let missing : HasNodes table front.rows (heads_in table name front bytes) t → ⊥ = subst (λ f. ¬ HasNodes table f.rows (heads_in table name f bytes) t) same fails.none in
      missing (all_at (HasNodes table front.rows (heads_in table name front bytes)) (length table.settings.trees) t keeps.trees fails.tree)

  no_size : (p : Part) → FailsSize table name bytes p → ⊥
  no_size p fails =
      let same : fails.front ≡ front = fronts_one table name bytes front fails.front keeps.front_is fails.front_is in
      let order : raw_extents table name front ≡ fails.before ++ fails.failing ∷ fails.after = subst (λ f. raw_extents table name f ≡ fails.before ++ fails.failing ∷ fails.after) same fails.order in
      let other : IsSized table front.rows (heads_in table name front bytes) fails.failing → ⊥ = subst (λ f. ¬ IsSized table f.rows (heads_in table name f bytes) fails.failing) same fails.other in
      other (amid (IsSized table front.rows (heads_in table name front bytes)) fails.before fails.failing fails.after (subst (All (IsSized table front.rows (heads_in table name front bytes))) order keeps.sized))

  none_fails : (p : Part) → FailsAt table name bytes p → ⊥
  none_fails parts.Table fails = fails
  none_fails parts.Head fails = fails front keeps.front_is
  none_fails parts.Bounds fails = no_bounds fails
  none_fails (parts.Dictionary column) fails = no_dictionary column fails
  none_fails (parts.Nodes t) fails = no_nodes t fails
  none_fails (parts.Forward column) fails = no_size (parts.Forward column) fails
  none_fails (parts.Sorted column) fails = no_size (parts.Sorted column) fails
  none_fails (parts.Inverted column) fails = no_size (parts.Inverted column) fails
  none_fails (parts.Range column) fails = no_size (parts.Range column) fails
  none_fails (parts.Star t) fails = no_size (parts.Star t) fails

pub fails_not_all : FailsNotAll
fails_not_all table name bytes p (front, ds, keeps) fails = none_fails table name bytes front ds keeps p fails
