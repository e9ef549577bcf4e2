-- Of a file that keeps the rules of heads and is no image just one part is wrong.
use Rattle.std.proofs.Common.{◌≡◌, ◌∙◌, ◌<◌, ◌≤◌, ℕ, zero, suc, All, List, [], ◌∷◌, length, take, slice_get, Some, true, false, nat_lt, refl, sym, ap, subst, arith, inl, inr, ◌⊎◌}
use Rattle.std.proofs.lemmas.Bool.{ltb-false, ltb-true}
use Rattle.std.proofs.lemmas.List.Elements.{All-get_or}
use Rattle.std.proofs.lemmas.Option.{get_or_from_slice_get, slice_get_within}
use Rattle.values.specs.declared.value.Value.{Value}
use Rattle.table_schema.specs.declared.settings.TreeSetting.{TreeSetting}
use Rattle.table_schema.specs.declared.table.Table.{Table}
use Rattle.value_ids.specs.Dictionary.{Distinct}
use Rattle.segment_file.specs.declared.part.Part.{Part}
use Rattle.segment_file.specs.declared.part.Part.TheVariants as parts
use Rattle.segment_file.specs.Front.{Front, extents_of}
use Rattle.segment_file.specs.Image.{image}
use Rattle.segment_file.specs.Ordered.{ordered}
use Rattle.segment_file.specs.Parts.{columns_of}
use Rattle.segment_file.specs.Rules.{AreSpelled, FailsAt, KeepsAll, heads_in}
use Rattle.segment_file.specs.Spelled.{HasIds, SpellsRows, rows_said}
use Rattle.segment_file.specs.Trees.{TreeFits}
use Rattle.segment_file.proofs.Counts.{all_at}
use Rattle.segment_file.proofs.RuleLaws.{fails_not_all, fronts_one, spelled_one}
use Rattle.segment_build.specs.Compared.{DifferAt}
use Rattle.segment_build.specs.Growing.{IsTooLarge, TreesFit}
use Rattle.segment_check.specs.Checked.{FailsBytes, FailsIds, FailsImageAt, FailsTree, part_at}
use Rattle.segment_check.specs.Laws.{FailsOnce}

-- ---- lists

one_of : {X : Type 0} (P : X → Type 0) (xs : List X) (i : ℕ) (x : X) → All P xs → slice_get xs i ≡ Some x → P x
one_of P xs i x all at = subst P (get_or_from_slice_get xs i x x at) (All-get_or P xs i x (slice_get_within xs i x at) all)

-- an element before a place is among those before it
get_take : {X : Type 0} (m : ℕ) (xs : List X) (i : ℕ) → i < m → slice_get (take m xs) i ≡ slice_get xs i
get_take zero xs i lt = absurd (omega arith)
get_take (suc m) [] i lt = refl
get_take (suc m) (x ∷ xs) zero lt = refl
get_take (suc m) (x ∷ xs) (suc i) lt = get_take m xs i (omega arith)

-- two numbers are one where neither is less
pub neither_less : (a b : ℕ) → (a < b → ⊥) → (b < a → ⊥) → a ≡ b
neither_less a b first second =
    elim (nat_lt a b) as (λ t. nat_lt a b ≡ t → a ≡ b) [
      | true ↦ λ is. absurd (first (ltb-true a b is))
      | false ↦ λ is.
          elim (nat_lt b a) as (λ t. nat_lt b a ≡ t → a ≡ b) [
            | true ↦ λ also. absurd (second (ltb-true b a also))
            | false ↦ λ also. let p = ltb-false a b is in let q = ltb-false b a also in omega arith
          ] refl
    ] refl

-- ---- of one file

module _ (table : Table) (name bytes : List ℕ) where
  -- a file has one front and one list of dictionaries
  record IsOne (f g : Front) (ds es : List Distinct) : Type 0 where
    front : g ≡ f
    dictionaries : es ≡ ds

  one-head : (f g : Front) (ds es : List Distinct) → KeepsAll table name bytes f ds → KeepsAll table name bytes g es → IsOne f g ds es
  one-head f g ds es first second =
      let same : g ≡ f = fronts_one table name bytes f g first.front_is second.front_is in
      let there : AreSpelled table f.rows (heads_in table name f bytes) (columns_of table) es =
      subst (λ (h : Front). AreSpelled table h.rows (heads_in table name h bytes) (columns_of table) es) same second.heads.spelled in
      record { front = same; dictionaries = spelled_one table f.rows (heads_in table name f bytes) (columns_of table) ds es first.heads.spelled there }

  same-ids : (f g : Front) (ds es : List Distinct) (c : ℕ) → IsOne f g ds es → HasIds table name bytes g es c → HasIds table name bytes f ds c
  same-ids f g ds es c one has =
      subst (λ (h : Front). HasIds table name bytes h ds c) one.front (subst (λ (d : List Distinct). HasIds table name bytes g d c) one.dictionaries has)

  -- it spells one list of rows
  one-rows : (f g : Front) (rows others : List (List Value)) → SpellsRows table name bytes f rows → SpellsRows table name bytes g others → others ≡ rows
  one-rows f g rows others first second =
      let one : IsOne f g first.dictionaries second.dictionaries = one-head f g first.dictionaries second.dictionaries first.keeps second.keeps in
      second.rows_are ∙ (λ i. rows_said table name bytes (one.front i) (one.dictionaries i)) ∙ sym first.rows_are

  ids-twice : (a b : ℕ) → FailsIds table name bytes a → FailsIds table name bytes b → a < b → ⊥
  ids-twice a b first second lt =
      let one : IsOne first.front second.front first.dictionaries second.dictionaries = one-head first.front second.front first.dictionaries second.dictionaries first.keeps second.keeps in
      first.none (same-ids first.front second.front first.dictionaries second.dictionaries a one (all_at (HasIds table name bytes second.front second.dictionaries) b a second.before lt))

  ids-spelled : (a : ℕ) (f : Front) (rows : List (List Value)) → FailsIds table name bytes a → SpellsRows table name bytes f rows → ⊥
  ids-spelled a f rows first second =
      let one : IsOne first.front f first.dictionaries second.dictionaries = one-head first.front f first.dictionaries second.dictionaries first.keeps second.keeps in
      first.none (same-ids first.front f first.dictionaries second.dictionaries a one (all_at (HasIds table name bytes f second.dictionaries) (length table.schema.fields) a second.ids first.field))

  tree-twice : (a b : ℕ) → FailsTree table name bytes a → FailsTree table name bytes b → a < b → ⊥
  tree-twice a b first second lt =
      let rows : second.rows ≡ first.rows = one-rows first.front second.front first.rows second.rows first.spells second.spells in
      let own = first.too_large in
      let P : TreeSetting → Type 0 = TreeFits (ordered table.settings.sorted second.rows) in
      own.over (subst (λ (r : List (List Value)). TreeFits (ordered table.settings.sorted r) own.tree) rows
      (one_of P (take b table.settings.trees) a own.tree second.too_large.before (get_take b table.settings.trees a lt ∙ own.at)))

  tree-bytes : (a : ℕ) (p : Part) → FailsTree table name bytes a → FailsBytes table name bytes p → ⊥
  tree-bytes a p first second =
      let rows : second.rows ≡ first.rows = one-rows first.front second.front first.rows second.rows first.spells second.spells in
      let own = first.too_large in
      own.over (subst (λ (r : List (List Value)). TreeFits (ordered table.settings.sorted r) own.tree) rows
      (one_of (TreeFits (ordered table.settings.sorted second.rows)) table.settings.trees a own.tree second.fits own.at))

  differ-twice : (xs : List ℕ) (a b : ℕ) → DifferAt xs bytes a → DifferAt xs bytes b → a < b → ⊥
  differ-twice xs a b first second lt = first.other (sym (get_take b xs a lt) ∙ ap (λ (l : List ℕ). slice_get l a) second.same ∙ get_take b bytes a lt)

  bytes-once : (p q : Part) → FailsBytes table name bytes p → FailsBytes table name bytes q → p ≡ q
  bytes-once p q first second =
      let rows : second.rows ≡ first.rows = one-rows first.front second.front first.rows second.rows first.spells second.spells in
      let front : second.front ≡ first.front = fronts_one table name bytes first.front second.front first.spells.keeps.front_is second.spells.keeps.front_is in
      let own : DifferAt (image 1 table name first.rows) bytes second.at = subst (λ (r : List (List Value)). DifferAt (image 1 table name r) bytes second.at) rows second.differ in
      let at : first.at ≡ second.at =
      neither_less first.at second.at (λ lt. differ-twice (image 1 table name first.rows) first.at second.at first.differ own lt) (λ lt. differ-twice (image 1 table name first.rows) second.at first.at own first.differ lt) in
      first.part_is ∙ (λ i. part_at (extents_of table name (sym front i)) (at i)) ∙ sym second.part_is

  once : (p q : Part) → FailsImageAt table name bytes p → FailsImageAt table name bytes q → p ≡ q
  once p q (inl (a, is, first)) (inl (b, also, second)) = is ∙ ap parts.Forward (neither_less a b (ids-twice a b first second) (ids-twice b a second first)) ∙ sym also
  once p q (inl (a, is, first)) (inr (inl (b, also, second))) = absurd (ids-spelled a second.front second.rows first second.spells)
  once p q (inl (a, is, first)) (inr (inr second)) = absurd (ids-spelled a second.front second.rows first second.spells)
  once p q (inr (inl (a, is, first))) (inl (b, also, second)) = absurd (ids-spelled b first.front first.rows second first.spells)
  once p q (inr (inr first)) (inl (b, also, second)) = absurd (ids-spelled b first.front first.rows second first.spells)
  once p q (inr (inl (a, is, first))) (inr (inl (b, also, second))) = is ∙ ap parts.Nodes (neither_less a b (tree-twice a b first second) (tree-twice b a second first)) ∙ sym also
  once p q (inr (inl (a, is, first))) (inr (inr second)) = absurd (tree-bytes a q first second)
  once p q (inr (inr first)) (inr (inl (b, also, second))) = absurd (tree-bytes b p second first)
  once p q (inr (inr first)) (inr (inr second)) = bytes-once p q first second

-- a file that keeps the rules of heads fails none of them
no-rule : (table : Table) (name bytes : List ℕ) (p q : Part) → FailsAt table name bytes p → FailsImageAt table name bytes q → ⊥
no-rule table name bytes p q rule (inl (a, is, fails)) = fails_not_all table name bytes p (fails.front, fails.dictionaries, fails.keeps) rule
no-rule table name bytes p q rule (inr (inl (a, is, fails))) = fails_not_all table name bytes p (fails.front, fails.spells.dictionaries, fails.spells.keeps) rule
no-rule table name bytes p q rule (inr (inr fails)) = fails_not_all table name bytes p (fails.front, fails.spells.dictionaries, fails.spells.keeps) rule

pub fails_once : FailsOnce
fails_once table name bytes p q = ((λ rule image. no-rule table name bytes p q rule image), once table name bytes p q)
