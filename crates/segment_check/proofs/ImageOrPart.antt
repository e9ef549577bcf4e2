-- Of a file that is the image of no rows some part is wrong.
use Rattle.std.proofs.Common.{◌≡◌, ◌∙◌, ◌<◌, ◌≤◌, ◌+◌, ◌-◌, ℕ, zero, suc, All, List, [], ◌∷◌, ◌++◌, length, get_or, slice_get, take, append-nil, append_assoc, refl, sym, ap, subst, arith, inl, inr, Some}
use Rattle.std.proofs.lemmas.List.{take_all}
use Rattle.std.proofs.lemmas.List.Elements.{All-head, All-nil, All-push, All-tail}
use Rattle.std.proofs.lemmas.Option.{slice_get-get_or}
use Rattle.std.specs.List.{range_with_len}
use Rattle.values.specs.declared.value.Value.{Value}
use Rattle.table_schema.specs.declared.settings.TreeSetting.{TreeSetting}
use Rattle.table_schema.specs.declared.table.Table.{Table}
use Rattle.table_schema.specs.ValidTable.{IsValidTable}
use Rattle.value_ids.specs.Dictionary.{Distinct}
use Rattle.segment_file.specs.declared.part.Part.{Part}
use Rattle.segment_file.specs.declared.part.Part.TheVariants as parts
use Rattle.segment_file.specs.Bounds.{bounds_bytes, bounds_of}
use Rattle.segment_file.specs.Columns.{kind_at}
use Rattle.segment_file.specs.Front.{Extent, Front, extents_of}
use Rattle.segment_file.specs.Image.{CanHold, image}
use Rattle.segment_file.specs.Names.{IsSegmentName}
use Rattle.segment_file.specs.Ordered.{ordered}
use Rattle.segment_file.specs.Parts.{columns_of}
use Rattle.segment_file.specs.Reading.{IsTailPart}
use Rattle.segment_file.specs.Rules.{AreSpelled, FailsAt, FailsSize, HasDictionaries, HasFront, HasNodes, HaveNodes, IsSized, IsSpelled, KeepsAll, dictionary_in, heads_in, raw_extents}
use Rattle.segment_file.specs.Spelled.{HasIds, SpellsRows, rows_said}
use Rattle.segment_file.specs.Trees.{TreeFits}
use Rattle.segment_file.proofs.Counts.{all_at}
use Rattle.segment_file.proofs.ImageSpells.{image_spells}
use Rattle.segment_file.proofs.Tails.{raw_extents_are}
use Rattle.segment_build.specs.Compared.{DifferAt}
use Rattle.segment_build.specs.Growing.{TreesFit}
use Rattle.segment_build.proofs.Growing.{fits_more}
use Rattle.segment_build.proofs.MergeLemmas.{zip_push}
use Rattle.segment_check.specs.Checked.{IsImageOf, IsNoImage, part_at}
use Rattle.segment_check.specs.Laws.{ImageOrPart}
use Rattle.segment_check.proofs.SaidRows.{said_can}

-- ---- lists

range_end : (a k : ℕ) → range_with_len a k ++ (a + k) ∷ [] ≡ range_with_len a (suc k)
range_end a zero = let plain : a + 0 ≡ a = omega arith in ap (λ n. n ∷ []) plain
range_end a (suc k) =
    let next : a + suc k ≡ a + 1 + k = omega arith in
    ap (λ n. a ∷ (range_with_len (a + 1) k ++ n ∷ [])) next ∙ ap (λ l. a ∷ l) (range_end (a + 1) k)

range_next : (k : ℕ) → range_with_len 0 k ++ k ∷ [] ≡ range_with_len 0 (suc k)
range_next k = let plain : k ≡ 0 + k = omega arith in ap (λ n. range_with_len 0 k ++ n ∷ []) plain ∙ range_end 0 k

-- one more number
next_all : (P : ℕ → Type 0) (k : ℕ) → All P (range_with_len 0 k) → P k → All P (range_with_len 0 (suc k))
next_all P k all one = subst (All P) (range_next k) (All-push P (range_with_len 0 k) k all one)

-- two lists are one, or there is a first place at which they differ
first_other : (xs ys : List ℕ) → (xs ≡ ys → ⊥) → ((at : ℕ) → DifferAt xs ys at → ⊥) → ⊥
first_other [] [] unlike each = unlike refl
first_other [] (y ∷ ys) unlike each = each 0 (record { same = refl; other = λ e. absurd cc })
first_other (x ∷ xs) [] unlike each = each 0 (record { same = refl; other = λ e. absurd cc })
first_other (x ∷ xs) (y ∷ ys) unlike each =
    let heads_same : x ≡ y → ⊥ = λ one.
    first_other xs ys (λ e. unlike (λ i. one i ∷ e i)) (λ at d. each (suc at) (record { same = λ i. one i ∷ d.same i; other = d.other })) in
    each 0 (record { same = refl; other = λ e. heads_same cc })

-- an item of a list is there, whatever would stand for it
all_ways : {X : Type 0} (xs : List X) (i : ℕ) (a b : X) → i < length xs → get_or xs i a ≡ get_or xs i b
all_ways [] i a b lt = absurd (omega (arith, lt))
all_ways (x ∷ xs) zero a b lt = refl
all_ways (x ∷ xs) (suc i) a b lt = all_ways xs i a b (omega (arith, lt))

some_item : {X : Type 0} (xs : List X) (i : ℕ) → i < length xs → (X → ⊥) → ⊥
some_item [] i lt none = absurd (omega (arith, lt))
some_item (x ∷ xs) i lt none = none x

-- a rule on the size of a section after the head
size_fails : (table : Table) (name bytes : List ℕ) (p : Part) → IsTailPart table p → FailsSize table name bytes p → FailsAt table name bytes p
size_fails table name bytes parts.Table is fails = absurd is
size_fails table name bytes parts.Head is fails = absurd is
size_fails table name bytes parts.Bounds is fails = absurd is
size_fails table name bytes (parts.Dictionary c) is fails = absurd is
size_fails table name bytes (parts.Nodes t) is fails = absurd is
size_fails table name bytes (parts.Forward c) is fails = fails
size_fails table name bytes (parts.Sorted c) is fails = fails
size_fails table name bytes (parts.Inverted c) is fails = fails
size_fails table name bytes (parts.Range c) is fails = fails
size_fails table name bytes (parts.Star t) is fails = fails

-- ---- a file of which no part is wrong

module _ (table : Table) (name bytes : List ℕ) (valid : IsValidTable table) (named : IsSegmentName name)
    (no_image : (rows : List (List Value)) → ¬ IsImageOf table name bytes rows) (no_part : (p : Part) → ¬ IsNoImage table name bytes p) where
  abbrev n : ℕ
  n = length table.schema.fields

  abbrev m : ℕ
  m = length table.settings.trees

  no_rule : (p : Part) → ¬ FailsAt table name bytes p
  no_rule p fails = no_part p (inl fails)

  module _ (front : Front) (has : HasFront table name bytes front) where
    abbrev heads : List (List ℕ)
    heads = heads_in table name front bytes

    dictionaries : (k : ℕ) → k ≤ n → ((ds : List Distinct) → AreSpelled table front.rows heads (range_with_len 0 k) ds → ⊥) → ⊥
    dictionaries zero le next = next [] tt
    dictionaries (suc k) le next =
        let R : ℕ → Distinct → Type 0 = λ c d. IsSpelled (kind_at table c) front.rows (dictionary_in heads c) d in
        dictionaries k (omega (arith, le)) (λ before spelled.
        no_rule (parts.Dictionary k) (record {
          front = front;
          front_is = has;
          field = omega (arith, le);
          before = before;
          spelled = spelled;
          none = λ d is. next (before ++ d ∷ []) (subst (λ cs. AreSpelled table front.rows heads cs (before ++ d ∷ [])) (range_next k) (zip_push R (range_with_len 0 k) before k d spelled is));
        }))

    module _ (ds : List Distinct) (given : HasDictionaries table front.rows heads ds) where
      abbrev P : Extent → Type 0
      P = IsSized table front.rows heads

      nodes : (k : ℕ) → k ≤ m → (HaveNodes table front.rows heads k → ⊥) → ⊥
      nodes zero le next = next (All-nil (HasNodes table front.rows heads))
      nodes (suc k) le next = nodes k (omega (arith, le)) (λ before.
          no_rule (parts.Nodes k) (record {
            front = front;
            front_is = has;
            dictionaries = ds;
            heads = given;
            tree = omega (arith, le);
            before = before;
            none = λ one. next (next_all (HasNodes table front.rows heads) k before one);
          }))

      sizes : HaveNodes table front.rows heads m → (before rest : List Extent) → before ++ rest ≡ raw_extents table name front → All (λ e. IsTailPart table e.part) rest
          → All P before → (All P (raw_extents table name front) → ⊥) → ⊥
      sizes trees before [] is tails all next = next (subst (All P) (sym (append-nil before) ∙ is) all)
      sizes trees before (e ∷ rest) is tails all next =
          no_rule e.part (size_fails table name bytes e.part (All-head (λ x. IsTailPart table x.part) e rest tails) (record {
            front = front;
            front_is = has;
            dictionaries = ds;
            heads = given;
            trees = trees;
            before = before;
            failing = e;
            after = rest;
            order = sym is;
            sized = all;
            other = λ one. sizes trees (before ++ e ∷ []) rest (append_assoc before (e ∷ []) rest ∙ is) (All-tail (λ x. IsTailPart table x.part) e rest tails) (All-push P before e all one) next;
            is_of = refl;
          }))

    module _ (ds : List Distinct) (keeps : KeepsAll table name bytes front ds) where
      ids : (k : ℕ) → k ≤ n → (All (HasIds table name bytes front ds) (range_with_len 0 k) → ⊥) → ⊥
      ids zero le next = next (All-nil (HasIds table name bytes front ds))
      ids (suc k) le next = ids k (omega (arith, le)) (λ before.
          no_part (parts.Forward k) (inr (inl (
            k,
            refl,
            record {
              front = front;
              dictionaries = ds;
              keeps = keeps;
              field = omega (arith, le);
              before = before;
              none = λ one. next (next_all (HasIds table name bytes front ds) k before one);
            },
          ))))

      module _ (there : All (HasIds table name bytes front ds) (columns_of table)) where
        abbrev rows : List (List Value)
        rows = rows_said table name bytes front ds

        abbrev os : List (List Value)
        os = ordered table.settings.sorted rows

        spells : SpellsRows table name bytes front rows
        spells = record { dictionaries = ds; keeps = keeps; ids = there; rows_are = refl }

        trees : (k : ℕ) → k ≤ m → (All (TreeFits os) (take k table.settings.trees) → ⊥) → ⊥
        trees zero le next = next (All-nil (TreeFits os))
        trees (suc k) le next = trees k (omega (arith, le)) (λ before.
            let lt : k < m = omega (arith, le) in
            let tree_fails : TreeSetting → ⊥ = λ any.
            (let tree : TreeSetting = get_or table.settings.trees k any in
            let at : slice_get table.settings.trees k ≡ Some tree = slice_get-get_or table.settings.trees k any lt in
            let here : tree ≡ get_or table.settings.trees k tree = all_ways table.settings.trees k any tree lt in
            no_part (parts.Nodes k) (inr (inr (inl (
              k,
              refl,
              record {
                front = front;
                rows = rows;
                spells = spells;
                too_large = record {
                  before = before;
                  tree = tree;
                  at = at;
                  over = λ one. next (let more : k + 1 ≡ suc k = omega arith in
                      subst (λ j. All (TreeFits os) (take j table.settings.trees)) more (fits_more os table.settings.trees k tree lt here before one));
                };
              },
            ))))) in
            some_item table.settings.trees k lt tree_fails)

        compared : TreesFit table rows → ⊥
        compared fits =
            let can : CanHold table rows = said_can table name bytes front ds keeps (λ c lt. all_at (HasIds table name bytes front ds) n c there lt) fits in
            first_other (image 1 table name rows) bytes
            (λ same.
            let whole : bytes ≡ image 1 table name rows = sym same in
            let kept : KeepsAll table name (image 1 table name rows) front ds = subst (λ b. KeepsAll table name b front ds) whole keeps in
            no_image rows (record {
              can = can;
              in_order = sym (ap (λ b. rows_said table name b front ds) whole ∙ (image_spells table name rows front ds valid named can kept).1);
              image_is = whole;
            }))
            (λ at differ. no_part (part_at (extents_of table name front) at) (inr (inr (inr (record { front = front; rows = rows; spells = spells; fits = fits; at = at; differ = differ; part_is = refl })))))

        looked : ⊥
        looked = trees m (omega arith) (λ all. compared (subst (All (TreeFits os)) (take_all m table.settings.trees (omega arith)) all))

      kept : ⊥
      kept = ids n (omega arith) looked

    spelled : (ds : List Distinct) → AreSpelled table front.rows heads (columns_of table) ds → ⊥
    spelled ds are =
        no_rule parts.Bounds (record {
          front = front;
          front_is = has;
          dictionaries = ds;
          spelled = are;
          others = λ bounds.
              (let given : HasDictionaries table front.rows heads ds = record { spelled = are; bounds = bounds } in
              nodes ds given m (omega arith) (λ all.
              sizes ds given all [] (raw_extents table name front) refl (raw_extents_are table name front valid) (All-nil (IsSized table front.rows heads)) (λ sized.
              kept ds (record { front_is = has; heads = given; trees = all; sized = sized }))));
        })

    begun : ⊥
    begun = dictionaries n (omega arith) spelled

  pub none : ⊥
  none = no_rule parts.Head begun

pub image_or_part : ImageOrPart
image_or_part table name bytes valid named no_image no_part = none table name bytes valid named no_image no_part
