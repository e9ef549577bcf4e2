-- What is read of the file of an image by the plan of its rows.
use Rattle.std.proofs.Common.{◌≡◌, ◌≢◌, ◌∙◌, ◌+◌, ◌-◌, ◌*◌, ◌<◌, ◌≤◌, ◌⊎◌, ◌∷◌, [], ℕ, Bool, true, false, nat_lt, List, All, Option, Some, None, IfSome, inl, inr, length, map, slice_get, refl, sym, ap, subst, arith, append-nil}
use Rattle.std.specs.List.{AllByRecursion}
use Rattle.std.proofs.lemmas.Bool.{ltb-false, ltb-true}
use Rattle.outside.specs.Files.{Files}
use Rattle.outside.specs.Reads.{Entry, read_in}
use Rattle.outside.specs.declared.place.Place.{Place}
use Rattle.values.specs.declared.value.Value.{Value}
use Rattle.value_ids.specs.Dictionary.{most_values}
use Rattle.outside.specs.Stretches.{LogsOver, LogsPartly}
use Rattle.table_schema.specs.declared.query.BoundQuery.{BoundQuery}
use Rattle.table_schema.specs.declared.settings.TreeSetting.{TreeSetting}
use Rattle.table_schema.specs.declared.table.Table.{Table}
use Rattle.table_schema.specs.ValidTable.{IsValidTable}
use Rattle.segment_file.specs.declared.part.Part.TheVariants as parts
use Rattle.segment_file.specs.Front.{extents_of}
use Rattle.segment_head.specs.Heads.{IsHeadOf, LogsTree, Seen, place_in, placed}
use Rattle.segment_file.specs.Image.{front_of}
use Rattle.segment_file.specs.Ordered.{ordered}
use Rattle.segment_file.specs.Parts.{head_sections, raw_sections, sections_of}
use Rattle.segment_head.specs.Stored.{IsOfImage, HasImage}
use Rattle.segment_file.specs.Trees.{nodes_of}
use Rattle.segment_head.proofs.Composed.{made_count}
use Rattle.segment_file.proofs.ImageRows.{ordered_count}
use Rattle.segment_head.proofs.ImageTrees.{image_tree}
use Rattle.segment_plan.specs.declared.plans.SegmentPlan.{SegmentPlan}
use Rattle.segment_plan.specs.declared.plans.SegmentPlan.TheVariants.{Pruned, Empty, StarTree, Scan}
use Rattle.segment_plan.specs.Planned.{factors_over, plan_over}
use Rattle.star_file.specs.Reading.{doc_width}
use Rattle.star_walk.specs.declared.pick.Pick.{Pick}
use Rattle.star_walk.specs.Images.{read_of}
use Rattle.star_answer.specs.DocLaws.{DocsAreBounded}
use Rattle.segment_reads.specs.Docs.{docs_read, product}
use Rattle.star_answer.specs.Segments.{IsInside, LogsAnswer, LogsAnswerPartly, LogsDocs, stretches_in}
use Rattle.segment_reads.specs.Logs.{EndsBy, LogsThat}
use Rattle.segment_reads.specs.Reads.{AreBytes, Grown, ReadsBy, ReadsPlanned, ReadsTree, bytes_read, raw_span, star_span}
use Rattle.segment_reads.proofs.GrownLemmas.{grown_so, grown_that, grown_then}
use Rattle.segment_reads.proofs.HeadReads.{ends_at, planned_after, sizes_each, tree_ends}
use Rattle.segment_reads.proofs.LogLemmas.{fewer_summed}
use Rattle.segment_reads.proofs.PlaceLemmas.{star_place}
use Rattle.segment_reads.proofs.SpanLemmas.{over_read, overlaps, partly_read, scan_nothing}
use Rattle.std.proofs.Math.Nat.{mul-sub}
use Rattle.star_reader.specs.Answers.{stretch_of}
use Rattle.segment_head.specs.declared.stored.Stored.{Stored}

-- ---- the documents of picks

module _ (place : Place) (width : ℕ) where
  -- within a part that the place is in, all that were picked
  pub picks_within : (from to : ℕ) → from ≤ place.offset → place.offset + place.length ≤ to → (ps : List Pick) → AllByRecursion (IsInside place) (map (stretch_of place.offset width) ps) → overlaps (map (stretch_of place.offset width) ps) from to ≡ read_of ps * width
  picks_within from to begins ends [] all = omega arith
  picks_within from to begins ends (p ∷ ps) (here, rest) =
      let later = picks_within from to begins ends ps rest in
      let first = here.from in
      let order = here.order in
      let last = here.to in
      let long : width * (p.end - p.start) ≡ width * p.end - width * p.start = mul-sub width p.end p.start in
      omega (arith, later, first, order, last, long, begins, ends)

  -- nothing of a part that ends before the place, or begins after it
  pub picks_apart : (from to : ℕ) → (to ≤ place.offset) ⊎ (place.offset + place.length ≤ from) → (ps : List Pick) → AllByRecursion (IsInside place) (map (stretch_of place.offset width) ps) → overlaps (map (stretch_of place.offset width) ps) from to ≡ 0
  picks_apart from to side [] all = refl
  picks_apart from to (inl before) (p ∷ ps) (here, rest) =
      let later = picks_apart from to (inl before) ps rest in
      let first = here.from in
      omega (arith, later, first, before)
  picks_apart from to (inr after) (p ∷ ps) (here, rest) =
      let later = picks_apart from to (inr after) ps rest in
      let last = here.to in
      omega (arith, later, last, after)

-- nothing is within it, whatever the plan is
pub planned_nothing : DocsAreBounded → (query : BoundQuery) (table : Table) (segment : Stored) (rows : List (List Value)) → IsValidTable table → length rows ≤ most_values → ReadsPlanned query table false segment rows []
planned_nothing law query table segment rows valid at_most = by (plan_over query table rows) refl
  where
    bounded_by : (t : ℕ) → plan_over query table rows ≡ StarTree t → (o : Option TreeSetting) → slice_get table.settings.trees t ≡ o → IfSome o (λ tree. docs_read query table rows t ≤ tree.shape.leaf * product (factors_over query table rows tree))
    bounded_by t is None at = tt
    bounded_by t is (Some tree) at = law query table rows t tree valid at_most is at

    by : (plan : SegmentPlan) → plan_over query table rows ≡ plan → ReadsBy query table segment rows false [] plan
    by Pruned is = record { raw = refl; stars = λ t. refl }
    by Empty is = record { raw = refl; stars = λ t. refl }
    by (StarTree t) is = record {
      raw = refl;
      documents = all_trees (slice_get table.settings.trees t);
      others = λ other ne. refl;
      bounded = bounded_by t is (slice_get table.settings.trees t) refl;
    }
      where
        all_trees : (o : Option TreeSetting) → IfSome o (λ tree. 0 ≤ docs_read query table rows t * doc_width tree.shape)
        all_trees None = tt
        all_trees (Some tree) = omega arith
    by (Scan plan) is = scan_nothing query table segment rows plan

-- ---- the documents of a tree

module _ (query : BoundQuery) (table : Table) (segment : Stored) (os : List (List Value)) (t : ℕ) (lt : t < length table.settings.trees) where
  raw_before : (raw_span table segment.name os).to ≤ (star_span table segment.name os t).from
  raw_before = let less = fewer_summed (front_of 1 table os).sizes (length (head_sections table) + length (raw_sections table)) (length (head_sections table) + length (raw_sections table) + t) (omega arith) in omega (arith, less)

  other_side : (other : ℕ) → other ≢ t → ((star_span table segment.name os other).to ≤ (star_span table segment.name os t).from) ⊎ ((star_span table segment.name os t).to ≤ (star_span table segment.name os other).from)
  other_side other ne = by (nat_lt other t) refl
    where
      by : (b : Bool) → nat_lt other t ≡ b → ((star_span table segment.name os other).to ≤ (star_span table segment.name os t).from) ⊎ ((star_span table segment.name os t).to ≤ (star_span table segment.name os other).from)
      by true is =
          let less = ltb-true other t is in
          let le = fewer_summed (front_of 1 table os).sizes (length (head_sections table) + length (raw_sections table) + other + 1) (length (head_sections table) + length (raw_sections table) + t) (omega (arith, less)) in
          inl (omega (arith, le))
      by false is =
          let ge = ltb-false other t is in
          let le = fewer_summed (front_of 1 table os).sizes (length (head_sections table) + length (raw_sections table) + t + 1) (length (head_sections table) + length (raw_sections table) + other) (omega (arith, ge, ne)) in
          inr (omega (arith, le))

  -- the place of a tree's documents, and picks that are in it
  module _ (setting : TreeSetting) (at : slice_get table.settings.trees t ≡ Some setting) (place : Place) (begins : place.offset ≡ (star_span table segment.name os t).from) (ends : place.offset + place.length ≡ (star_span table segment.name os t).to)
      (picks : List Pick) (many : read_of picks ≡ docs_read query table os t) (inside : AllByRecursion (IsInside place) (stretches_in place setting picks)) where
    none_raw : overlaps (stretches_in place setting picks) (raw_span table segment.name os).from (raw_span table segment.name os).to ≡ 0
    none_raw = let less = raw_before in picks_apart place (doc_width setting.shape) (raw_span table segment.name os).from (raw_span table segment.name os).to (inl (omega (arith, less, begins))) picks inside

    none_other : (other : ℕ) → other ≢ t → overlaps (stretches_in place setting picks) (star_span table segment.name os other).from (star_span table segment.name os other).to ≡ 0
    none_other other ne = picks_apart place (doc_width setting.shape) (star_span table segment.name os other).from (star_span table segment.name os other).to (by (other_side other ne)) picks inside
      where
        by : ((star_span table segment.name os other).to ≤ (star_span table segment.name os t).from) ⊎ ((star_span table segment.name os t).to ≤ (star_span table segment.name os other).from) → ((star_span table segment.name os other).to ≤ place.offset) ⊎ (place.offset + place.length ≤ (star_span table segment.name os other).from)
        by (inl le) = inl (omega (arith, le, begins))
        by (inr le) = inr (omega (arith, le, ends))

    all_own : overlaps (stretches_in place setting picks) (star_span table segment.name os t).from (star_span table segment.name os t).to ≡ docs_read query table os t * doc_width setting.shape
    all_own = picks_within place (doc_width setting.shape) (star_span table segment.name os t).from (star_span table segment.name os t).to (omega (arith, begins)) (omega (arith, ends)) picks inside ∙ ap (λ n. n * doc_width setting.shape) many

    bound_at : IfSome (slice_get table.settings.trees t) (λ tree. docs_read query table os t ≤ tree.shape.leaf * product (factors_over query table os tree)) → IfSome (slice_get table.settings.trees t) (λ tree. docs_read query table os t ≤ tree.shape.leaf * product (factors_over query table os tree))
    bound_at b = b

    pub tree_exact : (x : List Entry) → ((f u : ℕ) → read_in x segment.file f u ≡ overlaps (stretches_in place setting picks) f u) → IfSome (slice_get table.settings.trees t) (λ tree. docs_read query table os t ≤ tree.shape.leaf * product (factors_over query table os tree)) → ReadsTree query table segment os t true x
    tree_exact x are bounded = record {
      raw = are (raw_span table segment.name os).from (raw_span table segment.name os).to ∙ none_raw;
      documents = subst (λ o. IfSome o (λ tree. AreBytes true (bytes_read x segment (star_span table segment.name os t)) (docs_read query table os t * doc_width tree.shape))) (sym at)
          (are (star_span table segment.name os t).from (star_span table segment.name os t).to ∙ all_own);
      others = λ other ne. are (star_span table segment.name os other).from (star_span table segment.name os other).to ∙ none_other other ne;
      bounded = bounded;
    }

    pub tree_partly : (x : List Entry) → ((f u : ℕ) → read_in x segment.file f u ≤ overlaps (stretches_in place setting picks) f u) → IfSome (slice_get table.settings.trees t) (λ tree. docs_read query table os t ≤ tree.shape.leaf * product (factors_over query table os tree)) → ReadsTree query table segment os t false x
    tree_partly x are bounded = record {
      raw = let le = are (raw_span table segment.name os).from (raw_span table segment.name os).to in let none = none_raw in omega (arith, le, none);
      documents = subst (λ o. IfSome o (λ tree. AreBytes false (bytes_read x segment (star_span table segment.name os t)) (docs_read query table os t * doc_width tree.shape))) (sym at)
          (let le = are (star_span table segment.name os t).from (star_span table segment.name os t).to in let own = all_own in omega (arith, le, own));
      others = λ other ne. let le = are (star_span table segment.name os other).from (star_span table segment.name os other).to in let none = none_other other ne in omega (arith, le, none);
      bounded = bounded;
    }

-- ---- the image of rows

module _ (law : DocsAreBounded) (query : BoundQuery) (table : Table) (valid : IsValidTable table) (files : Files) (segment : Stored) (rows : List (List Value)) (has : HasImage table files segment rows) where
  abbrev os : List (List Value)
  os = ordered table.settings.sorted rows

  at_most : length (ordered table.settings.sorted rows) ≤ most_values
  at_most = let limit = has.can.fit.at_most in let same = ordered_count table.settings.sorted rows in omega (arith, limit, same)

  -- nothing but the head was read
  pub planned_head : (x : List Entry) → All (EndsBy segment.file (ends_at table segment (ordered table.settings.sorted rows))) x → ReadsPlanned query table false segment (ordered table.settings.sorted rows) x
  planned_head x all =
      subst (ReadsPlanned query table false segment (ordered table.settings.sorted rows)) (append-nil x)
      (planned_after query table segment (ordered table.settings.sorted rows) false x [] all (planned_nothing law query table segment (ordered table.settings.sorted rows) valid at_most))

  module _ (t : ℕ) (plan_is : plan_over query table (ordered table.settings.sorted rows) ≡ StarTree t) (lt : t < length table.settings.trees) where
    bounded_by : (o : Option TreeSetting) → slice_get table.settings.trees t ≡ o → IfSome o (λ tree. docs_read query table os t ≤ tree.shape.leaf * product (factors_over query table os tree))
    bounded_by None at = tt
    bounded_by (Some tree) at = law query table os t tree valid at_most plan_is at

    module _ (head : Seen) (of_table : IsHeadOf table head) (spread : head.sections ≡ map (placed segment.file) (extents_of table segment.name (front_of 1 table (ordered table.settings.sorted rows)))) (of : IsOfImage table files rows head) where
      where_it_is : (place : Place) → place_in head.sections (parts.Star t) ≡ Some place → (place.file ≡ segment.file) × (place.offset ≡ (star_span table segment.name os t).from) × (place.offset + place.length ≡ (star_span table segment.name os t).to)
      where_it_is place at = star_place table t lt segment.name segment.file (front_of 1 table os) place (sizes_each table segment os) (subst (λ l. place_in l (parts.Star t) ≡ Some place) spread at)

      pub docs_over : (a b : Option (List Entry)) → LogsDocs LogsOver query table (Some files) head t a b → Grown (ReadsPlanned query table true segment (ordered table.settings.sorted rows)) a b
      docs_over a b d =
          let (own, begins, ends) = where_it_is d.place d.place_at in
          let (many, inside) = d.told rows of in
          let (x, made, all, are) = over_read d.place.file (stretches_in d.place d.setting d.picks) a b d.reads in
          grown_so (ReadsPlanned query table true segment os) a b x made
          (subst (ReadsBy query table segment os true x) (sym plan_is)
          (tree_exact query table segment os t lt d.setting d.setting_at d.place begins ends d.picks many inside x
          (subst (λ f. (u v : ℕ) → read_in x f u v ≡ overlaps (stretches_in d.place d.setting d.picks) u v) own are) (bounded_by (slice_get table.settings.trees t) refl)))

      pub docs_partly : (a b : Option (List Entry)) → LogsDocs LogsPartly query table (Some files) head t a b → Grown (ReadsPlanned query table false segment (ordered table.settings.sorted rows)) a b
      docs_partly a b d =
          let (own, begins, ends) = where_it_is d.place d.place_at in
          let (many, inside) = d.told rows of in
          let (x, made, all, are) = partly_read d.place.file (stretches_in d.place d.setting d.picks) a b d.reads in
          grown_so (ReadsPlanned query table false segment os) a b x made
          (subst (ReadsBy query table segment os false x) (sym plan_is)
          (tree_partly query table segment os t lt d.setting d.setting_at d.place begins ends d.picks many inside x
          (subst (λ f. (u v : ℕ) → read_in x f u v ≤ overlaps (stretches_in d.place d.setting d.picks) u v) own are) (bounded_by (slice_get table.settings.trees t) refl)))

      enough : length table.schema.fields + 1 + length table.settings.trees ≤ length head.sections
      enough = made_count table of_table.name of_table.file of_table.front (sections_of table) head.sections refl of_table.each of_table.has.sections_are

      pub nodes_read : (setting : TreeSetting) → slice_get table.settings.trees t ≡ Some setting → (a b : Option (List Entry)) → LogsTree table head t a b → LogsThat (EndsBy segment.file (ends_at table segment (ordered table.settings.sorted rows))) a b
      nodes_read setting at a b logs =
          let sections = image_tree table files rows head t setting valid of at in
          let long = sections.nodes_long in
          let size : 4 ≤ length (nodes_of os (slice_get table.settings.trees t)) = subst (λ o. 4 ≤ length (nodes_of os o)) (sym at) (omega (arith, long)) in
          tree_ends table segment os head spread enough t lt size valid a b logs

      pub answer_reads : (count : ℕ) (a b : Option (List Entry)) → LogsAnswer query table (Some files) head t count a b → Grown (ReadsPlanned query table true segment (ordered table.settings.sorted rows)) a b
      answer_reads count a b l =
          let (x, made, all) = nodes_read l.documents.setting l.documents.setting_at a l.between l.nodes in
          let (y, then, own, are) = over_read l.documents.place.file (stretches_in l.documents.place l.documents.setting l.documents.picks) l.between b l.documents.reads in
          grown_then (All (EndsBy segment.file (ends_at table segment os))) (ReadsPlanned query table true segment os) (ReadsPlanned query table true segment os) a l.between b x y made then
          (grown_that (EndsBy segment.file (ends_at table segment os)) a l.between (x, made, all)) (docs_over l.between b l.documents)
          (λ x y p q. planned_after query table segment os true x y p q)

      pub answer_reads_partly : (setting : TreeSetting) → slice_get table.settings.trees t ≡ Some setting → (a b : Option (List Entry)) → LogsAnswerPartly query table (Some files) head t a b → Grown (ReadsPlanned query table false segment (ordered table.settings.sorted rows)) a b
      answer_reads_partly setting at a b (inl logs) =
          let (x, made, all) = nodes_read setting at a b logs in
          grown_so (ReadsPlanned query table false segment os) a b x made (planned_head x all)
      answer_reads_partly setting at a b (inr l) =
          let (x, made, all) = nodes_read l.documents.setting l.documents.setting_at a l.between l.nodes in
          let (y, then, own, are) = partly_read l.documents.place.file (stretches_in l.documents.place l.documents.setting l.documents.picks) l.between b l.documents.reads in
          grown_then (All (EndsBy segment.file (ends_at table segment os))) (ReadsPlanned query table false segment os) (ReadsPlanned query table false segment os) a l.between b x y made then
          (grown_that (EndsBy segment.file (ends_at table segment os)) a l.between (x, made, all)) (docs_partly l.between b l.documents)
          (λ x y p q. planned_after query table segment os false x y p q)
