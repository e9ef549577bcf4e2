-- The lines of segments, one after the other.
use Rattle.std.proofs.Common.{◌≡◌, ◌∙◌, ◌<◌, ◌+◌, ◌++◌, ℕ, suc, List, [], ◌∷◌, length, drop, get_or, Option, Some, None, refl, sym, ap, subst, arith, append_assoc, append-nil, add-one}
use Rattle.std.proofs.Math.Seq.{drop-cons, drop-length}
use Rattle.std.proofs.lemmas.List.{get_or-map, length-map}
use Rattle.std.proofs.lemmas.Slice.Zip.{AllZip-long}
use Rattle.std.specs.List.{AllZip}
use Rattle.outside.specs.Files.{Files}
use Rattle.values.specs.declared.value.Value.{Value}
use Rattle.table_schema.specs.declared.query.BoundQuery.{BoundQuery}
use Rattle.table_schema.specs.declared.table.Table.{Table}
use Rattle.table_schema.specs.ValidQuery.{IsValidQuery}
use Rattle.table_schema.specs.ValidTable.{IsValidTable}
use Rattle.segment_head.specs.Heads.{Seen}
use Rattle.segment_file.specs.Ordered.{ordered}
use Rattle.segment_plan.specs.declared.plans.SegmentPlan.{SegmentPlan}
use Rattle.segment_plan.specs.Explained.{IsDetailed, explained_by, explained_over}
use Rattle.segment_plan.specs.Laws.{ExplainedIsOver, HeadTells}
use Rattle.query_executor.specs.Lines.{in_order, line_by, lines_of, plan_line}
use Rattle.segment_head.specs.Stored.{HasImage, live, names_of, segment_at}
use Rattle.query_executor.specs.Steps.{AddsLine, HasLines, IsPlannedIn}
use Rattle.segment_reads.proofs.GrownLemmas.{zip_at}
use Rattle.segment_head.specs.declared.stored.Stored.{Stored}

-- a line is added part by part
pub line_pushed : (old name said a b c d : List ℕ) → a ≡ old ++ name → b ≡ a ++ (44 ∷ []) → c ≡ b ++ said → d ≡ c ++ (10 ∷ []) → d ≡ old ++ line_by name said
line_pushed old name said a b c d is_a is_b is_c is_d =
    let made : d ≡ (((old ++ name) ++ (44 ∷ [])) ++ said) ++ (10 ∷ []) = is_d ∙ (λ i. (is_c ∙ (λ j. (is_b ∙ (λ k. is_a k ++ (44 ∷ []))) j ++ said)) i ++ (10 ∷ [])) in
    made ∙ simp append_assoc

-- two texts with a comma between them
pub pair_pushed : (old first second a b c : List ℕ) → a ≡ old ++ first → b ≡ a ++ (44 ∷ []) → c ≡ b ++ second → c ≡ old ++ (first ++ (44 ∷ second))
pair_pushed old first second a b c is_a is_b is_c =
    let made : c ≡ ((old ++ first) ++ (44 ∷ [])) ++ second = is_c ∙ (λ i. (is_b ∙ (λ k. is_a k ++ (44 ∷ []))) i ++ second) in
    made ∙ simp append_assoc

module _ (query : BoundQuery) (table : Table) where
  -- what is said of the plan of a segment is what is said over its rows
  pub line_added : HeadTells → ExplainedIsOver → IsValidTable table → IsValidQuery table query → (held : Option Files) (segment : Stored) (head : Seen) (plan : SegmentPlan) (old new : List ℕ)
      → IsPlannedIn query table held segment head plan → new ≡ old ++ line_by segment.name (explained_by query table head) → AddsLine (plan_line query table) table held segment old new
  line_added tells_law law valid query_valid None segment head plan old new planned is = tt
  line_added tells_law law valid query_valid (Some files) segment head plan old new planned is = λ rows has.
      let i = planned.image rows has in
      let os : List (List Value) = ordered table.settings.sorted rows in
      let tells = tells_law table i.name i.file rows i.whole head valid i.named i.can i.is_head i.part in
      let same : explained_by query table head ≡ explained_over query table os = law query table os head valid query_valid tells planned.known (subst (IsDetailed query table head) planned.plan_is planned.detailed) in
      is ∙ ap (λ said. old ++ line_by segment.name said) same

module _ (line : List ℕ → List (List Value) → List ℕ) (table : Table) where
  -- the lines from one segment on begin with its own
  next_line : (names : List (List ℕ)) (segments : List (List (List Value))) (k : ℕ) → k < length names → k < length segments
      → lines_of line (drop k names) (drop k (in_order table segments))
      ≡ line (get_or names k []) (ordered table.settings.sorted (get_or segments k [])) ++ lines_of line (drop (k + 1) names) (drop (k + 1) (in_order table segments))
  next_line names segments k lt at_most =
      let here : List (List Value) → List (List Value) = ordered table.settings.sorted in
      let rows : List (List (List Value)) = in_order table segments in
      let many : length rows ≡ length segments = length-map segments here in
      let first : drop k names ≡ get_or names k [] ∷ drop (k + 1) names = drop-cons names k [] lt ∙ ap (λ n. get_or names k [] ∷ drop n names) (sym (add-one k)) in
      let second : drop k rows ≡ here (get_or segments k []) ∷ drop (k + 1) rows =
      drop-cons rows k [] (omega (arith, at_most, many))
      ∙ ap (λ r. r ∷ drop (suc k) rows) (get_or-map here segments k [] [] at_most)
      ∙ ap (λ n. here (get_or segments k []) ∷ drop n rows) (sym (add-one k)) in
      (λ i. lines_of line (first i) (second i))

  module _ (stored : List Stored) where
    pub no_lines : (held : Option Files) → HasLines line table held stored 0 []
    no_lines None = tt
    no_lines (Some files) = λ segments all. refl

    pub lines_more : (held : Option Files) (k : ℕ) (old new : List ℕ) → k < length stored → HasLines line table held stored k old → AddsLine line table held (segment_at stored k) old new → HasLines line table held stored (k + 1) new
    lines_more None k old new lt so adds = tt
    lines_more (Some files) k old new lt so adds = λ segments all.
        let at_most : k < length segments = omega (arith, lt, AllZip-long (HasImage table files) stored segments all) in
        let rows : List (List Value) = get_or segments k [] in
        let own : List ℕ = line (segment_at stored k).name (ordered table.settings.sorted rows) in
        let rest : List ℕ = lines_of line (drop (k + 1) (names_of stored)) (drop (k + 1) (in_order table segments)) in
        let added : new ≡ old ++ own = adds rows (zip_at (HasImage table files) stored segments k (live []) [] all lt) in
        ap (λ l. l ++ rest) added
        ∙ append_assoc old own rest
        ∙ ap (λ l. old ++ l) (sym (next_line (names_of stored) segments k (omega (arith, lt, length-map stored (λ (s : Stored). s.name))) at_most
        ∙ ap (λ n. line n (ordered table.settings.sorted rows) ++ rest) (get_or-map (λ (s : Stored). s.name) stored k (live []) [] lt)))
        ∙ so segments all

    pub lines_all : (files : Files) (text : List ℕ) → HasLines line table (Some files) stored (length stored) text → (segments : List (List (List Value))) → AllZip (HasImage table files) stored segments → lines_of line (names_of stored) (in_order table segments) ≡ text
    lines_all files text so segments all =
        let none : lines_of line (drop (length stored) (names_of stored)) (drop (length stored) (in_order table segments)) ≡ [] =
        ap (λ l. lines_of line l (drop (length stored) (in_order table segments)))
        (ap (λ n. drop n (names_of stored)) (sym (length-map stored (λ (s : Stored). s.name))) ∙ drop-length (names_of stored)) in
        sym (so segments all) ∙ ap (λ l. text ++ l) none ∙ append-nil text
