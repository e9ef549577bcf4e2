-- Where the parts of a segment's file are, and how many bytes of them reads gave.
use Rattle.std.proofs.Common.{◌≡◌, ◌≢◌, ◌∙◌, ◌+◌, ◌*◌, ◌-◌, ◌≤◌, ◌++◌, ◌⊎◌, [], ◌∷◌, ℕ, Bool, true, false, List, All, Option, Some, None, IfSome, inl, inr, length, map, option_map, slice_get, refl, sym, ap, subst, arith}
use Rattle.std.proofs.lemmas.Bool.{false≢true}
use Rattle.std.proofs.lemmas.List.Elements.{All-append, All-head, All-nil, All-tail}
use Rattle.std.proofs.Math.Nat.{mul-sub}
use Rattle.std.specs.List.{AllByRecursion}
use Rattle.outside.specs.Reads.{Entry, LogsThrough, overlap, read_in}
use Rattle.outside.proofs.ReadLemmas.{LogsOn-through, read_by-apart, read_in-append, read_in-cons, read_in-others, read_in-through}
use Rattle.values.specs.declared.value.Value.{Value}
use Rattle.table_schema.specs.declared.query.BoundQuery.{BoundQuery}
use Rattle.table_schema.specs.declared.settings.TreeSetting.{TreeSetting}
use Rattle.table_schema.specs.declared.table.Table.{Table}
use Rattle.table_schema.specs.ValidTable.{IsValidTable}
use Rattle.value_ids.specs.Dictionary.{most_values}
use Rattle.outside.specs.Stretches.{LogsOver, LogsPartly, Stretch}
use Rattle.segment_plan.specs.declared.plans.ScanPlan.{ScanPlan}
use Rattle.segment_plan.specs.declared.plans.SegmentPlan.{SegmentPlan}
use Rattle.segment_plan.specs.declared.plans.SegmentPlan.TheVariants.{Pruned, Empty, StarTree, Scan}
use Rattle.segment_plan.specs.Planned.{factors_over, plan_over}
use Rattle.star_file.specs.Reading.{doc_width}
use Rattle.outside.specs.declared.place.Place.{Place}
use Rattle.segment_reads.specs.Docs.{docs_read, product}
use Rattle.segment_reads.specs.Logs.{EndsBy}
use Rattle.segment_reads.specs.Reads.{AreBytes, ReadsBy, ReadsPlanned, ReadsScan, bytes_read, column_span, forward_span, raw_span, star_span}
use Rattle.segment_reads.proofs.GrownLemmas.{IsOfFile}
use Rattle.segment_reads.proofs.LogLemmas.{join_logs, of_file, same_log}
use Rattle.segment_head.specs.declared.stored.Stored.{Stored}

-- ---- bytes of reads

pub none_read : (segment : Stored) (span : Stretch) → bytes_read [] segment span ≡ 0
none_read segment span = refl

-- reads that end before a part gave nothing of it
pub before_part : (file : List ℕ) (end from to : ℕ) (x : List Entry) → end ≤ from → All (EndsBy file end) x → read_in x file from to ≡ 0
before_part file end from to [] le all = refl
before_part file end from to (entry ∷ x) le all =
    let here = All-head (EndsBy file end) entry x all in
    let ends = here.ends in
    read_in-cons entry x file from to
    ∙ (λ i. read_by-apart entry file from to (inl (omega (arith, ends, le))) i + before_part file end from to x le (All-tail (EndsBy file end) entry x all) i)

-- reads of stretches gave what these have in common with a part
abbrev pub overlaps : List Stretch → ℕ → ℕ → ℕ
overlaps [] from to = 0
overlaps (s ∷ ss) from to = overlap s.from s.to from to + overlaps ss from to

abbrev Told : List ℕ → (List Entry → Type 0) → Option (List Entry) → Option (List Entry) → Type 0
Told file P a b = (x : List Entry) × (b ≡ option_map (λ l. l ++ x) a) × All (λ e. e.file ≡ file) x × P x

told_none : (file : List ℕ) (P : List Entry → Type 0) (a b : Option (List Entry)) → b ≡ a → P [] → Told file P a b
told_none file P a b same h = ([], same ∙ same_log a, All-nil (λ e. e.file ≡ file), h)

told_then : (file : List ℕ) (P Q R : List Entry → Type 0) (a b c : Option (List Entry)) → Told file P a b → Told file Q b c → ((x y : List Entry) → P x → Q y → R (x ++ y)) → Told file R a c
told_then file P Q R a b c (x, made, first, p) (y, then, second, q) both =
    (x ++ y, then ∙ ap (option_map (λ l. l ++ y)) made ∙ join_logs a x y, All-append (λ e. e.file ≡ file) x y first second, both x y p q)

through_read : (file : List ℕ) (from to : ℕ) (a b : Option (List Entry)) → LogsThrough file from to a b → Told file (λ x. (f t : ℕ) → read_in x file f t ≡ overlap from to f t) a b
through_read file from to a b (x, made, each) = (x, made, of_file file from to x each, λ f t. read_in-through x file from to f t each)

pub over_read : (file : List ℕ) (parts : List Stretch) (a b : Option (List Entry)) → LogsOver file parts a b → Told file (λ x. (f t : ℕ) → read_in x file f t ≡ overlaps parts f t) a b
over_read file [] a b same = told_none file (λ x. (f t : ℕ) → read_in x file f t ≡ 0) a b same (λ f t. refl)
over_read file (part ∷ parts) a b (between, first, rest) =
    told_then file (λ x. (f t : ℕ) → read_in x file f t ≡ overlap part.from part.to f t) (λ y. (f t : ℕ) → read_in y file f t ≡ overlaps parts f t) (λ z. (f t : ℕ) → read_in z file f t ≡ overlaps (part ∷ parts) f t) a between b
    (through_read file part.from part.to a between (LogsOn-through file part.from part.to a between first)) (over_read file parts between b rest)
    (λ x y p q f t. read_in-append x y file f t ∙ (λ i. p f t i + q f t i))

less_overlap : (from to limit f t : ℕ) → to ≤ limit → overlap from to f t ≤ overlap from limit f t
less_overlap from to limit f t le = omega (arith, le)

pub partly_read : (file : List ℕ) (parts : List Stretch) (a b : Option (List Entry)) → LogsPartly file parts a b → Told file (λ x. (f t : ℕ) → read_in x file f t ≤ overlaps parts f t) a b
partly_read file [] a b same = told_none file (λ x. (f t : ℕ) → read_in x file f t ≤ 0) a b same (λ f t. omega arith)
partly_read file (part ∷ parts) a b (inl (to, le, through)) =
    let (x, made, all, is) = through_read file part.from to a b through in
    (x, made, all, λ f t. let same = is f t in let less = less_overlap part.from to part.to f t le in omega (arith, same, less))
partly_read file (part ∷ parts) a b (inr (between, first, rest)) =
    told_then file (λ x. (f t : ℕ) → read_in x file f t ≡ overlap part.from part.to f t) (λ y. (f t : ℕ) → read_in y file f t ≤ overlaps parts f t) (λ z. (f t : ℕ) → read_in z file f t ≤ overlaps (part ∷ parts) f t) a between b
    (through_read file part.from part.to a between (LogsOn-through file part.from part.to a between first)) (partly_read file parts between b rest)
    (λ x y p q f t. let sum = read_in-append x y file f t in let here = p f t in let there = q f t in omega (arith, sum, here, there))

-- ---- what is read by a plan

module _ (segment : Stored) (x y : List Entry) where
  after_others : (span : Stretch) → All (λ e. e.file ≢ segment.file) y → bytes_read (x ++ y) segment span ≡ bytes_read x segment span
  after_others span all =
      let sum = read_in-append x y segment.file span.from span.to in
      let none = read_in-others y segment.file span.from span.to all in
      omega (arith, sum, none)

  before_others : (span : Stretch) → All (λ e. e.file ≢ segment.file) x → bytes_read (x ++ y) segment span ≡ bytes_read y segment span
  before_others span all =
      let sum = read_in-append x y segment.file span.from span.to in
      let none = read_in-others x segment.file span.from span.to all in
      omega (arith, sum, none)

module _ (query : BoundQuery) (table : Table) (segment : Stored) (rows : List (List Value)) (plan : ScanPlan) where
  -- no reads of a scan
  pub scan_nothing : ReadsScan query table segment rows plan false []
  scan_nothing = record { stars = λ t. refl; forward = omega arith; whole = λ is none column named. absurd (false≢true is) }

  -- reads of a scan that gave as many bytes of each part
  scan_as_many : (answered : Bool) (x y : List Entry) → ((span : Stretch) → bytes_read y segment span ≡ bytes_read x segment span) → ReadsScan query table segment rows plan answered x → ReadsScan query table segment rows plan answered y
  scan_as_many answered x y same r = record {
    stars = λ t. same (star_span table segment.name rows t) ∙ r.stars t;
    forward = let few = r.forward in omega (arith, few, same (forward_span table segment.name rows));
    whole = λ is none column named. let all = r.whole is none column named in omega (arith, all, same (column_span table segment.name rows column));
  }

  -- where a query was not answered no more is said
  scan_less : (entries : List Entry) → ReadsScan query table segment rows plan true entries → ReadsScan query table segment rows plan false entries
  scan_less entries r = record { stars = r.stars; forward = r.forward; whole = λ is none column named. absurd (false≢true is) }

module _ (query : BoundQuery) (table : Table) (answered : Bool) (segment : Stored) (rows : List (List Value)) where
  -- reads that gave as many bytes of each part
  as_many : (x y : List Entry) → ((span : Stretch) → bytes_read y segment span ≡ bytes_read x segment span) → (plan : SegmentPlan) → ReadsBy query table segment rows answered x plan → ReadsBy query table segment rows answered y plan
  as_many x y same Pruned p = record { raw = same (raw_span table segment.name rows) ∙ p.raw; stars = λ t. same (star_span table segment.name rows t) ∙ p.stars t }
  as_many x y same Empty p = record { raw = same (raw_span table segment.name rows) ∙ p.raw; stars = λ t. same (star_span table segment.name rows t) ∙ p.stars t }
  as_many x y same (StarTree t) p = record {
    raw = same (raw_span table segment.name rows) ∙ p.raw;
    documents = subst (λ n. IfSome (slice_get table.settings.trees t) (λ tree. AreBytes answered n (docs_read query table rows t * doc_width tree.shape))) (sym (same (star_span table segment.name rows t))) p.documents;
    others = λ other ne. same (star_span table segment.name rows other) ∙ p.others other ne;
    bounded = p.bounded;
  }
  as_many x y same (Scan plan) p = scan_as_many query table segment rows plan answered x y same p

pub planned_of_file : (query : BoundQuery) (table : Table) (answered : Bool) → IsOfFile (ReadsPlanned query table answered)
planned_of_file query table answered = record {
  after = λ segment rows x y all p. as_many query table answered segment rows x (x ++ y) (λ span. after_others segment x y span all) (plan_over query table rows) p;
  before = λ segment rows x y all p. as_many query table answered segment rows y (x ++ y) (λ span. before_others segment x y span all) (plan_over query table rows) p;
}

-- what was read by a query that was answered is no more than what may be read by one that was not
at_most : (n m : ℕ) → AreBytes true n m → AreBytes false n m
at_most n m is = omega (arith, is)

if_tree : (o : Option TreeSetting) (P Q : TreeSetting → Type 0) → ((tree : TreeSetting) → P tree → Q tree) → IfSome o P → IfSome o Q
if_tree None P Q f h = tt
if_tree (Some tree) P Q f h = f tree h

pub planned_less : (query : BoundQuery) (table : Table) (segment : Stored) (rows : List (List Value)) (entries : List Entry) → ReadsPlanned query table true segment rows entries → ReadsPlanned query table false segment rows entries
planned_less query table segment rows entries p = by (plan_over query table rows) p
  where
    by : (plan : SegmentPlan) → ReadsBy query table segment rows true entries plan → ReadsBy query table segment rows false entries plan
    by Pruned p = p
    by Empty p = p
    by (StarTree t) p = record {
      raw = p.raw;
      documents = if_tree (slice_get table.settings.trees t) _ _ (λ tree is. at_most (bytes_read entries segment (star_span table segment.name rows t)) (docs_read query table rows t * doc_width tree.shape) is) p.documents;
      others = p.others;
      bounded = p.bounded;
    }
    by (Scan plan) p = scan_less query table segment rows plan entries p
