-- Of a file that is no image one part alone is wrong.
use Rattle.std.proofs.Common.{◌≡◌, ◌∙◌, ◌<◌, ◌+◌, ◌⊎◌, ℕ, All, List, [], ◌∷◌, ◌++◌, length, get_or, refl, sym, ap, subst, arith, inl, inr}
use Rattle.std.proofs.lemmas.List.Elements.{All-head, All-tail}
use Rattle.std.specs.List.{range_with_len}
use Rattle.data_types.specs.declared.kind.FieldKind.TheVariants.{Long}
use Rattle.table_schema.specs.declared.table.Table.{Table}
use Rattle.value_ids.specs.Dictionary.{Distinct}
use Rattle.segment_file.specs.declared.part.Part.{Part}
use Rattle.segment_file.specs.declared.part.Part.TheVariants as parts
use Rattle.segment_file.specs.Bounds.{bounds_bytes, bounds_of}
use Rattle.segment_file.specs.Front.{Extent, Front}
use Rattle.segment_file.specs.Columns.{kind_at}
use Rattle.segment_file.specs.Parts.{columns_of}
use Rattle.segment_file.specs.Rules.{AreSpelled, FailsAt, FailsBounds, FailsDictionary, FailsNodes, FailsSize, HasDictionaries, HasFront, HasNodes, HaveNodes, IsSized, IsSpelled, dictionary_in, heads_in, raw_extents}
use Rattle.segment_file.proofs.Counts.{all_at}
use Rattle.segment_file.proofs.RuleLaws.{fronts_one, spelled_one}
use Rattle.segment_file.proofs.Tails.{zip_at}
use Rattle.segment_check.specs.Checked.{FailsImageAt, IsNoImage}
use Rattle.segment_check.specs.Laws.{OnePart}
use Rattle.segment_check.proofs.FailsOnce.{fails_once, neither_less}

-- the first of a list that does not keep a rule is one
first_one : {X : Type 0} (P : X → Type 0) (xs ys : List X) (x y : X) (us vs : List X) → xs ++ x ∷ us ≡ ys ++ y ∷ vs → All P xs → All P ys → ¬ P x → ¬ P y → x ≡ y
first_one P [] [] x y us vs same before others fails none = cc
first_one P [] (b ∷ ys) x y us vs same before others fails none =
    let e : b ≡ x = cc in
    absurd (fails (subst P e (All-head P b ys others)))
first_one P (a ∷ xs) [] x y us vs same before others fails none =
    let e : a ≡ y = cc in
    absurd (none (subst P e (All-head P a xs before)))
first_one P (a ∷ xs) (b ∷ ys) x y us vs same before others fails none =
    let rest : xs ++ x ∷ us ≡ ys ++ y ∷ vs = cc in
    first_one P xs ys x y us vs rest (All-tail P a xs before) (All-tail P b ys others) fails none

module _ (table : Table) (name bytes : List ℕ) where
  abbrev heads : Front → List (List ℕ)
  heads front = heads_in table name front bytes

  -- a dictionary that is spelled is there
  dictionary_there : (c n : ℕ) (g : Front) (ds : List Distinct) → FailsDictionary table name bytes c → HasFront table name bytes g
      → AreSpelled table g.rows (heads g) (range_with_len 0 n) ds → c < n → ⊥
  dictionary_there c n g ds fails has spelled lt =
      let none : Distinct = record { kind = Long; values = [] } in
      let same : fails.front ≡ g = fronts_one table name bytes g fails.front has fails.front_is in
      let R : ℕ → Distinct → Type 0 = λ k d. IsSpelled (kind_at table k) g.rows (dictionary_in (heads g) k) d in
      let e : 0 + c ≡ c = omega arith in
      let found : R c (get_or ds c none) = subst (λ k. R k (get_or ds c none)) e (zip_at R 0 n c ds none spelled lt) in
      let missing : (d : Distinct) → R c d → ⊥ = subst (λ (f : Front). (d : Distinct) → ¬ IsSpelled (kind_at table c) f.rows (dictionary_in (heads f) c) d) same fails.none in
      missing (get_or ds c none) found

  bounds_there : (g : Front) (ds : List Distinct) → FailsBounds table name bytes → HasFront table name bytes g → HasDictionaries table g.rows (heads g) ds → ⊥
  bounds_there g ds fails has given =
      let same : fails.front ≡ g = fronts_one table name bytes g fails.front has fails.front_is in
      let there : AreSpelled table g.rows (heads g) (columns_of table) fails.dictionaries =
      subst (λ (f : Front). AreSpelled table f.rows (heads f) (columns_of table) fails.dictionaries) same fails.spelled in
      let those : fails.dictionaries ≡ ds = spelled_one table g.rows (heads g) (columns_of table) ds fails.dictionaries given.spelled there in
      let other = subst (λ (f : Front). ¬ (get_or (heads f) 0 [] ≡ bounds_bytes (bounds_of fails.dictionaries))) same fails.others in
      other (given.bounds ∙ ap (λ xs. bounds_bytes (bounds_of xs)) (sym those))

  nodes_there : (t n : ℕ) (g : Front) → FailsNodes table name bytes t → HasFront table name bytes g → HaveNodes table g.rows (heads g) n → t < n → ⊥
  nodes_there t n g fails has trees lt =
      let same : fails.front ≡ g = fronts_one table name bytes g fails.front has fails.front_is in
      let missing : HasNodes table g.rows (heads g) t → ⊥ = subst (λ (f : Front). ¬ HasNodes table f.rows (heads f) t) same fails.none in
      missing (all_at (HasNodes table g.rows (heads g)) n t trees lt)

  sizes_one : (p q : Part) → FailsSize table name bytes p → FailsSize table name bytes q → p ≡ q
  sizes_one p q first second =
      let f : Front = first.front in
      let same : second.front ≡ f = fronts_one table name bytes f second.front first.front_is second.front_is in
      let P : Extent → Type 0 = IsSized table f.rows (heads f) in
      let order : raw_extents table name f ≡ second.before ++ second.failing ∷ second.after =
      subst (λ (g : Front). raw_extents table name g ≡ second.before ++ second.failing ∷ second.after) same second.order in
      let sized : All P second.before = subst (λ (g : Front). All (IsSized table g.rows (heads g)) second.before) same second.sized in
      let other : ¬ P second.failing = subst (λ (g : Front). ¬ IsSized table g.rows (heads g) second.failing) same second.other in
      sym first.is_of
      ∙ ap (λ (e : Extent). e.part) (first_one P first.before second.before first.failing second.failing first.after second.after (sym first.order ∙ order) first.sized sized first.other other)
      ∙ second.is_of

  -- ---- which rule it is that fails

  abbrev Third : Part → Type 0
  Third p = ((t : ℕ) × (p ≡ parts.Nodes t) × FailsNodes table name bytes t) ⊎ FailsSize table name bytes p

  abbrev Second : Part → Type 0
  Second p = ((p ≡ parts.Bounds) × FailsBounds table name bytes) ⊎ Third p

  abbrev First : Part → Type 0
  First p = ((c : ℕ) × (p ≡ parts.Dictionary c) × FailsDictionary table name bytes c) ⊎ Second p

  abbrev Rule : Part → Type 0
  Rule p = ((p ≡ parts.Head) × ((front : Front) → ¬ HasFront table name bytes front)) ⊎ First p

  rule_of : (p : Part) → FailsAt table name bytes p → Rule p
  rule_of parts.Table fails = absurd fails
  rule_of parts.Head fails = inl (refl, fails)
  rule_of parts.Bounds fails = inr (inr (inl (refl, fails)))
  rule_of (parts.Dictionary c) fails = inr (inl (c, refl, fails))
  rule_of (parts.Nodes t) fails = inr (inr (inr (inl (t, refl, fails))))
  rule_of (parts.Forward c) fails = inr (inr (inr (inr fails)))
  rule_of (parts.Sorted c) fails = inr (inr (inr (inr fails)))
  rule_of (parts.Inverted c) fails = inr (inr (inr (inr fails)))
  rule_of (parts.Range c) fails = inr (inr (inr (inr fails)))
  rule_of (parts.Star t) fails = inr (inr (inr (inr fails)))

  -- the dictionaries of a file whose rules hold up to the bounds
  record Spells : Type 0 where
    front : Front
    has : HasFront table name bytes front
    dictionaries : List Distinct
    spelled : AreSpelled table front.rows (heads front) (columns_of table) dictionaries

  -- and up to the nodes
  record Bounded : Type 0 where
    front : Front
    has : HasFront table name bytes front
    dictionaries : List Distinct
    given : HasDictionaries table front.rows (heads front) dictionaries

  bounded_by : (p : Part) → Third p → Bounded
  bounded_by p (inl (t, is, fails)) = record { front = fails.front; has = fails.front_is; dictionaries = fails.dictionaries; given = fails.heads }
  bounded_by p (inr fails) = record { front = fails.front; has = fails.front_is; dictionaries = fails.dictionaries; given = fails.heads }

  spelled_by : (p : Part) → Second p → Spells
  spelled_by p (inl (is, fails)) = record { front = fails.front; has = fails.front_is; dictionaries = fails.dictionaries; spelled = fails.spelled }
  spelled_by p (inr third) =
      let b : Bounded = bounded_by p third in
      record { front = b.front; has = b.has; dictionaries = b.dictionaries; spelled = b.given.spelled }

  has_front : (p : Part) → First p → (front : Front) × HasFront table name bytes front
  has_front p (inl (c, is, fails)) = (fails.front, fails.front_is)
  has_front p (inr second) = let s : Spells = spelled_by p second in (s.front, s.has)

  third_one : (p q : Part) → Third p → Third q → p ≡ q
  third_one p q (inl (t, is, a)) (inl (u, also, b)) =
      is ∙ ap parts.Nodes (neither_less t u (λ lt. nodes_there t u b.front a b.front_is b.before lt) (λ lt. nodes_there u t a.front b a.front_is a.before lt)) ∙ sym also
  third_one p q (inl (t, is, a)) (inr b) = absurd (nodes_there t (length table.settings.trees) b.front a b.front_is b.trees a.tree)
  third_one p q (inr a) (inl (u, also, b)) = absurd (nodes_there u (length table.settings.trees) a.front b a.front_is a.trees b.tree)
  third_one p q (inr a) (inr b) = sizes_one p q a b

  second_one : (p q : Part) → Second p → Second q → p ≡ q
  second_one p q (inl (is, a)) (inl (also, b)) = is ∙ sym also
  second_one p q (inl (is, a)) (inr third) = let b : Bounded = bounded_by q third in absurd (bounds_there b.front b.dictionaries a b.has b.given)
  second_one p q (inr third) (inl (also, a)) = let b : Bounded = bounded_by p third in absurd (bounds_there b.front b.dictionaries a b.has b.given)
  second_one p q (inr a) (inr b) = third_one p q a b

  first_rule : (p q : Part) → First p → First q → p ≡ q
  first_rule p q (inl (c, is, a)) (inl (d, also, b)) =
      is ∙ ap parts.Dictionary (neither_less c d (λ lt. dictionary_there c d b.front b.before a b.front_is b.spelled lt) (λ lt. dictionary_there d c a.front a.before b a.front_is a.spelled lt)) ∙ sym also
  first_rule p q (inl (c, is, a)) (inr second) = let s : Spells = spelled_by q second in absurd (dictionary_there c (length table.schema.fields) s.front s.dictionaries a s.has s.spelled a.field)
  first_rule p q (inr second) (inl (c, is, a)) = let s : Spells = spelled_by p second in absurd (dictionary_there c (length table.schema.fields) s.front s.dictionaries a s.has s.spelled a.field)
  first_rule p q (inr a) (inr b) = second_one p q a b

  rule_one : (p q : Part) → Rule p → Rule q → p ≡ q
  rule_one p q (inl (is, none)) (inl (also, nor)) = is ∙ sym also
  rule_one p q (inl (is, none)) (inr first) = let f = has_front q first in absurd (none f.0 f.1)
  rule_one p q (inr first) (inl (is, none)) = let f = has_front p first in absurd (none f.0 f.1)
  rule_one p q (inr a) (inr b) = first_rule p q a b

  one : (p q : Part) → IsNoImage table name bytes p → IsNoImage table name bytes q → p ≡ q
  one p q (inl a) (inl b) = rule_one p q (rule_of p a) (rule_of q b)
  one p q (inl a) (inr b) = absurd ((fails_once table name bytes p q).0 a b)
  one p q (inr a) (inl b) = absurd ((fails_once table name bytes q p).0 b a)
  one p q (inr a) (inr b) = (fails_once table name bytes p q).1 a b

pub one_part : OnePart
one_part table name bytes p q a b = one table name bytes p q a b
