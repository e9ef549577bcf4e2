-- The documents that conjuncts leave, one conjunct after the other.
use Rattle.std.proofs.Common.{◌≡◌, ◌∙◌, ◌+◌, ◌<◌, ◌&&◌, ◌∷◌, ◌++◌, [], ℕ, zero, suc, Bool, true, false, All, List, Option, Some, None, IfSome, length, take, get_or, slice_get, inl, inr, refl, sym, ap, subst, arith}
use Rattle.std.specs.Prelude.{if◌then◌else◌}
use Rattle.std.proofs.lemmas.Bool.{cases_lt, false≢true}
use Rattle.std.proofs.lemmas.List.{length-append}
use Rattle.std.proofs.lemmas.List.Elements.{All-from_get_or}
use Rattle.std.proofs.lemmas.List.Folds.{list_all-append}
use Rattle.outside.specs.Files.{Files}
use Rattle.outside.specs.Reads.{Entry}
use Rattle.doc_lists.specs.Docs.{has_doc}
use Rattle.doc_lists.specs.Sets.{AreThose}
use Rattle.table_schema.specs.declared.query.Conjunct.{Conjunct}
use Rattle.table_schema.specs.declared.query.Conjunct.TheVariants.{One, Many}
use Rattle.segment_head.specs.Heads.{Seen}
use Rattle.segment_plan.specs.declared.plans.IndexChoice.{IndexChoice}
use Rattle.segment_plan.specs.declared.plans.IndexChoice.TheVariants.{Unindexed, Sorted, Inverted, Range}
use Rattle.index_filter.specs.Indexes.{AddsUnsure, AreInBoth, AreLeft, HasUnsure, Leaves, LeavesBy, LogsAt, LogsAtPartly, LogsIndexed, LogsIndexedPartly, OfEach, TellsIndexed, all_leave, is_unsure, leaves}
use Rattle.segment_plan.specs.Served.{choice_at}
use Rattle.segment_plan.specs.RowsLeft.{Chosen, indexed, is_indexed}
use Rattle.index_filter.proofs.MatchLemmas.{all_has, has_own}

and_true : (x : Bool) → (x && true) ≡ x
and_true true = refl
and_true false = refl

and_left : (a b : Bool) → a && b ≡ true → a ≡ true
and_left true b e = refl
and_left false b e = absurd (false≢true e)

-- ---- the conjuncts that are indexed

-- one conjunct with its choice
abbrev pub one_chosen : IndexChoice → Conjunct → Chosen
one_chosen choice conjunct = record { choice = choice; conjunct = conjunct }

pub none_indexed : (choices : List IndexChoice) → indexed choices [] ≡ []
none_indexed [] = refl
none_indexed (c ∷ cs) = refl

pub front_indexed : (b : Bool) (y : Chosen) (xs ys : List Chosen) → (if b then y ∷ (xs ++ ys) else xs ++ ys) ≡ (if b then y ∷ xs else xs) ++ ys
front_indexed true y xs ys = refl
front_indexed false y xs ys = refl

-- the indexed ones of the first conjuncts, and then the next one if it is indexed
pub indexed_more : (choices : List IndexChoice) (conjuncts : List Conjunct) (i : ℕ) (x : Conjunct) → slice_get conjuncts i ≡ Some x
    → indexed choices (take (suc i) conjuncts) ≡ indexed choices (take i conjuncts) ++ (if is_indexed (choice_at choices i) x then one_chosen (choice_at choices i) x ∷ [] else [])
indexed_more choices [] i x at = absurd cc
indexed_more [] (y ∷ ys) i x at = refl
indexed_more (c ∷ cs) (y ∷ ys) zero x at =
    let same : y ≡ x = cc in
    ap (λ (l : List Chosen). if is_indexed c y then one_chosen c y ∷ l else l) (none_indexed cs) ∙ ap (λ z. if is_indexed c z then one_chosen c z ∷ [] else []) same
indexed_more (c ∷ cs) (y ∷ ys) (suc i) x at =
    ap (λ (l : List Chosen). if is_indexed c y then one_chosen c y ∷ l else l) (indexed_more cs ys i x at)
    ∙ front_indexed (is_indexed c y) (one_chosen c y) (indexed cs (take i ys)) (if is_indexed (choice_at cs i) x then one_chosen (choice_at cs i) x ∷ [] else [])

-- ---- one conjunct

-- what a list of documents is of a conjunct that is indexed
record IsOwn (held : Option Files) (head : Seen) (choice : IndexChoice) (conjunct : Conjunct) (docs : List ℕ) : Type 0 where
  has : is_indexed choice conjunct ≡ true
  within : All (λ doc. doc < head.rows) docs
  told : IfSome held (λ files. (ids : ℕ → List ℕ) → TellsIndexed files head ids choice conjunct → AreThose (λ doc. leaves head ids doc choice conjunct) docs)

own : (held : Option Files) (head : Seen) (choice : IndexChoice) (conjunct : Conjunct) (docs : List ℕ) → LeavesBy held head choice conjunct (Some docs) → IsOwn held head choice conjunct docs
own held head Unindexed conjunct docs by = absurd by
own held head Sorted (Many wide) docs by = absurd by
own held head Inverted (Many wide) docs by = absurd by
own held head Range (Many wide) docs by = absurd by
own None head Sorted (One column test) docs by = record { has = refl; within = by.within; told = tt }
own None head Inverted (One column test) docs by = record { has = refl; within = by.within; told = tt }
own None head Range (One column test) docs by = record { has = refl; within = by.within; told = tt }
own (Some files) head Sorted (One column test) docs by = record { has = refl; within = by.within; told = λ ids tells. by.told (ids column) tells }
own (Some files) head Inverted (One column test) docs by = record { has = refl; within = by.within; told = λ ids tells. by.told (ids column) tells }
own (Some files) head Range (One column test) docs by = record { has = refl; within = by.within; told = λ ids tells. by.told (ids column) tells }

-- ---- both lists

in_both_all : (P : ℕ → Type 0) (a b c : List ℕ) → AreThose (λ doc. has_doc a doc && has_doc b doc) c → All P a → All P c
in_both_all P a b c those all = All-from_get_or P c 0 (λ j lt.
    let doc : ℕ = get_or c j 0 in
    all_has P a doc (and_left (has_doc a doc) (has_doc b doc) (sym (those.those doc) ∙ has_own c j lt)) all)

-- a part of documents
pub part_all : (P : ℕ → Type 0) (docs part : List ℕ) (test : ℕ → Bool) → AreThose (λ doc. has_doc docs doc && test doc) part → All P docs → All P part
part_all P docs part test those all = All-from_get_or P part 0 (λ j lt.
    let doc : ℕ = get_or part j 0 in
    all_has P docs doc (and_left (has_doc docs doc) (test doc) (sym (those.those doc) ∙ has_own part j lt)) all)

module _ (held : Option Files) (head : Seen) (choices : List IndexChoice) (conjuncts : List Conjunct) where
  one_left : (told : Option Files) (i : ℕ) (x : Conjunct) (docs : List ℕ) → slice_get conjuncts i ≡ Some x
      → IfSome told (λ files. (ids : ℕ → List ℕ) → TellsIndexed files head ids (choice_at choices i) x → AreThose (λ doc. leaves head ids doc (choice_at choices i) x) docs)
      → IfSome told (λ files. (ids : ℕ → List ℕ) → OfEach (TellsIndexed files head ids) choices conjuncts → AreThose (λ doc. all_leave head ids doc (one_chosen (choice_at choices i) x ∷ [])) docs)
  one_left None i x docs at known = tt
  one_left (Some files) i x docs at known = λ ids tells.
      let those = known ids (tells i x at) in
      record { ascend = those.ascend; those = λ doc. those.those doc ∙ sym (and_true (leaves head ids doc (choice_at choices i) x)) }

  more_left : (told : Option Files) (i : ℕ) (x : Conjunct) (list : List Chosen) (a b c : List ℕ) → slice_get conjuncts i ≡ Some x
      → IfSome told (λ files. (ids : ℕ → List ℕ) → OfEach (TellsIndexed files head ids) choices conjuncts → AreThose (λ doc. all_leave head ids doc list) a)
      → IfSome told (λ files. (ids : ℕ → List ℕ) → TellsIndexed files head ids (choice_at choices i) x → AreThose (λ doc. leaves head ids doc (choice_at choices i) x) b)
      → AreThose (λ doc. has_doc a doc && has_doc b doc) c
      → IfSome told (λ files. (ids : ℕ → List ℕ) → OfEach (TellsIndexed files head ids) choices conjuncts → AreThose (λ doc. all_leave head ids doc (list ++ one_chosen (choice_at choices i) x ∷ [])) c)
  more_left None i x list a b c at first next both = tt
  more_left (Some files) i x list a b c at first next both = λ ids tells.
      let one = first ids tells in
      let two = next ids (tells i x at) in
      record {
        ascend = both.ascend;
        those = λ doc. both.those doc ∙ (λ k. one.those doc k && two.those doc k) ∙ ap (λ t. all_leave head ids doc list && t) (sym (and_true (leaves head ids doc (choice_at choices i) x)))
            ∙ sym (list_all-append (λ y. leaves head ids doc y.choice y.conjunct) list (one_chosen (choice_at choices i) x ∷ []));
      }

  with_one : (i : ℕ) (x : Conjunct) (list : List Chosen) (docs : List ℕ) → slice_get conjuncts i ≡ Some x → list ≡ [] → IsOwn held head (choice_at choices i) x docs → AreLeft held head choices conjuncts (list ++ one_chosen (choice_at choices i) x ∷ []) docs
  with_one i x list docs at none by =
      subst (λ (l : List Chosen). AreLeft held head choices conjuncts (l ++ one_chosen (choice_at choices i) x ∷ []) docs) (sym none) (record { some = omega arith; within = by.within; told = one_left held i x docs at by.told })

  -- a conjunct that is indexed, after those before it
  with_indexed : (i : ℕ) (x : Conjunct) (list : List Chosen) (old : Option (List ℕ)) (docs : List ℕ) (new : Option (List ℕ)) → slice_get conjuncts i ≡ Some x → Leaves held head choices conjuncts list old
      → IsOwn held head (choice_at choices i) x docs → AreInBoth old (Some docs) new → Leaves held head choices conjuncts (list ++ one_chosen (choice_at choices i) x ∷ []) new
  with_indexed i x list None docs new at left by both = subst (Leaves held head choices conjuncts (list ++ one_chosen (choice_at choices i) x ∷ [])) (sym both) (with_one i x list docs at left by)
  with_indexed i x list (Some a) docs None at left by both = absurd both
  with_indexed i x list (Some a) docs (Some c) at left by both =
      record {
        some = omega (arith, length-append list (one_chosen (choice_at choices i) x ∷ []));
        within = in_both_all (λ doc. doc < head.rows) a docs c both left.within;
        told = more_left held i x list a docs c at left.told by.told both;
      }

  same_list : (old new : Option (List ℕ)) → AreInBoth old None new → old ≡ new
  same_list None new both = sym both
  same_list (Some a) new both = sym both

  nothing_more : (list : List Chosen) → list ++ [] ≡ list
  nothing_more [] = refl
  nothing_more (y ∷ ys) = ap (λ (l : List Chosen). y ∷ l) (nothing_more ys)

  -- the next conjunct
  pub left_next : (i : ℕ) (x : Conjunct) (old found new : Option (List ℕ)) → slice_get conjuncts i ≡ Some x → Leaves held head choices conjuncts (indexed choices (take i conjuncts)) old
      → LeavesBy held head (choice_at choices i) x found → AreInBoth old found new → Leaves held head choices conjuncts (indexed choices (take (suc i) conjuncts)) new
  left_next i x old None new at left by both =
      let same : indexed choices (take (suc i) conjuncts) ≡ indexed choices (take i conjuncts) =
      indexed_more choices conjuncts i x at ∙ ap (λ b. indexed choices (take i conjuncts) ++ (if b then one_chosen (choice_at choices i) x ∷ [] else [])) by ∙ nothing_more (indexed choices (take i conjuncts)) in
      subst (λ (l : List Chosen). Leaves held head choices conjuncts l new) (sym same) (subst (Leaves held head choices conjuncts (indexed choices (take i conjuncts))) (same_list old new both) left)
  left_next i x old (Some docs) new at left by both =
      let its = own held head (choice_at choices i) x docs by in
      let same : indexed choices (take (suc i) conjuncts) ≡ indexed choices (take i conjuncts) ++ one_chosen (choice_at choices i) x ∷ [] =
      indexed_more choices conjuncts i x at ∙ ap (λ b. indexed choices (take i conjuncts) ++ (if b then one_chosen (choice_at choices i) x ∷ [] else [])) its.has in
      subst (λ (l : List Chosen). Leaves held head choices conjuncts l new) (sym same) (with_indexed i x (indexed choices (take i conjuncts)) old docs new at left its both)

  -- the reads of the conjunct at a place
  pub logs_at : (now : Option Files) (i : ℕ) (x : Conjunct) (old new : Option (List Entry)) → now ≡ held → slice_get conjuncts i ≡ Some x → LogsIndexed now head (choice_at choices i) x old new → LogsAt held head choices conjuncts i old new
  logs_at now i x old new same at logs = λ y there.
      let is : x ≡ y = (let both : Some x ≡ Some y = sym at ∙ there in cc) in
      subst (λ h. LogsIndexed h head (choice_at choices i) y old new) same (subst (λ z. LogsIndexed now head (choice_at choices i) z old new) is logs)

  pub logs_at_partly : (now : Option Files) (i : ℕ) (x : Conjunct) (old new : Option (List Entry)) → now ≡ held → slice_get conjuncts i ≡ Some x → LogsIndexedPartly now head (choice_at choices i) x old new → LogsAtPartly held head choices conjuncts i old new
  logs_at_partly now i x old new same at logs = λ y there.
      let is : x ≡ y = (let both : Some x ≡ Some y = sym at ∙ there in cc) in
      subst (λ h. LogsIndexedPartly h head (choice_at choices i) y old new) same (subst (λ z. LogsIndexedPartly now head (choice_at choices i) z old new) is logs)

-- the item at a place
pub item_at : {X : Type 0} (xs : List X) (i : ℕ) (x : X) → i < length xs → x ≡ get_or xs i x → slice_get xs i ≡ Some x
item_at [] i x lt is = absurd (omega (arith, lt))
item_at (y ∷ ys) zero x lt is = ap Some (sym is)
item_at (y ∷ ys) (suc i) x lt is = item_at ys i x (omega (arith, lt)) is

-- ---- the documents that are not sure of conjuncts

module _ (head : Seen) (choices : List IndexChoice) (conjuncts : List Conjunct) where
  pub unsure_none : (told : Option Files) (docs : List ℕ) → HasUnsure told head choices conjuncts 0 docs
  unsure_none None docs = tt
  unsure_none (Some files) docs = λ ids tells at conjunct lt there doc is. absurd (omega (arith, lt))

  pub unsure_next : (told : Option Files) (i : ℕ) (x : Conjunct) (old new : List ℕ) → slice_get conjuncts i ≡ Some x → HasUnsure told head choices conjuncts i old → AddsUnsure told head (choice_at choices i) x old new → HasUnsure told head choices conjuncts (i + 1) new
  unsure_next None i x old new there first adds = tt
  unsure_next (Some files) i x old new there first adds = λ ids tells at conjunct lt here doc is. elim (cases_lt at i) [
    | inl less ↦ adds.kept doc (first ids tells at conjunct less here doc is)
    | inr ge ↦
        let same : i ≡ at = omega (arith, ge, lt) in
        let both : Some x ≡ Some conjunct = sym there ∙ ap (slice_get conjuncts) same ∙ here in
        let x_is : x ≡ conjunct = cc in
        adds.told ids (tells i x there) doc ((λ j. is_unsure head ids doc (choice_at choices (same j)) (x_is j)) ∙ is)
  ]
