-- The bounds of tests that are made of others, and the ids that match them.
use Rattle.std.proofs.Common.{◌≡◌, ◌∙◌, ◌<◌, ◌≤◌, ◌+◌, ◌-◌, ◌++◌, ℕ, Bool, pos, List, [], ◌∷◌, Result, IfOk, Option, Some, None, length, get_or, map, drop, take, inl, inr, refl, sym, ap, subst, arith, append_assoc, append-nil}
use Rattle.std.proofs.lemmas.List.{get_or_append_left, get_or-append-add, get_or-drop, get_or-take, get_or_default, length-append, length-drop, length-take, take_more}
use Rattle.std.proofs.lemmas.Bool.{cases_lt}
use Rattle.std.proofs.Math.Seq.{get_or-append_seam}
use Rattle.std.specs.List.{slice_get}
use Rattle.values.specs.declared.value.Value.{Value}
use Rattle.values.specs.declared.value.Value.TheVariants.{Whole}
use Rattle.values.specs.declared.test.Test.{Test}
use Rattle.values.specs.declared.test.Test.TheOpen.{Test-F}
use Rattle.values.specs.declared.test.Test.TheFolds.{fold-roll-Test}
use Rattle.values.specs.declared.test.CompareOp.{CompareOp}
use Rattle.values.specs.declared.test.Test.TheVariants.{All, Any, Between, Compare, OneOf, rolls-All, rolls-Any, rolls-Between, rolls-Compare, rolls-OneOf}
use Rattle.values.specs.Order.{value_order}
use Rattle.values.specs.Tests.{holds, is_between, is_member, negated_if, op_holds, holds_step}
use Rattle.value_ids.specs.Ids.{AreThose, Cuts, Picks, holds_at, is_in_both, is_in_either, is_within, has_id, negated_ids}
use Rattle.value_ids.specs.declared.cuts.Cut.{Cut}
use Rattle.value_ids.proofs.MatchLemmas.{AllSoFar, AnySoFar, PlacesUpTo, all_at_first, all_end, all_more, any_at_first, any_end, any_more, between_run, all_places, if_ok, negated_picks, place_absent, place_there, set_picks}
use Rattle.dictionary_reading.specs.Bounds.{AreCutsFrom, bounds_of, bounds_step, joined}

-- ---- bounds

bounds_all : (tests : List Test) → bounds_of (All tests) ≡ joined (map bounds_of tests)
bounds_all tests = ap bounds_of (sym (rolls-All tests)) ∙ fold-roll-Test (List Value) bounds_step (Test-F.All tests)

bounds_any : (tests : List Test) → bounds_of (Any tests) ≡ joined (map bounds_of tests)
bounds_any tests = ap bounds_of (sym (rolls-Any tests)) ∙ fold-roll-Test (List Value) bounds_step (Test-F.Any tests)

pub all_bounds : (test : Test) (tests slice : List Test) → test ≡ All tests → slice ≡ tests → joined (map bounds_of slice) ≡ bounds_of test
all_bounds test tests slice is same = ap (λ ts. joined (map bounds_of ts)) same ∙ sym (bounds_all tests) ∙ ap bounds_of (sym is)

pub any_bounds : (test : Test) (tests slice : List Test) → test ≡ Any tests → slice ≡ tests → joined (map bounds_of slice) ≡ bounds_of test
any_bounds test tests slice is same = ap (λ ts. joined (map bounds_of ts)) same ∙ sym (bounds_any tests) ∙ ap bounds_of (sym is)

-- the bounds of one more test
pub bounds_more : (left rest : List Test) (test : Test) (old new whole : List Value) → left ≡ test ∷ rest → new ≡ old ++ bounds_of test → old ++ joined (map bounds_of left) ≡ whole → new ++ joined (map bounds_of rest) ≡ whole
bounds_more left rest test old new whole is next before =
    ap (λ xs. xs ++ joined (map bounds_of rest)) next ∙ append_assoc old (bounds_of test) (joined (map bounds_of rest)) ∙ ap (λ ts. old ++ joined (map bounds_of ts)) (sym is) ∙ before

pub bounds_end : (left : List Test) (all whole : List Value) → left ≡ [] → all ++ joined (map bounds_of left) ≡ whole → all ≡ whole
bounds_end left all whole none before = sym (append-nil all) ∙ ap (λ ts. all ++ joined (map bounds_of ts)) (sym none) ∙ before

-- ---- cuts

pub cuts_left : (at : ℕ) (xs ys : List Value) (cuts : List Cut) (values : List Value) → AreCutsFrom at (xs ++ ys) cuts values → AreCutsFrom at xs cuts values
cuts_left at xs ys cuts values are k b c lt =
    subst (λ v. Cuts values v (get_or cuts (at + k) c).from (get_or cuts (at + k) c).to) (get_or_append_left xs ys b k lt) (are k b c (omega (arith, lt, length-append xs ys)))

pub cuts_right : (at next : ℕ) (xs ys : List Value) (cuts : List Cut) (values : List Value) → next ≡ at + length xs → AreCutsFrom at (xs ++ ys) cuts values → AreCutsFrom next ys cuts values
cuts_right at next xs ys cuts values is are k b c lt =
    let place : at + (length xs + k) ≡ next + k = omega (arith, is) in
    let there = are (length xs + k) b c (omega (arith, lt, length-append xs ys)) in
    subst (λ (n : ℕ). Cuts values (get_or ys k b) (get_or cuts n c).from (get_or cuts n c).to) place
    (subst (λ v. Cuts values v (get_or cuts (at + (length xs + k)) c).from (get_or cuts (at + (length xs + k)) c).to) (get_or-append-add xs ys k b) there)

-- the cut of the bound at a place
pub cut_there : (at k n : ℕ) (bounds : List Value) (cuts : List Cut) (values : List Value) (bound : Value) (c : Cut) → k < length bounds → n ≡ at + k → bound ≡ get_or bounds k bound → AreCutsFrom at bounds cuts values → Cuts values bound (get_or cuts n c).from (get_or cuts n c).to
cut_there at k n bounds cuts values bound c lt place is are =
    let one : Cuts values (get_or bounds k bound) (get_or cuts n c).from (get_or cuts n c).to = subst (λ (m : ℕ). Cuts values (get_or bounds k bound) (get_or cuts m c).from (get_or cuts m c).to) (sym place) (are k bound c lt) in
    subst (λ v. Cuts values v (get_or cuts n c).from (get_or cuts n c).to) (sym is) one

-- one more cut
pub cuts_more : (bounds : List Value) (i : ℕ) (bound : Value) (old new : List Cut) (cut : Cut) (values : List Value) → i < length bounds → bound ≡ get_or bounds i bound → length old ≡ i → new ≡ old ++ cut ∷ [] → AreCutsFrom 0 (take i bounds) old values → Cuts values bound cut.from cut.to
    → AreCutsFrom 0 (take (i + 1) bounds) new values
cuts_more bounds i bound old new cut values lt is long next before now k b c within =
    let front : length (take i bounds) ≡ i = omega (arith, lt, length-take i bounds) in
    let all : length (take (i + 1) bounds) ≡ i + 1 = omega (arith, lt, length-take (i + 1) bounds) in
    let shape : take (i + 1) bounds ≡ take i bounds ++ bound ∷ [] = take_more bounds i bound lt ∙ ap (λ x. take i bounds ++ x ∷ []) (sym is) in
    elim (cases_lt k i) [
      | inl below ↦
          let one : get_or (take (i + 1) bounds) k b ≡ get_or (take i bounds) k b = ap (λ xs. get_or xs k b) shape ∙ get_or_append_left (take i bounds) (bound ∷ []) b k (omega (arith, below, front)) in
          let two : get_or new (0 + k) c ≡ get_or old (0 + k) c = ap (λ xs. get_or xs (0 + k) c) next ∙ get_or_append_left old (cut ∷ []) c (0 + k) (omega (arith, below, long)) in
          subst (λ (x : Cut). Cuts values (get_or (take (i + 1) bounds) k b) x.from x.to) (sym two) (subst (λ v. Cuts values v (get_or old (0 + k) c).from (get_or old (0 + k) c).to) (sym one) (before k b c (omega (arith, below, front))))
      | inr le ↦
          let first : k ≡ length (take i bounds) = omega (arith, le, within, all, front) in
          let second : 0 + k ≡ length old = omega (arith, le, within, all, long) in
          let one : get_or (take (i + 1) bounds) k b ≡ bound = ap (λ xs. get_or xs k b) shape ∙ ap (λ n. get_or (take i bounds ++ bound ∷ []) n b) first ∙ get_or-append_seam (take i bounds) bound [] b in
          let two : get_or new (0 + k) c ≡ cut = ap (λ xs. get_or xs (0 + k) c) next ∙ ap (λ n. get_or (old ++ cut ∷ []) n c) second ∙ get_or-append_seam old cut [] c in
          subst (λ (x : Cut). Cuts values (get_or (take (i + 1) bounds) k b) x.from x.to) (sym two) (subst (λ v. Cuts values v cut.from cut.to) (sym one) now)
    ]

-- ---- tests of one value

held_at : (found : Option Value) (p q : Value → Bool) → ((v : Value) → q v ≡ p v) → holds_at p found ≡ holds_at q found
held_at None p q same = refl
held_at (Some v) p q same = sym (same v)

-- the ids of the values that satisfy a test
abbrev pub Found : Test → List Cut → ℕ → ℕ → List ℕ → Type 0
Found test cuts count at ids = (values : List Value) → length values ≡ count → AreCutsFrom at (bounds_of test) cuts values → Picks (λ v. holds v test) values ids

-- what holds of the same values picks the same ids
held_by : (test same : Test) (p : Value → Bool) (values : List Value) (ids : List ℕ) → test ≡ same → ((v : Value) → holds v same ≡ p v) → Picks p values ids → Picks (λ v. holds v test) values ids
held_by test same p values ids is so picks id = picks id ∙ held_at (slice_get values id) p (λ v. holds v test) (λ v. ap (holds v) is ∙ so v)

-- the ids that stand so to the bound of a cut
abbrev pub Compared : CompareOp → Cut → ℕ → List ℕ → Type 0
Compared op cut count ids = (values : List Value) (bound : Value) → length values ≡ count → Cuts values bound cut.from cut.to → Picks (λ value. op_holds op (value_order value bound)) values ids

pub compared_by : {E : Type 0} (op k : CompareOp) (cut : Cut) (count : ℕ) (r : Result (List ℕ) E) (P : List ℕ → Type 0) → op ≡ k → ((ids : List ℕ) → P ids → Compared k cut count ids) → IfOk r P → IfOk r (Compared op cut count)
compared_by op k cut count r P is so p = subst (λ o. IfOk r (Compared o cut count)) (sym is) (if_ok r P (Compared k cut count) so p)

pub compare_found : {E : Type 0} (test : Test) (op : CompareOp) (bound : Value) (cuts : List Cut) (count at : ℕ) (c : Cut) (r : Result (List ℕ) E) → test ≡ Compare op bound → IfOk r (Compared op (get_or cuts at c) count) → IfOk r (Found test cuts count at)
compare_found test op bound cuts count at c r is so =
    let bounds : bounds_of test ≡ bound ∷ [] = ap bounds_of (is ∙ sym (rolls-Compare op bound)) ∙ fold-roll-Test (List Value) bounds_step (Test-F.Compare op bound) in
    if_ok r (Compared op (get_or cuts at c) count) (Found test cuts count at)
    (λ ids own values many are. held_by test (Compare op bound) (λ v. op_holds op (value_order v bound)) values ids is (λ v. ap (holds v) (sym (rolls-Compare op bound)) ∙ fold-roll-Test Bool (holds_step v) (Test-F.Compare op bound))
    (own values bound many (cut_there at 0 at (bound ∷ []) cuts values bound c (omega arith) (omega arith) refl (subst (λ bs. AreCutsFrom at bs cuts values) bounds are)))) so

-- the ids between the bounds of two cuts, or all others
abbrev pub AreBetween : Bool → Cut → Cut → ℕ → List ℕ → Type 0
AreBetween negated low high count ids = (values : List Value) (least greatest : Value) → length values ≡ count → Cuts values least low.from low.to → Cuts values greatest high.from high.to → Picks (λ value. negated_if negated (is_between least value greatest)) values ids

pub between_ids : (negated : Bool) (low high : Cut) (count : ℕ) (ids new : List ℕ) → AreThose (is_within low.from high.to) ids → AreThose (negated_ids negated count ids) new → AreBetween negated low high count new
between_ids negated low high count ids new run those values least greatest many below above =
    negated_picks negated (λ value. is_between least value greatest) values ids new (between_run values least greatest low.from low.to high.from high.to ids below above run) (subst (λ (n : ℕ). AreThose (negated_ids negated n ids) new) (sym many) those)

pub between_found : {E : Type 0} (test : Test) (least greatest : Value) (negated : Bool) (cuts : List Cut) (count at : ℕ) (c : Cut) (r : Result (List ℕ) E) → test ≡ Between least greatest negated → IfOk r (AreBetween negated (get_or cuts at c) (get_or cuts (at + 1) c) count) → IfOk r (Found test cuts count at)
between_found test least greatest negated cuts count at c r is so =
    let bounds : bounds_of test ≡ least ∷ greatest ∷ [] = ap bounds_of (is ∙ sym (rolls-Between least greatest negated)) ∙ fold-roll-Test (List Value) bounds_step (Test-F.Between least greatest negated) in
    if_ok r (AreBetween negated (get_or cuts at c) (get_or cuts (at + 1) c) count) (Found test cuts count at)
    (λ ids own values many are.
    let cut = subst (λ bs. AreCutsFrom at bs cuts values) bounds are in
    held_by test (Between least greatest negated) (λ v. negated_if negated (is_between least v greatest)) values ids is (λ v. ap (holds v) (sym (rolls-Between least greatest negated)) ∙ fold-roll-Test Bool (holds_step v) (Test-F.Between least greatest negated))
    (own values least greatest many (cut_there at 0 at (least ∷ greatest ∷ []) cuts values least c (omega arith) (omega arith) refl cut) (cut_there at 1 (at + 1) (least ∷ greatest ∷ []) cuts values greatest c (omega arith) refl refl cut))) so

-- the ids of the bounds of cuts, or all others
abbrev pub AreMembers : Bool → List Cut → ℕ → List ℕ → Type 0
AreMembers negated cuts count ids = (values members : List Value) → length values ≡ count → length members ≡ length cuts → AreCutsFrom 0 members cuts values → Picks (λ value. negated_if negated (is_member members value)) values ids

abbrev pub ArePlaces : List Cut → List ℕ → Type 0
ArePlaces cuts places = (values members : List Value) → length members ≡ length cuts → AreCutsFrom 0 members cuts values → Picks (is_member members) values places

pub member_ids : (negated : Bool) (cuts : List Cut) (count : ℕ) (places ids new : List ℕ) → ArePlaces cuts places → AreThose (has_id places) ids → AreThose (negated_ids negated count ids) new → AreMembers negated cuts count new
member_ids negated cuts count places ids new are set those values members many each cut =
    negated_picks negated (is_member members) values ids new (set_picks (is_member members) values places ids (are values members each cut) set) (subst (λ (n : ℕ). AreThose (negated_ids negated n ids) new) (sym many) those)

own_cuts : (at : ℕ) (members : List Value) (cuts own : List Cut) (values : List Value) → own ≡ take (length members) (drop at cuts) → AreCutsFrom at members cuts values → AreCutsFrom 0 members own values
own_cuts at members cuts own values is are k b c lt =
    let none : 0 + k ≡ k = omega arith in
    let same : get_or own (0 + k) c ≡ get_or cuts (at + k) c = ap (λ n. get_or own n c) none ∙ ap (λ xs. get_or xs k c) is ∙ get_or-take (length members) (drop at cuts) k c lt ∙ get_or-drop at cuts k c in
    subst (λ (x : Cut). Cuts values (get_or members k b) x.from x.to) (sym same) (are k b c lt)

pub members_found : {E : Type 0} (test : Test) (members : List Value) (negated : Bool) (cuts : List Cut) (count at size : ℕ) (r : Result (List ℕ) E) → test ≡ OneOf members negated → size ≡ length members → at + length (bounds_of test) ≤ length cuts
    → IfOk r (AreMembers negated (take (at + size - at) (drop at cuts)) count) → IfOk r (Found test cuts count at)
members_found test members negated cuts count at size r is size_is room so =
    let bounds : bounds_of test ≡ members = ap bounds_of (is ∙ sym (rolls-OneOf members negated)) ∙ fold-roll-Test (List Value) bounds_step (Test-F.OneOf members negated) in
    let own : List Cut = take (at + size - at) (drop at cuts) in
    let many : at + size - at ≡ length members = omega (arith, size_is) in
    let long : length own ≡ length members = omega (arith, many, size_is, room, ap length bounds, length-take (at + size - at) (drop at cuts), length-drop at cuts) in
    if_ok r (AreMembers negated own count) (Found test cuts count at)
    (λ ids own_ids values all are. held_by test (OneOf members negated) (λ v. negated_if negated (is_member members v)) values ids is (λ v. ap (holds v) (sym (rolls-OneOf members negated)) ∙ fold-roll-Test Bool (holds_step v) (Test-F.OneOf members negated))
    (own_ids values members all (sym long) (own_cuts at members cuts own values (ap (λ n. take n (drop at cuts)) many) (subst (λ bs. AreCutsFrom at bs cuts values) bounds are)))) so

-- ---- the places of cuts

-- the places of the first so many
abbrev pub PlacesOf : List Cut → ℕ → List ℕ → Type 0
PlacesOf cuts i places = (values members : List Value) → length members ≡ length cuts → AreCutsFrom 0 members cuts values → PlacesUpTo members values i places

own_bound : (members : List Value) (i : ℕ) (d : Value) → i < length members → get_or members i d ≡ get_or members i (get_or members i d)
own_bound members i d lt = get_or_default members i d (get_or members i d) lt

pub place_passed : (cuts : List Cut) (i : ℕ) (c : Cut) (places : List ℕ) → i < length cuts → (get_or cuts i c).to ≤ (get_or cuts i c).from → PlacesOf cuts i places → PlacesOf cuts (i + 1) places
place_passed cuts i c places lt none so values members each are =
    let bound : Value = get_or members i (Whole (pos 0)) in
    let within : i < length members = omega (arith, each, lt) in
    let cut = get_or cuts i c in
    place_absent members values i cut.from cut.to bound places within (own_bound members i (Whole (pos 0)) within) (cut_there 0 i i members cuts values bound c within (omega arith) (own_bound members i (Whole (pos 0)) within) are) none (so values members each are)

pub place_kept : (cuts : List Cut) (i : ℕ) (c : Cut) (places new : List ℕ) → i < length cuts → (get_or cuts i c).from < (get_or cuts i c).to → new ≡ places ++ (get_or cuts i c).from ∷ [] → PlacesOf cuts i places → PlacesOf cuts (i + 1) new
place_kept cuts i c places new lt some on so values members each are =
    let bound : Value = get_or members i (Whole (pos 0)) in
    let within : i < length members = omega (arith, each, lt) in
    let cut = get_or cuts i c in
    place_there members values i cut.from cut.to bound places new within (own_bound members i (Whole (pos 0)) within) (cut_there 0 i i members cuts values bound c within (omega arith) (own_bound members i (Whole (pos 0)) within) are) some (so values members each are) on

pub places_all : (cuts : List Cut) (i : ℕ) (places : List ℕ) → length cuts ≤ i → PlacesOf cuts i places → ArePlaces cuts places
places_all cuts i places past so values members each are = all_places members values i places (omega (arith, each, past)) (so values members each are)

-- ---- tests that are made of others

-- the ids of the values that satisfy the tests so far, and the cuts of the bounds that are left
pub record AllLeft (test : Test) (cuts : List Cut) (count start at : ℕ) (left : List Test) (ids : List ℕ) : Type 0 where
  pub past : at + length (joined (map bounds_of left)) ≡ start + length (bounds_of test)
  pub so_far : (values : List Value) → length values ≡ count → AreCutsFrom start (bounds_of test) cuts values → AllSoFar test values left ids
  pub ahead : (values : List Value) → length values ≡ count → AreCutsFrom start (bounds_of test) cuts values → AreCutsFrom at (joined (map bounds_of left)) cuts values

pub record AnyLeft (test : Test) (cuts : List Cut) (count start at : ℕ) (left : List Test) (ids : List ℕ) : Type 0 where
  pub past : at + length (joined (map bounds_of left)) ≡ start + length (bounds_of test)
  pub so_far : (values : List Value) → length values ≡ count → AreCutsFrom start (bounds_of test) cuts values → AnySoFar test values left ids
  pub ahead : (values : List Value) → length values ≡ count → AreCutsFrom start (bounds_of test) cuts values → AreCutsFrom at (joined (map bounds_of left)) cuts values

pub all_begins : (test : Test) (cuts : List Cut) (count at : ℕ) (tests slice : List Test) (ids : List ℕ) → test ≡ All tests → slice ≡ tests → AreThose (is_within 0 count) ids → AllLeft test cuts count at at slice ids
all_begins test cuts count at tests slice ids is same those =
    let bounds = all_bounds test tests slice is same in
    record {
      past = ap (λ xs. at + length xs) bounds;
      so_far = λ values many are. all_at_first test values tests slice ids is same (subst (λ (n : ℕ). AreThose (is_within 0 n) ids) (sym many) those);
      ahead = λ values many are. subst (λ xs. AreCutsFrom at xs cuts values) (sym bounds) are;
    }

pub any_begins : (test : Test) (cuts : List Cut) (count at : ℕ) (tests slice : List Test) (ids : List ℕ) → test ≡ Any tests → slice ≡ tests → ids ≡ [] → AnyLeft test cuts count at at slice ids
any_begins test cuts count at tests slice ids is same none =
    let bounds = any_bounds test tests slice is same in
    record {
      past = ap (λ xs. at + length xs) bounds;
      so_far = λ values many are. any_at_first test values tests slice ids is same none;
      ahead = λ values many are. subst (λ xs. AreCutsFrom at xs cuts values) (sym bounds) are;
    }

joined_more : (left rest : List Test) (inner : Test) → left ≡ inner ∷ rest → joined (map bounds_of left) ≡ bounds_of inner ++ joined (map bounds_of rest)
joined_more left rest inner is = ap (λ ts. joined (map bounds_of ts)) is

pub room : (left rest : List Test) (inner : Test) (at most : ℕ) → left ≡ inner ∷ rest → at + length (joined (map bounds_of left)) ≤ most → at + length (bounds_of inner) ≤ most
room left rest inner at most is le = omega (arith, le, ap length (joined_more left rest inner is), length-append (bounds_of inner) (joined (map bounds_of rest)))

moved : (test : Test) (start at next : ℕ) (left rest : List Test) (inner : Test) → left ≡ inner ∷ rest → next ≡ at + length (bounds_of inner) → at + length (joined (map bounds_of left)) ≡ start + length (bounds_of test) → next + length (joined (map bounds_of rest)) ≡ start + length (bounds_of test)
moved test start at next left rest inner is on before = omega (arith, on, before, ap length (joined_more left rest inner is), length-append (bounds_of inner) (joined (map bounds_of rest)))

pub all_goes_on : (test inner : Test) (cuts : List Cut) (count start at next : ℕ) (left rest : List Test) (ids found new : List ℕ) → left ≡ inner ∷ rest → AllLeft test cuts count start at left ids → Found inner cuts count at found → AreThose (is_in_both ids found) new → next ≡ at + length (bounds_of inner)
    → AllLeft test cuts count start next rest new
all_goes_on test inner cuts count start at next left rest ids found new is so own those on =
    let ahead : (values : List Value) → length values ≡ count → AreCutsFrom start (bounds_of test) cuts values → AreCutsFrom at (bounds_of inner ++ joined (map bounds_of rest)) cuts values = λ values many are. subst (λ xs. AreCutsFrom at xs cuts values) (joined_more left rest inner is) (so.ahead values many are) in
    record {
      past = moved test start at next left rest inner is on so.past;
      so_far = λ values many are. all_more test inner values left rest ids found new is (so.so_far values many are) (own values many (cuts_left at (bounds_of inner) (joined (map bounds_of rest)) cuts values (ahead values many are))) those;
      ahead = λ values many are. cuts_right at next (bounds_of inner) (joined (map bounds_of rest)) cuts values on (ahead values many are);
    }

pub any_goes_on : (test inner : Test) (cuts : List Cut) (count start at next : ℕ) (left rest : List Test) (ids found new : List ℕ) → left ≡ inner ∷ rest → AnyLeft test cuts count start at left ids → Found inner cuts count at found → AreThose (is_in_either count ids found) new → next ≡ at + length (bounds_of inner)
    → AnyLeft test cuts count start next rest new
any_goes_on test inner cuts count start at next left rest ids found new is so own those on =
    let ahead : (values : List Value) → length values ≡ count → AreCutsFrom start (bounds_of test) cuts values → AreCutsFrom at (bounds_of inner ++ joined (map bounds_of rest)) cuts values = λ values many are. subst (λ xs. AreCutsFrom at xs cuts values) (joined_more left rest inner is) (so.ahead values many are) in
    record {
      past = moved test start at next left rest inner is on so.past;
      so_far = λ values many are. any_more test inner values left rest ids found new is (so.so_far values many are) (own values many (cuts_left at (bounds_of inner) (joined (map bounds_of rest)) cuts values (ahead values many are)))
          (subst (λ (n : ℕ). AreThose (is_in_either n ids found) new) (sym many) those);
      ahead = λ values many are. cuts_right at next (bounds_of inner) (joined (map bounds_of rest)) cuts values on (ahead values many are);
    }

pub all_ends : (test : Test) (cuts : List Cut) (count start at : ℕ) (left : List Test) (ids : List ℕ) → left ≡ [] → AllLeft test cuts count start at left ids → Found test cuts count start ids
all_ends test cuts count start at left ids none so = λ values many are. all_end test values left ids none (so.so_far values many are)

pub any_ends : (test : Test) (cuts : List Cut) (count start at : ℕ) (left : List Test) (ids : List ℕ) → left ≡ [] → AnyLeft test cuts count start at left ids → Found test cuts count start ids
any_ends test cuts count start at left ids none so = λ values many are. any_end test values left ids none (so.so_far values many are)

pub ends_at : (test : Test) (start at : ℕ) (left : List Test) → left ≡ [] → at + length (joined (map bounds_of left)) ≡ start + length (bounds_of test) → at ≡ start + length (bounds_of test)
ends_at test start at left none past = omega (arith, past, ap (λ ts. length (joined (map bounds_of ts))) none)
