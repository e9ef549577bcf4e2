use Rattle.std.proofs.Common.{◌≡◌, ◌+◌, ◌<◌, ◌≤◌, ◌^◌, ◌%◌, ◌++◌, ℕ, [], length, All, List, get_or, sym, refl}
use Rattle.std.proofs.Common.{ap, subst, ◌∙◌, arith, set, take, ◌∷◌, length-set}
use Rattle.std.specs.List.Sorted.{IsPermutation}
use Rattle.std.proofs.lemmas.List.Sorted.{IsPermutation-refl}
use Rattle.std.proofs.lemmas.List.Elements.{All-set, All-append, All-cons, All-nil}
use Rattle.std.proofs.Math.Nat.{mod-lt}
use Rattle.std.proofs.lemmas.List.{take_all}
use Rattle.state_columns.specs.Grouping.{first_words, key_of, entry_of}
use Rattle.state_columns.proofs.GroupSteps as steps
use Rattle.state_columns.proofs.RegionLemmas.{any_default}
use Rattle.state_columns.proofs.grouping.split_words.Goals as goal
use Rattle.state_columns.proofs.grouping.split_words.Goals.{then-index-eq0}
use Rattle.state_columns.proofs.grouping.split_words.Goals.{else-index-eq0+in_ok-push}

both_are : (P : List ℕ → List ℕ → Type 0) (a b c d : List ℕ) → a ≡ b → c ≡ d → P a c → P b d
both_are P a b c d p q x = subst (P b) q (subst (λ z. P z c) p x)

pub loop-i-init : goal.loop-i-init
loop-i-init c =
    let table = c.resize.new.self.items in
    let zeros = c.in_ok-resize.ensures.by_index.1 in
    let lengths = c.in_ok-resize.ensures.len in
    let none : first_words 0 table ≡ [] = steps.no_words 0 table
    (λ k lt. zeros k 0 refl (omega arith) (omega (arith, lt, lengths))) in
    let empty : c.in_ok-others.others.items ≡ [] = c.in_ok-others.ensures.items in
    record {
      same = subst (IsPermutation []) (λ i. (sym none i) ++ (sym empty i)) (IsPermutation-refl []);
      at_most = omega (arith, lengths, c.ranges.keys.fits);
      places = (λ k d lt. let z : get_or table k d ≡ 0 =
          zeros k d refl (omega arith) (omega (arith, lt, lengths)) in omega (arith, z));
      found = subst (All (λ word. 0 < entry_of table word)) (sym empty)
          (All-nil (λ word. 0 < entry_of table word));
    }

pub loop-i-preserved : goal.loop-i-preserved
loop-i-preserved c =
    let word = c.index-word.result.now in
    let lt : c.loop-i.i < length c.args.words.items =
    omega (arith, c.loop-i-test.true, c.len-i-end.ensures, c.args.words.ok.0) in
    let at : word ≡ get_or c.args.words.items c.loop-i.i 0 = c.index-word.ensures
    ∙ any_default c.args.words.items c.loop-i.i word 0 lt in
    let in' : key_of word < length c.loop-i.table.items =
    omega (
      arith,
      c.if-key-len.false,
      c.word_key-key.ensures,
      c.len-in-loop-i.ensures,
      c.loop-i.table.ok.0,
    ) in
    let h = c.loop-i.invariant in
    let d = c.index.result.now in
    let got : d ≡ entry_of c.loop-i.table.items word = c.index.ensures
    ∙ ap (λ k. get_or c.loop-i.table.items k d) c.word_key-key.ensures
    ∙ any_default c.loop-i.table.items (key_of word) d 0 in' in
    let low : word % 2 ^ 20 < 2 ^ 20 = mod-lt word (omega arith) in
    elim c.if-index-eq0.branch [
      | then-index-eq0 w ↦
          let v = word % 2 ^ 20 + 1 in
          let is : c.if-index-eq0.table.items ≡ set c.loop-i.table.items (key_of word) v =
          ap (λ t. t.items) w.table-is ∙ w.mark.ensures
          ∙ ap (λ k. set c.loop-i.table.items k v) c.word_key-key.ensures in
          let kept : c.if-index-eq0.others.items ≡ c.loop-i.others.items =
          ap (λ t. t.items) w.others-is in
          let none : entry_of c.loop-i.table.items word ≡ 0 =
          omega (arith, got, w.if-index-eq0.true) in
          let small : v ≤ 2 ^ 20 = omega (arith, low) in
          record {
            same = both_are (λ (t o : List ℕ). IsPermutation (take (c.loop-i.i + 1) c.args.words.items)
                (first_words 0 t ++ o)) _ _ _ _ (sym is) (sym kept)
                (steps.split_first c.args.words.items c.loop-i.table.items c.loop-i.others.items
                c.loop-i.i word v lt at (omega arith) in' none h.same);
            at_most = omega (
              arith,
              h.at_most,
              ap length is
                  ∙ length-set c.loop-i.table.items (key_of word) v,
            );
            places = subst (All (λ at. at ≤ 2 ^ 20)) (sym is)
                (All-set (λ at. at ≤ 2 ^ 20) c.loop-i.table.items (key_of word) v small h.places);
            found = both_are (λ (t o : List ℕ). All (λ word. 0 < entry_of t word) o) _ _ _ _ (sym is) (sym kept)
                (steps.found_still c.loop-i.table.items c.loop-i.others.items (key_of word) v
                (omega arith) h.found);
          }
      | else-index-eq0+in_ok-push w ↦
          let kept : c.if-index-eq0.table.items ≡ c.loop-i.table.items =
          ap (λ t. t.items) w.table-is in
          let is : c.if-index-eq0.others.items ≡ c.loop-i.others.items ++ (word ∷ []) =
          ap (λ t. t.items) w.others-is ∙ w.in_ok-push.ensures.items in
          let some : 0 < entry_of c.loop-i.table.items word =
          omega (arith, got, w.if-index-eq0.false) in
          record {
            same = both_are (λ (t o : List ℕ). IsPermutation (take (c.loop-i.i + 1) c.args.words.items)
                (first_words 0 t ++ o)) _ _ _ _ (sym kept) (sym is)
                (steps.split_other c.args.words.items c.loop-i.table.items c.loop-i.others.items
                c.loop-i.i word lt at h.same);
            at_most = omega (arith, h.at_most, ap length kept);
            places = subst (All (λ at. at ≤ 2 ^ 20)) (sym kept) h.places;
            found = both_are (λ (t o : List ℕ). All (λ word. 0 < entry_of t word) o) _ _ _ _ (sym kept) (sym is)
                (All-append (λ word. 0 < entry_of c.loop-i.table.items word) c.loop-i.others.items
                (word ∷ []) h.found (All-cons (λ word. 0 < entry_of c.loop-i.table.items word)
                word [] some (All-nil (λ word. 0 < entry_of c.loop-i.table.items word))));
          }
    ]

pub overflow_cast-word : goal.overflow_cast-word
overflow_cast-word c =
    let low : c.index-word.result.now % 2 ^ 20 < 2 ^ 20 = mod-lt c.index-word.result.now (omega arith)
    in omega (arith, low)

pub overflow_add-word : goal.overflow_add-word
overflow_add-word c =
    let low : c.index-word.result.now % 2 ^ 20 < 2 ^ 20 = mod-lt c.index-word.result.now (omega arith)
    in omega (arith, low)

pub returns : goal.returns
returns c =
    let h = c.loop-i.invariant in
    let words = c.args.words.items in
    let all : take c.loop-i.i words ≡ words = take_all c.loop-i.i words
    (omega (arith, c.loop-i-test.false, c.len-i-end.ensures, c.args.words.ok.0)) in
    record {
      same = subst (λ l. IsPermutation l (first_words 0 c.loop-i.table.items
          ++ c.loop-i.others.items)) all h.same;
      at_most = h.at_most;
      places = h.places;
      found = h.found;
    }
