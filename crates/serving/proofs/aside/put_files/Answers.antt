use Rattle.std.proofs.Common.{rules, vec_len, ◌≡◌, ◌∙◌, ◌+◌, ◌++◌, ◌∷◌, ◌<◌, ◌≤◌, [], ℕ, List, Option, get_or, length, length-append, length-set, set, sym, ap, arith}
use Rattle.std.specs.Global.{Vec}
use Rattle.serving.specs.Aside.{with_files}
use Rattle.cursors.specs.declared.cursor.Cursor.{Cursor}
use Rattle.serving.proofs.AsideLemmas.{with_last}
use Rattle.serving.proofs.aside.put_files.Goals as goal

pub cursors-preserved : goal.cursors-preserved
cursors-preserved c =
    let fs : List (Vec (Option (List ℕ))) = c.pop.new.self.items in
    let own : Vec (Option (List ℕ)) = c.in-Some.own in
    let cs : List Cursor = c.cursors.cursors.items in
    let it : Cursor = c.index_mut.result.now in
    let len : vec_len c.pop.new.self ≡ length fs = search rules in
    let at : c.len.result ≡ length fs = c.len.ensures ∙ len in
    let split : c.cursors.files.items ≡ fs ++ own ∷ [] = c.in-Some.ensures.items in
    let long : length c.cursors.files.items ≡ length fs + 1 = ap length split ∙ length-append fs (own ∷ []) in
    let le : length c.cursors.files.items ≤ length cs = c.cursors.invariant.long in
    let lt : length fs < length cs = omega (arith, long, le) in
    let is : get_or cs (length fs) it ≡ it = ap (λ n. get_or cs n it) (sym at) ∙ sym c.index_mut.ensures.value in
    let kept : length (set cs c.len.result (record it { files = own })) ≡ length cs = length-set cs c.len.result (record it { files = own }) in
    record {
      same = ap (λ n. with_files fs (set cs n (record it { files = own }))) at ∙ sym (with_last fs own cs it lt is) ∙ ap (λ l. with_files l cs) (sym split) ∙ c.cursors.invariant.same;
      long = omega (arith, lt, kept);
    }
