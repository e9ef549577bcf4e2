use Rattle.std.proofs.Common.{◌≡◌, ◌∙◌, ℕ, List, length, map, get_or, drop, ap, sym, subst, arith}
use Rattle.std.proofs.lemmas.List.{take_at}
use Rattle.std.proofs.lemmas.Result.{IfOk-weaker}
use Rattle.coded_columns.specs.declared.key_states.KeyStates.{KeyStates}
use Rattle.coded_columns.specs.Keyed.{AllAdd, SetsFirst, rows_in}
use Rattle.coded_columns.specs.Keys.{key_at}
use Rattle.coded_columns.proofs.KeyedSteps.{adds-places, packed-below, packed-takes}
use Rattle.coded_columns.proofs.keyed_rows.KeyedRows.add.Goals as goal

pub pack_keys-requires : goal.pack_keys-requires
pack_keys-requires c = λ i k lt. c.requires.keys.parts i (get_or c.args.placed.places.now k 0) (c.args.placed.within k 0 lt)

pub set_firsts-requires-clause-below : goal.set_firsts-requires-clause-below
set_firsts-requires-clause-below c = λ k d lt.
    omega (
      arith,
      ap length c.deref_mut.ensures.value,
      packed-below c.args.placed.segment.now c.args.groups.now c.args.placed.places.now c.deref.result.now (length c.args.self.now.firsts.items) c.requires.keys c.args.placed.within
          (c.deref.ensures.value ∙ c.in_ok-pack_keys.ensures) k d lt,
    )

pub add_all-requires-clause-takes : goal.add_all-requires-clause-takes
add_all-requires-clause-takes c =
    packed-takes c.args.placed.segment.now c.args.groups.now c.args.aggs.now c.args.placed.places.now c.deref-2.result.now c.args.self.now c.deref_mut-2.result.now c.requires c.args.placed.within
    (c.deref-2.ensures.value ∙ c.in_ok-pack_keys.ensures) c.deref_mut-2.ensures.value

pub returns : goal.returns
returns c =
    let keys : List ℕ = map (key_at c.args.placed.segment.now c.args.groups.now) c.args.placed.places.now in
    let places : List ℕ = c.args.placed.places.now in
    let firsts : List ℕ = c.args.self.now.firsts.items in
    let grown : List ℕ = c.set_firsts.new.firsts in
    let olds : List KeyStates = c.args.self.now.aggs.items in
    let news : List KeyStates = c.add_all.new.owns in
    let value : c.deref_mut.result.now ≡ firsts = c.deref_mut.ensures.value in
    let value_2 : c.deref_mut-2.result.now ≡ olds = c.deref_mut-2.ensures.value in
    let many : length grown ≡ length firsts = omega (arith, c.set_firsts.auto.firsts, ap length value) in
    let many_2 : length news ≡ length olds = omega (arith, c.add_all.auto.owns, ap length value_2) in
    let filled = take_at grown (drop (length grown) firsts) c.args.self.now.firsts.len (omega (arith, many, c.args.self.now.firsts.ok.0)) in
    let filled_2 = take_at news (drop (length news) olds) c.args.self.now.aggs.len (omega (arith, many_2, c.args.self.now.aggs.ok.0)) in
    let set : (k : ℕ) → SetsFirst (length places) keys places k (get_or c.deref_mut.result.now k 0) (get_or grown k 0) =
    subst (λ (l : List ℕ). (k : ℕ) → SetsFirst (length places) l places k (get_or c.deref_mut.result.now k 0) (get_or grown k 0)) (c.deref.ensures.value ∙ c.in_ok-pack_keys.ensures) c.set_firsts.ensures in
    IfOk-weaker c.add_all.result _ _ (λ u all.
    adds-places c.args.placed c.args.aggs.now keys c.args.self.now _ c.deref_mut.result.now grown c.deref_mut-2.result.now news
    (sym value) filled (many ∙ ap length (sym value)) (sym value_2) filled_2 set
    (subst (λ (l : List ℕ). AllAdd c.args.aggs.now l (rows_in c.args.placed) c.deref_mut-2.result.now news) (c.deref-2.ensures.value ∙ c.in_ok-pack_keys.ensures) all)) c.add_all.ensures
