-- Slots for keys, one row after another.
use Rattle.std.proofs.Common.{◌≡◌, ◌≢◌, ◌∙◌, ◌<◌, ◌≤◌, ◌+◌, ◌-◌, ◌++◌, ◌∷◌, [], ℕ, List, length, get_or, set, refl, ap, sym, subst, arith, inl, inr}
use Rattle.std.proofs.lemmas.Bool.{cases_eq, cases_lt}
use Rattle.std.proofs.lemmas.List.{get_or-set_other, get_or-set_same, get_or_append_left, get_or_push, length_push}
use Rattle.coded_columns.specs.Slots.{AreRanked, GivesSlot, IsLed, IsNewSlot}

-- the first k of some rows have slots, to which their keys lead
pub record RankState (key : ℕ → ℕ) (old : List ℕ) (k : ℕ) (look : ℕ → ℕ) (slots firsts : List ℕ) : Type 0 where
  pub at_most : length firsts ≤ k
  pub lead : (q : ℕ) → 0 < look q → (look q ≤ length firsts) × (key (get_or firsts (look q - 1) 0) ≡ q)
  pub below : (j : ℕ) → j < k → get_or slots j 0 < length firsts
  pub keys : (j : ℕ) → j < k → key (get_or firsts (get_or slots j 0) 0) ≡ key j
  pub firsts_in : (slot : ℕ) → slot < length firsts → get_or firsts slot 0 < k
  pub firsts_have : (slot : ℕ) → slot < length firsts → get_or slots (get_or firsts slot 0) 0 ≡ slot
  pub rest : (j : ℕ) → k ≤ j → get_or slots j 0 ≡ get_or old j 0

module _ (key : ℕ → ℕ) (old : List ℕ) (k : ℕ) (look new : ℕ → ℕ) (slots : List ℕ) (slot : ℕ) (firsts more : List ℕ) (lt : k < length slots) (st : RankState key old k look slots firsts) where
  other : (j : ℕ) → j ≢ k → get_or (set slots k slot) j 0 ≡ get_or slots j 0
  other j ne = get_or-set_other slots k j slot 0 ne

  here : (j : ℕ) → j ≡ k → get_or (set slots k slot) j 0 ≡ slot
  here j e = ap (λ i. get_or (set slots k slot) i 0) e ∙ get_or-set_same slots k slot 0 lt

  later : (j : ℕ) → k + 1 ≤ j → get_or (set slots k slot) j 0 ≡ get_or old j 0
  later j le = other j (λ e. omega (arith, le, e)) ∙ st.rest j (omega (arith, le))

  step-led : IsLed look new (key k) slot firsts more → RankState key old (k + 1) new (set slots k slot) more
  step-led t =
      let l = st.lead (key k) (omega (arith, t.there)) in
      let at : look (key k) - 1 ≡ slot = omega (arith, t.there) in
      let own : key (get_or firsts slot 0) ≡ key k = ap (λ n. key (get_or firsts n 0)) (sym at) ∙ l.1 in
      let within : slot < length firsts = omega (arith, t.there, l.0) in
      subst (RankState key old (k + 1) new (set slots k slot)) (sym t.firsts_same)
      (record {
        at_most = omega (arith, st.at_most);
        lead = λ q some.
            let e = t.same q in
            let own = st.lead q (omega (arith, some, e)) in
            (omega (arith, own.0, e), ap (λ n. key (get_or firsts (n - 1) 0)) e ∙ own.1);
        below = λ j j_lt.
            elim (cases_eq j k) [
              | inl e ↦ subst (λ n. n < length firsts) (sym (here j e)) within
              | inr ne ↦ subst (λ n. n < length firsts) (sym (other j ne)) (st.below j (omega (arith, ne, j_lt)))
            ];
        keys = λ j j_lt.
            elim (cases_eq j k) [
              | inl e ↦ ap (λ n. key (get_or firsts n 0)) (here j e) ∙ own ∙ ap key (sym e)
              | inr ne ↦ ap (λ n. key (get_or firsts n 0)) (other j ne) ∙ st.keys j (omega (arith, ne, j_lt))
            ];
        firsts_in = λ s s_lt. omega (arith, st.firsts_in s s_lt);
        firsts_have = λ s s_lt. other (get_or firsts s 0) (λ e. omega (arith, e, st.firsts_in s s_lt)) ∙ st.firsts_have s s_lt;
        rest = later;
      })

  step-new : IsNewSlot look new (key k) k slot firsts more → RankState key old (k + 1) new (set slots k slot) more
  step-new t =
      let longer : length (firsts ++ k ∷ []) ≡ length firsts + 1 = length_push firsts k in
      let front = λ (s : ℕ) (s_lt : s < length firsts). get_or_append_left firsts (k ∷ []) 0 s s_lt in
      let last : get_or (firsts ++ k ∷ []) slot 0 ≡ k = get_or_push firsts k 0 slot (sym t.slot_is) in
      let within : slot < length (firsts ++ k ∷ []) = omega (arith, longer, t.slot_is) in
      subst (RankState key old (k + 1) new (set slots k slot)) (sym t.firsts_are)
      (record {
        at_most = omega (arith, st.at_most, longer);
        lead = λ q some.
            elim (cases_eq q (key k)) [
              | inl e ↦
                  let there : new q ≡ slot + 1 = ap new e ∙ t.there in
                  let at : new q - 1 ≡ slot = omega (arith, there) in
                  (omega (arith, there, within), ap (λ n. key (get_or (firsts ++ k ∷ []) n 0)) at ∙ ap key last ∙ sym e)
              | inr ne ↦
                  let e = t.others q ne in
                  let own = st.lead q (omega (arith, some, e)) in (
                    omega (arith, own.0, e, longer),
                    ap (λ n. key (get_or (firsts ++ k ∷ []) (n - 1) 0)) e ∙ ap key (front (look q - 1) (omega (arith, own.0, some, e))) ∙ own.1,
                  )
            ];
        below = λ j j_lt.
            elim (cases_eq j k) [
              | inl e ↦ subst (λ n. n < length (firsts ++ k ∷ [])) (sym (here j e)) within
              | inr ne ↦ subst (λ n. n < length (firsts ++ k ∷ [])) (sym (other j ne)) (omega (arith, longer, st.below j (omega (arith, ne, j_lt))))
            ];
        keys = λ j j_lt.
            elim (cases_eq j k) [
              | inl e ↦ ap (λ n. key (get_or (firsts ++ k ∷ []) n 0)) (here j e) ∙ ap key last ∙ ap key (sym e)
              | inr ne ↦
                  let old_lt : j < k = omega (arith, ne, j_lt) in
                  ap (λ n. key (get_or (firsts ++ k ∷ []) n 0)) (other j ne) ∙ ap key (front (get_or slots j 0) (st.below j old_lt)) ∙ st.keys j old_lt
            ];
        firsts_in = λ s s_lt.
            elim (cases_lt s (length firsts)) [
              | inl before ↦ subst (λ n. n < k + 1) (sym (front s before)) (omega (arith, st.firsts_in s before))
              | inr le ↦
                  let e : s ≡ slot = omega (arith, le, s_lt, longer, t.slot_is) in
                  subst (λ n. n < k + 1) (sym (ap (λ i. get_or (firsts ++ k ∷ []) i 0) e ∙ last)) (omega arith)
            ];
        firsts_have = λ s s_lt.
            elim (cases_lt s (length firsts)) [
              | inl before ↦
                  ap (λ n. get_or (set slots k slot) n 0) (front s before)
                  ∙ other (get_or firsts s 0) (λ e. omega (arith, e, st.firsts_in s before)) ∙ st.firsts_have s before
              | inr le ↦
                  let e : s ≡ slot = omega (arith, le, s_lt, longer, t.slot_is) in
                  ap (λ n. get_or (set slots k slot) n 0) (ap (λ i. get_or (firsts ++ k ∷ []) i 0) e ∙ last) ∙ here k refl ∙ sym e
            ];
        rest = later;
      })

  pub rank-step : (q : ℕ) → q ≡ key k → GivesSlot look new q k slot firsts more → RankState key old (k + 1) new (set slots k slot) more
  rank-step q is g = by (subst (λ q. GivesSlot look new q k slot firsts more) is g)
    where
      by : GivesSlot look new (key k) k slot firsts more → RankState key old (k + 1) new (set slots k slot) more
      by (inl t) = step-led t
      by (inr t) = step-new t

pub rank-none : (key : ℕ → ℕ) (look : ℕ → ℕ) (slots : List ℕ) → ((q : ℕ) → look q ≡ 0) → RankState key slots 0 look slots []
rank-none key look slots none = record {
  at_most = omega arith;
  lead = λ q some. absurd (omega (arith, some, none q));
  below = λ j lt. absurd (omega (arith, lt));
  keys = λ j lt. absurd (omega (arith, lt));
  firsts_in = λ s lt. absurd (omega (arith, lt));
  firsts_have = λ s lt. absurd (omega (arith, lt));
  rest = λ j le. refl;
}

pub ranked : (key : ℕ → ℕ) (old : List ℕ) (k count : ℕ) (look : ℕ → ℕ) (slots firsts : List ℕ) → k ≡ count → RankState key old k look slots firsts → AreRanked key count slots firsts
ranked key old k count look slots firsts e st = subst (λ n. AreRanked key n slots firsts) e (record {
  at_most = st.at_most;
  below = st.below;
  keys = st.keys;
  firsts_in = st.firsts_in;
  firsts_have = st.firsts_have;
})
