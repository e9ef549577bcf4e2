-- A bound is looked for by halving.
use Rattle.std.proofs.Common.{◌≡◌, ◌∙◌, ◌<◌, ◌≤◌, ◌+◌, ◌-◌, ◌*◌, ◌^◌, ℕ, suc, List, length, get_or, ap, subst, arith, inl, inr, Option, Some, None}
use Rattle.std.proofs.lemmas.Bool.{cases_lt}
use Rattle.std.proofs.lemmas.Map.Keys.{Less-from_sorted}
use Rattle.std.proofs.Math.Nat.{mul_assoc, mul-le-mul_left, pow-le-pow_right, pow-suc}
use Rattle.std.specs.Ordering.{ordering_reverse}
use Rattle.std.specs.declared.cmp.Ordering.TheVariants as order
use Rattle.outside.specs.Files.{Files}
use Rattle.values.specs.declared.value.Value.{Value}
use Rattle.values.specs.Order.{value_order}
use Rattle.values.specs.Order.Laws.{value_order-total}
use Rattle.value_ids.specs.Dictionary.{Ascends, Distinct}
use Rattle.value_ids.specs.Ids.{Cuts}
use Rattle.dictionary_reading.specs.declared.in_file.FileDictionary.{FileDictionary}
use Rattle.dictionary_reading.specs.InFile.{IsSpelledAt, OfDictionary}

-- ---- what is known of the dictionary that lies at a place

pub of_all : (l : FileDictionary) (held : Option Files) (P : Distinct → Type 0) → ((files : Files) (d : Distinct) → IsSpelledAt l.kind files l.place d → l.count ≡ length d.values → P d) → OfDictionary l held P
of_all l None P all = tt
of_all l (Some files) P all = λ d is n. all files d is n

pub of_more : (l : FileDictionary) (held : Option Files) (P Q : Distinct → Type 0) → ((files : Files) (d : Distinct) → IsSpelledAt l.kind files l.place d → l.count ≡ length d.values → P d → Q d) → OfDictionary l held P → OfDictionary l held Q
of_more l None P Q more p = tt
of_more l (Some files) P Q more p = λ d is n. more files d is n (p d is n)

pub of_both : (l : FileDictionary) (held : Option Files) (P Q R : Distinct → Type 0) → ((files : Files) (d : Distinct) → IsSpelledAt l.kind files l.place d → l.count ≡ length d.values → P d → Q d → R d) → OfDictionary l held P → OfDictionary l held Q → OfDictionary l held R
of_both l None P Q R both p q = tt
of_both l (Some files) P Q R both p q = λ d is n. both files d is n (p d is n) (q d is n)

-- ---- how often it halves

-- so many values were looked at, and each halved what is left
pub record Probed (count low high probes : ℕ) : Type 0 where
  pub halved : 2 ^ probes * (high - low) ≤ count
  pub few : probes ≤ 21

pub probed_start : (count : ℕ) → Probed count 0 count 0
probed_start count = record { halved = omega arith; few = omega arith }

-- where something is left there were few
pub probed_few : (count low high probes : ℕ) → count ≤ 1048576 → low < high → Probed count low high probes → probes ≤ 20
probed_few count low high probes small some p =
    let halved = p.halved in
    elim (cases_lt 20 probes) [
      | inl many ↦
          let power : 2 ^ 21 ≤ 2 ^ probes = pow-le-pow_right {n = 2} (omega arith) {i = 21} {j = probes} (omega (arith, many)) in
          let whole : 2 ^ probes * 1 ≤ 2 ^ probes * (high - low) = mul-le-mul_left {m = 1} {n = high - low} (2 ^ probes) (omega (arith, some)) in
          absurd (omega (arith, power, whole, halved, small))
      | inr le ↦ le
    ]

pub probed_more : (count low high low' high' probes : ℕ) → count ≤ 1048576 → low < high → 2 * (high' - low') ≤ high - low → Probed count low high probes → Probed count low' high' (probes + 1)
probed_more count low high low' high' probes small some half p =
    let halved = p.halved in
    let few = probed_few count low high probes small some p in
    let one : probes + 1 ≡ suc probes = omega arith in
    let twice : 2 ^ (probes + 1) ≡ 2 ^ probes * 2 = ap (λ k. 2 ^ k) one ∙ pow-suc 2 probes in
    let power : 2 ^ (probes + 1) * (high' - low') ≡ 2 ^ probes * (2 * (high' - low')) = ap (λ k. k * (high' - low')) twice ∙ mul_assoc (2 ^ probes) 2 (high' - low') in
    let less : 2 ^ probes * (2 * (high' - low')) ≤ 2 ^ probes * (high - low) = mul-le-mul_left {m = 2 * (high' - low')} {n = high - low} (2 ^ probes) half in
    record { halved = omega (arith, power, less, halved); few = omega (arith, few) }
