-- Numbers of 32 bits that are read from a section.
use Rattle.std.proofs.Common.{◌≡◌, ◌∙◌, ◌≤◌, ◌<◌, ◌+◌, ◌-◌, ◌*◌, ◌/◌, ◌^◌, ℕ, List, All, Option, Some, None, IfSome, if◌then◌else◌, length, take, drop, inl, inr, sym, ap, subst, arith}
use Rattle.std.proofs.Math.Nat.{eq-or-lt_of_le}
use Rattle.std.proofs.lemmas.Bool.{le-ltb}
use Rattle.std.proofs.lemmas.List.Elements.{All-same}
use Rattle.outside.specs.Files.{Files}
use Rattle.outside.specs.Reads.{Entry, LogsOn, LogsUpTo}
use Rattle.outside.specs.declared.place.Place.{Place}
use Rattle.bit_column.specs.Column.{bytes_for, ids_between, spelled}
use Rattle.bit_column.specs.Sections.{Readable, end_byte, first_byte, section}
use Rattle.bit_column.proofs.Ranges.{end-of}
use Rattle.bit_column.proofs.Spelling.{ids-written, readable-written}

pub words_read : (held : Option Files) (place : Place) (limit from to : ℕ) (words : List ℕ) → from ≤ to → IfSome held (λ files. Readable 32 limit from to (section files place) × (words ≡ ids_between 32 from to (section files place))) →
    IfSome held (λ files. (list : List ℕ) → All (λ n. n < 2 ^ 32) list → to ≤ length list → section files place ≡ spelled 32 list → words ≡ take (to - from) (drop from list))
words_read None place limit from to words order read = tt
words_read (Some files) place limit from to words order read = λ list small le is. read.1 ∙ ap (ids_between 32 from to) is ∙ ids-written 32 from to list small order le

pub words_bad : (held : Option Files) (place : Place) (limit from to : ℕ) → from ≤ to → IfSome held (λ files. Readable 32 limit from to (section files place) → ⊥) →
    IfSome held (λ files. (list : List ℕ) → All (λ n. n < 2 ^ 32) list → All (λ n. n < limit) (take (to - from) (drop from list)) → to ≤ length list → section files place ≡ spelled 32 list → ⊥)
words_bad None place limit from to order bad = tt
words_bad (Some files) place limit from to order bad = λ list small below le is.
    let there : Readable 32 limit from to (spelled 32 list) = (
      (readable-written 32 (2 ^ 32) from to list small small order le).0,
      All-same (λ n. n < limit) (ids_between 32 from to (spelled 32 list)) (take (to - from) (drop from list)) (ids-written 32 from to list small order le) below,
    ) in
    bad (subst (Readable 32 limit from to) (sym is) there)

-- four bytes a number
pub four_first : (from : ℕ) → from * 32 / 8 ≡ 4 * from
four_first from = omega arith

end_none : (n : ℕ) → end_byte 32 n n ≡ 4 * n
end_none n = ap (λ b. if b then bytes_for (n * 32) else first_byte 32 n) (le-ltb n n (omega arith)) ∙ four_first n

four_last : (n : ℕ) → (n * 32 + 7) / 8 ≡ 4 * n
four_last n = omega arith

pub four_end : (from to : ℕ) → from ≤ to → end_byte 32 from to ≡ 4 * to
four_end from to order = elim (eq-or-lt_of_le order) [
  | inl same ↦ ap (λ n. end_byte 32 from n) (sym same) ∙ end_none from ∙ ap (λ n. 4 * n) same
  | inr less ↦ end-of 32 from to less ∙ four_last to
]

-- the bytes that were read, four a number
pub logs_four : (file : List ℕ) (offset from to : ℕ) (old new : Option (List Entry)) → from ≤ to → LogsOn file (offset + first_byte 32 from) (offset + end_byte 32 from to) old new → LogsOn file (offset + 4 * from) (offset + 4 * to) old new
logs_four file offset from to old new order logs =
    subst (λ n. LogsOn file (offset + 4 * from) (offset + n) old new) (four_end from to order)
    (subst (λ n. LogsOn file (offset + n) (offset + end_byte 32 from to) old new) (four_first from) logs)

pub logs_four_partly : (file : List ℕ) (offset from to : ℕ) (old new : Option (List Entry)) → from ≤ to → LogsUpTo file (offset + first_byte 32 from) (offset + end_byte 32 from to) old new → LogsUpTo file (offset + 4 * from) (offset + 4 * to) old new
logs_four_partly file offset from to old new order logs =
    subst (λ n. LogsUpTo file (offset + 4 * from) (offset + n) old new) (four_end from to order)
    (subst (λ n. LogsUpTo file (offset + n) (offset + end_byte 32 from to) old new) (four_first from) logs)
