-- Ids that are unpacked: as far as they are there, out of words of eight bytes, and four at a time
-- or eight at a time out of sixteen bytes.
use Rattle.std.specs.Prelude.{◌≡◌, ◌≤◌, ◌<◌, ◌+◌, ◌-◌, ◌*◌, ◌/◌, ◌%◌, ◌^◌, ℕ, List, length, get_or, take}
use Rattle.bit_column.specs.Bits.{bits, field, pieces}
use Rattle.bit_column.specs.declared.eights.EightPlan.{EightPlan}
use Rattle.bit_column.specs.declared.lanes.Plan.{Plan}

-- the first so many ids are those of the digits, from one of these on
pub record IsFilled (first width count : ℕ) (digits ids : List ℕ) : Type 0 where
  pub filled : take count ids ≡ pieces width first count digits

-- the numbers in a word of 64 bits are those of digits from one of these on
pub record HasWord (from word : ℕ) (digits : List ℕ) : Type 0 where
  pub each : (width bit : ℕ) → bit + width ≤ 64
      → field width bit (bits 64 word) ≡ field width (from + bit) digits

-- where the four bytes of each of four ids are, the last one first
pub record ArePositions (bit width : ℕ) (positions : List ℕ) : Type 0 where
  pub long : length positions ≡ 16
  pub each : (i j : ℕ) → i < 4 → j < 4
      → get_or positions (4 * i + j) 0 ≡ (bit + i * width) / 8 + 3 - j

-- what moves each of four ids to the front of its bytes
pub record AreFactors (bit width : ℕ) (factors : List ℕ) : Type 0 where
  pub long : length factors ≡ 4
  pub each : (i : ℕ) → i < 4 → get_or factors i 0 ≡ 2 ^ ((bit + i * width) % 8)

-- four ids of a width begin at the bit of a byte that the plan has, and come out as it says
pub record IsPlan (width : ℕ) (plan : Plan) : Type 0 where
  pub bit : plan.bit < 8
  pub positions : ArePositions plan.bit width plan.positions
  pub factors : AreFactors plan.bit width plan.factors

-- where the two bytes of each of eight ids are, the last one first
pub record AreEightPositions (bit width : ℕ) (positions : List ℕ) : Type 0 where
  pub long : length positions ≡ 16
  pub each : (i j : ℕ) → i < 8 → j < 2
      → get_or positions (2 * i + j) 0 ≡ (bit + i * width) / 8 + 1 - j

-- what moves each of eight ids to the front of its bytes
pub record AreEightFactors (bit width : ℕ) (factors : List ℕ) : Type 0 where
  pub long : length factors ≡ 8
  pub each : (i : ℕ) → i < 8 → get_or factors i 0 ≡ 2 ^ ((bit + i * width) % 8)

-- eight ids of a width begin at the bit of a byte that the plan has, and come out as it says
pub record IsEightPlan (width : ℕ) (plan : EightPlan) : Type 0 where
  pub bit : plan.bit < 8
  pub positions : AreEightPositions plan.bit width plan.positions
  pub factors : AreEightFactors plan.bit width plan.factors

-- where the byte after the two bytes of each of eight ids is, twice
pub record AreLastPositions (bit width : ℕ) (positions : List ℕ) : Type 0 where
  pub long : length positions ≡ 16
  pub each : (m : ℕ) → m < 16 → get_or positions m 0 ≡ (bit + m / 2 * width) / 8 + 2
