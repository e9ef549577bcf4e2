-- Numbers of a place that are read piece by piece.
use Rattle.std.proofs.Common.{◌≡◌, ◌≢◌, ◌∙◌, ◌<◌, ◌≤◌, ◌+◌, ◌-◌, ◌*◌, ◌^◌, inl, inr, ℕ, List, [], ◌++◌, length, take, drop, Option, Some, None, IfSome, refl, sym, ap, subst, arith, take-add, drop-drop}
use Rattle.std.proofs.Math.Seq.{drop-append_seam}
use Rattle.std.proofs.lemmas.List.{drop-take, length-append, length-take, take-append-drop, take-take, take_all}
use Rattle.std.specs.List.{All}
use Rattle.outside.specs.Files.{EndsBefore, Files, bytes_at, bytes_of}
use Rattle.outside.specs.declared.place.Place.{Place}
use Rattle.bit_column.specs.Sections.{section}
use Rattle.data_types.specs.declared.kind.FieldKind.{FieldKind}
use Rattle.data_types.specs.declared.kind.FieldKind.TheVariants as kind
use Rattle.values.specs.declared.value.Value.{Value}
use Rattle.value_ids.specs.Dictionary.{Distinct, Fits, IsDictionary}
use Rattle.dictionary.specs.Pieces.{AreNumbersOf, NoNumbers}
use Rattle.dictionary.specs.Spelling.{body, counted, numbers}
use Rattle.dictionary.proofs.Bytes.{counted_once, length-counted}
use Rattle.dictionary.proofs.Numbers.{body_is_numbers, length-numbers}
use Rattle.segment_file.specs.Rules.{IsSpelled}
use Rattle.segment_file.specs.declared.part.Part.{Part}
use Rattle.segment_head.specs.Calls.{FailsPlace}
use Rattle.segment_head.specs.Pieces.{FailsPieces, HasNumbers, IsPossible}

-- ---- the bytes of a place

-- bytes, and then more of them
bytes_more : (file : List ℕ) (o a b : ℕ) → take (a + b) (drop o file) ≡ take a (drop o file) ++ take b (drop (o + a) file)
bytes_more file o a b = take-add a b (drop o file) ∙ ap (λ r. take a (drop o file) ++ take b r) (drop-drop a o file)

-- those after the first four
section_rest : (files : Files) (place : Place) → 4 ≤ place.length → drop 4 (section files place) ≡ take (place.length - 4) (drop (place.offset + 4) (bytes_of (Some files) place.file))
section_rest files place long =
    let file : List ℕ = bytes_of (Some files) place.file in
    let n : ℕ = place.length - 4 in
    let whole : place.length ≡ 4 + n = omega (arith, long) in
    ap (λ m. drop 4 (take m (drop place.offset file))) whole ∙ drop-take 4 n (drop place.offset file) ∙ ap (take n) (drop-drop 4 place.offset file)

pub first_four : (files : Files) (place : Place) (bytes : List ℕ) → 4 ≤ place.length → bytes ≡ bytes_at files place.file place.offset 4 → bytes ≡ take 4 (section files place)
first_four files place bytes long is = is ∙ sym (take-take 4 place.length (drop place.offset (bytes_of (Some files) place.file)) long)

-- ---- pieces

pub record PiecesRead (k : FieldKind) (held : Option Files) (place : Place) (done count : ℕ) (values : List Value) : Type 0 where
  pub bytes : List ℕ
  pub size : length bytes ≡ 8 * done
  pub are : AreNumbersOf k bytes values
  pub told : IfSome held (λ files. bytes ≡ bytes_at files place.file (place.offset + 4) (8 * done))
  pub within : done ≤ count

pub pieces_begin : (k : FieldKind) (held : Option Files) (place : Place) (count : ℕ) (values : List Value) → AreNumbersOf k [] values → PiecesRead k held place 0 count values
pieces_begin k held place count values are = record {
  bytes = [];
  size = refl;
  are = are;
  told = none_told held;
  within = omega arith;
} where
  none_told : (h : Option Files) → IfSome h (λ files. [] ≡ bytes_at files place.file (place.offset + 4) (8 * 0))
  none_told None = tt
  none_told (Some files) = refl

pub pieces_more : (k : FieldKind) (held : Option Files) (place : Place) (done more count : ℕ) (piece : List ℕ) (values new : List Value) → length piece ≡ 8 * more → done + more ≤ count
    → IfSome held (λ files. piece ≡ bytes_at files place.file (place.offset + 4 + 8 * done) (8 * more))
    → ((before : List ℕ) → AreNumbersOf k before values → AreNumbersOf k (before ++ piece) new) → PiecesRead k held place done count values → PiecesRead k held place (done + more) count new
pieces_more k held place done more count piece values new size within read are p =
    let psize = p.size in
    record {
      bytes = p.bytes ++ piece;
      size = omega (arith, length-append p.bytes piece, psize, size);
      are = are p.bytes p.are;
      told = more_told held p.told read;
      within = within;
    }
  where
    more_told : (h : Option Files) → IfSome h (λ files. p.bytes ≡ bytes_at files place.file (place.offset + 4) (8 * done)) → IfSome h (λ files. piece ≡ bytes_at files place.file (place.offset + 4 + 8 * done) (8 * more))
        → IfSome h (λ files. p.bytes ++ piece ≡ bytes_at files place.file (place.offset + 4) (8 * (done + more)))
    more_told None a b = tt
    more_told (Some files) a b =
        let file : List ℕ = bytes_of (Some files) place.file in
        let both : 8 * done + 8 * more ≡ 8 * (done + more) = omega arith in
        (λ i. a i ++ b i) ∙ sym (bytes_more file (place.offset + 4) (8 * done) (8 * more)) ∙ ap (λ n. take n (drop (place.offset + 4) file)) both

pub pieces_bad : (k : FieldKind) (held : Option Files) (place : Place) (done more count : ℕ) (piece : List ℕ) (values : List Value) → place.length ≡ 4 + 8 * count → done + more ≤ count
    → IfSome held (λ files. piece ≡ bytes_at files place.file (place.offset + 4 + 8 * done) (8 * more))
    → ((before after : List ℕ) → AreNumbersOf k before values → NoNumbers k (before ++ (piece ++ after))) → PiecesRead k held place done count values → IfSome held (λ files. NoNumbers k (drop 4 (section files place)))
pieces_bad k held place done more count piece values room within read bad p = bad_told held p.told read
  where
    bad_told : (h : Option Files) → IfSome h (λ files. p.bytes ≡ bytes_at files place.file (place.offset + 4) (8 * done)) → IfSome h (λ files. piece ≡ bytes_at files place.file (place.offset + 4 + 8 * done) (8 * more))
        → IfSome h (λ files. NoNumbers k (drop 4 (section files place)))
    bad_told None a b = tt
    bad_told (Some files) a b =
        let file : List ℕ = bytes_of (Some files) place.file in
        let o : ℕ = place.offset + 4 in
        let rest : ℕ = 8 * count - (8 * done + 8 * more) in
        let after : List ℕ = take rest (drop (o + 8 * done + 8 * more) file) in
        let size : place.length - 4 ≡ 8 * done + (8 * more + rest) = omega (arith, room, within) in
        let whole : drop 4 (section files place) ≡ p.bytes ++ (piece ++ after) =
        section_rest files place (omega (arith, room)) ∙ ap (λ n. take n (drop o file)) size ∙ bytes_more file o (8 * done) (8 * more + rest)
        ∙ (λ i. sym a i ++ (bytes_more file (o + 8 * done) (8 * more) rest ∙ ap (λ x. x ++ after) (sym b)) i) in
        subst (NoNumbers k) (sym whole) (bad p.bytes after p.are)

pub pieces_end : (k : FieldKind) (held : Option Files) (place : Place) (done count : ℕ) (values : List Value) → place.length ≡ 4 + 8 * count → ¬ (done < count) → PiecesRead k held place done count values → HasNumbers k held place values
pieces_end k held place done count values room over p =
    let psize = p.size in
    let pwithin = p.within in
    let all : done ≡ count = omega (arith, over, pwithin) in
    record {
      bytes = p.bytes;
      size = omega (arith, psize, all, room);
      are = p.are;
      told = end_told held p.told;
    }
  where
    end_told : (h : Option Files) → IfSome h (λ files. p.bytes ≡ bytes_at files place.file (place.offset + 4) (8 * done)) → IfSome h (λ files. p.bytes ≡ drop 4 (section files place))
    end_told None a = tt
    end_told (Some files) a =
        let pw = p.within in
        let size : 8 * done ≡ place.length - 4 = omega (arith, over, pw, room) in
        a ∙ ap (λ n. take n (drop (place.offset + 4) (bytes_of (Some files) place.file))) size ∙ sym (section_rest files place (omega (arith, room)))

-- ---- the dictionary

-- as many numbers as were said
many_numbers : (k : FieldKind) (held : Option Files) (place : Place) (count rows : ℕ) (values : List Value) → k ≢ kind.Text → IsPossible count rows place.length → HasNumbers k held place values → length values ≡ count
many_numbers k held place count rows values other can has =
    let size = has.size in
    let room = can.room in
    omega (arith, size, room, ap length has.are.spelled, length-numbers k values other has.are.fit)

pub numbers_dictionary : (k : FieldKind) (held : Option Files) (place : Place) (count rows : ℕ) (values : List Value) → k ≢ kind.Text → IsPossible count rows place.length → HasNumbers k held place values → IsDictionary (record { kind = k; values = values })
numbers_dictionary k held place count rows values other can has =
    let most = can.most in
    record {
      at_most = omega (arith, many_numbers k held place count rows values other can has, most);
      fit = has.are.fit;
      unicode = has.are.unicode;
      ascends = has.are.ascends;
    }

pub numbers_spelled : (k : FieldKind) (held : Option Files) (place : Place) (count rows : ℕ) (values : List Value) (d : Distinct) → k ≢ kind.Text → IsPossible count rows place.length
    → IfSome held (λ files. counted count ≡ take 4 (section files place)) → HasNumbers k held place values → d ≡ record { kind = k; values = values } → IfSome held (λ files. IsSpelled k rows (section files place) d)
numbers_spelled k None place count rows values d other can says has is = tt
numbers_spelled k (Some files) place count rows values d other can says has is =
    let many : length values ≡ count = many_numbers k (Some files) place count rows values other can has in
    let few = can.few in
    let some = can.some in
    subst (IsSpelled k rows (section files place)) (sym is) (record {
      stands = numbers_dictionary k (Some files) place count rows values other can has;
      kind_is = refl;
      spelled = sym (take-append-drop 4 (section files place)) ∙ (λ i. (sym says ∙ ap counted (sym many)) i ++ (sym has.told ∙ has.are.spelled ∙ sym (body_is_numbers k values other)) i);
      at_most = omega (arith, many, few);
      some = λ rows_are. omega (arith, many, some rows_are);
    })

-- ---- no dictionary

-- what follows the number of values
after_count : (bytes : List ℕ) (n : ℕ) (rest : List ℕ) → bytes ≡ counted n ++ rest → drop 4 bytes ≡ rest
after_count bytes n rest is = ap (λ m. drop m bytes) (sym (length-counted n)) ∙ ap (drop (length (counted n))) is ∙ drop-append_seam (counted n) rest

no_spelling : (k : FieldKind) (rows : ℕ) (bytes : List ℕ) (d : Distinct) → k ≢ kind.Text → NoNumbers k (drop 4 bytes) → ¬ IsSpelled k rows bytes d
no_spelling k rows bytes d other none s =
    let of : IsDictionary (record { kind = k; values = d.values }) = record {
      at_most = s.stands.at_most;
      fit = subst (λ x. All (Fits x) d.values) s.kind_is s.stands.fit;
      unicode = s.stands.unicode;
      ascends = s.stands.ascends;
    } in
    none d.values of (after_count bytes (length d.values) (body d.kind d.values) s.spelled ∙ ap (λ x. body x d.values) s.kind_is ∙ body_is_numbers k d.values other)

pub pieces_place : (k : FieldKind) (rows column : ℕ) (held : Option Files) (place : Place) (p : Part) → k ≢ kind.Text → FailsPieces k column held place p → FailsPlace k rows column held place p
pieces_place k rows column held place p other (inl cut) = inl cut
pieces_place k rows column held place p other (inr bad) = inr (bad.0, none_told held bad.1)
  where
    none_told : (h : Option Files) → IfSome h (λ files. NoNumbers k (drop 4 (section files place))) → IfSome h (λ files. (d : Distinct) → ¬ IsSpelled k rows (section files place) d)
    none_told None a = tt
    none_told (Some files) a = λ d s. no_spelling k rows (section files place) d other a s

pub short_place : (k : FieldKind) (rows : ℕ) (held : Option Files) (place : Place) → place.length < 4 → IfSome held (λ files. (d : Distinct) → ¬ IsSpelled k rows (section files place) d)
short_place k rows None place short = tt
short_place k rows (Some files) place short = λ d s.
    omega (arith, short, ap length s.spelled, length-append (counted (length d.values)) (body d.kind d.values), length-counted (length d.values), length-take place.length (drop place.offset (bytes_of (Some files) place.file)))

pub impossible_place : (k : FieldKind) (rows count : ℕ) (held : Option Files) (place : Place) (bytes rest : List ℕ) → k ≢ kind.Text → 4 ≤ place.length → count < 2 ^ 32 → ¬ IsPossible count rows place.length → counted count ≡ bytes
    → IfSome held (λ files. bytes ≡ bytes_at files place.file place.offset 4) → length rest ≡ place.length - 4 → IfSome held (λ files. rest ≡ bytes_at files place.file (place.offset + 4) (place.length - 4))
    → IfSome held (λ files. (d : Distinct) → ¬ IsSpelled k rows (section files place) d)
impossible_place k rows count None place bytes rest other long fits never says front size tail = tt
impossible_place k rows count (Some files) place bytes rest other long fits never says front size tail = λ d s.
    let whole : section files place ≡ counted count ++ drop 4 (section files place) =
    sym (take-append-drop 4 (section files place)) ∙ ap (λ x. x ++ drop 4 (section files place)) (sym (says ∙ first_four files place bytes long front)) in
    let many : count ≡ length d.values = counted_once count (length d.values) (drop 4 (section files place)) (body d.kind d.values) fits (let m = s.stands.at_most in omega arith) (sym whole ∙ s.spelled) in
    let numbers_are : body d.kind d.values ≡ numbers d.values = ap (λ x. body x d.values) s.kind_is ∙ body_is_numbers k d.values other in
    let all : drop 4 (section files place) ≡ numbers d.values = after_count (section files place) (length d.values) (body d.kind d.values) s.spelled ∙ numbers_are in
    let there : rest ≡ drop 4 (section files place) = tail ∙ sym (section_rest files place long) in
    let few = s.at_most in
    let most = s.stands.at_most in
    never (record {
      few = omega (arith, many, few);
      most = omega (arith, many, most);
      some = λ rows_are. omega (arith, many, s.some rows_are);
      room = omega (arith, many, size, long, ap length there, ap length all, length-numbers k d.values other (subst (λ x. All (Fits x) d.values) s.kind_is s.stands.fit));
    })

pub ends_sooner : (held : Option Files) (file : List ℕ) (a b : ℕ) → a ≤ b → EndsBefore held file a → EndsBefore held file b
ends_sooner None file a b le short = tt
ends_sooner (Some files) file a b le short = omega (arith, le, short)

-- ---- what is passed on

pub four_are : (n : ℕ) (seen bytes : List ℕ) → counted n ≡ take 4 (drop 0 seen) → seen ≡ bytes → length bytes ≡ 4 → counted n ≡ bytes
four_are n seen bytes says same size = says ∙ ap (take 4) same ∙ take_all 4 bytes (omega (arith, size))

pub says_there : (n : ℕ) (held : Option Files) (place : Place) (bytes : List ℕ) → 4 ≤ place.length → counted n ≡ bytes → IfSome held (λ files. bytes ≡ bytes_at files place.file place.offset 4) → IfSome held (λ files. counted n ≡ take 4 (section files place))
says_there n None place bytes long says front = tt
says_there n (Some files) place bytes long says front = says ∙ first_four files place bytes long front

pub fails_there : (k k2 : FieldKind) (r r2 column : ℕ) (held : Option Files) (place : Place) (p : Part) → k ≡ k2 → r ≡ r2 → FailsPlace k r column held place p → FailsPlace k2 r2 column held place p
fails_there k k2 r r2 column held place p ek er h = subst (λ x. FailsPlace x r2 column held place p) ek (subst (λ x. FailsPlace k x column held place p) er h)

pub all_spelled : (k k2 : FieldKind) (r r2 : ℕ) (held : Option Files) (place : Place) (d : Distinct) → k ≡ k2 → r ≡ r2 → IfSome held (λ files. IsSpelled k r (section files place) d) → IfSome held (λ files. IsSpelled k2 r2 (section files place) d)
all_spelled k k2 r r2 held place d ek er h =
    subst (λ x. IfSome held (λ files. IsSpelled x r2 (section files place) d)) ek (subst (λ x. IfSome held (λ files. IsSpelled k x (section files place) d)) er h)
