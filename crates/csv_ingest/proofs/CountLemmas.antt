-- A record has at most one cell more than the text has bytes.
use Rattle.std.proofs.Common.{◌≡◌, ◌≤◌, ◌+◌, ℕ, suc, List, [], ◌∷◌, ◌++◌, length, length-append, Bool, true, false, Option, Some, None, if◌then◌else◌, refl, subst, arith}
use Rattle.csv.specs.Machine.{Read, ends_at_end, field_after, fields_after, is_end, next_record, step}
use Rattle.csv.specs.Reading.{default_config, reader_state, records_from, records_next}
use Rattle.csv.specs.declared.parser.Action.{Action}
use Rattle.csv.specs.declared.parser.Action.TheVariants as act
use Rattle.csv.specs.declared.parser.State.{State}
use Rattle.csv.specs.declared.parser.State.TheVariants as st
use Rattle.csv_ingest.specs.Reading.{TextReader, records_left}

after_count : (a : Action) (fields : List (List ℕ)) (field : List ℕ) → length (fields_after a fields field) ≤ length fields + 1
after_count act.EndField fields field = omega (arith, length-append fields (field ∷ []))
after_count act.EndRecord fields field = omega (arith, length-append fields (field ∷ []))
after_count act.Skip fields field = omega arith
after_count act.Copy fields field = omega arith

last_count : (b : Bool) (fields : List (List ℕ)) (field : List ℕ) (p : Read) → (if b then Some (fields ++ field ∷ [], st.StartRecord, []) else None) ≡ Some p → length p.0 ≤ length fields + 1
last_count true fields field p e =
    let same : (fields ++ field ∷ [], st.StartRecord, []) ≡ p = cc in
    subst (λ (q : Read). length q.0 ≤ length fields + 1) same (omega (arith, length-append fields (field ∷ [])))
last_count false fields field p e = absurd cc

one_count : (b : Bool) (a : Action) (s : State) (fields : List (List ℕ)) (field : List ℕ) (rest : List ℕ) (p : Read) (more : Option Read)
    → (if b then Some (fields_after a fields field, s, rest) else more) ≡ Some p → (more ≡ Some p → length p.0 ≤ length (fields_after a fields field) + length rest + 1)
    → length p.0 ≤ length fields + suc (length rest) + 1
one_count true a s fields field rest p more e so =
    let same : (fields_after a fields field, s, rest) ≡ p = cc in
    let at_most = after_count a fields field in
    subst (λ (q : Read). length q.0 ≤ length fields + suc (length rest) + 1) same (omega (arith, at_most))
one_count false a s fields field rest p more e so =
    let at_most = after_count a fields field in
    let left = so e in
    omega (arith, at_most, left)

count : (s : State) (fields : List (List ℕ)) (field : List ℕ) (text : List ℕ) (p : Read) → next_record default_config s fields field text ≡ Some p → length p.0 ≤ length fields + length text + 1
unfolding next_record
count s fields field [] p e = let at_most = last_count (ends_at_end s) fields field p e in omega (arith, at_most)
count s fields field (c ∷ rest) p e =
    one_count (is_end (step default_config s c).1) (step default_config s c).1 (step default_config s c).0 fields field rest p
    (next_record default_config (step default_config s c).0 (fields_after (step default_config s c).1 fields field) (field_after (step default_config s c).1 c field) rest) e
    (count (step default_config s c).0 (fields_after (step default_config s c).1 fields field) (field_after (step default_config s c).1 c field) rest p)

first_count : (rest : List ℕ) (fields : List (List ℕ)) (more : List (List (List ℕ))) (next : State → List ℕ → List (List (List ℕ))) (o : Option Read)
    → ((p : Read) → o ≡ Some p → length p.0 ≤ length rest + 1) → records_next next o ≡ fields ∷ more → length fields ≤ length rest + 1
first_count rest fields more next None so e = absurd cc
first_count rest fields more next (Some p) so e =
    let same : p.0 ≡ fields = cc in
    subst (λ fs. length fs ≤ length rest + 1) same (so p refl)

pub cells-count : (reader : TextReader) (rest : List ℕ) (fields : List (List ℕ)) (more : List (List (List ℕ))) → records_left 1 reader rest ≡ fields ∷ more → length fields ≤ length rest + 1
unfolding records_from
cells-count reader rest fields more e =
    first_count rest fields more (records_from default_config 0) (next_record default_config (reader_state reader) [] [] rest) (λ p so. let at_most = count (reader_state reader) [] [] rest p so in omega (arith, at_most)) e

-- the same of the first record of a text
pub first-count : (text : List ℕ) (fields : List (List ℕ)) (more : List (List (List ℕ))) → records_from default_config 1 st.StartRecord text ≡ fields ∷ more → length fields ≤ length text + 1
unfolding records_from
first-count text fields more e =
    first_count text fields more (records_from default_config 0) (next_record default_config st.StartRecord [] [] text) (λ p so. let at_most = count st.StartRecord [] [] text p so in omega (arith, at_most)) e
