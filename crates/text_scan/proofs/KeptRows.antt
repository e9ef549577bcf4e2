-- Rows of which some columns are kept agree with those that were read.
use Rattle.std.proofs.Common.{◌≡◌, ◌∙◌, ◌<◌, ℕ, zero, suc, pos, Bool, true, List, [], ◌∷◌, length, get_or, replicate, refl, sym, ap, subst, arith}
use Rattle.values.specs.Columns.{Listed, ListedColumns, fronted, rows_in_columns, rows_of}
use Rattle.values.specs.declared.value.Value.{Value}
use Rattle.table_schema.specs.Conditions.{cell}
use Rattle.csv_ingest.specs.Kept.{AreKept}
use Rattle.text_scan.specs.Named.{Agree, AgreeAll, is_marked}
use Rattle.text_scan.proofs.NamedLemmas.{agreeing-same}

no-column : Listed
no-column = record { are_texts = true; values = [] }

fronted-agree : (named : ℕ → Bool) (vs ws : List Value) (rows others : List (List Value)) → length vs ≡ length ws → (named 0 ≡ true → vs ≡ ws) → AgreeAll (λ i. named (suc i)) rows others → AgreeAll named (fronted vs rows) (fronted ws others)
fronted-agree named [] [] rows others long same zip = tt
fronted-agree named [] (w ∷ ws) rows others long same zip = absurd (omega (arith, long))
fronted-agree named (v ∷ vs) [] rows others long same zip = absurd (omega (arith, long))
fronted-agree named (v ∷ vs) (w ∷ ws) [] [] long same zip = tt
fronted-agree named (v ∷ vs) (w ∷ ws) [] (o ∷ os) long same zip = absurd zip
fronted-agree named (v ∷ vs) (w ∷ ws) (r ∷ rs) [] long same zip = absurd zip
fronted-agree named (v ∷ vs) (w ∷ ws) (r ∷ rs) (o ∷ os) long same zip =
    (agree, fronted-agree named vs ws rs os (omega (arith, long)) (λ is. let e = same is in cc) zip.1)
  where
    agree : Agree named (v ∷ r) (w ∷ o)
    agree zero is = let e = same is in cc
    agree (suc column) is = zip.0 column is

columns-agree : (named : ℕ → Bool) (count : ℕ) (read columns : List Listed) → length columns ≡ length read → ((i : ℕ) (d : Listed) → named i ≡ true → get_or columns i d ≡ get_or read i d)
    → ((i : ℕ) (d : Listed) → length (get_or columns i d).values ≡ length (get_or read i d).values) → AgreeAll named (rows_in_columns count read) (rows_in_columns count columns)
columns-agree named count [] [] wide each counts = agreeing-same named (replicate count [])
columns-agree named count [] (c ∷ cs) wide each counts = absurd (omega (arith, wide))
columns-agree named count (r ∷ rs) [] wide each counts = absurd (omega (arith, wide))
columns-agree named count (r ∷ rs) (c ∷ cs) wide each counts =
    fronted-agree named r.values c.values (rows_in_columns count rs) (rows_in_columns count cs) (sym (counts 0 no-column)) (λ is. ap (λ x. x.values) (sym (each 0 no-column is)))
    (columns-agree (λ i. named (suc i)) count rs cs (omega (arith, wide)) (λ i d is. each (suc i) d is) (λ i d. counts (suc i) d))

-- the rows of a block
pub kept-agree : (marks : List Bool) (read columns : ListedColumns) → AreKept marks read columns → AgreeAll (is_marked marks) (rows_of read) (rows_of columns)
kept-agree marks read columns k =
    subst (λ n. AgreeAll (is_marked marks) (rows_of read) (rows_in_columns n columns.columns)) (sym k.count)
    (columns-agree (is_marked marks) read.count read.columns columns.columns k.same.width k.same.each k.same.counts)
