-- What `generate` did, by what its commands did.
use Rattle.std.proofs.Common.{◌≡◌, ◌⊎◌, inl, inr, ℕ, List, [], ◌∷◌, Option, Some, None, Result, Ok, Err, IsErrAnd, refl, sym, ap, subst}
use Rattle.segment_file.specs.Names.{IsSegmentName}
use Rattle.command_words.specs.Command.{Ask, Build, Command, Create, GeneratedRows, GeneratedTexts}
use Rattle.command_words.specs.declared.about.About.TheVariants.{RowsAndPlans}
use Rattle.command_words.specs.declared.fault.Fault.TheVariants as fault
use Rattle.command_words.specs.declared.stop.Stop.{Stop}
use Rattle.command_words.specs.declared.stop.Stop.TheVariants as stop
use Rattle.command_model.specs.Generated.{generated_name, generated_text, scan_query, tree_query}
use Rattle.command_model.specs.Ran.{Ran}
use Rattle.command_model.specs.Through.{EndsAs, RanGenerate}
use Rattle.command_model.specs.World.{Devices}

-- the name of the segment is one
pub own_named : IsSegmentName generated_name
own_named = record { some = refl; at_most = refl; each = refl }

handed : (r : Result (List ℕ) Stop) (why : Stop) → IsErrAnd r (λ s. s ≡ why) → r ≡ Err why
handed (Ok text) why is = absurd is
handed (Err s) why is = ap Err is

module _ (rows : ℕ) (result : Result (List ℕ) Stop) (first one : Devices) where
  abbrev Creates : Devices → Devices → Result (List ℕ) Stop → Type 0
  Creates old new r = Ran (Some (Create (GeneratedTexts rows))) old new r

  abbrev Builds : Devices → Devices → Result (List ℕ) Stop → Type 0
  Builds old new r = Ran (Some (Build generated_name (GeneratedRows rows))) old new r

  abbrev Asks : List ℕ → Devices → Devices → Result (List ℕ) Stop → Type 0
  Asks sql old new r = Ran (Some (Ask RowsAndPlans sql)) old new r

  pub at_create : (why : Stop) → IsErrAnd result (λ s. s ≡ why) → Creates first one (Err why) → RanGenerate rows first one result
  at_create why is ran = record { texts = []; why = Some why; ran = inl (why, ran, refl, refl); ends = handed result why is }

  module _ (created : List ℕ) (makes : Creates first one (Ok created)) (two : Devices) where
    pub at_build : (why : Stop) → IsErrAnd result (λ s. s ≡ why) → Builds one two (Err why) → RanGenerate rows first two result
    at_build why is ran = record { texts = created ∷ []; why = Some why; ran = inr (created, one, [], makes, inl (why, ran, refl, refl), refl); ends = handed result why is }

    module _ (built : List ℕ) (builds : Builds one two (Ok built)) (three : Devices) where
      pub at_tree : (why : Stop) → IsErrAnd result (λ s. s ≡ why) → Asks tree_query two three (Err why) → RanGenerate rows first three result
      at_tree why is ran = record {
        texts = created ∷ built ∷ [];
        why = Some why;
        ran = inr (created, one, built ∷ [], makes, inr (built, two, [], builds, inl (why, ran, refl, refl), refl), refl);
        ends = handed result why is;
      }

      module _ (tree : List ℕ) (asks : Asks tree_query two three (Ok tree)) (four : Devices) where
        pub at_scan : (why : Stop) → IsErrAnd result (λ s. s ≡ why) → Asks scan_query three four (Err why) → RanGenerate rows first four result
        at_scan why is ran = record {
          texts = created ∷ built ∷ tree ∷ [];
          why = Some why;
          ran = inr (created, one, built ∷ tree ∷ [], makes, inr (built, two, tree ∷ [], builds, inr (tree, three, [], asks, inl (why, ran, refl, refl), refl), refl), refl);
          ends = handed result why is;
        }

        pub at_line : (scan : List ℕ) → Asks scan_query three four (Ok scan) → (result ≡ Ok (generated_text rows (created ∷ built ∷ tree ∷ scan ∷ []))) ⊎ (result ≡ Err (stop.Fault fault.Memory)) → RanGenerate rows first four result
        at_line scan last is = record {
          texts = created ∷ built ∷ tree ∷ scan ∷ [];
          why = None;
          ran = inr (created, one, built ∷ tree ∷ scan ∷ [], makes, inr (built, two, tree ∷ scan ∷ [], builds, inr (tree, three, scan ∷ [], asks, inr (scan, four, [], last, (refl, refl, refl), refl), refl), refl), refl);
          ends = is;
        }

-- there was no memory for the line
pub no_line : (r : Result (List ℕ) Stop) → IsErrAnd r (λ s. s ≡ stop.Fault fault.Memory) → r ≡ Err (stop.Fault fault.Memory)
no_line r is = handed r (stop.Fault fault.Memory) is
