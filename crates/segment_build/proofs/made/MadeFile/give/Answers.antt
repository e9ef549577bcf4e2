use Rattle.std.proofs.Common.{◌≡◌, ◌∙◌, ◌++◌, ◌∷◌, [], ℕ, List, Ok, Err, length, sym, subst, ap, append_assoc, append-nil, arith}
use Rattle.std.proofs.lemmas.List.{map-append}
use Rattle.std.proofs.lemmas.List.Folds.{concat-append}
use Rattle.std.specs.List.{concat}
use Rattle.std.specs.Vec.Iter.{into_iter_items}
use Rattle.outside.specs.Seen.{Seen, seen}
use Rattle.segment_build.specs.declared.section.MadeSection.{MadeSection}
use Rattle.segment_build.specs.Made.{each_bytes, section_bytes}
use Rattle.segment_build.proofs.made.MadeFile.give.Goals as goal

-- one more section
one_more : (front section : List ℕ) (done : List (List ℕ)) → (front ++ concat done) ++ section ≡ front ++ concat (done ++ section ∷ [])
one_more front section done =
    append_assoc front (concat done) section
    ∙ ap (λ x. front ++ x) (ap (λ x. concat done ++ x) (sym (append-nil section)) ∙ sym (concat-append done (section ∷ [])))

-- one more section of those that were taken
next_bytes : (done : List MadeSection) (s : MadeSection) → each_bytes done ++ section_bytes s ∷ [] ≡ each_bytes (done ++ s ∷ [])
next_bytes done s = sym (map-append section_bytes done (s ∷ []))

-- the bytes of a section, and those before it and after it
these_bytes : (done rest all : List MadeSection) (s : MadeSection) → done ++ (s ∷ rest) ≡ all
    → each_bytes done ++ (section_bytes s ∷ each_bytes rest) ≡ each_bytes all
these_bytes done rest all s e = sym (map-append section_bytes done (s ∷ rest)) ∙ ap each_bytes e

-- a section, and those before it and after it
all_parts : (front section : List ℕ) (done rest all : List (List ℕ)) → done ++ (section ∷ rest) ≡ all → ((front ++ concat done) ++ section) ++ concat rest ≡ front ++ concat all
all_parts front section done rest all e =
    append_assoc (front ++ concat done) section (concat rest) ∙ append_assoc front (concat done) (section ++ concat rest)
    ∙ ap (λ x. front ++ x) (sym (concat-append done (section ∷ rest)) ∙ ap concat e)

pub loop-section-preserved-in_default-give : goal.loop-section-preserved-in_default-give
loop-section-preserved-in_default-give g c =
    let at = c.loop-section in
    let old : Seen = seen g.S.Shelf c.args.shelf.now in
    let mid : Seen = seen g.S.Shelf at.shelf in
    let now : Seen = seen g.S.Shelf c.give.new.shelf in
    let front : List ℕ = c.args.self.front.items in
    let one : MadeSection = c.in-Some.section in
    let section : List ℕ = section_bytes one in
    let done : List (List ℕ) = each_bytes at.yielded in
    let steps : into_iter_items at.section-iterator ≡ one ∷ into_iter_items c.next.new.self = c.in-Some.ensures.steps.0 in
    record {
      rest = append_assoc at.yielded (one ∷ []) _ ∙ rw (← steps) at.invariant.rest;
      taken = subst (λ b. g.T.Taker.takes b (Ok tt) c.args.taker.now old c.give.new.taker now) (one_more front section done ∙ ap (λ x. front ++ concat x) (next_bytes at.yielded one))
          (g.met.T.Taker.joins (front ++ concat done) section (Ok tt) c.args.taker.now at.taker c.give.new.taker old mid now at.invariant.taken c.in_default-give.ensures);
      size =
          let was = at.invariant.size in
          let gone = c.in-Some.ensures.steps.1 in
          let short = ap length steps in
          omega arith;
    }

pub loop-section-preserved : goal.loop-section-preserved
loop-section-preserved g c =
    let at = c.loop-section in
    let old : Seen = seen g.S.Shelf c.args.shelf.now in
    let mid : Seen = seen g.S.Shelf at.shelf in
    let now : Seen = seen g.S.Shelf c.give.new.shelf in
    let front : List ℕ = c.args.self.front.items in
    let one : MadeSection = c.in-Some.section in
    let section : List ℕ = section_bytes one in
    let done : List (List ℕ) = each_bytes at.yielded in
    let steps : into_iter_items at.section-iterator ≡ one ∷ into_iter_items c.next.new.self = c.in-Some.ensures.steps.0 in
    record {
      rest = append_assoc at.yielded (one ∷ []) _ ∙ rw (← steps) at.invariant.rest;
      taken = subst (λ b. g.T.Taker.takes b (Ok tt) c.args.taker.now old c.give.new.taker now) (one_more front section done ∙ ap (λ x. front ++ concat x) (next_bytes at.yielded one))
          (g.met.T.Taker.joins (front ++ concat done) section (Ok tt) c.args.taker.now at.taker c.give.new.taker old mid now at.invariant.taken c.in_default-give.ensures);
      size =
          let was = at.invariant.size in
          let gone = c.in-Some.ensures.steps.1 in
          let short = ap length steps in
          omega arith;
    }

pub returns-in-Err-give : goal.returns-in-Err-give
returns-in-Err-give g c =
    let at = c.loop-section in
    let old : Seen = seen g.S.Shelf c.args.shelf.now in
    let mid : Seen = seen g.S.Shelf at.shelf in
    let now : Seen = seen g.S.Shelf c.give.new.shelf in
    let front : List ℕ = c.args.self.front.items in
    let one : MadeSection = c.in-Some.section in
    let section : List ℕ = section_bytes one in
    let done : List (List ℕ) = each_bytes at.yielded in
    let fault = c.in-Err-give.fault in
    let after = c.give.new.taker in
    let rest : List MadeSection = into_iter_items c.next.new.self in
    let steps : into_iter_items at.section-iterator ≡ one ∷ rest = c.in-Some.ensures.steps.0 in
    let gives : into_iter_items c.into_iter-section-iterator.result ≡ c.args.self.sections.items = c.into_iter-section-iterator.ensures.into_iter_gives.0 in
    let all : at.yielded ++ (one ∷ rest) ≡ c.args.self.sections.items = ap (λ l. at.yielded ++ l) (sym steps) ∙ at.invariant.rest ∙ gives in
    subst (λ b. g.T.Taker.takes b (Err fault) c.args.taker.now old after now) (all_parts front section done (each_bytes rest) (each_bytes c.args.self.sections.items) (these_bytes at.yielded rest c.args.self.sections.items one all))
    (g.met.T.Taker.stops ((front ++ concat done) ++ section) (concat (each_bytes rest)) fault c.args.taker.now after old now
    (g.met.T.Taker.joins (front ++ concat done) section (Err fault) c.args.taker.now at.taker after old mid now at.invariant.taken c.in-Err-give.ensures))
