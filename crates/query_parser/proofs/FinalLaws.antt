-- The tokens up to a fault decide that a text is no query.
use Rattle.std.proofs.Common.{◌≡◌, ◌||◌, ◌==◌, ◌≢◌, ℕ, zero, suc, ◌+◌, ◌-◌, ◌<◌, ◌≤◌, inl, inr, Bool, true, false, cond, [], ◌∷◌, length, take, drop, Ok, Err, refl, sym, ap, ◌∙◌, subst, arith}
use Rattle.std.proofs.lemmas.Bool.{false≢true}
use Rattle.query_tokens.specs.declared.fault.Reason.{Reason}
use Rattle.query_tokens.specs.declared.fault.Reason.TheVariants as reason
use Rattle.query_tokens.specs.declared.fault.QueryFault.{QueryFault}
use Rattle.query_tokens.specs.declared.fault.QueryFault.TheVariants.{At}
use Rattle.query_tokens.specs.declared.tree.Query.{Query}
use Rattle.query_tokens.specs.Lex.{Bytes, is_last, token}
use Rattle.query_tokens.specs.Stream.{Lexeme, Stream, lexeme, lexemes, tokens, first, kind, place}
use Rattle.query_parser.specs.Reading.{Outcome}
use Rattle.query_parser.specs.Query.{query, parsed, tree_or_fault}
use Rattle.query_parser.specs.SpellsQuery.{SpellsQuery}
use Rattle.query_parser.specs.Final.{wanted, FaultsAreFinal}
use Rattle.query_parser.proofs.Seen.{Agree, Past, Alike}
use Rattle.query_parser.proofs.SeenQuery.{query_local}
use Rattle.query_parser.proofs.AgainQuery.{query_again}

-- ---- the tokens of a text stand at growing places, and end with a last one

record Grows (at : ℕ) (ts : Stream) : Type 0 where
  some : 0 < length ts
  ends : (j : ℕ) → j < length ts → is_last (kind (drop j ts)) ≡ false → suc j < length ts
  above : (j : ℕ) → j < length ts → at ≤ place (drop j ts)
  rising : (i j : ℕ) → i < j → j < length ts → place (drop i ts) < place (drop j ts)

lone_ends : (t : Lexeme) (j : ℕ) → is_last t.kind ≡ true → j < length (t ∷ []) → is_last (kind (drop j (t ∷ []))) ≡ false → suc j < length (t ∷ [])
unfolding kind
lone_ends t zero last lt goes = absurd (false≢true (sym goes ∙ last))
lone_ends t (suc j) last lt goes = absurd (omega (arith, lt))

lone_above : (t : Lexeme) (j : ℕ) → j < length (t ∷ []) → t.at ≤ place (drop j (t ∷ []))
unfolding place
lone_above t zero lt = omega arith
lone_above t (suc j) lt = absurd (omega (arith, lt))

lone : (t : Lexeme) → is_last t.kind ≡ true → Grows t.at (t ∷ [])
lone t last = record {
  some = omega arith;
  ends = λ j. lone_ends t j last;
  above = λ j. lone_above t j;
  rising = λ i j lt within. absurd (omega (arith, lt, within));
}

module _ (t : Lexeme) (ts : Stream) (rest : Grows (t.at + 1) ts) where
  front_ends : (j : ℕ) → j < length (t ∷ ts) → is_last (kind (drop j (t ∷ ts))) ≡ false → suc j < length (t ∷ ts)
  front_ends zero lt goes = omega (arith, rest.some)
  front_ends (suc j) lt goes = let r = rest.ends j (omega (arith, lt)) goes in omega (arith, r)

  front_above : (j : ℕ) → j < length (t ∷ ts) → t.at ≤ place (drop j (t ∷ ts))
  unfolding place
  front_above zero lt = omega arith
  front_above (suc j) lt = let r = rest.above j (omega (arith, lt)) in omega (arith, r)

  front_rising : (i j : ℕ) → i < j → j < length (t ∷ ts) → place (drop i (t ∷ ts)) < place (drop j (t ∷ ts))
  unfolding place
  front_rising i zero lt within = absurd (omega (arith, lt))
  front_rising zero (suc j) lt within = let r = rest.above j (omega (arith, within)) in omega (arith, r)
  front_rising (suc i) (suc j) lt within = rest.rising i j (omega (arith, lt)) (omega (arith, within))

  front : Grows t.at (t ∷ ts)
  front = record { some = omega arith; ends = front_ends; above = front_above; rising = front_rising }

lower : (at : ℕ) (ts : Stream) → Grows (at + 1) ts → Grows at ts
lower at ts g = record { some = g.some; ends = g.ends; above = λ j lt. (let r = g.above j lt in omega (arith, r)); rising = g.rising }

grow_by : (b last : Bool) (t : Lexeme) (blank rest : Stream) → is_last t.kind ≡ last → Grows (t.at + 1) blank → Grows (t.at + 1) rest → Grows t.at (cond b blank (t ∷ cond last [] rest))
grow_by true last t blank rest is own other = lower t.at blank own
grow_by false true t blank rest is own other = lone t is
grow_by false false t blank rest is own other = front t rest other

grows : (left : ℕ) (z : Bytes) (at : ℕ) → Grows at (lexemes left z at)
unfolding lexemes token is_last
grows left [] at = lone (lexeme (token []) [] at) refl
grows (suc left) (b ∷ z) at = lower at (lexemes left z (at + 1)) (grows left z (at + 1))
grows zero (b ∷ z) at =
    let t = token (b ∷ z) in
    grow_by (b == 32 || b == 9 || b == 13 || b == 10) (is_last t.kind) (lexeme t (b ∷ z) at) (lexemes 0 z (at + 1)) (lexemes (t.len - 1) z (at + 1)) refl (grows 0 z (at + 1)) (grows (t.len - 1) z (at + 1))

-- ---- the law

firsts : (j n : ℕ) (ts : Stream) → j < n → first (drop j (take n ts)) ≡ first (drop j ts)
firsts j zero ts lt = absurd (omega (arith, lt))
firsts zero (suc n) [] lt = refl
firsts zero (suc n) (t ∷ ts) lt = refl
firsts (suc j) (suc n) [] lt = refl
firsts (suc j) (suc n) (t ∷ ts) lt = firsts j n ts (omega (arith, lt))

fault_by : (o : Outcome Query) (e : QueryFault) → tree_or_fault o ≡ Err e → o ≡ Err e
fault_by (Ok p) e is = absurd (cc)
fault_by (Err f) e is = let same : f ≡ e = cc in ap Err same

failed : (text : Bytes) (e : QueryFault) → parsed text ≡ Err e → query (tokens text) ≡ Err e
unfolding parsed
failed text e is = fault_by (query (tokens text)) e is

module _ (text other : Bytes) (r : Reason) (at i : ℕ) (is : parsed text ≡ Err (At r at)) (shallow : r ≢ reason.TooDeep)
    (inside : i < length (tokens text)) (place_is : place (drop i (tokens text)) ≡ at)
    (same : take (i + wanted r + 1) (tokens text) ≡ take (i + wanted r + 1) (tokens other)) (q : Query) (spelled : SpellsQuery (tokens other) q) where
  abbrev A : Stream
  A = tokens text

  abbrev B : Stream
  B = tokens other

  abbrev n : ℕ
  n = i + wanted r + 1

  own : Grows 0 A
  own = grows 0 text 0

  agree : Agree A B n
  agree = record {
    same = λ j lt. sym (firsts j n A lt) ∙ ap (λ ts. first (drop j ts)) same ∙ firsts j n B lt;
    ends = own.ends;
  }

  by_outcome : (o u : Outcome Query) → o ≡ Err (At r at) → (us : Stream) → u ≡ Ok (q, us) → Alike A B n agree o u → ⊥
  by_outcome o u e us f (inl w) = let goes = sym e ∙ w.one in cc
  by_outcome o u e us f (inr (inl w)) = let goes = sym f ∙ w.other in cc
  by_outcome o u e us f (inr (inr past)) = elim (subst (Past A B n agree) e past) [
    | inl deep ↦ shallow deep
    | inr p ↦ (let up = own.rising i p.0 (omega (arith, p.3)) p.1 in omega (arith, up, p.2, place_is))
  ]

  pub no_query : ⊥
  no_query =
      let read = query_again (tokens other) q spelled in
      by_outcome (query A) (query B) (failed text (At r at) is) read.0 read.1 ((((query_local A B n agree).from 0 own.some).shared (omega arith)))

pub faults_final : FaultsAreFinal
faults_final = λ text other r at i is shallow inside place_is same q spelled. no_query text other r at i is shallow inside place_is same q spelled
